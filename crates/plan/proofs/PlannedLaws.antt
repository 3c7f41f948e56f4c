-- A plan that is right at its edges is right at every word of the pool.
use Prim.Native.Nat.{ℕ, ◌+◌, ◌*◌, ◌-◌, ◌/◌, ◌%◌, ◌≤◌, ◌<◌}
use mathlib.Core.Path.{◌≡◌, refl, sym, ap, ◌∙◌}
use mathlib.Core.Logic.{◌≢◌, ◌⊎◌, inl, inr, ⊎_elim}
use mathlib.Core.Bool.{Bool, true, false, not, true≢false}
use mathlib.Core.List.{List}
use native.Mathlib.Omega.{arith}
use native.Mathlib.Decide.{dec_lt}
use lib.Dec.{leb, ltb}
use lib.ListN.{length}
use borrow.Author.Tests.{leb-true, ltb-true, le-leb, lt-ltb}
use Rattle.theory.specs.Pool.{words}
use Rattle.theory.specs.Settled.{Settled}
use Rattle.theory.proofs.Logic.{by_cases, and_both}
use Rattle.table.specs.declared.Shape.{Shape}
use Rattle.table.specs.Shape.{Fits, pool_length}
use Rattle.table.specs.Map.{zone, form_of}
use Rattle.places.specs.Count.{heights, blocks, domain_of}
use Rattle.places.specs.Final.{old, AllOwned, table_word, final, kept_word}
use Rattle.places.proofs.FinalWordLaws.{InPlace, which_word, in_place, final_root, final_place, final_past, place_idle}
use Rattle.places.proofs.FinalWordLaws.{kept_root, kept_place}
use Rattle.places.proofs.FinalLaws.{final_finished}
use Rattle.places.proofs.TellsLaws.{final_tells}
use Rattle.targets.specs.declared.Paint.{Paint}
use Rattle.plan.specs.declared.Edge.{Edge}
use Rattle.plan.specs.Plan.{Plan, edge_of, InTable, of_table, of_new, entry_after, after, new_word}
use Rattle.plan.specs.Aims.{aim_of, aimed_at}
use Rattle.plan.specs.Planning.{Regular, end_of}
use Rattle.plan.specs.Goals.{Planned}
use Rattle.plan.specs.Edges.{EdgeIs, Edges}
use Rattle.plan.proofs.Setting.{Setting}
use Rattle.plan.proofs.MeetLaws.{RightsStay, end_below, other_stays, meeting}
use Rattle.plan.proofs.WantedLaws.{stays_want, plain_want, only_edges_fresh}
use Rattle.plan.proofs.SettingLaws.{aims_rights}
use Rattle.plan.proofs.StayWordLaws.{root_stays, table_stays}
use Rattle.plan.proofs.EdgeLaws.{in_range_lem, edge_old, table_place, place_table}
use Rattle.plan.proofs.AfterLaws.{after_any, new_in, in_new, new_any}
use Rattle.plan.proofs.EdgeWordLaws.{settle, owned_word, entry_at, table_word_lem}

module _ {s : Shape} {d : ℕ} {paint : Paint} {P : ℕ → ℕ} {owner : ℕ → ℕ → ℕ} {free : ℕ → ℕ → Bool}
    (c : Setting s d paint P owner free)
    (q : Plan) (E : Edges s d paint P owner q) where
  abbrev D : ℕ
  D = s.domains

  abbrev T : ℕ → ℕ → ℕ
  T = aimed_at s (aim_of d paint) P

  abbrev Q : ℕ → ℕ
  Q = final s owner T P

  edge_is : (h : ℕ) → h < heights → (b : Bool) → EdgeIs s d paint P owner h (end_of h paint b) (edge_of q h b)
  edge_is h hi true = (E.ends h hi).first
  edge_is h hi false = (E.ends h hi).last

  below : (h : ℕ) → h < heights → (b : Bool) → end_of h paint b < blocks h
  below = end_below paint c.regular

  -- A root word of the domain of the change.
  root_word : (k n x : ℕ) → k ≡ 1024 * d + n → n < 1024 → (x ≡ P k) ⊎ (x ≡ Q k) → entry_after q 2 n x ≡ Q k
  root_word k n x e bn v =
      let bk : k < 1024 * D = let z = c.domain in omega arith in
      let is = final_root s owner T P k bk in
      let y : domain_of 1 k ≡ d = omega arith in
      let z : k % 1024 ≡ n = omega arith in
      entry_at c q E 1 k n (omega arith) bk y z x (λ st. settle (is ∙ root_stays c k bk st) v ∙ is) ∙ sym is

  -- A word of a place that no edge's block owns is what it was.
  place_stays : (k h p j : ℕ) → InPlace s k h p j → owner h p < blocks h * D → RightsStay s d paint P h (owner h p)
      → table_word s owner T P h (owner h p) j ≡ P k
  place_stays k h p j ip bo st = table_stays c k h p j ip bo
      (sym (stays_want s d paint P h (owner h p) ip.0 bo c.settled st)
      ∙ (c.placed h ip.0).held.only p ip.1 bo) st

  module _ (k h p j : ℕ) (ip : InPlace s k h p j) where
    in_edge : (b : Bool) → owner h p ≡ blocks h * d + end_of h paint b → of_table h (edge_of q h b) k ≡ true
    in_edge b o = place_table c h (end_of h paint b) ip.0 (below h ip.0 b) (edge_of q h b)
        (edge_is h ip.0 b) k p j ip o

    idle_word : blocks h * D ≤ owner h p → Q k ≡ P k
    idle_word b = final_place s owner T P k h p j ip ∙ place_idle s owner T P h k p j b

    other_place : ((b : Bool) → of_table h (edge_of q h b) k ≡ false) → Q k ≡ P k
    other_place out = elim (dec_lt (owner h p) (blocks h * D)) [
      | no b ↦ idle_word (omega arith)
      | yes b ↦ ⊎_elim
          (λ st. owned_word c k h p j ip b ∙ place_stays k h p j ip b st)
          (⊎_elim
          (λ pl. absurd (true≢false (sym ((c.placed h ip.0).held.only p ip.1 b) ∙ plain_want s d paint P h
          (owner h p) ip.0 b paint.right pl)))
          (λ (b, o). absurd (true≢false (sym (in_edge b o) ∙ out b))))
          (meeting s d paint P h (owner h p) ip.0)
    ]

  -- A root word of another domain.
  other_root : (k : ℕ) → k < 1024 * D → InTable (1024 * q.domain) 1024 k ≡ false → Q k ≡ P k
  other_root k bk t = final_root s owner T P k bk
      ∙ root_stays c k bk (other_stays s d paint P 1 k (λ e. true≢false (sym (inside e) ∙ t)))
    where
      inside : k / 1024 ≡ d → InTable (1024 * q.domain) 1024 k ≡ true
      inside e =
          let z = E.for_domain in
          rw (le-leb (1024 * q.domain) k (omega arith), lt-ltb k (1024 * q.domain + 1024) (omega arith)) refl

  own_root : (k x : ℕ) → InTable (1024 * q.domain) 1024 k ≡ true → (x ≡ P k) ⊎ (x ≡ Q k)
      → entry_after q 2 (k - 1024 * q.domain) x ≡ Q k
  own_root k x t v =
      let (a, b) = and_both (leb (1024 * q.domain) k) (ltb k (1024 * q.domain + 1024)) t in
      let lo = leb-true (1024 * q.domain) k a in
      let up = ltb-true k (1024 * q.domain + 1024) b in
      let z = E.for_domain in
      root_word k (k - 1024 * q.domain) x (omega arith) (omega arith) v

  -- From the old content of a word, and from the finished one, the plan gives the finished one.
  pub planned_word : (k x : ℕ) → k < pool_length s → (x ≡ P k) ⊎ (x ≡ Q k) → after q k x ≡ Q k
  planned_word k x bk v = after_any q k x (Q k)
      (λ t. own_root k x t v)
      (λ h hi b t. table_word_lem c q E h (end_of h paint b) hi (below h hi b) (edge_of q h b) (edge_is h hi b) k x t v)
      (λ r out. settle (⊎_elim
      (λ b. other_root k b r)
      (⊎_elim (λ (h, p, j, ip). other_place k h p j ip (out h ip.0)) (λ b. absurd (omega arith)))
      (which_word s k)) v)

  -- New words.

  abbrev kept : ℕ → Bool
  kept = kept_word s free

  -- What the plan takes for new is not kept ..
  new_free : (h n : ℕ) → h < 2 → n < blocks h → (e : Edge) → EdgeIs s d paint P owner h n e → (k : ℕ)
      → of_new h e k ≡ true
      → true ≡ not (kept k)
  new_free h n hi bn e I k x =
      let (t, l) = new_in h e k x in
      let (p, ip, o) = table_place c h n hi bn e I k t in
      let bo : owner h p < blocks h * D = rw o (in_range_lem c h n hi bn) in
      let f = ((c.placed h hi).held.rank p ip.1 bo (ap (old P h) o ∙ sym (edge_old c h n hi bn e I) ∙ l)).0 in
      sym (ap not (kept_place s free k h p (k - e.last) ip ∙ ap not f))

  -- .. and what differs and is not kept it takes for new.
  new_known : (k h p j : ℕ) → InPlace s k h p j → Q k ≢ P k → ((b : Bool) → of_new h (edge_of q h b) k ≡ false)
      → false ≡ not (kept k)
  new_known k h p j ip ne out = elim (dec_lt (owner h p) (blocks h * D)) [
    | no b ↦ absurd (ne (idle_word k h p j ip (omega arith)))
    | yes b ↦ by_cases (old P h (owner h p))
        (λ o. sym (ap not (kept_place s free k h p j ip
        ∙ ap not ((c.placed h ip.0).held.kept p ip.1 b o).0)))
        (λ o. fresh o (only_edges_fresh s d paint P h (owner h p) ip.0 b c.settled
        ((c.placed h ip.0).held.only p ip.1 b) o))
  ]
    where
      fresh : old P h (owner h p) ≡ false → (b : Bool) × (owner h p ≡ blocks h * d + end_of h paint b)
          → false ≡ not (kept k)
      fresh o (b, z) = absurd (true≢false (sym (in_new h (edge_of q h b) k (in_edge k h p j ip b z)
          (edge_old c h (end_of h paint b) ip.0 (below h ip.0 b) (edge_of q h b) (edge_is h ip.0 b)
          ∙ ap (old P h) (sym z) ∙ o)) ∙ out b))

  pub planned_new : (k : ℕ) → k < pool_length s → Q k ≢ P k → new_word q k ≡ not (kept k)
  planned_new k bk ne = new_any q k
      (λ h hi b t. new_free h (end_of h paint b) hi (below h hi b) (edge_of q h b) (edge_is h hi b) k t)
      (λ out. ⊎_elim
      (λ b. sym (ap not (kept_root s free k b)))
      (⊎_elim (λ (h, p, j, ip). new_known k h p j ip ne (out h ip.0)) (λ b. absurd (omega arith)))
      (which_word s k))

  pub planned_lies : (h k : ℕ) → h < heights → (b : Bool) → of_table h (edge_of q h b) k ≡ true → zone s k ≡ h
  planned_lies h k hi b t =
      let (p, ip, _) = table_place c h (end_of h paint b) hi (below h hi b) (edge_of q h b) (edge_is h hi b) k t in
      (in_place s k h p (k - (edge_of q h b).last) ip).1

pub planned : (s : Shape) (d : ℕ) (paint : Paint) (p : List ℕ) → Fits s (length p) → Settled (form_of s) (words p)
    → ((k : ℕ) → words p k < 4294967296) → d < s.domains → Regular paint
    → {owner : ℕ → ℕ → ℕ} (free : ℕ → ℕ → Bool)
    → AllOwned s (aimed_at s (aim_of d paint) (words p)) (words p) free owner
    → (q : Plan) → Edges s d paint (words p) owner q
    → Planned s (aim_of d paint) q p (final s owner (aimed_at s (aim_of d paint) (words p)) (words p)) (kept_word s free)
planned s d paint p fits st small bd reg {owner} free O q E =
    let c : Setting s d paint (words p) owner free =
    record { range = fits.range; settled = st; domain = bd; regular = reg; placed = O } in
    record {
      aim = rw (E.for_domain, E.for_paint) refl;
      goal = record {
        sound = st.sound;
        finished = final_finished s fits.range (λ e be. aims_rights c e) st.sound owner free O (λ j. refl);
        tells = final_tells s fits.range (λ e be. aims_rights c e) st.sound owner free O (λ j. refl);
        beyond = λ k b. final_past s owner (aimed_at s (aim_of d paint) (words p)) (words p) k (rw fits.long at b);
      };
      final = λ k b. planned_word c q E k (words p k) (rw fits.long at b) (inl refl);
      still = λ k b. planned_word c q E k _ (rw fits.long at b) (inr refl);
      new = λ k b ne. planned_new c q E k (rw fits.long at b) ne;
      lies = planned_lies c q E;
      small = small;
    }
