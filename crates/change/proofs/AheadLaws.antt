-- Words outside the rows that a plan changes stay as they are.
use Prim.Native.Nat.{ℕ, zero, suc, ◌+◌, ◌*◌, ◌-◌, ◌/◌, ◌%◌, ◌<◌, ◌≤◌}
use mathlib.Core.Path.{◌≡◌, refl, sym, ap, ◌∙◌}
use mathlib.Core.Logic.{◌≢◌, ◌⊎◌, inl, inr, ⊎_elim}
use mathlib.Core.List.{List}
use mathlib.Core.Bool.{Bool, true, false, not, cond, ◌&&◌, ◌||◌, false≢true}
use native.Mathlib.Omega.{arith}
use native.Mathlib.Decide.{ℕ_discrete, dec_lt}
use lib.Dec.{eqb, ltb}
use borrow.Author.Tests.{le-ltb, eq-eqb, ne_eqb, eqb-true, eqb-false, not-true, not-false}
use lib.ListN.{length}
use Rattle.theory.specs.Pool.{words}
use Rattle.theory.proofs.Logic.{by_cases}
use Rattle.words.specs.Rights.{right_at, good_rights}
use Rattle.words.proofs.RightsLaws.{good_range, good_small}
use Rattle.table.specs.declared.Shape.{Shape}
use Rattle.table.specs.Shape.{Fits, size}
use Rattle.table.specs.Map.{block, leads, zone}
use Rattle.places.specs.Count.{heights}
use Rattle.places.proofs.HeightLaws.{each_height}
use Rattle.targets.specs.Steps.{inside}
use Rattle.targets.proofs.EntryLaws.{leads_high}
use Rattle.targets.proofs.PaintLaws.{inside_low, inside_high, said_after, after_apart}
use Rattle.plan.specs.Plan.{Plan, ends_of, edge_of, of_table, of_new, entry_after, new_word, PlanFits}
use Rattle.plan.specs.Goals.{Planned}
use Rattle.plan.specs.Aims.{Aim}
use Rattle.plan.proofs.DraftLaws.{words_bytes}
use Rattle.plan.proofs.AfterLaws.{each_end, after_any, in_new, new_any}
use Rattle.change.specs.Runs.{phases, At}
use Rattle.change.specs.declared.ahead.Span.{Span}
use Rattle.change.specs.Ahead.{Ahead, Outside, Untouched, EntriesIdle, TableIdle, HighIdle, LowIdle, NotNew}
use Rattle.change.specs.Ahead.{NewIdle, InLeaf, Idle, EntriesBefore, PlainWords}
use Rattle.change.proofs.TableLaws.{in_within, edges_order}
use Rattle.change.proofs.StateLaws.{at_pass}

-- What is passed may be known in other words.
pub ahead_as : {k : ℕ} {best r : Span} {A B : ℕ → Type 0} → Ahead k best A r → ((j : ℕ) → A j → B j) → Ahead k best B r
ahead_as a f = record { from = a.from; upto = a.upto; some = a.some; passed = λ j lo hi. f j (a.passed j lo hi) }

-- One more table was looked at.
pub ahead_both : {k : ℕ} {best mid r : Span} {A B : ℕ → Type 0} → Ahead k best A mid → Ahead k mid B r
    → Ahead k best (λ j. A j × B j) r
ahead_both {best = best} {r = r} a b =
    let u = a.upto in
    let v = b.upto in
    record {
      from = b.from;
      upto = omega arith;
      some = ⊎_elim inl (λ e. ⊎_elim (λ h. inl (rw e h)) (λ f. inr (e ∙ f)) a.some) b.some;
      passed = λ j lo hi. (a.passed j lo (omega arith), b.passed j lo hi);
    }

-- Before the first or past the last of a row, neither test of it holds.
module _ (i f l : ℕ) (fl : f ≤ l) (out : (i < f) ⊎ (l < i)) where
  not_first : eqb i f ≡ false
  not_first = ne_eqb i f (⊎_elim (λ h e. omega arith) (λ h e. omega arith) out)

  not_last : eqb i l ≡ false
  not_last = ne_eqb i l (⊎_elim (λ h e. omega arith) (λ h e. omega arith) out)

  not_between : (ltb f i && ltb i l) ≡ false
  not_between = ⊎_elim (λ h. rw (le-ltb f i (omega arith)) refl) (λ h. rw (le-ltb i l (omega arith)) (none (ltb f i)))
      out
    where
      none : (b : Bool) → (b && false) ≡ false
      none true = refl
      none false = refl

-- An entry that the region does not meet stays as it is.
module _ (q : Plan) (r : PlanFits q) where
  -- The first and the last entry of a height that it meets.
  abbrev met : ℕ → ℕ
  met h = q.paint.lo / (block h / 4)

  abbrev last_met : ℕ → ℕ
  last_met h = (q.paint.hi - 1) / (block h / 4)

  leaf_idle : (i x : ℕ) → (i < met 0) ⊎ (last_met 0 < i) → x < 4294967296 → entry_after q 0 i x ≡ x
  leaf_idle i x out small =
      said_after q.paint x i (λ a. right_at x (a / 4 % 16)) (λ b e. refl)
      ∙ sym (after_apart q.paint x (i * 16) small apart)
    where
      apart : (j : ℕ) → j < 16 → inside q.paint (i * 16 + j) ≡ false
      apart j b = ⊎_elim (λ e. inside_low q.paint (i * 16 + j) (omega arith))
          (λ e. inside_high q.paint (i * 16 + j) (let z = r.region.some in omega arith)) out

  entry_idle : (h i x : ℕ) → h ≤ 2 → (i < met h) ⊎ (last_met h < i) → x < 4294967296 → entry_after q h i x ≡ x
  entry_idle zero i x hi out small = leaf_idle i x out small
  entry_idle (suc h) i x hi out small =
      let (e, f) = words_bytes q.paint r.region h hi in
      let le = edges_order q r h hi in
      let away : (i < (ends_of q h).first.number) ⊎ ((ends_of q h).last.number < i) =
      ⊎_elim (λ z. inl (rw (r.first h hi, e) z)) (λ z. inr (rw (r.last h hi, f) z)) out in
      rw (not_first i _ _ le away, not_last i _ _ le away, not_between i _ _ le away) refl

  pub entries_outside : (h n t first past j : ℕ) → h ≤ 2 → EntriesBefore (size h) n (met h) first
      → EntriesBefore (size h) n (last_met h + 1) past
      → Outside (t + first) (t + past) j → EntriesIdle q h n t j
  entries_outside h n t first past j hi a b o e x small =
      let (lo, up) = in_within t (size h) j e in
      entry_idle h (n + (j - t)) x hi (side lo up) small
    where
      side : t ≤ j → j < t + size h → (n + (j - t) < met h) ⊎ (last_met h < n + (j - t))
      side lo up = elim (dec_lt (j - t) first) [
        | yes g ↦ inl (a.before (j - t) g)
        | no g ↦ elim (dec_lt (j - t) past) [
          | yes f ↦ absurd (o (omega arith) (omega arith))
          | no f ↦ inr (let w = b.after_them (j - t) (omega arith) (omega arith) in omega arith)
        ]
      ]

module _ (q : Plan) (j : ℕ) where
  -- A word of an edge's table that stays is untouched where the table is idle there; of another, it is new.
  abbrev Kept : Type 0
  Kept = Untouched q j ⊎ (new_word q j ≡ true)

  makes_new : (h : ℕ) → h < heights → (b : Bool) → of_new h (edge_of q h b) j ≡ true → new_word q j ≡ true
  makes_new h hi b t = new_any q j (λ g gi c u. refl) (λ out. absurd (false≢true (sym (out h hi b) ∙ t)))

  -- Where the word is not new, all tables that it is of stay.
  stays : new_word q j ≡ false → (h : ℕ) → h < heights → (b : Bool) → of_table h (edge_of q h b) j ≡ true
      → leads (suc h) (edge_of q h b).old ≡ true
  stays n h hi b t = by_cases (leads (suc h) (edge_of q h b).old) (λ l. l)
      (λ l. absurd (false≢true (sym n ∙ makes_new h hi b (in_new h (edge_of q h b) j t l))))

  untouched : new_word q j ≡ false → HighIdle q j → LowIdle q j → Untouched q j
  untouched n (root, high) low x small = after_any q j x x
      (λ t. ap (λ i. entry_after q 2 i x) (zero_add (j - 1024 * q.domain)) ∙ root t x small)
      (λ h hi b t. each_height (λ h. (b : Bool) → TableIdle q h (edge_of q h b) j) low high h hi b
      (stays n h hi b t) t x small)
      (λ r out. refl)
    where
      zero_add : (m : ℕ) → m ≡ 0 + m
      zero_add m = omega arith

  -- In the phase of what is linked.
  pub kept_idle : HighIdle q j → LowIdle q j → Kept
  kept_idle high low = by_cases (new_word q j) (λ n. inr n) (λ n. inl (untouched n high low))

  -- In the phase of words that lead the leaves are not looked at.
  pub given_idle : HighIdle q j → Kept ⊎ InLeaf q j
  given_idle high = by_cases (of_table 0 (edge_of q 0 true) j)
      (λ t. inr (true, t))
      (λ f. by_cases (of_table 0 (edge_of q 0 false) j)
      (λ t. inr (false, t))
      (λ l. inl (kept_idle high (each_end (λ b. TableIdle q 0 (edge_of q 0 b) j)
      (λ _ t. absurd (false≢true (sym f ∙ t))) (λ _ t. absurd (false≢true (sym l ∙ t)))))))

  -- A word that is of no edge's new table is of no new table.
  pub new_idle : ((h : ℕ) → h < heights → (b : Bool) → NotNew h (edge_of q h b) j) → NewIdle q j
  new_idle none = new_any q j (λ h hi b t. absurd (false≢true (sym (none h hi b) ∙ t))) (λ out. refl)

-- A run passes over words that are idle in its phase.
pub at_ahead : {s : Shape} {A : Aim} {q : Plan} {old : List ℕ} {Q : ℕ → ℕ} {kept : ℕ
    → Bool} {n c i k left : ℕ} {x : List ℕ}
    → Planned s A q old Q kept → i ≤ k → ((j : ℕ) → i ≤ j → j < k → Idle q c j)
    → At s A old Q kept n c i x left
    → At s A old Q kept n c k x left
at_ahead {s = s} {q = q} {old = old} {Q = Q} {kept = kept} {c = c} {i = i} {k = k} p h idle a = at_pass i k h passes a
  where
    other : (j : ℕ) → new_word q j ≡ not (eqb c 2) → j < length old → Q j ≢ words old j → phases s old kept j ≢ c
    other j e l m = by_phase (kept j) (sym (p.new j l m) ∙ e)
      where
        by_phase : (b : Bool) → not b ≡ not (eqb c 2)
            → cond b (cond (leads (zone s j) (words old j)) 1 3) 2 ≢ c
        by_phase true z y = one_or_three (leads (zone s j) (words old j))
            (y ∙ eqb-true c 2 (not-false (eqb c 2) (sym z)))
          where
            one_or_three : (b : Bool) → ◌≡◌ {A = ℕ} (cond b 1 3) 2 → ⊥
            one_or_three true w = omega arith
            one_or_three false w = omega arith
        by_phase false z y = eqb-false c 2 (not-true (eqb c 2) (sym z)) (sym y)

    -- No word of a leaf leads.
    leaf : (j : ℕ) → c ≡ 1 → InLeaf q j → phases s old kept j ≢ c
    leaf j e (b, t) y = not_one (kept j)
        (ap (λ z. cond (kept j) (cond (leads z (words old j)) 1 3) 2) (sym (p.lies 0 j (omega arith) b t)) ∙ y ∙ e)
      where
        not_one : (b : Bool) → ◌≡◌ {A = ℕ} (cond b 3 2) 1 → ⊥
        not_one true w = omega arith
        not_one false w = omega arith

    passes : (j : ℕ) → i ≤ j → j < k → (Q j ≡ words old j) ⊎ (phases s old kept j ≢ c)
    passes j lo hi = elim (dec_lt j (length old)) [
      | yes e ↦ ⊎_elim (λ z. inl (sym (p.final j e) ∙ z (words old j) (p.small j)))
          (⊎_elim
          (λ z. elim (ℕ_discrete (Q j) (words old j)) [ yes g ↦ inl g | no g ↦ inr (other j z e g) ])
          (λ (y, z). inr (leaf j y z)))
          (idle j lo hi)
      | no e ↦ inl (p.goal.beyond j (omega arith))
    ]

-- From the word at which a run stands on, the words of its phase are the old ones.
yet_old : {s : Shape} {A : Aim} {old : List ℕ} {Q : ℕ → ℕ} {kept : ℕ → Bool} {n c i left : ℕ} {x : List ℕ}
    → At s A old Q kept n c i x left → (j : ℕ) → i ≤ j → phases s old kept j ≡ c → words x j ≡ words old j
yet_old {s = s} {old = old} {Q = Q} {kept = kept} {c = c} {i = i} a j lo e =
    a.pool j ∙ ap (λ b. cond b (Q j) (words old j)) off
  where
    off : (ltb (phases s old kept j) c || (eqb (phases s old kept j) c && ltb j i)) ≡ false
    off = rw (le-ltb (phases s old kept j) c (omega arith), eq-eqb (phases s old kept j) c e, le-ltb j i lo) refl

-- It passes in the first phase over words that are eight rights, since they do not lead.
pub at_plain : {s : Shape} {A : Aim} {old : List ℕ} {Q : ℕ → ℕ} {kept : ℕ → Bool} {n c i m count left : ℕ} {x : List ℕ}
    → PlainWords x c i count m → At s A old Q kept n c i x left → At s A old Q kept n c (i + m) x left
at_plain {s = s} {old = old} {kept = kept} {c = c} {i = i} {m = m} {x = x} f a =
    at_pass i (i + m) (omega arith) (λ j lo hi. inr (λ e. later j e (f.plain j lo hi) (yet_old a j lo e))) a
  where
    later : (j : ℕ) → phases s old kept j ≡ c → (c ≡ 1) × (good_rights (words x j) ≡ true) → words x j ≡ words old j → ⊥
    later j e (first, g) w =
        let r : good_rights (words old j) ≡ true = rw w at g in
        let l = leads_high (zone s j) (words old j) (good_range (words old j) (good_small (words old j) r) r).0 in
        go (kept j) (rw l at e ∙ first)
      where
        go : (b : Bool) → ◌≡◌ {A = ℕ} (cond b (cond false 1 3) 2) 1 → ⊥
        go true y = omega arith
        go false y = omega arith

-- A pool of a shape has few words.
pub few_words : {s : Shape} {n : ℕ} → Fits s n → n < 4294967296
few_words f = let r = f.range in let l = f.long in omega (arith, r.domains, r.middles, r.leaves)
