-- A pool that encodes rights is settled and has them; where the places follow the rules it is the finished one. For
-- any form.
use Prim.Native.Nat.{ℕ, zero, suc, ◌+◌, ◌-◌, ◌≤◌, ◌<◌}
use mathlib.Core.Path.{◌≡◌, sym, ap, ◌∙◌}
use mathlib.Core.Bool.{Bool, true, true≢false}
use native.Mathlib.Omega.{arith}
use native.Mathlib.Decide.{ℕ_discrete}
use Rattle.theory.specs.Form.{Form}
use Rattle.theory.specs.Pool.{Reach, SoundPool, Visits, here, next, right, Roots, entry, right_of, Led}
use Rattle.theory.specs.Settled.{Together, Settled}
use Rattle.theory.specs.Finished.{New, Stays, Place, Before, Finished}
use Rattle.theory.specs.Lawful.{Lawful, Exact, Wanting}
use Rattle.theory.proofs.Encodes.{TellsWants, Gets, Placing, Encodes, Follows, spot}
use Rattle.theory.proofs.ReachLaws.{visits_down, visited_reach}
use Rattle.theory.proofs.Logic.{by_cases}
use Rattle.theory.proofs.RightLaws.{right_down, right_says}
use Rattle.theory.proofs.BlockLaws.{together_refl, together_above, met_by}

module _ (F : Form) (want : ℕ → ℕ → ℕ → Bool) where
  pub gets_top : (d a : ℕ) → Gets F want F.top d a
  gets_top d a i lo hi = absurd (omega arith)

  pub gets_next : (h d a : ℕ) → Gets F want (suc h) d a → want (suc h) d a ≡ true → Gets F want h d a
  gets_next h d a g w i lo hi = elim (ℕ_discrete i (suc h)) [ yes e ↦ rw e w | no n ↦ g i (omega arith) hi ]

  pub gets_above : (h d a : ℕ) → Gets F want h d a → Gets F want (suc h) d a
  gets_above h d a g i lo hi = g i (omega arith) hi

  -- What wants a table lies in blocks that want one, so its walk comes down to it.
  module _ (W : Wanting F) {R : ℕ → ℕ → ℕ} (T : TellsWants F want R) (d a : ℕ) (bd : d < F.domains)
      (ba : a < F.span) where
    wants_from : (n h : ℕ) → suc h + n ≡ F.top → F.Wants (suc h) (R d) a → Gets F want h d a
    wants_from zero h e x = gets_next h d a (λ i lo hi. absurd (omega arith)) (T.is h d a bd ba (omega arith) x)
    wants_from (suc n) h e x =
        gets_next h d a (wants_from n (suc h) (omega arith) (W.up h a (R d) ba (omega arith) x))
        (T.is h d a bd ba (omega arith) x)

    pub wants_gets : (h : ℕ) → h < F.top → F.Wants (suc h) (R d) a → Gets F want h d a
    wants_gets h hi x = wants_from (F.top - suc h) h (omega arith) x

module _ (F : Form) (L : Lawful F) (E : Exact F) (want : ℕ → ℕ → ℕ → Bool)
    (place : ℕ → ℕ → ℕ → ℕ) {R : ℕ → ℕ → ℕ} {Q : ℕ → ℕ}
    (T : TellsWants F want R) (p : Placing F want place) (c : Encodes F want place R Q) where
  abbrev at : ℕ → ℕ → ℕ → ℕ
  at = spot F want place

  top_spot : (d a : ℕ) → d < F.domains → a < F.span → at F.top d a ≡ entry F d a
  top_spot d a bd ba = rw (p.root d a bd ba)

  -- The walk comes where the placing says ..
  comes_from : (n h d a : ℕ) → d < F.domains → a < F.span → h + n ≡ F.top → Gets F want h d a
      → Visits F Q a F.top (entry F d a) h (at h d a)
  comes_from zero h d a bd ba e g = let t : h ≡ F.top = omega arith in rw (t, p.root d a bd ba) here
  comes_from (suc n) h d a bd ba e g =
      let v = comes_from n (suc h) d a bd ba (omega arith) (gets_above F want h d a g) in
      let (_, l, t) = c.leads h d a bd ba (omega arith) g in
      rw t at (next v l)

  pub gets_visits : (h d a : ℕ) → d < F.domains → a < F.span → h ≤ F.top → Gets F want h d a
      → Visits F Q a F.top (entry F d a) h (at h d a)
  gets_visits h d a bd ba hi g = comes_from (F.top - h) h d a bd ba (omega arith) g

  -- .. and nowhere else.
  pub visits_gets : (d a : ℕ) {m j : ℕ} → d < F.domains → a < F.span → Visits F Q a F.top (entry F d a) m j
      → Gets F want m d a × (j ≡ at m d a)
  visits_gets d a bd ba here = (gets_top F want d a, sym (top_spot d a bd ba))
  visits_gets d a bd ba (next {m} {j} v l) =
      let (g, e) = visits_gets d a bd ba v in
      let b = visits_down F Q a v in
      by_cases (want (suc m) d a)
      (λ w. let n = gets_next F want m d a g w in
      (n, rw e (ap (λ t. t + F.index m a) (c.leads m d a bd ba (omega arith) n).2)))
      (λ w. absurd (true≢false (sym l ∙ rw e (c.says (suc m) d a bd ba b g w).rights)))

  pub gets_led : (h d a : ℕ) → d < F.domains → a < F.span → h < F.top → Gets F want h d a
      → Led F Q d a h (place h d a)
  gets_led h d a bd ba hi g =
      let (_, l, t) = c.leads h d a bd ba hi g in
      (at (suc h) d a, gets_visits (suc h) d a bd ba hi (gets_above F want h d a g), l, t)

  -- What leads does so because its block wants it.
  leads_gets : (h d a : ℕ) → d < F.domains → a < F.span → h < F.top → Gets F want (suc h) d a
      → F.leads (suc h) (Q (at (suc h) d a)) ≡ true → Gets F want h d a
  leads_gets h d a bd ba hi g l = by_cases (want (suc h) d a)
      (λ w. gets_next F want h d a g w)
      (λ w. absurd (true≢false (sym l ∙ (c.says (suc h) d a bd ba hi g w).rights)))

  pub led_gets : (h d a t : ℕ) → d < F.domains → a < F.span → Led F Q d a h t → (h < F.top) × Gets F want h d a
      × (place h d a ≡ t)
  led_gets h d a t bd ba (k, v, l, e) =
      let hi : h < F.top = visits_down F Q a v in
      let (g, o) = visits_gets d a bd ba v in
      let n = leads_gets h d a bd ba hi g (rw o at l) in
      (hi, n, sym (c.leads h d a bd ba hi n).2 ∙ (rw o at e))

  one_spot : (h d a b : ℕ) → d < F.domains → a < F.span → b < F.span → h ≤ F.top → Together F h a b → at h d a
      ≡ at h d b
  one_spot h d a b bd ba bb hi t = rw (
    p.block h d a b bd ba bb (together_above F h (suc h) a b (omega arith) t),
    t h
        (omega arith) hi,
  )

  good_at : (m d a : ℕ) → d < F.domains → a < F.span → m ≤ F.top → Gets F want m d a → F.good m (Q (at m d a))
      ≡ true
  good_at zero d a bd ba hi g = (c.says zero d a bd ba hi g (T.last d a bd ba)).good
  good_at (suc m) d a bd ba hi g = by_cases (want (suc m) d a)
      (λ w. (c.leads m d a bd ba (omega arith) (gets_next F want m d a g w)).0)
      (λ w. (c.says (suc m) d a bd ba hi g w).good)

  reach_good : {m j : ℕ} → Reach F Q (Roots F) m j → F.good m (Q j) ≡ true
  reach_good {m} {j} r =
      let (d, a, bd, ba, v) = met_by F E r in
      let (g, e) = visits_gets d a bd ba v in
      rw e (good_at m d a bd ba (visits_down F Q a v) g)

  reach_led : {m j : ℕ} → Reach F Q (Roots F) (suc m) j → F.leads (suc m) (Q j) ≡ true
      → (d : ℕ) × (a : ℕ) × (d < F.domains) × (a < F.span) × (m < F.top) × Gets F want m d a × (j ≡ at (suc m) d a)
      × (F.target (suc m) (Q j) ≡ place m d a)
  reach_led {m} {j} r l =
      let (d, a, bd, ba, v) = met_by F E r in
      let (g, e) = visits_gets d a bd ba v in
      let hi : m < F.top = visits_down F Q a v in
      let n = leads_gets m d a bd ba hi g (rw e at l) in
      (d, a, bd, ba, hi, n, e, ap (λ x. F.target (suc m) (Q x)) e ∙ (c.leads m d a bd ba hi n).2)

  reach_once : {m j k : ℕ} → Reach F Q (Roots F) (suc m) j → F.leads (suc m) (Q j) ≡ true
      → Reach F Q (Roots F) (suc m) k
      → F.leads (suc m) (Q k) ≡ true → F.target (suc m) (Q j) ≡ F.target (suc m) (Q k) → j ≡ k
  reach_once {m} {j} {k} r l q n e =
      let (d, a, bd, ba, hi, g, o, t) = reach_led r l in
      let (f, b, bf, bb, _, i, u, s) = reach_led q n in
      let (x, y) = p.apart m d a f b bd ba bf bb hi g i (sym t ∙ e ∙ s) in
      o ∙ one_spot (suc m) d a b bd ba bb hi y ∙ ap (λ z. at (suc m) z b) x ∙ sym u

  pub encodes_sound : SoundPool F Q
  encodes_sound = record { good = λ r. reach_good r; once = λ r l q n e. reach_once r l q n e }

  right_at_lem : (h d a : ℕ) → d < F.domains → a < F.span → h ≤ F.top → Gets F want h d a → right F Q h (at h d a) a
      ≡ R d a
  right_at_lem zero d a bd ba hi g =
      let s = c.says zero d a bd ba hi g (T.last d a bd ba) in
      right_says F Q zero _ a s.rights ∙ s.each a ba (together_refl F zero a)
  right_at_lem (suc h) d a bd ba hi g = by_cases (want (suc h) d a)
      (λ w.
      let n = gets_next F want h d a g w in
      let (_, l, t) = c.leads h d a bd ba (omega arith) n in
      right_down F Q h _ a l ∙ rw t (right_at_lem h d a bd ba (omega arith) n))
      (λ w.
      let s = c.says (suc h) d a bd ba hi g w in
      right_says F Q (suc h) _ a s.rights ∙ s.each a ba (together_refl F (suc h) a))

  pub encodes_rights : (d a : ℕ) → d < F.domains → a < F.span → right_of F Q d a ≡ R d a
  encodes_rights d a bd ba = rw (← top_spot d a bd ba) (right_at_lem F.top d a bd ba (omega arith) (gets_top F want d a))

  module _ (W : Wanting F) where
    pub encodes_settled : Settled F Q
    encodes_settled = record {
      sound = encodes_sound;
      wanted = λ {d} {a} {h} bd ba hi (t, x).
          let (_, g, e) = led_gets h d a t bd ba x in
          W.same (suc h) a (R d) (right_of F Q d) (λ b bb. sym (encodes_rights d b bd bb))
          (T.are h d a bd ba hi (g (suc h) (omega arith) hi));
      there = λ {d} {a} {h} bd ba hi x.
          let y = W.same (suc h) a (right_of F Q d) (R d) (λ b bb. encodes_rights d b bd bb) x in
          (place h d a, gets_led h d a bd ba hi (wants_gets F want W T d a bd ba h hi y));
    }

    module _ {P : ℕ → ℕ} (f : Follows F want place P Q) where
      finished_keeps : {d a h s t : ℕ} → d < F.domains → a < F.span → Led F P d a h s → Led F Q d a h t → s ≡ t
      finished_keeps {d} {a} {h} {s} {t} bd ba o n = let (_, g, e) = led_gets h d a t bd ba n in sym
          (f.keeps h d a s bd ba g o) ∙ e

      finished_order : {d a e b h s t : ℕ} → New F P Q d a h s → New F P Q e b h t → Before d a e b → s ≤ t
      finished_order {d} {a} {e} {b} {h} {s} {t} (bd, ba, m, no-m) (be, bb, n, no-n) o =
          let (hi, g, x) = led_gets h d a s bd ba m in
          let (_, i, y) = led_gets h e b t be bb n in
          let z = f.order h d a e b bd ba be bb hi (g, no-m) (i, no-n) o in
          omega arith

      finished_lowest : {d a h t : ℕ} (x : ℕ) → New F P Q d a h t → Place F h x → x < t → (Stays F P Q h x → ⊥)
          → (e : ℕ) × (b : ℕ) × New F P Q e b h x
      finished_lowest {d} {a} {h} {t} x (bd, ba, m, no-m) y lt free =
          let (hi, g, z) = led_gets h d a t bd ba m in
          let (e, b, be, bb, i, w) = f.lowest h d a x bd ba hi (g, no-m) y (omega arith) in
          let n : Led F Q e b h x = rw w at (gets_led h e b be bb hi i) in
          (e, b, (be, bb, n, λ s o. free (e, b, be, bb, rw (sym (f.keeps h e b s be bb i o) ∙ w) at o, n)))

      pub encodes_finished : Finished F P R Q
      encodes_finished = record {
        settled = encodes_settled;
        rights = encodes_rights;
        keeps = λ bd ba o n. finished_keeps bd ba o n;
        order = λ m n o. finished_order m n o;
        lowest = λ x m y lt free. finished_lowest x m y lt free;
        idle = λ j un. f.idle j (λ h d a bd ba hi g e. un h
            (rw e (visited_reach F L d a bd (gets_visits h d a bd ba hi g))));
      }
