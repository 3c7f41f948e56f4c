-- The finished pool of a tidying, which has the rights of the old one: it has no table that the old one had not, and
-- its words differ from the old ones only where a table is given up. For any form.
use Prim.Native.Nat.{ℕ, zero, suc, ◌<◌}
use mathlib.Core.Path.{◌≡◌, refl, sym, ◌∙◌}
use mathlib.Core.Logic.{◌≢◌}
use mathlib.Core.Bool.{Bool, true, false, true≢false}
use Rattle.theory.specs.Form.{Form}
use Rattle.theory.specs.Pool.{SoundPool, Visits, here, next, entry, right_of}
use Rattle.theory.specs.Finished.{Finished}
use Rattle.theory.specs.Lawful.{Lawful, Exact, Wanting}
use Rattle.theory.specs.Stores.{Kept, top, down}
use Rattle.theory.specs.Phase.{phase, Tells}
use Rattle.theory.proofs.Logic.{by_cases}
use Rattle.theory.proofs.ReachLaws.{visits_down, reach_zone}
use Rattle.theory.proofs.BlockLaws.{one_word, met_by}
use Rattle.theory.proofs.SettledLaws.{says_at, says_same, wants_table}
use Rattle.theory.proofs.KeptLaws.{kept_zone}
use Rattle.theory.proofs.FinishedLaws.{stable}
use Rattle.theory.proofs.ReadyLaws.{finished_links}

module _ (F : Form) (L : Lawful F) (W : Wanting F) (E : Exact F) {P Q : ℕ → ℕ} (sP : SoundPool F P)
    (f : Finished F P (right_of F P) Q) where
  module _ (d a : ℕ) (bd : d < F.domains) (ba : a < F.span) where
    -- Where the finished pool leads, the old one led.
    pub led_before : {h j : ℕ} → Visits F Q a F.top (entry F d a) (suc h) j → F.leads (suc h) (Q j) ≡ true
        → Visits F P a F.top (entry F d a) (suc h) j → F.leads (suc h) (P j) ≡ true
    led_before {h} {j} v l w =
        let hi = visits_down F Q a v in
        let x = W.same (suc h) a (right_of F Q d) (right_of F P d) (λ b bb. f.rights d b bd bb)
        (f.settled.wanted bd ba hi (F.target (suc h) (Q j), (j, v, l, refl))) in
        let (t, (k, u, m, e)) = wants_table F W L sP d a bd ba h hi x in
        let o : k ≡ j = one_word F P u w refl in
        rw o at m

    -- Where a walk comes in the finished pool, it came in the old one, by kept words.
    pub visits_before : {m j : ℕ} → Visits F Q a F.top (entry F d a) m j → Kept F P Q m j × Visits F P a F.top
        (entry F d a) m j
    visits_before here = (top (d, F.index F.top a, refl, refl, bd, L.index_below F.top a), here)
    visits_before (next {m} {j} v l) =
        let (c, w) = visits_before v in
        let g = led_before v l w in
        let e : P j ≡ Q j = finished_links F L E sP f (suc m) j c g l in
        (rw (← e) (down (F.index m a) c e g (L.index_below m a)), rw (← e) (next w g))

    -- A word that did not lead is as it was.
    pub unled_same : (m : ℕ) {j : ℕ} → Visits F Q a F.top (entry F d a) m j → F.leads m (P j) ≡ false → Q j ≡ P j
    unled_same m {j} v l = by_cases (F.leads m (Q j)) (λ q. absurd (never m v l q)) (λ q.
        E.says_exact m a (Q j) (P j) (right_of F P d) ba
        (says_same F m (right_of F Q d) (right_of F P d) a (Q j) (λ b bb. f.rights d b bd bb)
        (says_at F L Q f.settled.sound d a m j bd v q))
        (says_at F L P sP d a m j bd (visits_before v).1 l))
      where
        never : (m : ℕ) {j : ℕ} → Visits F Q a F.top (entry F d a) m j → F.leads m (P j) ≡ false
            → F.leads m (Q j) ≡ true → ⊥
        never zero {j} v l q = true≢false (sym q ∙ E.last (Q j))
        never (suc m) v l q = true≢false (sym (led_before v q (visits_before v).1) ∙ l)

  -- A word in no kept table stays ..
  pub unkept_stays : (j : ℕ) → ((m : ℕ) → Kept F P Q m j → ⊥) → Q j ≡ P j
  unkept_stays j away = f.idle j (λ m r. let (d, a, bd, ba, v) = met_by F E r in away m (visits_before d a bd ba v).0)

  -- .. and so does one that does not lead.
  pub unled_stays : (j : ℕ) → F.leads (F.zone j) (P j) ≡ false → Q j ≡ P j
  unled_stays j l = stable (Q j) (P j) (λ n. n (f.idle j (λ m r.
      let (d, a, bd, ba, v) = met_by F E r in
      let z : F.zone j ≡ m = reach_zone F L f.settled.sound r in
      n (unled_same d a bd ba m v (rw z at l)))))

  -- So a word that differs is of the first phase.
  pub differs_first : (kept : ℕ → Bool) → Tells F P Q kept → (j : ℕ) → Q j ≢ P j → phase F P kept j ≡ 1
  differs_first kept T j n = stable (phase F P kept j) 1 (λ o. n (f.idle j (λ m r.
      let (d, a, bd, ba, v) = met_by F E r in
      let c = (visits_before d a bd ba v).0 in
      by_cases (F.leads m (P j))
      (λ l. o (first m c l))
      (λ l. n (unled_same d a bd ba m v l)))))
    where
      first : (m : ℕ) → Kept F P Q m j → F.leads m (P j) ≡ true → phase F P kept j ≡ 1
      first m c l = rw (T.is m j c, kept_zone F L sP c, l) refl
