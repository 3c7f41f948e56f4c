-- The finished words of a tidying in the paper's form: a word whose block wants a table stays, and any other becomes
-- rights; a middle place to which no root word leads stays as it is, and so does every leaf.
use Prim.Native.Nat.{ℕ, suc, ◌+◌, ◌*◌, ◌/◌, ◌%◌, ◌≤◌, ◌<◌}
use mathlib.Core.Path.{◌≡◌, refl, sym, ap, subst, ◌∙◌}
use mathlib.Core.Logic.{◌≢◌}
use mathlib.Core.Bool.{Bool, true, false, cond, true≢false}
use native.Mathlib.Omega.{arith}
use native.Mathlib.Decide.{dec_lt}
use lib.Dec.{ltb}
use borrow.Author.Tests.{lt-ltb, le-ltb}
use Rattle.std.specs.Prelude.{Option}
use Rattle.theory.specs.Pool.{SoundPool, Visits, here, next, entry, right_of}
use Rattle.theory.specs.Finished.{Finished}
use Rattle.theory.specs.Stores.{Kept, top, down}
use Rattle.theory.proofs.Logic.{by_cases}
use Rattle.theory.proofs.ReachLaws.{visits_down}
use Rattle.theory.proofs.BlockLaws.{one_word}
use Rattle.theory.proofs.SettledLaws.{says_at, says_same}
use Rattle.theory.proofs.KeptLaws.{kept_reach, kept_zone}
use Rattle.theory.proofs.ReadyLaws.{finished_links}
use Rattle.table.specs.declared.Shape.{Shape}
use Rattle.table.specs.Shape.{first_middle, first_leaf}
use Rattle.table.specs.Map.{addresses, index, leads, zone, form_of}
use Rattle.table.specs.Wants.{wants_of, said_of}
use Rattle.table.proofs.FormLaws.{lawful, exact, leads_place}
use Rattle.table.proofs.WantLaws.{wants_divided, divided_wants, wants_says, says_said, wanting, pool_rights}
use Rattle.targets.specs.Targets.{target_of}
use Rattle.targets.proofs.TargetLaws.{wanted_mixed, unwanted_said}
use Rattle.change.specs.Tidying.{Becomes}
use Rattle.change.proofs.TidyLaws.{led_before, visits_before, unkept_stays, unled_stays}

module _ (s : Shape) {P Q : ℕ → ℕ} (sP : SoundPool (form_of s) P)
    (f : Finished (form_of s) P (right_of (form_of s) P) Q) where
  -- A word where the walk of `a` comes in the finished pool.
  module _ (d a : ℕ) (bd : d < s.domains) (ba : a < addresses) {h j : ℕ}
      (v : Visits (form_of s) Q a 2 (entry (form_of s) d a) (suc h) j) where
    abbrev R : ℕ → ℕ
    R = right_of (form_of s) P d

    hi : h < 2
    hi = visits_down (form_of s) Q a v

    wanted_stays : wants_of R (suc h) a ≡ true → Q j ≡ P j
    wanted_stays e =
        let x = (wanting s).same (suc h) a R (right_of (form_of s) Q d) (λ b bb. sym (f.rights d b bd bb))
        (wants_divided R (suc h) a ba e) in
        let (t, (k, u, l, _)) = f.settled.there bd ba hi x in
        let o : k ≡ j = one_word (form_of s) Q u v refl in
        let m : leads (suc h) (Q j) ≡ true = rw o at l in
        let (c, w) = visits_before (form_of s) (lawful s) (wanting s) (exact s) sP f d a bd ba v in
        let n = led_before (form_of s) (lawful s) (wanting s) (exact s) sP f d a bd ba v m w in
        sym (finished_links (form_of s) (lawful s) (exact s) sP f (suc h) j c n m)

    unwanted_rights : wants_of R (suc h) a ≡ false → Q j ≡ said_of R (suc h) a
    unwanted_rights e = by_cases (leads (suc h) (Q j))
        (λ l.
        let x = (wanting s).same (suc h) a (right_of (form_of s) Q d) R (λ b bb. f.rights d b bd bb)
        (f.settled.wanted bd ba hi (Q j, (j, v, l, refl))) in
        absurd (true≢false (sym (divided_wants R (suc h) a (pool_rights s P d) x) ∙ e)))
        (λ l. says_said s R (suc h) a (pool_rights s P d) hi ba (Q j)
        (says_same (form_of s) (suc h) (right_of (form_of s) Q d) R a (Q j) (λ b bb. f.rights d b bd bb)
        (says_at (form_of s) (lawful s) Q f.settled.sound d a (suc h) j bd v l)))

    -- The target of a word that leads tells what it becomes.
    pub target_becomes : (t : Option ℕ) → t ≡ target_of R (suc h) a → leads (suc h) (P j) ≡ true → Becomes t (P j) (Q j)
    target_becomes t e l = by_cases (wants_of R (suc h) a)
        (λ w. rw (e ∙ wanted_mixed R (suc h) a w) (wanted_stays w))
        (λ w. rw (e ∙ unwanted_said R (suc h) a w) (
          unwanted_rights w,
          λ z. true≢false (sym l ∙ ap (leads (suc h)) z ∙ (wants_says s R (suc h) a (pool_rights s P d) hi ba
              w).rights),
        ))

  -- A root word, for its block.
  pub root_becomes : (k : ℕ) (t : Option ℕ) → k < first_middle s → leads 2 (P k) ≡ true
      → t ≡ target_of (right_of (form_of s) P (k / 1024)) 2 (k % 1024 * 4194304) → Becomes t (P k) (Q k)
  root_becomes k t b l e =
      let a = k % 1024 * 4194304 in
      let z : entry (form_of s) (k / 1024) a ≡ k = omega arith in
      let v : Visits (form_of s) Q a 2 (entry (form_of s) (k / 1024) a) 2 k = rw z here in
      target_becomes (k / 1024) a (omega arith) (omega arith) v t e l

  -- A word of the middle table to which the root word `o`, which stays, leads, for its page.
  pub page_becomes : (o i : ℕ) (t : Option ℕ) → o < first_middle s → i < 1024 → P o ≡ Q o → leads 2 (P o) ≡ true
      → leads 1 (P (P o + i)) ≡ true
      → t ≡ target_of (right_of (form_of s) P (o / 1024)) 1 ((o % 1024 * 1024 + i) * 4096) → Becomes t (P (P o + i))
      (Q (P o + i))
  page_becomes o i t b bi q r l e =
      let a = (o % 1024 * 1024 + i) * 4096 in
      let z : entry (form_of s) (o / 1024) a ≡ o = omega arith in
      let y : index 1 a ≡ i = omega arith in
      let v : Visits (form_of s) Q a 2 (entry (form_of s) (o / 1024) a) 1 (Q o + index 1 a) = step a z in
      let w : Visits (form_of s) Q a 2 (entry (form_of s) (o / 1024) a) 1 (P o + i) =
      subst (λ u. Visits (form_of s) Q a 2 (entry (form_of s) (o / 1024) a) 1 u)
      (ap (λ u. Q o + u) y ∙ ap (λ u. u + i) (sym q)) v in
      target_becomes (o / 1024) a (omega arith) (omega arith) w t e l
    where
      step : (a : ℕ) → entry (form_of s) (o / 1024) a ≡ o → Visits (form_of s) Q a 2
          (entry (form_of s) (o / 1024) a) 1 (Q o + index 1 a)
      step a z = rw z (next here (rw q at r))

  -- What does not lead stays.
  pub root_stays : (k : ℕ) → k < first_middle s → leads 2 (P k) ≡ false → Q k ≡ P k
  root_stays k b l =
      let z : zone s k ≡ 2 = rw (lt-ltb k (first_middle s) b) refl in
      unled_stays (form_of s) (lawful s) (wanting s) (exact s) sP f k (rw z l)

  -- A root word that still leads leads where it did.
  pub still_leads : (k : ℕ) → k < first_middle s → leads 2 (Q k) ≡ true → Q k ≡ P k
  still_leads k b l = by_cases (leads 2 (P k))
      (λ m.
      let a = k % 1024 * 4194304 in
      let z : entry (form_of s) (k / 1024) a ≡ k = omega arith in
      sym (f.keeps {d = k / 1024} {a = a} {h = 1} (omega arith) (omega arith) (k, rw z here, m, refl)
      (k, rw z here, l, refl)))
      (λ m. root_stays k b m)

  pub page_stays : (k : ℕ) → first_middle s ≤ k → k < first_leaf s → leads 1 (P k) ≡ false → Q k ≡ P k
  page_stays k b c l =
      let z : zone s k ≡ 1 = rw (le-ltb k (first_middle s) b, lt-ltb k (first_leaf s) c) refl in
      unled_stays (form_of s) (lawful s) (wanting s) (exact s) sP f k (rw z l)

  pub leaf_stays : (k : ℕ) → first_leaf s ≤ k → Q k ≡ P k
  leaf_stays k b =
      let z : zone s k ≡ 0 = rw (le-ltb k (first_middle s) (omega arith), le-ltb k (first_leaf s) b) refl in
      unled_stays (form_of s) (lawful s) (wanting s) (exact s) sP f k (rw z refl)

  -- A word of the highest zone is of a root.
  zone_root : (j : ℕ) → zone s j ≡ 2 → j < first_middle s
  zone_root j e = elim (dec_lt j (first_middle s)) [
    | yes b ↦ b
    | no b ↦ absurd (lower (ltb j (first_leaf s)) (rw (le-ltb j (first_middle s) (omega arith)) at e))
  ]
    where
      lower : (b : Bool) → ◌≡◌ {A = ℕ} (cond b 1 0) 2 → ⊥
      lower true z = omega arith
      lower false z = omega arith

  -- A middle place to which no root word leads is in no kept table, and stays.
  module _ (p : ℕ) (bp : p < s.middles) (nobody : (k : ℕ) → k < first_middle s → P k ≢ first_middle s + 1024 * p) where
    under : (j o i : ℕ) → Kept (form_of s) P Q 2 j → leads 2 (P j) ≡ true → o < 1024 → i < 1024 → P j + o
        ≡ first_middle s + 1024 * p + i → ⊥
    under j o i c l bo bi e =
        let (_, q, _, x) = leads_place s 1 (P j) (sP.good (kept_reach (form_of s) c)) l in
        nobody j (zone_root j (kept_zone (form_of s) (lawful s) sP c)) (omega arith)

    unowned : {m k : ℕ} (i : ℕ) → i < 1024 → k ≡ first_middle s + 1024 * p + i → Kept (form_of s) P Q m k → ⊥
    unowned i bi e (top (d, o, _, z, bd, bo)) = omega arith
    unowned i bi e (down {m} {j} o c q l bo) =
        let y : zone s (P j + o) ≡ 1 = rw (
          e,
          le-ltb (first_middle s + 1024 * p + i) (first_middle s) (omega arith),
          lt-ltb (first_middle s + 1024 * p + i) (first_leaf s) (omega arith),
        ) refl in
        let n : m ≡ 1 = sym (kept_zone (form_of s) (lawful s) sP (down o c q l bo)) ∙ y in
        under j o i (rw n at c) l (rw n at bo) bi e

    pub place_stays : (i : ℕ) → i < 1024 → Q (first_middle s + 1024 * p + i) ≡ P (first_middle s + 1024 * p + i)
    place_stays i bi =
        unkept_stays (form_of s) (lawful s) (wanting s) (exact s) sP f (first_middle s + 1024 * p + i)
        (λ m c. unowned i bi refl c)
