-- Laws of a fresh pool's words: its roots say none everywhere, so it has no table and no right, and is settled.
use Prim.Native.Nat.{ℕ, ◌+◌, ◌*◌, ◌-◌, ◌/◌, ◌%◌, ◌≤◌, ◌<◌}
use mathlib.Core.Path.{◌≡◌, refl, sym, ap, ◌∙◌}
use mathlib.Core.Bool.{cond, true≢false}
use mathlib.Core.List.{◌++◌}
use native.Mathlib.Omega.{arith}
use native.Mathlib.Decide.{dec_lt}
use lib.Dec.{ltb}
use lib.ListN.{length, replicate, get_or, length-replicate, get_or-replicate, get_or-append, get_or-eq_default}
use lib.Seq.{get_or-append-add}
use borrow.Author.Tests.{lt-ltb, le-ltb}
use Rattle.theory.specs.Pool.{words, Reach, Visits, here, next, Roots, entry, right_of, Led}
use Rattle.theory.specs.Settled.{Settled}
use Rattle.theory.proofs.RightLaws.{right_says}
use Rattle.theory.proofs.BlockLaws.{met_by}
use Rattle.words.proofs.RightsLaws.{eight_right}
use Rattle.table.specs.declared.Shape.{Shape}
use Rattle.table.specs.Map.{part, parts, form_of}
use Rattle.table.specs.Fresh.{fresh_pool}
use Rattle.table.proofs.BlockLaws.{number_below}
use Rattle.table.proofs.FormLaws.{exact}

-- Word `j` of `n` times `v`, and zeros after it.
padded_word : (n m v j : ℕ) → get_or (replicate n v ++ replicate m 0) j 0 ≡ cond (ltb j n) v 0
padded_word n m v j = elim (dec_lt j n) [
  | yes h ↦ get_or-append (replicate n v) (replicate m 0) 0 j (rw (length-replicate n v) h)
      ∙ get_or-replicate n j v 0 h
      ∙ ap (λ t. cond t v 0) (sym (lt-ltb j n h))
  | no h ↦ ap (λ k. get_or (replicate n v ++ replicate m 0) k 0) (past (omega arith)) ∙ get_or-append-add (replicate n v)
      (replicate m 0) (j - n) 0
      ∙ zeros 0 (j - n) ∙ ap (λ t. cond t v 0) (sym (le-ltb j n (omega arith)))
]
  where
    past : n ≤ j → j ≡ length (replicate n v) + (j - n)
    past h = let e = length-replicate n v in omega arith

    zeros : (z k : ℕ) → get_or (replicate m z) k z ≡ z
    zeros z k = elim (dec_lt k m) [
      | yes h ↦ get_or-replicate m k z z h
      | no h ↦ get_or-eq_default (replicate m z) z (rw (length-replicate m z) (omega arith))
    ]

pub fresh_word : (s : Shape) (j : ℕ) → words (fresh_pool s) j ≡ cond (ltb j (1024 * s.domains)) 2147483648 0
fresh_word s j = padded_word (1024 * s.domains) (1024 * s.middles + 64 * s.leaves) 2147483648 j

-- Any pool whose root words all say none.
module _ (s : Shape) (P : ℕ → ℕ) (none : (j : ℕ) → j < 1024 * s.domains → P j ≡ 2147483648) where
  entry_none : (d a : ℕ) → d < s.domains → P (entry (form_of s) d a) ≡ 2147483648
  entry_none d a bd = none _ (omega arith)

  stays : (d a : ℕ) {m j : ℕ} → d < s.domains → Visits (form_of s) P a 2 (entry (form_of s) d a) m j → (m ≡ 2)
      × (P j ≡ 2147483648)
  stays d a bd here = (refl, entry_none d a bd)
  stays d a bd (next {m} {j} v l) =
      let (_, e) = stays d a bd v in
      absurd (true≢false (sym l ∙ ap (λ w. ltb w 2147483648) e))

  pub none_led : (d a h t : ℕ) → d < s.domains → Led (form_of s) P d a h t → ⊥
  none_led d a h t bd (k, v, l, e) = true≢false (sym l ∙ ap (λ w. ltb w 2147483648) (stays d a bd v).1)

  pub none_right : (d a : ℕ) → d < s.domains → right_of (form_of s) P d a ≡ 0
  none_right d a bd =
      let e = entry_none d a bd in
      right_says (form_of s) P 2 (entry (form_of s) d a) a (ap (λ w. ltb w 2147483648) e)
      ∙ ap (λ w. (form_of s).says 2 w a) e ∙ eight_right 0 (a / part 2 % parts 2) (omega arith) (number_below 2 a)

  met_none : {m j : ℕ} → Reach (form_of s) P (Roots (form_of s)) m j → (m ≡ 2) × (P j ≡ 2147483648)
  met_none r = let (d, a, bd, ba, v) = met_by (form_of s) (exact s) r in stays d a bd v

  pub none_settled : Settled (form_of s) P
  none_settled = record {
    sound = record {
      good = λ r. let (m, e) = met_none r in rw (m, e) refl;
      once = λ r l q n e. absurd (true≢false (sym l ∙ ap (λ w. ltb w 2147483648) (met_none r).1));
    };
    wanted = λ {d} {a} {h} bd ba hi (t, x). absurd (none_led d a h t bd x);
    there = λ {d} {a} {h} bd ba hi (b, c, bb, bc, x, y, z). absurd (z (none_right d b bd ∙ sym (none_right d c bd)));
  }

-- A fresh pool.
module _ (s : Shape) where
  fresh_roots : (j : ℕ) → j < 1024 * s.domains → words (fresh_pool s) j ≡ 2147483648
  fresh_roots j h = fresh_word s j ∙ ap (λ t. cond t 2147483648 0) (lt-ltb j (1024 * s.domains) h)

  pub fresh_led : (d a h t : ℕ) → d < s.domains → Led (form_of s) (words (fresh_pool s)) d a h t → ⊥
  fresh_led = none_led s (words (fresh_pool s)) fresh_roots

  pub fresh_right : (d a : ℕ) → d < s.domains → right_of (form_of s) (words (fresh_pool s)) d a ≡ 0
  fresh_right = none_right s (words (fresh_pool s)) fresh_roots

  pub fresh_settled : Settled (form_of s) (words (fresh_pool s))
  fresh_settled = none_settled s (words (fresh_pool s)) fresh_roots
