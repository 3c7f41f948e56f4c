-- Laws of the listing while it is made: words of one right are fed as one, and words are fed block by block.
use Prim.Native.Nat.{ℕ, zero, suc, ◌+◌, ◌*◌, ◌<◌, ◌≤◌}
use native.Mathlib.Omega.{arith}
use native.Mathlib.Nat.{zero-mul, add-zero, add-suc, add_assoc, add-mul, mul-le-mul_right}
use mathlib.Core.Path.{◌≡◌, refl, sym, ap, ◌∙◌}
use mathlib.Core.Logic.{◌≢◌}
use mathlib.Core.Bool.{Bool, true, false, cond}
use lib.Dec.{eqb}
use borrow.Author.Tests.{eqb-true, eq-eqb, ne_eqb}
use Rattle.listing.specs.Sheets.{Sheet, sheet, put_run, counted, run_to, closed, opened, turned, feed, fed, OpenAt}

-- Feeding.

pub feed_leaves : (q a : ℕ) (s : Sheet) → (feed q a s).run.right ≡ q
unfolding feed
feed_leaves q a s = go (eqb q s.run.right) refl
  where
    go : (t : Bool) → eqb q s.run.right ≡ t → (cond t s (opened q a (closed a s))).run.right ≡ q
    go true e = sym (eqb-true _ _ e)
    go false e = refl

-- Another right is a turn.
pub feed_turns : (q a : ℕ) (s : Sheet) → q ≢ s.run.right → feed q a s ≡ turned q a s
unfolding feed
feed_turns q a s e = simp (ne_eqb q s.run.right e)

-- The same right again changes nothing.
pub feed_again : (q a : ℕ) (s : Sheet) → s.run.right ≡ q → feed q a s ≡ s
unfolding feed
feed_again q a s h = simp (eq-eqb _ _ (sym h))

fed_append : (m n : ℕ) (f : ℕ → ℕ) (a : ℕ) (s : Sheet) → fed (m + n) f a s ≡ fed n f (a + m) (fed m f a s)
unfolding fed
fed_append m zero f a s = rw add-zero
fed_append m (suc n) f a s = rw (add-suc, ← fed_append m n f a s, add_assoc)

-- Equal rights are fed alike.
pub fed_alike : (n : ℕ) (f g : ℕ → ℕ) (a : ℕ) (s : Sheet) → ((j : ℕ) → a ≤ j → j < a + n → f j ≡ g j)
    → fed n f a s ≡ fed n g a s
unfolding fed
fed_alike zero f g a s h = refl
fed_alike (suc n) f g a s h =
    rw (h (a + n) (omega arith) (omega arith), fed_alike n f g a s (λ j lo hi. h j lo (omega arith)))

-- Words of one right are fed as one.
pub fed_same : (n q : ℕ) (f : ℕ → ℕ) (a : ℕ) (s : Sheet) → 0 < n → ((j : ℕ) → a ≤ j → j < a + n → f j ≡ q)
    → fed n f a s ≡ feed q a s
unfolding fed
fed_same zero q f a s h e = absurd (omega arith)
fed_same (suc n) q f a s h e = fed_alike (suc n) f (λ j. q) a s e ∙ same n
  where
    same : (m : ℕ) → fed (suc m) (λ j. q) a s ≡ feed q a s
    same zero = rw add-zero
    same (suc m) = feed_again q (a + suc m) _ (ap (λ t. t.run.right) (same m) ∙ feed_leaves q a s) ∙ same m

-- The numbers of the open run.

open_feed : (q a : ℕ) (s : Sheet) → OpenAt s.run a → OpenAt (feed q a s).run (a + 1)
unfolding feed closed
open_feed q a s f = go (eqb q s.run.right) (eqb s.run.right 0)
  where
    go : (t z : Bool)
        → OpenAt (cond t s (opened q a (cond z s
        (sheet (counted s.run (s.run.count + 1))
        (put_run s.run.from s.run.count (run_to a s.run) s.out))))).run (a + 1)
    go true z = record { domain = f.domain; some = λ h. omega (arith, f.some h); few = omega (arith, f.few) }
    go false true = record { domain = f.domain; some = λ h. omega arith; few = omega (arith, f.few) }
    go false false = record { domain = f.domain; some = λ h. omega arith; few = omega (arith, f.few) }

pub open_fed : (n : ℕ) (f : ℕ → ℕ) (a : ℕ) (s : Sheet) → OpenAt s.run a → OpenAt (fed n f a s).run (a + n)
unfolding fed
open_fed zero f a s h = rw add-zero h
open_fed (suc n) f a s h =
    let e : a + suc n ≡ a + n + 1 = omega arith in
    rw e (open_feed (f (a + n)) (a + n) _ (open_fed n f a s h))

-- A loop over `n` blocks of `u` words, from word `a` on: `i` of them are done.

pub record Along (f : ℕ → ℕ) (n u a : ℕ) (s₀ : Sheet) (i : ℕ) (s : Sheet) : Type 0 where
  pub high : i ≤ n
  pub numbers : OpenAt s.run (a + i * u)
  pub sum : s ≡ fed (i * u) f a s₀

-- Block `i` lies among all.
pub room : (i n u : ℕ) → i < n → i * u + u ≤ n * u
room i n u h =
    let e : (i + 1) * u ≡ i * u + u = rw add-mul (omega arith) in
    rw e at (mul-le-mul_right {m = i + 1} {n = n} u (omega arith))

pub along_start : (f : ℕ → ℕ) (n u a : ℕ) (s : Sheet) → OpenAt s.run a → Along f n u a s 0 s
unfolding fed
along_start f n u a s k =
    let z : a + 0 * u ≡ a = omega arith in
    record { high = omega arith; numbers = rw z k; sum = ap (λ m. fed m f a s) (sym (zero-mul u)) }

pub along_next : (f g : ℕ → ℕ) (n u a : ℕ) (s₀ : Sheet) (i : ℕ) (s t : Sheet) → Along f n u a s₀ i s → i < n
    → ((j : ℕ) → a + i * u ≤ j → j < a + i * u + u → g j ≡ f j) → t ≡ fed u g (a + i * u) s
    → Along f n u a s₀ (i + 1) t
along_next f g n u a s₀ i s t l h e k =
    let m : (i + 1) * u ≡ i * u + u = rw add-mul (omega arith) in
    let p : a + (i + 1) * u ≡ a + i * u + u = omega arith in
    record {
      high = omega arith;
      numbers = rw (p, k) (open_fed u g (a + i * u) s l.numbers);
      sum = k ∙ fed_alike u g f (a + i * u) s e ∙ rw (l.sum, m) (sym (fed_append (i * u) u f a s₀));
    }

pub along_end : (f : ℕ → ℕ) (n u a : ℕ) (s₀ : Sheet) (i : ℕ) (s : Sheet) → Along f n u a s₀ i s → n ≤ i → s
    ≡ fed (n * u) f a s₀
along_end f n u a s₀ i s l h = let e : i ≡ n = omega (arith, l.high) in l.sum ∙ rw e refl
