-- A small form that has all that the theory asks of one: eight addresses, and a root, a middle table and a leaf of
-- two words each.
use Prim.Native.Nat.{ℕ, zero, suc, ◌+◌, ◌*◌, ◌-◌, ◌/◌, ◌%◌, ◌≤◌, ◌<◌}
use mathlib.Core.Path.{◌≡◌, sym, ◌∙◌}
use mathlib.Core.Logic.{◌≢◌, ◌⊎◌, inl, inr, ⊎_elim}
use mathlib.Core.Bool.{true, ◌||◌}
use native.Mathlib.Omega.{arith}
use native.Mathlib.Decide.{ℕ_discrete}
use lib.Dec.{ltb, leb, eqb}
use borrow.Author.Tests.{ltb-true, ltb-false, le-ltb, le-leb, lt-leb, eqb-true}
use Rattle.theory.specs.Form.{Form}
use Rattle.theory.specs.Pool.{right_of}
use Rattle.theory.specs.Settled.{Together, Says}
use Rattle.theory.specs.Lawful.{Lawful, Exact, Wanting}
use Rattle.theory.proofs.BlockLaws.{together_refl, together_above, together_dec}

abbrev index : ℕ → ℕ → ℕ
index zero a = a % 2
index (suc zero) a = a / 2 % 2
index (suc (suc h)) a = a / 4 % 2

abbrev Block : ℕ → ℕ → ℕ → Type 0
Block h a b = (i : ℕ) → h ≤ i → i ≤ 2 → index i a ≡ index i b

-- Two addresses of the block have different rights.
abbrev Two : ℕ → (ℕ → ℕ) → ℕ → Type 0
Two h R a = (b : ℕ) × (c : ℕ) × (b < 8) × (c < 8) × Block h a b × Block h a c × (R b ≢ R c)

-- An entry of height `h` below `10 * h` leads, to the middle table at 2 or the leaf at 4; from there on it says one
-- right for its block.
abbrev pub small : Form
small = record {
  top = 2;
  domains = 1;
  span = 8;
  root = λ d. 0;
  size = λ h. 2;
  index = index;
  good = λ h w. leb (10 * h) w || eqb (w + 2 * h) 6;
  leads = λ h w. ltb w (10 * h);
  target = λ h w. w;
  says = λ h w a. w - 10 * h;
  Wants = Two;
  zone = λ j. 2 - j / 2;
}

index_low : (h a : ℕ) → index h a < 2
index_low zero a = omega arith
index_low (suc zero) a = omega arith
index_low (suc (suc h)) a = omega arith

place : (h w : ℕ) → small.good h w ≡ true → small.leads h w ≡ true → w + 2 * h ≡ 6
place h w g l = eqb-true (w + 2 * h) 6 (rw (lt-leb (10 * h) w (ltb-true w (10 * h) l)) at g)

pub small_lawful : Lawful small
small_lawful = record {
  index_below = index_low;
  root_zone = λ d i b c. omega arith;
  root_apart = λ d i e j b c f g q. omega arith;
  target_zone = λ h w i g l c. let p = place (suc h) w g l in omega arith;
  target_apart = λ h w i x j g l f m b c e. let p = place (suc h) w g l in let q = place (suc h) x f m in omega arith;
}

at : (h a i : ℕ) → a < 8 → i < 2 → (b : ℕ) × (b < 8) × Together small (suc h) a b × (index h b ≡ i)
at zero a i b c = (a / 2 * 2 + i, omega arith, go, omega arith)
  where
    go : Together small 1 a (a / 2 * 2 + i)
    go zero lo hi = absurd (omega arith)
    go (suc zero) lo hi = omega arith
    go (suc (suc n)) lo hi = omega arith
at (suc zero) a i b c = (a / 4 * 4 + 2 * i, omega arith, go, omega arith)
  where
    go : Together small 2 a (a / 4 * 4 + 2 * i)
    go zero lo hi = absurd (omega arith)
    go (suc zero) lo hi = absurd (omega arith)
    go (suc (suc n)) lo hi = omega arith
at (suc (suc h)) a i b c = (4 * i, omega arith, λ n lo hi. absurd (omega arith), omega arith)

pub small_exact : Exact small
small_exact = record {
  some = omega arith;
  last = λ w. le-ltb w 0 (omega arith);
  target_exact = λ h w x g l f m e. e;
  says_exact = λ h a w x R b s t.
      let p = s.each a b (together_refl small h a) in
      let q = t.each a b (together_refl small h a) in
      omega (arith, ltb-false w (10 * h) s.rights, ltb-false x (10 * h) t.rights);
  at_index = at;
}

-- Below `n`, some address of the block has another right than `a`, or none has.
module _ (h a : ℕ) (R : ℕ → ℕ) (le : h ≤ 2) where
  abbrev Found : ℕ → Type 0
  Found n = ((b : ℕ) × (b < n) × Together small h a b × (R b ≢ R a))
      ⊎ ((b : ℕ) → b < n → Together small h a b → R b ≡ R a)

  find : (n : ℕ) → Found n
  find zero = inr (λ b lo t. absurd (omega arith))
  find (suc n) = go (find n) (together_dec small h a n le) (ℕ_discrete (R n) (R a))
    where
      go : Found n → Dec (Together small h a n) → Dec (R n ≡ R a) → Found (suc n)
      go (inl (b, lo, t, d)) u v = inl (b, omega arith, t, d)
      go (inr f) (yes t) (no d) = inl (n, omega arith, t, d)
      go (inr f) (yes t) (yes e) = inr (λ b lo s. elim (ℕ_discrete b n) [ yes p ↦ rw p e | no p ↦ f b (omega arith) s ])
      go (inr f) (no t) v = inr (λ b lo s. elim (ℕ_discrete b n) [
        | yes p ↦ absurd (t (rw p at s))
        | no p ↦ f b
            (omega arith) s
      ])

said : (h a : ℕ) (R : ℕ → ℕ) → ((b : ℕ) → b < 8 → Together small h a b → R b ≡ R a) → Says small h R a (10 * h + R a)
said h a R f = record {
  good = rw (le-leb (10 * h) (10 * h + R a) (omega arith));
  rights = le-ltb (10 * h + R a) (10 * h) (omega arith);
  each = λ b lo t. let e = f b lo t in omega arith;
}

pub small_wanting : Wanting small
small_wanting = record {
  same = λ h a R T e (c, d, p, q, t, u, x). (c, d, p, q, t, u, λ y. x (e c p ∙ y ∙ sym (e d q)));
  up = λ h a R b lo (c, d, p, q, t, u, x). (
    c,
    d,
    p,
    q,
    together_above small (suc h) _ a c (omega arith) t,
    together_above small (suc h) _ a d
        (omega arith) u,
    x,
  );
  unsaid = λ h a w R b (c, d, p, q, t, u, x) s. x (sym (s.each c p t) ∙ s.each d q u);
  decided = λ P d a h bd ba le. ⊎_elim
      (λ (c, lo, t, x). inl (c, a, lo, ba, t, together_refl small h a, x))
      (λ f. inr (10 * h + right_of small P d a, said h a (right_of small P d) f)) (find h a (right_of small P d) le 8);
}
