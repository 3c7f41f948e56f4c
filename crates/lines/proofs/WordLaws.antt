-- The words of a line taken one after the other, and what so many words ask for.
use Prim.Native.Nat.{ℕ, ◌<◌}
use native.Mathlib.Omega.{arith}
use mathlib.Core.Bool.{Bool, true, false, cond, ◌&&◌}
use mathlib.Core.Path.{◌≡◌, refl, ap, ◌∙◌}
use mathlib.Core.List.{List, [], ◌∷◌, ◌++◌, append_assoc, append-nil}
use lib.Dec.{eqb}
use lib.ListN.{length, get_or, length-append}
use borrow.Author.Tests.{ne_eqb, eq-eqb}
use denote.Ref.{Bor}
use denote.Param.Members.{Mut}
use Rattle.std.proofs.Common.{Option, Some, None}
use Rattle.std.specs.List.{slice_split, onto_first}
use Rattle.std.specs.Slice.Iter as slice
use Rattle.std.specs.declared.slice.Split.{Split}
use Rattle.std.specs.Fn.{CalledAt}
use Rattle.std.proofs.lemmas.Iterator.{YieldsList}
use Rattle.std.proofs.lemmas.Iterator.Splits.{YieldsList-from_slice_split}
use Rattle.lines.specs.declared.Request.{Request}
use Rattle.lines.specs.Cuts.{onto, cut_at, words_of}
use Rattle.lines.specs.Forms.{is_number, all_numbers, is_s, is_request, request_of, value_of}
use Rattle.lines.specs.Inner.{number_of, asked_of}

-- Words are what a line is split into at each space.
onto_same : (b : ℕ) (ps : List (List ℕ)) → onto b ps ≡ onto_first b ps
unfolding onto
onto_same b [] = refl
onto_same b (p ∷ ps) = refl

pub words_split : (line : List ℕ) → words_of line ≡ slice_split (λ b. eqb b 32) line
unfolding cut_at
words_split [] = refl
words_split (b ∷ bs) = rw (words_split bs, onto_same)

-- ---- Words taken one after the other

-- The words of which the first were taken, with those that are left.
pub record Taken {S : Type 0} (steps : S → Option (Bor (List ℕ)) → S → Type 0) (ws front : List (List ℕ)) (s : S)
    : Type 0 where
  pub rest : List (List ℕ)
  pub all : ws ≡ front ++ rest
  pub left : YieldsList steps (λ x. x.now) s rest

module _ {S : Type 0} {steps : S → Option (Bor (List ℕ)) → S → Type 0} where
  taken_none : {ws : List (List ℕ)} {s : S} → YieldsList steps (λ x. x.now) s ws → Taken steps ws [] s
  taken_none {ws} y = record { rest = ws; all = refl; left = y }

  pub taken_more : {ws front : List (List ℕ)} {s : S} → Taken steps ws front s → (x : Bor (List ℕ)) (t : S)
      → steps s (Some x) t → Taken steps ws (front ++ (x.now ∷ [])) t
  taken_more {ws} {front} {s} k x t y = go k.rest k.all k.left
    where
      go : (rest : List (List ℕ)) → ws ≡ front ++ rest → YieldsList steps (λ x. x.now) s rest
          → Taken steps ws (front ++ (x.now ∷ [])) t
      go [] e l = absurd (l.runs x t y)
      go (w ∷ rest) e l =
          let p = l.runs.1 x t y in
          record { rest = rest; all = rw (append_assoc, p.0) e; left = record { runs = p.1 } }

  pub taken_all : {ws front : List (List ℕ)} {s : S} → Taken steps ws front s → (t : S) → steps s None t → ws ≡ front
  taken_all {ws} {front} {s} k t y = go k.rest k.all k.left
    where
      go : (rest : List (List ℕ)) → ws ≡ front ++ rest → YieldsList steps (λ x. x.now) s rest → ws ≡ front
      go [] e l = e ∙ append-nil front
      go (w ∷ rest) e l = absurd (l.runs.0 t y)

-- A line is split at its spaces, and its first word taken.
pub taken_first : {F : Type 0} {g : Mut F (Bor ℕ × Unit {0}) Bool} {f : F} (line : List ℕ) (s t : Split ℕ F)
    (x : Bor (List ℕ)) → slice.split_steps g s (Some x) t → slice.split_rest s ≡ line → slice.split_done s ≡ false
    → slice.split_callee s ≡ f → ((y : ℕ) (b : Bool) (q : F) → CalledAt g f y b q → (q ≡ f) × (b ≡ eqb y 32))
    → Taken (slice.split_steps g) (words_of line) (x.now ∷ []) t
taken_first {g = g} line s t x step rest done closure tests =
    rw (words_split line) (taken_more (taken_none (YieldsList-from_slice_split {s = s} g (λ b. eqb b 32) line rest done closure tests)) x t step)

-- ---- What they ask for

-- Fewer words than five or more ask for nothing ..
asked_other : (ws : List (List ℕ)) → (length ws ≡ 5 → ⊥) → asked_of ws ≡ None
unfolding asked_of is_request
asked_other ws n = rw (ne_eqb (length ws) 5 n)

none_of : (a b : Bool) (x : Option Request) → b ≡ false → cond (a && b) x None ≡ None
none_of true b x e = rw e
none_of false b x e = refl

asked_not_s : (w : List ℕ) (ws : List (List ℕ)) → is_s w ≡ false → asked_of (w ∷ ws) ≡ None
unfolding asked_of is_request
asked_not_s w ws e = none_of (eqb (length (w ∷ ws)) 5) (is_s w && all_numbers ws) _ (rw e)

bad_number : (front : List (List ℕ)) (w : List ℕ) (ws : List (List ℕ)) → is_number w ≡ false
    → all_numbers (front ++ (w ∷ ws)) ≡ false
unfolding all_numbers
bad_number [] w ws e = rw e
bad_number (v ∷ front) w ws e = rw (bad_number front w ws e) (go (is_number v))
  where
    go : (t : Bool) → (t && false) ≡ false
    go true = refl
    go false = refl

none_is : (w : List ℕ) → None ≡ number_of w → is_number w ≡ false
none_is w e = go (is_number w) e
  where
    go : (t : Bool) → None ≡ cond t (Some (value_of w)) None → t ≡ false
    go true e = cc
    go false e = refl

some_is : (w : List ℕ) {v : ℕ} → Some v ≡ number_of w → (is_number w ≡ true) × (value_of w ≡ v)
some_is w {v} e = go (is_number w) e
  where
    go : (t : Bool) → Some v ≡ cond t (Some (value_of w)) None → (t ≡ true) × (value_of w ≡ v)
    go true e = (refl, (cc))
    go false e = cc

asked_bad : (s : List ℕ) (front : List (List ℕ)) (w : List ℕ) (ws : List (List ℕ)) → None ≡ number_of w
    → asked_of (s ∷ (front ++ (w ∷ ws))) ≡ None
unfolding asked_of is_request
asked_bad s front w ws e =
    let n = bad_number front w ws (none_is w e) in
    none_of (eqb (length (s ∷ (front ++ (w ∷ ws)))) 5) (is_s s && all_numbers (front ++ (w ∷ ws))) _
    (rw n (go (is_s s)))
  where
    go : (t : Bool) → (t && false) ≡ false
    go true = refl
    go false = refl

asked_five : (s d a l r : List ℕ) {vd va vl vr : ℕ} → is_s s ≡ true → Some vd ≡ number_of d → Some va ≡ number_of a
    → Some vl ≡ number_of l → Some vr ≡ number_of r
    → asked_of (s ∷ d ∷ a ∷ l ∷ r ∷ []) ≡ Some (record { domain = vd; start = va; length = vl; right = vr })
unfolding asked_of is_request all_numbers request_of
asked_five s d a l r e f g h i =
    let (d₁, d₂) = some_is d f in
    let (a₁, a₂) = some_is a g in
    let (l₁, l₂) = some_is l h in
    let (r₁, r₂) = some_is r i in
    rw (e, d₁, a₁, l₁, r₁, d₂, a₂, l₂, r₂)

pub not_s_length : (w : List ℕ) → (length w ≡ 1 → ⊥) → is_s w ≡ false
unfolding is_s
not_s_length w n = rw (ne_eqb (length w) 1 n)

pub not_s_byte : (w : List ℕ) → (get_or w 0 0 ≡ 83 → ⊥) → is_s w ≡ false
unfolding is_s
not_s_byte w n = go (eqb (length w) 1)
  where
    go : (t : Bool) → (t && eqb (get_or w 0 0) 83) ≡ false
    go true = ne_eqb (get_or w 0 0) 83 n
    go false = refl

pub s_is : (w : List ℕ) → length w ≡ 1 → get_or w 0 0 ≡ 83 → is_s w ≡ true
unfolding is_s
s_is w e f = rw (eq-eqb _ _ e, eq-eqb _ _ f)

module _ {S : Type 0} {steps : S → Option (Bor (List ℕ)) → S → Type 0} {ws : List (List ℕ)} {t : S} where
  -- A line of fewer words than five, or more, asks for nothing ..
  pub none_few : {front : List (List ℕ)} → Taken steps ws front t → (u : S) → steps t None u → length front < 5
      → asked_of ws ≡ None
  none_few k u e h = rw (taken_all k u e) (asked_other _ (λ z. omega arith))

  pub none_many : {front : List (List ℕ)} → Taken steps ws front t → 5 < length front → asked_of ws ≡ None
  none_many {front} k h = asked_other ws (λ z. omega (arith, ap length k.all, length-append front k.rest))

  -- .. nor does one of which the first word is not `S` ..
  pub none_not_s : {w : List ℕ} → Taken steps ws (w ∷ []) t → is_s w ≡ false → asked_of ws ≡ None
  none_not_s {w} k e = rw k.all (asked_not_s w k.rest e)

  -- .. or another is no number.
  pub none_bad : (s : List ℕ) (front : List (List ℕ)) (w : List ℕ) → Taken steps ws ((s ∷ front) ++ (w ∷ [])) t
      → None ≡ number_of w → asked_of ws ≡ None
  none_bad s front w k e = ap asked_of (k.all ∙ append_assoc (s ∷ front) (w ∷ []) k.rest) ∙ asked_bad s front w k.rest e

  -- One of five words of the form asks.
  pub some_five : {s d a l r : List ℕ} {vd va vl vr : ℕ} → Taken steps ws (s ∷ d ∷ a ∷ l ∷ r ∷ []) t → (u : S)
      → steps t None u → is_s s ≡ true → Some vd ≡ number_of d → Some va ≡ number_of a → Some vl ≡ number_of l
      → Some vr ≡ number_of r → asked_of ws ≡ Some (record { domain = vd; start = va; length = vl; right = vr })
  some_five k u e z f g h i = rw (taken_all k u e) (asked_five _ _ _ _ _ z f g h i)
