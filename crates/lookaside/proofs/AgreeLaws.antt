-- Laws of agreement: an emptied buffer agrees with every table; checks, flushes and changes keep agreement, up to
-- what is stale; and a check by a buffer that agrees says what a walk says. Assumes nothing.
use Prim.Native.Nat.{ℕ, zero, suc, ◌/◌, ◌%◌, ◌≤◌, ◌<◌}
use mathlib.Core.Path.{◌≡◌, refl, sym, ap, ◌∙◌}
use mathlib.Core.Logic.{⊎_elim}
use mathlib.Core.Bool.{Bool, true, false, cond, ◌&&◌, ◌||◌, not, false≢true}
use mathlib.Core.List.{List, [], ◌∷◌}
use native.Mathlib.Omega.{arith}
use lib.Dec.{eqb}
use Rattle.std.specs.Prelude.{Option, Some, None, Result, Ok, Err}
use Rattle.std.specs.List.{All}
use Rattle.std.proofs.lemmas.List.Elements.{All-head, All-tail, All-replicate, All-set, All-weaker, All-map}
use Rattle.words.specs.declared.Region.{Region}
use Rattle.words.specs.Region.{covered}
use Rattle.theory.specs.Settled.{Together}
use Rattle.refusals.specs.declared.Refusal.{Refusal}
use Rattle.table.specs.declared.Shape.{Shape}
use Rattle.table.specs.declared.Deciding.{Deciding}
use Rattle.table.specs.Shape.{size}
use Rattle.table.specs.Map.{addresses, block, form_of}
use Rattle.table.specs.Lookup.{lookup_of}
use Rattle.table.proofs.LookupLaws.{right_block}
use Rattle.lookaside.specs.declared.Slot.{Slot}
use Rattle.lookaside.specs.Slots.{Buffer, height_of, block_bytes, matches, first_match, slot_right, slot_for, empty_slot}
use Rattle.lookaside.specs.Slots.{empty_buffer}
use Rattle.lookaside.specs.Flushes.{Flushing, Whole, OfDomain, OfRegion, flushes, flushed_slot, flushed_buffer}
use Rattle.lookaside.specs.Check.{walked, answered, check_of}
use Rattle.lookaside.specs.Agree.{Rights, Places, nowhere, within, clears, both, less, rights_of, SameBut}
use Rattle.lookaside.specs.Agree.{SlotAgrees, AgreesBut}
use Rattle.lookaside.proofs.TestLaws.{both_true, less_false, round_count}
use Rattle.lookaside.proofs.SlotLaws.{match_is}
use Rattle.lookaside.proofs.BufferLaws.{first_matches}
use Rattle.lookaside.proofs.CheckLaws.{check_cases}
use Rattle.lookaside.proofs.FlushLaws.{clears_flushes}

-- What holds of every slot holds of the one that is found.
all_found : (A : Slot → Type 0) (l : List Slot) (d a : ℕ) (s : Slot) → All A l → first_match l d a ≡ Some s → A s
unfolding first_match
all_found A [] d a s e h = cc
all_found A (x ∷ xs) d a s e h = go (matches x d a) (all_found A xs d a s (All-tail A x xs e)) h
  where
    go : (t : Bool) → (first_match xs d a ≡ Some s → A s) → cond t (Some x) (first_match xs d a) ≡ Some s → A s
    go true later h = let q : x ≡ s = cc in rw (← q) (All-head A x xs e)
    go false later h = later h

-- An emptied slot matches nothing, so an emptied buffer agrees with every table.

empty_unmatched : (d a : ℕ) → matches empty_slot d a ≡ true → ⊥
empty_unmatched d a m = false≢true (match_is empty_slot d a m).level

pub emptied_agrees : (n : ℕ) (R : Rights) (x : Places) → AgreesBut n R x empty_buffer
unfolding empty_buffer
emptied_agrees n R x = All-replicate (SlotAgrees n R x) 64 empty_slot (λ d a _ _ _ m. absurd (empty_unmatched d a m))

-- Another table: agreement is kept but for where the two differ.

module _ (n : ℕ) (R T : Rights) (b : Buffer) where
  pub change_agrees : (x y : Places) → SameBut n y R T → AgreesBut n R x b → AgreesBut n T (both x y) b
  change_agrees x y same = All-weaker (SlotAgrees n R x) (SlotAgrees n T (both x y)) one b.slots
    where
      halves : (t u : Bool) → (t || u) ≡ false → (t ≡ false) × (u ≡ false)
      halves true u h = absurd (false≢true (sym h))
      halves false u h = (refl, h)

      one : (s : Slot) → SlotAgrees n R x s → SlotAgrees n T (both x y) s
      one s g d a hd ha z m =
          let (p, q) = halves (x d a) (y d a) z in
          g d a hd ha p m ∙ same d a hd ha q

  -- A tidying alters no right, so nothing more is stale.
  pub tidy_agrees : (x : Places) → SameBut n nowhere R T → AgreesBut n R x b → AgreesBut n T x b
  tidy_agrees x same = All-weaker (SlotAgrees n R x) (SlotAgrees n T x)
      (λ s g d a hd ha z m. g d a hd ha z m ∙ same d a hd ha refl) b.slots

-- Agreement but at some places is agreement but at more.
pub more_agrees : (n : ℕ) (R : Rights) (b : Buffer) (x y : Places) → ((d a : ℕ) → y d a ≡ false → x d a ≡ false)
    → AgreesBut n R x b → AgreesBut n R y b
more_agrees n R b x y sub = All-weaker (SlotAgrees n R x) (SlotAgrees n R y)
    (λ s g d a hd ha z. g d a hd ha (sub d a z)) b.slots

-- Flushes: what they clear is stale no more.

flush_slot_agrees : (n : ℕ) (R : Rights) (x : Places) (f : Flushing) (s : Slot) → SlotAgrees n R x s
    → SlotAgrees n R (less x (clears f)) (flushed_slot f s)
unfolding flushed_slot
flush_slot_agrees n R x f s g = go (flushes f s) refl
  where
    go : (t : Bool) → flushes f s ≡ t → SlotAgrees n R (less x (clears f)) (cond t empty_slot s)
    go true e d a hd ha z m = absurd (empty_unmatched d a m)
    go false e d a hd ha z m =
        ⊎_elim (λ p. g d a hd ha p m) (λ c. absurd (false≢true (sym e ∙ clears_flushes f s d a m c)))
        (less_false (x d a) (clears f d a) z)

pub flush_agrees : (n : ℕ) (R : Rights) (x : Places) (f : Flushing) (b : Buffer) → AgreesBut n R x b
    → AgreesBut n R (less x (clears f)) (flushed_buffer f b)
unfolding flushed_buffer
flush_agrees n R x f b g =
    let A : Slot → Type 0 = SlotAgrees n R (less x (clears f)) in
    All-map A (flushed_slot f) b.slots
    (All-weaker (SlotAgrees n R x) (λ s. A (flushed_slot f s)) (flush_slot_agrees n R x f) b.slots g)

-- A fill: the entry that decided a lookup gives the table's right on its whole block.

block_count : (h i a : ℕ) → h ≤ i → a / block i ≡ a / block h / (block i / block h)
block_count zero zero a l = omega arith
block_count zero (suc zero) a l = omega arith
block_count zero (suc (suc i)) a l = omega arith
block_count (suc zero) zero a l = absurd (omega arith)
block_count (suc zero) (suc zero) a l = omega arith
block_count (suc zero) (suc (suc i)) a l = omega arith
block_count (suc (suc h)) zero a l = absurd (omega arith)
block_count (suc (suc h)) (suc zero) a l = absurd (omega arith)
block_count (suc (suc h)) (suc (suc i)) a l = omega arith

-- Two addresses of one block go by the same entries down to it.
pub block_together : (s : Shape) (h a c : ℕ) → a / block h ≡ c / block h → Together (form_of s) h a c
block_together s h a c e i lo hi =
    ap (λ q. q % size i) (block_count h i a lo ∙ ap (λ q. q / (block i / block h)) e ∙ sym (block_count h i c lo))

filling_agrees : (p : List ℕ) (s : Shape) (d a : ℕ) (y : Deciding) (x : Places) → lookup_of p s d a ≡ Ok y
    → SlotAgrees s.domains (rights_of s p) x (slot_for d a y.entry y.loads)
filling_agrees p s d a y x e f c hf hc z m =
    let n = y.loads in
    let g = match_is (slot_for d a y.entry n) f c m in
    let q : a / block_bytes n ≡ c / block_bytes n = sym
    (round_count (block_bytes n) (a / block_bytes n) c g.from g.to) in
    sym (right_block p s d a y e c hc (block_together s (height_of n) a c q)) ∙ ap (λ v. rights_of s p v c)
    g.domain

walked_agrees : (p : List ℕ) (s : Shape) (x : Places) (b : Buffer) (d kind a : ℕ) (f : Result Deciding Refusal) → lookup_of p s d a ≡ f
    → AgreesBut s.domains (rights_of s p) x b → AgreesBut s.domains (rights_of s p) x (walked f b d kind a).buffer
walked_agrees p s x b d kind a (Ok y) e g =
    All-set (SlotAgrees s.domains (rights_of s p) x) b.slots b.next
    (slot_for d a y.entry y.loads) (filling_agrees p s d a y x e) g
walked_agrees p s x b d kind a (Err r) e g = g

answered_agrees : (p : List ℕ) (s : Shape) (x : Places) (b : Buffer) (d kind a : ℕ) (h : Option Slot)
    → AgreesBut s.domains (rights_of s p) x b → AgreesBut s.domains (rights_of s p) x
    (answered h p s b d kind a).buffer
answered_agrees p s x b d kind a (Some t) g = g
answered_agrees p s x b d kind a None g = walked_agrees p s x b d kind a (lookup_of p s d a) refl g

-- A check, refused or not, leaves a buffer that agrees as it did.
pub check_agrees : (p : List ℕ) (s : Shape) (x : Places) (b : Buffer) (d kind size a : ℕ)
    → AgreesBut s.domains (rights_of s p) x b → AgreesBut s.domains (rights_of s p) x
    (check_of p s b d kind size a).buffer
check_agrees p s x b d kind size a g = check_cases p s b d kind size a
    (λ c. AgreesBut s.domains (rights_of s p) x c.buffer) (λ _ _. g)
    (λ _. answered_agrees p s x b d kind a (first_match b.slots d a) g)

-- Flushes after a change.

-- Flushed of all that a change altered, a buffer that agreed with the old table agrees with the new one.
pub change_flush_agrees : (n : ℕ) (R T : Rights) (y : Places) (f : Flushing) (b : Buffer) → SameBut n y R T
    → ((d a : ℕ) → y d a ≡ true → clears f d a ≡ true) → AgreesBut n R nowhere b → AgreesBut n T nowhere
    (flushed_buffer f b)
change_flush_agrees n R T y f b same all g =
    more_agrees n T (flushed_buffer f b) (less (both nowhere y) (clears f)) nowhere (λ d a _. gone d a (y d a) refl)
    (flush_agrees n T (both nowhere y) f b (change_agrees n R T b nowhere y same g))
  where
    gone : (d a : ℕ) (t : Bool) → y d a ≡ t → (t && not (clears f d a)) ≡ false
    gone d a true e = ap not (all d a e)
    gone d a false e = refl

-- After a change in domain `e` inside the region `r`, each of the three flushes serves.
module _ (n : ℕ) (R T : Rights) (e : ℕ) (r : Region) (b : Buffer) (same : SameBut n (within e r) R T)
    (g : AgreesBut n R nowhere b) where
  pub change_flush_region : AgreesBut n T nowhere (flushed_buffer (OfRegion e r) b)
  change_flush_region = change_flush_agrees n R T (within e r) (OfRegion e r) b same (λ d a h. h) g

  pub change_flush_domain : AgreesBut n T nowhere (flushed_buffer (OfDomain e) b)
  change_flush_domain = change_flush_agrees n R T (within e r) (OfDomain e) b same
      (λ d a h. (both_true (eqb d e) (covered r a) h).0) g

  pub change_flush_all : AgreesBut n T nowhere (flushed_buffer Whole b)
  change_flush_all = change_flush_agrees n R T (within e r) Whole b same (λ d a h. refl) g

-- A flush keeps agreement.
pub flush_keeps : (n : ℕ) (R : Rights) (x : Places) (f : Flushing) (b : Buffer) → AgreesBut n R x b
    → AgreesBut n R x (flushed_buffer f b)
flush_keeps n R x f b g =
    more_agrees n R (flushed_buffer f b) (less x (clears f)) x (λ d a z. ap (λ t. t && not (clears f d a)) z)
    (flush_agrees n R x f b g)

-- The right that a slot answers is the table's.
pub hit_right : (n : ℕ) (R : Rights) (x : Places) (b : Buffer) (d a : ℕ) (t : Slot) → AgreesBut n R x b
    → first_match b.slots d a ≡ Some t
    → d < n → a < addresses → x d a ≡ false → slot_right t a ≡ R d a
hit_right n R x b d a t g h hd ha z =
    all_found (SlotAgrees n R x) b.slots d a t g h d a hd ha z (first_matches b.slots d a t h)
