-- Laws of the tables of a pool of the paper's form, by the numbers of their blocks: which walks are led to them, and
-- where they stand.
use Prim.Native.Nat.{ℕ, zero, suc, ◌+◌, ◌*◌, ◌-◌, ◌/◌, ◌≤◌, ◌<◌}
use mathlib.Core.Path.{◌≡◌, refl, sym, ap, ◌∙◌}
use mathlib.Core.Bool.{true, false, ◌&&◌}
use native.Mathlib.Omega.{arith}
use Rattle.theory.specs.Pool.{SoundPool, Visits, here, next, entry, Led}
use Rattle.theory.proofs.Logic.{by_cases, and_both}
use Rattle.theory.proofs.BlockLaws.{one_word, one_owner, led_low}
use Rattle.theory.proofs.FinishedLaws.{led_place}
use Rattle.table.specs.declared.Shape.{Shape}
use Rattle.table.specs.Map.{addresses, index, leads, form_of}
use Rattle.table.proofs.BlockLaws.{together_block}
use Rattle.table.specs.Shape.{InRange, first_place, places, size}
use Rattle.table.proofs.FormLaws.{leads_place, lawful}
use Rattle.places.specs.Count.{blocks, domain_of, address_of}
use Rattle.places.specs.Final.{number, entry_of, old, was, place_at}
use Rattle.places.proofs.NumberLaws.{number_first, page_block, root_number}

-- Places are numbered in order.
pub place_number : (s : Shape) (h p : ℕ) → (place_at s h p - first_place s h) / size h ≡ p
place_number s zero p = omega arith
place_number s (suc h) p = omega arith

pub place_one : (s : Shape) (h p q : ℕ) → place_at s h p ≡ place_at s h q → p ≡ q
place_one s h p q e =
    sym (place_number s h p) ∙ ap (λ x. (x - first_place s h) / size h) e ∙ place_number s h q

pub place_less : (s : Shape) (h p q : ℕ) → place_at s h p < place_at s h q → p < q
place_less s zero p q lt = omega arith
place_less s (suc h) p q lt = omega arith

pub place_order : (s : Shape) (h p q : ℕ) → p ≤ q → place_at s h p ≤ place_at s h q
place_order s zero p q le = omega arith
place_order s (suc h) p q le = omega arith

-- A place of the pool can be named by an entry.
pub place_low : (s : Shape) (h p : ℕ) → InRange s → h < 2 → p < places s h → place_at s h p < 2147483648
place_low s zero p range hi b = omega arith
place_low s (suc zero) p range hi b = omega arith
place_low s (suc (suc h)) p range hi b = absurd (omega arith)

-- Of any pool: the tables to which the walk of an address is led are those of the blocks around it.
module _ (s : Shape) (P : ℕ → ℕ) (d a : ℕ) (ba : a < addresses) where
  page_entry : entry_of P 0 (number 0 d a) ≡ P (number 1 d a) + index 1 a
  page_entry = rw ((page_block d a ba).0, (page_block d a ba).1)

  page_old : old P 0 (number 0 d a) ≡ (old P 1 (number 1 d a) && leads 1 (P (P (number 1 d a) + index 1 a)))
  page_old = rw ((page_block d a ba).0, (page_block d a ba).1)

  root_visits : Visits (form_of s) P a 2 (entry (form_of s) d a) 2 (number 1 d a)
  root_visits = rw (root_number d a ba) here

  page_visits : {m k : ℕ} → Visits (form_of s) P a 2 (entry (form_of s) d a) m k → m ≡ 1
      → (old P 1 (number 1 d a) ≡ true) × (k ≡ P (number 1 d a) + index 1 a)
  page_visits here e = absurd (omega arith)
  page_visits (next {m} {j} v l) e =
      let x : j ≡ number 1 d a = one_word (form_of s) P v root_visits (ap suc e) in
      (rw x at l, rw (x, e) refl)

  -- Domain `d` is led to a table of height `h` where its block has one, and to the place that the block's entry names
  -- ..
  pub led_old : (h t : ℕ) → Led (form_of s) P d a h t → (old P h (number h d a) ≡ true)
      × (P (entry_of P h (number h d a)) ≡ t)
  led_old zero t (k, v, l, e) =
      let (o, x) = page_visits v refl in
      let y : leads 1 (P (P (number 1 d a) + index 1 a)) ≡ true = rw x at l in
      (page_old ∙ rw (o, y) refl, ap P (page_entry ∙ sym x) ∙ e)
  led_old (suc zero) t (k, v, l, e) =
      let x : k ≡ number 1 d a = one_word (form_of s) P v root_visits refl in
      (rw x at l, rw x at e)
  led_old (suc (suc h)) t x = let z = led_low (form_of s) P d a (suc (suc h)) x in absurd (omega arith)

  -- .. and only there.
  pub old_led : (h : ℕ) → h < 2 → old P h (number h d a) ≡ true → Led (form_of s) P d a h
      (P (entry_of P h (number h d a)))
  old_led zero hi o =
      let (x, y) = and_both (old P 1 (number 1 d a)) (leads 1 (P (P (number 1 d a) + index 1 a)))
      (sym page_old ∙ o) in
      (P (number 1 d a) + index 1 a, next root_visits x, y, ap P (sym page_entry))
  old_led (suc zero) hi o = (number 1 d a, root_visits, o, refl)
  old_led (suc (suc h)) hi o = absurd (omega arith)

  pub not_led_old : (h : ℕ) → h < 2 → ((t : ℕ) → Led (form_of s) P d a h t → ⊥) → old P h (number h d a) ≡ false
  not_led_old h hi f = by_cases (old P h (number h d a)) (λ o. absurd (f _ (old_led h hi o))) (λ o. o)

-- Of a sound pool: the table of a block stands at a place, and no two stand at one.
module _ (s : Shape) {P : ℕ → ℕ} (sP : SoundPool (form_of s) P) (h : ℕ) (hi : h < 2) where
  -- A block with a table, as a walk that is led to it.
  led_by : (i : ℕ) → i < blocks h * s.domains → old P h i ≡ true
      → Led (form_of s) P (domain_of h i) (address_of h i) h (P (entry_of P h i))
  led_by i bi o =
      let (bd, ba, e) = number_first h s.domains i hi bi in
      rw e at (old_led s P (domain_of h i) (address_of h i) ba h hi (rw e o))

  pub old_at : (i : ℕ) → i < blocks h * s.domains → old P h i ≡ true
      → (was s P h i < places s h) × (P (entry_of P h i) ≡ place_at s h (was s P h i))
  old_at i bi o =
      let (bd, _, _) = number_first h s.domains i hi bi in
      let (w, g, l, e) = led_place (form_of s) (lawful s) sP (domain_of h i) (address_of h i) h bd (led_by i bi o) in
      let (_, p, bp, x) = leads_place s h w g l in
      let y : P (entry_of P h i) ≡ place_at s h p = sym e ∙ x in
      let z : was s P h i ≡ p = ap (λ v. (v - first_place s h) / size h) y ∙ place_number s h p in
      (rw z bp, rw z y)

  pub old_below : (i : ℕ) → i < blocks h * s.domains → old P h i ≡ true → was s P h i < places s h
  old_below i bi o = (old_at i bi o).0

  pub old_one : (i j : ℕ) → i < blocks h * s.domains → j < blocks h * s.domains → old P h i ≡ true → old P h j ≡ true
      → was s P h i ≡ was s P h j → i ≡ j
  old_one i j bi bj o q e =
      let (bd, ba, x) = number_first h s.domains i hi bi in
      let (be, bb, y) = number_first h s.domains j hi bj in
      let t : P (entry_of P h j) ≡ P (entry_of P h i) =
      (old_at j bj q).1 ∙ ap (place_at s h) (sym e) ∙ sym (old_at i bi o).1 in
      let (f, g) = one_owner (form_of s) (lawful s) sP (domain_of h i) (address_of h i) (domain_of h j)
      (address_of h j) h (P (entry_of P h i)) bd be
      (led_by i bi o) (rw t at (led_by j bj q)) in
      let k = together_block s (suc h) (address_of h i) (address_of h j) hi ba bb g in
      sym x ∙ rw (f, k) y
