-- Words of tables that stand as they stood, over blocks whose rights stay, are what they were.
use Prim.Native.Nat.{ℕ, zero, suc, ◌+◌, ◌*◌, ◌/◌, ◌%◌, ◌≤◌, ◌<◌}
use mathlib.Core.Path.{◌≡◌, refl, sym, ap, ◌∙◌}
use mathlib.Core.Bool.{Bool, true, false}
use native.Mathlib.Omega.{arith}
use Rattle.theory.specs.Form.{Form}
use Rattle.theory.specs.Pool.{Visits, here, next, entry, right_of}
use Rattle.theory.proofs.Logic.{by_cases}
use Rattle.theory.proofs.SettledLaws.{says_at}
use Rattle.table.specs.declared.Shape.{Shape}
use Rattle.table.specs.Map.{addresses, block, leads, index, form_of}
use Rattle.table.specs.Wants.{said_of, wants_of}
use Rattle.table.proofs.BlockLaws.{block_above}
use Rattle.table.proofs.FormLaws.{lawful}
use Rattle.table.proofs.WantLaws.{wants_unsaid, says_said, pool_rights}
use Rattle.places.specs.Count.{blocks, domain_of, address_of, want}
use Rattle.places.specs.Final.{old, place_at, entry_of, entry_word, table_word}
use Rattle.places.proofs.NumberLaws.{number_first, number_of, offset_below, address_index, root_number}
use Rattle.places.proofs.OldLaws.{led_old, old_led, old_at}
use Rattle.places.proofs.OwnedLaws.{seek_keeps}
use Rattle.places.proofs.FinalWordLaws.{InPlace, entry_leads, entry_says_lem}
use Rattle.targets.specs.declared.Paint.{Paint}
use Rattle.plan.specs.Aims.{aim_of, aimed_at}
use Rattle.plan.proofs.Setting.{Setting}
use Rattle.plan.proofs.BlockRightsLaws.{wants_near, said_near}
use Rattle.plan.proofs.MeetLaws.{RightsStay}
use Rattle.plan.proofs.WantedLaws.{first_address, stays_want}

module _ {s : Shape} {d : ℕ} {paint : Paint} {P : ℕ → ℕ} {owner : ℕ → ℕ → ℕ} {free : ℕ → ℕ → Bool}
    (c : Setting s d paint P owner free) where
  abbrev D : ℕ
  D = s.domains

  abbrev F : Form
  F = form_of s

  abbrev R : ℕ → ℕ → ℕ
  R = right_of (form_of s) P

  abbrev T : ℕ → ℕ → ℕ
  T = aimed_at s (aim_of d paint) P

  -- Entry `j` of a place whose owner had its table before: the walk of the old pool comes there.
  pub place_visits : (k h p j : ℕ) → InPlace s k h p j → owner h p < blocks h * D → old P h (owner h p) ≡ true
      → Visits F P (address_of h (owner h p) + block h * j) 2
      (entry F (domain_of h (owner h p)) (address_of h (owner h p) + block h * j)) h k
  place_visits k h p j (hi, bp, bj, q) bo o =
      let i = owner h p in
      let e = domain_of h i in
      let a = address_of h i + block h * j in
      let (be, ba, x) = number_of h D i (block h * j) hi bo (offset_below h j hi bj) in
      let (r, v, l, t) = old_led s P e a ba h hi (rw x o) in
      let y : P r ≡ place_at s h p =
      t ∙ ap (λ u. P (entry_of P h u)) x ∙ (old_at s c.settled.sound h hi i bo o).1
      ∙ ap (place_at s h) (sym ((c.placed h hi).held.kept p bp bo o).1) in
      let z : P r + index h a ≡ k = ap (λ u. u + index h a) y ∙ ap (λ u. place_at s h p + u)
      (address_index h i j hi bj) ∙ sym q in
      rw z at (next v l)

  -- A word that the old walk visits, of a block whose rights stay, and that did not lead.
  module _ (m e a k : ℕ) (hm : m ≤ 2) (be : e < D) (ba : a < addresses) (v : Visits F P a 2 (entry F e a) m k)
      (l : leads m (P k) ≡ false)
      (near : (b : ℕ) → b < addresses → b / block m ≡ a / block m → T e b ≡ R e b) where
    said_stays : said_of (T e) m a ≡ P k
    said_stays = said_near (T e) (R e) m a ba near
        ∙ sym (says_said s (R e) m a (pool_rights s P e) hm ba (P k)
        (says_at F (lawful s) P c.settled.sound e a m k be v l))

    unsaid_stays : wants_of (T e) m a ≡ false
    unsaid_stays = by_cases (wants_of (T e) m a)
        (λ w. absurd (wants_unsaid s (R e) m a (P k) ba (sym (wants_near (T e) (R e) m a ba near) ∙ w)
        (says_at F (lawful s) P c.settled.sound e a m k be v l)))
        (λ w. w)

  -- The entry of a block whose rights stay, where the old walk comes to it.
  entry_stays : (h i k : ℕ) → h < 2 → i < blocks h * D → RightsStay s d paint P h i
      → Visits F P (address_of h i) 2 (entry F (domain_of h i) (address_of h i)) (suc h) k
      → entry_word s owner T P h i ≡ P k
  entry_stays h i k hi bi st v =
      let (be, ba, x) = number_first h D i hi bi in
      by_cases (leads (suc h) (P k))
      (λ l.
      let (o, t) = led_old s P (domain_of h i) (address_of h i) ba h (P k) (k, v, l, refl) in
      let o : old P h i ≡ true = rw x at o in
      let w : want T h i ≡ true = stays_want s d paint P h i hi bi c.settled st ∙ o in
      entry_leads s owner T P h i w
      ∙ ap (place_at s h) (seek_keeps _ _ _ _ _ _ (c.placed h hi) i bi w o).1
      ∙ sym (old_at s c.settled.sound h hi i bi o).1 ∙ (rw x at t))
      (λ l.
      entry_says_lem s owner T P h i (unsaid_stays (suc h) (domain_of h i) (address_of h i) k (omega arith) be ba
      v l near)
      ∙ said_stays (suc h) (domain_of h i) (address_of h i) k (omega arith) be ba v l near)
    where
      near : (b : ℕ) → b < addresses → b / block (suc h) ≡ address_of h i / block (suc h) → T (domain_of h i) b
          ≡ R (domain_of h i) b
      near b bb y = st b bb (y ∙ first_address h i hi)

  -- A root word.
  pub root_stays : (k : ℕ) → k < 1024 * D → RightsStay s d paint P 1 k → entry_word s owner T P 1 k ≡ P k
  root_stays k bk st =
      let (be, ba, x) = number_first 1 D k (omega arith) bk in
      entry_stays 1 k k (omega arith) bk st (rw (root_number (domain_of 1 k) (address_of 1 k) ba ∙ x) here)

  -- A word of a middle table, by its page.
  pub middle_stays : (k p j : ℕ) → InPlace s k 1 p j → owner 1 p < 1024 * D → old P 1 (owner 1 p) ≡ true
      → RightsStay s d paint P 0 (1024 * owner 1 p + j) → table_word s owner T P 1 (owner 1 p) j ≡ P k
  middle_stays k p j x bo o st =
      let u : domain_of 0 (1024 * owner 1 p + j) ≡ domain_of 1 (owner 1 p) = omega arith in
      let w : address_of 0 (1024 * owner 1 p + j) ≡ address_of 1 (owner 1 p) + 4096 * j = omega arith in
      entry_stays 0 (1024 * owner 1 p + j) k (omega arith) (omega arith) st (rw (u, w) (place_visits k 1 p j x bo o))

  -- The pages of a block whose rights stay, stay.
  page_stays : (i j : ℕ) → j < 1024 → RightsStay s d paint P 1 i → RightsStay s d paint P 0 (1024 * i + j)
  page_stays i j bj st b bb e =
      let u : domain_of 0 (1024 * i + j) ≡ domain_of 1 i = omega arith in
      let w : b / 4194304 ≡ i % 1024 = omega arith in
      rw u (st b bb w)

  -- A word of the table of a block whose rights stay.
  pub table_stays : (k h p j : ℕ) → InPlace s k h p j → owner h p < blocks h * D → old P h (owner h p) ≡ true
      → RightsStay s d paint P h (owner h p) → table_word s owner T P h (owner h p) j ≡ P k
  table_stays k zero p j x bo o st =
      let (be, ba, _) = number_of 0 D (owner 0 p) (64 * j) (omega arith) bo (omega arith) in
      let w : (address_of 0 (owner 0 p) + 64 * j) / 4096 ≡ owner 0 p % 1048576 = omega arith in
      said_stays 0 (domain_of 0 (owner 0 p)) (address_of 0 (owner 0 p) + 64 * j) k (omega arith) be ba
      (place_visits k 0 p j x bo o) refl
      (λ b bb y. st b bb (block_above 1 0 b _ (omega arith) (omega arith) y ∙ w))
  table_stays k (suc zero) p j x bo o st = middle_stays k p j x bo o (page_stays (owner 1 p) j x.2 st)
  table_stays k (suc (suc h)) p j x bo o st = let hi = x.0 in absurd (omega arith)
