-- The pool that `final` gives word by word is the finished one.
use Prim.Native.Nat.{ℕ, zero, suc, ◌+◌, ◌*◌, ◌≤◌, ◌<◌}
use mathlib.Core.Path.{◌≡◌, refl, sym, ap, ◌∙◌}
use mathlib.Core.Logic.{⊎_elim}
use mathlib.Core.Bool.{Bool, true, false}
use native.Mathlib.Omega.{arith}
use native.Mathlib.Decide.{dec_lt}
use borrow.Author.Tests.{le-ltb}
use Rattle.theory.specs.Form.{Form}
use Rattle.theory.specs.Pool.{SoundPool, Led}
use Rattle.theory.specs.Settled.{Together, Says}
use Rattle.theory.specs.Finished.{Place, Before, Finished}
use Rattle.theory.proofs.BlockLaws.{led_low}
use Rattle.theory.proofs.Encodes.{Gets, Placing, Encodes, Fresh, Follows}
use Rattle.theory.proofs.EncodesLaws.{gets_above, wants_gets, encodes_finished}
use Rattle.table.specs.declared.Shape.{Shape}
use Rattle.table.specs.Shape.{InRange, places, size}
use Rattle.table.specs.Map.{addresses, block, index, form_of}
use Rattle.table.specs.Wants.{wants_of, WordRights}
use Rattle.table.proofs.EntryLaws.{index_below}
use Rattle.table.proofs.BlockLaws.{block_together, together_block}
use Rattle.table.proofs.FormLaws.{leads_place, place_leads, lawful, exact}
use Rattle.table.proofs.WantLaws.{wants_divided, wants_says, wanting, tells_wants}
use Rattle.places.specs.Count.{heights, blocks, domain_of, address_of, want}
use Rattle.places.specs.Final.{number, old, was, place_at, AllOwned, table_of, place, entry_word, table_word, final}
use Rattle.places.specs.Owners.{seek}
use Rattle.places.proofs.OwnedLaws.{seek_owner, owner_seek, seek_apart, seek_keeps, seek_order, seek_lowest}
use Rattle.places.proofs.NumberLaws.{number_below, number_same, number_of, number_order, page_number}
use Rattle.places.proofs.NumberLaws.{root_number, address_index}
use Rattle.places.proofs.NumberLaws.{offset_below, want_number, said_number, said_leaf}
use Rattle.places.proofs.OldLaws.{place_low, place_one, place_less, place_order, led_old, not_led_old, old_at}
use Rattle.places.proofs.FinalWordLaws.{InPlace, which_word, place_table, final_root, final_place, final_past}
use Rattle.places.proofs.FinalWordLaws.{place_owned, place_idle}
use Rattle.places.proofs.FinalWordLaws.{entry_leads, entry_says_lem}

module _ (s : Shape) (range : InRange s) {R : ℕ → ℕ → ℕ} (S : (d : ℕ) → d < s.domains → WordRights (R d)) {P : ℕ → ℕ}
    (sP : SoundPool (form_of s) P) (owner : ℕ → ℕ → ℕ) (free : ℕ → ℕ → Bool) (O : AllOwned s R P free owner)
    {Q : ℕ → ℕ} (is : (j : ℕ) → Q j ≡ final s owner R P j) where
  abbrev F : Form
  F = form_of s

  abbrev wants : ℕ → ℕ → ℕ → Bool
  wants h d a = wants_of (R d) h a

  abbrev stand : ℕ → ℕ → ℕ → ℕ
  stand = place s owner

  abbrev got : ℕ → ℕ → ℕ → Type 0
  got = Gets F wants

  -- Where the walk comes down to height `h`, its block wants a table, and owns its place.
  pub want_got : (h d a : ℕ) → h < 2 → a < addresses → got h d a → want R h (number h d a) ≡ true
  want_got h d a hi ba g = want_number R h d a hi ba ∙ g (suc h) (omega arith) hi

  pub own : (h d a : ℕ) → h < 2 → d < s.domains → a < addresses → got h d a
      → (seek (owner h) (number h d a) (places s h) < places s h)
      × (owner h (seek (owner h) (number h d a) (places s h)) ≡ number h d a)
  own h d a hi bd ba g =
      seek_owner (blocks h * s.domains) (places s h) (want R h) (old P h) (free h) (was s P h)
      (O h hi)
      (number h d a) (number_below h s.domains d a hi bd ba) (want_got h d a hi ba g)

  -- The words where walks come.
  in_table : (h d a : ℕ) → h < 2 → d < s.domains → a < addresses → got h d a
      → Q (table_of s owner h (number h d a) + index h a) ≡ table_word s owner R P h (number h d a)
      (index h a)
  in_table h d a hi bd ba g =
      let (b, o) = own h d a hi bd ba g in
      is _ ∙ final_place s owner R P _ h (seek (owner h) (number h d a) (places s h)) (index h a)
      (hi, b, index_below h a, refl)
      ∙ place_owned s owner R P h _ (seek (owner h) (number h d a) (places s h)) (index h a)
      (number h d a) b o (number_below h s.domains d a hi bd ba)

  entry_at : (h d a : ℕ) → h < 2 → d < s.domains → a < addresses → got (suc h) d a
      → Q (stand (suc h) d a + index (suc h) a) ≡ entry_word s owner R P h (number h d a)
  entry_at zero d a hi bd ba g =
      in_table 1 d a (omega arith) bd ba g ∙ ap (entry_word s owner R P 0) (sym (page_number d a ba))
  entry_at (suc zero) d a hi bd ba g =
      ap Q (root_number d a ba) ∙ is (number 1 d a) ∙ final_root s owner R P (number 1 d a)
      (number_below 1 s.domains d a hi bd ba)
  entry_at (suc (suc h)) d a hi bd ba g = absurd (omega arith)

  final_leads : (h d a : ℕ) → d < s.domains → a < addresses → h < 2 → got h d a
      → (F.good (suc h) (Q (stand (suc h) d a + index (suc h) a)) ≡ true)
      × (F.leads (suc h) (Q (stand (suc h) d a + index (suc h) a)) ≡ true)
      × (Q (stand (suc h) d a + index (suc h) a) ≡ stand h d a)
  final_leads h d a bd ba hi g =
      let p = seek (owner h) (number h d a) (places s h) in
      let e : Q (stand (suc h) d a + index (suc h) a) ≡ place_at s h p =
      entry_at h d a hi bd ba (gets_above F wants h d a g) ∙ entry_leads s owner R P h (number h d a)
      (want_got h d a hi ba g) in
      let b = (own h d a hi bd ba g).0 in
      let (x, y) = place_leads s h p hi b (place_low s h p range hi b) in
      (rw e x, rw e y, e ∙ sym (place_table s owner h d a hi))

  final_says : (h d a : ℕ) → d < s.domains → a < addresses → h ≤ 2 → got h d a → wants h d a ≡ false
      → Says F h (R d) a (Q (stand h d a + index h a))
  final_says zero d a bd ba hi g n =
      rw (in_table 0 d a (omega arith) bd ba g ∙ said_leaf R d a ba) (wants_says s (R d) 0 a (S d bd) hi ba n)
  final_says (suc h) d a bd ba hi g n =
      rw (entry_at h d a hi bd ba g ∙ entry_says_lem s owner R P h (number h d a)
      (want_number R h d a hi ba ∙ n) ∙ said_number R h d a hi ba)
      (wants_says s (R d) (suc h) a (S d bd) hi ba n)

  pub final_encodes : Encodes F wants stand R Q
  final_encodes = record { leads = final_leads; says = final_says }

  -- The places.
  same_table : (h d a b : ℕ) → h < 2 → a < addresses → b < addresses → Together F (suc h) a b → stand h d a
      ≡ stand h d b
  same_table h d a b hi ba bb t =
      place_table s owner h d a hi
      ∙ ap (λ x. table_of s owner h (blocks h * d + x)) (together_block s (suc h) a b hi ba bb t)
      ∙ sym (place_table s owner h d b hi)

  final_block : (h d a b : ℕ) → d < s.domains → a < addresses → b < addresses → Together F (suc h) a b → stand h d a
      ≡ stand h d b
  final_block h d a b bd ba bb t = elim (dec_lt h heights) [
    | yes hi ↦ same_table h d a b hi ba bb t
    | no hi ↦ rw (le-ltb h heights (omega arith)) refl
  ]

  final_apart : (h d a e b : ℕ) → d < s.domains → a < addresses → e < s.domains → b < addresses → h < 2
      → got h d a → got h e b
      → stand h d a ≡ stand h e b
      → (d ≡ e) × Together F (suc h) a b
  final_apart h d a e b bd ba be bb hi g k q =
      let x = place_one s h _ _ (sym (place_table s owner h d a hi) ∙ q
      ∙ place_table s owner h e b hi) in
      let y = seek_apart (blocks h * s.domains) (places s h) (want R h) (old P h) (free h) (was s P h)
      (O h hi)
      (number h d a) (number h e b) (number_below h s.domains d a hi bd ba) (number_below h
      s.domains e b hi be bb)
      (want_got h d a hi ba g) (want_got h e b hi bb k) x in
      let (u, v) = number_same h d a e b hi ba bb y in
      (u, block_together s (suc h) a b v)

  pub final_placing : Placing F wants stand
  final_placing = record { root = λ d a bd ba. refl; block = final_block; apart = final_apart }

  final_keeps : (h d a t : ℕ) → d < s.domains → a < addresses → got h d a → Led F P d a h t → stand h d a ≡ t
  final_keeps h d a t bd ba g o =
      let hi : h < 2 = led_low F P d a h o in
      let (x, y) = led_old s P d a ba h t o in
      let i = number_below h s.domains d a hi bd ba in
      let (_, z) = seek_keeps (blocks h * s.domains) (places s h) (want R h) (old P h) (free h)
      (was s P h) (O h hi)
      (number h d a) i (want_got h d a hi ba g) x in
      place_table s owner h d a hi ∙ ap (place_at s h) z
      ∙ sym (old_at s sP h hi (number h d a) i x).1 ∙ y

  final_order : (h d a e b : ℕ) → d < s.domains → a < addresses → e < s.domains → b < addresses → h < 2
      → Fresh F wants stand P h d a
      → Fresh F wants stand P h e b
      → Before d a e b → stand h d a ≤ stand h e b
  final_order h d a e b bd ba be bb hi (g, m) (k, n) o =
      rw (place_table s owner h d a hi, place_table s owner h e b hi)
      (place_order s h _ _
      (seek_order (blocks h * s.domains) (places s h) (want R h) (old P h) (free h) (was s P h)
      (O h hi)
      (number h d a) (number h e b) (number_order h d a e b hi ba bb o) (number_below h s.domains e b hi be bb)
      (want_got h d a hi ba g) (want_got h e b hi bb k) (not_led_old s P d a ba h hi m)
      (not_led_old s P e b bb h hi n)))

  -- A place that has an owner, as a walk that comes there: by its entry `e`.
  abbrev Owner : ℕ → ℕ → ℕ → Type 0
  Owner h p e = (d : ℕ) × (a : ℕ) × (d < s.domains) × (a < addresses) × (number h d a ≡ owner h p) × got h d a
      × (stand h d a ≡ place_at s h p) × (index h a ≡ e)

  pub place_owner : (h p e : ℕ) → h < 2 → p < places s h → owner h p < blocks h * s.domains → e < size h → Owner h p e
  place_owner h p e hi bp b be =
      let d = domain_of h (owner h p) in
      let a = address_of h (owner h p) + block h * e in
      let (bd, ba, x) = number_of h s.domains (owner h p) (block h * e) hi b (offset_below h e hi be) in
      let w : wants_of (R d) (suc h) a ≡ true = sym (want_number R h d a hi ba) ∙ ap (want R h) x
      ∙ (O h hi).held.only p bp b in (
        d,
        a,
        bd,
        ba,
        x,
        wants_gets F wants (wanting s) (tells_wants s R S) d a bd ba h hi (wants_divided (R d) (suc h) a ba w),
        place_table s owner h d a hi ∙ ap (table_of s owner h) x
            ∙ ap (place_at s h)
            (owner_seek (blocks h * s.domains) (places s h) (want R h) (old P h) (free h) (was s P h) (O h hi)
            p bp b),
        address_index h (owner h p) e hi be,
      )

  final_lowest : (h d a x : ℕ) → d < s.domains → a < addresses → h < 2 → Fresh F wants stand P h d a → Place F h x
      → x < stand h d a
      → (e : ℕ) × (b : ℕ) × (e < s.domains) × (b < addresses) × got h e b × (stand h e b ≡ x)
  final_lowest h d a x bd ba hi (g, m) (w, c, l, e) lt =
      let (_, q, bq, z) = leads_place s h w c l in
      let k : place_at s h q ≡ x = sym z ∙ e in
      let y = place_less s h q (seek (owner h) (number h d a) (places s h))
      (rw (k, ← place_table s owner h d a hi) lt) in
      let (u, v) = seek_lowest (blocks h * s.domains) (places s h) (want R h) (old P h) (free h)
      (was s P h) (O h hi)
      (number h d a) q (number_below h s.domains d a hi bd ba) (want_got h d a hi ba g)
      (not_led_old s P d a ba h hi m) y in
      let (f, b, r, s, _, t, i, _) = place_owner h q 0 hi u v (some h) in
      (f, b, r, s, t, i ∙ k)
    where
      some : (h : ℕ) → 0 < size h
      some zero = omega arith
      some (suc h) = omega arith

  -- A word where no walk comes.
  abbrev Nowhere : ℕ → Type 0
  Nowhere j = (h d a : ℕ) → d < s.domains → a < addresses → h ≤ 2 → got h d a → j ≡ stand h d a + index h a → ⊥

  idle_root : (j : ℕ) → Nowhere j → j < 1024 * s.domains → ⊥
  idle_root j f b =
      let (bd, ba, e) = number_of 1 s.domains j 0 (omega arith) b (omega arith) in
      f 2 (domain_of 1 j) (address_of 1 j + 0) bd ba (omega arith) (λ i lo hi. absurd (omega arith))
      (sym (root_number (domain_of 1 j) (address_of 1 j + 0) ba ∙ e))

  idle_place : (j h p e : ℕ) → Nowhere j → InPlace s j h p e → Q j ≡ P j
  idle_place j h p e f (hi, b, c, q) =
      is j ∙ final_place s owner R P j h p e (hi, b, c, q) ∙ elim (dec_lt (owner h p) (blocks h * s.domains)) [
        | yes o ↦
            (let (d, a, bd, ba, _, g, s, i) = place_owner h p e hi b o c in
            absurd (f h d a bd ba (omega arith) g (rw (s, i) q)))
        | no o ↦ place_idle s owner R P h j p e (omega arith)
      ]

  final_idle : (j : ℕ) → Nowhere j → Q j ≡ P j
  final_idle j f = ⊎_elim
      (λ b. absurd (idle_root j f b))
      (⊎_elim (λ (h, p, e, x). idle_place j h p e f x) (λ b. is j ∙ final_past s owner R P j b))
      (which_word s j)

  pub final_follows : Follows F wants stand P Q
  final_follows = record { keeps = final_keeps; order = final_order; lowest = final_lowest; idle = final_idle }

  pub final_finished : Finished F P R Q
  final_finished =
      encodes_finished F (lawful s) (exact s) wants stand (tells_wants s R S) final_placing final_encodes
      (wanting s) final_follows
