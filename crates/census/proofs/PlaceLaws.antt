-- Laws of places by number: which numbers a shape has, that no two begin at one word, and which number an entry that
-- leads goes by.
use Prim.Native.Nat.{ℕ, zero, suc, ◌+◌, ◌*◌, ◌-◌, ◌/◌, ◌≤◌, ◌<◌}
use mathlib.Core.Path.{◌≡◌, refl, sym, ap, ◌∙◌}
use mathlib.Core.Logic.{◌⊎◌, inl, inr, ⊎_elim}
use mathlib.Core.Bool.{Bool, true, false, cond}
use native.Mathlib.Omega.{arith}
use lib.Dec.{ltb}
use borrow.Author.Tests.{lt-ltb, le-ltb, ltb-true, ltb-false}
use Rattle.theory.proofs.Logic.{by_cases}
use Rattle.words.specs.declared.PoolWord.{PoolWord}
use Rattle.table.specs.declared.Shape.{Shape}
use Rattle.table.specs.declared.Entry.TheVariants.{Leads, Bad}
use Rattle.table.specs.Shape.{InRange, max_middles, pool_length, first_place, places, size}
use Rattle.table.specs.Map.{is_place, leads, form_of}
use Rattle.table.specs.Entries.{leads_to, decode_of}
use Rattle.table.proofs.FormLaws.{leads_place}
use Rattle.table.proofs.EntryLaws.{bad_leads, decode_middle, decode_root, decoded_leads}
use Rattle.census.specs.Places.{max_places, place_height, first_number, place_word}

leads_number : (from long k nth w : ℕ) (t : PoolWord) (n : ℕ) → leads_to from long k nth w ≡ Leads t n → n
    ≡ nth + (w - from) / long
leads_number from long k nth w t n e = go (is_place from long k w) e
  where
    go : (b : Bool) → cond b (Leads (record { 0 = w }) (nth + (w - from) / long)) Bad ≡ Leads t n → n
        ≡ nth + (w - from) / long
    go true e = cc
    go false e = absurd (bad_leads e)

module _ (s : Shape) where
  -- The shape has a place of the number `n`.
  abbrev pub has_place : ℕ → Bool
  has_place n = cond (ltb n max_middles) (ltb n s.middles) (ltb (n - max_middles) s.leaves)

  -- What the two kinds of numbers stand for.
  pub record Middle (n : ℕ) : Type 0 where
    pub low : n < 8
    pub word : place_word s n ≡ 1024 * s.domains + 1024 * n
    pub height : place_height n ≡ 1
    pub has : has_place n ≡ ltb n s.middles

  pub record Leaf (n : ℕ) : Type 0 where
    pub low : 8 ≤ n
    pub word : place_word s n ≡ 1024 * s.domains + 1024 * s.middles + 64 * (n - 8)
    pub height : place_height n ≡ 0
    pub has : has_place n ≡ ltb (n - 8) s.leaves

  pub middle_number : (n : ℕ) → n < 8 → Middle n
  middle_number n b = let e = lt-ltb n 8 b in record { low = b; word = rw e; height = rw e; has = rw e }

  pub leaf_number : (n : ℕ) → 8 ≤ n → Leaf n
  leaf_number n b = let e = le-ltb n 8 b in record { low = b; word = rw e; height = rw e; has = rw e }

  pub place_kinds : (n : ℕ) → Middle n ⊎ Leaf n
  place_kinds n = by_cases (ltb n 8) (λ e. inl (middle_number n (ltb-true n 8 e)))
      (λ e. inr (leaf_number n (ltb-false n 8 e)))

  -- No two places of the shape begin at one word, and no two numbers of one height.
  pub place_apart : (n m : ℕ) → has_place n ≡ true → has_place m ≡ true → place_word s n ≡ place_word s m → n ≡ m
  place_apart n m a b e = ⊎_elim
      (λ x. let h = ltb-true n s.middles (sym x.has ∙ a) in ⊎_elim (λ y. omega arith) (λ y. omega arith)
      (place_kinds m))
      (λ x. ⊎_elim
      (λ y. let h = ltb-true m s.middles (sym y.has ∙ b) in omega arith)
      (λ y. omega arith) (place_kinds m)) (place_kinds n)

  pub number_apart : (n m : ℕ) → place_height n ≡ place_height m → place_word s n ≡ place_word s m → n ≡ m
  number_apart n m h e = ⊎_elim
      (λ x. ⊎_elim (λ y. omega arith) (λ y. omega arith) (place_kinds m))
      (λ x. ⊎_elim (λ y. omega arith) (λ y. omega arith) (place_kinds m)) (place_kinds n)

  -- The place `n` of the shape is for tables below entries of the height `h`, and begins at the word `w`.
  pub record PlaceAt (h w n : ℕ) : Type 0 where
    pub below : n < max_places
    pub has : has_place n ≡ true
    pub word : place_word s n ≡ w
    pub height : suc (place_height n) ≡ h

  -- The table to which a good entry leads lies in the pool.
  pub led_room : (h w : ℕ) → (form_of s).good (suc h) w ≡ true → leads (suc h) w ≡ true
      → w + size h ≤ pool_length s
  led_room h w g l = let (b, q, c, e) = leads_place s h w g l in go h b q c e
    where
      go : (h : ℕ) → h < 2 → (q : ℕ) → q < places s h
          → w ≡ first_place s h + size h * q → w + size h ≤ pool_length s
      go zero b q c e = omega arith
      go (suc zero) b q c e = omega arith
      go (suc (suc h)) b q c e = absurd (omega arith)

  module _ (r : InRange s) where
    -- The `q`-th place for tables of the height `h` has the number `first_number h + q`.
    pub place_number : (h q w n : ℕ) → h < 2 → q < places s h
        → w ≡ first_place s h + size h * q → n ≡ first_number h + q
        → PlaceAt (suc h) w n
    place_number zero q w n hi b e f =
        let x = leaf_number n (omega arith) in
        record {
          below = omega arith;
          has = x.has ∙ lt-ltb (n - 8) s.leaves (omega arith);
          word = omega arith;
          height = ap suc x.height;
        }
    place_number (suc zero) q w n hi b e f =
        let x = middle_number n (omega arith) in
        record {
          below = omega arith;
          has = x.has ∙ lt-ltb n s.middles (omega arith);
          word = omega arith;
          height =
              ap suc x.height;
        }
    place_number (suc (suc h)) q w n hi b e f = absurd (omega arith)

    -- A good entry that leads goes by the number of a place.
    pub led_number : (h w : ℕ) → (form_of s).good (suc h) w ≡ true → leads (suc h) w ≡ true → (n : ℕ)
        × PlaceAt (suc h) w n
    led_number h w g l =
        let (b, q, c, e) = leads_place s h w g l in
        (first_number h + q, place_number h q w (first_number h + q) b c e refl)

    -- A decoded entry gives that number.
    pub decoded_place : (h w : ℕ) (t : PoolWord) (n : ℕ) → 0 < h → h ≤ 2 → decode_of s h w ≡ Leads t n → PlaceAt h w n
    decoded_place zero w t n lo hi e = absurd (omega arith)
    decoded_place (suc zero) w t n lo hi e =
        let (_, g, l, _) = decoded_leads s 1 w t n lo hi e in
        let (b, q, c, f) = leads_place s 0 w g l in
        let k = leads_number _ _ _ _ w t n (sym (decode_middle s 1 w refl (ltb-true w 2147483648 l)) ∙ e) in
        place_number 0 q w n b c f (omega arith)
    decoded_place (suc (suc zero)) w t n lo hi e =
        let (_, g, l, _) = decoded_leads s 2 w t n lo hi e in
        let (b, q, c, f) = leads_place s 1 w g l in
        let k = leads_number _ _ _ _ w t n (sym (decode_root s 2 w (λ z. omega arith) (λ z. omega arith)
        (ltb-true w 2147483648 l)) ∙ e) in
        place_number 1 q w n b c f (omega arith)
    decoded_place (suc (suc (suc h))) w t n lo hi e = absurd (omega arith)

    -- A good entry that leads to the word where place `n` begins: from the height above it, the shape has the place ..
    pub led_place : (n w : ℕ) → (form_of s).good (suc (place_height n)) w ≡ true → leads (suc (place_height n)) w ≡ true
        → w ≡ place_word s n
        → has_place n ≡ true
    led_place n w g l e =
        let (m, x) = led_number (place_height n) w g l in
        let f : n ≡ m = number_apart n m (let y = x.height in omega arith) (sym e ∙ sym x.word) in
        rw f x.has

    -- .. and where the shape has it, from that height.
    pub led_height : (n h w : ℕ) → has_place n ≡ true → (form_of s).good (suc h) w ≡ true → leads (suc h) w ≡ true → w
        ≡ place_word s n
        → h ≡ place_height n
    led_height n h w i g l e =
        let (m, x) = led_number h w g l in
        let f : n ≡ m = place_apart n m i x.has (sym e ∙ sym x.word) in
        rw f (let y = x.height in omega arith)
