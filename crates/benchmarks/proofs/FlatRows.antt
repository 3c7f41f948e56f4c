-- The rows in whose pools no table stands afterwards, and those of lookups: 1, 7, 8, 9 and 12.
use Prim.Native.Nat.{ℕ, suc, ◌+◌, ◌*◌, ◌/◌, ◌%◌, ◌≤◌, ◌<◌}
use mathlib.Core.Path.{◌≡◌, refl, sym, ap, ◌∙◌}
use mathlib.Core.Logic.{◌≢◌}
use mathlib.Core.Bool.{true, cond}
use mathlib.Core.List.{List}
use native.Mathlib.Omega.{arith}
use native.Mathlib.Decide.{ℕ_discrete, dec_lt}
use lib.Dec.{ltb}
use lib.ListN.{length, set, replicate, length-set, length-replicate, get_or-replicate, get_or-eq_default}
use lib.Seq.{get_or-set_same, get_or-set_other}
use borrow.Author.Tests.{lt-ltb, le-ltb}
use Rattle.std.specs.Prelude.{Result, Ok, Err}
use Rattle.refusals.specs.declared.Refusal.{Refusal}
use Rattle.refusals.specs.declared.Refusal.TheVariants.{NotSound}
use Rattle.theory.specs.Pool.{words, entry, right_of}
use Rattle.theory.proofs.WalkLaws.{walk_stops, walk_refused}
use Rattle.theory.specs.Finished.{Finished}
use Rattle.words.specs.Rights.{right_at, good_rights}
use Rattle.words.specs.Region.{rounded, region_of, covered}
use Rattle.words.specs.declared.Region.{Region}
use Rattle.words.proofs.RightsLaws.{eight_right}
use Rattle.words.proofs.RegionLaws.{covered_yes, covered_no}
use Rattle.table.specs.declared.Deciding.{Deciding}
use Rattle.table.specs.Shape.{Fits}
use Rattle.table.specs.Map.{addresses, block_at, part_of, entry_rights, form_of}
use Rattle.table.specs.Fresh.{fresh_pool}
use Rattle.table.specs.Stretches.{first_byte, last_byte}
use Rattle.table.specs.Lookup.{decided_by, lookup_of, found_at}
use Rattle.table.proofs.ShapeLaws.{fits_test}
use Rattle.table.proofs.BlockLaws.{number_below}
use Rattle.table.proofs.StretchLaws.{whole_stretch}
use Rattle.table.proofs.LookupLaws.{lookup_walks}
use Rattle.table.proofs.FreshLaws.{makes_fresh, one_fresh}
use Rattle.table.proofs.FreshWordLaws.{fresh_word, fresh_settled}
use Rattle.table.proofs.WantLaws.{divided_wants, pool_rights}
use Rattle.places.specs.Count.{want, Room}
use Rattle.places.proofs.CountLaws.{count_less}
use Rattle.places.proofs.ChangedLaws.{changed_rights}
use Rattle.plan.specs.Aims.{change_aim, aimed_at}
use Rattle.change.specs.Cuts.{differing}
use Rattle.change.specs.Answers.{Asked, in_order, no_room}
use Rattle.change.proofs.DifferLaws.{differing_set, differing_self}
use Rattle.benchmarks.specs.Rows.{shape, AnyAddress, SetsOnePart, NoRoomForLess, SetsAll, ZeroWord}
use Rattle.benchmarks.proofs.RowLaws.{always_change, by, finds, fresh_fits, in_range_lem}
use Rattle.benchmarks.proofs.RowLaws.{aims_fresh, change_done}
use Rattle.benchmarks.proofs.FlatLaws.{flat_finished, flat_right, first_part}

-- Row 1: the root word decides.
abbrev none : ℕ → Result Deciding Refusal
none a = by 0 2147483648 1 (block_at 2 a) (block_at 2 a + 0x3FFFFF)

module _ (M L : ℕ) (f : Fits (shape M L) (length (fresh_pool (shape M L)))) (a : ℕ) where
  abbrev P : ℕ → ℕ
  P = words (fresh_pool (shape M L))

  abbrev k : ℕ
  k = entry (form_of (shape M L)) 0 a

  root_word : P k ≡ 2147483648
  root_word = fresh_word (shape M L) k ∙ ap (λ t. cond t 2147483648 0) (lt-ltb k 1024 (omega arith))

  fresh_rights : (b : ℕ) → entry_rights 2 2147483648 b ≡ 0
  fresh_rights b = eight_right 0 (part_of 2 b) (omega arith) (number_below 2 b)

  pub fresh_lookup : lookup_of (fresh_pool (shape M L)) (shape M L) 0 a ≡ none a
  fresh_lookup =
      let (first, last) = whole_stretch (entry_rights 2 2147483648) 2 a 0 fresh_rights in
      lookup_walks (fresh_pool (shape M L)) (shape M L) 0 a (fits_test (shape M L) (length (fresh_pool (shape M L))) f)
      (omega arith)
      ∙ ap (found_at (form_of (shape M L)) P a) (walk_stops (form_of (shape M L)) P a 2 k (rw root_word refl)
      (rw root_word refl))
      ∙ ap (λ w. Ok (decided_by (entry_rights 2 w) 2 w a)) root_word
      ∙ ap (λ x. by x 2147483648 1 (first_byte (entry_rights 2 2147483648) 2 a) (last_byte (entry_rights 2 2147483648) 2 a))
      (fresh_rights a)
      ∙ ap (λ x. by 0 2147483648 1 x (last_byte (entry_rights 2 2147483648) 2 a)) first
      ∙ ap (by 0 2147483648 1 (block_at 2 a)) last

pub row_1 : AnyAddress
row_1 M L p f =
    let s = shape M L in
    let g = fresh_fits s f.range in
    let made = makes_fresh s p (fresh_pool s) (fits_test s (length p) f) refl in
    record {
      some = (Ok tt, fresh_pool s, made);
      each = λ r q m.
          let (e, z) = one_fresh m made in
          rw (e, z) (refl, refl, λ a ba. finds (fresh_pool s) s a (none a) (fresh_lookup M L g a));
    }

-- Row 12: the zero word leads to pool word 0, which is no place.
pub row_12 : ZeroWord
row_12 M L p f =
    let s = shape M L in
    let long = f.long in
    let z : words (set p 0 0) 0 ≡ 0 = get_or-set_same p 0 0 0 (omega arith) in
    let g : Fits s (length (set p 0 0)) = rw (length-set p 0 0) f in
    finds (set p 0 0) s 0 (Err NotSound)
    (lookup_walks (set p 0 0) s 0 0 (fits_test s (length (set p 0 0)) g) (omega arith)
    ∙ ap (found_at (form_of s) (words (set p 0 0)) 0) (walk_refused (form_of s) (words (set p 0 0)) 0 2 0 (rw z refl)))

-- Row 7.
abbrev pool : List ℕ
pool = fresh_pool (shape 0 0)

abbrev one_part : List ℕ
one_part = set pool 0 0x80000001

pool_long : length pool ≡ 1024
pool_long = (fresh_fits (shape 0 0) (in_range_lem 0 0 (omega arith) (omega arith))).long

part_first : words one_part 0 ≡ 0x80000001
part_first = get_or-set_same pool 0 0x80000001 0 (rw pool_long (omega arith))

part_other : (j : ℕ) → j ≢ 0 → words one_part j ≡ cond (ltb j 1024) 0x80000000 0
part_other j n = get_or-set_other pool 0 j 0x80000001 0 n ∙ fresh_word (shape 0 0) j

part_root : (j : ℕ) → j < 1024 → j ≢ 0 → words one_part j ≡ 0x80000000
part_root j h n = part_other j n ∙ ap (λ t. cond t 0x80000000 0) (lt-ltb j 1024 h)

part_flat : (j : ℕ) → j < 1024 → good_rights (words one_part j) ≡ true
part_flat j h = elim (ℕ_discrete j 0) [ yes e ↦ rw e refl | no n ↦ rw (part_root j h n) refl ]

part_rights_lem : (a : ℕ) → a < addresses → right_at (words one_part (a / 4194304 % 1024)) (a / 524288 % 8)
    ≡ cond (ltb a 524288) 1 0
part_rights_lem a ba = first_part (words one_part) part_first (λ j n h. part_root j h n) a ba

-- What the change covers.
part_covered : (a : ℕ) → covered (rounded 0 524288) a ≡ ltb a 524288
part_covered a = elim (dec_lt a 524288) [
  | yes h ↦ covered_yes (rounded 0 524288) a (omega arith) (omega arith) ∙ sym (lt-ltb a 524288 h)
  | no h ↦ covered_no (rounded 0 524288) a (λ x y. omega arith) ∙ sym (le-ltb a 524288 (omega arith))
]

-- A flat pool that is finished, from the fresh one.
module _ (g : Region) (r : ℕ) (Q : ℕ → ℕ) (flat : (j : ℕ) → j < 1024 → good_rights (Q j) ≡ true)
    (rights : (a : ℕ) → a < addresses → right_at (Q (a / 4194304 % 1024)) (a / 524288 % 8) ≡ cond (covered g a) r 0)
    (rest : (j : ℕ) → 1024 ≤ j → Q j ≡ 0) where
  finished : Finished (form_of (shape 0 0)) (words pool) (aimed_at (shape 0 0) (change_aim 0 g r) (words pool)) Q
  finished = flat_finished (shape 0 0) Q flat (words pool) (aimed_at (shape 0 0) (change_aim 0 g r) (words pool))
      (λ d a bd ba. let z : 1024 * d + a / 4194304 % 1024 ≡ a / 4194304 % 1024 = omega arith in
      flat_right (shape 0 0) Q flat d a bd ∙ ap (λ i. right_at (Q i) (a / 524288 % 8)) z ∙ rights a ba
      ∙ sym (aims_fresh (shape 0 0) g r d a bd bd))
      (λ j h. rest j h ∙ sym (fresh_word (shape 0 0) j ∙ ap (λ t. cond t 2147483648 0) (le-ltb j 1024 h)))

asked : (start len r : ℕ) (g : Region) → r ≤ 3 → region_of start len ≡ Ok g → Asked pool (shape 0 0) 0 start len r g
asked start len r g h e = record {
  fits = fresh_fits (shape 0 0) (in_range_lem 0 0 (omega arith) (omega arith));
  domain =
      omega arith;
  right = h;
  region = e;
}

pub row_7 : SetsOnePart
unfolding region_of
row_7 n h = always_change
    (change_done pool (shape 0 0) 0 0 524288 1 n (rounded 0 524288)
    (asked 0 524288 1 (rounded 0 524288) (omega arith) refl) (fresh_settled (shape 0 0)) one_part 1
    (finished (rounded 0 524288) 1 (words one_part) part_flat
    (λ a ba. part_rights_lem a ba ∙ ap (λ t. cond t 1 0) (sym (part_covered a)))
    (λ j b. part_other j (λ z. omega arith) ∙ ap (λ t. cond t 0x80000000 0) (le-ltb j 1024 b)))
    (length-set pool 0 0x80000001)
    (differing_set pool pool 0 0x80000001 refl (rw pool_long (omega arith)) refl other ∙ ap suc (differing_self pool))
    h)
    (refl, part_first)
  where
    other : 0x80000001 ≢ words pool 0
    other z = let y = fresh_word (shape 0 0) 0 in omega arith

-- Row 9.
abbrev all_read : List ℕ
all_read = replicate 1024 0x80005555

read_word : (j : ℕ) → j < 1024 → words all_read j ≡ 0x80005555
read_word j h = get_or-replicate 1024 j 0x80005555 0 h

read_past : (j : ℕ) → 1024 ≤ j → words all_read j ≡ 0
read_past j h =
    let long : length (replicate {A = ℕ} 1024 0x80005555) ≤ j = rw (length-replicate {A = ℕ} 1024 0x80005555) h in
    get_or-eq_default (replicate 1024 0x80005555) 0 long

read_rights : (a : ℕ) → a < addresses → right_at (words all_read (a / 4194304 % 1024)) (a / 524288 % 8)
    ≡ cond (covered (rounded 0 4294967295) a) 1 0
read_rights a ba =
    ap (λ w. right_at w (a / 524288 % 8)) (read_word (a / 4194304 % 1024) (omega arith))
    ∙ eight_right 1 (a / 524288 % 8) (omega arith) (omega arith)
    ∙ ap (λ t. cond t 1 0) (sym (covered_yes (rounded 0 4294967295) a (omega arith) (omega arith)))

pub row_9 : SetsAll
unfolding region_of differing
row_9 n h = always_change
    (change_done pool (shape 0 0) 0 0 4294967295 1 n (rounded 0 4294967295)
    (asked 0 4294967295 1 (rounded 0 4294967295) (omega arith) refl) (fresh_settled (shape 0 0)) all_read 1024
    (finished (rounded 0 4294967295) 1 (words all_read) (λ j b. rw (read_word j b) refl) read_rights read_past)
    refl refl h)
    (refl, read_word)

-- Row 8: the first 512 KB have two rights, and there is no middle place.
abbrev less : Region
less = rounded 0 524284

no_room_there : Room (shape 0 0) (aimed_at (shape 0 0) (change_aim 0 less 1) (words pool)) → ⊥
no_room_there room =
    let T = aimed_at (shape 0 0) (change_aim 0 less 1) (words pool) in
    let S = changed_rights (right_of (form_of (shape 0 0)) (words pool)) 0 less 1 0 (omega arith)
    (pool_rights (shape 0 0) (words pool) 0) in
    let here : T 0 0 ≡ 1 = aims_fresh (shape 0 0) less 1 0 0 (omega arith) (omega arith) in
    let there : T 0 524284 ≡ 0 = aims_fresh (shape 0 0) less 1 0 524284 (omega arith) (omega arith) in
    let w : want T 1 0 ≡ true = divided_wants (T 0) 2 0 S
    (0, 524284, omega arith, omega arith, refl, refl, λ z. apart (sym here ∙ z ∙ there)) in
    let x = count_less (want T 1) 0 1024 (omega arith) w in
    let y = room.tables 1 (omega arith) in
    omega arith
  where
    apart : ◌≡◌ {A = ℕ} 1 0 → ⊥
    apart e = omega arith

pub row_8 : NoRoomForLess
unfolding region_of
row_8 n = always_change
    (in_order (rounded 0 524284) (asked 0 524284 1 (rounded 0 524284) (omega arith) refl)
    (no_room (fresh_settled (shape 0 0)) no_room_there))
    (refl, refl)
