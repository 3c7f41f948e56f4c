-- Laws of words that all pass a test: what a fold that asks each of them says, and how far those at the front go, found
-- a part at a time. Assumes nothing.
use Prim.Native.Nat.{ℕ, zero, suc, ◌+◌, ◌-◌, ◌*◌, ◌≤◌, ◌<◌}
use mathlib.Core.Path.{◌≡◌, sym, ap, ◌∙◌}
use mathlib.Core.Bool.{Bool, true, ◌&&◌, false≢true}
use mathlib.Core.List.{List, [], ◌∷◌}
use native.Mathlib.Omega.{arith}
use native.Mathlib.Decide.{dec_lt}
use lib.Dec.{eqb}
use lib.ListN.{length, get_or, take, drop}
use borrow.Author.Tests.{eqb-true, eq-eqb}
use Rattle.std.specs.List.{fold, prefix_len, list_all}
use Rattle.std.proofs.Common.{length-drop, suc-mul}
use Rattle.std.proofs.Math.Bool.{and-true, and_assoc}
use Rattle.std.proofs.lemmas.List.{get_or-drop, get_or-take, length-take-le}
use Rattle.std.proofs.lemmas.List.Elements.{All-get_or, All-from_get_or}
use Rattle.std.proofs.lemmas.List.Sums.{AllPass-from_list_all, list_all-from_AllPass}
use Rattle.std.proofs.lemmas.List.Sums.{prefix_len_is, prefix_len_passes, prefix_len_stops, prefix_len-le-length}
use Rattle.words.specs.Rights.{good_rights}
use Rattle.words.specs.Passing.{SkipsRights, AllSame}

module _ (p : ℕ → Bool) where
  all_from : (b : Bool) (xs : List ℕ) → fold (λ all w. all && p w) b xs ≡ (b && list_all p xs)
  all_from b [] = sym (and-true b)
  all_from b (x ∷ xs) = all_from (b && p x) xs ∙ and_assoc b (p x) (list_all p xs)

  -- A fold that asks each of the words answers true just where each passes.
  pub all_pass : (xs : List ℕ) → fold (λ all w. all && p w) true xs ≡ true → (k : ℕ) → k < length xs
      → p (get_or xs k 0) ≡ true
  all_pass xs e k h = All-get_or (λ w. p w ≡ true) xs k 0 h (AllPass-from_list_all p xs (sym (all_from true xs) ∙ e))

  pub pass_all : (xs : List ℕ) → ((k : ℕ) → k < length xs → p (get_or xs k 0) ≡ true)
      → fold (λ all w. all && p w) true xs ≡ true
  pass_all xs e = all_from true xs ∙ list_all-from_AllPass p xs (All-from_get_or (λ w. p w ≡ true) xs 0 e)

  -- Where the first n pass, as many pass in all as pass from there on, and n.
  pub prefix_split : (xs : List ℕ) (n : ℕ) → n ≤ prefix_len p xs
      → prefix_len p xs ≡ n + prefix_len p (drop n xs)
  prefix_split xs n h =
      let long = prefix_len-le-length p xs in
      let rest = prefix_len-le-length p (drop n xs) in
      let d = length-drop n xs in
      prefix_len_is p xs (n + prefix_len p (drop n xs)) 0 (omega arith)
      (λ k b. elim (dec_lt k n) [
        | yes low ↦ prefix_len_passes p xs k 0 (omega arith)
        | no high ↦ let e : n + (k - n) ≡ k = omega arith in
            ap (λ i. p (get_or xs i 0)) (sym e) ∙ ap p (sym (get_or-drop n xs (k - n) 0))
            ∙ prefix_len_passes p (drop n xs) (k - n) 0 (omega arith)
      ])
      (λ b. ap p (sym (get_or-drop n xs (prefix_len p (drop n xs)) 0)) ∙ prefix_len_stops p (drop n xs) 0 (omega arith))

  -- The first n pass, and so do the m after them.
  pub prefix_more : (xs : List ℕ) (n m : ℕ) → n ≤ prefix_len p xs → n + m ≤ length xs
      → fold (λ all w. all && p w) true (take m (drop n xs)) ≡ true → n + m ≤ prefix_len p xs
  prefix_more xs n m h long e = elim (dec_lt (prefix_len p xs) (n + m)) [
    | no k ↦ omega arith
    | yes k ↦ let i = prefix_len p xs - n in
        let z : n + i ≡ prefix_len p xs = omega arith in
        let d = length-drop n xs in
        let t = length-take-le m (drop n xs) (omega arith) in
        let good : p (get_or xs (prefix_len p xs) 0) ≡ true =
        ap (λ j. p (get_or xs j 0)) (sym z) ∙ ap p (sym (get_or-drop n xs i 0))
        ∙ ap p (sym (get_or-take m (drop n xs) i 0 (omega arith)))
        ∙ all_pass (take m (drop n xs)) e i (omega arith) in
        absurd (false≢true (sym (prefix_len_stops p xs 0 (omega arith)) ∙ good))
  ]

  -- The first n parts of m words pass.
  pub prefix_parts : (xs : List ℕ) (n m : ℕ) → n * m ≤ length xs
      → ((k : ℕ) → k < n → fold (λ all w. all && p w) true (take m (drop (k * m) xs)) ≡ true)
      → n * m ≤ prefix_len p xs
  prefix_parts xs zero m long e = omega arith
  prefix_parts xs (suc n) m long e =
      let z : suc n * m ≡ n * m + m = suc-mul n m in
      let y : n * m + m ≤ length xs = omega arith in
      let h = prefix_parts xs n m (omega arith) (λ k b. e k (omega arith)) in
      rw z (prefix_more xs (n * m) m h y (e n (omega arith)))

-- What is found in a part of the pool, said of the pool.

pub skips_rights : (xs : List ℕ) (from count r : ℕ) → from + count ≤ length xs
    → r ≡ prefix_len good_rights (take count (drop from xs)) → SkipsRights xs from (from + count) (from + r)
skips_rights xs from count r long e =
    let part = take count (drop from xs) in
    let d = length-drop from xs in
    let t = length-take-le count (drop from xs) (omega arith) in
    let l = prefix_len-le-length good_rights part in
    let at = λ (k : ℕ) (b : k < count). get_or-take count (drop from xs) k 0 b ∙ get_or-drop from xs k 0 in
    record {
      low = omega arith;
      high = omega arith;
      passed = λ k low high. let z : from + (k - from) ≡ k = omega arith in
          ap (λ i. good_rights (get_or xs i 0)) (sym z) ∙ ap good_rights (sym (at (k - from) (omega arith)))
          ∙ prefix_len_passes good_rights part (k - from) 0 (omega arith);
      stops = λ h. ap good_rights (sym (at r (omega arith))) ∙ ap (λ i. good_rights (get_or part i 0)) e
          ∙ prefix_len_stops good_rights part 0 (omega arith);
    }

pub same_part : (xs : List ℕ) (at count v : ℕ) → at + count ≤ length xs
    → fold (λ all w. all && eqb w v) true (take count (drop at xs)) ≡ true → AllSame xs at count v
same_part xs at count v long e j b =
    let d = length-drop at xs in
    let t = length-take-le count (drop at xs) (omega arith) in
    sym (get_or-drop at xs j 0) ∙ sym (get_or-take count (drop at xs) j 0 b)
    ∙ eqb-true _ _ (all_pass (λ w. eqb w v) (take count (drop at xs)) e j (omega arith))

pub part_same : (xs : List ℕ) (at count v : ℕ) → at + count ≤ length xs → AllSame xs at count v
    → fold (λ all w. all && eqb w v) true (take count (drop at xs)) ≡ true
part_same xs at count v long s = pass_all (λ w. eqb w v) (take count (drop at xs)) (λ k h.
    let d = length-drop at xs in
    let t = length-take-le count (drop at xs) (omega arith) in
    let b : k < count = omega arith in
    eq-eqb _ _ (get_or-take count (drop at xs) k 0 b ∙ get_or-drop at xs k 0 ∙ s k b))
