-- Laws of places that have owners: a block has one place, new tables stand in the order of their blocks, and below
-- them no place is left over.
use Prim.Native.Nat.{ℕ, zero, suc, ◌≤◌, ◌<◌}
use mathlib.Core.Path.{◌≡◌, refl, sym, ap, ◌∙◌}
use mathlib.Core.Bool.{Bool, true, false, ◌&&◌, not, true≢false, false≢true}
use native.Mathlib.Omega.{arith}
use native.Mathlib.Decide.{ℕ_discrete, dec_lt}
use borrow.Author.Tests.{eq-eqb, ne_eqb}
use Rattle.theory.proofs.Logic.{by_cases}
use Rattle.places.specs.Count.{count}
use Rattle.places.specs.Owners.{seek, fresh, Held, Owned}
use Rattle.places.proofs.CountLaws.{count_mono, count_less, same_rank, ranked, count_all, count_into}

-- A fresh block wants a table and had none.
pub fresh_is : (want old : Bool) → want ≡ true → old ≡ false → (want && not old) ≡ true
fresh_is want old p q = rw (p, q) refl

pub fresh_wants : (want old : Bool) → (want && not old) ≡ true → want ≡ true
fresh_wants true old e = refl
fresh_wants false old e = absurd (false≢true e)

pub fresh_old : (want old : Bool) → (want && not old) ≡ true → old ≡ false
fresh_old true true e = absurd (false≢true e)
fresh_old true false e = refl
fresh_old false old e = absurd (false≢true e)

-- Where block `i` owns a place, the search finds one that it owns.
pub seek_is : (owner : ℕ → ℕ) (i m p : ℕ) → p < m → owner p ≡ i → (seek owner i m < m) × (owner (seek owner i m) ≡ i)
unfolding seek
seek_is owner i zero p h e = absurd (omega arith)
seek_is owner i (suc m) p h e = elim (ℕ_discrete (owner m) i) [
  | yes q ↦ rw (eq-eqb (owner m) i q, seek) (omega arith, q)
  | no q ↦
      (let (a, b) = seek_is owner i m p (other (λ z. q (rw (← z) e))) e in
      rw (ne_eqb (owner m) i q, seek) (omega arith, b))
]
  where
    other : (p ≡ m → ⊥) → p < m
    other f = elim (ℕ_discrete p m) [ yes z ↦ absurd (f z) | no z ↦ omega arith ]

module _ (n m : ℕ) (want old free : ℕ → Bool) (was : ℕ → ℕ) where
  module _ {owner : ℕ → ℕ} (H : Held n m want old free was owner) where
    -- A block has one place.
    pub one_place : (p q : ℕ) → p < m → q < m → owner p < n → owner p ≡ owner q → p ≡ q
    one_place p q hp hq lo e = by_cases (old (owner p))
        (λ o. (H.kept p hp lo o).1 ∙ ap was e ∙ sym (H.kept q hq (rw e at lo) (rw e at o)).1)
        (λ o.
        let (a, x) = H.rank p hp lo o in
        let (b, y) = H.rank q hq (rw e at lo) (rw e at o) in
        same_rank free p q a b (x ∙ ap (count (fresh want old)) e ∙ sym y))

    -- New tables stand in the order of their blocks.
    pub new_in_order : (p q : ℕ) → p < m → q < m → owner p < owner q → owner q < n → old (owner p) ≡ false
        → old (owner q) ≡ false → p < q
    new_in_order p q hp hq lt hi a b =
        let lo : owner p < n = omega arith in
        let x = (H.rank p hp lo a).1 in
        let y = (H.rank q hq hi b).1 in
        let z = count_less (fresh want old) (owner p) (owner q) lt
        (fresh_is (want (owner p)) (old (owner p)) (H.only p hp lo) a) in
        elim (dec_lt p q) [ yes r ↦ r | no r ↦ (let u = count_mono free q p (omega arith) in absurd (omega arith)) ]

    -- At a place that is not free stands a kept table.
    pub held_taken : (p : ℕ) → p < m → free p ≡ false → (owner p < n) × (want (owner p) ≡ true)
        × (old (owner p) ≡ true) × (p ≡ was (owner p))
    held_taken p h f = elim (dec_lt (owner p) n) [
      | yes b ↦ by_cases (old (owner p))
          (λ o. (b, H.only p h b, o, (H.kept p h b o).1))
          (λ o. absurd (true≢false (sym (H.rank p h b o).0 ∙ f)))
      | no b ↦ absurd (true≢false (sym (H.none p h (omega arith)) ∙ f))
    ]

  module _ {owner : ℕ → ℕ} (O : Owned n m want old free was owner) where
    -- Below a new table no place is left over: else the new block of that rank would stand there.
    ranked_there : (x j : ℕ) → x < m → j < n → free x ≡ true → fresh want old j ≡ true → count (fresh want old) j
        ≡ count free x → owner x ≡ j
    ranked_there x j hx hj f e c =
        let (q, hq, i) = O.placed j hj (fresh_wants (want j) (old j) e) in
        let (g, k) = O.held.rank q hq (rw i hj) (rw i (fresh_old (want j) (old j) e)) in
        let z : q ≡ x = same_rank free q x g f (k ∙ ap (count (fresh want old)) i ∙ c) in
        rw z at i

    pub no_gap : (p x : ℕ) → p < m → owner p < n → old (owner p) ≡ false → x < p → owner x < n
    no_gap p x hp lo o lt = elim (dec_lt (owner x) n) [
      | yes r ↦ r
      | no r ↦
          (let f = O.held.none x (omega arith) (omega arith) in
          let u = count_less free x p lt f in
          let v = (O.held.rank p hp lo o).1 in
          let (j, hj, e, c) = ranked (fresh want old) (owner p) (count free x) (omega arith) in
          let i = ranked_there x j (omega arith) (omega arith) f e c in
          omega arith)
    ]

    -- A block that wants a table owns the place that the search finds, and no other.
    pub seek_owner : (i : ℕ) → i < n → want i ≡ true → (seek owner i m < m) × (owner (seek owner i m) ≡ i)
    seek_owner i h w = let (p, b, e) = O.placed i h w in seek_is owner i m p b e

    pub owner_seek : (p : ℕ) → p < m → owner p < n → seek owner (owner p) m ≡ p
    owner_seek p h b =
        let (x, y) = seek_is owner (owner p) m p h refl in
        one_place O.held (seek owner (owner p) m) p x h (rw y b) y

    pub seek_apart : (i j : ℕ) → i < n → j < n → want i ≡ true → want j ≡ true → seek owner i m ≡ seek owner j m
        → i ≡ j
    seek_apart i j h k v w e = sym (seek_owner i h v).1 ∙ ap owner e ∙ (seek_owner j k w).1

    -- A kept table stands where it was, at a place that is not free.
    pub seek_keeps : (i : ℕ) → i < n → want i ≡ true → old i ≡ true → (free (seek owner i m) ≡ false)
        × (seek owner i m ≡ was i)
    seek_keeps i h w o =
        let (x, y) = seek_owner i h w in
        let (f, e) = O.held.kept (seek owner i m) x (rw y h) (rw y o) in
        (f, e ∙ ap was y)

    -- New tables, in order of domain and address, ..
    pub seek_order : (i j : ℕ) → i ≤ j → j < n → want i ≡ true → want j ≡ true → old i ≡ false → old j ≡ false
        → seek owner i m ≤ seek owner j m
    seek_order i j le h v w o q = elim (ℕ_discrete i j) [
      | yes e ↦ rw e (omega arith)
      | no e ↦
          (let (x, y) = seek_owner i (omega arith) v in
          let (u, z) = seek_owner j h w in
          let lt : owner (seek owner i m) < owner (seek owner j m) = omega arith in
          let r = new_in_order O.held (seek owner i m) (seek owner j m) x u lt (rw z h) (rw y o) (rw z q) in
          omega arith)
    ]

    -- .. take the lowest places.
    pub seek_lowest : (i q : ℕ) → i < n → want i ≡ true → old i ≡ false → q < seek owner i m → (q < m) × (owner q < n)
    seek_lowest i q h w o lt =
        let (x, y) = seek_owner i h w in
        (omega arith, no_gap (seek owner i m) q x (rw y h) (rw y o) lt)

    -- The tables wanted are no more than the places.
    pub owned_fits : count want n ≤ m
    owned_fits =
        let x : count want n ≤ count (λ p. true) m = count_into want n (λ p. true) m (λ i. seek owner i m)
        (λ i h e. ((seek_owner i h e).0, refl))
        (λ i j h k e f q. seek_apart i j h k e f q) in
        let y = count_all m in
        omega arith
