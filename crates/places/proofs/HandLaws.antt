-- Laws of giving places out, block by block: each new table takes the next free place.
use Prim.Native.Nat.{ℕ, suc, ◌≤◌, ◌<◌}
use mathlib.Core.Path.{◌≡◌, refl, sym, ap, ◌∙◌}
use mathlib.Core.Logic.{◌≢◌}
use mathlib.Core.Bool.{Bool, true, false, ◌&&◌, not, true≢false, false≢true}
use native.Mathlib.Omega.{arith}
use native.Mathlib.Decide.{ℕ_discrete, dec_lt}
use Rattle.theory.proofs.Logic.{by_cases}
use Rattle.places.specs.Count.{count}
use Rattle.places.specs.Owners.{fresh, Held, Owned, Handing}
use Rattle.places.proofs.CountLaws.{count_yes, count_none, count_less, count_flat, count_all, count_split}
use Rattle.places.proofs.CountLaws.{count_into}
use Rattle.places.proofs.OwnedLaws.{fresh_is, fresh_wants, fresh_old, one_place, held_taken}

module _ (n m : ℕ) (want old free : ℕ → Bool) (was : ℕ → ℕ) where
  abbrev new : ℕ → Bool
  new = fresh want old

  abbrev State : ℕ → ℕ → (ℕ → ℕ) → Type 0
  State = Handing n m want old free was

  module _ {owner : ℕ → ℕ} where
    -- It starts with the kept tables alone.
    pub hand_start : Held n m want old free was owner → ((p : ℕ) → p < m → owner p < n → old (owner p) ≡ true)
        → ((j : ℕ) → j < n → want j ≡ true → old j ≡ true → (p : ℕ) × (p < m) × (owner p ≡ j)) → State 0 0 owner
    hand_start H all stays = record {
      held = H;
      low = omega arith;
      level = count_none free ∙ sym (count_none new);
      stays = stays;
      done = λ j b h e. absurd (omega arith);
      ahead = λ p lo hi f. elim (dec_lt (owner p) n) [
        | yes b ↦ absurd (true≢false (sym f ∙ (H.kept p hi b (all p hi b)).0))
        | no b ↦ omega arith
      ];
    }

    -- It passes over blocks that are not new, up to block `j` ..
    pub hand_skip_to : (i j c : ℕ) → i ≤ j → ((b : ℕ) → i ≤ b → b < j → new b ≡ false) → State i c owner
        → State j c owner
    hand_skip_to i j c le off s = record {
      held = s.held;
      low = s.low;
      level = s.level ∙ sym (count_flat new i j le off);
      stays = s.stays;
      done = λ b h lt f. elim (dec_lt b i) [
        | yes q ↦ s.done b h q f
        | no q ↦ absurd (true≢false (sym f ∙ off b (omega arith) lt))
      ];
      ahead = s.ahead;
    }

    -- .. or over one such block.
    pub hand_skip : (i c : ℕ) → State i c owner → new i ≡ false → State (suc i) c owner
    hand_skip i c s e = hand_skip_to i (suc i) c (omega arith) (λ b lo hi. let z : b ≡ i = omega arith in rw z e) s

    -- It gives a new block the next free place.
    module _ (after : ℕ → ℕ) (i c p : ℕ) (s : State i c owner) (hi : i < n) (e : new i ≡ true) (lo : c ≤ p)
        (hp : p < m) (f : free p ≡ true)
        (gap : (k : ℕ) → c ≤ k → k < p → free k ≡ false) (at : after p ≡ i)
        (off : (q : ℕ) → q ≢ p → after q ≡ owner q) where
      was_none : n ≤ owner p
      was_none = s.ahead p lo hp f

      as_many : count free p ≡ count new i
      as_many = count_flat free c p lo gap ∙ s.level

      -- What held at the other places still does.
      elsewhere : (q j : ℕ) → j < n → owner q ≡ j → after q ≡ j
      elsewhere q j b x = off q (λ z. let y = was_none in let u : owner p ≡ j = rw z at x in absurd (omega arith)) ∙ x

      take_held : Held n m want old free was after
      take_held = record {
        only = λ q h b. elim (ℕ_discrete q p) [
          | yes z ↦ rw (z, at) (fresh_wants (want i) (old i) e)
          | no z ↦ rw (off q z) (s.held.only q h (rw (off q z) at b))
        ];
        kept = λ q h b o. elim (ℕ_discrete q p) [
          | yes z ↦ absurd (true≢false (sym (rw (z, at) at o) ∙ fresh_old (want i) (old i) e))
          | no z ↦ rw (off q z) (s.held.kept q h (rw (off q z) at b) (rw (off q z) at o))
        ];
        rank = λ q h b o. elim (ℕ_discrete q p) [
          | yes z ↦ rw (z, at) (f, as_many)
          | no z ↦ rw (off q z) (s.held.rank q h (rw (off q z) at b) (rw (off q z) at o))
        ];
        none = λ q h b. elim (ℕ_discrete q p) [
          | yes z ↦ rw z f
          | no z ↦ s.held.none q h (rw (off q z) at b)
        ];
      }

      pub hand_take : State (suc i) (suc p) after
      hand_take = record {
        held = take_held;
        low = hp;
        level = count_yes free p f ∙ ap suc as_many ∙ sym (count_yes new i e);
        stays = λ j b w o. let (q, h, x) = s.stays j b w o in (q, h, elsewhere q j b x);
        done = λ j b h w. elim (ℕ_discrete j i) [
          | yes z ↦ (p, hp, at ∙ sym z)
          | no z ↦ (let (q, k, x) = s.done j b (omega arith) w in (q, k, elsewhere q j b x))
        ];
        ahead = λ q h b g. rw (off q (λ z. absurd (omega arith))) (s.ahead q (omega arith) b g);
      }

    -- It ends with every block served ..
    pub hand_done : (c : ℕ) → State n c owner → Owned n m want old free was owner
    hand_done c s = record {
      held = s.held;
      placed = λ i h w. by_cases (old i) (λ o. s.stays i h w o) (λ o. s.done i h h (fresh_is (want i) (old i) w o));
    }

    -- .. or finds no free place, and then the tables wanted are too many.
    module _ (i c : ℕ) (s : State i c owner) where
      taken : (p : ℕ) → p < m → free p ≡ false → (owner p < n) × ((want (owner p) && old (owner p)) ≡ true)
      taken p h f = let (b, w, o, _) = held_taken n m want old free was s.held p h f in (b, rw (w, o) refl)

      pub hand_full : i < n → new i ≡ true → ((k : ℕ) → c ≤ k → k < m → free k ≡ false) → m < count want n
      hand_full hi e gap =
          let x : count free m ≡ count new i = count_flat free c m s.low gap ∙ s.level in
          let y = count_less new i n hi e in
          let z = count_split want old n in
          let u = count_split (λ p. true) free m in
          let v = count_all m in
          let w : count (λ p. not (free p)) m ≤ count (λ j. want j && old j) n = count_into (λ p. not (free p)) m
          (λ j. want j && old j) n owner
          (λ p h f. taken p h (unfree (free p) f))
          (λ p q h k f g o. one_place n m want old free was s.held p q h k (taken p h (unfree (free p) f)).0 o) in
          omega arith
        where
          unfree : (b : Bool) → not b ≡ true → b ≡ false
          unfree true q = absurd (false≢true q)
          unfree false q = refl
