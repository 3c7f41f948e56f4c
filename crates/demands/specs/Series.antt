-- Series of changes, by the supervisor and by callers, and of tidyings, from a fresh pool on, each of them finished,
-- cut or refused; which right a word may then have; and what there is room for.
use Rattle.std.specs.Prelude.{ℕ, ◌<◌, ◌≡◌, ◌⊎◌, true, false, List, length, Result, Ok, Err}
use Rattle.refusals.specs.declared.Refusal.{Refusal}
use Rattle.refusals.specs.declared.Refusal.TheVariants.{NoRoom}
use Rattle.theory.specs.Pool.{words, SoundPool, right_of}
use Rattle.words.specs.Region.{region_of}
use Rattle.words.specs.declared.Region.{Region}
use Rattle.table.specs.declared.Shape.{Shape}
use Rattle.table.specs.Shape.{Fits}
use Rattle.table.specs.Fresh.{MakesFresh}
use Rattle.table.specs.Map.{addresses, form_of}
use Rattle.places.specs.Count.{Room}
use Rattle.change.specs.declared.Ending.{Ending}
use Rattle.change.specs.declared.Ending.TheVariants.{Done, Cut}
use Rattle.plan.specs.Aims.{Aim, change_aim, no_aim, aimed_at}
use Rattle.change.specs.Answers.{Changes, Tidies}
use Rattle.owners.specs.Calls.{make_of, pass_of, give_of}
use Rattle.owners.specs.Changes.{ChangesBy}

-- What a call did: rights were set, by an aim, or the pool was tidied, each with what was answered; or it was a call on
-- the list of owned regions, which sets no right.
pub data Deed : Type 0 where
  aimed : Aim → Result Ending Refusal → Deed
  tidied : Result Ending Refusal → Deed
  listed : Deed

-- What has happened to a pool: it was made fresh; then there were calls.
pub data History : Type 0 where
  made : History
  after : History → Deed → History

-- The aim of a change, by the rounding of its region; one that is refused aims at nothing.
abbrev pub aim_in : Result Region Refusal → ℕ → ℕ → Aim
aim_in (Ok g) d r = change_aim d g r
aim_in (Err k) d r = no_aim

-- A change, as it was asked for.
abbrev pub setting : (d start len r : ℕ) → Result Ending Refusal → Deed
setting d start len r c = aimed (aim_in (region_of start len) d r) c

-- One call on the pool `p` beside the list of owned regions: what it did, and the pool and the list that it leaves.
pub data Call (s : Shape) (p list : List ℕ) : Deed → List ℕ → List ℕ → Type 0 where
  -- The supervisor's own change, always allowed.
  change : {q : List ℕ} {d start len r n : ℕ} {c : Result Ending Refusal} → Changes p s d start len r n c q
      → Call s p list (setting d start len r c) q list
  -- A change by a caller; one that the list does not allow is refused.
  change_by : {q : List ℕ} {caller d start len r n : ℕ} {c : Result Ending Refusal}
      → ChangesBy p s list caller d start len r n c q
      → Call s p list (setting d start len r c) q list
  tidy : {q : List ℕ} {n : ℕ} {c : Result Ending Refusal} → Tidies p s n c q → Call s p list (tidied c) q list
  make : (D caller owner start len : ℕ) → Call s p list listed p (make_of D list caller owner start len).list
  pass : (D caller owner start len : ℕ) → Call s p list listed p (pass_of D list caller owner start len).list
  give : (D caller receiver right start len : ℕ)
      → Call s p list listed p (give_of D list caller receiver right start len).list

-- The right `x` is one that the address `a` of domain `e` may have: that of the last finished change that covers it
-- (none: 0), or that of a later one that was cut. A change that was refused, as one not allowed is, does not count.
abbrev pub May : History → ℕ → ℕ → ℕ → Type 0
May made e a x = x ≡ 0
May (after h listed) e a x = May h e a x
May (after h (tidied c)) e a x = May h e a x
May (after h (aimed A (Err k))) e a x = May h e a x
May (after h (aimed A (Ok (Done k)))) e a x =
    ((A.covers e a ≡ true) × (x ≡ A.sets e a)) ⊎ ((A.covers e a ≡ false) × May h e a x)
May (after h (aimed A (Ok Cut))) e a x = ((A.covers e a ≡ true) × (x ≡ A.sets e a)) ⊎ May h e a x

-- A series: the pool `p`, of one shape throughout, has this history, beside a list of owned regions that may hold any
-- words to begin with.
pub data Series (s : Shape) : List ℕ → List ℕ → History → Type 0 where
  fresh : {p q : List ℕ} → MakesFresh s p (Ok tt) q → (list : List ℕ) → Series s q list made
  call : {p q list m : List ℕ} {h : History} {e : Deed} → Series s p list h → Call s p list e q m
      → Series s q m (after h e)

-- What holds of the pool of every series.
pub record Holds (s : Shape) (p : List ℕ) (h : History) : Type 0 where
  pub fits : Fits s (length p)
  pub sound : SoundPool (form_of s) (words p)
  pub rights : (e a : ℕ) → e < s.domains → a < addresses → May h e a (right_of (form_of s) (words p) e a)

-- There is room for the rights that the aim would leave.
abbrev pub RoomFor : Shape → List ℕ → Aim → Type 0
RoomFor s p A = Room s (aimed_at s A (words p))

-- The answer is that there is no room, and there is none; or there is room, and it is done or cut.
pub data ByRoom (s : Shape) (p : List ℕ) (A : Aim) : Result Ending Refusal → Type 0 where
  full : (RoomFor s p A → ⊥) → ByRoom s p A (Err NoRoom)
  finishes : RoomFor s p A → (k : ℕ) → ByRoom s p A (Ok (Done k))
  is_cut : RoomFor s p A → ByRoom s p A (Ok Cut)
