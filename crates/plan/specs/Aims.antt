-- What sets rights is an aim: a change aims at one right on a region of a domain, a tidying at nothing.
use Rattle.std.specs.Prelude.{ℕ, ◌≤◌, ◌≡◌, Bool, false, cond, ◌&&◌, List, eqb, length}
use Rattle.theory.specs.Pool.{words, right_of, SoundPool}
use Rattle.theory.specs.Finished.{Finished}
use Rattle.theory.specs.Phase.{Tells}
use Rattle.words.specs.Region.{covered}
use Rattle.words.specs.declared.Region.{Region}
use Rattle.table.specs.declared.Shape.{Shape}
use Rattle.table.specs.Map.{form_of}
use Rattle.targets.specs.declared.Paint.{Paint}

-- Which addresses of which domains are covered, and the right that each of them is to get.
pub record Aim : Type 0 where
  pub covers : ℕ → ℕ → Bool
  pub sets : ℕ → ℕ → ℕ

-- A change aims at the right `r` on the words of domain `d` that the region covers ..
abbrev pub change_aim : ℕ → Region → ℕ → Aim
change_aim d g r = record { covers = λ e a. eqb e d && covered g a; sets = λ e a. r }

-- .. and a tidying at nothing.
abbrev pub no_aim : Aim
no_aim = record { covers = λ e a. false; sets = λ e a. 0 }

-- The aim that a domain and a paint fix.
abbrev pub aim_of : ℕ → Paint → Aim
aim_of d paint = change_aim d (record { lo = paint.lo; hi = paint.hi }) paint.right

-- The rights at which an aim aims, from the pool `P`: its own where it covers, and elsewhere those that there are.
abbrev pub aimed_at : Shape → Aim → (ℕ → ℕ) → ℕ → ℕ → ℕ
aimed_at s A P e a = cond (A.covers e a) (A.sets e a) (right_of (form_of s) P e a)

-- What the pool `p` is to become: `Q` is the finished pool, and `kept` tells the words of roots and of tables that
-- stay.
pub record Goal (s : Shape) (A : Aim) (p : List ℕ) (Q : ℕ → ℕ) (kept : ℕ → Bool) : Type 0 where
  pub sound : SoundPool (form_of s) (words p)
  pub finished : Finished (form_of s) (words p) (aimed_at s A (words p)) Q
  pub tells : Tells (form_of s) (words p) Q kept
  pub beyond : (k : ℕ) → length p ≤ k → Q k ≡ words p k
