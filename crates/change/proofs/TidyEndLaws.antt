-- How a tidying begins, and what its end says.
use Prim.Native.Nat.{ℕ}
use mathlib.Core.Path.{refl, sym, subst}
use mathlib.Core.List.{List}
use lib.ListN.{length}
use Rattle.std.specs.Prelude.{Ok}
use Rattle.theory.specs.Pool.{words, SoundPool}
use Rattle.table.specs.declared.Shape.{Shape}
use Rattle.table.specs.Shape.{Fits}
use Rattle.table.specs.Map.{form_of}
use Rattle.targets.specs.Paints.{no_paint}
use Rattle.plan.specs.Aims.{Aim, aim_of, no_aim}
use Rattle.change.specs.declared.Ending.{Ending}
use Rattle.change.specs.Runs.{Tidying}
use Rattle.change.specs.Answers.{Tidies, done, cut}
use Rattle.change.specs.Runs.{Ready, Ends, all_made, cut_short}
use Rattle.change.proofs.GoalLaws.{no_paint_lem, tidy_goal}

pub tidy_ready : (s : Shape) (p : List ℕ) → Fits s (length p) → SoundPool (form_of s) (words p)
    → Ready s (aim_of 0 no_paint) Tidying p
tidy_ready s p f o = let (Q, kept, g) = tidy_goal s p f o in
    subst (λ (z : Aim). Ready s z Tidying p) (sym no_paint_lem)
    (record { fits = f; goal = Q; kept = kept; due = g; meant = refl; follows = refl })

pub tidy_answers : {s : Shape} {p : List ℕ} {n : ℕ} {a : Ending} {y : List ℕ} → Fits s (length p)
    → SoundPool (form_of s) (words p)
    → Ends p s (aim_of 0 no_paint) n a y → Tidies p s n (Ok a) y
tidy_answers {s} {p} {n} {a} {y} f o e = go (subst (λ (z : Aim). Ends p s z n a y) no_paint_lem e)
  where
    go : {a : Ending} {y : List ℕ} → Ends p s no_aim n a y → Tidies p s n (Ok a) y
    go (all_made q d) = done f o q d
    go (cut_short x c) = cut f o x c
