-- The contracts leave one answer for each input.
use Rattle.std.proofs.Common.{Option}
use Prim.Native.Nat.{ℕ, ◌*◌, ◌/◌, ◌%◌}
use mathlib.Core.Path.{◌≡◌, refl, sym, ◌∙◌}
use mathlib.Core.Bool.{Bool, true, false, false≢true}
use Rattle.words.specs.Rights.{right_at}
use Rattle.table.specs.Map.{block}
use Rattle.table.specs.Wants.{said_of}
use Rattle.targets.specs.declared.Paint.{Paint}
use Rattle.targets.specs.Targets.{painted, target_of, given, Gives, GivesLeaf, Decides}

-- What `entry_target` promises, and what `paint_word` does.
abbrev TargetPromise : Paint → (ℕ → ℕ) → ℕ → ℕ → ℕ → Option ℕ → Type 0
TargetPromise p P h e n r = (R : ℕ → ℕ) → Gives P h e n R → r ≡ target_of (painted p R) h (n * block h)

abbrev WordPromise : Paint → ℕ → ℕ → ℕ → Type 0
WordPromise p w n r = (R : ℕ → ℕ) → GivesLeaf w n R → r ≡ said_of (painted p R) 0 (n * 64)

pub one_target : (p : Paint) (P : ℕ → ℕ) (h e n : ℕ) (q r : Option ℕ) → TargetPromise p P h e n q
    → TargetPromise p P h e n r → q ≡ r
one_target p P h e n q r x y = x (given P h e) (λ a f. refl) ∙ sym (y (given P h e) (λ a f. refl))

pub one_word : (p : Paint) (w n q r : ℕ) → WordPromise p w n q → WordPromise p w n r → q ≡ r
one_word p w n q r x y = x (λ a. right_at w (a / 4 % 16)) (λ a f. refl)
    ∙ sym (y (λ a. right_at w (a / 4 % 16)) (λ a f. refl))

pub one_test : (A : Type 0) (q r : Bool) → Decides q A → Decides r A → q ≡ r
one_test A true r x y = sym (y.passes (x.holds refl))
one_test A false true x y = absurd (false≢true (x.passes (y.holds refl)))
one_test A false false x y = refl
