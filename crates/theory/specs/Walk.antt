-- A walk as a program makes it, through any words at all: where it ends. For any form.
use Rattle.std.specs.Prelude.{ℕ, zero, suc, ◌+◌, cond}
use Rattle.theory.specs.Form.{Form}

-- A bad word was met, or the word `k` of the height `h` decides.
pub data End : Type 0 where
  bad : End
  decides : (h k : ℕ) → End

module _ (F : Form) (P : ℕ → ℕ) (a : ℕ) where
  -- The walk of `a` from word `k` of a height on ends at the first word that is bad or does not lead.
  unfoldable pub walk : ℕ → ℕ → End
  walk zero k = cond (F.good zero (P k)) (decides zero k) bad
  walk (suc h) k =
      cond (F.good (suc h) (P k))
      (cond (F.leads (suc h) (P k)) (walk h (F.target (suc h) (P k) + F.index h a)) (decides (suc h) k))
      bad
