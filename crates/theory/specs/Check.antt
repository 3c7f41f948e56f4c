-- The check of a pool as a program makes it: an entry is checked, and the table that it leads to, one level down;
-- a table that was met before is refused. For any form.
use Rattle.std.specs.Prelude.{ℕ, zero, suc, ◌+◌, Bool, cond, ◌||◌, eqb}
use Rattle.theory.specs.Form.{Form}

-- Refused, or fine, with the tables met so far, by where they begin.
pub data Finding : Type 0 where
  refused : Finding
  met : (ℕ → Bool) → Finding

-- The tables met, with the one at `t`.
abbrev pub mark : (ℕ → Bool) → ℕ → ℕ → Bool
mark s t x = eqb x t || s x

-- One check after another.
abbrev pub and_then : Finding → ((ℕ → Bool) → Finding) → Finding
and_then refused f = refused
and_then (met s) f = f s

-- The words `t`, .., `t + n - 1`, in order.
unfoldable pub each : (ℕ → (ℕ → Bool) → Finding) → ℕ → ℕ → (ℕ → Bool) → Finding
each f t zero s = met s
each f t (suc n) s = and_then (f t s) (each f (t + 1) n)

module _ (F : Form) (P : ℕ → ℕ) where
  -- An entry is sound when it is rights or leads to a sound table one level down, and a table when each of its
  -- entries is.
  unfoldable pub entry_check : ℕ → ℕ → (ℕ → Bool) → Finding
  entry_check zero k s = cond (F.good zero (P k)) (met s) refused
  entry_check (suc h) k s =
      cond (F.good (suc h) (P k))
      (cond (F.leads (suc h) (P k))
      (cond (s (F.target (suc h) (P k))) refused
      (each (entry_check h) (F.target (suc h) (P k)) (F.size h) (mark s (F.target (suc h) (P k)))))
      (met s))
      refused

  -- The table of height `h` that begins at `t`.
  abbrev pub table_check : ℕ → ℕ → (ℕ → Bool) → Finding
  table_check h t = each (entry_check h) t (F.size h)

  -- The first `n` roots, in order of domain.
  unfoldable pub roots_check : ℕ → (ℕ → Bool) → Finding
  roots_check zero s = met s
  roots_check (suc n) s = and_then (roots_check n s) (table_check F.top (F.root n))
