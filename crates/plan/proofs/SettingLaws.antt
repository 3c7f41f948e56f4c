-- Laws of the setting in which a change is planned: the rights are rights of words, and an entry of the finished pool
-- leads where its block wants a table.
use Prim.Native.Nat.{ℕ, suc, ◌*◌, ◌<◌}
use mathlib.Core.Path.{◌≡◌, sym, ap, ◌∙◌}
use mathlib.Core.Bool.{Bool, true}
use native.Mathlib.Omega.{arith}
use borrow.Author.Tests.{lt-ltb}
use Rattle.theory.specs.Pool.{right_of}
use Rattle.theory.proofs.Logic.{by_cases}
use Rattle.words.specs.Rights.{eight_of}
use Rattle.table.specs.declared.Shape.{Shape}
use Rattle.table.specs.Map.{leads, form_of}
use Rattle.table.specs.Wants.{WordRights}
use Rattle.table.proofs.WantLaws.{wants_says, pool_rights}
use Rattle.places.proofs.OwnedLaws.{seek_owner}
use Rattle.places.specs.Count.{blocks, domain_of, address_of, want}
use Rattle.places.specs.Final.{table_of, entry_word}
use Rattle.places.proofs.NumberLaws.{number_first}
use Rattle.places.proofs.OldLaws.{place_low}
use Rattle.places.proofs.ChangedLaws.{changed_rights}
use Rattle.places.proofs.FinalWordLaws.{entry_leads, entry_says_lem}
use Rattle.targets.specs.declared.Paint.{Paint}
use Rattle.targets.specs.Paints.{region}
use Rattle.plan.specs.Aims.{aim_of, aimed_at}
use Rattle.plan.proofs.Setting.{Setting}
use Rattle.plan.proofs.BlockRightsLaws.{said_near, said_plain}
use Rattle.plan.proofs.MeetLaws.{Plain}
use Rattle.plan.proofs.WantedLaws.{first_address, plain_want}

module _ {s : Shape} {d : ℕ} {paint : Paint} {P : ℕ → ℕ} {owner : ℕ → ℕ → ℕ} {free : ℕ → ℕ → Bool}
    (c : Setting s d paint P owner free) where
  abbrev D : ℕ
  D = s.domains

  abbrev T : ℕ → ℕ → ℕ
  T = aimed_at s (aim_of d paint) P

  pub aims_rights : (e : ℕ) → WordRights (T e)
  aims_rights e = changed_rights (right_of (form_of s) P) d (region paint) paint.right e c.regular.right
      (pool_rights s P e)

  module _ (h i : ℕ) (hi : h < 2) (bi : i < blocks h * D) where
    -- The entry of a block of one right says that right.
    pub plain_entry : (r : ℕ) → Plain s d paint P h i r → entry_word s owner T P h i ≡ eight_of r
    plain_entry r pl =
        entry_says_lem s owner T P h i (plain_want s d paint P h i hi bi r pl)
        ∙ said_near (T (domain_of h i)) (λ b. r) (suc h) (address_of h i) (number_first h D i hi bi).1
        (λ b bb x. pl b bb (x ∙ first_address h i hi))
        ∙ said_plain r h (address_of h i)

    -- The finished entry leads where the block wants a table.
    pub entry_lead : leads (suc h) (entry_word s owner T P h i) ≡ want T h i
    entry_lead = by_cases (want T h i)
        (λ w. ap (leads (suc h)) (entry_leads s owner T P h i w) ∙ led w ∙ sym w)
        (λ w. ap (leads (suc h)) (entry_says_lem s owner T P h i w)
        ∙ (wants_says s (T (domain_of h i)) (suc h) (address_of h i) (aims_rights (domain_of h i)) (omega arith)
        (number_first h D i hi bi).1 w).rights
        ∙ sym w)
      where
        led : want T h i ≡ true → leads (suc h) (table_of s owner h i) ≡ true
        led w = lt-ltb _ 2147483648 (place_low s h _ c.range hi (seek_owner _ _ _ _ _ _ (c.placed h hi) i bi w).0)
