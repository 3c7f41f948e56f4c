-- Laws of the entry that a block had in the old pool: whether it led, and which rights it gave.
use Prim.Native.Nat.{ℕ, zero, suc, ◌+◌, ◌*◌, ◌/◌, ◌%◌, ◌<◌}
use mathlib.Core.Path.{◌≡◌, refl, sym, ap, ◌∙◌}
use mathlib.Core.Bool.{Bool, true, false, cond, ◌&&◌}
use native.Mathlib.Omega.{arith}
use borrow.Author.Tests.{le-ltb}
use Rattle.theory.specs.Form.{Form}
use Rattle.theory.specs.Pool.{right, right_of}
use Rattle.theory.proofs.Logic.{by_cases}
use Rattle.theory.proofs.RightLaws.{right_down, right_says}
use Rattle.words.specs.Rights.{right_at, eight_of}
use Rattle.words.proofs.RightsLaws.{right_small, eight_right}
use Rattle.table.specs.declared.Shape.{Shape}
use Rattle.table.specs.Map.{addresses, block, part, leads, index, form_of}
use Rattle.places.specs.Count.{blocks}
use Rattle.places.specs.Final.{old}
use Rattle.targets.specs.Targets.{virtual_of}
use Rattle.plan.specs.Edges.{entry_at}

-- Eight rights do not lead.
eight_rests : (r : ℕ) → leads 1 (eight_of r) ≡ false
eight_rests r = le-ltb (eight_of r) 2147483648 (omega arith)

module _ (s : Shape) (P : ℕ → ℕ) (d : ℕ) where
  abbrev F : Form
  F = form_of s

  -- The entry led where the block had a table.
  pub old_leads : (h n : ℕ) → h < 2 → n < blocks h → leads (suc h) (entry_at P h d n) ≡ old P h (blocks h * d + n)
  old_leads zero n hi b =
      let x : (1048576 * d + n) / 1024 ≡ 1024 * d + n / 1024 = omega arith in
      let y : (1048576 * d + n) % 1024 ≡ n % 1024 = omega arith in
      rw (x, y) (tested (leads 2 (P (1024 * d + n / 1024))))
    where
      tested : (t : Bool) → leads 1 (cond t (P (P (1024 * d + n / 1024) + n % 1024))
          (virtual_of 1 (P (1024 * d + n / 1024)) n))
          ≡ (t && leads 1 (P (P (1024 * d + n / 1024) + n % 1024)))
      tested true = refl
      tested false = eight_rests (right_at (P (1024 * d + n / 1024)) (n / 128 % 8))
  old_leads (suc zero) n hi b = refl
  old_leads (suc (suc h)) n hi b = absurd (omega arith)

  -- The address `b`, and the page and the block around it.
  module _ (b : ℕ) (bb : b < addresses) where
    abbrev root : ℕ
    root = P (1024 * d + b / 4096 / 1024)

    abbrev entry_in : ℕ
    entry_in = P (root + b / 4096 % 1024)

    root_word : 1024 * d + index 2 b ≡ 1024 * d + b / 4096 / 1024
    root_word = omega arith

    right_root : right_of F P d b ≡ right F P 2 (1024 * d + b / 4096 / 1024) b
    right_root = ap (λ k. right F P 2 k b) root_word

    old_root : leads 2 root ≡ false → right_of F P d b ≡ right_at root (b / 524288 % 8)
    old_root l = right_root ∙ right_says F P 2 _ b l

    old_middle : leads 2 root ≡ true → right_of F P d b ≡ right F P 1 (root + b / 4096 % 1024) b
    old_middle l = right_root ∙ right_down F P 1 _ b l

    -- The page's entry, by whether there is a middle table.
    entry_led : leads 2 root ≡ true → entry_at P 0 d (b / 4096) ≡ entry_in
    entry_led l = ap (λ t. cond t entry_in (eight_of (right_at root (b / 4096 / 128 % 8)))) l

    entry_stood : leads 2 root ≡ false → entry_at P 0 d (b / 4096) ≡ eight_of (right_at root (b / 4096 / 128 % 8))
    entry_stood l = ap (λ t. cond t entry_in (eight_of (right_at root (b / 4096 / 128 % 8)))) l

    page_says : leads 1 (entry_at P 0 d (b / 4096)) ≡ false → right_of F P d b ≡ right_at (entry_at P 0 d (b / 4096))
        (b / 512 % 8)
    page_says l = by_cases (leads 2 root)
        (λ r. let x = entry_led r in old_middle r ∙ right_says F P 1 _ b (rw x at l)
        ∙ ap (λ w. right_at w (b / 512 % 8)) (sym x))
        (λ r.
        let x : b / 524288 % 8 ≡ b / 4096 / 128 % 8 = omega arith in
        old_root r ∙ ap (right_at root) x
        ∙ sym (eight_right (right_at root (b / 4096 / 128 % 8)) (b / 512 % 8) (right_small root _) (omega arith))
        ∙ ap (λ w. right_at w (b / 512 % 8)) (sym (entry_stood r)))

    block_says : leads 2 (entry_at P 1 d (b / 4194304)) ≡ false → right_of F P d b
        ≡ right_at (entry_at P 1 d (b / 4194304)) (b / 524288 % 8)
    block_says l =
        let x : 1024 * d + index 2 b ≡ 1024 * d + b / 4194304 = omega arith in
        ap (λ k. right F P 2 k b) x ∙ right_says F P 2 _ b l

  -- Where it did not lead, it gave the rights of the block.
  pub old_says : (h n b : ℕ) → h < 2 → b < addresses → b / block (suc h) ≡ n → leads (suc h) (entry_at P h d n) ≡ false
      → right_of F P d b ≡ right_at (entry_at P h d n) (b / part (suc h) % 8)
  old_says zero n b hi bb e l = rw (← e) (page_says b bb (rw (← e) at l))
  old_says (suc zero) n b hi bb e l = rw (← e) (block_says b bb (rw (← e) at l))
  old_says (suc (suc h)) n b hi bb e l = absurd (omega arith)
