-- Laws of the numbers of blocks, over all domains: a number has one domain and one block, and numbers go by domain
-- and address.
use Prim.Native.Nat.{ℕ, zero, suc, ◌+◌, ◌*◌, ◌/◌, ◌%◌, ◌≤◌, ◌<◌}
use mathlib.Core.Path.{◌≡◌, sym, ap, ◌∙◌}
use mathlib.Core.Logic.{inl, inr}
use native.Mathlib.Omega.{arith}
use native.Mathlib.Nat.{add-zero}
use Rattle.theory.specs.Finished.{Before}
use Rattle.table.specs.Shape.{size}
use Rattle.table.specs.Map.{addresses, block, index}
use Rattle.table.specs.Wants.{wants_of, said_of}
use Rattle.table.proofs.WantLaws.{wants_block, said_block}
use Rattle.places.specs.Count.{blocks, domain_of, address_of, want}
use Rattle.places.specs.Final.{number}

pub number_below : (h D d a : ℕ) → h < 2 → d < D → a < addresses → number h d a < blocks h * D
number_below zero D d a hi bd ba = omega arith
number_below (suc zero) D d a hi bd ba = omega arith
number_below (suc (suc h)) D d a hi bd ba = absurd (omega arith)

-- Block `n` of domain `d` has a number below that of the domains after it.
pub number_in : (h D d n : ℕ) → h < 2 → d < D → n < blocks h → blocks h * d + n < blocks h * D
number_in zero D d n hi bd b = omega arith
number_in (suc zero) D d n hi bd b = omega arith
number_in (suc (suc h)) D d n hi bd b = absurd (omega arith)

pub in_domain : (h d n : ℕ) → h < 2 → n < blocks h → domain_of h (blocks h * d + n) ≡ d
in_domain zero d n hi b = omega arith
in_domain (suc zero) d n hi b = omega arith
in_domain (suc (suc h)) d n hi b = absurd (omega arith)

pub in_number : (h d n : ℕ) → h < 2 → n < blocks h → (blocks h * d + n) % blocks h ≡ n
in_number zero d n hi b = omega arith
in_number (suc zero) d n hi b = omega arith
in_number (suc (suc h)) d n hi b = absurd (omega arith)

pub number_is : (h d i n : ℕ) → h < 2 → domain_of h i ≡ d → i % blocks h ≡ n → i ≡ blocks h * d + n
number_is zero d i n hi x y = omega arith
number_is (suc zero) d i n hi x y = omega arith
number_is (suc (suc h)) d i n hi x y = absurd (omega arith)

-- A number has one domain and one block ..
pub number_domain : (h d a : ℕ) → h < 2 → a < addresses → domain_of h (number h d a) ≡ d
number_domain zero d a hi ba = omega arith
number_domain (suc zero) d a hi ba = omega arith
number_domain (suc (suc h)) d a hi ba = absurd (omega arith)

pub number_address : (h d a : ℕ) → h < 2 → a < addresses → address_of h (number h d a) / block (suc h)
    ≡ a / block (suc h)
number_address zero d a hi ba = omega arith
number_address (suc zero) d a hi ba = omega arith
number_address (suc (suc h)) d a hi ba = absurd (omega arith)

pub number_same : (h d a e b : ℕ) → h < 2 → a < addresses → b < addresses → number h d a ≡ number h e b
    → (d ≡ e) × (a / block (suc h) ≡ b / block (suc h))
number_same h d a e b hi ba bb q = (
  sym (number_domain h d a hi ba) ∙ ap (domain_of h) q ∙ number_domain h e b hi bb,
  sym (number_address h d a hi ba) ∙ ap (λ i. address_of h i / block (suc h)) q ∙ number_address h e b hi bb,
)

-- .. and every number is that of a block: of the block around each of its addresses.
pub number_of : (h D i x : ℕ) → h < 2 → i < blocks h * D → x < block (suc h)
    → (domain_of h i < D) × (address_of h i + x < addresses) × (number h (domain_of h i) (address_of h i + x) ≡ i)
number_of zero D i x hi bi bx = (omega arith, omega arith, omega arith)
number_of (suc zero) D i x hi bi bx = (omega arith, omega arith, omega arith)
number_of (suc (suc h)) D i x hi bi bx = absurd (omega arith)

pub number_first : (h D i : ℕ) → h < 2 → i < blocks h * D
    → (domain_of h i < D) × (address_of h i < addresses) × (number h (domain_of h i) (address_of h i) ≡ i)
number_first h D i hi bi = rw add-zero at (number_of h D i 0 hi bi (some h))
  where
    some : (h : ℕ) → 0 < block (suc h)
    some zero = omega arith
    some (suc h) = omega arith

pub number_order : (h d a e b : ℕ) → h < 2 → a < addresses → b < addresses → Before d a e b
    → number h d a ≤ number h e b
number_order zero d a e b hi ba bb (inl x) = omega arith
number_order zero d a e b hi ba bb (inr (x, y)) = omega arith
number_order (suc zero) d a e b hi ba bb (inl x) = omega arith
number_order (suc zero) d a e b hi ba bb (inr (x, y)) = omega arith
number_order (suc (suc h)) d a e b hi ba bb x = absurd (omega arith)

-- A page is one of the 1,024 of its 4 MB block, by its entry in a middle table.
pub page_number : (d a : ℕ) → a < addresses → number 0 d a ≡ 1024 * number 1 d a + index 1 a
page_number d a ba = omega arith

pub page_block : (d a : ℕ) → a < addresses → (number 0 d a / 1024 ≡ number 1 d a) × (number 0 d a % 1024 ≡ index 1 a)
page_block d a ba = (omega arith, omega arith)

-- The root word by which an address goes is that of its 4 MB block.
pub root_number : (d a : ℕ) → a < addresses → 1024 * d + index 2 a ≡ number 1 d a
root_number d a ba = omega arith

-- Entry `e` of the table of block `i` is the entry of an address of that block.
pub address_index : (h i e : ℕ) → h < 2 → e < size h → index h (address_of h i + block h * e) ≡ e
address_index zero i e hi be = omega arith
address_index (suc zero) i e hi be = omega arith
address_index (suc (suc h)) i e hi be = absurd (omega arith)

pub offset_below : (h e : ℕ) → h < 2 → e < size h → block h * e < block (suc h)
offset_below zero e hi be = omega arith
offset_below (suc zero) e hi be = omega arith
offset_below (suc (suc h)) e hi be = absurd (omega arith)

pub leaf_address : (d a : ℕ) → a < addresses → (address_of 0 (number 0 d a) + 64 * index 0 a) / 64 ≡ a / 64
leaf_address d a ba = rw page (omega arith)
  where
    page : number 0 d a % 1048576 ≡ a / 4096
    page = omega arith

-- What the block of a number wants and says is what the block around the address does.
module _ (R : ℕ → ℕ → ℕ) (h d a : ℕ) (hi : h < 2) (ba : a < addresses) where
  pub want_number : want R h (number h d a) ≡ wants_of (R d) (suc h) a
  want_number =
      ap (λ e. wants_of (R e) (suc h) (address_of h (number h d a))) (number_domain h d a hi ba)
      ∙ wants_block (R d) (suc h) _ a (number_address h d a hi ba)

  pub said_number : said_of (R (domain_of h (number h d a))) (suc h) (address_of h (number h d a)) ≡ said_of (R d) (suc h) a
  said_number =
      ap (λ e. said_of (R e) (suc h) (address_of h (number h d a))) (number_domain h d a hi ba)
      ∙ said_block (R d) (suc h) _ a (number_address h d a hi ba)

pub said_leaf : (R : ℕ → ℕ → ℕ) (d a : ℕ) → a < addresses
    → said_of (R (domain_of 0 (number 0 d a))) 0 (address_of 0 (number 0 d a) + 64 * index 0 a) ≡ said_of (R d) 0 a
said_leaf R d a ba =
    ap (λ e. said_of (R e) 0 (address_of 0 (number 0 d a) + 64 * index 0 a)) (number_domain 0 d a (omega arith) ba)
    ∙ said_block (R d) 0 _ a (leaf_address d a ba)
