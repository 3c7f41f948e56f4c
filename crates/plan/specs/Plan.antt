-- The plan of a change: what each pool word is to hold, from the plan, the word's number and what it holds; and in
-- which phase it is stored.
use Rattle.std.specs.Prelude.{ℕ, zero, suc, ◌+◌, ◌*◌, ◌-◌, ◌/◌, ◌%◌, ◌≤◌, ◌<◌, ◌≡◌, Bool, true, false, cond, ◌&&◌, ◌||◌, not, List, eqb, leb, ltb, length, get_or, set}
use Rattle.words.specs.Rights.{right_at, eight_of}
use Rattle.table.specs.declared.Shape.{Shape}
use Rattle.table.specs.Shape.{size}
use Rattle.table.specs.Map.{leads, zone}
use Rattle.table.specs.Wants.{said_of}
use Rattle.places.specs.Count.{heights}
use Rattle.targets.specs.declared.Paint.{Paint}
use Rattle.targets.specs.Targets.{painted, virtual_of}
use Rattle.plan.specs.Planning.{Regular, first_of, last_of}
use Rattle.plan.specs.declared.Edge.{Edge}
use Rattle.plan.specs.declared.Ends.{Ends}

-- All that the stores of a change need to know. The blocks and pages between the two edges are covered whole; those
-- outside stay.
pub record Plan : Type 0 where
  pub domain : ℕ
  pub paint : Paint
  pub blocks : Ends
  pub pages : Ends

-- A plan lies in sixteen words: the domain, the region and its right, then four edges of three words each.
abbrev pub plan_words : ℕ
plan_words = 16

-- Here the words of an edge begin: of the first or the last of a height, that of the tables that may stand for them.
abbrev pub edge_word : ℕ → Bool → ℕ
edge_word zero first = cond first 10 13
edge_word (suc h) first = cond first 4 7

-- The edge whose words begin at `i` ..
abbrev pub edge_in : List ℕ → ℕ → Edge
edge_in l i = record { number = get_or l i 0; old = get_or l (i + 1) 0; last = get_or l (i + 2) 0 }

-- .. both edges of a height ..
abbrev pub ends_in : List ℕ → ℕ → Ends
ends_in l h = record { first = edge_in l (edge_word h true); last = edge_in l (edge_word h false) }

-- .. the region and its right ..
abbrev pub paint_in : List ℕ → Paint
paint_in l = record { lo = get_or l 1 0; hi = get_or l 2 0; right = get_or l 3 0 }

-- .. and the whole plan.
abbrev pub plan_in : List ℕ → Plan
plan_in l = record { domain = get_or l 0 0; paint = paint_in l; blocks = ends_in l 1; pages = ends_in l 0 }

-- The words with an edge stored from `i` on.
abbrev pub put_edge : List ℕ → ℕ → Edge → List ℕ
put_edge l i e = set (set (set l i e.number) (i + 1) e.old) (i + 2) e.last

-- The words `m` are as many as the words `l`, and the same beside the `n` from `i` on.
pub record Beside (i n : ℕ) (l m : List ℕ) : Type 0 where
  pub long : length m ≡ length l
  pub below : (k : ℕ) → k < i → get_or m k 0 ≡ get_or l k 0
  pub above : (k : ℕ) → i + n ≤ k → get_or m k 0 ≡ get_or l k 0

-- The edges of a height, that of the tables that may stand for them: 0 for pages, 1 for blocks.
abbrev pub ends_of : Plan → ℕ → Ends
ends_of q zero = q.pages
ends_of q (suc h) = q.blocks

-- One of them: the first, or the last.
abbrev pub edge_of : Plan → ℕ → Bool → Edge
edge_of q h first = cond first (ends_of q h).first (ends_of q h).last

-- Word `k` is one of the `n` words from `t` on.
abbrev pub InTable : ℕ → ℕ → ℕ → Bool
InTable t n k = leb t k && ltb k (t + n)

-- Word `k` is of the table of height `h` to which the edge's new entry leads.
abbrev pub of_table : ℕ → Edge → ℕ → Bool
of_table h e k = leads (suc h) e.last && InTable e.last (size h) k

-- The edge gets a table of height `h` that it did not have ..
abbrev pub is_new : ℕ → Edge → Bool
is_new h e = leads (suc h) e.last && not (leads (suc h) e.old)

-- .. and word `k` is of that table.
abbrev pub of_new : ℕ → Edge → ℕ → Bool
of_new h e k = is_new h e && InTable e.last (size h) k

-- The leaf entry `w` of the 64 bytes numbered `n`, once the region is painted.
abbrev pub painted_leaf : Paint → ℕ → ℕ → ℕ
painted_leaf p w n = said_of (painted p (λ a. right_at w (a / 4 % 16))) 0 (n * 64)

-- The entry of height `h` of the block numbered `n` in the domain, where it was `x`: in a leaf it is painted; above, an
-- edge has its finished entry, a block between the edges the right, and any other block the entry that it had.
abbrev pub entry_after : Plan → ℕ → ℕ → ℕ → ℕ
entry_after q zero n x = painted_leaf q.paint x n
entry_after q (suc h) n x =
    cond (eqb n (ends_of q h).first.number) (ends_of q h).first.last
    (cond (eqb n (ends_of q h).last.number) (ends_of q h).last.last
    (cond (ltb (ends_of q h).first.number n && ltb n (ends_of q h).last.number) (eight_of q.paint.right) x))

-- The entry of height `h` that block `n` had, where the word holds `x` and the entry above was `old`: without a table,
-- the one that stood for it.
abbrev pub entry_before : ℕ → ℕ → ℕ → ℕ → ℕ
entry_before h old n x = cond (leads (suc h) old) x (virtual_of h old n)

-- Word `j` of the table of height `h` of an edge, where it holds `x`.
abbrev pub table_after : Plan → ℕ → Edge → ℕ → ℕ → ℕ
table_after q h e j x = entry_after q h (size h * e.number + j) (entry_before h e.old (size h * e.number + j) x)

-- What word `k`, which holds `x`, is to hold if it is of the tables of a height, and else `y`.
abbrev pub ends_after : Plan → ℕ → ℕ → ℕ → ℕ → ℕ
ends_after q h k x y =
    cond (of_table h (ends_of q h).first k) (table_after q h (ends_of q h).first (k - (ends_of q h).first.last) x)
    (cond (of_table h (ends_of q h).last k) (table_after q h (ends_of q h).last (k - (ends_of q h).last.last) x) y)

-- What word `k` is to hold, where it holds `x`.
unfoldable pub after : Plan → ℕ → ℕ → ℕ
after q k x =
    cond (InTable (1024 * q.domain) 1024 k) (entry_after q 2 (k - 1024 * q.domain) x)
    (ends_after q 1 k x (ends_after q 0 k x x))

-- Word `k` is of a new table of a height ..
abbrev pub new_at : Plan → ℕ → ℕ → Bool
new_at q h k = of_new h (ends_of q h).first k || of_new h (ends_of q h).last k

-- .. or of any.
unfoldable pub new_word : Plan → ℕ → Bool
new_word q k = new_at q 1 k || new_at q 0 k

-- The phase in which word `k`, which holds `x`, is stored: 2 in a new table; else 1 where it leads, 3 where it does
-- not.
abbrev pub phase_of : Shape → Plan → ℕ → ℕ → ℕ
phase_of s q k x = cond (new_word q k) 2 (cond (leads (zone s k) x) 1 3)

-- The plan is for a region that may be, and its edges are at the ends of it.
pub record PlanFits (q : Plan) : Type 0 where
  pub domain : q.domain < 16
  pub region : Regular q.paint
  pub first : (h : ℕ) → h < heights → (ends_of q h).first.number ≡ first_of h q.paint
  pub last : (h : ℕ) → h < heights → (ends_of q h).last.number ≡ last_of h q.paint
