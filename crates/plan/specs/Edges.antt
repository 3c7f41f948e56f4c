-- The edges of a plan, the places of its tables, and what it is for a plan to be ready; then, for the inner
-- functions, the steps by which it is made. A height `h` is that of the tables that may stand for a block: 0 for pages,
-- 1 for blocks of 4 MB.
use Rattle.std.specs.Prelude.{ℕ, zero, suc, ◌+◌, ◌*◌, ◌/◌, ◌%◌, ◌≤◌, ◌<◌, ◌≡◌, ◌⊎◌, Bool, true, false, cond, ◌&&◌, ◌||◌, not, List, Option, Some, None, eqb, ltb, length, get_or}
use Rattle.theory.specs.Pool.{words}
use Rattle.table.specs.declared.Shape.{Shape}
use Rattle.table.specs.Shape.{places}
use Rattle.table.specs.Map.{block, leads}
use Rattle.places.specs.Count.{count, heights, blocks, domain_of, want, Room}
use Rattle.places.specs.Owners.{Owned}
use Rattle.places.specs.Final.{old, was, place_at, AllOwned, entry_word}
use Rattle.census.specs.Places.{first_number}
use Rattle.census.specs.Tally.{none}
use Rattle.targets.specs.declared.Paint.{Paint}
use Rattle.targets.specs.Targets.{painted, target_of, virtual_of, Gives, Readable}
use Rattle.plan.specs.declared.Edge.{Edge}
use Rattle.plan.specs.declared.Ends.{Ends}
use Rattle.plan.specs.Plan.{Plan, edge_word, edge_in, ends_in, Beside, ends_of, is_new}
use Rattle.plan.specs.Aims.{aim_of, aimed_at}
use Rattle.plan.specs.Planning.{first_of, last_of}

-- The entry that block `n` of domain `d` has in the pool `P`; of a page in a block of eight rights, the eight rights
-- that stand for it.
abbrev pub entry_at : (ℕ → ℕ) → ℕ → ℕ → ℕ → ℕ
entry_at P zero d n =
    cond (leads 2 (P (1024 * d + n / 1024))) (P (P (1024 * d + n / 1024) + n % 1024))
    (virtual_of 1 (P (1024 * d + n / 1024)) n)
entry_at P (suc h) d n = P (1024 * d + n)

module _ (s : Shape) (d : ℕ) (paint : Paint) (P : ℕ → ℕ) (owner : ℕ → ℕ → ℕ) where
  -- The edge for block `n`: its number, the entry that it had, and the finished entry.
  pub record EdgeIs (h n : ℕ) (e : Edge) : Type 0 where
    pub number : e.number ≡ n
    pub old : e.old ≡ entry_at P h d n
    pub last : e.last ≡ entry_word s owner (aimed_at s (aim_of d paint) P) P h (blocks h * d + n)

  -- The edges of a height are right.
  pub record EndsIs (h : ℕ) (ends : Ends) : Type 0 where
    pub first : EdgeIs h (first_of h paint) ends.first
    pub last : EdgeIs h (last_of h paint) ends.last

  -- The plan is right at its edges.
  pub record Edges (q : Plan) : Type 0 where
    pub for_domain : q.domain ≡ d
    pub for_paint : q.paint ≡ paint
    pub ends : (h : ℕ) → h < heights → EndsIs h (ends_of q h)

-- The tables of a height have their places: `owner` says which block stands where.
abbrev pub Placed : Shape → ℕ → Paint → (ℕ → ℕ) → ℕ → (ℕ → Bool) → (ℕ → ℕ) → Type 0
Placed s d paint P h free owner =
    Owned (blocks h * s.domains) (places s h) (want (aimed_at s (aim_of d paint) P) h) (old P h) free (was s P h) owner

-- A plan that is ready: the tables of the finished pool have their places, and the plan is right at its edges.
pub record PlanReady (s : Shape) (d : ℕ) (paint : Paint) (P : ℕ → ℕ) (q : Plan) : Type 0 where
  pub free : ℕ → ℕ → Bool
  pub owner : ℕ → ℕ → ℕ
  pub placed : AllOwned s (aimed_at s (aim_of d paint) P) P free owner
  pub edges : Edges s d paint P owner q

-- The plan of a change: ready, or the finished rights need more tables than there are places.
abbrev pub PlansChange : Shape → ℕ → Paint → (ℕ → ℕ) → Bool → Plan → Type 0
PlansChange s d paint P true q = PlanReady s d paint P q
PlansChange s d paint P false q = Room s (aimed_at s (aim_of d paint) P) → ⊥

-- The steps, for each height: first the edges, then, of the places where no kept table stands, those of new ones.

-- An edge with what is known before places are given out: eight rights, the pointer that it had, or a pointer that
-- waits for its place.
abbrev pub edge_for : ℕ → ℕ → Option ℕ → Edge
edge_for n e (Some w) = record { number = n; old = e; last = w }
edge_for n e None = record { number = n; old = e; last = cond (leads 1 e) e 2147483647 }

-- The edge for block `n`, where the domain has the rights `R`.
abbrev pub edge_at : (ℕ → ℕ) → ℕ → Paint → (ℕ → ℕ) → ℕ → ℕ → Edge
edge_at P d paint R h n = edge_for n (entry_at P h d n) (target_of (painted paint R) (suc h) (n * block (suc h)))

-- The root words of domain `d` are in the pool and readable ..
abbrev pub ReadableRoot : List ℕ → ℕ → Type 0
ReadableRoot p d = (b : ℕ) → b < 1024 → (1024 * d + b < length p) × Readable p 2 (words p (1024 * d + b))

-- .. and give the rights `R`.
abbrev pub RootGives : (ℕ → ℕ) → ℕ → (ℕ → ℕ) → Type 0
RootGives P d R = (b : ℕ) → b < 1024 → Gives P 2 (P (1024 * d + b)) b R

-- Block `n` of domain `e`, which has a table, wants it after the change of domain `d` too, by the edges of the region.
abbrev pub stays_of : ℕ → Ends → ℕ → ℕ → Bool
stays_of d ends e n =
    cond (eqb e d)
    (cond (eqb n ends.first.number) (leads 1 ends.first.last)
    (cond (eqb n ends.last.number) (leads 1 ends.last.last)
    (ltb n ends.first.number || ltb ends.last.number n)))
    true

-- The owner of a place of the height `h`, if there is one, wants its table after the change too.
abbrev pub owner_stays : ℕ → ℕ → Ends → ℕ → Bool
owner_stays h d ends i = not (eqb i none) && stays_of d ends (domain_of h i) (i % blocks h)

-- At place `p` of the height `h`, by the owners `o` of all places, a kept table stands.
abbrev pub kept_at : List ℕ → ℕ → ℕ → Ends → ℕ → Bool
kept_at o h d ends p = owner_stays h d ends (get_or o (first_number h + p) 0)

module _ (s : Shape) (d : ℕ) (paint : Paint) (P : ℕ → ℕ) where
  -- The tables of height `h` have their places, and the edges of the region lead to theirs.
  pub record EndsPlaced (h : ℕ) (ends : Ends) : Type 0 where
    pub free : ℕ → Bool
    pub owner : ℕ → ℕ
    pub placed : Placed s d paint P h free owner
    pub right : EndsIs s d paint P (λ g. owner) h ends

  -- They have their places, or they are too many.
  abbrev pub EndsAre : ℕ → Bool → Ends → Type 0
  EndsAre h true ends = EndsPlaced h ends
  EndsAre h false ends = places s h < count (want (aimed_at s (aim_of d paint) P) h) (blocks h * s.domains)

  -- A height is planned: of the words `l` of a plan the words `m` have its edges, and leave the others as they were.
  pub record PlansEnds (h : ℕ) (l m : List ℕ) (r : Bool) : Type 0 where
    pub ends : EndsAre h r (ends_in m h)
    pub beside : Beside (edge_word h true) 6 l m

-- `r` is the first place from `c` on, below `m`, that is not kept ..
pub record FirstFree (f : ℕ → Bool) (c m r : ℕ) : Type 0 where
  pub low : c ≤ r
  pub high : r < m
  pub gap : (q : ℕ) → c ≤ q → q < r → f q ≡ true
  pub free : f r ≡ false

-- .. or there is none.
abbrev pub FreeIs : (ℕ → Bool) → ℕ → ℕ → Option ℕ → Type 0
FreeIs f c m (Some r) = FirstFree f c m r
FreeIs f c m None = (q : ℕ) → c ≤ q → q < m → f q ≡ true

-- The edge `e` gets the first free place from `c` on for its new table, and places are next looked for from `b` on.
pub record Takes (f : ℕ → Bool) (c : ℕ) (s : Shape) (h : ℕ) (e g : Edge) (b : ℕ) : Type 0 where
  pub makes_new : is_new h e ≡ true
  pub place : ℕ
  pub first : FirstFree f c (places s h) place
  pub same_number : g.number ≡ e.number
  pub same_old : g.old ≡ e.old
  pub points : g.last ≡ place_at s h place
  pub next : b ≡ place + 1

-- From which place on the next is looked for, once an edge has its own, or that none is left: an edge that needs no new
-- place stays as it is; one that does takes the first free one, or there is none.
abbrev pub TakenIs : (ℕ → Bool) → ℕ → Shape → ℕ → Edge → Edge → Option ℕ → Type 0
TakenIs f c s h e g (Some b) = ((is_new h e ≡ false) × (g ≡ e) × (b ≡ c)) ⊎ Takes f c s h e g b
TakenIs f c s h e g None = (is_new h e ≡ true) × FreeIs f c (places s h) None

-- So it is with the edge whose words begin at `i`; the other words are as they were.
pub record TakesPlace (f : ℕ → Bool) (c : ℕ) (s : Shape) (h i : ℕ) (l m : List ℕ) (r : Option ℕ) : Type 0 where
  pub taken : TakenIs f c s h (edge_in l i) (edge_in m i) r
  pub beside : Beside i 3 l m
