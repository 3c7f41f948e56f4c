-- What is known when the places of one height are given out. Definitions.
use Prim.Native.Nat.{ℕ, suc, ◌+◌, ◌*◌, ◌<◌}
use mathlib.Core.Path.{◌≡◌}
use mathlib.Core.Bool.{Bool, true, false}
use lib.Dec.{ltb}
use Rattle.theory.specs.Settled.{Settled}
use Rattle.table.specs.declared.Shape.{Shape}
use Rattle.table.specs.Shape.{InRange, places}
use Rattle.table.specs.Map.{leads, form_of}
use Rattle.table.specs.Wants.{said_of}
use Rattle.places.specs.Count.{heights, blocks, domain_of, address_of, want}
use Rattle.places.specs.Owners.{Keeping}
use Rattle.places.specs.Final.{old, was}
use Rattle.targets.specs.declared.Paint.{Paint}
use Rattle.plan.specs.declared.Edge.{Edge}
use Rattle.plan.specs.declared.Ends.{Ends}
use Rattle.plan.specs.Aims.{aim_of, aimed_at}
use Rattle.plan.specs.Planning.{Regular, first_of, last_of}
use Rattle.plan.specs.Edges.{entry_at, edge_at}

-- Both edges of a height before places are given out, where the domain has the rights `R`.
abbrev pub ends_at : (ℕ → ℕ) → ℕ → Paint → (ℕ → ℕ) → ℕ → Ends
ends_at P d paint R h = record {
  first = edge_at P d paint R h (first_of h paint);
  last = edge_at P d paint R h (last_of h paint);
}

module _ (s : Shape) (d : ℕ) (paint : Paint) (P : ℕ → ℕ) where
  -- What is known of the edge of block `n`: its entry leads where the block wants a table, to the one that it had, if
  -- any.
  pub record Told (h n : ℕ) (e : Edge) : Type 0 where
    pub number : e.number ≡ n
    pub old : e.old ≡ entry_at P h d n
    pub wanted : leads (suc h) e.last ≡ want (aimed_at s (aim_of d paint) P) h (blocks h * d + n)
    pub kept : leads (suc h) e.old ≡ true → leads (suc h) e.last ≡ true → e.last ≡ e.old
    pub said : leads (suc h) e.last ≡ false
        → e.last ≡ said_of (aimed_at s (aim_of d paint) P (domain_of h (blocks h * d + n))) (suc h) (address_of h
        (blocks h * d + n))

  -- The same of both ends of the region.
  pub record EndsTold (h : ℕ) (ends : Ends) : Type 0 where
    pub first_told : Told h (first_of h paint) ends.first
    pub last_told : Told h (last_of h paint) ends.last

  -- The places of the tables of height `h` that are kept are those that `f` tells.
  pub record KeptTold (h : ℕ) (f : ℕ → Bool) : Type 0 where
    pub owner : ℕ → ℕ
    pub keeping : Keeping (blocks h * s.domains) (places s h) (want (aimed_at s (aim_of d paint) P) h) (old P h)
        (was s P h) (blocks h * s.domains) owner
    pub tells : (p : ℕ) → p < places s h → f p ≡ ltb (owner p) (blocks h * s.domains)

  -- Which places are kept, and what is known of the edges: enough to give the places out.
  pub record GivesOut (h : ℕ) (f : ℕ → Bool) (ends : Ends) : Type 0 where
    pub height : h < heights
    pub range : InRange s
    pub settled : Settled (form_of s) P
    pub domain : d < s.domains
    pub regular : Regular paint
    pub kept : KeptTold h f
    pub told : EndsTold h ends
