-- Laws of the edges of a plan: a word is of an edge's table exactly where it is of the place that the edge's block
-- owns.
use Prim.Native.Nat.{ℕ, suc, ◌+◌, ◌*◌, ◌-◌, ◌<◌}
use mathlib.Core.Path.{◌≡◌, refl, sym, ap, ◌∙◌}
use mathlib.Core.Bool.{Bool, true}
use native.Mathlib.Omega.{arith}
use lib.Dec.{leb, ltb}
use borrow.Author.Tests.{leb-true, ltb-true, le-leb, lt-ltb}
use Rattle.table.specs.declared.Shape.{Shape}
use Rattle.table.specs.Map.{leads}
use Rattle.table.specs.Shape.{places, size}
use Rattle.theory.proofs.Logic.{and_both}
use Rattle.places.specs.Owners.{seek}
use Rattle.places.proofs.OwnedLaws.{seek_owner, owner_seek}
use Rattle.places.specs.Count.{blocks, want}
use Rattle.places.specs.Final.{old, place_at}
use Rattle.places.proofs.NumberLaws.{number_in}
use Rattle.places.proofs.FinalWordLaws.{InPlace, entry_leads}
use Rattle.targets.specs.declared.Paint.{Paint}
use Rattle.plan.specs.declared.Edge.{Edge}
use Rattle.plan.specs.Plan.{InTable, of_table}
use Rattle.plan.specs.Aims.{aim_of, aimed_at}
use Rattle.plan.specs.Edges.{EdgeIs}
use Rattle.plan.proofs.Setting.{Setting}
use Rattle.plan.proofs.SettingLaws.{entry_lead}
use Rattle.plan.proofs.OldEntryLaws.{old_leads}

module _ {s : Shape} {d : ℕ} {paint : Paint} {P : ℕ → ℕ} {owner : ℕ → ℕ → ℕ} {free : ℕ → ℕ → Bool}
    (c : Setting s d paint P owner free) where
  abbrev D : ℕ
  D = s.domains

  abbrev T : ℕ → ℕ → ℕ
  T = aimed_at s (aim_of d paint) P

  -- Block `n` of the domain of the change is one of the blocks of all domains.
  pub in_range_lem : (h n : ℕ) → h < 2 → n < blocks h → blocks h * d + n < blocks h * D
  in_range_lem h n hi b = number_in h D d n hi c.domain b

  module _ (h n : ℕ) (hi : h < 2) (bn : n < blocks h) (e : Edge) (E : EdgeIs s d paint P owner h n e) where
    abbrev i : ℕ
    i = blocks h * d + n

    -- The old entry led where the block had a table.
    pub edge_old : leads (suc h) e.old ≡ old P h i
    edge_old = ap (leads (suc h)) E.old ∙ old_leads s P d h n hi bn

    -- A word of the edge's table is of the place that the block owns ..
    pub table_place : (k : ℕ) → of_table h e k ≡ true → (p : ℕ) × InPlace s k h p (k - e.last)
        × (owner h p ≡ i)
    table_place k t =
        let bi = in_range_lem h n hi bn in
        let (l, x) = and_both (leads (suc h) e.last) (InTable e.last (size h) k) t in
        let (y, z) = and_both (leb e.last k) (ltb k (e.last + size h)) x in
        let lo = leb-true e.last k y in
        let up = ltb-true k (e.last + size h) z in
        let w : want T h i ≡ true = sym (entry_lead c h i hi bi) ∙ ap (leads (suc h)) (sym E.last) ∙ l in
        let p = seek (owner h) i (places s h) in
        let (b, o) = seek_owner _ _ _ _ _ _ (c.placed h hi) i bi w in
        let f : e.last ≡ place_at s h p = E.last ∙ entry_leads s owner T P h i w in
        (p, (hi, b, omega arith, omega arith), o)

    -- .. and the other way round.
    pub place_table : (k p j : ℕ) → InPlace s k h p j → owner h p ≡ i → of_table h e k ≡ true
    place_table k p j (_, bp, bj, q) o =
        let bi = in_range_lem h n hi bn in
        let w : want T h i ≡ true = rw o at ((c.placed h hi).held.only p bp (rw o bi)) in
        let z : seek (owner h) i (places s h) ≡ p =
        ap (λ u. seek (owner h) u (places s h)) (sym o) ∙ owner_seek _ _ _ _ _ _ (c.placed h hi) p bp (rw o bi) in
        let f : e.last ≡ place_at s h p = E.last ∙ entry_leads s owner T P h i w
        ∙ ap (place_at s h) z in
        rw (
          ap (leads (suc h)) E.last ∙ entry_lead c h i hi bi ∙ w,
          le-leb e.last k (omega arith),
          lt-ltb k
              (e.last + size h) (omega arith),
        ) refl
