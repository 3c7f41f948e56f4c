-- There is one plan of a change: what `plan_change` promises leaves one outcome.
use Prim.Native.Nat.{ℕ, suc, ◌+◌, ◌*◌, ◌<◌}
use mathlib.Core.Path.{◌≡◌, refl, sym, fun_ext, ◌∙◌}
use mathlib.Core.Bool.{Bool, true, false, true≢false}
use native.Mathlib.Omega.{arith}
use Rattle.theory.specs.Pool.{Led}
use Rattle.theory.specs.Settled.{Settled}
use Rattle.theory.specs.Finished.{Finished}
use Rattle.theory.proofs.Logic.{by_cases}
use Rattle.theory.proofs.BlockLaws.{one_table}
use Rattle.theory.proofs.FinishedLaws.{one_finished}
use Rattle.theory.proofs.EncodesLaws.{wants_gets, gets_led}
use Rattle.table.specs.declared.Shape.{Shape}
use Rattle.table.specs.Shape.{InRange}
use Rattle.table.specs.Map.{addresses, form_of}
use Rattle.table.specs.Wants.{wants_of}
use Rattle.table.proofs.FormLaws.{lawful, exact}
use Rattle.table.specs.Wants.{WordRights}
use Rattle.table.proofs.WantLaws.{wants_divided, wanting, tells_wants}
use Rattle.places.specs.Count.{blocks, domain_of, address_of, want}
use Rattle.places.specs.Final.{table_of, place, entry_word, final}
use Rattle.places.proofs.NumberLaws.{number_first, number_in}
use Rattle.places.proofs.FinalWordLaws.{place_table, entry_leads, entry_says_lem}
use Rattle.places.proofs.FinalLaws.{final_encodes, final_placing, final_finished}
use Rattle.places.proofs.Exists.{finished_fits}
use Rattle.targets.specs.declared.Paint.{Paint}
use Rattle.plan.specs.declared.Edge.{Edge}
use Rattle.plan.specs.Plan.{Plan, ends_of}
use Rattle.plan.specs.Aims.{aim_of, aimed_at}
use Rattle.plan.specs.Planning.{Regular, first_of, last_of}
use Rattle.plan.specs.Edges.{EdgeIs, PlanReady, PlansChange}
use Rattle.plan.proofs.Setting.{Setting}
use Rattle.plan.proofs.MeetLaws.{end_below}
use Rattle.plan.proofs.SettingLaws.{aims_rights}

module _ (s : Shape) (d : ℕ) (paint : Paint) (P : ℕ → ℕ) (range : InRange s)
    (settled : Settled (form_of s) P) (bd : d < s.domains) (regular : Regular paint) where
  abbrev D : ℕ
  D = s.domains

  abbrev R : ℕ → ℕ → ℕ
  R = aimed_at s (aim_of d paint) P

  abbrev wants : ℕ → ℕ → ℕ → Bool
  wants h e a = wants_of (R e) h a

  -- The finished pool of a plan that is ready, and where its tables stand.
  module _ {q : Plan} (x : PlanReady s d paint P q) where
    abbrev whole : ℕ → ℕ
    whole = final s x.owner R P

    setting : Setting s d paint P x.owner x.free
    setting = record {
      range = range;
      settled = settled;
      domain = bd;
      regular = regular;
      placed = x.placed;
    }

    rights : (e : ℕ) → e < D → WordRights (R e)
    rights e be = aims_rights setting e

    whole_finished : Finished (form_of s) P R whole
    whole_finished = final_finished s range rights settled.sound x.owner x.free x.placed (λ j. refl)

    whole_led : (h e a : ℕ) → h < 2 → e < D → a < addresses → wants (suc h) e a ≡ true
        → Led (form_of s) whole e a h (place s x.owner h e a)
    whole_led h e a hi be ba w =
        let tells = tells_wants s R rights in
        gets_led (form_of s) (lawful s) (exact s) wants (place s x.owner) tells
        (final_placing s range rights settled.sound x.owner x.free x.placed (λ j. refl))
        (final_encodes s range rights settled.sound x.owner x.free x.placed (λ j. refl))
        h e a be ba hi
        (wants_gets (form_of s) wants (wanting s) tells e a be ba h hi (wants_divided (R e) (suc h) a ba w))

  module _ {q r : Plan} (x : PlanReady s d paint P q) (y : PlanReady s d paint P r) where
    same_whole : whole x ≡ whole y
    same_whole =
        let a = whole_finished x in
        let b = whole_finished y in
        fun_ext (one_finished (form_of s) (lawful s) (wanting s) P R (exact s) a b)

    -- A block that wants a table has it in one place, by either plan.
    same_table : (h i : ℕ) → h < 2 → i < blocks h * D → want R h i ≡ true
        → table_of s x.owner h i ≡ table_of s y.owner h i
    same_table h i hi bi w =
        let (be, ba, n) = number_first h D i hi bi in
        let e = domain_of h i in
        let a = address_of h i in
        let here = rw same_whole at (whole_led x h e a hi be ba w) in
        let one = one_table (form_of s) (whole y) e a h here (whole_led y h e a hi be ba w) in
        let from = place_table s x.owner h e a hi in
        let to = place_table s y.owner h e a hi in
        rw n at (sym from ∙ one ∙ to)

    same_entry : (h i : ℕ) → h < 2 → i < blocks h * D
        → entry_word s x.owner R P h i ≡ entry_word s y.owner R P h i
    same_entry h i hi bi = by_cases (want R h i)
        (λ w. entry_leads s x.owner R P h i w ∙ same_table h i hi bi w
        ∙ sym (entry_leads s y.owner R P h i w))
        (λ w. entry_says_lem s x.owner R P h i w
        ∙ sym (entry_says_lem s y.owner R P h i w))

    same_edge : (h n : ℕ) {e f : Edge} → h < 2 → n < blocks h → EdgeIs s d paint P x.owner h n e
        → EdgeIs s d paint P y.owner h n f → e ≡ f
    same_edge h n hi bn u v =
        let number = u.number ∙ sym v.number in
        let old = u.old ∙ sym v.old in
        let last = u.last ∙ same_entry h (blocks h * d + n) hi (number_in h D d n hi bd bn) ∙ sym v.last in
        λ i. record { number = number i; old = old i; last = last i }

    same_ends : (h : ℕ) → h < 2 → ends_of q h ≡ ends_of r h
    same_ends h hi =
        let u = x.edges.ends h hi in
        let v = y.edges.ends h hi in
        let first = same_edge h (first_of h paint) hi (end_below paint regular h hi true) u.first v.first in
        let last = same_edge h (last_of h paint) hi (end_below paint regular h hi false) u.last v.last in
        λ i. record { first = first i; last = last i }

    same_plan : q ≡ r
    same_plan =
        let domain = x.edges.for_domain ∙ sym y.edges.for_domain in
        let paints = x.edges.for_paint ∙ sym y.edges.for_paint in
        let blocks = same_ends 1 (omega arith) in
        let pages = same_ends 0 (omega arith) in
        λ i. record { domain = domain i; paint = paints i; blocks = blocks i; pages = pages i }

  -- Ready, with one plan, exactly where there is room.
  pub one_plan : (a b : Bool) {q r : Plan} → PlansChange s d paint P a q → PlansChange s d paint P b r
      → (a ≡ b) × (a ≡ true → q ≡ r)
  one_plan true true x y = (refl, λ _. same_plan x y)
  one_plan true false x y = absurd (y (finished_fits s (whole_finished x)))
  one_plan false true x y = absurd (x (finished_fits s (whole_finished y)))
  one_plan false false x y = (refl, λ t. absurd (true≢false (sym t)))
