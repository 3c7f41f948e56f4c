-- Laws of giving places to the new tables of the two edges of one height: each takes the next free place, or the
-- tables wanted are too many.
use Prim.Native.Nat.{ℕ, zero, suc, ◌+◌, ◌*◌, ◌/◌, ◌%◌, ◌≤◌, ◌<◌}
use mathlib.Core.Path.{◌≡◌, refl, sym, subst, ap, ◌∙◌}
use mathlib.Core.Logic.{◌≢◌, ⊎_elim}
use Rattle.std.specs.Prelude.{Some, None}
use mathlib.Core.Bool.{Bool, true, false, cond, ◌&&◌, not, true≢false}
use native.Mathlib.Omega.{arith}
use native.Mathlib.Decide.{ℕ_discrete}
use native.Mathlib.Numerals.{add-one}
use borrow.Author.Tests.{eq-eqb, ne_eqb, lt-ltb}
use Rattle.theory.proofs.Logic.{by_cases, and_both}
use Rattle.table.specs.declared.Shape.{Shape}
use Rattle.table.specs.Shape.{places}
use Rattle.table.specs.Map.{leads}
use Rattle.table.specs.Wants.{said_of}
use Rattle.places.specs.Count.{count, blocks, domain_of, address_of, want}
use Rattle.places.specs.Final.{entry_of, old, was, place_at}
use Rattle.places.specs.Owners.{seek, fresh, Owned, Handing, given_to}
use Rattle.places.proofs.OwnedLaws.{fresh_wants, fresh_old, owner_seek, seek_keeps}
use Rattle.places.proofs.HandLaws.{hand_skip, hand_skip_to, hand_take, hand_done, hand_full}
use Rattle.places.proofs.NumberLaws.{number_in}
use Rattle.places.proofs.OldLaws.{place_low, old_at}
use Rattle.targets.specs.declared.Paint.{Paint}
use Rattle.targets.specs.Targets.{virtual_of}
use Rattle.plan.specs.Planning.{first_of, last_of, end_of}
use Rattle.plan.specs.declared.Edge.{Edge}
use Rattle.plan.specs.declared.Ends.{Ends}
use Rattle.plan.specs.Plan.{is_new}
use Rattle.plan.specs.Aims.{aim_of, aimed_at}
use Rattle.plan.specs.Edges.{entry_at, EdgeIs, EndsPlaced, EndsAre, Takes, TakenIs}
use Rattle.plan.proofs.Giving.{Told, GivesOut}
use Rattle.plan.proofs.OldEntryLaws.{old_leads}
use Rattle.plan.proofs.FreshLaws.{apart_not_fresh}
use Rattle.plan.proofs.MeetLaws.{ends_below}
use Rattle.plan.proofs.KeptLaws.{kept_free}

-- The entry of a block that had a table is the word that led to it.
entry_word_lem : (P : ℕ → ℕ) (h d n : ℕ) → h < 2 → n < blocks h → old P h (blocks h * d + n) ≡ true → entry_at P h d n
    ≡ P (entry_of P h (blocks h * d + n))
entry_word_lem P zero d n hi b o =
    let x : (1048576 * d + n) / 1024 ≡ 1024 * d + n / 1024 = omega arith in
    let y : (1048576 * d + n) % 1024 ≡ n % 1024 = omega arith in
    let (l, _) = and_both (leads 2 (P (1024 * d + n / 1024))) (leads 1 (P (P (1024 * d + n / 1024) + n % 1024)))
    (rw (x, y) at o) in
    rw (x, y) (ap (λ t. cond t (P (P (1024 * d + n / 1024) + n % 1024))
    (virtual_of 1 (P (1024 * d + n / 1024)) n)) l)
entry_word_lem P (suc zero) d n hi b o = refl
entry_word_lem P (suc (suc h)) d n hi b o = absurd (omega arith)

module _ {s : Shape} {d : ℕ} {paint : Paint} {P : ℕ → ℕ} {h : ℕ} {f : ℕ → Bool} {ends : Ends}
    (G : GivesOut s d paint P h f ends) where
  abbrev first : Edge
  first = ends.first

  abbrev last : Edge
  last = ends.last

  abbrev N : ℕ
  N = blocks h * s.domains

  abbrev M : ℕ
  M = places s h

  abbrev W : ℕ → Bool
  W = want (aimed_at s (aim_of d paint) P) h

  abbrev O : ℕ → Bool
  O = old P h

  abbrev at : ℕ → ℕ
  at = was s P h

  abbrev start : ℕ → ℕ
  start p = place_at s h p

  abbrev Known : ℕ → Edge → Type 0
  Known = Told s d paint P h

  -- Block `n` of the domain.
  abbrev nth : ℕ → ℕ
  nth n = blocks h * d + n

  low : (n : ℕ) → n < blocks h → nth n < N
  low n b = number_in h s.domains d n G.height G.domain b

  -- An edge is new where its block is fresh.
  old_is : {n : ℕ} {e : Edge} → n < blocks h → Known n e → leads (suc h) e.old ≡ O (nth n)
  old_is {n} b t = ap (leads (suc h)) t.old ∙ old_leads s P d h n G.height b

  new_is : {n : ℕ} {e : Edge} → n < blocks h → Known n e → is_new h e ≡ fresh W O (nth n)
  new_is {n} {e} b t =
      ap (λ x. x && not (leads (suc h) e.old)) t.wanted ∙ ap (λ x. W (nth n) && not x) (old_is b t)

  -- Where the new table of an edge stands.
  abbrev Spot : (ℕ → ℕ) → ℕ → Edge → Type 0
  Spot owner n g = is_new h g ≡ true → (p : ℕ) × (p < M) × (owner p ≡ nth n) × (g.last ≡ start p)

  -- Once all tables have their places, the edge is right.
  edge_by : {free : ℕ → Bool} {owner : ℕ → ℕ} {n : ℕ} {g : Edge} → n < blocks h → Owned N M W O free at owner
      → Known n g → Spot owner n g
      → EdgeIs s d paint P (λ g. owner) h n g
  edge_by {free} {owner} {n} {g} b all t spot = record {
    number = t.number;
    old = t.old;
    last = by_cases (W (nth n))
        (λ w. by_cases (leads (suc h) g.old) (λ o. kept w o) (λ o. new w o)
        ∙ sym (ap (λ x. cond x (start (seek owner (nth n) M)) said) w))
        (λ w. t.said (t.wanted ∙ w) ∙ sym (ap (λ x. cond x (start (seek owner (nth n) M)) said) w));
  }
    where
      said : ℕ
      said = said_of (aimed_at s (aim_of d paint) P (domain_of h (nth n))) (suc h) (address_of h (nth n))

      kept : W (nth n) ≡ true → leads (suc h) g.old ≡ true → g.last ≡ start (seek owner (nth n) M)
      kept w o =
          let x : O (nth n) ≡ true = sym (old_is b t) ∙ o in
          t.kept o (t.wanted ∙ w) ∙ t.old ∙ entry_word_lem P h d n G.height b x
          ∙ (old_at s G.settled.sound h G.height (nth n) (low n b) x).1
          ∙ ap start (sym (seek_keeps N M W O free at all (nth n) (low n b) w x).1)

      new : W (nth n) ≡ true → leads (suc h) g.old ≡ false → g.last ≡ start (seek owner (nth n) M)
      new w o =
          let (p, bp, x, y) = spot (rw (t.wanted ∙ w, o) refl) in
          y ∙ ap start (sym (owner_seek N M W O free at all p bp (rw x (low n b))) ∙ ap (λ i. seek owner i M) x)

  module _ (free : ℕ → Bool) (is_free : (p : ℕ) → p < M → free p ≡ not (f p)) where
    abbrev State : ℕ → ℕ → (ℕ → ℕ) → Type 0
    State = Handing N M W O free at

    -- Past an edge: its table has its place, and those before it have kept theirs.
    record Past (n c : ℕ) (g : Edge) (before : ℕ → ℕ) : Type 0 where
      owner : ℕ → ℕ
      state : State (suc (nth n)) c owner
      known : Known n g
      spot : Spot owner n g
      stay : (p j : ℕ) → p < M → j < N → before p ≡ j → owner p ≡ j

    module _ (i c : ℕ) (owner : ℕ → ℕ) (S : State i c owner) (n : ℕ) (b : n < blocks h) (le : i ≤ nth n)
        (off : (j : ℕ) → i ≤ j → j < nth n → fresh W O j ≡ false) (e : Edge) (t : Known n e) where
      here : State (nth n) c owner
      here = hand_skip_to N M W O free at i (nth n) c le off S

      rest : (g : Edge) (x : ℕ) → is_new h e ≡ false → g ≡ e → x ≡ c → Past n x g owner
      rest g x o q z = subst (λ y. Past n y g owner) (sym z) (subst (λ y. Past n c y owner) (sym q) (record {
        owner = owner;
        state = hand_skip N M W O free at (nth n) c here (sym (new_is b t) ∙ o);
        known = t;
        spot = λ y. absurd (true≢false (sym y ∙ o));
        stay = λ p j bp bj y. y;
      }))

      take : (g : Edge) (x : ℕ) → Takes f c s h e g x → Past n x g owner
      take g x k = subst (λ y. Past n y g owner) (sym (k.next ∙ add-one k.place)) (record {
        owner = given_to owner k.place (nth n);
        state = hand_take N M W O free at (given_to owner k.place (nth n)) (nth n) c k.place here (low n b) new
            k.first.low below spare
            (λ q lo up. is_free q (omega arith) ∙ ap not (k.first.gap q lo up))
            (ap (λ z. cond z (nth n) (owner k.place)) (eq-eqb k.place k.place refl))
            (λ q z. ap (λ y. cond y (nth n) (owner q)) (ne_eqb q k.place z));
        known = record {
          number = k.same_number ∙ t.number;
          old = k.same_old ∙ t.old;
          wanted = led ∙ sym (fresh_wants (W (nth n)) (O (nth n)) new);
          kept = λ l _. absurd (true≢false (sym l ∙ ap (leads (suc h)) k.same_old ∙ old_is b t
              ∙ fresh_old (W (nth n)) (O (nth n)) new));
          said = λ l. absurd (true≢false (sym led ∙ l));
        };
        spot = λ _. (
          k.place,
          below,
          ap (λ z. cond z (nth n) (owner k.place)) (eq-eqb k.place k.place refl),
          points,
        );
        stay = λ p j bp bj y. elim (ℕ_discrete p k.place) [
          | yes z ↦ (let u = here.ahead k.place k.first.low below spare in let v : owner k.place
              ≡ j = rw z at y in absurd (omega arith))
          | no z ↦ ap (λ u. cond u (nth n) (owner p)) (ne_eqb p k.place z) ∙ y
        ];
      })
        where
          new : fresh W O (nth n) ≡ true
          new = sym (new_is b t) ∙ k.makes_new

          below : k.place < M
          below = k.first.high

          spare : free k.place ≡ true
          spare = is_free k.place below ∙ ap not (k.first.free)

          points : g.last ≡ start k.place
          points = k.points

          led : leads (suc h) g.last ≡ true
          led = ap (leads (suc h)) points
              ∙ lt-ltb (place_at s h k.place) 2147483648 (place_low s h k.place G.range G.height below)

      past : (g : Edge) (x : ℕ) → TakenIs f c s h e g (Some x) → Past n x g owner
      past g x k = ⊎_elim (λ y. rest g x y.0 y.1 y.2) (take g x) k

      full : (g : Edge) → TakenIs f c s h e g None → M < count W N
      full g (o, gap) = hand_full N M W O free at (nth n) c here (low n b) (sym (new_is b t) ∙ o)
          (λ q lo up. is_free q up ∙ ap not (gap q lo up))

  -- Only the edges can be fresh.
  plain : (j : ℕ) → j < N → j ≢ nth (first_of h paint) → j ≢ nth (last_of h paint) → fresh W O j ≡ false
  plain j b x y = apart_not_fresh s d paint G.settled h j G.height b apart
    where
      apart : (first : Bool) → j ≢ nth (end_of h paint first)
      apart true = x
      apart false = y

  bounds : (first_of h paint ≤ last_of h paint) × (last_of h paint < blocks h)
  bounds = ends_below paint G.regular h G.height

  first_in : first_of h paint < blocks h
  first_in = let (x, y) = bounds in omega arith

  -- The first edge ..
  module _ (free : ℕ → Bool) (owner : ℕ → ℕ) (S : Handing N M W O free at 0 0 owner)
      (is_free : (p : ℕ) → p < M → free p ≡ not (f p)) where
    before_first : (j : ℕ) → 0 ≤ j → j < nth (first_of h paint) → fresh W O j ≡ false
    before_first j lo up =
        let (x, y) = bounds in
        let z = low (first_of h paint) first_in in
        plain j (omega arith) (λ u. absurd (omega arith)) (λ u. absurd (omega arith))

    one_past : (g : Edge) (x : ℕ) → TakenIs f 0 s h first g (Some x) → Past free is_free (first_of h paint) x g
        owner
    one_past = past free is_free 0 0 owner S (first_of h paint) first_in (omega arith) before_first first
        G.told.first_told

    one_full : (g : Edge) → TakenIs f 0 s h first g None → M < count W N
    one_full = full free is_free 0 0 owner S (first_of h paint) first_in (omega arith) before_first first
        G.told.first_told

    -- .. is the last one too,
    both_one : (g : Edge) (x : ℕ) → first.number ≡ last.number → TakenIs f 0 s h first g (Some x)
        → EndsPlaced s d paint P h (record { first = g; last = g })
    both_one g x e k =
        let r = one_past g x k in
        let same : first_of h paint ≡ last_of h paint = sym G.told.first_told.number ∙ e
        ∙ G.told.last_told.number in
        let all = hand_done N M W O free at x (hand_skip_to N M W O free at (suc (nth (first_of h paint))) N x
        (low (first_of h paint) first_in)
        (λ j lo up. plain j up (λ u. absurd (omega arith)) (λ u. absurd (omega arith))) r.state) in
        let by = edge_by first_in all r.known r.spot in
        record {
          free = free;
          owner = r.owner;
          placed = all;
          right = record { first = by; last = subst (λ n. EdgeIs s d paint P (λ i. r.owner) h n g) same by };
        }

    -- .. or the last edge comes after it.
    module _ (apart : first.number ≢ last.number) (g : Edge) (x : ℕ) (k : TakenIs f 0 s h first g (Some x))
      where
        r : Past free is_free (first_of h paint) x g owner
        r = one_past g x k

        less : nth (first_of h paint) < nth (last_of h paint)
        less = elim (ℕ_discrete (first_of h paint) (last_of h paint)) [
          | yes z ↦ absurd (apart (G.told.first_told.number ∙ z ∙ sym G.told.last_told.number))
          | no z ↦ (let (u, v) = bounds in omega arith)
        ]

        between : (j : ℕ) → suc (nth (first_of h paint)) ≤ j → j < nth (last_of h paint) → fresh W O j ≡ false
        between j lo up = let z = low (last_of h paint) bounds.1 in plain j (omega arith) (λ u. absurd (omega arith))
            (λ u. absurd (omega arith))

        two_full : (l : Edge) → TakenIs f x s h last l None → M < count W N
        two_full = full free is_free (suc (nth (first_of h paint))) x r.owner r.state (last_of h paint)
            bounds.1 less between last G.told.last_told

        both_two : (l : Edge) (y : ℕ) → TakenIs f x s h last l (Some y)
            → EndsPlaced s d paint P h (record { first = g; last = l })
        both_two l y z =
            let t = past free is_free (suc (nth (first_of h paint))) x r.owner r.state (last_of h paint)
            bounds.1 less between last
            G.told.last_told l y z in
            let b = less in
            let all = hand_done N M W O free at y (hand_skip_to N M W O free at (suc (nth (last_of h paint))) N y
            (low (last_of h paint) bounds.1)
            (λ j lo up. plain j up (λ u. absurd (omega arith)) (λ u. absurd (omega arith))) t.state) in
            record {
              free = free;
              owner = t.owner;
              placed = all;
              right = record {
                first = edge_by first_in all r.known
                    (λ u. let (p, bp, v, w) = r.spot u in (
                      p,
                      bp,
                      t.stay p (nth (first_of h paint)) bp (low (first_of h paint) first_in) v,
                      w,
                    ));
                last = edge_by bounds.1 all t.known t.spot;
              };
            }

  -- From the kept places on.
  pub given_none : (g : Edge) (ends : Ends) → TakenIs f 0 s h first g None → EndsAre s d paint P h false ends
  given_none g r k =
      let (free, owner, S, is_free) = kept_free s d paint G.settled h G.height G.kept in
      one_full free owner S is_free g k

  pub given_one : (g : Edge) (x : ℕ) → first.number ≡ last.number → TakenIs f 0 s h first g (Some x)
      → EndsAre s d paint P h true (record { first = g; last = g })
  given_one g x e k =
      let (free, owner, S, is_free) = kept_free s d paint G.settled h G.height G.kept in
      both_one free owner S is_free g x e k

  pub given_second_none : (g : Edge) (x : ℕ) (l : Edge) (ends : Ends) → first.number ≢ last.number
      → TakenIs f 0 s h first g (Some x)
      → TakenIs f x s h last l None
      → EndsAre s d paint P h false ends
  given_second_none g x l r e k n =
      let (free, owner, S, is_free) = kept_free s d paint G.settled h G.height G.kept in
      two_full free owner S is_free e g x k l n

  pub given_two : (g : Edge) (x : ℕ) (l : Edge) (y : ℕ) → first.number ≢ last.number
      → TakenIs f 0 s h first g (Some x)
      → TakenIs f x s h last l (Some y) → EndsAre s d paint P h true (record { first = g; last = l })
  given_two g x l y e k z =
      let (free, owner, S, is_free) = kept_free s d paint G.settled h G.height G.kept in
      both_two free owner S is_free e g x k l y z
