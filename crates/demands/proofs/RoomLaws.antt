-- Demand 3: after a finished tidying or change, a change is refused for room exactly where there is none.
use Prim.Native.Nat.{ℕ}
use mathlib.Core.Path.{◌≡◌, refl}
use mathlib.Core.Logic.{◌≢◌, ⊎_elim}
use mathlib.Core.List.{List}
use native.Mathlib.Omega.{arith}
use Rattle.std.specs.Prelude.{Result, Ok, Err}
use Rattle.refusals.specs.declared.Refusal.{Refusal}
use Rattle.refusals.specs.declared.Refusal.TheVariants.{NotSound, NotSettled, NoRoom}
use Rattle.theory.specs.Pool.{words}
use Rattle.theory.specs.Settled.{Settled}
use Rattle.words.specs.declared.Region.{Region}
use Rattle.table.specs.declared.Shape.{Shape}
use Rattle.table.specs.Map.{form_of}
use Rattle.places.proofs.Exists.{finished_fits}
use Rattle.change.specs.declared.Ending.{Ending}
use Rattle.change.specs.declared.Ending.TheVariants.{Done, Cut}
use Rattle.plan.specs.Aims.{Aim, change_aim}
use Rattle.change.specs.Answers.{Asked, ChangesRegion, Changes, Tidies, no_shape, no_domain, no_right}
use Rattle.change.specs.Answers.{no_region, in_order, unsound, unsettled, no_room, done, cut}
use Rattle.owners.specs.Rules.{Allowed}
use Rattle.owners.specs.Changes.{asked_by, ChangesBy}
use Rattle.owners.proofs.ByLaws.{by_asked, allowed_changes}
use Rattle.demands.specs.Series.{History, Series, RoomFor, ByRoom, full, finishes, is_cut}
use Rattle.demands.proofs.SeriesLaws.{one_region, series_tidy_ends}

-- A finished change and a finished tidying leave a settled pool ..
pub changed_settled : {s : Shape} {p q : List ℕ} {d start len r n k : ℕ} {c : Result Ending Refusal}
    → Changes p s d start len r n c q
    → c ≡ Ok (Done k) → Settled (form_of s) (words q)
changed_settled (no_shape y) e = cc
changed_settled (no_domain y z) e = cc
changed_settled (no_right y z w) e = cc
changed_settled (no_region y z w k v) e = cc
changed_settled (in_order g asked (unsound y)) e = cc
changed_settled (in_order g asked (unsettled y z)) e = cc
changed_settled (in_order g asked (no_room y z)) e = cc
changed_settled (in_order g asked (done y q z)) e = z.finished.settled
changed_settled (in_order g asked (cut y q z)) e = cc

pub tidied_settled : {s : Shape} {p q : List ℕ} {n k : ℕ} {c : Result Ending Refusal} → Tidies p s n c q
    → c ≡ Ok (Done k)
    → Settled (form_of s) (words q)
tidied_settled (no_shape y) e = cc
tidied_settled (unsound y z) e = cc
tidied_settled (done y z q w) e = w.finished.settled
tidied_settled (cut y z q w) e = cc

-- The request of a change that is in order up to 5 is answered as its region is.
asked_region : {p : List ℕ} {s : Shape} {d start len r n : ℕ} {g : Region} {c : Result Ending Refusal} {q : List ℕ}
    → Asked p s d start len r g → Changes p s d start len r n c q → ChangesRegion p s (change_aim d g r) n c q
asked_region a (no_shape y) = absurd (y a.fits)
asked_region a (no_domain y z) = let w = a.domain in absurd (omega arith)
asked_region a (no_right y z w) = let v = a.right in absurd (omega arith)
asked_region a (no_region y z w k v) = let z = a.region in cc
asked_region {start = start} {len = len} a (in_order g x y) =
    let e = one_region start len x.region a.region in rw e at y

-- .. in which a change that is in order up to 5 is refused 8 exactly where the rights it would leave need more tables
-- than there are, and is otherwise done or cut.
region_by_room : {p : List ℕ} {s : Shape} {A : Aim} {n : ℕ} {c : Result Ending Refusal} {q : List ℕ}
    → Settled (form_of s) (words p) → ChangesRegion p s A n c q → ByRoom s p A c
region_by_room t (unsound y) = absurd (y t.sound)
region_by_room t (unsettled y z) = absurd (z t)
region_by_room t (no_room y z) = full z
region_by_room {s = s} t (done y q z) = finishes (finished_fits s z.finished) _
region_by_room {s = s} t (cut y q z) = is_cut (finished_fits s z.cut.finished)

pub settled_by_room : {p : List ℕ} {s : Shape} {d start len r n : ℕ} {g : Region} {c : Result Ending Refusal}
    {q : List ℕ}
    → Settled (form_of s) (words p) → Asked p s d start len r g → Changes p s d start len r n c q
    → ByRoom s p (change_aim d g r) c
settled_by_room t a x = region_by_room t (asked_region a x)

-- The same, number by number.
by_room_not_7 : {s : Shape} {p : List ℕ} {A : Aim} {c : Result Ending Refusal} → ByRoom s p A c
    → (c ≢ Err NotSound) × (c ≢ Err NotSettled)
by_room_not_7 (full y) = ((λ e. cc), (λ e. cc))
by_room_not_7 (finishes y k) = ((λ e. cc), (λ e. cc))
by_room_not_7 (is_cut y) = ((λ e. cc), (λ e. cc))

by_room_8 : {s : Shape} {p : List ℕ} {A : Aim} {c : Result Ending Refusal} → ByRoom s p A c
    → (c ≡ Err NoRoom → RoomFor s p A → ⊥) × ((RoomFor s p A → ⊥) → c ≡ Err NoRoom)
by_room_8 (full y) = ((λ e. y), (λ z. refl))
by_room_8 (finishes y k) = ((λ e. cc), (λ z. absurd (z y)))
by_room_8 (is_cut y) = ((λ e. cc), (λ z. absurd (z y)))

pub settled_not_7 : {p : List ℕ} {s : Shape} {d start len r n : ℕ} {g : Region} {c : Result Ending Refusal} {q : List ℕ}
    → Settled (form_of s) (words p) → Asked p s d start len r g
    → Changes p s d start len r n c q → (c ≢ Err NotSound) × (c ≢ Err NotSettled)
settled_not_7 t a x = by_room_not_7 (settled_by_room t a x)

pub settled_exactly_8 : {p : List ℕ} {s : Shape} {d start len r n : ℕ} {g : Region} {c : Result Ending Refusal}
    {q : List ℕ}
    → Settled (form_of s) (words p) → Asked p s d start len r g → Changes p s d start len r n c q
    → (c ≡ Err NoRoom → RoomFor s p (change_aim d g r) → ⊥) × ((RoomFor s p (change_aim d g r) → ⊥) → c ≡ Err NoRoom)
settled_exactly_8 t a x = by_room_8 (settled_by_room t a x)

-- In a series, after a tidying that was not cut: a change in order is refused 8 exactly where there is no room for the
-- finished rights, and is otherwise done or cut.
pub room_exactly : {s : Shape} {p list q x : List ℕ} {h : History} {n m : ℕ} {b c : Result Ending Refusal}
    {d start len r : ℕ} {g : Region} → Series s p list h → Tidies p s n b q → b ≢ Ok Cut → Asked q s d start len r g
    → Changes q s d start len r m c x → ByRoom s q (change_aim d g r) c
room_exactly y t whole a z =
    let settled = ⊎_elim (λ (k, e). tidied_settled t e) (λ e. absurd (whole e)) (series_tidy_ends y t) in
    settled_by_room settled a z

-- The same of a change by a caller whom the list allows it.
pub by_room_exactly : {s : Shape} {p list q x : List ℕ} {h : History} {n m : ℕ} {b c : Result Ending Refusal}
    {caller d start len r : ℕ} {g : Region} → Series s p list h → Tidies p s n b q → b ≢ Ok Cut
    → asked_by q s list caller d start len r ≡ Ok g → Allowed list caller d r g
    → ChangesBy q s list caller d start len r m c x → ByRoom s q (change_aim d g r) c
by_room_exactly {s} {list = list} {q} {caller = caller} {d} {start} {len} {r} y t whole e o z =
    room_exactly y t whole (by_asked q s list caller d start len r e) (allowed_changes e o z)
