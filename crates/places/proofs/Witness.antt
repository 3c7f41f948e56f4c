-- Fitting is neither always so nor never: the change that makes two middle tables and two leaves fits where there are
-- two places of each, and not where there is one place fewer.
use Prim.Native.Nat.{ℕ, suc, ◌<◌}
use mathlib.Core.Path.{◌≡◌, ◌∙◌}
use mathlib.Core.Bool.{true}
use native.Mathlib.Omega.{arith}
use Rattle.theory.specs.Pool.{right_of}
use Rattle.words.specs.Region.{rounded}
use Rattle.table.specs.Map.{form_of}
use Rattle.table.proofs.WantLaws.{divided_wants, none_rights, painted_rights, wanting}
use Rattle.table.proofs.Witness.{shape, painted, after, two_of_each_finished, MadeAt, two_of_each_made}
use Rattle.places.specs.Count.{want, Room}
use Rattle.places.specs.Final.{number}
use Rattle.places.proofs.CountLaws.{count_less}
use Rattle.places.proofs.NumberLaws.{want_number}
use Rattle.places.proofs.Exists.{finished_fits}

pub two_of_each_fits : Room shape painted
two_of_each_fits = finished_fits shape two_of_each_finished

-- What was made is wanted.
made_wanted : (a h t : ℕ) → h < 2 → MadeAt a h t → want painted h (number h 0 a) ≡ true
made_wanted a h t hi (bd, ba, x, _) =
    want_number painted h 0 a hi ba
    ∙ divided_wants (painted 0) (suc h) a (painted_rights (rounded 0x3FFFFC 8) 2 (λ b. 0) (omega arith) none_rights)
    ((wanting shape).same (suc h) a (right_of (form_of shape) after 0) (painted 0)
    (λ b bb. two_of_each_finished.rights 0 b bd bb)
    (two_of_each_finished.settled.wanted bd ba hi (t, x)))

pub one_middle_too_few : Room (record { domains = 1; middles = 1; leaves = 2 }) painted → ⊥
one_middle_too_few f =
    let x = count_less (want painted 1) 0 1 (omega arith)
    (made_wanted 0x3FFFFC 1 1024 (omega arith) two_of_each_made.0) in
    let y = count_less (want painted 1) 1 1024 (omega arith)
    (made_wanted 0x400000 1 2048 (omega arith) two_of_each_made.1) in
    let z = f.tables 1 (omega arith) in
    omega arith

pub one_leaf_too_few : Room (record { domains = 1; middles = 2; leaves = 1 }) painted → ⊥
one_leaf_too_few f =
    let x = count_less (want painted 0) 1023 1024 (omega arith)
    (made_wanted 0x3FFFFC 0 3072 (omega arith) two_of_each_made.2) in
    let y = count_less (want painted 0) 1024 1048576 (omega arith)
    (made_wanted 0x400000 0 3136 (omega arith) two_of_each_made.3) in
    let z = f.tables 0 (omega arith) in
    omega arith
