-- What the promises about callers suppose can be met: changes by owners and by domains with exports, refused ones, and
-- lists of owned regions.
use Rattle.std.specs.Prelude.{ℕ, ◌/◌, ◌<◌, ◌≡◌, ◌≢◌, true, false, List, replicate, Ok, Err}
use Rattle.refusals.specs.declared.Refusal.TheVariants.{NotAllowed}
use Rattle.theory.specs.Pool.{words, right_of}
use Rattle.table.specs.declared.Shape.{Shape}
use Rattle.table.specs.Map.{form_of}
use Rattle.change.specs.declared.Ending.TheVariants.{Done}
use Rattle.change.specs.Answers.{Changes}
use Rattle.owners.specs.Regions.{list_long, region_at, count_of, Disjoint}
use Rattle.owners.specs.Rules.{exports, export_of, may_word}
use Rattle.owners.specs.Calls.{outcome, make_of, give_of}
use Rattle.owners.specs.Changes.{ChangesBy}
use Rattle.demands.specs.Series.{History, after, setting, change_by, Series}
use Rattle.demands.specs.Callers.{Calls, SetIn, OwnsNone, NoExport, OwnCalls}

-- A list that holds no region.
abbrev pub no_regions : List ℕ
no_regions = replicate list_long 0

-- An owner other than 0 has set another domain's right: in a series, with stores, and the word has that right.
pub record SomeOwner : Type 0 where
  pub shape : Shape
  pub list : List ℕ
  pub old : List ℕ
  pub pool : List ℕ
  pub history : History
  pub stores : ℕ
  pub some : 0 < stores
  pub held : count_of list ≡ 1
  pub owns : (region_at list 0).owner ≡ 1
  pub changed : ChangesBy old shape list 1 0 0x1000 64 2 stores (Ok (Done stores)) pool
  pub series : Series shape pool list (after history (setting 0 0x1000 64 2 (Ok (Done stores))))
  pub had_not : right_of (form_of shape) (words old) 0 0x1000 ≢ 2
  pub has : right_of (form_of shape) (words pool) 0 0x1000 ≡ 2

-- A domain other than 0 that owns no region, with an export, has set another domain's right; all by itself.
pub record SomeExport : Type 0 where
  pub shape : Shape
  pub list : List ℕ
  pub old : List ℕ
  pub pool : List ℕ
  pub stores : ℕ
  pub some : 0 < stores
  pub before : List ℕ
  pub given : give_of 2 before 0 1 2 0x1000 64 ≡ outcome (Ok tt) list
  pub regions : 0 < count_of list
  pub owns_none : OwnsNone list 1
  pub exported : exports (region_at list 0) 1 ≡ true
  pub changed : ChangesBy old shape list 1 0 0x1000 64 2 stores (Ok (Done stores)) pool
  pub alone : OwnCalls shape 1 old list pool list
  pub had_not : right_of (form_of shape) (words old) 0 0x1000 ≢ 2
  pub has : right_of (form_of shape) (words pool) 0 0x1000 ≡ 2

-- The export is of a lesser right: the request is refused 19, and the supervisor's own, of the same pool, is done.
pub record SomeNotAllowed : Type 0 where
  pub shape : Shape
  pub list : List ℕ
  pub old : List ℕ
  pub pool : List ℕ
  pub stores : ℕ
  pub some : 0 < stores
  pub exported : exports (region_at list 0) 1 ≡ true
  pub of_read : export_of (region_at list 0) 1 ≡ 1
  pub refused : ChangesBy old shape list 1 0 0x1000 64 2 stores (Err NotAllowed) old
  pub by_supervisor : Changes old shape 0 0x1000 64 2 stores (Ok (Done stores)) pool

-- Calls among which a caller has set a right, as the list allows.
pub record SomeSetIn : Type 0 where
  pub shape : Shape
  pub list : List ℕ
  pub old : List ℕ
  pub pool : List ℕ
  pub stores : ℕ
  pub changed : ChangesBy old shape list 1 0 0x1000 64 2 stores (Ok (Done stores)) pool
  pub set_in : SetIn 0 0x1000 pool list (Calls.then Calls.none (change_by changed))
  pub alters : right_of (form_of shape) (words pool) 0 0x1000 ≢ right_of (form_of shape) (words old) 0 0x1000

-- A domain other than 0 with no region and no export, beside a region held: its change is refused 19.
pub record SomeNobody : Type 0 where
  pub shape : Shape
  pub list : List ℕ
  pub pool : List ℕ
  pub regions : 0 < count_of list
  pub owns_none : OwnsNone list 1
  pub no_export : NoExport list 1
  pub refused : ChangesBy pool shape list 1 0 0x1000 64 2 0 (Err NotAllowed) pool

-- Two regions made, and no word lies in both; and of the second an export of none was given, by which none may be set
-- and read may not.
pub record SomeDisjoint : Type 0 where
  pub one : List ℕ
  pub first : make_of 2 no_regions 0 1 0x1000 64 ≡ outcome (Ok tt) one
  pub two : List ℕ
  pub second : make_of 2 one 0 0 0x2000 64 ≡ outcome (Ok tt) two
  pub held : count_of two ≡ 2
  pub disjoint : Disjoint two
  pub list : List ℕ
  pub given : give_of 2 two 0 1 0 0x2000 64 ≡ outcome (Ok tt) list
  pub exported : exports (region_at list 1) 1 ≡ true
  pub of_none : export_of (region_at list 1) 1 ≡ 0
  pub sets_none : may_word list 1 0 0 (0x2000 / 4) ≡ true
  pub not_read : may_word list 1 0 1 (0x2000 / 4) ≡ false
