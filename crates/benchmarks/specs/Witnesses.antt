-- What the promises suppose can be met: of each kind of pool, cut, store, buffer and series that they speak of there
-- is one.
use Rattle.std.specs.Prelude.{ℕ, ◌<◌, ◌≡◌, ◌≢◌, true, false, List, length, Some, Ok, Err}
use Rattle.refusals.specs.declared.Refusal.TheVariants.{NotSettled}
use Rattle.theory.specs.Form.{Form}
use Rattle.theory.specs.Pool.{words, SoundPool, right_of}
use Rattle.theory.specs.Settled.{HasTable, Settled}
use Rattle.theory.specs.Stores.{Next, give, fill, link}
use Rattle.table.specs.declared.Shape.{Shape}
use Rattle.table.specs.Shape.{Fits}
use Rattle.table.specs.Map.{addresses, form_of}
use Rattle.table.specs.Access.{store}
use Rattle.targets.specs.declared.Paint.{Paint}
use Rattle.plan.specs.Aims.{aim_of}
use Rattle.change.specs.declared.Ending.TheVariants.{Done, Cut}
use Rattle.change.specs.Cuts.{Due}
use Rattle.change.specs.Answers.{IsCut, Changes, Tidies}
use Rattle.lookaside.specs.declared.Slot.{Slot}
use Rattle.lookaside.specs.declared.Verdict.TheVariants.{Pass, Deny}
use Rattle.lookaside.specs.Slots.{Buffer, empty_buffer, first_match}
use Rattle.lookaside.specs.Check.{check_of}
use Rattle.lookaside.specs.Flushes.{flushed_region}
use Rattle.lookaside.specs.Agree.{Places, nowhere, Agrees}
use Rattle.demands.specs.Series.{made, after, tidied, setting, Series}
use Rattle.demands.specs.Watched.{Watched}
use Rattle.benchmarks.specs.CallerWitnesses.{SomeOwner, SomeExport, SomeNotAllowed, SomeSetIn, SomeNobody}
use Rattle.benchmarks.specs.CallerWitnesses.{SomeDisjoint}

-- A sound pool, and it is not settled.
pub record SomeSound : Type 0 where
  pub shape : Shape
  pub pool : List ℕ
  pub fits : Fits shape (length pool)
  pub sound : SoundPool (form_of shape) (words pool)
  pub unsettled : Settled (form_of shape) (words pool) → ⊥

-- A settled pool in which domains 0 and 1 have a middle table and a leaf each.
pub record SomeSettled : Type 0 where
  pub shape : Shape
  pub pool : List ℕ
  pub fits : Fits shape (length pool)
  pub settled : Settled (form_of shape) (words pool)
  pub two : 1 < shape.domains
  pub middle : (d : ℕ) → d < 2 → (a : ℕ) × HasTable (form_of shape) (words pool) d a 1
  pub leaf : (d : ℕ) → d < 2 → (a : ℕ) × HasTable (form_of shape) (words pool) d a 0

-- A change that was cut after some stores; a covered word has got the new right, which it had not before.
pub record SomeCut : Type 0 where
  pub shape : Shape
  pub domain : ℕ
  pub paint : Paint
  pub old : List ℕ
  pub stores : ℕ
  pub pool : List ℕ
  pub some : 0 < stores
  pub cut : IsCut shape (aim_of domain paint) old stores pool
  pub word : ℕ
  pub address : word < addresses
  pub covers : (aim_of domain paint).covers domain word ≡ true
  pub had_not : right_of (form_of shape) (words old) domain word ≢ paint.right
  pub has : right_of (form_of shape) (words pool) domain word ≡ paint.right

-- The three kinds of stores: what gives up a table, what fills a new one, what leads to it or says new rights.
pub data Kind : Type 0 where
  gives : Kind
  fills : Kind
  links : Kind

-- Of which kind a store is that may be made now.
abbrev pub kind_of : {F : Form} {P Q X : ℕ → ℕ} {k : ℕ} → Next F P Q X k → Kind
kind_of (give m j l x) = gives
kind_of (fill n x) = fills
kind_of (link m j x) = links

-- A store of a kind that is due.
pub record SomeDue (kind : Kind) : Type 0 where
  pub shape : Shape
  pub domain : ℕ
  pub paint : Paint
  pub pool : List ℕ
  pub word : ℕ
  pub value : ℕ
  pub due : Due shape (aim_of domain paint) pool word value
  pub is : kind_of due.next ≡ kind

-- A buffer in use, nowhere stale, that agrees with its table; and a slot of it answers.
pub record SomeBuffer : Type 0 where
  pub shape : Shape
  pub pool : List ℕ
  pub buffer : Buffer
  pub watched : Watched shape pool buffer nowhere
  pub agrees : Agrees shape pool buffer
  pub slot : Slot
  pub answers : first_match buffer.slots 0 0x1004 ≡ Some slot

-- A series: a change that finished, one that was cut, a third that was refused 7 for the cut, and a tidying that made
-- a store.
pub record SomeSeries : Type 0 where
  pub shape : Shape
  pub pool : List ℕ
  pub made_stores : ℕ
  pub tidied_stores : ℕ
  pub some : 0 < tidied_stores
  pub list : List ℕ
  pub series : Series shape pool list (after
      (after (after (after made (setting 0 0x1000 512 2 (Ok (Done made_stores)))) (setting 0 0 528384 1 (Ok Cut)))
      (setting 0 0 4 0 (Err NotSettled)))
      (tidied (Ok (Done tidied_stores))))

-- A slot that is stale: a check missed and filled it, and then a change that covers it was cut. Its verdict is not the
-- walk's. Flushed of the change's region, the buffer is nowhere stale, and gives the walk's verdict again.
pub record SomeStale : Type 0 where
  pub shape : Shape
  pub old : List ℕ
  pub pool : List ℕ
  pub made_stores : ℕ
  pub stores : ℕ
  pub list : List ℕ
  pub series : Series shape pool list
      (after (after made (setting 0 0x1000 512 2 (Ok (Done made_stores)))) (setting 0 0 528384 1 (Ok Cut)))
  pub filled_buffer : Buffer
  pub missed : check_of old shape empty_buffer 0 store 4 0x1000
      ≡ record { verdict = Ok (Pass 2); buffer = filled_buffer }
  pub cut : Changes old shape 0 0 528384 1 stores (Ok Cut) pool
  pub stale : Places
  pub watched : Watched shape pool filled_buffer stale
  pub is_stale : stale 0 0x1000 ≡ true
  pub by_slot : (check_of pool shape filled_buffer 0 store 4 0x1000).verdict ≡ Ok (Pass 0)
  pub by_walk : (check_of pool shape empty_buffer 0 store 4 0x1000).verdict ≡ Ok (Deny 2)
  pub after_flush : Buffer
  pub flushed : flushed_region filled_buffer 0 0 528384 ≡ record { answer = Ok tt; buffer = after_flush }
  pub left : Places
  pub watched_on : Watched shape pool after_flush left
  pub none_left : (d a : ℕ) → left d a ≡ false
  pub walks_again : (check_of pool shape after_flush 0 store 4 0x1000).verdict ≡ Ok (Deny 2)

-- A tidying needs no flush: a slot that was filled before it answers as the walk does, which now ends a level higher.
pub record SomeTidied : Type 0 where
  pub shape : Shape
  pub old : List ℕ
  pub pool : List ℕ
  pub stores : ℕ
  pub some : 0 < stores
  pub filled_buffer : Buffer
  pub missed : check_of old shape empty_buffer 0 store 4 0x1000
      ≡ record { verdict = Ok (Deny 2); buffer = filled_buffer }
  pub tidied : Tidies old shape stores (Ok (Done stores)) pool
  pub watched : Watched shape pool filled_buffer nowhere
  pub by_slot : (check_of pool shape filled_buffer 0 store 4 0x1000).verdict ≡ Ok (Deny 0)
  pub by_walk : (check_of pool shape empty_buffer 0 store 4 0x1000).verdict ≡ Ok (Deny 1)

-- A tidying that was cut after some stores, where more were wanted; and with as many as are wanted it is done.
pub record SomeTidyCut : Type 0 where
  pub shape : Shape
  pub old : List ℕ
  pub stores : ℕ
  pub pool : List ℕ
  pub some : 0 < stores
  pub cut : Tidies old shape stores (Ok Cut) pool
  pub wanted : ℕ
  pub more : stores < wanted
  pub tidied : List ℕ
  pub done : Tidies old shape wanted (Ok (Done wanted)) tidied

-- All of them.
pub record Met : Type 0 where
  pub some_sound : SomeSound
  pub some_settled : SomeSettled
  pub some_cut : SomeCut
  pub some_tidy_cut : SomeTidyCut
  pub some_give : SomeDue gives
  pub some_fill : SomeDue fills
  pub some_link : SomeDue links
  pub some_buffer : SomeBuffer
  pub some_stale : SomeStale
  pub some_tidied : SomeTidied
  pub some_series : SomeSeries
  pub some_owner : SomeOwner
  pub some_export : SomeExport
  pub some_not_allowed : SomeNotAllowed
  pub some_set_in : SomeSetIn
  pub some_nobody : SomeNobody
  pub some_disjoint : SomeDisjoint
