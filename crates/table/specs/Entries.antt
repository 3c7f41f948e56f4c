-- What an entry of a table says, and the numbers of a height.
use Rattle.std.specs.Prelude.{ℕ, zero, suc, ◌+◌, ◌-◌, ◌/◌, cond, eqb, ltb}
use Rattle.words.specs.Rights.{bit31, good_rights, eight_of, sixteen_of}
use Rattle.table.specs.declared.Shape.{Shape}
use Rattle.table.specs.declared.Entry.{Entry}
use Rattle.table.specs.declared.Entry.TheVariants.{Rights, Leads, Bad}
use Rattle.table.specs.Shape.{size, first_middle, first_leaf, max_middles}
use Rattle.table.specs.declared.geometry.Level.{Level}
use Rattle.table.specs.Map.{block, parts, is_place}
use Rattle.table.specs.Wants.{words_in}

-- The word `w` leads to one of `n` places of `long` words from `from` on, which are numbered from `nth` on; or it is
-- bad.
abbrev pub leads_to : ℕ → ℕ → ℕ → ℕ → ℕ → Entry
leads_to from long n nth w = cond (is_place from long n w) (Leads (record { 0 = w }) (nth + (w - from) / long)) Bad

-- The word `w` as an entry of the height `h`. Middle places are numbered from 0 on, leaf places from 8 on.
abbrev pub decode_of : Shape → ℕ → ℕ → Entry
decode_of s h w =
    cond (eqb h 0) (Rights w)
    (cond (ltb w bit31)
    (cond (eqb h 1)
    (leads_to (first_leaf s) (size 0) s.leaves max_middles w)
    (leads_to (first_middle s) (size 1) s.middles 0 w))
    (cond (good_rights w) (Rights w) Bad))

-- How many words the block of an entry has.
abbrev pub block_words : ℕ → ℕ
block_words h = block h / 4

-- The numbers of a height.
abbrev pub level_of : ℕ → Level
level_of h = record { entries = size h; parts = parts h; step = words_in h; block = block_words h }

-- The entry that says one right for its whole block.
abbrev pub same_of : ℕ → ℕ → ℕ
same_of zero q = sixteen_of q
same_of (suc h) q = eight_of q
