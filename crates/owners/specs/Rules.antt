-- Who may set a right: the owner of a word any right for any domain, a domain with an export there a right no greater
-- for any but itself.
use Rattle.std.specs.Prelude.{ℕ, zero, suc, ◌-◌, ◌/◌, ◌%◌, ◌^◌, ◌≤◌, ◌<◌, ◌≡◌, Bool, true, cond, not, ◌&&◌, ◌||◌, List, eqb, ltb}
use Rattle.words.specs.declared.Region.{Region}
use Rattle.words.specs.Rights.{right_at}
use Rattle.owners.specs.declared.Owned.{Owned}
use Rattle.owners.specs.Regions.{region_at, count_of, holds, place_of}

-- The domain that words in no region belong to, and that makes regions.
abbrev pub supervisor : ℕ
supervisor = 0

-- An export may go to the domains below this number.
abbrev pub export_domains : ℕ
export_domains = 16

-- The right `q` is no greater than `e`: none (0) is below all, read (1) below the other two, which do not compare.
abbrev pub no_greater : ℕ → ℕ → Bool
no_greater q e = eqb q e || (ltb q 2 && ltb q e)

-- The domain `k` has an export of the region: bit k of `given`.
abbrev pub exports : Owned → ℕ → Bool
exports r k = ltb k export_domains && eqb (r.given / 2 ^ k % 2) 1

-- The right that it was given, which may be none.
abbrev pub export_of : Owned → ℕ → ℕ
export_of r k = right_at r.rights k

-- The caller may set this right for this domain in the region: it owns it; or it has an export there, is not the
-- domain, and the right is no greater than the export.
abbrev pub may_in : Owned → ℕ → ℕ → ℕ → Bool
may_in r caller domain right =
    eqb caller r.owner || (exports r caller && not (eqb caller domain) && no_greater right (export_of r caller))

-- On a word of region number `k`; where that is no region held, the word belongs to domain 0.
abbrev pub may_at : List ℕ → ℕ → ℕ → ℕ → ℕ → Bool
may_at list k caller domain right =
    cond (ltb k (count_of list)) (may_in (region_at list k) caller domain right) (eqb caller supervisor)

-- The caller may set this right for this domain on the memory word `w`: the earliest region that holds it decides.
abbrev pub may_word : List ℕ → ℕ → ℕ → ℕ → ℕ → Bool
may_word list caller domain right w = may_at list (place_of list (holds w)) caller domain right

-- A change is allowed exactly when every covered word allows it.
abbrev pub Allowed : List ℕ → ℕ → ℕ → ℕ → Region → Type 0
Allowed list caller domain right region =
    (w : ℕ) → region.lo ≤ w → w < region.hi → may_word list caller domain right w ≡ true

-- A test passes at `n` words from `w` on.
unfoldable pub every_word : (ℕ → Bool) → ℕ → ℕ → Bool
every_word t zero w = true
every_word t (suc n) w = t w && every_word t n (suc w)

-- `Allowed` as a test, word by word (`allowed_exact`).
abbrev pub allowed_of : List ℕ → ℕ → ℕ → ℕ → Region → Bool
allowed_of list caller domain right region =
    every_word (may_word list caller domain right) (region.hi - region.lo) region.lo
