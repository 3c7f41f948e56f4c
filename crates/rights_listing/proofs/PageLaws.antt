-- A page of the listing.
use Prim.Native.Nat.{ℕ, ◌+◌, ◌*◌, ◌-◌, ◌/◌, ◌%◌, ◌≤◌, min}
use native.Mathlib.Omega.{arith}
use native.Mathlib.Nat.{add-zero}
use mathlib.Core.Path.{◌≡◌, refl, sym, ap, ◌∙◌}
use mathlib.Core.List.{List, [], ◌∷◌, ◌++◌, append_assoc}
use mathlib.Core.Logic.{⊎_elim}
use lib.ListN.{length, take, drop, length-append, length-drop, take-append-drop}
use lib.Seq.{length-take-le, take_all, take_at}
use Rattle.listing.specs.declared.Run.{Run}
use Rattle.std.proofs.Common.{Ok, Err}
use Rattle.refusals.specs.declared.Refusal.{Refusal}
use Rattle.listing.specs.Runs.{four_of, flat, shown}
use Rattle.listing.specs.Listing.{Lists, no_shape, unsound, listed}
use Rattle.listing.proofs.RunLaws.{lt_or_ge, one_all_runs}
use Rattle.rights_listing.specs.declared.pages.Page.{Page}
use Rattle.io.specs.Counts.{IsPrefixLen}
use Rattle.rights_listing.specs.Text.{numeral, end_of, text_from, text}
use Rattle.rights_listing.specs.Serves.{whole}
use Rattle.rights_listing.specs.Pages.{ShowsPage, no_listing, page}

length_flat : (rs : List Run) → length (flat rs) ≡ 4 * length rs
unfolding flat
length_flat [] = refl
length_flat (r ∷ rs) = length-append (four_of r) (flat rs) ∙ (let z = length_flat rs in omega arith)

drop_past : (n : ℕ) (rs : List Run) → length rs ≤ n → drop n rs ≡ []
drop_past n rs h = nothing (drop n rs) (let z = length-drop n rs in omega arith)
  where
    nothing : (l : List Run) → length l ≡ 0 → l ≡ []
    nothing [] e = refl
    nothing (x ∷ l) e = absurd (omega arith)

-- The lent words begin with the runs that fit.
shown_begins : (from m : ℕ) (rs : List Run) (old : List ℕ) → length old ≡ 4096 → length (take 1024 (drop from rs)) ≡ m
    → take (4 * m) (shown from rs old) ≡ flat (take 1024 (drop from rs))
shown_begins from m rs old l e =
    let k : length old / 4 ≡ 1024 = omega arith in
    let l = length_flat (take 1024 (drop from rs)) ∙ ap (λ j. 4 * j) e in
    rw k (take_at (flat (take 1024 (drop from rs))) _ (4 * m) l)

-- How many runs a page has.
page_many : (from m : ℕ) (rs : List Run) → m ≡ min (length rs - from) 1024 → length (take 1024 (drop from rs)) ≡ m
page_many from m rs e = let z = length-drop from rs in ⊎_elim
    (λ k. ap length (take_all 1024 (drop from rs) (omega arith)) ∙ (omega arith))
    (λ k. length-take-le 1024 (drop from rs) (omega arith) ∙ (omega arith))
    (lt_or_ge (length rs - from) 1024)

pub page_refused : {p : List ℕ} {from : ℕ} {k : Refusal} {old new out : List ℕ} → Lists p whole from old (Err k) new
    → ShowsPage p from (record { len = 0; left = 0 }) out
page_refused (no_shape f) = no_listing (λ g s. f g)
page_refused (unsound f u) = no_listing (λ g s. u s)

-- A page: `m` runs of it, which may be none.
pub page_shown : {from n : ℕ} {p old new : List ℕ} → Lists p whole from old (Ok n) new → (out : List ℕ) (m len : ℕ)
    → length old ≡ 4096 → m ≡ min (n - from) 1024 → len ≤ 11 * (4 * m) → 45056 ≤ length out
    → take len out ≡ text 4 (take (4 * m) new) → ShowsPage p from (record { len = len; left = n - from - m }) out
page_shown {from = from} {old = old} (listed f s rs all) out m len l e w o t =
    let g = page_many from m rs e in
    let x : length rs - from - m ≡ length rs - (from + 1024) = omega arith in
    let v : len ≤ length out = omega arith in
    let q = t ∙ ap (text 4) (shown_begins from m rs old l g) in
    rw x (page f s rs all q (v, sym (length-take-le len out v)))

-- The text stands in the lent bytes.
pub shows_counts : {p out : List ℕ} {from : ℕ} {r : Page} → ShowsPage p from r out → IsPrefixLen r.len out
shows_counts (no_listing h) = (omega arith, refl)
shows_counts (page f s rs all t i) = i

-- A page has one outcome: its length, what is left after it, and the bytes written.
pub one_page : {p out end : List ℕ} {from : ℕ} {g h : Page} → ShowsPage p from g out → ShowsPage p from h end
    → (g ≡ h) × (take g.len out ≡ take h.len end)
one_page (no_listing u) (no_listing v) = (refl, refl)
one_page (no_listing u) (page f s rs a t i) = absurd (u f s)
one_page (page f s rs a t i) (no_listing u) = absurd (u f s)
one_page {from = from} (page f s rs a t i) (page g u ts b w j) =
    let e = one_all_runs a b in
    let x = t ∙ ap (λ l. text 4 (flat (take 1024 (drop from l)))) e ∙ sym w in
    let y = i.1 ∙ ap length x ∙ sym j.1 in
    (rw (y, e), x)

-- ---- Pages one after the other are the whole listing.

end_fours : (m i : ℕ) → end_of 4 (4 * m + i) ≡ end_of 4 i
unfolding end_of
end_fours m i = let e : (4 * m + i) % 4 ≡ i % 4 = omega arith in rw e refl

text_fours : (m i : ℕ) (ns : List ℕ) → text_from 4 (4 * m + i) ns ≡ text_from 4 i ns
unfolding text_from
text_fours m i [] = refl
text_fours m i (n ∷ ns) =
    let e : 4 * m + i + 1 ≡ 4 * m + (i + 1) = omega arith in
    rw (end_fours m i, e, text_fours m (i + 1) ns) refl

text_append : (i : ℕ) (xs ys : List ℕ) → text_from 4 i (xs ++ ys) ≡ text_from 4 i xs ++ text_from 4 (i + length xs) ys
unfolding text_from
text_append i [] ys = rw (add-zero i) refl
text_append i (x ∷ xs) ys =
    let e : i + 1 + length xs ≡ i + length (x ∷ xs) = omega arith in
    ap (λ t. numeral x ++ end_of 4 i ∷ t) (text_append (i + 1) xs ys ∙ rw e refl)
    ∙ sym (append_assoc (numeral x) (end_of 4 i ∷ text_from 4 (i + 1) xs) _)

flat_append : (rs ts : List Run) → flat (rs ++ ts) ≡ flat rs ++ flat ts
unfolding flat
flat_append [] ts = refl
flat_append (r ∷ rs) ts = ap (λ l. four_of r ++ l) (flat_append rs ts)

-- The text of a page, and then that of the runs after it, is that of all.
pub page_then : (m : ℕ) (rs : List Run) → text 4 (flat (take m rs)) ++ text 4 (flat (drop m rs)) ≡ text 4 (flat rs)
page_then m rs =
    let e = length_flat (take m rs) in
    let z : 0 + length (flat (take m rs)) ≡ 4 * length (take m rs) + 0 = omega arith in
    let rest = flat (drop m rs) in
    let y = ap (λ i. text_from 4 i rest) z ∙ text_fours (length (take m rs)) 0 rest in
    sym (ap (λ l. text 4 (flat l)) (sym (take-append-drop m rs)) ∙ ap (text 4) (flat_append (take m rs) (drop m rs))
    ∙ text_append 0 (flat (take m rs)) rest ∙ ap (λ t. text 4 (flat (take m rs)) ++ t) y)
