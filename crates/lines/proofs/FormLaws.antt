-- A line says a request exactly where it has the form, and then one request only.
use Prim.Native.Nat.{ℕ}
use native.Mathlib.Omega.{arith}
use mathlib.Core.Bool.{Bool, true, false, cond, ◌&&◌}
use mathlib.Core.Logic.{◌↔◌}
use mathlib.Core.Path.{◌≡◌, refl, sym, ap, ◌∙◌, subst}
use mathlib.Core.List.{List, [], ◌∷◌, ◌++◌}
use lib.Dec.{leb}
use lib.ListN.{length}
use borrow.Author.Tests.{le-leb, leb-true, eqb-true, ne_eqb}
use Rattle.std.proofs.Common.{Ok, Err}
use Rattle.std.specs.List.{join_with_byte}
use Rattle.lines.specs.declared.Request.{Request}
use Rattle.lines.specs.Cuts.{onto, cut_at, words_of}
use Rattle.lines.specs.Forms.{Said, asks, no_form, Digits, value_of, Number, OfForm, is_s, all_numbers, is_request, request_of}
use Rattle.lines.specs.Forms.{parse_of, numbers_of}
use Rattle.lines.proofs.DigitLaws.{and_left, and_right, false_true, number_is, is_number_lem}
use Rattle.lines.proofs.CutLaws.{NoMark, cut_piece, cut_last, words_joined}

-- ---- A line of the form is read

digits_no_space : (ds : List ℕ) → Digits ds → NoMark 32 ds
unfolding Digits NoMark
digits_no_space [] h = tt
digits_no_space (b ∷ ds) h = ((λ e. omega (arith, h.0.0, e)), digits_no_space ds h.1)

form_words : {line : List ℕ} {d s l r : ℕ} (f : OfForm line d s l r) → words_of line
    ≡ (83 ∷ []) ∷ f.domain ∷ f.start ∷ f.extent ∷ f.right ∷ []
unfolding cut_at onto
form_words f =
    rw (
      f.bytes,
      cut_piece 32 ([] ∷ []) f.domain (f.start ++ (32 ∷ (f.extent ++ (32 ∷ f.right))))
          (digits_no_space f.domain f.domain_is.digits),
      cut_piece 32 ([] ∷ []) f.start (f.extent ++ (32 ∷ f.right))
          (digits_no_space f.start f.start_is.digits),
      cut_piece 32 ([] ∷ []) f.extent f.right (digits_no_space f.extent f.length_is.digits),
      cut_last 32 f.right (digits_no_space f.right f.right_is.digits),
    )

pub form_parses : {line : List ℕ} {d s l r : ℕ} → OfForm line d s l r → parse_of line ≡ asks d s l r
unfolding parse_of is_request is_s all_numbers request_of
form_parses {line} {d} {s} {l} {r} f =
    rw (
      le-leb (length line) 60 f.short,
      form_words f,
      number_is f.domain d f.domain_is,
      number_is f.start s f.start_is,
      number_is f.extent l f.length_is,
      number_is f.right r f.right_is,
      f.domain_is.value,
      f.start_is.value,
      f.length_is.value,
      f.right_is.value,
    )

-- ---- A line that is read has the form

-- What is asked for tells the four numbers.
asked_same : {x y : Request} → ◌≡◌ {A = Said} (Ok x) (Ok y)
    → (x.domain ≡ y.domain) × (x.start ≡ y.start) × (x.length ≡ y.length) × (x.right ≡ y.right)
asked_same {x} {y} e =
    let f : x ≡ y = cc in
    (ap (λ z. z.domain) f, ap (λ z. z.start) f, ap (λ z. z.length) f, ap (λ z. z.right) f)

not_request : {d s l r : ℕ} → no_form ≡ asks d s l r → ⊥
not_request e = let z : ◌≡◌ {A = ℕ} 0 1 = cc in omega arith

-- A test that let a request through.
cond_request : (t : Bool) (said : Said) {d s l r : ℕ} → cond t said no_form ≡ asks d s l r → (t ≡ true)
    × (said ≡ asks d s l r)
cond_request true said e = (refl, e)
cond_request false said e = absurd (not_request e)

s_word : (w : List ℕ) → is_s w ≡ true → w ≡ 83 ∷ []
unfolding is_s
s_word [] e = absurd (false_true refl e)
s_word (b ∷ []) e = ap (λ (x : ℕ). x ∷ []) (eqb-true b 83 e)
s_word (b ∷ c ∷ w) e = absurd (false_true
    (ne_eqb (length (b ∷ c ∷ w)) 1 (λ z. omega arith)) (and_left _ _ e))

-- Words that ask are five, `S` and four numbers.
record Five (ws : List (List ℕ)) : Type 0 where
  domain : List ℕ
  start : List ℕ
  extent : List ℕ
  right : List ℕ
  words : ws ≡ (83 ∷ []) ∷ domain ∷ start ∷ extent ∷ right ∷ []
  domain_is : Number domain (value_of domain)
  start_is : Number start (value_of start)
  length_is : Number extent (value_of extent)
  right_is : Number right (value_of right)

five_words : (ws : List (List ℕ)) → is_request ws ≡ true → Five ws
unfolding is_request all_numbers
five_words [] e = absurd (false_true refl e)
five_words (s ∷ []) e = absurd (false_true refl e)
five_words (s ∷ d ∷ []) e = absurd (false_true refl e)
five_words (s ∷ d ∷ a ∷ []) e = absurd (false_true refl e)
five_words (s ∷ d ∷ a ∷ l ∷ []) e = absurd (false_true refl e)
five_words (s ∷ d ∷ a ∷ l ∷ r ∷ []) e =
    let first = and_left _ _ e in
    let d₁ = and_right _ _ e in
    let a₁ = and_right _ _ d₁ in
    let l₁ = and_right _ _ a₁ in
    let r₁ = and_right _ _ l₁ in
    record {
      domain = d;
      start = a;
      extent = l;
      right = r;
      words = ap (λ (w : List ℕ). w ∷ d ∷ a ∷ l ∷ r ∷ []) (s_word s first);
      domain_is = is_number_lem d (and_left _ _ d₁);
      start_is = is_number_lem a (and_left _ _ a₁);
      length_is = is_number_lem l (and_left _ _ l₁);
      right_is = is_number_lem r (and_left _ _ r₁);
    }
five_words (s ∷ d ∷ a ∷ l ∷ r ∷ x ∷ ws) e = absurd (false_true
    (ne_eqb (length (s ∷ d ∷ a ∷ l ∷ r ∷ x ∷ ws)) 5 (λ z. omega arith)) (and_left _ _ e))

number_as : (w : List ℕ) {v : ℕ} → value_of w ≡ v → Number w (value_of w) → Number w v
number_as w e n = subst (λ (x : ℕ). Number w x) e n

pub parse_form : (line : List ℕ) {d s l r : ℕ} → parse_of line ≡ asks d s l r → OfForm line d s l r
unfolding parse_of request_of
parse_form line {d} {s} {l} {r} e =
    let g = cond_request (leb (length line) 60 && is_request (words_of line)) (Ok (request_of (words_of line))) e in
    let f = five_words (words_of line) (and_right (leb (length line) 60) _ g.0) in
    let same : asks (value_of f.domain) (value_of f.start) (value_of f.extent) (value_of f.right) ≡ asks d s l r =
    rw f.words at g.1 in
    let (domain, start, extent, right) = asked_same same in
    record {
      domain = f.domain;
      start = f.start;
      extent = f.extent;
      right = f.right;
      bytes = sym (words_joined line) ∙ ap (join_with_byte 32) f.words;
      domain_is = number_as f.domain domain f.domain_is;
      start_is = number_as f.start start f.start_is;
      length_is = number_as f.extent extent f.length_is;
      right_is = number_as f.right right f.right_is;
      short = leb-true _ _ (and_left (leb (length line) 60) (is_request (words_of line)) g.0);
    }

-- ---- Exactly

pub request_exactly : (line : List ℕ) (d s l r : ℕ) → (parse_of line ≡ asks d s l r) ↔ OfForm line d s l r
request_exactly line d s l r = (parse_form line, form_parses)

pub one_request : {line : List ℕ} {d s l r d' s' l' r' : ℕ} → OfForm line d s l r → OfForm line d' s' l' r'
    → (d ≡ d') × (s ≡ s') × (l ≡ l') × (r ≡ r')
one_request f g =
    asked_same (sym (form_parses f) ∙ form_parses g)

pub refused_exactly : (line : List ℕ) → (parse_of line ≡ no_form) ↔ ((d s l r : ℕ) → OfForm line d s l r → ⊥)
refused_exactly line = ((λ e d s l r f. not_request (sym e ∙ form_parses f)), (λ none. go none (parse_of line) refl))
  where
    go : ((d s l r : ℕ) → OfForm line d s l r → ⊥) → (said : Said) → parse_of line ≡ said → said ≡ no_form
    go none (Ok x) e = absurd (none x.domain x.start x.length x.right (parse_form line e))
    go none (Err x) e = refl

-- The same in the paper's numbers.
numbers_request : (said : Said) {d s l r : ℕ} → numbers_of said ≡ 0 ∷ d ∷ s ∷ l ∷ r ∷ [] → said ≡ asks d s l r
numbers_request (Ok x) {d} {s} {l} {r} e =
    let p : x.domain ≡ d = cc in
    let q : x.start ≡ s = cc in
    let o : x.length ≡ l = cc in
    let n : x.right ≡ r = cc in
    λ i. asks (p i) (q i) (o i) (n i)
numbers_request (Err x) e = let z : ◌≡◌ {A = ℕ} 99 0 = cc in absurd (omega arith)

numbers_refused : (said : Said) → numbers_of said ≡ 99 ∷ 0 ∷ 0 ∷ 0 ∷ 0 ∷ [] → said ≡ no_form
numbers_refused (Ok x) e = let z : ◌≡◌ {A = ℕ} 0 99 = cc in absurd (omega arith)
numbers_refused (Err x) e = refl

pub request_numbers : (line : List ℕ) (d s l r : ℕ) → (numbers_of (parse_of line) ≡ 0 ∷ d ∷ s ∷ l ∷ r ∷ []) ↔ OfForm
    line d s l r
request_numbers line d s l r = (
  (λ e. parse_form line (numbers_request (parse_of line) e)),
  (λ f. ap numbers_of (form_parses f)),
)

pub refused_numbers : (line : List ℕ) → (numbers_of (parse_of line) ≡ 99 ∷ 0 ∷ 0 ∷ 0 ∷ 0 ∷ []) ↔
    ((d s l r : ℕ) → OfForm line d s l r → ⊥)
refused_numbers line = (
  (λ e. (refused_exactly line).0 (numbers_refused (parse_of line) e)),
  (λ none. ap numbers_of ((refused_exactly line).1 none)),
)
