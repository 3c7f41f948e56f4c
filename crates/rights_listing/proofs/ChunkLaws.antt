-- The lines of a chunk are answered one by one.
use Prim.Native.Nat.{ℕ, ◌+◌, ◌*◌, ◌%◌, ◌<◌, ◌≤◌}
use native.Mathlib.Omega.{arith}
use mathlib.Core.Path.{◌≡◌, refl, sym, ap, ◌∙◌}
use mathlib.Core.List.{List, [], ◌∷◌, ◌++◌, append_assoc, append-nil}
use lib.ListN.{length, take, drop}
use lib.Seq.{length-take-le}
use borrow.Author.Tests.{eq-eqb}
use Rattle.std.proofs.Common.{Option, Some, None}
use Rattle.lines.specs.declared.LineSoFar.{LineSoFar}
use Rattle.lines.specs.declared.Fed.{Fed}
use Rattle.lines.specs.Forms.{Said}
use Rattle.lines.specs.Feeds.{feed_of, last_of}
use Rattle.lines.proofs.CallLaws.{feed_moves}
use Rattle.rights_listing.specs.declared.serving.Served.{Served}
use Rattle.rights_listing.specs.Text.{numeral, end_of, text}
use Rattle.rights_listing.specs.Serves.{Serves, Chunk, spent, found, ServesChunk, Last, none, one, ServesLast}
use Rattle.rights_listing.proofs.ServesLaws.{one_answer}
use Rattle.rights_listing.proofs.TextLaws.{text_none, text_more}

-- What has been answered so far, from the start of the chunk up to place `at`; what comes of the rest comes of the
-- whole.
pub record Going (c : List ℕ) (t₀ : LineSoFar) (p₀ out₀ p out : List ℕ) (t : LineSoFar) (at len : ℕ) : Type 0 where
  pub numbers : List ℕ
  pub rest : (ks : List ℕ) (u : LineSoFar) (q : List ℕ) → Chunk c at t p ks u q → Chunk c 0 t₀ p₀ (numbers ++ ks) u q
  pub written : take len out ≡ text 1 numbers
  pub inside : len ≤ 11 * at
  pub upto : at ≤ length c
  pub pool_long : length p ≡ length p₀
  pub out_long : length out ≡ length out₀

pub going_begins : (c : List ℕ) (t : LineSoFar) (p out : List ℕ) → Going c t p out p out t 0 0
going_begins c t p out = record {
  numbers = [];
  rest = λ ks u q h. h;
  written = sym (text_none 1);
  inside = omega arith;
  upto = omega arith;
  pool_long = refl;
  out_long = refl;
}

-- One number to a line.
end_one : (i : ℕ) → end_of 1 i ≡ 10
unfolding end_of
end_one i = simp (eq-eqb (i % 1) 0 (omega arith))

text_one : (ns : List ℕ) (n : ℕ) → text 1 (ns ++ n ∷ []) ≡ text 1 ns ++ (numeral n ++ 10 ∷ [])
text_one ns n = text_more 1 0 n ns ∙ ap (λ b. text 1 ns ++ (numeral n ++ b ∷ [])) (end_one (0 + length ns))

module _ {c : List ℕ} {t₀ : LineSoFar} {p₀ out₀ p out : List ℕ} {t : LineSoFar} {at len : ℕ}
    (g : Going c t₀ p₀ out₀ p out t at len) {r : Fed} (e : r ≡ feed_of at t (drop at c)) where
  fed : {f : Option Said} → r.found ≡ f → feed_of at t (drop at c) ≡ record { found = f; next = r.next; line = r.line }
  fed z = sym e ∙ ap (λ f. record { found = f; next = r.next; line = r.line }) z

  pub going_ends : 11 * length c ≤ length out₀ → r.found ≡ None
      → ServesChunk c t₀ p₀ (record { len = len; line = r.line }) p out
  going_ends h z =
      let l = g.inside in
      let m = g.upto in
      let o = g.out_long in
      let i : len ≤ length out = omega arith in
      record {
        numbers = g.numbers;
        chunk = rw append-nil at (g.rest [] r.line p (spent (fed z)));
        written = g.written;
        inside = (i, sym (length-take-le len out i));
      }

  module _ {said : Said} (z : r.found ≡ Some said) where
    pub going_moves : (at < r.next) × (r.next ≤ length c)
    going_moves = rw (← e) at (feed_moves c at t (ap (λ f. f.found) (sym e) ∙ z))

    pub going_on : {k m : ℕ} {q last : List ℕ} → Serves p said k q → length q ≡ length p → length last ≡ length out
        → m ≤ len + 11 → take m last ≡ take len out ++ (numeral k ++ 10 ∷ [])
        → Going c t₀ p₀ out₀ q last r.line r.next m
    going_on {k} s x y h w =
        let l = g.inside in
        let n = going_moves in
        record {
          numbers = g.numbers ++ k ∷ [];
          rest = λ ks u v ch. rw (append_assoc) (g.rest (k ∷ ks) u v (found (fed z) s ch));
          written = w ∙ rw g.written (sym (text_one g.numbers k));
          inside = omega arith;
          upto = n.1;
          pool_long = x ∙ g.pool_long;
          out_long = y ∙ g.out_long;
        }

-- The end of the input.
pub last_none : {t : LineSoFar} {p out : List ℕ} → last_of t ≡ None → ServesLast t p 0 p out
last_none {out = out} e = record {
  numbers = [];
  last = none e;
  written = sym (text_none 1);
  inside = (omega arith, refl);
}

pub last_one : (out : List ℕ) {t : LineSoFar} {p q last : List ℕ} {said : Said} {k m : ℕ} → last_of t ≡ Some said
    → Serves p said k q → m ≤ length last → take m last ≡ take 0 out ++ (numeral k ++ 10 ∷ [])
    → ServesLast t p m q last
last_one out {last = last} {k = k} {m = m} e s i w = record {
  numbers = k ∷ [];
  last = one e s;
  written = w ∙ sym (text_one [] k ∙ rw (text_none 1) refl);
  inside = (i, sym (length-take-le m last i));
}

-- ---- One outcome.

-- A line is found or none is.
line_not_nothing : {f : Option Said} {said : Said} → f ≡ None → f ≡ Some said → ⊥
line_not_nothing e z = let y : ◌≡◌ {A = ℕ} 0 1 = cc in omega arith

-- A line found says one thing.
same_line : {f : Option Said} {said told : Said} → f ≡ Some said → f ≡ Some told → said ≡ told
same_line e z = cc

-- A feed has one outcome.
same_fed : {f : Fed} {g h : Option Said} {n m : ℕ} {t u : LineSoFar} → f ≡ record { found = g; next = n; line = t }
    → f ≡ record { found = h; next = m; line = u } → (g ≡ h) × (n ≡ m) × (t ≡ u)
same_fed e z = let y = sym e ∙ z in (ap (λ f. f.found) y, ap (λ f. f.next) y, ap (λ f. f.line) y)

-- From a place and a line on, a chunk has one outcome.
pub one_chunk : {c : List ℕ} {at : ℕ} {t u v : LineSoFar} {p q r ks ms : List ℕ} → Chunk c at t p ks u q
    → Chunk c at t p ms v r → (ks ≡ ms) × (u ≡ v) × (q ≡ r)
one_chunk (spent e) (spent f) = (refl, (same_fed e f).2, refl)
one_chunk (spent e) (found f s k) = absurd (line_not_nothing refl (same_fed e f).0)
one_chunk (found e s k) (spent f) = absurd (line_not_nothing refl (same_fed f e).0)
one_chunk (found e s k) (found f z m) =
    let (a, b, d) = same_fed e f in
    let (x, y) = one_answer s (rw (← same_line refl a) at z) in
    let (g, h, i) = one_chunk k (rw (← b, ← d, ← y) at m) in
    (rw (x, g), h, i)

-- What came of a chunk is its length and its line.
same_served : {r s : Served} → r.len ≡ s.len → r.line ≡ s.line → r ≡ s
same_served {r} {s} e f =
    ap (λ n. record { len = n; line = r.line }) e ∙ ap (λ l. record { len = s.len; line = l }) f

-- A chunk is served in one way: the lengths and the line, the pool, and the bytes written.
pub one_served : {c p q x out end : List ℕ} {t : LineSoFar} {r s : Served} → ServesChunk c t p r q out
    → ServesChunk c t p s x end → (r ≡ s) × (q ≡ x) × (take r.len out ≡ take s.len end)
one_served g h =
    let (e, f, z) = one_chunk g.chunk h.chunk in
    let w = g.written ∙ ap (text 1) e ∙ sym h.written in
    (same_served (g.inside.1 ∙ ap length w ∙ sym h.inside.1) f, z, w)

-- A line that has begun is answered in one way.
one_end : {t : LineSoFar} {p q x ks ms : List ℕ} → Last t p ks q → Last t p ms x → (ks ≡ ms) × (q ≡ x)
one_end (none e) (none f) = (refl, refl)
one_end (none e) (one f s) = absurd (line_not_nothing e f)
one_end (one e s) (none f) = absurd (line_not_nothing f e)
one_end (one e s) (one f z) =
    let (x, y) = one_answer s (rw (← same_line e f) at z) in
    (rw x, y)

-- So is the end of the input.
pub one_last : {p q x out end : List ℕ} {t : LineSoFar} {n m : ℕ} → ServesLast t p n q out → ServesLast t p m x end
    → (n ≡ m) × (q ≡ x) × (take n out ≡ take m end)
one_last g h =
    let (e, z) = one_end g.last h.last in
    let w = g.written ∙ ap (text 1) e ∙ sym h.written in
    (g.inside.1 ∙ ap length w ∙ sym h.inside.1, z, w)
