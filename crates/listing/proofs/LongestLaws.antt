-- All the runs, in the paper's words: each is a longest run, and a word is of a run exactly where its right is not
-- none.
use Prim.Native.Nat.{ℕ, ◌+◌, ◌<◌}
use native.Mathlib.Omega.{arith}
use mathlib.Core.Path.{◌≡◌, refl, sym, ap, ◌∙◌}
use mathlib.Core.Logic.{◌⊎◌, inl, inr, ⊎_elim, ◌≢◌}
use mathlib.Core.List.{List, [], ◌∷◌}
use Rattle.listing.specs.declared.Run.{Run}
use Rattle.listing.specs.Runs.{Each, Some, Has, IsRun, RunBefore, Rising, AllRuns}
use Rattle.listing.proofs.RunLaws.{each_map, pick_some}

-- The word before a run, if there is one, has another right, and so has the word after it.
pub record Longest (n : ℕ) (R : ℕ → ℕ → ℕ) (r : Run) : Type 0 where
  pub before : (w : ℕ) → w + 1 ≡ r.first → R r.domain w ≢ r.right
  pub after : r.past < n → R r.domain r.past ≢ r.right

each_both : (P Q : Run → Type 0) (rs : List Run) → Each P rs → Each Q rs → Each (λ r. P r × Q r) rs
unfolding Each
each_both P Q [] e g = tt
each_both P Q (x ∷ rs) e g = ((e.0, g.0), each_both P Q rs e.1 g.1)

module _ (D n : ℕ) (R : ℕ → ℕ → ℕ) where
  -- A word is of a run that is `r`, or comes after it, or before it.
  record Beside (r : Run) (d w : ℕ) : Type 0 where
    other : Run
    is : IsRun D n R other
    has : Has d w other
    apart : (other ≡ r) ⊎ (RunBefore r other ⊎ RunBefore other r)

  beside : (rs : List Run) → Each (IsRun D n R) rs → Rising rs
      → Each (λ r. (d w : ℕ) → Some (Has d w) rs → Beside r d w) rs
  unfolding Each Rising Some
  beside [] e o = tt
  beside (x ∷ rs) e o = (
    λ d w s. ⊎_elim
        (λ h. record { other = x; is = e.0; has = h; apart = inl refl })
        (λ q.
        let (u, i, b, h) = pick_some (IsRun D n R) (RunBefore x) (Has d w) rs e.1 o.0 q in
        record { other = u; is = i; has = h; apart = inr (inl b) })
        s,
    each_map (λ r. RunBefore x r × ((d w : ℕ) → Some (Has d w) rs → Beside r d w))
        (λ r. (d w : ℕ) → Some (Has d w) (x ∷ rs) → Beside r d w) rs
        (λ r (b, f) d w s. ⊎_elim (λ h. record { other = x; is = e.0; has = h; apart = inr (inr b) }) (λ q. f d w q) s)
        (each_both (RunBefore x) (λ r. (d w : ℕ) → Some (Has d w) rs → Beside r d w) rs o.0
        (beside rs e.1 o.1)),
  )

  module _ (r : Run) (x : IsRun D n R r) where
    -- The right of a word that another run has.
    other_right : (w : ℕ) (b : Beside r r.domain w) → R r.domain w ≡ b.other.right
    other_right w b =
        ap (λ d. R d w) (sym b.has.domain) ∙ b.is.one w b.has.from b.has.upto

    not_after : (b : Beside r r.domain r.past) → R r.domain r.past ≢ r.right
    not_after b e =
        let same : r.right ≡ b.other.right = sym e ∙ other_right r.past b in
        ⊎_elim
        (λ q. omega (arith, b.has.upto, ap (λ u. u.past) q))
        (λ q. ⊎_elim
        (λ l. ⊎_elim (λ m. omega (arith, b.has.domain)) (λ (_, m, k). k (omega (arith, b.has.from)) same) l)
        (λ l. ⊎_elim (λ m. omega (arith, b.has.domain)) (λ (_, m, k). omega (arith, b.has.upto, x.some)) l)
        q)
        b.apart

    not_before : (w : ℕ) → w + 1 ≡ r.first → (b : Beside r r.domain w) → R r.domain w ≢ r.right
    not_before w f b e =
        let same : b.other.right ≡ r.right = sym (other_right w b) ∙ e in
        ⊎_elim
        (λ q. omega (arith, b.has.from, ap (λ u. u.first) q))
        (λ q. ⊎_elim
        (λ l. ⊎_elim (λ m. omega (arith, b.has.domain)) (λ (_, m, k). omega (arith, b.has.from, x.some)) l)
        (λ l. ⊎_elim (λ m. omega (arith, b.has.domain)) (λ (_, m, k). k (omega (arith, b.has.upto)) same) l)
        q)
        b.apart

  pub all_longest : (rs : List Run) → AllRuns D n R rs → Each (Longest n R) rs
  all_longest rs g =
      each_map (λ r. IsRun D n R r × ((d w : ℕ) → Some (Has d w) rs → Beside r d w)) (Longest n R) rs
      (λ r (x, f). record {
        before = λ w h e.
            not_before r x w h
            (f r.domain w (g.whole r.domain w x.domain (omega (arith, x.some, x.inside))
            (λ z. x.real (sym e ∙ z)))) e;
        after = λ h e. not_after r x (f r.domain r.past
            (g.whole r.domain r.past x.domain h (λ z. x.real (sym e ∙ z)))) e;
      })
      (each_both (IsRun D n R) (λ r. (d w : ℕ) → Some (Has d w) rs → Beside r d w) rs g.each
      (beside rs g.each g.order))

  -- A word of a run has the run's right, which is not none; `whole` says that no other word is left.
  pub listed_right : (d w : ℕ) (rs : List Run) → AllRuns D n R rs → Some (Has d w) rs → R d w ≢ 0
  listed_right d w rs g s e =
      let (u, x, _, h) = pick_some (IsRun D n R) (IsRun D n R) (Has d w) rs g.each g.each s in
      x.real (sym (x.one w h.from h.upto) ∙ ap (λ c. R c w) h.domain ∙ e)
