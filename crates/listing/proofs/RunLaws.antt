-- Laws of lists of runs; and only one list is all the runs.
use Prim.Native.Nat.{ℕ, zero, suc, ◌<◌, ◌≤◌}
use native.Mathlib.Omega.{arith}
use native.Mathlib.Decide.{dec_lt}
use mathlib.Core.Path.{◌≡◌, refl, sym, ap, ◌∙◌}
use mathlib.Core.Logic.{◌⊎◌, inl, inr, ⊎_elim, ◌≢◌}
use mathlib.Core.List.{List, [], ◌∷◌, ◌++◌}
use Rattle.listing.specs.declared.Run.{Run}
use Rattle.listing.specs.Runs.{Each, Some, Has, IsRun, RunBefore, Rising, AllRuns}

pub lt_or_ge : (a b : ℕ) → (a < b) ⊎ (b ≤ a)
lt_or_ge a b = elim (dec_lt a b) [
  | yes h ↦ inl h
  | no h ↦ inr (omega arith)
]

-- Lists of runs, put together.

pub each_map : (P Q : Run → Type 0) (rs : List Run) → ((r : Run) → P r → Q r) → Each P rs → Each Q rs
unfolding Each
each_map P Q [] f e = tt
each_map P Q (x ∷ rs) f e = (f x e.0, each_map P Q rs f e.1)

pub each_append : (P : Run → Type 0) (rs ts : List Run) → Each P rs → Each P ts → Each P (rs ++ ts)
unfolding Each
each_append P [] ts e g = g
each_append P (x ∷ rs) ts e g = (e.0, each_append P rs ts e.1 g)

pub each_one : (P : Run → Type 0) (r : Run) → P r → Each P (r ∷ [])
unfolding Each
each_one P r p = (p, tt)

pub some_left : (P : Run → Type 0) (rs ts : List Run) → Some P rs → Some P (rs ++ ts)
unfolding Some
some_left P [] ts s = absurd s
some_left P (x ∷ rs) ts s = ⊎_elim (λ p. inl p) (λ q. inr (some_left P rs ts q)) s

pub some_right : (P : Run → Type 0) (rs ts : List Run) → Some P ts → Some P (rs ++ ts)
unfolding Some
some_right P [] ts s = s
some_right P (x ∷ rs) ts s = inr (some_right P rs ts s)

pub some_one : (P : Run → Type 0) (r : Run) → P r → Some P (r ∷ [])
unfolding Some
some_one P r p = inl p

pub rising_append : (rs ts : List Run) → Rising rs → Rising ts → Each (λ r. Each (RunBefore r) ts) rs
    → Rising (rs ++ ts)
unfolding Rising Each
rising_append [] ts p q e = q
rising_append (x ∷ rs) ts p q e = (each_append (RunBefore x) rs ts p.0 e.0, rising_append rs ts p.1 q e.1)

pub rising_one : (r : Run) → Rising (r ∷ [])
unfolding Rising Each
rising_one r = (tt, tt)

-- A run of a list that has some runs of one kind, and only runs of two others.
pub pick_some : (P Q S : Run → Type 0) (rs : List Run) → Each P rs → Each Q rs → Some S rs → (r : Run) × P r × Q r × S r
unfolding Each Some
pick_some P Q S [] e g s = absurd s
pick_some P Q S (x ∷ rs) e g s = ⊎_elim (λ p. (x, e.0, g.0, p)) (λ q. pick_some P Q S rs e.1 g.1 q) s

-- Word `w` of domain `d` comes at or after word `b` of domain `a`.
abbrev After : ℕ → ℕ → ℕ → ℕ → Type 0
After a b d w = (a < d) ⊎ ((a ≡ d) × (b ≤ w))

after_zero : (d w : ℕ) → After 0 0 d w
after_zero zero w = inr (refl, omega arith)
after_zero (suc d) w = inl (omega arith)

after_both : {a b d w : ℕ} → After a b d w → After d w a b → (a ≡ d) × (b ≡ w)
after_both x y =
    ⊎_elim
    (λ p. ⊎_elim (λ q. absurd (omega arith)) (λ (q, _). absurd (omega arith)) y)
    (λ (p, m). ⊎_elim (λ q. absurd (omega arith)) (λ (q, n). (p, omega arith)) y)
    x

after_more : {a b d w : ℕ} → After a b d w → (e : ℕ) → w ≤ e → After a b d e
after_more x e h = ⊎_elim (λ p. inl p) (λ (p, m). inr (p, omega arith)) x

after_join : {a b c e d w : ℕ} → After a b c e → After c e d w → After a b d w
after_join x y =
    ⊎_elim
    (λ p. ⊎_elim (λ q. inl (omega arith)) (λ (q, _). inl (omega arith)) y)
    (λ (p, m). ⊎_elim (λ q. inl (omega arith)) (λ (q, n). inr (p ∙ q, omega arith)) y)
    x

same_run : {d e a b c f q r : ℕ} → d ≡ e → a ≡ b → c ≡ f → q ≡ r
    → ◌≡◌ {A = Run} (record { domain = d; first = a; past = c; right = q })
    (record { domain = e; first = b; past = f; right = r })
same_run x y z w = cc

module _ (D n : ℕ) (R : ℕ → ℕ → ℕ) where
  -- All runs from word `b` of domain `a` on.
  record From (a b : ℕ) (rs : List Run) : Type 0 where
    each : Each (IsRun D n R) rs
    order : Rising rs
    after : Each (λ r. After a b r.domain r.first) rs
    whole : (d w : ℕ) → After a b d w → d < D → w < n → R d w ≢ 0 → Some (Has d w) rs

  -- A word of one of the runs does not come before the first run's first word.
  head_first : (d w : ℕ) (r : Run) (rs : List Run) → Each (IsRun D n R) (r ∷ rs) → Rising (r ∷ rs)
      → Some (Has d w) (r ∷ rs)
      → After r.domain r.first d w
  unfolding Each Rising Some
  head_first d w r rs e o s =
      ⊎_elim
      (λ h. inr (h.domain, h.from))
      (λ q.
      let (u, x, y, h) = pick_some (IsRun D n R) (RunBefore r) (Has d w) rs e.1 o.0 q in
      ⊎_elim (λ l. inl (omega (arith, h.domain)))
      (λ (l, m, _). inr (l ∙ h.domain, omega (arith, e.0.some, h.from))) y)
      s

  -- The first word of a run has its right, which is not none.
  first_right_lem : (r : Run) → IsRun D n R r → R r.domain r.first ≡ r.right
  first_right_lem r x = x.one r.first (omega arith) x.some

  first_real : (r : Run) → IsRun D n R r → R r.domain r.first ≢ 0
  first_real r x e = x.real (sym (first_right_lem r x) ∙ e)

  module _ (a b : ℕ) (r : Run) (rs : List Run) (g : From a b (r ∷ rs)) where
    -- The first run of one list does not come after that of another.
    before_other : (t : Run) → IsRun D n R t → After a b t.domain t.first → After r.domain r.first
        t.domain t.first
    before_other t x y =
        head_first t.domain t.first r rs g.each g.order
        (g.whole t.domain t.first y x.domain (omega (arith, x.some, x.inside)) (first_real t x))

    -- .. and where both begin at one word with one right, it does not end before the other.
    ends_other : (t : Run) → IsRun D n R t → r.domain ≡ t.domain → r.first ≡ t.first → r.right ≡ t.right
        → t.past ≤ r.past
    unfolding Each Rising Some
    ends_other t x ed ef er = ⊎_elim (λ h. absurd (touch h)) (λ h. h) (lt_or_ge r.past t.past)
      where
        touch : r.past < t.past → ⊥
        touch h =
            let y = g.each.0 in
            let e : R r.domain r.past ≡ r.right = ap (λ d. R d r.past) ed
            ∙ x.one r.past (omega (arith, y.some)) h ∙ sym er in
            let s = g.whole r.domain r.past (after_more g.after.0 r.past (omega (arith, y.some)))
            y.domain
            (omega (arith, x.inside)) (λ z. y.real (sym e ∙ z)) in
            ⊎_elim
            (λ k. omega (arith, k.upto))
            (λ q.
            let (u, i, j, k) = pick_some (IsRun D n R) (RunBefore r) (Has r.domain r.past) rs g.each.1
            g.order.0 q in
            ⊎_elim
            (λ l. omega (arith, k.domain))
            (λ (l, m, o). o (omega (arith, k.from))
            (sym e ∙ ap (λ d. R d r.past) l ∙ i.one r.past k.from k.upto))
            j)
            s

    rest : From r.domain r.past rs
    unfolding Each Rising Some
    rest = record {
      each = g.each.1;
      order = g.order.1;
      after = each_map (RunBefore r) (λ t. After r.domain r.past t.domain t.first) rs
          (λ t y. ⊎_elim (λ l. inl l) (λ (l, m, _). inr (l, m)) y) g.order.0;
      whole = λ d w y hd hw hr.
          let z = after_join g.after.0 (after_join (inr (refl, omega (arith, g.each.0.some))) y) in
          ⊎_elim (λ k. absurd (past k y)) (λ q. q) (g.whole d w z hd hw hr);
    }
      where
        past : {d w : ℕ} → Has d w r → After r.domain r.past d w → ⊥
        past k y = ⊎_elim (λ l. omega (arith, k.domain)) (λ (l, m). omega (arith, k.upto)) y

  one_from : (a b : ℕ) (rs ts : List Run) → From a b rs → From a b ts → rs ≡ ts
  unfolding Each Rising Some
  one_from a b [] [] g h = refl
  one_from a b (r ∷ rs) [] g h =
      let x = g.each.0 in
      absurd (h.whole r.domain r.first g.after.0 x.domain (omega (arith, x.some, x.inside))
      (first_real r x))
  one_from a b [] (t ∷ ts) g h =
      let x = h.each.0 in
      absurd (g.whole t.domain t.first h.after.0 x.domain (omega (arith, x.some, x.inside))
      (first_real t x))
  one_from a b (r ∷ rs) (t ∷ ts) g h =
      let x = g.each.0 in
      let y = h.each.0 in
      let (ed, ef) = after_both (before_other a b r rs g t y h.after.0)
      (before_other a b t ts h r x g.after.0) in
      let er : r.right ≡ t.right = sym (first_right_lem r x) ∙ ap (λ d. R d r.first) ed ∙ ap (R t.domain) ef
      ∙ first_right_lem t y in
      let l = ends_other a b r rs g t y ed ef er in
      let m = ends_other a b t ts h r x (sym ed) (sym ef) (sym er) in
      let ep : r.past ≡ t.past = omega arith in
      let same : r ≡ t = same_run ed ef ep er in
      let more : From t.domain t.past rs = rw (ed, ep) at (rest a b r rs g) in
      rw (same, one_from t.domain t.past rs ts more (rest a b t ts h))

  all_from : (rs : List Run) → AllRuns D n R rs → From 0 0 rs
  all_from rs g = record {
    each = g.each;
    order = g.order;
    after = each_map (IsRun D n R) (λ r. After 0 0 r.domain r.first) rs
        (λ r x. after_zero r.domain r.first) g.each;
    whole = λ d w y. g.whole d w;
  }

-- Only one list is all the runs.
pub one_all_runs : {D n : ℕ} {R : ℕ → ℕ → ℕ} {rs ts : List Run} → AllRuns D n R rs → AllRuns D n R ts → rs ≡ ts
one_all_runs {D} {n} {R} {rs} {ts} g h = one_from D n R 0 0 rs ts (all_from D n R rs g) (all_from D n R ts h)
