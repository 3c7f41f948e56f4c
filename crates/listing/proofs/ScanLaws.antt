-- The fold over words finds all the runs.
use Prim.Native.Nat.{ℕ, zero, suc, ◌+◌, ◌<◌, ◌≤◌}
use native.Mathlib.Omega.{arith}
use mathlib.Core.Path.{◌≡◌, refl, sym, ap, subst, ◌∙◌}
use mathlib.Core.Logic.{inl, inr, ⊎_elim, ◌≢◌}
use mathlib.Core.Bool.{Bool, true, false, cond}
use mathlib.Core.List.{List, [], ◌∷◌, ◌++◌}
use lib.Dec.{eqb}
use borrow.Author.Tests.{eqb-true, eqb-false}
use Rattle.listing.specs.declared.Run.{Run}
use Rattle.listing.specs.Runs.{Each, Some, Has, IsRun, RunBefore, Rising, AllRuns}
use Rattle.listing.specs.Scan.{Scan, open_run, ended, next, scan, runs_of, listing_of}
use Rattle.listing.proofs.RunLaws.{lt_or_ge, each_map, each_append, each_one, some_left, some_right, some_one}
use Rattle.listing.proofs.RunLaws.{rising_append, rising_one}

-- All runs of the domains from `lo` on and below `D`.
record Among (lo D n : ℕ) (R : ℕ → ℕ → ℕ) (rs : List Run) : Type 0 where
  low : Each (λ r. lo ≤ r.domain) rs
  each : Each (IsRun D n R) rs
  order : Rising rs
  whole : (d w : ℕ) → lo ≤ d → d < D → w < n → R d w ≢ 0 → Some (Has d w) rs

-- The runs of some domains and then those of the next.
among_append : (lo mid hi n : ℕ) (R : ℕ → ℕ → ℕ) (rs ts : List Run) → mid ≤ hi → lo ≤ mid → Among lo mid n R rs
    → Among mid hi n R ts
    → Among lo hi n R (rs ++ ts)
among_append lo mid hi n R rs ts b c g h = record {
  low = each_append (λ r. lo ≤ r.domain) rs ts g.low
      (each_map (λ r. mid ≤ r.domain) (λ r. lo ≤ r.domain) ts (λ r x. omega arith) h.low);
  each = each_append (IsRun hi n R) rs ts (each_map (IsRun mid n R) (IsRun hi n R) rs wider g.each) h.each;
  order = rising_append rs ts g.order h.order
      (each_map (IsRun mid n R) (λ r. Each (RunBefore r) ts) rs
      (λ r x. each_map (λ t. mid ≤ t.domain) (RunBefore r) ts (λ t y. inl (omega (arith, x.domain))) h.low)
      g.each);
  whole = λ d w l u m z. ⊎_elim
      (λ q. some_left (Has d w) rs ts (g.whole d w l q m z))
      (λ q. some_right (Has d w) rs ts (h.whole d w q u m z))
      (lt_or_ge d mid);
}
  where
    wider : (r : Run) → IsRun mid n R r → IsRun hi n R r
    wider r x = record {
      domain = omega (arith, x.domain);
      some = x.some;
      inside = x.inside;
      real = x.real;
      one =
          x.one;
    }

-- One domain.
module _ (d : ℕ) (R : ℕ → ℕ → ℕ) where
  -- A closed run of the domain, that ends by word `n`.
  record Shut (n : ℕ) (r : Run) : Type 0 where
    domain : r.domain ≡ d
    is : IsRun (suc d) n R r

  wider : (m n : ℕ) → m ≤ n → (r : Run) → Shut m r → Shut n r
  wider m n h r x = record {
    domain = x.domain;
    is = record {
      domain = x.is.domain;
      some = x.is.some;
      inside = omega (arith, x.is.inside);
      real =
          x.is.real;
      one = x.is.one;
    };
  }

  -- The scan after `n` words.
  record Good (n : ℕ) (s : Scan) : Type 0 where
    low : s.first ≤ n
    some : 0 < n → s.first < n
    begin : n ≡ 0 → s.right ≡ 0
    one : (j : ℕ) → s.first ≤ j → j < n → R d j ≡ s.right
    each : Each (Shut s.first) s.done
    order : Rising s.done
    before : Each (λ r. RunBefore r (open_run d n s)) s.done
    whole : (j : ℕ) → j < s.first → R d j ≢ 0 → Some (Has d j) s.done

  -- The closed runs after `n` words.
  record Closed (n : ℕ) (rs : List Run) : Type 0 where
    each : Each (Shut n) rs
    order : Rising rs
    whole : (j : ℕ) → j < n → R d j ≢ 0 → Some (Has d j) rs

  module _ (n : ℕ) (s : Scan) (g : Good n s) where
    some_words : s.right ≢ 0 → s.first < n
    some_words h = ⊎_elim g.some (λ z. absurd (h (g.begin (omega arith)))) (lt_or_ge 0 n)

    open_shut : s.right ≢ 0 → Shut n (open_run d n s)
    open_shut h = record {
      domain = refl;
      is = record { domain = omega arith; some = some_words h; inside = omega arith; real = h; one = g.one };
    }

    earlier : Each (Shut n) s.done
    earlier = each_map (Shut s.first) (Shut n) s.done (wider s.first n g.low) g.each

    ended_closed : Closed n (ended d n s)
    unfolding ended
    ended_closed = go (eqb s.right 0) refl
      where
        go : (t : Bool) → eqb s.right 0 ≡ t → Closed n (cond t s.done (s.done ++ open_run d n s ∷ []))
        go true h = record {
          each = earlier;
          order = g.order;
          whole = λ j k m. ⊎_elim (λ q. g.whole j q m) (λ q. absurd (m (g.one j q k ∙ eqb-true _ _ h)))
              (lt_or_ge j s.first);
        }
        go false h = record {
          each = each_append (Shut n) s.done (open_run d n s ∷ []) earlier
              (each_one (Shut n) (open_run d n s) (open_shut (eqb-false _ _ h)));
          order = rising_append s.done (open_run d n s ∷ []) g.order (rising_one (open_run d n s))
              (each_map (λ r. RunBefore r (open_run d n s)) (λ r. Each (RunBefore r) (open_run d n s ∷ [])) s.done
              (λ r x. each_one (RunBefore r) (open_run d n s) x) g.before);
          whole = λ j k m. ⊎_elim
              (λ q. some_left (Has d j) s.done (open_run d n s ∷ []) (g.whole j q m))
              (λ q. some_right (Has d j) s.done (open_run d n s ∷ [])
              (some_one (Has d j) (open_run d n s) (record { domain = refl; from = q; upto = k })))
              (lt_or_ge j s.first);
        }

    -- What is closed comes before a run that opens at word `n` with another right.
    ended_before : (t : Run) → t.domain ≡ d → t.first ≡ n → s.right ≢ t.right → Each (λ r. RunBefore r t)
        (ended d n s)
    unfolding ended
    ended_before t ed ef er = go (eqb s.right 0)
      where
        early : (r : Run) → Shut s.first r → RunBefore r t
        early r x =
            inr (
              x.domain ∙ sym ed,
              omega (arith, x.is.inside, g.low),
              λ e. absurd (omega (
                arith,
                x.is.some,
                x.is.inside,
                g.some
                    (omega (arith, x.is.some, x.is.inside, g.low)),
              )),
            )

        done : Each (λ r. RunBefore r t) s.done
        done = each_map (Shut s.first) (λ r. RunBefore r t) s.done early g.each

        go : (b : Bool) → Each (λ r. RunBefore r t) (cond b s.done (s.done ++ open_run d n s ∷ []))
        go true = done
        go false =
            each_append (λ r. RunBefore r t) s.done (open_run d n s ∷ []) done
            (each_one (λ r. RunBefore r t) (open_run d n s) (inr (sym ed, omega arith, λ e. er)))

    -- One word more.
    next_good : Good (n + 1) (next d (R d n) n s)
    unfolding next
    next_good = go (eqb (R d n) s.right) refl
      where
        at : (j : ℕ) → n ≤ j → j < n + 1 → R d j ≡ R d n
        at j h k = let e : j ≡ n = omega arith in ap (R d) e

        go : (t : Bool) → eqb (R d n) s.right ≡ t
            → Good (n + 1) (cond t s (record { right = R d n; first = n; done = ended d n s }))
        go true h = record {
          low = omega (arith, g.low);
          some = λ k. omega (arith, g.low);
          begin = λ k. absurd (omega arith);
          one = λ j k m. ⊎_elim (λ q. g.one j k q) (λ q. at j q m ∙ eqb-true _ _ h) (lt_or_ge j n);
          each = g.each;
          order = g.order;
          before = g.before;
          whole = g.whole;
        }
        go false h =
            let e = ended_closed in
            record {
              low = omega arith;
              some = λ k. omega arith;
              begin = λ k. absurd (omega arith);
              one = at;
              each = e.each;
              order = e.order;
              before = ended_before (record { domain = d; first = n; past = n + 1; right = R d n }) refl refl
                  (λ z. eqb-false _ _ h (sym z));
              whole = e.whole;
            }

  scan_good : (n : ℕ) → Good n (scan d n (R d))
  unfolding scan Each Rising
  scan_good zero = record {
    low = omega arith;
    some = λ k. k;
    begin = λ k. refl;
    one = λ j h k. absurd (omega arith);
    each = tt;
    order = tt;
    before = tt;
    whole = λ j h k. absurd (omega arith);
  }
  scan_good (suc n) = let e : suc n ≡ n + 1 = omega arith in rw e (next_good n (scan d n (R d)) (scan_good n))

  domain_among : (n : ℕ) → Among d (suc d) n R (runs_of d n (R d))
  unfolding runs_of
  domain_among n =
      let rs = ended d n (scan d n (R d)) in
      let e = ended_closed n (scan d n (R d)) (scan_good n) in
      record {
        low = each_map (Shut n) (λ r. d ≤ r.domain) rs (λ r x. omega (arith, x.domain)) e.each;
        each = each_map (Shut n) (IsRun (suc d) n R) rs (λ r x. x.is) e.each;
        order = e.order;
        whole = λ c w l u m z.
            let q : d ≡ c = omega arith in
            subst (λ x. Some (Has x w) rs) q (e.whole w m (λ y. z (ap (λ x. R x w) (sym q) ∙ y)));
      }

listing_among : (D n : ℕ) (R : ℕ → ℕ → ℕ) → Among 0 D n R (listing_of D n R)
unfolding listing_of Each Rising
listing_among zero n R = record { low = tt; each = tt; order = tt; whole = λ d w l u. absurd (omega arith) }
listing_among (suc D) n R =
    among_append 0 D (suc D) n R (listing_of D n R) (runs_of D n (R D)) (omega arith) (omega arith)
    (listing_among D n R) (domain_among D R n)

-- What the fold finds is all the runs.
pub listing_all : (D n : ℕ) (R : ℕ → ℕ → ℕ) → AllRuns D n R (listing_of D n R)
listing_all D n R =
    let g = listing_among D n R in
    record { each = g.each; order = g.order; whole = λ d w. g.whole d w (omega arith) }
