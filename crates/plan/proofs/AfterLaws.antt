-- What a plan makes of a word, and whether it takes it for a new one, by cases: whatever is right in each case is
-- what it is.
use Prim.Native.Nat.{ℕ, suc, ◌*◌, ◌-◌, ◌<◌}
use mathlib.Core.Path.{◌≡◌, refl}
use mathlib.Core.Bool.{Bool, true, false, cond, ◌&&◌, ◌||◌, not, false≢true, true≢false}
use native.Mathlib.Omega.{arith}
use Rattle.table.specs.Shape.{size}
use Rattle.table.specs.Map.{leads}
use Rattle.places.specs.Count.{heights}
use Rattle.places.proofs.HeightLaws.{each_height}
use Rattle.plan.specs.declared.Edge.{Edge}
use Rattle.plan.specs.Plan.{Plan}
use Rattle.plan.specs.Plan.{ends_of, edge_of, InTable, of_table, of_new, entry_after, table_after, ends_after, after}
use Rattle.plan.specs.Plan.{new_word}

if_test : (t : Bool) {a b z : ℕ} → (t ≡ true → a ≡ z) → (t ≡ false → b ≡ z) → cond t a b ≡ z
if_test true f g = f refl
if_test false f g = g refl

-- What holds of the first edge and of the last holds of each.
pub each_end : (A : Bool → Type 0) → A true → A false → (first : Bool) → A first
each_end A f l true = f
each_end A f l false = l

module _ (q : Plan) (k x z : ℕ) where
  abbrev in_root : Bool
  in_root = InTable (1024 * q.domain) 1024 k

  -- Word `k` is of the table of an edge; of none of a height.
  abbrev Inside : ℕ → Bool → Type 0
  Inside h b = of_table h (edge_of q h b) k ≡ true → table_after q h (edge_of q h b) (k - (edge_of q h b).last) x ≡ z

  abbrev Outside : ℕ → Type 0
  Outside h = (b : Bool) → of_table h (edge_of q h b) k ≡ false

  ends_any : (h y : ℕ) → ((b : Bool) → Inside h b) → (Outside h → y ≡ z) → ends_after q h k x y ≡ z
  ends_any h y tables rest =
      if_test (of_table h (ends_of q h).first k) (tables true)
      (λ f. if_test (of_table h (ends_of q h).last k) (tables false)
      (λ l. rest (each_end (λ b. of_table h (edge_of q h b) k ≡ false) f l)))

  pub after_any : (in_root ≡ true → entry_after q 2 (k - 1024 * q.domain) x ≡ z)
      → ((h : ℕ) → h < heights → (b : Bool) → Inside h b)
      → (in_root ≡ false → ((h : ℕ) → h < heights → Outside h) → x ≡ z)
      → after q k x ≡ z
  unfolding after
  after_any root tables rest =
      if_test in_root root
      (λ a. ends_any 1 (ends_after q 0 k x x) (tables 1 (omega arith))
      (λ m. ends_any 0 x (tables 0 (omega arith)) (λ l. rest a (each_height Outside l m))))

-- A word of an edge's new table is of its table, and the edge had none ..
pub new_in : (h : ℕ) (e : Edge) (k : ℕ) → of_new h e k ≡ true
    → (of_table h e k ≡ true) × (leads (suc h) e.old ≡ false)
new_in h e k = go (leads (suc h) e.last) (leads (suc h) e.old) (InTable e.last (size h) k)
  where
    go : (l o i : Bool) → (l && not o && i) ≡ true → ((l && i) ≡ true) × (o ≡ false)
    go true true i e = absurd (false≢true e)
    go true false i e = (e, refl)
    go false o i e = absurd (false≢true e)

-- .. and the other way round.
pub in_new : (h : ℕ) (e : Edge) (k : ℕ) → of_table h e k ≡ true → leads (suc h) e.old ≡ false → of_new h e k ≡ true
in_new h e k = go (leads (suc h) e.last) (leads (suc h) e.old) (InTable e.last (size h) k)
  where
    go : (l o i : Bool) → (l && i) ≡ true → o ≡ false → (l && not o && i) ≡ true
    go true true i e f = absurd (true≢false f)
    go true false i e f = e
    go false o i e f = absurd (false≢true e)

pub new_any : (q : Plan) (k : ℕ) {z : Bool}
    → ((h : ℕ) → h < heights → (b : Bool) → of_new h (edge_of q h b) k ≡ true → true ≡ z)
    → (((h : ℕ) → h < heights → (b : Bool) → of_new h (edge_of q h b) k ≡ false) → false ≡ z)
    → new_word q k ≡ z
unfolding new_word
new_any q k tables rest =
    go (new 1 true) (new 1 false) (new 0 true) (new 0 false) (tables 1 (omega arith) true)
    (tables 1 (omega arith) false) (tables 0 (omega arith) true) (tables 0 (omega arith) false)
    (λ a b c e. rest (each_height (λ h. (b : Bool) → new h b ≡ false) (each_end (λ b. new 0 b ≡ false) c e)
    (each_end (λ b. new 1 b ≡ false) a b)))
  where
    new : ℕ → Bool → Bool
    new h b = of_new h (edge_of q h b) k

    go : (a b c e : Bool) {z : Bool} → (a ≡ true → true ≡ z) → (b ≡ true → true ≡ z) → (c ≡ true → true ≡ z)
        → (e ≡ true → true ≡ z)
        → (a ≡ false → b ≡ false → c ≡ false → e ≡ false → false ≡ z) → ((a || b) || (c || e)) ≡ z
    go true b c e f g h i j = f refl
    go false true c e f g h i j = g refl
    go false false true e f g h i j = h refl
    go false false false true f g h i j = i refl
    go false false false false f g h i j = j refl refl refl refl
