-- Laws of a plan before places are given out: the entry of a page is readable and gives the page's rights, and a
-- drafted edge tells what its block wants and had.
use Prim.Native.Nat.{ℕ, zero, suc, ◌+◌, ◌*◌, ◌-◌, ◌/◌, ◌%◌, ◌<◌}
use mathlib.Core.Path.{◌≡◌, refl, sym, subst, ap, ◌∙◌, fun_ext}
use mathlib.Core.Bool.{true, false, cond, ◌&&◌, true≢false}
use mathlib.Core.List.{List}
use native.Mathlib.Omega.{arith}
use lib.ListN.{length}
use borrow.Author.Tests.{eq-eqb}
use Rattle.std.specs.Prelude.{Some, None}
use Rattle.theory.specs.Pool.{words, right_of}
use Rattle.theory.specs.Settled.{Settled}
use Rattle.theory.proofs.Logic.{by_cases}
use Rattle.words.specs.Region.{covered}
use Rattle.table.specs.declared.Shape.{Shape}
use Rattle.table.specs.Shape.{Fits}
use Rattle.table.specs.Map.{addresses, block, leads, form_of}
use Rattle.table.specs.Wants.{wants_of, said_of, WordRights}
use Rattle.table.proofs.WantLaws.{wants_says, pool_rights}
use Rattle.places.specs.Count.{blocks, domain_of, address_of, want}
use Rattle.places.proofs.NumberLaws.{in_domain, in_number}
use Rattle.places.proofs.ChangedLaws.{changed_rights}
use Rattle.targets.specs.declared.Paint.{Paint}
use Rattle.targets.specs.Paints.{region}
use Rattle.targets.specs.Targets.{painted, virtual_of, Gives}
use Rattle.targets.proofs.TargetLaws.{wanted_mixed, unwanted_said}
use Rattle.targets.proofs.PoolLaws.{root_gives, middle_gives, virtual_gives, root_readable}
use Rattle.plan.specs.Aims.{aim_of, aimed_at}
use Rattle.plan.specs.Planning.{Regular, first_of, last_of}
use Rattle.plan.specs.Edges.{entry_at, edge_for, edge_at, ReadableRoot, RootGives}
use Rattle.plan.proofs.Giving.{ends_at, Told, EndsTold}
use Rattle.plan.proofs.MeetLaws.{ends_below}

-- The root words of a sound pool are readable, and give the domain's rights.
pub pool_root : (s : Shape) (p : List ℕ) (d : ℕ) → Fits s (length p) → Settled (form_of s) (words p) → d < s.domains
    → ReadableRoot p d
pool_root s p d f q bd b bb = (let l = f.long in omega arith, root_readable s p f q.sound d b bd bb)

pub pool_gives : (s : Shape) (P : ℕ → ℕ) (d : ℕ) → RootGives P d (right_of (form_of s) P d)
pool_gives s P d b bb = root_gives s P d b bb

-- The entry of a page is a word of the middle table, or stands for its block's entry.
module _ (p : List ℕ) (d n : ℕ) (bn : n < 1048576) where
  abbrev root : ℕ
  root = words p (1024 * d + n / 1024)

  pub entry_led : leads 2 root ≡ true → entry_at (words p) 0 d n ≡ words p (root + n % 1024)
  entry_led l = ap (λ t. cond t (words p (root + n % 1024)) (virtual_of 1 root n)) l

  pub entry_stood : leads 2 root ≡ false → entry_at (words p) 0 d n ≡ virtual_of 1 root n
  entry_stood l = ap (λ t. cond t (words p (root + n % 1024)) (virtual_of 1 root n)) l

  entry_gives : (R : ℕ → ℕ) → RootGives (words p) d R → Gives (words p) 1 (entry_at (words p) 0 d n) n R
  entry_gives R g = by_cases (leads 2 root)
      (λ l.
      let x : n / 1024 * 1024 + n % 1024 ≡ n = omega arith in
      subst (λ e. Gives (words p) 1 e n R) (sym (entry_led l))
      (subst (λ i. Gives (words p) 1 (words p (root + n % 1024)) i R) x
      (middle_gives (words p) R root (n / 1024) (n % 1024) l (omega arith) (g (n / 1024) (omega arith)))))
      (λ l. subst (λ e. Gives (words p) 1 e n R) (sym (entry_stood l))
      (virtual_gives (words p) R root (n / 1024) n l refl (g (n / 1024) (omega arith))))

-- The entry of a block of any height gives the block's rights.
pub old_gives : (p : List ℕ) (h d n : ℕ) → h < 2 → n < blocks h → (R : ℕ → ℕ) → RootGives (words p) d R
    → Gives (words p) (suc h) (entry_at (words p) h d n) n R
old_gives p zero d n hi b R g = entry_gives p d n b R g
old_gives p (suc zero) d n hi b R g = g n b
old_gives p (suc (suc h)) d n hi b R g = absurd (omega arith)

-- A pointer that waits for its place leads.
waits : (x : ℕ) → leads 1 (cond (leads 1 x) x 2147483647) ≡ true
waits x = by_cases (leads 1 x) (λ l. ap (λ t. leads 1 (cond t x 2147483647)) l ∙ l)
    (λ l. ap (λ t. leads 1 (cond t x 2147483647)) l)

module _ (s : Shape) (d : ℕ) (paint : Paint) (P : ℕ → ℕ) (small : paint.right < 4) where
  abbrev T : ℕ → ℕ → ℕ
  T = aimed_at s (aim_of d paint) P

  -- In its domain the change aims at the painted rights.
  abbrev goal : ℕ → ℕ
  goal = painted paint (right_of (form_of s) P d)

  aims_painted : (a : ℕ) → T d a ≡ goal a
  unfolding painted
  aims_painted a = ap (λ t. cond (t && covered (region paint) a) paint.right (right_of (form_of s) P d a))
      (eq-eqb d d refl)

  module _ (h n : ℕ) (hi : h < 2) (bn : n < blocks h) where
    abbrev i : ℕ
    i = blocks h * d + n

    abbrev a : ℕ
    a = n * block (suc h)

    inside : (h : ℕ) → h < 2 → n < blocks h → n * block (suc h) < addresses
    inside zero hi b = omega arith
    inside (suc zero) hi b = omega arith
    inside (suc (suc h)) hi b = absurd (omega arith)

    goal_is : T (domain_of h i) ≡ goal
    goal_is = ap T (in_domain h d n hi bn) ∙ fun_ext aims_painted

    address_is : address_of h i ≡ a
    address_is = ap (λ x. x * block (suc h)) (in_number h d n hi bn)

    want_is : want T h i ≡ wants_of goal (suc h) a
    want_is = ap (λ R. wants_of R (suc h) (address_of h i)) goal_is ∙ ap (λ x. wants_of goal (suc h) x) address_is

    said_is : said_of (T (domain_of h i)) (suc h) (address_of h i) ≡ said_of goal (suc h) a
    said_is = ap (λ R. said_of R (suc h) (address_of h i)) goal_is ∙ ap (λ x. said_of goal (suc h) x) address_is

    goal_rights : WordRights goal
    goal_rights = subst WordRights (fun_ext aims_painted)
        (changed_rights (right_of (form_of s) P) d (region paint) paint.right d small
        (pool_rights s P d))

    rests : wants_of goal (suc h) a ≡ false → leads (suc h) (said_of goal (suc h) a) ≡ false
    rests w = (wants_says s goal (suc h) a goal_rights (omega arith)
        (inside h hi bn) w).rights

    told_mixed : wants_of goal (suc h) a ≡ true → Told s d paint P h n (edge_for n (entry_at P h d n) None)
    told_mixed w = record {
      number = refl;
      old = refl;
      wanted = waits (entry_at P h d n) ∙ sym (want_is ∙ w);
      kept = λ l m. ap (λ t. cond t (entry_at P h d n) 2147483647) l;
      said = λ l. absurd (true≢false (sym (waits (entry_at P h d n)) ∙ l));
    }

    told_said : wants_of goal (suc h) a ≡ false → Told s d paint P h n
        (edge_for n (entry_at P h d n) (Some (said_of goal (suc h) a)))
    told_said w = record {
      number = refl;
      old = refl;
      wanted = rests w ∙ sym (want_is ∙ w);
      kept = λ l m. absurd (true≢false (sym m ∙ rests w));
      said = λ l. sym said_is;
    }

    pub drafted : Told s d paint P h n (edge_at P d paint (right_of (form_of s) P d) h n)
    drafted = by_cases (wants_of goal (suc h) a)
        (λ w. subst (λ t. Told s d paint P h n (edge_for n (entry_at P h d n) t)) (sym (wanted_mixed goal (suc h) a w))
        (told_mixed w))
        (λ w. subst (λ t. Told s d paint P h n (edge_for n (entry_at P h d n) t)) (sym (unwanted_said goal (suc h) a w))
        (told_said w))

pub drafted_ends : (s : Shape) (d : ℕ) (paint : Paint) (P : ℕ → ℕ) → Regular paint → (h : ℕ) → h < 2
    → EndsTold s d paint P h (ends_at P d paint (right_of (form_of s) P d) h)
drafted_ends s d paint P g h hi =
    let (x, y) = ends_below paint g h hi in
    record {
      first_told = drafted s d paint P g.right h (first_of h paint) hi (omega arith);
      last_told = drafted s d paint P g.right h (last_of h paint) hi y;
    }

-- Memory words are counted in the code, bytes in the definitions.
pub words_bytes : (paint : Paint) → Regular paint → (h : ℕ) → h < 2
    → (first_of h paint ≡ paint.lo / (block (suc h) / 4)) × (last_of h paint ≡ (paint.hi - 1) / (block (suc h) / 4))
words_bytes paint g zero hi =
    let x : 4 * paint.lo / 4096 ≡ paint.lo / 1024 = omega arith in
    let y : (4 * paint.hi - 1) / 4096 ≡ (paint.hi - 1) / 1024 = omega arith in
    (x, y)
words_bytes paint g (suc zero) hi =
    let x : 4 * paint.lo / 4194304 ≡ paint.lo / 1048576 = omega arith in
    let y : (4 * paint.hi - 1) / 4194304 ≡ (paint.hi - 1) / 1048576 = omega arith in
    (x, y)
words_bytes paint g (suc (suc h)) hi = absurd (omega arith)
