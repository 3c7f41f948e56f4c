-- The words of the tables at the ends of the region: what the plan makes of them is the finished pool's word.
use Prim.Native.Nat.{ℕ, zero, suc, ◌+◌, ◌*◌, ◌-◌, ◌/◌, ◌%◌, ◌<◌}
use mathlib.Core.Path.{◌≡◌, refl, sym, ap, ◌∙◌}
use mathlib.Core.Logic.{◌⊎◌, inl, inr, ⊎_elim}
use mathlib.Core.Bool.{Bool, true, false, cond}
use native.Mathlib.Omega.{arith}
use Rattle.theory.specs.Form.{Form}
use Rattle.theory.specs.Pool.{right_of}
use Rattle.theory.proofs.Logic.{by_cases}
use Rattle.theory.proofs.SettledLaws.{says_at}
use Rattle.words.specs.Rights.{right_at, eight_of}
use Rattle.words.specs.Region.{covered}
use Rattle.words.proofs.RightsLaws.{right_small, sixteen_right}
use Rattle.table.specs.declared.Shape.{Shape}
use Rattle.table.specs.Map.{addresses, leads, form_of}
use Rattle.table.specs.Wants.{said_of}
use Rattle.table.proofs.BlockLaws.{block_together}
use Rattle.table.proofs.FormLaws.{lawful}
use Rattle.table.proofs.WantLaws.{wants_says, wants_leaf}
use Rattle.places.specs.Count.{blocks, domain_of, address_of}
use Rattle.places.specs.Final.{old, entry_word, table_word, final}
use Rattle.places.proofs.NumberLaws.{number_is}
use Rattle.places.proofs.FinalWordLaws.{InPlace, final_place, place_owned}
use Rattle.places.proofs.ChangedLaws.{changed_uncovered}
use Rattle.targets.specs.declared.Paint.{Paint}
use Rattle.targets.specs.Paints.{region}
use Rattle.targets.specs.Targets.{painted, virtual_of}
use Rattle.plan.specs.Planning.{first_of, last_of}
use Rattle.plan.specs.declared.Edge.{Edge}
use Rattle.plan.specs.Plan.{Plan, ends_of, of_table, painted_leaf, entry_after, entry_before, table_after}
use Rattle.plan.specs.Aims.{aim_of, aimed_at}
use Rattle.plan.proofs.AimLaws.{aims_covered}
use Rattle.plan.specs.Edges.{EdgeIs, Edges}
use Rattle.plan.proofs.Setting.{Setting}
use Rattle.plan.proofs.BlockRightsLaws.{said_near}
use Rattle.plan.proofs.MeetLaws.{RightsStay, Plain, chosen, apart_stays, between_plain}
use Rattle.plan.proofs.OldEntryLaws.{old_says}
use Rattle.plan.proofs.SettingLaws.{aims_rights, plain_entry}
use Rattle.plan.proofs.StayWordLaws.{place_visits, middle_stays}
use Rattle.plan.proofs.EdgeLaws.{in_range_lem, edge_old, table_place}

-- The right of a block's entry that stands for a page.
part_page : (y m : ℕ) → y / 4096 ≡ m → y / 524288 % 8 ≡ m / 128 % 8
part_page y m e = omega arith

block_page : (y n j : ℕ) → j < 1024 → y / 4096 ≡ 1024 * n + j → y / 4194304 ≡ n
block_page y n j b e = omega arith

-- A word that holds its old value or its finished one, where the two are the same.
pub settle : {x u v : ℕ} → v ≡ u → (x ≡ u) ⊎ (x ≡ v) → x ≡ v
settle e (inl p) = p ∙ sym e
settle e (inr p) = p

module _ {s : Shape} {d : ℕ} {paint : Paint} {P : ℕ → ℕ} {owner : ℕ → ℕ → ℕ} {free : ℕ → ℕ → Bool}
    (c : Setting s d paint P owner free) where
  abbrev D : ℕ
  D = s.domains

  abbrev F : Form
  F = form_of s

  abbrev R : ℕ → ℕ → ℕ
  R = right_of (form_of s) P

  abbrev T : ℕ → ℕ → ℕ
  T = aimed_at s (aim_of d paint) P

  abbrev Q : ℕ → ℕ
  Q = final s owner T P

  -- A word of a place that has an owner.
  pub owned_word : (k h p j : ℕ) → InPlace s k h p j → owner h p < blocks h * D
      → Q k ≡ table_word s owner T P h (owner h p) j
  owned_word k h p j x b = final_place s owner T P k h p j x ∙ place_owned s owner T P h k p j _
      x.1 refl b

  -- A leaf entry, painted, is the finished one: where it gives the old rights of its 64 bytes, or the finished ones.
  painted_aims : (X : ℕ → ℕ) (b : ℕ) → (X b ≡ R d b) ⊎ (X b ≡ T d b) → painted paint X b ≡ T d b
  unfolding painted
  painted_aims X b e = by_cases (covered (region paint) b)
      (λ v. ap (λ t. cond t paint.right (X b)) v ∙ sym (aims_covered s d paint P d b (refl, v)))
      (λ v.
      let y = changed_uncovered R d (region paint) paint.right d b v in
      ap (λ t. cond t paint.right (X b)) v ∙ ⊎_elim (λ z. z ∙ sym y) (λ z. z) e)

  leaf_painted : (o n j w : ℕ) → o ≡ 1048576 * d + n → n < 1048576 → j < 64
      → ((b : ℕ) → b < addresses → b / 64 ≡ 64 * n + j → (right_at w (b / 4 % 16) ≡ R d b)
      ⊎ (right_at w (b / 4 % 16) ≡ T d b))
      → painted_leaf paint w (64 * n + j) ≡ table_word s owner T P 0 o j
  leaf_painted o n j w q bn bj f =
      let x : domain_of 0 o ≡ d = omega arith in
      let y : address_of 0 o + 64 * j ≡ (64 * n + j) * 64 = omega arith in
      said_near (painted paint (λ a. right_at w (a / 4 % 16))) (T d) 0 ((64 * n + j) * 64) (omega arith)
      (λ b bb z. painted_aims (λ a. right_at w (a / 4 % 16)) b (f b bb (omega arith)))
      ∙ sym (ap (λ u. said_of (T u) 0 (address_of 0 o + 64 * j)) x ∙ ap (λ u. said_of (T d) 0 u) y)

  -- Entry `j` of the leaf of page `n`, at place `p`: what it held gave the old rights of its 64 bytes, and the
  -- finished word gives theirs.
  module _ (n : ℕ) (bn : n < 1048576) (g : Edge) (G : EdgeIs s d paint P owner 0 n g) (k p j : ℕ)
      (ip : InPlace s k 0 p j)
      (o : owner 0 p ≡ 1048576 * d + n) where
    abbrev e : ℕ
    e = domain_of 0 (owner 0 p)

    abbrev a : ℕ
    a = address_of 0 (owner 0 p) + 64 * j

    bound : owner 0 p < 1048576 * D
    bound = rw o (in_range_lem c 0 n (omega arith) bn)

    own_domain : e ≡ d
    own_domain = omega arith

    together : (b : ℕ) → b / 64 ≡ 64 * n + j → a / 64 ≡ b / 64
    together b y = omega arith

    old_leaf : (b : ℕ) → b < addresses → b / 64 ≡ 64 * n + j → leads 1 g.old ≡ true → right_at (P k) (b / 4 % 16)
        ≡ R d b
    old_leaf b bb y l =
        (says_at F (lawful s) P c.settled.sound e a 0 k (omega arith)
        (place_visits c k 0 p j ip bound (ap (old P 0) o ∙ sym (edge_old c 0 n (omega arith) bn g G) ∙ l)) refl
        ).each b bb (block_together s 0 a b (together b y))
        ∙ ap (λ u. R u b) own_domain

    finished_leaf : (b : ℕ) → b < addresses → b / 64 ≡ 64 * n + j → right_at (Q k) (b / 4 % 16) ≡ T d b
    finished_leaf b bb y =
        ap (λ u. right_at u (b / 4 % 16)) (owned_word k 0 p j ip bound)
        ∙ (wants_says s (T e) 0 a (aims_rights c e) (omega arith) (omega arith) (wants_leaf (T e) a)).each b bb
        (block_together s 0 a b (together b y))
        ∙ ap (λ u. T u b) own_domain

    -- A page without a leaf: its entry gave one right to each 512 bytes.
    new_leaf : (b : ℕ) → b < addresses → b / 64 ≡ 64 * n + j → leads 1 g.old ≡ false
        → right_at (virtual_of 0 g.old (64 * n + j)) (b / 4 % 16) ≡ R d b
    new_leaf b bb y l =
        let z : b / 512 % 8 ≡ (64 * n + j) / 8 % 8 = omega arith in
        sixteen_right (right_at g.old ((64 * n + j) / 8 % 8)) (b / 4 % 16)
        (right_small g.old ((64 * n + j) / 8 % 8)) (omega arith)
        ∙ sym (old_says s P d 0 n b (omega arith) bb (omega arith) (ap (leads 1) (sym G.old) ∙ l)
        ∙ ap (λ u. right_at u (b / 512 % 8)) (sym G.old) ∙ ap (right_at g.old) z)

    -- So the entry that the plan paints gives the old rights, or the finished ones.
    leaf_before : (x : ℕ) → (x ≡ P k) ⊎ (x ≡ Q k) → (b : ℕ) → b < addresses → b / 64 ≡ 64 * n + j
        → (right_at (cond (leads 1 g.old) x (virtual_of 0 g.old (64 * n + j))) (b / 4 % 16) ≡ R d b)
        ⊎ (right_at (cond (leads 1 g.old) x (virtual_of 0 g.old (64 * n + j))) (b / 4 % 16) ≡ T d b)
    leaf_before x v b bb y = by_cases (leads 1 g.old)
        (λ l.
        let w = ap (λ t. right_at (cond t x (virtual_of 0 g.old (64 * n + j))) (b / 4 % 16)) l in
        ⊎_elim
        (λ z. inl (w ∙ ap (λ u. right_at u (b / 4 % 16)) z ∙ old_leaf b bb y l))
        (λ z. inr (w ∙ ap (λ u. right_at u (b / 4 % 16)) z ∙ finished_leaf b bb y))
        v)
        (λ l. inl (ap (λ t. right_at (cond t x (virtual_of 0 g.old (64 * n + j))) (b / 4 % 16)) l
        ∙ new_leaf b bb y l))

    leaf_at : (q : Plan) → Edges s d paint P owner q → (x : ℕ) → (x ≡ P k) ⊎ (x ≡ Q k) → table_after q 0 g j x ≡ Q k
    leaf_at q E x v =
        ap (λ u. painted_leaf u (entry_before 0 g.old (64 * g.number + j) x) (64 * g.number + j)) E.for_paint
        ∙ ap (λ u. painted_leaf paint (entry_before 0 g.old (64 * u + j) x) (64 * u + j)) G.number
        ∙ leaf_painted (owner 0 p) n j (entry_before 0 g.old (64 * n + j) x) o bn ip.2 (leaf_before x v)
        ∙ sym (owned_word k 0 p j ip bound)

  -- An entry above the leaves: that of block `i`, which has the number `n` in the domain.
  module _ (q : Plan) (E : Edges s d paint P owner q) (h i n : ℕ) (hi : h < 2) (bi : i < blocks h * D)
      (own : domain_of h i ≡ d) (is-n : i % blocks h ≡ n) where
    at_end : (t : ℕ) → n ≡ t → blocks h * d + t ≡ i
    at_end t e = sym (number_is h d i t hi own (is-n ∙ e))

    pub entry_at : (x : ℕ) → (RightsStay s d paint P h i → x ≡ entry_word s owner T P h i)
        → entry_after q (suc h) n x ≡ entry_word s owner T P h i
    entry_at x stays =
        let ends = E.ends h hi in
        let f = ends.first.number in
        let l = ends.last.number in
        chosen n (ends_of q h).first.number (ends_of q h).last.number
        (λ g. ends.first.last ∙ ap (entry_word s owner T P h) (at_end (first_of h paint) (g ∙ f)))
        (λ g. ends.last.last ∙ ap (entry_word s owner T P h) (at_end (last_of h paint) (g ∙ l)))
        (λ g u. ap (λ v. eight_of v.right) E.for_paint
        ∙ sym (plain_entry c h i hi bi paint.right
        (between_plain s d paint P h i n hi own is-n (rw f at g) (rw l at u))))
        (λ g u v. stays (apart_stays s d paint P h i n hi is-n (λ t. g (t ∙ sym f)) (λ t. u (t ∙ sym l))
        (λ y z. v (rw f y) (rw l z))))

  -- Entry `j` of the middle table of block `n`, at place `p`, is the entry of page `1024 * n + j`.
  module _ (n : ℕ) (bn : n < 1024) (b : Edge) (B : EdgeIs s d paint P owner 1 n b) (k p j : ℕ)
      (ip : InPlace s k 1 p j)
      (o : owner 1 p ≡ 1024 * d + n) where
    abbrev i : ℕ
    i = 1024 * owner 1 p + j

    abbrev m : ℕ
    m = 1024 * b.number + j

    in_block : owner 1 p < 1024 * D
    in_block = rw o (in_range_lem c 1 n (omega arith) bn)

    page_below : i < 1048576 * D
    page_below = let z = in_block in omega arith

    page_domain : domain_of 0 i ≡ d
    page_domain = omega arith

    page_number : i % 1048576 ≡ m
    page_number = omega arith

    -- A page whose rights stay keeps its entry, or gets the eight rights that stood for it.
    page_outside : RightsStay s d paint P 0 i → (x : ℕ) → (x ≡ P k) ⊎ (x ≡ Q k)
        → cond (leads 2 b.old) x (virtual_of 1 b.old m) ≡ Q k
    page_outside st x v = by_cases (leads 2 b.old)
        (λ l. ap (λ t. cond t x (virtual_of 1 b.old m)) l
        ∙ settle (owned_word k 1 p j ip in_block ∙ middle_stays c k p j ip in_block
        (ap (old P 1) o ∙ sym (edge_old c 1 n (omega arith) bn b B) ∙ l) st) v)
        (λ l. ap (λ t. cond t x (virtual_of 1 b.old m)) l
        ∙ sym (owned_word k 1 p j ip in_block ∙ plain_entry c 0 i (omega arith) page_below
        (right_at b.old (m / 128 % 8)) (stood l)))
      where
        stood : leads 2 b.old ≡ false → Plain s d paint P 0 i (right_at b.old (m / 128 % 8))
        stood l y by e =
            let z : y / 524288 % 8 ≡ m / 128 % 8 = part_page y m (e ∙ page_number) in
            st y by e ∙ ap (λ u. R u y) page_domain
            ∙ old_says s P d 1 n y (omega arith) by
            (block_page y n j ip.2 (e ∙ page_number ∙ ap (λ u. 1024 * u + j) B.number))
            (ap (leads 2) (sym B.old) ∙ l)
            ∙ ap (λ u. right_at u (y / 524288 % 8)) (sym B.old) ∙ ap (right_at b.old) z

    page_at : (q : Plan) → Edges s d paint P owner q → (x : ℕ) → (x ≡ P k) ⊎ (x ≡ Q k) → table_after q 1 b j x ≡ Q k
    page_at q E x v =
        let e = owned_word k 1 p j ip in_block in
        entry_at q E 0 i m (omega arith) page_below page_domain page_number (entry_before 1 b.old m x)
        (λ st. page_outside st x v ∙ e) ∙ sym e

  -- A word of the table of an edge.
  pub table_word_lem : (q : Plan) → Edges s d paint P owner q → (h n : ℕ) → h < 2 → n < blocks h → (e : Edge)
      → EdgeIs s d paint P owner h n e → (k x : ℕ) → of_table h e k ≡ true → (x ≡ P k) ⊎ (x ≡ Q k)
      → table_after q h e (k - e.last) x ≡ Q k
  table_word_lem q E zero n hi bn e I k x t v =
      let (p, ip, o) = table_place c 0 n hi bn e I k t in
      leaf_at n bn e I k p (k - e.last) ip o q E x v
  table_word_lem q E (suc zero) n hi bn e I k x t v =
      let (p, ip, o) = table_place c 1 n hi bn e I k t in
      page_at n bn e I k p (k - e.last) ip o q E x v
  table_word_lem q E (suc (suc h)) n hi bn e I k x t v = absurd (omega arith)
