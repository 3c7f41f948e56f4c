-- Laws of tables and entries by memory words: which entry and which right a word goes by, and what a walker meets in
-- a sound pool.
use Prim.Native.Nat.{ℕ, zero, suc, ◌+◌, ◌*◌, ◌-◌, ◌/◌, ◌%◌, ◌<◌, ◌≤◌}
use native.Mathlib.Omega.{arith}
use native.Mathlib.Nat.{add-zero, add_assoc}
use mathlib.Core.Path.{◌≡◌, refl, sym, ap, ◌∙◌}
use mathlib.Core.Logic.{◌≢◌}
use mathlib.Core.Bool.{true, false}
use mathlib.Core.List.{List}
use lib.ListN.{length}
use borrow.Author.Tests.{lt-ltb, le-ltb}
use Rattle.theory.specs.Pool.{words, step, SoundPool}
use Rattle.theory.proofs.RightLaws.{right_down, right_says}
use Rattle.words.specs.Rights.{right_at}
use Rattle.words.proofs.RightsLaws.{eight_right, sixteen_right, right_small}
use Rattle.table.specs.declared.Shape.{Shape}
use Rattle.table.specs.Shape.{Fits, size}
use Rattle.table.specs.Map.{part, parts, index, leads, form_of}
use Rattle.table.specs.Wants.{words_in}
use Rattle.table.specs.Entries.{level_of, block_words, same_of}
use Rattle.table.proofs.BlockLaws.{first_word, some_bytes, few_parts as parts-few}
use Rattle.census.proofs.ReadableLaws.{Reached, Walkable, sound_readable}
use Rattle.table.specs.declared.geometry.Level.{Level}
use Rattle.listing.specs.Runs.{memory_words}
use Rattle.listing.specs.Sheets.{Sheet, feed, fed}
use Rattle.listing.specs.Levels.{table_words, entry_says, entry_right, table_right}
use Rattle.listing.specs.Levels.{AllSay, EntryAt, TableAt}
use Rattle.listing.proofs.SheetLaws.{feed_leaves, feed_again, fed_alike, fed_same, Along, along_next, room}

-- The numbers of a height.

pub level_leaf : (h : ℕ) → h ≡ 0 → level_of h ≡ record { entries = 64; parts = 16; step = 1; block = 16 }
level_leaf h e = rw e

pub level_middle : (h : ℕ) → h ≡ 1 → level_of h ≡ record { entries = 1024; parts = 8; step = 128; block = 1024 }
level_middle h e = rw e

pub level_root : (h : ℕ) → h ≢ 0 → h ≢ 1 → level_of h
    ≡ record { entries = 1024; parts = 8; step = 131072; block = 1048576 }
level_root zero a b = absurd (a refl)
level_root (suc zero) a b = absurd (b refl)
level_root (suc (suc h)) a b = refl

parts_block : (h : ℕ) → parts h * words_in h ≡ block_words h
parts_block zero = refl
parts_block (suc zero) = refl
parts_block (suc (suc h)) = refl

module _ (h : ℕ) (v : Level) (e : v ≡ level_of h) where
  level_parts : v.parts ≡ parts h
  level_parts = ap (λ x. x.parts) e

  level_step : v.step ≡ words_in h
  level_step = ap (λ x. x.step) e

  level_entries : v.entries ≡ size h
  level_entries = ap (λ x. x.entries) e

  level_block : v.block ≡ block_words h
  level_block = ap (λ x. x.block) e

  -- All parts together are the block, and all blocks the table.
  pub whole_block : v.parts * v.step ≡ block_words h
  whole_block = ap (λ x. x.parts * x.step) e ∙ parts_block h

  pub whole_table : v.entries * v.block ≡ table_words h
  whole_table = ap (λ x. x.entries * x.block) e

  pub some_parts : 0 < v.parts
  some_parts = omega (arith, level_parts, (some_bytes h).1)

  pub few_parts : v.parts ≤ 16
  few_parts = omega (arith, level_parts, parts-few h)

  module _ (i : ℕ) (b : i < v.parts) where
    -- Part `i` lies in the block.
    pub part_room : i * v.step + v.step ≤ block_words h
    part_room = rw whole_block at (room i v.parts v.step b)

block_some : (h : ℕ) → 0 < block_words h
block_some zero = omega arith
block_some (suc zero) = omega arith
block_some (suc (suc h)) = omega arith

table_block : (h : ℕ) → 0 < h → h ≤ 2 → table_words (h - 1) ≡ block_words h
table_block zero lo hi = absurd (omega arith)
table_block (suc zero) lo hi = refl
table_block (suc (suc zero)) lo hi = refl
table_block (suc (suc (suc h))) lo hi = absurd (omega arith)

-- The part of an entry, and the entry of a table, by which a word goes.

part_at : (h a i j : ℕ) → a % block_words h ≡ 0 → i < parts h → a + i * words_in h ≤ j → j < a + i * words_in h + words_in h
    → 4 * j / part h % parts h ≡ i
part_at zero a i j e b lo hi = omega arith
part_at (suc zero) a i j e b lo hi = omega arith
part_at (suc (suc h)) a i j e b lo hi = omega arith

index_at : (h a i j : ℕ) → a % table_words h ≡ 0 → i < size h → a + i * block_words h ≤ j
    → j < a + i * block_words h + block_words h
    → index h (4 * j) ≡ i
index_at zero a i j e b lo hi = omega arith
index_at (suc zero) a i j e b lo hi = omega arith
index_at (suc (suc h)) a i j e b lo hi = omega arith

-- An entry that says one right for its whole block.
same_said : (h w j : ℕ) → w ≡ same_of h (right_at w 0) → entry_says h w j ≡ right_at w 0
same_said zero w j e = ap (λ v. right_at v (4 * j / 4 % 16)) e ∙ sixteen_right (right_at w 0) (4 * j / 4 % 16)
    (right_small w 0) (omega arith)
same_said (suc h) w j e =
    ap (λ v. right_at v (4 * j / part (suc h) % 8)) e ∙ eight_right (right_at w 0) (4 * j / part (suc h) % 8)
    (right_small w 0) (omega arith)

-- Its first right, and that it leads nowhere.
same_first : (h w q : ℕ) → w ≡ same_of h q → q < 4 → right_at w 0 ≡ q
same_first zero w q e b = ap (λ v. right_at v 0) e ∙ sixteen_right q 0 b (omega arith)
same_first (suc h) w q e b = ap (λ v. right_at v 0) e ∙ eight_right q 0 b (omega arith)

same_stays : (h w q : ℕ) → w ≡ same_of h q → leads h w ≡ false
same_stays zero w q e = refl
same_stays (suc h) w q e = le-ltb w 2147483648 (omega arith)

-- .. is fed at once.
pub same_fed : (h w a : ℕ) (s : Sheet) → w ≡ same_of h (right_at w 0) → fed (block_words h) (entry_says h w) a s
    ≡ feed (right_at w 0) a s
same_fed h w a s e = fed_same (block_words h) (right_at w 0) (entry_says h w) a s (block_some h)
    (λ j lo hi. same_said h w j e)

-- One part of an entry further.
pub part_next : (h w a : ℕ) (v : Level) (s₀ : Sheet) (i : ℕ) (s t : Sheet) → v ≡ level_of h → a % block_words h ≡ 0
    → Along (entry_says h w) v.parts v.step a s₀ i s → i < v.parts → t ≡ feed (right_at w i) (a + i * v.step) s
    → Along (entry_says h w) v.parts v.step a s₀ (i + 1) t
part_next h w a v s₀ i s t e al l b k =
    let en = level_parts h v e in
    let eu = level_step h v e in
    along_next (entry_says h w) (λ j. right_at w i) v.parts v.step a s₀ i s t l b
    (λ j lo hi. ap (right_at w) (sym (part_at h a i j al (rw en at b) (rw eu at lo) (rw eu at hi))))
    (k ∙ sym (fed_same v.step (right_at w i) (λ j. right_at w i) (a + i * v.step) s (rw eu (first_word h))
    (λ j lo hi. refl)))

-- A stretch of parts further: what was fed at its first part is fed at all.
pub stretch_next : (h w a : ℕ) (v : Level) (s₀ : Sheet) (i : ℕ) (s t : Sheet) → v ≡ level_of h → a % block_words h ≡ 0
    → Along (entry_says h w) v.parts v.step a s₀ i s → t ≡ feed (right_at w i) (a + i * v.step) s
    → (n : ℕ) → i + n < v.parts → ((j : ℕ) → i ≤ j → j ≤ i + n → right_at w j ≡ right_at w i)
    → Along (entry_says h w) v.parts v.step a s₀ (i + n + 1) t
stretch_next h w a v s₀ i s t e al l k zero b same =
    rw add-zero (part_next h w a v s₀ i s t e al l (omega arith) k)
stretch_next h w a v s₀ i s t e al l k (suc n) b same =
    let o : i + suc n ≡ i + n + 1 = omega arith in
    let q = same (i + n + 1) (omega arith) (omega arith) in
    rw o (part_next h w a v s₀ (i + n + 1) t t e al
    (stretch_next h w a v s₀ i s t e al l k n (omega arith) (λ j lo hi. same j lo (omega arith))) (omega arith)
    (sym (feed_again (right_at w (i + n + 1)) (a + (i + n + 1) * v.step) t
    (ap (λ x. x.run.right) k ∙ feed_leaves (right_at w i) (a + i * v.step) s ∙ sym q))))

-- An entry that leads is for the words of the table below.
sub_blocks : (h a i : ℕ) → 0 < h → h ≤ 2 → a % block_words h ≡ 0 → a + block_words h ≤ memory_words → i < size (h - 1)
    → ((a + i * block_words (h - 1)) % block_words (h - 1) ≡ 0)
    × (a + i * block_words (h - 1) + block_words (h - 1) ≤ memory_words)
sub_blocks zero a i lo hi e b c = absurd (omega arith)
sub_blocks (suc zero) a i lo hi e b c = (omega arith, omega arith)
sub_blocks (suc (suc zero)) a i lo hi e b c = (omega arith, omega arith)
sub_blocks (suc (suc (suc h))) a i lo hi e b c = absurd (omega arith)

-- Above the leaves an entry leads where bit 31 is clear,
pub word_leads : (h w : ℕ) → 0 < h → w < 2147483648 → leads h w ≡ true
word_leads zero w up b = absurd (omega arith)
word_leads (suc h) w up b = lt-ltb w 2147483648 b

-- and is rights where it is set.
pub word_stays : (h w : ℕ) → 0 < h → 2147483648 ≤ w → leads h w ≡ false
word_stays zero w up b = absurd (omega arith)
word_stays (suc h) w up b = le-ltb w 2147483648 b

module _ (p : List ℕ) (s : Shape) where
  readable : {h k a : ℕ} → EntryAt p s h k a → Walkable p s
  readable x = sound_readable p s x.fits x.sound

  pub entry_low : {h k a : ℕ} → EntryAt p s h k a → h ≤ 2
  entry_low x = (readable x).low x.reached

  pub entry_inside : {h k a : ℕ} → EntryAt p s h k a → k < length p
  entry_inside x = (readable x).inside x.reached

  -- Through an entry that leads the table there is reached,
  reached_down : (h k : ℕ) → Reached p s h k → 0 < h → leads h (words p k) ≡ true → (i : ℕ) → i < size (h - 1)
      → Reached p s (h - 1) (words p k + i)
  reached_down zero k m up l = absurd (omega arith)
  reached_down (suc h) k m up l = let z : suc h - 1 ≡ h = omega arith in rw z (λ i c. step i m l c)

  -- and it gives the table's rights.
  entry_leads : (h k : ℕ) → 0 < h → leads h (words p k) ≡ true → (j : ℕ)
      → entry_right s p h k j ≡ table_right s p (h - 1) (words p k) j
  entry_leads zero k up l j = absurd (omega arith)
  entry_leads (suc h) k up l j =
      let z : suc h - 1 ≡ h = omega arith in
      rw z (right_down (form_of s) (words p) h k (4 * j) l)

  module _ (h k a : ℕ) (x : EntryAt p s h k a) (up : 0 < h) (l : leads h (words p k) ≡ true) where
    -- The table is for the same words,
    pub entry_table : TableAt p s (h - 1) (words p k) a
    entry_table =
        let low = entry_low x in
        record {
          entries = λ i c.
              let (al, ins) = sub_blocks h a i up low x.aligned x.inside c in
              record {
                fits = x.fits;
                sound = x.sound;
                reached = reached_down h k x.reached up l i c;
                aligned = al;
                inside = ins;
              };
          aligned = rw (table_block h up low) x.aligned;
        }

    -- and they are fed by it.
    pub leads_fed : (u : Sheet) → fed (table_words (h - 1)) (table_right s p (h - 1) (words p k)) a u
        ≡ fed (block_words h) (entry_right s p h k) a u
    leads_fed u =
        ap (λ m. fed m (table_right s p (h - 1) (words p k)) a u) (table_block h up (entry_low x))
        ∙ fed_alike (block_words h) (table_right s p (h - 1) (words p k)) (entry_right s p h k) a u
        (λ j lo hi. sym (entry_leads h k up l j))

  -- The words of an entry that does not lead are fed by its rights.
  pub rights_fed : (h k a : ℕ) (u : Sheet) → leads h (words p k) ≡ false
      → fed (block_words h) (entry_says h (words p k)) a u ≡ fed (block_words h) (entry_right s p h k) a u
  rights_fed h k a u l = fed_alike (block_words h) (entry_says h (words p k)) (entry_right s p h k) a u
      (λ j lo hi. sym (right_says (form_of s) (words p) h k (4 * j) l))

  -- One entry of a table further.
  module _ (h b a : ℕ) (x : TableAt p s h b a) (v : Level) (e : v ≡ level_of h) (i : ℕ) (c : i < v.entries) where
    pub entry_at : EntryAt p s h (b + i) (a + i * v.block)
    entry_at = rw (level_block h v e) (x.entries i (rw (level_entries h v e) at c))

    pub entry_room : a + i * v.block + v.block ≤ memory_words
    entry_room = omega (arith, entry_at.inside, level_block h v e)

    pub entry_next : (s₀ u t : Sheet) → Along (table_right s p h b) v.entries v.block a s₀ i u
        → t ≡ fed (block_words h) (entry_right s p h (b + i)) (a + i * v.block) u
        → Along (table_right s p h b) v.entries v.block a s₀ (i + 1) t
    entry_next s₀ u t l k =
        let en = level_entries h v e in
        let eu = level_block h v e in
        along_next (table_right s p h b) (entry_right s p h (b + i)) v.entries v.block a s₀ i u t l c
        (λ j lo hi. ap (λ m. entry_right s p h (b + m) j)
        (sym (index_at h a i j x.aligned (rw en at c) (rw eu at lo) (rw eu at hi))))
        (k ∙ ap (λ m. fed m (entry_right s p h (b + i)) (a + i * v.block) u) (sym eu))

  -- An entry that says the open run's right feeds nothing,
  same_none : (h k a q : ℕ) (u : Sheet) → words p k ≡ same_of h q → q < 4 → u.run.right ≡ q
      → fed (block_words h) (entry_right s p h k) a u ≡ u
  same_none h k a q u e b r =
      let w = words p k in
      let f = same_first h w q e b in
      sym (rights_fed h k a u (same_stays h w q e))
      ∙ same_fed h w a u (e ∙ ap (same_of h) (sym f))
      ∙ feed_again (right_at w 0) a u (r ∙ sym f)

  -- nor do `n` such entries of a table.
  module _ (h b a : ℕ) (x : TableAt p s h b a) (v : Level) (e : v ≡ level_of h) (q i : ℕ) (s₀ u : Sheet) where
    pub same_next : (n : ℕ) → i + n ≤ v.entries → AllSay p h (b + i) n q → u.run.right ≡ q
        → Along (table_right s p h b) v.entries v.block a s₀ i u
        → Along (table_right s p h b) v.entries v.block a s₀ (i + n) u
    same_next zero c f r l = rw add-zero l
    same_next (suc n) c f r l =
        let o : i + suc n ≡ i + n + 1 = omega arith in
        let d : i + n < v.entries = omega arith in
        let (w, m) = f n (omega arith) in
        rw o (entry_next h b a x v e (i + n) d s₀ u u (same_next n (omega arith) (λ j y. f j (omega arith)) r l)
        (sym (same_none h (b + (i + n)) (a + (i + n) * v.block) q u (rw add_assoc at w) m r)))

  -- The root of a domain is a table for the whole memory.
  pub root_table : (d : ℕ) → Fits s (length p) → SoundPool (form_of s) (words p) → d < s.domains
      → TableAt p s 2 (1024 * d) 0
  root_table d f o b =
      let r = sound_readable p s f o in
      record {
        entries = λ i c. record {
          fits = f;
          sound = o;
          reached = r.root d i b c;
          aligned = omega arith;
          inside =
              omega arith;
        };
        aligned = refl;
      }
