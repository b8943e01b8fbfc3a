-- Laws of the numbers that stand for in-degrees: counted at an order from the lanes of a side, members that are counted no longer, the order raised, the
-- badges below the order, and the largest number.
use mathlib.Core.Path.{◌≡◌, refl, sym, ap, ◌∙◌}
use mathlib.Core.List.{List, [], ◌∷◌}
use mathlib.Core.Logic.{by_cases}
use Prim.Native.Nat.{ℕ, ◌+◌, ◌-◌, ◌*◌, ◌/◌, ◌%◌, ◌^◌, ◌≤◌, ◌<◌, max}
use native.Mathlib.Nat.{add-zero}
use native.Mathlib.Decide.{ℕ_discrete, dec_lt}
use native.Mathlib.Omega.{arith}
use lib.ListN.{length, get_or}
use lib.Pow.{pow_pos}
use Rattle.sets.specs.Sets.{bit, In, Sub, difference, full, size}
use Rattle.sets.specs.Words.{word_bits, lower_words, set_words, Words, from_words, to_words, in_word}
use Rattle.sets.specs.Members.{capacity, row_words}
use Rattle.sets.proofs.Sets.{not-in-none, some, in-lt, of-difference, ext}
use Rattle.sets.proofs.Size.{size_none, size-le}
use Rattle.sets.proofs.Blocks.{size-block}
use Rattle.sets.proofs.Words.{words-bit}
use Rattle.sets.proofs.InWord.{in-word, of_word, own-word-lt, own-word-bit, own-word-sub, from-first-word, from-word-sub, from-next-word, from-last-word}
use Rattle.sets.proofs.Pairs.{two-words}
use Rattle.sets.proofs.Places.{set-at-bit}
use Rattle.planes.specs.Lanes.{lane, planes_of, lower_planes, half, Plus, Constant, Complement, LargestLane}
use Rattle.planes.proofs.Lanes.{plus-sum, constant-each, in_top, of-top, every_in}
use Rattle.cores.specs.Rows.{graph}
use Rattle.innermost.specs.declared.lanes.Degrees.{Degrees}
use Rattle.innermost.specs.Columns.{transposed, in_degree}
use Rattle.innermost.specs.Counting.{row_word, AddsTo, AddsSide, CountingSide}
use Rattle.innermost.specs.Degrees.{side_of, number_of, Counting, Raised, Reached, LargestOf}
use Rattle.innermost.proofs.Columns.{in-transposed, of-transposed, in-degree-le, in-degree-split, in-degree-none}

-- as many badges are in a word wherever it stands in a set
size-in-word : (i w : ℕ) → size (in_word i w) ≡ size w
unfolding in_word
size-in-word i w = ap size (sym (add-zero (w * 2 ^ (i * word_bits)))) ∙ size-block (i * word_bits) w 0 (pow_pos (i * word_bits)) ∙ omega (arith, size_none)

-- Lane v of a side counts badge v of the side's word: in the rows of the badges of word i, its in-degree is in the words of the side.
module _ (rows : List ℕ) (fit : Words rows) (long : length rows ≡ row_words) (i side v : ℕ) (f : i < set_words) (s : side < set_words) (l : v < word_bits) where
  row-bit : (u : ℕ) → u < word_bits → bit (graph rows (i * word_bits + u)) (side * word_bits + v) ≡ bit (row_word rows (i * word_bits) side u) v
  row-bit u h =
      let q : (side * word_bits + v) / word_bits ≡ side = omega arith in
      let r : (side * word_bits + v) % word_bits ≡ v = omega arith in
      rw (q, r) at (set-at-bit rows (i * word_bits + u) (side * word_bits + v) fit (omega arith) (omega arith))

  side-degree : (word : ℕ) → word < 2 ^ word_bits → in_degree (graph rows) (in_word i word) (side * word_bits + v) ≡ in_degree (row_word rows (i * word_bits) side) word v
  unfolding in_degree
  side-degree word w = ap size (ext _ _ there back) ∙ size-in-word i (transposed (row_word rows (i * word_bits) side) word v)
    where
      there : (u : ℕ) → In (transposed (graph rows) (in_word i word) (side * word_bits + v)) u → In (in_word i (transposed (row_word rows (i * word_bits) side) word v)) u
      there u h =
          let r = of-transposed (graph rows) (in_word i word) u (side * word_bits + v) h in
          let m = of_word i word u r.0 in
          let e : u ≡ i * word_bits + (u - i * word_bits) = omega (arith, m.0) in
          let j : In (graph rows (i * word_bits + (u - i * word_bits))) (side * word_bits + v) = rw e at r.1 in
          let k = in-transposed (row_word rows (i * word_bits) side) word (u - i * word_bits) v m.1 (sym (row-bit (u - i * word_bits) (in-lt word_bits word (u - i * word_bits) w m.1)) ∙ j) in
          rw e (in-word i (transposed (row_word rows (i * word_bits) side) word v) (u - i * word_bits) k)

      back : (u : ℕ) → In (in_word i (transposed (row_word rows (i * word_bits) side) word v)) u → In (transposed (graph rows) (in_word i word) (side * word_bits + v)) u
      back u h =
          let m = of_word i (transposed (row_word rows (i * word_bits) side) word v) u h in
          let e : u ≡ i * word_bits + (u - i * word_bits) = omega (arith, m.0) in
          let r = of-transposed (row_word rows (i * word_bits) side) word (u - i * word_bits) v m.1 in
          let j : In (graph rows (i * word_bits + (u - i * word_bits))) (side * word_bits + v) = row-bit (u - i * word_bits) (in-lt word_bits word (u - i * word_bits) w r.0) ∙ r.1 in
          rw e (in-transposed (graph rows) (in_word i word) (i * word_bits + (u - i * word_bits)) (side * word_bits + v) (in-word i word (u - i * word_bits) r.0) j)

-- The rows of the members of s are added, but for those from word i on.
pub record AddingWords (rows : ℕ → ℕ) (s side i : ℕ) (ps qs : List ℕ) : Type 0 where
  pub each : (v : ℕ) → v < word_bits → lane ps v + in_degree rows s (side * word_bits + v) < 2 * half
      → lane qs v + in_degree rows (difference s (full (i * word_bits))) (side * word_bits + v) ≡ lane ps v + in_degree rows s (side * word_bits + v)

module _ {s : ℕ} (w : s < 2 ^ capacity) {side : ℕ} where
  pub words-none : {rows : ℕ → ℕ} (ps : List ℕ) → AddingWords rows s side 0 ps ps
  words-none {rows} ps = record { each = λ v l m. ap (λ (x : ℕ). lane ps v + in_degree rows x (side * word_bits + v)) (from-first-word s w) }

  pub words_more : {rows : List ℕ} {i word : ℕ} {ps qs rs : List ℕ} → Words rows → length rows ≡ row_words → side < set_words → AddingWords (graph rows) s side i ps qs → i < set_words
      → 2 ^ length qs ≡ 2 * half → word ≡ get_or (to_words lower_words s) i 0 → AddsTo (in_degree (row_word rows (i * word_bits) side) word) qs rs → AddingWords (graph rows) s side (i + 1) ps rs
  words_more {rows} {i} {word} fit long a h k f e p = record {
    each = λ v l m.
        let was = h.each v l m in
        let part = in-degree-split (graph rows) (difference s (full (i * word_bits))) (in_word i word) (side * word_bits + v) (rw e (from-word-sub s w i)) in
        let next : difference (difference s (full (i * word_bits))) (in_word i word) ≡ difference s (full ((i + 1) * word_bits)) = rw e (from-next-word s w i) in
        let rest = ap (λ (x : ℕ). in_degree (graph rows) x (side * word_bits + v)) next in
        let here = side-degree rows fit long i side v k a l word (rw e (own-word-lt s w i)) in
        let sum = p.sum v (omega arith) in
        omega arith;
  }

  pub words-done : {rows : ℕ → ℕ} {i : ℕ} {ps qs : List ℕ} → AddingWords rows s side i ps qs → i ≡ set_words → AddsSide (in_degree rows s) side ps qs
  words-done {rows} {i} h e = record {
    each = λ v l m.
        let c : i * word_bits ≡ capacity = omega arith in
        let z : difference s (full (i * word_bits)) ≡ 0 = rw c (from-last-word s w) in
        let none = ap (λ (x : ℕ). in_degree rows x (side * word_bits + v)) z in
        omega (arith, h.each v l m, none, in-degree-none rows (side * word_bits + v));
  }

-- the complement of the sums counts
pub side-counted : {rows : ℕ → ℕ} {s start k side : ℕ} {ps qs rs : List ℕ} → s < 2 ^ capacity → start + k ≡ half → 1 ≤ k → 2 ^ length ps ≡ 2 * half → 2 ^ length qs ≡ 2 * half
    → Constant start ps → AddsSide (in_degree rows s) side ps qs → Complement qs rs → CountingSide rows s k side rs
side-counted {rows} {s} {side = side} w e l f g c p n = record {
  each = λ v m.
      let few = in-degree-le rows s (side * word_bits + v) in
      let small = size-le capacity s w in
      let one = constant-each c v m (omega arith) in
      let two = p.each v m (omega arith) in
      let three = n.sum v m in
      omega arith;
}

-- What holds of the lower side, and of the upper where a set has a badge in its upper word, holds of the side of each member.
by_side : (P : ℕ → Type 0) {s : ℕ} → s < 2 ^ capacity → P 0 → ((get_or (to_words lower_words s) 1 0 ≡ 0 → ⊥) → P 1) → (v : ℕ) → In s v → P (v / word_bits)
by_side P {s} w low high v i = by_cases (ℕ_discrete (v / word_bits) 0)
    (λ e. rw e low)
    (λ f.
    let e : v / word_bits ≡ 1 = omega (arith, in-lt capacity s v w i) in
    rw e (high (λ z. let j = sym (own-word-bit s w v) ∙ i in not-in-none _ (rw (e, z) at j))))

-- a badge by its side and its lane
at_side : (v : ℕ) → v / word_bits * word_bits + v % word_bits ≡ v
at_side v = omega arith

module _ {s : ℕ} (w : s < 2 ^ capacity) (d : Degrees) where
  pub sides-counted : {rows : ℕ → ℕ} {k : ℕ} → CountingSide rows s k 0 (planes_of d.low) → ((get_or (to_words lower_words s) 1 0 ≡ 0 → ⊥) → CountingSide rows s k 1 (planes_of d.high))
      → Counting rows s k (number_of d)
  unfolding number_of
  sides-counted {rows} {k} f g = record {
    each = λ v i.
        let x = (by_side (λ i. CountingSide rows s k i (planes_of (side_of d i))) w f g v i).each (v % word_bits) (omega arith) in
        rw (at_side v) at x;
  }

  -- something is added for the badges of a set
  pub sides-raised : (e : Degrees) {x : ℕ → ℕ} → AddsSide x 0 (planes_of d.low) (planes_of e.low) → ((get_or (to_words lower_words s) 1 0 ≡ 0 → ⊥) → AddsSide x 1 (planes_of d.high) (planes_of e.high))
      → Raised s x (number_of d) (number_of e)
  unfolding number_of
  sides-raised e {x} f g = record {
    sum = λ v i.
        let y = (by_side (λ i. AddsSide x i (planes_of (side_of d i)) (planes_of (side_of e i))) w f g v i).each (v % word_bits) (omega arith) in
        rw (at_side v) at y;
  }

-- 1 for every badge of a side
pub order-raised : {side : ℕ} {ps qs : List ℕ} → 2 ^ length ps ≡ 2 * half → Plus (bit 18446744073709551615) ps qs → AddsSide (λ v. 1) side ps qs
order-raised f p = record { each = λ v l m. let one = every_in v l in let sum = plus-sum p v (omega arith) in omega arith }

-- the last planes have the badges whose number is half or more
module _ (d : Degrees) {s : ℕ} (a : d.low.p7 < 2 ^ word_bits) (b : d.high.p7 < 2 ^ word_bits) (e : s ≡ from_words (d.low.p7 ∷ d.high.p7 ∷ [])) where
  last-plane : (v : ℕ) → v < capacity → bit s v ≡ bit (side_of d (v / word_bits)).p7 (v % word_bits)
  last-plane v l = ap (λ (x : ℕ). bit x v) e ∙ words-bit _ v (two-words a b) ∙ by_cases (ℕ_discrete (v / word_bits) 0)
      (λ f. rw f)
      (λ f. let g : v / word_bits ≡ 1 = omega arith in rw g)

  pub below-is : Reached half (number_of d) s
  unfolding number_of
  below-is = record {
    of = λ v l i. of-top (lower_planes (side_of d (v / word_bits))) (side_of d (v / word_bits)).p7 (v % word_bits) (sym (last-plane v l) ∙ i);
    has = λ v l m. last-plane v l ∙ in_top (lower_planes (side_of d (v / word_bits))) (side_of d (v / word_bits)).p7 (v % word_bits) m;
  }

-- the largest number in the lanes of no badge
pub largest-none : (ps : List ℕ) {s : ℕ} → s ≡ 0 → LargestLane s ps 0
largest-none ps e = record {
  each = λ v i. absurd (not-in-none v (rw e at i));
  attained = λ p. absurd (omega arith);
  none = λ z. refl;
}

-- and of a set: the larger of those of its words
module _ (d : Degrees) {s low high m n r : ℕ} (w : s < 2 ^ capacity) (a : low ≡ get_or (to_words lower_words s) 0 0) (b : high ≡ get_or (to_words lower_words s) 1 0)
    (f : LargestLane low (planes_of d.low) m) (g : LargestLane high (planes_of d.high) n) (e : r ≡ max m n) where
  -- a badge of a word, by its side and its lane
  in_lane : (i u x : ℕ) → In (get_or (to_words lower_words s) i 0) u → lane (planes_of (side_of d i)) u ≡ x → (v : ℕ) × In s v × (number_of d v ≡ x)
  unfolding number_of
  in_lane i u x h k =
      let l = in-lt word_bits _ u (own-word-lt s w i) h in
      let q : (i * word_bits + u) / word_bits ≡ i = omega arith in
      let o : (i * word_bits + u) % word_bits ≡ u = omega arith in
      (i * word_bits + u, (own-word-sub s w i).at _ (in-word i _ u h), rw (q, o) k)

  in-low : 0 < low → (v : ℕ) × In s v × (number_of d v ≡ m)
  in-low p = let x = f.attained p in in_lane 0 x.0 m (rw a at x.1) x.2

  in-high : 0 < high → (v : ℕ) × In s v × (number_of d v ≡ n)
  in-high p = let x = g.attained p in in_lane 1 x.0 n (rw b at x.1) x.2

  each-side : (v : ℕ) → In s v → number_of d v ≤ r
  unfolding number_of
  each-side v i =
      let j = sym (own-word-bit s w v) ∙ i in
      by_cases (ℕ_discrete (v / word_bits) 0)
      (λ z. let k : In low (v % word_bits) = rw a (rw z at j) in rw z (omega (arith, f.each (v % word_bits) k)))
      (λ z.
      let o : v / word_bits ≡ 1 = omega (arith, in-lt capacity s v w i) in
      let k : In high (v % word_bits) = rw b (rw o at j) in
      rw o (omega (arith, g.each (v % word_bits) k)))

  -- a set with no badge in its lower word has one in its upper
  upper : 0 < s → low ≡ 0 → 0 < high
  upper p y = by_cases (dec_lt 0 high) (λ h. h) (λ h.
      let x = some s (λ q. omega arith) in
      let z : high ≡ 0 = omega arith in
      let k = by_side (λ i. get_or (to_words lower_words s) i 0 ≡ 0) w (sym a ∙ y) (λ q. absurd (q (sym b ∙ z))) x.0 x.1 in
      absurd (not-in-none _ (rw k at (sym (own-word-bit s w x.0) ∙ x.1))))

  pub largest-is : LargestOf s (number_of d) r
  largest-is = record {
    each = each-side;
    attained = λ p. by_cases (dec_lt m n)
        (λ l. let q : r ≡ n = omega arith in rw q (in-high (by_cases (dec_lt 0 high) (λ h. h) (λ h. omega (arith, g.none (omega arith))))))
        (λ l. let q : r ≡ m = omega arith in rw q (by_cases (dec_lt 0 low) in-low (λ h.
        let z : low ≡ 0 = omega arith in
        let o : m ≡ n = omega (arith, f.none z) in
        rw o (in-high (upper p z)))));
  }

-- A part of s is counted no longer.
pub counting-less : {rows : ℕ → ℕ} {s t k : ℕ} {a b : ℕ → ℕ} → Counting rows s k a → k ≤ half → Sub t s → Raised (difference s t) (in_degree rows t) a b → Counting rows (difference s t) k b
counting-less {rows} {s} {t} h l c p = record {
  each = λ v i.
      let was = h.each v (of-difference s t v i).0 in
      let part = in-degree-split rows s t v c in
      let sum = p.sum v i (omega arith) in
      omega arith;
}

-- The order rises by 1.
pub counting-raised : {rows : ℕ → ℕ} {s k : ℕ} {a b : ℕ → ℕ} → Counting rows s k a → k < half → Raised s (λ v. 1) a b → Counting rows s (k + 1) b
counting-raised h l p = record {
  each = λ v i.
      let was = h.each v i in
      let sum = p.sum v i (omega arith) in
      omega arith;
}
