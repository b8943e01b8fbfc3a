-- Laws of the walk that finds a circle within one word: what the program works out of words is what the laws of walks name.
use mathlib.Core.Path.{◌≡◌, sym, ap, ap₂, ◌∙◌}
use mathlib.Core.List.{List}
use Prim.Native.Nat.{ℕ, ◌+◌, ◌-◌, ◌*◌, ◌^◌, ◌≤◌, ◌<◌}
use native.Mathlib.Omega.{arith}
use lib.Bits.{bit_and, bit_or, and_le_l, and_le_r, or_lt}
use lib.Count.{count_trailing_zeros}
use lib.ListN.{length, get_or}
use Rattle.sets.specs.Sets.{In, Sub, intersection, union, difference, only, size, smallest}
use Rattle.sets.specs.Members.{capacity, row_words}
use Rattle.sets.specs.Words.{word_bits, set_words, places}
use Rattle.sets.proofs.Sets.{in-intersection, of-intersection-right, none-difference, ext}
use Rattle.sets.proofs.Smallest.{smallest-trailing, smallest-member, without-smallest}
use Rattle.sets.proofs.Blocks.{smallest-low}
use Rattle.sets.proofs.Pairs.{lower-common}
use Rattle.sets.proofs.Places.{set-at-in, at-two}
use Rattle.cores.specs.Rows.{graph}
use Rattle.circles.specs.Circles.{first_circle}
use Rattle.circles.proofs.Walking.{Walks, walk_start, walk_more, walk-less, walk_first, walk-all}

-- a subset as a number is at most the set, and what is left of the set without it is their difference
module _ {s t : ℕ} (h : Sub t s) where
  both : bit_and s t ≡ t
  unfolding intersection
  both = ext _ _ (of-intersection-right s t) (λ v i. in-intersection s t v (h.at v i) i)

  sub-le : t ≤ s
  sub-le = omega (arith, both, and_le_l s t)

  minus-sub : s - t ≡ difference s t
  unfolding difference
  minus-sub = ap (λ (x : ℕ). s - x) (sym both)

-- the walk in a word, with what the program knows of its parts
pub record WordWalks (rows : ℕ → ℕ) (word unreached frontier : ℕ) : Type 0 where
  pub low : unreached < 2 ^ word_bits
  pub few : frontier < 2 ^ word_bits
  pub walks : Walks rows word (smallest capacity word) unreached frontier

-- at first the word's lowest badge is reached, and on the frontier
pub word-start : (rows : ℕ → ℕ) (word : ℕ) → word < 2 ^ word_bits → (word ≡ 0 → ⊥) → WordWalks rows word (bit_and word (word - 1)) (word - bit_and word (word - 1))
word-start rows word l f =
    let w : word ≡ 0 * 2 ^ word_bits + word = omega arith in
    let e : smallest capacity word ≡ smallest word_bits word = ap (smallest capacity) w ∙ smallest-low word_bits word_bits 0 word l f in
    let r : bit_and word (word - 1) ≡ difference word (only (smallest capacity word)) = rw e (without-smallest word_bits word l f) in
    let h = walk_start rows word (smallest capacity word) in
    record {
      low = omega (arith, and_le_l word (word - 1));
      few = omega arith;
      walks = rw (r, minus-sub h.within) h;
    }

-- the circle of no badge is empty
pub no-circle : (rows : ℕ → ℕ) (word : ℕ) → word ≡ 0 → word ≡ first_circle rows word
no-circle rows word e = walk-all (walk_start rows word (smallest capacity word)) (rw e (none-difference _))

-- what a row has in common with a word is in its lower word
pub row-met : (rows : List ℕ) (u w : ℕ) → length rows ≡ row_words → u < word_bits → get_or rows (u * set_words) 0 < 2 ^ word_bits → w < 2 ^ word_bits
    → intersection (graph rows u) w ≡ bit_and (get_or rows (u * set_words) 0) w
row-met rows u w long l fit h =
    let p : u < places rows = omega arith in
    rw (set-at-in rows u p, at-two rows u p) (lower-common (get_or rows (u * set_words) 0) (get_or rows (u * set_words + 1) 0) w fit h)

module _ {rows : ℕ → ℕ} {word unreached frontier : ℕ} (h : WordWalks rows word unreached frontier) where
  -- where nobody is unreached, or nobody is on the frontier, the circle is reached
  pub word-all : unreached ≡ 0 → word ≡ first_circle rows word
  word-all = walk-all h.walks

  pub word_first : frontier ≡ 0 → word - unreached ≡ first_circle rows word
  word_first e = minus-sub h.walks.within ∙ walk_first h.walks e

  pub unreached-le : unreached ≤ word
  unreached-le = sub-le h.walks.within

  module _ (f : frontier ≡ 0 → ⊥) where
    -- the badge at hand
    pub word-at-hand : In frontier (count_trailing_zeros word_bits frontier) × (count_trailing_zeros word_bits frontier < word_bits)
    word-at-hand = rw (smallest-trailing word_bits frontier) at (smallest-member word_bits frontier h.few f)

    -- those in its row that were unreached are reached, and on the frontier
    module _ (row : ℕ) (m : intersection (rows (count_trailing_zeros word_bits frontier)) unreached ≡ bit_and row unreached) where
      left_is : unreached - bit_and row unreached ≡ difference unreached (intersection (rows (count_trailing_zeros word_bits frontier)) unreached)
      unfolding intersection
      left_is = minus-sub (record { at = of-intersection-right row unreached }) ∙ ap (difference unreached) (sym m)

      few-is : bit_or (bit_and frontier (frontier - 1)) (bit_and row unreached) ≡ union (difference frontier (only (count_trailing_zeros word_bits frontier))) (intersection (rows (count_trailing_zeros word_bits frontier)) unreached)
      unfolding union
      few-is = ap₂ bit_or (rw (smallest-trailing word_bits frontier) at (without-smallest word_bits frontier h.few f)) (sym m)

      pub word_more : WordWalks rows word (unreached - bit_and row unreached) (bit_or (bit_and frontier (frontier - 1)) (bit_and row unreached))
      word_more = record {
        low = omega (arith, h.low);
        few = or_lt word_bits (bit_and frontier (frontier - 1)) (bit_and row unreached) (omega (arith, and_le_l frontier (frontier - 1), h.few)) (omega (arith, and_le_r row unreached, h.low));
        walks = rw (left_is, few-is) (walk_more h.walks (count_trailing_zeros word_bits frontier) word-at-hand.0);
      }

      pub word_fewer : size (union (bit_or (bit_and frontier (frontier - 1)) (bit_and row unreached)) (unreached - bit_and row unreached)) < size (union frontier unreached)
      word_fewer = rw (left_is, few-is) (walk-less h.walks (count_trailing_zeros word_bits frontier) word-at-hand.0)
