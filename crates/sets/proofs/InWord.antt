-- Laws of the badges that a word has as one word of a set, and of a walk over them: the badge at hand is the word's lowest, and w & (w - 1) is what is left
-- of the word after its turn. The badges of the words that hold a set are its members.
use mathlib.Core.Path.{◌≡◌, sym, ap, ◌∙◌}
use mathlib.Core.Logic.{by_cases, ◌⊎◌, inl, inr}
use Prim.Native.Nat.{ℕ, ◌+◌, ◌-◌, ◌*◌, ◌/◌, ◌%◌, ◌^◌, ◌≤◌, ◌<◌}
use native.Mathlib.Nat.{add-zero, zero-mul, mul-one, mul_comm}
use native.Mathlib.Decide.{dec_lt, ℕ_discrete}
use native.Mathlib.Omega.{arith}
use lib.Bits.{bit_and}
use lib.Dec.{lit<}
use lib.ListN.{length, get_or, get_or-eq_default}
use lib.Pow.{pow_pos, pow-add}
use Rattle.std.specs.Prelude.{Some}
use Rattle.sets.specs.Sets.{bit, In, Sub, difference, only, set_of, full, smallest, union, TakesSmallest}
use Rattle.sets.specs.Words.{word_bits, in_word, to_words, lower_words}
use Rattle.sets.specs.Members.{capacity}
use Rattle.sets.proofs.Sets.{not-in-none, in-difference, of-difference, difference-none, in-only, of-only, in-lt, in-full, of-full, ext, in-union-left, in-union-right, of-union, sub_refl, sub-lt}
use Rattle.sets.proofs.Smallest.{smallest-member, without-smallest}
use Rattle.sets.proofs.Walks.{unseen-less}
use Rattle.sets.proofs.Blocks.{bit-low, bit_high}
use Rattle.sets.proofs.Words.{words-bit, to-words-words, from-to-words}

-- badge u of the word is badge i * 64 + u of the set
word-bit : (i w u : ℕ) → bit (in_word i w) (i * word_bits + u) ≡ bit w u
unfolding in_word
word-bit i w u =
    ap (λ (x : ℕ). bit x (i * word_bits + u)) (sym (add-zero (w * 2 ^ (i * word_bits)))) ∙ bit_high (i * word_bits) w 0 u (pow_pos (i * word_bits))

pub in-word : (i w u : ℕ) → In w u → In (in_word i w) (i * word_bits + u)
in-word i w u h = word-bit i w u ∙ h

pub of_word : (i w v : ℕ) → In (in_word i w) v → (i * word_bits ≤ v) × In w (v - i * word_bits)
unfolding in_word
of_word i w v h = by_cases (dec_lt v (i * word_bits))
    (λ l. absurd (not-in-none v (sym (ap (λ (x : ℕ). bit x v) (sym (add-zero (w * 2 ^ (i * word_bits)))) ∙ bit-low (i * word_bits) w 0 v l) ∙ h)))
    (λ l.
    let e : i * word_bits + (v - i * word_bits) ≡ v = omega arith in
    let g : In (in_word i w) (i * word_bits + (v - i * word_bits)) = rw e h in
    (omega arith, sym (word-bit i w (v - i * word_bits)) ∙ g))

module _ (i w b : ℕ) (l : w < 2 ^ word_bits) (f : w ≡ 0 → ⊥) (e : b ≡ smallest word_bits w) where
  -- the badge at hand
  pub at-hand : In (in_word i w) (i * word_bits + b) × (b < word_bits)
  at-hand = let m = smallest-member word_bits w l f in rw e (in-word i w _ m.0, m.1)

  -- what is left after its turn
  pub word-rest : in_word i (bit_and w (w - 1)) ≡ difference (in_word i w) (only (i * word_bits + b))
  word-rest = rw (without-smallest word_bits w l f, ← e) (ext _ _
      (λ v h.
      let x = of_word i _ v h in
      let y = of-difference w (only b) _ x.1 in
      let g : i * word_bits + (v - i * word_bits) ≡ v = omega (arith, x.0) in
      let j : In (in_word i w) (i * word_bits + (v - i * word_bits)) = in-word i w _ y.0 in
      in-difference _ _ v (rw g at j) (λ k. y.1 (let z : v - i * word_bits ≡ b = omega (arith, of-only (i * word_bits + b) v k) in rw z (in-only b))))
      (λ v h.
      let x = of-difference (in_word i w) _ v h in
      let y = of_word i w v x.0 in
      let g : i * word_bits + (v - i * word_bits) ≡ v = omega (arith, y.0) in
      let j = in-word i (difference w (only b)) (v - i * word_bits) (in-difference w _ _ y.1 (λ k. x.1 (let z : v ≡ i * word_bits + b = omega (arith, of-only b _ k, y.0) in rw z (in-only _)))) in
      rw g at j))

-- a word without badges has none
pub word_none : (i w : ℕ) → w ≡ 0 → in_word i w ≡ 0
unfolding in_word
word_none i w e = rw e (zero-mul (2 ^ (i * word_bits)))

-- the set of one badge has one bit of one word, and the badges of the first word are those of the word
pub only-word : (i b : ℕ) → in_word i (2 ^ b) ≡ only (i * word_bits + b)
unfolding in_word only
only-word i b = mul_comm (2 ^ b) (2 ^ (i * word_bits)) ∙ sym (pow-add 2 (i * word_bits) b)

pub lowest-word : (w : ℕ) → in_word 0 w ≡ w
unfolding in_word
lowest-word w = mul-one w

-- badge v is of word v / 64
side-of-word : (i w v : ℕ) → w < 2 ^ word_bits → In (in_word i w) v → v / word_bits ≡ i
side-of-word i w v l h =
    let x = of_word i w v h in
    omega (arith, x.0, in-lt word_bits w (v - i * word_bits) l x.1)

-- The words that hold a set: badge v of the set is bit v % 64 of word v / 64.
module _ (s : ℕ) (l : s < 2 ^ capacity) where
  pub own-word-lt : (i : ℕ) → get_or (to_words lower_words s) i 0 < 2 ^ word_bits
  own-word-lt i = by_cases (dec_lt i (length (to_words lower_words s)))
      (λ h. (to-words-words lower_words s l).at i h)
      (λ f. rw (get_or-eq_default (to_words lower_words s) 0 {n = i} (omega arith)) (lit< tt))

  pub own-word-bit : (v : ℕ) → bit s v ≡ bit (get_or (to_words lower_words s) (v / word_bits) 0) (v % word_bits)
  own-word-bit v = ap (λ (x : ℕ). bit x v) (sym (from-to-words lower_words s)) ∙ words-bit (to_words lower_words s) v (to-words-words lower_words s l)

  -- so word i has the badges of the set that stand there
  pub word-has : (i v : ℕ) → In s v → v / word_bits ≡ i → In (in_word i (get_or (to_words lower_words s) i 0)) v
  word-has i v j e =
      let d : i * word_bits + v % word_bits ≡ v = omega arith in
      let m : In (get_or (to_words lower_words s) i 0) (v % word_bits) = rw (← e) (sym (own-word-bit v) ∙ j) in
      let r = in-word i _ (v % word_bits) m in
      rw d at r

  pub word_of : (i v : ℕ) → In (in_word i (get_or (to_words lower_words s) i 0)) v → (v / word_bits ≡ i) × In s v
  word_of i v h =
      let x = of_word i _ v h in
      let q = side-of-word i _ v (own-word-lt i) h in
      let r : v % word_bits ≡ v - i * word_bits = omega arith in
      (q, own-word-bit v ∙ rw (q, r) x.1)

  pub own-word-sub : (i : ℕ) → Sub (in_word i (get_or (to_words lower_words s) i 0)) s
  own-word-sub i = record { at = λ v h. (word_of i v h).1 }

  -- The members from word i on: at first all; those of word i, and then those from the next word on; at last none.
  pub from-first-word : difference s (full (0 * word_bits)) ≡ s
  unfolding full set_of
  from-first-word = difference-none s

  pub from-word-sub : (i : ℕ) → Sub (in_word i (get_or (to_words lower_words s) i 0)) (difference s (full (i * word_bits)))
  from-word-sub i = record { at = λ v h. in-difference s _ v ((own-word-sub i).at v h) (λ k. omega (arith, (of_word i _ v h).0, of-full (i * word_bits) v k)) }

  pub from-next-word : (i : ℕ) → difference (difference s (full (i * word_bits))) (in_word i (get_or (to_words lower_words s) i 0)) ≡ difference s (full ((i + 1) * word_bits))
  from-next-word i = ext _ _
      (λ v h.
      let x = of-difference _ (in_word i _) v h in
      let y = of-difference s _ v x.0 in
      in-difference s _ v y.0 (λ k. by_cases (dec_lt v (i * word_bits))
      (λ m. y.1 (in-full (i * word_bits) v m))
      (λ m.
      let q : v / word_bits ≡ i = omega (arith, of-full ((i + 1) * word_bits) v k) in
      let e : i * word_bits + v % word_bits ≡ v = omega arith in
      let j = in-word i _ (v % word_bits) (rw q at (sym (own-word-bit v) ∙ y.0)) in
      x.1 (rw e at j))))
      (λ v h.
      let x = of-difference s _ v h in
      in-difference _ (in_word i _) v
      (in-difference s _ v x.0 (λ k. x.1 (in-full _ v (omega (arith, of-full (i * word_bits) v k)))))
      (λ k. x.1 (in-full _ v (omega (arith, side-of-word i _ v (own-word-lt i) k)))))

  pub from-last-word : difference s (full capacity) ≡ 0
  from-last-word = ext _ _
      (λ v h. let x = of-difference s _ v h in absurd (x.1 (in-full capacity v (in-lt capacity s v l x.0))))
      (λ v h. absurd (not-in-none v h))

-- On a walk over the members of s, word by word: those unseen at word i while w is left of it.
unfoldable pub unseen_at : ℕ → ℕ → ℕ → ℕ
unseen_at s i w = union (in_word i w) (difference s (full ((i + 1) * word_bits)))

-- at first those from word i on
pub unseen-first : (s i : ℕ) {w : ℕ} → s < 2 ^ capacity → w ≡ get_or (to_words lower_words s) i 0 → difference s (full (i * word_bits)) ≡ unseen_at s i w
unfolding unseen_at
unseen-first s i l e = rw (e, ← from-next-word s l i) (ext _ _
    (λ v h. by_cases (ℕ_discrete (bit (in_word i _) v) 1) (in-union-left _ _ v) (λ f. in-union-right _ _ v (in-difference _ _ v h f)))
    (λ v h. go v (of-union _ _ v h)))
  where
    go : (v : ℕ) → In (in_word i (get_or (to_words lower_words s) i 0)) v ⊎ In (difference (difference s (full (i * word_bits))) (in_word i (get_or (to_words lower_words s) i 0))) v
        → In (difference s (full (i * word_bits))) v
    go v (inl h) = (from-word-sub s l i).at v h
    go v (inr h) = (of-difference _ _ v h).0

-- at last those from the next word on
pub unseen-last : (s i : ℕ) {w : ℕ} → w ≡ 0 → unseen_at s i w ≡ difference s (full ((i + 1) * word_bits))
unfolding unseen_at
unseen-last s i {w} e = rw (word_none i w e) (ext _ _ (λ v h. go v (of-union _ _ v h)) (in-union-right _ _))
  where
    go : (v : ℕ) → In 0 v ⊎ In (difference s (full ((i + 1) * word_bits))) v → In (difference s (full ((i + 1) * word_bits))) v
    go v (inl h) = absurd (not-in-none v h)
    go v (inr h) = h

-- in between the badge at hand is one of them, and the others are left after its turn
module _ (s i w b : ℕ) (l : w < 2 ^ word_bits) (f : w ≡ 0 → ⊥) (e : b ≡ smallest word_bits w) where
  pub unseen-at-hand : In (unseen_at s i w) (i * word_bits + b)
  unfolding unseen_at
  unseen-at-hand = in-union-left _ _ _ (at-hand i w b l f e).0

  pub unseen-rest : unseen_at s i (bit_and w (w - 1)) ≡ difference (unseen_at s i w) (only (i * word_bits + b))
  unfolding unseen_at
  unseen-rest = rw (word-rest i w b l f e) (ext _ _
      (λ v h. there v (of-union _ _ v h))
      (λ v h. let x = of-difference _ (only (i * word_bits + b)) v h in back v x.1 (of-union _ _ v x.0)))
    where
      there : (v : ℕ) → In (difference (in_word i w) (only (i * word_bits + b))) v ⊎ In (difference s (full ((i + 1) * word_bits))) v
          → In (difference (union (in_word i w) (difference s (full ((i + 1) * word_bits)))) (only (i * word_bits + b))) v
      there v (inl h) = let x = of-difference (in_word i w) _ v h in in-difference _ _ v (in-union-left _ _ v x.0) x.1
      there v (inr h) = in-difference _ _ v (in-union-right _ _ v h) (λ k.
          (of-difference s _ v h).1 (in-full _ v (omega (arith, of-only _ v k, (at-hand i w b l f e).1))))

      back : (v : ℕ) → (In (only (i * word_bits + b)) v → ⊥) → In (in_word i w) v ⊎ In (difference s (full ((i + 1) * word_bits))) v
          → In (union (difference (in_word i w) (only (i * word_bits + b))) (difference s (full ((i + 1) * word_bits)))) v
      back v k (inl h) = in-union-left _ _ v (in-difference (in_word i w) _ v h k)
      back v k (inr h) = in-union-right _ _ v h

-- a turn of a walk over w that takes its smallest badge: fewer badges are left after it, and the word has no other
pub word-fewer : (w b : ℕ) {rest : ℕ} → TakesSmallest word_bits w (Some b) rest → w < 2 ^ word_bits → rest < 2 ^ word_bits
word-fewer w b t l = rw t.2 (sub-lt word_bits _ w (unseen-less b (sub_refl w)) l)

-- the badge is one of those unseen, and the others are left
pub unseen-taken : (s i w b : ℕ) {rest : ℕ} → w < 2 ^ word_bits → TakesSmallest word_bits w (Some b) rest
    → In (unseen_at s i w) (i * word_bits + b) × (unseen_at s i rest ≡ difference (unseen_at s i w) (only (i * word_bits + b)))
unseen-taken s i w b {rest} l t =
    let f : w ≡ 0 → ⊥ = λ e. omega arith in
    let r : rest ≡ bit_and w (w - 1) = t.2 ∙ ap (λ (u : ℕ). difference w (only u)) t.1 ∙ sym (without-smallest word_bits w l f) in
    (unseen-at-hand s i w b l f t.1, ap (unseen_at s i) r ∙ unseen-rest s i w b l f t.1)
