-- The walk over what changes in the upper word of a row: laws of its start and of its end.
use mathlib.Core.Path.{◌≡◌, sym, ap, ◌∙◌}
use mathlib.Core.List.{List}
use mathlib.Core.Logic.{by_cases}
use Prim.Native.Nat.{ℕ, ◌+◌, ◌/◌, ◌^◌, ◌≤◌, ◌<◌}
use native.Mathlib.Nat.{lt_of_lt_of_le}
use native.Mathlib.Decide.{ℕ_discrete}
use native.Mathlib.Omega.{arith}
use lib.Bits.{xor_lt, xor_comm}
use lib.ListN.{get_or, length}
use lib.Pow.{pow_mono}
use Rattle.sets.specs.Sets.{bit, In, symmetric_difference}
use Rattle.sets.specs.Words.{word_bits, in_word, to_words, lower_words, set_at}
use Rattle.sets.specs.Members.{capacity, row_words}
use Rattle.sets.proofs.Bits.{bit-lt, bit-xor}
use Rattle.sets.proofs.Sets.{in-lt, sub-lt, symmetric-twice}
use Rattle.sets.proofs.InWord.{word-has, word_of}
use Rattle.days.specs.Days.{IsTick}
use Rattle.checks.specs.Changes.{change_at}
use Rattle.checks.specs.Scan.{SameUpper, Passed}
use Rattle.checks.proofs.Walk.{Walk, walk_none, walk-broken, walk-done}

module _ (tick known : List ℕ) {n u word : ℕ} (few : n ≤ capacity) (l : u < n) (p : Passed n u tick known)
    (e : word ≡ get_or (to_words lower_words (change_at tick known u)) 1 0) where
  change-lt : change_at tick known u < 2 ^ n
  unfolding change_at symmetric_difference
  change-lt = xor_lt n _ _ (p.below u l) (p.rows.within u l)

  -- the walk is over the badges from the second word on that change
  of-upper : (v : ℕ) → In (in_word 1 word) v → (v / word_bits ≡ 1) × In (change_at tick known u) v
  of-upper v i = word_of _ (lt_of_lt_of_le change-lt (pow_mono few)) 1 v (rw e at i)

  in-upper : (v : ℕ) → word_bits ≤ v → In (change_at tick known u) v → In (in_word 1 word) v
  in-upper v m i = rw e (word-has _ (lt_of_lt_of_le change-lt (pow_mono few)) 1 v i (omega (arith, in-lt n _ v change-lt i)))

  -- with these changes the row has the upper badges of the tick's
  same : (v : ℕ) → word_bits ≤ v → bit (in_word 1 word) v ≡ bit (change_at tick known u) v
  same v m = by_cases (ℕ_discrete (bit (change_at tick known u) v) 1)
      (λ i. in-upper v m i ∙ sym i)
      (λ f. by_cases (ℕ_discrete (bit (in_word 1 word) v) 1)
      (λ i. absurd (f (of-upper v i).1))
      (λ g. omega (arith, bit-lt (in_word 1 word) v, bit-lt (change_at tick known u) v)))

  pub row-upper : SameUpper (symmetric_difference (set_at known u) (in_word 1 word)) (set_at tick u)
  unfolding symmetric_difference change_at
  row-upper = record {
    at = λ v m. omega (arith, bit-xor v (set_at known u) (in_word 1 word), same v m, bit-xor v (set_at tick u) (set_at known u), bit-lt (set_at tick u) v, bit-lt (set_at known u) v);
  }

  -- at its start all these changes are unseen
  pub upper-none : Walk n u (symmetric_difference (set_at known u) (in_word 1 word)) (set_at known) (in_word 1 word)
  unfolding symmetric_difference
  upper-none = walk_none p.rows l (xor_lt n _ _ (p.rows.within u l) (sub-lt n _ _ (record { at = λ v i. (of-upper v i).1 }) change-lt))
      (sym (ap (λ (x : ℕ). symmetric_difference x (set_at known u)) (xor_comm (set_at known u) (in_word 1 word)) ∙ symmetric-twice (in_word 1 word) (set_at known u)))

  -- a badge that is unseen and not larger than u breaks the tick
  pub upper-broken : {now : ℕ → ℕ} {unseen : ℕ} → Walk n u (symmetric_difference (set_at known u) (in_word 1 word)) now unseen
      → ((w : ℕ) → w ≤ u → now w ≡ set_at known w) → (v : ℕ) → In unseen v → word_bits ≤ v → v ≤ u → IsTick n (set_at tick) → ⊥
  upper-broken w kept v i m k =
      walk-broken w l (set_at tick) v i k (row-upper.at v m) (λ h. ap (λ (s : ℕ). bit s u) (kept v k) ∙ (p.upper v h).at u (omega arith))

  -- where none is unseen, the row is put in its place
  pub upper-done : {now : ℕ → ℕ} {unseen : ℕ} {next : List ℕ} → Walk n u (symmetric_difference (set_at known u) (in_word 1 word)) now unseen
      → ((w : ℕ) → w ≤ u → now w ≡ set_at known w) → unseen ≡ 0 → length next ≡ row_words → set_at next u ≡ symmetric_difference (set_at known u) (in_word 1 word)
      → ((x : ℕ) → (x ≡ u → ⊥) → set_at next x ≡ now x) → Passed n (u + 1) tick next
  upper-done w kept z long there others = record {
    size = long;
    below = p.below;
    rows = walk-done w l z there others;
    upper = λ x k. by_cases (ℕ_discrete x u)
        (λ f. rw (f, there) row-upper)
        (λ f. rw (others x f, kept x (omega arith)) (p.upper x (omega arith)));
  }

-- where one word holds n badges, no row has upper ones
none-upper : (n s v : ℕ) → n ≤ v → s < 2 ^ n → bit s v ≡ 0
none-upper n s v m h = by_cases (ℕ_discrete (bit s v) 1) (λ i. absurd (omega (arith, in-lt n s v h i))) (λ f. omega (arith, bit-lt s v))

pub narrow-passed : {n : ℕ} {tick known : List ℕ} → n ≤ word_bits → Passed n 0 tick known → Passed n n tick known
narrow-passed {n} few p = record {
  size = p.size;
  below = p.below;
  rows = p.rows;
  upper = λ w l. record { at = λ v m. none-upper n _ v (omega arith) (p.rows.within w l) ∙ sym (none-upper n _ v (omega arith) (p.below w l)) };
}
