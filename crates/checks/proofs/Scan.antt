-- Laws of the search through the ticks of a day: what changes from rows that are a tick's to those of the tick at hand tells whether it can be one of a day.
use mathlib.Core.Path.{◌≡◌, sym, ap, ◌∙◌}
use mathlib.Core.Bool.{false}
use mathlib.Core.List.{List}
use mathlib.Core.Logic.{by_cases}
use Prim.Native.Nat.{ℕ, ◌^◌, ◌<◌, zero-le}
use native.Mathlib.Decide.{dec_lt}
use native.Mathlib.Omega.{arith}
use lib.Bits.{xor_lt, xor_comm, xor_zero_r}
use lib.ListN.{get_or}
use Rattle.sets.specs.Sets.{Sub, symmetric_difference, only, full}
use Rattle.sets.specs.Words.{word_bits, to_words, lower_words, set_at}
use Rattle.sets.proofs.Bools.{to-false}
use Rattle.sets.proofs.Bits.{bit-xor}
use Rattle.sets.proofs.Sets.{in-lt, lt-of-members, sub-lt, sub-antisym, none-sub, in-full, full-lt, symmetric-twice}
use Rattle.days.specs.Days.{neighbours, IsTick, is_day}
use Rattle.days.proofs.Scan.{day-of}
use Rattle.checks.specs.Changes.{change_at, UnionOver}
use Rattle.checks.specs.Scan.{SameUpper}
use Rattle.checks.proofs.Toggled.{toggled-other}

-- one tick whose words are not a tick's makes the test of the day fail
pub day-broken : (n T : ℕ) (ws : List ℕ) (t : ℕ) → t < T → (IsTick n (neighbours n ws t) → ⊥) → is_day n T ws ≡ false
day-broken n T ws t h f = to-false _ (λ e. f ((day-of n T ws e).tick t h))

-- a row is the known one with what changes in it; where nothing does, it is the known one
pub row-changed : (tick known : List ℕ) (u : ℕ) → symmetric_difference (set_at known u) (change_at tick known u) ≡ set_at tick u
unfolding change_at symmetric_difference
row-changed tick known u = xor_comm (set_at known u) _ ∙ symmetric-twice (set_at tick u) (set_at known u)

pub row_same : (tick known : List ℕ) (u : ℕ) → change_at tick known u ≡ 0 → set_at known u ≡ set_at tick u
unfolding symmetric_difference
row_same tick known u e = sym (xor_zero_r (set_at known u)) ∙ ap (symmetric_difference (set_at known u)) (sym e) ∙ row-changed tick known u

-- where the upper badges of a row are the same, the lowest word has all that changes in it
pub change-lowest : (tick known : List ℕ) (u : ℕ) → SameUpper (set_at known u) (set_at tick u) → get_or (to_words lower_words (change_at tick known u)) 0 0 ≡ change_at tick known u
unfolding change_at symmetric_difference to_words
change-lowest tick known u same =
    let l : change_at tick known u < 2 ^ word_bits =
    lt-of-members word_bits _ (λ v i. by_cases (dec_lt v word_bits) (λ k. k) (λ k. omega (arith, i, same.at v (omega arith), bit-xor v (set_at tick u) (set_at known u)))) in
    omega arith

-- the upper badges stay the same where a lower one changes
pub same-toggled : {s t u : ℕ} → u < word_bits → SameUpper s t → SameUpper (symmetric_difference s (only u)) t
same-toggled {s} {t} {u} l h = record { at = λ v m. toggled-other s u v (λ e. omega arith) ∙ h.at v m }

-- s has what changes from the rows known to those of the tick
module _ (tick known : List ℕ) {n s : ℕ} (changed : UnionOver (change_at tick known) 0 n s) (d : IsTick n (set_at known)) where
  row_sub : (u : ℕ) → u < n → Sub (change_at tick known u) s
  row_sub u l = record { at = λ v i. changed.has u v zero-le l i }

  -- where nothing changes, the rows are those known
  pub rows_same : s ≡ 0 → (u : ℕ) → u < n → set_at known u ≡ set_at tick u
  rows_same z u l = row_same tick known u (sub-antisym _ _ (rw (← z) (row_sub u l)) (none-sub _))

  -- where badges below n change alone, the rows have such badges alone; and in a tick others do not change
  pub rows-below : Sub s (full n) → (u : ℕ) → u < n → set_at tick u < 2 ^ n
  unfolding symmetric_difference
  rows-below h u l =
      let c : change_at tick known u < 2 ^ n = sub-lt n _ s (row_sub u l) (sub-lt n s (full n) h (full-lt n)) in
      rw (← row-changed tick known u) (xor_lt n _ _ (d.within u l) c)

  pub below_rows : IsTick n (set_at tick) → Sub s (full n)
  unfolding change_at symmetric_difference
  below_rows g = record {
    at = λ v i.
        let x = changed.of v i in
        in-full n v (in-lt n _ v (xor_lt n _ _ (g.within x.0 x.2) (d.within x.0 x.2)) x.3);
  }
