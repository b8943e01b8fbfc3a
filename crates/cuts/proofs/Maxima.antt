-- Laws of the rows' greatest scores: filling the list of them, and what a row with no score above 0 spares.
use mathlib.Core.Path.{◌≡◌, refl, ◌∙◌}
use mathlib.Core.List.{List}
use Prim.Native.Nat.{ℕ, ◌+◌, ◌≤◌, ◌<◌}
use native.Mathlib.Omega.{arith}
use lib.ListN.{get_or, set, replicate, length-set}
use lib.Seq.{get_or-set_same, get_or-set_other}
use borrow.Author.Count.{below_more}
use Rattle.cuts.specs.Sums.{sum_with, table_score}
use Rattle.cuts.specs.Steps.{NoneAbove, GreatestOf, RowMaxima, row_after, SmallAfter, IsGreatestSum}
use Rattle.cuts.proofs.Greatest.{greatest-of-same}

-- with no row, with one row more, and with all
pub maxima-none : {scores : List ℕ} {T : ℕ} → RowMaxima scores T 0 (replicate 96 0)
maxima-none = record { size = refl; at = λ t l. absurd (omega arith) }

pub maxima-more : {scores maxima : List ℕ} {T t x : ℕ} → RowMaxima scores T t maxima → t < 96 → GreatestOf (table_score scores t) t T x → RowMaxima scores T (t + 1) (set maxima t x)
maxima-more {scores} {maxima} {T} {t} {x} r l p = record {
  size = length-set maxima t x ∙ r.size;
  at = below_more _ t (λ s m. rw (get_or-set_other maxima t s x 0 (λ q. omega arith)) (r.at s m)) (rw (get_or-set_same maxima t x 0 (omega (arith, r.size))) p);
}

pub maxima-all : {scores maxima : List ℕ} {T t : ℕ} → RowMaxima scores T t maxima → t ≡ T → RowMaxima scores T T maxima
maxima-all r q = record { size = r.size; at = λ s l. r.at s (omega arith) }

-- each bounds the scores of its row, up to any tick
pub row-bound : {scores maxima : List ℕ} {T t stop : ℕ} → RowMaxima scores T T maxima → t < T → stop ≤ T → NoneAbove (table_score scores t) t stop (get_or maxima t 0)
row-bound {t = t} r l m = record { at = λ e i j. (r.at t l).most.at e i (omega arith) }

-- where no run from t has a score above 0, the greatest sum is the greatest that row c has after an end
pub sum-of-rest : {scores sums : List ℕ} {c t stop x s : ℕ} → NoneAbove (table_score scores t) t stop x → x < 1 → SmallAfter sums c t stop
    → GreatestOf (row_after sums c) t stop s → IsGreatestSum scores sums c t stop s
unfolding sum_with
sum-of-rest n z a p = record { sum = greatest-of-same (λ e l m. omega (arith, n.at e l m)) p; small = omega (arith, p.least _ a.small) }
