-- Laws of the 96 places that a cutting's ends are given in.
use mathlib.Core.Path.{◌≡◌}
use mathlib.Core.Bool.{true}
use mathlib.Core.List.{List, ◌++◌}
use Prim.Native.Nat.{ℕ, ◌-◌, ◌≤◌}
use lib.Dec.{leb}
use lib.ListN.{take, replicate}
use lib.Seq.{take_at}
use borrow.Author.Tests.{leb-true, le-leb}
use Rattle.sets.specs.Bools.{◌and◌}
use Rattle.sets.proofs.Bools.{and_in, and_left, and_right, to-false}
use Rattle.cuts.specs.Sums.{best_ends, table_score, ends_of}
use Rattle.cuts.proofs.Sums.{best-ends}

module _ (scores : List ℕ) (T h : ℕ) where
  -- where there is a cutting, its ends and zeros after them; and where there is none, zeros alone
  pub ends_some : 1 ≤ h → h ≤ T → T ≤ 96 → ends_of scores T h ≡ best_ends (table_score scores) T h ++ replicate (96 - h) 0
  unfolding ends_of
  ends_some l m n = rw (and_in _ _ (and_in _ _ (le-leb 1 h l) (le-leb h T m)) (le-leb T 96 n), ends_of)

  pub ends-none : (1 ≤ h → h ≤ T → T ≤ 96 → ⊥) → ends_of scores T h ≡ replicate 96 0
  unfolding ends_of
  ends-none f = rw (to-false (leb 1 h and leb h T and leb T 96) fails, ends_of)
    where
      fails : (leb 1 h and leb h T and leb T 96) ≡ true → ⊥
      fails e =
          let d = and_left _ _ e in
          f (leb-true 1 h (and_left _ _ d)) (leb-true h T (and_right _ _ d)) (leb-true T 96 (and_right _ _ e))

  -- the first h places have the ends
  pub ends-of : 1 ≤ h → h ≤ T → T ≤ 96 → take h (ends_of scores T h) ≡ best_ends (table_score scores) T h
  ends-of l m n =
      rw (ends_some l m n) (take_at (best_ends (table_score scores) T h) (replicate (96 - h) 0) h (best-ends (table_score scores) T h l m).best.cutting.count)
