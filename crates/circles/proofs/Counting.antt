-- Laws of the walk over all circles of a set: at its start, after one circle more, and at its end.
use mathlib.Core.Path.{◌≡◌, refl, sym, ap, ◌∙◌}
use mathlib.Core.Bool.{Bool, true, false, not}
use mir.Val.{bool_byte}
use mathlib.Core.List.{List, [], ◌∷◌, ◌++◌, append-nil}
use Prim.Native.Nat.{ℕ, ◌+◌, ◌^◌, ◌≤◌, ◌<◌}
use native.Mathlib.Omega.{arith}
use lib.Dec.{eqb, leb}
use lib.ListN.{length, length-append}
use Rattle.sets.specs.Sets.{Sub, difference, size}
use Rattle.sets.specs.Members.{capacity}
use Rattle.sets.specs.Tables.{keep_if}
use Rattle.sets.proofs.Sets.{sub_refl, sub_trans, sub-lt}
use Rattle.sets.proofs.Size.{size-le}
use Rattle.sets.proofs.Concat.{keep-le, keep_all}
use borrow.Author.Tests.{le-leb, eqb-false, not-true}
use Rattle.circles.specs.Circles.{first_circle, circles, at_least}
use Rattle.circles.proofs.Chains.{rest-within}
use Rattle.circles.proofs.CircleLists.{circles-none, circles-more, circles-few, rest-less}

-- one circle that has members enough
pub one-counted : (least c : ℕ) → least ≤ size c → length (at_least least (c ∷ [])) ≡ 1
unfolding at_least
one-counted least c h = rw (keep_all (leb least (size c)) (c ∷ []) (le-leb _ _ h))

-- one circle counts where it has members enough
pub circle-counts : (least c : ℕ) → bool_byte (leb least (size c)) ≡ length (at_least least (c ∷ []))
unfolding at_least keep_if
circle-counts least c = go (leb least (size c))
  where
    go : (enough : Bool) → bool_byte enough ≡ length (keep_if enough (c ∷ []) ++ [])
    go true = refl
    go false = refl

-- which is one more at most
pub one-most : (b : Bool) → bool_byte b ≤ 1
one-most true = omega arith
one-most false = omega arith

-- the rest after the first
counted-more : (least c : ℕ) (cs : List ℕ) → length (at_least least (c ∷ cs)) ≡ length (at_least least (c ∷ [])) + length (at_least least cs)
unfolding at_least
counted-more least c cs = rw append-nil (length-append (keep_if (leb least (size c)) (c ∷ [])) (at_least least cs))

-- no more than all
pub counted-le : (least : ℕ) (cs : List ℕ) → length (at_least least cs) ≤ length cs
unfolding at_least
counted-le least [] = omega arith
counted-le least (c ∷ cs) = omega (arith, length-append (keep_if (leb least (size c)) (c ∷ [])) (at_least least cs), keep-le (leb least (size c)) (c ∷ []), counted-le least cs)

-- What is left is a subset of s, and the circles counted with those of what is left are those of s.
pub record Counts (rows : ℕ → ℕ) (s least all large left : ℕ) : Type 0 where
  pub within : Sub left s
  pub all_so_far : all + length (circles rows left) ≡ length (circles rows s)
  pub large_so_far : large + length (at_least least (circles rows left)) ≡ length (at_least least (circles rows s))

pub count-start : (rows : ℕ → ℕ) (s least : ℕ) → Counts rows s least 0 0 s
count-start rows s least = record { within = sub_refl s; all_so_far = omega arith; large_so_far = omega arith }

module _ {rows : ℕ → ℕ} {s least all large left : ℕ} (w : s < 2 ^ capacity) (h : Counts rows s least all large left) where
  left_lt : left < 2 ^ capacity
  left_lt = sub-lt capacity left s h.within w

  -- there are few of them
  pub count-few : (all ≤ capacity) × (large ≤ capacity)
  count-few = let few : length (circles rows s) ≤ capacity = omega (arith, circles-few rows s w, size-le capacity s w) in
      (omega (arith, h.all_so_far), omega (arith, h.large_so_far, counted-le least (circles rows s)))

  pub count-more : 0 < left → Counts rows s least (all + 1) (large + length (at_least least (first_circle rows left ∷ []))) (difference left (first_circle rows left))
  count-more p =
      let e = circles-more rows left left_lt p in
      record {
        within = sub_trans (rest-within left _) h.within;
        all_so_far = omega (arith, h.all_so_far, ap length e);
        large_so_far = omega (arith, h.large_so_far, ap (λ (l : List ℕ). length (at_least least l)) e, counted-more least (first_circle rows left) (circles rows (difference left (first_circle rows left))));
      }

  -- fewer are left
  pub count_less : 0 < left → size (difference left (first_circle rows left)) < size left
  count_less p = rest-less rows left left_lt p

  pub count-end : left ≡ 0 → (all ≡ length (circles rows s)) × (large ≡ length (at_least least (circles rows s)))
  unfolding at_least
  count-end e =
      let none : length (circles rows left) ≡ 0 = rw (e, circles-none rows) refl in
      let few : length (at_least least (circles rows left)) ≡ 0 = omega (arith, counted-le least (circles rows left)) in
      (omega (arith, h.all_so_far), omega (arith, h.large_so_far))

-- where the test finds some left, there are some
pub some_left : {left : ℕ} {empty : Bool} → empty ≡ eqb left 0 → not empty ≡ true → 0 < left
some_left {left} e f = let h = eqb-false left 0 (sym e ∙ not-true _ f) in omega arith
