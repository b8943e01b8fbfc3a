-- The same worked out: the circle of a member, and the circles of a set by smallest member, rising.
use Rattle.std.specs.Prelude.{Bool, true, false, List, [], ◌∷◌, ◌++◌, ℕ, zero, suc, ◌-◌, eqb, leb, ltb}
use Rattle.sets.specs.Bools.{◌or◌}
use Rattle.sets.specs.Sets.{has, union, difference, filter, size, smallest}
use Rattle.sets.specs.Members.{capacity}
use Rattle.sets.specs.Tables.{keep_if}

-- some member of t has v as its neighbour
unfoldable pub reaches : (ℕ → ℕ) → ℕ → ℕ → Bool
reaches rows t v = ltb 0 (filter (λ u. has (rows u) v) t)

-- t with the neighbours of its members within s, so many times
unfoldable pub grow : (ℕ → ℕ) → ℕ → ℕ → ℕ
grow rows s t = filter (λ v. has t v or reaches rows t v) s

unfoldable pub grows : (ℕ → ℕ) → ℕ → ℕ → ℕ → ℕ
grows rows s zero t = t
grows rows s (suc m) t = grows rows s m (grow rows s t)

-- the circle of a member u of s: u alone, grown as many times as s has other members
unfoldable pub circle : (ℕ → ℕ) → ℕ → ℕ → ℕ
circle rows s u = grows rows s (size s - 1) (filter (λ v. eqb v u) s)

-- the circle of the smallest member
unfoldable pub first_circle : (ℕ → ℕ) → ℕ → ℕ
first_circle rows s = circle rows s (smallest capacity s)

-- The circles of s: that of the smallest member, and then those of the others. There are no more of them than members.
unfoldable pub circles_in : (ℕ → ℕ) → ℕ → ℕ → List ℕ
circles_in rows zero s = []
circles_in rows (suc m) s = elim (ltb 0 s) [ true ↦ first_circle rows s ∷ circles_in rows m (difference s (first_circle rows s)) | false ↦ [] ]

unfoldable pub circles : (ℕ → ℕ) → ℕ → List ℕ
circles rows s = circles_in rows (size s) s

-- the members of sets together
unfoldable pub together : List ℕ → ℕ
together [] = 0
together (c ∷ cs) = union c (together cs)

-- those of a list of sets that have at least so many members
unfoldable pub at_least : ℕ → List ℕ → List ℕ
at_least least [] = []
at_least least (c ∷ cs) = keep_if (leb least (size c)) (c ∷ []) ++ at_least least cs
