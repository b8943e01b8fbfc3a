-- Circles: the members of a set "split by who is joined to whom through chains of the .. pairs between members".
-- (A circle is a connected component of the graph that the set induces.)
use Rattle.std.specs.Prelude.{ℕ, ◌<◌}
use Rattle.sets.specs.Sets.{In, Sub}

-- u and v are joined through a chain of pairs of the graph between members of s; a member is joined to itself
pub data Chain (rows : ℕ → ℕ) (s u : ℕ) : ℕ → Type 0 where
  start : In s u → Chain rows s u u
  link : {v w : ℕ} → Chain rows s u v → In (rows v) w → In s w → Chain rows s u w

-- c is a circle of s: a non-empty part of s, any two members of which are joined, and whoever is joined to a member is a member
pub record IsCircle (rows : ℕ → ℕ) (s c : ℕ) : Type 0 where
  pub some : 0 < c
  pub within : Sub c s
  pub joined : (u v : ℕ) → In c u → In c v → Chain rows s u v
  pub closed : (u v : ℕ) → In c u → Chain rows s u v → In c v
