-- `reach` meets its contract: where there is no source nothing changes, and else the badge has its tick and its source, which fits a byte.
use mathlib.Core.Path.{◌≡◌, sym, ap, ◌∙◌}
use Prim.Native.Nat.{ℕ, ◌+◌, ◌<◌}
use native.Mathlib.Omega.{arith}
use lib.Dec.{eqb}
use lib.ListN.{set, length-set}
use Rattle.sets.specs.Sets.{intersection, smallest}
use Rattle.sets.specs.Members.{capacity, members}
use Rattle.sets.specs.Words.{set_at}
use Rattle.sets.proofs.Smallest.{smallest-le}
use Rattle.trace.proofs.Turns.{reached-none, reached-some, shown-none, shown-some}
use Rattle.trace.proofs.sweeping.reach.Goals as goal
use Rattle.trace.proofs.sweeping.reach.Goals.{After-is_empty}

-- those who pass on and are in contact with the badge
abbrev from : goal.After-is_empty → ℕ
from c = let a = c.args in intersection (set_at a.words.now (a.base + a.u)) (members a.passing)

-- the smallest badge of a set is at most the capacity
smallest-byte : (s : ℕ) {x : ℕ} → x ≡ smallest capacity s → x < 256
smallest-byte s e = omega (arith, smallest-le capacity s)

-- the test, of these
tested : (c : goal.After-is_empty) → c.is_empty.result ≡ eqb (from c) 0
tested c = c.is_empty.ensures ∙ ap (λ (x : ℕ). eqb x 0) c.sources_at-sources.ensures

pub returns-then-is_empty : goal.returns-then-is_empty
returns-then-is_empty c =
    let k = (goal.at.returns-then-is_empty c).After-is_empty in
    let a = c.args in
    let e = sym (tested k) ∙ c.if-is_empty.true in
    record {
      reached = sym (reached-none (from k) (members a.reached) a.u e);
      leaves = sym (shown-none (from k) a.n a.u a.t a.trace.now e);
    }

pub overflow_cast-trace : goal.overflow_cast-trace
overflow_cast-trace c = omega (arith, smallest-byte _ c.smallest.ensures)

pub bounds-trace-n : goal.bounds-trace-n
bounds-trace-n c = simp length-set (omega (arith, c.requires.0, c.requires.3))

pub returns : goal.returns
returns c =
    let k = (goal.at.returns c).After-is_empty in
    let a = c.args in
    let e = sym (tested k) ∙ c.if-is_empty.false in
    record {
      reached = c.with.ensures ∙ sym (reached-some (from k) (members a.reached) a.u e);
      leaves =
          ap (λ (x : ℕ). set (set a.trace.now a.u a.t) (a.n + a.u) x) (c.smallest.ensures ∙ ap (smallest capacity) c.sources_at-sources.ensures)
          ∙ sym (shown-some (from k) a.n a.u a.t a.trace.now e);
    }
