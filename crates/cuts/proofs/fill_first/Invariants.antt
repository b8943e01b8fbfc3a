-- `fill_first` meets its contract: before column t of the loop row 0 is filled from column parts - 1 to column t - 1.
use Prim.Native.Nat.{◌-◌, ◌≤◌}
use Rattle.cuts.proofs.Steps.{PartlyFilled}
use Rattle.cuts.proofs.fill_first.Given as goal

abbrev pub invariant-loop-t : goal.invariant-loop-t
invariant-loop-t l = (l.t ≤ l.ticks) × PartlyFilled l.scores l.ticks l.parts 0 (l.parts - 1) l.t l.sums
