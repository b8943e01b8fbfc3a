-- `keep_line` meets its contract: before the turn of a last tick the cores of the spans that end before it and meet the thresholds are kept.
use Prim.Native.Nat.{◌≤◌}
use Rattle.sets.specs.Tables.{concat_below}
use Rattle.spans.specs.KeptGroups.{kept}
use Rattle.groups.specs.Keeping.{KeepsCores, circles_at, large_at}
use Rattle.groups.proofs.KeptCores.{line_cell}
use Rattle.groups.proofs.keeping.keep_line.Given as goal

abbrev pub invariant-loop-last : goal.invariant-loop-last
invariant-loop-last l =
    (l.first ≤ l.last) × (l.last ≤ l.ticks)
    × KeepsCores (circles_at l.line) (large_at l.line) (kept l.least (concat_below l.last (line_cell l.line l.first))) l.initial.cores l.cores
