-- lines meets its contract: before each turn of the loop the lines so far stand in the buffer, and what fits behind them is still to come.
use mathlib.Core.Path.{ap, ◌∙◌}
use Prim.Native.Nat.{◌<◌}
use native.Mathlib.Omega.{arith}
use lib.ListN.{length}
use Rattle.groups.specs.Refusals.{written_outcome}
use Rattle.text.specs.Pieces as p
use Rattle.text.specs.Calls.{shown_lines}
use Rattle.text.proofs.LinesShown.{shown-count}
use Rattle.text.proofs.Filling.{fills-more, full-stop, end-stop, fills-done}
use Rattle.text.proofs.pieces.lines.Goals as goal
use Rattle.text.proofs.pieces.lines.Goals.{In-loop-next}

-- there is a line at the place
there : (c : goal.In-loop-next) → let a = c.args in c.loop-next.next < length (shown_lines (written_outcome a.answer) a.report.now)
there c = let a = c.args in omega (arith, c.loop-next-test.true, c.line_count-count.ensures, shown-count (written_outcome a.answer) a.report.now)

pub returns-then-buffer-at : goal.returns-then-buffer-at
returns-then-buffer-at c =
    let f = c.loop-next.invariant.fills in
    let line = c.as_slice-bytes.ensures ∙ c.make_line-line.ensures in
    let e = fills-done f (full-stop f (there (goal.at.returns-then-buffer-at c).In-loop-next) line c.if-buffer-at.true) in
    record { next = ap (λ (x : p.Piece). x.next) e; bytes = ap (λ (x : p.Piece). x.bytes) e; leaves = ap (λ (x : p.Piece). x.buffer) e }

pub loop-next-preserved : goal.loop-next-preserved
loop-next-preserved c =
    let line = c.as_slice-bytes.ensures ∙ c.make_line-line.ensures in
    record {
      within = omega arith;
      fills = fills-more c.loop-next.invariant.fills (there (goal.at.loop-next-preserved c).In-loop-next) line c.if-buffer-at.false c.put.ensures;
    }

pub returns : goal.returns
returns c =
    let f = c.loop-next.invariant.fills in
    let e = fills-done f (end-stop f (omega (arith, c.loop-next-test.false, c.line_count-count.ensures, shown-count (written_outcome c.args.answer) c.args.report.now))) in
    record { next = (omega (arith, c.max.ensures)) ∙ ap (λ (x : p.Piece). x.next) e; bytes = ap (λ (x : p.Piece). x.bytes) e; leaves = ap (λ (x : p.Piece). x.buffer) e }
