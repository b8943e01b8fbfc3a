-- `trace_day` meets its contract: an index or a start tick outside the day is refused by 22, and a buffer of fewer than 2n bytes by 9; else the sweep puts
-- the trace into the first 2n bytes.
use mathlib.Core.Path.{sym, ap, ◌∙◌}
use mathlib.Core.List.{List, ◌++◌}
use Prim.Native.Nat.{ℕ, ◌+◌}
use native.Mathlib.Omega.{arith}
use lib.ListN.{drop}
use lib.Seq.{length-take-le}
use Rattle.logs.specs.Buffers.{Delivered}
use Rattle.logs.proofs.Delivering.{leaves-refused}
use Rattle.chains.specs.Judging.{StartOfDay}
use Rattle.chains.proofs.Judging.{start-no, start-few}
use Rattle.trace.proofs.TraceCall.{start_fits, start-short}
use Rattle.trace.proofs.tracing.trace_day.Goals as goal
use Rattle.trace.proofs.tracing.trace_day.Goals.{Else-ticks-start}

pub returns-then-badges-index : goal.returns-then-badges-index
returns-then-badges-index c =
    let w = leaves-refused c.args.buffer.now (start-no c.args.badges c.args.ticks c.args.words.now c.args.index c.args.start (λ h. omega (arith, h.0, c.if-badges-index.true))) in
    record { answer = w.0; leaves = w.1 }

pub returns-then-ticks-start : goal.returns-then-ticks-start
returns-then-ticks-start c =
    let w = leaves-refused c.args.buffer.now (start-no c.args.badges c.args.ticks c.args.words.now c.args.index c.args.start (λ h. omega (arith, h.1, c.if-ticks-start.true))) in
    record { answer = w.0; leaves = w.1 }

-- the index and the start tick are of the day
here : (c : goal.Else-ticks-start) → let a = c.args in StartOfDay a.badges a.ticks a.words.now a.index a.start
here c = record { lent = c.requires; badge = c.if-badges-index.false; tick = c.if-ticks-start.false }

pub overflow_add-size : goal.overflow_add-size
overflow_add-size c = omega (arith, (start-few (here (goal.at.overflow_add-size c).Else-ticks-start)).0)

pub returns-then-buffer-size : goal.returns-then-buffer-size
returns-then-buffer-size c =
    let e = start-short (here (goal.at.returns-then-buffer-size c).Else-ticks-start) c.args.buffer.now c.if-buffer-size.true in
    record { answer = sym (ap (λ (x : Delivered). x.answer) e); leaves = sym (ap (λ (x : Delivered). x.buffer) e) }

pub slice_bounds-sweep-end-2 : goal.slice_bounds-sweep-end-2
slice_bounds-sweep-end-2 c = sym (length-take-le _ c.args.buffer.now c.if-buffer-size.false)

pub sweep-requires : goal.sweep-requires
sweep-requires c = (here (goal.at.sweep-requires c).Else-ticks-start, length-take-le _ c.args.buffer.now c.if-buffer-size.false)

pub returns : goal.returns
returns c =
    let a = c.args in
    let e = start_fits (here (goal.at.returns c).Else-ticks-start) a.buffer.now c.if-buffer-size.false in
    record {
      answer = sym (ap (λ (x : Delivered). x.answer) e);
      leaves = ap (λ (x : List ℕ). x ++ drop (a.badges + a.badges) a.buffer.now) c.sweep.ensures ∙ sym (ap (λ (x : Delivered). x.buffer) e);
    }
