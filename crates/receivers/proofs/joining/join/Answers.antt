-- `join` meets its contract: 18, then what reading the series answers; then the days are counted into the day words, and cleared.
use Rattle.std.proofs.lemmas.Result.{err_from_is_err_and}
use mathlib.Core.Path.{◌≡◌, sym, ap, ◌∙◌}
use mathlib.Core.List.{List, ◌++◌}
use Prim.Native.Nat.{ℕ, ◌*◌, ◌≤◌}
use native.Mathlib.Nat.{mul-le-mul_right}
use native.Mathlib.Omega.{arith}
use lib.ListN.{length, drop, replicate}
use lib.Seq.{length-take-le}
use borrow.Author.Rules.{rules}
use Rattle.sets.proofs.Bools.{clash}
use Rattle.sets.specs.Words.{Words}
use Rattle.records.specs.Limits.{words_for}
use Rattle.receivers.specs.Joining.{Joinable}
use Rattle.receivers.proofs.Sums.{joinable-of, joinable-in}
use Rattle.receivers.proofs.JoinCall.{join-parts}
use Rattle.receivers.proofs.Sorting.{fits_below}
use Rattle.receivers.proofs.JoinSteps.{leaves, series-refuses, series-says, Ready, ready, filled-long, joined}
use Rattle.receivers.proofs.joining.join.Goals as goal
use Rattle.receivers.proofs.joining.join.Goals.{Else-not-joinable, In_ok-size}

-- the lengths and the quorum pass
tested : (c : goal.Else-not-joinable) → let a = c.args in Joinable (length a.logs.now) a.lengths.now a.quorum
tested c = joinable-of _ _ _ (sym c.joinable.ensures ∙ c.if-not-joinable.false)

-- the series is read, and all its words are there
read : (c : goal.In_ok-size) → let a = c.args in let each = c.in_ok-size.size in Ready a.logs.now a.lengths.now a.quorum a.words.now a.work.now each.badges each.ticks c.read_series.new.words
read c = ready _ (joinable-of _ _ _ (sym c.joinable.ensures ∙ c.if-not-joinable.false)) (sym c.in_ok-size.ensures.answer) c.read_series.ensures.leaves

-- how many work words a number of days takes, and that they are there when the days are combined, for any number of days up to that of the logs
abbrev words : goal.In_ok-size → ℕ → ℕ
words c k = k * words_for c.in_ok-size.size.badges c.in_ok-size.size.ticks

abbrev logs : goal.In_ok-size → ℕ
logs c = length c.args.lengths.now

there : (c : goal.In_ok-size) (k long : ℕ) → long ≡ length c.read_series.new.words → k ≤ logs c → words c k ≤ long
there c k long e h = let r = read c in omega (arith, r.enough, filled-long r, mul-le-mul_right (words_for c.in_ok-size.size.badges c.in_ok-size.size.ticks) h)

pub returns-then-not-joinable : goal.returns-then-not-joinable
returns-then-not-joinable c =
    let w = leaves (join-parts _ _ _ _ _ (λ j. clash (joinable-in _ _ _ j) (sym c.joinable.ensures ∙ c.if-not-joinable.true))) in
    record { answer = w.0; leaves = w.1.0; clears = w.1.1 }

pub overflow_mul-day : goal.overflow_mul-day
overflow_mul-day c = omega (arith, (read (goal.at.overflow_mul-day c).In_ok-size).room)

pub overflow_mul-day-2 : goal.overflow_mul-day-2
overflow_mul-day-2 c = omega (arith, (read (goal.at.overflow_mul-day-2 c).In_ok-size).room)

pub combine-requires : goal.combine-requires
combine-requires c = let r = read (goal.at.combine-requires c).In_ok-size in (r.tested.some, r.tested.most, omega (arith, r.enough, filled-long r), r.room)

pub overflow_mul-lengths : goal.overflow_mul-lengths
overflow_mul-lengths c =
    let at = (goal.at.overflow_mul-lengths c).In_ok-size in
    let r = read at in
    fits_below _ _ (there at _ (length c.combine.new.work) (omega arith) (omega (arith, r.tested.most))) (omega arith)

pub slice_bounds-clear-end : goal.slice_bounds-clear-end
slice_bounds-clear-end c =
    let at = (goal.at.slice_bounds-clear-end c).In_ok-size in
    let r = read at in
    there at _ (length c.combine.new.work) (omega arith) (omega (arith, r.tested.most))

pub slice_bounds-clear-end-2 : goal.slice_bounds-clear-end-2
slice_bounds-clear-end-2 c =
    let at = (goal.at.slice_bounds-clear-end-2 c).In_ok-size in
    let r = read at in
    sym (length-take-le _ _ (there at _ (length c.combine.new.work) (omega arith) (omega (arith, r.tested.most))))

pub returns-in_err-size : goal.returns-in_err-size
returns-in_err-size c =
    let p = err_from_is_err_and c.from_residual.result c.from_residual.ensures.1 in
    let w = leaves (series-refuses _ _ _ _ _ _ _ _ (tested (goal.at.returns-in_err-size c).Else-not-joinable) (sym c.in_err-size.ensures.answer) c.read_series.ensures.leaves) in
    record { answer = rw (p.1, p.2) (series-says _ ∙ w.0); leaves = w.1.0; clears = w.1.1 }

pub returns : goal.returns
returns c =
    let at = (goal.at.returns c).In_ok-size in
    let m = words at (logs at) in
    let sorted = c.combine.new.work in
    let fit : Words c.combine.new.words = record { at = λ i l. omega (arith, c.type_inv.words i) } in
    let w = leaves (joined (read at) _ sorted _ (search rules) fit c.combine.ensures.counts c.combine.ensures.keeps
    (ap (λ (x : List ℕ). x ++ drop m sorted) (c.clear.ensures ∙ ap (λ (k : ℕ). replicate k 0) (length-take-le m sorted (there at (logs at) (length sorted) (omega arith) (omega arith)))))) in
    record { answer = w.0; leaves = w.1.0; clears = w.1.1 }
