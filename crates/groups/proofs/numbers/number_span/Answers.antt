-- `number_span` meets its contract: a span that is none of the day is refused by 12; of any other the core numbers found from its rows are
-- delivered.
use mathlib.Core.Path.{◌≡◌, sym, ap, ◌∙◌}
use mathlib.Core.List.{List}
use Prim.Native.Nat.{ℕ, ◌≤◌}
use native.Mathlib.Omega.{arith}
use lib.ListN.{take}
use lib.Seq.{length-take-le}
use Rattle.std.proofs.lemmas.Result.{err_from_is_err_and}
use Rattle.sets.specs.Members.{capacity, members}
use Rattle.records.specs.Outcomes.{Outcome, success}
use Rattle.records.proofs.WithinLimits.{limits_of}
use Rattle.logs.specs.Buffers.{deliver}
use Rattle.cores.specs.Rows.{core_numbers}
use Rattle.spans.specs.Judging.{span_judged}
use Rattle.spans.proofs.Judging.{judged-yes, judged-no}
use Rattle.groups.proofs.RowCores.{numbers-found}
use Rattle.groups.proofs.numbers.number_span.Goals as goal
use Rattle.groups.proofs.numbers.number_span.Goals.{After-core_numbers-numbers, Start}

pub returns-then-last-first : goal.returns-then-last-first
unfolding deliver
returns-then-last-first c =
    let a = c.args in
    let e = judged-no a.badges a.ticks a.words.now (members a.review) a.first a.last (λ h. omega (arith, h.0, c.if-last-first.true)) in
    record { answer = rw e; leaves = rw e }

pub returns-then-ticks-last : goal.returns-then-ticks-last
unfolding deliver
returns-then-ticks-last c =
    let a = c.args in
    let e = judged-no a.badges a.ticks a.words.now (members a.review) a.first a.last (λ h. omega (arith, h.1, c.if-ticks-last.true)) in
    record { answer = rw e; leaves = rw e }

few : (c : goal.Start) → c.args.badges ≤ capacity
few c = (limits_of c.requires.0.limits).few

-- the numbers found, of the n badges, are the bytes that are delivered
bytes : (c : goal.After-core_numbers-numbers) → let a = c.args in
    ◌≡◌ {A = Outcome (List ℕ)} (success (take a.badges c.core_numbers-numbers.result)) (span_judged a.badges a.ticks a.words.now (members a.review) a.first a.last)
bytes c =
    let a = c.args in
    ap success (ap (take a.badges) (c.core_numbers-numbers.ensures ∙ ap (λ (l : List ℕ). core_numbers l (members a.review)) c.span_rows-rows.ensures)
    ∙ numbers-found a.badges a.words.now (members a.review) a.first a.last (omega (arith, (limits_of c.requires.0.limits).few)) c.requires.1.named)
    ∙ sym (judged-yes a.badges a.ticks a.words.now (members a.review) a.first a.last (omega (arith, c.if-last-first.false)) (omega (arith, c.if-ticks-last.false)))

pub slice_bounds-numbers-end : goal.slice_bounds-numbers-end
slice_bounds-numbers-end c = omega (arith, few (goal.at.slice_bounds-numbers-end c).Start)

pub slice_bounds-deliver-end : goal.slice_bounds-deliver-end
slice_bounds-deliver-end c = sym (length-take-le _ c.core_numbers-numbers.result (omega (arith, few (goal.at.slice_bounds-deliver-end c).Start)))

pub returns-in_err-deliver : goal.returns-in_err-deliver
returns-in_err-deliver c =
    let e = bytes (goal.at.returns-in_err-deliver c).After-core_numbers-numbers in
    let buffer = c.args.buffer.now in
    let f = err_from_is_err_and c.from_residual.result c.from_residual.ensures.1 in
    record {
      answer = rw (f.1, f.2) (c.in_err-deliver.ensures.answer ∙ ap (λ (o : Outcome (List ℕ)). (deliver o buffer).answer) e);
      leaves = c.in_err-deliver.ensures.leaves ∙ ap (λ (o : Outcome (List ℕ)). (deliver o buffer).buffer) e;
    }

pub returns : goal.returns
returns c =
    let e = bytes (goal.at.returns c).After-core_numbers-numbers in
    let buffer = c.args.buffer.now in
    record {
      answer = c.in_ok-deliver.ensures.answer ∙ ap (λ (o : Outcome (List ℕ)). (deliver o buffer).answer) e;
      leaves = c.in_ok-deliver.ensures.leaves ∙ ap (λ (o : Outcome (List ℕ)). (deliver o buffer).buffer) e;
    }
