-- `fill_all` meets its contract: before each log the days of the logs before it are filled.
use mathlib.Core.Path.{sym, ap, ◌∙◌, subst}
use mathlib.Core.List.{List, ◌++◌}
use Prim.Native.Nat.{ℕ, ◌+◌, ◌≤◌}
use native.Mathlib.Omega.{arith}
use lib.ListN.{length, drop, length-drop}
use Rattle.records.specs.Limits.{words_for}
use Rattle.records.proofs.Verdicts.{rest-is}
use Rattle.days.specs.Days.{day_of}
use Rattle.days.proofs.SeriesLoops.{Lies, put_back, Filling, filling-none, words-fit, next-accepts, filling-next, filling-done}
use Rattle.days.proofs.several.fill_all.Goals as goal
use Rattle.days.proofs.several.fill_all.Goals.{After-end_of-end}

-- where the next log lies, and that its words are there
lies : (c : goal.After-end_of-end) → let a = c.args in Lies a.logs.now a.lengths.now c.loop-length.at c.loop-length.length-index c.end_of-end.result
lies c = record { inside = c.loop-length.invariant.place; there = omega arith; ends = c.end_of-end.ensures }

fits : (c : goal.After-end_of-end) → c.loop-length.from + words_for c.args.size.badges c.args.size.ticks ≤ length c.loop-length.words
fits c = words-fit c.loop-length.invariant (lies c).there

pub loop-length-init : goal.loop-length-init
loop-length-init c = filling-none c.requires

pub fill-requires : goal.fill-requires
fill-requires c = (next-accepts c.loop-length.invariant (lies (goal.at.fill-requires c).After-end_of-end), rw (rest-is c.loop-length.words c.loop-length.from, length-drop) (omega (arith, fits (goal.at.fill-requires c).After-end_of-end)))

pub loop-length-preserved : goal.loop-length-preserved
loop-length-preserved c =
    let l = c.loop-length in
    let a = c.args in
    subst (λ (w : List ℕ). Filling a.logs.now a.lengths.now a.size.badges a.size.ticks a.words.now w c.end_of-end.result (l.from + words_for a.size.badges a.size.ticks) (l.length-index + 1))
    (sym (put_back l.from l.words _))
    (filling-next l.invariant (lies (goal.at.loop-length-preserved c).After-end_of-end) _ (λ rs e. c.fill.ensures rs e ∙ ap (λ (w : List ℕ). day_of rs ++ drop (words_for a.size.badges a.size.ticks) w) (rest-is l.words l.from)))

pub returns : goal.returns
returns c = filling-done c.loop-length.invariant (omega arith)
