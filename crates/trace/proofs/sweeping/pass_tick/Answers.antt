-- `pass_tick` meets its contract: after the turns of the badges of both words none is unseen.
use mathlib.Core.Path.{◌≡◌, ap, ◌∙◌}
use Prim.Native.Nat.{ℕ, ◌+◌, ◌^◌, ◌<◌, min}
use native.Mathlib.Omega.{arith}
use lib.ListN.{get_or}
use borrow.Author.Rules.{rules}
use Rattle.sets.specs.Sets.{Sub, difference, full}
use Rattle.sets.specs.Members.{capacity, members}
use Rattle.sets.specs.Words.{in_word, to_words, lower_words, set_words, set_at}
use Rattle.sets.proofs.Sets.{of-difference}
use Rattle.sets.proofs.Pairs.{members-lt}
use Rattle.trace.specs.Steps.{Turned}
use Rattle.trace.proofs.Turns.{turned_none, turned-done}
use Rattle.trace.proofs.WordTurns.{word-sub, second-left, none_left}
use Rattle.trace.proofs.sweeping.pass_tick.Goals as goal
use Rattle.trace.proofs.sweeping.pass_tick.Goals.{After-difference-unseen}

-- the badges unseen at first are those of the tick who do not pass on
abbrev Unseen : goal.After-difference-unseen → ℕ
Unseen d = members d.difference-unseen.result

unseen-is : (d : goal.After-difference-unseen) → let a = d.args in Unseen d ≡ difference (full a.n) (members a.passing)
unseen-is d =
    let e : min d.args.n capacity ≡ d.args.n = omega (arith, d.requires.0) in
    d.difference-unseen.ensures ∙ ap (λ (x : ℕ). difference x (members d.args.passing)) (d.full.ensures ∙ ap full e)

unseen-lt : (d : goal.After-difference-unseen) → Unseen d < 2 ^ capacity
unseen-lt d = members-lt d.difference-unseen.result (omega arith) (omega arith)

word_below : (d : goal.After-difference-unseen) (i : ℕ) {x : ℕ} → i < set_words → x ≡ get_or (to_words lower_words (Unseen d)) i 0 → Sub (in_word i x) (full d.args.n)
word_below d i l e = record { at = λ v j. let k = (word-sub (Unseen d) i (unseen-lt d) l e).at v j in (of-difference _ _ v (rw (unseen-is d) at k)).0 }

pub pass_word-lower-requires : goal.pass_word-lower-requires
pass_word-lower-requires c =
    let d = (goal.at.pass_word-lower-requires c).After-difference-unseen in
    (c.requires.0, c.requires.1, search rules, word_below d 0 (omega arith) c.word-low.ensures)

pub pass_word-requires : goal.pass_word-requires
pass_word-requires c =
    let d = (goal.at.pass_word-requires c).After-difference-unseen in
    (c.requires.0, c.requires.1, search rules, word_below d 1 (omega arith) c.word-high.ensures)

pub returns : goal.returns
returns c =
    let d = (goal.at.returns c).After-difference-unseen in
    let a = c.args in
    let first : Turned a.n (λ u. set_at a.words.now (a.base + u)) a.t (members a.passing) (Unseen d) (members a.passing) a.trace.now a.trace.now =
    rw (unseen-is d) (turned_none _ _ _ _ _) in
    let e = c.word-low.ensures in
    let f = c.word-high.ensures in
    let lower = c.pass_word-lower.ensures (Unseen d) a.trace.now (word-sub (Unseen d) 0 (unseen-lt d) (omega arith) e) first in
    turned-done _ _ _ _ (none_left (Unseen d) (unseen-lt d) e f) (c.pass_word.ensures _ _ (second-left (Unseen d) (unseen-lt d) e f) lower)
