-- `sources_at` meets its contract: who is in both sets is in both words.
use mathlib.Core.List.{[], ◌∷◌}
use mathlib.Core.Path.{sym, ap, ap₂, ◌∙◌}
use Prim.Native.Nat.{ℕ, ◌+◌, ◌*◌, ◌^◌, ◌<◌}
use native.Mathlib.Omega.{arith}
use lib.Bits.{bit_and}
use lib.ListN.{get_or}
use Rattle.sets.specs.Members.{capacity, members}
use Rattle.sets.specs.Words.{Words, set_words, from_words}
use Rattle.sets.proofs.Pairs.{members-lt}
use Rattle.trace.proofs.WordTurns.{sources-two, sources-low}
use Rattle.trace.proofs.sweeping.sources_at.Goals as goal
use Rattle.trace.proofs.sweeping.sources_at.Goals.{Start}

-- those who pass on are badges that a set can hold
passing-lt : (s : goal.Start) → members s.args.passing < 2 ^ capacity
passing-lt s = members-lt s.args.passing (omega arith) (omega arith)

pub returns-then-word-eq0 : goal.returns-then-word-eq0
returns-then-word-eq0 c =
    let a = c.args in
    let fit : Words a.words.now = record { at = λ i l. omega (arith, c.type_inv.words i) } in
    c.from_word.ensures
    ∙ ap (bit_and (get_or a.words.now (a.i * set_words) 0)) c.word.ensures
    ∙ sources-low _ a.i _ fit c.requires (passing-lt (goal.at.returns-then-word-eq0 c).Start) (sym c.word-2.ensures ∙ c.if-word-eq0.true)

pub returns : goal.returns
returns c =
    let a = c.args in
    let fit : Words a.words.now = record { at = λ i l. omega (arith, c.type_inv.words i) } in
    c.from_words.ensures
    ∙ ap₂ (λ (x y : ℕ). from_words (bit_and (get_or a.words.now (a.i * set_words) 0) x ∷ bit_and (get_or a.words.now (a.i * set_words + 1) 0) y ∷ [])) c.word.ensures c.word-3.ensures
    ∙ sources-two _ a.i _ fit c.requires (passing-lt (goal.at.returns c).Start)
