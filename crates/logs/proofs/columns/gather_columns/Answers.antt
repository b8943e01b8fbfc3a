-- gather_columns meets its contract: before tick t of the loop the columns hold the ticks before t.
use mathlib.Core.Path.{◌≡◌, ap, ap₂, ◌∙◌}
use mathlib.Core.List.{List}
use Prim.Native.Nat.{ℕ, ◌+◌, ◌-◌, min}
use lib.ListN.{get_or}
use native.Mathlib.Omega.{arith}
use borrow.Author.Rules.{rules}
use Rattle.sets.specs.Sets.{difference, only, full}
use Rattle.sets.specs.Members.{capacity, members}
use Rattle.sets.specs.Words.{word_bits, in_word, to_words, lower_words}
use Rattle.sets.proofs.Bits.{one_shl}
use Rattle.sets.proofs.Pairs.{members-lt}
use Rattle.days.specs.Days.{neighbours}
use Rattle.logs.specs.TickSets.{united}
use Rattle.logs.proofs.Gathering.{united-words, columns-none, columns-more}
use Rattle.logs.proofs.columns.gather_columns.Goals as goal

pub loop-t-init : goal.loop-t-init
loop-t-init c = let a = c.args in
    let m : min (a.u + 1) capacity ≡ a.u + 1 = omega arith in
    (search rules, c.full-smaller.ensures ∙ ap full m, rw c.requires.2 (columns-none a.day.now.badges a.day.now.words.now a.u a.from))

pub loop-t-preserved : goal.loop-t-preserved
unfolding only
loop-t-preserved c =
    let l = c.loop-t in
    let a = c.args in
    let larger = c.difference-larger.result in
    let row = neighbours a.day.now.badges a.day.now.words.now (a.from + l.t) a.u in
    let s : members larger ≡ difference row (full (a.u + 1)) = c.difference-larger.ensures ∙ ap₂ difference c.neighbours.ensures l.invariant.1 in
    let bits = one_shl l.t (omega arith) in
    let first : c.unite.new.columns ≡ united l.columns (in_word 0 (get_or (to_words lower_words (members larger)) 0 0)) (only l.t) =
    c.unite.ensures ∙ ap₂ (united l.columns) (ap (in_word 0) c.word.ensures) bits in
    let both : c.unite-in-loop-t.new.columns ≡ united l.columns (difference row (full (a.u + 1))) (only l.t) =
    c.unite-in-loop-t.ensures
    ∙ ap₂ (united c.unite.new.columns) (ap (in_word 1) c.word-in-loop-t.ensures) bits
    ∙ ap (λ (table : List ℕ). united table (in_word 1 (get_or (to_words lower_words (members larger)) 1 0)) (only l.t)) first
    ∙ united-words l.columns (members larger) (only l.t) (members-lt larger (omega arith) (omega arith))
    ∙ ap (λ (x : ℕ). united l.columns x (only l.t)) s in
    (search rules, l.invariant.1, rw both (columns-more a.day.now.badges a.day.now.words.now a.u a.from l.t l.invariant.2))

pub returns : goal.returns
returns c =
    let a = c.args in
    let e : c.loop-t.t ≡ min word_bits (a.day.now.ticks - a.from) = omega arith in
    rw e at c.loop-t.invariant.2
