-- BadgeSet::word meets its contract: the words of the set of two words are those.
use mathlib.Core.Path.{◌≡◌, sym, ap, ◌∙◌}
use mathlib.Core.List.{List, [], ◌∷◌}
use Prim.Native.Nat.{ℕ, ◌^◌, ◌≤◌, ◌<◌}
use native.Mathlib.Omega.{arith}
use lib.ListN.{get_or, get_or-eq_default}
use Rattle.sets.specs.declared.BadgeSet.{BadgeSet}
use Rattle.sets.specs.Words.{word_bits, lower_words, to_words}
use Rattle.sets.specs.Members.{members}
use Rattle.sets.proofs.Pairs.{two-words-of}
use Rattle.sets.proofs.BadgeSet.word.Goals as goal

-- word i of the two
its-word : (s : BadgeSet) (i x : ℕ) → s.low < 2 ^ word_bits → s.high < 2 ^ word_bits → x ≡ get_or (s.low ∷ s.high ∷ []) i 0
    → x ≡ get_or (to_words lower_words (members s)) i 0
its-word s i x p q e = e ∙ sym (ap (λ (ws : List ℕ). get_or ws i 0) (two-words-of s.low s.high p q))

pub returns-then-i-eq0 : goal.returns-then-i-eq0
returns-then-i-eq0 c =
    let a = c.args in
    let e : a.i ≡ 0 = c.if-i-eq0.true in
    its-word a.self a.i _ (omega arith) (omega arith) (rw e)

pub returns-then-i-eq1 : goal.returns-then-i-eq1
returns-then-i-eq1 c =
    let a = c.args in
    let e : a.i ≡ 1 = c.if-i-eq1.true in
    its-word a.self a.i _ (omega arith) (omega arith) (rw e)

pub returns : goal.returns
returns c =
    let a = c.args in
    let l : 2 ≤ a.i = omega (arith, c.if-i-eq0.false, c.if-i-eq1.false) in
    its-word a.self a.i 0 (omega arith) (omega arith) (sym (get_or-eq_default (a.self.low ∷ a.self.high ∷ []) 0 l))
