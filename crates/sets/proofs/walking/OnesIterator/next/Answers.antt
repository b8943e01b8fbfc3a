-- `Ones::next` meets its contract: the smallest badge of a word is its number of trailing zeros, and w & (w - 1) has the others.
use mathlib.Core.Path.{sym, ◌∙◌, ap}
use native.Mathlib.Omega.{arith}
use Prim.Native.Nat.{ℕ}
use Rattle.sets.specs.Sets.{difference, only}
use Rattle.sets.specs.Words.{word_bits}
use Rattle.sets.proofs.Smallest.{smallest-trailing, without-smallest}
use Rattle.sets.proofs.walking.OnesIterator.next.Goals as goal

pub returns-clause-steps : goal.returns-clause-steps
returns-clause-steps c =
    let w = c.args.self.now.word in
    let e = sym (smallest-trailing word_bits w) in
    (omega arith, e, without-smallest word_bits w (omega arith) (λ z. omega arith) ∙ ap (λ (u : ℕ). difference w (only u)) (sym e))
