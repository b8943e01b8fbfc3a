-- mark_pair meets its contract: each of its two calls marks one badge.
use mathlib.Core.Path.{ap, ◌∙◌}
use mathlib.Core.List.{List}
use Prim.Native.Nat.{ℕ}
use Rattle.days.specs.Filling.{marked}
use Rattle.days.proofs.Marking.{put-marked}
use Rattle.days.proofs.day.mark_pair.Goals as goal

pub returns : goal.returns
returns c =
    let a = c.args in
    c.mark-2.ensures ∙ put-marked a.n _ a.t a.b a.a
    ∙ ap (λ (x : List ℕ). marked a.n x a.t a.b a.a) (c.mark.ensures ∙ put-marked a.n a.words.now a.t a.a a.b)
