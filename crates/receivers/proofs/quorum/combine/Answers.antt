-- `combine` meets its contract: the parts are sorted, and the part of the quorum's number is copied.
use Prim.Native.Nat.{ℕ, ◌+◌, ◌*◌, ◌≤◌, ◌<◌}
use native.Mathlib.Omega.{arith}
use lib.ListN.{length}
use borrow.Author.Rules.{rules}
use Rattle.days.proofs.Days.{tick-fits}
use Rattle.receivers.proofs.Sorting.{fits_below, combined}
use Rattle.receivers.proofs.quorum.combine.Goals as goal

-- any of the sorted parts is there, and so is its start
there : (k m size long : ℕ) → m * size ≤ long → k < m → k * size + size ≤ long
there k m size long l h = omega (arith, tick-fits k m size h)

starts : (k m size long : ℕ) → m * size ≤ long → k < m → k * size ≤ long
starts k m size long l h = omega (arith, there k m size long l h)

pub overflow_mul-quorum : goal.overflow_mul-quorum
overflow_mul-quorum c = let a = c.args in fits_below _ _ (starts _ a.m a.size (length c.sort.new.work) (omega arith) (omega arith)) (omega arith)

pub copy-requires : goal.copy-requires
copy-requires c = let a = c.args in (there _ a.m a.size (length c.sort.new.work) (omega arith) (omega arith), search rules)

pub returns : goal.returns
returns c =
    let h = c.requires in
    let r = combined _ c.sort.ensures c.copy.ensures (omega arith) h.1 (search rules) (search rules) in
    record { counts = r.0; keeps = r.1 }
