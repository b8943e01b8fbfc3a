-- `of` meets its contract: the bytes of the members' words say these again.
use mathlib.Core.Path.{refl, ap, ◌∙◌}
use native.Mathlib.Omega.{arith}
use Rattle.std.specs.Int.{w64, from_le_bytes}
use Rattle.std.proofs.lemmas.Nat.{from_le_bytes-to_le_bytes_8}
use Rattle.groups.specs.Keeping.{said}
use Rattle.groups.proofs.kept.Stored.of.Goals as goal

pub returns : goal.returns
unfolding said
returns c =
    let m = c.args.core.members in
    let low = ap (from_le_bytes w64) c.to_le_bytes.ensures ∙ from_le_bytes-to_le_bytes_8 m.low (omega arith) in
    let high = ap (from_le_bytes w64) c.to_le_bytes-2.ensures ∙ from_le_bytes-to_le_bytes_8 m.high (omega arith) in
    rw (low, high) refl
