-- "A report may now be given least length in ticks (1 to 96), least order (1 to 63) and least members (2 to 64)." The last two limits "become 127 and 128".
use Rattle.std.specs.Prelude.{Bool, ℕ, ◌-◌, leb}
use Rattle.sets.specs.Bools.{◌and◌}
use Rattle.records.specs.Limits.{max_badges, max_ticks}
use Rattle.thresholds.specs.declared.Thresholds.{Thresholds}

-- the least length in ticks, order and number of members
abbrev pub least_of : ℕ → ℕ → ℕ → Thresholds
least_of ticks order members = record { ticks = ticks; order = order; members = members }

-- "With 1, 1 and 2 it is the plain report."
abbrev pub plain : Thresholds
plain = least_of 1 1 2

-- each of the three is within its range, which does not depend on the day
unfoldable pub in_range : Thresholds → Bool
in_range least =
    (leb 1 least.ticks and leb least.ticks max_ticks)
    and (leb 1 least.order and leb least.order (max_badges - 1))
    and (leb 2 least.members and leb least.members max_badges)

-- so many ticks, an order and so many members are enough
unfoldable pub are_enough : Thresholds → ℕ → ℕ → ℕ → Bool
are_enough least ticks order members = leb least.ticks ticks and leb least.order order and leb least.members members
