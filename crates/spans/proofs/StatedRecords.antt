-- What every record has in a list of which the group statement holds: an order below the number of badges, a span of the day, and members under review.
use mathlib.Core.List.{List}
use Prim.Native.Nat.{ℕ, ◌^◌, ◌≤◌, ◌<◌}
use native.Mathlib.Omega.{arith}
use Rattle.sets.specs.Sets.{Sub, full, size}
use Rattle.sets.proofs.Sets.{sub_trans, sub-lt, full-lt}
use Rattle.sets.proofs.Size.{size-le}
use Rattle.thresholds.specs.declared.Thresholds.{Thresholds}
use Rattle.spans.specs.SpanCores.{SpanCore, Mem}
use Rattle.spans.specs.GroupStatement.{Reportable, GroupStatement}
use Rattle.spans.proofs.OrderSets.{order-many}

pub record OfDay (n T base : ℕ) (c : SpanCore) : Type 0 where
  pub low : 1 ≤ c.order
  pub high : c.order < n
  pub rising : c.first ≤ c.last
  pub inside : c.last < T
  pub within : Sub c.members base

pub of-day : {n T : ℕ} {ws : List ℕ} {base : ℕ} {least : Thresholds} {records : List SpanCore} → Sub base (full n) → GroupStatement n T ws base least records
    → (c : SpanCore) → Mem c records → OfDay n T base c
of-day {n} {T} {ws} {base} {least} r x c i =
    let s = x.span c i in
    let p : Reportable n T ws base least c.order c.first c.last c.members = (x.exactly c.order c.first c.last c.members (x.order c i) s.0 s.1).0 i in
    let o = p.circle.largest.order in
    let few : size p.circle.group ≤ n = size-le n _ (sub-lt n _ (full n) (sub_trans o.within r) (full-lt n)) in
    record {
      low = x.order c i;
      high = omega (arith, order-many o);
      rising = s.0;
      inside = s.1;
      within = sub_trans p.circle.circle.within o.within;
    }

-- so its members are badges below n
pub records-small : {n T : ℕ} {ws : List ℕ} {base : ℕ} {least : Thresholds} {records : List SpanCore} → Sub base (full n) → GroupStatement n T ws base least records
    → (c : SpanCore) → Mem c records → c.members < 2 ^ n
records-small {n} r x c i = sub-lt n c.members (full n) (sub_trans (of-day r x c i).within r) (full-lt n)
