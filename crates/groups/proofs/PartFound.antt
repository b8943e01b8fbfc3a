-- What is found from the rows of a run is its part.
use mathlib.Core.Path.{◌≡◌, refl, ap, ◌∙◌}
use mathlib.Core.List.{List}
use Prim.Native.Nat.{ℕ, zero, suc, ◌-◌, ◌≤◌, ◌<◌, min}
use native.Mathlib.Omega.{arith}
use Rattle.cores.specs.Orders.{HighestFound}
use Rattle.cores.specs.Rows.{graph}
use Rattle.cores.proofs.Orders.{highest-yes, found_among}
use Rattle.innermost.specs.Columns.{transposed}
use Rattle.innermost.proofs.Columns.{symmetric-climbed}
use Rattle.records.proofs.WithinLimits.{limits_of}
use Rattle.days.specs.Days.{LentDay}
use Rattle.spans.specs.Spans.{span_neighbours, span_words}
use Rattle.spans.specs.Reviews.{Review}
use Rattle.spans.specs.SpanCores.{core_on}
use Rattle.spans.specs.Plans.{score_on, members_on, part_on}
use Rattle.groups.proofs.RowCores.{rows-cores, rows-symmetric}

module _ {n T : ℕ} {ws : List ℕ} {base first last : ℕ} (lent : LentDay n T ws) (rising : first ≤ last) (inside : last < T) (r : Review n base) (query : ℕ) {score : ℕ} (s : score ≡ score_on n ws base query first last) where
  -- at score 0 the reviewed set is shown
  pub members-all : score ≡ 0 → base ≡ members_on n ws base score first last
  unfolding members_on
  members-all z = rw z

  -- and else the core of the order that is the score
  pub members-core : {rows : List ℕ} {order core : ℕ} → rows ≡ span_words n ws first last → 0 < score → HighestFound (transposed (graph rows) base) base query (score - 1) score order core
      → core ≡ members_on n ws base score first last
  unfolding members_on core_on score_on
  members-core {rows} {order} {core} e p h =
      let m : min score (score_on n ws base query first last) ≡ score = omega (arith, s) in
      let found = found_among (rows-cores n ws first last (limits_of lent.limits).few r.named e) (symmetric-climbed (rows-symmetric (record { lent = lent; rising = rising; inside = inside }) e base r.named) h) in
      found.members
      ∙ highest-yes (span_neighbours n ws first last) base query (score - 1) score (omega (arith, m))
      ∙ ap (λ (k : ℕ). core_on n ws base k first last) m
      ∙ shown score p
    where
      shown : (k : ℕ) → 0 < k → core_on n ws base k first last ≡ members_on n ws base k first last
      shown zero l = absurd (omega arith)
      shown (suc k) l = refl

  -- so the record made of them is the part
  pub part-found : {members : ℕ} → members ≡ members_on n ws base score first last → record { order = score; first = first; last = last; members = members } ≡ part_on n ws base query first last
  unfolding part_on
  part-found m = rw (m, s)
