-- Laws of circles on a span: the pairs of a span go either way and join no badge to itself; those between members are the pairs of fellow members,
-- so the circles of a set on a span are the same by either.
use mathlib.Core.Path.{◌≡◌}
use mathlib.Core.List.{List}
use Prim.Native.Nat.{ℕ, ◌^◌, ◌<◌}
use native.Mathlib.Nat.{lt_of_lt_of_le}
use native.Mathlib.Omega.{arith}
use lib.Pow.{pow_mono}
use Rattle.sets.specs.Sets.{Sub, full}
use Rattle.sets.specs.Members.{capacity}
use Rattle.sets.proofs.Sets.{in-intersection, of-intersection-left, of-full, sub-lt, full-lt}
use Rattle.records.proofs.WithinLimits.{limits_of}
use Rattle.days.specs.Days.{LentDay}
use Rattle.cores.specs.Graphs.{Symmetric}
use Rattle.cores.specs.Rows.{graph}
use Rattle.cores.proofs.Degrees.{FewerPairs}
use Rattle.circles.specs.Chains.{IsCircle}
use Rattle.circles.specs.Circles.{circles}
use Rattle.circles.proofs.Chains.{circle-same}
use Rattle.circles.proofs.CircleLists.{circles-rows}
use Rattle.circles.proofs.CohesiveCircles.{Irreflexive}
use Rattle.spans.specs.Spans.{SpanOfDay, span_neighbours, span_words}
use Rattle.spans.specs.Contacts.{fellows}
use Rattle.spans.proofs.SpanRows.{in_span, of-span, span_set}
use Rattle.spans.proofs.OrderSets.{apart, fellows-are}

-- a set of a day's badges is one that a word holds
pub day-small : {n T : ℕ} {ws : List ℕ} → LentDay n T ws → (s : ℕ) → Sub s (full n) → s < 2 ^ capacity
day-small {n} d s w = lt_of_lt_of_le (sub-lt n s (full n) w (full-lt n)) (pow_mono (limits_of d.limits).few)

module _ {n T : ℕ} {ws : List ℕ} {first last : ℕ} (d : SpanOfDay n T ws first last) (s : ℕ) (w : Sub s (full n)) where
  -- the pairs of a span go either way,
  pub span-symmetric : Symmetric (span_neighbours n ws first last) s
  span-symmetric = record {
    back = λ u v i j p.
        let a = of-full n u (w.at u i) in
        let b = of-full n v (w.at v j) in
        in_span n ws first last v u a (λ t l r. (d.lent.day.tick t (omega (arith, d.inside))).symmetric u v a b ((of-span n ws first last u v p).1 t l r));
  }

  -- and join no badge to itself
  pub span-irreflexive : Irreflexive (span_neighbours n ws first last) s
  span-irreflexive = record { apart = λ u i. apart d s w u (of-full n u (w.at u i)) }

  -- the pairs between members are those of fellow members,
  fellow-pairs : FewerPairs s (fellows n ws first last s) (span_neighbours n ws first last)
  fellow-pairs = record { pair = λ u v i j p. of-intersection-left _ s v (rw (fellows-are d s w u (of-full n u (w.at u i))) at p) }

  pairs-fellow : FewerPairs s (span_neighbours n ws first last) (fellows n ws first last s)
  pairs-fellow = record { pair = λ u v i j p. rw (fellows-are d s w u (of-full n u (w.at u i))) (in-intersection _ s v p j) }

  -- so the circles are the same by either,
  pub circle-fellows : {c : ℕ} → IsCircle (span_neighbours n ws first last) s c → IsCircle (fellows n ws first last s) s c
  circle-fellows k = circle-same pairs-fellow fellow-pairs k

  pub fellows-circle : {c : ℕ} → IsCircle (fellows n ws first last s) s c → IsCircle (span_neighbours n ws first last) s c
  fellows-circle k = circle-same fellow-pairs pairs-fellow k

  -- and by the rows of the span in an array
  pub span-circles : circles (graph (span_words n ws first last)) s ≡ circles (span_neighbours n ws first last) s
  span-circles =
      let few = (limits_of d.lent.limits).few in
      circles-rows s (day-small d.lent s w)
      (record { pair = λ u v i j p. rw (span_set n ws first last u few (of-full n u (w.at u i))) at p })
      (record { pair = λ u v i j p. rw (span_set n ws first last u few (of-full n u (w.at u i))) p })
