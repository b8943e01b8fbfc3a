-- Laws of the spans with one first tick: what is found on a span between two bounds, and the loop over the last ticks.
use mathlib.Core.Path.{◌≡◌, refl, sym, ap, ◌∙◌}
use mathlib.Core.List.{List}
use mathlib.Core.Logic.{by_cases}
use Prim.Native.Nat.{ℕ, ◌+◌, ◌≤◌, ◌<◌, min}
use native.Mathlib.Nat.{le_refl}
use native.Mathlib.Decide.{dec_lt}
use native.Mathlib.Omega.{arith}
use lib.ListN.{set, length-set}
use lib.Seq.{get_or-set_same, get_or-set_other}
use Rattle.sets.specs.Sets.{Sub, intersection, full}
use Rattle.sets.specs.Members.{capacity, members}
use Rattle.sets.proofs.Sets.{none-sub, sub_trans}
use Rattle.records.proofs.WithinLimits.{limits_of}
use Rattle.days.specs.Days.{LentDay}
use Rattle.checks.proofs.TickRows.{Unites}
use Rattle.cores.specs.Orders.{highest_order, highest_members, HighestFound}
use Rattle.cores.specs.Rows.{graph}
use Rattle.cores.proofs.Cores.{core-sub}
use Rattle.cores.proofs.Orders.{highest-yes, highest-no, found_among}
use Rattle.circles.specs.Circles.{circles}
use Rattle.spans.specs.Spans.{SpanOfDay, span_neighbours, span_words}
use Rattle.spans.specs.Reviews.{Review}
use Rattle.spans.specs.SpanCores.{core_on}
use Rattle.spans.specs.Plans.{score_on}
use Rattle.spans.specs.LongerSpans.{score_before, new_members}
use Rattle.spans.proofs.SpanCircles.{span-circles}
use Rattle.spans.proofs.Maximal.{score-falls, score-before-le, score-on-le, new-yes, new-no}
use Rattle.groups.specs.Steps.{RowsTo}
use Rattle.groups.specs.declared.lines.Found.{Found}
use Rattle.groups.specs.Lines.{none, at, Counted, ScoresBefore, LineFound}
use Rattle.groups.proofs.RowCores.{united-cores}

-- ---- one span

-- new members are badges of the base
pub new-sub : (n : ℕ) (ws : List ℕ) (base query first last : ℕ) → Sub (new_members n ws base query first last) base
unfolding core_on
new-sub n ws base query first last = by_cases (dec_lt (score_before n ws base query first last) (score_on n ws base query first last))
    (λ h. rw (new-yes n ws base query first last h) (core-sub (span_neighbours n ws first last) base _))
    (λ h. rw (new-no n ws base query first last (omega arith)) (none-sub base))

-- a span on which the score of a query is asked for: it is no larger than the upper bound, and the lower bound is that of the longer span
pub record CoreAsked (n T : ℕ) (ws : List ℕ) (base query first last lower upper : ℕ) (rows : List ℕ) (reached : ℕ) : Type 0 where
  pub span : SpanOfDay n T ws first last
  pub named : Sub base (full n)
  pub rows_to : RowsTo n ws first last rows reached
  pub below : lower ≡ score_before n ws base query first last
  pub above : score_on n ws base query first last ≤ upper

-- its score, the members of its core where the score is above the lower bound, how many circles these have, where that is asked for, and rows that were
-- narrowed no further than to its last tick
pub record CoreFound (n : ℕ) (ws : List ℕ) (base query first last enough order members all large : ℕ) (rows : List ℕ) (reached : ℕ) : Type 0 where
  pub score : order ≡ score_on n ws base query first last
  pub new : members ≡ new_members n ws base query first last
  pub rows_to : RowsTo n ws first last rows reached
  pub counted : 1 ≤ enough → 0 < members → Counted (circles (span_neighbours n ws first last) members) enough all large

module _ {n T : ℕ} {ws : List ℕ} {base query first last lower upper : ℕ} {rows : List ℕ} {reached : ℕ} (a : CoreAsked n T ws base query first last lower upper rows reached) where
  -- where the bounds meet, they are the score
  pub bounds-meet : {enough all large : ℕ} → upper ≤ lower → CoreFound n ws base query first last enough lower 0 all large rows reached
  bounds-meet h =
      let e : lower ≡ score_on n ws base query first last = omega (arith, a.below, a.above, score-before-le n ws base query first last) in
      record { score = e; new = sym (new-no n ws base query first last (omega (arith, a.below))); rows_to = a.rows_to; counted = λ p q. absurd (omega arith) }

  -- elsewhere the core is found from the span's rows, among the reviewed badges that are in some row
  pub core-found : {longer : List ℕ} {s t enough order members all large : ℕ} → longer ≡ span_words n ws first last → Unites n longer s → t ≡ intersection s base
      → HighestFound (graph longer) t query lower upper order members → (1 ≤ enough → Counted (circles (graph longer) members) enough all large) → CoreFound n ws base query first last enough order members all large longer last
  unfolding score_on core_on highest_order
  core-found {longer} {s} {t} {enough} {order} {members} {all} {large} e b q h k =
      record {
        score = omega (arith, found.order, a.below, a.above, score-before-le n ws base query first last);
        new = news;
        rows_to = record { low = a.span.rising; high = le_refl last; are = e };
        counted = λ p r. rw (e, span-circles a.span members (sub_trans (rw news (new-sub n ws base query first last)) a.named)) at (k p);
      }
    where
      found : HighestFound (span_neighbours n ws first last) base query lower upper order members
      found = found_among (united-cores a.span e b a.named q) h

      least : min upper (score_on n ws base query first last) ≡ score_on n ws base query first last
      least = omega (arith, a.above)

      yes' : lower < score_on n ws base query first last → highest_members (span_neighbours n ws first last) base query lower upper ≡ new_members n ws base query first last
      yes' l = cc (
        highest-yes (span_neighbours n ws first last) base query lower upper (omega (arith, least)),
        ap (λ (k : ℕ). core_on n ws base k first last) least,
        new-yes n ws base query first last (omega (arith, a.below)),
      )

      no' : (lower < score_on n ws base query first last → ⊥) → highest_members (span_neighbours n ws first last) base query lower upper ≡ new_members n ws base query first last
      no' l = cc (highest-no (span_neighbours n ws first last) base query lower upper (omega (arith, least)), new-no n ws base query first last (omega (arith, a.below)))

      news : members ≡ new_members n ws base query first last
      news = found.members ∙ by_cases (dec_lt lower (score_on n ws base query first last)) yes' no'

-- ---- the spans with one first tick

-- The pass over the last ticks, at tick last: the spans that end before it have been found, the rows are narrowed no further than to it, and
-- no score from it on is above the upper bound.
pub record Finding (n T : ℕ) (ws : List ℕ) (base query first enough : ℕ) (line : List Found) (last : ℕ) (rows : List ℕ) (reached upper : ℕ) (line' : List Found) : Type 0 where
  pub low : first ≤ last
  pub high : last ≤ T
  pub rows_to : RowsTo n ws first last rows reached
  pub above : (i : ℕ) → last ≤ i → score_on n ws base query first i ≤ upper
  pub found : LineFound n last ws base query first enough line line'

module _ {n T : ℕ} {ws : List ℕ} {base query first enough : ℕ} {line : List Found} (d : LentDay n T ws) (r : Review n base) (l : first < T) (b : ScoresBefore n T ws base query first line) where
  -- before the first tick, after one tick more, and at the end of the day
  pub finding-start : {rows : List ℕ} → rows ≡ span_words n ws first first → Finding n T ws base query first enough line first rows first capacity line
  finding-start e = record {
    low = le_refl first;
    high = omega arith;
    rows_to = record { low = le_refl first; high = le_refl first; are = e };
    above = λ i p. omega (arith, score-on-le n ws base query first i, (limits_of d.limits).few);
    found = record {
      size = refl;
      after = λ i p. refl;
      score = λ i p q. absurd (omega arith);
      new = λ i p q. absurd (omega arith);
      counted = λ k i p q. absurd (omega arith);
    };
  }

  module _ {last : ℕ} {rows : List ℕ} {reached upper : ℕ} {line' : List Found} (f : Finding n T ws base query first enough line last rows reached upper line') (k : last < T) where
    -- what is asked of the span that ends with the tick
    pub finding-asks : CoreAsked n T ws base query first last (at line' last).order upper rows reached
    finding-asks = record {
      span = record { lent = d; rising = f.low; inside = k };
      named = r.named;
      rows_to = f.rows_to;
      below = ap (λ (x : Found). x.order) (f.found.after last (le_refl last)) ∙ b.score last f.low k;
      above = f.above last (le_refl last);
    }

    -- a span more is found
    pub finding-next : {order word : ℕ} (x : Found) {narrowed : List ℕ} {tick : ℕ} → x.order ≡ order → members x.members ≡ word → CoreFound n ws base query first last enough order word x.circles x.large narrowed tick
        → Finding n T ws base query first enough line (last + 1) narrowed tick order (set line' last x)
    finding-next x o m c = record {
      low = omega (arith, f.low);
      high = omega arith;
      rows_to = record { low = c.rows_to.low; high = omega (arith, c.rows_to.high); are = c.rows_to.are };
      above = λ i p. omega (arith, c.score, score-falls n ws base query first last first i (omega arith) (omega arith));
      found = record {
        size = length-set line' last x ∙ f.found.size;
        after = λ i p. other i (λ e. omega arith) ∙ f.found.after i (omega arith);
        score = λ i p q. by_cases (dec_lt i last)
            (λ h. rw (other i (λ e. omega arith)) (f.found.score i p h))
            (λ h. let e : i ≡ last = omega arith in rw (e, here, o) c.score);
        new = λ i p q. by_cases (dec_lt i last)
            (λ h. rw (other i (λ e. omega arith)) (f.found.new i p h))
            (λ h. let e : i ≡ last = omega arith in rw (e, here, m) c.new);
        counted = λ y i p q. by_cases (dec_lt i last)
            (λ h. rw (other i (λ e. omega arith)) (f.found.counted y i p h))
            (λ h. let e : i ≡ last = omega arith in rw (e, here, m) (c.counted y));
      };
    }
      where
        other : (i : ℕ) → (i ≡ last → ⊥) → at (set line' last x) i ≡ at line' i
        other i h = get_or-set_other line' last i x none h

        here : at (set line' last x) last ≡ x
        here = get_or-set_same line' last x none (omega (arith, f.found.size, b.size, (limits_of d.limits).short))

pub finding-end : {n T : ℕ} {ws : List ℕ} {base query first enough : ℕ} {line : List Found} {last : ℕ} {rows : List ℕ} {reached upper : ℕ} {line' : List Found}
    → Finding n T ws base query first enough line last rows reached upper line' → T ≤ last → LineFound n T ws base query first enough line line'
finding-end {T = T} {last = last} f k = let e : last ≡ T = omega (arith, f.high) in rw e at f.found
