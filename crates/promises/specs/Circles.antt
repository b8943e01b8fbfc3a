-- What a report by circles is held against: days with cores of several circles, and other ways to make records of a day.
use Rattle.std.specs.Prelude.{Bool, false, List, [], ◌∷◌, ◌++◌, map, ℕ, suc, leb, take}
use Rattle.sets.specs.Words.{words_of}
use Rattle.sets.specs.Bools.{◌and◌, ◌or◌, isnt, all}
use Rattle.sets.specs.Tables.{concat_below, keep_if}
use Rattle.days.specs.Days.{neighbours}
use Rattle.circles.specs.Circles.{circles}
use Rattle.thresholds.specs.declared.Thresholds.{Thresholds}
use Rattle.spans.specs.Spans.{is_span, span_neighbours}
use Rattle.spans.specs.SpanCores.{SpanCore, core_on}
use Rattle.spans.specs.Reports.{as_large, same, groups_of}
use Rattle.spans.specs.KeptGroups.{kept}
use Rattle.spans.specs.CircleRecords.{with_members, records_of, circle_records}
use Rattle.promises.specs.D1.{badges}

-- ---- days

-- n 6, T 1: two triangles, one of badges 0, 1 and 2 and one of 3, 4 and 5
unfoldable pub apart_words : List ℕ
apart_words = words_of (badges (1 ∷ 2 ∷ []) ∷ badges (0 ∷ 2 ∷ []) ∷ badges (0 ∷ 1 ∷ []) ∷ badges (4 ∷ 5 ∷ []) ∷ badges (3 ∷ 5 ∷ []) ∷ badges (3 ∷ 4 ∷ []) ∷ [])

-- n 4, T 2: 0–1 and 2–3 in tick 0, and 0–1 alone in tick 1
unfoldable pub leaving_words : List ℕ
leaving_words = words_of ((badges (1 ∷ []) ∷ badges (0 ∷ []) ∷ badges (3 ∷ []) ∷ badges (2 ∷ []) ∷ []) ++ (badges (1 ∷ []) ∷ badges (0 ∷ []) ∷ badges [] ∷ badges [] ∷ []))

-- n 4, T 2: 0–1 and 2–3 in both ticks, 1–2 in tick 0 and 0–3 in tick 1
unfoldable pub crossing_words : List ℕ
crossing_words = words_of (
    (badges (1 ∷ []) ∷ badges (0 ∷ 2 ∷ []) ∷ badges (1 ∷ 3 ∷ []) ∷ badges (2 ∷ []) ∷ [])
    ++ (badges (1 ∷ 3 ∷ []) ∷ badges (0 ∷ []) ∷ badges (3 ∷ []) ∷ badges (0 ∷ 2 ∷ []) ∷ []))

-- ---- other ways to make records of a day

-- whole cores, as they were reported before they were split
unfoldable pub whole_cores : ℕ → ℕ → List ℕ → ℕ → Thresholds → List SpanCore
whole_cores n T ws base least = kept least (groups_of n T ws base)

-- of each core its first circle alone
unfoldable pub first_circles : ℕ → List ℕ → List SpanCore → List SpanCore
first_circles n ws [] = []
first_circles n ws (c ∷ cs) = take 1 (records_of n ws c) ++ first_circles n ws cs

unfoldable pub one_circle_each : ℕ → ℕ → List ℕ → ℕ → Thresholds → List SpanCore
one_circle_each n T ws base least = kept least (first_circles n ws (groups_of n T ws base))

-- least members asked of the whole core: the circles of the cores that have members enough
unfoldable pub enough_in_all : ℕ → ℕ → List ℕ → ℕ → Thresholds → List SpanCore
enough_in_all n T ws base least = circle_records n ws (kept least (groups_of n T ws base))

-- circles by the pairs of one tick of the span, which may be any: the records of a core in that tick, and those of a list of cores
unfoldable pub records_in : ℕ → List ℕ → ℕ → SpanCore → List SpanCore
records_in n ws t c = map (with_members c) (circles (neighbours n ws t) c.members)

unfoldable pub tick_records : (ℕ → ℕ → ℕ) → ℕ → List ℕ → List SpanCore → List SpanCore
tick_records tick n ws [] = []
tick_records tick n ws (c ∷ cs) = records_in n ws (tick c.first c.last) c ++ tick_records tick n ws cs

unfoldable pub by_one_tick : (ℕ → ℕ → ℕ) → ℕ → ℕ → List ℕ → ℕ → Thresholds → List SpanCore
by_one_tick tick n T ws base least = kept least (tick_records tick n ws (groups_of n T ws base))

-- Domination judged circle by circle, by any test of a circle against another whose order and span are both at least as large. The circles of the core
-- of order k on a span:
unfoldable pub circles_at : ℕ → List ℕ → ℕ → ℕ → ℕ → ℕ → List ℕ
circles_at n ws base k first last = circles (span_neighbours n ws first last) (core_on n ws base k first last)

-- s is dominated by one of some circles
unfoldable pub by_one_of : (ℕ → ℕ → Bool) → ℕ → List ℕ → Bool
by_one_of dominated_by s [] = false
by_one_of dominated_by s (c ∷ cs) = dominated_by s c or by_one_of dominated_by s cs

-- s, a circle of the core of order k on a span, is dominated by no circle of another core whose order and span are both at least as large
unfoldable pub is_maximal_circle : (ℕ → ℕ → Bool) → ℕ → ℕ → List ℕ → ℕ → ℕ → ℕ → ℕ → ℕ → Bool
is_maximal_circle dominated_by n T ws base k first last s = all (suc n) (λ k'. all T (λ first'. all T (λ last'.
    same k first last k' first' last' or isnt (is_span T first' last' and as_large k first last k' first' last' and by_one_of dominated_by s (circles_at n ws base k' first' last')))))

-- the records of those of some circles of that core that are so
unfoldable pub maximal_circles : (ℕ → ℕ → Bool) → ℕ → ℕ → List ℕ → ℕ → ℕ → ℕ → ℕ → List ℕ → List SpanCore
maximal_circles dominated_by n T ws base k first last [] = []
maximal_circles dominated_by n T ws base k first last (s ∷ ss) =
    keep_if (is_maximal_circle dominated_by n T ws base k first last s) (record { order = k; first = first; last = last; members = s } ∷ []) ++ maximal_circles dominated_by n T ws base k first last ss

unfoldable pub circle_by_circle : (ℕ → ℕ → Bool) → ℕ → ℕ → List ℕ → ℕ → Thresholds → List SpanCore
circle_by_circle dominated_by n T ws base least = kept least (concat_below T (λ first. concat_below T (λ last. keep_if (leb first last)
    (concat_below (suc n) (λ k. keep_if (leb 1 k) (maximal_circles dominated_by n T ws base k first last (circles_at n ws base k first last)))))))
