-- Two days, each with a base set, that have the same cores of order 1 and more on every span, and the same pairs between members of the first, have the
-- same core numbers and records of a report, and the same parts of a plan but for the members at score 0, which are the base sets.
use mathlib.Core.Path.{◌≡◌, refl, sym, ap, ap₂, ◌∙◌}
use mathlib.Core.Bool.{Bool, true, false}
use mathlib.Core.List.Memᴰ
use mathlib.Core.List.{List, [], ◌∷◌, ◌++◌, map}
use Prim.Native.Nat.{ℕ, zero, suc, ◌^◌, ◌≤◌, ◌<◌, zero-le, suc-le-suc}
use native.Mathlib.Nat.{le_trans}
use native.Mathlib.Omega.{arith}
use lib.Dec.{leb, ltb}
use borrow.Author.Tests.{leb-true}
use Rattle.sets.specs.Bools.{◌and◌, ◌or◌, isnt}
use Rattle.sets.specs.Sets.{Sub}
use Rattle.sets.specs.Members.{capacity}
use Rattle.sets.specs.Tables.{keep_if}
use Rattle.sets.proofs.Bools.{clash, and_in, and_left, and_right, same_test, all_same}
use Rattle.sets.proofs.Sets.{sub-lt}
use Rattle.sets.proofs.Concat.{concat-same, keep-nil}
use Rattle.sets.proofs.Tables.{tabulate-same}
use Rattle.records.specs.Outcomes.{success, refuse_if}
use Rattle.cores.proofs.Degrees.{FewerPairs}
use Rattle.cores.proofs.Cores.{core-sub}
use Rattle.cores.proofs.Orders.{SameCores, number-among, score-among}
use Rattle.circles.proofs.CircleLists.{pairs-less, circles-rows}
use Rattle.cuts.proofs.Cuttings.{Cuts, one, more, cuts_fit, to-cuts}
use Rattle.cuts.proofs.Sums.{best-ends, ends_same}
use Rattle.spans.specs.Spans.{is_span, span_neighbours}
use Rattle.spans.specs.SpanCores.{SpanCore, Mem, core_on, has_core}
use Rattle.spans.specs.Reports.{as_large, same, is_maximal, is_group, groups_on, groups_from, groups_of}
use Rattle.thresholds.specs.declared.Thresholds.{Thresholds}
use Rattle.thresholds.specs.Ranges.{in_range}
use Rattle.spans.specs.KeptGroups.{kept}
use Rattle.spans.specs.CircleRecords.{with_members, circles_of, records_of, circle_records, shown_records}
use Rattle.spans.specs.Encoding.{report_bytes}
use Rattle.spans.specs.Plans.{score_on, members_on, part_on, parts_from, parts_of}
use Rattle.spans.specs.Judging.{core_number_bytes, span_judged, report_judged}
use Rattle.spans.proofs.SpanRows.{span_of}
use Rattle.spans.proofs.GroupLists.{of-groups, group-parts}
use Rattle.promises.specs.Reviews.{members_at, at_score_zero}

-- the same cores of order 1 and more on every span of T ticks, and the same pairs between members of the first base set, which is one that a word holds
pub record SameSpans (n T : ℕ) (xs ys : List ℕ) (base base' : ℕ) : Type 0 where
  pub small : base < 2 ^ capacity
  pub on : (first last : ℕ) → first ≤ last → last < T → SameCores (span_neighbours n xs first last) (span_neighbours n ys first last) base base'
  pub forth : (first last : ℕ) → first ≤ last → last < T → FewerPairs base (span_neighbours n xs first last) (span_neighbours n ys first last)
  pub back : (first last : ℕ) → first ≤ last → last < T → FewerPairs base (span_neighbours n ys first last) (span_neighbours n xs first last)

module _ {n T : ℕ} {xs ys : List ℕ} {base base' : ℕ} (f : SameSpans n T xs ys base base') where
  core-same : (k first last : ℕ) → 1 ≤ k → first ≤ last → last < T → core_on n xs base k first last ≡ core_on n ys base' k first last
  unfolding core_on
  core-same k first last l m h = (f.on first last m h).at k l

  has_same : (k first last : ℕ) → 1 ≤ k → first ≤ last → last < T → has_core n xs base k first last ≡ has_core n ys base' k first last
  unfolding has_core
  has_same k first last l m h = ap (ltb 0) (core-same k first last l m h)

  score-same : (query first last : ℕ) → first ≤ last → last < T → score_on n xs base query first last ≡ score_on n ys base' query first last
  unfolding score_on
  score-same query first last m h = score-among (f.on first last m h) query

  -- the same core numbers, which are judged alike,
  pub span-judged : (first last : ℕ) → span_judged n T xs base first last ≡ span_judged n T ys base' first last
  unfolding span_judged core_number_bytes refuse_if isnt
  span-judged first last = go (is_span T first last) refl
    where
      go : (b : Bool) → is_span T first last ≡ b
          → refuse_if (isnt b) 12 0 (success (core_number_bytes n xs base first last)) ≡ refuse_if (isnt b) 12 0 (success (core_number_bytes n ys base' first last))
      go true e = let s = span_of T first last e in ap success (tabulate-same n _ _ (λ u l. number-among (f.on first last s.0 s.1) u))
      go false e = refl

  -- the same groups: of order 0 there are none, and no core of order 0 is as large as one of order 1 and more
  as-large : (k first last k' first' last' : ℕ)
      → (is_span T first' last' and as_large (suc k) first last k' first' last' and has_core n xs base k' first' last') ≡ (is_span T first' last' and as_large (suc k) first last k' first' last' and has_core n ys base' k' first' last')
  unfolding as_large
  as-large k first last k' first' last' = same_test _ _
      (λ e. let s = and_left _ _ e in and_in _ _ s (sym (there s) ∙ and_right _ _ e))
      (λ e. let s = and_left _ _ e in and_in _ _ s (there s ∙ and_right _ _ e))
    where
      there : (is_span T first' last' and (leb (suc k) k' and leb first' first and leb last last')) ≡ true → has_core n xs base k' first' last' ≡ has_core n ys base' k' first' last'
      there e =
          let some : 1 ≤ k' = le_trans (suc-le-suc zero-le) (leb-true (suc k) k' (and_left _ _ (and_left _ _ (and_right _ _ e)))) in
          let s = span_of T first' last' (and_left _ _ e) in
          has_same k' first' last' some s.0 s.1

  maximal-same : (k first last : ℕ) → is_maximal n T xs base (suc k) first last ≡ is_maximal n T ys base' (suc k) first last
  unfolding is_maximal
  maximal-same k first last = all_same (suc n) _ _ (λ k' a. all_same T _ _ (λ first' b. all_same T _ _ (λ last' c.
      ap (λ (h : Bool). isnt h or same (suc k) first last k' first' last') (as-large k first last k' first' last'))))

  on_same : (first last : ℕ) → first ≤ last → last < T → groups_on n T xs base first last ≡ groups_on n T ys base' first last
  unfolding groups_on is_group
  on_same first last m h = concat-same (suc n) _ _ (λ k l. cell k)
    where
      core : List ℕ → ℕ → ℕ → SpanCore
      core ws b k = record { order = k; first = first; last = last; members = core_on n ws b k first last }

      cell : (k : ℕ) → keep_if (is_group n T xs base k first last) (core xs base k ∷ []) ≡ keep_if (is_group n T ys base' k first last) (core ys base' k ∷ [])
      cell zero = keep-nil _ _ (λ e. omega (arith, (group-parts n T xs base 0 first last e).0)) ∙ sym (keep-nil _ _ (λ e. omega (arith, (group-parts n T ys base' 0 first last e).0)))
      cell (suc k) = ap₂ (λ (b : Bool) (s : ℕ). keep_if b (record { order = suc k; first = first; last = last; members = s } ∷ []))
          (ap₂ (λ (x y : Bool). leb 1 (suc k) and x and y) (has_same (suc k) first last (suc-le-suc zero-le) m h) (maximal-same k first last)) (core-same (suc k) first last (suc-le-suc zero-le) m h)

  groups-same : groups_of n T xs base ≡ groups_of n T ys base'
  unfolding groups_of groups_from
  groups-same = concat-same T _ _ (λ first a. concat-same T _ _ (λ last b. cell first last b (leb first last) refl))
    where
      cell : (first last : ℕ) → last < T → (b : Bool) → leb first last ≡ b → keep_if (leb first last) (groups_on n T xs base first last) ≡ keep_if (leb first last) (groups_on n T ys base' first last)
      cell first last h true e = ap (keep_if (leb first last)) (on_same first last (leb-true _ _ e) h)
      cell first last h false e = keep-nil _ _ (λ g. clash g e) ∙ sym (keep-nil _ _ (λ g. clash g e))

  -- the same circles of each, and so the same records
  circles-same : (c : SpanCore) → Mem c (groups_of n T xs base) → circles_of n xs c ≡ circles_of n ys c
  unfolding circles_of core_on
  circles-same c i =
      let s = of-groups n T xs base c i in
      let within : Sub c.members base = rw s.members (core-sub (span_neighbours n xs c.first c.last) base c.order) in
      circles-rows c.members (sub-lt capacity c.members base within f.small) (pairs-less within (f.forth c.first c.last s.rising s.inside)) (pairs-less within (f.back c.first c.last s.rising s.inside))

  records-same : (cs : List SpanCore) → ((c : SpanCore) → Mem c cs → Mem c (groups_of n T xs base)) → circle_records n xs cs ≡ circle_records n ys cs
  unfolding circle_records records_of
  records-same [] h = refl
  records-same (c ∷ cs) h = ap₂ (λ (ss : List ℕ) (rs : List SpanCore). map (with_members c) ss ++ rs) (circles-same c (h c (Memᴰ.head refl))) (records-same cs (λ d i. h d (Memᴰ.tail i)))

  pub shown-same : (least : Thresholds) → shown_records n T xs base least ≡ shown_records n T ys base' least
  unfolding shown_records
  shown-same least = ap (kept least) (records-same (groups_of n T xs base) (λ c i. i) ∙ ap (circle_records n ys) groups-same)

  pub report-judged : (least : Thresholds) → report_judged n T xs base least ≡ report_judged n T ys base' least
  unfolding report_judged
  report-judged least = ap (λ (cs : List SpanCore). refuse_if (isnt (in_range least)) 17 0 (success (report_bytes n T cs))) (shown-same least)

  -- and the same parts of a cutting, but for the members at score 0
  members-same : (k first last : ℕ) → first ≤ last → last < T → members_on n xs base k first last ≡ members_at base k (members_on n ys base' k first last)
  unfolding members_on members_at
  members-same zero first last m h = refl
  members-same (suc k) first last m h = core-same (suc k) first last (suc-le-suc zero-le) m h

  part_same : (query first last : ℕ) → first ≤ last → last < T → part_on n xs base query first last ≡ at_score_zero base (part_on n ys base' query first last)
  unfolding part_on at_score_zero
  part_same query first last m h =
      ap₂ (λ (k s : ℕ). record { order = k; first = first; last = last; members = s }) (score-same query first last m h)
      (members-same (score_on n xs base query first last) first last m h ∙ ap (λ (k : ℕ). members_at base k (members_on n ys base' k first last)) (score-same query first last m h))

  parts_same : (query : ℕ) {c t : ℕ} {es : List ℕ} → Cuts T c t es → parts_from n xs base query t es ≡ map (at_score_zero base) (parts_from n ys base' query t es)
  unfolding parts_from
  parts_same query (one {t} {e} l m) = rw (part_same query t e l (omega arith))
  parts_same query (more {c} {t} {e} {es} l k) = rw (part_same query t e l (omega (arith, cuts_fit k)), parts_same query k)

  -- so the same plan, since the ends depend on the scores alone
  pub plan-same : (query h : ℕ) → 1 ≤ h → h ≤ T → parts_of n T xs base query h ≡ map (at_score_zero base) (parts_of n T ys base' query h)
  unfolding parts_of
  plan-same query zero l m = absurd (omega arith)
  plan-same query (suc c) l m =
      parts_same query (to-cuts (best-ends (score_on n xs base query) T (suc c) l m).best.cutting)
      ∙ ap (λ (es : List ℕ). map (at_score_zero base) (parts_from n ys base' query 0 es)) (ends_same (score_on n xs base query) (score_on n ys base' query) T (suc c) (λ x y p q. score-same query x y p q) l m)

-- the members of a plan at score 0 are the base set already
module _ (n : ℕ) (ws : List ℕ) (base query : ℕ) where
  zero-members : (k first last : ℕ) → members_at base k (members_on n ws base k first last) ≡ members_on n ws base k first last
  unfolding members_on members_at
  zero-members zero first last = refl
  zero-members (suc k) first last = refl

  zero-parts : (t : ℕ) (es : List ℕ) → map (at_score_zero base) (parts_from n ws base query t es) ≡ parts_from n ws base query t es
  unfolding parts_from part_on at_score_zero
  zero-parts t [] = refl
  zero-parts t (e ∷ es) = rw (zero-members (score_on n ws base query t e) t e, zero-parts (suc e) es)

  pub zero-shown : (T h : ℕ) → map (at_score_zero base) (parts_of n T ws base query h) ≡ parts_of n T ws base query h
  unfolding parts_of
  zero-shown T h = zero-parts 0 _
