-- `checking::is_day` meets its contract. The ticks passed are those of a day, and the rows known are a tick's; in the tick at hand, those of the badges passed
-- are the tick's own; on the walk over what changes in a row, they would be a tick's if that row had the changes that are seen. Those unseen are
-- the badges that are still to come.
use mathlib.Core.Bool.{false}
use mathlib.Core.List.{List}
use mathlib.Core.Path.{◌≡◌, refl, sym, ap, ◌∙◌}
use mathlib.Core.Logic.{by_cases}
use Prim.Native.Nat.{ℕ, ◌+◌, ◌*◌, ◌%◌, ◌^◌, ◌≤◌, ◌<◌, min}
use native.Mathlib.Nat.{zero-add}
use native.Mathlib.Decide.{ℕ_discrete}
use native.Mathlib.Omega.{arith}
use lib.ListN.{length, get_or}
use borrow.Author.Rules.{rules}
use borrow.Author.Tests.{eqb-true}
use borrow.Author.Count.{below_none, below_more}
use Rattle.sets.specs.Sets.{bit, In, is_sub, symmetric_difference, full, only}
use Rattle.sets.specs.Words.{word_bits, set_words, lower_words, to_words, in_word, set_at, put_set}
use Rattle.sets.specs.Members.{capacity, members}
use Rattle.sets.proofs.Bools.{clash}
use Rattle.sets.proofs.Bits.{one_shl}
use Rattle.sets.proofs.Sets.{is-sub-in, is-sub-of, sub_refl}
use Rattle.sets.proofs.Walks.{at-turn}
use Rattle.days.specs.Days.{neighbours, IsTick, IsDay, is_day}
use Rattle.days.proofs.Days.{tick-fits, tick-same}
use Rattle.days.proofs.Scan.{day-in}
use Rattle.checks.specs.Changes.{change_at}
use Rattle.checks.specs.Scan.{Passed}
use Rattle.sets.proofs.InWord.{only-word, lowest-word, word-fewer}
use Rattle.checks.proofs.Walk.{walk_none, walk-member, walk-broken, walk_more, walk-done}
use Rattle.checks.proofs.KnownRows.{tick_words, tick-set, tick-none, Put, put-row}
use Rattle.checks.proofs.Scan.{day-broken, row-changed, row_same, change-lowest, same-toggled, rows_same, rows-below, below_rows}
use Rattle.checks.proofs.checking.is_day.Goals as goal
use Rattle.checks.proofs.checking.is_day.Goals.{After-changes-changed, After-is_subset, After-toggle, After-toggle-in-loop-u, After-walk_uppers, After-word-word, Else-not-is_subset, In-Some, In-scan}

-- the words of the tick at hand are among those of the day
fits : (c : goal.In-scan) →
    let a = c.args in
    c.scan.t * a.n * set_words + a.n * set_words ≤ length a.words.now
fits c = let a = c.args in omega (arith, tick-fits c.scan.t a.ticks a.n c.scan-test.true)

-- The rows of a tick are a tick's in its own words exactly when they are in the day's.
in-day : (n : ℕ) (words : List ℕ) (t : ℕ) → IsTick n (set_at (tick_words n words t)) → IsTick n (neighbours n words t)
in-day n words t d = tick-same n _ _ (λ u l. tick-set n words t u l) d

of-day : (n : ℕ) (words : List ℕ) (t : ℕ) → IsTick n (neighbours n words t) → IsTick n (set_at (tick_words n words t))
of-day n words t d = tick-same n _ _ (λ u l. sym (tick-set n words t u l)) d

-- where they are not, the words are not a day
broken : (n ticks : ℕ) (words : List ℕ) (t : ℕ) → t < ticks → (IsTick n (set_at (tick_words n words t)) → ⊥) → false ≡ is_day n ticks words
broken n ticks words t l f = sym (day-broken n ticks words t l (λ d. f (of-day n words t d)))

-- what the program tests of what changes in it: whether it is by badges below n alone
tested : (c : goal.After-is_subset) → c.is_subset.result ≡ is_sub (members c.changes-changed.result) (full c.args.n)
tested c =
    let n = c.args.n in
    let e : min n capacity ≡ n = omega arith in
    c.is_subset.ensures ∙ ap (is_sub (members c.changes-changed.result)) (c.full-badges.ensures ∙ ap full e)

-- so its rows have badges below n alone, where the test is passed, and none of its upper words is passed yet
to-pass : (c : goal.Else-not-is_subset) → c.is_subset.result ≡ is_sub (members c.changes-changed.result) (full c.args.n)
    → Passed c.args.n 0 (tick_words c.args.n c.args.words.now c.scan.t) c.scan.known
to-pass c e =
    let i = c.scan.invariant in
    record {
      size = i.1;
      below = rows-below _ c.scan.known c.changes-changed.ensures i.4 (is-sub-of _ _ (sym e ∙ c.if-not-is_subset.false));
      rows = i.4;
      upper = λ w l. absurd (omega arith);
    }

-- what is walked over is all that changes in the badge's row: the upper words are passed
to-walk : (c : goal.After-word-word) → c.word-word.result ≡ change_at (tick_words c.args.n c.args.words.now c.scan.t) c.loop-u.known c.loop-u.u
to-walk c =
    let tick = tick_words c.args.n c.args.words.now c.scan.t in
    c.word-word.ensures ∙ ap (λ (x : ℕ). get_or (to_words lower_words x) 0 0) c.change_at.ensures
    ∙ change-lowest tick c.loop-u.known c.loop-u.u (c.loop-u.invariant.1.upper c.loop-u.u c.loop-u-test.true)

-- the badge at hand is one of the unseen, below n and in the lowest word
other : (c : goal.In-Some) →
    let v = c.in-Some.v in
    In c.loop-v.v-iterator.word v × (v < c.args.n) × (v < word_bits)
other c =
    let w = c.loop-v.v-iterator.word in
    let v = c.in-Some.v in
    let h = c.loop-v.invariant in
    let i = at-turn (sub_refl w) h.3 c.in-Some.ensures.steps in
    (i.0, walk-member h.4 c.loop-u-test.true v i.0, i.1)

-- the badge whose row is walked is changed in the row of the badge at hand
changed : (c : goal.After-toggle) → c.in-Some.v < c.args.n → c.loop-u.u < word_bits →
    let v = c.in-Some.v in
    Put c.loop-v.known v (symmetric_difference (set_at c.loop-v.known v) (only c.loop-u.u)) c.toggle.new.known
changed c below low =
    let known = c.loop-v.known in
    let v = c.in-Some.v in
    let u = c.loop-u.u in
    let e : in_word 0 ((1 * 2 ^ u) % 2 ^ word_bits) ≡ only u = ap (in_word 0) (one_shl u low) ∙ only-word 0 u ∙ ap only (zero-add u) in
    put-row known v _ (omega (arith, c.loop-v.invariant.1)) (c.toggle.ensures ∙ ap (λ (s : ℕ). put_set known v (symmetric_difference (set_at known v) s)) e)

pub scan-init : goal.scan-init
scan-init c = (search rules, search rules, below_none _, search rules, tick-none _ capacity)

pub overflow_mul-base : goal.overflow_mul-base
overflow_mul-base c = omega (arith, fits (goal.at.overflow_mul-base c).In-scan)

pub overflow_mul-base-in-scan : goal.overflow_mul-base-in-scan
overflow_mul-base-in-scan c = omega (arith, fits (goal.at.overflow_mul-base-in-scan c).In-scan)

pub overflow_add-tick : goal.overflow_add-tick
overflow_add-tick c = omega (arith, fits (goal.at.overflow_add-tick c).In-scan)

pub offset_bounds-words-base : goal.offset_bounds-words-base
offset_bounds-words-base c = omega (arith, fits (goal.at.offset_bounds-words-base c).In-scan)

pub slice_bounds-tick-end : goal.slice_bounds-tick-end
slice_bounds-tick-end c = omega (arith, fits (goal.at.slice_bounds-tick-end c).In-scan)

pub scan-preserved-then-is_empty : goal.scan-preserved-then-is_empty
scan-preserved-then-is_empty c =
    let n = c.args.n in
    let known = c.scan.known in
    let i = c.scan.invariant in
    let tick = tick_words n c.args.words.now c.scan.t in
    let e = eqb-true _ _ (sym c.is_empty.ensures ∙ c.if-is_empty.true) in
    (search rules, search rules, below_more _ _ i.2 (in-day n c.args.words.now c.scan.t (tick-same n _ _ (rows_same tick known c.changes-changed.ensures i.4 e) i.4)), search rules, i.4)

pub walk_uppers-requires : goal.walk_uppers-requires
walk_uppers-requires c =
    let p = goal.at.walk_uppers-requires c in
    (c.requires.0, search rules, to-pass p.Else-not-is_subset (tested p.After-is_subset))

pub loop-u-init : goal.loop-u-init
loop-u-init c = (search rules, c.walk_uppers.ensures.passed c.if-not-walk_uppers.false, below_none _, search rules)

pub loop-u-preserved-then-word-eq0 : goal.loop-u-preserved-then-word-eq0
loop-u-preserved-then-word-eq0 c =
    let v = c.loop-u.invariant in
    let tick = tick_words c.args.n c.args.words.now c.scan.t in
    let e = to-walk (goal.at.loop-u-preserved-then-word-eq0 c).After-word-word in
    (search rules, v.1, below_more _ _ v.2 (row_same tick c.loop-u.known c.loop-u.u (sym e ∙ c.if-word-eq0.true)), search rules)

pub loop-v-init : goal.loop-v-init
unfolding change_at
loop-v-init c =
    let v = c.loop-u.invariant in
    let u = c.loop-u.u in
    let known = c.loop-u.known in
    let tick = tick_words c.args.n c.args.words.now c.scan.t in
    let e = to-walk (goal.at.loop-v-init c).After-word-word in
    rw c.into_iter-v-iterator.ensures.into_iter_gives (
      search rules,
      v.1.size,
      v.2,
      omega arith,
      walk_none v.1.rows c.loop-u-test.true (v.1.below u c.loop-u-test.true) e,
      v.1.upper,
      ap (symmetric_difference (set_at known u)) e ∙ row-changed tick known u,
    )

pub overflow_shl-u : goal.overflow_shl-u
overflow_shl-u c = omega (arith, c.if-v-u.false, (other (goal.at.overflow_shl-u c).In-Some).2)

pub toggle-requires : goal.toggle-requires
toggle-requires c = (omega (arith, (other (goal.at.toggle-requires c).In-Some).1, c.requires.0, c.loop-v.invariant.1), omega arith)

pub loop-v-preserved : goal.loop-v-preserved
loop-v-preserved c =
    let h = c.loop-v.invariant in
    let v = c.in-Some.v in
    let u = c.loop-u.u in
    let o = other (goal.at.loop-v-preserved c).In-Some in
    let larger = c.if-v-u.false in
    let low : u < word_bits = omega (arith, larger, o.2) in
    let p = changed (goal.at.loop-v-preserved c).After-toggle o.1 low in
    let t = c.in-Some.ensures.steps in (
      search rules,
      p.size ∙ h.1,
      (λ w l. p.others w (λ f. omega arith) ∙ h.2 w l),
      word-fewer _ v t h.3,
      rw t.2 (walk_more h.4 c.loop-u-test.true v o.0 (omega (arith, larger)) p.there p.others),
      (λ w l. by_cases (ℕ_discrete w v)
          (λ f. rw (f, p.there) (same-toggled low (h.5 v o.1)))
          (λ f. rw (p.others w f) (h.5 w l))),
      ap (λ (s : ℕ). symmetric_difference s c.word-word.result) (p.others u (λ f. omega (arith, larger))) ∙ h.6,
    )

pub toggle-requires-in-loop-u : goal.toggle-requires-in-loop-u
toggle-requires-in-loop-u c = (omega (arith, c.loop-u-test.true, c.requires.0, c.loop-v.invariant.1), omega arith)

pub overflow_step-u-in-loop-u : goal.overflow_step-u-in-loop-u
overflow_step-u-in-loop-u c = omega (arith, c.loop-u-test.true, c.requires.0)

pub loop-u-preserved : goal.loop-u-preserved
loop-u-preserved c =
    let h = c.loop-v.invariant in
    let u = c.loop-u.u in
    let known = c.loop-v.known in
    let tick = tick_words c.args.n c.args.words.now c.scan.t in
    let row : symmetric_difference (set_at known u) (in_word 0 c.word-word.result) ≡ set_at tick u = ap (symmetric_difference (set_at known u)) (lowest-word _) ∙ h.6 in
    let p = put-row known u _ (omega (arith, c.loop-u-test.true, c.requires.0, h.1)) (c.toggle-in-loop-u.ensures ∙ ap (put_set known u) row) in (
      search rules,
      record {
        size = p.size ∙ h.1;
        below = c.loop-u.invariant.1.below;
        rows = walk-done h.4 c.loop-u-test.true c.in-None.ensures.steps.0 p.there p.others;
        upper = λ w m. by_cases (ℕ_discrete w u) (λ f. rw (f, p.there) (record { at = λ x i. refl })) (λ f. rw (p.others w f) (h.5 w m));
      },
      below_more _ _ (λ w m. p.others w (λ e. omega arith) ∙ h.2 w m) p.there,
      search rules,
    )

pub scan-preserved : goal.scan-preserved
scan-preserved c =
    let n = c.args.n in
    let v = c.loop-u.invariant in
    (search rules, v.1.size, below_more _ _ c.scan.invariant.2 (in-day n c.args.words.now c.scan.t (tick-same n _ _ (λ w l. v.2 w (omega arith)) v.1.rows)), search rules, v.1.rows)

pub returns-after-scan : goal.returns-after-scan
returns-after-scan c =
    let a = c.args in
    let day : IsDay a.n a.ticks a.words.now = record { tick = λ t l. c.scan.invariant.2 t (omega arith) } in
    c.scan.invariant.0 ∙ sym (day-in _ _ _ day)

pub returns-then-not-is_subset : goal.returns-then-not-is_subset
returns-then-not-is_subset c =
    let a = c.args in
    let tick = tick_words a.n a.words.now c.scan.t in
    let e = tested (goal.at.returns-then-not-is_subset c).After-is_subset in
    broken a.n a.ticks a.words.now c.scan.t c.scan-test.true
    (λ d. clash (is-sub-in (below_rows tick c.scan.known c.changes-changed.ensures c.scan.invariant.4 d)) (sym e ∙ c.if-not-is_subset.true))

pub returns-then-not-walk_uppers : goal.returns-then-not-walk_uppers
returns-then-not-walk_uppers c =
    let a = c.args in
    broken a.n a.ticks a.words.now c.scan.t c.scan-test.true (c.walk_uppers.ensures.broken c.if-not-walk_uppers.true)

pub returns-then-v-u : goal.returns-then-v-u
returns-then-v-u c =
    let a = c.args in
    let u = c.loop-u.u in
    let v = c.in-Some.v in
    let h = c.loop-v.invariant in
    let o = other (goal.at.returns-then-v-u c).In-Some in
    broken a.n a.ticks a.words.now c.scan.t c.scan-test.true
    (walk-broken h.4 c.loop-u-test.true (set_at (tick_words a.n a.words.now c.scan.t)) v o.0 (omega (arith, c.if-v-u.true)) refl (λ l. ap (λ (s : ℕ). bit s u) (h.2 v l)))
