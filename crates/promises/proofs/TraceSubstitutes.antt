-- Substitutes for the trace, each refuted from its statement: ticks by chains with equal ticks, by an index that passes on only after the start tick, and by
-- contacts in any order; and the largest source. No call that delivers such bytes keeps the promise, whatever bytes this is made of. Of each day some list is
-- such a trace, so that what is refuted is there.
use mathlib.Core.Path.{◌≡◌, refl, sym, ap, ◌∙◌, subst}
use mathlib.Core.Bool.{true}
use mathlib.Core.List.{List, [], ◌∷◌, ◌++◌}
use mathlib.Core.Logic.{by_cases}
use Prim.Native.Nat.{ℕ, zero, suc, ◌+◌, ◌≤◌, ◌<◌}
use native.Mathlib.Decide.{dec_le}
use native.Mathlib.Omega.{arith}
use lib.ListN.{length, take, drop, replicate, length-replicate}
use lib.Seq.{take_at}
use Rattle.sets.specs.Words.{set_at, from_words, to_words, words_of}
use Rattle.sets.specs.Bools.{◌and◌, ◌or◌, isnt, all}
use Rattle.sets.specs.Sets.{bit, In, intersection, union, difference, only, set_of, smallest}
use Rattle.sets.specs.Tables.{tabulate, piecewise}
use Rattle.sets.proofs.Sets.{not-in-none}
use Rattle.records.specs.Limits.{within_limits, words_for}
use Rattle.records.specs.Outcomes.{success}
use Rattle.records.proofs.WithinLimits.{limits_of}
use Rattle.days.specs.Days.{neighbours, is_tick, is_day}
use Rattle.days.proofs.Scan.{day-of}
use Rattle.logs.specs.Buffers.{Delivered}
use Rattle.chains.specs.Chains.{Contact, Chain}
use Rattle.chains.specs.Traces.{never, tick_in, source_in, Other, PassesOn, as_reached, IsTrace}
use Rattle.chains.specs.Sweep.{overlap, spread, source_from, ticks_first, passing, newly, tick_after, source_after, trace_bytes}
use Rattle.chains.specs.Judging.{StartOfDay}
use Rattle.chains.proofs.TraceUnique.{tick-arrived, trace-only}
use Rattle.trace.specs.Tracing.{Traces}
use Rattle.promises.specs.D1.{badges}
use Rattle.promises.specs.Tracing.{first, next, WithEqualTicks, AfterStart, InAnyOrder, TicksBy, LargestSources, TicksWithEqual, TicksAfterStart, TicksInAnyOrder, SourcesLargest, rising_words, falling_words, at_once_words, two_sources_words}

-- ---- of any contacts

module _ {Meet : ℕ → ℕ → ℕ → Type 0} {n index s : ℕ} {l : List ℕ} (x : IsTrace Meet n index s l) where
  -- Ticks by chains of another kind, one of which arrives at a badge that no chain reaches,
  pub reached-by-none : {Arrives : ℕ → ℕ → Type 0} {u t : ℕ} → TicksBy Arrives n index l → Other n index u → ((r : ℕ) → Chain Meet index s u r → ⊥) → Arrives u t → ⊥
  reached-by-none {u = u} {t = t} y o none a = y.none u t o ((x.unreached u o).1 none) a

  -- and ticks by chains of another kind, none of which arrives at a badge as soon as some chain does.
  pub reached-too-late : {Arrives : ℕ → ℕ → Type 0} {u t : ℕ} → TicksBy Arrives n index l → Other n index u → Chain Meet index s u t → ((r : ℕ) → r ≤ t → Arrives u r → ⊥) → ⊥
  reached-too-late {u = u} y o c late = let a = tick-arrived x o c in late (tick_in l u) a.1 (y.arrives u o a.0)

  -- The largest source, where there are two.
  pub larger-source : {u v w : ℕ} → LargestSources Meet n index s l → Other n index u → tick_in l u < never → v < w → Meet (tick_in l u) v u → Meet (tick_in l u) w u
      → PassesOn index s (tick_in l) (tick_in l u) v → PassesOn index s (tick_in l) (tick_in l u) w → ⊥
  larger-source {u} {v} {w} y o h less a b p q = omega (arith, (x.source u o h).smallest v a p, y.largest u w o h b q)

-- ---- of any call

-- No call of which something holds, of the bytes that it writes wherever it succeeds, keeps the promise: where a trace of which this holds is none.
abbrev NoCall : (ℕ → ℕ → List ℕ → ℕ → ℕ → List ℕ → Type 0) → Type 0
NoCall P = (call : ℕ → ℕ → List ℕ → ℕ → ℕ → List ℕ → Delivered) (bytes : ℕ → ℕ → List ℕ → ℕ → ℕ → List ℕ)
    → ((n T : ℕ) (ws : List ℕ) (index s : ℕ) (buffer : List ℕ) (size : ℕ) → (call n T ws index s buffer).answer ≡ success size → P n T ws index s (take size (call n T ws index s buffer).buffer))
    → Traces call bytes → ⊥

no_call : (P : ℕ → ℕ → List ℕ → ℕ → ℕ → List ℕ → Type 0) {n T : ℕ} {ws : List ℕ} {index s : ℕ} → StartOfDay n T ws index s
    → ((l : List ℕ) → IsTrace (Contact n T ws) n index s l → P n T ws index s l → ⊥) → NoCall P
no_call P {n} {T} {ws} {index} {s} d wrong call bytes f p = wrong (bytes n T ws index s) x (subst (P n T ws index s) written (f n T ws index s buffer (n + n) (ap (λ (r : Delivered). r.answer) e)))
  where
    buffer : List ℕ
    buffer = replicate (n + n) 0

    x : IsTrace (Contact n T ws) n index s (bytes n T ws index s)
    x = p.stated n T ws index s d

    e : call n T ws index s buffer ≡ record { answer = success (n + n); buffer = bytes n T ws index s ++ drop (n + n) buffer }
    e = p.succeeds n T ws index s buffer d (omega (arith, length-replicate {A = ℕ} (n + n) 0))

    written : take (n + n) (call n T ws index s buffer).buffer ≡ bytes n T ws index s
    written = ap (λ (r : Delivered). take (n + n) r.buffer) e ∙ take_at (bytes n T ws index s) (drop (n + n) buffer) (n + n) x.long

-- ---- of three paths of four badges, and of a day with two possible sources

tracing : ℕ
unfolding ◌and◌ ◌or◌ isnt all bit intersection union difference only set_of smallest tabulate piecewise within_limits neighbours is_tick is_day overlap spread source_from ticks_first passing newly tick_after source_after trace_bytes badges rising_words falling_words at_once_words two_sources_words set_at from_words to_words words_of
tracing = 0

-- from badge 0 and tick 0 on
started : {n T : ℕ} {ws : List ℕ} → within_limits n T ≡ true → words_for n T ≤ length ws → is_day n T ws ≡ true → StartOfDay n T ws 0 0
started {n} {T} {ws} l h e = let k = limits_of l in record { lent = record { limits = l; enough = h; day = day-of n T ws e }; badge = omega (arith, k.some); tick = omega (arith, k.long) }

at-once-start : StartOfDay 4 3 at_once_words 0 0
unfolding tracing
at-once-start = started refl (omega arith) refl

rising-start : StartOfDay 4 3 rising_words 0 0
unfolding tracing
rising-start = started refl (omega arith) refl

falling-start : StartOfDay 4 3 falling_words 0 0
unfolding tracing
falling-start = started refl (omega arith) refl

two-sources-start : StartOfDay 4 2 two_sources_words 0 0
unfolding tracing
two-sources-start = started refl (omega arith) refl

-- two contacts in one tick: badge 2 is not reached, but by chains with equal ticks
at-once-one : WithEqualTicks (Contact 4 3 at_once_words) 0 0 1 0
unfolding tracing
at-once-one = let c : Contact 4 3 at_once_words 0 0 1 = record { tick = omega arith; one = omega arith; other = omega arith; meet = refl } in first {t = 0} (omega arith) c

at-once-two : WithEqualTicks (Contact 4 3 at_once_words) 0 0 2 0
unfolding tracing
at-once-two = let c : Contact 4 3 at_once_words 0 1 2 = record { tick = omega arith; one = omega arith; other = omega arith; meet = refl } in next {t = 0} at-once-one (omega arith) c

pub equal-ticks : (l : List ℕ) → IsTrace (Contact 4 3 at_once_words) 4 0 0 l → TicksWithEqual 4 3 at_once_words 0 0 l → ⊥
unfolding tracing
equal-ticks l x y =
    let e : l ≡ 0 ∷ 0 ∷ 255 ∷ 255 ∷ 255 ∷ 0 ∷ 255 ∷ 255 ∷ [] = trace-only at-once-start x in
    y.none 2 0 (record { below = omega arith; apart = λ z. omega arith }) (ap (λ (k : List ℕ). tick_in k 2) e) at-once-two

pub equal-ticks-call : NoCall TicksWithEqual
equal-ticks-call = no_call TicksWithEqual at-once-start equal-ticks

-- a contact in the start tick: badge 1 is reached in it, but not by an index that passes on only after it
pub after-start : (l : List ℕ) → IsTrace (Contact 4 3 rising_words) 4 0 0 l → TicksAfterStart 4 3 rising_words 0 0 l → ⊥
unfolding tracing
after-start l x y =
    let e : l ≡ 0 ∷ 0 ∷ 1 ∷ 2 ∷ 255 ∷ 0 ∷ 1 ∷ 2 ∷ [] = trace-only rising-start x in
    let f : tick_in l 1 ≡ 0 = ap (λ (k : List ℕ). tick_in k 1) e in
    late f (y.arrives 1 (record { below = omega arith; apart = λ z. omega arith }) (omega arith))
  where
    late : {u t : ℕ} → t ≡ 0 → AfterStart (Contact 4 3 rising_words) 0 0 u t → ⊥
    late f (first h m) = omega arith
    late f (next c h m) = omega arith

pub after-start-call : NoCall TicksAfterStart
after-start-call = no_call TicksAfterStart rising-start after-start

-- a path met in falling ticks: nobody beyond the first is reached, but by contacts in any order
falling-one : InAnyOrder (Contact 4 3 falling_words) 0 0 1 2
unfolding tracing
falling-one = let c : Contact 4 3 falling_words 2 0 1 = record { tick = omega arith; one = omega arith; other = omega arith; meet = refl } in first {t = 2} (omega arith) c

falling-two : InAnyOrder (Contact 4 3 falling_words) 0 0 2 1
unfolding tracing
falling-two = let c : Contact 4 3 falling_words 1 1 2 = record { tick = omega arith; one = omega arith; other = omega arith; meet = refl } in next {t = 1} falling-one (omega arith) c

pub any_order : (l : List ℕ) → IsTrace (Contact 4 3 falling_words) 4 0 0 l → TicksInAnyOrder 4 3 falling_words 0 0 l → ⊥
unfolding tracing
any_order l x y =
    let e : l ≡ 0 ∷ 2 ∷ 255 ∷ 255 ∷ 255 ∷ 0 ∷ 255 ∷ 255 ∷ [] = trace-only falling-start x in
    y.none 2 1 (record { below = omega arith; apart = λ z. omega arith }) (ap (λ (k : List ℕ). tick_in k 2) e) falling-two

pub any-order-call : NoCall TicksInAnyOrder
any-order-call = no_call TicksInAnyOrder falling-start any_order

-- badges 1 and 2 may have passed on to badge 3
pub largest-source : (l : List ℕ) → IsTrace (Contact 4 2 two_sources_words) 4 0 0 l → SourcesLargest 4 2 two_sources_words 0 0 l → ⊥
unfolding tracing
largest-source l x y =
    let e : l ≡ 0 ∷ 0 ∷ 0 ∷ 1 ∷ 255 ∷ 0 ∷ 0 ∷ 1 ∷ [] = trace-only two-sources-start x in
    let f : tick_in l 3 ≡ 1 = ap (λ (k : List ℕ). tick_in k 3) e in
    let g : tick_in l 2 ≡ 0 = ap (λ (k : List ℕ). tick_in k 2) e in
    let h : source_in 4 l 3 ≡ 1 = ap (λ (k : List ℕ). source_in 4 k 3) e in
    let c : Contact 4 2 two_sources_words 1 2 3 = record { tick = omega arith; one = omega arith; other = omega arith; meet = refl } in
    let z = y.largest 3 2 (record { below = omega arith; apart = λ z. omega arith }) (omega arith) (subst (λ (t : ℕ). Contact 4 2 two_sources_words t 2 3) (sym f) c) (as_reached (omega arith)) in
    omega arith

pub largest-source-call : NoCall SourcesLargest
largest-source-call = no_call SourcesLargest two-sources-start largest-source

-- ---- each of these is there to be refuted: on its day some list has such ticks, or such sources

-- what is said of each of four badges but badge 0 is said of badges 1, 2 and 3
by_three : (P : ℕ → Type 0) → P 1 → P 2 → P 3 → (u : ℕ) → Other 4 0 u → P u
by_three P a b c zero o = absurd (o.apart refl)
by_three P a b c (suc zero) o = a
by_three P a b c (suc (suc zero)) o = b
by_three P a b c (suc (suc (suc zero))) o = c
by_three P a b c (suc (suc (suc (suc u)))) o = absurd (omega (arith, o.below))

-- by chains with equal ticks everybody is reached in tick 0
pub equal-ticks-there : TicksWithEqual 4 3 at_once_words 0 0 (0 ∷ 0 ∷ 0 ∷ 0 ∷ 255 ∷ 0 ∷ 1 ∷ 2 ∷ [])
unfolding tracing
equal-ticks-there =
    let two-three : Contact 4 3 at_once_words 0 2 3 = record { tick = omega arith; one = omega arith; other = omega arith; meet = refl } in
    let ticks : List ℕ = 0 ∷ 0 ∷ 0 ∷ 0 ∷ 255 ∷ 0 ∷ 1 ∷ 2 ∷ [] in
    record {
      arrives = λ u o h. by_three (λ u. WithEqualTicks (Contact 4 3 at_once_words) 0 0 u (tick_in ticks u)) at-once-one at-once-two (next {t = 0} at-once-two (omega arith) two-three) u o;
      soonest = λ u t o h c. by_three (λ u. tick_in ticks u ≤ t) (omega arith) (omega arith) (omega arith) u o;
      none = λ u t o e c. by_three (λ u. tick_in ticks u ≡ never → ⊥) (λ z. omega arith) (λ z. omega arith) (λ z. omega arith) u o e;
    }

-- by an index that passes on only after tick 0 nobody is reached: it is in contact in tick 0 alone
later-empty : (t : ℕ) → 0 < t → t < 3 → neighbours 4 rising_words t 0 ≡ 0
unfolding tracing
later-empty zero h k = absurd (omega arith)
later-empty (suc zero) h k = refl
later-empty (suc (suc zero)) h k = refl
later-empty (suc (suc (suc t))) h k = absurd (omega arith)

nobody-later : {u t : ℕ} → AfterStart (Contact 4 3 rising_words) 0 0 u t → ⊥
nobody-later (first {t} {v} h m) = not-in-none v (subst (λ (x : ℕ). In x v) (later-empty t h m.tick) m.meet)
nobody-later (next c h m) = nobody-later c

pub after-start-there : TicksAfterStart 4 3 rising_words 0 0 (0 ∷ 255 ∷ 255 ∷ 255 ∷ 255 ∷ 255 ∷ 255 ∷ 255 ∷ [])
after-start-there =
    let ticks : List ℕ = 0 ∷ 255 ∷ 255 ∷ 255 ∷ 255 ∷ 255 ∷ 255 ∷ 255 ∷ [] in
    record {
      arrives = λ u o h. absurd (by_three (λ u. tick_in ticks u < never → ⊥) (λ z. omega arith) (λ z. omega arith) (λ z. omega arith) u o h);
      soonest = λ u t o h c. absurd (nobody-later c);
      none = λ u t o e c. nobody-later c;
    }

-- by contacts in any order badges 2 and 3 are reached in tick 0, and badge 1, which is in contact with nobody in it, in tick 1
alone-at-first : (w : ℕ) → w < 4 → In (neighbours 4 falling_words 0 w) 1 → ⊥
unfolding tracing
alone-at-first zero k i = omega arith
alone-at-first (suc zero) k i = omega arith
alone-at-first (suc (suc zero)) k i = omega arith
alone-at-first (suc (suc (suc zero))) k i = omega arith
alone-at-first (suc (suc (suc (suc w)))) k i = omega arith

met-later : (t w v : ℕ) → v ≡ 1 → Contact 4 3 falling_words t w v → 1 ≤ t
met-later t w v e c = by_cases (dec_le 1 t) (λ k. k) (λ k.
    let z : t ≡ 0 = omega arith in
    absurd (alone-at-first w c.one (subst (λ (x : ℕ). In (neighbours 4 falling_words x w) 1) z (subst (In (neighbours 4 falling_words t w)) e c.meet))))

not-at-first : {u t : ℕ} → u ≡ 1 → InAnyOrder (Contact 4 3 falling_words) 0 0 u t → 1 ≤ t
not-at-first e (first {t} {v} h m) = met-later t 0 v e m
not-at-first e (next {r} {t} {u} {v} c h m) = met-later t u v e m

pub any-order-there : TicksInAnyOrder 4 3 falling_words 0 0 (0 ∷ 1 ∷ 0 ∷ 0 ∷ 255 ∷ 2 ∷ 3 ∷ 2 ∷ [])
unfolding tracing
any-order-there =
    let two-one : Contact 4 3 falling_words 1 2 1 = record { tick = omega arith; one = omega arith; other = omega arith; meet = refl } in
    let two-three : Contact 4 3 falling_words 0 2 3 = record { tick = omega arith; one = omega arith; other = omega arith; meet = refl } in
    let three-two : Contact 4 3 falling_words 0 3 2 = record { tick = omega arith; one = omega arith; other = omega arith; meet = refl } in
    let three : InAnyOrder (Contact 4 3 falling_words) 0 0 3 0 = next {t = 0} falling-two (omega arith) two-three in
    let ticks : List ℕ = 0 ∷ 1 ∷ 0 ∷ 0 ∷ 255 ∷ 2 ∷ 3 ∷ 2 ∷ [] in
    record {
      arrives = λ u o h. by_three (λ u. InAnyOrder (Contact 4 3 falling_words) 0 0 u (tick_in ticks u)) (next {t = 1} falling-two (omega arith) two-one) (next {t = 0} three (omega arith) three-two) three u o;
      soonest = λ u t o h c. by_three (λ u. InAnyOrder (Contact 4 3 falling_words) 0 0 u t → tick_in ticks u ≤ t) (λ c. not-at-first refl c) (λ c. omega arith) (λ c. omega arith) u o c;
      none = λ u t o e c. by_three (λ u. tick_in ticks u ≡ never → ⊥) (λ z. omega arith) (λ z. omega arith) (λ z. omega arith) u o e;
    }

-- the largest of those who may have passed on to badge 3 is badge 2; badges 1 and 2 are in contact with badge 0 alone in tick 0
with-index-alone : (v : ℕ) → v < 4 → (In (neighbours 4 two_sources_words 0 v) 1 → v ≤ 0) × (In (neighbours 4 two_sources_words 0 v) 2 → v ≤ 0)
unfolding tracing
with-index-alone zero k = (λ i. omega arith, λ i. omega arith)
with-index-alone (suc zero) k = (λ i. omega arith, λ i. omega arith)
with-index-alone (suc (suc zero)) k = (λ i. omega arith, λ i. omega arith)
with-index-alone (suc (suc (suc zero))) k = (λ i. omega arith, λ i. omega arith)
with-index-alone (suc (suc (suc (suc v)))) k = absurd (omega arith)

with-others : (v : ℕ) → v < 4 → In (neighbours 4 two_sources_words 1 v) 3 → v ≤ 2
unfolding tracing
with-others zero k i = omega arith
with-others (suc zero) k i = omega arith
with-others (suc (suc zero)) k i = omega arith
with-others (suc (suc (suc zero))) k i = absurd (omega arith)
with-others (suc (suc (suc (suc v)))) k i = absurd (omega arith)

pub largest-source-there : SourcesLargest 4 2 two_sources_words 0 0 (0 ∷ 0 ∷ 0 ∷ 1 ∷ 255 ∷ 0 ∷ 0 ∷ 2 ∷ [])
largest-source-there = record {
  largest = λ u v o h c p. by_three (λ u. Contact 4 2 two_sources_words (tick_in shown u) v u → v ≤ source_in 4 shown u)
      (λ c. (with-index-alone v c.one).0 c.meet)
      (λ c. (with-index-alone v c.one).1 c.meet)
      (λ c. with-others v c.one c.meet) u o c;
}
  where
    shown : List ℕ
    shown = 0 ∷ 0 ∷ 0 ∷ 1 ∷ 255 ∷ 0 ∷ 0 ∷ 2 ∷ []
