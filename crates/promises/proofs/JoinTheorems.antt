-- Theorems of joining: it keeps its promise; the refusals that the promise names are all that it gives; and what it leaves is a day, on which core
-- numbers, the report, the plan and writing do what they promise.
use mathlib.Core.Path.{◌≡◌, refl, sym, ap, ◌∙◌, subst}
use mathlib.Core.Bool.{Bool, true, false}
use mathlib.Core.List.{List, [], ◌∷◌, ◌++◌, map, flatten, Memᴰ}
use mathlib.Core.Logic.{◌⊎◌, inl, inr, by_cases}
use Prim.Native.Nat.{ℕ, suc, ◌+◌, ◌*◌, ◌≤◌, ◌<◌}
use native.Mathlib.Decide.{dec_lt, dec_le}
use native.Mathlib.Omega.{arith}
use lib.ListN.{length, drop, replicate, length-append, length-drop, length-replicate, length-map}
use lib.Seq.{take-append_seam, drop-append_seam, take_at, drop_at}
use lib.Dec.{leb}
use borrow.Author.Tests.{leb-true, le-leb}
use Rattle.sets.specs.Sets.{In, Sub}
use Rattle.sets.proofs.Bools.{clash, to-false}
use Rattle.records.specs.declared.record.Record.{Record}
use Rattle.records.specs.Limits.{max_badges, max_contacts, max_log_bytes, within_limits, words_for}
use Rattle.records.proofs.WithinLimits.{limits_of}
use Rattle.records.specs.Outcomes.{Outcome, refused, success, and_then}
use Rattle.records.specs.Judging.{start, judge_from, valid_contact}
use Rattle.records.specs.Meaning.{badges_of, ticks_of, in_contact}
use Rattle.records.specs.Logs.{Mem, log_records}
use Rattle.records.proofs.Outcomes.{refused-success}
use Rattle.records.proofs.Accepting.{Accepted}
use Rattle.records.proofs.Grammar.{grammar-accepted}
use Rattle.records.proofs.Theorems.{log-length, met-below, met-apart}
use Rattle.days.specs.Days.{neighbours, adjacent, day_words, LentDay}
use Rattle.days.specs.Calls.{Read, check_of}
use Rattle.series.specs.Series.{parts, judge_logs, badges_in, ticks_in, Sized, AllSized, have_size, day_size, all_size, Size, common_size}
use Rattle.days.proofs.Days.{day-length, day-fits, neighbours-append, in-day, of-day, relation-day, day-head}
use Rattle.days.proofs.Checks.{check-day}
use Rattle.series.proofs.SeriesJudged.{size-of, size-in, first-sized, records-count, parts-count, each-accepted, Passed, series-passed, series-refused, series-different, series-little, series-few, series-success}
use Rattle.logs.specs.Tidy.{tidy_contacts}
use Rattle.logs.specs.Buffers.{Delivered}
use Rattle.thresholds.specs.declared.Thresholds.{Thresholds}
use Rattle.thresholds.specs.Ranges.{in_range}
use Rattle.trace.specs.Tracing.{Traces}
use Rattle.spans.specs.Spans.{SpanOfDay}
use Rattle.spans.specs.Reviews.{Review}
use Rattle.spans.specs.SpanCores.{SpanCore}
use Rattle.spans.specs.Encoding.{form_of, record_bytes, report_bytes}
use Rattle.groups.specs.GroupReports.{ReportsGroups}
use Rattle.groups.specs.ShiftPlans.{PlansShifts}
use Rattle.receivers.specs.Joining.{sum, Joinable, joinable, quorum, joined_day, Join, join_of}
use Rattle.receivers.proofs.Sums.{joinable-of, joinable-in}
use Rattle.receivers.proofs.Heard.{heard-some, heard-swap}
use Rattle.receivers.proofs.JoinCall.{joining, join-parts, join-refused, join-success, Succeeded, succeeded}
use Rattle.promises.specs.Joining.{AreLogs, none, more, MetBy, JoinAsked, HasJoined, JoinRefusal, by_18, by_log, by_19, by_8, Joins}
use Rattle.promises.specs.WrittenDays.{HasRuns, log_bytes, Writes}
use Rattle.promises.specs.CoreNumbers.{GivesCoreNumbers}
use Rattle.promises.proofs.Quorums.{some_of, heard-in, heard-of}
use Rattle.promises.proofs.WriteTheorems.{day-runs, written-log}
use Rattle.promises.proofs.PlanPromise.{plan-succeeds}

-- logs end to end, taken apart by their lengths, which add up
parts_whole : (logs : List (List ℕ)) → parts (flatten logs) (map length logs) ≡ logs
unfolding parts flatten
parts_whole [] = refl
parts_whole (log ∷ logs) = rw (take-append_seam log (flatten logs), drop-append_seam log (flatten logs), parts_whole logs)

sum-whole : (logs : List (List ℕ)) → sum (map length logs) ≡ length (flatten logs)
unfolding sum flatten
sum-whole [] = refl
sum-whole (log ∷ logs) = omega (arith, sum-whole logs, length-append log (flatten logs))

-- logs of the grammar are accepted, each with its records, which have n and T; there are as many lists of contacts, and these are valid
are-accepted : {n T : ℕ} (at : ℕ) {logs : List (List ℕ)} {all : List (List Record)} → AreLogs n T logs all → judge_logs at logs ≡ success (map (log_records n T) all)
unfolding judge_logs and_then
are-accepted at none = refl
are-accepted {n} {T} at (more {log} {cts} {logs} {all} l r) =
    let first : judge_from (start at) log ≡ success (log_records n T cts) = ap (judge_from (start at)) l.bytes ∙ grammar-accepted at n T cts l.limits l.few l.valid in
    rw (first, are-accepted (at + length log) r)

pub are-count : {n T : ℕ} {logs : List (List ℕ)} {all : List (List Record)} → AreLogs n T logs all → length all ≡ length logs
are-count none = refl
are-count (more l r) = ap suc (are-count r)

are-sized : (n T : ℕ) (all : List (List Record)) → AllSized n T (map (log_records n T) all)
unfolding log_records badges_of ticks_of
are-sized n T [] rs i = elim i [ ]
are-sized n T (cts ∷ all) rs (Memᴰ.head e) = subst (Sized n T) (sym e) (record { badges = refl; ticks = refl })
are-sized n T (cts ∷ all) rs (Memᴰ.tail m) = are-sized n T all rs m

are-valid : {n T : ℕ} {logs : List (List ℕ)} {all : List (List Record)} → AreLogs n T logs all → (cts : List Record) → Memᴰ cts all → (c : Record) → Mem c cts → valid_contact n T c ≡ true
are-valid none cts i c m = elim i [ ]
are-valid (more l r) cts (Memᴰ.head e) c m = l.valid c (subst (Mem c) e m)
are-valid (more l r) cts (Memᴰ.tail i) c m = are-valid r cts i c m

-- there are no more badges than a log can have
are-few : {n T : ℕ} {logs : List (List ℕ)} {all : List (List Record)} → AreLogs n T logs all → 0 < length logs → n ≤ max_badges
are-few none h = absurd (omega arith)
are-few (more l r) h = (limits_of l.limits).few

-- What joining leaves of logs that it is asked to join.
module _ {n T q : ℕ} {logs : List (List ℕ)} {all : List (List Record)} {words work : List ℕ} (a : JoinAsked n T q logs all words work) where
  abbrev joined_words : List ℕ
  joined_words = day_words n T (quorum q (map (log_records n T) all)) ++ drop (words_for n T) words

  abbrev cleared_work : List ℕ
  cleared_work = replicate (length all * words_for n T) 0 ++ drop (length all * words_for n T) work

  joined : join_of (flatten logs) (map length logs) q words work ≡ record { answer = success (record { badges = n; ticks = T }); words = joined_words; work = cleared_work }
  unfolding common_size joined_day
  joined =
      let rss : List (List Record) = map (log_records n T) all in
      let lists : length rss ≡ length all = length-map all (log_records n T) in
      let count : length all ≡ length logs = are-count a.are in
      let many : length (map length logs) ≡ length logs = length-map logs length in
      let size = first-sized n T rss (omega arith) (are-sized n T all) in
      let b : badges_in rss ≡ n = size.0 in
      let t : ticks_in rss ≡ T = size.1 in
      let judged : judge_logs 0 (parts (flatten logs) (map length logs)) ≡ success rss = ap (judge_logs 0) (parts_whole logs) ∙ are-accepted 0 a.are in
      let have : have_size (badges_in rss) (ticks_in rss) rss ≡ true = rw (b, t) (size-in n T rss (are-sized n T all)) in
      let room : day_size rss ≤ length words = rw (b, t) a.room in
      let work_room : all_size rss ≤ length work = rw (b, t, lists, count) a.work_room in
      let j : Joinable (length (flatten logs)) (map length logs) q = record { several = omega arith; few = omega arith; some = a.some; most = omega arith; whole = sum-whole logs } in
      join-success (flatten logs) (map length logs) q words work j rss (series-success _ _ _ rss judged have room work_room) ∙ rw (b, t, lists)

  -- bit v of word t×n+u is set exactly when at least q of the logs have the contact
  same : (t u : ℕ) → t < T → u < n → neighbours n joined_words t u ≡ neighbours n (day_words n T (quorum q (map (log_records n T) all))) t u
  same t u x y = neighbours-append n T _ _ t u (day-length n T _) x y

  bit-of : (t u v : ℕ) → t < T → u < n → In (neighbours n joined_words t u) v → MetBy q all t u v
  unfolding quorum
  bit-of t u v x y i = heard-of n T t u v q all (leb-true q _ (of-day n T (quorum q (map (log_records n T) all)) t u v x y (subst (λ (w : ℕ). In w v) (same t u x y) i)).1)

  bit_in : (t u v : ℕ) → t < T → u < n → MetBy q all t u v → In (neighbours n joined_words t u) v
  unfolding quorum
  bit_in t u v x y m =
      let s = some_of m a.some in
      let below = met-below n T s.0 (are-valid a.are s.0 s.1) t u v s.2 in
      subst (λ (w : ℕ). In w v) (sym (same t u x y)) (in-day n T (quorum q (map (log_records n T) all)) t u v x y below.2 (le-leb q _ (heard-in n T t u v m)))

  has-joined : HasJoined n T q all words work (join_of (flatten logs) (map length logs) q words work)
  has-joined =
      let day = day_words n T (quorum q (map (log_records n T) all)) in
      let rest = drop (words_for n T) words in
      let long : length day ≡ words_for n T = day-length n T (quorum q (map (log_records n T) all)) in
      let count = length all * words_for n T in
      let zeros : length {A = ℕ} (replicate count 0) ≡ count = length-replicate {A = ℕ} count 0 in
      let work_room : count ≤ length work = rw (are-count a.are) a.work_room in
      let room : words_for n T ≤ length words = a.room in
      subst (HasJoined n T q all words work) (sym joined) (record {
        answers = refl;
        day = record {
          marks = λ t u v x y. (bit-of t u v x y, bit_in t u v x y);
          fit = rw (take_at day rest (words_for n T) long) (day-fits n T _ (are-few a.are (omega (arith, a.several))));
          keeps = drop_at day rest (words_for n T) long;
          long = omega (arith, length-append day rest, length-drop (words_for n T) words);
        };
        cleared = record {
          zeros = take_at (replicate count 0) _ count zeros;
          keeps = drop_at (replicate count 0) _ count zeros;
          long = omega (arith, length-append (replicate count 0) (drop count work), length-drop count work);
        };
      })

module _ (logs lengths : List ℕ) (q : ℕ) (words work : List ℕ) where
  -- A call that there is cause to refuse is refused, and leaves every word as it was lent.
  refuses : (number offset : ℕ) → JoinRefusal logs lengths q (length words) (length work) number offset
      → join_of logs lengths q words work ≡ record { answer = refused number offset; words = words; work = work }
  refuses number offset (by_18 f) = join-parts logs lengths q words work f
  refuses number offset (by_log j e) = join-refused logs lengths q words work j number offset (series-refused _ _ _ number offset e)
  refuses number offset (by_19 {all} j e f) = join-refused logs lengths q words work j 19 0 (series-different _ _ _ all e (to-false _ (λ s. f (size-of _ _ all s))))
  refuses number offset (by_8 {all} j e o (inl h)) = join-refused logs lengths q words work j 8 0 (series-little _ _ _ all e (size-in _ _ all o) h)
  refuses number offset (by_8 {all} j e o (inr h)) =
      join-refused logs lengths q words work j 8 0 (by_cases (dec_lt (length words) (day_size all))
      (λ k. series-little _ _ _ all e (size-in _ _ all o) k)
      (λ k. series-few _ _ _ all e (size-in _ _ all o) (omega arith) h))

  -- Every call is refused for one of the reasons that the promise names, or leaves the joined day of the logs' records.
  pub data Decided : Type 0 where
    for-refusal : {number offset : ℕ} → JoinRefusal logs lengths q (length words) (length work) number offset → Decided
    for-day : (all : List (List Record)) → join_of logs lengths q words work ≡ joining q all words work → Decided

  pub decided : Decided
  decided = tested (joinable (length logs) lengths q) refl
    where
      sized : Joinable (length logs) lengths q → (all : List (List Record)) → judge_logs 0 (parts logs lengths) ≡ success all → (b : Bool) → have_size (badges_in all) (ticks_in all) all ≡ b → Decided
      sized j all e false f = for-refusal (by_19 j e (λ o. clash (size-in _ _ all o) f))
      sized j all e true f =
          by_cases (dec_lt (length words) (day_size all)) (λ h. for-refusal (by_8 j e (size-of _ _ all f) (inl h)))
          (λ h. by_cases (dec_lt (length work) (all_size all)) (λ k. for-refusal (by_8 j e (size-of _ _ all f) (inr k)))
          (λ k. for-day all (join-success logs lengths q words work j all (series-success _ _ _ all e f (omega arith) (omega arith)))))

      judged : Joinable (length logs) lengths q → (o : Outcome (List (List Record))) → judge_logs 0 (parts logs lengths) ≡ o → Decided
      judged j (refused number offset) e = for-refusal (by_log j e)
      judged j (success all) e = sized j all e (have_size (badges_in all) (ticks_in all) all) refl

      tested : (b : Bool) → joinable (length logs) lengths q ≡ b → Decided
      tested false e = for-refusal (by_18 (λ j. clash (joinable-in _ _ _ j) e))
      tested true e = judged (joinable-of _ _ _ e) (judge_logs 0 (parts logs lengths)) refl

  -- So it gives no other refusal.
  pub refused-for : (number offset : ℕ) → (join_of logs lengths q words work).answer ≡ refused number offset → JoinRefusal logs lengths q (length words) (length work) number offset
  refused-for number offset e = go decided
    where
      go : Decided → JoinRefusal logs lengths q (length words) (length work) number offset
      go (for-refusal {number = k} {offset = o} r) =
          let f : refused k o ≡ refused number offset = sym (ap (λ (x : Join). x.answer) (refuses k o r)) ∙ e in
          let same_number : k ≡ number = cc in
          let same-offset : o ≡ offset = cc in
          subst (JoinRefusal logs lengths q (length words) (length work) number) same-offset
          (subst (λ (x : ℕ). JoinRefusal logs lengths q (length words) (length work) x o) same_number r)
      go (for-day all f) = absurd (refused-success (sym e ∙ ap (λ (x : Join). x.answer) f))

-- Joining keeps its promise.
pub joins : Joins join_of
joins = record { succeeds = λ n T q logs all words work a. has-joined a; refuses = refuses }

-- some log
first_of : (all : List (List Record)) → 0 < length all → (rs : List Record) × Memᴰ rs all
first_of [] h = absurd (omega arith)
first_of (rs ∷ all) h = (rs, Memᴰ.head refl)

-- Where it succeeds, it leaves a lent day: at least one log has each contact, and a log's contacts are of two badges and hold both ways.
module _ (logs lengths : List ℕ) (q n T : ℕ) (words work : List ℕ) (e : (join_of logs lengths q words work).answer ≡ success (record { badges = n; ticks = T })) where
  -- the records of the logs, which pass, and each of which is accepted
  joined_records : Succeeded logs lengths q words work (record { badges = n; ticks = T })
  joined_records = succeeded logs lengths q words work (record { badges = n; ticks = T }) e

  passes : Passed (parts logs lengths) (length words) (length work) joined_records.all
  passes = series-passed (parts logs lengths) (length words) (length work) joined_records.all joined_records.passed

  accepted : (rs : List Record) → Memᴰ rs joined_records.all → (log : List ℕ) × Accepted log rs
  accepted = each-accepted 0 (parts logs lengths) joined_records.all passes.judged

  apart : (t u : ℕ) → quorum q joined_records.all t u u ≡ true → ⊥
  unfolding quorum
  apart t u f =
      let x = heard-some joined_records.all t u u (omega (arith, leb-true q _ f, joined_records.tested.some)) in
      let a = (accepted x.0 x.1).1 in
      met-apart _ _ a.cts a.valid t u (subst (λ (y : List Record). in_contact y t u u ≡ true) a.records x.2)

  swap : (t u v : ℕ) → quorum q joined_records.all t u v ≡ true → quorum q joined_records.all t v u ≡ true
  unfolding quorum
  swap t u v f = ap (leb q) (heard-swap joined_records.all t v u) ∙ f

  pub joined-lent-day : LentDay n T (join_of logs lengths q words work).words
  unfolding joined_day common_size
  joined-lent-day =
      let all = joined_records.all in
      let b : badges_in all ≡ n = ap (λ (s : Size). s.badges) joined_records.sized in
      let t : ticks_in all ≡ T = ap (λ (s : Size). s.ticks) joined_records.sized in
      let day = day_words n T (quorum q all) in
      let rest = drop (words_for n T) words in
      let long : length day ≡ words_for n T = day-length n T (quorum q all) in
      let leaves : (join_of logs lengths q words work).words ≡ day ++ rest = rw (b, t) at (ap (λ (x : Join). x.words) joined_records.leaves) in
      let first = first_of all (omega (arith, records-count 0 (parts logs lengths) all passes.judged, parts-count logs lengths, joined_records.tested.several)) in
      let size = passes.sized first.0 first.1 in
      let limits : within_limits n T ≡ true = rw (size.badges, size.ticks, b, t) at (accepted first.0 first.1).1.limits in
      subst (LentDay n T) (sym leaves) (record {
        limits = limits;
        enough = omega (arith, length-append day rest);
        day = day-head n T day (day ++ rest) (λ t u h k. sym (neighbours-append n T day rest t u long h k)) (relation-day n T (quorum q all) (λ t u h k f. apart t u f) (λ t u v h k l f. swap t u v f));
      })

  -- So the check that every call on words begins with passes,
  pub joined-passes : check_of n T (join_of logs lengths q words work).words ≡ success tt
  joined-passes = let d = joined-lent-day in check-day n T _ d.limits d.enough d.day

  -- and what is promised of days holds of it: lent enough, the trace, core numbers, the report and the plan succeed,
  pub joined-trace : (call : ℕ → ℕ → List ℕ → ℕ → ℕ → List ℕ → Delivered) (bytes : ℕ → ℕ → List ℕ → ℕ → ℕ → List ℕ) → Traces call bytes → (index s : ℕ) (buffer : List ℕ) → index < n → s < T → n + n ≤ length buffer
      → (call n T (join_of logs lengths q words work).words index s buffer).answer ≡ success (n + n)
  joined-trace call bytes p index s buffer i k h = ap (λ (y : Delivered). y.answer) (p.succeeds n T _ index s buffer (record { lent = joined-lent-day; badge = i; tick = k }) h)

  pub joined_numbers : (call : ℕ → ℕ → List ℕ → ℕ → ℕ → ℕ → List ℕ → Delivered) → GivesCoreNumbers call → (base first last : ℕ) (buffer : List ℕ) → Review n base → first ≤ last → last < T → n ≤ length buffer
      → (call n T (join_of logs lengths q words work).words base first last buffer).answer ≡ success n
  joined_numbers call p base first last buffer v r i h =
      let d : SpanOfDay n T (join_of logs lengths q words work).words first last = record { lent = joined-lent-day; rising = r; inside = i } in
      let x = p.exist n T _ base first last d v in
      ap (λ (y : Delivered). y.answer) (p.succeeds n T _ base first last buffer x.0 d v x.1 h)

  pub joined-report : (call : ℕ → ℕ → List ℕ → ℕ → Thresholds → List ℕ → Delivered) (groups : ℕ → ℕ → List ℕ → ℕ → Thresholds → List SpanCore) → ReportsGroups call groups
      → (base : ℕ) (least : Thresholds) (buffer : List ℕ) → Review n base → in_range least ≡ true → let bytes = report_bytes n T (groups n T (join_of logs lengths q words work).words base least) in
      length bytes ≤ length buffer → (call n T (join_of logs lengths q words work).words base least buffer).answer ≡ success (length bytes)
  joined-report call groups p base least buffer v r h =
      ap (λ (y : Delivered). y.answer) (p.succeeds n T _ base least buffer (record { lent = joined-lent-day; reviewed = v; range = r }) h)

  pub joined-plan : (call : ℕ → ℕ → List ℕ → ℕ → ℕ → ℕ → List ℕ → Delivered) → PlansShifts call → (base query h : ℕ) (buffer : List ℕ) → Review n base → Sub query base → 1 ≤ h → h ≤ T → 11 + (form_of n).set_bytes + record_bytes n * h ≤ length buffer
      → (call n T (join_of logs lengths q words work).words base query h buffer).answer ≡ success (11 + (form_of n).set_bytes + record_bytes n * h)
  joined-plan call p base query h buffer v s a b l = plan-succeeds call p buffer (record { lent = joined-lent-day; reviewed = v; named = s; some = a; enough = b }) l

  -- and writing succeeds, or is refused by 15.
  pub joined-write : (read : List ℕ → List ℕ → Read) (write : ℕ → ℕ → List ℕ → List ℕ → Delivered) → Writes read write → (buffer : List ℕ) → max_log_bytes ≤ length buffer
      → ((size : ℕ) × ((write n T (join_of logs lengths q words work).words buffer).answer ≡ success size)) ⊎ ((write n T (join_of logs lengths q words work).words buffer).answer ≡ refused 15 0)
  joined-write read write p buffer l =
      let ws = (join_of logs lengths q words work).words in
      let runs = tidy_contacts n T (adjacent n ws) in
      let h : HasRuns n T ws runs = record { lent = joined-lent-day; tidy = day-runs n T ws } in
      by_cases (dec_le (length runs) max_contacts)
      (λ k. inl (length (log_bytes n T runs), ap (λ (y : Delivered). y.answer) (p.succeeds n T ws buffer runs h k (omega (arith, log-length _ n T runs (written-log n T ws runs h k))))))
      (λ k. inr (ap (λ (y : Delivered). y.answer) (p.many n T ws buffer runs h (omega arith))))
