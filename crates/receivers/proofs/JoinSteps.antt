-- The joining call step by step: what is known once the series is read, and that what counting and clearing leave is what the call shall leave.
use mathlib.Core.Path.{◌≡◌, refl, sym, ap, ap₂, ◌∙◌}
use mathlib.Core.List.{List, ◌++◌}
use Prim.Native.Nat.{ℕ, ◌*◌, ◌≤◌}
use native.Mathlib.Omega.{arith}
use lib.ListN.{length, drop, replicate, length-append, length-drop}
use lib.Seq.{drop_at}
use Rattle.records.specs.declared.record.Record.{Record}
use Rattle.sets.specs.Words.{Words}
use Rattle.records.specs.Limits.{max_badges, words_for}
use Rattle.records.specs.Outcomes.{Outcome, refused, success}
use Rattle.series.specs.Series.{parts, badges_in, ticks_in, AllSized, day_size, all_size, judge_series, Size, common_size}
use Rattle.days.specs.Series.{days_of, read_series_of}
use Rattle.series.proofs.SeriesJudged.{series-passed, records-count, parts-count}
use Rattle.days.proofs.SeriesLoops.{days-length}
use Rattle.days.proofs.SeriesCall.{series-badges, answer-refused, answer-read}
use Rattle.days.specs.declared.refusal.SeriesRefusal.{SeriesRefusal}
use Rattle.days.specs.declared.refusal.SeriesRefusal.TheVariants as s
use Rattle.days.specs.Refusals.{series_number, series_offset}
use Rattle.receivers.specs.Refusals.{number_of, offset_of, of_series}
use Rattle.receivers.specs.Joining.{Joinable, joined_day, Join, join_of}
use Rattle.receivers.specs.Counting.{Combined}
use Rattle.receivers.proofs.JoinCall.{joining, join-refused, join-success}
use Rattle.receivers.proofs.Quorums.{combined-day}

abbrev pub left : Outcome Size → List ℕ → List ℕ → Join
left answer words work = record { answer = answer; words = words; work = work }

-- the parts of what the call leaves
pub leaves : {x : Join} {answer : Outcome Size} {words work : List ℕ} → x ≡ left answer words work → (answer ≡ x.answer) × ((words ≡ x.words) × (work ≡ x.work))
leaves e = (sym (ap (λ (y : Join). y.answer) e), (sym (ap (λ (y : Join). y.words) e), sym (ap (λ (y : Join). y.work) e)))

-- a refusal of the series is the call's
pub series-refuses : (logs lengths : List ℕ) (q : ℕ) (words work : List ℕ) (number offset : ℕ) (filled : List ℕ) → Joinable (length logs) lengths q
    → (read_series_of logs lengths (length words) work).answer ≡ refused number offset → filled ≡ (read_series_of logs lengths (length words) work).words
    → join_of logs lengths q words work ≡ left (refused number offset) words filled
series-refuses logs lengths q words work number offset filled j e f =
    let a = answer-refused logs lengths (length words) work number offset e in
    join-refused logs lengths q words work j number offset a.0 ∙ ap (left (refused number offset) words) (sym (f ∙ a.1))

-- and it says the same of itself to the call
pub series-says : (x : SeriesRefusal) → ◌≡◌ {A = Outcome Size} (refused (number_of (of_series x)) (offset_of (of_series x))) (refused (series_number x) (series_offset x))
series-says (s.Log x) = refl
series-says s.DifferentSizes = refl

-- The series is read: its days, of n badges and T ticks each, fill the first work words.
pub record Ready (logs lengths : List ℕ) (q : ℕ) (words work : List ℕ) (n T : ℕ) (filled : List ℕ) : Type 0 where
  pub all : List (List Record)
  pub tested : Joinable (length logs) lengths q
  pub passed : judge_series (parts logs lengths) (length words) (length work) ≡ success all
  pub badges : badges_in all ≡ n
  pub ticks : ticks_in all ≡ T
  pub few : n ≤ max_badges
  pub counted : length all ≡ length lengths
  pub sized : AllSized n T all
  pub room : words_for n T ≤ length words
  pub enough : length lengths * words_for n T ≤ length work
  pub days : filled ≡ days_of all ++ drop (length lengths * words_for n T) work

pub ready : {logs lengths : List ℕ} {q : ℕ} {words work : List ℕ} {each : Size} (filled : List ℕ) → Joinable (length logs) lengths q
    → (read_series_of logs lengths (length words) work).answer ≡ success each → filled ≡ (read_series_of logs lengths (length words) work).words → Ready logs lengths q words work each.badges each.ticks filled
unfolding common_size
ready {logs} {lengths} {q} {words} {work} {each} filled j e f =
    let a = answer-read logs lengths (length words) work each e in
    let p = series-passed (parts logs lengths) (length words) (length work) a.all a.passed in
    let b : badges_in a.all ≡ each.badges = ap (λ (s : Size). s.badges) a.sized in
    let t : ticks_in a.all ≡ each.ticks = ap (λ (s : Size). s.ticks) a.sized in
    let c : length a.all ≡ length lengths = records-count 0 (parts logs lengths) a.all p.judged ∙ parts-count logs lengths in
    let size : day_size a.all ≡ words_for each.badges each.ticks = ap₂ words_for b t in
    let every : all_size a.all ≡ length lengths * words_for each.badges each.ticks = ap₂ (λ (m k : ℕ). m * k) c size in
    record {
      all = a.all;
      tested = j;
      passed = a.passed;
      badges = b;
      ticks = t;
      few = rw (← b) (series-badges (parts logs lengths) a.all p.judged);
      counted = c;
      sized = λ rs m. let s = p.sized rs m in record { badges = s.badges ∙ b; ticks = s.ticks ∙ t };
      room = rw (← size) p.roomy;
      enough = rw (← every) p.enough;
      days = f ∙ a.days ∙ ap (λ (k : ℕ). days_of a.all ++ drop k work) every;
    }

module _ {logs lengths : List ℕ} {q : ℕ} {words work : List ℕ} {n T : ℕ} {filled : List ℕ} (r : Ready logs lengths q words work n T filled) where
  -- as many work words are there as were lent
  days-long : length (days_of r.all) ≡ length lengths * words_for n T
  days-long = days-length n T r.all r.sized ∙ ap (λ (m : ℕ). m * words_for n T) r.counted

  pub filled-long : length filled ≡ length work
  filled-long = ap length r.days ∙ length-append (days_of r.all) _ ∙ omega (arith, days-long, length-drop (length lengths * words_for n T) work, r.enough)

  -- what counting and clearing leave is what the call shall leave
  pub joined : (after sorted cleared : List ℕ) → length after ≡ length words → Words after → Combined q (length lengths) (words_for n T) filled words after
      → drop (length lengths * words_for n T) sorted ≡ drop (length lengths * words_for n T) filled
      → cleared ≡ replicate (length lengths * words_for n T) 0 ++ drop (length lengths * words_for n T) sorted
      → join_of logs lengths q words work ≡ left (success (record { badges = n; ticks = T })) after cleared
  unfolding common_size joined_day
  joined after sorted cleared l fit c k e =
      let m = length lengths * words_for n T in
      let rest = drop m work in
      let counted : Combined q (length r.all) (words_for n T) (days_of r.all ++ rest) words after = rw (r.counted, ← r.days) c in
      let day : after ≡ (joining q r.all words work).words =
      combined-day n T q r.all rest words after r.few r.sized r.tested.some (omega (arith, r.room)) fit counted ∙ rw (r.badges, r.ticks) in
      let zeros : cleared ≡ (joining q r.all words work).work =
      e ∙ ap (λ (x : List ℕ). replicate m 0 ++ x) (k ∙ ap (drop m) r.days ∙ drop_at (days_of r.all) rest m days-long) ∙ rw (r.badges, r.ticks, r.counted) in
      join-success logs lengths q words work r.tested r.all r.passed
      ∙ ap₂ (λ (x y : List ℕ). left (success (common_size r.all)) x y) (sym day) (sym zeros)
      ∙ ap₂ (λ (x y : ℕ). left (success (record { badges = x; ticks = y })) after cleared) r.badges r.ticks
