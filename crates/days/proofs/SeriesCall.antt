-- Laws of reading a series: what judging the logs tells, and what the call leaves, in the order of judging.
use mathlib.Core.Path.{◌≡◌, refl, sym, ap, ap₂, ◌∙◌}
use mathlib.Core.Bool.{Bool, true, false}
use mathlib.Core.List.{List, [], ◌∷◌, ◌++◌}
use Prim.Native.Nat.{ℕ, ◌*◌, ◌≤◌, ◌<◌}
use native.Mathlib.Omega.{arith}
use lib.ListN.{length, drop}
use Rattle.records.specs.declared.record.Record.{Record}
use Rattle.records.specs.Limits.{max_badges, words_for, max_words}
use Rattle.records.specs.Outcomes.{Outcome, refused, success, refuse_if, and_then}
use Rattle.records.proofs.Outcomes.{refused-success, refused-same, success-same, refuse-passed, then-passed}
use Rattle.records.proofs.Accepting.{accepted-of}
use Rattle.records.proofs.WithinLimits.{limits_of, words-most}
use Rattle.sets.specs.Bools.{◌or◌, isnt}
use Rattle.sets.proofs.Bools.{isnt-false}
use lib.Dec.{ltb}
use Rattle.series.specs.Series.{parts, judge_logs, badges_in, ticks_in, have_size, day_size, all_size, judge_series, Size, common_size}
use Rattle.days.specs.Series.{days_of, SeriesRead, series_judged, read_series_of}
use Rattle.days.specs.SeriesSteps.{sizes_of, Fillable, Filled}
use Rattle.series.proofs.SeriesJudged.{size-of, fronted, records-count, parts-count, series-little, series-few, series-success}

abbrev pub left : Outcome Size → List ℕ → SeriesRead
left answer words = record { answer = answer; words = words }

pub leaves : {x : SeriesRead} {answer : Outcome Size} {words : List ℕ} → x ≡ left answer words → (answer ≡ x.answer) × (words ≡ x.words)
leaves e = (sym (ap (λ (x : SeriesRead). x.answer) e), sym (ap (λ (x : SeriesRead). x.words) e))

-- accepted logs of one size
pub record Told (logs lengths : List ℕ) (size : Size) : Type 0 where
  pub all : List (List Record)
  pub judged : judge_logs 0 (parts logs lengths) ≡ success all
  pub badges : badges_in all ≡ size.badges
  pub ticks : ticks_in all ≡ size.ticks
  pub alike : have_size (badges_in all) (ticks_in all) all ≡ true
  pub counted : length all ≡ length lengths

pub sizes-told : (logs lengths : List ℕ) (size : Size) → sizes_of (judge_logs 0 (parts logs lengths)) ≡ success size → Told logs lengths size
unfolding sizes_of common_size
sizes-told logs lengths size e =
    let p = then-passed (judge_logs 0 (parts logs lengths)) _ e in
    let q = refuse-passed _ _ _ _ p.2 in
    let s = success-same q.1 in
    record {
      all = p.0;
      judged = p.1;
      badges = ap (λ (x : Size). x.badges) s;
      ticks = ap (λ (x : Size). x.ticks) s;
      alike = isnt-false _ q.0;
      counted = records-count 0 (parts logs lengths) p.0 p.1 ∙ parts-count logs lengths;
    }

-- a day of accepted logs has no more badges than any, and no more words than the largest
pub series-badges : (logs : List (List ℕ)) (all : List (List Record)) → judge_logs 0 logs ≡ success all → badges_in all ≤ max_badges
unfolding judge_logs badges_in
series-badges [] all e = rw (← success-same e) (omega arith)
series-badges (log ∷ logs) all e =
    let f = fronted 0 log logs all e in
    rw (← f.same) (limits_of (accepted-of 0 log f.first f.accepted).limits).few

pub series-most : (logs : List (List ℕ)) (all : List (List Record)) → judge_logs 0 logs ≡ success all → day_size all ≤ max_words
unfolding judge_logs badges_in ticks_in
series-most [] all e = rw (← success-same e) (omega arith)
series-most (log ∷ logs) all e =
    let f = fronted 0 log logs all e in
    rw (← f.same) (words-most _ _ (limits_of (accepted-of 0 log f.first f.accepted).limits))

module _ {logs lengths : List ℕ} {each : Size} (t : Told logs lengths each) where
  pub told-most : words_for each.badges each.ticks ≤ max_words
  told-most = rw (← t.badges, ← t.ticks) (series-most (parts logs lengths) t.all t.judged)

  -- what filling asks
  pub fillable : (words : ℕ) → length lengths * words_for each.badges each.ticks ≤ words → Fillable logs lengths each.badges each.ticks words
  fillable words h =
      let s = size-of _ _ t.all t.alike in
      record { all = t.all; accepted = t.judged; sized = λ rs m. record { badges = (s rs m).badges ∙ t.badges; ticks = (s rs m).ticks ∙ t.ticks }; room = h }

-- What the call leaves: a log's refusal, 19, 8, or the days.
module _ (logs lengths : List ℕ) (room : ℕ) (ws : List ℕ) where
  by-refusal : (number offset : ℕ) → judge_series (parts logs lengths) room (length ws) ≡ refused number offset → read_series_of logs lengths room ws ≡ left (refused number offset) ws
  unfolding read_series_of series_judged
  by-refusal number offset e = rw e

  -- what refuses the logs, or their sizes
  pub call-refused : (number offset : ℕ) → sizes_of (judge_logs 0 (parts logs lengths)) ≡ refused number offset → read_series_of logs lengths room ws ≡ left (refused number offset) ws
  unfolding sizes_of and_then refuse_if judge_series
  call-refused number offset e = by-refusal number offset (go (judge_logs 0 (parts logs lengths)) e)
    where
      alike : {A B : Type 0} (b : Bool) (x : A) (y : Outcome B) → refuse_if b 19 0 (success x) ≡ refused number offset → refuse_if b 19 0 y ≡ refused number offset
      alike true x y f = refused-same f
      alike false x y f = absurd (refused-success (sym f))

      go : (o : Outcome (List (List Record))) → sizes_of o ≡ refused number offset
          → and_then o (λ all. refuse_if (isnt (have_size (badges_in all) (ticks_in all) all)) 19 0 (refuse_if (ltb room (day_size all) or ltb (length ws) (all_size all)) 8 0 (success all))) ≡ refused number offset
      go (refused k p) f = refused-same f
      go (success all) f = alike _ _ _ f

  module _ {each : Size} (t : Told logs lengths each) where
    -- the words of a day, as the program counts them, and of all days
    size : day_size t.all ≡ words_for each.badges each.ticks
    size = ap₂ words_for t.badges t.ticks

    every : all_size t.all ≡ length lengths * words_for each.badges each.ticks
    every = ap₂ (λ (m k : ℕ). m * k) t.counted size

    pub call-little : room < words_for each.badges each.ticks → read_series_of logs lengths room ws ≡ left (refused 8 0) ws
    call-little h = by-refusal 8 0 (series-little (parts logs lengths) room (length ws) t.all t.judged t.alike (omega (arith, size)))

    pub call-few : words_for each.badges each.ticks ≤ room → length ws < length lengths * words_for each.badges each.ticks → read_series_of logs lengths room ws ≡ left (refused 8 0) ws
    call-few h k = by-refusal 8 0 (series-few (parts logs lengths) room (length ws) t.all t.judged t.alike (omega (arith, size)) (omega (arith, every)))

    pub call-read : (after : List ℕ) → words_for each.badges each.ticks ≤ room → length lengths * words_for each.badges each.ticks ≤ length ws
        → Filled logs lengths each.badges each.ticks ws after → read_series_of logs lengths room ws ≡ left (success each) after
    unfolding read_series_of series_judged common_size
    call-read after h k f =
        let p : judge_series (parts logs lengths) room (length ws) ≡ success t.all =
        series-success (parts logs lengths) room (length ws) t.all t.judged t.alike (omega (arith, size)) (omega (arith, every)) in
        rw p (ap₂ left (ap₂ (λ (n T : ℕ). success (record { badges = n; ticks = T })) t.badges t.ticks) (ap (λ (m : ℕ). days_of t.all ++ drop m ws) every ∙ sym (f.days t.all t.judged)))

  -- What the answer tells: a refusal leaves every word, and after a success the days are there.
  pub answer-refused : (number offset : ℕ) → (read_series_of logs lengths room ws).answer ≡ refused number offset
      → (judge_series (parts logs lengths) room (length ws) ≡ refused number offset) × ((read_series_of logs lengths room ws).words ≡ ws)
  unfolding read_series_of series_judged
  answer-refused number offset e = go (judge_series (parts logs lengths) room (length ws)) e
    where
      go : (o : Outcome (List (List Record))) → (series_judged o ws).answer ≡ refused number offset → (o ≡ refused number offset) × ((series_judged o ws).words ≡ ws)
      go (refused k p) f = (refused-same f, refl)
      go (success all) f = absurd (refused-success (sym f))

  pub record Answered (size : Size) : Type 0 where
    pub all : List (List Record)
    pub passed : judge_series (parts logs lengths) room (length ws) ≡ success all
    pub sized : common_size all ≡ size
    pub days : (read_series_of logs lengths room ws).words ≡ days_of all ++ drop (all_size all) ws

  pub answer-read : (size : Size) → (read_series_of logs lengths room ws).answer ≡ success size → Answered size
  unfolding read_series_of series_judged
  answer-read size e = go (judge_series (parts logs lengths) room (length ws)) refl e
    where
      go : (o : Outcome (List (List Record))) → judge_series (parts logs lengths) room (length ws) ≡ o → (series_judged o ws).answer ≡ success size → Answered size
      go (refused k p) f g = absurd (refused-success g)
      go (success all) f g = record { all = all; passed = f; sized = success-same g; days = ap (λ (o : Outcome (List (List Record))). (series_judged o ws).words) f }
