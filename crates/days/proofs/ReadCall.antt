-- Laws of the call read: its answer and the words it leaves, in the order of judging.
use mathlib.Core.Path.{◌≡◌, refl, sym, ap}
use mathlib.Core.Bool.{Bool, true, false}
use mathlib.Core.List.{List, ◌++◌}
use Prim.Native.Nat.{ℕ, ◌≤◌, ◌<◌}
use lib.ListN.{length, drop}
use lib.Dec.{ltb}
use borrow.Author.Tests.{lt-ltb, le-ltb, ltb-true, ltb-false}
use Rattle.records.specs.declared.record.Record.{Record}
use Rattle.records.specs.Limits.{words_for, max_words}
use Rattle.records.specs.Outcomes.{Outcome, refused, success}
use Rattle.records.specs.Judging.{judge}
use Rattle.records.specs.Meaning.{badges_of, ticks_of}
use Rattle.records.specs.Verdicts.{Values, values_of, verdict_of}
use Rattle.records.proofs.Outcomes.{refused-success, success-same, refused-same}
use Rattle.records.proofs.WithinLimits.{limits_of, words-most}
use Rattle.days.specs.Days.{day_of}
use Rattle.days.specs.Filling.{Accepts}
use Rattle.days.specs.Calls.{Read, read_judged, read_of}
use Rattle.days.proofs.Filled.{accepts-limits}

abbrev pub left : Outcome Values → List ℕ → Read
left answer words = record { answer = answer; words = words }

-- the log's refusal first, then 8, and success otherwise
pub read-refused : (log ws : List ℕ) (number offset : ℕ) → judge log ≡ refused number offset → read_of log ws ≡ left (refused number offset) ws
unfolding read_of read_judged
read-refused log ws number offset e = rw e

module _ (log ws : List ℕ) (rs : List Record) (e : judge log ≡ success rs) where
  pub read-few : length ws < words_for (badges_of rs) (ticks_of rs) → read_of log ws ≡ left (refused 8 0) ws
  unfolding read_of read_judged
  read-few h = rw (e, read_judged, lt-ltb (length ws) (words_for (badges_of rs) (ticks_of rs)) h)

  pub read-success : words_for (badges_of rs) (ticks_of rs) ≤ length ws → read_of log ws ≡ left (success (values_of rs)) (day_of rs ++ drop (words_for (badges_of rs) (ticks_of rs)) ws)
  unfolding read_of read_judged
  read-success h = rw (e, read_judged, le-ltb (length ws) (words_for (badges_of rs) (ticks_of rs)) h)

-- one of the three is the case
pub data Case (log ws : List ℕ) : Type 0 where
  log_refused : (number offset : ℕ) → judge log ≡ refused number offset → Case log ws
  words_few : (rs : List Record) → judge log ≡ success rs → length ws < words_for (badges_of rs) (ticks_of rs) → Case log ws
  words_enough : (rs : List Record) → judge log ≡ success rs → words_for (badges_of rs) (ticks_of rs) ≤ length ws → Case log ws

pub case-of : (log ws : List ℕ) → Case log ws
case-of log ws = go (judge log) refl
  where
    words : (rs : List Record) → judge log ≡ success rs → (b : Bool) → ltb (length ws) (words_for (badges_of rs) (ticks_of rs)) ≡ b → Case log ws
    words rs f true g = words_few rs f (ltb-true _ _ g)
    words rs f false g = words_enough rs f (ltb-false _ _ g)

    go : (o : Outcome (List Record)) → judge log ≡ o → Case log ws
    go (refused number offset) f = log_refused number offset f
    go (success rs) f = words rs f (ltb (length ws) (words_for (badges_of rs) (ticks_of rs))) refl

-- a verdict says what judging came to
pub verdict-refused : (o : Outcome (List Record)) (number offset : ℕ) → verdict_of o ≡ refused number offset → o ≡ refused number offset
unfolding verdict_of
verdict-refused (refused k p) number offset e = refused-same e
verdict-refused (success rs) number offset e = absurd (refused-success (sym e))

pub record Valued (o : Outcome (List Record)) (n T : ℕ) : Type 0 where
  pub records : List Record
  pub accepted : o ≡ success records
  pub badges : badges_of records ≡ n
  pub ticks : ticks_of records ≡ T

pub valued : (o : Outcome (List Record)) (n T m : ℕ) → verdict_of o ≡ success (record { badges = n; ticks = T; contacts = m }) → Valued o n T
unfolding verdict_of values_of
valued (refused number offset) n T m e = absurd (refused-success e)
valued (success rs) n T m e =
    let s = success-same e in
    record { records = rs; accepted = refl; badges = ap (λ (v : Values). v.badges) s; ticks = ap (λ (v : Values). v.ticks) s }

-- an accepted log, with its values
pub record Told (log : List ℕ) (n T m : ℕ) : Type 0 where
  pub accepts : Accepts log n T
  pub same : values_of accepts.records ≡ record { badges = n; ticks = T; contacts = m }

unfoldable pub told-by : {log : List ℕ} {rs : List Record} {n T m : ℕ} → judge log ≡ success rs → values_of rs ≡ record { badges = n; ticks = T; contacts = m } → Told log n T m
unfolding values_of
told-by {log} {rs} e s = record { accepts = record { records = rs; accepted = e; badges = ap (λ (v : Values). v.badges) s; ticks = ap (λ (v : Values). v.ticks) s }; same = s }

pub verdict-accepted : (log : List ℕ) (n T m : ℕ) → verdict_of (judge log) ≡ success (record { badges = n; ticks = T; contacts = m }) → Told log n T m
unfolding verdict_of
verdict-accepted log n T m e = go (judge log) refl e
  where
    go : (o : Outcome (List Record)) → judge log ≡ o → verdict_of o ≡ success (record { badges = n; ticks = T; contacts = m }) → Told log n T m
    go (refused k p) f g = absurd (refused-success g)
    go (success rs) f g = told-by f (success-same g)

-- the words of an accepted log are no more than those of the largest day
pub accepted-words : {log : List ℕ} {n T m : ℕ} → Told log n T m → words_for n T ≤ max_words
accepted-words t = words-most _ _ (limits_of (accepts-limits t.accepts))
