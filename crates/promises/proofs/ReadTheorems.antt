-- Theorems of logs and of reading: what their words say, and that reading keeps its promise.
use mathlib.Core.Path.{◌≡◌, sym, ap, ap₂, ◌∙◌, subst}
use mathlib.Core.Bool.{true}
use mathlib.Core.List.{List, ◌++◌}
use mathlib.Core.Logic.{◌↔◌}
use Prim.Native.Nat.{ℕ, ◌≤◌, ◌<◌}
use native.Mathlib.Nat.{le_of_eq}
use native.Mathlib.Omega.{arith}
use lib.ListN.{length, take, drop, length-append, length-drop, take-append-drop}
use lib.Seq.{take_at, drop_at, length-take-le}
use Rattle.sets.specs.Sets.{In}
use Rattle.sets.proofs.Sets.{ext}
use Rattle.records.specs.declared.record.Record.{Record}
use Rattle.records.specs.Limits.{words_for}
use Rattle.records.specs.Outcomes.{success}
use Rattle.records.specs.Judging.{valid_contact, judge}
use Rattle.records.specs.Meaning.{badges_of, ticks_of, in_contact}
use Rattle.records.specs.Verdicts.{values_of}
use Rattle.records.specs.Logs.{Mem, log_records, IsLog, Met}
use Rattle.records.proofs.Theorems.{log-accepted, met-in, met_of, met-below, met-apart}
use Rattle.records.proofs.Accepting.{accepted-of}
use Rattle.records.proofs.Verdicts.{values-log}
use Rattle.records.proofs.Meaning.{contact-swap}
use Rattle.days.specs.Days.{neighbours, day_words, day_of, IsDay}
use Rattle.days.specs.Calls.{Read, read_of, check_of}
use Rattle.days.proofs.Days.{day-length, day-fits, neighbours-append, neighbours-take, same-words, in-day, of-day, relation-day}
use Rattle.records.proofs.WithinLimits.{limits_of}
use Rattle.days.proofs.ReadCall.{read-success}
use Rattle.days.proofs.Checks.{check-append, check-day}
use Rattle.promises.specs.Reading.{HoldsDay, HasRead, Reads}

-- What each bit of an accepted log's words says, whatever words follow them.
module _ (n T : ℕ) (cts : List Record) (valid : (c : Record) → Mem c cts → valid_contact n T c ≡ true) (rest : List ℕ) where
  abbrev words : List ℕ
  words = day_words n T (in_contact (log_records n T cts)) ++ rest

  pub log-bits : (t u v : ℕ) → t < T → u < n → In (neighbours n words t u) v ↔ Met cts t u v
  log-bits t u v h k = (
    λ i. met_of n T cts t u v (of-day n T _ t u v h k (subst (λ (x : ℕ). In x v) same i)).1,
    λ m. subst (λ (x : ℕ). In x v) (sym same) (in-day n T _ t u v h k (met-below n T cts valid t u v m).2 (met-in n T cts t u v m)),
  )
    where
      same : neighbours n words t u ≡ neighbours n (day_words n T (in_contact (log_records n T cts))) t u
      same = neighbours-append n T _ rest t u (day-length n T _) h k

-- An accepted log's words are a day, and pass the check, whatever words follow them.
pub accepted-day : (log : List ℕ) (rs : List Record) → judge log ≡ success rs → IsDay (badges_of rs) (ticks_of rs) (day_of rs)
unfolding judge day_of
accepted-day log rs e =
    let a = accepted-of 0 log rs e in
    let n = badges_of rs in
    let T = ticks_of rs in
    relation-day n T (in_contact rs)
    (λ t u h k f. met-apart n T a.cts a.valid t u (subst (λ (x : List Record). in_contact x t u u ≡ true) a.records f))
    (λ t u v h k l f. contact-swap rs t u v f)

pub accepted-passes : (log : List ℕ) (rs : List Record) (rest : List ℕ) → judge log ≡ success rs → check_of (badges_of rs) (ticks_of rs) (day_of rs ++ rest) ≡ success tt
unfolding judge day_of
accepted-passes log rs rest e =
    let l = day-length (badges_of rs) (ticks_of rs) (in_contact rs) in
    check-append _ _ _ rest l ∙ check-day _ _ _ (accepted-of 0 log rs e).limits (le_of_eq (sym l)) (accepted-day log rs e)

-- Lent 2×n×T words or more, reading an accepted log succeeds.
pub read-succeeds : (log ws : List ℕ) (rs : List Record) → judge log ≡ success rs → words_for (badges_of rs) (ticks_of rs) ≤ length ws → (read_of log ws).answer ≡ success (values_of rs)
read-succeeds log ws rs e h = ap (λ (x : Read). x.answer) (read-success log ws rs e h)

-- what reading leaves of a log, and that it keeps its promise
pub read_log : (log ws : List ℕ) (n T : ℕ) (cts : List Record) → IsLog log n T cts → words_for n T ≤ length ws
    → read_of log ws ≡ record { answer = success (values_of (log_records n T cts)); words = day_words n T (in_contact (log_records n T cts)) ++ drop (words_for n T) ws }
unfolding day_of log_records badges_of ticks_of
read_log log ws n T cts l h = read-success log ws (log_records n T cts) (log-accepted log n T cts l) h

pub reads : Reads read_of
reads log ws n T cts l h =
    let day = day_words n T (in_contact (log_records n T cts)) in
    let rest = drop (words_for n T) ws in
    let long = day-length n T (in_contact (log_records n T cts)) in
    subst (HasRead n T cts ws) (sym (read_log log ws n T cts l h)) (record {
      answers = ap success (values-log n T cts l.valid);
      day = record {
        marks = log-bits n T cts l.valid rest;
        fit = rw (take_at day rest (words_for n T) long) (day-fits n T _ (limits_of l.limits).few);
        keeps = drop_at day rest (words_for n T) long;
        long = omega (arith, length-append day rest, long, length-drop (words_for n T) ws);
      };
    })

-- Words that hold the same day, in the same lent words, are the same.
pub days-same : {n T : ℕ} {P Q : ℕ → ℕ → ℕ → Type 0} {lent xs ys : List ℕ} → HoldsDay n T P lent xs → HoldsDay n T Q lent ys → words_for n T ≤ length lent
    → ((t u v : ℕ) → P t u v ↔ Q t u v) → xs ≡ ys
days-same {n} {T} {lent = lent} {xs = xs} {ys = ys} x y h same =
    sym (take-append-drop (words_for n T) xs) ∙ ap₂ ◌++◌ heads (x.keeps ∙ sym y.keeps) ∙ take-append-drop (words_for n T) ys
  where
    row : (t u : ℕ) → t < T → u < n → neighbours n (take (words_for n T) xs) t u ≡ neighbours n (take (words_for n T) ys) t u
    row t u a b = rw (neighbours-take n T xs t u a b, neighbours-take n T ys t u a b)
        (ext _ _ (λ v i. (y.marks t u v a b).1 ((same t u v).0 ((x.marks t u v a b).0 i))) (λ v i. (x.marks t u v a b).1 ((same t u v).1 ((y.marks t u v a b).0 i))))

    heads : take (words_for n T) xs ≡ take (words_for n T) ys
    heads = same-words n T _ _ (length-take-le _ xs (omega (arith, x.long))) (length-take-le _ ys (omega (arith, y.long))) x.fit y.fit row
