-- Theorems of writing: its promise, as it stands in specs/WrittenDays, proved of the call; and that words after the first 2×n×T make
-- no difference.
use mathlib.Core.Path.{◌≡◌, refl, sym, ap, ap₂, ◌∙◌, subst}
use mathlib.Core.Bool.{true}
use mathlib.Core.List.{List, ◌++◌}
use mathlib.Core.Logic.{◌↔◌}
use Prim.Native.Nat.{ℕ, ◌≤◌, ◌<◌}
use lib.ListN.{length, take, drop}
use lib.Seq.{length-take-le}
use borrow.Author.Tests.{eqb-true, eq-eqb}
use Rattle.sets.specs.Sets.{In}
use Rattle.sets.proofs.Sets.{in-lt}
use Rattle.records.specs.declared.record.Record.{Record}
use Rattle.sets.specs.Words.{Words}
use Rattle.sets.proofs.Words.{words_take}
use Rattle.records.specs.Limits.{max_contacts, words_for}
use Rattle.records.proofs.WithinLimits.{limits_of}
use Rattle.records.specs.Outcomes.{refused, success}
use Rattle.records.specs.Meaning.{in_contact}
use Rattle.records.specs.Verdicts.{Values}
use Rattle.records.specs.Logs.{Mem, log_records, IsLog, Met}
use Rattle.records.proofs.Verdicts.{values-log}
use Rattle.records.proofs.Theorems.{met-in, met_of}
use Rattle.days.specs.Days.{neighbours, adjacent, day_words}
use Rattle.days.specs.Calls.{read_of, check_of}
use Rattle.days.proofs.Days.{neighbours-take, day-by}
use Rattle.days.proofs.Checks.{check-day}
use Rattle.days.proofs.ReadCall.{left}
use Rattle.logs.specs.Tidy.{IsTidy, tidy_contacts, tidy_log}
use Rattle.logs.specs.Buffers.{deliver}
use Rattle.logs.specs.Calls.{write_judged, write_of}
use Rattle.logs.proofs.TidyForm.{tidy-form, tidy-same, tidy-unique, tidy-meet, tidy-valid, tidy-met-in, tidy-met-of}
use Rattle.logs.proofs.Delivering.{deliver-rest, deliver-short, deliver-fits}
use Rattle.logs.proofs.TidyCall as log
use Rattle.logs.proofs.TidyCall.{adjacent-append, write-few}
use Rattle.promises.specs.WrittenDays.{HasRuns, log_bytes, Writes}
use Rattle.promises.proofs.ReadTheorems.{read_log}

-- the tidy list of a day's words has the unbroken runs of its pairs, in order
pub day-runs : (n T : ℕ) (ws : List ℕ) → IsTidy n T (λ t u v. In (neighbours n ws t u) v) (tidy_contacts n T (adjacent n ws))
unfolding adjacent
day-runs n T ws = tidy-meet n T _ _ _ (λ t u v a b c. (eqb-true _ _, eq-eqb _ _)) (tidy-form n T (adjacent n ws))

module _ (n T : ℕ) (ws : List ℕ) (runs : List Record) (h : HasRuns n T ws runs) where
  -- and no other list does
  runs-are : runs ≡ tidy_contacts n T (adjacent n ws)
  runs-are = tidy-unique _ _ h.tidy (day-runs n T ws)

  passes : check_of n T ws ≡ success tt
  passes = check-day n T ws h.lent.limits h.lent.enough h.lent.day

  whole : (buffer : List ℕ) → length runs ≤ max_contacts → write_of n T ws buffer ≡ deliver (success (log_bytes n T runs)) buffer
  unfolding tidy_log
  whole buffer k = write-few n T ws buffer passes (subst (λ (cs : List Record). length cs ≤ max_contacts) runs-are k) (ap (log_bytes n T) runs-are)

  pub write-succeeds : (buffer : List ℕ) → length runs ≤ max_contacts → length (log_bytes n T runs) ≤ length buffer
      → write_of n T ws buffer ≡ record { answer = success (length (log_bytes n T runs)); buffer = log_bytes n T runs ++ drop (length (log_bytes n T runs)) buffer }
  write-succeeds buffer k l = whole buffer k ∙ deliver-fits (log_bytes n T runs) buffer l

  pub write-measures : (buffer : List ℕ) → length runs ≤ max_contacts → length buffer < length (log_bytes n T runs) → write_of n T ws buffer ≡ record { answer = refused 9 0; buffer = buffer }
  write-measures buffer k l = whole buffer k ∙ deliver-short (log_bytes n T runs) buffer l

  pub write-many : (buffer : List ℕ) → max_contacts < length runs → write_of n T ws buffer ≡ record { answer = refused 15 0; buffer = buffer }
  write-many buffer k = log.write-many n T ws buffer passes (subst (λ (cs : List Record). max_contacts < length cs) runs-are k)

  -- the log that is written means the day's contacts
  met-neighbours : (t u v : ℕ) → t < T → u < n → In (neighbours n ws t u) v ↔ Met runs t u v
  unfolding adjacent
  met-neighbours t u v a b = subst (λ (cs : List Record). In (neighbours n ws t u) v ↔ Met cs t u v) (sym runs-are) (
    λ i. tidy-met-in n T (adjacent n ws) apart both t u v a b (in-lt n _ v ((h.lent.day.tick t a).within u b) i) (eq-eqb _ _ i),
    λ m. eqb-true _ _ (tidy-met-of n T (adjacent n ws) apart both t u v m).3,
  )
    where
      apart : (t u : ℕ) → t < T → u < n → adjacent n ws t u u ≡ true → ⊥
      apart t u a b e = (h.lent.day.tick t a).irreflexive u b (eqb-true _ _ e)

      both : (t u v : ℕ) → t < T → u < n → v < n → adjacent n ws t u v ≡ true → adjacent n ws t v u ≡ true
      both t u v a b c e = eq-eqb _ _ ((h.lent.day.tick t a).symmetric u v b c (eqb-true _ _ e))

  module _ (k : length runs ≤ max_contacts) where
    pub written-log : IsLog (log_bytes n T runs) n T runs
    written-log = record { limits = h.lent.limits; few = k; valid = λ c m. tidy-valid n T (adjacent n ws) c (subst (Mem c) runs-are m); bytes = refl }

    written-words : Words ws → take (words_for n T) ws ≡ day_words n T (in_contact (log_records n T runs))
    written-words fit = day-by n T _ _ (limits_of h.lent.limits).few (length-take-le (words_for n T) ws h.lent.enough) (words_take (words_for n T) fit)
        (λ t u v a b i.
        let j : In (neighbours n ws t u) v = rw (neighbours-take n T ws t u a b) at i in
        (in-lt n _ v ((h.lent.day.tick t a).within u b) j, met-in n T runs t u v ((met-neighbours t u v a b).0 j)))
        (λ t u v a b c e. rw (neighbours-take n T ws t u a b) ((met-neighbours t u v a b).1 (met_of n T runs t u v e)))

    pub write-back : (lent : List ℕ) → Words ws → words_for n T ≤ length lent
        → read_of (log_bytes n T runs) lent
        ≡ record { answer = success (record { badges = n; ticks = T; contacts = length runs }); words = take (words_for n T) ws ++ drop (words_for n T) lent }
    write-back lent fit l = read_log _ lent n T runs written-log l ∙ ap₂ (λ (v : Values) (d : List ℕ). left (success v) (d ++ drop (words_for n T) lent)) (values-log n T runs written-log.valid) (sym (written-words fit))

-- Writing keeps its promise.
pub writes : Writes read_of write_of
writes = record {
  succeeds = λ n T ws buffer runs h. write-succeeds n T ws runs h buffer;
  measures = λ n T ws buffer runs h. write-measures n T ws runs h buffer;
  many = λ n T ws buffer runs h. write-many n T ws runs h buffer;
  back = λ n T ws lent runs h fit k. write-back n T ws runs h k lent fit;
}

-- Words after the first 2×n×T make no difference.
pub write-rest : (n T : ℕ) (ws xs ys buffer : List ℕ) → length ws ≡ words_for n T → write_of n T (ws ++ xs) buffer ≡ write_of n T (ws ++ ys) buffer
unfolding write_of write_judged tidy_log
write-rest n T ws xs ys buffer e = deliver-rest n T ws xs ys buffer e (rw (tidy-same n T _ _ same) refl)
  where
    same : (t u v : ℕ) → t < T → u < n → v < n → adjacent n (ws ++ xs) t u v ≡ adjacent n (ws ++ ys) t u v
    same t u v a b c = adjacent-append n T ws xs t u v e a b ∙ sym (adjacent-append n T ws ys t u v e a b)
