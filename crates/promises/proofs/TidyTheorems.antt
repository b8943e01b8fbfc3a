-- Theorems of tidying and writing: demand 2 as it stands in specs/Tidying, proved of the calls.
use mathlib.Core.Path.{◌≡◌, refl, sym, ap, ap₂, ◌∙◌}
use mathlib.Core.Bool.{Bool, true, false}
use mathlib.Core.List.{List, ◌++◌}
use mathlib.Core.Logic.{◌↔◌}
use Prim.Native.Nat.{ℕ, ◌≤◌, ◌<◌}
use native.Mathlib.Nat.{le_trans}
use lib.Dec.{ltb}
use lib.ListN.{length, drop}
use borrow.Author.Tests.{ltb-true, ltb-false}
use Rattle.sets.proofs.Bools.{same_test}
use Rattle.records.specs.declared.record.Record.{Record}
use Rattle.records.specs.Limits.{words_for}
use Rattle.records.specs.Outcomes.{Outcome, refused, success}
use Rattle.records.specs.Judging.{judge}
use Rattle.records.specs.Meaning.{badges_of, ticks_of, in_contact}
use Rattle.records.specs.Logs.{log_records, IsLog, Met}
use Rattle.records.proofs.Outcomes.{refused-success, success-same}
use Rattle.records.proofs.Meaning.{contact-swap}
use Rattle.records.proofs.Theorems.{log-accepted, met-in, met_of, met-below, met-apart}
use Rattle.days.specs.Days.{day_words}
use Rattle.days.specs.Calls.{Read, read_of}
use Rattle.days.proofs.Days.{day-same}
use Rattle.days.proofs.ReadCall.{Case, log_refused, words_few, words_enough, case-of}
use Rattle.logs.specs.Tidy.{tidy_contacts, tidy_log}
use Rattle.logs.specs.Buffers.{Delivered, deliver}
use Rattle.logs.specs.Calls.{tidy_before9, Tidied, tidy_of}
use Rattle.logs.proofs.TidyForm.{tidy-valid, tidy-met-in, tidy-met-of}
use Rattle.logs.proofs.TidyCount.{log-runs, tidy-count}
use Rattle.logs.proofs.Delivering.{deliver-short, deliver-fits}
use Rattle.logs.proofs.TidyCall.{log-same, before9-refused, before9-few, before9-enough, tidy-delivers}
use Rattle.promises.specs.Reading.{HoldsDay}
use Rattle.promises.specs.Tidying.{SameMeaning, HasTidied, FoundShort, Recovers, IsTidied, TidyRefusal, by_log, by_8, by_9, Tidies, tidied_judged, tidied_of}
use Rattle.promises.proofs.ReadTheorems.{read_log, reads}

-- the same meaning, one way round and the other, and of three logs
meaning-sym : {n T : ℕ} {cts : List Record} {n' T' : ℕ} {cts' : List Record} → SameMeaning n T cts n' T' cts' → SameMeaning n' T' cts' n T cts
meaning-sym s = record { badges = sym s.badges; ticks = sym s.ticks; contacts = λ t u v. ((s.contacts t u v).1, (s.contacts t u v).0) }

meaning-trans : {n T : ℕ} {cts : List Record} {n' T' : ℕ} {cts' : List Record} {n'' T'' : ℕ} {cts'' : List Record}
    → SameMeaning n T cts n' T' cts' → SameMeaning n' T' cts' n'' T'' cts'' → SameMeaning n T cts n'' T'' cts''
meaning-trans s q = record {
  badges = s.badges ∙ q.badges;
  ticks = s.ticks ∙ q.ticks;
  contacts = λ t u v. (λ m. (q.contacts t u v).0 ((s.contacts t u v).0 m), λ m. (s.contacts t u v).1 ((q.contacts t u v).1 m));
}

-- in two logs that mean the same, the same pairs are in contact by their records
contact-same : (n T : ℕ) (cts : List Record) (n' T' : ℕ) (cts' : List Record) → SameMeaning n T cts n' T' cts'
    → (t u v : ℕ) → in_contact (log_records n T cts) t u v ≡ in_contact (log_records n' T' cts') t u v
contact-same n T cts n' T' cts' s t u v = same_test _ _
    (λ e. met-in n' T' cts' t u v ((s.contacts t u v).0 (met_of n T cts t u v e)))
    (λ e. met-in n T cts t u v ((s.contacts t u v).1 (met_of n' T' cts' t u v e)))

-- equal records mean the same
records-same : (n T : ℕ) (cts : List Record) (n' T' : ℕ) (cts' : List Record) → log_records n T cts ≡ log_records n' T' cts' → SameMeaning n T cts n' T' cts'
unfolding log_records badges_of ticks_of
records-same n T cts n' T' cts' e = record {
  badges = ap badges_of e;
  ticks = ap ticks_of e;
  contacts = λ t u v.
      let f = ap (λ (rs : List Record). in_contact rs t u v) e in
      (λ m. met_of n' T' cts' t u v (sym f ∙ met-in n T cts t u v m), λ m. met_of n T cts t u v (f ∙ met-in n' T' cts' t u v m));
}

-- what tidy leaves, of what is delivered and the words
abbrev delivered : Delivered → List ℕ → Tidied
delivered d words = record { answer = d.answer; words = words; buffer = d.buffer }

-- what tidying makes of a log
tidied-is : (log : List ℕ) (n T : ℕ) (cts : List Record) → IsLog log n T cts → tidied_of log ≡ tidy_log n T (in_contact (log_records n T cts))
unfolding tidied_of tidied_judged log_records badges_of ticks_of
tidied-is log n T cts l = ap tidied_judged (log-accepted log n T cts l)

module _ (log : List ℕ) (n T : ℕ) (cts : List Record) (l : IsLog log n T cts) where
  abbrev runs : List Record
  runs = tidy_contacts n T (in_contact (log_records n T cts))

  -- The tidied log is a log within the limits,
  tidied-log : IsLog (tidied_of log) n T runs
  unfolding tidy_log
  tidied-log = record {
    limits = l.limits;
    few = le_trans (tidy-count n T cts l.valid) l.few;
    valid = tidy-valid n T (in_contact (log_records n T cts));
    bytes = tidied-is log n T cts l;
  }

  -- of the unbroken runs of the log's pairs, in order,
  pub tidied-form : IsTidied n T cts (tidied_of log)
  tidied-form = record {
    runs = runs;
    log = tidied-log;
    tidy = log-runs n T cts;
    fewer = tidy-count n T cts l.valid;
  }

  -- and means the same
  tidied-means : SameMeaning n T runs n T cts
  tidied-means = record {
    badges = refl;
    ticks = refl;
    contacts = λ t u v. (
      λ m. met_of n T cts t u v (tidy-met-of n T _ apart both t u v m).3,
      λ m. let b = met-below n T cts l.valid t u v m in tidy-met-in n T _ apart both t u v b.0 b.1 b.2 (met-in n T cts t u v m),
    );
  }
    where
      apart : (t u : ℕ) → t < T → u < n → in_contact (log_records n T cts) t u u ≡ true → ⊥
      apart t u h k e = met-apart n T cts l.valid t u e

      both : (t u v : ℕ) → t < T → u < n → v < n → in_contact (log_records n T cts) t u v ≡ true → in_contact (log_records n T cts) t v u ≡ true
      both t u v h k m e = contact-swap (log_records n T cts) t u v e

  -- Lent 2×n×T words or more, the tidied log is the answer, if the buffer holds it.
  module _ (work : List ℕ) (h : words_for n T ≤ length work) where
    tidy-bytes : tidy_before9 log work ≡ success (tidied_of log)
    unfolding log_records badges_of ticks_of
    tidy-bytes = before9-enough log work (log_records n T cts) (log-accepted log n T cts l) h ∙ ap success (sym (tidied-is log n T cts l))

    holds : HoldsDay n T (Met cts) work (read_of log work).words
    holds = (reads log work n T cts l h).day

    module _ (buffer : List ℕ) where
      left : {d : Delivered} → deliver (success (tidied_of log)) buffer ≡ d → tidy_of log work buffer ≡ record { answer = d.answer; words = (read_of log work).words; buffer = d.buffer }
      left e = tidy-delivers log work buffer tidy-bytes ∙ ap (λ (d : Delivered). delivered d (read_of log work).words) e

      pub tidy-succeeds : length (tidied_of log) ≤ length buffer → HasTidied n T cts (tidied_of log) work buffer (tidy_of log work buffer)
      tidy-succeeds k = rw (left (deliver-fits (tidied_of log) buffer k)) (record { answers = refl; writes = refl; day = holds })

      pub tidy-measures : length buffer < length (tidied_of log) → FoundShort n T cts work buffer (tidy_of log work buffer)
      tidy-measures k = rw (left (deliver-short (tidied_of log) buffer k)) (record { answers = refl; writes = refl; day = holds })

-- Two accepted logs tidy to equal bytes exactly when they mean the same.
pub tidy-decides : (log : List ℕ) (n T : ℕ) (cts : List Record) (log' : List ℕ) (n' T' : ℕ) (cts' : List Record) → IsLog log n T cts → IsLog log' n' T' cts'
    → (tidied_of log ≡ tidied_of log') ↔ SameMeaning n T cts n' T' cts'
tidy-decides log n T cts log' n' T' cts' l l' = (to, back)
  where
    to : tidied_of log ≡ tidied_of log' → SameMeaning n T cts n' T' cts'
    to e =
        let f = log-accepted _ n T _ (tidied-log log n T cts l) in
        let g = log-accepted _ n' T' _ (tidied-log log' n' T' cts' l') in
        let same = records-same n T _ n' T' _ (success-same (sym f ∙ ap judge e ∙ g)) in
        meaning-trans (meaning-sym (tidied-means log n T cts l)) (meaning-trans same (tidied-means log' n' T' cts' l'))

    back : SameMeaning n T cts n' T' cts' → tidied_of log ≡ tidied_of log'
    back s = tidied-is log n T cts l ∙ log-same n T _ _ (λ t u v h k m. contact-same n T cts n' T' cts' s t u v)
        ∙ ap₂ (λ (a b : ℕ). tidy_log a b (in_contact (log_records n' T' cts'))) s.badges s.ticks ∙ sym (tidied-is log' n' T' cts' l')

-- Tidying a tidied log changes nothing.
pub tidy-again : (log : List ℕ) (n T : ℕ) (cts : List Record) → IsLog log n T cts → tidied_of (tidied_of log) ≡ tidied_of log
tidy-again log n T cts l = (tidy-decides _ n T _ log n T cts (tidied-log log n T cts l) l).1 (tidied-means log n T cts l)

-- Reading a tidied log recovers n, T, the contacts and the words.
pub tidy-recovers : (log lent : List ℕ) (n T : ℕ) (cts : List Record) → IsLog log n T cts → words_for n T ≤ length lent → Recovers read_of n T cts log (tidied_of log) lent
tidy-recovers log lent n T cts l h =
    let f = tidied-log log n T cts l in
    let s = tidied-means log n T cts l in
    let r = reads (tidied_of log) lent n T _ f h in
    record {
      contacts = length (runs log n T cts l);
      answers = r.answers;
      day = record {
        marks = λ t u v a b. (λ i. (s.contacts t u v).0 ((r.day.marks t u v a b).0 i), λ m. (r.day.marks t u v a b).1 ((s.contacts t u v).1 m));
        fit = r.day.fit;
        keeps = r.day.keeps;
        long = r.day.long;
      };
      same = words (tidied_of log) _ f ∙ ap (λ (d : List ℕ). d ++ drop (words_for n T) lent) (day-same n T _ _ (λ t u v a b c. contact-same n T _ n T cts s t u v))
          ∙ sym (words log cts l);
    }
  where
    words : (bytes : List ℕ) (cs : List Record) → IsLog bytes n T cs → (read_of bytes lent).words ≡ day_words n T (in_contact (log_records n T cs)) ++ drop (words_for n T) lent
    words bytes cs k = ap (λ (x : Read). x.words) (read_log bytes lent n T cs k h)

-- Tidy refuses by the log's own refusal, 8 and 9 alone, in this order.
pub tidy-refuses : (log work buffer : List ℕ) (number offset : ℕ) → (tidy_of log work buffer).answer ≡ refused number offset → TidyRefusal log work buffer (tidied_of log) number offset
unfolding deliver tidied_of tidied_judged
tidy-refuses log work buffer number offset e = go (case-of log work)
  where
    Refuses : ℕ → ℕ → Type 0
    Refuses k o = TidyRefusal log work buffer (tidied_of log) k o

    answer : {o : Outcome (List ℕ)} → tidy_before9 log work ≡ o → (deliver o buffer).answer ≡ refused number offset
    answer f = ap (λ (x : Tidied). x.answer) (sym (tidy-delivers log work buffer f)) ∙ e

    same : {k o : ℕ} → ◌≡◌ {A = Outcome ℕ} (refused k o) (refused number offset) → Refuses k o → Refuses number offset
    same {k} {o} f r = let x : k ≡ number = cc in let y : o ≡ offset = cc in rw (← x, ← y) r

    measured : (rs : List Record) → judge log ≡ success rs → words_for (badges_of rs) (ticks_of rs) ≤ length work → (b : Bool) → ltb (length buffer) (length (tidied_of log)) ≡ b
        → (deliver (success (tidied_of log)) buffer).answer ≡ refused number offset → Refuses number offset
    measured rs f h true k g = let short = ltb-true _ _ k in same (ap (λ (d : Delivered). d.answer) (sym (deliver-short (tidied_of log) buffer short)) ∙ g) (by_9 f h short)
    measured rs f h false k g = absurd (refused-success (sym g ∙ ap (λ (d : Delivered). d.answer) (deliver-fits (tidied_of log) buffer (ltb-false _ _ k))))

    go : Case log work → Refuses number offset
    go (log_refused k p f) = same (answer (before9-refused log work k p f)) (by_log f)
    go (words_few rs f h) = same (answer (before9-few log work rs f h)) (by_8 f h)
    go (words_enough rs f h) = measured rs f h _ refl (answer (before9-enough log work rs f h ∙ ap (λ (o : Outcome (List Record)). success (tidied_judged o)) (sym f)))

-- Tidying keeps its promise.
pub tidies : Tidies read_of tidy_of tidied_of
tidies = record {
  succeeds = λ log work buffer n T cts l h. tidy-succeeds log n T cts l work h buffer;
  measures = λ log work buffer n T cts l h. tidy-measures log n T cts l work h buffer;
  refuses = tidy-refuses;
  decides = tidy-decides;
  recovers = tidy-recovers;
  form = tidied-form;
  again = tidy-again;
}

-- What the work words hold makes no difference to the answer and the buffer, only how many there are.
pub tidy-work : (log work work' buffer : List ℕ) → length work ≡ length work'
    → ((tidy_of log work buffer).answer ≡ (tidy_of log work' buffer).answer) × ((tidy_of log work buffer).buffer ≡ (tidy_of log work' buffer).buffer)
unfolding tidy_of tidy_before9
tidy-work log work work' buffer e = (rw e, rw e)
