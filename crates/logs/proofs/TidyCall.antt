-- Laws of the calls write and tidy: what each answers and leaves, in the order of judging.
use mathlib.Core.Path.{◌≡◌, sym, ap, ◌∙◌, subst}
use mathlib.Core.Bool.{Bool, true}
use mathlib.Core.List.{List, ◌++◌}
use Prim.Native.Nat.{ℕ, ◌≤◌, ◌<◌}
use lib.ListN.{length}
use borrow.Author.Tests.{lt-ltb, le-ltb, eq-eqb, eqb-true}
use Rattle.sets.proofs.Bools.{same_test}
use Rattle.records.specs.declared.record.Record.{Record}
use Rattle.records.specs.Limits.{max_contacts, within_limits, words_for}
use Rattle.records.specs.Outcomes.{Outcome, refused, success, refuse_if, and_then}
use Rattle.records.specs.Judging.{judge}
use Rattle.records.specs.Meaning.{badges_of, ticks_of, in_contact}
use Rattle.records.specs.Verdicts.{Values, values_of}
use Rattle.records.proofs.Outcomes.{refused-success, success-same, refused-same}
use Rattle.records.proofs.Accepting.{accepted-of}
use Rattle.days.specs.Days.{adjacent, day_words, day_of}
use Rattle.days.specs.Calls.{Read, read_of, check_of}
use Rattle.days.proofs.Days.{day-length, neighbours-append, in-day, of-day}
use Rattle.days.proofs.ReadCall.{read-refused, read-few, read-success, Case, log_refused, words_few, words_enough, case-of}
use Rattle.logs.specs.Tidy.{tidy_contacts, tidy_log}
use Rattle.logs.specs.Buffers.{deliver}
use Rattle.logs.specs.Calls.{write_judged, write_of, tidy_before9, tidy_of}
use Rattle.logs.proofs.TidyForm.{tidy-same}
use Rattle.logs.proofs.TidyCount.{accepted-few}
use Rattle.logs.proofs.Delivering.{deliver-refused}

-- words after the first 2×n×T make no difference
pub adjacent-append : (n T : ℕ) (ws rest : List ℕ) (t u v : ℕ) → length ws ≡ words_for n T → t < T → u < n → adjacent n (ws ++ rest) t u v ≡ adjacent n ws t u v
unfolding adjacent
adjacent-append n T ws rest t u v e h k = rw (neighbours-append n T ws rest t u e h k)

-- a day's words say which pairs are in contact, whatever words follow them
pub adjacent-day : (n T : ℕ) (r : ℕ → ℕ → ℕ → Bool) (rest : List ℕ) (t u v : ℕ) → t < T → u < n → v < n → adjacent n (day_words n T r ++ rest) t u v ≡ r t u v
unfolding adjacent
adjacent-day n T r rest t u v h k l =
    rw (neighbours-append n T (day_words n T r) rest t u (day-length n T r) h k)
    (same_test _ _ (λ e. (of-day n T r t u v h k (eqb-true _ _ e)).1) (λ e. eq-eqb _ _ (in-day n T r t u v h k l e)))

-- the tidy log depends on the contacts of n badges in T ticks alone
pub log-same : (n T : ℕ) (r q : ℕ → ℕ → ℕ → Bool) → ((t u v : ℕ) → t < T → u < n → v < n → r t u v ≡ q t u v) → tidy_log n T r ≡ tidy_log n T q
unfolding tidy_log
log-same n T r q e = rw (tidy-same n T r q e)

-- write: the refusal of the check first, then 15, and then as the tidy log is delivered
module _ (n T : ℕ) (ws buffer : List ℕ) where
  pub write-refused : (number offset : ℕ) → check_of n T ws ≡ refused number offset → write_of n T ws buffer ≡ record { answer = refused number offset; buffer = buffer }
  unfolding write_of
  write-refused number offset e = deliver-refused _ _ buffer number offset e

  module _ (e : check_of n T ws ≡ success tt) where
    pub write-many : max_contacts < length (tidy_contacts n T (adjacent n ws)) → write_of n T ws buffer ≡ record { answer = refused 15 0; buffer = buffer }
    unfolding write_of and_then write_judged refuse_if deliver
    write-many h = rw (e, lt-ltb max_contacts (length (tidy_contacts n T (adjacent n ws))) h)

    pub write-few : length (tidy_contacts n T (adjacent n ws)) ≤ max_contacts → {bytes : List ℕ} → bytes ≡ tidy_log n T (adjacent n ws) → write_of n T ws buffer ≡ deliver (success bytes) buffer
    unfolding write_of and_then write_judged refuse_if
    write-few h f = rw (e, le-ltb max_contacts (length (tidy_contacts n T (adjacent n ws))) h, f)

-- tidy's answer before 9: the log's refusal, then 8, then the tidy log
module _ (log work : List ℕ) where
  pub before9-refused : (number offset : ℕ) → judge log ≡ refused number offset → tidy_before9 log work ≡ refused number offset
  unfolding tidy_before9 and_then
  before9-refused number offset e = rw e

  module _ (rs : List Record) (e : judge log ≡ success rs) where
    pub before9-few : length work < words_for (badges_of rs) (ticks_of rs) → tidy_before9 log work ≡ refused 8 0
    unfolding tidy_before9 and_then refuse_if
    before9-few h = rw (e, lt-ltb (length work) (words_for (badges_of rs) (ticks_of rs)) h)

    pub before9-enough : words_for (badges_of rs) (ticks_of rs) ≤ length work → tidy_before9 log work ≡ success (tidy_log (badges_of rs) (ticks_of rs) (in_contact rs))
    unfolding tidy_before9 and_then refuse_if
    before9-enough h = rw (e, le-ltb (length work) (words_for (badges_of rs) (ticks_of rs)) h)

-- tidy leaves the words as reading leaves them, and delivers what its answer before 9 came to
pub tidy-delivers : (log work buffer : List ℕ) {o : Outcome (List ℕ)} → tidy_before9 log work ≡ o
    → tidy_of log work buffer ≡ record { answer = (deliver o buffer).answer; words = (read_of log work).words; buffer = (deliver o buffer).buffer }
unfolding tidy_of
tidy-delivers log work buffer e = rw e

-- What reading answered decides it. Where it accepted a log, the tidy log of the words that it left is the answer, and has no more than 8,000
-- contact records: in these words just the log's pairs are in contact.
pub record WasRead (log work left : List ℕ) (n T : ℕ) : Type 0 where
  pub limits : within_limits n T ≡ true
  pub enough : words_for n T ≤ length work
  pub few : length (tidy_contacts n T (adjacent n left)) ≤ max_contacts
  pub bytes : tidy_before9 log work ≡ success (tidy_log n T (adjacent n left))

accepted-read : (log work : List ℕ) (rs : List Record) → judge log ≡ success rs → words_for (badges_of rs) (ticks_of rs) ≤ length work → WasRead log work (read_of log work).words (badges_of rs) (ticks_of rs)
unfolding judge day_of tidy_log
accepted-read log work rs e h = record {
  limits = (accepted-of 0 log rs e).limits;
  enough = h;
  few = rw same (accepted-few log rs e);
  bytes = rw same (before9-enough log work rs e h);
}
  where
    same : tidy_contacts (badges_of rs) (ticks_of rs) (adjacent (badges_of rs) (read_of log work).words) ≡ tidy_contacts (badges_of rs) (ticks_of rs) (in_contact rs)
    same = rw (read-success log work rs e h) (tidy-same _ _ _ _ (adjacent-day _ _ (in_contact rs) _))

answer-of : {a b : Read} → a ≡ b → a.answer ≡ b.answer
answer-of {a} {b} e = ap (λ (x : Read). x.answer) e

pub was_read : (log work left : List ℕ) (n T m : ℕ) → left ≡ (read_of log work).words → (read_of log work).answer ≡ success (record { badges = n; ticks = T; contacts = m }) → WasRead log work left n T
unfolding values_of
was_read log work left n T m l e = rw l (go (case-of log work))
  where
    go : Case log work → WasRead log work (read_of log work).words n T
    go (log_refused k p f) = absurd (refused-success (sym (answer-of (read-refused log work k p f)) ∙ e))
    go (words_few rs f h) = absurd (refused-success (sym (answer-of (read-few log work rs f h)) ∙ e))
    go (words_enough rs f h) = subst (λ (v : Values). WasRead log work (read_of log work).words v.badges v.ticks) (success-same (sym (answer-of (read-success log work rs f h)) ∙ e)) (accepted-read log work rs f h)

-- what reading refuses, tidy refuses alike
pub unread-refused : (log work : List ℕ) (number offset : ℕ) → (read_of log work).answer ≡ refused number offset → tidy_before9 log work ≡ refused number offset
unread-refused log work number offset e = go (case-of log work)
  where
    go : Case log work → tidy_before9 log work ≡ refused number offset
    go (log_refused k p f) = before9-refused log work k p f ∙ refused-same (sym (answer-of (read-refused log work k p f)) ∙ e)
    go (words_few rs f h) = before9-few log work rs f h ∙ refused-same (sym (answer-of (read-few log work rs f h)) ∙ e)
    go (words_enough rs f h) = absurd (refused-success (sym e ∙ answer-of (read-success log work rs f h)))
