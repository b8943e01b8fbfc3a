-- What write and tidy answer and leave in the slices that were lent, for every input, by the orders of documents 01 and 02.
use Rattle.std.specs.Prelude.{List, ℕ, ltb, length, Result}
use Rattle.records.specs.declared.refusal.Refusal.{Refusal}
use Rattle.records.specs.Limits.{max_contacts, words_for}
use Rattle.records.specs.Outcomes.{Outcome, success, refuse_if, and_then, log_outcome}
use Rattle.records.specs.Judging.{judge}
use Rattle.records.specs.Meaning.{badges_of, ticks_of, in_contact}
use Rattle.days.specs.Days.{adjacent}
use Rattle.days.specs.Calls.{read_of, check_of}
use Rattle.logs.specs.Tidy.{tidy_contacts, tidy_log}
use Rattle.logs.specs.Buffers.{Delivered, deliver}

-- the tidy log of a day's words. "15: write would need more than 8,000 CT."
unfoldable pub write_judged : ℕ → ℕ → List ℕ → Outcome (List ℕ)
write_judged n T ws = refuse_if (ltb max_contacts (length (tidy_contacts n T (adjacent n ws)))) 15 0 (success (tidy_log n T (adjacent n ws)))

-- write. "Calls on words: 10, 8, 11 first, then .. write 15, 9."
unfoldable pub write_of : ℕ → ℕ → List ℕ → List ℕ → Delivered
write_of n T ws buffer = deliver (and_then (check_of n T ws) (λ x. write_judged n T ws)) buffer

-- tidy: its answer, the work words and the buffer. "The order of tidy becomes log, 8, 9": a tidy log needs no more CT than came in. The
-- words are left as reading leaves them: once the log and 8 are passed, they hold the day, also where tidy is refused by 9.
pub record Tidied : Type 0 where
  pub answer : Outcome ℕ
  pub words : List ℕ
  pub buffer : List ℕ

unfoldable pub tidy_before9 : List ℕ → List ℕ → Outcome (List ℕ)
tidy_before9 log work = and_then (judge log) (λ rs.
    refuse_if (ltb (length work) (words_for (badges_of rs) (ticks_of rs))) 8 0
    (success (tidy_log (badges_of rs) (ticks_of rs) (in_contact rs))))

unfoldable pub tidy_of : List ℕ → List ℕ → List ℕ → Tidied
tidy_of log work buffer = record {
  answer = (deliver (tidy_before9 log work) buffer).answer;
  words = (read_of log work).words;
  buffer = (deliver (tidy_before9 log work) buffer).buffer;
}

-- what the answer of a call that fills a result buffer says: the number of bytes written, or its refusal's number and byte offset
abbrev pub written_outcome : Result ℕ Refusal → Outcome ℕ
written_outcome r = log_outcome r
