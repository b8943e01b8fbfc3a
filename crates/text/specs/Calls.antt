-- What the public functions answer and leave in the slices that were lent.
use Rattle.std.specs.Prelude.{List, [], ◌∷◌, ◌≡◌, ℕ, ◌-◌, ◌/◌, ◌≤◌, ◌<◌, length, get_or, drop}
use Rattle.sets.specs.Sets.{full}
use Rattle.records.specs.declared.record.Record.{Record}
use Rattle.records.specs.Limits.{words_for}
use Rattle.records.specs.Outcomes.{Outcome, refused, success}
use Rattle.records.specs.Judging.{judge}
use Rattle.records.specs.Meaning.{badges_of, ticks_of}
use Rattle.records.specs.Verdicts.{Values}
use Rattle.days.specs.Calls.{read_of}
use Rattle.logs.specs.Buffers.{Delivered}
use Rattle.thresholds.specs.Ranges.{plain}
use Rattle.spans.specs.Encoding.{form_of, record_bytes, head_badges, report_bytes, decode_cores}
use Rattle.groups.specs.Calls.{report_of}
use Rattle.text.specs.Listing.{refusal_line, report_lines, listed_groups}

-- prepare: read the log into the words, and put the plain report of its day, with all n badges under review, into the buffer
pub record Prepared : Type 0 where
  pub answer : Outcome ℕ
  pub words : List ℕ
  pub report : List ℕ

unfoldable pub reported : Outcome Values → List ℕ → List ℕ → Delivered
reported (refused number offset) words report = record { answer = refused number offset; buffer = report }
reported (success v) words report = report_of v.badges v.ticks words (full v.badges) plain report

unfoldable pub prepare_of : List ℕ → List ℕ → List ℕ → Prepared
prepare_of log words report = record {
  answer = (reported (read_of log words).answer (read_of log words).words report).answer;
  words = (read_of log words).words;
  report = (reported (read_of log words).answer (read_of log words).words report).buffer;
}

-- the lines that the answer to prepare shows, with the report that it left: n and T stand in its third and fourth byte, and records, whose bytes n
-- decides, between a header of 4 bytes and an end of 6
unfoldable pub shown_lines : Outcome ℕ → List ℕ → List (List ℕ)
shown_lines (refused number offset) report = refusal_line number offset ∷ []
shown_lines (success size) report =
    report_lines (head_badges report) (get_or report 3 0) (decode_cores (form_of (head_badges report)).set_bytes ((size - 10) / record_bytes (head_badges report)) (drop 4 report))

-- When prepare is refused by 8: the log is accepted, and its day takes more words than are lent.
pub record Wider (log : List ℕ) (words : ℕ) : Type 0 where
  pub records : List Record
  pub accepted : judge log ≡ success records
  pub more : words < words_for (badges_of records) (ticks_of records)

-- When it is refused by 9: the log is accepted, there are words enough for its day, and its report has more bytes than there is room for.
pub record Longer (log : List ℕ) (words room : ℕ) : Type 0 where
  pub records : List Record
  pub accepted : judge log ≡ success records
  pub enough : words_for (badges_of records) (ticks_of records) ≤ words
  pub bytes : room < length (report_bytes (badges_of records) (ticks_of records) (listed_groups records))
