-- What the report promises, over any call that takes n, T, words, badges under review, thresholds and a buffer, and any way to make records of a day.
use Rattle.std.specs.Prelude.{false, List, ◌++◌, ◌≡◌, ℕ, ◌≤◌, ◌<◌, length, take, drop}
use Rattle.records.specs.Outcomes.{Outcome, refused, success}
use Rattle.days.specs.Days.{LentDay}
use Rattle.logs.specs.Buffers.{Delivered}
use Rattle.thresholds.specs.declared.Thresholds.{Thresholds}
use Rattle.spans.specs.Reviews.{Review}
use Rattle.spans.specs.SpanCores.{SpanCore}
use Rattle.thresholds.specs.Ranges.{in_range}
use Rattle.spans.specs.Encoding.{report_bytes, report_records}
use Rattle.spans.specs.GroupStatement.{GroupStatement, ReportAsked}

-- A call that reports the groups of every day:
pub record ReportsGroups (call : ℕ → ℕ → List ℕ → ℕ → Thresholds → List ℕ → Delivered) (groups : ℕ → ℕ → List ℕ → ℕ → Thresholds → List SpanCore) : Type 0 where
  -- the group statement holds of the day's records, among the reviewed badges, and the bytes say the records
  pub stated : (n T : ℕ) (ws : List ℕ) (base : ℕ) (least : Thresholds) → ReportAsked n T ws base least → GroupStatement n T ws base least (groups n T ws base least)
  pub said : (n T : ℕ) (ws : List ℕ) (base : ℕ) (least : Thresholds) → ReportAsked n T ws base least → report_records (report_bytes n T (groups n T ws base least)) ≡ groups n T ws base least
  -- lent a buffer of their length or more, the call succeeds and writes their bytes; with a shorter one it is refused by 9
  pub succeeds : (n T : ℕ) (ws : List ℕ) (base : ℕ) (least : Thresholds) (buffer : List ℕ) → ReportAsked n T ws base least
      → let bytes = report_bytes n T (groups n T ws base least) in
      length bytes ≤ length buffer → call n T ws base least buffer ≡ record { answer = success (length bytes); buffer = bytes ++ drop (length bytes) buffer }
  pub measures : (n T : ℕ) (ws : List ℕ) (base : ℕ) (least : Thresholds) (buffer : List ℕ) → ReportAsked n T ws base least → length buffer < length (report_bytes n T (groups n T ws base least))
      → call n T ws base least buffer ≡ record { answer = refused 9 0; buffer = buffer }
  -- with a threshold outside its range it is refused by 17, whatever buffer was lent
  pub judges : (n T : ℕ) (ws : List ℕ) (base : ℕ) (least : Thresholds) (buffer : List ℕ) → LentDay n T ws → Review n base → in_range least ≡ false
      → call n T ws base least buffer ≡ record { answer = refused 17 0; buffer = buffer }

-- what holds of the buffer that a report leaves, whatever was lent: on success its first bytes say records of which the group statement holds
pub record Reported (n T : ℕ) (ws : List ℕ) (base : ℕ) (least : Thresholds) (answer : Outcome ℕ) (buffer : List ℕ) : Type 0 where
  pub groups : (size : ℕ) → answer ≡ success size → GroupStatement n T ws base least (report_records (take size buffer))
