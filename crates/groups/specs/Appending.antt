-- What the functions that put records into memory promise.
use Rattle.std.specs.Prelude.{List, ◌++◌, map, ◌≡◌, ℕ, ◌+◌, ◌*◌, ◌≤◌, ◌<◌, length, take, drop}
use Rattle.sets.specs.Sets.{Sub, full, size}
use Rattle.records.specs.Outcomes.{Outcome, success}
use Rattle.logs.specs.Buffers.{deliver}
use Rattle.circles.specs.Circles.{at_least}
use Rattle.thresholds.specs.declared.Thresholds.{Thresholds}
use Rattle.spans.specs.SpanCores.{SpanCore}
use Rattle.spans.specs.CircleRecords.{with_members, circles_of, shown_records}
use Rattle.spans.specs.Encoding.{Form as StatedForm, core_bytes, encode_cores, report_bytes}
use Rattle.groups.specs.declared.form.Form.{Form}
use Rattle.groups.specs.declared.kept.Cores.{Cores}
use Rattle.groups.specs.Keeping.{FindsCores}

-- what a form of the program is
abbrev pub form_in : Form → StatedForm
form_in f = record { report = f.report; group = f.group; plan = f.plan; part = f.part; set_bytes = f.width }

-- Records with a mark and a set of w bytes are appended to so many that stand after a header of so many bytes. The bytes after them are as they were.
pub record AppendsCores (mark : List ℕ) (w header : ℕ) (cores : List SpanCore) (count count' : ℕ) (buffer buffer' : List ℕ) : Type 0 where
  pub number : count' ≡ count + length cores
  pub size : length buffer' ≡ length buffer
  pub bytes : take (header + core_bytes w * count') buffer' ≡ take (header + core_bytes w * count) buffer ++ encode_cores w mark cores
  pub rest : drop (header + core_bytes w * count') buffer' ≡ drop (header + core_bytes w * count') buffer

-- the records of those circles of a core that have members enough
unfoldable pub large_records : SpanCore → ℕ → List ℕ → List SpanCore
large_records c enough ss = map (with_members c) (at_least enough ss)

-- room for them after so many records, with sets of w bytes
pub record CircleRoom (w count enough : ℕ) (ss : List ℕ) (buffer : List ℕ) : Type 0 where
  pub short : w ≤ 16
  pub room : 4 + core_bytes w * (count + length (at_least enough ss)) ≤ length buffer

-- A core that is to be split: it is one of a span of the day, as many circles as are said are its circles, and it has members enough itself. The records
-- of its circles, with sets of w bytes, have room.
pub record CoreToSplit (n T : ℕ) (ws : List ℕ) (enough : ℕ) (c : SpanCore) (circles w count : ℕ) (buffer : List ℕ) : Type 0 where
  pub rising : c.first ≤ c.last
  pub inside : c.last < T
  pub named : Sub c.members (full n)
  pub number : circles ≡ length (circles_of n ws c)
  pub many : enough ≤ size c.members
  pub room : CircleRoom w count enough (circles_of n ws c) buffer

-- the bytes of the report that is asked for
abbrev pub shown_bytes : ℕ → ℕ → List ℕ → ℕ → Thresholds → List ℕ
shown_bytes n T ws base least = report_bytes n T (shown_records n T ws base least)

-- what a report is written from: the cores that meet the thresholds, and a buffer that holds it
pub record ReportCores (n T : ℕ) (ws : List ℕ) (base : ℕ) (least : Thresholds) (cores : Cores) (buffer : List ℕ) : Type 0 where
  pub found : FindsCores n T ws base least cores
  pub room : length (shown_bytes n T ws base least) ≤ length buffer

-- A day's report is laid over the first bytes of a buffer, and the bytes after it are as they were.
pub record EncodesReport (n T : ℕ) (ws : List ℕ) (base : ℕ) (least : Thresholds) (buffer buffer' : List ℕ) : Type 0 where
  pub bytes : buffer' ≡ shown_bytes n T ws base least ++ drop (length (shown_bytes n T ws base least)) buffer

-- The report is put into a buffer, judged by 9: what is answered, and what the buffer then holds.
pub record DeliversReport (n T : ℕ) (ws : List ℕ) (base : ℕ) (least : Thresholds) (outcome : Outcome ℕ) (buffer buffer' : List ℕ) : Type 0 where
  pub answer : outcome ≡ (deliver (success (shown_bytes n T ws base least)) buffer).answer
  pub leaves : buffer' ≡ (deliver (success (shown_bytes n T ws base least)) buffer).buffer
