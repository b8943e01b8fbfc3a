-- A table of worked cases: what a row says, and that every row of a table holds.
use mathlib.Core.List.{List, Memᴰ}
use Rattle.std.specs.Prelude.{◌≡◌, ℕ, length}
use Prim.Native.String.{String}
use Rattle.records.specs.Outcomes.{Outcome}
use Rattle.records.specs.Verdicts.{Values}
use Rattle.days.specs.Calls.{read_of}
use Rattle.series.specs.Series.{Size}
use Rattle.receivers.specs.Joining.{join_of}
use Rattle.logs.specs.Calls.{tidy_of, write_of}
use Rattle.trace.specs.Calls.{trace_of}
use Rattle.thresholds.specs.declared.Thresholds.{Thresholds}
use Rattle.spans.specs.Plans.{parts_from, parts_of}
use Rattle.spans.specs.PlanStatement.{sum_of_orders, part_ends}
use Rattle.groups.specs.Calls.{core_numbers_of, report_of, plan_of}
use Rattle.sets.specs.Ascii.{ascii}
use Rattle.text.specs.Listing.{listing as listed}

-- A row has a call's arguments, what it answers, and what it leaves in each slice that was lent, in this order: `words`, `work` and `buffer` are
-- lent, `words'`, `work'` and `buffer'` are left; `review` is the set of badges under review. `plan_sum` and `plan_ends` have the arguments of a plan, and the sum of its scores or its part ends; `cut_sum` has a
-- list of part ends and the sum of scores of the parts that it cuts; `listing` has a log and the text that the listing program writes; `length_of`
-- has bytes and their number.
pub data Row : Type 0 where
  read : (log words : List ℕ) (answer : Outcome Values) (words' : List ℕ) → Row
  join : (logs lengths : List ℕ) (q : ℕ) (words work : List ℕ) (answer : Outcome Size) (words' work' : List ℕ) → Row
  tidy : (log words buffer : List ℕ) (answer : Outcome ℕ) (words' buffer' : List ℕ) → Row
  write : (n T : ℕ) (words buffer : List ℕ) (answer : Outcome ℕ) (buffer' : List ℕ) → Row
  trace : (n T : ℕ) (words : List ℕ) (index s : ℕ) (buffer : List ℕ) (answer : Outcome ℕ) (buffer' : List ℕ) → Row
  core_numbers : (n T : ℕ) (words : List ℕ) (review first last : ℕ) (buffer : List ℕ) (answer : Outcome ℕ) (buffer' : List ℕ) → Row
  report : (n T : ℕ) (words : List ℕ) (review : ℕ) (least : Thresholds) (buffer : List ℕ) (answer : Outcome ℕ) (buffer' : List ℕ) → Row
  plan : (n T : ℕ) (words : List ℕ) (review query h : ℕ) (buffer : List ℕ) (answer : Outcome ℕ) (buffer' : List ℕ) → Row
  plan_sum : (n T : ℕ) (words : List ℕ) (review query h sum : ℕ) → Row
  plan_ends : (n T : ℕ) (words : List ℕ) (review query h : ℕ) (ends : List ℕ) → Row
  cut_sum : (n : ℕ) (words : List ℕ) (review query : ℕ) (ends : List ℕ) (sum : ℕ) → Row
  listing : (log : List ℕ) (shown : String) → Row
  length_of : (bytes : List ℕ) (size : ℕ) → Row

-- what a row says
unfoldable pub Holds : Row → Type 0
Holds (read log words answer words') = read_of log words ≡ record { answer = answer; words = words' }
Holds (join logs lengths q words work answer words' work') = join_of logs lengths q words work ≡ record { answer = answer; words = words'; work = work' }
Holds (tidy log words buffer answer words' buffer') = tidy_of log words buffer ≡ record { answer = answer; words = words'; buffer = buffer' }
Holds (write n T words buffer answer buffer') = write_of n T words buffer ≡ record { answer = answer; buffer = buffer' }
Holds (trace n T words index s buffer answer buffer') = trace_of n T words index s buffer ≡ record { answer = answer; buffer = buffer' }
Holds (core_numbers n T words review first last buffer answer buffer') = core_numbers_of n T words review first last buffer ≡ record { answer = answer; buffer = buffer' }
Holds (report n T words review least buffer answer buffer') = report_of n T words review least buffer ≡ record { answer = answer; buffer = buffer' }
Holds (plan n T words review query h buffer answer buffer') = plan_of n T words review query h buffer ≡ record { answer = answer; buffer = buffer' }
Holds (plan_sum n T words review query h sum) = sum_of_orders (parts_of n T words review query h) ≡ sum
Holds (plan_ends n T words review query h ends) = part_ends (parts_of n T words review query h) ≡ ends
Holds (cut_sum n words review query ends sum) = sum_of_orders (parts_from n words review query 0 ends) ≡ sum
Holds (listing log shown) = listed log ≡ ascii shown
Holds (length_of bytes size) = length bytes ≡ size

-- every row of a table holds
pub record AllHold (table : List Row) : Type 0 where
  pub row : (r : Row) → Memᴰ r table → Holds r
