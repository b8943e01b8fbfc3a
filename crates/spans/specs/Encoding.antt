-- Reports and plans in bytes, and the records that such bytes say.
use Rattle.std.specs.Prelude.{true, false, List, [], ◌∷◌, ◌++◌, ℕ, zero, suc, ◌+◌, ◌-◌, ◌*◌, ◌/◌, leb, length, get_or, take, drop}
use Rattle.sets.specs.Ascii.{ascii}
use Rattle.sets.specs.Bytes.{little_endian, from_little_endian}
use Rattle.sets.specs.Words.{word_bits}
use Rattle.records.specs.declared.record.Record.TheVariants.{End}
use Rattle.records.specs.Records.{encode}
use Rattle.spans.specs.SpanCores.{SpanCore}

-- the spans of T ticks, and of 96: a day has at most one maximal core on each
unfoldable pub span_count : ℕ → ℕ
span_count T = T * suc T / 2

abbrev pub max_cores : ℕ
max_cores = 4656

-- A circle of order k has k + 1 members or more. So many circles n badges have at most in cores of the orders 1 to m, one of each order: the sum of
-- n / (k + 1).
unfoldable pub circles_up_to : ℕ → ℕ → ℕ
circles_up_to n zero = 0
circles_up_to n (suc m) = circles_up_to n m + n / suc (suc m)

-- Of each order a day has at most T maximal cores, since their spans contain none of one another. So many records a report has at most, of a day of n
-- badges and T ticks and of any day, and so many bytes.
abbrev pub most_records : ℕ → ℕ → ℕ
most_records n T = T * circles_up_to n n

abbrev pub max_records : ℕ
max_records = 49632

abbrev pub max_report_bytes : ℕ
max_report_bytes = 1042282

-- The marks of a report, of its groups, of a plan and of its parts, and the bytes of a set.
pub record Form : Type 0 where
  pub report : List ℕ
  pub group : List ℕ
  pub plan : List ℕ
  pub part : List ℕ
  pub set_bytes : ℕ

abbrev pub narrow_form : Form
narrow_form = record { report = ascii "RH"; group = ascii "GR"; plan = ascii "PH"; part = ascii "PT"; set_bytes = 8 }

abbrev pub wide_form : Form
wide_form = record { report = ascii "RW"; group = ascii "GW"; plan = ascii "PW"; part = ascii "QW"; set_bytes = 16 }

-- "Reports and plans for n up to 64 keep their bytes; above that marks RW, GW, PW and QW replace RH, GR, PH and PT, with 16-byte sets." A set of 8 bytes
-- holds as many badges as a word has bits.
unfoldable pub form_of : ℕ → Form
form_of n = elim (leb n word_bits) [ true ↦ narrow_form | false ↦ wide_form ]

-- the bytes of a record with a set of w bytes, and of those of n badges; a plan's header is laid out alike
abbrev pub core_bytes : ℕ → ℕ
core_bytes w = 5 + w

abbrev pub record_bytes : ℕ → ℕ
record_bytes n = core_bytes (form_of n).set_bytes

-- a record: its mark of two letters, "order, first tick, last tick, members as an 8-byte set with bit u for badge u", or as a set of w bytes
unfoldable pub encode_core : ℕ → List ℕ → SpanCore → List ℕ
encode_core w mark c = mark ++ (c.order ∷ c.first ∷ c.last ∷ little_endian w c.members)

unfoldable pub encode_cores : ℕ → List ℕ → List SpanCore → List ℕ
encode_cores w mark [] = []
encode_cores w mark (c ∷ cs) = encode_core w mark c ++ encode_cores w mark cs

-- "A report is RH (n, T), then GR records .., then ED with their count."
unfoldable pub report_bytes : ℕ → ℕ → List SpanCore → List ℕ
report_bytes n T groups = ((form_of n).report ++ (n ∷ T ∷ [])) ++ (encode_cores (form_of n).set_bytes (form_of n).group groups ++ encode (End (length groups)))

-- "A plan is PH (n, T, h, query as an 8-byte set), then h PT records laid out as GR with the part's score for the order, then ED with h as
-- its count."
unfoldable pub plan_bytes : ℕ → ℕ → ℕ → ℕ → List SpanCore → List ℕ
plan_bytes n T h query parts =
    ((form_of n).plan ++ (n ∷ T ∷ h ∷ little_endian (form_of n).set_bytes query)) ++ (encode_cores (form_of n).set_bytes (form_of n).part parts ++ encode (End h))

-- the record that bytes say, with a set of w bytes, and so many records, one after the other
unfoldable pub decode_core : ℕ → List ℕ → SpanCore
decode_core w bytes = record { order = get_or bytes 2 0; first = get_or bytes 3 0; last = get_or bytes 4 0; members = from_little_endian (take w (drop 5 bytes)) }

unfoldable pub decode_cores : ℕ → ℕ → List ℕ → List SpanCore
decode_cores w zero bytes = []
decode_cores w (suc count) bytes = decode_core w bytes ∷ decode_cores w count (drop (core_bytes w) bytes)

-- the records after a header of so many bytes, whose number the last four bytes say
unfoldable pub records_after : ℕ → ℕ → List ℕ → List SpanCore
records_after w header bytes = decode_cores w (from_little_endian (drop (length bytes - 4) bytes)) (drop header bytes)

-- the records of a report, and those of a plan: n is the third byte of either
abbrev pub head_badges : List ℕ → ℕ
head_badges bytes = get_or bytes 2 0

abbrev pub report_records : List ℕ → List SpanCore
report_records bytes = records_after (form_of (head_badges bytes)).set_bytes 4 bytes

abbrev pub plan_records : List ℕ → List SpanCore
plan_records bytes = records_after (form_of (head_badges bytes)).set_bytes (record_bytes (head_badges bytes)) bytes
