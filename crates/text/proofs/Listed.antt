-- What prepare leaves, lent words enough for the log's day: its report where the buffer holds it, and refusal 9 where it does not; and refusal 8 with fewer words.
-- With 12,288 words and a buffer of 65,536 bytes it shows the lines of the log's listing.
use mathlib.Core.Path.{◌≡◌, refl, sym, ap, ◌∙◌}
use mathlib.Core.Bool.{true}
use mathlib.Core.List.{List, [], ◌∷◌, ◌++◌, append_assoc, append-nil}
use mathlib.Core.Logic.{by_cases}
use Prim.Native.Nat.{ℕ, ◌-◌, ◌*◌, ◌/◌, ◌^◌, ◌≤◌, ◌<◌, min}
use native.Mathlib.Nat.{le_of_eq, mul-div_right}
use native.Mathlib.Decide.{dec_lt}
use native.Mathlib.Omega.{arith}
use lib.ListN.{length, drop, length-append}
use lib.Seq.{drop_at}
use borrow.Author.Tests.{lt-ltb, le-ltb}
use Rattle.sets.specs.Bools.{◌and◌}
use Rattle.sets.specs.Sets.{full}
use Rattle.sets.specs.Members.{capacity}
use Rattle.sets.specs.Words.{word_bits}
use Rattle.sets.proofs.Sets.{sub_refl}
use Rattle.records.specs.declared.record.Record.{Record}
use Rattle.records.specs.declared.record.Record.TheVariants.{End}
use Rattle.records.specs.Limits.{words_for}
use Rattle.records.specs.Records.{encode}
use Rattle.records.specs.Outcomes.{Outcome, refused, success}
use Rattle.records.specs.Judging.{judge}
use Rattle.records.specs.Meaning.{badges_of, ticks_of, in_contact}
use Rattle.records.specs.Verdicts.{values_of}
use Rattle.records.proofs.Outcomes.{refused-success}
use Rattle.records.proofs.Accepting.{accepted-of}
use Rattle.records.proofs.WithinLimits.{limits_of}
use Rattle.days.specs.Days.{day_of, LentDay}
use Rattle.days.specs.Calls.{Read}
use Rattle.days.proofs.Days.{day-length}
use Rattle.days.proofs.ReadCall.{read-refused, read-few, read-success}
use Rattle.logs.specs.Buffers.{Delivered}
use Rattle.thresholds.specs.Ranges.{plain, in_range}
use Rattle.spans.specs.SpanCores.{SpanCore, Mem}
use Rattle.spans.specs.Encoding.{form_of, record_bytes, encode_cores, report_bytes}
use Rattle.spans.proofs.CircleStated.{report-stated}
use Rattle.spans.proofs.StatedRecords.{records-small}
use Rattle.spans.proofs.Forms.{marked, form-fits}
use Rattle.spans.proofs.Decoding.{decode-cores, report-sizes}
use Rattle.spans.proofs.MostGroups.{report-length}
use Rattle.spans.proofs.Reviews.{all-reviewed}
use Rattle.groups.specs.Calls.{report_of}
use Rattle.groups.proofs.ReportTheorems.{report-succeeds, report-measures}
use Rattle.promises.proofs.ReadTheorems.{accepted-day}
use Rattle.promises.proofs.WordsAfter.{report-rest}
use Rattle.text.specs.Listing.{refusal_line, report_lines, listing_room, listing_words, listed_lines, listed_groups, day_lines, judged_lines}
use Rattle.text.specs.Calls.{Prepared, prepare_of, shown_lines}
use Rattle.text.proofs.PrepareCall.{prepare-refused, prepare-read}

-- a refusal is known by its parts
pub refused-parts : {k o number offset : ℕ} → ◌≡◌ {A = Outcome ℕ} (refused k o) (refused number offset) → (k ≡ number) × (o ≡ offset)
refused-parts e = (cc, cc)

-- the thresholds of the plain report are within their ranges
plain-range : in_range plain ≡ true
unfolding in_range ◌and◌
plain-range = refl

-- a report above the room, and one for which there is room
module _ (n T : ℕ) (groups : List SpanCore) where
  pub listed-long : listing_room < length (report_bytes n T groups) → listed_lines n T groups ≡ refusal_line 9 0 ∷ []
  unfolding listed_lines
  listed-long h = rw (listed_lines, lt-ltb listing_room (length (report_bytes n T groups)) h)

  pub listed-fits : length (report_bytes n T groups) ≤ listing_room → listed_lines n T groups ≡ report_lines n T groups
  unfolding listed_lines
  listed-fits h = rw (listed_lines, le-ltb listing_room (length (report_bytes n T groups)) h)

-- the lines that a report's bytes show, whatever follows them
report-shown : (n T : ℕ) (groups : List SpanCore) (rest : List ℕ) → n ≤ 2 * word_bits → ((c : SpanCore) → Mem c groups → c.members < 2 ^ n)
    → shown_lines (success (length (report_bytes n T groups))) (report_bytes n T groups ++ rest) ≡ report_lines n T groups
unfolding shown_lines report_bytes
report-shown n T groups rest most h =
    let form = form_of n in
    let r = record_bytes n in
    let bytes = report_bytes n T groups in
    let header = form.report ++ (n ∷ T ∷ []) in
    let records = encode_cores form.set_bytes form.group groups in
    let long : length header ≡ 4 = omega (arith, length-append form.report (n ∷ T ∷ []), (marked n).report) in
    let less : length bytes - 10 ≡ r * length groups = omega (arith, report-length n T groups) in
    let count : (length bytes - 10) / r ≡ length groups = ap (λ (x : ℕ). x / r) less ∙ mul-div_right (length groups) (omega arith) in
    let after : drop 4 (bytes ++ rest) ≡ records ++ (encode (End (length groups)) ++ rest) = rw (append_assoc header (records ++ encode (End (length groups))) rest, drop_at header ((records ++ encode (End (length groups))) ++ rest) 4 long) (append_assoc records (encode (End (length groups))) rest) in
    let said = decode-cores form.set_bytes form.group (marked n).group groups (encode (End (length groups)) ++ rest) (λ c i. form-fits n c.members most (h c i)) in
    let sizes = report-sizes n T groups rest in
    rw (sizes.0, sizes.1, count, after, said)

-- an accepted log, its day and its report
module _ (log : List ℕ) (rs : List Record) (e : judge log ≡ success rs) where
  abbrev n : ℕ
  n = badges_of rs

  abbrev T : ℕ
  T = ticks_of rs

  abbrev bytes : List ℕ
  bytes = report_bytes n T (listed_groups rs)

  pub accepted-lent : LentDay n T (day_of rs)
  unfolding judge day_of
  accepted-lent = record { limits = (accepted-of 0 log rs e).limits; enough = le_of_eq (sym (day-length n T (in_contact rs))); day = accepted-day log rs e }

  module _ (words report : List ℕ) (h : words_for n T ≤ length words) where
    abbrev left : List ℕ
    left = day_of rs ++ drop (words_for n T) words

    -- the day is reported, since words after it make no difference
    accepted-reported : (d : Delivered) → report_of n T (day_of rs) (full n) plain report ≡ d → prepare_of log words report ≡ record { answer = d.answer; words = left; report = d.buffer }
    unfolding values_of day_of
    accepted-reported d f =
        let limits = limits_of accepted-lent.limits in
        let m : n ≡ min n capacity = omega (arith, limits.few) in
        let read = read-success log words rs e h in
        let same = report-rest n T (day_of rs) (drop (words_for n T) words) [] (full n) (day-length n T (in_contact rs)) plain report ∙ ap (λ (ws : List ℕ). report_of n T ws (full n) plain report) (append-nil (day_of rs)) in
        prepare-read log words report (values_of rs) (ap (λ (x : Read). x.answer) read) left (sym (ap (λ (x : Read). x.words) read)) (ap full m)
        ∙ ap (λ (x : Delivered). record { answer = x.answer; words = left; report = x.buffer }) (same ∙ f)

    -- in a buffer that holds the report, and not in a shorter one
    accepted-made : length bytes ≤ length report → prepare_of log words report ≡ record { answer = success (length bytes); words = left; report = bytes ++ drop (length bytes) report }
    unfolding listed_groups
    accepted-made k = accepted-reported _ (report-succeeds n T (day_of rs) (full n) plain report accepted-lent (all-reviewed accepted-lent) plain-range k)

    pub accepted-measured : length report < length bytes → prepare_of log words report ≡ record { answer = refused 9 0; words = left; report = report }
    unfolding listed_groups
    accepted-measured k = accepted-reported _ (report-measures n T (day_of rs) (full n) plain report accepted-lent (all-reviewed accepted-lent) plain-range k)

    -- where it was refused, it was by 9, and the buffer was too short
    pub accepted-refused : (number offset : ℕ) → (prepare_of log words report).answer ≡ refused number offset → (number ≡ 9) × (offset ≡ 0) × (length report < length bytes)
    accepted-refused number offset f = by_cases (dec_lt (length report) (length bytes))
        (λ k. let g = refused-parts (answers (accepted-measured k)) in (g.0, g.1, k))
        (λ k. absurd (refused-success (answers (accepted-made (omega arith)))))
      where
        answers : {x : Prepared} → prepare_of log words report ≡ x → refused number offset ≡ x.answer
        answers g = sym f ∙ ap (λ (y : Prepared). y.answer) g

    -- with the listing's room, the lines are shown
    accepted-lines : length report ≡ listing_room → shown_lines (prepare_of log words report).answer (prepare_of log words report).report ≡ listed_lines n T (listed_groups rs)
    unfolding shown_lines listed_groups
    accepted-lines k = by_cases (dec_lt (length report) (length bytes))
        (λ l. rw (accepted-measured l) (sym (listed-long n T (listed_groups rs) (omega arith))))
        (λ l. rw (accepted-made (omega arith), report-shown n T (listed_groups rs) (drop (length bytes) report) (omega (arith, (limits_of accepted-lent.limits).few)) (records-small (sub_refl (full n)) (report-stated accepted-lent (sub_refl (full n))))) (sym (listed-fits n T (listed_groups rs) (omega arith))))

  -- with fewer words than its day takes
  pub accepted-few : (words report : List ℕ) → length words < words_for n T → (prepare_of log words report).answer ≡ refused 8 0
  accepted-few words report h = ap (λ (x : Prepared). x.answer) (prepare-refused log words report 8 0 (ap (λ (x : Read). x.answer) (read-few log words rs e h)))

  -- the lines of its day, where there are words for it, and where not
  pub day-wide : listing_words < words_for n T → day_lines rs ≡ refusal_line 8 0 ∷ []
  unfolding day_lines
  day-wide h = rw (day_lines, lt-ltb listing_words (words_for n T) h)

  pub day-fits : words_for n T ≤ listing_words → day_lines rs ≡ listed_lines n T (listed_groups rs)
  unfolding day_lines
  day-fits h = rw (day_lines, le-ltb listing_words (words_for n T) h)

module _ (log words report : List ℕ) where
  -- a log that is refused is refused alike
  pub refused-alike : (number offset : ℕ) → judge log ≡ refused number offset → (prepare_of log words report).answer ≡ refused number offset
  refused-alike number offset e = ap (λ (x : Prepared). x.answer) (prepare-refused log words report number offset (ap (λ (x : Read). x.answer) (read-refused log words number offset e)))

  -- With 12,288 words and in a buffer of 65,536 bytes, what prepare leaves shows the lines of the log.
  pub prepared-lines : length words ≡ listing_words → length report ≡ listing_room → shown_lines (prepare_of log words report).answer (prepare_of log words report).report ≡ judged_lines (judge log)
  unfolding judged_lines shown_lines
  prepared-lines h k = go (judge log) refl
    where
      go : (o : Outcome (List Record)) → judge log ≡ o → shown_lines (prepare_of log words report).answer (prepare_of log words report).report ≡ judged_lines o
      go (refused number offset) e = rw (refused-alike number offset e)
      go (success rs) e = by_cases (dec_lt listing_words (words_for (badges_of rs) (ticks_of rs)))
          (λ l. rw (accepted-few log rs e words report (omega arith)) (sym (day-wide log rs e l)))
          (λ l. accepted-lines log rs e words report (omega arith) k ∙ sym (day-fits log rs e (omega arith)))
