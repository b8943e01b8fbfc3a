-- What the listing promises: the pieces that `lines` gives, end to end, are the listing; the first 48,011 bytes of a log decide it; and it shows a
-- refusal by 8 just where the day needs too many words, which no day of up to 64 badges does, and by 9 just where the report is too long.
use mathlib.Core.Path.{◌≡◌, refl, sym, ap, ◌∙◌, subst}
use mathlib.Core.List.Memᴰ
use mathlib.Core.List.{List, [], ◌∷◌, ◌++◌, map, append_assoc, append-nil, Memᴰ}
use mathlib.Core.Logic.{◌↔◌, ◌⊎◌, inl, inr, by_cases}
use Prim.Native.Nat.{ℕ, zero, suc, ◌+◌, ◌≤◌, ◌<◌}
use native.Mathlib.Nat.{mul-le-mul, mul-le-mul_right}
use native.Mathlib.Decide.{dec_le, dec_lt}
use native.Mathlib.Omega.{arith}
use lib.ListN.{length, take, drop, length-take, length-drop, take-append-drop, drop_of_length-le}
use lib.Seq.{take-append_seam, drop-drop}
use Rattle.sets.specs.Sets.{Sub, full}
use Rattle.sets.proofs.Sets.{sub_refl}
use Rattle.records.specs.declared.record.Record.{Record}
use Rattle.sets.specs.Words.{word_bits}
use Rattle.records.specs.Limits.{words_for, max_words}
use Rattle.records.specs.Outcomes.{Outcome, refused, success}
use Rattle.records.specs.Judging.{judge}
use Rattle.records.specs.Meaning.{badges_of, ticks_of}
use Rattle.records.proofs.Theorems.{judged-by-first}
use Rattle.records.proofs.Numbers.{judge-number, judge-offset}
use Rattle.records.proofs.Outcomes.{refused-same}
use Rattle.records.proofs.WithinLimits.{limits_of, words-most}
use Rattle.days.specs.Days.{day_of, LentDay}
use Rattle.thresholds.specs.declared.Thresholds.{Thresholds}
use Rattle.thresholds.specs.Ranges.{plain}
use Rattle.spans.specs.SpanCores.{SpanCore, Mem}
use Rattle.spans.specs.Encoding.{max_report_bytes, record_bytes, report_bytes}
use Rattle.spans.specs.GroupStatement.{GroupStatement}
use Rattle.spans.proofs.CircleStated.{report-stated}
use Rattle.spans.proofs.StatedRecords.{of-day}
use Rattle.spans.proofs.Forms.{marked}
use Rattle.spans.proofs.MostGroups.{report-length}
use Rattle.spans.proofs.MostRecords.{report-most}
use Rattle.text.specs.Listing.{refusal_line, group_line, report_lines, listing_room, listing_words, listed_lines, listed_groups, day_lines, judged_lines, joined, listing}
use Rattle.text.specs.Pieces.{lines_in, bytes_in, piece_of, pieces}
use Rattle.text.specs.Calls.{Prepared, prepare_of, shown_lines, Wider, Longer}
use Rattle.text.specs.Making.{longest_line, most_lines}
use Rattle.text.proofs.LinesShown.{lines-length}
use Rattle.text.proofs.Filling.{lines_more}
use Rattle.text.proofs.LineLengths.{refusal-short, head-short, group-short}
use Rattle.text.proofs.Listed.{refused-parts, listed-long, listed-fits, accepted-lent, accepted-few, accepted-measured, accepted-refused, day-wide, day-fits, refused-alike, prepared-lines}

-- The first 48,011 bytes decide.
pub listed-by-first : (log : List ℕ) → listing (take 48011 log) ≡ listing log
unfolding listing
listed-by-first log = ap (λ (o : Outcome (List Record)). joined (judged_lines o)) (judged-by-first log)

-- lines up to a place, and those from it on, are all lines
joined-split : (k : ℕ) (ls : List (List ℕ)) → joined ls ≡ joined (take k ls) ++ joined (drop k ls)
unfolding joined
joined-split zero ls = refl
joined-split (suc k) [] = refl
joined-split (suc k) (l ∷ ls) = ap (λ (x : List ℕ). l ++ x) (joined-split k ls) ∙ sym (append_assoc l (joined (take k ls)) (joined (drop k ls)))

fitting-joined : (room : ℕ) (ls : List (List ℕ)) → bytes_in room ls ++ joined (drop (lines_in room ls) ls) ≡ joined ls
unfolding bytes_in
fitting-joined room ls = sym (joined-split (lines_in room ls) ls)

-- a buffer that holds any line gets at least one, where there is one
some-line : (room : ℕ) (ls : List (List ℕ)) → ((l : List ℕ) → Memᴰ l ls → length l ≤ room) → 1 ≤ length ls → 1 ≤ lines_in room ls
some-line room [] h k = absurd (omega arith)
some-line room (l ∷ ls) h k = rw (lines_more l ls (h l (Memᴰ.head refl))) (omega arith)

of-drop : (k : ℕ) (ls : List (List ℕ)) {l : List ℕ} → Memᴰ l (drop k ls) → Memᴰ l ls
of-drop k ls {l} m = subst (Memᴰ l) (take-append-drop k ls) (Memᴰ.append_right (take k ls) m)

-- So pieces in buffers that hold any line, as many buffers as there are lines or more, are all lines, end to end.
pub pieces_whole : (bound : ℕ) (ls : List (List ℕ)) (from : ℕ) (buffers : List (List ℕ)) → ((l : List ℕ) → Memᴰ l ls → length l ≤ bound)
    → ((b : List ℕ) → Memᴰ b buffers → bound ≤ length b) → length ls ≤ from + length buffers → pieces ls from buffers ≡ joined (drop from ls)
unfolding pieces piece_of joined
pieces_whole bound ls from [] h r k = let e : length ls ≤ from = omega arith in rw (drop_of_length-le ls e)
pieces_whole bound ls from (buffer ∷ buffers) h r k = go (pieces_whole bound ls (from + lines_in (length buffer) (drop from ls)) buffers h (λ b m. r b (Memᴰ.tail m)))
  where
    rests : List (List ℕ)
    rests = drop from ls

    got : ℕ
    got = lines_in (length buffer) rests

    some : length ls ≤ from + got + length buffers
    some = by_cases (dec_le 1 (length rests))
        (λ l. omega (arith, some-line (length buffer) rests (λ x m. let a = h x (of-drop from ls m) in omega (arith, r buffer (Memᴰ.head refl))) l))
        (λ l. omega (arith, length-drop from ls))

    go : (length ls ≤ from + got + length buffers → pieces ls (from + got) buffers ≡ joined (drop (from + got) ls))
        → take (length (bytes_in (length buffer) rests)) (bytes_in (length buffer) rests ++ drop (length (bytes_in (length buffer) rests)) buffer) ++ pieces ls (from + got) buffers ≡ joined rests
    go ih =
        let next : drop got rests ≡ drop (from + got) ls = drop-drop got from ls in
        rw (take-append_seam (bytes_in (length buffer) rests) (drop (length (bytes_in (length buffer) rests)) buffer), ih some, ← next) (fitting-joined (length buffer) rests)

-- a line of a record is a record's
of-lines : (cs : List SpanCore) {l : List ℕ} → Memᴰ l (map group_line cs) → (c : SpanCore) × Mem c cs × (l ≡ group_line c)
of-lines [] m = absurd (Memᴰ.not-nil m)
of-lines (c ∷ cs) (Memᴰ.head e) = (c, Memᴰ.head refl, e)
of-lines (c ∷ cs) (Memᴰ.tail m) = let r = of-lines cs m in (r.0, Memᴰ.tail r.1, r.2)

-- No line of a report for which there is room has more than 434 bytes,
module _ {n T : ℕ} {ws : List ℕ} {base : ℕ} {least : Thresholds} {groups : List SpanCore} (lent : LentDay n T ws) (within : Sub base (full n)) (stated : GroupStatement n T ws base least groups) (fits : length (report_bytes n T groups) ≤ listing_room) where
  few-groups : suc (length groups) ≤ most_lines
  few-groups =
      let least : 13 ≤ record_bytes n = omega (arith, (marked n).least) in
      omega (arith, report-length n T groups, fits, mul-le-mul_right (length groups) least)

  group-line-short : (c : SpanCore) → Mem c groups → length (group_line c) ≤ longest_line
  group-line-short c i =
      let limits = limits_of lent.limits in
      let d = of-day within stated c i in
      group-short c (omega (arith, d.high, limits.few)) (omega (arith, d.rising, d.inside, limits.short)) (omega (arith, d.inside, limits.short))

  report-line-short : (l : List ℕ) → Memᴰ l (report_lines n T groups) → length l ≤ longest_line
  unfolding report_lines
  report-line-short l (Memᴰ.head e) = let limits = limits_of lent.limits in rw e (head-short n T (length groups) (omega (arith, limits.few)) (omega (arith, limits.short)) (omega (arith, few-groups)))
  report-line-short l (Memᴰ.tail m) = let r = of-lines groups m in rw r.2 (group-line-short r.0 r.1)

  report-lines-few : length (report_lines n T groups) ≤ most_lines
  unfolding report_lines
  report-lines-few = omega (arith, lines-length groups, few-groups)

-- and none of a log's listing; there are at most 5,041.
pub record Short (ls : List (List ℕ)) : Type 0 where
  pub each : (l : List ℕ) → Memᴰ l ls → length l ≤ longest_line
  pub few : length ls ≤ most_lines

one-short : (number offset : ℕ) → number < 10 → offset < 1000000 → Short (refusal_line number offset ∷ [])
one-short number offset h k = record { each = λ l m. rw (Memᴰ.eq_of_singleton m) (refusal-short number offset h k); few = omega arith }

listed-short : (rs : List Record) → LentDay (badges_of rs) (ticks_of rs) (day_of rs) → Short (listed_lines (badges_of rs) (ticks_of rs) (listed_groups rs))
unfolding listed_groups
listed-short rs lent = by_cases (dec_lt listing_room (length (report_bytes (badges_of rs) (ticks_of rs) (listed_groups rs))))
    (λ h. rw (listed-long (badges_of rs) (ticks_of rs) (listed_groups rs) h) (one-short 9 0 (omega arith) (omega arith)))
    (λ h.
    let fits : length (report_bytes (badges_of rs) (ticks_of rs) (listed_groups rs)) ≤ listing_room = omega arith in
    let all = sub_refl (full (badges_of rs)) in
    let stated = report-stated lent all in
    rw (listed-fits (badges_of rs) (ticks_of rs) (listed_groups rs) fits) (record { each = report-line-short lent all stated fits; few = report-lines-few lent all stated fits }))

accepted-short : (log : List ℕ) (rs : List Record) → judge log ≡ success rs → Short (day_lines rs)
accepted-short log rs e = by_cases (dec_lt listing_words (words_for (badges_of rs) (ticks_of rs)))
    (λ h. rw (day-wide log rs e h) (one-short 8 0 (omega arith) (omega arith)))
    (λ h. rw (day-fits log rs e (omega arith)) (listed-short rs (accepted-lent log rs e)))

pub lines-short : (log : List ℕ) → Short (judged_lines (judge log))
unfolding judged_lines
lines-short log = go (judge log) refl
  where
    go : (o : Outcome (List Record)) → judge log ≡ o → Short (judged_lines o)
    go (refused number offset) e =
        let f = judged-by-first log ∙ e in
        one-short number offset (omega (arith, judge-number log number offset e)) (omega (arith, judge-offset (take 48011 log) number offset f, length-take 48011 log))
    go (success rs) e = accepted-short log rs e

-- The listing in pieces. Whatever 12,288 words and whatever buffer of 65,536 bytes were lent to prepare: the pieces that lines gives of what it left, in
-- buffers of 434 bytes or more each, 5,041 buffers or more, are the log's listing.
pub pieces-listing : (log words report : List ℕ) (buffers : List (List ℕ)) → length words ≡ listing_words → length report ≡ listing_room → ((b : List ℕ) → Memᴰ b buffers → longest_line ≤ length b)
    → most_lines ≤ length buffers → pieces (shown_lines (prepare_of log words report).answer (prepare_of log words report).report) 0 buffers ≡ listing log
unfolding listing
pieces-listing log words report buffers h k r c =
    let s = lines-short log in
    rw (prepared-lines log words report h k) (pieces_whole longest_line (judged_lines (judge log)) 0 buffers s.each r (omega (arith, s.few)))

-- Lent any words and any buffer, as many as the listing's or not:
module _ (log words report : List ℕ) where
  -- how a refusal comes about
  data Cause (number offset : ℕ) : Type 0 where
    own : number ≤ 7 → judge log ≡ refused number offset → Cause number offset
    wide : number ≡ 8 → offset ≡ 0 → Wider log (length words) → Cause number offset
    long : number ≡ 9 → offset ≡ 0 → Longer log (length words) (length report) → Cause number offset

  cause : (number offset : ℕ) → (prepare_of log words report).answer ≡ refused number offset → Cause number offset
  cause number offset f = go (judge log) refl
    where
      go : (o : Outcome (List Record)) → judge log ≡ o → Cause number offset
      go (refused a b) e = let g = e ∙ refused-same (sym (refused-alike log words report a b e) ∙ f) in own (judge-number log number offset g) g
      go (success rs) e = by_cases (dec_lt (length words) (words_for (badges_of rs) (ticks_of rs)))
          (λ h. let g = refused-parts (sym (accepted-few log rs e words report h) ∙ f) in wide (sym g.0) (sym g.1) (record { records = rs; accepted = e; more = h }))
          (λ h. let g = accepted-refused log rs e words report (omega arith) number offset f in long g.0 g.1 (record { records = rs; accepted = e; enough = omega arith; bytes = g.2 }))

  -- prepare is refused by 8 exactly when the log is accepted and its day takes more words than are lent,
  pub refused-by-8 : ((prepare_of log words report).answer ≡ refused 8 0) ↔ Wider log (length words)
  refused-by-8 = (λ f. go (cause 8 0 f), λ w. accepted-few log w.records w.accepted words report w.more)
    where
      go : Cause 8 0 → Wider log (length words)
      go (own l e) = absurd (omega arith)
      go (wide e f w) = w
      go (long e f w) = absurd (omega arith)

  -- by 9 exactly when it is accepted, there are words enough, and the buffer is shorter than its report,
  pub refused-by-9 : ((prepare_of log words report).answer ≡ refused 9 0) ↔ Longer log (length words) (length report)
  refused-by-9 = (λ f. go (cause 9 0 f), λ l. ap (λ (x : Prepared). x.answer) (accepted-measured log l.records l.accepted words report l.enough l.bytes))
    where
      go : Cause 9 0 → Longer log (length words) (length report)
      go (own l e) = absurd (omega arith)
      go (wide e f w) = absurd (omega arith)
      go (long e f w) = w

  -- which 1,042,282 bytes never are,
  pub never-shorter : max_report_bytes ≤ length report → Longer log (length words) (length report) → ⊥
  unfolding listed_groups
  never-shorter k l = omega (arith, l.bytes, report-most (accepted-lent log l.records l.accepted) (sub_refl (full (badges_of l.records))) plain)

  -- and every other refusal is the log's own, by 1 to 7.
  pub refused-else : (number offset : ℕ) → (prepare_of log words report).answer ≡ refused number offset
      → (((number ≡ 8) × (offset ≡ 0)) ⊎ ((number ≡ 9) × (offset ≡ 0))) ⊎ ((number ≤ 7) × (judge log ≡ refused number offset))
  refused-else number offset f = go (cause number offset f)
    where
      go : Cause number offset → (((number ≡ 8) × (offset ≡ 0)) ⊎ ((number ≡ 9) × (offset ≡ 0))) ⊎ ((number ≤ 7) × (judge log ≡ refused number offset))
      go (own l e) = inr (l, e)
      go (wide e g w) = inl (inl (e, g))
      go (long e g w) = inl (inr (e, g))

-- With the listing's 12,288 words no day of up to 64 badges is refused by 8: one that is has more,
pub wider-than : {log : List ℕ} (w : Wider log listing_words) → word_bits < badges_of w.records
wider-than {log} w = by_cases (dec_lt word_bits (badges_of w.records)) (λ h. h) (λ h.
    let few : badges_of w.records ≤ word_bits = omega arith in
    let l = limits_of (accepted-lent log w.records w.accepted).limits in
    absurd (omega (arith, w.more, mul-le-mul l.short few)))

-- and with the words of the largest day no log is.
pub never-wider : {log : List ℕ} (w : Wider log max_words) → ⊥
never-wider {log} w = omega (arith, w.more, words-most _ _ (limits_of (accepted-lent log w.records w.accepted).limits))

-- What the listing shows for such a day.
pub listed-8 : {log : List ℕ} → Wider log listing_words → listing log ≡ refusal_line 8 0
unfolding listing judged_lines joined
listed-8 {log} w = rw (w.accepted, day-wide log w.records w.accepted w.more) (append-nil (refusal_line 8 0))
