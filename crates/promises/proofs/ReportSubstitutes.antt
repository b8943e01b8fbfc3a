-- Substitutes for the plain report, among them those that document 01's acceptance list names, each refuted from the group statement and the
-- promise that the call keeps (GroupStatement in spans, GroupReports in groups).
use mathlib.Core.Path.{◌≡◌, refl, sym, ap, ◌∙◌}
use mathlib.Core.List.Memᴰ
use mathlib.Core.List.{List, [], ◌∷◌, ◌++◌, append_assoc}
use mathlib.Core.Logic.{◌⊎◌, inl, inr, ⊎_elim, ◌↔◌}
use Prim.Native.Nat.{ℕ, ◌+◌, ◌*◌, ◌-◌, ◌≤◌, ◌<◌}
use native.Mathlib.Nat.{le_refl}
use native.Mathlib.Omega.{arith}
use lib.ListN.{length, replicate, take, drop, length-append, length-replicate}
use lib.Seq.{take_at}
use Rattle.sets.specs.Sets.{Sub, full}
use Rattle.sets.specs.Bytes.{little_endian, from_little_endian}
use Rattle.sets.proofs.Sets.{sub_refl}
use Rattle.records.specs.declared.record.Record.TheVariants.{End}
use Rattle.records.specs.Records.{encode}
use Rattle.records.specs.Outcomes.{refused, success}
use Rattle.records.proofs.Records.{length-encode}
use Rattle.records.proofs.Outcomes.{refused-success, success-same}
use Rattle.days.specs.Days.{LentDay}
use Rattle.logs.specs.Buffers.{Delivered, deliver}
use Rattle.logs.proofs.Delivering.{deliver-fits}
use Rattle.thresholds.specs.declared.Thresholds.{Thresholds}
use Rattle.spans.specs.SpanCores.{SpanCore, Mem}
use Rattle.thresholds.specs.Ranges.{plain}
use Rattle.spans.specs.CircleRecords.{shown_records}
use Rattle.spans.specs.Encoding.{form_of, record_bytes, encode_cores, report_bytes, head_badges, report_records, decode_cores, records_after}
use Rattle.spans.specs.GroupStatement.{GroupStatement, ReportAsked}
use Rattle.spans.proofs.Decoding.{last-four, report-said}
use Rattle.spans.proofs.MostGroups.{report-length}
use Rattle.spans.proofs.Reviews.{all-reviewed}
use Rattle.spans.proofs.CircleStated.{statement-unique, report-stated}
use Rattle.groups.specs.GroupReports.{ReportsGroups}
use Rattle.promises.specs.D1.{d1_words}
use Rattle.promises.proofs.SmallDays.{computing, still, d1-lent, still-lent, d1-plain, still-plain, triple, couple, d1-records, all_four}

-- The statement leaves no choice of the records: a list of which it holds is the report's.
pub stated-shown : {n T : ℕ} {ws : List ℕ} {base : ℕ} {least : Thresholds} (xs : List SpanCore) → GroupStatement n T ws base least xs → LentDay n T ws → Sub base (full n)
    → xs ≡ shown_records n T ws base least
stated-shown xs s d r = statement-unique xs _ s (report-stated d r)

-- A record of the report that is left out.
pub group-left-out : {n T : ℕ} {ws : List ℕ} {base : ℕ} {least : Thresholds} (xs : List SpanCore) → GroupStatement n T ws base least xs → LentDay n T ws → Sub base (full n)
    → (c : SpanCore) → Mem c (shown_records n T ws base least) → (Mem c xs → ⊥) → ⊥
group-left-out xs s d r c i h = h (rw (stated-shown xs s d r) i)

-- A record that is none of the report's.
pub not-maximal : {n T : ℕ} {ws : List ℕ} {base : ℕ} {least : Thresholds} (xs : List SpanCore) → GroupStatement n T ws base least xs → LentDay n T ws → Sub base (full n)
    → (c : SpanCore) → Mem c xs → (Mem c (shown_records n T ws base least) → ⊥) → ⊥
not-maximal xs s d r c i h = h (rw (stated-shown xs s d r) at i)

-- A record that is shown twice.
pub group-twice : {n T : ℕ} {ws : List ℕ} {base : ℕ} {least : Thresholds} (xs ys zs : List SpanCore) (c : SpanCore) → GroupStatement n T ws base least (xs ++ (c ∷ (ys ++ (c ∷ zs)))) → ⊥
group-twice xs ys zs c s = s.once xs ys zs c c refl refl

-- A record of order 0.
pub order-zero : {n T : ℕ} {ws : List ℕ} {base : ℕ} {least : Thresholds} (xs : List SpanCore) → GroupStatement n T ws base least xs → (c : SpanCore) → Mem c xs → c.order ≡ 0 → ⊥
order-zero xs s c i e = omega (arith, s.order c i)

-- a list of which D1's statement holds is its report,
d1-stated : (xs : List SpanCore) → GroupStatement 4 3 d1_words (full 4) plain xs → xs ≡ triple ∷ couple ∷ []
d1-stated xs s = stated-shown xs s d1-lent (sub_refl _) ∙ d1-records

-- so it has the first group,
pub d1-triple : (xs : List SpanCore) → GroupStatement 4 3 d1_words (full 4) plain xs → Mem triple xs
d1-triple xs s = rw (d1-stated xs s) (Memᴰ.head refl)

-- and no record has other members than these two
d1-members : (xs : List SpanCore) → GroupStatement 4 3 d1_words (full 4) plain xs → (c : SpanCore) → Mem c xs → (c.members ≡ 7) ⊎ (c.members ≡ 12)
d1-members xs s c i = ⊎_elim (λ e. inl (ap (λ (x : SpanCore). x.members) e)) (λ j. inr (ap (λ (x : SpanCore). x.members) (Memᴰ.eq_of_singleton j)))
    (Memᴰ.cases_cons (rw (d1-stated xs s) at i))

-- a report that has this group has more than 10 bytes
longer : (xs : List SpanCore) → Mem triple xs → 10 < length (report_bytes 4 3 xs)
longer [] i = absurd (Memᴰ.not-nil i)
longer (x ∷ xs) i = omega (arith, report-length 4 3 (x ∷ xs))

-- two answers that are the same have the same bytes in front
delivered-same : (xs ys us vs : List ℕ) → ◌≡◌ {A = Delivered} (record { answer = success (length xs); buffer = xs ++ us }) (record { answer = success (length ys); buffer = ys ++ vs }) → xs ≡ ys
delivered-same xs ys us vs e =
    sym (take_at xs us (length ys) (success-same (ap (λ (x : Delivered). x.answer) e))) ∙ ap (λ (x : Delivered). take (length ys) x.buffer) e ∙ take_at ys vs _ refl

-- Where a call keeps the promise, whatever records it is made of, and answers for two days alike, they have the same records;
pub same-records : {call : ℕ → ℕ → List ℕ → ℕ → Thresholds → List ℕ → Delivered} {groups : ℕ → ℕ → List ℕ → ℕ → Thresholds → List SpanCore} → ReportsGroups call groups
    → {n T : ℕ} {ws ws' : List ℕ} {base base' : ℕ} {least least' : Thresholds} → ReportAsked n T ws base least → ReportAsked n T ws' base' least'
    → ((buffer : List ℕ) → call n T ws base least buffer ≡ call n T ws' base' least' buffer) → groups n T ws base least ≡ groups n T ws' base' least'
same-records {call} {groups} p {n} {T} {ws} {ws'} {base} {base'} {least} {least'} a a' f =
    let bytes = report_bytes n T (groups n T ws base least) in
    let bytes' = report_bytes n T (groups n T ws' base' least') in
    let lent = bytes ++ bytes' in
    let long = length-append bytes bytes' in
    let same : bytes ≡ bytes' = delivered-same bytes bytes' _ _ (sym (p.succeeds n T ws base least lent a (omega arith)) ∙ f lent ∙ p.succeeds n T ws' base' least' lent a' (omega arith)) in
    sym (p.said n T ws base least a) ∙ ap report_records same ∙ p.said n T ws' base' least' a'

-- and where it delivers the report of some records, the statement holds of these
pub promised-records : {call : ℕ → ℕ → List ℕ → ℕ → Thresholds → List ℕ → Delivered} {groups : ℕ → ℕ → List ℕ → ℕ → Thresholds → List SpanCore} → ReportsGroups call groups
    → {n T : ℕ} {ws : List ℕ} {base : ℕ} {least : Thresholds} → ReportAsked n T ws base least
    → (xs : List SpanCore) → report_records (report_bytes n T xs) ≡ xs → ((buffer : List ℕ) → call n T ws base least buffer ≡ deliver (success (report_bytes n T xs)) buffer)
    → GroupStatement n T ws base least xs
promised-records {call} {groups} p {n} {T} {ws} {base} {least} a xs said f =
    let ours = report_bytes n T (groups n T ws base least) in
    let theirs = report_bytes n T xs in
    let lent = ours ++ theirs in
    let long = length-append ours theirs in
    let same : theirs ≡ ours = delivered-same theirs ours _ _ (sym (f lent ∙ deliver-fits theirs lent (omega arith)) ∙ p.succeeds n T ws base least lent a (omega arith)) in
    let e : xs ≡ groups n T ws base least = sym said ∙ ap report_records same ∙ p.said n T ws base least a in
    rw e (p.stated n T ws base least a)

-- An empty report for all days: whatever records the promise is made of, no call that delivers the report without groups for every day keeps it.
pub empty-report : (call : ℕ → ℕ → List ℕ → ℕ → Thresholds → List ℕ → Delivered) (groups : ℕ → ℕ → List ℕ → ℕ → Thresholds → List SpanCore)
    → ((n T : ℕ) (ws buffer : List ℕ) → LentDay n T ws → call n T ws (full n) plain buffer ≡ deliver (success (report_bytes n T [])) buffer) → ReportsGroups call groups → ⊥
empty-report call groups e p =
    let s = promised-records p d1-plain [] (report-said 4 3 [] (omega arith) (λ c i. absurd (Memᴰ.not-nil i)) (omega arith)) (λ buffer. e 4 3 d1_words buffer d1-lent) in
    Memᴰ.not-nil (d1-triple [] s)

-- D1's report without its second group
pub second-left-out : GroupStatement 4 3 d1_words (full 4) plain (triple ∷ []) → ⊥
second-left-out s = let z : ◌≡◌ {A = ℕ} 1 2 = ap length (d1-stated _ s) in omega arith

-- D1's report with the core of order 1 on 0 to 1, which is not maximal, among its records: wherever it stands, and so added once, and twice
pub core-not-maximal : (xs : List SpanCore) → GroupStatement 4 3 d1_words (full 4) plain xs → Mem all_four xs → ⊥
core-not-maximal xs s i = ⊎_elim (λ e. omega arith) (λ e. omega arith) (d1-members xs s all_four i)

pub added-once : GroupStatement 4 3 d1_words (full 4) plain (triple ∷ all_four ∷ couple ∷ []) → ⊥
added-once s = core-not-maximal _ s (Memᴰ.tail (Memᴰ.head refl))

pub added_twice : GroupStatement 4 3 d1_words (full 4) plain (triple ∷ all_four ∷ all_four ∷ couple ∷ []) → ⊥
added_twice s = core-not-maximal _ s (Memᴰ.tail (Memᴰ.head refl))

-- D1's first group with fewer members, and with more
abbrev fewer : SpanCore
fewer = record { order = 2; first = 0; last = 1; members = 3 }

abbrev more : SpanCore
more = record { order = 2; first = 0; last = 1; members = 15 }

pub fewer-members : (xs : List SpanCore) → GroupStatement 4 3 d1_words (full 4) plain xs → Mem fewer xs → ⊥
fewer-members xs s i = ⊎_elim (λ e. omega arith) (λ e. omega arith) (d1-members xs s fewer i)

pub more-members : (xs : List SpanCore) → GroupStatement 4 3 d1_words (full 4) plain xs → Mem more xs → ⊥
more-members xs s i = ⊎_elim (λ e. omega arith) (λ e. omega arith) (d1-members xs s more i)

-- a day without contacts has no groups
none-still : {call : ℕ → ℕ → List ℕ → ℕ → Thresholds → List ℕ → Delivered} {groups : ℕ → ℕ → List ℕ → ℕ → Thresholds → List SpanCore} → ReportsGroups call groups → groups 4 3 still (full 4) plain ≡ []
unfolding computing
none-still p = stated-shown _ (p.stated 4 3 still (full 4) plain still-plain) still-lent (sub_refl _)

-- A report that is the same for all days, whatever it says.
pub fixed-report : (f : ℕ → ℕ → List ℕ → Delivered) (groups : ℕ → ℕ → List ℕ → ℕ → Thresholds → List SpanCore) → ReportsGroups (λ n T ws base least buffer. f n T buffer) groups → ⊥
fixed-report f groups p =
    let same : groups 4 3 d1_words (full 4) plain ≡ [] = same-records p d1-plain still-plain (λ buffer. refl) ∙ none-still p in
    Memᴰ.not-nil (rw same at (d1-triple _ (p.stated 4 3 d1_words (full 4) plain d1-plain)))

-- 9 before measuring the answer: judged by any bound that n and T decide. A day without groups has a report of 10 bytes, and D1 a longer one.
pub bound-before-measuring : (call : ℕ → ℕ → List ℕ → ℕ → Thresholds → List ℕ → Delivered) (groups : ℕ → ℕ → List ℕ → ℕ → Thresholds → List SpanCore) (bound : ℕ → ℕ → ℕ)
    → ((n T : ℕ) (ws buffer : List ℕ) → LentDay n T ws → ((call n T ws (full n) plain buffer).answer ≡ refused 9 0) ↔ (length buffer < bound n T))
    → ReportsGroups call groups → ⊥
bound-before-measuring call groups bound e p =
    let low : 10 < bound 4 3 → ⊥ = λ h. refused-success (sym ((e 4 3 still ten still-lent).1 (omega (arith, long))) ∙ ap (λ (x : Delivered). x.answer) (p.succeeds 4 3 still (full 4) plain ten still-plain (omega (arith, short, long)))) in
    low (omega (arith, (e 4 3 d1_words ten d1-lent).0 (ap (λ (x : Delivered). x.answer) (p.measures 4 3 d1_words (full 4) plain ten d1-plain (omega (arith, longer _ (d1-triple _ (p.stated 4 3 d1_words (full 4) plain d1-plain)), long)))), long))
  where
    ten : List ℕ
    ten = replicate 10 0

    long : length ten ≡ 10
    long = length-replicate {A = ℕ} 10 0

    short : length (report_bytes 4 3 (groups 4 3 still (full 4) plain)) ≡ 10
    short =
        let none : 10 + record_bytes 4 * 0 ≡ 10 = omega arith in
        report-length 4 3 (groups 4 3 still (full 4) plain) ∙ ap (λ (x : List SpanCore). 10 + record_bytes 4 * length x) (none-still p) ∙ none

-- where bytes that differ in the ED count alone are equal, the four bytes of the two counts are the same
same-four : (front : List ℕ) (count other : ℕ) (rest : List ℕ) → (front ++ encode (End count)) ++ rest ≡ (front ++ encode (End other)) ++ rest
    → little_endian 4 count ≡ little_endian 4 other
same-four front count other rest e = sym (last-four front count) ∙ ap (λ (b : List ℕ). drop (length b - 4) b) same ∙ last-four front other
  where
    long : length (front ++ encode (End count)) ≡ length (front ++ encode (End other))
    long = omega (arith, length-append front (encode (End count)), length-append front (encode (End other)), length-encode (End count), length-encode (End other))

    same : front ++ encode (End count) ≡ front ++ encode (End other)
    same = sym (take_at _ rest (length (front ++ encode (End other))) long) ∙ ap (take (length (front ++ encode (End other)))) e ∙ take_at _ rest _ refl

-- An ED count that is the same for all days, after whatever groups the promise is kept with.
module _ (count : ℕ) (groups : ℕ → ℕ → List ℕ → ℕ → Thresholds → List SpanCore) (call : ℕ → ℕ → List ℕ → ℕ → Thresholds → List ℕ → Delivered)
    (written : (n T : ℕ) (ws buffer : List ℕ) → LentDay n T ws → length (report_bytes n T (groups n T ws (full n) plain)) ≤ length buffer
    → (call n T ws (full n) plain buffer).buffer
    ≡ (((form_of n).report ++ (n ∷ T ∷ [])) ++ (encode_cores (form_of n).set_bytes (form_of n).group (groups n T ws (full n) plain) ++ encode (End count))) ++ drop (length (report_bytes n T (groups n T ws (full n) plain))) buffer)
    (p : ReportsGroups call groups) where
  asked : {n T : ℕ} {ws : List ℕ} → LentDay n T ws → ReportAsked n T ws (full n) plain
  unfolding computing
  asked d = record { lent = d; reviewed = all-reviewed d; range = refl }

  -- it is that of the day's groups
  right-count : {n T : ℕ} {ws : List ℕ} → LentDay n T ws → little_endian 4 count ≡ little_endian 4 (length (groups n T ws (full n) plain))
  unfolding report_bytes
  right-count {n} {T} {ws} d =
      let bytes = report_bytes n T (groups n T ws (full n) plain) in
      let rest = drop (length bytes) bytes in
      let header = (form_of n).report ++ (n ∷ T ∷ []) in
      let records = encode_cores (form_of n).set_bytes (form_of n).group (groups n T ws (full n) plain) in
      let apart : (k : ℕ) → ((header ++ records) ++ encode (End k)) ++ rest ≡ (header ++ (records ++ encode (End k))) ++ rest = λ k. ap (λ (x : List ℕ). x ++ rest) (append_assoc header records (encode (End k))) in
      same-four (header ++ records) count (length (groups n T ws (full n) plain)) rest
      (apart count ∙ sym (written n T ws bytes d (le_refl _)) ∙ ap (λ (x : Delivered). x.buffer) (p.succeeds n T ws (full n) plain bytes (asked d) (le_refl _)) ∙ sym (apart _))

  pub end-count-fixed : ⊥
  unfolding form_of report_bytes records_after decode_cores little_endian from_little_endian
  end-count-fixed =
      let xs = groups 4 3 d1_words (full 4) plain in
      let a : little_endian 4 (length xs) ≡ little_endian 4 0 = sym (right-count d1-lent) ∙ right-count still-lent ∙ ap (λ (x : List SpanCore). little_endian 4 (length x)) (none-still p) in
      let b : drop (length (report_bytes 4 3 xs) - 4) (report_bytes 4 3 xs) ≡ little_endian 4 0 = last-four (((form_of 4).report ++ (4 ∷ 3 ∷ [])) ++ encode_cores (form_of 4).set_bytes (form_of 4).group xs) (length xs) ∙ a in
      let c : xs ≡ [] = sym (p.said 4 3 d1_words (full 4) plain d1-plain) ∙ ap (λ (x : List ℕ). decode_cores (form_of (head_badges (report_bytes 4 3 xs))).set_bytes (from_little_endian x) (drop 4 (report_bytes 4 3 xs))) b in
      Memᴰ.not-nil (rw c at (d1-triple xs (p.stated 4 3 d1_words (full 4) plain d1-plain)))
