-- Laws of the report as it is written: the cores whose records are appended so far, and the whole; and how many records the cores make.
use mathlib.Core.Path.{◌≡◌, refl, sym, ap, ap₂, subst, ◌∙◌}
use mathlib.Core.Bool.{true}
use mathlib.Core.List.Memᴰ
use mathlib.Core.List.{List, [], ◌∷◌, ◌++◌, map, append_assoc, append-nil}
use Prim.Native.Nat.{ℕ, ◌+◌, ◌*◌, ◌≤◌, ◌<◌}
use native.Mathlib.Nat.{mul-le-mul_left}
use native.Mathlib.Omega.{arith}
use lib.ListN.{length, get_or, take, drop, take-append-drop, length-append}
use Rattle.records.specs.declared.record.Record.TheVariants.{End}
use Rattle.records.specs.Outcomes.{refused, success}
use Rattle.records.specs.Records.{encode}
use Rattle.records.proofs.Records.{length-encode}
use Rattle.records.proofs.WithinLimits.{limits_of}
use Rattle.days.specs.Days.{LentDay}
use Rattle.logs.specs.Buffers.{place}
use Rattle.logs.proofs.Delivering.{length-place, take-place, drop-place, deliver-fits, deliver-short}
use Rattle.cores.specs.Rows.{graph}
use Rattle.circles.specs.Circles.{at_least, circles as circles'}
use Rattle.thresholds.specs.declared.Thresholds.{Thresholds}
use Rattle.spans.specs.Spans.{SpanOfDay, span_words}
use Rattle.spans.specs.Reviews.{Review}
use Rattle.spans.specs.SpanCores.{SpanCore, Mem}
use Rattle.spans.specs.Reports.{groups_of}
use Rattle.spans.specs.KeptGroups.{meets, kept}
use Rattle.spans.specs.CircleRecords.{circles_of, records_of, circle_records, shown_records}
use Rattle.spans.specs.CoreStatement.{CoreStatement}
use Rattle.spans.specs.Encoding.{Form, max_records, form_of, core_bytes, record_bytes, encode_cores, report_bytes}
use Rattle.spans.proofs.SpanCircles.{day-small, span-circles}
use Rattle.spans.proofs.GroupLists.{groups-stated, cores-stated}
use Rattle.spans.proofs.KeptRecords.{meets-of, of-kept, kept_append, kept-records}
use Rattle.spans.proofs.KeptCores.{kept-enough, whole-circle}
use Rattle.spans.proofs.RecordLists.{circle-records-append}
use Rattle.spans.proofs.CircleStated.{core-span, core-inside, core-small}
use Rattle.spans.proofs.Forms.{marked}
use Rattle.spans.proofs.MostGroups.{report-length}
use Rattle.spans.proofs.MostRecords.{records_few, most-small}
use Rattle.groups.specs.Keeping.{stored_core, with_circles, total, circle_count, record_count, FindsCores}
use Rattle.groups.specs.declared.kept.Stored.{Stored}
use Rattle.groups.specs.declared.kept.Cores.{Cores}
use Rattle.groups.specs.Appending.{AppendsCores, large_records, CoreToSplit, shown_bytes, ReportCores, EncodesReport, DeliversReport}
use Rattle.groups.proofs.Appended.{further, appends-none, appends-then}
use Rattle.groups.proofs.KeptCores.{kept_at}
use Rattle.groups.proofs.CircleLoop.{circle-room, large-one, large-length}

-- ---- the cores that are kept

module _ {n T : ℕ} {ws : List ℕ} {base : ℕ} (lent : LentDay n T ws) (r : Review n base) (least : Thresholds) where
  abbrev cores : List SpanCore
  cores = kept least (groups_of n T ws base)

  stated : CoreStatement n T ws base least cores
  stated = groups-stated n T ws base least lent r.named

  module _ (c : SpanCore) (i : Mem c cores) where
    -- it meets the thresholds
    core-meets : meets least c ≡ true
    core-meets = (of-kept least (groups_of n T ws base) i).1

    -- the records of its circles that are large are those that are kept of it
    core-records : large_records c least.members (circles_of n ws c) ≡ kept least (records_of n ws c)
    unfolding large_records
    core-records = let m = meets-of least c core-meets in sym (kept-records least n ws c m.0 m.1)

    record-length : record_count n ws least c ≡ length (kept least (records_of n ws c))
    unfolding record_count
    record-length = sym (large-length c least.members (circles_of n ws c)) ∙ ap length core-records

  -- the cores that are kept make the records of the report
  cores-shown : kept least (circle_records n ws cores) ≡ shown_records n T ws base least
  unfolding shown_records
  cores-shown = kept-enough least n ws (groups_of n T ws base) (core-small lent r.named (cores-stated lent r.named))

  -- so many
  total-records : (cs : List SpanCore) → ((c : SpanCore) → Mem c cs → Mem c cores) → total (record_count n ws least) cs ≡ length (kept least (circle_records n ws cs))
  unfolding total circle_records kept
  total-records [] h = refl
  total-records (c ∷ cs) h =
      omega (
        arith,
        record-length c (h c (Memᴰ.head refl)),
        total-records cs (λ d i. h d (Memᴰ.tail i)),
        ap length (kept_append least (records_of n ws c) (circle_records n ws cs)),
        length-append (kept least (records_of n ws c)) (kept least (circle_records n ws cs)),
      )

  module _ {found : Cores} (f : FindsCores n T ws base least found) where
    found-records : found.records ≡ length (shown_records n T ws base least)
    found-records = omega (arith, f.made, total-records cores (λ c i. i), ap length cores-shown)

    -- so long is the report, by the bytes of a set, and a buffer that holds it is room for it
    pub found-size : {w records : ℕ} → w ≡ (form_of n).set_bytes → records ≡ found.records → 10 + core_bytes w * records ≡ length (shown_bytes n T ws base least)
    found-size same made = rw (same, made) (ap (λ (k : ℕ). 10 + record_bytes n * k) found-records ∙ sym (report-length n T (shown_records n T ws base least)))

-- ---- a core that is split

module _ {n T : ℕ} {ws : List ℕ} {enough : ℕ} {c : SpanCore} {circles w count : ℕ} {buffer : List ℕ} (lent : LentDay n T ws) (d : CoreToSplit n T ws enough c circles w count buffer) where
  -- a core of one circle is its own record, and has room
  pub whole-record : circles ≡ 1 → large_records c enough (circles_of n ws c) ≡ c ∷ []
  whole-record e =
      let f : circles_of n ws c ≡ c.members ∷ [] = whole-circle n ws c (sym d.number ∙ e) (day-small lent c.members d.named) in
      rw f (large-one c enough c.members d.many)

  pub whole_room : circles ≡ 1 → (w ≤ 16) × (4 + core_bytes w * count + core_bytes w ≤ length buffer)
  whole_room e = circle-room d.room (sym (large-length c enough (circles_of n ws c)) ∙ ap length (whole-record e))

  -- the circles of any other are found from the rows of its span
  pub split-circles : {rows : List ℕ} → rows ≡ span_words n ws c.first c.last → circles' (graph rows) c.members ≡ circles_of n ws c
  unfolding circles_of
  split-circles e = rw e (span-circles (record { lent = lent; rising = d.rising; inside = d.inside }) c.members d.named)

-- ---- the report as it is written

-- Before the turn of a core: the records of the cores before it are appended, and the rows at hand are those of a span.
pub record ReportSoFar (n T : ℕ) (ws : List ℕ) (base : ℕ) (least : Thresholds) (i count first last : ℕ) (rows buffer₀ buffer : List ℕ) : Type 0 where
  pub done : List SpanCore
  pub left : List SpanCore
  pub all : kept least (groups_of n T ws base) ≡ done ++ left
  pub turn : i ≡ length done
  pub appended : AppendsCores (form_of n).group (form_of n).set_bytes 4 (kept least (circle_records n ws done)) 0 count buffer₀ buffer
  pub rows_are : rows ≡ span_words n ws first last

pub written_none : {n T : ℕ} {ws : List ℕ} {base : ℕ} {least : Thresholds} {rows buffer : List ℕ} → rows ≡ span_words n ws 0 0 → ReportSoFar n T ws base least 0 0 0 0 rows buffer buffer
unfolding circle_records kept
written_none {n} {T} {ws} {base} {least} r = record { done = []; left = kept least (groups_of n T ws base); all = refl; turn = refl; appended = appends-none; rows_are = r }

module _ {n T : ℕ} {ws : List ℕ} {base : ℕ} {least : Thresholds} {found : Cores} {given : List ℕ} (lent : LentDay n T ws) (reviewed : Review n base) (p : ReportCores n T ws base least found given) where
  -- the records of the cores before a place and from it on are those of the report
  shown-apart : (xs ys : List SpanCore) → kept least (groups_of n T ws base) ≡ xs ++ ys → shown_records n T ws base least ≡ kept least (circle_records n ws xs) ++ kept least (circle_records n ws ys)
  shown-apart xs ys e =
      sym (cores-shown lent reviewed least) ∙ ap (λ (cs : List SpanCore). kept least (circle_records n ws cs)) e ∙ ap (kept least) (circle-records-append n ws xs ys)
      ∙ kept_append least (circle_records n ws xs) (circle_records n ws ys)

  room_for : (xs ys : List SpanCore) → kept least (groups_of n T ws base) ≡ xs ++ ys → 10 + record_bytes n * (length (kept least (circle_records n ws xs)) + length (kept least (circle_records n ws ys))) ≤ length given
  room_for xs ys e =
      let both = ap length (shown-apart xs ys e) ∙ length-append (kept least (circle_records n ws xs)) (kept least (circle_records n ws ys)) in
      omega (arith, p.room, report-length n T (shown_records n T ws base least), ap (λ (k : ℕ). record_bytes n * k) both)

  module _ {i count first last : ℕ} {rows buffer₀ buffer : List ℕ} (s : ReportSoFar n T ws base least i count first last rows buffer₀ buffer) (size : length buffer₀ ≡ length given) where
    written_count : 10 + record_bytes n * count ≤ length buffer
    written_count =
        let few : count ≤ length (kept least (circle_records n ws s.done)) + length (kept least (circle_records n ws s.left)) = omega (arith, s.appended.number) in
        omega (arith, room_for s.done s.left s.all, mul-le-mul_left (record_bytes n) few, s.appended.size)

    -- so far there are few
    pub written-few : count ≤ max_records
    written-few =
        let limits = limits_of lent.limits in
        omega (
          arith,
          s.appended.number,
          ap length (shown-apart s.done s.left s.all),
          length-append (kept least (circle_records n ws s.done)) (kept least (circle_records n ws s.left)),
          records_few lent reviewed.named least,
          most-small limits.few limits.short,
        )

    module _ (l : i < found.count) where
      -- the core whose turn it is, and those after it
      next : (c : SpanCore) × (cs : List SpanCore) × (s.left ≡ c ∷ cs)
      next = go s.left refl
        where
          go : (left : List SpanCore) → s.left ≡ left → (c : SpanCore) × (cs : List SpanCore) × (s.left ≡ c ∷ cs)
          go [] e = absurd (omega (arith, p.found.number, s.turn, ap length s.all, length-append s.done s.left, ap length e))
          go (c ∷ cs) e = (c, cs, e)

      abbrev core : SpanCore
      core = next.0

      abbrev after : List SpanCore
      after = next.1

      apart : kept least (groups_of n T ws base) ≡ s.done ++ (core ∷ after)
      apart = s.all ∙ ap (λ (cs : List SpanCore). s.done ++ cs) next.2

      core-in : Mem core (kept least (groups_of n T ws base))
      core-in = subst (λ (cs : List SpanCore). Mem core cs) (sym apart) (Memᴰ.append_right s.done (Memᴰ.head refl))

      -- what is kept at the place says the core
      module _ (d : Stored) {f : Form} (same : f ≡ form_of n) where
        abbrev k : Stored
        k = get_or (take found.count found.kept) i d

        told : (stored_core k ≡ core) × (k.circles ≡ circle_count n ws core)
        told = kept_at (circle_count n ws) (take found.count found.kept) s.done core after (p.found.in_kept ∙ ap (map (with_circles (circle_count n ws))) apart) s.turn d

        pub written-split : CoreToSplit n T ws least.members (stored_core k) k.circles f.set_bytes count buffer
        unfolding circle_count record_count circle_records
        written-split = rw (same, told.0) (record {
          rising = here.rising;
          inside = here.inside;
          named = core-inside lent reviewed.named (stated lent reviewed least) core core-in;
          number = told.1;
          many = (meets-of least core (core-meets lent reviewed least core core-in)).2;
          room = record { short = (marked n).most; room = omega (arith, room_for s.done (core ∷ after) apart, mul-le-mul_left (record_bytes n) few, s.appended.size) };
        })
          where
            here : SpanOfDay n T ws core.first core.last
            here = core-span lent reviewed.named (stated lent reviewed least) core core-in

            few : count + length (at_least least.members (circles_of n ws core)) ≤ length (kept least (circle_records n ws s.done)) + length (kept least (circle_records n ws (core ∷ after)))
            few = omega (
              arith,
              s.appended.number,
              record-length lent reviewed least core core-in,
              ap length (kept_append least (records_of n ws core) (circle_records n ws after)),
              length-append (kept least (records_of n ws core)) (kept least (circle_records n ws after)),
            )

        pub written-more : {count' first' last' : ℕ} {rows' buffer' : List ℕ} → AppendsCores f.group f.set_bytes 4 (large_records (stored_core k) least.members (circles_of n ws (stored_core k))) count count' buffer buffer'
            → rows' ≡ span_words n ws first' last' → ReportSoFar n T ws base least (i + 1) count' first' last' rows' buffer₀ buffer'
        unfolding circle_records
        written-more {count'} {first'} {last'} {rows'} {buffer'} a e =
            let b : AppendsCores (form_of n).group (form_of n).set_bytes 4 (kept least (records_of n ws core)) count count' buffer buffer' = rw (same, told.0, core-records lent reviewed least core core-in) at a in
            let both : circle_records n ws (s.done ++ (core ∷ [])) ≡ circle_records n ws s.done ++ records_of n ws core = circle-records-append n ws s.done (core ∷ []) ∙ ap (λ (cs : List SpanCore). circle_records n ws s.done ++ cs) (append-nil (records_of n ws core)) in
            record {
              done = s.done ++ (core ∷ []);
              left = after;
              all = apart ∙ sym (append_assoc s.done (core ∷ []) after);
              turn = omega (arith, s.turn, length-append s.done (core ∷ []));
              appended = rw (both, kept_append least (circle_records n ws s.done) (records_of n ws core)) (appends-then s.appended b);
              rows_are = e;
            }

  -- the header
  abbrev header : List ℕ
  header = (form_of n).report ++ (n ∷ T ∷ [])

  header-four : length header ≡ 4
  header-four = omega (arith, length-append (form_of n).report (n ∷ T ∷ []), (marked n).report)

  -- leaves the buffer as long as it was
  pub header-size : {f : Form} {buffer₀ : List ℕ} → f ≡ form_of n → buffer₀ ≡ place 0 (f.report ++ (n ∷ T ∷ [])) given → length buffer₀ ≡ length given
  header-size {f} {buffer₀} same e =
      let start : buffer₀ ≡ place 0 header given = rw same at e in
      ap length start ∙ length-place 0 header given (omega (arith, header-four, p.room, report-length n T (shown_records n T ws base least)))

  -- the header and the end make it a report
  pub written-end : {i count first last : ℕ} {rows buffer₀ buffer left : List ℕ} {f : Form} → f ≡ form_of n → ReportSoFar n T ws base least i count first last rows buffer₀ buffer → found.count ≤ i
      → buffer₀ ≡ place 0 (f.report ++ (n ∷ T ∷ [])) given → length buffer₀ ≡ length given → left ≡ place (4 + core_bytes f.set_bytes * count) (encode (End count)) buffer → EncodesReport n T ws base least given left
  unfolding report_bytes
  written-end {i} {count} {buffer₀ = buffer₀} {buffer} {left} same s h e z f =
      let records = shown_records n T ws base least in
      let w = (form_of n).set_bytes in
      let r = record_bytes n in
      let none : s.left ≡ [] = no_more s.left (omega (arith, p.found.number, s.turn, ap length s.all, length-append s.done s.left)) in
      let whole : kept least (circle_records n ws s.done) ≡ records =
      ap (λ (cs : List SpanCore). kept least (circle_records n ws cs)) (sym (s.all ∙ ap (λ (cs : List SpanCore). s.done ++ cs) none ∙ append-nil s.done)) ∙ cores-shown lent reviewed least in
      let a : AppendsCores (form_of n).group w 4 records 0 count buffer₀ buffer = rw whole at s.appended in
      let start : buffer₀ ≡ place 0 header given = rw same at e in
      let end : left ≡ place (4 + r * count) (encode (End count)) buffer = rw same at f in
      let c : count ≡ length records = omega (arith, a.number) in
      let m : 4 + r * count + length (encode (End count)) ≡ 10 + r * count = omega (arith, length-encode (End count)) in
      let k : 10 + r * count ≤ length buffer = written_count s z in
      let none_yet : 4 + r * 0 ≡ 4 = omega arith in
      let head : take 4 buffer₀ ≡ header = rw header-four at (ap (take (0 + length header)) start ∙ take-place 0 header given (omega (arith, header-four, k, s.appended.size))) in
      let first-records : take (4 + r * count) buffer ≡ header ++ encode_cores w (form_of n).group records = a.bytes ∙ ap (λ (x : List ℕ). x ++ encode_cores w (form_of n).group records) (ap (λ (x : ℕ). take x buffer₀) none_yet ∙ head) in
      let front : take (10 + r * count) left ≡ report_bytes n T records =
      ap₂ (λ (x : ℕ) (y : List ℕ). take x y) (sym m) end
      ∙ take-place (4 + r * count) (encode (End count)) buffer (omega (arith, m, k))
      ∙ ap₂ ◌++◌ first-records (ap (λ (x : ℕ). encode (End x)) c)
      ∙ append_assoc header (encode_cores w (form_of n).group records) (encode (End (length records))) in
      let laid : drop 4 buffer₀ ≡ drop 4 given = rw header-four at (ap (drop (0 + length header)) start ∙ drop-place 0 header given (omega (arith, header-four, k, s.appended.size))) in
      let back : drop (10 + r * count) left ≡ drop (10 + r * count) given =
      ap₂ (λ (x : ℕ) (y : List ℕ). drop x y) (sym m) end
      ∙ drop-place (4 + r * count) (encode (End count)) buffer (omega (arith, m, k))
      ∙ ap (λ (x : ℕ). drop x buffer) m
      ∙ further (4 + r * count) (10 + r * count) buffer buffer₀ (omega arith) a.rest
      ∙ further 4 (10 + r * count) buffer₀ given (omega arith) laid in
      let long : 10 + r * count ≡ length (report_bytes n T records) = ap (λ (x : ℕ). 10 + r * x) c ∙ sym (report-length n T records) in
      record { bytes = sym (take-append-drop (10 + r * count) left) ∙ ap₂ ◌++◌ front (back ∙ ap (λ (x : ℕ). drop x given) long) }
    where
      no_more : (cs : List SpanCore) → length cs ≡ 0 → cs ≡ []
      no_more [] q = refl
      no_more (x ∷ cs) q = absurd (omega arith)

-- ---- what is delivered

module _ {n T : ℕ} {ws : List ℕ} {base : ℕ} {least : Thresholds} {buffer : List ℕ} where
  -- nothing is put into a buffer that is too short,
  pub delivers-nothing : length buffer < length (shown_bytes n T ws base least) → DeliversReport n T ws base least (refused 9 0) buffer buffer
  delivers-nothing h = let d = deliver-short (shown_bytes n T ws base least) buffer h in record { answer = rw d refl; leaves = rw d refl }

  -- and a report that is written in one that holds it is delivered
  pub delivers-written : {size : ℕ} {left : List ℕ} → size ≡ length (shown_bytes n T ws base least) → size ≤ length buffer → EncodesReport n T ws base least buffer left → DeliversReport n T ws base least (success size) buffer left
  delivers-written e h w =
      let d = deliver-fits (shown_bytes n T ws base least) buffer (omega arith) in
      record { answer = rw d (ap (λ (x : ℕ). success x) e); leaves = rw d w.bytes }
