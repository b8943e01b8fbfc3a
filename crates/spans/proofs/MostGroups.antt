-- The lengths of reports and plans. A day has at most T(T+1)/2 maximal cores, one for each span: at most 4,656.
use mathlib.Core.Path.{◌≡◌, refl}
use mathlib.Core.Bool.{Bool, true, false}
use mathlib.Core.List.{List, [], ◌∷◌, ◌++◌}
use Prim.Native.Nat.{ℕ, zero, suc, ◌+◌, ◌-◌, ◌*◌, ◌≤◌, ◌<◌}
use native.Mathlib.Nat.{le_refl, mul-le-mul, mul-le-mul_left}
use native.Mathlib.Omega.{arith}
use lib.Dec.{leb}
use lib.ListN.{length, length-append}
use borrow.Author.Tests.{leb-true, leb-false}
use Rattle.sets.specs.Bytes.{little_endian}
use Rattle.sets.specs.Tables.{concat_below, keep_if}
use Rattle.sets.proofs.Bytes.{length-little-endian}
use Rattle.sets.proofs.Concat.{keep-nil, keep-le, concat-from, concat-triangle}
use Rattle.records.specs.declared.record.Record.TheVariants.{End}
use Rattle.records.specs.Limits.{max_ticks}
use Rattle.records.specs.Records.{encode}
use Rattle.records.proofs.Records.{length-encode}
use Rattle.spans.specs.SpanCores.{SpanCore}
use Rattle.spans.specs.Reports.{groups_on, groups_from, groups_of}
use Rattle.spans.specs.Encoding.{span_count, max_cores, form_of, record_bytes, encode_cores, report_bytes, plan_bytes}
use Rattle.spans.proofs.Maximal.{groups-on}
use Rattle.spans.proofs.Forms.{marked}
use Rattle.spans.proofs.Encoding.{encode-cores-length}

-- a report has 10 bytes and those of each record
pub report-length : (n T : ℕ) (records : List SpanCore) → length (report_bytes n T records) ≡ 10 + record_bytes n * length records
unfolding report_bytes
report-length n T records =
    let form = form_of n in
    omega (
      arith,
      length-append (form.report ++ (n ∷ T ∷ [])) (encode_cores form.set_bytes form.group records ++ encode (End (length records))),
      length-append form.report (n ∷ T ∷ []),
      (marked n).report,
      length-append (encode_cores form.set_bytes form.group records) (encode (End (length records))),
      encode-cores-length form.set_bytes form.group (marked n).group records,
      length-encode (End (length records)),
    )

-- a plan has 11 bytes, those of the query and those of each part
pub plan-length : (n T h query : ℕ) (parts : List SpanCore) → length parts ≡ h → length (plan_bytes n T h query parts) ≡ 11 + (form_of n).set_bytes + record_bytes n * h
unfolding plan_bytes
plan-length n T h query parts e =
    let form = form_of n in
    let all : length (encode_cores form.set_bytes form.part parts) ≡ record_bytes n * h = rw e at (encode-cores-length form.set_bytes form.part (marked n).part parts) in
    omega (
      arith,
      length-append (form.plan ++ (n ∷ T ∷ h ∷ little_endian form.set_bytes query)) (encode_cores form.set_bytes form.part parts ++ encode (End h)),
      length-append form.plan (n ∷ T ∷ h ∷ little_endian form.set_bytes query),
      (marked n).plan,
      length-append (encode_cores form.set_bytes form.part parts) (encode (End h)),
      length-little-endian form.set_bytes query,
      all,
      length-encode (End h),
    )

-- no day has more spans than one of 96 ticks
pub spans-few : {T : ℕ} → T ≤ max_ticks → span_count T ≤ max_cores
unfolding span_count
spans-few {T} s = let k : suc T ≤ suc max_ticks = omega arith in omega (arith, mul-le-mul s k)

module _ (n T : ℕ) (ws : List ℕ) (base : ℕ) where
  -- at most one for each last tick from the first tick on
  pub line-few : (first : ℕ) → length (groups_from n T ws base first) ≤ T - first
  unfolding groups_from
  line-few first = concat-from cell first T before (λ last m. one last m (leb first last) refl)
    where
      cell : ℕ → List SpanCore
      cell last = keep_if (leb first last) (groups_on n T ws base first last)

      before : (last : ℕ) → last < first → cell last ≡ []
      before last h = keep-nil (leb first last) (groups_on n T ws base first last) (λ e. let k : first ≤ last = leb-true first last e in omega arith)

      one : (last : ℕ) → last < T → (b : Bool) → leb first last ≡ b → length (cell last) ≤ 1
      one last m false e = rw (before last (leb-false first last e)) (omega arith)
      one last m true e =
          let single : length (groups_on n T ws base first last) ≤ 1 = rw (groups-on n T ws base first last (leb-true first last e) m) (keep-le _ _) in
          omega (arith, keep-le (leb first last) (groups_on n T ws base first last))

  -- so many of the spans that start before a tick, and one for each last tick from it on, are no more than there are spans
  pub groups-before : (first : ℕ) → first ≤ T → length (concat_below first (groups_from n T ws base)) + (T - first) ≤ span_count T
  unfolding span_count
  groups-before first h =
      let double : (T - first) * 2 ≤ (T - first) * suc (T - first) = double-le (T - first) in
      omega (arith, concat-triangle T (groups_from n T ws base) first h (λ i l. line-few i))
    where
      double-le : (d : ℕ) → d * 2 ≤ d * suc d
      double-le zero = omega arith
      double-le (suc d) = let l : 2 ≤ suc (suc d) = omega arith in mul-le-mul_left (suc d) l

  pub groups-few : T ≤ max_ticks → length (groups_of n T ws base) ≤ max_cores
  unfolding groups_of
  groups-few s = omega (arith, groups-before T (le_refl T), spans-few s)
