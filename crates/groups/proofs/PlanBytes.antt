-- Laws of the plan as it is encoded: the parts appended so far, and the whole; and how the call is judged.
use mathlib.Core.Path.{◌≡◌, refl, sym, ap, ap₂, ◌∙◌}
use mathlib.Core.List.{List, [], ◌∷◌, ◌++◌, append_assoc}
use Prim.Native.Nat.{ℕ, zero, suc, ◌+◌, ◌-◌, ◌*◌, ◌≤◌, ◌<◌, zero-le}
use native.Mathlib.Nat.{mul-suc, mul-le-mul_left}
use native.Mathlib.Numerals.{add-one}
use native.Mathlib.Omega.{arith}
use lib.ListN.{length, get_or, take, drop, length-take, take-append-drop}
use lib.Seq.{get_or-take, take-suc}
use Rattle.records.specs.declared.record.Record.TheVariants.{End}
use Rattle.records.specs.Limits.{max_ticks}
use Rattle.records.specs.Records.{encode}
use Rattle.records.proofs.Records.{length-encode}
use Rattle.logs.specs.Buffers.{place}
use Rattle.logs.proofs.Delivering.{take-place, drop-place}
use Rattle.cuts.specs.Cuttings.{Cutting}
use Rattle.cuts.specs.Sums.{table_score}
use Rattle.spans.specs.SpanCores.{SpanCore}
use Rattle.spans.specs.Plans.{score_on, part_on, parts_from}
use Rattle.spans.specs.Encoding.{Form, form_of, core_bytes, record_bytes, encode_core, encode_cores, plan_bytes}
use Rattle.spans.proofs.Forms.{marked}
use Rattle.spans.proofs.Encoding.{encode-core-length}
use Rattle.groups.specs.Appending.{AppendsCores}
use Rattle.groups.specs.Scoring.{plan_size, PlanParts, EncodesPlan}
use Rattle.groups.proofs.Appended.{further, appends-none, appends-then}

-- the tick after the ends so far
pub next_first : ℕ → List ℕ → ℕ
next_first t [] = t
next_first t (e ∷ es) = next_first (suc e) es

-- one end more is one part more
parts_more : (n : ℕ) (ws : List ℕ) (base query t : ℕ) (es : List ℕ) (e : ℕ) → parts_from n ws base query t (es ++ (e ∷ [])) ≡ parts_from n ws base query t es ++ (part_on n ws base query (next_first t es) e ∷ [])
unfolding parts_from next_first
parts_more n ws base query t [] e = refl
parts_more n ws base query t (x ∷ es) e = ap {B = List SpanCore} (λ ps. part_on n ws base query t x ∷ ps) (parts_more n ws base query (suc x) es e)

next_more : (t : ℕ) (es : List ℕ) (e : ℕ) → next_first t (es ++ (e ∷ [])) ≡ suc e
unfolding next_first
next_more t [] e = refl
next_more t (x ∷ es) e = next_more (suc x) es e

-- the ends of a cutting rise, up to the last tick
module _ (T h : ℕ) (ends : List ℕ) (c : Cutting T h (take h ends)) where
  end-at : (i : ℕ) → i < h → get_or (take h ends) i 0 ≡ get_or ends i 0
  end-at i l = get_or-take h ends i 0 l

  end-rises : (i : ℕ) → suc i < h → get_or ends i 0 < get_or ends (suc i) 0
  end-rises i l = omega (arith, c.rising i l, end-at i (omega arith), end-at (suc i) l)

  end-inside : (d i : ℕ) → i + suc d ≡ h → get_or ends i 0 < T
  end-inside zero i e = omega (arith, c.last i (omega arith), end-at i (omega arith))
  end-inside (suc d) i e = omega (arith, end-rises i (omega arith), end-inside d (suc i) (omega arith))

-- Before the turn of part i: the parts before it are appended, and it starts after the end of the last.
pub record PlanSoFar (n T : ℕ) (ws : List ℕ) (base query h : ℕ) (ends scores : List ℕ) (i first count : ℕ) (buffer₀ buffer : List ℕ) : Type 0 where
  pub asked : PlanParts n T ws base query h ends scores buffer
  pub high : i ≤ h
  pub number : count ≡ i
  pub next : first ≡ next_first 0 (take i ends)
  pub low : i < h → first ≤ get_or ends i 0
  pub appended : AppendsCores (form_of n).part (form_of n).set_bytes (record_bytes n) (parts_from n ws base query 0 (take i ends)) 0 count buffer₀ buffer

-- a buffer of the same length does as well
same-room : {n T : ℕ} {ws : List ℕ} {base query h : ℕ} {ends scores x y : List ℕ} → length y ≡ length x → PlanParts n T ws base query h ends scores x → PlanParts n T ws base query h ends scores y
same-room e p = record { scored = p.scored; cutting = p.cutting; ends_size = p.ends_size; room = omega (arith, p.room) }

-- there are no more parts than ticks
pub parts-few : {n T : ℕ} {ws : List ℕ} {base query h : ℕ} {ends scores buffer : List ℕ} → PlanParts n T ws base query h ends scores buffer → h ≤ max_ticks
parts-few {h = h} {ends = ends} p = omega (arith, p.cutting.count, p.ends_size, length-take h ends)

pub plan-none : {n T : ℕ} {ws : List ℕ} {base query h : ℕ} {ends scores given buffer : List ℕ} → length buffer ≡ length given → PlanParts n T ws base query h ends scores given → PlanSoFar n T ws base query h ends scores 0 0 0 buffer buffer
unfolding parts_from next_first
plan-none e p = record { asked = same-room e p; high = zero-le; number = refl; next = refl; low = λ l. zero-le; appended = appends-none }

module _ {n T : ℕ} {ws : List ℕ} {base query h : ℕ} {ends scores : List ℕ} {i first count : ℕ} {buffer₀ buffer : List ℕ} (s : PlanSoFar n T ws base query h ends scores i first count buffer₀ buffer) where
  pub plan-few : count ≤ max_ticks
  plan-few = omega (arith, parts-few s.asked, s.number, s.high)

  module _ (l : i < h) where
    pub plan-inside : get_or ends i 0 < T
    plan-inside = end-inside T h ends s.asked.cutting (h - suc i) i (omega arith)

    -- the run's place in the table of scores, and the score that stands there
    pub plan-place : T ≤ max_ticks → first * max_ticks + get_or ends i 0 < max_ticks * max_ticks
    plan-place short = omega (arith, s.low l, plan-inside)

    pub plan-score : get_or scores (first * max_ticks + get_or ends i 0) 0 ≡ score_on n ws base query first (get_or ends i 0)
    unfolding table_score
    plan-score = s.asked.scored.score first (get_or ends i 0) (omega (arith, s.low l, plan-inside)) (s.low l) plan-inside

    -- there is room for the part, in the form that the program has
    module _ {f : Form} (same : f ≡ form_of n) where
      pub plan-room : (f.set_bytes ≤ 16) × (core_bytes f.set_bytes + core_bytes f.set_bytes * count + core_bytes f.set_bytes ≤ length buffer)
      plan-room =
          let more : suc count ≤ h = omega (arith, s.number) in
          rw same ((marked n).most, omega (arith, s.asked.room, mul-le-mul_left (record_bytes n) more, mul-suc (record_bytes n) count))

      pub plan-next : {last count' : ℕ} {buffer' : List ℕ} → last ≡ get_or ends i 0
          → AppendsCores f.part f.set_bytes (core_bytes f.set_bytes) (part_on n ws base query first last ∷ []) count count' buffer buffer'
          → PlanSoFar n T ws base query h ends scores (i + 1) (last + 1) count' buffer₀ buffer'
      plan-next {last} {count'} {buffer'} e a =
          let t : take (suc i) ends ≡ take i ends ++ (get_or ends i 0 ∷ []) = take-suc ends i 0 (omega (arith, parts-few s.asked, s.asked.ends_size)) in
          let p : parts_from n ws base query 0 (take (suc i) ends) ≡ parts_from n ws base query 0 (take i ends) ++ (part_on n ws base query first last ∷ []) = rw (t, parts_more n ws base query 0 (take i ends) (get_or ends i 0), ← s.next, ← e) in
          let y : next_first 0 (take (suc i) ends) ≡ suc (get_or ends i 0) = ap (next_first 0) t ∙ next_more 0 (take i ends) (get_or ends i 0) in
          let z : last + 1 ≡ suc (get_or ends i 0) = omega arith in
          rw add-one (record {
            asked = same-room a.size s.asked;
            high = l;
            number = omega (arith, a.number, s.number);
            next = z ∙ sym y;
            low = λ m. omega (arith, end-rises T h ends s.asked.cutting i m);
            appended = rw p (appends-then s.appended (rw same at a));
          })

-- the header and the end make it a plan
pub plan-end : {n T : ℕ} {ws : List ℕ} {base query h : ℕ} {ends scores : List ℕ} {i first count : ℕ} {buffer₀ buffer : List ℕ} {f : Form} (given left : List ℕ) → f ≡ form_of n
    → PlanSoFar n T ws base query h ends scores i first count buffer₀ buffer → h ≤ i → plan_size (form_of n).set_bytes h ≤ length given
    → buffer₀ ≡ place 0 (encode_core f.set_bytes f.plan (record { order = n; first = T; last = h; members = query })) given
    → left ≡ place (core_bytes f.set_bytes + core_bytes f.set_bytes * count) (encode (End count)) buffer → EncodesPlan n T ws base query h ends given left
unfolding plan_bytes encode_core
plan-end {n} {T} {ws} {base} {query} {h} {ends} {i = i} {first} {count} {buffer₀} {buffer} given left same s l g e f =
    let w = (form_of n).set_bytes in
    let r = record_bytes n in
    let header = encode_core w (form_of n).plan (record { order = n; first = T; last = h; members = query }) in
    let parts = parts_from n ws base query 0 (take h ends) in
    let j : i ≡ h = omega (arith, s.high) in
    let c : count ≡ h = omega (arith, s.number) in
    let a : AppendsCores (form_of n).part w r parts 0 count buffer₀ buffer = rw j at s.appended in
    let start : buffer₀ ≡ place 0 header given = rw same at e in
    let end : left ≡ place (r + r * count) (encode (End count)) buffer = rw same at f in
    let room : plan_size w count ≤ length buffer = rw c s.asked.room in
    let m : r + r * count + length (encode (End count)) ≡ plan_size w h = rw (← c) (omega (arith, length-encode (End count))) in
    let k : 0 + length header ≡ r = omega (arith, encode-core-length w (form_of n).plan (marked n).plan (record { order = n; first = T; last = h; members = query })) in
    let head : take r buffer₀ ≡ header = rw k at (ap (take (0 + length header)) start ∙ take-place 0 header given (omega arith)) in
    let none : r + r * 0 ≡ r = omega arith in
    let first-parts : take (r + r * count) buffer ≡ header ++ encode_cores w (form_of n).part parts = a.bytes ∙ ap (λ (x : List ℕ). x ++ encode_cores w (form_of n).part parts) (ap (λ (x : ℕ). take x buffer₀) none ∙ head) in
    let front : take (plan_size w h) left ≡ plan_bytes n T h query parts =
    ap₂ (λ (x : ℕ) (y : List ℕ). take x y) (sym m) end
    ∙ take-place (r + r * count) (encode (End count)) buffer (omega (arith, room, length-encode (End count)))
    ∙ ap₂ ◌++◌ first-parts (ap (λ (x : ℕ). encode (End x)) c)
    ∙ append_assoc header (encode_cores w (form_of n).part parts) (encode (End h)) in
    let laid : drop r buffer₀ ≡ drop r given = rw k at (ap (drop (0 + length header)) start ∙ drop-place 0 header given (omega arith)) in
    let back : drop (plan_size w h) left ≡ drop (plan_size w h) given =
    ap₂ (λ (x : ℕ) (y : List ℕ). drop x y) (sym m) end
    ∙ drop-place (r + r * count) (encode (End count)) buffer (omega (arith, room, length-encode (End count)))
    ∙ ap (λ (x : ℕ). drop x buffer) m
    ∙ further (r + r * count) (plan_size w h) buffer buffer₀ (omega (arith, m)) a.rest
    ∙ further r (plan_size w h) buffer₀ given (omega arith) laid in
    record { bytes = sym (take-append-drop (plan_size w h) left) ∙ ap₂ ◌++◌ front back }
