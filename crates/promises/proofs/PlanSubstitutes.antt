-- Substitutes for the plan, among them those that document 01's acceptance list names, each refuted from the plan statement and the promise that
-- the call keeps (PlanStatement in spans, ShiftPlans in groups).
use mathlib.Core.Path.{◌≡◌, refl, sym, ap, ◌∙◌}
use mathlib.Core.List.Memᴰ
use mathlib.Core.List.{List, [], ◌∷◌, ◌++◌, append_assoc}
use Prim.Native.Nat.{ℕ, suc, ◌+◌, ◌-◌, ◌*◌, ◌≤◌, ◌<◌}
use native.Mathlib.Omega.{arith}
use lib.ListN.{length, get_or, take, drop, replicate, length-replicate}
use Rattle.sets.specs.Words.{words_of}
use Rattle.sets.specs.Sets.{In, full, size}
use Rattle.sets.specs.Bytes.{little_endian}
use Rattle.sets.proofs.Sets.{none-sub, sub_refl, is-sub-of}
use Rattle.records.specs.declared.record.Record.TheVariants.{End}
use Rattle.records.specs.Records.{encode}
use Rattle.records.specs.Outcomes.{success}
use Rattle.days.specs.Days.{LentDay}
use Rattle.days.proofs.Scan.{day-of}
use Rattle.logs.specs.Buffers.{Delivered}
use Rattle.spans.specs.Spans.{SpanOfDay}
use Rattle.spans.specs.Contacts.{fellows}
use Rattle.spans.specs.SpanCores.{SpanCore, Mem}
use Rattle.spans.specs.Plans.{score_on, parts_of}
use Rattle.spans.specs.Encoding.{form_of, encode_cores, plan_bytes, plan_records}
use Rattle.spans.specs.PlanStatement.{Runs, none, run, sum_of_orders, PlanStatement, PlanAsked}
use Rattle.spans.proofs.Decoding.{last-four}
use Rattle.spans.proofs.Reviews.{all-reviewed}
use Rattle.spans.proofs.PlanParts.{order_le, parts-stated}
use Rattle.groups.specs.ShiftPlans.{PlansShifts}
use Rattle.promises.specs.D1.{d1_words}
use Rattle.promises.proofs.PlanPromise.{sums_same, bytes, plan-bytes, plan-kept, narrow-length, narrow-succeeds}
use Rattle.promises.proofs.SmallDays.{computing, d1-lent}

-- n 3, T 4: 0–1 in ticks 0 and 1, 0–2 in ticks 2 and 3
abbrev turning : List ℕ
turning = words_of (2 ∷ 1 ∷ 0 ∷ 2 ∷ 1 ∷ 0 ∷ 4 ∷ 0 ∷ 1 ∷ 4 ∷ 0 ∷ 1 ∷ [])

turning-lent : LentDay 3 4 turning
unfolding computing
turning-lent = record { limits = refl; enough = omega arith; day = day-of 3 4 turning refl }

turning-span : (first last : ℕ) → first ≤ last → last < 4 → SpanOfDay 3 4 turning first last
turning-span first last m w = record { lent = turning-lent; rising = m; inside = w }

-- around badge 0 it is cut into two parts by their last ticks 1 and 3, with the sum 2
turning-asked : PlanAsked 3 4 turning (full 3) 1 2
unfolding computing
turning-asked = record { lent = turning-lent; reviewed = all-reviewed turning-lent; named = is-sub-of 1 (full 3) refl; some = omega arith; enough = omega arith }

turning-sum : sum_of_orders (parts_of 3 4 turning (full 3) 1 2) ≡ 2
unfolding computing
turning-sum = refl

-- the scores of the runs 0 to 0 and 1 to 3
turning-first : score_on 3 turning (full 3) 1 0 0 ≡ 1
unfolding computing
turning-first = refl

turning-rest : score_on 3 turning (full 3) 1 1 3 ≡ 0
unfolding computing
turning-rest = refl

-- a part of it is of an order that is no more than its run's score
turning-order : (ps : List SpanCore) → PlanStatement 3 4 turning (full 3) 1 2 ps → (p : SpanCore) → Mem p ps → (first last : ℕ) → p.first ≡ first → p.last ≡ last → first ≤ last → last < 4
    → p.order ≤ score_on 3 turning (full 3) 1 first last
turning-order ps s p i first last e f m w =
    rw (e, f) at (order_le 1 (turning-span p.first p.last (omega arith) (omega arith)) (sub_refl _) (s.cutting.within p i) (s.cutting.holds p i) (s.cutting.least p i))

-- A careless cut: after tick 0, which has the best score, and then the rest in one part, with whatever scores and members.
pub careless-cut : (p q : SpanCore) → p.first ≡ 0 → p.last ≡ 0 → q.first ≡ 1 → q.last ≡ 3 → PlanStatement 3 4 turning (full 3) 1 2 (p ∷ q ∷ []) → ⊥
unfolding sum_of_orders
careless-cut p q a b c d s = omega (
  arith,
  turning-order _ s p (Memᴰ.head refl) 0 0 a b (omega arith) (omega arith),
  turning-order _ s q (Memᴰ.tail (Memᴰ.head refl)) 1 3 c d (omega arith) (omega arith),
  turning-first,
  turning-rest,
  turning-sum,
  sums_same _ _ (parts-stated turning-asked) s,
)

-- the first of some runs, with those after it; and none
runs-first : {T h k t : ℕ} {ps : List SpanCore} → Runs T h t ps → h ≡ suc k → (p : SpanCore) × (rest : List SpanCore) × (ps ≡ p ∷ rest) × (p.first ≡ t) × Runs T k (suc p.last) rest
runs-first none e = absurd (omega arith)
runs-first {k = k} (run {h} {p} {ps} l r) e = let f : h ≡ k = omega arith in (p, ps, refl, refl, rw f at r)

runs_none : {T h t : ℕ} {ps : List SpanCore} → Runs T h t ps → h ≡ 0 → (t ≡ T) × (ps ≡ [])
runs_none none e = (refl, refl)
runs_none (run l r) e = absurd (omega arith)

-- the last tick of the first of some parts
unfoldable pub first_end : List SpanCore → ℕ
first_end [] = 0
first_end (p ∷ ps) = p.last

careless-stated : (ps : List SpanCore) → PlanStatement 3 4 turning (full 3) 1 2 ps → first_end ps ≡ 0 → ⊥
unfolding first_end
careless-stated ps s e =
    let x = runs-first {k = 1} s.cutting.runs (omega arith) in
    let y = runs-first {k = 0} x.4 (omega arith) in
    let z = runs_none y.4 (omega arith) in
    let f : ps ≡ x.0 ∷ y.0 ∷ [] = x.2 ∙ ap (λ (r : List SpanCore). x.0 ∷ r) (y.2 ∙ ap (λ (r : List SpanCore). y.0 ∷ r) z.1) in
    let g : x.0.last ≡ 0 = rw f at e in
    careless-cut x.0 y.0 x.3 g (omega (arith, y.3)) (omega (arith, z.0)) (rw f at s)

-- A call that makes every first tick a part of its own, where there are more parts than one, and cuts the rest as it likes.
pub careless-call : (call : ℕ → ℕ → List ℕ → ℕ → ℕ → ℕ → List ℕ → Delivered)
    → ((n T : ℕ) (ws : List ℕ) (base query h : ℕ) (buffer : List ℕ) (size : ℕ) → PlanAsked n T ws base query h → 2 ≤ h → (call n T ws base query h buffer).answer ≡ success size
    → first_end (plan_records (take size (call n T ws base query h buffer).buffer)) ≡ 0)
    → PlansShifts call → ⊥
careless-call call e p =
    let lent : List ℕ = replicate 45 0 in
    let k = narrow-succeeds call p lent turning-asked (omega arith) (omega (arith, length-replicate {A = ℕ} 45 0)) in
    careless-stated _ (plan-kept call p lent turning-asked _ k) (e 3 4 turning (full 3) 1 2 lent _ turning-asked (omega arith) k)

-- Members that are not the core: D1 around badge 2 in one part, of score 1. No set with a member that has no fellow member can be shown,
pub members-not-the-core : (s u : ℕ) → In s u → size (fellows 4 d1_words 0 2 s u) ≡ 0
    → PlanStatement 4 3 d1_words (full 4) 4 1 (record { order = 1; first = 0; last = 2; members = s } ∷ []) → ⊥
members-not-the-core s u i e p = omega (arith, e, (p.cutting.least (record { order = 1; first = 0; last = 2; members = s }) (Memᴰ.head refl)).each u i)

-- so not the query by itself, and not all badges
pub members-the-query : PlanStatement 4 3 d1_words (full 4) 4 1 (record { order = 1; first = 0; last = 2; members = 4 } ∷ []) → ⊥
unfolding computing
members-the-query p = members-not-the-core 4 2 refl refl p

pub members-all : PlanStatement 4 3 d1_words (full 4) 4 1 (record { order = 1; first = 0; last = 2; members = 15 } ∷ []) → ⊥
unfolding computing
members-all p = members-not-the-core 15 0 refl refl p

-- a plan's last four bytes say h
plan-four : (n T h query : ℕ) (ps : List SpanCore) → drop (length (plan_bytes n T h query ps) - 4) (plan_bytes n T h query ps) ≡ little_endian 4 h
unfolding plan_bytes
plan-four n T h query ps =
    let form = form_of n in
    let head : List ℕ = form.plan ++ (n ∷ T ∷ h ∷ little_endian form.set_bytes query) in
    let all : List ℕ = encode_cores form.set_bytes form.part ps in
    ap (λ (b : List ℕ). drop (length b - 4) b) (sym (append_assoc head all (encode (End h)))) ∙ last-four (head ++ all) h

-- An ED count that is the same for all plans, whatever else is written.
module _ (count : ℕ) (call : ℕ → ℕ → List ℕ → ℕ → ℕ → ℕ → List ℕ → Delivered)
    (written : (n T : ℕ) (ws : List ℕ) (base query h : ℕ) (buffer : List ℕ) (size : ℕ) → PlanAsked n T ws base query h → (call n T ws base query h buffer).answer ≡ success size
    → drop (size - 4) (take size (call n T ws base query h buffer).buffer) ≡ little_endian 4 count)
    (p : PlansShifts call) where
  -- it is the number of parts
  right-count : (h : ℕ) → 1 ≤ h → h ≤ 3 → little_endian 4 count ≡ little_endian 4 h
  right-count h a b =
      sym (written 4 3 d1_words (full 4) 0 h lent (19 + 13 * h) asked succeeds)
      ∙ ap (drop (19 + 13 * h - 4)) (plan-bytes call p lent asked (19 + 13 * h) succeeds)
      ∙ ap (λ (k : ℕ). drop (k - 4) (bytes call p lent asked)) (sym (narrow-length call p lent asked (omega arith)))
      ∙ plan-four 4 3 h 0 _
    where
      lent : List ℕ
      lent = replicate 58 0

      asked : PlanAsked 4 3 d1_words (full 4) 0 h
      asked = record { lent = d1-lent; reviewed = all-reviewed d1-lent; named = none-sub (full 4); some = a; enough = b }

      succeeds : (call 4 3 d1_words (full 4) 0 h lent).answer ≡ success (19 + 13 * h)
      succeeds = narrow-succeeds call p lent asked (omega arith) (omega (arith, length-replicate {A = ℕ} 58 0))

  pub plan-count-fixed : ⊥
  unfolding little_endian
  plan-count-fixed =
      let z : ◌≡◌ {A = ℕ} 1 2 = ap (λ (l : List ℕ). get_or l 0 0) (sym (right-count 1 (omega arith) (omega arith)) ∙ right-count 2 (omega arith) (omega arith)) in
      omega arith
