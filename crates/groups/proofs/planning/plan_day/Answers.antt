-- `plan_day` meets its contract: 13, 21, 14 and 9 are judged first; the ends found from the scores are those of the plan, which is put into the buffer.
use mathlib.Core.Path.{◌≡◌, sym, ap, ◌∙◌}
use mathlib.Core.Bool.{true}
use mathlib.Core.List.{List, ◌++◌}
use Prim.Native.Nat.{◌*◌, ◌≤◌, min}
use native.Mathlib.Omega.{arith}
use lib.ListN.{drop}
use borrow.Author.Rules.{rules}
use Rattle.sets.specs.Sets.{is_sub, full}
use Rattle.sets.specs.Members.{capacity, members}
use Rattle.records.specs.Limits.{max_ticks}
use Rattle.records.proofs.WithinLimits.{limits_of}
use Rattle.logs.proofs.Delivering.{leaves-refused}
use Rattle.spans.specs.SpanCores.{SpanCore}
use Rattle.spans.specs.Encoding.{form_of, core_bytes, plan_bytes}
use Rattle.spans.proofs.Judging.{judged-query, judged-reviewed, judged-parts}
use Rattle.groups.specs.Scoring.{plan_size}
use Rattle.groups.proofs.Appended.{short-records}
use Rattle.groups.proofs.PlanCall.{PlanEnds, planned-short, planned-fits, table-ends}
use Rattle.groups.proofs.planning.plan_day.Goals as goal
use Rattle.groups.proofs.planning.plan_day.Goals.{After-best_ends-ends, After-is_subset, After-set_bytes-record, Else-not-is_subset, Else-not-is_subset-2, Else-ticks-parts}

-- the day's n badges fit a set
asked : (c : goal.After-is_subset) → let a = c.args in c.is_subset.result ≡ is_sub (members a.query) (full a.badges)
asked c =
    let m : min c.args.badges capacity ≡ c.args.badges = omega (arith, (limits_of c.requires.0.limits).few) in
    c.is_subset.ensures ∙ ap (is_sub (members c.args.query)) (c.full.ensures ∙ ap full m)

pub returns-then-not-is_subset : goal.returns-then-not-is_subset
returns-then-not-is_subset c =
    let a = c.args in
    let p = leaves-refused a.buffer.now (judged-query a.badges a.ticks a.words.now (members a.review) (members a.query) a.parts (sym (asked (goal.at.returns-then-not-is_subset c).After-is_subset) ∙ c.if-not-is_subset.true)) in
    record { answer = p.0; leaves = p.1 }

-- the query names badges of the day, and reviewed ones
named : (c : goal.Else-not-is_subset) → c.is_subset.result ≡ is_sub (members c.args.query) (full c.args.badges) → is_sub (members c.args.query) (full c.args.badges) ≡ true
named c e = sym e ∙ c.if-not-is_subset.false

reviewed : (c : goal.Else-not-is_subset-2) → let a = c.args in is_sub (members a.query) (members a.review) ≡ true
reviewed c = sym c.is_subset-2.ensures ∙ c.if-not-is_subset-2.false

pub returns-then-not-is_subset-2 : goal.returns-then-not-is_subset-2
returns-then-not-is_subset-2 c =
    let a = c.args in
    let at = goal.at.returns-then-not-is_subset-2 c in
    let p = leaves-refused a.buffer.now (judged-reviewed a.badges a.ticks a.words.now (members a.review) (members a.query) a.parts (named at.Else-not-is_subset (asked at.After-is_subset)) (sym c.is_subset-2.ensures ∙ c.if-not-is_subset-2.true)) in
    record { answer = p.0; leaves = p.1 }

pub returns-then-parts-lt1 : goal.returns-then-parts-lt1
returns-then-parts-lt1 c =
    let a = c.args in
    let at = goal.at.returns-then-parts-lt1 c in
    let p = leaves-refused a.buffer.now (judged-parts a.badges a.ticks a.words.now (members a.review) (members a.query) a.parts (named at.Else-not-is_subset (asked at.After-is_subset)) (reviewed at.Else-not-is_subset-2) (λ h. omega (arith, h.0, c.if-parts-lt1.true))) in
    record { answer = p.0; leaves = p.1 }

pub returns-then-ticks-parts : goal.returns-then-ticks-parts
returns-then-ticks-parts c =
    let a = c.args in
    let at = goal.at.returns-then-ticks-parts c in
    let p = leaves-refused a.buffer.now (judged-parts a.badges a.ticks a.words.now (members a.review) (members a.query) a.parts (named at.Else-not-is_subset (asked at.After-is_subset)) (reviewed at.Else-not-is_subset-2) (λ h. omega (arith, h.1, c.if-ticks-parts.true))) in
    record { answer = p.0; leaves = p.1 }

-- the parts have few bytes
short : (c : goal.After-set_bytes-record) → (c.set_bytes-record.result ≤ 16) × (core_bytes c.set_bytes-record.result * c.args.parts ≤ 2016)
short c =
    let few : c.args.parts ≤ max_ticks = omega (arith, (limits_of c.requires.0.limits).short, c.if-ticks-parts.false) in
    short-records c.args.badges c.set_bytes-record.ensures few

pub overflow_add-record : goal.overflow_add-record
overflow_add-record c = omega (arith, (short (goal.at.overflow_add-record c).After-set_bytes-record).0)

pub overflow_add-size : goal.overflow_add-size
overflow_add-size c = omega (arith, (short (goal.at.overflow_add-size c).After-set_bytes-record).0)

pub overflow_mul-size : goal.overflow_mul-size
overflow_mul-size c = omega (arith, (short (goal.at.overflow_mul-size c).After-set_bytes-record).1)

pub overflow_add-size-2 : goal.overflow_add-size-2
overflow_add-size-2 c = let s = short (goal.at.overflow_add-size-2 c).After-set_bytes-record in omega (arith, s.0, s.1)

pub returns-then-buffer-size : goal.returns-then-buffer-size
returns-then-buffer-size c =
    let a = c.args in
    let at = goal.at.returns-then-buffer-size c in
    let s = planned-short a.badges a.ticks a.words.now (members a.review) (members a.query) a.parts (named at.Else-not-is_subset (asked at.After-is_subset)) (reviewed at.Else-not-is_subset-2) (omega (arith, c.if-parts-lt1.false)) c.if-ticks-parts.false a.buffer.now c.set_bytes-record.ensures c.if-buffer-size.true in
    record { answer = s.0; leaves = s.1 }

-- the ends found are the plan's
found : (c : goal.After-best_ends-ends) → let a = c.args in PlanEnds a.badges a.ticks a.words.now (members a.review) (members a.query) a.parts c.best_ends-ends.result
found c = table-ends _ c.fill_scores.ensures (omega (arith, c.if-parts-lt1.false)) c.if-ticks-parts.false (limits_of c.requires.0.limits).short c.best_ends-ends.ensures

pub encode_plan-requires : goal.encode_plan-requires
encode_plan-requires c = record {
  scored = c.fill_scores.ensures;
  cutting = (found (goal.at.encode_plan-requires c).After-best_ends-ends).cutting;
  ends_size = search rules;
  room = rw c.set_bytes-record.ensures at c.if-buffer-size.false;
}

pub returns : goal.returns
returns c =
    let a = c.args in
    let at = goal.at.returns c in
    let bytes = c.encode_plan.ensures.bytes ∙ ap (λ (ps : List SpanCore). plan_bytes a.badges a.ticks a.parts (members a.query) ps ++ drop (plan_size (form_of a.badges).set_bytes a.parts) a.buffer.now) (found at.After-best_ends-ends).parts in
    let s = planned-fits a.badges a.ticks a.words.now (members a.review) (members a.query) a.parts (named at.Else-not-is_subset (asked at.After-is_subset)) (reviewed at.Else-not-is_subset-2) (omega (arith, c.if-parts-lt1.false)) c.if-ticks-parts.false a.buffer.now c.set_bytes-record.ensures c.if-buffer-size.false bytes in
    record { answer = s.0; leaves = s.1 }
