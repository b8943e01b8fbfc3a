-- The plan statement holds of a plan's parts.
use mathlib.Core.Path.{◌≡◌, refl, sym, ap, ◌∙◌}
use mathlib.Core.List.Memᴰ
use mathlib.Core.List.{List, [], ◌∷◌}
use mathlib.Core.Logic.{⊎_elim}
use Prim.Native.Nat.{ℕ, zero, suc, ◌+◌, ◌^◌, ◌≤◌, ◌<◌, zero-le}
use native.Mathlib.Nat.{le_refl}
use native.Mathlib.Omega.{arith}
use lib.ListN.{length}
use Rattle.sets.specs.Sets.{Sub, full}
use Rattle.sets.proofs.Sets.{of-full, sub_trans, lt-of-members}
use Rattle.cores.proofs.Degrees.{LeastDegree}
use Rattle.cores.specs.Cores.{core}
use Rattle.cores.proofs.Cores.{core-sub, core-zero}
use Rattle.cores.proofs.Orders.{contains-of, score-best, shown-contain, shown-least}
use Rattle.cuts.specs.Cuttings.{Cutting, total, IsBest, IsFirstBest}
use Rattle.cuts.specs.Sums.{best_ends}
use Rattle.cuts.proofs.Cuttings.{Cuts, one, more, to-cuts, of-cuts}
use Rattle.cuts.proofs.Sums.{best-ends}
use Rattle.spans.specs.Spans.{SpanOfDay, span_neighbours}
use Rattle.spans.specs.Reviews.{Review}
use Rattle.spans.specs.SpanCores.{SpanCore, Mem, core_on}
use Rattle.spans.specs.Plans.{score_on, members_on, part_on, parts_from, parts_of}
use Rattle.spans.specs.PlanStatement.{LeastOn, Runs, none, run, CuttingWithSets, sum_of_orders, part_ends, PlanStatement, PlanAsked}
use Rattle.spans.proofs.OrderSets.{fellows-degree}

-- the members shown at a score are the core of that order: that of order 0 is the reviewed set
members-core : (n : ℕ) (ws : List ℕ) (base k first last : ℕ) → members_on n ws base k first last ≡ core (span_neighbours n ws first last) base k
unfolding members_on core_on
members-core n ws base zero first last = sym (core-zero (span_neighbours n ws first last) base)
members-core n ws base (suc k) first last = refl

members-sub : (n : ℕ) (ws : List ℕ) (base k first last : ℕ) → Sub (members_on n ws base k first last) base
members-sub n ws base k first last = rw (members-core n ws base k first last) (core-sub (span_neighbours n ws first last) base k)

-- on a span of a day, the least degree by fellow members is that of the span's graph
module _ {n T : ℕ} {ws : List ℕ} {first last s k : ℕ} (d : SpanOfDay n T ws first last) (w : Sub s (full n)) where
  pub least-degree : LeastOn n ws first last s k → LeastDegree (span_neighbours n ws first last) s k
  least-degree l = let x = l.attained in record {
    each = λ u i. rw (fellows-degree d s w u i) at (l.each u i);
    attained = (x.0, x.1, sym (fellows-degree d s w x.0 x.1) ∙ x.2);
  }

  pub degree-least : LeastDegree (span_neighbours n ws first last) s k → LeastOn n ws first last s k
  degree-least l = let x = l.attained in record {
    each = λ u i. rw (fellows-degree d s w u i) (l.each u i);
    attained = (x.0, x.1, fellows-degree d s w x.0 x.1 ∙ x.2);
  }

-- what is chosen for a run: a non-empty set of reviewed badges that holds the query, and its least degree there
record Chosen (n : ℕ) (ws : List ℕ) (base query : ℕ) (p : SpanCore) : Type 0 where
  within : Sub p.members base
  some : 0 < p.members
  holds : Sub query p.members
  least : LeastOn n ws p.first p.last p.members p.order

-- on a span of a day, a part's score and members are such,
part-chosen : {n T : ℕ} {ws : List ℕ} {base first last : ℕ} (query : ℕ) → SpanOfDay n T ws first last → Review n base → Sub query base
    → Chosen n ws base query (part_on n ws base query first last)
unfolding part_on score_on
part-chosen {n} {T} {ws} {base} {first} {last} query d v b =
    let rows = span_neighbours n ws first last in
    let e = members-core n ws base (score_on n ws base query first last) first last in
    let r = contains-of rows base query (score_on n ws base query first last) (shown-contain rows base query v.some b) in
    let w = members-sub n ws base (score_on n ws base query first last) first last in
    record {
      within = w;
      some = rw e r.0;
      holds = rw e r.1;
      least = degree-least d (sub_trans w v.named) (rw e (shown-least rows base query v.some b));
    }

-- and no set that holds the query has a larger least degree than the score
pub order_le : {n T : ℕ} {ws : List ℕ} {base first last : ℕ} (query : ℕ) {s k : ℕ} → SpanOfDay n T ws first last → Sub base (full n) → Sub s base → Sub query s
    → LeastOn n ws first last s k → k ≤ score_on n ws base query first last
unfolding score_on
order_le {n} {T} {ws} {base} {first} {last} query {s} {k} d r w h l =
    score-best (span_neighbours n ws first last) base query s k w h (least-degree d (sub_trans w r) l)

-- runs end to end stay within the day, so each is a span of it
runs_fit : {T h t : ℕ} {ps : List SpanCore} → Runs T h t ps → t ≤ T
runs_fit none = le_refl _
runs_fit (run l r) = omega (arith, runs_fit r)

runs-span : {T h t : ℕ} {ps : List SpanCore} → Runs T h t ps → (p : SpanCore) → Mem p ps → (p.first ≤ p.last) × (p.last < T)
runs-span none p i = absurd (Memᴰ.not-nil i)
runs-span (run l r) p i = ⊎_elim (λ e. rw e (l, runs_fit r)) (λ j. runs-span r p j) (Memᴰ.cases_cons i)

-- where no run is left, the day is at its end
runs_none : {T h t : ℕ} {ps : List SpanCore} → Runs T h t ps → h ≡ 0 → (t ≡ T) × (ps ≡ [])
runs_none none e = (refl, refl)
runs_none (run l r) e = absurd (omega arith)

-- the last ticks of c + 1 runs have c cuts
runs-cuts : {T h t : ℕ} {ps : List SpanCore} → Runs T h t ps → (c : ℕ) → h ≡ suc c → Cuts T c t (part_ends ps)
runs-cuts none c e = absurd (omega arith)
runs-cuts (run l r) zero e = let x = runs_none r (omega arith) in rw x.1 (one l x.0)
runs-cuts (run l r) (suc c) e = more l (runs-cuts r c (omega arith))

-- the sum of orders that are at most the scores of their runs is at most that of the scores
sum-le : (f : ℕ → ℕ → ℕ) {T h t : ℕ} {ps : List SpanCore} → Runs T h t ps → ((p : SpanCore) → Mem p ps → p.order ≤ f p.first p.last)
    → sum_of_orders ps ≤ total f t (part_ends ps)
unfolding sum_of_orders total
sum-le f none k = zero-le
sum-le f (run {p = p} {ps = ps} l r) k = omega (arith, k p (Memᴰ.head refl), sum-le f r (λ q i. k q (Memᴰ.tail i)))

-- the parts that a list of ends cuts: as many as the ends, each the part of its run, with members that fit a set; their orders' sum is that of
-- the scores; those of a list with c cuts are c + 1 runs
module _ (n : ℕ) (ws : List ℕ) (base query : ℕ) where
  pub parts-length : (t : ℕ) (ends : List ℕ) → length (parts_from n ws base query t ends) ≡ length ends
  unfolding parts_from
  parts-length t [] = refl
  parts-length t (e ∷ es) = ap suc (parts-length (suc e) es)

  parts_are : (t : ℕ) (ends : List ℕ) (p : SpanCore) → Mem p (parts_from n ws base query t ends) → p ≡ part_on n ws base query p.first p.last
  unfolding parts_from part_on
  parts_are t [] p i = absurd (Memᴰ.not-nil i)
  parts_are t (e ∷ es) p i = ⊎_elim (λ q. rw q) (parts_are (suc e) es p) (Memᴰ.cases_cons i)

  parts-small : (t : ℕ) (ends : List ℕ) → Sub base (full n) → (p : SpanCore) → Mem p (parts_from n ws base query t ends) → p.members < 2 ^ n
  unfolding part_on
  parts-small t ends r p i =
      rw (parts_are t ends p i)
      (lt-of-members n _ (λ u j. of-full n u (r.at u ((members-sub n ws base (score_on n ws base query p.first p.last) p.first p.last).at u j))))

  parts-sum : (t : ℕ) (ends : List ℕ) → sum_of_orders (parts_from n ws base query t ends) ≡ total (score_on n ws base query) t ends
  unfolding parts_from part_on sum_of_orders total
  parts-sum t [] = refl
  parts-sum t (e ∷ es) = ap (λ (x : ℕ). score_on n ws base query t e + x) (parts-sum (suc e) es)

  parts-runs : {T c t : ℕ} {ends : List ℕ} → Cuts T c t ends → Runs T (suc c) t (parts_from n ws base query t ends)
  unfolding parts_from part_on
  parts-runs {T} (one {t} {e} l q) = let z : Runs T 0 (suc e) [] = rw q none in run {p = part_on n ws base query t e} l z
  parts-runs (more {c} {t} {e} l r) = run {p = part_on n ws base query t e} l (parts-runs r)

  parts-ends : (t : ℕ) (ends : List ℕ) → part_ends (parts_from n ws base query t ends) ≡ ends
  unfolding parts_from part_on
  parts-ends t [] = refl
  parts-ends t (e ∷ es) = ap (λ (x : List ℕ). e ∷ x) (parts-ends (suc e) es)

-- The plan statement holds of a plan's parts.
module _ {n T : ℕ} {ws : List ℕ} {base query h : ℕ} (a : PlanAsked n T ws base query h) where
  -- its ends are the first of the best cuttings
  ends-first : IsFirstBest (score_on n ws base query) T h (best_ends (score_on n ws base query) T h)
  ends-first = best-ends (score_on n ws base query) T h a.some a.enough

  span : {first last : ℕ} → (first ≤ last) × (last < T) → SpanOfDay n T ws first last
  span x = record { lent = a.lent; rising = x.0; inside = x.1 }

  -- its runs, and what is chosen for each
  plan-runs : Runs T h 0 (parts_of n T ws base query h)
  unfolding parts_of
  plan-runs = go h refl
    where
      go : (k : ℕ) → h ≡ k → Runs T h 0 (parts_from n ws base query 0 (best_ends (score_on n ws base query) T h))
      go zero e = absurd (omega (arith, a.some))
      go (suc c) e = rw e (parts-runs n ws base query (to-cuts (rw e at ends-first.best.cutting)))

  plan-chosen : (p : SpanCore) → Mem p (parts_of n T ws base query h) → Chosen n ws base query p
  unfolding parts_of
  plan-chosen p i = rw (parts_are n ws base query 0 (best_ends (score_on n ws base query) T h) p i) (part-chosen query (span (runs-span plan-runs p i)) a.reviewed a.named)

  plan_sum : sum_of_orders (parts_of n T ws base query h) ≡ total (score_on n ws base query) 0 (best_ends (score_on n ws base query) T h)
  unfolding parts_of
  plan_sum = parts-sum n ws base query 0 (best_ends (score_on n ws base query) T h)

  pub plan_ends : part_ends (parts_of n T ws base query h) ≡ best_ends (score_on n ws base query) T h
  unfolding parts_of
  plan_ends = parts-ends n ws base query 0 (best_ends (score_on n ws base query) T h)

  -- any other cutting with sets: its ends cut the ticks, and its sum is no more than that of the scores of its runs
  module _ (others : List SpanCore) (x : CuttingWithSets n T ws base query h others) where
    other-cutting : Cutting T h (part_ends others)
    other-cutting = go h refl
      where
        go : (k : ℕ) → h ≡ k → Cutting T h (part_ends others)
        go zero e = absurd (omega (arith, a.some))
        go (suc c) e = rw e (of-cuts (runs-cuts x.runs c e))

    other-sum : sum_of_orders others ≤ total (score_on n ws base query) 0 (part_ends others)
    other-sum = sum-le (score_on n ws base query) x.runs (λ p i. order_le query (span (runs-span x.runs p i)) a.reviewed.named (x.within p i) (x.holds p i) (x.least p i))

    -- so it is a best cutting where its sum is the plan's
    other-best : sum_of_orders others ≡ sum_of_orders (parts_of n T ws base query h) → IsBest (score_on n ws base query) T h (part_ends others)
    other-best e = record { cutting = other-cutting; greatest = λ es c. omega (arith, ends-first.best.greatest es c, other-sum, plan_sum) }

  -- there are h parts, with members that fit a set
  pub plan-count : length (parts_of n T ws base query h) ≡ h
  unfolding parts_of
  plan-count = parts-length n ws base query 0 (best_ends (score_on n ws base query) T h) ∙ ends-first.best.cutting.count

  pub plan-small : (p : SpanCore) → Mem p (parts_of n T ws base query h) → p.members < 2 ^ n
  unfolding parts_of
  plan-small p i = parts-small n ws base query 0 (best_ends (score_on n ws base query) T h) a.reviewed.named p i

  pub parts-stated : PlanStatement n T ws base query h (parts_of n T ws base query h)
  parts-stated = record {
    cutting = record {
      runs = plan-runs;
      within = λ p i. (plan-chosen p i).within;
      some = λ p i. (plan-chosen p i).some;
      holds = λ p i. (plan-chosen p i).holds;
      least = λ p i. (plan-chosen p i).least;
    };
    greatest = λ others x. omega (arith, plan_sum, other-sum others x, ends-first.best.greatest (part_ends others) (other-cutting others x));
    first = λ others x e. rw plan_ends (ends-first.first (part_ends others) (other-best others x e));
  }
