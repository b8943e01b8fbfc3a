-- Laws of the loops that score the runs of a day: over the last ticks of the runs with one first tick, and over the first ticks.
use mathlib.Core.Path.{◌≡◌, refl, ◌∙◌}
use mathlib.Core.List.{List}
use mathlib.Core.Logic.{by_cases}
use Prim.Native.Nat.{ℕ, suc, ◌+◌, ◌*◌, ◌≤◌, ◌<◌}
use native.Mathlib.Numerals.{add-one}
use native.Mathlib.Decide.{dec_lt}
use native.Mathlib.Omega.{arith}
use lib.ListN.{length, set, length-set, replicate}
use lib.Seq.{get_or-set_same, get_or-set_other}
use Rattle.records.specs.Limits.{max_ticks}
use Rattle.records.proofs.WithinLimits.{limits_of}
use Rattle.days.specs.Days.{LentDay}
use Rattle.cuts.specs.Sums.{table_score}
use Rattle.groups.specs.declared.lines.Found.{Found}
use Rattle.groups.specs.Lines.{none, at, ScoresBefore, LineFound}
use Rattle.groups.specs.Scoring.{LinePlaces, LinePut, Scores}
use Rattle.groups.proofs.LineLaws.{scores-none, scores-more}

-- a score written into a table is there, and those at other places stay
module _ (scores : List ℕ) (first last value : ℕ) where
  score-here : first * 96 + last < length scores → table_score (set scores (first * 96 + last) value) first last ≡ value
  unfolding table_score
  score-here l = get_or-set_same scores (first * 96 + last) value 0 l

  score-other : (f l : ℕ) → (f * 96 + l ≡ first * 96 + last → ⊥) → table_score (set scores (first * 96 + last) value) f l ≡ table_score scores f l
  unfolding table_score
  score-other f l d = get_or-set_other scores (first * 96 + last) (f * 96 + l) value 0 d

-- The loop over the last ticks of the runs that start with a tick, at tick last: those that end before it are in the table.
pub putting-start : {T first : ℕ} {line : List Found} {scores : List ℕ} → LinePlaces T first scores → LinePut first first line scores scores
putting-start p = record { size = p.scores_size; here = λ i l r. absurd (omega arith); before = λ f l r q. refl }

module _ {T first : ℕ} {line : List Found} {scores : List ℕ} (p : LinePlaces T first scores) {last : ℕ} {scores' : List ℕ} (h : LinePut last first line scores scores')
    (m : first ≤ last) (k : last < T) where
  -- the place of the next score is in the table
  pub place_inside : first * 96 + last < length scores'
  place_inside = omega (arith, p.short, p.inside, h.size)

  pub putting-next : LinePut (last + 1) first line scores (set scores' (first * 96 + last) (at line last).order)
  putting-next = record {
    size = length-set scores' (first * 96 + last) (at line last).order ∙ h.size;
    here = λ i l q. by_cases (dec_lt i last)
        (λ w. score-other scores' first last (at line last).order first i (λ v. omega arith) ∙ h.here i l w)
        (λ w. let e : i ≡ last = omega arith in rw e (score-here scores' first last (at line last).order place_inside));
    before = λ f l r q. score-other scores' first last (at line last).order f l (λ v. omega (arith, p.short)) ∙ h.before f l r q;
  }

-- The loop over the first ticks, at tick first: the runs that start before it are in the table, and the scores of those that start one tick
-- before it are at hand.
pub record ScoredBefore (n T : ℕ) (ws : List ℕ) (base query first : ℕ) (line : List Found) (scores : List ℕ) : Type 0 where
  pub before : ScoresBefore n T ws base query first line
  pub found : Scores n T ws base query first scores

module _ {n T : ℕ} {ws : List ℕ} (d : LentDay n T ws) where
  short : T ≤ max_ticks
  short = (limits_of d.limits).short

  -- before the first tick
  pub scored-none : (base query : ℕ) {scores : List ℕ} → length scores ≡ max_ticks * max_ticks → ScoredBefore n T ws base query 0 (replicate (suc max_ticks) none) scores
  scored-none base query e = record { before = scores-none n T ws base query short; found = record { size = e; score = λ first last l m r. absurd (omega arith) } }

  -- a turn: the scores of the runs that start with tick first are found, and put into the table
  module _ {base query first enough : ℕ} {line : List Found} {scores : List ℕ} (b : ScoredBefore n T ws base query first line scores) (k : first < T) {line' : List Found}
      (f : LineFound n T ws base query first enough line line') where
    pub scored-places : LinePlaces T first scores
    scored-places = record { short = short; inside = k; scores_size = b.found.size }

    pub scored-more : {scores' : List ℕ} → LinePut T first line' scores scores' → ScoredBefore n T ws base query (first + 1) line' scores'
    scored-more p = rw add-one (record {
      before = scores-more b.before f;
      found = record {
        size = p.size;
        score = λ i l q r s. by_cases (dec_lt i first)
            (λ w. p.before i l w (omega (arith, short)) ∙ b.found.score i l w r s)
            (λ w. let e : i ≡ first = omega arith in rw e (p.here l (omega arith) s ∙ f.score l (omega arith) s));
      };
    })

-- after the last tick
pub scored-all : {n T : ℕ} {ws : List ℕ} {base query first : ℕ} {line : List Found} {scores : List ℕ} → ScoredBefore n T ws base query first line scores → T ≤ first → Scores n T ws base query T scores
scored-all b k = record { size = b.found.size; score = λ f l p q r. b.found.score f l (omega arith) q r }
