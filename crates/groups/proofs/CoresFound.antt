-- Laws of the loop that finds a day's maximal cores, line by line, and keeps those that meet the thresholds.
use mathlib.Core.Path.{◌≡◌}
use mathlib.Core.List.{List}
use Prim.Native.Nat.{ℕ, suc, ◌+◌, ◌≤◌, ◌<◌}
use native.Mathlib.Omega.{arith}
use lib.ListN.{replicate}
use Rattle.sets.specs.Tables.{concat_below}
use Rattle.records.specs.Limits.{max_ticks}
use Rattle.records.proofs.WithinLimits.{limits_of}
use Rattle.days.specs.Days.{LentDay}
use Rattle.thresholds.specs.declared.Thresholds.{Thresholds}
use Rattle.spans.specs.Reports.{groups_from, groups_of}
use Rattle.spans.specs.KeptGroups.{kept}
use Rattle.spans.proofs.KeptRecords.{kept-le, kept_append}
use Rattle.spans.proofs.MostGroups.{spans-few, groups-before}
use Rattle.groups.specs.declared.kept.Cores.{Cores}
use Rattle.groups.specs.declared.lines.Found.{Found}
use Rattle.groups.specs.Lines.{none, ScoresBefore, LineFound}
use Rattle.groups.specs.Keeping.{KeepsCores, line_list, circles_at, large_at, LineRoom, circle_count, record_count, FindsCores}
use Rattle.groups.proofs.KeptCores.{keeps-none, keeps_then, keeps_same}
use Rattle.groups.proofs.LineLaws.{scores-none, scores-more, line-list, line-counted}

-- Before the turn of a first tick: the cores that meet the thresholds on the spans that start before it are kept, and the orders are those of the spans that
-- start one tick before it.
pub record CoresSoFar (n T : ℕ) (ws : List ℕ) (base : ℕ) (least : Thresholds) (first : ℕ) (cores₀ cores : Cores) (line : List Found) : Type 0 where
  pub high : first ≤ T
  pub before : ScoresBefore n T ws base 0 first line
  pub kept_so_far : KeepsCores (circle_count n ws) (record_count n ws least) (kept least (concat_below first (groups_from n T ws base))) cores₀ cores

short : {n T : ℕ} {ws : List ℕ} → LentDay n T ws → T ≤ max_ticks
short lent = (limits_of lent.limits).short

module _ {n T : ℕ} {ws : List ℕ} {base : ℕ} {least : Thresholds} (lent : LentDay n T ws) {cores₀ : Cores} where
  pub so-far-none : CoresSoFar n T ws base least 0 cores₀ cores₀ (replicate (suc max_ticks) none)
  unfolding concat_below kept
  so-far-none = record {
    high = omega arith;
    before = scores-none n T ws base 0 (short lent);
    kept_so_far = keeps-none;
  }

  module _ (enough : 1 ≤ least.members) (none : cores₀.count ≡ 0) {first : ℕ} {cores : Cores} {line : List Found} (s : CoresSoFar n T ws base least first cores₀ cores line) where
    module _ (l : first < T) {line' : List Found} (c : LineFound n T ws base 0 first least.members line line') where
      -- so far there are so few that one more for each last tick has room
      pub so-far-room : LineRoom T first cores
      so-far-room = record {
        short = short lent;
        inside = l;
        few = omega (arith, s.kept_so_far.number, kept-le least (concat_below first (groups_from n T ws base)), groups-before n T ws base first s.high, spans-few (short lent));
      }

      pub so-far-next : {cores' : Cores} → KeepsCores (circles_at line') (large_at line') (kept least (line_list line' first T)) cores cores'
          → CoresSoFar n T ws base least (first + 1) cores₀ cores' line'
      unfolding concat_below
      so-far-next {cores'} a =
          let b : KeepsCores (circle_count n ws) (record_count n ws least) (kept least (groups_from n T ws base first)) cores cores' = rw (line-list s.before c) at (keeps_same (line-counted least enough c) a) in
          let e : first + 1 ≡ suc first = omega arith in
          record {
            high = omega arith;
            before = rw e (scores-more s.before c);
            kept_so_far = rw (e, kept_append least (concat_below first (groups_from n T ws base)) (groups_from n T ws base first)) (keeps_then s.kept_so_far b);
          }

    -- after the last tick, the day's cores that meet the thresholds are kept
    pub so-far-end : T ≤ first → FindsCores n T ws base least cores
    unfolding groups_of
    so-far-end h =
        let q : first ≡ T = omega (arith, s.high) in
        let k = rw q at s.kept_so_far in
        record { number = omega (arith, k.number); made = omega (arith, k.made, cores₀.records_few); in_kept = rw none at k.in_kept }
