-- Laws of the report's lines: the scores known before a first tick, and the records made of what is found.
use mathlib.Core.Path.{◌≡◌, refl, sym, ap, ◌∙◌}
use mathlib.Core.Bool.{Bool, true, false}
use mathlib.Core.List.{List, [], ◌∷◌}
use mathlib.Core.Logic.{by_cases}
use Prim.Native.Nat.{ℕ, suc, ◌≤◌, ◌<◌}
use native.Mathlib.Nat.{le_refl}
use native.Mathlib.Decide.{dec_lt}
use native.Mathlib.Omega.{arith}
use lib.Dec.{leb, ltb}
use lib.ListN.{replicate, get_or-replicate}
use borrow.Author.Tests.{leb-true}
use Rattle.sets.specs.Members.{members}
use Rattle.sets.specs.Bools.{◌and◌}
use Rattle.sets.specs.Tables.{keep_if}
use Rattle.sets.proofs.Bools.{clash}
use Rattle.sets.proofs.Concat.{concat-same, keep-nil}
use Rattle.records.specs.Limits.{max_ticks}
use Rattle.thresholds.specs.declared.Thresholds.{Thresholds}
use Rattle.spans.specs.SpanCores.{SpanCore, Mem}
use Rattle.spans.specs.KeptGroups.{kept}
use Rattle.spans.specs.CircleRecords.{circles_of}
use Rattle.spans.specs.Reports.{groups_on, groups_from}
use Rattle.spans.proofs.KeptRecords.{of-kept}
use Rattle.spans.proofs.Maximal.{score-before-none, score-before-more, score_after, after-yes, after-no, groups-on}
use Rattle.groups.specs.declared.lines.Found.{Found}
use Rattle.groups.specs.Lines.{none, at, ScoresBefore, LineFound}
use Rattle.groups.specs.Keeping.{line_list, circles_at, large_at, circle_count, record_count}
use Rattle.groups.proofs.KeptCores.{of-line-list}

-- scores before the first tick, and before the next
pub scores-none : (n T : ℕ) (ws : List ℕ) (base query : ℕ) → T ≤ max_ticks → ScoresBefore n T ws base query 0 (replicate (suc max_ticks) none)
scores-none n T ws base query s = record {
  size = refl;
  score = λ last l m. empty last (omega arith) ∙ sym (score-before-none n ws base query last);
  end = empty T (omega arith);
}
  where
    empty : (i : ℕ) → i < suc max_ticks → (at (replicate (suc max_ticks) none) i).order ≡ 0
    empty i l = ap (λ (x : Found). x.order) (get_or-replicate (suc max_ticks) i none none l)

pub scores-more : {n T : ℕ} {ws : List ℕ} {base query first enough : ℕ} {line line' : List Found} → ScoresBefore n T ws base query first line
    → LineFound n T ws base query first enough line line' → ScoresBefore n T ws base query (suc first) line'
scores-more {n} {T} {ws} {base} {query} {first} b f = record {
  size = f.size ∙ b.size;
  score = λ last l m. f.score last (omega arith) m ∙ sym (score-before-more n ws base query first last);
  end = ap (λ (x : Found). x.order) (f.after T (le_refl T)) ∙ b.end;
}

-- the records made of a line's orders and members are its groups
pub line-list : {n T : ℕ} {ws : List ℕ} {base first enough : ℕ} {line line' : List Found} → ScoresBefore n T ws base 0 first line
    → LineFound n T ws base 0 first enough line line' → line_list line' first T ≡ groups_from n T ws base first
unfolding line_list groups_from
line-list {n} {T} {ws} {base} {first} {line = line} {line'} b f = concat-same T _ _ (λ last m. cell last m (leb first last) refl)
  where
    next : (last : ℕ) → first ≤ last → last < T → (at line' (suc last)).order ≡ score_after n T ws base 0 first last
    next last l m = by_cases (dec_lt (suc last) T)
        (λ h. f.score (suc last) (omega arith) h ∙ sym (after-yes n T ws base 0 first last h))
        (λ h.
        let e : suc last ≡ T = omega arith in
        ap (λ (x : ℕ). (at line' x).order) e ∙ ap (λ (x : Found). x.order) (f.after T (le_refl T)) ∙ b.end ∙ sym (after-no n T ws base 0 first last (omega arith)))

    made : ℕ → List SpanCore
    made last =
        keep_if (ltb 0 (members (at line' last).members) and ltb ((at line' (suc last)).order) ((at line' last).order)) (record { order = (at line' last).order; first = first; last = last; members = members (at line' last).members } ∷ [])

    cell : (last : ℕ) → last < T → (b : Bool) → leb first last ≡ b → keep_if (leb first last) (made last) ≡ keep_if (leb first last) (groups_on n T ws base first last)
    cell last m false e = keep-nil _ _ (λ f. clash f e) ∙ sym (keep-nil _ _ (λ f. clash f e))
    cell last m true e =
        let l = leb-true _ _ e in
        ap (keep_if (leb first last)) (rw (f.score last l m, next last l m, f.new last l m) (sym (groups-on n T ws base first last l m)))

-- and how many circles each of them has, and how many with members enough, stands in the tables by last tick
pub line-counted : {n T : ℕ} {ws : List ℕ} {base first : ℕ} (least : Thresholds) {line line' : List Found} → 1 ≤ least.members
    → LineFound n T ws base 0 first least.members line line' → (c : SpanCore) → Mem c (kept least (line_list line' first T))
    → (circles_at line' c ≡ circle_count n ws c) × (large_at line' c ≡ record_count n ws least c)
unfolding circle_count record_count circles_of
line-counted {T = T} {first = first} least {line' = line'} p f c i =
    let x = of-line-list line' first T c (of-kept least _ i).0 in
    let k = f.counted p x.0 x.1 x.2 x.3 in
    rw x.4 (k.in_all, k.with_enough)
