-- Laws of cores that are kept: one list after another, one core, those of the spans with one first tick, and the core at a place.
use mathlib.Core.Bool.{Bool, true, false}
use mathlib.Core.Path.{◌≡◌, refl, sym, ap, ap₂, ◌∙◌}
use mathlib.Core.List.Memᴰ
use mathlib.Core.List.{List, [], ◌∷◌, ◌++◌, map, map-append, append_assoc, append-nil}
use Prim.Native.Nat.{ℕ, suc, ◌+◌, ◌-◌, ◌≤◌, ◌<◌}
use native.Mathlib.Numerals.{add-one}
use native.Mathlib.Omega.{arith}
use lib.Dec.{leb, ltb}
use lib.ListN.{length, get_or, set, take, length-append, get_or-map}
use lib.Seq.{take-suc-set}
use borrow.Author.Tests.{le-leb, leb-true, ltb-true, lt-ltb}
use Rattle.sets.specs.Bools.{◌and◌}
use Rattle.sets.specs.Tables.{concat_below, keep_if}
use Rattle.sets.specs.Members.{members}
use Rattle.sets.proofs.Bools.{clash, and_in, and_left, and_right}
use Rattle.sets.proofs.Concat.{concat-nil, keep-nil, keep_all, keep-le, concat-from, of-concat, of-keep}
use Rattle.thresholds.specs.declared.Thresholds.{Thresholds}
use Rattle.spans.specs.SpanCores.{SpanCore, Mem}
use Rattle.spans.specs.KeptGroups.{kept}
use Rattle.spans.proofs.KeptRecords.{kept-le, kept_append, of-kept}
use Rattle.groups.specs.Keeping.{kept_core, stored_core, said, with_circles, total, KeepsCores, line_list, circles_at, large_at}
use Rattle.groups.specs.declared.kept.Kept.{Kept}
use Rattle.groups.specs.declared.kept.Stored.{Stored}
use Rattle.groups.specs.declared.lines.Found.{Found}
use Rattle.groups.specs.Lines.{at}
use Rattle.groups.specs.declared.kept.Cores.{Cores}

-- ---- lists of cores, one after another

total-append : (large : SpanCore → ℕ) (xs ys : List SpanCore) → total large (xs ++ ys) ≡ total large xs + total large ys
unfolding total
total-append large [] ys = omega arith
total-append large (x ∷ xs) ys = omega (arith, total-append large xs ys)

-- two ways to count that say the same of each core
circles-same : {circles circles' : SpanCore → ℕ} (cs : List SpanCore) → ((c : SpanCore) → Mem c cs → circles c ≡ circles' c) → map (with_circles circles) cs ≡ map (with_circles circles') cs
unfolding with_circles
circles-same [] h = refl
circles-same (c ∷ cs) h =
    ap₂ {C = List (SpanCore × ℕ)} (λ k ks. (c, k) ∷ ks) (h c (Memᴰ.head refl)) (circles-same cs (λ d i. h d (Memᴰ.tail i)))

total-same : {large large' : SpanCore → ℕ} (cs : List SpanCore) → ((c : SpanCore) → Mem c cs → large c ≡ large' c) → total large cs ≡ total large' cs
unfolding total
total-same [] h = refl
total-same (c ∷ cs) h = ap₂ ◌+◌ (h c (Memᴰ.head refl)) (total-same cs (λ d i. h d (Memᴰ.tail i)))

-- nothing is kept
pub keeps-none : {circles large : SpanCore → ℕ} {x : Cores} → KeepsCores circles large [] x x
unfolding total
keeps-none = record { number = omega arith; made = omega arith; in_kept = sym (append-nil _) }

module _ {circles large : SpanCore → ℕ} where
  -- one list after another
  pub keeps_then : {cs ds : List SpanCore} {x y z : Cores} → KeepsCores circles large cs x y → KeepsCores circles large ds y z → KeepsCores circles large (cs ++ ds) x z
  keeps_then {cs} {ds} {x} e f = record {
    number = omega (arith, e.number, f.number, length-append cs ds);
    made = omega (arith, e.made, f.made, total-append large cs ds);
    in_kept =
        f.in_kept ∙ ap (λ (s : List (SpanCore × ℕ)). s ++ map (with_circles circles) ds) e.in_kept ∙ append_assoc (map said (take x.count x.kept)) (map (with_circles circles) cs) (map (with_circles circles) ds)
        ∙ ap (λ (s : List (SpanCore × ℕ)). map said (take x.count x.kept) ++ s) (sym (map-append (with_circles circles) cs ds));
  }

  -- the same by other ways to count that say the same of each core
  pub keeps_same : {circles' large' : SpanCore → ℕ} {cs : List SpanCore} {x y : Cores} → ((c : SpanCore) → Mem c cs → (circles c ≡ circles' c) × (large c ≡ large' c)) → KeepsCores circles large cs x y
      → KeepsCores circles' large' cs x y
  keeps_same {cs = cs} {x} h e = record {
    number = e.number;
    made = e.made ∙ ap (λ (t : ℕ). x.records + t) (total-same cs (λ c m. (h c m).1));
    in_kept = e.in_kept ∙ ap (λ (s : List (SpanCore × ℕ)). map said (take x.count x.kept) ++ s) (circles-same cs (λ c m. (h c m).0));
  }

-- one core, after those that are kept
pub keeps-one : (k : Kept) (s : Stored) {large : ℕ} {x y : Cores} → said s ≡ (kept_core k, k.circles) → x.count < length x.kept → y.count ≡ x.count + 1 → y.records ≡ x.records + large → y.kept ≡ set x.kept x.count s
    → KeepsCores (λ d. k.circles) (λ d. large) (kept_core k ∷ []) x y
unfolding total with_circles
keeps-one k s {large} {x} {y} said-is l number records e =
    let first : take y.count y.kept ≡ take x.count x.kept ++ (s ∷ []) = rw (number, e, add-one) (take-suc-set x.kept x.count s l) in record {
      number = number;
      made = omega (arith, records);
      in_kept =
          ap (map said) first ∙ map-append said (take x.count x.kept) (s ∷ []) ∙ ap (λ (p : SpanCore × ℕ). map said (take x.count x.kept) ++ (p ∷ [])) said-is;
    }

-- ---- the spans with one first tick

module _ (line : List Found) (first : ℕ) where
  -- the core of the span that ends with a tick, whether it is maximal, and the list of it where that tick is not before the first
  abbrev pub span_record : ℕ → SpanCore
  span_record last = record { order = (at line last).order; first = first; last = last; members = members (at line last).members }

  abbrev pub is_group_at : ℕ → Bool
  is_group_at last = ltb 0 (members (at line last).members) and ltb ((at line (suc last)).order) ((at line last).order)

  abbrev pub line_cell : ℕ → List SpanCore
  line_cell last = keep_if (leb first last) (keep_if (is_group_at last) (span_record last ∷ []))

  -- no span ends before its first tick
  pub line-none : concat_below first line_cell ≡ []
  line-none = concat-nil first line_cell (λ last h. keep-nil (leb first last) _ (λ e. let l : first ≤ last = leb-true _ _ e in omega arith))

  -- a turn of the loop over the last ticks: the core of the span that ends with the tick, if it is maximal and is kept
  pub line-more : (least : Thresholds) (last : ℕ) → first ≤ last → {x y z : Cores}
      → KeepsCores (circles_at line) (large_at line) (kept least (concat_below last line_cell)) x y
      → KeepsCores (λ c. (at line last).circles) (λ c. (at line last).large) (kept least (keep_if (is_group_at last) (span_record last ∷ []))) y z
      → KeepsCores (circles_at line) (large_at line) (kept least (concat_below (last + 1) line_cell)) x z
  unfolding concat_below
  line-more least last h e f =
      rw (add-one, kept_append least (concat_below last line_cell) (line_cell last))
      (keeps_then e (rw (keep_all (leb first last) (keep_if (is_group_at last) (span_record last ∷ [])) (le-leb _ _ h)) (keeps_same here f)))
    where
      here : (c : SpanCore) → Mem c (kept least (keep_if (is_group_at last) (span_record last ∷ []))) → ((at line last).circles ≡ circles_at line c) × ((at line last).large ≡ large_at line c)
      here c i =
          let e : c ≡ span_record last = Memᴰ.eq_of_singleton (of-keep (is_group_at last) _ (of-kept least _ i).0).1 in
          (ap (circles_at line) (sym e), ap (large_at line) (sym e))

  -- where its order is not above the next, nothing is kept; else the core is maximal if it has members
  pub line-skip : (least : Thresholds) (last : ℕ) → first ≤ last → (at line last).order ≤ (at line (suc last)).order → {x y : Cores}
      → KeepsCores (circles_at line) (large_at line) (kept least (concat_below last line_cell)) x y
      → KeepsCores (circles_at line) (large_at line) (kept least (concat_below (last + 1) line_cell)) x y
  unfolding kept
  line-skip least last h l e = line-more least last h e (rw (keep-nil (is_group_at last) (span_record last ∷ []) (λ t. omega (arith, ltb-true ((at line (suc last)).order) ((at line last).order) (and_right (ltb 0 (members (at line last).members)) _ t)))) keeps-none)

  pub line-group : (last : ℕ) → (at line (suc last)).order < (at line last).order → ltb 0 (members (at line last).members) ≡ is_group_at last
  line-group last l = rw (lt-ltb _ _ l) (sym (both (ltb 0 (members (at line last).members))))
    where
      fails : (b : Bool) → (b ≡ true → ⊥) → b ≡ false
      fails true f = absurd (f refl)
      fails false f = refl

      both : (b : Bool) → (b and true) ≡ b
      both true = and_in true true refl refl
      both false = fails (false and true) (λ e. clash (and_left false true e) refl)

  -- there is at most one core for each last tick from the first tick on
  pub cells-le : (least : Thresholds) (m : ℕ) → length (kept least (concat_below m line_cell)) ≤ m - first
  cells-le least m = omega (arith, kept-le least (concat_below m line_cell), cells-few)
    where
      cell-le : (last : ℕ) → length (line_cell last) ≤ 1
      cell-le last = omega (arith, keep-le (leb first last) (keep_if (is_group_at last) (span_record last ∷ [])), keep-le (is_group_at last) (span_record last ∷ []))

      cells-few : length (concat_below m line_cell) ≤ m - first
      cells-few = concat-from line_cell first m (λ last h. keep-nil (leb first last) _ (λ e. let l : first ≤ last = leb-true _ _ e in omega arith)) (λ last h. cell-le last)

  -- a core of the line: its span, and its members, of which there are some
  pub of-line-list : (T : ℕ) (c : SpanCore) → Mem c (line_list line first T) → (last : ℕ) × (first ≤ last) × (last < T) × (0 < members (at line last).members) × (c ≡ span_record last)
  unfolding line_list
  of-line-list T c i =
      let x = of-concat T line_cell i in
      let y = of-keep (leb first x.0) _ x.2 in
      let z = of-keep (is_group_at x.0) _ y.1 in
      (x.0, leb-true _ _ y.0, x.1, ltb-true _ _ (and_left _ _ z.0), Memᴰ.eq_of_singleton z.1)

-- ---- the core at a place

-- what a place says, by the core that is read there
pub from-said : (s : Stored) (k : Kept) → said s ≡ (kept_core k, k.circles) → (kept_core k ≡ stored_core s) × (k.circles ≡ s.circles)
unfolding said
from-said s k e = (sym (ap (λ (p : SpanCore × ℕ). p.0) e), sym (ap (λ (p : SpanCore × ℕ). p.1) e))

-- the place at which a core of a list is kept says it, and how many circles it has
pub kept_at : (circles : SpanCore → ℕ) (kept : List Stored) (xs : List SpanCore) (c : SpanCore) (ys : List SpanCore) → map said kept ≡ map (with_circles circles) (xs ++ (c ∷ ys)) → {i : ℕ} → i ≡ length xs → (d : Stored)
    → let k = get_or kept i d in (stored_core k ≡ c) × (k.circles ≡ circles c)
unfolding said with_circles
kept_at circles kept xs c ys e {i} t d =
    let f : said (get_or kept i d) ≡ with_circles circles c =
    sym (get_or-map said kept i d) ∙ ap₂ (λ (n : ℕ) (ks : List (SpanCore × ℕ)). get_or ks n (said d)) t (e ∙ map-append (with_circles circles) xs (c ∷ ys)) ∙ at xs in
    (ap (λ (p : SpanCore × ℕ). p.0) f, ap (λ (p : SpanCore × ℕ). p.1) f)
  where
    at : (zs : List SpanCore) → get_or (map (with_circles circles) zs ++ map (with_circles circles) (c ∷ ys)) (length zs) (said d) ≡ with_circles circles c
    at [] = refl
    at (z ∷ zs) = at zs
