-- Laws of the program's loops: trying the ends of a run, filling the table of greatest sums row by row, and walking over the ends found.
use mathlib.Core.Path.{◌≡◌, refl, sym, ap, ap₂, ◌∙◌}
use mathlib.Core.Bool.{Bool, true, false}
use mathlib.Core.List.{List, [], ◌∷◌, ◌++◌}
use mathlib.Core.Logic.{◌⊎◌, inl, inr}
use Prim.Native.Nat.{ℕ, zero, suc, ◌+◌, ◌-◌, ◌*◌, ◌≤◌, ◌<◌, max, zero-le, suc-le-suc}
use native.Mathlib.Nat.{le_trans, eq-or-lt_of_le}
use native.Mathlib.Numerals.{add-one}
use native.Mathlib.Omega.{arith}
use lib.ListN.{length, get_or, set, replicate, drop, length-set, length-append}
use lib.Seq.{get_or-set_same, get_or-set_other, set_at, append_snoc}
use lib.Dec.{eqb}
use borrow.Author.Tests.{lt-ltb, le-ltb, eqb-true, eqb-false}
use borrow.Rule.Slice.PartMut.{mid_of}
use Rattle.std.proofs.lemmas.List.{length-take, length-drop, get_or-take, get_or-drop}
use Rattle.cuts.specs.Sums.{first_greatest, sum_with, later_ends, best_sum, end_after, ends_from, best_ends, table_score}
use Rattle.cuts.specs.Steps.{GreatestOf, row_sum, row_after, run_sum, SmallAfter, IsGreatestSum, Entry, Filled}
use Rattle.cuts.proofs.Sums.{greatest-take, greatest-keep, greatest-same, is-greatest, best-sum-suc, end-greatest}
use Rattle.cuts.proofs.Greatest.{greatest-none, greatest-one, greatest-both, greatest-of-same, at-first-greatest}

-- ---- columns of a row

-- the columns t to stop - 1 of the row that starts at a place of a table, and the k-th of them
abbrev pub columns : List ℕ → ℕ → ℕ → ℕ → List ℕ
columns xs row t stop = mid_of t (stop - t) (mid_of row (9216 - row) xs)

pub column-at : (xs : List ℕ) (row t stop : ℕ) {k : ℕ} → k < length (columns xs row t stop)
    → (t + k < stop) × (get_or (columns xs row t stop) k 0 ≡ get_or xs (row + (t + k)) 0)
column-at xs row t stop {k} l =
    let rest = mid_of row (9216 - row) xs in
    let m : k < stop - t = omega (arith, length-take (stop - t) (drop t rest)) in
    let n : t + k < 9216 - row = omega (arith, length-take (stop - t) (drop t rest), length-drop t rest, length-take (9216 - row) (drop row xs)) in
    (omega arith, get_or-take (stop - t) (drop t rest) k 0 m ∙ get_or-drop t rest k 0 ∙ get_or-take (9216 - row) (drop row xs) (t + k) 0 n ∙ get_or-drop row xs (t + k) 0)

-- ---- trying the ends of a run

-- what row c has for the runs after an end e
after-in : (sums : List ℕ) (c e : ℕ) → get_or sums (c * 96 + 1 + e) 0 ≡ row_sum sums c (suc e)
unfolding row_sum
after-in sums c e = let q : c * 96 + 1 + e ≡ c * 96 + suc e = omega arith in rw q

-- a score and an entry of the table, added, are the sum of a run and those after it
pub run-sum-in : (scores sums : List ℕ) (c t e : ℕ) {x : ℕ} → x ≡ get_or scores (t * 96 + e) 0 → x + get_or sums (c * 96 + 1 + e) 0 ≡ run_sum scores sums c t e
unfolding sum_with table_score
run-sum-in scores sums c t e q = rw (q, after-in sums c e)

-- and that entry is small
pub small-in : {sums : List ℕ} {c t stop e : ℕ} → SmallAfter sums c t stop → t ≤ e → e < stop → get_or sums (c * 96 + 1 + e) 0 ≤ 255 * suc c
small-in {sums} {c} {e = e} a l m = rw (after-in sums c e) (a.small.at e l m)

-- of the ends t to e - 1, `end` is the first at which g is greatest, and there it is `greatest`
pub record Tried (g : ℕ → ℕ) (t e end greatest : ℕ) : Type 0 where
  pub some : t < e
  pub first : end ≡ first_greatest g t (e - suc t)
  pub value : greatest ≡ g end

-- after end t, after one end more, and after the last
pub tried-one : {g : ℕ → ℕ} {t x : ℕ} → x ≡ g t → Tried g t (t + 1) t x
unfolding first_greatest
tried-one {g} {t} v = let z : t + 1 - suc t ≡ 0 = omega arith in record { some = omega arith; first = rw z; value = v }

module _ {g : ℕ → ℕ} {t e end greatest x : ℕ} (s : Tried g t e end greatest) (v : x ≡ g e) where
  -- end e is the next one
  one_more : e + 1 - suc t ≡ suc (e - suc t)
  one_more = omega (arith, s.some)

  at-e : t + suc (e - suc t) ≡ e
  at-e = omega (arith, s.some)

  pub tried-take : greatest < x → Tried g t (e + 1) e x
  tried-take l =
      let y : g (first_greatest g t (e - suc t)) < g (t + suc (e - suc t)) = omega (arith, s.value, ap g s.first, ap g at-e) in
      record { some = omega (arith, s.some); first = rw (one_more, greatest-take g t (e - suc t) (lt-ltb _ _ y)) (sym at-e); value = v }

  pub tried-keep : x ≤ greatest → Tried g t (e + 1) end greatest
  tried-keep l =
      let y : g (t + suc (e - suc t)) ≤ g (first_greatest g t (e - suc t)) = omega (arith, s.value, ap g s.first, ap g at-e) in
      record { some = omega (arith, s.some); first = rw (one_more, greatest-keep g t (e - suc t) (le-ltb _ _ y)) s.first; value = s.value }

pub tried-all : {g : ℕ → ℕ} {t e end greatest : ℕ} (stop : ℕ) → Tried g t e end greatest → e ≡ stop → end ≡ first_greatest g t (stop - suc t)
tried-all stop s q = rw q at s.first

-- the end found is one of those tried
pub end-in : (g : ℕ → ℕ) (t stop end : ℕ) → t < stop → end ≡ first_greatest g t (stop - suc t) → (t ≤ end) × (end < stop)
end-in g t stop end l q = let p = is-greatest g t (stop - suc t) in (omega (arith, p.low), omega (arith, p.high))

-- and leaves c + 1 ticks or more, where those tried leave them
end_fits : (g : ℕ → ℕ) (T c t end : ℕ) → t + suc c < T → end ≡ first_greatest g t (T - c - 1 - suc t) → (t ≤ end) × (suc end + c < T)
end_fits g T c t end h q = let i = end-in g t (T - c - 1) end (omega arith) q in (i.0, omega arith)

-- ---- an end and its sum, from the table

module _ {scores sums : List ℕ} {T h k : ℕ} (c t : ℕ) (b : Filled scores T h k sums) (l : c < k) (r : h ≤ suc (t + suc c)) (f : t + suc c < T) where
  -- at every end that can be tried, the sum from the table is the sum of the definition
  table-sum : (e : ℕ) → t ≤ e → e ≤ t + later_ends T c t → run_sum scores sums c t e ≡ sum_with (table_score scores) (best_sum (table_score scores) T c) t e
  unfolding sum_with
  table-sum e m n = ap (λ (x : ℕ). table_score scores t e + x) (b.at c (suc e) l (omega arith) (omega arith)).best

  -- the end found from the table is the end of the definition
  table-end : (end : ℕ) → end ≡ first_greatest (run_sum scores sums c t) t (T - c - 1 - suc t) → end ≡ end_after (table_score scores) T c t
  unfolding end_after
  table-end end q = let i : T - c - 1 - suc t ≡ later_ends T c t = omega arith in q ∙ rw i (greatest-same _ _ t (later_ends T c t) table-sum)

  -- the sum at that end is the greatest one, with a cut more
  table-greatest : run_sum scores sums c t (end_after (table_score scores) T c t) ≡ best_sum (table_score scores) T (suc c) t
  table-greatest =
      let p = end-greatest (table_score scores) T c t in
      table-sum (end_after (table_score scores) T c t) p.low p.high ∙ sym (best-sum-suc (table_score scores) T c t)

  -- so what the program stores is the greatest sum; and the entries that it is made from are small
  table-best : {x : ℕ} → IsGreatestSum scores sums c t (T - c - 1) x → x ≡ best_sum (table_score scores) T (c + 1) t
  table-best s = at-first-greatest s.sum (omega arith) ∙ ap (run_sum scores sums c t) (table-end _ refl) ∙ rw add-one table-greatest

  pub table-small : SmallAfter sums c t (T - c - 1)
  table-small = record { small = record { at = λ e m n. (b.at c (suc e) l (omega arith) (omega arith)).small } }

-- ---- filling the table

-- the rows below k are filled, and row k from column a to column e - 1
pub record PartlyFilled (scores : List ℕ) (T h k a e : ℕ) (sums : List ℕ) : Type 0 where
  pub rows : Filled scores T h k sums
  pub row : (s : ℕ) → a ≤ s → s < e → Entry scores T sums k s

-- with no row, with no column of the next row, with one column more, and with the columns that are reached
pub filled_none : {scores : List ℕ} {T h : ℕ} {sums : List ℕ} → length sums ≡ 9216 → Filled scores T h 0 sums
filled_none e = record { size = e; at = λ c t l r f. absurd (omega arith) }

pub partly_none : {scores : List ℕ} {T h k a : ℕ} {sums : List ℕ} → Filled scores T h k sums → PartlyFilled scores T h k a a sums
partly_none b = record { rows = b; row = λ s l m. absurd (omega arith) }

module _ {scores : List ℕ} {T h k a e : ℕ} {sums : List ℕ} (b : PartlyFilled scores T h k a e sums) where
  -- column t is the only one that the wider range has besides
  pub partly_more : (t i x : ℕ) {a' e' : ℕ} → ((s : ℕ) → a' ≤ s → s < e' → (s ≡ t → ⊥) → (a ≤ s) × (s < e)) → t + k < T → T ≤ 96 → i ≡ k * 96 + t
      → x ≡ best_sum (table_score scores) T k t → x ≤ 255 * suc k → PartlyFilled scores T h k a' e' (set sums i x)
  unfolding row_sum
  partly_more t i x {a'} {e'} o f w q v m = record {
    rows = record {
      size = length-set sums i x ∙ b.rows.size;
      at = λ c s l r z. other c s (λ y. omega arith) (b.rows.at c s l r z);
    };
    row = λ s l r. go s l r (eqb s t) refl;
  }
    where
      other : (c s : ℕ) → (c * 96 + s ≡ i → ⊥) → Entry scores T sums c s → Entry scores T (set sums i x) c s
      other c s d n = let g = get_or-set_other sums i (c * 96 + s) x 0 d in record { best = g ∙ n.best; small = omega (arith, g, n.small) }

      here : get_or (set sums i x) (k * 96 + t) 0 ≡ x
      here = rw q (get_or-set_same sums (k * 96 + t) x 0 (omega (arith, b.rows.size)))

      go : (s : ℕ) → a' ≤ s → s < e' → (y : Bool) → eqb s t ≡ y → Entry scores T (set sums i x) k s
      go s l r true y = rw (eqb-true s t y) (record { best = here ∙ v; small = omega (arith, here) })
      go s l r false y = let d = eqb-false s t y in let p = o s l r d in other k s (λ z. d (omega arith)) (b.row s p.0 p.1)

  pub partly-all : {j : ℕ} → a + k < h → T ≤ e + k → j ≡ k + 1 → Filled scores T h j sums
  partly-all u w q = record { size = b.rows.size; at = λ c s l r f. go c s r f (eq-or-lt_of_le (let y : suc c ≤ suc k = omega arith in y)) }
    where
      go : (c s : ℕ) → h ≤ suc (s + c) → s + c < T → (suc c ≡ suc k) ⊎ (suc c < suc k) → Entry scores T sums c s
      go c s r f (inl z) = let y : c ≡ k = omega arith in rw y (b.row s (omega arith) (omega arith))
      go c s r f (inr z) = b.rows.at c s (omega arith) r f

-- the greatest sum with c cuts after an end e
abbrev best_after : List ℕ → ℕ → ℕ → ℕ → ℕ
best_after scores T c e = best_sum (table_score scores) T c (suc e)

-- the rows up to c are filled, and row c + 1 from column t on; and s is the greatest sum with c cuts after an end from t on
pub record RowFrom (scores : List ℕ) (T h c t s : ℕ) (sums : List ℕ) : Type 0 where
  pub partly : PartlyFilled scores T h (c + 1) t (T - c - 1) sums
  pub rest : GreatestOf (best_after scores T c) t (T - c - 1) s

-- with no column, and with the column before
pub row-none : {scores : List ℕ} {T h c : ℕ} {sums : List ℕ} → Filled scores T h (c + 1) sums → RowFrom scores T h c (T - c - 1) 0 sums
row-none b = record { partly = partly_none b; rest = greatest-none }

module _ {scores : List ℕ} {T h c u s : ℕ} {sums : List ℕ} (b : RowFrom scores T h c u s sums) (t : ℕ) {y : ℕ}
    (n : u ≡ t + 1) (o : h ≤ suc (t + suc c)) (f : t + suc c < T) (q : y ≡ max s (get_or sums (c * 96 + 1 + t) 0)) where
  -- row c has these sums
  after-best : (e : ℕ) → t ≤ e → e < T - c - 1 → best_after scores T c e ≡ row_after sums c e
  after-best e l m = sym (b.partly.rows.at c (suc e) (omega arith) (omega arith) (omega arith)).best

  -- the greater of s and the next of them is the greatest from t on, and so in row c, too
  rest_more : GreatestOf (best_after scores T c) t (T - c - 1) y
  rest_more =
      greatest-both (greatest-one (after-in sums c t ∙ sym (after-best t (omega arith) (omega arith)))) (rw n at b.rest) (omega arith) (omega arith) (omega arith)

  pub rest-in-table : GreatestOf (row_after sums c) t (T - c - 1) y
  rest-in-table = greatest-of-same after-best rest_more

  -- with x stored in column t
  pub row_more : (x : ℕ) → T ≤ 96 → IsGreatestSum scores sums c t (T - c - 1) x → RowFrom scores T h c t y (set sums ((c + 1) * 96 + t) x)
  row_more x w g = record {
    partly = partly_more b.partly t _ x (λ d l m i. (omega arith, m)) (omega arith) w refl (table-best c t b.partly.rows (omega arith) o f g) (omega (arith, g.small));
    rest = rest_more;
  }

-- fewer rows
pub filled-fewer : {scores : List ℕ} {T h k j : ℕ} {sums : List ℕ} → Filled scores T h k sums → j ≤ k → Filled scores T h j sums
filled-fewer b m = record { size = b.size; at = λ c t l r f. b.at c t (omega arith) r f }

-- row 0 has the scores of the runs up to the last tick
pub no_cut : (scores : List ℕ) (T t x : ℕ) → x ≡ get_or scores (t * 96 + (T - 1)) 0 → x ≡ best_sum (table_score scores) T 0 t
unfolding best_sum table_score
no_cut scores T t x e = e

-- ---- walking over the ends

-- the first i of h ends are found and held, so that t is not below i, and the ends from t on are the others
pub record Walked (scores : List ℕ) (T h i t : ℕ) (ends : List ℕ) : Type 0 where
  pub found : List ℕ
  pub count : length found ≡ i
  pub past : i ≤ t
  pub fits : t + (h - suc i) < T
  pub held : ends ≡ found ++ replicate (96 - i) 0
  pub rest : found ++ ends_from (table_score scores) T (h - suc i) t ≡ best_ends (table_score scores) T h

-- one end more, put into the first place that has none
put_next : (found ends : List ℕ) (i e : ℕ) → length found ≡ i → ends ≡ found ++ replicate (96 - i) 0 → i < 96 → set ends i e ≡ (found ++ e ∷ []) ++ replicate (96 - suc i) 0
put_next found ends i e n q l =
    let g : 96 - i ≡ suc (96 - suc i) = omega arith in
    rw (q, g) (set_at found 0 (replicate (96 - suc i) 0) e i n ∙ sym (append_snoc found e (replicate (96 - suc i) 0)))

-- with i runs found before t, t is a first tick that is reached with c + 1 cuts left
reached : (h i c t : ℕ) → i < h - 1 → c ≡ h - i - 2 → i ≤ t → h ≤ suc (t + suc c)
reached h i c t m d l = omega arith

-- with no end, with one end more, and with the last one
pub walked_none : (scores : List ℕ) (T h t : ℕ) → 1 ≤ h → h ≤ T → t ≡ 0 → Walked scores T h 0 t (replicate 96 0)
unfolding best_ends
walked_none scores T zero t l w q = absurd (omega arith)
walked_none scores T (suc c) t l w q =
    let e : suc c - 1 ≡ c = omega arith in
    rw q (record { found = []; count = refl; past = zero-le; fits = omega arith; held = refl; rest = rw e })

module _ {scores : List ℕ} {T h i t : ℕ} {ends : List ℕ} (w : Walked scores T h i t ends) (l : h ≤ 96) where
  pub walked_more : (c e : ℕ) {sums : List ℕ} → Filled scores T h (h - 1) sums → i < h - 1 → c ≡ h - i - 2
      → e ≡ first_greatest (run_sum scores sums c t) t (T - c - 1 - suc t) → Walked scores T h (i + 1) (e + 1) (set ends i e)
  unfolding ends_from
  walked_more c e {sums} b m d q =
      let k : h - suc i ≡ suc c = omega arith in
      let j : h - suc (i + 1) ≡ c = omega arith in
      let o : i + 1 ≡ suc i = omega arith in
      let f : t + suc c < T = omega (arith, w.fits) in
      let y = end_fits _ T c t e f q in
      let z : e ≡ end_after (table_score scores) T c t = table-end c t b (omega arith) (reached h i c t m d w.past) f e q in
      let r : w.found ++ e ∷ ends_from (table_score scores) T c (suc e) ≡ best_ends (table_score scores) T h = rw z (rw k at w.rest) in
      record {
        found = w.found ++ e ∷ [];
        count = length-append w.found (e ∷ []) ∙ omega (arith, w.count);
        past = rw (add-one, add-one) (suc-le-suc (le_trans w.past y.0));
        fits = rw (j, add-one) y.1;
        held = rw o (put_next w.found ends i e w.count w.held (omega arith));
        rest = rw (j, add-one) (append_snoc w.found e (ends_from (table_score scores) T c (suc e)) ∙ r);
      }

  pub walked_all : 1 ≤ h → h - 1 ≡ i → set ends (h - 1) (T - 1) ≡ best_ends (table_score scores) T h ++ replicate (96 - h) 0
  unfolding ends_from
  walked_all o m =
      let k : h - suc i ≡ 0 = omega arith in
      let n : suc i ≡ h = omega arith in
      rw m (put_next w.found ends i (T - 1) w.count w.held (omega arith)
      ∙ ap₂ (λ (x : List ℕ) (y : ℕ). x ++ replicate (96 - y) 0) (rw k at w.rest) n)
