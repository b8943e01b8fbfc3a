-- Laws of rows of which one word each, their side, is narrowed: one row, and ranges of rows one after the other.
use mathlib.Core.Path.{◌≡◌, refl, sym, ap, ◌∙◌}
use mathlib.Core.List.{List}
use mathlib.Core.Logic.{by_cases}
use Prim.Native.Nat.{ℕ, suc, ◌+◌, ◌*◌, ◌/◌, ◌≤◌, ◌<◌}
use native.Mathlib.Decide.{ℕ_discrete, dec_lt}
use native.Mathlib.Omega.{arith}
use lib.Bits.{bit_and, and_zero_l}
use lib.ListN.{length, get_or, set, length-set}
use lib.Seq.{get_or-set_same, get_or-set_other}
use Rattle.sets.specs.Sets.{intersection}
use Rattle.sets.specs.Words.{word_bits, set_words}
use Rattle.sets.specs.Members.{row_words}
use Rattle.spans.specs.Spans.{span_words}
use Rattle.spans.proofs.SpanRows.{span-words-length}
use Rattle.groups.specs.Steps.{NextTick, Narrows, SideOf, NarrowsSide}
use Rattle.groups.proofs.TickRows.{narrow-span, upper-none}

-- no row
pub side-none : {tick : List ℕ} {side u : ℕ} {rows : List ℕ} → NarrowsSide tick side u u rows rows
side-none = record { size = refl; each = λ u l h. absurd (omega arith); others = λ i f. refl }

-- one row
pub side-one : {rows tick : List ℕ} {side u : ℕ} → SideOf rows tick side (u + 1)
    → NarrowsSide tick side u (u + 1) rows (set rows (u * set_words + side) (bit_and (get_or rows (u * set_words + side) 0) (get_or tick (u * set_words + side) 0)))
unfolding intersection
side-one {rows} {tick} {side} {u} s = record {
  size = length-set rows _ _;
  each = λ v l h. let e : v ≡ u = omega arith in rw e (get_or-set_same rows _ _ 0 (omega (arith, s.place, s.enough)));
  others = λ i f. get_or-set_other rows _ i _ 0 (λ e. f u (omega arith) (omega arith) e);
}

-- two ranges, one after the other
pub side-more : {tick : List ℕ} {side start mid mid' end end' : ℕ} {rows next last : List ℕ} → NarrowsSide tick side start mid rows next → NarrowsSide tick side mid' end next last
    → mid ≡ mid' → end ≡ end' → start ≤ mid → mid ≤ end → NarrowsSide tick side start end' rows last
side-more {tick} {side} {start} {mid} {mid'} {end} {end'} {rows} a b e f l m = record {
  size = b.size ∙ a.size;
  each = λ u p q. by_cases (dec_lt u mid)
      (λ h. b.others _ (λ v x y g. omega arith) ∙ a.each u p h)
      (λ h. b.each u (omega arith) (omega arith) ∙ ap (λ (x : ℕ). intersection x (get_or tick (u * set_words + side) 0)) (a.others _ (λ v x y g. omega arith)));
  others = λ i g. b.others i (λ u x y. g u (omega arith) (omega arith)) ∙ a.others i (λ u x y. g u x (omega arith));
}

-- what a range asks of rows holds of as many others, and of narrowed ones
pub side-size : {rows tick others : List ℕ} {side end : ℕ} → SideOf rows tick side end → length others ≡ length rows → SideOf others tick side end
side-size s e = record { place = s.place; enough = omega (arith, s.enough); whole = s.whole }

pub side-of : {rows tick narrowed : List ℕ} {side end some start stop : ℕ} → SideOf rows tick side end → NarrowsSide tick side start stop rows narrowed → some ≤ end → SideOf narrowed tick side some
side-of s n l = record { place = s.place; enough = omega (arith, s.enough, n.size); whole = omega (arith, s.whole) }

-- what a step is given: the words of all rows, and no more words of the tick
step-rows : {rows tick : List ℕ} → NextTick rows tick → length rows ≡ row_words
step-rows s = ap length s.span ∙ span-words-length s.badges s.words s.first s.last

pub step-side : {rows tick : List ℕ} {side : ℕ} → NextTick rows tick → side < set_words → SideOf rows tick side (length tick / set_words)
step-side s l = record { place = l; enough = omega (arith, s.whole, s.few, step-rows s); whole = omega arith }

-- words that are intersected with the tick's, as many as it has, and otherwise stay, are those of the longer span
step-longer : {rows tick narrowed : List ℕ} (s : NextTick rows tick) → length narrowed ≡ length rows
    → ((u x : ℕ) → u < s.badges → x < set_words → get_or narrowed (u * set_words + x) 0 ≡ intersection (get_or rows (u * set_words + x) 0) (get_or tick (u * set_words + x) 0))
    → ((i : ℕ) → s.badges * set_words ≤ i → get_or narrowed i 0 ≡ get_or rows i 0) → narrowed ≡ span_words s.badges s.words s.first (suc s.last)
step-longer {narrowed = narrowed} s e each others =
    narrow-span s.badges s.words s.first s.last s.few s.rising (rw s.next at s.whole) (rw s.next at s.fit) narrowed (e ∙ step-rows s)
    (λ u x l m. rw (← s.span, ← s.next) (each u x l m)) (λ i l. rw (← s.span) (others i l))

module _ {rows tick : List ℕ} {n : ℕ} (e : n ≡ length tick / set_words) where
  of-step : (s : NextTick rows tick) → n ≡ s.badges
  of-step s = omega (arith, s.whole)

  -- with both sides narrowed
  pub narrows-both : {next narrowed : List ℕ} → NarrowsSide tick 0 0 n rows next → NarrowsSide tick 1 0 n next narrowed → Narrows rows tick narrowed
  narrows-both a b = record {
    span = λ s.
        step-longer s (b.size ∙ a.size)
        (λ u x l m. by_cases (ℕ_discrete x 0)
        (λ z. rw z (b.others _ (λ v p q g. omega arith) ∙ a.each u (omega arith) (omega (arith, of-step s))))
        (λ z.
        let o : x ≡ 1 = omega arith in
        rw o (b.each u (omega arith) (omega (arith, of-step s)) ∙ ap (λ (y : ℕ). intersection y (get_or tick (u * set_words + 1) 0)) (a.others _ (λ v p q g. omega arith)))))
        (λ i l. b.others i (λ v p q g. omega (arith, of-step s)) ∙ a.others i (λ v p q g. omega (arith, of-step s)));
  }

  -- or the lower one, where nobody is beyond it
  pub narrows-lower : {narrowed : List ℕ} → n ≤ word_bits → NarrowsSide tick 0 0 n rows narrowed → Narrows rows tick narrowed
  unfolding intersection
  narrows-lower few a = record {
    span = λ s.
        let none : (u : ℕ) → u < s.badges → get_or rows (u * set_words + 1) 0 ≡ 0 = λ u l. rw s.span (upper-none s.badges s.words s.first s.last u (omega (arith, of-step s)) l) in
        step-longer s a.size
        (λ u x l m. by_cases (ℕ_discrete x 0)
        (λ z. rw z (a.each u (omega arith) (omega (arith, of-step s))))
        (λ z.
        let o : x ≡ 1 = omega arith in
        rw o (a.others _ (λ v p q g. omega arith) ∙ none u l ∙ sym (ap (λ (y : ℕ). intersection y (get_or tick (u * set_words + 1) 0)) (none u l) ∙ and_zero_l (get_or tick (u * set_words + 1) 0)))))
        (λ i l. a.others i (λ v p q g. omega (arith, of-step s)));
  }
