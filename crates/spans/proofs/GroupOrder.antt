-- The maximal cores of a day stand by first tick and then last tick, rising.
use mathlib.Core.Path.{◌≡◌, refl, ap}
use mathlib.Core.Bool.{Bool, true, false}
use mathlib.Core.List.Memᴰ
use mathlib.Core.List.{List}
use Prim.Native.Nat.{ℕ, suc, ◌<◌}
use native.Mathlib.Omega.{arith}
use lib.Dec.{leb}
use borrow.Author.Tests.{leb-true}
use Rattle.sets.specs.Tables.{keep_if, Pairwise, nothing}
use Rattle.sets.proofs.Bools.{clash}
use Rattle.sets.proofs.Concat.{of-concat, keep-nil, of-keep}
use Rattle.sets.proofs.Pairwise.{pairwise-one, pairwise-concat, pairwise-keep}
use Rattle.spans.specs.SpanCores.{SpanCore, Mem}
use Rattle.spans.specs.Reports.{is_group, groups_on, groups_from, groups_of}
use Rattle.spans.proofs.Maximal.{groups-on}

-- a core comes before another by first tick and then last tick, so they differ in these
pub data Earlier (c d : SpanCore) : Type 0 where
  first_rises : c.first < d.first → Earlier c d
  last_rises : c.first ≡ d.first → c.last < d.last → Earlier c d

pub earlier-apart : {c d : SpanCore} → Earlier c d → c.first ≡ d.first → c.last ≡ d.last → ⊥
earlier-apart (first_rises l) e f = omega arith
earlier-apart (last_rises g l) e f = omega arith

module _ (n T : ℕ) (ws : List ℕ) (base : ℕ) where
  -- the ticks of the cores on a span, and of those with a first tick
  of-cell : (first last : ℕ) (c : SpanCore) → Mem c (keep_if (leb first last) (groups_on n T ws base first last)) → (c.first ≡ first) × (c.last ≡ last)
  unfolding groups_on
  of-cell first last c i =
      let k = of-concat (suc n) _ (of-keep (leb first last) _ i).1 in
      let e = Memᴰ.eq_of_singleton (of-keep (is_group n T ws base k.0 first last) _ k.2).1 in
      (ap (λ (x : SpanCore). x.first) e, ap (λ (x : SpanCore). x.last) e)

  pub of-line : (first : ℕ) (c : SpanCore) → Mem c (groups_from n T ws base first) → c.first ≡ first
  unfolding groups_from
  of-line first c i = let x = of-concat T _ i in (of-cell first x.0 c x.2).0

  -- a span has at most one
  cell-one : {R : SpanCore → SpanCore → Type 0} (first last : ℕ) → last < T → Pairwise R (keep_if (leb first last) (groups_on n T ws base first last))
  cell-one {R} first last w = go (leb first last) refl
    where
      go : (b : Bool) → leb first last ≡ b → Pairwise R (keep_if b (groups_on n T ws base first last))
      go false e = let none = keep-nil false (groups_on n T ws base first last) (λ f. clash f refl) in rw none nothing
      go true e = pairwise-keep true (rw (groups-on n T ws base first last (leb-true _ _ e) w) (pairwise-keep _ (pairwise-one _)))

  -- those with a first tick stand by last tick,
  pub line-earlier : (first : ℕ) → Pairwise Earlier (groups_from n T ws base first)
  unfolding groups_from
  line-earlier first = pairwise-concat T _ (λ last w. cell-one first last w)
      (λ i j a b x y p q. let c = of-cell first i x p in let d = of-cell first j y q in last_rises (omega (arith, c.0, d.0)) (omega (arith, c.1, d.1)))

  -- and all by first tick
  pub groups-earlier : Pairwise Earlier (groups_of n T ws base)
  unfolding groups_of
  groups-earlier = pairwise-concat T (groups_from n T ws base) (λ first l. line-earlier first)
      (λ i j a b x y p q. first_rises (omega (arith, of-line i x p, of-line j y q)))
