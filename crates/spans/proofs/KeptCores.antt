-- Laws for a report that keeps the cores first: only the cores that meet the thresholds need to be split, and a core of one circle is
-- that circle.
use mathlib.Core.Path.{◌≡◌, refl, sym, ap, ◌∙◌}
use mathlib.Core.Bool.{Bool, true, false}
use mathlib.Core.List.Memᴰ
use mathlib.Core.List.{List, [], ◌∷◌, ◌++◌}
use Prim.Native.Nat.{ℕ, ◌^◌, ◌<◌}
use native.Mathlib.Omega.{arith}
use lib.ListN.{length}
use Rattle.sets.specs.Members.{capacity}
use Rattle.sets.proofs.Bools.{clash}
use Rattle.sets.proofs.Sets.{union-none}
use Rattle.circles.specs.Circles.{together}
use Rattle.circles.proofs.CircleLists.{circles-together}
use Rattle.thresholds.specs.declared.Thresholds.{Thresholds}
use Rattle.spans.specs.Spans.{span_neighbours}
use Rattle.spans.specs.SpanCores.{SpanCore, Mem}
use Rattle.spans.specs.KeptGroups.{meets, kept}
use Rattle.spans.specs.CircleRecords.{circles_of, records_of, circle_records}
use Rattle.spans.proofs.KeptRecords.{kept-yes, kept-no, kept_append, kept-records-none}

module _ (least : Thresholds) where
  -- The records of the cores that meet the thresholds are enough.
  pub kept-enough : (n : ℕ) (ws : List ℕ) (cs : List SpanCore) → ((c : SpanCore) → Mem c cs → c.members < 2 ^ capacity)
      → kept least (circle_records n ws (kept least cs)) ≡ kept least (circle_records n ws cs)
  unfolding circle_records kept
  kept-enough n ws [] w = refl
  kept-enough n ws (c ∷ cs) w = go (meets least c) refl (kept-enough n ws cs (λ d i. w d (Memᴰ.tail i)))
    where
      go : (b : Bool) → meets least c ≡ b → kept least (circle_records n ws (kept least cs)) ≡ kept least (circle_records n ws cs)
          → kept least (circle_records n ws (kept least (c ∷ cs))) ≡ kept least (records_of n ws c ++ circle_records n ws cs)
      go true e ih = rw (kept-yes least c cs e, kept_append least (records_of n ws c) (circle_records n ws (kept least cs)), kept_append least (records_of n ws c) (circle_records n ws cs), ih)
      go false e ih = rw (kept-no least c cs (λ f. clash f e), kept_append least (records_of n ws c) (circle_records n ws cs), kept-records-none least n ws c (w c (Memᴰ.head refl)) (λ f. clash f e)) ih

-- a core of one circle is that circle
pub whole-circle : (n : ℕ) (ws : List ℕ) (c : SpanCore) → length (circles_of n ws c) ≡ 1 → c.members < 2 ^ capacity → circles_of n ws c ≡ c.members ∷ []
unfolding circles_of together
whole-circle n ws c e w = go (circles_of n ws c) e (circles-together (span_neighbours n ws c.first c.last) c.members w)
  where
    go : (ss : List ℕ) → length ss ≡ 1 → together ss ≡ c.members → ss ≡ c.members ∷ []
    go [] e f = absurd (omega arith)
    go (s ∷ []) e f = ap (λ (m : ℕ). m ∷ []) (sym (union-none s) ∙ f)
    go (s ∷ t ∷ ss) e f = absurd (omega arith)
