-- Laws of what a report keeps: which records, that they stand as they stood, and which of one core's records.
use mathlib.Core.Path.{◌≡◌, refl, sym, ◌∙◌}
use mathlib.Core.Bool.{Bool, true, false}
use mathlib.Core.List.Memᴰ
use mathlib.Core.List.{List, [], ◌∷◌, ◌++◌, map, append_assoc, append-nil}
use mathlib.Core.Logic.{◌⊎◌, inl, inr}
use Prim.Native.Nat.{ℕ, ◌^◌, ◌≤◌, ◌<◌}
use native.Mathlib.Nat.{le_trans}
use native.Mathlib.Omega.{arith}
use lib.Dec.{leb}
use lib.ListN.{length, length-append}
use borrow.Author.Tests.{leb-true, le-leb}
use Rattle.sets.specs.Bools.{◌and◌}
use Rattle.sets.specs.Sets.{size}
use Rattle.sets.specs.Members.{capacity}
use Rattle.sets.specs.Tables.{keep_if, Pairwise, nothing, followed}
use Rattle.sets.proofs.Bools.{clash, same_test}
use Rattle.sets.proofs.Size.{size_mono}
use Rattle.sets.proofs.Concat.{in-keep, of-keep, keep_all, keep-nil, keep-le}
use Rattle.sets.proofs.Pairwise.{pairwise-one, pairwise_append, pairwise-keep}
use Rattle.thresholds.specs.declared.Thresholds.{Thresholds}
use Rattle.thresholds.proofs.Enough.{enough-in, enough-of}
use Rattle.circles.specs.Circles.{at_least}
use Rattle.circles.proofs.CircleLists.{circles-within}
use Rattle.spans.specs.Spans.{span_neighbours, span_ticks}
use Rattle.spans.specs.SpanCores.{SpanCore, Mem}
use Rattle.spans.specs.KeptGroups.{meets, kept}
use Rattle.spans.specs.CircleRecords.{with_members, circles_of, records_of}

module _ (least : Thresholds) where
  -- a record meets the thresholds exactly when its length, its order and the number of its members are enough
  pub meets-in : (c : SpanCore) → least.ticks ≤ span_ticks c.first c.last → least.order ≤ c.order → least.members ≤ size c.members → meets least c ≡ true
  unfolding meets
  meets-in c h k m = enough-in least h k m

  pub meets-of : (c : SpanCore) → meets least c ≡ true → (least.ticks ≤ span_ticks c.first c.last) × (least.order ≤ c.order) × (least.members ≤ size c.members)
  unfolding meets
  meets-of c e = enough-of least e

  -- a record is kept exactly when it is there and meets all three
  pub in_kept : (cs : List SpanCore) {c : SpanCore} → Mem c cs → meets least c ≡ true → Mem c (kept least cs)
  unfolding kept
  in_kept [] i e = absurd (Memᴰ.not-nil i)
  in_kept (d ∷ cs) {c} i e = go (Memᴰ.cases_cons i) (λ j. in_kept cs j e)
    where
      go : (c ≡ d) ⊎ Mem c cs → (Mem c cs → Mem c (kept least cs)) → Mem c (keep_if (meets least d) (d ∷ []) ++ kept least cs)
      go (inl f) ih = Memᴰ.append_left (kept least cs) (in-keep _ _ (rw f at e) (Memᴰ.head f))
      go (inr j) ih = Memᴰ.append_right (keep_if (meets least d) (d ∷ [])) (ih j)

  pub of-kept : (cs : List SpanCore) {c : SpanCore} → Mem c (kept least cs) → Mem c cs × (meets least c ≡ true)
  unfolding kept
  of-kept [] i = absurd (Memᴰ.not-nil i)
  of-kept (d ∷ cs) {c} i = go (Memᴰ.append_cases (keep_if (meets least d) (d ∷ [])) i) (of-kept cs)
    where
      go : Mem c (keep_if (meets least d) (d ∷ [])) ⊎ Mem c (kept least cs) → (Mem c (kept least cs) → Mem c cs × (meets least c ≡ true)) → Mem c (d ∷ cs) × (meets least c ≡ true)
      go (inl j) ih = let r = of-keep _ _ j in let e = Memᴰ.eq_of_singleton r.1 in (Memᴰ.head e, rw e r.0)
      go (inr j) ih = let r = ih j in (Memᴰ.tail r.0, r.1)

  -- those kept stand as they stood, and are no more;
  pub kept-pairwise : {R : SpanCore → SpanCore → Type 0} (cs : List SpanCore) → Pairwise R cs → Pairwise R (kept least cs)
  unfolding kept
  kept-pairwise [] nothing = nothing
  kept-pairwise (c ∷ cs) (followed f p) = pairwise_append (pairwise-keep _ (pairwise-one c)) (kept-pairwise cs p)
      (λ x y i j. let e = Memᴰ.eq_of_singleton (of-keep _ _ i).1 in rw e (f y (of-kept cs j).0))

  pub kept-le : (cs : List SpanCore) → length (kept least cs) ≤ length cs
  unfolding kept
  kept-le [] = omega arith
  kept-le (c ∷ cs) = omega (arith, length-append (keep_if (meets least c) (c ∷ [])) (kept least cs), keep-le (meets least c) (c ∷ []), kept-le cs)

  -- the first is kept where it meets the thresholds;
  pub kept-yes : (c : SpanCore) (cs : List SpanCore) → meets least c ≡ true → kept least (c ∷ cs) ≡ c ∷ kept least cs
  unfolding kept
  kept-yes c cs e = rw (keep_all (meets least c) (c ∷ []) e)

  pub kept-no : (c : SpanCore) (cs : List SpanCore) → (meets least c ≡ true → ⊥) → kept least (c ∷ cs) ≡ kept least cs
  unfolding kept
  kept-no c cs f = rw (keep-nil (meets least c) (c ∷ []) f)

  -- where all meet them, all are kept, and where none does, none is;
  pub kept-all : (cs : List SpanCore) → ((c : SpanCore) → Mem c cs → meets least c ≡ true) → kept least cs ≡ cs
  unfolding kept
  kept-all [] h = refl
  kept-all (c ∷ cs) h = rw (kept-yes c cs (h c (Memᴰ.head refl)), kept-all cs (λ d i. h d (Memᴰ.tail i)))

  kept-nil : (cs : List SpanCore) → ((c : SpanCore) → Mem c cs → meets least c ≡ true → ⊥) → kept least cs ≡ []
  unfolding kept
  kept-nil [] h = refl
  kept-nil (c ∷ cs) h = rw (kept-no c cs (h c (Memᴰ.head refl)), kept-nil cs (λ d i. h d (Memᴰ.tail i)))

  -- of a record that is there where a test holds, what is kept is decided by the test and by what it meets;
  pub kept-one : (b : Bool) (c : SpanCore) → kept least (keep_if b (c ∷ [])) ≡ keep_if (b and meets least c) (c ∷ [])
  unfolding kept keep_if ◌and◌
  kept-one true c = append-nil _
  kept-one false c = refl

  -- and of two lists, one after the other, those of the first are kept and then those of the second
  pub kept_append : (xs ys : List SpanCore) → kept least (xs ++ ys) ≡ kept least xs ++ kept least ys
  unfolding kept
  kept_append [] ys = refl
  kept_append (x ∷ xs) ys = rw (kept_append xs ys) (sym (append_assoc (keep_if (meets least x) (x ∷ [])) (kept least xs) (kept least ys)))

  -- Of the records of a core that is long and high enough, those with members enough are kept.
  module _ (n : ℕ) (ws : List ℕ) (c : SpanCore) where
    pub kept-records : least.ticks ≤ span_ticks c.first c.last → least.order ≤ c.order
        → kept least (records_of n ws c) ≡ map (with_members c) (at_least least.members (circles_of n ws c))
    unfolding records_of kept at_least
    kept-records l h = go (circles_of n ws c)
      where
        by_members : (s : ℕ) → meets least (with_members c s) ≡ leb least.members (size s)
        by_members s = same_test _ _ (λ e. le-leb _ _ (meets-of (with_members c s) e).2) (λ e. meets-in (with_members c s) l h (leb-true _ _ e))

        go : (ss : List ℕ) → kept least (map (with_members c) ss) ≡ map (with_members c) (at_least least.members ss)
        go [] = refl
        go (s ∷ ss) = one (leb least.members (size s)) refl (go ss)
          where
            one : (b : Bool) → leb least.members (size s) ≡ b → kept least (map (with_members c) ss) ≡ map (with_members c) (at_least least.members ss)
                → kept least (with_members c s ∷ map (with_members c) ss) ≡ map (with_members c) (keep_if (leb least.members (size s)) (s ∷ []) ++ at_least least.members ss)
            one true e ih = rw (kept-yes (with_members c s) (map (with_members c) ss) (by_members s ∙ e), keep_all (leb least.members (size s)) (s ∷ []) e, ih)
            one false e ih = rw (kept-no (with_members c s) (map (with_members c) ss) (λ f. clash (sym (by_members s) ∙ f) e), keep-nil (leb least.members (size s)) (s ∷ []) (λ f. clash f e), ih)

    -- Of the records of a core that does not meet the thresholds itself, none is kept: a circle has no more members than its core.
    pub kept-records-none : c.members < 2 ^ capacity → (meets least c ≡ true → ⊥) → kept least (records_of n ws c) ≡ []
    unfolding records_of circles_of
    kept-records-none w e = kept-nil _ (λ d i f.
        let r = Memᴰ.of_map (with_members c) (circles_of n ws c) i in
        let m = meets-of (with_members c r.0) (rw r.2 f) in
        let within = (circles-within (span_neighbours n ws c.first c.last) c.members w r.0 r.1).0 in
        e (meets-in c m.0 m.1 (le_trans m.2 (size_mono within))))
