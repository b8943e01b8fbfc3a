-- Laws of the sizes that the program keeps of a series: those of the first log, and whether the others have them.
use mathlib.Core.Path.{◌≡◌, refl, sym, ap, ◌∙◌}
use mathlib.Core.Bool.{Bool, true, false, ◌&&◌}
use mathlib.Core.List.Memᴰ
use mathlib.Core.List.{List, [], ◌∷◌, ◌++◌, Memᴰ}
use mathlib.Core.Logic.{◌⊎◌, inl, inr}
use Prim.Native.Nat.{ℕ}
use lib.Dec.{eqb}
use borrow.Author.Tests.{eq-eqb}
use Rattle.sets.specs.Bools.{◌and◌, isnt}
use Rattle.sets.proofs.Bools.{same_test, and_in, and_left, and_right}
use Rattle.records.specs.declared.record.Record.{Record}
use Rattle.records.specs.Meaning.{badges_of, ticks_of}
use Rattle.days.specs.declared.sizes.Sizes.TheVariants as z
use Rattle.records.specs.Outcomes.{success, refuse_if}
use Rattle.series.specs.Series.{badges_in, ticks_in, Sized, have_size, Size, common_size}
use Rattle.days.specs.SeriesSteps.{compared, common_of, sizes_in}
use Rattle.series.proofs.SeriesJudged.{size-of, size-in}

-- one log more at the end
have-next : (n T : ℕ) (all : List (List Record)) (rs : List Record) → (eqb (badges_of rs) n and eqb (ticks_of rs) T and have_size n T all) ≡ have_size n T (all ++ rs ∷ [])
unfolding have_size
have-next n T all rs = same_test _ _ to back
  where
    to : (eqb (badges_of rs) n and eqb (ticks_of rs) T and have_size n T all) ≡ true → have_size n T (all ++ rs ∷ []) ≡ true
    to e = size-in n T _ (λ x i. go x (Memᴰ.append_cases all i))
      where
        go : (x : List Record) → Memᴰ x all ⊎ Memᴰ x (rs ∷ []) → Sized n T x
        go x (inl i) = size-of n T all (and_right _ _ e) x i
        go x (inr i) = size-of n T (rs ∷ []) (and_in _ _ (and_left _ _ e) refl) x i

    last : (xs : List (List Record)) → Memᴰ rs (xs ++ rs ∷ [])
    last [] = Memᴰ.head refl
    last (x ∷ xs) = Memᴰ.tail (last xs)

    back : have_size n T (all ++ rs ∷ []) ≡ true → (eqb (badges_of rs) n and eqb (ticks_of rs) T and have_size n T all) ≡ true
    back e = let s = size-of n T _ e rs (last all) in
        and_in _ _ (and_in _ _ (eq-eqb _ _ s.badges) (eq-eqb _ _ s.ticks)) (size-in n T all (λ x i. size-of n T _ e x (Memᴰ.append_left (rs ∷ []) i)))

both : (a b : Bool) → (a && b) ≡ (a and b)
unfolding ◌and◌
both true b = refl
both false b = refl

-- a first size, compared with another
compared-same : (first size : Size) (b : Bool) → (eqb size.badges first.badges and eqb size.ticks first.ticks) ≡ b → compared (z.Same first) size ≡ elim b [ true ↦ z.Same first | false ↦ z.Different ]
unfolding compared
compared-same first size b e = ap (λ (c : Bool). elim c [ true ↦ z.Same first | false ↦ z.Different ]) (both _ _ ∙ e)

-- what is known of some logs, and of one more
pub known_next : (all : List (List Record)) (rs : List Record) (size : Size) → size ≡ record { badges = badges_of rs; ticks = ticks_of rs } → compared (sizes_in all) size ≡ sizes_in (all ++ rs ∷ [])
unfolding sizes_in compared have_size common_size badges_in ticks_in ◌and◌
known_next [] rs size e = rw e (sym (kept (size-in (badges_of rs) (ticks_of rs) (rs ∷ []) (λ x i. alone x (Memᴰ.eq_of_singleton i)))))
  where
    alone : (x : List Record) → x ≡ rs → Sized (badges_of rs) (ticks_of rs) x
    alone x f = rw f (record { badges = refl; ticks = refl })

    kept : have_size (badges_of rs) (ticks_of rs) (rs ∷ []) ≡ true → sizes_in (rs ∷ []) ≡ z.Same (record { badges = badges_of rs; ticks = ticks_of rs })
    kept f = rw (sizes_in, f)
known_next (x ∷ all) rs size e =
    rw (e, sizes_in, ← have-next (badges_of x) (ticks_of x) (x ∷ all) rs) (go (have_size (badges_of x) (ticks_of x) (x ∷ all)) (eqb (badges_of rs) (badges_of x) and eqb (ticks_of rs) (ticks_of x)) refl)
  where
    go : (b c : Bool) → (eqb (badges_of rs) (badges_of x) and eqb (ticks_of rs) (ticks_of x)) ≡ c
        → compared (elim b [ true ↦ z.Same (common_size (x ∷ all)) | false ↦ z.Different ]) (record { badges = badges_of rs; ticks = ticks_of rs })
        ≡ elim (c and b) [ true ↦ z.Same (common_size (x ∷ all)) | false ↦ z.Different ]
    go true true f = compared-same (common_size (x ∷ all)) (record { badges = badges_of rs; ticks = ticks_of rs }) true f
    go true false f = compared-same (common_size (x ∷ all)) (record { badges = badges_of rs; ticks = ticks_of rs }) false f
    go false true f = refl
    go false false f = refl

-- the size that all of them have, or that they differ
pub common-in : (all : List (List Record)) → common_of (sizes_in all) ≡ refuse_if (isnt (have_size (badges_in all) (ticks_in all) all)) 19 0 (success (common_size all))
unfolding sizes_in have_size common_size badges_in ticks_in refuse_if isnt
common-in [] = refl
common-in (x ∷ all) = go (have_size (badges_of x) (ticks_of x) (x ∷ all))
  where
    go : (b : Bool) → common_of (elim b [ true ↦ z.Same (common_size (x ∷ all)) | false ↦ z.Different ]) ≡ refuse_if (isnt b) 19 0 (success (common_size (x ∷ all)))
    go true = refl
    go false = refl
