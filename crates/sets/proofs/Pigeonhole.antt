-- The pigeonhole principle for lists: where each element of one list has a partner in another, and no two have the same partner, the first
-- list is no longer than the second.
use mathlib.Core.Path.{◌≡◌, refl, sym, ap, ◌∙◌, subst}
use mathlib.Core.List.Memᴰ
use mathlib.Core.List.{List, [], ◌∷◌, Memᴰ}
use mathlib.Core.Logic.{◌⊎◌, inl, inr}
use Prim.Native.Nat.{suc, ◌≤◌, zero-le}
use native.Mathlib.Omega.{arith}
use lib.ListN.{length}
use Rattle.sets.specs.Tables.{Pairwise, followed}

-- a list with one of its elements taken out: it is shorter by one, and has every other element
record Taken {B : Type 0} (b : B) (bs : List B) : Type 0 where
  rest : List B
  shorter : length bs ≡ suc (length rest)
  others : (c : B) → Memᴰ c bs → (c ≡ b) ⊎ Memᴰ c rest

taken : {B : Type 0} (b : B) (bs : List B) → Memᴰ b bs → Taken b bs
taken b [] m = absurd (Memᴰ.not-nil m)
taken {B} b (d ∷ ds) m = go (Memᴰ.cases_cons m) (taken b ds)
  where
    go : (b ≡ d) ⊎ Memᴰ b ds → (Memᴰ b ds → Taken b ds) → Taken b (d ∷ ds)
    go (inl e) ih = record { rest = ds; shorter = refl; others = λ c k. first c (Memᴰ.cases_cons k) }
      where
        first : (c : B) → (c ≡ d) ⊎ Memᴰ c ds → (c ≡ b) ⊎ Memᴰ c ds
        first c (inl f) = inl (f ∙ sym e)
        first c (inr k) = inr k
    go (inr i) ih = record { rest = d ∷ (ih i).rest; shorter = ap suc (ih i).shorter; others = λ c k. later c (Memᴰ.cases_cons k) }
      where
        past : (c : B) → (c ≡ b) ⊎ Memᴰ c (ih i).rest → (c ≡ b) ⊎ Memᴰ c (d ∷ (ih i).rest)
        past c (inl f) = inl f
        past c (inr k) = inr (Memᴰ.tail k)

        later : (c : B) → (c ≡ d) ⊎ Memᴰ c ds → (c ≡ b) ⊎ Memᴰ c (d ∷ (ih i).rest)
        later c (inl f) = inr (Memᴰ.head f)
        later c (inr k) = past c ((ih i).others c k)

module _ {A B : Type 0} {R : A → A → Type 0} (Partner : A → B → Type 0) (apart : (x y : A) (b : B) → R x y → Partner x b → Partner y b → ⊥) where
  pub no_longer : (xs : List A) (bs : List B) → Pairwise R xs → ((x : A) → Memᴰ x xs → (b : B) × Memᴰ b bs × Partner x b) → length xs ≤ length bs
  no_longer [] bs p h = zero-le
  no_longer (x ∷ xs) bs (followed f p) h = omega (arith, t.shorter, no_longer xs t.rest p (λ y i. other y i (h y (Memᴰ.tail i))))
    where
      own : (b : B) × Memᴰ b bs × Partner x b
      own = h x (Memᴰ.head refl)

      t : Taken own.0 bs
      t = taken own.0 bs own.1

      other : (y : A) → Memᴰ y xs → (b : B) × Memᴰ b bs × Partner y b → (b : B) × Memᴰ b t.rest × Partner y b
      other y i (c, k, q) = go (t.others c k)
        where
          go : (c ≡ own.0) ⊎ Memᴰ c t.rest → (b : B) × Memᴰ b t.rest × Partner y b
          go (inl e) = absurd (apart x y own.0 (f y i) own.2 (subst (Partner y) e q))
          go (inr m) = (c, m, q)
