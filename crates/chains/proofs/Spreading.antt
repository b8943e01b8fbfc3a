-- Laws of a set that spreads in a tick: it holds its own badges and those in contact with one of them, and no others.
use mathlib.Core.Path.{◌≡◌, sym, subst}
use mathlib.Core.Bool.{true}
use mathlib.Core.Logic.{◌⊎◌, inl, inr}
use Prim.Native.Nat.{ℕ, ◌<◌}
use borrow.Author.Tests.{eqb-true, eq-eqb}
use Rattle.sets.specs.Sets.{In, intersection, set_of}
use Rattle.sets.proofs.Bools.{isnt-in, isnt-of}
use Rattle.sets.proofs.Sets.{not-in-none, some, in-intersection, of-intersection-left, of-intersection-right, in-union-left, in-union-right, of-union, in-set, of-set, of-set-lt, ext}
use Rattle.chains.specs.Sweep.{overlap, spread}

-- two sets meet exactly when they have a badge in common
pub overlap-in : (s t u : ℕ) → In s u → In t u → overlap s t ≡ true
unfolding overlap
overlap-in s t u i j = isnt-in _ (λ e. not-in-none u (subst (λ (x : ℕ). In x u) (eqb-true _ _ e) (in-intersection s t u i j)))

pub overlap-of : (s t : ℕ) → overlap s t ≡ true → (u : ℕ) × In s u × In t u
unfolding overlap
overlap-of s t e =
    let x = some (intersection s t) (λ z. isnt-of _ e (eq-eqb _ _ z)) in
    (x.0, of-intersection-left s t x.0 x.1, of-intersection-right s t x.0 x.1)

-- u has a neighbour in s
pub record Touched (n : ℕ) (row : ℕ → ℕ) (s u : ℕ) : Type 0 where
  pub below : u < n
  pub by : ℕ
  pub row_has : In (row u) by
  pub member : In s by

module _ (n : ℕ) (row : ℕ → ℕ) (s u : ℕ) where
  pub spread-keeps : In s u → In (spread n row s) u
  unfolding spread
  spread-keeps i = in-union-left s _ u i

  pub spread-in : Touched n row s u → In (spread n row s) u
  unfolding spread
  spread-in h = in-union-right s _ u (in-set n _ u h.below (overlap-in _ _ h.by h.row_has h.member))

  pub spread-of : In (spread n row s) u → In s u ⊎ Touched n row s u
  unfolding spread
  spread-of i = go (of-union s (set_of n (λ v. overlap (row v) s)) u i)
    where
      go : In s u ⊎ In (set_of n (λ v. overlap (row v) s)) u → In s u ⊎ Touched n row s u
      go (inl j) = inl j
      go (inr j) =
          let m = overlap-of (row u) s (of-set n _ u j) in
          inr (record { below = of-set-lt n _ u j; by = m.0; row_has = m.1; member = m.2 })

-- it spreads alike by rows that are the same for n badges
spread-within : (n : ℕ) (row other : ℕ → ℕ) (s : ℕ) → ((u : ℕ) → u < n → row u ≡ other u) → (u : ℕ) → In (spread n row s) u → In (spread n other s) u
spread-within n row other s same u i = go (spread-of n row s u i)
  where
    go : In s u ⊎ Touched n row s u → In (spread n other s) u
    go (inl j) = spread-keeps n other s u j
    go (inr h) = spread-in n other s u (record { below = h.below; by = h.by; row_has = subst (λ (x : ℕ). In x h.by) (same u h.below) h.row_has; member = h.member })

pub spread_same : (n : ℕ) (row other : ℕ → ℕ) (s : ℕ) → ((u : ℕ) → u < n → row u ≡ other u) → spread n row s ≡ spread n other s
spread_same n row other s same = ext _ _ (spread-within n row other s same) (spread-within n other row s (λ u l. sym (same u l)))
