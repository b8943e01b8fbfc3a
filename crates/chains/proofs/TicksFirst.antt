-- Laws of a trace by the tick and the source of each badge.
use mathlib.Core.Path.{◌≡◌, sym, ◌∙◌, subst}
use mathlib.Core.List.{List, ◌++◌}
use mathlib.Core.Logic.{by_cases}
use Prim.Native.Nat.{ℕ, ◌+◌, ◌-◌, ◌<◌}
use native.Mathlib.Decide.{dec_lt}
use native.Mathlib.Omega.{arith}
use lib.ListN.{length, get_or, length-append, get_or-append}
use lib.Seq.{ext_get_or, get_or-append-add}
use Rattle.sets.specs.Bytes.{Bytes}
use Rattle.sets.specs.Tables.{tabulate}
use Rattle.sets.proofs.Tables.{tabulate-length, tabulate-at}
use Rattle.chains.specs.Traces.{tick_in, source_in}
use Rattle.chains.specs.Sweep.{ticks_first}

-- what holds of each place of 2n holds of the places of ticks and of sources
pub by-halves : (n : ℕ) (P : ℕ → Type 0) → ((u : ℕ) → u < n → P u) → ((u : ℕ) → u < n → P (n + u)) → (i : ℕ) → i < n + n → P i
by-halves n P f g i h = by_cases (dec_lt i n) (λ l. f i l) (λ l. let e : n + (i - n) ≡ i = omega arith in subst P e (g (i - n) (omega arith)))

-- two lists of 2n numbers with the same tick and the same source of each badge are equal
pub halves-same : (n : ℕ) (xs ys : List ℕ) → length xs ≡ n + n → length ys ≡ n + n → ((u : ℕ) → u < n → tick_in xs u ≡ tick_in ys u) → ((u : ℕ) → u < n → source_in n xs u ≡ source_in n ys u) → xs ≡ ys
halves-same n xs ys l k f g = ext_get_or 0 xs ys (l ∙ sym k) (λ i h. by-halves n (λ i. get_or xs i 0 ≡ get_or ys i 0) f g i (omega arith))

module _ (n : ℕ) (tick source : ℕ → ℕ) where
  pub first-length : length (ticks_first n tick source) ≡ n + n
  unfolding ticks_first
  first-length = omega (arith, length-append (tabulate n tick) (tabulate n source), tabulate-length n tick, tabulate-length n source)

  pub tick-at : (u : ℕ) → u < n → tick_in (ticks_first n tick source) u ≡ tick u
  unfolding ticks_first
  tick-at u l = get_or-append (tabulate n tick) _ 0 u (omega (arith, tabulate-length n tick)) ∙ tabulate-at n tick u l

  pub source-at : (u : ℕ) → u < n → source_in n (ticks_first n tick source) u ≡ source u
  unfolding ticks_first
  source-at u l =
      subst (λ (x : ℕ). get_or (tabulate n tick ++ tabulate n source) (x + u) 0 ≡ get_or (tabulate n source) u 0) (tabulate-length n tick) (get_or-append-add (tabulate n tick) (tabulate n source) u 0)
      ∙ tabulate-at n source u l

  pub first-bytes : ((u : ℕ) → u < n → tick u < 256) → ((u : ℕ) → u < n → source u < 256) → Bytes (ticks_first n tick source)
  first-bytes f g = record { at = λ i h. by-halves n (λ i. get_or (ticks_first n tick source) i 0 < 256) (λ u l. omega (arith, f u l, tick-at u l)) (λ u l. omega (arith, g u l, source-at u l)) i (omega (arith, first-length)) }

  -- a list that has these ticks and sources
  pub first-is : (l : List ℕ) → length l ≡ n + n → ((u : ℕ) → u < n → tick_in l u ≡ tick u) → ((u : ℕ) → u < n → source_in n l u ≡ source u) → l ≡ ticks_first n tick source
  first-is l e f g = halves-same n l _ e first-length (λ u h. f u h ∙ sym (tick-at u h)) (λ u h. g u h ∙ sym (source-at u h))
