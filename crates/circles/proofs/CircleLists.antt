-- Laws of the list of a set's circles: it is walked from the circle of the smallest member; it has just the circles of the set, each once, which
-- are disjoint, have all members together, and stand by smallest member.
use mathlib.Core.Path.{◌≡◌, refl, sym, ap, ◌∙◌}
use mathlib.Core.List.Memᴰ
use mathlib.Core.List.{List, [], ◌∷◌, ◌++◌, Memᴰ}
use mathlib.Core.Logic.{⊎_elim, by_cases}
use Prim.Native.Nat.{ℕ, zero, suc, ◌*◌, ◌^◌, ◌≤◌, ◌<◌}
use native.Mathlib.Nat.{le_refl, mul-suc}
use native.Mathlib.Decide.{ℕ_discrete}
use native.Mathlib.Omega.{arith}
use lib.Dec.{leb}
use lib.ListN.{length}
use borrow.Author.Tests.{le-leb, lt-ltb}
use Rattle.sets.specs.Sets.{bit, In, Sub, difference, size, smallest}
use Rattle.sets.specs.Members.{capacity}
use Rattle.sets.specs.Tables.{Pairwise, nothing, followed}
use Rattle.sets.proofs.Sets.{not-in-none, some, in-difference, of-difference, in-union-left, in-union-right, of-union, sub-lt, sub_trans, ext}
use Rattle.sets.proofs.Size.{none-of-size, size-parts, size-pos}
use Rattle.sets.proofs.Smallest.{smallest-member, smallest-first}
use Rattle.sets.proofs.Concat.{keep_all}
use Rattle.sets.proofs.Pairwise.{pairwise-two}
use Rattle.cores.specs.Graphs.{Symmetric}
use Rattle.cores.proofs.Degrees.{FewerPairs}
use Rattle.circles.specs.Chains.{IsCircle}
use Rattle.circles.specs.Circles.{circle, first_circle, circles_in, circles, together, at_least}
use Rattle.circles.proofs.Chains.{chain_more, circle-shared, symmetric-less, rest-within, circle-of-rest}
use Rattle.circles.proofs.Growing.{in-circle, of-circle, circle-within, circle-own, circle-is, member-pos}

-- the smallest member of a non-empty set is in it, and in the first circle
pub first_member : (s : ℕ) → s < 2 ^ capacity → 0 < s → In s (smallest capacity s) × (smallest capacity s < capacity)
first_member s w p = smallest-member capacity s w (λ e. omega arith)

module _ (rows : ℕ → ℕ) where
  pub first-within : (s : ℕ) → Sub (first_circle rows s) s
  unfolding first_circle
  first-within s = circle-within rows s (smallest capacity s)

  pub first-own : (s : ℕ) → s < 2 ^ capacity → 0 < s → In (first_circle rows s) (smallest capacity s)
  unfolding first_circle
  first-own s w p = circle-own rows s (smallest capacity s) (first_member s w p).0

  pub first-is : (s : ℕ) → s < 2 ^ capacity → 0 < s → Symmetric rows s → IsCircle rows s (first_circle rows s)
  unfolding first_circle
  first-is s w p y = circle-is rows s (smallest capacity s) y (first_member s w p).0

  -- going on with the others, who are fewer
  pub rest_lt : (s : ℕ) → s < 2 ^ capacity → difference s (first_circle rows s) < 2 ^ capacity
  rest_lt s w = sub-lt capacity _ s (rest-within s _) w

  pub rest-less : (s : ℕ) → s < 2 ^ capacity → 0 < s → size (difference s (first_circle rows s)) < size s
  rest-less s w p =
      let q : 0 < size (first_circle rows s) = size-pos (first_circle rows s) _ (first-own s w p) in
      omega (arith, size-parts s (first_circle rows s) (first-within s))

  -- the list, step by step
  in-none : (m : ℕ) → circles_in rows m 0 ≡ []
  unfolding circles_in
  in-none zero = refl
  in-none (suc m) = refl

  in-more : (m s : ℕ) → 0 < s → circles_in rows (suc m) s ≡ first_circle rows s ∷ circles_in rows m (difference s (first_circle rows s))
  unfolding circles_in
  in-more m s p = rw (lt-ltb 0 s p, circles_in)

  -- its bound does not matter, once it is large enough
  in-enough : (m k s : ℕ) → s < 2 ^ capacity → size s ≤ m → size s ≤ k → circles_in rows m s ≡ circles_in rows k s
  in-enough zero k s w a b = let e = none-of-size s (omega arith) in rw e (in-none 0 ∙ sym (in-none k))
  in-enough (suc m) zero s w a b = let e = none-of-size s (omega arith) in rw e (in-none (suc m) ∙ sym (in-none 0))
  in-enough (suc m) (suc k) s w a b = go (ℕ_discrete s 0) (in-enough m k (difference s (first_circle rows s)) (rest_lt s w))
    where
      go : Dec (s ≡ 0)
          → (size (difference s (first_circle rows s)) ≤ m → size (difference s (first_circle rows s)) ≤ k → circles_in rows m (difference s (first_circle rows s)) ≡ circles_in rows k (difference s (first_circle rows s)))
          → circles_in rows (suc m) s ≡ circles_in rows (suc k) s
      go (yes e) ih = rw e (in-none (suc m) ∙ sym (in-none (suc k)))
      go (no f) ih =
          let p : 0 < s = omega arith in
          in-more m s p ∙ ap (λ (l : List ℕ). first_circle rows s ∷ l) (ih (omega (arith, rest-less s w p)) (omega (arith, rest-less s w p))) ∙ sym (in-more k s p)

  -- The walk: the empty set has no circle; any other has the circle of its smallest member first, and then the circles of the others.
  pub circles-none : circles rows 0 ≡ []
  unfolding circles
  circles-none = in-none (size 0)

  pub circles-more : (s : ℕ) → s < 2 ^ capacity → 0 < s → circles rows s ≡ first_circle rows s ∷ circles rows (difference s (first_circle rows s))
  unfolding circles
  circles-more s w p = go (size s) refl
    where
      go : (m : ℕ) → size s ≡ m → circles_in rows (size s) s ≡ first_circle rows s ∷ circles_in rows (size (difference s (first_circle rows s))) (difference s (first_circle rows s))
      go zero e = absurd (omega (arith, rest-less s w p))
      go (suc m) e = rw e (in-more m s p ∙ ap (λ (l : List ℕ). first_circle rows s ∷ l) (in-enough m _ _ (rest_lt s w) (omega (arith, rest-less s w p)) (le_refl _)))

  -- What holds of the empty set, and of a set where it holds of the others, holds of every set.
  module _ (P : ℕ → List ℕ → Type 0) (none : P 0 []) (more : (s : ℕ) → s < 2 ^ capacity → 0 < s → P (difference s (first_circle rows s)) (circles rows (difference s (first_circle rows s)))
      → P s (first_circle rows s ∷ circles rows (difference s (first_circle rows s)))) where
    walk-in : (m s : ℕ) → s < 2 ^ capacity → size s ≤ m → P s (circles rows s)
    walk-in zero s w h = let e = none-of-size s (omega arith) in rw (e, circles-none) none
    walk-in (suc m) s w h = go (ℕ_discrete s 0) (walk-in m (difference s (first_circle rows s)) (rest_lt s w))
      where
        go : Dec (s ≡ 0) → (size (difference s (first_circle rows s)) ≤ m → P (difference s (first_circle rows s)) (circles rows (difference s (first_circle rows s)))) → P s (circles rows s)
        go (yes e) ih = rw (e, circles-none) none
        go (no f) ih = let p : 0 < s = omega arith in rw (circles-more s w p) (more s w p (ih (omega (arith, rest-less s w p))))

    pub by-walk : (s : ℕ) → s < 2 ^ capacity → P s (circles rows s)
    by-walk s w = walk-in (size s) s w (le_refl _)

  -- every element is a non-empty part of the set,
  pub circles-within : (s : ℕ) → s < 2 ^ capacity → (c : ℕ) → Memᴰ c (circles rows s) → Sub c s × (0 < c)
  circles-within = by-walk (λ s l. (c : ℕ) → Memᴰ c l → Sub c s × (0 < c)) (λ c i. absurd (Memᴰ.not-nil i))
      (λ s w p ih c i. ⊎_elim
      (λ e. rw e (first-within s, member-pos _ _ (first-own s w p)))
      (λ j. let r = ih c j in (sub_trans r.0 (rest-within s _), r.1))
      (Memᴰ.cases_cons i))

  -- and a circle of it
  pub circles-are : (s : ℕ) → s < 2 ^ capacity → Symmetric rows s → (c : ℕ) → Memᴰ c (circles rows s) → IsCircle rows s c
  circles-are = by-walk (λ s l. Symmetric rows s → (c : ℕ) → Memᴰ c l → IsCircle rows s c) (λ y c i. absurd (Memᴰ.not-nil i))
      (λ s w p ih y c i. let k = first-is s w p y in ⊎_elim
      (λ e. rw e k)
      (λ j. circle-of-rest y k (ih (symmetric-less (rest-within s _) y) c j))
      (Memᴰ.cases_cons i))

  -- every member is in one of them,
  pub circles-cover : (s : ℕ) → s < 2 ^ capacity → (u : ℕ) → In s u → (c : ℕ) × Memᴰ c (circles rows s) × In c u
  circles-cover = by-walk (λ s l. (u : ℕ) → In s u → (c : ℕ) × Memᴰ c l × In c u) (λ u i. absurd (not-in-none u i))
      (λ s w p ih u i. by_cases (ℕ_discrete (bit (first_circle rows s) u) 1)
      (λ j. (first_circle rows s, Memᴰ.head refl, j))
      (λ f. let r = ih u (in-difference s _ u i f) in (r.0, Memᴰ.tail r.1, r.2)))

  -- and in no other: two of them have no member in common
  pub circles-apart : (s : ℕ) → s < 2 ^ capacity → Pairwise (λ c d. (u : ℕ) → In c u → In d u → ⊥) (circles rows s)
  circles-apart = by-walk (λ s l. Pairwise (λ c d. (u : ℕ) → In c u → In d u → ⊥) l) nothing
      (λ s w p ih. followed (λ d i u j k. (of-difference s _ u ((circles-within _ (rest_lt s w) d i).0.at u k)).1 j) ih)

  -- they stand by smallest member, rising
  pub circles-rise : (s : ℕ) → s < 2 ^ capacity → Pairwise (λ c d. smallest capacity c < smallest capacity d) (circles rows s)
  circles-rise = by-walk (λ s l. Pairwise (λ c d. smallest capacity c < smallest capacity d) l) nothing
      (λ s w p ih. followed (λ d i. rises s w p d (circles-within _ (rest_lt s w) d i)) ih)
    where
      rises : (s : ℕ) → s < 2 ^ capacity → 0 < s → (d : ℕ) → Sub d (difference s (first_circle rows s)) × (0 < d) → smallest capacity (first_circle rows s) < smallest capacity d
      rises s w p d h =
          let o = first-own s w p in
          let b = first_member s w p in
          let x = first_member d (sub-lt capacity d s (sub_trans h.0 (rest-within s _)) w) h.1 in
          let r = of-difference s _ (smallest capacity d) (h.0.at _ x.0) in
          let l : smallest capacity s ≤ smallest capacity d = smallest-first capacity s _ r.0 x.1 in
          let f : smallest capacity (first_circle rows s) ≤ smallest capacity s = smallest-first capacity _ _ o b.1 in
          by_cases (ℕ_discrete (smallest capacity d) (smallest capacity s))
          (λ e. absurd (r.1 (rw e o)))
          (λ g. omega arith)

  -- their members together are the set
  pub circles-together : (s : ℕ) → s < 2 ^ capacity → together (circles rows s) ≡ s
  unfolding together
  circles-together = by-walk (λ s l. together l ≡ s) refl
      (λ s w p ih. rw ih (ext _ s
      (λ u i. ⊎_elim ((first-within s).at u) ((rest-within s _).at u) (of-union _ _ u i))
      (λ u i. by_cases (ℕ_discrete (bit (first_circle rows s) u) 1) (in-union-left _ _ u) (λ f. in-union-right _ _ u (in-difference s _ u i f)))))

  -- there are no more of them than members, and where each has k members, k times as many are no more than members
  pub circles-many : (k s : ℕ) → s < 2 ^ capacity → ((c : ℕ) → Memᴰ c (circles rows s) → k ≤ size c) → k * length (circles rows s) ≤ size s
  circles-many k = by-walk (λ s l. ((c : ℕ) → Memᴰ c l → k ≤ size c) → k * length l ≤ size s) (λ h. omega arith)
      (λ s w p ih h. omega (arith, ih (λ c i. h c (Memᴰ.tail i)), h (first_circle rows s) (Memᴰ.head refl), size-parts s _ (first-within s), mul-suc k (length (circles rows (difference s (first_circle rows s))))))

  -- every circle of the set is an element,
  pub circles-all : (s c : ℕ) → s < 2 ^ capacity → Symmetric rows s → IsCircle rows s c → Memᴰ c (circles rows s)
  circles-all s c w y k =
      let m = some c (λ e. omega (arith, k.some)) in
      let r = circles-cover s w m.0 (k.within.at _ m.1) in
      let e : r.0 ≡ c = circle-shared m.0 (circles-are s w y r.0 r.1) k r.2 m.1 in
      rw e at r.1

  -- once
  pub circles-once : (s : ℕ) → s < 2 ^ capacity → (xs ys zs : List ℕ) (c d : ℕ) → circles rows s ≡ xs ++ (c ∷ (ys ++ (d ∷ zs))) → c ≡ d → ⊥
  circles-once s w xs ys zs c d e f =
      let l : smallest capacity c < smallest capacity d = pairwise-two xs ys zs c d (rw e at (circles-rise s w)) in
      let g : smallest capacity c ≡ smallest capacity d = ap (smallest capacity) f in
      omega arith

  -- and each member of the set is in just one
  pub circles-just-one : (s u c d : ℕ) → s < 2 ^ capacity → Symmetric rows s → Memᴰ c (circles rows s) → Memᴰ d (circles rows s) → In c u → In d u → c ≡ d
  circles-just-one s u c d w y i j k l = circle-shared u (circles-are s w y c i) (circles-are s w y d j) k l

  pub circles-few : (s : ℕ) → s < 2 ^ capacity → length (circles rows s) ≤ size s
  circles-few s w = omega (arith, circles-many 1 s w (λ c i. let m = some c (λ e. omega (arith, (circles-within s w c i).1)) in size-pos c m.0 m.1))

-- Rows with the same pairs between members have the same circles, whoever else is in them.
module _ {rows rows' : ℕ → ℕ} where
  pub pairs-less : {s t : ℕ} → Sub t s → FewerPairs s rows rows' → FewerPairs t rows rows'
  pairs-less h f = record { pair = λ u v i j. f.pair u v (h.at u i) (h.at v j) }

  pub circle-rows : (s u : ℕ) → FewerPairs s rows rows' → FewerPairs s rows' rows → circle rows s u ≡ circle rows' s u
  circle-rows s u f g = ext _ _ (λ v i. in-circle rows' s u v (chain_more f (of-circle rows s u v i))) (λ v i. in-circle rows s u v (chain_more g (of-circle rows' s u v i)))

  first_rows : (s : ℕ) → FewerPairs s rows rows' → FewerPairs s rows' rows → first_circle rows s ≡ first_circle rows' s
  unfolding first_circle
  first_rows s f g = circle-rows s (smallest capacity s) f g

pub circles-rows : {rows rows' : ℕ → ℕ} (s : ℕ) → s < 2 ^ capacity → FewerPairs s rows rows' → FewerPairs s rows' rows → circles rows s ≡ circles rows' s
circles-rows {rows} {rows'} = by-walk rows (λ s l. FewerPairs s rows rows' → FewerPairs s rows' rows → l ≡ circles rows' s) (λ f g. sym (circles-none rows'))
    (λ s w p ih f g.
    let e : first_circle rows s ≡ first_circle rows' s = first_rows s f g in
    let r = ih (pairs-less (rest-within s _) f) (pairs-less (rest-within s _) g) in
    rw (r, e) (sym (circles-more rows' s w p)))

-- where all sets of a list have so many members, all are kept
pub at-least-all : (least : ℕ) (cs : List ℕ) → ((c : ℕ) → Memᴰ c cs → least ≤ size c) → at_least least cs ≡ cs
unfolding at_least
at-least-all least [] h = refl
at-least-all least (d ∷ cs) h = rw (keep_all (leb least (size d)) (d ∷ []) (le-leb _ _ (h d (Memᴰ.head refl))), at-least-all least cs (λ c i. h c (Memᴰ.tail i)))
