-- Laws of sets of badges: for each set that the definitions build, when a badge is a member of it; subsets; the bound of a set
-- whose members are below n. Two sets with the same members are equal.
use mathlib.Core.Path.{◌≡◌, refl, sym, ap, ◌∙◌, subst}
use mathlib.Core.Bool.{Bool, true, false}
use mathlib.Core.Logic.{◌⊎◌, inl, inr}
use Prim.Native.Nat.{ℕ, zero, suc, ◌+◌, ◌*◌, ◌/◌, ◌%◌, ◌^◌, ◌≤◌, ◌<◌, zero-le, suc-le-suc}
use native.Mathlib.Nat.{le_refl, mod-lt, zero-lt-suc, pow-suc, le_of_suc-le-suc, not-suc-le-zero, zero-mul}
use native.Mathlib.Decide.{ℕ_discrete}
use native.Mathlib.Omega.{arith}
use lib.Arith.{bin_ind, digits_div, digits_mod, lt-one}
use lib.Bits.{bit_xor, and_zero_r}
use borrow.Author.Tests.{eqb-true, eqb-false, eq-eqb, lt-ltb, le-ltb}
use Rattle.sets.specs.Sets.{bit, In, has, Sub, is_sub, intersection, union, difference, symmetric_difference, only, digit, set_of, filter_in, filter, full}
use Rattle.sets.specs.Members.{capacity, insert}
use Rattle.sets.specs.Bools.{◌and◌, ◌or◌}
use Rattle.sets.proofs.Bools.{clash, same_test, and_in, and_left, and_right, or_left, or_right, or-of}
use Rattle.sets.proofs.Bits.{bit-lt, bit-zero, bit-suc, bit-none, bit-and, bit-or, bit-sub, bit-xor}

-- the test for membership passes exactly when the badge is a member
pub in-test : (s u : ℕ) → has s u ≡ true → In s u
in-test s u e = eqb-true _ _ e

pub has-test : (s u : ℕ) → In s u → has s u ≡ true
has-test s u i = eq-eqb _ _ i

pub out-test : (s u : ℕ) → has s u ≡ false → In s u → ⊥
out-test s u e = eqb-false _ _ e

-- the empty set has no member
pub not-in-none : (u : ℕ) → In 0 u → ⊥
not-in-none u i = omega (arith, bit-none u)

-- a set that is not empty has a member
pub some : (s : ℕ) → (s ≡ 0 → ⊥) → (u : ℕ) × In s u
some = bin_ind (λ (s : ℕ). (s ≡ 0 → ⊥) → (u : ℕ) × In s u) (λ f. absurd (f refl)) (λ s ih f. go s ih f (s % 2) refl)
  where
    go : (s : ℕ) → ((s / 2 ≡ 0 → ⊥) → (u : ℕ) × In (s / 2) u) → (s ≡ 0 → ⊥) → (b : ℕ) → s % 2 ≡ b → (u : ℕ) × In s u
    go s ih f zero e = let r = ih (λ g. f (omega arith)) in (suc r.0, bit-suc s r.0 ∙ r.1)
    go s ih f (suc zero) e = (0, bit-zero s ∙ e)
    go s ih f (suc (suc b)) e = absurd (omega (arith, mod-lt s (zero-lt-suc 1)))

-- the members of an intersection are the badges that are in both sets
pub in-intersection : (s t u : ℕ) → In s u → In t u → In (intersection s t) u
unfolding intersection
in-intersection s t u i j = omega (arith, bit-and u s t)

pub of-intersection-left : (s t u : ℕ) → In (intersection s t) u → In s u
unfolding intersection
of-intersection-left s t u i = omega (arith, bit-and u s t, bit-lt s u)

pub of-intersection-right : (s t u : ℕ) → In (intersection s t) u → In t u
unfolding intersection
of-intersection-right s t u i = omega (arith, bit-and u s t, bit-lt t u)

-- the members of a union are the badges that are in one of the sets
pub in-union-left : (s t u : ℕ) → In s u → In (union s t) u
unfolding union
in-union-left s t u i = omega (arith, bit-or u s t, bit-lt t u)

pub in-union-right : (s t u : ℕ) → In t u → In (union s t) u
unfolding union
in-union-right s t u i = omega (arith, bit-or u s t, bit-lt s u)

pub of-union : (s t u : ℕ) → In (union s t) u → In s u ⊎ In t u
unfolding union
of-union s t u i = go (ℕ_discrete (bit s u) 1)
  where
    go : Dec (bit s u ≡ 1) → In s u ⊎ In t u
    go (yes j) = inl j
    go (no f) = inr (omega (arith, bit-or u s t, bit-lt s u, bit-lt t u))

-- the members of a difference are the badges that are in the first set and not in the second
pub in-difference : (s t u : ℕ) → In s u → (In t u → ⊥) → In (difference s t) u
unfolding difference
in-difference s t u i f = omega (arith, bit-sub u s t, bit-lt t u)

pub of-difference : (s t u : ℕ) → In (difference s t) u → In s u × (In t u → ⊥)
unfolding difference
of-difference s t u i = (omega (arith, bit-sub u s t, bit-lt s u), λ j. omega (arith, bit-sub u s t, bit-lt s u))

-- the members of a symmetric difference are the badges that are in one of the sets and not in the other
pub in-symmetric-left : (s t u : ℕ) → In s u → (In t u → ⊥) → In (symmetric_difference s t) u
unfolding symmetric_difference
in-symmetric-left s t u i f = omega (arith, bit-xor u s t, bit-lt t u)

pub in-symmetric-right : (s t u : ℕ) → In t u → (In s u → ⊥) → In (symmetric_difference s t) u
unfolding symmetric_difference
in-symmetric-right s t u i f = omega (arith, bit-xor u s t, bit-lt s u)

pub of-symmetric : (s t u : ℕ) → In (symmetric_difference s t) u → (In s u × (In t u → ⊥)) ⊎ (In t u × (In s u → ⊥))
unfolding symmetric_difference
of-symmetric s t u i = go (ℕ_discrete (bit s u) 1)
  where
    go : Dec (bit s u ≡ 1) → (In s u × (In t u → ⊥)) ⊎ (In t u × (In s u → ⊥))
    go (yes j) = inl (j, λ k. omega (arith, bit-xor u s t))
    go (no f) = inr (omega (arith, bit-xor u s t, bit-lt s u, bit-lt t u), f)

-- the set of one badge has that member and no other
half-only : (u : ℕ) → only (suc u) / 2 ≡ only u
unfolding only
half-only u = omega (arith, pow-suc 2 u)

pub in-only : (u : ℕ) → In (only u) u
unfolding only
in-only zero = bit-zero 1
in-only (suc u) = bit-suc _ u ∙ rw (half-only u) (in-only u)

pub of-only : (u v : ℕ) → In (only u) v → v ≡ u
unfolding only
of-only zero zero i = refl
of-only zero (suc v) i = absurd (not-in-none v (sym (bit-suc 1 v) ∙ i))
of-only (suc u) zero i = absurd (omega (arith, sym (bit-zero (2 ^ suc u)) ∙ i, pow-suc 2 u))
of-only (suc u) (suc v) i = ap suc (of-only u v (rw (half-only u) at (sym (bit-suc _ v) ∙ i)))

-- the set of the numbers below n that pass a test: its digits one by one, its bound, its members
digit_lt : (b : Bool) → digit b < 2
digit_lt true = omega arith
digit_lt false = omega arith

digit-one : (b : Bool) → digit b ≡ 1 → b ≡ true
digit-one true e = refl
digit-one false e = absurd (omega arith)

bit-set-zero : (n : ℕ) (p : ℕ → Bool) → bit (set_of (suc n) p) 0 ≡ digit (p zero)
unfolding set_of
bit-set-zero n p = bit-zero _ ∙ digits_mod (set_of n (λ u. p (suc u))) (digit_lt (p zero))

bit-set-suc : (n : ℕ) (p : ℕ → Bool) (u : ℕ) → bit (set_of (suc n) p) (suc u) ≡ bit (set_of n (λ u. p (suc u))) u
unfolding set_of
bit-set-suc n p u = bit-suc _ u ∙ ap (λ (x : ℕ). bit x u) (digits_div (set_of n (λ u. p (suc u))) (digit_lt (p zero)))

pub set-lt : (n : ℕ) (p : ℕ → Bool) → set_of n p < 2 ^ n
unfolding set_of
set-lt zero p = omega arith
set-lt (suc n) p = rw pow-suc (omega (arith, set-lt n (λ u. p (suc u)), digit_lt (p zero)))

pub in-set : (n : ℕ) (p : ℕ → Bool) (u : ℕ) → u < n → p u ≡ true → In (set_of n p) u
in-set zero p u h e = absurd (not-suc-le-zero h)
in-set (suc n) p zero h e = bit-set-zero n p ∙ ap digit e
in-set (suc n) p (suc u) h e = bit-set-suc n p u ∙ in-set n (λ u. p (suc u)) u (le_of_suc-le-suc h) e

pub of-set : (n : ℕ) (p : ℕ → Bool) (u : ℕ) → In (set_of n p) u → p u ≡ true
unfolding set_of
of-set zero p u i = absurd (not-in-none u i)
of-set (suc n) p zero i = digit-one (p zero) (sym (bit-set-zero n p) ∙ i)
of-set (suc n) p (suc u) i = of-set n (λ u. p (suc u)) u (sym (bit-set-suc n p u) ∙ i)

-- a number is below 2 ^ n exactly when its members are below n
pub in-lt : (n s u : ℕ) → s < 2 ^ n → In s u → u < n
in-lt zero s u h i = absurd (not-in-none u (subst (λ (x : ℕ). In x u) (lt-one h) i))
in-lt (suc n) s zero h i = suc-le-suc zero-le
in-lt (suc n) s (suc u) h i = suc-le-suc (in-lt n (s / 2) u (let k : s < 2 ^ n * 2 = rw pow-suc at h in omega arith) (sym (bit-suc s u) ∙ i))

pub lt-of-members : (n s : ℕ) → ((u : ℕ) → In s u → u < n) → s < 2 ^ n
lt-of-members zero s h = go s h
  where
    go : (s : ℕ) → ((u : ℕ) → In s u → u < 0) → s < 1
    go zero h = le_refl _
    go (suc s) h = let m = some (suc s) (λ e. omega arith) in absurd (not-suc-le-zero (h m.0 m.1))
lt-of-members (suc n) s h =
    let l = lt-of-members n (s / 2) (λ u i. le_of_suc-le-suc (h (suc u) (bit-suc s u ∙ i))) in
    rw pow-suc (omega arith)

-- so a member of a set of numbers below n is below n
pub of-set-lt : (n : ℕ) (p : ℕ → Bool) (u : ℕ) → In (set_of n p) u → u < n
of-set-lt n p u i = in-lt n (set_of n p) u (set-lt n p) i

-- the members of s that pass a test: digit by digit, where there are digits enough, and as a whole
filter_none : (d : ℕ) (p : ℕ → Bool) → filter_in d p 0 ≡ 0
unfolding filter_in
filter_none zero p = refl
filter_none (suc d) p = refl

low-lt : (x : ℕ) (b : Bool) → x % 2 * digit b < 2
low-lt x true = omega (arith, mod-lt x (zero-lt-suc 1))
low-lt x false = omega arith

filter-bit-zero : (d : ℕ) (p : ℕ → Bool) (s : ℕ) → bit (filter_in (suc d) p s) 0 ≡ s % 2 * digit (p zero)
unfolding filter_in
filter-bit-zero d p zero = bit-none 0 ∙ sym (zero-mul (digit (p zero)))
filter-bit-zero d p (suc s) = bit-zero _ ∙ digits_mod (filter_in d (λ u. p (suc u)) (suc s / 2)) (low-lt (suc s) (p zero))

filter-bit-suc : (d : ℕ) (p : ℕ → Bool) (s u : ℕ) → bit (filter_in (suc d) p s) (suc u) ≡ bit (filter_in d (λ u. p (suc u)) (s / 2)) u
unfolding filter_in
filter-bit-suc d p zero u = bit-suc 0 u ∙ ap (λ (x : ℕ). bit x u) (sym (filter_none d (λ u. p (suc u))))
filter-bit-suc d p (suc s) u = bit-suc _ u ∙ ap (λ (x : ℕ). bit x u) (digits_div (filter_in d (λ u. p (suc u)) (suc s / 2)) (low-lt (suc s) (p zero)))

in-filter-in : (d : ℕ) (p : ℕ → Bool) (s u : ℕ) → s ≤ d → In s u → p u ≡ true → In (filter_in d p s) u
in-filter-in zero p s u h i e = absurd (not-in-none u (let z : s ≡ 0 = omega arith in rw z at i))
in-filter-in (suc d) p s zero h i e = filter-bit-zero d p s ∙ rw e (omega (arith, bit-zero s))
in-filter-in (suc d) p s (suc u) h i e =
    filter-bit-suc d p s u ∙ in-filter-in d (λ u. p (suc u)) (s / 2) u (omega arith) (sym (bit-suc s u) ∙ i) e

of-filter-in : (d : ℕ) (p : ℕ → Bool) (s u : ℕ) → In (filter_in d p s) u → In s u × (p u ≡ true)
unfolding filter_in
of-filter-in zero p s u i = absurd (not-in-none u i)
of-filter-in (suc d) p s zero i = go (p zero) refl (sym (filter-bit-zero d p s) ∙ i)
  where
    go : (b : Bool) → p zero ≡ b → s % 2 * digit (p zero) ≡ 1 → In s 0 × (p zero ≡ true)
    go true e f = let g : s % 2 * 1 ≡ 1 = rw e at f in (bit-zero s ∙ omega arith, e)
    go false e f = let g : s % 2 * 0 ≡ 1 = rw e at f in absurd (omega arith)
of-filter-in (suc d) p s (suc u) i =
    let r = of-filter-in d (λ u. p (suc u)) (s / 2) u (sym (filter-bit-suc d p s u) ∙ i) in
    (bit-suc s u ∙ r.0, r.1)

pub in-filter : (p : ℕ → Bool) (s u : ℕ) → In s u → p u ≡ true → In (filter p s) u
unfolding filter
in-filter p s u i e = in-filter-in s p s u (le_refl s) i e

pub of-filter : (p : ℕ → Bool) (s u : ℕ) → In (filter p s) u → In s u × (p u ≡ true)
unfolding filter
of-filter p s u i = of-filter-in s p s u i

-- a subset of a set of numbers below n is one, too
pub sub-lt : (n s t : ℕ) → Sub s t → t < 2 ^ n → s < 2 ^ n
sub-lt n s t h w = lt-of-members n s (λ u i. in-lt n t u w (h.at u i))

-- every set is a subset of itself, a subset's subset is a subset, and the empty set is a subset of every set
pub sub_refl : (s : ℕ) → Sub s s
sub_refl s = record { at = λ u i. i }

pub sub_trans : {s t v : ℕ} → Sub s t → Sub t v → Sub s v
sub_trans h k = record { at = λ u i. k.at u (h.at u i) }

pub none-sub : (t : ℕ) → Sub 0 t
none-sub t = record { at = λ u i. absurd (not-in-none u i) }

-- a subset, digit by digit: without the lowest digits, and the lowest digits
pub sub-half : {s t : ℕ} → Sub s t → Sub (s / 2) (t / 2)
sub-half {s} {t} h = record { at = λ u i. sym (bit-suc t u) ∙ h.at (suc u) (bit-suc s u ∙ i) }

pub sub_low : {s t : ℕ} → Sub s t → s % 2 ≤ t % 2
sub_low {s} {t} h = go (s % 2) refl
  where
    go : (b : ℕ) → s % 2 ≡ b → s % 2 ≤ t % 2
    go zero e = omega arith
    go (suc zero) e = omega (arith, sym (bit-zero t) ∙ h.at 0 (bit-zero s ∙ e))
    go (suc (suc b)) e = omega (arith, mod-lt s (zero-lt-suc 1))

-- a set with a subset that is not empty is not empty
pub sub-pos : {s t : ℕ} → Sub s t → 0 < s → 0 < t
sub-pos {s} {t} h l = go t h
  where
    go : (x : ℕ) → Sub s x → 0 < x
    go zero k = absurd (let m = some s (λ e. omega arith) in not-in-none m.0 (k.at m.0 m.1))
    go (suc x) k = suc-le-suc zero-le

-- sets with the same members are equal
pub sub-antisym : (s t : ℕ) → Sub s t → Sub t s → s ≡ t
sub-antisym = bin_ind (λ (s : ℕ). (t : ℕ) → Sub s t → Sub t s → s ≡ t)
    (λ t h k. go t k)
    (λ s ih t h k. omega (arith, ih (t / 2) (sub-half h) (sub-half k), sub_low h, sub_low k))
  where
    go : (t : ℕ) → Sub t 0 → 0 ≡ t
    go zero k = refl
    go (suc t) k = absurd (let p : 0 < 0 = sub-pos k (suc-le-suc zero-le) in omega arith)

pub ext : (s t : ℕ) → ((u : ℕ) → In s u → In t u) → ((u : ℕ) → In t u → In s u) → s ≡ t
ext s t f g = sub-antisym s t (record { at = f }) (record { at = g })

-- a set and the empty one together
pub union-none : (s : ℕ) → union s 0 ≡ s
union-none s = ext _ s (λ u i. go u (of-union s 0 u i)) (in-union-left s 0)
  where
    go : (u : ℕ) → In s u ⊎ In 0 u → In s u
    go u (inl i) = i
    go u (inr i) = absurd (not-in-none u i)

-- a set without the empty one, and the empty one without a set
pub difference-none : (s : ℕ) → difference s 0 ≡ s
unfolding difference
difference-none s = omega (arith, and_zero_r s)

pub none-difference : (s : ℕ) → difference 0 s ≡ 0
unfolding difference
none-difference s = omega arith

-- the symmetric difference with the same set twice changes nothing
pub symmetric-twice : (s t : ℕ) → symmetric_difference (symmetric_difference s t) t ≡ s
unfolding symmetric_difference
symmetric-twice s t = ext _ _
    (λ u i. omega (arith, bit-xor u (bit_xor s t) t, bit-xor u s t, bit-lt s u, bit-lt t u))
    (λ u i. omega (arith, bit-xor u (bit_xor s t) t, bit-xor u s t, bit-lt t u))

-- the numbers below n + 1 that pass a test are those below n, with n where it passes
module _ (n : ℕ) (p : ℕ → Bool) where
  set-grows : (u : ℕ) → In (set_of n p) u → In (set_of (n + 1) p) u
  set-grows u i = in-set (n + 1) p u (omega (arith, of-set-lt n p u i)) (of-set n p u i)

  set_split : (u : ℕ) → In (set_of (n + 1) p) u → In (set_of n p) u ⊎ (u ≡ n)
  set_split u i = go (ℕ_discrete u n)
    where
      go : Dec (u ≡ n) → In (set_of n p) u ⊎ (u ≡ n)
      go (yes e) = inr e
      go (no f) = inl (in-set n p u (omega (arith, of-set-lt (n + 1) p u i)) (of-set (n + 1) p u i))

  pub set-yes : p n ≡ true → union (set_of n p) (only n) ≡ set_of (n + 1) p
  set-yes e = ext _ _ (λ u i. to u (of-union _ _ u i)) (λ u i. back u (set_split u i))
    where
      to : (u : ℕ) → In (set_of n p) u ⊎ In (only n) u → In (set_of (n + 1) p) u
      to u (inl i) = set-grows u i
      to u (inr i) = let f : u ≡ n = of-only n u i in rw f (in-set (n + 1) p n (omega arith) e)

      back : (u : ℕ) → In (set_of n p) u ⊎ (u ≡ n) → In (union (set_of n p) (only n)) u
      back u (inl i) = in-union-left _ _ u i
      back u (inr f) = rw f (in-union-right (set_of n p) (only n) n (in-only n))

  pub set-no : p n ≡ false → set_of n p ≡ set_of (n + 1) p
  set-no e = ext _ _ set-grows (λ u i. back u i (set_split u i))
    where
      back : (u : ℕ) → In (set_of (n + 1) p) u → In (set_of n p) u ⊎ (u ≡ n) → In (set_of n p) u
      back u i (inl j) = j
      back u i (inr f) = absurd (clash (of-set (n + 1) p u i) (rw f e))

-- the tests for members of a union and of an intersection
pub has-union : (s t u : ℕ) → has (union s t) u ≡ (has s u or has t u)
has-union s t u = same_test _ _ (λ e. to (of-union s t u (in-test _ u e))) (λ e. back (or-of _ _ e))
  where
    to : In s u ⊎ In t u → (has s u or has t u) ≡ true
    to (inl i) = or_left _ _ (has-test s u i)
    to (inr i) = or_right _ _ (has-test t u i)

    back : (has s u ≡ true) ⊎ (has t u ≡ true) → has (union s t) u ≡ true
    back (inl e) = has-test _ u (in-union-left s t u (in-test s u e))
    back (inr e) = has-test _ u (in-union-right s t u (in-test t u e))

pub has-intersection : (s t u : ℕ) → has (intersection s t) u ≡ (has s u and has t u)
has-intersection s t u = same_test _ _
    (λ e. let i = in-test _ u e in and_in _ _ (has-test s u (of-intersection-left s t u i)) (has-test t u (of-intersection-right s t u i)))
    (λ e. has-test _ u (in-intersection s t u (in-test s u (and_left _ _ e)) (in-test t u (and_right _ _ e))))

-- the test for a subset passes exactly when every member is a member of the other set
pub is-sub-in : {s t : ℕ} → Sub s t → is_sub s t ≡ true
unfolding is_sub intersection
is-sub-in {s} {t} h = eq-eqb _ _ (ext (intersection s t) s (of-intersection-left s t) (λ u i. in-intersection s t u i (h.at u i)))

pub is-sub-of : (s t : ℕ) → is_sub s t ≡ true → Sub s t
unfolding is_sub intersection
is-sub-of s t e = record { at = λ u i. let f : intersection s t ≡ s = eqb-true _ _ e in of-intersection-right s t u (rw f i) }

-- the set of all badges below n is 2 ^ n - 1; its members are the badges below n; a set below 2 ^ n is a subset of it
pub full-lt : (n : ℕ) → full n < 2 ^ n
unfolding full
full-lt n = set-lt n (λ u. true)

pub full-suc : (n : ℕ) → suc (full n) ≡ 2 ^ n
unfolding full set_of
full-suc zero = refl
full-suc (suc n) = rw pow-suc (omega (arith, full-suc n))

pub in-full : (n u : ℕ) → u < n → In (full n) u
unfolding full
in-full n u h = in-set n (λ u. true) u h refl

pub of-full : (n u : ℕ) → In (full n) u → u < n
of-full n u i = in-lt n (full n) u (full-lt n) i

-- inserting a badge below the capacity is a union with that badge alone; inserting any other changes nothing
pub insert-in : (s u : ℕ) → u < capacity → insert s u ≡ union s (only u)
unfolding insert
insert-in s u h = rw (lt-ltb u capacity h, insert)

pub insert-out : (s u : ℕ) → capacity ≤ u → insert s u ≡ s
unfolding insert
insert-out s u h = rw (le-ltb u capacity h, insert)
