-- Laws of lengths that add up, and of the test for refusal 18.
use mathlib.Core.Path.{◌≡◌}
use mathlib.Core.Bool.{true, false}
use mathlib.Core.List.{List}
use Prim.Native.Nat.{ℕ, ◌+◌, ◌≤◌, ◌<◌}
use native.Mathlib.Numerals.{add-one}
use native.Mathlib.Omega.{arith}
use lib.Dec.{eqb}
use lib.ListN.{length, get_or, drop, drop_of_length-le}
use lib.Seq.{drop-cons}
use borrow.Author.Tests.{leb-true, le-leb, eqb-true, eq-eqb, ne_eqb}
use Rattle.sets.proofs.Bools.{same_test, to-false, and_in, and_left, and_right}
use Rattle.receivers.specs.Joining.{min_logs, max_logs, sum, Joinable, joinable}

-- the sum from a place on is the length there and the sum after it, and 0 at the end
pub sum-at : (ls : List ℕ) (i : ℕ) → i < length ls → sum (drop i ls) ≡ get_or ls i 0 + sum (drop (i + 1) ls)
unfolding sum
sum-at ls i h = rw (add-one, drop-cons ls i 0 h)

pub sum-end : (ls : List ℕ) (i : ℕ) → length ls ≤ i → sum (drop i ls) ≡ 0
unfolding sum
sum-end ls i h = rw (drop_of_length-le ls h)

-- Lengths up to a place are taken off a number of bytes; so much is left.
pub record TakenOff (ls : List ℕ) (bytes left i : ℕ) : Type 0 where
  pub inside : i ≤ length ls
  pub balance : sum ls + left ≡ bytes + sum (drop i ls)

pub taken_more : {ls : List ℕ} {bytes left left' i : ℕ} → TakenOff ls bytes left i → i < length ls → left ≡ left' + get_or ls i 0 → TakenOff ls bytes left' (i + 1)
taken_more {ls} {bytes} {left} {left'} {i} t h e = record { inside = omega arith; balance = omega (arith, t.balance, sum-at ls i h) }

-- a length that is more than what is left shows that they do not add up; at the end they do where nothing is left
pub taken-short : {ls : List ℕ} {bytes left i : ℕ} → TakenOff ls bytes left i → i < length ls → left < get_or ls i 0 → eqb (sum ls) bytes ≡ false
taken-short {ls} {bytes} {left} {i} t h l = ne_eqb (sum ls) bytes (λ e. omega (arith, t.balance, sum-at ls i h))

pub taken-done : {ls : List ℕ} {bytes left i : ℕ} → TakenOff ls bytes left i → length ls ≤ i → eqb left 0 ≡ eqb (sum ls) bytes
taken-done {ls} {bytes} {left} {i} t h =
    same_test _ _
    (λ e. eq-eqb (sum ls) bytes (omega (arith, t.balance, sum-end ls i h, eqb-true left 0 e)))
    (λ e. eq-eqb left 0 (omega (arith, t.balance, sum-end ls i h, eqb-true (sum ls) bytes e)))

-- the test for 18 passes exactly where the facts hold
pub joinable-of : (bytes : ℕ) (ls : List ℕ) (q : ℕ) → joinable bytes ls q ≡ true → Joinable bytes ls q
unfolding joinable
joinable-of bytes ls q e =
    let d = and_left _ _ e in
    let c = and_left _ _ d in
    let b = and_left _ _ c in
    record {
      several = leb-true min_logs (length ls) (and_left _ _ b);
      few = leb-true (length ls) max_logs (and_right _ _ b);
      some = leb-true 1 q (and_right _ _ c);
      most = leb-true q (length ls) (and_right _ _ d);
      whole = eqb-true (sum ls) bytes (and_right _ _ e);
    }

pub joinable-in : (bytes : ℕ) (ls : List ℕ) (q : ℕ) → Joinable bytes ls q → joinable bytes ls q ≡ true
unfolding joinable
joinable-in bytes ls q j =
    and_in _ _ (and_in _ _ (and_in _ _ (and_in _ _ (le-leb _ _ j.several) (le-leb _ _ j.few)) (le-leb _ _ j.some)) (le-leb _ _ j.most)) (eq-eqb _ _ j.whole)

pub joinable-not : (bytes : ℕ) (ls : List ℕ) (q : ℕ) → (Joinable bytes ls q → ⊥) → joinable bytes ls q ≡ false
joinable-not bytes ls q f = to-false _ (λ e. f (joinable-of bytes ls q e))

-- where the numbers are within their limits, the sum decides
pub joinable-sum : (bytes : ℕ) (ls : List ℕ) (q : ℕ) → min_logs ≤ length ls → length ls ≤ max_logs → 1 ≤ q → q ≤ length ls → eqb (sum ls) bytes ≡ joinable bytes ls q
joinable-sum bytes ls q a b c d = same_test _ _
    (λ e. joinable-in bytes ls q (record { several = a; few = b; some = c; most = d; whole = eqb-true _ _ e }))
    (λ e. eq-eqb _ _ (joinable-of bytes ls q e).whole)

-- each answer of the test is found by these
pub ruleset eighteen = (joinable-not, joinable-sum)
