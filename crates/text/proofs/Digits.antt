-- Laws of decimal digits: a number of one digit, one digit more, how many digits a number has, and that std prints the same.
use mathlib.Core.Path.{◌≡◌, refl, sym, ap, ◌∙◌}
use mathlib.Core.Bool.{Bool, true, false}
use mathlib.Core.List.{List, [], ◌∷◌, ◌++◌}
use Prim.Native.Nat.{ℕ, zero, suc, ◌/◌, ◌%◌, ◌^◌, ◌≤◌, ◌<◌}
use native.Mathlib.Omega.{arith}
use lib.Dec.{ltb}
use lib.ListN.{length, length-append}
use borrow.Author.Tests.{lt-ltb, le-ltb, ltb-true, ltb-false}
use Rattle.std.specs.Fmt.{decimal as printed}
use Rattle.std.proofs.lemmas.Fmt.{decimal_by_steps}
use Rattle.text.specs.Decimal.{digit, decimal_in, decimal}

-- the digits by whether there is one or more
in_one : (most n : ℕ) → n < 10 → decimal_in (suc most) n ≡ digit n ∷ []
unfolding decimal_in
in_one most n h = rw (decimal_in, lt-ltb n 10 h)

in-more : (most n : ℕ) → 10 ≤ n → decimal_in (suc most) n ≡ decimal_in most (n / 10) ++ digit (n % 10) ∷ []
unfolding decimal_in
in-more most n h = rw (decimal_in, le-ltb n 10 h)

-- they are the same whatever is allowed, if it is more than the number
in-same : (i j n : ℕ) → n < i → n < j → decimal_in i n ≡ decimal_in j n
in-same zero j n h k = absurd (omega arith)
in-same (suc i) zero n h k = absurd (omega arith)
in-same (suc i) (suc j) n h k = go (ltb n 10) refl (in-same i j (n / 10))
  where
    go : (b : Bool) → ltb n 10 ≡ b → (n / 10 < i → n / 10 < j → decimal_in i (n / 10) ≡ decimal_in j (n / 10)) → decimal_in (suc i) n ≡ decimal_in (suc j) n
    go true e ih = let l : n < 10 = ltb-true n 10 e in rw (in_one i n l, in_one j n l)
    go false e ih = let l : 10 ≤ n = ltb-false n 10 e in rw (in-more i n l, in-more j n l, ih (omega arith) (omega arith))

pub decimal-one : (n : ℕ) → n < 10 → decimal n ≡ digit n ∷ []
unfolding decimal
decimal-one n h = in_one n n h

pub decimal-more : (n : ℕ) → 10 ≤ n → decimal n ≡ decimal (n / 10) ++ digit (n % 10) ∷ []
unfolding decimal
decimal-more n h = rw (in-more n n h, in-same n (suc (n / 10)) (n / 10) (omega arith) (omega arith))

-- a number below 10 ^ k has at most k digits, k at least 1
pub decimal-short : (k n : ℕ) → n < 10 ^ suc k → length (decimal n) ≤ suc k
decimal-short zero n h = rw (decimal-one n (omega arith)) (omega arith)
decimal-short (suc k) n h = go (ltb n 10) refl (decimal-short k (n / 10))
  where
    go : (b : Bool) → ltb n 10 ≡ b → (n / 10 < 10 ^ suc k → length (decimal (n / 10)) ≤ suc k) → length (decimal n) ≤ suc (suc k)
    go true e ih = rw (decimal-one n (ltb-true n 10 e)) (omega arith)
    go false e ih = rw (decimal-more n (ltb-false n 10 e)) (omega (arith, length-append (decimal (n / 10)) (digit (n % 10) ∷ []), ih (omega arith)))

-- std prints the same digits
pub decimal-printed : (n : ℕ) → n < 2 ^ 64 → printed n ≡ decimal n
decimal-printed n h = decimal_by_steps (λ (k : ℕ) (ds : List ℕ). ds ≡ decimal k)
    (λ k l. sym (decimal-one k l))
    (λ k ds l e. ap (λ (x : List ℕ). x ++ digit (k % 10) ∷ []) e ∙ sym (decimal-more k l))
    n h
