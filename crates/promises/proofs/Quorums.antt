-- Laws of "at least q of a list": of more, of fewer, of a list in another order; and that q logs or more have a contact exactly when the number of those
-- that have it is q or more.
use mathlib.Core.Path.{◌≡◌, refl, subst}
use mathlib.Core.Bool.{Bool, true, false}
use mathlib.Core.List.{List, [], ◌∷◌, map, Memᴰ, Permᴰ}
use Prim.Native.Nat.{ℕ, zero, suc, ◌+◌, ◌≤◌}
use native.Mathlib.Omega.{arith}
use lib.ListN.{length}
use Rattle.records.specs.declared.record.Record.{Record}
use Rattle.records.specs.Meaning.{in_contact}
use Rattle.records.specs.Logs.{log_records}
use Rattle.records.proofs.Theorems.{met-in, met_of}
use Rattle.receivers.specs.Joining.{heard_by}
use Rattle.promises.specs.Joining.{AtLeast, enough, counted, passed, MetBy}

module _ {A : Type 0} {P : A → Type 0} where
  -- where at least one of a list has a property, some element has it, and the reverse
  pub some_of : {q : ℕ} {xs : List A} → AtLeast P q xs → 1 ≤ q → (x : A) × Memᴰ x xs × P x
  some_of enough h = absurd (omega arith)
  some_of (counted {x = x} p r) h = (x, Memᴰ.head refl, p)
  some_of (passed r) h = let s = some_of r h in (s.0, Memᴰ.tail s.1, s.2)

  pub some_in : {x : A} {xs : List A} → Memᴰ x xs → P x → AtLeast P 1 xs
  some_in (Memᴰ.head e) p = counted (subst P e p) enough
  some_in (Memᴰ.tail m) p = passed (some_in m p)

  -- at least so many are at least fewer
  pub at-least-fewer : {q q' : ℕ} {xs : List A} → q ≤ q' → AtLeast P q' xs → AtLeast P q xs
  at-least-fewer {q = q} h r = go q r h
    where
      go : (m : ℕ) {l : ℕ} {ys : List A} → AtLeast P l ys → m ≤ l → AtLeast P m ys
      go zero s k = enough
      go (suc m) enough k = absurd (omega arith)
      go (suc m) (counted p s) k = counted p (go m s (omega arith))
      go (suc m) (passed s) k = passed (go (suc m) s k)

  -- of a list all of whose elements have a property, as many as there are
  pub at-least-all : (q : ℕ) (xs : List A) → q ≤ length xs → ((x : A) → Memᴰ x xs → P x) → AtLeast P q xs
  at-least-all zero xs h f = enough
  at-least-all (suc q) [] h f = absurd (omega arith)
  at-least-all (suc q) (x ∷ xs) h f = counted (f x (Memᴰ.head refl)) (at-least-all q xs (omega arith) (λ y m. f y (Memᴰ.tail m)))

  -- the order of the list makes no difference
  swapped : {q : ℕ} {a b a' b' : A} {xs : List A} → a ≡ b' → b ≡ a' → AtLeast P q (a ∷ b ∷ xs) → AtLeast P q (a' ∷ b' ∷ xs)
  swapped e f enough = enough
  swapped e f (counted p enough) = passed (counted (subst P e p) enough)
  swapped e f (counted p (counted s r)) = counted (subst P f s) (counted (subst P e p) r)
  swapped e f (counted p (passed r)) = passed (counted (subst P e p) r)
  swapped e f (passed enough) = enough
  swapped e f (passed (counted s r)) = counted (subst P f s) (passed r)
  swapped e f (passed (passed r)) = passed (passed r)

  kept : {q : ℕ} {a b : A} {xs ys : List A} → a ≡ b → ((m : ℕ) → AtLeast P m xs → AtLeast P m ys) → AtLeast P q (a ∷ xs) → AtLeast P q (b ∷ ys)
  kept e f enough = enough
  kept e f (counted p r) = counted (subst P e p) (f _ r)
  kept e f (passed r) = passed (f _ r)

  pub at-least-permuted : {q : ℕ} {xs ys : List A} → Permᴰ xs ys → AtLeast P q xs → AtLeast P q ys
  at-least-permuted Permᴰ.nil r = r
  at-least-permuted {q = q} (Permᴰ.cons e d) r = kept e (λ m s. at-least-permuted {q = m} d s) r
  at-least-permuted (Permᴰ.swap e f) r = swapped e f r
  at-least-permuted (Permᴰ.trans d d') r = at-least-permuted d' (at-least-permuted d r)

-- the number of logs that have a contact is q or more exactly when at least q of them have it
module _ (n T t u v : ℕ) where
  pub heard-in : {q : ℕ} {all : List (List Record)} → MetBy q all t u v → q ≤ heard_by (map (log_records n T) all) t u v
  unfolding heard_by
  heard-in enough = omega arith
  heard-in (counted {x = x} m r) = rw (met-in n T x t u v m) (omega (arith, heard-in r))
  heard-in (passed r) = omega (arith, heard-in r)

  pub heard-of : (q : ℕ) (all : List (List Record)) → q ≤ heard_by (map (log_records n T) all) t u v → MetBy q all t u v
  unfolding heard_by
  heard-of zero all h = enough
  heard-of (suc q) [] h = absurd (omega arith)
  heard-of (suc q) (cts ∷ all) h = go (in_contact (log_records n T cts) t u v) refl (heard-of q all) (heard-of (suc q) all)
    where
      go : (b : Bool) → in_contact (log_records n T cts) t u v ≡ b → (q ≤ heard_by (map (log_records n T) all) t u v → MetBy q all t u v)
          → (suc q ≤ heard_by (map (log_records n T) all) t u v → MetBy (suc q) all t u v) → MetBy (suc q) (cts ∷ all) t u v
      go true e one more = let k : suc q ≤ 1 + heard_by (map (log_records n T) all) t u v = rw e at h in counted (met_of n T cts t u v e) (one (omega arith))
      go false e one more = let k : suc q ≤ 0 + heard_by (map (log_records n T) all) t u v = rw e at h in passed (more (omega arith))
