-- Laws of how many logs have a contact.
use mathlib.Core.Path.{◌≡◌, refl, ap₂}
use mathlib.Core.Bool.{Bool, true, false}
use mathlib.Core.List.{List, [], ◌∷◌, Memᴰ}
use Prim.Native.Nat.{ℕ, ◌+◌, ◌≤◌}
use native.Mathlib.Omega.{arith}
use Rattle.sets.specs.Sets.{digit}
use Rattle.sets.proofs.Bools.{same_test}
use Rattle.records.specs.declared.record.Record.{Record}
use Rattle.records.specs.Meaning.{in_contact}
use Rattle.records.proofs.Meaning.{contact-swap}
use Rattle.receivers.specs.Joining.{heard_by}

-- a number of 1 or more comes of a log that has the contact
pub heard-some : (all : List (List Record)) (t u v : ℕ) → 1 ≤ heard_by all t u v → (rs : List Record) × Memᴰ rs all × (in_contact rs t u v ≡ true)
unfolding heard_by
heard-some [] t u v h = absurd (omega arith)
heard-some (rs ∷ all) t u v h = go (in_contact rs t u v) refl (heard-some all t u v)
  where
    go : (b : Bool) → in_contact rs t u v ≡ b → (1 ≤ heard_by all t u v → (x : List Record) × Memᴰ x all × (in_contact x t u v ≡ true)) → (x : List Record) × Memᴰ x (rs ∷ all) × (in_contact x t u v ≡ true)
    go true e ih = (rs, Memᴰ.head refl, e)
    go false e ih = let k : 1 ≤ 0 + heard_by all t u v = rw e at h in let s = ih (omega arith) in (s.0, Memᴰ.tail s.1, s.2)

-- it is the same for a pair in either order
pub heard-swap : (all : List (List Record)) (t u v : ℕ) → heard_by all t u v ≡ heard_by all t v u
unfolding heard_by
heard-swap [] t u v = refl
heard-swap (rs ∷ all) t u v = ap₂ (λ (b : Bool) (k : ℕ). digit b + k) (same_test _ _ (contact-swap rs t u v) (contact-swap rs t v u)) (heard-swap all t u v)
