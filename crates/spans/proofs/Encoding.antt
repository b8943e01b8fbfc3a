-- Laws of records in bytes: as many each as their sets ask for, one after the other.
use mathlib.Core.Path.{◌≡◌, refl, sym}
use mathlib.Core.List.{List, [], ◌∷◌, ◌++◌, append_assoc}
use Prim.Native.Nat.{ℕ, suc, ◌*◌, ◌≤◌}
use native.Mathlib.Nat.{mul-zero, mul-suc}
use native.Mathlib.Omega.{arith}
use lib.ListN.{length, take, length-append}
use Rattle.sets.specs.Bytes.{little_endian}
use Rattle.sets.proofs.Bytes.{length-little-endian, take-little-endian}
use Rattle.spans.specs.SpanCores.{SpanCore}
use Rattle.spans.specs.Encoding.{core_bytes, encode_core, encode_cores}

module _ (w : ℕ) (mark : List ℕ) where
  -- the length of a record, and of records one after the other
  pub encode-core-length : length mark ≡ 2 → (c : SpanCore) → length (encode_core w mark c) ≡ core_bytes w
  unfolding encode_core
  encode-core-length two c = omega (arith, length-append mark (c.order ∷ c.first ∷ c.last ∷ little_endian w c.members), length-little-endian w c.members)

  pub encode-cores-length : length mark ≡ 2 → (cs : List SpanCore) → length (encode_cores w mark cs) ≡ core_bytes w * length cs
  unfolding encode_cores
  encode-cores-length two [] = sym (mul-zero (core_bytes w))
  encode-cores-length two (c ∷ cs) =
      omega (arith, length-append (encode_core w mark c) (encode_cores w mark cs), encode-core-length two c, encode-cores-length two cs, mul-suc (core_bytes w) (length cs))

  pub encode-cores-append : (xs ys : List SpanCore) → encode_cores w mark (xs ++ ys) ≡ encode_cores w mark xs ++ encode_cores w mark ys
  unfolding encode_cores
  encode-cores-append [] ys = refl
  encode-cores-append (x ∷ xs) ys = rw (encode-cores-append xs ys, append_assoc)

-- a record with a shorter set is the start of one with a longer set
pub encode-core-take : (v w : ℕ) (mark : List ℕ) → length mark ≡ 2 → v ≤ w → (c : SpanCore) → take (core_bytes v) (encode_core w mark c) ≡ encode_core v mark c
unfolding encode_core
encode-core-take v w [] two h c = absurd (omega arith)
encode-core-take v w (a ∷ []) two h c = absurd (omega arith)
encode-core-take v w (a ∷ b ∷ d ∷ mark) two h c = absurd (omega arith)
encode-core-take v w (a ∷ b ∷ []) two h c =
    let e : core_bytes v ≡ suc (suc (suc (suc (suc v)))) = omega arith in
    rw (e, take-little-endian v w c.members h)
