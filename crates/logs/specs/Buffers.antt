-- Bytes that a call puts into a buffer that is lent.
use Rattle.std.specs.Prelude.{true, false, List, ◌++◌, ℕ, ◌+◌, leb, ltb, length, take, drop}
use Rattle.records.specs.Outcomes.{Outcome, refused, success}

-- what a call that fills a result buffer answers, the number of bytes written, and the buffer that it leaves
pub record Delivered : Type 0 where
  pub answer : Outcome ℕ
  pub buffer : List ℕ

-- An answer in bytes, put into the buffer. "9: the result buffer is shorter than the exact answer." "A refused call changes no lent
-- byte." "On success a result buffer beyond the answer is unchanged."
unfoldable pub deliver : Outcome (List ℕ) → List ℕ → Delivered
deliver (refused number offset) buffer = record { answer = refused number offset; buffer = buffer }
deliver (success bytes) buffer = elim (ltb (length buffer) (length bytes)) [
  | true ↦ record { answer = refused 9 0; buffer = buffer }
  | false ↦ record { answer = success (length bytes); buffer = bytes ++ drop (length bytes) buffer }
]

-- bytes laid over a buffer from an offset on
unfoldable pub overwrite : ℕ → List ℕ → List ℕ → List ℕ
overwrite at bytes buffer = take at buffer ++ (bytes ++ drop (at + length bytes) buffer)

-- the same where the buffer holds them there, and the buffer as it is where it does not
unfoldable pub place : ℕ → List ℕ → List ℕ → List ℕ
place at bytes buffer = elim (leb (at + length bytes) (length buffer)) [ true ↦ overwrite at bytes buffer | false ↦ buffer ]
