-- Laws of bytes that are laid over a buffer, and of an answer that is put into the buffer that is lent.
use mathlib.Core.Path.{◌≡◌, refl, sym, ap, ap₂, ◌∙◌}
use mathlib.Core.List.{List, ◌++◌, append_assoc}
use Prim.Native.Nat.{ℕ, ◌+◌, ◌≤◌, ◌<◌}
use native.Mathlib.Nat.{zero-add}
use native.Mathlib.Decide.{dec_lt}
use native.Mathlib.Omega.{arith}
use lib.ListN.{length, take, drop}
use lib.Seq.{paste, take-length, take_at, take-paste, length-paste, drop-paste}
use borrow.Author.Tests.{lt-ltb, le-ltb, le-leb, lt-leb}
use Rattle.records.specs.Limits.{words_for}
use Rattle.records.specs.Outcomes.{Outcome, refused, success, and_then}
use Rattle.records.proofs.Outcomes.{refused-success, success-same}
use Rattle.days.specs.Calls.{check_of}
use Rattle.days.proofs.Checks.{check-rest}
use Rattle.logs.specs.Buffers.{Delivered, deliver, overwrite, place}

-- bytes laid over a buffer are a copy of all of them
pub overwrite-paste : (at : ℕ) (bytes buffer : List ℕ) → overwrite at bytes buffer ≡ paste buffer at bytes (length bytes)
unfolding overwrite
overwrite-paste at bytes buffer = rw (take-length bytes) (sym (append_assoc (take at buffer) bytes (drop (at + length bytes) buffer)))

-- bytes laid over a buffer from its start on
pub overwrite-front : (bytes buffer : List ℕ) → overwrite 0 bytes buffer ≡ bytes ++ drop (length bytes) buffer
unfolding overwrite
overwrite-front bytes buffer = rw (zero-add (length bytes))

-- bytes that the buffer holds from an offset on are laid over it, and those that it does not hold leave it as it is
pub place-fits : (at : ℕ) (bytes buffer : List ℕ) → at + length bytes ≤ length buffer → place at bytes buffer ≡ overwrite at bytes buffer
unfolding place
place-fits at bytes buffer h = rw (place, le-leb (at + length bytes) (length buffer) h)

pub place-not : (at : ℕ) (bytes buffer : List ℕ) → length buffer < at + length bytes → place at bytes buffer ≡ buffer
unfolding place
place-not at bytes buffer h = rw (place, lt-leb (at + length bytes) (length buffer) h)

-- the front of a buffer that holds them, up to their end
pub take-place : (at : ℕ) (bytes buffer : List ℕ) → at + length bytes ≤ length buffer → take (at + length bytes) (place at bytes buffer) ≡ take at buffer ++ bytes
take-place at bytes buffer h =
    rw (place-fits at bytes buffer h, overwrite-paste at bytes buffer)
    (take-paste buffer at bytes (length bytes) (omega arith) (omega arith) ∙ ap (λ (s : List ℕ). take at buffer ++ s) (take-length bytes))

-- it is as long as before, and what follows them is as it was
pub length-place : (at : ℕ) (bytes buffer : List ℕ) → at + length bytes ≤ length buffer → length (place at bytes buffer) ≡ length buffer
length-place at bytes buffer h = rw (place-fits at bytes buffer h, overwrite-paste at bytes buffer) (length-paste buffer at bytes (length bytes) h (omega arith))

pub drop-place : (at : ℕ) (bytes buffer : List ℕ) → at + length bytes ≤ length buffer → drop (at + length bytes) (place at bytes buffer) ≡ drop (at + length bytes) buffer
drop-place at bytes buffer h = rw (place-fits at bytes buffer h, overwrite-paste at bytes buffer) (drop-paste buffer at bytes (length bytes) (omega arith) (omega arith))

-- what is judged before an answer: a refusal is delivered as it is, and the answer follows where there is none
module _ {A : Type 0} (o : Outcome A) (further : A → Outcome (List ℕ)) (buffer : List ℕ) where
  pub deliver-refused : (number offset : ℕ) → o ≡ refused number offset → deliver (and_then o further) buffer ≡ record { answer = refused number offset; buffer = buffer }
  unfolding and_then deliver
  deliver-refused number offset e = rw e

  pub deliver-passed : (a : A) → o ≡ success a → deliver (and_then o further) buffer ≡ deliver (further a) buffer
  unfolding and_then
  deliver-passed a e = rw e

-- what is judged after the check of words: words after the first 2×n×T make no difference to the call where they make none to this
pub deliver-rest : (n T : ℕ) (ws xs ys buffer : List ℕ) {o p : Outcome (List ℕ)} → length ws ≡ words_for n T → o ≡ p
    → deliver (and_then (check_of n T (ws ++ xs)) (λ x. o)) buffer ≡ deliver (and_then (check_of n T (ws ++ ys)) (λ x. p)) buffer
deliver-rest n T ws xs ys buffer e f = ap₂ (λ (c : Outcome (Unit {0})) (o : Outcome (List ℕ)). deliver (and_then c (λ x. o)) buffer) (check-rest n T ws xs ys e) f

-- what a refusal leaves
pub leaves-refused : {o : Outcome (List ℕ)} {number offset : ℕ} (buffer : List ℕ) → o ≡ refused number offset
    → (refused number offset ≡ (deliver o buffer).answer) × (buffer ≡ (deliver o buffer).buffer)
unfolding deliver
leaves-refused buffer e = (sym (ap (λ (o : Outcome (List ℕ)). (deliver o buffer).answer) e), sym (ap (λ (o : Outcome (List ℕ)). (deliver o buffer).buffer) e))

-- a buffer that is too short for an answer, and one that holds it
module _ (bytes buffer : List ℕ) where
  pub deliver-short : length buffer < length bytes → deliver (success bytes) buffer ≡ record { answer = refused 9 0; buffer = buffer }
  unfolding deliver
  deliver-short h = rw (deliver, lt-ltb (length buffer) (length bytes) h)

  pub deliver-fits : length bytes ≤ length buffer → deliver (success bytes) buffer ≡ record { answer = success (length bytes); buffer = bytes ++ drop (length bytes) buffer }
  unfolding deliver
  deliver-fits h = rw (deliver, le-ltb (length buffer) (length bytes) h)

-- both, and what then stands in the buffer, by which each answer is found
pub ruleset delivers = (deliver-short, deliver-fits, place-fits, overwrite-front)

-- where a size was answered, there were bytes to deliver, and they are the first so many of the buffer
pub deliver-success : (o : Outcome (List ℕ)) (buffer : List ℕ) (size : ℕ) → (deliver o buffer).answer ≡ success size
    → (bytes : List ℕ) × (o ≡ success bytes) × (take size (deliver o buffer).buffer ≡ bytes)
unfolding deliver
deliver-success (refused number offset) buffer size e = absurd (refused-success e)
deliver-success (success bytes) buffer size e = (bytes, refl, fits (dec_lt (length buffer) (length bytes)))
  where
    answer : {x : Delivered} → deliver (success bytes) buffer ≡ x → x.answer ≡ success size
    answer g = sym (ap (λ (d : Delivered). d.answer) g) ∙ e

    fits : Dec (length buffer < length bytes) → take size (deliver (success bytes) buffer).buffer ≡ bytes
    fits (yes h) = absurd (refused-success (answer (deliver-short bytes buffer h)))
    fits (no h) =
        let g = deliver-fits bytes buffer (omega arith) in
        ap (λ (d : Delivered). take size d.buffer) g ∙ take_at bytes (drop (length bytes) buffer) size (success-same (answer g))
