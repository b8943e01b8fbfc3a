-- Substitutes for core numbers that document 01's acceptance list names, each refuted from the promise that the call keeps (specs/CoreNumbers).
use mathlib.Core.Path.{◌≡◌, sym, ap, ◌∙◌}
use mathlib.Core.List.{List, [], ◌∷◌, ◌++◌}
use Prim.Native.Nat.{ℕ, ◌≤◌}
use native.Mathlib.Omega.{arith}
use lib.ListN.{length, get_or, replicate, drop}
use Rattle.sets.specs.Sets.{size, full}
use Rattle.sets.specs.Tables.{tabulate}
use Rattle.records.specs.Outcomes.{Outcome}
use Rattle.logs.specs.Buffers.{Delivered}
use Rattle.spans.specs.Spans.{SpanOfDay, span_neighbours}
use Rattle.spans.specs.Reviews.{Review}
use Rattle.spans.proofs.Reviews.{all-reviewed}
use Rattle.groups.specs.Calls.{core_numbers_of}
use Rattle.promises.specs.CoreNumbers.{GivesCoreNumbers}
use Rattle.promises.proofs.NumberTheorems.{gives-core-numbers}
use Rattle.promises.specs.D1.{d1_words}
use Rattle.promises.proofs.SmallDays.{computing, still, d1-lent, still-lent}

-- The promise leaves no choice: on every span of a day, lent enough, a call that keeps it does what ours does.
pub promised-numbers : (call : ℕ → ℕ → List ℕ → ℕ → ℕ → ℕ → List ℕ → Delivered) → GivesCoreNumbers call
    → (n T : ℕ) (ws : List ℕ) (base first last : ℕ) (buffer : List ℕ) → SpanOfDay n T ws first last → Review n base → n ≤ length buffer
    → call n T ws base first last buffer ≡ core_numbers_of n T ws base first last buffer
promised-numbers call p n T ws base first last buffer d r h =
    let x = gives-core-numbers.exist n T ws base first last d r in
    p.succeeds n T ws base first last buffer x.0 d r x.1 h ∙ sym (gives-core-numbers.succeeds n T ws base first last buffer x.0 d r x.1 h)

-- a span of D1, and of a day without contacts
pub d1-span : SpanOfDay 4 3 d1_words 0 1
d1-span = record { lent = d1-lent; rising = omega arith; inside = omega arith }

still-span : SpanOfDay 4 3 still 0 1
still-span = record { lent = still-lent; rising = omega arith; inside = omega arith }

-- Numbers that the words do not decide, with whatever answer.
module _ (answer : ℕ → ℕ → List ℕ → ℕ → ℕ → ℕ → List ℕ → Outcome ℕ) (bytes : ℕ → ℕ → ℕ → ℕ → ℕ → List ℕ) where
  abbrev inventing : ℕ → ℕ → List ℕ → ℕ → ℕ → ℕ → List ℕ → Delivered
  inventing n T ws base first last buffer = record { answer = answer n T ws base first last buffer; buffer = bytes n T base first last ++ drop n buffer }

  pub numbers-without-words : GivesCoreNumbers inventing → ⊥
  unfolding computing
  numbers-without-words p =
      let lent : List ℕ = 0 ∷ 0 ∷ 0 ∷ 0 ∷ [] in
      let a : (inventing 4 3 d1_words (full 4) 0 1 lent).buffer ≡ 2 ∷ 2 ∷ 2 ∷ 1 ∷ [] = ap (λ (x : Delivered). x.buffer) (promised-numbers inventing p 4 3 d1_words (full 4) 0 1 lent d1-span (all-reviewed d1-lent) (omega arith)) in
      let b : (inventing 4 3 still (full 4) 0 1 lent).buffer ≡ 0 ∷ 0 ∷ 0 ∷ 0 ∷ [] = ap (λ (x : Delivered). x.buffer) (promised-numbers inventing p 4 3 still (full 4) 0 1 lent still-span (all-reviewed still-lent) (omega arith)) in
      let z : ◌≡◌ {A = ℕ} 2 0 = ap (λ (l : List ℕ). get_or l 0 0) (sym a ∙ b) in
      omega arith

-- All numbers 0.
pub numbers-all-zero : (answer : ℕ → ℕ → List ℕ → ℕ → ℕ → ℕ → List ℕ → Outcome ℕ)
    → GivesCoreNumbers (λ n T ws base first last buffer. record { answer = answer n T ws base first last buffer; buffer = replicate n 0 ++ drop n buffer }) → ⊥
numbers-all-zero answer p = numbers-without-words answer (λ n T base first last. replicate n 0) p

-- Each badge's degree on the span.
abbrev by_degree : (ℕ → ℕ → List ℕ → ℕ → ℕ → ℕ → List ℕ → Outcome ℕ) → ℕ → ℕ → List ℕ → ℕ → ℕ → ℕ → List ℕ → Delivered
by_degree answer n T ws base first last buffer =
    record { answer = answer n T ws base first last buffer; buffer = tabulate n (λ u. size (span_neighbours n ws first last u)) ++ drop n buffer }

pub numbers-by-degree : (answer : ℕ → ℕ → List ℕ → ℕ → ℕ → ℕ → List ℕ → Outcome ℕ) → GivesCoreNumbers (by_degree answer) → ⊥
unfolding computing
numbers-by-degree answer p =
    let lent : List ℕ = 0 ∷ 0 ∷ 0 ∷ 0 ∷ [] in
    let a : ◌≡◌ {A = List ℕ} (2 ∷ 2 ∷ 3 ∷ 1 ∷ []) (2 ∷ 2 ∷ 2 ∷ 1 ∷ []) = ap (λ (x : Delivered). x.buffer) (promised-numbers (by_degree answer) p 4 3 d1_words (full 4) 0 1 lent d1-span (all-reviewed d1-lent) (omega arith)) in
    let z : ◌≡◌ {A = ℕ} 3 2 = ap (λ (l : List ℕ). get_or l 2 0) a in
    omega arith
