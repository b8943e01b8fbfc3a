-- The answer of an exported call, five numbers that are written whole: a refusal's number and byte offset, and three zeros; or two zeros and
-- three values: the badges, the ticks and the number of CT records that read found, the badges and the ticks of a joined day and a zero, or
-- two zeros and the number of bytes written.
use Rattle.std.specs.Prelude.{List, [], ◌∷◌, ℕ}
use Rattle.records.specs.Outcomes.{Outcome, refused, success}
use Rattle.records.specs.Verdicts.{Values}
use Rattle.series.specs.Series.{Size}

abbrev pub refused_answer : ℕ → ℕ → List ℕ
refused_answer number offset = number ∷ offset ∷ 0 ∷ 0 ∷ 0 ∷ []

abbrev pub answer_of : {A : Type 0} → (A → List ℕ) → Outcome A → List ℕ
answer_of values (refused number offset) = refused_answer number offset
answer_of values (success a) = 0 ∷ 0 ∷ values a

abbrev pub read_answer : Outcome Values → List ℕ
read_answer o = answer_of (λ v. v.badges ∷ v.ticks ∷ v.contacts ∷ []) o

abbrev pub join_answer : Outcome Size → List ℕ
join_answer o = answer_of (λ s. s.badges ∷ s.ticks ∷ 0 ∷ []) o

abbrev pub written_answer : Outcome ℕ → List ℕ
written_answer o = answer_of (λ count. 0 ∷ 0 ∷ count ∷ []) o
