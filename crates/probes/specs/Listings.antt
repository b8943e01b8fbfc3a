-- What the probes of the listing answer and leave, by the definitions of prepare and lines.
use Rattle.std.specs.Prelude.{List, [], ◌∷◌, ℕ}
use Rattle.records.specs.Outcomes.{Outcome, refused, success}
use Rattle.text.specs.Calls.{Prepared, prepare_of, shown_lines}
use Rattle.text.specs.Pieces.{Piece, piece_of}

-- five numbers: the refusal's number and offset, or 0 and 0 and the number of the report's bytes; then the place of the next line, and the number
-- of the piece's bytes
unfoldable pub listing_answer : Outcome ℕ → ℕ → ℕ → List ℕ
listing_answer (refused number offset) next bytes = number ∷ offset ∷ 0 ∷ next ∷ bytes ∷ []
listing_answer (success size) next bytes = 0 ∷ 0 ∷ size ∷ next ∷ bytes ∷ []

-- a piece of the lines that an answer to prepare shows with the report that it left: the five numbers, and the buffer
pub record Shown : Type 0 where
  pub answer : List ℕ
  pub out : List ℕ

unfoldable pub shown_of : Outcome ℕ → Piece → Shown
shown_of outcome piece = record { answer = listing_answer outcome piece.next piece.bytes; out = piece.buffer }

unfoldable pub lines_of : ℕ → List ℕ → ℕ → List ℕ → Shown
lines_of size report from out = shown_of (success size) (piece_of (shown_lines (success size) report) from out)

-- the same of a log, with the words and the report that prepare left
pub record Listed : Type 0 where
  pub answer : List ℕ
  pub words : List ℕ
  pub report : List ℕ
  pub out : List ℕ

unfoldable pub listed : Prepared → ℕ → List ℕ → Listed
listed p from out =
    let shown : Shown = shown_of p.answer (piece_of (shown_lines p.answer p.report) from out) in
    record { answer = shown.answer; words = p.words; report = p.report; out = shown.out }

unfoldable pub listed_of : List ℕ → List ℕ → List ℕ → ℕ → List ℕ → Listed
listed_of log words report from out = listed (prepare_of log words report) from out
