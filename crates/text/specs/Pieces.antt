-- Lines in pieces: each piece is as many whole lines, from a place on, as a buffer holds.
use Rattle.std.specs.Prelude.{true, false, List, [], ◌∷◌, ◌++◌, ℕ, suc, ◌+◌, ◌-◌, leb, length, take, drop}
use Rattle.text.specs.Listing.{joined}

-- how many lines in front fit in so many bytes, whole, and the bytes of these
unfoldable pub lines_in : ℕ → List (List ℕ) → ℕ
lines_in room [] = 0
lines_in room (l ∷ ls) = elim (leb (length l) room) [ true ↦ suc (lines_in (room - length l) ls) | false ↦ 0 ]

unfoldable pub bytes_in : ℕ → List (List ℕ) → List ℕ
bytes_in room ls = joined (take (lines_in room ls) ls)

-- a piece: the place of the next line, the number of bytes written, and the buffer, which stays as it is after them
pub record Piece : Type 0 where
  pub next : ℕ
  pub bytes : ℕ
  pub buffer : List ℕ

unfoldable pub piece_of : List (List ℕ) → ℕ → List ℕ → Piece
piece_of ls from buffer = record {
  next = from + lines_in (length buffer) (drop from ls);
  bytes = length (bytes_in (length buffer) (drop from ls));
  buffer = bytes_in (length buffer) (drop from ls) ++ drop (length (bytes_in (length buffer) (drop from ls))) buffer;
}

-- the bytes of successive pieces, end to end: each starts where the one before it came to, and the list has the buffers
unfoldable pub pieces : List (List ℕ) → ℕ → List (List ℕ) → List ℕ
pieces ls from [] = []
pieces ls from (buffer ∷ buffers) = let piece : Piece = piece_of ls from buffer in take piece.bytes piece.buffer ++ pieces ls piece.next buffers
