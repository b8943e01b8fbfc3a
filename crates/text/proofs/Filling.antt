-- Laws of the loop that fills a buffer with whole lines.
use mathlib.Core.Path.{◌≡◌, refl, sym, ap, ◌∙◌}
use mathlib.Core.Bool.{Bool, true, false}
use mathlib.Core.List.{List, [], ◌∷◌, ◌++◌, append_assoc, append-nil}
use Prim.Native.Nat.{ℕ, suc, ◌+◌, ◌-◌, ◌≤◌, ◌<◌}
use native.Mathlib.Numerals.{add-one}
use native.Mathlib.Omega.{arith}
use lib.Dec.{leb}
use lib.ListN.{length, get_or, take, drop, length-append, take-append-drop, drop_of_length-le}
use lib.Seq.{length-take-le, drop-cons, drop-drop}
use borrow.Author.Tests.{le-leb, lt-leb, leb-true, leb-false}
use Rattle.logs.specs.Buffers.{place}
use Rattle.logs.proofs.Delivering.{take-place, length-place, drop-place}
use Rattle.text.specs.Listing.{joined}
use Rattle.text.specs.Pieces.{lines_in, bytes_in, piece_of}

-- Lines from one place up to another stand at the start of a buffer, and as many as fit behind them are still to come.
pub record Fills (ls : List (List ℕ)) (from next at : ℕ) (buffer buffer' : List ℕ) : Type 0 where
  pub size : length buffer' ≡ length buffer
  pub inside : at ≤ length buffer
  pub lines : from + lines_in (length buffer) (drop from ls) ≡ next + lines_in (length buffer - at) (drop next ls)
  pub bytes : bytes_in (length buffer) (drop from ls) ≡ take at buffer' ++ bytes_in (length buffer - at) (drop next ls)
  pub rest : drop at buffer' ≡ drop at buffer

-- a line that fits in front, and one that does not
module _ (l : List ℕ) (ls : List (List ℕ)) {room : ℕ} where
  pub lines_more : length l ≤ room → lines_in room (l ∷ ls) ≡ suc (lines_in (room - length l) ls)
  unfolding lines_in
  lines_more h = rw (lines_in, le-leb (length l) room h)

  pub bytes-more : length l ≤ room → bytes_in room (l ∷ ls) ≡ l ++ bytes_in (room - length l) ls
  unfolding bytes_in joined
  bytes-more h = rw (lines_more h)

  pub lines-stop : room < length l → lines_in room (l ∷ ls) ≡ 0
  unfolding lines_in
  lines-stop h = rw (lines_in, lt-leb (length l) room h)

-- the lines that fit have no more bytes than there is room
bytes_fit : (room : ℕ) (ls : List (List ℕ)) → length (bytes_in room ls) ≤ room
unfolding bytes_in joined lines_in
bytes_fit room [] = omega arith
bytes_fit room (l ∷ ls) = go (leb (length l) room) refl (bytes_fit (room - length l) ls)
  where
    go : (b : Bool) → leb (length l) room ≡ b → length (bytes_in (room - length l) ls) ≤ room - length l → length (bytes_in room (l ∷ ls)) ≤ room
    go true e ih = let h : length l ≤ room = leb-true (length l) room e in rw (bytes-more l ls h) (omega (arith, length-append l (bytes_in (room - length l) ls)))
    go false e ih = let h : room < length l = leb-false (length l) room e in rw (lines-stop l ls h) (omega arith)

pub piece-fits : (ls : List (List ℕ)) (from : ℕ) (buffer : List ℕ) → (piece_of ls from buffer).bytes ≤ length buffer
unfolding piece_of
piece-fits ls from buffer = bytes_fit (length buffer) (drop from ls)

-- no lines have no bytes
bytes-none : (room : ℕ) (ls : List (List ℕ)) → lines_in room ls ≡ 0 → bytes_in room ls ≡ []
unfolding bytes_in joined
bytes-none room ls z = rw z

module _ {ls : List (List ℕ)} {from : ℕ} {buffer : List ℕ} where
  module _ {next at : ℕ} {buffer' : List ℕ} (f : Fills ls from next at buffer buffer') where
    -- a line more
    pub fills-more : {l : List ℕ} {buffer'' : List ℕ} → next < length ls → l ≡ get_or ls next [] → length l ≤ length buffer' - at → buffer'' ≡ place at l buffer'
        → Fills ls from (next + 1) (at + length l) buffer buffer''
    fills-more {l} {buffer''} h m k put =
        let rests = drop (suc next) ls in
        let cons : drop next ls ≡ l ∷ rests = drop-cons ls next [] h ∙ ap (λ (x : List ℕ). x ∷ rests) (sym m) in
        let here : at + length l ≤ length buffer' = omega (arith, f.size, f.inside) in
        let room : length l ≤ length buffer - at = omega (arith, f.size) in
        let less : length buffer - at - length l ≡ length buffer - (at + length l) = omega arith in
        let front : take (at + length l) buffer'' ≡ take at buffer' ++ l = rw put (take-place at l buffer' here) in
        record {
          size = ap length put ∙ length-place at l buffer' here ∙ f.size;
          inside = omega (arith, f.size, f.inside);
          lines = f.lines ∙ rw (cons, lines_more l rests room, less, add-one) (omega arith);
          bytes = f.bytes ∙ rw (cons, bytes-more l rests room, less, front, add-one) (sym (append_assoc (take at buffer') l (bytes_in (length buffer - (at + length l)) rests)));
          rest = rw (put, drop-place at l buffer' here) (sym (drop-drop (length l) at buffer') ∙ ap (drop (length l)) f.rest ∙ drop-drop (length l) at buffer);
        }

    -- no line more: the next does not fit, or there is none
    pub full-stop : {l : List ℕ} → next < length ls → l ≡ get_or ls next [] → length buffer' - at < length l → lines_in (length buffer - at) (drop next ls) ≡ 0
    full-stop {l} h m k = rw (drop-cons ls next [] h, ← m) (lines-stop l (drop (suc next) ls) (omega (arith, f.size)))

    pub end-stop : length ls ≤ next → lines_in (length buffer - at) (drop next ls) ≡ 0
    unfolding lines_in
    end-stop h = rw (drop_of_length-le ls h)

    -- then it is the piece
    pub fills-done : lines_in (length buffer - at) (drop next ls) ≡ 0 → record { next = next; bytes = at; buffer = buffer' } ≡ piece_of ls from buffer
    unfolding piece_of
    fills-done z =
        let front : bytes_in (length buffer) (drop from ls) ≡ take at buffer' = f.bytes ∙ ap (λ (x : List ℕ). take at buffer' ++ x) (bytes-none (length buffer - at) (drop next ls) z) ∙ append-nil (take at buffer') in
        let long : length (take at buffer') ≡ at = length-take-le at buffer' (omega (arith, f.size, f.inside)) in
        let last : from + lines_in (length buffer) (drop from ls) ≡ next = f.lines ∙ omega arith in
        rw (last, front, long, ← f.rest, take-append-drop at buffer')
