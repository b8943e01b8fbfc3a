-- write_some is safe: a piece is no longer than its buffer.
use Rattle.std.proofs.Common.{sym}
use lib.Seq.{length-take-le}
use Rattle.text.proofs.Filling.{piece-fits}
use Rattle.listing.proofs.write_some.Goals as goal

pub slice_bounds-buffer-end : goal.slice_bounds-buffer-end
slice_bounds-buffer-end g c = rw c.lines-piece.ensures.bytes (rw c.lines-piece.auto.buffer (piece-fits _ _ _))

pub slice_bounds-write_all-end : goal.slice_bounds-write_all-end
slice_bounds-write_all-end g c =
    sym (length-take-le _ _ (rw c.lines-piece.ensures.bytes (rw c.lines-piece.auto.buffer (piece-fits _ _ _))))
