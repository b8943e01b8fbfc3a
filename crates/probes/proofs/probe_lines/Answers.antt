-- probe_lines meets its contract: it leaves what lines leaves, and its answer is that of lines.
use Rattle.probes.specs.Listings.{shown_of, lines_of}
use Rattle.probes.proofs.probe_lines.Goals as goal

pub returns : goal.returns
unfolding shown_of lines_of
returns c =
    let l = c.lines-piece.ensures in
    record {
      answer = rw (c.listing_answer.ensures, l.next, l.bytes);
      leaves = l.leaves;
    }
