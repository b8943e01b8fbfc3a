-- probe_listing meets its contract: it leaves what prepare leaves, and then what lines leaves of that; its answer is that of both.
use Rattle.probes.specs.Listings.{shown_of, listed, listed_of}
use Rattle.probes.proofs.probe_listing.Goals as goal

pub returns : goal.returns
unfolding shown_of listed listed_of
returns c =
    let l = c.lines-piece.ensures in
    let p = c.prepare-prepared.ensures in
    record {
      answer = rw (c.listing_answer.ensures, l.next, l.bytes, p.answer, p.leaves);
      words = p.words;
      report = p.leaves;
      leaves = rw (l.leaves, p.answer, p.leaves);
    }
