-- header_bytes meets its contract: the mark by its letters, and n and T.
use borrow.Author.Rules.{rules}
use Rattle.groups.proofs.Appended.{two-letters}
use Rattle.groups.proofs.writing.header_bytes.Goals as goal

pub returns : goal.returns
returns c = two-letters c.args.mark (search rules) _
