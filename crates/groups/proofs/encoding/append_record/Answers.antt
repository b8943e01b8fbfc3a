-- append_record meets its contract: the bytes that it puts after the records that stand there are the record's.
use mathlib.Core.Path.{◌≡◌}
use lib.ListN.{length}
use borrow.Author.Rules.{rules}
use Rattle.groups.specs.Keeping.{core_of}
use Rattle.groups.proofs.Appended.{appends-one}
use Rattle.groups.proofs.encoding.append_record.Goals as goal
use Rattle.groups.proofs.encoding.append_record.Goals.{After-put_core, Start}

-- a mark has two letters
marked : (s : goal.Start) → length s.args.mark ≡ 2
marked s = search rules

pub returns : goal.returns
returns c =
    let p = (goal.at.returns c).After-put_core in
    let s = (goal.at.returns c).Start in
    appends-one (marked s) (core_of s.args.shown) s.requires.1 p.put_core.ensures
