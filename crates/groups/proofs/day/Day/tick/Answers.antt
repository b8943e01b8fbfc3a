-- `tick` meets its contract: the words from those of the ticks before on are the tick's.
use Rattle.groups.proofs.Narrowing.{slice-tick, tick-fit}
use Rattle.groups.proofs.day.Day.tick.Goals as goal

pub returns : goal.returns
returns c =
    let e = slice-tick c.args.self.now.badges c.args.self.now.words.now c.args.t in
    record { words = e; fit = rw e (tick-fit _ _ c.args.t c.args.self.now.fit) }
