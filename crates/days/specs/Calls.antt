-- What read and the check of words answer and leave in the words that were lent, for every input, by document 01's order.
use Rattle.std.specs.Prelude.{true, false, List, ◌++◌, ℕ, ltb, length, drop}
use Rattle.sets.specs.Bools.{isnt}
use Rattle.records.specs.declared.record.Record.{Record}
use Rattle.records.specs.Limits.{within_limits, words_for}
use Rattle.records.specs.Outcomes.{Outcome, refused, success, refuse_if}
use Rattle.records.specs.Judging.{judge}
use Rattle.records.specs.Meaning.{badges_of, ticks_of}
use Rattle.records.specs.Verdicts.{Values, values_of}
use Rattle.days.specs.Days.{day_of, is_day}

-- read: its answer, and the words that were lent. "Read: log, 8."
pub record Read : Type 0 where
  pub answer : Outcome Values
  pub words : List ℕ

unfoldable pub read_judged : Outcome (List Record) → List ℕ → Read
read_judged (refused number offset) ws = record { answer = refused number offset; words = ws }
read_judged (success rs) ws = elim (ltb (length ws) (words_for (badges_of rs) (ticks_of rs))) [
  | true ↦ record { answer = refused 8 0; words = ws }
  | false ↦ record { answer = success (values_of rs); words = day_of rs ++ drop (words_for (badges_of rs) (ticks_of rs)) ws }
]

unfoldable pub read_of : List ℕ → List ℕ → Read
read_of log ws = read_judged (judge log) ws

-- the check of words that every call on words begins with. "Calls on words: 10, 8, 11 first."
unfoldable pub check_of : ℕ → ℕ → List ℕ → Outcome (Unit {0})
check_of n T ws =
    refuse_if (isnt (within_limits n T)) 10 0
    (refuse_if (ltb (length ws) (words_for n T)) 8 0
    (refuse_if (isnt (is_day n T ws)) 11 0
    (success tt)))
