-- What every verdict on a log is, and what words hold before a call that reads one.
use Rattle.std.specs.Prelude.{ℕ, ◌<◌, ◌≤◌}
use Rattle.reference.specs.declared.judging.Why.{Why}
use Rattle.reference.specs.declared.judging.Why.TheVariants as w

-- a number that a log can be refused by
abbrev pub Known : ℕ → Type 0
Known number = (0 < number) × (number ≤ 7)

-- the number of each reason
abbrev pub number_of : Why → ℕ
number_of w.CutShort = 1
number_of w.WrongMark = 2
number_of w.HeaderOutOfLimits = 3
number_of w.InvalidContact = 4
number_of w.TooManyContacts = 5
number_of w.WrongCount = 6
number_of w.TrailingBytes = 7

-- an accepted log: n and T of a byte, and a number of contacts within its limit
pub record Judged (badges ticks contacts : ℕ) : Type 0 where
  pub few_badges : badges < 256
  pub few_ticks : ticks < 256
  pub few_contacts : contacts ≤ 8000

-- each word that is lent to a call, before it: a5c396f05a3c690f in hexadecimal
abbrev pub pattern : ℕ
pattern = 11944556595766913295
