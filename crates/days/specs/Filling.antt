-- What the parts of filling leave in the words. Private functions cite them; no promise rests on them.
use Rattle.std.specs.Prelude.{Bool, true, List, ◌++◌, ◌≡◌, ℕ, ◌+◌, ◌*◌, ◌≤◌}
use Rattle.sets.specs.Bools.{◌or◌}
use Rattle.sets.specs.Sets.{union, only}
use Rattle.sets.specs.Words.{put_set}
use Rattle.records.specs.declared.record.Record.{Record}
use Rattle.records.specs.declared.record.Record.TheVariants.{Header, Contact, End}
use Rattle.records.specs.Limits.{max_badges, words_for}
use Rattle.records.specs.Outcomes.{success}
use Rattle.records.specs.Judging.{judge, valid_contact}
use Rattle.records.specs.Meaning.{badges_of, ticks_of, covers}
use Rattle.days.specs.Days.{neighbours, day_words}

-- a log that judging accepts with these n and T
pub record Accepts (log : List ℕ) (n T : ℕ) : Type 0 where
  pub records : List Record
  pub accepted : judge log ≡ success records
  pub badges : badges_of records ≡ n
  pub ticks : ticks_of records ≡ T

-- a record that is no contact, or one that is valid for n and T
abbrev pub Admissible : ℕ → ℕ → Record → Type 0
Admissible n T (Header m S) = Unit {0}
Admissible n T (Contact a b first last) = valid_contact n T (Contact a b first last) ≡ true
Admissible n T (End count) = Unit {0}

-- a record that so many words have room for
pub record Fitting (n words : ℕ) (r : Record) : Type 0 where
  pub few : n ≤ max_badges
  pub T : ℕ
  pub there : words_for n T ≤ words
  pub admissible : Admissible n T r

-- badge v marked in the set of badge u at tick t
unfoldable pub marked : ℕ → List ℕ → ℕ → ℕ → ℕ → List ℕ
marked n ws t u v = put_set ws (t * n + u) (union (neighbours n ws t u) (only v))

-- a day's words become those of the same day with what a record covers, whatever the day and the words after it
abbrev pub Marks : ℕ → Record → List ℕ → List ℕ → Type 0
Marks n r before after =
    (T : ℕ) (day : ℕ → ℕ → ℕ → Bool) (rest : List ℕ) → Admissible n T r
    → before ≡ day_words n T day ++ rest → after ≡ day_words n T (λ t u v. day t u v or covers r t u v) ++ rest
