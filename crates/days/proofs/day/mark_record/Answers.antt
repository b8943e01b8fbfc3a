-- mark_record meets its contract: a contact by mark_contact, and any other record because it covers nothing.
use mathlib.Core.Path.{◌≡◌, refl}
use mathlib.Core.Bool.{false}
use Prim.Native.Nat.{ℕ}
use Rattle.records.specs.declared.record.Record.{Record}
use Rattle.records.specs.declared.record.Record.TheVariants.{Header, Contact, End}
use Rattle.records.specs.Meaning.{covers}
use Rattle.days.proofs.Marking.{marks-none}
use Rattle.days.proofs.day.mark_record.Goals as goal

-- a record that is no contact covers nothing
covers-none : (r : Record) (t u v : ℕ) → ((a b first last : ℕ) → r ≡ Contact a b first last → ⊥) → covers r t u v ≡ false
unfolding covers
covers-none (Header n T) t u v h = refl
covers-none (Contact a b first last) t u v h = absurd (h a b first last refl)
covers-none (End count) t u v h = refl

pub returns-in_default : goal.returns-in_default
returns-in_default c = let a = c.args in marks-none a.n a.«record» a.words.now (λ t u v. covers-none _ t u v c.in_default.not-Contact)
