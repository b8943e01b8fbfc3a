-- Substitutes for reading that document 01's acceptance list names, each refuted from the promise that read keeps (specs/Reading).
use mathlib.Core.Path.{◌≡◌, refl, ap}
use mathlib.Core.List.Memᴰ
use mathlib.Core.List.{List}
use Prim.Native.Nat.{ℕ}
use native.Mathlib.Omega.{arith}
use Rattle.sets.specs.Words.{set_at, from_words, to_words, words_of}
use Rattle.sets.proofs.Sets.{not-in-none}
use Rattle.records.specs.Outcomes.{Outcome, refused, success}
use Rattle.records.specs.Verdicts.{Values}
use Rattle.records.proofs.Outcomes.{refused-success, success-same}
use Rattle.days.specs.Days.{neighbours}
use Rattle.days.specs.Calls.{Read}
use Rattle.promises.specs.Reading.{HasRead, Reads}
use Rattle.promises.proofs.ReadTheorems.{days-same}
use Rattle.promises.proofs.SmallLogs.{never, once, twice, bytes_of, never-log, in_twice, once-log, twice-log, two, met}

-- Refusing all logs, with whatever number, offset and words.
pub refusing-all : (number offset : List ℕ → List ℕ → ℕ) (words : List ℕ → List ℕ → List ℕ) → Reads (λ log ws. record { answer = refused (number log ws) (offset log ws); words = words log ws }) → ⊥
unfolding two
refusing-all number offset words p = refused-success (p (bytes_of never) two 2 1 never never-log (omega arith)).answers

-- Leaving the words untouched, with whatever answer.
pub words-untouched : (answer : List ℕ → List ℕ → Outcome Values) → Reads (λ log ws. record { answer = answer log ws; words = ws }) → ⊥
unfolding two neighbours once set_at from_words to_words words_of
words-untouched answer p = not-in-none 1 (((p (bytes_of once) two 2 1 once once-log (omega arith)).day.marks 0 0 1 (omega arith) (omega arith)).1 (met (Memᴰ.head refl)))

-- Inventing the number of contact records: one that is the same for all logs, and one that the words alone decide.
abbrev inventing : (List ℕ → ℕ) → (badges ticks : List ℕ → List ℕ → ℕ) → (List ℕ → List ℕ → List ℕ) → List ℕ → List ℕ → Read
inventing count badges ticks words log ws =
    record { answer = success (record { badges = badges log ws; ticks = ticks log ws; contacts = count (words log ws) }); words = words log ws }

counted : {v w : Values} → success v ≡ success w → v.contacts ≡ w.contacts
counted {v} {w} e = ap (λ (x : Values). x.contacts) (success-same e)

pub count-from-words : (count : List ℕ → ℕ) (badges ticks : List ℕ → List ℕ → ℕ) (words : List ℕ → List ℕ → List ℕ) → Reads (inventing count badges ticks words) → ⊥
unfolding two once twice
count-from-words count badges ticks words p =
    let a : count (words (bytes_of once) two) ≡ 1 = counted first.answers in
    let b : count (words (bytes_of twice) two) ≡ 2 = counted second.answers in
    let c : count (words (bytes_of once) two) ≡ count (words (bytes_of twice) two) = ap count same in
    omega arith
  where
    first : HasRead 2 1 once two (inventing count badges ticks words (bytes_of once) two)
    first = p (bytes_of once) two 2 1 once once-log (omega arith)

    second : HasRead 2 1 twice two (inventing count badges ticks words (bytes_of twice) two)
    second = p (bytes_of twice) two 2 1 twice twice-log (omega arith)

    -- the contact is met where it is given once exactly when it is met where it is given twice
    same : words (bytes_of once) two ≡ words (bytes_of twice) two
    same = days-same first.day second.day (omega arith) (λ t u v.
        (λ m. (m.0, Memᴰ.tail m.1, m.2), λ m. (m.0, Memᴰ.head (in_twice m.0 m.1), m.2)))

pub count-fixed : (count : ℕ) (badges ticks : List ℕ → List ℕ → ℕ) (words : List ℕ → List ℕ → List ℕ) → Reads (inventing (λ ws. count) badges ticks words) → ⊥
count-fixed count badges ticks words p = count-from-words (λ ws. count) badges ticks words p
