-- Judging a log that starts at an offset is judging it from 0, with the offset added to a refusal's.
use Rattle.std.proofs.Common.{Result, Ok, Err}
use mathlib.Core.Path.{◌≡◌, refl, sym, ap, ◌∙◌}
use mathlib.Core.Bool.{Bool, true, false}
use mathlib.Core.List.{List}
use Prim.Native.Nat.{ℕ, zero, suc, ◌+◌, ◌-◌}
use native.Mathlib.Nat.{add_assoc, add-zero}
use lib.Dec.{eqb}
use lib.ListN.{length, drop}
use Rattle.records.specs.declared.record.Kind.{Kind}
use Rattle.records.specs.declared.record.Kind.TheVariants as k
use Rattle.records.specs.declared.record.Record.{Record}
use Rattle.records.specs.declared.record.Record.TheVariants.{Header, Contact, End}
use Rattle.records.specs.declared.record.Undecoded.{Undecoded}
use Rattle.records.specs.declared.record.Undecoded.TheVariants as u
use Rattle.records.specs.declared.judging.State.{State}
use Rattle.records.specs.Limits.{within_limits}
use Rattle.records.specs.Records.{size_of, kind_of, decode}
use Rattle.records.specs.Outcomes.{Outcome, refused, success}
use Rattle.records.specs.Judging.{start, advance, Judgement, stop, next, done, expected, one_too_many, valid_contact, judge_kind, judge_values, judge_decoded, judge_record, prepend, judge_in, judge_from, judge}
use Rattle.records.proofs.Outcomes.{refused-success}
use Rattle.records.proofs.Stepping.{follow_in, step_in}

-- a state, a judgement and an outcome with an offset added
abbrev moved : ℕ → State → State
moved by st = record { offset = by + st.offset; headers = st.headers; contacts = st.contacts; badges = st.badges; ticks = st.ticks }

abbrev moved_step : ℕ → Judgement → Judgement
moved_step by (stop number offset) = stop number (by + offset)
moved_step by (next r) = next r
moved_step by (done r) = done r

abbrev pub shifted : {A : Type 0} → ℕ → Outcome A → Outcome A
shifted by (refused number offset) = refused number (by + offset)
shifted by (success a) = success a

module _ (by : ℕ) (st : State) where
  kind-moved : (kind : Kind) (further : Judgement) → judge_kind (moved by st) kind (moved_step by further) ≡ moved_step by (judge_kind st kind further)
  unfolding judge_kind
  kind-moved kind further = on kind
    where
      go : (b c : Bool) → elim b [ false ↦ stop 2 (by + st.offset) | true ↦ elim c [ true ↦ stop 5 (by + st.offset) | false ↦ moved_step by further ] ]
          ≡ moved_step by (elim b [ false ↦ stop 2 st.offset | true ↦ elim c [ true ↦ stop 5 st.offset | false ↦ further ] ])
      go false c = refl
      go true true = refl
      go true false = refl

      on : (kind : Kind) → judge_kind (moved by st) kind (moved_step by further) ≡ moved_step by (judge_kind st kind further)
      on k.Header = go (expected st k.Header) (one_too_many st k.Header)
      on k.Contact = go (expected st k.Contact) (one_too_many st k.Contact)
      on k.End = go (expected st k.End) (one_too_many st k.End)

  values_moved : (left : ℕ) (r : Record) → judge_values (moved by st) left r ≡ moved_step by (judge_values st left r)
  unfolding judge_values
  values_moved left (Header n T) = go (within_limits n T)
    where
      go : (b : Bool) → elim b [ false ↦ stop 3 (by + st.offset) | true ↦ next (Header n T) ] ≡ moved_step by (elim b [ false ↦ stop 3 st.offset | true ↦ next (Header n T) ])
      go false = refl
      go true = refl
  values_moved left (Contact a b first last) = go (valid_contact st.badges st.ticks (Contact a b first last))
    where
      go : (c : Bool) → elim c [ false ↦ stop 4 (by + st.offset) | true ↦ next (Contact a b first last) ] ≡ moved_step by (elim c [ false ↦ stop 4 st.offset | true ↦ next (Contact a b first last) ])
      go false = refl
      go true = refl
  values_moved left (End count) = go (eqb count st.contacts) (eqb left 0)
    where
      go : (b c : Bool) → elim b [ false ↦ stop 6 (by + st.offset) | true ↦ elim c [ false ↦ stop 7 (by + st.offset + 6) | true ↦ done (End count) ] ]
          ≡ moved_step by (elim b [ false ↦ stop 6 st.offset | true ↦ elim c [ false ↦ stop 7 (st.offset + 6) | true ↦ done (End count) ] ])
      go false c = refl
      go true false = ap (stop 7) (add_assoc by st.offset 6)
      go true true = refl

  record-moved : (s : List ℕ) → judge_record (moved by st) s ≡ moved_step by (judge_record st s)
  unfolding judge_record judge_decoded
  record-moved s = go (decode s)
    where
      go : (x : Result Record Undecoded) → judge_decoded (moved by st) (length s) x ≡ moved_step by (judge_decoded st (length s) x)
      go (Err u.NoMark) = refl
      go (Err u.UnknownMark) = refl
      go (Err (u.Cut kind)) = kind-moved kind (stop 1 st.offset)
      go (Ok r) = ap (judge_kind (moved by st) (kind_of r)) (values_moved (length s - size_of (kind_of r)) r) ∙ kind-moved (kind_of r) _

  advance-moved : (r : Record) → advance (moved by st) r ≡ moved by (advance st r)
  advance-moved (Header n T) = ap (λ (o : ℕ). record { offset = o; headers = st.headers + 1; contacts = st.contacts; badges = n; ticks = T }) (add_assoc by st.offset 4)
  advance-moved (Contact a b first last) = ap (λ (o : ℕ). record { offset = o; headers = st.headers; contacts = st.contacts + 1; badges = st.badges; ticks = st.ticks }) (add_assoc by st.offset 6)
  advance-moved (End count) = ap (λ (o : ℕ). record { offset = o; headers = st.headers; contacts = st.contacts; badges = st.badges; ticks = st.ticks }) (add_assoc by st.offset 6)

prepend-shifted : (by : ℕ) (r : Record) (o : Outcome (List Record)) → prepend r (shifted by o) ≡ shifted by (prepend r o)
unfolding prepend
prepend-shifted by r (refused number offset) = refl
prepend-shifted by r (success rs) = refl

judge-moved : (fuel by : ℕ) (st : State) (s : List ℕ) → judge_in fuel (moved by st) s ≡ shifted by (judge_in fuel st s)
unfolding judge_in follow_in
judge-moved zero by st s = refl
judge-moved (suc fuel) by st s = go (judge_record st s) refl (λ r. judge-moved fuel by (advance st r) (drop (size_of (kind_of r)) s))
  where
    go : (j : Judgement) → judge_record st s ≡ j
        → ((r : Record) → judge_in fuel (moved by (advance st r)) (drop (size_of (kind_of r)) s) ≡ shifted by (judge_in fuel (advance st r) (drop (size_of (kind_of r)) s)))
        → judge_in (suc fuel) (moved by st) s ≡ shifted by (judge_in (suc fuel) st s)
    go j e ih = step_in fuel (moved by st) s (moved_step by j) (record-moved by st s ∙ ap (moved_step by) e) ∙ on j ∙ ap (shifted by) (sym (step_in fuel st s j e))
      where
        on : (j : Judgement) → follow_in fuel (moved by st) s (moved_step by j) ≡ shifted by (follow_in fuel st s j)
        on (stop number offset) = refl
        on (next r) = ap (λ (x : State). prepend r (judge_in fuel x (drop (size_of (kind_of r)) s))) (advance-moved by st r) ∙ ap (prepend r) (ih r) ∙ prepend-shifted by r _
        on (done r) = refl

-- Judging from an offset is judging from 0, with the offset added.
pub judge-shifted : (at : ℕ) (log : List ℕ) → judge_from (start at) log ≡ shifted at (judge log)
unfolding judge judge_from
judge-shifted at log = ap (λ (o : ℕ). judge_in (suc (length log)) (start o) log) (sym (add-zero at)) ∙ judge-moved (suc (length log)) at (start 0) log

pub judged-at : (at : ℕ) (log : List ℕ) (rs : List Record) → judge_from (start at) log ≡ success rs → judge log ≡ success rs
judged-at at log rs e = go (judge log) (sym (judge-shifted at log) ∙ e)
  where
    go : (o : Outcome (List Record)) → shifted at o ≡ success rs → o ≡ success rs
    go (refused number offset) f = absurd (refused-success f)
    go (success xs) f = f
