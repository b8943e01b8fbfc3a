-- Laws of the call prepare: reading's refusal, or what reporting the day that was read comes to.
use mathlib.Core.Path.{◌≡◌, sym, ap, ◌∙◌}
use mathlib.Core.List.{List}
use Prim.Native.Nat.{ℕ, min, ◌≤◌}
use native.Mathlib.Omega.{arith}
use Rattle.sets.specs.Sets.{full}
use Rattle.sets.specs.Members.{capacity}
use Rattle.records.specs.Outcomes.{refused, success}
use Rattle.records.specs.Judging.{judge}
use Rattle.records.specs.Verdicts.{Values, values_of}
use Rattle.records.proofs.Accepting.{accepted-of}
use Rattle.records.proofs.Outcomes.{refused-success, success-same}
use Rattle.records.proofs.WithinLimits.{limits_of}
use Rattle.days.specs.Calls.{Read, read_of}
use Rattle.days.proofs.ReadCall.{read-refused, read-few, read-success, Case, log_refused, words_few, words_enough, case-of}
use Rattle.thresholds.specs.Ranges.{plain}
use Rattle.groups.specs.Calls.{report_of}
use Rattle.text.specs.Calls.{reported, prepare_of}

-- a log that was read has no more badges than a set holds
read-badges : (log words : List ℕ) (v : Values) → (read_of log words).answer ≡ success v → v.badges ≤ capacity
unfolding judge values_of
read-badges log words v e = go (case-of log words)
  where
    answers : {x : Read} → read_of log words ≡ x → x.answer ≡ success v
    answers g = sym (ap (λ (y : Read). y.answer) g) ∙ e

    go : Case log words → v.badges ≤ capacity
    go (log_refused a b f) = absurd (refused-success (answers (read-refused log words a b f)))
    go (words_few rs f h) = absurd (refused-success (answers (read-few log words rs f h)))
    go (words_enough rs f h) =
        let g : values_of rs ≡ v = success-same (answers (read-success log words rs f h)) in
        omega (arith, (limits_of (accepted-of 0 log rs f).limits).few, ap (λ (x : Values). x.badges) g)

module _ (log words report : List ℕ) where
  pub prepare-refused : (number offset : ℕ) → (read_of log words).answer ≡ refused number offset
      → prepare_of log words report ≡ record { answer = refused number offset; words = (read_of log words).words; report = report }
  unfolding prepare_of reported
  prepare-refused number offset e = rw e

  -- all badges of a log that was read, as a set of the program, are all n
  pub prepare-read : (v : Values) → (read_of log words).answer ≡ success v → (words' : List ℕ) → words' ≡ (read_of log words).words → {all : ℕ} → all ≡ full (min v.badges capacity)
      → prepare_of log words report
      ≡ record { answer = (report_of v.badges v.ticks words' all plain report).answer; words = words'; report = (report_of v.badges v.ticks words' all plain report).buffer }
  unfolding prepare_of reported
  prepare-read v e words' f {all} g =
      let m : min v.badges capacity ≡ v.badges = omega (arith, read-badges log words v e) in
      let h : all ≡ full v.badges = g ∙ ap full m in
      rw (e, f, h)
