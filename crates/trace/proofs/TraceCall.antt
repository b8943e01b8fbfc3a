-- The call: what it answers and leaves, in the order of judging, and that it keeps its promise.
use mathlib.Core.Path.{◌≡◌, sym, ap, ◌∙◌, subst}
use mathlib.Core.List.{List, ◌++◌}
use Prim.Native.Nat.{ℕ, ◌+◌, ◌≤◌, ◌<◌}
use native.Mathlib.Omega.{arith}
use lib.ListN.{length, drop, take}
use Rattle.records.specs.Outcomes.{Outcome, refused, success}
use Rattle.days.specs.Days.{LentDay}
use Rattle.days.specs.Calls.{check_of}
use Rattle.days.proofs.Checks.{check-day}
use Rattle.logs.specs.Buffers.{deliver}
use Rattle.logs.proofs.Delivering.{deliver-refused, deliver-passed, deliver-short, deliver-fits, deliver-success}
use Rattle.chains.specs.Chains.{Contact}
use Rattle.chains.specs.Traces.{IsTrace}
use Rattle.chains.specs.Sweep.{trace_bytes}
use Rattle.chains.specs.Judging.{StartOfDay, start_judged, trace_judged}
use Rattle.chains.proofs.TraceForm.{trace-long, trace-is}
use Rattle.chains.proofs.Judging.{start-yes, start-no, judged-start}
use Rattle.trace.specs.Calls.{trace_of}
use Rattle.trace.specs.Tracing.{Traces, Traced}

-- what the bytes of a trace come to in a buffer: they fit it, or they do not
module _ {n T : ℕ} {ws : List ℕ} {index s : ℕ} (d : StartOfDay n T ws index s) (buffer : List ℕ) where
  start-passed : deliver (start_judged n T ws index s) buffer ≡ deliver (success (trace_bytes n T ws index s)) buffer
  start-passed = ap (λ (o : Outcome (List ℕ)). deliver o buffer) (start-yes n T ws index s d.badge d.tick)

  pub start_fits : n + n ≤ length buffer → deliver (start_judged n T ws index s) buffer ≡ record { answer = success (n + n); buffer = trace_bytes n T ws index s ++ drop (n + n) buffer }
  start_fits h =
      let l = trace-long n T ws index s d in
      subst (λ (m : ℕ). deliver (start_judged n T ws index s) buffer ≡ record { answer = success m; buffer = trace_bytes n T ws index s ++ drop m buffer }) l
      (start-passed ∙ deliver-fits _ buffer (omega arith))

  pub start-short : length buffer < n + n → deliver (start_judged n T ws index s) buffer ≡ record { answer = refused 9 0; buffer = buffer }
  start-short h = start-passed ∙ deliver-short _ buffer (omega (arith, trace-long n T ws index s d))

module _ (n T : ℕ) (ws : List ℕ) (index s : ℕ) (buffer : List ℕ) where
  pub trace-refused : (number offset : ℕ) → check_of n T ws ≡ refused number offset → trace_of n T ws index s buffer ≡ record { answer = refused number offset; buffer = buffer }
  unfolding trace_of trace_judged
  trace-refused number offset e = deliver-refused _ _ buffer number offset e

  pub trace-passed : LentDay n T ws → trace_of n T ws index s buffer ≡ deliver (start_judged n T ws index s) buffer
  unfolding trace_of trace_judged
  trace-passed d = deliver-passed _ _ buffer tt (check-day n T ws d.limits d.enough d.day)

  trace-outside : LentDay n T ws → ((index < n) × (s < T) → ⊥) → trace_of n T ws index s buffer ≡ record { answer = refused 22 0; buffer = buffer }
  unfolding deliver
  trace-outside d f = trace-passed d ∙ ap (λ (o : Outcome (List ℕ)). deliver o buffer) (start-no n T ws index s f)

-- The call keeps its promise.
pub traces : Traces trace_of trace_bytes
traces = record {
  stated = λ n T ws index s d. trace-is n T ws index s d;
  succeeds = λ n T ws index s buffer d h. trace-passed n T ws index s buffer d.lent ∙ start_fits d buffer h;
  measures = λ n T ws index s buffer d h. trace-passed n T ws index s buffer d.lent ∙ start-short d buffer h;
  judges = λ n T ws index s buffer d f. trace-outside n T ws index s buffer d f;
  checks = λ n T ws index s buffer number offset e. trace-refused n T ws index s buffer number offset e;
}

-- Whatever was lent, where the call succeeds, the bytes in front are the trace.
pub traced : (n T : ℕ) (ws : List ℕ) (index s : ℕ) (lent : List ℕ) (answer : Outcome ℕ) (left : List ℕ) → answer ≡ (trace_of n T ws index s lent).answer → left ≡ (trace_of n T ws index s lent).buffer
    → Traced n T ws index s answer left
unfolding trace_of
traced n T ws index s lent answer left e f = record {
  trace = λ size g.
      let x = deliver-success (trace_judged n T ws index s) lent size (sym e ∙ g) in
      let j = judged-start x.0 x.1 in
      let b : take size left ≡ trace_bytes n T ws index s = ap (take size) f ∙ x.2 ∙ j.1 in
      subst (IsTrace (Contact n T ws) n index s) (sym b) (trace-is n T ws index s j.0);
}
