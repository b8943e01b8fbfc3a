-- What the trace answers and leaves in the buffer that was lent, for every input, by the order of document 02: 10, 8, 11, 22, 9.
use Rattle.std.specs.Prelude.{List, ℕ}
use Rattle.logs.specs.Buffers.{Delivered, deliver}
use Rattle.chains.specs.Judging.{trace_judged}

unfoldable pub trace_of : ℕ → ℕ → List ℕ → ℕ → ℕ → List ℕ → Delivered
trace_of n T ws index s buffer = deliver (trace_judged n T ws index s) buffer
