-- What the plan promises, over any call that takes n, T, words, badges under review, a query, a number of parts and a buffer.
use Rattle.std.specs.Prelude.{List, ◌++◌, ◌≡◌, ℕ, ◌≤◌, ◌<◌, length, take, drop}
use Rattle.records.specs.Outcomes.{Outcome, refused, success}
use Rattle.logs.specs.Buffers.{Delivered}
use Rattle.spans.specs.SpanCores.{SpanCore}
use Rattle.spans.specs.Encoding.{plan_bytes, plan_records}
use Rattle.spans.specs.PlanStatement.{PlanStatement, PlanAsked}

-- What a call that plans a shift leaves, lent a buffer: there are parts of which the plan statement holds, among the reviewed badges, and which their
-- bytes say; a buffer of the bytes' length or more holds them, and a shorter one is refused by 9.
pub record PlansShift (n T : ℕ) (ws : List ℕ) (base query h : ℕ) (buffer : List ℕ) (left : Delivered) : Type 0 where
  pub parts : List SpanCore
  pub stated : PlanStatement n T ws base query h parts
  pub said : plan_records (plan_bytes n T h query parts) ≡ parts
  pub succeeds : length (plan_bytes n T h query parts) ≤ length buffer
      → left ≡ record { answer = success (length (plan_bytes n T h query parts)); buffer = plan_bytes n T h query parts ++ drop (length (plan_bytes n T h query parts)) buffer }
  pub measures : length buffer < length (plan_bytes n T h query parts) → left ≡ record { answer = refused 9 0; buffer = buffer }

-- a call that plans every shift that may be asked for
abbrev pub PlansShifts : (ℕ → ℕ → List ℕ → ℕ → ℕ → ℕ → List ℕ → Delivered) → Type 0
PlansShifts call = (n T : ℕ) (ws : List ℕ) (base query h : ℕ) (buffer : List ℕ) → PlanAsked n T ws base query h → PlansShift n T ws base query h buffer (call n T ws base query h buffer)

-- what holds of the buffer that a plan leaves, whatever was lent: on success its first bytes say parts of which the plan statement holds
pub record PlanShown (n T : ℕ) (ws : List ℕ) (base query h : ℕ) (answer : Outcome ℕ) (buffer : List ℕ) : Type 0 where
  pub parts : (size : ℕ) → answer ≡ success size → PlanStatement n T ws base query h (plan_records (take size buffer))
