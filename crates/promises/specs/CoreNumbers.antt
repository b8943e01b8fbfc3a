-- Core numbers as source 000 has them, and what the call promises, over any call that takes n, T, words, badges under review, a span and a buffer.
use Rattle.std.specs.Prelude.{List, ◌++◌, ◌↔◌, ◌≡◌, ℕ, ◌≤◌, ◌<◌, length, get_or, drop}
use Rattle.sets.specs.Sets.{In}
use Rattle.records.specs.Outcomes.{refused, success}
use Rattle.logs.specs.Buffers.{Delivered}
use Rattle.spans.specs.Spans.{SpanOfDay}
use Rattle.spans.specs.Contacts.{OfOrder}
use Rattle.spans.specs.Reviews.{Review}

-- One number a badge: that of a reviewed badge is at least k, k from 1, exactly when some set of order k of reviewed badges, on the span, has the
-- badge; "others have core number 0". (The core number of source 000: the largest k such that the (k, Δ)-core contains the vertex.)
pub record AreCoreNumbers (n : ℕ) (ws : List ℕ) (base first last : ℕ) (numbers : List ℕ) : Type 0 where
  pub badges : length numbers ≡ n
  pub number : (u k : ℕ) → In base u → 1 ≤ k → (k ≤ get_or numbers u 0) ↔ ((s : ℕ) × OfOrder n ws base k first last s × In s u)
  pub others : (u : ℕ) → u < n → (In base u → ⊥) → get_or numbers u 0 ≡ 0

-- A call that gives core numbers:
pub record GivesCoreNumbers (call : ℕ → ℕ → List ℕ → ℕ → ℕ → ℕ → List ℕ → Delivered) : Type 0 where
  -- every span of every day has core numbers among every non-empty set of the day's badges,
  pub exist : (n T : ℕ) (ws : List ℕ) (base first last : ℕ) → SpanOfDay n T ws first last → Review n base → (numbers : List ℕ) × AreCoreNumbers n ws base first last numbers
  -- lent n bytes or more, the call succeeds, and its bytes are those numbers; with fewer bytes it is refused by 9
  pub succeeds : (n T : ℕ) (ws : List ℕ) (base first last : ℕ) (buffer numbers : List ℕ) → SpanOfDay n T ws first last → Review n base → AreCoreNumbers n ws base first last numbers
      → n ≤ length buffer → call n T ws base first last buffer ≡ record { answer = success n; buffer = numbers ++ drop n buffer }
  pub measures : (n T : ℕ) (ws : List ℕ) (base first last : ℕ) (buffer : List ℕ) → SpanOfDay n T ws first last → Review n base → length buffer < n
      → call n T ws base first last buffer ≡ record { answer = refused 9 0; buffer = buffer }
