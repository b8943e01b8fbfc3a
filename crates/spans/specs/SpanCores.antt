-- Cores on the spans of a day. "A core is an order, a span and its members; two that differ in order or span are different cores."
-- (A span-core: source 000, definition 2.)
use Rattle.std.specs.Prelude.{Bool, ℕ, ltb}
use mathlib.Core.List.{List, Memᴰ}
use Rattle.cores.specs.Cores.{core}
use Rattle.spans.specs.Spans.{span_neighbours}

pub record SpanCore : Type 0 where
  pub order : ℕ
  pub first : ℕ
  pub last : ℕ
  pub members : ℕ

abbrev pub Mem : SpanCore → List SpanCore → Type 0
Mem c cs = Memᴰ c cs

-- the members of the core of order k on a span, among the badges of a base set (those under review): none where there is no such core
unfoldable pub core_on : ℕ → List ℕ → ℕ → ℕ → ℕ → ℕ → ℕ
core_on n ws base k first last = core (span_neighbours n ws first last) base k

unfoldable pub has_core : ℕ → List ℕ → ℕ → ℕ → ℕ → ℕ → Bool
has_core n ws base k first last = ltb 0 (core_on n ws base k first last)
