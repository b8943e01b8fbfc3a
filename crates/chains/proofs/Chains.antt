-- Laws of chains.
use mathlib.Core.List.{List}
use Prim.Native.Nat.{ℕ, ◌≤◌, ◌<◌}
use native.Mathlib.Omega.{arith}
use Rattle.chains.specs.Chains.{Contact, Chain, first, next}
use Rattle.chains.specs.Traces.{BySources}

-- a chain arrives in tick s or later, and of a day in a tick of the day
pub chain-from : {Meet : ℕ → ℕ → ℕ → Type 0} {index s u t : ℕ} → Chain Meet index s u t → s ≤ t
chain-from (first h m) = omega arith
chain-from (next c h m) = let i = chain-from c in omega arith

pub chain-before : {n T : ℕ} {ws : List ℕ} {index s u t : ℕ} → Chain (Contact n T ws) index s u t → t < T
chain-before (first h m) = m.tick
chain-before (next c h m) = m.tick

-- a chain from a later tick on is one from an earlier tick on
pub chain-earlier : {Meet : ℕ → ℕ → ℕ → Type 0} {index s later u t : ℕ} → s ≤ later → Chain Meet index later u t → Chain Meet index s u t
chain-earlier h (first {t} k m) = first {t = t} (omega arith) m
chain-earlier h (next c k m) = next (chain-earlier h c) k m

-- chains over contacts that hold where others do, and those of them that go by the sources
module _ {Meet Met : ℕ → ℕ → ℕ → Type 0} (f : (t u v : ℕ) → Meet t u v → Met t u v) where
  unfoldable pub chain-map : {index s u t : ℕ} → Chain Meet index s u t → Chain Met index s u t
  chain-map (first h m) = first h (f _ _ _ m)
  chain-map (next c h m) = next (chain-map c) h (f _ _ _ m)

  pub by-sources-map : {index s u t : ℕ} (n : ℕ) (l : List ℕ) (c : Chain Meet index s u t) → BySources n l c → BySources n l (chain-map c)
  unfolding chain-map
  by-sources-map n l (first h m) b = b
  by-sources-map n l (next c h m) b = (by-sources-map n l c b.0, b.1, b.2)
