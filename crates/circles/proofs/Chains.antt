-- Laws of chains and circles: chains go either way and one after the other; circles that share a member are equal; the circles of what is left
-- of a set without one of its circles are its other circles.
use mathlib.Core.Path.{◌≡◌}
use Prim.Native.Nat.{ℕ}
use Rattle.sets.specs.Sets.{In, Sub, difference}
use Rattle.sets.proofs.Sets.{in-difference, of-difference, sub_trans, ext}
use Rattle.cores.specs.Graphs.{Symmetric}
use Rattle.cores.proofs.Degrees.{FewerPairs}
use Rattle.circles.specs.Chains.{Chain, start, link, IsCircle}

-- both ends of a chain are members
pub chain_first : {rows : ℕ → ℕ} {s u v : ℕ} → Chain rows s u v → In s u
chain_first (start i) = i
chain_first (link c p i) = chain_first c

pub chain-last : {rows : ℕ → ℕ} {s u v : ℕ} → Chain rows s u v → In s v
chain-last (start i) = i
chain-last (link c p i) = i

-- one chain after another
pub chain-append : {rows : ℕ → ℕ} {s u v w : ℕ} → Chain rows s u v → Chain rows s v w → Chain rows s u w
chain-append c (start i) = c
chain-append c (link d p i) = link (chain-append c d) p i

-- a chain in a larger set, and in a graph that has its pairs
pub chain-grows : {rows : ℕ → ℕ} {s t u v : ℕ} → Sub s t → Chain rows s u v → Chain rows t u v
chain-grows h (start i) = start (h.at _ i)
chain-grows h (link c p i) = link (chain-grows h c) p (h.at _ i)

pub chain_more : {rows rows' : ℕ → ℕ} {s u v : ℕ} → FewerPairs s rows rows' → Chain rows s u v → Chain rows' s u v
chain_more f (start i) = start i
chain_more f (link c p i) = link (chain_more f c) (f.pair _ _ (chain-last c) i p) i

-- the other way round
pub chain_back : {rows : ℕ → ℕ} {s u v : ℕ} → Symmetric rows s → Chain rows s u v → Chain rows s v u
chain_back y (start i) = start i
chain_back y (link c p i) = chain-append (link (start i) (y.back _ _ (chain-last c) i p) (chain-last c)) (chain_back y c)

-- rows with the same pairs between members have the same circles
pub circle-same : {rows rows' : ℕ → ℕ} {s c : ℕ} → FewerPairs s rows rows' → FewerPairs s rows' rows → IsCircle rows s c → IsCircle rows' s c
circle-same f g k = record {
  some = k.some;
  within = k.within;
  joined = λ u v i j. chain_more f (k.joined u v i j);
  closed = λ u v i j. k.closed u v i (chain_more g j);
}

-- circles with a member in common are equal
pub circle-shared : {rows : ℕ → ℕ} {s c d : ℕ} (u : ℕ) → IsCircle rows s c → IsCircle rows s d → In c u → In d u → c ≡ d
circle-shared {rows} {s} {c} {d} u x y i j = ext c d (λ v k. y.closed u v j (x.joined u v i k)) (λ v k. x.closed u v i (y.joined u v j k))

-- symmetric rows are so on a smaller set
pub symmetric-less : {rows : ℕ → ℕ} {s t : ℕ} → Sub t s → Symmetric rows s → Symmetric rows t
symmetric-less h y = record { back = λ u v i j. y.back u v (h.at u i) (h.at v j) }

pub rest-within : (s c : ℕ) → Sub (difference s c) s
rest-within s c = record { at = λ u i. (of-difference s c u i).0 }

-- a chain of s from a member outside a circle stays outside it
module _ {rows : ℕ → ℕ} {s c : ℕ} (y : Symmetric rows s) (k : IsCircle rows s c) where
  pub chain-outside : {u v : ℕ} → In (difference s c) u → Chain rows s u v → Chain rows (difference s c) u v
  chain-outside o (start i) = start o
  chain-outside {u} o (link {v} {w} h p i) =
      let e = chain-outside o h in
      let a = of-difference s c v (chain-last e) in
      link e p (in-difference s c w i (λ j. a.1 (k.closed w v j (link (start i) (y.back v w a.0 i p) a.0))))

  -- so the circles of the others are circles of s
  pub circle-of-rest : {d : ℕ} → IsCircle rows (difference s c) d → IsCircle rows s d
  circle-of-rest r = record {
    some = r.some;
    within = sub_trans r.within (rest-within s c);
    joined = λ u v i j. chain-grows (rest-within s c) (r.joined u v i j);
    closed = λ u v i j. r.closed u v i (chain-outside (r.within.at u i) j);
  }
