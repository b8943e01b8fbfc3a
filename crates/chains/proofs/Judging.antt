-- Laws of what is judged before 9: the index and the start tick.
use mathlib.Core.Path.{◌≡◌, sym}
use mathlib.Core.Bool.{true}
use mathlib.Core.List.{List}
use Prim.Native.Nat.{ℕ, ◌≤◌, ◌<◌}
use lib.Dec.{ltb}
use borrow.Author.Tests.{lt-ltb, ltb-true}
use Rattle.sets.specs.Bools.{isnt}
use Rattle.sets.specs.Members.{capacity}
use Rattle.sets.proofs.Bools.{and_in, and_left, and_right, to-false, isnt-false}
use Rattle.records.specs.Limits.{max_ticks}
use Rattle.records.specs.Outcomes.{refused, success, refuse_if}
use Rattle.records.proofs.WithinLimits.{limits_of}
use Rattle.records.proofs.Outcomes.{refuse-passed, then-passed, success-same}
use Rattle.days.proofs.Checks.{check-passed}
use Rattle.chains.specs.Sweep.{trace_bytes}
use Rattle.chains.specs.Judging.{is_start, StartOfDay, start_judged, trace_judged}

-- the test passes exactly where index and start tick are of the day
start-in : (n T index s : ℕ) → index < n → s < T → is_start n T index s ≡ true
unfolding is_start
start-in n T index s h k = and_in (ltb index n) (ltb s T) (lt-ltb index n h) (lt-ltb s T k)

start_of : (n T index s : ℕ) → is_start n T index s ≡ true → (index < n) × (s < T)
unfolding is_start
start_of n T index s e = (ltb-true _ _ (and_left _ _ e), ltb-true _ _ (and_right _ _ e))

-- such are judged by the bytes, and any other by 22
pub start-yes : (n T : ℕ) (ws : List ℕ) (index s : ℕ) → index < n → s < T → start_judged n T ws index s ≡ success (trace_bytes n T ws index s)
unfolding start_judged refuse_if isnt
start-yes n T ws index s h k = rw (start-in n T index s h k)

pub start-no : (n T : ℕ) (ws : List ℕ) (index s : ℕ) → ((index < n) × (s < T) → ⊥) → start_judged n T ws index s ≡ refused 22 0
unfolding start_judged refuse_if isnt
start-no n T ws index s f = rw (to-false (is_start n T index s) (λ e. f (start_of n T index s e)))

-- where there are bytes, the words are a day, and index and start tick are of it
pub judged-start : {n T : ℕ} {ws : List ℕ} {index s : ℕ} (bytes : List ℕ) → trace_judged n T ws index s ≡ success bytes → StartOfDay n T ws index s × (bytes ≡ trace_bytes n T ws index s)
unfolding trace_judged start_judged
judged-start {n} {T} {ws} {index} {s} bytes e =
    let c = then-passed _ _ e in
    let p = refuse-passed (isnt (is_start n T index s)) 22 0 _ c.2 in
    let h = start_of n T index s (isnt-false _ p.0) in
    (record { lent = check-passed n T ws c.1; badge = h.0; tick = h.1 }, sym (success-same p.1))

-- the badges of the day fit a set, and its ticks a byte
pub start-few : {n T : ℕ} {ws : List ℕ} {index s : ℕ} → StartOfDay n T ws index s → (n ≤ capacity) × (T ≤ max_ticks)
start-few d = let l = limits_of d.lent.limits in (l.few, l.short)
