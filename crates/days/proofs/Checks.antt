-- Laws of the check of words that every call on words begins with: its refusals, in the order of judging, when it passes, and that
-- words after the first 2×n×T change nothing.
use mathlib.Core.Path.{◌≡◌, sym, ◌∙◌}
use mathlib.Core.Bool.{Bool, true, false}
use mathlib.Core.List.{List, ◌++◌}
use Prim.Native.Nat.{ℕ, ◌≤◌, ◌<◌}
use native.Mathlib.Omega.{arith}
use lib.ListN.{length, length-append}
use borrow.Author.Tests.{lt-ltb, le-ltb, ltb-false}
use Rattle.sets.specs.Bools.{isnt}
use Rattle.sets.proofs.Bools.{to-false, isnt-false, same_test}
use Rattle.records.specs.Limits.{within_limits, words_for}
use Rattle.records.specs.Outcomes.{refused, success, refuse_if}
use Rattle.records.proofs.Outcomes.{refuse-passed}
use Rattle.days.specs.Days.{neighbours, day_words, IsDay, LentDay, is_day}
use Rattle.days.specs.Calls.{check_of}
use Rattle.days.proofs.Days.{day-length, neighbours-append, relation-day, day-head}
use Rattle.days.proofs.Scan.{day-in, day-of}

-- n or T outside its limits: 10
pub check-limits : (n T : ℕ) (ws : List ℕ) → within_limits n T ≡ false → check_of n T ws ≡ refused 10 0
unfolding check_of refuse_if isnt
check-limits n T ws e = rw e

-- fewer than 2×n×T words: 8
pub check-few : (n T : ℕ) (ws : List ℕ) → within_limits n T ≡ true → length ws < words_for n T → check_of n T ws ≡ refused 8 0
unfolding check_of refuse_if isnt
check-few n T ws e h = rw (e, lt-ltb _ _ h)

-- words that are not a day: 11
pub check-broken : (n T : ℕ) (ws : List ℕ) → within_limits n T ≡ true → words_for n T ≤ length ws → (IsDay n T ws → ⊥) → check_of n T ws ≡ refused 11 0
unfolding check_of refuse_if isnt
check-broken n T ws e h f = rw (e, le-ltb _ _ h, to-false (is_day n T ws) (λ g. f (day-of n T ws g)))

-- a day's words pass
pub check-day : (n T : ℕ) (ws : List ℕ) → within_limits n T ≡ true → words_for n T ≤ length ws → IsDay n T ws → check_of n T ws ≡ success tt
unfolding check_of refuse_if isnt
check-day n T ws e h d = rw (e, le-ltb _ _ h, day-in n T ws d)

-- words that pass are a day's
pub check-passed : (n T : ℕ) (ws : List ℕ) → check_of n T ws ≡ success tt → LentDay n T ws
unfolding check_of
check-passed n T ws e =
    let limits = refuse-passed _ _ _ _ e in
    let enough = refuse-passed _ _ _ _ limits.1 in
    let day = refuse-passed _ _ _ _ enough.1 in
    record { limits = isnt-false _ limits.0; enough = ltb-false _ _ enough.0; day = day-of n T ws (isnt-false _ day.0) }

-- words after the first 2×n×T change nothing
pub check-append : (n T : ℕ) (ws rest : List ℕ) → length ws ≡ words_for n T → check_of n T (ws ++ rest) ≡ check_of n T ws
unfolding check_of
check-append n T ws rest e =
    let same : (t u : ℕ) → t < T → u < n → neighbours n (ws ++ rest) t u ≡ neighbours n ws t u = λ t u h k. neighbours-append n T ws rest t u e h k in
    let day : is_day n T (ws ++ rest) ≡ is_day n T ws = same_test _ _
    (λ f. day-in n T ws (day-head n T _ _ same (day-of n T _ f)))
    (λ f. day-in n T _ (day-head n T _ _ (λ t u h k. sym (same t u h k)) (day-of n T ws f))) in
    rw (le-ltb (length (ws ++ rest)) (words_for n T) (omega (arith, length-append ws rest)), le-ltb (length ws) (words_for n T) (omega arith), day)

-- so the outcome is the same whatever stands after them
pub check-rest : (n T : ℕ) (ws xs ys : List ℕ) → length ws ≡ words_for n T → check_of n T (ws ++ xs) ≡ check_of n T (ws ++ ys)
check-rest n T ws xs ys e = check-append n T ws xs e ∙ sym (check-append n T ws ys e)

-- the words of every symmetric relation of different badges pass, whatever stands after them
pub relation-passes : (n T : ℕ) (r : ℕ → ℕ → ℕ → Bool) → within_limits n T ≡ true → ((t u : ℕ) → t < T → u < n → r t u u ≡ true → ⊥)
    → ((t u v : ℕ) → t < T → u < n → v < n → r t u v ≡ true → r t v u ≡ true) → (rest : List ℕ) → check_of n T (day_words n T r ++ rest) ≡ success tt
relation-passes n T r l f g rest =
    let e = day-length n T r in
    check-append n T (day_words n T r) rest e ∙ check-day n T (day_words n T r) l (omega arith) (relation-day n T r f g)
