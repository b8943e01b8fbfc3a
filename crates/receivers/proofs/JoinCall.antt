-- Laws of the joining call: what it leaves where it is refused and where it succeeds, and what is known of the logs then.
use mathlib.Core.Path.{◌≡◌, refl, sym, ap, ◌∙◌}
use mathlib.Core.List.{List, ◌++◌}
use Prim.Native.Nat.{ℕ}
use lib.ListN.{length, drop, replicate}
use Rattle.sets.specs.Bools.{isnt}
use Rattle.sets.proofs.Bools.{isnt-false}
use Rattle.records.specs.declared.record.Record.{Record}
use Rattle.records.specs.Outcomes.{Outcome, refused, success, refuse_if}
use Rattle.records.proofs.Outcomes.{refused-success, success-same, refuse-passed}
use Rattle.series.specs.Series.{parts, day_size, all_size, judge_series, Size, common_size}
use Rattle.receivers.specs.Joining.{Joinable, judge_join, joined_day, Join, join_judged, join_of}
use Rattle.receivers.proofs.Sums.{joinable-of, joinable-in, joinable-not}

-- a refused call leaves every word as it was lent
abbrev pub refusing : ℕ → ℕ → List ℕ → List ℕ → Join
refusing number offset words work = record { answer = refused number offset; words = words; work = work }

-- what a call leaves that succeeds
abbrev pub joining : ℕ → List (List Record) → List ℕ → List ℕ → Join
joining q all words work =
    record { answer = success (common_size all); words = joined_day q all ++ drop (day_size all) words; work = replicate (all_size all) 0 ++ drop (all_size all) work }

module _ (logs lengths : List ℕ) (q : ℕ) (words work : List ℕ) where
  -- 18 first
  pub join-parts : (Joinable (length logs) lengths q → ⊥) → join_of logs lengths q words work ≡ refusing 18 0 words work
  unfolding join_of judge_join join_judged refuse_if isnt
  join-parts f = rw (joinable-not (length logs) lengths q f)

  module _ (j : Joinable (length logs) lengths q) where
    -- then what judging the series comes to
    pub join-refused : (number offset : ℕ) → judge_series (parts logs lengths) (length words) (length work) ≡ refused number offset → join_of logs lengths q words work ≡ refusing number offset words work
    unfolding join_of judge_join join_judged refuse_if isnt
    join-refused number offset e = rw (joinable-in (length logs) lengths q j, e)

    pub join-success : (all : List (List Record)) → judge_series (parts logs lengths) (length words) (length work) ≡ success all → join_of logs lengths q words work ≡ joining q all words work
    unfolding join_of judge_join join_judged refuse_if isnt
    join-success all e = rw (joinable-in (length logs) lengths q j, e)

  -- Where the call succeeds, the lengths and the quorum pass, and so does the series.
  pub record Succeeded (size : Size) : Type 0 where
    pub all : List (List Record)
    pub tested : Joinable (length logs) lengths q
    pub passed : judge_series (parts logs lengths) (length words) (length work) ≡ success all
    pub sized : common_size all ≡ size
    pub leaves : join_of logs lengths q words work ≡ joining q all words work

  pub succeeded : (size : Size) → (join_of logs lengths q words work).answer ≡ success size → Succeeded size
  unfolding join_of judge_join join_judged
  succeeded size e = go (judge_join logs lengths q (length words) (length work)) refl
    where
      go : (o : Outcome (List (List Record))) → judge_join logs lengths q (length words) (length work) ≡ o → Succeeded size
      go (refused number offset) f = absurd (refused-success (sym (ap (λ (x : Outcome (List (List Record))). (join_judged x q words work).answer) f) ∙ e))
      go (success all) f =
          let p = refuse-passed _ 18 0 _ f in
          let j = joinable-of (length logs) lengths q (isnt-false _ p.0) in
          record { all = all; tested = j; passed = p.1; sized = success-same (sym (ap (λ (x : Outcome (List (List Record))). (join_judged x q words work).answer) f) ∙ e); leaves = join-success j all p.1 }
