-- Laws of judging a series of logs: what passes, and what is known of the logs then.
use mathlib.Core.Path.{◌≡◌, refl, sym, ap, ◌∙◌, subst}
use mathlib.Core.Bool.{true, false}
use mathlib.Core.List.Memᴰ
use mathlib.Core.List.{List, [], ◌∷◌, Memᴰ}
use Prim.Native.Nat.{ℕ, suc, ◌+◌, ◌≤◌, ◌<◌}
use native.Mathlib.Omega.{arith}
use lib.ListN.{length, drop}
use borrow.Author.Tests.{eqb-true, eq-eqb, ltb-false, lt-ltb, le-ltb}
use Rattle.sets.specs.Bools.{◌or◌, isnt}
use Rattle.sets.proofs.Bools.{and_in, and_left, and_right, or-neither, isnt-false}
use Rattle.records.specs.declared.record.Record.{Record}
use Rattle.records.specs.Outcomes.{refused, success, refuse_if, and_then}
use Rattle.records.specs.Judging.{start, judge_from}
use Rattle.records.proofs.Outcomes.{success-same, refuse-passed, then-passed}
use Rattle.records.proofs.Accepting.{Accepted, accepted-of}
use Rattle.series.specs.Series.{parts, judge_logs, badges_in, ticks_in, Sized, AllSized, have_size, day_size, all_size, judge_series}

-- the test passes exactly when every log has the size
pub size-of : (n T : ℕ) (all : List (List Record)) → have_size n T all ≡ true → AllSized n T all
unfolding have_size
size-of n T [] e rs i = elim i [ ]
size-of n T (x ∷ all) e rs (Memᴰ.head i) =
    let a = and_left _ _ e in
    subst (Sized n T) (sym i) (record { badges = eqb-true _ _ (and_left _ _ a); ticks = eqb-true _ _ (and_right _ _ a) })
size-of n T (x ∷ all) e rs (Memᴰ.tail i) = size-of n T all (and_right _ _ e) rs i

pub size-in : (n T : ℕ) (all : List (List Record)) → AllSized n T all → have_size n T all ≡ true
unfolding have_size
size-in n T [] h = refl
size-in n T (x ∷ all) h =
    let s = h x (Memᴰ.head refl) in
    and_in _ _ (and_in _ _ (eq-eqb _ _ s.badges) (eq-eqb _ _ s.ticks)) (size-in n T all (λ rs i. h rs (Memᴰ.tail i)))

-- the first of logs of one size has it
pub first-sized : (n T : ℕ) (all : List (List Record)) → 0 < length all → AllSized n T all → (badges_in all ≡ n) × (ticks_in all ≡ T)
unfolding badges_in ticks_in
first-sized n T [] h s = absurd (omega arith)
first-sized n T (rs ∷ all) h s = let z = s rs (Memᴰ.head refl) in (z.badges, z.ticks)

-- the first log's records, and those of the others, where all are accepted
pub record Fronted (at : ℕ) (log : List ℕ) (logs : List (List ℕ)) (all : List (List Record)) : Type 0 where
  pub first : List Record
  pub rest : List (List Record)
  pub accepted : judge_from (start at) log ≡ success first
  pub others : judge_logs (at + length log) logs ≡ success rest
  pub same : first ∷ rest ≡ all

pub fronted : (at : ℕ) (log : List ℕ) (logs : List (List ℕ)) (all : List (List Record)) → judge_logs at (log ∷ logs) ≡ success all → Fronted at log logs all
unfolding judge_logs
fronted at log logs all e =
    let p = then-passed _ _ e in
    let r = then-passed _ _ p.2 in
    record { first = p.0; rest = r.0; accepted = p.1; others = r.1; same = success-same r.2 }

-- as many lists of records as logs, and as many logs as lengths
pub records-count : (at : ℕ) (logs : List (List ℕ)) (all : List (List Record)) → judge_logs at logs ≡ success all → length all ≡ length logs
unfolding judge_logs
records-count at [] all e = ap length (sym (success-same e))
records-count at (log ∷ logs) all e =
    let f = fronted at log logs all e in
    ap length (sym f.same) ∙ ap suc (records-count (at + length log) logs f.rest f.others)

pub parts-count : (logs lengths : List ℕ) → length (parts logs lengths) ≡ length lengths
unfolding parts
parts-count logs [] = refl
parts-count logs (l ∷ ls) = ap suc (parts-count (drop l logs) ls)

-- each list of records is that of an accepted log
pub each-accepted : (at : ℕ) (logs : List (List ℕ)) (all : List (List Record)) → judge_logs at logs ≡ success all → (rs : List Record) → Memᴰ rs all → (log : List ℕ) × Accepted log rs
unfolding judge_logs
each-accepted at [] all e rs m = absurd (Memᴰ.not-nil (subst (Memᴰ rs) (sym (success-same e)) m))
each-accepted at (log ∷ logs) all e rs m =
    let f = fronted at log logs all e in
    go f (each-accepted (at + length log) logs f.rest f.others rs) (subst (Memᴰ rs) (sym f.same) m)
  where
    go : (f : Fronted at log logs all) → (Memᴰ rs f.rest → (l : List ℕ) × Accepted l rs) → Memᴰ rs (f.first ∷ f.rest) → (l : List ℕ) × Accepted l rs
    go f ih (Memᴰ.head i) = (log, subst (Accepted log) (sym i) (accepted-of at log f.first f.accepted))
    go f ih (Memᴰ.tail i) = ih i

-- The refusals of a series in their order, and success: a log's, 19, 8.
module _ (logs : List (List ℕ)) (room words : ℕ) where
  pub series-refused : (number offset : ℕ) → judge_logs 0 logs ≡ refused number offset → judge_series logs room words ≡ refused number offset
  unfolding judge_series and_then
  series-refused number offset e = rw e

  module _ (all : List (List Record)) (e : judge_logs 0 logs ≡ success all) where
    pub series-different : have_size (badges_in all) (ticks_in all) all ≡ false → judge_series logs room words ≡ refused 19 0
    unfolding judge_series and_then refuse_if isnt
    series-different f = rw (e, f)

    module _ (s : have_size (badges_in all) (ticks_in all) all ≡ true) where
      pub series-little : room < day_size all → judge_series logs room words ≡ refused 8 0
      unfolding judge_series and_then refuse_if isnt ◌or◌
      series-little h = rw (e, s, lt-ltb _ _ h)

      pub series-few : day_size all ≤ room → words < all_size all → judge_series logs room words ≡ refused 8 0
      unfolding judge_series and_then refuse_if isnt ◌or◌
      series-few h k = rw (e, s, le-ltb _ _ h, lt-ltb _ _ k)

      pub series-success : day_size all ≤ room → all_size all ≤ words → judge_series logs room words ≡ success all
      unfolding judge_series and_then refuse_if isnt ◌or◌
      series-success h k = rw (e, s, le-ltb _ _ h, le-ltb _ _ k)

-- A series that passes: every log is accepted, all have the size of the first, and there is room enough.
pub record Passed (logs : List (List ℕ)) (room words : ℕ) (all : List (List Record)) : Type 0 where
  pub judged : judge_logs 0 logs ≡ success all
  pub sized : AllSized (badges_in all) (ticks_in all) all
  pub roomy : day_size all ≤ room
  pub enough : all_size all ≤ words

pub series-passed : (logs : List (List ℕ)) (room words : ℕ) (all : List (List Record)) → judge_series logs room words ≡ success all → Passed logs room words all
unfolding judge_series
series-passed logs room words all e =
    let p = then-passed _ _ e in
    let q = refuse-passed _ _ _ _ p.2 in
    let r = refuse-passed _ _ _ _ q.1 in
    subst (Passed logs room words) (success-same r.1) (record {
      judged = p.1;
      sized = size-of _ _ p.0 (isnt-false _ q.0);
      roomy = ltb-false _ _ (or-neither _ _ r.0).0;
      enough = ltb-false _ _ (or-neither _ _ r.0).1;
    })
