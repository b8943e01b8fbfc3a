-- Substitutes for joining, each refuted from the promise that joining keeps (specs/Joining). They are tried on small logs of two badges and one tick.
use mathlib.Core.Path.{◌≡◌, refl, sym, ap, ◌∙◌, subst}
use mathlib.Core.Bool.{true}
use mathlib.Core.List.Memᴰ
use mathlib.Core.List.{List, [], ◌∷◌, ◌++◌, map, flatten}
use Prim.Native.Nat.{ℕ, suc, ◌+◌, ◌*◌, ◌≤◌, ◌<◌}
use native.Mathlib.Omega.{arith}
use lib.Dec.{leb}
use lib.ListN.{length, get_or, take, drop, replicate}
use lib.Seq.{get_or-take, get_or-drop}
use Rattle.sets.specs.Words.{set_words, set_at, from_words, to_words, words_of}
use Rattle.sets.specs.Bools.{◌and◌, ◌or◌, isnt}
use Rattle.sets.specs.Bytes.{little_endian, from_little_endian}
use Rattle.sets.specs.Sets.{In, digit, bit, set_of}
use Rattle.sets.specs.Tables.{tabulate}
use Rattle.records.specs.declared.record.Record.{Record}
use Rattle.records.specs.Limits.{words_for, within_limits}
use Rattle.records.specs.Records.{fields_of, encode, encode_all, is_mark, mark_from, record_from, decode_marked, decode}
use Rattle.records.specs.Outcomes.{Outcome, refused, success, refuse_if, and_then}
use Rattle.records.specs.Judging.{valid_contact, judge_kind, judge_values, judge_decoded, judge_record, prepend, judge_in, judge_from, judge}
use Rattle.records.specs.Meaning.{badges_of, ticks_of, covers}
use Rattle.records.specs.Logs.{Mem, log_records, IsLog}
use Rattle.records.proofs.Outcomes.{refused-success}
use Rattle.records.proofs.Numbers.{judge-number}
use Rattle.records.proofs.Shifting.{judge-shifted}
use Rattle.records.proofs.Theorems.{log-accepted}
use Rattle.days.specs.Days.{neighbours, tick_sets, day_sets, day_words}
use Rattle.series.specs.Series.{parts, judge_logs, badges_in, ticks_in, have_size, day_size, all_size, judge_series, Size, common_size}
use Rattle.receivers.specs.Joining.{sum, Joinable, joinable, judge_join, Join, join_of}
use Rattle.promises.specs.Joining.{none, more, AtLeast, enough, counted, passed, MetBy, JoinAsked, OneSize, JoinRefusal, by_log, by_19, Joins}
use Rattle.promises.proofs.SmallLogs.{meeting, never, once, twice, bytes_of, never-log, once-log, twice-log, met}
use Rattle.promises.proofs.Quorums.{some_of}
use Rattle.promises.proofs.JoinTheorems.{joins}

-- all that is computed with: the small logs, judging a log, days, and judging several logs
logs-computing : ℕ
unfolding meeting never once twice bytes_of little_endian fields_of encode encode_all log_records
logs-computing = 0

judging-computing : ℕ
unfolding logs-computing ◌and◌ ◌or◌ isnt from_little_endian within_limits is_mark mark_from record_from decode_marked decode valid_contact judge_kind judge_values judge_decoded judge_record prepend judge_in judge_from judge
judging-computing = 0

computing : ℕ
unfolding judging-computing flatten bit set_of tabulate badges_of ticks_of covers neighbours tick_sets day_sets day_words refuse_if and_then parts judge_logs badges_in ticks_in have_size judge_series common_size sum joinable judge_join set_at from_words to_words words_of
computing = 0

-- what a call takes, and two logs, day words and work words that it is asked to join at quorum 1 and at quorum 2; the last work word is beyond
abbrev Call : Type 0
Call = List ℕ → List ℕ → ℕ → List ℕ → List ℕ → Join

abbrev pair : List Record → List Record → List (List ℕ)
pair x y = bytes_of x ∷ bytes_of y ∷ []

abbrev lent_words : List ℕ
lent_words = replicate (2 * set_words) 7

abbrev lent_work : List ℕ
lent_work = replicate (4 * set_words + 1) 7

asked : {x y : List Record} → IsLog (bytes_of x) 2 1 x → IsLog (bytes_of y) 2 1 y → (q : ℕ) → 1 ≤ q → q ≤ 2 → JoinAsked 2 1 q (pair x y) (x ∷ y ∷ []) lent_words lent_work
asked l m q h k = record { are = more l (more m none); several = omega arith; few = omega arith; some = h; most = k; room = omega arith; work_room = omega arith }

-- The contact 0–1 is set exactly where at least q of the two have it: it is where one has it at quorum 1, and is not at quorum 2 where the other is never.
module _ (call : Call) (p : Joins call) where
  heard-once : In (neighbours 2 (call (flatten (pair once never)) (map length (pair once never)) 1 lent_words lent_work).words 0 0) 1
  unfolding once
  heard-once = ((p.succeeds 2 1 1 _ _ lent_words lent_work (asked once-log never-log 1 (omega arith) (omega arith))).day.marks 0 0 1 (omega arith) (omega arith)).1 (counted (met (Memᴰ.head refl)) enough)

  unheard : {x : List Record} → IsLog (bytes_of x) 2 1 x → In (neighbours 2 (call (flatten (pair x never)) (map length (pair x never)) 2 lent_words lent_work).words 0 0) 1 → ⊥
  unfolding never
  unheard {x} l i = go (((p.succeeds 2 1 2 _ _ lent_words lent_work (asked l never-log 2 (omega arith) (omega arith))).day.marks 0 0 1 (omega arith) (omega arith)).0 i)
    where
      alone : {q : ℕ} → MetBy (suc q) ([] ∷ []) 0 0 1 → ⊥
      alone r = let s = some_of r (omega arith) in Memᴰ.not-nil (subst (Mem s.2.0) (Memᴰ.eq_of_singleton s.1) s.2.1)

      go : MetBy 2 (x ∷ [] ∷ []) 0 0 1 → ⊥
      go (counted m r) = alone r
      go (passed r) = alone r

-- Refusing every call, with whatever number, offset and words.
pub refusing-join : (call : Call) → ((logs lengths : List ℕ) (q : ℕ) (words work : List ℕ) → (number : ℕ) × (offset : ℕ) × ((call logs lengths q words work).answer ≡ refused number offset)) → Joins call → ⊥
refusing-join call r p = refused-success (sym (r _ _ 1 lent_words lent_work).2 ∙ (p.succeeds 2 1 1 _ _ lent_words lent_work (asked once-log never-log 1 (omega arith) (omega arith))).answers)

-- Counting a receiver twice that logs a contact twice: any call that at quorum 2 has the contact where one log has it twice and the other never,
pub receiver-counted-twice : (call : Call) → In (neighbours 2 (call (flatten (pair twice never)) (map length (pair twice never)) 2 lent_words lent_work).words 0 0) 1 → Joins call → ⊥
receiver-counted-twice call i p = unheard call p twice-log i

-- and so any that has a contact wherever at least q contact records, of whatever logs, cover it.
pub records-counted : (call : Call)
    → ((n T q : ℕ) (logs : List (List ℕ)) (all : List (List Record)) (words work : List ℕ) → JoinAsked n T q logs all words work → (t u v : ℕ) → t < T → u < n
    → AtLeast (λ c. covers c t u v ≡ true) q (flatten all) → In (neighbours n (call (flatten logs) (map length logs) q words work).words t u) v)
    → Joins call → ⊥
unfolding flatten twice once never meeting covers ◌and◌ ◌or◌
records-counted call r p =
    receiver-counted-twice call (r 2 1 2 _ _ lent_words lent_work (asked twice-log never-log 2 (omega arith) (omega arith)) 0 0 1 (omega arith) (omega arith) (counted refl (counted refl enough))) p

-- One that does: joining, but with the number of contact records that cover a contact in place of the number of logs that have it.
covering : List Record → ℕ → ℕ → ℕ → ℕ
covering [] t u v = 0
covering (c ∷ cts) t u v = digit (covers c t u v) + covering cts t u v

pub join_by_records : Outcome (List (List Record)) → ℕ → List ℕ → List ℕ → Join
join_by_records (refused number offset) q words work = record { answer = refused number offset; words = words; work = work }
join_by_records (success all) q words work =
    record {
      answer = success (common_size all);
      words = day_words (badges_in all) (ticks_in all) (λ t u v. leb q (covering (flatten all) t u v)) ++ drop (day_size all) words;
      work = replicate (all_size all) 0 ++ drop (all_size all) work;
    }

pub number-of-records : Joins (λ logs lengths q words work. join_by_records (judge_join logs lengths q (length words) (length work)) q words work) → ⊥
unfolding computing covering join_by_records
number-of-records p = receiver-counted-twice _ refl p

-- Taking a quorum for one more, or for one less: the words are those that joining leaves for the other quorum, wherever it succeeds with that.
pub quorum-too-large : (call : Call)
    → ((logs lengths : List ℕ) (q : ℕ) (words work : List ℕ) (size : Size) → (join_of logs lengths (q + 1) words work).answer ≡ success size
    → (call logs lengths q words work).words ≡ (join_of logs lengths (q + 1) words work).words) → Joins call → ⊥
quorum-too-large call e p =
    let f = e _ _ 1 lent_words lent_work _ (joins.succeeds 2 1 2 _ _ lent_words lent_work (asked once-log never-log 2 (omega arith) (omega arith))).answers in
    unheard join_of joins once-log (subst (λ (ws : List ℕ). In (neighbours 2 ws 0 0) 1) f (heard-once call p))

pub quorum-too-small : (call : Call)
    → ((logs lengths : List ℕ) (q : ℕ) (words work : List ℕ) (size : Size) → (join_of logs lengths q words work).answer ≡ success size
    → (call logs lengths (q + 1) words work).words ≡ (join_of logs lengths q words work).words) → Joins call → ⊥
quorum-too-small call e p =
    let f = e _ _ 1 lent_words lent_work _ (joins.succeeds 2 1 1 _ _ lent_words lent_work (asked once-log never-log 1 (omega arith) (omega arith))).answers in
    unheard call p once-log (subst (λ (ws : List ℕ). In (neighbours 2 ws 0 0) 1) (sym f) (heard-once join_of joins))

-- what a call leaves in the work words, wherever it is asked to join logs of n and T
abbrev LeavesWork : Call → (ℕ → ℕ → List ℕ → List ℕ → Type 0) → Type 0
LeavesWork call P =
    (n T q : ℕ) (logs : List (List ℕ)) (all : List (List Record)) (words work : List ℕ) → JoinAsked n T q logs all words work → P n T work (call (flatten logs) (map length logs) q words work).work

-- Clearing the work words of one log alone: any call that keeps those after the first 2×n×T, and so any that keeps all of them.
pub work-of-one-log-cleared : (call : Call) → LeavesWork call (λ n T work left. drop (words_for n T) left ≡ drop (words_for n T) work) → Joins call → ⊥
work-of-one-log-cleared call e p =
    let a = asked once-log never-log 1 (omega arith) (omega arith) in
    let left = (call (flatten (pair once never)) (map length (pair once never)) 1 lent_words lent_work).work in
    let second = 2 * set_words in
    let zeros : take (4 * set_words) left ≡ replicate (4 * set_words) 0 = (p.succeeds 2 1 1 _ _ lent_words lent_work a).cleared.zeros in
    let kept : drop second left ≡ drop second lent_work = e 2 1 1 _ _ lent_words lent_work a in
    let clear : get_or left second 0 ≡ 0 = sym (get_or-take (4 * set_words) left second 0 (omega arith)) ∙ ap (λ (l : List ℕ). get_or l second 0) zeros in
    let same : get_or left second 0 ≡ 7 = sym (get_or-drop second left 0 0) ∙ ap (λ (l : List ℕ). get_or l 0 0) kept in
    omega arith

pub work-kept : (call : Call) → LeavesWork call (λ n T work left. left ≡ work) → Joins call → ⊥
work-kept call e p = work-of-one-log-cleared call (λ n T q logs all words work a. ap (drop (words_for n T)) (e n T q logs all words work a)) p

-- Clearing all work words, also those beyond.
pub work-beyond-cleared : (call : Call) → LeavesWork call (λ n T work left. left ≡ replicate (length work) 0) → Joins call → ⊥
work-beyond-cleared call e p =
    let a = asked once-log never-log 1 (omega arith) (omega arith) in
    let left = (call (flatten (pair once never)) (map length (pair once never)) 1 lent_words lent_work).work in
    let keeps : drop (4 * set_words) left ≡ 7 ∷ [] = (p.succeeds 2 1 1 _ _ lent_words lent_work a).cleared.keeps in
    let zeros : drop (4 * set_words) left ≡ 0 ∷ [] = ap (drop (4 * set_words)) (e 2 1 1 _ _ lent_words lent_work a) in
    let z : ◌≡◌ {A = ℕ} 7 0 = ap (λ (l : List ℕ). get_or l 0 0) (sym keeps ∙ zeros) in
    omega arith

-- a refusal has one number and one offset
refused-number : {k o m r : ℕ} → ◌≡◌ {A = Outcome Size} (refused k o) (refused m r) → k ≡ m
refused-number e = cc

refused-offset : {k o m r : ℕ} → ◌≡◌ {A = Outcome Size} (refused k o) (refused m r) → o ≡ r
refused-offset e = cc

-- Changing words or work words of a call that there is cause to refuse.
module _ (call : Call) {logs lengths : List ℕ} {q : ℕ} {words work : List ℕ} {number offset : ℕ} (r : JoinRefusal logs lengths q (length words) (length work) number offset) where
  pub words-touched-on-refusal : ((call logs lengths q words work).words ≡ words → ⊥) → Joins call → ⊥
  words-touched-on-refusal f p = f (ap (λ (x : Join). x.words) (p.refuses logs lengths q words work number offset r))

  pub work-touched-on-refusal : ((call logs lengths q words work).work ≡ work → ⊥) → Joins call → ⊥
  work-touched-on-refusal f p = f (ap (λ (x : Join). x.work) (p.refuses logs lengths q words work number offset r))

  -- or giving it another number or offset
  pub other-refusal : ((call logs lengths q words work).answer ≡ refused number offset → ⊥) → Joins call → ⊥
  other-refusal f p = f (ap (λ (x : Join). x.answer) (p.refuses logs lengths q words work number offset r))

-- Giving a log that is refused another number than 1 to 7, so 8 or 19 before the logs are judged;
logs-number : (at : ℕ) (logs : List (List ℕ)) (number offset : ℕ) → judge_logs at logs ≡ refused number offset → number ≤ 7
unfolding judge_logs and_then
logs-number at [] number offset e = absurd (refused-success (sym e))
logs-number at (log ∷ logs) number offset e = first (judge log) refl (logs-number (at + length log) logs)
  where
    others : (o : Outcome (List (List Record))) → judge_logs (at + length log) logs ≡ o → (rs : List Record) → and_then o (λ rest. success (rs ∷ rest)) ≡ refused number offset
        → ((k o : ℕ) → judge_logs (at + length log) logs ≡ refused k o → k ≤ 7) → number ≤ 7
    others (refused k o) g rs h ih = let z : k ≡ number = cc in omega (arith, ih k o g)
    others (success rest) g rs h ih = absurd (refused-success (sym h))

    first : (o : Outcome (List Record)) → judge log ≡ o → ((k o : ℕ) → judge_logs (at + length log) logs ≡ refused k o → k ≤ 7) → number ≤ 7
    first (refused k o) f ih =
        let h : ◌≡◌ {A = Outcome (List (List Record))} (refused k (at + o)) (refused number offset) = rw (judge-shifted at log, f) at e in
        let z : k ≡ number = cc in
        omega (arith, judge-number log k o f)
    first (success rs) f ih = others (judge_logs (at + length log) logs) refl rs (rw (judge-shifted at log, f) at e) ih

module _ (call : Call) {logs lengths : List ℕ} {q : ℕ} {words work : List ℕ} (j : Joinable (length logs) lengths q) where
  pub late-number-first : {number offset : ℕ} → judge_logs 0 (parts logs lengths) ≡ refused number offset → (late at : ℕ) → 7 < late → (call logs lengths q words work).answer ≡ refused late at → Joins call → ⊥
  late-number-first {number} {offset} e late at h f p = other-refusal call (by_log j e) (λ g. let z : late ≡ number = refused-number (sym f ∙ g) in omega (arith, logs-number 0 _ number offset e)) p

  -- and 8 before 19.
  pub eight-before-nineteen : {all : List (List Record)} → judge_logs 0 (parts logs lengths) ≡ success all → (OneSize all → ⊥) → (call logs lengths q words work).answer ≡ refused 8 0 → Joins call → ⊥
  eight-before-nineteen e o f p = other-refusal call (by_19 j e o) (λ g. let z : ◌≡◌ {A = ℕ} 8 19 = refused-number (sym f ∙ g) in omega arith) p

-- So with three logs, the second of three badges where the first has two, and the third of no byte, any call that answers 19.
abbrev three_logs : List ℕ
three_logs = bytes_of never ++ encode_all (log_records 3 1 [])

pub nineteen-first : (call : Call) → (call three_logs (10 ∷ 10 ∷ 0 ∷ []) 1 lent_words lent_work).answer ≡ refused 19 0 → Joins call → ⊥
unfolding computing
nineteen-first call e p =
    late-number-first call {words = lent_words} {work = lent_work} (record { several = omega arith; few = omega arith; some = omega arith; most = omega arith; whole = refl }) {number = 1} {offset = 20} refl 19 0 (omega arith) e p

-- Offsets from a log's own start: any call that refuses the second of two logs, the first of which is accepted, as judging it alone does.
nothing-refused : judge [] ≡ refused 1 0
unfolding computing
nothing-refused = refl

second-refused : JoinRefusal (bytes_of never ++ []) (length (bytes_of never) ∷ 0 ∷ []) 1 (length lent_words) (length lent_work) 1 10
unfolding computing
second-refused = by_log (record { several = omega arith; few = omega arith; some = omega arith; most = omega arith; whole = refl }) refl

pub offset-from-own-start : (call : Call)
    → ((first second : List ℕ) (rs : List Record) (number offset q : ℕ) (words work : List ℕ) → 1 ≤ q → q ≤ 2 → judge first ≡ success rs → judge second ≡ refused number offset
    → (call (first ++ second) (length first ∷ length second ∷ []) q words work).answer ≡ refused number offset) → Joins call → ⊥
offset-from-own-start call e p =
    let f = e (bytes_of never) [] (log_records 2 1 never) 1 0 1 lent_words lent_work (omega arith) (omega arith) (log-accepted _ 2 1 never never-log) nothing-refused in
    other-refusal call second-refused (λ g. let z : ◌≡◌ {A = ℕ} 0 10 = refused-offset (sym f ∙ g) in omega arith) p
