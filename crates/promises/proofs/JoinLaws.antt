-- What the promise of joining comes to, for every call that keeps it: it leaves no choice; logs that mean the same leave what reading one of them leaves;
-- a larger quorum leaves no bit more; the order of the logs makes no difference; and quorum 1 is all logs together.
use mathlib.Core.Path.{◌≡◌, refl, sym, ap, ap₂, ◌∙◌, subst}
use mathlib.Core.List.Memᴰ
use mathlib.Core.List.{List, [], ◌∷◌, ◌++◌, map, flatten, Memᴰ}
use mathlib.Core.List.Permᴰ
use mathlib.Core.List.{Permᴰ}
use mathlib.Core.Logic.{◌⊎◌, inl, inr}
use Prim.Native.Nat.{ℕ, suc, ◌+◌, ◌*◌, ◌≤◌, ◌<◌}
use native.Mathlib.Omega.{arith}
use lib.ListN.{length, take, drop, take-append-drop, length-drop}
use lib.Seq.{length-take-le}
use Rattle.sets.specs.Bytes.{Bytes}
use Rattle.sets.specs.Sets.{In}
use Rattle.sets.proofs.Bytes.{bytes_take, bytes_drop}
use Rattle.records.specs.declared.record.Record.{Record}
use Rattle.records.specs.Limits.{words_for}
use Rattle.records.specs.Outcomes.{Outcome, success}
use Rattle.records.specs.Logs.{Mem, IsLog}
use Rattle.records.proofs.Shifting.{judged-at}
use Rattle.records.proofs.Theorems.{accepted-log}
use Rattle.days.specs.Days.{neighbours, LentDay}
use Rattle.days.specs.Calls.{Read}
use Rattle.series.specs.Series.{parts, judge_logs, badges_in, ticks_in, AllSized, Size, common_size}
use Rattle.series.proofs.SeriesJudged.{fronted, records-count, parts-count, series-passed}
use Rattle.receivers.specs.Joining.{sum, Join, join_of}
use Rattle.receivers.proofs.JoinCall.{succeeded}
use Rattle.promises.specs.Reading.{Reads}
use Rattle.promises.proofs.ReadTheorems.{days-same}
use Rattle.promises.specs.Joining.{AreLogs, none, more, JoinAsked, HasJoined, Joins}
use Rattle.promises.specs.Tidying.{SameMeaning}
use Rattle.promises.proofs.Quorums.{some_of, some_in, at-least-fewer, at-least-all, at-least-permuted}
use Rattle.promises.proofs.JoinTheorems.{are-count, Decided, for-refusal, for-day, decided, joins, joined-lent-day}

-- What a call leaves that has joined logs is the same for all calls.
same-join : {a a' : Outcome Size} {w w' k k' : List ℕ} → a ≡ a' → w ≡ w' → k ≡ k' → ◌≡◌ {A = Join} (record { answer = a; words = w; work = k }) (record { answer = a'; words = w'; work = k' })
same-join e f g = cc

both-joined : {n T q : ℕ} {all : List (List Record)} {words work : List ℕ} (x y : Join) → words_for n T ≤ length words → HasJoined n T q all words work x → HasJoined n T q all words work y → x ≡ y
both-joined {n} {T} {all = all} x y h a b =
    let count = length all * words_for n T in
    same-join (a.answers ∙ sym b.answers) (days-same a.day b.day h (λ t u v. (λ m. m, λ m. m)))
    (sym (take-append-drop count x.work) ∙ ap₂ ◌++◌ (a.cleared.zeros ∙ sym b.cleared.zeros) (a.cleared.keeps ∙ sym b.cleared.keeps) ∙ take-append-drop count y.work)

-- Bytes that pass are logs that may be asked for: their parts, end to end and in their lengths, are the bytes and the lengths.
parts-flat : (logs lengths : List ℕ) → sum lengths ≡ length logs → flatten (parts logs lengths) ≡ logs
unfolding parts flatten sum
parts-flat [] [] e = refl
parts-flat (b ∷ logs) [] e = absurd (omega arith)
parts-flat logs (l ∷ ls) e = rw (parts-flat (drop l logs) ls (omega (arith, length-drop l logs))) (take-append-drop l logs)

parts-lengths : (logs lengths : List ℕ) → sum lengths ≡ length logs → map length (parts logs lengths) ≡ lengths
unfolding parts sum
parts-lengths logs [] e = refl
parts-lengths logs (l ∷ ls) e = rw (length-take-le l logs (omega arith), parts-lengths (drop l logs) ls (omega (arith, length-drop l logs)))

parts-logs : (at n T : ℕ) (logs lengths : List ℕ) (all : List (List Record)) → Bytes logs → judge_logs at (parts logs lengths) ≡ success all → AllSized n T all
    → (contacts : List (List Record)) × AreLogs n T (parts logs lengths) contacts
unfolding parts
parts-logs at n T logs [] all b e s = ([], none)
parts-logs at n T logs (l ∷ ls) all b e s =
    let f = fronted at (take l logs) (parts (drop l logs) ls) all e in
    let sized : AllSized n T (f.first ∷ f.rest) = subst (AllSized n T) (sym f.same) s in
    let z = sized f.first (Memᴰ.head refl) in
    let a = accepted-log (take l logs) f.first (bytes_take l b) (judged-at at _ _ f.accepted) in
    let log : IsLog (take l logs) n T a.0 = rw (z.badges, z.ticks) at a.1 in
    let r = parts-logs (at + length (take l logs)) n T (drop l logs) ls f.rest (bytes_drop l b) f.others (λ rs m. sized rs (Memᴰ.tail m)) in
    (a.0 ∷ r.0, more log r.1)

-- logs in another order have their contacts in that order, and there are as many
permuted-length : {A : Type 0} {xs ys : List A} → Permᴰ xs ys → length ys ≡ length xs
permuted-length Permᴰ.nil = refl
permuted-length (Permᴰ.cons e d) = ap suc (permuted-length d)
permuted-length (Permᴰ.swap e f) = refl
permuted-length (Permᴰ.trans d d') = permuted-length d' ∙ permuted-length d

record Permuted (n T : ℕ) (all : List (List Record)) (logs : List (List ℕ)) : Type 0 where
  contacts : List (List Record)
  are : AreLogs n T logs contacts
  order : Permᴰ all contacts

are-permuted : {n T : ℕ} {logs logs' : List (List ℕ)} {all : List (List Record)} → AreLogs n T logs all → Permᴰ logs logs' → Permuted n T all logs'
are-permuted none Permᴰ.nil = record { contacts = []; are = none; order = Permᴰ.nil }
are-permuted {n} {T} (more {cts = cts} l r) (Permᴰ.cons e d) =
    let s = are-permuted r d in
    record { contacts = cts ∷ s.contacts; are = more (subst (λ (x : List ℕ). IsLog x n T cts) e l) s.are; order = Permᴰ.cons refl s.order }
are-permuted {n} {T} (more {cts = cts} l (more {cts = cts'} {all = rest} m r)) (Permᴰ.swap e f) = record {
  contacts = cts' ∷ cts ∷ rest;
  are = more (subst (λ (x : List ℕ). IsLog x n T cts') f m) (more (subst (λ (x : List ℕ). IsLog x n T cts) e l) r);
  order = Permᴰ.swap refl refl;
}
are-permuted r (Permᴰ.trans d d') =
    let s = are-permuted r d in
    let z = are-permuted s.are d' in
    record { contacts = z.contacts; are = z.are; order = Permᴰ.trans s.order z.order }

-- the contact records of all logs together
in-flatten : {c : Record} {cts : List Record} {all : List (List Record)} → Memᴰ cts all → Mem c cts → Mem c (flatten all)
unfolding flatten
in-flatten {c} (Memᴰ.head {xs = rest} e) i = Memᴰ.append_left (flatten rest) (subst (Mem c) e i)
in-flatten (Memᴰ.tail {x = x} m) i = Memᴰ.append_right x (in-flatten m i)

of-flatten : {c : Record} (all : List (List Record)) → Mem c (flatten all) → (cts : List Record) × Memᴰ cts all × Mem c cts
unfolding flatten
of-flatten [] m = absurd (Memᴰ.not-nil m)
of-flatten {c} (x ∷ all) m = go (Memᴰ.append_cases x m) (of-flatten all)
  where
    go : Mem c x ⊎ Mem c (flatten all) → (Mem c (flatten all) → (cts : List Record) × Memᴰ cts all × Mem c cts) → (cts : List Record) × Memᴰ cts (x ∷ all) × Mem c cts
    go (inl i) ih = (x, Memᴰ.head refl, i)
    go (inr i) ih = let s = ih i in (s.0, Memᴰ.tail s.1, s.2)

module _ (call : List ℕ → List ℕ → ℕ → List ℕ → List ℕ → Join) (p : Joins call) where
  -- The promise leaves no choice: whatever keeps it leaves of logs what ours leaves,
  pub promised : {n T q : ℕ} {logs : List (List ℕ)} {all : List (List Record)} {words work : List ℕ} → JoinAsked n T q logs all words work
      → call (flatten logs) (map length logs) q words work ≡ join_of (flatten logs) (map length logs) q words work
  promised a = both-joined _ _ a.room (p.succeeds _ _ _ _ _ _ _ a) (joins.succeeds _ _ _ _ _ _ _ a)

  -- and so of all bytes, whatever the lengths, the quorum and the words, also where it refuses.
  pub no-choice : (logs lengths : List ℕ) (q : ℕ) (words work : List ℕ) → Bytes logs → call logs lengths q words work ≡ join_of logs lengths q words work
  unfolding common_size
  no-choice logs lengths q words work b = go (decided logs lengths q words work)
    where
      go : Decided logs lengths q words work → call logs lengths q words work ≡ join_of logs lengths q words work
      go (for-refusal r) = p.refuses logs lengths q words work _ _ r ∙ sym (joins.refuses logs lengths q words work _ _ r)
      go (for-day all e) =
          let s = succeeded logs lengths q words work (common_size all) (ap (λ (x : Join). x.answer) e) in
          let rss = s.all in
          let t = series-passed (parts logs lengths) (length words) (length work) rss s.passed in
          let c = parts-logs 0 (badges_in rss) (ticks_in rss) logs lengths rss b t.judged t.sized in
          let count : length (parts logs lengths) ≡ length lengths = parts-count logs lengths in
          let a : JoinAsked (badges_in rss) (ticks_in rss) q (parts logs lengths) c.0 words work = record {
            are = c.1;
            several = rw count s.tested.several;
            few = rw count s.tested.few;
            some = s.tested.some;
            most = rw count s.tested.most;
            room = t.roomy;
            work_room = rw (← records-count 0 (parts logs lengths) rss t.judged) t.enough;
          } in
          rw (parts-flat logs lengths s.tested.whole, parts-lengths logs lengths s.tested.whole) at (promised a)

  -- What is left of logs is a lent day.
  pub leaves-day : {n T q : ℕ} {logs : List (List ℕ)} {all : List (List Record)} {words work : List ℕ} → JoinAsked n T q logs all words work
      → LentDay n T (call (flatten logs) (map length logs) q words work).words
  leaves-day {n} {T} {q} {logs} {all} {words} {work} a =
      subst (λ (x : Join). LentDay n T x.words) (sym (promised a)) (joined-lent-day (flatten logs) (map length logs) q n T words work (joins.succeeds n T q logs all words work a).answers)

  -- Logs that all mean the same as one leave, at every quorum, the words that reading this one leaves.
  pub same-meaning-read : (read : List ℕ → List ℕ → Read) → Reads read → {n T q : ℕ} {logs : List (List ℕ)} {all : List (List Record)} {words work : List ℕ}
      → JoinAsked n T q logs all words work → (log : List ℕ) (cts : List Record) → IsLog log n T cts → ((x : List Record) → Memᴰ x all → SameMeaning n T x n T cts)
      → (call (flatten logs) (map length logs) q words work).words ≡ (read log words).words
  same-meaning-read read r {n} {T} {q} {logs} {all} {words} {work} a log cts l same =
      days-same (p.succeeds _ _ _ _ _ _ _ a).day (r log words n T cts l a.room).day a.room (λ t u v. (
        λ m. let s = some_of m a.some in ((same s.0 s.1).contacts t u v).0 s.2,
        λ m. at-least-all q all (omega (arith, are-count a.are, a.most)) (λ x i. ((same x i).contacts t u v).1 m),
      ))

  -- A larger quorum leaves no bit that a smaller one does not leave.
  pub larger-quorum : {n T q q' : ℕ} {logs : List (List ℕ)} {all : List (List Record)} {words work work' : List ℕ} → JoinAsked n T q logs all words work → JoinAsked n T q' logs all words work'
      → q ≤ q' → (t u v : ℕ) → t < T → u < n → In (neighbours n (call (flatten logs) (map length logs) q' words work').words t u) v
      → In (neighbours n (call (flatten logs) (map length logs) q words work).words t u) v
  larger-quorum a b h t u v x y i =
      ((p.succeeds _ _ _ _ _ _ _ a).day.marks t u v x y).1 (at-least-fewer h (((p.succeeds _ _ _ _ _ _ _ b).day.marks t u v x y).0 i))

  -- The logs in another order leave the same day.
  pub any_order : {n T q : ℕ} {logs logs' : List (List ℕ)} {all : List (List Record)} {words work work' : List ℕ} → JoinAsked n T q logs all words work → Permᴰ logs logs'
      → length logs * words_for n T ≤ length work' → (call (flatten logs') (map length logs') q words work').words ≡ (call (flatten logs) (map length logs) q words work).words
  any_order {n} {T} {q} {logs} {logs'} {all} {words} {work} {work'} a d h =
      let s = are-permuted a.are d in
      let e : length logs' ≡ length logs = permuted-length d in
      let b : JoinAsked n T q logs' s.contacts words work' =
      record { are = s.are; several = omega (arith, a.several); few = omega (arith, a.few); some = a.some; most = omega (arith, a.most); room = a.room; work_room = rw e h } in
      days-same (p.succeeds _ _ _ _ _ _ _ b).day (p.succeeds _ _ _ _ _ _ _ a).day a.room (λ t u v. (λ m. at-least-permuted (Permᴰ.symm s.order) m, λ m. at-least-permuted s.order m))

  -- At quorum 1 the words are those that reading a log of the contact records of all of them leaves.
  pub together : (read : List ℕ → List ℕ → Read) → Reads read → {n T : ℕ} {logs : List (List ℕ)} {all : List (List Record)} {words work : List ℕ} → JoinAsked n T 1 logs all words work
      → (log : List ℕ) → IsLog log n T (flatten all) → (call (flatten logs) (map length logs) 1 words work).words ≡ (read log words).words
  together read r {n} {T} {logs} {all} {words} {work} a log l =
      days-same (p.succeeds _ _ _ _ _ _ _ a).day (r log words n T (flatten all) l a.room).day a.room (λ t u v. (
        λ m. let s = some_of m a.some in (s.2.0, in-flatten s.1 s.2.1, s.2.2),
        λ m. let s = of-flatten all m.1 in some_in s.1 (m.0, s.2, m.2),
      ))
