-- Substitutes for tidying that document 01's acceptance list names, each refuted from the promise that tidy keeps (specs/Tidying).
use mathlib.Core.Path.{◌≡◌, refl, sym, ap, ◌∙◌}
use mathlib.Core.Bool.{Bool, true}
use mathlib.Core.List.Memᴰ
use mathlib.Core.List.{List, [], ◌∷◌}
use mathlib.Core.Logic.{◌↔◌}
use Prim.Native.Nat.{ℕ, ◌+◌, ◌-◌, ◌*◌, ◌≤◌, ◌<◌}
use native.Mathlib.Omega.{arith}
use lib.ListN.{length, get_or, drop, replicate, length-replicate}
use lib.Seq.{take_at}
use lib.ListN.{take}
use Rattle.sets.specs.Words.{set_words, set_at, from_words, to_words, words_of}
use Rattle.sets.specs.Bools.{◌and◌, ◌or◌, isnt}
use Rattle.sets.specs.Bytes.{little_endian}
use Rattle.sets.specs.Tables.{concat_below, keep_if}
use Rattle.sets.proofs.Sets.{not-in-none}
use Rattle.sets.proofs.Bools.{and_left, and_right}
use Rattle.records.specs.declared.record.Record.{Record}
use Rattle.records.specs.declared.record.Record.TheVariants.{Contact}
use Rattle.records.specs.Limits.{within_limits, words_for}
use Rattle.records.specs.Records.{fields_of, encode, encode_all}
use Rattle.records.specs.Outcomes.{Outcome, refused, success}
use Rattle.records.specs.Judging.{valid_contact, judge}
use Rattle.records.specs.Meaning.{badges_of, ticks_of, covers, in_contact}
use Rattle.records.specs.Logs.{Mem, log_records, IsLog}
use Rattle.records.proofs.Outcomes.{refused-success, success-same}
use Rattle.records.proofs.Numbers.{judge-number}
use Rattle.days.specs.Days.{neighbours}
use Rattle.days.specs.Calls.{Read}
use Rattle.logs.specs.Tidy.{run_start, run_ends, run_at, runs_of, row_runs, tidy_contacts, tidy_log}
use Rattle.logs.specs.Calls.{Tidied}
use Rattle.logs.proofs.TidyForm.{tidy-unique}
use Rattle.logs.proofs.TidyCount.{log-runs}
use Rattle.promises.specs.Tidying.{SameMeaning, HasTidied, FoundShort, TidyRefusal, by_log, by_8, by_9, Tidies}
use Rattle.promises.proofs.SmallLogs.{meeting, never, once, twice, bytes_of, never-log, once-log, twice-log, two, met}

-- memory of so many bytes or words
zeros : ℕ → List ℕ
zeros m = replicate m 0

zeros-length : (m : ℕ) → length (zeros m) ≡ m
unfolding zeros
zeros-length m = length-replicate m 0

-- A fixed tidy log: an answer and a buffer that are the same for every log, however they depend on the memory that is lent.
pub fixed-log : (read : List ℕ → List ℕ → Read) (answer : List ℕ → List ℕ → Outcome ℕ) (left : List ℕ → List ℕ → List ℕ) (words : List ℕ → List ℕ → List ℕ → List ℕ) (tidied : List ℕ → List ℕ)
    → Tidies read (λ log work lent. record { answer = answer work lent; words = words log work lent; buffer = left work lent }) tidied → ⊥
unfolding never two once
fixed-log read answer left words tidied p = Memᴰ.not-nil ((same.contacts 0 0 1).1 (met (Memᴰ.head refl))).1
  where
    lent : List ℕ
    lent = zeros (length (tidied (bytes_of never)) + length (tidied (bytes_of once)))

    fits : (m : ℕ) → m ≤ length (tidied (bytes_of never)) + length (tidied (bytes_of once)) → m ≤ length lent
    fits m h = omega (arith, zeros-length (length (tidied (bytes_of never)) + length (tidied (bytes_of once))))

    first : HasTidied 2 1 never (tidied (bytes_of never)) two lent (record { answer = answer two lent; words = words (bytes_of never) two lent; buffer = left two lent })
    first = p.succeeds (bytes_of never) two lent 2 1 never never-log (omega arith) (fits _ (omega arith))

    second : HasTidied 2 1 once (tidied (bytes_of once)) two lent (record { answer = answer two lent; words = words (bytes_of once) two lent; buffer = left two lent })
    second = p.succeeds (bytes_of once) two lent 2 1 once once-log (omega arith) (fits _ (omega arith))

    long : length (tidied (bytes_of never)) ≡ length (tidied (bytes_of once))
    long = success-same (sym first.answers ∙ second.answers)

    equal : tidied (bytes_of never) ≡ tidied (bytes_of once)
    equal = sym (take_at _ (drop (length (tidied (bytes_of never))) lent) (length (tidied (bytes_of never))) refl)
        ∙ ap (take (length (tidied (bytes_of never)))) (sym first.writes ∙ second.writes)
        ∙ take_at _ (drop (length (tidied (bytes_of once))) lent) (length (tidied (bytes_of never))) (sym long)

    same : SameMeaning 2 1 never 2 1 once
    same = (p.decides (bytes_of never) 2 1 never (bytes_of once) 2 1 once never-log once-log).0 equal

-- Refusing all logs, with whatever number, offset, words and buffer.
pub tidy-refusing-all : (read : List ℕ → List ℕ → Read) (number offset : List ℕ → List ℕ → List ℕ → ℕ) (words left : List ℕ → List ℕ → List ℕ → List ℕ) (tidied : List ℕ → List ℕ)
    → Tidies read (λ log work lent. record { answer = refused (number log work lent) (offset log work lent); words = words log work lent; buffer = left log work lent }) tidied → ⊥
unfolding two
tidy-refusing-all read number offset words left tidied p =
    let h : length (tidied (bytes_of never)) ≤ length (zeros (length (tidied (bytes_of never)))) = omega (arith, zeros-length (length (tidied (bytes_of never)))) in
    refused-success (p.succeeds (bytes_of never) two (zeros (length (tidied (bytes_of never)))) 2 1 never never-log (omega arith) h).answers

-- Leaving the work words untouched, with whatever answer and buffer.
pub tidy-words-untouched : (read : List ℕ → List ℕ → Read) (answer : List ℕ → List ℕ → List ℕ → Outcome ℕ) (left : List ℕ → List ℕ → List ℕ → List ℕ) (tidied : List ℕ → List ℕ)
    → Tidies read (λ log work lent. record { answer = answer log work lent; words = work; buffer = left log work lent }) tidied → ⊥
unfolding two neighbours once set_at from_words to_words words_of
tidy-words-untouched read answer left tidied p =
    let h : length (tidied (bytes_of once)) ≤ length (zeros (length (tidied (bytes_of once)))) = omega (arith, zeros-length (length (tidied (bytes_of once)))) in
    not-in-none 1 (((p.succeeds (bytes_of once) two (zeros (length (tidied (bytes_of once)))) 2 1 once once-log (omega arith) h).day.marks 0 0 1 (omega arith) (omega arith)).1 (met (Memᴰ.head refl)))

-- The promise determines the bytes: it leaves no other tidied log.
pub promised-bytes : {read : List ℕ → List ℕ → Read} {tidy : List ℕ → List ℕ → List ℕ → Tidied} {tidied : List ℕ → List ℕ} → Tidies read tidy tidied
    → (log : List ℕ) (n T : ℕ) (cts : List Record) → IsLog log n T cts → tidied log ≡ tidy_log n T (in_contact (log_records n T cts))
unfolding tidy_log
promised-bytes p log n T cts l =
    let f = p.form log n T cts l in
    f.log.bytes ∙ ap (λ (cs : List Record). encode_all (log_records n T cs)) (tidy-unique f.runs _ f.tidy (log-runs n T cts))

-- all that the examples compute with
computing : ℕ
unfolding meeting never once twice ◌and◌ ◌or◌ isnt little_endian fields_of encode encode_all covers in_contact log_records concat_below keep_if run_start run_ends run_at runs_of row_runs tidy_contacts tidy_log
computing = 0

-- the last four bytes of a tidied log, which are its ED count
last_four : List ℕ → List ℕ
last_four bytes = drop (length bytes - 4) bytes

-- Inventing the ED count: one that is the same for all logs, and the number of contact records as given.
pub end-count-fixed : (read : List ℕ → List ℕ → Read) (tidy : List ℕ → List ℕ → List ℕ → Tidied) (tidied : List ℕ → List ℕ) (count : ℕ)
    → ((log : List ℕ) → drop (length (tidied log) - 4) (tidied log) ≡ little_endian 4 count) → Tidies read tidy tidied → ⊥
unfolding computing last_four
end-count-fixed read tidy tidied count e p =
    let a : little_endian 4 count ≡ 0 ∷ 0 ∷ 0 ∷ 0 ∷ [] = sym (e (bytes_of never)) ∙ ap last_four (promised-bytes p (bytes_of never) 2 1 never never-log) in
    let b : little_endian 4 count ≡ 1 ∷ 0 ∷ 0 ∷ 0 ∷ [] = sym (e (bytes_of once)) ∙ ap last_four (promised-bytes p (bytes_of once) 2 1 once once-log) in
    let c : ◌≡◌ {A = ℕ} 0 1 = ap (λ (s : List ℕ). get_or s 0 0) (sym a ∙ b) in
    omega arith

pub end-count-as-given : (read : List ℕ → List ℕ → Read) (tidy : List ℕ → List ℕ → List ℕ → Tidied) (tidied : List ℕ → List ℕ)
    → ((log : List ℕ) (n T : ℕ) (cts : List Record) → IsLog log n T cts → drop (length (tidied log) - 4) (tidied log) ≡ little_endian 4 (length cts)) → Tidies read tidy tidied → ⊥
unfolding computing last_four
end-count-as-given read tidy tidied e p =
    let a : ◌≡◌ {A = List ℕ} (2 ∷ 0 ∷ 0 ∷ 0 ∷ []) (1 ∷ 0 ∷ 0 ∷ 0 ∷ []) = sym (e (bytes_of twice) 2 1 twice twice-log) ∙ ap last_four (promised-bytes p (bytes_of twice) 2 1 twice twice-log) in
    let c : ◌≡◌ {A = ℕ} 2 1 = ap (λ (s : List ℕ). get_or s 0 0) a in
    omega arith

-- valid contact records, as a test that computes
valid_all : ℕ → ℕ → List Record → Bool
valid_all n T [] = true
valid_all n T (c ∷ cs) = valid_contact n T c and valid_all n T cs

valid-at : (n T : ℕ) (c : Record) (cts : List Record) → valid_all n T cts ≡ true → Mem c cts → valid_contact n T c ≡ true
unfolding valid_all
valid-at n T c cts e (Memᴰ.head f) = rw f (and_left _ _ e)
valid-at n T c cts e (Memᴰ.tail {xs = ds} m) = valid-at n T c ds (and_right _ _ e) m

valid-all : (n T : ℕ) (cts : List Record) → valid_all n T cts ≡ true → (c : Record) → Mem c cts → valid_contact n T c ≡ true
valid-all n T cts e c m = valid-at n T c cts e m

-- D1 with 0–1 in two pieces, and D1 with a contact more: both have five contact records, and the second has one run more
pieces : List Record
pieces = Contact 0 2 0 1 ∷ Contact 1 2 0 1 ∷ Contact 2 3 0 2 ∷ Contact 1 0 1 1 ∷ Contact 0 1 0 0 ∷ []

five_runs : List Record
five_runs = Contact 0 2 0 1 ∷ Contact 1 2 0 1 ∷ Contact 2 3 0 2 ∷ Contact 0 1 0 1 ∷ Contact 0 3 0 0 ∷ []

pieces-log : IsLog (encode_all (log_records 4 3 pieces)) 4 3 pieces
unfolding pieces within_limits valid_all valid_contact ◌and◌ isnt
pieces-log = record { limits = refl; few = omega arith; valid = valid-all 4 3 pieces refl; bytes = refl }

five-log : IsLog (encode_all (log_records 4 3 five_runs)) 4 3 five_runs
unfolding five_runs within_limits valid_all valid_contact ◌and◌ isnt
five-log = record { limits = refl; few = omega arith; valid = valid-all 4 3 five_runs refl; bytes = refl }

pieces-length : length (tidy_log 4 3 (in_contact (log_records 4 3 pieces))) ≡ 34
unfolding computing pieces
pieces-length = refl

five-length : length (tidy_log 4 3 (in_contact (log_records 4 3 five_runs))) ≡ 40
unfolding computing five_runs
five-length = refl

-- 9 before measuring the answer: judged by any bound that n, T and the number of contact records as given decide.
pub bound-before-measuring : (read : List ℕ → List ℕ → Read) (tidy : List ℕ → List ℕ → List ℕ → Tidied) (tidied : List ℕ → List ℕ) (bound : ℕ → ℕ → ℕ → ℕ)
    → ((log work lent : List ℕ) (n T : ℕ) (cts : List Record) → IsLog log n T cts → words_for n T ≤ length work → ((tidy log work lent).answer ≡ refused 9 0) ↔ (length lent < bound n T (length cts)))
    → Tidies read tidy tidied → ⊥
unfolding pieces five_runs
bound-before-measuring read tidy tidied bound e p =
    let low : 34 < bound 4 3 5 → ⊥ = λ h. refused-success (sym ((e _ twelve lent 4 3 pieces pieces-log enough).1 (omega (arith, long))) ∙ succeeds.answers) in
    let high : 34 < bound 4 3 5 = omega (arith, (e _ twelve lent 4 3 five_runs five-log enough).0 measures.answers, long) in
    low high
  where
    twelve : List ℕ
    twelve = zeros (12 * set_words)

    lent : List ℕ
    lent = zeros 34

    long : length lent ≡ 34
    long = zeros-length 34

    enough : words_for 4 3 ≤ length twelve
    enough = omega (arith, zeros-length (12 * set_words))

    succeeds : HasTidied 4 3 pieces (tidied (encode_all (log_records 4 3 pieces))) twelve lent (tidy (encode_all (log_records 4 3 pieces)) twelve lent)
    succeeds = p.succeeds _ twelve lent 4 3 pieces pieces-log enough (omega (arith, long, ap length (promised-bytes p _ 4 3 pieces pieces-log), pieces-length))

    measures : FoundShort 4 3 five_runs twelve lent (tidy (encode_all (log_records 4 3 five_runs)) twelve lent)
    measures = p.measures _ twelve lent 4 3 five_runs five-log enough (omega (arith, long, ap length (promised-bytes p _ 4 3 five_runs five-log), five-length))

-- Substitutes that refuse otherwise than by "log, 8, 9" (request Two), whatever they are lent:
module _ (read : List ℕ → List ℕ → Read) (tidy : List ℕ → List ℕ → List ℕ → Tidied) (tidied : List ℕ → List ℕ) (log work buffer : List ℕ) (offset : ℕ) where
  -- a message for a tidied log that is too long;
  pub tidy-warning : (tidy log work buffer).answer ≡ refused 16 offset → Tidies read tidy tidied → ⊥
  tidy-warning e p = go (p.refuses log work buffer 16 offset e) refl
    where
      go : {k o : ℕ} → TidyRefusal log work buffer (tidied log) k o → k ≡ 16 → ⊥
      go (by_log f) g = omega (arith, judge-number log _ _ f)
      go (by_8 f h) g = omega arith
      go (by_9 f h l) g = omega arith

  -- 8 before the log is judged;
  pub tidy-8-first : (number at : ℕ) → judge log ≡ refused number at → (tidy log work buffer).answer ≡ refused 8 offset → Tidies read tidy tidied → ⊥
  tidy-8-first number at d e p = go (p.refuses log work buffer 8 offset e) refl
    where
      go : {k o : ℕ} → TidyRefusal log work buffer (tidied log) k o → k ≡ 8 → ⊥
      go (by_log f) g = omega (arith, judge-number log _ _ f)
      go (by_8 f h) g = refused-success (sym d ∙ f)
      go (by_9 f h l) g = omega arith

  -- 9 before the words are counted
  pub tidy-9-first : (rs : List Record) → judge log ≡ success rs → length work < words_for (badges_of rs) (ticks_of rs) → (tidy log work buffer).answer ≡ refused 9 offset → Tidies read tidy tidied → ⊥
  tidy-9-first rs d m e p = go (p.refuses log work buffer 9 offset e) refl
    where
      go : {k o : ℕ} → TidyRefusal log work buffer (tidied log) k o → k ≡ 9 → ⊥
      go (by_log f) g = omega (arith, judge-number log _ _ f)
      go (by_8 f h) g = omega arith
      go (by_9 {rs = qs} f h l) g = let same : qs ≡ rs = success-same (sym f ∙ d) in let k : words_for (badges_of rs) (ticks_of rs) ≤ length work = rw same at h in omega arith
