-- Substitutes for writing that document 01's acceptance list names, each refuted from the promise that write keeps (specs/WrittenDays). They are
-- tried on D1, whose log has 34 bytes, and on a day without contacts, whose log has 10.
use mathlib.Core.Path.{◌≡◌, refl, sym, ap, ◌∙◌}
use mathlib.Core.List.{List, [], ◌∷◌, ◌++◌}
use mathlib.Core.Logic.{◌↔◌}
use Prim.Native.Nat.{ℕ, ◌-◌, ◌≤◌, ◌<◌}
use native.Mathlib.Omega.{arith}
use lib.ListN.{length, get_or, take, drop, replicate, length-replicate}
use lib.Seq.{take_at}
use Rattle.sets.specs.Bytes.{little_endian}
use Rattle.records.specs.declared.record.Record.{Record}
use Rattle.records.specs.declared.record.Record.TheVariants.{Contact}
use Rattle.records.specs.Limits.{max_contacts}
use Rattle.records.specs.Records.{fields_of, encode, encode_all}
use Rattle.records.specs.Outcomes.{refused, success}
use Rattle.records.specs.Logs.{log_records}
use Rattle.records.proofs.Outcomes.{refused-success, success-same}
use Rattle.days.specs.Days.{LentDay}
use Rattle.days.specs.Calls.{Read}
use Rattle.logs.specs.Tidy.{run_start, run_ends, run_at, runs_of, row_runs, tidy_contacts}
use Rattle.logs.specs.Buffers.{Delivered}
use Rattle.promises.specs.WrittenDays.{HasRuns, log_bytes, Writes}
use Rattle.promises.specs.D1.{d1_words}
use Rattle.promises.proofs.SmallDays.{computing, still, d1-lent, still-lent}
use Rattle.promises.proofs.WriteTheorems.{day-runs}

-- the runs of D1, and of the day without contacts
d1_runs : List Record
d1_runs = Contact 0 1 0 1 ∷ Contact 0 2 0 1 ∷ Contact 1 2 0 1 ∷ Contact 2 3 0 2 ∷ []

d1-runs : HasRuns 4 3 d1_words d1_runs
unfolding computing d1_runs run_start run_ends run_at runs_of row_runs tidy_contacts
d1-runs = record { lent = d1-lent; tidy = day-runs 4 3 d1_words }

still-runs : HasRuns 4 3 still []
unfolding computing run_start run_ends run_at runs_of row_runs tidy_contacts
still-runs = record { lent = still-lent; tidy = day-runs 4 3 still }

-- their logs in bytes
d1-length : length (log_bytes 4 3 d1_runs) ≡ 34
unfolding d1_runs little_endian fields_of encode encode_all log_records
d1-length = refl

still-length : length (log_bytes 4 3 []) ≡ 10
unfolding little_endian fields_of encode encode_all log_records
still-length = refl

d1-few : length d1_runs ≤ max_contacts
unfolding d1_runs
d1-few = omega arith

-- a buffer that just holds D1's log
lent : List ℕ
lent = replicate 34 0

long : length lent ≡ 34
unfolding lent
long = length-replicate {A = ℕ} 34 0

module _ {read : List ℕ → List ℕ → Read} {write : ℕ → ℕ → List ℕ → List ℕ → Delivered} (p : Writes read write) where
  -- what the promise says of the two days, lent this buffer
  d1-written : write 4 3 d1_words lent ≡ record { answer = success (length (log_bytes 4 3 d1_runs)); buffer = log_bytes 4 3 d1_runs ++ drop (length (log_bytes 4 3 d1_runs)) lent }
  d1-written = p.succeeds 4 3 d1_words lent d1_runs d1-runs d1-few (omega (arith, d1-length, long))

  still-written : write 4 3 still lent ≡ record { answer = success (length (log_bytes 4 3 [])); buffer = log_bytes 4 3 [] ++ drop (length (log_bytes 4 3 [])) lent }
  still-written = p.succeeds 4 3 still lent [] still-runs (omega arith) (omega (arith, still-length, long))

-- A fixed log: an answer and a buffer that n, T and the buffer lent decide, whatever the words.
pub fixed-log : (read : List ℕ → List ℕ → Read) (left : ℕ → ℕ → List ℕ → Delivered) → Writes read (λ n T ws buffer. left n T buffer) → ⊥
fixed-log read left p =
    let e : length (log_bytes 4 3 d1_runs) ≡ length (log_bytes 4 3 []) = success-same (ap (λ (x : Delivered). x.answer) (sym (d1-written p) ∙ still-written p)) in
    omega (arith, d1-length, still-length)

-- An ED count that is the same for all days, whatever else is written.
pub end-count-fixed : (read : List ℕ → List ℕ → Read) (write : ℕ → ℕ → List ℕ → List ℕ → Delivered) (count : ℕ)
    → ((n T : ℕ) (ws buffer : List ℕ) (size : ℕ) → LentDay n T ws → (write n T ws buffer).answer ≡ success size → drop (size - 4) (take size (write n T ws buffer).buffer) ≡ little_endian 4 count)
    → Writes read write → ⊥
unfolding d1_runs little_endian fields_of encode encode_all log_records
end-count-fixed read write count e p =
    let c : ◌≡◌ {A = ℕ} 4 0 = ap (λ (s : List ℕ). get_or s 0 0) (counted d1_words d1_runs d1-lent (d1-written p) ∙ sym (counted still [] still-lent (still-written p))) in
    omega arith
  where
    counted : (ws : List ℕ) (runs : List Record) → LentDay 4 3 ws
        → write 4 3 ws lent ≡ record { answer = success (length (log_bytes 4 3 runs)); buffer = log_bytes 4 3 runs ++ drop (length (log_bytes 4 3 runs)) lent }
        → drop (length (log_bytes 4 3 runs) - 4) (log_bytes 4 3 runs) ≡ little_endian 4 count
    counted ws runs d w =
        let size = length (log_bytes 4 3 runs) in
        ap (drop (size - 4)) (sym (take_at (log_bytes 4 3 runs) (drop size lent) size refl)) ∙ sym (ap (λ (x : Delivered). drop (size - 4) (take size x.buffer)) w)
        ∙ e 4 3 ws lent size d (ap (λ (x : Delivered). x.answer) w)

-- 9 before measuring the answer: judged by any bound that n and T decide.
pub bound-before-measuring : (read : List ℕ → List ℕ → Read) (write : ℕ → ℕ → List ℕ → List ℕ → Delivered) (bound : ℕ → ℕ → ℕ)
    → ((n T : ℕ) (ws buffer : List ℕ) → LentDay n T ws → ((write n T ws buffer).answer ≡ refused 9 0) ↔ (length buffer < bound n T)) → Writes read write → ⊥
bound-before-measuring read write bound e p =
    let low : 10 < bound 4 3 → ⊥ = λ h. refused-success (sym ((e 4 3 still ten still-lent).1 (omega (arith, ten-long)))
    ∙ ap (λ (x : Delivered). x.answer) (p.succeeds 4 3 still ten [] still-runs (omega arith) (omega (arith, still-length, ten-long)))) in
    low (omega (arith, (e 4 3 d1_words ten d1-lent).0 (ap (λ (x : Delivered). x.answer) (p.measures 4 3 d1_words ten d1_runs d1-runs d1-few (omega (arith, d1-length, ten-long)))), ten-long))
  where
    ten : List ℕ
    ten = replicate 10 0

    ten-long : length ten ≡ 10
    ten-long = length-replicate {A = ℕ} 10 0
