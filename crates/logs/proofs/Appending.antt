-- Contact records appended to a log's buffer: laws for the loops over a pair's runs, larger badges and badges, and the tidy log that they leave.
use mathlib.Core.Path.{◌≡◌, refl, sym, ap, ap₂, ◌∙◌, subst}
use mathlib.Core.Bool.{Bool, false}
use mathlib.Core.List.{List, [], ◌∷◌, ◌++◌, append_assoc, append-nil}
use Prim.Native.Nat.{ℕ, zero, suc, ◌+◌, ◌-◌, ◌*◌, ◌≤◌, ◌<◌, zero-le}
use native.Mathlib.Nat.{le_refl}
use native.Mathlib.Numerals.{add-one}
use native.Mathlib.Omega.{arith}
use lib.Dec.{ltb}
use lib.ListN.{length, take, length-append}
use borrow.Author.Tests.{lt-ltb, ltb-true}
use Rattle.std.proofs.Common.{Option, Some, None, IsSome}
use Rattle.sets.specs.Tables.{concat_below, keep_if}
use Rattle.sets.proofs.Concat.{concat-gap, concat-nil, keep-nil}
use Rattle.records.specs.declared.record.Record.{Record}
use Rattle.records.specs.declared.record.Record.TheVariants.{Header, Contact, End}
use Rattle.records.specs.Limits.{max_contacts, max_log_bytes}
use Rattle.records.specs.Records.{encode, encode_all}
use Rattle.records.specs.Logs.{log_records}
use Rattle.records.proofs.Records.{length-encode, encode-append}
use Rattle.days.specs.Days.{adjacent}
use Rattle.logs.specs.Buffers.{place}
use Rattle.logs.specs.Tidy.{run_at, runs_of, tidy_contacts, tidy_log}
use Rattle.logs.specs.TickSets.{First}
use Rattle.logs.specs.Writing.{Appended, offset_after, Encoded, Encodes}
use Rattle.logs.proofs.Delivering.{take-place}
use Rattle.logs.proofs.PairRuns.{RunTo, run-apart, run_inside, run-last}

-- nothing is appended
pub appends-none : (count : ℕ) (buffer : List ℕ) → count ≤ max_contacts → Appended [] count count buffer buffer
unfolding encode_all
appends-none count buffer h = record { number = omega arith; few = h; bytes = sym (append-nil _) }

-- one list after another
pub appends-append : {a b c : ℕ} {x y z : List ℕ} {cs ds : List Record} → Appended cs a b x y → Appended ds b c y z → Appended (cs ++ ds) a c x z
appends-append {a} {b} {c} {x} {y} {z} {cs} {ds} e f = record {
  number = omega (arith, e.number, f.number, length-append cs ds);
  few = f.few;
  bytes = f.bytes ∙ ap (λ (s : List ℕ). s ++ encode_all ds) e.bytes ∙ append_assoc (take (offset_after a) x) (encode_all cs) (encode_all ds)
      ∙ ap (λ (s : List ℕ). take (offset_after a) x ++ s) (sym (encode-append cs ds));
}

-- one contact record
pub appends-contact : (count : ℕ) (buffer buffer' : List ℕ) (a b first last : ℕ) → count < max_contacts → max_log_bytes ≤ length buffer
    → buffer' ≡ place (offset_after count) (encode (Contact a b first last)) buffer → Appended (Contact a b first last ∷ []) count (count + 1) buffer buffer'
unfolding encode_all
appends-contact count buffer buffer' a b first last h k e =
    let c = Contact a b first last in
    let size : length (encode c) ≡ 6 = length-encode c in
    let next : offset_after (count + 1) ≡ offset_after count + length (encode c) = omega arith in
    record {
      number = omega arith;
      few = omega arith;
      bytes = rw (next, e) (take-place (offset_after count) (encode c) buffer (omega arith)) ∙ ap (λ (s : List ℕ). take (offset_after count) buffer ++ s) (sym (append-nil (encode c)));
    }

module _ (f : ℕ → List Record) where
  -- a loop's turn: the next list
  pub appends-more : (m : ℕ) {a b c : ℕ} {x y z : List ℕ} → Appended (concat_below m f) a b x y → Appended (f m) b c y z → Appended (concat_below (m + 1) f) a c x z
  unfolding concat_below
  appends-more m e g = rw add-one (appends-append e g)

  -- the lists before a number are no longer than those before a larger one
  length-more : (m k : ℕ) → length (concat_below m f) ≤ length (concat_below (m + k) f)
  unfolding concat_below
  length-more m zero = let e : m + 0 ≡ m = omega arith in rw e (le_refl _)
  length-more m (suc k) = let e : m + suc k ≡ suc (m + k) = omega arith in rw e (omega (arith, length-more m k, length-append (concat_below (m + k) f) (f (m + k))))

  -- where one list is too much, all are
  pub too-many : (m n : ℕ) → m < n → {a b : ℕ} {x y : List ℕ} → Appended (concat_below m f) a b x y → max_contacts < b + length (f m) → max_contacts < a + length (concat_below n f)
  unfolding concat_below
  too-many m n h e g =
      let k : suc m + (n - suc m) ≡ n = omega arith in
      omega (arith, e.number, length-append (concat_below m f) (f m), rw k at (length-more (suc m) (n - suc m)))

-- The runs of one pair that end before a tick: none before the first tick in which it meets, one more before the next run's first tick, and
-- all of them where it meets in no tick from T on.
module _ (T : ℕ) (p : ℕ → Bool) (u v : ℕ) where
  pub runs_none : {until first : ℕ} → First p 0 until first → concat_below first (run_at T p u v) ≡ []
  runs_none f = concat-nil _ (run_at T p u v) (λ t h. run-apart T p u v t (f.none t zero-le h))

  -- up to the end of a run there is one more
  run-more : {first end : ℕ} → RunTo T p first end → concat_below end (run_at T p u v) ≡ concat_below first (run_at T p u v) ++ Contact u v first (end - 1) ∷ []
  unfolding concat_below
  run-more {first} {end} r =
      let last = end - 1 in
      let e : end ≡ suc last = omega (arith, r.rising) in
      let same : concat_below last (run_at T p u v) ≡ concat_below first (run_at T p u v) = concat-gap (run_at T p u v) first last (omega (arith, r.rising)) (λ t k l. run_inside T p u v t r.run k l) in
      ap (λ (x : ℕ). concat_below x (run_at T p u v)) e ∙ ap₂ (λ (x y : List Record). x ++ y) same (run-last T p u v r.run)

  pub runs-more : {until first end next : ℕ} → RunTo T p first end → First p end until next → {a b c : ℕ} {x y z : List ℕ}
      → Appended (concat_below first (run_at T p u v)) a b x y → Appended (Contact u v first (end - 1) ∷ []) b c y z → Appended (concat_below next (run_at T p u v)) a c x z
  runs-more {until} {first} {end} {next} r f i j =
      let gap : concat_below next (run_at T p u v) ≡ concat_below end (run_at T p u v) = concat-gap (run_at T p u v) end next f.low (λ t k l. run-apart T p u v t (f.none t k l)) in
      rw (gap, run-more r) (appends-append i j)

  -- where one run more is too much, all are
  pub runs-many : {first end : ℕ} → RunTo T p first end → {a b : ℕ} {x y : List ℕ} → Appended (concat_below first (run_at T p u v)) a b x y → max_contacts < b + 1
      → max_contacts < a + length (runs_of T p u v)
  unfolding runs_of
  runs-many {first} {end} r {a} {b} i h =
      let k : end + (T - end) ≡ T = omega (arith, r.inside) in
      omega (arith, i.number, ap length (run-more r), length-append (concat_below first (run_at T p u v)) (Contact u v first (end - 1) ∷ []), rw k at (length-more (run_at T p u v) end (T - end)))

  pub runs-all : {first : ℕ} → ((t : ℕ) → T ≤ t → p t ≡ false) → T ≤ first → concat_below first (run_at T p u v) ≡ runs_of T p u v
  unfolding runs_of
  runs-all {first} h l = concat-gap (run_at T p u v) T first l (λ t k m. run-apart T p u v t (h t k))

-- the runs of u and v, if v is the larger badge
abbrev pub larger_runs : ℕ → (ℕ → ℕ → ℕ → Bool) → ℕ → ℕ → List Record
larger_runs T r u v = keep_if (ltb u v) (runs_of T (λ t. r t u v) u v)

module _ (T : ℕ) (r : ℕ → ℕ → ℕ → Bool) (u : ℕ) where
  -- no badge up to u is a larger one
  pub row-none : concat_below (u + 1) (larger_runs T r u) ≡ []
  row-none = concat-nil (u + 1) (larger_runs T r u) (λ v h. keep-nil (ltb u v) _ (λ e. let l : u < v = ltb-true _ _ e in omega arith))

  module _ (v : ℕ) (h : u < v) where
    pair-runs : runs_of T (λ t. r t u v) u v ≡ larger_runs T r u v
    unfolding keep_if
    pair-runs = rw (lt-ltb u v h) refl

    -- a turn of the loop over the larger badges
    pub row_more : {a b c : ℕ} {x y z : List ℕ} → Appended (concat_below v (larger_runs T r u)) a b x y
        → Appended (runs_of T (λ t. r t u v) u v) b c y z → Appended (concat_below (v + 1) (larger_runs T r u)) a c x z
    row_more {a} {b} {c} {x} {y} {z} i j = appends-more (larger_runs T r u) v i (subst (λ (cs : List Record). Appended cs b c y z) pair-runs j)

    -- where the runs of one pair are too many, those of all are
    pub row-many : (n : ℕ) → v < n → {a b : ℕ} {x y : List ℕ} → Appended (concat_below v (larger_runs T r u)) a b x y
        → max_contacts < b + length (runs_of T (λ t. r t u v) u v) → max_contacts < a + length (concat_below n (larger_runs T r u))
    row-many n l {a} {b} i k = too-many (larger_runs T r u) v n l i (subst (λ (cs : List Record). max_contacts < b + length cs) pair-runs k)

-- header, contact records and end are the tidy log
pub encodes-whole : (n T : ℕ) (ws : List ℕ) (count : ℕ) (header contacts before whole : List ℕ) → Appended (tidy_contacts n T (adjacent n ws)) 0 count header contacts
    → max_log_bytes ≤ length contacts → max_log_bytes ≤ length before
    → header ≡ place 0 (encode (Header n T)) before → whole ≡ place (offset_after count) (encode (End count)) contacts → Encoded n T ws count whole
unfolding tidy_log log_records encode_all
encodes-whole n T ws count header contacts before whole e l k f g =
    let cs = tidy_contacts n T (adjacent n ws) in
    let first : 0 + length (encode (Header n T)) ≡ 4 = omega (arith, length-encode (Header n T)) in
    let last : length (encode (End count)) ≡ 6 = length-encode (End count) in
    let size : 10 + 6 * count ≡ offset_after count + length (encode (End count)) = omega arith in
    let number : count ≡ length cs = omega (arith, e.number) in
    let fits : offset_after count + length (encode (End count)) ≤ length contacts = omega (arith, e.few) in
    let start : take 4 header ≡ encode (Header n T) = rw (f, ← first) (take-place 0 (encode (Header n T)) before (omega arith)) in
    record {
      number = number;
      few = e.few;
      bytes = rw (size, g) (take-place (offset_after count) (encode (End count)) contacts fits)
          ∙ ap₂ (λ (x y : List ℕ). x ++ y) (e.bytes ∙ ap (λ (s : List ℕ). s ++ encode_all cs) start) (ap (λ (c : ℕ). encode (End c)) number ∙ sym (append-nil (encode (End (length cs)))))
          ∙ sym (encode-append (Header n T ∷ cs) (End (length cs) ∷ []));
    }

-- where the contact records are not too many, their number is there
pub encodes-some : (n T : ℕ) (ws : List ℕ) (o : Option ℕ) (buffer : List ℕ) → Encodes n T ws o buffer → length (tidy_contacts n T (adjacent n ws)) ≤ max_contacts → IsSome o
encodes-some n T ws (Some count) buffer e h = refl
encodes-some n T ws None buffer e h = absurd (omega (arith, e, h))
