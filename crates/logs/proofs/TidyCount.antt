-- Tidying gives no more contact records than came in: a run ends with the last tick of some contact record of its pair, and no two runs of
-- a pair end in the same tick.
use mathlib.Core.Path.{◌≡◌, refl, sym, subst}
use mathlib.Core.List.{List}
use mathlib.Core.Logic.{◌⊎◌, inl, inr}
use mathlib.Core.Bool.{true}
use Prim.Native.Nat.{ℕ, suc, ◌-◌, ◌≤◌, ◌<◌}
use native.Mathlib.Nat.{le_refl, le_trans, eq-or-lt_of_le}
use native.Mathlib.Omega.{arith}
use lib.ListN.{length}
use Rattle.sets.proofs.Bools.{clash}
use Rattle.sets.proofs.Pigeonhole.{no_longer}
use Rattle.records.specs.declared.record.Record.{Record}
use Rattle.records.specs.declared.record.Record.TheVariants.{Header, Contact, End}
use Rattle.records.specs.Limits.{max_contacts}
use Rattle.records.specs.Outcomes.{success}
use Rattle.records.specs.Judging.{valid_contact, judge}
use Rattle.records.specs.Meaning.{badges_of, ticks_of, covers, in_contact}
use Rattle.records.specs.Logs.{Mem, Met, log_records}
use Rattle.records.proofs.Judged.{Valid, valid-of, by-contact}
use Rattle.records.proofs.Accepting.{accepted-of}
use Rattle.records.proofs.Meaning.{Covers, covers_of, covers-in}
use Rattle.records.proofs.Theorems.{met-in, met_of}
use Rattle.logs.specs.Tidy.{Run, IsRun, smaller_of, larger_of, Before, IsTidy, tidy_contacts}
use Rattle.logs.proofs.TidyForm.{tidy-form, tidy-meet, before-parts}

-- the last tick of a contact record
abbrev last_of : Record → ℕ
last_of (Header n T) = 0
last_of (Contact a b first last) = last
last_of (End count) = 0

-- a contact record names one pair of a smaller and a larger badge
one-pair : (d : Record) (t t' : ℕ) {a b a' b' : ℕ} → a < b → a' < b' → covers d t a b ≡ true → covers d t' a' b' ≡ true → (a ≡ a') × (b ≡ b')
unfolding covers
one-pair (Header n T) t t' l l' e e' = absurd (clash e refl)
one-pair (Contact x y first last) t t' {a} {b} {a'} {b'} l l' e e' =
    let c : Covers x y first last t a b = covers_of e in
    let c' : Covers x y first last t' a' b' = covers_of e' in
    go c.pair c'.pair
  where
    go : ((x ≡ a) × (y ≡ b)) ⊎ ((x ≡ b) × (y ≡ a)) → ((x ≡ a') × (y ≡ b')) ⊎ ((x ≡ b') × (y ≡ a')) → (a ≡ a') × (b ≡ b')
    go (inl p) (inl q) = (omega (arith, p.0, q.0), omega (arith, p.1, q.1))
    go (inl p) (inr q) = absurd (omega (arith, p.0, p.1, q.0, q.1))
    go (inr p) (inl q) = absurd (omega (arith, p.0, p.1, q.0, q.1))
    go (inr p) (inr q) = (omega (arith, p.1, q.1), omega (arith, p.0, q.0))
one-pair (End count) t t' l l' e e' = absurd (clash e refl)

module _ (n T : ℕ) (cts : List Record) where
  -- c is a run, and d a contact record of its pair that ends when the run does
  abbrev EndsWith : Record → Record → Type 0
  EndsWith c d = IsRun n T (Met cts) c × (covers d (last_of c) (smaller_of c) (larger_of c) ≡ true) × (last_of d ≡ last_of c)

  -- no two runs end with the same record
  ends-apart : (c c' d : Record) → Before c c' → EndsWith c d → EndsWith c' d → ⊥
  ends-apart (Header m S) c' d p x y = x.0
  ends-apart (Contact a b first last) (Header m S) d p x y = y.0
  ends-apart (Contact a b first last) (Contact a' b' first' last') d p x y =
      let e = one-pair d last last' x.0.0 y.0.0 x.1 y.1 in
      let later : first < first' = ((before-parts p).1 e.0).1 e.1 in
      let run : Run T (λ t. Met cts t a b) first' last' = rw (e.0, e.1) y.0.2 in
      run.before (first' - 1) (omega arith) (x.0.2.each (first' - 1) (omega arith) (omega (arith, run.rising, x.2, y.2)))
  ends-apart (Contact a b first last) (End count) d p x y = y.0
  ends-apart (End count) c' d p x y = x.0

  module _ (valid : (c : Record) → Mem c cts → valid_contact n T c ≡ true) where
    -- a run ends with some record
    run-ends : (c : Record) → IsRun n T (Met cts) c → (d : Record) × Mem d cts × EndsWith c d
    run-ends (Header m S) x = absurd x
    run-ends (Contact a b first last) x = let m = x.2.each last x.2.rising (le_refl _) in
        let at = by-contact n T (λ (d : Record). Mem d cts → covers d last a b ≡ true → last_of d ≡ last) (λ a' b' f l e i g. go a' b' f l (valid-of n T a' b' f l e) i (covers_of g)) m.0 (valid m.0 m.1) m.1 m.2 in
        (m.0, m.1, (x, m.2, at))
      where
        go : (a' b' f l : ℕ) → Valid n T a' b' f l → Mem (Contact a' b' f l) cts → Covers a' b' f l last a b → l ≡ last
        go a' b' f l k i c = ends (eq-or-lt_of_le c.high)
          where
            ends : (last ≡ l) ⊎ (last < l) → l ≡ last
            ends (inl e) = sym e
            ends (inr h) =
                let next : Covers a' b' f l (suc last) a b = record { pair = c.pair; low = omega (arith, c.low); high = h } in
                absurd (x.2.after (omega (arith, k.inside)) (Contact a' b' f l, i, covers-in next))
    run-ends (End count) x = absurd x

    -- a tidy list of the log's runs has no more records than the log
    pub runs-few : (runs : List Record) → IsTidy n T (Met cts) runs → length runs ≤ length cts
    runs-few runs tidy = no_longer EndsWith ends-apart runs cts tidy.sorted (λ c i. run-ends c ((tidy.exactly c).0 i))

  -- the tidy list of a log is that of its contacts
  pub log-runs : IsTidy n T (Met cts) (tidy_contacts n T (in_contact (log_records n T cts)))
  log-runs = tidy-meet n T _ (Met cts) _ (λ t u v h k m. (met_of n T cts t u v, met-in n T cts t u v)) (tidy-form n T (in_contact (log_records n T cts)))

  pub tidy-count : ((c : Record) → Mem c cts → valid_contact n T c ≡ true) → length (tidy_contacts n T (in_contact (log_records n T cts))) ≤ length cts
  tidy-count valid = runs-few valid _ log-runs

-- so the tidy log of an accepted log is within the limit
pub accepted-few : (log : List ℕ) (rs : List Record) → judge log ≡ success rs → length (tidy_contacts (badges_of rs) (ticks_of rs) (in_contact rs)) ≤ max_contacts
unfolding judge
accepted-few log rs e =
    let a = accepted-of 0 log rs e in
    le_trans (subst (λ (x : List Record). length (tidy_contacts (badges_of rs) (ticks_of rs) (in_contact x)) ≤ length a.cts) (sym a.records) (tidy-count _ _ a.cts a.valid)) a.few
