-- The tidy list is the tidy form, and the only one: which records are in it, their order, that no other list has them in this order,
-- and what the list means.
use mathlib.Core.Path.{◌≡◌, refl, sym, ap, ◌∙◌, subst}
use mathlib.Core.Bool.{Bool, true, false}
use mathlib.Core.List.Memᴰ
use mathlib.Core.List.{List}
use mathlib.Core.Logic.{◌⊎◌, inl, inr, ◌↔◌}
use Prim.Native.Nat.{ℕ, ◌≤◌, ◌<◌}
use native.Mathlib.Nat.{eq-or-lt_of_le}
use native.Mathlib.Omega.{arith}
use lib.Dec.{ltb}
use borrow.Author.Tests.{ltb-true, ltb-false, lt-ltb}
use Rattle.sets.specs.Tables.{Pairwise}
use Rattle.sets.proofs.Concat.{in-concat, of-concat, in-keep, of-keep}
use Rattle.sets.proofs.Pairwise.{pairwise-one, pairwise-concat, pairwise-keep, pairwise-same}
use Rattle.records.specs.declared.record.Record.{Record}
use Rattle.records.specs.declared.record.Record.TheVariants.{Header, Contact, End}
use Rattle.records.specs.Judging.{valid_contact}
use Rattle.records.specs.Meaning.{covers}
use Rattle.records.specs.Logs.{Mem, Met}
use Rattle.records.proofs.Judged.{valid-in}
use Rattle.records.proofs.Meaning.{Covers, covers_of, covers-in, covers-swap}
use Rattle.logs.specs.Tidy.{Run, IsRun, smaller_of, larger_of, first_of, Before, by_smaller, by_larger, by_first, IsTidy, run_start, run_ends, run_at, runs_of, row_runs, tidy_contacts}
use Rattle.logs.proofs.Runs.{run_of, of-run, in-run, run-gap, run-meet}

-- a record is in the runs of a pair exactly when it is of a run of the pair
in-runs : (T : ℕ) (p : ℕ → Bool) (u v : ℕ) {f l : ℕ} → Run T (λ t. p t ≡ true) f l → Mem (Contact u v f l) (runs_of T p u v)
unfolding runs_of run_at
in-runs T p u v {f} {l} r =
    let x = of-run T p r in
    in-concat T (run_at T p u v) l r.inside (in-keep (run_ends T p l) _ x.1 (Memᴰ.head (ap (λ (g : ℕ). Contact u v g l) x.0)))

of-run-at : (T : ℕ) (p : ℕ → Bool) (u v t : ℕ) (c : Record) → t < T → Mem c (run_at T p u v t) → (f : ℕ) × Run T (λ t. p t ≡ true) f t × (c ≡ Contact u v f t)
unfolding run_at
of-run-at T p u v t c h m = let x = of-keep (run_ends T p t) _ m in (run_start p t, run_of T p t h x.0, Memᴰ.eq_of_singleton x.1)

of-runs : (T : ℕ) (p : ℕ → Bool) (u v : ℕ) (c : Record) → Mem c (runs_of T p u v) → (f l : ℕ) × Run T (λ t. p t ≡ true) f l × (c ≡ Contact u v f l)
unfolding runs_of
of-runs T p u v c m =
    let x = of-concat T (run_at T p u v) m in
    let y = of-run-at T p u v x.0 c x.1 x.2 in
    (y.0, x.0, y.1, y.2)

-- the runs of a row are those with a larger badge
of_row : (n T : ℕ) (r : ℕ → ℕ → ℕ → Bool) (u : ℕ) (c : Record) → Mem c (row_runs n T r u)
    → (v f l : ℕ) × (u < v) × (v < n) × Run T (λ t. r t u v ≡ true) f l × (c ≡ Contact u v f l)
unfolding row_runs
of_row n T r u c m =
    let x = of-concat n _ m in
    let y = of-keep (ltb u x.0) _ x.2 in
    let z = of-runs T (λ t. r t u x.0) u x.0 c y.1 in
    (x.0, z.0, z.1, ltb-true _ _ y.0, x.1, z.2, z.3)

-- a record is in the tidy list exactly when it is of a run of two badges, the smaller one first
tidy-in : (n T : ℕ) (r : ℕ → ℕ → ℕ → Bool) (c : Record) → IsRun n T (λ t u v. r t u v ≡ true) c → Mem c (tidy_contacts n T r)
unfolding tidy_contacts row_runs
tidy-in n T r (Header m S) x = absurd x
tidy-in n T r (Contact a b first last) x =
    in-concat n (row_runs n T r) a (omega (arith, x.0, x.1)) (in-concat n _ b x.1 (in-keep (ltb a b) _ (lt-ltb _ _ x.0) (in-runs T (λ t. r t a b) a b x.2)))
tidy-in n T r (End count) x = absurd x

tidy-of : (n T : ℕ) (r : ℕ → ℕ → ℕ → Bool) (c : Record) → Mem c (tidy_contacts n T r) → IsRun n T (λ t u v. r t u v ≡ true) c
unfolding tidy_contacts
tidy-of n T r c m =
    let x = of-concat n (row_runs n T r) m in
    let y = of_row n T r x.0 c x.2 in
    subst (λ (d : Record). IsRun n T (λ t u v. r t u v ≡ true) d) (sym y.6) (y.3, y.4, y.5)

-- the runs of a pair are sorted by their ticks, those of a row by the larger badge, and all by the smaller one
sorted-runs : (T : ℕ) (p : ℕ → Bool) (u v : ℕ) → Pairwise Before (runs_of T p u v)
unfolding runs_of run_at
sorted-runs T p u v = pairwise-concat T (run_at T p u v) (λ t h. pairwise-keep (run_ends T p t) (pairwise-one _))
    (λ i j l k c d m m'.
    let x = of-run-at T p u v i c (omega arith) m in
    let y = of-run-at T p u v j d k m' in
    rw (x.2, y.2) (by_first refl refl (omega (arith, x.1.rising, run-gap T (λ t. p t ≡ true) x.1 y.1 l))))

sorted-row : (n T : ℕ) (r : ℕ → ℕ → ℕ → Bool) (u : ℕ) → Pairwise Before (row_runs n T r u)
unfolding row_runs
sorted-row n T r u = pairwise-concat n _ (λ v h. pairwise-keep (ltb u v) (sorted-runs T (λ t. r t u v) u v)) (λ i j l k c d m m'.
    let x = of-runs T (λ t. r t u i) u i c (of-keep (ltb u i) _ m).1 in
    let y = of-runs T (λ t. r t u j) u j d (of-keep (ltb u j) _ m').1 in
    rw (x.3, y.3) (by_larger refl l))

sorted-tidy : (n T : ℕ) (r : ℕ → ℕ → ℕ → Bool) → Pairwise Before (tidy_contacts n T r)
unfolding tidy_contacts
sorted-tidy n T r = pairwise-concat n (row_runs n T r) (λ u h. sorted-row n T r u) (λ i j l k c d m m'.
    let x = of_row n T r i c m in
    let y = of_row n T r j d m' in
    rw (x.6, y.6) (by_smaller l))

-- the tidy list is the tidy form
pub tidy-form : (n T : ℕ) (r : ℕ → ℕ → ℕ → Bool) → IsTidy n T (λ t u v. r t u v ≡ true) (tidy_contacts n T r)
tidy-form n T r = record { exactly = λ c. (tidy-of n T r c, tidy-in n T r c); sorted = sorted-tidy n T r }

-- coming before, part by part
pub before-parts : {c d : Record} → Before c d
    → (smaller_of c ≤ smaller_of d) × (smaller_of c ≡ smaller_of d → (larger_of c ≤ larger_of d) × (larger_of c ≡ larger_of d → first_of c < first_of d))
before-parts (by_smaller h) = (omega arith, λ e. absurd (omega arith))
before-parts (by_larger e h) = (omega arith, λ e'. (omega arith, λ f. absurd (omega arith)))
before-parts (by_first e f h) = (omega arith, λ e'. (omega arith, λ f'. h))

-- no two records each come before the other
before-asymmetric : {c d : Record} → Before c d → Before d c → ⊥
before-asymmetric {c} {d} p q =
    let x = before-parts p in
    let y = before-parts q in
    let e : smaller_of c ≡ smaller_of d = omega (arith, x.0, y.0) in
    let z = x.1 e in
    let w = y.1 (sym e) in
    let f : larger_of c ≡ larger_of d = omega (arith, z.0, w.0) in
    omega (arith, z.1 f, w.1 (sym f))

-- the tidy form of a relation is one list
pub tidy-unique : {n T : ℕ} {meet : ℕ → ℕ → ℕ → Type 0} (xs ys : List Record) → IsTidy n T meet xs → IsTidy n T meet ys → xs ≡ ys
tidy-unique xs ys p q = pairwise-same (λ c d. before-asymmetric) p.sorted q.sorted (λ c. (λ m. (q.exactly c).1 ((p.exactly c).0 m), λ m. (p.exactly c).1 ((q.exactly c).0 m)))

-- and it depends on the badges below n and the ticks before T alone
is-run-meet : (n T : ℕ) (meet meet' : ℕ → ℕ → ℕ → Type 0) → ((t u v : ℕ) → t < T → u < n → v < n → meet t u v ↔ meet' t u v)
    → (c : Record) → IsRun n T meet c → IsRun n T meet' c
is-run-meet n T meet meet' same (Header m S) x = x
is-run-meet n T meet meet' same (Contact a b first last) x =
    (x.0, x.1, run-meet T (λ t. meet t a b) (λ t. meet' t a b) (λ t h. same t a b h (omega (arith, x.0, x.1)) x.1) x.2)
is-run-meet n T meet meet' same (End count) x = x

pub tidy-meet : (n T : ℕ) (meet meet' : ℕ → ℕ → ℕ → Type 0) (xs : List Record) → ((t u v : ℕ) → t < T → u < n → v < n → meet t u v ↔ meet' t u v)
    → IsTidy n T meet xs → IsTidy n T meet' xs
tidy-meet n T meet meet' xs same p = record {
  exactly = λ c. (
    λ m. is-run-meet n T meet meet' same c ((p.exactly c).0 m),
    λ x. (p.exactly c).1 (is-run-meet n T meet' meet (λ t u v h k l. ((same t u v h k l).1, (same t u v h k l).0)) c x),
  );
  sorted = p.sorted;
}

pub tidy-same : (n T : ℕ) (r q : ℕ → ℕ → ℕ → Bool) → ((t u v : ℕ) → t < T → u < n → v < n → r t u v ≡ q t u v) → tidy_contacts n T r ≡ tidy_contacts n T q
tidy-same n T r q same = tidy-unique _ _
    (tidy-meet n T (λ t u v. r t u v ≡ true) (λ t u v. q t u v ≡ true) _ (λ t u v h k l. (λ e. sym (same t u v h k l) ∙ e, λ e. same t u v h k l ∙ e)) (tidy-form n T r))
    (tidy-form n T q)

-- every record of the tidy list is a valid contact
pub tidy-valid : (n T : ℕ) (r : ℕ → ℕ → ℕ → Bool) (c : Record) → Mem c (tidy_contacts n T r) → valid_contact n T c ≡ true
tidy-valid n T r c m = go c (tidy-of n T r c m)
  where
    go : (c : Record) → IsRun n T (λ t u v. r t u v ≡ true) c → valid_contact n T c ≡ true
    go (Header m S) x = absurd x
    go (Contact a b first last) x = valid-in n T a b first last (record {
      different = λ e. omega (arith, x.0);
      low = omega (arith, x.0, x.1);
      high = x.1;
      rising = x.2.rising;
      inside = x.2.inside;
    })
    go (End count) x = absurd x

-- the tidy list of an irreflexive and symmetric relation means the relation: its records cover a tick of a pair exactly when the pair
-- meets in it
module _ (n T : ℕ) (r : ℕ → ℕ → ℕ → Bool) (apart : (t u : ℕ) → t < T → u < n → r t u u ≡ true → ⊥)
    (both : (t u v : ℕ) → t < T → u < n → v < n → r t u v ≡ true → r t v u ≡ true) where
  pub tidy-met-in : (t u v : ℕ) → t < T → u < n → v < n → r t u v ≡ true → Met (tidy_contacts n T r) t u v
  tidy-met-in t u v h k l e = go (ltb u v) refl
    where
      from : (u v : ℕ) → u < v → v < n → r t u v ≡ true → Met (tidy_contacts n T r) t u v
      from u v g l e =
          let x = in-run T (λ t. r t u v) t h e in
          let y : Covers u v x.0 x.1 t u v = record { pair = inl (refl, refl); low = x.3; high = x.4 } in
          (Contact u v x.0 x.1, tidy-in n T r _ (g, l, x.2), covers-in y)

      back : (v ≡ u) ⊎ (v < u) → Met (tidy_contacts n T r) t u v
      back (inl f) = absurd (apart t u h k (rw f at e))
      back (inr g) = let x = from v u g k (both t u v h k l e) in (x.0, x.1, covers-swap x.0 t v u x.2)

      go : (b : Bool) → ltb u v ≡ b → Met (tidy_contacts n T r) t u v
      go true f = from u v (ltb-true _ _ f) l e
      go false f = back (eq-or-lt_of_le (ltb-false _ _ f))

  pub tidy-met-of : (t u v : ℕ) → Met (tidy_contacts n T r) t u v → (t < T) × (u < n) × (v < n) × (r t u v ≡ true)
  tidy-met-of t u v x = go x.0 (tidy-of n T r x.0 x.1) x.2
    where
      named : (a b first last : ℕ) → a < b → b < n → Run T (λ t. r t a b ≡ true) first last → Covers a b first last t u v
          → ((a ≡ u) × (b ≡ v)) ⊎ ((a ≡ v) × (b ≡ u)) → (t < T) × (u < n) × (v < n) × (r t u v ≡ true)
      named a b first last h k y z (inl f) =
          let e : r t a b ≡ true = y.each t z.low z.high in
          (omega (arith, z.high, y.inside), omega (arith, f.0), omega (arith, f.1), rw (f.0, f.1) at e)
      named a b first last h k y z (inr f) =
          let e : r t b a ≡ true = both t a b (omega (arith, z.high, y.inside)) (omega arith) k (y.each t z.low z.high) in
          (omega (arith, z.high, y.inside), omega (arith, f.1), omega (arith, f.0), rw (f.0, f.1) at e)

      go : (c : Record) → IsRun n T (λ t u v. r t u v ≡ true) c → covers c t u v ≡ true → (t < T) × (u < n) × (v < n) × (r t u v ≡ true)
      go (Header m S) y e = absurd y
      go (Contact a b first last) y e = let z : Covers a b first last t u v = covers_of e in named a b first last y.0 y.1 y.2 z z.pair
      go (End count) y e = absurd y
