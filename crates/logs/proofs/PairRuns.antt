-- Laws of finding the runs of one pair by going from the first tick of a run to the tick after its last, and on to the first of the next:
-- p t says whether the pair meets in tick t.
use mathlib.Core.Path.{◌≡◌, refl, sym, ap, ◌∙◌}
use mathlib.Core.Bool.{Bool, true, false}
use mathlib.Core.List.{[], ◌∷◌}
use mathlib.Core.Logic.{◌⊎◌, inl, inr}
use Prim.Native.Nat.{ℕ, suc, ◌-◌, ◌≤◌, ◌<◌, zero-le}
use native.Mathlib.Nat.{le_refl, eq-or-lt_of_le}
use native.Mathlib.Omega.{arith}
use lib.Dec.{ltb}
use borrow.Author.Tests.{ltb-true, ltb-false}
use Rattle.sets.specs.Bools.{isnt}
use Rattle.sets.proofs.Bools.{clash, to-false, isnt-in, isnt-of}
use Rattle.sets.proofs.Concat.{keep-nil, keep_all, concat-same}
use Rattle.records.specs.declared.record.Record.TheVariants.{Contact}
use Rattle.logs.specs.Tidy.{Run, run_at, runs_of}
use Rattle.logs.specs.TickSets.{First}
use Rattle.logs.proofs.Runs.{ends-of, of-run, start-same, ends_same}

-- the run that ends with a tick: none where the pair does not meet or the run goes on, and the run of which it is the last tick
module _ (T : ℕ) (p : ℕ → Bool) (u v t : ℕ) where
  pub run-apart : p t ≡ false → run_at T p u v t ≡ []
  unfolding run_at
  run-apart e = keep-nil _ _ (λ f. clash (ends-of T p t f).0 e)

  pub run_inside : {first last : ℕ} → Run T (λ t. p t ≡ true) first last → first ≤ t → t < last → run_at T p u v t ≡ []
  unfolding run_at
  run_inside r h l = keep-nil _ _ (λ f. (ends-of T p t f).1 (omega (arith, r.inside)) (r.each (suc t) (omega arith) l))

pub run-last : (T : ℕ) (p : ℕ → Bool) (u v : ℕ) {first last : ℕ} → Run T (λ t. p t ≡ true) first last → run_at T p u v last ≡ Contact u v first last ∷ []
unfolding run_at
run-last T p u v {first} {last} r = let x = of-run T p r in keep_all _ _ x.1 ∙ ap (λ (f : ℕ). Contact u v f last ∷ []) (sym x.0)

-- a tick with which a run starts, or one from which on there is none
pub record RunFrom (T : ℕ) (p : ℕ → Bool) (first : ℕ) : Type 0 where
  pub meets : first < T → p first ≡ true
  pub before : (t : ℕ) → suc t ≡ first → p t ≡ false

-- a run, by its first tick and the tick after its last
pub record RunTo (T : ℕ) (p : ℕ → Bool) (first end : ℕ) : Type 0 where
  pub rising : first < end
  pub inside : end ≤ T
  pub apart : p end ≡ false
  pub run : Run T (λ t. p t ≡ true) first (end - 1)

module _ (T : ℕ) (p : ℕ → Bool) {until : ℕ} (l : T < until) where
  -- a run starts with the first tick of all in which the pair meets, and with the first one after a run
  pub from_start : {first : ℕ} → First p 0 until first → RunFrom T p first
  from_start {first} f = record { meets = λ h. f.passes (omega arith); before = λ t e. f.none t zero-le (omega arith) }

  pub from_end : {first end next : ℕ} → RunTo T p first end → First p end until next → RunFrom T p next
  from_end {first} {end} {next} r f = record { meets = λ h. f.passes (omega arith); before = λ t e. f.none t (go t e (eq-or-lt_of_le f.low)) (omega arith) }
    where
      go : (t : ℕ) → suc t ≡ next → (end ≡ next) ⊎ (end < next) → end ≤ t
      go t e (inl q) = absurd (clash (f.passes (omega (arith, r.inside))) (rw q at r.apart))
      go t e (inr q) = omega arith

  -- a run goes from its first tick up to the first tick in which the pair does not meet
  pub run-to : {first end : ℕ} → ((t : ℕ) → T ≤ t → p t ≡ false) → RunFrom T p first → first < T → First (λ t. isnt (p t)) first until end → RunTo T p first end
  run-to {first} {end} below s h f = record {
    rising = rising;
    inside = inside;
    apart = apart;
    run = record {
      rising = omega (arith, rising);
      inside = omega (arith, rising, inside);
      each = λ t lo hi. met t lo (omega (arith, rising));
      before = λ t e m. clash m (s.before t e);
      after = λ k m. let e : suc (end - 1) ≡ end = omega (arith, rising) in clash (rw e at m) apart;
    };
  }
    where
      met : (t : ℕ) → first ≤ t → t < end → p t ≡ true
      met t lo hi = go (p t) refl
        where
          go : (b : Bool) → p t ≡ b → p t ≡ true
          go true e = e
          go false e = absurd (clash (isnt-in _ (λ g. clash g e)) (f.none t lo hi))

      inside : end ≤ T
      inside = go (ltb T end) refl
        where
          go : (b : Bool) → ltb T end ≡ b → end ≤ T
          go true e = absurd (clash (met T (omega arith) (ltb-true _ _ e)) (below T (le_refl T)))
          go false e = ltb-false _ _ e

      apart : p end ≡ false
      apart = to-false _ (isnt-of _ (f.passes (omega (arith, inside))))

      rising : first < end
      rising = go (eq-or-lt_of_le f.low)
        where
          go : (first ≡ end) ⊎ (first < end) → first < end
          go (inl e) = absurd (clash (s.meets h) (rw (← e) at apart))
          go (inr k) = k

-- the runs of a pair depend on the ticks before T alone
pub runs_same : (T : ℕ) (p q : ℕ → Bool) → ((t : ℕ) → t < T → p t ≡ q t) → (u v : ℕ) → runs_of T p u v ≡ runs_of T q u v
unfolding runs_of run_at
runs_same T p q same u v = concat-same T _ _ (λ t h. rw (ends_same T p q same t h, start-same T p q same t (omega arith)))
