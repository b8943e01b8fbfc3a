-- The loop over the badges that were not reached before a tick: what is known after each turn.
use mathlib.Core.Path.{◌≡◌, refl, sym, ap, ◌∙◌, subst}
use mathlib.Core.Bool.{Bool, true, false}
use mathlib.Core.List.{List}
use mathlib.Core.Logic.{◌⊎◌, inl, inr, by_cases, ⊎_elim}
use Prim.Native.Nat.{ℕ, ◌+◌, ◌<◌}
use native.Mathlib.Decide.{ℕ_discrete}
use native.Mathlib.Omega.{arith}
use lib.Dec.{eqb}
use lib.ListN.{length, set, length-set}
use lib.Seq.{get_or-set_same, get_or-set_other}
use borrow.Author.Tests.{eqb-true, eqb-false}
use Rattle.sets.specs.Sets.{bit, In, Sub, intersection, union, difference, only, full, smallest}
use Rattle.sets.specs.Members.{capacity, insert}
use Rattle.sets.specs.Tables.{piecewise}
use Rattle.sets.proofs.Sets.{not-in-none, some, in-intersection, of-intersection-left, of-intersection-right, in-union-left, in-union-right, of-union, in-difference, of-difference, in-only, of-only, in-full, of-full, ext, insert-in, sub_refl}
use Rattle.sets.proofs.Tables.{piecewise-in, piecewise-out, piecewise_same}
use Rattle.sets.proofs.Walks.{unseen-less}
use Rattle.chains.specs.Traces.{tick_in, source_in}
use Rattle.chains.specs.Sweep.{spread, source_from, ticks_first}
use Rattle.chains.proofs.Spreading.{Touched, spread-keeps, spread-in, spread-of}
use Rattle.chains.proofs.TicksFirst.{first-length, tick-at, source-at, first-is}
use Rattle.trace.specs.Steps.{reached_by, shown, new_in, Turned, PassedTick}

-- what a turn leaves, where nobody who passes on is in contact with the badge, and where somebody is
module _ (sources : ℕ) where
  pub reached-none : (s u : ℕ) → eqb sources 0 ≡ true → reached_by sources s u ≡ s
  unfolding reached_by
  reached-none s u e = rw (e, reached_by)

  pub reached-some : (s u : ℕ) → eqb sources 0 ≡ false → reached_by sources s u ≡ insert s u
  unfolding reached_by
  reached-some s u e = rw (e, reached_by)

  pub shown-none : (n u t : ℕ) (l : List ℕ) → eqb sources 0 ≡ true → shown n sources u t l ≡ l
  unfolding shown
  shown-none n u t l e = rw (e, shown)

  pub shown-some : (n u t : ℕ) (l : List ℕ) → eqb sources 0 ≡ false → shown n sources u t l ≡ set (set l u t) (n + u) (smallest capacity sources)
  unfolding shown
  shown-some n u t l e = rw (e, shown)

  pub shown-long : (n u t : ℕ) (l : List ℕ) → length (shown n sources u t l) ≡ length l
  shown-long n u t l = go (eqb sources 0) refl
    where
      go : (b : Bool) → eqb sources 0 ≡ b → length (shown n sources u t l) ≡ length l
      go true e = ap length (shown-none n u t l e)
      go false e = ap length (shown-some n u t l e) ∙ length-set (set l u t) (n + u) _ ∙ length-set l u t

-- a function that differs on the unseen, after the turn of u: at u, and elsewhere
module _ (unseen u : ℕ) (f g : ℕ → ℕ) where
  turn-here : piecewise (difference unseen (only u)) f g u ≡ g u
  turn-here = piecewise-out _ f g u (λ i. (of-difference unseen (only u) u i).1 (in-only u))

  turn-other : (v : ℕ) → (v ≡ u → ⊥) → piecewise unseen f g v ≡ piecewise (difference unseen (only u)) f g v
  turn-other v ne = piecewise_same _ _ f g v (λ i. in-difference unseen (only u) v i (λ j. ne (of-only u v j))) (λ i. (of-difference unseen (only u) v i).0)

-- a trace in which badge u gets a tick and a source
module _ (n u t source : ℕ) (l : List ℕ) (h : u < n) (long : length l ≡ n + n) where
  abbrev after : List ℕ
  after = set (set l u t) (n + u) source

  after-long : length after ≡ n + n
  after-long = length-set (set l u t) (n + u) source ∙ length-set l u t ∙ long

  after-tick : tick_in after u ≡ t
  after-tick = get_or-set_other (set l u t) (n + u) u source 0 (λ e. omega arith) ∙ get_or-set_same l u t 0 (omega arith)

  after-source : source_in n after u ≡ source
  after-source = get_or-set_same (set l u t) (n + u) source 0 (omega (arith, length-set l u t))

  after-other : (v : ℕ) → v < n → (v ≡ u → ⊥) → (tick_in after v ≡ tick_in l v) × (source_in n after v ≡ source_in n l v)
  after-other v k ne = (
    get_or-set_other (set l u t) (n + u) v source 0 (λ e. omega arith) ∙ get_or-set_other l u v t 0 ne,
    get_or-set_other (set l u t) (n + u) (n + v) source 0 (λ e. ne (omega arith)) ∙ get_or-set_other l u (n + v) t 0 (λ e. omega arith),
  )

module _ (n : ℕ) (row : ℕ → ℕ) (t passing : ℕ) where
  abbrev new : ℕ
  new = new_in n row passing

  -- tick and source of each badge after the tick
  abbrev tick_then : (ℕ → ℕ) → ℕ → ℕ
  tick_then tick = piecewise new (λ u. t) tick

  abbrev source_then : (ℕ → ℕ) → ℕ → ℕ
  source_then source = piecewise new (source_from row passing) source

  -- before the first turn
  abbrev pub all : ℕ
  all = difference (full n) passing

  seen-before : (u : ℕ) → u < n → (In all u → ⊥) → In new u → ⊥
  seen-before u l o i = let d = of-difference (spread n row passing) passing u i in o (in-difference (full n) passing u (in-full n u l) d.1)

  unchanged : (f g : ℕ → ℕ) (u : ℕ) → u < n → g u ≡ piecewise all g (piecewise new f g) u
  unchanged f g u l = by_cases (ℕ_discrete (bit all u) 1)
      (λ i. sym (piecewise-in all g _ u i))
      (λ o. sym (piecewise-out all g _ u o ∙ piecewise-out new f g u (seen-before u l o)))

  pub turned_none : (before : List ℕ) → Turned n row t passing all passing before before
  turned_none before = record {
    within = sub_refl all;
    spreads = ext _ _
        (λ u i. in-difference (spread n row passing) all u (spread-keeps n row passing u i) (λ j. (of-difference (full n) passing u j).1 i))
        (λ u i. let d = of-difference (spread n row passing) all u i in kept u d.1 (spread-of n row passing u d.0));
    shows = λ tick source e. first-is n _ _ before (ap length e ∙ first-length n tick source)
        (λ u l. ap (λ (x : List ℕ). tick_in x u) e ∙ tick-at n tick source u l ∙ unchanged _ tick u l)
        (λ u l. ap (λ (x : List ℕ). source_in n x u) e ∙ source-at n tick source u l ∙ unchanged _ source u l);
  }
    where
      kept : (u : ℕ) → (In all u → ⊥) → In passing u ⊎ Touched n row passing u → In passing u
      kept u o (inl i) = i
      kept u o (inr h) = by_cases (ℕ_discrete (bit passing u) 1) (λ i. i) (λ p. absurd (o (in-difference (full n) passing u (in-full n u h.below) p)))

  -- one turn more
  module _ (u : ℕ) {unseen reached sources : ℕ} {before trace : List ℕ} (w : Turned n row t passing unseen reached before trace) (i : In unseen u) (e : sources ≡ intersection (row u) passing) where
    fresh : (u < n) × (In passing u → ⊥)
    fresh = let d = of-difference (full n) passing u (w.within.at u i) in (of-full n u d.0, d.1)

    less : Sub (difference unseen (only u)) all
    less = unseen-less u w.within

    -- nobody who passes on is in contact with the badge: it is not reached
    module _ (none : eqb sources 0 ≡ true) where
      stays : In (spread n row passing) u → ⊥
      stays j = ⊎_elim fresh.1 (λ h. not-in-none h.by (subst (λ (x : ℕ). In x h.by) (sym e ∙ eqb-true _ _ none) (in-intersection _ _ h.by h.row_has h.member))) (spread-of n row passing u j)

      as_before : (f g : ℕ → ℕ) (v : ℕ) → piecewise unseen g (piecewise new f g) v ≡ piecewise (difference unseen (only u)) g (piecewise new f g) v
      as_before f g v = by_cases (ℕ_discrete v u)
          (λ q. subst (λ (v : ℕ). piecewise unseen g (piecewise new f g) v ≡ piecewise (difference unseen (only u)) g (piecewise new f g) v) (sym q)
          (piecewise-in unseen g _ u i ∙ sym (turn-here unseen u g _ ∙ piecewise-out new f g u (λ j. stays (of-difference _ passing u j).0))))
          (λ q. turn-other unseen u g _ v q)

      turned-over : Turned n row t passing (difference unseen (only u)) reached before trace
      turned-over = record {
        within = less;
        spreads = w.spreads ∙ ext _ _
            (λ v j. let d = of-difference (spread n row passing) unseen v j in in-difference _ (difference unseen (only u)) v d.0 (λ k. d.1 (of-difference unseen (only u) v k).0))
            (λ v j.
            let d = of-difference (spread n row passing) (difference unseen (only u)) v j in
            in-difference _ unseen v d.0 (λ k. d.1 (in-difference unseen (only u) v k (λ o. stays (subst (In (spread n row passing)) (of-only u v o) d.0)))));
        shows = λ tick source g. w.shows tick source g ∙ first-is n _ _ _ (first-length n _ _)
            (λ v l. tick-at n _ _ v l ∙ as_before _ tick v)
            (λ v l. source-at n _ _ v l ∙ as_before _ source v);
      }

    -- somebody is: it is reached
    module _ (some-source : eqb sources 0 ≡ false) (small : u < capacity) where
      grows : In (spread n row passing) u
      grows =
          let m = some sources (eqb-false _ _ some-source) in
          let j = subst (λ (x : ℕ). In x m.0) e m.1 in
          spread-in n row passing u (record { below = fresh.0; by = m.0; row_has = of-intersection-left _ _ m.0 j; member = of-intersection-right _ _ m.0 j })

      is-new : In new u
      is-new = in-difference _ passing u grows fresh.1

      with-u : union (difference (spread n row passing) unseen) (only u) ≡ difference (spread n row passing) (difference unseen (only u))
      with-u = ext _ _
          (λ v j. ⊎_elim
          (λ k. let d = of-difference _ unseen v k in in-difference _ _ v d.0 (λ o. d.1 (of-difference unseen (only u) v o).0))
          (λ k. let q = of-only u v k in in-difference _ _ v (subst (In (spread n row passing)) (sym q) grows) (λ o. (of-difference unseen (only u) v o).1 k))
          (of-union (difference (spread n row passing) unseen) (only u) v j))
          (λ v j.
          let d = of-difference (spread n row passing) (difference unseen (only u)) v j in
          by_cases (ℕ_discrete v u)
          (λ q. in-union-right _ (only u) v (subst (In (only u)) (sym q) (in-only u)))
          (λ q. in-union-left _ (only u) v (in-difference _ unseen v d.0 (λ k. d.1 (in-difference unseen (only u) v k (λ o. q (of-only u v o)))))))

      turned-to : Turned n row t passing (difference unseen (only u)) (insert reached u) before (set (set trace u t) (n + u) (smallest capacity sources))
      unfolding source_from
      turned-to = record { within = less; spreads = insert-in reached u small ∙ ap (λ (x : ℕ). union x (only u)) w.spreads ∙ with-u; shows = showing }
        where
          showing : (tick source : ℕ → ℕ) → before ≡ ticks_first n tick source
              → set (set trace u t) (n + u) (smallest capacity sources)
              ≡ ticks_first n (piecewise (difference unseen (only u)) tick (tick_then tick)) (piecewise (difference unseen (only u)) source (source_then source))
          showing tick source g = first-is n _ _ _ (after-long n u t _ trace fresh.0 long)
              (λ v l. by_cases (ℕ_discrete v u)
              (λ q. subst (λ (v : ℕ). tick_in (after n u t from trace fresh.0 long) v ≡ piecewise (difference unseen (only u)) tick (tick_then tick) v) (sym q)
              (after-tick n u t from trace fresh.0 long ∙ sym (turn-here unseen u tick _ ∙ piecewise-in new _ tick u is-new)))
              (λ q. (after-other n u t from trace fresh.0 long v l q).0 ∙ ap (λ (x : List ℕ). tick_in x v) was ∙ tick-at n _ _ v l ∙ turn-other unseen u tick _ v q))
              (λ v l. by_cases (ℕ_discrete v u)
              (λ q. subst (λ (v : ℕ). source_in n (after n u t from trace fresh.0 long) v ≡ piecewise (difference unseen (only u)) source (source_then source) v) (sym q)
              (after-source n u t from trace fresh.0 long ∙ ap (smallest capacity) e ∙ sym (turn-here unseen u source _ ∙ piecewise-in new _ source u is-new)))
              (λ q. (after-other n u t from trace fresh.0 long v l q).1 ∙ ap (λ (x : List ℕ). source_in n x v) was ∙ source-at n _ _ v l ∙ turn-other unseen u source _ v q))
            where
              from : ℕ
              from = smallest capacity sources

              was : trace ≡ ticks_first n (piecewise unseen tick (tick_then tick)) (piecewise unseen source (source_then source))
              was = w.shows tick source g

              long : length trace ≡ n + n
              long = ap length was ∙ first-length n _ _

    pub turned_more : {next : ℕ} {out : List ℕ} → u < capacity → next ≡ reached_by sources reached u → out ≡ shown n sources u t trace → Turned n row t passing (difference unseen (only u)) next before out
    turned_more {next} {out} small f g = go (eqb sources 0) refl
      where
        go : (b : Bool) → eqb sources 0 ≡ b → Turned n row t passing (difference unseen (only u)) next before out
        go true b = rw (f ∙ reached-none sources reached u b, g ∙ shown-none sources n u t trace b) (turned-over b)
        go false b = rw (f ∙ reached-some sources reached u b, g ∙ shown-some sources n u t trace b) (turned-to b small)

  -- after the last
  pub turned-done : {unseen reached : ℕ} {before trace : List ℕ} → unseen ≡ 0 → Turned n row t passing unseen reached before trace → PassedTick n row t passing reached before trace
  turned-done {unseen} {reached} {before} {trace} z w = record { spreads = whole; shows = λ tick source e. shows tick source (w.shows tick source e) }
    where
      none : (u : ℕ) → In unseen u → ⊥
      none u i = not-in-none u (subst (λ (x : ℕ). In x u) z i)

      whole : reached ≡ spread n row passing
      whole = w.spreads ∙ ext _ _ (λ u i. (of-difference _ unseen u i).0) (λ u i. in-difference _ unseen u i (none u))

      shows : (tick source : ℕ → ℕ) → trace ≡ ticks_first n (piecewise unseen tick (tick_then tick)) (piecewise unseen source (source_then source))
          → trace ≡ ticks_first n (piecewise (difference reached passing) (λ u. t) tick) (piecewise (difference reached passing) (source_from row passing) source)
      shows tick source e = rw whole (e ∙ first-is n _ _ _ (first-length n _ _)
          (λ u l. tick-at n _ _ u l ∙ piecewise-out unseen tick _ u (none u))
          (λ u l. source-at n _ _ u l ∙ piecewise-out unseen source _ u (none u)))
