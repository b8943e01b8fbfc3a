-- Laws of maximal cores: only the largest order of a span can be one, and of the spans that contain it the two that are one tick longer decide.
use mathlib.Core.Path.{◌≡◌, refl, sym, ◌∙◌}
use mathlib.Core.Bool.{Bool, true, false}
use mathlib.Core.List.{List, [], ◌∷◌}
use mathlib.Core.Logic.{◌⊎◌, inl, inr, by_cases}
use Prim.Native.Nat.{ℕ, zero, suc, ◌≤◌, ◌<◌, max, zero-le, suc-le-suc}
use native.Mathlib.Nat.{le_refl, le_trans, eq-or-lt_of_le}
use native.Mathlib.Decide.{dec_lt, dec_le}
use native.Mathlib.Omega.{arith}
use lib.Dec.{ltb}
use borrow.Author.Tests.{leb-true, le-leb, ltb-true, lt-ltb, le-ltb, eqb-true, eq-eqb}
use Rattle.sets.specs.Bools.{◌and◌, ◌or◌, isnt}
use Rattle.sets.specs.Sets.{Sub, set_of, intersection}
use Rattle.sets.specs.Tables.{concat_below, keep_if}
use Rattle.sets.proofs.Bools.{clash, and_in, and_left, and_right, or_left, or_right, or-of, isnt-in, isnt-of, all_in, all_of}
use Rattle.sets.proofs.Sets.{some, of-intersection-left, set-lt, none-sub, sub_refl, sub_trans, sub-pos}
use Rattle.sets.proofs.Size.{size_mono, size-le}
use Rattle.sets.proofs.Concat.{concat-nil, concat-only, keep-nil, keep_all}
use Rattle.cores.specs.Graphs.{degree}
use Rattle.cores.specs.Cores.{core}
use Rattle.cores.proofs.Cores.{core-cohesive, core_mono}
use Rattle.cores.proofs.Orders.{contains-of, contains-in, score-of, score-in, le-by-orders}
use Rattle.spans.specs.Spans.{is_span, throughout, span_neighbours}
use Rattle.spans.specs.SpanCores.{SpanCore, core_on, has_core}
use Rattle.spans.specs.Plans.{score_on}
use Rattle.spans.specs.Reports.{as_large, same, is_maximal, is_group, groups_on}
use Rattle.spans.specs.LongerSpans.{score_before, new_members}
use Rattle.spans.proofs.SpanRows.{span-fewer, span-in, span_of}

-- a core of order k is there exactly up to the largest order of the span, which is the score of the empty query
pub has-score : (n : ℕ) (ws : List ℕ) (base k first last : ℕ) → 1 ≤ k → k ≤ score_on n ws base 0 first last → has_core n ws base k first last ≡ true
unfolding has_core core_on score_on
has-score n ws base k first last l h = lt-ltb _ _ (contains-of _ _ 0 k (score-of (span_neighbours n ws first last) base 0 k l h)).0

score-has : (n : ℕ) (ws : List ℕ) (base k first last : ℕ) → has_core n ws base k first last ≡ true → k ≤ score_on n ws base 0 first last
unfolding has_core core_on score_on
score-has n ws base k first last e = score-in (span_neighbours n ws first last) base 0 k (contains-in _ _ 0 k (ltb-true _ _ e) (none-sub _))

-- the score of a query on the span that is one tick longer at its start, if there is one
pub score-before-none : (n : ℕ) (ws : List ℕ) (base query last : ℕ) → score_before n ws base query 0 last ≡ 0
unfolding score_before
score-before-none n ws base query last = refl

pub score-before-more : (n : ℕ) (ws : List ℕ) (base query first last : ℕ) → score_before n ws base query (suc first) last ≡ score_on n ws base query first last
unfolding score_before
score-before-more n ws base query first last = refl

-- the score of a query falls as a span grows: the core on a span lies in the core of the same order on every span within it
pub score-falls : (n : ℕ) (ws : List ℕ) (base query first last first' last' : ℕ) → first' ≤ first → last ≤ last'
    → score_on n ws base query first' last' ≤ score_on n ws base query first last
unfolding score_on
score-falls n ws base query first last first' last' l r = go (score_on n ws base query first' last') refl
  where
    go : (k : ℕ) → score_on n ws base query first' last' ≡ k → k ≤ score_on n ws base query first last
    go zero e = zero-le
    go (suc k) e =
        let c = contains-of (span_neighbours n ws first' last') base query (suc k) (score-of _ _ query (suc k) (suc-le-suc zero-le) (omega arith)) in
        let f = core_mono base base (suc k) (suc k) (sub_refl _) (span-fewer n ws base first last first' last' l r) (le_refl _) in
        score-in _ _ query (suc k) (contains-in _ _ query (suc k) (sub-pos f c.0) (sub_trans c.1 f))

-- the score on the longer span is no larger
pub score-before-le : (n : ℕ) (ws : List ℕ) (base query first last : ℕ) → score_before n ws base query first last ≤ score_on n ws base query first last
score-before-le n ws base query zero last = omega (arith, score-before-none n ws base query last)
score-before-le n ws base query (suc first) last = omega (arith, score-before-more n ws base query first last, score-falls n ws base query (suc first) last first last (omega arith) (omega arith))

-- no badge has more than n neighbours on a span, so no score is above n, whatever the base
degree-le : (n : ℕ) (ws : List ℕ) (first last s u : ℕ) → degree (span_neighbours n ws first last) s u ≤ n
unfolding degree span_neighbours
degree-le n ws first last s u =
    let neighbours = set_of n (throughout n ws first last u) in
    let within : Sub (intersection neighbours s) neighbours = record { at = λ v i. of-intersection-left neighbours s v i } in
    omega (arith, size_mono within, size-le n neighbours (set-lt n (throughout n ws first last u)))

pub score-on-le : (n : ℕ) (ws : List ℕ) (base query first last : ℕ) → score_on n ws base query first last ≤ n
unfolding score_on
score-on-le n ws base query first last = le-by-orders _ _ (λ k l h.
    let rows = span_neighbours n ws first last in
    let u = some (core rows base k) (λ e. omega (arith, (contains-of rows base query k (score-of rows base query k l h)).0)) in
    le_trans ((core-cohesive rows base k).each u.0 u.1) (degree-le n ws first last (core rows base k) u.0))

-- the score of a query on the span that is one tick longer at its end, 0 where there is none
unfoldable pub score_after : ℕ → ℕ → List ℕ → ℕ → ℕ → ℕ → ℕ → ℕ
score_after n T ws base query first last = elim (ltb (suc last) T) [ true ↦ score_on n ws base query first (suc last) | false ↦ 0 ]

pub after-yes : (n T : ℕ) (ws : List ℕ) (base query first last : ℕ) → suc last < T → score_after n T ws base query first last ≡ score_on n ws base query first (suc last)
unfolding score_after
after-yes n T ws base query first last h = rw (lt-ltb (suc last) T h, score_after)

pub after-no : (n T : ℕ) (ws : List ℕ) (base query first last : ℕ) → T ≤ suc last → score_after n T ws base query first last ≡ 0
unfolding score_after
after-no n T ws base query first last h = rw (le-ltb (suc last) T h, score_after)

-- the three tests of a core that is at least as large, and not the same
large-in : (k first last k' first' last' : ℕ) → k ≤ k' → first' ≤ first → last ≤ last' → as_large k first last k' first' last' ≡ true
unfolding as_large
large-in k first last k' first' last' a b c = and_in _ _ (and_in _ _ (le-leb _ _ a) (le-leb _ _ b)) (le-leb _ _ c)

large-of : (k first last k' first' last' : ℕ) → as_large k first last k' first' last' ≡ true → (k ≤ k') × (first' ≤ first) × (last ≤ last')
unfolding as_large
large-of k first last k' first' last' e = (leb-true _ _ (and_left _ _ (and_left _ _ e)), leb-true _ _ (and_right _ _ (and_left _ _ e)), leb-true _ _ (and_right _ _ e))

pub same_in : (k first last : ℕ) → same k first last k first last ≡ true
unfolding same
same_in k first last = and_in _ _ (and_in _ _ (eq-eqb k k refl) (eq-eqb first first refl)) (eq-eqb last last refl)

pub same_of : (k first last k' first' last' : ℕ) → same k first last k' first' last' ≡ true → (k' ≡ k) × (first' ≡ first) × (last' ≡ last)
unfolding same
same_of k first last k' first' last' e = (eqb-true _ _ (and_left _ _ (and_left _ _ e)), eqb-true _ _ (and_right _ _ (and_left _ _ e)), eqb-true _ _ (and_right _ _ e))

-- A core is maximal exactly when every core with order and span at least as large is the same.
module _ (n T : ℕ) (ws : List ℕ) (base k first last : ℕ) where
  pub maximal-of : is_maximal n T ws base k first last ≡ true
      → (k' first' last' : ℕ) → first' ≤ last' → last' < T → k ≤ k' → first' ≤ first → last ≤ last' → has_core n ws base k' first' last' ≡ true → (k' ≡ k) × (first' ≡ first) × (last' ≡ last)
  unfolding is_maximal
  maximal-of e k' first' last' m w a b c h = go (or-of _ _ (all_of T _ (all_of T _ (all_of (suc n) _ e k' (suc-le-suc (le_trans (score-has n ws base k' first' last' h) (score-on-le n ws base 0 first' last')))) first' (omega arith)) last' w))
    where
      go : (isnt (is_span T first' last' and as_large k first last k' first' last' and has_core n ws base k' first' last') ≡ true) ⊎ (same k first last k' first' last' ≡ true) → (k' ≡ k) × (first' ≡ first) × (last' ≡ last)
      go (inl x) = absurd (isnt-of _ x (and_in _ _ (and_in _ _ (span-in T first' last' m w) (large-in k first last k' first' last' a b c)) h))
      go (inr x) = same_of k first last k' first' last' x

  pub maximal-in : ((k' first' last' : ℕ) → first' ≤ last' → last' < T → k ≤ k' → first' ≤ first → last ≤ last' → has_core n ws base k' first' last' ≡ true → (k' ≡ k) × (first' ≡ first) × (last' ≡ last))
      → is_maximal n T ws base k first last ≡ true
  unfolding is_maximal
  maximal-in f = all_in (suc n) _ (λ k' a. all_in T _ (λ first' b. all_in T _ (λ last' c. go k' first' last' (is_span T first' last' and as_large k first last k' first' last' and has_core n ws base k' first' last') refl)))
    where
      go : (k' first' last' : ℕ) (b : Bool) → (is_span T first' last' and as_large k first last k' first' last' and has_core n ws base k' first' last') ≡ b
          → (isnt (is_span T first' last' and as_large k first last k' first' last' and has_core n ws base k' first' last') or same k first last k' first' last') ≡ true
      go k' first' last' false e = or_left _ _ (isnt-in _ (λ g. clash g e))
      go k' first' last' true e =
          let s = span_of T first' last' (and_left _ _ (and_left _ _ e)) in
          let l = large-of k first last k' first' last' (and_right _ _ (and_left _ _ e)) in
          let x = f k' first' last' s.0 s.1 l.0 l.1 l.2 (and_right _ _ e) in
          or_right _ _ (rw (x.0, x.1, x.2) (same_in k first last))

-- On a span of the day: a group's order is the largest of the span and above those of the two spans that are one tick longer,
module _ (n T : ℕ) (ws : List ℕ) (base first last : ℕ) (m : first ≤ last) (w : last < T) where
  pub group_of : (k : ℕ) → is_group n T ws base k first last ≡ true → (k ≡ score_on n ws base 0 first last) × (score_before n ws base 0 first last < k) × (score_after n T ws base 0 first last < k)
  unfolding is_group
  group_of k e = (own, before first refl, after (dec_lt (suc last) T))
    where
      l : 1 ≤ k
      l = leb-true _ _ (and_left _ _ (and_left _ _ e))

      h : has_core n ws base k first last ≡ true
      h = and_right _ _ (and_left _ _ e)

      x : (k' first' last' : ℕ) → first' ≤ last' → last' < T → k ≤ k' → first' ≤ first → last ≤ last' → has_core n ws base k' first' last' ≡ true → (k' ≡ k) × (first' ≡ first) × (last' ≡ last)
      x = maximal-of n T ws base k first last (and_right _ _ e)

      own : k ≡ score_on n ws base 0 first last
      own =
          let t = score-has n ws base k first last h in
          sym (x (score_on n ws base 0 first last) first last m w t (le_refl first) (le_refl last) (has-score n ws base (score_on n ws base 0 first last) first last (le_trans l t) (le_refl _))).0

      before : (a : ℕ) → first ≡ a → score_before n ws base 0 first last < k
      before zero f = rw (f, score-before-none n ws base 0 last) l
      before (suc a) f = rw (f, score-before-more n ws base 0 a last) (below (dec_le k (score_on n ws base 0 a last)))
        where
          below : Dec (k ≤ score_on n ws base 0 a last) → score_on n ws base 0 a last < k
          below (yes g) = absurd (let r = x k a last (omega arith) w (le_refl k) (omega arith) (le_refl last) (has-score n ws base k a last l g) in omega (arith, r.1))
          below (no g) = omega arith

      after : Dec (suc last < T) → score_after n T ws base 0 first last < k
      after (no g) = rw (after-no n T ws base 0 first last (omega arith)) l
      after (yes g) = rw (after-yes n T ws base 0 first last g) (below (dec_le k (score_on n ws base 0 first (suc last))))
        where
          below : Dec (k ≤ score_on n ws base 0 first (suc last)) → score_on n ws base 0 first (suc last) < k
          below (yes g') = absurd (let r = x k first (suc last) (omega arith) g (le_refl k) (le_refl first) (omega arith) (has-score n ws base k first (suc last) l g') in omega (arith, r.2))
          below (no g') = omega arith

  -- and such an order is a group's.
  pub group-in : score_before n ws base 0 first last < score_on n ws base 0 first last → score_after n T ws base 0 first last < score_on n ws base 0 first last → is_group n T ws base (score_on n ws base 0 first last) first last ≡ true
  unfolding is_group
  group-in b a =
      let l : 1 ≤ score_on n ws base 0 first last = omega arith in
      and_in _ _ (and_in _ _ (le-leb _ _ l) (has-score n ws base _ first last l (le_refl _))) (maximal-in n T ws base _ first last (λ k' first' last' p q u v z h. go k' first' last' q u (eq-or-lt_of_le v) (eq-or-lt_of_le z) h))
    where
      before : (f first' last' : ℕ) → first ≡ suc f → first' ≤ f → last ≤ last' → score_on n ws base 0 first' last' ≤ score_before n ws base 0 first last
      before f first' last' e g z = rw (e, score-before-more n ws base 0 f last) (score-falls n ws base 0 f last first' last' g z)

      go : (k' first' last' : ℕ) → last' < T → score_on n ws base 0 first last ≤ k' → (first' ≡ first) ⊎ (first' < first) → (last ≡ last') ⊎ (last < last') → has_core n ws base k' first' last' ≡ true
          → (k' ≡ score_on n ws base 0 first last) × (first' ≡ first) × (last' ≡ last)
      go k' first' last' q u (inl e) (inl f) h =
          let t : k' ≤ score_on n ws base 0 first last = rw (e, ← f) at (score-has n ws base k' first' last' h) in
          (omega arith, e, sym f)
      go k' first' last' q u (inl e) (inr f) h =
          absurd (omega (arith, score-has n ws base k' first' last' h, score-falls n ws base 0 first (suc last) first' last' (omega arith) f, after-yes n T ws base 0 first last (omega arith)))
      go k' first' last' q u (inr e) z h = absurd (longer first refl)
        where
          longer : (c : ℕ) → first ≡ c → ⊥
          longer zero g = omega arith
          longer (suc c) g = omega (arith, score-has n ws base k' first' last' h, before c first' last' g (omega arith) (le z))
            where
              le : (last ≡ last') ⊎ (last < last') → last ≤ last'
              le (inl y) = omega arith
              le (inr y) = omega arith

-- the members of the core of a score that is above that on the longer span, and none where it is not
module _ (n : ℕ) (ws : List ℕ) (base query first last : ℕ) where
  pub new-yes : score_before n ws base query first last < score_on n ws base query first last → new_members n ws base query first last ≡ core_on n ws base (score_on n ws base query first last) first last
  unfolding new_members
  new-yes h = rw (lt-ltb (score_before n ws base query first last) (score_on n ws base query first last) h, new_members)

  pub new-no : score_on n ws base query first last ≤ score_before n ws base query first last → new_members n ws base query first last ≡ 0
  unfolding new_members
  new-no h = rw (le-ltb (score_before n ws base query first last) (score_on n ws base query first last) h, new_members)

-- So the groups on a span are the one with these members, of the largest order, if there are any and the order is above that after it.
pub groups-on : (n T : ℕ) (ws : List ℕ) (base first last : ℕ) → first ≤ last → last < T
    → groups_on n T ws base first last
    ≡ keep_if (ltb 0 (new_members n ws base 0 first last) and ltb (score_after n T ws base 0 first last) (score_on n ws base 0 first last)) (record { order = score_on n ws base 0 first last; first = first; last = last; members = new_members n ws base 0 first last } ∷ [])
unfolding groups_on has_core
groups-on n T ws base first last m w = by_cases (dec_lt (max (score_before n ws base 0 first last) (score_after n T ws base 0 first last)) (score_on n ws base 0 first last)) yes' no'
  where
    t : ℕ
    t = score_on n ws base 0 first last

    at : ℕ → List SpanCore
    at k = keep_if (is_group n T ws base k first last) (record { order = k; first = first; last = last; members = core_on n ws base k first last } ∷ [])

    yes' : max (score_before n ws base 0 first last) (score_after n T ws base 0 first last) < t
        → concat_below (suc n) at ≡ keep_if (ltb 0 (new_members n ws base 0 first last) and ltb (score_after n T ws base 0 first last) t) (record { order = t; first = first; last = last; members = new_members n ws base 0 first last } ∷ [])
    yes' h =
        let g = group-in n T ws base first last m w (omega arith) (omega arith) in
        let e : new_members n ws base 0 first last ≡ core_on n ws base t first last =
        new-yes n ws base 0 first last (omega arith) in
        let p : ltb 0 (core_on n ws base t first last) ≡ true = has-core (has-score n ws base t first last (omega arith) (le_refl _)) in
        concat-only (suc n) at t (suc-le-suc (score-on-le n ws base 0 first last)) (λ k l d. keep-nil _ _ (λ f. d (group_of n T ws base first last m w k f).0))
        ∙ keep_all _ _ g ∙ rw e (sym (keep_all _ _ (and_in _ _ p (lt-ltb (score_after n T ws base 0 first last) t (omega arith)))))
      where
        has-core : has_core n ws base t first last ≡ true → ltb 0 (core_on n ws base t first last) ≡ true
        has-core f = f

    no' : (max (score_before n ws base 0 first last) (score_after n T ws base 0 first last) < t → ⊥)
        → concat_below (suc n) at ≡ keep_if (ltb 0 (new_members n ws base 0 first last) and ltb (score_after n T ws base 0 first last) t) (record { order = t; first = first; last = last; members = new_members n ws base 0 first last } ∷ [])
    no' h =
        concat-nil (suc n) at (λ k l. keep-nil _ _ (λ f. let r = group_of n T ws base first last m w k f in h (omega (arith, r.0, r.1, r.2))))
        ∙ sym (keep-nil _ _ (λ f.
        let a = ltb-true 0 (new_members n ws base 0 first last) (and_left _ _ f) in
        let b = ltb-true (score_after n T ws base 0 first last) t (and_right _ _ f) in
        omega (arith, new-no n ws base 0 first last (omega arith))))
