-- Laws of the day in words: how many words there are, which word is a badge's in a tick, when lists of words are equal,
-- and which words are those of a day.
use mathlib.Core.Path.{◌≡◌, refl, sym, ap, subst, ◌∙◌}
use mathlib.Core.Bool.{Bool, true, false}
use mathlib.Core.List.{List, [], ◌++◌, append-nil}
use mathlib.Core.Logic.{◌⊎◌, inl, inr}
use Prim.Native.Nat.{ℕ, zero, suc, ◌+◌, ◌*◌, ◌/◌, ◌%◌, ◌^◌, ◌≤◌, ◌<◌}
use native.Mathlib.Nat.{eq-or-lt_of_le, not-suc-le-zero, suc-mul, zero-mul, mul-le-mul_right, mod-lt, div-add-mod', div-lt_iff_lt-mul, lt_of_lt_of_le}
use native.Mathlib.Omega.{arith}
use lib.Arith.{digits_lt}
use lib.ListN.{length, get_or, take, drop, replicate, length-append, get_or-append, length-replicate, get_or-replicate}
use lib.Pow.{pow_mono}
use lib.Seq.{get_or-append-add, ext_get_or}
use Rattle.sets.specs.Sets.{In, set_of}
use Rattle.sets.specs.Members.{capacity}
use Rattle.sets.specs.Words.{Words, set_words, set_at, words_of}
use Rattle.sets.proofs.Bools.{clash}
use Rattle.sets.proofs.Tables.{tabulate-length, tabulate-at}
use Rattle.sets.proofs.Sets.{not-in-none, set-lt, in-set, of-set, of-set-lt, ext}
use Rattle.sets.proofs.Places.{sets_same, set-at-append, set-at-take, set-at-drop, words-of-length, set-at-words, words-zero, words-fit}
use Rattle.records.specs.Limits.{words_for}
use Rattle.days.specs.Days.{neighbours, tick_sets, day_sets, day_words, IsTick, IsDay}

-- a tick has n sets, and a day of T ticks T * n, with the words of so many
tick-length : (n : ℕ) (r : ℕ → ℕ → Bool) → length (tick_sets n r) ≡ n
unfolding tick_sets
tick-length n r = tabulate-length n (λ u. set_of n (r u))

pub sets-length : (n T : ℕ) (r : ℕ → ℕ → ℕ → Bool) → length (day_sets n T r) ≡ T * n
unfolding day_sets
sets-length n zero r = sym (zero-mul n)
sets-length n (suc T) r = length-append (day_sets n T r) (tick_sets n (r T)) ∙ omega (arith, sets-length n T r, tick-length n (r T))

pub day-length : (n T : ℕ) (r : ℕ → ℕ → ℕ → Bool) → length (day_words n T r) ≡ words_for n T
unfolding day_words
day-length n T r = words-of-length (day_sets n T r) ∙ ap (λ (m : ℕ). m * set_words) (sets-length n T r)

-- the sets of a tick before T are among the first T * n
pub tick-fits : (t T n : ℕ) → t < T → t * n + n ≤ T * n
tick-fits t T n h = rw suc-mul at (mul-le-mul_right n h)

-- words behind those of the day change nothing, nor does their absence
pub neighbours-append : (n T : ℕ) (xs ys : List ℕ) (t u : ℕ) → length xs ≡ words_for n T → t < T → u < n → neighbours n (xs ++ ys) t u ≡ neighbours n xs t u
unfolding neighbours
neighbours-append n T xs ys t u e h k = set-at-append xs ys (t * n + u) (omega (arith, digits_lt h k))

pub neighbours-take : (n T : ℕ) (ws : List ℕ) (t u : ℕ) → t < T → u < n → neighbours n (take (words_for n T) ws) t u ≡ neighbours n ws t u
unfolding neighbours
neighbours-take n T ws t u h k = set-at-take (T * n) ws (t * n + u) (digits_lt h k)

-- the sets from a tick's first on are the neighbours in this tick
pub neighbours-part : (n : ℕ) (ws : List ℕ) (t w u : ℕ) → u < w → set_at (take (w * set_words) (drop (t * n * set_words) ws)) u ≡ neighbours n ws t u
unfolding neighbours
neighbours-part n ws t w u l = set-at-take w _ u l ∙ set-at-drop (t * n) ws u

-- the set of u in a tick has those that the relation joins to u
pub day-set : (n T : ℕ) (r : ℕ → ℕ → ℕ → Bool) (t u : ℕ) → t < T → u < n → get_or (day_sets n T r) (t * n + u) 0 ≡ set_of n (r t u)
unfolding day_sets tick_sets
day-set n zero r t u h k = absurd (not-suc-le-zero h)
day-set n (suc T) r t u h k = go (eq-or-lt_of_le h) (day-set n T r t u)
  where
    below : suc t < suc T → t < T
    below l = omega arith

    go : (suc t ≡ suc T) ⊎ (suc t < suc T) → (t < T → u < n → get_or (day_sets n T r) (t * n + u) 0 ≡ set_of n (r t u))
        → get_or (day_sets n T r ++ tick_sets n (r T)) (t * n + u) 0 ≡ set_of n (r t u)
    go (inl e) ih =
        let f : t ≡ T = omega arith in
        let g : get_or (day_sets n T r ++ tick_sets n (r T)) (T * n + u) 0 ≡ set_of n (r T u) =
        rw (← sets-length n T r) (get_or-append-add (day_sets n T r) (tick_sets n (r T)) u 0) ∙ tabulate-at n (λ u. set_of n (r T u)) u k in
        rw f g
    go (inr l) ih = get_or-append (day_sets n T r) (tick_sets n (r T)) 0 (t * n + u) (omega (arith, sets-length n T r, digits_lt (below l) k)) ∙ ih (omega arith) k

-- the neighbours of u in a tick are those that the relation joins to u
pub neighbours-day : (n T : ℕ) (r : ℕ → ℕ → ℕ → Bool) (t u : ℕ) → t < T → u < n → neighbours n (day_words n T r) t u ≡ set_of n (r t u)
unfolding neighbours day_words
neighbours-day n T r t u h k =
    ap (λ (ws : List ℕ). set_at ws (t * n + u)) (sym (append-nil (words_of (day_sets n T r))))
    ∙ set-at-words (day_sets n T r) [] (t * n + u) (rw (sets-length n T r) (digits_lt h k))
    ∙ day-set n T r t u h k

-- v is a neighbour of u in a tick exactly when the relation joins them there
pub in-day : (n T : ℕ) (r : ℕ → ℕ → ℕ → Bool) (t u v : ℕ) → t < T → u < n → v < n → r t u v ≡ true → In (neighbours n (day_words n T r) t u) v
in-day n T r t u v h k l e = rw (neighbours-day n T r t u h k) (in-set n (r t u) v l e)

pub of-day : (n T : ℕ) (r : ℕ → ℕ → ℕ → Bool) (t u v : ℕ) → t < T → u < n → In (neighbours n (day_words n T r) t u) v → (v < n) × (r t u v ≡ true)
of-day n T r t u v h k i =
    let j : In (set_of n (r t u)) v = rw (neighbours-day n T r t u h k) at i in
    (of-set-lt n (r t u) v j, of-set n (r t u) v j)

-- what holds of each badge in each tick holds of each place
by_place : (n T : ℕ) (P : ℕ → Type 0) → ((t u : ℕ) → t < T → u < n → P (t * n + u)) → (i : ℕ) → i < T * n → P i
by_place zero T P h i l = absurd (omega arith)
by_place (suc n) T P h i l =
    let d : i / suc n * suc n + i % suc n ≡ i = div-add-mod' i (suc n) in
    subst P d (h (i / suc n) (i % suc n) ((div-lt_iff_lt-mul (omega arith)).1 l) (mod-lt i (omega arith)))

-- two lists of words of T * n sets are equal if every badge has the same neighbours in every tick
pub same-words : (n T : ℕ) (xs ys : List ℕ) → length xs ≡ words_for n T → length ys ≡ words_for n T → Words xs → Words ys
    → ((t u : ℕ) → t < T → u < n → neighbours n xs t u ≡ neighbours n ys t u) → xs ≡ ys
unfolding neighbours
same-words n T xs ys e f v w h = sets_same (T * n) xs ys e f v w (by_place n T (λ i. set_at xs i ≡ set_at ys i) h)

-- a list of T * n sets that has a relation's neighbours has the relation's sets
pub sets-by : (n T : ℕ) (ss : List ℕ) (r : ℕ → ℕ → ℕ → Bool) → length ss ≡ T * n
    → ((t u v : ℕ) → t < T → u < n → In (get_or ss (t * n + u) 0) v → (v < n) × (r t u v ≡ true))
    → ((t u v : ℕ) → t < T → u < n → v < n → r t u v ≡ true → In (get_or ss (t * n + u) 0) v) → ss ≡ day_sets n T r
sets-by n T ss r e f g = ext_get_or 0 ss _ (e ∙ sym (sets-length n T r)) (λ i l. by_place n T (λ j. get_or ss j 0 ≡ get_or (day_sets n T r) j 0)
    (λ t u h k. ext _ _
    (λ v i. let x = f t u v h k i in rw (day-set n T r t u h k) (in-set n (r t u) v x.0 x.1))
    (λ v i. let j : In (set_of n (r t u)) v = rw (day-set n T r t u h k) at i in g t u v h k (of-set-lt n (r t u) v j) (of-set n (r t u) v j))) i (omega arith))

-- two tests that agree below n have the same set, and one that nothing passes has the empty set
set_same : (n : ℕ) (p q : ℕ → Bool) → ((v : ℕ) → v < n → p v ≡ q v) → set_of n p ≡ set_of n q
set_same n p q e = ext _ _
    (λ v i. let l = of-set-lt n p v i in in-set n q v l (sym (e v l) ∙ of-set n p v i))
    (λ v i. let l = of-set-lt n q v i in in-set n p v l (e v l ∙ of-set n q v i))

set-none : (n : ℕ) → set_of n (λ v. false) ≡ 0
set-none n = ext _ 0 (λ v i. absurd (clash (of-set n (λ v. false) v i) refl)) (λ v i. absurd (not-in-none v i))

-- two relations that are equal below T and n have the same words
pub day-same : (n T : ℕ) (r q : ℕ → ℕ → ℕ → Bool) → ((t u v : ℕ) → t < T → u < n → v < n → r t u v ≡ q t u v) → day_words n T r ≡ day_words n T q
unfolding day_words
day-same n T r q e = ap words_of (ext_get_or 0 _ _ (sets-length n T r ∙ sym (sets-length n T q)) (λ i l. by_place n T (λ j. get_or (day_sets n T r) j 0 ≡ get_or (day_sets n T q) j 0)
    (λ t u h k. day-set n T r t u h k ∙ set_same n (r t u) (q t u) (λ v m. e t u v h k m) ∙ sym (day-set n T q t u h k)) i (omega (arith, sets-length n T r))))

-- the words of a day of badges that a set can hold are words
pub day-fits : (n T : ℕ) (r : ℕ → ℕ → ℕ → Bool) → n ≤ capacity → Words (day_words n T r)
unfolding day_words
day-fits n T r few = words-fit (day_sets n T r) (λ i l. by_place n T (λ j. get_or (day_sets n T r) j 0 < 2 ^ capacity)
    (λ t u h k. rw (day-set n T r t u h k) (lt_of_lt_of_le (set-lt n (r t u)) (pow_mono few))) i (omega (arith, sets-length n T r)))

-- words of T * n sets that have a relation's neighbours are the relation's words
pub day-by : (n T : ℕ) (ws : List ℕ) (r : ℕ → ℕ → ℕ → Bool) → n ≤ capacity → length ws ≡ words_for n T → Words ws
    → ((t u v : ℕ) → t < T → u < n → In (neighbours n ws t u) v → (v < n) × (r t u v ≡ true))
    → ((t u v : ℕ) → t < T → u < n → v < n → r t u v ≡ true → In (neighbours n ws t u) v) → ws ≡ day_words n T r
day-by n T ws r few e w f g = same-words n T ws _ e (day-length n T r) w (day-fits n T r few) (λ t u h k. ext _ _
    (λ v i. let x = f t u v h k i in in-day n T r t u v h k x.0 x.1)
    (λ v i. let x = of-day n T r t u v h k i in g t u v h k x.0 x.1))

-- the words of a day without contacts are zero
pub day-none : (n T : ℕ) → day_words n T (λ t u v. false) ≡ replicate (words_for n T) 0
unfolding day_words
day-none n T = ap words_of (ext_get_or 0 _ _ (sets-length n T _ ∙ sym (length-replicate (T * n) 0)) (λ i l. by_place n T (λ j. get_or (day_sets n T (λ t u v. false)) j 0 ≡ get_or (replicate (T * n) 0) j 0)
    (λ t u h k. day-set n T _ t u h k ∙ set-none n ∙ sym (get_or-replicate (T * n) (t * n + u) 0 0 (digits_lt h k))) i (omega (arith, sets-length n T (λ t u v. false)))))
    ∙ words-zero (T * n)

-- the words of an irreflexive and symmetric relation are a day's
pub relation-day : (n T : ℕ) (r : ℕ → ℕ → ℕ → Bool) → ((t u : ℕ) → t < T → u < n → r t u u ≡ true → ⊥)
    → ((t u v : ℕ) → t < T → u < n → v < n → r t u v ≡ true → r t v u ≡ true) → IsDay n T (day_words n T r)
relation-day n T r f g = record {
  tick = λ t h. record {
    irreflexive = λ u k i. f t u h k (of-day n T r t u u h k i).1;
    within = λ u k. rw (neighbours-day n T r t u h k) (set-lt n (r t u));
    symmetric = λ u v k l i. in-day n T r t v u h l k (g t u v h k l (of-day n T r t u v h k i).1);
  };
}

-- whether rows are those of a tick depends on the rows below n alone, and whether words are a day's on its first words alone
pub tick-same : (n : ℕ) (p q : ℕ → ℕ) → ((u : ℕ) → u < n → p u ≡ q u) → IsTick n p → IsTick n q
tick-same n p q e d = record {
  irreflexive = λ u k i. d.irreflexive u k (rw (e u k) i);
  within = λ u k. rw (← e u k) (d.within u k);
  symmetric = λ u v k l i. rw (← e v l) (d.symmetric u v k l (rw (e u k) i));
}

pub day-head : (n T : ℕ) (xs ys : List ℕ) → ((t u : ℕ) → t < T → u < n → neighbours n xs t u ≡ neighbours n ys t u) → IsDay n T xs → IsDay n T ys
day-head n T xs ys e d = record { tick = λ t h. tick-same n (neighbours n xs t) (neighbours n ys t) (λ u k. e t u h k) (d.tick t h) }
