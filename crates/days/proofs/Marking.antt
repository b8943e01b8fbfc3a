-- Laws of marking contacts in the words: one badge in one set, a pair in one tick, the ticks of a contact one by one (the loop of
-- mark_contact), and a whole record.
use mathlib.Core.Path.{◌≡◌, refl, sym, ap, ◌∙◌}
use mathlib.Core.Bool.{Bool, true, false}
use mathlib.Core.List.{List, [], ◌∷◌, ◌++◌}
use mathlib.Core.Logic.{◌⊎◌, inl, inr}
use Prim.Native.Nat.{ℕ, suc, ◌+◌, ◌*◌, ◌/◌, ◌%◌, ◌≤◌, ◌<◌}
use native.Mathlib.Nat.{le_refl, eq-or-lt_of_le}
use native.Mathlib.Decide.{ℕ_discrete}
use native.Mathlib.Numerals.{add-one}
use native.Mathlib.Omega.{arith}
use lib.Dec.{eqb, ltb}
use lib.Arith.{digits_div, digits_mod, digits_lt}
use lib.ListN.{length, get_or, set, length-set}
use lib.Seq.{get_or-set_same, get_or-set_other}
use borrow.Author.Tests.{ltb-true, lt-ltb, eqb-true, eq-eqb}
use Rattle.sets.specs.Bools.{◌and◌, ◌or◌}
use Rattle.sets.specs.Sets.{In, union, only, set_of}
use Rattle.sets.specs.Words.{set_words, set_at, put_set, words_of}
use Rattle.sets.proofs.Bools.{and_in, and_left, and_right, or_left, or_right, or-of, or-false, same_test}
use Rattle.sets.proofs.Sets.{in-union-left, in-union-right, of-union, in-only, of-only, in-set, of-set, of-set-lt}
use Rattle.sets.proofs.Places.{put-length, set-at-words, put-words}
use Rattle.records.specs.declared.record.Record.{Record}
use Rattle.records.specs.declared.record.Record.TheVariants.{Contact}
use Rattle.records.specs.Limits.{max_badges}
use Rattle.records.specs.Judging.{valid_contact}
use Rattle.records.specs.Meaning.{covers, in_contact}
use Rattle.records.proofs.Judged.{valid-of}
use Rattle.records.proofs.Meaning.{Covers, covers_of, covers-in, contact-append}
use Rattle.days.specs.Days.{neighbours, day_sets, day_words}
use Rattle.days.specs.Filling.{Fitting, marked, Marks}
use Rattle.days.proofs.Days.{sets-length, day-set, sets-by, tick-fits, day-same}

-- badge v inserted into set i of a list: every set has the members that it had, set i has v as well, and nothing else is new
abbrev inserted : List ℕ → ℕ → ℕ → List ℕ
inserted ws i v = set ws i (union (get_or ws i 0) (only v))

module _ (ws : List ℕ) (i v : ℕ) (h : i < length ws) where
  at_same : get_or (inserted ws i v) i 0 ≡ union (get_or ws i 0) (only v)
  at_same = get_or-set_same ws i (union (get_or ws i 0) (only v)) 0 h

  at_other : (j : ℕ) → (j ≡ i → ⊥) → get_or (inserted ws i v) j 0 ≡ get_or ws j 0
  at_other j f = get_or-set_other ws i j (union (get_or ws i 0) (only v)) 0 f

  insert-old : (j w : ℕ) → In (get_or ws j 0) w → In (get_or (inserted ws i v) j 0) w
  insert-old j w m = go (ℕ_discrete j i)
    where
      go : Dec (j ≡ i) → In (get_or (inserted ws i v) j 0) w
      go (yes e) = rw (e, at_same) (in-union-left (get_or ws i 0) (only v) w (rw e at m))
      go (no f) = rw (at_other j f) m

  insert-new : In (get_or (inserted ws i v) i 0) v
  insert-new = rw at_same (in-union-right (get_or ws i 0) (only v) v (in-only v))

  of-insert : (j w : ℕ) → In (get_or (inserted ws i v) j 0) w → In (get_or ws j 0) w ⊎ ((j ≡ i) × (w ≡ v))
  of-insert j w m = go (ℕ_discrete j i)
    where
      either : j ≡ i → In (get_or ws i 0) w ⊎ In (only v) w → In (get_or ws j 0) w ⊎ ((j ≡ i) × (w ≡ v))
      either e (inl o) = inl (rw e o)
      either e (inr o) = inr (e, of-only v w o)

      go : Dec (j ≡ i) → In (get_or ws j 0) w ⊎ ((j ≡ i) × (w ≡ v))
      go (yes e) = either e (of-union (get_or ws i 0) (only v) w (rw (e, at_same) at m))
      go (no f) = inl (rw (at_other j f) at m)

-- marking changes no length
pub marked-length : (n : ℕ) (ws : List ℕ) (t u v : ℕ) → length (marked n ws t u v) ≡ length ws
unfolding marked
marked-length n ws t u v = put-length ws (t * n + u) _

-- a badge put into the set of a badge at a tick is marked there
pub put-marked : (n : ℕ) (ws : List ℕ) (t u v : ℕ) → put_set ws (t * n + u) (union (set_at ws (t * n + u)) (only v)) ≡ marked n ws t u v
unfolding marked neighbours
put-marked n ws t u v = refl

-- the relation that joins b to a in tick t and nothing else
unfoldable joins : ℕ → ℕ → ℕ → ℕ → ℕ → ℕ → Bool
joins t a b t' u v = eqb t t' and eqb a u and eqb b v

joins-in : (t a b t' u v : ℕ) → t ≡ t' → a ≡ u → b ≡ v → joins t a b t' u v ≡ true
unfolding joins
joins-in t a b t' u v e f g = and_in _ _ (and_in _ _ (eq-eqb t t' e) (eq-eqb a u f)) (eq-eqb b v g)

of-joins : (t a b t' u v : ℕ) → joins t a b t' u v ≡ true → (t ≡ t') × (a ≡ u) × (b ≡ v)
unfolding joins
of-joins t a b t' u v e = (eqb-true t t' (and_left _ _ (and_left _ _ e)), eqb-true a u (and_right _ _ (and_left _ _ e)), eqb-true b v (and_right _ _ e))

-- a day's words, and others behind them, with b marked in the set of a at tick t
module _ (n T : ℕ) (r : ℕ → ℕ → ℕ → Bool) (t a b : ℕ) (h : t < T) (k : a < n) (l : b < n) where
  there : t * n + a < length (day_sets n T r)
  there = omega (arith, sets-length n T r, digits_lt h k)

  sets-marked : inserted (day_sets n T r) (t * n + a) b ≡ day_sets n T (λ t' u v. r t' u v or joins t a b t' u v)
  sets-marked = sets-by n T _ _ (length-set (day_sets n T r) (t * n + a) _ ∙ sets-length n T r)
      (λ t' u v g m i. to t' u v g m (of-insert (day_sets n T r) (t * n + a) b there (t' * n + u) v i))
      (λ t' u v g m x e. back t' u v g m x (or-of (r t' u v) _ e))
    where
      to : (t' u v : ℕ) → t' < T → u < n → In (get_or (day_sets n T r) (t' * n + u) 0) v ⊎ ((t' * n + u ≡ t * n + a) × (v ≡ b))
          → (v < n) × ((r t' u v or joins t a b t' u v) ≡ true)
      to t' u v g m (inl i) = let j : In (set_of n (r t' u)) v = rw (day-set n T r t' u g m) at i in (of-set-lt n _ v j, or_left _ _ (of-set n _ v j))
      to t' u v g m (inr e) =
          let p : t ≡ t' = sym (digits_div t k) ∙ ap (λ (x : ℕ). x / n) (sym e.0) ∙ digits_div t' m in
          let q : a ≡ u = sym (digits_mod t k) ∙ ap (λ (x : ℕ). x % n) (sym e.0) ∙ digits_mod t' m in
          (omega (arith, e.1), or_right _ _ (joins-in t a b t' u v p q (sym e.1)))

      back : (t' u v : ℕ) → t' < T → u < n → v < n → (r t' u v ≡ true) ⊎ (joins t a b t' u v ≡ true) → In (get_or (inserted (day_sets n T r) (t * n + a) b) (t' * n + u) 0) v
      back t' u v g m x (inl e) = insert-old (day_sets n T r) (t * n + a) b there (t' * n + u) v (rw (day-set n T r t' u g m) (in-set n _ v x e))
      back t' u v g m x (inr e) =
          let j = of-joins t a b t' u v e in
          rw (← j.0, ← j.1, ← j.2) (insert-new (day_sets n T r) (t * n + a) b there)

  day-marked : (rest : List ℕ) → marked n (day_words n T r ++ rest) t a b ≡ day_words n T (λ t' u v. r t' u v or joins t a b t' u v) ++ rest
  unfolding marked neighbours day_words
  day-marked rest =
      ap (λ (s : ℕ). put_set (words_of (day_sets n T r) ++ rest) (t * n + a) (union s (only b))) (set-at-words (day_sets n T r) rest (t * n + a) there)
      ∙ put-words (day_sets n T r) rest (t * n + a) _ there
      ∙ ap (λ (ss : List ℕ). words_of ss ++ rest) sets-marked

-- with a pair marked both ways at tick t
pair-marked : (n T : ℕ) (r : ℕ → ℕ → ℕ → Bool) (rest : List ℕ) (t a b : ℕ) → t < T → a < n → b < n
    → marked n (marked n (day_words n T r ++ rest) t a b) t b a ≡ day_words n T (λ t' u v. r t' u v or joins t a b t' u v or joins t b a t' u v) ++ rest
pair-marked n T r rest t a b h k l =
    ap (λ (x : List ℕ). marked n x t b a) (day-marked n T r t a b h k l rest) ∙ day-marked n T (λ t' u v. r t' u v or joins t a b t' u v) t b a h l k rest

-- a relation with what a record covers in the ticks before t; for a contact, when it holds
unfoldable pub marked_before : (ℕ → ℕ → ℕ → Bool) → Record → ℕ → ℕ → ℕ → ℕ → Bool
marked_before day r t t' u v = day t' u v or (covers r t' u v and ltb t' t)

module _ (day : ℕ → ℕ → ℕ → Bool) (a b first last t t' u v : ℕ) where
  before-day : day t' u v ≡ true → marked_before day (Contact a b first last) t t' u v ≡ true
  unfolding marked_before
  before-day e = or_left _ _ e

  before-covers : Covers a b first last t' u v → t' < t → marked_before day (Contact a b first last) t t' u v ≡ true
  unfolding marked_before
  before-covers x l = or_right _ _ (and_in _ _ (covers-in x) (lt-ltb t' t l))

  before_of : marked_before day (Contact a b first last) t t' u v ≡ true → (day t' u v ≡ true) ⊎ (Covers a b first last t' u v × (t' < t))
  unfolding marked_before
  before_of e = go (or-of _ _ e)
    where
      go : (day t' u v ≡ true) ⊎ ((covers (Contact a b first last) t' u v and ltb t' t) ≡ true) → (day t' u v ≡ true) ⊎ (Covers a b first last t' u v × (t' < t))
      go (inl f) = inl f
      go (inr f) = inr (covers_of (and_left _ _ f), ltb-true _ _ (and_right _ _ f))

-- a contact covers before tick t + 1 what it covers before t, and its pair at t
module _ (day : ℕ → ℕ → ℕ → Bool) (a b first last t : ℕ) (lo : first ≤ t) (hi : t ≤ last) (t' u v : ℕ) where
  abbrev Before : ℕ → Type 0
  Before s = marked_before day (Contact a b first last) s t' u v ≡ true

  abbrev Now : Type 0
  Now = (marked_before day (Contact a b first last) t t' u v or joins t a b t' u v or joins t b a t' u v) ≡ true

  before_more : (marked_before day (Contact a b first last) t t' u v or joins t a b t' u v or joins t b a t' u v) ≡ marked_before day (Contact a b first last) (suc t) t' u v
  before_more = same_test _ _ (λ e. to (or-of _ _ e)) (λ e. back (before_of day a b first last (suc t) t' u v e))
    where
      old : (day t' u v ≡ true) ⊎ (Covers a b first last t' u v × (t' < t)) → Before (suc t)
      old (inl e) = before-day day a b first last (suc t) t' u v e
      old (inr e) = before-covers day a b first last (suc t) t' u v e.0 (omega (arith, e.1))

      new : ((a ≡ u) × (b ≡ v)) ⊎ ((a ≡ v) × (b ≡ u)) → t ≡ t' → Before (suc t)
      new p e = before-covers day a b first last (suc t) t' u v (record { pair = p; low = omega arith; high = omega arith }) (omega arith)

      one : Before t ⊎ (joins t a b t' u v ≡ true) → Before (suc t)
      one (inl e) = old (before_of day a b first last t t' u v e)
      one (inr e) = let j = of-joins t a b t' u v e in new (inl (j.1, j.2)) j.0

      to : ((marked_before day (Contact a b first last) t t' u v or joins t a b t' u v) ≡ true) ⊎ (joins t b a t' u v ≡ true) → Before (suc t)
      to (inl e) = one (or-of _ _ e)
      to (inr e) = let j = of-joins t b a t' u v e in new (inr (j.2, j.1)) j.0

      pair : t ≡ t' → ((a ≡ u) × (b ≡ v)) ⊎ ((a ≡ v) × (b ≡ u)) → Now
      pair e (inl p) = or_left _ _ (or_right _ _ (joins-in t a b t' u v e p.0 p.1))
      pair e (inr p) = or_right _ _ (joins-in t b a t' u v e p.1 p.0)

      until : Covers a b first last t' u v → (suc t' ≡ suc t) ⊎ (suc t' < suc t) → Now
      until x (inl e) = pair (omega arith) x.pair
      until x (inr e) = or_left _ _ (or_left _ _ (before-covers day a b first last t t' u v x (omega arith)))

      back : (day t' u v ≡ true) ⊎ (Covers a b first last t' u v × (t' < suc t)) → Now
      back (inl e) = or_left _ _ (or_left _ _ (before-day day a b first last t t' u v e))
      back (inr e) = until e.0 (eq-or-lt_of_le e.1)

-- The loop of mark_contact: the words after the ticks of a contact below t have been marked, from the words before the loop.
pub record Marking (n a b first last : ℕ) (before : List ℕ) (t : ℕ) (ws : List ℕ) : Type 0 where
  pub low : first ≤ t
  pub high : t ≤ last + 1
  pub long : length ws ≡ length before
  pub marks : (T : ℕ) (day : ℕ → ℕ → ℕ → Bool) (rest : List ℕ) → valid_contact n T (Contact a b first last) ≡ true
      → before ≡ day_words n T day ++ rest → ws ≡ day_words n T (marked_before day (Contact a b first last) t) ++ rest

module _ (n a b first last : ℕ) (before : List ℕ) where
  -- no tick is marked yet
  pub marking-none : Fitting n (length before) (Contact a b first last) → Marking n a b first last before first before
  marking-none fit = record {
    low = le_refl _;
    high = omega (arith, valid-of n fit.T a b first last fit.admissible);
    long = refl;
    marks = λ T day rest g e. e ∙ ap (λ (x : List ℕ). x ++ rest) (day-same n T _ _ (λ t u v h k l. same_test _ _
        (before-day day a b first last first t u v)
        (λ f. go day t u v (before_of day a b first last first t u v f))));
  }
    where
      go : (day : ℕ → ℕ → ℕ → Bool) (t u v : ℕ) → (day t u v ≡ true) ⊎ (Covers a b first last t u v × (t < first)) → day t u v ≡ true
      go day t u v (inl e) = e
      go day t u v (inr x) = absurd (omega (arith, x.0.low, x.1))

  -- the pair is marked at one tick more
  pub marking-more : (t : ℕ) (ws next : List ℕ) → t < last + 1 → Marking n a b first last before t ws
      → next ≡ marked n (marked n ws t a b) t b a → Marking n a b first last before (t + 1) next
  marking-more t ws next h m e = record {
    low = omega (arith, m.low);
    high = omega arith;
    long = ap length e ∙ marked-length n (marked n ws t a b) t b a ∙ marked-length n ws t a b ∙ m.long;
    marks = λ T day rest g f.
        let p = valid-of n T a b first last g in
        e ∙ ap (λ (x : List ℕ). marked n (marked n x t a b) t b a) (m.marks T day rest g f)
        ∙ pair-marked n T (marked_before day (Contact a b first last) t) rest t a b (omega (arith, p)) p.low p.high
        ∙ ap (λ (x : List ℕ). x ++ rest) (day-same n T _ _ (λ t' u v i j k. before_more day a b first last t m.low (omega arith) t' u v))
        ∙ ap (λ (s : ℕ). day_words n T (marked_before day (Contact a b first last) s) ++ rest) (sym (add-one t));
  }

  -- every tick is marked
  pub marking-done : (t : ℕ) (ws : List ℕ) → last < t → Marking n a b first last before t ws → Marks n (Contact a b first last) before ws
  marking-done t ws h m T day rest g e = m.marks T day rest g e ∙ ap (λ (x : List ℕ). x ++ rest) (day-same n T _ _ (λ t' u v i j k. same_test _ _
      (λ f. go t' u v (before_of day a b first last t t' u v f))
      (λ f. back t' u v (or-of _ _ f))))
    where
      go : (t' u v : ℕ) → (day t' u v ≡ true) ⊎ (Covers a b first last t' u v × (t' < t)) → (day t' u v or covers (Contact a b first last) t' u v) ≡ true
      go t' u v (inl f) = or_left _ _ f
      go t' u v (inr x) = or_right _ _ (covers-in x.0)

      back : (t' u v : ℕ) → (day t' u v ≡ true) ⊎ (covers (Contact a b first last) t' u v ≡ true) → marked_before day (Contact a b first last) t t' u v ≡ true
      back t' u v (inl f) = before-day day a b first last t t' u v f
      back t' u v (inr f) = let x : Covers a b first last t' u v = covers_of f in before-covers day a b first last t t' u v x (omega (arith, x.high))

-- what mark_pair requires at a tick of the contact
pub pair_fits : (n words a b first last t : ℕ) → Fitting n words (Contact a b first last) → t < last + 1
    → (n ≤ max_badges) × (a < n) × (b < n) × (t * n + n ≤ words / set_words)
pair_fits n words a b first last t fit h =
    let p = valid-of n fit.T a b first last fit.admissible in
    (fit.few, p.low, p.high, omega (arith, tick-fits t fit.T n (omega (arith, p)), fit.there))

-- a record that covers nothing marks nothing
pub marks-none : (n : ℕ) (r : Record) (ws : List ℕ) → ((t u v : ℕ) → covers r t u v ≡ false) → Marks n r ws ws
marks-none n r ws none T day rest g e = e ∙ ap (λ (x : List ℕ). x ++ rest) (day-same n T _ _ (λ t u v i j k. sym (ap (λ (b : Bool). day t u v or b) (none t u v) ∙ or-false (day t u v))))

-- the contacts of some records, with what one record more covers, are the contacts of the longer list: the loop that marks record after record
pub marks-append : (n T : ℕ) (rs : List Record) (r : Record) → day_words n T (λ t u v. in_contact rs t u v or covers r t u v) ≡ day_words n T (in_contact (rs ++ r ∷ []))
unfolding in_contact
marks-append n T rs r = day-same n T _ _ (λ t u v i j k. sym (contact-append rs (r ∷ []) t u v ∙ ap (λ (b : Bool). in_contact rs t u v or b) (or-false (covers r t u v))))
