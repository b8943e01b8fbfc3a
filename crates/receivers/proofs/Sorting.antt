-- Laws of sorting parts badge by badge: an exchange word by word, a part inserted exchange by exchange, and the part that is copied.
use mathlib.Core.Logic.{◌≢◌}
use mathlib.Core.Path.{◌≡◌, refl, sym, ap, ap₂, ◌∙◌, subst}
use mathlib.Core.Bool.{Bool, true, false}
use mathlib.Core.List.{List}
use Prim.Native.Nat.{ℕ, zero, suc, ◌+◌, ◌*◌, ◌/◌, ◌≤◌, ◌<◌, ◌^◌}
use native.Mathlib.Nat.{not-suc-le-zero}
use native.Mathlib.Numerals.{add-one}
use native.Mathlib.Decide.{ℕ_discrete}
use native.Mathlib.Omega.{arith}
use lib.Arith.{digits_div}
use lib.Dec.{leb}
use mir.Syntax.{w64}
use mir.Val.{Fits}
use lib.ListN.{length, get_or, set, drop, length-set, length-drop}
use lib.Seq.{get_or-set_same, get_or-set_other, get_or-drop, ext_get_or}
use borrow.Author.Tests.{leb-true, leb-false, le-leb, lt-leb}
use Rattle.sets.specs.Bools.{◌and◌, ◌or◌}
use Rattle.sets.specs.Sets.{has, digit, union, intersection}
use Rattle.sets.proofs.Sets.{has-union, has-intersection}
use Rattle.days.proofs.Days.{tick-fits}
use Rattle.receivers.specs.Counting.{word, count_at, Exchanged, Sorted, Copied, Combined}

-- a count reaches q + 1 after one more exactly if it did before, or reached q before and there is one more
step : (q n : ℕ) (b : Bool) → (leb (suc q) n or (leb q n and b)) ≡ leb (suc q) (n + digit b)
unfolding ◌or◌ ◌and◌
step q n b = go (leb (suc q) n) refl (leb q n) refl b
  where
    go : (x : Bool) → leb (suc q) n ≡ x → (y : Bool) → leb q n ≡ y → (b : Bool) → (x or (y and b)) ≡ leb (suc q) (n + digit b)
    go true e y f b = sym (le-leb (suc q) (n + digit b) (omega (arith, leb-true (suc q) n e)))
    go false e true f true = sym (le-leb (suc q) (n + 1) (omega (arith, leb-true q n f)))
    go false e true f false = sym (lt-leb (suc q) (n + 0) (omega (arith, leb-false (suc q) n e)))
    go false e false f true = sym (lt-leb (suc q) (n + 1) (omega (arith, leb-false q n f)))
    go false e false f false = sym (lt-leb (suc q) (n + 0) (omega (arith, leb-false (suc q) n e)))

-- what reaches q + 1 reaches q
reached : (q n : ℕ) (b : Bool) → (leb (suc q) n and (leb q n and b)) ≡ (leb (suc q) n and b)
unfolding ◌and◌
reached q n b = go (leb (suc q) n) refl
  where
    go : (x : Bool) → leb (suc q) n ≡ x → (x and (leb q n and b)) ≡ (x and b)
    go true e = rw (le-leb q n (omega (arith, leb-true (suc q) n e)))
    go false e = refl

-- a count of m sets is m at most
digit-most : (b : Bool) → digit b ≤ 1
digit-most true = omega arith
digit-most false = omega arith

count_most : (m size : ℕ) (ws : List ℕ) (i v : ℕ) → count_at m size ws i v ≤ m
unfolding count_at
count_most zero size ws i v = omega arith
count_most (suc m) size ws i v = omega (arith, count_most m size ws i v, digit-most (has (word size ws m i) v))

-- what holds below c and at c holds below c + 1
below_more : {P : ℕ → Type 0} (c : ℕ) → ((i : ℕ) → i < c → P i) → P c → (i : ℕ) → i < c + 1 → P i
below_more {P} c f x i h = go (ℕ_discrete i c)
  where
    go : Dec (i ≡ c) → P i
    go (yes e) = subst P (sym e) x
    go (no g) = f i (omega arith)

-- words are exchanged: one more of each part
module _ (first second : ℕ) (lent : List ℕ) where
  pub exchanged-more : {work : List ℕ} (c : ℕ) {x y : ℕ} → first + c < second → second + c < length work → Exchanged first second c lent work
      → x ≡ union (get_or work (first + c) 0) (get_or work (second + c) 0) → y ≡ intersection (get_or work (first + c) 0) (get_or work (second + c) 0)
      → Exchanged first second (c + 1) lent (set (set work (first + c) x) (second + c) y)
  exchanged-more {work} c {x} {y} h l e a b = record {
    either = below_more c (λ i s. elsewhere (first + i) (omega arith) (omega arith) ∙ e.either i s)
        (get_or-set_other one (second + c) (first + c) y 0 (omega arith) ∙ get_or-set_same work (first + c) x 0 (omega arith) ∙ a ∙ as_lent union);
    both = below_more c (λ i s. elsewhere (second + i) (omega arith) (omega arith) ∙ e.both i s)
        (get_or-set_same one (second + c) y 0 (rw (length-set work (first + c) x) l) ∙ b ∙ as_lent intersection);
    others = λ n f. elsewhere n (f c (omega arith)).0 (f c (omega arith)).1 ∙ e.others n (λ i s. f i (omega arith));
  }
    where
      one : List ℕ
      one = set work (first + c) x

      elsewhere : (n : ℕ) → n ≢ first + c → n ≢ second + c → get_or (set one (second + c) y) n 0 ≡ get_or work n 0
      elsewhere n f g = get_or-set_other one (second + c) n y 0 g ∙ get_or-set_other work (first + c) n x 0 f

      -- the words that are exchanged were as they were lent
      as_lent : (f : ℕ → ℕ → ℕ) → f (get_or work (first + c) 0) (get_or work (second + c) 0) ≡ f (get_or lent (first + c) 0) (get_or lent (second + c) 0)
      as_lent f = ap₂ f (e.others (first + c) (omega arith)) (e.others (second + c) (omega arith))

-- After part k is exchanged with the j parts before it: these have the badges that reach their number in one part more, the other parts before it have
-- those that reached it, and part k has those of its own that reach j in the parts before it.
pub record Inserting (k j size : ℕ) (lent work : List ℕ) : Type 0 where
  pub passed : (p : ℕ) → p < j → (i v : ℕ) → i < size → has (word size work p i) v ≡ leb (suc p) (count_at (suc k) size lent i v)
  pub ahead : (p : ℕ) → j ≤ p → p < k → (i v : ℕ) → i < size → has (word size work p i) v ≡ leb (suc p) (count_at k size lent i v)
  pub carried : (i v : ℕ) → i < size → has (word size work k i) v ≡ (leb j (count_at k size lent i v) and has (word size lent k i) v)
  pub keeps : (n : ℕ) → k * size + size ≤ n → get_or work n 0 ≡ get_or lent n 0

-- a word is in one part alone
same-part : (p q : ℕ) {i c size : ℕ} → i < size → c < size → p * size + i ≡ q * size + c → p ≡ q
same-part p q {i} {c} {size} h k e = sym (digits_div p h) ∙ ap (λ (x : ℕ). x / size) e ∙ digits_div q k

module _ (k size : ℕ) {lent work : List ℕ} where
  pub inserting-none : Sorted k size lent work → Inserting k 0 size lent work
  unfolding ◌and◌
  inserting-none s = record {
    passed = λ p h. absurd (not-suc-le-zero h);
    ahead = λ p _. s.ranks p;
    carried = λ i v h.
        ap (λ (x : ℕ). has x v) (s.keeps (k * size + i) (omega arith))
        ∙ ap (λ (b : Bool). b and has (word size lent k i) v) (sym (le-leb 0 (count_at k size lent i v) (omega arith)));
    keeps = λ n h. s.keeps n (omega arith);
  }

  pub inserting-more : {j : ℕ} {next : List ℕ} → j < k → Exchanged (j * size) (k * size) size work next → Inserting k j size lent work → Inserting k (j + 1) size lent next
  unfolding count_at
  inserting-more {j} {next} h x t = record {
    passed = below_more j (λ p b i v l. other p i v (omega arith) (omega arith) l ∙ t.passed p b i v l)
        (λ i v l.
        ap (λ (w : ℕ). has w v) (x.either i l) ∙ has-union (word size work j i) (word size work k i) v
        ∙ ap₂ ◌or◌ (t.ahead j (omega arith) h i v l) (t.carried i v l) ∙ step j (count_at k size lent i v) (has (word size lent k i) v));
    ahead = λ p a b i v l. other p i v (omega arith) (omega arith) l ∙ t.ahead p (omega arith) b i v l;
    carried = λ i v l.
        ap (λ (w : ℕ). has w v) (x.both i l) ∙ has-intersection (word size work j i) (word size work k i) v
        ∙ ap₂ ◌and◌ (t.ahead j (omega arith) h i v l) (t.carried i v l) ∙ reached j (count_at k size lent i v) (has (word size lent k i) v) ∙ rw (add-one j);
    keeps = λ n b. x.others n (omega (arith, tick-fits j k size h)) ∙ t.keeps n b;
  }
    where
      other : (p i v : ℕ) → p ≢ j → p ≢ k → i < size → has (word size next p i) v ≡ has (word size work p i) v
      other p i v f g l = ap (λ (w : ℕ). has w v) (x.others (p * size + i) (λ c b. (λ e. f (same-part p j l b e), λ e. g (same-part p k l b e))))

  pub inserting-done : Inserting k k size lent work → Sorted (k + 1) size lent work
  unfolding count_at ◌or◌
  inserting-done t = record {
    ranks = λ j h.
        rw (add-one k)
        (below_more k t.passed (λ i v l. t.carried i v l ∙ last (count_at k size lent i v) (count_most k size lent i v) (has (word size lent k i) v)) j h);
    keeps = λ n h. t.keeps n (omega arith);
  }
    where
      last : (n : ℕ) → n ≤ k → (b : Bool) → (leb k n and b) ≡ leb (suc k) (n + digit b)
      last n h b = rw (lt-leb (suc k) n (omega arith)) at (step k n b)

-- words are copied: none, and one more
module _ (from : ℕ) (work lent : List ℕ) where
  pub copied_none : Copied from 0 work lent lent
  copied_none = record { same = λ i h. absurd (not-suc-le-zero h); keeps = λ n h. refl }

  pub copied_more : {words : List ℕ} (c : ℕ) → c < length words → Copied from c work lent words → Copied from (c + 1) work lent (set words c (get_or work (from + c) 0))
  copied_more {words} c h t = record {
    same = below_more c (λ i l. get_or-set_other words c i _ 0 (omega arith) ∙ t.same i l) (get_or-set_same words c _ 0 h);
    keeps = λ n l. get_or-set_other words c n _ 0 (omega arith) ∙ t.keeps n (omega arith);
  }

-- lists of one length that agree from a place on
drop-same : (n : ℕ) (xs ys : List ℕ) → length xs ≡ length ys → ((i : ℕ) → n ≤ i → get_or xs i 0 ≡ get_or ys i 0) → drop n xs ≡ drop n ys
drop-same n xs ys e f =
    ext_get_or 0 (drop n xs) (drop n ys) (simp length-drop (rw e)) (λ i h. get_or-drop n xs i 0 ∙ f (n + i) (omega arith) ∙ sym (get_or-drop n ys i 0))

-- the part of a quorum's number, copied from the sorted parts, has the badges that reach the quorum
pub combined : {q m size : ℕ} {work sorted lent words : List ℕ} (j : ℕ) → Sorted m size work sorted → Copied (j * size) size sorted lent words → suc j ≡ q → q ≤ m
    → length sorted ≡ length work → length words ≡ length lent → Combined q m size work lent words × (drop (m * size) sorted ≡ drop (m * size) work)
combined {q} {m} {size} {work} {sorted} {lent} {words} j s t e k a b = (
  record {
    marks = λ i v l. ap (λ (x : ℕ). has x v) (t.same i l) ∙ s.ranks j (omega arith) i v l ∙ ap (λ (x : ℕ). leb x (count_at m size work i v)) e;
    keeps = drop-same size words lent b t.keeps;
  },
  drop-same (m * size) sorted work a s.keeps,
)

-- a number of words up to that of words lent fits its type
pub fits_below : (k lent : ℕ) → k ≤ lent → lent < 2 ^ 64 → Fits w64 k
fits_below k lent h l = record { fits = omega arith }
