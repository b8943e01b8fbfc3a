-- Laws of sets that stand one after the other in words: the set at each place, a set put at a place, and the words of a list of sets.
use mathlib.Core.Path.{◌≡◌, refl, sym, ap, ap₂, ◌∙◌}
use mathlib.Core.List.{List, [], ◌∷◌, ◌++◌, append-nil, append_assoc}
use mathlib.Core.Logic.{by_cases}
use Prim.Native.Nat.{ℕ, zero, suc, ◌+◌, ◌-◌, ◌*◌, ◌/◌, ◌%◌, ◌^◌, ◌≤◌, ◌<◌, zero-le, suc-le-suc}
use native.Mathlib.Nat.{le_of_suc-le-suc, not-suc-le-zero}
use native.Mathlib.Decide.{ℕ_discrete, dec_lt}
use native.Mathlib.Numerals.{add-one}
use native.Mathlib.Omega.{arith}
use lib.Dec.{lit<}
use lib.ListN.{length, get_or, set, take, drop, length-append, length-drop, get_or-append, replicate, replicate-append-replicate}
use lib.Seq.{drop-cons, sets, sets-eq, length-sets, take_all, take_at, drop_at, length-take-le, get_or-take, get_or-drop, get_or-set_other, ext_get_or, get_or-append-add}
use borrow.Author.Tests.{lt-ltb, le-ltb}
use Rattle.sets.specs.Sets.{bit}
use Rattle.sets.specs.Words.{word_bits, Words, from_words, to_words, lower_words, set_words, places, words_at, set_at, put_set, words_of}
use Rattle.sets.specs.Members.{capacity}
use Rattle.sets.proofs.Sets.{some, in-lt}
use Rattle.sets.proofs.Words.{words-nil, words-bit, words-lt, length-to-words, to-words-words, from-to-words, to-from-words}

-- the set at a place that the words reach, and at another
pub set-at-in : (ws : List ℕ) (i : ℕ) → i < places ws → set_at ws i ≡ from_words (words_at ws i)
unfolding set_at
set-at-in ws i h = rw (lt-ltb i (places ws) h, set_at)

pub set-at-out : (ws : List ℕ) (i : ℕ) → places ws ≤ i → set_at ws i ≡ 0
unfolding set_at
set-at-out ws i h = rw (le-ltb i (places ws) h, set_at)

-- the words at a place are as many as a set has, and those
pub at_length : (ws : List ℕ) (i : ℕ) → i < places ws → length (words_at ws i) ≡ set_words
at_length ws i h = length-take-le set_words (drop (i * set_words) ws) (rw length-drop (omega arith))

pub at-word : (ws : List ℕ) (i j : ℕ) → j < set_words → get_or (words_at ws i) j 0 ≡ get_or ws (i * set_words + j) 0
at-word ws i j h = get_or-take set_words (drop (i * set_words) ws) j 0 h ∙ get_or-drop (i * set_words) ws j 0

-- of two words, both
pub at-two : (ws : List ℕ) (i : ℕ) → i < places ws → words_at ws i ≡ get_or ws (i * set_words) 0 ∷ get_or ws (i * set_words + 1) 0 ∷ []
at-two ws i h =
    rw (add-one (i * set_words)) (ap (take set_words) (drop-cons ws (i * set_words) 0 (omega arith) ∙ ap (λ (x : List ℕ). get_or ws (i * set_words) 0 ∷ x) (drop-cons ws (suc (i * set_words)) 0 (omega arith))))

pub set-at-two : (ws : List ℕ) (i : ℕ) → i < places ws → set_at ws i ≡ from_words (get_or ws (i * set_words) 0 ∷ get_or ws (i * set_words + 1) 0 ∷ [])
set-at-two ws i h = set-at-in ws i h ∙ ap from_words (at-two ws i h)

pub at_words : (ws : List ℕ) (i : ℕ) → i < places ws → Words ws → Words (words_at ws i)
at_words ws i h w = record {
  at = λ j l.
      let k : j < set_words = omega (arith, at_length ws i h) in
      rw (at-word ws i j k) (w.at (i * set_words + j) (omega arith));
}

-- Two lists of words that have the same words at two places have the same set there.
module _ (vs ws : List ℕ) (i j : ℕ) (h : i < places vs) (k : j < places ws) where
  pub set-at-same : ((x : ℕ) → x < set_words → get_or vs (i * set_words + x) 0 ≡ get_or ws (j * set_words + x) 0) → set_at vs i ≡ set_at ws j
  set-at-same e = set-at-in vs i h ∙ ap from_words same ∙ sym (set-at-in ws j k)
    where
      same : words_at vs i ≡ words_at ws j
      same = ext_get_or 0 (words_at vs i) (words_at ws j) (at_length vs i h ∙ sym (at_length ws j k))
          (λ x l. let m : x < set_words = omega (arith, at_length vs i h) in at-word vs i x m ∙ e x m ∙ sym (at-word ws j x m))

  -- and where they have the same set, they have the same words
  pub words-at-same : Words vs → Words ws → set_at vs i ≡ set_at ws j → (x : ℕ) → x < set_words → get_or vs (i * set_words + x) 0 ≡ get_or ws (j * set_words + x) 0
  words-at-same v w e x m =
      let f : words_at vs i ≡ words_at ws j =
      sym (to-from-words lower_words (words_at vs i) (at_length vs i h) (at_words vs i h v))
      ∙ ap (to_words lower_words) (sym (set-at-in vs i h) ∙ e ∙ set-at-in ws j k)
      ∙ to-from-words lower_words (words_at ws j) (at_length ws j k) (at_words ws j k w) in
      sym (at-word vs i x m) ∙ ap (λ (l : List ℕ). get_or l x 0) f ∙ at-word ws j x m

-- badge u of the set at a place is bit u % 64 of word u / 64 there, and no badge of a set in words is above the capacity
pub set-at-bit : (ws : List ℕ) (i u : ℕ) → Words ws → i < places ws → u < capacity → bit (set_at ws i) u ≡ bit (get_or ws (i * set_words + u / word_bits) 0) (u % word_bits)
set-at-bit ws i u w h l =
    ap (λ (s : ℕ). bit s u) (set-at-in ws i h)
    ∙ words-bit (words_at ws i) u (at_words ws i h w)
    ∙ ap (λ (x : ℕ). bit x (u % word_bits)) (at-word ws i (u / word_bits) (omega arith))

pub set-at-lt : (ws : List ℕ) (i : ℕ) → Words ws → set_at ws i < 2 ^ capacity
set-at-lt ws i w = by_cases (dec_lt i (places ws))
    (λ h. let l = words-lt (words_at ws i) (at_words ws i h w) in rw (set-at-in ws i h) (rw (at_length ws i h) at l))
    (λ h. rw (set-at-out ws i (omega arith)) (lit< tt))

-- word x of a set that has no badge from there on is 0
pub word-none-above : (ws : List ℕ) (i x : ℕ) → Words ws → i < places ws → x < set_words → set_at ws i < 2 ^ (x * word_bits) → get_or ws (i * set_words + x) 0 ≡ 0
word-none-above ws i x w h l small = by_cases (ℕ_discrete (get_or ws (i * set_words + x) 0) 0) (λ e. e) (λ f.
    let m = some (get_or ws (i * set_words + x) 0) f in
    let b : m.0 < word_bits = in-lt word_bits _ m.0 (w.at (i * set_words + x) (omega arith)) m.1 in
    let q : (x * word_bits + m.0) / word_bits ≡ x = omega arith in
    let r : (x * word_bits + m.0) % word_bits ≡ m.0 = omega arith in
    let e = set-at-bit ws i (x * word_bits + m.0) w h (omega arith) in
    omega (arith, in-lt (x * word_bits) (set_at ws i) (x * word_bits + m.0) small (rw (q, r) at e ∙ m.1)))

-- lists of words of m sets that have the same set at each place are the same
pub sets_same : (m : ℕ) (vs ws : List ℕ) → length vs ≡ m * set_words → length ws ≡ m * set_words → Words vs → Words ws
    → ((i : ℕ) → i < m → set_at vs i ≡ set_at ws i) → vs ≡ ws
sets_same m vs ws e f v w h = ext_get_or 0 vs ws (e ∙ sym f) (λ k l.
    let i = k / set_words in
    let x = k % set_words in
    let r = words-at-same vs ws i i (omega arith) (omega arith) v w (h i (omega arith)) x (omega arith) in
    let d : i * set_words + x ≡ k = omega arith in
    rw d at r)

-- words behind those of a place change nothing there, and places count on from a place
pub set-at-append : (xs ys : List ℕ) (i : ℕ) → i < places xs → set_at (xs ++ ys) i ≡ set_at xs i
set-at-append xs ys i h =
    set-at-same (xs ++ ys) xs i i (omega (arith, length-append xs ys)) h (λ x l. get_or-append xs ys 0 (i * set_words + x) (omega arith))

pub set-at-after : (xs ys : List ℕ) (m i : ℕ) → length xs ≡ m * set_words → set_at (xs ++ ys) (m + i) ≡ set_at ys i
set-at-after xs ys m i e = by_cases (dec_lt i (places ys))
    (λ h. set-at-same (xs ++ ys) ys (m + i) i (omega (arith, length-append xs ys)) h (λ x l.
    let d : (m + i) * set_words + x ≡ length xs + (i * set_words + x) = omega arith in
    rw d (get_or-append-add xs ys (i * set_words + x) 0)))
    (λ h. set-at-out (xs ++ ys) (m + i) (omega (arith, length-append xs ys)) ∙ sym (set-at-out ys i (omega arith)))

-- the first sets, and those from a place on
pub set-at-take : (m : ℕ) (ws : List ℕ) (i : ℕ) → i < m → set_at (take (m * set_words) ws) i ≡ set_at ws i
set-at-take m ws i l = by_cases (dec_lt (length ws) (m * set_words))
    (λ h. ap (λ (x : List ℕ). set_at x i) (take_all (m * set_words) ws (omega arith)))
    (λ h. set-at-same (take (m * set_words) ws) ws i i (rw (length-take-le (m * set_words) ws (omega arith)) (omega arith)) (omega arith)
    (λ x k. get_or-take (m * set_words) ws (i * set_words + x) 0 (omega arith)))

pub set-at-drop : (m : ℕ) (ws : List ℕ) (i : ℕ) → set_at (drop (m * set_words) ws) i ≡ set_at ws (m + i)
set-at-drop m ws i = by_cases (dec_lt (m + i) (places ws))
    (λ h. set-at-same (drop (m * set_words) ws) ws i (m + i) (rw length-drop (omega arith)) h (λ x l.
    let d : (m + i) * set_words + x ≡ m * set_words + (i * set_words + x) = omega arith in
    rw d (get_or-drop (m * set_words) ws (i * set_words + x) 0)))
    (λ h. set-at-out (drop (m * set_words) ws) i (rw length-drop (omega arith)) ∙ sym (set-at-out ws (m + i) (omega arith)))

-- a run of stores: what stands there, and what stands elsewhere
run-there : (vs ws : List ℕ) (i : ℕ) → i + length vs ≤ length ws → take (length vs) (drop i (sets ws i vs)) ≡ vs
run-there vs ws i h =
    ap (λ (x : List ℕ). take (length vs) (drop i x)) (sets-eq vs ws i h ∙ append_assoc (take i ws) vs _)
    ∙ ap (take (length vs)) (drop_at (take i ws) (vs ++ drop (i + length vs) ws) i (length-take-le i ws (omega arith)))
    ∙ take_at vs (drop (i + length vs) ws) (length vs) refl

run-elsewhere : (vs ws : List ℕ) (i k : ℕ) → ((j : ℕ) → j < length vs → k ≡ i + j → ⊥) → get_or (sets ws i vs) k 0 ≡ get_or ws k 0
run-elsewhere [] ws i k f = refl
run-elsewhere (v ∷ vs) ws i k f =
    run-elsewhere vs (set ws i v) (suc i) k (λ j l e. f (suc j) (omega arith) (omega arith))
    ∙ get_or-set_other ws i k v 0 (λ e. f 0 (omega arith) (omega arith))

-- putting a set at a place that the words reach, and at another
pub put_in : (ws : List ℕ) (i s : ℕ) → i < places ws → put_set ws i s ≡ sets ws (i * set_words) (to_words lower_words s)
unfolding put_set
put_in ws i s h = rw (lt-ltb i (places ws) h, put_set)

pub put-out : (ws : List ℕ) (i s : ℕ) → places ws ≤ i → put_set ws i s ≡ ws
unfolding put_set
put-out ws i s h = rw (le-ltb i (places ws) h, put_set)

-- the words stay as many
pub put-length : (ws : List ℕ) (i s : ℕ) → length (put_set ws i s) ≡ length ws
put-length ws i s = by_cases (dec_lt i (places ws))
    (λ h. rw (put_in ws i s h) (length-sets ws (i * set_words) (to_words lower_words s)))
    (λ h. rw (put-out ws i s (omega arith)))

-- the set that was put is there
pub put-there : (ws : List ℕ) (i s : ℕ) → i < places ws → set_at (put_set ws i s) i ≡ s
put-there ws i s h =
    let e = length-to-words lower_words s in
    let r = run-there (to_words lower_words s) ws (i * set_words) (rw e (omega arith)) in
    let w : words_at (put_set ws i s) i ≡ to_words lower_words s = rw (put_in ws i s h) (rw e at r) in
    set-at-in (put_set ws i s) i (rw (put-length ws i s) h) ∙ ap from_words w ∙ from-to-words lower_words s

-- every other place has the set it had
pub put_other : (ws : List ℕ) (i j s : ℕ) → (j ≡ i → ⊥) → set_at (put_set ws i s) j ≡ set_at ws j
put_other ws i j s f = by_cases (dec_lt j (places ws))
    (λ h. set-at-same (put_set ws i s) ws j j (rw (put-length ws i s) h) h (λ x l. elsewhere (j * set_words + x) (λ e. f (omega arith))))
    (λ h. set-at-out (put_set ws i s) j (rw (put-length ws i s) (omega arith)) ∙ sym (set-at-out ws j (omega arith)))
  where
    elsewhere : (k : ℕ) → (k / set_words ≡ i → ⊥) → get_or (put_set ws i s) k 0 ≡ get_or ws k 0
    elsewhere k g = by_cases (dec_lt i (places ws))
        (λ h. rw (put_in ws i s h) (run-elsewhere (to_words lower_words s) ws (i * set_words) k (λ y l e. g (omega (arith, length-to-words lower_words s)))))
        (λ h. rw (put-out ws i s (omega arith)))

-- the words of sets are so many
pub words-of-length : (ss : List ℕ) → length (words_of ss) ≡ length ss * set_words
unfolding words_of
words-of-length [] = refl
words-of-length (s ∷ ss) = length-append (to_words lower_words s) (words_of ss) ∙ omega (arith, length-to-words lower_words s, words-of-length ss)

words_more : (s : ℕ) (ss : List ℕ) → words_of (s ∷ ss) ≡ to_words lower_words s ++ words_of ss
unfolding words_of
words_more s ss = refl

-- the words of lists of sets one after the other
pub words_append : (ss ts : List ℕ) → words_of (ss ++ ts) ≡ words_of ss ++ words_of ts
unfolding words_of
words_append [] ts = refl
words_append (s ∷ ss) ts = ap (λ (x : List ℕ). to_words lower_words s ++ x) (words_append ss ts) ∙ sym (append_assoc (to_words lower_words s) (words_of ss) (words_of ts))

-- the set at each place is the one at that place of the list
pub set-at-words : (ss rest : List ℕ) (i : ℕ) → i < length ss → set_at (words_of ss ++ rest) i ≡ get_or ss i 0
unfolding words_of
set-at-words [] rest i h = absurd (not-suc-le-zero h)
set-at-words (s ∷ ss) rest zero h =
    let l : length (to_words lower_words s) ≡ set_words = length-to-words lower_words s in
    let k : 0 < places (to_words lower_words s ++ words_of ss ++ rest) = omega (arith, length-append (to_words lower_words s ++ words_of ss) rest, length-append (to_words lower_words s) (words_of ss)) in
    set-at-in _ 0 k
    ∙ ap (λ (x : List ℕ). from_words (take set_words x)) (append_assoc (to_words lower_words s) (words_of ss) rest)
    ∙ ap from_words (take_at (to_words lower_words s) (words_of ss ++ rest) set_words l)
    ∙ from-to-words lower_words s
set-at-words (s ∷ ss) rest (suc i) h =
    ap₂ set_at (append_assoc (to_words lower_words s) (words_of ss) rest) (omega arith)
    ∙ set-at-after (to_words lower_words s) (words_of ss ++ rest) 1 i (length-to-words lower_words s ∙ omega arith)
    ∙ set-at-words ss rest i (le_of_suc-le-suc h)

-- without other words behind them
pub set-at-sets : (ss : List ℕ) (i : ℕ) → i < length ss → set_at (words_of ss) i ≡ get_or ss i 0
set-at-sets ss i h = ap (λ (x : List ℕ). set_at x i) (sym (append-nil (words_of ss))) ∙ set-at-words ss [] i h

-- a run of stores behind some elements is one in what follows them
run-behind : (vs xs ys : List ℕ) (k j : ℕ) → k ≡ length xs + j → sets (xs ++ ys) k vs ≡ xs ++ sets ys j vs
run-behind [] xs ys k j e = refl
run-behind (v ∷ vs) xs ys k j e =
    ap (λ (l : List ℕ). sets l (suc k) vs) (one xs ys k j e) ∙ run-behind vs xs (set ys j v) (suc k) (suc j) (omega arith)
  where
    one : (xs ys : List ℕ) (k j : ℕ) → k ≡ length xs + j → set (xs ++ ys) k v ≡ xs ++ set ys j v
    one [] ys k j e = ap (λ (x : ℕ). set ys x v) (omega arith)
    one (x ∷ xs) ys k j e = let f : k ≡ suc (length xs + j) = omega arith in rw f (ap (λ (l : List ℕ). x ∷ l) (one xs ys (length xs + j) j refl))

-- putting a set at a place of the words of sets, with other words behind them
pub put-words : (ss rest : List ℕ) (i s : ℕ) → i < length ss → put_set (words_of ss ++ rest) i s ≡ words_of (set ss i s) ++ rest
put-words ss rest i s h = put_in _ i s (omega (arith, length-append (words_of ss) rest, words-of-length ss)) ∙ stored ss i h
  where
    first : (xs ys vs : List ℕ) → length xs ≡ length vs → sets (xs ++ ys) 0 vs ≡ vs ++ ys
    first xs ys vs e =
        sets-eq vs (xs ++ ys) 0 (omega (arith, length-append xs ys)) ∙ ap (λ (x : List ℕ). vs ++ x) (drop_at xs ys (0 + length vs) (omega arith))

    stored : (ss : List ℕ) (i : ℕ) → i < length ss → sets (words_of ss ++ rest) (i * set_words) (to_words lower_words s) ≡ words_of (set ss i s) ++ rest
    stored [] i h = absurd (not-suc-le-zero h)
    stored (t ∷ ss) zero h =
        let e : 0 * set_words ≡ 0 = omega arith in
        rw (e, words_more t ss, words_more s ss, append_assoc (to_words lower_words t) (words_of ss) rest, append_assoc (to_words lower_words s) (words_of ss) rest)
        (first (to_words lower_words t) (words_of ss ++ rest) (to_words lower_words s) (length-to-words lower_words t ∙ sym (length-to-words lower_words s)))
    stored (t ∷ ss) (suc i) h =
        rw (words_more t ss, words_more t (set ss i s), append_assoc (to_words lower_words t) (words_of ss) rest, append_assoc (to_words lower_words t) (words_of (set ss i s)) rest)
        (run-behind (to_words lower_words s) (to_words lower_words t) (words_of ss ++ rest) (suc i * set_words) (i * set_words) (omega (arith, length-to-words lower_words t))
        ∙ ap (λ (x : List ℕ). to_words lower_words t ++ x) (stored ss i (le_of_suc-le-suc h)))

-- without other words behind them
pub put-sets : (ss : List ℕ) (i s : ℕ) → i < length ss → put_set (words_of ss) i s ≡ words_of (set ss i s)
put-sets ss i s h = ap (λ (x : List ℕ). put_set x i s) (sym (append-nil (words_of ss))) ∙ put-words ss [] i s h ∙ append-nil (words_of (set ss i s))

-- the words of empty sets are 0
words-none : (k : ℕ) → to_words k 0 ≡ replicate (suc k) 0
unfolding to_words
words-none zero = refl
words-none (suc k) = ap (λ (x : List ℕ). 0 ∷ x) (words-none k)

pub words-zero : (m : ℕ) → words_of (replicate m 0) ≡ replicate (m * set_words) 0
unfolding words_of
words-zero zero = refl
words-zero (suc m) =
    let e : suc m * set_words ≡ set_words + m * set_words = omega arith in
    rw e (ap₂ ◌++◌ (words-none lower_words) (words-zero m) ∙ replicate-append-replicate set_words (m * set_words) 0)

-- the words of sets that have badges below the capacity alone are words
pub words-fit : (ss : List ℕ) → ((i : ℕ) → i < length ss → get_or ss i 0 < 2 ^ capacity) → Words (words_of ss)
unfolding words_of
words-fit [] h = words-nil
words-fit (s ∷ ss) h = both (to-words-words lower_words s (h 0 (suc-le-suc zero-le))) (words-fit ss (λ i l. h (suc i) (suc-le-suc l)))
  where
    both : {xs ys : List ℕ} → Words xs → Words ys → Words (xs ++ ys)
    both {xs} {ys} v w = record {
      at = λ i l. by_cases (dec_lt i (length xs))
          (λ k. rw (get_or-append xs ys 0 i k) (v.at i k))
          (λ k.
          let e : i ≡ length xs + (i - length xs) = omega arith in
          let g : get_or (xs ++ ys) i 0 ≡ get_or ys (i - length xs) 0 = ap (λ (x : ℕ). get_or (xs ++ ys) x 0) e ∙ get_or-append-add xs ys (i - length xs) 0 in
          rw g (w.at (i - length xs) (omega (arith, length-append xs ys))));
    }
