-- Going through a series log by log: where each log lies, what judging knows at each of them, and what filling has filled.
use mathlib.Core.Path.{◌≡◌, refl, sym, ap, ap₂, ◌∙◌, subst}
use mathlib.Core.List.{List, [], ◌∷◌, ◌++◌, append_assoc, append-nil, Memᴰ}
use Prim.Native.Nat.{ℕ, ◌+◌, ◌-◌, ◌*◌, ◌≤◌, ◌<◌, min}
use native.Mathlib.Decide.{dec_le}
use native.Mathlib.Nat.{add-mul, zero-mul, suc-mul, one-mul, mul-le-mul_right}
use native.Mathlib.Numerals.{add-one}
use native.Mathlib.Omega.{arith}
use lib.ListN.{length, get_or, take, drop, length-append, length-drop, drop_of_length-le}
use lib.Seq.{drop-cons, drop-drop, drop_at, take_at, take_all, take-add, length-take-le, append_snoc}
use Rattle.records.specs.declared.record.Record.{Record}
use Rattle.records.specs.Limits.{words_for}
use Rattle.records.specs.Outcomes.{Outcome, refused, success, and_then}
use Rattle.records.specs.Judging.{start, judge_from, judge}
use Rattle.records.specs.Meaning.{badges_of, ticks_of, in_contact}
use Rattle.records.proofs.Outcomes.{success-same, then-success}
use Rattle.records.proofs.Shifting.{judged-at}
use Rattle.days.specs.declared.sizes.Sizes.{Sizes}
use Rattle.days.specs.declared.sizes.Sizes.TheVariants as z
use Rattle.days.specs.Days.{day_of}
use Rattle.days.specs.Filling.{Accepts}
use Rattle.series.specs.Series.{parts, judge_logs, AllSized}
use Rattle.days.specs.Series.{days_of}
use Rattle.days.specs.SeriesSteps.{compared, common_of, sizes_in, sizes_of, Fillable, Filled}
use Rattle.days.proofs.Days.{day-length, tick-fits}
use Rattle.days.proofs.ReadCall.{Valued}
use Rattle.series.proofs.SeriesJudged.{Fronted, fronted}
use Rattle.days.proofs.SeriesSizes.{known_next, common-in}

-- as many elements as are there
module _ (l : ℕ) (xs : List ℕ) where
  take_min : take (min l (length xs)) xs ≡ take l xs
  take_min = go (dec_le l (length xs))
    where
      go : Dec (l ≤ length xs) → take (min l (length xs)) xs ≡ take l xs
      go (yes h) = let e : min l (length xs) ≡ l = omega arith in ap (λ (k : ℕ). take k xs) e
      go (no h) = let e : min l (length xs) ≡ length xs = omega (arith, h) in ap (λ (k : ℕ). take k xs) e ∙ take_all (length xs) xs (omega arith) ∙ sym (take_all l xs (omega (arith, h)))

  drop_min : drop (min l (length xs)) xs ≡ drop l xs
  drop_min = go (dec_le l (length xs))
    where
      go : Dec (l ≤ length xs) → drop (min l (length xs)) xs ≡ drop l xs
      go (yes h) = let e : min l (length xs) ≡ l = omega arith in ap (λ (k : ℕ). drop k xs) e
      go (no h) = let e : min l (length xs) ≡ length xs = omega (arith, h) in ap (λ (k : ℕ). drop k xs) e ∙ drop_of_length-le xs {i = length xs} (omega arith) ∙ sym (drop_of_length-le xs {i = l} (omega (arith, h)))

-- The log of a series that lies from an offset to an end.
pub record Lies (logs lengths : List ℕ) (at i end : ℕ) : Type 0 where
  pub inside : at ≤ length logs
  pub there : i < length lengths
  pub ends : end ≡ at + min (get_or lengths i 0) (length logs - at)

module _ {logs lengths : List ℕ} {at i end : ℕ} (p : Lies logs lengths at i end) where
  pub end-inside : end ≤ length logs
  end-inside = omega (arith, p.inside, p.ends)

  pub end-after : at ≤ end
  end-after = omega (arith, p.ends)

  -- its bytes, as they are cut out of the buffer in two ways
  pub lies-part : drop at (take end logs) ≡ take (end - at) (drop at logs)
  lies-part =
      let e : end ≡ at + (end - at) = omega (arith, end-after) in
      ap (λ (k : ℕ). drop at (take k logs)) e
      ∙ ap (drop at) (take-add at (end - at) logs)
      ∙ drop_at (take at logs) _ at (length-take-le at logs p.inside)

  lies-length : length (take (end - at) (drop at logs)) ≡ end - at
  lies-length = length-take-le (end - at) (drop at logs) (omega (arith, length-drop at logs, end-inside))

  end-of-log : at + length (take (end - at) (drop at logs)) ≡ end
  end-of-log = omega (arith, lies-length, end-after)

  -- it comes before the logs from its end on
  lies-first : parts (drop at logs) (drop i lengths) ≡ take (end - at) (drop at logs) ∷ parts (drop end logs) (drop (i + 1) lengths)
  unfolding parts
  lies-first =
      let l = get_or lengths i 0 in
      let m : end - at ≡ min l (length (drop at logs)) = omega (arith, p.ends, length-drop at logs) in
      let e : at + (end - at) ≡ end = omega (arith, end-after) in
      ap (parts (drop at logs)) (drop-cons lengths i 0 p.there)
      ∙ ap₂ (λ (x y : List ℕ). take l (drop at logs) ∷ parts x y)
      (sym (drop_min l (drop at logs)) ∙ ap (λ (k : ℕ). drop k (drop at logs)) (sym m) ∙ drop-drop (end - at) at logs ∙ ap (λ (k : ℕ). drop k logs) e)
      (ap (λ (k : ℕ). drop k lengths) (sym (add-one i)))
      ∙ ap (λ (x : List ℕ). x ∷ parts (drop end logs) (drop (i + 1) lengths)) (sym (take_min l (drop at logs)) ∙ ap (λ (k : ℕ). take k (drop at logs)) (sym m))

  -- judging from it on is judging it, and then the others
  judge-here : judge_logs at (parts (drop at logs) (drop i lengths))
      ≡ and_then (judge_from (start at) (take (end - at) (drop at logs))) (λ rs. and_then (judge_logs end (parts (drop end logs) (drop (i + 1) lengths))) (λ rest. success (rs ∷ rest)))
  unfolding judge_logs
  judge-here =
      ap (judge_logs at) lies-first
      ∙ ap (λ (k : ℕ). and_then (judge_from (start at) (take (end - at) (drop at logs))) (λ rs. and_then (judge_logs k (parts (drop end logs) (drop (i + 1) lengths))) (λ rest. success (rs ∷ rest))))
      end-of-log

  fronted-here : (left : List (List Record)) → judge_logs at (parts (drop at logs) (drop i lengths)) ≡ success left → Fronted at (take (end - at) (drop at logs)) (parts (drop end logs) (drop (i + 1) lengths)) left
  fronted-here left e = fronted at _ _ left (sym (ap (judge_logs at) lies-first) ∙ e)

-- after the last log there is none
parts-end : (logs lengths : List ℕ) (at i : ℕ) → length lengths ≤ i → parts (drop at logs) (drop i lengths) ≡ []
unfolding parts
parts-end logs lengths at i h = ap (parts (drop at logs)) (drop_of_length-le lengths h)

-- a log in front of the others, and a log behind those that are judged
one-in-front : (all : List (List Record)) (rs : List Record) (o : Outcome (List (List Record)))
    → and_then (and_then o (λ rest. success (rs ∷ rest))) (λ rest. success (all ++ rest)) ≡ and_then o (λ rest. success ((all ++ rs ∷ []) ++ rest))
unfolding and_then
one-in-front all rs (refused number offset) = refl
one-in-front all rs (success rest) = ap success (sym (append_snoc all rs rest))

none-in-front : (o : Outcome (List (List Record))) → o ≡ and_then o (λ rest. success ([] ++ rest))
unfolding and_then
none-in-front (refused number offset) = refl
none-in-front (success rest) = refl

-- So many logs are judged, all accepted, up to an offset; the records of the others are to come behind theirs.
pub record Judging (logs lengths : List ℕ) (sizes : Sizes) (at i : ℕ) : Type 0 where
  pub all : List (List Record)
  pub counted : length all ≡ i
  pub inside : i ≤ length lengths
  pub place : at ≤ length logs
  pub judged : judge_logs 0 (parts logs lengths) ≡ and_then (judge_logs at (parts (drop at logs) (drop i lengths))) (λ rest. success (all ++ rest))
  pub known : sizes ≡ sizes_in all

pub judging-none : (logs lengths : List ℕ) → Judging logs lengths z.None 0 0
unfolding sizes_in
judging-none logs lengths = record { all = []; counted = refl; inside = omega arith; place = omega arith; judged = none-in-front _; known = refl }

module _ {logs lengths : List ℕ} {sizes : Sizes} {at i : ℕ} (j : Judging logs lengths sizes at i) where
  module _ {end : ℕ} (p : Lies logs lengths at i end) where
    -- the next log's refusal is that of the logs
    pub judging-refused : (number offset : ℕ) → judge_from (start at) (take (end - at) (drop at logs)) ≡ refused number offset → judge_logs 0 (parts logs lengths) ≡ refused number offset
    unfolding and_then
    judging-refused number offset e = j.judged ∙ rw (judge-here p, e)

    -- its records come behind those of the logs before
    pub judging-next : {n T : ℕ} → Valued (judge_from (start at) (take (end - at) (drop at logs))) n T → Judging logs lengths (compared sizes (record { badges = n; ticks = T })) end (i + 1)
    judging-next v = record {
      all = j.all ++ v.records ∷ [];
      counted = length-append j.all (v.records ∷ []) ∙ omega (arith, j.counted);
      inside = omega (arith, p.there);
      place = end-inside p;
      judged = j.judged ∙ ap (λ (o : Outcome (List (List Record))). and_then o (λ rest. success (j.all ++ rest))) (judge-here p ∙ then-success _ v.records _ v.accepted) ∙ one-in-front j.all v.records _;
      known = rw (j.known, ← v.badges, ← v.ticks) (known_next j.all v.records _ refl);
    }

  -- after the last log all are accepted
  pub judging-done : length lengths ≤ i → judge_logs 0 (parts logs lengths) ≡ success j.all
  unfolding judge_logs and_then
  judging-done h = j.judged ∙ rw (parts-end logs lengths at i h) (ap success (append-nil j.all))

-- what the logs come to: a refusal, or what their sizes do
pub sizes-refused : (o : Outcome (List (List Record))) (number offset : ℕ) → o ≡ refused number offset → sizes_of o ≡ refused number offset
unfolding sizes_of and_then
sizes-refused o number offset e = rw e

pub sizes-accepted : (o : Outcome (List (List Record))) (all : List (List Record)) → o ≡ success all → sizes_of o ≡ common_of (sizes_in all)
unfolding sizes_of and_then
sizes-accepted o all e = rw e (sym (common-in all))

-- the words of a log's day, and of the days of logs of one size
pub day-words : (n T : ℕ) (rs : List Record) → badges_of rs ≡ n → ticks_of rs ≡ T → length (day_of rs) ≡ words_for n T
unfolding day_of
day-words n T rs e f = day-length (badges_of rs) (ticks_of rs) (in_contact rs) ∙ ap₂ words_for e f

pub days-length : (n T : ℕ) (all : List (List Record)) → AllSized n T all → length (days_of all) ≡ length all * words_for n T
unfolding days_of
days-length n T [] h = sym (zero-mul (words_for n T))
days-length n T (rs ∷ all) h =
    let s = h rs (Memᴰ.head refl) in
    length-append (day_of rs) (days_of all) ∙ omega (arith, day-words n T rs s.badges s.ticks, days-length n T all (λ x i. h x (Memᴰ.tail i)), suc-mul (length all) (words_for n T))

days-next : (all : List (List Record)) (rs : List Record) → days_of (all ++ rs ∷ []) ≡ days_of all ++ day_of rs
unfolding days_of
days-next [] rs = append-nil (day_of rs)
days-next (x ∷ all) rs = ap (λ (w : List ℕ). day_of x ++ w) (days-next all rs) ∙ sym (append_assoc (day_of x) (days_of all) (day_of rs))

-- words from a place on, lent to a call and put back
pub put_back : (a : ℕ) (words part : List ℕ) → take a words ++ (part ++ drop (length words - a) (drop a words)) ≡ take a words ++ part
put_back a words part =
    ap (λ (w : List ℕ). take a words ++ w) (ap (λ (w : List ℕ). part ++ w) (drop_of_length-le (drop a words) {i = length words - a} (omega (arith, length-drop a words))) ∙ append-nil part)

-- The days of the logs before a place are filled, and the others' records are to come.
pub record Filling (logs lengths : List ℕ) (n T : ℕ) (lent words : List ℕ) (at from i : ℕ) : Type 0 where
  pub before : List (List Record)
  pub left : List (List Record)
  pub inside : i ≤ length lengths
  pub place : at ≤ length logs
  pub accepted : judge_logs 0 (parts logs lengths) ≡ success (before ++ left)
  pub judged : judge_logs at (parts (drop at logs) (drop i lengths)) ≡ success left
  pub sized : AllSized n T left
  pub room : length lengths * words_for n T ≤ length lent
  pub offset : from ≡ i * words_for n T
  pub filled : words ≡ days_of before ++ drop from lent
  pub days : length (days_of before) ≡ from

pub filling-none : {logs lengths : List ℕ} {n T : ℕ} {lent : List ℕ} → Fillable logs lengths n T (length lent) → Filling logs lengths n T lent lent 0 0 0
unfolding days_of
filling-none {logs} {lengths} {n} {T} {lent} a = record {
  before = [];
  left = a.all;
  inside = omega arith;
  place = omega arith;
  accepted = a.accepted;
  judged = a.accepted;
  sized = a.sized;
  room = a.room;
  offset = sym (zero-mul (words_for n T));
  filled = refl;
  days = refl;
}

module _ {logs lengths : List ℕ} {n T : ℕ} {lent words : List ℕ} {at from i : ℕ} (f : Filling logs lengths n T lent words at from i) where
  pub filling-long : length words ≡ length lent
  filling-long =
      ap length f.filled ∙ length-append (days_of f.before) (drop from lent)
      ∙ omega (arith, f.days, length-drop from lent, f.offset, mul-le-mul_right (words_for n T) f.inside, f.room)

  -- the words of the next log are there
  pub words-fit : i < length lengths → from + words_for n T ≤ length words
  words-fit h = omega (arith, tick-fits i (length lengths) (words_for n T) h, f.room, filling-long, f.offset)

  module _ {end : ℕ} (p : Lies logs lengths at i end) where
    next : Fronted at (take (end - at) (drop at logs)) (parts (drop end logs) (drop (i + 1) lengths)) f.left
    next = fronted-here p f.left f.judged

    here : Memᴰ next.first f.left
    here = subst (Memᴰ next.first) next.same (Memᴰ.head refl)

    -- it is accepted, and of this size
    pub next-accepts : Accepts (take (end - at) (drop at logs)) n T
    next-accepts = record { records = next.first; accepted = judged-at at _ next.first next.accepted; badges = (f.sized _ here).badges; ticks = (f.sized _ here).ticks }

    -- once it is filled into the words from there on, its day is there, too
    pub filling-next : (after : List ℕ)
        → ((rs : List Record) → judge (take (end - at) (drop at logs)) ≡ success rs → after ≡ day_of rs ++ drop (words_for n T) (drop from words))
        → Filling logs lengths n T lent (take from words ++ after) end (from + words_for n T) (i + 1)
    unfolding next next-accepts
    filling-next after e =
        let rs = next.first in
        let rest : drop from words ≡ drop from lent = ap (drop from) f.filled ∙ drop_at (days_of f.before) _ from f.days in
        let front : take from words ≡ days_of f.before = ap (take from) f.filled ∙ take_at (days_of f.before) _ from f.days in
        let day : after ≡ day_of rs ++ drop (from + words_for n T) lent =
        e rs next-accepts.accepted ∙ ap (λ (w : List ℕ). day_of rs ++ w) (ap (drop (words_for n T)) rest ∙ drop-drop (words_for n T) from lent) in
        let whole : take from words ++ after ≡ days_of (f.before ++ rs ∷ []) ++ drop (from + words_for n T) lent =
        ap₂ (λ (x y : List ℕ). x ++ y) front day ∙ sym (append_assoc (days_of f.before) (day_of rs) _) ∙ ap (λ (x : List ℕ). x ++ drop (from + words_for n T) lent) (sym (days-next f.before rs)) in
        record {
          before = f.before ++ rs ∷ [];
          left = next.rest;
          inside = omega (arith, p.there);
          place = end-inside p;
          accepted = f.accepted ∙ ap success (ap (λ (x : List (List Record)). f.before ++ x) (sym next.same) ∙ sym (append_snoc f.before rs next.rest));
          judged = ap (λ (k : ℕ). judge_logs k (parts (drop end logs) (drop (i + 1) lengths))) (sym (end-of-log p)) ∙ next.others;
          sized = λ x m. f.sized x (subst (Memᴰ x) next.same (Memᴰ.tail m));
          room = f.room;
          offset = omega (arith, f.offset, add-mul i 1 (words_for n T), one-mul (words_for n T));
          filled = whole;
          days = ap length (days-next f.before rs) ∙ length-append (days_of f.before) (day_of rs) ∙ ap₂ ◌+◌ f.days (day-words n T rs (f.sized rs here).badges (f.sized rs here).ticks);
        }

  -- after the last log all days are filled
  pub filling-done : length lengths ≤ i → Filled logs lengths n T lent words
  unfolding judge_logs
  filling-done h = record { days = λ all e. f.filled ∙ ap₂ (λ (x : List (List Record)) (k : ℕ). days_of x ++ drop k lent) (same all e) last }
    where
      none : [] ≡ f.left
      none = success-same (sym (ap (judge_logs at) (parts-end logs lengths at i h)) ∙ f.judged)

      same : (all : List (List Record)) → judge_logs 0 (parts logs lengths) ≡ success all → f.before ≡ all
      same all e = sym (append-nil f.before) ∙ ap (λ (x : List (List Record)). f.before ++ x) none ∙ success-same (sym f.accepted ∙ e)

      count : i ≡ length lengths
      count = omega (arith, f.inside)

      last : from ≡ length lengths * words_for n T
      last = f.offset ∙ ap (λ (k : ℕ). k * words_for n T) count
