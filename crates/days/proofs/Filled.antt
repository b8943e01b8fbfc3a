-- Filling the words from an accepted log, record by record: the loop's invariant and its laws.
use Rattle.std.proofs.Common.{Result, Ok}
use mathlib.Core.Path.{◌≡◌, refl, sym, ap, ◌∙◌, subst}
use mathlib.Core.Bool.{true}
use mathlib.Core.List.Memᴰ
use mathlib.Core.List.{List, [], ◌∷◌, ◌++◌, append_assoc, append-nil}
use mathlib.Core.Logic.{◌⊎◌, inl, inr}
use Prim.Native.Nat.{ℕ, ◌+◌, ◌≤◌, ◌<◌}
use native.Mathlib.Omega.{arith}
use lib.ListN.{length, drop, replicate, length-drop, length-append, length-replicate}
use lib.Seq.{drop-drop, drop_at}
use Rattle.sets.specs.Bytes.{Bytes}
use Rattle.records.specs.declared.record.Record.{Record}
use Rattle.records.specs.declared.record.Undecoded.{Undecoded}
use Rattle.records.specs.declared.record.Record.TheVariants.{End}
use Rattle.records.specs.Limits.{max_contacts, within_limits, words_for}
use Rattle.records.specs.Records.{size_of, kind_of, decode, encode, encode_all}
use Rattle.records.specs.Outcomes.{success}
use Rattle.records.specs.Judging.{valid_contact, judge}
use Rattle.records.specs.Meaning.{badges_of, ticks_of, in_contact}
use Rattle.records.specs.Logs.{Mem, log_records}
use Rattle.records.proofs.Outcomes.{success-same}
use Rattle.records.proofs.Records.{size-pos, length-encode, Encodable, decode-encode}
use Rattle.records.proofs.Judged.{by-contact}
use Rattle.records.proofs.Accepting.{accepted-of}
use Rattle.records.proofs.WithinLimits.{limits_of}
use Rattle.days.specs.Days.{day_words, day_of}
use Rattle.days.specs.Filling.{Accepts, Admissible, Fitting, Marks}
use Rattle.days.proofs.Days.{day-none}
use Rattle.days.proofs.Marking.{marks-append}

-- a record of an accepted log: a contact is valid for the log's n and T, and an end's count fits its bytes
pub record Proper (n T : ℕ) (r : Record) : Type 0 where
  pub admissible : Admissible n T r
  pub encodable : Encodable r

proper-contact : (n T : ℕ) (c : Record) → valid_contact n T c ≡ true → Proper n T c
proper-contact n T = by-contact n T (Proper n T) (λ a b first last e. record { admissible = e; encodable = tt })

proper-log : (n T : ℕ) (cts : List Record) → length cts ≤ max_contacts → ((c : Record) → Mem c cts → valid_contact n T c ≡ true) → (r : Record) → Mem r (log_records n T cts) → Proper n T r
unfolding log_records
proper-log n T cts few valid r (Memᴰ.head e) = subst (Proper n T) (sym e) (record { admissible = tt; encodable = tt })
proper-log n T cts few valid r (Memᴰ.tail m) = go (Memᴰ.append_cases cts m)
  where
    end : Mem r (End (length cts) ∷ []) → Proper n T r
    end i = subst (Proper n T) (sym (Memᴰ.eq_of_singleton i)) (record { admissible = tt; encodable = omega arith })

    go : Mem r cts ⊎ Mem r (End (length cts) ∷ []) → Proper n T r
    go (inl i) = proper-contact n T r (valid r i)
    go (inr i) = end i

-- The words hold the records before a place of the log, the bytes from there on are the others.
pub record Filling (log : List ℕ) (n T at : ℕ) (rest words : List ℕ) : Type 0 where
  pub before : List Record
  pub left : List Record
  pub accepted : judge log ≡ success (before ++ left)
  pub bytes : drop at log ≡ encode_all left
  pub inside : at ≤ length log
  pub proper : (r : Record) → Mem r left → Proper n T r
  pub filled : words ≡ day_words n T (in_contact before) ++ rest

-- at the start no record is marked
pub filling-none : (log : List ℕ) (n T : ℕ) (rest : List ℕ) → Bytes log → Accepts log n T → Filling log n T 0 rest (replicate (words_for n T) 0 ++ rest)
unfolding judge in_contact
filling-none log n T rest b a = go a.records a.accepted a.badges a.ticks
  where
    go : (rs : List Record) → judge log ≡ success rs → badges_of rs ≡ n → ticks_of rs ≡ T → Filling log n T 0 rest (replicate (words_for n T) 0 ++ rest)
    go rs e f g =
        let w = accepted-of 0 log rs e in
        record {
          before = [];
          left = rs;
          accepted = e;
          bytes = w.bytes b;
          inside = omega arith;
          proper = λ r m. rw (← f, ← g) (proper-log (badges_of rs) (ticks_of rs) w.cts w.few w.valid r (subst (Mem r) w.records m));
          filled = ap (λ (x : List ℕ). x ++ rest) (sym (day-none n T));
        }

-- so the cleared words are filled this far, and what follows them is as it was
pub cleared-rest : (m : ℕ) (rest words : List ℕ) → words ≡ replicate m 0 ++ rest → drop m words ≡ rest
cleared-rest m rest words e = ap (drop m) e ∙ drop_at (replicate m 0) rest m (length-replicate m 0)

pub filling-start : (log : List ℕ) (n T : ℕ) (rest words : List ℕ) → Bytes log → Accepts log n T → words ≡ replicate (words_for n T) 0 ++ rest → Filling log n T 0 (drop (words_for n T) words) words
filling-start log n T rest words b a e =
    rw (cleared-rest (words_for n T) rest words e) (subst (Filling log n T 0 rest) (sym e) (filling-none log n T rest b a))

-- Where bytes are left, they begin with a whole record of the log; once it is marked, the words hold it too.
pub record Found (log : List ℕ) (n T at : ℕ) (rest words : List ℕ) : Type 0 where
  pub r : Record
  pub whole : decode (drop at log) ≡ Ok r
  pub admissible : Admissible n T r
  pub fits : at + size_of (kind_of r) ≤ length log
  pub next : (after : List ℕ) → Marks n r words after → Filling log n T (at + size_of (kind_of r)) rest after

pub found : (log : List ℕ) (n T at : ℕ) (rest words : List ℕ) → Filling log n T at rest words → at < length log → Found log n T at rest words
unfolding encode_all
found log n T at rest words f h = go f.left f.accepted f.bytes f.proper
  where
    go : (left : List Record) → judge log ≡ success (f.before ++ left) → drop at log ≡ encode_all left → ((r : Record) → Mem r left → Proper n T r) → Found log n T at rest words
    go [] e b p = absurd (omega (arith, length-drop at log, ap length b))
    go (r ∷ left) e b p =
        let q = p r (Memᴰ.head refl) in
        let l : at + size_of (kind_of r) ≤ length log = omega (arith, length-drop at log, ap length b, length-append (encode r) (encode_all left), length-encode r) in
        record {
          r = r;
          whole = ap decode b ∙ decode-encode r (encode_all left) q.encodable;
          admissible = q.admissible;
          fits = l;
          next = λ after m. record {
            before = f.before ++ r ∷ [];
            left = left;
            accepted = e ∙ ap success (sym (append_assoc f.before (r ∷ []) left));
            bytes = sym (drop-drop (size_of (kind_of r)) at log) ∙ ap (drop (size_of (kind_of r))) b ∙ drop_at (encode r) (encode_all left) (size_of (kind_of r)) (length-encode r);
            inside = l;
            proper = λ x i. p x (Memᴰ.tail i);
            filled = m T (in_contact f.before) rest q.admissible f.filled ∙ ap (λ (x : List ℕ). x ++ rest) (marks-append n T f.before r);
          };
        }

-- At the end of the log the words are its day.
pub filling-done : (log : List ℕ) (n T at : ℕ) (rest words : List ℕ) → Accepts log n T → Filling log n T at rest words → length log ≤ at
    → (rs : List Record) → judge log ≡ success rs → words ≡ day_of rs ++ rest
unfolding encode_all day_of
filling-done log n T at rest words a f h rs e = go f.left f.accepted f.bytes
  where
    same : (xs : List Record) → xs ≡ rs → day_words n T (in_contact xs) ≡ day_words (badges_of rs) (ticks_of rs) (in_contact rs)
    same xs g =
        let k : a.records ≡ rs = success-same (sym a.accepted ∙ e) in
        let p : n ≡ badges_of rs = sym a.badges ∙ ap badges_of k in
        let q : T ≡ ticks_of rs = sym a.ticks ∙ ap ticks_of k in
        rw (g, p, q)

    go : (left : List Record) → judge log ≡ success (f.before ++ left) → drop at log ≡ encode_all left → words ≡ day_words (badges_of rs) (ticks_of rs) (in_contact rs) ++ rest
    go [] g b = f.filled ∙ ap (λ (x : List ℕ). x ++ rest) (same f.before (sym (append-nil f.before) ∙ success-same (sym g ∙ e)))
    go (r ∷ left) g b = absurd (omega (arith, length-drop at log, ap length b, length-append (encode r) (encode_all left), length-encode r, size-pos (kind_of r)))

-- what was decoded as a whole record is that record
pub whole_part : {x y : Record} → ◌≡◌ {A = Result Record Undecoded} (Ok x) (Ok y) → x ≡ y
whole_part e = cc

-- an accepted log's n and T are within their limits, and its records fit where its words are there
pub accepts-limits : {log : List ℕ} {n T : ℕ} → Accepts log n T → within_limits n T ≡ true
unfolding judge
accepts-limits {log} a = rw (← a.badges, ← a.ticks) (accepted-of 0 log a.records a.accepted).limits

pub fitting : {log : List ℕ} {n T words : ℕ} {r : Record} → Accepts log n T → words_for n T ≤ words → Admissible n T r → Fitting n words r
fitting {log} {n} {T} a h i = record { few = (limits_of (accepts-limits a)).few; T = T; there = h; admissible = i }
