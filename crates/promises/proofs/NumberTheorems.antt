-- Theorems of core numbers: they are those of source 000, and the call's promise, as it stands in specs/CoreNumbers, holds.
use mathlib.Core.Path.{◌≡◌, refl, sym, ap, ◌∙◌}
use mathlib.Core.Bool.{Bool, true, false}
use mathlib.Core.List.{List, ◌++◌}
use mathlib.Core.Logic.{◌↔◌}
use Prim.Native.Nat.{ℕ, ◌≤◌, ◌<◌}
use native.Mathlib.Omega.{arith}
use lib.ListN.{length, get_or, drop}
use lib.Seq.{ext_get_or}
use Rattle.sets.specs.Sets.{In, has}
use Rattle.sets.proofs.Sets.{in-test, out-test, of-full}
use Rattle.sets.proofs.Tables.{tabulate-length, tabulate-at}
use Rattle.records.specs.Outcomes.{Outcome, refused, success}
use Rattle.logs.specs.Buffers.{deliver}
use Rattle.logs.proofs.Delivering.{deliver-passed, deliver-short, deliver-fits}
use Rattle.cores.specs.Orders.{core_number}
use Rattle.cores.proofs.Cores.{core-sub}
use Rattle.cores.proofs.Orders.{member-pos, number_of, number-by-sets, le-by-orders}
use Rattle.spans.specs.Spans.{SpanOfDay, span_neighbours}
use Rattle.spans.specs.Contacts.{OfOrder}
use Rattle.spans.specs.Reviews.{Review}
use Rattle.spans.specs.Judging.{core_number_bytes}
use Rattle.spans.proofs.OrderSets.{order-cohesive, cohesive-order}
use Rattle.spans.proofs.Judging.{review-passed, judged-yes}
use Rattle.groups.specs.Calls.{core_numbers_of}
use Rattle.promises.specs.CoreNumbers.{AreCoreNumbers, GivesCoreNumbers}

module _ {n T : ℕ} {ws : List ℕ} {base first last : ℕ} (d : SpanOfDay n T ws first last) (r : Review n base) where
  abbrev rows : ℕ → ℕ
  rows = span_neighbours n ws first last

  -- For k from 1: the core number of a badge on a span is at least k exactly when some set of order k of reviewed badges has the badge.
  pub number-of-order : (u k : ℕ) → 1 ≤ k → (k ≤ core_number rows base u) ↔ ((s : ℕ) × OfOrder n ws base k first last s × In s u)
  number-of-order u k l =
      let e = number-by-sets rows base k u l in (
        λ h. let x = e.0 h in (x.0, cohesive-order d base r.named x.1 (member-pos x.0 u x.2) x.3, x.2),
        λ x. e.1 (x.0, x.1.within, x.2, order-cohesive d base r.named x.1),
      )

  -- a badge that is not reviewed has core number 0
  number-others : (u : ℕ) → (In base u → ⊥) → core_number rows base u ≡ 0
  number-others u f = omega (arith, le-by-orders (core_number rows base u) 0 (λ k l h. absurd (f ((core-sub rows base k).at u (number_of rows base k u l h)))))

  -- The bytes of the call are the core numbers,
  pub bytes-are : AreCoreNumbers n ws base first last (core_number_bytes n ws base first last)
  unfolding core_number_bytes
  bytes-are = record {
    badges = tabulate-length n _;
    number = λ u k i h. rw (tabulate-at n (core_number rows base) u (of-full n u (r.named.at u i))) (number-of-order u k h);
    others = λ u l f. tabulate-at n (core_number rows base) u l ∙ number-others u f;
  }

-- and a span has no other ones.
pub numbers-unique : {n : ℕ} {ws : List ℕ} {base first last : ℕ} (xs ys : List ℕ) → AreCoreNumbers n ws base first last xs → AreCoreNumbers n ws base first last ys → xs ≡ ys
numbers-unique {n} {ws} {base} xs ys x y = ext_get_or 0 xs ys (x.badges ∙ sym y.badges) (λ u l. same u (omega (arith, x.badges)) (has base u) refl)
  where
    same : (u : ℕ) → u < n → (b : Bool) → has base u ≡ b → get_or xs u 0 ≡ get_or ys u 0
    same u l false e = let f = out-test base u e in x.others u l f ∙ sym (y.others u l f)
    same u l true e =
        let i = in-test base u e in
        let f = le-by-orders (get_or xs u 0) (get_or ys u 0) (λ k h m. (y.number u k i h).1 ((x.number u k i h).0 m)) in
        let g = le-by-orders (get_or ys u 0) (get_or xs u 0) (λ k h m. (x.number u k i h).1 ((y.number u k i h).0 m)) in
        omega arith

-- a day's span and a review of the day pass every judgement before 9
module _ {n T : ℕ} {ws : List ℕ} {base first last : ℕ} (d : SpanOfDay n T ws first last) (r : Review n base) (buffer : List ℕ) where
  passes : core_numbers_of n T ws base first last buffer ≡ deliver (success (core_number_bytes n ws base first last)) buffer
  unfolding core_numbers_of
  passes = deliver-passed _ _ buffer tt (review-passed n T ws base d.lent r)
      ∙ ap (λ (o : Outcome (List ℕ)). deliver o buffer) (judged-yes n T ws base first last d.rising d.inside)

  succeeds : (numbers : List ℕ) → AreCoreNumbers n ws base first last numbers → n ≤ length buffer
      → core_numbers_of n T ws base first last buffer ≡ record { answer = success n; buffer = numbers ++ drop n buffer }
  succeeds numbers a h =
      let e : core_number_bytes n ws base first last ≡ numbers = numbers-unique _ _ (bytes-are d r) a in
      let f : length numbers ≡ n = a.badges in
      passes ∙ rw e (rw f at (deliver-fits numbers buffer (rw f h)))

  measures : length buffer < n → core_numbers_of n T ws base first last buffer ≡ record { answer = refused 9 0; buffer = buffer }
  measures h = passes ∙ deliver-short _ buffer (rw (bytes-are d r).badges h)

-- The call keeps its promise.
pub gives-core-numbers : GivesCoreNumbers core_numbers_of
gives-core-numbers = record {
  exist = λ n T ws base first last d r. (core_number_bytes n ws base first last, bytes-are d r);
  succeeds = λ n T ws base first last buffer numbers d r. succeeds d r buffer numbers;
  measures = λ n T ws base first last buffer d r. measures d r buffer;
}
