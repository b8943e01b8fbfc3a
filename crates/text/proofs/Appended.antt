-- Laws of what is appended to a line: a label with a number, and the members of a set.
use mathlib.Core.Path.{◌≡◌, refl, sym, ap, ◌∙◌}
use mathlib.Core.Bool.{Bool, true, false}
use mathlib.Core.List.{List, [], ◌++◌, append_assoc, append-nil}
use mathlib.Core.Logic.{by_cases}
use Prim.Native.Nat.{ℕ, zero, suc, ◌+◌, ◌^◌, ◌≤◌, ◌<◌}
use native.Mathlib.Nat.{le_refl}
use native.Mathlib.Decide.{ℕ_discrete, dec_lt}
use native.Mathlib.Omega.{arith}
use lib.ListN.{length, length-append}
use borrow.Author.Tests.{ne_eqb}
use Rattle.std.specs.Prelude.{Some, None}
use Rattle.std.specs.Fmt.{decimal as printed}
use Rattle.sets.specs.Ascii.{ascii}
use Rattle.sets.specs.Sets.{bit, has, In, difference, only, smallest, TakesSmallest}
use Rattle.sets.specs.Members.{capacity}
use Rattle.sets.specs.Tables.{concat_below, keep_if}
use Rattle.sets.proofs.Sets.{has-test, not-in-none, in-difference, of-difference, in-only, of-only}
use Rattle.sets.proofs.Smallest.{smallest-first, smallest-member}
use Rattle.text.specs.Decimal.{decimal}
use Rattle.text.specs.Listing.{field, member_list}
use Rattle.text.specs.Making.{member_room}
use Rattle.text.proofs.Digits.{decimal-short, decimal-printed}

-- the length of a label with a number below 10 ^ k
pub field-length : (label : List ℕ) (k n : ℕ) → n < 10 ^ suc k → length (field label n) ≤ length label + suc k
unfolding field
field-length label k n h = omega (arith, length-append label (decimal n), decimal-short k n h)

-- a label, and a number as std prints it
pub field-printed : (old label : List ℕ) (n : ℕ) → n < 2 ^ 64 → (old ++ label) ++ printed n ≡ old ++ field label n
unfolding field
field-printed old label n h = rw (decimal-printed n h) (append_assoc old label (decimal n))

-- The members of a set, by badges: what stands in the list for one.
abbrev pub member_part : ℕ → ℕ → List ℕ
member_part s u = keep_if (has s u) (field (ascii " ") u)

part-in : (s u : ℕ) → In s u → member_part s u ≡ field (ascii " ") u
unfolding keep_if
part-in s u i = rw (has-test s u i)

part-out : (s u : ℕ) → (In s u → ⊥) → member_part s u ≡ []
unfolding keep_if
part-out s u f = rw (ne_eqb (bit s u) 1 f)

part-same : (s t u : ℕ) → (In s u → In t u) → (In t u → In s u) → member_part s u ≡ member_part t u
part-same s t u h k =
    by_cases (ℕ_discrete (bit s u) 1)
    (λ i. part-in s u i ∙ sym (part-in t u (h i)))
    (λ f. part-out s u f ∙ sym (part-out t u (λ j. f (k j))))

-- none below m, and then nothing is listed
none-below : (s m : ℕ) → ((v : ℕ) → v < m → In s v → ⊥) → concat_below m (member_part s) ≡ []
unfolding concat_below
none-below s zero f = refl
none-below s (suc m) f = rw (none-below s m (λ v l. f v (omega arith)), part-out s m (f m (omega arith)))

-- the member below m that no other precedes is listed first
first-below : (s u m : ℕ) → In s u → u < m → ((v : ℕ) → v < m → In s v → u ≤ v)
    → concat_below m (member_part s) ≡ field (ascii " ") u ++ concat_below m (member_part (difference s (only u)))
unfolding concat_below
first-below s u zero i l f = absurd (omega arith)
first-below s u (suc m) i l f =
    by_cases (ℕ_discrete m u)
    (λ e. rw (
      none-below s m (λ v k j. omega (arith, f v (omega arith) j)),
      none-below (difference s (only u)) m (λ v k j. omega (arith, f v (omega arith) (of-difference s (only u) v j).0)),
      part-out (difference s (only u)) m (λ j. (of-difference s (only u) m j).1 (rw e (in-only u))),
      e,
      part-in s u i,
    )
    (sym (append-nil (field (ascii " ") u))))
    (λ d. rw (
      first-below s u m i (omega arith) (λ v k j. f v (omega arith) j),
      part-same s (difference s (only u)) m (λ j. in-difference s (only u) m j (λ o. d (of-only u m o))) (λ j. (of-difference s (only u) m j).0),
    )
    (append_assoc (field (ascii " ") u) (concat_below m (member_part (difference s (only u)))) (member_part (difference s (only u)) m)))

-- A walk over the members of a set that takes the smallest each time lists them in turn, and then none.
pub member-next : {s u rest : ℕ} → s < 2 ^ capacity → TakesSmallest capacity s (Some u) rest → member_list s ≡ field (ascii " ") u ++ member_list rest
unfolding member_list
member-next {s} {u} {rest} h t =
    let m = smallest-member capacity s h (λ e. omega arith) in
    rw (t.2, t.1) (first-below s (smallest capacity s) capacity m.0 m.1 (λ v l i. smallest-first capacity s v i l))

pub member-end : {s rest : ℕ} → TakesSmallest capacity s None rest → member_list s ≡ []
unfolding member_list
member-end {s} t = none-below s capacity (λ v l i. not-in-none v (rw t.0 at i))

-- there is room for one badge more, after a space
member-length : (b : Bool) (u : ℕ) → u < capacity → member_room u + length (keep_if b (field (ascii " ") u)) ≤ member_room (u + 1)
unfolding keep_if
member-length true u h = by_cases (dec_lt u 10)
    (λ l. omega (arith, field-length (ascii " ") 0 u (omega arith)))
    (λ l. by_cases (dec_lt u 100)
    (λ m. omega (arith, field-length (ascii " ") 1 u (omega arith)))
    (λ m. omega (arith, field-length (ascii " ") 2 u (omega arith))))
member-length false u h = omega arith

members-length : (s m : ℕ) → m ≤ capacity → length (concat_below m (member_part s)) ≤ member_room m
unfolding concat_below
members-length s zero h = omega arith
members-length s (suc m) h =
    omega (arith, members-length s m (omega arith), length-append (concat_below m (member_part s)) (member_part s m), member-length (has s m) m (omega arith))

pub member-list-length : (s : ℕ) → length (member_list s) ≤ member_room capacity
unfolding member_list
member-list-length s = members-length s capacity (le_refl capacity)

-- so there is room for all of them, while some are listed and the others are still to come
pub listed_room : (old line : List ℕ) (s left : ℕ) → line ++ member_list left ≡ old ++ member_list s → length line ≤ length old + member_room capacity
listed_room old line s left e =
    omega (arith, ap length e, length-append line (member_list left), length-append old (member_list s), member-list-length s)
