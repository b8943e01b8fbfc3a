-- No line of a listing has more than 434 bytes.
use mathlib.Core.List.{◌++◌}
use Prim.Native.Nat.{ℕ, ◌≤◌, ◌<◌}
use native.Mathlib.Omega.{arith}
use lib.ListN.{length, length-append}
use Rattle.sets.specs.Ascii.{ascii}
use Rattle.spans.specs.SpanCores.{SpanCore}
use Rattle.text.specs.Listing.{newline, field, head_line, member_list, group_line, refusal_line}
use Rattle.text.specs.Making.{longest_line}
use Rattle.text.proofs.Appended.{field-length, member-list-length}

pub refusal-short : (number offset : ℕ) → number < 10 → offset < 1000000 → length (refusal_line number offset) ≤ longest_line
unfolding refusal_line
refusal-short number offset h k =
    let a = field (ascii "refused ") number in
    let b = field (ascii " at ") offset in
    omega (arith, length-append a (b ++ newline), length-append b newline, field-length (ascii "refused ") 0 number (omega arith), field-length (ascii " at ") 5 offset (omega arith))

pub head-short : (n T groups : ℕ) → n < 1000 → T < 100 → groups < 10000 → length (head_line n T groups) ≤ longest_line
unfolding head_line
head-short n T groups h k l =
    let a = field (ascii "badges ") n in
    let b = field (ascii " ticks ") T in
    let c = field (ascii " groups ") groups in
    omega (arith, length-append a (b ++ (c ++ newline)), length-append b (c ++ newline), length-append c newline, field-length (ascii "badges ") 2 n (omega arith), field-length (ascii " ticks ") 1 T (omega arith), field-length (ascii " groups ") 3 groups (omega arith))

pub group-short : (c : SpanCore) → c.order < 1000 → c.first < 100 → c.last < 100 → length (group_line c) ≤ longest_line
unfolding group_line
group-short c h k l =
    let x = field (ascii "order ") c.order in
    let y = field (ascii " ticks ") c.first in
    let z = field (ascii " to ") c.last in
    let w = ascii " badges" in
    let m = member_list c.members in
    omega (arith, length-append x (y ++ (z ++ (w ++ (m ++ newline)))), length-append y (z ++ (w ++ (m ++ newline))), length-append z (w ++ (m ++ newline)), length-append w (m ++ newline), length-append m newline, field-length (ascii "order ") 2 c.order (omega arith), field-length (ascii " ticks ") 1 c.first (omega arith), field-length (ascii " to ") 1 c.last (omega arith), member-list-length c.members)
