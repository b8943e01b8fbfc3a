-- `peeling::degree_in` meets its contract: the members in the row are those in its lower word and those in its upper word.
use mathlib.Core.Path.{◌≡◌, sym, ap₂, ◌∙◌}
use mathlib.Core.List.{List}
use Prim.Native.Nat.{ℕ, ◌+◌, ◌*◌, ◌^◌, ◌<◌}
use native.Mathlib.Omega.{arith}
use lib.Bits.{bit_and, and_le_r, and_zero_r}
use lib.Count.{ones, ones-le}
use lib.ListN.{length, get_or}
use Rattle.sets.specs.Members.{capacity, members, row_words}
use Rattle.sets.specs.Words.{word_bits, to_words, lower_words, set_words, places}
use Rattle.sets.proofs.Pairs.{size-common}
use Rattle.sets.proofs.Places.{set-at-in, at-two}
use Rattle.sets.proofs.Size.{size-ones, size_none}
use Rattle.cores.specs.Graphs.{degree}
use Rattle.cores.specs.Rows.{graph}
use Rattle.cores.proofs.peeling.degree_in.Goals as goal
use Rattle.cores.proofs.peeling.degree_in.Goals.{After-word-upper}

-- as many ones as a word has bits, at most
few : (a b : ℕ) → b < 2 ^ word_bits → ones (bit_and a b) < word_bits + 1
few a b l = omega (arith, ones-le word_bits (bit_and a b) (omega (arith, and_le_r a b)))

-- and none in common with an empty word
no_ones : (a : ℕ) {b : ℕ} → b ≡ 0 → ones (bit_and a b) ≡ 0
no_ones a e = rw (e, and_zero_r a) (sym (size-ones 0) ∙ size_none)

-- a degree by the words of the row and of the set
by-words : (rows : List ℕ) (s u : ℕ) {c d : ℕ} → length rows ≡ row_words → u < capacity → get_or rows (u * set_words) 0 < 2 ^ word_bits
    → c ≡ get_or (to_words lower_words s) 0 0 → d ≡ get_or (to_words lower_words s) 1 0
    → degree (graph rows) s u ≡ ones (bit_and (get_or rows (u * set_words) 0) c) + ones (bit_and (get_or rows (u * set_words + 1) 0) d)
unfolding degree
by-words rows s u long l w e f =
    let p : u < places rows = omega arith in
    rw (e, f, set-at-in rows u p, at-two rows u p) (size-common (get_or rows (u * set_words) 0) (get_or rows (u * set_words + 1) 0) s w ∙ ap₂ ◌+◌ (size-ones _) (size-ones _))

pub overflow_cast-lower : goal.overflow_cast-lower
overflow_cast-lower c = let a = c.args in omega (arith, few (get_or a.rows.now (a.u * set_words) 0) c.word.result (omega arith))

-- the degree, by the words that were read
counted : (c : goal.After-word-upper) →
    let a = c.args in
    degree (graph a.rows.now) (members a.s) a.u ≡ ones (bit_and (get_or a.rows.now (a.u * set_words) 0) c.word.result) + ones (bit_and (get_or a.rows.now (a.u * set_words + 1) 0) c.word-upper.result)
counted c =
    let a = c.args in
    by-words a.rows.now (members a.s) a.u c.requires.0 c.requires.1 (omega (arith, c.type_inv.rows (a.u * set_words))) c.word.ensures c.word-upper.ensures

pub returns-then-upper-eq0 : goal.returns-then-upper-eq0
returns-then-upper-eq0 c =
    let e = counted (goal.at.returns-then-upper-eq0 c).After-word-upper in
    let a = c.args in
    omega (arith, e, no_ones (get_or a.rows.now (a.u * set_words + 1) 0) c.if-upper-eq0.true)

pub overflow_cast-result : goal.overflow_cast-result
overflow_cast-result c =
    let a = c.args in
    omega (arith, few (get_or a.rows.now (a.u * set_words + 1) 0) c.word-upper.result (omega arith))

pub overflow_add-result-2 : goal.overflow_add-result-2
overflow_add-result-2 c =
    let a = c.args in
    omega (
      arith,
      few (get_or a.rows.now (a.u * set_words) 0) c.word.result (omega arith),
      few (get_or a.rows.now (a.u * set_words + 1) 0) c.word-upper.result (omega arith),
    )

pub returns : goal.returns
returns c = sym (counted (goal.at.returns c).After-word-upper)
