-- Laws of rows of the badges of a word that are added in lanes: one taken, eight or two at a time, and those of all badges.
use mathlib.Core.Path.{◌≡◌, refl, ap, ◌∙◌}
use mathlib.Core.List.{List}
use Prim.Native.Nat.{ℕ, ◌+◌, ◌-◌, ◌*◌, ◌^◌, ◌≤◌, ◌<◌}
use native.Mathlib.Nat.{le_refl, le_of_lt}
use native.Mathlib.Omega.{arith}
use lib.Bits.{bit_and}
use lib.Count.{count_trailing_zeros}
use lib.ListN.{length}
use Rattle.sets.specs.Sets.{bit, In, difference, only, full}
use Rattle.sets.specs.Words.{word_bits}
use Rattle.sets.proofs.Sets.{in-full, of-full, full-suc}
use Rattle.sets.proofs.Bits.{bit-none}
use Rattle.sets.proofs.Size.{size-without}
use Rattle.sets.proofs.Smallest.{smallest-trailing, smallest-member, without-smallest}
use Rattle.planes.specs.Lanes.{lane, half, Plus}
use Rattle.planes.proofs.Lanes.{plus-sum}
use Rattle.innermost.specs.Columns.{in_degree}
use Rattle.innermost.specs.Counting.{TakesRow, AddsSome, AddsTo}
use Rattle.innermost.proofs.Columns.{in-degree-split, in-degree-less, in-degree-none, in-degree-full-none, in-degree-full-eight}

-- the smallest member's row is taken, or none where there is no member
pub takes_none : (rows : ℕ → ℕ) {s : ℕ} → s ≡ 0 → TakesRow rows s 0 0
takes_none rows e = rw e (record { falls = λ p. absurd (omega arith); never_rises = le_refl _; each = λ v. omega (arith, bit-none v) })

pub takes_one : (rows : ℕ → ℕ) (s u : ℕ) {rest : ℕ} → In s u → rest ≡ difference s (only u) → TakesRow rows s (rows u) rest
takes_one rows s u i e = rw e (record { falls = λ p. size-without s u i; never_rises = le_of_lt (size-without s u i); each = λ v. in-degree-less rows s u v i })

-- the first badge of a word is the smallest, by its trailing zeros; its row is taken
pub first-badge : (word : ℕ) → word < 2 ^ word_bits → (word ≡ 0 → ⊥) → In word (count_trailing_zeros word_bits word) × (count_trailing_zeros word_bits word < word_bits)
first-badge word w f = rw (smallest-trailing word_bits word) at (smallest-member word_bits word w f)

pub takes_first : (rows : ℕ → ℕ) (word : ℕ) {row : ℕ} → word < 2 ^ word_bits → (word ≡ 0 → ⊥) → row ≡ rows (count_trailing_zeros word_bits word)
    → TakesRow rows word row (bit_and word (word - 1))
takes_first rows word w f e =
    let r : bit_and word (word - 1) ≡ difference word (only (count_trailing_zeros word_bits word)) = rw (smallest-trailing word_bits word) at (without-smallest word_bits word w f) in
    rw e (takes_one rows word (count_trailing_zeros word_bits word) (first-badge word w f).0 r)

-- eight rows are taken and added
pub adds-eight : {rows : ℕ → ℕ} {s a b c d e f g h s1 s2 s3 s4 s5 s6 s7 s8 : ℕ} {ps qs : List ℕ}
    → TakesRow rows s a s1 → TakesRow rows s1 b s2 → TakesRow rows s2 c s3 → TakesRow rows s3 d s4
    → TakesRow rows s4 e s5 → TakesRow rows s5 f s6 → TakesRow rows s6 g s7 → TakesRow rows s7 h s8 → 2 ^ length ps ≡ 2 * half
    → Plus (λ (v : ℕ). bit a v + bit b v + bit c v + bit d v + bit e v + bit f v + bit g v + bit h v) ps qs → AddsSome rows s s8 ps qs
adds-eight {rows} {s} {s8 = s8} {ps} {qs} t1 t2 t3 t4 t5 t6 t7 t8 room p = record {
  falls = λ q. omega (arith, t1.falls q, t2.never_rises, t3.never_rises, t4.never_rises, t5.never_rises, t6.never_rises, t7.never_rises, t8.never_rises);
  each = λ v l.
      let x1 = t1.each v in
      let x2 = t2.each v in
      let x3 = t3.each v in
      let x4 = t4.each v in
      let x5 = t5.each v in
      let x6 = t6.each v in
      let x7 = t7.each v in
      let x8 = t8.each v in
      let sum = plus-sum p v (omega arith) in
      omega arith;
}

-- two rows are taken and added
pub adds-two : {rows : ℕ → ℕ} {s a b s1 s2 : ℕ} {ps qs : List ℕ} → TakesRow rows s a s1 → TakesRow rows s1 b s2 → 2 ^ length ps ≡ 2 * half
    → Plus (λ (v : ℕ). bit a v + bit b v) ps qs → AddsSome rows s s2 ps qs
adds-two t1 t2 room p = record {
  falls = λ q. omega (arith, t1.falls q, t2.never_rises);
  each = λ v l.
      let x1 = t1.each v in
      let x2 = t2.each v in
      let sum = plus-sum p v (omega arith) in
      omega arith;
}

-- The rows of the first m badges of a word are added.
pub record Prefix (rows : ℕ → ℕ) (m : ℕ) (ps qs : List ℕ) : Type 0 where
  pub each : (v : ℕ) → lane ps v + in_degree rows (full word_bits) v < 2 * half → lane qs v ≡ lane ps v + in_degree rows (full m) v

pub prefix-start : (rows : ℕ → ℕ) (ps : List ℕ) → Prefix rows 0 ps ps
prefix-start rows ps = record { each = λ v l. omega (arith, in-degree-full-none rows v) }

pub prefix-more : {rows : ℕ → ℕ} {m : ℕ} {ps qs rs : List ℕ} {a b c d e f g h : ℕ} → Prefix rows m ps qs → m + 8 ≤ word_bits → 2 ^ length qs ≡ 2 * half
    → a ≡ rows m → b ≡ rows (m + 1) → c ≡ rows (m + 2) → d ≡ rows (m + 3) → e ≡ rows (m + 4) → f ≡ rows (m + 5) → g ≡ rows (m + 6) → h ≡ rows (m + 7)
    → Plus (λ (v : ℕ). bit a v + bit b v + bit c v + bit d v + bit e v + bit f v + bit g v + bit h v) qs rs
    → Prefix rows (m + 8) ps rs
prefix-more {rows} {m} {qs = qs} {rs} i w room ea eb ec ed ee ef eg eh q = record {
  each = λ v l.
      let p : Plus (λ (v : ℕ). bit (rows m) v + bit (rows (m + 1)) v + bit (rows (m + 2)) v + bit (rows (m + 3)) v + bit (rows (m + 4)) v + bit (rows (m + 5)) v + bit (rows (m + 6)) v + bit (rows (m + 7)) v) qs rs =
      rw (ea, eb, ec, ed, ee, ef, eg, eh) at q in
      let was = i.each v l in
      let more = in-degree-full-eight rows m v in
      let most = in-degree-split rows (full word_bits) (full (m + 8)) v (record { at = λ u j. in-full word_bits u (omega (arith, of-full (m + 8) u j)) }) in
      let sum = plus-sum p v (omega arith) in
      omega arith;
}

pub prefix-end : {rows : ℕ → ℕ} {m : ℕ} {ps qs : List ℕ} → Prefix rows m ps qs → m ≡ word_bits → 2 ^ length ps ≡ 2 * half → AddsTo (in_degree rows (full word_bits)) ps qs
prefix-end {rows} h e f = record { sum = λ v l. omega (arith, h.each v (omega arith), ap (λ (x : ℕ). in_degree rows (full x) v) e) }

-- a word that has all its badges
pub every-badge : {word : ℕ} → word ≡ 18446744073709551615 → full word_bits ≡ word
every-badge e = omega (arith, full-suc word_bits)

-- Rows of members of s are added, but for those unseen.
pub record Adding (rows : ℕ → ℕ) (s unseen : ℕ) (ps qs : List ℕ) : Type 0 where
  pub each : (v : ℕ) → lane ps v + in_degree rows s v < 2 * half → lane qs v + in_degree rows unseen v ≡ lane ps v + in_degree rows s v

pub adding-start : (rows : ℕ → ℕ) (s : ℕ) (ps : List ℕ) → Adding rows s s ps ps
adding-start rows s ps = record { each = λ v l. refl }

pub adding-more : {rows : ℕ → ℕ} {s unseen rest : ℕ} {ps qs rs : List ℕ} → Adding rows s unseen ps qs → AddsSome rows unseen rest qs rs → Adding rows s rest ps rs
adding-more h a = record { each = λ v l. let was = h.each v l in a.each v (omega arith) ∙ was }

pub adding-end : {rows : ℕ → ℕ} {s unseen : ℕ} {ps qs : List ℕ} → Adding rows s unseen ps qs → unseen ≡ 0 → 2 ^ length ps ≡ 2 * half → AddsTo (in_degree rows s) ps qs
adding-end {rows} h e f = record { sum = λ v l. omega (arith, h.each v (omega arith), ap (λ (x : ℕ). in_degree rows x v) e, in-degree-none rows v) }
