-- Laws of the form of reports and plans by n: its marks have two letters, and its sets hold n badges.
use mathlib.Core.Path.{◌≡◌, refl}
use mathlib.Core.Logic.{by_cases}
use Prim.Native.Nat.{ℕ, zero, suc, ◌+◌, ◌*◌, ◌^◌, ◌≤◌, ◌<◌}
use native.Mathlib.Nat.{pow-suc, lt_of_lt_of_le}
use native.Mathlib.Decide.{dec_le}
use native.Mathlib.Omega.{arith}
use lib.ListN.{length}
use lib.Pow.{pow-add, pow_mono}
use borrow.Author.Tests.{le-leb, lt-leb}
use Rattle.sets.specs.Words.{word_bits}
use Rattle.spans.specs.Encoding.{narrow_form, wide_form, form_of}

-- the narrow form for n up to 64, and the wide one above
pub form-narrow : (n : ℕ) → n ≤ word_bits → form_of n ≡ narrow_form
unfolding form_of
form-narrow n h = rw (form_of, le-leb n word_bits h)

pub form-wide : (n : ℕ) → word_bits < n → form_of n ≡ wide_form
unfolding form_of
form-wide n h = rw (form_of, lt-leb n word_bits h)

-- what holds of either
pub record Marked (n : ℕ) : Type 0 where
  pub report : length (form_of n).report ≡ 2
  pub group : length (form_of n).group ≡ 2
  pub plan : length (form_of n).plan ≡ 2
  pub part : length (form_of n).part ≡ 2
  pub least : 8 ≤ (form_of n).set_bytes
  pub most : (form_of n).set_bytes ≤ 16

pub marked : (n : ℕ) → Marked n
marked n = by_cases (dec_le n word_bits)
    (λ h. let e = form-narrow n h in record { report = rw e; group = rw e; plan = rw e; part = rw e; least = rw e (omega arith); most = rw e (omega arith) })
    (λ h. let e = form-wide n (omega arith) in record { report = rw e; group = rw e; plan = rw e; part = rw e; least = rw e (omega arith); most = rw e (omega arith) })

-- a number of w bytes has 8w bits
pub byte-bits : (w : ℕ) → 256 ^ w ≡ 2 ^ (8 * w)
byte-bits zero = refl
byte-bits (suc w) =
    let e : 8 * suc w ≡ 8 * w + 8 = omega arith in
    rw (pow-suc, byte-bits w, e, pow-add 2 (8 * w) 8)

-- so the sets of n badges fit theirs
pub form-fits : (n s : ℕ) → n ≤ 2 * word_bits → s < 2 ^ n → s < 256 ^ (form_of n).set_bytes
form-fits n s most h = rw byte-bits (lt_of_lt_of_le h (pow_mono (bits n most)))
  where
    bits : (n : ℕ) → n ≤ 2 * word_bits → n ≤ 8 * (form_of n).set_bytes
    bits n most = by_cases (dec_le n word_bits) (λ l. rw (form-narrow n l) l) (λ l. rw (form-wide n (omega arith)) most)
