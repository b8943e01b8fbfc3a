-- Laws of the loop that appends the records of a core's circles: at its start, after one circle more, and at its end.
use mathlib.Core.Path.{◌≡◌, refl, sym, ap, subst, ◌∙◌}
use mathlib.Core.List.{List, [], ◌∷◌, ◌++◌, map-append, append_assoc, append-nil}
use Prim.Native.Nat.{ℕ, suc, ◌+◌, ◌*◌, ◌^◌, ◌≤◌, ◌<◌}
use native.Mathlib.Nat.{mul-suc, mul-le-mul_left}
use native.Mathlib.Omega.{arith}
use lib.Dec.{leb}
use lib.ListN.{length, length-append, length-map}
use borrow.Author.Tests.{le-leb, leb-true}
use Rattle.sets.specs.Sets.{Sub, difference, size}
use Rattle.sets.specs.Members.{capacity}
use Rattle.sets.specs.Tables.{keep_if}
use Rattle.sets.proofs.Sets.{sub_refl, sub_trans, sub-lt}
use Rattle.sets.proofs.Concat.{keep_all, keep-nil}
use Rattle.circles.specs.Circles.{first_circle, circles, at_least}
use Rattle.circles.proofs.Chains.{rest-within}
use Rattle.circles.proofs.CircleLists.{circles-none, circles-more, rest-less}
use Rattle.spans.specs.SpanCores.{SpanCore}
use Rattle.spans.specs.CircleRecords.{with_members}
use Rattle.spans.specs.Encoding.{core_bytes}
use Rattle.groups.specs.Appending.{AppendsCores, large_records, CircleRoom}
use Rattle.groups.proofs.Appended.{appends-none, appends-then}

-- room for one circle is room for a record
pub circle-room : {w count enough : ℕ} {ss buffer : List ℕ} → CircleRoom w count enough ss buffer → length (at_least enough ss) ≡ 1 → (w ≤ 16) × (4 + core_bytes w * count + core_bytes w ≤ length buffer)
circle-room {w} {count} {enough} {ss} {buffer} r e =
    let one : count + length (at_least enough ss) ≡ suc count = omega arith in
    let room : 4 + core_bytes w * suc count ≤ length buffer = rw one at r.room in
    (r.short, omega (arith, room, mul-suc (core_bytes w) count))

module _ (core : SpanCore) (enough : ℕ) where
  none : large_records core enough [] ≡ []
  unfolding large_records at_least
  none = refl

  -- one set with members enough, and one without
  pub large-one : (s : ℕ) → enough ≤ size s → large_records core enough (s ∷ []) ≡ with_members core s ∷ []
  unfolding large_records at_least
  large-one s h = rw (keep_all (leb enough (size s)) (s ∷ []) (le-leb _ _ h))

  pub large-none : (s : ℕ) → size s < enough → large_records core enough (s ∷ []) ≡ []
  unfolding large_records at_least
  large-none s h = rw (keep-nil (leb enough (size s)) (s ∷ []) (λ e. let l : enough ≤ size s = leb-true _ _ e in omega arith))

  -- a list of sets after a set
  large-more : (s : ℕ) (ss : List ℕ) → large_records core enough (s ∷ ss) ≡ large_records core enough (s ∷ []) ++ large_records core enough ss
  unfolding large_records at_least
  large-more s ss = rw append-nil (map-append _ (keep_if (leb enough (size s)) (s ∷ [])) (at_least enough ss))

  -- as many records as sets that have members enough
  pub large-length : (ss : List ℕ) → length (large_records core enough ss) ≡ length (at_least enough ss)
  unfolding large_records
  large-length ss = length-map (at_least enough ss) _

  -- What holds in the loop: the records appended so far, and those of the circles of what is left, are those of the set.
  pub record Writes (mark : List ℕ) (w : ℕ) (rows : ℕ → ℕ) (s count : ℕ) (buffer₀ : List ℕ) (so_far left : ℕ) (buffer : List ℕ) : Type 0 where
    pub within : Sub left s
    pub done : List SpanCore
    pub appended : AppendsCores mark w 4 done count so_far buffer₀ buffer
    pub all : done ++ large_records core enough (circles rows left) ≡ large_records core enough (circles rows s)

  pub write-start : (mark : List ℕ) (w : ℕ) (rows : ℕ → ℕ) (s count : ℕ) (buffer₀ : List ℕ) → Writes mark w rows s count buffer₀ count s buffer₀
  write-start mark w rows s count buffer₀ = record { within = sub_refl s; done = []; appended = appends-none; all = refl }

  module _ {mark : List ℕ} {w : ℕ} {rows : ℕ → ℕ} {s count : ℕ} {buffer₀ : List ℕ} {so_far left : ℕ} {buffer : List ℕ} (small : s < 2 ^ capacity) (h : Writes mark w rows s count buffer₀ so_far left buffer) where
    left_lt : left < 2 ^ capacity
    left_lt = sub-lt capacity left s h.within small

    next : 0 < left → large_records core enough (circles rows left)
        ≡ large_records core enough (first_circle rows left ∷ []) ++ large_records core enough (circles rows (difference left (first_circle rows left)))
    next p = ap (large_records core enough) (circles-more rows left left_lt p) ∙ large-more _ _

    -- there is room for the next circle's record
    pub write-room : 0 < left → CircleRoom w count enough (circles rows s) buffer₀ → CircleRoom w so_far enough (first_circle rows left ∷ []) buffer
    write-room p r = record { short = r.short; room = omega (arith, r.room, h.appended.size, mul-le-mul_left (core_bytes w) fewer) }
      where
        fewer : so_far + length (at_least enough (first_circle rows left ∷ [])) ≤ count + length (at_least enough (circles rows s))
        fewer = omega (
          arith,
          h.appended.number,
          large-length (circles rows s),
          large-length (first_circle rows left ∷ []),
          ap length (next p),
          ap length h.all,
          length-append h.done (large_records core enough (circles rows left)),
          length-append (large_records core enough (first_circle rows left ∷ [])) (large_records core enough (circles rows (difference left (first_circle rows left)))),
        )

    pub write-more : {so-far' : ℕ} {buffer' : List ℕ} → 0 < left → AppendsCores mark w 4 (large_records core enough (first_circle rows left ∷ [])) so_far so-far' buffer buffer'
        → Writes mark w rows s count buffer₀ so-far' (difference left (first_circle rows left)) buffer'
    write-more p a = record {
      within = sub_trans (rest-within left _) h.within;
      done = h.done ++ large_records core enough (first_circle rows left ∷ []);
      appended = appends-then h.appended a;
      all = append_assoc h.done _ _ ∙ ap (λ (cs : List SpanCore). h.done ++ cs) (sym (next p)) ∙ h.all;
    }

    pub write-less : 0 < left → size (difference left (first_circle rows left)) < size left
    write-less p = rest-less rows left left_lt p

    pub write-end : left ≡ 0 → AppendsCores mark w 4 (large_records core enough (circles rows s)) count so_far buffer₀ buffer
    write-end e =
        let z : large_records core enough (circles rows left) ≡ [] = rw (e, circles-none rows) none in
        let f : h.done ≡ large_records core enough (circles rows s) = sym (append-nil h.done) ∙ ap (λ (cs : List SpanCore). h.done ++ cs) (sym z) ∙ h.all in
        subst (λ (cs : List SpanCore). AppendsCores mark w 4 cs count so_far buffer₀ buffer) f h.appended
