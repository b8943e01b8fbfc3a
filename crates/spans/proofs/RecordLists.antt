-- Laws of the records of cores: what is in the list, and in which order it stands.
use mathlib.Core.Path.{◌≡◌, refl, sym}
use mathlib.Core.List.Memᴰ
use mathlib.Core.List.{List, [], ◌∷◌, ◌++◌, append_assoc, Memᴰ}
use mathlib.Core.Logic.{◌⊎◌, inl, inr}
use Prim.Native.Nat.{ℕ, zero, suc, ◌^◌, ◌<◌}
use Rattle.sets.specs.Members.{capacity}
use Rattle.sets.specs.Tables.{concat_below, Pairwise, nothing, followed}
use Rattle.sets.proofs.Pairwise.{pairwise_append, pairwise-weaken, pairwise_map}
use Rattle.circles.proofs.CircleLists.{circles-rise}
use Rattle.spans.specs.Spans.{span_neighbours}
use Rattle.spans.specs.SpanCores.{SpanCore, Mem}
use Rattle.spans.specs.CircleRecords.{with_members, circles_of, records_of, circle_records}
use Rattle.spans.specs.GroupStatement.{Before, by_first, by_last, by_member}
use Rattle.spans.proofs.GroupOrder.{Earlier, first_rises, last_rises}

-- d is one of the records of core c: it shows a circle of c, with the order and span of c
pub record RecordOf (n : ℕ) (ws : List ℕ) (c d : SpanCore) : Type 0 where
  pub circle : Memᴰ d.members (circles_of n ws c)
  pub same : with_members c d.members ≡ d

module _ (n : ℕ) (ws : List ℕ) where
  -- the records of one core are exactly those,
  pub in-records-of : (c : SpanCore) (s : ℕ) → Memᴰ s (circles_of n ws c) → Mem (with_members c s) (records_of n ws c)
  unfolding records_of
  in-records-of c s i = Memᴰ.map (with_members c) i

  pub of-records-of : (c d : SpanCore) → Mem d (records_of n ws c) → RecordOf n ws c d
  unfolding records_of
  of-records-of c d i =
      let r = Memᴰ.of_map (with_members c) _ i in
      rw (← r.2) (record { circle = r.1; same = refl })

  -- and those of a list of cores are the records of one of them
  pub in-circle-records : (cs : List SpanCore) {c d : SpanCore} → Mem c cs → Mem d (records_of n ws c) → Mem d (circle_records n ws cs)
  unfolding circle_records
  in-circle-records [] i j = absurd (Memᴰ.not-nil i)
  in-circle-records (b ∷ cs) {c} {d} i j = go (Memᴰ.cases_cons i) (λ k. in-circle-records cs k j)
    where
      go : (c ≡ b) ⊎ Mem c cs → (Mem c cs → Mem d (circle_records n ws cs)) → Mem d (records_of n ws b ++ circle_records n ws cs)
      go (inl e) ih = Memᴰ.append_left (circle_records n ws cs) (rw e at j)
      go (inr k) ih = Memᴰ.append_right (records_of n ws b) (ih k)

  pub of-circle-records : (cs : List SpanCore) {d : SpanCore} → Mem d (circle_records n ws cs) → (c : SpanCore) × Mem c cs × RecordOf n ws c d
  unfolding circle_records
  of-circle-records [] i = absurd (Memᴰ.not-nil i)
  of-circle-records (b ∷ cs) {d} i = go (Memᴰ.append_cases (records_of n ws b) i) (of-circle-records cs)
    where
      go : Mem d (records_of n ws b) ⊎ Mem d (circle_records n ws cs)
          → (Mem d (circle_records n ws cs) → (c : SpanCore) × Mem c cs × RecordOf n ws c d)
          → (c : SpanCore) × Mem c (b ∷ cs) × RecordOf n ws c d
      go (inl j) ih = (b, Memᴰ.head refl, of-records-of b d j)
      go (inr j) ih = let r = ih j in (r.0, Memᴰ.tail r.1, r.2)

  -- The records of a core stand by smallest member,
  records-sorted : (c : SpanCore) → c.members < 2 ^ capacity → Pairwise Before (records_of n ws c)
  unfolding records_of circles_of
  records-sorted c w = pairwise_map (with_members c) (pairwise-weaken (λ s t i j l. by_member refl refl l) (circles-rise (span_neighbours n ws c.first c.last) c.members w))

  -- those of an earlier core before those of a later,
  records-before : {b c x y : SpanCore} → Earlier b c → RecordOf n ws b x → RecordOf n ws c y → Before x y
  records-before (first_rises l) p q = rw (← p.same, ← q.same) (by_first l)
  records-before (last_rises e l) p q = rw (← p.same, ← q.same) (by_last e l)

  -- so all stand in order
  pub circle-records-sorted : (cs : List SpanCore) → ((c : SpanCore) → Mem c cs → c.members < 2 ^ capacity) → Pairwise Earlier cs → Pairwise Before (circle_records n ws cs)
  unfolding circle_records
  circle-records-sorted [] w nothing = nothing
  circle-records-sorted (c ∷ cs) w (followed f p) = pairwise_append (records-sorted c (w c (Memᴰ.head refl))) (circle-records-sorted cs (λ d i. w d (Memᴰ.tail i)) p)
      (λ x y i j. let r = of-circle-records cs j in records-before (f r.0 r.1) (of-records-of c x i) r.2)

  -- the records of lists of cores, one after the other
  pub circle-records-append : (bs cs : List SpanCore) → circle_records n ws (bs ++ cs) ≡ circle_records n ws bs ++ circle_records n ws cs
  unfolding circle_records
  circle-records-append [] cs = refl
  circle-records-append (b ∷ bs) cs = rw (circle-records-append bs cs) (sym (append_assoc (records_of n ws b) (circle_records n ws bs) (circle_records n ws cs)))

  pub circle-records-concat : (m : ℕ) (f : ℕ → List SpanCore) → circle_records n ws (concat_below m f) ≡ concat_below m (λ i. circle_records n ws (f i))
  unfolding circle_records concat_below
  circle-records-concat zero f = refl
  circle-records-concat (suc m) f = rw (circle-records-append (concat_below m f) (f m), circle-records-concat m f)
