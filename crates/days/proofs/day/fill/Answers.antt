-- `fill` meets its contract: at each turn the words hold the records before the place reached, and the bytes from there on are the others.
use Rattle.std.proofs.Common.{Ok}
use mathlib.Core.Path.{◌≡◌, refl, sym, ap, ◌∙◌, subst}
use mathlib.Core.List.{List, ◌++◌}
use Prim.Native.Nat.{ℕ, ◌+◌, ◌≤◌}
use native.Mathlib.Omega.{arith}
use lib.ListN.{length, drop, replicate}
use lib.Seq.{length-take-le}
use Rattle.sets.specs.Bytes.{Bytes}
use Rattle.records.specs.Limits.{words_for}
use Rattle.records.specs.declared.record.Record.{Record}
use Rattle.records.specs.Records.{size_of, kind_of, decode}
use Rattle.records.proofs.Verdicts.{rest-is}
use Rattle.days.specs.Days.{day_of}
use Rattle.days.specs.Filling.{Admissible}
use Rattle.days.proofs.Filled.{filling-start, cleared-rest, fitting, whole_part, Found, found, filling-done}
use Rattle.days.proofs.day.fill.Goals as goal
use Rattle.days.proofs.day.fill.Goals.{After-clear, After-decode, After-shared_slice_known-1}

-- the log is bytes
bytes : (c : goal.After-shared_slice_known-1) → Bytes c.args.log.now
bytes c = record { at = λ i l. omega (arith, c.shared_slice_known-1.given i) }

-- the words before the loop: the first 2×n×T are zero
cleared : (c : goal.After-clear) → let a = c.args in
    c.clear.new.words ++ drop (words_for a.size.badges a.size.ticks) a.words.now ≡ replicate (words_for a.size.badges a.size.ticks) 0 ++ drop (words_for a.size.badges a.size.ticks) a.words.now
cleared c =
    let a = c.args in
    ap (λ (x : List ℕ). x ++ drop (words_for a.size.badges a.size.ticks) a.words.now)
    (c.clear.ensures ∙ ap (λ (k : ℕ). replicate k 0) (length-take-le (words_for a.size.badges a.size.ticks) a.words.now c.requires.1))

-- the record that a turn finds
finds : (c : goal.After-decode) → Found c.args.log.now c.args.size.badges c.args.size.ticks c.loop-at.at (drop (words_for c.args.size.badges c.args.size.ticks) (c.clear.new.words ++ drop (words_for c.args.size.badges c.args.size.ticks) c.args.words.now)) c.loop-at.words
finds c = found _ _ _ _ _ _ c.loop-at.invariant.1 c.loop-at-test.true

is_whole : (c : goal.After-decode) → c.decode.result ≡ Ok (finds c).r
is_whole c = c.decode.ensures ∙ ap decode (rest-is c.args.log.now c.loop-at.at) ∙ (finds c).whole

same-record : (c : goal.After-decode) (r : Record) → c.decode.result ≡ Ok r → (finds c).r ≡ r
same-record c r e = whole_part (sym (is_whole c) ∙ e)

-- the size that is added is the record's, and it fits
size : (c : goal.After-decode) (r : Record) (k : ℕ) → c.decode.result ≡ Ok r → k ≡ size_of (kind_of r) → k ≡ size_of (kind_of (finds c).r)
size c r k e f = f ∙ ap (λ (x : Record). size_of (kind_of x)) (sym (same-record c r e))

fits : (c : goal.After-decode) (r : Record) (k : ℕ) → c.decode.result ≡ Ok r → k ≡ size_of (kind_of r) → c.loop-at.at + k ≤ length c.args.log.now
fits c r k e f = rw (size c r k e f) (finds c).fits

pub loop-at-init : goal.loop-at-init
loop-at-init c = (refl, filling-start _ _ _ _ _ (bytes (goal.at.loop-at-init c).After-shared_slice_known-1) c.requires.0 (cleared (goal.at.loop-at-init c).After-clear))

pub returns-in_default : goal.returns-in_default
returns-in_default c = absurd (c.in_default.not-Ok _ (is_whole (goal.at.returns-in_default c).After-decode))

pub mark_record-requires : goal.mark_record-requires
mark_record-requires c =
    let p = c.requires in
    let at = (goal.at.mark_record-requires c).After-decode in
    fitting p.0 (omega arith) (subst (Admissible _ _) (same-record at _ c.in-Ok.is) (finds at).admissible)

pub loop-at-preserved : goal.loop-at-preserved
loop-at-preserved c =
    let at = (goal.at.loop-at-preserved c).After-decode in
    let e = c.size_of-at.ensures ∙ ap size_of c.kind_of.ensures in
    (omega arith, rw (size at _ _ c.in-Ok.is e) ((finds at).next _ (rw (same-record at _ c.in-Ok.is) c.mark_record.ensures)))

pub returns : goal.returns
returns c = λ rs e. filling-done _ _ _ _ _ _ c.requires.0 c.loop-at.invariant.1 c.loop-at-test.false rs e ∙ ap (λ (x : List ℕ). day_of rs ++ x) (cleared-rest (words_for c.args.size.badges c.args.size.ticks) _ _ (cleared (goal.at.returns c).After-clear))
