-- `read` meets its contract: the verdict of judging first, then 8, and then what filling leaves.
use Rattle.std.proofs.Common.{sym, ap, ap₂, ◌∙◌, ℕ, ◌++◌, drop, arith}
use Rattle.std.proofs.lemmas.Result.{err_from_is_err_and}
use Rattle.records.specs.Limits.{words_for}
use Rattle.records.specs.Outcomes.{success}
use Rattle.series.specs.Series.{Size}
use Rattle.days.specs.Days.{day_of}
use Rattle.days.specs.Calls.{Read}
use Rattle.days.proofs.ReadCall.{read-refused, read-few, read-success, verdict-refused, Told, verdict-accepted, accepted-words}
use Rattle.days.proofs.reading.read.Goals as goal
use Rattle.days.proofs.reading.read.Goals.{After-from-size}

-- what judging told of an accepted log
told : (c : goal.After-from-size) → let size = c.from-size.result in Told c.args.log.now size.badges size.ticks c.in_ok-accepted.accepted.contacts
told c = rw c.from-size.ensures (verdict-accepted _ _ _ _ (sym c.in_ok-accepted.ensures))

pub returns-in_err-accepted : goal.returns-in_err-accepted
returns-in_err-accepted c =
    let p = err_from_is_err_and c.from_residual.result c.from_residual.ensures.1 in
    let e = read-refused _ c.args.words.now _ _ (verdict-refused _ _ _ (sym c.in_err-accepted.ensures)) in
    record { answer = rw (p.1, p.2) (sym (ap (λ (x : Read). x.answer) e)); leaves = sym (ap (λ (x : Read). x.words) e) }

pub overflow_mul-size : goal.overflow_mul-size
overflow_mul-size c = omega (arith, accepted-words (told (goal.at.overflow_mul-size c).After-from-size))

pub overflow_mul-size-2 : goal.overflow_mul-size-2
overflow_mul-size-2 c = omega (arith, accepted-words (told (goal.at.overflow_mul-size-2 c).After-from-size))

pub returns-then-words-size : goal.returns-then-words-size
returns-then-words-size c =
    let t = (told (goal.at.returns-then-words-size c).After-from-size).accepts in
    let e = read-few _ c.args.words.now t.records t.accepted (rw (t.badges, t.ticks) c.if-words-size.true) in
    record { answer = sym (ap (λ (x : Read). x.answer) e); leaves = sym (ap (λ (x : Read). x.words) e) }

pub fill-requires : goal.fill-requires
fill-requires c = ((told (goal.at.fill-requires c).After-from-size).accepts, c.if-words-size.false)

pub returns : goal.returns
returns c =
    let w = told (goal.at.returns c).After-from-size in
    let t = w.accepts in
    let ws = c.args.words.now in
    let e = read-success _ ws t.records t.accepted (rw (t.badges, t.ticks) c.if-words-size.false) in record {
      answer = sym (ap (λ (x : Read). x.answer) e ∙ ap success w.same ∙ ap (λ (s : Size). success (record { badges = s.badges; ticks = s.ticks; contacts = c.in_ok-accepted.accepted.contacts })) c.from-size.ensures);
      leaves = c.fill.ensures t.records t.accepted ∙ ap (λ (k : ℕ). day_of t.records ++ drop k ws) (ap₂ words_for (sym t.badges) (sym t.ticks)) ∙ sym (ap (λ (x : Read). x.words) e);
    }
