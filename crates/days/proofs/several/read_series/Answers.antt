-- `read_series` meets its contract: the logs are judged first, then their sizes, then 8, and then filling leaves their days.
use Rattle.std.proofs.Common.{sym, ◌∙◌, arith}
use Rattle.std.proofs.lemmas.Result.{err_from_is_err_and}
use borrow.Author.Tests.{leb-true, leb-false}
use Rattle.days.proofs.SeriesCall.{leaves, Told, sizes-told, told-most, call-refused, call-little, call-few, fillable, call-read}
use Rattle.days.proofs.several.read_series.Goals as goal
use Rattle.days.proofs.several.read_series.Goals.{In_ok-size}

-- what judging told of accepted logs of one size
told : (c : goal.In_ok-size) → let a = c.args in Told a.logs.now a.lengths.now c.in_ok-size.size
told c = sizes-told _ _ _ (sym c.in_ok-size.ensures)

pub returns-in_err-size : goal.returns-in_err-size
returns-in_err-size c =
    let p = err_from_is_err_and c.from_residual.result c.from_residual.ensures.1 in
    let w = leaves (call-refused _ _ _ _ _ _ (sym c.in_err-size.ensures)) in record { answer = rw (p.1, p.2) w.0; leaves = w.1 }

pub overflow_mul-day : goal.overflow_mul-day
overflow_mul-day c = omega (arith, told-most (told (goal.at.overflow_mul-day c).In_ok-size))

pub overflow_mul-day-2 : goal.overflow_mul-day-2
overflow_mul-day-2 c = omega (arith, told-most (told (goal.at.overflow_mul-day-2 c).In_ok-size))

pub returns-then-room-day : goal.returns-then-room-day
returns-then-room-day c = let w = leaves (call-little _ _ _ _ (told (goal.at.returns-then-room-day c).In_ok-size) c.if-room-day.true) in record { answer = w.0; leaves = w.1 }

pub returns-then-not-fits : goal.returns-then-not-fits
returns-then-not-fits c = let w = leaves (call-few _ _ _ _ (told (goal.at.returns-then-not-fits c).In_ok-size) c.if-room-day.false (leb-false _ _ (sym c.fits.ensures ∙ c.if-not-fits.true))) in record { answer = w.0; leaves = w.1 }

pub fill_all-requires : goal.fill_all-requires
fill_all-requires c = fillable (told (goal.at.fill_all-requires c).In_ok-size) _ (leb-true _ _ (sym c.fits.ensures ∙ c.if-not-fits.false))

pub returns : goal.returns
returns c = let w = leaves (call-read _ _ _ _ (told (goal.at.returns c).In_ok-size) _ c.if-room-day.false (leb-true _ _ (sym c.fits.ensures ∙ c.if-not-fits.false)) c.fill_all.ensures) in record { answer = w.0; leaves = w.1 }
