-- put_record meets its contract: in each case the array that is put is the record in its bytes.
use mathlib.Core.Path.{◌≡◌, sym, ap, ◌∙◌}
use Rattle.sets.specs.Bytes.{little_endian}
use Rattle.records.specs.declared.record.Record.{Record}
use Rattle.std.specs.Int.{w32}
use Rattle.records.specs.Records.{fields_of, encode}
use Rattle.records.proofs.LittleEndian.{to-le-bytes}
use Rattle.logs.specs.Buffers.{place}
use Rattle.logs.proofs.encoding.put_record.Goals as goal

pub returns-in-Header : goal.returns-in-Header
unfolding encode fields_of
returns-in-Header c =
    let a = c.args in
    c.put.ensures ∙ ap (λ (r : Record). place a.at (encode r) a.buffer.now) (sym c.in-Header.is)

pub returns-in-Contact : goal.returns-in-Contact
unfolding encode fields_of
returns-in-Contact c =
    let a = c.args in
    c.put-in-Contact.ensures ∙ ap (λ (r : Record). place a.at (encode r) a.buffer.now) (sym c.in-Contact.is)

pub returns-in-End : goal.returns-in-End
unfolding encode fields_of little_endian
returns-in-End c =
    let a = c.args in
    let e : c.to_le_bytes.result ≡ little_endian 4 c.in-End.count = c.to_le_bytes.ensures ∙ to-le-bytes w32 c.in-End.count in
    (rw e at c.put-in-End.ensures) ∙ ap (λ (r : Record). place a.at (encode r) a.buffer.now) (sym c.in-End.is)
