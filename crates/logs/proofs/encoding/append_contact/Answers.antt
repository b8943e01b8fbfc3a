-- append_contact meets its contract.
use native.Mathlib.Omega.{arith}
use Rattle.logs.proofs.Appending.{appends-contact}
use Rattle.logs.proofs.encoding.append_contact.Goals as goal

pub returns : goal.returns
returns c = appends-contact _ _ _ _ _ _ _ (omega arith) (omega arith) c.put_record.ensures
