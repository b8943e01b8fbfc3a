-- record_bytes meets its contract: after the mark and three bytes come those of the set's two words.
use mathlib.Core.Path.{◌≡◌, sym, ap, ◌∙◌}
use mathlib.Core.List.{[], ◌∷◌, append-nil}
use lib.ListN.{get_or}
use borrow.Author.Rules.{rules}
use Rattle.std.specs.Int.{w64, to_le_bytes}
use Rattle.sets.specs.Members.{members}
use Rattle.sets.proofs.Pairs.{two-parts}
use Rattle.groups.specs.Keeping.{core_of}
use Rattle.groups.proofs.Appended.{two-letters, le-bytes, wide-record}
use Rattle.groups.proofs.encoding.record_bytes.Goals as goal

pub returns : goal.returns
returns c =
    let mark = c.args.mark in
    let letters : mark ≡ get_or mark 0 0 ∷ get_or mark 1 0 ∷ [] = sym (two-letters mark (search rules) [] ∙ append-nil mark) in
    let parts = two-parts (members c.args.shown.members) in
    let first = rw letters at c.copy_from_slice.ensures.after in
    let lower = c.copy_from_slice-2.ensures.after ∙ c.to_le_bytes.ensures ∙ ap (to_le_bytes w64) c.word.ensures in
    let upper = c.copy_from_slice-3.ensures.after ∙ c.to_le_bytes-2.ensures ∙ ap (to_le_bytes w64) c.word-2.ensures in
    rw (first, lower, upper) (wide-record mark (search rules) (core_of c.args.shown) _ _ parts.0 parts.1 _ _ (le-bytes _) (le-bytes _))
