-- `note`: each of its stores is one of the contract's.
use Rattle.std.proofs.Common.{Bool, true, false, not, cond, ◌≡◌, refl, ◌∙◌}
use Rattle.std.specs.Int.{from_bool}
use Rattle.marks.proofs.Noting.{noted}
use Rattle.marks.proofs.note.Goals as goal

-- a test that failed, as a number
unequal : (b : Bool) → from_bool (not b) ≡ cond b 0 1
unequal true = refl
unequal false = refl

pub returns : goal.returns
returns c = noted _ _ _ c.min-entry.ensures (c.from-new.ensures ∙ unequal _)
