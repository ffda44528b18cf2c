-- `read_text`: what was read, and that nothing of a text that is not too long is left.
use Rattle.std.proofs.Common.{arith}
use Rattle.seek_input.proofs.Reading.{front_read, whole_read}
use Rattle.seek_input.proofs.read_text.Goals as goal

pub returns-clause-front : goal.returns-clause-front
returns-clause-front g c = front_read _ (omega arith) _ c.read_full.ensures.front

pub returns-clause-input : goal.returns-clause-input
returns-clause-input g c =
    whole_read _ _ _ _ (front_read _ (omega arith) _ c.read_full.ensures.front) c.read_full.ensures.bytes c.read_full.ensures.end
