-- `put_refused`: three pieces: the word, the number, a newline.
use Rattle.seek_print.proofs.Printing.{refused_text}
use Rattle.seek_print.proofs.put_refused.Goals as goal

pub returns : goal.returns
returns c = rw c.from.ensures at (refused_text c.put-at.ensures c.put_number-end.ensures c.put_byte.ensures)
