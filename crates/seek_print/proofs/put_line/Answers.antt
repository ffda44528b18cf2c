-- `put_line`: four pieces, one after another.
use Rattle.seek_print.proofs.Printing.{line_text}
use Rattle.seek_print.proofs.put_line.Goals as goal

pub returns : goal.returns
returns c = rw (← c.from.ensures, ← c.from-2.ensures) (line_text c.put_number-a.ensures c.put_byte-b.ensures c.put_number-d.ensures c.put_byte.ensures)
