-- `put_found`: three pieces: the count, a newline, the lines.
use Rattle.seek_print.proofs.Printing.{found_text_lem}
use Rattle.seek_print.proofs.put_found.Goals as goal

pub returns : goal.returns
returns c = found_text_lem _ _ c.put_number-a.ensures c.put_byte-at.ensures c.put_lines.ensures
