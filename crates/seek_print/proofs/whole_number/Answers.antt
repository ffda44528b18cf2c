-- `whole_number`: a distance that is whole is cast back without loss.
use Rattle.whole.specs.Whole.{count_in_unsigned}
use Rattle.seek_print.proofs.whole_number.Goals as goal

pub float_to_int-result : goal.float_to_int-result
float_to_int-result c = count_in_unsigned c.args.x c.requires
