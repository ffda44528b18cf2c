-- `put_number`: the library's digits, which are the definition's.
use Rattle.std.proofs.Common.{arith, ◌∙◌}
use Rattle.seek_print.specs.Printed.{put_same}
use Rattle.seek_print.proofs.Digits.{decimal_is}
use Rattle.seek_print.proofs.put_number.Goals as goal

pub returns : goal.returns
returns c =
    let is = c.as_bytes.ensures.value ∙ c.format.ensures.text ∙ decimal_is c.args.n c.ranges.n.fits in
    record { put = put_same is c.put.ensures; few = omega (arith, c.put.ensures.ends, c.as_bytes.ensures.len, c.format.ensures.fits) }
