-- `decimal`: the first digits say v, which stays below 10 to their number.
use native.Mathlib.Omega.{arith}
use Rattle.seek_text.proofs.Words.{decimal_start, decimal_small, decimal_on, decimal_end, digit_at}
use Rattle.seek_text.proofs.decimal.Goals as goal

pub loop-b-init : goal.loop-b-init
loop-b-init c = decimal_start

pub overflow_mul-v : goal.overflow_mul-v
overflow_mul-v c =
    omega (arith, decimal_small c.loop-b.invariant c.requires c.loop-b-test.true)

pub digit-requires : goal.digit-requires
digit-requires c = digit_at _ _ c.loop-b-test.true c.requires

pub overflow_add-v : goal.overflow_add-v
overflow_add-v c =
    let l = c.loop-b in
    let small = decimal_small l.invariant c.requires c.loop-b-test.true in
    omega (arith, small, (digit_at c.args.word.now l.b-index c.loop-b-test.true c.requires).1)

pub loop-b-preserved : goal.loop-b-preserved
loop-b-preserved c =
    decimal_on c.loop-b.invariant c.requires c.loop-b-test.true c.digit.ensures

pub returns : goal.returns
returns c = decimal_end c.loop-b.invariant c.loop-b-test.false
