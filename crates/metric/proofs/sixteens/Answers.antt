-- `metric::sixteens` meets its contract. The loop's invariant: the sixteen sums with what is still to come are what the samples from `from` on add.
-- Assumes nothing.
use Rattle.std.proofs.Common.{◌≡◌, ◌<◌, ◌^◌, arith, rules, sum}
use Rattle.metric.specs.Stretches.{sixteen_none, sixteen_adds, from_small, sum_is_total}
use Rattle.metric.proofs.sixteens.Goals as goal

pub loop-i-init : goal.loop-i-init
loop-i-init c = (c.requires.stretch.rises, c.requires.from_value, sixteen_none _ _ c.args.from)

pub add_sixteen-requires-clause-sums_len : goal.add_sixteen-requires-clause-sums_len
add_sixteen-requires-clause-sums_len c =
    let inv = c.loop-i.invariant in
    let small = from_small _ _ c.args.from (λ k. (c.type_inv.a k).fits) (λ k. (c.type_inv.b k).fits) c.requires.stretch.few in
    (inv.2.sixteen, omega (arith, inv.2.is, small))

pub sum-requires-clause-fits : goal.sum-requires-clause-fits
sum-requires-clause-fits c =
    let inv = c.loop-i.invariant in
    let small = from_small _ _ c.args.from (λ k. (c.type_inv.a k).fits) (λ k. (c.type_inv.b k).fits) c.requires.stretch.few in
    let e = sum_is_total c.loop-i.sums in
    let fits : sum c.loop-i.sums < 2 ^ 32 = omega (arith, inv.2.is, small) in
    search (rules, fits)

pub returns : goal.returns
returns c =
    let inv = c.loop-i.invariant in
    let e : c.sum.result ≡ sum c.loop-i.sums = search rules in
    let all = sixteen_adds _ _ c.args.from c.loop-i.i c.loop-i.sums inv.2 in
    let end : c.loop-i.i ≡ c.args.to = omega arith in
    rw (e, sum_is_total c.loop-i.sums, ← end) all
