-- `bad_group` meets its contract.
use Rattle.std.proofs.Common.{◌+◌, sym, ap, ◌∙◌, arith}
use Rattle.definition.specs.Lists.{is_in}
use Rattle.checks.specs.Lent.{rest_is}
use Rattle.checks.specs.Groups.{seed_far, seed_start, seed_again, seed_good, seeds_end}
use Rattle.checks.proofs.sets.bad_group.Goals as goal
use Rattle.checks.proofs.sets.bad_group.Goals.{then-n-s-via-then-n-s, then-n-s-via-else-n-s+then-s-start, then-n-s-via-else-n-s+else-s-start+then-is_among}

pub returns-then-n-s : goal.returns-then-n-s
returns-then-n-s c =
    let a = c.args in
    let o = c.loop-i in
    let h = c.loop-i-test.true in
    elim c.then-n-s.branch [
      | then-n-s-via-then-n-s w ↦ seed_far a.n a.start a.group.now o.i o.invariant h w.if-n-s.true
      | then-n-s-via-else-n-s+then-s-start w ↦ seed_start a.n a.start a.group.now o.i o.invariant h w.if-n-s.false w.if-s-start.true
      | then-n-s-via-else-n-s+else-s-start+then-is_among w ↦
          seed_again a.n a.start a.group.now o.i o.invariant h w.if-n-s.false w.if-s-start.false
          (ap (is_in _) (sym (rest_is (o.i + 1) a.group.now (omega arith))) ∙ sym w.is_among.ensures ∙ w.if-is_among.true)
    ]

pub loop-i-preserved : goal.loop-i-preserved
loop-i-preserved c =
    let a = c.args in
    let o = c.loop-i in
    seed_good a.n a.start a.group.now o.i o.invariant c.loop-i-test.true c.if-n-s.false c.if-s-start.false
    (ap (is_in _) (sym (rest_is (o.i + 1) a.group.now (omega arith))) ∙ sym c.is_among.ensures ∙ c.if-is_among.false)

pub returns : goal.returns
returns c = seeds_end _ _ _ _ c.loop-i.invariant c.loop-i-test.false
