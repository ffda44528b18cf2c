-- `run_end`. The loop's invariant: each key from `first` on up to `end` holds the distance of the first.
use Rattle.std.proofs.Common.{◌≡◌, ℕ, ◌≤◌, get_or, sym, ap, ◌∙◌, arith, below_more}
use Rattle.beam.specs.Keys.{dist_of}
use Rattle.listing.proofs.run_end.Goals as goal

pub loop-end-init : goal.loop-end-init
loop-end-init c j h l =
    let a = c.args in
    let e : j ≡ a.first = omega arith in
    ap (λ (i : ℕ). dist_of (get_or a.keys.now i 0)) e ∙ sym c.dist_of-dist.ensures

pub loop-end-preserved : goal.loop-end-preserved
loop-end-preserved c j h g =
    let a = c.args in
    below_more (λ (k : ℕ). a.first ≤ k → dist_of (get_or a.keys.now k 0) ≡ c.dist_of-dist.result) c.loop-end.end
    (λ k b f. c.loop-end.invariant k f b) (λ f. sym c.dist_of.ensures ∙ c.if-dist_of-dist.false) j g h

pub returns-then-dist_of-dist : goal.returns-then-dist_of-dist
returns-then-dist_of-dist c =
    record {
      some = omega arith;
      within = omega arith;
      level = λ i h g. c.loop-end.invariant i h g ∙ c.dist_of-dist.ensures;
      ends = λ h e. c.if-dist_of-dist.true (c.dist_of.ensures ∙ e ∙ sym c.dist_of-dist.ensures);
    }

pub returns : goal.returns
returns c =
    record {
      some = omega arith;
      within = omega arith;
      level = λ i h g. c.loop-end.invariant i h (omega arith) ∙ c.dist_of-dist.ensures;
      ends = λ h. absurd (omega arith);
    }
