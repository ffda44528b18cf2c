-- "Slack is max(degree, ceil(1.3f32 x degree)), with that product rounded once. On 1..64 this equals the whole-number ceil(13 x degree / 10)."
use Rattle.std.specs.Prelude.{ℕ, ◌≤◌, ◌≡◌, refl, true, eqb}
use Rattle.std.proofs.Common.{arith, eqb-true}
use Rattle.std.specs.Float.Ieee.{of_bits, of_int, mul}
use Rattle.definition.specs.Lists.{each, run}
use Rattle.definition.specs.Metric.{whole}
use Rattle.definition.specs.Floats.{times}
use Rattle.definition.specs.Slack.{slack_factor, ceil, slack_by_floats, slack}
use Rattle.laws.specs.Members.{each_run}

-- computed
slack_table : each (λ k. eqb (slack_by_floats k) (slack k)) (run 1 64) ≡ true
unfolding slack_by_floats slack slack_factor ceil of_bits of_int mul whole times each run
slack_table = refl

pub slack-same : (degree : ℕ) → 1 ≤ degree → degree ≤ 64 → slack_by_floats degree ≡ slack degree
slack-same degree lo hi =
    eqb-true (slack_by_floats degree) (slack degree) (each_run (λ k. eqb (slack_by_floats k) (slack k)) 1 64 degree slack_table lo (omega arith))
