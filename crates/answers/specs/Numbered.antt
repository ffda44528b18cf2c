-- The answer of a call that lends nothing for writing: its number decides.
use Rattle.std.specs.Prelude.{◌≡◌, refl, ℕ, zero, suc, ◌<◌}
use Rattle.std.proofs.Common.{arith}
use Rattle.definition.specs.declared.Answer.{Answer}
use Rattle.definition.specs.Outcome.{refused, by_number}

pub refused_is : (number k : ℕ) (success : Answer) → 0 < k → number ≡ k → refused k ≡ by_number number (refused number) success
unfolding by_number
refused_is number zero success pos e = absurd (omega arith)
refused_is number (suc k) success pos e = rw e refl

pub success_is : (number : ℕ) (success : Answer) → number ≡ 0 → success ≡ by_number number (refused number) success
unfolding by_number
success_is number success e = rw e refl
