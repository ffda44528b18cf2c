-- What is known where a test by lengths does not hold. (Of the definition's own tests this is said in crate accepted, Checks.)
use Rattle.std.specs.Prelude.{◌≡◌, ℕ, ◌*◌, false}
use Rattle.std.proofs.Common.{eqb-true}
use Rattle.checks.specs.Bools.{not-false}
use Rattle.checks.specs.Lengths.{wrong_length}

pub length_right : (n width size : ℕ) → wrong_length n width size ≡ false → size ≡ n * width
unfolding wrong_length
length_right n width size e = eqb-true size (n * width) (not-false _ e)
