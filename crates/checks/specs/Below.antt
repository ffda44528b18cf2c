-- Every id is below n.
use Rattle.std.specs.Prelude.{◌≡◌, ℕ, ◌<◌, ◌≤◌, Bool, true, ltb, List, length, nat_lt, slice_index}
use Rattle.std.proofs.Common.{arith, ltb-true, ltb-false}
use Rattle.std.proofs.Math.ListN.{get_or-eq_default}
use Rattle.definition.specs.Lists.{each}
use Rattle.laws.specs.Truth.{decide}
use Rattle.laws.specs.Members.{each_mem, mem-at}
use Rattle.checks_repeats.specs.Bits.{Small}

unfoldable pub all_below : ℕ → List ℕ → Bool
all_below n ids = each (λ u. ltb u n) ids

pub below_at : (n : ℕ) (ids : List ℕ) (i : ℕ) → all_below n ids ≡ true → i < length ids → slice_index ids i < n
unfolding all_below
below_at n ids i h l = ltb-true (slice_index ids i) n (each_mem (λ u. ltb u n) ids h (slice_index ids i) (mem-at 0 ids i l))

-- so there is a bit for each, and for what is read past the end
pub below-small : (n : ℕ) (ids : List ℕ) → n ≤ 65536 → all_below n ids ≡ true → Small ids
below-small n ids h e =
    record {
      at = λ i.
          decide (nat_lt i (length ids)) (λ t. omega (arith, below_at n ids i e (ltb-true i (length ids) t)))
          (λ t. rw (get_or-eq_default ids 0 (ltb-false i (length ids) t)) (omega arith));
    }
