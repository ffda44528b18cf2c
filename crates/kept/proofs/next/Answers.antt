-- `next`. Where no key is odd all of work is walked, else the first that is odd is the best that is open.
use Rattle.std.proofs.Common.{◌≡◌, ℕ, ◌%◌, rules, tests}
use Rattle.std.proofs.lemmas.Iterator.{IsFirst-from_position, YieldsList-from_slice}
use Rattle.kept.proofs.Opening.{open_none, open_some}
use Rattle.kept.proofs.next.Goals as goal

pub returns-in_err-open : goal.returns-in_err-open
returns-in_err-open c =
    let first =
    IsFirst-from_position _ _ _ (λ (x : ℕ). x % 2 ≡ 0 → ⊥) (λ (x : ℕ). x % 2 ≡ 0) c.position.ensures.ran
    (YieldsList-from_slice _ c.iter.ensures.rest) (λ x q k. search (rules, tests)) (λ x q k. search (rules, tests)) in
    let none = rw c.in_err-open.was at first in
    rw c.from_residual.ensures (open_none _ c.args.w c.requires.0 c.requires.1 none)

pub returns : goal.returns
returns c =
    let first =
    IsFirst-from_position _ _ _ (λ (x : ℕ). x % 2 ≡ 0 → ⊥) (λ (x : ℕ). x % 2 ≡ 0) c.position.ensures.ran
    (YieldsList-from_slice _ c.iter.ensures.rest) (λ x q k. search (rules, tests)) (λ x q k. search (rules, tests)) in
    let some = rw c.in_ok-open.was at first in
    open_some _ c.args.w c.requires.0 c.requires.1 c.in_ok-open.open some.0 (some.1 0) some.2
