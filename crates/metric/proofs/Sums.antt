-- A sum that grows by one sample more: what the loops over a stretch add.
use Rattle.std.proofs.Common.{◌≡◌, List, ℕ, ◌+◌, ◌<◌, length, get_or, sym, subst}
use Rattle.definition.specs.Metric.{squared}
use Rattle.metric.specs.Stretches.{Adds, adds_one, adds_join}

-- the samples from `from` up to i add `sum`, and x is what sample i adds; k is the place after it
pub adds_more : (a b : List ℕ) (from i k sum x : ℕ) → length a ≡ length b → i < length a → k ≡ i + 1
    → x ≡ squared (get_or a i 0) (get_or b i 0) → Adds a b from i sum → Adds a b from k (sum + x)
adds_more a b from i k sum x l h at e p =
    let one = subst (λ (r : ℕ). Adds a b i (i + 1) r) (sym e) (adds_one a b i l h) in
    subst (λ (n : ℕ). Adds a b from n (sum + x)) (sym at) (adds_join a b from i (i + 1) sum x p one)
