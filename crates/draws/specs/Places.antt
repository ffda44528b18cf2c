-- A slice in which each word is a function of its place, written from its front.
use Rattle.std.specs.Prelude.{◌≡◌, ℕ, suc, ◌+◌, ◌-◌, ◌<◌, ◌≤◌, List, ◌∷◌, map, length, slice_set}
use Rattle.std.proofs.Common.{sym, map-id, add-one}
use Rattle.std.proofs.Math.Path.{subst}
use Rattle.std.proofs.Math.Nat.{sub-zero}
use native.Mathlib.Omega.{arith}
use Rattle.definition.specs.Lists.{run, upto}
use Rattle.laws.specs.Writing.{Writing, start, put, all_ends}

-- f of m places: those from j on are still to be written
abbrev pub Placing : (f : ℕ → ℕ) → ℕ → List ℕ → List ℕ → ℕ → Type 0
Placing f m o out j = Writing (map f (upto m)) o out j (map f (run j (m - j)))

module _ (f : ℕ → ℕ) (m : ℕ) (o : List ℕ) where
  pub place_start : Placing f m o o 0
  unfolding upto
  place_start = rw (sub-zero m) (start (map f (run 0 m)) o)

  module _ (out : List ℕ) (j : ℕ) (s : Placing f m o out j) where
    pub place_turn : j < m → j < length out → Placing f m o (slice_set out j (f j)) (j + 1)
    unfolding run
    place_turn h l =
        let q : m - j ≡ suc (m - (j + 1)) = omega arith in
        let w = map f (upto m) in
        let k : Writing w o out j (f j ∷ map f (run (suc j) (m - (j + 1)))) = subst (λ (z : ℕ). Writing w o out j (map f (run j z))) q s in
        put _ o out j (f j) _ l (subst (λ (z : ℕ). Writing w o out j (f j ∷ map f (run z (m - (j + 1))))) (sym (add-one j)) k)

    pub place_end : m ≤ j → length out ≤ j → out ≡ map f (upto m)
    unfolding run
    place_end h l =
        let q : m - j ≡ 0 = omega arith in
        all_ends _ o out j l (subst (λ (z : ℕ). Writing (map f (upto m)) o out j (map f (run j z))) q s)

-- the place itself
pub own_places : (m : ℕ) → map (λ j. j) (upto m) ≡ upto m
own_places m = map-id (upto m)
