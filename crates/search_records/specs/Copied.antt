-- Records copied from two parallel lists, one after the other, and what has then become of the run.
use Rattle.std.specs.Prelude.{◌≡◌, refl, List, ◌++◌, ℕ, zero, suc, ◌≤◌, ◌<◌, Float, length, get_or, set, take, drop}
use Rattle.std.proofs.Common.{sym, ap, ap₂, ◌∙◌, arith, drop-cons, take-suc, length-take-le}
use Rattle.std.specs.Float.{binary32}
use Rattle.std.specs.Float.Ieee.{of_bits}
use Rattle.std.proofs.lemmas.List.{set_at}
use Rattle.std.proofs.Math.Seq.{append_snoc}
use Rattle.definition.specs.declared.Candidate.{Candidate}

abbrev pub candidate : ℕ → Float → Candidate
candidate id distance = record { id = id; distance = distance }

-- the first n records of l are those of the two lists
abbrev pub copied : List ℕ → List Float → ℕ → List Candidate → List Candidate
copied ids dists zero l = l
copied ids dists (suc i) l = set (copied ids dists i l) i (candidate (get_or ids i 0) (get_or dists i (of_bits binary32 0)))

-- so they are any list that agrees with the two, place by place
pub copied_is : (ids : List ℕ) (dists : List Float) (l found : List Candidate) (n : ℕ) → n ≤ length found → n ≤ length l
    → ((i : ℕ) (d : Candidate) → i < n → candidate (get_or ids i 0) (get_or dists i (of_bits binary32 0)) ≡ get_or found i d)
    → copied ids dists n l ≡ take n found ++ drop n l
copied_is ids dists l found zero p q same = refl
copied_is ids dists l found (suc i) p q same =
    let d : Candidate = candidate 0 (of_bits binary32 0) in
    ap₂ (λ (xs : List Candidate) (x : Candidate). set xs i x) (copied_is ids dists l found i (omega arith) (omega arith) (λ j e h. same j e (omega arith))) (same i d (omega arith))
    ∙ ap (λ (xs : List Candidate). set (take i found ++ xs) i (get_or found i d)) (drop-cons l i d (omega arith))
    ∙ set_at (take i found) (get_or l i d) (drop (suc i) l) (get_or found i d) i (length-take-le i found (omega arith))
    ∙ sym (append_snoc (take i found) (get_or found i d) (drop (suc i) l))
    ∙ ap (λ (xs : List Candidate). xs ++ drop (suc i) l) (sym (take-suc found i d (omega arith)))
