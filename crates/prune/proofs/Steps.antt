-- The state of the two loops of `take_rounds`, and each of their steps: the ids taken so far, and what the rest of this round and the rounds after it take,
-- make up the result.
use mathlib.Core.Path.{◌≡◌, refl, sym, ap, ◌∙◌}
use mathlib.Core.Bool.{true, false, cond}
use mathlib.Core.List.{List, [], ◌∷◌, ◌++◌, append_assoc, append-nil}
use Prim.Native.Nat.{ℕ, suc, ◌+◌, ◌-◌, ◌≤◌, ◌<◌}
use native.Mathlib.Nat.{sub-zero}
use native.Mathlib.Numerals.{add-one}
use native.Mathlib.Omega.{arith}
use lib.Ieee.{Float, nan, lt, of_bits, binary32}
use lib.ListN.{length, get_or, take, drop, set, length-set}
use lib.Seq.{take-suc-set}
use Rattle.definition.specs.Beam.{Item, item}
use Rattle.definition.specs.Metric.{between}
use Rattle.definition.specs.Floats.{largest, above, one}
use Rattle.definition.specs.Prune.{rounds, shade_all, next_alpha, target_of, most_rounds}
use Rattle.laws.specs.Paired.{items_of, items_at, items-length}
use Rattle.prune.specs.Says.{shaded_from, rounds_of, Taken}
use Rattle.prune.proofs.Walking.{onward, onward_start, onward_skip, onward_take, onward_end, onward_full}

-- what a round takes from place i on, with room for so many, and the rounds after it
abbrev still : (dim : ℕ) (vectors ids dists : List ℕ) (target : Float) (fuel : ℕ) (current : Float) (room : ℕ) (fs : List Float) (i : ℕ) → List ℕ
still dim vectors ids dists target fuel current room fs i = onward (between dim vectors) target fuel current room (items_of ids dists) fs i

-- what stands in the row once the round is over that began with these factors and this row, and the rounds after it
abbrev pub from_round : (dim : ℕ) (vectors ids dists : List ℕ) (target current : Float) (degree round : ℕ) (fs : List Float) (row : List ℕ)
    (taken : ℕ) → List ℕ
from_round dim vectors ids dists target current degree round fs row taken =
    take taken row ++ still dim vectors ids dists target (8 - round) current (degree - taken) fs 0

-- within a round
pub record Walk (dim : ℕ) (vectors ids dists : List ℕ) (target : Float) (fuel : ℕ) (current : Float) (degree : ℕ) (all : List ℕ) (size : ℕ)
    (fs : List Float) (row : List ℕ) (taken i : ℕ) : Type 0 where
  pub le : i ≤ length ids
  pub few : taken ≤ degree
  pub nf : length fs ≡ length ids
  pub nr : length row ≡ size
  pub is : take taken row ++ still dim vectors ids dists target fuel current (degree - taken) fs i ≡ all

-- between rounds
pub record Going (dim : ℕ) (vectors ids dists : List ℕ) (target : Float) (degree : ℕ) (all : List ℕ) (size : ℕ)
    (fs : List Float) (row : List ℕ) (current : Float) (taken round : ℕ) : Type 0 where
  pub few : taken ≤ degree
  pub nf : length fs ≡ length ids
  pub nr : length row ≡ size
  pub is : take taken row ++ rounds (between dim vectors) target (9 - round) current (degree - taken) (items_of ids dists) fs ≡ all

pub going_first : {dim : ℕ} {vectors ids dists : List ℕ} {target : Float} {degree : ℕ} (alpha : Float) (fs : List Float) (row : List ℕ)
    → target ≡ target_of alpha → length fs ≡ length ids
    → Going dim vectors ids dists target degree (rounds_of dim vectors ids dists degree alpha fs) (length row) fs row (of_bits binary32 0x3F800000) 0 0
unfolding rounds_of most_rounds one
going_first {degree = degree} alpha fs row e nf = record { few = omega arith; nf = nf; nr = refl; is = rw (sub-zero degree, e) refl }

module _ {dim : ℕ} {vectors ids dists : List ℕ} {target : Float} {degree : ℕ} where
  pub walk_same : {fuel : ℕ} {current : Float} {all : List ℕ} {size : ℕ} {fs fs' : List Float} {row row' : List ℕ} {taken taken' i : ℕ}
      → fs ≡ fs' → row ≡ row' → taken ≡ taken' → Walk dim vectors ids dists target fuel current degree all size fs' row' taken' i
      → Walk dim vectors ids dists target fuel current degree all size fs row taken i
  walk_same e f g w = rw (e, f, g) w

  -- a step to the next place
  module _ {fuel : ℕ} {current : Float} {all : List ℕ} {size : ℕ} {fs : List Float} {row : List ℕ} {taken i : ℕ}
      (same : length ids ≡ length dists) (w : Walk dim vectors ids dists target fuel current degree all size fs row taken i)
      (h : i < length ids) (room : taken < degree) where
    abbrev cs : List Item
    cs = items_of ids dists

    n : length cs ≡ length ids
    n = items-length ids dists same

    nf : length fs ≡ length cs
    nf = w.nf ∙ sym n

    -- the item here
    abbrev here : Item
    here = item (get_or dists i 0) (get_or ids i 0)

    at : drop i cs ≡ here ∷ drop (suc i) cs
    at = items_at i ids dists h (omega arith)

    abbrev then : ℕ → List Float → ℕ → List ℕ
    then room fs i = still dim vectors ids dists target fuel current room fs i

    pub walk_skip : lt current (get_or fs i nan) ≡ true → Walk dim vectors ids dists target fuel current degree all size fs row taken (i + 1)
    walk_skip t =
        let r : degree - taken ≡ suc (degree - taken - 1) = omega arith in
        let e : then (degree - taken) fs i ≡ then (degree - taken) fs (i + 1) =
        rw r (onward_skip (between dim vectors) target fuel current cs fs nf i (degree - taken - 1) here (omega (arith, n)) at t) in
        record { le = omega arith; few = w.few; nf = w.nf; nr = w.nr; is = ap (λ (l : List ℕ). take taken row ++ l) (sym e) ∙ w.is }

    pub walk_take : lt current (get_or fs i nan) ≡ false → degree ≤ size → {fs' : List Float} → length fs' ≡ length fs
        → fs' ≡ shaded_from dim vectors ids dists target (get_or ids i 0) (i + 1) (set fs i largest)
        → Walk dim vectors ids dists target fuel current degree all size fs' (set row taken (get_or ids i 0)) (taken + 1) (i + 1)
    unfolding shaded_from
    walk_take t wide {fs'} nf' e =
        let id = get_or ids i 0 in
        let fs₁ = set fs i largest in
        let r : degree - taken ≡ suc (degree - (taken + 1)) = omega arith in
        let e' : fs' ≡ take (suc i) fs₁ ++ shade_all (between dim vectors) target id (drop (suc i) cs) (drop (suc i) fs₁) = rw add-one at e in
        let more = then (degree - (taken + 1)) fs' (i + 1) in
        let o : then (degree - taken) fs i ≡ id ∷ more =
        ap (λ (z : ℕ). then z fs i) r
        ∙ onward_take (between dim vectors) target fuel current cs fs nf i (degree - (taken + 1)) here (omega (arith, n)) at t fs' e' in
        let front : take (taken + 1) (set row taken id) ≡ take taken row ++ (id ∷ []) = rw add-one (take-suc-set row taken id (omega (arith, w.nr))) in
        record {
          le = omega arith;
          few = omega arith;
          nf = nf' ∙ w.nf;
          nr = length-set row taken id ∙ w.nr;
          is = ap (λ (l : List ℕ). l ++ more) front ∙ append_assoc (take taken row) (id ∷ []) more
              ∙ ap (λ (l : List ℕ). take taken row ++ l) (sym o) ∙ w.is;
        }

  -- a round within the rounds
  module _ {current : Float} {all : List ℕ} {size : ℕ} {fs₀ : List Float} {row₀ : List ℕ} {taken₀ round : ℕ}
      (g : Going dim vectors ids dists target degree all size fs₀ row₀ current taken₀ round) (before : round < 9) where
    abbrev whole : List ℕ
    whole = from_round dim vectors ids dists target current degree round fs₀ row₀ taken₀

    abbrev Here : List Float → List ℕ → ℕ → ℕ → Type 0
    Here fs row taken i = Walk dim vectors ids dists target (8 - round) current degree whole (length row₀) fs row taken i

    whole_is : whole ≡ all
    whole_is =
        let r : 9 - round ≡ suc (8 - round) = omega (arith, before) in
        let cs = items_of ids dists in
        ap (λ (l : List ℕ). take taken₀ row₀ ++ l) (sym (onward_start (between dim vectors) target (8 - round) current (degree - taken₀) cs fs₀))
        ∙ ap (λ (k : ℕ). take taken₀ row₀ ++ rounds (between dim vectors) target k current (degree - taken₀) cs fs₀) (sym r)
        ∙ g.is

    module _ {fs : List Float} {row : List ℕ} {taken i : ℕ} (same : length ids ≡ length dists) (w : Here fs row taken i) where
      -- what this round and the rounds after it still take; and the rounds after it alone
      abbrev rest : List ℕ
      rest = still dim vectors ids dists target (8 - round) current (degree - taken) fs i

      abbrev after : ℕ → List ℕ
      after k = rounds (between dim vectors) target k (next_alpha target current) (degree - taken) (items_of ids dists) fs

      ended : rest ≡ [] → Taken row taken degree all
      ended e =
          record { few = w.few; are = sym (append-nil (take taken row)) ∙ ap (λ (l : List ℕ). take taken row ++ l) (sym e) ∙ w.is ∙ whole_is }

      pub full : degree ≤ taken → Taken row taken degree all
      full h =
          let r : degree - taken ≡ 0 = omega arith in
          ended (rw r (onward_full (between dim vectors) target (8 - round) current (items_of ids dists) fs i))

      module _ (over : length ids ≤ i) where
        past : rest ≡ cond (above target current) (after (8 - round)) []
        past =
            let n = items-length ids dists same in
            onward_end (between dim vectors) target (8 - round) current (items_of ids dists) fs (w.nf ∙ sym n) i (degree - taken) (omega (arith, n))

        pub reached : lt current target ≡ false → Taken row taken degree all
        unfolding above
        reached t = ended (past ∙ rw t refl)

        pub again : lt current target ≡ true → length row₀ ≡ size
            → Going dim vectors ids dists target degree all size fs row (next_alpha target current) taken (round + 1)
        unfolding above
        again t ns =
            let r : 8 - round ≡ 9 - (round + 1) = omega arith in
            record {
              few = w.few;
              nf = w.nf;
              nr = w.nr ∙ ns;
              is = ap (λ (k : ℕ). take taken row ++ after k) (sym r) ∙ ap (λ (l : List ℕ). take taken row ++ l) (sym (past ∙ rw t refl)) ∙ w.is ∙ whole_is;
            }

  -- no round is left
  pub last_round : {current : Float} {all : List ℕ} {size : ℕ} {fs : List Float} {row : List ℕ} {taken round : ℕ}
      → Going dim vectors ids dists target degree all size fs row current taken round → 9 ≤ round → Taken row taken degree all
  unfolding rounds
  last_round {current} {fs = fs} {row = row} {taken = taken} {round = round} g h =
      let r : 9 - round ≡ 0 = omega arith in
      let over = ap (λ (k : ℕ). take taken row ++ rounds (between dim vectors) target k current (degree - taken) (items_of ids dists) fs) r in
      record { few = g.few; are = sym (append-nil (take taken row)) ∙ sym over ∙ g.is }
