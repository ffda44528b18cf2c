-- A round from place i on, and all that follows it: what a step over the item at i, or its being taken, leaves to be taken.
use mathlib.Core.Path.{◌≡◌, refl, sym, ap, ◌∙◌}
use mathlib.Core.Bool.{Bool, true, false, cond}
use mathlib.Core.List.{List, [], ◌∷◌, ◌++◌, append_assoc, append-nil}
use Prim.Native.Nat.{ℕ, zero, suc, ◌+◌, ◌-◌, ◌≤◌, ◌<◌}
use native.Mathlib.Nat.{sub-zero, suc-sub-suc}
use native.Mathlib.Numerals.{add-one}
use native.Mathlib.Omega.{arith}
use lib.Ieee.{Float, nan, lt}
use lib.ListN.{length, get_or, take, drop, set, length-set, take-append-drop, drop_of_length-le}
use lib.Seq.{take-suc, take-suc-set, drop-set-lt, drop-cons, length-take-le, take_at, drop_at}
use Rattle.definition.specs.Beam.{Item}
use Rattle.definition.specs.Floats.{largest, above}
use Rattle.definition.specs.Prune.{Round, skip_one, take_one, round, rounds, shade_all, next_alpha}
use Rattle.laws.specs.Truth.{either}

module _ (pair : ℕ → ℕ → ℕ) (target : Float) (fuel : ℕ) (current : Float) where
  -- what a round leaves, after `front` factors, and the rounds that follow
  rest : ℕ → List Item → List Float → Round → List ℕ
  rest room cs front r =
      r.took ++ cond (above target current) (rounds pair target fuel (next_alpha target current) (room - length r.took) cs (front ++ r.factors)) []

  -- what is taken from place i on
  pub onward : ℕ → List Item → List Float → ℕ → List ℕ
  onward room cs fs i = rest room cs (take i fs) (round pair target current room (drop i cs) (drop i fs))

  pub onward_start : (room : ℕ) (cs : List Item) (fs : List Float) → rounds pair target (suc fuel) current room cs fs ≡ onward room cs fs 0
  unfolding rounds onward rest
  onward_start room cs fs =
      let r = round pair target current room cs fs in
      go (above target current) r.took (rounds pair target fuel (next_alpha target current) (room - length r.took) cs r.factors)
    where
      go : (b : Bool) (t more : List ℕ) → cond b (t ++ more) t ≡ t ++ cond b more []
      go true t more = refl
      go false t more = sym (append-nil t)

  module _ (cs : List Item) (fs : List Float) (all : length fs ≡ length cs) (i : ℕ) where
    pub onward_skip : (room : ℕ) (c : Item) → i < length cs → drop i cs ≡ c ∷ drop (suc i) cs → lt current (get_or fs i nan) ≡ true
        → onward (suc room) cs fs i ≡ onward (suc room) cs fs (i + 1)
    unfolding round skip_one above onward rest
    onward_skip room c h at t =
        let hf : i < length fs = omega arith in
        let left = round pair target current (suc room) (drop (suc i) cs) (drop (suc i) fs) in
        rw (add-one i, at, drop-cons fs i nan hf, t, take-suc fs i nan hf, append_assoc (take i fs) (get_or fs i nan ∷ []) left.factors)

    pub onward_take : (room : ℕ) (c : Item) → i < length cs → drop i cs ≡ c ∷ drop (suc i) cs → lt current (get_or fs i nan) ≡ false
        → (fs' : List Float) → fs' ≡ take (suc i) (set fs i largest) ++ shade_all pair target c.id (drop (suc i) cs) (drop (suc i) (set fs i largest))
        → onward (suc room) cs fs i ≡ c.id ∷ onward room cs fs' (i + 1)
    unfolding round take_one above onward rest
    onward_take room c h at t fs' e =
        let hf : i < length fs = omega arith in
        let fs₁ = set fs i largest in
        let shaded = shade_all pair target c.id (drop (suc i) cs) in
        let front : take (suc i) fs₁ ≡ take i fs ++ (largest ∷ []) = take-suc-set fs i largest hf in
        let back : drop (suc i) fs₁ ≡ drop (suc i) fs = drop-set-lt (suc i) fs i largest (omega arith) in
        let n : length (take (suc i) fs₁) ≡ suc i = length-take-le (suc i) fs₁ (omega (arith, length-set fs i largest)) in
        let p : take (suc i) fs' ≡ take i fs ++ (largest ∷ []) = ap (take (suc i)) e ∙ take_at _ _ (suc i) n ∙ front in
        let q : drop (suc i) fs' ≡ shaded (drop (suc i) fs) = ap (drop (suc i)) e ∙ drop_at (take (suc i) fs₁) _ (suc i) n ∙ ap shaded back in
        let left = round pair target current room (drop (suc i) cs) (shaded (drop (suc i) fs)) in
        rw (
          add-one i,
          p,
          q,
          at,
          drop-cons fs i nan hf,
          t,
          append_assoc (take i fs) (largest ∷ []) left.factors,
          suc-sub-suc room (length left.took),
        )

    pub onward_end : (room : ℕ) → length cs ≤ i
        → onward room cs fs i ≡ cond (above target current) (rounds pair target fuel (next_alpha target current) room cs fs) []
    unfolding round onward rest
    onward_end room h = rw (drop_of_length-le cs h, sub-zero room, take-append-drop i fs) refl

-- ---- a full row takes no more

full_round : (pair : ℕ → ℕ → ℕ) (target current : Float) (cs : List Item) (fs : List Float) → (round pair target current 0 cs fs).took ≡ []
unfolding round
full_round pair target current [] fs = refl
full_round pair target current (c ∷ cs) [] = refl
full_round pair target current (c ∷ cs) (f ∷ fs) = refl

module _ (pair : ℕ → ℕ → ℕ) (target : Float) where
  full_rounds : (fuel : ℕ) (current : Float) (cs : List Item) (fs : List Float) → rounds pair target fuel current 0 cs fs ≡ []
  unfolding rounds
  full_rounds zero current cs fs = refl
  full_rounds (suc fuel) current cs fs =
      rw (full_round pair target current cs fs)
      (either (λ (l : List ℕ). l ≡ []) (above target current) (full_rounds fuel (next_alpha target current) cs _) refl)

  pub onward_full : (fuel : ℕ) (current : Float) (cs : List Item) (fs : List Float) (i : ℕ) → onward pair target fuel current 0 cs fs i ≡ []
  unfolding onward rest
  onward_full fuel current cs fs i =
      rw (full_round pair target current (drop i cs) (drop i fs))
      (either (λ (l : List ℕ). l ≡ []) (above target current) (full_rounds fuel (next_alpha target current) cs _) refl)
