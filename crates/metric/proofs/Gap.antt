-- What two bytes add, by the higher and the lower of them: the definition's `squared`. Assumes nothing.
use Rattle.std.proofs.Common.{◌≡◌, ap, ◌∙◌, inl, inr, cond, ℕ, ◌-◌, ◌*◌, ◌≤◌, ◌<◌, min, max, arith, eqb}
use Rattle.std.proofs.lemmas.Bool.{eqb-true, eqb-false}
use Rattle.definition.specs.Metric.{gap, saturated, squared}
use Rattle.laws.specs.Truth.{branch, decide}
use Rattle.theory.specs.Metric.{squared-saturated, squared-clear}

-- what the higher is measured from
abbrev pub ground : ℕ → ℕ → ℕ
ground x y = cond (saturated (max x y)) 255 (min x y)

module _ (x y : ℕ) (p : x < 256) (q : y < 256) where
  -- the higher is saturated, so one of them is
  pub saturated_adds : max x y ≡ 255 → squared x y ≡ 0
  saturated_adds top =
      squared-saturated x y (decide (eqb x 255) (λ e. inl (eqb-true x 255 e)) (λ e. let other = eqb-false x 255 e in inr (omega arith)))

  -- the higher is not, so neither is
  pub clear_adds : (max x y ≡ 255 → ⊥) → squared x y ≡ (max x y - min x y) * (max x y - min x y)
  unfolding gap
  clear_adds below =
      let apart : gap x y ≡ max x y - min x y = omega arith in
      squared-clear x y (λ e. below (omega arith)) (λ e. below (omega arith)) ∙ ap (λ (d : ℕ). d * d) apart

  pub ground_most : ground x y ≤ max x y
  unfolding saturated
  ground_most = branch (λ (g : ℕ). g ≤ max x y) (eqb (max x y) 255) (λ t. omega (arith, eqb-true (max x y) 255 t)) (λ t. omega arith)

  pub ground_adds : squared x y ≡ (max x y - ground x y) * (max x y - ground x y)
  unfolding saturated
  ground_adds =
      branch (λ (g : ℕ). squared x y ≡ (max x y - g) * (max x y - g)) (eqb (max x y) 255)
      (λ t.
      let top = eqb-true (max x y) 255 t in
      let none : 0 ≡ max x y - 255 = omega arith in
      saturated_adds top ∙ ap (λ (d : ℕ). d * d) none)
      (λ t. clear_adds (eqb-false (max x y) 255 t))
