-- The loop that shades: the factors shaded from place j on are, at every turn, what they are to become.
use mathlib.Core.Path.{◌≡◌, refl, sym, ap, ◌∙◌, subst}
use mathlib.Core.Bool.{true, false}
use mathlib.Core.List.{List, append_assoc}
use Prim.Native.Nat.{ℕ, suc, ◌+◌, ◌≤◌, ◌<◌}
use native.Mathlib.Numerals.{add-one}
use native.Mathlib.Omega.{arith}
use lib.Ieee.{Float, nan, lt}
use lib.ListN.{length, get_or, set, length-set, take-append-drop, drop_of_length-le}
use lib.Seq.{take-suc-set, drop-set-lt, drop-cons, set-get_or}
use Rattle.definition.specs.Beam.{Item, item}
use Rattle.definition.specs.Metric.{vector, from_query, between}
use Rattle.definition.specs.Floats.{larger, above}
use Rattle.definition.specs.Prune.{quotient, shade, shade_all}
use Rattle.metric.specs.Exact.{Exact}
use Rattle.theory.specs.Metric.{between_from, between_sym}
use Rattle.laws.specs.Paired.{items_of, items_at, items-length}
use Rattle.prune.specs.Says.{Measurable, shaded_from, Shaded}

-- the distance from the taken entry's vector is the distance to the taken entry
exact_between : (dim : ℕ) (vectors query : List ℕ) (taken i r : ℕ) → query ≡ vector dim vectors taken → Exact (from_query dim vectors query i) r
    → Exact (between dim vectors i taken) r
exact_between dim vectors query taken i r q e =
    subst (λ (d : ℕ). Exact d r)
    (ap (λ (v : List ℕ). from_query dim vectors v i) q ∙ sym (between_from dim vectors taken i) ∙ between_sym dim vectors taken i) e

module _ (dim : ℕ) (vectors : List ℕ) (target : Float) (taken : ℕ) where
  shade_below : (c : Item) (apart : ℕ) (factor : Float) → apart ≡ between dim vectors c.id taken → lt target factor ≡ false
      → shade (between dim vectors) target taken c factor ≡ larger factor (quotient c.dist apart)
  unfolding shade above
  shade_below c apart factor e t = rw (t, e) refl

  shade_above : (c : Item) (factor : Float) → lt target factor ≡ true → shade (between dim vectors) target taken c factor ≡ factor
  unfolding shade above
  shade_above c factor t = rw t refl

  module _ (ids dists : List ℕ) (same : length ids ≡ length dists) (fs : List Float) (all : length fs ≡ length ids) (j : ℕ) where
    -- the factors shaded from a place on
    abbrev shaded : ℕ → List Float → List Float
    shaded from fs = shaded_from dim vectors ids dists target taken from fs

    abbrev here : Item
    here = item (get_or dists j 0) (get_or ids j 0)

    shaded_turn : j < length ids → (v : Float) → v ≡ shade (between dim vectors) target taken here (get_or fs j nan)
        → shaded (j + 1) (set fs j v) ≡ shaded j fs
    unfolding shaded_from shade_all
    shaded_turn h v e =
        let hd : j < length dists = omega arith in
        let hf : j < length fs = omega arith in
        rw (
          add-one j,
          take-suc-set fs j v hf,
          drop-set-lt (suc j) fs j v (omega arith),
          items_at j ids dists h hd,
          drop-cons fs j nan hf,
          append_assoc,
          e,
        )

    shaded_skip : j < length ids → lt target (get_or fs j nan) ≡ true → shaded (j + 1) fs ≡ shaded j fs
    shaded_skip h t =
        ap (shaded (j + 1)) (sym (set-get_or fs j nan)) ∙ shaded_turn h (get_or fs j nan) (sym (shade_above here (get_or fs j nan) t))

    shaded_end : length ids ≤ j → shaded j fs ≡ fs
    unfolding shaded_from shade_all
    shaded_end h =
        let n : length (items_of ids dists) ≤ j = omega (arith, items-length ids dists same) in
        rw (drop_of_length-le (items_of ids dists) n) (take-append-drop j fs)

-- ---- the loop: whichever entry it is whose vector is the query
pub record Shading (dim : ℕ) (vectors query ids dists : List ℕ) (target : Float) (from : ℕ) (fs₀ fs : List Float) (j : ℕ) : Type 0 where
  pub le : j ≤ length ids
  pub nf : length fs ≡ length ids
  pub are : (taken : ℕ) → query ≡ vector dim vectors taken
      → shaded_from dim vectors ids dists target taken j fs ≡ shaded_from dim vectors ids dists target taken from fs₀

module _ {dim : ℕ} {vectors query ids dists : List ℕ} {target : Float} {from : ℕ} {fs₀ : List Float} where
  module _ {fs : List Float} {j : ℕ} (m : Measurable dim vectors ids dists) (s : Shading dim vectors query ids dists target from fs₀ fs j) where
    pub shading_raise : j < length ids → {apart : ℕ} {v : Float} → Exact (from_query dim vectors query (get_or ids j 0)) apart
        → lt target (get_or fs j nan) ≡ false → v ≡ larger (get_or fs j nan) (quotient (get_or dists j 0) apart)
        → Shading dim vectors query ids dists target from fs₀ (set fs j v) (j + 1)
    shading_raise h {apart} {v} x t e =
        let c = item (get_or dists j 0) (get_or ids j 0) in
        record {
          le = omega arith;
          nf = length-set fs j v ∙ s.nf;
          are = λ taken q.
              let to = exact_between dim vectors query taken c.id apart q x in
              let below = shade_below dim vectors target taken c apart (get_or fs j nan) to.is t in
              shaded_turn dim vectors target taken ids dists m.same fs s.nf j h v (e ∙ sym below) ∙ s.are taken q;
        }

    pub shading_skip : j < length ids → lt target (get_or fs j nan) ≡ true → Shading dim vectors query ids dists target from fs₀ fs (j + 1)
    shading_skip h t =
        record {
          le = omega arith;
          nf = s.nf;
          are = λ taken q. shaded_skip dim vectors target taken ids dists m.same fs s.nf j h t ∙ s.are taken q;
        }

    pub shading_end : length ids ≤ j → Shaded dim vectors query ids dists target from fs₀ fs
    shading_end h =
        record { are = λ taken q. sym (shaded_end dim vectors target taken ids dists m.same fs s.nf j h) ∙ s.are taken q }
