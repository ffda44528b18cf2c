-- One turn of each loop, and its end.
use Rattle.std.specs.Prelude.{◌≡◌, refl, Bool, true, false, cond, List, length, get_or, drop, Float}
use Rattle.std.proofs.Common.{sym, ◌∙◌, add-one, drop_of_length-le, drop-cons}
use Rattle.std.proofs.Math.Path.{ap, subst}
use Prim.Native.Nat.{ℕ, zero, suc, ◌+◌, ◌-◌, ◌≤◌, ◌<◌}
use native.Mathlib.Omega.{arith}
use Rattle.std.specs.Float.{binary32}
use Rattle.std.specs.Float.Ieee.{add, lt}
use Rattle.definition.specs.Metric.{whole}
use Rattle.definition.specs.Floats.{nought}
use Rattle.definition.specs.Medoid.{score_from, score, challenge, leader, medoid}

-- ---- score
pub score-turn : (pair : ℕ → ℕ → ℕ) (pivots : List ℕ) (i j : ℕ) (total : Float) (d : ℕ) → j < length pivots → d ≡ pair i (get_or pivots j 0)
    → score_from (pair i) total (drop j pivots) ≡ score pair pivots i
    → score_from (pair i) (add binary32 total (whole d)) (drop (j + 1) pivots) ≡ score pair pivots i
unfolding score_from
score-turn pair pivots i j total d l e h = sym (rw (drop-cons pivots j 0 l, add-one j, e) refl) ∙ h

pub score_end : (pair : ℕ → ℕ → ℕ) (pivots : List ℕ) (i j : ℕ) (total : Float) → length pivots ≤ j
    → score_from (pair i) total (drop j pivots) ≡ score pair pivots i → total ≡ score pair pivots i
unfolding score_from
score_end pair pivots i j total l h = sym (rw (drop_of_length-le pivots l) refl) ∙ h

pub score-start : (pair : ℕ → ℕ → ℕ) (pivots : List ℕ) (i : ℕ) → score_from (pair i) nought pivots ≡ score pair pivots i
unfolding score
score-start pair pivots i = refl

-- ---- leader: id has the least score of those below i, and it leads to the medoid
pub record Leading (scores : ℕ → Float) (m n id : ℕ) (least : Float) (i : ℕ) : Type 0 where
  pub inside : id < n
  pub leads : (leader scores (record { id = id; total = least }) i (n - i)).id ≡ m

module _ (pair : ℕ → ℕ → ℕ) (pivots : List ℕ) (n : ℕ) where
  pub lead_start : (s : Float) → 0 < n → s ≡ score pair pivots 0 → Leading (score pair pivots) (medoid pair pivots n) n 0 s 1
  unfolding medoid
  lead_start s h e = record { inside = h; leads = go n h }
    where
      go : (k : ℕ) → 0 < k → (leader (score pair pivots) (record { id = 0; total = s }) 1 (k - 1)).id ≡ medoid pair pivots k
      go zero l = absurd (omega arith)
      go (suc k) l =
          let q : suc k - 1 ≡ k = omega arith in
          ap (λ (z : ℕ). (leader (score pair pivots) (record { id = 0; total = s }) 1 z).id) q
          ∙ ap (λ (t : Float). (leader (score pair pivots) (record { id = 0; total = t }) 1 k).id) e

module _ (scores : ℕ → Float) (m n id : ℕ) (least : Float) (i : ℕ) (s : Float) (h : i < n) (e : s ≡ scores i) (l : Leading scores m n id least i) where
  next : (leader scores (challenge (record { id = id; total = least }) i s) (i + 1) (n - (i + 1))).id ≡ m
  unfolding leader
  next =
      let q : n - i ≡ suc (n - (i + 1)) = omega arith in
      let k = subst (λ (z : ℕ). (leader scores (record { id = id; total = least }) i z).id ≡ m) q l.leads in
      ap (λ (z : ℕ). (leader scores (challenge (record { id = id; total = least }) i s) z (n - (i + 1))).id) (add-one i)
      ∙ ap (λ (t : Float). (leader scores (challenge (record { id = id; total = least }) i t) (suc i) (n - (i + 1))).id) e ∙ k

  -- by the answer to the test: entry i leads from here on, or the leader stays
  goes_on : (less : Bool) → lt s least ≡ less
      → (leader scores (cond less (record { id = i; total = s }) (record { id = id; total = least })) (i + 1) (n - (i + 1))).id ≡ m
  unfolding challenge
  goes_on less t =
      ap (λ (b : Bool). (leader scores (cond b (record { id = i; total = s }) (record { id = id; total = least })) (i + 1) (n - (i + 1))).id) (sym t) ∙ next

  pub lead_taken : lt s least ≡ true → Leading scores m n i s (i + 1)
  lead_taken t = record { inside = h; leads = goes_on true t }

  pub lead_kept : lt s least ≡ false → Leading scores m n id least (i + 1)
  lead_kept t = record { inside = l.inside; leads = goes_on false t }

pub lead_end : (scores : ℕ → Float) (m n id : ℕ) (least : Float) (i : ℕ) → n ≤ i → Leading scores m n id least i → id ≡ m
unfolding leader
lead_end scores m n id least i h l =
    let q : n - i ≡ 0 = omega arith in
    subst (λ (z : ℕ). (leader scores (record { id = id; total = least }) i z).id ≡ m) q l.leads
