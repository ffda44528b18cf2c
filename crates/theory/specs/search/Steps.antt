-- One word of a row, by cases: what `meet` leaves; and what a row and a step expand. Proofs cite these and do not open the definition.
use Rattle.std.specs.Prelude.{ℕ, suc, ◌≤◌, ◌<◌, ◌≡◌, Bool, true, false, ◌||◌, cond, ltb, length}
use Rattle.std.proofs.Common.{arith, sym, ap, ◌∙◌, subst, ltb-true, ltb-false}
use Rattle.std.proofs.Math.Path.{refl}
use mathlib.Core.List.{List, [], ◌∷◌, Memᴰ as Mem}
use mathlib.Core.List.Memᴰ.{not-nil}
use Rattle.definition.specs.Beam.{Item, worse, insert, insert_capped, best, beats_worst}
use Rattle.definition.specs.Greedy.{State, admitted, meet, skipped, look, expand, popped, step}
use Rattle.laws.specs.Truth.{either}
use Rattle.laws.specs.Members.{cons_elim}
use Rattle.laws.specs.Sorting.{Ordered, more}
use Rattle.laws.specs.Items.{worse_dist}
use Rattle.laws.specs.Inserts.{capped_room, capped_nearer}

-- the head of a beam is its worst
pub worst-first : {v : Item} {vs : List Item} → Ordered worse (v ∷ vs) → (u : Item) → Mem u (v ∷ vs) → u.dist ≤ v.dist
worst-first {v} {vs} (more l a) u m = cons_elim (λ x. x.dist ≤ v.dist) v vs (omega arith) (λ x h. worse_dist v x (l x h)) u m

-- c goes in, into room or for the worst, or stays out of a full beam in which nobody is farther
pub meet_cases : (P : List Item → List Item → Type 0) (beam : ℕ) (c : Item) (s : State) → length s.work ≤ beam → Ordered worse s.work
    → (length s.work < beam → P (insert c s.frontier) (insert c s.work))
    → ((v : Item) (vs : List Item) → s.work ≡ v ∷ vs → suc (length vs) ≡ beam → c.dist < v.dist → P (insert c s.frontier) (insert c vs))
    → (beam ≤ length s.work → ((u : Item) → Mem u s.work → u.dist ≤ c.dist) → P s.frontier s.work)
    → P (cond (admitted beam c s) (insert c s.frontier) s.frontier) (cond (admitted beam c s) (insert_capped beam c s.work) s.work)
unfolding admitted beats_worst
meet_cases P beam c s most sorted room full out = by_room (ltb (length s.work) beam) refl
  where
    by_worst : (work : List Item) → s.work ≡ work → Ordered worse work → length work ≤ beam → beam ≤ length work
        → P (cond (beats_worst c work) (insert c s.frontier) s.frontier) (cond (beats_worst c work) (insert_capped beam c work) work)
    by_worst [] e o m le = subst (λ (l : List Item). P s.frontier l) e (out (rw e le) (λ u h. absurd (not-nil (subst (λ (l : List Item). Mem u l) e h))))
    by_worst (v ∷ vs) e o m le = go (ltb c.dist v.dist) refl
      where
        go : (b : Bool) → ltb c.dist v.dist ≡ b → P (cond b (insert c s.frontier) s.frontier) (cond b (insert_capped beam c (v ∷ vs)) (v ∷ vs))
        go true p =
            let near = ltb-true c.dist v.dist p in
            let size : suc (length vs) ≡ beam = omega arith in
            subst (λ (l : List Item). P (insert c s.frontier) l) (sym (capped_nearer beam c v vs (omega arith) (omega arith) p)) (full v vs e size near)
        go false p =
            let far = ltb-false c.dist v.dist p in
            subst (λ (l : List Item). P s.frontier l) e
            (out (rw e le) (λ u h. omega (arith, worst-first o u (subst (λ (l : List Item). Mem u l) e h))))

    by_room : (b : Bool) → ltb (length s.work) beam ≡ b
        → P (cond (b || beats_worst c s.work) (insert c s.frontier) s.frontier)
        (cond (b || beats_worst c s.work) (insert_capped beam c s.work) s.work)
    by_room true p =
        let h = ltb-true (length s.work) beam p in
        subst (λ (l : List Item). P (insert c s.frontier) l) (sym (capped_room beam c s.work h)) (room h)
    by_room false p = by_worst s.work refl sorted most (ltb-false (length s.work) beam p)

-- ---- a row expands nobody, and a step the best of the frontier

module _ (d : ℕ → ℕ) (beam : ℕ) where
  pub look_expanded : (s : State) (w : ℕ) → (look d beam s w).expanded ≡ s.expanded
  unfolding look meet
  look_expanded s w = either (λ (t : State). t.expanded ≡ s.expanded) (skipped s w) refl refl

  pub expand_expanded : (ws : List ℕ) (s : State) → (expand d beam s ws).expanded ≡ s.expanded
  unfolding expand
  expand_expanded [] s = refl
  expand_expanded (w ∷ ws) s = expand_expanded ws (look d beam s w) ∙ look_expanded s w

  module _ (rows : ℕ → List ℕ) (s : State) where
    pub step_expands : (step d rows beam s).expanded ≡ (best s.frontier).id ∷ s.expanded
    unfolding step popped
    step_expands = expand_expanded (rows (best s.frontier).id) (popped s)

    pub step_expanded : length (step d rows beam s).expanded ≡ suc (length s.expanded)
    step_expanded = ap length step_expands
