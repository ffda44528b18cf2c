-- What the definition makes of an entry that is met, and of entries that are met one after another.
use Rattle.std.specs.Prelude.{◌≡◌, Bool, ◌||◌, cond, List, [], ◌∷◌, ◌++◌, ℕ, ltb, length}
use Rattle.std.proofs.Math.Path.{refl}
use Rattle.std.proofs.Common.{sym, ap, ◌∙◌, append_assoc, append-nil}
use Rattle.definition.specs.Beam.{Item, insert, insert_capped, beats_worst}
use Rattle.definition.specs.Greedy.{State, admitted, meet}
use Rattle.kept.specs.Says.{meets}

-- ---- one entry that is met
module _ (beam : ℕ) (x : Item) (st : State) where
  pub admitted_is : admitted beam x st ≡ (ltb (length st.work) beam || beats_worst x st.work)
  unfolding admitted
  admitted_is = refl

  pub meet_frontier : (t : Bool) → admitted beam x st ≡ t → (meet beam x st).frontier ≡ cond t (insert x st.frontier) st.frontier
  unfolding meet
  meet_frontier t e = rw e refl

  pub meet_work : (t : Bool) → admitted beam x st ≡ t → (meet beam x st).work ≡ cond t (insert_capped beam x st.work) st.work
  unfolding meet
  meet_work t e = rw e refl

  pub meet_visited : (meet beam x st).visited ≡ st.visited ++ (x ∷ [])
  unfolding meet
  meet_visited = refl

-- ---- entries that are met, one after another
pub meets-none : (beam : ℕ) (st : State) → meets beam st [] ≡ st
unfolding meets
meets-none beam st = refl

pub meets-one : (beam : ℕ) (st : State) (x : Item) → meets beam st (x ∷ []) ≡ meet beam x st
unfolding meets
meets-one beam st x = refl

pub meets_more : (beam : ℕ) (st : State) (a b : List Item) → meets beam st (a ++ b) ≡ meets beam (meets beam st a) b
unfolding meets
meets_more beam st [] b = refl
meets_more beam st (x ∷ xs) b = meets_more beam (meet beam x st) xs b

pub meets_visited : (beam : ℕ) (st : State) (l : List Item) → (meets beam st l).visited ≡ st.visited ++ l
unfolding meets
meets_visited beam st [] = sym (append-nil st.visited)
meets_visited beam st (x ∷ xs) =
    meets_visited beam (meet beam x st) xs ∙ ap (λ (z : List Item). z ++ xs) (meet_visited beam x st) ∙ append_assoc st.visited (x ∷ []) xs
