-- The medoid's score: "f32 distances to the pivots added in pivot order, rounding at each sum. Exact when dim is at most 32; otherwise within 21 of the exact
-- sum." And the choice: "least score wins, lower id on equality", of the f32 scores for every accepted call, and so of the exact sums where they are exact,
-- and within 42 of the least exact sum beyond. (Of an accepted call dim is at most 256, there are at most 8 pivots, and the vectors are bytes.)
use Rattle.std.specs.Prelude.{ℕ, ◌+◌, ◌≤◌, ◌<◌, ◌≡◌, true, false, ltb, Float}
use native.Mathlib.Omega.{arith}
use Rattle.std.proofs.Common.{sym, ap, ap₂, ◌∙◌, lt-ltb, le-ltb}
use Rattle.std.proofs.Math.Path.{subst}
use Rattle.std.specs.Float.Ieee.{lt}
use Rattle.definition.specs.Metric.{whole, between}
use Rattle.definition.specs.Floats.{nought}
use Rattle.definition.specs.Medoid.{score, medoid}
use Rattle.definition.specs.Refusals.{MedoidCall, medoid_number}
use Rattle.definition.specs.Outcome.{answer, refused, medoid_out}
use Rattle.definition.specs.declared.Answer.{Answer}
use Rattle.whole.specs.Whole.{limit}
use Rattle.whole.specs.Values.{lt_values}
use Rattle.whole.specs.Order.{lt_whole}
use Rattle.whole.specs.Sums.{Within}
use Rattle.whole.specs.Eight.{exact_score}
use Rattle.theory.specs.Metric.{Bytes}
use Rattle.theory.specs.Medoid.{Least, exact_score_most, medoid_exact, medoid_within, chosen_least}
use Rattle.accepted.specs.Outcomes.{by_success}
use Rattle.accepted.specs.Medoid.{medoid-accepted}

-- m is the entry of the least f32, the lower id on equality. (Each score is a whole number, by medoid-within: no NaN is among them, and `lt` is their order.)
pub record LeastScore (scores : ℕ → Float) (n m : ℕ) : Type 0 where
  pub inside : m < n
  pub least : (j : ℕ) → j < n → lt (scores j) (scores m) ≡ false
  pub first : (j : ℕ) → j < m → lt (scores m) (scores j) ≡ true

-- ---- of an accepted call
module _ (c : MedoidCall) (bytes : Bytes c.vectors) (e : medoid_number c ≡ 0) where
  pub medoid_call_within : (i : ℕ)
      → Within (exact_score (between c.dim c.vectors) c.pivots i) 21 (score (between c.dim c.vectors) c.pivots i)
  medoid_call_within i = let a = medoid-accepted c e in medoid_within c.dim c.vectors c.pivots i a.entries.dim_few a.pivots.few bytes

  pub medoid_call_exact : c.dim ≤ 32 → (i : ℕ)
      → score (between c.dim c.vectors) c.pivots i ≡ whole (exact_score (between c.dim c.vectors) c.pivots i)
  medoid_call_exact small i = medoid_exact c.dim c.vectors c.pivots i small (medoid-accepted c e).pivots.few bytes

  -- what is answered is what the definition chooses
  chosen : (f : ℕ → ℕ) → Least f c.n (medoid (between c.dim c.vectors) c.pivots c.n) → Least f c.n (medoid_out c).id
  unfolding medoid_out answer
  chosen f l =
      let id = medoid (between c.dim c.vectors) c.pivots c.n in
      subst (Least f c.n) (sym (ap (λ (r : Answer). r.id) (by_success (refused (medoid_number c)) (answer 0 0 id 0 nought) (medoid_number c) e))) l

  -- the number that a score is
  rounded : ℕ → ℕ
  rounded i = (medoid_call_within i).to

  rounded_alike : (a b : ℕ)
      → lt (score (between c.dim c.vectors) c.pivots a) (score (between c.dim c.vectors) c.pivots b) ≡ ltb (rounded a) (rounded b)
  unfolding rounded
  rounded_alike a b =
      let w = medoid_call_within a in
      let v = medoid_call_within b in
      let pair = between c.dim c.vectors in
      lt_values (score pair c.pivots a) (score pair c.pivots b) w.to v.to w.value v.value

  rounded_least : Least rounded c.n (medoid_out c).id
  rounded_least =
      let some = (medoid-accepted c e).entries.nodes_some in
      chosen rounded (chosen_least rounded (between c.dim c.vectors) c.pivots rounded_alike c.n some)

  -- least score wins, lower id on equality
  pub medoid_least_score : LeastScore (score (between c.dim c.vectors) c.pivots) c.n (medoid_out c).id
  medoid_least_score =
      let l = rounded_least in
      let m = (medoid_out c).id in
      record {
        inside = l.inside;
        least = λ j h. rounded_alike j m ∙ le-ltb (rounded j) (rounded m) (l.least j h);
        first = λ j h. rounded_alike m j ∙ lt-ltb (rounded m) (rounded j) (l.first j h);
      }

  -- its exact sum is at most 42 above any other: the score of each is off by at most 21
  pub medoid_near : (j : ℕ) → j < c.n
      → exact_score (between c.dim c.vectors) c.pivots (medoid_out c).id ≤ exact_score (between c.dim c.vectors) c.pivots j + 42
  unfolding rounded
  medoid_near j h =
      let l = rounded_least.least j h in
      let a = (medoid_call_within (medoid_out c).id).below in
      let b = (medoid_call_within j).above in
      omega arith

  -- where it is exact, the least exact sum wins
  pub medoid_least : c.dim ≤ 32 → Least (exact_score (between c.dim c.vectors) c.pivots) c.n (medoid_out c).id
  medoid_least small =
      let pair = between c.dim c.vectors in
      let sums = exact_score pair c.pivots in
      let a = medoid-accepted c e in
      let most : (i : ℕ) → sums i ≤ limit = λ i. exact_score_most c.dim c.vectors c.pivots i small a.pivots.few bytes in
      let alike : (i j : ℕ) → lt (score pair c.pivots i) (score pair c.pivots j) ≡ ltb (sums i) (sums j) =
      λ i j. ap₂ lt (medoid_call_exact small i) (medoid_call_exact small j) ∙ lt_whole (sums i) (sums j) (most i) (most j) in
      chosen sums (chosen_least sums pair c.pivots alike c.n a.entries.nodes_some)
