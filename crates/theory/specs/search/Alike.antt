-- Of a row a greedy search reads only the ids, each at its first place, and not the row's own: rows that agree in these give one search.
use Prim.Native.Nat.{ℕ, zero, suc, ◌<◌}
use Rattle.std.specs.Prelude.{◌≡◌, ◌≢◌, Bool, true, false, not, eqb, length}
use Rattle.std.proofs.Math.Path.{refl, ap, sym}
use Rattle.std.proofs.Common.{◌∙◌, eqb-true}
use Rattle.std.proofs.Math.Bool.{cond}
use mathlib.Core.List.{List, [], ◌∷◌, Memᴰ as Mem}
use mathlib.Core.List.Memᴰ.{not-nil}
use Rattle.std.proofs.lemmas.Bool.{eqb-false}
use Rattle.definition.specs.Lists.{keep, is_in, once_only}
use Rattle.definition.specs.Tables.{pad, ids}
use Rattle.definition.specs.Beam.{best}
use Rattle.definition.specs.Greedy.{State, visited_ids, begin, look, expand, popped, step, steps, greedy}
use Rattle.laws.specs.Members.{cons_elim, is_in-mem}
use Rattle.laws.specs.Items.{id_in, best_in}
use Rattle.theory.specs.search.Ground.{Ground}
use Rattle.theory.specs.search.Along.{Invariant, look_cases, look_grows, look_visits, begin_keeps, step_keeps}
use Rattle.theory.specs.search.Ends.{stops_cases}

-- what of row i is read
abbrev pub read_of : ℕ → List ℕ → List ℕ
read_of own words = once_only (own ∷ []) (ids words)

module _ (g : Ground) where
  open g use {d, rows, n, beam, start}

  -- padding, repeats and what was visited before change nothing
  expand_once : (ws seen : List ℕ) (s : State) → ((i : ℕ) → Mem i seen → Mem i (visited_ids s)) → expand d beam s ws ≡ expand d beam s (once_only seen (ids ws))
  unfolding expand once_only ids keep
  expand_once [] seen s known = refl
  expand_once (w ∷ ws) seen s known = by_pad (eqb w pad) refl (λ more t k. expand_once ws more t k)
    where
      Rest : Type 0
      Rest = (more : List ℕ) (t : State) → ((i : ℕ) → Mem i more → Mem i (visited_ids t)) → expand d beam t ws ≡ expand d beam t (once_only more (ids ws))

      by_seen : (b : Bool) → is_in w seen ≡ b → w ≢ pad → Rest
          → expand d beam (look d beam s w) ws ≡ expand d beam s (cond b (once_only seen (ids ws)) (w ∷ once_only (w ∷ seen) (ids ws)))
      by_seen true e no_pad rest =
          let skip : look d beam s w ≡ s = look_cases g (λ t. t ≡ s) s w (λ h. refl) (λ p q. absurd (q (known w (is_in-mem w seen e)))) in
          ap (λ (t : State). expand d beam t ws) skip ∙ rest seen s known
      by_seen false e no_pad rest =
          rest (w ∷ seen) (look d beam s w)
          (cons_elim (λ i. Mem i (visited_ids (look d beam s w))) w seen (look_visits g s w no_pad) (λ i m. look_grows g s w i (known i m)))

      by_pad : (b : Bool) → eqb w pad ≡ b → Rest
          → expand d beam (look d beam s w) ws ≡ expand d beam s (once_only seen (cond (not b) (w ∷ ids ws) (ids ws)))
      by_pad true e rest =
          let skip : look d beam s w ≡ s = look_cases g (λ t. t ≡ s) s w (λ h. refl) (λ p q. absurd (p (eqb-true w pad e))) in
          ap (λ (t : State). expand d beam t ws) skip ∙ rest seen s known
      by_pad false e rest = by_seen (is_in w seen) refl (eqb-false w pad e) rest

  module _ (others : ℕ → List ℕ) (alike : (i : ℕ) → i < n → read_of i (rows i) ≡ read_of i (others i)) where
    -- the best of the frontier was visited, so that its own id is skipped
    step_alike : (s : State) → 0 < length s.frontier → Invariant g s → step d rows beam s ≡ step d others beam s
    unfolding step popped visited_ids
    step_alike s some v =
        let b = best s.frontier in
        let in-visited = v.kept.waiting.seen b (best_in s.frontier some) in
        let known = cons_elim (λ i. Mem i (visited_ids (popped s))) b.id [] (id_in in-visited) (λ i m. absurd (not-nil m)) in
        expand_once (rows b.id) (b.id ∷ []) (popped s) known
        ∙ ap (λ (l : List ℕ). expand d beam (popped s) l) (alike b.id (v.kept.seen.below b in-visited))
        ∙ sym (expand_once (others b.id) (b.id ∷ []) (popped s) known)

    steps_alike : (fuel : ℕ) (s : State) → Invariant g s → steps d rows beam fuel s ≡ steps d others beam fuel s
    unfolding steps
    steps_alike zero s v = refl
    steps_alike (suc fuel) s v =
        stops_cases g (λ b. cond b s (steps d rows beam fuel (step d rows beam s)) ≡ cond b s (steps d others beam fuel (step d others beam s))) s (λ e. refl)
        (λ e some. steps_alike fuel (step d rows beam s) (step_keeps g s some v) ∙ ap (λ (t : State). steps d others beam fuel t) (step_alike s some v))

    pub greedy_alike : greedy d rows n beam start ≡ greedy d others n beam start
    unfolding greedy
    greedy_alike = steps_alike n (begin d beam start) (begin_keeps g)
