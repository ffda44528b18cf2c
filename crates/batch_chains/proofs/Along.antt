-- Along one chain, from the last entry that names the node to the first: the rows still to be walked, put in after those in the list, give all of them.
-- The next entry of a chain is of an earlier row, since no row names an id twice: so there is room for one node of each row.
use Prim.Native.Nat.{ℕ, zero, suc, ◌+◌, ◌-◌, ◌/◌, ◌≤◌, ◌<◌}
use native.Mathlib.Omega.{arith}
use mathlib.Core.Path.{◌≡◌, refl, sym, ap, ◌∙◌}
use mathlib.Core.List.{List, [], ◌∷◌, map}
use lib.ListN.{length, get_or}
use Rattle.laws.specs.Listed.{fresh_width}
use Rattle.scratch.specs.Layout.{heads_at, links_at}
use Rattle.given.specs.Fresh.{Merging, entry, entries_of}
use Rattle.batch_ids.specs.Grown.{grown, wanted, grown_cons}
use Rattle.batch_ids.specs.Says.{Grew}
use Rattle.laws.specs.Rising.{Asc}
use Rattle.batch_chains.specs.Last.{last, last_most, last_is, named_none, named_hit, named_last}
use Rattle.batch_chains.specs.Says.{Chains, sources, NamingAdded}

-- the listed nodes that name the node in the first e entries, put into a list
abbrev with : Merging → ℕ → ℕ → List ℕ → List ℕ
with f node e l = grown (wanted node (sources f node e)) l

-- what is left to be walked, from e - 1 down
pub record Along (f : Merging) (node : ℕ) (l₀ l : List ℕ) (e : ℕ) : Type 0 where
  pub within : e ≤ entries_of f.nodes
  pub hit : (a : ℕ) → suc a ≡ e → entry f.n f.words a ≡ node
  pub rises : Asc l
  pub same : with f node e l ≡ with f node (entries_of f.nodes) l₀
  pub most : length l + (e + (fresh_width - 1)) / fresh_width ≤ length l₀ + length f.nodes

module _ {f : Merging} {node : ℕ} (own : node < f.n) (ch : Chains f) where
  -- entry a of the fresh rows
  abbrev at : ℕ → ℕ
  at = entry f.n f.words

  -- the node at whose row an entry stands
  abbrev whose : ℕ → ℕ
  whose a = get_or f.nodes (a / fresh_width) 0

  sources_last : (e : ℕ) → sources f node (last at node e) ≡ sources f node e
  unfolding sources
  sources_last e = ap (map whose) (named_last at node e)

  sources_hit : (a : ℕ) → at a ≡ node → sources f node (suc a) ≡ whose a ∷ sources f node a
  unfolding sources
  sources_hit a h = ap (map whose) (named_hit at node a h)

  sources_none : sources f node 0 ≡ []
  unfolding sources
  sources_none = ap (map whose) (named_none at node)

  pub along_start : {l₀ : List ℕ} {e heads o : ℕ} → heads ≡ heads_at f.n → o ≡ node → e ≡ get_or f.words (heads + o) 0
      → Asc l₀ → Along f node l₀ l₀ e
  along_start {l₀} {e} {heads} {o} v is q s =
      let here : heads + o ≡ heads_at f.n + node = omega arith in
      let k : e ≡ last at node (entries_of f.nodes) = q ∙ ap (λ (k : ℕ). get_or f.words k 0) here ∙ ch.chained.heads node own in
      let le = last_most at node (entries_of f.nodes) in
      record {
        within = omega arith;
        hit = λ a z. last_is at node (entries_of f.nodes) a (z ∙ k);
        rises = s;
        same = ap (λ (z : List ℕ). grown (wanted node z) l₀) (ap (sources f node) k ∙ sources_last (entries_of f.nodes));
        most = omega arith;
      }

  -- the next entry of the chain is of an earlier row
  earlier : (a e : ℕ) → a < entries_of f.nodes → at a ≡ node → e ≡ last at node a
      → (e + (fresh_width - 1)) / fresh_width ≤ a / fresh_width
  earlier a zero h q k = omega arith
  earlier a (suc b) h q k =
      let le = last_most at node a in
      let hit : at b ≡ node = last_is at node a b k in
      let lt : b < a = omega arith in
      let ne : b / fresh_width ≡ a / fresh_width → ⊥ = λ z. let v = ch.once.apart b a lt h z (hit ∙ sym q) in omega arith in
      omega arith

  -- one entry further: the node of its row went in
  module _ {l₀ l : List ℕ} {e a e' links : ℕ} (s : Along f node l₀ l e) (z : suc a ≡ e) (v : links ≡ links_at f.n)
      (q : e' ≡ get_or f.words (links + a) 0) where
    here : at a ≡ node
    here = s.hit a z

    next : e' ≡ last at node a
    next =
        let wi = s.within in
        let is = here in
        q ∙ ap (λ (k : ℕ). get_or f.words (k + a) 0) v ∙ ch.chained.nexts a (omega arith) (omega arith) ∙ ap (λ (i : ℕ). last at i a) here

    pub along_on : {l' : List ℕ} → Grew (whose a ∷ []) node l l' → Along f node l₀ l' e'
    along_on {l'} g =
        let m = s.most in
        let wi = s.within in
        let le = last_most at node a in
        let k = next in
        let er = earlier a e' (omega arith) here next in
        let gm : length l' ≤ length l + 1 = g.most in
        record {
          within = omega arith;
          hit = λ b v. last_is at node a b (v ∙ next);
          rises = g.holds.rises;
          same =
              ap (λ (i : List ℕ). grown (wanted node i) l') (ap (sources f node) next ∙ sources_last a)
              ∙ ap (grown (wanted node (sources f node a))) g.holds.is
              ∙ sym (grown_cons node (whose a) (sources f node a) l)
              ∙ ap (λ (i : List ℕ). grown (wanted node i) l) (sym (sources_hit a here) ∙ ap (sources f node) z)
              ∙ s.same;
          most = omega arith;
        }

    -- the chain goes down
    pub along_less : e' < e
    along_less = let le = last_most at node a in let k = next in omega arith

  nothing : (acc : List ℕ) → grown (wanted node []) acc ≡ acc
  unfolding grown wanted Rattle.batch_ids.specs.Grown.others Rattle.definition.specs.Tables.ids Rattle.definition.specs.Lists.keep
  nothing acc = refl

  pub along_end : {l₀ l : List ℕ} {e : ℕ} → Along f node l₀ l e → e ≡ 0 → NamingAdded f node l₀ l
  along_end {l₀} {l} {e} s q =
      let m = s.most in
      let left : sources f node e ≡ [] = ap (sources f node) q ∙ sources_none in
      record {
        holds = record {
          is = sym (nothing l) ∙ ap (λ (i : List ℕ). grown (wanted node i) l) (sym left) ∙ s.same;
          rises = s.rises;
        };
        most = omega arith;
      }
