-- The row that the ids of a node become: the definition's `fitted`.
use Rattle.std.specs.Prelude.{◌≡◌, refl, Bool, true, false, List, ℕ, ◌≤◌, ◌<◌, leb, length, get_or, replicate}
use Rattle.std.proofs.Common.{sym, ◌∙◌, subst, arith, le-leb, leb-true}
use Rattle.std.proofs.Math.Path.{ap}
use Rattle.std.proofs.Math.Bool.{cond}
use Rattle.std.proofs.lemmas.Bool.{lt-leb}
use Rattle.definition.specs.Metric.{between}
use Rattle.definition.specs.Floats.{nought, one}
use Rattle.definition.specs.Prune.{prune, pruned_from, candidates, measured, target_of, most_rounds}
use Rattle.definition.specs.Slack.{slack}
use Rattle.definition.specs.Batch.{Setting, fitted, prune_ids}
use Rattle.definition.specs.Outcome.{setting_of}
use Rattle.laws.specs.Words.{Below}
use Rattle.given.specs.Given.{Given, setting, Limits}
use Rattle.metric.specs.Exact.{VectorIn, Distances}
use Rattle.metric.specs.Laws.{distances_small, vector_in}
use Rattle.laws.specs.All.{all_of}
use Rattle.laws.specs.Paired.{items_of, items-measured}
use Rattle.prune_pool.specs.Says.{Distinct}
use Rattle.prune.specs.Says.{Measurable}
use Rattle.theory.specs.prune.Pruned.{rounds-room}
use Rattle.table.specs.Rows.{Stretched, stretched_as}

-- the ids as they are if there are at most `width`, otherwise pruned
unfoldable pub fitted_to : Setting → ℕ → ℕ → List ℕ → List ℕ
fitted_to g width i xs = let p = prune_ids g i xs in cond (leb (length xs) width) xs p

-- ids that may be fitted to the row of a node, of `width` words
pub record Fittable (g : Given) (node width : ℕ) (ids : List ℕ) : Type 0 where
  pub limits : Limits g
  pub node_in : node < g.n
  pub ids_in : Below g.n ids
  pub apart : Distinct ids
  pub narrow : g.params.degree ≤ width

-- only the row of the node differs: it is what the ids are fitted to
pub record Fitted (g : Given) (node width : ℕ) (ids table₀ table : List ℕ) : Type 0 where
  pub row : Stretched table₀ table node width (length (fitted_to (setting g) width node ids)) (fitted_to (setting g) width node ids)

module _ (g : Given) (node width : ℕ) (ids table₀ table : List ℕ) {p r : ℕ} (q : p ≡ node) where
  pub fits_short : length ids ≤ width → Stretched table₀ table p width r ids → Fitted g node width ids table₀ table
  unfolding fitted_to
  fits_short h s =
      record {
        row =
            stretched_as table₀ table p node width r ids _ q
            (ap (λ (b : Bool). cond b ids (prune_ids (setting g) node ids)) (sym (le-leb (length ids) width h))) s;
      }

  pub fits_long : {dists : List ℕ} → width < length ids → Distances (between g.dim g.vectors p) ids dists
      → Stretched table₀ table p width r (prune (between g.dim g.vectors) g.params.degree g.params.alpha node (items_of ids dists))
      → Fitted g node width ids table₀ table
  unfolding fitted_to prune_ids setting_of
  fits_long h d s =
      let far = between g.dim g.vectors in
      let items : items_of ids _ ≡ measured (between g.dim g.vectors node) ids =
      ap (items_of ids) d.are ∙ items-measured (far p) ids ∙ ap (λ (k : ℕ). measured (far k) ids) q in
      record {
        row =
            stretched_as table₀ table p node width r _ _ q
            (ap (prune far g.params.degree g.params.alpha node) items
            ∙ ap (λ (b : Bool). cond b ids (prune_ids (setting g) node ids)) (sym (lt-leb (length ids) width h))) s;
      }

-- with the slack for the width this is the definition's `fitted`
pub fitted-slack : (g : Setting) (width i : ℕ) (xs : List ℕ) → width ≡ slack g.degree → fitted_to g width i xs ≡ fitted g i xs
unfolding fitted_to fitted
fitted-slack g width i xs e = ap (λ (k : ℕ). cond (leb (length xs) k) xs (prune_ids g i xs)) e

pruned-few : (g : Setting) (i : ℕ) (xs : List ℕ) → length (prune_ids g i xs) ≤ g.degree
unfolding prune_ids prune pruned_from
pruned-few g i xs =
    let cs = candidates i (measured (g.pair i) xs) in
    rounds-room g.pair (target_of g.alpha) most_rounds one g.degree cs (replicate (length cs) nought)

-- what is fitted fits
pub fitted-few : (g : Setting) (width i : ℕ) (xs : List ℕ) → g.degree ≤ width → length (fitted_to g width i xs) ≤ width
unfolding fitted_to
fitted-few g width i xs h = go (leb (length xs) width) refl
  where
    go : (b : Bool) → leb (length xs) width ≡ b → length (cond b xs (prune_ids g i xs)) ≤ width
    go true e = leb-true (length xs) width e
    go false e = let p = pruned-few g i xs in omega arith

module _ {g : Given} {node width : ℕ} {ids : List ℕ} (f : Fittable g node width ids) where
  reaches : (i : ℕ) → i < g.n → VectorIn g.dim g.vectors i
  reaches i h = vector_in g.dim g.vectors g.n i f.limits.vectors_are h

  pub node_reaches : {p : ℕ} → p ≡ node → VectorIn g.dim g.vectors p
  node_reaches e = subst (VectorIn g.dim g.vectors) (sym e) (reaches node f.node_in)

  pub ids_reach : (k : ℕ) → k < length ids → VectorIn g.dim g.vectors (get_or ids k 0)
  ids_reach k h = reaches (get_or ids k 0) (f.ids_in k h)

  pub as_measurable : (p : ℕ) {dists : List ℕ} → length dists ≡ length ids → Distances (between g.dim g.vectors p) ids dists
      → Measurable g.dim g.vectors ids dists
  as_measurable p e d =
      record {
        same = sym e;
        narrow = f.limits.dim_few;
        rows = all_of (VectorIn g.dim g.vectors) 0 ids ids_reach;
        small = distances_small (between g.dim g.vectors p) ids _ d;
      }
