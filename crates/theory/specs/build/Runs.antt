-- "The order in runs of 256 with the last shorter." The runs of a whole build end: each takes 256 ids of the order or all that are left, so a 256th of the
-- order's length, rounded up, are enough, and the definition's fuel never runs out.
use Prim.Native.Nat.{ℕ, zero, suc, ◌+◌, ◌*◌, ◌/◌, ◌≤◌}
use Rattle.std.proofs.Common.{arith}
use Rattle.std.specs.Prelude.{◌≡◌, length, take, drop}
use Rattle.std.proofs.Math.Path.{refl}
use mathlib.Core.List.{List, [], ◌∷◌}
use Rattle.std.proofs.Math.ListN.{length-drop}
use Rattle.definition.specs.Batch.{Setting, batch}
use Rattle.definition.specs.Build.{open', batch_size, batches, built}

-- what is left of the order after k runs
unfoldable pub order_after : ℕ → List ℕ → List ℕ
order_after zero order = order
order_after (suc k) order = order_after k (drop batch_size order)

pub batches_end : (runs : ℕ) (order : List ℕ) → length order ≤ runs * batch_size → order_after runs order ≡ []
unfolding order_after batch_size
batches_end zero [] h = refl
batches_end zero (u ∷ us) h = absurd (omega arith)
batches_end (suc runs) order h = batches_end runs (drop 256 order) (omega (arith, length-drop 256 order))

-- as many runs as the last, shorter one asks for
pub runs_some : (order : List ℕ) → length order ≤ (length order + 255) / 256 * batch_size
unfolding batch_size
runs_some order = omega arith

-- ---- so more fuel changes nothing

module _ (g : Setting) (start extra : ℕ) where
  -- any two fuels that are enough
  pub batches_same : (f f' : ℕ) (order seeds wide : List ℕ) → length order ≤ f * batch_size → length order ≤ f' * batch_size
      → batches g start extra f order seeds wide ≡ batches g start extra f' order seeds wide
  unfolding batches batch_size
  batches_same zero zero order seeds wide h k = refl
  batches_same zero (suc f') [] seeds wide h k = refl
  batches_same zero (suc f') (u ∷ us) seeds wide h k = absurd (omega arith)
  batches_same (suc f) zero [] seeds wide h k = refl
  batches_same (suc f) zero (u ∷ us) seeds wide h k = absurd (omega arith)
  batches_same (suc f) (suc f') [] seeds wide h k = refl
  batches_same (suc f) (suc f') (u ∷ us) seeds wide h k =
      let l = length-drop 256 (u ∷ us) in
      batches_same f f' (drop 256 (u ∷ us)) (drop (256 * extra) seeds) (batch g start extra (take 256 (u ∷ us)) (take (256 * extra) seeds) wide)
      (omega arith) (omega arith)

  pub batches_enough : (fuel : ℕ) (order seeds wide : List ℕ) → length order ≤ fuel * batch_size
      → batches g start extra fuel order seeds wide ≡ batches g start extra (length order) order seeds wide
  unfolding batch_size
  batches_enough fuel order seeds wide h = batches_same fuel (length order) order seeds wide h (omega arith)

  -- the wide table of a whole build, by just the runs that there are
  pub built_runs : (order seeds opening : List ℕ)
      → built g start extra order seeds opening ≡ batches g start extra ((length order + 255) / 256) order seeds (open' g.n g.degree opening)
  unfolding built batch_size
  built_runs order seeds opening =
      batches_same (length order) ((length order + 255) / 256) order seeds (open' g.n g.degree opening) (omega arith) (omega arith)
