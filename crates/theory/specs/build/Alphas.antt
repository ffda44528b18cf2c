-- Alpha stands in the definition only in its target: settings that differ in alpha alone, with one target, prune, batch, run and close alike.
-- An alpha that is not above 1.0 has the target of 1.0.
use Prim.Native.Nat.{ℕ, zero, suc, ◌*◌}
use Rattle.std.proofs.Common.{arith, ◌∙◌, ltb-true, le-ltb}
use Rattle.std.specs.Prelude.{◌≡◌, Bool, true, false, leb, ltb, eqb, length, take, drop, replicate, Float}
use Rattle.std.proofs.Math.Path.{refl, ap}
use Rattle.std.proofs.Math.Bool.{not, cond}
use Rattle.std.proofs.lemmas.Bool.{false≢true}
use mathlib.Core.List.{List, [], ◌∷◌, ◌++◌}
use Rattle.std.specs.Float.{nan, inf, fin}
use Rattle.std.specs.Float.Ieee.{up, down, lt, of_bits}
use Rattle.definition.specs.Lists.{keep, rising, groups}
use Rattle.definition.specs.Tables.{padded, table_of}
use Rattle.definition.specs.Floats.{nought, one, larger}
use Rattle.definition.specs.Slack.{slack}
use Rattle.definition.specs.Prune.{target_of, rounds, most_rounds, candidates, measured, pruned_from, prune}
use Rattle.definition.specs.Batch.{Setting, Listed, prune_ids, wide_row, wide_ids, collected, pool, fresh_of, fresh_rows, naming, affected, base, merged_ids, fitted}
use Rattle.definition.specs.Batch.{merged_row, merged, batch}
use Rattle.definition.specs.Build.{closed_ids, close, batch_size, batches}

-- an alpha below 1.0 is not above it
pub below_not_above : (alpha : Float) → lt alpha one ≡ true → lt one alpha ≡ false
unfolding lt one of_bits
below_not_above nan h = refl
below_not_above (inf true) h = refl
below_not_above (inf false) h = absurd (false≢true h)
below_not_above (fin true m e) h = refl
below_not_above (fin false m e) h = let k = ltb-true (m * up e * 1) (1 * down e) h in le-ltb (1 * down e) (m * up e * 1) (omega arith)

pub target_one : (alpha : Float) → lt one alpha ≡ false → target_of alpha ≡ target_of one
unfolding target_of larger
target_one alpha h = ap (λ (b : Bool). cond b alpha one) h ∙ itself (lt one one)
  where
    itself : (b : Bool) → one ≡ cond b one one
    itself true = refl
    itself false = refl

module _ (n : ℕ) (pair : ℕ → ℕ → ℕ) (degree beam : ℕ) (a b : Float) (same : target_of a ≡ target_of b) where
  abbrev pub by : Float → Setting
  by alpha = record { n = n; pair = pair; degree = degree; beam = beam; alpha = alpha }

  prune_alike : (node : ℕ) (xs : List ℕ) → prune_ids (by a) node xs ≡ prune_ids (by b) node xs
  unfolding prune_ids prune pruned_from
  prune_alike node xs =
      let cs = candidates node (measured (pair node) xs) in
      ap (λ (t : Float). rounds pair t most_rounds one degree cs (replicate (length cs) nought)) same

  pub close_alike : (wide : List ℕ) → close (by a) wide ≡ close (by b) wide
  unfolding close closed_ids wide_ids wide_row
  close_alike wide =
      let ids : ℕ → List ℕ = wide_ids (by a) wide in
      λ k. table_of n (λ i. padded degree (cond (ltb degree (length (ids i))) (prune_alike i (rising (ids i)) k) (ids i)))

  module _ (wide : List ℕ) (start : ℕ) where
    fresh_alike : (us : List ℕ) (gs : List (List ℕ)) → fresh_rows (by a) wide start us gs ≡ fresh_rows (by b) wide start us gs
    unfolding fresh_rows fresh_of pool collected wide_ids wide_row
    fresh_alike [] gs = refl
    fresh_alike (u ∷ us) [] = refl
    fresh_alike (u ∷ us) (s ∷ gs) =
        λ k. record { node = u; fresh = prune_alike u (pool (by a) wide start u s) k } ∷ fresh_alike us gs k

  base_alike : (wide : List ℕ) (ls : List Listed) (i : ℕ) → base (by a) wide ls i ≡ base (by b) wide ls i
  unfolding base wide_ids wide_row
  base_alike wide [] i = refl
  base_alike wide (l ∷ ls) i = ap (λ (r : List ℕ). cond (eqb i l.node) l.fresh r) (base_alike wide ls i)

  fitted_alike : (i : ℕ) (xs : List ℕ) → fitted (by a) i xs ≡ fitted (by b) i xs
  unfolding fitted
  fitted_alike i xs = ap (λ (p : List ℕ). cond (leb (length xs) (slack degree)) xs p) (prune_alike i xs)

  ids_alike : (wide : List ℕ) (ls : List Listed) (i : ℕ) → merged_ids (by a) wide ls i ≡ merged_ids (by b) wide ls i
  unfolding merged_ids
  ids_alike wide ls i = ap (λ (l : List ℕ). rising (keep (λ w. not (eqb w i)) (l ++ naming ls i))) (base_alike wide ls i)

  row_alike : (wide : List ℕ) (ls : List Listed) (i : ℕ) → merged_row (by a) wide ls i ≡ merged_row (by b) wide ls i
  unfolding merged_row wide_row
  row_alike wide ls i =
      ap (λ (l : List ℕ). cond (affected ls i) (padded (slack degree) l) (wide_row (by a) wide i))
      (ap (fitted (by a) i) (ids_alike wide ls i) ∙ fitted_alike i (merged_ids (by b) wide ls i))

  pub batch_alike : (start extra : ℕ) (nodes seeds wide : List ℕ) → batch (by a) start extra nodes seeds wide ≡ batch (by b) start extra nodes seeds wide
  unfolding batch merged
  batch_alike start extra nodes seeds wide =
      ap (merged (by a) wide) (fresh_alike wide start nodes (groups (length nodes) extra seeds))
      ∙ (λ k. table_of n (λ i. row_alike wide (fresh_rows (by b) wide start nodes (groups (length nodes) extra seeds)) i k))

  pub batches_alike : (start extra fuel : ℕ) (order seeds wide : List ℕ)
      → batches (by a) start extra fuel order seeds wide ≡ batches (by b) start extra fuel order seeds wide
  unfolding batches
  batches_alike start extra zero order seeds wide = refl
  batches_alike start extra (suc fuel) [] seeds wide = refl
  batches_alike start extra (suc fuel) (u ∷ us) seeds wide =
      ap (batches (by a) start extra fuel (drop batch_size (u ∷ us)) (drop (batch_size * extra) seeds))
      (batch_alike start extra (take batch_size (u ∷ us)) (take (batch_size * extra) seeds) wide)
      ∙ batches_alike start extra fuel (drop batch_size (u ∷ us)) (drop (batch_size * extra) seeds)
      (batch (by b) start extra (take batch_size (u ∷ us)) (take (batch_size * extra) seeds) wide)
