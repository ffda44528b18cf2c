-- What the build rule gives of a row: ids that are apart, then padding.
use Rattle.std.specs.Prelude.{ℕ, ◌+◌, ◌-◌, ◌≤◌, ◌<◌, ◌≡◌, true, not, ◌&&◌}
use native.Mathlib.Omega.{arith}
use Rattle.std.proofs.Math.Path.{ap}
use Rattle.std.proofs.Common.{◌∙◌}
use mathlib.Core.List.{List, ◌++◌, append_assoc}
use Rattle.std.proofs.Math.Dec.{ltb}
use Rattle.std.proofs.Math.ListN.{length, replicate}
use Rattle.std.proofs.lemmas.List.{replicate-append-replicate}
use Rattle.definition.specs.Lists.{each, upto, is_in, distinct}
use Rattle.definition.specs.Tables.{pad, row, ids, padded, ids_first, build_row, build_rule}
use Rattle.laws.specs.Truth.{and_both}
use Rattle.laws.specs.Members.{each_run}
use Rattle.laws.specs.Apart.{Apart, distinct_apart}
use Rattle.laws.specs.Tables.{ids-few, ids_split}

pub rule_row : (n width : ℕ) (table : List ℕ) (i : ℕ) → build_rule n width table ≡ true → i < n → build_row n i (row width table i) ≡ true
unfolding build_rule upto
rule_row n width table i r h = each_run (λ k. build_row n k (row width table k)) 0 n i r (omega arith) (omega arith)

module _ (n own : ℕ) (words : List ℕ) (r : build_row n own words ≡ true) where
  first_two : (ids_first words ≡ true) × (distinct (ids words) ≡ true)
  unfolding build_row
  first_two =
      let a = ids_first words && distinct (ids words) in
      let b = each (λ w. ltb w n) (ids words) in
      and_both (ids_first words) (distinct (ids words)) (and_both a b (and_both (a && b) (not (is_in own (ids words))) r).0).0

  pub row_apart : Apart (ids words)
  row_apart = distinct_apart (ids words) first_two.1

  -- a row with more padding after it is its ids with padding
  pub row_wider : (width : ℕ) → length words ≤ width → padded width words ≡ padded width (ids words)
  unfolding padded
  row_wider width h =
      let few = ids-few words in
      let q : (length words - length (ids words)) + (width - length words) ≡ width - length (ids words) = omega arith in
      ap (λ (l : List ℕ). l ++ replicate (width - length words) pad) (ids_split words first_two.0)
      ∙ append_assoc (ids words) (replicate (length words - length (ids words)) pad) (replicate (width - length words) pad)
      ∙ ap (λ (l : List ℕ). ids words ++ l)
      (replicate-append-replicate (length words - length (ids words)) (width - length words) pad ∙ ap (λ (k : ℕ). replicate k pad) q)
