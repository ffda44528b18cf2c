-- The list of the visited grows, one entry after another: its id and its distance go behind those that are there.
use mathlib.Core.Path.{◌≡◌, sym, ap, ◌∙◌, subst₂}
use mathlib.Core.List.{List, [], ◌∷◌, ◌++◌, append_assoc, append-nil}
use Prim.Native.Nat.{ℕ, suc, ◌+◌, ◌-◌, ◌≤◌, ◌<◌}
use native.Mathlib.Nat.{add-zero}
use native.Mathlib.Numerals.{add-one}
use native.Mathlib.Omega.{arith}
use lib.ListN.{length, get_or, take, set, length-set}
use lib.Seq.{length-take-le, take_all, take-suc, take-suc-set}
use Rattle.laws.specs.Parts.{part, part_length, part_set, within_above, within_below, within_none, within_trans, within_wider, set_within}
use Rattle.scratch.specs.Layout.{visited_at, visited_end, visited_dists_at, pool_at}
use Rattle.greedy.specs.Scratch.{Keeps}

-- one more of xs behind the first v + j of a region from a to e
region_more : (words old xs : List ℕ) (a e v j at : ℕ) → at ≡ a + v + j → e ≤ length words → v + j < e - a → j < length xs
    → take (v + j) (part a e words) ≡ old ++ take j xs → take (v + (j + 1)) (part a e (set words at (get_or xs j 0))) ≡ old ++ take (j + 1) xs
region_more words old xs a e v j at q room h k is =
    let x = get_or xs j 0 in
    let m : v + (j + 1) ≡ suc (v + j) = omega arith in
    ap (λ (i : ℕ). take i (part a e (set words at x))) m
    ∙ ap (take (suc (v + j))) (part_set words at x a e (v + j) (omega arith) (omega arith))
    ∙ take-suc-set (part a e words) (v + j) x (omega (arith, part_length a e words room))
    ∙ ap (λ (l : List ℕ). l ++ (x ∷ [])) is
    ∙ append_assoc old (take j xs) (x ∷ [])
    ∙ ap (λ (l : List ℕ). old ++ l) (sym (take-suc xs j 0 k) ∙ ap (λ (i : ℕ). take i xs) (sym (add-one j)))

-- ---- the loop of `keep_each`, where the first j are kept
pub keeps_none : (n v : ℕ) (words : List ℕ) → Keeps n v [] [] words words
keeps_none n v words =
    record {
      ids_are = rw (add-zero v) (sym (append-nil (take v (part (visited_at n) (visited_end n) words))));
      dists_are = rw (add-zero v) (sym (append-nil (take v (part (visited_dists_at n) (pool_at n) words))));
      kept = within_none (visited_at n) (pool_at n) words;
    }

module _ {n v : ℕ} {words₀ words : List ℕ} (ids dists : List ℕ) (j : ℕ) (s : Keeps n v (take j ids) (take j dists) words₀ words)
    (same : length ids ≡ length dists) where
  pub keeps_all : length ids ≤ j → Keeps n v ids dists words₀ words
  keeps_all h = subst₂ (λ (a b : List ℕ). Keeps n v a b words₀ words) (take_all j ids h) (take_all j dists (omega arith)) s

  -- one goes to the places `at` and `far`
  module _ (room : pool_at n ≤ length words₀) (fits : v + length ids ≤ n) (h : j < length ids) (at far : ℕ) (at_is : at ≡ visited_at n + v + j)
      (far-is : far ≡ visited_dists_at n + v + j) where
    abbrev words₁ : List ℕ
    words₁ = set words at (get_or ids j 0)

    abbrev words₂ : List ℕ
    words₂ = set words₁ far (get_or dists j 0)

    abbrev ids_of : List ℕ → List ℕ
    ids_of w = part (visited_at n) (visited_end n) w

    abbrev dists_of : List ℕ → List ℕ
    dists_of w = part (visited_dists_at n) (pool_at n) w

    len : length (take j ids) ≡ j
    len = length-take-le j ids (omega arith)

    len₁ : length (take (j + 1) ids) ≡ j + 1
    len₁ = length-take-le (j + 1) ids (omega arith)

    size₁ : length words₁ ≡ length words₀
    size₁ = length-set words at (get_or ids j 0) ∙ s.kept.size

    ids₁ : take (v + (j + 1)) (ids_of words₁) ≡ take v (ids_of words₀) ++ take (j + 1) ids
    ids₁ =
        region_more words (take v (ids_of words₀)) ids (visited_at n) (visited_end n) v j at at_is (omega (arith, s.kept.size)) (omega arith) h
        (ap (λ (i : ℕ). take (v + i) (ids_of words)) (sym len) ∙ s.ids_are)

    dists₁ : take (v + j) (dists_of words₁) ≡ take v (dists_of words₀) ++ take j dists
    dists₁ =
        ap (take (v + j)) (within_above at (suc at) words words₁ (set_within words at (get_or ids j 0)) (visited_dists_at n) (pool_at n) (omega arith))
        ∙ ap (λ (i : ℕ). take (v + i) (dists_of words)) (sym len) ∙ s.dists_are

    pub keeps_more : Keeps n v (take (j + 1) ids) (take (j + 1) dists) words₀ (set (set words at (get_or ids j 0)) far (get_or dists j 0))
    keeps_more =
        record {
          ids_are =
              ap (λ (i : ℕ). take (v + i) (ids_of words₂)) len₁
              ∙ ap (take (v + (j + 1)))
              (within_below far (suc far) words₁ words₂ (set_within words₁ far (get_or dists j 0)) (visited_at n) (visited_end n) (omega arith))
              ∙ ids₁;
          dists_are =
              ap (λ (i : ℕ). take (v + i) (dists_of words₂)) len₁
              ∙ region_more words₁ (take v (dists_of words₀)) dists (visited_dists_at n) (pool_at n) v j far far-is (omega (arith, size₁)) (omega arith)
              (omega arith) dists₁;
          kept =
              within_trans (visited_at n) (pool_at n) words₀ words₁ words₂
              (within_trans (visited_at n) (pool_at n) words₀ words words₁ s.kept
              (within_wider at (suc at) words words₁ (set_within words at (get_or ids j 0)) (visited_at n) (pool_at n) (omega arith) (omega arith)))
              (within_wider far (suc far) words₁ words₂ (set_within words₁ far (get_or dists j 0)) (visited_at n) (pool_at n) (omega arith) (omega arith));
        }
