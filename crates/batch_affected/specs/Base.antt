-- The base of a node: its seat says whether it was listed, and where its fresh row lies.
use Prim.Native.Nat.{ℕ, zero, suc, ◌+◌, ◌-◌, ◌*◌, ◌≤◌}
use native.Mathlib.Omega.{arith}
use Rattle.std.specs.Prelude.{◌≡◌, refl, Bool, true, false, cond, Option, None, Some, List, [], ◌∷◌, eqb, length, take, drop}
use Rattle.std.proofs.Math.Path.{sym, ap}
use Rattle.std.proofs.Common.{◌∙◌, length-take, drop-drop}
use Rattle.definition.specs.Tables.{ids, row}
use Rattle.definition.specs.Batch.{Setting, base, wide_row, wide_ids}
use Rattle.definition.specs.Slack.{slack}
use Rattle.laws.specs.Listed.{fresh_width, listed_at}
use Rattle.scratch.specs.Layout.{widest, fresh_at, fresh_row_at}
use Rattle.given.specs.Fresh.{Merging, fresh_row, listed_in}
use Rattle.batch_chains.specs.Last.{seat}
use Rattle.batch_chains.specs.Says.{place_word}

seat-above : (us : List ℕ) (i k x : ℕ) → seat us i k ≡ suc x → k ≤ x
unfolding seat
seat-above [] i k x e = absurd (omega arith)
seat-above (u ∷ us) i k x e = go (eqb i u) (seat-above us i (suc k) x) e
  where
    go : (b : Bool) → (seat us i (suc k) ≡ suc x → suc k ≤ x) → cond b (suc k) (seat us i (suc k)) ≡ suc x → k ≤ x
    go true ih q = omega arith
    go false ih q = let y = ih q in omega arith

pub base-none : (g : Setting) (wide nodes t : List ℕ) (i k : ℕ) → seat nodes i k ≡ 0 → base g wide (listed_at nodes t) i ≡ wide_ids g wide i
unfolding base listed_at seat
base-none g wide [] t i k e = refl
base-none g wide (u ∷ us) t i k e = go (eqb i u) (base-none g wide us (drop fresh_width t) i (suc k)) e
  where
    go : (b : Bool) → (seat us i (suc k) ≡ 0 → base g wide (listed_at us (drop fresh_width t)) i ≡ wide_ids g wide i) → cond b (suc k) (seat us i (suc k)) ≡ 0
        → cond b (ids (take fresh_width t)) (base g wide (listed_at us (drop fresh_width t)) i) ≡ wide_ids g wide i
    go true ih q = absurd (omega arith)
    go false ih q = ih q

pub base-at : (g : Setting) (wide nodes t : List ℕ) (i k p : ℕ) → seat nodes i k ≡ suc (k + p)
    → base g wide (listed_at nodes t) i ≡ ids (take fresh_width (drop (p * fresh_width) t))
unfolding base listed_at seat
base-at g wide [] t i k p e = absurd (omega arith)
base-at g wide (u ∷ us) t i k p e = go (eqb i u) p (λ r q. base-at g wide us (drop fresh_width t) i (suc k) r q) e
  where
    Later : ℕ → Type 0
    Later r =
        seat us i (suc k) ≡ suc (suc k + r)
        → base g wide (listed_at us (drop fresh_width t)) i ≡ ids (take fresh_width (drop (r * fresh_width) (drop fresh_width t)))

    go : (b : Bool) (p : ℕ) → ((r : ℕ) → Later r) → cond b (suc k) (seat us i (suc k)) ≡ suc (k + p)
        → cond b (ids (take fresh_width t)) (base g wide (listed_at us (drop fresh_width t)) i) ≡ ids (take fresh_width (drop (p * fresh_width) t))
    go true p ih q = let z : p * fresh_width ≡ 0 = omega arith in rw z refl
    go false zero ih q = let y = seat-above us i (suc k) (k + 0) q in absurd (omega arith)
    go false (suc r) ih q =
        let z : fresh_width + r * fresh_width ≡ suc r * fresh_width = omega arith in
        ih r (q ∙ omega arith) ∙ ap (λ (l : List ℕ). ids (take fresh_width l)) (drop-drop (r * fresh_width) fresh_width t ∙ ap (λ (j : ℕ). drop j t) z)

-- the words of the base of a node, by its place among the listed; `wide` is its row of the wide table
abbrev pub base_words : Option ℕ → ℕ → List ℕ → List ℕ → List ℕ
base_words None n words wide = wide
base_words (Some p) n words wide = fresh_row n p words

-- the base's words for a node of f that has this place
abbrev pub base_of : Merging → List ℕ → ℕ → ℕ → Option ℕ → List ℕ
base_of f wide width node place = base_words place f.n f.words (row width wide node)

module _ (g : Setting) (f : Merging) (wide : List ℕ) (width node : ℕ) (slack-is : width ≡ slack g.degree) where
  -- its fresh row as `listed_at` cuts it off
  row_cut : (p : ℕ) → take fresh_width (drop (p * fresh_width) (drop (fresh_at f.n) f.words)) ≡ fresh_row f.n p f.words
  row_cut p =
      let a : fresh_at f.n + p * fresh_width ≡ fresh_row_at f.n p = omega arith in
      let w : fresh_width ≡ (fresh_row_at f.n p + fresh_width) - fresh_row_at f.n p = omega arith in
      ap (take fresh_width) (drop-drop (p * fresh_width) (fresh_at f.n) f.words ∙ ap (λ (k : ℕ). drop k f.words) a)
      ∙ ap (λ (k : ℕ). take k (drop (fresh_row_at f.n p) f.words)) w

  pub base_words_lem : (place : Option ℕ) → place_word place ≡ seat f.nodes node 0 → base g wide (listed_in f) node ≡ ids (base_of f wide width node place)
  unfolding wide_ids wide_row
  base_words_lem None e =
      base-none g wide f.nodes (drop (fresh_at f.n) f.words) node 0 (sym e)
      ∙ ap (λ (k : ℕ). ids (row k wide node)) (sym slack-is)
  base_words_lem (Some p) e =
      base-at g wide f.nodes (drop (fresh_at f.n) f.words) node 0 p (sym e ∙ omega arith)
      ∙ ap ids (row_cut p)

seat_most : (us : List ℕ) (i k : ℕ) → seat us i k ≤ k + length us
unfolding seat
seat_most [] i k = omega arith
seat_most (u ∷ us) i k = go (eqb i u) (seat_most us i (suc k))
  where
    go : (b : Bool) → seat us i (suc k) ≤ suc k + length us → cond b (suc k) (seat us i (suc k)) ≤ k + suc (length us)
    go true h = omega arith
    go false h = omega arith

pub seat_within : (us : List ℕ) (i : ℕ) → seat us i 0 ≤ length us
seat_within us i = let h = seat_most us i 0 in omega arith

pub base-length : (f : Merging) (wide : List ℕ) (width node : ℕ) (place : Option ℕ) → width ≤ widest → length (base_of f wide width node place) ≤ widest
unfolding row
base-length f wide width node None h = let l = length-take width (drop (node * width) wide) in omega arith
base-length f wide width node (Some p) h =
    let at = fresh_row_at f.n p in
    let l = length-take (at + fresh_width - at) (drop at f.words) in
    omega arith
