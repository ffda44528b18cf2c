-- A node is affected if its chain is not empty or it has a seat.
use Rattle.std.specs.Prelude.{ℕ, zero, suc, ◌+◌, ◌/◌, ◌≤◌, ◌≡◌, refl, Bool, true, false, ◌||◌, cond, eqb, length, get_or, drop}
use Rattle.std.proofs.Common.{arith, sym, ◌∙◌, ne_eqb}
use Rattle.std.proofs.Math.Path.{ap}
use Rattle.std.proofs.Math.Bool.{not}
use mathlib.Core.List.Memᴰ.{head as here}
use mathlib.Core.List.Memᴰ.{not-nil}
use mathlib.Core.List.{List, [], ◌∷◌, ◌++◌, map}
use Rattle.definition.specs.Lists.{is_in, keep, rising}
use Rattle.definition.specs.Tables.{pad, ids}
use Rattle.definition.specs.Batch.{Setting, Listed, naming, is_listed, affected, base, wide_row, wide_ids, merged_ids}
use Rattle.laws.specs.Listed.{fresh_width, listed_at}
use Rattle.laws.specs.Members.{Same}
use Rattle.scratch.specs.Layout.{fresh_at}
use Rattle.given.specs.Fresh.{Merging, entry, entries_of, listed_in}
use Rattle.batch_chains.specs.Last.{last, named, seat}
use Rattle.batch_chains.specs.Says.{sources}
use Rattle.batch_affected.specs.Naming.{sources_naming}

-- the seat says whether it is listed
pub seat-listed : (nodes t : List ℕ) (i k : ℕ) → is_listed (listed_at nodes t) i ≡ not (eqb (seat nodes i k) 0)
unfolding is_listed is_in listed_at seat
seat-listed [] t i k = refl
seat-listed (u ∷ us) t i k = go (eqb i u) (seat-listed us (drop fresh_width t) i (suc k))
  where
    later : Bool
    later = is_listed (listed_at us (drop fresh_width t)) i

    go : (b : Bool) → later ≡ not (eqb (seat us i (suc k)) 0) → (b || later) ≡ not (eqb (cond b (suc k) (seat us i (suc k))) 0)
    go true h = let ne : suc k ≡ 0 → ⊥ = λ e. omega arith in rw (ne_eqb (suc k) 0 ne) refl
    go false h = h

same_empty : (xs ys : List ℕ) → Same xs ys → eqb (length xs) 0 ≡ eqb (length ys) 0
same_empty [] [] s = refl
same_empty [] (y ∷ ys) s = absurd (not-nil (s.from y (here refl)))
same_empty (x ∷ xs) [] s = absurd (not-nil (s.to x (here refl)))
same_empty (x ∷ xs) (y ∷ ys) s =
    let n : suc (length xs) ≡ 0 → ⊥ = λ e. omega arith in
    let m : suc (length ys) ≡ 0 → ⊥ = λ e. omega arith in
    rw (ne_eqb (suc (length xs)) 0 n, ne_eqb (suc (length ys)) 0 m) refl

named_empty : (f : ℕ → ℕ) (i m : ℕ) → eqb (length (named f i m)) 0 ≡ eqb (last f i m) 0
unfolding named last
named_empty f i zero = refl
named_empty f i (suc m) = go (eqb (f m) i) (named_empty f i m)
  where
    go : (b : Bool) → eqb (length (named f i m)) 0 ≡ eqb (last f i m) 0
        → eqb (length (cond b (m ∷ named f i m) (named f i m))) 0 ≡ eqb (cond b (suc m) (last f i m)) 0
    go true h =
        let n : suc (length (named f i m)) ≡ 0 → ⊥ = λ e. omega arith in
        let k : suc m ≡ 0 → ⊥ = λ e. omega arith in
        rw (ne_eqb (suc (length (named f i m))) 0 n, ne_eqb (suc m) 0 k) refl
    go false h = h

map-size : (g : ℕ → ℕ) (xs : List ℕ) → length (map g xs) ≡ length xs
map-size g [] = refl
map-size g (x ∷ xs) = ap suc (map-size g xs)

-- the chain says whether it is named
pub affected_is : (f : Merging) (i : ℕ) → (i ≡ pad → ⊥) → fresh_at f.n + entries_of f.nodes ≤ length f.words
    → affected (listed_in f) i ≡ (not (eqb (seat f.nodes i 0) 0) || not (eqb (last (entry f.n f.words) i (entries_of f.nodes)) 0))
unfolding affected sources
affected_is f i id fits =
    let at = entry f.n f.words in
    let m = entries_of f.nodes in
    let chain : eqb (length (naming (listed_in f) i)) 0 ≡ eqb (last (entry f.n f.words) i (entries_of f.nodes)) 0 =
    sym (same_empty _ _ (sources_naming f i id fits))
    ∙ ap (λ (k : ℕ). eqb k 0) (map-size (λ e. get_or f.nodes (e / fresh_width) 0) (named at i m))
    ∙ named_empty at i m in
    rw (seat-listed f.nodes (drop (fresh_at f.n) f.words) i 0, chain) refl

-- ---- the merged ids of a node depend on its own row of the wide table alone
module _ (g : Setting) (wide wide' : List ℕ) where
  base_alone : (ls : List Listed) (i : ℕ) → wide_row g wide i ≡ wide_row g wide' i → base g wide ls i ≡ base g wide' ls i
  unfolding base wide_ids
  base_alone [] i e = ap ids e
  base_alone (l ∷ ls) i e = ap (cond (eqb i l.node) l.fresh) (base_alone ls i e)

  pub merged_alone : (ls : List Listed) (i : ℕ) → wide_row g wide i ≡ wide_row g wide' i → merged_ids g wide ls i ≡ merged_ids g wide' ls i
  unfolding merged_ids
  merged_alone ls i e = ap (λ (b : List ℕ). rising (keep (λ w. not (eqb w i)) (b ++ naming ls i))) (base_alone ls i e)
