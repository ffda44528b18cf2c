-- Drawn opening rows keep the build rule: they pass 8. And each has as many ids as it can: min(degree, n-1).
use Prim.Native.Nat.{ℕ, zero, suc, ◌+◌, ◌-◌, ◌*◌, ◌%◌, ◌≤◌, ◌<◌, min, zero-le}
use Rattle.std.proofs.Common.{one-mul, zero-mul, mod-lt, mod-eq_of_lt, arith, sym, ap, ap₂, ◌∙◌, leb-true, leb-false, eq-eqb, take_all}
use Rattle.std.specs.Prelude.{◌≡◌, refl, not, List, [], ◌++◌, map, leb, eqb, length, take, drop, replicate}
use Rattle.std.proofs.Math.Path.{subst}
use mathlib.Core.List.Memᴰ.{not-nil}
use mathlib.Core.List.Memᴰ.{of_map}
use Rattle.std.proofs.lemmas.List.{length-replicate}
use Rattle.definition.specs.Lists.{joined, run, upto}
use Rattle.definition.specs.Tables.{pad, row, ids, padded, table_of}
use Rattle.definition.specs.Draws.{Drawn, advance, drawn, row_ids, row_drawn, rows_from, rows_drawn}
use Rattle.laws.specs.Truth.{branch}
use Rattle.laws.specs.Members.{run-mem, run-same, replicate_mem, keep_none}
use Rattle.laws.specs.Apart.{nobody, apart-map, apart-run}
use Rattle.laws.specs.Tables.{row-mem, row_table_of, ids-of}
use Rattle.laws.specs.Draws.{length_ids, length-row}
use Rattle.laws.specs.Remainders.{window, window-one}
use Rattle.theory.specs.Kept.{RowKept, TableKept}
use Rattle.theory.specs.draws.States.{after}
use Rattle.theory.specs.Rule.{Fit, padded_kept, kept_table}

-- ---- the ids of one row

module _ (n i r : ℕ) (more : 1 < n) (own : i < n) where
  -- a step of less than n - 1 beyond the next
  away : (j : ℕ) → (r + j) % (n - 1) < n - 1
  away j = mod-lt (r + j) (omega arith)

  id_other : (j : ℕ) → i ≡ (i + 1 + (r + j) % (n - 1)) % n → ⊥
  id_other j e = let l = away j in window n i (i + 1 + (r + j) % (n - 1)) (omega arith) (omega arith) (mod-eq_of_lt own ∙ e)

  -- two ids that are equal come of equal steps, and those of one place
  id_once : (a b : ℕ) → a < n - 1 → b < n - 1 → (i + 1 + (r + a) % (n - 1)) % n ≡ (i + 1 + (r + b) % (n - 1)) % n → a ≡ b
  id_once a b ha hb e =
      let la = away a in
      let lb = away b in
      let steps : i + 1 + (r + a) % (n - 1) ≡ i + 1 + (r + b) % (n - 1) =
      window-one n (i + 1) (i + 1 + (r + a) % (n - 1)) (i + 1 + (r + b) % (n - 1)) (omega arith) (omega arith) (omega arith) (omega arith) e in
      let places = window-one (n - 1) r (r + a) (r + b) (omega arith) (omega arith) (omega arith) (omega arith) (omega arith) in
      omega arith

  ids_fit : (m : ℕ) → m ≤ n - 1 → Fit n i (row_ids n i r (upto m))
  unfolding row_ids upto
  ids_fit m h =
      let f : ℕ → ℕ = λ j. (i + 1 + (r + j) % (n - 1)) % n in
      record {
        below = λ x e. let t = of_map f (run 0 m) e in subst (λ (z : ℕ). z < n) t.2 (mod-lt (i + 1 + (r + t.0) % (n - 1)) (omega arith));
        not_own = λ e. let t = of_map f (run 0 m) e in id_other t.0 (sym t.2);
        once = apart-map f (λ a b p q e. let x = run-mem 0 m p in let y = run-mem 0 m q in id_once a b (omega arith) (omega arith) e) (apart-run 0 m);
      }

row_kept : (n degree i s : ℕ) → 1 < n → i < n → RowKept n degree i (row_drawn n degree i s)
unfolding row_drawn
row_kept n degree i s more own =
    let r = drawn (n - 1) s in
    let m = min degree (n - 1) in
    let l = length_ids n i r m in
    padded_kept n degree i (row_ids n i r (upto m)) (ids_fit n i r more own m (omega arith)) (omega arith)

-- ---- the table

-- row j of those from row i on, which are drawn from state s
drawn_row : ℕ → ℕ → ℕ → ℕ → ℕ → List ℕ
drawn_row n degree i s j = row_drawn n degree j (after (suc (j - i)) s)

rows_are : (n degree i k s : ℕ) → (rows_from n degree i k s).words ≡ joined (map (drawn_row n degree i s) (run i k))
unfolding rows_from joined run after drawn_row
rows_are n degree i zero s = refl
rows_are n degree i (suc k) s =
    let z : i - i ≡ 0 = omega arith in
    let first : row_drawn n degree i (advance s) ≡ row_drawn n degree i (after (i - i) (advance s)) = ap
    (λ (m : ℕ). row_drawn n degree i (after m (advance s))) (sym z) in
    let rest : map (drawn_row n degree (suc i) (advance s)) (run (suc i) k) ≡ map (drawn_row n degree i s) (run (suc i) k) =
    run-same (drawn_row n degree (suc i) (advance s)) (drawn_row n degree i s) (suc i) k
    (λ j lo hi. let q : suc (j - suc i) ≡ j - i = omega arith in ap (λ (m : ℕ). row_drawn n degree j (after m (advance s))) q) in
    ap₂ (λ (x y : List ℕ). x ++ y) first (rows_are n degree (suc i) k (advance s) ∙ ap joined rest)

many_kept : (n degree s : ℕ) → 1 < n → TableKept n degree (rows_from n degree 0 n s).words
unfolding table_of upto drawn_row
many_kept n degree s more =
    subst (λ (t : List ℕ). TableKept n degree t) (sym (rows_are n degree 0 n s))
    (kept_table n degree (drawn_row n degree 0 s) (λ i h. row_kept n degree i (after (suc (i - 0)) s) more h))

one_kept : (n degree : ℕ) → n ≡ 1 → TableKept n degree (replicate (n * degree) pad)
unfolding row padded
one_kept n degree e =
    record {
      size = length-replicate (n * degree) pad;
      rows = λ i h.
          let z : i ≡ 0 = omega arith in
          let m : n * degree ≡ degree - 0 = ap (λ (x : ℕ). x * degree) e ∙ one-mul degree ∙ omega arith in
          let l = length-replicate (n * degree) pad in
          let q : take degree (drop (i * degree) (replicate (n * degree) pad)) ≡ replicate (degree - 0) pad =
          ap (λ (x : ℕ). take degree (drop (x * degree) (replicate (n * degree) pad))) z ∙ ap
          (λ (x : ℕ). take degree (drop x (replicate (n * degree) pad))) (zero-mul degree)
          ∙ take_all degree (replicate (n * degree) pad) (omega arith) ∙ ap (λ (x : ℕ). replicate x pad) m in
          subst (λ (w : List ℕ). RowKept n degree i w) (sym q)
          (padded_kept n degree i [] (record { below = λ x b. absurd (not-nil b); not_own = λ b. not-nil b; once = nobody }) zero-le);
    }

pub rows_kept : (n degree s : ℕ) → 0 < n → TableKept n degree (rows_drawn n degree s).words
unfolding rows_drawn
rows_kept n degree s h =
    branch (λ (d : Drawn). TableKept n degree d.words) (leb n 1) (λ e. let l = leb-true n 1 e in one_kept n degree (omega arith))
    (λ e. many_kept n degree s (leb-false n 1 e))

-- ---- how many ids

row_full : (n degree i s : ℕ) → 1 < n → i < n → n < pad → length (ids (row_drawn n degree i s)) ≡ min degree (n - 1)
unfolding row_drawn padded
row_full n degree i s more own low =
    let m = min degree (n - 1) in
    let xs = row_ids n i (drawn (n - 1) s) (upto m) in
    let fit = ids_fit n i (drawn (n - 1) s) more own m (omega arith) in
    ap length (ids-of xs (degree - length xs) (λ x h e. let b = fit.below x h in omega arith)) ∙ length_ids n i (drawn (n - 1) s) m

many_full : (n degree s : ℕ) → 1 < n → n < pad → (i : ℕ) → i < n → length (ids (row degree (rows_from n degree 0 n s).words i)) ≡ min degree (n - 1)
unfolding table_of upto drawn_row
many_full n degree s more low i h =
    let wide : (j : ℕ) → j < n → length (drawn_row n degree 0 s j) ≡ degree = λ j b. length-row n degree j (after (suc (j - 0)) s) in
    ap (λ (t : List ℕ). length (ids (row degree t i))) (rows_are n degree 0 n s)
    ∙ ap (λ (w : List ℕ). length (ids w)) (row_table_of n degree (drawn_row n degree 0 s) wide i h)
    ∙ row_full n degree i (after (suc (i - 0)) s) more h low

-- of nothing but padding
one_full : (n degree k i : ℕ) → n ≡ 1 → length (ids (row degree (replicate k pad) i)) ≡ min degree (n - 1)
unfolding ids
one_full n degree k i e =
    let none = keep_none (λ w. not (eqb w pad)) (row degree (replicate k pad) i)
    (λ w m. ap not (eq-eqb w pad (replicate_mem k pad (row-mem degree (replicate k pad) i m)))) in
    ap length none ∙ omega arith

pub rows_full : (n degree s : ℕ) → 0 < n → n < pad → (i : ℕ) → i < n → length (ids (row degree (rows_drawn n degree s).words i)) ≡ min degree (n - 1)
unfolding rows_drawn
rows_full n degree s some low i h =
    branch (λ (d : Drawn). length (ids (row degree d.words i)) ≡ min degree (n - 1)) (leb n 1)
    (λ e. let l = leb-true n 1 e in one_full n degree (n * degree) i (omega arith))
    (λ e. many_full n degree s (leb-false n 1 e) low i h)
