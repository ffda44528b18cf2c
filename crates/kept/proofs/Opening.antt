-- The best that is open, as it is looked for: from the place behind those that are known to be walked, up to the first odd key.
use mathlib.Core.Path.{◌≡◌, sym, ap, ◌∙◌}
use mathlib.Core.List.{List}
use Prim.Native.Nat.{ℕ, ◌+◌, ◌-◌, ◌%◌, ◌≤◌, ◌<◌}
use native.Mathlib.Omega.{arith}
use lib.ListN.{length, get_or, take, drop, length-drop}
use lib.Seq.{get_or-drop, get_or-take, length-take-le}
use Rattle.kept.specs.declared.Work.{Work}
use Rattle.kept.specs.Says.{Next}

module _ (keys : List ℕ) (w : Work) (fits : w.len ≤ length keys) (rises : w.done ≤ w.len) where
  -- where it is looked for
  abbrev part : List ℕ
  part = take (w.len - w.done) (drop w.done keys)

  size : length part ≡ w.len - w.done
  size = length-take-le (w.len - w.done) (drop w.done keys) (omega (arith, length-drop w.done keys))

  part_at : (i : ℕ) → i < w.len - w.done → get_or part i 0 ≡ get_or keys (w.done + i) 0
  part_at i h = get_or-take (w.len - w.done) (drop w.done keys) i 0 h ∙ get_or-drop w.done keys i 0

  even : (i : ℕ) → i ≤ w.len - w.done → ((k d : ℕ) → 0 ≤ k → k < i → get_or part k d % 2 ≡ 0)
      → (j : ℕ) → w.done ≤ j → j < w.done + i → get_or keys j 0 % 2 ≡ 0
  even i most all j from below =
      let at : w.done + (j - w.done) ≡ j = omega arith in
      ap (λ (k : ℕ). get_or keys k 0 % 2) (sym at) ∙ ap (λ (k : ℕ). k % 2) (sym (part_at (j - w.done) (omega arith)))
      ∙ all (j - w.done) 0 (omega arith) (omega arith)

  pub open_none : ((k d : ℕ) → 0 ≤ k → k < length part → get_or part k d % 2 ≡ 0) → Next keys w w.len
  open_none all =
      record {
        from = rises;
        to = omega arith;
        walked = λ j h l. even (w.len - w.done) (omega arith) (λ k d a b. all k d a (omega (arith, size))) j h (omega arith);
        odd = λ h. absurd (omega arith);
      }

  pub open_some : (i : ℕ) → i < length part → (get_or part i 0 % 2 ≡ 0 → ⊥) → ((k d : ℕ) → 0 ≤ k → k < i → get_or part k d % 2 ≡ 0)
      → (w.done + i < w.len) × Next keys w (w.done + i)
  open_some i below odd all =
      let in_part : i < w.len - w.done = omega (arith, size) in (
        omega arith,
        record {
          from = omega arith;
          to = omega arith;
          walked = even i (omega arith) all;
          odd = λ h. omega (arith, odd, part_at i in_part);
        },
      )
