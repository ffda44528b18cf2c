-- A part of the lent words that was cleared: nothing else differs, and each of its words is 0.
use Rattle.std.specs.Prelude.{ℕ, ◌+◌, ◌-◌, ◌≤◌, ◌<◌, ◌≡◌, List, length, get_or, replicate}
use Rattle.std.proofs.Common.{arith, sym, ap, ◌∙◌}
use Rattle.std.proofs.lemmas.List.{length-replicate, get_or-replicate}
use Rattle.laws.specs.Parts.{part, put, Within, part_length, part_at, put_within, put_part}

module _ (a e : ℕ) (l : List ℕ) {ys : List ℕ} (le : a ≤ e) (fits : e ≤ length l) (zeros : ys ≡ replicate (length (part a e l)) 0) where
  as_long : length ys ≡ length (part a e l)
  as_long = ap length zeros ∙ length-replicate (length (part a e l)) 0

  pub zeroed_within : Within a e l (put a e l ys)
  zeroed_within = put_within a e l ys le fits as_long

  pub zeroed_at : (i : ℕ) → i < e - a → get_or (put a e l ys) (a + i) 0 ≡ 0
  zeroed_at i h =
      let s = part_length a e l fits in
      sym (part_at a e (put a e l ys) i 0 h)
      ∙ ap (λ (z : List ℕ). get_or z i 0) (put_part a e l ys le fits as_long ∙ zeros)
      ∙ get_or-replicate (length (part a e l)) i 0 0 (omega arith)
