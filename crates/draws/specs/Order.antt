-- An order: the exchanges, and the two parts that are lent for it.
use Rattle.std.specs.Prelude.{◌≡◌, ℕ, suc, ◌+◌, ◌-◌, ◌<◌, ◌≤◌, List, ◌++◌, length, take, drop, set, slice_index, slice_set}
use Rattle.std.proofs.Common.{sym, ap, ◌∙◌, subst, arith, length-set, length-take-le, take_at, drop_at}
use Rattle.std.proofs.lemmas.List.Edits.{swap_is}
use Rattle.std.specs.List.{swap}
use borrow.Rule.Slice.PartMut.{put_mid}
use Rattle.definition.specs.Lists.{upto, over}
use Rattle.definition.specs.Draws.{Drawn, advance, drawn, shuffled, exchanged, order_drawn}
use Rattle.draws.specs.Says.{Leaves}
use Rattle.laws.specs.Members.{length-upto}
use Rattle.laws.specs.Parts.{part}

-- ---- the exchanges: i places are still to be exchanged
pub record Shuffling (o : List ℕ) (s₀ : ℕ) (out : List ℕ) (i s : ℕ) : Type 0 where
  pub size : length out ≡ length o
  pub inside : i < length o
  pub leads : shuffled i out s ≡ shuffled (length o - 1) o s₀

pub shuffle_turn : (o : List ℕ) (s₀ : ℕ) (out : List ℕ) (i s j s' : ℕ) → 0 < i → j ≡ drawn (i + 1) s' → s' ≡ advance s → Shuffling o s₀ out i s
    → Shuffling o s₀ (slice_set (slice_set out i (slice_index out j)) j (slice_index out i)) (i - 1) s'
unfolding shuffled exchanged
shuffle_turn o s₀ out i s j s' h e e' k =
    let w = shuffled (length o - 1) o s₀ in
    let swapped : ℕ → ℕ → List ℕ = λ p d. set (slice_set out p (slice_index out d)) d (slice_index out p) in
    let q : i ≡ suc (i - 1) = omega arith in
    let g : shuffled (suc (i - 1)) out s ≡ w = subst (λ (m : ℕ). shuffled m out s ≡ w) q k.leads in
    let below = k.inside in
    record {
      size = length-set (slice_set out i (slice_index out j)) j (slice_index out i) ∙ length-set out i (slice_index out j) ∙ k.size;
      inside = omega arith;
      leads =
          ap (λ (d : ℕ). shuffled (i - 1) (swapped i d) s') e
          ∙ ap (λ (p : ℕ). shuffled (i - 1) (swapped p (drawn (p + 1) s')) s') q
          ∙ ap (λ (z : ℕ). shuffled (i - 1) (swapped (suc (i - 1)) (drawn (suc (i - 1) + 1) z)) z) e'
          ∙ g;
    }

-- as the code has it: the slice's own exchange
pub swap_turn : (o : List ℕ) (s₀ : ℕ) (out : List ℕ) (i s j s' : ℕ) → 0 < i → j ≤ i → j ≡ drawn (i + 1) s' → s' ≡ advance s → Shuffling o s₀ out i s
    → Shuffling o s₀ (swap out i j) (i - 1) s'
swap_turn o s₀ out i s j s' h l e e' k =
    let is = swap_is out i j 0 (omega (arith, k.size, k.inside)) (omega (arith, k.size, k.inside)) in
    subst (λ (z : List ℕ). Shuffling o s₀ z (i - 1) s') is (shuffle_turn o s₀ out i s j s' h e e' k)

pub shuffle_end : (o : List ℕ) (s₀ : ℕ) (out : List ℕ) (i s : ℕ) → i ≤ 0 → Shuffling o s₀ out i s
    → record { words = out; state = s } ≡ shuffled (length o - 1) o s₀
unfolding shuffled
shuffle_end o s₀ out i s h k =
    let q : i ≡ 0 = omega arith in
    subst (λ (m : ℕ). shuffled m out s ≡ shuffled (length o - 1) o s₀) q k.leads

-- both parts of an order: what the first left is shuffled by the second
pub order_leaves : (n s s' : ℕ) (o ys zs : List ℕ) → n ≤ length o → ys ≡ upto (length (part 0 n o))
    → length zs ≡ length (part 0 n (put_mid 0 (n - 0) o ys))
    → record { words = zs; state = s' } ≡ shuffled (length (part 0 n (put_mid 0 (n - 0) o ys)) - 1) (part 0 n (put_mid 0 (n - 0) o ys)) s
    → Leaves (order_drawn n s) o s' (put_mid 0 (n - 0) (put_mid 0 (n - 0) o ys) zs)
unfolding order_drawn over
order_leaves n s s' o ys zs h up lz is =
    let q : n - 0 ≡ n = omega arith in
    let lo : length (take (n - 0) o) ≡ n = length-take-le (n - 0) o (omega arith) ∙ q in
    let yu : ys ≡ upto n = up ∙ ap upto lo in
    let ly : length ys ≡ n - 0 = ap length yu ∙ length-upto n ∙ sym q in
    let p : take (n - 0) (ys ++ drop (n - 0) o) ≡ ys = take_at ys (drop (n - 0) o) (n - 0) ly in
    let pd : drop (n - 0) (ys ++ drop (n - 0) o) ≡ drop (n - 0) o = drop_at ys (drop (n - 0) o) (n - 0) ly in
    let ln : length ys ≡ n = ly ∙ q in
    let w : record { words = zs; state = s' } ≡ shuffled (n - 1) (upto n) s =
    is ∙ ap (λ (l : List ℕ). shuffled (length l - 1) l s) p ∙ ap (λ (m : ℕ). shuffled (m - 1) ys s) ln ∙ ap (λ (l : List ℕ). shuffled (n - 1) l s) yu in
    let ws : zs ≡ (shuffled (n - 1) (upto n) s).words = ap (λ (d : Drawn). d.words) w in
    let lw : n - 0 ≡ length (shuffled (n - 1) (upto n) s).words = sym ly ∙ sym (lz ∙ ap length p) ∙ ap length ws in
    record {
      words_are =
          ap (λ (l : List ℕ). zs ++ l) pd ∙ ap (λ (l : List ℕ). l ++ drop (n - 0) o) ws ∙ ap (λ (m : ℕ). (shuffled (n - 1) (upto n) s).words ++ drop m o) lw;
      state_is = ap (λ (d : Drawn). d.state) w;
    }
