-- Parts of a list that are lent and come back: what is in the part, and that nothing else differs. First, two laws of what is cut off.
-- `put_mid a (e - a) xs ys` is how the borrow checker writes the list xs after `&mut s[a..e]` came back as ys.
use Rattle.std.specs.Prelude.{◌≡◌, refl, List, [], ◌∷◌, ◌++◌, ℕ, zero, suc, ◌+◌, ◌-◌, ◌≤◌, ◌<◌, length, get_or, take, drop, set}
use Rattle.std.proofs.Common.{sym, ap, ◌∙◌, arith, length-set, take-take, drop-drop, take_at, drop_at, length-take-le, get_or-take, get_or-drop, drop-set-lt}
use Rattle.std.proofs.Math.Nat.{sub-zero, zero-sub, suc-sub-suc}
use Rattle.std.proofs.Math.Seq.{take-nil, drop-nil, take-set-lt}
use Rattle.std.proofs.lemmas.List.{take-set-le, drop-set-add}
use borrow.Rule.Slice.PartMut.{put_mid, same_len_mid, mid_len, take_put, drop_put}

module _ {A : Type 0} where
  -- what is left of the first n places
  pub drop_take : (k n : ℕ) (l : List A) → drop k (take n l) ≡ take (n - k) (drop k l)
  drop_take zero n l = rw (sub-zero n) refl
  drop_take (suc k) zero l = rw (zero-sub (suc k)) refl
  drop_take (suc k) (suc n) [] = drop-nil (suc k) ∙ sym (take-nil (suc n - suc k))
  drop_take (suc k) (suc n) (x ∷ xs) = rw (suc-sub-suc n k) (drop_take k n xs)

  -- lists that agree from m on agree from n on
  pub drop_more : (m n : ℕ) (a b : List A) → m ≤ n → drop m a ≡ drop m b → drop n a ≡ drop n b
  drop_more m n a b h e =
      let q : n ≡ m + (n - m) = omega arith in
      rw (q, ← drop-drop (n - m) m a, ← drop-drop (n - m) m b) (ap (drop (n - m)) e)

-- the places from a up to e
abbrev pub part : {A : Type 0} → ℕ → ℕ → List A → List A
part a e l = take (e - a) (drop a l)

-- the list after that part was lent and came back as ys
abbrev pub put : {A : Type 0} → ℕ → ℕ → List A → List A → List A
put a e l ys = put_mid a (e - a) l ys

-- nothing but the places from a up to e differs
pub record Within {A : Type 0} (a e : ℕ) (l₀ l : List A) : Type 0 where
  pub size : length l ≡ length l₀
  pub below : take a l ≡ take a l₀
  pub above : drop e l ≡ drop e l₀

pub part_length : {A : Type 0} (a e : ℕ) (l : List A) → e ≤ length l → length (part a e l) ≡ e - a
part_length a e l h = mid_len a e l h

-- a part at the front
pub part-front : {A : Type 0} (e : ℕ) (l : List A) → part 0 e l ≡ take e l
part-front e l = rw (sub-zero e) refl

pub part_front_length : {A : Type 0} (e : ℕ) (l : List A) → e ≤ length l → length (part 0 e l) ≡ e
part_front_length e l h = part_length 0 e l h ∙ sub-zero e

module _ {A : Type 0} (a e : ℕ) (l₀ l : List A) (w : Within a e l₀ l) where
  pub within_below : (b f : ℕ) → f ≤ a → part b f l ≡ part b f l₀
  within_below b f h =
      sym (drop_take b f l) ∙ ap (drop b) (sym (take-take f a l h) ∙ ap (take f) w.below ∙ take-take f a l₀ h) ∙ drop_take b f l₀

  pub within_above : (b f : ℕ) → e ≤ b → part b f l ≡ part b f l₀
  within_above b f h = ap (take (f - b)) (drop_more e b l l₀ h w.above)

  pub within_wider : (b f : ℕ) → b ≤ a → e ≤ f → Within b f l₀ l
  within_wider b f h k =
      record {
        size = w.size;
        below = sym (take-take b a l h) ∙ ap (take b) w.below ∙ take-take b a l₀ h;
        above = drop_more e f l l₀ k w.above;
      }

pub within_trans : {A : Type 0} (a e : ℕ) (l₀ l₁ l₂ : List A) → Within a e l₀ l₁ → Within a e l₁ l₂ → Within a e l₀ l₂
within_trans a e l₀ l₁ l₂ v w = record { size = w.size ∙ v.size; below = w.below ∙ v.below; above = w.above ∙ v.above }

pub within_none : {A : Type 0} (a e : ℕ) (l : List A) → Within a e l l
within_none a e l = record { size = refl; below = refl; above = refl }

-- a part came back as ys
module _ {A : Type 0} (a e : ℕ) (xs ys : List A) (le : a ≤ e) (fits : e ≤ length xs) (same : length ys ≡ length (part a e xs)) where
  pub put-length : length ys ≡ e - a
  put-length = same ∙ mid_len a e xs fits

  pub put_within : Within a e xs (put_mid a (e - a) xs ys)
  put_within =
      record { size = same_len_mid a (e - a) xs ys same; below = take_put a (e - a) xs ys (omega arith); above = drop_put a e xs ys le fits put-length }

  pub put_part : part a e (put_mid a (e - a) xs ys) ≡ ys
  put_part =
      ap (take (e - a)) (drop_at (take a xs) (ys ++ drop (e - a) (drop a xs)) a (length-take-le a xs (omega arith)))
      ∙ take_at ys (drop (e - a) (drop a xs)) (e - a) put-length

-- ---- one place
module _ {A : Type 0} (l : List A) (i : ℕ) (v : A) where
  pub set_within : Within i (suc i) l (set l i v)
  set_within = record { size = length-set l i v; below = take-set-le i l i v (omega arith); above = drop-set-lt (suc i) l i v (omega arith) }

  pub part_set : (a e j : ℕ) → i ≡ a + j → i < e → part a e (set l i v) ≡ set (part a e l) j v
  part_set a e j q h =
      ap (λ (k : ℕ). take (e - a) (drop a (set l k v))) q ∙ ap (take (e - a)) (drop-set-add a l j v) ∙ take-set-lt (e - a) (drop a l) j v (omega arith)

pub within_at : {A : Type 0} (a e : ℕ) (l₀ l : List A) → Within a e l₀ l → (i : ℕ) (d : A) → i < a → get_or l i d ≡ get_or l₀ i d
within_at {A} a e l₀ l w i d h = sym (get_or-take a l i d h) ∙ ap (λ (z : List A). get_or z i d) w.below ∙ get_or-take a l₀ i d h

-- what lies above the places that differ
pub within_past : {A : Type 0} (a e : ℕ) (l₀ l : List A) → Within a e l₀ l → (i : ℕ) (d : A) → e ≤ i → get_or l i d ≡ get_or l₀ i d
within_past {A} a e l₀ l w i d h =
    let q : e + (i - e) ≡ i = omega arith in
    let at : (z : List A) → get_or z i d ≡ get_or (drop e z) (i - e) d = λ z. ap (λ (k : ℕ). get_or z k d) (sym q) ∙ sym (get_or-drop e z (i - e) d) in
    at l ∙ ap (λ (z : List A). get_or z (i - e) d) w.above ∙ sym (at l₀)

pub part_at : {A : Type 0} (a e : ℕ) (l : List A) (j : ℕ) (d : A) → j < e - a → get_or (part a e l) j d ≡ get_or l (a + j) d
part_at a e l j d h = get_or-take (e - a) (drop a l) j d h ∙ get_or-drop a l j d
