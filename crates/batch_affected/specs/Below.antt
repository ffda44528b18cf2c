-- Every merged id is an entry, where the node's row, the fresh rows and the listed nodes hold only entries.
use Rattle.std.specs.Prelude.{ℕ, zero, suc, ◌+◌, ◌-◌, ◌*◌, ◌≤◌, ◌<◌, ◌≡◌, refl, ◌⊎◌, Option, None, Some, eqb, length, get_or, take, drop}
use Rattle.std.proofs.Common.{arith, sym, ap, ◌∙◌, subst, inl, inr}
use Rattle.std.proofs.Math.Bool.{not}
use mathlib.Core.List.Memᴰ.{append_cases as split}
use mathlib.Core.List.{List, Memᴰ as Mem}
use Rattle.definition.specs.Tables.{row}
use Rattle.definition.specs.Batch.{Setting, naming, base, merged_ids}
use Rattle.definition.specs.Slack.{slack}
use Rattle.laws.specs.Listed.{fresh_width}
use Rattle.laws.specs.Members.{keep_mem}
use Rattle.laws.specs.Rising.{rising_keeps}
use Rattle.laws.specs.Words.{padding, Searchable, Below, ids-below, searchable_stretch}
use Rattle.scratch.specs.Layout.{fresh_at, fresh_row_at}
use Rattle.given.specs.Fresh.{Merging, entry, entries_of, fresh_row, listed_in}
use Rattle.batch_chains.specs.Last.{seat}
use Rattle.batch_chains.specs.Says.{place_word}
use Rattle.batch_affected.specs.Base.{base_of, base_words_lem, seat_within}
use Rattle.batch_affected.specs.Naming.{naming_to}

-- each entry of the fresh rows is padding or an id below n
abbrev pub NamesBelow : Merging → Type 0
NamesBelow f = (e : ℕ) → e < entries_of f.nodes → (entry f.n f.words e ≡ padding → ⊥) → entry f.n f.words e < f.n

-- the place that a word holds
abbrev placed : ℕ → Option ℕ
placed zero = None
placed (suc p) = Some p

placed-is : (s : ℕ) → place_word (placed s) ≡ s
placed-is zero = refl
placed-is (suc p) = refl

module _ (g : Setting) (f : Merging) (wide : List ℕ) (width node : ℕ) (slack-is : width ≡ slack g.degree) (own : Searchable f.n (row width wide node))
    (real : Below f.n f.nodes) (named : NamesBelow f) where
  -- the words of the fresh row at place p
  fresh_row_lem : (p : ℕ) → p < length f.nodes → Searchable f.n (fresh_row f.n p f.words)
  fresh_row_lem p h =
      let w : fresh_width ≡ (fresh_row_at f.n p + fresh_width) - fresh_row_at f.n p = omega arith in
      subst (λ (k : ℕ). Searchable f.n (take k (drop (fresh_row_at f.n p) f.words))) w
      (searchable_stretch f.n f.words fresh_width (fresh_row_at f.n p)
      (λ k l i q.
      let e : fresh_at f.n + (p * fresh_width + k) ≡ fresh_row_at f.n p + k = omega arith in
      subst (λ (x : ℕ). get_or f.words x 0 < f.n) e
      (named (p * fresh_width + k) (omega arith) (λ z. q (ap (λ (x : ℕ). get_or f.words x 0) (sym e) ∙ z)))))

  base_row : (place : Option ℕ) → place_word place ≤ length f.nodes → Searchable f.n (base_of f wide width node place)
  base_row None h = own
  base_row (Some p) h = fresh_row_lem p (omega arith)

  base_below : (z : ℕ) → Mem z (base g wide (listed_in f) node) → z < f.n
  base_below z m = at (placed (seat f.nodes node 0)) (placed-is (seat f.nodes node 0))
    where
      at : (place : Option ℕ) → place_word place ≡ seat f.nodes node 0 → z < f.n
      at place e =
          let w = seat_within f.nodes node in
          ids-below f.n (base_of f wide width node place) (base_row place (omega arith)) z
          (subst (Mem z) (base_words_lem g f wide width node slack-is place e) m)

  naming_below : (z : ℕ) → Mem z (naming (listed_in f) node) → z < f.n
  naming_below z m =
      let s = naming_to f.nodes (drop (fresh_at f.n) f.words) node z m in
      subst (λ (x : ℕ). x < f.n) (sym s.who) (real s.seat_of s.low)

  pub merged_below : (z : ℕ) → Mem z (merged_ids g wide (listed_in f) node) → z < f.n
  unfolding merged_ids
  merged_below z m = go (split (base g wide (listed_in f) node) (keep_mem (λ w. not (eqb w node)) _ ((rising_keeps _).to z m)).0)
    where
      go : Mem z (base g wide (listed_in f) node) ⊎ Mem z (naming (listed_in f) node) → z < f.n
      go (inl h) = base_below z h
      go (inr h) = naming_below z h
