-- Runs of equal distances among keys that rise. All before the end of a run are nearer than all from there on; so the answers' order turns each run round, and
-- leaves it where it stands.
use Rattle.std.proofs.Common.{◌≡◌, ℕ, ◌+◌, ◌-◌, ◌<◌, ◌≤◌, false, ltb, List, length, get_or, take, ap, ◌∙◌, inl, inr, arith, length-take-le, get_or-take, ltb-false, ltb-true}
use lib.ListN.{length-map}
use Rattle.definition.specs.Lists.{sort}
use Rattle.definition.specs.Beam.{nobody}
use Rattle.definition.specs.Search.{listed_first, ranked}
use Rattle.laws.specs.Truth.{decide}
use Rattle.laws.specs.Mapped.{map_at}
use Rattle.laws.specs.Sorting.{length_sort}
use Rattle.laws.specs.Sorted.{Stretch, stretch_turned}
use Rattle.laws.specs.Items.{ListedBefore, not_listed, listed_order}
use Rattle.beam.specs.Keys.{dist_of, item_of, Rising}
use Rattle.listing.specs.Listed.{items_in}
use Rattle.listing.specs.Runs.{RunEnd}

-- of the first `len` keys, all before `at` hold a smaller distance than all from there on
abbrev pub Parts : List ℕ → ℕ → ℕ → Type 0
Parts keys len at = (i j : ℕ) → i < at → at ≤ j → j < len → dist_of (get_or keys i 0) < dist_of (get_or keys j 0)

module _ (keys : List ℕ) (len : ℕ) (up : Rising keys) (fits : len ≤ length keys) where
  pub parts_end : {first end : ℕ} → RunEnd keys len first end → Parts keys len end
  parts_end {first} {end} r i j h g l =
      let next = r.ends (omega arith) in
      let to = up first end (omega (arith, r.some)) (omega arith) in
      let from = up end j g (omega arith) in
      decide (ltb i first)
      (λ t. omega (arith, next, to, from, up i first (omega (arith, ltb-true i first t)) (omega (arith, r.some))))
      (λ f. omega (arith, next, to, from, r.level i (omega (arith, ltb-false i first f)) h))

  item_at : (i : ℕ) → i < len → get_or (items_in keys len) i nobody ≡ item_of (get_or keys i 0)
  item_at i h =
      map_at item_of 0 nobody (take len keys) i (omega (arith, length-take-le len keys fits)) ∙ ap item_of (get_or-take len keys i 0 h)

  items-length : length (items_in keys len) ≡ len
  items-length = length-map (take len keys) item_of ∙ length-take-le len keys fits

  -- a run is a stretch that the answers' order turns
  run_stretch : {first end : ℕ} → Parts keys len first → RunEnd keys len first end → Stretch listed_first nobody (items_in keys len) first end
  run_stretch {first} {end} p r =
      record {
        order = omega (arith, r.some);
        within = omega (arith, r.within, items-length);
        before = λ i j h g l. farther i j (p i j h g (omega (arith, items-length))) (omega (arith, items-length)) (omega (arith, items-length));
        after = λ i j h g l. farther i j (parts_end r i j h g (omega (arith, items-length))) (omega (arith, items-length)) (omega (arith, items-length));
        inside = λ i j h g l.
            rw (item_at i (omega (arith, r.within)), item_at j (omega (arith, r.within)))
            (not_listed (item_of (get_or keys i 0)) (item_of (get_or keys j 0))
            (lower i j (r.level i h (omega arith)) (r.level j (omega arith) l) (up i j (omega arith) (omega (arith, r.within)))));
      }
    where
      farther : (i j : ℕ) → dist_of (get_or keys i 0) < dist_of (get_or keys j 0) → i < len → j < len
          → listed_first (get_or (items_in keys len) j nobody) (get_or (items_in keys len) i nobody) ≡ false
      farther i j h k l = rw (item_at i k, item_at j l) (not_listed (item_of (get_or keys j 0)) (item_of (get_or keys i 0)) no)
        where
          no : ¬ ListedBefore (item_of (get_or keys j 0)) (item_of (get_or keys i 0))
          no (inl b) = omega arith
          no (inr b) = omega arith

      lower : (i j : ℕ) → dist_of (get_or keys i 0) ≡ dist_of (get_or keys first 0) → dist_of (get_or keys j 0) ≡ dist_of (get_or keys first 0)
          → get_or keys i 0 ≤ get_or keys j 0 → ¬ ListedBefore (item_of (get_or keys i 0)) (item_of (get_or keys j 0))
      lower i j e f h (inl b) = omega arith
      lower i j e f h (inr b) = omega arith

  module _ (count : ℕ) (few : count ≤ len) where
    pub ranked_length : length (ranked count (items_in keys len)) ≡ count
    unfolding ranked
    ranked_length =
        length-take-le count (sort listed_first (items_in keys len)) (omega (arith, length_sort listed_first (items_in keys len), items-length))

    pub ranked_at : {first end : ℕ} → Parts keys len first → RunEnd keys len first end → (i : ℕ) → first ≤ i → i < end → i < count
        → get_or (ranked count (items_in keys len)) i nobody ≡ item_of (get_or keys (first + end - 1 - i) 0)
    unfolding ranked
    ranked_at {first} {end} p r i h l k =
        get_or-take count (sort listed_first (items_in keys len)) i nobody k
        ∙ stretch_turned listed_order (run_stretch p r) i h l
        ∙ item_at (first + end - 1 - i) (omega (arith, r.within))
