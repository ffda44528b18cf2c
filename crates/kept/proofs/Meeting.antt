-- Entries that are met one after another: what was met so far, and one more.
use mathlib.Core.Path.{◌≡◌, sym, ap, ap₂, ◌∙◌, subst}
use mathlib.Core.List.{List, [], ◌∷◌, ◌++◌}
use Prim.Native.Nat.{ℕ, suc, ◌+◌, ◌≤◌, ◌<◌}
use native.Mathlib.Numerals.{add-one}
use native.Mathlib.Omega.{arith}
use lib.ListN.{length, get_or, take, drop, length-drop}
use lib.Seq.{drop-cons, length-take-le, take-suc, take-take, get_or-take}
use Rattle.definition.specs.Beam.{Item, item}
use Rattle.definition.specs.Greedy.{State, meet}
use Rattle.laws.specs.All.{All, all_at, all_take, all_weaker}
use Rattle.laws.specs.Paired.{items_of, items-append}
use Rattle.kept.specs.Kept.{Inside}
use Rattle.kept.specs.Says.{Standing, Works, Working, Admitted, Met, meets}
use Rattle.kept.specs.Cases.{meets-none, meets-one, meets_more}

-- ---- work stays such on which it is safe to run
works_wider : (n beam : ℕ) (s : Standing) (frontier work : List Item) → Works n beam s frontier work → Works 65536 beam s frontier work
works_wider n beam s frontier work k =
    record {
      nodes = omega arith;
      beam_le = k.beam_le;
      kept = k.kept;
      rest = k.rest;
      keys_are = k.keys_are;
      len_is = k.len_is;
      len_le = k.len_le;
      done_le = k.done_le;
      bound_is = k.bound_is;
      sorted = k.sorted;
      inside = all_weaker (Inside n) (Inside 65536) (λ z w. (omega (arith, k.nodes), w.1)) k.kept k.inside;
      walked = k.walked;
      work_is = k.work_is;
      frontier_is = k.frontier_is;
      beyond = k.beyond;
    }

working-still : (beam : ℕ) (s s₂ : Standing) (dist id : ℕ) → id < 65536 → Working beam s → Admitted beam s s₂ dist id → Working beam s₂
working-still beam s s₂ dist id h w a =
    record {
      n = 65536;
      frontier = (meet beam (item dist id) st).frontier;
      work = (meet beam (item dist id) st).work;
      is = a.working 65536 st h (works_wider w.n beam s w.frontier w.work w.is);
    }
  where
    st : State
    st = record { frontier = w.frontier; work = w.work; visited = []; expanded = [] }

-- ---- a slice's iterator, where j of its items are taken
module _ (xs : List ℕ) (j : ℕ) (x : ℕ) (rest : List ℕ) (e : drop j xs ≡ x ∷ rest) where
  front_below : j < length xs
  front_below = omega (arith, ap length e, length-drop j xs)

  front_is : get_or xs j 0 ≡ x
  front_is = cc (drop-cons xs j 0 front_below)

  rest_is : drop (j + 1) xs ≡ rest
  rest_is = rw (add-one j) (cc (drop-cons xs j 0 front_below))

-- ---- the loop of `meet`: the first j were met
pub record MetTo (beam : ℕ) (s₀ : Standing) (ids dists : List ℕ) (s : Standing) (j : ℕ) : Type 0 where
  pub le : j ≤ length ids
  pub working : Working beam s
  pub met : Met beam s₀ s (take j ids) (take j dists)

module _ (beam : ℕ) (s₀ : Standing) (ids dists : List ℕ) (same : length ids ≡ length dists) where
  pub met_none : Working beam s₀ → MetTo beam s₀ ids dists s₀ 0
  unfolding items_of
  met_none w =
      record {
        le = omega arith;
        working = w;
        met = record {
          working = λ n st a k. subst (λ (z : State). Works n beam s₀ z.frontier z.work) (sym (meets-none beam st)) k;
        };
      }

  module _ (s : Standing) (j : ℕ) (m : MetTo beam s₀ ids dists s j) (h : j < length ids) (s₂ : Standing)
      (a : Admitted beam s s₂ (get_or dists j 0) (get_or ids j 0)) where
    items_more : items_of (take (suc j) ids) (take (suc j) dists) ≡ items_of (take j ids) (take j dists) ++ (item (get_or dists j 0) (get_or ids j 0) ∷ [])
    unfolding items_of
    items_more =
        ap₂ items_of (take-suc ids j 0 h) (take-suc dists j 0 (omega arith))
        ∙ items-append (take j ids) (get_or ids j 0 ∷ []) (take j dists) (get_or dists j 0 ∷ [])
        (length-take-le j ids (omega arith) ∙ sym (length-take-le j dists (omega arith)))

    meets_then : (st : State) → meets beam st (items_of (take (suc j) ids) (take (suc j) dists))
        ≡ meet beam (item (get_or dists j 0) (get_or ids j 0)) (meets beam st (items_of (take j ids) (take j dists)))
    meets_then st = ap (meets beam st) items_more ∙ meets_more beam st (items_of (take j ids) (take j dists)) _ ∙ meets-one beam _ _

    met_suc : Met beam s₀ s₂ (take (suc j) ids) (take (suc j) dists)
    met_suc =
        record {
          working = λ n st l k.
              let front : All (λ (i : ℕ). i < n) (take j ids) =
              subst (All (λ (i : ℕ). i < n)) (take-take j (suc j) ids (omega arith)) (all_take (λ (i : ℕ). i < n) j (take (suc j) ids) l) in
              let own : get_or ids j 0 < n =
              subst (λ (i : ℕ). i < n) (get_or-take (suc j) ids j 0 (omega arith))
              (all_at (λ (i : ℕ). i < n) 0 (take (suc j) ids) l j (omega (arith, length-take-le (suc j) ids h))) in
              subst (λ (z : State). Works n beam s₂ z.frontier z.work) (sym (meets_then st))
              (a.working n (meets beam st (items_of (take j ids) (take j dists))) own (m.met.working n st front k));
        }

    met_more : All (λ (i : ℕ). i < 65536) ids → MetTo beam s₀ ids dists s₂ (j + 1)
    met_more low =
        rw (add-one j)
        (record {
          le = h;
          working = working-still beam s s₂ (get_or dists j 0) (get_or ids j 0) (all_at (λ (i : ℕ). i < 65536) 0 ids low j h) m.working a;
          met = met_suc;
        })

  -- the iterator gave x and d, and has xs and ds left
  pub met_next : (s : Standing) (j k : ℕ) → k ≡ j + 1 → MetTo beam s₀ ids dists s j → (x d : ℕ) (xs ds : List ℕ) → drop j ids ≡ x ∷ xs
      → drop j dists ≡ d ∷ ds → (s₂ : Standing) → Admitted beam s s₂ d x → All (λ (i : ℕ). i < 65536) ids
      → MetTo beam s₀ ids dists s₂ k × (xs ≡ drop k ids) × (ds ≡ drop k dists)
  met_next s j k next m x d xs ds e q s₂ a low =
      let own : Admitted beam s s₂ (get_or dists j 0) (get_or ids j 0) = rw (front_is dists j d ds q, front_is ids j x xs e) a in
      rw next (met_more s j m (front_below ids j x xs e) s₂ own low, sym (rest_is ids j x xs e), sym (rest_is dists j d ds q))
