-- A drawn group of seeds passes 7: below n, not the start, no repeats, as many as asked. And how soon each is found.
use Rattle.std.specs.Prelude.{ℕ, zero, suc, ◌+◌, ◌%◌, ◌<◌, ◌≡◌, refl, Bool, true, not, ◌&&◌, ltb, eqb, length, get_or, take}
use Rattle.std.proofs.Common.{mod-lt, arith, sym, ◌∙◌, subst, lt-ltb, ne_eqb, length-append, take_at}
use mathlib.Core.List.Memᴰ.{head as here}
use mathlib.Core.List.Memᴰ.{tail as there}
use mathlib.Core.List.{List, [], ◌∷◌, ◌++◌, append-nil, append_assoc, Memᴰ as Mem}
use mathlib.Core.List.Memᴰ.{not-nil}
use Rattle.std.proofs.lemmas.List.{get_or_at}
use Rattle.definition.specs.Lists.{each, is_in, distinct}
use Rattle.definition.specs.Draws.{advance, drawn, first_free, seeds_from, seeds_drawn}
use Rattle.definition.specs.Refusals.{good_group}
use Rattle.laws.specs.Truth.{either, both_and, is_not}
use Rattle.laws.specs.Members.{mem_each, snoc_elim}
use Rattle.laws.specs.Apart.{Apart, nobody, apart_snoc, apart_distinct}
use Rattle.theory.specs.draws.States.{after}
use Rattle.theory.specs.draws.Tries.{FoundFrom, first_free_tries}

free-below : (n : ℕ) (taken : List ℕ) (fuel r : ℕ) → 0 < n → first_free n taken fuel r < n
unfolding first_free
free-below n taken zero r pos = mod-lt r pos
free-below n taken (suc fuel) r pos = either (λ (x : ℕ). x < n) (is_in (r % n) taken) (free-below n taken fuel (r + 1) pos) (mod-lt r pos)

-- ---- a group

record Good (n start : ℕ) (group : List ℕ) : Type 0 where
  below : (x : ℕ) → Mem x group → x < n
  others : (x : ℕ) → Mem x group → ¬ (x ≡ start)
  once : Apart group

good_more : (n start : ℕ) (group : List ℕ) (r : ℕ) → suc (length group) < n → Good n start group
    → Good n start (group ++ (first_free n (start ∷ group) n r ∷ []))
good_more n start group r h g =
    let f = first_free n (start ∷ group) n r in
    let new = (first_free_tries n (start ∷ group) n r h (omega arith)).free in
    record {
      below = snoc_elim (λ x. x < n) group f g.below (free-below n (start ∷ group) n r (omega arith));
      others = snoc_elim (λ x. ¬ (x ≡ start)) group f g.others (λ e. new (here e));
      once = apart_snoc f g.once (λ m. new (there m));
    }

seeds_good : (n start k : ℕ) (group : List ℕ) (s : ℕ) → length group + k < n → Good n start group → Good n start (seeds_from n start k group s).words
unfolding seeds_from
seeds_good n start zero group s h g = g
seeds_good n start (suc k) group s h g =
    let f = first_free n (start ∷ group) n (drawn n (advance s)) in
    let l = length-append group (f ∷ []) in
    seeds_good n start k (group ++ (f ∷ [])) (advance s) (omega arith) (good_more n start group (drawn n (advance s)) (omega arith) g)

seeds_many : (n start k : ℕ) (group : List ℕ) (s : ℕ) → length (seeds_from n start k group s).words ≡ length group + k
unfolding seeds_from
seeds_many n start zero group s = omega arith
seeds_many n start (suc k) group s =
    let f = first_free n (start ∷ group) n (drawn n (advance s)) in
    let l = length-append group (f ∷ []) in
    seeds_many n start k (group ++ (f ∷ [])) (advance s) ∙ omega arith

good_passes : (n start : ℕ) (group : List ℕ) → Good n start group → good_group n start group ≡ true
unfolding good_group
good_passes n start group g =
    let p : ℕ → Bool = λ s. ltb s n && not (eqb s start) in
    both_and (each p group) (distinct group)
    (mem_each p group (λ x m. both_and (ltb x n) (not (eqb x start)) (lt-ltb x n (g.below x m)) (is_not (eqb x start) (ne_eqb x start (g.others x m)))))
    (apart_distinct g.once)

pub group_many : (n start extra s : ℕ) → length (seeds_drawn n start extra s).words ≡ extra
unfolding seeds_drawn
group_many n start extra s = seeds_many n start extra [] s ∙ omega arith

pub group_good : (n start extra s : ℕ) → extra < n → good_group n start (seeds_drawn n start extra s).words ≡ true
unfolding seeds_drawn
group_good n start extra s h =
    good_passes n start (seeds_from n start extra [] s).words
    (seeds_good n start extra [] s (omega arith) (record { below = λ x m. absurd (not-nil m); others = λ x m e. not-nil m; once = nobody }))

-- ---- how soon each is found

-- what is in the group stays at its front
seeds_front : (n start k : ℕ) (group : List ℕ) (s : ℕ) → (rest : List ℕ) × ((seeds_from n start k group s).words ≡ group ++ rest)
unfolding seeds_from
seeds_front n start zero group s = ([], sym (append-nil group))
seeds_front n start (suc k) group s =
    let f = first_free n (start ∷ group) n (drawn n (advance s)) in
    let r = seeds_front n start k (group ++ (f ∷ [])) (advance s) in
    (f ∷ r.0, r.1 ∙ append_assoc group (f ∷ []) r.0)

-- in a list of words: the one at place k was found from a state's draw, with the start and those before it taken
abbrev FoundAt : ℕ → ℕ → List ℕ → ℕ → ℕ → Type 0
FoundAt n start words state k = FoundFrom n (start ∷ take k words) (drawn n state) (suc k) (get_or words k 0)

seeds_found : (n start k : ℕ) (group : List ℕ) (s : ℕ) → length group + k < n
    → (i : ℕ) → i < k → FoundAt n start (seeds_from n start k group s).words (after (suc i) s) (length group + i)
unfolding seeds_from after
seeds_found n start zero group s h i b = absurd (omega arith)
seeds_found n start (suc k) group s h zero b =
    let f = first_free n (start ∷ group) n (drawn n (advance s)) in
    let r = seeds_front n start k (group ++ (f ∷ [])) (advance s) in
    let e = r.1 ∙ append_assoc group (f ∷ []) r.0 in
    let z : length group ≡ length group + 0 = omega arith in
    let found = first_free_tries n (start ∷ group) n (drawn n (advance s)) (omega arith) (omega arith) in
    let here : FoundAt n start (group ++ (f ∷ r.0)) (advance s) (length group) =
    subst (λ (x : ℕ). FoundFrom n (start ∷ take (length group) (group ++ (f ∷ r.0))) (drawn n (advance s)) (suc (length group)) x)
    (sym (get_or_at group f r.0 0 (length group) refl))
    (subst (λ (l : List ℕ). FoundFrom n (start ∷ l) (drawn n (advance s)) (suc (length group)) f)
    (sym (take_at group (f ∷ r.0) (length group) refl)) found) in
    subst (λ (m : ℕ). FoundAt n start (seeds_from n start k (group ++ (f ∷ [])) (advance s)).words (advance s) m) z
    (subst (λ (w : List ℕ). FoundAt n start w (advance s) (length group)) (sym e) here)
seeds_found n start (suc k) group s h (suc i) b =
    let f = first_free n (start ∷ group) n (drawn n (advance s)) in
    let l = length-append group (f ∷ []) in
    let q : length (group ++ (f ∷ [])) + i ≡ length group + suc i = omega arith in
    subst (λ (m : ℕ). FoundAt n start (seeds_from n start k (group ++ (f ∷ [])) (advance s)).words (after (suc i) (advance s)) m) q
    (seeds_found n start k (group ++ (f ∷ [])) (advance s) (omega arith) i (omega arith))

pub group-found : (n start extra s : ℕ) → extra < n → (k : ℕ) → k < extra
    → FoundFrom n (start ∷ take k (seeds_drawn n start extra s).words) (drawn n (after (suc k) s)) (suc k) (get_or (seeds_drawn n start extra s).words k 0)
unfolding seeds_drawn
group-found n start extra s h k b =
    let z : 0 + k ≡ k = omega arith in
    subst (λ (m : ℕ). FoundAt n start (seeds_from n start extra [] s).words (after (suc k) s) m) z (seeds_found n start extra [] s (omega arith) k b)
