-- What pruning leaves: distinct ids of the pool, never the node itself, at most degree. For every alpha that 5 admits: there a taken entry is marked by
-- f32::MAX, which no `current` reaches, and is never taken again.
use Prim.Native.Nat.{ℕ, zero, suc, ◌-◌, ◌≤◌, zero-le, suc-le-suc}
use Rattle.std.proofs.Common.{arith, ap, ◌∙◌, subst, length-append}
use Rattle.std.specs.Prelude.{◌≡◌, refl, true, false, length, take, replicate, Float}
use mathlib.Core.List.Memᴰ.{head as here}
use mathlib.Core.List.Memᴰ.{not-nil}
use mathlib.Core.List.Memᴰ.{tail as there}
use mathlib.Core.List.{List, [], ◌∷◌, ◌++◌, Memᴰ as Mem}
use mathlib.Core.List.Memᴰ.{append_left as in_left}
use mathlib.Core.List.Memᴰ.{append_right as in_right}
use Rattle.std.specs.Float.Ieee.{lt}
use Rattle.definition.specs.Lists.{sort, is_in}
use Rattle.definition.specs.Beam.{Item, nearer}
use Rattle.definition.specs.Floats.{nought, one, four, largest, above}
use Rattle.definition.specs.Prune.{Round, measured, unseen, cut, candidates, target_of, next_alpha, shade, shade_all, skip_one, take_one, round, rounds, most_rounds}
use Rattle.definition.specs.Prune.{pruned_from, prune}
use Rattle.definition.specs.Batch.{Setting, prune_ids}
use Rattle.laws.specs.Truth.{either, branch, not_both}
use Rattle.laws.specs.Members.{take_mem, is_in-none, cons_elim, append_elim}
use Rattle.laws.specs.Apart.{Apart, nobody, another, apart_head, apart_tail, apart_append}
use Rattle.laws.specs.Sorting.{sort_mem}
use Rattle.laws.specs.Items.{ids_of, ids_within}
use Rattle.theory.specs.prune.Modest.{Modest, modest_below, one_modest, target_modest, next_modest}

-- a row for `node` from the ids xs
pub record Pruned (node degree : ℕ) (xs row : List ℕ) : Type 0 where
  pub once : Apart row
  pub within : (x : ℕ) → Mem x row → Mem x xs
  pub not_own : ¬ Mem node row
  pub most : length row ≤ degree

-- ---- the candidates: once each, without the node

unseen-ids : (seen : List ℕ) (cs : List Item) {x : ℕ} → Mem x (ids_of (unseen seen cs)) → Mem x (ids_of cs) × ¬ Mem x seen
unfolding unseen
unseen-ids seen [] m = absurd (not-nil m)
unseen-ids seen (c ∷ cs) {x} m₀ =
    (branch (λ (l : List Item). Mem x (ids_of l) → Mem x (ids_of (c ∷ cs)) × ¬ Mem x seen) (is_in c.id seen)
    (λ e m. let r = unseen-ids seen cs m in (there r.0, r.1))
    (λ e m.
    cons_elim (λ u. Mem u (ids_of (c ∷ cs)) × ¬ Mem u seen) c.id (ids_of (unseen (c.id ∷ seen) cs)) (here refl, is_in-none c.id seen e)
    (λ u h. let r = unseen-ids (c.id ∷ seen) cs h in (there r.0, λ i. r.1 (there i))) x m)) m₀

unseen-apart : (seen : List ℕ) (cs : List Item) → Apart (ids_of (unseen seen cs))
unfolding unseen
unseen-apart seen [] = nobody
unseen-apart seen (c ∷ cs) =
    either (λ (l : List Item). Apart (ids_of l)) (is_in c.id seen) (unseen-apart seen cs)
    (another (λ m. (unseen-ids (c.id ∷ seen) cs m).1 (here refl)) (unseen-apart (c.id ∷ seen) cs))

candidates-ids : (node : ℕ) (pool : List Item) {x : ℕ} → Mem x (ids_of (candidates node pool)) → Mem x (ids_of pool) × ¬ (x ≡ node)
unfolding candidates
candidates-ids node pool {x} m =
    let sorted = sort nearer pool in
    let f = unseen-ids (node ∷ []) (take cut sorted) m in
    (ids_within (take cut sorted) pool (λ c h. sort_mem nearer pool (take_mem cut sorted h)) x f.0, λ e. f.1 (here e))

measured-ids : (d : ℕ → ℕ) (xs : List ℕ) → ids_of (measured d xs) ≡ xs
unfolding measured
measured-ids d [] = refl
measured-ids d (x ∷ xs) = ap (λ (l : List ℕ). x ∷ l) (measured-ids d xs)

-- ---- a factor of f32::MAX marks what was taken

-- every candidate whose id is done has f32::MAX for its factor
data Barred (done : List ℕ) : List Item → List Float → Type 0 where
  no_more : {fs : List Float} → Barred done [] fs
  no_factor : {c : Item} {cs : List Item} → Barred done (c ∷ cs) []
  barred : {c : Item} {cs : List Item} {f : Float} {fs : List Float} → (Mem c.id done → f ≡ largest) → Barred done cs fs → Barred done (c ∷ cs) (f ∷ fs)

barred_head : {done : List ℕ} {c : Item} {cs : List Item} {f : Float} {fs : List Float} → Barred done (c ∷ cs) (f ∷ fs) → Mem c.id done → f ≡ largest
barred_head (barred h b) = h

barred_tail : {done : List ℕ} {c : Item} {cs : List Item} {f : Float} {fs : List Float} → Barred done (c ∷ cs) (f ∷ fs) → Barred done cs fs
barred_tail (barred h b) = b

barred_none : (cs : List Item) (fs : List Float) → Barred [] cs fs
barred_none [] fs = no_more
barred_none (c ∷ cs) [] = no_factor
barred_none (c ∷ cs) (f ∷ fs) = barred (λ m. absurd (not-nil m)) (barred_none cs fs)

barred_weaken : (new old : List ℕ) {cs : List Item} {fs : List Float} → ((x : ℕ) → Mem x (ids_of cs) → Mem x new → Mem x old) → Barred old cs fs
    → Barred new cs fs
barred_weaken new old w no_more = no_more
barred_weaken new old w no_factor = no_factor
barred_weaken new old w (barred {c = c} h b) = barred (λ m. h (w c.id (here refl) m)) (barred_weaken new old (λ x i m. w x (there i) m) b)

-- shading leaves f32::MAX as it is
shade-largest : (pair : ℕ → ℕ → ℕ) (target : Float) (taken : ℕ) (c : Item) (f : Float) → lt target largest ≡ true → f ≡ largest
    → shade pair target taken c f ≡ largest
unfolding shade above
shade-largest pair target taken c f h e = rw e (rw h)

shade_barred : (pair : ℕ → ℕ → ℕ) (target : Float) (taken : ℕ) → lt target largest ≡ true → {done : List ℕ} {cs : List Item} {fs : List Float}
    → Barred done cs fs → Barred done cs (shade_all pair target taken cs fs)
unfolding shade_all
shade_barred pair target taken h no_more = no_more
shade_barred pair target taken h no_factor = no_factor
shade_barred pair target taken h (barred {c = c} {f = f} p b) = barred (λ m. shade-largest pair target taken c f h (p m)) (shade_barred pair target taken h b)

-- ---- one round

record RoundTells (done : List ℕ) (cs : List Item) (r : Round) : Type 0 where
  apart : Apart r.took
  within : (x : ℕ) → Mem x r.took → Mem x (ids_of cs)
  new : (x : ℕ) → Mem x r.took → ¬ Mem x done
  marks : Barred (r.took ++ done) cs r.factors

nothing_tells : (done : List ℕ) (cs : List Item) (fs : List Float) → Barred done cs fs → RoundTells done cs (record { took = []; factors = fs })
nothing_tells done cs fs b = record { apart = nobody; within = λ x m. absurd (not-nil m); new = λ x m. absurd (not-nil m); marks = b }

skip_tells : (done : List ℕ) (c : Item) (cs : List Item) (f : Float) (r : Round) → ¬ Mem c.id (ids_of cs) → (Mem c.id done → f ≡ largest)
    → RoundTells done cs r → RoundTells done (c ∷ cs) (skip_one f r)
unfolding skip_one
skip_tells done c cs f r n h t =
    record {
      apart = t.apart;
      within = λ x m. there (t.within x m);
      new = t.new;
      marks = barred (λ m. append_elim (λ u. u ≡ c.id → f ≡ largest) r.took done
          (λ u k e. absurd (n (subst (λ (z : ℕ). Mem z (ids_of cs)) e (t.within u k)))) (λ u k e. h (subst (λ (z : ℕ). Mem z done) e k)) c.id m refl)
          t.marks;
    }

take_tells : (done : List ℕ) (c : Item) (cs : List Item) (r : Round) → ¬ Mem c.id (ids_of cs) → ¬ Mem c.id done → RoundTells done cs r
    → RoundTells done (c ∷ cs) (take_one c.id r)
unfolding take_one
take_tells done c cs r n h t =
    record {
      apart = another (λ m. n (t.within c.id m)) t.apart;
      within = cons_elim (λ x. Mem x (ids_of (c ∷ cs))) c.id r.took (here refl) (λ x m. there (t.within x m));
      new = cons_elim (λ x. ¬ Mem x done) c.id r.took h t.new;
      marks = barred (λ m. refl)
          (barred_weaken (c.id ∷ r.took ++ done) (r.took ++ done)
          (λ x i m. cons_elim (λ u. Mem u (ids_of cs) → Mem u (r.took ++ done)) c.id (r.took ++ done) (λ j. absurd (n j)) (λ u k j. k) x m i) t.marks);
    }

module _ (pair : ℕ → ℕ → ℕ) (target : Float) (small : lt target largest ≡ true) (done : List ℕ) where
  round_tells : (current : Float) → lt current largest ≡ true → (room : ℕ) (cs : List Item) (fs : List Float) → Apart (ids_of cs) → Barred done cs fs
      → RoundTells done cs (round pair target current room cs fs)
  unfolding round above
  round_tells current low room [] fs a b = nothing_tells done [] fs b
  round_tells current low room (c ∷ cs) [] a b = nothing_tells done (c ∷ cs) [] b
  round_tells current low zero (c ∷ cs) (f ∷ fs) a b = nothing_tells done (c ∷ cs) (f ∷ fs) b
  round_tells current low (suc room) (c ∷ cs) (f ∷ fs) a b =
      branch (λ (r : Round). RoundTells done (c ∷ cs) r) (lt current f)
      (λ e. skip_tells done c cs f (round pair target current (suc room) cs fs) (apart_head a) (barred_head b)
      (round_tells current low (suc room) cs fs (apart_tail a) (barred_tail b)))
      (λ e.
      take_tells done c cs (round pair target current room cs (shade_all pair target c.id cs fs)) (apart_head a)
      (λ m. not_both e (ap (λ (z : Float). lt current z) (barred_head b m) ∙ low))
      (round_tells current low room cs (shade_all pair target c.id cs fs) (apart_tail a) (shade_barred pair target c.id small (barred_tail b))))

-- ---- the rounds

record RoundsTell (done : List ℕ) (cs : List Item) (took : List ℕ) : Type 0 where
  apart : Apart took
  within : (x : ℕ) → Mem x took → Mem x (ids_of cs)
  new : (x : ℕ) → Mem x took → ¬ Mem x done

stop_tells : {done : List ℕ} {cs : List Item} {r : Round} → RoundTells done cs r → RoundsTell done cs r.took
stop_tells t = record { apart = t.apart; within = t.within; new = t.new }

more_tells : {done : List ℕ} {cs : List Item} {r : Round} (rest : List ℕ) → RoundTells done cs r → RoundsTell (r.took ++ done) cs rest
    → RoundsTell done cs (r.took ++ rest)
more_tells {done} {cs} {r} rest t u =
    record {
      apart = apart_append rest t.apart u.apart (λ z m h. u.new z h (in_left done m));
      within = append_elim (λ x. Mem x (ids_of cs)) r.took rest t.within u.within;
      new = append_elim (λ x. ¬ Mem x done) r.took rest t.new (λ x m h. u.new x m (in_right r.took h));
    }

rounds_tell : (pair : ℕ → ℕ → ℕ) (target : Float) → Modest target → (fuel : ℕ) (current : Float) → Modest current
    → (done : List ℕ) (room : ℕ) (cs : List Item) (fs : List Float)
    → Apart (ids_of cs) → Barred done cs fs → RoundsTell done cs (rounds pair target fuel current room cs fs)
unfolding rounds
rounds_tell pair target p zero current q done room cs fs a b = record { apart = nobody; within = λ x m. absurd (not-nil m); new = λ x m. absurd (not-nil m) }
rounds_tell pair target p (suc fuel) current q done room cs fs a b =
    let r = round pair target current room cs fs in
    let t = round_tells pair target (modest_below target p) done current (modest_below current q) room cs fs a b in
    let rest = rounds pair target fuel (next_alpha target current) (room - length r.took) cs r.factors in
    either (λ (l : List ℕ). RoundsTell done cs l) (above target current)
    (more_tells rest t (rounds_tell pair target p fuel (next_alpha target current) (next_modest target current p q) (r.took ++ done)
    (room - length r.took) cs r.factors a t.marks))
    (stop_tells t)

-- ---- a round takes no more than there is room for

round_room : (pair : ℕ → ℕ → ℕ) (target current : Float) (room : ℕ) (cs : List Item) (fs : List Float)
    → length (round pair target current room cs fs).took ≤ room
unfolding round skip_one take_one
round_room pair target current room [] fs = zero-le
round_room pair target current room (c ∷ cs) [] = zero-le
round_room pair target current zero (c ∷ cs) (f ∷ fs) = zero-le
round_room pair target current (suc room) (c ∷ cs) (f ∷ fs) =
    either (λ (r : Round). length r.took ≤ suc room) (above f current)
    (round_room pair target current (suc room) cs fs)
    (suc-le-suc (round_room pair target current room cs (shade_all pair target c.id cs fs)))

-- so the rounds do not either
pub rounds-room : (pair : ℕ → ℕ → ℕ) (target : Float) (fuel : ℕ) (current : Float) (room : ℕ) (cs : List Item) (fs : List Float)
    → length (rounds pair target fuel current room cs fs) ≤ room
unfolding rounds
rounds-room pair target zero current room cs fs = zero-le
rounds-room pair target (suc fuel) current room cs fs =
    let r = round pair target current room cs fs in
    let more = rounds pair target fuel (next_alpha target current) (room - length r.took) cs r.factors in
    let one-round = round_room pair target current room cs fs in
    let others = rounds-room pair target fuel (next_alpha target current) (room - length r.took) cs r.factors in
    either (λ (l : List ℕ). length l ≤ room) (above target current)
    (omega (arith, length-append r.took more))
    one-round

-- ---- pruning

pub prune_tells : (pair : ℕ → ℕ → ℕ) (degree : ℕ) (alpha : Float) → above alpha four ≡ false → (node : ℕ) (pool : List Item)
    → Pruned node degree (ids_of pool) (prune pair degree alpha node pool)
unfolding prune pruned_from candidates
prune_tells pair degree alpha h node pool =
    let cs = candidates node pool in
    let fs = replicate (length cs) nought in
    let t = rounds_tell pair (target_of alpha) (target_modest alpha h) most_rounds one one_modest [] degree cs fs
    (unseen-apart (node ∷ []) (take cut (sort nearer pool))) (barred_none cs fs) in
    record {
      once = t.apart;
      within = λ x m. (candidates-ids node pool (t.within x m)).0;
      not_own = λ m. (candidates-ids node pool (t.within node m)).1 refl;
      most = rounds-room pair (target_of alpha) most_rounds one degree cs fs;
    }

pub pruned-ids : (g : Setting) → above g.alpha four ≡ false → (node : ℕ) (xs : List ℕ) → Pruned node g.degree xs (prune_ids g node xs)
unfolding prune_ids
pruned-ids g h node xs =
    subst (λ (l : List ℕ). Pruned node g.degree l (prune g.pair g.degree g.alpha node (measured (g.pair node) xs)))
    (measured-ids (g.pair node) xs)
    (prune_tells g.pair g.degree g.alpha h node (measured (g.pair node) xs))
