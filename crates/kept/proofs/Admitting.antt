-- An item that comes: the code's test of its key is the definition's test of entry. Where it is admitted its key goes in, at a free place or over the worst.
use mathlib.Core.Path.{◌≡◌, refl, sym, ap, ap₂, ◌∙◌, subst, subst₂}
use mathlib.Core.Bool.{Bool, true, false, ◌||◌, cond, false≢true}
use mathlib.Core.List.{List, [], ◌∷◌, ◌++◌, append_assoc}
use Prim.Native.Nat.{ℕ, suc, ◌+◌, ◌-◌, ◌*◌, ◌≤◌, ◌<◌, min}
use native.Mathlib.Omega.{arith}
use borrow.Author.Tests.{ltb-true, ltb-false, lt-ltb, le-ltb}
use lib.Dec.{ltb}
use lib.ListN.{length, get_or, drop, replicate}
use lib.Seq.{drop-drop, get_or_at}
use Rattle.definition.specs.Beam.{Item, item, insert, insert_capped, worst, beats_worst}
use Rattle.definition.specs.Greedy.{State, admitted}
use Rattle.laws.specs.Truth.{decide}
use Rattle.laws.specs.All.{All, all_drop}
use Rattle.laws.specs.Backwards.{rev}
use Rattle.laws.specs.Parts.{drop_more}
use Rattle.beam.specs.Keys.{half, none, open_key, Rising, PlaceIn, Put}
use Rattle.beam.specs.Placing.{place_among, put_nearer}
use Rattle.kept.specs.Kept.{Kept, key_of, keys_of, items, opens, opening, Closed, Inside, Falling}
use Rattle.kept.specs.Keyed.{open_key_lem, key_least, key_below, length_front, length-items, falling_desc}
use Rattle.kept.specs.Says.{Standing, standing, works, bound_of, bound_k, Works, Working, Admitted}
use Rattle.kept.specs.Laws.{works-length, works_rise}
use Rattle.kept.specs.Cases.{admitted_is, meet_frontier, meet_work}
use Rattle.kept.proofs.Keeping.{put, all-put, length-put, falling_put, Entered, entered_room, entered_full}
use Rattle.kept.specs.Reading.{bound_same}
use Rattle.kept.proofs.Placing.{keys_put, closed_put}

-- of the best `done`, which are walked, the best m are
walked_fewer : (ks : List Kept) (len done m : ℕ) → done ≤ len → m ≤ done → Closed (drop (len - done) ks) → Closed (drop (len - m) ks)
walked_fewer ks len done m h g c =
    let e : (len - done) + (done - m) ≡ len - m = omega arith in
    subst Closed (drop-drop (done - m) (len - done) ks ∙ ap (λ (i : ℕ). drop i ks) e)
    (all_drop (λ (k : Kept). k.is_open ≡ false) (done - m) (drop (len - done) ks) c)

-- the worst's key stands last
worst-last : (w : Kept) (ks : List Kept) (l : List ℕ) → rev (keys_of (w ∷ ks)) ++ l ≡ rev (keys_of ks) ++ key_of w ∷ l
unfolding rev
worst-last w ks l = append_assoc (rev (keys_of ks)) (key_of w ∷ []) l

-- ---- the place over which a key goes: a free one, or in a full work that of the worst
pub last_of : ℕ → ℕ → ℕ
last_of beam len = cond (ltb len beam) len (len - 1)

pub last-free : (beam len last : ℕ) → len < beam → last ≡ len → last ≡ last_of beam len
unfolding last_of
last-free beam len last h e = rw (lt-ltb len beam h) e

pub last-worst : (beam len last : ℕ) → beam ≤ len → last ≡ len - 1 → last ≡ last_of beam len
unfolding last_of
last-worst beam len last h e = rw (le-ltb len beam h) e

-- ---- an item whose key is below the bound
module _ (x : Item) (own : x.id < 65536) (near : x.dist < half) where
  abbrev key : ℕ
  key = key_of (opening x)

  admits_is : (beam : ℕ) (ks : List Kept) → ltb key (bound_of beam (items ks)) ≡ (ltb (length (items ks)) beam || beats_worst x (items ks))
  unfolding bound_of beats_worst worst
  admits_is beam ks = decide (ltb (length (items ks)) beam) (λ t. rw t (lt-ltb key none (key_below (opening x) own near))) (λ f. rw f (full ks))
    where
      full : (ks : List Kept) → ltb key ((worst (items ks)).dist * half) ≡ beats_worst x (items ks)
      full [] = le-ltb key 0 (omega arith)
      full (k ∷ ks) =
          decide (ltb x.dist k.of.dist)
          (λ t. lt-ltb key (k.of.dist * half) (omega (arith, open_key_lem (opening x) refl, ltb-true x.dist k.of.dist t)) ∙ sym t)
          (λ f. le-ltb key (k.of.dist * half) (omega (arith, open_key_lem (opening x) refl, ltb-false x.dist k.of.dist f)) ∙ sym f)

  -- what stays of work when x comes in, and the place `last`, behind it, that becomes free
  record Slot (n beam : ℕ) (s : Standing) (frontier work : List Item) (last : ℕ) : Type 0 where
    pub ks : List Kept
    pub over : ℕ
    pub size : length ks ≡ last
    pub room : last < beam
    pub keys_are : s.keys ≡ rev (keys_of ks) ++ over ∷ replicate (256 - suc last) none
    pub above : key < over
    pub sorted : Falling ks
    pub inside : All (Inside n) ks
    pub walked : (m : ℕ) → m ≤ s.work.done → m ≤ last → Closed (drop (last - m) ks)
    pub entered : Entered beam x ks frontier work

  module _ (n beam : ℕ) (s : Standing) (frontier work : List Item) (k : Works n beam s frontier work) where
    slot_room : s.work.len < beam → Slot n beam s frontier work s.work.len
    slot_room h =
        let e : 256 - length k.kept ≡ suc (256 - suc s.work.len) = omega (arith, k.len_is, k.beam_le) in
        record {
          ks = k.kept;
          over = none;
          size = k.len_is;
          room = h;
          keys_are = k.keys_are ∙ ap (λ (i : ℕ). rev (keys_of k.kept) ++ replicate i none) e;
          above = key_below (opening x) own near;
          sorted = k.sorted;
          inside = k.inside;
          walked = λ m g l. walked_fewer k.kept s.work.len s.work.done m k.done_le g k.walked;
          entered =
              subst (Entered beam x k.kept frontier) (sym k.work_is)
              (entered_room beam x k.kept k.rest frontier (falling_desc n k.nodes k.kept k.inside k.sorted) k.frontier_is k.beyond
              (omega (arith, k.len_is)));
        }

    slot_full : (w : Kept) (ks : List Kept) → k.kept ≡ w ∷ ks → x.dist < w.of.dist → beam ≤ s.work.len → Slot n beam s frontier work (s.work.len - 1)
    slot_full w ks e h g =
        let size : suc (length ks) ≡ s.work.len = ap length (sym e) ∙ k.len_is in
        let f : 256 - length k.kept ≡ 256 - suc (s.work.len - 1) = omega (arith, k.len_is) in
        let inside : All (Inside n) (w ∷ ks) = subst (All (Inside n)) e k.inside in
        let sorted : Falling (w ∷ ks) = subst Falling e k.sorted in
        record {
          ks = ks;
          over = key_of w;
          size = omega arith;
          room = omega (arith, k.len_le);
          keys_are =
              k.keys_are ∙ ap (λ (i : ℕ). rev (keys_of k.kept) ++ replicate i none) f
              ∙ ap (λ (l : List Kept). rev (keys_of l) ++ replicate (256 - suc (s.work.len - 1)) none) e
              ∙ worst-last w ks (replicate (256 - suc (s.work.len - 1)) none);
          above = omega (arith, open_key_lem (opening x) refl, key_least w);
          sorted = sorted.1;
          inside = inside.1;
          walked = λ m a b.
              let q : s.work.len - m ≡ suc (s.work.len - 1 - m) = omega arith in
              rw q at (subst (λ (l : List Kept). Closed (drop (s.work.len - m) l)) e
              (walked_fewer k.kept s.work.len s.work.done m k.done_le a k.walked));
          entered =
              subst (Entered beam x ks frontier) (sym (k.work_is ∙ ap items e))
              (entered_full beam x w ks k.rest frontier (falling_desc n k.nodes (w ∷ ks) inside sorted) (omega (arith, k.len_le))
              (k.frontier_is ∙ ap (λ (l : List Kept). k.rest ++ opens l) e) (rw e at k.beyond) h);
        }

    -- the bound is of one of these kinds: work is below beam, or it is full and x is strictly nearer than its worst
    slot : key < s.work.bound → Slot n beam s frontier work (last_of beam s.work.len)
    unfolding beats_worst last_of
    slot h = decide (ltb s.work.len beam) (λ t. rw t (slot_room (ltb-true s.work.len beam t))) (λ f. rw f (full f k.kept refl (beats f)))
      where
        size : length (items k.kept) ≡ s.work.len
        size = length-items k.kept ∙ k.len_is

        beats : ltb s.work.len beam ≡ false → beats_worst x (items k.kept) ≡ true
        beats f =
            sym (ap (λ (t : Bool). t || beats_worst x (items k.kept)) (ap (λ (i : ℕ). ltb i beam) size ∙ f)) ∙ sym (admits_is beam k.kept)
            ∙ ap (ltb key) (sym k.bound_is) ∙ lt-ltb key s.work.bound h

        full : ltb s.work.len beam ≡ false → (l : List Kept) → k.kept ≡ l → beats_worst x (items l) ≡ true → Slot n beam s frontier work (s.work.len - 1)
        full f [] e b = absurd (false≢true b)
        full f (w ∷ ks) e b = slot_full w ks e (ltb-true x.dist w.of.dist b) (ltb-false s.work.len beam f)

    -- ---- what `put` asks
    module _ (last : ℕ) (o : Slot n beam s frontier work last) where
      long : length s.keys ≡ 256
      long = works-length n beam s frontier work k

      at_last : get_or s.keys last 0 ≡ o.over
      at_last =
          ap (λ (l : List ℕ). get_or l last 0) o.keys_are
          ∙ get_or_at (rev (keys_of o.ks)) o.over (replicate (256 - suc last) none) 0 last (length_front o.ks ∙ o.size)

      put_asks : Rising s.keys × (PlaceIn s.keys key 0 256 × ((last < length s.keys) × (key < get_or s.keys last 0)))
      put_asks =
          let less : key < get_or s.keys last 0 = omega (arith, at_last, o.above) in (
            works_rise k,
            (
              place_among s.keys key last 256 (works_rise k) (omega (arith, o.room, k.beam_le)) (omega (arith, long)) less,
              (omega (arith, o.room, k.beam_le, long), less),
            ),
          )

      -- ---- what stands once the key is put in
      module _ (below : x.id < n) (at : ℕ) (after : List ℕ) (p : Put s.keys last key at after) where
        placed : Put (rev (keys_of o.ks) ++ o.over ∷ replicate (256 - suc last) none) (length o.ks) key at after
        placed = rw o.size (subst (λ (l : List ℕ). Put l last key at after) o.keys_are p)

        size : length (put x o.ks) ≡ last + 1
        size = length-put x o.ks ∙ omega (arith, o.size)

        inside : All (Inside n) (put x o.ks)
        inside = all-put (Inside n) x o.ks (below, near) o.inside

        keys_are : after ≡ rev (keys_of (put x o.ks)) ++ replicate (256 - suc last) none
        keys_are =
            keys_put n k.nodes x own o.ks o.inside o.sorted o.over (replicate (256 - suc last) none) at after placed

        works_after : Works n beam (standing after (works (last + 1) (min s.work.done at) (bound_k after (last + 1) beam))) (insert x frontier)
            (insert_capped beam x work)
        works_after =
            let m : ℕ = min s.work.done at in
            let q : suc last ≡ length (put x o.ks) = omega (arith, size) in
            let e : suc (length o.ks) - m ≡ last + 1 - m = omega (arith, o.size) in
            record {
              nodes = k.nodes;
              beam_le = k.beam_le;
              kept = put x o.ks;
              rest = o.entered.rest;
              keys_are = keys_are ∙ ap (λ (i : ℕ). rev (keys_of (put x o.ks)) ++ replicate (256 - i) none) q;
              len_is = size;
              len_le = omega (arith, o.room);
              done_le = omega (arith, p.le);
              bound_is =
                  ap (λ (l : List ℕ). bound_k l (last + 1) beam) keys_are
                  ∙ bound_same n k.nodes (put x o.ks) (replicate (256 - suc last) none) (last + 1) beam inside size (omega arith);
              sorted = falling_put n x o.ks k.nodes own o.inside o.sorted;
              inside = inside;
              walked =
                  subst (λ (i : ℕ). Closed (drop i (put x o.ks))) e
                  (closed_put n k.nodes x own o.ks o.inside o.sorted o.over (replicate (256 - suc last) none) at after placed m (omega arith)
                  (rw o.size (o.walked m (omega arith) (omega (arith, p.le)))));
              work_is = o.entered.work_is;
              frontier_is = o.entered.frontier_is;
              beyond = o.entered.beyond;
            }

-- ---- the two ends of `admit`
-- an item comes, of which the key is below the bound, or is not
pub record Comes (bound dist id : ℕ) (below : Bool) : Type 0 where
  pub own : id < 65536
  pub near : dist < half
  pub test : ltb (open_key dist id) bound ≡ below

module _ (beam : ℕ) (s : Standing) (dist id : ℕ) where
  abbrev x : Item
  x = item dist id

  is_key : open_key dist id ≡ key_of (opening x)
  is_key = sym (open_key_lem (opening x) refl)

  tested : (t : Bool) → Comes s.work.bound dist id t → (n : ℕ) (st : State) → Works n beam s st.frontier st.work → admitted beam x st ≡ t
  tested t c n st k =
      admitted_is beam x st ∙ ap (λ (l : List Item). ltb (length l) beam || beats_worst x l) k.work_is
      ∙ sym (admits_is x c.own c.near beam k.kept) ∙ ap₂ ltb (sym is_key) (sym k.bound_is) ∙ c.test

  pub admit_out : Comes s.work.bound dist id false → Admitted beam s s dist id
  admit_out c =
      record {
        nearer = λ k h l. refl;
        capped = refl;
        working = λ n st below k.
            let a = tested false c n st k in
            subst₂ (Works n beam s) (sym (meet_frontier beam x st false a)) (sym (meet_work beam x st false a)) k;
      }

  module _ (c : Comes s.work.bound dist id true) where
    slot_at : (n : ℕ) (frontier work : List Item) → Works n beam s frontier work → Slot x c.own c.near n beam s frontier work (last_of beam s.work.len)
    slot_at n frontier work k =
        slot x c.own c.near n beam s frontier work k
        (subst (λ (i : ℕ). i < s.work.bound) is_key (ltb-true (open_key dist id) s.work.bound c.test))

    pub last_below : Working beam s → last_of beam s.work.len < beam
    last_below w = (slot_at w.n w.frontier w.work w.is).room

    module _ (last : ℕ) (l : last ≡ last_of beam s.work.len) where
      pub admit_asks : Working beam s
          → Rising s.keys × (PlaceIn s.keys (open_key dist id) 0 256 × ((last < length s.keys) × (open_key dist id < get_or s.keys last 0)))
      admit_asks w =
          rw (is_key, l)
          (put_asks x c.own c.near w.n beam s w.frontier w.work w.is (last_of beam s.work.len)
          (slot_at w.n w.frontier w.work w.is))

      pub admit_in : Working beam s → (at : ℕ) (after : List ℕ) → Put s.keys last (open_key dist id) at after
          → Admitted beam s (standing after (works (last + 1) (min s.work.done at) (bound_k after (last + 1) beam))) dist id
      admit_in w at after p =
          record {
            nearer = put_nearer p (works_rise w.is);
            capped = drop_more (last + 1) beam after s.keys (omega (arith, last_below w)) p.shift.only.above;
            working = λ n st below k.
                let a = tested true c n st k in
                subst₂ (Works n beam (standing after (works (last + 1) (min s.work.done at) (bound_k after (last + 1) beam))))
                (sym (meet_frontier beam x st true a)) (sym (meet_work beam x st true a))
                (works_after x c.own c.near n beam s st.frontier st.work k last (rw l (slot_at n st.frontier st.work k)) below at after
                (rw is_key at p));
          }
