-- The program `seek`: it lends room enough and takes a query of dim values, so that of the numbers that concern a search 10 and 11 never come from a text; and
-- demand 3, second sentence, over what it prints, as it is read back.
use Rattle.std.specs.Prelude.{ℕ, zero, suc, ◌-◌, ◌≤◌, ◌<◌, max, min, ◌≡◌, refl, ◌≢◌, Bool, true, false, not, leb, ltb, length}
use native.Mathlib.Omega.{arith}
use Rattle.std.proofs.Common.{sym, ap₂, ◌∙◌, subst}
use Rattle.std.proofs.Math.Path.{ap}
use mathlib.Core.List.Memᴰ.{head as here}
use mathlib.Core.List.{List, [], ◌∷◌, map, Pairwise, Memᴰ as Mem}
use borrow.Author.Tests.{eq-eqb, leb-true, not-false}
use Rattle.std.proofs.Math.ListN.{get_or, get_or-append}
use Rattle.std.proofs.lemmas.List.{length-map}
use Rattle.std.proofs.Math.Seq.{append_snoc}
use Rattle.definition.specs.Lists.{joined, is_in}
use Rattle.definition.specs.Beam.{Item, nobody}
use Rattle.definition.specs.Search.{listed_first}
use Rattle.definition.specs.Refusals.{SearchCall, search_number, search_number_at, ◌when◌else◌}
use Rattle.definition.specs.Outcome.{found, found_ids, by_number}
use Rattle.definition.specs.Seek.{values, the_dim, the_vectors, the_query}
use Rattle.definition.specs.Seek.{well_formed, seek_call, most_input, malformed, seek_number, is_digit, decimal, print_refused, print_item, print_found, seek}
use Rattle.laws.specs.Truth.{and_both, or_neither}
use Rattle.laws.specs.Members.{each_mem, mem-at, is_in-mem, is_in-none}
use Rattle.laws.specs.Items.{ids_of}
use Rattle.theory.specs.Metric.{query_small}
use Rattle.theory.specs.seek.Room.{seek-room}
use Rattle.theory.specs.seek.Samples.{text_bytes, query_length}
use Rattle.theory.specs.search.Tells.{SearchTells, Excludes}
use Rattle.accepted.specs.Outcomes.{by_success}
use Rattle.accepted.specs.Search.{SearchAccepted, seek-accepted, search_answers}
use Rattle.promises.specs.Searching.{rows_of, distance_to, last_distance, told, search_excludes, search_ordered}
use Rattle.theory.specs.seek.Decimals.{decimal_reads_back}
use Rattle.theory.specs.seek.Printing.{count_read, items_read, Small, items_read_lem}

formed : (text : List ℕ) → malformed text ≡ false → well_formed (values text) ≡ true
unfolding malformed
formed text f = not-false (well_formed (values text)) (or_neither (ltb most_input (length text)) (not (well_formed (values text))) f).1

-- ---- the numbers

-- those that a text can be refused with, and 0
unfoldable pub seek_numbers : List ℕ
seek_numbers = 0 ∷ 1 ∷ 2 ∷ 3 ∷ 4 ∷ 6 ∷ 8 ∷ 13 ∷ []

-- the number of a check that may hold, and of one that does not
may : (k : ℕ) (b : Bool) {r : ℕ} → is_in k seek_numbers ≡ true → Mem r seek_numbers → Mem (k when b else r) seek_numbers
unfolding ◌when◌else◌
may k true p q = is_in-mem k seek_numbers p
may k false p q = q

cannot : (k : ℕ) {b : Bool} {r : ℕ} → b ≡ false → Mem r seek_numbers → Mem (k when b else r) seek_numbers
unfolding ◌when◌else◌
cannot k {r = r} e q = subst (λ (b : Bool). Mem (k when b else r) seek_numbers) (sym e) q

searched_numbers : (vs : List ℕ) → well_formed vs ≡ true → Mem (search_number (seek_call vs)) seek_numbers
unfolding search_number search_number_at seek_call seek_numbers is_in
searched_numbers vs t =
    may 1 _ refl (may 2 _ refl (may 3 _ refl (may 4 _ refl (may 6 _ refl (may 8 _ refl
    (cannot 10 (seek-room vs) (cannot 11 (ap not (eq-eqb _ _ (query_length vs t))) (here refl))))))))

pub seek_numbers_lem : (text : List ℕ) → Mem (seek_number text) seek_numbers
unfolding seek_number seek_numbers is_in ◌when◌else◌
seek_numbers_lem text = go (malformed text) refl
  where
    go : (b : Bool) → malformed text ≡ b → Mem (13 when b else search_number (seek_call (values text))) seek_numbers
    go true e = is_in-mem 13 seek_numbers refl
    go false e = searched_numbers (values text) (formed text e)

pub seek_never_short : (text : List ℕ) → (seek_number text ≢ 10) × (seek_number text ≢ 11)
unfolding seek_numbers is_in
seek_never_short text = (never 10 refl, never 11 refl)
  where
    never : (k : ℕ) → is_in k seek_numbers ≡ false → seek_number text ≢ k
    never k f e = is_in-none k seek_numbers f (subst (λ (m : ℕ). Mem m seek_numbers) e (seek_numbers_lem text))

-- ---- what is printed

-- what does not begin with `r` is no refusal
unrefused : (text : List ℕ) → get_or (seek text) 0 0 ≢ 114 → seek_number text ≡ 0
unfolding seek by_number print_refused
unrefused text n = go (seek_number text) n
  where
    go : (k : ℕ) → get_or (by_number k (print_refused (seek_number text)) (print_found (found (seek_call (values text))))) 0 0 ≢ 114 → k ≡ 0
    go zero h = refl
    go (suc k) h = absurd (h refl)

ids-length : (l : List Item) → length (ids_of l) ≡ length l
ids-length l = length-map l (λ (x : Item). x.id)

module _ (text : List ℕ) (z : seek_number text ≡ 0) where
  call : SearchCall
  call = seek_call (values text)

  well : well_formed (values text) ≡ true
  well = formed text (seek-accepted text z).0

  accepted : SearchAccepted call
  unfolding call
  accepted = (seek-accepted text z).1

  distance_most : (i : ℕ) → distance_to call i ≤ 16646400
  unfolding call seek_call
  distance_most i =
      let vs = values text in
      let bytes = text_bytes vs well in
      query_small (the_dim vs) (the_vectors vs) (the_query vs) (omega (arith, accepted.dim_few, query_length vs well)) bytes.0 bytes.1 i

  small : (x : Item) → Mem x (found call) → Small x
  small x m =
      let a = search_answers call accepted x m in
      record {
        id_small = omega (arith, a.1, accepted.nodes);
        dist_small = omega (arith, a.0, distance_most x.id);
      }

  few : length (found call) ≤ 256
  unfolding found_ids
  few = omega (arith, (told call accepted).most, ids-length (found call), accepted.beam_few)

  printed : seek text ≡ print_found (found call)
  unfolding seek call
  printed = by_success (print_refused (seek_number text)) (print_found (found (seek_call (values text)))) (seek_number text) z

  begins : get_or (seek text) 0 0 ≢ 114
  unfolding print_found is_digit
  begins e =
      let count = decimal (length (found call)) in
      let lines = joined (map print_item (found call)) in
      let p = decimal_reads_back (length (found call)) (omega (arith, few)) in
      let first : get_or (seek text) 0 0 ≡ get_or count 0 0 =
      ap (λ (l : List ℕ). get_or l 0 0) (printed ∙ append_snoc count 10 lines) ∙ get_or-append count (10 ∷ lines) 0 0 p.some in
      let digit = each_mem is_digit count p.digit (get_or count 0 0) (mem-at 0 count 0 p.some) in
      let low = leb-true (get_or count 0 0) 57 (and_both (leb 48 (get_or count 0 0)) (leb (get_or count 0 0) 57) digit).1 in
      omega arith

-- a text is answered exactly where what is printed does not begin with `r`
pub seek-answers : (text : List ℕ) → (get_or (seek text) 0 0 ≢ 114 → seek_number text ≡ 0) × (seek_number text ≡ 0 → get_or (seek text) 0 0 ≢ 114)
seek-answers text = (unrefused text, begins text)

-- what is printed for a text, c its search: a line with the count and a line for each answer; so read, as many items as the count says, each below n and with
-- its own distance, by distance and then the higher id; the last distance is that of the last; and the ids tell and exclude what demand 3 says
pub record SeekHeld (c : SearchCall) (bytes : List ℕ) : Type 0 where
  pub bytes_are : bytes ≡ print_found (found c)
  pub items_are : items_read bytes ≡ found c
  pub count_is : count_read bytes ≡ length (items_read bytes)
  pub own : (x : Item) → Mem x (items_read bytes) → (x.dist ≡ distance_to c x.id) × (x.id < c.n)
  pub ordered : Pairwise (λ (x y : Item). listed_first x y ≡ true) (items_read bytes)
  pub last : (get_or (items_read bytes) (count_read bytes - 1) nobody).dist ≡ last_distance c
  pub tells : SearchTells (rows_of c) (distance_to c) c.start (min c.k (max c.beam 1)) (ids_of (items_read bytes)) (last_distance c)
  pub excludes : Excludes (rows_of c) (distance_to c) c.start (ids_of (items_read bytes)) (last_distance c)

pub seek-held : (text : List ℕ) → seek_number text ≡ 0 → SeekHeld (seek_call (values text)) (seek text)
unfolding call found_ids
seek-held text z =
    let c = seek_call (values text) in
    let a = (seek-accepted text z).1 in
    let read = items_read_lem (found c) (omega (arith, few text z)) (small text z) in
    let items : items_read (seek text) ≡ found c = ap items_read (printed text z) ∙ read.1 in
    let count : count_read (seek text) ≡ length (found c) = ap count_read (printed text z) ∙ read.0 in
    record {
      bytes_are = printed text z;
      items_are = items;
      count_is = count ∙ ap length (sym items);
      own = λ x m. search_answers c a x (subst (λ (l : List Item). Mem x l) items m);
      ordered = subst (λ (l : List Item). Pairwise (λ (x y : Item). listed_first x y ≡ true) l) (sym items) (search_ordered c a);
      last = ap₂ (λ (l : List Item) (k : ℕ). (get_or l (k - 1) nobody).dist) items count;
      tells = subst (λ (l : List Item). SearchTells (rows_of c) (distance_to c) c.start (min c.k (max c.beam 1)) (ids_of l) (last_distance c)) (sym items)
          (told c a);
      excludes = subst (λ (l : List Item). Excludes (rows_of c) (distance_to c) c.start (ids_of l) (last_distance c)) (sym items) (search_excludes c a);
    }
