-- Chains and seats made in the words, from heads and seats that are 0; and what they say of a node. The three steps write between the marks and the fresh
-- rows alone, so the marks stay and the entries read as they did, and the seats lie apart from heads and links.
use Prim.Native.Nat.{ℕ, ◌+◌, ◌-◌, ◌≤◌, ◌<◌, min}
use native.Mathlib.Omega.{arith}
use mathlib.Core.Path.{◌≡◌, sym, ap, ◌∙◌, subst}
use mathlib.Core.Bool.{Bool, not, ◌||◌}
use mathlib.Core.List.{List}
use borrow.Author.Tests.{eq-eqb, ne_eqb}
use lib.Dec.{eqb}
use lib.ListN.{length, get_or, take, drop, replicate, length-take, length-drop}
use lib.Seq.{get_or-take, get_or-drop, ext_get_or}
use Rattle.definition.specs.Tables.{pad}
use Rattle.definition.specs.Batch.{affected}
use Rattle.laws.specs.Parts.{part, put, Within, part_length, part_at, put_within, put_part, within_at, within_past}
use Rattle.laws.specs.Words.{Below}
use Rattle.scratch.specs.Layout.{heads_at, seats_at, links_at, links_end, fresh_at}
use Rattle.scratch.specs.Zeroed.{zeroed_within, zeroed_at}
use Rattle.given.specs.Fresh.{Merging, entry, entries_of, listed_in}
use Rattle.batch_chains.specs.Last.{last, last-same, seat}
use Rattle.batch_chains.specs.Says.{Laid, Chained, Linked, Once, Seated}
use Rattle.batch_affected.specs.Affected.{affected_is}
use Rattle.batch_merge.specs.Says.{Unlinked, Gatherable, AllLinked}

-- lists that agree below a and from e on
same_within : (a e : ℕ) (l₀ l : List ℕ) → length l ≡ length l₀ → ((k : ℕ) → k < a → get_or l k 0 ≡ get_or l₀ k 0)
    → ((k : ℕ) → e ≤ k → get_or l k 0 ≡ get_or l₀ k 0) → Within a e l₀ l
same_within a e l₀ l s low high =
    record {
      size = s;
      below =
          ext_get_or 0 (take a l) (take a l₀) (length-take a l ∙ ap (min a) s ∙ sym (length-take a l₀))
          (λ k h. let m = length-take a l in get_or-take a l k 0 (omega arith) ∙ low k (omega arith) ∙ sym (get_or-take a l₀ k 0 (omega arith)));
      above =
          ext_get_or 0 (drop e l) (drop e l₀) (length-drop e l ∙ ap (λ (k : ℕ). k - e) s ∙ sym (length-drop e l₀))
          (λ k h. get_or-drop e l k 0 ∙ high (e + k) (omega arith) ∙ sym (get_or-drop e l₀ k 0));
    }

-- `heads`, `seats` and `links` are where the code found that they begin
module _ {f : Merging} (u : Unlinked f) {heads seats links : ℕ} (heads-at : heads ≡ heads_at f.n) (seats-at : seats ≡ seats_at f.n)
    (links-at : links ≡ links_at f.n) (ys : List ℕ) (zeros : ys ≡ replicate (length (part heads links f.words)) 0) where
  fits : links ≤ length f.words
  fits = let r = u.room in omega arith

  -- heads and seats all 0
  abbrev w₁ : List ℕ
  w₁ = put heads links f.words ys

  first : Within heads links f.words w₁
  first = zeroed_within heads links f.words (omega arith) fits zeros

  zero_at : (k : ℕ) → heads ≤ k → k < links → get_or w₁ k 0 ≡ 0
  zero_at k h g =
      let q : heads + (k - heads) ≡ k = omega arith in
      ap (λ (i : ℕ). get_or w₁ i 0) (sym q) ∙ zeroed_at heads links f.words (omega arith) fits zeros (k - heads) (omega arith)

  -- nothing but the words before the links' end has been touched, so the entries have their room
  laid : (w : List ℕ) → length w ≡ length f.words → Laid f.n (entries_of f.nodes) (length w)
  laid w s =
      let b = u.few in
      let r = u.room in
      record { nodes = u.nodes; entries = omega arith; high = omega arith }

  pub link_asks : Laid f.n (entries_of f.nodes) (length w₁) × ((i : ℕ) → i < f.n → get_or w₁ (heads_at f.n + i) 0 ≡ 0)
  link_asks = (laid w₁ first.size, λ i h. zero_at (heads_at f.n + i) (omega arith) (omega arith))

  -- the chains
  module _ (w₂ : List ℕ) (size : length w₂ ≡ length w₁) (l : Linked f.n (entries_of f.nodes) w₁ w₂) where
    all_size : length w₂ ≡ length f.words
    all_size = size ∙ first.size

    seats_length : length (part seats links w₂) ≡ f.n
    seats_length = let r = fits in let s = all_size in part_length seats links w₂ (omega arith) ∙ omega arith

    pub seat_asks : (length f.nodes ≤ 256)
        × (Below (length (part seats links w₂)) f.nodes × ((i : ℕ) → i < length (part seats links w₂) → get_or (part seats links w₂) i 0 ≡ 0))
    seat_asks =
        let s = seats_length in (
          u.few,
          (
            λ i h. let r = u.real i h in omega arith,
            λ i h.
                part_at seats links w₂ i 0 (omega arith)
                ∙ l.kept.between (seats + i) (omega arith) (omega arith)
                ∙ zero_at (seats + i) (omega arith) (omega arith),
          ),
        )

    -- the seats
    module _ (slots : List ℕ) (same : length slots ≡ length (part seats links w₂)) (seated : Seated f.nodes slots) where
      room : links ≤ length w₂
      room = let r = fits in let s = all_size in omega arith

      abbrev w₃ : List ℕ
      w₃ = put seats links w₂ slots

      last_step : Within seats links w₂ w₃
      last_step = put_within seats links w₂ slots (omega arith) room same

      past : (k : ℕ) → links ≤ k → get_or w₃ k 0 ≡ get_or w₂ k 0
      past k h = within_past seats links w₂ w₃ last_step k 0 h

      below_seats : (k : ℕ) → k < seats → get_or w₃ k 0 ≡ get_or w₂ k 0
      below_seats k h = within_at seats links w₂ w₃ last_step k 0 h

      beyond : (k : ℕ) → links_at f.n + entries_of f.nodes ≤ k → get_or w₃ k 0 ≡ get_or f.words k 0
      beyond k h = past k (omega arith) ∙ l.kept.above k h ∙ within_past heads links f.words w₁ first k 0 (omega arith)

      marks_same : (k : ℕ) → k < heads_at f.n → get_or w₃ k 0 ≡ get_or f.words k 0
      marks_same k h = below_seats k (omega arith) ∙ l.kept.below k h ∙ within_at heads links f.words w₁ first k 0 (omega arith)

      entry_two : (a : ℕ) → entry f.n w₂ a ≡ entry f.n w₃ a
      entry_two a = sym (past (fresh_at f.n + a) (omega arith))

      entry_first : (a : ℕ) → entry f.n f.words a ≡ entry f.n w₃ a
      entry_first a = let b = u.few in sym (beyond (fresh_at f.n + a) (omega arith))

      chained : Chained f.n (entries_of f.nodes) w₃
      chained =
          record {
            heads = λ i h.
                below_seats (heads_at f.n + i) (omega arith)
                ∙ l.chained.heads i h
                ∙ last-same (entry f.n w₂) (entry f.n w₃) i (entries_of f.nodes) entry_two;
            nexts = λ e h t.
                past (links_at f.n + e) (omega arith)
                ∙ l.chained.nexts e h (subst (λ (x : ℕ). x < f.n) (sym (entry_two e)) t)
                ∙ last-same (entry f.n w₂) (entry f.n w₃) (entry f.n w₂ e) e entry_two
                ∙ ap (λ (x : ℕ). last (entry f.n w₃) x e) (entry_two e);
          }

      once : Once f.n (entries_of f.nodes) w₃
      once =
          record {
            apart = λ a b h k s e. subst (λ (x : ℕ). f.n ≤ x) (entry_first b) (u.once.apart a b h k s (entry_first a ∙ e ∙ sym (entry_first b)));
          }

      seats_are : (i : ℕ) → i < f.n → get_or w₃ (seats_at f.n + i) 0 ≡ seat f.nodes i 0
      seats_are i h =
          let s = seats_length in
          ap (λ (k : ℕ). get_or w₃ (k + i) 0) (sym seats-at)
          ∙ sym (part_at seats links w₃ i 0 (omega arith))
          ∙ ap (λ (z : List ℕ). get_or z i 0) (put_part seats links w₂ slots (omega arith) room same)
          ∙ seated.seats i (omega (arith, same))

      pub all_linked : AllLinked f.n f.nodes f.words w₃
      all_linked =
          let b = u.few in
          let size₃ : length w₃ ≡ length f.words = last_step.size ∙ all_size in
          record {
            gatherable = record {
              ready = record { few = b; real = u.real; chains = record { laid = laid w₃ size₃; chained = chained; once = once }; seats = seats_are };
              below = λ e h t. subst (λ (x : ℕ). x < f.n) (entry_first e) (u.below e h (λ q. t (sym (entry_first e) ∙ q)));
            };
            within = same_within (heads_at f.n) (links_end f.n) f.words w₃ size₃ marks_same (λ k h. beyond k (omega arith));
          }

-- ---- a node is affected if it has a seat or heads a chain
module _ {f : Merging} {i : ℕ} (r : Gatherable f) (h : i < f.n) where
  -- the words at its seat and at its head
  abbrev its_seat : ℕ
  its_seat = get_or f.words (seats_at f.n + i) 0

  abbrev its_head : ℕ
  its_head = get_or f.words (heads_at f.n + i) 0

  says : affected (listed_in f) i ≡ (not (eqb its_seat 0) || not (eqb its_head 0))
  unfolding pad
  says =
      let few = r.ready.chains.laid.nodes in
      let chain = last (entry f.n f.words) i (entries_of f.nodes) in
      affected_is f i (λ e. omega arith) r.ready.chains.laid.high
      ∙ ap (λ (s : ℕ). not (eqb s 0) || not (eqb chain 0)) (sym (r.ready.seats i h))
      ∙ ap (λ (s : ℕ). not (eqb its_seat 0) || not (eqb s 0)) (sym (r.ready.chains.chained.heads i h))

  -- `seats` and `heads` are where the code found that they begin
  module _ {seats : ℕ} (seats-at : seats ≡ seats_at f.n) where
    seated : get_or f.words (seats + i) 0 ≡ its_seat
    seated = ap (λ (k : ℕ). get_or f.words (k + i) 0) seats-at

    pub by_seat : (get_or f.words (seats + i) 0 ≡ 0 → ⊥) → not (eqb (get_or f.words (seats + i) 0) 0) ≡ affected (listed_in f) i
    by_seat s = ap not (ne_eqb _ 0 s) ∙ sym (says ∙ ap (λ (b : Bool). not b || not (eqb its_head 0)) (ne_eqb its_seat 0 (λ e. s (seated ∙ e))))

    pub by_head : {heads : ℕ} → heads ≡ heads_at f.n → get_or f.words (seats + i) 0 ≡ 0
        → not (eqb (get_or f.words (heads + i) 0) 0) ≡ affected (listed_in f) i
    by_head heads-at s =
        ap (λ (k : ℕ). not (eqb (get_or f.words (k + i) 0) 0)) heads-at
        ∙ sym (says ∙ ap (λ (b : Bool). not b || not (eqb its_head 0)) (eq-eqb its_seat 0 (sym seated ∙ s)))
