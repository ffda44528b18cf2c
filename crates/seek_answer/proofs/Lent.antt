-- The number of the search and its answers do not turn on the room that is lent, if it is enough.
use mathlib.Core.Path.{◌≡◌, refl, sym, ◌∙◌}
use mathlib.Core.Bool.{Bool, true, false}
use mathlib.Core.List.{List}
use Prim.Native.Nat.{ℕ, zero, suc, ◌+◌, ◌*◌, ◌≤◌}
use native.Mathlib.Nat.{mul-le-mul}
use native.Mathlib.Omega.{arith}
use borrow.Author.Tests.{le-ltb}
use lib.Ieee.{Float}
use lib.ListN.{length, get_or}
use Rattle.definition.specs.Refusals.{SearchCall, ◌when◌else◌, bad_dim, bad_beam, short, most_answers, search_short, search_number_at, search_number}
use Rattle.definition.specs.Refusals.{search_words, search_floats}
use Rattle.definition.specs.Outcome.{found}
use Rattle.definition.specs.Seek.{the_n, the_dim, the_degree, the_vectors, the_rows, the_query, seek_call}
use Rattle.theory.specs.seek.Room.{seek-room}
use Rattle.accepted.specs.Checks.{dim_good, beam_good}
use Rattle.seek_text.specs.Text.{Limits}
use Rattle.seek_answer.specs.Answering.{Room}

-- the tests of a search in their order: those before the room, the room, and the query's
abbrev numbered : (a b g h e f t : Bool) → ℕ → ℕ
numbered a b g h e f t x = 1 when a else 2 when b else 3 when g else 4 when h else 6 when e else 8 when f else 10 when t else x

chain : (a b g h e f t u : Bool) (x : ℕ) → (a ≡ false → h ≡ false → t ≡ u) → numbered a b g h e f t x ≡ numbered a b g h e f u x
unfolding ◌when◌else◌
chain true b g h e f t u x q = refl
chain false true g h e f t u x q = refl
chain false false true h e f t u x q = refl
chain false false false true e f t u x q = refl
chain false false false false e f t u x q = rw (q refl refl) refl

short_none : {A : Type 0} (room : ℕ) (l : List A) → room ≤ length l → short room l ≡ false
unfolding short
short_none room l h = le-ltb (length l) room h

most_few : (beam k : ℕ) → beam ≤ 256 → most_answers beam k ≤ 256
unfolding most_answers
most_few beam k h = omega arith

n_few : (n dim : ℕ) → 1 ≤ dim → n * dim ≤ 4096 → n ≤ 4096
n_few n zero z h = absurd (omega arith)
n_few n (suc dim) z h = omega (arith, mul-le-mul {n₁ = n} {m₁ = 1} {n₂ = n} {m₂ = suc dim} (omega arith) (omega arith))

-- the call that the program makes
abbrev pub lent_call : List ℕ → List ℕ → List Float → List ℕ → List Float → SearchCall
lent_call vs words floats ids dists =
    record {
      n = the_n vs;
      dim = the_dim vs;
      vectors = the_vectors vs;
      degree = the_degree vs;
      beam = get_or vs 4 0;
      k = get_or vs 5 0;
      start = get_or vs 3 0;
      table = the_rows vs;
      query = the_query vs;
      words = words;
      floats = floats;
      ids = ids;
      dists = dists;
    }

module _ {vs vectors query words : List ℕ} {floats : List Float} {ids : List ℕ} {dists : List Float} {out : List ℕ}
    (l : Limits vs) (room : Room vectors query words floats ids dists out) where
  abbrev call : SearchCall
  call = lent_call vs words floats ids dists

  lent_none : bad_dim (the_dim vs) ≡ false → bad_beam (get_or vs 4 0) ≡ false → search_short call ≡ false
  unfolding search_short search_words search_floats
  lent_none a h =
      let n = n_few (the_n vs) (the_dim vs) (dim_good (the_dim vs) a).0 l.vectors_few in
      let most = most_answers (get_or vs 4 0) (get_or vs 5 0) in
      let m : most ≤ 256 = most_few (get_or vs 4 0) (get_or vs 5 0) (beam_good (get_or vs 4 0) h) in
      let words-few = short_none (the_n vs + 512) words (omega (arith, n, room.words_room)) in
      let floats-few = short_none 512 floats room.floats_room in
      let ids-few = short_none most ids (omega (arith, m, room.ids-room)) in
      let dists-few = short_none most dists (omega (arith, m, room.ids-room, room.dists_room)) in
      rw (words-few, floats-few, ids-few, dists-few) refl

  pub number_same : search_number call ≡ search_number (seek_call vs)
  unfolding search_number search_number_at seek_call
  number_same = chain _ _ _ _ _ _ (search_short call) (search_short (seek_call vs)) _ (λ a h. lent_none a h ∙ sym (seek-room vs))

pub found-same : (vs words : List ℕ) (floats : List Float) (ids : List ℕ) (dists : List Float)
    → found (lent_call vs words floats ids dists) ≡ found (seek_call vs)
unfolding found seek_call
found-same vs words floats ids dists = refl
