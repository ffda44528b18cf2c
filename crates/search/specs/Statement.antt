-- What a search that is accepted leaves, and the public statement from its number; a lookup as a search.
use Rattle.std.specs.Prelude.{◌≡◌, List, ℕ, ◌≤◌, Float}
use Rattle.std.proofs.Math.Path.{sym, ap}
use Rattle.std.proofs.Common.{◌∙◌, subst}
use Rattle.definition.specs.declared.Answer.{Answer}
use Rattle.definition.specs.Refusals.{SearchCall, most_answers, search_number}
use Rattle.definition.specs.Outcome.{search_answer, refused, search_kept, search_done, search_out, SearchMeets, SearchOut, cleaned_call, lookup_out, LookupMeets}
use Rattle.accepted.specs.Outcomes.{by_refusal, by_success}
use Rattle.accepted.specs.Search.{SearchAccepted as Accepted, accepted-at, cleaned-call}
use Rattle.checks_number.specs.SearchNumber.{NumberedBeside, plain}
use Rattle.search.specs.declared.Found.{Found}

abbrev pub out_of : Answer → List ℕ → List Float → List ℕ → List Float → SearchOut
out_of a words floats ids dists = record { answer = a; words = words; floats = floats; ids = ids; dists = dists }

-- the answer that a walk's counts make
abbrev pub answer_of : Found → Answer
answer_of r = search_answer r.count r.expanded r.measured

-- an accepted search
pub record Searched (c : SearchCall) (o : SearchOut) : Type 0 where
  pub is : o ≡ search_done c
  pub few : o.answer.count ≤ most_answers c.beam c.k

pub searched-same : {c : SearchCall} {a r : Answer} {words : List ℕ} {floats : List Float} {ids : List ℕ} {dists : List Float}
    → r ≡ a → Searched c (out_of a words floats ids dists) → Searched c (out_of r words floats ids dists)
searched-same {c} {words = words} {floats} {ids} {dists} e s = subst (λ (b : Answer). Searched c (out_of b words floats ids dists)) (sym e) s

-- number 0: it may be made, and its answers fit in the run
pub beside-accepted : (c : SearchCall) (run r : ℕ) → NumberedBeside c run r → r ≡ 0 → Accepted c × (most_answers c.beam c.k ≤ run)
beside-accepted c run r m z = accepted-at c run (sym m ∙ z)

meets : (c : SearchCall) (o : SearchOut) → o ≡ search_out c → SearchMeets c o
meets c o q =
    record {
      answer_is = ap (λ (x : SearchOut). x.answer) q;
      words_is = ap (λ (x : SearchOut). x.words) q;
      floats_is = ap (λ (x : SearchOut). x.floats) q;
      ids_are = ap (λ (x : SearchOut). x.ids) q;
      dists_are = ap (λ (x : SearchOut). x.dists) q;
    }

-- ---- a lookup is the search of the call as cleaned

pub lookup_meets : (c : SearchCall) (o : SearchOut) → SearchMeets (cleaned_call c) o → LookupMeets c o
unfolding lookup_out
lookup_meets c o m =
    record { answer_is = m.answer_is; words_is = m.words_is; floats_is = m.floats_is; ids_are = m.ids_are; dists_are = m.dists_are }

-- and an accepted search is the lookup of its call
module _ (c : SearchCall) (a : Accepted c) where
  pub cleaned_accepted : Accepted (cleaned_call c)
  cleaned_accepted = subst Accepted (sym (cleaned-call c a.ruled)) a

  pub cleaned-searched : (o : SearchOut) → Searched (cleaned_call c) o → Searched c o
  cleaned-searched o s = subst (λ (d : SearchCall). Searched d o) (cleaned-call c a.ruled) s

-- ---- the public statement: without records it is as if there were k of them
module _ (c : SearchCall) (r : ℕ) (m : NumberedBeside c c.k r) where
  number_is : r ≡ search_number c
  number_is = plain c r m

  pub search_refused : (r ≡ 0 → ⊥) → (a : Answer) → a ≡ refused r → SearchMeets c (out_of a c.words c.floats c.ids c.dists)
  unfolding search_out search_kept
  search_refused h a e =
      meets c _
      (ap (λ (x : Answer). out_of x c.words c.floats c.ids c.dists) (e ∙ ap refused number_is)
      ∙ sym (by_refusal (search_kept c) (search_done c) (search_number c) (λ z. h (number_is ∙ z))))

  pub search_done_lem : r ≡ 0 → (o : SearchOut) → Searched c o → SearchMeets c o
  unfolding search_out
  search_done_lem z o s = meets c o (s.is ∙ sym (by_success (search_kept c) (search_done c) (search_number c) (sym number_is ∙ z)))
