-- From what the values are answered with to what the text is: 13 for a text that is too long or not well formed, and the answer of its values for any other.
use mathlib.Core.Path.{◌≡◌, refl, sym, ◌∙◌}
use mathlib.Core.Bool.{Bool, true, false, not, cond}
use mathlib.Core.List.{List}
use Prim.Native.Nat.{ℕ, ◌≤◌, ◌<◌}
use borrow.Author.Tests.{le-ltb}
use lib.ListN.{length, take}
use Rattle.definition.specs.Refusals.{◌when◌else◌, search_number}
use Rattle.definition.specs.Outcome.{found, by_number}
use Rattle.definition.specs.Seek.{well_formed, seek_call, print_refused, print_found, seek, seek_number, malformed, most_input, values}
use Rattle.seek_text.specs.Text.{Values, Taken}
use Rattle.seek_print.specs.Printed.{Put}
use Rattle.seek_answer.specs.Answering.{answer_of, values_of, seek_long}

module _ {out₀ out : List ℕ} {e : ℕ} where
  pub values_bad : {vs vectors query : List ℕ} {r : Bool} → Taken vs vectors query r → r ≡ false → Put (print_refused 13) out₀ 0 out e
      → Put (values_of vs) out₀ 0 out e
  unfolding values_of
  values_bad t f g = rw (sym t.says ∙ f) g

  pub values_good : (vs : List ℕ) → well_formed vs ≡ true → Put (answer_of vs) out₀ 0 out e → Put (values_of vs) out₀ 0 out e
  unfolding values_of
  values_good vs w g = rw w g

  pub text_long : (text : List ℕ) → 65536 < length text → Put (print_refused 13) out₀ 0 out e → Put (seek text) out₀ 0 out e
  unfolding most_input
  text_long text h g = rw (seek_long text h) g

by_13 : (b : Bool) (x : ℕ) (m : List ℕ)
    → by_number (13 when not b else x) (print_refused (13 when not b else x)) m ≡ cond b (by_number x (print_refused x) m) (print_refused 13)
unfolding ◌when◌else◌ by_number
by_13 true x m = refl
by_13 false x m = refl

pub text_read : {text vals out₀ out : List ℕ} {count e : ℕ} → length text ≤ 65536 → Values text vals count → Put (values_of (take count vals)) out₀ 0 out e
    → Put (seek text) out₀ 0 out e
unfolding seek seek_number malformed most_input values_of answer_of
text_read {text} {count = count} h v g =
    let call = seek_call (values text) in
    rw (le-ltb 65536 (length text) h, by_13 (well_formed (values text)) (search_number call) (print_found (found call))) (rw v.are at g)
