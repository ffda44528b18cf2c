-- What is known of a text that was read, and of the bytes that are handed over for it.
use Rattle.std.specs.Prelude.{◌≡◌, refl, Bool, true, false, List, [], ◌++◌, ℕ, ◌≤◌, ◌<◌, ltb, length, take}
use Rattle.std.proofs.Common.{sym, ◌∙◌, append-nil, arith, ltb-true, ltb-false, length-append}
use Rattle.std.proofs.Math.Nat.{sub-zero}
use Rattle.definition.specs.Seek.{most_input, seek}
use Rattle.laws.specs.Parts.{part}
use Rattle.seek_print.specs.Printed.{Put}
use Rattle.seek_answer.specs.Answering.{seek_long}

-- `count` bytes at the start of a buffer: no more than it has
abbrev pub IsFront : ℕ → List ℕ → Type 0
IsFront count text = (count ≤ length text) × (count ≡ length (take count text))

-- `count` bytes at the start of a buffer were read. If nothing of the input is left where the buffer is not full, then the answer is that of the whole input,
-- whatever is left of it: a full buffer is a text that is too long, however it goes on
pub record TextRead (count : ℕ) (text : List ℕ) : Type 0 where
  pub counts : IsFront count text
  pub whole : (rest : List ℕ) → (count < length text → rest ≡ []) → seek (take count text ++ rest) ≡ seek (take count text)

pub text_read : (count : ℕ) (text : List ℕ) → most_input < length text → IsFront count text → TextRead count text
text_read count text more counts = record { counts = counts; whole = λ rest ends. go rest ends (ltb count (length text)) refl }
  where
    go : (rest : List ℕ) → (count < length text → rest ≡ []) → (p : Bool) → ltb count (length text) ≡ p
        → seek (take count text ++ rest) ≡ seek (take count text)
    go rest ends true e = rw (ends (ltb-true count (length text) e), append-nil) refl
    go rest ends false e =
        let full : length text ≤ count = ltb-false count (length text) e in
        seek_long (take count text ++ rest) (omega (arith, length-append (take count text) rest, counts.1))
        ∙ sym (seek_long (take count text) (omega (arith, counts.1)))

-- what is put for the first `count` bytes of a text, and handed over
pub put_handed : (text : List ℕ) {out₀ out : List ℕ} (count : ℕ) {end : ℕ} → Put (seek (part 0 count text)) out₀ 0 out end
    → take end out ≡ seek (take count text)
put_handed text count p = p.are ∙ rw (sub-zero count) refl
