-- What is read: a part behind the part before it, and a whole text, as the answer sees it.
use Rattle.std.specs.Prelude.{◌≡◌, Option, Some, None, Result, Ok, Err, IfOk, List, ◌++◌, ℕ, ◌+◌, ◌≤◌, ◌<◌, length, take, IfSome}
use Rattle.std.proofs.Common.{sym, ap, ◌∙◌, length-take-le}
use Rattle.std.proofs.lemmas.List.{take-append-le}
use Rattle.std.proofs.Math.Seq.{take-append-add}
use Rattle.std.specs.Io.KnownBytes.{Consumes, IsAtEnd}
use borrow.Rule.Slice.PartMut.{put_mid, post_of}
use Rattle.definition.specs.Seek.{most_input, seek}
use Rattle.seek_input.specs.Streams.{IsFront, TextRead, text_read}

-- n bytes more at the front, once ys are put from `a` on
pub front_more : (a k n : ℕ) (xs ys : List ℕ) → a ≤ length xs → n ≤ length ys → take (a + n) (put_mid a k xs ys) ≡ take a xs ++ take n ys
front_more a k n xs ys within fits =
    ap (λ m. take (m + n) (put_mid a k xs ys)) (sym (length-take-le a xs within))
    ∙ take-append-add (take a xs) (ys ++ post_of a k xs) n
    ∙ ap (λ l. take a xs ++ l) (take-append-le n ys (post_of a k xs) fits)

-- the answer for what was read is the answer for all that the reader had
pub read_whole : (had left : Option (List ℕ)) (count : ℕ) (text : List ℕ) → TextRead count text → Consumes had left (take count text)
    → (count < length text → IsAtEnd left) → IfSome had (λ input. seek (take count text) ≡ seek input)
read_whole None left count text r c e = tt
read_whole (Some xs) None count text r c e = absurd c
read_whole (Some xs) (Some rest) count text r c e = sym (ap seek c ∙ r.whole rest e)

-- the same of a read that may fail
pub front_read : {Error : Type 0} (text : List ℕ) → most_input < length text → (r : Result ℕ Error) → IfOk r (λ count. IsFront count text)
    → IfOk r (λ count. TextRead count text)
front_read text more (Ok count) f = text_read count text more f
front_read text more (Err e) f = tt

pub whole_read : {Error : Type 0} (had left : Option (List ℕ)) (text : List ℕ) (r : Result ℕ Error) → IfOk r (λ count. TextRead count text)
    → IfOk r (λ count. Consumes had left (take count text)) → IfOk r (λ count. count < length text → IsAtEnd left)
    → IfOk r (λ count. IfSome had (λ input. seek (take count text) ≡ seek input))
whole_read had left text (Ok count) f c e = read_whole had left count text f c e
whole_read had left text (Err x) f c e = tt
