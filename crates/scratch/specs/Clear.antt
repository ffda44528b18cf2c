-- The room at the end of a call.
use Rattle.std.specs.Prelude.{ℕ, ◌≤◌, ◌≡◌, List, ◌++◌, Float, length, take, drop, replicate}
use Rattle.std.proofs.Common.{ap, ◌∙◌, length-take-le}
use Rattle.std.specs.Float.Ieee.{of_bits}
use Rattle.std.specs.Float.{binary32}
use Rattle.definition.specs.Lists.{cleared}
use Rattle.definition.specs.Floats.{nought}
use Rattle.definition.specs.Refusals.{build_words, build_floats}
use Rattle.scratch.specs.Layout.{fresh_end, floats_end}

-- the first w words and f floats are 0, what lies beyond is untouched
pub record FrontClear (w f : ℕ) (words₀ : List ℕ) (floats₀ : List Float) (words : List ℕ) (floats : List Float) : Type 0 where
  pub words_are : words ≡ cleared 0 w words₀
  pub floats_are : floats ≡ cleared nought f floats₀

-- a front that came back all z
put-cleared : {A : Type 0} (z : A) (room : ℕ) (l front : List A) → room ≤ length l → front ≡ replicate (length (take room l)) z → front ++ drop room l ≡ cleared z room l
unfolding cleared
put-cleared {A} z room l front h e = ap (λ (k : List A). k ++ drop room l) (e ∙ ap (λ (k : ℕ). replicate k z) (length-take-le room l h))

pub front-clear : (w f : ℕ) (words : List ℕ) (floats : List Float) (ws : List ℕ) (fs : List Float) → w ≤ length words → f ≤ length floats
    → ws ≡ replicate (length (take w words)) 0 → fs ≡ replicate (length (take f floats)) (of_bits binary32 0)
    → FrontClear w f words floats (ws ++ drop w words) (fs ++ drop f floats)
unfolding nought
front-clear w f words floats ws fs hw hf ew ef = record { words_are = put-cleared 0 w words ws hw ew; floats_are = put-cleared (of_bits binary32 0) f floats fs hf ef }

-- the room of a build call, against any lists, as those at the call's entry, that are the same beyond the room
pub record RoomClear (n : ℕ) (words₀ : List ℕ) (floats₀ : List Float) (words : List ℕ) (floats : List Float) : Type 0 where
  pub words_are : (from : List ℕ) → drop (fresh_end n) words₀ ≡ drop (fresh_end n) from → words ≡ cleared 0 (build_words n) from
  pub floats_are : (from : List Float) → drop (floats_end n) floats₀ ≡ drop (floats_end n) from → floats ≡ cleared nought (build_floats n) from

pub room-clear : (n w f : ℕ) (words₀ : List ℕ) (floats₀ : List Float) (words : List ℕ) (floats : List Float) → w ≡ fresh_end n → f ≡ floats_end n
    → FrontClear w f words₀ floats₀ words floats → RoomClear n words₀ floats₀ words floats
unfolding build_words build_floats cleared
room-clear n w f words₀ floats₀ words floats we fe c =
    record {
      words_are = λ from q. c.words_are ∙ ap (λ (k : ℕ). cleared 0 k words₀) we ∙ ap (λ (l : List ℕ). replicate (fresh_end n) 0 ++ l) q;
      floats_are = λ from q. c.floats_are ∙ ap (λ (k : ℕ). cleared nought k floats₀) fe ∙ ap (λ (l : List Float). replicate (floats_end n) nought ++ l) q;
    }
