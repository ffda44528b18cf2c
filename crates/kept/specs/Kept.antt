-- Work and frontier in one beam. An item of work is kept with whether it is open: its row is not yet walked, and it stands in the frontier.
-- What else the frontier has was cut from work, and is never walked: it is no nearer than the worst of a work that is full.
use Rattle.std.specs.Prelude.{◌≡◌, Bool, true, false, cond, List, [], ◌∷◌, map, ℕ, ◌≤◌, ◌<◌, ltb, length}
use Rattle.definition.specs.Beam.{Item, worst}
use Rattle.laws.specs.All.{All}
use Rattle.beam.specs.Keys.{half, closed_key, open_key}

pub record Kept : Type 0 where
  pub of : Item
  pub is_open : Bool

abbrev pub opening : Item → Kept
opening x = record { of = x; is_open = true }

-- the item as one number
unfoldable pub key_of : Kept → ℕ
key_of k = cond k.is_open (open_key k.of.dist k.of.id) (closed_key k.of.dist k.of.id)

abbrev pub keys_of : List Kept → List ℕ
keys_of ks = map key_of ks

abbrev pub items : List Kept → List Item
items ks = map (λ (k : Kept). k.of) ks

unfoldable pub opens : List Kept → List Item
opens [] = []
opens (k ∷ ks) = let r = opens ks in cond k.is_open (k.of ∷ r) r

-- none is open
abbrev pub Closed : List Kept → Type 0
Closed ks = All (λ (k : Kept). k.is_open ≡ false) ks

-- an entry below n, at a distance that fits into half a key
abbrev pub Inside : ℕ → Kept → Type 0
Inside n k = (k.of.id < n) × (k.of.dist < half)

-- keys fall: as in the definition's beams, the worst comes first
abbrev pub Falling : List Kept → Type 0
Falling [] = Unit {0}
Falling (k ∷ ks) = All (λ (l : Kept). key_of l ≤ key_of k) ks × Falling ks

-- no nearer than the worst of a full work
abbrev pub Beyond : ℕ → List Item → Item → Type 0
Beyond beam work r = (0 < length work) × ((beam ≤ length work) × (ltb r.dist (worst work).dist ≡ false))
