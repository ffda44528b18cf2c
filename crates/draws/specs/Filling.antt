-- Words drawn and written from the front of a slice: `rest` is what is still to be drawn, from the generator as it stands.
use Rattle.std.specs.Prelude.{◌≡◌, ℕ, ◌≤◌, List, [], length, refl}
use Rattle.definition.specs.Draws.{Drawn}
use Rattle.draws.specs.Says.{Leaves}
use Rattle.laws.specs.Writing.{Writing, start, ends}

pub record Filling (d : Drawn) (o out : List ℕ) (j : ℕ) (rest : Drawn) : Type 0 where
  pub words : Writing d.words o out j rest.words
  pub state_is : rest.state ≡ d.state

pub fill_start : (d : Drawn) (o : List ℕ) → Filling d o o 0 d
fill_start d o = record { words = start d.words o; state_is = refl }

pub fill_ends : (d : Drawn) (o out : List ℕ) (j s : ℕ) → j ≤ length out → Filling d o out j (record { words = []; state = s }) → Leaves d o s out
fill_ends d o out j s h f = record { words_are = ends d.words o out j h f.words; state_is = f.state_is }
