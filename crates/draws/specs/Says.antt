-- What the functions of this crate say: the outcomes of the definition, at the values that the code has.
use Rattle.std.specs.Prelude.{◌≡◌, ℕ, ◌<◌, List}
use Rattle.definition.specs.declared.Answer.{Answer}
use Rattle.definition.specs.Lists.{over}
use Rattle.definition.specs.Draws.{Drawn, drawn}
use Rattle.definition.specs.Outcome.{DrawMeets, FillMeets, rows_out, seeds_out, order_out, pivots_out}
use Rattle.draws.specs.declared.Stepped.{Stepped}

abbrev pub stepped : ℕ → Answer → Stepped
stepped s a = record { state = s; answer = a }

-- r is the draw below m
pub record Drew (m s r : ℕ) : Type 0 where
  pub is : r ≡ drawn m s
  pub below : 0 < m → r < m

-- what is drawn stands over the front of the list, and s is the generator's state
pub record Leaves (d : Drawn) (before : List ℕ) (s : ℕ) (after : List ℕ) : Type 0 where
  pub words_are : after ≡ over d.words before
  pub state_is : s ≡ d.state

-- the calls
abbrev pub DrawSays : ℕ → ℕ → Stepped → Type 0
DrawSays s m r = DrawMeets m s (record { answer = r.answer; state = r.state })

abbrev pub RowsSays : ℕ → ℕ → ℕ → List ℕ → Stepped → List ℕ → Type 0
RowsSays s n degree table r after =
    FillMeets (rows_out (record { n = n; degree = degree; table = table; state = s })) (record { answer = r.answer; out = after; state = r.state })

abbrev pub SeedsSays : ℕ → ℕ → ℕ → ℕ → List ℕ → Stepped → List ℕ → Type 0
SeedsSays s n start extra out r after =
    FillMeets (seeds_out (record { n = n; start = start; extra = extra; out = out; state = s })) (record { answer = r.answer; out = after; state = r.state })

abbrev pub OrderSays : ℕ → ℕ → List ℕ → Stepped → List ℕ → Type 0
OrderSays s n out r after = FillMeets (order_out (record { n = n; out = out; state = s })) (record { answer = r.answer; out = after; state = r.state })

abbrev pub PivotsSays : ℕ → ℕ → List ℕ → Stepped → List ℕ → Type 0
PivotsSays s n out r after = FillMeets (pivots_out (record { n = n; out = out; state = s })) (record { answer = r.answer; out = after; state = r.state })
