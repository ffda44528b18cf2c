-- A walk as a script: `do`, a line for each step. A line that binds, `x ← rule ..`, is a rule whose premise holds for every x.
use Rattle.std.specs.Prelude.{List}
use seplogic.Ra.Ura.{Ura}
use types.Logic.{Logic}
use types.Kit.{Item, Goal, Seq, Step}

abbrev pub ◌>>◌ : {M : Type 1} {𝓤 : Ura M} {𝓛 : Logic 𝓤} {K : Type 0} {Γ' Γ : List (Item 𝓤)} {G' G : Goal 𝓤 𝓛.H}
    → Step K 𝓛 Γ' G' Γ G → Seq K 𝓛 Γ' G' → Seq K 𝓛 Γ G
◌>>◌ r s = r.go s

abbrev pub ◌>>=◌ {α β} : {X : Type α} {Y : Type β} → (X → Y) → X → Y
◌>>=◌ f k = f k
