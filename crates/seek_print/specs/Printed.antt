-- What the printing functions leave.
use Rattle.std.specs.Prelude.{◌≡◌, List, [], ◌∷◌, ◌++◌, ℕ, zero, suc, ◌+◌, ◌≤◌, ◌<◌, length, take, get_or, Float}
use Rattle.std.proofs.Common.{ap, arith, length-take}
use Rattle.std.specs.Float.{nan}
use Rattle.whole.specs.Whole.{count, IsWhole}
use Rattle.definition.specs.Seek.{decimal, print_item}

-- the bytes stand at `at`, up to `end`, and nothing before them differs
pub record Put (bytes out₀ : List ℕ) (at : ℕ) (out : List ℕ) (end : ℕ) : Type 0 where
  pub size : length out ≡ length out₀
  pub ends : end ≡ at + length bytes
  pub are : take end out ≡ take at out₀ ++ bytes

pub put_same : {a b out₀ out : List ℕ} {at end : ℕ} → a ≡ b → Put a out₀ at out end → Put b out₀ at out end
put_same e p = rw e at p

-- what is put fits in what was lent
pub put-length : (bytes out₀ out : List ℕ) (end : ℕ) → Put bytes out₀ 0 out end → end ≡ length (take end out)
put-length bytes out₀ out end p = omega (arith, p.ends, ap length p.are)

pub put-fits : (bytes out₀ out : List ℕ) (end : ℕ) → Put bytes out₀ 0 out end → end ≤ length out
put-fits bytes out₀ out end p = omega (arith, put-length bytes out₀ out end p, length-take end out)

pub record Number (n : ℕ) (out₀ : List ℕ) (at : ℕ) (out : List ℕ) (end : ℕ) : Type 0 where
  pub put : Put (decimal n) out₀ at out end
  pub few : end ≤ at + 20

abbrev pub line_of : ℕ → ℕ → List ℕ
line_of id dist = print_item (record { dist = dist; id = id })

pub record Line (id dist : ℕ) (out₀ : List ℕ) (at : ℕ) (out : List ℕ) (end : ℕ) : Type 0 where
  pub put : Put (line_of id dist) out₀ at out end
  pub few : end ≤ at + 42

-- the lines of the first i answers
unfoldable pub lines_up : List ℕ → List Float → ℕ → List ℕ
lines_up ids dists zero = []
lines_up ids dists (suc i) = lines_up ids dists i ++ line_of (get_or ids i 0) (count (get_or dists i nan))

unfoldable pub found_text : List ℕ → List Float → ℕ → List ℕ
found_text ids dists n = decimal n ++ (10 ∷ []) ++ lines_up ids dists n

-- the first n are whole numbers
pub record Wholes (dists : List Float) (n : ℕ) : Type 0 where
  pub at : (i : ℕ) → i < n → IsWhole (get_or dists i nan)
