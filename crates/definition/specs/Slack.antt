-- The slack: how many words a row of a wide table has.
use Rattle.std.specs.Prelude.{ℕ, ◌+◌, ◌-◌, ◌*◌, ◌/◌, max, Float}
use Rattle.std.specs.Float.{binary32, nan, inf, fin}
use Rattle.std.specs.Float.Ieee.{up, down, of_bits}
use Rattle.definition.specs.Metric.{whole}
use Rattle.definition.specs.Floats.{times}

-- 1.3f32
unfoldable pub slack_factor : Float
slack_factor = of_bits binary32 0x3FA66666

-- the least whole number that a float at or above 0 does not exceed; 0 for what has none
unfoldable pub ceil : Float → ℕ
ceil nan = 0
ceil (inf s) = 0
ceil (fin s m e) = (m * up e + down e - 1) / down e

-- as 000 has it: max(degree, ceil(1.3f32 x degree)), with that product rounded once
unfoldable pub slack_by_floats : ℕ → ℕ
slack_by_floats degree = max degree (ceil (times slack_factor (whole degree)))

-- the same in whole numbers, ceil(13 x degree / 10): equal on every degree that is accepted, 1..64, which `promises` proves
unfoldable pub slack : ℕ → ℕ
slack degree = (13 * degree + 9) / 10
