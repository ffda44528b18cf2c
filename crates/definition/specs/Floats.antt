-- The binary32 literals of 000, and the comparisons that 000 makes with them. No NaN reaches a comparison here but alpha's.
use Rattle.std.specs.Prelude.{Bool, cond, Float}
use Rattle.std.specs.Float.{binary32}
use Rattle.std.specs.Float.Ieee.{of_bits, lt, mul, div}

-- 0.0, 1.0, 1.2, 4.0, f32::MAX
unfoldable pub nought : Float
nought = of_bits binary32 0

unfoldable pub one : Float
one = of_bits binary32 0x3F800000

unfoldable pub one_point_two : Float
one_point_two = of_bits binary32 0x3F99999A

unfoldable pub four : Float
four = of_bits binary32 0x40800000

unfoldable pub largest : Float
largest = of_bits binary32 0x7F7FFFFF

-- the larger and the smaller of two; the first where they are equal, and the second where the first is NaN's
unfoldable pub larger : Float → Float → Float
larger x y = cond (lt x y) y x

unfoldable pub smaller : Float → Float → Float
smaller x y = cond (lt y x) y x

unfoldable pub times : Float → Float → Float
times x y = mul binary32 x y

unfoldable pub divided : Float → Float → Float
divided x y = div binary32 x y

unfoldable pub above : Float → Float → Bool
above x y = lt y x
