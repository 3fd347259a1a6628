-- Request [1] on network H, worked by hand: the number of each junction, 0 to 3.
use Rattle.std.specs.Prelude.{ℕ, ℤ, pos, negsuc}
use Rattle.journeys.specs.SetOff.{SetOff}
use Rattle.hill.specs.Hill.{roads, sized}

-- no charge does
abbrev pub none : ℤ
none = negsuc 0

pub record Numbers (battery depot : ℕ) (a b c d : ℤ) : Type 0 where
  pub at_0 : SetOff (sized battery) roads 0 depot a
  pub at_1 : SetOff (sized battery) roads 1 depot b
  pub at_2 : SetOff (sized battery) roads 2 depot c
  pub at_3 : SetOff (sized battery) roads 3 depot d

-- to 3: road 3 needs 900, of which road 1 gives 500, before which road 0 takes 300. To 2: by road 2 with 100; from 1 nothing is
-- needed. No road leads to 0. At 900 road 3 needs exactly a full battery, at 899 more than that
pub record Charges : Type 0 where
  pub to_3 : Numbers 1000 3 (pos 700) (pos 400) (pos 900) (pos 0)
  pub to_2 : Numbers 1000 2 (pos 100) (pos 0) (pos 0) none
  pub to_0 : Numbers 1000 0 (pos 0) none none none
  pub at_900 : Numbers 900 3 (pos 700) (pos 400) (pos 900) (pos 0)
  pub at_899 : Numbers 899 3 none none none (pos 0)
