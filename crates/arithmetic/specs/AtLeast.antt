-- A bound from below that no NaN meets.
use Rattle.std.specs.Prelude.{◌≡◌, false, Float}
use Rattle.std.specs.Float.Ieee.{lt, is_nan}

-- x is a number that is not less than w
pub record AtLeast (w x : Float) : Type 0 where
  pub number : is_nan x ≡ false
  pub not_less : lt x w ≡ false
