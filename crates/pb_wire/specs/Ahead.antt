-- What a cursor stands for.
use Rattle.std.specs.Prelude.{ℕ, List}

-- what is still to be read: the place of the next byte, and the bytes
pub record Ahead : Type 0 where
  pub place : ℕ
  pub bytes : List ℕ
