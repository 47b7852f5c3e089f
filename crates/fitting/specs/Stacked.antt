-- Stacks as lists. Assumes nothing.
use Rattle.std.specs.Prelude.{ℕ, List}

-- the entries of a stack, the last one first, and how many there may be
pub record Stacked (T : Type 0) : Type 0 where
  pub entries : List T
  pub room : ℕ
