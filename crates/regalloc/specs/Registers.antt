-- To be believed. The registers of one function.
use Rattle.std.specs.Prelude.{ℕ}

pub record Registers : Type 0 where
  -- the next free one
  pub next : ℕ
  -- the highest number in use so far
  pub high : ℕ
