-- To be believed. Chunks whose lists are so short that 32 bits count each of them.
use Rattle.std.specs.Prelude.{◌<◌, ◌^◌, length}
use Rattle.proto.specs.Chunk.{Own, Chunk, function, Functions, no_functions, and_function, function_count}

-- fewer than 2^32 entries in each list of a function's own
pub record HasShortLists (f : Own) : Type 0 where
  pub code : length f.code < 2 ^ 32
  pub constants : length f.constants < 2 ^ 32
  pub lines : length f.lines < 2 ^ 32
  pub locals : length f.locals < 2 ^ 32
  pub upvalue_names : length f.upvalue_names < 2 ^ 32

-- and at every depth, with fewer than 2^32 functions directly in one
abbrev mutual
  pub IsShort : Chunk → Type 0
  IsShort (function f inner) = HasShortLists f × (function_count inner < 2 ^ 32) × AreShort inner

  pub AreShort : Functions → Type 0
  AreShort no_functions = Unit {0}
  AreShort (and_function c rest) = IsShort c × AreShort rest
