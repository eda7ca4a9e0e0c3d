-- To be believed, and this suite's own. Whether a chunk tells what its source is recovered by: the source name, a line for each word, and a name for each upvalue.
use Rattle.std.specs.Prelude.{◌≡◌, ◌⊎◌, ℕ, zero, suc, List, [], ◌∷◌, length, None, IsSome}
use Rattle.proto.specs.Chunk.{Own, Chunk, function, Functions, no_functions, and_function, own}

-- a function tells the line of each word and the name of each upvalue
pub record Tells (f : Own) : Type 0 where
  pub lines : length f.lines ≡ length f.code
  pub names : length f.upvalue_names ≡ f.upvalues

-- and so at every depth
abbrev mutual
  pub AllTell : Chunk → Type 0
  AllTell (function f inner) = Tells f × EachTells inner

  pub EachTells : Functions → Type 0
  EachTells no_functions = Unit {0}
  EachTells (and_function c rest) = AllTell c × EachTells rest

pub record HasDebug (c : Chunk) : Type 0 where
  pub named : IsSome (own c).source
  pub tell : AllTell c

-- the first function that does not tell, in the order of a listing: a function before those in it
abbrev mutual
  pub FirstUntold : Chunk → List ℕ → Type 0
  FirstUntold (function f inner) [] = Tells f → ⊥
  FirstUntold (function f inner) (n ∷ path) = Tells f × FirstUntoldIn inner n path

  pub FirstUntoldIn : Functions → ℕ → List ℕ → Type 0
  FirstUntoldIn no_functions n path = ⊥
  FirstUntoldIn (and_function c rest) zero path = FirstUntold c path
  FirstUntoldIn (and_function c rest) (suc n) path = AllTell c × FirstUntoldIn rest n path

-- the main function has no source name, or this is the first function that does not tell
abbrev pub LacksDebug : Chunk → List ℕ → Type 0
LacksDebug c path = (((own c).source ≡ None) × (path ≡ [])) ⊎ (IsSome (own c).source × FirstUntold c path)
