-- Serves loading: what the functions that are loaded so far are, and what a function and its inner ones add to them.
use Rattle.std.specs.Prelude.{◌≡◌, ℕ, List, [], ◌∷◌, ◌++◌, map, Some, slice_get}
use Rattle.proto.specs.Chunk.{Chunk, Functions, no_functions, and_function, functions}
use Rattle.lua_heap.specs.State.{HeapState}
use Rattle.machine.specs.declared.function.Function.{Function}
use Rattle.machine.specs.Loaded.{AreLoaded, all_functions, all_in}

-- the functions that stand directly in one, as a list
abbrev pub list_of : Functions → List Chunk
list_of no_functions = []
list_of (and_function c rest) = c ∷ list_of rest

-- as many numbers as functions, each of which leads to the function in its place
abbrev pub LeadTo : List Chunk → List ℕ → Functions → Type 0
LeadTo all numbers inner = map (slice_get all) numbers ≡ map (λ c. Some c) (list_of inner)

-- loaded as these chunks, with no number that leads out of the list, so that more may follow
pub record AreSoFar (h : HeapState) (all : List Chunk) (fs : List Function) : Type 0 where
  pub loaded : AreLoaded h all fs
  pub lead : (n : ℕ) (c : Chunk) (f : Function) → slice_get all n ≡ Some c → slice_get fs n ≡ Some f → LeadTo all f.inner.items (functions c)

-- What was loaded as some chunks stays so, and behind it are all functions of a chunk, to which the number leads.
pub record Loads (old new : HeapState) (before behind : List Function) (c : Chunk) (number : ℕ) : Type 0 where
  pub loaded : (all : List Chunk) → AreSoFar old all before → AreSoFar new (all ++ all_functions c) behind
  pub lead : (all : List Chunk) → AreSoFar old all before → slice_get (all ++ all_functions c) number ≡ Some c

-- The same of all functions of some functions.
pub record LoadsAll (old new : HeapState) (before behind : List Function) (inner : Functions) (numbers : List ℕ) : Type 0 where
  pub loaded : (all : List Chunk) → AreSoFar old all before → AreSoFar new (all ++ all_in inner) behind
  pub lead : (all : List Chunk) → AreSoFar old all before → LeadTo (all ++ all_in inner) numbers inner
