-- To be believed. The functions of a chunk by their numbers, and what the machine has of each: those in a function come before it, so that the main function is the last.
use Rattle.std.specs.Prelude.{◌≡◌, ℕ, ◌<◌, ◌^◌, List, [], ◌∷◌, ◌++◌, length, map, Some, slice_get, option_and_then}
use Rattle.proto.specs.Chunk.{Chunk, Functions, function, no_functions, and_function, own, functions, function_at}
use Rattle.lua_heap.specs.State.{HeapState, AreOf}
use Rattle.rules.specs.State.{value_of}
use Rattle.machine.specs.declared.function.Function.{Function}
use Rattle.machine.specs.Decoded.{decoded_of}
use Rattle.machine.specs.Frames.{data_of}

abbrev mutual
  pub all_functions : Chunk → List Chunk
  all_functions (function f inner) = all_in inner ++ function f inner ∷ []

  pub all_in : Functions → List Chunk
  all_in no_functions = []
  all_in (and_function c rest) = all_functions c ++ all_in rest

-- a function as the machine has it, one of these
pub record IsLoadedAs (h : HeapState) (all : List Chunk) (c : Chunk) (f : Function) : Type 0 where
  pub code : f.code.items ≡ (own c).code
  pub room : length f.code.items < 2 ^ 32
  pub words : f.words.items ≡ map decoded_of f.code.items
  pub constants : map value_of (own c).constants ≡ data_of h f.constants.items
  pub known : AreOf h f.constants.items
  pub inner : (n : ℕ) → option_and_then (slice_get all) (slice_get f.inner.items n) ≡ function_at (functions c) n
  pub upvalues : f.upvalues ≡ (own c).upvalues
  pub params : f.params ≡ (own c).params
  pub vararg : f.vararg ≡ (own c).flags
  pub registers : f.registers ≡ (own c).registers

pub record AreLoaded (h : HeapState) (all : List Chunk) (fs : List Function) : Type 0 where
  pub count : length fs ≡ length all
  pub each : (n : ℕ) (c : Chunk) (f : Function) → slice_get all n ≡ Some c → slice_get fs n ≡ Some f → IsLoadedAs h all c f
