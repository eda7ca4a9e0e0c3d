-- Serves the law. What is known of a function whatever plain function it stands as: each that is found of it stands for the body of that one, in the forms of fewest levels it is not lost, and it tells what is asked of it.
use Rattle.std.specs.Prelude.{◌≤◌, ◌+◌, ℕ, Bool, true, List, Some}
use Rattle.lua_tree.specs.Syntax.{FunctionBody}
use Rattle.lua_tree.specs.WellFormed.{depth_of_body}
use Rattle.proto.specs.Chunk.{Chunk, SameButLines, own}
use Rattle.core_expr.specs.Values.{Inner}
use Rattle.recover_flow.specs.Debug.{FirstUntold}
use Rattle.recover_flow.specs.Recovering.{IsFound, IsLost}
use Rattle.scheme.specs.Making.{Ahead}
use Rattle.scheme_stands.specs.Relation.{FunctionOf}
use Rattle.scheme_stands.specs.Words.{Names}
use Rattle.same_flow.specs.Space.{space_of_body}
use Rattle.reads_back.specs.Assignments.{with_self}
use Rattle.reads_back.specs.Cores.{IsPlainBody}
use Rattle.reads_back.proofs.InnerChunks.{AreNamedBy}
use Rattle.recovers.specs.Joined.{IsFoundAs}

-- a chunk stands as this plain function, which is made there but for the numbers of lines, and whose upvalues have the names by which it is read
pub record StandsAs (chunk : Chunk) (body : FunctionBody) (method : Bool) (n : Names) (before behind : Ahead) (made : Chunk) : Type 0 where
  pub plain : IsPlainBody (with_self method body)
  pub shallow : depth_of_body body ≤ 199
  pub at : FunctionOf body method (Some n) before behind made
  pub same : SameButLines chunk made
  pub named : AreNamedBy n (own made).upvalue_names

-- each that is found of it stands for that body
abbrev pub IsEverFound : (short : Bool) → Chunk → Type 0
IsEverFound short chunk =
    (found : Inner) → IsFound short chunk found → (body : FunctionBody) (method : Bool) (n : Names) (before behind : Ahead) (made : Chunk) → StandsAs chunk body method n before behind made →
    IsFoundAs short body method (own made).upvalue_names before found

-- in the forms of fewest levels it is not lost, where it stands no deeper in others than there is room for
abbrev pub IsNeverLost : Chunk → Type 0
IsNeverLost chunk =
    (depth : ℕ) (body : FunctionBody) (method : Bool) (n : Names) (before behind : Ahead) (made : Chunk) → StandsAs chunk body method n before behind made → depth + space_of_body body ≤ 200 → IsLost true depth chunk → ⊥

-- it and the functions in it tell what is asked of them
abbrev pub IsEverTold : Chunk → Type 0
IsEverTold chunk = (body : FunctionBody) (method : Bool) (n : Names) (before behind : Ahead) (made : Chunk) → StandsAs chunk body method n before behind made → (path : List ℕ) → FirstUntold chunk path → ⊥
