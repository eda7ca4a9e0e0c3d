-- Serves the laws. What comes next in a function whose words stand, and the next function that is made in it.
use Rattle.std.specs.Prelude.{◌≡◌, ◌++◌, ℕ, suc, Bool, false, List, [], ◌∷◌, drop, Some, map}
use Rattle.lua_num.specs.Bytes.{Text}
use Rattle.lua_tree.specs.Syntax.{FunctionBody}
use Rattle.proto.specs.Chunk.{Chunk, function_at, own}
use Rattle.scheme.specs.Functions.{without_sources}
use Rattle.scheme.specs.Making.{Ahead, head_or}
use Rattle.scheme.specs.declared.making.Active.{Active}
use Rattle.scheme.specs.declared.making.Local.{Local}
use Rattle.scheme_stands.specs.Functions.{captured_name}
use Rattle.scheme_stands.specs.Relation.{FunctionOf}
use Rattle.scheme_stands.specs.Words.{Captured, Fn, Spot, law_inside}

-- what is known of the source ahead, and how many functions were made
pub record Coming : Type 0 where
  pub ahead : Ahead
  pub functions : ℕ

abbrev pub coming_at : Spot → Coming
coming_at p = record { ahead = p.ahead; functions = p.functions }

-- the names of what the next function captures, in a function with these upvalues
abbrev pub captured_names : List Active → (upvalue_names : List Text) → Ahead → List Text
captured_names active names ahead = map (captured_name active names) (head_or [] ahead.sources)

-- what is known of the source ahead behind names that are declared, each of which takes the next number and mark of capture
abbrev pub behind_locals : List Text → Ahead → Ahead
behind_locals [] ahead = ahead
behind_locals (text ∷ texts) ahead = behind_locals texts (record ahead { captures = drop 1 ahead.captures; declarations = suc ahead.declarations })

abbrev pub declared_local : Text → Ahead → Local
declared_local text ahead = record { name = text; declaration = Some ahead.declarations; captured = head_or false ahead.captures }

-- what comes next where a local is declared
abbrev pub inside_local : Text → Coming → Coming
inside_local text c = record c { ahead = behind_locals (text ∷ []) c.ahead }

-- the next function of a chunk stands as that of this body
pub record IsMadeNext (g : Fn) (active : List Active) (body : FunctionBody) (method : Bool) (c : Coming) : Type 0 where
  pub chunk : Chunk
  pub is : function_at g.functions c.functions ≡ Some chunk
  -- the names of its upvalues
  pub names : List Text
  pub captured : Captured g.law active names (head_or [] c.ahead.sources)
  pub named : (own chunk).upvalue_names ≡ captured_names active g.upvalue_names c.ahead
  pub behind : Ahead
  pub made_at : FunctionOf body method (law_inside g.law active names) (without_sources c.ahead) behind chunk

-- so that of a local function, which is active in itself
pub record IsOwnNext (g : Fn) (active : List Active) (text : Text) (body : FunctionBody) (c : Coming) : Type 0 where
  pub local : Active
  pub is_local : local.local ≡ declared_local text c.ahead
  pub next : IsMadeNext g (active ++ local ∷ []) body false (inside_local text c)
