-- Serves the laws. Names that are declared; closures and whole functions.
use Rattle.std.specs.Prelude.{◌≡◌, ◌≤◌, ℕ, suc, Bool, false, List, [], ◌∷◌, ◌++◌, length, drop, get_or, map, slice_get, Some, None}
use Rattle.lua_num.specs.Bytes.{Text}
use Rattle.lua_tree.specs.Syntax.{no_statements, function_body, function_expression}
use Rattle.lua_tree.specs.Scoping.{Use, local_use, upvalue_use, global_use}
use Rattle.opcode.specs.declared.op.Op.{Op}
use Rattle.proto.specs.Chunk.{Chunk, own, functions, function_at, function_count}
use Rattle.scheme.specs.Making.{Ahead, head_or, where_is}
use Rattle.scheme.specs.Functions.{Inner, further_word, name_of, without_sources, vararg_flags}
use Rattle.scheme.specs.declared.making.Piece.{Piece}
use Rattle.scheme.specs.declared.making.Active.{Active}
use Rattle.scheme.specs.declared.making.Local.{Local}
use Rattle.scheme_stands.specs.Words.{Law, Lawful, Names, Fn, fn, Spot, Stretch, number_at, IsRead, WordAt, Same, Seq, Captured, law_inside}
use Rattle.scheme_stands.specs.Expressions.{form_of, Rel, rel_single}

-- ==== names that are declared

-- in the order of the source, each takes the next number and mark of capture
abbrev pub Declared : List Text → (before : Ahead) → List Local → (behind : Ahead) → Type 0
Declared [] a locals b = (locals ≡ []) × (b ≡ a)
Declared (text ∷ texts) a locals b =
    (others : List Local) × (locals ≡ record { name = text; declaration = Some a.declarations; captured = head_or false a.captures } ∷ others)
    × Declared texts (record a { captures = drop 1 a.captures; declarations = suc a.declarations }) others b

-- locals are active behind the others
abbrev pub Activated : List Local → (active after : List Active) → Type 0
Activated [] active after = after ≡ active
Activated (one ∷ locals) active after = (x : Active) × (x.local ≡ one) × Activated locals (active ++ x ∷ []) after

-- ==== functions

-- a function: whether a chunk is its, by what is known of the source before it and behind it
abbrev pub FunctionRel : Type 1
FunctionRel = (before behind : Ahead) → Chunk → Type 0

-- one of the further words of a CLOSURE, which is no word of its own
pub record FurtherWordAt (f : Fn) (w : Piece) (p q : Spot) : Type 0 where
  pub has : slice_get f.code p.pc ≡ Some (number_at p.pc w)
  pub reads : Lawful f.law (IsRead p.pc w)
  pub next : q.pc ≡ suc p.pc
  pub ahead : q.ahead ≡ p.ahead
  pub functions : q.functions ≡ p.functions

abbrev pub FurtherAt : Fn → List Active → List Use → Stretch
FurtherAt f active [] = Same
FurtherAt f active (one ∷ uses) = Seq (FurtherWordAt f (further_word (where_is one active))) (FurtherAt f active uses)

-- the name of what a closure captures
abbrev pub captured_name : List Active → (upvalue_names : List Text) → Use → Text
captured_name active names (local_use declaration) = name_of declaration active
captured_name active names (upvalue_use slot) = get_or names slot []
captured_name active names global_use = []

-- a closure of a function, whose chunk is the next one of those of this function; `mid` is behind the CLOSURE, and the source goes on
-- there where that of the function ends
pub record ClosureAt (f : Fn) (made : Law → FunctionRel) (active : List Active) (free r : ℕ) (p q : Spot) : Type 0 where
  pub chunk : Chunk
  pub begun : Spot
  pub mid : Spot
  pub is : function_at f.functions p.functions ≡ Some chunk
  -- the names of its upvalues
  pub names : List Text
  pub captured : Captured f.law active names (head_or [] p.ahead.sources)
  pub made_at : made (law_inside f.law active names) (without_sources p.ahead) mid.ahead chunk
  -- the upvalues are as many as the further words
  pub upvalues : (own chunk).upvalues ≡ length (head_or [] p.ahead.sources)
  -- each is named as what it captures
  pub named : (own chunk).upvalue_names ≡ map (captured_name active f.upvalue_names) (head_or [] p.ahead.sources)
  pub word : WordAt f (Piece.Abx Op.Closure r p.functions) p begun
  pub next : mid.pc ≡ begun.pc
  pub one_more : mid.functions ≡ suc begun.functions
  pub further : FurtherAt f active (head_or [] p.ahead.sources) mid q

abbrev pub rel_function : Fn → (Law → FunctionRel) → Rel
rel_function f made = rel_single f (form_of (function_expression 0 (function_body [] false no_statements 0 0))) (ClosureAt f made)

-- the words of statements, by the active locals before and behind them
abbrev pub Step : Type 1
Step = (active after : List Active) → Stretch

-- the limits that a function keeps
pub record Limits (f : Fn) : Type 0 where
  pub two : 2 ≤ f.size
  pub registers : f.size ≤ 250
  pub constants : length f.constants ≤ 262144
  pub functions : function_count f.functions ≤ 262144

-- the chunk of a function: its shape, and its words, which are those of its statements, with its parameters active, and the last
-- RETURN; `first`, `mid` and `last` are before them, between and behind
pub record FunctionAt (l : Law) (params : List Text) (vararg : Bool) (body : Fn → Step) (before behind : Ahead) (chunk : Chunk) : Type 0 where
  pub param_count : (own chunk).params ≡ length params
  pub flags : (own chunk).flags ≡ vararg_flags vararg
  pub limits : Limits (fn l chunk)
  pub locals : List Local
  pub active : List Active
  pub inner : List Active
  pub first : Spot
  pub mid : Spot
  pub last : Spot
  pub begins : first.pc ≡ 0
  pub none_made : first.functions ≡ 0
  pub declared : Declared params before locals first.ahead
  pub activated : Activated locals [] active
  pub room : length active ≤ (own chunk).registers
  pub body_at : body (fn l chunk) active inner first mid
  pub end : WordAt (fn l chunk) (Piece.Abc Op.Return 0 1 0) mid last
  pub ends : last.pc ≡ length (own chunk).code
  -- each function of the chunk is made once, in order
  pub all_made : last.functions ≡ function_count (functions chunk)
  pub goes_on : last.ahead ≡ behind

-- where the law is asked, what is known with the names of the function
abbrev pub LawfulBy : Law → (Names → Type 0) → Type 0
LawfulBy None P = Unit {0}
LawfulBy (Some n) P = P n

-- a function whose chunk stands so is made by the scheme within its limits, at a place of the source
pub record MadeAt (l : Law) (function : FunctionRel) (made : Inner) (IsPlaced : Names → Ahead → Type 0) (before behind : Ahead) (chunk : Chunk) : Type 0 where
  pub at : function before behind chunk
  pub is : made (own chunk).upvalue_names before ≡ record { chunk = chunk; ahead = behind; misfits = [] }
  pub placed : LawfulBy l (λ n. IsPlaced n before)
