-- To be believed. The parts of the scheme for functions (manual 2.5.9 and 2.6): closures, and what a function is when its words are made.
use Rattle.std.specs.Prelude.{ℕ, suc, max, nat_lt, Bool, true, false, cond, List, [], ◌∷◌, ◌++◌, length, map, get_or, drop, Option, ℤ, pos, ◌-ℤ◌, unsigned_abs}
use Rattle.lua_num.specs.Bytes.{Text}
use Rattle.lua_tree.specs.Syntax.{function_expression, FunctionBody}
use Rattle.lua_tree.specs.Scoping.{Use, local_use, upvalue_use, global_use}
use Rattle.opcode.specs.declared.op.Op.{Op}
use Rattle.opcode.specs.Word.{abc, abx, asbx}
use Rattle.proto.specs.Chunk.{Chunk, function, functions_of}
use Rattle.scheme.specs.Making.{◌>>=◌, ◌>>◌, Misfit, too_many_registers, too_many_constants, jump_too_far, too_many_functions, Ahead, Maker, Part, head_or, put, take_registers, where_is, is_declaration, declare, activate, end_locals, Where, in_register, in_upvalue, in_globals}
use Rattle.scheme.specs.Expressions.{Coded, single}
use Rattle.scheme.specs.declared.making.Piece.{Piece}
use Rattle.scheme.specs.declared.making.Item.{Item}
use Rattle.scheme.specs.declared.making.Active.{Active}

-- ---- the words

abbrev pub distance : (pc target : ℕ) → ℤ
distance pc target = pos target -ℤ pos (suc pc)

abbrev pub word_at : (labels : List ℕ) → (pc : ℕ) → Piece → ℕ
word_at labels pc (Piece.Abc op a b c) = abc op a b c
word_at labels pc (Piece.Abx op a bx) = abx op a bx
word_at labels pc (Piece.Jump op a label) = asbx op a (distance pc (get_or labels label 0))
word_at labels pc (Piece.Bare n) = n

abbrev pub words_from : (labels : List ℕ) → (pc : ℕ) → List Item → List ℕ
words_from labels pc [] = []
words_from labels pc (item ∷ items) = word_at labels pc item.piece ∷ words_from labels (suc pc) items

abbrev pub lines_of : List Item → List ℕ
lines_of items = map (λ item. item.line) items

-- how far a word jumps, and the longest jump
abbrev pub reach_at : (labels : List ℕ) → (pc : ℕ) → Piece → ℕ
reach_at labels pc (Piece.Jump op a label) = unsigned_abs (distance pc (get_or labels label 0))
reach_at labels pc piece = 0

abbrev pub reach_from : (labels : List ℕ) → (pc : ℕ) → List Item → ℕ
reach_from labels pc [] = 0
reach_from labels pc (item ∷ items) = max (reach_at labels pc item.piece) (reach_from labels (suc pc) items)

-- ---- functions

-- what a function is said to be
pub record Heading : Type 0 where
  pub source : Option Text
  pub first_line : ℕ
  pub last_line : ℕ
  pub params : ℕ
  pub vararg : Bool

abbrev pub register_count : Maker → ℕ
register_count m = max 2 m.high

abbrev pub vararg_flags : Bool → ℕ
vararg_flags true = 2
vararg_flags false = 0

abbrev pub chunk_of : Heading → Maker → Chunk
chunk_of heading m = function (record {
  source = heading.source;
  line_defined = heading.first_line;
  last_line = heading.last_line;
  upvalues = length m.upvalue_names;
  params = heading.params;
  flags = vararg_flags heading.vararg;
  registers = register_count m;
  code = words_from m.labels 0 m.items;
  constants = m.constants;
  lines = lines_of m.items;
  locals = m.locals;
  upvalue_names = m.upvalue_names;
}) (functions_of m.functions)

abbrev pub unless_within : (limit reached : ℕ) → Misfit → List Misfit
unless_within limit reached misfit = cond (nat_lt limit reached) (misfit ∷ []) []

-- the limits that a function does not keep
abbrev pub misfits_of : (line : ℕ) → Maker → List Misfit
misfits_of line m =
    let reach = reach_from m.labels 0 m.items in
    unless_within 250 (register_count m) (too_many_registers line (register_count m))
    ++ unless_within 262144 (length m.constants) (too_many_constants line (length m.constants))
    ++ unless_within 131071 reach (jump_too_far line reach)
    ++ unless_within 262144 (length m.functions) (too_many_functions line (length m.functions))

-- a function of which nothing is made
abbrev pub empty_maker : Ahead → List Text → Maker
empty_maker ahead upvalue_names = record {
  items = [];
  labels = [];
  constants = [];
  functions = [];
  free = 0;
  high = 0;
  active = [];
  locals = [];
  upvalue_names = upvalue_names;
  ahead = ahead;
  misfits = [];
}

-- a function begins with its parameters
abbrev pub with_params : List Text → Part
with_params params = do
  locals ← declare params
  activate locals
  take_registers (length params)

-- a function's words: its parameters, its statements, and the last RETURN, at which no local is active
abbrev pub whole_function : (end_line : ℕ) → List Text → Part → Part
whole_function end_line params statements = do
  with_params params
  statements
  end_locals 0
  put end_line (Piece.Abc Op.Return 0 1 0)

-- a chunk, the source behind it, and the limits that its functions do not keep
pub record Finished : Type 0 where
  pub chunk : Chunk
  pub ahead : Ahead
  pub misfits : List Misfit

abbrev pub finished : Heading → Maker → Finished
finished heading m = record { chunk = chunk_of heading m; ahead = m.ahead; misfits = m.misfits ++ misfits_of heading.first_line m }

abbrev pub function_from : Heading → (end_line : ℕ) → List Text → Part → (upvalue_names : List Text) → Ahead → Finished
function_from heading end_line params statements upvalue_names ahead =
    finished heading (whole_function end_line params statements (empty_maker ahead upvalue_names))

-- ---- closures

abbrev pub name_of : (declaration : ℕ) → List Active → Text
name_of declaration [] = []
name_of declaration (one ∷ others) = cond (is_declaration declaration one.local) one.local.name (name_of declaration others)

-- the name of an upvalue, by what it is in the function around
abbrev pub source_name : Maker → Use → Text
source_name m (local_use declaration) = name_of declaration m.active
source_name m (upvalue_use slot) = get_or m.upvalue_names slot []
source_name m global_use = []

abbrev pub source_names : Maker → List Use → List Text
source_names m uses = map (source_name m) uses

-- the further words of a CLOSURE
abbrev pub further_word : Where → Piece
further_word (in_register r) = Piece.Abc Op.Move 0 r 0
further_word (in_upvalue slot) = Piece.Abc Op.GetUpval 0 slot 0
further_word in_globals = Piece.Abc Op.Move 0 0 0

abbrev pub further_words : (line : ℕ) → List Use → Part
further_words line [] m = m
further_words line (use' ∷ uses) m = further_words line uses (put line (further_word (where_is use' m.active)) m)

-- a function that stands in another, by the names of its upvalues and the source ahead
abbrev pub Inner : Type 0
Inner = (upvalue_names : List Text) → Ahead → Finished

abbrev pub next_sources : Maker → List Use
next_sources m = head_or [] m.ahead.sources

abbrev pub without_sources : Ahead → Ahead
without_sources ahead = record ahead { sources = drop 1 ahead.sources }

abbrev pub with_function : Finished → Part
with_function made m = record m { functions = m.functions ++ made.chunk ∷ []; ahead = made.ahead; misfits = m.misfits ++ made.misfits }

abbrev pub closure : (line : ℕ) → Inner → (register : ℕ) → Part
closure line inner r m =
    further_words line (next_sources m)
    (put line (Piece.Abx Op.Closure r (length m.functions))
    (with_function (inner (source_names m (next_sources m)) (without_sources m.ahead)) m))

abbrev pub coded_function : (line : ℕ) → FunctionBody → Inner → Coded
coded_function line body inner = single line (function_expression line body) (closure line inner)
