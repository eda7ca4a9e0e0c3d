-- To be believed. A function that is being made: what the parts of the scheme read and change. The scheme is this suite's own, in
-- the shape of luac's code (A No-Frills Introduction to Lua 5.1 VM Instructions).
use Rattle.std.specs.Prelude.{ℕ, suc, ◌+◌, max, nat_eq, Bool, true, false, cond, List, [], ◌∷◌, ◌++◌, length, get_or, set, take, drop, Some, None}
use Rattle.std.specs.List.{list_any}
use Rattle.std.specs.Option.{option_eq}
use Rattle.lua_num.specs.Bytes.{Text}
use Rattle.lua_tree.specs.Scoping.{Use, local_use, upvalue_use, global_use}
use Rattle.opcode.specs.declared.op.Op.{Op}
use Rattle.proto.specs.Chunk.{Chunk}
use Rattle.proto.specs.Constants.{constant_number, with_constant}
use Rattle.proto.specs.declared.parts.Constant.{Constant}
use Rattle.proto.specs.declared.parts.LocVar.{LocVar}
use Rattle.scheme.specs.declared.making.Piece.{Piece}
use Rattle.scheme.specs.declared.making.Item.{Item}
use Rattle.scheme.specs.declared.making.Local.{Local}
use Rattle.scheme.specs.declared.making.Active.{Active}

-- a limit that a function does not keep, with its first line and the number that it reaches
pub data Misfit : Type 0 where
  too_many_registers too_many_constants jump_too_far too_many_functions : (line reached : ℕ) → Misfit

-- what is known of the source ahead, in the order of its spelling: what the names mean, which declarations are captured, and where
-- the upvalues of each function come from; and how many declarations stand before
pub record Ahead : Type 0 where
  pub names : List Use
  pub captures : List Bool
  pub sources : List (List Use)
  pub declarations : ℕ

pub record Maker : Type 0 where
  -- the words
  pub items : List Item
  -- the pc of each label, by its number
  pub labels : List ℕ
  pub constants : List Constant
  pub functions : List Chunk
  -- the next free register, F, and the highest number of registers in use so far
  pub free : ℕ
  pub high : ℕ
  pub active : List Active
  pub locals : List LocVar
  pub upvalue_names : List Text
  pub ahead : Ahead
  -- the limits that the functions in it do not keep
  pub misfits : List Misfit

-- a part of the scheme makes something, or it asks for a value and maybe makes something too
abbrev pub Part : Type 0
Part = Maker → Maker

pub record Got (A : Type 0) : Type 0 where
  pub value : A
  pub after : Maker

abbrev pub Asks : Type 0 → Type 0
Asks A = Maker → Got A

infixl 20 ◌>>=◌ ◌>>◌
abbrev pub ◌>>=◌ : {A : Type 0} → Asks A → (A → Part) → Part
◌>>=◌ ask rest m = let got = ask m in rest got.value got.after

abbrev pub ◌>>◌ : Part → Part → Part
◌>>◌ one other m = other (one m)

abbrev pub nothing : Part
nothing m = m

abbrev pub answer : {A : Type 0} → A → Asks A
answer value m = record { value = value; after = m }

-- what is read off what was made
abbrev pub read : {A : Type 0} → (Maker → A) → Asks A
read of m = record { value = of m; after = m }

abbrev pub head_or : {A : Type 0} → A → List A → A
head_or other [] = other
head_or other (x ∷ xs) = x

-- ---- words and labels

abbrev pub pc : Maker → ℕ
pc m = length m.items

abbrev pub put : (line : ℕ) → Piece → Part
put line piece m = record m { items = m.items ++ record { line = line; piece = piece } ∷ [] }

-- a new label, which stands nowhere yet
abbrev pub new_label : Asks ℕ
new_label m = record { value = length m.labels; after = record m { labels = m.labels ++ 0 ∷ [] } }

-- the label stands here
abbrev pub place : (label : ℕ) → Part
place label m = record m { labels = set m.labels label (length m.items) }

abbrev pub jump_to : (line label : ℕ) → Part
jump_to line label = put line (Piece.Jump Op.Jmp 0 label)

-- ---- registers

-- n registers from F on are taken
abbrev pub take_registers : ℕ → Part
take_registers n m = record m { free = m.free + n; high = max m.high (m.free + n) }

-- so many registers count as used
abbrev pub used : ℕ → Part
used n m = record m { high = max m.high n }

abbrev pub free_from : ℕ → Part
free_from register m = record m { free = register }

-- registers that a part takes are free again afterwards
abbrev pub freeing : Part → Part
freeing part m = free_from m.free (part m)

-- ---- constants

-- a constant is taken: its number
abbrev pub constant : Constant → Asks ℕ
constant c m = record {
  value = constant_number c m.constants;
  after = record m { constants = with_constant c m.constants };
}

-- ---- names

abbrev pub is_declaration : (declaration : ℕ) → Local → Bool
is_declaration declaration local = option_eq nat_eq local.declaration (Some declaration)

-- the register of a declaration
abbrev pub register_among : (declaration : ℕ) → List Active → ℕ
register_among declaration [] = 0
register_among declaration (one ∷ others) = cond (is_declaration declaration one.local) 0 (suc (register_among declaration others))

-- where what a name means is
pub data Where : Type 0 where
  in_register in_upvalue : ℕ → Where
  in_globals : Where

abbrev pub where_is : Use → List Active → Where
where_is (local_use declaration) active = in_register (register_among declaration active)
where_is (upvalue_use slot) active = in_upvalue slot
where_is global_use active = in_globals

-- what the next name means
abbrev pub next_name : Maker → Where
next_name m = where_is (head_or global_use m.ahead.names) m.active

abbrev pub pass_name : Part
pass_name m = record m { ahead = record (m.ahead) { names = drop 1 m.ahead.names } }

abbrev pub name : Asks Where
name m = record { value = next_name m; after = pass_name m }

-- ---- locals

-- names are declared, which are not yet active
abbrev pub declare : List Text → Asks (List Local)
declare [] m = answer [] m
declare (text ∷ texts) m =
    let local : Local = record { name = text; declaration = Some m.ahead.declarations; captured = head_or false m.ahead.captures } in
    let others = declare texts (record m { ahead = record (m.ahead) { captures = drop 1 m.ahead.captures; declarations = suc m.ahead.declarations } }) in
    record { value = local ∷ others.value; after = others.after }

abbrev pub hidden : Text → Local
hidden text = record { name = text; declaration = None; captured = false }

-- locals become active here
abbrev pub activate : List Local → Part
activate [] m = m
activate (local ∷ locals) m = activate locals (record m {
  active = m.active ++ record { local = local; listed = length m.locals } ∷ [];
  locals = m.locals ++ record { name = local.name; start = length m.items; end = length m.items } ∷ [];
})

abbrev pub entry_at : List LocVar → ℕ → LocVar
entry_at entries i = get_or entries i (record { name = []; start = 0; end = 0 })

-- a local of the list counts as active from here on
abbrev pub starts_here : (listed : ℕ) → Part
starts_here listed m =
    let entry = entry_at m.locals listed in
    record m { locals = set m.locals listed (record { name = entry.name; start = length m.items; end = length m.items }) }

-- a local of the list ends here
abbrev pub end_one : (here listed : ℕ) → List LocVar → List LocVar
end_one here listed entries =
    let entry = entry_at entries listed in
    set entries listed (record { name = entry.name; start = entry.start; end = here })

abbrev pub end_all : (here : ℕ) → List Active → List LocVar → List LocVar
end_all here [] entries = entries
end_all here (one ∷ others) entries = end_all here others (end_one here one.listed entries)

abbrev pub any_captured : List Active → Bool
any_captured active = list_any (λ one. one.local.captured) active

-- whether one of the active locals from the n-th on is captured
abbrev pub captured_from : ℕ → Maker → Bool
captured_from n m = any_captured (drop n m.active)

-- the active locals from the n-th on end here
abbrev pub end_locals : ℕ → Part
end_locals n m = record m { active = take n m.active; locals = end_all (length m.items) (drop n m.active) m.locals }

abbrev pub active_count : Maker → ℕ
active_count m = length m.active

abbrev pub when : Bool → Part → Part
when true part = part
when false part = nothing
