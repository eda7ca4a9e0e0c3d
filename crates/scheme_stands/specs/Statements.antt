-- Serves the laws. Where the words of each statement stand: declarations, assignments, loops, branches, returns.
use Rattle.std.specs.Prelude.{◌≡◌, ◌≤◌, ◌<◌, ℕ, zero, suc, ◌+◌, ◌==◌, Bool, true, false, List, [], ◌∷◌, length, drop, Option, Some, None}
use Rattle.lua_num.specs.Bytes.{Text}
use Rattle.opcode.specs.declared.op.Op.{Op}
use Rattle.proto.specs.declared.parts.Constant.{Constant}
use Rattle.scheme.specs.Making.{any_captured, Where, in_register, in_upvalue, in_globals}
use Rattle.scheme.specs.Expressions.{count_field, Target, name_target, part_target}
use Rattle.scheme.specs.Statements.{clashes, with_copy, numeric_names, generic_names}
use Rattle.scheme.specs.declared.making.Piece.{Piece}
use Rattle.scheme.specs.declared.making.Active.{Active}
use Rattle.scheme.specs.declared.making.Local.{Local}
use Rattle.scheme_stands.specs.Words.{Law, Lawful, Fn, Spot, Stretch, never, WordAt, Same, Seq, ConstantWord, JumpOn}
use Rattle.scheme_stands.specs.Expressions.{Rel, OperandAt, RkAt, OneAt, rel_name, rel_field}
use Rattle.scheme_stands.specs.Lists.{FirstAt, OpenListAt, rels_count, AdjustAt}
use Rattle.scheme_stands.specs.Functions.{Declared, Activated, FunctionRel, ClosureAt, Step}

-- ==== statements

-- a part that leaves the active locals as they are
pub record StaysAt (part : List Active → Stretch) (active after : List Active) (p q : Spot) : Type 0 where
  pub stays : after ≡ active
  pub part_at : part active p q

pub record ThenAt (first rest : Step) (active after : List Active) (p q : Spot) : Type 0 where
  pub between : List Active
  pub mid : Spot
  pub first_at : first active between p mid
  pub rest_at : rest between after mid q

-- the loop around: the pc behind it, and the number of active locals before it
pub record LoopAt : Type 0 where
  pub exit : ℕ
  pub before : ℕ

abbrev pub CloseAt : Bool → Fn → (register : ℕ) → Stretch
CloseAt true f register = WordAt f (Piece.Abc Op.Close register 0 0)
CloseAt false f register = Same

-- a block's own locals end with it, and are closed where one of them is captured
pub record BlockAt (f : Fn) (body : Step) (active : List Active) (p q : Spot) : Type 0 where
  pub inner : List Active
  pub mid : Spot
  pub body_at : body active inner p mid
  pub close : CloseAt (any_captured (drop (length active) inner)) f (length active) mid q

-- ---- declarations

pub record LocalPartAt (f : Fn) (names : List Text) (values : List Rel) (active after : List Active) (p q : Spot) : Type 0 where
  pub locals : List Local
  pub mid : Spot
  pub same : mid.pc ≡ p.pc
  pub as_many : mid.functions ≡ p.functions
  pub declared : Declared names p.ahead locals mid.ahead
  pub values_at : AdjustAt f values (length names) active (length active) mid q
  pub activated : Activated locals active after

-- a local function is active in itself
pub record LocalFunctionAt (f : Fn) (text : Text) (made : Law → FunctionRel) (active after : List Active) (p q : Spot) : Type 0 where
  pub locals : List Local
  pub mid : Spot
  pub same : mid.pc ≡ p.pc
  pub as_many : mid.functions ≡ p.functions
  pub declared : Declared (text ∷ []) p.ahead locals mid.ahead
  pub activated : Activated locals active after
  pub room : length active < f.size
  pub closure_at : ClosureAt f made after (length active + 1) (length active) mid q

-- ---- assignments

-- the value in register r goes to what a name means
abbrev pub SetAt : Fn → Text → Where → (r : ℕ) → Stretch
SetAt f text (in_register x) r = WordAt f (Piece.Abc Op.Move x r 0)
SetAt f text (in_upvalue slot) r = WordAt f (Piece.Abc Op.SetUpval r slot 0)
SetAt f text in_globals r = ConstantWord f Op.SetGlobal r (Constant.Text text)

abbrev pub StoreRegisterAt : Fn → Target → (r : ℕ) → Stretch
StoreRegisterAt f (name_target text w) r = SetAt f text w r
StoreRegisterAt f (part_target on key on_local key_local) r = WordAt f (Piece.Abc Op.SetTable on key r)

abbrev pub StoreNameAt : Fn → Text → Where → Rel → List Active → (free : ℕ) → Stretch
StoreNameAt f text (in_register x) c active free = c.to_reg active free x
StoreNameAt f text (in_upvalue slot) c active free = OneAt (OperandAt f active c) free (SetAt f text (in_upvalue slot))
StoreNameAt f text in_globals c active free = OneAt (OperandAt f active c) free (SetAt f text in_globals)

-- the last right side is stored directly
abbrev pub StoreAt : Fn → Target → Rel → List Active → (free : ℕ) → Stretch
StoreAt f (name_target text w) c active free = StoreNameAt f text w c active free
StoreAt f (part_target on key on_local key_local) c active free = OneAt (RkAt f active c) free (λ v. WordAt f (Piece.Abc Op.SetTable on key v))

-- as many expressions as targets: all but the last are stored from their registers, from right to left
abbrev pub EachStoredAt : Fn → List Target → List Rel → List Active → (free : ℕ) → Stretch
EachStoredAt f [] cs active free = Same
EachStoredAt f (target ∷ []) [] active free = Same
EachStoredAt f (target ∷ []) (c ∷ cs) active free = StoreAt f target c active free
EachStoredAt f (target ∷ other ∷ targets) [] active free = Same
EachStoredAt f (target ∷ other ∷ targets) (c ∷ cs) active free =
    FirstAt f c active free (Seq (EachStoredAt f (other ∷ targets) cs active (free + 1)) (StoreRegisterAt f target free))

-- all targets from the registers from r on, from right to left
abbrev pub StoredFromAt : Fn → (r : ℕ) → List Target → Stretch
StoredFromAt f r [] = Same
StoredFromAt f r (target ∷ targets) = Seq (StoredFromAt f (suc r) targets) (StoreRegisterAt f target r)

-- the targets are evaluated from left to right
pub record NextTargetAt (c : Rel) (rest : (targets : List Target) → (free free1 : ℕ) → Stretch) (active : List Active) (targets : List Target) (free free2 : ℕ) (p q : Spot) : Type 0 where
  pub target : Target
  pub others : List Target
  pub free1 : ℕ
  pub mid : Spot
  pub is : targets ≡ target ∷ others
  pub target_at : c.target active free target free1 p mid
  pub others_at : rest others free1 free2 mid q

pub record NoTargetsAt (before targets : List Target) (free free1 : ℕ) (p q : Spot) : Type 0 where
  pub is : targets ≡ before
  pub at_free : free1 ≡ free
  pub same : Same p q

abbrev pub TargetsAt : List Rel → List Active → (targets : List Target) → (free free1 : ℕ) → Stretch
TargetsAt [] active targets free free1 = NoTargetsAt [] targets free free1
TargetsAt (c ∷ cs) active targets free free1 = NextTargetAt c (TargetsAt cs active) active targets free free1

-- the local in register x is copied to the next register, which the targets left of it use
pub record CopyAt (f : Fn) (x : ℕ) (targets places : List Target) (free free1 : ℕ) (p q : Spot) : Type 0 where
  pub room : free < f.size
  pub is : places ≡ with_copy x free targets
  pub at_free : free1 ≡ free + 1
  pub word : WordAt f (Piece.Abc Op.Move free x 0) p q

abbrev pub CopyBy : Bool → Fn → (x : ℕ) → (targets places : List Target) → (free free1 : ℕ) → Stretch
CopyBy true f x targets places free free1 = CopyAt f x targets places free free1
CopyBy false f x targets places free free1 = NoTargetsAt targets places free free1

pub record CopiedAt (earlier later : (targets places : List Target) → (free free1 : ℕ) → Stretch) (targets places : List Target) (free free2 : ℕ) (p q : Spot) : Type 0 where
  pub between : List Target
  pub free1 : ℕ
  pub mid : Spot
  pub earlier_at : earlier targets between free free1 p mid
  pub later_at : later between places free1 free2 mid q

-- of the locals in the first so many registers, in order, those that clash are copied
abbrev pub CopiesAt : Fn → (count : ℕ) → (targets places : List Target) → (free free1 : ℕ) → Stretch
CopiesAt f zero targets places free free1 = NoTargetsAt targets places free free1
CopiesAt f (suc x) targets places free free1 = CopiedAt (CopiesAt f x) (CopyBy (clashes x targets) f x) targets places free free1

abbrev pub StoresBy : (as_many : Bool) → Fn → List Target → List Rel → List Active → (free : ℕ) → Stretch
StoresBy true f places values active free = EachStoredAt f places values active free
StoresBy false f places values active free = Seq (AdjustAt f values (length places) active free) (StoredFromAt f free places)

-- the targets' parts, the copies, the right sides with the stores
pub record AssignAt (f : Fn) (targets values : List Rel) (active : List Active) (p q : Spot) : Type 0 where
  pub parts : List Target
  pub places : List Target
  pub free1 : ℕ
  pub free2 : ℕ
  pub mid : Spot
  pub last : Spot
  pub targets_at : TargetsAt targets active parts (length active) free1 p mid
  pub copies_at : CopiesAt f (length active) parts places free1 free2 mid last
  pub stores_at : StoresBy (length values == length targets) f places values active free2 last q

-- the path of a function statement, as a target: a name, and fields
abbrev pub rel_fields : Fn → (on : Rel) → List Text → Rel
rel_fields f on [] = on
rel_fields f on (text ∷ texts) = rel_fields f (rel_field f on text) texts

-- a path has a name
abbrev pub no_path : Fn → Rel → Rel
no_path f c = record c { to_reg = λ active free r. never f.law (c.to_reg active free r); target = λ active free target free1. never f.law (c.target active free target free1); bare = λ active. never f.law (c.bare active) }

abbrev pub rel_path : Fn → List Text → Rel
rel_path f [] = no_path f (rel_name f [])
rel_path f (text ∷ texts) = rel_fields f (rel_name f text) texts

abbrev pub rel_method : Fn → (on : Rel) → Option Text → Rel
rel_method f on None = on
rel_method f on (Some text) = rel_field f on text

-- ---- loops and branches

pub record WhileAt (f : Fn) (test : Rel) (body : Option LoopAt → Step) (active : List Active) (p q : Spot) : Type 0 where
  pub mid : Spot
  pub last : Spot
  pub test_at : test.jump_if active (length active) false q.pc p mid
  pub body_at : BlockAt f (body (Some (record { exit = q.pc; before = length active }))) active mid last
  pub back : WordAt f (Piece.Jump Op.Jmp 0 p.pc) last q

-- the test of a `repeat` whose body has captured locals: each way closes them
pub record ClosingUntilAt (f : Fn) (test : Rel) (inner : List Active) (n exit first : ℕ) (p q : Spot) : Type 0 where
  pub closing : Spot
  pub leaving : Spot
  pub again : Spot
  pub last : Spot
  pub test_at : test.jump_if inner (length inner) false again.pc p closing
  pub close : WordAt f (Piece.Abc Op.Close n 0 0) closing leaving
  pub leave : WordAt f (Piece.Jump Op.Jmp 0 exit) leaving again
  pub close_again : WordAt f (Piece.Abc Op.Close n 0 0) again last
  pub back : WordAt f (Piece.Jump Op.Jmp 0 first) last q

abbrev pub UntilBy : (captured : Bool) → Fn → Rel → (inner : List Active) → (n exit first : ℕ) → Stretch
UntilBy true f test inner n exit first = ClosingUntilAt f test inner n exit first
UntilBy false f test inner n exit first = test.jump_if inner (length inner) false first

-- the test sees the locals of the body, `inner`
pub record RepeatAt (f : Fn) (body : Option LoopAt → Step) (test : Rel) (active : List Active) (p q : Spot) : Type 0 where
  pub inner : List Active
  pub mid : Spot
  pub body_at : body (Some (record { exit = q.pc; before = length active })) active inner p mid
  pub until : UntilBy (any_captured (drop (length active) inner)) f test inner (length active) q.pc p.pc mid q

-- an arm: where something follows, it jumps to the end
pub record ArmAt (f : Fn) (end : ℕ) (more : Bool) (test : Rel) (body : Step) (active : List Active) (p q : Spot) : Type 0 where
  pub mid : Spot
  pub last : Spot
  pub test_at : test.jump_if active (length active) false q.pc p mid
  pub body_at : BlockAt f body active mid last
  pub leave : JumpOn f more end last q

-- a turn of a loop: its variables, which come behind the hidden locals, are active in its block and closed behind it; `around` are
-- the active locals with the hidden ones
pub record TurnAt (f : Fn) (body : Step) (variables : List Local) (around : List Active) (p q : Spot) : Type 0 where
  pub inner : List Active
  pub mid : Spot
  pub activated : Activated variables around inner
  pub room : length inner ≤ f.size
  pub block_at : BlockAt f body inner p mid
  pub close : CloseAt (any_captured (drop (length around) inner)) f (length around) mid q

-- a numeric `for`, whose base is `length active`: the variable is declared, the values, FORPREP to the FORLOOP, the turn, FORLOOP
pub record NumericAt (f : Fn) (text : Text) (first last : Rel) (step : List Active → (free : ℕ) → Stretch) (body : Option LoopAt → Step) (active : List Active) (p q : Spot) : Type 0 where
  pub variables : List Local
  pub around : List Active
  pub declared_by : Spot
  pub with_first : Spot
  pub with_last : Spot
  pub with_step : Spot
  pub begin : Spot
  pub loop : Spot
  pub same : declared_by.pc ≡ p.pc
  pub as_many : declared_by.functions ≡ p.functions
  pub declared : Declared (text ∷ []) p.ahead variables declared_by.ahead
  pub room : length active + 3 ≤ f.size
  pub first_at : first.to_reg active (length active) (length active) declared_by with_first
  pub last_at : last.to_reg active (length active + 1) (length active + 1) with_first with_last
  pub step_at : step active (length active + 2) with_last with_step
  pub hidden : Activated numeric_names active around
  pub prepare : WordAt f (Piece.Jump Op.ForPrep (length active) loop.pc) with_step begin
  pub turn_at : TurnAt f (body (Some (record { exit = q.pc; before = length active }))) variables around begin loop
  pub back : WordAt f (Piece.Jump Op.ForLoop (length active) begin.pc) loop q

-- a generic `for`, whose base is `length active`: the names are declared, three values, JMP to the TFORLOOP, the turn, TFORLOOP and
-- the JMP back
pub record GenericAt (f : Fn) (names : List Text) (values : List Rel) (body : Option LoopAt → Step) (active : List Active) (p q : Spot) : Type 0 where
  pub variables : List Local
  pub around : List Active
  pub declared_by : Spot
  pub valued : Spot
  pub begin : Spot
  pub loop : Spot
  pub again : Spot
  -- there is a name
  pub some : Lawful f.law (0 < length names)
  pub same : declared_by.pc ≡ p.pc
  pub as_many : declared_by.functions ≡ p.functions
  pub declared : Declared names p.ahead variables declared_by.ahead
  pub room : length active + 6 ≤ f.size
  pub values_at : AdjustAt f values 3 active (length active) declared_by valued
  pub hidden : Activated generic_names active around
  pub enter : WordAt f (Piece.Jump Op.Jmp 0 loop.pc) valued begin
  pub turn_at : TurnAt f (body (Some (record { exit = q.pc; before = length active }))) variables around begin loop
  pub call : WordAt f (Piece.Abc Op.TForLoop (length active) 0 (length names)) loop again
  pub back : WordAt f (Piece.Jump Op.Jmp 0 begin.pc) again q

-- a `break` stands in a loop
abbrev pub BreakAt : Fn → Option LoopAt → List Active → Stretch
BreakAt f None active = never f.law Same
BreakAt f (Some loop) active = Seq (CloseAt (any_captured (drop loop.before active)) f loop.before) (WordAt f (Piece.Jump Op.Jmp 0 loop.exit))

-- ---- return

abbrev pub ListReturnAt : Fn → List Rel → List Active → Stretch
ListReturnAt f cs active = Seq (OpenListAt f cs active (length active)) (WordAt f (Piece.Abc Op.Return (length active) (count_field 1 (rels_count cs)) 0))

-- a call is a tail call, `...` a list of values, anything else an operand
abbrev pub ReturnBy : (call dots : Bool) → Fn → Rel → List Active → Stretch
ReturnBy true dots f c active = Seq (c.multi active (length active) Op.TailCall None) (WordAt f (Piece.Abc Op.Return (length active) 0 0))
ReturnBy false true f c active = ListReturnAt f (c ∷ []) active
ReturnBy false false f c active = OneAt (OperandAt f active c) (length active) (λ x. WordAt f (Piece.Abc Op.Return x 2 0))

abbrev pub ReturnAt : Fn → List Rel → List Active → Stretch
ReturnAt f [] active = WordAt f (Piece.Abc Op.Return 0 1 0)
ReturnAt f (c ∷ []) active = ReturnBy c.form.call c.form.dots f c active
ReturnAt f (c ∷ d ∷ cs) active = ListReturnAt f (c ∷ d ∷ cs) active
