-- How a state of the source is seen in the machine: the machine's state is a picture of the source's and of a ghost, which says where each
-- cell is. `Ok` says that the picture is in order. Variables: s a source's state, o the outside, g a ghost, x a site, a an act.
use Rattle.std.proofs.Common.{◌≡◌, ◌≤◌, ◌<◌, ℕ, suc, ◌+◌, Bool, true, ◌⊎◌, List, [], ◌∷◌, ◌++◌, map, length, Option, Some, None}
use Rattle.std.specs.Prelude.{get_or, slice_get, is_some}
use Rattle.lua_num.specs.Bytes.{Text}
use Rattle.proto.specs.Chunk.{Chunk, own}
use Rattle.scheme.specs.Making.{Ahead}
use Rattle.scheme.specs.declared.making.Active.{Active}
use Rattle.lua_model.specs.Datum.{Datum, nil}
use Rattle.lua_model.specs.Store.{Outside}
use Rattle.lua_model.specs.Operators.{depth_limit}
use Rattle.source_meaning.specs.State.{State as SourceState, Env, Place as Scope, Closure as Function, find}
use Rattle.rules.specs.State.{State, Frame, Landing, OpenResults, Cell, Open, Closed, Closure}
use Rattle.agrees.proofs.Sizes.{size_b, call_cost}
use Rattle.scheme_stands.specs.Words.{Names, Law, Fn, fn, onto, is_marked}
use Rattle.scheme_stands.specs.Functions.{FunctionAt, Limits}
use Rattle.scheme_stands.specs.Relation.{StatementsAt}

-- what a register of an active local stands for: a source's cell, or, of a hidden local, a value
pub data Slot : Type 0 where
  of_cell : ℕ → Slot
  holds : Datum → Slot

-- where the value of a source's cell is: in a register of a frame, with whether the local may be captured; or nowhere but in a machine's cell
pub data Home : Type 0 where
  At : (frame register : ℕ) → Bool → Home
  Off : Home

-- a call that goes on: its function, its upvalues as the machine's and as the source's cells, what the source sees around it, where its results
-- go, and its active locals
pub record Act : Type 0 where
  pub chunk : Chunk
  pub machine_cells : List ℕ
  pub source_cells : List ℕ
  pub outer : Env
  -- the names of its upvalues, in order
  pub names : List Text
  pub extra : List Datum
  pub landing : Landing
  pub protections : ℕ
  pub own : Env
  pub active : List Active
  pub slots : List Slot

abbrev pub env_names : Env → List Text
env_names [] = []
env_names (e ∷ es) = e.0 ∷ env_names es

-- what is asked of the words of a function that sees this around it, whose upvalues have these names
abbrev pub law_of : Env → List Text → Law
law_of outer names = Some (record { around = env_names outer; upvalues = names })

abbrev pub names_of : Act → Names
names_of a = record { around = env_names a.outer; upvalues = a.names }

-- the function in which the words of a call stand
abbrev pub code_of : Act → Fn
code_of a = fn (law_of a.outer a.names) a.chunk

-- a call that waits for another: also its place, and its registers above the locals
pub record Waiter : Type 0 where
  pub act : Act
  pub pc : ℕ
  pub high : List Datum

-- what the picture adds to the source's state: the homes of the source's cells; the source's cell of each machine's cell; the machine's closures
pub record Ghost : Type 0 where
  pub home : ℕ → Home
  pub owner : List ℕ
  pub closures : List Closure

abbrev pub cell_in_home : Datum → Home → Cell
cell_in_home v (At f r b) = Open f r
cell_in_home v Off = Closed v

abbrev pub read : List Datum → ℕ → Datum
read cells c = get_or cells c nil

abbrev pub cell_at : List Datum → (ℕ → Home) → ℕ → Cell
cell_at cells home c = cell_in_home (read cells c) (home c)

abbrev pub slot_value : List Datum → Slot → Datum
slot_value cells (of_cell c) = read cells c
slot_value cells (holds v) = v

abbrev pub registers : List Datum → Act → List Datum → List Datum
registers cells a high = map (slot_value cells) a.slots ++ high

abbrev pub frame : Act → ℕ → List Datum → Option OpenResults → Frame
frame a pc regs results = record { function = a.chunk; cells = a.machine_cells; pc = pc; registers = regs; extra = a.extra; results = results; landing = a.landing; protections = a.protections }

abbrev pub frame_of : List Datum → Waiter → Frame
frame_of cells g = frame g.act g.pc (registers cells g.act g.high) None

-- the running frame: its act, the frames below, and its registers above the locals
pub record Site : Type 0 where
  pub a : Act
  pub below : List Waiter
  pub high : List Datum

abbrev pub raised : Site → List Datum → Site
raised x high = record { a = x.a; below = x.below; high = high }

-- the machine's state, at a place, with these registers and open results
abbrev pub pic : SourceState → Outside → Ghost → Site → ℕ → List Datum → Option OpenResults → State
pic s o g x pc regs results = record {
  top = frame x.a pc regs results;
  below = map (frame_of s.cells) x.below;
  cells = map (cell_at s.cells g.home) g.owner;
  closures = g.closures;
  store = s.store;
  outside = o;
}

abbrev pub at : SourceState → Outside → Ghost → Site → ℕ → State
at s o g x pc = pic s o g x pc (registers s.cells x.a x.high) None

abbrev pub scope_of : Act → List Waiter → Scope
scope_of a below = record { own = a.own; outer = a.outer; extra = a.extra; depth = length below }

abbrev pub waits : Site → ℕ → Waiter
waits x pc = record { act = x.a; pc = pc; high = x.high }

-- ## the picture is in order

-- a cell is in the r-th register of frame f
pub record SlotIn (n f r c : ℕ) (b : Bool) (a : Act) : Type 0 where
  pub at_frame : f ≡ n
  pub slot : slice_get a.slots r ≡ Some (of_cell c)
  pub marked : slice_get (map is_marked a.active) r ≡ Some b

abbrev pub SlotAt : ℕ → ℕ → ℕ → Bool → List Waiter → Type 0
SlotAt f r c b [] = ⊥
SlotAt f r c b (g ∷ below) = SlotIn (length below) f r c b g.act ⊎ SlotAt f r c b below

-- the machine's cells stand for the source's cells
abbrev pub Carry : List ℕ → List ℕ → List ℕ → Type 0
Carry owner [] [] = Unit {0}
Carry owner [] (c ∷ cs) = ⊥
Carry owner (k ∷ ks) [] = ⊥
Carry owner (k ∷ ks) (c ∷ cs) = (slice_get owner k ≡ Some c) × Carry owner ks cs

-- the names of the upvalues mean their cells
abbrev pub Known : List Text → List ℕ → Env → Type 0
Known [] [] env = Unit {0}
Known [] (c ∷ cs) env = ⊥
Known (name ∷ names) [] env = ⊥
Known (name ∷ names) (c ∷ cs) env = (find name env ≡ Some c) × Known names cs env

-- the names of the active locals, the innermost first, mean theirs; hidden ones have none
abbrev pub Owned : List Active → List Slot → Env → Type 0
Owned [] [] [] = Unit {0}
Owned (one ∷ active) (holds v ∷ slots) env = (one.local.declaration ≡ None) × Owned active slots env
Owned (one ∷ active) (of_cell c ∷ slots) (e ∷ env) = ((one.local.name ≡ e.0) × (is_some one.local.declaration ≡ true)) × (c ≡ e.1) × Owned active slots env
Owned _ _ _ = ⊥

-- no local of a function is one of its upvalues
abbrev pub Apart : Act → Type 0
Apart a = (i r c : ℕ) → slice_get a.source_cells i ≡ Some c → slice_get a.slots r ≡ Some (of_cell c) → ⊥

-- a call's ghost data say what its frame holds
pub record ActFine (owner : List ℕ) (a : Act) : Type 0 where
  pub carry : Carry owner a.machine_cells a.source_cells
  pub known : Known a.names a.source_cells a.outer
  pub owned : Owned (onto a.active []) (onto a.slots []) a.own
  pub as_many : length a.active ≡ length a.slots
  pub apart : Apart a
  pub limits : Limits (code_of a)

abbrev pub ActsFine : List ℕ → List Waiter → Type 0
ActsFine owner [] = Unit {0}
ActsFine owner (g ∷ below) = ActFine owner g.act × (length g.act.slots + length g.high ≡ (own g.act.chunk).registers) × ActsFine owner below

-- a machine's closure is that of a source's: its chunk is the scheme of its block
pub record ClosureFine (bound : ℕ) (owner : List ℕ) (m : Closure) (c : Function) : Type 0 where
  pub source_cells : List ℕ
  pub carry : Carry owner m.cells source_cells
  pub names : List Text
  pub known : Known names source_cells c.sees
  pub before : Ahead
  pub behind : Ahead
  pub stands : FunctionAt (law_of c.sees names) c.params c.vararg (λ f. StatementsAt f None c.block) before behind m.function
  pub small : size_b c.block + call_cost ≤ bound

abbrev pub ClosuresFine : ℕ → List ℕ → List Closure → List Function → Type 0
ClosuresFine bound owner [] [] = Unit {0}
ClosuresFine bound owner [] (c ∷ cs) = ⊥
ClosuresFine bound owner (m ∷ ms) [] = ⊥
ClosuresFine bound owner (m ∷ ms) (c ∷ cs) = ClosureFine bound owner m c × ClosuresFine bound owner ms cs

-- what a run is measured by: a bound of the ticks that a function's block spends
pub record Setup : Type 0 where
  pub bound : ℕ

-- the picture is in order, over so many source's cells and the source's closures
pub record Fine (z : Setup) (n : ℕ) (functions : List Function) (g : Ghost) (stack : List Waiter) : Type 0 where
  -- what a register holds is at home there, and the other way round
  pub loc : (f r c : ℕ) (b : Bool) → SlotAt f r c b stack → (c < n) × (g.home c ≡ At f r b)
  pub back : (c f r : ℕ) (b : Bool) → c < n → g.home c ≡ At f r b → SlotAt f r c b stack
  -- a machine's cell has a source's cell that is there; where this is in a register, its local is marked as captured; no two have the same
  pub owned : (k c : ℕ) → slice_get g.owner k ≡ Some c → c < n
  pub marked : (k c f r : ℕ) (b : Bool) → slice_get g.owner k ≡ Some c → g.home c ≡ At f r b → b ≡ true
  pub once : (k j c : ℕ) → slice_get g.owner k ≡ Some c → slice_get g.owner j ≡ Some c → k ≡ j
  pub acts : ActsFine g.owner stack
  pub closures : ClosuresFine z.bound g.owner g.closures functions
  -- no call is deeper than may be: a tail call asks for this again
  pub deep : length stack ≤ suc depth_limit

-- the picture is in order
abbrev pub Ok : Setup → SourceState → Ghost → Site → Type 0
Ok z s g x = Fine z (length s.cells) s.closures g (waits x 0 ∷ x.below)
