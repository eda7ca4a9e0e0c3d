-- Serves the machine: what it needs of the word that is done next, as the verifier's rules give it, and what a step is.
use Rattle.std.specs.Prelude.{◌≡◌, ℕ, zero, suc, ◌<◌, List, length, Some, slice_get, option_and_then, ◌++◌}
use Rattle.opcode.specs.Reading.{instr_of}
use Rattle.opcode.specs.declared.op.Op.{Op}
use Rattle.opcode.specs.declared.word.Instr.{Instr}
use Rattle.proto.specs.Chunk.{Chunk}
use Rattle.lua_model.specs.Store.{Event, Reply}
use Rattle.lua_heap.specs.State.{Keeps}
use Rattle.host.specs.Hosts.{HostSetState}
use Rattle.rules.specs.Run.{Going, current, step}
use Rattle.rules.specs.Step.{effect}
use Rattle.upvalue.specs.State.{top}
use Rattle.machine.specs.declared.function.Function.{Function}
use Rattle.machine.specs.declared.running.Running.{Running}
use Rattle.machine.specs.declared.word.Word.{Word}
use Rattle.machine.specs.Decoded.{instr_in}
use Rattle.machine.specs.declared.did.Did.{Did}
use Rattle.machine.specs.declared.settling.Settled.{Settled}
use Rattle.machine.specs.Fits.{Fits, FitsFrame, AreCaptures, IsOther}
use Rattle.machine.specs.Outside.{around, replies_in, Happened}
use Rattle.machine.specs.Seen.{Around, cells_in, seen}
use Rattle.machine.specs.Settled.{conf_of}
use Rattle.machine.specs.Whole.{IsSafe, IsWhole, DoesSeen}

-- a word may be done in the topmost frame, of this function, whose pc is that behind the word
pub record FitsHere (functions : List Function) (f : Function) (k : Running) (i : Instr) : Type 0 where
  pub plain : Fits i.op f (top k.stack.frames) k.top.pc i
  pub framed : FitsFrame i.op f (top k.stack.frames) k.top.results (length (cells_in k.heap k.top.closure)) k.top.pc i
  pub inner : i.op ≡ Op.Closure → (n : ℕ) → slice_get f.inner.items i.bx ≡ Some n → n < length functions
  pub captures : i.op ≡ Op.Closure → (n : ℕ) (g : Function) → slice_get f.inner.items i.bx ≡ Some n → slice_get functions n ≡ Some g → AreCaptures f (length (top k.stack.frames)) (length (cells_in k.heap k.top.closure)) k.top.pc g.upvalues

abbrev pub with_pc : Running → ℕ → Running
with_pc k pc = record k { top = record k.top { pc = pc } }

-- a word was done within its frame, which went on to some pc
pub record GoesOn (functions : List Function) (i : Instr) (old new : Running) : Type 0 where
  pub next : ℕ
  pub between : Running
  pub does : DoesSeen functions (λ m. effect i.op m i) old between (Did.Jumps next)
  pub is : new ≡ with_pc between next

-- from one machine to the next by one step of the rules, where a word is to be done, in which nothing happened outside
pub record GoesNext (functions : List Function) (old new : Running) : Type 0 where
  pub is : (c : Chunk) (a : Around) (i : Instr) → IsWhole c functions old → current (seen c a old) ≡ Some i → step (seen c a old) ≡ Going (seen c a new)
  pub safe : IsSafe functions old → IsSafe functions new
  pub keeps : Keeps old.heap new.heap
  pub named : new.heap.host_names ≡ old.heap.host_names
  pub pieces : new.pieces ≡ old.pieces

-- there is a word at the pc of the topmost frame, of this function, and it may be done
pub record HasWord (functions : List Function) (f : Function) (k : Running) : Type 0 where
  pub i : Instr
  pub at : option_and_then instr_of (slice_get f.code.items k.top.pc) ≡ Some i
  pub word : Word
  pub has : slice_get f.words.items k.top.pc ≡ Some word
  pub means : instr_in word ≡ i
  pub fits : FitsHere functions f (with_pc k (suc k.top.pc)) i

abbrev pub IsReady : List Function → Running → Type 0
IsReady functions k = (f : Function) → slice_get functions k.top.function ≡ Some f → HasWord functions f k

-- from one machine to the next in so many steps in which nothing happened outside
abbrev pub GoesSteps : List Function → ℕ → Running → Running → Type 0
GoesSteps functions zero old new = new ≡ old
GoesSteps functions (suc n) old new = (between : Running) × GoesSteps functions n old between × GoesNext functions between new

-- whatever machine is reached in such steps is ready
abbrev pub IsReadyOnwards : List Function → Running → Type 0
IsReadyOnwards functions old = (n : ℕ) (k : Running) → GoesSteps functions n old k → IsReady functions k

-- a word may be done in the topmost frame, which has this function, where the pc behind the word is this one
pub record FitsAt (f : Function) (k : Running) (pc : ℕ) (i : Instr) : Type 0 where
  pub functions : List Function
  pub safe : IsSafe functions k
  pub at : slice_get functions k.top.function ≡ Some f
  pub fits : FitsHere functions f (with_pc k pc) i

-- the word that is done next is not always done in place
abbrev pub IsOtherNext : List Function → Running → Type 0
IsOtherNext functions k = (f : Function) (i : Instr) → slice_get functions k.top.function ≡ Some f → option_and_then instr_of (slice_get f.code.items k.top.pc) ≡ Some i → IsOther i.op

-- from one machine and its hosts to the next, with what happened outside: one step of the rules, where a word is to be done
pub record Steps (functions : List Function) (old new : Running) (before behind : HostSetState) (settled : Settled) : Type 0 where
  pub es : List Event
  pub happened : Happened es old.pieces.items new.pieces.items before behind
  pub is : (c : Chunk) (events : List Event) (left : List Reply) (i : Instr) → IsWhole c functions old → current (seen c (around before events (replies_in es ++ left)) old) ≡ Some i → step (seen c (around before events (replies_in es ++ left)) old) ≡ conf_of settled (seen c (around behind (events ++ es) left) new)
  pub safe : IsSafe functions old → IsSafe functions new
  pub keeps : Keeps old.heap new.heap
  pub named : new.heap.host_names ≡ old.heap.host_names
