-- The word that stands at a place is the machine's next step.
use Rattle.std.proofs.Common.{◌≡◌, ℕ, suc, false, ℤ, pos, ◌+ℤ◌, ◌-ℤ◌, Option, Some, None, ap, ◌∙◌, arith, option_and_then, if◌then◌else◌}
use Rattle.std.specs.Prelude.{slice_get, slice_set}
use Rattle.std.proofs.lemmas.Int.{ints}
use Rattle.lua_num.specs.Arith.{wrap}
use Rattle.lua_num.proofs.Wraps.{wrap_is, wrapped}
use Rattle.opcode.specs.declared.op.Op.{Op}
use Rattle.opcode.specs.declared.word.Instr.{Instr}
use Rattle.opcode.specs.Reading.{instr_of}
use Rattle.proto.specs.Chunk.{Chunk, own}
use Rattle.scheme.specs.Functions.{distance}
use Rattle.scheme.specs.declared.making.Piece.{Piece}
use Rattle.lua_model.specs.Datum.{Datum}
use Rattle.rules.specs.Words.{instr_at}
use Rattle.rules.specs.Places.{is_further, as_pc}
use Rattle.rules.specs.State.{State, Goes, need, at_pc, with_registers, set}
use Rattle.rules.specs.Calls.{jump}
use Rattle.rules.specs.Run.{after, step}
use Rattle.rules.specs.Step.{effect}
use Rattle.scheme_stands.specs.Words.{Spot, WordAt, instr_by, number_at}
use Rattle.agrees.proofs.Picture.{Act, code_of}

abbrev fetch : Chunk → ℕ → Option Instr
fetch c pc = if is_further c pc then None else instr_at c pc

fetched : (c : Chunk) (pc n : ℕ) (i : Instr) → instr_of n ≡ Some i → is_further c pc ≡ false → slice_get (own c).code pc ≡ Some n → fetch c pc ≡ Some i
fetched c pc n i is plain has =
    ap (λ b. if b then None else instr_at c pc) plain
    ∙ ap (λ o. option_and_then instr_of o) has
    ∙ is

-- the next step of a state at a word
step_at : (m : State) (i : Instr) → fetch m.top.function m.top.pc ≡ Some i → step m ≡ after m (effect i.op (at_pc m (suc m.top.pc)) i)
step_at m i e = ap (λ o. after m (need o (λ j. effect j.op (at_pc m (suc m.top.pc)) j))) e

pub word_abc : (a : Act) (op : Op) (x y z : ℕ) (p q : Spot) (m : State) → WordAt (code_of a) (Piece.Abc op x y z) p q → m.top.function ≡ a.chunk → m.top.pc ≡ p.pc → step m ≡ after m (effect op (at_pc m (suc m.top.pc)) (instr_by p.pc (Piece.Abc op x y z)))
word_abc a op x y z p q m w ec ep =
    step_at m (instr_by p.pc (Piece.Abc op x y z))
    (ap (λ y1. fetch y1 m.top.pc) ec ∙ ap (fetch a.chunk) ep ∙ fetched a.chunk p.pc (number_at p.pc (Piece.Abc op x y z)) (instr_by p.pc (Piece.Abc op x y z)) w.reads.is w.reads.plain w.has)

pub word_abx : (a : Act) (op : Op) (x y : ℕ) (p q : Spot) (m : State) → WordAt (code_of a) (Piece.Abx op x y) p q → m.top.function ≡ a.chunk → m.top.pc ≡ p.pc → step m ≡ after m (effect op (at_pc m (suc m.top.pc)) (instr_by p.pc (Piece.Abx op x y)))
word_abx a op x y p q m w ec ep =
    step_at m (instr_by p.pc (Piece.Abx op x y))
    (ap (λ y1. fetch y1 m.top.pc) ec ∙ ap (fetch a.chunk) ep ∙ fetched a.chunk p.pc (number_at p.pc (Piece.Abx op x y)) (instr_by p.pc (Piece.Abx op x y)) w.reads.is w.reads.plain w.has)

pub word_jump : (a : Act) (op : Op) (x l : ℕ) (p q : Spot) (m : State) → WordAt (code_of a) (Piece.Jump op x l) p q → m.top.function ≡ a.chunk → m.top.pc ≡ p.pc → step m ≡ after m (effect op (at_pc m (suc m.top.pc)) (instr_by p.pc (Piece.Jump op x l)))
word_jump a op x l p q m w ec ep =
    step_at m (instr_by p.pc (Piece.Jump op x l))
    (ap (λ y1. fetch y1 m.top.pc) ec ∙ ap (fetch a.chunk) ep ∙ fetched a.chunk p.pc (number_at p.pc (Piece.Jump op x l)) (instr_by p.pc (Piece.Jump op x l)) w.reads.is w.reads.plain w.has)

-- the numeric `for`: FORPREP goes a step back, and FORLOOP a step on
pub loop_first : (i by : ℤ) → wrap (wrap (i -ℤ by) +ℤ by) ≡ wrap i
loop_first i by =
    let p = wrap_is (i -ℤ by) in
    let q = wrap_is (wrap (i -ℤ by) +ℤ by) in
    let a = p.same in
    let b = q.same in
    wrapped {z = i} {r = wrap (wrap (i -ℤ by) +ℤ by)} (record { fits = q.fits; turns = p.turns +ℤ q.turns; same = omega (arith, ints) })

-- a jump goes to its label
there : (pc l : ℕ) → pos (suc pc) +ℤ distance pc l ≡ pos l
there pc l = omega (arith, ints)

pub jumps : (m : State) (pc l : ℕ) → m.top.pc ≡ suc pc → jump m (distance pc l) ≡ Goes (at_pc m l)
jumps m pc l e = ap (λ n. need (as_pc (pos n +ℤ distance pc l)) (λ k. Goes (at_pc m k))) e ∙ ap (λ i. need (as_pc i) (λ k. Goes (at_pc m k))) (there pc l)

-- a value to a register that is there
pub sets : (m : State) (a : ℕ) (v old : Datum) → slice_get m.top.registers a ≡ Some old → set m a v ≡ Goes (with_registers m (slice_set m.top.registers a v))
sets m a v old e = ap (λ o. need o (λ x. Goes (with_registers m (slice_set m.top.registers a v)))) e
