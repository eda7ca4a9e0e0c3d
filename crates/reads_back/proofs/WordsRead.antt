-- Where a word stands as the scheme lays it down, it is read as its instruction.
use Rattle.std.proofs.Common.{◌≡◌, ℕ, suc, ◌^◌, ◌<◌, ◌≤◌, true, nat_lt, nat_le, List, Some, None, ap, ◌∙◌, subst, arith, lt-ltb, lt_of_lt_of_le, Bool, false, refl, ltb-true, ltb-false}
use Rattle.std.specs.Prelude.{option_and_then, option_map, slice_get, if◌then◌else◌}
use Rattle.opcode.specs.Reading.{instr_of}
use Rattle.opcode.specs.declared.op.Op.{Op}
use Rattle.proto.specs.Chunk.{Chunk, function_at, own}
use Rattle.scheme.specs.declared.making.Piece.{Piece}
use Rattle.scheme_stands.specs.Functions.{FurtherWordAt}
use Rattle.scheme_stands.specs.Words.{Law, Lawful, Names, Fn, Spot, WordAt, IsRead, instr_by, number_at}
use Rattle.recover_expr.specs.Declaring.{declaration}
use Rattle.recover_expr.specs.Items.{all_stay}
use Rattle.recover_expr.specs.Locals.{Scope, starting}
use Rattle.recover_expr.specs.Reading.{as_over, turn_at, turn_of}
use Rattle.recover_expr.specs.Situation.{Function, Situation, instr_at, next_pc, upvalues_in, word_at}
use Rattle.recover_expr.specs.declared.function.Word.{Word}
use Rattle.reads_back.proofs.Tests.{not_below}

-- the function that is read is the one in which words stand with their law, and 32 bits count its words
pub record IsFunction (f : Function) (g : Fn) : Type 0 where
  pub names : Names
  pub law : g.law ≡ Some names
  pub code : f.of.code ≡ g.code
  pub constants : f.of.constants ≡ g.constants
  -- a function in it has as many upvalues
  pub upvalues : (number : ℕ) (chunk : Chunk) → function_at g.functions number ≡ Some chunk → upvalues_in f number ≡ Some (own chunk).upvalues
  -- and its own have the same names
  pub told : f.of.upvalue_names ≡ g.upvalue_names
  pub short : f.last < 2 ^ 32
  pub few : g.size ≤ 250

-- no listed local starts at these pcs, none that is active is over there, and the last word stands behind them
pub record IsQuiet (f : Function) (scope : Scope) (first last : ℕ) : Type 0 where
  pub none : (pc : ℕ) → first ≤ pc → pc < last → starting f.of.locals pc scope ≡ 0
  pub stays : (pc : ℕ) → first ≤ pc → pc < last → all_stay f scope pc ≡ true
  pub within : last ≤ f.last

pub quiet_before : {f : Function} {scope : Scope} {first last : ℕ} (mid : ℕ) → mid ≤ last → IsQuiet f scope first last → IsQuiet f scope first mid
quiet_before mid before quiet = record {
  none = λ pc from below. quiet.none pc from (lt_of_lt_of_le below before);
  stays = λ pc from below. quiet.stays pc from (lt_of_lt_of_le below before);
  within = omega (arith, quiet.within);
}

pub quiet_from : {f : Function} {scope : Scope} {first last : ℕ} (mid : ℕ) → first ≤ mid → IsQuiet f scope first last → IsQuiet f scope mid last
quiet_from mid behind quiet = record {
  none = λ pc from below. quiet.none pc (omega arith) below;
  stays = λ pc from below. quiet.stays pc (omega arith) below;
  within = quiet.within;
}

-- none is over up to the word behind, where none is over there
pub stays_to : {f : Function} {scope : Scope} {first last : ℕ} → IsQuiet f scope first last → all_stay f scope last ≡ true → (pc : ℕ) → first ≤ pc → pc ≤ last → all_stay f scope pc ≡ true
stays_to {f} {scope} {last = last} quiet behind pc from most = by (nat_lt pc last) refl
  where
    by : (less : Bool) → nat_lt pc last ≡ less → all_stay f scope pc ≡ true
    by true is = quiet.stays pc from (ltb-true pc last is)
    by false is = let same : pc ≡ last = omega (arith, most, ltb-false pc last is) in ap (all_stay f scope) same ∙ behind

-- nor does any where there are no words
pub quiet_nowhere : {f : Function} {scope : Scope} {first last : ℕ} → last ≤ f.last → first ≡ last → IsQuiet f scope first last
quiet_nowhere within same = record { none = λ pc from below. absurd (omega (arith, same, from, below)); stays = λ pc from below. absurd (omega (arith, same, from, below)); within = within }

-- ---- one word

abbrev pub word_of : (pc : ℕ) → Piece → Word
word_of pc w = record { pc = pc; next = suc pc; instr = instr_by pc w }

lawful : (l : Law) (n : Names) (P : Type 0) → l ≡ Some n → Lawful l P → P
lawful l n P is holds = subst (λ (l : Law). Lawful l P) is holds

pub abc_is_read : {f : Function} {g : Fn} {op : Op} {a b c : ℕ} {p q : Spot} → IsFunction f g → WordAt g (Piece.Abc op a b c) p q → IsRead p.pc (Piece.Abc op a b c)
abc_is_read {g = g} is_function at = (lawful g.law is_function.names _ is_function.law at.reads).is

pub abx_is_read : {f : Function} {g : Fn} {op : Op} {a bx : ℕ} {p q : Spot} → IsFunction f g → WordAt g (Piece.Abx op a bx) p q → IsRead p.pc (Piece.Abx op a bx)
abx_is_read {g = g} is_function at = (lawful g.law is_function.names _ is_function.law at.reads).is

pub instr_there : (code : List ℕ) (pc : ℕ) (w : Piece) → slice_get code pc ≡ Some (number_at pc w) → IsRead pc w → option_and_then instr_of (slice_get code pc) ≡ Some (instr_by pc w)
instr_there code pc w has read = ap (option_and_then instr_of) has ∙ read

-- a further word of a CLOSURE
pub further_is_there : {f : Function} {g : Fn} {w : Piece} {p q : Spot} → IsFunction f g → FurtherWordAt g w p q → instr_at f p.pc ≡ Some (instr_by p.pc w)
further_is_there {g = g} {w} {p} is_function at =
    ap (λ code. option_and_then instr_of (slice_get code p.pc)) is_function.code ∙ instr_there g.code p.pc w at.has (lawful g.law is_function.names (IsRead p.pc w) is_function.law at.reads)

pub word_there : {f : Function} {g : Fn} {w : Piece} {p q : Spot} → IsFunction f g → WordAt g w p q → IsRead p.pc w → p.pc < f.last → word_at f p.pc ≡ Some (word_of p.pc w)
word_there {f} {g} {w} {p} is_function at read before =
    ap (λ code. option_and_then (next_pc p.pc) (option_and_then instr_of (slice_get code p.pc))) is_function.code
    ∙ ap (option_and_then (next_pc p.pc)) (instr_there g.code p.pc w at.has read)
    ∙ ap (λ small. if small then Some (word_of p.pc w) else None) (lt-ltb (suc p.pc) (2 ^ 32) (omega (arith, is_function.short)))

-- where no local starts, what is read at a pc is what its word does
pub turn_there : {f : Function} {first last : ℕ} {word : Word} (pc : ℕ) (s : Situation) → IsQuiet f s.scope first last → first ≤ pc → pc < last → word_at f pc ≡ Some word → turn_at f pc s ≡ turn_of f s word
turn_there {f} pc s quiet from below there =
    let declares = option_map as_over (declaration f pc (starting f.of.locals pc s.scope) s) in
    let does = option_and_then (turn_of f s) (word_at f pc) in
    ap (λ n. if nat_lt 0 n then declares else (if nat_le f.last pc then None else does)) (quiet.none pc from below)
    ∙ ap (λ over. if over then None else does) (not_below pc f.last (omega (arith, quiet.within)))
    ∙ ap (option_and_then (turn_of f s)) there
