-- A frame of a sound function at its first word.
use Rattle.std.proofs.Common.{◌≡◌, inl, inr, ℕ, suc, ◌<◌, ◌≤◌, Bool, true, false, ◌&&◌, not, List, [], ◌∷◌, length, get_or, None, Some, refl, sym, subst, true≢false, arith, nat_lt, nat_le, lt-ltb, leb-false, ltb-false, ap, ◌∙◌}
use Rattle.std.specs.Prelude.{Option, ◌==◌, option_and_then}
use Rattle.opcode.specs.declared.word.Instr.{Instr}
use Rattle.proto.specs.Chunk.{Chunk, function, own, Functions, functions}
use Rattle.lua_model.specs.Datum.{Datum}
use Rattle.rules.specs.declared.rule.Rule.{Rule}
use Rattle.rules.specs.Words.{instr_at, has_arg_table}
use Rattle.rules.specs.Places.{further_from}
use Rattle.rules.specs.Notes.{Note, Registers, IsStart}
use Rattle.rules.specs.Breaks.{wanted_at, wants, is_unmet, breaks_shape}
use Rattle.rules.specs.Sound.{IsSound}
use Rattle.rules.specs.State.{Frame, Cell}
use Rattle.rules.proofs.Lists.{clash, or_first_false, or_second_false, and_true}
use Rattle.rules.proofs.Further.{kept}
use Rattle.rules.proofs.Invariant.{IsOpen, Known, Met, Arrival, HasRegister}

abbrev pub known_of : (f : Chunk) (main : Bool) → IsSound f main → Known f
known_of (function f inner) main sound = record { main = main; notes = sound.0.0; noted = sound.0.1; inner = sound.1 }

pub shape_of : (f : Chunk) (known : Known f) → breaks_shape f known.main ≡ false
shape_of f known = known.noted.keeps 0 Rule.Shape

-- a function has a register for each parameter
pub enough_registers : (f : Chunk) (known : Known f) → (own f).params ≤ (own f).registers
enough_registers f known =
    ltb-false (own f).registers (own f).params (or_second_false _ _ (or_first_false _ _ (or_first_false _ _ (or_first_false _ _ (or_first_false _ _ (or_first_false _ _ (shape_of f known)))))))

-- where a frame has the table of the extra arguments, it has a register for it
pub arg_register : (f : Chunk) (known : Known f) → has_arg_table (own f).flags ≡ true → (own f).params < (own f).registers
arg_register f known e =
    let bad = or_second_false _ _ (or_first_false _ _ (or_first_false _ _ (or_first_false _ _ (or_first_false _ _ (shape_of f known))))) in
    leb-false (own f).registers (own f).params (sym (ap (λ b. b && nat_le (own f).registers (own f).params) e) ∙ bad)

has_code : (inner : Functions) (code : List ℕ) → (length code == 0) ≡ false → (nat_lt 0 (length code) && not (get_or (further_from inner 0 code) 0 false)) ≡ true
has_code inner [] e = absurd (true≢false e)
has_code inner (w ∷ rest) e = and_true _ _ (lt-ltb 0 (suc (length rest)) (omega arith)) refl

solid_start : (inner : Functions) (code : List ℕ) → get_or (further_from inner 0 code) 0 false ≡ false
solid_start inner [] = refl
solid_start inner (w ∷ rest) = refl

pub unwanted_at_start : (o : Option ℕ) → is_unmet o None ≡ false → o ≡ None
unwanted_at_start None e = refl
unwanted_at_start (Some start) e = absurd (true≢false e)

start_wants : (f : Chunk) (known : Known f) → wanted_at f 0 ≡ None
start_wants f known = go (instr_at f 0) refl
  where
    go : (o : Option Instr) → instr_at f 0 ≡ o → option_and_then (λ i. wants i.op i) o ≡ None
    go None e = refl
    go (Some i) e =
        unwanted_at_start (wants i.op i) (or_first_false _ _ (or_first_false _ _ (kept f known.main known.notes known.noted 0 i (solid_start (functions f) (own f).code) e Rule.OpenResults refl)))

-- a frame with no open cell may begin
pub start_arrival : (f : Chunk) (known : Known f) (cells : List Cell) (k : ℕ) (registers : List Datum) (written : Registers) (left : Option ℕ) → ((r : ℕ) → IsOpen cells k r → ⊥) → Arrival f known.notes cells k registers 0 written left
start_arrival f known cells k registers written left closed = go (known.notes 0) refl known.noted.consistent.start
  where
    go : (o : Option Note) → known.notes 0 ≡ o → IsStart o → Arrival f known.notes cells k registers 0 written left
    go None e start = absurd start
    go (Some n) e start = record {
      place = has_code (functions f) (own f).code (or_second_false _ _ (shape_of f known));
      note = n;
      noted = e;
      holds = record {
        captured = λ r is. absurd (closed r is);
        numbers = λ a r l low high. clash l (start a);
        alone = λ a r l low high. clash l (start a);
      };
      spared = λ a r l low high. clash l (start a);
      met = subst (λ o. Met (length registers) o left) (sym (start_wants f known)) tt;
    }

-- a frame that has a register is one of those below
pub has_frame : (frames : List Frame) (k r : ℕ) → HasRegister frames k r → k < length frames
has_frame [] k r has = absurd has
has_frame (x ∷ below) k r (inl has) = let same : k ≡ length below = has.0 in omega arith
has_frame (x ∷ below) k r (inr has) = let low = has_frame below k r has in omega arith
