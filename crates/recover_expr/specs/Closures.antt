-- Serves a body. CLOSURE, with the further words that say what it captures.
use Rattle.std.specs.Prelude.{◌==◌, ◌&&◌, ◌||◌, ◌+◌, ◌-◌, ℕ, zero, suc, Bool, true, false, nat_le, length, slice_get, Option, None, Some, is_some, option_map, option_and_then, if◌then◌else◌}
use Rattle.opcode.specs.declared.op.Op.{Op}
use Rattle.core_expr.specs.Values.{function_value}
use Rattle.recover_expr.specs.Drafts.{makes}
use Rattle.recover_expr.specs.Locals.{capture}
use Rattle.recover_expr.specs.Situation.{Function, Situation, instr_at, upvalues_in}
use Rattle.recover_expr.specs.Words.{Done}
use Rattle.recover_expr.specs.declared.function.Word.{Word}

abbrev pub behind_upvalues : Function → Word → (upvalues : ℕ) → Option ℕ
behind_upvalues f w count = if nat_le (w.next + count) f.last then Some (w.next + count) else None

-- the pc behind a CLOSURE and its further words, where these are in the code
abbrev pub behind_closure : Function → Word → Option ℕ
behind_closure f w = option_and_then (behind_upvalues f w) (upvalues_in f w.instr.bx)

-- A further word captures a local, which is marked, or the register that the closure goes to; and whether it is that one.
abbrev pub capture_register : Word → (register : ℕ) → Situation → Option (Bool × Situation)
capture_register w r s =
    if is_some (slice_get s.scope.active r) then Some (false, record s { scope = capture r s.scope })
    else if (r == w.instr.a) && ((r == s.base) && (length s.entries == 0)) then Some (true, s)
    else None

abbrev pub capture_as : Op → Word → (register : ℕ) → Situation → Option (Bool × Situation)
capture_as Op.GetUpval w r s = Some (false, s)
capture_as Op.Move w r s = capture_register w r s
capture_as op w r s = None

-- what the further word at a pc captures
abbrev pub capture_by : Function → Word → (pc : ℕ) → Situation → Option (Bool × Situation)
capture_by f w pc s = option_and_then (λ further. capture_as further.op w further.b s) (instr_at f pc)

-- so many further words from a pc on; and whether one of them, or one before, captures the closure's own register
abbrev pub captures : Function → Word → (count pc : ℕ) → (itself : Bool) → Situation → Option (Bool × Situation)
captures f w zero pc itself s = Some (itself, s)
captures f w (suc count) pc itself s = option_and_then (λ p. captures f w count (suc pc) (p.0 || itself) p.1) (capture_by f w pc s)

abbrev pub closure_to : Function → Word → Situation → (next : ℕ) → Done
closure_to f w s next = option_map (λ p. (makes (function_value w.instr.bx p.0) next, p.1)) (captures f w (next - w.next) w.next false s)

abbrev pub closure : Function → Word → Situation → Done
closure f w s = option_and_then (closure_to f w s) (behind_closure f w)
