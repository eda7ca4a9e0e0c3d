-- The word of a test and the JMP behind it end the step, with what is written of what they test.
use Rattle.std.proofs.Common.{◌≡◌, ℕ, suc, ◌≤◌, ◌<◌, ◌&&◌, Bool, true, false, [], Some, None, refl, ap, ◌∙◌, subst, arith, le-leb, lt-ltb}
use Rattle.std.specs.Prelude.{◌==◌, ◌+ℤ◌, ◌-ℤ◌, pos, length, option_and_then, option_map, if◌then◌else◌}
use Rattle.opcode.specs.declared.op.Op.{Op}
use Rattle.opcode.specs.Word.{truth_field}
use Rattle.core_expr.specs.Counting.{left_by, taken_behind}
use Rattle.core_expr.specs.Targets.{left_by_comparison, word_comparison}
use Rattle.core_expr.specs.Writing.{Wording, word}
use Rattle.recover_expr.specs.Drafts.{Drafted, condition_part, drafted}
use Rattle.recover_expr.specs.Entries.{Entries}
use Rattle.recover_expr.specs.Situation.{Function, Situation, jump_at, jump_behind, place_in_step, target, with_left, within_last, word_at}
use Rattle.recover_expr.specs.Testing.{TestedValue, alone, condition, negated_levels, test, test_ended, test_step, tested_by, tested_comparison, tested_value, when_of, with_condition}
use Rattle.recover_expr.specs.declared.draft.DraftKind.{DraftKind}
use Rattle.recover_expr.specs.declared.function.Word.{Word}
use Rattle.scheme.specs.declared.making.Piece.{Piece}
use Rattle.scheme_stands.specs.Words.{Fn, IsRead, Law, Lawful, Reads, Spot, WordAt}
use Rattle.reads_back.proofs.TestedAs.{can_test, condition_word, left_by_test}
use Rattle.reads_back.proofs.WordsRead.{IsFunction, word_of, word_there}

-- ---- the JMP

pub jump_is_read : {f : Function} {g : Fn} {op : Op} {a label : ℕ} {p q : Spot} → IsFunction f g → WordAt g (Piece.Jump op a label) p q → IsRead p.pc (Piece.Jump op a label)
jump_is_read {g = g} {op = op} {a} {label} {p} is_function at = (subst (λ (l : Law). Lawful l (Reads g p.pc (Piece.Jump op a label))) is_function.law at.reads).is

to_label : (pc label : ℕ) → pos (suc pc) +ℤ (pos label -ℤ pos (suc pc)) ≡ pos label
to_label pc label = grind arith

-- a word goes to its label, where that is in the code
pub label_target : (f : Function) (op : Op) (a pc label : ℕ) → label ≤ f.last → target f (word_of pc (Piece.Jump op a label)) ≡ Some label
label_target f op a pc label within = ap (within_last f) (to_label pc label) ∙ ap (λ within. if within then Some label else None) (le-leb label f.last within)

pub jump_target : (f : Function) (pc label : ℕ) → label ≤ f.last → target f (word_of pc (Piece.Jump Op.Jmp 0 label)) ≡ Some label
jump_target f pc label within = label_target f Op.Jmp 0 pc label within

pub jump_there : {f : Function} {g : Fn} {label : ℕ} {p q : Spot} (w : Word) → IsFunction f g → w.next ≡ p.pc → p.pc < f.last → WordAt g (Piece.Jump Op.Jmp 0 label) p q → jump_behind f w ≡ Some (word_of p.pc (Piece.Jump Op.Jmp 0 label))
jump_there {f} {label = label} {p = p} w is_function next before at =
    ap (λ pc. option_and_then (jump_at f) (word_at f pc)) next
    ∙ ap (option_and_then (jump_at f)) (word_there is_function at (jump_is_read is_function at) before)
    ∙ ap (λ before. if before && true then Some (word_of p.pc (Piece.Jump Op.Jmp 0 label)) else None) (lt-ltb p.pc f.last before)

-- ---- the step

condition_written : (f : Function) (tested : TestedValue) (s : Situation) → can_test (place_in_step f s) s.taken s.left tested ≡ true →
    condition f tested s ≡ Some (condition_word (place_in_step f s) s.taken s.left tested, with_left (left_by_test (place_in_step f s) s.taken s.left tested) s)
condition_written f (tested_value v) s can =
    let wrote : Wording × ℕ × Situation = (word (place_in_step f s) s.taken s.left v, taken_behind v s.taken, with_left (left_by v s.left) s) in
    ap (λ can. option_map (λ (w : Wording × ℕ × Situation). (w.0, w.2)) (if can then Some wrote else None)) can
condition_written f (tested_comparison c) s can =
    let wrote : Wording × Situation = (word_comparison (place_in_step f s) s.taken s.left c, with_left (left_by_comparison (place_in_step f s) s.taken s.left c) s) in
    ap (λ can. if can then Some wrote else None) can

-- what is known behind it
abbrev pub after_test : Function → TestedValue → Situation → Situation
after_test f tested s = with_left (left_by_test (place_in_step f s) s.taken s.left tested) s

abbrev pub test_draft : Function → (when : Bool) → (to next : ℕ) → TestedValue → Situation → Drafted
test_draft f when to next tested s =
    let w = condition_word (place_in_step f s) s.taken s.left tested in
    drafted (DraftKind.Test when to (negated_levels w.words w.levels)) next w.levels (condition_part w.words) (after_test f tested s)

pub test_is : (f : Function) (w jump : Word) (tested : TestedValue) (to : ℕ) (t s : Situation) → jump_behind f w ≡ Some jump → target f jump ≡ Some to → tested_by f w t ≡ Some (tested, s) → s.entries ≡ [] → can_test (place_in_step f s) s.taken s.left tested ≡ true →
    test f w t ≡ Some (test_draft f (when_of w.instr.op w) to jump.next tested s, after_test f tested s)
test_is f w jump tested to t s behind goes takes empty can =
    ap (option_and_then (λ jump. option_and_then (test_step f w jump) (option_and_then alone (tested_by f w t)))) behind
    ∙ ap (λ taken. option_and_then (test_step f w jump) (option_and_then alone taken)) takes
    ∙ ap (λ (entries : Entries). option_and_then (test_step f w jump) (if length entries == 0 then Some (tested, s) else None)) empty
    ∙ ap (option_and_then (with_condition f w jump)) (condition_written f tested s can)
    ∙ ap (option_map (test_ended w jump (condition_word (place_in_step f s) s.taken s.left tested, after_test f tested s))) goes

-- a flag of a word is the truth that it stands for
pub flag_is : (truth : Bool) → (truth_field truth == 1) ≡ truth
flag_is true = refl
flag_is false = refl
