-- Words that make a value in the next free register.
use Rattle.std.proofs.Common.{◌≡◌, ℕ, ◌+◌, ◌-◌, [], ◌∷◌, ◌++◌, length, Some, None, refl, ap, ◌∙◌, arith, le-leb, eq-eqb}
use Rattle.std.specs.Prelude.{option_and_then, option_map, if◌then◌else◌}
use Rattle.core_expr.specs.Values.{Value}
use Rattle.recover_expr.specs.Drafts.{makes}
use Rattle.recover_expr.specs.Entries.{EntryValue, value_entry, Entries, place_in, is_place}
use Rattle.recover_expr.specs.Reading.{on, read_word, turned, turn_of, value_to}
use Rattle.recover_expr.specs.Situation.{Function, Situation, see}
use Rattle.recover_expr.specs.Words.{with_register}
use Rattle.recover_expr.specs.declared.function.Word.{Word}

-- the situation with an entry more
abbrev pub and_entry : EntryValue → Situation → Situation
and_entry entry s = record s { entries = s.entries ++ entry ∷ [] }

abbrev pub and_value : Value → Situation → Situation
and_value v s = and_entry (value_entry v) s

-- the next free register above the locals
abbrev pub next_free : Situation → ℕ
next_free s = s.base + length s.entries

pub place_of_next : (base count r : ℕ) → r ≡ base + count → place_in base r ≡ Some count
place_of_next base count r is =
    let place : r - base ≡ count = omega arith in
    ap (λ above. if above then Some (r - base) else None) (le-leb base r (omega arith)) ∙ ap Some place

pub entry_next : (entry : EntryValue) (s : Situation) (r : ℕ) → r ≡ next_free s → with_register r entry s ≡ Some (and_entry entry s)
entry_next entry s r is =
    let with_entries = λ (entries : Entries). record s { entries = entries } in
    let count = length s.entries in
    ap (λ place. option_map with_entries (if is_place place count then Some (s.entries ++ entry ∷ []) else None)) (place_of_next s.base count r is)
    ∙ ap (λ same. option_map with_entries (if same then Some (s.entries ++ entry ∷ []) else None)) (eq-eqb count count refl)

value_turn : (f : Function) (w : Word) (v : Value) (next : ℕ) (s : Situation) → w.instr.a ≡ next_free s → turned f w s (makes v next) ≡ Some (on next, and_value v s)
value_turn f w v next s is = ap (value_to f w v next s) (place_of_next s.base (length s.entries) w.instr.a is) ∙ ap (option_map (λ behind. (on next, behind))) (entry_next (value_entry v) s w.instr.a is)

pub makes_turn : (f : Function) (w : Word) (v : Value) (next : ℕ) (s t : Situation) → read_word f w (see w.instr s) ≡ Some (makes v next, t) → w.instr.a ≡ next_free t → turn_of f s w ≡ Some (on next, and_value v t)
makes_turn f w v next s t does is = ap (option_and_then (λ p. turned f w p.1 p.0)) does ∙ value_turn f w v next t is
