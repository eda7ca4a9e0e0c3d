-- A step is a `local function` just where its words make a function that captures its own register.
use Rattle.std.proofs.Common.{◌≡◌, ℕ, zero, suc, ◌+◌, ◌-◌, ◌&&◌, Bool, true, false, nat_le, nat_lt, List, [], ◌∷◌, ◌++◌, length, Option, Some, None, option_and_then, option_map, refl, sym, ap, ap₂, ◌∙◌, subst, arith, if◌then◌else◌}
use Rattle.std.proofs.lemmas.List.Folds.{list_any-append}
use Rattle.std.specs.Prelude.{◌==◌, ◌||◌, take}
use Rattle.lua_tree.specs.Syntax.{Statement}
use Rattle.opcode.specs.declared.op.Op.{Op}
use Rattle.recover_expr.specs.Assigning.{assignment_from}
use Rattle.core_expr.specs.Writing.{Wordings}
use Rattle.recover_expr.specs.Closures.{behind_closure, behind_upvalues, captures, closure, closure_to}
use Rattle.recover_expr.specs.Declaring.{captures_itself, declaration, declared_by, ends_with_nil, has_last_nil, head_at, hidden_count, is_nil_entry, locals_declared, loop_head, statement_made, without_nil}
use Rattle.recover_expr.specs.Drafts.{Did, Drafted, ends, goes, makes}
use Rattle.recover_expr.specs.Entries.{EntryValue, Entries, missing_entry, place_in, value_entry}
use Rattle.recover_expr.specs.Locals.{Scope, declare, is_hidden, names_from, or_zero, starting}
use Rattle.recover_expr.specs.Reading.{Turn, as_over, go_on, lone_step, on, over, plain_as, read_word, stores_as, turn_at, turn_of, turned, value_as, value_to, words_from}
use Rattle.recover_expr.specs.Situation.{Function, Situation, global_in, local_in, see, upvalue_in, upvalues_in, word_at}
use Rattle.recover_expr.specs.Words.{Done, as_end}
use Rattle.recover_expr.specs.declared.function.Word.{Word}
use Rattle.reads_back.proofs.AssignmentsRefused.{assignment_refused, value_assignment_refused}
use Rattle.reads_back.proofs.EachSome.{Each, each_if, each_map, each_next, each_none, each_some, each_tested, each_then, each_there, each_where}
use Rattle.reads_back.proofs.ListsRefused.{adjusted_refused, nil_free}
use Rattle.reads_back.proofs.OwnFirst.{entry_own, first_own, own_alone, own_in, own_still, set_next_own}
use Rattle.reads_back.proofs.OwnValues.{holds_own}
use Rattle.reads_back.proofs.OwnWords.{OwnDid, OwnDone, OwnsFirst, call_word_own, constant_own, get_table_own, item_own, new_table_own, nil_own, operator_own, returned_own, sees_entries, self_word_own, set_list_own, tail_own, test_own, vararg_own}
use Rattle.reads_back.proofs.ScopesCaptured.{MarksAs, captured_from, registers_as, words_mark}
use Rattle.reads_back.proofs.ScopesGrow.{MadeAs, statement_made_kept}
use Rattle.reads_back.proofs.ScopesRead.{captures_same, has_register, is_local_function, sees_kept}
use Rattle.reads_back.proofs.StepScopes.{TurnAs, TurnedAs, turn_captures, captured_by_words, captured_on, captured_then, registers_at, registers_of, step_captures}
use Rattle.reads_back.proofs.Tests.{not_so, second_of_both}

abbrev IsLocalFunction : (Drafted × Situation) → Type 0
IsLocalFunction p = is_local_function p.0.part ≡ true

-- ---- declarations

-- a nil that is left out is not the lowest
without_own : (count : ℕ) (entries : Entries) → first_own entries ≡ true → first_own (without_nil count entries) ≡ true
without_own count [] own = not_so own
without_own count (entry ∷ []) own = by (has_last_nil (entry ∷ []) count) refl
  where
    none : (entry : EntryValue) → entry_own entry ≡ true → is_nil_entry entry ≡ true → ⊥
    none (value_entry v) own nil = not_so (sym (nil_free v nil) ∙ own)
    none entry own nil = not_so nil

    by : (holds : Bool) → has_last_nil (entry ∷ []) count ≡ holds → first_own (if holds then take (length (entry ∷ []) - 1) (entry ∷ []) ++ missing_entry ∷ [] else entry ∷ []) ≡ true
    by true holds = absurd (none entry own (second_of_both (length (entry ∷ []) == count) (ends_with_nil (entry ∷ [])) holds))
    by false holds = own
without_own count (entry ∷ other ∷ entries) own = by (has_last_nil (entry ∷ other ∷ entries) count)
  where
    more : suc (length entries) ≡ length (entry ∷ other ∷ entries) - 1
    more = omega arith

    by : (holds : Bool) → first_own (if holds then take (length (entry ∷ other ∷ entries) - 1) (entry ∷ other ∷ entries) ++ missing_entry ∷ [] else entry ∷ other ∷ entries) ≡ true
    by true = subst (λ (count : ℕ). first_own (take count (entry ∷ other ∷ entries) ++ missing_entry ∷ []) ≡ true) more own
    by false = own

locals_own : (f : Function) (at count : ℕ) (s : Situation) → OwnsFirst s → Each IsLocalFunction (locals_declared f at count s)
locals_own f at count s own = by (captures_itself s.entries)
  where
    first : ℕ
    first = length s.scope.declared

    by : (itself : Bool) → Each IsLocalFunction (option_and_then (declared_by f at count first itself) (option_and_then (statement_made f count s itself) (names_from f.of.locals first count)))
    by true = each_then {Holds = MadeAs true s} (each_next (names_from f.of.locals first count) (λ names. statement_made_kept f count s true names)) (λ made done. each_map _ (each_there {o = declare f.of.locals count at (Some made.1.step) made.1.scope}) (λ scope there. done.part))
    by false = each_then {Holds = λ (made : (Statement × ℕ) × Situation). ⊥} (each_next (names_from f.of.locals first count) (λ names.
        each_then {Holds = λ (p : Entries × Entries). p.0 ≡ s.entries} (each_where (nat_le 0 (length s.entries)) (each_some refl)) (λ p is.
        each_map _ (adjusted_refused f count true s.taken (without_nil count p.0) (record s { entries = p.1 }) (without_own count p.0 (ap first_own is ∙ own))) (λ values never. never)))) (λ made never. absurd never)

head_refused : (f : Function) (at count : ℕ) (s : Situation) → OwnsFirst s → Each IsLocalFunction (loop_head f at count s)
head_refused f at count s own = each_next (head_at f (length s.scope.declared) count at) (λ head.
    each_then {Holds = λ (values : Wordings × Situation). ⊥} (each_then {Holds = λ (p : Entries × Entries). p.0 ≡ s.entries} (each_where (nat_le 0 (length s.entries)) (each_some refl)) (λ p is.
    each_then (adjusted_refused f hidden_count false s.taken p.0 (record s { entries = p.1 }) (ap first_own is ∙ own)) (λ values never. absurd never))) (λ values never. absurd never))

declaration_own : (f : Function) (at count : ℕ) (s : Situation) → OwnsFirst s → Each IsLocalFunction (declaration f at count s)
declaration_own f at count s own =
    each_if (is_hidden f.of.locals (length s.scope.declared)) (head_refused f at count s own) (each_if (nat_lt (length s.entries) count) each_none (locals_own f at count s own))

-- ---- words

all_refused : {o : Option (Drafted × Situation)} → Each (λ p. ⊥) o → Each OwnDone (option_map as_end o)
all_refused refused = each_map _ refused (λ p never. absurd never)

-- a CLOSURE among others
closure_passes : (f : Function) (w : Word) (s : Situation) → OwnsFirst s → Each OwnDone (closure f w s)
closure_passes f w s own = each_next (behind_closure f w) (λ next. each_map _ (words_mark f w (next - w.next) w.next false s) (λ p marks.
    let same : first_own p.1.entries ≡ first_own s.entries = ap (λ (t : Situation). first_own t.entries) marks.is in
    record { own = own_still false p.0 p.1.entries not_so (same ∙ own) }))

-- the CLOSURE that captures its own register
closure_own : (f : Function) (w : Word) (s : Situation) → length s.scope.active ≡ s.base → has_register s.base (registers_as Op.Closure f w) ≡ true → Each OwnDone (closure f w s)
closure_own f w s base has = by (upvalues_in f w.instr.bx) has
  where
    to : (count next : ℕ) → next ≡ w.next + count → has_register s.base (captured_from f count w.next) ≡ true → Each OwnDone (closure_to f w s next)
    to count next is has =
        let left : next - w.next ≡ count = omega (arith, is) in
        each_map _ (subst (λ count. Each (MarksAs (captured_from f count w.next) false s) (captures f w (next - w.next) w.next false s)) left (words_mark f w (next - w.next) w.next false s)) (λ p marks.
        let itself = marks.itself base has in
        record { own = ap₂ own_in itself.0 (ap (λ (t : Situation). t.entries) marks.is ∙ itself.1) })

    by : (many : Option ℕ) → has_register s.base (captured_from f (or_zero many) w.next) ≡ true → Each OwnDone (option_and_then (closure_to f w s) (option_and_then (behind_upvalues f w) many))
    by None has = each_none
    by (Some count) has = each_then (each_where (nat_le (w.next + count) f.last) (each_some {Holds = λ (next : ℕ). next ≡ w.next + count} refl)) (λ next is. to count next is has)

lone_none : (f : Function) (w : Word) (s : Situation) → OwnsFirst s → Each OwnDone (lone_step f w s)
lone_none f w s own = each_map {Holds = λ (draft : Drafted). ⊥} _ (each_tested ((s.pc == w.pc) && (length s.entries == 0)) (λ holds. absurd (not_so (own_alone false s.entries (second_of_both (s.pc == w.pc) (length s.entries == 0) holds) own)))) (λ draft never. absurd never)

plain_own : (op : Op) (f : Function) (w : Word) (s : Situation) → OwnsFirst s → Each OwnDone (plain_as op f w s)
plain_own Op.Move f w s own = each_map _ (each_there {o = local_in f s w.instr.b}) (λ v there. record { own = own_still false (holds_own v) s.entries not_so own })
plain_own Op.LoadK f w s own = constant_own f w s own
plain_own Op.LoadBool f w s own = each_some (record { own = own })
plain_own Op.LoadNil f w s own = nil_own w s own
plain_own Op.GetTable f w s own = get_table_own f w s own
plain_own Op.NewTable f w s own = new_table_own w s own
plain_own Op.SetTable f w s own = item_own f w s own
plain_own Op.SetList f w s own = set_list_own f w s own
plain_own Op.Self_ f w s own = self_word_own f w s own
plain_own Op.Call f w s own = call_word_own f w s own
plain_own Op.Vararg f w s own = vararg_own w s own
plain_own Op.Closure f w s own = closure_passes f w s own
plain_own Op.Return f w s own = all_refused (returned_own f w s own)
plain_own Op.TailCall f w s own = all_refused (tail_own f w s own)
plain_own Op.Jmp f w s own = lone_none f w s own
plain_own Op.Close f w s own = lone_none f w s own
plain_own Op.ForLoop f w s own = lone_none f w s own
plain_own Op.TForLoop f w s own = lone_none f w s own
plain_own op f w s own = operator_own f w s own w.instr.op

value_own : (op : Op) (f : Function) (w : Word) (s : Situation) → OwnsFirst s → Each OwnDone (value_as op f w s)
value_own Op.GetGlobal f w s own = each_map _ (each_there {o = global_in f w.instr}) (λ name there. record { own = own })
value_own Op.GetUpval f w s own = each_map _ (each_there {o = upvalue_in f w.instr}) (λ upvalue there. record { own = own })
value_own Op.LoadBool f w s own = each_where (w.instr.c == 0) (plain_own w.instr.op f w s own)
value_own Op.TestSet f w s own = each_none
value_own Op.Eq f w s own = all_refused (test_own f w s own)
value_own Op.Lt f w s own = all_refused (test_own f w s own)
value_own Op.Le f w s own = all_refused (test_own f w s own)
value_own Op.Test f w s own = all_refused (test_own f w s own)
value_own op f w s own = plain_own w.instr.op f w s own

word_own : (f : Function) (w : Word) (s : Situation) → OwnsFirst s → Each OwnDone (read_word f w s)
word_own f w s own = each_if (stores_as w.instr.op f w s) (all_refused (assignment_refused f w s own)) (value_own w.instr.op f w s own)

-- ---- turns

abbrev OwnTurned : Situation → Turn → Type 0
OwnTurned behind (on next) = OwnsFirst behind
OwnTurned behind (over draft) = is_local_function draft.part ≡ true

record OwnTurn (p : Turn × Situation) : Type 0 where
  own : OwnTurned p.1 p.0

did_own : (f : Function) (w : Word) (behind : Situation) (did : Did) → OwnDid behind did → Each OwnTurn (turned f w behind did)
did_own f w behind (goes next) own = each_some (record { own = own })
did_own f w behind (ends draft) own = absurd own
did_own f w behind (makes v next) own = by (place_in behind.base w.instr.a)
  where
    by : (place : Option ℕ) → Each OwnTurn (value_to f w v next behind place)
    by None = each_map _ (value_assignment_refused f w v next behind own) (λ p never. absurd never)
    by (Some place) = each_map _ (each_map {Holds = λ (entries : Entries). first_own entries ≡ true} {Then = OwnsFirst} _ (set_next_own (holds_own v) behind.base w.instr.a (value_entry v) behind.entries own (λ is. is)) (λ entries is. is)) (λ t is. record { own = is })

all_turned : (f : Function) (w : Word) {o : Done} → Each OwnDone o → Each OwnTurn (option_and_then (λ p. turned f w p.1 p.0) o)
all_turned f w own = each_then own (λ p done. did_own f w p.1 p.0 done.own)

turn_own : (f : Function) (pc : ℕ) (s : Situation) → OwnsFirst s → Each OwnTurn (turn_at f pc s)
turn_own f pc s own =
    each_if (nat_lt 0 (starting f.of.locals pc s.scope)) (each_map _ (declaration_own f pc (starting f.of.locals pc s.scope) s own) (λ p is. record { own = is }))
    (each_if (nat_le f.last pc) each_none (each_next (word_at f pc) (λ w. all_turned f w (word_own f w (see w.instr s) (ap first_own (sees_entries w.instr s) ∙ own)))))

-- the word that captures its own register
base_own : (f : Function) (w : Word) (s : Situation) → length s.scope.active ≡ s.base → has_register s.base (registers_as w.instr.op f w) ≡ true → Each OwnDone (read_word f w s)
base_own f w s base has = by w.instr.op refl has
  where
    by : (op : Op) → w.instr.op ≡ op → has_register s.base (registers_as op f w) ≡ true → Each OwnDone (read_word f w s)
    by Op.Closure is has = subst (λ (op : Op). Each OwnDone (if stores_as op f w s then option_map as_end (assignment_from f w s) else value_as op f w s)) (sym is) (subst (λ (op : Op). Each OwnDone (plain_as op f w s)) (sym is) (closure_own f w s base has))
    by op is has = absurd (not_so has)

turn_base : (f : Function) (pc : ℕ) (s : Situation) → length s.scope.active ≡ s.base → has_register s.base (registers_at f pc s) ≡ true → Each OwnTurn (turn_at f pc s)
turn_base f pc s base has = by (nat_lt 0 (starting f.of.locals pc s.scope)) has
  where
    word : (there : Option Word) → has_register s.base (registers_of f there) ≡ true → Each OwnTurn (option_and_then (turn_of f s) there)
    word None has = each_none
    word (Some w) has =
        let seen = sees_kept w.instr s in
        let same : length (see w.instr s).scope.active ≡ (see w.instr s).base = ap (λ (scope : Scope). length scope.active) seen.scope ∙ base ∙ sym seen.base in
        all_turned f w (base_own f w (see w.instr s) same (ap (λ (base : ℕ). has_register base (registers_as w.instr.op f w)) seen.base ∙ has))

    by : (starts : Bool) → has_register s.base (if starts then [] else registers_of f (word_at f pc)) ≡ true →
        Each OwnTurn (if starts then option_map as_over (declaration f pc (starting f.of.locals pc s.scope) s) else if nat_le f.last pc then None else option_and_then (turn_of f s) (word_at f pc))
    by true has = absurd (not_so has)
    by false has = each_if (nat_le f.last pc) each_none (word (word_at f pc) has)

-- ---- all words of the step

words_own : (f : Function) (count pc : ℕ) (s : Situation) → OwnsFirst s → Each IsLocalFunction (words_from f count pc s)
words_own f zero pc s own = each_none
words_own f (suc count) pc s own = each_then (turn_own f pc s own) (λ p turn. go (λ next behind. words_own f count next behind) p.0 p.1 turn.own)
  where
    go : ((next : ℕ) (behind : Situation) → OwnsFirst behind → Each IsLocalFunction (words_from f count next behind)) → (turn : Turn) (behind : Situation) → OwnTurned behind turn → Each IsLocalFunction (go_on (words_from f count) turn behind)
    go rest (on next) behind own = rest next behind own
    go rest (over draft) behind own = each_some own

words_base : (f : Function) (count pc : ℕ) (s : Situation) → length s.scope.active ≡ s.base → has_register s.base (captured_by_words f count pc s) ≡ true → Each IsLocalFunction (words_from f count pc s)
words_base f zero pc s base has = each_none
words_base f (suc count) pc s base has =
    by (λ next behind. words_own f count next behind) (λ next behind. words_base f count next behind) (turn_at f pc s) (turn_captures f pc s) (turn_base f pc s base) (has_register s.base here) refl
    (sym (list_any-append (λ (n : ℕ). n == s.base) here (captured_then (captured_by_words f count) (turn_at f pc s))) ∙ has)
  where
    here : List ℕ
    here = registers_at f pc s

    Owns : Type 0
    Owns = (next : ℕ) (behind : Situation) → OwnsFirst behind → Each IsLocalFunction (words_from f count next behind)

    Rest : Type 0
    Rest = (next : ℕ) (behind : Situation) → length behind.scope.active ≡ behind.base → has_register behind.base (captured_by_words f count next behind) ≡ true → Each IsLocalFunction (words_from f count next behind)

    owned : Owns → (turn : Turn) (behind : Situation) → OwnTurned behind turn → Each IsLocalFunction (go_on (words_from f count) turn behind)
    owned own (on next) behind is = own next behind is
    owned own (over draft) behind is = each_some is

    later : Rest → (turn : Turn) (behind : Situation) → TurnedAs here s behind turn → has_register s.base (captured_on (captured_by_words f count) turn behind) ≡ true → Each IsLocalFunction (go_on (words_from f count) turn behind)
    later rest (on next) behind captures has =
        rest next behind (ap (λ (scope : Scope). length scope.active) captures.scope ∙ ap length (captures_same here s.scope).active ∙ base ∙ sym captures.base) (ap (λ (base : ℕ). has_register base (captured_by_words f count next behind)) captures.base ∙ has)
    later rest (over draft) behind grows has = absurd (not_so has)

    by : Owns → Rest → (turn : Option (Turn × Situation)) → Each (TurnAs here s) turn → (has_register s.base here ≡ true → Each OwnTurn turn) → (first : Bool) → has_register s.base here ≡ first →
        (first || has_register s.base (captured_then (captured_by_words f count) turn)) ≡ true → Each IsLocalFunction (option_and_then (λ (p : Turn × Situation). go_on (words_from f count) p.0 p.1) turn)
    by own rest None captures owns first is has = each_none
    by own rest (Some p) captures owns true is has = owned own p.0 p.1 ((owns is).at p refl).own
    by own rest (Some p) captures owns false is has = later rest p.0 p.1 (captures.at p refl).turned has

-- a step is a `local function` just where one of its CLOSUREs captures the next free register before it
pub own_by_words : (f : Function) (count pc : ℕ) (s : Situation) (draft : Drafted) (behind : Situation) → words_from f count pc s ≡ Some (draft, behind) → length s.scope.active ≡ s.base → captures_itself s.entries ≡ false →
    is_local_function draft.part ≡ has_register s.base (captured_by_words f count pc s)
own_by_words f count pc s draft behind is base none = by (has_register s.base (captured_by_words f count pc s)) refl
  where
    by : (has : Bool) → has_register s.base (captured_by_words f count pc s) ≡ has → is_local_function draft.part ≡ has
    by true has = (words_base f count pc s base has).at (draft, behind) is
    by false has = (step_captures f count pc s draft behind is).own has none
