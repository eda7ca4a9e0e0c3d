-- What the step that words are read as does to the listed locals.
use Rattle.std.proofs.Common.{◌≡◌, ℕ, zero, suc, ◌&&◌, Bool, true, false, nat_le, nat_lt, List, [], ◌++◌, append-nil, length, Option, Some, None, option_and_then, option_map, refl, sym, ap, ◌∙◌, subst, if◌then◌else◌, ltb-true}
use Rattle.std.specs.Prelude.{◌==◌}
use Rattle.opcode.specs.declared.op.Op.{Op}
use Rattle.recover_expr.specs.Assigning.{assignment_from}
use Rattle.recover_expr.specs.Declaring.{declaration, is_own_function}
use Rattle.recover_expr.specs.Drafts.{Did, Drafted, ends, goes, makes}
use Rattle.recover_expr.specs.Entries.{Entries, place_in, value_entry}
use Rattle.recover_expr.specs.Locals.{declaring_step, is_named, starting}
use Rattle.recover_expr.specs.Reading.{Turn, as_over, go_on, lone, lone_as, lone_step, on, over, plain_as, read_word, stores_as, turn_at, turn_of, turned, value_as, value_to, words_from}
use Rattle.recover_expr.specs.Situation.{Function, Situation, global_in, jump_behind, see, target, upvalue_in, word_at}
use Rattle.recover_expr.specs.Testing.{test}
use Rattle.recover_expr.specs.Words.{Done, as_end}
use Rattle.recover_expr.specs.declared.draft.DraftKind.{DraftKind}
use Rattle.recover_expr.specs.declared.function.Word.{Word}
use Rattle.reads_back.proofs.EachSome.{Each, each_if, each_map, each_next, each_none, each_of, each_some, each_then, each_there, each_where}
use Rattle.reads_back.proofs.OwnEntries.{NoMore, set_next_if}
use Rattle.reads_back.proofs.ScopesCaptured.{closure_captures, registers_as}
use Rattle.reads_back.proofs.ScopesGrow.{EndsAs, declaration_grows, ends_behind, ends_captured, ends_kept_behind}
use Rattle.reads_back.proofs.ScopesRead.{Captures, DeclaresNone, DidAs, DoneAs, EndsKept, IsOfStep, IsPlain, done_then, ended_kept, keeps_same, made_kept, sees_kept}
use Rattle.reads_back.proofs.StoresKept.{assignment_kept, value_assignment_kept}
use Rattle.reads_back.proofs.WordsKept.{IsFree, call_word_kept, constant_kept, get_table_kept, item_kept, new_table_kept, nil_kept, operator_kept, returned_kept, self_word_kept, set_list_kept, tail_kept, test_kept, vararg_kept}

-- ---- words

all_ended : {s : Situation} {o : Option (Drafted × Situation)} → Each (EndsKept s) o → Each (DoneAs [] s) (option_map as_end o)
all_ended kept = each_map _ kept (λ p kept. ended_kept kept)

lone_plain : (next : ℕ) (s : Situation) (kind : DraftKind) → DeclaresNone kind → IsOfStep s (lone next s kind) × IsPlain (lone next s kind)
lone_plain next s kind none = (record { base = refl; innermost = refl; pc = refl }, record { kind = none; part = refl })

lone_kept : (f : Function) (w : Word) (s : Situation) → Each (DoneAs [] s) (lone_step f w s)
lone_kept f w s = each_map _ (each_where ((s.pc == w.pc) && (length s.entries == 0)) (by w.instr.op)) (λ draft is. record { captures = keeps_same s; did = is })
  where
    by : (op : Op) → Each (λ draft. IsOfStep s draft × IsPlain draft) (lone_as op f w s)
    by Op.Close = each_some (lone_plain w.next s (DraftKind.Close w.instr.a (declaring_step w.instr.a s.scope)) tt)
    by Op.TForLoop = each_next (jump_behind f w) (λ jump. each_map _ (each_there {o = target f jump}) (λ to is. lone_plain jump.next s (DraftKind.Foot false to) tt))
    by Op.ForLoop = each_map _ (each_there {o = target f w}) (λ to is. lone_plain w.next s (DraftKind.Foot true to) tt)
    by op = each_map _ (each_there {o = target f w}) (λ to is. lone_plain w.next s (DraftKind.Jump to) tt)

plain_captures : (op : Op) (f : Function) (w : Word) (s : Situation) → Each (DoneAs (registers_as op f w) s) (plain_as op f w s)
plain_captures Op.Move f w s = each_map _ (each_where (is_named f.of.locals w.instr.b s.scope) (each_some {Holds = IsFree} refl)) (λ v is. made_kept (keeps_same s) is)
plain_captures Op.LoadK f w s = constant_kept f w s
plain_captures Op.LoadBool f w s = each_some (made_kept (keeps_same s) refl)
plain_captures Op.LoadNil f w s = nil_kept w s
plain_captures Op.GetTable f w s = get_table_kept f w s
plain_captures Op.NewTable f w s = new_table_kept w s
plain_captures Op.SetTable f w s = item_kept f w s
plain_captures Op.SetList f w s = set_list_kept f w s
plain_captures Op.Self_ f w s = self_word_kept f w s
plain_captures Op.Call f w s = call_word_kept f w s
plain_captures Op.Vararg f w s = vararg_kept w s
plain_captures Op.Closure f w s = closure_captures f w s
plain_captures Op.Return f w s = all_ended (returned_kept f w s)
plain_captures Op.TailCall f w s = all_ended (tail_kept f w s)
plain_captures Op.Jmp f w s = lone_kept f w s
plain_captures Op.Close f w s = lone_kept f w s
plain_captures Op.ForLoop f w s = lone_kept f w s
plain_captures Op.TForLoop f w s = lone_kept f w s
plain_captures op f w s = operator_kept f w s w.instr.op

nothing : {registers : List ℕ} {s : Situation} {o : Done} → registers ≡ [] → Each (DoneAs [] s) o → Each (DoneAs registers s) o
nothing {s = s} {o} is none = subst (λ (registers : List ℕ). Each (DoneAs registers s) o) (sym is) none

-- a word that is no store does what its instruction is
value_captures : (f : Function) (w : Word) (s : Situation) → Each (DoneAs (registers_as w.instr.op f w) s) (value_as w.instr.op f w s)
value_captures f w s = by w.instr.op refl
  where
    as_is : (op : Op) → w.instr.op ≡ op → registers_as op f w ≡ [] → registers_as w.instr.op f w ≡ []
    as_is op is none = ap (λ op. registers_as op f w) is ∙ none

    tested : Each (DoneAs [] s) (option_map as_end (test f w s))
    tested = all_ended (test_kept f w s)

    by : (op : Op) → w.instr.op ≡ op → Each (DoneAs (registers_as w.instr.op f w) s) (value_as op f w s)
    by Op.GetGlobal is = nothing (as_is Op.GetGlobal is refl) (each_map _ (each_there {o = global_in f w.instr}) (λ name there. made_kept (keeps_same s) refl))
    by Op.GetUpval is = nothing (as_is Op.GetUpval is refl) (each_map _ (each_there {o = upvalue_in f w.instr}) (λ upvalue there. made_kept (keeps_same s) refl))
    by Op.LoadBool is = each_where (w.instr.c == 0) (plain_captures w.instr.op f w s)
    by Op.TestSet is = each_none
    by Op.Eq is = nothing (as_is Op.Eq is refl) tested
    by Op.Lt is = nothing (as_is Op.Lt is refl) tested
    by Op.Le is = nothing (as_is Op.Le is refl) tested
    by Op.Test is = nothing (as_is Op.Test is refl) tested
    by op is = plain_captures w.instr.op f w s

word_captures : (f : Function) (w : Word) (s : Situation) → Each (DoneAs (registers_as w.instr.op f w) s) (read_word f w s)
word_captures f w s = by w.instr.op refl
  where
    by : (op : Op) → w.instr.op ≡ op → Each (DoneAs (registers_as w.instr.op f w) s) (if stores_as op f w s then option_map as_end (assignment_from f w s) else value_as w.instr.op f w s)
    by Op.Closure is = value_captures f w s
    by op is = each_if (stores_as op f w s) (nothing (ap (λ op. registers_as op f w) is) (all_ended (assignment_kept f w s))) (value_captures f w s)

-- ---- turns

-- what a word comes to, where it and those before it captured the locals in these registers
abbrev pub TurnedAs : (registers : List ℕ) → Situation → Situation → Turn → Type 0
TurnedAs registers s behind (on next) = Captures registers s behind
TurnedAs registers s behind (over draft) = EndsAs registers s (draft, behind)

pub record TurnAs (registers : List ℕ) (s : Situation) (p : Turn × Situation) : Type 0 where
  pub turned : TurnedAs registers s p.1 p.0

did_captures : (f : Function) (w : Word) (registers : List ℕ) (s behind : Situation) (did : Did) → Captures registers s behind → DidAs registers s did → Each (TurnAs registers s) (turned f w behind did)
did_captures f w registers s behind (goes next) captures did = each_some (record { turned = captures })
did_captures f w registers s behind (ends draft) captures did = each_some (record { turned = ends_captured captures did.0 did.1 })
did_captures f w registers s behind (makes v next) captures did = by (place_in behind.base w.instr.a)
  where
    set : (entries : Entries) → (is_own_function (value_entry v) ≡ false → NoMore behind.entries entries) → Captures registers s (record behind { entries = entries })
    set entries less = record {
      scope = captures.scope;
      step = captures.step;
      pc = captures.pc;
      inside = captures.inside;
      base = captures.base;
      own = λ none before. less (did none) (captures.own none before);
    }

    by : (place : Option ℕ) → Each (TurnAs registers s) (value_to f w v next behind place)
    by None = each_map _ (value_assignment_kept f w v next behind) (λ p kept. record { turned = ends_kept_behind captures kept })
    by (Some place) = each_map _ (each_map _ (set_next_if behind.base w.instr.a (value_entry v) behind.entries) (λ entries less. set entries less)) (λ t more. record { turned = more })

-- the locals in these registers are captured where a word is read
abbrev pub registers_of : Function → Option Word → List ℕ
registers_of f None = []
registers_of f (Some w) = registers_as w.instr.op f w

-- at a pc where no local starts
abbrev pub registers_at : Function → (pc : ℕ) → Situation → List ℕ
registers_at f pc s = if nat_lt 0 (starting f.of.locals pc s.scope) then [] else registers_of f (word_at f pc)

pub turn_captures : (f : Function) (pc : ℕ) (s : Situation) → Each (TurnAs (registers_at f pc s) s) (turn_at f pc s)
turn_captures f pc s = by (nat_lt 0 (starting f.of.locals pc s.scope)) refl
  where
    word : (there : Option Word) → Each (TurnAs (registers_of f there) s) (option_and_then (turn_of f s) there)
    word None = each_none
    word (Some w) = each_then (word_captures f w (see w.instr s)) (λ p done.
        let more = done_then (sees_kept w.instr s) done in
        did_captures f w (registers_as w.instr.op f w) s p.1 p.0 more.captures more.did)

    by : (starts : Bool) → nat_lt 0 (starting f.of.locals pc s.scope) ≡ starts → Each (TurnAs (if starts then [] else registers_of f (word_at f pc)) s)
        (if starts then option_map as_over (declaration f pc (starting f.of.locals pc s.scope) s) else if nat_le f.last pc then None else option_and_then (turn_of f s) (word_at f pc))
    by true is = each_map _ (declaration_grows f pc (starting f.of.locals pc s.scope) s (ltb-true 0 (starting f.of.locals pc s.scope) is)) (λ p grows. record { turned = grows })
    by false is = each_if (nat_le f.last pc) each_none (word (word_at f pc))

-- ---- all words of the step

abbrev pub captured_on : ((pc : ℕ) → Situation → List ℕ) → Turn → Situation → List ℕ
captured_on rest (on next) s = rest next s
captured_on rest (over draft) s = []

abbrev pub captured_then : ((pc : ℕ) → Situation → List ℕ) → Option (Turn × Situation) → List ℕ
captured_then rest None = []
captured_then rest (Some p) = captured_on rest p.0 p.1

-- the registers whose locals the words of a step capture, by the further words of its CLOSUREs, one after the other
abbrev pub captured_by_words : Function → (count pc : ℕ) → Situation → List ℕ
captured_by_words f zero pc s = []
captured_by_words f (suc count) pc s = registers_at f pc s ++ captured_then (captured_by_words f count) (turn_at f pc s)

words_capture : (f : Function) (count pc : ℕ) (s : Situation) → Each (EndsAs (captured_by_words f count pc s) s) (words_from f count pc s)
words_capture f zero pc s = each_none
words_capture f (suc count) pc s = by (λ next behind. words_capture f count next behind) (turn_at f pc s) (turn_captures f pc s)
  where
    here : List ℕ
    here = registers_at f pc s

    Rest : Type 0
    Rest = (next : ℕ) (behind : Situation) → Each (EndsAs (captured_by_words f count next behind) behind) (words_from f count next behind)

    go : Rest → (turn : Turn) (behind : Situation) → TurnedAs here s behind turn → Each (EndsAs (here ++ captured_on (captured_by_words f count) turn behind) s) (go_on (words_from f count) turn behind)
    go rest (on next) behind captures = each_of (rest next behind) (λ p more. ends_behind captures more)
    go rest (over draft) behind grows = each_some (subst (λ (registers : List ℕ). EndsAs registers s (draft, behind)) (sym (append-nil here)) grows)

    by : Rest → (turn : Option (Turn × Situation)) → Each (TurnAs here s) turn → Each (EndsAs (here ++ captured_then (captured_by_words f count) turn) s) (option_and_then (λ (p : Turn × Situation). go_on (words_from f count) p.0 p.1) turn)
    by rest None each = each_none
    by rest (Some p) each = go rest p.0 p.1 (each.at p refl).turned

-- Exactly what a step does to the listed locals: those in the registers that its CLOSUREs name are captured, it declares so many, one after the other, and the first of these is captured where its function captures itself.
pub step_captures : (f : Function) (count pc : ℕ) (s : Situation) (draft : Drafted) (behind : Situation) → words_from f count pc s ≡ Some (draft, behind) → EndsAs (captured_by_words f count pc s) s (draft, behind)
step_captures f count pc s draft behind is = (words_capture f count pc s).at (draft, behind) is
