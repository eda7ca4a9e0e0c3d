-- What words of a step leave as it is, and which listed locals they capture.
use Rattle.std.proofs.Common.{◌≡◌, ℕ, ◌+◌, ◌-◌, Bool, true, false, nat_le, List, [], ◌∷◌, ◌++◌, Option, Some, None, refl, sym, ap, ◌∙◌, if◌then◌else◌}
use Rattle.std.specs.List.{list_any}
use Rattle.std.specs.Prelude.{◌==◌, slice_get, slice_set}
use Rattle.lua_tree.specs.Syntax.{local_function}
use Rattle.opcode.specs.declared.op.Op.{Op}
use Rattle.opcode.specs.declared.word.Instr.{Instr}
use Rattle.core_expr.specs.Targets.{TargetValue, Comparison, can_write_comparison, can_write_target}
use Rattle.core_expr.specs.Values.{Inner, OperandValue, Value}
use Rattle.core_expr.specs.Writing.{can_write, can_write_operand, can_write_values}
use Rattle.recover_expr.specs.Declaring.{hidden_count, is_own_function}
use Rattle.recover_expr.specs.Drafts.{Did, Drafted, Part, drafted, ends, goes, makes, statement_part}
use Rattle.recover_expr.specs.Entries.{Entries, Listed, place_in, value_entry}
use Rattle.recover_expr.specs.Locals.{Scope, capture}
use Rattle.recover_expr.specs.Situation.{Function, Situation, body_at, has_operands, place_in_step, pop, pop_at, pop_operand, see, see_as, see_constant, see_operand, take_body}
use Rattle.recover_expr.specs.Writing.{comparison_written, list_written, operand_written, target_written, value_written}
use Rattle.recover_expr.specs.declared.draft.DraftKind.{DraftKind}
use Rattle.reads_back.proofs.BehindWords.{SameLocals, same_locals, same_then}
use Rattle.reads_back.proofs.ClosureReads.{capture_same}
use Rattle.reads_back.proofs.EachSome.{Each, each_if, each_map, each_none, each_some, each_there, each_where}
use Rattle.reads_back.proofs.OwnEntries.{NoMore, take_at_none}
use Rattle.reads_back.proofs.Tests.{nor, neither}

-- the locals in these registers are captured, one after the other, where there are such
abbrev pub capture_all : List ℕ → Scope → Scope
capture_all [] scope = scope
capture_all (register ∷ registers) scope = capture_all registers (capture register scope)

pub captures_same : (registers : List ℕ) (scope : Scope) → SameLocals scope (capture_all registers scope)
captures_same [] scope = same_locals scope
captures_same (register ∷ registers) scope = same_then (capture_same register scope) (captures_same registers (capture register scope))

abbrev pub has_register : (register : ℕ) → List ℕ → Bool
has_register register registers = list_any (λ (n : ℕ). n == register) registers

-- From one situation of a step to another, words capture the locals in these registers. Where none of them is the next free one before the step, no function is made that captures its own register.
pub record Captures (registers : List ℕ) (s behind : Situation) : Type 0 where
  pub scope : behind.scope ≡ capture_all registers s.scope
  pub step : behind.step ≡ s.step
  pub pc : behind.pc ≡ s.pc
  pub inside : behind.inside ≡ s.inside
  pub base : behind.base ≡ s.base
  pub own : has_register s.base registers ≡ false → NoMore s.entries behind.entries

-- nothing is captured
abbrev pub Keeps : Situation → Situation → Type 0
Keeps s behind = Captures [] s behind

pub keeps_same : (s : Situation) → Keeps s s
keeps_same s = record { scope = refl; step = refl; pc = refl; inside = refl; base = refl; own = λ is none. none }

-- other entries stand there
pub keeps_entries : (s : Situation) (entries : Entries) → NoMore s.entries entries → Keeps s (record s { entries = entries })
keeps_entries s entries less = record { scope = refl; step = refl; pc = refl; inside = refl; base = refl; own = λ is. less }

-- other functions are left
keeps_left : (s : Situation) (left : List (Option Inner)) → Keeps s (record s { left = left })
keeps_left s left = record { scope = refl; step = refl; pc = refl; inside = refl; base = refl; own = λ is none. none }

pub all_captured : (first second : List ℕ) (scope : Scope) → capture_all (first ++ second) scope ≡ capture_all second (capture_all first scope)
all_captured [] second scope = refl
all_captured (register ∷ first) second scope = all_captured first second (capture register scope)

pub none_of_both : (register : ℕ) (first second : List ℕ) → has_register register (first ++ second) ≡ false → (has_register register first ≡ false) × (has_register register second ≡ false)
none_of_both register [] second none = (refl, none)
none_of_both register (one ∷ first) second none =
    let both = neither (one == register) (has_register register (first ++ second)) none in
    let rest = none_of_both register first second both.1 in
    (nor (one == register) (has_register register first) both.0 rest.0, rest.1)

captures_then : {first second : List ℕ} {s mid behind : Situation} → Captures first s mid → Captures second mid behind → Captures (first ++ second) s behind
captures_then {first} {second} {s} one more = record {
  scope = more.scope ∙ ap (capture_all second) one.scope ∙ sym (all_captured first second s.scope);
  step = more.step ∙ one.step;
  pc = more.pc ∙ one.pc;
  inside = more.inside ∙ one.inside;
  base = more.base ∙ one.base;
  own = λ none less.
      let both = none_of_both s.base first second none in
      more.own (ap (λ register. has_register register second) one.base ∙ both.1) (one.own both.0 less);
}

pub kept_then : {registers : List ℕ} {s mid behind : Situation} → Keeps s mid → Captures registers mid behind → Captures registers s behind
kept_then one more = captures_then one more

-- ---- constants that are seen

operand_seen : (operand : ℕ) (s : Situation) → Keeps s (see_operand operand s)
operand_seen operand s = by (nat_le 256 operand)
  where
    by : (constant : Bool) → Keeps s (if constant then see_constant (operand - 256) s else s)
    by true = record { scope = refl; step = refl; pc = refl; inside = refl; base = refl; own = λ is none. none }
    by false = keeps_same s

pub sees_kept : (i : Instr) (s : Situation) → Keeps s (see i s)
sees_kept i s = by i.op
  where
    constant : (number : ℕ) → Keeps s (see_constant number s)
    constant number = record { scope = refl; step = refl; pc = refl; inside = refl; base = refl; own = λ is none. none }

    operands : (has : Bool) → Keeps s (if has then see_operand i.c (see_operand i.b s) else s)
    operands true = kept_then (operand_seen i.b s) (operand_seen i.c (see_operand i.b s))
    operands false = keeps_same s

    by : (op : Op) → Keeps s (see_as op i s)
    by Op.LoadK = constant i.bx
    by Op.GetGlobal = constant i.bx
    by Op.SetGlobal = constant i.bx
    by Op.GetTable = operand_seen i.c s
    by Op.Self_ = operand_seen i.c s
    by op = operands (has_operands op)

-- ---- values that are taken off

pub pop_kept : (f : Function) (register : ℕ) (s : Situation) → Each (λ p. Keeps s p.1) (pop f register s)
pop_kept f register s = by (place_in s.base register)
  where
    by : (place : Option ℕ) → Each (λ p. Keeps s p.1) (pop_at f s register place)
    by (Some place) = each_map _ (take_at_none place s.entries) (λ p less. keeps_entries s p.1 less)
    by None = each_map _ each_there (λ v is. keeps_same s)

pub pop_operand_kept : (f : Function) (operand : ℕ) (s : Situation) → Each (λ p. Keeps s p.1) (pop_operand f operand s)
pop_operand_kept f operand s = each_if (nat_le 256 operand) (each_map _ each_there (λ k is. keeps_same s)) (each_map _ (pop_kept f operand s) (λ p kept. kept))

pub body_kept : (number : ℕ) (s : Situation) → Each (λ p. Keeps s p.1) (take_body number s)
body_kept number s = by (slice_get s.left number)
  where
    by : (there : Option (Option Inner)) → Each (λ p. Keeps s p.1) (body_at number s there)
    by None = each_none
    by (Some None) = each_none
    by (Some (Some inner)) = each_some (keeps_left s (slice_set s.left number None))

-- ---- values that are written

pub value_kept : (f : Function) (taken : ℕ) (v : Value) (s : Situation) → Each (λ p. Keeps s p.2) (value_written f taken v s)
value_kept f taken v s = each_where (can_write (place_in_step f s) s.left v) (each_some (keeps_left s _))

pub operand_kept : (f : Function) (taken : ℕ) (o : OperandValue) (s : Situation) → Each (λ p. Keeps s p.2) (operand_written f taken o s)
operand_kept f taken o s = each_where (can_write_operand (place_in_step f s) s.left o) (each_some (keeps_left s _))

pub list_kept : (f : Function) (taken : ℕ) (list : Listed) (s : Situation) → Each (λ p. Keeps s p.2) (list_written f taken list s)
list_kept f taken list s = each_where (can_write_values (place_in_step f s) s.left list.values) (each_some (keeps_left s _))

pub target_kept : (f : Function) (taken : ℕ) (t : TargetValue) (s : Situation) → Each (λ p. Keeps s p.2) (target_written f taken t s)
target_kept f taken t s = each_where (can_write_target (place_in_step f s) s.left t) (each_some (keeps_left s _))

pub comparison_kept : (f : Function) (c : Comparison) (s : Situation) → Each (λ p. Keeps s p.1) (comparison_written f c s)
comparison_kept f c s = each_where (can_write_comparison (place_in_step f s) s.taken s.left c) (each_some (keeps_left s _))

-- ---- steps that end

-- a step that is read from here on
pub record IsOfStep (s : Situation) (draft : Drafted) : Type 0 where
  pub base : draft.base ≡ s.base
  pub innermost : draft.innermost ≡ s.inside
  pub pc : draft.pc ≡ s.pc

-- how many locals a step declares
abbrev pub declared_of : DraftKind → ℕ
declared_of (DraftKind.Declaration first count) = count
declared_of (DraftKind.Head numeric foot first variables) = hidden_count + variables
declared_of kind = 0

-- it is a `local function`
abbrev pub is_local_function : Part → Bool
is_local_function (statement_part (local_function name body)) = true
is_local_function part = false

-- it declares nothing
abbrev pub DeclaresNone : DraftKind → Type 0
DeclaresNone (DraftKind.Declaration first count) = ⊥
DeclaresNone (DraftKind.Head numeric foot first variables) = ⊥
DeclaresNone kind = Unit {0}

pub record IsPlain (draft : Drafted) : Type 0 where
  pub kind : DeclaresNone draft.kind
  pub part : is_local_function draft.part ≡ false

-- the step neither captures nor declares a local
pub record EndsKept (s : Situation) (p : Drafted × Situation) : Type 0 where
  pub kept : Keeps s p.1
  pub of_step : IsOfStep s p.0
  pub plain : IsPlain p.0

pub ends_kept : {s behind : Situation} {kind : DraftKind} {next levels : ℕ} {part : Part} → Keeps s behind → DeclaresNone kind → is_local_function part ≡ false → EndsKept s (drafted kind next levels part behind, behind)
ends_kept kept none other = record { kept = kept; of_step = record { base = kept.base; innermost = kept.inside; pc = kept.pc }; plain = record { kind = none; part = other } }

pub ends_then : {s mid : Situation} {p : Drafted × Situation} → Keeps s mid → EndsKept mid p → EndsKept s p
ends_then kept more = record {
  kept = kept_then kept more.kept;
  of_step = record { base = more.of_step.base ∙ kept.base; innermost = more.of_step.innermost ∙ kept.inside; pc = more.of_step.pc ∙ kept.pc };
  plain = more.plain;
}

-- what a word did, where words captured the locals in these registers
abbrev pub DidAs : (registers : List ℕ) → Situation → Did → Type 0
DidAs registers s (makes v next) = has_register s.base registers ≡ false → is_own_function (value_entry v) ≡ false
DidAs registers s (goes next) = Unit {0}
DidAs registers s (ends draft) = IsOfStep s draft × IsPlain draft

pub record DoneAs (registers : List ℕ) (s : Situation) (p : Did × Situation) : Type 0 where
  pub captures : Captures registers s p.1
  pub did : DidAs registers s p.0

did_then : (registers : List ℕ) {s mid : Situation} (did : Did) → Keeps s mid → DidAs registers mid did → DidAs registers s did
did_then registers (makes v next) kept as_made = λ none. as_made (ap (λ register. has_register register registers) kept.base ∙ none)
did_then registers (goes next) kept as_made = tt
did_then registers (ends draft) kept more = (record { base = more.0.base ∙ kept.base; innermost = more.0.innermost ∙ kept.inside; pc = more.0.pc ∙ kept.pc }, more.1)

pub done_then : {registers : List ℕ} {s mid : Situation} {p : Did × Situation} → Keeps s mid → DoneAs registers mid p → DoneAs registers s p
done_then {registers} {p = p} kept more = record { captures = kept_then kept more.captures; did = did_then registers p.0 kept more.did }

-- the word goes on to the next one
pub gone_kept : {s behind : Situation} {next : ℕ} → Keeps s behind → DoneAs [] s (goes next, behind)
gone_kept kept = record { captures = kept; did = tt }

-- it makes a value that captures nothing
pub made_kept : {s behind : Situation} {next : ℕ} {v : Value} → Keeps s behind → is_own_function (value_entry v) ≡ false → DoneAs [] s (makes v next, behind)
made_kept kept is = record { captures = kept; did = λ none. is }

-- it ends the step
pub ended_kept : {s : Situation} {p : Drafted × Situation} → EndsKept s p → DoneAs [] s (ends p.0, p.1)
ended_kept end = record { captures = end.kept; did = (end.of_step, end.plain) }
