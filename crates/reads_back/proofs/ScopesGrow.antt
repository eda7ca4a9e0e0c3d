-- A declaration and the head of a loop declare listed locals, one after the other, and capture at most the first of them.
use Rattle.std.proofs.Common.{◌≡◌, ℕ, zero, suc, ◌+◌, ◌<◌, ◌&&◌, Bool, true, false, nat_lt, List, [], ◌++◌, length, Option, Some, refl, sym, ap, ap₂, ◌∙◌, subst, arith}
use Rattle.std.specs.Prelude.{◌^◌, slice_get}
use Rattle.lua_num.specs.Bytes.{Text}
use Rattle.lua_tree.specs.Syntax.{Statement}
use Rattle.proto.specs.declared.parts.LocVar.{LocVar}
use Rattle.core_expr.specs.Writing.{Wordings}
use Rattle.recover_expr.specs.Declaring.{and_captured, captures_itself, declaration, fits_head, fits_variables, head_at, head_values, hidden_count, locals_declared, loop_head, only_function, only_name, statement_made, with_head_values, without_nil}
use Rattle.recover_expr.specs.Drafts.{Drafted, statement_part}
use Rattle.recover_expr.specs.Locals.{Scope, declare, entered, is_hidden, names_from, nests, starting}
use Rattle.recover_expr.specs.Situation.{Function, Situation, target}
use Rattle.recover_expr.specs.declared.draft.DraftKind.{DraftKind}
use Rattle.recover_expr.specs.declared.function.Word.{Word}
use Rattle.reads_back.proofs.EachSome.{Each, each_if, each_map, each_next, each_none, each_of, each_some, each_then, each_there, each_where}
use Rattle.reads_back.proofs.OwnEntries.{take_from_none}
use Rattle.reads_back.proofs.ScopesRead.{Captures, DeclaresNone, EndsKept, IsOfStep, IsPlain, Keeps, all_captured, body_kept, capture_all, captures_same, declared_of, has_register, is_local_function, keeps_entries, kept_then, none_of_both}
use Rattle.reads_back.proofs.StoresKept.{adjusted_kept}
use Rattle.reads_back.proofs.Tests.{not_so}

-- so many locals are declared by a step, one after the other
abbrev pub entered_times : (count : ℕ) → (step : Option ℕ) → Scope → Scope
entered_times zero step scope = scope
entered_times (suc count) step scope = entered_times count step (entered step scope)

times_then : (first second : ℕ) (step : Option ℕ) (scope : Scope) → entered_times (first + second) step scope ≡ entered_times second step (entered_times first step scope)
times_then zero second step scope = let same : 0 + second ≡ second = omega arith in ap (λ count. entered_times count step scope) same
times_then (suc first) second step scope = let same : suc first + second ≡ suc (first + second) = omega arith in ap (λ count. entered_times count step scope) same ∙ times_then first second step (entered step scope)

pub declare_enters : (locals : List LocVar) (count pc : ℕ) (step : Option ℕ) (scope : Scope) → Each (λ behind. behind ≡ entered_times count step scope) (declare locals count pc step scope)
declare_enters locals zero pc step scope = each_some refl
declare_enters locals (suc count) pc step scope =
    each_then {Holds = λ (mid : Scope). mid ≡ entered step scope} (each_where (nests locals pc scope (slice_get locals (length scope.declared)) && nat_lt (length scope.active) (2 ^ 32)) (each_some refl)) (λ mid is.
    each_of (declare_enters locals count pc step mid) (λ behind more. more ∙ ap (entered_times count step) is))

-- the locals that it declares are listed from this one on
abbrev FirstIs : (number : ℕ) → DraftKind → Type 0
FirstIs number (DraftKind.Declaration first count) = first ≡ number
FirstIs number (DraftKind.Head numeric foot first variables) = first ≡ number
FirstIs number kind = Unit {0}

-- A step is read that declares so many locals behind words that captured the locals in these registers. The first that it declares is marked where it is that of a `local function`, which captures itself, and else none of them.
pub record EndsAs (registers : List ℕ) (s : Situation) (p : Drafted × Situation) : Type 0 where
  pub scope : p.1.scope ≡ and_captured (length s.scope.declared) (is_local_function p.0.part) (entered_times (declared_of p.0.kind) (Some s.step) (capture_all registers s.scope))
  pub first : FirstIs (length s.scope.declared) p.0.kind
  pub some : is_local_function p.0.part ≡ true → 0 < declared_of p.0.kind
  pub own : has_register s.base registers ≡ false → captures_itself s.entries ≡ false → is_local_function p.0.part ≡ false
  pub of_step : IsOfStep s p.0

of_step_then : {s mid : Situation} {draft : Drafted} {registers : List ℕ} → Captures registers s mid → IsOfStep mid draft → IsOfStep s draft
of_step_then one more = record { base = more.base ∙ one.base; innermost = more.innermost ∙ one.inside; pc = more.pc ∙ one.pc }

pub ends_behind : {first second : List ℕ} {s mid : Situation} {p : Drafted × Situation} → Captures first s mid → EndsAs second mid p → EndsAs (first ++ second) s p
ends_behind {first} {second} {s} {mid} {p} one more =
    let count = declared_of p.0.kind in
    let itself = is_local_function p.0.part in
    let same : length mid.scope.declared ≡ length s.scope.declared = ap (λ (scope : Scope). length scope.declared) one.scope ∙ (captures_same first s.scope).declared in
    record {
      scope =
          more.scope
          ∙ ap₂ (λ (number step : ℕ). and_captured number itself (entered_times count (Some step) (capture_all second mid.scope))) same one.step
          ∙ ap (λ (scope : Scope). and_captured (length s.scope.declared) itself (entered_times count (Some s.step) scope)) (ap (capture_all second) one.scope ∙ sym (all_captured first second s.scope));
      first = subst (λ (number : ℕ). FirstIs number p.0.kind) same more.first;
      some = more.some;
      own = λ none less.
          let both = none_of_both s.base first second none in
          more.own (ap (λ register. has_register register second) one.base ∙ both.1) (one.own both.0 less);
      of_step = of_step_then one more.of_step;
    }

-- a step that declares nothing
none_first : (number : ℕ) (kind : DraftKind) → DeclaresNone kind → FirstIs number kind
none_first number (DraftKind.Declaration first count) none = absurd none
none_first number (DraftKind.Head numeric foot first variables) none = absurd none
none_first number kind none = tt

none_declared : (kind : DraftKind) → DeclaresNone kind → declared_of kind ≡ 0
none_declared (DraftKind.Declaration first count) none = absurd none
none_declared (DraftKind.Head numeric foot first variables) none = absurd none
none_declared kind none = refl

pub ends_captured : {registers : List ℕ} {s behind : Situation} {draft : Drafted} → Captures registers s behind → IsOfStep s draft → IsPlain draft → EndsAs registers s (draft, behind)
ends_captured {registers} {s} {draft = draft} one of_step plain = record {
  scope = one.scope ∙ ap₂ (λ (itself : Bool) (count : ℕ). and_captured (length s.scope.declared) itself (entered_times count (Some s.step) (capture_all registers s.scope))) (sym plain.part) (sym (none_declared draft.kind plain.kind));
  first = none_first (length s.scope.declared) draft.kind plain.kind;
  some = λ is. absurd (not_so (sym plain.part ∙ is));
  own = λ none less. plain.part;
  of_step = of_step;
}

pub ends_kept_behind : {registers : List ℕ} {s mid : Situation} {p : Drafted × Situation} → Captures registers s mid → EndsKept mid p → EndsAs registers s p
ends_kept_behind {registers} {s} {p = p} one more =
    ends_captured (record { scope = more.kept.scope ∙ one.scope; step = more.kept.step ∙ one.step; pc = more.kept.pc ∙ one.pc; inside = more.kept.inside ∙ one.inside; base = more.kept.base ∙ one.base; own = λ none less. more.kept.own refl (one.own none less) }) (of_step_then one more.of_step) more.plain

-- ---- the statement that declares locals

-- the statement is a `local function` where its function captures itself
pub record MadeAs (itself : Bool) (s : Situation) (made : (Statement × ℕ) × Situation) : Type 0 where
  pub kept : Keeps s made.1
  pub part : is_local_function (statement_part made.0.0) ≡ itself

pub statement_made_kept : (f : Function) (count : ℕ) (s : Situation) (itself : Bool) (names : List Text) → Each (MadeAs itself s) (statement_made f count s itself names)
statement_made_kept f count s true names = each_next (only_function s.entries) (λ number. each_next (only_name names) (λ name. each_map _ (body_kept number s) (λ p kept. record { kept = kept; part = refl })))
statement_made_kept f count s false names =
    each_then (take_from_none 0 s.entries) (λ p less.
    each_map _ (adjusted_kept f count true s.taken (without_nil count p.0) (record s { entries = p.1 })) (λ values kept. record { kept = kept_then (keeps_entries s p.1 less) kept; part = refl }))

locals_grow : (f : Function) (at count : ℕ) (s : Situation) → 0 < count → Each (EndsAs [] s) (locals_declared f at count s)
locals_grow f at count s some =
    let first = length s.scope.declared in
    let itself = captures_itself s.entries in
    each_then {Holds = MadeAs itself s} (each_next (names_from f.of.locals first count) (λ names. statement_made_kept f count s itself names)) (λ made done.
    each_map _ (declare_enters f.of.locals count at (Some made.1.step) made.1.scope) (λ behind is. record {
      scope =
          ap (and_captured first itself) (is ∙ ap₂ (λ (step : ℕ) (scope : Scope). entered_times count (Some step) scope) done.kept.step done.kept.scope)
          ∙ ap (λ itself. and_captured first itself (entered_times count (Some s.step) s.scope)) (sym done.part);
      first = refl;
      some = λ own. some;
      own = λ none less. done.part ∙ less;
      of_step = record { base = done.kept.base; innermost = done.kept.inside; pc = done.kept.pc };
    }))

-- ---- heads of loops

head_values_kept : (f : Function) (w : Word) (numeric : Bool) (s : Situation) → Each (λ values. Keeps s values.1) (head_values f w numeric s)
head_values_kept f w numeric s =
    each_then (take_from_none 0 s.entries) (λ p less.
    each_then (adjusted_kept f hidden_count false s.taken p.0 (record s { entries = p.1 })) (λ values kept.
    each_where (fits_head w (length p.0) numeric values) (each_some (kept_then (keeps_entries s p.1 less) kept))))

loop_grows : (f : Function) (at : ℕ) (s : Situation) (w : Word) (numeric : Bool) (values : Wordings × Situation) → Keeps s values.1 → Each (EndsAs [] s) (with_head_values f at (length s.scope.declared) w numeric values)
loop_grows f at s w numeric values kept =
    each_then (declare_enters f.of.locals hidden_count at (Some values.1.step) values.1.scope) (λ scope is.
    let variables = starting f.of.locals w.next scope in
    each_where (fits_variables numeric variables) (each_then (declare_enters f.of.locals variables w.next (Some values.1.step) scope) (λ behind more.
    each_next (names_from f.of.locals (length scope.declared) variables) (λ names. each_map _ (each_there {o = target f w}) (λ foot there. record {
      scope =
          more
          ∙ ap (entered_times variables (Some values.1.step)) is
          ∙ ap₂ (λ (step : ℕ) (scope : Scope). entered_times variables (Some step) (entered_times hidden_count (Some step) scope)) kept.step kept.scope
          ∙ sym (times_then hidden_count variables (Some s.step) s.scope);
      first = refl;
      some = λ own. absurd cc;
      own = λ none less. refl;
      of_step = record { base = kept.base; innermost = kept.inside; pc = kept.pc };
    })))))

head_grows : (f : Function) (at count : ℕ) (s : Situation) → Each (EndsAs [] s) (loop_head f at count s)
head_grows f at count s =
    let first = length s.scope.declared in
    each_next (head_at f first count at) (λ head. each_then (head_values_kept f head.0 head.1 s) (λ values kept. loop_grows f at s head.0 head.1 values kept))

-- ---- the step where so many locals start

pub declaration_grows : (f : Function) (at count : ℕ) (s : Situation) → 0 < count → Each (EndsAs [] s) (declaration f at count s)
declaration_grows f at count s some =
    each_if (is_hidden f.of.locals (length s.scope.declared)) (head_grows f at count s) (each_if (nat_lt (length s.entries) count) each_none (locals_grow f at count s some))
