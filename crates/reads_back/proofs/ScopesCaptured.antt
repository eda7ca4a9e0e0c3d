-- A CLOSURE captures the locals in the registers that its further words name, and no others.
use Rattle.std.proofs.Common.{◌≡◌, ℕ, zero, suc, ◌+◌, ◌-◌, ◌&&◌, Bool, true, false, nat_le, List, [], ◌∷◌, ◌++◌, length, Option, Some, None, refl, sym, ap, ◌∙◌, subst, arith, is_some, option_and_then, if◌then◌else◌}
use Rattle.std.proofs.Math.Bool.{or_comm}
use Rattle.std.proofs.lemmas.List.Folds.{list_any-append}
use Rattle.std.proofs.lemmas.Option.{none-some, slice_get_past}
use Rattle.std.specs.Prelude.{◌==◌, ◌||◌, slice_get}
use Rattle.std.proofs.lemmas.Bool.{eqb-true}
use Rattle.opcode.specs.declared.op.Op.{Op}
use Rattle.opcode.specs.declared.word.Instr.{Instr}
use Rattle.core_expr.specs.Values.{function_value}
use Rattle.recover_expr.specs.Closures.{behind_upvalues, capture_as, capture_by, capture_register, captures, closure, closure_to}
use Rattle.recover_expr.specs.Declaring.{captures_itself, is_own_function}
use Rattle.recover_expr.specs.Entries.{Entries, value_entry}
use Rattle.recover_expr.specs.Locals.{Scope, capture_some, or_zero}
use Rattle.recover_expr.specs.Situation.{Function, Situation, instr_at, upvalues_in}
use Rattle.recover_expr.specs.declared.function.Word.{Word}
use Rattle.reads_back.proofs.EachSome.{Each, each_map, each_none, each_of, each_some, each_then, each_where}
use Rattle.reads_back.proofs.ScopesRead.{Captures, DoneAs, all_captured, capture_all, captures_same, has_register, none_of_both}
use Rattle.reads_back.proofs.Tests.{not_so, not_zero, or_first, or_second, nor}

-- ---- registers by the words alone

-- a further word captures the register that it names, or an upvalue
abbrev captured_as : Op → (register : ℕ) → List ℕ
captured_as Op.Move register = register ∷ []
captured_as op register = []

abbrev pub captured_by : Option Instr → List ℕ
captured_by None = []
captured_by (Some further) = captured_as further.op further.b

-- so many further words from a pc on
abbrev pub captured_from : Function → (count pc : ℕ) → List ℕ
captured_from f zero pc = []
captured_from f (suc count) pc = captured_by (instr_at f pc) ++ captured_from f count (suc pc)

-- a CLOSURE captures what its further words do, and another word nothing
abbrev pub registers_as : Op → Function → Word → List ℕ
registers_as Op.Closure f w = captured_from f (or_zero (upvalues_in f w.instr.bx)) w.next
registers_as op f w = []

-- ---- further words

-- The locals in these registers are marked, and nothing else is changed. The function captures its own register where it did before, or where one of these is the next free one before the step and nothing stands there yet, and only there.
pub record MarksAs (registers : List ℕ) (before : Bool) (s : Situation) (p : Bool × Situation) : Type 0 where
  pub is : p.1 ≡ record s { scope = capture_all registers s.scope }
  pub own : has_register s.base registers ≡ false → before ≡ false → p.0 ≡ false
  pub still : before ≡ true → p.0 ≡ true
  pub itself : length s.scope.active ≡ s.base → has_register s.base registers ≡ true → (p.0 ≡ true) × (s.entries ≡ [])

marks_then : {first second : List ℕ} {before : Bool} {s : Situation} {p q : Bool × Situation} → MarksAs first false s p → MarksAs second (p.0 || before) p.1 q → MarksAs (first ++ second) before s q
marks_then {first} {second} {before} {s} {p} {q} one more = record {
  is =
      more.is
      ∙ ap (λ (t : Situation). record t { scope = capture_all second t.scope }) one.is
      ∙ ap (λ (scope : Scope). record s { scope = scope }) (sym (all_captured first second s.scope));
  own = λ none not_before.
      let both = none_of_both s.base first second none in
      more.own (ap (λ (t : Situation). has_register t.base second) one.is ∙ both.1) (nor p.0 before (one.own both.0 refl) not_before);
  still = λ before_is. more.still (or_second p.0 before before_is);
  itself = λ base has. by base (has_register s.base first) refl (sym (list_any-append (λ (n : ℕ). n == s.base) first second) ∙ has);
}
  where
    by : length s.scope.active ≡ s.base → (here : Bool) → has_register s.base first ≡ here → (here || has_register s.base second) ≡ true → (q.0 ≡ true) × (s.entries ≡ [])
    by base true here is = let first_is = one.itself base here in (more.still (or_first p.0 before first_is.0), first_is.1)
    by base false here is =
        let same : length p.1.scope.active ≡ p.1.base = ap (λ (t : Situation). length t.scope.active) one.is ∙ ap length (captures_same first s.scope).active ∙ base ∙ ap (λ (t : Situation). t.base) (sym one.is) in
        let second_is = more.itself same (ap (λ (t : Situation). has_register t.base second) one.is ∙ is) in
        (second_is.0, ap (λ (t : Situation). t.entries) (sym one.is) ∙ second_is.1)

register_marks : (w : Word) (register : ℕ) (s : Situation) → Each (MarksAs (register ∷ []) false s) (capture_register w register s)
register_marks w register s = each_of (by (slice_get s.scope.active register) refl) (λ p marks. record { is = marks.0; own = marks.1; still = not_so; itself = marks.2 })
  where
    Itself : Bool → Type 0
    Itself own = length s.scope.active ≡ s.base → ((register == s.base) || false) ≡ true → (own ≡ true) × (s.entries ≡ [])

    IsMarked : Option ℕ → Bool × Situation → Type 0
    IsMarked there p = (p.1 ≡ record s { scope = capture_some there s.scope }) × (has_register s.base (register ∷ []) ≡ false → false ≡ false → p.0 ≡ false) × Itself p.0

    empty : (entries : Entries) → (length entries == 0) ≡ true → entries ≡ []
    empty [] is = refl
    empty (entry ∷ entries) is = not_so (sym (not_zero (length entries)) ∙ is)

    own_register : (own first none : Bool) → (length s.entries == 0) ≡ none →
        Each (λ (p : Bool × Situation). (p.1 ≡ s) × ((first || false) ≡ false → false ≡ false → p.0 ≡ false) × Itself p.0) (if own && (first && none) then Some (true, s) else None)
    own_register true true true is = each_some (refl, λ none not. absurd cc, λ base has. (refl, empty s.entries is))
    own_register true true false is = each_none
    own_register true false none is = each_none
    own_register false first none is = each_none

    listed : (entry : ℕ) → slice_get s.scope.active register ≡ Some entry → Itself false
    listed entry is base has =
        let same : register ≡ s.base = eqb-true register s.base (or_comm false (register == s.base) ∙ has) in
        absurd (none-some entry (sym (slice_get_past s.scope.active register (omega (arith, same, base))) ∙ is))

    by : (there : Option ℕ) → slice_get s.scope.active register ≡ there → Each (IsMarked there) (if is_some there then Some (false, record s { scope = capture_some there s.scope }) else if (register == w.instr.a) && ((register == s.base) && (length s.entries == 0)) then Some (true, s) else None)
    by (Some entry) is = each_some (refl, λ none not. refl, listed entry is)
    by None is = own_register (register == w.instr.a) (register == s.base) (length s.entries == 0) refl

further_marks : (op : Op) (w : Word) (register : ℕ) (s : Situation) → Each (MarksAs (captured_as op register) false s) (capture_as op w register s)
further_marks Op.GetUpval w register s = each_some (record { is = refl; own = λ none not. refl; still = λ is. is; itself = λ base has. absurd (not_so has) })
further_marks Op.Move w register s = register_marks w register s
further_marks op w register s = each_none

word_marks : (f : Function) (w : Word) (pc : ℕ) (s : Situation) → Each (MarksAs (captured_by (instr_at f pc)) false s) (capture_by f w pc s)
word_marks f w pc s = by (instr_at f pc)
  where
    by : (further : Option Instr) → Each (MarksAs (captured_by further) false s) (option_and_then (λ (further : Instr). capture_as further.op w further.b s) further)
    by None = each_none
    by (Some further) = further_marks further.op w further.b s

pub words_mark : (f : Function) (w : Word) (count pc : ℕ) (before : Bool) (s : Situation) → Each (MarksAs (captured_from f count pc) before s) (captures f w count pc before s)
words_mark f w zero pc before s = each_some (record { is = refl; own = λ none not. not; still = λ is. is; itself = λ base has. absurd (not_so has) })
words_mark f w (suc count) pc before s = each_then (word_marks f w pc s) (λ p one. each_of (words_mark f w count (suc pc) (p.0 || before) p.1) (λ q more. marks_then one more))

-- ---- the word

captures_marked : {registers : List ℕ} {s : Situation} {p : Bool × Situation} → MarksAs registers false s p → Captures registers s p.1
captures_marked marks = record {
  scope = ap (λ (t : Situation). t.scope) marks.is;
  step = ap (λ (t : Situation). t.step) marks.is;
  pc = ap (λ (t : Situation). t.pc) marks.is;
  inside = ap (λ (t : Situation). t.inside) marks.is;
  base = ap (λ (t : Situation). t.base) marks.is;
  own = λ none less. ap (λ (t : Situation). captures_itself t.entries) marks.is ∙ less;
}

pub closure_captures : (f : Function) (w : Word) (s : Situation) → Each (DoneAs (registers_as Op.Closure f w) s) (closure f w s)
closure_captures f w s = by (upvalues_in f w.instr.bx)
  where
    to : (count next : ℕ) → next ≡ w.next + count → Each (DoneAs (captured_from f count w.next) s) (closure_to f w s next)
    to count next is =
        let left : next - w.next ≡ count = omega (arith, is) in
        each_map _ (subst (λ count. Each (MarksAs (captured_from f count w.next) false s) (captures f w (next - w.next) w.next false s)) left (words_mark f w (next - w.next) w.next false s)) (λ p marks. record {
          captures = captures_marked marks;
          did = λ none. ap (λ itself. is_own_function (value_entry (function_value w.instr.bx itself))) (marks.own none refl);
        })

    by : (many : Option ℕ) → Each (DoneAs (captured_from f (or_zero many) w.next) s) (option_and_then (closure_to f w s) (option_and_then (behind_upvalues f w) many))
    by None = each_none
    by (Some count) = each_then (each_where (nat_le (w.next + count) f.last) (each_some {Holds = λ (next : ℕ). next ≡ w.next + count} refl)) (λ next is. to count next is)
