-- What a CLOSURE captures is what the marks of its function do; names and `...` capture nothing.
use Rattle.std.proofs.Common.{◌≡◌, ℕ, zero, suc, Bool, true, false, cond, List, [], ◌∷◌, ◌++◌, length, Option, Some, None, refl, sym, ap, ap₂, ◌∙◌, subst, arith}
use Rattle.std.proofs.lemmas.Bool.{eq-eqb, eqb-true}
use Rattle.std.proofs.lemmas.List.Folds.{list_any-append}
use Rattle.std.proofs.lemmas.Option.{none-some}
use Rattle.std.specs.List.{list_any}
use Rattle.std.specs.Option.{option_eq}
use Rattle.std.specs.Prelude.{◌==◌, ◌||◌, nat_eq, slice_get}
use Rattle.std.proofs.Math.Bool.{or-false}
use Rattle.lua_num.specs.Bytes.{Text}
use Rattle.lua_tree.specs.Outline.{Place, body_part, expression_part, mentions}
use Rattle.lua_tree.specs.Scoping.{Use, global_use, local_use, upvalue_use}
use Rattle.lua_tree.specs.Syntax.{FunctionBody, vararg_expression}
use Rattle.lua_tree.specs.WellFormed.{formed_body}
use Rattle.opcode.specs.declared.op.Op.{Op}
use Rattle.recover_expr.specs.Locals.{or_zero}
use Rattle.recover_expr.specs.Situation.{Function}
use Rattle.scheme.specs.Functions.{further_word}
use Rattle.scheme.specs.Making.{Where, head_or, in_globals, in_register, in_upvalue, register_among, where_is}
use Rattle.scheme.specs.declared.making.Active.{Active}
use Rattle.scheme.specs.declared.making.Piece.{Piece}
use Rattle.scheme_stands.specs.Functions.{ClosureAt, FunctionRel, FurtherAt}
use Rattle.scheme_stands.specs.Relation.{FunctionOf}
use Rattle.scheme_stands.specs.Words as words
use Rattle.scheme_stands.specs.Words.{Captured, CapturedBy, Fn, IsCaptured, Law, Spot, instr_by}
use Rattle.scheme_stands.proofs.Counting.{body_closed, expression_closed, mentions_closed}
use Rattle.scheme_stands.proofs.Here.{tame_body, tame_expression, tame_path}
use Rattle.scheme_stands.proofs.Moving.{passed_moves}
use Rattle.scheme_stands.proofs.Scopes.{function_moves}
use Rattle.scheme_stands.proofs.Walks.{closure_moves}
use Rattle.reads_back.proofs.CapturedMarks.{is_local_use}
use Rattle.reads_back.proofs.CapturedStretches.{Onward, Catches, Catching, Distinct, Shown, Still, piece_there, same_spans, shown_both, shown_none}
use Rattle.reads_back.proofs.CapturedWords.{Spans, word_spans}
use Rattle.reads_back.proofs.ClosureReads.{are_further}
use Rattle.reads_back.proofs.ScopesCaptured.{captured_by, captured_from}
use Rattle.reads_back.proofs.ScopesRead.{has_register}
use Rattle.reads_back.proofs.Tests.{same_truth}
use Rattle.reads_back.proofs.WordsRead.{IsFunction, abx_is_read, further_is_there}

-- ---- the registers of locals that are upvalues

abbrev register_as : Where → List ℕ
register_as (in_register r) = r ∷ []
register_as (in_upvalue slot) = []
register_as in_globals = []

abbrev used_registers : List Active → List Use → List ℕ
used_registers active [] = []
used_registers active (one ∷ uses) = register_as (where_is one active) ++ used_registers active uses

-- a declaration that is found is the one that is asked for
found_by : (is : Bool) (d : ℕ) (one : Active) (others : List Active) (register : ℕ) (x : Active) → option_eq nat_eq one.local.declaration (Some d) ≡ is → (slice_get others register ≡ Some x → x.local.declaration ≡ Some d) →
    slice_get (one ∷ others) (cond is 0 (suc register)) ≡ Some x → x.local.declaration ≡ Some d
found_by true d one others register x is further there = let same : one ≡ x = cc in ap (λ (x : Active). x.local.declaration) (sym same) ∙ is_number one.local.declaration is
  where
    is_number : (o : Option ℕ) → option_eq nat_eq o (Some d) ≡ true → o ≡ Some d
    is_number None is = cc
    is_number (Some e) is = ap (λ (n : ℕ). Some n) (eqb-true e d is)
found_by false d one others register x is further there = further there

found_declared : (d : ℕ) (active : List Active) (x : Active) → slice_get active (register_among d active) ≡ Some x → x.local.declaration ≡ Some d
found_declared d [] x there = cc
found_declared d (one ∷ others) x there = found_by (option_eq nat_eq one.local.declaration (Some d)) d one others (register_among d others) x refl (found_declared d others x) there

-- one that is there is found
found_there : (d : ℕ) (active : List Active) (r : ℕ) (x : Active) → slice_get active r ≡ Some x → x.local.declaration ≡ Some d → (y : Active) × (slice_get active (register_among d active) ≡ Some y)
found_there d [] r x there declared = cc
found_there d (one ∷ others) zero x there declared =
    let same : one ≡ x = cc in
    let is : option_eq nat_eq one.local.declaration (Some d) ≡ true = ap (λ o. option_eq nat_eq o (Some d)) (ap (λ (x : Active). x.local.declaration) same ∙ declared) ∙ eq-eqb d d refl in
    (one, ap (λ here. slice_get (one ∷ others) (cond here 0 (suc (register_among d others)))) is)
found_there d (one ∷ others) (suc r) x there declared = by (option_eq nat_eq one.local.declaration (Some d)) (found_there d others r x there declared)
  where
    by : (is : Bool) → (y : Active) × (slice_get others (register_among d others) ≡ Some y) → (y : Active) × (slice_get (one ∷ others) (cond is 0 (suc (register_among d others))) ≡ Some y)
    by true further = (one, refl)
    by false further = further

-- the register of a use is that of a declared local just where it is a use of that
use_like : (active : List Active) → Distinct active → (one : Use) (r d : ℕ) (x : Active) → slice_get active r ≡ Some x → x.local.declaration ≡ Some d → has_register r (register_as (where_is one active)) ≡ is_local_use d one
use_like active distinct (local_use e) r d x there declared = or-false (register_among e active == r) ∙ same_truth (register_among e active == r) (d == e) one other
  where
    same_number : (m n : ℕ) → ◌≡◌ {A = Option ℕ} (Some m) (Some n) → m ≡ n
    same_number m n is = cc

    one : (register_among e active == r) ≡ true → (d == e) ≡ true
    one is =
        let same = eqb-true (register_among e active) r is in
        let found = found_declared e active x (ap (slice_get active) same ∙ there) in
        eq-eqb d e (same_number d e (sym declared ∙ found))

    other : (d == e) ≡ true → (register_among e active == r) ≡ true
    other is =
        let same = sym (eqb-true d e is) in
        let found = found_there d active r x there declared in
        let register = distinct (register_among d active) r found.0 x d found.1 there (found_declared d active found.0 found.1) declared in
        eq-eqb (register_among e active) r (ap (λ e. register_among e active) same ∙ register)
use_like active distinct (upvalue_use slot) r d x there declared = refl
use_like active distinct global_use r d x there declared = refl

uses_like : (active : List Active) → Distinct active → (uses : List Use) (r d : ℕ) (x : Active) → slice_get active r ≡ Some x → x.local.declaration ≡ Some d → has_register r (used_registers active uses) ≡ list_any (is_local_use d) uses
uses_like active distinct [] r d x there declared = refl
uses_like active distinct (one ∷ uses) r d x there declared =
    list_any-append (λ (n : ℕ). n == r) (register_as (where_is one active)) (used_registers active uses)
    ∙ ap₂ (λ here rest. here || rest) (use_like active distinct one r d x there declared) (uses_like active distinct uses r d x there declared)

-- and it is that of no hidden one
use_shown : (active : List Active) (one : Use) → Shown active (register_as (where_is one active))
use_shown active (local_use e) r x there hidden = none (register_among e active == r) refl
  where
    none : (is : Bool) → (register_among e active == r) ≡ is → (is || false) ≡ false
    none true is =
        let found = found_declared e active x (ap (slice_get active) (eqb-true (register_among e active) r is) ∙ there) in
        absurd (none-some e (sym hidden ∙ found))
    none false is = refl
use_shown active (upvalue_use slot) r x there hidden = refl
use_shown active global_use r x there hidden = refl

uses_shown : (active : List Active) (uses : List Use) → Shown active (used_registers active uses)
uses_shown active [] = shown_none active
uses_shown active (one ∷ uses) = shown_both active (register_as (where_is one active)) (used_registers active uses) (use_shown active one) (uses_shown active uses)

-- ---- the words of a closure

module _ {f : Function} {g : Fn} (is_function : IsFunction f g) where
  one_captured : (active : List Active) (text : Text) (from : Where) (pc : ℕ) → IsCaptured is_function.names active text from → captured_by (Some (instr_by pc (further_word from))) ≡ register_as from
  one_captured active text (in_register r) pc captured = refl
  one_captured active text (in_upvalue slot) pc captured = refl
  one_captured active text in_globals pc captured = absurd captured

  further_captured : (active : List Active) (uses : List Use) (texts : List Text) (p q : Spot) → CapturedBy is_function.names active texts uses → FurtherAt g active uses p q → captured_from f (length uses) p.pc ≡ used_registers active uses
  further_captured active [] texts p q captured at = refl
  further_captured active (one ∷ uses) [] p q captured at = absurd captured
  further_captured active (one ∷ uses) (text ∷ texts) p q captured at =
      ap₂ (λ there pc. captured_by there ++ captured_from f (length uses) pc) (further_is_there is_function at.first_at) (sym at.first_at.next)
      ∙ ap₂ (λ (first rest : List ℕ). first ++ rest) (one_captured active text (where_is one active) p.pc captured.0) (further_captured active uses texts at.mid q captured.1 at.second_at)

  closure_spanned : {made : Law → FunctionRel} {active : List Active} {free r : ℕ} (p q : Spot) → ClosureAt g made active free r p q → Spans f p.pc q.pc (used_registers active (head_or [] p.ahead.sources))
  closure_spanned {active = active} {r = r} p q at =
      let uses = head_or [] p.ahead.sources in
      let captured : CapturedBy is_function.names active at.names uses = subst (λ (l : Law). Captured l active at.names uses) is_function.law at.captured in
      let further = are_further g active uses at.mid q at.further in
      let begins : at.mid.pc ≡ suc p.pc = at.next ∙ at.word.next in
      let i = instr_by p.pc (Piece.Abx Op.Closure r p.functions) in
      let many = ap or_zero (is_function.upvalues p.functions at.chunk at.is ∙ ap (λ (n : ℕ). Some n) at.upvalues) in
      let registers = ap₂ (λ count pc. captured_from f count pc) many (sym begins) ∙ further_captured active uses at.names at.mid q captured at.further in
      subst (Spans f p.pc q.pc) registers (word_spans f p.pc q.pc i (piece_there is_function at.word (abx_is_read is_function at.word)) (omega (arith, further.pc, begins, many)))

-- ---- leaves

module _ {f : Function} {g : Fn} {all : Onward} {base : Place} {active : List Active} (of : Catching f g all base active) where
  pub function_caught : (body : FunctionBody) (method : Bool) → formed_body body ≡ true → (free r : ℕ) (p q : Spot) → ClosureAt g (FunctionOf body method) active free r p q → Catches f all base active (body_part method body) p q
  function_caught body method formed free r p q at = record {
    registers = used_registers active (head_or [] p.ahead.sources);
    spans = closure_spanned of.is_function p q at;
    tame = tame_body method body;
    closed = body_closed method body;
    moves = closure_moves all.marks g (body_part method body) (FunctionOf body method) (function_moves all.marks body method formed) active free r p q at;
    like = λ place rest fine register declaration x there declared.
        uses_like active of.distinct (head_or [] p.ahead.sources) register declaration x there declared ∙ of.opened body method free r p q place rest at fine register declaration x there declared;
    shown = uses_shown active (head_or [] p.ahead.sources);
  }

  pub name_caught : (line : ℕ) (text : Text) (p q : Spot) → words.Passed p q → Catches f all base active (mentions line text) p q
  name_caught line text p q passed = record {
    registers = [];
    spans = same_spans passed.pc;
    tame = tame_path line (text ∷ []);
    closed = mentions_closed line text;
    moves = passed_moves all.marks line text p q passed;
    like = λ place rest fine register declaration x there declared. sym (of.unmentioned line text p place rest fine register declaration x there declared);
    shown = shown_none active;
  }

  pub dots_caught : (line : ℕ) (p q : Spot) → Still f p q → Catches f all base active (expression_part (vararg_expression line)) p q
  dots_caught line p q still = record {
    registers = [];
    spans = still.spans;
    tame = tame_expression (vararg_expression line);
    closed = expression_closed (vararg_expression line);
    moves = λ place rest e. still.ahead ∙ e;
    like = λ place rest fine register declaration x there declared. refl;
    shown = shown_none active;
  }
