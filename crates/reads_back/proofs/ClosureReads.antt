-- A CLOSURE is read with its further words, which capture locals and upvalues.
use Rattle.std.proofs.Common.{◌≡◌, ℕ, suc, ◌+◌, ◌-◌, ◌<◌, Bool, true, false, List, [], ◌∷◌, length, length-set, Option, Some, None, is_some, refl, sym, ap, ◌∙◌, subst, arith, le-leb, inl, if◌then◌else◌}
use Rattle.std.proofs.Math.Bool.{or-false}
use Rattle.std.specs.Prelude.{◌==◌, ◌&&◌, ◌||◌, option_and_then, option_map, slice_get}
use Rattle.lua_num.specs.Bytes.{Text}
use Rattle.lua_tree.specs.Scoping.{Use}
use Rattle.lua_tree.specs.Syntax.{FunctionBody}
use Rattle.opcode.specs.declared.op.Op.{Op}
use Rattle.opcode.specs.declared.word.Instr.{Instr}
use Rattle.core_expr.specs.Places.{Place, name_of_entry, place}
use Rattle.core_expr.specs.Values.{function_value}
use Rattle.recover_expr.specs.Closures.{behind_closure, behind_upvalues, capture_as, capture_by, captures, closure_to}
use Rattle.recover_expr.specs.Drafts.{makes}
use Rattle.recover_expr.specs.Locals.{Scope, capture, capture_some, captured_at}
use Rattle.recover_expr.specs.Reading.{read_word, turn_at, turn_of}
use Rattle.recover_expr.specs.Situation.{Function, Situation}
use Rattle.recover_expr.specs.Words.{Done}
use Rattle.recover_expr.specs.declared.function.Word.{Word}
use Rattle.recover_expr.specs.declared.locals.Declared.{Declared}
use Rattle.scheme.specs.Functions.{further_word}
use Rattle.scheme.specs.Making.{Where, head_or, in_register, in_upvalue, in_globals, where_is}
use Rattle.scheme.specs.declared.making.Active.{Active}
use Rattle.scheme.specs.declared.making.Piece.{Piece}
use Rattle.scheme_stands.specs.Functions.{ClosureAt, FunctionRel, FurtherAt, FurtherWordAt}
use Rattle.scheme_stands.specs.Relation.{FunctionOf}
use Rattle.scheme_stands.specs.Words.{Captured, CapturedBy, Fn, IsCaptured, Law, Means, Spot}
use Rattle.reads_back.specs.Cores.{IsClosure}
use Rattle.reads_back.specs.Coming.{coming_at}
use Rattle.reads_back.proofs.BehindWords.{HasLocals, SameLocals, same_locals, same_then}
use Rattle.reads_back.proofs.Comes.{Arrives, Reads}
use Rattle.reads_back.proofs.NameReads.{AreListed}
use Rattle.reads_back.proofs.Reaches.{here}
use Rattle.reads_back.proofs.Tests.{or_second}
use Rattle.reads_back.proofs.WordsBegin.{word_begins}
use Rattle.reads_back.proofs.WordsRead.{IsFunction, IsQuiet, abx_is_read, further_is_there, turn_there, word_of, word_there}

-- ---- a local that is captured is marked, and no more

pub as_many : (entry : ℕ) (declared : List Declared) (one : Option Declared) → length (captured_at entry declared one) ≡ length declared
as_many entry declared None = refl
as_many entry declared (Some one) = length-set declared entry (record one { captured = true })

captured_same : (scope : Scope) (entry : Option ℕ) → SameLocals scope (capture_some entry scope)
captured_same scope None = same_locals scope
captured_same scope (Some entry) = record { declared = as_many entry scope.declared (slice_get scope.declared entry); active = refl }

pub capture_same : (r : ℕ) (scope : Scope) → SameLocals scope (capture r scope)
capture_same r scope = captured_same scope (slice_get scope.active r)

named_there : (at : Place) (text : Text) (entry : Option ℕ) → name_of_entry at entry ≡ Some text → is_some entry ≡ true
named_there at text None is = cc
named_there at text (Some entry) is = refl

-- ---- further words

-- so many words stand between, which make no function
pub record AreFurther (count : ℕ) (p q : Spot) : Type 0 where
  pub pc : q.pc ≡ p.pc + count
  pub functions : q.functions ≡ p.functions

pub are_further : (g : Fn) (active : List Active) (uses : List Use) (p q : Spot) → FurtherAt g active uses p q → AreFurther (length uses) p q
are_further g active [] p q at = record { pc = omega (arith, at.pc); functions = at.functions }
are_further g active (one ∷ uses) p q at =
    let rest = are_further g active uses at.mid q at.second_at in
    record { pc = omega (arith, at.first_at.next, rest.pc); functions = rest.functions ∙ at.first_at.functions }

pub closure_later : {g : Fn} {made : Law → FunctionRel} {active : List Active} {free r : ℕ} (p q : Spot) → ClosureAt g made active free r p q → p.pc < q.pc
closure_later {g} {active = active} p q at = omega (arith, at.word.next, at.next, (are_further g active (head_or [] p.ahead.sources) at.mid q at.further).pc)

-- a further word is read, and captures the register of the closure itself or not
pub record CapturesOne (f : Function) (w : Word) (pc : ℕ) (itself : Bool) (s : Situation) : Type 0 where
  pub scope : Scope
  pub same : SameLocals s.scope scope
  pub does : capture_by f w pc s ≡ Some (itself, record s { scope = scope })

-- so many further words are read, and one of them captures that register or none
pub record CapturesAll (f : Function) (w : Word) (count pc : ℕ) (itself : Bool) (s : Situation) : Type 0 where
  pub scope : Scope
  pub same : SameLocals s.scope scope
  pub does : (before : Bool) → captures f w count pc before s ≡ Some (itself || before, record s { scope = scope })

pub captures_none : (f : Function) (w : Word) (pc : ℕ) (s : Situation) → CapturesAll f w 0 pc false s
captures_none f w pc s = record { scope = s.scope; same = same_locals s.scope; does = λ before. refl }

one_of_them : (own itself before : Bool) → (itself || (own || before)) ≡ ((own || itself) || before)
one_of_them true itself before = or_second itself true refl
one_of_them false itself before = refl

pub captures_then : {f : Function} {w : Word} {count pc next : ℕ} {own itself : Bool} {s : Situation} (one : CapturesOne f w pc own s) → next ≡ suc pc → CapturesAll f w count next itself (record s { scope = one.scope }) → CapturesAll f w (suc count) pc (own || itself) s
captures_then {f} {w} {count} {pc} {next} {own} {itself} {s} one is rest = record {
  scope = rest.scope;
  same = same_then one.same rest.same;
  does = λ before.
      ap (option_and_then (λ (p : Bool × Situation). captures f w count (suc pc) (p.0 || before) p.1)) one.does
      ∙ ap (λ pc. captures f w count pc (own || before) (record s { scope = one.scope })) (sym is)
      ∙ rest.does (own || before)
      ∙ ap (λ itself. Some (itself, record s { scope = rest.scope })) (one_of_them own itself before);
}

-- ---- the word with its further words

-- a CLOSURE makes its function, which captures the register that it goes to or not
pub record ClosureRead (f : Function) (r : ℕ) (p q : Spot) (s : Situation) (itself : Bool) (scope : Scope) : Type 0 where
  pub functions : q.functions ≡ suc p.functions
  pub turn : turn_at f p.pc s ≡ turn_of f s (word_of p.pc (Piece.Abx Op.Closure r p.functions))
  pub makes : read_word f (word_of p.pc (Piece.Abx Op.Closure r p.functions)) s ≡ Some (makes (function_value p.functions itself) q.pc, record s { scope = scope })

pub closure_read : {f : Function} {g : Fn} {made : Law → FunctionRel} {active : List Active} {free r : ℕ} → IsFunction f g → (p q : Spot) (s : Situation) → IsQuiet f s.scope p.pc q.pc → (at : ClosureAt g made active free r p q) → (itself : Bool) →
    (marks : CapturesAll f (word_of p.pc (Piece.Abx Op.Closure r p.functions)) (length (head_or [] p.ahead.sources)) at.mid.pc itself s) → ClosureRead f r p q s itself marks.scope
closure_read {f} {g} {active = active} {r = r} is_function p q s quiet at itself marks =
    let uses = head_or [] p.ahead.sources in
    let w = word_of p.pc (Piece.Abx Op.Closure r p.functions) in
    let count = length uses in
    let further = are_further g active uses at.mid q at.further in
    let begins : at.mid.pc ≡ suc p.pc = at.next ∙ at.word.next in
    let behind : q.pc ≡ suc p.pc + count = omega (arith, further.pc, begins) in
    let later : p.pc < q.pc = omega (arith, behind) in
    let many = is_function.upvalues p.functions at.chunk at.is ∙ ap (λ (n : ℕ). Some n) at.upvalues in
    let within = ap (λ fits. if fits then Some (w.next + count) else None) (le-leb (w.next + count) f.last (omega (arith, behind, quiet.within))) in
    let goes : behind_closure f w ≡ Some q.pc = ap (option_and_then (behind_upvalues f w)) many ∙ within ∙ ap (λ (pc : ℕ). Some pc) (sym behind) in
    let left : q.pc - w.next ≡ count = omega (arith, behind) in
    let makes_it : Option (Bool × Situation) → Done = option_map (λ (one : Bool × Situation). (makes (function_value p.functions one.0) q.pc, one.1)) in
    record {
      functions = further.functions ∙ at.one_more ∙ ap suc at.word.functions;
      turn = turn_there p.pc s quiet (omega arith) later (word_there is_function at.word (abx_is_read is_function at.word) (omega (arith, later, quiet.within)));
      makes =
          ap (option_and_then (closure_to f w s)) goes
          ∙ ap (λ n. makes_it (captures f w n w.next false s)) left
          ∙ ap (λ pc. makes_it (captures f w count pc false s)) (sym begins)
          ∙ ap makes_it (marks.does false)
          ∙ ap (λ itself. Some (makes (function_value p.functions itself) q.pc, record s { scope = marks.scope })) (or-false itself);
    }

module _ {f : Function} {g : Fn} {active : List Active} {listed : List ℕ} (is_function : IsFunction f g) (all : AreListed f g active listed) where
  -- what is captured where these locals are active is not the register of the closure
  pub captures_one : (from : Where) (text : Text) (w : Word) (p q : Spot) (s : Situation) → s.scope.active ≡ listed → IsCaptured is_function.names active text from → FurtherWordAt g (further_word from) p q → CapturesOne f w p.pc false s
  captures_one (in_register r) text w p q s listed_there captured at =
      let there = all.listed_as text (in_register r) (subst (λ (l : Law). Means l active text (in_register r)) (sym is_function.law) captured.0) in
      let otherwise = if (r == w.instr.a) && ((r == s.base) && (length s.entries == 0)) then Some (true, s) else None in
      let active_there = ap (λ (entries : List ℕ). is_some (slice_get entries r)) listed_there ∙ named_there (place f.of listed f.short) text (slice_get listed r) there.1 in
      record {
        scope = capture r s.scope;
        same = capture_same r s.scope;
        does =
            ap (option_and_then (λ (further : Instr). capture_as further.op w further.b s)) (further_is_there is_function at)
            ∙ ap (λ is_local. if is_local then Some (false, record s { scope = capture r s.scope }) else otherwise) active_there;
      }
  captures_one (in_upvalue slot) text w p q s listed_there captured at =
      record { scope = s.scope; same = same_locals s.scope; does = ap (option_and_then (λ (further : Instr). capture_as further.op w further.b s)) (further_is_there is_function at) }
  captures_one in_globals text w p q s listed_there captured at = absurd captured

  captures_all : (uses : List Use) (texts : List Text) (w : Word) (p q : Spot) (s : Situation) → s.scope.active ≡ listed → CapturedBy is_function.names active texts uses → FurtherAt g active uses p q → CapturesAll f w (length uses) p.pc false s
  captures_all [] texts w p q s listed_there captured at = captures_none f w p.pc s
  captures_all (one ∷ uses) [] w p q s listed_there captured at = absurd captured
  captures_all (one ∷ uses) (text ∷ texts) w p q s listed_there captured at =
      let first = captures_one (where_is one active) text w p at.mid s listed_there captured.0 at.first_at in
      captures_then first at.first_at.next (captures_all uses texts w at.mid q (record s { scope = first.scope }) (first.same.active ∙ listed_there) captured.1 at.second_at)

  -- ---- the closure

  closure_arrives : (body : FunctionBody) (free r : ℕ) (p q : Spot) (s : Situation) → HasLocals active listed s → IsQuiet f s.scope p.pc q.pc → ClosureAt g (FunctionOf body false) active free r p q → Arrives f (IsClosure g active body false p.functions q.functions) 1 s r p.pc q.pc
  closure_arrives body free r p q s locals quiet at =
      let uses = head_or [] p.ahead.sources in
      let captured : CapturedBy is_function.names active at.names uses = subst (λ (l : Law). Captured l active at.names uses) is_function.law at.captured in
      let marks = captures_all uses at.names (word_of p.pc (Piece.Abx Op.Closure r p.functions)) at.mid q s locals.places captured at.further in
      let read = closure_read is_function p q s quiet at false marks in
      inl (record {
        value = function_value p.functions false;
        is = (read.functions, refl, coming_at p, refl, record { chunk = at.chunk; is = at.is; names = at.names; captured = at.captured; named = at.named; behind = at.mid.ahead; made_at = at.made_at });
        shallow = omega arith;
        scope = marks.scope;
        same = marks.same;
        seen = s.seen;
        taken = refl;
        before = s;
        word = word_of p.pc (Piece.Abx Op.Closure r p.functions);
        reaches = here;
        turn = read.turn;
        later = closure_later p q at;
        register = refl;
        makes = read.makes;
      })

  pub function_reads : (body : FunctionBody) → Reads f g active listed (IsClosure g active body false) 1 (λ free r. ClosureAt g (FunctionOf body false) active free r)
  function_reads body = record {
    forward = λ free r p q at. omega (arith, closure_later p q at);
    begins = λ free p q within at. word_begins free is_function at.word (abx_is_read is_function at.word) refl (omega arith);
    arrives = λ free r p q s locals is goal quiet wanted at. closure_arrives body free r p q s locals quiet at;
  }
