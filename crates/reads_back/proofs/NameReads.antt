-- A name is read as what it means: a local, an upvalue or a global. As an operand a local needs no word.
use Rattle.std.proofs.Common.{◌≡◌, ℕ, ◌-◌, ◌<◌, ◌≤◌, true, cond, List, length, Option, Some, None, is_some, refl, sym, ap, ◌∙◌, subst, subst₂, arith, if◌then◌else◌}
use Rattle.std.specs.Prelude.{option_and_then, option_map, slice_get}
use Rattle.lua_num.specs.Bytes.{Text}
use Rattle.lua_tree.specs.Names.{is_name}
use Rattle.lua_tree.specs.Syntax.{Expression, name_expression, parenthesized}
use Rattle.opcode.specs.declared.op.Op.{Op}
use Rattle.proto.specs.declared.parts.Constant.{Constant}
use Rattle.core_expr.specs.Places.{Place, as_name, local_name, name_of_entry, place, upvalue_name}
use Rattle.core_expr.specs.Values.{global_value, local_value, upvalue_value}
use Rattle.recover_expr.specs.Assigning.{assignment_from}
use Rattle.recover_expr.specs.Locals.{has_name, name_of}
use Rattle.recover_expr.specs.Reading.{made, value_as}
use Rattle.recover_expr.specs.Situation.{is_good_name, see_constant, Function, Situation, is_good_text, place_in_step}
use Rattle.recover_expr.specs.Words.{Done, as_end}
use Rattle.scheme.specs.Expressions.{register_of}
use Rattle.scheme.specs.Making.{Where, in_register, in_upvalue, in_globals}
use Rattle.scheme.specs.declared.making.Piece.{Piece}
use Rattle.scheme.specs.declared.making.Active.{Active}
use Rattle.scheme_stands.proofs.Forms.{form_is}
use Rattle.scheme_stands.specs.Expressions.{Form, NameAt, NameBy, local_at}
use Rattle.scheme_stands.specs.Relation.{related}
use Rattle.scheme_stands.specs.Words.{Fn, Spot, meaning, Means}
use Rattle.reads_back.specs.Cores.{IsCore, IsNamed, still}
use Rattle.reads_back.proofs.Comes.{Arrives, Begins, Reads}
use Rattle.reads_back.proofs.BehindWords.{HasLocals}
use Rattle.reads_back.proofs.LiteralReads.{MakesValue, constant_there, word_made}
use Rattle.reads_back.proofs.Tests.{not_below, test_holds}
use Rattle.reads_back.proofs.WordsBegin.{word_begins}
use Rattle.reads_back.proofs.WordsRead.{abx_is_read, IsFunction, IsQuiet, abc_is_read, word_of}

-- ---- what names mean is listed by these names

abbrev pub IsListed : Function → (count : ℕ) → (listed : List ℕ) → Text → Where → Type 0
IsListed f count listed text (in_register r) = (r < count) × (local_name (place f.of listed f.short) r ≡ Some text)
IsListed f count listed text (in_upvalue slot) = upvalue_name (place f.of listed f.short) slot ≡ Some text
IsListed f count listed text in_globals = Unit {0}

-- these places of the list name the active locals, which registers count
pub record AreListed (f : Function) (g : Fn) (active : List Active) (listed : List ℕ) : Type 0 where
  pub listed_as : (text : Text) (w : Where) → Means g.law active text w → IsListed f (length active) listed text w
  pub few : length active ≤ 250

-- ---- words

pub entry_named : (at : Place) (text : Text) (entry : Option ℕ) → name_of_entry at entry ≡ Some text → option_and_then (name_of at.of.locals) entry ≡ Some text
entry_named at text None is = is
entry_named at text (Some entry) is = is

pub local_makes : (f : Function) (pc to r : ℕ) (text : Text) (s : Situation) → r < s.base → local_name (place_in_step f s) r ≡ Some text → MakesValue f pc (Piece.Abc Op.Move to r 0) s (local_value r)
local_makes f pc to r text s below is =
    let w = word_of pc (Piece.Abc Op.Move to r 0) in
    let does : Option ℕ → Done = λ place. if is_some place then option_map as_end (assignment_from f w s) else value_as Op.Move f w s in
    record {
      does =
          ap (λ above. does (if above then Some (r - s.base) else None)) (not_below r s.base below)
          ∙ ap (λ name. option_map (made w s) (if has_name name then Some (local_value r) else None)) (entry_named (place_in_step f s) text (slice_get s.scope.active r) is);
    }

pub good_text : (name : Option Text) (text : Text) → as_name name ≡ Some text → is_good_text name ≡ true
good_text None text is = cc
good_text (Some name) text is = test_holds (is_name name) name text is

upvalue_makes : (f : Function) (pc to slot : ℕ) (text : Text) (s : Situation) → upvalue_name (place_in_step f s) slot ≡ Some text → MakesValue f pc (Piece.Abc Op.GetUpval to slot 0) s (upvalue_value slot)
upvalue_makes f pc to slot text s is =
    let w = word_of pc (Piece.Abc Op.GetUpval to slot 0) in
    record { does = ap (λ good. option_map (λ upvalue. made w s (upvalue_value upvalue)) (if good then Some slot else None)) (good_text (slice_get f.of.upvalue_names slot) text is) }

global_makes : (f : Function) (pc to number : ℕ) (text : Text) (s : Situation) → slice_get f.of.constants number ≡ Some (Constant.Text text) → is_name text ≡ true → MakesValue f pc (Piece.Abx Op.GetGlobal to number) s (global_value number)
global_makes f pc to number text s there named =
    let t = see_constant number s in
    let does = option_map (λ name. made (word_of pc (Piece.Abx Op.GetGlobal to number)) t (global_value name)) in
    record {
      does = ap (λ constant. does (if is_good_name constant then Some number else None)) there ∙ ap (λ good. does (if good then Some number else None)) named;
    }

-- ---- names

pub name_later : (g : Fn) (text : Text) (w : Where) (r : ℕ) (p q : Spot) → NameBy g text w r p q → p.pc < q.pc
name_later g text (in_register x) r p q at = omega (arith, at.next)
name_later g text (in_upvalue slot) r p q at = omega (arith, at.next)
name_later g text in_globals r p q at = omega (arith, at.word.next)

name_begins : {f : Function} {g : Fn} (text : Text) (w : Where) (free : ℕ) (p q : Spot) → IsFunction f g → NameBy g text w free p q → Begins f free p.pc
name_begins text (in_register x) free p q is_function at = word_begins free is_function at (abc_is_read is_function at) refl (omega arith)
name_begins text (in_upvalue slot) free p q is_function at = word_begins free is_function at (abc_is_read is_function at) refl (omega arith)
name_begins text in_globals free p q is_function at = word_begins free is_function at.word (abx_is_read is_function at.word) refl (omega arith)

module _ {f : Function} {g : Fn} {active : List Active} {listed : List ℕ} (is_function : IsFunction f g) (all : AreListed f g active listed) where
  name_arrives : (text : Text) → is_name text ≡ true → (r : ℕ) (p q : Spot) (s : Situation) (w : Where) → HasLocals active listed s → IsQuiet f s.scope p.pc q.pc → Means g.law active text w → IsListed f (length active) listed text w → NameBy g text w r p q →
      Arrives f (still (IsNamed g active text) p.functions q.functions) 1 s r p.pc q.pc
  name_arrives text named r p q s (in_register x) locals quiet means there at =
      let name : local_name (place_in_step f s) x ≡ Some text = subst (λ (listed : List ℕ). local_name (place f.of listed f.short) x ≡ Some text) (sym locals.places) there.1 in
      word_made (local_value x) is_function quiet at (abc_is_read is_function at) refl (local_makes f p.pc r x text s (omega (arith, locals.base, there.0)) name) (at.functions, (in_register x, means, refl)) (omega arith)
  name_arrives text named r p q s (in_upvalue slot) locals quiet means there at =
      word_made (upvalue_value slot) is_function quiet at (abc_is_read is_function at) refl (upvalue_makes f p.pc r slot text s there) (at.functions, (in_upvalue slot, means, refl)) (omega arith)
  name_arrives text named r p q s in_globals locals quiet means there at =
      let known = constant_there at.number (Constant.Text text) is_function at.is in
      word_made (global_value at.number) is_function quiet at.word (abx_is_read is_function at.word) refl (global_makes f p.pc r at.number text s known named) (at.word.functions, (in_globals, means, (at.number, record { is = at.is; first = at.first }, refl))) (omega arith)

  pub name_reads : (text : Text) → is_name text ≡ true → Reads f g active listed (still (IsNamed g active text)) 1 (NameAt g text active)
  name_reads text named = record {
    forward = λ free r p q at. omega (arith, at.1.first_at.pc, name_later g text (meaning active p) r at.1.mid q at.1.second_at);
    begins = λ free p q within at. subst (λ (pc : ℕ). Begins f free pc) at.1.first_at.pc (name_begins text (meaning active p) free at.1.mid q is_function at.1.second_at);
    arrives = λ free r p q s locals is goal quiet wanted at.
        let same = at.1.first_at.pc in
        subst₂ (λ (pc before : ℕ). Arrives f (still (IsNamed g active text) before q.functions) 1 s r pc q.pc) same at.1.first_at.functions
        (name_arrives text named r at.1.mid q s (meaning active p) locals (subst (λ (pc : ℕ). IsQuiet f s.scope pc q.pc) (sym same) quiet) at.0 (all.listed_as text (meaning active p) at.0) at.1.second_at);
  }

  -- ---- locals as operands

  -- the value of a local, in its register
  pub record IsLocal (e : Expression) (r : ℕ) (p q : Spot) : Type 0 where
    pub core : IsCore g active e p.functions q.functions (local_value r)
    pub below : r < length active
    pub text : Text
    pub named : local_name (place f.of listed f.short) r ≡ Some text
    pub same : q.pc ≡ p.pc

  registered : (text : Text) (w : Where) (r : ℕ) → Means g.law active text w → register_of w ≡ Some r → w ≡ in_register r
  registered text (in_register x) r means is = cc
  registered text (in_upvalue slot) r means is = cc
  registered text in_globals r means is = cc

  pub local_operand : (e : Expression) (r : ℕ) (p q : Spot) → local_at (related g e).form active p ≡ Some r → (related g e).bare active p q → IsLocal e r p q
  local_operand (name_expression line text) r p q is at =
      let same = registered text (meaning active p) r at.means is in
      let means = subst (Means g.law active text) same at.means in
      let there = all.listed_as text (in_register r) means in
      record { core = (at.passed.functions, (in_register r, means, refl)); below = there.0; text = text; named = there.1; same = at.passed.pc }
  local_operand (parenthesized line e) r p q is at =
      let same = ap (λ (form : Form). cond form.name (register_of (meaning active p)) None) (form_is g e) in
      let inner = local_operand e r p q (same ∙ is) at in
      record { core = inner.core; below = inner.below; text = inner.text; named = inner.named; same = inner.same }
  local_operand e r p q is at = cc
