-- What is written of a return makes the same code as the statement.
use Rattle.std.proofs.Common.{inr, ◌≡◌, ℕ, ◌+◌, ◌*◌, ◌≤◌, Bool, true, false, List, [], ◌∷◌, length, Option, None, refl, sym, ap, ◌∙◌, subst, arith}
use Rattle.std.specs.Prelude.{◌&&◌, ◌||◌, not, if◌then◌else◌}
use Rattle.lua_tree.specs.OneLine.{one_line_expression, one_line_expressions}
use Rattle.lua_tree.specs.Syntax as syntax
use Rattle.lua_tree.specs.Syntax.{Expressions, no_expressions, Expression, argument_list, call_expression, method_call, vararg_expression, return_statement}
use Rattle.lua_tree.specs.WellFormed.{depth_of_expressions, is_call}
use Rattle.opcode.specs.declared.op.Op.{Op}
use Rattle.core_expr.specs.Places.{place}
use Rattle.core_expr.specs.Values.{Value, vararg_value, Values, no_values, and_value, Inner}
use Rattle.core_expr.specs.Writing.{is_bare, is_multiple as can_be_several, unless, word_values}
use Rattle.recover_expr.specs.Situation.{Function}
use Rattle.scheme.specs.Expressions.{Coded, count_field, is_multiple, is_vararg, operand}
use Rattle.scheme.specs.Lists.{list_count, open_list}
use Rattle.scheme.specs.Making.{Got, Maker, put}
use Rattle.scheme.specs.Scheme.{all_coded, coded}
use Rattle.scheme.specs.Statements.{return_call, return_list, return_one, return_operand, return_part}
use Rattle.scheme.specs.declared.making.Active.{Active}
use Rattle.scheme.specs.declared.making.Piece.{Piece}
use Rattle.scheme_stands.proofs.Growth.{Final, before_put}
use Rattle.scheme_stands.specs.Words.{Fn}
use Rattle.reads_back.specs.Acted.{returned}
use Rattle.reads_back.specs.Cores.{AllHaveCores, AreCores, IsCore, ends_open}
use Rattle.reads_back.proofs.ActsFormed.{called_is}
use Rattle.reads_back.proofs.GivenSame.{AllRewritten, ListLow, closed_unless, list_low, list_rewritten}
use Rattle.reads_back.proofs.ListsSame.{cores_few}
use Rattle.reads_back.proofs.Mentions.{ahead_front, mentions_in, made_both}
use Rattle.reads_back.proofs.Rewriting.{IsMadeBy, Rewritten, RewrittenAct, RewrittenGiven, code, wording}
use Rattle.reads_back.proofs.Tests.{both_hold, first_of_both}
use Rattle.reads_back.proofs.InRoom.{closed_in, levels_in}
use Rattle.reads_back.proofs.WordsSame.{coded_is, levels_wrapped, operand_low, operand_same, operand_taken, operand_wrapped, same_multiple}

-- ---- what is returned of one value

-- a call is a tail call
as_call : (c : Coded) (m : Maker) → is_call c.e ≡ true → return_one 1 c m ≡ return_call 1 c m
as_call c m is = ap (λ call. (if call then return_call 1 c else (if is_vararg c.e then return_list 1 (c ∷ []) else return_operand 1 c)) m) is

-- what gives one value is an operand
operand_by : (call several : Bool) (c : Coded) (m : Maker) → (call || several) ≡ false → (if call then return_call 1 c else (if several then return_list 1 (c ∷ []) else return_operand 1 c)) m ≡ return_operand 1 c m
operand_by true several c m is = absurd cc
operand_by false true c m is = absurd cc
operand_by false false c m is = refl

as_operand : (c : Coded) (m : Maker) → is_multiple c.e ≡ false → return_one 1 c m ≡ return_operand 1 c m
as_operand c m is = operand_by (is_call c.e) (is_vararg c.e) c m is

same_call : (e : Expression) → is_call (one_line_expression e) ≡ is_call e
same_call (call_expression line on args on_line) = refl
same_call e = refl

call_returned : (e : Expression) (m : Maker) → is_call e ≡ true → return_part 1 (code e ∷ []) m ≡ return_call 1 (code e) m
call_returned e m is = as_call (code e) m (ap is_call (coded_is (one_line_expression e)) ∙ same_call e ∙ is)

single_code : (e : Expression) → is_multiple e ≡ false → is_multiple (code e).e ≡ false
single_code e is = ap is_multiple (coded_is (one_line_expression e)) ∙ same_multiple e ∙ is

operand_returned : (e : Expression) (m : Maker) → is_multiple e ≡ false → return_part 1 (code e ∷ []) m ≡ return_operand 1 (code e) m
operand_returned e m is = as_operand (code e) m (single_code e is)

-- ---- what is written

module _ (f : Function) (g : Fn) (active : List Active) (listed : List ℕ) (z : Maker) (lefts : ℕ → List (Option Inner)) (before behind : ℕ) where
  abbrev ReturnsOne : Expression → Value → (all : Bool) → Type 0
  ReturnsOne e v all = RewrittenAct f g active listed z lefts before behind (return_statement (syntax.expression e no_expressions)) (returned (and_value v no_values) all)

module _ {f : Function} {g : Fn} {active : List Active} {listed : List ℕ} {z : Maker} {lefts : ℕ → List (Option Inner)} {before behind : ℕ} where
  returns_call : (e : Expression) (v : Value) → Rewritten f g active listed z lefts before behind e v → is_call e ≡ true → ((n : ℕ) → is_call (wording f listed z lefts before n v).words ≡ true) → ReturnsOne f g active listed z lefts before behind e v true
  returns_call e v written call written_call = record {
    can = both_hold _ true written.can refl;
    leaves = written.leaves;
    makes = written.makes ∙ sym (made_both (mentions_in e) [] before);
    few = λ n. omega (arith, written.few n);
    low = λ short formed m ahead final.
        let n = length m.constants in
        let low = levels_in (is_bare (place f.of listed f.short) n v) e (wording f listed z lefts before n v) (written.low short (first_of_both _ _ formed) m (ahead_front (mentions_in e) [] ahead) (inr (inr (several, Op.TailCall, None, inner m final)))) in
        omega (arith, low);
    made = λ m ahead final.
        let w = (wording f listed z lefts before (length m.constants) v).words in
        as_call (coded w) m (ap is_call (coded_is w) ∙ written_call (length m.constants))
        ∙ ap (put 1 (Piece.Abc Op.Return m.free 0 0)) (written.multi several Op.TailCall None m (ahead_front (mentions_in e) [] ahead) (inner m final))
        ∙ sym (call_returned e m call);
    taken = λ m ahead final. ap (λ (n : Maker). length n.constants) (call_returned e m call) ∙ written.multi_taken several Op.TailCall None m (ahead_front (mentions_in e) [] ahead) (inner m final);
  }
    where
      several : is_multiple e ≡ true
      several = ap (λ call. call || is_vararg e) call

      inner : (m : Maker) → Final (length m.labels) (return_part 1 (code e ∷ []) m) z → Final (length m.labels) ((code e).multi Op.TailCall None m) z
      inner m final = before_put 1 (Piece.Abc Op.Return m.free 0 0) ((code e).multi Op.TailCall None m) (subst (λ (n : Maker). Final (length m.labels) n z) (call_returned e m call) final)

  returns_operand : (e : Expression) (v : Value) → Rewritten f g active listed z lefts before behind e v → is_multiple e ≡ false → ReturnsOne f g active listed z lefts before behind e v false
  returns_operand e v written single = record {
    can = both_hold _ true written.can refl;
    leaves = written.leaves;
    makes = written.makes ∙ sym (made_both (mentions_in e) [] before);
    few = λ n. omega (arith, written.few n, levels_wrapped (not (true && can_be_several v)) (wording f listed z lefts before n v));
    low = λ short formed m ahead final.
        let n = length m.constants in
        let low = operand_low written short (first_of_both _ _ formed) m (ahead_front (mentions_in e) [] ahead) (inner m final) in
        let one = closed_in (is_bare (place f.of listed f.short) n v) e (wording f listed z lefts before n v) (can_be_several v) low (written.several n) single in
        omega (arith, one);
    made = λ m ahead final.
        let w = wording f listed z lefts before (length m.constants) v in
        let one = unless (not (true && can_be_several v)) w in
        as_operand (coded one.words) m (ap is_multiple (coded_is one.words) ∙ closed_unless (can_be_several v) w (written.several (length m.constants)))
        ∙ ap (λ (x : Got ℕ). put 1 (Piece.Abc Op.Return x.value 2 0) x.after) (operand_wrapped (not (true && can_be_several v)) w m ∙ operand_same written m (ahead_front (mentions_in e) [] ahead) (inner m final))
        ∙ sym (operand_returned e m single);
    taken = λ m ahead final. ap (λ (n : Maker). length n.constants) (operand_returned e m single) ∙ operand_taken written m (ahead_front (mentions_in e) [] ahead) (inner m final);
  }
    where
      inner : (m : Maker) → Final (length m.labels) (return_part 1 (code e ∷ []) m) z → Final (length m.labels) (operand (code e) m).after z
      inner m final = let x = operand (code e) m in before_put 1 (Piece.Abc Op.Return x.value 2 0) x.after (subst (λ (n : Maker). Final (length m.labels) n z) (operand_returned e m single) final)

  returns_vararg : (line : ℕ) (v : Value) → v ≡ vararg_value → behind ≡ before → ReturnsOne f g active listed z lefts before behind (vararg_expression line) v true
  returns_vararg line v is same = subst (λ v. ReturnsOne f g active listed z lefts before behind (vararg_expression line) v true) (sym is) (record {
    can = refl;
    leaves = ap lefts (sym same);
    makes = same;
    few = λ n. omega arith;
    low = λ short formed m ahead final. omega arith;
    made = λ m ahead final. refl;
    taken = λ m ahead final. refl;
  })

  returns_one : (e : Expression) (v : Value) → IsCore g active e before behind v → Rewritten f g active listed z lefts before behind e v → ReturnsOne f g active listed z lefts before behind e v (is_multiple e)
  returns_one (call_expression line on args on_line) v is written =
      let e = call_expression line on args on_line in
      returns_call e v written refl (λ n. called_is (place f.of listed f.short) g active (lefts before) e before behind v n refl is)
  returns_one (method_call line on name args on_line) v is written =
      let e = method_call line on name args on_line in
      returns_call e v written refl (λ n. called_is (place f.of listed f.short) g active (lefts before) e before behind v n refl is)
  returns_one (vararg_expression line) v is written = returns_vararg line v is.1 is.0
  returns_one e v is written = returns_operand e v written refl

  returns_none : (all : Bool) → behind ≡ before → RewrittenAct f g active listed z lefts before behind (return_statement no_expressions) (returned no_values all)
  returns_none all same = record {
    can = refl;
    leaves = ap lefts (sym same);
    makes = same;
    few = λ n. omega arith;
    low = λ short formed m ahead final. omega arith;
    made = λ m ahead final. refl;
    taken = λ m ahead final. refl;
  }

  -- several values are a list
  returns_list : (e d : Expression) (es : Expressions) (v w : Value) (rest : Values) (all : Bool) → let all_es = syntax.expression e (syntax.expression d es) in
      RewrittenGiven f g active listed z lefts before behind (argument_list all_es) (depth_of_expressions all_es) (and_value v (and_value w rest)) all →
      ((n : ℕ) → (word_values (place f.of listed f.short) n (lefts before) (and_value v (and_value w rest)) all).levels ≤ 3 * depth_of_expressions all_es + 203) →
      ListLow f g active listed z lefts before all_es all (and_value v (and_value w rest)) → RewrittenAct f g active listed z lefts before behind (return_statement all_es) (returned (and_value v (and_value w rest)) all)
  returns_list e d es v w rest all given few low = record {
    can = given.can;
    leaves = given.leaves;
    makes = given.makes;
    few = λ n. omega (arith, few n);
    low = λ short formed m ahead final. let low = low short formed m ahead (inner m final) in omega (arith, low);
    made = λ m ahead final.
        let written = all_coded (word_values (place f.of listed f.short) (length m.constants) (lefts before) (and_value v (and_value w rest)) all).words in
        ap (λ count. put 1 (Piece.Abc Op.Return m.free (count_field 1 count) 0) (open_list written m)) (given.counts (length m.constants))
        ∙ ap (put 1 (Piece.Abc Op.Return m.free (count_field 1 (list_count cs)) 0)) (given.part m ahead (inner m final));
    taken = λ m ahead final. given.taken m ahead (inner m final);
  }
    where
      cs : List Coded
      cs = all_coded (one_line_expressions (syntax.expression e (syntax.expression d es)))

      inner : (m : Maker) → Final (length m.labels) (return_list 1 cs m) z → Final (length m.labels) (open_list cs m) z
      inner m final = before_put 1 (Piece.Abc Op.Return m.free (count_field 1 (list_count cs)) 0) (open_list cs m) final

-- ---- every return

module _ {f : Function} {g : Fn} {active : List Active} {listed : List ℕ} {z : Maker} (lefts : ℕ → List (Option Inner)) (made : IsMadeBy f g active listed z) where
  pub return_rewritten_act : (es : Expressions) (before behind : ℕ) (vs : Values) (all : Bool) → AllHaveCores es → AllRewritten f g active listed z lefts es → AreCores g active es before behind vs → all ≡ ends_open es →
      RewrittenAct f g active listed z lefts before behind (return_statement es) (returned vs all)
  return_rewritten_act no_expressions before behind vs all has written are is =
      subst (λ vs. RewrittenAct f g active listed z lefts before behind (return_statement no_expressions) (returned vs all)) (sym are.1) (returns_none all are.0)
  return_rewritten_act (syntax.expression e no_expressions) before behind vs all has written (mid, (v, rest, core, (as_many, none), is_first)) is =
      subst (λ all. RewrittenAct f g active listed z lefts before behind (return_statement (syntax.expression e no_expressions)) (returned vs all)) (sym is)
      (subst (λ vs. RewrittenAct f g active listed z lefts before behind (return_statement (syntax.expression e no_expressions)) (returned vs (is_multiple e))) (sym (is_first ∙ ap (and_value v) none))
      (subst (λ (made : ℕ). ReturnsOne f g active listed z lefts before made e v (is_multiple e)) (sym as_many) (returns_one e v core (written.0 before mid v core))))
  return_rewritten_act (syntax.expression e (syntax.expression d es)) before behind vs all has written are is =
      let all_es = syntax.expression e (syntax.expression d es) in
      let first = are.1 in
      let more = first.3.1 in
      let same = first.4 ∙ ap (and_value first.0) more.4 in
      subst (λ vs. RewrittenAct f g active listed z lefts before behind (return_statement all_es) (returned vs all)) (sym same)
      (returns_list e d es first.0 more.0 more.1 all
      (subst (λ vs. RewrittenGiven f g active listed z lefts before behind (argument_list all_es) (depth_of_expressions all_es) vs all) same (list_rewritten lefts made all_es before behind vs all has written are is))
      (subst (λ vs. (n : ℕ) → (word_values (place f.of listed f.short) n (lefts before) vs all).levels ≤ 3 * depth_of_expressions all_es + 203) same (cores_few f g active listed z lefts all_es before behind vs all written are))
      (subst (λ vs. ListLow f g active listed z lefts before all_es all vs) same (list_low lefts made all_es before behind vs all has written are is)))
