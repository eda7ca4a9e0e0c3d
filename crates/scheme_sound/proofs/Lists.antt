-- Lists of expressions keep the invariant: each in a register of its own, or the last one with several values.
use Rattle.std.proofs.Common.{◌≡◌, ◌≤◌, ◌<◌, ℕ, zero, suc, Bool, true, false, List, length, refl, sym, arith, ◌+◌, cond, true≢false}
use Rattle.std.specs.Prelude.{None, Some}
use Rattle.lua_num.specs.Bytes.{Text}
use Rattle.lua_tree.specs.Syntax as syntax
use Rattle.lua_tree.specs.Syntax.{Expressions, no_expressions, Expression, vararg_expression, function_expression, nil_literal, true_literal, false_literal, number_literal, text_literal, name_expression, index_expression, field_expression, call_expression, method_call, and_expression, or_expression, binary_expression, unary_expression, constructor, parenthesized}
use Rattle.opcode.specs.declared.op.Op.{Op}
use Rattle.scheme.specs.Making.{Maker, Ahead}
use Rattle.scheme.specs.Expressions.{Coded, next_reg, Want, next_text}
use Rattle.scheme.specs.Lists.{all_next, ends_open, all_multi, given_list, given_one}
use Rattle.scheme.specs.Scheme.{all_coded, coded}
use Rattle.scheme_sound.proofs.Ghosts.{Ghost}
use Rattle.scheme_sound.proofs.States.{State, Leads, leads_self, leads_then, leads_as}
use Rattle.scheme_sound.proofs.Fitting.{Nothing, ExpressionsFit, ExpressionFits}
use Rattle.scheme_sound.proofs.Operands.{context, carry, PartLeads, next_takes, next_text_takes}
use Rattle.scheme_sound.proofs.Expressions.{left_by, IsCalling, WantAllowed, Keeps}
use Rattle.scheme_sound.proofs.Calls.{OpenLeads, GivenKeeps}

-- ---- lists

-- each expression of a list keeps the invariant
abbrev pub AllKeep : Expressions → Type 0
AllKeep no_expressions = Unit {0}
AllKeep (syntax.expression e rest) = Keeps (coded e) (ExpressionFits e) × AllKeep rest

-- what is coded is the expression itself
pub coded_is : (e : Expression) → (coded e).e ≡ e
coded_is (nil_literal line) = refl
coded_is (true_literal line) = refl
coded_is (false_literal line) = refl
coded_is (vararg_expression line) = refl
coded_is (number_literal line n) = refl
coded_is (text_literal line text) = refl
coded_is (name_expression line text) = refl
coded_is (function_expression line body) = refl
coded_is (index_expression line on key) = refl
coded_is (field_expression line on text) = refl
coded_is (call_expression line on args on_line) = refl
coded_is (method_call line on text args on_line) = refl
coded_is (and_expression line left right) = refl
coded_is (or_expression line left right) = refl
coded_is (binary_expression line op left right) = refl
coded_is (unary_expression line op e) = refl
coded_is (constructor line items) = refl
coded_is (parenthesized line e) = refl

abbrev pub count_of : Expressions → ℕ
count_of es = length (all_coded es)

-- ---- each in the next register

pub nexts_lead : (es : Expressions) → AllKeep es → PartLeads (all_next (all_coded es)) (ExpressionsFit es)
nexts_lead no_expressions f m g b s x = let d = leads_self s in leads_as d (sym x)
nexts_lead (syntax.expression e rest) f m g b s x =
    let d = next_takes (coded e) (ExpressionFits e) f.0.value m g x.mid s x.first in
    leads_then d.leads (nexts_lead rest f.1 (next_reg (coded e) m) d.leads.ghost b d.leads.state (carry (ExpressionsFit rest) b d.leads x.second))

pub nexts_free : (es : Expressions) → AllKeep es → (m : Maker) → (all_next (all_coded es) m).free ≡ m.free + count_of es
nexts_free no_expressions f m = omega arith
nexts_free (syntax.expression e rest) f m =
    let h = nexts_free rest f.1 (next_reg (coded e) m) in
    let k = f.0.value.to_free m.free m in
    omega (arith, h, k)

nexts_high : (es : Expressions) → AllKeep es → (m : Maker) → m.free ≤ m.high → m.free + count_of es ≤ (all_next (all_coded es) m).high
nexts_high no_expressions f m l = omega (arith, l)
nexts_high (syntax.expression e rest) f m l =
    let k = f.0.value.to_free m.free m in
    let h = nexts_high rest f.1 (next_reg (coded e) m) (omega arith) in
    omega (arith, h, k)

pub nexts_some : (es : Expressions) → AllKeep es → (m : Maker) → 0 < count_of es → m.free + count_of es ≤ (all_next (all_coded es) m).high
nexts_some no_expressions f m l = absurd (omega arith)
nexts_some (syntax.expression e rest) f m l =
    let k = f.0.value.to_free m.free m in
    let h = nexts_high rest f.1 (next_reg (coded e) m) (omega arith) in
    omega (arith, h, k)

-- ---- the last one with several values

-- several values, but not none of them
abbrev pub Positive : Want → Type 0
Positive (Some zero) = ⊥
Positive want = Unit {0}

want_ok : (e : Expression) (want : Want) → Positive want → WantAllowed e want
want_ok e None p = tt
want_ok e (Some zero) p = absurd p
want_ok e (Some (suc k)) p = tt

pub record Several (m : Maker) (g : Ghost) (n : Maker) (want : Want) (b : Ahead) : Type 0 where
  pub first : ℕ
  pub behind : m.free ≤ first
  pub leads : Leads m g n (left_by want first) b

pub multis_lead : (op : Op) (want : Want) → IsCalling op want → Positive want → (es : Expressions) → AllKeep es → ends_open (all_coded es) ≡ true → (m : Maker) (g : Ghost) (b : Ahead) → State m g None → ExpressionsFit es (context m g) m.ahead b → Several m g (all_multi op want (all_coded es) m) want b
multis_lead op want is p no_expressions f o m g b s x = absurd (true≢false (sym o))
multis_lead op want is p (syntax.expression e no_expressions) f o m g b s x =
    let d = f.0.multi o op want m g x.mid is (want_ok (coded e).e want p) s x.first in
    record { first = m.free; behind = omega arith; leads = leads_as d (sym x.second) }
multis_lead op want is p (syntax.expression e (syntax.expression e' rest)) f o m g b s x =
    let d = next_takes (coded e) (ExpressionFits e) f.0.value m g x.mid s x.first in
    let k = f.0.value.to_free m.free m in
    let t = multis_lead op want is p (syntax.expression e' rest) f.1 o (next_reg (coded e) m) d.leads.ghost b d.leads.state (carry (ExpressionsFit (syntax.expression e' rest)) b d.leads x.second) in
    let l = t.behind in
    record { first = t.first; behind = omega (arith, k, l); leads = leads_then d.leads t.leads }

pub multis_free : (op : Op) (k : ℕ) (es : Expressions) → AllKeep es → ends_open (all_coded es) ≡ true → (m : Maker) → ((all_multi op (Some (suc k)) (all_coded es) m).free + 1 ≡ m.free + count_of es + suc k) × ((all_multi op (Some (suc k)) (all_coded es) m).free ≤ (all_multi op (Some (suc k)) (all_coded es) m).high)
multis_free op k no_expressions f o m = absurd (true≢false (sym o))
multis_free op k (syntax.expression e no_expressions) f o m =
    let r = f.0.multi_room o op (Some (suc k)) m tt in
    (omega (arith, r.0), omega (arith, r.0, r.1))
multis_free op k (syntax.expression e (syntax.expression e' rest)) f o m =
    let r = multis_free op k (syntax.expression e' rest) f.1 o (next_reg (coded e) m) in
    let q = f.0.value.to_free m.free m in
    (omega (arith, r.0, q), r.1)

pub opened_high : (es : Expressions) → AllKeep es → ends_open (all_coded es) ≡ true → (m : Maker) → suc m.free ≤ (all_multi Op.Call None (all_coded es) m).high
opened_high no_expressions f o m = absurd (true≢false (sym o))
opened_high (syntax.expression e no_expressions) f o m = (f.0.multi_room o Op.Call None m tt).1
opened_high (syntax.expression e (syntax.expression e' rest)) f o m =
    let h = opened_high (syntax.expression e' rest) f.1 o (next_reg (coded e) m) in
    let k = f.0.value.to_free m.free m in
    omega (arith, h, k)

-- ---- arguments

pub list_given : (es : Expressions) → AllKeep es → GivenKeeps (given_list (all_coded es)) (ExpressionsFit es)
list_given es f = record {
  fixed = λ k e m g b s x. fixed (ends_open (all_coded es)) refl k e m g b s x;
  fixed_free = λ k e m g b s x l. fixed_free (ends_open (all_coded es)) k e m l;
  opened = λ e m g b s x. opened (ends_open (all_coded es)) refl e m g b s x;
}
  where
    cs : List Coded
    cs = all_coded es

    fixed : (o : Bool) → ends_open (all_coded es) ≡ o → (k : ℕ) → cond o None (Some (length (all_coded es))) ≡ Some k → PartLeads (cond o (all_multi Op.Call None (all_coded es)) (all_next (all_coded es))) (ExpressionsFit es)
    fixed true is k e m g b s x = cc
    fixed false is k e m g b s x = nexts_lead es f m g b s x

    fixed_free : (o : Bool) → (k : ℕ) → cond o None (Some (length (all_coded es))) ≡ Some k → (m : Maker) → m.free ≤ m.high → ((cond o (all_multi Op.Call None (all_coded es)) (all_next (all_coded es)) m).free ≡ m.free + k) × (m.free + k ≤ (cond o (all_multi Op.Call None (all_coded es)) (all_next (all_coded es)) m).high)
    fixed_free true k e m l = cc
    fixed_free false k e m l =
        let same : length (all_coded es) ≡ k = cc in
        let a = nexts_free es f m in
        let c = nexts_high es f m l in
        (omega (arith, a, same), omega (arith, c, same))

    opened : (o : Bool) → ends_open (all_coded es) ≡ o → cond o None (Some (length (all_coded es))) ≡ None → (m : Maker) (g : Ghost) (b : Ahead) → State m g None → ExpressionsFit es (context m g) m.ahead b → OpenLeads m g (cond o (all_multi Op.Call None (all_coded es)) (all_next (all_coded es)) m) b
    opened true is e m g b s x = let t = multis_lead Op.Call None tt tt es f is m g b s x in record { first = t.first; behind = t.behind; leads = t.leads }
    opened false is e m g b s x = cc

pub text_given : (line : ℕ) (text : Text) → GivenKeeps (given_one (next_text line text)) Nothing
text_given line text = record {
  fixed = λ k e m g b s x. (let d = (next_text_takes line text m g s).leads in leads_as d (sym x));
  fixed_free = λ k e m g b s x l. (let same : 1 ≡ k = cc in (omega (arith, same), omega (arith, same)));
  opened = λ e. cc;
}
