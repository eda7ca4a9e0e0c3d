-- `return` keeps the invariant.
use Rattle.std.proofs.Common.{◌≡◌, ◌<◌, ℕ, suc, Bool, true, false, [], ◌∷◌, length, refl, sym, ap, arith, ◌+◌, cond}
use Rattle.std.specs.Prelude.{None, Some, ◌||◌}
use Rattle.lua_tree.specs.Syntax as syntax
use Rattle.lua_tree.specs.Syntax.{Expressions, no_expressions}
use Rattle.lua_tree.specs.WellFormed.{is_call}
use Rattle.opcode.specs.declared.op.Op.{Op}
use Rattle.scheme.specs.Expressions.{Coded, operand, count_field, is_multiple, is_vararg}
use Rattle.scheme.specs.Lists.{all_next, ends_open, all_multi}
use Rattle.scheme.specs.Scheme.{all_coded, coded}
use Rattle.scheme.specs.declared.making.Piece.{Piece}
use Rattle.scheme.specs.Making.{put}
use Rattle.scheme.specs.Statements.{return_operand, return_call, return_list, return_part}
use Rattle.scheme_sound.proofs.States.{Leads, leads_on, leads_as, sized, sized_state, sized_leads}
use Rattle.scheme_sound.proofs.Words.{not_open, return_sane, put_return}
use Rattle.scheme_sound.proofs.Fitting.{Fitting, ExpressionsFit, ExpressionFits}
use Rattle.scheme_sound.proofs.Operands.{PartLeads, operand_takes}
use Rattle.scheme_sound.proofs.Expressions.{Keeps}
use Rattle.scheme_sound.proofs.Lists.{AllKeep, count_of, nexts_lead, nexts_some, multis_lead, opened_high}

-- a list whose values are returned
list_returned : (line : ℕ) (es : Expressions) → AllKeep es → 0 < count_of es → PartLeads (return_list line (all_coded es)) (ExpressionsFit es)
list_returned line es f l m g b s x = go (ends_open (all_coded es)) refl
  where
    go : (o : Bool) → ends_open (all_coded es) ≡ o → Leads m g (put line (Piece.Abc Op.Return m.free (count_field 1 (cond o None (Some (length (all_coded es))))) 0) (cond o (all_multi Op.Call None (all_coded es)) (all_next (all_coded es)) m)) None b
    go true is =
        let t = multis_lead Op.Call None tt tt es f is m g b s x in
        let n = all_multi Op.Call None (all_coded es) m in
        let z = suc m.free in
        let d = t.leads in
        let behind = t.behind in
        leads_on d (sized_leads z (put_return line m.free 0 n (sized d.ghost z) (Some t.first) (sized_state z d.state) (return_sane m.free 0 n (sized d.ghost z) (omega arith) (omega arith)) behind) (opened_high es f is m))
    go false is =
        let d = nexts_lead es f m g b s x in
        let n = all_next (all_coded es) m in
        let z = m.free + count_of es in
        let high = nexts_some es f m l in
        leads_on d (sized_leads z (put_return line m.free (count_of es + 1) n (sized d.ghost z) None (sized_state z d.state) (return_sane m.free (count_of es + 1) n (sized d.ghost z) (omega (arith, l)) (omega (arith, l))) (not_open (count_of es + 1) (Some m.free) (omega arith))) (omega (arith, high)))

one_returned : (line : ℕ) (c : Coded) (i : Fitting) → Keeps c i → PartLeads (return_operand line c) i
one_returned line c i f m g b s x =
    let t = operand_takes c i f.value m g b s x in
    let n = (operand c m).after in
    leads_on t.leads (put_return line (operand c m).value 2 n t.leads.ghost None t.leads.state (return_sane (operand c m).value 2 n t.leads.ghost t.there (let q = t.there in omega (arith, q))) tt)

call_returned : (line : ℕ) (c : Coded) (i : Fitting) → Keeps c i → is_call c.e ≡ true → PartLeads (return_call line c) i
call_returned line c i f e m g b s x =
    let several : is_multiple c.e ≡ true = ap (λ y. y || is_vararg c.e) e in
    let d = f.multi several Op.TailCall None m g b tt tt s x in
    let n = c.multi Op.TailCall None m in
    let z = suc m.free in
    leads_on d (sized_leads z (put_return line m.free 0 n (sized d.ghost z) (Some m.free) (sized_state z d.state) (return_sane m.free 0 n (sized d.ghost z) (omega arith) (omega arith)) (omega arith)) (f.multi_room several Op.TailCall None m tt).1)

pub return_leads : (line : ℕ) (es : Expressions) → AllKeep es → PartLeads (return_part line (all_coded es)) (ExpressionsFit es)
return_leads line no_expressions f m g b s x =
    let least = s.invariant.least in
    let d = put_return line 0 1 m g None s (return_sane 0 1 m g (omega (arith, least)) (omega (arith, least))) tt in
    leads_as d (sym x)
return_leads line (syntax.expression e no_expressions) f m g b s x = go (is_call (coded e).e) refl
  where
    alone : Leads m g (return_operand line (coded e) m) None x.mid → Leads m g (return_operand line (coded e) m) None b
    alone d = leads_as d (sym x.second)

    called : Leads m g (return_call line (coded e) m) None x.mid → Leads m g (return_call line (coded e) m) None b
    called d = leads_as d (sym x.second)

    dots : (v : Bool) → Leads m g (cond v (return_list line (coded e ∷ [])) (return_operand line (coded e)) m) None b
    dots true = list_returned line (syntax.expression e no_expressions) f (omega arith) m g b s x
    dots false = alone (one_returned line (coded e) (ExpressionFits e) f.0 m g x.mid s x.first)

    go : (c : Bool) → is_call (coded e).e ≡ c → Leads m g (cond c (return_call line (coded e)) (cond (is_vararg (coded e).e) (return_list line (coded e ∷ [])) (return_operand line (coded e))) m) None b
    go true is = called (call_returned line (coded e) (ExpressionFits e) f.0 is m g x.mid s x.first)
    go false is = dots (is_vararg (coded e).e)
return_leads line (syntax.expression e (syntax.expression e' rest)) f m g b s x = list_returned line (syntax.expression e (syntax.expression e' rest)) f (omega arith) m g b s x
