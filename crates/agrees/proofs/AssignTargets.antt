-- One target of an assignment: its parts are evaluated, and what it stands for.
use Rattle.std.proofs.Common.{◌≡◌, ◌≤◌, ℕ, suc, ◌+◌, ◌*◌, List, length, refl, sym, ap, ◌∙◌, subst, arith}
use Rattle.std.specs.Option.{option_or}
use Rattle.lua_tree.specs.Syntax as syntax
use Rattle.lua_tree.specs.Syntax.{Expressions, no_expressions, Expression, name_expression, index_expression, field_expression, parenthesized}
use Rattle.lua_num.specs.Bytes.{Text}
use Rattle.scheme.specs.Making.{Where, in_register, in_upvalue, in_globals}
use Rattle.scheme.specs.Expressions as scheme
use Rattle.scheme.specs.Expressions.{name_target, literal, fold, number_or}
use Rattle.lua_model.specs.Datum.{Datum, text}
use Rattle.lua_model.specs.Store.{Outside}
use Rattle.source_meaning.specs.State.{State as SourceState, taken, to_entry, find}
use Rattle.source_meaning.specs.Tasks.{target}
use Rattle.source_meaning.specs.Programs.{done, run, spend}
use Rattle.source_meaning.specs.Meaning.{program, to_name, evaluate_target, with_late}
use Rattle.scheme_stands.specs.Words.{Spot, meaning}
use Rattle.scheme_stands.specs.Relation.{related}
use Rattle.agrees.proofs.Names.{name_finds, Finds}
use Rattle.agrees.proofs.Tasks.{Simulates, scope, TargetBy}
use Rattle.agrees.proofs.Posts.{keeps_self, keeps_on, fail_of, Stands, TargetPost}
use Rattle.agrees.proofs.Accounts.{Now, Self, Goes, goes_done, goes_weaken, by_tick_earning}
use Rattle.agrees.proofs.Sizes.{size_e, inner, inner_targets, call_cost}
use Rattle.agrees.proofs.Picture.{code_of, Setup, Ghost, Site, raised, at, Ok}
use Rattle.agrees.proofs.Operands.{op_keep, text_rk, late_goes, late_rk}
use Rattle.agrees.proofs.ListOpen.{count}

name_stands : (x : Site) (high : List Datum) (k : ℕ) (name : Text) (w : Where) → Finds x name w → Stands x.a high k (to_name (option_or (find name x.a.own) (find name x.a.outer)) name) (name_target name w)
name_stands x high k name (in_register r) h =
    subst (λ f. Stands x.a high k (to_name (option_or f (find name x.a.outer)) name) (name_target name (in_register r))) (sym h.1) h.2
name_stands x high k name (in_upvalue i) h =
    subst (λ f. Stands x.a high k (to_name (option_or f (find name x.a.outer)) name) (name_target name (in_upvalue i))) (sym h.1)
    (subst (λ f. Stands x.a high k (to_name f name) (name_target name (in_upvalue i))) (sym h.2) h.3)
name_stands x high k name in_globals h =
    subst (λ f. Stands x.a high k (to_name (option_or f (find name x.a.outer)) name) (name_target name in_globals)) (sym h.0)
    (subst (λ f. Stands x.a high k (to_name f name) (name_target name in_globals)) (sym h.1) refl)

abbrev pub tsize : Expressions → ℕ
tsize no_expressions = 0
tsize (syntax.expression e rest) = suc (inner e) + tsize rest

pub tsize_is : (ts : Expressions) → tsize ts + count ts * call_cost ≤ inner_targets ts
tsize_is no_expressions = omega arith
tsize_is (syntax.expression e rest) = let h = tsize_is rest in omega (arith, h)

module _ (z : Setup) (self : Self) (ih : Simulates z self) where
  target_goes : (e : Expression) (s : SourceState) (o : Outside) (g : Ghost) (x : Site) (k free : ℕ) (d : scheme.Target) (free1 : ℕ) (p q : Spot) → Ok z s g x → free ≡ length x.a.slots + k → inner e ≤ z.bound → (related (code_of x.a) e).target x.a.active free d free1 p q → Goes z.bound self (fail_of z x) 1 (inner e) o (Now (at s o g x p.pc)) (TargetPost z x k d free1 q.pc) (evaluate_target e (scope x) s)
  target_goes (name_expression line name) s o g x k free d free1 p q ok fr small w =
      goes_done z.bound self (fail_of z x) 1 0 o _ (TargetPost z x k d free1 q.pc) _ s (record {
        g = g;
        high = x.high;
        pushed = record {
          k1 = k;
          ok = ok;
          at_free = w.at_free ∙ fr;
          more = omega arith;
          keeps = keeps_self k x.high;
          holds = subst (Stands x.a x.high k (to_name (option_or (find name x.a.own) (find name x.a.outer)) name)) (sym w.is) (name_stands x x.high k name (meaning x.a.active p) (name_finds g.owner x name (meaning x.a.active p) ok.acts.0 w.means));
        };
        is = ap (λ pc. Now (at s o g x pc)) (sym w.passed.pc);
      })
  target_goes (index_expression line on key) s o g x k free d free1 p q ok fr small w =
      goes_weaken z.bound self (fail_of z x) 1 (size_e on + (size_e key + 0)) 1 (inner (index_expression line on key)) o _ (TargetPost z x k d free1 q.pc) (evaluate_target (index_expression line on key) (scope x) s) (omega arith) (omega arith)
      (late_goes z self ih on s o g x k free w.t w.free1 p w.mid 1 (size_e key + 0) (TargetPost z x k d free1 q.pc) (λ v s1. with_late (scope x) key s1 (λ k1 s2. done (to_entry v k1) s2)) ok fr (omega arith) w.on_at
      (λ v s1 o1 g1 h1 d1 f1.
      late_rk z self ih key s1 o1 g1 (raised x h1) d1.k1 w.free1 w.k free1 w.mid q 1 0 (TargetPost z x k d free1 q.pc) (λ i s2. done (to_entry v i) s2) d1.ok d1.at_free (omega arith) w.key_at
      (λ i s2 o2 g2 h2 d2 f2.
      goes_done z.bound self (fail_of z x) 1 0 o2 _ (TargetPost z x k d free1 q.pc) (to_entry v i) s2 (record {
        g = g2;
        high = h2;
        pushed = record {
          k1 = d2.k1;
          ok = d2.ok;
          at_free = d2.at_free;
          more = (let a = d1.more in let b = d2.more in omega (arith, a, b));
          keeps = keeps_on k d1.k1 x.high h1 h2 d1.more d1.keeps d2.keeps;
          holds = subst (Stands x.a h2 d2.k1 (to_entry v i)) (sym w.is) (op_keep x.a h1 h2 d1.k1 d2.k1 v w.t d2.more (record { same = d2.keeps.same; old = d2.keeps.old }) d1.holds, d2.holds, f1, f2);
        };
        is = refl;
      }))))
  target_goes (field_expression line on name) s o g x k free d free1 p q ok fr small w =
      goes_weaken z.bound self (fail_of z x) 1 (size_e on + 0) 1 (inner (field_expression line on name)) o _ (TargetPost z x k d free1 q.pc) (evaluate_target (field_expression line on name) (scope x) s) (omega arith) (omega arith)
      (late_goes z self ih on s o g x k free w.t w.free1 p w.mid 1 0 (TargetPost z x k d free1 q.pc) (λ v s1. done (to_entry v (taken (text name))) s1) ok fr (omega arith) w.on_at
      (λ v s1 o1 g1 h1 d1 f1.
      text_rk z self ih name s1 o1 g1 (raised x h1) d1.k1 w.free1 w.k free1 w.mid q 0 0 (TargetPost z x k d free1 q.pc) (done (to_entry v (taken (text name))) s1) d1.ok d1.at_free w.key_at
      (λ h2 d2.
      goes_done z.bound self (fail_of z x) 0 0 o1 _ (TargetPost z x k d free1 q.pc) (to_entry v (taken (text name))) s1 (record {
        g = g1;
        high = h2;
        pushed = record {
          k1 = d2.k1;
          ok = d2.ok;
          at_free = d2.at_free;
          more = (let a = d1.more in let b = d2.more in omega (arith, a, b));
          keeps = keeps_on k d1.k1 x.high h1 h2 d1.more d1.keeps d2.keeps;
          holds = subst (Stands x.a h2 d2.k1 (to_entry v (taken (text name)))) (sym w.is) (op_keep x.a h1 h2 d1.k1 d2.k1 v w.t d2.more (record { same = d2.keeps.same; old = d2.keeps.old }) d1.holds, d2.holds, f1, tt);
        };
        is = refl;
      }))))
  target_goes e s o g x k free d free1 p q ok fr small w = absurd w

  pub next_target : (e : Expression) → TargetBy z e (λ c s w. spend w.ticks w (run self (program (target c e) s)))
  next_target e s o g x k free d free1 p q ok fr small w =
      by_tick_earning z.bound self (fail_of z x) 6 1 (inner e) o _ (TargetPost z x k d free1 q.pc) (evaluate_target e (scope x) s) refl (omega arith) (target_goes e s o g x k free d free1 p q ok fr small w)
