-- What is written of a call makes the same code as the statement.
use Rattle.std.proofs.Common.{inr, ◌≡◌, ℕ, true, List, Option, Some, ap, arith, length}
use Rattle.std.specs.Prelude.{◌||◌}
use Rattle.lua_tree.specs.Syntax.{Expression, call_statement}
use Rattle.lua_tree.specs.WellFormed.{is_call}
use Rattle.opcode.specs.declared.op.Op.{Op}
use Rattle.core_expr.specs.Values.{Value, Inner}
use Rattle.recover_expr.specs.Situation.{Function}
use Rattle.scheme.specs.Expressions.{is_vararg}
use Rattle.scheme.specs.Making.{Maker}
use Rattle.scheme.specs.declared.making.Active.{Active}
use Rattle.scheme_stands.specs.Words.{Fn}
use Rattle.reads_back.specs.Acted.{called}
use Rattle.reads_back.specs.Cores.{HasCore}
use Rattle.core_expr.specs.Places.{place}
use Rattle.core_expr.specs.Writing.{is_bare}
use Rattle.reads_back.proofs.InRoom.{levels_in}
use Rattle.reads_back.proofs.Tests.{second_of_both}
use Rattle.reads_back.proofs.Rewriting.{Rewritten, RewrittenAct, wording}

module _ {f : Function} {g : Fn} {active : List Active} {listed : List ℕ} {z : Maker} {lefts : ℕ → List (Option Inner)} {before behind : ℕ} where
  pub call_rewritten_act : (e : Expression) (v : Value) → is_call e ≡ true → HasCore e → Rewritten f g active listed z lefts before behind e v → RewrittenAct f g active listed z lefts before behind (call_statement e) (called v)
  call_rewritten_act e v is has written =
      let several = ap (λ call. call || is_vararg e) is in
      record {
        can = written.can;
        leaves = written.leaves;
        makes = written.makes;
        few = λ n. omega (arith, written.few n);
        low = λ short formed m ahead final.
            let n = length m.constants in
            let low = levels_in (is_bare (place f.of listed f.short) n v) e (wording f listed z lefts before n v) (written.low short (second_of_both (is_call e) _ formed) m ahead (inr (inr (several, Op.Call, Some 0, final)))) in
            omega (arith, low);
        made = λ m ahead final. written.multi several Op.Call (Some 0) m ahead final;
        taken = λ m ahead final. written.multi_taken several Op.Call (Some 0) m ahead final;
      }
