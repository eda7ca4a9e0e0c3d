-- What is written of an act makes the same code as the statement that it is, where the values of all expressions are written with the same code.
use Rattle.std.proofs.Common.{ℕ, ◌≤◌, ◌⊎◌, List, Option, arith, inl, inr, ⊎_elim}
use Rattle.lua_tree.specs.Syntax as syntax
use Rattle.lua_tree.specs.Syntax.{Expressions, no_expressions, Expression, index_expression, name_expression, field_expression, Statement, assignment, call_statement, local_statement, return_statement, local_function}
use Rattle.lua_tree.specs.WellFormed.{depth_of_expression, depth_of_expressions}
use Rattle.core_expr.specs.Values.{Inner}
use Rattle.recover_expr.specs.Situation.{Function}
use Rattle.scheme.specs.Making.{Maker}
use Rattle.scheme.specs.declared.making.Active.{Active}
use Rattle.scheme_stands.specs.Words.{Fn}
use Rattle.reads_back.specs.Acted.{Acted, AreActTargets, assigned, called, declared, returned, IsAct, IsActTarget, IsActed, lean_assignment, lean_depth}
use Rattle.reads_back.specs.Cores.{AllHaveCores, HasCore}
use Rattle.reads_back.proofs.ActsSame.{call_rewritten_act}
use Rattle.reads_back.proofs.AssignedSame.{assignment_rewritten_act}
use Rattle.reads_back.proofs.DeclaredSame.{local_rewritten_act}
use Rattle.reads_back.proofs.GivenSame.{AllRewritten}
use Rattle.reads_back.proofs.ReturnsSame.{return_rewritten_act}
use Rattle.reads_back.proofs.LocalFunctionsSame.{local_function_rewritten}
use Rattle.reads_back.proofs.LeanTargets.{IsLean, lean_or}
use Rattle.reads_back.proofs.NamedSame.{lean_values}
use Rattle.reads_back.proofs.Rewriting.{IsMadeBy, RewrittenAct, AreAgain, OwnListed}
use Rattle.reads_back.proofs.TargetsWritten.{AreWritten, TargetWritten, TargetsWritten}

module _ (f : Function) (g : Fn) (active : List Active) (listed : List ℕ) (z : Maker) (lefts : ℕ → List (Option Inner)) where
  -- those of all expressions up to a depth
  abbrev pub AllWritten : (deep : ℕ) → Type 0
  AllWritten deep = (e : Expression) → HasCore e → depth_of_expression e ≤ deep → AreWritten f g active listed z lefts e

target_written : {f : Function} {g : Fn} {active : List Active} {listed : List ℕ} {z : Maker} {lefts : ℕ → List (Option Inner)} (deep : ℕ) (target : Expression) →
    AllWritten f g active listed z lefts deep → IsActTarget target → depth_of_expression target ≤ deep → TargetWritten f g active listed z lefts target
target_written deep (index_expression line on key) all is shallow = (all on is.0 (omega (arith, shallow)), all key is.1 (omega (arith, shallow)))
target_written deep (field_expression line on text) all is shallow = all on is (omega (arith, shallow))
target_written deep (name_expression line text) all is shallow = tt
target_written deep target all is shallow = absurd is

targets_written : {f : Function} {g : Fn} {active : List Active} {listed : List ℕ} {z : Maker} {lefts : ℕ → List (Option Inner)} (deep : ℕ) (targets : Expressions) →
    AllWritten f g active listed z lefts deep → AreActTargets targets → depth_of_expressions targets ≤ deep → TargetsWritten f g active listed z lefts targets
targets_written deep no_expressions all are shallow = tt
targets_written deep (syntax.expression e targets) all are shallow = (target_written deep e all are.0 (omega (arith, shallow)), targets_written deep targets all are.1 (omega (arith, shallow)))

-- or they are a path that a function goes to, which may be deeper
lean_or_written : {f : Function} {g : Fn} {active : List Active} {listed : List ℕ} {z : Maker} {lefts : ℕ → List (Option Inner)} (deep : ℕ) (targets es : Expressions) →
    AllWritten f g active listed z lefts deep → AreActTargets targets → lean_assignment targets es ≤ deep → IsLean targets es ⊎ TargetsWritten f g active listed z lefts targets
lean_or_written deep targets es all are shallow = ⊎_elim inl (λ low. inr (targets_written deep targets all are (omega (arith, shallow, low)))) (lean_or targets es)

pub each_written : {f : Function} {g : Fn} {active : List Active} {listed : List ℕ} {z : Maker} {lefts : ℕ → List (Option Inner)} (deep : ℕ) (es : Expressions) →
    AllWritten f g active listed z lefts deep → AllHaveCores es → depth_of_expressions es ≤ deep → AllRewritten f g active listed z lefts es
each_written deep no_expressions all have shallow = tt
each_written deep (syntax.expression e es) all have shallow = (all e have.0 (omega (arith, shallow)), each_written deep es all have.1 (omega (arith, shallow)))

module _ {f : Function} {g : Fn} {active : List Active} {listed : List ℕ} {z : Maker} (lefts : ℕ → List (Option Inner)) (made : IsMadeBy f g active listed z) (again : AreAgain f g lefts) where
  -- every act
  pub act_rewritten : (deep : ℕ) (s : Statement) (before behind : ℕ) (acted : Acted) → AllWritten f g active listed z lefts deep → deep ≤ 200 → lean_depth s ≤ deep → IsAct s → OwnListed f g active s → IsActed g active s before behind acted →
      RewrittenAct f g active listed z lefts before behind s acted
  act_rewritten deep (call_statement e) before behind (called v) all few shallow is own acts = call_rewritten_act e v is.0 is.1 (all e is.1 shallow before behind v acts)
  act_rewritten deep (assignment targets es) before behind (assigned ts vs several last) all few shallow is own acts =
      assignment_rewritten_act lefts made targets es before behind ts (record { values = vs; all = several; last = last }) is (lean_or_written deep targets es all is.targets shallow) (each_written deep es all is.values (omega (arith, shallow, lean_values targets es))) acts
  act_rewritten deep (return_statement es) before behind (returned vs several) all few shallow is own acts = return_rewritten_act lefts made es before behind vs several is (each_written deep es all is shallow) acts.0 acts.1
  act_rewritten deep (local_statement names es) before behind (declared others vs several) all few shallow is own acts =
      local_rewritten_act lefts made names es before behind acts.1 is.1 (each_written deep es all is.1 shallow) acts.2 others vs several acts.0 acts.3
  act_rewritten deep (local_function text body) before behind acted all few shallow is own acts = local_function_rewritten made again text body own is (omega (arith, few, shallow)) before behind acted acts
  act_rewritten deep s before behind acted all few shallow is own acts = absurd acts
