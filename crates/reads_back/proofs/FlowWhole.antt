-- A whole function whose statements stand on steps is one that is read step by step.
use Rattle.std.proofs.Common.{◌≡◌, ◌≤◌, ℕ, true, List, length, ap, ◌∙◌, arith}
use Rattle.std.specs.Prelude.{None, Some}
use Rattle.lua_num.specs.Bytes.{Text}
use Rattle.lua_tree.specs.Names.{are_names}
use Rattle.lua_tree.specs.Syntax.{Statements}
use Rattle.proto.specs.declared.parts.Constant.{Constant}
use Rattle.recover_expr.specs.Drafts.{Part}
use Rattle.recover_expr.specs.Placing.{Steps}
use Rattle.recover_expr.specs.Situation.{Function}
use Rattle.scheme.specs.Functions.{empty_maker, whole_function}
use Rattle.scheme.specs.Making.{Ahead, Maker}
use Rattle.scheme.specs.Scheme.{statements_made}
use Rattle.scheme_stands.proofs.Growth.{Final}
use Rattle.scheme_stands.specs.Words.{Fn}
use Rattle.same_flow.specs.Declaring.{ClosesTell}
use Rattle.same_flow.specs.Performed.{part_at}
use Rattle.same_flow.specs.SameFlow.{AreLaid, HasPlainParts, begun_of}
use Rattle.same_flow.proofs.Followed.{at_pc}
use Rattle.same_flow.proofs.LocalsListed.{locals_listed}
use Rattle.same_flow.proofs.StatementsTold.{laid_follow}
use Rattle.reads_back.specs.Stepped.{StepStands}
use Rattle.reads_back.proofs.FlowFinal.{placed_maker, same_constants, same_high, same_upvalues, steps_final}
use Rattle.reads_back.proofs.FlowRoom.{steps_room}
use Rattle.reads_back.proofs.FlowThere.{IsFlowBy, IsFlowPart, ReturnsLast}
use Rattle.reads_back.proofs.MadeWhole.{IsMadeWhole}

-- what its statements make, and with the last word
abbrev pub tree_of : (params names : List Text) → Ahead → Statements → Maker
tree_of params names ahead block = statements_made block None (begun_of params names ahead)

abbrev pub whole_of : (params names : List Text) → Ahead → Statements → Maker
whole_of params names ahead block = whole_function 1 params (statements_made block None) (empty_maker ahead names)

-- what is known of it, and of the functions that are left to it
pub record IsWholeBy (Left : Type 0) (f : Function) (g : Fn) (code : Steps) (params names : List Text) (ahead : Ahead) (block : Statements) : Type 0 where
  pub made : IsMadeWhole f g (whole_of params names ahead block)
  pub left : Left
  pub plain : HasPlainParts code
  pub laid : AreLaid code params names ahead block
  pub stand : (at : ℕ) → StepStands g code params names ahead at
  pub flow : (at : ℕ) (part : Part) → part_at code at ≡ Some part → IsFlowPart part
  pub closes : ClosesTell code params names ahead
  pub good : are_names params ≡ true
  -- its locals are listed, and its last word stands behind what its statements make
  pub listed : f.of.locals ≡ (whole_of params names ahead block).locals
  pub last : f.last ≡ length (tree_of params names ahead block).items
  pub returns : ReturnsLast f
  -- it has registers for its parameters, and as many as are used
  pub room : length params ≤ g.size
  pub high : (whole_of params names ahead block).high ≤ g.size
  -- what its statements make stands in it
  pub final : Final 0 (tree_of params names ahead block) (whole_of params names ahead block)

pub whole_flow : {Left : Type 0} {f : Function} {g : Fn} {code : Steps} {params names : List Text} {ahead : Ahead} {block : Statements} (of : IsWholeBy Left f g code params names ahead block) → IsFlowBy Left f g (placed_maker code of.plain params names ahead) code params names ahead block
whole_flow {Left} {f} {g} {code} {params} {names} {ahead} {block} of =
    let constants = same_constants code of.plain params names ahead block of.laid in
    let final = steps_final code of.plain params names ahead block of.laid of.final in
    let few = of.made.few in
    let high = of.high in
    record {
      made = record {
        is_function = of.made.is_function;
        names = of.made.names;
        law = of.made.law;
        known = of.made.known;
        named = of.made.named;
        constants = of.made.constants ∙ constants;
        upvalues = of.made.upvalues ∙ same_upvalues code of.plain params names ahead block of.laid;
        few = omega (arith, few, ap (λ (constants : List Constant). length constants) constants);
      };
      left = of.left;
      plain = of.plain;
      laid = of.laid;
      stand = of.stand;
      flow = of.flow;
      closes = of.closes;
      good = of.good;
      listed = of.listed ∙ (locals_listed code of.plain params names ahead block of.laid).all;
      last = of.last ∙ at_pc (laid_follow code of.plain params names ahead block of.laid).2;
      returns = of.returns;
      room = steps_room g (placed_maker code of.plain params names ahead) code of.plain params names ahead block of.laid of.stand final (omega (arith, high, same_high code of.plain params names ahead block of.laid)) of.room;
      final = final;
    }
