-- A function whose statements with blocks stand among its words: it is one whose words are read step by step.
use Rattle.std.proofs.Common.{◌≡◌, ℕ, suc, ◌-◌, ◌^◌, ◌<◌, true, Bool, List, length, Some, None, refl, sym, ap, ◌∙◌, arith}
use Rattle.std.proofs.lemmas.List.{length-map}
use Rattle.std.specs.Prelude.{◌==◌, not, slice_get}
use Rattle.lua_num.specs.Bytes.{Text}
use Rattle.lua_tree.specs.Names.{are_names}
use Rattle.lua_tree.specs.Syntax.{Statements}
use Rattle.proto.specs.Chunk.{Own, Chunk, SameButLines, no_lines, own}
use Rattle.core_expr.specs.Places.{as_name}
use Rattle.recover_expr.specs.Drafts.{Part}
use Rattle.recover_expr.specs.Placing.{Steps}
use Rattle.recover_expr.specs.Reading.{as_function}
use Rattle.recover_expr.specs.Situation.{Function}
use Rattle.recover_expr.specs.declared.steps.Step.{Step}
use Rattle.scheme.specs.Functions.{Heading, chunk_of}
use Rattle.scheme.specs.Making.{Ahead, Maker}
use Rattle.opcode.specs.declared.op.Op.{Op}
use Rattle.scheme.specs.declared.making.Piece.{Piece}
use Rattle.scheme_stands.proofs.Growth.{Final, fn_of, length_end}
use Rattle.scheme_stands.proofs.Whole.{words_length}
use Rattle.scheme_stands.specs.Functions.{FunctionAt}
use Rattle.scheme_stands.specs.Relation.{StatementsAt}
use Rattle.scheme_stands.specs.Words.{Fn, Names, asking}
use Rattle.same_flow.specs.Alike.{AreStepsLoose}
use Rattle.same_flow.specs.Declaring.{ClosesTell}
use Rattle.same_flow.specs.Performed.{part_at}
use Rattle.same_flow.specs.Space.{space_of_statements}
use Rattle.same_flow.specs.SameFlow.{AreLaid, HasPlainParts, begun_of}
use Rattle.same_flow.proofs.BlocksLaid.{blocks_are_laid}
use Rattle.same_flow.proofs.ClosesTold.{closes_may_tell}
use Rattle.same_flow.proofs.StepsAlike.{laid_on_loose_steps}
use Rattle.reads_back.specs.ReadAs.{IsTold, is_vararg}
use Rattle.reads_back.specs.Stepped.{StepStands}
use Rattle.reads_back.specs.Through.{BodyThrough}
use Rattle.reads_back.proofs.FlowWhole.{tree_of, whole_of}
use Rattle.reads_back.proofs.InnerNames.{AreKnown}
use Rattle.reads_back.proofs.InnerChunks.{AreNamedBy}
use Rattle.reads_back.proofs.MadeWhole.{IsMadeWhole}
use Rattle.reads_back.proofs.StatementsStand.{laid_stand}
use Rattle.reads_back.proofs.SameChunks.{as_many_lines, as_many_upvalues, own_of_same, takes_further}
use Rattle.reads_back.proofs.WordsRead.{IsFunction}
use Rattle.recovers.specs.Joined.{IsJoined, IsJoinedPart}

-- a function with these parameters and this block, on one line, whose upvalues have these names; its chunk is what is made but for the numbers of lines
pub record IsFlowHere (n : Names) (heading : Heading) (params : List Text) (block : Statements) (names : List Text) (ahead : Ahead) (chunk : Chunk) : Type 0 where
  pub joined : IsJoined params block
  pub good : are_names params ≡ true
  pub known : AreKnown n
  pub named : AreNamedBy n (whole_of params names ahead block).upvalue_names
  pub behind : Ahead
  pub at : FunctionAt (Some n) params heading.vararg (λ g. StatementsAt g None block) ahead behind (chunk_of heading (whole_of params names ahead block))
  pub through : BodyThrough (asking n (fn_of (whole_of params names ahead block))) (whole_of params names ahead block) None block (begun_of params names ahead)
  pub final : Final 0 (tree_of params names ahead block) (whole_of params names ahead block)
  pub same : SameButLines chunk (chunk_of heading (whole_of params names ahead block))
  pub short : length (own chunk).code < 2 ^ 32

module _ {n : Names} {heading : Heading} {params : List Text} {block : Statements} {names : List Text} {ahead : Ahead} {chunk : Chunk} (fewest : Bool) (of : IsFlowHere n heading params block names ahead chunk) where
  abbrev pub z : Maker
  z = whole_of params names ahead block

  abbrev pub g : Fn
  g = asking n (fn_of z)

  pub same_own : no_lines (own chunk) ≡ no_lines (own (chunk_of heading z))
  same_own = own_of_same chunk (chunk_of heading z) of.same

  pub words_count : length (own chunk).code ≡ suc (length (tree_of params names ahead block).items)
  words_count = ap (λ (own : Own). length own.code) same_own ∙ words_length z.labels 0 z.items ∙ length_end (tree_of params names ahead block).items (record { line = 1; piece = Piece.Abc Op.Return 0 1 0 })

  -- it tells the line of each word and the name of each upvalue, and whether it takes further arguments
  pub is_told : IsTold (own chunk)
  is_told = record {
    lines =
        sym (length-map (own chunk).lines (λ line. 0))
        ∙ ap (λ (own : Own). length own.lines) same_own
        ∙ length-map (own (chunk_of heading z)).lines (λ line. 0)
        ∙ as_many_lines z.labels 0 z.items
        ∙ sym (ap (λ (own : Own). length own.code) same_own);
    names = ap (λ (own : Own). length own.upvalue_names) same_own ∙ sym (ap (λ (own : Own). own.upvalues) same_own);
  }

  pub further_taken : is_vararg (own chunk) ≡ heading.vararg
  further_taken = ap (λ (own : Own). not (own.flags == 0)) same_own ∙ takes_further heading.vararg

  -- ---- its words

  abbrev pub f : Function
  f = as_function chunk fewest (length (own chunk).code - 1)

  pub last_is : f.last ≡ length (tree_of params names ahead block).items
  last_is = omega (arith, words_count)

  pub is_function : IsFunction f g
  is_function = record {
    names = n;
    law = refl;
    code = ap (λ (own : Own). own.code) same_own;
    constants = ap (λ (own : Own). own.constants) same_own;
    upvalues = as_many_upvalues chunk (chunk_of heading z) of.same;
    told = ap (λ (own : Own). own.upvalue_names) same_own;
    short = omega (arith, of.short);
    few = of.at.limits.registers;
  }

  pub is_made : IsMadeWhole f g z
  is_made = record {
    is_function = is_function;
    names = n;
    law = refl;
    known = of.known;
    named = λ text slot is. ap (λ (own : Own). as_name (slice_get own.upvalue_names slot)) same_own ∙ of.named text slot is;
    constants = refl;
    upvalues = refl;
    few = of.at.limits.constants;
  }

  -- ---- its steps

  abbrev Joined : Part → Type 0
  Joined part = IsJoinedPart (space_of_statements block) part

  abbrev pub steps_there : (code : Steps) × (code.params ≡ params) × AreLaid code params names ahead block × ((at : ℕ) (part : Part) → part_at code at ≡ Some part → Joined part) × (length code.parts ≡ length code.steps)
  steps_there = blocks_are_laid Joined (record { plain = tt; flow = tt; formed = tt; roomy = tt }) params names ahead block of.joined.again of.joined.parts

  abbrev named_there : (steps : List Step) × AreStepsLoose steps_there.0.steps steps × ClosesTell (record steps_there.0 { steps = steps }) params names ahead
  named_there = closes_may_tell steps_there.0 params names ahead

  abbrev pub code : Steps
  code = record steps_there.0 { steps = named_there.0 }

  pub laid : AreLaid code params names ahead block
  laid = laid_on_loose_steps steps_there.0 named_there.0 named_there.1 params names ahead block steps_there.2

  pub closes : ClosesTell code params names ahead
  closes = named_there.2

  pub each_part : (at : ℕ) (part : Part) → part_at code at ≡ Some part → Joined part
  each_part = steps_there.3

  pub parts_count : length code.parts ≡ length code.steps
  parts_count = steps_there.4 ∙ sym named_there.1.count

  pub plain : HasPlainParts code
  plain at part there = (each_part at part there).plain

  pub stand : (at : ℕ) → StepStands g code params names ahead at
  stand = laid_stand code plain params names ahead block laid g z refl of.through
