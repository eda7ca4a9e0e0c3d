-- The words of a function whose statements with blocks stand among them are read as steps like its own, where the reader's list has those locals captured in the end that the source captures.
use Rattle.std.proofs.Common.{subst, ◌≡◌, ◌∙◌, ℕ, ◌-◌, ◌<◌, suc, Bool, true, List, [], length, map, None, Option, Some, ap, arith, if◌then◌else◌, sym}
use Rattle.std.specs.Prelude.{option_and_then, slice_get}
use Rattle.lua_num.specs.Bytes.{Text}
use Rattle.lua_tree.specs.Outline as outline
use Rattle.lua_tree.specs.Syntax.{Statements}
use Rattle.opcode.specs.Reading.{instr_of}
use Rattle.proto.specs.Chunk.{Own, Chunk, function_count, functions, own}
use Rattle.core_expr.specs.Values.{Inner}
use Rattle.recover_expr.specs.Drafts.{Drafted, Part, nothing_part, statement_part, values_part, condition_part, head_part}
use Rattle.recover_expr.specs.Items.{is_so}
use Rattle.recover_expr.specs.Placing.{Steps}
use Rattle.recover_expr.specs.Reading.{ends_code, function_steps, left_at, read_steps}
use Rattle.recover_expr.specs.Situation.{is_return, instr_at}
use Rattle.scheme.specs.Functions.{Heading, chunk_of}
use Rattle.scheme.specs.Making.{Ahead}
use Rattle.scheme_stands.specs.Words.{Names, instr_by}
use Rattle.opcode.specs.declared.op.Op.{Op}
use Rattle.scheme.specs.declared.making.Piece.{Piece}
use Rattle.reads_back.proofs.WordsBegin.{instr_is}
use Rattle.same_flow.specs.Space.{space_of_statements}
use Rattle.reads_back.specs.Placed.{ArePlacedLike}
use Rattle.reads_back.proofs.FlowBegins.{params_behind}
use Rattle.reads_back.proofs.FlowDrafts.{FlowRead}
use Rattle.reads_back.proofs.EachMade.{IsMadeAt}
use Rattle.reads_back.proofs.FlowFinal.{placed_maker, same_functions}
use Rattle.reads_back.proofs.FlowMade.{HasRoomyPart, flow_made}
use Rattle.reads_back.proofs.FlowPlaced.{AreCapturedLike, placed_in_end, read, steps_in_end}
use Rattle.reads_back.proofs.FlowThere.{IsFlowBy, IsFlowFunction}
use Rattle.reads_back.proofs.InnerChunks.{count_same, counted}
use Rattle.reads_back.proofs.FlowWhole.{IsWholeBy, whole_flow}
use Rattle.reads_back.proofs.PlacedReads.{ArePlaced, placed_flow}
use Rattle.reads_back.proofs.ActsKnown.{AreLeft}
use Rattle.reads_back.proofs.SameChunks.{activated_count, declared_count, inner_same}
use Rattle.reads_back.proofs.WordsRead.{abc_is_read}
use Rattle.recovers.specs.Joined.{IsRoomyPart}
use Rattle.recovers.proofs.FlowHere.{IsFlowHere, closes, code, each_part, f, g, is_function, is_made, laid, last_is, plain, same_own, stand, words_count, z}

roomy_part : (most : ℕ) (part : Part) → IsRoomyPart most part → HasRoomyPart most part
roomy_part most nothing_part roomy = roomy
roomy_part most (statement_part s) roomy = roomy
roomy_part most (values_part es) roomy = roomy
roomy_part most (condition_part e) roomy = roomy
roomy_part most (head_part es names) roomy = roomy

module _ {n : Names} {heading : Heading} {params : List Text} {block : Statements} {names : List Text} {ahead : Ahead} {chunk : Chunk} (fewest : Bool) (of : IsFlowHere n heading params block names ahead chunk) where
  pub takes : (f fewest of).of.params ≡ length params
  takes = ap (λ (own : Own). own.params) (same_own fewest of) ∙ of.at.param_count

  ends : ends_code (own chunk) ≡ true
  ends =
      let returns : Option ℕ → Bool = λ word. is_so (is_return 0 1) (option_and_then instr_of word) in
      let last : length (own chunk).code - 1 ≡ of.at.mid.pc = omega (arith, of.at.ends, of.at.end.next, ap (λ (own : Own). length own.code) (same_own fewest of)) in
      ap (λ pc. returns (slice_get (own chunk).code pc)) last
      ∙ ap (λ (own : Own). returns (slice_get own.code of.at.mid.pc)) (same_own fewest of)
      ∙ ap returns of.at.end.has
      ∙ ap (is_so (is_return 0 1)) (abc_is_read (is_function fewest of) of.at.end)

  whole : {Left : Type 0} → Left → IsWholeBy Left (f fewest of) (g fewest of) (code fewest of) params names ahead block
  whole left =
      record {
        made = is_made fewest of;
        left = left;
        plain = plain fewest of;
        laid = laid fewest of;
        stand = stand fewest of;
        flow = λ at part there. (each_part fewest of at part there).flow;
        closes = closes fewest of;
        good = of.good;
        listed = ap (λ (own : Own). own.locals) (same_own fewest of);
        last = last_is fewest of;
        returns =
            let last : (f fewest of).last ≡ of.at.mid.pc = omega (arith, of.at.ends, of.at.end.next, ap (λ (own : Own). length own.code) (same_own fewest of)) in
            subst (λ pc. instr_at (f fewest of) pc ≡ Some (instr_by pc (Piece.Abc Op.Return 0 1 0))) (sym last) (instr_is (is_function fewest of) of.at.end (abc_is_read (is_function fewest of) of.at.end));
        room = omega (arith, of.at.room, activated_count of.at.locals [] of.at.active of.at.activated, declared_count params ahead of.at.first.ahead of.at.locals of.at.declared);
        high = omega arith;
        final = of.final;
      }

  -- ---- the functions in it

  alone : IsFlowBy (Unit {0}) (f fewest of) (g fewest of) (placed_maker (code fewest of) (plain fewest of) params names ahead) (code fewest of) params names ahead block
  alone = whole_flow (whole tt)

  -- each is made by one of its steps, with less room than its statements
  pub each_is_made : (number : ℕ) → number < function_count (functions chunk) → IsMadeAt (f fewest of) (g fewest of) 200 (space_of_statements block) number
  each_is_made number within =
      let made = functions (chunk_of heading (z fewest of)) in
      let same = count_same (functions chunk) made (inner_same chunk (chunk_of heading (z fewest of)) of.same) in
      let count = counted (z fewest of).functions in
      let placed : length (z fewest of).functions ≡ length (placed_maker (code fewest of) (plain fewest of) params names ahead).functions =
      ap (λ (functions : List Chunk). length functions) (same_functions (code fewest of) (plain fewest of) params names ahead block (laid fewest of)) in
      flow_made (space_of_statements block) alone (λ at part there. roomy_part (space_of_statements block) part (each_part fewest of at part there).roomy) number (omega (arith, within, same, count, placed))

  -- ---- with what is left of them

  module _ {lefts : ℕ → List (Option Inner)} {parts : ℕ → outline.Part} (left : AreLeft (f fewest of) (g fewest of) lefts parts) where
    pub flow : IsFlowFunction (f fewest of) (g fewest of) (placed_maker (code fewest of) (plain fewest of) params names ahead) lefts parts (code fewest of) params names ahead block
    flow = whole_flow (whole left)

    -- the drafts of its words
    abbrev pub drafts_read : FlowRead flow (left_at (f fewest of) 0 (params_behind flow takes))
    drafts_read = read flow takes

    code_ends : length (f fewest of).of.code ≡ suc (f fewest of).last
    code_ends = omega (arith, words_count fewest of)

    -- where in the end its list has those locals captured that the source captures
    module _ (captured : AreCapturedLike flow takes) where
      pub are_placed : ArePlacedLike (code fewest of) params (f fewest of) drafts_read.behind.scope drafts_read.drafts
      are_placed = placed_in_end flow takes captured code_ends

      -- the steps that are read
      abbrev pub steps : Steps
      steps = record { params = params; steps = are_placed.steps; parts = map (λ (draft : Drafted). draft.part) drafts_read.drafts }

      pub placed : ArePlaced flow steps
      placed = placed_flow flow drafts_read drafts_read.behind.scope are_placed

      pub is_read : read_steps chunk (lefts 0) fewest ≡ Some steps
      unfolding are_placed
      is_read = ap (λ ends. if ends then function_steps (lefts 0) (f fewest of) else None) ends ∙ steps_in_end flow takes captured code_ends
