-- The main function of a source with blocks stands among its words, and is read, whatever was found of the functions in it. None of these is lost, and it and they tell what is asked.
use Rattle.std.proofs.Common.{◌≡◌, ◌∙◌, ℕ, Bool, true, List, [], Option, Some, refl, sym, arith}
use Rattle.lua_tree.specs.OneLine.{on_one_line}
use Rattle.lua_tree.specs.Resolved.{resolved}
use Rattle.lua_tree.specs.Scoping.{Scoped}
use Rattle.lua_tree.specs.Syntax.{Source}
use Rattle.lua_tree.specs.WellFormed.{WellFormed, depth_of_statements}
use Rattle.core_expr.specs.Values.{Inner}
use Rattle.proto.specs.Chunk.{Own, Functions, function}
use Rattle.proto.specs.Short.{IsShort}
use Rattle.recover_flow.specs.Debug.{FirstUntold}
use Rattle.recover_flow.specs.Recovering.{AreFound, IsOneLost}
use Rattle.scheme.specs.Functions.{Heading}
use Rattle.scheme.specs.Making.{Ahead}
use Rattle.scheme.specs.Scheme.{Fits, ahead_of}
use Rattle.scheme_lines.proofs.Again.{bare_again}
use Rattle.scheme_lines.specs.Alike.{AreAlike, SemicolonsDoNotMatter}
use Rattle.scheme_stands.proofs.Makers.{block_final, no_names}
use Rattle.reads_back.proofs.FlowPlaced.{AreCapturedLike}
use Rattle.reads_back.proofs.InnerNames.{none_known}
use Rattle.reads_back.proofs.MainCaptured.{main_captured}
use Rattle.reads_back.proofs.ThroughFunctions.{NamesStand, main_through}
use Rattle.recovers.specs.EverFound.{IsEverFound}
use Rattle.recovers.specs.FlowSources.{IsFlowChunk}
use Rattle.recovers.specs.Joined.{IsFlowRead, IsJoined}
use Rattle.recovers.proofs.EverFound.{each_found, each_never_lost, each_told}
use Rattle.recovers.proofs.FlowHere.{IsFlowHere}
use Rattle.recovers.proofs.FlowLikes.{FlowLaws}
use Rattle.recovers.proofs.FlowStepsRead.{flow, takes}
use Rattle.recovers.proofs.FoundLefts.{EachOf}
use Rattle.recovers.proofs.JoinedBlocks.{on_one_line_joined}
use Rattle.recovers.proofs.OneLineBlocks.{block_as_deep, block_formed}
use Rattle.recovers.proofs.ReadHere.{left_here, none_lost_inside, none_untold_here, read_here}

module _ (stand : NamesStand) (semicolons : SemicolonsDoNotMatter) (mine : Own) (functions : Functions)
    (of : IsFlowChunk (function mine functions)) (short : IsShort (function mine functions)) where
  -- ---- the source on one line

  abbrev plain_source : Source
  plain_source = on_one_line of.source

  alike : AreAlike of.source plain_source
  alike = semicolons of.source plain_source (sym (bare_again of.source))

  formed_plain : WellFormed plain_source
  formed_plain =
      let depth : depth_of_statements plain_source.body ≡ depth_of_statements of.source.body = block_as_deep of.source.body in
      let shallow = of.formed.shallow in
      record { formed = block_formed of.source.body of.formed.formed; shallow = omega (arith, depth, shallow) }

  scoped_plain : Scoped plain_source
  scoped_plain = alike.scoped of.scoped

  fits_plain : Fits plain_source
  fits_plain = alike.fits of.fits

  abbrev begins_with : Ahead
  begins_with = ahead_of (resolved plain_source)

  abbrev heading : Heading
  heading = record { source = Some of.name; first_line = 0; last_line = 0; params = 0; vararg = true }

  joined_block : IsJoined [] plain_source.body
  joined_block = on_one_line_joined of.deep [] of.source.body of.formed.formed of.formed.shallow of.blocks of.ordered of.room

  main_here : IsFlowHere no_names heading [] plain_source.body [] begins_with (function mine functions)
  main_here =
      let main = stand plain_source of.name formed_plain scoped_plain fits_plain in
      record {
        joined = joined_block;
        good = refl;
        known = none_known;
        named = λ text slot is. cc;
        behind = main.0;
        at = main.1;
        through = main_through plain_source formed_plain scoped_plain fits_plain;
        final = block_final plain_source fits_plain;
        same = of.same ∙ alike.same of.name;
        short = short.0.code;
      }

  -- ---- what it tells

  pub main_told : (path : List ℕ) → FirstUntold (function mine functions) path → ⊥
  main_told = none_untold_here main_here (each_told functions short.2)

  -- ---- what is read of it

  module _ (laws : FlowLaws) where
    pub none_lost_in_main : IsOneLost true 1 functions → ⊥
    none_lost_in_main = none_lost_inside main_here (each_never_lost laws functions short.2) 0 (omega (arith, joined_block.room))

    module _ (fewest : Bool) (left : List (Option Inner)) (are : AreFound fewest functions left) where
      abbrev each : EachOf (IsEverFound fewest) functions
      each = each_found laws fewest functions short.2

      -- in the end the reader's list has those locals captured that the source captures
      captured_there : AreCapturedLike (flow fewest main_here (left_here main_here fewest each left are).are) (takes fewest main_here)
      captured_there = main_captured plain_source (flow fewest main_here (left_here main_here fewest each left are).are) (takes fewest main_here) joined_block.formed (λ place. refl)

      pub main_read : IsFlowRead fewest (function mine functions) left [] [] begins_with plain_source.body
      main_read = (read_here main_here fewest each left are laws captured_there).read
