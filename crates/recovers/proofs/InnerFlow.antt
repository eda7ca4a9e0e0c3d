-- A plain function that stands in another stands among its words, and is read, whatever was found of the functions in it.
use Rattle.std.proofs.Common.{◌≡◌, ◌∙◌, ℕ, Bool, true, false, List, length, None, Option, Some, refl, sym, ap, subst}
use Rattle.lua_num.specs.Bytes.{Text}
use Rattle.lua_tree.specs.Names.{are_names}
use Rattle.lua_tree.specs.OneLine.{one_line_body}
use Rattle.lua_tree.specs.Outline.{all_params, body_part}
use Rattle.lua_tree.specs.Syntax.{FunctionBody, Statements, function_body}
use Rattle.lua_tree.specs.WellFormed.{formed_body, formed_statements}
use Rattle.core_expr.specs.Values.{Inner}
use Rattle.proto.specs.Chunk.{Own, Chunk, Functions, each, function, no_lines, own}
use Rattle.proto.specs.Short.{HasShortLists}
use Rattle.recover_flow.specs.Recovering.{AreFound}
use Rattle.scheme.specs.Functions.{Finished, Heading, chunk_of}
use Rattle.scheme.specs.Making.{Ahead}
use Rattle.scheme.specs.Scheme.{statements_made}
use Rattle.scheme_stands.proofs.Every.{statements_at}
use Rattle.scheme_stands.proofs.Statements.{grow_statements}
use Rattle.scheme_stands.proofs.Whole.{statements_final}
use Rattle.scheme_stands.specs.Functions.{FunctionAt}
use Rattle.scheme_stands.specs.Placed.{IsPlaced}
use Rattle.scheme_stands.specs.Relation.{StatementsAt}
use Rattle.scheme_stands.specs.Words.{Names}
use Rattle.reads_back.specs.Assignments.{with_self}
use Rattle.reads_back.proofs.FlowPlaced.{AreCapturedLike}
use Rattle.reads_back.proofs.FlowWhole.{whole_of}
use Rattle.reads_back.proofs.InnerNames.{placed_known}
use Rattle.reads_back.proofs.InnerChunks.{AreNamedBy}
use Rattle.reads_back.proofs.SomeNames.{good_params}
use Rattle.reads_back.proofs.Tests.{first_of_both, second_of_both}
use Rattle.reads_back.proofs.ThroughFunctions.{function_through}
use Rattle.recovers.specs.EverFound.{IsEverFound, StandsAs}
use Rattle.recovers.proofs.FlowHere.{IsFlowHere}
use Rattle.recovers.proofs.FlowLikes.{FlowLaws}
use Rattle.recovers.proofs.FlowStepsRead.{flow, takes}
use Rattle.recovers.proofs.FoundLefts.{EachOf}
use Rattle.recovers.proofs.JoinedBlocks.{plain_are_joined}
use Rattle.recovers.proofs.InnerCaptured.{inner_captured}
use Rattle.recovers.proofs.ReadHere.{IsReadHere, left_here, read_here}
use Rattle.recovers.proofs.StandsApart.{function_alone}

-- ---- a method, which has `self` among its parameters

self_again : (method : Bool) (body : FunctionBody) → one_line_body (with_self method body) ≡ with_self method body → one_line_body body ≡ body
self_again true (function_body params vararg block first last) same = cc
self_again false body same = same

self_formed : (method : Bool) (body : FunctionBody) → formed_body (with_self method body) ≡ true → formed_body body ≡ true
self_formed true (function_body params vararg block first last) formed = formed
self_formed false body formed = formed

-- ---- a function

module _ {mine : Own} {functions : Functions} (lists : HasShortLists mine)
    {params : List Text} {vararg : Bool} {block : Statements} {first last : ℕ} {method : Bool} {n : Names} {before behind : Ahead} {made : Chunk}
    (stands_so : StandsAs (function mine functions) (function_body params vararg block first last) method n before behind made) where
  abbrev body : FunctionBody
  body = function_body params vararg block 1 1

  abbrev texts : List Text
  texts = all_params method params

  abbrev names : List Text
  names = (own made).upvalue_names

  abbrev heading : Heading
  heading = record { source = None; first_line = 1; last_line = 1; params = length texts; vararg = vararg }

  pub on_line : body ≡ function_body params vararg block first last
  on_line = let same = self_again method (function_body params vararg block first last) stands_so.plain.on_line in cc

  stands : StandsAs (function mine functions) body method n before behind made
  stands = subst (λ (body : FunctionBody). StandsAs (function mine functions) body method n before behind made) (sym on_line) stands_so

  formed_block : formed_statements block ≡ true
  formed_block = second_of_both (are_names params) _ (self_formed method body stands.plain.formed)

  made_is : made ≡ chunk_of heading (whole_of texts names before block)
  made_is = sym (ap (λ (made : Finished). made.chunk) stands.at.is)

  pub inner_here : IsFlowHere n heading texts block names before (function mine functions)
  inner_here = record {
    joined = plain_are_joined method params vararg block stands.plain stands.shallow;
    good = good_params method params (first_of_both _ _ (self_formed method body stands.plain.formed));
    known = placed_known (body_part method body) n before stands.at.placed;
    named = subst (AreNamedBy n) (ap (λ (made : Chunk). (own made).upvalue_names) made_is) stands.named;
    behind = behind;
    at = subst (λ c. FunctionAt (Some n) texts vararg (λ g. StatementsAt g None block) before behind c) made_is stands.at.at;
    through = function_through body method formed_block n before behind made stands.at;
    final =
        statements_final heading 1 texts (statements_made block None) (λ f. StatementsAt f None block) (grow_statements block None) (λ z. statements_at z block None) refl names before
        (ap (λ (made : Finished). made.misfits) stands.at.is);
    same = stands.same ∙ ap (each no_lines) made_is;
    short = lists.code;
  }

  module _ (short : Bool) (ever : EachOf (IsEverFound short) functions) (left : List (Option Inner)) (are : AreFound short functions left) where
    -- in the end the reader's list has those locals captured that the source captures
    captured_inside : AreCapturedLike (flow short inner_here (left_here inner_here short ever left are).are) (takes short inner_here)
    captured_inside =
        let there : IsPlaced (body_part method body) n before = stands.at.placed in
        inner_captured there.all method params vararg block 1 1 there.place there.rest (record { pc = 0; ahead = there.ahead; functions = 0 }) there.here
        before there.before_is block formed_block (λ place. refl) (function_alone method body there.here.apart)
        (flow short inner_here (left_here inner_here short ever left are).are) (takes short inner_here)

    pub inner_read : FlowLaws → IsReadHere short (function mine functions) left texts names before block
    inner_read laws = read_here inner_here short ever left are laws captured_inside
