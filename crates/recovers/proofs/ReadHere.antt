-- A function that stands among its words is read, whatever was found of the functions in it, where that stands for their bodies. None of these is lost where none ever is, and so they tell.
use Rattle.std.proofs.Common.{◌≡◌, ◌+◌, ◌≤◌, ℕ, zero, suc, Bool, true, false, List, [], ◌∷◌, Option, refl, ap, subst, arith, inl, inr}
use Rattle.lua_num.specs.Bytes.{Text}
use Rattle.lua_tree.specs.Syntax.{Statements}
use Rattle.proto.specs.Chunk.{Own, Chunk, Functions, and_function, each_of, function, no_functions, no_lines}
use Rattle.core_expr.specs.Values.{Inner}
use Rattle.recover_flow.specs.Debug.{FirstUntold, FirstUntoldIn}
use Rattle.recover_flow.specs.Recovering.{AreFound, IsOneLost}
use Rattle.scheme.specs.Functions.{Heading, chunk_of}
use Rattle.scheme.specs.Making.{Ahead}
use Rattle.scheme_stands.specs.Words.{Names}
use Rattle.same_flow.specs.Space.{around_body, space_of_statements}
use Rattle.reads_back.proofs.FlowPlaced.{AreCapturedLike}
use Rattle.reads_back.proofs.PlainValues.{plain_left}
use Rattle.reads_back.proofs.Rooms.{body_room}
use Rattle.reads_back.proofs.SameChunks.{inner_same}
use Rattle.recovers.specs.EverFound.{IsEverFound, IsEverTold, IsNeverLost}
use Rattle.recovers.specs.Joined.{IsFlowRead}
use Rattle.recovers.proofs.FlowHere.{IsFlowHere, f, g, is_made, is_told, same_own, z}
use Rattle.recovers.proofs.FlowLikes.{FlowLaws, flow_is_read, flow_params}
use Rattle.recovers.proofs.FlowStepsRead.{each_is_made, flow, takes}
use Rattle.recovers.proofs.FoundLefts.{EachOf, FunctionsFoundLeft, StandsWithin, each_stands, found_left}

-- it is read with these parameters
pub record IsReadHere (short : Bool) (chunk : Chunk) (left : List (Option Inner)) (params names : List Text) (ahead : Ahead) (block : Statements) : Type 0 where
  pub read : IsFlowRead short chunk left params names ahead block
  pub params_are : read.steps.params ≡ params

-- ---- functions each of which stands as one with less room than so much

-- none is lost where none ever is, and the functions around them leave so much room
none_lost : (limit depth : ℕ) (functions : Functions) → EachOf (StandsWithin limit) functions → EachOf IsNeverLost functions →
    depth + limit ≤ 200 → IsOneLost true (suc depth) functions → ⊥
none_lost limit depth no_functions stands never few one = absurd one
none_lost limit depth (and_function c rest) stands never few (inl lost) =
    let at = stands 0 c refl in
    never 0 c refl (suc depth) at.body at.method at.n at.before at.behind at.made at.stands (omega (arith, few, at.roomy)) lost
none_lost limit depth (and_function c rest) stands never few (inr one) =
    none_lost limit depth rest (λ number c is. stands (suc number) c is) (λ number c is. never (suc number) c is) few one

-- each tells what is asked of it where it ever does
none_untold : (limit : ℕ) (functions : Functions) → EachOf (StandsWithin limit) functions → EachOf IsEverTold functions →
    (number : ℕ) (path : List ℕ) → FirstUntoldIn functions number path → ⊥
none_untold limit no_functions stands ever number path untold = absurd untold
none_untold limit (and_function c rest) stands ever zero path untold = let at = stands 0 c refl in ever 0 c refl at.body at.method at.n at.before at.behind at.made at.stands path untold
none_untold limit (and_function c rest) stands ever (suc number) path untold =
    none_untold limit rest (λ number c is. stands (suc number) c is) (λ number c is. ever (suc number) c is) number path untold.1

module _ {n : Names} {heading : Heading} {params : List Text} {block : Statements} {names : List Text} {ahead : Ahead} {mine : Own} {functions : Functions}
    (here : IsFlowHere n heading params block names ahead (function mine functions)) where
  -- ---- the functions in it

  all_same : (short : Bool) → each_of no_lines functions ≡ each_of no_lines (g short here).functions
  all_same short = inner_same (function mine functions) (chunk_of heading (z short here)) here.same

  names_told : (short : Bool) → (f short here).of.upvalue_names ≡ (g short here).upvalue_names
  names_told short = ap (λ (own : Own). own.upvalue_names) (same_own short here)

  -- each stands as one with less room than its statements
  stands_inside : EachOf (StandsWithin (space_of_statements block)) functions
  stands_inside = each_stands (space_of_statements block) functions (is_made false here) (names_told false) (all_same false) (each_is_made false here)

  pub none_lost_inside : EachOf IsNeverLost functions → (depth : ℕ) → depth + around_body block (space_of_statements block) ≤ 200 → IsOneLost true (suc depth) functions → ⊥
  none_lost_inside never depth few = none_lost (space_of_statements block) depth functions stands_inside never (omega (arith, few, body_room params heading.vararg block 1 1))

  -- it and they tell what is asked of them
  pub none_untold_here : EachOf IsEverTold functions → (path : List ℕ) → FirstUntold (function mine functions) path → ⊥
  none_untold_here ever [] untold = let told = is_told false here in untold (record { lines = told.lines; names = told.names })
  none_untold_here ever (number ∷ path) untold = none_untold (space_of_statements block) functions stands_inside ever number path untold.1

  -- ---- its words

  module _ (short : Bool) (ever : EachOf (IsEverFound short) functions) (left : List (Option Inner)) (are : AreFound short functions left) where
    pub left_here : FunctionsFoundLeft (f short here) (g short here) left
    left_here = found_left (space_of_statements block) functions (is_made short here) (names_told short) (all_same short) (each_is_made short here) short left are ever refl

    -- where in the end the reader's list has those locals captured that the source captures
    pub read_here : FlowLaws → AreCapturedLike (flow short here left_here.are) (takes short here) → IsReadHere short (function mine functions) left params names ahead block
    read_here laws captured =
        let those = left_here in
        let plain = plain_left those.lefts those.are.fine in
        subst (λ (left : List (Option Inner)). IsReadHere short (function mine functions) left params names ahead block) those.left_is
        (record { read = flow_is_read laws short here those.are plain captured; params_are = flow_params laws short here those.are plain captured })
