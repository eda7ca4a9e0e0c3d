-- What is found of a short chunk stands for its body, whatever plain function it stands as. In the forms of fewest levels it is not lost where there is room; and it tells what is asked of it.
use Rattle.std.proofs.Common.{zero, suc, Bool, true, subst, arith, inl, inr}
use Rattle.std.proofs.lemmas.Option.{same_Some}
use Rattle.lua_tree.specs.Syntax.{FunctionBody, function_body}
use Rattle.proto.specs.Chunk.{Own, Chunk, Functions, and_function, function, no_functions, own}
use Rattle.proto.specs.Short.{AreShort, HasShortLists, IsShort}
use Rattle.recovers.specs.EverFound.{IsEverFound, IsEverTold, IsNeverLost}
use Rattle.recovers.specs.Joined.{IsFoundAs}
use Rattle.recovers.proofs.FlowHere.{further_taken}
use Rattle.recovers.proofs.FlowLikes.{FlowLaws}
use Rattle.recovers.proofs.FoundBody.{found_as, read_recovered}
use Rattle.recovers.proofs.FoundLefts.{EachOf}
use Rattle.recovers.proofs.InnerFlow.{inner_here, inner_read, on_line}
use Rattle.recovers.proofs.ReadHere.{none_lost_inside, none_untold_here}

-- ---- a function, where so it is with each function in it

module _ (mine : Own) (functions : Functions) (lists : HasShortLists mine) where
  body_found : FlowLaws → (short : Bool) → EachOf (IsEverFound short) functions → IsEverFound short (function mine functions)
  body_found laws short ever found (left, are, is) (function_body params vararg block first last) method n before behind made stands =
      let here = inner_here lists stands in
      let one = inner_read lists stands short ever left are laws in
      subst (λ (body : FunctionBody). IsFoundAs short body method (own made).upvalue_names before found) (on_line lists stands)
      (found_as params vararg block method here.good (further_taken short here) one.read one.params_are found is)

  body_not_lost : FlowLaws → EachOf (IsEverFound true) functions → EachOf IsNeverLost functions → IsNeverLost (function mine functions)
  body_not_lost laws ever never depth (function_body params vararg block first last) method n before behind made stands few (inl many) = absurd (omega (arith, few, many))
  body_not_lost laws ever never depth (function_body params vararg block first last) method n before behind made stands few (inr (inl one)) =
      none_lost_inside (inner_here lists stands) never depth few one
  body_not_lost laws ever never depth (function_body params vararg block first last) method n before behind made stands few (inr (inr (left, are, unrecovered))) =
      read_recovered (inner_read lists stands true ever left are laws).read unrecovered

  body_told : EachOf IsEverTold functions → IsEverTold (function mine functions)
  body_told ever (function_body params vararg block first last) method n before behind made stands path untold = none_untold_here (inner_here lists stands) ever path untold

-- ---- at every depth

mutual
  ever_found : FlowLaws → (short : Bool) (chunk : Chunk) → IsShort chunk → IsEverFound short chunk
  ever_found laws short (function mine functions) lists = body_found mine functions lists.0 laws short (each_found laws short functions lists.2)

  pub each_found : FlowLaws → (short : Bool) (functions : Functions) → AreShort functions → EachOf (IsEverFound short) functions
  each_found laws short no_functions lists number c is = cc
  each_found laws short (and_function d rest) lists zero c is = subst (IsEverFound short) (same_Some d c is) (ever_found laws short d lists.0)
  each_found laws short (and_function d rest) lists (suc number) c is = each_found laws short rest lists.1 number c is

mutual
  never_lost : FlowLaws → (chunk : Chunk) → IsShort chunk → IsNeverLost chunk
  never_lost laws (function mine functions) lists =
      body_not_lost mine functions lists.0 laws (each_found laws true functions lists.2) (each_never_lost laws functions lists.2)

  pub each_never_lost : FlowLaws → (functions : Functions) → AreShort functions → EachOf IsNeverLost functions
  each_never_lost laws no_functions lists number c is = cc
  each_never_lost laws (and_function d rest) lists zero c is = subst IsNeverLost (same_Some d c is) (never_lost laws d lists.0)
  each_never_lost laws (and_function d rest) lists (suc number) c is = each_never_lost laws rest lists.1 number c is

mutual
  ever_told : (chunk : Chunk) → IsShort chunk → IsEverTold chunk
  ever_told (function mine functions) lists = body_told mine functions lists.0 (each_told functions lists.2)

  pub each_told : (functions : Functions) → AreShort functions → EachOf IsEverTold functions
  each_told no_functions lists number c is = cc
  each_told (and_function d rest) lists zero c is = subst IsEverTold (same_Some d c is) (ever_told d lists.0)
  each_told (and_function d rest) lists (suc number) c is = each_told rest lists.1 number c is
