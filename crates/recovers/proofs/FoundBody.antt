-- What is found of a function whose words are read stands for its body: it makes the same function, says the same but for breaks, and is fine. In the forms of fewest levels something is found of it.
use Rattle.std.proofs.Common.{◌≡◌, ◌≤◌, ◌++◌, Bool, true, false, List, length, Option, None, refl, sym, ap, ap₂, ◌∙◌, subst, arith, inl, inr}
use Rattle.std.proofs.lemmas.Bool.{and_from}
use Rattle.std.proofs.lemmas.Bool.Decides.{nat_tests}
use Rattle.std.proofs.lemmas.Option.{none-some, same_Some, some_pair_parts}
use Rattle.lua_num.specs.Bytes.{Text}
use Rattle.lua_tree.specs.Names.{are_names}
use Rattle.lua_tree.specs.Outline.{Mark, Part, Place, all_params, body_part, both, come, declares, in_function, innermost, marked, opened, statements_part, within}
use Rattle.lua_tree.specs.Syntax.{FunctionBody, Statements, function_body}
use Rattle.lua_tree.specs.WellFormed.{depth_of_body, depth_of_statements, formed_body, formed_statements}
use Rattle.proto.specs.Chunk.{Chunk, own}
use Rattle.core_expr.specs.Values.{Inner}
use Rattle.recover_expr.specs.Placing.{Steps}
use Rattle.recover_flow.specs.Built.{built_body}
use Rattle.recover_flow.specs.Plans.{Plans, body_levels}
use Rattle.recover_flow.specs.Recovering.{IsFunctionFound, IsUnrecovered, StandsNowhere}
use Rattle.recover_flow.specs.Searching.{whole_body}
use Rattle.recover_flow.specs.Standing.{BodyStands}
use Rattle.scheme.specs.Functions.{Heading}
use Rattle.scheme.specs.Making.{Ahead}
use Rattle.scheme.specs.Scheme.{inner}
use Rattle.scheme.specs.Shapes.{plain_body}
use Rattle.same_flow.proofs.Breaks.{breaks_append}
use Rattle.same_flow.specs.SameMarks.{but_breaks}
use Rattle.same_flow.specs.Space.{around_body, space_of_statements}
use Rattle.reads_back.specs.ReadAs.{is_vararg}
use Rattle.reads_back.proofs.Marks.{SamePart, both_same, same_part}
use Rattle.reads_back.proofs.WrittenFormed.{IsFineFunction}
use Rattle.recovers.specs.Joined.{IsFlowRead, IsFoundAs, IsLike}

-- ---- parts that say the same but for breaks, with as many declarations and functions behind them

record AreAlike (a b : Part) : Type 0 where
  marks : (place : Place) → but_breaks (a place).marks ≡ but_breaks (b place).marks
  declarations : (place : Place) → (a place).next.declarations ≡ (b place).next.declarations
  functions : (place : Place) → (a place).next.functions ≡ (b place).next.functions

behind_alike : (first : Part) {a b : Part} → AreAlike a b → AreAlike (both first a) (both first b)
behind_alike first {a} {b} alike = record {
  marks = λ place.
      let next = (first place).next in
      breaks_append (first place).marks (a next).marks ∙ ap (λ (marks : List Mark). but_breaks (first place).marks ++ marks) (alike.marks next) ∙ sym (breaks_append (first place).marks (b next).marks);
  declarations = λ place. alike.declarations (first place).next;
  functions = λ place. alike.functions (first place).next;
}

-- in a part of its own only these are known behind it
within_alike : (enter : Place → Place) {a b : Part} → AreAlike a b → SamePart (within enter a) (within enter b)
within_alike enter {a} {b} alike = record {
  each = λ place.
      let there = enter place in
      ap (λ (marks : List Mark). record { marks = marks; next = record place { declarations = (a there).next.declarations; functions = (a there).next.functions } }) (alike.marks there)
      ∙ ap₂ (λ declarations functions. record { marks = but_breaks (b there).marks; next = record place { declarations = declarations; functions = functions } }) (alike.declarations there) (alike.functions there);
}

abbrev inside_part : (all : List Text) → Statements → Part
inside_part all block place = both (declares 1 0 all) (both (come 0 all place.declarations) (statements_part block)) place

module _ {params names : List Text} {before : Ahead} {block written : Statements} (like : IsLike params names before block written) where
  blocks_alike : AreAlike (statements_part written) (statements_part block)
  blocks_alike = record { marks = λ place. sym (like.marks place); declarations = λ place. sym (like.next place).0; functions = λ place. sym (like.next place).1 }

  inside_at : (all : List Text) (place : Place) → AreAlike (both (declares 1 0 all) (both (come 0 all place.declarations) (statements_part written))) (both (declares 1 0 all) (both (come 0 all place.declarations) (statements_part block)))
  inside_at all place = behind_alike (declares 1 0 all) (behind_alike (come 0 all place.declarations) blocks_alike)

  inside_alike : (all : List Text) → AreAlike (inside_part all written) (inside_part all block)
  inside_alike all = record {
    marks = λ place. (inside_at all place).marks place;
    declarations = λ place. (inside_at all place).declarations place;
    functions = λ place. (inside_at all place).functions place;
  }

-- a function with another block, where `self` is written among the parameters
like_part : (params : List Text) (vararg method : Bool) {names : List Text} {before : Ahead} {block written : Statements} → IsLike (all_params method params) names before block written →
    SamePart (body_part false (function_body (all_params method params) vararg written 1 1)) (body_part method (function_body params vararg block 1 1))
like_part params vararg method like = both_same (same_part (marked (λ place. opened (innermost place.around)))) (within_alike (in_function vararg) (inside_alike like (all_params method params)))

like_same : (params : List Text) (vararg method : Bool) {names : List Text} {before : Ahead} {block written : Statements} → IsLike (all_params method params) names before block written →
    inner (function_body (all_params method params) vararg written 1 1) false names before ≡ inner (function_body params vararg block 1 1) method names before
like_same params vararg method like =
    let heading : Heading = record { source = None; first_line = 1; last_line = 1; params = length (all_params method params); vararg = vararg } in
    sym (like.makes heading)

like_fine : (params : List Text) (vararg : Bool) {names : List Text} {before : Ahead} {block written : Statements} → are_names params ≡ true → IsLike params names before block written → (found : Inner) →
    found.body ≡ function_body params vararg written 1 1 → depth_of_statements written ≤ found.levels → IsFineFunction found
like_fine params vararg {written = written} good like found is shallow = record {
  formed = ap formed_body is ∙ and_from (are_names params) (formed_statements written) good like.formed;
  shallow = λ few. let depth : depth_of_body found.body ≡ depth_of_statements written = ap depth_of_body is in omega (arith, depth, shallow);
  plain = ap plain_body is ∙ like.plain;
}

-- ---- what is found

-- no body that stands needs fewer levels
abbrev IsOfFewest : {chunk : Chunk} {left : List (Option Inner)} {short : Bool} {found : Inner} → IsFunctionFound chunk left short found → Type 0
IsOfFewest {found = found} is = (plans : Plans) → BodyStands is.steps.steps (whole_body is.steps.steps) plans → found.levels ≤ body_levels is.steps.steps plans

module _ {short : Bool} {chunk : Chunk} {left : List (Option Inner)} {names : List Text} {before : Ahead} (params : List Text) (vararg : Bool) (block : Statements) (method : Bool) (good : are_names (all_params method params) ≡ true)
    (further : is_vararg (own chunk) ≡ vararg) (read : IsFlowRead short chunk left (all_params method params) names before block) (params_are : read.steps.params ≡ all_params method params) (found : Inner)
    (is : IsFunctionFound chunk left short found) where
  steps_same : is.steps ≡ read.steps
  steps_same = same_Some is.steps read.steps (sym is.read ∙ read.read)

  levels_are : found.levels ≡ body_levels read.steps.steps is.plans
  levels_are = is.levels ∙ ap (λ (s : Steps). body_levels s.steps is.plans) steps_same

  -- the block that is built, which is like that of the body
  record IsBuiltLike : Type 0 where
    written : Statements
    like : IsLike (all_params method params) names before block written
    shallow : depth_of_statements written ≤ found.levels
    body : found.body ≡ function_body (all_params method params) vararg written 1 1

  built_like : IsBuiltLike
  built_like =
      let made = read.each is.plans (subst (λ (s : Steps). BodyStands s.steps (whole_body s.steps) is.plans) steps_same is.stands) (subst (λ (s : Steps). body_levels s.steps is.plans ≤ 200) steps_same is.fits) in
      let block_is = (some_pair_parts is.statements made.0 is.behind made.1 (sym is.built ∙ ap (λ (s : Steps). built_body is.plans s.parts) steps_same ∙ made.2)).0 in
      record {
        written = made.0;
        like = made.3;
        shallow = let depth = made.4 in let levels = levels_are in omega (arith, depth, levels);
        body =
            is.body
            ∙ ap (λ (written : Statements). function_body is.steps.params (is_vararg (own chunk)) written 1 1) block_is
            ∙ ap₂ (λ (all : List Text) (further : Bool). function_body all further made.0 1 1) (ap (λ (s : Steps). s.params) steps_same ∙ params_are) further;
      }

  few_levels : found.levels ≤ 200
  few_levels = let fits = is.fits in let levels = is.levels in omega (arith, fits, levels)

  low_levels : IsOfFewest is → short ≡ true → found.levels ≤ around_body block (space_of_statements block)
  low_levels fewest is_short =
      let one = read.stands is_short in
      let stands = subst (λ (s : Steps). BodyStands s.steps (whole_body s.steps) one.0) (sym steps_same) one.1 in
      let least : found.levels ≤ body_levels read.steps.steps one.0 = subst (λ (s : Steps). found.levels ≤ body_levels s.steps one.0) steps_same (fewest one.0 stands) in
      let room = one.3 in
      omega (arith, least, room)

  -- where it has the fewest levels in the forms that are to be short
  found_of_fewest : (short ≡ true → IsOfFewest is) → IsFoundAs short (function_body params vararg block 1 1) method names before found
  found_of_fewest fewest =
      let built = built_like in
      let few = few_levels in
      let body : FunctionBody = function_body params vararg block 1 1 in
      record {
        fine = like_fine (all_params method params) vararg good built.like found built.body built.shallow;
        same = ap (λ (one : FunctionBody). inner one false names before) built.body ∙ like_same params vararg method built.like;
        few = omega (arith, few);
        low = λ is_short. low_levels (fewest is_short) is_short;
        part = subst (λ (one : FunctionBody). SamePart (body_part false one) (body_part method body)) (sym built.body) (like_part params vararg method built.like);
      }

  -- as it always has
  pub found_as : IsFoundAs short (function_body params vararg block 1 1) method names before found
  found_as = found_of_fewest is.fewest

-- ---- in the forms of fewest levels it is recovered

module _ {chunk : Chunk} {left : List (Option Inner)} {params names : List Text} {before : Ahead} {block : Statements} (read : IsFlowRead true chunk left params names before block) where
  pub read_recovered : IsUnrecovered chunk left true → ⊥
  read_recovered (inl unread) = none-some read.steps (sym unread ∙ read.read)
  read_recovered (inr (steps, is, inl nowhere)) =
      let there = read.stands refl in
      let none = subst (λ (s : Steps). StandsNowhere s) (same_Some steps read.steps (sym is ∙ read.read)) nowhere in
      let many = none there.0 there.1 in
      let few = there.2 in
      grind (arith, nat_tests)
  read_recovered (inr (steps, is, inr (plans, stands, few, unbuilt))) =
      let same : steps ≡ read.steps = same_Some steps read.steps (sym is ∙ read.read) in
      let made = read.each plans (subst (λ (s : Steps). BodyStands s.steps (whole_body s.steps) plans) same stands) (subst (λ (s : Steps). body_levels s.steps plans ≤ 200) same few) in
      none-some (made.0, made.1) (sym unbuilt ∙ ap (λ (s : Steps). built_body plans s.parts) same ∙ made.2)
