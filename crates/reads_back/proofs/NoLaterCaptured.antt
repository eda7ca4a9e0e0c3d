-- Where all that is in scope at the beginning of a function was declared before it, no step captures what is declared behind it; and the declarations of the function are among those of the source.
use Rattle.std.proofs.Common.{◌≡◌, ◌≤◌, ℕ, zero, suc, ◌+◌, true, false, List, [], ◌∷◌, ◌++◌, length, ap, ap₂, ◌∙◌, arith, subst, sym}
use Rattle.std.specs.Prelude.{Option}
use Rattle.lua_num.specs.Bytes.{Text}
use Rattle.lua_tree.specs.Outline as outline
use Rattle.lua_tree.specs.Outline.{Mark, Place, statements_part}
use Rattle.lua_tree.specs.Resolved.{declarations_in}
use Rattle.lua_tree.specs.Scoping.{is_captured}
use Rattle.lua_tree.specs.Syntax.{Statements}
use Rattle.core_expr.specs.Values.{Inner}
use Rattle.recover_expr.specs.Drafts.{Part, statement_part, values_part, condition_part, head_part}
use Rattle.recover_expr.specs.Placing.{Steps}
use Rattle.recover_expr.specs.Situation.{Function}
use Rattle.recover_expr.specs.declared.steps.StepKind.{StepKind}
use Rattle.scheme.specs.Making.{Ahead, Maker}
use Rattle.scheme_stands.proofs.Counting.{declared_both, statements_counted}
use Rattle.scheme_stands.proofs.Environment.{Low}
use Rattle.scheme_stands.specs.Places.{LowAt, Reached}
use Rattle.scheme_stands.specs.Words.{Fn}
use Rattle.scheme_stands.proofs.LowMentions.{StaysLow, low_captures, low_expression, low_expressions, low_heads, low_more, low_statement}
use Rattle.same_flow.specs.Told.{PartFits}
use Rattle.same_flow.proofs.Walks.{Entry, Said, State, ended_in, said_at, says, says_at, state_of}
use Rattle.reads_back.proofs.CapturedInEnd.{CapturesNoLater}
use Rattle.reads_back.proofs.FlowThere.{IsFlowFunction, step_is}
use Rattle.reads_back.proofs.MarksCaptured.{captured_unbroken, declarations_stay}
use Rattle.reads_back.proofs.StepsKnown.{part_said, says_part, state_before, ended_keeps}

-- ---- what is in scope along the steps

abbrev pub LowEntries : ℕ → List Entry → Type 0
LowEntries n [] = Unit {0}
LowEntries n (entry ∷ entries) = Low entry.scope n × LowEntries n entries

entries_more : (low high : ℕ) → low ≤ high → (entries : List Entry) → LowEntries low entries → LowEntries high entries
entries_more low high more [] are = tt
entries_more low high more (entry ∷ entries) are = (low_more low high more are.0, entries_more low high more entries are.1)

-- what is in scope, and what was before some locals came into scope, was declared before
abbrev pub IsLow : State → Type 0
IsLow state = LowAt state.place × LowEntries state.place.declarations state.entries

low_ended : (at : ℕ) (place : Place) (entries : List Entry) → LowAt place → LowEntries place.declarations entries → IsLow (ended_in at place entries)
low_ended at place entries low are = ended_keeps IsLow (λ entry entries place both. both.1) at place entries (low, are)

-- ---- a step

pub part_low : (kind : StepKind) (part : Part) (place : Place) → PartFits kind part → LowAt place → StaysLow place (part_said kind part place)
part_low StepKind.Act (statement_part s) place fits low = low_statement 1 s place low
part_low (StepKind.Declaration end captured) (statement_part s) place fits low = low_statement 1 s place low
part_low StepKind.Return (values_part es) place fits low = low_expressions es place low
part_low (StepKind.Test when target negated) (condition_part e) place fits low = low_expression e place low
part_low (StepKind.Head true foot end variables_end captured) (head_part es names) place fits low = low_heads names es place low
part_low (StepKind.Head false foot end variables_end captured) (head_part es names) place fits low = low_heads names es place low
part_low (StepKind.Jump target) part place fits low = record { mentions = tt; low = low; grows = omega arith }
part_low (StepKind.Close from step) part place fits low = record { mentions = tt; low = low; grows = omega arith }
part_low (StepKind.Foot numeric target) part place fits low = record { mentions = tt; low = low; grows = omega arith }
part_low kind part place fits low = absurd fits

says_low : (kind : StepKind) (part : Part) (state : State) → PartFits kind part → IsLow state → StaysLow state.place (part_said kind part state.place) → IsLow (says kind part state).after
says_low StepKind.Act (statement_part s) state fits low stays = (stays.low, entries_more state.place.declarations _ stays.grows state.entries low.1)
says_low (StepKind.Declaration end captured) (statement_part s) state fits low stays = (stays.low, (low_more state.place.declarations _ stays.grows low.0, entries_more state.place.declarations _ stays.grows state.entries low.1))
says_low StepKind.Return (values_part es) state fits low stays = (stays.low, entries_more state.place.declarations _ stays.grows state.entries low.1)
says_low (StepKind.Test when target negated) (condition_part e) state fits low stays = (stays.low, entries_more state.place.declarations _ stays.grows state.entries low.1)
says_low (StepKind.Head true foot end variables_end captured) (head_part es names) state fits low stays = (stays.low, (low_more state.place.declarations _ stays.grows low.0, entries_more state.place.declarations _ stays.grows state.entries low.1))
says_low (StepKind.Head false foot end variables_end captured) (head_part es names) state fits low stays = (stays.low, (low_more state.place.declarations _ stays.grows low.0, entries_more state.place.declarations _ stays.grows state.entries low.1))
says_low (StepKind.Jump target) part state fits low stays = low
says_low (StepKind.Close from step) part state fits low stays = low
says_low (StepKind.Foot numeric target) part state fits low stays = low
says_low kind part state fits low stays = absurd fits

-- ---- all steps of a function

module _ {f : Function} {g : Fn} {z : Maker} {lefts : ℕ → List (Option Inner)} {parts : ℕ → outline.Part} {code : Steps} {params names : List Text} {ahead : Ahead} {block : Statements} (of : IsFlowFunction f g z lefts parts code params names ahead block)
    (place : Place) (low : LowAt place) where
  abbrev first : State
  first = state_of place []

  pub low_before : (at : ℕ) → at ≤ length code.steps → IsLow (state_before code first at)
  low_before zero most = (low, tt)
  low_before (suc at) most =
      let step = step_is of at (omega (arith, most)) in
      let now = state_before code first at in
      let before = low_before at (omega (arith, most)) in
      let are : said_at code at now ≡ says step.0 step.1 now = ap₂ (λ kind part. says_at kind part now) step.2.there step.2.part_there in
      let after = says_low step.0 step.1 now step.2.fits before (part_low step.0 step.1 now.place step.2.fits before.0) in
      let said = said_at code at now in
      let behind : IsLow said.after = subst (λ (it : Said). IsLow it.after) (sym are) after in
      low_ended (suc at) said.after.place said.after.entries behind.0 behind.1

  -- no step captures what is declared behind it
  pub captures_no_later : CapturesNoLater of place
  captures_no_later at declaration less above =
      let step = step_is of at less in
      let now = state_before code first at in
      let said = said_at code at now in
      let stays = part_low step.0 step.1 now.place step.2.fits (low_before at (omega (arith, less))).0 in
      let are : said ≡ says step.0 step.1 now = ap₂ (λ kind part. says_at kind part now) step.2.there step.2.part_there in
      let says = says_part step.0 step.1 now step.2.fits in
      let walk = part_said step.0 step.1 now.place in
      let next : said.after.place.declarations ≡ walk.next.declarations = ap (λ (it : Said). it.after.place.declarations) are ∙ ap (λ (place : Place). place.declarations) says.1 in
      ap (λ (it : Said). is_captured declaration it.marks) are
      ∙ ap (is_captured declaration) says.0
      ∙ captured_unbroken declaration walk.marks
      ∙ low_captures walk.marks walk.next.declarations declaration (omega (arith, above, next, declarations_stay (suc at) said.after.place said.after.entries)) stays.mentions

-- the declarations of a part of the source are among those of the source
pub counted_reached : (all : List Mark) (place : Place) (block : Statements) (rest : List Mark) → Reached all place ((statements_part block place).marks ++ rest) → (statements_part block place).next.declarations ≤ declarations_in all
counted_reached all place block rest reached =
    let marks = (statements_part block place).marks in
    let count = (statements_counted block place).declarations in
    let before = reached.declarations in
    let whole : declarations_in all ≡ declarations_in reached.before + (declarations_in marks + declarations_in rest) =
    ap declarations_in reached.is ∙ declared_both reached.before (marks ++ rest) ∙ ap (λ n. declarations_in reached.before + n) (declared_both marks rest) in
    omega (arith, count, before, whole)
