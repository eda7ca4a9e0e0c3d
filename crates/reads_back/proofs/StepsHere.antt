-- Before each step of a function all is known of its marks, which come next at its place among those of the other steps without breaks.
use Rattle.std.proofs.Common.{◌≡◌, ◌<◌, ◌≤◌, ◌⊎◌, inl, inr, ℕ, zero, suc, ◌+◌, ◌-◌, true, false, List, [], ◌∷◌, ◌++◌, append-nil, append_assoc, length, refl, sym, ap, ap₂, ◌∙◌, subst, arith}
use Rattle.std.proofs.lemmas.Bool.{eq-eqb}
use Rattle.std.specs.Prelude.{◌||◌, Option, Some}
use Rattle.lua_num.specs.Bytes.{Text}
use Rattle.lua_tree.specs.Outline as outline
use Rattle.lua_tree.specs.Outline.{Binding, Mark, Place, Scope, both, come, declares, expressions_part, innermost, statements_part, with_names}
use Rattle.lua_tree.specs.Resolved.{declarations_in, functions_in}
use Rattle.lua_tree.specs.Scoping.{is_one_of}
use Rattle.lua_tree.specs.Syntax.{Expressions, Statements}
use Rattle.lua_tree.specs.WellFormed.{formed_statements}
use Rattle.core_expr.specs.Values.{Inner}
use Rattle.recover_expr.specs.Drafts.{Part, condition_part, head_part, statement_part, values_part}
use Rattle.recover_expr.specs.Placing.{Steps}
use Rattle.recover_expr.specs.Situation.{Function}
use Rattle.recover_expr.specs.declared.steps.StepKind.{StepKind}
use Rattle.scheme.specs.Making.{Ahead, Maker}
use Rattle.scheme_stands.specs.Places.{AllOf, Behind, Below, Between, Here, Mentions, ScopeAt, ahead_at, StandsApart}
use Rattle.scheme_stands.specs.Words.{Fn}
use Rattle.scheme_stands.proofs.Counting.{declared_both, opened_both, statements_counted}
use Rattle.scheme_stands.proofs.Growth.{spot}
use Rattle.scheme_stands.proofs.Here.{Tame, tame_both, tame_come, tame_declares, tame_expression, tame_expressions, tame_nothing, tame_statement, walks, TameBy, tame_more}
use Rattle.scheme_stands.proofs.Origins.{Passes, all_more, below_more, mentions_both, mentions_more}
use Rattle.scheme_stands.proofs.Apart.{keeps_own}
use Rattle.scheme_stands.proofs.KnownMarks.{Led, both_lead, come_leads, declares_leads, expressions_lead, same_place}
use Rattle.scheme_stands.proofs.LowMentions.{low_heads}
use Rattle.same_flow.specs.Alike.{heads}
use Rattle.same_flow.specs.SameFlow.{begun_of}
use Rattle.same_flow.specs.SameMarks.{but_breaks}
use Rattle.same_flow.specs.Told.{PartFits}
use Rattle.same_flow.proofs.Breaks.{breaks_append}
use Rattle.same_flow.proofs.MarksSame.{whole_walk}
use Rattle.same_flow.proofs.Walks.{Entry, Said, State, ended_in, run, said_at, says, says_at, state_of}
use Rattle.reads_back.proofs.ActiveCaptured.{around_stays}
use Rattle.reads_back.proofs.FlowThere.{IsFlowFunction, StepIs, before_at, step_is}
use Rattle.reads_back.proofs.LocalsBrought.{names_by}
use Rattle.reads_back.proofs.MarksCaptured.{all_marks, declarations_stay, marks_to, run_marks, run_place, functions_stay, around_ended}
use Rattle.reads_back.proofs.MarksUnbroken.{ahead_between, declarations_unbroken, functions_unbroken, mentions_unbroken, part_ahead}
use Rattle.reads_back.proofs.NamesCome.{Comes, Stays, names_mean, step_scoped}
use Rattle.reads_back.proofs.NoLaterCaptured.{low_before}
use Rattle.reads_back.proofs.StepsKnown.{known_laid, part_said, says_part, state_before, state_to, ended_keeps}

-- ---- parts of steps

heads_tame : (es : Expressions) (names : List Text) → Tame (heads names es)
heads_tame es names = record {
  counted = λ place. let c = (tame place.declarations).counted place in record { declarations = c.declarations; functions = c.functions; around = c.around; vararg = c.vararg; looped = c.looped };
  walked = λ base place none start.
      let w = (tame place.declarations).walked base place none start in
      record { from = w.from; upto = w.upto; derived = w.derived; around = w.around; grown = w.grown; more = w.more };
  keeps = keeps_own (λ place low. let w = low_heads names es place low in record { mentions = w.mentions; low = w.low; grows = w.grows }) led;
}
  where
    led : (place : Place) → Led place (heads names es) place
    led place =
        let l = both_lead place (declares_leads place 1 3 names) (both_lead place (expressions_lead place es) (come_leads place 3 names place.declarations (omega arith))) place (same_place place) in
        record { from = l.from; next = l.next }

    tame : (number : ℕ) → TameBy (number + length names) (both (declares 1 3 names) (both (expressions_part es) (come 3 names number)))
    tame number = tame_both (declares 1 3 names) (both (expressions_part es) (come 3 names number)) (tame_more (tame_declares 1 3 names)) (tame_both (expressions_part es) (come 3 names number) (tame_more (tame_expressions es)) (tame_come 3 names number))

part_tame : (kind : StepKind) (part : Part) → PartFits kind part → Tame (part_said kind part)
part_tame StepKind.Act (statement_part s) fits = tame_statement 1 s
part_tame (StepKind.Declaration end captured) (statement_part s) fits = tame_statement 1 s
part_tame StepKind.Return (values_part es) fits = tame_expressions es
part_tame (StepKind.Test when target negated) (condition_part e) fits = tame_expression e
part_tame (StepKind.Head true foot end variables_end captured) (head_part es names) fits = heads_tame es names
part_tame (StepKind.Head false foot end variables_end captured) (head_part es names) fits = heads_tame es names
part_tame (StepKind.Jump target) part fits = tame_nothing
part_tame (StepKind.Close from step) part fits = tame_nothing
part_tame (StepKind.Foot numeric target) part fits = tame_nothing
part_tame kind part fits = absurd fits

-- ---- functions around

-- what is behind a place is behind an earlier one in the same function
behind_earlier : (earlier later : Place) → later.around ≡ earlier.around → earlier.functions ≤ later.functions → (means : Option Binding) (around : List ℕ) → Behind later means around → Behind earlier means around
behind_earlier earlier later same most means around is =
    all_more (λ g. (is_one_of g later.around ≡ true) ⊎ (later.functions ≤ g)) (λ g. (is_one_of g earlier.around ≡ true) ⊎ (earlier.functions ≤ g)) one around is
  where
    one : (g : ℕ) → (is_one_of g later.around ≡ true) ⊎ (later.functions ≤ g) → (is_one_of g earlier.around ≡ true) ⊎ (earlier.functions ≤ g)
    one g (inl is) = inl (sym (ap (is_one_of g) same) ∙ is)
    one g (inr is) = inr (omega (arith, is, most))

-- ---- homes

-- what is in scope is of one of these functions
abbrev Homes : (around : List ℕ) → Scope → Type 0
Homes around scope = (name : Text) (b : Binding) → scope name ≡ Some b → is_one_of b.home around ≡ true

abbrev EntriesHomes : (around : List ℕ) → List Entry → Type 0
EntriesHomes around [] = Unit {0}
EntriesHomes around (entry ∷ entries) = Homes around entry.scope × EntriesHomes around entries

abbrev StateHomes : (around : List ℕ) → State → Type 0
StateHomes around state = Homes around state.place.scope × EntriesHomes around state.entries

homes_ended : (around : List ℕ) (at : ℕ) (place : Place) (entries : List Entry) → Homes around place.scope → EntriesHomes around entries → StateHomes around (ended_in at place entries)
homes_ended around at place entries here are = ended_keeps (StateHomes around) (λ entry entries place both. both.1) at place entries (here, are)

names_homes : (around : List ℕ) (home : ℕ) → is_one_of home around ≡ true → (names : List Text) (number : ℕ) (scope : Scope) → Homes around scope → Homes around (with_names names number home scope)
names_homes around home own names number scope here name b is = by (names_mean names number home scope name b is)
  where
    by : (scope name ≡ Some b) ⊎ ((i : ℕ) × (i < length names) × (b.declaration ≡ number + i) × (b.home ≡ home)) → is_one_of b.home around ≡ true
    by (inl old) = here name b old
    by (inr new) = ap (λ home. is_one_of home around) new.3 ∙ own

homes_said : (around : List ℕ) → is_one_of (innermost around) around ≡ true → (kind : StepKind) (part : Part) (state : State) → PartFits kind part → state.place.around ≡ around → StateHomes around state → StateHomes around (says kind part state).after
homes_said around own kind part state fits same are = by (step_scoped kind part state fits)
  where
    by : Stays kind part state ⊎ Comes kind part state → StateHomes around (says kind part state).after
    by (inl stays) = (subst (Homes around) (sym stays.scope) are.0, subst (EntriesHomes around) (sym stays.entries) are.1)
    by (inr comes) = (
      subst (Homes around) (sym (comes.scope ∙ ap (λ around. with_names (names_by kind part) state.place.declarations (innermost around) state.place.scope) same))
          (names_homes around (innermost around) own (names_by kind part) state.place.declarations state.place.scope are.0),
      subst (EntriesHomes around) (sym comes.entries) (are.0, are.1),
    )

-- ---- along the steps of a function

module _ {f : Function} {g : Fn} {z : Maker} {lefts : ℕ → List (Option Inner)} {parts : ℕ → outline.Part} {code : Steps} {params names : List Text} {ahead : Ahead} {block : Statements} (of : IsFlowFunction f g z lefts parts code params names ahead block)
    (all : List Mark) (place : Place) (rest : List Mark) (between : Between all (statements_part block) place rest) (scope : ScopeAt place) where
  abbrev bare : List Mark
  bare = but_breaks all

  abbrev after : List Mark
  after = but_breaks rest

  abbrev first : State
  first = state_of place []

  abbrev place_at : ℕ → Place
  place_at at = (state_before code first at).place

  -- the marks of the source before a step
  abbrev pub marks_before : ℕ → List Mark
  marks_before at = but_breaks between.reached.before ++ marks_to code first at

  own_home : is_one_of (innermost place.around) place.around ≡ true
  own_home = ap (λ around. is_one_of (innermost around) around) scope.is ∙ ap (λ own. own || is_one_of scope.function scope.others) (eq-eqb scope.function scope.function refl)

  -- ---- one step

  module _ {at : ℕ} {kind : StepKind} {part : Part} (is : StepIs of at kind part) where
    abbrev walk : outline.Walk
    walk = part_said kind part (place_at at)

    abbrev said : Said
    said = said_at code at (state_before code first at)

    pub said_is : said ≡ says kind part (state_before code first at)
    said_is = ap₂ (λ kind part. says_at kind part (state_before code first at)) is.there is.part_there

    pub said_marks : said.marks ≡ but_breaks walk.marks
    said_marks = ap (λ (it : Said). it.marks) said_is ∙ (says_part kind part (state_before code first at) is.fits).0

    said_next : said.after.place ≡ walk.next
    said_next = ap (λ (it : Said). it.after.place) said_is ∙ (says_part kind part (state_before code first at) is.fits).1

    functions_next : (place_at (suc at)).functions ≡ walk.next.functions
    functions_next = functions_stay (suc at) said.after.place said.after.entries ∙ ap (λ (place : Place). place.functions) said_next

    pub declarations_next : (place_at (suc at)).declarations ≡ walk.next.declarations
    declarations_next = declarations_stay (suc at) said.after.place said.after.entries ∙ ap (λ (place : Place). place.declarations) said_next

    around_next : (place_at (suc at)).around ≡ walk.next.around
    around_next = around_ended (suc at) said.after.place said.after.entries ∙ ap (λ (place : Place). place.around) said_next

    pub marks_next : marks_before (suc at) ≡ marks_before at ++ but_breaks walk.marks
    marks_next = sym (append_assoc (but_breaks between.reached.before) (marks_to code first at) said.marks) ∙ ap (λ (marks : List Mark). marks_before at ++ marks) said_marks

    passes : AllOf (λ g. g < (place_at at).functions) (place_at at).around → Passes (part_said kind part) (place_at at)
    passes around = walks (part_said kind part) (place_at at) (part_tame kind part is.fits) around

  -- ---- what is before

  record Forward (at : ℕ) : Type 0 where
    declarations : declarations_in (marks_before at) ≡ (place_at at).declarations
    functions : functions_in (marks_before at) ≡ (place_at at).functions
    mentioned : Mentions (Below (place_at at).functions) (marks_before at)
    around : AllOf (λ g. g < (place_at at).functions) (place_at at).around

  forward_first : Forward 0
  forward_first =
      let before = between.reached.before in
      record {
        declarations = ap declarations_in (append-nil (but_breaks before)) ∙ declarations_unbroken before ∙ between.reached.declarations;
        functions = ap functions_in (append-nil (but_breaks before)) ∙ functions_unbroken before ∙ between.reached.functions;
        mentioned = subst (Mentions (Below place.functions)) (sym (append-nil (but_breaks before))) (mentions_unbroken (Below place.functions) before between.before_it);
        around = between.around_it;
      }

  forward_next : {at : ℕ} {kind : StepKind} {part : Part} → StepIs of at kind part → Forward at → Forward (suc at)
  forward_next {at} {kind} {part} is forward =
      let w = walk is in
      let counted = (part_tame kind part is.fits).counted (place_at at) in
      let passed = passes is forward.around in
      let before = marks_before at in
      let own = but_breaks w.marks in
      let grown = passed.grown in
      let same = marks_next is in
      let declared = counted.declarations in
      let opened = counted.functions in
      record {
        declarations =
            let sum = declared_both before own in
            let there = forward.declarations in
            let next = declarations_next is in
            let all = ap declarations_in same in
            let few = declarations_unbroken w.marks in
            omega (arith, sum, there, next, all, few, declared);
        functions =
            let sum = opened_both before own in
            let there = forward.functions in
            let next = functions_next is in
            let all = ap functions_in same in
            let few = functions_unbroken w.marks in
            omega (arith, sum, there, next, all, few, opened);
        mentioned =
            subst (λ n. Mentions (Below n) (marks_before (suc at))) (sym (functions_next is))
            (subst (Mentions (Below w.next.functions)) (sym same)
            (mentions_both (Below w.next.functions) before own
            (mentions_more (Below (place_at at).functions) (Below w.next.functions) (λ means around below. below_more (place_at at).functions w.next.functions grown around below) before forward.mentioned)
            (mentions_unbroken (Below w.next.functions) w.marks passed.upto)));
        around =
            subst (λ n. AllOf (λ g. g < n) (place_at (suc at)).around) (sym (functions_next is))
            (subst (AllOf (λ g. g < w.next.functions)) (sym (around_next is)) passed.around);
      }

  forward_to : (at : ℕ) → at ≤ length code.steps → Forward at
  forward_to zero most = forward_first
  forward_to (suc at) most = let step = step_is of at (omega (arith, most)) in forward_next step.2 (forward_to at (omega (arith, most)))

  -- ---- what is behind

  functions_last : (place_at (length code.steps)).functions ≡ (statements_part block place).next.functions
  functions_last =
      let walked = whole_walk code params names ahead block of.laid place in
      let reaches = walked.reaches in
      let same : walked.count ≡ length code.steps = omega (arith, reaches) in
      let none : length code.steps ≡ 0 + length code.steps = omega arith in
      ap (λ at. (place_at at).functions) none
      ∙ sym (ap (λ (state : State). state.place.functions) (run_place code first (length code.steps) 0))
      ∙ ap (λ n. (run code 0 n first).after.place.functions) (sym same) ∙ ap (λ (it : Said). it.after.place.functions) walked.says

  abbrev pub marks_from : (at count : ℕ) → List Mark
  marks_from at count = (run code at count (state_to code first at)).marks

  behind_from : (count at : ℕ) → at + count ≡ length code.steps → Mentions (Behind (place_at at)) (marks_from at count ++ after)
  behind_from zero at is =
      let last : length code.steps ≡ at = omega (arith, is) in
      let functions = functions_last in
      subst (λ at. Mentions (Behind (place_at at)) after) last
      (mentions_more (Behind (statements_part block place).next) (Behind (place_at (length code.steps)))
      (behind_earlier (place_at (length code.steps)) (statements_part block place).next ((statements_counted block place).around ∙ sym (around_stays of place (length code.steps) (omega arith))) (omega (arith, functions)))
      after (mentions_unbroken (Behind (statements_part block place).next) rest between.behind_it))
  behind_from (suc count) at is =
      let step = step_is of at (omega (arith, is)) in
      let w = walk step.2 in
      let others = marks_from (suc at) count in
      let passed = passes step.2 (forward_to at (omega (arith, is))).around in
      let functions = functions_next step.2 in
      let grown = passed.grown in
      subst (Mentions (Behind (place_at at))) (sym (append_assoc (said step.2).marks others after))
      (mentions_both (Behind (place_at at)) (said step.2).marks (others ++ after) (subst (Mentions (Behind (place_at at))) (sym (said_marks step.2)) (mentions_unbroken (Behind (place_at at)) w.marks passed.behind))
      (mentions_more (Behind (place_at (suc at))) (Behind (place_at at)) (behind_earlier (place_at at) (place_at (suc at)) (around_next step.2 ∙ passed.same) (omega (arith, functions, grown))) (others ++ after)
      (behind_from count (suc at) (omega (arith, is)))))

  -- ---- what is in scope

  homes_before : (at : ℕ) → at ≤ length code.steps → StateHomes place.around (state_before code first at)
  homes_before zero most = (scope.homes, tt)
  homes_before (suc at) most =
      let within : at ≤ length code.steps = omega (arith, most) in
      let step = step_is of at (omega (arith, most)) in
      let here = said step.2 in
      let behind = subst (λ (it : Said). StateHomes place.around it.after) (sym (said_is step.2))
      (homes_said place.around own_home step.0 step.1 (state_before code first at) step.2.fits (around_stays of place at within) (homes_before at within)) in
      homes_ended place.around (suc at) here.after.place here.after.entries behind.0 behind.1

  pub scope_before : (at : ℕ) → at ≤ length code.steps → ScopeAt (place_at at)
  scope_before at most =
      let same = around_stays of place at most in
      record {
        function = scope.function;
        others = scope.others;
        is = same ∙ scope.is;
        homes = λ name b there. ap (is_one_of b.home) same ∙ (homes_before at most).0 name b there;
        declared = (low_before of place scope.declared at most).0;
      }

  -- ---- all of it

  abbrev pub rest_at : ℕ → List Mark
  rest_at at = marks_from (suc at) (length code.steps - suc at) ++ after

  -- the marks of the source, where only those of one step stand with their breaks
  abbrev pub all_at : (at : ℕ) → StepKind → Part → List Mark
  all_at at kind part = marks_before at ++ ((part_said kind part (place_at at)).marks ++ rest_at at)

  all_is : {at : ℕ} {kind : StepKind} {part : Part} (is : StepIs of at kind part) → bare ≡ marks_before at ++ (but_breaks (walk is).marks ++ rest_at at)
  all_is {at} is =
      let less = is.within in
      let left = length code.steps - suc at in
      let before = but_breaks between.reached.before in
      let own = (statements_part block place).marks in
      let to = marks_to code first at in
      let others = marks_from (suc at) left in
      let said_of = but_breaks (walk is).marks in
      let last : length code.steps ≡ at + suc left = omega (arith, less) in
      let parted : but_breaks own ≡ to ++ (said_of ++ others) =
      sym (all_marks code params names ahead block of.laid place) ∙ ap (marks_to code first) last ∙ sym (run_marks code first (suc left) at) ∙ ap (λ (marks : List Mark). to ++ (marks ++ others)) (said_marks is) in
      ap but_breaks between.reached.is
      ∙ breaks_append between.reached.before (own ++ rest)
      ∙ ap (λ (marks : List Mark). before ++ marks) (breaks_append own rest ∙ ap (λ (marks : List Mark). marks ++ after) parted ∙ append_assoc to (said_of ++ others) after ∙ ap (λ (marks : List Mark). to ++ marks) (append_assoc said_of others after))
      ∙ sym (append_assoc before to (said_of ++ (others ++ after)))

  between_at : {at : ℕ} {kind : StepKind} {part : Part} → StepIs of at kind part → Between (all_at at kind part) (part_said kind part) (place_at at) (rest_at at)
  between_at {at} is =
      let less = is.within in
      let forward = forward_to at (omega (arith, less)) in
      let functions = functions_next is in
      record {
        reached = record { before = marks_before at; is = refl; declarations = forward.declarations; functions = forward.functions };
        before_it = forward.mentioned;
        around_it = forward.around;
        behind_it =
            mentions_more (Behind (place_at (suc at))) (Behind (walk is).next) (behind_earlier (walk is).next (place_at (suc at)) (around_next is) (omega (arith, functions))) (rest_at at)
            (behind_from (length code.steps - suc at) (suc at) (omega (arith, less)));
      }

  module _ (formed : formed_statements block ≡ true) (begun : (begun_of params names ahead).ahead ≡ ahead_at all place ((statements_part block place).marks ++ rest)) where
    -- so it is at the beginning
    bare_begun : (begun_of params names ahead).ahead ≡ ahead_at bare place ((statements_part block place).marks ++ after)
    bare_begun = begun ∙ part_ahead all place (statements_part block place).marks rest

    -- Before a step its marks come next, where its part stands apart.
    pub step_here : {at : ℕ} {kind : StepKind} {part : Part} → StepIs of at kind part → StandsApart (all_at at kind part) (part_said kind part) (place_at at) (rest_at at) → Here (all_at at kind part) (part_said kind part) (place_at at) (rest_at at) (spot (before_at of at))
    step_here {at} {kind} {part} is apart =
        let less = is.within in
        let left = length code.steps - suc at in
        let others = marks_from (suc at) left in
        let known = known_laid bare g code of.plain params names ahead block of.laid formed of.stand place after bare_begun at (suc left) (omega (arith, less)) in
        record {
          between = between_at is;
          scope = scope_before at (omega (arith, less));
          ahead =
              known
              ∙ ap (ahead_at bare (place_at at)) (append_assoc (said is).marks others after)
              ∙ ap (λ (own : List Mark). ahead_at bare (place_at at) (own ++ (others ++ after))) (said_marks is)
              ∙ ap (λ (all : List Mark). ahead_at all (place_at at) (but_breaks (walk is).marks ++ rest_at at)) (all_is is)
              ∙ ahead_between (marks_before at) (walk is).marks (rest_at at) (place_at at);
          apart = apart;
        }
