-- The list of the locals of a function, step by step: the active ones stand in it, each has a declaration of its own, and is captured where its declaration is.
use Rattle.std.proofs.Common.{◌≡◌, ◌≤◌, ℕ, zero, suc, ◌+◌, ◌-◌, true, false, List, [], ◌∷◌, ◌++◌, drop, length, length-append, refl, sym, ap, ap₂, ◌∙◌, arith, subst}
use Rattle.std.proofs.lemmas.List.{length-map, map-append}
use Rattle.std.specs.Prelude.{Option, Some, slice_get}
use Rattle.lua_num.specs.Bytes.{Text}
use Rattle.lua_tree.specs.Outline as outline
use Rattle.lua_tree.specs.Outline.{Mark, Place, both, come, declares, body_part, expression_part, expressions_part, statements_part}
use Rattle.lua_tree.specs.Resolved.{declarations_in}
use Rattle.lua_tree.specs.Syntax.{Expressions, Statements, local_function, local_statement}
use Rattle.lua_tree.specs.WellFormed.{formed_statements}
use Rattle.core_expr.specs.Values.{Inner}
use Rattle.recover_expr.specs.Drafts.{Part, statement_part, values_part, condition_part, head_part}
use Rattle.recover_expr.specs.Placing.{Steps}
use Rattle.recover_expr.specs.Situation.{Function}
use Rattle.recover_expr.specs.declared.steps.StepKind.{StepKind}
use Rattle.scheme.specs.Functions.{empty_maker}
use Rattle.scheme.specs.Making.{Ahead, Maker, activate, declare}
use Rattle.scheme.specs.declared.making.Active.{Active}
use Rattle.scheme.specs.declared.making.Local.{Local}
use Rattle.scheme_stands.proofs.Counting.{body_closed, come_counted, counted_row, expression_closed, expressions_closed, statement_counted}
use Rattle.scheme_stands.specs.Places.{ahead_at, ahead_by}
use Rattle.scheme_stands.specs.Words.{Fn}
use Rattle.same_flow.specs.Performed.{Performance, kind_at, part_at, still_active}
use Rattle.same_flow.specs.SameFlow.{begun_of}
use Rattle.same_flow.specs.Told.{PartFits}
use Rattle.same_flow.proofs.LocalsListed.{locals_listed}
use Rattle.same_flow.proofs.RunKeeps.{declared_active}
use Rattle.same_flow.proofs.Walks.{Said, State, run, said_at, says, says_at, state_of}
use Rattle.reads_back.specs.Placed.{listed_before}
use Rattle.reads_back.proofs.FlowStarts.{count_new, listed_next}
use Rattle.reads_back.proofs.FlowThere.{IsFlowFunction, StepIs, before_at, made_at, now_at, step_is}
use Rattle.reads_back.proofs.LocalsBrought.{AreSound, StandIn, activated, captures_from, kind_brings_locals, locals_by, locals_of, names_by, sound_both, sound_declared, sound_step, stand_both, stand_longer}
use Rattle.reads_back.proofs.MarksCaptured.{all_declarations, declarations_stay}
use Rattle.reads_back.proofs.PlacedCaptures.{element_taken}
use Rattle.reads_back.proofs.PlacedLocals.{Adds, InTurn, adds_activated, adds_both, adds_declared, kind_adds}
use Rattle.reads_back.proofs.StepsKnown.{known_laid, part_said, says_part, state_before, state_to}

-- ---- a part declares its names

more_heads : (names : List Text) (es : Expressions) (place : Place) (number : ℕ) (hidden : ℕ) → place.declarations + length names ≤ (both (declares 1 hidden names) (both (expressions_part es) (come hidden names number)) place).next.declarations
more_heads names es place number hidden =
    let begun = (declares 1 hidden names place).next in
    let c = counted_row (expressions_part es) (come hidden names number) begun (expressions_closed es begun).counted (come_counted hidden names number _) in
    let count = c.declarations in
    omega (arith, count)

part_grows : (kind : StepKind) (part : Part) (place : Place) → PartFits kind part → place.declarations + length (names_by kind part) ≤ (part_said kind part place).next.declarations
part_grows StepKind.Act (statement_part s) place fits = let count = (statement_counted 1 s place).declarations in omega (arith, count)
part_grows (StepKind.Declaration end captured) (statement_part (local_function text body)) place fits =
    let names : List Text = text ∷ [] in
    let begun = (declares 1 0 names place).next in
    let c = counted_row (come 0 names place.declarations) (body_part false body) begun (come_counted 0 names place.declarations begun) (body_closed false body _).counted in
    let count = c.declarations in
    omega (arith, count)
part_grows (StepKind.Declaration end captured) (statement_part (local_statement names es)) place fits = more_heads names es place place.declarations 0
part_grows (StepKind.Declaration end captured) (statement_part s) place fits = absurd fits
part_grows StepKind.Return (values_part es) place fits = let count = (expressions_closed es place).counted.declarations in omega (arith, count)
part_grows (StepKind.Test when target negated) (condition_part e) place fits = let count = (expression_closed e place).counted.declarations in omega (arith, count)
part_grows (StepKind.Head true foot end variables_end captured) (head_part es names) place fits = more_heads names es place place.declarations 3
part_grows (StepKind.Head false foot end variables_end captured) (head_part es names) place fits = more_heads names es place place.declarations 3
part_grows (StepKind.Jump target) part place fits = omega arith
part_grows (StepKind.Close from step) part place fits = omega arith
part_grows (StepKind.Foot numeric target) part place fits = omega arith
part_grows kind part place fits = absurd fits

-- ---- the list

drop_front : (xs ys : List Local) → drop (length xs) (xs ++ ys) ≡ ys
drop_front [] ys = refl
drop_front (x ∷ xs) ys = drop_front xs ys

same_behind : (xs ys zs : List Local) → xs ++ ys ≡ xs ++ zs → ys ≡ zs
same_behind xs ys zs same = sym (drop_front xs ys) ∙ ap (drop (length xs)) same ∙ drop_front xs zs

abbrev locals_at : Option StepKind → Option Part → Maker → List Local
locals_at (Some kind) (Some part) m = locals_by kind part m
locals_at kind part m = []

module _ {f : Function} {g : Fn} {z : Maker} {lefts : ℕ → List (Option Inner)} {parts : ℕ → outline.Part} {code : Steps} {params names : List Text} {ahead : Ahead} {block : Statements} (of : IsFlowFunction f g z lefts parts code params names ahead block) where
  -- the locals of the steps before one, in the order in which they are listed
  abbrev pub locals_to : (at : ℕ) → List Local
  locals_to zero = (declare params (empty_maker ahead names)).value
  locals_to (suc at) = locals_to at ++ locals_at (kind_at code.steps at) (part_at code at) (before_at of at)

  pub locals_next : (at : ℕ) (kind : StepKind) (part : Part) → StepIs of at kind part → locals_to (suc at) ≡ locals_to at ++ locals_by kind part (before_at of at)
  locals_next at kind part is = ap₂ (λ (kind : Option StepKind) (part : Option Part). locals_to at ++ locals_at kind part (before_at of at)) is.there is.part_there

  module _ (at : ℕ) (kind : StepKind) (part : Part) (is : StepIs of at kind part) where
    pub adds : Adds (before_at of at) (made_at of at kind part)
    adds = kind_adds code kind part (of.plain at part is.part_there) (before_at of at)

    pub new_are : locals_of adds.new ≡ locals_by kind part (before_at of at)
    new_are =
        let m = before_at of at in
        same_behind (locals_of m.active) (locals_of adds.new) (locals_by kind part m)
        (sym (map-append (λ (one : Active). one.local) m.active adds.new) ∙ ap locals_of (sym adds.active) ∙ kind_brings_locals code kind part m is.fits)

    pub count_by : length (locals_by kind part (before_at of at)) ≡ length adds.new
    count_by = ap length (sym new_are) ∙ length-map adds.new (λ (one : Active). one.local)

    count_next : length (locals_to at) ≡ listed_before code params names ahead at → length (locals_to (suc at)) ≡ listed_before code params names ahead (suc at)
    count_next before =
        let m = before_at of at in
        let count = count_new of at kind part is in
        let both = ap (λ (active : List Active). length active) adds.active in
        let next = ap length (locals_next at kind part is) in
        omega (arith, before, count, both, next, count_by, listed_next of at kind part is, length-append m.active adds.new, length-append (locals_to at) (locals_by kind part m))

    pub active_next : (now_at of (suc at)).maker.active ≡ (before_at of at).active ++ adds.new
    active_next = ap (λ (now : Performance). now.maker.active) is.makes ∙ adds.active

    stand_next : length (locals_to at) ≡ listed_before code params names ahead at → StandIn (locals_to at) (before_at of at).active → StandIn (locals_to (suc at)) (now_at of (suc at)).maker.active
    stand_next before stand =
        let m = before_at of at in
        let less = is.within in
        let listed : length m.locals ≡ length (locals_to at) = ((locals_listed code of.plain params names ahead block of.laid).before at (omega (arith, less))).count ∙ sym before in
        subst (λ (locals : List Local). StandIn locals (now_at of (suc at)).maker.active) (ap (λ (new : List Local). locals_to at ++ new) new_are ∙ sym (locals_next at kind part is))
        (subst (StandIn (locals_to at ++ locals_of adds.new)) (sym active_next) (stand_both (locals_to at) m.active adds.new stand (subst (λ n. InTurn n adds.new) listed adds.listed)))

  -- as many as are listed
  pub locals_count : (at : ℕ) → at ≤ length code.steps → length (locals_to at) ≡ listed_before code params names ahead at
  locals_count zero most = omega (arith, declare_length params (empty_maker ahead names))
    where
      declare_length : (texts : List Text) (m : Maker) → length (declare texts m).value ≡ length texts
      declare_length [] m = refl
      declare_length (text ∷ texts) m = ap suc (declare_length texts _)
  locals_count (suc at) most =
      let step = step_is of at (omega (arith, most)) in
      count_next at step.0 step.1 step.2 (locals_count at (omega (arith, most)))

  pub stand_before : (at : ℕ) → StandIn (locals_to at) (now_at of at).maker.active → StandIn (locals_to at) (before_at of at).active
  stand_before at stand register one there = stand register one (element_taken (still_active at (now_at of at).ends) (now_at of at).maker.active register one there)

  -- the active locals stand in the list
  pub stand_to : (at : ℕ) → at ≤ length code.steps → StandIn (locals_to at) (now_at of at).maker.active
  stand_to zero most =
      let empty = empty_maker ahead names in
      let declared = declare params empty in
      let adds = adds_both (adds_declared params empty) (adds_activated declared.value declared.after) in
      let are : locals_of (begun_of params names ahead).active ≡ declared.value = activated declared.value declared.after ∙ ap (λ (active : List Active). locals_of active ++ declared.value) (declared_active params empty) in
      let new : locals_of adds.new ≡ declared.value = ap locals_of (sym adds.active) ∙ are in
      subst (λ (locals : List Local). StandIn locals (begun_of params names ahead).active) new
      (subst (StandIn (locals_of adds.new)) (sym adds.active) (stand_both [] [] adds.new (λ register one there. there_none register one there) adds.listed))
    where
      there_none : (register : ℕ) (one : Active) → slice_get [] register ≡ Some one → slice_get [] one.listed ≡ Some one.local
      there_none register one there = cc
  stand_to (suc at) most =
      let step = step_is of at (omega (arith, most)) in
      stand_next at step.0 step.1 step.2 (locals_count at (omega (arith, most))) (stand_before at (stand_to at (omega (arith, most))))

  -- and so do those that were active before
  pub stand_later : (count at : ℕ) → at + count ≤ length code.steps → StandIn (locals_to (at + count)) (now_at of at).maker.active
  stand_later zero at most = subst (λ n. StandIn (locals_to n) (now_at of at).maker.active) (let same : at ≡ at + 0 = omega arith in same) (stand_to at (omega (arith, most)))
  stand_later (suc count) at most =
      subst (λ n. StandIn (locals_to n) (now_at of at).maker.active) (let same : suc (at + count) ≡ at + suc count = omega arith in same)
      (stand_longer (locals_to (at + count)) _ (now_at of at).maker.active (stand_later count at (omega (arith, most))))

  -- ---- what is known of their declarations

  module _ (formed : formed_statements block ≡ true) (all : List Mark) (place : Place) (rest : List Mark) (begun : (begun_of params names ahead).ahead ≡ ahead_at all place ((statements_part block place).marks ++ rest)) where
    abbrev first : State
    first = state_of place []

    -- so many declarations stand before a step
    abbrev pub declared_before : ℕ → ℕ
    declared_before at = (state_before code first at).place.declarations

    known : (at : ℕ) → at ≤ length code.steps → (before_at of at).ahead ≡ ahead_at all (state_before code first at).place ((run code at (length code.steps - at) (state_to code first at)).marks ++ rest)
    known at most = known_laid all g code of.plain params names ahead block of.laid formed of.stand place rest begun at (length code.steps - at) (omega (arith, most))

    pub number_at : (at : ℕ) → at ≤ length code.steps → (before_at of at).ahead.declarations ≡ declared_before at
    number_at at most = ap (λ (it : Ahead). it.declarations) (known at most)

    captures_at : (at : ℕ) → at ≤ length code.steps → (before_at of at).ahead.captures ≡ captures_from all (before_at of at).ahead.declarations
    captures_at at most = ap (λ (it : Ahead). it.captures) (known at most) ∙ ap (captures_from all) (sym (number_at at most))

    -- a step declares its names
    pub declares_more : (at : ℕ) (kind : StepKind) (part : Part) → StepIs of at kind part → declared_before at + length (names_by kind part) ≤ declared_before (suc at)
    declares_more at kind part is =
        let now = state_before code first at in
        let said = said_at code at now in
        let are : said ≡ says kind part now = ap₂ (λ kind part. says_at kind part now) is.there is.part_there in
        let next : said.after.place.declarations ≡ (part_said kind part now.place).next.declarations = ap (λ (it : Said). it.after.place.declarations) are ∙ ap (λ (place : Place). place.declarations) (says_part kind part now is.fits).1 in
        let grows = part_grows kind part now.place is.fits in
        omega (arith, grows, next, declarations_stay (suc at) said.after.place said.after.entries)

    declared_grows : (count at : ℕ) → at + count ≡ length code.steps → declared_before at ≤ declared_before (length code.steps)
    declared_grows zero at is = let same = ap declared_before (let same : at ≡ length code.steps = omega (arith, is) in same) in omega (arith, same)
    declared_grows (suc count) at is =
        let step = step_is of at (omega (arith, is)) in
        let here = declares_more at step.0 step.1 step.2 in
        let later = declared_grows count (suc at) (omega (arith, is)) in
        omega (arith, here, later)

    pub declared_last : declared_before (length code.steps) ≡ (statements_part block place).next.declarations
    declared_last = all_declarations code params names ahead block of.laid place

    module _ (declarations functions : ℕ) (marks : List Mark) (ahead_is : ahead ≡ ahead_by all declarations functions marks) (counted : (statements_part block place).next.declarations ≤ declarations_in all) where
      pub first_number : declarations + length params ≡ declared_before 0
      first_number =
          let empty = empty_maker ahead names in
          let declared = declare params empty in
          let start : ahead.declarations ≡ declarations = ap (λ (it : Ahead). it.declarations) ahead_is in
          let made : (begun_of params names ahead).ahead.declarations ≡ declared.after.ahead.declarations = activate_stays declared.value declared.after in
          let known : (begun_of params names ahead).ahead.declarations ≡ place.declarations = ap (λ (it : Ahead). it.declarations) begun in
          let all_of = declare_counts params empty in
          omega (arith, start, made, known, all_of)
        where
          activate_stays : (locals : List Local) (m : Maker) → (activate locals m).ahead.declarations ≡ m.ahead.declarations
          activate_stays [] m = refl
          activate_stays (local ∷ locals) m = activate_stays locals _

          declare_counts : (texts : List Text) (m : Maker) → (declare texts m).after.ahead.declarations ≡ m.ahead.declarations + length texts
          declare_counts [] m = omega arith
          declare_counts (text ∷ texts) m =
              let rest = declare_counts texts (record m { ahead = record (m.ahead) { captures = drop 1 m.ahead.captures; declarations = suc m.ahead.declarations } }) in
              omega (arith, rest)

      wider : (low high higher : ℕ) (locals : List Local) → high ≤ higher → AreSound all low high locals → AreSound all low higher locals
      wider low high higher locals more sound = record {
        low_of = sound.low_of;
        high_of = λ i one d there is. let h = sound.high_of i one d there is in omega (arith, h, more);
        captured = sound.captured;
        hidden = sound.hidden;
        once = sound.once;
      }

      -- the locals before a step have declarations of the function before it, each its own, and are captured where these are
      pub sound_to : (at : ℕ) → at ≤ length code.steps → AreSound all declarations (declared_before at) (locals_to at)
      sound_to zero most =
          let empty = empty_maker ahead names in
          let start : ahead.declarations ≡ declarations = ap (λ (it : Ahead). it.declarations) ahead_is in
          let are : ahead.captures ≡ captures_from all ahead.declarations = ap (λ (it : Ahead). it.captures) ahead_is ∙ ap (captures_from all) (sym start) in
          let grows = declared_grows (length code.steps) 0 (omega arith) in
          let few : ahead.declarations + length params ≤ declarations_in all = omega (arith, start, first_number, grows, declared_last, counted) in
          subst (λ low. AreSound all low (declared_before 0) (locals_to 0)) start
          (wider ahead.declarations (ahead.declarations + length params) (declared_before 0) (locals_to 0) (omega (arith, start, first_number)) (sound_declared all params empty are few))
      sound_to (suc at) most =
          let step = step_is of at (omega (arith, most)) in
          let kind = step.0 in
          let part = step.1 in
          let m = before_at of at in
          let within : at ≤ length code.steps = omega (arith, most) in
          let before = sound_to at within in
          let number = number_at at within in
          let here = declares_more at kind part step.2 in
          let grows = declared_grows (length code.steps - suc at) (suc at) (omega (arith, most)) in
          let few : m.ahead.declarations + length (names_by kind part) ≤ declarations_in all = omega (arith, number, here, grows, declared_last, counted) in
          let new = sound_step all kind part m (captures_at at within) few in
          subst (AreSound all declarations (declared_before (suc at))) (sym (locals_next at kind part step.2))
          (sound_both all declarations (declared_before at) (declared_before (suc at)) (locals_to at) (locals_by kind part m) (from_first at within) (omega (arith, here)) before
          (subst (λ low. AreSound all low (declared_before (suc at)) (locals_by kind part m)) number
          (wider m.ahead.declarations (m.ahead.declarations + length (names_by kind part)) (declared_before (suc at)) (locals_by kind part m) (omega (arith, number, here)) new)))
        where
          from_first : (at : ℕ) → at ≤ length code.steps → declarations ≤ declared_before at
          from_first zero most = omega (arith, first_number)
          from_first (suc at) most =
              let step = step_is of at (omega (arith, most)) in
              let here = declares_more at step.0 step.1 step.2 in
              let before = from_first at (omega (arith, most)) in
              omega (arith, here, before)
