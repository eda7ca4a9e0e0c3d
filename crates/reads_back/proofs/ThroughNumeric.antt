-- The parts of a numeric `for` stand, with their law, where those of its block do.
use Rattle.std.proofs.Common.{◌≡◌, ◌≤◌, ℕ, suc, ◌+◌, List, [], ◌∷◌, length, sym, ap, ◌∙◌, subst, arith, true, refl}
use Rattle.std.specs.Prelude.{Option, Some}
use Rattle.lua_num.specs.Bytes.{Text}
use Rattle.lua_tree.specs.Outline.{Mark, Place, both, declares, expression_part, statement_part, statements_part, step_part, within}
use Rattle.lua_tree.specs.Syntax.{Expression, ForStep, Statements, by_step, no_step, numeric_for}
use Rattle.opcode.specs.declared.op.Op.{Op}
use Rattle.scheme.specs.Expressions.{next_reg}
use Rattle.scheme.specs.Making.{Maker, active_count, declare, end_locals, place, put}
use Rattle.scheme.specs.Scheme.{coded, statement_made, statements_made, step_coded}
use Rattle.scheme.specs.Statements as scheme
use Rattle.scheme.specs.Statements.{Loop, end_block, numeric_names, turn}
use Rattle.scheme.specs.declared.making.Local.{Local}
use Rattle.scheme.specs.declared.making.Piece.{Piece}
use Rattle.scheme_stands.specs.Placed.{RulesKept}
use Rattle.scheme_stands.specs.Relation.{StepAt, related}
use Rattle.scheme_stands.specs.Words.{Names, asking}
use Rattle.scheme_stands.proofs.Blocks.{Settled, before_end}
use Rattle.scheme_stands.proofs.Every.{links}
use Rattle.scheme_stands.proofs.Fors.{StepStands, by_step_stands, no_step_stands, turn_grows}
use Rattle.scheme_stands.proofs.Growth.{Final, Grown, before, before_put, calm, fn_of, length_end, loose, on_new, on_part, on_place, on_put, start, unplaced, unplaced_below, put_at, spot, length_set, later}
use Rattle.scheme_stands.proofs.Lines.{activate_free, activate_length, grows_activate, grows_declare, activated, declared}
use Rattle.scheme_stands.proofs.Parts.{grows, grows_next}
use Rattle.scheme_stands.proofs.Small.{Setting, field_a}
use Rattle.scheme_stands.proofs.Statements.{grow_statements, step_grows}
use Rattle.same_flow.specs.Laid.{for_loop_of, numeric_begun, numeric_valued, with_new_labels}
use Rattle.reads_back.proofs.ThroughTurns.{before_turn, before_variables, loop_part, place_in, turn_lifted, turn_settled, turn_stands, values_stand}
use Rattle.reads_back.specs.Through.{turn_made, StatementThrough, pc_of_label}
use Rattle.reads_back.proofs.ExpressionsLawful.{expression_lifts, step_lift}
use Rattle.lua_tree.specs.Names.{is_name}
use Rattle.lua_tree.specs.WellFormed.{formed_expression, formed_statement, formed_statements, formed_step}
use Rattle.scheme_stands.specs.Functions.{Activated}
use Rattle.scheme_stands.proofs.Counting.{values_closed}
use Rattle.scheme_stands.proofs.Here.{here_as, numbers_part, tame_both, tame_expression, tame_numbers, tame_statements, tame_step, tame_turn, turn_in}
use Rattle.scheme_stands.proofs.Lifting.{calm_expression}
use Rattle.scheme_stands.proofs.Lifts.{Stands, stands_behind, stands_first, stands_first_by}
use Rattle.scheme_stands.proofs.Links.{next_at}
use Rattle.scheme_stands.proofs.Moving.{chain}
use Rattle.scheme_stands.proofs.Scopes.{expression_moves, step_moves}
use Rattle.scheme_stands.proofs.Walks.{and_left, and_right}
use Rattle.scheme_stands.proofs.Words.{jump_lift}
use Rattle.reads_back.proofs.ThroughParts.{IsThrough}

-- three new labels
pub three_labels : (m : Maker) → length (with_new_labels 3 m).labels ≡ suc (suc (suc (length m.labels)))
three_labels m = length_end (with_new_labels 2 m).labels 0 ∙ ap suc (length_end (with_new_labels 1 m).labels 0 ∙ ap suc (length_end m.labels 0))

pub second_label : (m : Maker) → length (with_new_labels 1 m).labels ≡ suc (length m.labels)
second_label m = length_end m.labels 0

pub third_label : (m : Maker) → length (with_new_labels 2 m).labels ≡ suc (suc (length m.labels))
third_label m = length_end (with_new_labels 1 m).labels 0 ∙ ap suc (length_end m.labels 0)

step_stands : (z : Maker) (line : ℕ) (step : ForStep) → StepStands z line (step_coded step) (StepAt (fn_of z) step)
step_stands z line no_step = no_step_stands z line
step_stands z line (by_step e) = by_step_stands z line (coded e) (related (fn_of z) e) (links z e)

module _ (line : ℕ) (name : Text) (first last : Expression) (by : ForStep) (block : Statements) (m : Maker) where
  abbrev begun_with : Maker
  begun_with = (declare (name ∷ []) m).after

  abbrev variables : List Local
  variables = (declare (name ∷ []) m).value

  abbrev with_first : Maker
  with_first = next_reg (coded first) begun_with

  abbrev with_last : Maker
  with_last = next_reg (coded last) with_first

  abbrev with_step : Maker
  with_step = scheme.step_part line (step_coded by) with_last

  abbrev valued : Maker
  valued = numeric_valued line name first last by m

  abbrev loop_begun : (end : ℕ) → Maker
  loop_begun end = place (length valued.labels) (put line (Piece.Jump Op.ForPrep m.free end) (with_new_labels 3 valued))

  abbrev numeric_from : (end exit : ℕ) → Maker
  numeric_from end exit =
      place exit (put line (Piece.Jump Op.ForLoop m.free (length valued.labels)) (place end (turn line m.free variables (statements_made block (Some (record { exit = exit; before = active_count m }))) (loop_begun end))))

  pub numeric_laid : (loop : Option Loop) → statement_made (numeric_for name first last by block) line loop m ≡ end_locals (active_count m) (numeric_from (suc (length valued.labels)) (suc (suc (length valued.labels))))
  numeric_laid loop =
      ap (λ end. end_locals (active_count m) (numeric_from end (length (with_new_labels 2 valued).labels))) (second_label valued) ∙ ap (λ exit. end_locals (active_count m) (numeric_from (suc (length valued.labels)) exit)) (third_label valued)

  -- what its parts keep
  first_grown : Grown calm begun_with with_first
  first_grown = grows_next (coded first) (grows calm first) begun_with

  last_grown : Grown calm with_first with_last
  last_grown = grows_next (coded last) (grows calm last) with_first

  step_grown : Grown calm with_last with_step
  step_grown = let s = step_grows line by in s.grown with_last

  numbers_grown : Grown calm m with_step
  numbers_grown = on_part step_grown (on_part last_grown (on_part first_grown (grows_declare calm (name ∷ []) m)))

  numbers_free : with_step.free ≡ m.free + 3
  numbers_free =
      let a = (grows calm first).to_free begun_with.free begun_with in
      let b = (grows calm last).to_free with_first.free with_first in
      let s = step_grows line by in
      let c = s.free with_last in
      omega (arith, a, b, c)

  loop_active : (end : ℕ) → length (loop_begun end).active ≡ length m.active + 3
  loop_active end = let a = activate_length numeric_names with_step in let b = numbers_grown in omega (arith, a, ap length b.active)

  loop_settled : (end : ℕ) → Settled m → Settled (loop_begun end)
  loop_settled end settled = let a = activate_free numeric_names with_step in let b = numbers_free in omega (arith, a, b, loop_active end, settled)

module _ (all : List Mark) (rules : RulesKept all) (n : Names) (z : Maker) (setting : Setting n (fn_of z)) where
  module _ (line : ℕ) (name : Text) (first last : Expression) (by : ForStep) (block : Statements) (loop : Option Loop) (m : Maker) (settled : Settled m) (final : Final (length m.labels) (statement_made (numeric_for name first last by block) line loop m) z) where
    abbrev begin : ℕ
    begin = length (valued line name first last by block m).labels

    abbrev inner : Option Loop
    inner = for_loop_of (active_count m) (numeric_valued line name first last by m)

    abbrev prepared : Maker
    prepared = put line (Piece.Jump Op.ForPrep m.free (suc begin)) (with_new_labels 3 (numeric_valued line name first last by m))

    abbrev ended : Maker
    ended = end_block line (m.free + 3) (turn_made line block inner (numeric_begun line name first last by m))

    abbrev back : Maker
    back = put line (Piece.Jump Op.ForLoop m.free begin) (place (suc begin) ended)

    labels_more : length m.labels ≤ begin
    labels_more =
        let a = numbers_grown line name first last by block m in
        let b : Grown loose (with_step line name first last by block m) (valued line name first last by block m) = grows_activate numeric_names (with_step line name first last by block m) in
        omega (arith, a.more, b.more)

    whole_final : Final (length m.labels) (place (suc (suc begin)) back) z
    whole_final = before_end (active_count m) (place (suc (suc begin)) back) (subst (λ o. Final (length m.labels) o z) (numeric_laid line name first last by block m loop) final)

    back_final : Final (suc (suc (suc begin))) back z
    back_final = unplaced {n = back} (suc (suc begin)) (omega (arith, labels_more)) whole_final

    ended_final : Final (suc (suc (suc begin))) ended z
    ended_final = unplaced_below {n = ended} (suc begin) (omega arith) (before_put line (Piece.Jump Op.ForLoop m.free begin) (place (suc begin) ended) back_final)

    begun_final : Final (suc (suc (suc begin))) (place begin prepared) z
    begun_final =
        let at = place begin prepared in
        before_variables (variables line name first last by block m) at (before_turn line (m.free + 3) block inner (variables line name first last by block m) at (loop_settled line name first last by block m (suc begin) settled) ended_final)

    prepared_final : Final (suc (suc (suc begin))) prepared z
    prepared_final = unplaced_below {n = prepared} begin (omega arith) begun_final

    step_final : Final (length m.labels) (with_step line name first last by block m) z
    step_final =
        let at = valued line name first last by block m in
        let vs = variables line name first last by block m in
        let turned = turn_grows line vs (statements_made block inner) (grow_statements block inner) m.free (place begin prepared) (loop_active line name first last by block m (suc begin) ∙ ap (λ k. k + 3) (sym settled)) (loop_settled line name first last by block m (suc begin) settled) in
        let grown : Grown calm at (place (suc (suc begin)) back) =
        on_place {m = at} {n = back} (suc (suc begin)) (omega arith) (on_put line (Piece.Jump Op.ForLoop m.free begin) (on_place {m = at} {n = ended} (suc begin) (omega arith) (on_part turned (on_place {n = prepared} begin (omega arith) (on_put line (Piece.Jump Op.ForPrep m.free (suc begin)) (on_new (on_new (on_new (start at))))))))) in
        let hidden : Grown loose (with_step line name first last by block m) at = grows_activate numeric_names (with_step line name first last by block m) in
        before hidden (before grown whole_final)

    pub numeric_through : IsThrough all rules n z setting block → (at : Place) (rest : List Mark) → formed_statement (numeric_for name first last by block) ≡ true → Stands all n (fn_of z) (statement_part line (numeric_for name first last by block)) at rest m.active (spot m) →
        StatementThrough (asking n (fn_of z)) z line loop (numeric_for name first last by block) m
    numeric_through through at rest formed stands =
        let f = fn_of z in
        let h1 = and_right (is_name name) _ formed in
        let h2 = and_right (formed_expression first) _ h1 in
        let h3 = and_right (formed_expression last) _ h2 in
        let f1 = and_left (formed_expression first) _ h1 in
        let f2 = and_left (formed_expression last) _ h2 in
        let f3 = and_left (formed_step by) (formed_statements block) h3 in
        let fb = and_right (formed_step by) (formed_statements block) h3 in
        let names = name ∷ [] in
        let active = m.active in
        let vs = variables line name first last by block m in
        let m1 = begun_with line name first last by block m in
        let m2 = with_first line name first last by block m in
        let m3 = with_last line name first last by block m in
        let m4 = with_step line name first last by block m in
        let m5 = numeric_valued line name first last by m in
        let m7 = place begin prepared in
        let begun = numeric_begun line name first last by m in
        let ready = with_new_labels 3 m5 in
        let a = expression_part first in
        let b = expression_part last in
        let c = step_part by in
        let bc = both b c in
        let values = numbers_part first last by in
        let turned_part = within (turn_in names at.declarations) (statements_part block) in
        let tame = tame_numbers first last by in
        let tame_bc = tame_both b c (tame_expression last) (tame_step by) in
        let p1 = (declares line 3 names at).next in
        let closed = values_closed first last by p1 in
        let whole : Stands all n f (loop_part line names values block at.declarations) at rest active (spot m) = record {
          here = here_as all (statement_part line (numeric_for name first last by block)) (loop_part line names values block at.declarations) at rest (spot m) refl stands.here;
          active_at = stands.active_at;
          named = stands.named;
          room = stands.room;
          plain = stands.plain;
        } in
        let numbers = stands_first_by all n f values turned_part p1 rest active (spot m1) (omega arith) tame (tame_turn names at.declarations (statements_part block) (tame_statements block)) (values_stand all n f line names values block at rest tame closed active (spot m) (spot m1) vs (declared names m) whole stands.plain) in
        let grown1 = first_grown line name first last by block m in
        let grown2 = last_grown line name first last by block m in
        let grown = numbers_grown line name first last by block m in
        let final4 = step_final in
        let final3 = before (step_grown line name first last by block m) final4 in
        let l1 = links z first in
        let l2 = links z last in
        let n1 = next_at z (coded first) (related f first) l1.to m1 (before grown2 final3) in
        let n2 = next_at z (coded last) (related f last) l2.to m2 (later grown1.more final3) in
        let n3 = step_stands z line by m3 (later (omega (arith, grown1.more, grown2.more)) final4) in
        let words2 = subst (λ active. (related f last).to_reg active m2.free m2.free (spot m2) (spot m3)) grown1.active n2.value_at in
        let words3 = subst (λ active. StepAt f by active m3.free (spot m3) (spot m4)) (grown2.active ∙ grown1.active) n3 in
        let lifts1 = expression_lifts all rules n f setting first f1 in
        let lifts2 = expression_lifts all rules n f setting last f2 in
        let g1 = (expression_moves all f first f1).value in
        let g2 = (expression_moves all f last f2).value in
        let moves1 = g1.to_reg active m1.free m1.free (spot m1) (spot m2) n1.value_at in
        let moves2 = g2.to_reg active m2.free m2.free (spot m2) (spot m3) words2 in
        let moves3 = step_moves all f by f3 active m3.free (spot m3) (spot m4) words3 in
        let one = lifts1.to_reg active m1.free m1.free n1.room p1 _ (spot m1) (spot m2) (stands_first all n f a bc p1 _ active (spot m1) (tame_expression first) tame_bc numbers) n1.value_at in
        let others = stands_behind all n f a bc p1 _ active (spot m1) (spot m2) (calm_expression first) moves1 one.plain numbers in
        let two = lifts2.to_reg active m2.free m2.free n2.room (a p1).next _ (spot m2) (spot m3) (stands_first all n f b c (a p1).next _ active (spot m2) (tame_expression last) (tame_step by) others) words2 in
        let steps = step_grows line by in
        let three = step_lift all rules by f3 n f setting active m3.free (omega (arith, steps.high m3, final4.high)) (b (a p1).next).next _ (spot m3) (spot m4) (stands_behind all n f b c (a p1).next _ active (spot m2) (spot m3) (calm_expression last) moves2 two.plain others) words3 in
        let moves = chain all a bc (spot m1) (spot m2) (spot m4) moves1 (chain all b c (spot m2) (spot m3) (spot m4) moves2 moves3) in
        let room = stands.room in
        let base = field_a n f m.free setting (omega (arith, settled, room)) in
        let prepare = jump_lift n f Op.ForPrep m.free (pc_of_label z (suc begin)) (record { is = refl; none = λ inner i. refl }) base (spot ready) (spot prepared) three.plain (put_at line (Piece.Jump Op.ForPrep m.free (suc begin)) ready prepared_final) in
        let settled7 = loop_settled line name first last by block m (suc begin) settled in
        let begun_made = before_turn line (m.free + 3) block inner vs m7 settled7 ended_final in
        let high = begun_made.high in
        let settled_begun = turn_settled vs m7 settled7 in
        let inside = turn_stands all n f line names values block at rest tame closed active (spot m) (spot m1) vs (declared names m) whole numeric_names refl (refl, (refl, (refl, tt))) m5.active begun.active
        (subst (λ active. Activated numeric_names active m5.active) grown.active (activated numeric_names m4)) (activated vs m7) (spot begun) moves (omega (arith, high, settled_begun)) prepare.plain in
        let count : length m7.labels ≡ suc (suc (suc begin)) = length_set ready.labels begin (length prepared.items) ∙ three_labels m5 in
        let turned = turn_lifted all rules n z setting line (m.free + 3) block through inner vs m7 (place_in line names values at) rest fb (loop_active line name first last by block m (suc begin) ∙ ap (λ k. k + 3) (sym settled)) settled7 (later (omega (arith, count)) ended_final) refl inside in
        let word = jump_lift n f Op.ForLoop m.free (pc_of_label z begin) (record { is = refl; none = λ inner i. refl }) base (spot (place (suc begin) ended)) (spot back) turned.plain (put_at line (Piece.Jump Op.ForLoop m.free begin) (place (suc begin) ended) back_final) in
        ((one.is, two.is, three.is), prepare.is, turned.is.0, turned.is.1, turned.is.2, word.is)
