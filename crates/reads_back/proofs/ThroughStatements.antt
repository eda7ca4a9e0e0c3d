-- The parts of every statement of a block stand, with their law, each from the words that are made before it to those that are made with it.
use Rattle.std.proofs.Common.{◌≡◌, ℕ, suc, Bool, true, ◌&&◌, List, length, get_or, refl, sym, ◌∙◌, subst, arith}
use Rattle.std.specs.Prelude.{Option, is_some, ◌||◌}
use Rattle.lua_tree.specs.Outline.{Mark, Place, branches_part, expression_part, otherwise_part, statement_part, statements_part, stay, within}
use Rattle.lua_tree.specs.Syntax as syntax
use Rattle.lua_tree.specs.Syntax.{Statements, no_statements, Statement, assignment, call_statement, do_block, while_loop, repeat_loop, if_statement, numeric_for, generic_for, function_statement, local_function, local_statement, return_statement, break_statement, Branches, no_branches, branch, Otherwise, no_otherwise, otherwise}
use Rattle.lua_tree.specs.WellFormed.{formed_branches, formed_expression, formed_otherwise, formed_statement, formed_statements, has_branches, may_follow}
use Rattle.scheme.specs.Making.{Maker, new_label}
use Rattle.scheme.specs.Scheme.{branches_made, coded, has_branch, has_otherwise, otherwise_made, statement_made, statements_made}
use Rattle.scheme.specs.Statements.{Loop, arm_part, settle}
use Rattle.scheme_stands.specs.Placed.{RulesKept}
use Rattle.scheme_stands.specs.Relation.{StatementAt}
use Rattle.scheme_stands.specs.Words.{Names, asking}
use Rattle.scheme_stands.proofs.Blocks.{Settled, arm_calm, loop_at}
use Rattle.scheme_stands.proofs.Counting.{branches_closed, expression_closed, statement_counted}
use Rattle.scheme_stands.proofs.Every.{statement_at}
use Rattle.scheme_stands.proofs.Growth.{Final, before, before_free, calm, fn_of, later, length_end, spot, unplaced}
use Rattle.scheme_stands.proofs.Here.{tame_branches, tame_otherwise}
use Rattle.scheme_stands.proofs.Lawful.{statement_lift}
use Rattle.scheme_stands.proofs.Lifts.{Stands, stands_behind, stands_first}
use Rattle.scheme_stands.proofs.Parts.{grows}
use Rattle.scheme_stands.proofs.Scopes.{branches_move}
use Rattle.scheme_stands.proofs.Small.{Setting}
use Rattle.scheme_stands.proofs.Standing.{stands_onwards, stands_statement}
use Rattle.scheme_stands.proofs.Statements.{calm_branches, calm_otherwise, grow_statement, grow_statements}
use Rattle.scheme_stands.proofs.Walks.{and_left, and_right}
use Rattle.scheme_stands.proofs.Words.{Lifted}
use Rattle.reads_back.proofs.ThroughBranches.{arm_behind, arm_through, branch_words}
use Rattle.reads_back.proofs.ThroughGeneric.{generic_through}
use Rattle.reads_back.proofs.ThroughLoops.{do_through, repeat_through, while_through}
use Rattle.reads_back.proofs.ThroughNumeric.{numeric_through}
use Rattle.reads_back.proofs.ThroughParts.{block_lifted, in_block, loop_same, loop_some}
use Rattle.reads_back.proofs.ThroughTests.{stands_made}
use Rattle.reads_back.specs.Through as through
use Rattle.reads_back.specs.Through.{BodyThrough, BranchesThrough, OtherwiseThrough, StatementThrough}

module _ (all : List Mark) (rules : RulesKept all) (n : Names) (z : Maker) (setting : Setting n (fn_of z)) where
  -- the whole of a statement
  whole_lifted : (s : Statement) (line : ℕ) (loop : Option Loop) (m : Maker) (place : Place) (rest : List Mark) → formed_statement s ≡ true → Settled m → Final (length m.labels) (statement_made s line loop m) z → is_some loop ≡ place.looped → Stands all n (fn_of z) (statement_part line s) place rest m.active (spot m) →
      Lifted (fn_of z) (StatementAt (asking n (fn_of z)) (loop_at z loop) s m.active (statement_made s line loop m).active (spot m) (spot (statement_made s line loop m))) (spot (statement_made s line loop m))
  whole_lifted s line loop m place rest formed settled final some stands =
      let o = statement_made s line loop m in
      statement_lift all rules line s formed n (fn_of z) setting (loop_at z loop) place rest m.active o.active (spot m) (spot o) (loop_some z loop ∙ some) stands (statement_at z s line loop m settled final)

  whole : (s : Statement) (line : ℕ) (loop : Option Loop) (m : Maker) (place : Place) (rest : List Mark) → formed_statement s ≡ true → Settled m → Final (length m.labels) (statement_made s line loop m) z → is_some loop ≡ place.looped → Stands all n (fn_of z) (statement_part line s) place rest m.active (spot m) →
      StatementAt (asking n (fn_of z)) (through.loop_at z loop) s m.active (statement_made s line loop m).active (spot m) (spot (statement_made s line loop m))
  whole s line loop m place rest formed settled final some stands =
      let o = statement_made s line loop m in
      let lifted = whole_lifted s line loop m place rest formed settled final some stands in
      subst (λ loop. StatementAt (asking n (fn_of z)) loop s m.active o.active (spot m) (spot o)) (loop_same z loop) lifted.is

  mutual
    pub body_through : (block : Statements) (loop : Option Loop) (m : Maker) (place : Place) (rest : List Mark) → formed_statements block ≡ true → Settled m → Final (length m.labels) (statements_made block loop m) z → is_some loop ≡ place.looped →
        Stands all n (fn_of z) (statements_part block) place rest m.active (spot m) → BodyThrough (asking n (fn_of z)) z loop block m
    body_through no_statements loop m place rest formed settled final some stands = tt
    body_through (syntax.statement line semi s more) loop m place rest formed settled final some stands =
        let first = and_left (formed_statement s) (may_follow s semi more && formed_statements more) formed in
        let others = and_right (may_follow s semi more) (formed_statements more) (and_right (formed_statement s) (may_follow s semi more && formed_statements more) formed) in
        let o = statement_made s line loop m in
        let grown = grow_statement s line loop m settled in
        let here = before_free (length o.active) o (before (grow_statements more loop (settle o) refl) final) in
        let at = stands_statement all n (fn_of z) line semi s more place rest m.active (spot m) stands in
        let lifted = whole_lifted s line loop m place _ first settled here some at in (
          statement_through s line loop m place _ first settled here some at,
          body_through more loop (settle o) (statement_part line s place).next rest others refl (later grown.more final) (some ∙ sym (statement_counted line s place).looped)
              (stands_onwards all n (fn_of z) (loop_at z loop) line semi s more place rest m.active o.active (spot m) (spot o) first stands (statement_at z s line loop m settled here) lifted.plain),
        )

    statement_through : (s : Statement) (line : ℕ) (loop : Option Loop) (m : Maker) (place : Place) (rest : List Mark) → formed_statement s ≡ true → Settled m → Final (length m.labels) (statement_made s line loop m) z → is_some loop ≡ place.looped →
        Stands all n (fn_of z) (statement_part line s) place rest m.active (spot m) → StatementThrough (asking n (fn_of z)) z line loop s m
    statement_through (do_block block) line loop m place rest formed settled final some stands = do_through all rules n z setting line block (body_through block) loop m place rest formed settled final some stands
    statement_through (while_loop e block) line loop m place rest formed settled final some stands = while_through all rules n z setting line e block (body_through block) loop m place rest formed settled final stands
    statement_through (repeat_loop block e) line loop m place rest formed settled final some stands = repeat_through all rules n z setting line block e (body_through block) loop m place rest formed settled final stands
    statement_through (if_statement branches last) line loop m place rest formed settled final some stands =
        let h = and_right (has_branches branches) _ formed in
        let hb = and_left (formed_branches branches) (formed_otherwise last) h in
        let ho = and_right (formed_branches branches) (formed_otherwise last) h in
        let end = length m.labels in
        let begun = (new_label m).after in
        let more = has_otherwise last in
        let made = branches_made branches line loop end more begun in
        let whole_made = otherwise_made last line loop made in
        let b = calm_branches branches line loop end more begun settled in
        let o = calm_otherwise last line loop made b.settled in
        let grown = b.grown in
        let one : length begun.labels ≡ suc end = length_end m.labels 0 in
        let f_whole : Final (suc end) whole_made z = unplaced {n = whole_made} end (omega arith) final in
        let f_made : Final (length begun.labels) made z = later (omega (arith, one)) (before o.grown f_whole) in
        let arms_part = branches_part branches in
        let last_part = otherwise_part last in
        let arms = branches_through branches line loop end more begun place _ hb settled f_made some (stands_first all n (fn_of z) arms_part last_part place rest m.active (spot m) (tame_branches branches) (tame_otherwise last) stands) in
        let moves = branches_move all (fn_of z) (loop_at z loop) (get_or z.labels end 0) more branches hb m.active (spot m) (spot made) (branch_words z branches line loop end more begun settled f_made) in
        let behind = stands_made all rules n z setting last_part (arms_part place).next rest m.active made.active (spot made) grown.active
        (stands_behind all n (fn_of z) arms_part last_part place rest m.active (spot m) (spot made) (record { tame = tame_branches branches; closed = branches_closed branches }) moves arms.plain stands) in
        (arms.is, otherwise_through last line loop made (arms_part place).next rest ho b.settled (later (omega (arith, one, grown.more)) f_whole) (some ∙ sym (branches_closed branches place).counted.looped) behind)
    statement_through (numeric_for name first last by block) line loop m place rest formed settled final some stands = numeric_through all rules n z setting line name first last by block loop m settled final (body_through block) place rest formed stands
    statement_through (generic_for names es block) line loop m place rest formed settled final some stands = generic_through all rules n z setting line names es block loop m settled final (body_through block) place rest formed stands
    statement_through (assignment targets es) line loop m place rest formed settled final some stands = whole (assignment targets es) line loop m place rest formed settled final some stands
    statement_through (call_statement e) line loop m place rest formed settled final some stands = whole (call_statement e) line loop m place rest formed settled final some stands
    statement_through (function_statement path method body) line loop m place rest formed settled final some stands = whole (function_statement path method body) line loop m place rest formed settled final some stands
    statement_through (local_function name body) line loop m place rest formed settled final some stands = whole (local_function name body) line loop m place rest formed settled final some stands
    statement_through (local_statement names es) line loop m place rest formed settled final some stands = whole (local_statement names es) line loop m place rest formed settled final some stands
    statement_through (return_statement es) line loop m place rest formed settled final some stands = whole (return_statement es) line loop m place rest formed settled final some stands
    statement_through break_statement line loop m place rest formed settled final some stands = whole break_statement line loop m place rest formed settled final some stands

    branches_through : (branches : Branches) (line : ℕ) (loop : Option Loop) (end : ℕ) (more : Bool) (m : Maker) (place : Place) (rest : List Mark) → formed_branches branches ≡ true → Settled m → Final (length m.labels) (branches_made branches line loop end more m) z → is_some loop ≡ place.looped →
        Stands all n (fn_of z) (branches_part branches) place rest m.active (spot m) → Lifted (fn_of z) (BranchesThrough (asking n (fn_of z)) z line loop end more branches m) (spot (branches_made branches line loop end more m))
    branches_through no_branches line loop end more m place rest formed settled final some stands = record { is = tt; plain = stands.plain }
    branches_through (branch e block others) line loop end more m place rest formed settled final some stands =
        let hx = and_left (formed_expression e) _ formed in
        let h = and_right (formed_expression e) _ formed in
        let hb = and_left (formed_statements block) (formed_branches others) h in
        let ho = and_right (formed_statements block) (formed_branches others) h in
        let on = has_branch others || more in
        let arm = arm_part line end on (coded e) (statements_made block loop) m in
        let c = arm_calm line end on (coded e) (statements_made block loop) (grows calm e) (grow_statements block loop) m settled in
        let d = calm_branches others line loop end more arm c.settled in
        let grown = c.grown in
        let f_arm = before d.grown final in
        let first = arm_through all rules n z setting line end on e block loop m hx hb settled f_arm (branches_part others) (tame_branches others) place rest stands (body_through block) some in
        let behind = arm_behind all rules n z setting line end on e block loop m hx hb settled f_arm (branches_part others) (tame_branches others) place rest stands (record { is = tt; plain = first.plain }) in
        let rest_of = branches_through others line loop end more arm (within stay (statements_part block) (expression_part e place).next).next rest ho c.settled (later grown.more final) (some ∙ sym (expression_closed e place).counted.looped) behind in
        record { is = (first.is.0, first.is.1, first.is.2, first.is.3, rest_of.is); plain = rest_of.plain }

    otherwise_through : (last : Otherwise) (line : ℕ) (loop : Option Loop) (m : Maker) (place : Place) (rest : List Mark) → formed_otherwise last ≡ true → Settled m → Final (length m.labels) (otherwise_made last line loop m) z → is_some loop ≡ place.looped →
        Stands all n (fn_of z) (otherwise_part last) place rest m.active (spot m) → OtherwiseThrough (asking n (fn_of z)) z line loop last m
    otherwise_through no_otherwise line loop m place rest formed settled final some stands = tt
    otherwise_through (otherwise block) line loop m place rest formed settled final some stands =
        let lifted = block_lifted all rules n z setting line block (body_through block) loop m place rest formed settled final some (in_block all rules n z setting block place rest m.active (spot m) stands) in
        lifted.is
