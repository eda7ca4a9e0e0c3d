-- What steps make stays: a function in the making grows with each step, up to the one behind all steps.
use Rattle.std.proofs.Common.{◌≡◌, ◌≤◌, ℕ, zero, suc, ◌+◌, ◌-◌, Bool, true, false, List, [], ◌∷◌, length, refl, arith, subst}
use Rattle.std.specs.Prelude.{None, Option, Some}
use Rattle.lua_num.specs.Bytes.{Text}
use Rattle.lua_tree.specs.Syntax.{Expressions, expression, no_expressions, return_statement}
use Rattle.opcode.specs.declared.op.Op.{Op}
use Rattle.recover_expr.specs.Drafts.{Part, condition_part, head_part, nothing_part, statement_part, values_part}
use Rattle.recover_expr.specs.Placing.{Steps}
use Rattle.recover_expr.specs.declared.steps.StepKind.{StepKind}
use Rattle.scheme.specs.Making.{Ahead, Maker, active_count, declare}
use Rattle.scheme.specs.Scheme.{all_coded, coded}
use Rattle.scheme.specs.Statements.{generic_names, numeric_names}
use Rattle.scheme.specs.declared.making.Piece.{Piece}
use Rattle.scheme_stands.proofs.Blocks.{Settled, end_any, forget, loosen}
use Rattle.scheme_stands.proofs.Fors.{by_step_grows, no_step_grows}
use Rattle.scheme_stands.proofs.Growth.{Grown, Kept, any, calm, loose, on_free, on_part, on_put, on_take, on_used, start}
use Rattle.scheme_stands.proofs.Lines.{grows_activate, grows_adjust, grows_declare}
use Rattle.scheme_stands.proofs.Parts.{grow_all, grows, grows_next}
use Rattle.scheme_stands.proofs.Statements.{grow_statement}
use Rattle.same_flow.specs.Listed.{pc_of_step}
use Rattle.same_flow.specs.Performed.{Performance, behind_step, counted_values, ended_before, head_made, kind_at, kind_made, part_at, part_made, performed_to, still_active, tested_made}
use Rattle.same_flow.specs.Told.{at_beginning}

-- ---- one step

part_grows : (part : Part) (m : Maker) → Settled m → Grown loose m (part_made part m)
part_grows (statement_part s) m settled = grow_statement s 1 None m settled
part_grows (values_part es) m settled = grow_statement (return_statement es) 1 None m settled
part_grows nothing_part m settled = start m
part_grows (condition_part e) m settled = start m
part_grows (head_part values names) m settled = start m

test_part_grows : (when : Bool) (target : ℕ) (part : Part) (m : Maker) → Grown loose m (tested_made when target part m)
test_part_grows when target (condition_part e) m = (grows loose e).jump_if when target m
test_part_grows when target nothing_part m = start m
test_part_grows when target (statement_part s) m = start m
test_part_grows when target (values_part es) m = start m
test_part_grows when target (head_part values names) m = start m

counted_grows : (es : Expressions) (m : Maker) → Grown loose m (counted_values es m)
counted_grows (expression first (expression last no_expressions)) m = on_part (loosen ((no_step_grows 1).grown _)) (on_part (grows_next (coded last) (grows loose last) _) (grows_next (coded first) (grows loose first) m))
counted_grows (expression first (expression last (expression by rest))) m =
    on_part (loosen ((by_step_grows 1 (coded by) (grows calm by)).grown _)) (on_part (grows_next (coded last) (grows loose last) _) (grows_next (coded first) (grows loose first) m))
counted_grows no_expressions m = start m
counted_grows (expression first no_expressions) m = start m

head_grows : (numeric : Bool) (foot : ℕ) (part : Part) (m : Maker) → Grown loose m (head_made numeric foot part m)
head_grows true foot (head_part values names) m =
    let variables = (declare names m).value in
    on_take (length variables) (on_part (grows_activate variables _) (on_put 1 (Piece.Jump Op.ForPrep _ foot) (on_part (grows_activate numeric_names _) (on_part (counted_grows values _) (grows_declare loose names m)))))
head_grows false foot (head_part values names) m =
    let variables = (declare names m).value in
    on_take (length variables) (on_part (grows_activate variables _) (on_used ((declare names m).after.free + 6) (on_put 1 (Piece.Jump Op.Jmp 0 foot) (on_part (grows_activate generic_names _) (on_part (grows_adjust loose 1 (all_coded values) (grow_all loose values) 3 _) (grows_declare loose names m))))))
head_grows true foot nothing_part m = start m
head_grows false foot nothing_part m = start m
head_grows true foot (statement_part s) m = start m
head_grows false foot (statement_part s) m = start m
head_grows true foot (values_part es) m = start m
head_grows false foot (values_part es) m = start m
head_grows true foot (condition_part e) m = start m
head_grows false foot (condition_part e) m = start m

-- what a step makes is added to what was made before it
kind_grows : (code : Steps) (kind : StepKind) (part : Part) (m : Maker) → Settled m → Grown loose m (kind_made code kind part m)
kind_grows code StepKind.Act part m settled = part_grows part m settled
kind_grows code StepKind.Return part m settled = part_grows part m settled
kind_grows code (StepKind.Declaration end captured) part m settled = part_grows part m settled
kind_grows code (StepKind.Test when target levels) part m settled = test_part_grows when target part m
kind_grows code (StepKind.Jump target) part m settled = on_put _ _ (start m)
kind_grows code (StepKind.Close from declared) part m settled = on_put _ _ (start m)
kind_grows code (StepKind.Head numeric foot end variables_end captured) part m settled = head_grows numeric foot part m
kind_grows code (StepKind.Foot true target) part m settled = on_put _ _ (start m)
kind_grows code (StepKind.Foot false target) part m settled = on_put _ _ (on_put _ _ (start m))

-- ---- all steps

kept_length : {A : Type 0} (xs ys : List A) → Kept xs ys → length xs ≤ length ys
kept_length [] ys kept = omega arith
kept_length (x ∷ xs) [] kept = let none = kept 0 x refl in cc
kept_length (x ∷ xs) (y ∷ ys) kept = let rest = kept_length xs ys (λ i z is. kept (suc i) z is) in omega (arith, rest)

behind_grows : (code : Steps) (kind : Option StepKind) (part : Option Part) (now : Performance) → Settled now.maker → Grown any now.maker (behind_step code kind part now).maker
behind_grows code (Some kind) (Some part) now settled = on_free (active_count (kind_made code kind part now.maker)) (forget (kind_grows code kind part now.maker settled))
behind_grows code None part now settled = start now.maker
behind_grows code (Some kind) None now settled = start now.maker

module _ (code : Steps) (params names : List Text) (ahead : Ahead) where
  abbrev at_place : ℕ → Maker
  at_place at = (performed_to code (at_beginning code params names ahead) at).maker

  one_grows : (at : ℕ) → Grown any (at_place at) (at_place (suc at))
  one_grows at =
      let now = performed_to code (at_beginning code params names ahead) at in
      let n = still_active at now.ends in
      let here = ended_before at now in
      on_part (behind_grows code (kind_at code.steps at) (part_at code at) here refl) (on_free (active_count here.maker) (end_any n now.maker))

  grows_by : (count at last : ℕ) → last ≡ count + at → Grown any (at_place at) (at_place last)
  grows_by zero at last is = let same : at ≡ last = omega (arith, is) in subst (λ last. Grown any (at_place at) (at_place last)) same (start (at_place at))
  grows_by (suc count) at last is = on_part (grows_by count (suc at) last (omega (arith, is))) (one_grows at)

  pub steps_grow : (at last : ℕ) → at ≤ last → Grown any (at_place at) (at_place last)
  steps_grow at last most = grows_by (last - at) at last (omega (arith, most))

  -- the pcs of steps do not fall
  pub pcs_grow : (at last : ℕ) → at ≤ last → pc_of_step code params names ahead at ≤ pc_of_step code params names ahead last
  pcs_grow at last most = kept_length _ _ (steps_grow at last most).items
