-- The locals that are active behind each step have registers, where the parameters have.
use Rattle.std.proofs.Common.{◌≡◌, ◌≤◌, ℕ, zero, suc, ◌+◌, max, Bool, true, false, List, length, refl, ap, ◌∙◌, arith}
use Rattle.std.specs.Prelude.{None}
use Rattle.lua_num.specs.Bytes.{Text}
use Rattle.lua_tree.specs.Syntax as syntax
use Rattle.lua_tree.specs.Syntax.{Expressions, Statement, Statements, expression, no_expressions, no_statements, return_statement}
use Rattle.opcode.specs.declared.op.Op.{Op}
use Rattle.recover_expr.specs.Drafts.{Part, condition_part, head_part, statement_part, values_part}
use Rattle.recover_expr.specs.Placing.{Steps}
use Rattle.recover_expr.specs.declared.steps.StepKind.{StepKind}
use Rattle.scheme.specs.Expressions.{next_reg}
use Rattle.scheme.specs.Lists.{adjust}
use Rattle.scheme.specs.Making.{Ahead, Maker, activate, active_count, declare, jump_to, put, used}
use Rattle.scheme.specs.Scheme.{all_coded, coded}
use Rattle.scheme.specs.Statements.{generic_names, numeric_names}
use Rattle.scheme.specs.declared.making.Active.{Active}
use Rattle.scheme.specs.declared.making.Local.{Local}
use Rattle.scheme.specs.declared.making.Piece.{Piece}
use Rattle.scheme_stands.proofs.Growth.{Final, spot}
use Rattle.scheme_stands.proofs.Standing.{statements_room}
use Rattle.scheme_stands.specs.Relation.{StatementAt}
use Rattle.scheme_stands.specs.Words.{Fn, Spot}
use Rattle.same_flow.specs.Listed.{before_place, pc_of_step}
use Rattle.same_flow.specs.Performed.{Performance, counted_values, kind_made, performed_to, still_active}
use Rattle.same_flow.specs.SameFlow.{AreLaid, HasPlainParts}
use Rattle.same_flow.specs.Told.{AreCounted, PartFits, at_beginning}
use Rattle.same_flow.proofs.FreeValues.{adjust_free, next_free}
use Rattle.same_flow.proofs.HeadsFollowed.{activated_count, activated_free, declared_free}
use Rattle.same_flow.proofs.KeptActive.{active_kept, adjust_kept, all_kept, kept}
use Rattle.same_flow.proofs.ListedRun.{step_there}
use Rattle.same_flow.proofs.RunKeeps.{counted_kept, declared_active}
use Rattle.same_flow.proofs.StatementsTold.{laid_are_told}
use Rattle.reads_back.specs.Stepped.{KindAt, StepStands, begun_by}
use Rattle.reads_back.proofs.LocalsLeave.{taken_few}
use Rattle.reads_back.proofs.ParametersRead.{begins_with}
use Rattle.reads_back.proofs.PlacedLocals.{step_makes}
use Rattle.reads_back.proofs.StepsGrow.{steps_grow}

-- ---- heads take registers for all their locals

counted_free : (es : Expressions) → AreCounted es → (m : Maker) → (counted_values es m).free ≡ m.free + 3
counted_free (expression first (expression last no_expressions)) counted m =
    let one = next_free first m in
    let two = next_free last (next_reg (coded first) m) in
    omega (arith, one, two)
counted_free (expression first (expression last (expression by no_expressions))) counted m =
    let one = next_free first m in
    let two = next_free last (next_reg (coded first) m) in
    let three = next_free by (next_reg (coded last) (next_reg (coded first) m)) in
    omega (arith, one, two, three)
counted_free es counted m = absurd counted

-- three hidden locals and the variables
loop_high : (hidden variables : List Local) (m valued next : Maker) → length hidden ≡ 3 → m.free ≡ active_count m → valued.active ≡ m.active → valued.free ≡ m.free + 3 → active_count next ≡ active_count (activate hidden valued) → next.free ≡ (activate hidden valued).free →
    active_count (activate variables next) ≤ max (activate variables next).high ((activate variables next).free + length variables)
loop_high hidden variables m valued next three settled same free count behind =
    let one = activated_count hidden valued in
    let two = activated_count variables next in
    let still = activated_free hidden valued in
    let more = activated_free variables next in
    let was = ap (λ (active : List Active). length active) same in
    omega (arith, three, settled, free, count, behind, one, two, still, more, was)

head_high : (code : Steps) (numeric : Bool) (foot end variables_end : ℕ) (captured : Bool) (part : Part) → PartFits (StepKind.Head numeric foot end variables_end captured) part → (m : Maker) → m.free ≡ active_count m →
    let made = kind_made code (StepKind.Head numeric foot end variables_end captured) part m in active_count made ≤ made.high
head_high code true foot end variables_end captured (head_part values names) fits m settled =
    let declared = (declare names m).after in
    let valued = counted_values values declared in
    loop_high numeric_names (declare names m).value m valued (put 1 (Piece.Jump Op.ForPrep declared.free foot) (activate numeric_names valued)) refl settled (counted_kept values declared ∙ declared_active names m)
    (let free = counted_free values fits.0 declared in let same = declared_free names m in omega (arith, free, same)) refl refl
head_high code false foot end variables_end captured (head_part values names) fits m settled =
    let declared = (declare names m).after in
    let valued = adjust 1 (all_coded values) 3 declared in
    loop_high generic_names (declare names m).value m valued (used (declared.free + 6) (jump_to 1 foot (activate generic_names valued))) refl settled
    (active_kept (adjust_kept 1 (all_coded values) (all_kept values) 3) declared ∙ declared_active names m)
    (let free = adjust_free 1 values 3 declared in let same = declared_free names m in omega (arith, free, same)) refl refl
head_high code true foot end variables_end captured part fits m settled = absurd fits
head_high code false foot end variables_end captured part fits m settled = absurd fits

-- ---- a step

statement_room : (g : Fn) (s : Statement) (active after : List Active) (p q : Spot) → length active ≤ g.size → StatementAt g None s active after p q → length after ≤ g.size
statement_room g s active after p q room stands =
    statements_room g None (syntax.statement 1 false s no_statements) active after p q room (record { between = after; mid = q; first_at = stands; rest_at = record { stays = refl; part_at = record { pc = refl; ahead = refl; functions = refl } } })

kind_room : (g : Fn) (code : Steps) (pcs : ℕ → ℕ) (kind : StepKind) (part : Part) → PartFits kind part → (m : Maker) → m.free ≡ active_count m → active_count m ≤ g.size → (kind_made code kind part m).high ≤ g.size →
    KindAt g code pcs kind part m (kind_made code kind part m) (spot (begun_by kind part m)) (spot (kind_made code kind part m)) → active_count (kind_made code kind part m) ≤ g.size
kind_room g code pcs StepKind.Act (statement_part s) fits m settled room high stands = statement_room g s m.active _ (spot m) _ room stands
kind_room g code pcs (StepKind.Declaration end captured) (statement_part s) fits m settled room high stands = statement_room g s m.active _ (spot m) _ room stands
kind_room g code pcs StepKind.Return (values_part es) fits m settled room high stands = statement_room g (return_statement es) m.active _ (spot m) _ room stands
kind_room g code pcs (StepKind.Test when target negated) (condition_part e) fits m settled room high stands = let same = ap (λ (active : List Active). length active) (active_kept ((kept e).jump_if when target) m) in omega (arith, room, same)
kind_room g code pcs (StepKind.Jump target) part fits m settled room high stands = room
kind_room g code pcs (StepKind.Close from declared) part fits m settled room high stands = room
kind_room g code pcs (StepKind.Head numeric foot end variables_end captured) part fits m settled room high stands = let all = head_high code numeric foot end variables_end captured part fits m settled in omega (arith, all, high)
kind_room g code pcs (StepKind.Foot true target) part fits m settled room high stands = room
kind_room g code pcs (StepKind.Foot false target) part fits m settled room high stands = room
kind_room g code pcs kind part fits m settled room high stands = absurd fits

-- ---- all steps

-- where the parameters have registers, and the function in the end has as many as are used
pub steps_room : (g : Fn) (z : Maker) (code : Steps) → HasPlainParts code → (params names : List Text) (ahead : Ahead) (block : Statements) → AreLaid code params names ahead block → ((at : ℕ) → StepStands g code params names ahead at) →
    Final 0 (performed_to code (at_beginning code params names ahead) (length code.steps)).maker z → z.high ≤ g.size → length params ≤ g.size →
    (at : ℕ) → at ≤ length code.steps → active_count (performed_to code (at_beginning code params names ahead) at).maker ≤ g.size
steps_room g z code plain params names ahead block laid stand final high room zero most = omega (arith, room, (begins_with params names ahead).as_many)
steps_room g z code plain params names ahead block laid stand final high room (suc at) most =
    let now = performed_to code (at_beginning code params names ahead) at in
    let m = (before_place code params names ahead at).maker in
    let step = step_there code.steps at (omega (arith, most)) in
    let told = laid_are_told code plain params names ahead block laid at step.0 step.1 in
    let makes = step_makes code plain params names ahead at step.0 told.part step.1 told.there in
    let earlier = steps_room g z code plain params names ahead block laid stand final high room at (omega (arith, most)) in
    let here = taken_few (still_active at now.ends) now.maker.active in
    let grown = steps_grow code params names ahead (suc at) (length code.steps) most in
    let used = ap (λ (now : Performance). now.maker.high) makes in
    let top = final.high in
    let more = grown.high in
    let all = kind_room g code (pc_of_step code params names ahead) step.0.kind told.part told.fits m refl (omega (arith, earlier, here)) (omega (arith, used, top, more, high)) (stand at step.0 told.part step.1 told.there) in
    let same = ap (λ (now : Performance). length now.maker.active) makes in
    omega (arith, all, same)
