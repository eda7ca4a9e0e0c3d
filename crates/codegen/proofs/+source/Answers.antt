use Rattle.std.proofs.Common.{◌≡◌, ◌+◌, ◌<◌, ◌++◌, ◌∷◌, [], ℕ, List, length, drop, get_or, length-append, refl, sym, ap, subst, ◌∙◌, arith}
use Rattle.std.specs.Prelude.{OnOk, is_some}
use Rattle.lua_tree.specs.View.{view_exp, view_exps, view_body, view_block}
use Rattle.lua_tree.specs.TreeLists.{expressions_of, branches_of, fields_of}
use Rattle.opcode.specs.declared.op.Op.{Op}
use Rattle.scheme.specs.Making as making
use Rattle.scheme.specs.Making.{Maker}
use Rattle.scheme.specs.Functions.{coded_function}
use Rattle.scheme.specs.Lists as lists
use Rattle.scheme.specs.Statements as parts
use Rattle.scheme.specs.Scheme.{coded, all_coded, branches_made, statements_made, entries, inner}
use Rattle.code_builder.specs.Made.{maker_of}
use Rattle.codegen.specs.Items.{closed_part, done_behind}
use Rattle.codegen.specs.Loops.{loop_of, generic_counted}
use Rattle.codegen.specs.Targets.{target_of, targets_of, stored_back}
use Rattle.codegen.proofs.Assigned.{assign_part-one, assign_part-each, assign_part-adjusted, copies_length, all_targets-length}
use Rattle.codegen.proofs.Constructed.{entries_from-closed}
use Rattle.codegen.proofs.Fors.{numeric_for, generic_for, function_for}
use Rattle.codegen.proofs.Listed.{adjust-filled, adjust-all, list_count-closed, logic_here-by, no_target, targets_length, each_stored-next, each_stored-end}
use Rattle.codegen.proofs.Looped.{numeric_steps, generic_steps, return_part-list}
use Rattle.codegen.proofs.Operands.{here_value, here_after, next_value, next_after, index_target, field_target}
use Rattle.codegen.proofs.Steps.{all_multi-end, all_multi-past, all_multi-next, branches_made-next, coded-length}
use Rattle.codegen.proofs.StoredBack.{stored_back-none}
use Rattle.codegen.proofs.+source.Goals as goal
use Rattle.codegen.proofs.+source.Goals.{assignments::each_stored-then-i-list+in_ok-store, assignments::each_stored-else-i-list+in_ok-push+in_ok-next_reg, calls::all_multi-then-i-list+in_ok-multi, calls::all_multi-else-i-list+in_ok-next_reg}

-- ---- operands

pub expressions::operand-returns-in_ok-x-in-Some-clause-value : goal.expressions::operand-returns-in_ok-x-in-Some-clause-value
expressions::operand-returns-in_ok-x-in-Some-clause-value t c =
    here_value (view_exp c.args.e.now) (maker_of c.args.builder.now) c.local_register.result c.in-Some.x _ c.local_register.ensures c.in-Some.is c.in_ok-x-in-Some.ensures

pub expressions::operand-returns-in_ok-x-in-Some-clause-made : goal.expressions::operand-returns-in_ok-x-in-Some-clause-made
expressions::operand-returns-in_ok-x-in-Some-clause-made t c =
    here_after (view_exp c.args.e.now) (maker_of c.args.builder.now) _ c.local_register.result c.in-Some.x c.local_register.ensures c.in-Some.is c.pass_name.ensures

pub expressions::operand-returns-in_ok-next_reg-in-None-clause-value : goal.expressions::operand-returns-in_ok-next_reg-in-None-clause-value
expressions::operand-returns-in_ok-next_reg-in-None-clause-value t c =
    next_value (view_exp c.args.e.now) (maker_of c.args.builder.now) c.local_register.result c.args.builder.now.free c.local_register.ensures c.in-None.is refl

pub expressions::operand-returns-in_ok-next_reg-in-None-clause-made : goal.expressions::operand-returns-in_ok-next_reg-in-None-clause-made
expressions::operand-returns-in_ok-next_reg-in-None-clause-made t c =
    next_after (view_exp c.args.e.now) (maker_of c.args.builder.now) _ c.local_register.result c.local_register.ensures c.in-None.is c.in_ok-next_reg-in-None.ensures

pub conditions::logic_here-returns : goal.conditions::logic_here-returns
conditions::logic_here-returns t c =
    let right : Maker → Maker = (coded (view_exp c.args.right.now)).to_reg c.args.r in
    let from : ℕ → Maker → Maker = λ label m. making.place label (right (making.jump_to c.args.line label m)) in
    c.place.ensures ∙ ap (making.place c.in_ok-label.label) (c.in_ok-to_reg.ensures ∙ ap right c.in_ok-jump_to.ensures)
    ∙ ap (λ label. from label (maker_of c.new_label.new.self)) c.in_ok-label.ensures.label
    ∙ ap (from (making.new_label (maker_of c.decide.new.builder)).value) c.in_ok-label.ensures.made
    ∙ ap (λ m. from (making.new_label m).value (making.new_label m).after) c.in_ok-decide.ensures
    ∙ logic_here-by c.args.line c.args.decides (view_exp c.args.left.now) (coded (view_exp c.args.right.now)) c.args.r (maker_of c.args.builder.now)

-- ---- lists

pub calls::adjust-returns-then-list-n : goal.calls::adjust-returns-then-list-n
calls::adjust-returns-then-list-n t c =
    let P : Maker → Type 0 = λ m. OnOk c.filled.result (maker_of c.filled.new.builder ≡ m) in
    subst P (adjust-filled c.args.line c.args.n c.args.list.now (maker_of c.args.builder.now) c.if-list-n.true) c.filled.ensures

pub calls::adjust-returns : goal.calls::adjust-returns
calls::adjust-returns t c =
    c.free_from.ensures
    ∙ ap (λ r. making.free_from r (maker_of c.all_next.new.builder)) (c.in_ok-plus.ensures ∙ ap (λ x. c.args.builder.now.free + x) c.in_ok-field.ensures)
    ∙ ap (making.free_from (c.args.builder.now.free + c.args.n)) c.in_ok-all_next.ensures
    ∙ adjust-all c.args.line c.args.n c.args.list.now (maker_of c.args.builder.now) c.if-list-n.false

pub calls::open_list-returns-clause-count : goal.calls::open_list-returns-clause-count
calls::open_list-returns-clause-count t c = list_count-closed c.args.list.now c.in_ok-field.field-0 c.if-ends_open.ensures c.in_ok-field.ensures

pub calls::all_multi-loop-i-preserved : goal.calls::all_multi-loop-i-preserved
calls::all_multi-loop-i-preserved t c = elim c.if-i-list.branch [
  | calls::all_multi-then-i-list+in_ok-multi w ↦
      all_multi-past Op.Call c.args.want c.args.list.now c.loop-i.i (maker_of c.if-i-list.builder) w.if-i-list.true
      ∙ ap maker_of w.builder-is ∙ w.in_ok-multi.ensures
      ∙ sym (all_multi-end Op.Call c.args.want c.args.list.now c.loop-i.i c.index-list-i.result c.index-list-i.result (maker_of c.loop-i.builder) w.if-i-list.true c.index-list-i.is)
      ∙ c.loop-i.invariant
  | calls::all_multi-else-i-list+in_ok-next_reg w ↦
      ap (λ b. lists.all_multi Op.Call c.args.want (all_coded (expressions_of (drop (c.loop-i.i + 1) c.args.list.now))) (maker_of b)) w.builder-is
      ∙ ap (lists.all_multi Op.Call c.args.want (all_coded (expressions_of (drop (c.loop-i.i + 1) c.args.list.now)))) w.in_ok-next_reg.ensures
      ∙ sym (all_multi-next Op.Call c.args.want c.args.list.now c.loop-i.i c.index-list-i.result c.index-list-i.result (maker_of c.loop-i.builder) c.loop-i-test.true w.if-i-list.false c.index-list-i.is)
      ∙ c.loop-i.invariant
]

-- ---- assignments

pub assignments::target-returns-in_ok-k-in-Index-clause-target : goal.assignments::target-returns-in_ok-k-in-Index-clause-target
assignments::target-returns-in_ok-k-in-Index-clause-target t c =
    let on_local = c.is_some-on_local.ensures ∙ ap is_some c.local_register.ensures in
    let key_local = c.is_some-key_local.ensures ∙ ap is_some c.local_register-in-Index.ensures in
    rw c.in-Index.is (index_target c.args.e.now.line (view_exp c.in-Index.on.value) (view_exp c.in-Index.key.value) (maker_of c.args.builder.now) (maker_of c.operand.new.builder) _ _ _ _
    (rw c.deref.ensures at on_local) (rw c.deref-in-Index.ensures at c.in_ok-t-in-Index.ensures.value) (rw c.deref-in-Index.ensures at c.in_ok-t-in-Index.ensures.made)
    (rw c.deref-in-Index-2.ensures at key_local) (rw c.deref-in-Index-3.ensures at c.in_ok-k-in-Index.ensures.value))

pub assignments::target-returns-in_ok-k-in-Field-clause-target : goal.assignments::target-returns-in_ok-k-in-Field-clause-target
assignments::target-returns-in_ok-k-in-Field-clause-target t c =
    let on_local = c.is_some-on_local-in-Field.ensures ∙ ap is_some c.local_register-in-Field.ensures in
    rw c.in-Field.is (field_target c.args.e.now.line (view_exp c.in-Field.on.value) c.in-Field.name (maker_of c.args.builder.now) (maker_of c.operand-in-Field.new.builder) _ _ _
    (rw c.deref-in-Field.ensures at on_local) (rw c.deref-in-Field-2.ensures at c.in_ok-t-in-Field.ensures.value) (rw c.deref-in-Field-2.ensures at c.in_ok-t-in-Field.ensures.made)
    (rw c.bytes-in-Field.ensures at c.in_ok-k-in-Field.ensures.value))

pub assignments::each_stored-loop-i-init : goal.assignments::each_stored-loop-i-init
assignments::each_stored-loop-i-init t c = record {
  count = λ h. ap length c.new-registers.ensures.items;
  few = omega (arith, ap length c.new-registers.ensures.items);
  stored =
      ap (λ rs. stored_back c.args.line (targets_of c.args.targets.now) rs (parts.each_stored c.args.line (targets_of c.args.targets.now) (all_coded (expressions_of c.args.list.now)) (maker_of c.args.builder.now))) c.new-registers.ensures.items
      ∙ stored_back-none c.args.line (targets_of c.args.targets.now) (parts.each_stored c.args.line (targets_of c.args.targets.now) (all_coded (expressions_of c.args.list.now)) (maker_of c.args.builder.now));
}

pub assignments::each_stored-loop-i-preserved : goal.assignments::each_stored-loop-i-preserved
assignments::each_stored-loop-i-preserved t c =
    let targets = c.args.targets.now in
    let list = c.args.list.now in
    let i = c.loop-i.i in
    let e = c.index-list-i.result in
    let from : List ℕ → Maker → Maker = λ rs m. stored_back c.args.line (targets_of targets) rs (parts.each_stored c.args.line (targets_of (drop (i + 1) targets)) (all_coded (expressions_of (drop (i + 1) list))) m) in
    elim c.if-i-list.branch [
      | assignments::each_stored-then-i-list+in_ok-store w ↦ record {
        count = λ h. absurd (omega (arith, h, w.if-i-list.true));
        few = omega (arith, ap (λ rs. length rs.items) w.registers-is, c.loop-i.invariant.few);
        stored =
            ap (λ rs. from rs.items (maker_of c.if-i-list.builder)) w.registers-is ∙ ap (λ b. from c.loop-i.registers.items (maker_of b)) w.builder-is
            ∙ ap (stored_back c.args.line (targets_of targets) c.loop-i.registers.items)
            (each_stored-end c.args.line i targets list e e (get_or targets i no_target) no_target (maker_of c.loop-i.builder) (maker_of w.store.new.builder) w.if-i-list.true c.requires c.index-list-i.is refl w.in_ok-store.ensures)
            ∙ c.loop-i.invariant.stored;
      }
      | assignments::each_stored-else-i-list+in_ok-push+in_ok-next_reg w ↦
          let more : i + 1 < length list = omega (arith, c.loop-i-test.true, w.if-i-list.false) in
          let count = c.loop-i.invariant.count c.loop-i-test.true in
          let one_more = ap (λ rs. length rs.items) w.registers-is ∙ ap length w.in_ok-push.ensures.items ∙ length-append c.loop-i.registers.items (c.loop-i.builder.free ∷ []) in
          record {
            count = λ h. omega (arith, one_more, count);
            few = omega (arith, one_more, count, more, c.requires);
            stored =
                ap (λ rs. from rs.items (maker_of c.if-i-list.builder)) w.registers-is
                ∙ ap (λ rs. from rs (maker_of c.if-i-list.builder)) w.in_ok-push.ensures.items
                ∙ ap (λ b. from (c.loop-i.registers.items ++ c.loop-i.builder.free ∷ []) (maker_of b)) w.builder-is
                ∙ ap (from (c.loop-i.registers.items ++ c.loop-i.builder.free ∷ [])) w.in_ok-next_reg.ensures
                ∙ each_stored-next c.args.line i targets list e e no_target c.loop-i.registers.items c.loop-i.builder.free (maker_of c.loop-i.builder) count more c.requires c.index-list-i.is refl
                ∙ c.loop-i.invariant.stored;
          }
    ]

pub assignments::assign_one-returns : goal.assignments::assign_one-returns
assignments::assign_one-returns t c =
    let P : Maker → Type 0 = λ m. OnOk c.store.result (maker_of c.store.new.builder ≡ m) in
    let m = maker_of c.args.builder.now in
    let to = coded (view_exp c.args.to.now) in
    let value = coded (view_exp c.args.e.now) in
    subst P (ap (λ x. parts.store c.args.line x value (maker_of c.target.new.builder)) c.in_ok-target.ensures.target
    ∙ ap (parts.store c.args.line (to.target m).value value) c.in_ok-target.ensures.made
    ∙ assign_part-one c.args.line to value m) c.store.ensures

pub assignments::assign_function-returns : goal.assignments::assign_function-returns
assignments::assign_function-returns t c =
    let P : Maker → Type 0 = λ m. OnOk c.store_function.result (maker_of c.store_function.new.builder ≡ m) in
    let m = maker_of c.args.builder.now in
    let to = parts.with_method c.args.line (parts.path_from c.args.line c.args.path.now) c.args.method.now in
    let value = coded_function c.args.line (view_body c.args.body.now) (inner (view_body c.args.body.now) (is_some c.args.method.now)) in
    subst P (ap (λ b. parts.store c.args.line (target_of c.in_ok-target.target) (coded_function c.args.line (view_body c.args.body.now) (inner (view_body c.args.body.now) b)) (maker_of c.path_target.new.builder)) c.is_some.ensures
    ∙ ap (λ x. parts.store c.args.line x value (maker_of c.path_target.new.builder)) c.in_ok-target.ensures.target
    ∙ ap (parts.store c.args.line (to.target m).value value) c.in_ok-target.ensures.made
    ∙ assign_part-one c.args.line to value m) c.store_function.ensures

pub assignments::assign_several-returns-then-list-len : goal.assignments::assign_several-returns-then-list-len
assignments::assign_several-returns-then-list-len t c =
    let P : Maker → Type 0 = λ m. OnOk c.each_stored.result (maker_of c.each_stored.new.builder ≡ m) in
    let targets = all_coded (expressions_of c.items.result.now) in
    let values = all_coded (expressions_of c.items-list.result.now) in
    let places = ap length c.in_ok-places-2.ensures.targets ∙ copies_length c.args.line c.in_ok-count.count (targets_of c.in_ok-places.places.items) (maker_of c.all_targets.new.builder)
    ∙ ap length c.in_ok-places.ensures.targets ∙ all_targets-length targets (maker_of c.args.builder.now) in
    let lengths : length values ≡ length targets → length c.items-list.result.now ≡ length c.in_ok-places-2.places.items =
    λ same. omega (arith, same, places, targets_length c.in_ok-places-2.places.items, coded-length c.items-list.result.now) in
    let back : length c.items-list.result.now ≡ length c.in_ok-places-2.places.items → length values ≡ length targets =
    λ same. omega (arith, same, places, targets_length c.in_ok-places-2.places.items, coded-length c.items-list.result.now) in
    subst P (assign_part-each c.args.line targets values (maker_of c.args.builder.now) (maker_of c.all_targets.new.builder) (maker_of c.copies.new.builder) _ c.in_ok-count.count
    (targets_of c.in_ok-places.places.items) (targets_of c.as_slice.result.now) (back (omega (arith, c.if-list-len.true, c.len.ensures, c.in_ok-places-2.places.ok.0)))
    c.in_ok-places.ensures.targets c.in_ok-places.ensures.made c.in_ok-count.ensures (ap targets_of c.as_slice.ensures.value ∙ c.in_ok-places-2.ensures.targets) c.in_ok-places-2.ensures.made refl
    ∙ ap (λ ts. parts.assign_part c.args.line (all_coded ts) values (maker_of c.args.builder.now)) (sym c.items.ensures.view)
    ∙ ap (λ vs. parts.assign_part c.args.line (all_coded (view_exps c.args.targets.now)) (all_coded vs) (maker_of c.args.builder.now)) (sym c.items-list.ensures.view))
    c.each_stored.ensures

pub assignments::assign_several-returns : goal.assignments::assign_several-returns
assignments::assign_several-returns t c =
    let P : Maker → Type 0 = λ m. OnOk c.assign_adjusted.result (maker_of c.assign_adjusted.new.builder ≡ m) in
    let targets = all_coded (expressions_of c.items.result.now) in
    let values = all_coded (expressions_of c.items-list.result.now) in
    let places = ap length c.in_ok-places-2.ensures.targets ∙ copies_length c.args.line c.in_ok-count.count (targets_of c.in_ok-places.places.items) (maker_of c.all_targets.new.builder)
    ∙ ap length c.in_ok-places.ensures.targets ∙ all_targets-length targets (maker_of c.args.builder.now) in
    let lengths : length values ≡ length targets → length c.items-list.result.now ≡ length c.in_ok-places-2.places.items =
    λ same. omega (arith, same, places, targets_length c.in_ok-places-2.places.items, coded-length c.items-list.result.now) in
    let back : length c.items-list.result.now ≡ length c.in_ok-places-2.places.items → length values ≡ length targets =
    λ same. omega (arith, same, places, targets_length c.in_ok-places-2.places.items, coded-length c.items-list.result.now) in
    subst P (assign_part-adjusted c.args.line targets values (maker_of c.args.builder.now) (maker_of c.all_targets.new.builder) (maker_of c.copies.new.builder) _ c.in_ok-count.count
    (targets_of c.in_ok-places.places.items) (targets_of c.as_slice-else-list-len.result.now) (λ same. c.if-list-len.false (omega (arith, lengths same, c.len.ensures, c.in_ok-places-2.places.ok.0)))
    c.in_ok-places.ensures.targets c.in_ok-places.ensures.made c.in_ok-count.ensures (ap targets_of c.as_slice-else-list-len.ensures.value ∙ c.in_ok-places-2.ensures.targets) c.in_ok-places-2.ensures.made refl
    ∙ ap (λ ts. parts.assign_part c.args.line (all_coded ts) values (maker_of c.args.builder.now)) (sym c.items.ensures.view)
    ∙ ap (λ vs. parts.assign_part c.args.line (all_coded (view_exps c.args.targets.now)) (all_coded vs) (maker_of c.args.builder.now)) (sym c.items-list.ensures.view))
    c.assign_adjusted.ensures

-- ---- statements

pub statements::all_arms-loop-i-preserved : goal.statements::all_arms-loop-i-preserved
statements::all_arms-loop-i-preserved t c =
    ap (branches_made (branches_of (drop (c.loop-i.i + 1) c.args.arms.now)) c.args.line (loop_of c.args.around) c.args.end c.args.more) c.in_ok-one_arm.ensures
    ∙ sym (branches_made-next c.args.arms.now c.loop-i.i c.index-arms-i.result c.index-arms-i.result c.args.line (loop_of c.args.around) c.args.end c.args.more _ (maker_of c.loop-i.builder) c.loop-i-test.true c.index-arms-i.is c.is_followed-followed.ensures.next c.is_followed-followed.ensures.last)
    ∙ c.loop-i.invariant

pub statements::one_statement-returns-in_ok-step_part-in-NumFor : goal.statements::one_statement-returns-in_ok-step_part-in-NumFor
statements::one_statement-returns-in_ok-step_part-in-NumFor t c =
    let P : Maker → Type 0 = λ m. OnOk c.numeric_loop.result (maker_of c.numeric_loop.new.builder ≡ m) in
    let m = maker_of c.args.builder.now in
    let one = c.from_ref.ensures.value in
    subst P (numeric_for _ c.args.s.now.line (loop_of c.args.around) c.in-NumFor.name c.in-NumFor.from c.in-NumFor.to c.in-NumFor.step c.in-NumFor.body c.in-NumFor.is
    m (maker_of c.declare.new.self) (maker_of c.next_reg.new.builder) (maker_of c.next_reg-in-NumFor.new.builder) (maker_of c.step_part.new.builder) _
    c.in_ok-variables-in-NumFor.variables.items c.in_ok-before-in-NumFor.before c.declare.new.self.free
    (c.in_ok-variables-in-NumFor.ensures.locals ∙ ap (λ ns. (making.declare ns m).value) one)
    (c.in_ok-variables-in-NumFor.ensures.made ∙ ap (λ ns. (making.declare ns m).after) one)
    c.in_ok-before-in-NumFor.ensures refl c.in_ok-next_reg-in-NumFor.ensures c.in_ok-next_reg-in-NumFor-2.ensures c.in_ok-step_part-in-NumFor.ensures refl)
    c.numeric_loop.ensures

pub statements::one_statement-returns-in_ok-adjust-in-GenFor : goal.statements::one_statement-returns-in_ok-adjust-in-GenFor
statements::one_statement-returns-in_ok-adjust-in-GenFor t c =
    let P : Maker → Type 0 = λ m. OnOk c.generic_loop.result (maker_of c.generic_loop.new.builder ≡ m) in
    let m = maker_of c.args.builder.now in
    let names = c.items-in-GenFor.ensures in
    subst P (generic_for _ c.args.s.now.line (loop_of c.args.around) c.in-GenFor.names c.in-GenFor.exps c.in-GenFor.body c.in-GenFor.is
    m (maker_of c.declare-in-GenFor.new.self) (maker_of c.adjust.new.builder) _
    c.in_ok-variables-in-GenFor.variables.items c.in_ok-before-in-GenFor.before c.declare-in-GenFor.new.self.free
    (c.in_ok-variables-in-GenFor.ensures.locals ∙ ap (λ ns. (making.declare ns m).value) names)
    (c.in_ok-variables-in-GenFor.ensures.made ∙ ap (λ ns. (making.declare ns m).after) names)
    c.in_ok-before-in-GenFor.ensures refl
    (c.in_ok-adjust-in-GenFor.ensures ∙ ap (λ es. lists.adjust c.args.s.now.line (all_coded es) 3 (maker_of c.declare-in-GenFor.new.self)) (sym c.items-in-GenFor-2.ensures.view)) refl)
    c.generic_loop.ensures

pub statements::one_statement-returns-in-Function : goal.statements::one_statement-returns-in-Function
statements::one_statement-returns-in-Function t c =
    let P : Maker → Type 0 = λ m. OnOk c.assign_function.result (maker_of c.assign_function.new.builder ≡ m) in
    let m = maker_of c.args.builder.now in
    let value = coded_function c.args.s.now.line (view_body c.in-Function.body) (inner (view_body c.in-Function.body) (is_some c.in-Function.method)) in
    subst P (ap (λ path. parts.assign_part c.args.s.now.line (parts.with_method c.args.s.now.line (parts.path_from c.args.s.now.line path) c.in-Function.method ∷ []) (value ∷ []) m) c.items-in-Function.ensures
    ∙ function_for _ c.args.s.now.line (loop_of c.args.around) c.in-Function.path c.in-Function.method c.in-Function.body c.in-Function.is m)
    c.assign_function.ensures

pub statements::return_values-returns-in-len2-up : goal.statements::return_values-returns-in-len2-up
statements::return_values-returns-in-len2-up t c =
    let P : Maker → Type 0 = λ m. OnOk c.return_list-in-len2-up.result (maker_of c.return_list-in-len2-up.new.builder ≡ m) in
    subst P (return_part-list c.args.line c.args.list.now (maker_of c.args.builder.now) c.in-len2-up.len_at_least) c.return_list-in-len2-up.ensures

-- ---- loops

pub loops::numeric_loop-returns : goal.loops::numeric_loop-returns
loops::numeric_loop-returns t c =
    let P : Maker → Type 0 = λ m. OnOk c.end_locals.result (maker_of c.end_locals.new.self ≡ m) in
    subst P (numeric_steps c.args.line c.args.place.base c.args.place.before c.args.place.variables.items (statements_made (view_block c.args.body.now))
    (maker_of c.args.builder.now) (maker_of c.activate_numeric.new.builder) (maker_of c.new_label.new.self) (maker_of c.new_label-2.new.self) (maker_of c.new_label-3.new.self)
    (maker_of c.put_jump.new.builder) (maker_of c.place.new.self) (maker_of c.one_turn.new.builder) (maker_of c.place-2.new.self) (maker_of c.put_jump-2.new.builder) (maker_of c.place-3.new.self)
    c.in_ok-begin.begin c.in_ok-end.end c.in_ok-exit.exit
    c.in_ok-activate_numeric.ensures c.in_ok-begin.ensures.label c.in_ok-begin.ensures.made c.in_ok-end.ensures.label c.in_ok-end.ensures.made c.in_ok-exit.ensures.label c.in_ok-exit.ensures.made
    c.in_ok-put_jump.ensures c.place.ensures c.in_ok-one_turn.ensures c.place-2.ensures c.in_ok-put_jump-2.ensures c.place-3.ensures) c.end_locals.ensures

pub loops::generic_loop-returns : goal.loops::generic_loop-returns
loops::generic_loop-returns t c =
    let P : Maker → Type 0 = λ m. OnOk c.end_locals.result (maker_of c.end_locals.new.self ≡ m) in
    let count : c.in_ok-count.count ≡ length c.args.place.variables.items = omega (arith, c.in_ok-count.ensures, c.len.ensures, c.args.place.variables.ok.0) in
    subst P (generic_steps c.args.line c.args.place.base c.args.place.before c.args.place.variables.items c.in_ok-count.count (statements_made (view_block c.args.body.now))
    (maker_of c.args.builder.now) (maker_of c.activate_generic.new.builder) (maker_of c.new_label.new.self) (maker_of c.new_label-2.new.self) (maker_of c.new_label-3.new.self)
    (maker_of c.jump_to.new.builder) (maker_of c.place.new.self) (maker_of c.used.new.self) (maker_of c.one_turn.new.builder) (maker_of c.place-2.new.self) (maker_of c.put_abc.new.builder) (maker_of c.jump_to-2.new.builder) (maker_of c.place-3.new.self)
    c.in_ok-begin.begin c.in_ok-end.end c.in_ok-exit.exit c.in_ok-plus.field-0
    c.in_ok-activate_generic.ensures c.in_ok-begin.ensures.label c.in_ok-begin.ensures.made c.in_ok-end.ensures.label c.in_ok-end.ensures.made c.in_ok-exit.ensures.label c.in_ok-exit.ensures.made
    c.in_ok-jump_to.ensures c.place.ensures c.in_ok-plus.ensures c.used.ensures c.in_ok-one_turn.ensures c.place-2.ensures c.in_ok-put_abc.ensures c.in_ok-jump_to-2.ensures c.place-3.ensures
    ∙ ap (λ n. generic_counted c.args.line c.args.place.base c.args.place.before c.args.place.variables.items n (statements_made (view_block c.args.body.now)) (maker_of c.args.builder.now)) count) c.end_locals.ensures

-- ---- constructors

pub constructors::all_items-loop-i-preserved : goal.constructors::all_items-loop-i-preserved
constructors::all_items-loop-i-preserved t c =
    let items = entries (fields_of (drop (c.loop-i.i + 1) c.args.items.now)) in
    record {
      few = c.in_ok-done.ensures.few;
      made =
          ap (lists.entries_from c.args.line c.args.t c.in_ok-done.field-0-0 c.in_ok-done.field-0-1 items) c.in_ok-closed_item.ensures
          ∙ ap (λ n. lists.entries_from c.args.line c.args.t n c.in_ok-done.field-0-1 items (closed_part c.args.line c.args.t c.loop-i.done c.loop-i.pending c.index-items-i.result.kind (maker_of c.loop-i.builder))) c.in_ok-done.ensures.done
          ∙ ap (λ n. lists.entries_from c.args.line c.args.t (done_behind c.index-items-i.result.kind c.loop-i.done) n items (closed_part c.args.line c.args.t c.loop-i.done c.loop-i.pending c.index-items-i.result.kind (maker_of c.loop-i.builder))) c.in_ok-done.ensures.pending
          ∙ entries_from-closed c.args.line c.args.t c.loop-i.done c.loop-i.pending c.loop-i.i c.args.items.now c.index-items-i.result c.index-items-i.result (maker_of c.loop-i.builder) c.loop-i-test.true c.index-items-i.is c.if-is_open.ensures
          ∙ c.loop-i.invariant.made;
    }
