-- Statements: they make the same but for lines, where the expressions and blocks in them do.
use Rattle.std.proofs.Common.{◌≡◌, ℕ, zero, suc, ◌+◌, Bool, false, cond, List, [], ◌∷◌, length, refl, ap, ap₂, ◌∙◌}
use Rattle.std.specs.Prelude.{Option, Some, None, ◌==◌, pos, if◌then◌else◌}
use Rattle.lua_num.specs.Bytes.{Text}
use Rattle.lua_tree.specs.Syntax.{field_expression}
use Rattle.opcode.specs.declared.op.Op.{Op}
use Rattle.proto.specs.declared.parts.Constant.{Constant}
use Rattle.scheme.specs.Making.{Maker, Part, Got, answer, read, jump_to, take_registers, Where, in_register, in_upvalue, in_globals, captured_from, active_count, when}
use Rattle.scheme.specs.Expressions.{count_field, Coded, Target, name_target, part_target}
use Rattle.scheme.specs.Functions.{Inner}
use Rattle.scheme.specs.Statements.{Loop, close_from, end_block, block_part, settle, local_part, local_function_part, set_where, store_register, store_operand, store, all_targets, clashes, with_copy, copied, copies, each_stored, stored_from, assign_adjusted, assign_part, with_fields, path_from, with_method, while_part, repeat_plain, repeat_captured, repeat_part, arm_part, numeric_names, generic_names, turn, step_part, numeric_part, generic_part, break_part, return_operand, return_call, return_list, return_one, return_part}
use Rattle.scheme.specs.declared.making.Piece.{Piece}
use Rattle.scheme.specs.declared.making.Local.{Local}
use Rattle.scheme_lines.proofs.Makers.{SamePart, SameAsks, bind, ◌then◌, no_part, either, for_equal, chosen, either_asks, put_equal, if_so, same_answer, same_read, same_free, same_put, same_label, same_place, same_jump, same_take, same_used, same_free_from, same_constant, same_declare, same_activate, same_starts, same_end}
use Rattle.scheme_lines.proofs.Expressions.{Same, AllSame, same_is_call, same_is_vararg, same_next, same_operand, same_rk, same_load, same_coded_name, same_field}
use Rattle.scheme_lines.proofs.Lists.{same_open, same_count, same_length, same_adjust}
use Rattle.scheme_lines.proofs.Functions.{SameInner, same_closure}

-- ---- blocks

same_close : (line register : ℕ) → SamePart (close_from line register) (close_from 1 register)
same_close line register = same_put line (Piece.Abc Op.Close register 0 0)

same_captured : (n : ℕ) → SameAsks (read (captured_from n)) (read (captured_from n))
same_captured n = same_read (captured_from n) (λ m. refl)

same_active : SameAsks (read active_count) (read active_count)
same_active = same_read active_count (λ m. refl)

same_end_block : (line n : ℕ) → SamePart (end_block line n) (end_block 1 n)
same_end_block line n = bind (same_captured n) (λ captured. same_end n then if_so captured (same_close line n) then same_free_from n)

pub same_block : {part other : Part} (line : ℕ) → SamePart part other → SamePart (block_part line part) (block_part 1 other)
same_block line p = bind same_active (λ n. p then same_end_block line n)

pub same_settle : SamePart settle settle
same_settle = record { same = λ m. refl }

-- ---- declarations

pub same_local : (line : ℕ) (names : List Text) (cs ds : List Coded) → AllSame cs ds → SamePart (local_part line names cs) (local_part 1 names ds)
same_local line names cs ds s = bind (same_declare names) (λ locals. same_adjust line cs ds s (length names) then same_activate locals)

pub same_local_function : {inner other : Inner} (line : ℕ) (text : Text) → SameInner inner other → SamePart (local_function_part line text inner) (local_function_part 1 text other)
same_local_function line text s =
    bind (same_declare (text ∷ [])) (λ locals. bind same_free (λ register. bind (same_read (λ m. length m.locals) (λ m. refl)) (λ listed.
    same_take 1 then same_activate locals then same_closure line s register then same_starts listed)))

-- ---- assignments

same_set : (line register : ℕ) (text : Text) (w : Where) → SamePart (set_where line register text w) (set_where 1 register text w)
same_set line r text (in_register x) = same_put line _
same_set line r text (in_upvalue slot) = same_put line _
same_set line r text in_globals = bind (same_constant (Constant.Text text)) (λ k. same_put line (Piece.Abx Op.SetGlobal r k))

same_store_register : (line : ℕ) (target : Target) (register : ℕ) → SamePart (store_register line target register) (store_register 1 target register)
same_store_register line (name_target text w) r = same_set line r text w
same_store_register line (part_target on key on_local key_local) r = same_put line _

same_store_operand : {c d : Coded} (line : ℕ) (text : Text) (w : Where) → Same c d → SamePart (store_operand line text w c) (store_operand 1 text w d)
same_store_operand line text w s = bind (same_operand s) (λ r. same_set line r text w)

same_store : {c d : Coded} (line : ℕ) (target : Target) → Same c d → SamePart (store line target c) (store 1 target d)
same_store line (name_target text (in_register x)) s = s.to_reg x
same_store line (name_target text (in_upvalue slot)) s = same_store_operand line text (in_upvalue slot) s
same_store line (name_target text in_globals) s = same_store_operand line text in_globals s
same_store line (part_target on key on_local key_local) s = bind (same_rk s) (λ v. same_put line (Piece.Abc Op.SetTable on key v))

same_targets : (cs ds : List Coded) → AllSame cs ds → SameAsks (all_targets cs) (all_targets ds)
same_targets [] [] s = record { same = λ m. refl }
same_targets (c ∷ cs) (d ∷ ds) s = record {
  same = λ m.
      let target = c.target m in
      ap (λ (targets : Got (List Target)). record { value = target.value ∷ targets.value; after = targets.after }) ((same_targets cs ds s.1).same target.after)
      ∙ ap (λ (got : Got Target). record { value = got.value ∷ (all_targets ds got.after).value; after = (all_targets ds got.after).after }) (s.0.target.same m);
}
same_targets cs ds s = absurd s

same_copied : (line x : ℕ) (targets : List Target) → SameAsks (copied line x targets) (copied 1 x targets)
same_copied line x targets = record {
  same = λ m.
      ap (λ (n : Maker). record { value = with_copy x m.free targets; after = n }) ((same_take 1 then same_put line (Piece.Abc Op.Move m.free x 0)).same m);
}

same_copies : (line count : ℕ) (targets : List Target) → SameAsks (copies line count targets) (copies 1 count targets)
same_copies line zero targets = record { same = λ m. refl }
same_copies line (suc x) targets = record {
  same = λ m.
      let before = copies line x targets m in
      (either_asks (clashes x targets) (same_copied line x before.value) (same_answer before.value)).same before.after
      ∙ ap (λ (got : Got (List Target)). cond (clashes x targets) (copied 1 x got.value) (answer got.value) got.after) ((same_copies line x targets).same m);
}

same_each : (line : ℕ) (targets : List Target) (cs ds : List Coded) → AllSame cs ds → SamePart (each_stored line targets cs) (each_stored 1 targets ds)
same_each line [] cs ds s = record { same = λ m. refl }
same_each line (target ∷ []) [] [] s = record { same = λ m. refl }
same_each line (target ∷ other ∷ targets) [] [] s = record { same = λ m. refl }
same_each line (target ∷ []) (c ∷ cs) (d ∷ ds) s = record { same = (same_store line target s.0).same }
same_each line (target ∷ other ∷ targets) (c ∷ cs) (d ∷ ds) s = record {
  same = λ m.
      (same_next s.0 then same_each line (other ∷ targets) cs ds s.1 then same_store_register line target m.free).same m;
}
same_each line targets cs ds s = absurd s

same_stored : (line register : ℕ) (targets : List Target) → SamePart (stored_from line register targets) (stored_from 1 register targets)
same_stored line r [] = no_part
same_stored line r (target ∷ targets) = same_stored line (suc r) targets then same_store_register line target r

same_assign_adjusted : (line : ℕ) (targets : List Target) (cs ds : List Coded) → AllSame cs ds → SamePart (assign_adjusted line targets cs) (assign_adjusted 1 targets ds)
same_assign_adjusted line targets cs ds s = bind same_free (λ base. same_adjust line cs ds s (length targets) then same_stored line base targets)

pub same_assign : (line : ℕ) (targets others cs ds : List Coded) → AllSame targets others → AllSame cs ds → SamePart (assign_part line targets cs) (assign_part 1 others ds)
same_assign line targets others cs ds t s =
    bind (same_targets targets others t) (λ parts. bind same_active (λ count. bind (same_copies line count parts) (λ places.
    chosen (ap₂ (λ n k. n == k) (same_length cs ds s) (same_length targets others t)) (same_each line places cs ds s) (same_assign_adjusted line places cs ds s))))

same_fields : (line : ℕ) (texts : List Text) (c d : Coded) → Same c d → Same (with_fields line c texts) (with_fields 1 d texts)
same_fields line [] c d s = s
same_fields line (text ∷ texts) c d s = same_fields line texts _ _ (same_field line (field_expression line c.e text) (field_expression 1 d.e text) text (ap (λ e. field_expression 1 e text) s.e) s)

same_path : (line : ℕ) (path : List Text) → Same (path_from line path) (path_from 1 path)
same_path line [] = same_coded_name line []
same_path line (text ∷ texts) = same_fields line texts _ _ (same_coded_name line text)

pub same_method : (line : ℕ) (path : List Text) (method : Option Text) → Same (with_method line (path_from line path) method) (with_method 1 (path_from 1 path) method)
same_method line path None = same_path line path
same_method line path (Some text) =
    let s = same_path line path in
    same_field line (field_expression line (path_from line path).e text) (field_expression 1 (path_from 1 path).e text) text (ap (λ e. field_expression 1 e text) s.e) s

-- ---- loops and branches

pub record SameBody (body other : Option Loop → Part) : Type 0 where
  pub same : (loop : Option Loop) → SamePart (body loop) (other loop)

pub same_while : {c d : Coded} {body other : Option Loop → Part} (line : ℕ) → Same c d → SameBody body other → SamePart (while_part line c body) (while_part 1 d other)
same_while line s b =
    bind same_label (λ exit. bind same_label (λ start. bind same_active (λ n.
    same_place start then s.jump_if false exit then same_block line (b.same (Some (record { exit = exit; before = n }))) then same_jump line start then same_place exit)))

same_repeat_plain : {c d : Coded} (start n : ℕ) → Same c d → SamePart (repeat_plain start n c) (repeat_plain start n d)
same_repeat_plain start n s = s.jump_if false start then same_end n

same_repeat_captured : {c d : Coded} (line start exit n : ℕ) → Same c d → SamePart (repeat_captured line start exit n c) (repeat_captured 1 start exit n d)
same_repeat_captured line start exit n s =
    bind same_label (λ again.
    s.jump_if false again then same_close line n then same_jump line exit then same_place again then same_end n then same_close line n then same_jump line start)

pub same_repeat : {c d : Coded} {body other : Option Loop → Part} (line : ℕ) → SameBody body other → Same c d → SamePart (repeat_part line body c) (repeat_part 1 other d)
same_repeat line b s =
    bind same_label (λ exit. bind same_label (λ start. bind same_active (λ n.
    same_place start then b.same (Some (record { exit = exit; before = n })) then
    bind (same_captured n) (λ captured. either captured (same_repeat_captured line start exit n s) (same_repeat_plain start n s) then same_place exit))))

pub same_arm : {c d : Coded} {part other : Part} {more again : Bool} (line end : ℕ) → more ≡ again → Same c d → SamePart part other →
    SamePart (arm_part line end more c part) (arm_part 1 end again d other)
same_arm {more = more} line end e s p =
    bind same_label (λ next. s.jump_if false next then same_block line p then for_equal (λ b. when b (jump_to 1 end)) e (if_so more (same_jump line end)) then same_place next)

same_turn : {part other : Part} (line base : ℕ) (variables : List Local) → SamePart part other → SamePart (turn line base variables part) (turn 1 base variables other)
same_turn line base variables p = same_activate variables then same_take (length variables) then same_block line p then same_end_block line (base + 3)

pub record SameStep (step other : Option Coded) : Type 0 where
  pub same : (line : ℕ) → SamePart (step_part line step) (step_part 1 other)

pub same_no_step : SameStep None None
same_no_step = record { same = λ line. record { same = λ m. ap (take_registers 1) ((same_load line m.free (Constant.Number (pos 1))).same m) } }

pub same_by_step : {c d : Coded} → Same c d → SameStep (Some c) (Some d)
same_by_step s = record { same = λ line. same_next s }

pub same_numeric : {first last start limit : Coded} {step by : Option Coded} {body other : Option Loop → Part} (line : ℕ) (text : Text) → Same first start → Same last limit →
    SameStep step by → SameBody body other → SamePart (numeric_part line text first last step body) (numeric_part 1 text start limit by other)
same_numeric line text s t p b =
    bind (same_declare (text ∷ [])) (λ variables. bind same_active (λ n. bind same_free (λ base.
    same_next s then same_next t then p.same line then same_activate numeric_names then
    bind same_label (λ begin. bind same_label (λ end. bind same_label (λ exit.
    same_put line (Piece.Jump Op.ForPrep base end) then same_place begin then same_turn line base variables (b.same (Some (record { exit = exit; before = n }))) then same_place end
    then same_put line (Piece.Jump Op.ForLoop base begin) then same_place exit then same_end n))))))

pub same_generic : {body other : Option Loop → Part} (line : ℕ) (names : List Text) (cs ds : List Coded) → AllSame cs ds → SameBody body other →
    SamePart (generic_part line names cs body) (generic_part 1 names ds other)
same_generic line names cs ds s b =
    bind (same_declare names) (λ variables. bind same_active (λ n. bind same_free (λ base.
    same_adjust line cs ds s 3 then same_activate generic_names then
    bind same_label (λ begin. bind same_label (λ end. bind same_label (λ exit.
    same_jump line end then same_place begin then same_used (base + 6) then same_turn line base variables (b.same (Some (record { exit = exit; before = n }))) then same_place end
    then same_put line (Piece.Abc Op.TForLoop base 0 (length names)) then same_jump line begin then same_place exit then same_end n))))))

pub same_break : (line : ℕ) (loop : Option Loop) → SamePart (break_part line loop) (break_part 1 loop)
same_break line None = no_part
same_break line (Some loop) = bind (same_captured loop.before) (λ captured. if_so captured (same_close line loop.before) then same_jump line loop.exit)

-- ---- return

same_return_operand : {c d : Coded} (line : ℕ) → Same c d → SamePart (return_operand line c) (return_operand 1 d)
same_return_operand line s = bind (same_operand s) (λ x. same_put line (Piece.Abc Op.Return x 2 0))

same_return_call : {c d : Coded} (line : ℕ) → Same c d → SamePart (return_call line c) (return_call 1 d)
same_return_call line s = bind same_free (λ base. s.multi Op.TailCall None then same_put line (Piece.Abc Op.Return base 0 0))

same_return_list : (line : ℕ) (cs ds : List Coded) → AllSame cs ds → SamePart (return_list line cs) (return_list 1 ds)
same_return_list line cs ds s = bind same_free (λ base. same_open cs ds s then put_equal line (ap (λ count. Piece.Abc Op.Return base (count_field 1 count) 0) (same_count cs ds s)))

same_return_one : {c d : Coded} (line : ℕ) → Same c d → SamePart (return_one line c) (return_one 1 d)
same_return_one {c} {d} line s = chosen (same_is_call s) (same_return_call line s) (chosen (same_is_vararg s) (same_return_list line (c ∷ []) (d ∷ []) (s, tt)) (same_return_operand line s))

pub same_return : (line : ℕ) (cs ds : List Coded) → AllSame cs ds → SamePart (return_part line cs) (return_part 1 ds)
same_return line [] [] s = same_put line _
same_return line (c ∷ []) (d ∷ []) s = same_return_one line s.0
same_return line (c ∷ e ∷ cs) (d ∷ f ∷ ds) s = same_return_list line (c ∷ e ∷ cs) (d ∷ f ∷ ds) s
same_return line (c ∷ []) (d ∷ f ∷ ds) s = absurd s.1
same_return line (c ∷ e ∷ cs) (d ∷ []) s = absurd s.1
same_return line cs ds s = absurd s
