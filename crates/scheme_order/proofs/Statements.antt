-- Statements: they agree, where the expressions and blocks in them do.
use Rattle.std.proofs.Common.{◌≡◌, ℕ, zero, suc, ◌+◌, Bool, true, false, cond, List, [], ◌∷◌, length, refl, sym, ap, ap₂, ◌∙◌, subst, arith, eqb-true}
use Rattle.std.specs.Prelude.{Option, Some, None, ◌==◌, ◌||◌, pos}
use Rattle.lua_num.specs.Bytes.{Text}
use Rattle.lua_tree.specs.Scoping.{Use}
use Rattle.lua_tree.specs.Syntax.{field_expression}
use Rattle.lua_tree.specs.WellFormed.{is_call, is_target}
use Rattle.opcode.specs.declared.op.Op.{Op}
use Rattle.proto.specs.declared.parts.Constant.{Constant}
use Rattle.scheme.specs.Making.{Maker, Part, Got, answer, read, Where, in_register, in_upvalue, in_globals, captured_from, active_count}
use Rattle.scheme.specs.Expressions.{count_field, is_vararg, Coded, Target, name_target, part_target, coded_name, coded_field}
use Rattle.scheme.specs.Functions.{Inner}
use Rattle.scheme.specs.Statements.{Loop, close_from, end_block, block_part, settle, local_part, local_function_part, set_where, store_register, store_operand, store, all_targets, clashes, with_copy, copied, copies, each_stored, stored_from, assign_adjusted, assign_part, with_fields, path_from, with_method, while_part, repeat_plain, repeat_captured, repeat_part, arm_part, numeric_names, generic_names, turn, step_part, numeric_part, generic_part, break_part, return_operand, return_call, return_list, return_one, return_part}
use Rattle.scheme.specs.declared.making.Piece.{Piece}
use Rattle.scheme.specs.declared.making.Local.{Local}
use Rattle.scheme_order.proofs.Makers.{with_names, got_with, Names, no_names, one_name, and_then, Agree, AgreeAsks, bind, bind_known, ◌then◌, no_part, steady_asks, loosely, either, chosen, if_so, same_read, same_free, same_put, put_equal, same_label, same_place, same_jump, same_take, same_used, same_free_from, same_constant, same_declare, not_kept, same_activate, same_starts, same_end}
use Rattle.scheme_order.proofs.Trees.{look_plain}
use Rattle.scheme_order.proofs.Expressions.{SameValue, SameParts, Same, same_next, same_operand, same_rk, same_load, same_coded_name, same_field}
use Rattle.scheme_order.proofs.Lists.{AllSame, all_none, all_more, same_open, same_count, same_length, same_adjust}
use Rattle.scheme_order.proofs.Functions.{SameInner, same_closure}

-- ---- blocks

-- a CLOSE is put
same_close : (line register : ℕ) → Agree false no_names no_names (close_from line register) (close_from line register)
same_close line register = same_put line (Piece.Abc Op.Close register 0 0)

-- whether a local is captured is read
same_captured : (n : ℕ) → AgreeAsks false no_names no_names (read (captured_from n)) (read (captured_from n))
same_captured n = same_read (captured_from n) (λ m rest. refl)

-- the number of the active locals is read
same_active : AgreeAsks false no_names no_names (read active_count) (read active_count)
same_active = same_read active_count (λ m rest. refl)

-- a block ends
same_end_block : (line n : ℕ) → Agree false no_names no_names (end_block line n) (end_block line n)
same_end_block line n = bind (same_captured n) (λ captured. same_end n then if_so captured (same_close line n) then same_free_from n)

-- a block
pub same_block : {here there : Names} {part other : Part} (line : ℕ) → Agree false here there part other → Agree false here there (block_part line part) (block_part line other)
same_block line p = bind same_active (λ n. p then same_end_block line n)

-- the registers behind a statement
pub same_settle : Agree false no_names no_names settle settle
same_settle = bind same_active (λ n. same_free_from n)

-- ---- declarations

-- a local statement
pub same_local : {here there : Names} {cs ds : List Coded} (line : ℕ) (names : List Text) → AllSame here there cs ds → Agree false here there (local_part line names cs) (local_part line names ds)
same_local line names ss = bind (same_declare names) (λ locals. same_adjust line ss (length names) then same_activate locals)

-- a local function
pub same_local_function : {here there : Names} {inner other : Inner} (line : ℕ) (text : Text) → SameInner here there inner other →
    Agree false here there (local_function_part line text inner) (local_function_part line text other)
same_local_function line text s =
    bind (same_declare (text ∷ [])) (λ locals. bind same_free (λ register. bind (same_read (λ m. length m.locals) (λ m rest. refl)) (λ listed.
    same_take 1 then same_activate locals then loosely (same_closure line s register) then same_starts listed)))

-- ---- assignments

-- a register is stored to what a name means
same_set : (line register : ℕ) (text : Text) (w : Where) → Agree false no_names no_names (set_where line register text w) (set_where line register text w)
same_set line r text (in_register x) = same_put line _
same_set line r text (in_upvalue slot) = same_put line _
same_set line r text in_globals = bind (same_constant (Constant.Text text)) (λ k. same_put line (Piece.Abx Op.SetGlobal r k))

-- a register is stored to a target
same_store_register : (line : ℕ) (target : Target) (register : ℕ) → Agree false no_names no_names (store_register line target register) (store_register line target register)
same_store_register line (name_target text w) r = same_set line r text w
same_store_register line (part_target on key on_local key_local) r = same_put line _

-- a value is stored to what a name means
same_store_operand : {here there : Names} {c d : Coded} (line : ℕ) (text : Text) (w : Where) → SameValue here there c d →
    Agree false here there (store_operand line text w c) (store_operand line text w d)
same_store_operand line text w s = bind (same_operand s) (λ r. same_set line r text w)

-- a value is stored to a target
same_store : {here there : Names} {c d : Coded} (line : ℕ) (target : Target) → SameValue here there c d → Agree false here there (store line target c) (store line target d)
same_store line (name_target text (in_register x)) s = loosely (s.to_reg x)
same_store line (name_target text (in_upvalue slot)) s = same_store_operand line text (in_upvalue slot) s
same_store line (name_target text in_globals) s = same_store_operand line text in_globals s
same_store line (part_target on key on_local key_local) s = bind (same_rk s) (λ v. same_put line (Piece.Abc Op.SetTable on key v))

-- what is assigned to, and the same of another list
pub data AllTargets : Names → Names → List Coded → List Coded → Type 0 where
  targets_none : AllTargets no_names no_names [] []
  targets_more : {here there more again : Names} {c d : Coded} {cs ds : List Coded} → AgreeAsks true here there c.target d.target → AllTargets more again cs ds →
      AllTargets (and_then here more) (and_then there again) (c ∷ cs) (d ∷ ds)

-- how many they are
targets_length : {here there : Names} {cs ds : List Coded} → AllTargets here there cs ds → length cs ≡ length ds
targets_length targets_none = refl
targets_length (targets_more a ss) = ap suc (targets_length ss)

-- a target and those that follow
abbrev and_targets : Got Target → Got (List Target) → Got (List Target)
and_targets target targets = record { value = target.value ∷ targets.value; after = targets.after }

-- what is done for each target
same_targets : {here there : Names} {cs ds : List Coded} → AllTargets here there cs ds → AgreeAsks false here there (all_targets cs) (all_targets ds)
same_targets targets_none = record { made = λ m. record { value = []; after = m }; first = λ m rest. refl; second = λ m rest. refl; active = λ e m. refl }
same_targets (targets_more {more = more} {again = again} {cs = cs} {ds = ds} a ss) =
    let others = same_targets ss in
    record {
      made = λ m. and_targets (a.made m) (others.made (a.made m).after);
      first = λ m rest. ap (λ (got : Got Target). and_targets got (all_targets cs got.after)) (a.first m (more rest)) ∙ ap (and_targets (a.made m)) (others.first (a.made m).after rest);
      second = λ m rest. ap (λ (got : Got Target). and_targets got (all_targets ds got.after)) (a.second m (again rest)) ∙ ap (and_targets (a.made m)) (others.second (a.made m).after rest);
      active = not_kept;
    }

-- each target is kept
all_targets_length : (cs : List Coded) (m : Maker) → length (all_targets cs m).value ≡ length cs
all_targets_length [] m = refl
all_targets_length (c ∷ cs) m = ap suc (all_targets_length cs (c.target m).after)

-- the copies of clashing locals do not depend on the names
copies_with : (line count : ℕ) (targets : List Target) (m : Maker) (rest : List Use) → copies line count targets (with_names rest m) ≡ got_with rest (copies line count targets m)
copies_with line zero targets m rest = refl
copies_with line (suc x) targets m rest =
    ap (λ (got : Got (List Target)). cond (clashes x targets) (copied line x got.value) (answer got.value) got.after) (copies_with line x targets m rest)
    ∙ by (clashes x targets) (copies line x targets m)
  where
    by : (b : Bool) (got : Got (List Target)) →
        cond b (copied line x got.value) (answer got.value) (with_names rest got.after) ≡ got_with rest (cond b (copied line x got.value) (answer got.value) got.after)
    by true got = refl
    by false got = refl

-- clashing locals are copied
same_copies : (line count : ℕ) (targets : List Target) → AgreeAsks false no_names no_names (copies line count targets) (copies line count targets)
same_copies line count targets = steady_asks (copies line count targets) (copies_with line count targets) not_kept

-- a copy keeps the number of the targets
with_copy_length : (x copy : ℕ) (targets : List Target) → length (with_copy x copy targets) ≡ length targets
with_copy_length x copy [] = refl
with_copy_length x copy (target ∷ targets) = ap suc (with_copy_length x copy targets)

-- so do all copies
copies_length : (line count : ℕ) (targets : List Target) (m : Maker) → length (copies line count targets m).value ≡ length targets
copies_length line zero targets m = refl
copies_length line (suc x) targets m = by (clashes x targets) (copies line x targets m) ∙ copies_length line x targets m
  where
    by : (b : Bool) (got : Got (List Target)) → length (cond b (copied line x got.value) (answer got.value) got.after).value ≡ length got.value
    by true got = with_copy_length x got.after.free got.value
    by false got = refl

-- two lists of one length
abbrev AsLong : List Coded → List Target → Type 0
AsLong [] [] = Unit {0}
AsLong (c ∷ cs) (target ∷ targets) = AsLong cs targets
AsLong cs targets = ⊥

-- lists with one number of items are as long
as_long : (cs : List Coded) (targets : List Target) → length cs ≡ length targets → AsLong cs targets
as_long [] [] e = tt
as_long (c ∷ cs) (target ∷ targets) e = as_long cs targets (omega arith)
as_long [] (target ∷ targets) e = cc
as_long (c ∷ cs) [] e = cc

-- a value of several is stored
each_more : {here there more again : Names} {c d : Coded} (cs ds : List Coded) (line : ℕ) (target other : Target) (targets : List Target) → SameValue here there c d →
    Agree false more again (each_stored line (other ∷ targets) cs) (each_stored line (other ∷ targets) ds) →
    Agree false (and_then here more) (and_then there again) (each_stored line (target ∷ other ∷ targets) (c ∷ cs)) (each_stored line (target ∷ other ∷ targets) (d ∷ ds))
each_more cs ds line target other targets s p = bind same_free (λ free. same_next s then p then same_store_register line target free)

-- each value is stored to its target
same_each : {here there : Names} {cs ds : List Coded} (line : ℕ) (targets : List Target) → AllSame here there cs ds → AsLong cs targets →
    Agree false here there (each_stored line targets cs) (each_stored line targets ds)
same_each line [] all_none e = no_part
same_each line [] (all_more s ss) e = absurd e
same_each line (target ∷ []) all_none e = absurd e
same_each line (target ∷ []) (all_more s all_none) e = same_store line target s.value
same_each line (target ∷ []) (all_more s (all_more t ss)) e = absurd e
same_each line (target ∷ other ∷ targets) all_none e = absurd e
same_each line (target ∷ other ∷ targets) (all_more {cs = cs} {ds = ds} s ss) e = each_more cs ds line target other targets s.value (same_each line (other ∷ targets) ss e)

-- registers are stored to the targets
same_stored : (line register : ℕ) (targets : List Target) → Agree false no_names no_names (stored_from line register targets) (stored_from line register targets)
same_stored line r [] = no_part
same_stored line r (target ∷ targets) = same_stored line (suc r) targets then same_store_register line target r

-- as many values as targets are stored
same_assign_adjusted : {here there : Names} {cs ds : List Coded} (line : ℕ) (targets : List Target) → AllSame here there cs ds →
    Agree false here there (assign_adjusted line targets cs) (assign_adjusted line targets ds)
same_assign_adjusted line targets ss = bind same_free (λ base. same_adjust line ss (length targets) then same_stored line base targets)

-- an assignment
pub same_assign : {here there more again : Names} {targets others cs ds : List Coded} (line : ℕ) → AllTargets here there targets others → AllSame more again cs ds →
    Agree false (and_then here more) (and_then there again) (assign_part line targets cs) (assign_part line others ds)
same_assign {targets = targets} {others} {cs} {ds} line ts ss =
    bind_known (λ (parts : List Target). length parts ≡ length targets) (same_targets ts) (all_targets_length targets) (λ parts e. bind same_active (λ count.
    bind_known (λ (places : List Target). length places ≡ length parts) (same_copies line count parts) (copies_length line count parts) (λ places f.
    chosen (ap₂ (λ n k. n == k) (same_length ss) (targets_length ts)) (λ is. same_each line places ss (as_long cs places (eqb-true _ _ is ∙ sym (f ∙ e)))) (same_assign_adjusted line places ss))))

-- ---- the path of a function statement

-- a name and its fields
same_fields : (line : ℕ) (texts : List Text) (c : Coded) (meant : Use) → is_target c.e ≡ true → Same (one_name meant) (one_name meant) c c →
    (is_target (with_fields line c texts).e ≡ true) × Same (one_name meant) (one_name meant) (with_fields line c texts) (with_fields line c texts)
same_fields line [] c meant is s = (is, s)
same_fields line (text ∷ texts) c meant is s =
    let e = field_expression line c.e text in
    same_fields line texts (coded_field line e c text) meant refl (same_field line e e text (look_plain refl refl refl refl refl refl refl) s.value refl)

-- the name and its fields, and the name of a method, are assigned to
same_method : (line : ℕ) (text : Text) (path : List Text) (method : Option Text) (meant : Use) →
    AgreeAsks true (one_name meant) (one_name meant) (with_method line (path_from line (text ∷ path)) method).target (with_method line (path_from line (text ∷ path)) method).target
same_method line text path None meant = let on = same_fields line path (coded_name line text) meant refl (same_coded_name line text meant) in on.1.target on.0
same_method line text path (Some last) meant =
    let on = same_fields line path (coded_name line text) meant refl (same_coded_name line text meant) in
    let whole = same_fields line (last ∷ []) (with_fields line (coded_name line text) path) meant on.0 on.1 in
    whole.1.target whole.0

-- the path is the one target of its statement
pub same_path : (line : ℕ) (text : Text) (path : List Text) (method : Option Text) (meant : Use) →
    AllTargets (one_name meant) (one_name meant) (with_method line (path_from line (text ∷ path)) method ∷ []) (with_method line (path_from line (text ∷ path)) method ∷ [])
same_path line text path method meant =
    let on = with_method line (path_from line (text ∷ path)) method in
    targets_more {c = on} {d = on} (same_method line text path method meant) targets_none

-- ---- loops and branches

-- two bodies of a loop agree
pub record SameBody (here there : Names) (body other : Option Loop → Part) : Type 0 where
  pub same : (loop : Option Loop) → Agree false here there (body loop) (other loop)

-- a `while` loop
pub same_while : {here there more again : Names} {c d : Coded} {body other : Option Loop → Part} (line : ℕ) → SameParts here there c d → SameBody more again body other →
    Agree false (and_then here more) (and_then there again) (while_part line c body) (while_part line d other)
same_while line s b =
    bind same_label (λ exit. bind same_label (λ start. bind same_active (λ n.
    same_place start then loosely (s.jump_if false exit) then same_block line (b.same (Some (record { exit = exit; before = n }))) then same_jump line start then same_place exit)))

-- the end of a `repeat` loop with no captured local
same_repeat_plain : {here there : Names} {c d : Coded} (start n : ℕ) → SameParts here there c d → Agree false here there (repeat_plain start n c) (repeat_plain start n d)
same_repeat_plain start n s = loosely (s.jump_if false start) then same_end n

-- the end of one with a captured local
same_repeat_captured : {here there : Names} {c d : Coded} (line start exit n : ℕ) → SameParts here there c d →
    Agree false here there (repeat_captured line start exit n c) (repeat_captured line start exit n d)
same_repeat_captured line start exit n s =
    bind same_label (λ again.
    loosely (s.jump_if false again) then same_close line n then same_jump line exit then same_place again then same_end n then same_close line n then same_jump line start)

-- a `repeat` loop
pub same_repeat : {here there more again : Names} {c d : Coded} {body other : Option Loop → Part} (line : ℕ) → SameBody here there body other → SameParts more again c d →
    Agree false (and_then here more) (and_then there again) (repeat_part line body c) (repeat_part line other d)
same_repeat line b s =
    bind same_label (λ exit. bind same_label (λ start. bind same_active (λ n.
    same_place start then b.same (Some (record { exit = exit; before = n })) then
    bind (same_captured n) (λ captured. either captured (same_repeat_captured line start exit n s) (same_repeat_plain start n s) then same_place exit))))

-- an arm of an `if`
pub same_arm : {here there more again : Names} {c d : Coded} {part other : Part} {follows goes_on : Bool} (line end : ℕ) → follows ≡ goes_on → SameParts here there c d →
    Agree false more again part other →
    Agree false (and_then here more) (and_then there again) (arm_part line end follows c part) (arm_part line end goes_on d other)
same_arm {here} {there} {more} {again} {c} {d} {part} {other} {follows} line end e s p =
    subst (λ b. Agree false (and_then here more) (and_then there again) (arm_part line end follows c part) (arm_part line end b d other)) e
    (bind same_label (λ next. loosely (s.jump_if false next) then same_block line p then if_so follows (same_jump line end) then same_place next))

-- a turn of a `for` loop
same_turn : {here there : Names} {part other : Part} (line base : ℕ) (variables : List Local) → Agree false here there part other →
    Agree false here there (turn line base variables part) (turn line base variables other)
same_turn line base variables p = same_activate variables then same_take (length variables) then same_block line p then same_end_block line (base + 3)

-- two steps of a loop agree
pub record SameStep (here there : Names) (step other : Option Coded) : Type 0 where
  pub same : (line : ℕ) → Agree false here there (step_part line step) (step_part line other)

-- no step
pub same_no_step : SameStep no_names no_names None None
same_no_step = record { same = λ line. bind same_free (λ free. same_load line free (Constant.Number (pos 1)) then same_take 1) }

-- a step
pub same_by_step : {here there : Names} {c d : Coded} → SameValue here there c d → SameStep here there (Some c) (Some d)
same_by_step s = record { same = λ line. same_next s }

-- a numeric `for` loop
pub same_numeric : {here there between beside under over more again : Names} {first last start limit : Coded} {step by : Option Coded} {body other : Option Loop → Part} (line : ℕ) (text : Text) →
    SameValue here there first start → SameValue between beside last limit → SameStep under over step by → SameBody more again body other →
    Agree false (and_then here (and_then between (and_then under more))) (and_then there (and_then beside (and_then over again)))
    (numeric_part line text first last step body) (numeric_part line text start limit by other)
same_numeric line text s t p b =
    bind (same_declare (text ∷ [])) (λ variables. bind same_active (λ n. bind same_free (λ base.
    same_next s then same_next t then p.same line then same_activate numeric_names then
    bind same_label (λ begin. bind same_label (λ end. bind same_label (λ exit.
    same_put line (Piece.Jump Op.ForPrep base end) then same_place begin then same_turn line base variables (b.same (Some (record { exit = exit; before = n }))) then same_place end
    then same_put line (Piece.Jump Op.ForLoop base begin) then same_place exit then same_end n))))))

-- a generic `for` loop
pub same_generic : {here there more again : Names} {cs ds : List Coded} {body other : Option Loop → Part} (line : ℕ) (names : List Text) → AllSame here there cs ds → SameBody more again body other →
    Agree false (and_then here more) (and_then there again) (generic_part line names cs body) (generic_part line names ds other)
same_generic line names ss b =
    bind (same_declare names) (λ variables. bind same_active (λ n. bind same_free (λ base.
    same_adjust line ss 3 then same_activate generic_names then
    bind same_label (λ begin. bind same_label (λ end. bind same_label (λ exit.
    same_jump line end then same_place begin then same_used (base + 6) then same_turn line base variables (b.same (Some (record { exit = exit; before = n }))) then same_place end
    then same_put line (Piece.Abc Op.TForLoop base 0 (length names)) then same_jump line begin then same_place exit then same_end n))))))

-- a `break`
pub same_break : (line : ℕ) (loop : Option Loop) → Agree false no_names no_names (break_part line loop) (break_part line loop)
same_break line None = no_part
same_break line (Some loop) = bind (same_captured loop.before) (λ captured. if_so captured (same_close line loop.before) then same_jump line loop.exit)

-- ---- return

-- one value is returned
same_return_operand : {here there : Names} {c d : Coded} (line : ℕ) → SameValue here there c d → Agree false here there (return_operand line c) (return_operand line d)
same_return_operand line s = bind (same_operand s) (λ x. same_put line (Piece.Abc Op.Return x 2 0))

-- a call is returned
same_return_call : {here there : Names} {c d : Coded} (line : ℕ) → Same here there c d → is_call c.e ≡ true → Agree false here there (return_call line c) (return_call line d)
same_return_call {c = c} line s is = bind same_free (λ base. loosely (s.multi (ap (λ b. b || is_vararg c.e) is) Op.TailCall None) then same_put line (Piece.Abc Op.Return base 0 0))

-- several values are returned
same_return_list : {here there : Names} {cs ds : List Coded} (line : ℕ) → AllSame here there cs ds → Agree false here there (return_list line cs) (return_list line ds)
same_return_list line ss = bind same_free (λ base. same_open ss then put_equal line (ap (λ count. Piece.Abc Op.Return base (count_field 1 count) 0) (same_count ss)))

-- one expression is returned
same_return_one : {here there : Names} {c d : Coded} (line : ℕ) → Same here there c d → Agree false here there (return_one line c) (return_one line d)
same_return_one line s = chosen s.value.look.calls (same_return_call line s) (chosen s.value.look.varargs (λ is. same_return_list line (all_more s all_none)) (same_return_operand line s.value))

-- a `return`
pub same_return : {here there : Names} {cs ds : List Coded} (line : ℕ) → AllSame here there cs ds → Agree false here there (return_part line cs) (return_part line ds)
same_return line all_none = same_put line _
same_return line (all_more s all_none) = same_return_one line s
same_return line (all_more s (all_more t ss)) = same_return_list line (all_more s (all_more t ss))
