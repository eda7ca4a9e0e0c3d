-- The locals that are active while statements are made have names that are in scope there: behind each statement, behind all of a block, and in a loop. So a name that means such a local is one of these.
use Rattle.std.proofs.Common.{◌≡◌, ℕ, zero, suc, ◌+◌, true, false, List, [], ◌∷◌, ◌++◌, length, is_some, refl, sym, ap, ◌∙◌, subst}
use Rattle.std.proofs.lemmas.Option.{none-some, same_Some}
use Rattle.std.proofs.lemmas.Slice.Eq.{bytes_eq-Decides}
use Rattle.std.specs.Prelude.{Option, Some, slice_get}
use Rattle.std.specs.Str.{bytes_eq}
use Rattle.lua_num.specs.Bytes.{Text}
use Rattle.lua_tree.specs.Syntax as syntax
use Rattle.lua_tree.specs.Syntax.{Statements, no_statements, Statement, assignment, call_statement, do_block, while_loop, repeat_loop, if_statement, numeric_for, generic_for, function_statement, local_function, local_statement, return_statement, break_statement, Expression, Expressions, ForStep, no_step, by_step}
use Rattle.opcode.specs.declared.op.Op.{Op}
use Rattle.scheme.specs.Expressions.{next_reg}
use Rattle.scheme.specs.Functions.{empty_maker}
use Rattle.scheme.specs.Lists.{adjust}
use Rattle.scheme.specs.Making.{Ahead, Maker, activate, declare, jump_to, new_label, place, put, take_registers, used}
use Rattle.scheme.specs.Scheme.{all_coded, coded, has_otherwise, inner, statement_made, statements_made, step_coded}
use Rattle.scheme.specs.Statements.{Loop, generic_names, numeric_names, settle, step_part}
use Rattle.scheme.specs.declared.making.Active.{Active}
use Rattle.scheme.specs.declared.making.Local.{Local}
use Rattle.scheme.specs.declared.making.Piece.{Piece}
use Rattle.scheme_order.specs.Turned.{is_among, with_all_declared, with_declared}
use Rattle.scheme_stands.proofs.Blocks.{Settled, block_grows, break_grows}
use Rattle.scheme_stands.proofs.Fors.{generic_grows, numeric_grows}
use Rattle.scheme_stands.proofs.Growth.{calm}
use Rattle.scheme_stands.proofs.Loops.{repeat_grows, while_grows}
use Rattle.scheme_stands.proofs.Parts.{grow_all, grows}
use Rattle.scheme_stands.proofs.Statements.{calm_branches, calm_otherwise, grow_statements, if_chain, step_grows}
use Rattle.scheme_stands.specs.Words.{own_register}
use Rattle.same_flow.specs.Laid.{generic_begun, label_of, numeric_begun, with_new_labels}
use Rattle.same_flow.specs.SameFlow.{begun_of}
use Rattle.same_flow.proofs.KeptActive.{active_kept, adjust_kept, all_kept, assignment_kept, closure_kept, function_statement_kept, kept, next_kept, return_kept}
use Rattle.same_flow.proofs.RunKeeps.{declared_active}
use Rattle.reads_back.proofs.InnerNames.{among_both}
use Rattle.reads_back.proofs.ListedLocals.{own_named}
use Rattle.reads_back.proofs.LocalsBrought.{activated, locals_of}
use Rattle.reads_back.proofs.Tests.{first_of_both, not_so, or_first, or_second, second_of_both}

-- ---- names

-- each of these is one of the others
abbrev AllAmong : (names own : List Text) → Type 0
AllAmong names own = (text : Text) → is_among text names ≡ true → is_among text own ≡ true

in_front : (names own : List Text) → AllAmong names (names ++ own)
in_front names own text is = among_both text names own ∙ or_first (is_among text names) (is_among text own) is

behind : (names own : List Text) → AllAmong own (names ++ own)
behind names own text is = among_both text names own ∙ or_second (is_among text names) (is_among text own) is

-- ---- locals whose names are among these

-- the name of a local, unless it is hidden
abbrev IsAmong : (own : List Text) → Local → Type 0
IsAmong own local = is_some local.declaration ≡ true → is_among local.name own ≡ true

abbrev AreAmong : (own : List Text) → List Local → Type 0
AreAmong own [] = Unit {0}
AreAmong own (local ∷ locals) = IsAmong own local × AreAmong own locals

-- of the active ones
abbrev pub ActiveAmong : (own : List Text) → List Active → Type 0
ActiveAmong own active = AreAmong own (locals_of active)

more_among : (own all : List Text) → AllAmong own all → (locals : List Local) → AreAmong own locals → AreAmong all locals
more_among own all more [] among = tt
more_among own all more (local ∷ locals) among = ((λ some. more local.name (among.0 some)), more_among own all more locals among.1)

both_among : (own : List Text) (xs ys : List Local) → AreAmong own xs → AreAmong own ys → AreAmong own (xs ++ ys)
both_among own [] ys first second = second
both_among own (x ∷ xs) ys first second = (first.0, both_among own xs ys first.1 second)

declared_among : (own texts : List Text) (m : Maker) → AllAmong texts own → AreAmong own (declare texts m).value
declared_among own [] m are = tt
declared_among own (text ∷ texts) m are = (
  (λ some. are text (or_first (bytes_eq text text) (is_among text texts) ((bytes_eq-Decides text text).1 refl))),
  declared_among own texts _ (λ other is. are other (or_second (bytes_eq other text) (is_among other texts) is)),
)

among_at : (own : List Text) (active : List Active) (register : ℕ) (one : Active) → ActiveAmong own active → slice_get active register ≡ Some one → IsAmong own one.local
among_at own [] register one among there = absurd (none-some one there)
among_at own (first ∷ active) zero one among there = subst (λ (one : Active). IsAmong own one.local) (same_Some first one there) among.0
among_at own (first ∷ active) (suc register) one among there = among_at own active register one among.1 there

-- so a name that means one of them is one of these
pub among_named : (own : List Text) (active : List Active) → ActiveAmong own active → (text : Text) (r : ℕ) → own_register text active ≡ Some r → is_among text own ≡ true
among_named own active among text r is =
    let found = own_named text active r is in
    let local = found.local.local in
    let same : text ≡ local.name = (bytes_eq-Decides text local.name).0 (second_of_both (is_some local.declaration) _ found.named) in
    ap (λ text. is_among text own) same ∙ among_at own active r found.local among found.there (first_of_both (is_some local.declaration) _ found.named)

-- where the active locals are the same
pub same_among : (own : List Text) {active other : List Active} → other ≡ active → ActiveAmong own active → ActiveAmong own other
same_among own same among = subst (ActiveAmong own) (sym same) among

-- these come behind them
activated_among : (own : List Text) (locals : List Local) (m : Maker) → ActiveAmong own m.active → AreAmong own locals → ActiveAmong own (activate locals m).active
activated_among own locals m among new = subst (AreAmong own) (sym (activated locals m)) (both_among own (locals_of m.active) locals among new)

-- names that are declared, whose locals become active later
come_among : (own names : List Text) (m ready : Maker) → ready.active ≡ m.active → ActiveAmong own m.active → ActiveAmong (names ++ own) (activate (declare names m).value ready).active
come_among own names m ready same among =
    let all = names ++ own in
    activated_among all (declare names m).value ready (same_among all {active = m.active} same (more_among own all (behind names own) (locals_of m.active) among)) (declared_among all names m (in_front names own))

-- ---- what statements declare

module _ (own : List Text) where
  -- behind a statement
  pub statement_among : (s : Statement) (line : ℕ) (loop : Option Loop) (m : Maker) → Settled m → ActiveAmong own m.active → ActiveAmong (with_declared own s) (statement_made s line loop m).active
  statement_among (assignment targets es) line loop m settled among = same_among own (active_kept (assignment_kept line targets es) m) among
  statement_among (call_statement e) line loop m settled among = same_among own (active_kept ((kept e).multi Op.Call (Some 0)) m) among
  statement_among (do_block block) line loop m settled among = same_among own (block_grows line (statements_made block loop) m (grow_statements block loop m settled)).active among
  statement_among (while_loop e block) line loop m settled among = same_among own (while_grows line (coded e) (statements_made block) (grows calm e) (grow_statements block) m settled).active among
  statement_among (repeat_loop block e) line loop m settled among = same_among own (repeat_grows line (coded e) (statements_made block) (grows calm e) (grow_statements block) m settled).active among
  statement_among (if_statement branches last) line loop m settled among =
      let arms = calm_branches branches line loop (length m.labels) (has_otherwise last) (new_label m).after settled in
      same_among own (if_chain m arms (calm_otherwise last line loop _ arms.settled)).active among
  statement_among (numeric_for name first last by block) line loop m settled among =
      same_among own (numeric_grows line name (coded first) (coded last) (step_coded by) (statements_made block) (grows calm first) (grows calm last) (step_grows line by) (grow_statements block) m settled).active among
  statement_among (generic_for names es block) line loop m settled among = same_among own (generic_grows line names (all_coded es) (statements_made block) (grow_all calm es) (grow_statements block) m settled).active among
  statement_among (function_statement path method body) line loop m settled among = same_among own (active_kept (function_statement_kept line path method body) m) among
  statement_among (local_function text body) line loop m settled among =
      let declared = declare (text ∷ []) m in
      let taken = take_registers 1 declared.after in
      same_among (text ∷ own) (active_kept (closure_kept line (inner body false) m.free) (activate declared.value taken)) (come_among own (text ∷ []) m taken refl among)
  statement_among (local_statement names es) line loop m settled among =
      let declared = declare names m in
      let valued = adjust line (all_coded es) (length names) declared.after in
      come_among own names m valued (active_kept (adjust_kept line (all_coded es) (all_kept es) (length names)) declared.after ∙ declared_active names m) among
  statement_among (return_statement es) line loop m settled among = same_among own (active_kept (return_kept line (all_coded es) (all_kept es)) m) among
  statement_among break_statement line loop m settled among = same_among own (break_grows line loop m).active among

-- behind all statements of a block
pub statements_among : (own : List Text) (block : Statements) (loop : Option Loop) (m : Maker) → Settled m → ActiveAmong own m.active → ActiveAmong (with_all_declared own block) (statements_made block loop m).active
statements_among own no_statements loop m settled among = among
statements_among own (syntax.statement line semi s rest) loop m settled among =
    statements_among (with_declared own s) rest loop (settle (statement_made s line loop m)) refl (statement_among own s line loop m settled among)

-- ---- loops

step_kept : (line : ℕ) (by : ForStep) (m : Maker) → (step_part line (step_coded by) m).active ≡ m.active
step_kept line no_step m = refl
step_kept line (by_step e) m = active_kept (next_kept (kept e)) m

-- in the block of a loop over numbers its variable is active, and hidden locals
pub numeric_among : (own : List Text) (line : ℕ) (name : Text) (first last : Expression) (by : ForStep) (m : Maker) → ActiveAmong own m.active → ActiveAmong (name ∷ own) (numeric_begun line name first last by m).active
numeric_among own line name first last by m among =
    let declared = (declare (name ∷ []) m).after in
    let one = next_reg (coded first) declared in
    let two = next_reg (coded last) one in
    let three = step_part line (step_coded by) two in
    let same : three.active ≡ m.active = step_kept line by two ∙ active_kept (next_kept (kept last)) one ∙ active_kept (next_kept (kept first)) declared in
    let hidden = activate numeric_names three in
    let all = name ∷ own in
    activated_among all (declare (name ∷ []) m).value (place (label_of hidden) (put line (Piece.Jump Op.ForPrep m.free (suc (label_of hidden))) (with_new_labels 3 hidden)))
    (activated_among all numeric_names three (same_among all same (more_among own all (behind (name ∷ []) own) (locals_of m.active) among)) (not_so, (not_so, (not_so, tt))))
    (declared_among all (name ∷ []) m (in_front (name ∷ []) own))

-- in that of another loop its variables are
pub generic_among : (own : List Text) (line : ℕ) (names : List Text) (es : Expressions) (m : Maker) → ActiveAmong own m.active → ActiveAmong (names ++ own) (generic_begun line names es m).active
generic_among own line names es m among =
    let declared = (declare names m).after in
    let valued = adjust line (all_coded es) 3 declared in
    let same : valued.active ≡ m.active = active_kept (adjust_kept line (all_coded es) (all_kept es) 3) declared ∙ declared_active names m in
    let hidden = activate generic_names valued in
    let all = names ++ own in
    activated_among all (declare names m).value (used (m.free + 6) (place (label_of hidden) (jump_to line (suc (label_of hidden)) (with_new_labels 3 hidden))))
    (activated_among all generic_names valued (same_among all same (more_among own all (behind names own) (locals_of m.active) among)) (not_so, (not_so, (not_so, tt))))
    (declared_among all names m (in_front names own))

-- ---- a function

-- at its beginning the parameters are active
pub params_among : (params names : List Text) (ahead : Ahead) → ActiveAmong params (begun_of params names ahead).active
params_among params names ahead =
    let empty = empty_maker ahead names in
    activated_among params (declare params empty).value (declare params empty).after (same_among params {active = []} (declared_active params empty) tt) (declared_among params params empty (λ text is. is))
