-- The active locals along steps: a step adds those that it lists, one after the other, so that of two active locals the later stands later in the list.
use Rattle.std.proofs.Common.{◌≡◌, ◌<◌, ◌≤◌, ℕ, zero, suc, ◌+◌, Bool, true, false, List, [], ◌∷◌, ◌++◌, drop, length, length-set, take, refl, sym, ap, ap₂, ◌∙◌, arith, subst}
use Rattle.std.proofs.lemmas.Option.{none-some, same_Some}
use Rattle.std.specs.Prelude.{Option, None, Some, option_map, slice_get}
use Rattle.lua_num.specs.Bytes.{Text}
use Rattle.lua_tree.specs.Syntax.{Statement, assignment, call_statement, function_statement, local_function, local_statement, return_statement}
use Rattle.opcode.specs.declared.op.Op.{Op}
use Rattle.proto.specs.declared.parts.LocVar.{LocVar}
use Rattle.recover_expr.specs.Drafts.{Part, nothing_part, statement_part, values_part, condition_part, head_part}
use Rattle.recover_expr.specs.Placing.{Steps}
use Rattle.recover_expr.specs.declared.steps.Step.{Step}
use Rattle.recover_expr.specs.declared.steps.StepKind.{StepKind}
use Rattle.scheme.specs.Functions.{closure, empty_maker}
use Rattle.scheme.specs.Lists.{adjust}
use Rattle.scheme.specs.Making as making
use Rattle.scheme.specs.Making.{Ahead, Maker, activate, declare, end_all, end_locals, entry_at, jump_to, put, starts_here, take_registers, used}
use Rattle.scheme.specs.Scheme.{all_coded, inner, statement_made}
use Rattle.scheme.specs.Statements.{generic_names, numeric_names}
use Rattle.scheme.specs.declared.making.Active.{Active}
use Rattle.scheme.specs.declared.making.Local.{Local}
use Rattle.scheme.specs.declared.making.Piece.{Piece}
use Rattle.same_flow.specs.Listed.{before_place}
use Rattle.same_flow.specs.Performed.{Performance, behind_kind, behind_step, counted_values, ended_before, head_made, kind_at, kind_made, part_at, part_made, performed_to, still_active}
use Rattle.same_flow.specs.Renaming.{IsOneStep}
use Rattle.same_flow.specs.SameFlow.{HasPlainParts, IsPlainPart, begun_of}
use Rattle.same_flow.specs.Told.{at_beginning}
use Rattle.same_flow.proofs.Followed.{append_again, append_nothing, length_both}
use Rattle.same_flow.proofs.KeptActive.{Keeps, active_kept, adjust_kept, all_kept, assignment_kept, closure_kept, function_statement_kept, kept, locals_kept, return_kept}
use Rattle.same_flow.proofs.ListedLocals.{end_one_length}
use Rattle.same_flow.proofs.ListedSteps.{counted_locals, declared_locals}
use Rattle.same_flow.proofs.RunKeeps.{counted_kept, declared_active}

-- ---- what is added

-- these are listed one after the other, from a number on
abbrev pub InTurn : (first : ℕ) → List Active → Type 0
InTurn first [] = Unit {0}
InTurn first (one ∷ others) = (one.listed ≡ first) × InTurn (suc first) others

in_turn_both : (first next : ℕ) (xs ys : List Active) → next ≡ first + length xs → InTurn first xs → InTurn next ys → InTurn first (xs ++ ys)
in_turn_both first next [] ys e a b = subst (λ n. InTurn n ys) (omega (arith, e)) b
in_turn_both first next (x ∷ xs) ys e a b = (a.0, in_turn_both (suc first) next xs ys (omega (arith, e)) a.1 b)

-- behind the active locals of the first there are others, which are listed next
pub record Adds (m made : Maker) : Type 0 where
  pub new : List Active
  pub active : made.active ≡ m.active ++ new
  pub listed : InTurn (length m.locals) new
  pub count : length made.locals ≡ length m.locals + length new

adds_none : (m made : Maker) → made.active ≡ m.active → length made.locals ≡ length m.locals → Adds m made
adds_none m made same count = record { new = []; active = same ∙ sym (append_nothing m.active); listed = tt; count = omega (arith, count) }

pub adds_both : {m middle made : Maker} → Adds m middle → Adds middle made → Adds m made
adds_both {m} {middle} {made} a b =
    let one = a.count in
    let two = b.count in
    record {
      new = a.new ++ b.new;
      active = b.active ∙ ap (λ (active : List Active). active ++ b.new) a.active ∙ append_again m.active a.new b.new;
      listed = in_turn_both (length m.locals) (length middle.locals) a.new b.new one a.listed b.listed;
      count = omega (arith, one, two, length_both a.new b.new);
    }

adds_kept : {part : making.Part} → Keeps part → (m : Maker) → Adds m (part m)
adds_kept {part} keeps m = adds_none m (part m) (active_kept keeps m) (ap (λ (locals : List LocVar). length locals) (locals_kept keeps m))

pub adds_declared : (texts : List Text) (m : Maker) → Adds m (declare texts m).after
adds_declared texts m = adds_none m (declare texts m).after (declared_active texts m) (ap (λ (locals : List LocVar). length locals) (declared_locals texts m))

pub adds_activated : (locals : List Local) (m : Maker) → Adds m (activate locals m)
adds_activated [] m = adds_none m m refl refl
adds_activated (local ∷ locals) m =
    let entry : LocVar = record { name = local.name; start = length m.items; end = length m.items } in
    let next : Maker = record m { active = m.active ++ record { local = local; listed = length m.locals } ∷ []; locals = m.locals ++ entry ∷ [] } in
    let one : Adds m next = record { new = record { local = local; listed = length m.locals } ∷ []; active = refl; listed = (refl, tt); count = length_both m.locals (entry ∷ []) } in
    adds_both one (adds_activated locals next)

-- ---- statements of one step

statement_adds : (s : Statement) → IsOneStep s → (m : Maker) → Adds m (statement_made s 1 None m)
statement_adds (assignment targets es) one m = adds_kept (assignment_kept 1 targets es) m
statement_adds (call_statement e) one m = adds_kept ((kept e).multi Op.Call (Some 0)) m
statement_adds (function_statement path method body) one m = adds_kept (function_statement_kept 1 path method body) m
statement_adds (local_function text body) one m =
    let declared = declare (text ∷ []) m in
    let taken = take_registers 1 declared.after in
    let first = activate declared.value taken in
    let closed = closure 1 (inner body false) m.free first in
    let made = starts_here (length m.locals) closed in
    let entry = entry_at closed.locals (length m.locals) in
    adds_both (adds_declared (text ∷ []) m) (adds_both (adds_none declared.after taken refl refl) (adds_both (adds_activated declared.value taken)
    (adds_both (adds_kept (closure_kept 1 (inner body false) m.free) first)
    (adds_none closed made refl (length-set closed.locals (length m.locals) (record { name = entry.name; start = length closed.items; end = length closed.items }))))))
statement_adds (local_statement names es) one m =
    let declared = declare names m in
    adds_both (adds_declared names m) (adds_both (adds_kept (adjust_kept 1 (all_coded es) (all_kept es) (length names)) declared.after) (adds_activated declared.value _))
statement_adds (return_statement es) one m = adds_kept (return_kept 1 (all_coded es) (all_kept es)) m
statement_adds s one m = absurd one

part_adds : (part : Part) → IsPlainPart part → (m : Maker) → Adds m (part_made part m)
part_adds (statement_part s) is m = statement_adds s is.0 m
part_adds (values_part es) is m = statement_adds (return_statement es) tt m
part_adds part is m = adds_none m m refl refl

-- ---- heads of loops

-- hidden locals, a word, and the variables
both_added : (hidden variables : List Local) (m valued next : Maker) → Adds m valued → next.active ≡ (activate hidden valued).active → next.locals ≡ (activate hidden valued).locals →
    Adds m (take_registers (length variables) (activate variables next))
both_added hidden variables m valued next a same locals =
    let made = activate variables next in
    adds_both a (adds_both (adds_activated hidden valued) (adds_both (adds_none (activate hidden valued) next same (ap (λ (entries : List LocVar). length entries) locals))
    (adds_both (adds_activated variables next) (adds_none made (take_registers (length variables) made) refl refl))))

head_adds : (numeric : Bool) (foot : ℕ) (part : Part) (m : Maker) → Adds m (head_made numeric foot part m)
head_adds true foot (head_part values names) m =
    let declared = (declare names m).after in
    let valued = counted_values values declared in
    both_added numeric_names (declare names m).value m valued (put 1 (Piece.Jump Op.ForPrep declared.free foot) (activate numeric_names valued))
    (adds_both (adds_declared names m) (adds_none declared valued (counted_kept values declared) (ap (λ (entries : List LocVar). length entries) (counted_locals values declared)))) refl refl
head_adds false foot (head_part values names) m =
    let declared = (declare names m).after in
    let valued = adjust 1 (all_coded values) 3 declared in
    both_added generic_names (declare names m).value m valued (used (declared.free + 6) (jump_to 1 foot (activate generic_names valued)))
    (adds_both (adds_declared names m) (adds_kept (adjust_kept 1 (all_coded values) (all_kept values) 3) declared)) refl refl
head_adds true foot nothing_part m = adds_none m m refl refl
head_adds false foot nothing_part m = adds_none m m refl refl
head_adds true foot (statement_part s) m = adds_none m m refl refl
head_adds false foot (statement_part s) m = adds_none m m refl refl
head_adds true foot (values_part es) m = adds_none m m refl refl
head_adds false foot (values_part es) m = adds_none m m refl refl
head_adds true foot (condition_part e) m = adds_none m m refl refl
head_adds false foot (condition_part e) m = adds_none m m refl refl

-- ---- a step

pub kind_adds : (code : Steps) (kind : StepKind) (part : Part) → IsPlainPart part → (m : Maker) → Adds m (kind_made code kind part m)
kind_adds code StepKind.Act part is m = part_adds part is m
kind_adds code StepKind.Return part is m = part_adds part is m
kind_adds code (StepKind.Declaration end captured) part is m = part_adds part is m
kind_adds code (StepKind.Test when target levels) (condition_part e) is m = adds_kept ((kept e).jump_if when target) m
kind_adds code (StepKind.Test when target levels) nothing_part is m = adds_none m m refl refl
kind_adds code (StepKind.Test when target levels) (statement_part s) is m = adds_none m m refl refl
kind_adds code (StepKind.Test when target levels) (values_part es) is m = adds_none m m refl refl
kind_adds code (StepKind.Test when target levels) (head_part values names) is m = adds_none m m refl refl
kind_adds code (StepKind.Jump target) part is m = adds_none m _ refl refl
kind_adds code (StepKind.Close from declared) part is m = adds_none m _ refl refl
kind_adds code (StepKind.Head numeric foot end variables_end captured) part is m = head_adds numeric foot part m
kind_adds code (StepKind.Foot true target) part is m = adds_none m _ refl refl
kind_adds code (StepKind.Foot false target) part is m = adds_none m _ refl refl

-- ---- the order of the active locals

-- their numbers in the list rise, from one on up to another
abbrev pub Rising : (low : ℕ) → List Active → (high : ℕ) → Type 0
Rising low [] high = low ≤ high
Rising low (one ∷ others) high = (low ≤ one.listed) × Rising (suc one.listed) others high

rising_order : (low high : ℕ) (active : List Active) → Rising low active high → low ≤ high
rising_order low high [] rising = rising
rising_order low high (one ∷ others) rising =
    let here = rising.0 in
    let behind = rising_order (suc one.listed) high others rising.1 in
    omega (arith, here, behind)

rising_turn : (low high next : ℕ) (active : List Active) → low ≤ high → InTurn high active → next ≡ high + length active → Rising low active next
rising_turn low high next [] order turn e = omega (arith, order, e)
rising_turn low high next (one ∷ others) order turn e =
    let here = turn.0 in
    (omega (arith, here, order), rising_turn (suc one.listed) (suc high) next others (omega (arith, here)) turn.1 (omega (arith, e)))

rising_more : (low high next : ℕ) (active new : List Active) → Rising low active high → InTurn high new → next ≡ high + length new → Rising low (active ++ new) next
rising_more low high next [] new rising turn e = rising_turn low high next new rising turn e
rising_more low high next (one ∷ others) new rising turn e = (rising.0, rising_more (suc one.listed) high next others new rising.1 turn e)

rising_taken : (n low high : ℕ) (active : List Active) → Rising low active high → Rising low (take n active) high
rising_taken zero low high active rising = rising_order low high active rising
rising_taken (suc n) low high [] rising = rising
rising_taken (suc n) low high (one ∷ others) rising = (rising.0, rising_taken n (suc one.listed) high others rising.1)

-- the next one stands later in the list
pub rising_next : (low high : ℕ) (active : List Active) → Rising low active high → (n : ℕ) (one next : Active) → slice_get active n ≡ Some one → slice_get active (suc n) ≡ Some next → one.listed < next.listed
rising_next low high [] rising n one next is also = absurd (none-some one is)
rising_next low high (first ∷ []) rising n one next is also = absurd (none-some next also)
rising_next low high (first ∷ second ∷ others) rising zero one next is also =
    let order = rising.1.0 in
    subst (λ (x : Active). x.listed < next.listed) (same_Some first one is) (subst (λ (x : Active). first.listed < x.listed) (same_Some second next also) (omega (arith, order)))
rising_next low high (first ∷ second ∷ others) rising (suc n) one next is also = rising_next (suc first.listed) high (second ∷ others) rising.1 n one next is also

-- ---- along the steps of a function

abbrev Rises : Maker → Type 0
Rises m = Rising 0 m.active (length m.locals)

rises_added : (m made : Maker) → Adds m made → Rises m → Rises made
rises_added m made a rises = subst (λ (active : List Active). Rising 0 active (length made.locals)) (sym a.active) (rising_more 0 (length m.locals) (length made.locals) m.active a.new rises a.listed a.count)

end_all_length : (here : ℕ) (active : List Active) (entries : List LocVar) → length (end_all here active entries) ≡ length entries
end_all_length here [] entries = refl
end_all_length here (one ∷ others) entries = end_all_length here others _ ∙ end_one_length here one.listed entries

rises_ended : (n : ℕ) (m : Maker) → Rises m → Rises (end_locals n m)
rises_ended n m rises = subst (λ count. Rising 0 (take n m.active) count) (sym (end_all_length (length m.items) (drop n m.active) m.locals)) (rising_taken n 0 (length m.locals) m.active rises)

rises_behind : (code : Steps) (kind : Option StepKind) (part : Option Part) (now : Performance) → ((it : Part) → part ≡ Some it → IsPlainPart it) → Rises now.maker → Rises (behind_step code kind part now).maker
rises_behind code (Some kind) (Some part) now plain rises = rises_added now.maker (kind_made code kind part now.maker) (kind_adds code kind part (plain part refl) now.maker) rises
rises_behind code None part now plain rises = rises
rises_behind code (Some kind) None now plain rises = rises

module _ (code : Steps) (plain : HasPlainParts code) (params names : List Text) (ahead : Ahead) where
  begun_rises : Rises (begun_of params names ahead)
  begun_rises =
      let empty = empty_maker ahead names in
      let declared = declare params empty in
      let made = activate declared.value declared.after in
      let start : Rises empty = omega arith in
      rises_added empty made (adds_both (adds_declared params empty) (adds_activated declared.value declared.after)) start

  -- behind so many steps
  rises_to : (at : ℕ) → Rises (performed_to code (at_beginning code params names ahead) at).maker
  rises_to zero = begun_rises
  rises_to (suc at) =
      let now = performed_to code (at_beginning code params names ahead) at in
      rises_behind code (kind_at code.steps at) (part_at code at) (ended_before at now) (plain at) (rises_ended (still_active at now.ends) now.maker (rises_to at))

  -- before a step
  pub rises_before : (at : ℕ) → Rises (before_place code params names ahead at).maker
  rises_before at =
      let now = performed_to code (at_beginning code params names ahead) at in
      rises_ended (still_active at now.ends) now.maker (rises_to at)

  -- no local goes off the list
  pub count_before : (at : ℕ) → length (before_place code params names ahead at).maker.locals ≡ length (performed_to code (at_beginning code params names ahead) at).maker.locals
  count_before at =
      let now = performed_to code (at_beginning code params names ahead) at in
      end_all_length (length now.maker.items) (drop (still_active at now.ends) now.maker.active) now.maker.locals

  -- what a step leaves, by its kind and its part
  pub step_makes : (at : ℕ) (step : Step) (part : Part) → slice_get code.steps at ≡ Some step → part_at code at ≡ Some part →
      performed_to code (at_beginning code params names ahead) (suc at) ≡ behind_kind code step.kind part (before_place code params names ahead at)
  step_makes at step part there is =
      ap₂ (λ (kind : Option StepKind) (it : Option Part). behind_step code kind it (before_place code params names ahead at)) (ap (option_map (λ (it : Step). it.kind)) there) is
