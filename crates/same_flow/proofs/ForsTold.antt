-- The heads and the feet of `for` loops, and the ends of their variables, tell of their locals.
use Rattle.std.proofs.Common.{◌≡◌, ◌≤◌, ◌<◌, ℕ, suc, ◌+◌, Bool, true, false, List, [], ◌∷◌, ◌++◌, length, take, drop, refl, sym, ap, ap₂, ◌∙◌, arith, subst}
use Rattle.std.proofs.Math.Seq.{take-append_seam}
use Rattle.std.proofs.lemmas.Option.{same_Some}
use Rattle.std.specs.Prelude.{replicate}
use Rattle.lua_num.specs.Bytes.{Text}
use Rattle.lua_tree.specs.Syntax.{Expressions, Expression, ForStep, no_step, by_step}
use Rattle.opcode.specs.declared.op.Op.{Op}
use Rattle.recover_expr.specs.Drafts.{Part}
use Rattle.recover_expr.specs.declared.steps.StepKind.{StepKind}
use Rattle.scheme.specs.Making.{Maker, end_locals, free_from, any_captured, captured_from, active_count, declare, put, jump_to, place, used}
use Rattle.scheme.specs.Expressions.{next_reg}
use Rattle.scheme.specs.Lists.{adjust}
use Rattle.scheme.specs.Statements.{settle, step_part, numeric_names, generic_names}
use Rattle.scheme.specs.Scheme.{coded, all_coded, step_coded}
use Rattle.scheme.specs.declared.making.Active.{Active}
use Rattle.scheme.specs.declared.making.Piece.{Piece}
use Rattle.same_flow.specs.Laid.{HasStep, HasKind, VariablesEnd, label_of, with_new_labels, numeric_valued, numeric_begun, generic_valued, generic_begun, head_values}
use Rattle.same_flow.specs.Performed.{kind_made}
use Rattle.same_flow.specs.SameFlow.{HasPlainParts}
use Rattle.same_flow.specs.Told.{PartFits, AreCounted}
use Rattle.same_flow.proofs.KeptActive.{active_kept, kept, all_kept, next_kept, adjust_kept}
use Rattle.same_flow.proofs.Followed.{Run, at_step, Follows, nought, LastTo, last_weaker, last_both, append_again, length_both, followed, ended_follows}
use Rattle.same_flow.proofs.TestsFollowed.{kind_there}
use Rattle.same_flow.proofs.RunKeeps.{activated, declared_active}
use Rattle.same_flow.proofs.BlocksFollowed.{replicate_ends, close_step}
use Rattle.same_flow.proofs.HeadsFollowed.{Head, activated_count}
use Rattle.same_flow.proofs.Kept.{variables_before}
use Rattle.same_flow.proofs.ForsFollowed.{for_ends, hidden_to}
use Rattle.same_flow.proofs.StepsTold.{before, Told, told_both, told_to, before_is, before_active, parted, step_told, same_active, close_told}

-- ---- heads

pub head_told : {run : Run} {m begun : Maker} {from label foot to variables_end : ℕ} (numeric : Bool) (part : Part) (ends : List ℕ) → Head run m from label foot to variables_end begun →
    Follows run nought nought m ends from → LastTo (suc from) ends → HasStep run.code m.active from (StepKind.Head numeric foot to variables_end (captured_from (active_count m + 3) begun)) part →
    PartFits (StepKind.Head numeric foot to variables_end (captured_from (active_count m + 3) begun)) part → (from < to) × (from < variables_end) → Told run from (suc from)
head_told {run} {m} {begun} {from} {label} {foot} {to} {variables_end} numeric part ends H F l S fits later =
    let kind = StepKind.Head numeric foot to variables_end (captured_from (active_count m + 3) begun) in
    let now = settle (end_locals (active_count m) (at_step run from).maker) in
    let made : begun.active ≡ (kind_made run.code H.step.kind H.step.part now).active = ap (λ (x : Maker). x.active) (H.step.makes nought nought (refl, tt) now refl F.same) in
    let same : (kind_made run.code H.step.kind H.step.part now).active ≡ (kind_made run.code kind part (before run from)).active =
    ap₂ (λ k p. (kind_made run.code k p now).active) (same_Some H.step.kind kind (sym H.step.kind_is ∙ kind_there S.0)) (same_Some H.step.part part (sym H.step.part_is ∙ S.1))
    ∙ ap (λ x. (kind_made run.code kind part x).active) (sym (before_is F l)) in
    step_told run m.active from kind part S (before_active F l) (parted F l) fits
    (ap₂ (λ (a b : List Active). any_captured (drop (length a + 3) b)) (sym (before_active F l)) (made ∙ same)) later

pub counted_fits : (first last : Expression) (by : ForStep) → AreCounted (head_values first last by)
counted_fits first last no_step = tt
counted_fits first last (by_step e) = tt

-- ---- feet

pub hidden_count : (ends : List ℕ) (to n : ℕ) → length ends ≡ n → length (hidden_to ends to) ≡ n + 3
hidden_count ends to n e = length_both ends (replicate 3 to) ∙ (let d : length (replicate 3 to) ≡ 3 = refl in omega arith)

pub hidden_lasts : (ends : List ℕ) (p to : ℕ) → p ≤ to → LastTo to ends → LastTo p (hidden_to ends to)
hidden_lasts ends p to h l = last_both p ends (replicate 3 to) (last_weaker p to ends h l) (h, (h, (h, tt)))

foot_told : {run : Run} (numeric : Bool) (hidden : List Active) (m : Maker) (ends : List ℕ) (foot target to : ℕ) → Follows run nought nought m (hidden_to ends to) foot → m.active ≡ hidden →
    HasKind run.code hidden foot (StepKind.Foot numeric target) → to ≡ suc foot → LastTo to ends → Told run foot to
foot_told {run} numeric hidden m ends foot target to F is K t l =
    let last = hidden_lasts ends (suc foot) to (omega arith) l in
    told_to t (step_told run hidden foot (StepKind.Foot numeric target) K.0 K.1 (before_active F last ∙ is) (parted F last) tt tt tt)

variables_told : {run : Run} (numeric : Bool) (hidden : List Active) (m : Maker) (ends : List ℕ) (count : ℕ) (b : Bool) (end foot target to : ℕ) →
    Follows run nought nought m (hidden_to ends to) end → m.active ≡ hidden →
    VariablesEnd run.code hidden count b end foot → HasKind run.code hidden foot (StepKind.Foot numeric target) → to ≡ suc foot → LastTo to ends → Told run end to
variables_told {run} numeric hidden m ends count false end foot target to F is V K t l =
    foot_told numeric hidden m ends end target to F is (subst (λ x. HasKind run.code hidden x (StepKind.Foot numeric target)) V K) (omega arith) l
variables_told {run} numeric hidden m ends count true end foot target to F is (e, C) K t l =
    let last = hidden_lasts ends (suc end) to (omega arith) l in
    told_both run end (suc end) to (close_told F last is C)
    (foot_told numeric hidden _ ends (suc end) target to (followed (close_step m (hidden_to ends to) end count C last) F) is (subst (λ x. HasKind run.code hidden x (StepKind.Foot numeric target)) e K)
    (omega arith) l)

-- behind the block of a loop, where its variables lie behind the hidden locals
pub feet_told : {run : Run} → HasPlainParts run.code → (numeric : Bool) (hidden others : List Active) {begun inner : Maker} (ends : List ℕ) (n k from foot to variables_end : ℕ) (b : Bool) →
    begun.active ≡ hidden ++ others → length hidden ≡ n + 3 → length ends ≡ n →
    Follows run nought nought begun (for_ends ends to k variables_end) (suc from) → Follows run nought nought inner (for_ends ends to k variables_end) variables_end →
    from < variables_end → LastTo variables_end (for_ends ends to k variables_end) →
    VariablesEnd run.code hidden (n + 3) b variables_end foot → HasKind run.code hidden foot (StepKind.Foot numeric (suc from)) → to ≡ suc foot → LastTo to ends → Told run variables_end to
feet_told {run} plain numeric hidden others {begun} {inner} ends n k from foot to variables_end b is count e F G less all V K t l =
    let variables = replicate k variables_end in
    let order : suc from ≤ variables_end = omega (arith, less) in
    let H = ended_follows (n + 3) variables (hidden_count ends to n e) (replicate_ends k variables_end) nought nought
    (subst (λ (es : List ℕ). Follows run nought nought inner es variables_end) (sym (append_again ends (replicate 3 to) variables)) G) in
    let same : take (n + 3) inner.active ≡ hidden =
    ap₂ (λ x (a : List Active). take x a) (sym count) (same_active plain F G order all ∙ is) ∙ take-append_seam hidden others in
    variables_told numeric hidden (free_from (n + 3) (end_locals (n + 3) inner)) ends (n + 3) b variables_end foot (suc from) to H same V K t l

-- ---- the hidden locals

pub step_kept : (by : ForStep) (m : Maker) → (step_part 1 (step_coded by) m).active ≡ m.active
step_kept no_step m = refl
step_kept (by_step e) m = active_kept (next_kept (kept e)) m

pub numeric_hidden : (name : Text) (first last : Expression) (by : ForStep) (m : Maker) → active_count (numeric_valued 1 name first last by m) ≡ active_count m + 3
numeric_hidden name first last by m =
    let declared = (declare (name ∷ []) m).after in
    let one = next_reg (coded first) declared in
    let two = next_reg (coded last) one in
    activated_count numeric_names (step_part 1 (step_coded by) two)
    ∙ ap (λ (x : List Active). length x + 3) (step_kept by two ∙ active_kept (next_kept (kept last)) one ∙ active_kept (next_kept (kept first)) declared)

pub generic_hidden : (names : List Text) (es : Expressions) (m : Maker) → active_count (generic_valued 1 names es m) ≡ active_count m + 3
generic_hidden names es m =
    let declared = (declare names m).after in
    activated_count generic_names (adjust 1 (all_coded es) 3 declared)
    ∙ ap (λ (x : List Active). length x + 3) (active_kept (adjust_kept 1 (all_coded es) (all_kept es) 3) declared ∙ declared_active names m)

-- the variables lie behind them
pub numeric_variables : (name : Text) (first last : Expression) (by : ForStep) (m : Maker) →
    (others : List Active) × ((numeric_begun 1 name first last by m).active ≡ (numeric_valued 1 name first last by m).active ++ others)
numeric_variables name first last by m =
    let valued = numeric_valued 1 name first last by m in
    activated (declare (name ∷ []) m).value (place (label_of valued) (put 1 (Piece.Jump Op.ForPrep m.free (suc (label_of valued))) (with_new_labels 3 valued)))

pub generic_variables : (names : List Text) (es : Expressions) (m : Maker) →
    (others : List Active) × ((generic_begun 1 names es m).active ≡ (generic_valued 1 names es m).active ++ others)
generic_variables names es m =
    let valued = generic_valued 1 names es m in
    activated (declare names m).value (used (m.free + 6) (place (label_of valued) (jump_to 1 (suc (label_of valued)) (with_new_labels 3 valued))))

-- ---- a whole loop, where the steps of its block tell

pub for_told : {run : Run} → HasPlainParts run.code → (numeric : Bool) (part : Part) (hidden others : List Active) {m begun inner : Maker} (ends : List ℕ) {from label foot to variables_end : ℕ}
    (H : Head run m from label foot to variables_end begun) → begun.active ≡ hidden ++ others → length hidden ≡ active_count m + 3 → Follows run nought nought m ends from →
    HasStep run.code m.active from (StepKind.Head numeric foot to variables_end (captured_from (active_count m + 3) begun)) part →
    PartFits (StepKind.Head numeric foot to variables_end (captured_from (active_count m + 3) begun)) part → from < variables_end →
    VariablesEnd run.code hidden (active_count m + 3) (captured_from (active_count m + 3) begun) variables_end foot → HasKind run.code hidden foot (StepKind.Foot numeric (suc from)) → to ≡ suc foot →
    LastTo to ends → LastTo (suc from) ends → LastTo variables_end (for_ends ends to H.variables variables_end) →
    Follows run nought nought begun (for_ends ends to H.variables variables_end) (suc from) → Follows run nought nought inner (for_ends ends to H.variables variables_end) variables_end →
    Told run (suc from) variables_end → Told run from to
for_told {run} plain numeric part hidden others {m} {begun} {inner} ends {from} {label} {foot} {to} {variables_end} H is count F S fits less V K t l first all start end told =
    let order : variables_end ≤ foot = variables_before run.code hidden (active_count m + 3) (captured_from (active_count m + 3) begun) variables_end foot V in
    told_both run from (suc from) to (head_told numeric part ends H F first S fits (omega arith, less)) (told_both run (suc from) variables_end to told
    (feet_told plain numeric hidden others ends (active_count m) H.variables from foot to variables_end (captured_from (active_count m + 3) begun) is count F.count start end less all V K t l))
