-- A step leaves the locals active that last longer, so a run keeps the first locals as they are until they end.
use Rattle.std.proofs.Common.{◌≡◌, ℕ, zero, suc, ◌+◌, ◌-◌, ◌≤◌, Bool, true, false, cond, List, [], ◌∷◌, ◌++◌, length, take, refl, sym, ap, ◌∙◌, arith, subst}
use Rattle.std.proofs.lemmas.List.{take-append-le}
use Rattle.std.proofs.lemmas.Bool.Decides.{nat_tests}
use Rattle.std.specs.Prelude.{Option, Some, None, nat_lt}
use Rattle.lua_num.specs.Bytes.{Text}
use Rattle.lua_tree.specs.Syntax.{Statement, assignment, call_statement, function_statement, local_function, local_statement, return_statement, Expressions, no_expressions, expression}
use Rattle.opcode.specs.declared.op.Op.{Op}
use Rattle.recover_expr.specs.Drafts.{Part, nothing_part, statement_part, values_part, condition_part, head_part}
use Rattle.recover_expr.specs.declared.steps.StepKind.{StepKind}
use Rattle.scheme.specs.Making.{Maker, declare, activate, put, take_registers, active_count}
use Rattle.scheme.specs.Lists.{adjust}
use Rattle.scheme.specs.Statements.{Loop, numeric_names, generic_names}
use Rattle.scheme.specs.Scheme.{all_coded, inner, statement_made}
use Rattle.scheme.specs.declared.making.Piece.{Piece}
use Rattle.scheme.specs.declared.making.Local.{Local}
use Rattle.scheme.specs.declared.making.Active.{Active}
use Rattle.same_flow.specs.Performed.{Performance, kind_at, part_at, part_made, counted_values, head_made, kind_made, still_active, ended_before, ends_of, behind_step}
use Rattle.same_flow.specs.Renaming.{IsOneStep}
use Rattle.same_flow.specs.SameFlow.{IsPlainPart, HasPlainParts}
use Rattle.same_flow.proofs.KeptActive.{active_kept, kept, all_kept, next_kept, adjust_kept, closure_kept, assignment_kept, function_statement_kept, return_kept}
use Rattle.same_flow.proofs.Endings.{take_less}
use Rattle.same_flow.proofs.Followed.{Run, at_step, at_most, LastTo, last_weaker, append_nothing, append_again, length_both}

-- the second has the active locals of the first, and others behind them
abbrev pub Extends : Maker → Maker → Type 0
Extends m n = (rest : List Active) × (n.active ≡ m.active ++ rest)

unchanged : {before after : List Active} → after ≡ before → (rest : List Active) × (after ≡ before ++ rest)
unchanged {before} e = ([], e ∙ sym (append_nothing before))

further : (m n k : Maker) → Extends m n → Extends n k → Extends m k
further m n k (r, e) (s, f) = (r ++ s, f ∙ ap (λ (l : List Active). l ++ s) e ∙ append_again m.active r s)

pub extends_count : (m n : Maker) (x : Extends m n) → active_count n ≡ active_count m + length x.0
extends_count m n x = ap (λ (l : List Active). length l) x.1 ∙ length_both m.active x.0

-- ---- declarations

pub declared_active : (texts : List Text) (m : Maker) → (declare texts m).after.active ≡ m.active
declared_active [] m = refl
declared_active (text ∷ texts) m = declared_active texts _

pub activated : (locals : List Local) (m : Maker) → Extends m (activate locals m)
activated [] m = unchanged refl
activated (local ∷ locals) m =
    let one : Active = record { local = local; listed = length m.locals } in
    let x = activated locals _ in
    (one ∷ x.0, x.1 ∙ append_again m.active (one ∷ []) x.0)

-- ---- a step

pub one_step_extends : (s : Statement) → IsOneStep s → (line : ℕ) (loop : Option Loop) (m : Maker) → Extends m (statement_made s line loop m)
one_step_extends (assignment targets es) o line loop m = unchanged (active_kept (assignment_kept line targets es) m)
one_step_extends (call_statement e) o line loop m = unchanged (active_kept ((kept e).multi Op.Call (Some 0)) m)
one_step_extends (function_statement path method body) o line loop m = unchanged (active_kept (function_statement_kept line path method body) m)
one_step_extends (local_function text body) o line loop m =
    let locals = (declare (text ∷ []) m).value in
    let taken = take_registers 1 (declare (text ∷ []) m).after in
    let x = activated locals taken in
    (x.0, active_kept (closure_kept line (inner body false) m.free) (activate locals taken) ∙ x.1)
one_step_extends (local_statement names es) o line loop m =
    let declared = (declare names m).after in
    let valued = adjust line (all_coded es) (length names) declared in
    let x = activated (declare names m).value valued in
    (x.0, x.1 ∙ ap (λ (l : List Active). l ++ x.0) (active_kept (adjust_kept line (all_coded es) (all_kept es) (length names)) declared ∙ declared_active names m))
one_step_extends (return_statement es) o line loop m = unchanged (active_kept (return_kept line (all_coded es) (all_kept es)) m)
one_step_extends s o line loop m = absurd o

part_extends : (part : Part) → IsPlainPart part → (m : Maker) → Extends m (part_made part m)
part_extends (statement_part s) is m = one_step_extends s is.0 1 None m
part_extends (values_part es) is m = one_step_extends (return_statement es) tt 1 None m
part_extends part is m = unchanged refl

pub counted_kept : (es : Expressions) (m : Maker) → (counted_values es m).active ≡ m.active
counted_kept (expression first (expression last no_expressions)) m = active_kept (next_kept (kept last)) _ ∙ active_kept (next_kept (kept first)) m
counted_kept (expression first (expression last (expression by rest))) m = active_kept (next_kept (kept by)) _ ∙ active_kept (next_kept (kept last)) _ ∙ active_kept (next_kept (kept first)) m
counted_kept no_expressions m = refl
counted_kept (expression first no_expressions) m = refl

-- hidden locals and variables become active
both_activated : (hidden variables : List Local) (m valued : Maker) (line : ℕ) (piece : Piece) → valued.active ≡ m.active → Extends m (activate variables (put line piece (activate hidden valued)))
both_activated hidden variables m valued line piece e =
    let x = activated hidden valued in
    let y = activated variables (put line piece (activate hidden valued)) in
    (x.0 ++ y.0, y.1 ∙ ap (λ (l : List Active). l ++ y.0) (x.1 ∙ ap (λ (l : List Active). l ++ x.0) e) ∙ append_again m.active x.0 y.0)

head_extends : (numeric : Bool) (foot : ℕ) (part : Part) (m : Maker) → Extends m (head_made numeric foot part m)
head_extends true foot (head_part values names) m =
    let declared = (declare names m).after in
    both_activated numeric_names (declare names m).value m (counted_values values declared) 1 (Piece.Jump Op.ForPrep declared.free foot) (counted_kept values declared ∙ declared_active names m)
head_extends false foot (head_part values names) m =
    let declared = (declare names m).after in
    let valued = adjust 1 (all_coded values) 3 declared in
    let same : valued.active ≡ m.active = active_kept (adjust_kept 1 (all_coded values) (all_kept values) 3) declared ∙ declared_active names m in
    let put_one = put 1 (Piece.Jump Op.Jmp 0 foot) (activate generic_names valued) in
    let x = activated generic_names valued in
    let y = activated (declare names m).value (record put_one { high = _ }) in
    (x.0 ++ y.0, y.1 ∙ ap (λ (l : List Active). l ++ y.0) (x.1 ∙ ap (λ (l : List Active). l ++ x.0) same) ∙ append_again m.active x.0 y.0)
head_extends true foot nothing_part m = unchanged refl
head_extends false foot nothing_part m = unchanged refl
head_extends true foot (statement_part s) m = unchanged refl
head_extends false foot (statement_part s) m = unchanged refl
head_extends true foot (values_part es) m = unchanged refl
head_extends false foot (values_part es) m = unchanged refl
head_extends true foot (condition_part e) m = unchanged refl
head_extends false foot (condition_part e) m = unchanged refl

module _ (run : Run) (plain : HasPlainParts run.code) where
  kind_extends : (kind : StepKind) (part : Part) → IsPlainPart part → (m : Maker) → Extends m (kind_made run.code kind part m)
  kind_extends StepKind.Act part is m = part_extends part is m
  kind_extends StepKind.Return part is m = part_extends part is m
  kind_extends (StepKind.Declaration end captured) part is m = part_extends part is m
  kind_extends (StepKind.Test when target levels) (condition_part e) is m = unchanged (active_kept ((kept e).jump_if when target) m)
  kind_extends (StepKind.Test when target levels) nothing_part is m = unchanged refl
  kind_extends (StepKind.Test when target levels) (statement_part s) is m = unchanged refl
  kind_extends (StepKind.Test when target levels) (values_part es) is m = unchanged refl
  kind_extends (StepKind.Test when target levels) (head_part values names) is m = unchanged refl
  kind_extends (StepKind.Jump target) part is m = unchanged refl
  kind_extends (StepKind.Close from declared) part is m = unchanged refl
  kind_extends (StepKind.Head numeric foot end variables_end captured) part is m = head_extends numeric foot part m
  kind_extends (StepKind.Foot true target) part is m = unchanged refl
  kind_extends (StepKind.Foot false target) part is m = unchanged refl

  -- these locals, which end there, are the first that are active before a step
  pub record Begins (active : List Active) (ends : List ℕ) (now : Performance) : Type 0 where
    pub behind : List ℕ
    pub all_ends : now.ends ≡ ends ++ behind
    pub same : take (length ends) now.maker.active ≡ active
    pub count : length active ≡ length ends

  -- more last than are asked of
  still_more : (p : ℕ) (ends behind : List ℕ) → LastTo (suc p) ends → length ends ≤ still_active p (ends ++ behind)
  still_more p [] behind l = omega arith
  still_more p (x ∷ xs) behind l = more (length xs) (still_active p (xs ++ behind)) (nat_lt p x) (let a = l.0 in grind (arith, nat_tests)) (still_more p xs behind l.1)
    where
      more : (n k : ℕ) (b : Bool) → b ≡ true → n ≤ k → suc n ≤ cond b (1 + k) 0
      more n k true h e = omega arith
      more n k false h e = cc

  taken_front : (n : ℕ) (xs ys : List ℕ) → length xs ≤ n → (rest : List ℕ) × (take n (xs ++ ys) ≡ xs ++ rest)
  taken_front n [] ys h = (take n ys, refl)
  taken_front zero (x ∷ xs) ys h = absurd (omega arith)
  taken_front (suc n) (x ∷ xs) ys h = let t = taken_front n xs ys (omega arith) in (t.0, ap (λ l. x ∷ l) t.1)

  pub begins_before : (active : List Active) (ends : List ℕ) (p : ℕ) (now : Performance) → LastTo (suc p) ends → Begins active ends now → Begins active ends (ended_before p now)
  begins_before active ends p now l B =
      let s = still_active p now.ends in
      let enough : length ends ≤ s = subst (λ (es : List ℕ). length ends ≤ still_active p es) (sym B.all_ends) (still_more p ends B.behind l) in
      let t = taken_front s ends B.behind enough in
      record { behind = t.0; all_ends = ap (take s) B.all_ends ∙ t.1; same = take_less (length ends) s now.maker.active enough ∙ B.same; count = B.count }

  begins_behind : (active : List Active) (ends : List ℕ) (kind : Option StepKind) (part : Option Part) (now : Performance) → ((it : Part) → part ≡ Some it → IsPlainPart it) → Begins active ends now →
      Begins active ends (behind_step run.code kind part now)
  begins_behind active ends (Some kind) (Some part) now is B =
      let after = kind_made run.code kind part now.maker in
      let new = ends_of kind (active_count after - active_count now.maker) in
      let x = kind_extends kind part (is part refl) now.maker in
      let n = length ends in
      let enough : n ≤ length now.maker.active = at_most n now.maker.active (sym B.count ∙ ap (λ (l : List Active). length l) (sym B.same)) in
      record {
        behind = B.behind ++ new;
        all_ends = ap (λ (es : List ℕ). es ++ new) B.all_ends ∙ append_again ends B.behind new;
        same = ap (take n) x.1 ∙ take-append-le n now.maker.active x.0 enough ∙ B.same;
        count = B.count;
      }
  begins_behind active ends None part now is B = B
  begins_behind active ends (Some kind) None now is B = B

  -- the first locals stay where all of them last
  keeps_for : (active : List Active) (ends : List ℕ) (p d q : ℕ) → q ≡ d + p → LastTo q ends → Begins active ends (at_step run p) → Begins active ends (at_step run q)
  keeps_for active ends p zero q e l B = subst (λ n. Begins active ends (at_step run n)) (omega arith) B
  keeps_for active ends p (suc d) zero e l B = absurd (omega arith)
  keeps_for active ends p (suc d) (suc q) e l B =
      begins_behind active ends (kind_at run.code.steps q) (part_at run.code q) (ended_before q (at_step run q)) (plain q)
      (begins_before active ends q (at_step run q) l (keeps_for active ends p d q (omega arith) (last_weaker q (suc q) ends (omega arith) l) B))

  pub keeps : (active : List Active) (ends : List ℕ) (p q : ℕ) → p ≤ q → LastTo q ends → Begins active ends (at_step run p) → Begins active ends (at_step run q)
  keeps active ends p q h = keeps_for active ends p (q - p) q (omega arith)
