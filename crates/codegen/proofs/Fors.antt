-- Loops and function statements, by the statement.
use Rattle.std.proofs.Common.{◌≡◌, ℕ, List, [], ◌∷◌, length, refl, ap, ◌∙◌, Option, Some, None}
use Rattle.std.specs.Prelude.{is_some}
use Rattle.lua_num.specs.Bytes.{Text}
use Rattle.lua_tree.specs.View.{view_block, view_statement, view_body, view_exp, view_exps}
use Rattle.lua_tree.specs.declared.tree.Exp.{Exp}
use Rattle.lua_tree.specs.declared.tree.Exps.{Exps}
use Rattle.lua_tree.specs.declared.tree.Block.{Block}
use Rattle.lua_tree.specs.declared.tree.Body.{Body}
use Rattle.lua_tree.specs.declared.tree.StatKind.{StatKind, NumFor, GenFor, Function}
use Rattle.scheme.specs.Making.{Maker, active_count, declare}
use Rattle.scheme.specs.declared.making.Local.{Local}
use Rattle.scheme.specs.Expressions.{next_reg}
use Rattle.scheme.specs.Lists.{adjust}
use Rattle.scheme.specs.Functions.{coded_function}
use Rattle.scheme.specs.Statements.{Loop, step_part, numeric_part, generic_part, assign_part, path_from, with_method}
use Rattle.scheme.specs.Scheme.{coded, all_coded, statements_made, statement_made, inner}
use Rattle.codegen.specs.Loops.{step_of, numeric_made, generic_made, generic_counted}
use Rattle.codegen.proofs.Steps.{declare-length}

numeric_statement : (kind : StatKind) (line : ℕ) (loop : Option Loop) (name : Text) (from to : Exp) (step : Option Exp) (body : Block) → kind ≡ NumFor name from to step body → (m : Maker) →
    numeric_part line name (coded (view_exp from)) (coded (view_exp to)) (step_of step) (statements_made (view_block body)) m ≡ statement_made (view_statement kind) line loop m
numeric_statement kind line loop name from to None body e m = rw e refl
numeric_statement kind line loop name from to (Some step) body e m = rw e refl

pub numeric_for : (kind : StatKind) (line : ℕ) (loop : Option Loop) (name : Text) (from to : Exp) (step : Option Exp) (body : Block) → kind ≡ NumFor name from to step body →
    (m m1 m2 m3 m4 n : Maker) (variables : List Local) (before base : ℕ) →
    variables ≡ (declare (name ∷ []) m).value → m1 ≡ (declare (name ∷ []) m).after → before ≡ active_count m1 → base ≡ m1.free →
    m2 ≡ next_reg (coded (view_exp from)) m1 → m3 ≡ next_reg (coded (view_exp to)) m2 → m4 ≡ step_part line (step_of step) m3 →
    n ≡ numeric_made line base before variables (statements_made (view_block body)) m4 → n ≡ statement_made (view_statement kind) line loop m
numeric_for kind line loop name from to step body e m m1 m2 m3 m4 n variables before base vE m1E kE bE m2E m3E m4E nE =
    let made : Maker → ℕ → ℕ → List Local → Maker = λ x k b vs. numeric_made line b k vs (statements_made (view_block body)) x in
    let behind : Maker → Maker = λ x. step_part line (step_of step) (next_reg (coded (view_exp to)) (next_reg (coded (view_exp from)) x)) in
    let values = m4E ∙ ap (step_part line (step_of step)) (m3E ∙ ap (next_reg (coded (view_exp to))) m2E) in
    nE ∙ ap (λ x. made x before base variables) values
    ∙ ap (λ k. made (behind m1) k base variables) kE
    ∙ ap (λ b. made (behind m1) (active_count m1) b variables) bE
    ∙ ap (λ vs. made (behind m1) (active_count m1) m1.free vs) vE
    ∙ ap (λ x. made (behind x) (active_count x) x.free (declare (name ∷ []) m).value) m1E
    ∙ numeric_statement kind line loop name from to step body e m

generic_statement : (kind : StatKind) (line : ℕ) (loop : Option Loop) (names : _) (exps : Exps) (body : Block) → kind ≡ GenFor names exps body → (m : Maker) →
    generic_part line names (all_coded (view_exps exps)) (statements_made (view_block body)) m ≡ statement_made (view_statement kind) line loop m
generic_statement kind line loop names exps body e m = rw e refl

pub generic_for : (kind : StatKind) (line : ℕ) (loop : Option Loop) (names : List Text) (exps : Exps) (body : Block) → kind ≡ GenFor names exps body →
    (m m1 m2 n : Maker) (variables : List Local) (before base : ℕ) →
    variables ≡ (declare names m).value → m1 ≡ (declare names m).after → before ≡ active_count m1 → base ≡ m1.free →
    m2 ≡ adjust line (all_coded (view_exps exps)) 3 m1 →
    n ≡ generic_made line base before variables (statements_made (view_block body)) m2 → n ≡ statement_made (view_statement kind) line loop m
generic_for kind line loop names exps body e m m1 m2 n variables before base vE m1E kE bE m2E nE =
    let made : Maker → ℕ → ℕ → List Local → ℕ → Maker = λ x k b vs count. generic_counted line b k vs count (statements_made (view_block body)) x in
    let values = adjust line (all_coded (view_exps exps)) 3 in
    nE ∙ ap (λ x. made x before base variables (length variables)) m2E
    ∙ ap (λ k. made (values m1) k base variables (length variables)) kE
    ∙ ap (λ b. made (values m1) (active_count m1) b variables (length variables)) bE
    ∙ ap (λ vs. made (values m1) (active_count m1) m1.free vs (length vs)) vE
    ∙ ap (λ x. made (values x) (active_count x) x.free (declare names m).value (length (declare names m).value)) m1E
    ∙ ap (λ count. made (values (declare names m).after) (active_count (declare names m).after) (declare names m).after.free (declare names m).value count) (declare-length names m)
    ∙ generic_statement kind line loop names exps body e m

pub function_for : (kind : StatKind) (line : ℕ) (loop : Option Loop) (path : List Text) (method : Option Text) (body : Body) → kind ≡ Function path method body → (m : Maker) →
    assign_part line (with_method line (path_from line path) method ∷ []) (coded_function line (view_body body) (inner (view_body body) (is_some method)) ∷ []) m
    ≡ statement_made (view_statement kind) line loop m
function_for kind line loop path method body e m = rw e refl
