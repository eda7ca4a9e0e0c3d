-- A fault that a call hands on.
use Rattle.std.proofs.Common.{◌≡◌, refl, ℕ, Bool, Option, Some, None, is_some, Bor, Result, Ok, Err, sym, subst, ap, ◌∙◌, IfOk, IfErr}
use Rattle.std.specs.Option.{option_copied}
use Rattle.std.specs.Result.{IsErrAnd}
use Rattle.lua_num.specs.declared.names.Names.{Names}
use Rattle.lua_tree.specs.Syntax.{function_body}
use Rattle.lua_tree.specs.View.{view_body, view_block, view_exp}
use Rattle.lua_tree.specs.declared.tree.Block.{Block}
use Rattle.lua_tree.specs.declared.tree.Exp.{Exp}
use Rattle.lua_tree.specs.declared.tree.Body.{roll-Body}
use Rattle.lua_tree.specs.declared.tree.Arm.{roll-Arm}
use Rattle.parser.specs.Fields.{cond_of, inside_of}
use Rattle.parser.specs.declared.cursor.Halt.{Halt}

pub handed_on : {A : Type 0} (Q : Halt → Type 0) (result : Result A Halt) (halt : Halt) → IsErrAnd result (λ other. other ≡ halt) → Q halt → IfErr result Q
handed_on Q (Ok a) halt e q = tt
handed_on Q (Err other) halt e q = subst Q (sym e) q

pub if_ok : {A : Type 0} (P Q : A → Type 0) (result : Result A Halt) → IfOk result P → ((a : A) → P a → Q a) → IfOk result Q
if_ok P Q (Ok a) p go = go a p
if_ok P Q (Err halt) p go = tt

pub if_err : {A : Type 0} (P Q : Halt → Type 0) (result : Result A Halt) → IfErr result P → ((halt : Halt) → P halt → Q halt) → IfErr result Q
if_err P Q (Ok a) p go = tt
if_err P Q (Err halt) p go = go halt p

-- parts that the program makes, as the definitions see them
pub body_made : (params : Names) (vararg : Bool) (block : Block) (first last : ℕ) →
    view_body (roll-Body (record { params = params; vararg = vararg; block = block; first_line = first; last_line = last })) ≡ function_body params vararg (view_block block) first last
unfolding roll-Body denote.Hole.Carrier.roll
body_made params vararg block first last = refl

pub cond_made : (cond : Exp) (body : Block) → cond_of (roll-Arm (record { cond = cond; body = body })) ≡ view_exp cond
unfolding roll-Arm denote.Hole.Carrier.roll
cond_made cond body = refl

pub inside_made : (cond : Exp) (body : Block) → inside_of (roll-Arm (record { cond = cond; body = body })) ≡ view_block body
unfolding roll-Arm denote.Hole.Carrier.roll
inside_made cond body = refl

-- what a test says of the value that a box holds
pub tested : {A : Type 0} (test : A → Bool) {held shown : A} {answer truth : Bool} → shown ≡ held → answer ≡ test shown → answer ≡ truth → test held ≡ truth
tested test s a t = ap test (sym s) ∙ sym a ∙ t

-- whether there is a value behind a reference
pub copied_some : {A : Type 0} (o : Option (Bor A)) → is_some (option_copied o) ≡ is_some o
copied_some None = refl
copied_some (Some a) = refl
