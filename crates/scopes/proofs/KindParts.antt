-- The parts of statements and functions of the program's trees, and what is safe where they begin.
use Rattle.std.proofs.Common.{◌≡◌, refl, sym, ℕ, ◌+◌, ◌<◌, Bool, true, false, not, List, [], ◌∷◌, ◌++◌, length, Option, Some, None, arith}
use Rattle.std.specs.Int.{from_bool}
use Rattle.std.proofs.lemmas.List.{length-append}
use Rattle.std.proofs.lemmas.List.Elements.{All-take, All-push}
use Rattle.lua_tree.specs.Syntax.{function_body}
use Rattle.lua_num.specs.Bytes.{Text}
use Rattle.lua_tree.specs.Outline.{Place, both, within, in_loop, with_locals, declares, all_params, statements_part, statement_part, branches_part, expression_part}
use Rattle.lua_tree.specs.View.{view_block, view_statement, view_arms, view_exp, view_body}
use Rattle.lua_tree.specs.declared.tree.Exp.{Exp}
use Rattle.lua_tree.specs.declared.tree.Block.{Block}
use Rattle.lua_tree.specs.declared.tree.Arms.{Arms}
use Rattle.lua_tree.specs.declared.tree.Body.{Body, Body', out-Body}
use Rattle.lua_tree.specs.declared.tree.StatKind.{StatKind, If, NumFor}
use Rattle.scopes.specs.declared.resolver.Around.{Around}
use Rattle.scopes.specs.declared.resolver.Local.{Local}
use Rattle.scopes.specs.declared.resolver.Resolver.{Resolver}
use Rattle.scopes.specs.declared.uses.Captures.{Captures}
use Rattle.scopes.specs.Standing.{Sound, Keeps, Left, Opened, last_part, step_part_of}
use Rattle.scopes.proofs.Entrances.{in_loop_of}

-- an `if`, and a numeric `for`
pub if_part : (kind : StatKind) (line : ℕ) (arms : Arms) (last : Option Block) → kind ≡ If arms last → statement_part line (view_statement kind) ≡ both (branches_part (view_arms arms)) (last_part last)
if_part kind line arms None e = rw e refl
if_part kind line arms (Some block) e = rw e refl

pub numeric_part : (kind : StatKind) (line : ℕ) (name : Text) (from to : Exp) (step : Option Exp) (body : Block) → kind ≡ NumFor name from to step body →
    statement_part line (view_statement kind) ≡ (λ (place : Place).
    both (declares line 3 (name ∷ []))
    (both (both (expression_part (view_exp from)) (both (expression_part (view_exp to)) (step_part_of step)))
    (within (λ inside. in_loop (with_locals 3 (name ∷ []) place.declarations inside)) (statements_part (view_block body)))) place)
numeric_part kind line name from to None body e = rw e refl
numeric_part kind line name from to (Some step) body e = rw e refl

-- a function's parts
pub view_body_parts : (body : Body) → view_body body ≡ function_body (out-Body body).params (out-Body body).vararg (view_block (out-Body body).block) (out-Body body).first_line (out-Body body).last_line
unfolding out-Body denote.Hole.Carrier.out
view_body_parts (Body' params vararg block first last) = refl

pub counted_params : (method : Bool) (params : List Text) (count one : ℕ) → count ≡ length params → one ≡ from_bool method → count + one ≡ length (all_params method params)
counted_params true params count one e f = omega (arith, e, f)
counted_params false params count one e f = omega (arith, e, f)

-- a loop's beginning is as safe as what is around it
pub sound_loop : {r : Resolver} → Sound r → Sound (in_loop_of r)
sound_loop s = record { inside = s.inside; opened = s.opened; declared = s.declared; paired = s.paired; few = s.few }

-- what is safe in a function, and behind a block
pub sound_opened : {a b : Resolver} {extra : Bool} → Sound a → Opened a b extra → Sound b
sound_opened {a} {b} s o =
    let more : length (a.functions.items ++ o.empty ∷ []) ≡ length a.functions.items + 1 = length-append a.functions.items (o.empty ∷ []) in
    record {
      inside = rw (o.stack, length-append) (omega arith);
      opened = rw (o.functions, o.stack) (All-push (λ (f : ℕ). f < length (a.functions.items ++ o.empty ∷ [])) a.stack.items (length a.functions.items) (λ k d below. omega (arith, s.opened k d below)) (omega arith));
      declared = rw (o.captured, o.locals) s.declared;
      paired = rw o.functions (All-push (λ (c : Captures). length c.declarations.items ≡ length c.sources.items) a.functions.items o.empty s.paired (rw (o.no_declarations, o.no_sources) refl));
      few = rw o.active (omega arith);
    }

pub sound_left : {a c d : Resolver} {around : Around} → Sound a → Sound c → Left c around d → Keeps a d → Sound d
sound_left {a} {c} {d} {around} s t left keeps = record {
  inside = rw keeps.stack s.inside;
  opened = rw (left.functions, left.stack) (All-take (λ (f : ℕ). f < length c.functions.items) around.stack c.stack.items t.opened);
  declared = rw (left.captured, left.locals) (All-take (λ (l : Local). l.binding.declaration < length c.captured.items) around.locals c.locals.items t.declared);
  paired = rw left.functions t.paired;
  few = rw keeps.here s.few;
}

-- a test whose negation is false
pub true_if_not_false : (b : Bool) → not b ≡ false → b ≡ true
true_if_not_false true e = refl
true_if_not_false false e = sym e
