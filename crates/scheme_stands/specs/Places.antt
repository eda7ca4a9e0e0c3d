-- Serves the laws. What is known of the source ahead, by the place in it (lua_tree's outline): what the names mean that are still to come, which
-- declarations are captured, and where the upvalues of functions come from. A part of the relation moves from the place before it in
-- the source to that behind it.
use Rattle.std.specs.Prelude.{◌≡◌, ◌≤◌, ◌<◌, ◌⊎◌, ℕ, suc, ◌+◌, Bool, true, false, List, [], ◌∷◌, ◌++◌, length, drop, slice_get, Option, Some, None, ◌==◌}
use Rattle.lua_num.specs.Bytes.{Text}
use Rattle.lua_tree.specs.Outline as outline
use Rattle.lua_tree.specs.Outline.{Binding, Scope, Mark, mention, local_name, hidden_local, dots, leave, opened, Place, innermost, both, declares, come, all_params, statements_part}
use Rattle.lua_tree.specs.Syntax.{FunctionBody, function_body}
use Rattle.lua_tree.specs.Resolved.{declarations_in, functions_in, captured_below, upvalues_below}
use Rattle.lua_tree.specs.Scoping.{Use, uses_among, is_captured, is_one_of, upvalues_of, slot_of, uses_by}
use Rattle.proto.specs.Chunk.{Chunk}
use Rattle.proto.specs.declared.parts.Constant.{Constant}
use Rattle.scheme.specs.Making.{Ahead, Where, where_is, in_register, in_upvalue, in_globals}
use Rattle.scheme.specs.Expressions.{Want, Target}
use Rattle.scheme.specs.Functions.{without_sources}
use Rattle.opcode.specs.declared.op.Op.{Op}
use Rattle.scheme.specs.declared.making.Active.{Active}
use Rattle.scheme.specs.declared.making.Local.{Local}
use Rattle.scheme_stands.specs.Words.{Spot, Stretch, Passed}
use Rattle.scheme_stands.specs.Expressions.{Rel, several}
use Rattle.scheme_stands.specs.Functions.{Step, FunctionRel}

-- with so many declarations and functions before, and these of all marks of the source still to come
abbrev pub ahead_by : (all : List Mark) → (declarations functions : ℕ) → (rest : List Mark) → Ahead
ahead_by all d n rest = record {
  names = uses_among all rest;
  captures = drop d (captured_below (declarations_in all) all);
  sources = drop n (upvalues_below (functions_in all) all);
  declarations = d;
}

abbrev pub ahead_at : (all : List Mark) → Place → (rest : List Mark) → Ahead
ahead_at all place rest = ahead_by all place.declarations place.functions rest

-- where the marks of a part come next, its words pass them
abbrev pub Moves : (all : List Mark) → (part : outline.Part) → Stretch
Moves all part p q = (place : Place) (rest : List Mark) → p.ahead ≡ ahead_at all place ((part place).marks ++ rest) → q.ahead ≡ ahead_at all (part place).next rest

-- the words of a value
pub record ValueMoves (all : List Mark) (part : outline.Part) (c : Rel) : Type 0 where
  pub named : c.form.name ≡ true → (p q : Spot) → Passed p q → Moves all part p q
  pub bare : (active : List Active) (p q : Spot) → c.bare active p q → Passed p q
  pub quiet : (k : Constant) → c.form.literal ≡ Some k → (p q : Spot) → q.ahead ≡ p.ahead → Moves all part p q
  pub to_reg : (active : List Active) (free r : ℕ) (p q : Spot) → c.to_reg active free r p q → Moves all part p q

-- all words of an expression
pub record RelMoves (all : List Mark) (part : outline.Part) (is_target : Bool) (c : Rel) : Type 0 where
  pub value : ValueMoves all part c
  pub jump_if : (active : List Active) (free : ℕ) (truth : Bool) (label : ℕ) (p q : Spot) → c.jump_if active free truth label p q → Moves all part p q
  pub spine : (active : List Active) (free free1 : ℕ) (p q : Spot) → c.spine active free free1 p q → Moves all part p q
  pub multi : several c.form ≡ true → (active : List Active) (free : ℕ) (op : Op) (want : Want) (p q : Spot) → c.multi active free op want p q → Moves all part p q
  pub target : is_target ≡ true → (active : List Active) (free : ℕ) (target : Target) (free1 : ℕ) (p q : Spot) → c.target active free target free1 p q → Moves all part p q

abbrev pub StepMoves : (all : List Mark) → (part : outline.Part) → Step → Type 0
StepMoves all part step = (active after : List Active) (p q : Spot) → step active after p q → Moves all part p q

abbrev pub FunctionMoves : (all : List Mark) → (part : outline.Part) → FunctionRel → Type 0
FunctionMoves all part made =
    (before behind : Ahead) (chunk : Chunk) → made before behind chunk → (place : Place) (rest : List Mark)
    → before ≡ without_sources (ahead_at all place ((part place).marks ++ rest)) → behind ≡ ahead_at all (part place).next rest

-- ---- where a walk through the source stands

-- these marks of the source are still to come, and so many declarations and functions stand before
pub record Reached (all : List Mark) (place : Place) (rest : List Mark) : Type 0 where
  pub before : List Mark
  pub is : all ≡ before ++ rest
  pub declarations : declarations_in before ≡ place.declarations
  pub functions : functions_in before ≡ place.functions

-- a part counts the declarations and functions in it, and stays in its function and loop
pub record Counted (part : outline.Part) (place : Place) : Type 0 where
  pub declarations : declarations_in (part place).marks + place.declarations ≡ (part place).next.declarations
  pub functions : functions_in (part place).marks + place.functions ≡ suc (part place).next.functions
  pub around : (part place).next.around ≡ place.around
  pub vararg : (part place).next.vararg ≡ place.vararg
  pub looped : (part place).next.looped ≡ place.looped

-- and brings nothing into scope
pub record Closed (part : outline.Part) (place : Place) : Type 0 where
  pub counted : Counted part place
  pub scope : (part place).next.scope ≡ place.scope
  pub active : (part place).next.active ≡ place.active

-- ---- what is ahead, by the marks of the whole source

-- locals that are declared at a place take the next numbers
abbrev pub locals_from : (all : List Mark) → (declaration : ℕ) → List Text → List Local
locals_from all d [] = []
locals_from all d (text ∷ texts) = record { name = text; declaration = Some d; captured = is_captured d all } ∷ locals_from all (suc d) texts

-- the function that is opened next, and the functions around
abbrev pub sources_at : (all : List Mark) → Place → List Use
sources_at all place = uses_by (innermost place.around) all (upvalues_of place.functions all)

-- a binding that is an upvalue of a function, and its slot
pub record UpvalueAt (function : ℕ) (all : List Mark) (binding : Binding) : Type 0 where
  pub known : Binding
  pub is : slice_get (upvalues_of function all) (slot_of binding.declaration (upvalues_of function all)) ≡ Some known
  pub same : known.declaration ≡ binding.declaration

-- ---- where the bindings come from that are mentioned

-- each mention among marks, by what its name means and the functions around it
abbrev pub Mentions : (Option Binding → List ℕ → Type 0) → List Mark → Type 0
Mentions P [] = Unit {0}
Mentions P (mention line name means around ∷ marks) = P means around × Mentions P marks
Mentions P (local_name line reached ∷ marks) = Mentions P marks
Mentions P (hidden_local line reached ∷ marks) = Mentions P marks
Mentions P (dots line vararg ∷ marks) = Mentions P marks
Mentions P (leave line looped ∷ marks) = Mentions P marks
Mentions P (opened outer ∷ marks) = Mentions P marks

abbrev pub AllOf : (ℕ → Type 0) → List ℕ → Type 0
AllOf P [] = Unit {0}
AllOf P (x ∷ xs) = P x × AllOf P xs

-- a binding that is in scope at a place, is one of a function inside, or is declared behind the place in the same function
pub data Origin (base : Place) (inside : List ℕ) (binding : Binding) : Type 0 where
  seen : (name : Text) → base.scope name ≡ Some binding → Origin base inside binding
  of_inside : is_one_of binding.home inside ≡ true → Origin base inside binding
  declared_behind : binding.home ≡ innermost base.around → base.declarations ≤ binding.declaration → Origin base inside binding

abbrev pub OriginOf : Place → (inside : List ℕ) → Option Binding → Type 0
OriginOf base inside None = Unit {0}
OriginOf base inside (Some binding) = Origin base inside binding

-- a mention behind a place, in the same function or in functions inside, which are later ones
pub record From (base : Place) (means : Option Binding) (around : List ℕ) : Type 0 where
  pub inside : List ℕ
  pub later : AllOf (λ g. base.functions ≤ g) inside
  pub is : around ≡ inside ++ base.around
  pub origin : OriginOf base inside means

-- a mention in functions below a number; one in functions of a place, or in later ones
abbrev pub Below : (functions : ℕ) → Option Binding → List ℕ → Type 0
Below n means around = AllOf (λ g. g < n) around

abbrev pub Behind : Place → Option Binding → List ℕ → Type 0
Behind place means around = AllOf (λ g. (is_one_of g place.around ≡ true) ⊎ (place.functions ≤ g)) around

-- a part between what is before it in the source and what is behind it
pub record Between (all : List Mark) (part : outline.Part) (place : Place) (rest : List Mark) : Type 0 where
  pub reached : Reached all place ((part place).marks ++ rest)
  pub before_it : Mentions (Below place.functions) reached.before
  pub around_it : AllOf (λ g. g < place.functions) place.around
  pub behind_it : Mentions (Behind (part place).next) rest

-- what stands inside a function's body: its parameters and its statements
abbrev pub inside_part : (method : Bool) → FunctionBody → outline.Part
inside_part method (function_body params vararg block first last) place =
    both (declares first 0 (all_params method params)) (both (come 0 (all_params method params) place.declarations) (statements_part block)) place

abbrev pub is_vararg_body : FunctionBody → Bool
is_vararg_body (function_body params vararg block first last) = vararg

-- ---- the active locals and what is in scope

-- with these names in scope of a function, and so many active locals and declarations before: the declared ones among the active
-- locals have increasing numbers, and each binding of the function that is in scope is one of them
pub record ActiveBy (scope : Scope) (home count declarations : ℕ) (active : List Active) : Type 0 where
  pub counted : length active ≡ count
  pub low : (r : ℕ) (x : Active) (d : ℕ) → slice_get active r ≡ Some x → x.local.declaration ≡ Some d → d < declarations
  pub order : (i j : ℕ) (x y : Active) (d e : ℕ) → i < j → slice_get active i ≡ Some x → slice_get active j ≡ Some y → x.local.declaration ≡ Some d → y.local.declaration ≡ Some e → d < e
  pub stands : (name : Text) (binding : Binding) → scope name ≡ Some binding → binding.home ≡ home → (r : ℕ) × (x : Active) × (slice_get active r ≡ Some x) × (x.local.declaration ≡ Some binding.declaration)

abbrev pub ActiveAt : Place → List Active → Type 0
ActiveAt place active = ActiveBy place.scope (innermost place.around) place.active place.declarations active

-- what is in scope was declared before, in the functions around
pub record ScopeAt (place : Place) : Type 0 where
  pub function : ℕ
  pub others : List ℕ
  pub is : place.around ≡ function ∷ others
  pub homes : (name : Text) (binding : Binding) → place.scope name ≡ Some binding → is_one_of binding.home place.around ≡ true
  pub declared : (name : Text) (binding : Binding) → place.scope name ≡ Some binding → binding.declaration < place.declarations

-- ---- what is mentioned before a part and behind it

-- a binding that is in scope at a place
abbrev pub Seen : Place → Binding → Type 0
Seen place b = (name : Text) × (place.scope name ≡ Some b)

-- it is in scope at a place, or is declared behind it
abbrev pub KnownFrom : Place → Binding → Type 0
KnownFrom base b = Seen base b ⊎ (base.declarations ≤ b.declaration)

-- a mention of what is declared before a number
abbrev pub Under : ℕ → Option Binding → List ℕ → Type 0
Under n None around = Unit {0}
Under n (Some binding) around = binding.declaration < n

-- what is in scope at a place is declared before it
abbrev pub LowAt : Place → Type 0
LowAt place = (name : Text) (binding : Binding) → place.scope name ≡ Some binding → binding.declaration < place.declarations

-- a mention of what is declared before a number, or behind a place, or is in scope there
abbrev pub IsApart : (from : ℕ) → Place → Option Binding → List ℕ → Type 0
IsApart from next means around = (b : Binding) → means ≡ Some b → (b.declaration < from) ⊎ KnownFrom next b

-- before a part only what is declared before it is mentioned, and behind it nothing that is declared in it, but what is in scope at its end
pub record StandsApart (all : List Mark) (part : outline.Part) (place : Place) (rest : List Mark) : Type 0 where
  pub before : List Mark
  pub is : all ≡ before ++ ((part place).marks ++ rest)
  pub low : Mentions (Under place.declarations) before
  pub scope : LowAt place
  pub apart : Mentions (IsApart place.declarations (part place).next) rest

-- ---- all of it: the words from p on are those of a part at its place in the source

pub record Here (all : List Mark) (part : outline.Part) (place : Place) (rest : List Mark) (p : Spot) : Type 0 where
  pub between : Between all part place rest
  pub scope : ScopeAt place
  pub ahead : p.ahead ≡ ahead_at all place ((part place).marks ++ rest)
  pub apart : StandsApart all part place rest

-- ---- what names and the further words of closures mean

-- what a name means where it is mentioned
pub data NameIs (all : List Mark) (place : Place) (name : Text) (active : List Active) (w : Where) : Type 0 where
  -- a local of the running function, by its place among the active ones
  own : (b : Binding) (r : ℕ) (x : Active) → place.scope name ≡ Some b → b.home ≡ innermost place.around → slice_get active r ≡ Some x → x.local.declaration ≡ Some b.declaration → w ≡ in_register r → NameIs all place name active w
  -- one of a function around, which is an upvalue
  upvalue : (b : Binding) → place.scope name ≡ Some b → (b.home == innermost place.around) ≡ false → UpvalueAt (innermost place.around) all b → w ≡ in_upvalue (slot_of b.declaration (upvalues_of (innermost place.around) all)) → NameIs all place name active w
  -- a global
  nothing_is : place.scope name ≡ None → w ≡ in_globals → NameIs all place name active w

-- the word for an upvalue of a function that is opened: of a local of the running function it is its register, and of one around that
-- it is its upvalue
pub data CaptureIs (all : List Mark) (place : Place) (active : List Active) (b : Binding) (w : Where) : Type 0 where
  own_local : (r : ℕ) (x : Active) → b.home ≡ innermost place.around → slice_get active r ≡ Some x → x.local.declaration ≡ Some b.declaration → w ≡ in_register r → CaptureIs all place active b w
  own_upvalue : (b.home == innermost place.around) ≡ false → UpvalueAt (innermost place.around) all b → w ≡ in_upvalue (slot_of b.declaration (upvalues_of (innermost place.around) all)) → CaptureIs all place active b w

-- each further word of a CLOSURE, with the upvalue that it is for
abbrev pub CapturesAre : (all : List Mark) → Place → List Active → List Binding → List Use → Type 0
CapturesAre all place active [] uses = uses ≡ []
CapturesAre all place active (b ∷ bs) uses =
    (use_of : Use) × (others : List Use) × (uses ≡ use_of ∷ others) × (Seen place b) × CaptureIs all place active b (where_is use_of active) × CapturesAre all place active bs others
