-- Serves the bodies. What a walk over a tree knows, by what stands in the part behind it.
use Rattle.std.specs.Prelude.{◌≡◌, ℕ, suc, ◌+◌, ◌<◌, ◌≤◌, Bool, true, false, List, [], ◌∷◌, ◌++◌, length, take, replicate, reverse, Option, Some, None, Result, Ok, Err, if◌then◌else◌}
use Rattle.std.specs.Str.{bytes_eq}
use Rattle.std.specs.List.{All}
use Rattle.lua_num.specs.Bytes.{Text}
use Rattle.lua_tree.specs.Outline.{Binding, Place, Mark, mention, Walk, Part, nothing, both, within, stay, innermost, statements_part, expression_part}
use Rattle.lua_tree.specs.Scoping.{is_one_of, upvalues_of, uses_of, outer_of, first_breach}
use Rattle.lua_tree.specs.View.{view_block, view_exp, view_kind}
use Rattle.lua_tree.specs.declared.tree.Block.{Block}
use Rattle.lua_tree.specs.declared.tree.Exp.{Exp}
use Rattle.lua_tree.specs.declared.tree.ItemKind.{ItemKind, Positional', Named', Keyed'}
use Rattle.scopes.specs.declared.fault.ScopeFault.{ScopeFault}
use Rattle.scopes.specs.declared.resolver.Around.{Around}
use Rattle.scopes.specs.declared.resolver.Local.{Local}
use Rattle.scopes.specs.declared.resolver.Resolver.{Resolver}
use Rattle.scopes.specs.declared.uses.Binding.{Binding as Bound}
use Rattle.scopes.specs.declared.uses.Captures.{Captures}
use Rattle.scopes.specs.Faults.{IsBreach}
use Rattle.lua_tree.specs.Resolved.{declarations_in, functions_in, captured_below, upvalues_below}
use Rattle.scopes.specs.Uses.{uses_of_names, uses_of_functions}

-- a declaration of the program as one of the definitions
abbrev pub binding_of : Bound → Binding
binding_of bound = record { declaration = bound.declaration; home = bound.home }

abbrev pub binding_of_option : Option Bound → Option Binding
binding_of_option None = None
binding_of_option (Some bound) = Some (binding_of bound)

abbrev pub later : Option Binding → Option Binding → Option Binding
later (Some binding) other = Some binding
later None other = other

-- what a name means by the names in scope: the latest of its text
abbrev pub lookup : List Local → Text → Option Binding
lookup [] name = None
lookup (one ∷ others) name = later (lookup others name) (if bytes_eq one.name.now name then Some (binding_of one.binding) else None)

-- the numbers of declarations
abbrev pub numbers_of : List Binding → List ℕ
numbers_of [] = []
numbers_of (binding ∷ bindings) = binding.declaration ∷ numbers_of bindings

-- each function of the program, from a number on, has the upvalues that the definitions give it
abbrev pub HaveUpvalues : ℕ → List Captures → List Mark → Type 0
HaveUpvalues f [] marks = Unit {0}
HaveUpvalues f (captures ∷ functions) marks = (captures.declarations.items ≡ numbers_of (upvalues_of f marks)) × (length captures.declarations.items ≤ 60) × HaveUpvalues (suc f) functions marks

-- each function around a place is opened in the next one, the last is the main chunk
abbrev pub AreNested : List ℕ → List Mark → Type 0
AreNested [] marks = ⊥
AreNested (f ∷ []) marks = f ≡ 0
AreNested (f ∷ g ∷ around) marks = (g < f) × (f < functions_in marks) × (outer_of f marks ≡ g) × AreNested (g ∷ around) marks

-- what marks mention was declared before, and stands in nested functions
abbrev pub AreWellMade : List Mark → List Mark → Type 0
AreWellMade all [] = Unit {0}
AreWellMade all (mention line name (Some binding) around ∷ marks) = (binding.declaration < declarations_in all) × AreNested around all × AreWellMade all marks
AreWellMade all (mark ∷ marks) = AreWellMade all marks

-- what can be indexed, and room for locals
pub record Sound (r : Resolver) : Type 0 where
  pub inside : 0 < length r.stack.items
  pub opened : All (λ (f : ℕ). f < length r.functions.items) r.stack.items
  pub declared : All (λ (l : Local). l.binding.declaration < length r.captured.items) r.locals.items
  pub paired : All (λ (c : Captures). length c.declarations.items ≡ length c.sources.items) r.functions.items
  pub few : r.here.active ≤ 200

-- the answers so far are those of these marks, which break no rule
pub record Answers (r : Resolver) (marks : List Mark) : Type 0 where
  pub keeps : first_breach [] marks ≡ None
  pub well_made : AreWellMade marks marks
  pub declarations : declarations_in marks ≡ length r.captured.items
  pub functions : functions_in marks ≡ length r.functions.items
  pub names : uses_of_names r.names.items ≡ uses_of marks
  pub captured : r.captured.items ≡ captured_below (length r.captured.items) marks
  pub upvalues : HaveUpvalues 0 r.functions.items marks
  pub sources : uses_of_functions r.functions.items ≡ upvalues_below (length r.functions.items) marks

-- what is in scope is that of a place behind these marks
pub record Surrounds (r : Resolver) (marks : List Mark) (place : Place) : Type 0 where
  pub scope : (name : Text) → place.scope name ≡ lookup r.locals.items name
  pub around : place.around ≡ reverse r.stack.items
  pub nested : AreNested place.around marks
  -- what a name means stands in a function around
  pub homes : (name : Text) (binding : Binding) → place.scope name ≡ Some binding → is_one_of binding.home place.around ≡ true
  pub vararg : place.vararg ≡ r.here.vararg
  pub looped : place.looped ≡ r.here.looped
  pub active : place.active ≡ r.here.active
  pub declarations : place.declarations ≡ length r.captured.items
  pub functions : place.functions ≡ length r.functions.items

pub record Stands (r : Resolver) (marks : List Mark) (place : Place) : Type 0 where
  pub answers : Answers r marks
  pub surrounds : Surrounds r marks place

-- what a part makes of it: it stands behind the part, or the part has the first breach
abbrev pub Comes : Resolver → List Mark → Walk → Result (Unit {0}) ScopeFault → Type 0
Comes new marks walk (Ok unit) = Stands new (marks ++ walk.marks) walk.next
Comes new marks walk (Err fault) = IsBreach (first_breach marks walk.marks) fault

-- a part of a tree is walked
pub record Goes (part : Part) (old new : Resolver) (result : Result (Unit {0}) ScopeFault) : Type 0 where
  pub goes : (marks : List Mark) (place : Place) → Sound old → Stands old marks place → Comes new marks (part place) result

-- a statement leaves more names in scope maybe, in the same functions
pub record Extends (old new : Resolver) : Type 0 where
  pub more : List Local
  pub locals : new.locals.items ≡ old.locals.items ++ more
  pub stack : new.stack.items ≡ old.stack.items
  pub grown : length old.captured.items ≤ length new.captured.items

-- an expression leaves what is in scope as it is
pub record Keeps (old new : Resolver) : Type 0 where
  pub locals : new.locals.items ≡ old.locals.items
  pub stack : new.stack.items ≡ old.stack.items
  pub here : new.here ≡ old.here
  pub grown : length old.captured.items ≤ length new.captured.items

-- a block ends
pub record Left (old : Resolver) (around : Around) (new : Resolver) : Type 0 where
  pub locals : new.locals.items ≡ take around.locals old.locals.items
  pub stack : new.stack.items ≡ take around.stack old.stack.items
  pub here : new.here ≡ around.here
  pub names : new.names ≡ old.names
  pub captured : new.captured ≡ old.captured
  pub functions : new.functions ≡ old.functions

-- names are declared, which are not in scope yet
pub record Declared (old new : Resolver) (count : ℕ) : Type 0 where
  pub captured : new.captured.items ≡ old.captured.items ++ replicate count false
  pub locals : new.locals ≡ old.locals
  pub stack : new.stack ≡ old.stack
  pub here : new.here ≡ old.here
  pub names : new.names ≡ old.names
  pub functions : new.functions ≡ old.functions

-- locals of these names, with numbers from one on
abbrev pub AreNamed : List Text → (number home : ℕ) → List Local → Type 0
AreNamed [] number home [] = Unit {0}
AreNamed (name ∷ names) number home (one ∷ others) = (one.name.now ≡ name) × (binding_of one.binding ≡ record { declaration = number; home = home }) × AreNamed names (suc number) home others
AreNamed names number home locals = ⊥

-- names come into scope, by the number of the first
pub record Brought (old new : Resolver) (brought : List Text) (first : ℕ) : Type 0 where
  pub more : List Local
  pub locals : new.locals.items ≡ old.locals.items ++ more
  pub named : AreNamed brought first (innermost (reverse old.stack.items)) more
  pub stack : new.stack ≡ old.stack
  pub vararg : new.here.vararg ≡ old.here.vararg
  pub looped : new.here.looped ≡ old.here.looped
  pub active : new.here.active ≡ old.here.active + length brought
  pub names : new.names ≡ old.names
  pub captured : new.captured ≡ old.captured
  pub functions : new.functions ≡ old.functions

-- a function is opened, with no upvalues yet
pub record Opened (old new : Resolver) (extra : Bool) : Type 0 where
  pub stack : new.stack.items ≡ old.stack.items ++ length old.functions.items ∷ []
  pub empty : Captures
  pub functions : new.functions.items ≡ old.functions.items ++ empty ∷ []
  pub no_declarations : empty.declarations.items ≡ []
  pub no_sources : empty.sources.items ≡ []
  pub vararg : new.here.vararg ≡ extra
  pub looped : new.here.looped ≡ false
  pub active : new.here.active ≡ 0
  pub locals : new.locals ≡ old.locals
  pub names : new.names ≡ old.names
  pub captured : new.captured ≡ old.captured

-- `else` and its block, and the step of a loop, where there is one
abbrev pub last_part : Option Block → Part
last_part None = nothing
last_part (Some block) = within stay (statements_part (view_block block))

abbrev pub step_part_of : Option Exp → Part
step_part_of None = nothing
step_part_of (Some step) = expression_part (view_exp step)

-- an item of a constructor
abbrev pub item_part : ItemKind → Part
item_part (Positional' line kind) = expression_part (view_kind kind line)
item_part (Named' name line kind) = expression_part (view_kind kind line)
item_part (Keyed' line kind line' kind') = both (expression_part (view_kind kind line)) (expression_part (view_kind kind' line'))
