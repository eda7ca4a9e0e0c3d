-- Serves the laws. Where a function stands in the source, and what the names around it find there: what its words mean depends on this.
use Rattle.std.specs.Prelude.{◌≡◌, ◌≤◌, ◌==◌, ℕ, Bool, true, false, List, [], ◌∷◌, ◌++◌, length, slice_get, Option, Some, None}
use Rattle.lua_num.specs.Bytes.{Text}
use Rattle.lua_tree.specs.Outline as outline
use Rattle.lua_tree.specs.Outline.{Binding, Scope, Mark, Place, innermost, leave}
use Rattle.lua_tree.specs.Scoping.{Use, slot_of, upvalues_of, is_captured}
use Rattle.scheme.specs.Functions.{without_sources}
use Rattle.scheme.specs.Making.{Ahead, head_or}
use Rattle.scheme.specs.declared.making.Active.{Active}
use Rattle.scheme_stands.specs.Places.{ActiveAt, CapturesAre, Here, UpvalueAt}
use Rattle.scheme_stands.specs.Words.{Names, is_among, names_in, onto, own_register}

-- ---- what is found by a name

-- a local of the function, by its declaration
pub record OwnAt (active : List Active) (name : Text) (d : ℕ) : Type 0 where
  pub register : ℕ
  pub is : own_register name active ≡ Some register
  pub one : Active
  pub there : slice_get active register ≡ Some one
  pub declaration : one.local.declaration ≡ Some d

-- one of a function around
pub record AroundAt (all : List Mark) (home : ℕ) (n : Names) (active : List Active) (name : Text) (b : Binding) : Type 0 where
  pub none : own_register name active ≡ None
  pub among : is_among name n.around ≡ true
  pub slot : UpvalueAt home all b → slice_get n.upvalues (slot_of b.declaration (upvalues_of home all)) ≡ Some name

abbrev pub FindsIn : List Mark → (home : ℕ) → Names → List Active → Text → Binding → Bool → Type 0
FindsIn all home n active name b true = OwnAt active name b.declaration
FindsIn all home n active name b false = AroundAt all home n active name b

abbrev pub FindsBy : List Mark → (home : ℕ) → Names → List Active → Text → Option Binding → Type 0
FindsBy all home n active name None = (own_register name active ≡ None) × (is_among name n.around ≡ false)
FindsBy all home n active name (Some b) = FindsIn all home n active name b (b.home == home)

-- the declared locals are marked as captured where they are
abbrev pub Marked : List Mark → List Active → Type 0
Marked all active = (r : ℕ) (x : Active) (d : ℕ) → slice_get active r ≡ Some x → x.local.declaration ≡ Some d → x.local.captured ≡ is_captured d all

pub record NamedBy (all : List Mark) (home : ℕ) (n : Names) (active : List Active) (scope : Scope) : Type 0 where
  pub finds : (name : Text) → FindsBy all home n active name (scope name)
  pub apart : (a b : Text) (x y : Binding) → scope a ≡ Some x → scope b ≡ Some y → x.declaration ≡ y.declaration → a ≡ b
  pub marked : Marked all active

abbrev pub NamedAt : List Mark → Place → List Active → Names → Type 0
NamedAt all place active n = NamedBy all (innermost place.around) n active place.scope

-- ---- functions

-- the names of the upvalues of a function that is opened
abbrev pub names_of_seen : (all : List Mark) (place : Place) (active : List Active) (bs : List Binding) (uses : List Use) → CapturesAre all place active bs uses → List Text
names_of_seen all place active [] uses c = []
names_of_seen all place active (b ∷ bs) uses c = c.3.0 ∷ names_of_seen all place active bs c.1 c.5

-- what the marks of a source keep that keeps the rules of scoping
pub record RulesKept (all : List Mark) : Type 0 where
  pub few : (f : ℕ) → length (upvalues_of f all) ≤ 60
  pub in_loop : (before : List Mark) (line : ℕ) (looped : Bool) (rest : List Mark) → all ≡ before ++ leave line looped ∷ rest → looped ≡ true

-- a function, which is this part of the source, with these names inside, where so much of the source is ahead behind its own sources; `around` are the names of the function around it, in which these locals are active
pub record IsPlaced (part : outline.Part) (inside : Names) (before : Ahead) : Type 0 where
  pub all : List Mark
  pub kept : RulesKept all
  pub place : Place
  pub rest : List Mark
  pub around : Names
  pub active : List Active
  pub ahead : Ahead
  pub here : Here all part place rest (record { pc = 0; ahead = ahead; functions = 0 })
  pub active_at : ActiveAt place active
  pub named : NamedAt all place active around
  pub captures : CapturesAre all place active (upvalues_of place.functions all) (head_or [] ahead.sources)
  pub before_is : before ≡ without_sources ahead
  pub inside_is : inside ≡ record { around = names_in (onto active []) ++ around.around; upvalues = names_of_seen all place active (upvalues_of place.functions all) (head_or [] ahead.sources) captures }
