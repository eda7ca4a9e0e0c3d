-- What the names of a function mean where its words stand: the law says of each what the scope finds, and here it is said of the picture.
use Rattle.scheme.specs.Expressions.{register_of}
use Rattle.source_meaning.specs.Meaning.{own_local, one}
use Rattle.std.specs.Prelude.{slice_get}
use Rattle.std.proofs.Common.{◌≡◌, ◌++◌, ℕ, Bool, List, [], ◌∷◌, Option, Some, None, true, refl, sym, ◌∙◌, map, subst}
use Rattle.lua_num.specs.Bytes.{Text}
use Rattle.lua_tree.specs.Syntax.{Expression, name_expression, parenthesized}
use Rattle.lua_tree.specs.Scoping.{Use}
use Rattle.scheme.specs.Making.{Where, in_register, in_upvalue, in_globals, where_is}
use Rattle.scheme.specs.declared.making.Active.{Active}
use Rattle.source_meaning.specs.State.{State as SourceState, find}
use Rattle.scheme_stands.specs.Words.{Fn, Spot, Passed, meaning, MeansBy, IsCaptured, CapturedBy, is_marked}
use Rattle.scheme_stands.specs.Expressions.{local_at, OperandAt, OperandBy, DecideBy, form_of}
use Rattle.scheme_stands.specs.Relation.{related}
use Rattle.scheme_stands.proofs.Forms.{form_is}
use Rattle.agrees.proofs.Tasks.{scope}
use Rattle.agrees.proofs.Picture.{Setup, Ghost, Site, Ok, Act, ActFine, Known, of_cell, code_of, names_of}
use Rattle.agrees.proofs.NamesFound.{own_found, own_missing, up_found, not_found, find_front, find_behind}

-- a bare local passes its name
pub bare_passed : (f : Fn) (e : Expression) (active : List Active) (p q : Spot) → (related f e).bare active p q → Passed p q
bare_passed f (name_expression line t) active p q h = h.passed
bare_passed f (parenthesized line e) active p q h = bare_passed f e active p q h
bare_passed f e active p q h = h

-- ## names

-- a local by its register, an upvalue by its slot, or a global: what the scope finds is that
abbrev pub Finds : Site → Text → Where → Type 0
Finds x name (in_register r) = (c : ℕ) × (find name x.a.own ≡ Some c) × (slice_get x.a.slots r ≡ Some (of_cell c))
Finds x name (in_upvalue i) = (c : ℕ) × (find name x.a.own ≡ None) × (find name x.a.outer ≡ Some c) × (slice_get x.a.source_cells i ≡ Some c)
Finds x name in_globals = (find name x.a.own ≡ None) × (find name x.a.outer ≡ None)

-- what the law says of a name
pub name_finds : (owner : List ℕ) (x : Site) (name : Text) (w : Where) → ActFine owner x.a → MeansBy (names_of x.a) x.a.active name w → Finds x name w
name_finds owner x name (in_register r) fine h = let c = own_found x.a name r fine.as_many fine.owned h in (c.cell, c.found, c.slot)
name_finds owner x name (in_upvalue slot) fine h =
    let c = up_found x.a.source_cells x.a.names x.a.outer name slot fine.known h.1 in (c.cell, own_missing x.a name fine.owned h.0, c.found, c.up)
name_finds owner x name in_globals fine h = (own_missing x.a name fine.owned h.0, not_found name x.a.outer h.1)

-- ## operands

-- an operand that is a bare local, in parentheses or not, is in its register; any other is no bare local
abbrev pub Resolves : Site → Expression → Option ℕ → Type 0
Resolves x e None = own_local (scope x) e ≡ None
Resolves x e (Some r) = (c : ℕ) × (own_local (scope x) e ≡ Some c) × (slice_get x.a.slots r ≡ Some (of_cell c))

name_resolves : (x : Site) (line : ℕ) (name : Text) (w : Where) → Finds x name w → Resolves x (name_expression line name) (register_of w)
name_resolves x line name (in_register r) h = (h.0, h.1, h.2)
name_resolves x line name (in_upvalue slot) h = h.1
name_resolves x line name in_globals h = h.0

in_parentheses : (x : Site) (line : ℕ) (e : Expression) (l : Option ℕ) → Resolves x e l → Resolves x (parenthesized line e) l
in_parentheses x line e None h = h
in_parentheses x line e (Some r) h = h

module _ (z : Setup) (s : SourceState) (g : Ghost) (x : Site) (ok : Ok z s g x) where
  value_resolves : (e : Expression) (free r : ℕ) (p q : Spot) → (related (code_of x.a) e).to_reg x.a.active free r p q → Resolves x e (local_at (form_of e) x.a.active p)
  value_resolves (name_expression line name) free r p q w = name_resolves x line name (meaning x.a.active p) (name_finds g.owner x name (meaning x.a.active p) ok.acts.0 w.0)
  value_resolves (parenthesized line e) free r p q w = in_parentheses x line e (local_at (form_of e) x.a.active p) (value_resolves e free r p q w)
  value_resolves e free r p q w = refl

  bare_resolves : (e : Expression) (p q : Spot) → (related (code_of x.a) e).bare x.a.active p q → Resolves x e (local_at (form_of e) x.a.active p)
  bare_resolves (name_expression line name) p q w = name_resolves x line name (meaning x.a.active p) (name_finds g.owner x name (meaning x.a.active p) ok.acts.0 w.means)
  bare_resolves (parenthesized line e) p q w = in_parentheses x line e (local_at (form_of e) x.a.active p) (bare_resolves e p q w)
  bare_resolves e p q w = refl

  as_related : (e : Expression) (p : Spot) → Resolves x e (local_at (form_of e) x.a.active p) → Resolves x e (local_at (related (code_of x.a) e).form x.a.active p)
  as_related e p h = subst (λ form. Resolves x e (local_at form x.a.active p)) (sym (form_is (code_of x.a) e)) h

  pub operand_resolves : (e : Expression) (free i free1 : ℕ) (p q : Spot) → OperandAt (code_of x.a) x.a.active (related (code_of x.a) e) free i free1 p q → Resolves x e (local_at (related (code_of x.a) e).form x.a.active p)
  operand_resolves e free i free1 p q w = as_related e p (by (local_at (related (code_of x.a) e).form x.a.active p) w)
    where
      by : (l : Option ℕ) → OperandBy l (code_of x.a) x.a.active (related (code_of x.a) e) free i free1 p q → Resolves x e (local_at (form_of e) x.a.active p)
      by (Some r) t = bare_resolves e p q t.passed
      by None t = value_resolves e free free p q t.value_at

  -- on the left of `and` and `or`
  pub decided_resolves : (d : Bool) (e : Expression) (free r : ℕ) (p q : Spot) → DecideBy (local_at (related (code_of x.a) e).form x.a.active p) (code_of x.a) d (related (code_of x.a) e) x.a.active free r p q → Resolves x e (local_at (related (code_of x.a) e).form x.a.active p)
  decided_resolves d e free r p q w = as_related e p (by (local_at (related (code_of x.a) e).form x.a.active p) w)
    where
      by : (l : Option ℕ) → DecideBy l (code_of x.a) d (related (code_of x.a) e) x.a.active free r p q → Resolves x e (local_at (form_of e) x.a.active p)
      by (Some i) t = bare_resolves e p t.mid t.first_at
      by None t = value_resolves e free r p t.mid t.first_at

-- ## closures

-- a further word takes the cell: of a marked local of the running frame, or of one of its upvalues
abbrev pub TakesCell : Act → Where → ℕ → Type 0
TakesCell a (in_register r) c = (slice_get a.slots r ≡ Some (of_cell c)) × (slice_get (map is_marked a.active) r ≡ Some true)
TakesCell a (in_upvalue i) c = slice_get a.source_cells i ≡ Some c
TakesCell a in_globals c = ⊥

abbrev pub TakesCells : Act → List Use → List ℕ → Type 0
TakesCells a [] [] = Unit {0}
TakesCells a [] (c ∷ cs) = ⊥
TakesCells a (one ∷ uses) [] = ⊥
TakesCells a (one ∷ uses) (c ∷ cs) = TakesCell a (where_is one a.active) c × TakesCells a uses cs

-- what a CLOSURE's further words mean, and what the upvalues of its function are called
pub record CapturesFit (a : Act) (uses : List Use) (names : List Text) : Type 0 where
  pub cells : List ℕ
  pub takes : TakesCells a uses cells
  pub known : Known names cells (a.own ++ a.outer)

-- the cell that a further word takes, which the name of its upvalue means
record Captures (owner : List ℕ) (a : Act) (name : Text) (w : Where) : Type 0 where
  pub cell : ℕ
  pub takes : TakesCell a w cell
  pub found : find name (a.own ++ a.outer) ≡ Some cell

captures_one : (owner : List ℕ) (a : Act) (name : Text) (w : Where) → ActFine owner a → IsCaptured (names_of a) a.active name w → Captures owner a name w
captures_one owner a name (in_register r) fine h =
    let c = own_found a name r fine.as_many fine.owned h.0 in record { cell = c.cell; takes = (c.slot, h.1); found = find_front name a.own a.outer c.cell c.found }
captures_one owner a name (in_upvalue slot) fine h =
    let c = up_found a.source_cells a.names a.outer name slot fine.known h.1 in
    record { cell = c.cell; takes = c.up; found = find_behind name a.own a.outer (own_missing a name fine.owned h.0) ∙ c.found }
captures_one owner a name in_globals fine h = absurd h

pub captures_all : (owner : List ℕ) (a : Act) (names : List Text) (uses : List Use) → ActFine owner a → CapturedBy (names_of a) a.active names uses → CapturesFit a uses names
captures_all owner a [] [] fine h = record { cells = []; takes = tt; known = tt }
captures_all owner a [] (one ∷ uses) fine h = absurd h
captures_all owner a (name ∷ names) [] fine h = absurd h
captures_all owner a (name ∷ names) (one ∷ uses) fine h =
    let c = captures_one owner a name (where_is one a.active) fine h.0 in
    let cs = captures_all owner a names uses fine h.1 in
    record { cells = c.cell ∷ cs.cells; takes = (c.takes, cs.takes); known = (c.found, cs.known) }
