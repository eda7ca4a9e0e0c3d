-- Targets that mean globals: their names are constants of the function.
use Rattle.std.proofs.Common.{◌≡◌, ℕ, zero, suc, ◌+◌, Bool, true, false, cond, List, [], ◌∷◌, length, subst, arith}
use Rattle.lua_num.specs.Bytes.{Text}
use Rattle.proto.specs.declared.parts.Constant.{Constant}
use Rattle.scheme.specs.Expressions.{Target, name_target, part_target}
use Rattle.scheme.specs.Making.{Where, in_globals, in_register, in_upvalue}
use Rattle.scheme.specs.Statements.{clashes, is_among, renamed, with_copy}
use Rattle.scheme.specs.declared.making.Active.{Active}
use Rattle.scheme_stands.specs.Expressions.{Rel}
use Rattle.scheme_stands.specs.Statements.{CopiesAt, CopyBy, EachStoredAt, SetAt, StoreAt, StoreRegisterAt, StoredFromAt}
use Rattle.scheme_stands.specs.Words.{Fn, Spot}
use Rattle.reads_back.specs.Cores.{HasNumber}

-- the name of a target that means a global is a constant of the function
abbrev pub HasGlobal : Fn → Target → Type 0
HasGlobal g (name_target text in_globals) = (number : ℕ) × HasNumber g (Constant.Text text) number
HasGlobal g to = Unit {0}

abbrev pub HaveGlobals : Fn → List Target → Type 0
HaveGlobals g [] = Unit {0}
HaveGlobals g (to ∷ places) = HasGlobal g to × HaveGlobals g places

-- ---- they are the same before locals are copied

global_before : (g : Fn) (x copy : ℕ) (moved : Bool) (to : Target) → HasGlobal g (cond moved (renamed x copy to) to) → HasGlobal g to
global_before g x copy false to has = has
global_before g x copy true (name_target text w) has = has
global_before g x copy true (part_target t k on_local key_local) has = tt

globals_uncopied : (g : Fn) (x copy : ℕ) (to : List Target) → HaveGlobals g (with_copy x copy to) → HaveGlobals g to
globals_uncopied g x copy [] have = tt
globals_uncopied g x copy (to ∷ places) have = (global_before g x copy (is_among x places) to have.0, globals_uncopied g x copy places have.1)

globals_by : (g : Fn) (clash : Bool) (x : ℕ) (to places : List Target) (free free1 : ℕ) (p q : Spot) → CopyBy clash g x to places free free1 p q → HaveGlobals g places → HaveGlobals g to
globals_by g true x to places free free1 p q at have = globals_uncopied g x free to (subst (HaveGlobals g) at.is have)
globals_by g false x to places free free1 p q at have = subst (HaveGlobals g) at.is have

pub globals_before : (g : Fn) (x : ℕ) (to places : List Target) (free free1 : ℕ) (p q : Spot) → CopiesAt g x to places free free1 p q → HaveGlobals g places → HaveGlobals g to
globals_before g zero to places free free1 p q at have = subst (HaveGlobals g) at.is have
globals_before g (suc x) to places free free1 p q at have =
    globals_before g x to at.between free at.free1 p at.mid at.earlier_at (globals_by g (clashes x to) x at.between places at.free1 free1 at.mid q at.later_at have)

-- ---- the words of their stores have them

set_global : (g : Fn) (text : Text) (w : Where) (r : ℕ) (p q : Spot) → SetAt g text w r p q → HasGlobal g (name_target text w)
set_global g text (in_register x) r p q at = tt
set_global g text (in_upvalue slot) r p q at = tt
set_global g text in_globals r p q at = (at.number, record { is = at.is; first = at.first })

register_global : (g : Fn) (to : Target) (r : ℕ) (p q : Spot) → StoreRegisterAt g to r p q → HasGlobal g to
register_global g (name_target text w) r p q at = set_global g text w r p q at
register_global g (part_target on key on_local key_local) r p q at = tt

store_global : (g : Fn) (to : Target) (c : Rel) (active : List Active) (free : ℕ) (p q : Spot) → StoreAt g to c active free p q → HasGlobal g to
store_global g (name_target text (in_register x)) c active free p q at = tt
store_global g (name_target text (in_upvalue slot)) c active free p q at = tt
store_global g (name_target text in_globals) c active free p q at = set_global g text in_globals at.x at.mid q at.words_at
store_global g (part_target on key on_local key_local) c active free p q at = tt

pub each_globals : (g : Fn) (places : List Target) (values : List Rel) (active : List Active) (free : ℕ) (p q : Spot) → length values ≡ length places → EachStoredAt g places values active free p q → HaveGlobals g places
each_globals g [] values active free p q counts at = tt
each_globals g (to ∷ []) (c ∷ cs) active free p q counts at = (store_global g to c active free p q at, tt)
each_globals g (to ∷ other ∷ places) (c ∷ cs) active free p q counts at =
    let words = at.others in
    (register_global g to free words.mid q words.second_at, each_globals g (other ∷ places) cs active (free + 1) at.mid words.mid (omega (arith, counts)) words.first_at)
each_globals g (to ∷ []) [] active free p q counts at = absurd (omega (arith, counts))
each_globals g (to ∷ other ∷ places) [] active free p q counts at = absurd (omega (arith, counts))

pub stored_globals : (g : Fn) (r : ℕ) (places : List Target) (p q : Spot) → StoredFromAt g r places p q → HaveGlobals g places
stored_globals g r [] p q at = tt
stored_globals g r (to ∷ places) p q at = (register_global g to r at.mid q at.second_at, stored_globals g (suc r) places p at.mid at.first_at)
