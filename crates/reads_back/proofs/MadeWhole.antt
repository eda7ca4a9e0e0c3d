-- What is known of a function that is read and is made whole; and what a name means in it is certain, where its upvalues have one slot each.
use Rattle.std.specs.Prelude.{slice_get}
use Rattle.std.proofs.Common.{◌≡◌, ℕ, List, Some, refl, sym, ap, ◌∙◌, subst, true≢false, ◌≤◌, length}
use Rattle.std.proofs.lemmas.Option.{same_Some}
use Rattle.lua_num.specs.Bytes.{Text}
use Rattle.core_expr.specs.Places.{as_name}
use Rattle.recover_expr.specs.Situation.{Function}
use Rattle.scheme.specs.Making.{Where, in_register, in_upvalue, in_globals, Maker}
use Rattle.scheme.specs.declared.making.Active.{Active}
use Rattle.scheme_stands.specs.Words.{Fn, Law, Means, MeansBy, Names}
use Rattle.reads_back.proofs.InnerNames.{AreKnown}
use Rattle.reads_back.proofs.WordsRead.{IsFunction}

-- the upvalues of the function that is read have these names
abbrev AreNamed : Function → Names → Type 0
AreNamed f n = (text : Text) (slot : ℕ) → slice_get n.upvalues slot ≡ Some text → as_name (slice_get f.of.upvalue_names slot) ≡ Some text

-- the function that is read is the one that is made in the end
pub record IsMadeWhole (f : Function) (g : Fn) (z : Maker) : Type 0 where
  pub is_function : IsFunction f g
  pub names : Names
  pub law : g.law ≡ Some names
  pub known : AreKnown names
  pub named : AreNamed f names
  pub constants : g.constants ≡ z.constants
  pub upvalues : g.upvalue_names ≡ z.upvalue_names
  pub few : length z.constants ≤ 262144

-- ---- what a name means

as_names : (g : Fn) (n : Names) (active : List Active) → g.law ≡ Some n → (text : Text) (w : Where) → Means g.law active text w → MeansBy n active text w
as_names g n active law text w means = subst (λ (law : Law). Means law active text w) law means

one_meaning : (n : Names) → AreKnown n → (active : List Active) (text : Text) (one other : Where) → MeansBy n active text one → MeansBy n active text other → one ≡ other
one_meaning n known active text (in_register r) (in_register s) first second = ap in_register (same_Some r s (sym first ∙ second))
one_meaning n known active text (in_register r) (in_upvalue slot) first second = let none = sym first ∙ second.0 in cc
one_meaning n known active text (in_register r) in_globals first second = let none = sym first ∙ second.0 in cc
one_meaning n known active text (in_upvalue slot) (in_register s) first second = let none = sym first.0 ∙ second in cc
one_meaning n known active text (in_upvalue slot) (in_upvalue other) first second = ap in_upvalue (known.slots text slot other first.1 second.1)
one_meaning n known active text (in_upvalue slot) in_globals first second = absurd (true≢false (sym (known.around text slot first.1) ∙ second.1))
one_meaning n known active text in_globals (in_register s) first second = let none = sym first.0 ∙ second in cc
one_meaning n known active text in_globals (in_upvalue slot) first second = absurd (true≢false (sym (known.around text slot second.1) ∙ first.1))
one_meaning n known active text in_globals in_globals first second = refl

pub is_certain : (g : Fn) (n : Names) → AreKnown n → (active : List Active) → g.law ≡ Some n → (text : Text) (one other : Where) → Means g.law active text one → Means g.law active text other → one ≡ other
is_certain g n known active law text one other first second = one_meaning n known active text one other (as_names g n active law text one first) (as_names g n active law text other second)
