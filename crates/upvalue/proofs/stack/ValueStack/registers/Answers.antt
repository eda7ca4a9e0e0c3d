use Rattle.std.proofs.Common.{◌-◌, List, length, take, drop, sym, subst}
use Rattle.std.proofs.lemmas.List.Elements.{All-take, All-drop}
use Rattle.lua_model.specs.declared.Value.{Value}
use Rattle.lua_heap.specs.State.{IsOf, AreOf}
use Rattle.upvalue.proofs.Rows.{fits_of}
use Rattle.upvalue.proofs.stack.ValueStack.registers.Goals as goal

pub returns-clause-known : goal.returns-clause-known
returns-clause-known c h shares =
    let s = c.self.inside in
    let values = s.values.items in
    let fits = fits_of s c.args.self.now c.self.view_is c.self.invariant h shares in
    subst (λ (l : List Value). AreOf h (take (length l - s.base) (drop s.base l))) (sym c.deref.ensures.value)
    (All-take (IsOf h) (length values - s.base) (drop s.base values) (All-drop (IsOf h) s.base values fits.known))
