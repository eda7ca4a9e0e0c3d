use Rattle.std.proofs.Common.{refl, sym, subst, ◌∙◌}
use Rattle.lua_heap.specs.State.{AreOf}
use Rattle.upvalue.proofs.Rows.{row_is, fits_of}
use Rattle.upvalue.proofs.Lent.{lent_is}
use Rattle.upvalue.proofs.stack.ValueStack.all_registers.Goals as goal

pub returns : goal.returns
returns c =
    let s = c.self.inside in
    let self = c.args.self.now in (
      (refl, lent_is s self c.self.view_is c.self.invariant),
      record {
        writes_back = tt;
        values = c.as_mut_slice.ensures.value ∙ sym (row_is s self c.self.view_is c.self.invariant);
        known = λ h shares. subst (AreOf h) (sym c.as_mut_slice.ensures.value) (fits_of s self c.self.view_is c.self.invariant h shares).known;
      },
    )
