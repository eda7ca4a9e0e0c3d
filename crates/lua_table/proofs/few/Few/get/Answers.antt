use Rattle.std.proofs.Common.{get_or, sym, ap, ◌∙◌}
use Rattle.lua_model.specs.declared.Value.{Value}
use Rattle.lua_model.specs.declared.Value.TheVariants.{Nil}
use Rattle.lua_model.specs.Value.{same_value}
use Rattle.lua_table.specs.Entries.{is_nil_value}
use Rattle.lua_table.proofs.Places.{found, missing}
use Rattle.lua_table.proofs.few.Few.get.Goals as goal

pub returns-in-Some : goal.returns-in-Some
returns-in-Some c =
    let f = found same_value Nil is_nil_value c.args.self.now c.args.key c.in-Some.i (sym c.in-Some.ensures.place) in
    let d = c.index.result.now in
    ap (λ (p : Value × Value). p.1) (c.index.ensures ∙ ap (λ ps. get_or ps c.in-Some.i d) c.self.view_is ∙ f.at d) ∙ sym f.value

pub returns-in-None : goal.returns-in-None
returns-in-None c = sym (missing same_value Nil is_nil_value c.args.self.now c.args.key (sym c.in-None.ensures.place)).value
