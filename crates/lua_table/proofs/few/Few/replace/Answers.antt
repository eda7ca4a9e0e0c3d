use Rattle.std.proofs.Common.{position, slice_set, sym, ap, subst, ◌∙◌}
use Rattle.lua_model.specs.declared.Value.{Value}
use Rattle.lua_model.specs.declared.Value.TheVariants.{Nil}
use Rattle.lua_model.specs.Value.{same_value}
use Rattle.lua_table.specs.Entries.{is_nil_value, with_entry}
use Rattle.lua_table.specs.Rows.{AreFew}
use Rattle.lua_table.proofs.Places.{found, missing}
use Rattle.lua_table.proofs.Lists.{few_kept}
use Rattle.lua_table.proofs.few.Few.replace.Goals as goal

pub invariant_of-self : goal.invariant_of-self
invariant_of-self c =
    let ps = c.self.inside.pairs.items in
    let at = c.in-Some.ensures.place ∙ ap (position (λ p. same_value c.args.key p.0)) (sym c.self.view_is) in
    let f = found same_value Nil is_nil_value ps c.args.key c.in-Some.i (sym at) in
    let d = c.index_mut.result.now in
    let key = ap (λ (p : Value × Value). p.0) (c.index_mut.ensures.value ∙ f.at d) in
    subst AreFew (f.written c.args.value ∙ ap (λ k. slice_set ps c.in-Some.i (k, c.args.value)) (sym key)) (few_kept ps c.args.key c.args.value c.self.invariant f.has_it)

pub returns-in-Some-clause-placed : goal.returns-in-Some-clause-placed
returns-in-Some-clause-placed c = sym (found same_value Nil is_nil_value c.args.self.now c.args.key c.in-Some.i (sym c.in-Some.ensures.place)).has_it

pub returns-in-Some-clause-pairs : goal.returns-in-Some-clause-pairs
returns-in-Some-clause-pairs c =
    let ps = c.self.inside.pairs.items in
    let at = c.in-Some.ensures.place ∙ ap (position (λ p. same_value c.args.key p.0)) (sym c.self.view_is) in
    let f = found same_value Nil is_nil_value ps c.args.key c.in-Some.i (sym at) in
    let d = c.index_mut.result.now in
    let key = ap (λ (p : Value × Value). p.0) (c.index_mut.ensures.value ∙ f.at d) in
    λ t. ap (λ k. slice_set ps c.in-Some.i (k, c.args.value)) key ∙ sym (f.written c.args.value) ∙ ap (λ qs. with_entry qs c.args.key c.args.value) c.self.view_is

pub returns-in-None-clause-placed : goal.returns-in-None-clause-placed
returns-in-None-clause-placed c = sym (missing same_value Nil is_nil_value c.args.self.now c.args.key (sym c.in-None.ensures.place)).has_not
