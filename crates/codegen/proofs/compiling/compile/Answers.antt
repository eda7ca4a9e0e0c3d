use Rattle.std.proofs.Common.{sym, ◌∙◌, subst}
use Rattle.lua_tree.specs.View.{view_tree}
use Rattle.rules.specs.Sound.{Sound}
use Rattle.agrees.specs.Agrees.{Agrees}
use Rattle.codegen.proofs.compiling.compile.Goals as goal

pub returns-clause-sound : goal.returns-clause-sound
returns-clause-sound c = λ formed scoped.
    let draft = c.in_ok-draft.ensures in
    subst Sound (sym (c.in_ok-proto.ensures.chunk ∙ draft.chunk))
    (c.compiled_source_is_sound.ensures (view_tree c.args.tree.now) c.args.name.now formed scoped (sym draft.misfits ∙ c.in_ok-proto.ensures.fits))

pub returns-clause-agrees : goal.returns-clause-agrees
returns-clause-agrees c = λ formed scoped.
    let draft = c.in_ok-draft.ensures in
    subst (Agrees (view_tree c.args.tree.now)) (sym (c.in_ok-proto.ensures.chunk ∙ draft.chunk))
    (c.compiled_source_agrees.ensures (view_tree c.args.tree.now) c.args.name.now formed scoped (sym draft.misfits ∙ c.in_ok-proto.ensures.fits))
