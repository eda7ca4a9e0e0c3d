use Rattle.std.proofs.Common.{◌≡◌, sym, ap, subst, ◌∙◌}
use Rattle.lua_tree.specs.Syntax.{Source}
use Rattle.proto.specs.Chunk.{Chunk}
use Rattle.scheme.specs.Scheme.{scheme}
use Rattle.agrees.specs.Doing.{DoesSo}
use Rattle.front.proofs.OneSource.{read_by}
use Rattle.front.proofs.laws.compiled_does.Goals as goal

pub returns : goal.returns
returns c = λ name bytes source chunk accepts compiled hosts replies steps.
    let same : source ≡ compiled.source = c.sources_are_one.ensures bytes source compiled.source (read_by bytes source accepts) (read_by bytes compiled.source compiled.accepts) in
    subst (λ (made : Chunk). DoesSo source made hosts replies steps)
    (ap (λ (s : Source). scheme s name) same ∙ sym compiled.is)
    (c.accepted_source_does.ensures bytes source accepts name hosts replies steps)
