use Rattle.std.proofs.Common.{◌∙◌, ap}
use Rattle.std.specs.String.{string_bytes}
use Rattle.std.specs.FinMap.{insert}
use Rattle.suite_io.specs.Contents.{Contents}
use Rattle.suite_io.specs.Held.{HeldFiles}
use Rattle.suite_io.proofs.Entries.{contents_of-given}
use Rattle.suite_io.proofs.memory_files.MemoryFiles.insert.Goals as goal

pub returns-clause-ok : goal.returns-clause-ok
returns-clause-ok c =
    let given = contents_of-given c.self.inside.held c.insert.new.self c.args.name c.args.content c.in_ok-insert.ensures.updates in
    ap (λ (m : Contents). record { contents = m; calls = c.self.inside.calls; fails = c.self.inside.fails.items }) given
    ∙ ap (λ (held : HeldFiles). record held { contents = insert held.contents (string_bytes c.args.name) c.args.content }) c.self.view_is
