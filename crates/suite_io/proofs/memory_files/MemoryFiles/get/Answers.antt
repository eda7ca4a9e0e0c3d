use Rattle.std.proofs.Common.{sym, ◌∙◌, ap, Some}
use Rattle.std.specs.String.{string_bytes}
use Rattle.std.specs.FinMap as map
use Rattle.suite_io.proofs.Entries.{get-contents_of}
use Rattle.suite_io.proofs.memory_files.MemoryFiles.get.Goals as goal

pub returns-in-Some : goal.returns-in-Some
returns-in-Some c =
    ap Some c.bytes.ensures ∙ c.in-Some.ensures.value
    ∙ sym (get-contents_of c.self.inside.held.entries (string_bytes c.args.name.now))
    ∙ ap (λ f. map.get f.contents (string_bytes c.args.name.now)) c.self.view_is

pub returns-in-None : goal.returns-in-None
returns-in-None c =
    c.in-None.ensures.value
    ∙ sym (get-contents_of c.self.inside.held.entries (string_bytes c.args.name.now))
    ∙ ap (λ f. map.get f.contents (string_bytes c.args.name.now)) c.self.view_is
