use Rattle.std.proofs.Common.{◌∙◌, ap, List, length, take, ◌-◌}
use Rattle.std.specs.String.{string_bytes}
use Rattle.std.specs.FinMap.{get}
use Rattle.suite_io.specs.declared.calls.FileCall.{FileCall}
use Rattle.suite_io.specs.Held.{HeldFiles, contents_of}
use Rattle.suite_io.proofs.Entries.{get_other}
use Rattle.suite_io.proofs.LastCall.{take-last}
use Rattle.suite_io.proofs.memory_files.MemoryFilesFiles.store.Goals as goal

pub returns-in-Ok-clause-others : goal.returns-in-Ok-clause-others
returns-in-Ok-clause-others c = λ other differs.
    ap (λ (held : HeldFiles). get held.contents other) c.in-Ok.ensures.ok
    ∙ get_other (contents_of c.self.inside.held.entries) (string_bytes c.in_ok-key.key) c.in_ok-content.content other (λ e. differs (e ∙ c.in_ok-key.ensures.cases))
    ∙ ap (λ (held : HeldFiles). get held.contents other) c.self.view_is

pub returns-in-Err-clause-listed : goal.returns-in-Err-clause-listed
returns-in-Err-clause-listed c =
    c.take_back.ensures
    ∙ ap (λ (calls : List FileCall). take (length calls - 1) calls) (ap (λ (held : HeldFiles). held.calls) (c.self-2.view_is ∙ c.in-Err.ensures.err) ∙ c.in_ok-push_call.ensures.ok)
    ∙ take-last c.self.inside.calls _
    ∙ ap (λ (held : HeldFiles). held.calls) c.self.view_is
