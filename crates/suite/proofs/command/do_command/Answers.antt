use Rattle.std.proofs.Common.{◌∙◌}
use Rattle.std.specs.String.{string_bytes}
use Rattle.suite.specs.Words.{job_of}
use Rattle.suite.proofs.Working.{fetched_does, made_does}
use Rattle.suite.proofs.command.do_command.Goals as goal

pub returns-in-Ok : goal.returns-in-Ok
returns-in-Ok g c =
    fetched_does (job_of c.args.command.now) _ (string_bytes c.in-File.file.now) c.in-Ok.bytes _ _ _ _ _ _ _ _ _ c.in-File.ensures.1 c.in-File.ensures.0 c.bytes-in-Ok.ensures c.in-Ok.ensures.unchanged c.in-Ok.ensures.listed c.in-Ok.ensures.told c.do_bytes.ensures

pub returns-in-Ok-made : goal.returns-in-Ok-made
returns-in-Ok-made g c =
    made_does (job_of c.args.command.now) c.in-Made.count _ _ _ _ _ _ _ _ c.in-Made.ensures (c.bytes-in-Ok-made.ensures ∙ c.in-Ok-made.ensures) c.do_bytes-in-Ok-made.ensures
