use Rattle.std.proofs.Common.{map, ◌++◌, ap, ◌∙◌}
use Rattle.scheme.specs.Functions.{Finished}
use Rattle.proto.specs.declared.parts.Constant.{Constant}
use Rattle.std.specs.Prelude.{List}
use Rattle.code_builder.specs.declared.draft.OwnDraft.{OwnDraft}
use Rattle.code_builder.specs.Drafts.{draft_chunk, own_chunk, own_misfits, all_misfits}
use Rattle.code_builder.specs.Made.{ahead_of}
use Rattle.code_builder.proofs.DraftLists.{finished_made}
use Rattle.code_builder.proofs.builder.Builder.finish.Goals as goal

pub returns : goal.returns
returns c =
    let own : List Constant → OwnDraft = λ ks. record { heading = c.args.heading; items = c.args.self.items; labels = c.args.self.labels; constants = ks; high = c.args.self.high; locals = c.args.self.locals; upvalue_names = c.args.self.upvalue_names } in
    let made : List Constant → Finished = λ ks. record { chunk = own_chunk (own ks) (map draft_chunk c.args.self.functions.items); ahead = ahead_of c.args.self.ahead; misfits = all_misfits c.args.self.functions.items ++ own_misfits (own ks) (map draft_chunk c.args.self.functions.items) } in
    finished_made _ _ _ ∙ ap made c.in_ok-constants.ensures
