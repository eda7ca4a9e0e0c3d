use Rattle.code_builder.specs.Made.{ahead_of, maker_of}
use Rattle.code_builder.proofs.DraftLists.{with_draft}
use Rattle.code_builder.proofs.builder.Builder.add_function.Goals as goal

pub returns : goal.returns
returns c = with_draft (maker_of c.args.self.now) c.args.self.now.functions.items c.push.new.self.items c.args.draft (ahead_of c.args.ahead) c.in_ok-push.ensures.items
