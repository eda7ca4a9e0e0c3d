use Rattle.std.proofs.Common.{take}
use Rattle.lua_num.specs.Bytes.{is_space}
use Rattle.lua_num.specs.Reading.{SplitsRun}
use Rattle.lua_num.proofs.NumberTexts.{prefix_run, text_read}
use Rattle.lua_num.proofs.numbers.to_number.Goals as goal

pub returns : goal.returns
returns c =
    let split : SplitsRun is_space c.args.text.now (take c.count_space.result c.args.text.now) c.split_at.result.1.now = rw (c.split_at.ensures.back, c.count_space.ensures.count) (prefix_run is_space c.args.text.now) in
    text_read c.args.text.now _ c.split_at.result.1.now c.signed_value.result split c.signed_value.ensures.value c.signed_value.ensures.none
