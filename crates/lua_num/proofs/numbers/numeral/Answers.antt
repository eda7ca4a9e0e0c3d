use Rattle.std.specs.Result.{result_ok}
use Rattle.lua_num.proofs.Numerals.{some_if_ok, numeral_read, numeral_none}
use Rattle.lua_num.proofs.numbers.numeral.Goals as goal

pub returns-in_err-written_value : goal.returns-in_err-written_value
returns-in_err-written_value c = rw c.from_residual.ensures (numeral_none c.args.text.now c.in_err-written_value.ensures.none)

pub returns : goal.returns
returns c =
    rw c.ok.ensures.value (numeral_read c.args.text.now c.in_ok-written_value.field-0 (result_ok c.try_from.result) c.in_ok-written_value.ensures.value (some_if_ok _ _ c.try_from.result c.try_from.ensures))
