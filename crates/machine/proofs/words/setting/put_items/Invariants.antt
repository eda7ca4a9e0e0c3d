use Rattle.std.proofs.Common.{drop}
use Rattle.machine.proofs.Items.{IsSetting}
use Rattle.machine.proofs.words.setting.put_items.Given as goal

abbrev pub invariant-loop-value : goal.invariant-loop-value
invariant-loop-value l =
    IsSetting l.initial.heap l.heap l.table.index l.first l.key l.values (drop l.value-index l.values)
