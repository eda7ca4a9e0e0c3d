use Rattle.std.proofs.Common.{◌∙◌, ap}
use Rattle.std.specs.Prelude.{unwrap_or}
use Rattle.std.proofs.lemmas.Map.Text.{btree_map_updates_str}
use Rattle.global_use.specs.Counts.{no_counts}
use Rattle.global_use.proofs.Tables.{name_added}
use Rattle.global_use.proofs.names.add_name.Goals as goal

pub returns : goal.returns
returns c =
    name_added c.args.names.now c.insert.new.self c.args.name.now _ c.unwrap_or-had.result c.args.more c.in_ok-with.field-0 c.get.ensures.value
    (c.unwrap_or-had.ensures ∙ ap (λ o. unwrap_or o no_counts) c.copied.ensures) c.in_ok-with.ensures
    (btree_map_updates_str c.args.name.now c.args.names.now c.insert.new.self _ c.in_ok-insert.ensures.updates)
