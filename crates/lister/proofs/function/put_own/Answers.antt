use Rattle.std.proofs.lemmas.Result.{on_ok_weaker}
use Rattle.lister.proofs.Parts.{with_own_listing, behind}
use Rattle.lister.proofs.function.put_own.Goals as goal

pub returns : goal.returns
returns c =
    let heading = behind _ (behind _ (behind _ c.in_ok-put_name.ensures c.in_ok-put_source.ensures) c.in_ok-put_numbers.ensures) c.in_ok-put_numbers-2.ensures in
    let body = behind _ (behind _ (behind _ heading c.in_ok-put_code.ensures) c.in_ok-put_list.ensures) c.in_ok-put_count.ensures in
    let lists = behind _ (behind _ body c.in_ok-put_lines.ensures) c.in_ok-put_list-2.ensures in
    rw (with_own_listing c.args.out.now c.args.name.now c.args.proto.now _ c.shape_numbers.ensures c.items.ensures c.items-constants.ensures c.items-lines.ensures c.items-2.ensures c.items-3.ensures c.items-functions.ensures.view) (
    on_ok_weaker c.put_list-3.result (behind _ lists) c.put_list-3.ensures)
