use Rattle.std.proofs.Common.{◌≡◌, ◌∙◌, ap, subst, Some, IfOk}
use Rattle.lua_tree.specs.View.{view_tree}
use Rattle.printer.specs.Layout.{source_pieces, printed as printed_source}
use Rattle.printer.specs.Sheets.{put_pieces}
use Rattle.printer.proofs.Lexed.{lexed}
use Rattle.printer.proofs.Relined.{reads_back, if_read}
use Rattle.printer.proofs.Sheets.{text_is, source_held}
use Rattle.printer.proofs.printing.print_tree.Goals as goal

pub returns : goal.returns
returns c =
    let source = view_tree c.args.tree.now in
    let sheet = c.put_block.new.out in
    let put = c.in_ok-put_block.ensures ∙ ap (λ sheet. put_pieces (source_pieces source) (Some sheet)) c.new-page.ensures in
    let text : IfOk c.finish.result (λ printed. printed ≡ printed_source source) = subst (λ text. IfOk c.finish.result (λ printed. printed ≡ text)) (text_is source sheet put) c.finish.ensures in
    record { text = text; read = λ formed. if_read source c.finish.result text (reads_back lexed source formed (source_held source sheet put)) }
