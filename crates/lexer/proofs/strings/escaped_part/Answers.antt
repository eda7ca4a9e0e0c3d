use Rattle.std.proofs.Common.{◌≡◌, ◌||◌, true, false, get_or, arith}
use Rattle.std.proofs.lemmas.Bool.Decides.{nat_tests}
use Rattle.lua_num.specs.Bytes.{is_digit}
use Rattle.lua_tree.specs.Bytes.{ends_line}
use Rattle.lexer.proofs.StringLemmas.{first_and_rest, line_end_item, escaped_item}
use Rattle.lexer.proofs.strings.escaped_part.Goals as goal

pub returns-in-10 : goal.returns-in-10
returns-in-10 c = λ quote.
    let ends : ends_line (get_or c.args.text.now 0 0) ≡ true = grind (arith, nat_tests) in
    line_end_item quote _ _ c.args.text.now _ (first_and_rest c.args.text.now c.in-len1-up.len_at_least) ends c.line_end_length.ensures

pub returns-in_default-byte : goal.returns-in_default-byte
returns-in_default-byte c = λ quote.
    let plain : (is_digit (get_or c.args.text.now 0 0) || ends_line (get_or c.args.text.now 0 0)) ≡ false = grind (arith, nat_tests) in
    rw c.escaped_value.ensures (escaped_item quote _ c.args.text.now _ (first_and_rest c.args.text.now c.in-len1-up.len_at_least) plain)
