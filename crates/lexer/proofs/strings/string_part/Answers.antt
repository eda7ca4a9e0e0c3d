use Rattle.std.proofs.Common.{◌≡◌, ◌||◌, ◌==◌, ◌∷◌, List, ℕ, ◌-◌, length, take, drop, sym, subst, ap, ◌∙◌, false, get_or, arith}
use Rattle.std.proofs.lemmas.Bool.Decides.{nat_tests}
use Rattle.lua_tree.specs.Bytes.{ends_line}
use Rattle.lexer.specs.StringParts.{PartIs}
use Rattle.lexer.proofs.StringLemmas.{first_and_rest, plain_item}
use Rattle.lexer.proofs.strings.string_part.Goals as goal

pub returns-in_default-2 : goal.returns-in_default-2
returns-in_default-2 c =
    let plain : ((get_or c.args.text.now 0 0 == c.args.quote) || (get_or c.args.text.now 0 0 == 92) || ends_line (get_or c.args.text.now 0 0)) ≡ false = grind (arith, nat_tests) in
    plain_item c.args.quote _ c.args.text.now _ (first_and_rest c.args.text.now c.in-len1-up.len_at_least) plain

pub returns-in-92 : goal.returns-in-92
returns-in-92 c =
    let rest : List ℕ = take (length c.args.text.now - 1) (drop 1 c.args.text.now) in
    let whole : c.args.text.now ≡ 92 ∷ rest = first_and_rest c.args.text.now c.in-len1-up.len_at_least ∙ ap (λ byte. byte ∷ rest) c.in-92.is in
    subst (λ t. PartIs c.args.quote t c.escaped_part.result) (sym whole) (c.escaped_part.ensures c.args.quote)
