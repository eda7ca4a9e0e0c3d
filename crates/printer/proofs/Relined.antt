-- The printed text of a well-formed tree is a text of that tree.
use Rattle.std.proofs.Common.{◌≡◌, ◌≤◌, false, List, [], ◌∷◌, map, Some, Result, Ok, Err, IfOk, refl, sym, ap, subst, ◌∙◌}
use Rattle.lua_num.specs.Bytes.{Text}
use Rattle.lua_tree.specs.Syntax.{Source}
use Rattle.lua_tree.specs.OneLine.{on_one_line}
use Rattle.lua_tree.specs.Spelling.{spell_source}
use Rattle.lua_tree.specs.Tiling.{Lexes}
use Rattle.lua_tree.specs.TreeLists.{kinds_of}
use Rattle.lua_tree.specs.WellFormed.{WellFormed, depth_of_statements}
use Rattle.lua_tree.specs.declared.token.Token.{Token}
use Rattle.lua_tree.specs.declared.token.TokenKind.{TokenKind}
use Rattle.lua_tree.proofs.SpelledKinds.{spelled_as_spelling}
use Rattle.printer.specs.Layout.{Piece, source_pieces, with_pieces, empty_page, finished, printed}
use Rattle.printer.specs.Texts.{IsTextOf}
use Rattle.printer.proofs.FirstWords.{first_no_hash}
use Rattle.printer.proofs.OneLines.{statements_spelled, statements_deep}
use Rattle.printer.proofs.Ranges.{AllInRange, first_word, Lined}
use Rattle.printer.proofs.RelinedForms.{statements_formed}
use Rattle.printer.proofs.RelinedReads.{spells}
use Rattle.printer.proofs.RelinedShapes.{statements_same}
use Rattle.printer.proofs.RelinedTrees.{beginning, relined}
use Rattle.printer.proofs.Sheets.{AreHeld}
use Rattle.printer.proofs.TreeRanges.{source_range}

kinds_are : (tokens : List Token) → map (λ token. token.kind) tokens ≡ kinds_of tokens
kinds_are [] = refl
kinds_are (token ∷ tokens) = ap (λ kinds. token.kind ∷ kinds) (kinds_are tokens)

same : (source : Source) → on_one_line (relined source) ≡ on_one_line source
same source = ap (λ body. record { body = body; last_line = 1 }) (statements_same source.body 0 beginning)

spelled_same : (source : Source) → spell_source (relined source) ≡ spell_source source
spelled_same source = sym (statements_spelled (relined source).body) ∙ (ap (λ source. spell_source source) (same source) ∙ statements_spelled source.body)

deep_same : (source : Source) → depth_of_statements (relined source).body ≡ depth_of_statements source.body
deep_same source = sym (statements_deep (relined source).body) ∙ (ap (λ source. depth_of_statements source.body) (same source) ∙ statements_deep source.body)

well_formed : (source : Source) → WellFormed source → WellFormed (relined source)
well_formed source formed = record { formed = statements_formed 0 beginning source.body formed.formed; shallow = subst (λ depth. depth ≤ 200) (sym (deep_same source)) formed.shallow }

pub is_text : (source : Source) → WellFormed source → (tokens : List Token) → Lexes (printed source) tokens → Lined false 1 (source_pieces source) tokens → IsTextOf source (printed source)
is_text source formed tokens lexed lined =
    let spelled = spells source tokens lined in
    record {
      tokens = tokens;
      lexed = lexed;
      kinds = kinds_are tokens ∙ (spelled_as_spelling (relined source) tokens spelled ∙ spelled_same source);
      read = relined source;
      parsed = record { well_formed = well_formed source formed; spelled = spelled };
      same = same source;
    }

-- pieces in their ranges, the first of them no `#`, are read as their tokens, each on its line
abbrev pub AreLexed : Type 0
AreLexed =
    (pieces : List Piece) → AllInRange pieces → (first_word pieces ≡ Some TokenKind.Hash → ⊥) → (tokens : List Token) × Lexes (finished (with_pieces pieces empty_page)) tokens × Lined false 1 pieces tokens

pub reads_back : AreLexed → (source : Source) → WellFormed source → AreHeld (source_pieces source) → IsTextOf source (printed source)
reads_back lexed source formed held =
    let found = lexed (source_pieces source) (source_range source formed held) (first_no_hash 0 source.body formed.formed) in
    is_text source formed found.0 found.1 found.2

-- a text that may be missing, where there is no memory
pub if_read : {E : Type 0} (source : Source) (result : Result Text E) → IfOk result (λ text. text ≡ printed source) → IsTextOf source (printed source) → IfOk result (IsTextOf source)
if_read source (Ok text) is read = subst (IsTextOf source) (sym is) read
if_read source (Err error) is read = tt
