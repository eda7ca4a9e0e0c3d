-- The printed text of pieces is read as their tokens, each on its line.
use Rattle.std.proofs.Common.{◌≡◌, ◌≢◌, ◌≤◌, ◌<◌, ◌+◌, ◌*◌, ℕ, zero, suc, min, length, replicate, if◌then◌else◌, Bool, true, false, List, [], ◌∷◌, ◌++◌, Option, Some, None, refl, sym, ap, subst, ◌∙◌, arith, append_assoc, add-zero}
use Rattle.lua_num.specs.Bytes.{BeginsWithout}
use Rattle.lua_num.proofs.Numerals.{nonempty_some}
use Rattle.lua_tree.specs.Tiling.{Space, Tok, Tile, Lexes}
use Rattle.lua_tree.specs.declared.token.Token.{Token}
use Rattle.lua_tree.specs.declared.token.TokenKind.{TokenKind}
use Rattle.printer.specs.Layout.{Piece, token, new_line, token_text, has_space, gap, line_start, with_pieces, empty_page, finished}
use Rattle.printer.proofs.Gaps.{joins, free, apart}
use Rattle.printer.proofs.LineCounts.{tiles_text, AreFitting, AreClear, tokens_of, lexes}
use Rattle.printer.proofs.Ranges.{IsInRange, AllInRange, first_word, Lined}
use Rattle.printer.proofs.TokenTexts.{stands, visible, some}

-- ---- the tiles of pieces

abbrev space : ℕ → Tile
space byte = record { piece = Space; text = byte ∷ [] }

abbrev token_tile : TokenKind → Tile
token_tile kind = record { piece = Tok kind; text = token_text kind }

abbrev is_apart : Option TokenKind → TokenKind → Bool
is_apart None next = false
is_apart (Some last) next = has_space last next

abbrev gapped : Bool → List Tile → List Tile
gapped true tiles = space 32 ∷ tiles
gapped false tiles = tiles

abbrev spaces : ℕ → List Tile → List Tile
spaces zero tiles = tiles
spaces (suc n) tiles = space 32 ∷ spaces n tiles

abbrev line_tiles : (started : Bool) → (blocks : ℕ) → List Tile → List Tile
line_tiles true n tiles = space 10 ∷ spaces (2 * n) tiles
line_tiles false n tiles = tiles

abbrev ending : (started : Bool) → List Tile
ending true = space 10 ∷ []
ending false = []

abbrev tiles_of : (started : Bool) → Option TokenKind → List Piece → List Tile
tiles_of started last [] = ending started
tiles_of started last (token kind ∷ pieces) = gapped (is_apart last kind) (token_tile kind ∷ tiles_of true (Some kind) pieces)
tiles_of started last (new_line n ∷ pieces) = line_tiles started n (tiles_of started None pieces)

-- ---- they make the printed text

-- whether anything is printed yet
abbrev IsStarted : Bool → List ℕ → Type 0
IsStarted true text = text ≢ []
IsStarted false text = text ≡ []

join_some : (a b : List ℕ) → b ≢ [] → a ++ b ≢ []
join_some [] b h e = h e
join_some (x ∷ a) b h e = cc

gapped_by : (b : Bool) (tiles : List Tile) → (if b then 32 ∷ [] else []) ++ tiles_text tiles ≡ tiles_text (gapped b tiles)
gapped_by true tiles = refl
gapped_by false tiles = refl

gapped_text : (last : Option TokenKind) (kind : TokenKind) (tiles : List Tile) → gap last kind ++ tiles_text tiles ≡ tiles_text (gapped (is_apart last kind) tiles)
gapped_text None kind tiles = refl
gapped_text (Some last) kind tiles = gapped_by (has_space last kind) tiles

spaces_text : (n : ℕ) (tiles : List Tile) → replicate n 32 ++ tiles_text tiles ≡ tiles_text (spaces n tiles)
spaces_text zero tiles = refl
spaces_text (suc n) tiles = ap (λ t. 32 ∷ t) (spaces_text n tiles)

line_text : (started : Bool) (text : List ℕ) (n : ℕ) (tiles : List Tile) → IsStarted started text → (text ++ line_start text n) ++ tiles_text tiles ≡ text ++ tiles_text (line_tiles started n tiles)
line_text true [] n tiles is = absurd (is refl)
line_text true (byte ∷ text) n tiles is = append_assoc (byte ∷ text) (10 ∷ replicate (2 * n) 32) (tiles_text tiles) ∙ ap (λ t. (byte ∷ text) ++ 10 ∷ t) (spaces_text (2 * n) tiles)
line_text false [] n tiles is = refl
line_text false (byte ∷ text) n tiles is = absurd (cc)

line_started : (started : Bool) (text : List ℕ) (n : ℕ) → IsStarted started text → IsStarted started (text ++ line_start text n)
line_started true [] n is = absurd (is refl)
line_started true (byte ∷ text) n is = λ e. cc
line_started false [] n is = refl
line_started false (byte ∷ text) n is = absurd (cc)

token_joined : (last : Option TokenKind) (kind : TokenKind) (text : List ℕ) (tiles : List Tile) → (text ++ (gap last kind ++ token_text kind)) ++ tiles_text tiles ≡ text ++ tiles_text (gapped (is_apart last kind) (token_tile kind ∷ tiles))
token_joined last kind text tiles =
    append_assoc text (gap last kind ++ token_text kind) (tiles_text tiles)
    ∙ ap (λ t. text ++ t) (append_assoc (gap last kind) (token_text kind) (tiles_text tiles) ∙ gapped_text last kind (token_tile kind ∷ tiles))

ended : (started : Bool) (text : List ℕ) (last : Option TokenKind) → IsStarted started text → finished (record { text = text; last = last }) ≡ text ++ tiles_text (ending started)
ended true [] last is = absurd (is refl)
ended true (byte ∷ text) last is = refl
ended false [] last is = refl
ended false (byte ∷ text) last is = absurd (cc)

page_text : (pieces : List Piece) (started : Bool) (text : List ℕ) (last : Option TokenKind) → IsStarted started text → AllInRange pieces → finished (with_pieces pieces (record { text = text; last = last })) ≡ text ++ tiles_text (tiles_of started last pieces)
page_text [] started text last is ranges = ended started text last is
page_text (token kind ∷ pieces) started text last is ranges =
    page_text pieces true (text ++ (gap last kind ++ token_text kind)) (Some kind) (join_some text (gap last kind ++ token_text kind) (join_some (gap last kind) (token_text kind) (some kind ranges.0))) ranges.1
    ∙ token_joined last kind text (tiles_of true (Some kind) pieces)
page_text (new_line n ∷ pieces) started text last is ranges =
    page_text pieces started (text ++ line_start text n) None (line_started started text n is) ranges.1 ∙ line_text started text n (tiles_of started None pieces) is

-- ---- each fits at its place

follows_by : (b : Bool) (kind next : TokenKind) (tiles : List Tile) → IsInRange next → has_space kind next ≡ b → BeginsWithout (joins kind) (tiles_text (gapped b (token_tile next ∷ tiles)))
follows_by true kind next tiles range e = (free kind).space
follows_by false kind next tiles range e = apart kind next (tiles_text tiles) range e

follows : (kind : TokenKind) (pieces : List Piece) → AllInRange pieces → BeginsWithout (joins kind) (tiles_text (tiles_of true (Some kind) pieces))
follows kind [] ranges = (free kind).line_end
follows kind (token next ∷ pieces) ranges = follows_by (has_space kind next) kind next (tiles_of true (Some next) pieces) ranges.0 refl
follows kind (new_line n ∷ pieces) ranges = (free kind).line_end

-- tiles fit at this place and each later one
abbrev FitFrom : ℕ → List Tile → Type 0
FitFrom at tiles = (place : ℕ) → at ≤ place → AreFitting place tiles

gapped_fit : (b : Bool) (at : ℕ) (tiles : List Tile) → FitFrom at tiles → AreFitting at (gapped b tiles)
gapped_fit true at tiles fit = ((32, refl, refl), fit (at + 1) (omega arith))
gapped_fit false at tiles fit = fit at (omega arith)

spaces_fit : (n at : ℕ) (tiles : List Tile) → FitFrom at tiles → AreFitting at (spaces n tiles)
spaces_fit zero at tiles fit = fit at (omega arith)
spaces_fit (suc n) at tiles fit = ((32, refl, refl), spaces_fit n (at + 1) tiles (λ place later. fit place (omega (arith, later))))

ending_fit : (started : Bool) (at : ℕ) → AreFitting at (ending started)
ending_fit true at = ((10, refl, refl), tt)
ending_fit false at = tt

-- no `#` is the first byte of all
abbrev IsLater : ℕ → List Piece → Type 0
IsLater at pieces = first_word pieces ≡ Some TokenKind.Hash → 1 ≤ at

line_fit : (started : Bool) (n at : ℕ) (tiles : List Tile) → ((place : ℕ) → (1 ≤ place) → AreFitting place tiles) → AreFitting at tiles → AreFitting at (line_tiles started n tiles)
line_fit true n at tiles later here = ((10, refl, refl), spaces_fit (2 * n) (at + 1) tiles (λ place beyond. later place (omega (arith, beyond))))
line_fit false n at tiles later here = here

fitting : (pieces : List Piece) (started : Bool) (last : Option TokenKind) (at : ℕ) → AllInRange pieces → IsLater at pieces → AreFitting at (tiles_of started last pieces)
fitting [] started last at ranges later = ending_fit started at
fitting (token kind ∷ pieces) started last at ranges later =
    gapped_fit (is_apart last kind) at (token_tile kind ∷ tiles_of true (Some kind) pieces) (λ place beyond.
    let long : 0 < length (token_text kind) = nonempty_some (token_text kind) (some kind ranges.0) in (
      stands kind place (tiles_text (tiles_of true (Some kind) pieces)) ranges.0 (λ is. let first : 1 ≤ at = later (ap Some is) in omega (arith, first, beyond)) (follows kind pieces ranges.1),
      fitting pieces true (Some kind) (place + length (token_text kind)) ranges.1 (λ is. omega (arith, long)),
    ))
fitting (new_line n ∷ pieces) started last at ranges later =
    line_fit started n at (tiles_of started None pieces) (λ place some. fitting pieces started None place ranges.1 (λ is. some)) (fitting pieces started None at ranges.1 later)

-- ---- and ends the lines that it should

gapped_clear : (b : Bool) (tiles : List Tile) → AreClear tiles → AreClear (gapped b tiles)
gapped_clear true tiles clear = ((refl, tt), clear)
gapped_clear false tiles clear = clear

spaces_clear : (n : ℕ) (tiles : List Tile) → AreClear tiles → AreClear (spaces n tiles)
spaces_clear zero tiles clear = clear
spaces_clear (suc n) tiles clear = ((refl, tt), spaces_clear n tiles clear)

line_clear : (started : Bool) (n : ℕ) (tiles : List Tile) → AreClear tiles → AreClear (line_tiles started n tiles)
line_clear true n tiles clear = ((refl, tt), spaces_clear (2 * n) tiles clear)
line_clear false n tiles clear = clear

ending_clear : (started : Bool) → AreClear (ending started)
ending_clear true = ((refl, tt), tt)
ending_clear false = tt

clear : (pieces : List Piece) (started : Bool) (last : Option TokenKind) → AllInRange pieces → AreClear (tiles_of started last pieces)
clear [] started last ranges = ending_clear started
clear (token kind ∷ pieces) started last ranges = gapped_clear (is_apart last kind) (token_tile kind ∷ tiles_of true (Some kind) pieces) (visible kind ranges.0, clear pieces true (Some kind) ranges.1)
clear (new_line n ∷ pieces) started last ranges = line_clear started n (tiles_of started None pieces) (clear pieces started None ranges.1)

-- ---- their tokens stand on the lines of the pieces

-- from another place on
record AreMoved (tokens : List Token) (line : ℕ) (tiles : List Tile) : Type 0 where
  at : ℕ
  same : tokens ≡ tokens_of line at tiles

space_moved : (line at : ℕ) (tiles : List Tile) → tokens_of line at (space 32 ∷ tiles) ≡ tokens_of line (at + 1) tiles
space_moved line at tiles = ap (λ n. tokens_of n (at + 1) tiles) (add-zero line)

gapped_moved : (b : Bool) (line at : ℕ) (tiles : List Tile) → AreMoved (tokens_of line at (gapped b tiles)) line tiles
gapped_moved true line at tiles = record { at = at + 1; same = space_moved line at tiles }
gapped_moved false line at tiles = record { at = at; same = refl }

spaces_moved : (n line at : ℕ) (tiles : List Tile) → AreMoved (tokens_of line at (spaces n tiles)) line tiles
spaces_moved zero line at tiles = record { at = at; same = refl }
spaces_moved (suc n) line at tiles = let others : AreMoved (tokens_of line (at + 1) (spaces n tiles)) line tiles = spaces_moved n line (at + 1) tiles in record { at = others.at; same = space_moved line at (spaces n tiles) ∙ others.same }

abbrev HeadLined : ℕ → TokenKind → List Piece → List Token → Type 0
HeadLined line kind pieces tokens = (first : Token) × (others : List Token) × (tokens ≡ first ∷ others) × (first.kind ≡ kind) × (first.line ≡ min line 2147483647) × Lined true line pieces others

token_lined : (last : Option TokenKind) (kind : TokenKind) (pieces : List Piece) (line at : ℕ) → ((at : ℕ) → Lined true line pieces (tokens_of line at (tiles_of true (Some kind) pieces))) → HeadLined line kind pieces (tokens_of line at (gapped (is_apart last kind) (token_tile kind ∷ tiles_of true (Some kind) pieces)))
token_lined last kind pieces line at rest =
    let tiles = tiles_of true (Some kind) pieces in
    let moved : AreMoved (tokens_of line at (gapped (is_apart last kind) (token_tile kind ∷ tiles))) line (token_tile kind ∷ tiles) = gapped_moved (is_apart last kind) line at (token_tile kind ∷ tiles) in
    let first : Token = record { kind = kind; at = moved.at; line = min line 2147483647 } in
    let behind = moved.at + length (token_text kind) in
    (first, tokens_of line behind tiles, moved.same ∙ ap (λ n. first ∷ tokens_of n behind tiles) (add-zero line), refl, refl, rest behind)

lined : (pieces : List Piece) (started : Bool) (last : Option TokenKind) (line at : ℕ) → Lined started line pieces (tokens_of line at (tiles_of started last pieces))
lined [] true last line at = refl
lined [] false last line at = refl
lined (token kind ∷ pieces) true last line at = token_lined last kind pieces line at (λ place. lined pieces true (Some kind) line place)
lined (token kind ∷ pieces) false last line at = token_lined last kind pieces line at (λ place. lined pieces true (Some kind) line place)
lined (new_line n ∷ pieces) true last line at =
    let moved : AreMoved (tokens_of (line + 1) (at + 1) (spaces (2 * n) (tiles_of true None pieces))) (line + 1) (tiles_of true None pieces) = spaces_moved (2 * n) (line + 1) (at + 1) (tiles_of true None pieces) in
    subst (Lined true (line + 1) pieces) (sym moved.same) (lined pieces true None (line + 1) moved.at)
lined (new_line n ∷ pieces) false last line at = lined pieces false None line at

-- pieces in their ranges, the first of them no `#`, are read as their tokens, each on its line
pub lexed : (pieces : List Piece) → AllInRange pieces → (first_word pieces ≡ Some TokenKind.Hash → ⊥) → (tokens : List Token) × Lexes (finished (with_pieces pieces empty_page)) tokens × Lined false 1 pieces tokens
lexed pieces ranges no_hash =
    let tiles = tiles_of false None pieces in
    let text : finished (with_pieces pieces empty_page) ≡ tiles_text tiles = page_text pieces false [] None refl ranges in
    let read : Lexes (tiles_text tiles) (tokens_of 1 0 tiles) = lexes tiles (fitting pieces false None 0 ranges (λ is. absurd (no_hash is))) (clear pieces false None ranges) in
    (tokens_of 1 0 tiles, subst (λ t. Lexes t (tokens_of 1 0 tiles)) (sym text) read, lined pieces false None 1 0)
