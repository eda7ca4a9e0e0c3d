-- Where a piece stands among pieces: its line, and that of the token before it.
use Rattle.std.proofs.Common.{◌≡◌, ℕ, ◌+◌, min, Bool, true, false, List, [], ◌∷◌, ◌++◌, refl, sym, subst, ◌∙◌, append_assoc}
use Rattle.std.specs.Prelude.{if◌then◌else◌}
use Rattle.lua_tree.specs.Spelling.{Kinds}
use Rattle.lua_tree.specs.Spelled.{Phrase, Meant, Part, word, word_on, from_line, to_line, of, parts, Spelled, no_part, by_word, by_word_on, by_next, by_last, by_phrase}
use Rattle.lua_tree.specs.declared.token.Token.{Token}
use Rattle.lua_tree.specs.declared.token.TokenKind.{TokenKind}
use Rattle.printer.specs.Layout.{Piece, token, new_line, tokens}
use Rattle.printer.proofs.Ranges.{Lined}

-- whether a token stands before it, the line, and the line of the last token before it
pub record Spot : Type 0 where
  pub started : Bool
  pub line : ℕ
  pub last : ℕ

-- the line that a token has
abbrev pub capped : ℕ → ℕ
capped line = min line 2147483647

-- behind a token, and on the next line
abbrev pub behind : Spot → Spot
behind spot = record { started = true; line = spot.line; last = capped spot.line }

abbrev pub below : Spot → Spot
below spot = record { started = spot.started; line = (if spot.started then spot.line + 1 else spot.line); last = spot.last }

abbrev pub past_piece : Piece → Spot → Spot
past_piece (token kind) spot = behind spot
past_piece (new_line n) spot = below spot

-- behind pieces
abbrev pub past : List Piece → Spot → Spot
past [] spot = spot
past (piece ∷ pieces) spot = past pieces (past_piece piece spot)

pub past_append : (p q : List Piece) (spot : Spot) → past (p ++ q) spot ≡ past q (past p spot)
past_append [] q spot = refl
past_append (piece ∷ p) q spot = past_append p q (past_piece piece spot)

-- tokens stand on one line
pub past_tokens : (kinds : Kinds) (spot : Spot) → past (tokens kinds) (behind spot) ≡ behind spot
past_tokens [] spot = refl
past_tokens (kind ∷ kinds) spot = past_tokens kinds spot

-- the line of the first token
abbrev pub next_line : List Piece → Spot → ℕ
next_line [] spot = 0
next_line (token kind ∷ pieces) spot = capped spot.line
next_line (new_line n ∷ pieces) spot = next_line pieces (below spot)

abbrev pub HasToken : List Piece → Type 0
HasToken [] = ⊥
HasToken (token kind ∷ pieces) = Unit {0}
HasToken (new_line n ∷ pieces) = HasToken pieces

pub has_before : (p q : List Piece) → HasToken p → HasToken (p ++ q)
has_before [] q has = absurd has
has_before (token kind ∷ p) q has = tt
has_before (new_line n ∷ p) q has = has_before p q has

pub has_behind : (p q : List Piece) → HasToken q → HasToken (p ++ q)
has_behind [] q has = has
has_behind (token kind ∷ p) q has = tt
has_behind (new_line n ∷ p) q has = has_behind p q has

pub next_line_append : (p q : List Piece) (spot : Spot) → HasToken p → next_line (p ++ q) spot ≡ next_line p spot
next_line_append [] q spot has = absurd has
next_line_append (token kind ∷ p) q spot has = refl
next_line_append (new_line n ∷ p) q spot has = next_line_append p q (below spot) has

-- ---- tokens of pieces spell parts

-- tokens that begin with those of pieces begin with what spells parts
pub record Rest (those : List Part) (spot : Spot) (pieces rest : List Piece) (all : List Token) : Type 0 where
  pub left : List Token
  pub spelled : Spelled those spot.last all (past pieces spot).last left
  pub lined : Lined (past pieces spot).started (past pieces spot).line rest left

pub record Reads (those : List Part) (spot : Spot) (pieces : List Piece) : Type 0 where
  pub reads : (rest : List Piece) (all : List Token) → Lined spot.started spot.line (pieces ++ rest) all → Rest those spot pieces rest all

pub reads_as : {those : List Part} {spot : Spot} {p q : List Piece} → p ≡ q → Reads those spot p → Reads those spot q
reads_as {those} {spot} e r = subst (λ pieces. Reads those spot pieces) e r

pub moved : {those : List Part} {a b : Spot} {pieces : List Piece} → a ≡ b → Reads those a pieces → Reads those b pieces
moved {those} {pieces} e r = subst (λ spot. Reads those spot pieces) e r

pub nothing : {spot : Spot} → Reads [] spot []
nothing = record { reads = λ rest all lined. record { left = all; spelled = no_part; lined = lined } }

pub a_word : {those : List Part} {spot : Spot} {kind : TokenKind} {pieces : List Piece} → Reads those (behind spot) pieces → Reads (word kind ∷ those) spot (token kind ∷ pieces)
a_word {those} {spot} {kind} {pieces} r = record {
  reads = λ rest all lined.
      let after = r.reads rest lined.1 lined.5 in
      let spelled = by_word lined.3 (subst (λ line. Spelled those line lined.1 (past pieces (behind spot)).last after.left) (sym lined.4) after.spelled) in
      record {
        left = after.left;
        spelled = subst (λ found. Spelled (word kind ∷ those) spot.last found (past pieces (behind spot)).last after.left) (sym lined.2) spelled;
        lined = after.lined;
      };
}

pub a_word_at : {those : List Part} {spot : Spot} {kind : TokenKind} {pieces : List Piece} (line : ℕ) → line ≡ capped spot.line → Reads those (behind spot) pieces → Reads (word_on line kind ∷ those) spot (token kind ∷ pieces)
a_word_at {those} {spot} {kind} {pieces} on is r = record {
  reads = λ rest all lined.
      let after = r.reads rest lined.1 lined.5 in
      let spelled = by_word_on lined.3 (lined.4 ∙ sym is) (subst (λ line. Spelled those line lined.1 (past pieces (behind spot)).last after.left) (sym lined.4) after.spelled) in
      record {
        left = after.left;
        spelled = subst (λ found. Spelled (word_on on kind ∷ those) spot.last found (past pieces (behind spot)).last after.left) (sym lined.2) spelled;
        lined = after.lined;
      };
}

pub a_word_on : {those : List Part} {spot : Spot} {kind : TokenKind} {pieces : List Piece} → Reads those (behind spot) pieces → Reads (word_on (capped spot.line) kind ∷ those) spot (token kind ∷ pieces)
a_word_on r = a_word_at _ refl r

lined_below : (started : Bool) (line n : ℕ) (pieces : List Piece) (all : List Token) → Lined started line (new_line n ∷ pieces) all → Lined started (if started then line + 1 else line) pieces all
lined_below true line n pieces all lined = lined
lined_below false line n pieces all lined = lined

pub a_line : {those : List Part} {spot : Spot} {n : ℕ} {pieces : List Piece} → Reads those (below spot) pieces → Reads those spot (new_line n ∷ pieces)
a_line {those} {spot} {n} {pieces} r = record {
  reads = λ rest all lined.
      let after = r.reads rest all (lined_below spot.started spot.line n (pieces ++ rest) all lined) in
      record { left = after.left; spelled = after.spelled; lined = after.lined };
}

pub to_here : {those : List Part} {spot : Spot} {pieces : List Piece} → Reads those spot pieces → Reads (to_line spot.last ∷ those) spot pieces
to_here r = record {
  reads = λ rest all lined. let after = r.reads rest all lined in record { left = after.left; spelled = by_last refl after.spelled; lined = after.lined };
}

-- the first token of pieces stands on the next line
next_spelled : {those : List Part} {before last : ℕ} {all left : List Token} (spot : Spot) (pieces rest : List Piece) → HasToken pieces → Lined spot.started spot.line (pieces ++ rest) all → Spelled those before all last left →
    Spelled (from_line (next_line pieces spot) ∷ those) before all last left
next_spelled spot [] rest has lined spelled = absurd has
next_spelled {those} {before} {last} {left} spot (token kind ∷ pieces) rest has lined spelled =
    subst (λ found. Spelled (from_line (capped spot.line) ∷ those) before found last left) (sym lined.2) (by_next lined.4 (subst (λ found. Spelled those before found last left) lined.2 spelled))
next_spelled {all} spot (new_line n ∷ pieces) rest has lined spelled = next_spelled (below spot) pieces rest has (lined_below spot.started spot.line n (pieces ++ rest) all lined) spelled

pub from_here : {those : List Part} {spot : Spot} (pieces : List Piece) → HasToken pieces → Reads those spot pieces → Reads (from_line (next_line pieces spot) ∷ those) spot pieces
from_here {spot} pieces has r = record {
  reads = λ rest all lined. let after = r.reads rest all lined in record { left = after.left; spelled = next_spelled spot pieces rest has lined after.spelled; lined = after.lined };
}

-- where the first of two parts has a token
pub from_first : {those : List Part} {spot : Spot} (p q : List Piece) → HasToken p → Reads those spot (p ++ q) → Reads (from_line (next_line p spot) ∷ those) spot (p ++ q)
from_first {those} {spot} p q has r = subst (λ line. Reads (from_line line ∷ those) spot (p ++ q)) (next_line_append p q spot has) (from_here (p ++ q) (has_before p q has) r)

pub a_phrase : {others : List Part} {spot : Spot} {p q : List Piece} (phrase : Phrase) (meant : Meant phrase) → Reads (parts phrase meant) spot p → Reads others (past p spot) q → Reads (of phrase meant ∷ others) spot (p ++ q)
a_phrase {others} {spot} {p} {q} phrase meant r s = record {
  reads = λ rest all lined.
      let one = r.reads (q ++ rest) all (subst (λ pieces. Lined spot.started spot.line pieces all) (append_assoc p q rest) lined) in
      let two = s.reads rest one.left one.lined in
      record {
        left = two.left;
        spelled = subst (λ end. Spelled (of phrase meant ∷ others) spot.last all end.last two.left) (sym (past_append p q spot)) (by_phrase one.spelled two.spelled);
        lined = subst (λ end. Lined end.started end.line rest two.left) (sym (past_append p q spot)) two.lined;
      };
}

pub last_phrase : {spot : Spot} {pieces : List Piece} (phrase : Phrase) (meant : Meant phrase) → Reads (parts phrase meant) spot pieces → Reads (of phrase meant ∷ []) spot pieces
last_phrase phrase meant r = record {
  reads = λ rest all lined. let after = r.reads rest all lined in record { left = after.left; spelled = by_phrase after.spelled no_part; lined = after.lined };
}

-- a phrase of tokens alone, which leaves the line as it is
pub a_token_phrase : {others : List Part} {q : List Piece} (spot : Spot) (kinds : Kinds) (phrase : Phrase) (meant : Meant phrase) →
    Reads (parts phrase meant) (behind spot) (tokens kinds) → Reads others (behind spot) q → Reads (of phrase meant ∷ others) (behind spot) (tokens kinds ++ q)
a_token_phrase spot kinds phrase meant r s = a_phrase phrase meant r (moved (sym (past_tokens kinds spot)) s)
