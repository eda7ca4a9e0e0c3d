-- Steps of the proofs that an answer is spelled and well formed.
use Rattle.std.proofs.Common.{◌≡◌, ℕ, ◌+◌, ◌<◌, ◌≤◌, ◌==◌, Bool, true, false, List, [], ◌∷◌, Option, Some, None, refl, sym, ◌∙◌, ap, subst, nat_le, nat_lt, arith, if◌then◌else◌}
use Rattle.std.proofs.lemmas.Bool.Decides.{nat_tests}
use Rattle.lua_tree.specs.Spelled.{Part, word, word_on, from_line, Spelled, no_part, by_word, by_word_on, by_next, by_last, by_phrase}
use Rattle.lua_num.specs.Bytes.{Text}
use Rattle.lua_tree.specs.Names.{is_name}
use Rattle.lua_tree.specs.declared.token.Token.{Token}
use Rattle.lua_tree.specs.declared.token.TokenKind.{TokenKind}
use Rattle.parser.specs.Classes.{name_of}
use Rattle.parser.specs.Runs.{kind_of, line_of}
use Rattle.parser.proofs.Posts.{Behind}

-- one part, and the others behind it
pub behind : {part : Part} {others : List Part} {line between last : ℕ} {tokens middle rest : List Token} →
    Spelled (part ∷ []) line tokens between middle → Spelled others between middle last rest → Spelled (part ∷ others) line tokens last rest
behind (by_word k no_part) s = by_word k s
behind (by_word_on k l no_part) s = by_word_on k l s
behind (by_next l no_part) s = by_next l s
behind (by_last l no_part) s = by_last l s
behind (by_phrase p no_part) s = by_phrase p s

-- two parts, and the others behind them
pub behind_two : {part next : Part} {others : List Part} {line between last : ℕ} {tokens middle rest : List Token} →
    Spelled (part ∷ next ∷ []) line tokens between middle → Spelled others between middle last rest → Spelled (part ∷ next ∷ others) line tokens last rest
behind_two (by_word k p) s = by_word k (behind p s)
behind_two (by_word_on k l p) s = by_word_on k l (behind p s)
behind_two (by_next l p) s = by_next l (behind p s)
behind_two (by_last l p) s = by_last l (behind p s)
behind_two (by_phrase q p) s = by_phrase q (behind p s)

some_kind : (a b : TokenKind) → Some a ≡ Some b → a ≡ b
some_kind a b h = cc

-- the token that was taken, of a kind
pub taken : {tokens middle : List Token} {between : ℕ} (before : ℕ) (kind : TokenKind) → Behind tokens between middle → kind_of tokens ≡ Some kind → Spelled (word kind ∷ []) before tokens between middle
taken {tokens} {middle} {between} before kind b k =
    let is : b.token.kind ≡ kind = some_kind b.token.kind kind (ap kind_of (sym b.first) ∙ k) in
    subst (λ x. Spelled (word kind ∷ []) before x between middle) (sym b.first)
    (subst (λ x. Spelled (word kind ∷ []) before (b.token ∷ middle) x middle) b.line (by_word is no_part))

-- and on a line
pub taken_on : {tokens middle : List Token} {between : ℕ} (before : ℕ) (kind : TokenKind) → Behind tokens between middle → kind_of tokens ≡ Some kind → Spelled (word_on (line_of tokens) kind ∷ []) before tokens between middle
taken_on {tokens} {middle} {between} before kind b k =
    let is : b.token.kind ≡ kind = some_kind b.token.kind kind (ap kind_of (sym b.first) ∙ k) in
    subst (λ x. Spelled (word_on (line_of x) kind ∷ []) before x between middle) (sym b.first)
    (subst (λ x. Spelled (word_on b.token.line kind ∷ []) before (b.token ∷ middle) x middle) b.line (by_word_on is refl no_part))

-- a token is on the line on which it ends
pub word_at_line : {kind : TokenKind} {line last : ℕ} {tokens rest : List Token} → Spelled (word kind ∷ []) line tokens last rest → Spelled (word_on last kind ∷ []) line tokens last rest
word_at_line (by_word k no_part) = by_word_on k refl no_part

-- and on that of the first token
pub word_at_start : {kind : TokenKind} {line last on : ℕ} {tokens rest : List Token} → line_of tokens ≡ on → Spelled (word kind ∷ []) line tokens last rest → Spelled (word_on on kind ∷ []) line tokens last rest
word_at_start l (by_word k no_part) = by_word_on k l no_part

pub word_off_line : {kind : TokenKind} {on line last : ℕ} {tokens rest : List Token} → Spelled (word_on on kind ∷ []) line tokens last rest → Spelled (word kind ∷ []) line tokens last rest
word_off_line (by_word_on k l no_part) = by_word k no_part

-- parts that begin on the line of the next token
pub from_next : {phrase : List Part} {line last : ℕ} (tokens : List Token) {rest : List Token} (on : ℕ) →
    line_of tokens ≡ on → (kind_of tokens ≡ None → ⊥) → Spelled phrase line tokens last rest → Spelled (from_line on ∷ phrase) line tokens last rest
from_next [] on l n s = absurd (n refl)
from_next (token ∷ tokens) on l n s = by_next l s

pub some_not_none : (kind : Option TokenKind) (k : TokenKind) → kind ≡ Some k → kind ≡ None → ⊥
some_not_none kind k a b = let q : Some k ≡ None = sym a ∙ b in cc

-- the tokens of no parts
pub none_left : {line last : ℕ} {tokens rest : List Token} → Spelled [] line tokens last rest → tokens ≡ rest
none_left no_part = refl

pub at_most : (a b : ℕ) → a ≤ b → nat_le a b ≡ true
at_most a b h = grind (arith, nat_tests)

pub below : (a b : ℕ) → nat_lt a b ≡ true → a < b
below a b h = grind (arith, nat_tests)

pub not_below : (a b : ℕ) → nat_lt a b ≡ false → b ≤ a
not_below a b h = grind (arith, nat_tests)

pub same_line : (a b : ℕ) → a == b ≡ true → b == a ≡ true
same_line a b h = grind (arith, nat_tests)

pub without_more : (d a m : ℕ) → d + a ≤ m → d + 0 ≤ m
without_more d a m h = omega arith

-- a token that is a name
pub record IsName (kind : Option TokenKind) (name : Text) : Type 0 where
  pub is : kind ≡ Some (TokenKind.Name name)
  pub formed : is_name name ≡ true

some_text : (a b : Text) → Some a ≡ Some b → a ≡ b
some_text a b h = cc

named_kind : (text name : Text) (b : Bool) → is_name text ≡ b → (if b then Some text else None) ≡ Some name → IsName (Some (TokenKind.Name text)) name
named_kind text name true i h =
    let same : text ≡ name = some_text text name h in
    record { is = ap (λ x. Some (TokenKind.Name x)) same; formed = subst (λ x. is_name x ≡ true) same i }
named_kind text name false i h = cc

pub name_kind : (kind : Option TokenKind) (name : Text) → name_of kind ≡ Some name → IsName kind name
name_kind (Some (TokenKind.Name text)) name h = named_kind text name (is_name text) refl h
name_kind kind name h = cc
