-- The answers of the goals of expressions with operators.
use Rattle.std.proofs.Common.{◌≡◌, ℕ, ◌+◌, ◌<◌, ◌≤◌, Bool, true, false, List, [], ◌∷◌, Option, Some, None, refl, sym, ◌∙◌, subst, nat_lt, arith, if◌then◌else◌, pos}
use Rattle.lua_tree.specs.Syntax.{Expression, nil_literal, true_literal, false_literal, vararg_expression, number_literal, text_literal, name_expression, function_expression, index_expression, field_expression, call_expression, method_call, and_expression, or_expression, binary_expression, unary_expression, constructor, parenthesized}
use Rattle.lua_tree.specs.Spelled.{word_on, Spelled, no_part, by_phrase, expression_parts}
use Rattle.lua_tree.specs.Precedence.{level_of}
use Rattle.lua_tree.specs.WellFormed.{takes_arguments, formed_expression, depth_of_expression}
use Rattle.lua_tree.specs.declared.token.Token.{Token}
use Rattle.lua_tree.specs.declared.token.TokenKind.{TokenKind}
use Rattle.lua_tree.specs.declared.tree.UnaryOp.{UnaryOp}
use Rattle.lua_tree.specs.Spelling.{spell_unary}
use Rattle.parser.specs.Classes.{literal_of}
use Rattle.parser.specs.Operators.{Infix, infix_of, unary_of, left_power, right_power, infix_expression}
use Rattle.parser.specs.Program.{whole, climb, simple, function_value, table_of, whole_on, climb_on, simple_on, give, skip, call, become}
use Rattle.parser.specs.Runs.{kind_of, line_of}
use Rattle.parser.proofs.Small.{both, not_both, two_fit_below, infix_depth}
use Rattle.parser.proofs.Posts.{PrefixRead, simple_shape, unary_shape, infix_shape, WholeRead, ClimbSoFar, SimpleRead, Post, Behind, Holds, Good}
use Rattle.parser.proofs.SoundSteps.{behind, taken_on, from_next, word_off_line, some_not_none, below, not_below}
use Rattle.parser.proofs.SoundPowers.{right_operand, unary_operand, left_simple, left_unary, left_infix, infix_level, infix_takes, infix_formed, infix_word, infix_kind, unary_kind, prefix_level}

-- an expression has a token
some_token : (e : Expression) {line last : ℕ} (tokens : List Token) {rest : List Token} → Spelled (expression_parts e) line tokens last rest → kind_of tokens ≡ None → ⊥
some_token e (token ∷ tokens) s h = cc
some_token (index_expression l on key) [] (by_phrase a b) h = some_token on [] a h
some_token (field_expression l on name) [] (by_phrase a b) h = some_token on [] a h
some_token (call_expression l on args m) [] (by_phrase a b) h = some_token on [] a h
some_token (method_call l on name args m) [] (by_phrase a b) h = some_token on [] a h
some_token (binary_expression l op left right) [] (by_phrase a b) h = some_token left [] a h
some_token (nil_literal line) [] s h = elim s [ ]
some_token (true_literal line) [] s h = elim s [ ]
some_token (false_literal line) [] s h = elim s [ ]
some_token (vararg_expression line) [] s h = elim s [ ]
some_token (number_literal line n) [] s h = elim s [ ]
some_token (text_literal line text) [] s h = elim s [ ]
some_token (name_expression line name) [] s h = elim s [ ]
some_token (function_expression line b) [] s h = elim s [ ]
some_token (and_expression line left right) [] s h = elim s [ ]
some_token (or_expression line left right) [] s h = elim s [ ]
some_token (unary_expression line op right) [] s h = elim s [ ]
some_token (constructor line items) [] s h = elim s [ ]
some_token (parenthesized line e) [] s h = elim s [ ]

-- an expression with no operator on top begins a climb
pub simple_begins : {most depth before last : ℕ} {tokens rest : List Token} {e : Expression} (limit : ℕ) → SimpleRead most depth before tokens e last rest → ClimbSoFar most depth limit before tokens e last rest
simple_begins {e} limit s = record { tree = s.tree; shape = simple_shape s.level; binds = λ op i. left_simple op e s.level }

-- one with a unary operator
unary_begins : {most depth before between last : ℕ} {tokens middle rest : List Token} {e : Expression} (limit : ℕ) (op : UnaryOp) →
    unary_of (kind_of tokens) ≡ Some op → Behind tokens between middle → WholeRead most (depth + 1) 8 between middle e last rest →
    ClimbSoFar most depth limit before tokens (unary_expression (line_of tokens) op e) last rest
unary_begins {most} {depth} {before} {tokens} {e} limit op i b r = record {
  tree = record {
    spelled = behind (taken_on before (spell_unary op) b (unary_kind (kind_of tokens) op i)) (by_phrase r.tree.spelled no_part);
    formed = both (unary_operand e r.shape) r.tree.formed;
    shallow = let s = r.tree.shallow in omega arith;
    closed = r.tree.closed;
  };
  shape = unary_shape refl refl;
  binds = λ other j. left_unary other (unary_expression (line_of tokens) op e) refl (r.ends other j);
}

pub good_whole : (most depth limit : ℕ) → Good most (whole depth limit)
good_whole most depth limit before tokens = go (unary_of (kind_of tokens)) refl
  where
    go : (op : Option UnaryOp) → unary_of (kind_of tokens) ≡ op → Holds most (whole_on depth limit (line_of tokens) op) before tokens (Post most (whole depth limit) before tokens)
    go (Some op) i = λ between middle b d e last rest r more last' rest' climbed. climbed before tokens refl (unary_begins limit op i b r)
    go None i = λ e last rest s more last' rest' climbed. climbed before tokens refl (simple_begins limit s)

-- operators behind an operand: the tokens of the whole
infix_spelled : (op : Infix) (start line behind_line : ℕ) (front : List Token) {a b c : ℕ} {tokens middle rest : List Token} (left right : Expression) →
    line_of front ≡ start → Spelled (expression_parts left) behind_line front a tokens → Spelled (word_on line (infix_word op) ∷ []) a tokens b middle → Spelled (expression_parts right) b middle c rest →
    Spelled (expression_parts (infix_expression start line op left right)) behind_line front c rest
infix_spelled Infix.And start line behind_line front left right l s o t = from_next front start l (some_token left front s) (by_phrase s (behind (word_off_line o) (by_phrase t no_part)))
infix_spelled Infix.Or start line behind_line front left right l s o t = from_next front start l (some_token left front s) (by_phrase s (behind (word_off_line o) (by_phrase t no_part)))
infix_spelled (Infix.Binary op) start line behind_line front left right l s o t = by_phrase s (behind o (by_phrase t no_part))

infix_begins : {most depth limit before between last line : ℕ} {tokens front middle rest : List Token} {left right : Expression} (start : ℕ) (op : Infix) →
    infix_of (kind_of tokens) ≡ Some op → limit < left_power op → Behind tokens between middle → depth + 1 + depth_of_expression left ≤ most → line_of front ≡ start →
    WholeRead most (depth + 1) (right_power op) between middle right last rest → ClimbSoFar most depth limit line front left before tokens →
    ClimbSoFar most depth limit line front (infix_expression start (line_of tokens) op left right) last rest
infix_begins {most} {depth} {limit} {before} {line} {tokens} {front} {left} {right} start op i h b d l r c =
    let on : ℕ = line_of tokens in
    let level = infix_level op start on left right in
    record {
      tree = record {
        spelled = infix_spelled op start on line front left right l c.tree.spelled (taken_on before (infix_word op) b (infix_kind (kind_of tokens) op i)) r.tree.spelled;
        formed = infix_formed op start on left right (c.binds op i) (right_operand op right r.shape) c.tree.formed r.tree.formed;
        shallow = subst (λ x. depth + x ≤ most) (sym (infix_depth op start on left right)) (two_fit_below depth (depth_of_expression left) (depth_of_expression right) most d r.tree.shallow);
        closed = λ t. r.tree.closed (sym (infix_takes op start on left right) ∙ t);
      };
      shape = infix_shape op h level;
      binds = λ other j. left_infix other op (infix_expression start on op left right) level (r.ends other j);
    }

no_infix : (kind : Option TokenKind) (op : Infix) → infix_of kind ≡ None → infix_of kind ≡ Some op → ⊥
no_infix kind op h i = let q : None ≡ Some op = sym h ∙ i in cc

pub good_climb : (most depth limit start : ℕ) (left : Expression) → Good most (climb depth limit start left)
good_climb most depth limit start left before tokens = go (infix_of (kind_of tokens)) refl
  where
    take : (op : Infix) → infix_of (kind_of tokens) ≡ Some op → (b : Bool) → nat_lt limit (left_power op) ≡ b →
        Holds most (if b
        then skip (depth + 1 + depth_of_expression left) (call (whole (depth + 1) (right_power op)) (λ right. become (climb depth limit start (infix_expression start (line_of tokens) op left right))))
        else give left) before tokens (Post most (climb depth limit start left) before tokens)
    take op i true j = λ between middle b d right last rest r more last' rest' climbed line front l c. climbed line front l (infix_begins start op i (below limit (left_power op) j) b d l r c)
    take op i false j = λ line front l c. record {
      tree = c.tree;
      shape = c.shape;
      ends = λ other k.
          let same : op ≡ other = let q : Some op ≡ Some other = sym i ∙ k in cc in
          subst (λ x. left_power x ≤ limit) same (not_below limit (left_power op) j);
    }

    go : (op : Option Infix) → infix_of (kind_of tokens) ≡ op → Holds most (climb_on depth limit start left (line_of tokens) op) before tokens (Post most (climb depth limit start left) before tokens)
    go None i = λ line front l c. record { tree = c.tree; shape = c.shape; ends = λ op j. absurd (no_infix (kind_of tokens) op i j) }
    go (Some op) i = take op i (nat_lt limit (left_power op)) refl

-- an expression that is one token
record Literal (line : ℕ) (kind : Option TokenKind) (e : Expression) : Type 0 where
  token : TokenKind
  is : kind ≡ Some token
  spelling : expression_parts e ≡ word_on line token ∷ []
  formed : formed_expression e ≡ true
  level : level_of e ≡ 9
  takes : takes_arguments e ≡ false
  depth : depth_of_expression e ≡ 1

same_literal : (line : ℕ) (kind : Option TokenKind) (e f : Expression) → Some e ≡ Some f → Literal line kind e → Literal line kind f
same_literal line kind e f h l = let same : e ≡ f = cc in subst (λ x. Literal line kind x) same l

literal : (line : ℕ) (kind : Option TokenKind) (e : Expression) → literal_of line kind ≡ Some e → Literal line kind e
literal line (Some TokenKind.Nil) e h = same_literal line (Some TokenKind.Nil) (nil_literal line) e h (record { token = TokenKind.Nil; is = refl; spelling = refl; formed = refl; level = refl; takes = refl; depth = refl })
literal line (Some TokenKind.True) e h = same_literal line (Some TokenKind.True) (true_literal line) e h (record { token = TokenKind.True; is = refl; spelling = refl; formed = refl; level = refl; takes = refl; depth = refl })
literal line (Some TokenKind.False) e h = same_literal line (Some TokenKind.False) (false_literal line) e h (record { token = TokenKind.False; is = refl; spelling = refl; formed = refl; level = refl; takes = refl; depth = refl })
literal line (Some TokenKind.DotDotDot) e h = same_literal line (Some TokenKind.DotDotDot) (vararg_expression line) e h (record { token = TokenKind.DotDotDot; is = refl; spelling = refl; formed = refl; level = refl; takes = refl; depth = refl })
literal line (Some (TokenKind.Number (pos n))) e h = same_literal line (Some (TokenKind.Number (pos n))) (number_literal line (pos n)) e h (record { token = TokenKind.Number (pos n); is = refl; spelling = refl; formed = refl; level = refl; takes = refl; depth = refl })
literal line (Some (TokenKind.Text text)) e h = same_literal line (Some (TokenKind.Text text)) (text_literal line text) e h (record { token = TokenKind.Text text; is = refl; spelling = refl; formed = refl; level = refl; takes = refl; depth = refl })
literal line kind e h = cc

-- a prefix expression has no operator on top
pub prefix_simple : {most depth before last : ℕ} {tokens rest : List Token} {e : Expression} → PrefixRead most depth before tokens e last rest → SimpleRead most depth before tokens e last rest
prefix_simple {e} p =
    let c = p.so_far in
    record {
      tree = record { spelled = c.spelled; formed = c.formed; shallow = c.shallow; closed = λ t. p.missing };
      level = prefix_level e c.prefix;
    }

pub good_simple : (most depth : ℕ) → Good most (simple depth)
good_simple most depth before tokens = go (literal_of (line_of tokens) (kind_of tokens)) refl
  where
    go : (e : Option Expression) → literal_of (line_of tokens) (kind_of tokens) ≡ e → Holds most (simple_on depth e) before tokens (Post most (simple depth) before tokens)
    go (Some e) i = λ between middle b d.
        let l = literal (line_of tokens) (kind_of tokens) e i in
        let deep : depth_of_expression e ≡ 1 = l.depth in
        record {
          tree = record {
            spelled = subst (λ x. Spelled x before tokens between middle) (sym l.spelling) (taken_on before l.token b l.is);
            formed = l.formed;
            shallow = subst (λ x. depth + x ≤ most) (sym deep) d;
            closed = λ t. absurd (not_both t l.takes);
          };
          level = l.level;
        }
    go None i = (
      λ k e last rest s. s k,
      λ n. (
        λ k e last rest s. s k,
        λ m e last rest p. prefix_simple p,
      ),
    )

pub good_function_value : (most depth : ℕ) → Good most (function_value depth)
good_function_value most depth before tokens between middle b d made last rest r k =
    let f = r d in
    record {
      tree = record {
        spelled = from_next tokens (line_of tokens) refl (some_not_none (kind_of tokens) TokenKind.Function k)
            (behind (subst (λ x. Spelled (word_on x TokenKind.Function ∷ []) before tokens between middle) (sym f.first_line) (taken_on before TokenKind.Function b k)) (by_phrase f.spelled no_part));
        formed = f.formed;
        shallow = let s = f.shallow in omega arith;
        closed = λ t. absurd (not_both t refl);
      };
      level = refl;
    }

pub good_table_of : (most depth : ℕ) → Good most (table_of depth)
good_table_of most depth before tokens between middle b d items last rest f last' rest' w k =
    let g = f d in
    record {
      tree = record {
        spelled = behind (taken_on before TokenKind.OpenBrace b k) (by_phrase g.spelled w);
        formed = g.formed;
        shallow = let s = g.shallow in omega arith;
        closed = λ t. absurd (not_both t refl);
      };
      level = refl;
    }
