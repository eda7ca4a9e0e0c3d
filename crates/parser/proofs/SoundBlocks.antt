-- The answers of the goals of blocks.
use Rattle.std.proofs.Common.{◌≡◌, ◌&&◌, ℕ, ◌+◌, ◌≤◌, Bool, true, false, not, List, [], ◌∷◌, Option, Some, None, refl, sym, ◌∙◌, ap, subst, max, arith, if◌then◌else◌}
use Rattle.lua_tree.specs.Syntax.{Statements, no_statements, statement, Statement, assignment, call_statement, no_expressions, expression, Expression, index_expression, field_expression, call_expression, method_call, parenthesized}
use Rattle.lua_tree.specs.Spelled.{block_phrase, semicolon_parts, expression_parts, statement_parts, block_parts, Spelled, no_part, by_word_on, by_next, by_phrase}
use Rattle.lua_tree.specs.WellFormed.{begins_with_paren, statement_begins_with_paren, statement_takes_arguments, ends_block, may_follow, depth_of_statement, depth_of_statements}
use Rattle.lua_tree.specs.declared.token.Token.{Token}
use Rattle.lua_tree.specs.declared.token.TokenKind.{TokenKind}
use Rattle.parser.specs.Classes.{Suffix, suffix_of, is_block_end}
use Rattle.parser.specs.Program.{main_chunk, block, semicolon, one_statement, main_on, give, call}
use Rattle.parser.specs.Runs.{kind_of, line_of}
use Rattle.parser.proofs.Small.{both, with_none}
use Rattle.parser.proofs.Posts.{StatementRead, BlockRead, Post, Holds, Good}
use Rattle.parser.proofs.SoundSteps.{taken, from_next, none_left}

-- the first token of what begins with a parenthesis
paren_first : (e : Expression) {line last : ℕ} {tokens rest : List Token} → begins_with_paren e ≡ true → Spelled (expression_parts e) line tokens last rest → kind_of tokens ≡ Some TokenKind.OpenParen
paren_first (parenthesized l e) h (by_word_on k m s) = ap Some k
paren_first (index_expression l on key) h (by_phrase a b) = paren_first on h a
paren_first (field_expression l on name) h (by_phrase a b) = paren_first on h a
paren_first (call_expression l on args m) h (by_phrase a b) = paren_first on h a
paren_first (method_call l on name args m) h (by_phrase a b) = paren_first on h a
paren_first e h s = cc

statement_paren : (s : Statement) {line last : ℕ} {tokens rest : List Token} → statement_begins_with_paren s ≡ true → Spelled (statement_parts s) line tokens last rest → kind_of tokens ≡ Some TokenKind.OpenParen
statement_paren (assignment no_expressions es) h s = cc
statement_paren (assignment (expression e targets) es) h (by_phrase (by_phrase a b) c) = paren_first e h a
statement_paren (call_statement e) h (by_phrase a b) = paren_first e h a
statement_paren t h s = cc

-- no parenthesis follows what has ended
no_paren : {line last : ℕ} {tokens rest : List Token} (takes : Bool) (next : Statement) → (takes ≡ true → suffix_of (kind_of tokens) ≡ Suffix.Missing) → Spelled (statement_parts next) line tokens last rest →
    not (takes && statement_begins_with_paren next) ≡ true
no_paren false next c s = refl
no_paren {tokens} true next c s = go (statement_begins_with_paren next) refl
  where
    go : (b : Bool) → statement_begins_with_paren next ≡ b → not (true && b) ≡ true
    go false i = refl
    go true i = let q : Suffix.Call ≡ Suffix.Missing = ap suffix_of (sym (statement_paren next i s)) ∙ c refl in cc

-- what was read may follow a statement
follows : {most depth before last between end : ℕ} {tokens rest middle left : List Token} (s : Statement) (semi : Bool) (more : Statements) →
    ends_block s ≡ false → StatementRead most depth before tokens s last rest → Spelled (semicolon_parts semi) last rest between middle → Spelled (block_parts more) between middle end left →
    may_follow s semi more ≡ true
follows s semi no_statements e r c m = refl
follows s true (statement line next_semi next others) e r c m = both (ap not e) refl
follows s false (statement line next_semi next others) e r c (by_next l (by_phrase a b)) =
    both (ap not e) (no_paren (statement_takes_arguments s) next (λ t. subst (λ x. suffix_of (kind_of x) ≡ Suffix.Missing) (none_left c) (r.closed t)) a)

not_end : (kind : Option TokenKind) → is_block_end kind ≡ false → kind ≡ None → ⊥
not_end kind h i = let q : true ≡ false = ap is_block_end (sym i) ∙ h in cc

block_deep : (d a b m : ℕ) → d + 1 + a ≤ m → d + b ≤ m → d + max (1 + a) b ≤ m
block_deep d a b m h i = omega arith

pub good_block : (most depth : ℕ) → Good most (block depth)
good_block most depth before tokens = go (is_block_end (kind_of tokens)) refl
  where
    next : is_block_end (kind_of tokens) ≡ false → (s : Statement) (last : ℕ) (rest : List Token) → StatementRead most (depth + 1) before tokens s last rest →
        (semi : Bool) (last1 : ℕ) (rest1 : List Token) → Spelled (semicolon_parts semi) last rest last1 rest1 → (t : Bool) → ends_block s ≡ t →
        Holds most {answer = block_phrase} (if t
        then give (statement (line_of tokens) semi s no_statements)
        else call (block depth) (λ more. give (statement (line_of tokens) semi s more))) last1 rest1 (Post most (block depth) before tokens)
    next n s last rest r semi last1 rest1 c true i = λ h. record {
      spelled = from_next tokens (line_of tokens) refl (not_end (kind_of tokens) n) (by_phrase r.spelled (by_phrase c (by_phrase no_part no_part)));
      formed = both r.formed refl;
      shallow = block_deep depth (depth_of_statement s) 0 most r.shallow (with_none depth most h);
    }
    next n s last rest r semi last1 rest1 c false i = λ more last2 rest2 m h.
        let l = m h in
        record {
          spelled = from_next tokens (line_of tokens) refl (not_end (kind_of tokens) n) (by_phrase r.spelled (by_phrase c (by_phrase l.spelled no_part)));
          formed = both r.formed (both (follows s semi more i r c l.spelled) l.formed);
          shallow = block_deep depth (depth_of_statement s) (depth_of_statements more) most r.shallow l.shallow;
        }

    go : (t : Bool) → is_block_end (kind_of tokens) ≡ t → Holds most {answer = block_phrase} (if t
        then give no_statements
        else call (one_statement (depth + 1)) (λ s. call semicolon (λ semi.
        if ends_block s then give (statement (line_of tokens) semi s no_statements)
        else call (block depth) (λ more. give (statement (line_of tokens) semi s more))))) before tokens (Post most (block depth) before tokens)
    go true i = λ h. record { spelled = no_part; formed = refl; shallow = with_none depth most h }
    go false i = λ s last rest r semi last1 rest1 c. next i s last rest r semi last1 rest1 c (ends_block s) refl

pub good_semicolon : (most : ℕ) → Good most semicolon
good_semicolon most before tokens = (λ k between middle b d. taken before TokenKind.Semicolon b k, λ n. no_part)

pub good_main_chunk : (most : ℕ) → Good most main_chunk
good_main_chunk most before tokens inside last rest b = go rest (b (omega arith))
  where
    go : (rest : List Token) → BlockRead most 0 before tokens inside last rest → Holds most (main_on inside (kind_of rest)) last rest (Post most main_chunk before tokens)
    go [] r = record { ended = refl; block = r }
    go (token ∷ others) r = tt
