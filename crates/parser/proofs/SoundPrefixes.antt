-- The answers of the goals of expressions that may be indexed or called, and of arguments.
use Rattle.std.proofs.Common.{◌≡◌, ℕ, ◌+◌, ◌≤◌, ◌==◌, Bool, true, false, List, [], ◌∷◌, Option, Some, None, refl, ap, arith, if◌then◌else◌}
use Rattle.lua_tree.specs.Syntax.{Expression, Arguments, argument_list, text_argument, table_argument}
use Rattle.lua_num.specs.Bytes.{Text}
use Rattle.lua_tree.specs.Spelled.{Spelled, no_part, by_last, by_phrase, arguments_parts, arguments_phrase}
use Rattle.lua_tree.specs.WellFormed.{depth_of_expression, depth_of_arguments}
use Rattle.lua_tree.specs.declared.token.Token.{Token}
use Rattle.lua_tree.specs.declared.token.TokenKind.{TokenKind}
use Rattle.parser.specs.Classes.{Role, Suffix, suffix_of, name_of, text_of}
use Rattle.parser.specs.Program.{prefix, suffix, paren_of, field_of, index_of, method_of, call_of, arguments, listed, prefix_on, suffix_on, text_on, call_spare, give, stop, skip, want, call}
use Rattle.parser.specs.Runs.{kind_of, line_of}
use Rattle.parser.proofs.Small.{both, two_fit_below, without}
use Rattle.parser.proofs.Posts.{Post, Holds, Good}
use Rattle.parser.proofs.SoundSteps.{behind, taken, taken_on, word_at_line, from_next, same_line, name_kind}

pub good_prefix : (most depth : ℕ) (role : Role) → Good most (prefix depth role)
good_prefix most depth role before tokens = go (name_of (kind_of tokens)) refl
  where
    go : (name : Option Text) → name_of (kind_of tokens) ≡ name → Holds most (prefix_on depth role name (line_of tokens)) before tokens (Post most (prefix depth role) before tokens)
    go (Some name) i = λ between middle b d e last rest s.
        let n = name_kind (kind_of tokens) name i in
        s before tokens (record { spelled = taken_on before (TokenKind.Name name) b n.is; formed = n.formed; shallow = d; prefix = refl })
    go None i = (λ k e last rest p f last' rest' s. s before tokens (p k), λ n. tt)

field_kind : (kind : Option TokenKind) → suffix_of kind ≡ Suffix.Field → kind ≡ Some TokenKind.Dot
field_kind (Some TokenKind.Dot) h = refl
field_kind kind h = cc

index_kind : (kind : Option TokenKind) → suffix_of kind ≡ Suffix.Index → kind ≡ Some TokenKind.OpenBracket
index_kind (Some TokenKind.OpenBracket) h = refl
index_kind kind h = cc

method_kind : (kind : Option TokenKind) → suffix_of kind ≡ Suffix.Method → kind ≡ Some TokenKind.Colon
method_kind (Some TokenKind.Colon) h = refl
method_kind kind h = cc

pub good_suffix : (most depth : ℕ) (role : Role) (on : Expression) → Good most (suffix depth role on)
good_suffix most depth role on before tokens = go (suffix_of (kind_of tokens)) refl
  where
    go : (next : Suffix) → suffix_of (kind_of tokens) ≡ next → Holds most (suffix_on depth role on next) before tokens (Post most (suffix depth role on) before tokens)
    go Suffix.Field i = λ e last rest f g last' rest' s line front c. s line front (f (field_kind (kind_of tokens) i) line front c)
    go Suffix.Index i = λ e last rest f g last' rest' s line front c. s line front (f (index_kind (kind_of tokens) i) line front c)
    go Suffix.Method i = λ e last rest f g last' rest' s line front c. s line front (f (method_kind (kind_of tokens) i) line front c)
    go Suffix.Call i = λ e last rest f g last' rest' s line front c. s line front (f line front c)
    go Suffix.Missing i = λ line front c. record { so_far = c; missing = i }

pub good_paren_of : (most depth : ℕ) (role : Role) → Good most (paren_of depth role)
good_paren_of most depth role before tokens between middle b d e last rest r last' rest' w k = record {
  spelled = behind (taken_on before TokenKind.OpenParen b k) (by_phrase r.tree.spelled w);
  formed = r.tree.formed;
  shallow = let s = r.tree.shallow in omega arith;
  prefix = refl;
}

pub good_field_of : (most depth : ℕ) (on : Expression) → Good most (field_of depth on)
good_field_of most depth on before tokens between middle b d name last rest n k line front c = record {
  spelled = by_phrase c.spelled (behind (taken_on before TokenKind.Dot b k) n.spelled);
  formed = both c.prefix (both c.formed n.formed);
  shallow = omega arith;
  prefix = refl;
}

pub good_index_of : (most depth : ℕ) (on : Expression) → Good most (index_of depth on)
good_index_of most depth on before tokens between middle b d key last rest r last' rest' w k line front c = record {
  spelled = by_phrase c.spelled (behind (taken_on before TokenKind.OpenBracket b k) (by_phrase r.tree.spelled w));
  formed = both c.prefix (both c.formed r.tree.formed);
  shallow = two_fit_below depth (depth_of_expression on) (depth_of_expression key) most d r.tree.shallow;
  prefix = refl;
}

-- arguments have a token
some_argument : (args : Arguments) {line last : ℕ} (tokens : List Token) {rest : List Token} → Spelled (arguments_parts args) line tokens last rest → kind_of tokens ≡ None → ⊥
some_argument args (token ∷ tokens) s h = cc
some_argument (argument_list es) [] s h = elim s [ ]
some_argument (text_argument text) [] s h = elim s [ ]
some_argument (table_argument items) [] s h = elim s [ ]

within_spare : (d s a m : ℕ) → d + s + 1 + a ≤ m → d + 1 + a ≤ m
within_spare d s a m h = omega arith

pub good_method_of : (most depth : ℕ) (role : Role) (on : Expression) → Good most (method_of depth role on)
good_method_of most depth role on before tokens between middle b d name last rest n args last' rest' p k line front c =
    let a = p.1 (without (depth + call_spare role + 1) (depth_of_expression on) most d) in
    record {
      spelled = by_phrase c.spelled (behind (taken before TokenKind.Colon b k) (behind (word_at_line n.spelled) (from_next rest (line_of rest) refl (some_argument args rest a.spelled) (by_phrase a.spelled no_part))));
      formed = both c.prefix (both c.formed (both n.formed (both a.on_line a.formed)));
      shallow = two_fit_below depth (depth_of_expression on) (depth_of_arguments args) most (within_spare depth (call_spare role) (depth_of_expression on) most d) (within_spare depth (call_spare role) (depth_of_arguments args) most a.shallow);
      prefix = refl;
    }

pub good_call_of : (most depth : ℕ) (role : Role) (on : Expression) → Good most (call_of depth role on)
good_call_of most depth role on before tokens args last rest p line front c =
    let d = p.0 in
    let a = p.1 (without (depth + call_spare role + 1) (depth_of_expression on) most d) in
    record {
      spelled = by_phrase c.spelled (by_last refl (from_next tokens (line_of tokens) refl (some_argument args tokens a.spelled) (by_phrase a.spelled no_part)));
      formed = both c.prefix (both c.formed (both a.on_line a.formed));
      shallow = two_fit_below depth (depth_of_expression on) (depth_of_arguments args) most (within_spare depth (call_spare role) (depth_of_expression on) most d) (within_spare depth (call_spare role) (depth_of_arguments args) most a.shallow);
      prefix = refl;
    }

some_text : (a b : Text) → Some a ≡ Some b → Some (TokenKind.Text a) ≡ Some (TokenKind.Text b)
some_text a b h = let same : a ≡ b = cc in ap (λ x. Some (TokenKind.Text x)) same

text_kind : (kind : Option TokenKind) (text : Text) → text_of kind ≡ Some text → kind ≡ Some (TokenKind.Text text)
text_kind (Some (TokenKind.Text text)) other h = some_text text other h
text_kind kind other h = cc

pub good_arguments : (most depth needed : ℕ) → Good most (arguments depth needed)
good_arguments most depth needed before tokens = (
  λ k. in_parentheses k (before == line_of tokens) refl,
  λ n. (
    λ k between middle b d items last rest f last' rest' w. (
      d,
      λ h.
          let g = f h in
          record { spelled = behind (taken before TokenKind.OpenBrace b k) (by_phrase g.spelled w); formed = g.formed; shallow = g.shallow; on_line = refl },
    ),
    λ m. as_text (text_of (kind_of tokens)) refl,
  ),
)
  where
    in_parentheses : kind_of tokens ≡ Some TokenKind.OpenParen → (t : Bool) → before == line_of tokens ≡ t →
        Holds most {answer = arguments_phrase} (if t then skip needed (call (listed depth) (λ es. want TokenKind.CloseParen (give (argument_list es)))) else stop) before tokens (Post most (arguments depth needed) before tokens)
    in_parentheses k true i = λ between middle b d es last rest f last' rest' w. (
      d,
      λ h.
          let g = f h in
          record { spelled = behind (taken before TokenKind.OpenParen b k) (by_phrase g.spelled w); formed = g.formed; shallow = g.shallow; on_line = same_line before (line_of tokens) i },
    )
    in_parentheses k false i = tt

    as_text : (text : Option Text) → text_of (kind_of tokens) ≡ text → Holds most (text_on needed text) before tokens (Post most (arguments depth needed) before tokens)
    as_text (Some text) i = λ between middle b d. (d, λ h. record { spelled = taken before (TokenKind.Text text) b (text_kind (kind_of tokens) text i); formed = refl; shallow = omega arith; on_line = refl })
    as_text None i = tt
