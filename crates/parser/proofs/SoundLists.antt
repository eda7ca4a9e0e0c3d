-- The answers of the goals of names, bodies, lists of expressions and fields.
use Rattle.std.proofs.Common.{◌≡◌, ℕ, ◌+◌, ◌≤◌, Bool, true, false, List, [], ◌∷◌, Option, Some, None, refl, sym, subst, max, arith, if◌then◌else◌}
use Rattle.lua_tree.specs.Syntax.{Expressions, no_expressions, expression, Expression, Fields, no_fields}
use Rattle.lua_num.specs.Bytes.{Text}
use Rattle.lua_tree.specs.Spelled.{word, of, Spelled, no_part, by_phrase, Field, positional_field, named_field, keyed_field, expressions_phrase, more_expressions_parts, values_parts, fields_parts, fields_phrase, field_phrase, separator_phrase, separator_parts}
use Rattle.lua_tree.specs.Names.{is_name}
use Rattle.lua_tree.specs.WellFormed.{formed_expression, has_expressions, ends_item, takes_arguments, last_takes_arguments, formed_fields, depth_of_expression, depth_of_expressions, depth_of_fields}
use Rattle.lua_tree.specs.declared.token.Token.{Token}
use Rattle.lua_tree.specs.declared.token.TokenKind.{TokenKind}
use Rattle.lua_tree.specs.declared.tree.Separator.{Separator}
use Rattle.parser.specs.Classes.{Suffix, suffix_of, name_of, is_block_end}
use Rattle.parser.specs.Program.{method_name, values, results, body, parameters, first_parameter, more_parameters, one_name, more_names_by, expressions_at, more_expressions_at, listed, fields, one_field, keyed_of, named_of, separator, name_on, field_on, fields_after, add_field, give, become}
use Rattle.parser.specs.Fields.{depth_of_field}
use Rattle.parser.specs.Runs.{kind_of, line_of}
use Rattle.parser.proofs.Small.{both, and_left, and_right, not_both, two_fit}
use Rattle.parser.proofs.Posts.{ListRead, FieldRead, FieldsRead, formed_field, Post, Holds, Good}
use Rattle.parser.proofs.SoundSteps.{behind, taken, word_at_line, word_at_start, none_left, name_kind}
use Rattle.parser.proofs.SoundExpressions.{simple_begins, prefix_simple}

pub good_one_name : (most : ℕ) → Good most one_name
good_one_name most before tokens = go (name_of (kind_of tokens)) refl
  where
    go : (name : Option Text) → name_of (kind_of tokens) ≡ name → Holds most (name_on name) before tokens (Post most one_name before tokens)
    go (Some name) i = λ between middle b d.
        let n = name_kind (kind_of tokens) name i in
        record { spelled = taken before (TokenKind.Name name) b n.is; formed = n.formed }
    go None i = tt

pub good_more_names_by : (most : ℕ) (mark : TokenKind) → Good most (more_names_by mark)
good_more_names_by most mark before tokens = (
  λ k between middle b d name last rest n names last' rest' m. record { spelled = behind (taken before mark b k) (behind n.spelled (by_phrase m.spelled no_part)); formed = both n.formed m.formed },
  λ n. record { spelled = no_part; formed = refl },
)

pub good_method_name : (most : ℕ) → Good most method_name
good_method_name most before tokens = (
  λ k between middle b d name last rest n. record { spelled = behind (taken before TokenKind.Colon b k) n.spelled; formed = n.formed },
  λ n. record { spelled = no_part; formed = refl },
)

pub good_parameters : (most : ℕ) → Good most parameters
good_parameters most before tokens = (
  λ k. record { spelled = no_part; formed = refl },
  λ n params last rest p. p.all,
)

pub good_first_parameter : (most : ℕ) → Good most first_parameter
good_first_parameter most before tokens = (
  λ k between middle b d. record { all = record { spelled = taken before TokenKind.DotDotDot b k; formed = refl }; behind = refl },
  λ m name last rest n more last' rest' p. record { all = record { spelled = behind n.spelled (by_phrase p.spelled no_part); formed = both n.formed p.formed }; behind = refl },
)

pub good_more_parameters : (most : ℕ) → Good most more_parameters
good_more_parameters most before tokens = (
  λ k between middle b d more last rest p. record { spelled = subst (λ x. Spelled x before tokens last rest) (sym p.behind) (behind (taken before TokenKind.Comma b k) p.all.spelled); formed = p.all.formed },
  λ n. record { spelled = no_part; formed = refl },
)

pub good_body : (most depth first : ℕ) → Good most (body depth first)
good_body most depth first before tokens between middle w params last rest p between' middle' w' inside last' rest' b between'' middle'' w'' d =
    let i = b d in
    record {
      spelled = behind w (by_phrase p.spelled (behind w' (by_phrase i.spelled (word_at_line w''))));
      formed = both p.formed i.formed;
      shallow = i.shallow;
      first_line = refl;
    }

-- the last of some expressions could take the arguments that the whole could
last_closed : {most depth between last : ℕ} {middle rest : List Token} (e : Expression) (es : Expressions) →
    (takes_arguments e ≡ true → suffix_of (kind_of middle) ≡ Suffix.Missing) → ListRead most depth (more_expressions_parts es) between middle es last rest →
    last_takes_arguments (expression e es) ≡ true → suffix_of (kind_of rest) ≡ Suffix.Missing
last_closed e no_expressions c l t = subst (λ x. suffix_of (kind_of x) ≡ Suffix.Missing) (none_left l.spelled) (c t)
last_closed e (expression f es) c l t = l.closed t

pub good_expressions_at : (most depth : ℕ) → Good most (expressions_at depth)
good_expressions_at most depth before tokens e last rest r es last' rest' m =
    let t = r.tree in
    let l = m (let s = t.shallow in omega arith) in
    record {
      list = record {
        spelled = by_phrase t.spelled (by_phrase l.spelled no_part);
        formed = both t.formed l.formed;
        shallow = two_fit depth (depth_of_expression e) (depth_of_expressions es) most t.shallow l.shallow;
        closed = last_closed e es t.closed l;
      };
      some = refl;
    }

pub good_more_expressions_at : (most depth : ℕ) → Good most (more_expressions_at depth)
good_more_expressions_at most depth before tokens = (
  λ k between middle b d e last rest r es last' rest' m d'.
      let t = r.tree in
      let l = m d' in
      record {
        spelled = behind (taken before TokenKind.Comma b k) (by_phrase t.spelled (by_phrase l.spelled no_part));
        formed = both t.formed l.formed;
        shallow = two_fit depth (depth_of_expression e) (depth_of_expressions es) most t.shallow l.shallow;
        closed = last_closed e es t.closed l;
      },
  λ n d. record { spelled = no_part; formed = refl; shallow = omega arith; closed = λ t. absurd (not_both t refl) },
)

values_of : (es : Expressions) → has_expressions es ≡ true → values_parts es ≡ word TokenKind.Equal ∷ of expressions_phrase es ∷ []
values_of no_expressions h = cc
values_of (expression e es) h = refl

pub good_values : (most depth : ℕ) → Good most (values depth)
good_values most depth before tokens = (
  λ k between middle b d es last rest s d'.
      let l = s.list in
      record {
        spelled = subst (λ x. Spelled x before tokens last rest) (sym (values_of es s.some)) (behind (taken before TokenKind.Equal b k) (by_phrase l.spelled no_part));
        formed = l.formed;
        shallow = l.shallow;
        closed = l.closed;
      },
  λ n d. record { spelled = no_part; formed = refl; shallow = omega arith; closed = λ t. absurd (not_both t refl) },
)

-- no expressions at all
nothing : {most depth before : ℕ} {tokens : List Token} → depth ≤ most → ListRead most depth [] before tokens no_expressions before tokens
nothing d = record { spelled = no_part; formed = refl; shallow = omega arith; closed = λ t. absurd (not_both t refl) }

pub good_results : (most depth : ℕ) → Good most (results depth)
good_results most depth before tokens = (λ k d. nothing d, λ n. go (is_block_end (kind_of tokens)))
  where
    go : (t : Bool) → Holds most {answer = expressions_phrase} (if t then give no_expressions else become (expressions_at depth)) before tokens (Post most (results depth) before tokens)
    go true = λ d. nothing d
    go false = λ es last rest s d. s.list

pub good_listed : (most depth : ℕ) → Good most (listed depth)
good_listed most depth before tokens = (λ k d. nothing d, λ n es last rest s d. s.list)

pub good_separator : (most : ℕ) → Good most separator
good_separator most before tokens = (
  λ k between middle b d. taken before TokenKind.Comma b k,
  λ n. (λ k between middle b d. taken before TokenKind.Semicolon b k, λ m. no_part),
)

-- a field and those behind it
add_spelled : (item : Field) (mark : Separator) (items : Fields) → fields_parts (add_field item mark items) ≡ of field_phrase item ∷ of separator_phrase mark ∷ of fields_phrase items ∷ []
add_spelled (positional_field e) mark items = refl
add_spelled (named_field name e) mark items = refl
add_spelled (keyed_field key e) mark items = refl

add_formed : (item : Field) (mark : Separator) (items : Fields) → ends_item mark items ≡ true → formed_field item ≡ true → formed_fields items ≡ true → formed_fields (add_field item mark items) ≡ true
add_formed (positional_field e) mark items h f i = both h (both f i)
add_formed (named_field name e) mark items h f i = both h (both (and_left (is_name name) (formed_expression e) f) (both (and_right (is_name name) (formed_expression e) f) i))
add_formed (keyed_field key e) mark items h f i = both h (both (and_left (formed_expression key) (formed_expression e) f) (both (and_right (formed_expression key) (formed_expression e) f) i))

pub add_depth : (item : Field) (mark : Separator) (items : Fields) → depth_of_fields (add_field item mark items) ≡ max (depth_of_field item) (depth_of_fields items)
add_depth (positional_field e) mark items = refl
add_depth (named_field name e) mark items = refl
add_depth (keyed_field key e) mark items = refl

add_read : {most depth before between last end : ℕ} {tokens middle rest left : List Token} (item : Field) (mark : Separator) (items : Fields) → ends_item mark items ≡ true →
    FieldRead most depth before tokens item between middle → Spelled (separator_parts mark) between middle last rest → FieldsRead most depth last rest items end left →
    FieldsRead most depth before tokens (add_field item mark items) end left
add_read {most} {depth} {before} {end} {tokens} {left} item mark items h f s r = record {
  spelled = subst (λ x. Spelled x before tokens end left) (sym (add_spelled item mark items)) (by_phrase f.spelled (by_phrase s (by_phrase r.spelled no_part)));
  formed = add_formed item mark items h f.formed r.formed;
  shallow = subst (λ x. depth + x ≤ most) (sym (add_depth item mark items)) (two_fit depth (depth_of_field item) (depth_of_fields items) most f.shallow r.shallow);
}

no_item : {most depth before : ℕ} {tokens : List Token} → depth ≤ most → FieldsRead most depth before tokens no_fields before tokens
no_item d = record { spelled = no_part; formed = refl; shallow = omega arith }

pub good_fields : (most depth : ℕ) → Good most (fields depth)
good_fields most depth before tokens = (λ k d. no_item d, λ n item last rest f mark last' rest' s. go item last rest f mark last' rest' s)
  where
    go : (item : Field) (last : ℕ) (rest : List Token) → FieldRead most depth before tokens item last rest → (mark : Separator) (last' : ℕ) (rest' : List Token) → Spelled (separator_parts mark) last rest last' rest' →
        Holds most (fields_after depth item mark) last' rest' (Post most (fields depth) before tokens)
    go item last rest f Separator.Missing last' rest' s = λ d. add_read item Separator.Missing no_fields refl f s (no_item d)
    go item last rest f Separator.Comma last' rest' s = λ items end left r d. add_read item Separator.Comma items refl f s (r d)
    go item last rest f Separator.Semicolon last' rest' s = λ items end left r d. add_read item Separator.Semicolon items refl f s (r d)

pub good_keyed_of : (most depth : ℕ) → Good most (keyed_of depth)
good_keyed_of most depth before tokens between middle b d key last rest r between' middle' w between'' middle'' w' e last' rest' r' k = record {
  spelled = behind (taken before TokenKind.OpenBracket b k) (by_phrase r.tree.spelled (behind w (behind w' (by_phrase r'.tree.spelled no_part))));
  formed = both r.tree.formed r'.tree.formed;
  shallow = two_fit depth (depth_of_expression key) (depth_of_expression e) most r.tree.shallow r'.tree.shallow;
}

pub good_named_of : (most depth start : ℕ) (name : Text) → Good most (named_of depth start name)
good_named_of most depth start name before tokens = (
  λ k between middle b d e last rest r d' n line front l w. record {
    spelled = behind w (behind (taken before TokenKind.Equal b k) (by_phrase r.tree.spelled no_part));
    formed = both n r.tree.formed;
    shallow = r.tree.shallow;
  },
  λ m e last rest s more last' rest' c d n line front l w.
      let p = s line front (record { spelled = word_at_start l w; formed = n; shallow = d; prefix = refl }) in
      let r = c line front l (simple_begins 0 (prefix_simple p)) in
      record { spelled = by_phrase r.tree.spelled no_part; formed = r.tree.formed; shallow = r.tree.shallow },
)

pub good_one_field : (most depth : ℕ) → Good most (one_field depth)
good_one_field most depth before tokens = go (name_of (kind_of tokens)) refl
  where
    go : (name : Option Text) → name_of (kind_of tokens) ≡ name → Holds most (field_on depth name (line_of tokens)) before tokens (Post most (one_field depth) before tokens)
    go (Some name) i = λ between middle b d item last rest f.
        let n = name_kind (kind_of tokens) name i in
        f d n.formed before tokens refl (taken before (TokenKind.Name name) b n.is)
    go None i = (
      λ k item last rest f. f k,
      λ n e last rest r. record { spelled = by_phrase r.tree.spelled no_part; formed = r.tree.formed; shallow = r.tree.shallow },
    )
