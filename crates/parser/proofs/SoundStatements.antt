-- The answers of the goals of statements.
use Rattle.std.proofs.Common.{◌≡◌, ℕ, ◌+◌, Bool, true, false, List, [], ◌∷◌, Option, Some, refl, sym, subst, arith, if◌then◌else◌}
use Rattle.lua_tree.specs.Syntax.{assignment, call_statement, FunctionBody, Expressions, no_expressions, expression, Expression}
use Rattle.lua_num.specs.Bytes.{Text}
use Rattle.lua_tree.specs.Spelled.{statement_phrase, expressions_phrase, names_phrase, Part, word, word_on, of, Spelled, no_part, by_word, by_phrase, more_expressions_parts, expressions_parts, more_names_parts, first_line_of}
use Rattle.lua_tree.specs.WellFormed.{is_call, is_target, has_expressions, depth_of_expression}
use Rattle.lua_tree.specs.declared.token.Token.{Token}
use Rattle.lua_tree.specs.declared.token.TokenKind.{TokenKind}
use Rattle.parser.specs.Classes.{Role, Start, start_of}
use Rattle.parser.specs.Program.{one_statement, if_of, while_of, do_of, for_of, repeat_of, function_of, local_of, return_of, break_of, numeric_of, generic_of, local_function_of, local_names_of, expression_statement, branches, step, targets, expressions_at, prefix, statement_on, give, stop, skip, want, choose, call}
use Rattle.parser.specs.Runs.{kind_of, line_of}
use Rattle.parser.proofs.Small.{both, not_both, two_fit, with_none, under, less_one}
use Rattle.parser.proofs.Posts.{Post, Behind, Holds, Good}
use Rattle.parser.proofs.SoundSteps.{behind, behind_two, taken, taken_on, without_more}

if_kind : (kind : Option TokenKind) → start_of kind ≡ Start.If → kind ≡ Some TokenKind.If
if_kind (Some TokenKind.If) h = refl
if_kind kind h = cc

while_kind : (kind : Option TokenKind) → start_of kind ≡ Start.While → kind ≡ Some TokenKind.While
while_kind (Some TokenKind.While) h = refl
while_kind kind h = cc

do_kind : (kind : Option TokenKind) → start_of kind ≡ Start.Do → kind ≡ Some TokenKind.Do
do_kind (Some TokenKind.Do) h = refl
do_kind kind h = cc

for_kind : (kind : Option TokenKind) → start_of kind ≡ Start.For → kind ≡ Some TokenKind.For
for_kind (Some TokenKind.For) h = refl
for_kind kind h = cc

repeat_kind : (kind : Option TokenKind) → start_of kind ≡ Start.Repeat → kind ≡ Some TokenKind.Repeat
repeat_kind (Some TokenKind.Repeat) h = refl
repeat_kind kind h = cc

function_kind : (kind : Option TokenKind) → start_of kind ≡ Start.Function → kind ≡ Some TokenKind.Function
function_kind (Some TokenKind.Function) h = refl
function_kind kind h = cc

local_kind : (kind : Option TokenKind) → start_of kind ≡ Start.Local → kind ≡ Some TokenKind.Local
local_kind (Some TokenKind.Local) h = refl
local_kind kind h = cc

return_kind : (kind : Option TokenKind) → start_of kind ≡ Start.Return → kind ≡ Some TokenKind.Return
return_kind (Some TokenKind.Return) h = refl
return_kind kind h = cc

break_kind : (kind : Option TokenKind) → start_of kind ≡ Start.Break → kind ≡ Some TokenKind.Break
break_kind (Some TokenKind.Break) h = refl
break_kind kind h = cc

pub good_one_statement : (most depth : ℕ) → Good most (one_statement depth)
good_one_statement most depth before tokens = go (start_of (kind_of tokens)) refl
  where
    go : (start : Start) → start_of (kind_of tokens) ≡ start → Holds most (statement_on depth start) before tokens (Post most (one_statement depth) before tokens)
    go Start.If i = λ s last rest r. r (if_kind (kind_of tokens) i)
    go Start.While i = λ s last rest r. r (while_kind (kind_of tokens) i)
    go Start.Do i = λ s last rest r. r (do_kind (kind_of tokens) i)
    go Start.For i = λ s last rest r. r (for_kind (kind_of tokens) i)
    go Start.Repeat i = λ s last rest r. r (repeat_kind (kind_of tokens) i)
    go Start.Function i = λ s last rest r. r (function_kind (kind_of tokens) i)
    go Start.Local i = λ s last rest r. r (local_kind (kind_of tokens) i)
    go Start.Return i = λ s last rest r. r (return_kind (kind_of tokens) i)
    go Start.Break i = λ s last rest r. r (break_kind (kind_of tokens) i)
    go Start.Expression i = λ s last rest r. r

pub good_if_of : (most depth : ℕ) → Good most (if_of depth)
good_if_of most depth before tokens between middle b d cond last rest r between' middle' w inside last' rest' i left last'' rest'' l between'' middle'' w' k =
    let h = less_one depth most d in
    let t = r.tree in
    let j = i h in
    let m = l h in
    record {
      spelled = behind (taken before TokenKind.If b k) (by_phrase t.spelled (behind w (by_phrase j.spelled (by_phrase m.spelled w'))));
      formed = both (both t.formed (both j.formed m.formed)) m.formed_last;
      shallow = two_fit depth _ _ most (two_fit depth _ _ most (two_fit depth _ _ most t.shallow j.shallow) m.shallow) m.shallow_last;
      closed = λ t. absurd (not_both t refl);
    }

pub good_while_of : (most depth : ℕ) → Good most (while_of depth)
good_while_of most depth before tokens between middle b d cond last rest r between' middle' w inside last' rest' i between'' middle'' w' k =
    let t = r.tree in
    let j = i (less_one depth most d) in
    record {
      spelled = behind (taken before TokenKind.While b k) (by_phrase t.spelled (behind w (by_phrase j.spelled w')));
      formed = both t.formed j.formed;
      shallow = two_fit depth _ _ most t.shallow j.shallow;
      closed = λ t. absurd (not_both t refl);
    }

pub good_do_of : (most depth : ℕ) → Good most (do_of depth)
good_do_of most depth before tokens between middle b d inside last rest i between' middle' w k =
    let j = i d in
    record {
      spelled = behind (taken before TokenKind.Do b k) (by_phrase j.spelled w);
      formed = j.formed;
      shallow = j.shallow;
      closed = λ t. absurd (not_both t refl);
    }

pub good_for_of : (most depth : ℕ) → Good most (for_of depth)
good_for_of most depth before tokens between middle b d name last rest n = (
  λ e s last' rest' r k. r e n.formed before tokens (behind (taken before TokenKind.For b k) n.spelled),
  λ m s last' rest' r k. r n.formed before tokens (behind (taken before TokenKind.For b k) n.spelled),
)

pub good_numeric_of : (most depth : ℕ) (name : Text) → Good most (numeric_of depth name)
good_numeric_of most depth name before tokens between middle b d first last rest r b1 m1 w1 end last2 rest2 r2 by last3 rest3 s b4 m4 w4 inside last5 rest5 i b6 m6 w6 k n line front p =
    let h = less_one depth most d in
    let t = r.tree in
    let t2 = r2.tree in
    let u = s h in
    let j = i h in
    record {
      spelled = behind_two p (behind (taken before TokenKind.Equal b k) (by_phrase t.spelled (behind w1 (by_phrase t2.spelled (by_phrase u.spelled (behind w4 (by_phrase j.spelled w6)))))));
      formed = both n (both t.formed (both t2.formed (both u.formed j.formed)));
      shallow = two_fit depth _ _ most (two_fit depth _ _ most t.shallow t2.shallow) (two_fit depth _ _ most u.shallow j.shallow);
      closed = λ t. absurd (not_both t refl);
    }

-- names behind a word
names_behind : {kind mark : TokenKind} {name : Text} {names : List Text} {others : List Part} {line before last end : ℕ} {front tokens rest left : List Token} →
    Spelled (word kind ∷ word (TokenKind.Name name) ∷ []) line front before tokens → Spelled (more_names_parts mark names) before tokens last rest → Spelled others last rest end left →
    Spelled (word kind ∷ of (names_phrase mark) (name ∷ names) ∷ others) line front end left
names_behind (by_word k p) m s = by_word k (by_phrase (behind p (by_phrase m no_part)) s)

pub good_generic_of : (most depth : ℕ) (name : Text) → Good most (generic_of depth name)
good_generic_of most depth name before tokens names last rest m = (
  λ e between middle b d es last1 rest1 s b2 m2 w2 inside last3 rest3 i b4 m4 w4 n line front p.
      let l = s.list in
      let j = i (less_one depth most d) in
      record {
        spelled = names_behind p m.spelled (behind (taken last TokenKind.In b e) (by_phrase l.spelled (behind w2 (by_phrase j.spelled w4))));
        formed = both (both n m.formed) (both s.some (both l.formed j.formed));
        shallow = two_fit depth _ _ most l.shallow j.shallow;
        closed = λ t. absurd (not_both t refl);
      },
  λ n. tt,
)

pub good_repeat_of : (most depth : ℕ) → Good most (repeat_of depth)
good_repeat_of most depth before tokens between middle b d inside last rest i between' middle' w cond last' rest' r k =
    let t = r.tree in
    let j = i (less_one depth most d) in
    record {
      spelled = behind (taken before TokenKind.Repeat b k) (by_phrase j.spelled (behind w (by_phrase t.spelled no_part)));
      formed = both j.formed t.formed;
      shallow = two_fit depth _ _ most j.shallow t.shallow;
      closed = t.closed;
    }

-- the `function` of a body
function_word : {tokens middle : List Token} {between : ℕ} (before : ℕ) (made : FunctionBody) → Behind tokens between middle → kind_of tokens ≡ Some TokenKind.Function →
    first_line_of made ≡ line_of tokens → Spelled (word_on (first_line_of made) TokenKind.Function ∷ []) before tokens between middle
function_word {tokens} {middle} {between} before made b k l = subst (λ x. Spelled (word_on x TokenKind.Function ∷ []) before tokens between middle) (sym l) (taken_on before TokenKind.Function b k)

pub good_function_of : (most depth : ℕ) → Good most (function_of depth)
good_function_of most depth before tokens between middle b d name last rest n names last1 rest1 m method last2 rest2 o made last3 rest3 f k =
    let g = f d in
    record {
      spelled = behind (function_word before made b k g.first_line) (by_phrase (behind n.spelled (by_phrase m.spelled no_part)) (by_phrase o.spelled (by_phrase g.spelled no_part)));
      formed = both (both n.formed m.formed) (both o.formed g.formed);
      shallow = under depth _ most g.shallow;
      closed = λ t. absurd (not_both t refl);
    }

pub good_local_of : (most depth : ℕ) → Good most (local_of depth)
good_local_of most depth before tokens between middle b d = (
  λ e s last rest r k. r e before tokens (taken before TokenKind.Local b k),
  λ n s last rest r k. r d before tokens (taken before TokenKind.Local b k),
)

pub good_local_function_of : (most depth : ℕ) → Good most (local_function_of depth)
good_local_function_of most depth before tokens between middle b d name last rest n made last1 rest1 f k line front w =
    let g = f d in
    record {
      spelled = behind w (behind (function_word before made b k g.first_line) (behind n.spelled (by_phrase g.spelled no_part)));
      formed = both n.formed g.formed;
      shallow = under depth _ most g.shallow;
      closed = λ t. absurd (not_both t refl);
    }

pub good_local_names_of : (most depth : ℕ) → Good most (local_names_of depth)
good_local_names_of most depth before tokens name last rest n names last1 rest1 m es last2 rest2 v d line front w =
    let l = v d in
    record {
      spelled = behind w (by_phrase (behind n.spelled (by_phrase m.spelled no_part)) (by_phrase l.spelled no_part));
      formed = both (both n.formed m.formed) l.formed;
      shallow = l.shallow;
      closed = l.closed;
    }

pub good_return_of : (most depth : ℕ) → Good most (return_of depth)
good_return_of most depth before tokens between middle b d es last rest v k =
    let l = v d in
    record {
      spelled = behind (taken before TokenKind.Return b k) (by_phrase l.spelled no_part);
      formed = l.formed;
      shallow = l.shallow;
      closed = λ t. absurd (not_both t refl);
    }

pub good_break_of : (most depth : ℕ) → Good most (break_of depth)
good_break_of most depth before tokens between middle b d k = record {
  spelled = taken before TokenKind.Break b k;
  formed = refl;
  shallow = omega arith;
  closed = λ t. absurd (not_both t refl);
}

-- expressions behind a comma
more_of : (es : Expressions) → has_expressions es ≡ true → more_expressions_parts es ≡ word TokenKind.Comma ∷ expressions_parts es
more_of no_expressions h = cc
more_of (expression e es) h = refl

pub good_targets : (most depth : ℕ) (e : Expression) → Good most (targets depth e)
good_targets most depth e before tokens = go (is_target e) refl
  where
    go : (t : Bool) → is_target e ≡ t → Holds most {answer = expressions_phrase} (if t
        then choose TokenKind.Comma
        (skip (depth + 1) (call (prefix depth Role.Target) (λ next. call (targets depth next) (λ rest. give (expression e rest)))))
        (choose TokenKind.Equal (give (expression e no_expressions)) stop)
        else stop) before tokens (Post most (targets depth e) before tokens)
    go true i = (
      λ k between middle b d next last rest p more last' rest' t line front q.
          let u = t between middle p in
          let c = q.so_far in
          record {
            spelled = by_phrase c.spelled (by_phrase (subst (λ x. Spelled x before tokens last' rest') (sym (more_of more u.some)) (behind (taken before TokenKind.Comma b k) u.spelled)) no_part);
            formed = both c.formed u.formed;
            shallow = two_fit depth _ _ most c.shallow u.shallow;
            are = both i u.are;
            some = refl;
          },
      λ n. (
        λ k line front q.
            let c = q.so_far in
            record {
              spelled = by_phrase c.spelled (by_phrase no_part no_part);
              formed = both c.formed refl;
              shallow = two_fit depth _ _ most c.shallow (without_more depth (depth_of_expression e) most c.shallow);
              are = both i refl;
              some = refl;
            },
        λ m. tt,
      ),
    )
    go false i = tt

pub good_expression_statement : (most depth : ℕ) → Good most (expression_statement depth)
good_expression_statement most depth before tokens e last rest p = go (is_call e) refl
  where
    go : (t : Bool) → is_call e ≡ t → Holds most {answer = statement_phrase} (if t
        then give (call_statement e)
        else call (targets depth e) (λ lefts. want TokenKind.Equal (call (expressions_at depth) (λ rights. give (assignment lefts rights))))) last rest (Post most (expression_statement depth) before tokens)
    go true i =
        let c = p.so_far in
        record { spelled = by_phrase c.spelled no_part; formed = both i c.formed; shallow = c.shallow; closed = λ t. p.missing }
    go false i = λ lefts last1 rest1 t b2 m2 w2 rights last3 rest3 s.
        let u = t before tokens p in
        let l = s.list in
        record {
          spelled = by_phrase u.spelled (behind w2 (by_phrase l.spelled no_part));
          formed = both u.some (both u.are (both u.formed (both s.some l.formed)));
          shallow = two_fit depth _ _ most u.shallow l.shallow;
          closed = l.closed;
        }

pub good_branches : (most depth : ℕ) → Good most (branches depth)
good_branches most depth before tokens = (
  λ k between middle b d cond last rest r b1 m1 w1 inside last2 rest2 i left last3 rest3 l h.
      let t = r.tree in
      let j = i h in
      let m = l h in
      record {
        spelled = behind (taken before TokenKind.Elseif b k) (by_phrase t.spelled (behind w1 (by_phrase j.spelled (by_phrase m.spelled no_part))));
        formed = both t.formed (both j.formed m.formed);
        formed_last = m.formed_last;
        shallow = two_fit depth _ _ most (two_fit depth _ _ most t.shallow j.shallow) m.shallow;
        shallow_last = m.shallow_last;
      },
  λ n. (
    λ k between middle b d inside last rest i h.
        let j = i h in
        record {
          spelled = behind (taken before TokenKind.Else b k) (by_phrase j.spelled no_part);
          formed = refl;
          formed_last = j.formed;
          shallow = with_none depth most h;
          shallow_last = j.shallow;
        },
    λ m h. record { spelled = no_part; formed = refl; formed_last = refl; shallow = with_none depth most h; shallow_last = with_none depth most h },
  ),
)

pub good_step : (most depth : ℕ) → Good most (step depth)
good_step most depth before tokens = (
  λ k between middle b d e last rest r h.
      let t = r.tree in
      record { spelled = behind (taken before TokenKind.Comma b k) (by_phrase t.spelled no_part); formed = t.formed; shallow = t.shallow },
  λ n h. record { spelled = no_part; formed = refl; shallow = with_none depth most h },
)
