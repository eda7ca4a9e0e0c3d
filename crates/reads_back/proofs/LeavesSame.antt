-- What is written of the value of an expression without parts has the same code: literals, folded numbers, names and `...`; and so in parentheses.
use Rattle.std.proofs.Common.{◌≡◌, ℕ, ◌≤◌, true, false, ℤ, List, [], ◌∷◌, length, Option, Some, None, is_some, refl, sym, ap, ◌∙◌, subst, arith, true≢false, Bool, inr, inl}
use Rattle.std.specs.Prelude.{slice_get, if◌then◌else◌}
use Rattle.lua_num.specs.Bytes.{Text}
use Rattle.lua_tree.specs.Names.{is_name as is_good_name}
use Rattle.lua_tree.specs.Scoping.{global_use}
use Rattle.lua_tree.specs.Syntax.{Expression, nil_literal, true_literal, false_literal, vararg_expression, text_literal, name_expression, parenthesized}
use Rattle.lua_tree.specs.Precedence.{is_unary, level_of}
use Rattle.lua_tree.specs.WellFormed.{is_prefix}
use Rattle.opcode.specs.declared.op.Op.{Op}
use Rattle.proto.specs.declared.parts.Constant.{Constant}
use Rattle.core_expr.specs.Counting.{left_by, taken_behind}
use Rattle.core_expr.specs.Places.{as_name, as_text, constant_name, place, Place}
use Rattle.core_expr.specs.Values.{Value, nil_value, bool_value, vararg_value, constant_value, global_value, Inner}
use Rattle.core_expr.specs.Writing.{Wording, can_write, constant_word, is_multiple as can_be_several, literal as literal_word, name_word, single as single_word, word, is_bare}
use Rattle.recover_expr.specs.Situation.{Function}
use Rattle.scheme.specs.Expressions.{Want, fold, is_multiple, is_name, read_where, register_of}
use Rattle.scheme.specs.Lists.{vararg_at}
use Rattle.scheme.specs.Making.{Maker, Part, Where, constant, free_from, head_or, in_globals, in_register, in_upvalue, next_name, pass_name, where_is}
use Rattle.scheme.specs.Scheme.{coded}
use Rattle.scheme.specs.declared.making.Active.{Active}
use Rattle.scheme.specs.declared.making.Piece.{Piece}
use Rattle.scheme_stands.proofs.Growth.{Final, before_free, before_put}
use Rattle.scheme_stands.specs.Words.{Fn, Means}
use Rattle.reads_back.specs.Cores.{HasNumber, IsConstant, IsNamed, IsVariable}
use Rattle.reads_back.proofs.ConstantsSame.{before_load, constant_is, constant_word_is, constant_taken, fold_numeral, loads, number_loads, number_no_name, number_single, numeral_few, numeral_loads, numeral_plain, numeral_single}
use Rattle.reads_back.proofs.Deeper.{some_depth}
use Rattle.reads_back.proofs.InRoom.{BindsAlike, IsInRoom, parens_in}
use Rattle.reads_back.proofs.Rooms.{folded_room}
use Rattle.reads_back.proofs.Rewriting.{IsMadeAs, IsMadeBy, Rewritten, code, keys_of, wording}
use Rattle.reads_back.proofs.WholeNumbers.{IsWhole}
use Rattle.reads_back.proofs.WordsSame.{no_local}
use Rattle.reads_back.proofs.NameReads.{IsListed}
use Rattle.reads_back.proofs.Mentions.{IsAhead, Mention, name_mention, made_behind, mentions_in}
use Rattle.reads_back.proofs.MentionsMeant.{folded_nameless}

-- ---- no expression is without depth

-- what is no call and no `...` gives no several values
never_several : {A : Type 0} (e : Expression) → is_multiple e ≡ false → is_multiple e ≡ true → A
never_several e single several = absurd (true≢false (sym several ∙ single))

-- what is written of a leaf is the leaf, on line 1
leaf_binds : {e x : Expression} → (is_prefix x ≡ is_prefix e) → (level_of x ≡ level_of e) → (is_unary x ≡ is_unary e) → (is_multiple x ≡ is_multiple e) → BindsAlike e x
leaf_binds prefix level unary several = record { prefix = prefix; level = level; unary = unary; several = several }

-- ---- constants

-- the literal of a constant loads it
record IsLoaded (k : Constant) : Type 0 where
  named : is_name (literal_word k).words ≡ false
  single : is_multiple (literal_word k).words ≡ false
  few : (literal_word k).levels ≤ 3
  as_loaded : (r : ℕ) (m : Maker) → (coded (literal_word k).words).to_reg r m ≡ loads r k m

-- what loads a constant
record LoadsIt (k : Constant) (e : Expression) : Type 0 where
  named : is_name e ≡ false
  single : is_multiple e ≡ false
  folded : fold (literal_word k).words ≡ fold e
  nameless : mentions_in e ≡ []
  as_loaded : (r : ℕ) (m : Maker) → (code e).to_reg r m ≡ loads r k m

module _ {f : Function} {g : Fn} {active : List Active} {listed : List ℕ} {z : Maker} {lefts : ℕ → List (Option Inner)} {before : ℕ} (made : IsMadeBy f g active listed z) where
  loaded_rewritten : (e : Expression) (k : Constant) (number : ℕ) → HasNumber g k number → IsLoaded k → LoadsIt k e → ((bare : Bool) → IsInRoom bare e (literal_word k)) → Rewritten f g active listed z lefts before before e (constant_value number)
  loaded_rewritten e k number has loaded it in_room = record {
    can = ap is_some (constant_is made k number has);
    leaves = refl;
    makes = ap (λ mentions. made_behind mentions before) (sym it.nameless);
    named = λ n. ap (λ (w : Wording). is_name w.words) word_is ∙ loaded.named ∙ sym it.named;
    folded = λ n. ap (λ (w : Wording). fold w.words) word_is ∙ it.folded;
    several = λ n. ap (λ (w : Wording). is_multiple w.words) word_is ∙ loaded.single;
    gives = λ several. never_several e it.single several;
    few = λ n. omega (arith, ap (λ (w : Wording). w.levels) word_is, loaded.few, some_depth e);
    low = λ short formed m ahead is. subst (λ (w : Wording). IsInRoom (is_bare (place f.of listed f.short) (length m.constants) (constant_value number)) e w) (sym word_is) (in_room _);
    keys = omega arith;
    as_local = λ n r m ahead is. no_local e r m it.named is;
    to_reg = λ r m ahead final. ap (λ (w : Wording). (coded w.words).to_reg r m) word_is ∙ loaded.as_loaded r m ∙ sym (it.as_loaded r m);
    taken = λ r m ahead final. ap (λ (n : Maker). length n.constants) (it.as_loaded r m) ∙ constant_taken made k number m has (before_load r k m (subst (λ (n : Maker). Final (length m.labels) n z) (it.as_loaded r m) final));
    multi = λ several. never_several e it.single several;
    multi_taken = λ several. never_several e it.single several;
  }
    where
      word_is : constant_word (slice_get f.of.constants number) ≡ literal_word k
      word_is = constant_word_is made k number has

  -- a folded number is the numeral of it
  pub number_rewritten : (e : Expression) (n : ℤ) (v : Value) → IsWhole n → fold e ≡ Some n → IsConstant g (Constant.Number n) v → Rewritten f g active listed z lefts before before e v
  number_rewritten e n v whole is (number, has, same) =
      subst (Rewritten f g active listed z lefts before before e) (sym same)
      (loaded_rewritten e (Constant.Number n) number has
      (record { named = numeral_plain n; single = numeral_single n; few = numeral_few n; as_loaded = numeral_loads n whole })
      (record { named = number_no_name e n is; single = number_single e n is; folded = fold_numeral n whole ∙ sym is; nameless = folded_nameless e n is; as_loaded = number_loads e n is })
      (λ bare. inl (omega (arith, numeral_few n, folded_room e n is))))

  pub text_rewritten : (line : ℕ) (text : Text) (v : Value) → IsConstant g (Constant.Text text) v → Rewritten f g active listed z lefts before before (text_literal line text) v
  text_rewritten line text v (number, has, same) =
      subst (Rewritten f g active listed z lefts before before (text_literal line text)) (sym same)
      (loaded_rewritten (text_literal line text) (Constant.Text text) number has
      (record { named = refl; single = refl; few = omega arith; as_loaded = λ r m. refl })
      (record { named = refl; single = refl; folded = refl; nameless = refl; as_loaded = λ r m. refl })
      (λ bare. inr (record { low = omega arith; binds = leaf_binds refl refl refl refl; bare_there = λ none. cc; unfolded = refl })))

  -- ---- literals that are words

  pub nil_rewritten : (line : ℕ) (v : Value) → v ≡ nil_value → Rewritten f g active listed z lefts before before (nil_literal line) v
  nil_rewritten line v is = subst (Rewritten f g active listed z lefts before before (nil_literal line)) (sym is) (record {
    can = refl;
    leaves = refl;
    makes = refl;
    named = λ n. refl;
    folded = λ n. refl;
    several = λ n. refl;
    gives = λ several. cc;
    few = λ n. omega arith;
    low = λ short formed m ahead is. inr (record { low = omega arith; binds = leaf_binds refl refl refl refl; bare_there = λ none. cc; unfolded = refl });
    keys = omega arith;
    as_local = λ n r m ahead is. cc;
    to_reg = λ r m ahead final. refl;
    taken = λ r m ahead final. refl;
    multi = λ several op want m ahead final. refl;
    multi_taken = λ several op want m ahead final. refl;
  })

  pub true_rewritten : (line : ℕ) (v : Value) → v ≡ bool_value true → Rewritten f g active listed z lefts before before (true_literal line) v
  true_rewritten line v is = subst (Rewritten f g active listed z lefts before before (true_literal line)) (sym is) (record {
    can = refl;
    leaves = refl;
    makes = refl;
    named = λ n. refl;
    folded = λ n. refl;
    several = λ n. refl;
    gives = λ several. cc;
    few = λ n. omega arith;
    low = λ short formed m ahead is. inr (record { low = omega arith; binds = leaf_binds refl refl refl refl; bare_there = λ none. cc; unfolded = refl });
    keys = omega arith;
    as_local = λ n r m ahead is. cc;
    to_reg = λ r m ahead final. refl;
    taken = λ r m ahead final. refl;
    multi = λ several op want m ahead final. refl;
    multi_taken = λ several op want m ahead final. refl;
  })

  pub false_rewritten : (line : ℕ) (v : Value) → v ≡ bool_value false → Rewritten f g active listed z lefts before before (false_literal line) v
  false_rewritten line v is = subst (Rewritten f g active listed z lefts before before (false_literal line)) (sym is) (record {
    can = refl;
    leaves = refl;
    makes = refl;
    named = λ n. refl;
    folded = λ n. refl;
    several = λ n. refl;
    gives = λ several. cc;
    few = λ n. omega arith;
    low = λ short formed m ahead is. inr (record { low = omega arith; binds = leaf_binds refl refl refl refl; bare_there = λ none. cc; unfolded = refl });
    keys = omega arith;
    as_local = λ n r m ahead is. cc;
    to_reg = λ r m ahead final. refl;
    taken = λ r m ahead final. refl;
    multi = λ several op want m ahead final. refl;
    multi_taken = λ several op want m ahead final. refl;
  })

  pub vararg_rewritten : (line : ℕ) (v : Value) → v ≡ vararg_value → Rewritten f g active listed z lefts before before (vararg_expression line) v
  vararg_rewritten line v is = subst (Rewritten f g active listed z lefts before before (vararg_expression line)) (sym is) (record {
    can = refl;
    leaves = refl;
    makes = refl;
    named = λ n. refl;
    folded = λ n. refl;
    several = λ n. refl;
    gives = λ several. refl;
    few = λ n. omega arith;
    low = λ short formed m ahead is. inr (record { low = omega arith; binds = leaf_binds refl refl refl refl; bare_there = λ none. refl; unfolded = refl });
    keys = omega arith;
    as_local = λ n r m ahead is. cc;
    to_reg = λ r m ahead final. refl;
    taken = λ r m ahead final. refl;
    multi = λ several op want m ahead final. refl;
    multi_taken = λ several op want m ahead final. results_take want m;
  })
    where
      results_take : (want : Want) (m : Maker) → length (vararg_at 1 Op.Call want m).constants ≡ length m.constants
      results_take None m = refl
      results_take (Some n) m = refl

-- ---- names

-- the code of a name by what it means
abbrev reads : ℕ → Text → Where → Part
reads r text w m = free_from m.free (read_where 1 r text w (pass_name m))

code_reads : (line : ℕ) (text : Text) (w : Where) (r : ℕ) (m : Maker) → next_name m ≡ w → (code (name_expression line text)).to_reg r m ≡ reads r text w m
code_reads line text w r m means = ap (λ w. reads r text w m) means

local_taken : (g : Fn) (text : Text) (w : Where) (v : Value) (n r : ℕ) → IsVariable g text w v → register_of w ≡ Some r → taken_behind v n ≡ n
local_taken g text (in_register x) v n r is register = ap (λ v. taken_behind v n) is
local_taken g text (in_upvalue slot) v n r is register = cc
local_taken g text in_globals v n r is register = cc

variable_single : (g : Fn) (text : Text) (w : Where) (v : Value) → IsVariable g text w v → can_be_several v ≡ false
variable_single g text (in_register x) v is = ap can_be_several is
variable_single g text (in_upvalue slot) v is = ap can_be_several is
variable_single g text in_globals v (number, has, is) = ap can_be_several is

variable_bare : (at : Place) (n : ℕ) (g : Fn) (text : Text) (w : Where) (v : Value) → IsVariable g text w v → is_bare at n v ≡ true
variable_bare at n g text (in_register x) v is = ap (is_bare at n) is
variable_bare at n g text (in_upvalue slot) v is = ap (is_bare at n) is
variable_bare at n g text in_globals v (number, has, is) = ap (is_bare at n) is

-- a variable can be written, and it is written as its name
pub record IsWritten (f : Function) (listed : List ℕ) (left : List (Option Inner)) (text : Text) (v : Value) : Type 0 where
  pub can : can_write (place f.of listed f.short) left v ≡ true
  pub leaves : left_by v left ≡ left
  pub word_is : (n : ℕ) → word (place f.of listed f.short) n left v ≡ single_word (name_expression 1 text)
  pub keys : keys_of v ≡ 0

module _ {f : Function} {g : Fn} {active : List Active} {listed : List ℕ} {z : Maker} (made : IsMadeBy f g active listed z) where
  -- the name that comes next means what the scope finds
  pub next_means : {before : ℕ} (text : Text) (w : Where) (others : List Mention) (m : Maker) → Means g.law active text w → IsAhead g active before (name_mention text ∷ others) m → next_name m ≡ w
  next_means text w others m means ahead =
      ap (where_is (head_or global_use m.ahead.names)) ahead.active_are ∙ made.certain text (where_is (head_or global_use m.ahead.names) active) w ahead.meant.0 means

  before_read : {j : ℕ} (r : ℕ) (text : Text) (m : Maker) → Final j (reads r text in_globals m) z → Final j (constant (Constant.Text text) (pass_name m)).after z
  before_read r text m final = before_put 1 (Piece.Abx Op.GetGlobal r (constant (Constant.Text text) (pass_name m)).value) (constant (Constant.Text text) (pass_name m)).after (before_free m.free (read_where 1 r text in_globals (pass_name m)) final)

  -- what a variable takes
  reads_taken : (text : Text) (w : Where) (v : Value) (r : ℕ) (m : Maker) → IsVariable g text w v → Final (length m.labels) (reads r text w m) z → length (reads r text w m).constants ≡ taken_behind v (length m.constants)
  reads_taken text (in_register x) v r m is final = ap (λ v. taken_behind v (length m.constants)) (sym is)
  reads_taken text (in_upvalue slot) v r m is final = ap (λ v. taken_behind v (length m.constants)) (sym is)
  reads_taken text in_globals v r m (number, has, is) final =
      constant_taken made (Constant.Text text) number (pass_name m) has (before_read r text m final) ∙ ap (λ v. taken_behind v (length m.constants)) (sym is)

  module _ (left : List (Option Inner)) where
    global_written : (text : Text) (number : ℕ) → is_good_name text ≡ true → HasNumber g (Constant.Text text) number → IsWritten f listed left text (global_value number)
    global_written text number good has =
        let there : constant_name (place f.of listed f.short) number ≡ Some text = ap (λ k. as_name (as_text k)) (constant_is made (Constant.Text text) number has) ∙ ap (λ good. if good then Some text else None) good in
        record { can = ap is_some there; leaves = refl; word_is = λ n. ap name_word there; keys = refl }

    pub variable_written : (text : Text) (w : Where) (v : Value) → is_good_name text ≡ true → IsListed f (length active) listed text w → IsVariable g text w v → IsWritten f listed left text v
    variable_written text (in_register x) v good there is =
        subst (IsWritten f listed left text) (sym is) (record { can = ap is_some there.1; leaves = refl; word_is = λ n. ap name_word there.1; keys = refl })
    variable_written text (in_upvalue slot) v good there is =
        subst (IsWritten f listed left text) (sym is) (record { can = ap is_some there; leaves = refl; word_is = λ n. ap name_word there; keys = refl })
    variable_written text in_globals v good there (number, has, is) = subst (IsWritten f listed left text) (sym is) (global_written text number good has)

module _ {f : Function} {g : Fn} {active : List Active} {listed : List ℕ} {z : Maker} {lefts : ℕ → List (Option Inner)} {before : ℕ} (made : IsMadeBy f g active listed z) where
  pub name_rewritten : (line : ℕ) (text : Text) (v : Value) → is_good_name text ≡ true → IsNamed g active text v → Rewritten f g active listed z lefts before before (name_expression line text) v
  name_rewritten line text v good (w, means, is) = record {
    can = written.can;
    leaves = written.leaves;
    makes = refl;
    named = λ n. ap (λ (w : Wording). is_name w.words) (written.word_is n);
    folded = λ n. ap (λ (w : Wording). fold w.words) (written.word_is n);
    several = λ n. ap (λ (w : Wording). is_multiple w.words) (written.word_is n) ∙ sym (variable_single g text w v is);
    gives = λ several. cc;
    few = λ n. omega (arith, ap (λ (w : Wording). w.levels) (written.word_is n));
    low = λ short formed m ahead made_so.
        let n = length m.constants in
        subst (λ (w : Wording). IsInRoom (is_bare (place f.of listed f.short) n v) (name_expression line text) w) (sym (written.word_is n))
        (inr (record { low = omega arith; binds = leaf_binds refl refl refl refl; bare_there = λ none. variable_bare (place f.of listed f.short) n g text w v is; unfolded = refl }));
    keys = omega (arith, written.keys);
    as_local = λ n r m ahead register. local_taken g text w v n r is (ap register_of (sym (next_means made text w [] m means ahead)) ∙ register);
    to_reg = λ r m ahead final. ap (λ (w : Wording). (coded w.words).to_reg r m) (written.word_is (length m.constants));
    taken = λ r m ahead final.
        let same = code_reads line text w r m (next_means made text w [] m means ahead) in
        ap (λ (n : Maker). length n.constants) same ∙ reads_taken made text w v r m is (subst (λ (n : Maker). Final (length m.labels) n z) same final);
    multi = λ several. cc;
    multi_taken = λ several. cc;
  }
    where
      written : IsWritten f listed (lefts before) text v
      written = variable_written made (lefts before) text w v good (made.all.listed_as text w means) is

-- ---- in parentheses

module _ {f : Function} {g : Fn} {active : List Active} {listed : List ℕ} {z : Maker} {lefts : ℕ → List (Option Inner)} {before behind : ℕ} where
  pub parenthesized_rewritten : (line : ℕ) (e : Expression) (v : Value) → Rewritten f g active listed z lefts before behind e v → Rewritten f g active listed z lefts before behind (parenthesized line e) v
  parenthesized_rewritten line e v rewritten = record {
    can = rewritten.can;
    leaves = rewritten.leaves;
    makes = rewritten.makes;
    named = rewritten.named;
    folded = rewritten.folded;
    several = rewritten.several;
    gives = λ several. cc;
    few = λ n. omega (arith, rewritten.few n);
    low = λ short formed m ahead is. parens_in _ line e (wording f listed z lefts before (length m.constants) v) (rewritten.low short formed m ahead (inside is));
    keys = omega (arith, rewritten.keys);
    as_local = rewritten.as_local;
    to_reg = rewritten.to_reg;
    taken = rewritten.taken;
    multi = λ several. cc;
    multi_taken = λ several. cc;
  }
    where
      inside : {m : Maker} → IsMadeAs (parenthesized line e) m z → IsMadeAs e m z
      inside (inl made) = inl made
      inside (inr (inl local)) = inr (inl local)
      inside (inr (inr (several, op, want, final))) = cc
