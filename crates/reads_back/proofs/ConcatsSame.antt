-- What is written of the operands of a `..` has the same code as they have along its right spine.
use Rattle.std.proofs.Common.{◌≡◌, ℕ, ◌+◌, ◌-◌, ◌*◌, ◌≤◌, Bool, true, false, List, ◌∷◌, ◌++◌, length, max, inl, inr, refl, sym, ap, ◌∙◌, subst, arith, nat_lt}
use Rattle.std.specs.Prelude.{Option, Some}
use Rattle.std.proofs.lemmas.Bool.{and_from}
use Rattle.lua_tree.specs.declared.tree.BinaryOp.{BinaryOp}
use Rattle.lua_tree.specs.OneLine.{one_line_expression}
use Rattle.lua_tree.specs.Precedence.{is_unary, left_binds, level_of, right_binds}
use Rattle.lua_tree.specs.Syntax.{Expression, and_expression, nil_literal, binary_expression, or_expression}
use Rattle.lua_tree.specs.WellFormed.{depth_of_expression, formed_expression, is_prefix}
use Rattle.opcode.specs.declared.op.Op.{Op}
use Rattle.core_expr.specs.Counting.{taken_behind, taken_behind_values, left_by, left_by_values}
use Rattle.core_expr.specs.Making.{deepest, made_concat}
use Rattle.core_expr.specs.Places.{Place, place}
use Rattle.core_expr.specs.Values.{Value, Values, no_values, and_value, Inner}
use Rattle.core_expr.specs.Writing.{Wording, can_write_values, chain, ends_values, is_bare, on_left, on_right, unless, with_binary, word_each}
use Rattle.recover_expr.specs.Situation.{Function}
use Rattle.scheme.specs.Making.{Maker, free_from, put, take_registers}
use Rattle.scheme.specs.Expressions.{fold, is_multiple, is_name, next_reg}
use Rattle.scheme.specs.Scheme.{coded}
use Rattle.scheme.specs.declared.making.Active.{Active}
use Rattle.scheme.specs.declared.making.Piece.{Piece}
use Rattle.scheme_stands.proofs.Growth.{calm, Final, before as before_part, before_free, before_put, before_take, later}
use Rattle.scheme_stands.proofs.Parts.{grows, grows_next}
use Rattle.scheme_stands.specs.Words.{Fn}
use Rattle.same_flow.specs.Space.{space_of_expression}
use Rattle.reads_back.proofs.Mentions.{IsAhead, ahead_behind, ahead_front, mentions_in, made_behind, made_both}
use Rattle.reads_back.proofs.PassedMentions.{PassesMentions, next_passes}
use Rattle.reads_back.proofs.OperatorsSame.{few_more}
use Rattle.reads_back.proofs.Tests.{first_of_both, given_is, not_so, second_of_both}
use Rattle.reads_back.proofs.InRoom.{left_in, right_in}
use Rattle.reads_back.proofs.WordsSame.{levels_wrapped, made_plainly, next_wrapped}
use Rattle.reads_back.proofs.Rewriting.{Rewritten, RewrittenSpine, code, wording}

-- ---- the spine of what is no `..`

abbrev pub is_joined : Expression → Bool
is_joined (binary_expression line BinaryOp.Concat l r) = true
is_joined e = false

-- its value goes to the next register
binary_alone : (line : ℕ) (op : BinaryOp) (l r : Expression) → is_joined (binary_expression line op l r) ≡ false → (m : Maker) → (coded (binary_expression line op l r)).spine m ≡ next_reg (coded (binary_expression line op l r)) m
binary_alone line BinaryOp.Add l r other m = refl
binary_alone line BinaryOp.Concat l r other m = absurd cc
binary_alone line op l r other m = refl

spine_alone : (e : Expression) → is_joined e ≡ false → (m : Maker) → (coded e).spine m ≡ next_reg (coded e) m
spine_alone (binary_expression line op l r) other m = binary_alone line op l r other m
spine_alone (nil_literal line) other m = refl
spine_alone e other m = refl

joined_on_one_line : (e : Expression) → is_joined (one_line_expression e) ≡ is_joined e
joined_on_one_line (binary_expression line BinaryOp.Concat l r) = refl
joined_on_one_line (binary_expression line op l r) = refl
joined_on_one_line e = refl

code_alone : (e : Expression) → is_joined e ≡ false → (m : Maker) → (code e).spine m ≡ next_reg (code e) m
code_alone e other m = spine_alone (one_line_expression e) (joined_on_one_line e ∙ other) m

-- what binds on the right of a `..` is none
bare_alone : (e : Expression) → right_binds 4 false e ≡ true → is_joined e ≡ false
bare_alone (binary_expression line BinaryOp.Concat l r) bare = absurd cc
bare_alone (binary_expression line op l r) bare = refl
bare_alone e bare = refl

tighter : (e : Expression) → is_joined e ≡ false → right_binds 4 true e ≡ true → right_binds 4 false e ≡ true
tighter (binary_expression line BinaryOp.Concat l r) other binds = absurd cc
tighter (binary_expression line BinaryOp.Lt l r) other binds = not_so binds
tighter (binary_expression line BinaryOp.Gt l r) other binds = not_so binds
tighter (binary_expression line BinaryOp.Le l r) other binds = not_so binds
tighter (binary_expression line BinaryOp.Ge l r) other binds = not_so binds
tighter (binary_expression line BinaryOp.Ne l r) other binds = not_so binds
tighter (binary_expression line BinaryOp.Eq l r) other binds = not_so binds
tighter (binary_expression line op l r) other binds = refl
tighter (and_expression line l r) other binds = not_so binds
tighter (or_expression line l r) other binds = not_so binds
tighter e other binds = refl

-- in parentheses too
last_alone : (bare : Bool) (w : Wording) → (bare ≡ true → is_joined w.words ≡ false) → (m : Maker) → (coded (unless bare w).words).spine m ≡ next_reg (coded w.words) m
last_alone true w other m = spine_alone w.words (other refl) m
last_alone false w other m = refl

-- ---- the last operand

module _ {f : Function} {g : Fn} {active : List Active} {listed : List ℕ} {z : Maker} {lefts : ℕ → List (Option Inner)} {before behind : ℕ} {e : Expression} {v : Value}
    (value : Rewritten f g active listed z lefts before behind e v) (alone : (m : Maker) → (code e).spine m ≡ next_reg (code e) m) where
  alone_few : (n : ℕ) → (on_right BinaryOp.Concat (wording f listed z lefts before n v)).levels ≤ 3 * depth_of_expression e + 203
  alone_few n =
      let w = wording f listed z lefts before n v in
      let one = levels_wrapped (right_binds 4 false w.words) w in
      omega (arith, value.few n, one)

  module _ (m : Maker) (ahead : IsAhead g active before (mentions_in e) m) (final : Final (length m.labels) ((code e).spine m) z) where
    alone_final : Final (length m.labels) ((code e).to_reg m.free m) z
    alone_final = before_take 1 ((code e).to_reg m.free m) (subst (λ n. Final (length m.labels) n z) (alone m) final)

    alone_spine : (coded (on_right BinaryOp.Concat (wording f listed z lefts before (length m.constants) v)).words).spine m ≡ (code e).spine m
    alone_spine =
        let w = wording f listed z lefts before (length m.constants) v in
        last_alone (right_binds 4 false w.words) w (bare_alone w.words) m ∙ ap (take_registers 1) (value.to_reg m.free m ahead alone_final) ∙ sym (alone m)

    alone_low : is_joined e ≡ false → f.short ≡ true → formed_expression e ≡ true → right_binds 4 true e ≡ true → (on_right BinaryOp.Concat (wording f listed z lefts before (length m.constants) v)).levels ≤ space_of_expression e
    alone_low other short formed binds =
        right_in (is_bare (place f.of listed f.short) (length m.constants) v) e (wording f listed z lefts before (length m.constants) v) 4 false (value.low short formed m ahead (inl (m.free, alone_final))) (tighter e other binds)

    alone_taken : length ((code e).spine m).constants ≡ taken_behind v (length m.constants)
    alone_taken = ap (λ n. length n.constants) (alone m) ∙ value.taken m.free m ahead alone_final

module _ {f : Function} {g : Fn} {active : List Active} {listed : List ℕ} {z : Maker} {lefts : ℕ → List (Option Inner)} {before behind : ℕ} where
  pub spine_of_one : (e : Expression) (v : Value) → Rewritten f g active listed z lefts before behind e v → is_joined e ≡ false → RewrittenSpine f g active listed z lefts before behind e (and_value v no_values)
  spine_of_one e v value other = let alone = code_alone e other in record {
    can = and_from _ _ value.can refl;
    leaves = value.leaves;
    makes = value.makes;
    few = alone_few value alone;
    low = λ short formed binds m ahead final. alone_low value alone m ahead final other short formed binds;
    spine = alone_spine value alone;
    taken = alone_taken value alone;
  }

-- ---- an operand, and those behind it

-- a value with others behind it is joined to them
chain_is : (at : Place) (n : ℕ) (fs : List (Option Inner)) (w : Wording) (rest : Values) → ends_values rest ≡ false → chain (w ∷ word_each at n fs rest) ≡ with_binary BinaryOp.Concat (on_left BinaryOp.Concat w) (chain (word_each at n fs rest))
chain_is at n fs w no_values some = absurd cc
chain_is at n fs w (and_value v rest) some = refl

module _ {f : Function} {g : Fn} {active : List Active} {listed : List ℕ} {z : Maker} {lefts : ℕ → List (Option Inner)} {before mid behind : ℕ} {l r : Expression} {v : Value} {rest : Values}
    (first : Rewritten f g active listed z lefts before mid l v) (others : RewrittenSpine f g active listed z lefts mid behind r rest) (some : ends_values rest ≡ false) where
  -- what is written, where so many constants are taken behind the first
  joined_is : (n m : ℕ) → taken_behind v n ≡ m →
      chain (word_each (place f.of listed f.short) n (lefts before) (and_value v rest)) ≡ with_binary BinaryOp.Concat (on_left BinaryOp.Concat (wording f listed z lefts before n v)) (chain (word_each (place f.of listed f.short) m (lefts mid) rest))
  joined_is n m taken =
      let at = place f.of listed f.short in
      let w = wording f listed z lefts before n v in
      chain_is at (taken_behind v n) (left_by v (lefts before)) w rest some
      ∙ ap (λ fs. with_binary BinaryOp.Concat (on_left BinaryOp.Concat w) (chain (word_each at (taken_behind v n) fs rest))) first.leaves
      ∙ ap (λ n. with_binary BinaryOp.Concat (on_left BinaryOp.Concat w) (chain (word_each at n (lefts mid) rest))) taken

  joined_few : (n : ℕ) → (chain (word_each (place f.of listed f.short) n (lefts before) (and_value v rest))).levels ≤ 3 * (1 + max (depth_of_expression l) (depth_of_expression r)) + 202
  joined_few n =
      let w = wording f listed z lefts before n v in
      let n' = taken_behind v n in
      let u = chain (word_each (place f.of listed f.short) n' (lefts mid) rest) in
      let same : (chain (word_each (place f.of listed f.short) n (lefts before) (and_value v rest))).levels ≡ (with_binary BinaryOp.Concat (on_left BinaryOp.Concat w) u).levels = ap (λ w. w.levels) (joined_is n n' refl) in
      let one = levels_wrapped (left_binds 4 true w.words) w in
      let all = few_more (max (on_left BinaryOp.Concat w).levels u.levels) in
      omega (arith, first.few n, others.few n', same, one, all)

  module _ (kept : PassesMentions (mentions_in l) (code l)) (m : Maker) (ahead : IsAhead g active before (mentions_in l ++ mentions_in r) m) (final : Final (length m.labels) ((code r).spine (next_reg (code l) m)) z) where
    first_ahead : IsAhead g active before (mentions_in l) m
    first_ahead = ahead_front (mentions_in l) (mentions_in r) ahead

    others_ahead : IsAhead g active mid (mentions_in r) (next_reg (code l) m)
    others_ahead = ahead_behind (mentions_in l) (mentions_in r) first.makes (next_passes (mentions_in l) (code l) kept m) ahead

    first_final : Final (length m.labels) ((code l).to_reg m.free m) z
    first_final =
        let grown = grows calm (one_line_expression r) in
        before_take 1 ((code l).to_reg m.free m) (before_part (grown.spine (next_reg (code l) m)) final)

    others_final : Final (length (next_reg (code l) m).labels) ((code r).spine (next_reg (code l) m)) z
    others_final = let grown = grows_next {v = calm} (code l) (grows calm (one_line_expression l)) m in later grown.more final

    joined_here : chain (word_each (place f.of listed f.short) (length m.constants) (lefts before) (and_value v rest)) ≡
        with_binary BinaryOp.Concat (on_left BinaryOp.Concat (wording f listed z lefts before (length m.constants) v)) (chain (word_each (place f.of listed f.short) (length (next_reg (code l) m).constants) (lefts mid) rest))
    joined_here = joined_is (length m.constants) (length (next_reg (code l) m).constants) (sym (first.taken m.free m first_ahead first_final))

    parts_same : (coded (chain (word_each (place f.of listed f.short) (length (next_reg (code l) m).constants) (lefts mid) rest)).words).spine
        (next_reg (coded (on_left BinaryOp.Concat (wording f listed z lefts before (length m.constants) v)).words) m) ≡ (code r).spine (next_reg (code l) m)
    parts_same =
        let w = wording f listed z lefts before (length m.constants) v in
        let u = chain (word_each (place f.of listed f.short) (length (next_reg (code l) m).constants) (lefts mid) rest) in
        ap (coded u.words).spine (next_wrapped (left_binds 4 true w.words) w m ∙ ap (take_registers 1) (first.to_reg m.free m first_ahead first_final))
        ∙ others.spine (next_reg (code l) m) others_ahead others_final

    -- in the forms of fewest levels
    joined_low : (line : ℕ) → f.short ≡ true → formed_expression (binary_expression line BinaryOp.Concat l r) ≡ true → (chain (word_each (place f.of listed f.short) (length m.constants) (lefts before) (and_value v rest))).levels ≤ 1 + max (space_of_expression l) (space_of_expression r)
    joined_low line short formed =
        let w = wording f listed z lefts before (length m.constants) v in
        let u = chain (word_each (place f.of listed f.short) (length (next_reg (code l) m).constants) (lefts mid) rest) in
        let binds = second_of_both (left_binds 4 true l) _ formed in
        let parts = second_of_both (right_binds 4 true r) _ binds in
        let one = left_in (is_bare (place f.of listed f.short) (length m.constants) v) l w 4 true (first.low short (first_of_both _ _ parts) m first_ahead (inl (m.free, first_final))) (first_of_both _ _ formed) in
        let other = others.low short (second_of_both (formed_expression l) _ parts) (first_of_both _ _ binds) (next_reg (code l) m) others_ahead others_final in
        let all = few_more (max (on_left BinaryOp.Concat w).levels u.levels) in
        omega (arith, ap (λ (w : Wording). w.levels) joined_here, one, other, all)

    joined_taken : length ((code r).spine (next_reg (code l) m)).constants ≡ taken_behind_values rest (taken_behind v (length m.constants))
    joined_taken = others.taken (next_reg (code l) m) others_ahead others_final ∙ ap (taken_behind_values rest) (first.taken m.free m first_ahead first_final)

  joined_can : can_write_values (place f.of listed f.short) (lefts before) (and_value v rest) ≡ true
  joined_can = and_from _ _ first.can (ap (λ fs. can_write_values (place f.of listed f.short) fs rest) first.leaves ∙ others.can)

-- ---- the CONCAT

-- the word behind the operands
abbrev behind_operands : (to : ℕ) → Maker → Maker → Maker
behind_operands to m n = free_from m.free (put 1 (Piece.Abc Op.Concat to m.free (n.free - 1)) n)

module _ {f : Function} {g : Fn} {active : List Active} {listed : List ℕ} {z : Maker} {lefts : ℕ → List (Option Inner)} {before mid behind : ℕ} where
  pub spine_of_first : (line : ℕ) (l r : Expression) (v : Value) (rest : Values) → Rewritten f g active listed z lefts before mid l v → RewrittenSpine f g active listed z lefts mid behind r rest → ends_values rest ≡ false → PassesMentions (mentions_in l) (code l) →
      RewrittenSpine f g active listed z lefts before behind (binary_expression line BinaryOp.Concat l r) (and_value v rest)
  spine_of_first line l r v rest first others some kept = record {
    can = joined_can first others some;
    leaves = ap (left_by_values rest) first.leaves ∙ others.leaves;
    makes = others.makes ∙ ap (made_behind (mentions_in r)) first.makes ∙ sym (made_both (mentions_in l) (mentions_in r) before);
    few = λ n. let few = joined_few first others some n in omega (arith, few);
    low = λ short formed binds m ahead final. joined_low first others some kept m ahead final line short formed;
    spine = λ m ahead final. ap (λ w. (coded w.words).spine m) (joined_here first others some kept m ahead final) ∙ parts_same first others some kept m ahead final;
    taken = λ m ahead final. joined_taken first others some kept m ahead final;
  }

  pub concat_rewritten : (line : ℕ) (l r : Expression) (first : Value) (rest : Values) (v : Value) → Rewritten f g active listed z lefts before mid l first → RewrittenSpine f g active listed z lefts mid behind r rest → ends_values rest ≡ false → PassesMentions (mentions_in l) (code l) →
      made_concat (and_value first rest) ≡ Some v → Rewritten f g active listed z lefts before behind (binary_expression line BinaryOp.Concat l r) v
  concat_rewritten line l r of rest v first others some kept made = subst (Rewritten f g active listed z lefts before behind (binary_expression line BinaryOp.Concat l r)) (given_is (nat_lt (deepest (and_value of rest)) 400) _ v made) (record {
    can = joined_can first others some;
    leaves = ap (left_by_values rest) first.leaves ∙ others.leaves;
    makes = others.makes ∙ ap (made_behind (mentions_in r)) first.makes ∙ sym (made_both (mentions_in l) (mentions_in r) before);
    named = λ n. ap (λ w. is_name w.words) (joined_is first others some n (taken_behind of n) refl);
    folded = λ n. ap (λ w. fold w.words) (joined_is first others some n (taken_behind of n) refl);
    several = λ n. ap (λ w. is_multiple w.words) (joined_is first others some n (taken_behind of n) refl);
    gives = λ is. cc;
    few = joined_few first others some;
    low = λ short formed m ahead is.
        made_plainly (binary_expression line BinaryOp.Concat l r) m refl refl (λ to final.
        let binds = ap (λ (w : Wording). w.words) (joined_is first others some (length m.constants) (taken_behind of (length m.constants)) refl) in
        inr (record {
          low = joined_low first others some kept m ahead (operands_final to m final) line short formed;
          binds = record { prefix = ap is_prefix binds; level = ap level_of binds; unary = ap is_unary binds; several = ap is_multiple binds };
          bare_there = λ literal. refl;
          unfolded = refl;
        })) is;
    keys = omega arith;
    as_local = λ n r m ahead is. cc;
    to_reg = λ to m ahead final.
        let final = operands_final to m final in
        ap (λ w. (coded w.words).to_reg to m) (joined_here first others some kept m ahead final) ∙ ap (behind_operands to m) (parts_same first others some kept m ahead final);
    taken = λ to m ahead final. joined_taken first others some kept m ahead (operands_final to m final);
    multi = λ is. cc;
    multi_taken = λ is. cc;
  })
    where
      operands_final : (to : ℕ) (m : Maker) → Final (length m.labels) ((code (binary_expression line BinaryOp.Concat l r)).to_reg to m) z → Final (length m.labels) ((code r).spine (next_reg (code l) m)) z
      operands_final to m final =
          let n = (code r).spine (next_reg (code l) m) in
          let word = Piece.Abc Op.Concat to m.free (n.free - 1) in
          before_put 1 word n (before_free m.free (put 1 word n) final)
