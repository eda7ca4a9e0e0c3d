-- Two operands in registers, a local and a number or a string, make the same in either order: what is loaded passes no name, and the local no constant.
use Rattle.std.proofs.Common.{◌≡◌, ℕ, ◌⊎◌, inl, inr, List, [], ◌++◌, length, Option, Some, None, ℤ, cond, false, true, refl, sym, ap, ap₂, ◌∙◌, subst, subst₂}
use Rattle.lua_tree.specs.OneLine.{one_line_expression}
use Rattle.lua_tree.specs.Syntax.{Expression, name_expression, parenthesized, text_literal}
use Rattle.lua_tree.specs.WellFormed.{formed_expression}
use Rattle.proto.specs.declared.parts.Constant.{Constant}
use Rattle.core_expr.specs.Counting.{left_by_operand, taken_behind_operand}
use Rattle.core_expr.specs.Places.{place}
use Rattle.core_expr.specs.Values.{Inner, OperandValue, local_value}
use Rattle.core_expr.specs.Writing.{word_operand}
use Rattle.recover_expr.specs.Situation.{Function}
use Rattle.scheme.specs.Expressions.{fold, is_name, is_small, literal, local_register, number_or, plain_literal, register_of, rk}
use Rattle.scheme.specs.Making.{Got, Maker, Where, in_globals, in_register, in_upvalue, next_name, pass_name, take_registers}
use Rattle.scheme.specs.Scheme.{coded}
use Rattle.scheme.specs.declared.making.Active.{Active}
use Rattle.scheme_order.specs.Turned.{is_constant_literal}
use Rattle.scheme_stands.proofs.Growth.{Final, before as before_part, calm}
use Rattle.scheme_stands.proofs.Parts.{grows, grows_rk}
use Rattle.scheme_stands.specs.Words.{Fn}
use Rattle.reads_back.specs.Cores.{HasCore, IsCore, IsVariable}
use Rattle.reads_back.proofs.ComparesSame.{Turns, ahead_left, ahead_right, front, x_got, y_got}
use Rattle.reads_back.proofs.ConstantsSame.{large_there, loads, number_loads}
use Rattle.reads_back.proofs.InRoom.{IsOperandInRoom}
use Rattle.reads_back.proofs.LeavesSame.{next_means}
use Rattle.reads_back.proofs.LocalOperands.{LiteralOperand, LocalOperand, name_no_literal, literal_no_name}
use Rattle.reads_back.proofs.Mentions.{AreMeant, IsAhead, Mention, coming, mentions_in}
use Rattle.reads_back.proofs.MentionsMeant.{literal_nameless}
use Rattle.reads_back.proofs.Rewriting.{IsMadeBy, RewrittenOperand, code}
use Rattle.reads_back.proofs.WordsSame.{operand_local, operand_next, rk_large, rk_plain, rk_small, same_literal, same_name}

-- ---- what they make

module _ {f : Function} {g : Fn} {active : List Active} {listed : List ℕ} {z : Maker} (made : IsMadeBy f g active listed z) where
  local_there : (e : Expression) → is_name e ≡ true → (r before behind : ℕ) → IsCore g active e before behind (local_value r) → (n : ℕ) (m : Maker) → IsAhead g active n (mentions_in e) m → local_register (one_line_expression e) m ≡ Some r
  local_there (name_expression line text) named r before behind (still, (w, means, is)) n m ahead = ap register_of (next_means made text w [] m means ahead) ∙ by w is
    where
      by : (w : Where) → IsVariable g text w (local_value r) → register_of w ≡ Some r
      by (in_register x) is = let same : x ≡ r = cc in ap Some same
      by (in_upvalue slot) is = cc
      by in_globals (number, has, is) = cc
  local_there (parenthesized line e) named r before behind inside n m ahead = local_there e named r before behind inside n m ahead
  local_there e named r before behind inside n m ahead = cc

  -- a local passes its name
  rk_local : {before behind : ℕ} {o : OperandValue} (e : Expression) (local : LocalOperand g active e before behind o) (n : ℕ) (m : Maker) → IsAhead g active n (mentions_in e) m → rk (code e) m ≡ record { value = local.register; after = pass_name m }
  rk_local {before} {behind} e local n m ahead =
      rk_plain (one_line_expression e) m (same_literal e ∙ name_no_literal e local.named)
      ∙ operand_local (one_line_expression e) local.register m (local_there e local.named local.register before behind local.inside n m ahead)

-- a number or a string is loaded
literal_loads : (e : Expression) (k : Constant) → literal e ≡ Some k → is_constant_literal (Some k) ≡ true → (r : ℕ) (m : Maker) → (code e).to_reg r m ≡ loads r k m
literal_loads e k is loaded r m = by (fold e) refl is
  where
    plain : (e : Expression) (k : Constant) → plain_literal e ≡ Some k → is_constant_literal (Some k) ≡ true → (code e).to_reg r m ≡ loads r k m
    plain (text_literal line text) k is loaded = let same : Constant.Text text ≡ k = cc in ap (λ k. loads r k m) same
    plain e k is loaded = cc

    by : (folded : Option ℤ) → fold e ≡ folded → number_or folded (plain_literal e) ≡ Some k → (code e).to_reg r m ≡ loads r k m
    by (Some n) known is = let same : Constant.Number n ≡ k = cc in number_loads e n known r m ∙ ap (λ k. loads r k m) same
    by None known is = plain e k is loaded

abbrev loaded_behind : Constant → Maker → Maker
loaded_behind k m = take_registers 1 (loads m.free k m)

rk_literal : (e : Expression) (k : Constant) → literal e ≡ Some k → is_constant_literal (Some k) ≡ true → (m : Maker) → is_small k m ≡ false → rk (code e) m ≡ record { value = m.free; after = loaded_behind k m }
rk_literal e k is loaded m large =
    rk_large (one_line_expression e) k m (same_literal e ∙ is) large
    ∙ operand_next (one_line_expression e) m (ap (λ named. cond named (register_of (next_name m)) None) (same_name e ∙ literal_no_name e k is))
    ∙ ap (λ (loaded : Maker). record { value = m.free; after = take_registers 1 loaded }) (literal_loads e k is loaded m.free m)

-- ---- in either order

module _ {f : Function} {g : Fn} {active : List Active} {listed : List ℕ} {z : Maker} {lefts : ℕ → List (Option Inner)} (made : IsMadeBy f g active listed z) {before mid behind : ℕ} (l r : Expression) (has_l : HasCore l) (has_r : HasCore r) {o1 o2 : OperandValue}
    (first : RewrittenOperand f g active listed z lefts before mid l o1) (second : RewrittenOperand f g active listed z lefts mid behind r o2) (m : Maker) (ahead : IsAhead g active before (mentions_in l ++ mentions_in r) m) (final : Final (length m.labels) (rk (code r) (rk (code l) m).after).after z) where
  abbrev x_here : Got ℕ
  x_here = x_got made l r has_l has_r first second m ahead final

  abbrev y_here : Got ℕ
  y_here = y_got made l r has_l has_r first second m ahead final

  first_final : Final (length m.labels) x_here.after z
  first_final = front made l r has_l has_r first second m ahead final

  before_first : Final (length m.labels) m z
  before_first = before_part (grows_rk {v = calm} (code l) (grows calm (one_line_expression l)) m) first_final

  -- the first one is loaded
  literal_first : LiteralOperand g l before mid → LocalOperand g active r mid behind o2 → Turns made l r has_l has_r first second m ahead final
  literal_first literal_is local = record { between = pass_name m; second_same = second_same; first_same = first_same; second_low = second_low; first_low = first_low }
    where
      k : Constant
      k = literal_is.constant

      small : is_small k m ≡ false
      small = large_there made k m literal_is.large (λ small. subst (λ (x : Got ℕ). Final (length m.labels) x.after z) (rk_small (one_line_expression l) k m (same_literal l ∙ literal_is.is) small) first_final)

      x_is : x_here ≡ record { value = m.free; after = loaded_behind k m }
      x_is = rk_literal l k literal_is.is literal_is.loaded m small

      after_is : x_here.after ≡ loaded_behind k m
      after_is = ap (λ (x : Got ℕ). x.after) x_is

      ahead_loaded : IsAhead g active mid (mentions_in r) (loaded_behind k m)
      ahead_loaded = subst (IsAhead g active mid (mentions_in r)) after_is (ahead_right made l r has_l has_r first second m ahead final)

      ahead_m : IsAhead g active mid (mentions_in r) m
      ahead_m = record { active_are = ahead_loaded.active_are; upvalues_are = ahead_loaded.upvalues_are; made_are = ahead_loaded.made_are; meant = ahead_loaded.meant }

      y_is : y_here ≡ record { value = local.register; after = pass_name (loaded_behind k m) }
      y_is = ap (rk (code r)) after_is ∙ rk_local made r local mid (loaded_behind k m) ahead_loaded

      r_is : rk (code r) m ≡ record { value = local.register; after = pass_name m }
      r_is = rk_local made r local mid m ahead_m

      final_y : Final (length m.labels) (pass_name (loaded_behind k m)) z
      final_y = subst (λ (y : Got ℕ). Final (length m.labels) y.after z) y_is final

      final_pass : Final (length m.labels) (pass_name m) z
      final_pass = let there = before_first in record { items = there.items; constants = there.constants; functions = there.functions; labels = there.labels; high = there.high; fine = there.fine; upvalues = there.upvalues; near = there.near }

      second_same : rk (coded (word_operand (place f.of listed f.short) (length m.constants) (lefts before) o2).words) m ≡ record { value = y_here.value; after = pass_name m }
      second_same =
          ap (λ before. rk (coded (word_operand (place f.of listed f.short) (length m.constants) (lefts before) o2).words) m) (sym literal_is.still)
          ∙ second.as_rk m ahead_m (subst (λ (y : Got ℕ). Final (length m.labels) y.after z) (sym r_is) final_pass)
          ∙ r_is
          ∙ ap (λ (y : Got ℕ). record { value = y.value; after = pass_name m }) (sym y_is)

      l_is : rk (code l) (pass_name m) ≡ record { value = m.free; after = pass_name (loaded_behind k m) }
      l_is = rk_literal l k literal_is.is literal_is.loaded (pass_name m) small

      ahead_l : IsAhead g active before (mentions_in l) (pass_name m)
      ahead_l =
          let there = ahead_left made l r has_l has_r first second m ahead final in
          record { active_are = there.active_are; upvalues_are = there.upvalues_are; made_are = there.made_are; meant = subst (λ (mentions : List Mention). AreMeant g active mentions (coming (pass_name m))) (sym (literal_nameless l k literal_is.is)) tt }

      first_same : rk (coded (word_operand (place f.of listed f.short) (taken_behind_operand o2 (length m.constants)) (left_by_operand o2 (lefts before)) o1).words) (pass_name m) ≡ record { value = x_here.value; after = y_here.after }
      first_same =
          ap (λ o. rk (coded (word_operand (place f.of listed f.short) (taken_behind_operand o (length m.constants)) (left_by_operand o (lefts before)) o1).words) (pass_name m)) local.is
          ∙ first.as_rk (pass_name m) ahead_l (subst (λ (x : Got ℕ). Final (length m.labels) x.after z) (sym l_is) final_y)
          ∙ l_is
          ∙ ap₂ (λ (value : ℕ) (after : Maker). record { value = value; after = after }) (ap (λ (x : Got ℕ). x.value) (sym x_is)) (ap (λ (y : Got ℕ). y.after) (sym y_is))

      second_low : f.short ≡ true → formed_expression r ≡ true → IsOperandInRoom r (word_operand (place f.of listed f.short) (length m.constants) (lefts before) o2)
      second_low short formed =
          subst (λ before. IsOperandInRoom r (word_operand (place f.of listed f.short) (length m.constants) (lefts before) o2)) literal_is.still
          (second.low short formed m ahead_m (subst (λ (y : Got ℕ). Final (length m.labels) y.after z) (sym r_is) final_pass))

      first_low : f.short ≡ true → formed_expression l ≡ true → IsOperandInRoom l (word_operand (place f.of listed f.short) (taken_behind_operand o2 (length m.constants)) (left_by_operand o2 (lefts before)) o1)
      first_low short formed =
          subst (λ o. IsOperandInRoom l (word_operand (place f.of listed f.short) (taken_behind_operand o (length m.constants)) (left_by_operand o (lefts before)) o1)) (sym local.is)
          (first.low short formed (pass_name m) ahead_l (subst (λ (x : Got ℕ). Final (length m.labels) x.after z) (sym l_is) final_y))

  -- the second one is loaded
  literal_second : LocalOperand g active l before mid o1 → LiteralOperand g r mid behind → Turns made l r has_l has_r first second m ahead final
  literal_second local literal_is = record { between = loaded_behind k m; second_same = second_same; first_same = first_same; second_low = second_low; first_low = first_low }
    where
      k : Constant
      k = literal_is.constant

      ahead_l : IsAhead g active before (mentions_in l) m
      ahead_l = ahead_left made l r has_l has_r first second m ahead final

      x_is : x_here ≡ record { value = local.register; after = pass_name m }
      x_is = rk_local made l local before m ahead_l

      after_is : x_here.after ≡ pass_name m
      after_is = ap (λ (x : Got ℕ). x.after) x_is

      y_here_is : rk (code r) (pass_name m) ≡ y_here
      y_here_is = ap (rk (code r)) (sym after_is)

      small : is_small k m ≡ false
      small = large_there made k (pass_name m) literal_is.large (λ small. subst (λ (y : Got ℕ). Final (length m.labels) y.after z) (rk_small (one_line_expression r) k (pass_name m) (same_literal r ∙ literal_is.is) small) (subst (λ (y : Got ℕ). Final (length m.labels) y.after z) (sym y_here_is) final))

      y_is : y_here ≡ record { value = m.free; after = pass_name (loaded_behind k m) }
      y_is = sym y_here_is ∙ rk_literal r k literal_is.is literal_is.loaded (pass_name m) small

      r_is : rk (code r) m ≡ record { value = m.free; after = loaded_behind k m }
      r_is = rk_literal r k literal_is.is literal_is.loaded m small

      final_y : Final (length m.labels) (pass_name (loaded_behind k m)) z
      final_y = subst (λ (y : Got ℕ). Final (length m.labels) y.after z) y_is final

      final_loaded : Final (length m.labels) (rk (code r) m).after z
      final_loaded =
          let there = final_y in
          subst (λ (y : Got ℕ). Final (length m.labels) y.after z) (sym r_is) (record { items = there.items; constants = there.constants; functions = there.functions; labels = there.labels; high = there.high; fine = there.fine; upvalues = there.upvalues; near = there.near })

      ahead_r : IsAhead g active mid (mentions_in r) m
      ahead_r =
          let there = subst (IsAhead g active mid (mentions_in r)) after_is (ahead_right made l r has_l has_r first second m ahead final) in
          record { active_are = there.active_are; upvalues_are = there.upvalues_are; made_are = there.made_are; meant = subst (λ (mentions : List Mention). AreMeant g active mentions (coming m)) (sym (literal_nameless r k literal_is.is)) tt }

      second_same : rk (coded (word_operand (place f.of listed f.short) (length m.constants) (lefts before) o2).words) m ≡ record { value = y_here.value; after = loaded_behind k m }
      second_same =
          ap (λ before. rk (coded (word_operand (place f.of listed f.short) (length m.constants) (lefts before) o2).words) m) (sym local.still)
          ∙ second.as_rk m ahead_r final_loaded
          ∙ r_is
          ∙ ap (λ (y : Got ℕ). record { value = y.value; after = loaded_behind k m }) (sym y_is)

      counted : taken_behind_operand o2 (length m.constants) ≡ length (loaded_behind k m).constants
      counted = sym (second.taken m ahead_r final_loaded) ∙ ap (λ (y : Got ℕ). length y.after.constants) r_is

      stays : left_by_operand o2 (lefts before) ≡ lefts before
      stays = ap (λ made. left_by_operand o2 (lefts made)) (sym local.still) ∙ second.leaves ∙ ap lefts (literal_is.still ∙ local.still)

      ahead_loaded : IsAhead g active before (mentions_in l) (loaded_behind k m)
      ahead_loaded = record { active_are = ahead_l.active_are; upvalues_are = ahead_l.upvalues_are; made_are = ahead_l.made_are; meant = ahead_l.meant }

      l_is : rk (code l) (loaded_behind k m) ≡ record { value = local.register; after = pass_name (loaded_behind k m) }
      l_is = rk_local made l local before (loaded_behind k m) ahead_loaded

      first_same : rk (coded (word_operand (place f.of listed f.short) (taken_behind_operand o2 (length m.constants)) (left_by_operand o2 (lefts before)) o1).words) (loaded_behind k m) ≡ record { value = x_here.value; after = y_here.after }
      first_same =
          ap₂ (λ n (fs : List (Option Inner)). rk (coded (word_operand (place f.of listed f.short) n fs o1).words) (loaded_behind k m)) counted stays
          ∙ first.as_rk (loaded_behind k m) ahead_loaded (subst (λ (x : Got ℕ). Final (length m.labels) x.after z) (sym l_is) final_y)
          ∙ l_is
          ∙ ap₂ (λ (value : ℕ) (after : Maker). record { value = value; after = after }) (ap (λ (x : Got ℕ). x.value) (sym x_is)) (ap (λ (y : Got ℕ). y.after) (sym y_is))

      second_low : f.short ≡ true → formed_expression r ≡ true → IsOperandInRoom r (word_operand (place f.of listed f.short) (length m.constants) (lefts before) o2)
      second_low short formed = subst (λ before. IsOperandInRoom r (word_operand (place f.of listed f.short) (length m.constants) (lefts before) o2)) local.still (second.low short formed m ahead_r final_loaded)

      first_low : f.short ≡ true → formed_expression l ≡ true → IsOperandInRoom l (word_operand (place f.of listed f.short) (taken_behind_operand o2 (length m.constants)) (left_by_operand o2 (lefts before)) o1)
      first_low short formed =
          subst₂ (λ n (fs : List (Option Inner)). IsOperandInRoom l (word_operand (place f.of listed f.short) n fs o1)) (sym counted) (sym stays)
          (first.low short formed (loaded_behind k m) ahead_loaded (subst (λ (x : Got ℕ). Final (length m.labels) x.after z) (sym l_is) final_y))

  -- a local, and a number or a string
  pub literal_turns : (LocalOperand g active l before mid o1 × LiteralOperand g r mid behind) ⊎ (LiteralOperand g l before mid × LocalOperand g active r mid behind o2) → Turns made l r has_l has_r first second m ahead final
  literal_turns (inl (local, literal_is)) = literal_second local literal_is
  literal_turns (inr (literal_is, local)) = literal_first literal_is local
