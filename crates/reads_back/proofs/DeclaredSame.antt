-- What is written of values that are adjusted to a count makes the same code as the expressions, whichever of the values are written; and so does what is written of a `local` statement.
use Rattle.reads_back.proofs.Rooms.{some_room}
use Rattle.lua_tree.specs.Names.{are_some_names}
use Rattle.std.proofs.Common.{◌≡◌, ℕ, suc, ◌+◌, ◌-◌, ◌*◌, ◌≤◌, ◌<◌, Bool, true, false, cond, List, [], ◌∷◌, length, nat_lt, lt-ltb, Option, Some, None, refl, sym, ap, ◌∙◌, subst, arith, ap₂, max}
use Rattle.std.proofs.lemmas.Bool.{eqb-true, eqb-false, le-ltb, ltb-false, ltb-true}
use Rattle.std.specs.Prelude.{◌&&◌, ◌==◌, not}
use Rattle.lua_num.specs.Bytes.{Text}
use Rattle.lua_tree.specs.OneLine.{one_line_expressions}
use Rattle.lua_tree.specs.Syntax as syntax
use Rattle.lua_tree.specs.Syntax.{Expressions, no_expressions, argument_list, nil_literal, local_statement}
use Rattle.lua_tree.specs.WellFormed.{depth_of_expressions, formed_expressions}
use Rattle.opcode.specs.declared.op.Op.{Op}
use Rattle.core_expr.specs.Counting.{taken_behind_values, left_by_values, taken_behind, left_by}
use Rattle.core_expr.specs.Places.{place, Place}
use Rattle.core_expr.specs.Values.{Value, nil_value, Values, and_value, Inner, no_values}
use Rattle.core_expr.specs.Writing.{can_write_values, is_multiple as can_be_several, word_values, word, unless, ends_values}
use Rattle.recover_expr.specs.Entries.{Listed, and_last_value}
use Rattle.recover_expr.specs.Lists.{before_last, is_nil, split_last, value_count}
use Rattle.recover_expr.specs.Situation.{Function}
use Rattle.scheme.specs.Expressions.{Coded, next_reg}
use Rattle.scheme.specs.Lists.{adjust, all_multi, all_next, ends_open as opens, filled, nils}
use Rattle.scheme.specs.Making.{Maker, activate, declare, free_from, put, take_registers}
use Rattle.scheme.specs.Scheme.{coded}
use Rattle.scheme.specs.Statements.{local_part}
use Rattle.scheme.specs.declared.making.Active.{Active}
use Rattle.scheme.specs.declared.making.Local.{Local}
use Rattle.scheme.specs.declared.making.Piece.{Piece}
use Rattle.scheme_stands.proofs.Growth.{Final, before as before_part, before_free, before_put, before_take, calm, later, loose}
use Rattle.scheme_stands.proofs.Lines.{all_next_free, grows_activate, grows_declare}
use Rattle.scheme_stands.proofs.Parts.{grow_all}
use Rattle.scheme_stands.specs.Words.{Fn}
use Rattle.same_flow.specs.Space.{space_of_expressions}
use Rattle.reads_back.specs.Acted.{declared, declared_values, ends_with_nil, filled as filled_values, without_nil}
use Rattle.reads_back.specs.Cores.{AllHaveCores, AreCores, ends_open}
use Rattle.reads_back.proofs.DeclaredValues.{nil_last}
use Rattle.reads_back.proofs.GivenSame.{AllRewritten, list_rewritten}
use Rattle.reads_back.proofs.AdjustedEntries.{count_last, last_split, taken_end}
use Rattle.reads_back.proofs.ListsSame.{EachFine, can_last, codes_of, coded_count, cores_count, cores_fine, fine_front, fine_last, left_last, list_closed, list_few, multi_all, multi_all_taken, next_all, next_all_taken, nil_next, opens_is, values_coded, multi_all_low, next_all_low, stays_bare}
use Rattle.reads_back.proofs.Mentions.{IsAhead, ahead_behind, locals_mention, mentions_in_all, made_behind, declare_passes}
use Rattle.reads_back.proofs.Rewriting.{IsMadeBy, RewrittenAct, RewrittenGiven}
use Rattle.reads_back.proofs.Tests.{and_not, first_of_both, not_so, second_of_both}

-- ---- a last nil of values

no_nil : (v : Value) → can_be_several v ≡ true → is_nil v ≡ false
no_nil nil_value several = cc
no_nil v several = refl

-- ---- the levels of what is written with a nil behind it

-- the last one cannot give several
abbrev LastSingle : Values → Type 0
LastSingle no_values = Unit {0}
LastSingle (and_value v no_values) = can_be_several v ≡ false
LastSingle (and_value v rest) = LastSingle rest

front_single : (front : Values) → ends_with_nil (and_last_value front nil_value) ≡ true → LastSingle front
front_single no_values is = tt
front_single (and_value v no_values) is = not_true (can_be_several v) is
  where
    not_true : (several : Bool) → not several ≡ true → several ≡ false
    not_true true is = cc
    not_true false is = refl
front_single (and_value v (and_value w no_values)) is = front_single (and_value w no_values) is
front_single (and_value v (and_value w (and_value u rest))) is = front_single (and_value w (and_value u rest)) is

module _ (at : Place) where
  -- that nil needs one
  nil_levels : (n : ℕ) (fs : List (Option Inner)) (vs : Values) → (word_values at n fs (and_last_value vs nil_value) true).levels ≤ max 1 (word_values at n fs vs true).levels
  nil_levels n fs no_values = omega arith
  nil_levels n fs (and_value v rest) =
      let w = word at n fs v in
      let one = ap (λ (stays : Bool). (unless stays w).levels) (stays_bare (ends_values (and_last_value rest nil_value)) (can_be_several v)) in
      let other = ap (λ (stays : Bool). (unless stays w).levels) (stays_bare (ends_values rest) (can_be_several v)) in
      omega (arith, one, other, nil_levels (taken_behind v n) (left_by v fs) rest)

  front_levels : (n : ℕ) (fs : List (Option Inner)) (vs : Values) → (word_values at n fs vs true).levels ≤ (word_values at n fs (and_last_value vs nil_value) true).levels
  front_levels n fs no_values = omega arith
  front_levels n fs (and_value v rest) =
      let w = word at n fs v in
      let one = ap (λ (stays : Bool). (unless stays w).levels) (stays_bare (ends_values (and_last_value rest nil_value)) (can_be_several v)) in
      let other = ap (λ (stays : Bool). (unless stays w).levels) (stays_bare (ends_values rest) (can_be_several v)) in
      omega (arith, one, other, front_levels (taken_behind v n) (left_by v fs) rest)

  -- none stands in parentheses where the last one cannot give several
  bare_levels : (n : ℕ) (fs : List (Option Inner)) (vs : Values) → LastSingle vs → (word_values at n fs vs false).levels ≤ (word_values at n fs vs true).levels
  bare_levels n fs no_values single = omega arith
  bare_levels n fs (and_value v no_values) single =
      let w = word at n fs v in
      let one = ap (λ (several : Bool). (unless (not several) w).levels) single in
      omega (arith, one)
  bare_levels n fs (and_value v (and_value u rest)) single = omega (arith, bare_levels (taken_behind v n) (left_by v fs) (and_value u rest) single)

none_last : (vs : Values) → and_last_value vs nil_value ≡ no_values → ⊥
none_last no_values is = cc
none_last (and_value v rest) is = cc

room_for_nil : (es : Expressions) → (es ≡ no_expressions → ⊥) → 1 ≤ space_of_expressions es
room_for_nil no_expressions some = absurd (some refl)
room_for_nil (syntax.expression e es) some = omega (arith, some_room e)

-- where no values are given, none are written
none_declared : (count : ℕ) (vs : Values) (all : Bool) → declared_values count false no_values ≡ record { values = vs; all = all } → vs ≡ no_values
none_declared count vs all is = by (nat_lt 1 count) (1 == count) refl is
  where
    none_out : (out : Bool) → (without_nil (out && false) no_values).values ≡ no_values
    none_out true = refl
    none_out false = refl

    one_out : (one : Bool) → one ≡ true → (without_nil (one && true) (and_value nil_value no_values)).values ≡ no_values
    one_out true is = refl
    one_out false is = cc

    by : (some one : Bool) → (1 == count) ≡ one → filled_values some count one no_values ≡ record { values = vs; all = all } → vs ≡ no_values
    by true one known is = sym (ap (λ (list : Listed). list.values) is)
    by false true known is = sym (ap (λ (list : Listed). list.values) is) ∙ one_out (1 == count) known
    by false false known is = sym (ap (λ (list : Listed). list.values) is) ∙ none_out (0 == count)

-- ---- the registers of the locals

-- one register is cleared as by a nil
pub nils_one : (m : Maker) → nils 1 1 m ≡ next_reg (coded (nil_literal 1)) m
nils_one m = let same : m.free + 1 - 1 ≡ m.free = omega arith in ap (λ last. put 1 (Piece.Abc Op.LoadNil m.free last 0) (take_registers 1 m)) same

before_nils : {k : ℕ} {z : Maker} (n : ℕ) (m : Maker) → Final k (nils 1 n m) z → Final k m z
before_nils n m final = before_take n m (before_put 1 (Piece.Abc Op.LoadNil m.free (m.free + n - 1) 0) (take_registers n m) final)

adjust_more : (cs : List Coded) (n : ℕ) (m : Maker) → n ≤ length cs → adjust 1 cs n m ≡ free_from (m.free + n) (all_next cs m)
adjust_more cs n m enough = ap (λ fewer. cond fewer (filled 1 cs (n - length cs)) (λ k. free_from (m.free + n) (all_next cs k)) m) (le-ltb (length cs) n enough)

adjust_fewer : (cs : List Coded) (n : ℕ) (m : Maker) → length cs < n → adjust 1 cs n m ≡ filled 1 cs (n - length cs) m
adjust_fewer cs n m fewer = ap (λ fewer. cond fewer (filled 1 cs (n - length cs)) (λ k. free_from (m.free + n) (all_next cs k)) m) (lt-ltb (length cs) n fewer)

adjust_open : (cs : List Coded) (n : ℕ) (m : Maker) → length cs < n → opens cs ≡ true → adjust 1 cs n m ≡ all_multi Op.Call (Some (n - length cs + 1)) cs m
adjust_open cs n m fewer is = adjust_fewer cs n m fewer ∙ ap (λ several. cond several (all_multi Op.Call (Some (n - length cs + 1)) cs) (λ m. nils 1 (n - length cs) (all_next cs m)) m) is

pub adjust_closed : (cs : List Coded) (n : ℕ) (m : Maker) → length cs < n → opens cs ≡ false → adjust 1 cs n m ≡ nils 1 (n - length cs) (all_next cs m)
adjust_closed cs n m fewer is = adjust_fewer cs n m fewer ∙ ap (λ several. cond several (all_multi Op.Call (Some (n - length cs + 1)) cs) (λ m. nils 1 (n - length cs) (all_next cs m)) m) is

-- F is there already
free_there : (r : ℕ) (m : Maker) → m.free ≡ r → free_from r m ≡ m
free_there r m is = ap (λ r. free_from r m) (sym is)

-- ---- what is declared

pub declare_constants : (names : List Text) (m : Maker) → (declare names m).after.constants ≡ m.constants
declare_constants [] m = refl
declare_constants (name ∷ names) m = declare_constants names _

pub activate_constants : (locals : List Local) (m : Maker) → (activate locals m).constants ≡ m.constants
activate_constants [] m = refl
activate_constants (local ∷ locals) m = activate_constants locals _

-- lists that count as much are both open or both closed
count_opens : (a b : Bool) (x y : ℕ) → ◌≡◌ {A = Option ℕ} (cond a None (Some x)) (cond b None (Some y)) → a ≡ b
count_opens true true x y same = refl
count_opens true false x y same = cc
count_opens false true x y same = cc
count_opens false false x y same = refl

module _ (f : Function) (g : Fn) (active : List Active) (listed : List ℕ) (z : Maker) (lefts : ℕ → List (Option Inner)) where
  -- the last one gives several, so it is no nil
  open_no_nil : (es : Expressions) (before behind : ℕ) (vs : Values) → AllRewritten f g active listed z lefts es → AreCores g active es before behind vs → ends_open es ≡ true → ends_with_nil vs ≡ false
  open_no_nil no_expressions before behind vs written are ends = not_so ends
  open_no_nil (syntax.expression e no_expressions) before behind vs written (mid, (v, rest, core, (as_many, none), is)) ends = ap ends_with_nil (is ∙ ap (and_value v) none) ∙ no_nil v ((written.0 before mid v core).gives ends)
  open_no_nil (syntax.expression e (syntax.expression d no_expressions)) before behind vs written (mid, (v, rest, core, (last, (w, more, w_core, (as_many, none), w_is)), is)) ends =
      ap ends_with_nil (is ∙ ap (and_value v) (w_is ∙ ap (and_value w) none)) ∙ ap (λ nil. nil && not (can_be_several v)) (no_nil w ((written.1.0 mid last w w_core).gives ends))
  open_no_nil (syntax.expression e (syntax.expression d (syntax.expression x es))) before behind vs written (mid, (v, rest, core, are, is)) ends =
      let second = are.1 in
      let third = second.3.1 in
      let two = second.4 ∙ ap (and_value second.0) third.4 in
      ap ends_with_nil (is ∙ ap (and_value v) two) ∙ ap ends_with_nil (sym two) ∙ open_no_nil (syntax.expression d (syntax.expression x es)) mid behind rest written.1 are ends

module _ (f : Function) (g : Fn) (active : List Active) (listed : List ℕ) (z : Maker) (lefts : ℕ → List (Option Inner)) (before behind : ℕ) where
  -- ---- what is asked of the values that are written

  pub record Adjusts (count : ℕ) (es : Expressions) (vs : Values) (all : Bool) : Type 0 where
    pub can : can_write_values (place f.of listed f.short) (lefts before) vs ≡ true
    pub leaves : left_by_values vs (lefts before) ≡ lefts behind
    pub makes : behind ≡ made_behind (mentions_in_all es) before
    pub fine : (n : ℕ) → EachFine (place f.of listed f.short) (3 * depth_of_expressions es + 202) n (lefts before) vs
    -- in the forms of fewest levels, where there are values if any are written
    pub low : (es ≡ no_expressions → vs ≡ no_values) → f.short ≡ true → formed_expressions es ≡ true → (m : Maker) → IsAhead g active before (mentions_in_all es) m → Final (length m.labels) (adjust 1 (codes_of es) count m) z →
        (word_values (place f.of listed f.short) (length m.constants) (lefts before) vs all).levels ≤ space_of_expressions es
    pub same : (m : Maker) → IsAhead g active before (mentions_in_all es) m → Final (length m.labels) (adjust 1 (codes_of es) count m) z →
        adjust 1 (values_coded (place f.of listed f.short) (length m.constants) (lefts before) vs all) count m ≡ adjust 1 (codes_of es) count m
    pub taken : (m : Maker) → IsAhead g active before (mentions_in_all es) m → Final (length m.labels) (adjust 1 (codes_of es) count m) z → length (adjust 1 (codes_of es) count m).constants ≡ taken_behind_values vs (length m.constants)

  -- the names are declared before the values, and active behind them
  adjusts_act : (names : List Text) (es : Expressions) (vs : Values) (all : Bool) → Adjusts (length names) es vs all → (es ≡ no_expressions → vs ≡ no_values) → RewrittenAct f g active listed z lefts before behind (local_statement names es) (declared names vs all)
  adjusts_act names es vs all adjusts some = record {
    can = adjusts.can;
    leaves = adjusts.leaves;
    makes = adjusts.makes;
    few = λ n. omega (arith, list_few (place f.of listed f.short) (3 * depth_of_expressions es + 202) n (lefts before) vs all (adjusts.fine n));
    low = λ short formed m ahead final.
        let low = adjusts.low some short (second_of_both (are_some_names names) _ formed) (declare names m).after (names_ahead m ahead) (inner m final) in
        let same = ap (λ constants. (word_values (place f.of listed f.short) (length constants) (lefts before) vs all).levels) (declare_constants names m) in
        omega (arith, low, same);
    made = λ m ahead final.
        let named = declare names m in
        ap (λ constants. activate named.value (adjust 1 (values_coded (place f.of listed f.short) (length constants) (lefts before) vs all) (length names) named.after)) (sym (declare_constants names m))
        ∙ ap (activate named.value) (adjusts.same named.after (names_ahead m ahead) (inner m final));
    taken = λ m ahead final.
        let named = declare names m in
        ap length (activate_constants named.value (adjust 1 (codes_of es) (length names) named.after))
        ∙ adjusts.taken named.after (names_ahead m ahead) (inner m final)
        ∙ ap (λ constants. taken_behind_values vs (length constants)) (declare_constants names m);
  }
    where
      names_ahead : (m : Maker) → IsAhead g active before (locals_mention names ∷ mentions_in_all es) m → IsAhead g active before (mentions_in_all es) (declare names m).after
      names_ahead m ahead = ahead_behind (locals_mention names ∷ []) (mentions_in_all es) refl (declare_passes names m) ahead

      inner : (m : Maker) → Final (length m.labels) (local_part 1 names (codes_of es) m) z → Final (length (declare names m).after.labels) (adjust 1 (codes_of es) (length names) (declare names m).after) z
      inner m final =
          let named = declare names m in
          let grown = grows_declare calm names m in
          later grown.more (before_part {v = loose} (grows_activate named.value (adjust 1 (codes_of es) (length names) named.after)) final)

-- ---- which values are written

module _ {f : Function} {g : Fn} {active : List Active} {listed : List ℕ} {z : Maker} (lefts : ℕ → List (Option Inner)) (made : IsMadeBy f g active listed z) (count : ℕ) (es : Expressions) (before behind : ℕ) (from : Values)
    (has : AllHaveCores es) (written : AllRewritten f g active listed z lefts es) (are : AreCores g active es before behind from) where
  abbrev left : List (Option Inner)
  left = lefts before

  abbrev IsWritten : Values → (all : Bool) → Type 0
  IsWritten vs all = Adjusts f g active listed z lefts before behind count es vs all

  abbrev written_as : ℕ → Values → (all : Bool) → List Coded
  written_as n vs all = values_coded (place f.of listed f.short) n left vs all

  abbrev cs : List Coded
  cs = codes_of es

  abbrev deep : ℕ
  deep = 3 * depth_of_expressions es + 202

  given : RewrittenGiven f g active listed z lefts before behind (argument_list es) (depth_of_expressions es) from (ends_open es)
  given = list_rewritten lefts made es before behind from (ends_open es) has written are refl

  fine : (n : ℕ) → EachFine (place f.of listed f.short) deep n left from
  fine n = cores_fine f g active listed z lefts (depth_of_expressions es) es before behind from (omega arith) written are n

  as_many : length cs ≡ value_count from
  as_many = cores_count g active es before behind from are

  count_written : (n : ℕ) (vs : Values) (all : Bool) → length (written_as n vs all) ≡ value_count vs
  count_written n vs all = coded_count (place f.of listed f.short) n left vs all

  all_free : (m : Maker) → (all_next cs m).free ≡ m.free + value_count from
  all_free m = all_next_free cs (grow_all calm (one_line_expressions es)) m ∙ ap (λ k. m.free + k) as_many

  closed_code : ends_open es ≡ false → opens cs ≡ false
  closed_code closed = opens_is es ∙ closed

  -- as many as are wanted or more
  module _ (enough : count ≤ value_count from) where
    more_is : (m : Maker) → adjust 1 cs count m ≡ free_from (m.free + count) (all_next cs m)
    more_is m = adjust_more cs count m (omega (arith, enough, as_many))

    more_final : (m : Maker) → Final (length m.labels) (adjust 1 cs count m) z → Final (length m.labels) (all_next cs m) z
    more_final m final = before_free (m.free + count) (all_next cs m) (subst (λ (n : Maker). Final (length m.labels) n z) (more_is m) final)

    more_taken : (m : Maker) → IsAhead g active before (mentions_in_all es) m → Final (length m.labels) (adjust 1 cs count m) z → length (adjust 1 cs count m).constants ≡ taken_behind_values from (length m.constants)
    more_taken m ahead final = ap (λ (n : Maker). length n.constants) (more_is m) ∙ next_all_taken f g active listed z lefts es before behind from has written are m ahead (more_final m final)

    pub more_written : IsWritten from true
    more_written = record {
      can = given.can;
      leaves = given.leaves;
      makes = given.makes;
      fine = fine;
      same = λ m ahead final.
          let ds = written_as (length m.constants) from true in
          adjust_more ds count m (omega (arith, enough, count_written (length m.constants) from true))
          ∙ ap (free_from (m.free + count)) (next_all f g active listed z lefts es before behind from true has written are m ahead (more_final m final))
          ∙ sym (more_is m);
      low = λ some short formed m ahead final. next_all_low f g active listed z lefts es before behind from true has written are (λ is. cc) short formed m ahead (more_final m final);
      taken = more_taken;
    }

  -- fewer, and the last one gives all that are missing
  module _ (fewer : value_count from < count) (open_last : ends_open es ≡ true) where
    open_is : (m : Maker) → adjust 1 cs count m ≡ all_multi Op.Call (Some (count - length cs + 1)) cs m
    open_is m = adjust_open cs count m (omega (arith, fewer, as_many)) (opens_is es ∙ open_last)

    open_final : (m : Maker) → Final (length m.labels) (adjust 1 cs count m) z → Final (length m.labels) (all_multi Op.Call (Some (count - length cs + 1)) cs m) z
    open_final m final = subst (λ (n : Maker). Final (length m.labels) n z) (open_is m) final

    -- what is written is open too
    written_open : (n : ℕ) → opens (written_as n from true) ≡ true
    written_open n =
        let counts = (list_rewritten lefts made es before behind from true has written are (sym open_last)).counts n in
        count_opens (opens (written_as n from true)) (opens cs) (length (written_as n from true)) (length cs) counts ∙ opens_is es ∙ open_last

    pub open_written : IsWritten from true
    open_written = record {
      can = given.can;
      leaves = given.leaves;
      makes = given.makes;
      fine = fine;
      same = λ m ahead final.
          let ds = written_as (length m.constants) from true in
          let counted = count_written (length m.constants) from true in
          adjust_open ds count m (omega (arith, fewer, counted)) (written_open (length m.constants))
          ∙ ap (λ k. all_multi Op.Call (Some (count - k + 1)) ds m) (counted ∙ sym as_many)
          ∙ multi_all f g active listed z lefts Op.Call (Some (count - length cs + 1)) es before behind from has written are open_last m ahead (open_final m final)
          ∙ sym (open_is m);
      low = λ some short formed m ahead final. multi_all_low f g active listed z lefts Op.Call (Some (count - length cs + 1)) es before behind from has written are open_last short formed m ahead (open_final m final);
      taken = λ m ahead final. ap (λ (n : Maker). length n.constants) (open_is m) ∙ multi_all_taken f g active listed z lefts Op.Call (Some (count - length cs + 1)) es before behind from has written are open_last m ahead (open_final m final);
    }

  -- fewer, and the others are nils
  module _ (fewer : value_count from < count) (closed : ends_open es ≡ false) where
    closed_is : (m : Maker) → adjust 1 cs count m ≡ nils 1 (count - length cs) (all_next cs m)
    closed_is m = adjust_closed cs count m (omega (arith, fewer, as_many)) (closed_code closed)

    closed_final : (m : Maker) → Final (length m.labels) (adjust 1 cs count m) z → Final (length m.labels) (all_next cs m) z
    closed_final m final = before_nils (count - length cs) (all_next cs m) (subst (λ (n : Maker). Final (length m.labels) n z) (closed_is m) final)

    closed_taken : (m : Maker) → IsAhead g active before (mentions_in_all es) m → Final (length m.labels) (adjust 1 cs count m) z → length (adjust 1 cs count m).constants ≡ taken_behind_values from (length m.constants)
    closed_taken m ahead final = ap (λ (n : Maker). length n.constants) (closed_is m) ∙ next_all_taken f g active listed z lefts es before behind from has written are m ahead (closed_final m final)

    pub closed_written : IsWritten from false
    closed_written = record {
      can = given.can;
      leaves = given.leaves;
      makes = given.makes;
      fine = fine;
      same = λ m ahead final.
          let ds = written_as (length m.constants) from false in
          let counted = count_written (length m.constants) from false in
          adjust_closed ds count m (omega (arith, fewer, counted)) (list_closed (place f.of listed f.short) deep (length m.constants) left from (fine (length m.constants)))
          ∙ ap (λ k. nils 1 (count - k) (all_next ds m)) (counted ∙ sym as_many)
          ∙ ap (nils 1 (count - length cs)) (next_all f g active listed z lefts es before behind from false has written are m ahead (closed_final m final))
          ∙ sym (closed_is m);
      low = λ some short formed m ahead final. next_all_low f g active listed z lefts es before behind from false has written are (λ is. closed) short formed m ahead (closed_final m final);
      taken = closed_taken;
    }

    -- the only one that is missing is written as a nil
    pub nil_written : suc (value_count from) ≡ count → IsWritten (and_last_value from nil_value) true
    nil_written exact = record {
      can = can_last (place f.of listed f.short) left from ∙ given.can;
      leaves = left_last from left ∙ given.leaves;
      makes = given.makes;
      fine = λ n. fine_last (place f.of listed f.short) deep n left from (omega arith) (fine n);
      same = λ m ahead final.
          let ds = written_as (length m.constants) (and_last_value from nil_value) true in
          let cleared = next_reg (coded (nil_literal 1)) (all_next cs m) in
          let one : 1 ≡ count - length cs = omega (arith, exact, as_many) in
          adjust_more ds count m (omega (arith, exact, count_written (length m.constants) (and_last_value from nil_value) true, count_last from nil_value))
          ∙ ap (free_from (m.free + count))
          (nil_next (place f.of listed f.short) (length m.constants) left from true m
          ∙ ap (next_reg (coded (nil_literal 1))) (next_all f g active listed z lefts es before behind from true has written are m ahead (closed_final m final)))
          ∙ free_there (m.free + count) cleared (omega (arith, all_free m, exact))
          ∙ sym (nils_one (all_next cs m))
          ∙ ap (λ k. nils 1 k (all_next cs m)) one
          ∙ sym (closed_is m);
      low = λ some short formed m ahead final.
          let at = place f.of listed f.short in
          let low = next_all_low f g active listed z lefts es before behind from true has written are (λ is. cc) short formed m ahead (closed_final m final) in
          let ended = nil_levels at (length m.constants) left from in
          omega (arith, low, ended, room_for_nil es (λ none. none_last from (some none)));
      taken = λ m ahead final. closed_taken m ahead final ∙ sym (taken_end from nil_value (length m.constants));
    }

  -- the last one is a nil, which is left out
  module _ (exact : value_count from ≡ count) (is : ends_with_nil from ≡ true) where
    abbrev front : Values
    front = before_last (split_last from)

    split : from ≡ and_last_value front nil_value
    split = sym (nil_last from is)

    more : value_count from ≡ suc (value_count front)
    more = ap value_count split ∙ count_last front nil_value

    enough : count ≤ value_count from
    enough = omega (arith, exact)

    front_fine : (n : ℕ) → EachFine (place f.of listed f.short) deep n left front
    front_fine n = fine_front (place f.of listed f.short) deep n left front (subst (EachFine (place f.of listed f.short) deep n left) split (fine n))

    front_written : IsWritten front false
    front_written =
        let at = place f.of listed f.short in
        record {
          can = sym (can_last at left front) ∙ ap (can_write_values at left) (sym split) ∙ given.can;
          leaves = sym (left_last front left) ∙ ap (λ vs. left_by_values vs left) (sym split) ∙ given.leaves;
          makes = given.makes;
          fine = front_fine;
          same = λ m ahead final.
              let n = length m.constants in
              let ds = written_as n front false in
              let counted = count_written n front false in
              let one : count - length ds ≡ 1 = omega (arith, exact, counted, more) in
              adjust_closed ds count m (omega (arith, exact, counted, more)) (list_closed at deep n left front (front_fine n))
              ∙ ap (λ k. nils 1 k (all_next ds m)) one
              ∙ nils_one (all_next ds m)
              ∙ sym (nil_next at n left front false m)
              ∙ ap (λ vs. all_next (written_as n vs false) m) (sym split)
              ∙ next_all f g active listed z lefts es before behind from false has written are m ahead (more_final enough m final)
              ∙ sym (free_there (m.free + count) (all_next cs m) (omega (arith, all_free m, exact)))
              ∙ sym (more_is enough m);
          low = λ some short formed m ahead final.
              let low = next_all_low f g active listed z lefts es before behind from true has written are (λ is. cc) short formed m ahead (more_final enough m final) in
              let same = ap (λ vs. (word_values at (length m.constants) left vs true).levels) split in
              let ended = front_levels at (length m.constants) left front in
              let bare = bare_levels at (length m.constants) left front (front_single front (ap ends_with_nil (sym split) ∙ is)) in
              omega (arith, low, same, ended, bare);
          taken = λ m ahead final. more_taken enough m ahead final ∙ ap (λ vs. taken_behind_values vs (length m.constants)) split ∙ taken_end front nil_value (length m.constants);
        }

  -- ---- every declaration

  abbrev IsListed : Listed → Type 0
  IsListed list = IsWritten list.values list.all

  pub open_listed : ends_open es ≡ true → (fewer : Bool) → nat_lt (value_count from) count ≡ fewer → IsWritten from true
  open_listed is true fewer = open_written (ltb-true _ _ fewer) is
  open_listed is false fewer = more_written (ltb-false _ _ fewer)

  last_listed : value_count from < count → ends_open es ≡ false → suc (value_count from) ≡ count → (left_out : Bool) → IsListed (without_nil left_out (and_last_value from nil_value))
  last_listed fewer is exact true = subst (λ vs. IsWritten vs false) (sym (ap before_last (last_split from nil_value))) (closed_written fewer is)
  last_listed fewer is exact false = nil_written fewer is exact

  exact_listed : count ≤ value_count from → (left_out : Bool) → ((value_count from == count) && ends_with_nil from) ≡ left_out → IsListed (without_nil left_out from)
  exact_listed low true both = front_written (eqb-true _ _ (first_of_both _ _ both)) (second_of_both _ _ both)
  exact_listed low false both = more_written low

  closed_listed : ends_open es ≡ false → (missing_some : Bool) → nat_lt (suc (value_count from)) count ≡ missing_some → (missing_one : Bool) → (suc (value_count from) == count) ≡ missing_one →
      IsListed (filled_values missing_some count missing_one from)
  closed_listed is true some missing_one one = let fewer = ltb-true _ _ some in closed_written (omega (arith, fewer)) is
  closed_listed is false some true one =
      let exact = eqb-true _ _ one in
      last_listed (omega (arith, exact)) is exact _
  closed_listed is false some false one =
      let low = ltb-false _ _ some in
      let other = eqb-false _ _ one in
      exact_listed (omega (arith, low, other)) _ refl

  all_listed : (is_open : Bool) → ends_open es ≡ is_open → IsListed (declared_values count is_open from)
  all_listed true is =
      let no_nil = ap (λ nil. (value_count from == count) && nil) (open_no_nil f g active listed z lefts es before behind from written are is) ∙ and_not (value_count from == count) in
      subst (λ left_out. IsListed (without_nil left_out from)) (sym no_nil) (open_listed is _ refl)
  all_listed false is = closed_listed is _ refl _ refl

module _ {f : Function} {g : Fn} {active : List Active} {listed : List ℕ} {z : Maker} (lefts : ℕ → List (Option Inner)) (made : IsMadeBy f g active listed z) (names : List Text) (es : Expressions) (before behind : ℕ) (from : Values)
    (has : AllHaveCores es) (written : AllRewritten f g active listed z lefts es) (are : AreCores g active es before behind from) where
  pub local_rewritten_act : (others : List Text) (vs : Values) (all : Bool) → others ≡ names → declared_values (length names) (ends_open es) from ≡ record { values = vs; all = all } →
      RewrittenAct f g active listed z lefts before behind (local_statement names es) (declared others vs all)
  local_rewritten_act others vs all same is =
      let adjusts : Adjusts f g active listed z lefts before behind (length names) es vs all =
      subst (λ (list : Listed). Adjusts f g active listed z lefts before behind (length names) es list.values list.all) is (all_listed lefts made (length names) es before behind from has written are (ends_open es) refl) in
      subst (λ others. RewrittenAct f g active listed z lefts before behind (local_statement names es) (declared others vs all)) (sym same) (adjusts_act f g active listed z lefts before behind names es vs all adjusts none_given)
    where
      none_given : es ≡ no_expressions → vs ≡ no_values
      none_given none =
          let from_none : from ≡ no_values = (subst (λ es. AreCores g active es before behind from) none are).1 in
          none_declared (length names) vs all (ap₂ (λ (is_open : Bool) (from : Values). declared_values (length names) is_open from) (sym (ap ends_open none)) (sym from_none) ∙ is)
