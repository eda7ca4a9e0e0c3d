-- The words of a return are read as one step, which is that return.
use Rattle.std.proofs.Common.{◌≡◌, ℕ, suc, ◌<◌, ◌≤◌, nat_le, ◌||◌, ◌&&◌, Bool, true, false, cond, List, [], ◌∷◌, length, Option, Some, None, refl, sym, ap, ap₂, ◌∙◌, subst, inr, arith, le-leb, lt-ltb, eq-eqb}
use Rattle.std.proofs.lemmas.Bool.Decides.{nat_tests}
use Rattle.std.specs.Prelude.{◌==◌, not, option_and_then, option_map, if◌then◌else◌}
use Rattle.lua_tree.specs.Syntax.{Expression, Expressions, no_expressions, expression, return_statement}
use Rattle.lua_tree.specs.WellFormed.{depth_of_expressions, is_call}
use Rattle.opcode.specs.declared.op.Op.{Op}
use Rattle.core_expr.specs.Counting.{taken_behind_values}
use Rattle.core_expr.specs.Places.{place}
use Rattle.core_expr.specs.Values.{Value, local_value, Values, no_values, and_value, Inner}
use Rattle.core_expr.specs.Writing.{Wordings, word_values}
use Rattle.recover_expr.specs.Drafts.{Drafted}
use Rattle.recover_expr.specs.Entries.{Entries, Listed, take_list}
use Rattle.recover_expr.specs.Locals.{Scope}
use Rattle.recover_expr.specs.Reading.{Turn, over, turn_at, turn_of, turned}
use Rattle.recover_expr.specs.Situation.{Function, Situation, place_in_step, pop, pop_at, with_entries, word_at}
use Rattle.recover_expr.specs.Words.{as_end, listed_at, made_call_of, results, results_written, return_ended, returned_values, tail_made, tail_written}
use Rattle.recover_expr.specs.declared.function.Word.{Word}
use Rattle.scheme.specs.Expressions.{count_field, is_multiple}
use Rattle.scheme.specs.declared.making.Active.{Active}
use Rattle.scheme.specs.declared.making.Piece.{Piece}
use Rattle.scheme_stands.proofs.Forms.{form_is}
use Rattle.scheme_stands.specs.Expressions.{Form, OperandBy, local_at, several}
use Rattle.scheme_stands.specs.Lists.{rels_count, rels_open}
use Rattle.scheme_stands.specs.Relation.{all_related, related}
use Rattle.scheme_stands.specs.Statements.{ListReturnAt, ReturnAt, ReturnBy}
use Rattle.scheme_stands.specs.Words.{Fn, Seq, Spot, WordAt}
use Rattle.reads_back.specs.Acted.{returned, act_levels, act_statement, can_act}
use Rattle.reads_back.specs.Cores.{AllHaveCores, AreCores, HasCore, IsCore, ends_open}
use Rattle.reads_back.specs.ReadAs.{part_of}
use Rattle.reads_back.proofs.ActsRead.{ActRead, CanAct, act_draft, after_act, same_declares, can_now}
use Rattle.reads_back.proofs.BehindWords.{HasLocals, SameLocals, behind_words, quiet_same, same_locals}
use Rattle.reads_back.proofs.Comes.{Comes, ReadsCall, ReadsCore, comes_next}
use Rattle.reads_back.proofs.GivenLists.{AllRead, list_comes, opens_by_last, list_forward}
use Rattle.reads_back.proofs.NameReads.{AreListed, IsLocal, local_operand}
use Rattle.reads_back.proofs.Reaches.{Reaches, here, reaches_on, step_ends}
use Rattle.reads_back.proofs.StoresRead.{IsInStep, local_there, no_place}
use Rattle.reads_back.proofs.Tests.{both_hold}
use Rattle.reads_back.proofs.ValueReads.{call_read, each_read, reads_all}
use Rattle.reads_back.proofs.ValueWords.{next_free, place_of_next}
use Rattle.reads_back.proofs.WordsBegin.{word_wants}
use Rattle.reads_back.proofs.WordsRead.{IsFunction, IsQuiet, abc_is_read, quiet_before, turn_there, word_of, word_there}

-- one value
abbrev only : Expression → Expressions
only e = expression e no_expressions

-- ---- before and behind the words of the step

-- nothing is in its registers
abbrev emptied : Situation → Situation
emptied s = record s { entries = [] }

-- nothing is in them behind the words, which have taken constants and captured locals
abbrev behind_all : Scope → (seen : ℕ) → Situation → Situation
behind_all scope seen s = record s { scope = scope; entries = []; seen = seen }

-- what its last word comes to
abbrev ending : Function → Word → Option (Drafted × Situation) → Option (Turn × Situation)
ending f w draft = option_and_then (λ p. turned f w p.1 p.0) (option_map as_end draft)

-- the values are written, and the step ends
values_written : (f : Function) (next : ℕ) (values : Values) (all : Bool) (s : Situation) → can_act (place_in_step f s) s.left (returned values all) ≡ true →
    returned_values f next (record { values = values; all = all }) s ≡ Some (act_draft f next (returned values all) s, after_act (returned values all) s)
values_written f next values all s can =
    let wrote : Wordings × ℕ × Situation = (word_values (place_in_step f s) s.taken s.left values all, taken_behind_values values s.taken, after_act (returned values all) s) in
    ap (λ can. option_map (return_ended next) (if can then Some wrote else None)) can

-- ---- what a RETURN takes

-- one value, in any register
one_result : (f : Function) (pc x : ℕ) (v : Value) (t behind : Situation) → pop f x t ≡ Some (v, behind) → results f (word_of pc (Piece.Abc Op.Return x 2 0)) t ≡ Some (record { values = and_value v no_values; all = false }, behind)
one_result f pc x v t behind popped = ap (option_map (λ p. (record { values = and_value p.0 no_values; all = false }, p.1))) popped

-- a field that does not stand for no value or for one
abbrev IsListField : ℕ → Type 0
IsListField b = ((b == 1) ≡ false) × ((b == 2) ≡ false)

list_field : (is_open : Bool) (n : ℕ) → 2 ≤ n → IsListField (count_field 1 (cond is_open None (Some n)))
list_field true n some = (refl, refl)
list_field false n some = (grind (arith, nat_tests), grind (arith, nat_tests))

-- a list, from the lowest register on
list_results : (f : Function) (pc a b : ℕ) (t : Situation) (list : Listed) → IsListField b → a ≡ t.base → take_list 0 b t.entries ≡ Some (list, []) → results f (word_of pc (Piece.Abc Op.Return a b 0)) t ≡ Some (list, emptied t)
list_results f pc a b t list field lowest taken =
    let none : Option (Listed × Situation) = if a == 0 then Some (record { values = no_values; all = false }, t) else None in
    let one : Option (Listed × Situation) = option_map (λ p. (record { values = and_value p.0 no_values; all = false }, p.1)) (pop f a t) in
    let more : Option (Listed × Situation) = option_map (listed_at t) (take_list 0 b t.entries) in
    ap (λ is. if is then none else (if b == 2 then one else (if a == t.base then more else None))) field.0
    ∙ ap (λ is. if is then one else (if a == t.base then more else None)) field.1
    ∙ ap (λ is. if is then more else None) (eq-eqb a t.base lowest)
    ∙ ap (option_map (listed_at t)) taken

-- all values of the call in the word before it
tail_call_ends : (f : Function) (pc a b : ℕ) (v : Value) (t s : Situation) → made_call_of (word_of pc (Piece.Abc Op.TailCall a b 0)) t ≡ Some (v, emptied s) →
    suc pc < f.last → word_at f (suc pc) ≡ Some (word_of (suc pc) (Piece.Abc Op.Return a 0 0)) → can_act (place_in_step f s) s.left (returned (and_value v no_values) true) ≡ true →
    turn_of f t (word_of pc (Piece.Abc Op.TailCall a b 0))
    ≡ Some (over (act_draft f (suc (suc pc)) (returned (and_value v no_values) true) (emptied s)), after_act (returned (and_value v no_values) true) (emptied s))
tail_call_ends f pc a b v t s makes before there can =
    let w = word_of pc (Piece.Abc Op.TailCall a b 0) in
    let returning : Option (Drafted × Situation) = returned_values f (suc (suc pc)) (record { values = and_value v no_values; all = true }) (emptied s) in
    ap (λ made. ending f w (option_and_then (tail_made f w) made)) makes
    ∙ ap (λ behind. ending f w (option_and_then (tail_written f w (v, emptied s)) behind)) there
    ∙ ap (λ is. ending f w (if is && true then returning else None)) (both_hold _ _ (lt-ltb (suc pc) f.last before) (both_hold (a == a) true (eq-eqb a a refl) refl))
    ∙ ap (ending f w) (values_written f (suc (suc pc)) (and_value v no_values) true (emptied s) can)

-- ---- the step

-- Words come to these entries more, of which the word that ends the step takes the values that are returned.
record ReturnComes (f : Function) (g : Fn) (active : List Active) (es : Expressions) (before behind : ℕ) (s : Situation) (first last : ℕ) : Type 0 where
  values : Values
  all : Bool
  are : AreCores g active es before behind values
  ends : all ≡ ends_open es
  scope : Scope
  same : SameLocals s.scope scope
  seen : ℕ
  taken : taken_behind_values values s.seen ≡ seen
  more : Entries
  reaches : Reaches f first s last (behind_words scope seen more s)

-- of one value
abbrev one_comes : {f : Function} {g : Fn} {active : List Active} {e : Expression} {before behind : ℕ} {s : Situation} {first last : ℕ} {scope : Scope} {seen : ℕ} (v : Value) (all : Bool) (more : Entries) → IsCore g active e before behind v → all ≡ is_multiple e →
    SameLocals s.scope scope → taken_behind_values (and_value v no_values) s.seen ≡ seen → Reaches f first s last (behind_words scope seen more s) → ReturnComes f g active (only e) before behind s first last
one_comes {behind = behind} {scope = scope} {seen = seen} v all more is ends same taken reaches =
    record { values = and_value v no_values; all = all; are = (behind, (v, no_values, is, (refl, refl), refl)); ends = ends; scope = scope; same = same; seen = seen; taken = taken; more = more; reaches = reaches }

module _ {f : Function} {g : Fn} {active : List Active} {listed : List ℕ} {lefts : ℕ → List (Option Inner)} (is_function : IsFunction f g) (es : Expressions) (can : CanAct f g active listed lefts (return_statement es)) where
  can_be_written : {before behind first last : ℕ} (s : Situation) → HasLocals active listed s → s.left ≡ lefts before → (come : ReturnComes f g active es before behind s first last) → can_act (place f.of come.scope.active f.short) s.left (returned come.values come.all) ≡ true
  can_be_written {behind = behind} s locals left_is come =
      let acted = returned come.values come.all in
      subst (λ (listed : List ℕ). can_act (place f.of listed f.short) s.left acted ≡ true) (sym (come.same.active ∙ locals.places)) (can_now can behind acted left_is (come.are, come.ends))

  -- the word at this pc ends it
  step_returns : {before behind first last : ℕ} (pc next : ℕ) (s : Situation) (come : ReturnComes f g active es before behind s first pc) → next ≡ last → pc < last →
      turn_at f pc (behind_words come.scope come.seen come.more s)
      ≡ Some (over (act_draft f next (returned come.values come.all) (behind_all come.scope come.seen s)), after_act (returned come.values come.all) (behind_all come.scope come.seen s)) →
      ActRead f g active (return_statement es) before behind s first last
  step_returns pc next s come is later turn =
      let acted = returned come.values come.all in
      let behind = behind_all come.scope come.seen s in
      record {
        acted = acted;
        is = (come.are, come.ends);
        draft = act_draft f next acted behind;
        behind = after_act acted behind;
        reads = λ count few. step_ends (act_draft f next acted behind) count come.reaches turn (omega (arith, few, later));
        kind = refl;
        pc = refl;
        next = is;
        part = ap (λ (listed : List ℕ). part_of (act_statement (place f.of listed f.short) s.taken s.left acted)) come.same.active;
        levels = ap (λ (listed : List ℕ). act_levels (place f.of listed f.short) s.taken s.left acted) come.same.active;
        declares = same_declares come.same;
        left = refl;
        seen = sym come.taken;
        later = omega (arith, later, reaches_on come.reaches);
      }

  -- it is a RETURN with these results
  word_returns : {before first : ℕ} (x b : ℕ) (p q : Spot) (s : Situation) → HasLocals active listed s → s.left ≡ lefts before → IsQuiet f s.scope first q.pc → (come : ReturnComes f g active es before p.functions s first p.pc) → WordAt g (Piece.Abc Op.Return x b 0) p q →
      results f (word_of p.pc (Piece.Abc Op.Return x b 0)) (behind_words come.scope come.seen come.more s) ≡ Some (record { values = come.values; all = come.all }, behind_all come.scope come.seen s) →
      ActRead f g active (return_statement es) before q.functions s first q.pc
  word_returns {before} {first} x b p q s locals left_is quiet come at has =
      let w = word_of p.pc (Piece.Abc Op.Return x b 0) in
      let later : p.pc < q.pc = omega (arith, at.next) in
      let there = word_there is_function at (abc_is_read is_function at) (omega (arith, later, quiet.within)) in
      subst (λ (made : ℕ). ActRead f g active (return_statement es) before made s first q.pc) (sym at.functions)
      (step_returns p.pc (suc p.pc) s come (sym at.next) later
      (turn_there p.pc (behind_words come.scope come.seen come.more s) (quiet_same come.same quiet) (reaches_on come.reaches) later there
      ∙ ap (λ list. ending f w (option_and_then (results_written f w) list)) has
      ∙ ap (ending f w) (values_written f (suc p.pc) come.values come.all (behind_all come.scope come.seen s) (can_be_written s locals left_is come))))

  -- ---- a list from the lowest register on

  list_returned : (deep : ℕ) (p q : Spot) (s : Situation) → HasLocals active listed (emptied s) → s.left ≡ lefts p.functions → IsQuiet f s.scope p.pc q.pc → AllRead f g active listed deep es → IsListField (count_field 1 (rels_count (all_related g es))) →
      ListReturnAt g (all_related g es) active p q → ActRead f g active (return_statement es) p.functions q.functions (emptied s) p.pc q.pc
  list_returned deep p q s locals left_is quiet reads field at =
      let word = at.second_at in
      let b = count_field 1 (rels_count (all_related g es)) in
      let free_is : length active ≡ next_free (emptied s) = omega (arith, locals.base) in
      let lowest = le-leb s.base (length active) (omega (arith, locals.base)) in
      let on = list_forward f g active listed deep es (rels_open (all_related g es)) (opens_by_last g es) reads (length active) p at.mid at.first_at in
      let wanted = word_wants (emptied s) (quiet.stays at.mid.pc on (omega (arith, word.next))) is_function word (abc_is_read is_function word) (both_hold (not (b == 1)) (nat_le s.base (length active)) (ap not field.0) lowest) in
      let before = quiet_before at.mid.pc (omega (arith, word.next)) quiet in
      let given = list_comes f g active listed deep es (rels_open (all_related g es)) (opens_by_last g es) reads (length active) p at.mid (emptied s) locals free_is before wanted at.first_at in
      let come : ReturnComes f g active es p.functions at.mid.functions (emptied s) p.pc at.mid.pc =
      record { values = given.values; all = given.all; are = given.are.0; ends = given.are.1; scope = given.scope; same = given.same; seen = given.seen; taken = given.taken; more = given.more; reaches = given.reaches } in
      word_returns (length active) b at.mid q (emptied s) locals left_is quiet come word
      (list_results f at.mid.pc (length active) b (behind_words given.scope given.seen given.more (emptied s)) (record { values = given.values; all = given.all }) field (sym locals.base) (given.listed [] 0 b refl refl))

-- ---- one value

module _ {f : Function} {g : Fn} {active : List Active} {listed : List ℕ} {lefts : ℕ → List (Option Inner)} (is_function : IsFunction f g) (all : AreListed f g active listed) (e : Expression) (can : CanAct f g active listed lefts (return_statement (only e))) where
  -- a local stays in its register
  local_returned : (r x : ℕ) (p mid q : Spot) (s : Situation) → HasLocals active listed (emptied s) → s.left ≡ lefts p.functions → IsQuiet f s.scope p.pc q.pc → false ≡ is_multiple e → x ≡ r → IsLocal is_function all e r p mid → WordAt g (Piece.Abc Op.Return x 2 0) mid q →
      ActRead f g active (return_statement (only e)) p.functions q.functions (emptied s) p.pc q.pc
  local_returned r x p mid q s locals left_is quiet ends at_x local word =
      let v = local_value r in
      let t = emptied s in
      let step : IsInStep f (length active) listed t = record { base = locals.base; places = locals.places } in
      let come : ReturnComes f g active (only e) p.functions mid.functions t p.pc mid.pc = one_comes v false [] local.core ends (same_locals s.scope) refl (subst (λ (pc : ℕ). Reaches f p.pc t pc t) (sym local.same) here) in
      let popped : pop f x t ≡ Some (v, t) = ap (λ x. pop f x t) at_x ∙ ap (pop_at f t r) (no_place step r local.below) ∙ ap (option_map (λ v. (v, t))) (local_there step r local.text local.named) in
      word_returns is_function (only e) can x 2 mid q t locals left_is quiet come word (one_result f mid.pc x v t t popped)

  -- another value is in the next register
  next_returned : {deep : ℕ} (x : ℕ) (p mid q : Spot) (s : Situation) → HasLocals active listed (emptied s) → s.left ≡ lefts p.functions → IsQuiet f s.scope p.pc q.pc → false ≡ is_multiple e → x ≡ length active → Comes f (IsCore g active e p.functions mid.functions) deep (emptied s) p.pc mid.pc →
      WordAt g (Piece.Abc Op.Return x 2 0) mid q → ActRead f g active (return_statement (only e)) p.functions q.functions (emptied s) p.pc q.pc
  next_returned x p mid q s locals left_is quiet ends at_x one word =
      let v = one.value in
      let t = behind_words one.scope one.seen (one.entry ∷ []) (emptied s) in
      let behind = behind_all one.scope one.seen s in
      let come : ReturnComes f g active (only e) p.functions mid.functions (emptied s) p.pc mid.pc = one_comes v false (one.entry ∷ []) one.is ends one.same one.taken one.reaches in
      let popped : pop f x t ≡ Some (v, behind) =
      ap (pop_at f t x) (place_of_next s.base 0 x (omega (arith, at_x, locals.base))) ∙ ap (λ (single : Option Value). option_map (with_entries t) (option_map (λ v. (v, [])) single)) one.single in
      word_returns is_function (only e) can x 2 mid q (emptied s) locals left_is quiet come word (one_result f mid.pc x v t behind popped)

  operand_returned : (o : Option ℕ) (x free1 : ℕ) (p mid q : Spot) (s : Situation) → ReadsCore f g active listed e → HasLocals active listed (emptied s) → s.left ≡ lefts p.functions → IsQuiet f s.scope p.pc q.pc → false ≡ is_multiple e →
      local_at (related g e).form active p ≡ o → OperandBy o g active (related g e) (length active) x free1 p mid → WordAt g (Piece.Abc Op.Return x 2 0) mid q → ActRead f g active (return_statement (only e)) p.functions q.functions (emptied s) p.pc q.pc
  operand_returned (Some r) x free1 p mid q s reads locals left_is quiet ends is at word = local_returned r x p mid q s locals left_is quiet ends at.at_x (local_operand is_function all e r p mid is at.passed) word
  operand_returned None x free1 p mid q s reads locals left_is quiet ends is at word =
      let free_is : length active ≡ next_free (emptied s) = omega (arith, locals.base) in
      let stay = quiet.stays mid.pc (reads.forward (length active) (length active) p mid at.value_at) (omega (arith, word.next)) in
      let wanted = word_wants (emptied s) stay is_function word (abc_is_read is_function word) (le-leb s.base x (omega (arith, at.at_x, locals.base))) in
      next_returned x p mid q s locals left_is quiet ends at.at_x (comes_next reads (length active) p mid (emptied s) locals free_is (quiet_before mid.pc (omega (arith, word.next)) quiet) wanted at.value_at) word

  -- a call, whose values are all returned
  tail_call_returned : {deep : ℕ} (p q : Spot) (s : Situation) → HasLocals active listed (emptied s) → s.left ≡ lefts p.functions → IsQuiet f s.scope p.pc q.pc → true ≡ is_multiple e → ReadsCall f g active listed (IsCore g active e) deep ((related g e).multi active) →
      Seq ((related g e).multi active (length active) Op.TailCall None) (WordAt g (Piece.Abc Op.Return (length active) 0 0)) p q → ActRead f g active (return_statement (only e)) p.functions q.functions (emptied s) p.pc q.pc
  tail_call_returned p q s locals left_is quiet ends reads at =
      let word = at.second_at in
      let free_is : length active ≡ next_free (emptied s) = omega (arith, locals.base) in
      let call = reads.comes (length active) Op.TailCall None p at.mid (emptied s) locals free_is (quiet_before at.mid.pc (omega (arith, word.next)) quiet) (inr refl) at.first_at in
      let come : ReturnComes f g active (only e) p.functions at.mid.functions (emptied s) p.pc call.pc = one_comes call.value true call.more call.is ends call.same call.taken call.reaches in
      let before : suc call.pc < f.last = omega (arith, call.next, word.next, quiet.within) in
      let there = word_there is_function word (abc_is_read is_function word) (omega (arith, before, call.next)) in
      let returns = subst (λ (pc : ℕ). word_at f pc ≡ Some (word_of pc (Piece.Abc Op.Return (length active) 0 0))) call.next there in
      let can_come = can_be_written is_function (only e) can (emptied s) locals left_is come in
      subst (λ (made : ℕ). ActRead f g active (return_statement (only e)) p.functions made (emptied s) p.pc q.pc) (sym word.functions)
      (step_returns is_function (only e) can call.pc (suc (suc call.pc)) (emptied s) come (omega (arith, call.next, word.next)) (omega (arith, call.next, word.next))
      (call.turn ∙ tail_call_ends f call.pc (length active) call.b call.value (behind_words call.scope call.seen call.more (emptied s)) (behind_all call.scope call.seen s) call.makes before returns can_come))

-- ---- the values of a return

module _ {f : Function} {g : Fn} {active : List Active} {listed : List ℕ} (is_function : IsFunction f g) (all : AreListed f g active listed) where
  module _ (e : Expression) (has : HasCore e) (few : depth_of_expressions (only e) ≤ 199) where
    -- what the words ask of its form is so
    is_several : (call dots : Bool) → (related g e).form.call ≡ call → (related g e).form.dots ≡ dots → (call || dots) ≡ is_multiple e
    is_several call dots calls is_dots = sym (ap₂ (λ (call dots : Bool). call || dots) calls is_dots) ∙ ap several (form_is g e)

    is_a_call : (related g e).form.call ≡ true → is_call e ≡ true
    is_a_call calls = sym (ap (λ (form : Form). form.call) (form_is g e)) ∙ calls

    one_returned : {lefts : ℕ → List (Option Inner)} → CanAct f g active listed lefts (return_statement (only e)) → (call dots : Bool) → (related g e).form.call ≡ call → (related g e).form.dots ≡ dots → (p q : Spot) (s : Situation) → HasLocals active listed (emptied s) → s.left ≡ lefts p.functions →
        IsQuiet f s.scope p.pc q.pc → ReturnBy call dots g (related g e) active p q → ActRead f g active (return_statement (only e)) p.functions q.functions (emptied s) p.pc q.pc
    one_returned can true dots calls is_dots p q s locals left_is quiet at =
        tail_call_returned is_function all e can p q s locals left_is quiet (is_several true dots calls is_dots) (call_read is_function all e (is_a_call calls) has (omega (arith, few))).1 at
    one_returned can false true calls is_dots p q s locals left_is quiet at =
        let opens : rels_open (all_related g (only e)) ≡ true = opens_by_last g (only e) ∙ sym (is_several false true calls is_dots) in
        let field = subst (λ (is_open : Bool). IsListField (count_field 1 (cond is_open None (Some 1)))) (sym opens) (refl, refl) in
        list_returned is_function (only e) can 199 p q s locals left_is quiet (each_read is_function all (only e) (has, tt) (omega arith) few) field at
    one_returned can false false calls is_dots p q s locals left_is quiet at =
        let reads = (reads_all is_function all e has (omega (arith, few))).one in
        operand_returned is_function all e can (local_at (related g e).form active p) at.x at.free1 p at.mid q s reads locals left_is quiet (is_several false false calls is_dots) refl at.operand_at at.words_at

  begun_return : {lefts : ℕ → List (Option Inner)} (es : Expressions) → AllHaveCores es → depth_of_expressions es ≤ 199 → CanAct f g active listed lefts (return_statement es) → (p q : Spot) (s : Situation) → HasLocals active listed (emptied s) → s.left ≡ lefts p.functions → IsQuiet f s.scope p.pc q.pc →
      ReturnAt g (all_related g es) active p q → ActRead f g active (return_statement es) p.functions q.functions (emptied s) p.pc q.pc
  begun_return no_expressions has few can p q s locals left_is quiet at =
      let come : ReturnComes f g active no_expressions p.functions p.functions (emptied s) p.pc p.pc =
      record { values = no_values; all = false; are = (refl, refl); ends = refl; scope = s.scope; same = same_locals s.scope; seen = s.seen; taken = refl; more = []; reaches = here } in
      word_returns is_function no_expressions can 0 1 p q (emptied s) locals left_is quiet come at refl
  begun_return (expression e no_expressions) has few can p q s locals left_is quiet at = one_returned e has.0 few can (related g e).form.call (related g e).form.dots refl refl p q s locals left_is quiet at
  begun_return (expression e (expression d es)) has few can p q s locals left_is quiet at =
      let values = expression e (expression d es) in
      let field = list_field (rels_open (all_related g values)) (length (all_related g values)) (omega arith) in
      list_returned is_function values can 199 p q s locals left_is quiet (each_read is_function all values has (omega arith) few) field at

  -- a return, at the begin of a step
  pub return_read : {lefts : ℕ → List (Option Inner)} (es : Expressions) → AllHaveCores es → depth_of_expressions es ≤ 199 → CanAct f g active listed lefts (return_statement es) → (p q : Spot) (s : Situation) → HasLocals active listed s → s.left ≡ lefts p.functions → s.entries ≡ [] → s.taken ≡ s.seen →
      IsQuiet f s.scope p.pc q.pc → ReturnAt g (all_related g es) active p q → ActRead f g active (return_statement es) p.functions q.functions s p.pc q.pc
  return_read es has few can p q s locals left_is empty taken quiet at =
      subst (λ (entries : Entries). ActRead f g active (return_statement es) p.functions q.functions (record s { entries = entries }) p.pc q.pc) (sym empty)
      (begun_return es has few can p q s (record { base = locals.base; places = locals.places }) left_is quiet at)
