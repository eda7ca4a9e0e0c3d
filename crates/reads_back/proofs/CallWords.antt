-- The words of a call are read as a call of what its function and its arguments are read as.
use Rattle.std.proofs.Common.{◌≡◌, ℕ, suc, ◌+◌, ◌-◌, ◌*◌, ◌<◌, ◌≤◌, ◌⊎◌, max, true, false, Bool, List, [], ◌∷◌, ◌++◌, length, length-append, append_assoc, Some, None, refl, sym, inl, inr, ap, ap₂, ◌∙◌, subst, arith, le-leb, lt-ltb}
use Rattle.std.proofs.Math.Seq.{drop-append_seam, take-append_seam}
use Rattle.std.proofs.lemmas.Bool.Decides.{nat_tests}
use Rattle.std.specs.Prelude.{◌==◌, option_map, option_and_then, slice_get, if◌then◌else◌}
use Rattle.opcode.specs.declared.op.Op.{Op}
use Rattle.core_expr.specs.Counting.{taken_behind_values}
use Rattle.core_expr.specs.Making.{depth_of, deepest, made_call, made_method}
use Rattle.core_expr.specs.Values.{Value, Values, call_value, method_value}
use Rattle.recover_expr.specs.Effects.{reads_from}
use Rattle.recover_expr.specs.Entries.{Entries, EntryValue, Listed, more_entry, method_entry, single_of, is_at, is_method, method_alone, take_at, take_method, take_list}
use Rattle.recover_expr.specs.Situation.{Function, Situation}
use Rattle.recover_expr.specs.Words.{call_on, made_call_at, made_call_of, method_call, method_on, plain_call, with_entries}
use Rattle.recover_expr.specs.declared.function.Word.{Word}
use Rattle.scheme.specs.Expressions.{Want, count_field}
use Rattle.scheme.specs.declared.making.Piece.{Piece}
use Rattle.scheme.specs.declared.making.Active.{Active}
use Rattle.scheme_stands.specs.Expressions.{Rel}
use Rattle.scheme_stands.specs.Lists.{GivenRel, CallAt}
use Rattle.scheme_stands.specs.Words.{Fn, Spot, WordAt, instr_by}
use Rattle.reads_back.proofs.Comes.{Begins, Comes, IsCallWord, IsWanted, Reads, comes_next, CallComes, ReadsCall, GivenComes, ReadsGiven, behind_one}
use Rattle.reads_back.proofs.BehindWords.{HasLocals, same_then, quiet_same, behind_words, locals_then}
use Rattle.reads_back.proofs.Reaches.{Reaches, reaches_on, reaches_then}
use Rattle.reads_back.proofs.TakenEntries.{at_place, top_taken}
use Rattle.reads_back.proofs.ValueWords.{next_free, place_of_next}
use Rattle.reads_back.proofs.WordsBegin.{begins_wants, word_wants}
use Rattle.reads_back.proofs.WordsRead.{IsFunction, IsQuiet, abc_is_read, quiet_before, quiet_from, turn_there, word_of, word_there}
use Rattle.reads_back.specs.Cores.{IsCalled, Counted, CountedValues, called_by}
use Rattle.reads_back.proofs.Deeper.{call_so}
use Rattle.recover_expr.specs.Items.{all_stay}

-- ---- what the word of a call makes

-- a call is one deeper than its parts
abbrev call_of : Value → Values → Bool → Value
call_of on values all = call_value on values all (suc (max (depth_of on) (deepest values)))

call_is_made : (on : Value) (values : Values) (all : Bool) → max (depth_of on) (deepest values) < 400 → made_call on values all ≡ Some (call_of on values all)
call_is_made on values all shallow = ap (λ few. if few then Some (call_of on values all) else None) (lt-ltb (max (depth_of on) (deepest values)) 400 shallow)

-- the word takes these arguments off, from this place on
abbrev TakesList : (before more : Entries) → (place field : ℕ) → Listed → Type 0
TakesList before more place field list = take_list place field (before ++ more) ≡ Some (list, before)

plain_made : (w : Word) (s : Situation) (before more : Entries) (entry : EntryValue) (called : Value) (list : Listed) → single_of entry ≡ Some called → s.entries ≡ before ++ entry ∷ more → max (depth_of called) (deepest list.values) < 400 →
    TakesList (before ++ entry ∷ []) more (length before + 1) w.instr.b list → plain_call w (length before) s ≡ Some (call_of called list.values list.all, record s { entries = before })
plain_made w s before more entry called list single entries shallow taken =
    let place = length before in
    let on_call = option_and_then (λ (args : Listed × Entries). option_and_then (call_on s args.0) (take_at place args.1)) in
    ap (λ (entries : Entries). on_call (take_list (place + 1) w.instr.b entries)) (entries ∙ sym (append_assoc before (entry ∷ []) more))
    ∙ ap on_call taken
    ∙ ap (option_and_then (call_on s list)) (top_taken before entry called place single refl)
    ∙ ap (with_entries s before) (call_is_made called list.values list.all shallow)

-- a value is no method
single_is_none : (entry : EntryValue) (v : Value) → single_of entry ≡ Some v → is_method entry ≡ false
single_is_none (method_entry on name) v is = cc
single_is_none entry v is = refl

no_method : (before more : Entries) (entry : EntryValue) (called : Value) → single_of entry ≡ Some called → is_at is_method (slice_get (before ++ entry ∷ more) (length before)) ≡ false
no_method before more entry called single = ap (is_at is_method) (at_place before entry more) ∙ single_is_none entry called single

call_is_of : (w : Word) (s : Situation) (before more : Entries) (entry : EntryValue) (called : Value) (list : Listed) → single_of entry ≡ Some called → s.entries ≡ before ++ entry ∷ more →
    w.instr.a ≡ s.base + length before → max (depth_of called) (deepest list.values) < 400 → TakesList (before ++ entry ∷ []) more (length before + 1) w.instr.b list →
    made_call_of w s ≡ Some (call_of called list.values list.all, record s { entries = before })
call_is_of w s before more entry called list single entries register shallow taken =
    let place = length before in
    ap (made_call_at w s) (place_of_next s.base place w.instr.a register)
    ∙ ap (λ method. if method then method_call w place s else plain_call w place s) (ap (λ entries. is_at is_method (slice_get entries place)) entries ∙ no_method before more entry called single)
    ∙ plain_made w s before more entry called list single entries shallow taken

-- ---- what it makes where a method stands there

-- a call of a method is one deeper than its parts
abbrev pub method_of : Value → (number : ℕ) → Values → Bool → Value
method_of on number values all = method_value on number values all (suc (max (depth_of on) (deepest values)))

pub method_is_made : (on : Value) (number : ℕ) (values : Values) (all : Bool) → max (depth_of on) (deepest values) < 400 →
    made_method on number values all ≡ Some (method_of on number values all)
method_is_made on number values all shallow = ap (λ few. if few then Some (method_of on number values all) else None) (lt-ltb (max (depth_of on) (deepest values)) 400 shallow)

method_taken : (before : Entries) (v : Value) (number : ℕ) → take_method (length before) (before ++ method_entry v number ∷ more_entry ∷ []) ≡ Some ((v, number), before)
method_taken before v number =
    let entries : Entries = method_entry v number ∷ more_entry ∷ [] in
    ap₂ (λ (rest front : Entries). option_map (λ m. (m, front)) (method_alone rest)) (drop-append_seam before entries) (take-append_seam before entries)

-- the field of a method call counts its value too
one_fewer : (count : Want) → count_field 2 count - 1 ≡ count_field 1 count
one_fewer None = refl
one_fewer (Some n) = omega arith

not_one : (count : Want) → (count_field 2 count == 1) ≡ false
not_one None = refl
not_one (Some n) = grind (arith, nat_tests)

-- a method stands in the two registers behind these entries
abbrev with_method : Entries → Value → (number : ℕ) → Entries
with_method before v number = before ++ method_entry v number ∷ more_entry ∷ []

method_call_is : (w : Word) (s : Situation) (before more : Entries) (v : Value) (number : ℕ) (count : Want) (list : Listed) → s.entries ≡ before ++ method_entry v number ∷ more_entry ∷ more → w.instr.b ≡ count_field 2 count →
    max (depth_of v) (deepest list.values) < 400 → TakesList (with_method before v number) more (length before + 2) (count_field 1 count) list →
    method_call w (length before) s ≡ Some (method_of v number list.values list.all, record s { entries = before })
method_call_is w s before more v number count list entries field shallow taken =
    let place = length before in
    let on_call = option_and_then (λ (args : Listed × Entries). option_and_then (method_on s args.0) (take_method place args.1)) in
    ap (λ b. if b == 1 then None else on_call (take_list (place + 2) (b - 1) s.entries)) field
    ∙ ap (λ alone. if alone then None else on_call (take_list (place + 2) (count_field 2 count - 1) s.entries)) (not_one count)
    ∙ ap₂ (λ (field : ℕ) (entries : Entries). on_call (take_list (place + 2) field entries)) (one_fewer count) (entries ∙ sym (append_assoc before (method_entry v number ∷ more_entry ∷ []) more))
    ∙ ap on_call taken
    ∙ ap (option_and_then (method_on s list)) (method_taken before v number)
    ∙ ap (with_entries s before) (method_is_made v number list.values list.all shallow)

is_method_there : (before more : Entries) (v : Value) (number : ℕ) → is_at is_method (slice_get (before ++ method_entry v number ∷ more) (length before)) ≡ true
is_method_there before more v number = ap (is_at is_method) (at_place before (method_entry v number) more)

pub method_called : (w : Word) (s : Situation) (before more : Entries) (v : Value) (number : ℕ) (count : Want) (list : Listed) → s.entries ≡ before ++ method_entry v number ∷ more_entry ∷ more →
    w.instr.a ≡ s.base + length before → w.instr.b ≡ count_field 2 count → max (depth_of v) (deepest list.values) < 400 → TakesList (with_method before v number) more (length before + 2) (count_field 1 count) list →
    made_call_of w s ≡ Some (method_of v number list.values list.all, record s { entries = before })
method_called w s before more v number count list entries register field shallow taken =
    let place = length before in
    ap (made_call_at w s) (place_of_next s.base place w.instr.a register)
    ∙ ap (λ method. if method then method_call w place s else plain_call w place s) (ap (λ entries. is_at is_method (slice_get entries place)) entries ∙ is_method_there before (more_entry ∷ more) v number)
    ∙ method_call_is w s before more v number count list entries field shallow taken

-- ---- what the word of a call wants

call_reads_from : (op : Op) (pc a b c base : ℕ) → IsCallWord op → base ≤ a → reads_from (instr_by pc (Piece.Abc op a b c)) base ≡ true
call_reads_from op pc a b c base (inl is) above = ap (λ (op : Op). reads_from (instr_by pc (Piece.Abc op a b c)) base) is ∙ le-leb base a above
call_reads_from op pc a b c base (inr is) above = ap (λ (op : Op). reads_from (instr_by pc (Piece.Abc op a b c)) base) is ∙ le-leb base a above

-- it reads the register of its function
call_wants : {f : Function} {g : Fn} {p q : Spot} (op : Op) (a b c : ℕ) (s : Situation) → all_stay f s.scope p.pc ≡ true → IsFunction f g → IsCallWord op → s.base ≤ a → WordAt g (Piece.Abc op a b c) p q → IsWanted f s p.pc
call_wants {p = p} op a b c s stay is_function by above at = word_wants s stay is_function at (abc_is_read is_function at) (call_reads_from op p.pc a b c s.base by above)

-- ---- a function and its arguments

-- and behind its arguments
abbrev behind_both : {f : Function} {On : Value → Type 0} {Given : Values → Bool → Type 0} {deep first mid last : ℕ} {count : Want} {s : Situation} (one : Comes f On deep s first mid) →
    GivenComes f Given deep (behind_one one) count mid last → Situation
behind_both {s = s} one args = behind_words args.scope args.seen (one.entry ∷ args.more) s

both_reached : {f : Function} {On : Value → Type 0} {Given : Values → Bool → Type 0} {deep first mid last : ℕ} {count : Want} {s : Situation} (one : Comes f On deep s first mid)
    (args : GivenComes f Given deep (behind_one one) count mid last) → Reaches f first s last (behind_both one args)
both_reached {f} {mid = mid} {last = last} {s = s} one args =
    reaches_then one.reaches
    (subst (λ (entries : Entries). Reaches f mid (behind_one one) last (record s { scope = args.scope; entries = entries; seen = args.seen })) (append_assoc s.entries (one.entry ∷ []) args.more) args.reaches)

both_called : {f : Function} {g : Fn} {On : Value → Type 0} {Given : Values → Bool → Type 0} {deep first mid : ℕ} {last q : Spot} {count : Want} {s : Situation} (op : Op) (free c : ℕ) (one : Comes f On deep s first mid)
    (args : GivenComes f Given deep (behind_one one) count mid last.pc) → IsFunction f g → deep < 200 → free ≡ next_free s → IsQuiet f s.scope first q.pc → WordAt g (Piece.Abc op free (count_field 1 count) c) last q →
    CallComes f (IsCalled On Given) (suc deep) s op free c first q.pc
both_called {deep = deep} {last = last} {q = q} {count = count} {s = s} op free c one args is_function few is quiet at =
    let deepest_part = max (depth_of one.value) (deepest args.values) in
    let shallow : deepest_part ≤ suc (2 * deep) = omega (arith, one.shallow, args.shallow) in
    let under : deepest_part < 400 = omega (arith, shallow, few) in
    let place : length s.entries + 1 ≡ length (s.entries ++ one.entry ∷ []) = sym (length-append s.entries (one.entry ∷ [])) in
    let list : Listed = record { values = args.values; all = args.all } in
    let same = same_then one.same args.same in
    let reaches = both_reached one args in
    let later : last.pc < q.pc = omega (arith, at.next) in
    let b = count_field 1 count in
    record {
      value = call_of one.value args.values args.all;
      is = (one.value, args.values, args.all, one.is, args.are, call_is_made one.value args.values args.all under);
      shallow = omega (arith, shallow);
      scope = args.scope;
      same = same;
      seen = args.seen;
      taken = ap (taken_behind_values args.values) one.taken ∙ args.taken;
      more = one.entry ∷ args.more;
      b = b;
      pc = last.pc;
      next = at.next;
      reaches = reaches;
      turn = turn_there last.pc (behind_both one args) (quiet_same same quiet) (reaches_on reaches) later (word_there is_function at (abc_is_read is_function at) (omega (arith, later, quiet.within)));
      makes = call_is_of (word_of last.pc (Piece.Abc op free b c)) (behind_both one args) s.entries args.more one.entry one.value list one.single refl is under (args.listed (s.entries ++ one.entry ∷ []) (length s.entries + 1) b place refl);
    }

module _ {f : Function} {g : Fn} {active : List Active} {listed : List ℕ} {On : Counted Value} {Given : CountedValues} {deep : ℕ} (on_part : Rel) (given : GivenRel) (is_function : IsFunction f g) (few : deep < 200)
    (on_reads : Reads f g active listed On deep (on_part.to_reg active)) (given_reads : ReadsGiven f g active listed Given deep given) where
  call_forward : (free : ℕ) (op : Op) (want : Want) (p q : Spot) → CallAt g on_part given active free op want p q → p.pc ≤ q.pc
  call_forward free op want p q at = omega (arith, on_reads.forward free free p at.mid at.on_at, given_reads.forward (free + 1) at.mid at.last at.given_at, at.word.next)

  call_begins : (free : ℕ) (op : Op) (want : Want) (p q : Spot) → q.pc ≤ f.last → CallAt g on_part given active free op want p q → Begins f free p.pc
  call_begins free op want p q within at =
      on_reads.begins free p at.mid (omega (arith, within, given_reads.forward (free + 1) at.mid at.last at.given_at, at.word.next)) at.on_at

  -- what is called is wanted by the first word of the arguments, or by that of the call
  on_wanted : (free : ℕ) (op : Op) (want : Want) (p q : Spot) (s : Situation) → free ≡ next_free s → IsQuiet f s.scope p.pc q.pc → IsCallWord op → (at : CallAt g on_part given active free op want p q) → IsWanted f s at.mid.pc
  on_wanted free op want p q s is quiet by at = by_arguments (given_reads.begins (free + 1) at.mid at.last (omega (arith, at.word.next, quiet.within)) at.given_at)
    where
      on : p.pc ≤ at.mid.pc
      on = on_reads.forward free free p at.mid at.on_at

      back : at.mid.pc ≤ at.last.pc
      back = given_reads.forward (free + 1) at.mid at.last at.given_at

      by_arguments : (at.mid.pc ≡ at.last.pc) ⊎ Begins f (free + 1) at.mid.pc → IsWanted f s at.mid.pc
      by_arguments (inr begins) = begins_wants s (quiet.stays at.mid.pc on (omega (arith, back, at.word.next))) begins (λ none. omega (arith, is, none))
      by_arguments (inl same) =
          let stay = quiet.stays at.last.pc (omega (arith, on, back)) (omega (arith, at.word.next)) in
          subst (λ (pc : ℕ). IsWanted f s pc) (sym same) (call_wants op free (count_field 1 given.count) (count_field 1 want) s stay is_function by (omega (arith, is)) at.word)

  call_comes : (free : ℕ) (op : Op) (want : Want) (p q : Spot) (s : Situation) → HasLocals active listed s → free ≡ next_free s → IsQuiet f s.scope p.pc q.pc → IsCallWord op → CallAt g on_part given active free op want p q →
      CallComes f (called_by On Given p.functions q.functions) (suc deep) s op free (count_field 1 want) p.pc q.pc
  call_comes free op want p q s locals is quiet by at =
      let on_first = on_reads.forward free free p at.mid at.on_at in
      let later : at.last.pc < q.pc = omega (arith, at.word.next) in
      let before = quiet_before at.last.pc (omega (arith, later)) quiet in
      let one = comes_next on_reads free p at.mid s locals is (quiet_before at.mid.pc (given_reads.forward (free + 1) at.mid at.last at.given_at) before) (on_wanted free op want p q s is quiet by at) at.on_at in
      let next : free + 1 ≡ next_free (behind_one one) = omega (arith, is, length-append s.entries (one.entry ∷ [])) in
      let there : HasLocals active listed (behind_one one) = locals_then one.same locals in
      let some : 0 < length (behind_one one).entries = omega (arith, length-append s.entries (one.entry ∷ [])) in
      let args = given_reads.comes (free + 1) at.mid at.last (behind_one one) there next (quiet_same one.same (quiet_from at.mid.pc on_first before)) some at.given_at in
      let mid = at.mid.functions in
      call_so (omega arith) (λ v made. (mid, subst (λ (behind : ℕ). IsCalled (On p.functions mid) (Given mid behind) v) (sym at.word.functions) made)) (both_called op free (count_field 1 want) one args is_function few is quiet at.word)

pub call_reads : {f : Function} {g : Fn} {active : List Active} {listed : List ℕ} {On : Counted Value} {Given : CountedValues} {deep : ℕ} (on : Rel) (given : GivenRel) → IsFunction f g → deep < 200 →
    Reads f g active listed On deep (on.to_reg active) → ReadsGiven f g active listed Given deep given → ReadsCall f g active listed (called_by On Given) (suc deep) (CallAt g on given active)
call_reads on given is_function few on_reads given_reads = record {
  forward = call_forward on given is_function few on_reads given_reads;
  begins = call_begins on given is_function few on_reads given_reads;
  comes = call_comes on given is_function few on_reads given_reads;
}
