-- What comes of the words of a call and of `...`: one value, in the register of its function or moved from there, or all of them.
use Rattle.std.proofs.Common.{◌≡◌, ℕ, suc, ◌+◌, ◌-◌, ◌<◌, ◌≤◌, max, nat_lt, Bool, true, false, List, [], ◌∷◌, ◌++◌, append-nil, Option, Some, None, refl, sym, ap, ap₂, ◌∙◌, subst, inl, inr, arith}
use Rattle.std.specs.Prelude.{◌==◌, slice_get, option_map, option_and_then, if◌then◌else◌}
use Rattle.opcode.specs.declared.op.Op.{Op}
use Rattle.core_expr.specs.Making.{deepest, depth_of}
use Rattle.core_expr.specs.Values.{Value, call_value, method_value, vararg_value}
use Rattle.recover_expr.specs.Drafts.{makes}
use Rattle.recover_expr.specs.Entries.{EntryValue, Entries, value_entry, is_at, is_method, open_entry, place_in, take_at, take_list, take_method}
use Rattle.recover_expr.specs.Lists.{is_nil}
use Rattle.recover_expr.specs.Reading.{Turn, on as goes_to, turn_of, turned}
use Rattle.recover_expr.specs.Situation.{Function, Situation}
use Rattle.recover_expr.specs.Words.{Done, call_made, call_on, gone, made_call_at, made_call_of, method_call, method_on, plain_call, with_entries, with_more, with_register}
use Rattle.recover_expr.specs.declared.function.Word.{Word}
use Rattle.scheme.specs.Expressions.{Want}
use Rattle.scheme.specs.declared.making.Piece.{Piece}
use Rattle.scheme.specs.declared.making.Active.{Active}
use Rattle.scheme_stands.specs.Lists.{MovedFrom, VarargAt}
use Rattle.scheme_stands.specs.Words.{Fn, Spot, Stretch, Seq, WordAt, instr_by}
use Rattle.reads_back.proofs.Comes.{Begins, Comes, Made, Moved, Arrives, Reads, CallComes, ReadsCall, OpenComes, ReadsOpen}
use Rattle.reads_back.proofs.BehindWords.{HasLocals, same_locals, quiet_same, behind_words}
use Rattle.reads_back.proofs.Reaches.{here, word, reaches_then}
use Rattle.reads_back.proofs.ValueWords.{and_entry, entry_next, next_free}
use Rattle.reads_back.proofs.WordsBegin.{word_begins}
use Rattle.reads_back.proofs.WordsRead.{IsFunction, IsQuiet, abc_is_read, quiet_before, turn_there, word_of, word_there}
use Rattle.reads_back.specs.Cores.{Counted, still}
use Rattle.reads_back.proofs.Deeper.{comes_so, made_so, open_so}

-- ---- one value of a call

-- the word puts what it makes where its function was
call_puts : (f : Function) (w : Word) (entry : EntryValue) (s t : Situation) → w.instr.a ≡ next_free t → turn_of f s w ≡ option_and_then (λ p. turned f w p.1 p.0) (gone w.next (option_map (with_more []) (with_register w.instr.a entry t))) →
    turn_of f s w ≡ Some (goes_to w.next, and_entry entry t)
call_puts f w entry s t is turn =
    turn
    ∙ ap (λ put. option_and_then (λ p. turned f w p.1 p.0) (gone w.next (option_map (with_more []) put))) (entry_next entry t w.instr.a is)
    ∙ ap (λ (entries : Entries). Some (goes_to w.next, record t { entries = entries })) (append-nil (t.entries ++ entry ∷ []))

call_to : {f : Function} {Is : Value → Type 0} {deep free first last : ℕ} {s : Situation} → free ≡ next_free s → CallComes f Is deep s Op.Call free 2 first last → Comes f Is deep s first last
call_to {f} {free = free} {first = first} {last = last} {s = s} is call =
    let t = behind_words call.scope call.seen call.more s in
    let behind = record s { scope = call.scope; seen = call.seen } in
    let w = word_of call.pc (Piece.Abc Op.Call free call.b 2) in
    let made = ap (λ made. option_and_then (λ p. turned f w p.1 p.0) (option_and_then (call_made f w) made)) call.makes in
    let turn = call.turn ∙ call_puts f w (value_entry call.value) t behind is made ∙ ap (λ (next : ℕ). Some (goes_to next, and_entry (value_entry call.value) behind)) (sym call.next) in
    record {
      value = call.value;
      is = call.is;
      entry = value_entry call.value;
      single = refl;
      shallow = call.shallow;
      scope = call.scope;
      same = call.same;
      seen = call.seen;
      taken = call.taken;
      reaches = reaches_then call.reaches (word (omega (arith, call.next)) turn here);
    }

-- what a call gives is no nil
abbrev IsNoNil : Option (Value × Situation) → Type 0
IsNoNil None = Unit {0}
IsNoNil (Some p) = is_nil p.0 ≡ false

then_no_nil : {A : Type 0} (some : Option A) (make : A → Option (Value × Situation)) → ((a : A) → IsNoNil (make a)) → IsNoNil (option_and_then make some)
then_no_nil None make each = tt
then_no_nil (Some a) make each = each a

given_no_nil : (few : Bool) (v : Value) (s : Situation) (entries : Entries) → is_nil v ≡ false → IsNoNil (with_entries s entries (if few then Some v else None))
given_no_nil true v s entries other = other
given_no_nil false v s entries other = tt

either_no_nil : (first : Bool) (one other : Option (Value × Situation)) → IsNoNil one → IsNoNil other → IsNoNil (if first then one else other)
either_no_nil true one other is also = is
either_no_nil false one other is also = also

call_no_nil : (w : Word) (s : Situation) → IsNoNil (made_call_of w s)
call_no_nil w s = at (place_in s.base w.instr.a)
  where
    plain : (place : ℕ) → IsNoNil (plain_call w place s)
    plain place =
        then_no_nil (take_list (place + 1) w.instr.b s.entries) _ (λ args. then_no_nil (take_at place args.1) (call_on s args.0)
        (λ on. given_no_nil (nat_lt (max (depth_of on.0) (deepest args.0.values)) 400) (call_value on.0 args.0.values args.0.all _) s on.1 refl))

    method : (place : ℕ) → IsNoNil (method_call w place s)
    method place =
        either_no_nil (w.instr.b == 1) None _ tt (then_no_nil (take_list (place + 2) (w.instr.b - 1) s.entries) _ (λ args. then_no_nil (take_method place args.1) (method_on s args.0)
        (λ m. given_no_nil (nat_lt (max (depth_of m.0.0) (deepest args.0.values)) 400) (method_value m.0.0 m.0.1 args.0.values args.0.all _) s m.1 refl)))

    at : (place : Option ℕ) → IsNoNil (made_call_at w s place)
    at None = tt
    at (Some place) = either_no_nil (is_at is_method (slice_get s.entries place)) _ _ (method place) (plain place)

module _ {f : Function} {g : Fn} {active : List Active} {listed : List ℕ} {Is : Counted Value} {deep : ℕ} (part : (free : ℕ) → Op → Want → Stretch) (is_function : IsFunction f g) (reads : ReadsCall f g active listed Is deep part) where
  value_forward : (free r : ℕ) (p q : Spot) → MovedFrom g (part free Op.Call (Some 1)) free r p q → p.pc ≤ q.pc
  value_forward free r p q (inl (same, at)) = reads.forward free Op.Call (Some 1) p q at
  value_forward free r p q (inr (other, at)) = omega (arith, reads.forward free Op.Call (Some 1) p at.mid at.first_at, at.second_at.next)

  value_begins : (free : ℕ) (p q : Spot) → q.pc ≤ f.last → MovedFrom g (part free Op.Call (Some 1)) free free p q → Begins f free p.pc
  value_begins free p q within (inl (same, at)) = reads.begins free Op.Call (Some 1) p q within at
  value_begins free p q within (inr (other, at)) = absurd (other refl)

  value_moved : (free r : ℕ) (p q : Spot) (s : Situation) → HasLocals active listed s → free ≡ next_free s → IsQuiet f s.scope p.pc q.pc → (free ≡ r → ⊥) → Seq (part free Op.Call (Some 1)) (WordAt g (Piece.Abc Op.Move r free 0)) p q →
      Moved f (Is p.functions q.functions) deep s r p.pc q.pc
  unfolding call_to
  value_moved free r p q s locals is quiet other at =
      let later : at.mid.pc < q.pc = omega (arith, at.second_at.next) in
      let on = reads.forward free Op.Call (Some 1) p at.mid at.first_at in
      let call = reads.comes free Op.Call (Some 1) p at.mid s locals is (quiet_before at.mid.pc (omega (arith, later)) quiet) (inl refl) at.first_at in
      let comes = comes_so (omega arith) (λ v made. subst (λ (behind : ℕ). Is p.functions behind v) (sym at.second_at.functions) made) (call_to is call) in
      let t = behind_words comes.scope comes.seen (comes.entry ∷ []) s in
      let there = word_there is_function at.second_at (abc_is_read is_function at.second_at) (omega (arith, later, quiet.within)) in
      let turn = turn_there at.mid.pc t (quiet_same comes.same quiet) on later there in
      record {
        mid = at.mid.pc;
        comes = comes;
        no_nil = subst IsNoNil call.makes (call_no_nil (word_of call.pc (Piece.Abc Op.Call free call.b 2)) (behind_words call.scope call.seen call.more s));
        other = λ same. other (is ∙ same);
        later = later;
        turn = turn ∙ ap₂ (λ (next from : ℕ). turn_of f t (record { pc = at.mid.pc; next = next; instr = instr_by at.mid.pc (Piece.Abc Op.Move r from 0) })) (sym at.second_at.next) is;
      }

  value_arrives : (free r : ℕ) (p q : Spot) (s : Situation) → HasLocals active listed s → free ≡ next_free s → IsQuiet f s.scope p.pc q.pc → MovedFrom g (part free Op.Call (Some 1)) free r p q → Arrives f (Is p.functions q.functions) deep s r p.pc q.pc
  value_arrives free r p q s locals is quiet (inl (same, at)) = inr (inl (sym same ∙ is, call_to is (reads.comes free Op.Call (Some 1) p q s locals is quiet (inl refl) at)))
  value_arrives free r p q s locals is quiet (inr (other, at)) = inr (inr (value_moved free r p q s locals is quiet other at))

pub call_value_reads : {f : Function} {g : Fn} {active : List Active} {listed : List ℕ} {Is : Counted Value} {deep : ℕ} (part : (free : ℕ) → Op → Want → Stretch) → IsFunction f g → ReadsCall f g active listed Is deep part →
    Reads f g active listed Is deep (λ free r. MovedFrom g (part free Op.Call (Some 1)) free r)
call_value_reads part is_function reads = record {
  forward = value_forward part is_function reads;
  begins = value_begins part is_function reads;
  arrives = λ free r p q s locals is goal quiet wanted at. value_arrives part is_function reads free r p q s locals is quiet at;
}

-- ---- all values of a call

call_opens : {f : Function} {Is : Value → Type 0} {deep free first last : ℕ} {s : Situation} → free ≡ next_free s → CallComes f Is deep s Op.Call free 0 first last → OpenComes f Is deep s first last
call_opens {f} {free = free} {first = first} {last = last} {s = s} is call =
    let behind = record s { scope = call.scope; seen = call.seen } in
    let w = word_of call.pc (Piece.Abc Op.Call free call.b 0) in
    let does : Done → Option (Turn × Situation) = option_and_then (λ p. turned f w p.1 p.0) in
    let turn =
    call.turn
    ∙ ap (λ made. does (option_and_then (call_made f w) made)) call.makes
    ∙ ap (λ put. does (gone w.next put)) (entry_next (open_entry call.value) behind free is)
    ∙ ap (λ (next : ℕ). Some (goes_to next, and_entry (open_entry call.value) behind)) (sym call.next) in
    record {
      value = call.value;
      is = call.is;
      shallow = call.shallow;
      scope = call.scope;
      same = call.same;
      seen = call.seen;
      taken = call.taken;
      reaches = reaches_then call.reaches (word (omega (arith, call.next)) turn here);
    }

pub call_open_reads : {f : Function} {g : Fn} {active : List Active} {listed : List ℕ} {Is : Counted Value} {deep : ℕ} {part : (free : ℕ) → Op → Want → Stretch} → IsFunction f g → ReadsCall f g active listed Is deep part →
    ReadsOpen f g active listed Is deep part
call_open_reads is_function reads = record {
  forward = reads.forward;
  begins = λ free p q within at. reads.begins free Op.Call None p q within at;
  comes = λ free p q s locals is quiet at. call_opens is (reads.comes free Op.Call None p q s locals is quiet (inl refl) at);
}

-- ---- `...`

vararg_made : {f : Function} {g : Fn} {p q : Spot} {s : Situation} (r : ℕ) → IsFunction f g → IsQuiet f s.scope p.pc q.pc → WordAt g (Piece.Abc Op.Vararg r 2 0) p q → Made f (λ v. v ≡ vararg_value) 1 s r p.pc q.pc
vararg_made {f} {p = p} {q = q} {s = s} r is_function quiet at =
    let later : p.pc < q.pc = omega (arith, at.next) in
    record {
      value = vararg_value;
      is = refl;
      shallow = omega arith;
      scope = s.scope;
      same = same_locals s.scope;
      seen = s.seen;
      taken = refl;
      before = s;
      word = word_of p.pc (Piece.Abc Op.Vararg r 2 0);
      reaches = here;
      turn = turn_there p.pc s quiet (omega arith) later (word_there is_function at (abc_is_read is_function at) (omega (arith, later, quiet.within)));
      later = later;
      register = refl;
      makes = ap (λ (next : ℕ). Some (makes vararg_value next, s)) (sym at.next);
    }

pub vararg_reads : {f : Function} {g : Fn} {active : List Active} {listed : List ℕ} → IsFunction f g → Reads f g active listed (still (λ v. v ≡ vararg_value)) 1 (λ free r. WordAt g (Piece.Abc Op.Vararg r 2 0))
vararg_reads is_function = record {
  forward = λ free r p q at. omega (arith, at.next);
  begins = λ free p q within at. word_begins free is_function at (abc_is_read is_function at) refl (omega arith);
  arrives = λ free r p q s locals is goal quiet wanted at. inl (made_so (omega arith) (λ v made. (at.functions, made)) (vararg_made r is_function quiet at));
}

vararg_opens : {f : Function} {g : Fn} {p q : Spot} {s : Situation} (free : ℕ) → IsFunction f g → free ≡ next_free s → IsQuiet f s.scope p.pc q.pc → WordAt g (Piece.Abc Op.Vararg free 0 0) p q → OpenComes f (λ v. v ≡ vararg_value) 1 s p.pc q.pc
vararg_opens {f} {p = p} {q = q} {s = s} free is_function is quiet at =
    let later : p.pc < q.pc = omega (arith, at.next) in
    let w = word_of p.pc (Piece.Abc Op.Vararg free 0 0) in
    let does : Done → Option (Turn × Situation) = option_and_then (λ p. turned f w p.1 p.0) in
    let turn =
    turn_there p.pc s quiet (omega arith) later (word_there is_function at (abc_is_read is_function at) (omega (arith, later, quiet.within)))
    ∙ ap (λ put. does (gone (suc p.pc) put)) (entry_next (open_entry vararg_value) s free is)
    ∙ ap (λ (next : ℕ). Some (goes_to next, and_entry (open_entry vararg_value) s)) (sym at.next) in
    record {
      value = vararg_value;
      is = refl;
      shallow = omega arith;
      scope = s.scope;
      same = same_locals s.scope;
      seen = s.seen;
      taken = refl;
      reaches = word later turn here;
    }

pub vararg_open_reads : {f : Function} {g : Fn} {active : List Active} {listed : List ℕ} → IsFunction f g → ReadsOpen f g active listed (still (λ v. v ≡ vararg_value)) 1 (VarargAt g active)
vararg_open_reads is_function = record {
  forward = λ free op want p q at. omega (arith, at.word.next);
  begins = λ free p q within at. word_begins free is_function at.word (abc_is_read is_function at.word) refl (omega arith);
  comes = λ free p q s locals is quiet at. open_so (omega arith) (λ v made. (at.word.functions, made)) (vararg_opens free is_function is quiet at.word);
}
