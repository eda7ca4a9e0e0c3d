-- A call or `...` at the end of a list gives so many values more to the next registers, and the values before it stand below them.
use Rattle.std.proofs.Common.{◌≡◌, ℕ, suc, ◌+◌, ◌-◌, ◌<◌, ◌≤◌, ◌⊎◌, max, nat_lt, Bool, true, false, List, [], ◌∷◌, ◌++◌, append_assoc, length, length-append, Option, Some, None, refl, sym, ap, ◌∙◌, subst, arith, inl, inr}
use Rattle.std.proofs.lemmas.Bool.{ne_eqb}
use Rattle.std.proofs.lemmas.Option.{same_Some}
use Rattle.std.specs.Prelude.{◌==◌, option_and_then, option_map, if◌then◌else◌}
use Rattle.lua_tree.specs.Syntax as syntax
use Rattle.lua_tree.specs.Syntax.{Expression, Expressions, no_expressions, vararg_expression, call_expression, method_call}
use Rattle.lua_tree.specs.WellFormed.{depth_of_expression, depth_of_expressions, is_call}
use Rattle.opcode.specs.declared.op.Op.{Op}
use Rattle.core_expr.specs.Counting.{taken_behind, taken_behind_values}
use Rattle.core_expr.specs.Making.{depth_of, deepest}
use Rattle.core_expr.specs.Values.{Value, Values, call_value, method_value, vararg_value}
use Rattle.core_expr.specs.Writing.{is_multiple as can_be_several}
use Rattle.recover_expr.specs.Drafts.{goes, makes}
use Rattle.recover_expr.specs.Entries.{Entries, EntryValue, value_entry, more_entry, open_entry, and_last_value, more}
use Rattle.recover_expr.specs.Lists.{ends_multiple, value_count}
use Rattle.recover_expr.specs.Locals.{Scope}
use Rattle.recover_expr.specs.Reading.{Turn, on as goes_to, turned}
use Rattle.recover_expr.specs.Situation.{Function, Situation}
use Rattle.recover_expr.specs.Words.{Done, as_end, call_made, call_written, gone, vararg, with_more, with_register}
use Rattle.recover_expr.specs.declared.function.Word.{Word}
use Rattle.scheme.specs.Expressions.{Want, is_multiple}
use Rattle.scheme.specs.declared.making.Active.{Active}
use Rattle.scheme.specs.declared.making.Piece.{Piece}
use Rattle.scheme_stands.specs.Lists.{AllMultiAt, AllNextAt}
use Rattle.scheme_stands.specs.Relation.{all_related, related}
use Rattle.scheme_stands.specs.Words.{Fn, Spot, WordAt}
use Rattle.reads_back.specs.Cores.{AllHaveCores, AreCores, HasCore, IsCore, ends_open, still}
use Rattle.reads_back.proofs.AdjustedEntries.{count_last, entries_end, several_last, taken_end}
use Rattle.reads_back.proofs.BehindWords.{HasLocals, SameLocals, behind_words, quiet_same, same_locals, same_then, locals_then}
use Rattle.reads_back.proofs.Comes.{AreEntries, Begins, CallComes, IsWanted}
use Rattle.reads_back.proofs.GivenLists.{AllCome, AllRead, all_begin, all_come, all_forward, none_come}
use Rattle.reads_back.proofs.NameReads.{AreListed}
use Rattle.reads_back.proofs.LastOfList.{FrontAndLast, last_alone, last_behind}
use Rattle.reads_back.proofs.Reaches.{Reaches, here, reaches_then, word}
use Rattle.reads_back.proofs.TakenEntries.{count_of_entries}
use Rattle.reads_back.proofs.Tests.{not_so}
use Rattle.reads_back.proofs.ValueReads.{each_read, call_read}
use Rattle.reads_back.proofs.ValueWords.{entry_next, next_free}
use Rattle.reads_back.proofs.WordsBegin.{begins_wants, word_begins, begins_same}
use Rattle.reads_back.proofs.WordsLater.{multi_later, value_later}
use Rattle.reads_back.proofs.WordsRead.{IsFunction, IsQuiet, abc_is_read, quiet_before, quiet_from, turn_there, word_of, word_there}
use Rattle.recover_expr.specs.Items.{all_stay}

-- ---- an entry, and so many others above it

pub entries_put : (entry other : EntryValue) (n r : ℕ) (s : Situation) → r ≡ next_free s →
    option_map (with_more (more n other)) (with_register r entry s) ≡ Some (record s { entries = s.entries ++ entry ∷ more n other })
entries_put entry other n r s is =
    ap (option_map (with_more (more n other))) (entry_next entry s r is)
    ∙ ap (λ (entries : Entries). Some (record s { entries = entries })) (append_assoc s.entries (entry ∷ []) (more n other))

-- the entries of a value and so many further ones
abbrev and_further : Value → ℕ → Entries
and_further v n = value_entry v ∷ more n more_entry

-- a field counts one more than there are values
call_puts : (f : Function) (w : Word) (v : Value) (s : Situation) (n : ℕ) → 0 < n → w.instr.c ≡ n + 1 + 1 → w.instr.a ≡ next_free s →
    call_made f w (v, s) ≡ Some (goes w.next, record s { entries = s.entries ++ and_further v n })
call_puts f w v s n some field is =
    let put = λ (n : ℕ). gone w.next (option_map (with_more (more n more_entry)) (with_register w.instr.a (value_entry v) s)) in
    let opened = gone w.next (with_register w.instr.a (open_entry v) s) in
    let one = λ (only : Bool). if only then option_map as_end (call_written f w (v, s)) else put (w.instr.c - 2) in
    let fewer : w.instr.c - 2 ≡ n = omega (arith, field) in
    ap (λ all. if all then opened else one (w.instr.c == 1)) (ne_eqb w.instr.c 0 (λ same. omega (arith, field, same)))
    ∙ ap one (ne_eqb w.instr.c 1 (λ same. omega (arith, some, field, same)))
    ∙ ap put fewer
    ∙ ap (gone w.next) (entries_put (value_entry v) more_entry n w.instr.a s is)

vararg_puts : (w : Word) (s : Situation) (n : ℕ) → 0 < n → w.instr.b ≡ n + 1 + 1 → w.instr.a ≡ next_free s →
    vararg w s ≡ Some (goes w.next, record s { entries = s.entries ++ and_further vararg_value n })
vararg_puts w s n some field is =
    let put = λ (n : ℕ). gone w.next (option_map (with_more (more n more_entry)) (with_register w.instr.a (value_entry vararg_value) s)) in
    let opened = gone w.next (with_register w.instr.a (open_entry vararg_value) s) in
    let one = λ (only : Bool). if only then Some (makes vararg_value w.next, s) else put (w.instr.b - 2) in
    let some_or = λ (none : Bool). if none then None else one (w.instr.b == 2) in
    let fewer : w.instr.b - 2 ≡ n = omega (arith, field) in
    ap (λ all. if all then opened else some_or (w.instr.b == 1)) (ne_eqb w.instr.b 0 (λ same. omega (arith, field, same)))
    ∙ ap some_or (ne_eqb w.instr.b 1 (λ same. omega (arith, some, field, same)))
    ∙ ap one (ne_eqb w.instr.b 2 (λ same. omega (arith, some, field, same)))
    ∙ ap put fewer
    ∙ ap (gone w.next) (entries_put (value_entry vararg_value) more_entry n w.instr.a s is)

-- ---- so many values more of one expression

-- a value comes to the next register, and n further ones to those above it
record LastComes (f : Function) (Is : Value → Type 0) (s : Situation) (n first last : ℕ) : Type 0 where
  value : Value
  is : Is value
  scope : Scope
  same : SameLocals s.scope scope
  seen : ℕ
  taken : taken_behind value s.seen ≡ seen
  reaches : Reaches f first s last (behind_words scope seen (and_further value n) s)

call_gives : {f : Function} {Is : Value → Type 0} {deep free first last : ℕ} {s : Situation} (n : ℕ) → 0 < n → free ≡ next_free s → CallComes f Is deep s Op.Call free (n + 1 + 1) first last →
    LastComes f Is s n first last
call_gives {f} {free = free} {first = first} {last = last} {s = s} n some is call =
    let behind = record s { scope = call.scope; seen = call.seen } in
    let w = word_of call.pc (Piece.Abc Op.Call free call.b (n + 1 + 1)) in
    let does : Done → Option (Turn × Situation) = option_and_then (λ p. turned f w p.1 p.0) in
    let turn =
    call.turn
    ∙ ap (λ made. does (option_and_then (call_made f w) made)) call.makes
    ∙ ap does (call_puts f w call.value behind n some refl is)
    ∙ ap (λ (next : ℕ). Some (goes_to next, record behind { entries = s.entries ++ and_further call.value n })) (sym call.next) in
    record {
      value = call.value;
      is = call.is;
      scope = call.scope;
      same = call.same;
      seen = call.seen;
      taken = call.taken;
      reaches = reaches_then call.reaches (word (omega (arith, call.next)) turn here);
    }

vararg_gives : {f : Function} {g : Fn} {p q : Spot} {s : Situation} (n free : ℕ) → 0 < n → IsFunction f g → free ≡ next_free s → IsQuiet f s.scope p.pc q.pc → WordAt g (Piece.Abc Op.Vararg free (n + 1 + 1) 0) p q →
    LastComes f (still (λ v. v ≡ vararg_value) p.functions q.functions) s n p.pc q.pc
vararg_gives {f} {p = p} {q = q} {s = s} n free some is_function is quiet at =
    let later : p.pc < q.pc = omega (arith, at.next) in
    let w = word_of p.pc (Piece.Abc Op.Vararg free (n + 1 + 1) 0) in
    let does : Done → Option (Turn × Situation) = option_and_then (λ p. turned f w p.1 p.0) in
    let turn =
    turn_there p.pc s quiet (omega arith) later (word_there is_function at (abc_is_read is_function at) (omega (arith, later, quiet.within)))
    ∙ ap does (vararg_puts w s n some refl is)
    ∙ ap (λ (next : ℕ). Some (goes_to next, record s { entries = s.entries ++ and_further vararg_value n })) (sym at.next) in
    record {
      value = vararg_value;
      is = (at.functions, refl);
      scope = s.scope;
      same = same_locals s.scope;
      seen = s.seen;
      taken = refl;
      reaches = word later turn here;
    }

-- where its words stand, which give one value and n further ones
record ReadsLast (f : Function) (g : Fn) (active : List Active) (listed : List ℕ) (e : Expression) (n : ℕ) : Type 0 where
  forward : (free : ℕ) (p q : Spot) → (related g e).multi active free Op.Call (Some (n + 1)) p q → p.pc ≤ q.pc
  begins : (free : ℕ) (p q : Spot) → q.pc ≤ f.last → (related g e).multi active free Op.Call (Some (n + 1)) p q → Begins f free p.pc
  comes : (free : ℕ) (p q : Spot) (s : Situation) → HasLocals active listed s → free ≡ next_free s → IsQuiet f s.scope p.pc q.pc → (related g e).multi active free Op.Call (Some (n + 1)) p q →
      LastComes f (IsCore g active e p.functions q.functions) s n p.pc q.pc
  several : (before behind : ℕ) (v : Value) → IsCore g active e before behind v → can_be_several v ≡ true

made_several : (few : Bool) (w v : Value) → ◌≡◌ {A = Option Value} (if few then Some w else None) (Some v) → can_be_several w ≡ true → can_be_several v ≡ true
made_several true w v is several = ap can_be_several (sym (same_Some w v is)) ∙ several
made_several false w v is several = cc

module _ {f : Function} {g : Fn} {active : List Active} {listed : List ℕ} (is_function : IsFunction f g) (all : AreListed f g active listed) (n : ℕ) (some : 0 < n) where
  call_last : (e : Expression) → is_call e ≡ true → HasCore e → depth_of_expression e ≤ 200 → ((before behind : ℕ) (v : Value) → IsCore g active e before behind v → can_be_several v ≡ true) → ReadsLast f g active listed e n
  call_last e call has few several =
      let reads = call_read is_function all e call has few in
      record {
        forward = λ free p q at. reads.1.forward free Op.Call (Some (n + 1)) p q at;
        begins = λ free p q within at. reads.1.begins free Op.Call (Some (n + 1)) p q within at;
        comes = λ free p q s locals is quiet at. call_gives n some is (reads.1.comes free Op.Call (Some (n + 1)) p q s locals is quiet (inl refl) at);
        several = several;
      }

  reads_last : (e : Expression) → HasCore e → depth_of_expression e ≤ 200 → is_multiple e ≡ true → ReadsLast f g active listed e n
  reads_last (vararg_expression line) has few many = record {
    forward = λ free p q at. omega (arith, at.word.next);
    begins = λ free p q within at. word_begins free is_function at.word (abc_is_read is_function at.word) refl (omega arith);
    comes = λ free p q s locals is quiet at. vararg_gives n free some is_function is quiet at.word;
    several = λ before behind v is. ap can_be_several is.1;
  }
  reads_last (call_expression line on args on_line) has few many =
      call_last (call_expression line on args on_line) refl has few (λ before behind v is. let on = is.1 in made_several (nat_lt (max (depth_of on.0) (deepest on.1)) 400) (call_value on.0 on.1 on.2 _) v on.5 refl)
  reads_last (method_call line on name args on_line) has few many =
      call_last (method_call line on name args on_line) refl has few (λ before behind v is. let on = is.1 in made_several (nat_lt (max (depth_of on.0) (deepest on.2)) 400) (method_value on.0 on.1 on.2 on.3 _) v on.7 refl)
  reads_last e has few many = not_so many

-- ---- the last one of a list, and those before it

-- where their words stand
record LastAt (g : Fn) (active : List Active) (op : Op) (want : Want) (es : Expressions) (free : ℕ) (p q : Spot) : Type 0 where
  front : Expressions
  last : Expression
  mid : Spot
  parts : FrontAndLast g active es free p mid front last
  counts : length (all_related g es) ≡ suc (length (all_related g front))
  last_at : (related g last).multi active (free + length (all_related g front)) op want mid q
  several : is_multiple last ≡ true

last_one : (g : Fn) (active : List Active) (op : Op) (want : Want) (es : Expressions) → AllHaveCores es → true ≡ ends_open es → (free : ℕ) (p q : Spot) → AllMultiAt g op want (all_related g es) active free p q →
    LastAt g active op want es free p q
last_one g active op want no_expressions has ends free p q at = not_so (sym ends)
last_one g active op want (syntax.expression e no_expressions) has ends free p q at =
    let here : free ≡ free + 0 = omega arith in
    record {
      front = no_expressions;
      last = e;
      mid = p;
      parts = last_alone g active e has.0 free p;
      counts = refl;
      last_at = subst (λ (free : ℕ). (related g e).multi active free op want p q) here at;
      several = sym ends;
    }
last_one g active op want (syntax.expression e (syntax.expression d es)) has ends free p q at =
    let rest = last_one g active op want (syntax.expression d es) has.1 ends (free + 1) at.mid q at.others in
    let next : free + 1 + length (all_related g rest.front) ≡ free + suc (length (all_related g rest.front)) = omega arith in
    record {
      front = syntax.expression e rest.front;
      last = rest.last;
      mid = rest.mid;
      parts = last_behind g active e has.0 free p (syntax.expression d es) rest.front rest.last at.mid rest.mid at.room at.first rest.parts;
      counts = ap suc rest.counts;
      last_at = subst (λ (free : ℕ). (related g rest.last).multi active free op want rest.mid q) next rest.last_at;
      several = rest.several;
    }

-- ---- single values

module _ (f : Function) (g : Fn) (active : List Active) (listed : List ℕ) (deep : ℕ) where
  -- if there are any they are wanted behind them
  pub wanted_come : (es : Expressions) → AllRead f g active listed deep es → (free : ℕ) (p q : Spot) (s : Situation) → HasLocals active listed s → free ≡ next_free s → IsQuiet f s.scope p.pc q.pc →
      (length (all_related g es) ≡ 1 → IsWanted f s q.pc) → AllNextAt g (all_related g es) active free p q → AllCome f (AreCores g active es p.functions q.functions) deep s (length (all_related g es)) p.pc q.pc
  wanted_come no_expressions reads free p q s locals is quiet wanted at = none_come f g active deep s p q at.pc at.functions
  wanted_come (syntax.expression e es) reads free p q s locals is quiet wanted at = all_come f g active listed deep (syntax.expression e es) reads free p q s locals is quiet wanted at

  -- above them a word begins a value
  pub singles_come : (es : Expressions) → AllRead f g active listed deep es → (free : ℕ) (p q : Spot) (s : Situation) → HasLocals active listed s → free ≡ next_free s → IsQuiet f s.scope p.pc q.pc →
      all_stay f s.scope q.pc ≡ true → Begins f (free + length (all_related g es)) q.pc → AllNextAt g (all_related g es) active free p q → AllCome f (AreCores g active es p.functions q.functions) deep s (length (all_related g es)) p.pc q.pc
  singles_come es reads free p q s locals is quiet stay begins at = wanted_come es reads free p q s locals is quiet (λ only. begins_wants s stay begins (λ none. omega (arith, is, only, none))) at

-- ---- single values, and further ones of the last

-- values come, and n further ones of the last of them
pub record SeveralCome (f : Function) (Are : Values → Type 0) (s : Situation) (count n first last : ℕ) : Type 0 where
  pub values : Values
  pub are : Are values
  pub counts : value_count values ≡ count
  pub several : ends_multiple values ≡ true
  pub scope : Scope
  pub same : SameLocals s.scope scope
  pub seen : ℕ
  pub taken : taken_behind_values values s.seen ≡ seen
  pub entries : Entries
  pub singles : AreEntries entries values
  pub reaches : Reaches f first s last (behind_words scope seen (entries ++ more n more_entry) s)

-- what is known behind single values
abbrev pub behind_all : {f : Function} {Are : Values → Type 0} {deep count first last : ℕ} {s : Situation} → AllCome f Are deep s count first last → Situation
behind_all {s = s} front = behind_words front.scope front.seen front.entries s

several_behind : {f : Function} {Front All : Values → Type 0} {Is : Value → Type 0} {deep count n first mid last : ℕ} {s : Situation} →
    ((vs : Values) (v : Value) → Front vs → Is v → All (and_last_value vs v)) → ((v : Value) → Is v → can_be_several v ≡ true) →
    (front : AllCome f Front deep s count first mid) → LastComes f Is (behind_all front) n mid last → SeveralCome f All s (suc count) n first last
several_behind {f} {n = n} {mid = mid} {last = last} {s = s} are several front one =
    let entries = front.entries ++ value_entry one.value ∷ [] in
    let further = more n more_entry in
    let same = append_assoc s.entries front.entries (and_further one.value n) ∙ ap (λ behind. s.entries ++ behind) (sym (append_assoc front.entries (value_entry one.value ∷ []) further)) in
    let reached = λ (entries : Entries). Reaches f mid (behind_all front) last (record s { scope = one.scope; entries = entries; seen = one.seen }) in
    record {
      values = and_last_value front.values one.value;
      are = are front.values one.value front.are one.is;
      counts = count_last front.values one.value ∙ ap suc front.counts;
      several = several_last front.values one.value (several one.value one.is);
      scope = one.scope;
      same = same_then front.same one.same;
      seen = one.seen;
      taken = taken_end front.values one.value s.seen ∙ ap (taken_behind one.value) front.taken ∙ one.taken;
      entries = entries;
      singles = entries_end front.entries front.values one.value front.singles;
      reaches = reaches_then front.reaches (subst reached same one.reaches);
    }

module _ {f : Function} {g : Fn} {active : List Active} {listed : List ℕ} (is_function : IsFunction f g) (all : AreListed f g active listed) where
  pub singles_later : (es : Expressions) → AllHaveCores es → depth_of_expressions es ≤ 200 → (free : ℕ) (p q : Spot) → AllNextAt g (all_related g es) active free p q → 0 < length (all_related g es) → p.pc < q.pc
  singles_later no_expressions has few free p q at some = absurd (omega (arith, some))
  singles_later (syntax.expression e es) has few free p q at some =
      let rest = all_forward f g active listed 200 es (each_read is_function all es has.1 (omega arith) (omega (arith, few))) (free + 1) at.mid q at.others in
      omega (arith, value_later is_function all e has.0 (omega (arith, few)) free free p at.mid at.first, rest)

  module _ (n : ℕ) (some : 0 < n) (es : Expressions) (has : AllHaveCores es) (few : depth_of_expressions es ≤ 200) (ends : true ≡ ends_open es) (free : ℕ) (p q : Spot)
      (at : AllMultiAt g Op.Call (Some (n + 1)) (all_related g es) active free p q) where
    cut : LastAt g active Op.Call (Some (n + 1)) es free p q
    cut = last_one g active Op.Call (Some (n + 1)) es has ends free p q at

    reads : ReadsLast f g active listed cut.last n
    reads = reads_last is_function all n some cut.last cut.parts.has_last (omega (arith, few, cut.parts.shallow_last)) cut.several

    fronts : AllRead f g active listed 200 cut.front
    fronts = each_read is_function all cut.front cut.parts.has_front (omega arith) (omega (arith, few, cut.parts.shallow_front))

    abbrev above : ℕ
    above = free + length (all_related g cut.front)

    to_front : p.pc ≤ cut.mid.pc
    to_front = all_forward f g active listed 200 cut.front fronts free p cut.mid cut.parts.front_at

    pub several_later : p.pc < q.pc
    several_later = omega (arith, to_front, multi_later is_function all cut.last cut.parts.has_last (omega (arith, few, cut.parts.shallow_last)) cut.several above Op.Call (Some (n + 1)) cut.mid q cut.last_at)

    -- the first word begins a value for a free register
    pub several_begins : q.pc ≤ f.last → Begins f free p.pc
    several_begins within =
        let last = reads.begins above cut.mid q within cut.last_at in
        by_front (all_begin f g active listed 200 cut.front fronts free p cut.mid (omega (arith, reads.forward above cut.mid q cut.last_at, within)) cut.parts.front_at) last
      where
        by_front : ((p.pc ≡ cut.mid.pc) × (length (all_related g cut.front) ≡ 0)) ⊎ Begins f free p.pc → Begins f above cut.mid.pc → Begins f free p.pc
        by_front (inr begins) last = begins
        by_front (inl none) last = begins_same (omega (arith, none.1)) none.0 last

    front_comes : (s : Situation) → HasLocals active listed s → free ≡ next_free s → IsQuiet f s.scope p.pc q.pc →
        AllCome f (AreCores g active cut.front p.functions cut.mid.functions) 200 s (length (all_related g cut.front)) p.pc cut.mid.pc
    front_comes s locals is quiet =
        singles_come f g active listed 200 cut.front fronts free p cut.mid s locals is (quiet_before cut.mid.pc (reads.forward above cut.mid q cut.last_at) quiet)
        (quiet.stays cut.mid.pc to_front (multi_later is_function all cut.last cut.parts.has_last (omega (arith, few, cut.parts.shallow_last)) cut.several above Op.Call (Some (n + 1)) cut.mid q cut.last_at))
        (reads.begins above cut.mid q quiet.within cut.last_at) cut.parts.front_at

    pub several_come : (s : Situation) → HasLocals active listed s → free ≡ next_free s → IsQuiet f s.scope p.pc q.pc → SeveralCome f (AreCores g active es p.functions q.functions) s (length (all_related g es)) n p.pc q.pc
    several_come s locals is quiet =
        let front = front_comes s locals is quiet in
        let next : above ≡ next_free (behind_all front) = omega (arith, is, length-append s.entries front.entries, count_of_entries front.entries front.values front.singles, front.counts) in
        let there : HasLocals active listed (behind_all front) = locals_then front.same locals in
        let last = reads.comes above cut.mid q (behind_all front) there next (quiet_same front.same (quiet_from cut.mid.pc to_front quiet)) cut.last_at in
        subst (λ (count : ℕ). SeveralCome f (AreCores g active es p.functions q.functions) s count n p.pc q.pc) (sym cut.counts)
        (several_behind (cut.parts.cores p.functions cut.mid.functions q.functions) (reads.several cut.mid.functions q.functions) front last)
