-- The arguments of a call come to the next registers, and are read as a list of values; of the last one all values are read where it can give several.
use Rattle.std.proofs.Common.{◌≡◌, ℕ, suc, ◌*◌, ◌+◌, ◌<◌, ◌≤◌, ◌⊎◌, true, false, cond, Bool, List, [], ◌∷◌, ◌++◌, length, length-append, append-nil, append_assoc, Some, None, refl, sym, inl, inr, ap, ap₂, ◌∙◌, subst, arith}
use Rattle.std.proofs.Math.Nat.{max-le}
use Rattle.std.specs.Prelude.{option_map, option_and_then}
use Rattle.lua_num.specs.Bytes.{Text}
use Rattle.lua_tree.specs.Syntax as syntax
use Rattle.lua_tree.specs.Syntax.{Expressions, no_expressions, Fields, argument_list, text_argument, table_argument}
use Rattle.opcode.specs.declared.op.Op.{Op}
use Rattle.proto.specs.declared.parts.Constant.{Constant}
use Rattle.core_expr.specs.Counting.{taken_behind_values}
use Rattle.core_expr.specs.Making.{deepest, depth_of}
use Rattle.core_expr.specs.Values.{Value, Values, no_values}
use Rattle.core_expr.specs.Values as values
use Rattle.recover_expr.specs.Entries.{Entries, open_entry, singles_with, take_singles, take_list, listed_to, and_last_value}
use Rattle.recover_expr.specs.Lists.{value_count}
use Rattle.recover_expr.specs.Locals.{Scope}
use Rattle.recover_expr.specs.Situation.{Function, Situation}
use Rattle.scheme.specs.declared.making.Active.{Active}
use Rattle.scheme_stands.proofs.Forms.{form_is}
use Rattle.scheme_stands.specs.Expressions.{several}
use Rattle.scheme_stands.specs.Lists.{AllNextAt, AllMultiAt, OpenBy, TableAt, rels_open}
use Rattle.scheme_stands.specs.Relation.{all_related, given_rel, ItemsAt}
use Rattle.scheme_stands.specs.Words.{Fn, Spot, ConstantWord}
use Rattle.reads_back.specs.Cores.{IsOnly, IsConstant, AreCores, AreGiven, AreItems, ends_open, Counted, IsCore, still, first_and}
use Rattle.reads_back.proofs.Comes.{AreEntries, Begins, IsElementRead, IsWanted, Comes, Reads, ReadsTable, comes_next, GivenComes, ReadsGiven, behind_one}
use Rattle.reads_back.proofs.BehindWords.{HasLocals, SameLocals, same_locals, same_then, quiet_same, behind_words, locals_then}
use Rattle.reads_back.proofs.LiteralReads.{constant_reads}
use Rattle.reads_back.proofs.Reaches.{Reaches, here, reaches_then}
use Rattle.reads_back.proofs.TakenEntries.{open_taken, behind_taken, list_taken, more_entries}
use Rattle.reads_back.proofs.Tests.{not_so}
use Rattle.reads_back.proofs.ValueWords.{next_free}
use Rattle.reads_back.proofs.WordsBegin.{begins_wants, wanted_above}
use Rattle.reads_back.proofs.WordsRead.{IsFunction, IsQuiet, quiet_before, quiet_from}
use Rattle.reads_back.proofs.Deeper.{given_so}
use Rattle.reads_back.proofs.FurtherWords.{open_value_further, value_further}

-- ---- what is asked of the arguments

abbrev pub AllRead : Function → Fn → List Active → (listed : List ℕ) → (deep : ℕ) → Expressions → Type 0
AllRead f g active listed deep no_expressions = Unit {0}
AllRead f g active listed deep (syntax.expression e es) = IsElementRead f g active listed deep e × AllRead f g active listed deep es

-- the words leave the last one open where it can give several values
pub opens_by_last : (g : Fn) (es : Expressions) → rels_open (all_related g es) ≡ ends_open es
opens_by_last g no_expressions = refl
opens_by_last g (syntax.expression e no_expressions) = ap several (form_is g e)
opens_by_last g (syntax.expression e (syntax.expression d es)) = opens_by_last g (syntax.expression d es)

-- ---- an open value on top, and the values behind a place

singles_taken : (before entries : Entries) (vs : Values) (first : ℕ) → AreEntries entries vs → first ≡ length before → take_singles first (before ++ entries) ≡ Some (vs, before)
singles_taken before entries vs first are is =
    ap (option_and_then singles_with) (behind_taken before entries first is) ∙ ap (option_map (λ vs. (vs, before))) are

-- a field of 0 stands for an open one
open_list_taken : (before entries : Entries) (vs : Values) (v : Value) (first field : ℕ) → AreEntries entries vs → first ≡ length before → field ≡ 0 →
    take_list first field (before ++ (entries ++ open_entry v ∷ [])) ≡ Some (record { values = and_last_value vs v; all = true }, before)
open_list_taken before entries vs v first field are is counts =
    ap₂ (λ (n : ℕ) (entries : Entries). take_list first n entries) counts (sym (append_assoc before entries (open_entry v ∷ [])))
    ∙ ap (option_and_then (λ p. option_map (listed_to p.0) (take_singles first p.1))) (open_taken (before ++ entries) v)
    ∙ ap (option_map (listed_to v)) (singles_taken before entries vs first are is)

-- ---- one value, and others behind it

comes_then : {f : Function} {Is : Value → Type 0} {deep first mid last : ℕ} {s : Situation} (one : Comes f Is deep s first mid) (scope : Scope) (seen : ℕ) (more : Entries) →
    Reaches f mid (behind_one one) last (behind_words scope seen more (behind_one one)) → Reaches f first s last (behind_words scope seen (one.entry ∷ more) s)
comes_then {f} {mid = mid} {last = last} {s = s} one scope seen more rest =
    reaches_then one.reaches
    (subst (λ (entries : Entries). Reaches f mid (behind_one one) last (record s { scope = scope; entries = entries; seen = seen })) (append_assoc s.entries (one.entry ∷ []) more) rest)

pub next_behind : {f : Function} {Is : Value → Type 0} {deep first last : ℕ} {s : Situation} (free : ℕ) (one : Comes f Is deep s first last) → free ≡ next_free s → free + 1 ≡ next_free (behind_one one)
next_behind {s = s} free one is = omega (arith, length-append s.entries (one.entry ∷ []))

pub some_behind : {f : Function} {Is : Value → Type 0} {deep first last : ℕ} {s : Situation} (one : Comes f Is deep s first last) → 0 < length (behind_one one).entries
some_behind {s = s} one = omega (arith, length-append s.entries (one.entry ∷ []))

-- ---- values in the next registers

pub record AllCome (f : Function) (Are : Values → Type 0) (deep : ℕ) (s : Situation) (count first last : ℕ) : Type 0 where
  pub values : Values
  pub are : Are values
  pub counts : value_count values ≡ count
  pub shallow : deepest values ≤ 2 * deep
  pub scope : Scope
  pub same : SameLocals s.scope scope
  pub seen : ℕ
  pub taken : taken_behind_values values s.seen ≡ seen
  pub entries : Entries
  pub singles : AreEntries entries values
  pub reaches : Reaches f first s last (behind_words scope seen entries s)

pub none_come : (f : Function) (g : Fn) (active : List Active) (deep : ℕ) (s : Situation) (p q : Spot) → q.pc ≡ p.pc → q.functions ≡ p.functions → AllCome f (AreCores g active no_expressions p.functions q.functions) deep s 0 p.pc q.pc
none_come f g active deep s p q same as_many = record {
  values = no_values;
  are = (as_many, refl);
  counts = refl;
  shallow = omega arith;
  scope = s.scope;
  same = same_locals s.scope;
  seen = s.seen;
  taken = refl;
  entries = [];
  singles = refl;
  reaches =
      subst (λ (pc : ℕ). Reaches f p.pc s pc (behind_words s.scope s.seen [] s)) (sym same)
      (subst (λ (entries : Entries). Reaches f p.pc s p.pc (record s { entries = entries })) (sym (append-nil s.entries)) here);
}

pub more_come : {f : Function} (Is : Counted Value) (Are : Counted Values) {before between behind deep count first mid last : ℕ} {s : Situation} (one : Comes f (Is before between) deep s first mid) →
    AllCome f (Are between behind) deep (behind_one one) count mid last → AllCome f (first_and Is Are before behind) deep s (suc count) first last
more_come Is Are {between = between} one rest = record {
  values = values.and_value one.value rest.values;
  are = (between, (one.value, rest.values, one.is, rest.are, refl));
  counts = ap suc rest.counts;
  shallow = max-le one.shallow rest.shallow;
  scope = rest.scope;
  same = same_then one.same rest.same;
  seen = rest.seen;
  taken = ap (taken_behind_values rest.values) one.taken ∙ rest.taken;
  entries = one.entry ∷ rest.entries;
  singles = more_entries one.entry rest.entries one.value rest.values one.single rest.singles;
  reaches = comes_then one rest.scope rest.seen rest.entries rest.reaches;
}

-- ---- values in the next registers, and all values of one behind them

record OpenCome (f : Function) (Are : Values → Type 0) (deep : ℕ) (s : Situation) (first last : ℕ) : Type 0 where
  pub values : Values
  pub value : Value
  pub are : Are (and_last_value values value)
  pub shallow : deepest (and_last_value values value) ≤ 2 * deep
  pub scope : Scope
  pub same : SameLocals s.scope scope
  pub seen : ℕ
  pub taken : taken_behind_values (and_last_value values value) s.seen ≡ seen
  pub entries : Entries
  pub singles : AreEntries entries values
  pub reaches : Reaches f first s last (behind_words scope seen (entries ++ open_entry value ∷ []) s)

more_open : {f : Function} (Is : Counted Value) (Are : Counted Values) {before between behind deep first mid last : ℕ} {s : Situation} (one : Comes f (Is before between) deep s first mid) → OpenCome f (Are between behind) deep (behind_one one) mid last →
    OpenCome f (first_and Is Are before behind) deep s first last
more_open Is Are {between = between} one rest = record {
  values = values.and_value one.value rest.values;
  value = rest.value;
  are = (between, (one.value, and_last_value rest.values rest.value, one.is, rest.are, refl));
  shallow = max-le one.shallow rest.shallow;
  scope = rest.scope;
  same = same_then one.same rest.same;
  seen = rest.seen;
  taken = ap (taken_behind_values (and_last_value rest.values rest.value)) one.taken ∙ rest.taken;
  entries = one.entry ∷ rest.entries;
  singles = more_entries one.entry rest.entries one.value rest.values one.single rest.singles;
  reaches = comes_then one rest.scope rest.seen (rest.entries ++ open_entry rest.value ∷ []) rest.reaches;
}

module _ (f : Function) (g : Fn) (active : List Active) (listed : List ℕ) (deep : ℕ) where
  pub all_forward : (es : Expressions) → AllRead f g active listed deep es → (free : ℕ) (p q : Spot) → AllNextAt g (all_related g es) active free p q → p.pc ≤ q.pc
  all_forward no_expressions reads free p q at = omega (arith, at.pc)
  all_forward (syntax.expression e es) reads free p q at = omega (arith, reads.0.one.forward free free p at.mid at.first, all_forward es reads.1 (free + 1) at.mid q at.others)

  pub all_begin : (es : Expressions) → AllRead f g active listed deep es → (free : ℕ) (p q : Spot) → q.pc ≤ f.last → AllNextAt g (all_related g es) active free p q → ((p.pc ≡ q.pc) × (length (all_related g es) ≡ 0)) ⊎ Begins f free p.pc
  all_begin no_expressions reads free p q within at = inl (sym at.pc, refl)
  all_begin (syntax.expression e es) reads free p q within at = inr (reads.0.one.begins free p at.mid (omega (arith, within, all_forward es reads.1 (free + 1) at.mid q at.others)) at.first)

  -- above the lowest register its words are one or more
  all_further : (es : Expressions) → AllRead f g active listed deep es → (free : ℕ) (p q : Spot) (s : Situation) → HasLocals active listed s → s.base < free → q.pc ≤ f.last → AllNextAt g (all_related g es) active free p q →
      ((p.pc ≡ q.pc) × (length (all_related g es) ≡ 0)) ⊎ (Begins f free p.pc × (p.pc < q.pc))
  all_further no_expressions reads free p q s locals above within at = inl (sym at.pc, refl)
  all_further (syntax.expression e es) reads free p q s locals above within at =
      let back = all_forward es reads.1 (free + 1) at.mid q at.others in
      let on = value_further reads.0.one free p at.mid s locals above (omega (arith, back, within)) at.first in
      inr (reads.0.one.begins free p at.mid (omega (arith, back, within)) at.first, omega (arith, on, back))

  -- the first one is wanted by the first word of the next one, or behind them where it is the only one
  pub all_come : (es : Expressions) → AllRead f g active listed deep es → (free : ℕ) (p q : Spot) (s : Situation) → HasLocals active listed s → free ≡ next_free s → IsQuiet f s.scope p.pc q.pc →
      (length (all_related g es) ≡ 1 → IsWanted f s q.pc) → AllNextAt g (all_related g es) active free p q → AllCome f (AreCores g active es p.functions q.functions) deep s (length (all_related g es)) p.pc q.pc
  all_come no_expressions reads free p q s locals is quiet wanted at = none_come f g active deep s p q at.pc at.functions
  all_come (syntax.expression e es) reads free p q s locals is quiet wanted at =
      let on = reads.0.one.forward free free p at.mid at.first in
      let back = all_forward es reads.1 (free + 1) at.mid q at.others in
      let wanted_there = wanted_by (all_further es reads.1 (free + 1) at.mid q s locals (omega (arith, is)) quiet.within at.others) in
      let one = comes_next reads.0.one free p at.mid s locals is (quiet_before at.mid.pc back quiet) wanted_there at.first in
      more_come (IsCore g active e) (AreCores g active es) one (all_come es reads.1 (free + 1) at.mid q (behind_one one) (locals_then one.same locals) (next_behind free one is) (quiet_same one.same (quiet_from at.mid.pc on quiet)) (λ only. inl (some_behind one)) at.others)
    where
      wanted_by : ((at.mid.pc ≡ q.pc) × (length (all_related g es) ≡ 0)) ⊎ (Begins f (free + 1) at.mid.pc × (at.mid.pc < q.pc)) → IsWanted f s at.mid.pc
      wanted_by (inl (same, none)) = subst (IsWanted f s) (sym same) (wanted (ap suc none))
      wanted_by (inr (begins, later)) = begins_wants s (quiet.stays at.mid.pc (reads.0.one.forward free free p at.mid at.first) later) begins (λ none. omega (arith, is, none))

  open_forward : (es : Expressions) → true ≡ ends_open es → AllRead f g active listed deep es → (free : ℕ) (p q : Spot) → AllMultiAt g Op.Call None (all_related g es) active free p q → p.pc ≤ q.pc
  open_forward no_expressions ends reads free p q at = not_so (sym ends)
  open_forward (syntax.expression e no_expressions) ends reads free p q at = (reads.0.all (sym ends)).forward free Op.Call None p q at
  open_forward (syntax.expression e (syntax.expression d es)) ends reads free p q at =
      omega (arith, reads.0.one.forward free free p at.mid at.first, open_forward (syntax.expression d es) ends reads.1 (free + 1) at.mid q at.others)

  open_begins : (es : Expressions) → true ≡ ends_open es → AllRead f g active listed deep es → (free : ℕ) (p q : Spot) → q.pc ≤ f.last → AllMultiAt g Op.Call None (all_related g es) active free p q → Begins f free p.pc
  open_begins no_expressions ends reads free p q within at = not_so (sym ends)
  open_begins (syntax.expression e no_expressions) ends reads free p q within at = (reads.0.all (sym ends)).begins free p q within at
  open_begins (syntax.expression e (syntax.expression d es)) ends reads free p q within at =
      reads.0.one.begins free p at.mid (omega (arith, within, open_forward (syntax.expression d es) ends reads.1 (free + 1) at.mid q at.others)) at.first

  open_further : (es : Expressions) → true ≡ ends_open es → AllRead f g active listed deep es → (free : ℕ) (p q : Spot) (s : Situation) → HasLocals active listed s → s.base < free → q.pc ≤ f.last →
      AllMultiAt g Op.Call None (all_related g es) active free p q → p.pc < q.pc
  open_further no_expressions ends reads free p q s locals above within at = not_so (sym ends)
  open_further (syntax.expression e no_expressions) ends reads free p q s locals above within at = open_value_further (reads.0.all (sym ends)) free p q s locals above within at
  open_further (syntax.expression e (syntax.expression d es)) ends reads free p q s locals above within at =
      let back = open_forward (syntax.expression d es) ends reads.1 (free + 1) at.mid q at.others in
      omega (arith, value_further reads.0.one free p at.mid s locals above (omega (arith, back, within)) at.first, back)

  -- the values of the last one stay, and each one before it is wanted by the first word of the next one
  open_comes : (es : Expressions) → true ≡ ends_open es → AllRead f g active listed deep es → (free : ℕ) (p q : Spot) (s : Situation) → HasLocals active listed s → free ≡ next_free s → IsQuiet f s.scope p.pc q.pc →
      AllMultiAt g Op.Call None (all_related g es) active free p q → OpenCome f (AreCores g active es p.functions q.functions) deep s p.pc q.pc
  open_comes no_expressions ends reads free p q s locals is quiet at = not_so (sym ends)
  open_comes (syntax.expression e no_expressions) ends reads free p q s locals is quiet at =
      let last = (reads.0.all (sym ends)).comes free p q s locals is quiet at in
      record {
        values = no_values;
        value = last.value;
        are = (q.functions, (last.value, no_values, last.is, (refl, refl), refl));
        shallow = omega (arith, last.shallow);
        scope = last.scope;
        same = last.same;
        seen = last.seen;
        taken = last.taken;
        entries = [];
        singles = refl;
        reaches = last.reaches;
      }
  open_comes (syntax.expression e (syntax.expression d es)) ends reads free p q s locals is quiet at =
      let on = reads.0.one.forward free free p at.mid at.first in
      let back = open_forward (syntax.expression d es) ends reads.1 (free + 1) at.mid q at.others in
      let later = open_further (syntax.expression d es) ends reads.1 (free + 1) at.mid q s locals (omega (arith, is)) quiet.within at.others in
      let wanted = begins_wants s (quiet.stays at.mid.pc on later) (open_begins (syntax.expression d es) ends reads.1 (free + 1) at.mid q quiet.within at.others) (λ none. omega (arith, is, none)) in
      let one = comes_next reads.0.one free p at.mid s locals is (quiet_before at.mid.pc back quiet) wanted at.first in
      more_open (IsCore g active e) (AreCores g active (syntax.expression d es)) one (open_comes (syntax.expression d es) ends reads.1 (free + 1) at.mid q (behind_one one) (locals_then one.same locals) (next_behind free one is) (quiet_same one.same (quiet_from at.mid.pc on quiet)) at.others)

  pub list_forward : (es : Expressions) (all : Bool) → all ≡ ends_open es → AllRead f g active listed deep es → (free : ℕ) (p q : Spot) → OpenBy all g (all_related g es) active free p q → p.pc ≤ q.pc
  list_forward es true ends reads free p q at = open_forward es ends reads free p q at
  list_forward es false ends reads free p q at = all_forward es reads free p q at

  list_begins : (es : Expressions) (all : Bool) → all ≡ ends_open es → AllRead f g active listed deep es → (free : ℕ) (p q : Spot) → q.pc ≤ f.last → OpenBy all g (all_related g es) active free p q → (p.pc ≡ q.pc) ⊎ Begins f free p.pc
  list_begins es true ends reads free p q within at = inr (open_begins es ends reads free p q within at)
  list_begins es false ends reads free p q within at = no_words_or (all_begin es reads free p q within at)
    where
      no_words_or : ((p.pc ≡ q.pc) × (length (all_related g es) ≡ 0)) ⊎ Begins f free p.pc → (p.pc ≡ q.pc) ⊎ Begins f free p.pc
      no_words_or (inl none) = inl none.0
      no_words_or (inr begins) = inr begins

  pub list_comes : (es : Expressions) (all : Bool) → all ≡ ends_open es → AllRead f g active listed deep es → (free : ℕ) (p q : Spot) (s : Situation) → HasLocals active listed s → free ≡ next_free s → IsQuiet f s.scope p.pc q.pc →
      IsWanted f s q.pc → OpenBy all g (all_related g es) active free p q → GivenComes f (AreGiven g active (argument_list es) p.functions q.functions) deep s (cond all None (Some (length (all_related g es)))) p.pc q.pc
  list_comes es true ends reads free p q s locals is quiet wanted at =
      let come = open_comes es ends reads free p q s locals is quiet at in
      record {
        values = and_last_value come.values come.value;
        all = true;
        are = (come.are, ends);
        shallow = omega (arith, come.shallow);
        scope = come.scope;
        same = come.same;
        seen = come.seen;
        taken = come.taken;
        more = come.entries ++ open_entry come.value ∷ [];
        reaches = come.reaches;
        listed = λ before place field there counts. open_list_taken before come.entries come.values come.value place field come.singles there counts;
      }
  list_comes es false ends reads free p q s locals is quiet wanted at =
      let come = all_come es reads free p q s locals is quiet (λ only. wanted) at in
      record {
        values = come.values;
        all = false;
        are = (come.are, ends);
        shallow = omega (arith, come.shallow);
        scope = come.scope;
        same = come.same;
        seen = come.seen;
        taken = come.taken;
        more = come.entries;
        reaches = come.reaches;
        listed = λ before place field there counts. list_taken before come.entries come.values place field come.singles there (omega (arith, come.counts, counts));
      }

-- ---- arguments in parentheses

pub list_given : {f : Function} {g : Fn} {active : List Active} {listed : List ℕ} {deep : ℕ} → IsFunction f g → (es : Expressions) → AllRead f g active listed deep es →
    ReadsGiven f g active listed (AreGiven g active (argument_list es)) deep (given_rel g (argument_list es))
list_given {f} {g} {active} {listed} {deep} is_function es reads = record {
  forward = λ free p q at. list_forward f g active listed deep es (rels_open (all_related g es)) (opens_by_last g es) reads free p q at;
  begins = λ free p q within at. list_begins f g active listed deep es (rels_open (all_related g es)) (opens_by_last g es) reads free p q within at;
  comes = λ free p q s locals is quiet some at. list_comes f g active listed deep es (rels_open (all_related g es)) (opens_by_last g es) reads free p q s locals is quiet (wanted_above f s q.pc some) at;
}

-- ---- a string or a constructor alone

only_given : {f : Function} {Is : Value → Type 0} {deep more first last : ℕ} {s : Situation} (one : Comes f Is more s first last) → depth_of one.value ≤ suc (2 * deep) → GivenComes f (λ values all. IsOnly Is values × (all ≡ false)) deep s (Some 1) first last
only_given one low = record {
  values = values.and_value one.value no_values;
  all = false;
  are = ((one.value, one.is, refl), refl);
  shallow = omega (arith, low);
  scope = one.scope;
  same = one.same;
  seen = one.seen;
  taken = one.taken;
  more = one.entry ∷ [];
  reaches = one.reaches;
  listed = λ before place field there counts. list_taken before (one.entry ∷ []) (values.and_value one.value no_values) place field (more_entries one.entry [] one.value no_values one.single refl) there (omega (arith, counts));
}

pub text_given : {f : Function} {g : Fn} {active : List Active} {listed : List ℕ} → IsFunction f g → (text : Text) → ReadsGiven f g active listed (AreGiven g active (text_argument text)) 1 (given_rel g (text_argument text))
text_given {f} {g} {active} {listed} is_function text =
    let reads : Reads f g active listed (still (IsConstant g (Constant.Text text))) 1 (λ free r. ConstantWord g Op.LoadK r (Constant.Text text)) = constant_reads is_function (Constant.Text text) in
    record {
      forward = λ free p q at. reads.forward free free p q at.value_at;
      begins = λ free p q within at. inr (reads.begins free p q within at.value_at);
      comes = λ free p q s locals is quiet some at. let one = comes_next reads free p q s locals is quiet (wanted_above f s q.pc some) at.value_at in given_so {deep = 1} {more = 1} (omega arith) (λ values all are. (are.0.1.0, ((are.0.0, are.0.1.1, are.0.2), are.1))) (only_given one (omega (arith, one.shallow)));
    }

pub table_given : {f : Function} {g : Fn} {active : List Active} {listed : List ℕ} {deep : ℕ} (fields : Fields) → ReadsTable f g active listed (AreItems g active fields) (suc deep) (λ free. TableAt g (λ t. ItemsAt g fields active t 0 0) free) →
    ReadsGiven f g active listed (AreGiven g active (table_argument fields)) deep (given_rel g (table_argument fields))
table_given {f} items reads = record {
  forward = reads.forward;
  begins = λ free p q within at. inr (reads.begins free p q within at);
  comes = λ free p q s locals is quiet some at. let table = reads.comes free p q s locals is quiet (wanted_above f s q.pc some) at in only_given table.0 (omega (arith, table.1));
}
