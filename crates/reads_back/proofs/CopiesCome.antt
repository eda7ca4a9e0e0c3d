-- A local that is a part of a target and itself a target further right is copied to the next register, which that target uses: what the targets say stays the same.
use Rattle.std.proofs.Common.{◌≡◌, ℕ, zero, suc, ◌+◌, ◌<◌, ◌≤◌, ◌⊎◌, max, Bool, true, false, cond, ◌||◌, ◌&&◌, List, [], ◌∷◌, ◌++◌, length, length-append, Some, refl, sym, ap, ap₂, ◌∙◌, subst, arith, inl, inr, ⊎_elim}
use Rattle.std.proofs.lemmas.Bool.Decides.{nat_tests}
use Rattle.std.proofs.lemmas.Option.{slice_get_within}
use Rattle.std.proofs.Math.Logic.{⊎_map}
use Rattle.std.specs.Prelude.{◌==◌}
use Rattle.lua_num.specs.Bytes.{Text}
use Rattle.opcode.specs.declared.op.Op.{Op}
use Rattle.core_expr.specs.Places.{local_name, place}
use Rattle.core_expr.specs.Targets.{TargetValue, index_target}
use Rattle.core_expr.specs.Values.{Value, local_value, OperandValue, value_operand}
use Rattle.recover_expr.specs.Entries.{Entries, value_entry}
use Rattle.recover_expr.specs.Reading as reading
use Rattle.recover_expr.specs.Situation.{Function, Situation}
use Rattle.scheme.specs.Expressions.{Target, name_target, part_target}
use Rattle.scheme.specs.Making.{in_globals, in_register, in_upvalue}
use Rattle.scheme.specs.Statements.{clashes, is_among, is_part_of, is_target, renamed, with_copy}
use Rattle.scheme.specs.declared.making.Active.{Active}
use Rattle.scheme.specs.declared.making.Piece.{Piece}
use Rattle.scheme_stands.specs.Statements.{CopiesAt, CopyAt, CopyBy, NoTargetsAt}
use Rattle.scheme_stands.specs.Words.{Fn, Spot, WordAt}
use Rattle.reads_back.specs.Acted.{all_named_behind, taken_behind_targets}
use Rattle.reads_back.proofs.BehindWords.{HasLocals, quiet_same, locals_then}
use Rattle.reads_back.proofs.BothOperands.{counted}
use Rattle.reads_back.proofs.HeldOperands.{Kept, in_word, in_local, in_next, counts_none, operand_of}
use Rattle.reads_back.proofs.NameReads.{local_makes}
use Rattle.reads_back.proofs.PartsCome.{ArePlaced, IsLower, IsPlaced, KeptIn, Leads, PartsCome, UsesAny, UsesKept, UsesTarget, grows_by, kept_grows, leads_nowhere, leads_then, target_grows}
use Rattle.reads_back.proofs.PartsRead.{value_of}
use Rattle.reads_back.proofs.Reaches.{Reaches, here, reaches_on, reaches_then, word}
use Rattle.reads_back.proofs.StoredTargets.{Destination, seen_with, seen_with_all, target_to, targets_to, to_global, to_local, to_part, to_upvalue}
use Rattle.reads_back.proofs.StoresRead.{IsValueKept}
use Rattle.reads_back.proofs.TakenEntries.{at_place}
use Rattle.reads_back.proofs.Tests.{and_not, first_of_both, not_so, second_of_both}
use Rattle.reads_back.proofs.ValueWords.{and_value, makes_turn, next_free}
use Rattle.reads_back.proofs.WordsBegin.{word_begins}
use Rattle.reads_back.proofs.WordsRead.{IsFunction, IsQuiet, abc_is_read, quiet_before, quiet_from, turn_there, word_of, word_there}

-- ---- tests

or_either : (a b : Bool) → (a || b) ≡ true → (a ≡ true) ⊎ (b ≡ true)
or_either true b is = inl refl
or_either false b is = inr is

before_or_last : (n last : ℕ) → n ≤ last → (n < last) ⊎ (n ≡ last)
before_or_last zero zero up = inr refl
before_or_last zero (suc last) up = inl (omega arith)
before_or_last (suc n) zero up = absurd (omega (arith, up))
before_or_last (suc n) (suc last) up = ⊎_map (λ before. omega (arith, before)) (λ is. ap suc is) (before_or_last n last (omega (arith, up)))

field_is : (is_local : Bool) (field x : ℕ) → (is_local && (field == x)) ≡ true → field ≡ x
field_is is_local field x is = let same = second_of_both is_local (field == x) is in grind (arith, nat_tests)

-- ---- what is renamed

-- the entry of a copy
abbrev with_local : (x : ℕ) → Entries → Entries
with_local x entries = entries ++ value_entry (local_value x) ∷ []

record KeptCopied (f : Function) (count : ℕ) (listed : List ℕ) (entries more : Entries) (low : ℕ) (kept : Kept) (field high : ℕ) (moved : Bool) (copy : ℕ) : Type 0 where
  to : Kept
  there : KeptIn f count listed more low to (cond moved copy field) high
  value_same : value_of to ≡ value_of kept
  operand_same : operand_of to ≡ operand_of kept
  is_value : IsValueKept kept → IsValueKept to
  lower_on : (key : Kept) (y : ℕ) → IsLower kept field key y → IsLower to (cond moved copy field) key y
  lower_key : (on : Kept) (x from up : ℕ) → KeptIn f count listed entries from on x up → IsLower on x kept field → IsLower on x to (cond moved copy field)
  uses : (n : ℕ) → UsesKept count kept field n → UsesKept count to (cond moved copy field) n
  new : moved ≡ true → UsesKept count to (cond moved copy field) (length entries)
  keys : counted (cond moved copy field) ≡ counted field

-- the same target, which may use the register of the copy
record TargetCopied (f : Function) (g : Fn) (count : ℕ) (listed : List ℕ) (entries more : Entries) (low : ℕ) (to : Target) (d : Destination) (high : ℕ) (is_new : Bool) : Type 0 where
  copied : Destination
  placed : IsPlaced f g count listed more low to copied high
  same : target_to copied ≡ target_to d
  uses : (n : ℕ) → UsesTarget count d n → UsesTarget count copied n
  new : is_new ≡ true → UsesTarget count copied (length entries)
  seen : (n : ℕ) → seen_with copied n ≡ seen_with d n

record TargetsCopied (f : Function) (g : Fn) (count : ℕ) (listed : List ℕ) (entries more : Entries) (low : ℕ) (places : List Target) (ds : List Destination) (is_new : Bool) : Type 0 where
  copied : List Destination
  placed : ArePlaced f g count listed more low places copied
  same : targets_to copied ≡ targets_to ds
  uses : (n : ℕ) → UsesAny count ds n → UsesAny count copied n
  new : is_new ≡ true → UsesAny count copied (length entries)
  seen : (n : ℕ) → seen_with_all copied n ≡ seen_with_all ds n

module _ (f : Function) (g : Fn) (count : ℕ) (listed : List ℕ) (entries : Entries) (x copy : ℕ) (below : x < count) (few : count ≤ 250) (room : copy < 250) (next : copy ≡ count + length entries) where
  -- a copy is no constructor, and stands above all that is there
  copy_no_table : (key : Kept) (y : ℕ) → IsLower (in_next (value_entry (local_value x)) (local_value x)) copy key y
  copy_no_table (in_next entry v) y = λ maker. not_so maker
  copy_no_table (in_word number) y = tt
  copy_no_table (in_local r) y = tt

  copy_above : (on : Kept) (y low high : ℕ) → KeptIn f count listed entries low on y high → IsLower on y (in_next (value_entry (local_value x)) (local_value x)) copy
  copy_above (in_next entry v) y low high at = λ maker. let within : at.0 < length entries = slice_get_within entries at.0 entry at.3 in omega (arith, at.1, next, within)
  copy_above (in_word number) y low high at = tt
  copy_above (in_local r) y low high at = tt

  kept_copied : (moved : Bool) (kept : Kept) (low field high : ℕ) → (moved ≡ true → field ≡ x) → KeptIn f count listed entries low kept field high → KeptCopied f count listed entries (with_local x entries) low kept field high moved copy
  kept_copied false kept low field high is at = record {
    to = kept;
    there = kept_grows f count listed entries (with_local x entries) (grows_by entries (value_entry (local_value x) ∷ [])) kept low field high at;
    value_same = refl;
    operand_same = refl;
    is_value = λ value. value;
    lower_on = λ key y lower. lower;
    lower_key = λ on x from up at lower. lower;
    uses = λ n uses. uses;
    new = λ moved. not_so moved;
    keys = refl;
  }
  kept_copied true (in_local r) low field high is at =
      let same : x ≡ r = sym (is refl) ∙ at.0 in
      record {
        to = in_next (value_entry (local_value x)) (local_value x);
        there = (length entries, next, room, at_place entries (value_entry (local_value x)) [], refl, inr (refl, at.3));
        value_same = ap local_value same;
        operand_same = ap (λ r. value_operand (local_value r)) same;
        is_value = λ value. tt;
        lower_on = λ key y lower. copy_no_table key y;
        lower_key = λ on x from up at lower. copy_above on x from up at;
        uses = λ n uses. absurd uses;
        new = λ moved. next;
        keys = counts_none copy (omega (arith, room)) ∙ sym (counts_none field (omega (arith, at.0, at.1, at.2)));
      }
  kept_copied true (in_word number) low field high is at = let same : field ≡ x = is refl in absurd (omega (arith, same, at.0, below, few))
  kept_copied true (in_next entry v) low field high is at = let same : field ≡ x = is refl in absurd (omega (arith, same, at.1, below))

  -- a target that uses no copy
  target_kept : (to : Target) (d : Destination) (low high : ℕ) → IsPlaced f g count listed entries low to d high → TargetCopied f g count listed entries (with_local x entries) low to d high false
  target_kept to d low high at = record {
    copied = d;
    placed = target_grows f count listed entries (with_local x entries) (grows_by entries (value_entry (local_value x) ∷ [])) g low high to d at;
    same = refl;
    uses = λ n uses. uses;
    new = λ is. not_so is;
    seen = λ n. refl;
  }

  target_renamed : (to : Target) (d : Destination) (low high : ℕ) → IsPlaced f g count listed entries low to d high → TargetCopied f g count listed entries (with_local x entries) low (renamed x copy to) d high (is_part_of x to)
  target_renamed (part_target t k on_local key_local) (to_part on key y z) low high at =
      let on_moved = on_local && (t == x) in
      let key_moved = key_local && (k == x) in
      let one = kept_copied on_moved on low y at.mid (λ is. at.at_on ∙ field_is on_local t x is) at.on_in in
      let two = kept_copied key_moved key at.mid z high (λ is. at.at_key ∙ field_is key_local k x is) at.key_in in
      record {
        copied = to_part one.to two.to (cond on_moved copy y) (cond key_moved copy z);
        placed = record {
          at_on = ap (cond on_moved copy) at.at_on;
          at_key = ap (cond key_moved copy) at.at_key;
          value = one.is_value at.value;
          lower = one.lower_on two.to (cond key_moved copy z) (two.lower_key on y low at.mid at.on_in at.lower);
          mid = at.mid;
          on_in = one.there;
          key_in = two.there;
        };
        same = ap₂ (λ (v : Value) (o : OperandValue). index_target v o) one.value_same two.operand_same;
        uses = λ n uses. ⊎_map (one.uses n) (two.uses n) uses;
        new = λ is. ⊎_map one.new two.new (or_either on_moved key_moved is);
        seen = λ n. ap (max n) two.keys;
      }
  target_renamed (name_target text (in_register y)) (to_local r) low high at = target_kept (name_target text (in_register y)) (to_local r) low high at
  target_renamed (name_target text (in_upvalue slot)) (to_upvalue u) low high at = target_kept (name_target text (in_upvalue slot)) (to_upvalue u) low high at
  target_renamed (name_target text in_globals) (to_global number) low high at = target_kept (name_target text in_globals) (to_global number) low high at
  target_renamed to d low high at = absurd at

  target_copied : (moved : Bool) (to : Target) (d : Destination) (low high : ℕ) → IsPlaced f g count listed entries low to d high → TargetCopied f g count listed entries (with_local x entries) low (cond moved (renamed x copy to) to) d high (is_part_of x to && moved)
  target_copied true to d low high at =
      let one = target_renamed to d low high at in
      record { copied = one.copied; placed = one.placed; same = one.same; uses = one.uses; new = λ is. one.new (first_of_both (is_part_of x to) true is); seen = one.seen }
  target_copied false to d low high at =
      let one = target_kept to d low high at in
      record { copied = one.copied; placed = one.placed; same = one.same; uses = one.uses; new = λ is. not_so (sym (and_not (is_part_of x to)) ∙ is); seen = one.seen }

  -- all of them; one uses the copy where the local clashes
  targets_copied : (low : ℕ) (places : List Target) (ds : List Destination) → ArePlaced f g count listed entries low places ds → TargetsCopied f g count listed entries (with_local x entries) low (with_copy x copy places) ds (clashes x places)
  targets_copied low [] [] at = record { copied = []; placed = tt; same = refl; uses = λ n uses. uses; new = λ is. not_so is; seen = λ n. refl }
  targets_copied low (to ∷ places) (d ∷ ds) at =
      let moved = is_among x places in
      let one = target_copied moved to d low at.0 at.1 in
      let rest = targets_copied at.0 places ds at.2 in
      record {
        copied = one.copied ∷ rest.copied;
        placed = (at.0, one.placed, rest.placed);
        same = ap₂ (λ (t : TargetValue) (ts : List TargetValue). t ∷ ts) one.same rest.same;
        uses = λ n uses. ⊎_map (one.uses n) (rest.uses n) uses;
        new = λ is. ⊎_map one.new rest.new (or_either (is_part_of x to && moved) (clashes x places) is);
        seen = λ n. one.seen (seen_with_all rest.copied n) ∙ ap (seen_with d) (rest.seen n);
      }
  targets_copied low [] (d ∷ ds) at = absurd at
  targets_copied low (to ∷ places) [] at = absurd at

-- ---- the local that is copied is listed

record IsListedLocal (f : Function) (listed : List ℕ) (x : ℕ) : Type 0 where
  text : Text
  named : local_name (place f.of listed f.short) x ≡ Some text

module _ (f : Function) (g : Fn) (count : ℕ) (listed : List ℕ) (entries : Entries) (x : ℕ) where
  target_listed : (low high : ℕ) (to : Target) (d : Destination) → IsPlaced f g count listed entries low to d high → is_target x to ≡ true → IsListedLocal f listed x
  target_listed low high (name_target text (in_register y)) (to_local r) at is =
      let same : x ≡ y = grind (arith, nat_tests) in
      record { text = text; named = subst (λ (r : ℕ). local_name (place f.of listed f.short) r ≡ Some text) (at.0 ∙ sym same) at.2 }
  target_listed low high (name_target text (in_upvalue slot)) d at is = not_so is
  target_listed low high (name_target text in_globals) d at is = not_so is
  target_listed low high (part_target t k on_local key_local) d at is = not_so is
  target_listed low high to d at is = absurd at

  among_listed : (low : ℕ) (places : List Target) (ds : List Destination) → ArePlaced f g count listed entries low places ds → is_among x places ≡ true → IsListedLocal f listed x
  among_listed low [] ds at is = not_so is
  among_listed low (to ∷ places) (d ∷ ds) at is = ⊎_elim (target_listed low at.0 to d at.1) (among_listed at.0 places ds at.2) (or_either (is_target x to) (is_among x places) is)
  among_listed low (to ∷ places) [] at is = absurd at

  clash_listed : (low : ℕ) (places : List Target) (ds : List Destination) → ArePlaced f g count listed entries low places ds → clashes x places ≡ true → IsListedLocal f listed x
  clash_listed low [] ds at is = not_so is
  clash_listed low (to ∷ places) (d ∷ ds) at is =
      ⊎_elim (λ is. among_listed at.0 places ds at.2 (second_of_both (is_part_of x to) (is_among x places) is)) (clash_listed at.0 places ds at.2) (or_either (is_part_of x to && is_among x places) (clashes x places) is)
  clash_listed low (to ∷ places) [] at is = absurd at

-- ---- other locals clash as before

target_same : (x y copy : ℕ) (moved : Bool) (to : Target) → is_target y (cond moved (renamed x copy to) to) ≡ is_target y to
target_same x y copy false to = refl
target_same x y copy true (name_target text (in_register r)) = refl
target_same x y copy true (name_target text (in_upvalue slot)) = refl
target_same x y copy true (name_target text in_globals) = refl
target_same x y copy true (part_target t k on_local key_local) = refl

among_same : (x y copy : ℕ) (places : List Target) → is_among y (with_copy x copy places) ≡ is_among y places
among_same x y copy [] = refl
among_same x y copy (to ∷ places) = ap₂ (λ (a b : Bool). a || b) (target_same x y copy (is_among x places) to) (among_same x y copy places)

field_same : (x y copy field : ℕ) (is_local : Bool) → x < y → y < copy → (is_local && (cond (is_local && (field == x)) copy field == y)) ≡ (is_local && (field == y))
field_same x y copy field false above below = refl
field_same x y copy field true above below = by (field == x) refl
  where
    by : (is : Bool) → (field == x) ≡ is → (cond is copy field == y) ≡ (field == y)
    by true is = grind (arith, nat_tests)
    by false is = refl

part_same : (x y copy : ℕ) (moved : Bool) (to : Target) → x < y → y < copy → is_part_of y (cond moved (renamed x copy to) to) ≡ is_part_of y to
part_same x y copy false to above below = refl
part_same x y copy true (name_target text w) above below = refl
part_same x y copy true (part_target t k on_local key_local) above below = ap₂ (λ (a b : Bool). a || b) (field_same x y copy t on_local above below) (field_same x y copy k key_local above below)

clashes_same : (x y copy : ℕ) (places : List Target) → x < y → y < copy → clashes y (with_copy x copy places) ≡ clashes y places
clashes_same x y copy [] above below = refl
clashes_same x y copy (to ∷ places) above below =
    ap₂ (λ (a b : Bool). a || b)
    (ap₂ (λ (a b : Bool). a && b) (part_same x y copy (is_among x places) to above below) (among_same x y copy places))
    (clashes_same x y copy places above below)

-- ---- the words of copies

module _ {f : Function} {g : Fn} (is_function : IsFunction f g) where
  copy_leads : (clash : Bool) (x : ℕ) (to places : List Target) (free free1 : ℕ) (p q : Spot) → CopyBy clash g x to places free free1 p q → Leads f free free1 p.pc q.pc
  copy_leads true x to places free free1 p q at = record {
    forward = omega (arith, at.word.next);
    up = omega (arith, at.at_free);
    begins = λ within. inr (word_begins free is_function at.word (abc_is_read is_function at.word) refl (omega arith));
  }
  copy_leads false x to places free free1 p q at = leads_nowhere at.at_free at.same.pc

  pub copies_lead : (x : ℕ) (to places : List Target) (free free1 : ℕ) (p q : Spot) → CopiesAt g x to places free free1 p q → Leads f free free1 p.pc q.pc
  copies_lead zero to places free free1 p q at = leads_nowhere at.at_free at.same.pc
  copies_lead (suc x) to places free free1 p q at = leads_then (copies_lead x to at.between free at.free1 p at.mid at.earlier_at) (copy_leads (clashes x to) x at.between places at.free1 free1 at.mid q at.later_at)

  -- a MOVE copies a local to the next register
  local_reaches : {listed : List ℕ} {active : List Active} (x free : ℕ) (p q : Spot) (s : Situation) → HasLocals active listed s → IsQuiet f s.scope p.pc q.pc → x < length active → free ≡ next_free s → IsListedLocal f listed x → WordAt g (Piece.Abc Op.Move free x 0) p q →
      Reaches f p.pc s q.pc (and_value (local_value x) s)
  local_reaches {listed} x free p q s locals quiet below next is at =
      let w = word_of p.pc (Piece.Abc Op.Move free x 0) in
      let later : p.pc < q.pc = omega (arith, at.next) in
      let named = subst (λ (listed : List ℕ). local_name (place f.of listed f.short) x ≡ Some is.text) (sym locals.places) is.named in
      let turn = turn_there p.pc s quiet (omega arith) later (word_there is_function at (abc_is_read is_function at) (omega (arith, quiet.within))) in
      let makes = makes_turn f w (local_value x) (suc p.pc) s s (local_makes f p.pc free x is.text s (omega (arith, below, locals.base)) named).does next in
      word later (turn ∙ makes ∙ ap (λ (next : ℕ). Some (reading.on next, and_value (local_value x) s)) (sym at.next)) here

-- ---- what words come to behind copies

module _ {f : Function} {g : Fn} {active : List Active} {listed : List ℕ} (is_function : IsFunction f g) (few : length active ≤ 250) (Are : List TargetValue → Type 0) (s : Situation) (locals : HasLocals active listed s) (first : ℕ) where
  -- the same where no words follow
  nothing_copied : (to places : List Target) (free free1 : ℕ) (p q : Spot) → PartsCome f g (length active) listed Are to s free first p.pc → NoTargetsAt to places free free1 p q → PartsCome f g (length active) listed Are places s free1 first q.pc
  nothing_copied to places free free1 p q come at = record {
    ds = come.ds;
    entries = come.entries;
    scope = come.scope;
    same = come.same;
    seen = come.seen;
    keys = come.keys;
    reaches = subst (λ (last : ℕ). Reaches f first s last (record s { scope = come.scope; entries = come.entries; seen = come.seen })) (sym at.same.pc) come.reaches;
    counts = at.at_free ∙ come.counts;
    grows = come.grows;
    are = come.are;
    placed = subst (λ (places : List Target). ArePlaced f g (length active) listed come.entries (length s.entries) places come.ds) (sym at.is) come.placed;
    uses = come.uses;
    taken = come.taken;
    named = come.named;
  }

  -- a local is copied
  local_copied : (x : ℕ) (to places : List Target) (free free1 : ℕ) (p q : Spot) → IsQuiet f s.scope first q.pc → x < length active → clashes x to ≡ true → PartsCome f g (length active) listed Are to s free first p.pc → CopyAt g x to places free free1 p q →
      PartsCome f g (length active) listed Are places s free1 first q.pc
  local_copied x to places free free1 p q quiet below clash come at =
      let count = length active in
      let copies = targets_copied f g count listed come.entries x free below few (omega (arith, at.room, is_function.few)) come.counts (length s.entries) to come.ds come.placed in
      let t = record s { scope = come.scope; entries = come.entries; seen = come.seen } in
      let local = clash_listed f g count listed come.entries x (length s.entries) to come.ds come.placed clash in
      let there : HasLocals active listed t = locals_then come.same locals in
      let reaches = local_reaches is_function x free p q t there (quiet_from p.pc (reaches_on come.reaches) (quiet_same come.same quiet)) below (omega (arith, come.counts, locals.base)) local at.word in
      let last = value_entry (local_value x) ∷ [] in
      record {
        ds = copies.copied;
        entries = with_local x come.entries;
        scope = come.scope;
        same = come.same;
        seen = come.seen;
        keys = come.keys;
        reaches = reaches_then come.reaches reaches;
        counts = omega (arith, at.at_free, come.counts, length-append come.entries last);
        grows = λ n entry there. grows_by come.entries last n entry (come.grows n entry there);
        are = subst Are (sym copies.same) come.are;
        placed = subst (λ (places : List Target). ArePlaced f g count listed (with_local x come.entries) (length s.entries) places copies.copied) (sym at.is) copies.placed;
        uses = λ n above within.
            ⊎_elim (λ before. copies.uses n (come.uses n above before)) (λ is. subst (UsesAny count copies.copied) (sym is) (copies.new clash))
            (before_or_last n (length come.entries) (omega (arith, within, length-append come.entries last)));
        taken = ap (λ ts. taken_behind_targets ts s.seen) copies.same ∙ come.taken;
        named = λ n. copies.seen n ∙ come.named n ∙ ap (λ ts. all_named_behind ts (max n come.keys)) (sym copies.same);
      }

  by_clash : (clash : Bool) (x : ℕ) (to between places : List Target) (free free1 : ℕ) (p q : Spot) → clashes x to ≡ clash → IsQuiet f s.scope first q.pc → x < length active → clashes x between ≡ clashes x to → PartsCome f g (length active) listed Are between s free first p.pc →
      CopyBy clash g x between places free free1 p q → PartsCome f g (length active) listed Are places s free1 first q.pc
  by_clash true x to between places free free1 p q is quiet below same come at = local_copied x between places free free1 p q quiet below (same ∙ is) come at
  by_clash false x to between places free free1 p q is quiet below same come at = nothing_copied between places free free1 p q come at

  clash_still : (clash : Bool) (x y : ℕ) (between places : List Target) (free free1 : ℕ) (p q : Spot) → x < y → y < free → CopyBy clash g x between places free free1 p q → clashes y places ≡ clashes y between
  clash_still true x y between places free free1 p q above below at = ap (clashes y) at.is ∙ clashes_same x y free between above below
  clash_still false x y between places free free1 p q above below at = ap (clashes y) at.is

  copies_clash : (x y : ℕ) (to places : List Target) (free free1 : ℕ) (p q : Spot) → x ≤ y → y < free → CopiesAt g x to places free free1 p q → clashes y places ≡ clashes y to
  copies_clash zero y to places free free1 p q above below at = ap (clashes y) at.is
  copies_clash (suc x) y to places free free1 p q above below at =
      let before = copies_lead is_function x to at.between free at.free1 p at.mid at.earlier_at in
      clash_still (clashes x to) x y at.between places at.free1 free1 at.mid q (omega (arith, above)) (omega (arith, below, before.up)) at.later_at
      ∙ copies_clash x y to at.between free at.free1 p at.mid (omega (arith, above)) below at.earlier_at

  -- all locals that clash are copied, from the lowest one on
  pub copies_come : (x : ℕ) (to places : List Target) (free free1 : ℕ) (p q : Spot) → x ≤ length active → length active ≤ free → IsQuiet f s.scope first q.pc → PartsCome f g (length active) listed Are to s free first p.pc → CopiesAt g x to places free free1 p q →
      PartsCome f g (length active) listed Are places s free1 first q.pc
  copies_come zero to places free free1 p q up from quiet come at = nothing_copied to places free free1 p q come at
  copies_come (suc x) to places free free1 p q up from quiet come at =
      let later = copy_leads is_function (clashes x to) x at.between places at.free1 free1 at.mid q at.later_at in
      let before = copies_come x to at.between free at.free1 p at.mid (omega (arith, up)) from (quiet_before at.mid.pc later.forward quiet) come at.earlier_at in
      by_clash (clashes x to) x to at.between places at.free1 free1 at.mid q refl quiet (omega (arith, up)) (copies_clash x x to at.between free at.free1 p at.mid (omega arith) (omega (arith, up, from)) at.earlier_at) before at.later_at
