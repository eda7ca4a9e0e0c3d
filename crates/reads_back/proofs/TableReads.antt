-- A constructor comes to the next free register, where each part of its items is read.
use Rattle.std.proofs.Common.{◌≡◌, ℕ, suc, ◌+◌, ◌-◌, ◌/◌, ◌<◌, ◌≤◌, nat_lt, nat_le, Bool, true, false, cond, List, [], ◌∷◌, ◌++◌, length, length-append, append_assoc, Some, None, refl, sym, ap, ◌∙◌, subst, arith, lt-ltb, inl, inr, ◌*◌, ltb-true}
use Rattle.std.proofs.Math.Nat.{max-le}
use Rattle.std.specs.Prelude.{if◌then◌else◌, ◌==◌, ◌&&◌}
use Rattle.lua_tree.specs.Syntax.{Expression, Fields, no_fields, positional, named, keyed}
use Rattle.opcode.specs.declared.op.Op.{Op}
use Rattle.core_expr.specs.Counting.{taken_behind_items}
use Rattle.core_expr.specs.Making.{deepest_item, depth_of}
use Rattle.core_expr.specs.Values.{Value, table_value, no_values, OperandValue, ItemList, no_items, and_positional, and_keyed}
use Rattle.recover_expr.specs.Constructors.{list_items, with_keyed}
use Rattle.recover_expr.specs.Entries.{Entries, maker_entry, held_entry, open_entry, join_items, more}
use Rattle.recover_expr.specs.Reading.{on, turn_at}
use Rattle.recover_expr.specs.Situation.{Function, Situation, instr_at}
use Rattle.scheme.specs.Expressions.{is_multiple}
use Rattle.scheme.specs.Lists.{pending_after}
use Rattle.scheme.specs.declared.making.Active.{Active}
use Rattle.scheme.specs.declared.making.Piece.{Piece}
use Rattle.scheme_stands.specs.Expressions.{RkAt, RkTextAt, TwoAt}
use Rattle.scheme_stands.specs.Lists.{SetListAt, SetListIf, ItemBy, TableAt, is_last_item}
use Rattle.scheme_stands.specs.Relation.{related, ItemsAt}
use Rattle.scheme_stands.specs.Words.{Fn, Spot, Stretch, Seq, WordAt, instr_by}
use Rattle.reads_back.proofs.BehindWords.{HasLocals, behind_words, quiet_same, same_locals, same_then}
use Rattle.reads_back.proofs.BothOperands.{behind_operand, both_reach, next_behind}
use Rattle.reads_back.proofs.Comes.{Comes, IsElementRead, OpenComes, OperandComes, ReadsOperand, ReadsTable, comes_next, BeginsOrNone}
use Rattle.reads_back.proofs.Reaches.{Reaches, here, word, reaches_then}
use Rattle.reads_back.proofs.TableItems.{Ahead, begins_value, adds_item, ends_here, IsWantedAt, join_assoc, join_none, keyed_held, open_listed, positional_items, some_listed, with_maker, held_count}
use Rattle.reads_back.proofs.TableWords.{Making, ItemsCome, turn_is, new_table_turn, with_entries, list_reached, list_keeps, list_if_keeps, list_later, list_if_forward, list_ahead, IsBounded, no_words, keyed_turn, behind_keyed, no_pending, is_full, making_next, wanted_same, none_pending, making_more, making_held, rk_small, text_small}
use Rattle.reads_back.proofs.Tests.{second_of_both}
use Rattle.reads_back.proofs.ValueWords.{and_entry}
use Rattle.reads_back.proofs.WordsBegin.{instr_is, word_begins, wanted_above, begins_same}
use Rattle.reads_back.proofs.WordsRead.{IsFunction, IsQuiet, abc_is_read, quiet_before, quiet_from}
use Rattle.reads_back.specs.Cores.{AreItems, AreNoItems, Counted, CountedItems, IsTable, IsCore, IsItem, IsKeyed, IsKeyedItem, IsKey, IsOneItem, IsOpenItem, IsOperand, Items}
use Rattle.reads_back.proofs.FurtherWords.{value_further}

-- ---- parts of a constructor

-- the words of items are read, where so many of those before them are pending
record ReadsItems (f : Function) (active : List Active) (listed : List ℕ) (Are : CountedItems) (deep t pending : ℕ) (part : Stretch) : Type 0 where
  forward : (p q : Spot) → part p q → p.pc ≤ q.pc
  ahead : (p q : Spot) (s : Situation) → HasLocals active listed s → s.base ≤ t → q.pc ≤ f.last → part p q → Ahead f s.base t pending p.pc q.pc
  comes : (p q : Spot) (s : Situation) (before : Entries) (given : ItemList) → Making active listed s before t given pending → IsQuiet f s.scope p.pc q.pc → IsWantedAt f s.base (length before) q.pc s.scope → part p q →
      ItemsCome f (Are p.functions q.functions) deep s before given p.pc q.pc

-- what is known of them may be less
items_so : {f : Function} {Are Less : Items} {deep first last : ℕ} {s : Situation} {before : Entries} {given : ItemList} → ((items : ItemList) (all : Bool) → Are items all → Less items all) → ItemsCome f Are deep s before given first last →
    ItemsCome f Less deep s before given first last
items_so less come = record {
  items = come.items;
  all = come.all;
  are = less come.items come.all come.are;
  shallow = come.shallow;
  scope = come.scope;
  same = come.same;
  seen = come.seen;
  taken = come.taken;
  reaches = come.reaches;
}

module _ {f : Function} {g : Fn} (active : List Active) (listed : List ℕ) (is_function : IsFunction f g) where
  -- a SETLIST of all that are pending
  all_listed : (n done : ℕ) {t : ℕ} (p q : Spot) (s : Situation) (before : Entries) (given : ItemList) → Making active listed s before t given n → 0 < n → IsQuiet f s.scope p.pc q.pc → SetListAt g t n done p q →
      Reaches f p.pc s q.pc (with_entries (before ++ maker_entry given false ∷ []) s)
  all_listed n done {t} p q s before given making some quiet at =
      let block = (done - 1) / 50 + 1 in
      let listed = some_listed before making.items making.held making.entries making.vs n making.are some making.counts in
      subst (λ (given : ItemList). Reaches f p.pc s q.pc (with_entries (before ++ maker_entry given false ∷ []) s)) (sym making.together)
      (list_reached (nat_le block 511) t n block p q s before making.items (join_items making.items (positional_items making.vs)) false (more making.held held_entry ++ making.entries) (more (making.held + length making.entries) held_entry ++ [])
      is_function quiet (omega arith) at making.at making.is (ap (list_items (length before) n) making.is ∙ listed))

  -- ---- no item

  list_if_ahead : (some : Bool) (base t n pending done last : ℕ) (p q : Spot) → (some ≡ false → pending ≡ 0) → last ≡ q.pc → SetListIf some g t n done p q → Ahead f base t pending p.pc last
  list_if_ahead true base t n pending done last p q none ends at = let block = (done - 1) / 50 + 1 in subst (λ (last : ℕ). Ahead f base t pending p.pc last) (sym ends) (list_ahead (nat_le block 511) base t n block pending p q is_function at)
  list_if_ahead false base t n pending done last p q none ends at = ends_here (none refl) (sym at.pc ∙ sym ends)

  last_comes : (some : Bool) (deep t n done : ℕ) (p q : Spot) (s : Situation) (before : Entries) (given : ItemList) → nat_lt 0 n ≡ some → Making active listed s before t given n → IsQuiet f s.scope p.pc q.pc → SetListIf some g t n done p q →
      ItemsCome f (AreNoItems p.functions q.functions) deep s before given p.pc q.pc
  last_comes true deep t n done p q s before given is making quiet at = record {
    items = no_items;
    all = false;
    are = (list_keeps g (nat_le ((done - 1) / 50 + 1) 511) t n ((done - 1) / 50 + 1) p q at, refl, refl);
    shallow = omega arith;
    scope = s.scope;
    same = same_locals s.scope;
    seen = s.seen;
    taken = refl;
    reaches =
        subst (λ (given : ItemList). Reaches f p.pc s q.pc (with_entries (before ++ maker_entry given false ∷ []) s)) (sym (join_none given))
        (all_listed n done p q s before given making (ltb-true 0 n is) quiet at);
  }
  last_comes false deep t n done p q s before given is making quiet at = record {
    items = no_items;
    all = false;
    are = (at.functions, refl, refl);
    shallow = omega arith;
    scope = s.scope;
    same = same_locals s.scope;
    seen = s.seen;
    taken = refl;
    reaches =
        let none = subst (λ (n : ℕ). Making active listed s before t given n) (no_pending n is) making in
        subst (λ (pc : ℕ). Reaches f p.pc s pc (with_entries (before ++ maker_entry (join_items given no_items) false ∷ []) s)) (sym at.pc)
        (subst (λ (entries : Entries). Reaches f p.pc s p.pc (with_entries entries s)) (none_pending none) here);
  }

  none_read : (deep t done pending : ℕ) → ReadsItems f active listed AreNoItems deep t pending (SetListIf (nat_lt 0 pending) g t pending done)
  none_read deep t done pending = record {
    forward = list_if_forward g (nat_lt 0 pending) t pending done;
    ahead = λ p q s locals above within at. list_if_ahead (nat_lt 0 pending) s.base t pending pending done q.pc p q (no_pending pending) refl at;
    comes = λ p q s before given making quiet wanted at. last_comes (nat_lt 0 pending) deep t pending done p q s before given refl making quiet at;
  }

  -- ---- an item without a key

  -- a SETLIST where as many are pending as one takes
  record IsListed (s : Situation) (before : Entries) (t : ℕ) (given : ItemList) (pending first last : ℕ) : Type 0 where
    entries : Entries
    making : Making active listed (with_entries entries s) before t given pending
    reaches : Reaches f first s last (with_entries entries s)

  listed_if : (full : Bool) (t n done : ℕ) (p q : Spot) (s : Situation) (before : Entries) (given : ItemList) → (n == 50) ≡ full → Making active listed s before t given n → IsQuiet f s.scope p.pc q.pc → SetListIf full g t 50 done p q →
      IsListed s before t given (cond full 0 n) p.pc q.pc
  listed_if true t n done p q s before given is making quiet at =
      let entries = before ++ maker_entry given false ∷ [] in
      let full = subst (λ (n : ℕ). Making active listed s before t given n) (is_full n is) making in
      record {
        entries = entries;
        making = making_held making (with_entries entries s) 0 refl (same_locals s.scope) given refl;
        reaches = all_listed 50 done p q s before given full (omega arith) quiet at;
      }
  listed_if false t n done p q s before given is making quiet at = record { entries = s.entries; making = making; reaches = subst (λ (pc : ℕ). Reaches f p.pc s pc s) (sym at.pc) here }

  positional_then : {Is : Value → Type 0} {Rest : Items} {deep first mid more last : ℕ} {s : Situation} {before : Entries} {given : ItemList} (one : Comes f Is deep s first mid) (entries : Entries) →
      Reaches f mid (behind_words one.scope one.seen (one.entry ∷ []) s) more (record s { scope = one.scope; entries = entries; seen = one.seen }) →
      ItemsCome f Rest deep (record s { scope = one.scope; entries = entries; seen = one.seen }) before (join_items given (and_positional one.value no_items)) more last → ItemsCome f (IsOneItem Is Rest) deep s before given first last
  positional_then {first = first} {last = last} {s = s} {before} {given} one entries between rest = record {
    items = and_positional one.value rest.items;
    all = rest.all;
    are = (one.value, rest.items, one.is, rest.are, refl);
    shallow = max-le one.shallow rest.shallow;
    scope = rest.scope;
    same = same_then one.same rest.same;
    seen = rest.seen;
    taken = ap (taken_behind_items rest.items) one.taken ∙ rest.taken;
    reaches =
        subst (λ (items : ItemList). Reaches f first s last (record s { scope = rest.scope; entries = before ++ maker_entry items rest.all ∷ []; seen = rest.seen })) (join_assoc given (and_positional one.value no_items) rest.items)
        (reaches_then one.reaches (reaches_then between rest.reaches));
  }

  -- the last item is open
  open_then : (done : ℕ) (p q : Spot) {Is : Value → Type 0} {deep t pending first : ℕ} {s : Situation} {before : Entries} {given : ItemList} (last : OpenComes f Is deep s first p.pc) → Making active listed s before t given pending →
      IsQuiet f s.scope p.pc q.pc → SetListAt g t 0 done p q →
      ItemsCome f (IsOpenItem Is) deep s before given first q.pc
  open_then done p q {t = t} {first = first} {s = s} {before} {given} last making quiet at =
      let block = (done - 1) / 50 + 1 in
      let some = and_positional last.value no_items in
      let behind = behind_words last.scope last.seen (open_entry last.value ∷ []) s in
      let above = more making.held held_entry ++ making.entries in
      let low = with_maker before making.items making.held making.entries in
      let are : behind.entries ≡ before ++ maker_entry making.items false ∷ (above ++ open_entry last.value ∷ []) =
      ap (λ entries. entries ++ open_entry last.value ∷ []) making.is ∙ append_assoc before (maker_entry making.items false ∷ above) (open_entry last.value ∷ []) in
      let listed = ap (λ entries. list_items (length before) 0 (entries ++ open_entry last.value ∷ [])) making.is ∙ open_listed before making.items making.held making.entries making.vs last.value making.are in
      record {
        items = some;
        all = true;
        are = (last.value, last.is, refl, refl);
        shallow = max-le last.shallow (omega arith);
        scope = last.scope;
        same = last.same;
        seen = last.seen;
        taken = last.taken;
        reaches =
            reaches_then last.reaches
            (subst (λ (given : ItemList). Reaches f p.pc behind q.pc (with_entries (before ++ maker_entry (join_items given some) true ∷ []) behind)) (sym making.together)
            (list_reached (nat_le block 511) t 0 block p q behind before making.items (join_items (join_items making.items (positional_items making.vs)) some) true (above ++ open_entry last.value ∷ [])
            (more (making.held + length making.entries) held_entry ++ []) is_function (quiet_same last.same quiet) (omega arith) at making.at are listed));
      }

  one_then : (done : ℕ) (p mid q : Spot) {Is : Value → Type 0} {Rest : CountedItems} {deep t pending first : ℕ} {s : Situation} {before : Entries} {given : ItemList} {rest : Stretch} → ReadsItems f active listed Rest deep t (pending_after (suc pending)) rest →
      Comes f Is deep s first p.pc → Making active listed s before t given pending → IsQuiet f s.scope p.pc q.pc → IsWantedAt f s.base (length before) q.pc s.scope → SetListIf (suc pending == 50) g t 50 done p mid → rest mid q →
      ItemsCome f (IsOneItem Is (Rest p.functions q.functions)) deep s before given first q.pc
  one_then done p mid q {Rest = Rest} {t = t} {pending} {s = s} {before} {given} rest_read one making quiet wanted list_at rest_at =
      let full = suc pending == 50 in
      let behind = behind_words one.scope one.seen (one.entry ∷ []) s in
      let given_more = join_items given (and_positional one.value no_items) in
      let quiet_behind = quiet_same one.same quiet in
      let between = listed_if full t (suc pending) done p mid behind before given_more refl (making_more making one.entry one.value one.scope one.seen one.single one.same) (quiet_before mid.pc (rest_read.forward mid q rest_at) quiet_behind) list_at in
      let quiet_rest : IsQuiet f one.scope mid.pc q.pc = quiet_from mid.pc (list_if_forward g full t 50 done p mid list_at) quiet_behind in
      positional_then one between.entries between.reaches
      (items_so (λ items all are. subst (λ (made : ℕ). Rest made q.functions items all) (list_if_keeps g full t 50 done p mid list_at) are)
      (rest_read.comes mid q (with_entries between.entries behind) before given_more between.making quiet_rest (wanted_same f s.base (length before) q.pc one.same wanted) rest_at))

  module _ {e : Expression} {deep : ℕ} (reads : IsElementRead f g active listed deep e) {Rest : CountedItems} where
    item_read : (left_open : Bool) (t done pending : ℕ) (rest : Stretch) → (left_open ≡ true → is_multiple e ≡ true) → ReadsItems f active listed Rest deep t (pending_after (suc pending)) rest →
        ReadsItems f active listed (IsItem left_open (IsCore g active e) Rest) deep t pending (ItemBy left_open g (related g e) active t done pending rest)
    item_read true t done pending rest multiple rest_read =
        let all = reads.all (multiple refl) in
        let block = (suc done - 1) / 50 + 1 in
        record {
          forward = λ p q at. omega (arith, all.forward (t + suc pending) Op.Call None p at.mid at.first_at, list_later g (nat_le block 511) t 0 block at.mid q at.second_at);
          ahead = λ p q s locals above within at.
              begins_value (begins_same (omega arith) refl (all.begins (t + suc pending) p at.mid (omega (arith, within, list_later g (nat_le block 511) t 0 block at.mid q at.second_at)) at.first_at))
              (omega (arith, all.forward (t + suc pending) Op.Call None p at.mid at.first_at, list_later g (nat_le block 511) t 0 block at.mid q at.second_at));
          comes = λ p q s before given making quiet wanted at.
              let on = all.forward (t + suc pending) Op.Call None p at.mid at.first_at in
              let back = list_later g (nat_le block 511) t 0 block at.mid q at.second_at in
              let last = all.comes (t + suc pending) p at.mid s making.locals (making_next making) (quiet_before at.mid.pc (omega (arith, back)) quiet) at.first_at in
              items_so (λ items all are. subst (λ (behind : ℕ). IsOpenItem (IsCore g active e p.functions behind) items all) (sym (list_keeps g (nat_le block 511) t 0 block at.mid q at.second_at)) are)
              (open_then (suc done) at.mid q last making (quiet_from at.mid.pc on quiet) at.second_at);
        }
    item_read false t done pending rest multiple rest_read =
        let full = suc pending == 50 in
        let free = t + suc pending in
        record {
          forward = λ p q at.
              let others = at.others in
              omega (arith, reads.one.forward free free p at.mid at.first, list_if_forward g full t 50 (suc done) at.mid others.mid others.first_at, rest_read.forward others.mid q others.second_at);
          ahead = λ p q s locals above within at.
              let others = at.others in
              let back = list_if_forward g full t 50 (suc done) at.mid others.mid others.first_at in
              let behind = rest_read.forward others.mid q others.second_at in
              let inside : at.mid.pc ≤ f.last = omega (arith, within, back, behind) in
              begins_value (begins_same (omega arith) refl (reads.one.begins free p at.mid inside at.first)) (omega (arith, value_further reads.one free p at.mid s locals (omega (arith, above)) inside at.first, back, behind));
          comes = λ p q s before given making quiet wanted at.
              let others = at.others in
              let on = reads.one.forward free free p at.mid at.first in
              let list = list_if_forward g full t 50 (suc done) at.mid others.mid others.first_at in
              let back = rest_read.forward others.mid q others.second_at in
              let some : 0 < length s.entries = omega (arith, making_next making, making.at) in
              let one = comes_next reads.one free p at.mid s making.locals (making_next making) (quiet_before at.mid.pc (omega (arith, list, back)) quiet) (wanted_above f s at.mid.pc some) at.first in
              items_so (λ items all are. (at.mid.functions, are)) (one_then (suc done) at.mid others.mid q rest_read one making (quiet_from at.mid.pc on quiet) wanted others.first_at others.second_at);
        }

  -- ---- an item with a key

  keyed_joined : {Key Item : OperandValue → Type 0} {Rest : Items} {deep free x free1 y free2 first between third mid last : ℕ} {s : Situation} {before : Entries} {given : ItemList} (one : OperandComes f Key deep s free x free1 first between)
      (two : OperandComes f Item deep (behind_operand one) free1 y free2 between third) (count : ℕ) → Reaches f first s mid (behind_keyed one two before given count) →
      ItemsCome f Rest deep (behind_keyed one two before given count) before (join_items given (and_keyed one.operand two.operand no_items)) mid last → ItemsCome f (IsKeyed Key Item Rest) deep s before given first last
  keyed_joined {first = first} {last = last} {s = s} {before} {given} one two count reached rest = record {
    items = and_keyed one.operand two.operand rest.items;
    all = rest.all;
    are = (one.operand, two.operand, rest.items, one.is, two.is, rest.are, refl);
    shallow = max-le (max-le one.shallow two.shallow) rest.shallow;
    scope = rest.scope;
    same = same_then (same_then one.same two.same) rest.same;
    seen = rest.seen;
    taken = rest.taken;
    reaches =
        subst (λ (items : ItemList). Reaches f first s last (record s { scope = rest.scope; entries = before ++ maker_entry items rest.all ∷ []; seen = rest.seen })) (join_assoc given (and_keyed one.operand two.operand no_items) rest.items)
        (reaches_then reached rest.reaches);
  }

  keyed_then : (p mid q : Spot) {Key Item : OperandValue → Type 0} {Rest : CountedItems} {deep t pending free x free1 y free2 first between : ℕ} {s : Situation} {before : Entries} {given : ItemList} {rest : Stretch} →
      ReadsItems f active listed Rest deep t pending rest →
      (one : OperandComes f Key deep s free x free1 first between) (two : OperandComes f Item deep (behind_operand one) free1 y free2 between p.pc) → free ≡ t + suc pending → Making active listed s before t given pending →
      IsQuiet f s.scope p.pc q.pc → IsWantedAt f s.base (length before) q.pc s.scope →
      (free1 ≡ free + 1 → x < 256) → (free2 ≡ free1 + 1 → y < 256) → WordAt g (Piece.Abc Op.SetTable t x y) p mid → rest mid q → ItemsCome f (IsKeyed Key Item (Rest mid.functions q.functions)) deep s before given first q.pc
  keyed_then p mid q {t = t} {pending} {x = x} {y = y} {first = first} {s = s} {before} {given} rest_read one two free making quiet wanted small small_two word_at rest_at =
      let key = one.operand in
      let item = two.operand in
      let below : p.pc < mid.pc = omega (arith, word_at.next) in
      let back = rest_read.forward mid q rest_at in
      let same = same_then one.same two.same in
      let given_more = join_items given (and_keyed key item no_items) in
      let above = more making.held held_entry ++ making.entries in
      let count = making.held + length making.entries in
      let after = with_maker before given_more count [] in
      let behind = behind_keyed one two before given count in
      let quiet_two = quiet_same same quiet in
      let wanted_two = wanted_same f s.base (length before) q.pc same wanted in
      let counts : pending ≡ length above = omega (arith, making.counts, length-append (more making.held held_entry) making.entries, held_count making.held) in
      let taken : with_keyed (length before) key item s.entries ≡ Some after =
      ap (with_keyed (length before) key item) making.is ∙ keyed_held before making.items making.held making.entries making.vs key item making.are
      ∙ ap (λ given. Some (with_maker before (join_items given (and_keyed key item no_items)) count [])) (sym making.together) in
      let ahead = subst (λ (pc : ℕ). Ahead f s.base t pending pc q.pc) word_at.next (rest_read.ahead mid q s making.locals (omega (arith, making.at)) quiet.within rest_at) in
      let turn : turn_at f p.pc (behind_operand two) ≡ Some (on mid.pc, behind) =
      turn_is (behind_operand two) mid.pc is_function word_at (quiet_before mid.pc back quiet_two) below
      ∙ keyed_turn one two p.pc t before making.items above after pending q.pc (free ∙ making_next making) making.at making.is counts taken ahead (λ less. quiet_two.stays (suc p.pc) (omega arith) less) wanted_two small small_two
      ∙ ap (λ (pc : ℕ). Some (on pc, behind)) (sym word_at.next) in
      let quiet_rest : IsQuiet f two.scope mid.pc q.pc = quiet_from mid.pc (omega (arith, below)) quiet_two in
      let making_then : Making active listed behind before t given_more pending =
      subst (λ (n : ℕ). Making active listed behind before t given_more n) (sym making.counts) (making_held making behind count refl same given_more refl) in
      keyed_joined one two count (reaches_then (both_reach one two) (word below turn here)) (rest_read.comes mid q behind before given_more making_then quiet_rest wanted_two rest_at)

  module _ {Key Item : Counted OperandValue} {deep : ℕ} {key_at value_at : (free x free1 : ℕ) → Stretch} (keys : ReadsOperand f g active listed Key deep key_at) (key_small : IsBounded key_at)
      (operands : ReadsOperand f g active listed Item deep value_at) (value_small : IsBounded value_at) where
    abbrev one_keyed : (t pending : ℕ) → Stretch
    one_keyed t pending = TwoAt key_at value_at (t + suc pending) (λ k v. WordAt g (Piece.Abc Op.SetTable t k v))

    keyed_forward : (t pending : ℕ) (p q : Spot) → one_keyed t pending p q → p.pc ≤ q.pc
    keyed_forward t pending p q at =
        let word_at = at.words_at in
        omega (arith, keys.forward (t + suc pending) at.x at.free1 p at.mid at.left_at, operands.forward at.free1 at.y at.free2 at.mid at.last at.right_at, word_at.next)

    keyed_ahead : (t pending ending : ℕ) (p q : Spot) (s : Situation) → HasLocals active listed s → s.base ≤ t → q.pc ≤ f.last → q.pc ≤ ending → one_keyed t pending p q → Ahead f s.base t pending p.pc ending
    keyed_ahead t pending ending p q s locals above within before at = of_key (keys.begins free at.x at.free1 p at.mid within_mid at.left_at)
      where
        free : ℕ
        free = t + suc pending

        word_at : WordAt g (Piece.Abc Op.SetTable t at.x at.y) at.last q
        word_at = at.words_at

        within_last : at.last.pc ≤ f.last
        within_last = omega (arith, within, word_at.next)

        within_mid : at.mid.pc ≤ f.last
        within_mid = omega (arith, within_last, operands.forward at.free1 at.y at.free2 at.mid at.last at.right_at)

        later : p.pc < q.pc
        later = omega (arith, keys.forward free at.x at.free1 p at.mid at.left_at, operands.forward at.free1 at.y at.free2 at.mid at.last at.right_at, word_at.next)

        of_value : p.pc ≡ at.mid.pc → at.free1 ≡ free → BeginsOrNone f at.free1 at.free2 at.mid.pc at.last.pc → Ahead f s.base t pending p.pc ending
        of_value same is (inl (too, still)) =
            let not = no_words operands at.free1 at.y at.free2 at.mid at.last s locals (omega (arith, above, is)) within_last at.right_at too in
            adds_item (instr_by at.last.pc (Piece.Abc Op.SetTable t at.x at.y)) (ap (instr_at f) (same ∙ too) ∙ instr_is is_function word_at (abc_is_read is_function word_at)) refl refl not.1 (omega (arith, later, before))
        of_value same is (inr begun) = begins_value (begins_same (omega (arith, is)) same begun) (omega (arith, later, before))

        of_key : BeginsOrNone f free at.free1 p.pc at.mid.pc → Ahead f s.base t pending p.pc ending
        of_key (inl (same, none)) =
            let key = no_words keys free at.x at.free1 p at.mid s locals (omega (arith, above)) within_mid at.left_at same in
            of_value same key.0 (operands.begins at.free1 at.y at.free2 at.mid at.last within_last at.right_at)
        of_key (inr begun) = begins_value (begins_same (omega arith) refl begun) (omega (arith, later, before))

    keyed_read : {Rest : CountedItems} (t pending : ℕ) (rest : Stretch) → ReadsItems f active listed Rest deep t pending rest → ReadsItems f active listed (IsKeyedItem Key Item Rest) deep t pending (Seq (one_keyed t pending) rest)
    keyed_read {Rest} t pending rest rest_read =
        let free = t + suc pending in
        record {
          forward = λ p q at. omega (arith, keyed_forward t pending p at.mid at.first_at, rest_read.forward at.mid q at.second_at);
          ahead = λ p q s locals above within at. keyed_ahead t pending q.pc p at.mid s locals above (omega (arith, within, rest_read.forward at.mid q at.second_at)) (rest_read.forward at.mid q at.second_at) at.first_at;
          comes = λ p q s before given making quiet wanted at.
              let both = at.first_at in
              let word_at = both.words_at in
              let on = keys.forward free both.x both.free1 p both.mid both.left_at in
              let on_too = operands.forward both.free1 both.y both.free2 both.mid both.last both.right_at in
              let back = rest_read.forward at.mid q at.second_at in
              let some : 0 < length s.entries = omega (arith, making_next making, making.at) in
              let one = keys.comes free both.x both.free1 p both.mid s making.locals (making_next making) (quiet_before both.mid.pc (omega (arith, on_too, word_at.next, back)) quiet) (λ is next. wanted_above f s both.mid.pc some) both.left_at in
              let two = operands.comes both.free1 both.y both.free2 both.mid both.last (behind_operand one) (record { base = making.locals.base; places = one.same.active ∙ making.locals.places }) (next_behind one (making_next making))
              (quiet_same one.same (quiet_from both.mid.pc on (quiet_before both.last.pc (omega (arith, word_at.next, back)) quiet)))
              (λ is next. wanted_above f (behind_operand one) both.last.pc (omega (arith, some, length-append s.entries one.more))) both.right_at in
              items_so
              (λ items all are. (
                both.mid.functions,
                at.mid.functions,
                subst (λ (made : ℕ). IsKeyed (Key p.functions both.mid.functions) (Item both.mid.functions made) (Rest at.mid.functions q.functions) items all) (sym word_at.functions) are,
              ))
              (keyed_then both.last at.mid q rest_read one two refl making (quiet_from both.last.pc (omega (arith, on, on_too)) quiet) wanted
              (key_small free both.x both.free1 p both.mid both.left_at) (value_small both.free1 both.y both.free2 both.mid both.last both.right_at) word_at at.second_at);
        }

-- ---- constructors

-- each part of an item is read
abbrev pub ItemsRead : Function → Fn → List Active → (listed : List ℕ) → (deep : ℕ) → Fields → Type 0
ItemsRead f g active listed deep no_fields = Unit {0}
ItemsRead f g active listed deep (positional e separator rest) = IsElementRead f g active listed deep e × ItemsRead f g active listed deep rest
ItemsRead f g active listed deep (named text e separator rest) =
    ReadsOperand f g active listed (IsKey g text) deep (RkTextAt g text) × ReadsOperand f g active listed (IsOperand g active e) deep (RkAt g active (related g e)) × ItemsRead f g active listed deep rest
ItemsRead f g active listed deep (keyed key e separator rest) =
    ReadsOperand f g active listed (IsOperand g active key) deep (RkAt g active (related g key)) × ReadsOperand f g active listed (IsOperand g active e) deep (RkAt g active (related g e)) × ItemsRead f g active listed deep rest

items_read : {f : Function} {g : Fn} (active : List Active) (listed : List ℕ) {deep : ℕ} → IsFunction f g → (fields : Fields) → ItemsRead f g active listed deep fields → (t done pending : ℕ) →
    ReadsItems f active listed (AreItems g active fields) deep t pending (ItemsAt g fields active t done pending)
items_read active listed {deep} is_function no_fields reads t done pending = none_read active listed is_function deep t done pending
items_read {g = g} active listed is_function (positional e separator rest) reads t done pending =
    item_read active listed is_function reads.0 (is_last_item rest && is_multiple e) t done pending (ItemsAt g rest active t (suc done) (pending_after (suc pending))) (λ both. second_of_both (is_last_item rest) (is_multiple e) both)
    (items_read active listed is_function rest reads.1 t (suc done) (pending_after (suc pending)))
items_read {g = g} active listed is_function (named text e separator rest) reads t done pending =
    keyed_read active listed is_function reads.0 (text_small g text is_function.few) reads.1 (rk_small g active e is_function.few) t pending (ItemsAt g rest active t done pending) (items_read active listed is_function rest reads.2 t done pending)
items_read {g = g} active listed is_function (keyed key e separator rest) reads t done pending =
    keyed_read active listed is_function reads.0 (rk_small g active key is_function.few) reads.1 (rk_small g active e is_function.few) t pending (ItemsAt g rest active t done pending) (items_read active listed is_function rest reads.2 t done pending)

-- a constructor is its value as soon as it is taken
table_comes : {f : Function} {Are : Items} {deep first mid last : ℕ} {s : Situation} → deep ≤ 199 → Reaches f first s mid (and_entry (maker_entry no_items false) s) → ItemsCome f Are deep (and_entry (maker_entry no_items false) s) s.entries no_items mid last →
    (table : Comes f (IsTable Are) (suc deep) s first last) × (depth_of table.value < 2 * suc deep)
table_comes fits reached come =
    let depth = deepest_item come.items in
    let v = table_value come.items come.all (suc depth) in
    let made = ap (λ fits. if fits then Some v else None) (lt-ltb depth 400 (omega (arith, come.shallow, fits))) in (
      record {
        value = v;
        is = (come.items, come.all, come.are, made);
        entry = maker_entry come.items come.all;
        single = made;
        shallow = omega (arith, come.shallow);
        scope = come.scope;
        same = come.same;
        seen = come.seen;
        taken = come.taken;
        reaches = reaches_then reached come.reaches;
      },
      omega (arith, come.shallow),
    )

-- its word makes no function
table_made : {f : Function} (Are : CountedItems) {deep first mid last before between behind : ℕ} {s : Situation} → deep ≤ 199 → between ≡ before → Reaches f first s mid (and_entry (maker_entry no_items false) s) →
    ItemsCome f (Are between behind) deep (and_entry (maker_entry no_items false) s) s.entries no_items mid last → (table : Comes f (IsTable (Are before behind)) (suc deep) s first last) × (depth_of table.value < 2 * suc deep)
table_made Are {behind = behind} fits same reached come = table_comes fits reached (items_so (λ items all are. subst (λ (made : ℕ). Are made behind items all) same are) come)

pub table_reads : {f : Function} {g : Fn} {active : List Active} {listed : List ℕ} {deep : ℕ} → IsFunction f g → deep ≤ 199 → (fields : Fields) → ItemsRead f g active listed deep fields →
    ReadsTable f g active listed (AreItems g active fields) (suc deep) (λ free. TableAt g (λ t. ItemsAt g fields active t 0 0) free)
table_reads {f} {g} {active} {listed} {deep} is_function fits fields reads =
    record {
      forward = λ free p q at. let first = at.word in omega (arith, first.next, (all free).forward at.mid q at.items_at);
      begins = λ free p q within at. word_begins free is_function at.word (abc_is_read is_function at.word) refl (omega arith);
      comes = λ free p q s locals next quiet wanted at.
          let first = at.word in
          let below : p.pc < at.mid.pc = omega (arith, first.next) in
          let back = (all free).forward at.mid q at.items_at in
          let s_made = and_entry (maker_entry no_items false) s in
          let turn : turn_at f p.pc s ≡ Some (on at.mid.pc, s_made) =
          turn_is s q.pc is_function first quiet (omega (arith, below, back)) ∙ new_table_turn f p.pc free at.array at.hash s next ∙ ap (λ (pc : ℕ). Some (on pc, s_made)) (sym first.next) in
          let making : Making active listed s_made s.entries free no_items 0 =
          record { items = no_items; held = 0; entries = []; vs = no_values; is = refl; are = refl; counts = refl; together = refl; at = next; locals = record { base = locals.base; places = locals.places } } in
          table_made (AreItems g active fields) fits first.functions (word below turn here) ((all free).comes at.mid q s_made s.entries no_items making (quiet_from at.mid.pc (omega (arith, below)) quiet) wanted at.items_at);
    }
  where
    all : (t : ℕ) → ReadsItems f active listed (AreItems g active fields) deep t 0 (ItemsAt g fields active t 0 0)
    all t = items_read active listed is_function fields reads t 0 0
