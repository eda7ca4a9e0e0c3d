-- The parts of one target come to the next registers; a name needs no words.
use Rattle.std.proofs.Common.{◌≡◌, ℕ, ◌+◌, ◌<◌, ◌≤◌, max, Bool, true, List, [], ◌∷◌, ◌++◌, length, length-append, is_some, refl, sym, ap, ◌∙◌, subst, arith, inl, inr, ⊎_elim, suc, zero}
use Rattle.std.proofs.Math.Nat.{max-zero}
use Rattle.lua_num.specs.Bytes.{Text}
use Rattle.lua_tree.specs.Names.{is_name}
use Rattle.lua_tree.specs.Syntax.{Expression, name_expression}
use Rattle.proto.specs.declared.parts.Constant.{Constant}
use Rattle.core_expr.specs.Counting.{taken_behind_operand}
use Rattle.core_expr.specs.Targets.{TargetValue, index_target, taken_behind_target}
use Rattle.core_expr.specs.Values.{Value, nil_value, OperandValue, constant_operand, value_operand}
use Rattle.recover_expr.specs.Entries.{Entries}
use Rattle.recover_expr.specs.Locals.{Scope}
use Rattle.recover_expr.specs.Situation.{Function, Situation}
use Rattle.scheme.specs.Expressions.{Target, name_target, part_target}
use Rattle.scheme.specs.Making.{Where, in_globals, in_register, in_upvalue}
use Rattle.scheme.specs.declared.making.Active.{Active}
use Rattle.scheme_stands.specs.Expressions.{PartTargetAt, local_at}
use Rattle.scheme_stands.specs.Relation.{related}
use Rattle.scheme_stands.specs.Words.{Fn, Means, Spot, Stretch}
use Rattle.reads_back.specs.Acted.{IsTarget, named_behind}
use Rattle.reads_back.specs.Cores.{Counted, IsCore, IsValueOperand, valued}
use Rattle.reads_back.proofs.BehindWords.{HasLocals, SameLocals, behind_words, quiet_same, same_locals, same_then, starting_same, locals_then, stay_same}
use Rattle.reads_back.proofs.BothOperands.{counted}
use Rattle.reads_back.proofs.Comes.{IsOperandWanted, IsWanted, ReadsCore}
use Rattle.reads_back.proofs.GlobalTargets.{HasGlobal}
use Rattle.reads_back.proofs.HeldOperands.{HeldComes, Kept, ReadsHeld, StandsIn, counts_none, entries_in, in_local, in_next, in_word, operand_held, operand_of, taken_up}
use Rattle.reads_back.proofs.LiteralReads.{constant_there}
use Rattle.reads_back.proofs.NameReads.{AreListed, IsListed}
use Rattle.reads_back.proofs.PartsCome.{Grows, IsLower, IsPlaced, KeptIn, Leads, UsesKept, UsesTarget, WantedBehind, before_or_behind, grows_by, kept_grows, leads_then, leads_wanted}
use Rattle.reads_back.proofs.PartsRead.{is_higher, value_of}
use Rattle.reads_back.proofs.Reaches.{Reaches, here, reaches_then}
use Rattle.reads_back.proofs.StoredTargets.{Destination, IsGlobalName, seen_with, target_to, to_global, to_local, to_part, to_upvalue}
use Rattle.reads_back.proofs.StoresRead.{IsValueKept, is_value_kept}
use Rattle.reads_back.proofs.TakenEntries.{at_place}
use Rattle.reads_back.proofs.ValueWords.{next_free}
use Rattle.reads_back.proofs.WordsBegin.{lowest_same}
use Rattle.reads_back.proofs.WordsRead.{IsFunction, IsQuiet, quiet_before, quiet_from}

-- words come to these entries, in which one target stands
pub record TargetComes (f : Function) (g : Fn) (count : ℕ) (listed : List ℕ) (Is : TargetValue → Type 0) (to : Target) (s : Situation) (free first last : ℕ) : Type 0 where
  pub d : Destination
  pub entries : Entries
  pub scope : Scope
  pub same : SameLocals s.scope scope
  pub seen : ℕ
  pub keys : ℕ
  pub reaches : Reaches f first s last (record s { scope = scope; entries = entries; seen = seen })
  pub counts : free ≡ count + length entries
  pub grows : Grows s.entries entries
  pub is : Is (target_to d)
  pub placed : IsPlaced f g count listed entries (length s.entries) to d (length entries)
  pub uses : (n : ℕ) → length s.entries ≤ n → n < length entries → UsesTarget count d n
  pub taken : taken_behind_target (target_to d) s.seen ≡ max seen keys
  pub named : (n : ℕ) → seen_with d n ≡ named_behind (target_to d) (max n keys)

-- what is wanted is wanted behind words
pub wanted_later : (f : Function) (last : ℕ) (s : Situation) (scope : Scope) (entries : Entries) (seen : ℕ) → SameLocals s.scope scope → length s.entries ≤ length entries → IsWanted f s last → IsWanted f (record s { scope = scope; entries = entries; seen = seen }) last
wanted_later f last s scope entries seen same more (inl some) = inl (omega (arith, more, some))
wanted_later f last s scope entries seen same more (inr (inl starts)) =
    inr (inl (omega (arith, starts, starting_same f.of.locals last same)))
wanted_later f last s scope entries seen same more (inr (inr wants)) = inr (inr (lowest_same f s.base last same ∙ wants))

-- where more stands below a register that is taken, nothing more is asked
pub wanted_further : (f : Function) (last : ℕ) (s : Situation) (scope : Scope) (entries : Entries) (seen : ℕ) {free free1 free2 : ℕ} → SameLocals s.scope scope → free ≡ next_free s → free1 ≡ s.base + length entries → length s.entries ≤ length entries →
    WantedBehind f s free free2 last → WantedBehind f (record s { scope = scope; entries = entries; seen = seen }) free1 free2 last
wanted_further f last s scope entries seen {free} {free1} {free2} same next counts more wanted = (stay_same f last same ∙ wanted.0, λ one. by one (length entries) refl)
  where
    by : free2 ≡ suc free1 → (n : ℕ) → length entries ≡ n → IsWanted f (record s { scope = scope; entries = entries; seen = seen }) last
    by one (suc n) some = inl (omega (arith, some))
    by one zero none = wanted_later f last s scope entries seen same more (wanted.1 (omega (arith, one, counts, next, more, none)))

-- ---- what is kept of a part

module _ (f : Function) (count : ℕ) (listed : List ℕ) (before : Entries) (free : ℕ) (next : free ≡ count + length before) where
  held_placed : (kept : Kept) (x free1 : ℕ) → StandsIn f count listed free x free1 kept → KeptIn f count listed (before ++ entries_in kept) (length before) kept x (length (before ++ entries_in kept))
  held_placed (in_word number) x free1 stands = (stands.0, stands.1, omega (arith, length-append before []))
  held_placed (in_local r) x free1 stands = (stands.0, stands.1, stands.2, omega (arith, length-append before []), stands.4, stands.5)
  held_placed (in_next entry v) x free1 stands =
      (length before, omega (arith, stands.0, next), omega (arith, stands.0, stands.1), at_place before entry [], stands.3, inl (omega arith, omega (arith, length-append before (entry ∷ []))))

  held_uses : (kept : Kept) (x free1 n : ℕ) → StandsIn f count listed free x free1 kept → length before ≤ n → n < length (before ++ entries_in kept) → UsesKept count kept x n
  held_uses (in_word number) x free1 n stands above within = absurd (omega (arith, above, within, length-append before []))
  held_uses (in_local r) x free1 n stands above within = absurd (omega (arith, above, within, length-append before []))
  held_uses (in_next entry v) x free1 n stands above within = omega (arith, stands.0, next, above, within, length-append before (entry ∷ []))

-- the key comes behind the table
is_lower : (f : Function) (count : ℕ) (listed : List ℕ) (free t free1 k free2 : ℕ) (on key : Kept) → StandsIn f count listed free t free1 on → StandsIn f count listed free1 k free2 key → IsLower on t key k
is_lower f count listed free t free1 k free2 (in_next entry v) (in_next other w) stands key_stands = λ maker. omega (arith, stands.0, stands.2, key_stands.0)
is_lower f count listed free t free1 k free2 (in_next entry v) (in_word number) stands key_stands = tt
is_lower f count listed free t free1 k free2 (in_next entry v) (in_local r) stands key_stands = tt
is_lower f count listed free t free1 k free2 (in_word number) key stands key_stands = tt
is_lower f count listed free t free1 k free2 (in_local r) key stands key_stands = tt

-- what is known behind the words of an operand
abbrev behind_held : {f : Function} {active : List Active} {listed : List ℕ} {Is : OperandValue → Type 0} {free x free1 first last : ℕ} {s : Situation} → HeldComes f active listed Is s free x free1 first last → Situation
behind_held {s = s} one = behind_words one.scope one.seen (entries_in one.kept) s

next_behind : {f : Function} {active : List Active} {listed : List ℕ} {Is : OperandValue → Type 0} {free x free1 first last : ℕ} {s : Situation} (one : HeldComes f active listed Is s free x free1 first last) → free ≡ next_free s →
    free1 ≡ next_free (behind_held one)
next_behind {f} {active} {listed} {free = free} {x = x} {free1 = free1} {s = s} one is = omega (arith, is_higher f (length active) listed free x free1 one.kept one.stands, is, length-append s.entries (entries_in one.kept))

-- an operand that is a value takes its constants with its words
value_seen : {f : Function} {active : List Active} {listed : List ℕ} {Is : OperandValue → Type 0} {free x free1 first last : ℕ} {s : Situation} (one : HeldComes f active listed Is s free x free1 first last) → IsValueKept one.kept →
    one.seen ≡ taken_behind_operand (operand_of one.kept) s.seen
value_seen {f} {active} {listed} {free = free} {x = x} {free1 = free1} one value = sym (max-zero one.seen) ∙ ap (max one.seen) (sym (counts_none x (small one.kept value one.stands))) ∙ one.taken
  where
    small : (kept : Kept) → IsValueKept kept → StandsIn f (length active) listed free x free1 kept → x < 256
    small (in_word number) value stands = absurd value
    small (in_local r) value stands = omega (arith, stands.0, stands.1, stands.2)
    small (in_next entry v) value stands = omega (arith, stands.0, stands.1)

same_value : (kept : Kept) → IsValueKept kept → operand_of kept ≡ value_operand (value_of kept)
same_value (in_word number) value = absurd value
same_value (in_local r) value = refl
same_value (in_next entry v) value = refl

abbrev value_in : OperandValue → Value
value_in (value_operand v) = v
value_in (constant_operand k) = nil_value

pub core_of : (Is : Value → Type 0) (kept : Kept) → IsValueOperand Is (operand_of kept) → Is (value_of kept)
core_of Is kept is = subst Is (sym (ap value_in (sym (same_value kept (is_value_kept Is kept is)) ∙ is.2))) is.1

held_leads : {f : Function} {g : Fn} {active : List Active} {listed : List ℕ} {Is : Counted OperandValue} {to : (free x free1 : ℕ) → Stretch} → ReadsHeld f g active listed Is to → (free x free1 : ℕ) (p q : Spot) → to free x free1 p q → Leads f free free1 p.pc q.pc
held_leads reads free x free1 p q at = record { forward = reads.forward free x free1 p q at; up = taken_up (reads.takes free x free1 p q at); begins = λ within. reads.begins free x free1 p q within at }

-- ---- a table and its key

module _ {f : Function} {g : Fn} {active : List Active} {listed : List ℕ} (is_function : IsFunction f g) (all : AreListed f g active listed) (on : Expression) (on_reads : ReadsCore f g active listed on)
    (key_at : List Active → (free x free1 : ℕ) → Stretch) (key_local : List Active → Spot → Bool) (Key : Counted OperandValue) (keys : ReadsHeld f g active listed Key (key_at active)) where
  pub part_leads : (to : Target) (free free2 : ℕ) (p q : Spot) → PartTargetAt g (related g on) key_at key_local active free to free2 p q → Leads f free free2 p.pc q.pc
  part_leads to free free2 p q at = leads_then (held_leads (operand_held is_function all on on_reads) free at.t at.free1 p at.mid at.on_at) (held_leads keys at.free1 at.k free2 at.mid q at.key_at)

  part_held : (before between behind : ℕ) (Is : TargetValue → Type 0) → ((o : Value) (k : OperandValue) → IsCore g active on before between o → Key between behind k → Is (index_target o k)) →
      (on_local key_local : Bool) (free t free1 k free2 first mid last : ℕ) (s : Situation) → free ≡ length active + length s.entries →
      (one : HeldComes f active listed (valued (IsCore g active on) before between) s free t free1 first mid) → HeldComes f active listed (Key between behind) (behind_held one) free1 k free2 mid last →
      TargetComes f g (length active) listed Is (part_target t k on_local key_local) s free2 first last
  part_held before between behind Is is on_local key_local free t free1 k free2 first mid last s next one two =
      let count = length active in
      let value = is_value_kept (IsCore g active on before between) one.kept one.is in
      let core = core_of (IsCore g active on before between) one.kept one.is in
      let first_part = s.entries ++ entries_in one.kept in
      let both = first_part ++ entries_in two.kept in
      let next1 : free1 ≡ count + length first_part = omega (arith, is_higher f count listed free t free1 one.kept one.stands, next, length-append s.entries (entries_in one.kept)) in
      record {
        d = to_part one.kept two.kept t k;
        entries = both;
        scope = two.scope;
        same = same_then one.same two.same;
        seen = two.seen;
        keys = counted k;
        reaches = reaches_then one.reaches two.reaches;
        counts = omega (arith, is_higher f count listed free1 k free2 two.kept two.stands, next1, length-append first_part (entries_in two.kept));
        grows = λ n entry there. grows_by first_part (entries_in two.kept) n entry (grows_by s.entries (entries_in one.kept) n entry there);
        is = is (value_of one.kept) (operand_of two.kept) core two.is;
        placed = record {
          at_on = refl;
          at_key = refl;
          value = value;
          lower = is_lower f count listed free t free1 k free2 one.kept two.kept one.stands two.stands;
          mid = length first_part;
          on_in = kept_grows f count listed first_part both (grows_by first_part (entries_in two.kept)) one.kept (length s.entries) t (length first_part) (held_placed f count listed s.entries free next one.kept t free1 one.stands);
          key_in = held_placed f count listed first_part free1 next1 two.kept k free2 two.stands;
        };
        uses = λ n above within.
            ⊎_elim (λ before. inl (held_uses f count listed s.entries free next one.kept t free1 n one.stands above before))
            (λ behind. inr (held_uses f count listed first_part free1 next1 two.kept k free2 n two.stands behind within))
            (before_or_behind n (length first_part));
        taken = ap (taken_behind_operand (operand_of two.kept)) (sym (value_seen one value ∙ ap (λ o. taken_behind_operand o s.seen) (same_value one.kept value))) ∙ sym two.taken;
        named = λ n. refl;
      }

  pub part_comes : (Is : Counted TargetValue) → ((before between behind : ℕ) (o : Value) (k : OperandValue) → IsCore g active on before between o → Key between behind k → Is before behind (index_target o k)) → (to : Target) (free free2 : ℕ) (p q : Spot) (s : Situation) → HasLocals active listed s → free ≡ next_free s → IsQuiet f s.scope p.pc q.pc →
      WantedBehind f s free free2 q.pc → PartTargetAt g (related g on) key_at key_local active free to free2 p q → TargetComes f g (length active) listed (Is p.functions q.functions) to s free2 p.pc q.pc
  part_comes Is is to free free2 p q s locals next quiet wanted at =
      let tables = operand_held is_function all on on_reads in
      let on_leads = held_leads tables free at.t at.free1 p at.mid at.on_at in
      let key_leads = held_leads keys at.free1 at.k free2 at.mid q at.key_at in
      let on_wanted : IsOperandWanted f s free at.t at.free1 at.mid.pc = λ is more. (leads_wanted s quiet on_leads.forward key_leads next wanted).1 (omega (arith, more)) in
      let one = tables.comes free at.t at.free1 p at.mid s locals next (quiet_before at.mid.pc key_leads.forward quiet) on_wanted at.on_at in
      let key_wanted : IsOperandWanted f (behind_held one) at.free1 at.k free2 q.pc = λ is more.
      (wanted_further f q.pc s one.scope (s.entries ++ entries_in one.kept) one.seen one.same next (next_behind one next) (omega (arith, length-append s.entries (entries_in one.kept))) wanted).1 (omega (arith, more)) in
      let two = keys.comes at.free1 at.k free2 at.mid q (behind_held one) (locals_then one.same locals) (next_behind one next) (quiet_same one.same (quiet_from at.mid.pc on_leads.forward quiet)) key_wanted at.key_at in
      subst (λ (to : Target). TargetComes f g (length active) listed (Is p.functions q.functions) to s free2 p.pc q.pc) (sym at.is)
      (part_held p.functions at.mid.functions q.functions (Is p.functions q.functions) (is p.functions at.mid.functions q.functions) (is_some (local_at (related g on).form active p)) (key_local active at.mid) free at.t at.free1 at.k free2 p.pc at.mid.pc q.pc s (omega (arith, next, locals.base)) one two)

-- ---- a name

module _ {f : Function} {g : Fn} (active : List Active) {listed : List ℕ} (is_function : IsFunction f g) where
  -- it needs no words
  stays_there : (Is : TargetValue → Type 0) (to : Target) (d : Destination) (free first last : ℕ) (s : Situation) → last ≡ first → free ≡ length active + length s.entries → Is (target_to d) → IsPlaced f g (length active) listed s.entries (length s.entries) to d (length s.entries) →
      taken_behind_target (target_to d) s.seen ≡ s.seen → ((n : ℕ) → seen_with d n ≡ named_behind (target_to d) n) → TargetComes f g (length active) listed Is to s free first last
  stays_there Is to d free first last s same next is placed taken named = record {
    d = d;
    entries = s.entries;
    scope = s.scope;
    same = same_locals s.scope;
    seen = s.seen;
    keys = 0;
    reaches = subst (λ (pc : ℕ). Reaches f first s pc s) (sym same) here;
    counts = next;
    grows = λ n entry there. there;
    is = is;
    placed = placed;
    uses = λ n above within. absurd (omega (arith, above, within));
    taken = taken ∙ sym (max-zero s.seen);
    named = λ n. named n ∙ ap (named_behind (target_to d)) (sym (max-zero n));
  }

  pub name_comes : (line : ℕ) (text : Text) → is_name text ≡ true → (w : Where) (free before behind first last : ℕ) (s : Situation) → behind ≡ before → last ≡ first → free ≡ length active + length s.entries → Means g.law active text w → IsListed f (length active) listed text w → HasGlobal g (name_target text w) →
      TargetComes f g (length active) listed (IsTarget g active (name_expression line text) before behind) (name_target text w) s free first last
  name_comes line text named (in_register x) free before behind first last s none same next means there has =
      stays_there (IsTarget g active (name_expression line text) before behind) (name_target text (in_register x)) (to_local x) free first last s same next (none, in_register x, means, refl) (refl, there.0, there.1, omega arith) refl (λ n. refl)
  name_comes line text named (in_upvalue slot) free before behind first last s none same next means there has =
      stays_there (IsTarget g active (name_expression line text) before behind) (name_target text (in_upvalue slot)) (to_upvalue slot) free first last s same next (none, in_upvalue slot, means, refl) (refl, there, omega arith) refl (λ n. refl)
  name_comes line text named in_globals free before behind first last s none same next means there has =
      let known : IsGlobalName f has.0 text = record { there = constant_there has.0 (Constant.Text text) is_function has.1.is; named = named } in
      stays_there (IsTarget g active (name_expression line text) before behind) (name_target text in_globals) (to_global has.0) free first last s same next (none, in_globals, means, (has.0, has.1, refl)) (has.1, known, omega arith) refl (λ n. refl)
