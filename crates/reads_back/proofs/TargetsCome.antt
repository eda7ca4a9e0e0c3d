-- The parts of targets come to the registers of the step, and behind them copies of locals that are targets too: so each target stands as its store says it.
use Rattle.std.proofs.Common.{Some, ◌≡◌, ◌⊎◌, ℕ, suc, ◌+◌, ◌<◌, ◌≤◌, max, true, false, List, [], ◌∷◌, ◌++◌, length, is_some, refl, sym, ap, ◌∙◌, subst, subst₂, arith, inl, inr, ⊎_elim}
use Rattle.std.proofs.Math.Nat.{max-zero}
use Rattle.std.proofs.lemmas.Option.{slice_get_within}
use Rattle.std.specs.Prelude.{replicate, slice_get}
use Rattle.lua_tree.specs.Syntax as syntax
use Rattle.lua_tree.specs.Syntax.{Expression, Expressions, no_expressions, name_expression, index_expression, field_expression}
use Rattle.opcode.specs.declared.op.Op.{Op}
use Rattle.core_expr.specs.Counting.{one_more, taken_behind, taken_behind_operand}
use Rattle.core_expr.specs.Targets.{TargetValue, global_target, index_target, taken_behind_target}
use Rattle.recover_expr.specs.Entries.{Entries, is_at, is_maker}
use Rattle.recover_expr.specs.Locals.{Scope}
use Rattle.recover_expr.specs.Situation.{Function, Situation}
use Rattle.scheme.specs.Expressions.{Target, name_target, part_target}
use Rattle.scheme.specs.Making.{head_or, in_globals, in_register, in_upvalue}
use Rattle.scheme.specs.declared.making.Active.{Active}
use Rattle.scheme.specs.declared.making.Piece.{Piece}
use Rattle.scheme_stands.specs.Expressions.{RkAt, RkTextAt, local_at}
use Rattle.scheme_stands.specs.Relation.{all_related, related}
use Rattle.scheme_stands.specs.Statements.{CopiesAt, StoreRegisterAt, TargetsAt}
use Rattle.scheme_stands.specs.Words.{Fn, Spot, WordAt, meaning}
use Rattle.reads_back.specs.Acted.{AreActTargets, AreTargets, IsActTarget, IsTarget, all_named_behind, is_part, named_behind, taken_behind_targets}
use Rattle.reads_back.specs.Cores.{IsKey, IsOperand}
use Rattle.reads_back.proofs.BehindWords.{HasLocals, SameLocals, behind_words, quiet_same, same_locals, same_then, locals_then}
use Rattle.reads_back.proofs.Comes.{ReadsCore}
use Rattle.reads_back.proofs.CopiesCome.{copies_come, copies_lead}
use Rattle.reads_back.proofs.FirstStores.{IsLowest}
use Rattle.reads_back.proofs.GlobalTargets.{HasGlobal, HaveGlobals, globals_before}
use Rattle.reads_back.proofs.HeldOperands.{Kept, entries_in, in_local, in_next, in_word, rk_held, text_held}
use Rattle.reads_back.proofs.NameReads.{AreListed}
use Rattle.reads_back.proofs.OneTarget.{TargetComes, name_comes, part_comes, part_leads, wanted_further}
use Rattle.reads_back.proofs.PartsCome.{ArePlaced, IsLower, IsPlaced, PartPlaced, UsesAny, UsesTarget, KeptIn, Leads, PartsCome, WantedBehind, agrees_all, all_used, are_there, before_or_behind, leads_nowhere, leads_then, leads_wanted, target_grows}
use Rattle.reads_back.proofs.Reaches.{Reaches, here, reaches_then}
use Rattle.reads_back.proofs.StoredTargets.{AreThere, Destination, StoreWordAt, seen_with, seen_with_all, target_to, targets_to, to_global, to_local, to_part, to_upvalue, used_by_all}
use Rattle.reads_back.proofs.Taking.{max_swap, operand_taken_later, taken_later}
use Rattle.reads_back.proofs.TargetsStand.{copies_keep}
use Rattle.reads_back.proofs.ValueWords.{next_free}
use Rattle.reads_back.proofs.WordsRead.{IsFunction, IsQuiet, quiet_before, quiet_from}

-- the parts of a target are read
abbrev pub ReadsTarget : Function → Fn → List Active → (listed : List ℕ) → Expression → Type 0
ReadsTarget f g active listed (index_expression line on key) = ReadsCore f g active listed on × ReadsCore f g active listed key
ReadsTarget f g active listed (field_expression line on text) = ReadsCore f g active listed on
ReadsTarget f g active listed target = Unit {0}

abbrev pub ReadsTargets : Function → Fn → List Active → (listed : List ℕ) → Expressions → Type 0
ReadsTargets f g active listed no_expressions = Unit {0}
ReadsTargets f g active listed (syntax.expression e es) = ReadsTarget f g active listed e × ReadsTargets f g active listed es

-- wherever a register is stored to the place of a target, its word says so
abbrev pub IsSaid : Fn → Target → Destination → Type 0
IsSaid g place d = (r : ℕ) (p q : Spot) → StoreRegisterAt g place r p q → StoreWordAt g d r p q

abbrev pub AreSaid : Fn → List Target → List Destination → Type 0
AreSaid g [] [] = Unit {0}
AreSaid g (place ∷ places) (d ∷ ds) = IsSaid g place d × AreSaid g places ds
AreSaid g places ds = ⊥

-- what the place of a target says of the target: a local, another name or a part of a table
abbrev pub Fits : Target → Destination → Type 0
Fits (name_target text (in_register x)) d = d ≡ to_local x
Fits (name_target text w) d = (is_part (Some (target_to d)) ≡ false) × ((r : ℕ) → d ≡ to_local r → ⊥)
Fits (part_target on key on_local key_local) d = is_part (Some (target_to d)) ≡ true

abbrev pub AllFit : List Target → List Destination → Type 0
AllFit [] [] = Unit {0}
AllFit (place ∷ places) (d ∷ ds) = Fits place d × AllFit places ds
AllFit places ds = ⊥

-- Words come to these parts, in which the targets stand. Keys that are constants are named by the words of the stores.
pub record TargetsCome (f : Function) (g : Fn) (active : List Active) (listed : List ℕ) (targets : Expressions) (made_before made_behind : ℕ) (places : List Target) (s : Situation) (free : ℕ) (first last : ℕ) : Type 0 where
  pub ds : List Destination
  pub parts : Entries
  pub behind : Entries
  pub scope : Scope
  pub same : SameLocals s.scope scope
  pub seen : ℕ
  pub keys : ℕ
  pub reaches : Reaches f first s last (behind_words scope seen parts s)
  pub counts : free ≡ length active + length parts
  pub are : AreTargets g active targets made_before made_behind (targets_to ds)
  pub there : AreThere f (length active) listed parts ds behind
  pub used : used_by_all (length active) ds (replicate (length parts) false) ≡ replicate (length parts) true
  pub said : AreSaid g places ds
  pub fit : AllFit places ds
  pub lowest : (d : Destination) → ds ≡ d ∷ [] → IsLowest (length active) parts d
  pub taken : taken_behind_targets (targets_to ds) s.seen ≡ max seen keys
  pub named : (n : ℕ) → seen_with_all ds n ≡ all_named_behind (targets_to ds) (max n keys)

-- ---- any target

module _ {f : Function} {g : Fn} {active : List Active} {listed : List ℕ} (is_function : IsFunction f g) (all : AreListed f g active listed) where
  target_leads : (e : Expression) → IsActTarget e → ReadsTarget f g active listed e → (to : Target) (free free1 : ℕ) (p q : Spot) → (related g e).target active free to free1 p q → Leads f free free1 p.pc q.pc
  target_leads (name_expression line text) is reads to free free1 p q at = leads_nowhere at.at_free at.passed.pc
  target_leads (index_expression line on key) is reads to free free1 p q at =
      part_leads is_function all on reads.0 (λ active. RkAt g active (related g key)) (λ active p. is_some (local_at (related g key).form active p)) (IsOperand g active key) (rk_held is_function all key reads.1) to free free1 p q at
  target_leads (field_expression line on text) is reads to free free1 p q at =
      part_leads is_function all on reads (λ active. RkTextAt g text) (λ active p. false) (IsKey g text) (text_held is_function text) to free free1 p q at
  target_leads e is reads to free free1 p q at = absurd is

  target_comes : (e : Expression) → IsActTarget e → ReadsTarget f g active listed e → (to : Target) (free free1 : ℕ) (p q : Spot) (s : Situation) → HasLocals active listed s → free ≡ next_free s → IsQuiet f s.scope p.pc q.pc → WantedBehind f s free free1 q.pc → HasGlobal g to →
      (related g e).target active free to free1 p q → TargetComes f g (length active) listed (IsTarget g active e p.functions q.functions) to s free1 p.pc q.pc
  target_comes (name_expression line text) is reads to free free1 p q s locals next quiet wanted has at =
      let w = meaning active p in
      subst (λ (to : Target). TargetComes f g (length active) listed (IsTarget g active (name_expression line text) p.functions q.functions) to s free1 p.pc q.pc) (sym at.is)
      (name_comes active is_function line text is w free1 p.functions q.functions p.pc q.pc s at.passed.functions at.passed.pc (omega (arith, at.at_free, next, locals.base)) at.means (all.listed_as text w at.means) (subst (HasGlobal g) at.is has))
  target_comes (index_expression line on key) is reads to free free1 p q s locals next quiet wanted has at =
      part_comes is_function all on reads.0 (λ active. RkAt g active (related g key)) (λ active p. is_some (local_at (related g key).form active p)) (IsOperand g active key) (rk_held is_function all key reads.1)
      (IsTarget g active (index_expression line on key)) (λ before between behind o k is_on is_key. (between, is_on, is_key)) to free free1 p q s locals next quiet wanted at
  target_comes (field_expression line on text) is reads to free free1 p q s locals next quiet wanted has at =
      part_comes is_function all on reads (λ active. RkTextAt g text) (λ active p. false) (IsKey g text) (text_held is_function text)
      (IsTarget g active (field_expression line on text)) (λ before between behind o k is_on is_key. (between, is_on, is_key)) to free free1 p q s locals next quiet wanted at
  target_comes e is reads to free free1 p q s locals next quiet wanted has at = absurd is

  pub targets_lead : (targets : Expressions) → AreActTargets targets → ReadsTargets f g active listed targets → (to : List Target) (free free1 : ℕ) (p q : Spot) → TargetsAt (all_related g targets) active to free free1 p q → Leads f free free1 p.pc q.pc
  targets_lead no_expressions are reads to free free1 p q at = leads_nowhere at.at_free at.same.pc
  targets_lead (syntax.expression e es) are reads to free free1 p q at =
      leads_then (target_leads e are.0 reads.0 at.target free at.free1 p at.mid at.target_at) (targets_lead es are.1 reads.1 at.others at.free1 free1 at.mid q at.others_at)

-- ---- what is taken before counts the same behind

target_taken_later : (t : TargetValue) (n m : ℕ) → taken_behind_target t (max n m) ≡ max (taken_behind_target t n) m
target_taken_later (index_target on key) n m = ap (taken_behind_operand key) (taken_later on n m) ∙ operand_taken_later key (taken_behind on n) m
target_taken_later t n m = refl

targets_taken_later : (ts : List TargetValue) (n m : ℕ) → taken_behind_targets ts (max n m) ≡ max (taken_behind_targets ts n) m
targets_taken_later [] n m = refl
targets_taken_later (t ∷ ts) n m = ap (taken_behind_targets ts) (target_taken_later t n m) ∙ targets_taken_later ts (taken_behind_target t n) m

named_later : (t : TargetValue) (n m : ℕ) → named_behind t (max n m) ≡ max (named_behind t n) m
named_later (global_target k) n m = max_swap n m (one_more k)
named_later t n m = refl

all_named_later : (ts : List TargetValue) (n m : ℕ) → all_named_behind ts (max n m) ≡ max (all_named_behind ts n) m
all_named_later [] n m = refl
all_named_later (t ∷ ts) n m = ap (named_behind t) (all_named_later ts n m) ∙ named_later t (all_named_behind ts n) m

max_more : (n m k : ℕ) → max (max n m) k ≡ max n (max m k)
max_more n m k = omega arith

-- ---- all targets

module _ {f : Function} {g : Fn} {active : List Active} {listed : List ℕ} (is_function : IsFunction f g) (all : AreListed f g active listed) where
  -- one before others
  first_comes : (e : Expression) (es : Expressions) (before between behind : ℕ) (to : Target) (others : List Target) (free free1 first mid last : ℕ) (s : Situation)
      (one : TargetComes f g (length active) listed (IsTarget g active e before between) to s free first mid) →
      PartsCome f g (length active) listed (AreTargets g active es between behind) others (record s { scope = one.scope; entries = one.entries; seen = one.seen }) free1 mid last →
      PartsCome f g (length active) listed (AreTargets g active (syntax.expression e es) before behind) (to ∷ others) s free1 first last
  first_comes e es before between behind to others free free1 first mid last s one rest = record {
    ds = one.d ∷ rest.ds;
    entries = rest.entries;
    scope = rest.scope;
    same = same_then one.same rest.same;
    seen = rest.seen;
    keys = max rest.keys one.keys;
    reaches = reaches_then one.reaches rest.reaches;
    counts = rest.counts;
    grows = λ n entry there. rest.grows n entry (one.grows n entry there);
    are = (between, one.is, rest.are);
    placed = (length one.entries, target_grows f (length active) listed one.entries rest.entries rest.grows g (length s.entries) (length one.entries) to one.d one.placed, rest.placed);
    uses = λ n above within. ⊎_elim (λ before. inl (one.uses n above before)) (λ behind. inr (rest.uses n behind within)) (before_or_behind n (length one.entries));
    taken =
        let ts = targets_to rest.ds in
        ap (taken_behind_targets ts) one.taken ∙ targets_taken_later ts one.seen one.keys ∙ ap (λ n. max n one.keys) rest.taken ∙ max_more rest.seen rest.keys one.keys;
    named = λ n.
        let ts = targets_to rest.ds in
        ap (seen_with one.d) (rest.named n)
        ∙ one.named (all_named_behind ts (max n rest.keys))
        ∙ ap (named_behind (target_to one.d)) (sym (all_named_later ts (max n rest.keys) one.keys))
        ∙ ap (λ m. named_behind (target_to one.d) (all_named_behind ts m)) (max_more n rest.keys one.keys);
  }

  parts_come : (targets : Expressions) → AreActTargets targets → ReadsTargets f g active listed targets → (to : List Target) (free free1 : ℕ) (p q : Spot) (s : Situation) → HasLocals active listed s → free ≡ next_free s → IsQuiet f s.scope p.pc q.pc → WantedBehind f s free free1 q.pc →
      HaveGlobals g to → TargetsAt (all_related g targets) active to free free1 p q → PartsCome f g (length active) listed (AreTargets g active targets p.functions q.functions) to s free1 p.pc q.pc
  parts_come no_expressions are reads to free free1 p q s locals next quiet wanted have at = record {
    ds = [];
    entries = s.entries;
    scope = s.scope;
    same = same_locals s.scope;
    seen = s.seen;
    keys = 0;
    reaches = subst (λ (pc : ℕ). Reaches f p.pc s pc s) (sym at.same.pc) here;
    counts = omega (arith, at.at_free, next, locals.base);
    grows = λ n entry there. there;
    are = at.same.functions;
    placed = subst (λ (to : List Target). ArePlaced f g (length active) listed s.entries (length s.entries) to []) (sym at.is) tt;
    uses = λ n above within. absurd (omega (arith, above, within));
    taken = sym (max-zero s.seen);
    named = λ n. sym (max-zero n);
  }
  parts_come (syntax.expression e es) are reads to free free1 p q s locals next quiet wanted have at =
      let has = subst (HaveGlobals g) at.is have in
      let to_mid = target_leads is_function all e are.0 reads.0 at.target free at.free1 p at.mid at.target_at in
      let on = targets_lead is_function all es are.1 reads.1 at.others at.free1 free1 at.mid q at.others_at in
      let wanted_mid = leads_wanted s quiet to_mid.forward on next wanted in
      let one = target_comes is_function all e are.0 reads.0 at.target free at.free1 p at.mid s locals next (quiet_before at.mid.pc on.forward quiet) wanted_mid has.0 at.target_at in
      let behind : HasLocals active listed (record s { scope = one.scope; entries = one.entries; seen = one.seen }) = locals_then one.same locals in
      let rest = parts_come es are.1 reads.1 at.others at.free1 free1 at.mid q (record s { scope = one.scope; entries = one.entries; seen = one.seen }) behind (omega (arith, one.counts, locals.base)) (quiet_same one.same (quiet_from at.mid.pc to_mid.forward quiet))
      (wanted_further f q.pc s one.scope one.entries one.seen one.same next (omega (arith, one.counts, locals.base)) (omega (arith, one.counts, next, locals.base, to_mid.up)) wanted) has.1 at.others_at in
      subst (λ (to : List Target). PartsCome f g (length active) listed (AreTargets g active (syntax.expression e es) p.functions q.functions) to s free1 p.pc q.pc) (sym at.is)
      (first_comes e es p.functions at.mid.functions q.functions at.target at.others at.free1 free1 p.pc at.mid.pc q.pc s one rest)

-- ---- the lowest register

alone_lowest : (size n : ℕ) → n < size → ((m : ℕ) → m < size → m ≡ n) → (n ≡ 0) × (size ≤ 1)
alone_lowest size n within only =
    let lowest : 0 ≡ n = only 0 (omega (arith, within)) in
    (sym lowest, ⊎_elim (λ more. absurd (omega (arith, lowest, only 1 more))) (λ low. low) (before_or_behind 1 size))

two_lowest : (size n k : ℕ) → n < size → n < k → ((m : ℕ) → m < size → (m ≡ n) ⊎ (m ≡ k)) → (n ≡ 0) × (size ≤ 2)
two_lowest size n k within lower both =
    let lowest : n ≡ 0 = ⊎_elim (λ is. sym is) (λ is. absurd (omega (arith, is, lower))) (both 0 (omega (arith, within))) in
    let above : (m : ℕ) → 0 < m → m < size → m ≡ k = λ m some below. ⊎_elim (λ is. absurd (omega (arith, is, some, lowest))) (λ is. is) (both m below) in
    (lowest, ⊎_elim (λ more. absurd (omega (arith, above 1 (omega arith) (omega (arith, more)), above 2 (omega arith) more))) (λ low. low) (before_or_behind 2 size))

-- ---- what the words of their stores say

module _ (f : Function) (g : Fn) (count : ℕ) (listed : List ℕ) (entries : Entries) where
  is_said : (low high : ℕ) (to : Target) (d : Destination) → IsPlaced f g count listed entries low to d high → IsSaid g to d
  is_said low high (name_target text (in_register x)) (to_local y) placed r p q at = subst (λ (x : ℕ). WordAt g (Piece.Abc Op.Move x r 0) p q) (sym placed.0) at
  is_said low high (name_target text (in_upvalue slot)) (to_upvalue u) placed r p q at = subst (λ (slot : ℕ). WordAt g (Piece.Abc Op.SetUpval r slot 0) p q) (sym placed.0) at
  is_said low high (name_target text in_globals) (to_global number) placed r p q at = subst (λ (number : ℕ). WordAt g (Piece.Abx Op.SetGlobal r number) p q) (sym at.first ∙ placed.0.first) at.word
  is_said low high (part_target t k on_local key_local) (to_part on key x y) placed r p q at = subst₂ (λ (x y : ℕ). WordAt g (Piece.Abc Op.SetTable x y r) p q) (sym placed.at_on) (sym placed.at_key) at
  is_said low high to d placed r p q at = absurd placed

  are_said : (low : ℕ) (places : List Target) (ds : List Destination) → ArePlaced f g count listed entries low places ds → AreSaid g places ds
  are_said low [] [] placed = tt
  are_said low (to ∷ places) (d ∷ ds) placed = (is_said low placed.0 to d placed.1, are_said placed.0 places ds placed.2)
  are_said low [] (d ∷ ds) placed = absurd placed
  are_said low (to ∷ places) [] placed = absurd placed

  fits : (low high : ℕ) (to : Target) (d : Destination) → IsPlaced f g count listed entries low to d high → Fits to d
  fits low high (name_target text (in_register x)) (to_local y) placed = ap to_local placed.0
  fits low high (name_target text (in_upvalue slot)) (to_upvalue u) placed = (refl, λ r is. cc)
  fits low high (name_target text in_globals) (to_global number) placed = (refl, λ r is. cc)
  fits low high (part_target t k on_local key_local) (to_part on key x y) placed = refl
  fits low high to d placed = absurd placed

  all_fit : (low : ℕ) (places : List Target) (ds : List Destination) → ArePlaced f g count listed entries low places ds → AllFit places ds
  all_fit low [] [] placed = tt
  all_fit low (to ∷ places) (d ∷ ds) placed = (fits low placed.0 to d placed.1, all_fit placed.0 places ds placed.2)
  all_fit low [] (d ∷ ds) placed = absurd placed
  all_fit low (to ∷ places) [] placed = absurd placed

  -- the only target uses all registers, and its table is lower than its key
  part_lowest : (t k x y low high : ℕ) (on key : Kept) → PartPlaced f count listed entries low t k on key x y high → ((n : ℕ) → n < length entries → UsesTarget count (to_part on key x y) n) → IsLowest count entries (to_part on key x y)
  part_lowest t k x y low high (in_word number) key placed uses = tt
  part_lowest t k x y low high (in_local r) key placed uses = tt
  part_lowest t k x y low high (in_next entry v) key placed uses = λ n at maker.
      let here : placed.on_in.0 ≡ n = omega (arith, at, placed.on_in.1) in
      let there : slice_get entries n ≡ Some entry = ap (slice_get entries) (sym here) ∙ placed.on_in.3 in
      by n (slice_get_within entries n entry there) key at (λ lower. lower (ap (is_at is_maker) (sym there) ∙ maker)) placed.key_in uses placed.lower
    where
      by : (n : ℕ) → n < length entries → (key : Kept) → x ≡ count + n → ((is_maker entry ≡ true → x < y) → x < y) → KeptIn f count listed entries placed.mid key y high → ((n : ℕ) → n < length entries → UsesTarget count (to_part (in_next entry v) key x y) n) → IsLower (in_next entry v) x key y →
          (n ≡ 0) × (length entries ≤ suc (length (entries_in key)))
      by n within (in_word number) at higher there uses lower = alone_lowest (length entries) n within (λ m below. ⊎_elim (λ is. omega (arith, is, at)) (λ no. absurd no) (uses m below))
      by n within (in_local r) at higher there uses lower = alone_lowest (length entries) n within (λ m below. ⊎_elim (λ is. omega (arith, is, at)) (λ no. absurd no) (uses m below))
      by n within (in_next other w) at higher there uses lower =
          two_lowest (length entries) n there.0 within (omega (arith, higher lower, at, there.1)) (λ m below. ⊎_elim (λ is. inl (omega (arith, is, at))) (λ is. inr (omega (arith, is, there.1))) (uses m below))

  target_lowest : (low high : ℕ) (to : Target) (d : Destination) → IsPlaced f g count listed entries low to d high → ((n : ℕ) → n < length entries → UsesTarget count d n) → IsLowest count entries d
  target_lowest low high (part_target t k on_local key_local) (to_part on key x y) placed uses = part_lowest t k x y low high on key placed uses
  target_lowest low high to (to_local r) placed uses = tt
  target_lowest low high to (to_upvalue u) placed uses = tt
  target_lowest low high to (to_global number) placed uses = tt
  target_lowest low high (name_target text (in_register r)) (to_part on key x y) placed uses = absurd placed
  target_lowest low high (name_target text (in_upvalue u)) (to_part on key x y) placed uses = absurd placed
  target_lowest low high (name_target text in_globals) (to_part on key x y) placed uses = absurd placed

  only_lowest : (low : ℕ) (places : List Target) (ds : List Destination) → ArePlaced f g count listed entries low places ds → ((n : ℕ) → n < length entries → UsesAny count ds n) → (d : Destination) → ds ≡ d ∷ [] → IsLowest count entries d
  only_lowest low (to ∷ places) (one ∷ []) placed uses d is =
      let same : one ≡ d = ap (head_or one) is in
      subst (IsLowest count entries) same (target_lowest low placed.0 to one placed.1 (λ n below. ⊎_elim (λ used. used) (λ no. absurd no) (uses n below)))
  only_lowest low (to ∷ places) (one ∷ other ∷ ds) placed uses d is = absurd (omega (arith, ap (λ (ds : List Destination). length ds) is))
  only_lowest low (to ∷ places) [] placed uses d is = absurd placed
  only_lowest low [] [] placed uses d is = absurd (omega (arith, ap (λ (ds : List Destination). length ds) is))
  only_lowest low [] (one ∷ ds) placed uses d is = absurd placed

module _ {f : Function} {g : Fn} {active : List Active} {listed : List ℕ} (is_function : IsFunction f g) (all : AreListed f g active listed) (targets : Expressions) (are : AreActTargets targets) (reads : ReadsTargets f g active listed targets) where
  -- the lowest register of the step is wanted behind them, where they take any
  pub targets_come : (to places : List Target) (free1 free2 : ℕ) (p mid last : Spot) (s : Situation) → HasLocals active listed s → s.entries ≡ [] → IsQuiet f s.scope p.pc last.pc → WantedBehind f s (length active) free2 last.pc → HaveGlobals g places →
      TargetsAt (all_related g targets) active to (length active) free1 p mid → CopiesAt g (length active) to places free1 free2 mid last → TargetsCome f g active listed targets p.functions last.functions places s free2 p.pc last.pc
  targets_come to places free1 free2 p mid last s locals empty quiet wanted have targets_at copies_at =
      let count = length active in
      let none : length s.entries ≡ 0 = ap length empty in
      let to_mid = targets_lead is_function all targets are reads to count free1 p mid targets_at in
      let on = copies_lead is_function count to places free1 free2 mid last copies_at in
      let next : count ≡ next_free s = omega (arith, locals.base, none) in
      let wanted_mid = leads_wanted s quiet to_mid.forward on next wanted in
      let parts = parts_come is_function all targets are reads to count free1 p mid s locals next (quiet_before mid.pc on.forward quiet) wanted_mid (globals_before g count to places free1 free2 mid last copies_at have) targets_at in
      let come = copies_come is_function all.few (AreTargets g active targets p.functions mid.functions) s locals p.pc count to places free1 free2 mid last (omega arith) to_mid.up quiet parts copies_at in
      let there = are_there f count listed come.entries g come.entries (length s.entries) places come.ds come.placed (agrees_all come.entries (length s.entries)) in
      record {
        ds = come.ds;
        parts = come.entries;
        behind = there.behind;
        scope = come.scope;
        same = come.same;
        seen = come.seen;
        keys = come.keys;
        reaches = subst (λ (before : Entries). Reaches f p.pc s last.pc (record s { scope = come.scope; entries = before ++ come.entries; seen = come.seen })) (sym empty) come.reaches;
        counts = come.counts;
        are = subst (λ (made : ℕ). AreTargets g active targets p.functions made (targets_to come.ds)) (sym (copies_keep g count to places free1 free2 mid last copies_at)) come.are;
        there = there.there;
        used = all_used count come.ds (length come.entries) (λ n below. come.uses n (omega (arith, none)) below);
        said = are_said f g count listed come.entries (length s.entries) places come.ds come.placed;
        fit = all_fit f g count listed come.entries (length s.entries) places come.ds come.placed;
        lowest = only_lowest f g count listed come.entries (length s.entries) places come.ds come.placed (λ n below. come.uses n (omega (arith, none)) below);
        taken = come.taken;
        named = come.named;
      }
