-- A call enters a function of the source: its frame, its parameters, and what its block gives.
use Rattle.std.proofs.Common.{◌≡◌, ◌≤◌, ◌<◌, ℕ, zero, suc, ◌+◌, ◌-◌, Bool, true, false, inl, inr, List, [], ◌∷◌, ◌++◌, map, length, Some, None, refl, sym, ap, ◌∙◌, subst, arith, nat_le, length-append}
use Rattle.std.specs.Prelude.{slice_get, drop, take, if◌then◌else◌}
use Rattle.std.proofs.lemmas.Bool.Decides.{nat_tests}
use Rattle.opcode.specs.declared.op.Op.{Op}
use Rattle.proto.specs.Chunk.{own}
use Rattle.lua_num.specs.Bytes.{Text}
use Rattle.scheme.specs.Making.{Ahead}
use Rattle.scheme.specs.Functions.{vararg_flags}
use Rattle.scheme.specs.declared.making.Active.{Active}
use Rattle.scheme.specs.declared.making.Local.{Local}
use Rattle.scheme.specs.declared.making.Piece.{Piece}
use Rattle.lua_model.specs.Datum.{Datum, nil, adjusted, extra_of}
use Rattle.lua_model.specs.Store.{Outside}
use Rattle.lua_model.specs.Operators.{depth_limit, callee}
use Rattle.source_meaning.specs.State.{State as SourceState, Closure as Function, Place as Scope, Flow, goes, breaks, returns, tail_calls, declared, inside}
use Rattle.source_meaning.specs.Tasks.{block, call}
use Rattle.source_meaning.specs.Programs.{done, ask}
use Rattle.source_meaning.specs.Meaning.{results_of, tail_depth}
use Rattle.rules.specs.Words.{is_vararg, has_arg_table}
use Rattle.rules.specs.State.{State, Landing, Goes as Going_on, Closure, check, set, with_store}
use Rattle.rules.specs.Calls as rules
use Rattle.rules.specs.Calls.{begin}
use Rattle.rules.specs.Run.{Going, step, after}
use Rattle.rules.proofs.Lists.{length-adjusted}
use Rattle.scheme_stands.specs.Words.{Spot, WordAt}
use Rattle.scheme_stands.specs.Functions.{Declared, Activated}
use Rattle.scheme_stands.specs.Relation.{StatementsAt}
use Rattle.agrees.proofs.Tasks.{Simulates, scope}
use Rattle.agrees.proofs.Posts.{Backs, fail_of, Around, FlowPost}
use Rattle.agrees.proofs.Accounts.{Place, Now, Soon, Self, Asks, Goes, prefix_self, goes_done, goes_soon, goes_paid, goes_ask, goes_last, goes_from}
use Rattle.agrees.proofs.Sizes.{size_b, call_cost}
use Rattle.agrees.proofs.Picture.{code_of, Setup, cell_at, At, of_cell, Act, Waiter, Ghost, Site, frame_of, at, scope_of, ActFine, ClosureFine, Fine, Ok, SlotAt}
use Rattle.agrees.proofs.LocalsBegin.{Opened, declares_all, put, grown_self}
use Rattle.agrees.proofs.CallLeaves.{backs_at}
use Rattle.agrees.proofs.Words.{word_abc}

-- a new frame's act
abbrev pub entry_act : Closure → List ℕ → List Text → Function → List Datum → Landing → ℕ → Act
entry_act mc us names f args ld p = record { chunk = mc.function; machine_cells = mc.cells; source_cells = us; outer = f.sees; names = names; extra = extra_of f.vararg (length f.params) args; landing = ld; protections = p; own = []; active = []; slots = [] }

pub fine_push : (z : Setup) (n : ℕ) (fs : List Function) (g : Ghost) (h : Waiter) (gs : List Waiter) → h.act.slots ≡ [] → ActFine g.owner h.act → length h.act.slots + length h.high ≡ (own h.act.chunk).registers → length gs ≤ depth_limit → Fine z n fs g gs → Fine z n fs g (h ∷ gs)
fine_push z n fs g h gs e fa room shallow fine = record {
  loc = loc1;
  back = λ c f r b l q. inr (fine.back c f r b l q);
  owned = fine.owned;
  marked = fine.marked;
  once = fine.once;
  acts = (fa, room, fine.acts);
  closures = fine.closures;
  deep = omega (arith, shallow);
}
  where
    loc1 : (f r c : ℕ) (b : Bool) → SlotAt f r c b (h ∷ gs) → (c < n) × (g.home c ≡ At f r b)
    loc1 f r c b (inl q) = let w : None ≡ Some (of_cell c) = sym (ap (λ l. slice_get l r) e) ∙ q.slot in cc
    loc1 f r c b (inr q) = fine.loc f r c b q

pub activated_count : (locals : List Local) (active after : List Active) → Activated locals active after → length after ≡ length active + length locals
activated_count [] active after t = ap length t ∙ (let q : length active ≡ length active + 0 = omega arith in q)
activated_count (one ∷ locals) active after t =
    activated_count locals (active ++ t.0 ∷ []) after t.2
    ∙ ap (λ k. k + length locals) (length-append active (t.0 ∷ [])) ∙ (let q : (length active + 1) + length locals ≡ length active + suc (length locals) = omega arith in q)

pub activated_length : (names : List Text) (locals : List Local) (before behind : Ahead) (active after : List Active) → Declared names before locals behind → Activated locals active after → length after ≡ length active + length names
activated_length [] locals before behind active after d t = let e : after ≡ active = subst (λ l. Activated l active after) d.0 t in ap length e ∙ (let q : length active ≡ length active + 0 = omega arith in q)
activated_length (name ∷ names) locals before behind active after d t =
    let t1 = subst (λ l. Activated l active after) d.1 t in
    activated_length names d.0 (record before { captures = drop 1 before.captures; declarations = suc before.declarations }) behind (active ++ t1.0 ∷ []) after d.2 t1.2
    ∙ ap (λ k. k + length names) (length-append active (t1.0 ∷ [])) ∙ (let q : (length active + 1) + length names ≡ length active + suc (length names) = omega arith in q)

-- the registers of a new frame: the parameters, and nils
adjusted_front : (n k : ℕ) (args : List Datum) → adjusted (n + k) (take n args) ≡ adjusted n args ++ adjusted k []
adjusted_front zero k args = ap (λ i. adjusted i []) (let q : 0 + k ≡ k = omega arith in q)
adjusted_front (suc n) k [] = ap (λ i. adjusted i []) (let q : suc n + k ≡ suc (n + k) = omega arith in q) ∙ ap (λ r. nil ∷ r) (ap (adjusted (n + k)) (sym (none n)) ∙ adjusted_front n k [])
  where
    none : (n : ℕ) → take {A = Datum} n [] ≡ []
    none zero = refl
    none (suc n) = refl
adjusted_front (suc n) k (v ∷ args) = ap (λ i. adjusted i (v ∷ take n args)) (let q : suc n + k ≡ suc (n + k) = omega arith in q) ∙ ap (λ r. v ∷ r) (adjusted_front n k args)

no_arg_table : (b : Bool) → has_arg_table (vararg_flags b) ≡ false
no_arg_table true = refl
no_arg_table false = refl

is_vararg_flags : (b : Bool) → is_vararg (vararg_flags b) ≡ b
is_vararg_flags true = refl
is_vararg_flags false = refl

begins : (m : State) → nat_le (own m.top.function).params (length m.top.registers) ≡ true → has_arg_table (own m.top.function).flags ≡ false → begin m ≡ Going_on m
begins m e h =
    ap (λ b. check b (if has_arg_table (own m.top.function).flags then set (with_store m (rules.with_arg_table m.store m.top.extra)) (own m.top.function).params (Datum.table (length m.store.tables)) else Going_on m)) e
    ∙ ap (λ b. if b then set (with_store m (rules.with_arg_table m.store m.top.extra)) (own m.top.function).params (Datum.table (length m.store.tables)) else Going_on m) h

-- the state behind the call of a function of the source
pub record Entered (z : Setup) (s : SourceState) (o : Outside) (g : Ghost) (gs : List Waiter) (mc : Closure) (f : Function) (args : List Datum) (ld : Landing) (p : ℕ) : Type 0 where
  pub g1 : Ghost
  pub y : Site
  pub below : y.below ≡ gs
  pub landing : y.a.landing ≡ ld
  pub protections : y.a.protections ≡ p
  pub sees : scope y ≡ inside f (length gs) args (declared f.params args [] s).0
  pub ok : Ok z (declared f.params args [] s).1 g1 y
  pub is : begin (record { top = rules.frame_of mc args ld p; below = map (frame_of s.cells) gs; cells = map (cell_at s.cells g.home) g.owner; closures = g.closures; store = s.store; outside = o }) ≡ Going_on (at (declared f.params args [] s).1 o g1 y 0)
  pub inner : List Active
  pub first : Spot
  pub mid : Spot
  pub last : Spot
  pub first_pc : first.pc ≡ 0
  pub body_at : StatementsAt (code_of y.a) None f.block y.a.active inner first mid
  pub end : WordAt (code_of y.a) (Piece.Abc Op.Return 0 1 0) mid last

module _ (z : Setup) where
  pub entered : (s : SourceState) (o : Outside) (g : Ghost) (gs : List Waiter) (mc : Closure) (f : Function) (args : List Datum) (ld : Landing) (p : ℕ) → length gs ≤ depth_limit → Fine z (length s.cells) s.closures g gs → ClosureFine z.bound g.owner mc f → Entered z s o g gs mc f args ld p
  entered s o g gs mc f args ld p shallow waiting c = record {
    g1 = w.g1;
    y = put w.a gs nils;
    below = refl;
    landing = ap (λ a. a.landing) w.grown.is;
    protections = ap (λ a. a.protections) w.grown.is;
    sees = ap (λ a. scope_of a gs) w.grown.is ∙ ap (λ e. inside f (length gs) args e) (sym (ap (λ a. a.own) w.grown.is) ∙ w.names);
    ok = w.ok;
    is = begins _ le (ap has_arg_table c.stands.flags ∙ no_arg_table f.vararg) ∙ ap Going_on (entry ∙ w.seen o 0 None);
    inner = c.stands.inner;
    first = c.stands.first;
    mid = c.stands.mid;
    last = c.stands.last;
    first_pc = c.stands.begins;
    body_at = subst (λ k. StatementsAt k None f.block w.a.active c.stands.inner c.stands.first c.stands.mid) (sym (ap (λ a. code_of a) w.grown.is)) (subst (λ l. StatementsAt (code_of a0) None f.block l c.stands.inner c.stands.first c.stands.mid) (sym w.actives) c.stands.body_at);
    end = subst (λ k. WordAt k (Piece.Abc Op.Return 0 1 0) c.stands.mid c.stands.last) (sym (ap (λ a. code_of a) w.grown.is)) c.stands.end;
  }
    where
      a0 : Act
      a0 = entry_act mc c.source_cells c.names f args ld p

      count : ℕ
      count = (own mc.function).registers

      many : length f.params ≤ (own mc.function).registers
      many = let r = c.stands.room in let e = activated_length f.params c.stands.locals c.before c.stands.first.ahead [] c.stands.active c.stands.declared c.stands.activated in omega (arith, r, e)

      nils : List Datum
      nils = adjusted ((own mc.function).registers - length f.params) []

      high0 : adjusted (own mc.function).registers (take (own mc.function).params args) ≡ adjusted (length f.params) args ++ adjusted ((own mc.function).registers - length f.params) []
      high0 =
          ap (λ n. adjusted (own mc.function).registers (take n args)) c.stands.param_count
          ∙ ap (λ n. adjusted n (take (length f.params) args)) (let q : (own mc.function).registers ≡ length f.params + ((own mc.function).registers - length f.params) = let m = many in omega (arith, m) in q)
          ∙ adjusted_front (length f.params) ((own mc.function).registers - length f.params) args

      ok0 : Ok z s g (put (entry_act mc c.source_cells c.names f args ld p) gs (adjusted (length f.params) args ++ adjusted ((own mc.function).registers - length f.params) []))
      ok0 = fine_push z (length s.cells) s.closures g _ gs refl (record { carry = c.carry; known = c.known; owned = tt; as_many = refl; apart = λ i r c1 u q. cc; limits = c.stands.limits })
          (let m = many in omega (arith, m, length-append (adjusted (length f.params) args) (adjusted ((own mc.function).registers - length f.params) []), length-adjusted (length f.params) args, length-adjusted ((own mc.function).registers - length f.params) [])) shallow waiting

      w : Opened z s g (put (entry_act mc c.source_cells c.names f args ld p) gs (adjusted (length f.params) args ++ adjusted ((own mc.function).registers - length f.params) [])) (declared f.params args [] s).0 (declared f.params args [] s).1 c.stands.active (adjusted ((own mc.function).registers - length f.params) [])
      w = declares_all z f.params c.stands.locals c.before c.stands.first.ahead c.stands.active args (adjusted ((own mc.function).registers - length f.params) []) s g (entry_act mc c.source_cells c.names f args ld p) gs c.stands.declared c.stands.activated ok0

      le : nat_le (own mc.function).params (length (adjusted (own mc.function).registers (take (own mc.function).params args))) ≡ true
      le = let m = many in let e = c.stands.param_count in let l = length-adjusted (own mc.function).registers (take (own mc.function).params args) in grind (arith, nat_tests)

      entry_by : List Datum → List Datum → State
      entry_by regs extra = record { top = record { function = mc.function; cells = mc.cells; pc = 0; registers = regs; extra = extra; results = None; landing = ld; protections = p }; below = map (frame_of s.cells) gs; cells = map (cell_at s.cells g.home) g.owner; closures = g.closures; store = s.store; outside = o }

      entry : entry_by (adjusted (own mc.function).registers (take (own mc.function).params args)) (extra_of (is_vararg (own mc.function).flags) (own mc.function).params args) ≡ entry_by (adjusted (length f.params) args ++ adjusted ((own mc.function).registers - length f.params) []) (extra_of f.vararg (length f.params) args)
      entry =
          ap (λ r. entry_by r (extra_of (is_vararg (own mc.function).flags) (own mc.function).params args)) high0
          ∙ ap (λ b. entry_by (adjusted (length f.params) args ++ adjusted ((own mc.function).registers - length f.params) []) (extra_of b (own mc.function).params args)) (ap is_vararg c.stands.flags ∙ is_vararg_flags f.vararg)
          ∙ ap (λ n. entry_by (adjusted (length f.params) args ++ adjusted ((own mc.function).registers - length f.params) []) (extra_of f.vararg n args)) c.stands.param_count

  -- ## what a function's block gives

  module _ (self : Self) (ih : Simulates z self) where
    abbrev nowhere_around : Act → Around
    nowhere_around a = record { loop = None; exit = a; fits = tt }

    pub ends_block : (s : SourceState) (o : Outside) (x : Site) (active1 : List Active) (mid last : Spot) (f : Flow) (p : Place) → WordAt (code_of x.a) (Piece.Abc Op.Return 0 1 0) mid last → FlowPost z x (nowhere_around x.a) active1 mid.pc f s o p → Goes z.bound self (fail_of z x) 1 call_cost o p (Backs z x.a.landing x.a.protections x.below) (results_of (length x.below) f s)
    ends_block s o x active1 mid last (goes env) p end h =
        let x1 = put h.a x.below h.high in
        let m = at s o h.g x1 mid.pc in
        let back : Backs z h.a.landing h.a.protections x.below [] s o (Soon m) =
        backs_at z s o h.g x1 (suc mid.pc) None [] m h.ok (prefix_self o.events) (word_abc h.a Op.Return 0 1 0 mid last m (subst (λ k. WordAt k (Piece.Abc Op.Return 0 1 0) mid last) (sym (ap (λ a. code_of a) h.grown.is)) end) refl refl) in
        goes_from z.bound self (fail_of z x) 1 call_cost o p (Now m) (Backs z x.a.landing x.a.protections x.below) (done [] s) h.is
        (goes_soon z.bound self (fail_of z x) 0 call_cost o m (Backs z x.a.landing x.a.protections x.below) (done [] s)
        (goes_done z.bound self (fail_of z x) 0 call_cost o (Soon m) (Backs z x.a.landing x.a.protections x.below) [] s
        (subst (λ l. Backs z l x.a.protections x.below [] s o (Soon m)) (ap (λ a. a.landing) h.grown.is) (subst (λ l. Backs z h.a.landing l x.below [] s o (Soon m)) (ap (λ a. a.protections) h.grown.is) back))))
    ends_block s o x active1 mid last breaks p end h = absurd h
    ends_block s o x active1 mid last (returns vs) p end h = goes_done z.bound self (fail_of z x) 1 call_cost o p (Backs z x.a.landing x.a.protections x.below) vs s h
    ends_block s o x active1 mid last (tail_calls f vs) p end h =
        goes_last z.bound self (fail_of z x) 1 call_cost o p (call (tail_depth (callee s.store f) (length x.below)) f vs) s (Backs z x.a.landing x.a.protections x.below) (ih.tail f vs s o x p h)

    pub block_goes : (s : SourceState) (o : Outside) (g : Ghost) (y : Site) (f : Function) (here : Scope) (inner : List Active) (first mid last : Spot) → scope y ≡ here → Ok z s g y → size_b f.block + call_cost ≤ z.bound → first.pc ≡ 0 → StatementsAt (code_of y.a) None f.block y.a.active inner first mid → WordAt (code_of y.a) (Piece.Abc Op.Return 0 1 0) mid last → Goes z.bound self (fail_of z y) 1 (size_b f.block + call_cost) o (Now (at s o g y 0)) (Backs z y.a.landing y.a.protections y.below) (ask (block here f.block) s (results_of (length y.below)))
    block_goes s o g y f here inner first mid last sees ok small begin_at body end =
        (subst (λ h. Goes z.bound self (fail_of z y) 1 (size_b f.block + call_cost) o (Now (at s o g y 0)) (Backs z y.a.landing y.a.protections y.below) (ask (block h f.block) s (results_of (length y.below)))) sees
        (goes_ask z.bound self (fail_of z y) (size_b f.block) 1 call_cost o (Now (at s o g y 0)) (block (scope y) f.block) s (FlowPost z y (nowhere_around y.a) inner mid.pc) (Backs z y.a.landing y.a.protections y.below) (results_of (length y.below))
        (subst (λ pc. Asks z.bound 0 (size_b f.block) o (Now (at s o g y pc)) (fail_of z y) (FlowPost z y (nowhere_around y.a) inner mid.pc) (self (block (scope y) f.block) s)) begin_at (ih.blocks f.block s o g y (nowhere_around y.a) inner first mid ok (grown_self y.a) (omega arith) body))
        (λ fl s1 o1 p1 h. ends_block s1 o1 y inner mid last fl p1 end h)))

    -- the step that enters pays for the block's ticks
    pub body_goes : (s : SourceState) (o : Outside) (g : Ghost) (y : Site) (f : Function) (here : Scope) (inner : List Active) (first mid last : Spot) (m : State) → scope y ≡ here → Ok z s g y → size_b f.block + call_cost ≤ z.bound → first.pc ≡ 0 → StatementsAt (code_of y.a) None f.block y.a.active inner first mid → WordAt (code_of y.a) (Piece.Abc Op.Return 0 1 0) mid last → step m ≡ Going (at s o g y 0) → Goes z.bound self (fail_of z y) 1 0 o (Soon m) (Backs z y.a.landing y.a.protections y.below) (ask (block here f.block) s (results_of (length y.below)))
    body_goes s o g y f here inner first mid last m sees ok small begin_at body end e =
        goes_paid z.bound self (fail_of z y) 1 (size_b f.block + call_cost) o m (at s o g y 0) (Backs z y.a.landing y.a.protections y.below) _ e small
        (block_goes s o g y f here inner first mid last sees ok small begin_at body end)
