-- The induction: what is proved of every task as `self` answers it, is proved of it as it is answered with one tick more.
use Rattle.lua_model.specs.Datum.{first_of}
use Rattle.std.proofs.Common.{◌≡◌, ℕ, zero, suc, ◌+◌, inl, List, [], ◌∷◌, refl, subst, arith}
use Rattle.lua_tree.specs.Syntax.{Expression, Fields}
use Rattle.lua_model.specs.Store.{Outside}
use Rattle.lua_model.specs.Endings.{IsPrefix}
use Rattle.lua_model.specs.Operators.{goes_on}
use Rattle.source_meaning.specs.State.{State as SourceState}
use Rattle.source_meaning.specs.Tasks.{expression, table_item}
use Rattle.source_meaning.specs.Programs.{done, spend, run, eval, and_then}
use Rattle.source_meaning.specs.Meaning.{program, construct, one}
use Rattle.agrees.proofs.StatementAll.{next_statement}
use Rattle.agrees.proofs.TableNew.{construct_goes}
use Rattle.agrees.proofs.AssignTargets.{next_target}
use Rattle.agrees.proofs.ValueConcats.{next_spine}
use Rattle.agrees.proofs.ValueLiterals.{next_literal, next_literal_item}
use Rattle.agrees.proofs.ConditionAll.{next_cond}
use Rattle.agrees.proofs.Tasks.{Single, ExprBy, Simulates, Asked, scope, inner_parts, iter_size, repeat_size, tasked, TableBy}
use Rattle.agrees.proofs.Posts.{ValuePost, Faults, fail_of, NextPost}
use Rattle.agrees.proofs.Accounts.{Place, Now, Told, Self, Asks, goes_done, goes_weaken, by_tick, prefix_self, Stays, still, goes_then}
use Rattle.agrees.proofs.Sizes.{size_e, size_b, inner_statement, call_cost, inner_fields, inner}
use Rattle.agrees.proofs.Picture.{Setup, Waiter, at}
use Rattle.agrees.proofs.CallTails.{tail_told, next_tail}
use Rattle.agrees.proofs.CallMakes.{call_tells, next_calls, next_protected, above}
use Rattle.agrees.proofs.LoopNumeric.{next_count_turn}
use Rattle.agrees.proofs.LoopGeneric.{next_iter_test, next_iter_turn}
use Rattle.agrees.proofs.Operands.{next_bare, next_bare_item, next_text}
use Rattle.agrees.proofs.StatementBlocks.{next_block, next_while_turn}
use Rattle.agrees.proofs.ListItems.{next_one_item, next_all_item, next_test}
use Rattle.agrees.proofs.CallResults.{next_multi, next_parts}
use Rattle.agrees.proofs.CallParts.{parts_goes, next_call_item}
use Rattle.agrees.proofs.ValueCounts.{next_singles, asks_also, single_of}
use Rattle.agrees.proofs.ValueAll.{expr_known, expr_task, named_task, keyed_task}
use Rattle.agrees.proofs.LoopRepeat.{next_repeat_turn}

module _ (z : Setup) where
  tells_known : {A : Type 0} (self : Self) (a : A) (s : SourceState) (o : Outside) (ld : _) (q : ℕ) (gs : List Waiter) (p : Place) → Told o p → Asks z.bound 0 1 o p (Faults z ld q gs) (Stays a s o p) (λ w. spend w.ticks w (run self (done a s)))
  tells_known self a s o ld q gs p told =
      by_tick z.bound self (Faults z ld q gs) 0 0 0 o p _ (done a s) told (omega arith) (goes_done z.bound self (Faults z ld q gs) 0 0 o p _ a s (refl, refl, refl, refl))

  next_table : (self : Self) → Simulates z self → (fs : Fields) → TableBy z fs (λ c. tasked self (table_item c fs))
  next_table self ih fs s o g x k free p q ok fr small w =
      by_tick z.bound self (fail_of z x) 0 2 (inner_fields fs) o _ (λ vs s1 o1 p1. NextPost z x k q.pc (first_of vs) s1 o1 p1 × (vs ≡ first_of vs ∷ [])) (and_then (construct fs (scope x) s) one) refl (omega arith)
      (goes_weaken z.bound self (fail_of z x) (2 + 0) (inner_fields fs + 0) 2 (inner_fields fs) o (Now (at s o g x p.pc)) (λ vs s1 o1 p1. NextPost z x k q.pc (first_of vs) s1 o1 p1 × (vs ≡ first_of vs ∷ [])) (and_then (construct fs (scope x) s) one) (omega arith) (omega arith)
      (goes_then z.bound self (fail_of z x) 2 (inner_fields fs) 0 0 o (Now (at s o g x p.pc)) (λ v s1 o1 p1. NextPost z x k q.pc v s1 o1 p1) (λ vs s1 o1 p1. NextPost z x k q.pc (first_of vs) s1 o1 p1 × (vs ≡ first_of vs ∷ [])) (construct fs (scope x) s) one
      (construct_goes z self ih fs s o g x k free p q ok fr (omega arith) w)
      (λ v s1 o1 p1 h. goes_done z.bound self (fail_of z x) 0 0 o1 p1 (λ vs s2 o2 p2. NextPost z x k q.pc (first_of vs) s2 o2 p2 × (vs ≡ first_of vs ∷ [])) (v ∷ []) s1 (h, refl))))

  -- every expression, to a register
  next_expr : (self : Self) → Simulates z self → (e : Expression) → ExprBy z e (Asked z (size_e e) (λ x. tasked self (expression (scope x) e)))
  next_expr self ih e s o g x k free r p q ok above small l t =
      asks_also z.bound 0 (size_e e) o (Now (at s o g x p.pc)) (fail_of z x) (ValuePost z x k r q.pc) (Single e) (tasked self (expression (scope x) e) s) (λ w. single_of (tasked self) (next_singles self) e (scope x) s w)
      (expr_task z self ih e s o g x k free r p q ok above small l t)

  -- the induction's step, and its beginning
  next : (self : Self) → Simulates z self → Simulates z (tasked self)
  next self ih = record {
    expr = next_expr self ih;
    cond = next_cond z self ih (expr_known z self ih);
    multi = next_multi z self ih (parts_goes z self ih);
    one_item = next_one_item z self ih;
    all_item = next_all_item z self ih;
    test_cond = next_test z self ih;
    parts = next_parts z self ih (parts_goes z self ih);
    takes = λ c s o ld q gs p told. tells_known self tt s o ld q gs p told;
    refuses = λ s o ld q gs p told. tells_known self tt s o ld q gs p told;
    blocks = next_block z self ih;
    statements = next_statement z self ih;
    calls = next_calls z self ih;
    protected = next_protected z self ih;
    tail = next_tail z self ih;
    counts = λ i limit by s o ld q gs p told. tells_known self (goes_on i limit by) s o ld q gs p told;
    count_turns = next_count_turn z self ih;
    iter_tests = next_iter_test z self ih;
    iter_turns = next_iter_turn z self ih;
    named_items = named_task z self ih;
    keyed_items = keyed_task z self ih;
    bare = next_bare z self ih;
    bare_items = next_bare_item z self ih;
    literals = next_literal z self ih;
    literal_items = next_literal_item z self ih;
    texts = next_text z self ih;
    tables = next_table self ih;
    spines = next_spine z self ih (expr_known z self ih);
    targets = next_target z self ih;
    while_turns = next_while_turn z self ih;
    repeat_turns = next_repeat_turn z self ih;
    call_items = next_call_item z self ih;
  }

  -- with no ticks every task is going
  first : Simulates z (eval program zero)
  first = record {
    expr = λ e s o g x k free r p q ok a l lr t. still z.bound (size_e e) o _ refl;
    cond = λ e tr s o g x k free l p q ok a m t. still z.bound (size_e e) o _ refl;
    multi = λ e s o g x want k free p q ok a l t. still z.bound (size_e e) o _ refl;
    one_item = λ e s o g x k free r p q ok a l lr t. still z.bound (suc (size_e e)) o _ refl;
    all_item = λ e s o g x want k free p q ok a l t. still z.bound (suc (size_e e)) o _ refl;
    test_cond = λ e tr s o g x k free l p q ok a m t. still z.bound (suc (size_e e)) o _ refl;
    parts = λ e s o g x op want k free p q ok a l t made. still z.bound (suc (inner_parts e)) o _ refl;
    takes = λ c s o ld q gs p told. still z.bound 1 o p told;
    refuses = λ s o ld q gs p told. still z.bound 1 o p told;
    blocks = λ b s o g x around active1 p q ok out l t. still z.bound (size_b b) o _ refl;
    statements = λ c s o g x around active1 p q ok out l t. still z.bound (suc (inner_statement c)) o _ refl;
    calls = λ f args s o g x ld pc left m sum ok before quiet e. still z.bound (suc (suc left)) o _ (call_tells z f args s o g x ld pc left 0 m before quiet e);
    protected = λ p f args s o g x ld pc left m sum ok before quiet e. still z.bound (suc (suc left)) o _ (call_tells z f args s o g x ld pc left p m before quiet e);
    tail = λ f args s o x p h. still z.bound call_cost o p (tail_told z s o x f args p h);
    counts = λ i limit by s o ld q gs p told. still z.bound 1 o p told;
    count_turns = λ name i limit by b s o g x around rest q ok l w. still z.bound (suc (suc (size_b b))) o _ refl;
    iter_tests = λ f state control s o g x ld pc m ok eo e. still z.bound (suc call_cost) o _ (call_tells z f (state ∷ control ∷ []) s o g x ld pc 200 0 m (subst (λ o1. IsPrefix m.outside.events o1.events) eo (prefix_self m.outside.events)) (inl eo) e);
    iter_turns = λ names f state vs b s o g x around rest q ok l w. still z.bound (iter_size b) o _ refl;
    named_items = λ tb name e s o g x k t pending p q ok et l there w. still z.bound (suc (size_e e + call_cost)) o _ refl;
    keyed_items = λ tb key e s o g x k t pending p q ok et l there w. still z.bound (suc (size_e key + (size_e e + call_cost))) o _ refl;
    bare = λ e c s o x p own told. still z.bound (size_e e) o p told;
    bare_items = λ e c s o x p own told. still z.bound (suc (size_e e)) o p told;
    literals = λ e k here s o ld q gs p el told. still z.bound (size_e e) o p told;
    literal_items = λ e k here s o ld q gs p el told. still z.bound (suc (size_e e)) o p told;
    texts = λ c s o g x k free p q ok fr room w. still z.bound 1 o _ refl;
    tables = λ fs s o g x k free p q ok fr small w. still z.bound (suc (inner_fields fs)) o _ refl;
    spines = λ e s o g x k first a free free1 p last q ok fr l small w word. still z.bound (size_e e) o _ refl;
    targets = λ e s o g x k free d free1 p q ok fr small w. still z.bound (suc (inner e)) o _ refl;
    while_turns = λ e b s o g x around p q ok l w. still z.bound (suc (size_b b)) o _ refl;
    repeat_turns = λ b e s o g x around p q ok l w. still z.bound (repeat_size b e) o _ refl;
    call_items = λ e s o g x op want k free p q ok a l t made. still z.bound (suc (suc (inner_parts e))) o _ refl;
  }

  pub all_simulated : (n : ℕ) → Simulates z (eval program n)
  all_simulated zero = first
  all_simulated (suc n) = next (eval program n) (all_simulated n)
