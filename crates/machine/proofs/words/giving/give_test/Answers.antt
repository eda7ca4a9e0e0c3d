use Rattle.std.proofs.Common.{◌≡◌, ap, sym, ◌∙◌, ℕ, Bool}
use Rattle.lua_model.specs.declared.Value.{Value}
use Rattle.std.proofs.Common.{List}
use Rattle.lua_heap.specs.State.{HeapState, datum}
use Rattle.meta_ops.specs.Acts.{use_of, act_of}
use Rattle.meta_ops.specs.declared.act.Act.{Act}
use Rattle.meta_ops.specs.declared.act.Then.{Then}
use Rattle.rules.specs.State.{State, test}
use Rattle.rules.specs.Calls.{call}
use Rattle.rules.specs.Step.{give_test as give_test_of, is_negated}
use Rattle.machine.specs.Frames.{data_of}
use Rattle.machine.proofs.words.giving.give_test.Goals as goal

pub returns-in-Value-clause-known : goal.returns-in-Value-clause-known
returns-in-Value-clause-known c h known = c.branch-function.ensures.known h

pub returns-in-Value-clause-awaited : goal.returns-in-Value-clause-awaited
returns-in-Value-clause-awaited c values = c.branch-function.ensures.awaited c.args.function.now values c.args.pc

asks : (h : HeapState) (m : State) (a : ℕ) (act : Act) (f : Value) (args : List Value) (then : Then) (negated : Bool) → act ≡ Act.Call f args then → negated ≡ is_negated (use_of then) → give_test_of m a (act_of h act) ≡ call (test a negated) m (datum h f) (data_of h args)
asks h m a act f args then negated e n =
    ap (λ (x : Act). give_test_of m a (act_of h x)) e ∙ ap (λ b. call (test a b) m (datum h f) (data_of h args)) (sym n)

pub returns-in-Call-clause-did : goal.returns-in-Call-clause-did
returns-in-Call-clause-did c h m runs = asks h m _ _ _ _ _ c.is_negated.result c.in-Call.is c.is_negated.ensures
