use Rattle.std.proofs.Common.{◌≡◌, ◌++◌, ◌∷◌, [], length, replicate, sym, ap, subst, arith}
use Rattle.lua_model.specs.declared.Value.TheVariants.{Nil}
use Rattle.upvalue.specs.Shared.{KeepsShares}
use Rattle.upvalue.proofs.Pushed.{pushed_keeps, pushed_is}
use Rattle.upvalue.proofs.stack.ValueStack.push_frame.Goals as goal

pub returns-clause-keeps : goal.returns-clause-keeps
returns-clause-keeps c =
    let s = c.self.inside in
    let now = c.loop.self-inside in
    let count : c.len-base.result ≡ length s.values.items = omega (arith, c.len-base.ensures, s.values.ok) in
    let all : c.loop.counter ≡ c.args.registers = omega (arith, c.loop-test.false, c.loop.auto) in
    let bases : now.bases.items ≡ s.bases.items ++ length s.values.items ∷ [] = cc (c.reserve.ensures.items, c.push_reserved.ensures.items) in
    let values : now.values.items ≡ s.values.items ++ replicate c.args.registers Nil = cc (c.reserve-2.ensures.items, ap (λ n. replicate n Nil) all) in
    let shared : now.shared.items ≡ s.shared.items = cc in
    let is = pushed_is s.bases.items now.bases.items s.values.items now.values.items s.shared.items now.shared.items c.args.self.now c.self.view_is (replicate c.args.registers Nil) bases values shared in
    subst (KeepsShares c.args.self.now) (sym is) (pushed_keeps c.args.self.now c.args.registers)
