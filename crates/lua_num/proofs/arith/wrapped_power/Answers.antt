use Rattle.lua_num.proofs.Wrapping.{odd_bits, even_bits, end_bits}
use Rattle.lua_num.proofs.arith.wrapped_power.Goals as goal
use Rattle.lua_num.proofs.arith.wrapped_power.Goals.{then-digits-eq1, else-digits-eq1}

pub loop-digits-preserved : goal.loop-digits-preserved
loop-digits-preserved c =
    let now = c.loop-digits in
    elim c.if-digits-eq1.branch [
      | then-digits-eq1 w ↦ odd_bits now.product-bits now.square-bits now.digits c.if-digits-eq1.product-bits _ now.auto.product.fits now.auto.square.fits w.product-is w.if-digits-eq1.true now.invariant
      | else-digits-eq1 w ↦ even_bits now.product-bits now.square-bits now.digits c.if-digits-eq1.product-bits _ now.auto.square.fits w.product-is w.if-digits-eq1.false now.invariant
    ]

pub returns : goal.returns
returns c =
    let last = c.loop-digits in
    end_bits last.product-bits last.square-bits last.digits c.args.exponent c.args.base c.ranges.base c.loop-digits-test.false last.invariant
