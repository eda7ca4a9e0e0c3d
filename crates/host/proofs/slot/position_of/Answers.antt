use Rattle.std.proofs.Common.{◌≡◌, ◌<◌, [], true, false, sym, ap, ◌∙◌, length, map, below_more, arith}
use Rattle.std.proofs.lemmas.List.{length-map}
use Rattle.std.specs.Str.{bytes_eq}
use Rattle.host.proofs.Names.{position_is, position_none, test_at}
use Rattle.host.proofs.slot.position_of.Goals as goal

pub returns-then-eq : goal.returns-then-eq
returns-then-eq g c =
    let within : c.loop-number.number < length (map (λ slot. slot.name) c.args.slots.now) = rw length-map c.loop-number-test.true in
    sym (position_is (λ other. bytes_eq other c.args.name.now) (map (λ slot. slot.name) c.args.slots.now) c.loop-number.number []
    c.loop-number.invariant within
    (test_at c.args.slots.now (λ slot. slot.name) (λ other. bytes_eq other c.args.name.now) c.loop-number.number c.index-slots-number.result true c.loop-number-test.true c.index-slots-number.is
    (ap (λ other. bytes_eq other c.args.name.now) (sym c.name.ensures) ∙ sym c.if-eq.ensures)))

pub loop-number-preserved : goal.loop-number-preserved
loop-number-preserved g c = below_more _ _ c.loop-number.invariant
    (test_at c.args.slots.now (λ slot. slot.name) (λ other. bytes_eq other c.args.name.now) c.loop-number.number c.index-slots-number.result false c.loop-number-test.true c.index-slots-number.is
    (ap (λ other. bytes_eq other c.args.name.now) (sym c.name.ensures) ∙ sym c.if-eq.ensures))

pub returns : goal.returns
returns g c =
    let all : length (map (λ slot. slot.name) c.args.slots.now) ≡ length c.args.slots.now = length-map _ _ in
    sym (position_none (λ other. bytes_eq other c.args.name.now) (map (λ slot. slot.name) c.args.slots.now) [] (λ k within. c.loop-number.invariant k (omega (arith, c.loop-number-test.false))))
