use Rattle.std.proofs.Common.{◌≡◌, ◌+◌, ◌++◌, ◌∷◌, [], drop, ◌∙◌, arith}
use Rattle.std.proofs.lemmas.List.{take_rest}
use Rattle.asm_text.specs.declared.quoted.Spot.{Spot}
use Rattle.asm_text.specs.Reading.{scan_at}
use Rattle.asm_text.proofs.Turns.{with_text, scan_closes, scan_fails, scan_gives, scan_goes, scan_done}
use Rattle.asm_text.proofs.quoted.scan.Goals as goal
use Rattle.asm_text.proofs.quoted.scan.Goals.{in-Byte+in_ok-push-in-Byte, in-Go}

pub returns-in-Close : goal.returns-in-Close
returns-in-Close c =
    rw (take_rest c.args.text.now (c.loop-at.at + 1)) (scan_closes c.loop-at.spot c.loop-at.at c.args.text.now c.loop-at.out (scan_at Spot.Plain c.args.text.now) (omega arith) c.loop-at.invariant c.in-Close.ensures)

pub returns-in-Wrong : goal.returns-in-Wrong
returns-in-Wrong c = scan_fails c.loop-at.spot c.loop-at.at c.args.text.now c.loop-at.out (scan_at Spot.Plain c.args.text.now) (omega arith) c.loop-at.invariant c.in-Wrong.ensures

pub loop-at-preserved : goal.loop-at-preserved
loop-at-preserved c =
    let total = scan_at Spot.Plain c.args.text.now in
    let rest = drop (c.loop-at.at + 1) c.args.text.now in
    elim c.match-step_at.branch [
      | in-Byte+in_ok-push-in-Byte w ↦
          let e : c.match-step_at.out ≡ c.loop-at.out ++ w.in-Byte.value ∷ [] = w.out-is ∙ w.in_ok-push-in-Byte.ensures.ok in
          (λ i. with_text (e i) (scan_at (w.spot-is i) rest)) ∙ scan_gives c.loop-at.spot c.loop-at.at c.args.text.now c.loop-at.out total (omega arith) c.loop-at.invariant w.in-Byte.value w.in-Byte.ensures
      | in-Go w ↦ (λ i. with_text (w.out-is i) (scan_at (w.spot-is i) rest)) ∙ scan_goes c.loop-at.spot c.loop-at.at c.args.text.now c.loop-at.out total (omega arith) c.loop-at.invariant w.in-Go.next w.in-Go.ensures
    ]

pub returns : goal.returns
returns c = scan_done c.loop-at.spot c.loop-at.at c.args.text.now c.loop-at.out (scan_at Spot.Plain c.args.text.now) (omega arith) c.loop-at.invariant
