use Rattle.std.proofs.Common.{Some, SFits, w32, to_z-of_z, rules, length, refl, sym, ap, ◌∙◌}
use Rattle.std.proofs.lemmas.Option.{slice_get_read}
use Rattle.machine.proofs.DecodedWords.{distance_is, jump_within}
use Rattle.machine.proofs.words.jumps.distance.Goals as goal

pub returns : goal.returns
returns c =
    let code = c.args.function.now.code.items in
    let pc = c.args.pc in
    let bits = c.index-bits.result.now in
    let test = c.requires.jmp in
    let there = slice_get_read code (length code) pc bits refl (jump_within code pc test.s test.jmp) c.index-bits.ensures in
    let fits : SFits w32 c.sbx_of.result = search rules in
    simp to_z-of_z (distance_is code pc bits test.s test.jmp there ∙ ap Some (sym c.sbx_of.ensures))
