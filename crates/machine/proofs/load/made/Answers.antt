use Rattle.std.proofs.Common.{◌≡◌, ◌∙◌, ◌<◌, ◌^◌, ℕ, List, length, map, refl, sym, ap, subst}
use Rattle.proto.specs.Chunk.{Own, own}
use Rattle.proto.specs.View.{view_proto}
use Rattle.proto.proofs.Views.{view_proto_fields}
use Rattle.verifier.proofs.Shortness.{code_short}
use Rattle.proto.specs.declared.proto.Proto.{out-Proto}
use Rattle.rules.specs.State.{value_of}
use Rattle.machine.specs.Decoded.{decoded_of}
use Rattle.machine.specs.Frames.{data_of}
use Rattle.machine.proofs.Loading.{made_is}
use Rattle.machine.proofs.load.made.Goals as goal

pub returns-clause-made : goal.returns-clause-made
returns-clause-made c =
    let h = c.constant_values.new.heap in
    let p = c.args.proto.now in
    let words = c.in_ok-code.code.items in
    let code : words ≡ (out-Proto p).code = c.in_ok-code.ensures.items_if_clones_equal (λ x y same. same) ∙ c.items-2.ensures in
    let room : length words < 2 ^ 32 = subst (λ (ws : List ℕ). length ws < 2 ^ 32) (ap (λ (o : Own). o.code) (ap own (view_proto_fields p)) ∙ sym code) (code_short (view_proto p) c.requires.short) in
    let decoded : c.in_ok-words.words.items ≡ map decoded_of words = c.in_ok-words.ensures ∙ ap (map decoded_of) c.as_slice.ensures.value in
    let constants : map value_of (out-Proto p).constants ≡ data_of h c.in_ok-constants.constants.items = ap (map value_of) (sym c.items.ensures) ∙ c.in_ok-constants.ensures.values in
    λ all lead. made_is h all p _ code room decoded constants c.in_ok-constants.ensures.known lead refl refl refl refl
