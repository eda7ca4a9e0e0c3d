-- What an argument refuses, the function refuses; an argument is the heap's, and is shown beside the names of the hosts.
use Rattle.std.proofs.Common.{refl, rules}
use Rattle.std.proofs.lemmas.Result.{err_from_is_err_and}
use Rattle.lua_heap.specs.State.{datum, store_of}
use Rattle.natives.proofs.Texts.{shown_is}
use Rattle.natives.proofs.values.tostring.Goals as goal

pub returns-in_err-v-clause-act : goal.returns-in_err-v-clause-act
returns-in_err-v-clause-act c =
    let p = err_from_is_err_and c.from_residual.result c.from_residual.ensures.1 in
    rw (p.1, p.2) (λ hosts e. c.in_err-v.ensures.refused c.args.heap.now _)

pub shown-requires : goal.shown-requires
shown-requires c = c.in_ok-v.ensures.known c.args.heap.now c.requires

pub returns-clause-act : goal.returns-clause-act
returns-clause-act c =
    let h = c.args.heap.now in
    rw c.in_ok-results.ensures (
      (λ hosts e. rw (c.in_ok-v.ensures.value h, shown_is (store_of h hosts) h.host_names e (datum h c.in_ok-v.v), c.in_ok-text-2.ensures.value, c.bytes.ensures, c.in_ok-text.ensures, c.text_value.ensures.grown.only_texts) refl),
      search (rules, c.in_ok-text-2.ensures.known),
    )
