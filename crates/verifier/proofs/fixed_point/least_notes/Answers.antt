-- Answers.
use Rattle.std.proofs.Common.{◌∙◌, ap, subst, sym}
use Rattle.std.specs.BTreeSet.{insert_key}
use Rattle.std.specs.Ordering.{nat_cmp}
use Rattle.proto.specs.View.{view_proto}
use Rattle.verifier.specs.Least.{Flowing}
use Rattle.verifier.specs.Registers.{notes_of}
use Rattle.verifier.proofs.fixed_point.least_notes.Goals as goal

pub spread-requires-clause-flows : goal.spread-requires-clause-flows
spread-requires-clause-flows c =
    subst (λ xs. Flowing (view_proto c.args.function.now) (notes_of xs) c.insert.new.self.keys) (sym c.deref_mut.ensures.value)
    (subst (λ work. Flowing (view_proto c.args.function.now) (notes_of c.in_ok-notes.notes.items) work) (sym (c.in_ok-insert.ensures.keys ∙ ap (λ ks. insert_key nat_cmp ks 0) c.new-work.ensures.empty))
    (c.in_ok-notes.ensures.begins (view_proto c.args.function.now)))
