use Rattle.std.proofs.Common.{sym, ap, ◌∙◌, length}
use Rattle.scopes.specs.Standing.{binding_of, binding_of_option}
use Rattle.scopes.proofs.MentionSteps.{lookup_low, goes_global, goes_declared, goes_stuck, goes_handed, names_after}
use Rattle.scopes.proofs.resolver.Resolver.mention.Goals as goal

pub returns-in_default-clause-goes : goal.returns-in_default-clause-goes
returns-in_default-clause-goes c =
    goes_global c.args.line c.args.name.now c.args.self.now c.answer.new.self (sym c.find.ensures ∙ ap binding_of_option c.in_default.is) c.in_ok-answer.ensures.names
    c.in_ok-answer.ensures.locals c.in_ok-answer.ensures.stack c.in_ok-answer.ensures.here c.in_ok-answer.ensures.captured c.in_ok-answer.ensures.functions

pub used-requires-clause-declared : goal.used-requires-clause-declared
used-requires-clause-declared c =
    lookup_low c.args.self.now.locals.items c.args.name.now (binding_of c.in-Some.binding) (length c.args.self.now.captured.items) c.requires.declared (sym c.find.ensures ∙ ap binding_of_option c.in-Some.is)

pub returns-in_err-used-clause-goes : goal.returns-in_err-used-clause-goes
returns-in_err-used-clause-goes c =
    goes_handed c.args.line c.args.name.now c.args.self.now c.used.new.self _ _ c.from_residual-in_err-used.ensures.1
    (goes_stuck c.args.line c.args.name.now c.args.self.now c.used.new.self c.in-Some.binding _ (sym c.find.ensures ∙ ap binding_of_option c.in-Some.is)
    (lookup_low c.args.self.now.locals.items c.args.name.now (binding_of c.in-Some.binding) (length c.args.self.now.captured.items) c.requires.declared (sym c.find.ensures ∙ ap binding_of_option c.in-Some.is))
    c.in_err-used.ensures.fault)

pub returns-clause-goes : goal.returns-clause-goes
returns-clause-goes c =
    goes_declared c.args.line c.args.name.now c.args.self.now c.used.new.self c.answer-2.new.self c.in-Some.binding c.in_ok-used.used (sym c.find.ensures ∙ ap binding_of_option c.in-Some.is)
    (lookup_low c.args.self.now.locals.items c.args.name.now (binding_of c.in-Some.binding) (length c.args.self.now.captured.items) c.requires.declared (sym c.find.ensures ∙ ap binding_of_option c.in-Some.is))
    c.in_ok-used.ensures.used (names_after c.used.new.self c.args.self.now c.in_ok-used.used c.answer-2.new.self c.in_ok-used.ensures.used.names c.in_ok-answer-2.ensures.names)
    c.in_ok-answer-2.ensures.locals c.in_ok-answer-2.ensures.stack c.in_ok-answer-2.ensures.here c.in_ok-answer-2.ensures.captured c.in_ok-answer-2.ensures.functions
