use Rattle.std.proofs.Common.{◌≡◌, ◌+◌, inl, inr, length, refl, sym, ap, ◌∙◌, arith}
use Rattle.scopes.specs.declared.fault.ScopeFault.{ScopeFault}
use Rattle.scopes.proofs.resolver.Resolver.capture.Goals as goal

pub returns-in-Some-clause-captured : goal.returns-in-Some-clause-captured
returns-in-Some-clause-captured c = record {
  before = c.index_mut-captures.result.now;
  after = c.index_mut-captures.result.now;
  stands = c.index_mut-captures.ensures.value;
  put = refl;
  how = inl (sym c.in-Some.ensures, refl);
}

pub returns-then-slot-ge-MOST_UPVALUES-clause-fault : goal.returns-then-slot-ge-MOST_UPVALUES-clause-fault
returns-then-slot-ge-MOST_UPVALUES-clause-fault c =
    let counted : c.len-slot.result ≡ length c.index_mut-captures.result.now.declarations.items = omega arith in
    inr (record {
      before = c.index_mut-captures.result.now;
      stands = c.index_mut-captures.ensures.value;
      unknown = sym c.slot.ensures ∙ c.in_default.is;
      full = omega arith;
      told = ap (λ x. ScopeFault.TooManyUpvalues c.args.line (x + 1)) counted;
    })

pub returns-clause-captured : goal.returns-clause-captured
returns-clause-captured c =
    let counted : c.len-slot.result ≡ length c.index_mut-captures.result.now.declarations.items = omega arith in
    record {
      before = c.index_mut-captures.result.now;
      after = c.push.new.self;
      stands = c.index_mut-captures.ensures.value;
      put = refl;
      how = inr (sym c.slot.ensures ∙ c.in_default.is, omega arith, c.in_ok-push.ensures.declarations, c.in_ok-push.ensures.sources, counted);
    }
