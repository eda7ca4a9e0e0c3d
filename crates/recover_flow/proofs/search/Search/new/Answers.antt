use Rattle.recover_flow.proofs.search.Search.new.Goals as goal

pub returns-clause-ready : goal.returns-clause-ready
returns-clause-ready c = record { tabled = c.in_ok-new.ensures.tabled; right = c.in_ok-new-2.ensures _ }
