use Rattle.type_rules.specs.Demands.{All_met}
use Rattle.type_scopes.proofs.Claiming.{ok_both}
use Rattle.type_patterns.proofs.Asking.{asked_graph, unasked_graph, demands_added, demands_nowhere, err_both}
use Rattle.type_patterns.proofs.steps.ask.Goals as goal

pub returns-clause-ok : goal.returns-clause-ok
returns-clause-ok c = ok_both c.put.result (λ x f places. asked_graph places c.args.base (λ N scope K a. All_met N.shapes K a c.args.demands.now) c.args.inference.now c.put.new.nodes c.put.new.entries c.requires.safe x
    (λ N T born E r told. demands_added T N.shapes c.args.base c.args.demands.now c.args.inference.now.nodes c.put.new.nodes r.shapes (f T told))) c.put.ensures.extends c.put.ensures.ok

pub returns-clause-err : goal.returns-clause-err
returns-clause-err c = err_both c.put.result (λ un before places. unasked_graph places c.args.base (λ N scope K a. All_met N.shapes K a c.args.demands.now) c.args.inference.now c.put.new.nodes c.put.new.entries c.requires.safe before
    (λ N T born E r told. demands_nowhere T N.shapes c.args.base c.args.demands.now c.args.inference.now.nodes r.shapes (un T told))) c.put.ensures.err c.put.ensures.before
