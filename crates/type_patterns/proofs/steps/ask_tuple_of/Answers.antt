use Rattle.std.proofs.Common.{◌≡◌}
use Rattle.fut_types.specs.Types.{Made}
use Rattle.fut_types.specs.declared.Head.TheVariants as head
use Rattle.type_graph.specs.Claims.{types_of}
use Rattle.type_scopes.proofs.Claiming.{ok_both}
use Rattle.type_patterns.proofs.Asking.{asked_graph, unasked_graph, err_both}
use Rattle.type_patterns.proofs.steps.ask_tuple_of.Goals as goal

pub returns-clause-ok : goal.returns-clause-ok
returns-clause-ok c = ok_both c.tuple.result (λ x f places. asked_graph places c.args.base (λ N scope K a. a c.args.node ≡ Made head.Tuple (types_of a c.args.parts.now)) c.args.inference.now c.tuple.new.nodes c.tuple.new.entries c.requires.safe x
    (λ N T born E r told. f T told N places)) c.tuple.ensures.extends c.tuple.ensures.ok

pub returns-clause-err : goal.returns-clause-err
returns-clause-err c = err_both c.tuple.result (λ un before places. unasked_graph places c.args.base (λ N scope K a. a c.args.node ≡ Made head.Tuple (types_of a c.args.parts.now)) c.args.inference.now c.tuple.new.nodes c.tuple.new.entries c.requires.safe before
    (λ N T born E r told. un T told N places)) c.tuple.ensures.err c.tuple.ensures.before
