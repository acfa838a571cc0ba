use Rattle.std.proofs.Common.{◌≡◌}
use Rattle.fut_types.specs.Types.{Made}
use Rattle.fut_types.specs.declared.Head.TheVariants as head
use Rattle.type_graph.specs.Claims.{types_of}
use Rattle.type_scopes.proofs.Claiming.{claimed_graph, ok_both}
use Rattle.type_patterns.proofs.Asking.{err_both}
use Rattle.type_constraints.proofs.patterns.constrain_made.Goals as goal

pub returns-clause-ok : goal.returns-clause-ok
returns-clause-ok c = ok_both c.tuple.result (λ x f places d lo. claimed_graph places c.args.base d lo (λ N scope K a. a c.args.number ≡ Made head.Tuple (types_of a c.args.parts.now)) (λ home. Unit {0}) c.args.inference.now c.tuple.new.nodes c.tuple.new.entries c.requires.safe x
    (λ N T born E r told. f T told N places)) c.tuple.ensures.extends c.tuple.ensures.ok

pub returns-clause-err : goal.returns-clause-err
returns-clause-err c = err_both c.tuple.result (λ un before places d lo. record {
  labels = c.requires.safe.labels;
  reads = λ N T born r. record { names = r.names; labelled = r.labelled; shapes = r.shapes; told = before T r.told; seats = r.seats };
  nowhere = λ N T home born E r rd h. un T r.told N places;
}) c.tuple.ensures.err c.tuple.ensures.before
