use Rattle.std.proofs.Common.{refl}
use Rattle.fut_flat.specs.Erased.{texts}
use Rattle.fut_typing.specs.Names.{IsRecord}
use Rattle.type_graph.specs.Claims.{types_of}
use Rattle.type_patterns.proofs.Asking.{ok_four, err_four}
use Rattle.type_patterns.proofs.Labelling.{asked_given, unasked_given}
use Rattle.type_patterns.proofs.fields.ask_record_of.Goals as goal

pub returns-clause-ok : goal.returns-clause-ok
returns-clause-ok c = ok_four c.fields.result (λ is on x f places. asked_given c.args.base c.args.inference.now c.fields.new.labels c.fields.new.table c.requires.safe is on places (λ N scope K a. IsRecord N (texts c.args.names.now) (a c.args.node) (types_of a c.args.parts.now)) c.fields.new.nodes c.fields.new.entries x
    (λ N T born E r told. f N T r.names r.labelled r.shapes told)) c.fields.ensures.is c.fields.ensures.on c.fields.ensures.extends c.fields.ensures.ok

pub returns-clause-err : goal.returns-clause-err
returns-clause-err c = err_four c.fields.result (λ is un lab before places. unasked_given places c.args.base (λ N scope K a. IsRecord N (texts c.args.names.now) (a c.args.node) (types_of a c.args.parts.now)) c.args.inference.now (record c.args.inference.now { labels = c.fields.new.labels; table = c.fields.new.table; nodes = c.fields.new.nodes; entries = c.fields.new.entries }) is refl lab before
    (λ N T born E r. un N T r.names r.labelled r.shapes r.told)) c.fields.ensures.is_err c.fields.ensures.err c.fields.ensures.labelled c.fields.ensures.before
