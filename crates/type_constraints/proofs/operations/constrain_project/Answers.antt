use Rattle.std.proofs.Common.{slice_index_or}
use Rattle.fut_flat.specs.Terms.{Project}
use Rattle.fut_types.specs.Types.{none, more}
use Rattle.type_rules.proofs.Adding.{on_ok, if_err}
use Rattle.type_constraints.proofs.Ruling.{types_one}
use Rattle.type_patterns.proofs.Labelling.{later_labels}
use Rattle.type_constraints.proofs.Labelling.{labelled_ok, labelled_err}
use Rattle.type_constraints.proofs.operations.constrain_project.Goals as goal

pub demand-requires-clause-safe : goal.demand-requires-clause-safe
demand-requires-clause-safe c = (later_labels c.args.base c.args.inference.now c.label.new.labels c.label.new.table c.requires.safe c.in-Ok.ensures.is c.in-Ok.ensures.on).safe

pub returns-clause-ok : goal.returns-clause-ok
returns-clause-ok c = on_ok c.demand.result (λ f places. labelled_ok c.args.base c.args.inference.now c.label.new.labels c.label.new.table c.requires.safe c.in-Ok.ensures.is c.in-Ok.ensures.on places c.args.lo (Project c.args.name.now) c.args.parts.now (λ N E K a l. tt) (λ a. more (a (slice_index_or c.args.parts.now 0 0)) none) (λ a. types_one a c.args.parts.now c.requires.few) c.projection.result c.args.name.now c.in-Ok.number c.in-Ok.ensures.number (λ N e K a. c.projection.ensures.says N places c.args.name.now e K a) c.projection.ensures.allowed c.demand.new.inference f) c.demand.ensures.ok

pub returns-clause-err : goal.returns-clause-err
returns-clause-err c = if_err c.demand.result (λ f places. labelled_err c.args.base c.args.inference.now c.label.new.labels c.label.new.table c.requires.safe c.in-Ok.ensures.is c.in-Ok.ensures.on places c.args.lo (Project c.args.name.now) c.args.parts.now (λ N E K a l. tt) (λ a. more (a (slice_index_or c.args.parts.now 0 0)) none) (λ a. types_one a c.args.parts.now c.requires.few) c.projection.result c.args.name.now c.in-Ok.number c.in-Ok.ensures.number (λ N e K a. c.projection.ensures.says N places c.args.name.now e K a) c.projection.ensures.allowed c.demand.new.inference f) c.demand.ensures.err
