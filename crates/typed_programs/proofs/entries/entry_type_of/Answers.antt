use Rattle.type_infer.specs.Reading.{Generally}
use Rattle.typed_programs.proofs.EntryTypes.{because, entry_type_is, no_result}
use Rattle.typed_programs.proofs.entries.entry_type_of.Goals as goal

pub returns-in-Ok-results_of-clause-ok : goal.returns-in-Ok-results_of-clause-ok
returns-in-Ok-results_of-clause-ok c = entry_type_is (Generally c.args.inference.now.nodes) c.args.number c.in-Ok.node c.params_of.new.params c.in-Ok-results_of.tuple c.results_of.new.results c.in-Ok.ensures.ok c.in-Ok-results_of.ensures.ok

pub returns-in-Err-results_of-clause-err : goal.returns-in-Err-results_of-clause-err
returns-in-Err-results_of-clause-err c = because c.in-Err-results_of.error (no_result (Generally c.args.inference.now.nodes) c.args.number c.in-Ok.node c.params_of.new.params c.in-Ok.ensures.ok c.in-Ok.ensures.result) c.in-Err-results_of.ensures.err
