use Rattle.std.proofs.Common.{sym, ◌∙◌, subst}
use Rattle.type_infer.specs.Reading.{Generally}
use Rattle.typed_programs.specs.Entries.{Pushed}
use Rattle.typed_programs.proofs.EntryTypes.{because, tuple_results, one_result, narrow_tuple, odd_tuple, no_data}
use Rattle.typed_programs.proofs.entries.results_of.Goals as goal

pub returns-then-count-lt2-clause-err : goal.returns-then-count-lt2-clause-err
returns-then-count-lt2-clause-err c = narrow_tuple (Generally c.args.inference.now.nodes) c.args.node c.general_type_at.result c.in-Some.first c.in-Some.count c.general_type_at.ensures.made (sym c.tuple_of.ensures ∙ c.in-Some.is) c.if-count-lt2.true

pub returns-in-Ok-clause-ok : goal.returns-in-Ok-clause-ok
returns-in-Ok-clause-ok c = tuple_results (Generally c.args.inference.now.nodes) c.args.node c.general_type_at.result c.in-Some.first c.in-Some.count c.row_of.new.types c.general_type_at.ensures.made (sym c.tuple_of.ensures ∙ c.in-Some.is) c.if-count-lt2.false c.in-Ok.ensures.ok

pub returns-in-Err-clause-err : goal.returns-in-Err-clause-err
returns-in-Err-clause-err c = because c.in-Err.error (odd_tuple (Generally c.args.inference.now.nodes) c.args.node c.general_type_at.result c.in-Some.first c.in-Some.count c.general_type_at.ensures.made (sym c.tuple_of.ensures ∙ c.in-Some.is)) c.in-Err.ensures.err

pub returns-in-Ok-push_data-clause-ok : goal.returns-in-Ok-push_data-clause-ok
returns-in-Ok-push_data-clause-ok c = one_result (Generally c.args.inference.now.nodes) c.args.node c.push_data.new.types (subst (λ old. Pushed (Generally c.args.inference.now.nodes) c.args.node old c.push_data.new.types) c.requires.none c.in-Ok-push_data.ensures.ok)

pub returns-in-Err-push_data-clause-err : goal.returns-in-Err-push_data-clause-err
returns-in-Err-push_data-clause-err c = because c.in-Err-push_data.error (no_data (Generally c.args.inference.now.nodes) c.args.node c.general_type_at.result c.general_type_at.ensures.made (sym c.tuple_of.ensures ∙ c.in-None.is)) c.in-Err-push_data.ensures.err
