use Rattle.std.proofs.Common.{sym, ◌∙◌}
use Rattle.type_infer.specs.Reading.{Generally}
use Rattle.typed_programs.proofs.EntryTypes.{data_read, none_read}
use Rattle.typed_programs.proofs.entries.push_data.Goals as goal

pub returns-in-Ok-push-clause-ok : goal.returns-in-Ok-push-clause-ok
returns-in-Ok-push-clause-ok c = record {
  pushed = record { elem = c.in-Some.elem; rank = c.in-Ok.below.rank };
  is = c.in-Ok-push.ensures.ok;
  read = data_read (Generally c.args.inference.now.nodes) c.args.node c.in-Ok.below.rank c.in-Ok.below.node c.general_type_at.result c.in-Some.elem c.in-Ok.ensures.levels c.general_type_at.ensures.made (sym c.scalar_of.ensures ∙ c.in-Some.is);
}

pub returns-in-None-clause-err : goal.returns-in-None-clause-err
returns-in-None-clause-err c = none_read (Generally c.args.inference.now.nodes) c.args.node c.in-Ok.below.rank c.in-Ok.below.node c.general_type_at.result c.in-Ok.ensures.levels c.in-Ok.ensures.last c.general_type_at.ensures.made (sym c.scalar_of.ensures ∙ c.in-None.is)
