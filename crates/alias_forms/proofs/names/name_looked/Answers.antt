use Rattle.fut_aliases.specs.Aliases.{first_name_alone}
use Rattle.alias_forms.proofs.NameForms.{use_done, use_named, use_told}
use Rattle.uniqueness.specs.Answers.{no_memory}
use Rattle.alias_forms.specs.Walked.{kinds_at, types_at}
use Rattle.alias_forms.proofs.names.name_looked.Goals as goal

pub returns-in_default-clause-step : goal.returns-in_default-clause-step
returns-in_default-clause-step c = λ N w place. no_memory

pub returns-in_default-used-clause-step : goal.returns-in_default-used-clause-step
returns-in_default-used-clause-step c = λ N w place. no_memory

pub returns-in_default-type_at-clause-step : goal.returns-in_default-type_at-clause-step
returns-in_default-type_at-clause-step c = λ N w place. no_memory

pub returns-clause-step : goal.returns-clause-step
returns-clause-step c = λ N w place. use_done first_name_alone N (kinds_at c.args.site.now) (types_at c.args.site.now) c.args.name place c.args.modules c.args.at _ w (c.in-Ok-used.ensures first_name_alone N) (c.hold-head.ensures _ (use_told c.ref_name-first_name.ensures c.or_function-called.ensures)) c.bound_name.ensures c.in-Ok-type_at.ensures c.no_held.ensures

pub returns-clause-ends : goal.returns-clause-ends
returns-clause-ends c = λ place. record { named = use_named c.ref_name-first_name.ensures c.or_function-called.ensures; next = c.in-Ok.ensures }
