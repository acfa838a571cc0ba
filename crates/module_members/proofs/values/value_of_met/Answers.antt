use Rattle.fut_tree.specs.ModTypes.{label_of}
use Rattle.fut_tree.specs.Pats.{heads_of}
use Rattle.elab_scopes.specs.Scopes.{value_in_module}
use Rattle.elab_scopes.specs.Declarations.{as_value, declare, no_value, sealed_term, value_met}
use Rattle.std.specs.Prelude.{false}
use Rattle.elab_scopes.specs.Held.{module_ref_of}
use Rattle.module_state.specs.Standing.{alone, here_of}
use Rattle.module_members.proofs.Steps.{met_found, met_missing, where_is}
use Rattle.module_members.proofs.values.value_of_met.Goals as goal

pub returns-in-None : goal.returns-in-None
returns-in-None c = met_missing alone (λ cs. value_in_module cs (module_ref_of c.args.of) c.args.label.name.now) c.args.label (value_met (here_of c.args.here) (label_of c.args.label) (heads_of c.args.heads.now) c.args.ty.now) _ c.modules.ensures _ c.value_in_module.ensures c.in-None.is

pub returns-in-Ok : goal.returns-in-Ok
returns-in-Ok c = met_found alone (λ cs. value_in_module cs (module_ref_of c.args.of) c.args.label.name.now) c.args.label (value_met (here_of c.args.here) (label_of c.args.label) (heads_of c.args.heads.now) c.args.ty.now) _ c.modules.ensures _ c.value_in_module.ensures c.in-Some.inner c.in-Some.is
    (where_is alone (λ h. as_value c.args.label.name.now (declare no_value h false c.args.label.name.now (heads_of c.args.heads.now) (sealed_term c.args.label.place c.args.ty.now))) c.in-Ok.ensures.ok c.declared_value.ensures)
