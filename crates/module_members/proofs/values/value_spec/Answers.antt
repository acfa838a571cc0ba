use Rattle.fut_tree.specs.ModTypes.{label_of}
use Rattle.fut_tree.specs.Pats.{heads_of}
use Rattle.std.proofs.Common.{sym}
use Rattle.elab_scopes.specs.Declarations.{value_spec}
use Rattle.module_state.specs.Standing.{alone, here_of, meeting_of}
use Rattle.module_members.proofs.Steps.{where_is}
use Rattle.module_members.proofs.values.value_spec.Goals as goal

pub returns-in-Hidden : goal.returns-in-Hidden
returns-in-Hidden c = where_is alone (λ m. value_spec (here_of c.args.here) (meeting_of m) (label_of c.args.label) (heads_of c.args.heads.now) c.args.ty.now) (sym c.in-Hidden.is) c.value_of_met.ensures

pub returns-in-Shown : goal.returns-in-Shown
returns-in-Shown c = where_is alone (λ m. value_spec (here_of c.args.here) (meeting_of m) (label_of c.args.label) (heads_of c.args.heads.now) c.args.ty.now) (sym c.in-Shown.is) c.value_of_met-in-Shown.ensures

pub returns-in-Nothing : goal.returns-in-Nothing
returns-in-Nothing c = where_is alone (λ m. value_spec (here_of c.args.here) (meeting_of m) (label_of c.args.label) (heads_of c.args.heads.now) c.args.ty.now) (sym c.in-Nothing.is) c.declared_value.ensures
