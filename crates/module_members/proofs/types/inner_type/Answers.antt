use Rattle.std.proofs.Common.{false, []}
use Rattle.elab_scopes.specs.Declarations.{as_type, declare, no_type}
use Rattle.module_state.specs.Standing.{alone}
use Rattle.module_state.specs.Written.{written_of}
use Rattle.module_members.proofs.Steps.{where_is}
use Rattle.module_members.proofs.types.inner_type.Goals as goal

pub returns-in-Ok : goal.returns-in-Ok
returns-in-Ok c = where_is alone (λ h. as_type c.args.label.name.now (declare no_type h false c.args.label.name.now [] (written_of c.args.value))) c.in-Ok.ensures.ok c.declared_type.ensures
