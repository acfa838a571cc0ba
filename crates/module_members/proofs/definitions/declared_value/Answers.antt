use Rattle.std.proofs.Common.{[], ◌∷◌, refl}
use Rattle.fut_tree.specs.Pats.{heads_of}
use Rattle.elab_scopes.specs.Scopes.{value_member}
use Rattle.elab_scopes.specs.Declarations.{declare, no_value}
use Rattle.module_state.specs.Standing.{alone, here_of}
use Rattle.module_state.specs.Written.{written_of}
use Rattle.module_state.proofs.Stands.{makes, told}
use Rattle.module_members.proofs.Steps.{halts}
use Rattle.module_members.proofs.definitions.declared_value.Goals as goal

pub returns-in-Ok : goal.returns-in-Ok
returns-in-Ok c = makes (λ r. r) alone (declare no_value (here_of c.args.here) c.args.is_entry c.args.name.now (heads_of c.args.heads.now) (written_of c.args.value)) (λ r. value_member c.args.name.now r ∷ []) _ refl (told (λ r. r) _ c.in-Ok.is c.declared.ensures)

pub returns-in-Err : goal.returns-in-Err
returns-in-Err c = halts (λ r. r) alone (declare no_value (here_of c.args.here) c.args.is_entry c.args.name.now (heads_of c.args.heads.now) (written_of c.args.value)) _ c.in-Err.is c.declared.ensures
