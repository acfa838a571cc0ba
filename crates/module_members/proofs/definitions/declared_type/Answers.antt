use Rattle.std.proofs.Common.{false, [], ◌∷◌, refl}
use Rattle.fut_tree.specs.Pats.{heads_of}
use Rattle.elab_scopes.specs.Scopes.{type_member}
use Rattle.elab_scopes.specs.Declarations.{declare, no_type}
use Rattle.module_state.specs.Standing.{alone, here_of}
use Rattle.module_state.specs.Written.{written_of}
use Rattle.module_state.proofs.Stands.{makes, told}
use Rattle.module_members.proofs.Steps.{halts}
use Rattle.module_members.proofs.definitions.declared_type.Goals as goal

pub returns-in-Ok : goal.returns-in-Ok
returns-in-Ok c = makes (λ r. r) alone (declare no_type (here_of c.args.here) false c.args.name.now (heads_of c.args.heads.now) (written_of c.args.value)) (λ r. type_member c.args.name.now r ∷ []) _ refl (told (λ r. r) _ c.in-Ok.is c.declared.ensures)

pub returns-in-Err : goal.returns-in-Err
returns-in-Err c = halts (λ r. r) alone (declare no_type (here_of c.args.here) false c.args.name.now (heads_of c.args.heads.now) (written_of c.args.value)) _ c.in-Err.is c.declared.ensures
