use Rattle.std.proofs.Common.{sym}
use Rattle.elab_scopes.specs.Declarations.{given_in}
use Rattle.elab_scopes.specs.Held.{module_ref_of}
use Rattle.module_state.proofs.Stands.{at_once}
use Rattle.module_state.proofs.Finding.{path_split}
use Rattle.module_members.proofs.Steps.{path_none, where_is}
use Rattle.module_members.proofs.refining.given_in.Goals as goal

pub returns-in-empty : goal.returns-in-empty
returns-in-empty c = where_is module_ref_of (λ p. given_in (module_ref_of c.args.of) p c.args.ty) (sym (path_none c.args.path.now c.in-empty.len_below)) (at_once module_ref_of c.args.of c.args.state.now)

pub returns-in-len1-up : goal.returns-in-len1-up
returns-in-len1-up c = where_is module_ref_of (λ p. given_in (module_ref_of c.args.of) p c.args.ty) (sym (path_split c.args.path.now _ c.in-len1-up.len_at_least)) c.with_type_at.ensures
