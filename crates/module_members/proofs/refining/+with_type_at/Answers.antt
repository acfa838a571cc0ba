use Rattle.std.proofs.Common.{refl, sym}
use Rattle.fut_tree.specs.Names.{names}
use Rattle.elab_scopes.specs.Declarations.{with_type_at}
use Rattle.elab_scopes.specs.Held.{module_ref_of}
use Rattle.module_state.proofs.Finding.{path_split}
use Rattle.module_members.proofs.Steps.{goes, halts, path_none, where_is}
use Rattle.module_members.proofs.RefinedLaws.{at_end, behind_module, deeper_at, not_there}
use Rattle.module_members.proofs.refining.+with_type_at.Goals as goal

pub returns-in-empty : goal.returns-in-empty
returns-in-empty t c = where_is module_ref_of (λ p. with_type_at (module_ref_of c.args.of) c.args.name.now p c.args.ty) (sym (path_none c.args.path.now c.in-empty.len_below)) (at_end (module_ref_of c.args.of) c.args.name.now c.args.ty c.with_member.ensures)

pub returns-in-None : goal.returns-in-None
returns-in-None t c = where_is module_ref_of (λ p. with_type_at (module_ref_of c.args.of) c.args.name.now p c.args.ty) (sym (path_split c.args.path.now c.args.name c.in-len1-up.len_at_least)) (not_there (module_ref_of c.args.of) c.args.name.now _ _ c.args.ty _ c.modules.ensures _ c.module_in_module.ensures c.args.of c.in-None.is refl)

pub returns-in-Ok : goal.returns-in-Ok
returns-in-Ok t c = where_is module_ref_of (λ p. with_type_at (module_ref_of c.args.of) c.args.name.now p c.args.ty) (sym (path_split c.args.path.now _ c.in-len1-up.len_at_least)) (deeper_at (module_ref_of c.args.of) c.args.name.now _ _ c.args.ty _ c.modules.ensures _ c.module_in_module.ensures c.in-Some.inner c.in-Some.is
    (goes module_ref_of module_ref_of _ (behind_module (module_ref_of c.args.of) c.args.name.now) c.in-Ok.is c.with_type_at.ensures c.with_member-in-Ok.ensures))

pub returns-in-Err : goal.returns-in-Err
returns-in-Err t c = where_is module_ref_of (λ p. with_type_at (module_ref_of c.args.of) c.args.name.now p c.args.ty) (sym (path_split c.args.path.now _ c.in-len1-up.len_at_least)) (deeper_at (module_ref_of c.args.of) c.args.name.now _ _ c.args.ty _ c.modules.ensures _ c.module_in_module.ensures c.in-Some.inner c.in-Some.is
    (halts module_ref_of module_ref_of _ (behind_module (module_ref_of c.args.of) c.args.name.now) c.in-Err.is c.with_type_at.ensures))
