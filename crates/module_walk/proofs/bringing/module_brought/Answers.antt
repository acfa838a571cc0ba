use Rattle.std.proofs.Common.{[], ◌∷◌, sym, subst, Ok, Err}
use Rattle.elab_scopes.specs.Scopes.{module_member}
use Rattle.elab_scopes.specs.Held.{module_ref_of}
use Rattle.elab_scopes.specs.Declarations.{brought}
use Rattle.elab_scopes.specs.declared.refusal.Stop.TheVariants as stop
use Rattle.module_state.specs.Standing.{block_of}
use Rattle.module_members.specs.Steps.{Behind, made, ended, no_memory}
use Rattle.module_walk.proofs.bringing.module_brought.Goals as goal

pub returns-in-Ok-member_brought : goal.returns-in-Ok-member_brought
returns-in-Ok-member_brought c = subst (λ q. Behind module_ref_of block_of (λ m. brought c.args.is_local (module_member c.args.name.now m ∷ []) (module_member c.args.name.now m ∷ []) (block_of c.args.block)) q (Ok c.in-Ok-member_brought.block)) (sym c.in-Ok.is) (made {y = c.in-Ok-member_brought.block} c.in-Ok-member_brought.ensures.ok)

pub returns-in-Err-member_brought : goal.returns-in-Err-member_brought
returns-in-Err-member_brought c = subst (λ q. Behind module_ref_of block_of (λ m. brought c.args.is_local (module_member c.args.name.now m ∷ []) (module_member c.args.name.now m ∷ []) (block_of c.args.block)) q (Err stop.Memory)) (sym c.in-Ok.is) no_memory

pub returns-in-Err : goal.returns-in-Err
returns-in-Err c = subst (λ q. Behind module_ref_of block_of (λ m. brought c.args.is_local (module_member c.args.name.now m ∷ []) (module_member c.args.name.now m ∷ []) (block_of c.args.block)) q (Err c.in-Err.stop)) (sym c.in-Err.is) ended
