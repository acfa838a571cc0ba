use Rattle.elab_scopes.specs.Held.{member_of, module_ref_of}
use Rattle.module_members.proofs.RefinedLaws.{member_added}
use Rattle.module_members.proofs.refining.with_member.Goals as goal

pub returns-in-Ok-more_members : goal.returns-in-Ok-more_members
returns-in-Ok-more_members c = member_added (member_of c.args.member) (module_ref_of c.args.of) _ c.in-Ok.contents _ _ c.modules.ensures c.in-Ok.ensures.ok c.in-Ok-members_in.ensures.ok c.in-Ok-more_members.ensures.ok c.new_module.ensures
