use Rattle.std.proofs.Common.{Ok, ap, map, option_map, ◌∙◌}
use Rattle.fut_tree.specs.ModTypes.{label_of}
use Rattle.elab_scopes.specs.Scopes.{module_in_module}
use Rattle.elab_scopes.specs.Declarations.{given_within}
use Rattle.elab_scopes.specs.Held.{module_ref_of}
use Rattle.module_state.specs.Standing.{given_of, meeting_of}
use Rattle.module_members.proofs.Steps.{met_found, met_missing}
use Rattle.module_walk.specs.Steps.{meets}
use Rattle.module_walk.proofs.Laws.{made_at_once}
use Rattle.module_walk.proofs.parts.inner_meeting.Goals as goal

pub returns-in-None : goal.returns-in-None
returns-in-None c = met_missing meeting_of (λ cs. module_in_module cs (module_ref_of c.args.of) c.args.label.name.now) c.args.label (λ n s. Ok (meets c.args.hides n (given_within (map given_of c.args.given.now) c.args.label.name.now), s)) _ c.modules.ensures _ c.module_in_module.ensures (ap (option_map module_ref_of) c.in-None.is)

pub returns-in-Ok : goal.returns-in-Ok
returns-in-Ok c = met_found meeting_of (λ cs. module_in_module cs (module_ref_of c.args.of) c.args.label.name.now) c.args.label (λ n s. Ok (meets c.args.hides n (given_within (map given_of c.args.given.now) c.args.label.name.now), s)) _ c.modules.ensures _ c.module_in_module.ensures (module_ref_of c.in-Some.inner) (ap (option_map module_ref_of) c.in-Some.is)
    (made_at_once meeting_of c.meets.result (meets c.args.hides (module_ref_of c.in-Some.inner) (given_within (map given_of c.args.given.now) c.args.label.name.now)) (c.meets.ensures ∙ ap (meets c.args.hides (module_ref_of c.in-Some.inner)) c.in-Ok.ensures))
