use Rattle.std.proofs.Common.{sym}
use Rattle.fut_tree.specs.ModTypes.{label_of}
use Rattle.module_state.specs.declared.state.Meeting.TheVariants as held_meeting
use Rattle.module_state.specs.Standing.{meeting_of}
use Rattle.module_state.proofs.Stands.{at_once}
use Rattle.module_members.proofs.Steps.{where_is}
use Rattle.module_walk.specs.Steps.{meeting_within}
use Rattle.module_walk.proofs.parts.meeting_within.Goals as goal

pub returns-in-Hidden : goal.returns-in-Hidden
returns-in-Hidden c = where_is meeting_of (λ m. meeting_within (label_of c.args.label) (meeting_of m)) (sym c.in-Hidden.is) c.inner_meeting.ensures

pub returns-in-Shown : goal.returns-in-Shown
returns-in-Shown c = where_is meeting_of (λ m. meeting_within (label_of c.args.label) (meeting_of m)) (sym c.in-Shown.is) c.inner_meeting-in-Shown.ensures

pub returns-in-Nothing : goal.returns-in-Nothing
returns-in-Nothing c = where_is meeting_of (λ m. meeting_within (label_of c.args.label) (meeting_of m)) (sym c.in-Nothing.is) (at_once meeting_of held_meeting.Nothing c.args.state.now)
