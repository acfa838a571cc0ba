use Rattle.std.proofs.Common.{map, sym}
use Rattle.fut_tree.specs.ModTypes.{label_of}
use Rattle.fut_tree.specs.Names.{maybe}
use Rattle.elab_scopes.specs.Declarations.{nothing, open_type, type_spec}
use Rattle.elab_scopes.specs.Scopes.{type_member}
use Rattle.elab_scopes.specs.Held.{module_ref_of}
use Rattle.elab_scopes.specs.declared.meanings.Member.TheVariants as held_member
use Rattle.module_state.specs.Standing.{alone, given_of, here_of, meeting_of}
use Rattle.module_state.proofs.Stands.{at_once}
use Rattle.module_members.proofs.Steps.{where_is}
use Rattle.module_members.proofs.TypeLaws.{hidden_spec, shown_spec}
use Rattle.module_members.proofs.types.type_spec.Goals as goal

pub returns-in-Hidden : goal.returns-in-Hidden
returns-in-Hidden c = where_is alone (λ m. type_spec (here_of c.args.here) (meeting_of m) (label_of c.args.label) (maybe c.args.ty)) (sym c.in-Hidden.is) (hidden_spec (here_of c.args.here) (module_ref_of c.in-Hidden.of) (map given_of c.in-Hidden.given.now) (label_of c.args.label) (maybe c.args.ty) c.type_of_met.ensures)

pub returns-in-Shown : goal.returns-in-Shown
returns-in-Shown c = where_is alone (λ m. type_spec (here_of c.args.here) (meeting_of m) (label_of c.args.label) (maybe c.args.ty)) (sym c.in-Shown.is) (shown_spec (here_of c.args.here) (module_ref_of c.in-Shown.of) (map given_of c.in-Shown.given.now) (label_of c.args.label) (maybe c.args.ty) c.type_of_met-in-Shown.ensures)

pub returns-in-Some : goal.returns-in-Some
returns-in-Some c = where_is alone (λ m. type_spec (here_of c.args.here) (meeting_of m) (label_of c.args.label) (maybe c.args.ty)) (sym c.in-Nothing.is) (where_is alone (λ t. type_spec (here_of c.args.here) nothing (label_of c.args.label) (maybe t)) (sym c.in-Some.is) c.declared_type.ensures)

pub returns-in-None : goal.returns-in-None
returns-in-None c = where_is alone (λ m. type_spec (here_of c.args.here) (meeting_of m) (label_of c.args.label) (maybe c.args.ty)) (sym c.in-Nothing.is) (where_is alone (λ t. type_spec (here_of c.args.here) nothing (label_of c.args.label) (maybe t)) (sym c.in-None.is) (at_once alone (held_member.Type c.args.label.name open_type) c.args.state.now))
