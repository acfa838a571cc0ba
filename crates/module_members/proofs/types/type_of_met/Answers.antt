use Rattle.std.proofs.Common.{map, sym}
use Rattle.fut_tree.specs.ModTypes.{label_of}
use Rattle.fut_tree.specs.Names.{maybe}
use Rattle.elab_scopes.specs.Scopes.{type_in_module}
use Rattle.elab_scopes.specs.Held.{module_ref_of}
use Rattle.module_state.specs.Standing.{alone, given_of, here_of}
use Rattle.module_members.specs.Steps.{type_behind}
use Rattle.module_members.proofs.Steps.{met_found, met_missing, where_is}
use Rattle.module_members.proofs.types.type_of_met.Goals as goal

pub returns-in-None : goal.returns-in-None
returns-in-None c = met_missing alone (λ cs. type_in_module cs (module_ref_of c.args.of) c.args.label.name.now) c.args.label (type_behind c.args.hides (here_of c.args.here) (map given_of c.args.given.now) (label_of c.args.label) (maybe c.args.ty)) _ c.modules.ensures _ c.type_in_module.ensures c.in-None.is

pub returns-in-Some-ty : goal.returns-in-Some-ty
returns-in-Some-ty c = met_found alone (λ cs. type_in_module cs (module_ref_of c.args.of) c.args.label.name.now) c.args.label (type_behind c.args.hides (here_of c.args.here) (map given_of c.args.given.now) (label_of c.args.label) (maybe c.args.ty)) _ c.modules.ensures _ c.type_in_module.ensures c.in-Some.inner c.in-Some.is
    (where_is alone (λ t. type_behind c.args.hides (here_of c.args.here) (map given_of c.args.given.now) (label_of c.args.label) (maybe t) c.in-Some.inner) (sym c.in-Some-ty.is) c.inner_type.ensures)

pub returns-in-None-ty : goal.returns-in-None-ty
returns-in-None-ty c = met_found alone (λ cs. type_in_module cs (module_ref_of c.args.of) c.args.label.name.now) c.args.label (type_behind c.args.hides (here_of c.args.here) (map given_of c.args.given.now) (label_of c.args.label) (maybe c.args.ty)) _ c.modules.ensures _ c.type_in_module.ensures c.in-Some.inner c.in-Some.is
    (where_is alone (λ t. type_behind c.args.hides (here_of c.args.here) (map given_of c.args.given.now) (label_of c.args.label) (maybe t) c.in-Some.inner) (sym c.in-None-ty.is) c.kept_type.ensures)
