use Rattle.fut_tree.specs.ModTypes.{with_of}
use Rattle.fut_tree.specs.Names.{names}
use Rattle.std.proofs.Common.{refl}
use Rattle.elab_scopes.specs.Resolve.{after}
use Rattle.elab_scopes.specs.Declarations.{from, given_in, left_open, with_type}
use Rattle.elab_scopes.specs.Held.{module_ref_of}
use Rattle.module_state.specs.Standing.{here_of}
use Rattle.module_members.proofs.Steps.{from_found, from_refused, goes, halts}
use Rattle.module_members.proofs.refining.refined_once.Goals as goal

pub returns-in-Err : goal.returns-in-Err
returns-in-Err c = halts (λ r. r) module_ref_of (λ s. from (left_open s.modules c.args.with.place (module_ref_of c.args.of) (names c.args.with.path.now)) s) (λ r s. after (with_type (here_of c.args.here) (with_of c.args.with) s) (λ r. given_in (module_ref_of c.args.of) (names c.args.with.path.now) r)) refl
    (from_refused (λ r. r) (λ cs. left_open cs c.args.with.place (module_ref_of c.args.of) (names c.args.with.path.now)) _ c.modules.ensures _ c.left_open.ensures c.in-Err.refusal {d1 = c.args.state.now} c.in-Err.is)

pub returns-in-Ok-with_type : goal.returns-in-Ok-with_type
returns-in-Ok-with_type c = goes (λ r. r) module_ref_of (λ s. from (left_open s.modules c.args.with.place (module_ref_of c.args.of) (names c.args.with.path.now)) s) (λ r s. after (with_type (here_of c.args.here) (with_of c.args.with) s) (λ r. given_in (module_ref_of c.args.of) (names c.args.with.path.now) r)) refl
    (from_found (λ r. r) (λ cs. left_open cs c.args.with.place (module_ref_of c.args.of) (names c.args.with.path.now)) _ c.modules.ensures _ c.left_open.ensures c.in-Ok.field-0 c.in-Ok.is)
    (goes (λ r. r) module_ref_of (with_type (here_of c.args.here) (with_of c.args.with)) (λ r. given_in (module_ref_of c.args.of) (names c.args.with.path.now) r) c.in-Ok-with_type.is c.with_type.ensures c.given_in.ensures)

pub returns-in-Err-with_type : goal.returns-in-Err-with_type
returns-in-Err-with_type c = goes (λ r. r) module_ref_of (λ s. from (left_open s.modules c.args.with.place (module_ref_of c.args.of) (names c.args.with.path.now)) s) (λ r s. after (with_type (here_of c.args.here) (with_of c.args.with) s) (λ r. given_in (module_ref_of c.args.of) (names c.args.with.path.now) r)) refl
    (from_found (λ r. r) (λ cs. left_open cs c.args.with.place (module_ref_of c.args.of) (names c.args.with.path.now)) _ c.modules.ensures _ c.left_open.ensures c.in-Ok.field-0 c.in-Ok.is)
    (halts (λ r. r) module_ref_of (with_type (here_of c.args.here) (with_of c.args.with)) (λ r. given_in (module_ref_of c.args.of) (names c.args.with.path.now) r) c.in-Err-with_type.is c.with_type.ensures)
