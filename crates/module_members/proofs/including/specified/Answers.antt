use Rattle.std.proofs.Common.{sym, subst, Ok, Err}
use Rattle.elab_scopes.specs.declared.refusal.Stop.TheVariants as stop
use Rattle.module_state.specs.declared.state.Specified.{Specified}
use Rattle.module_state.specs.Standing.{alone, specified_of}
use Rattle.module_members.specs.Steps.{Behind, made, ended, no_memory, more_specified}
use Rattle.module_members.proofs.SeenLaws.{both_specified}
use Rattle.module_members.proofs.including.specified.Goals as goal

pub returns-in-Err : goal.returns-in-Err
returns-in-Err c = subst (λ q. Behind alone specified_of (λ ms. more_specified ms (specified_of c.args.before)) q (Err c.in-Err.stop)) (sym c.in-Err.is) ended

pub returns-in-Err-seen_behind : goal.returns-in-Err-seen_behind
returns-in-Err-seen_behind c = subst (λ q. Behind alone specified_of (λ ms. more_specified ms (specified_of c.args.before)) q (Err stop.Memory)) (sym c.in-Ok.is) no_memory

pub returns-in-Ok-more_members : goal.returns-in-Ok-more_members
returns-in-Ok-more_members c =
    let y : Specified = record { seen = c.in-Ok-seen_behind.seen; met = c.in-Ok-more_members.met } in
    subst (λ q. Behind alone specified_of (λ ms. more_specified ms (specified_of c.args.before)) q (Ok y)) (sym c.in-Ok.is) (made {y = y} (both_specified (alone c.in-Ok.member) c.args.before y c.in-Ok-seen_behind.ensures.ok c.in-Ok-more_members.ensures.ok))

pub returns-in-Err-more_members : goal.returns-in-Err-more_members
returns-in-Err-more_members c = subst (λ q. Behind alone specified_of (λ ms. more_specified ms (specified_of c.args.before)) q (Err stop.Memory)) (sym c.in-Ok.is) no_memory
