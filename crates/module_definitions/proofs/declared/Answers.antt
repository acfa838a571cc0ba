-- A definition that counts, one whose names alone are looked at, and one that is refused.
use Rattle.std.proofs.Common.{refl, rules}
use Rattle.fut_tree.specs.Pats.{heads_of}
use Rattle.module_state.specs.Standing.{stops}
use Rattle.module_state.specs.Written.{written_of}
use Rattle.module_definitions.proofs.Definitions.{declared_bare, declared_live, not_declared}
use Rattle.module_definitions.proofs.declared.Goals as goal

pub returns-then-not-here : goal.returns-then-not-here
returns-then-not-here c =
    declared_bare c.args.other c.args.here c.args.is_entry c.args.name.now (heads_of c.args.heads.now) (written_of c.args.value) c.args.state.now _ c.see.ensures.scope c.see.ensures.made
    _ _ _ _ _ (search rules) c.in-Ok.ensures c.count-before.ensures c.forget.ensures.made c.forget.ensures.locals c.forget.ensures.modules refl refl refl refl refl refl refl

pub returns-in-Ok-push : goal.returns-in-Ok-push
returns-in-Ok-push c =
    declared_live c.args.other c.args.here c.args.is_entry c.args.name.now (heads_of c.args.heads.now) (written_of c.args.value) c.args.state.now _ c.see.ensures.scope c.see.ensures.made
    _ _ _ (search rules) c.in-Ok.ensures c.in-Ok-push.ensures.items refl refl refl refl refl refl

pub returns-in-Err-push : goal.returns-in-Err-push
returns-in-Err-push c = stops

pub returns-in-Err : goal.returns-in-Err
returns-in-Err c =
    not_declared c.args.other c.args.here c.args.is_entry c.args.name.now (heads_of c.args.heads.now) (written_of c.args.value) c.args.state.now _ c.see.ensures.scope c.see.ensures.made
    _ _ _ c.in-Err.ensures
