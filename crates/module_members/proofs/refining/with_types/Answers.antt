use Rattle.std.proofs.Common.{◌∷◌, ◌++◌, Ok, ap, map, refl, ◌∙◌}
use Rattle.fut_tree.specs.ModTypes.{with_of}
use Rattle.fut_tree.specs.Names.{names}
use Rattle.elab_scopes.specs.Declarations.{Given_type, State, with_type}
use Rattle.fut_flat.specs.declared.prim.Ref.{Ref}
use Rattle.module_state.specs.Standing.{given_of, here_of}
use Rattle.module_state.proofs.Stands.{makes, told}
use Rattle.module_members.specs.Steps.{all_given}
use Rattle.module_members.proofs.Loops.{from_item, item_next, item_stops, row_ends}
use Rattle.module_members.proofs.Steps.{halts}
use Rattle.module_members.proofs.RefinedLaws.{all_newest, newest_before, one_newer, type_step, types_left, types_more, types_none}
use Rattle.module_members.proofs.refining.with_types.Goals as goal

pub returns-in-Err : goal.returns-in-Err
returns-in-Err c = item_stops (types_left (here_of c.args.here)) (type_step (here_of c.args.here)) (types_more (here_of c.args.here)) (newest_before (map given_of c.args.older.now)) _ c.args.withs.now c.loop-with.with-index c.with-item.result (from_item c.args.withs.now c.loop-with.with-index c.with-item.result c.loop-with-test.true c.with-item.is) all_given c.loop-with.made.items refl
    (halts (λ r. r) (newest_before (map given_of c.args.older.now)) (with_type (here_of c.args.here) (with_of c.with-item.result)) (λ r s. Ok (record { path = names c.with-item.result.path.now; type = r } ∷ newest_before (map given_of c.args.older.now) c.loop-with.made.items, s)) c.in-Err.is c.with_type.ensures) c.loop-with.invariant

pub loop-with-preserved : goal.loop-with-preserved
loop-with-preserved c = item_next (types_left (here_of c.args.here)) (type_step (here_of c.args.here)) (types_more (here_of c.args.here)) (newest_before (map given_of c.args.older.now)) _ c.args.withs.now c.loop-with.with-index c.with-item.result (from_item c.args.withs.now c.loop-with.with-index c.with-item.result c.loop-with-test.true c.with-item.is) c.loop-with.made.items c.push.new.self.items refl
    (makes (λ r. r) (newest_before (map given_of c.args.older.now)) (with_type (here_of c.args.here) (with_of c.with-item.result)) (λ r. record { path = names c.with-item.result.path.now; type = r } ∷ newest_before (map given_of c.args.older.now) c.loop-with.made.items) c.push.new.self.items
    (ap (newest_before (map given_of c.args.older.now)) c.in-Ok-push.ensures.items ∙ one_newer (map given_of c.args.older.now) c.loop-with.made.items _) (told (λ r. r) _ c.in-Ok.is c.with_type.ensures)) c.loop-with.invariant

pub returns-in-Ok-extend_from_slice : goal.returns-in-Ok-extend_from_slice
returns-in-Ok-extend_from_slice c = row_ends (types_left (here_of c.args.here)) (λ gs. gs) (types_none (here_of c.args.here)) (newest_before (map given_of c.args.older.now)) all_given _ c.args.withs.now c.loop-with.with-index c.loop-with.made.items _ c.loop-with-test.false
    (all_newest c.loop-with.made.items c.args.older.now c.into_bump_slice.result.now (c.into_bump_slice.ensures ∙ c.in-Ok-extend_from_slice.ensures.items ∙ ap (λ l. l ++ c.args.older.now) c.reverse.ensures.items)) c.loop-with.invariant
