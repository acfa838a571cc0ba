use Rattle.std.proofs.Common.{map, refl, sym, ap, ◌∙◌}
use Rattle.fut_flat.specs.Erased.{texts}
use Rattle.unfold_measure.specs.Held.{known_of, named}
use Rattle.unfold_measure.proofs.Mirror.{known_data, known_record}
use Rattle.unfold_measure.proofs.Fielding.{put_known}
use Rattle.unfold_measure.proofs.Parts.{replaced_data, replaced_by_function, replaced_field, replaced_neither, no_memory_for}
use Rattle.unfold_measure.proofs.operations.replaced.Goals as goal

pub returns-then-is_data : goal.returns-then-is_data
returns-then-is_data c = replaced_data _ _ _ _ refl (known_data _ c.in-Data.is) (sym c.is_data.ensures ∙ c.if-is_data.true)

pub returns-else-is_data : goal.returns-else-is_data
returns-else-is_data c = replaced_by_function _ _ _ (known_data _ c.in-Data.is) (sym c.is_data.ensures ∙ c.if-is_data.false)

pub returns-in-Err : goal.returns-in-Err
returns-in-Err c = no_memory_for _ _ c.in-Err.ensures.err

pub returns-in-Ok : goal.returns-in-Ok
returns-in-Ok c = replaced_field _ _ _ _ _ (known_record _ _ _ c.in-Record.is) (ap (λ z. named (texts c.in-Record.names.now) (map known_of z)) c.in-Ok.ensures.ok ∙ put_known c.args.name.now c.args.known (texts c.in-Record.names.now) c.in-Record.parts.now) c.known_record.ensures

pub returns-in_default : goal.returns-in_default
returns-in_default c = replaced_neither _ _ _ c.in_default.not-Data c.in_default.not-Record
