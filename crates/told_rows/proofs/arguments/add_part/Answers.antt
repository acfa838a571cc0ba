use Rattle.std.proofs.Common.{refl, sym, ◌∙◌}
use Rattle.unfold.specs.Held.{known_of}
use Rattle.told_rows.proofs.ArgumentForms.{no_part, one_part}
use Rattle.told_rows.proofs.arguments.add_part.Goals as goal

pub returns-then-is_function : goal.returns-then-is_function
returns-then-is_function c = no_part (known_of c.args.part.now) c.args.made.now.items c.args.made.now.items refl (sym c.if-is_function.true ∙ c.is_function.ensures)

pub returns : goal.returns
returns c = one_part (known_of c.args.part.now) _ _ _ c.in_ok-push.ensures.items c.in_ok-row.ensures c.known_worth-worth.ensures (sym c.if-is_function.false ∙ c.is_function.ensures)
