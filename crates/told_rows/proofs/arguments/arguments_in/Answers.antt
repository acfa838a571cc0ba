use Rattle.told_rows.proofs.ArgumentForms.{all_told}
use Rattle.told_rows.proofs.arguments.arguments_in.Goals as goal

pub returns : goal.returns
returns c = all_told c.args.parts.now c.args.rows.now _ _ _ _ c.new-made.ensures.items c.in_ok-add_data.ensures c.in_ok-add_rows.ensures c.into_bump_slice.ensures
