use Rattle.import_rows.proofs.Rows.{row_is}
use Rattle.import_rows.proofs.row_of.Goals as goal

pub returns : goal.returns
returns c = row_is c.args.files.now c.args.at c.index-files-at.result c.in_ok-texts.texts.now c.new-row.result.items c.put_numbers.new.row.items c.into_bump_slice.result.now c.requires c.in_ok-texts.ensures c.new-row.ensures.items c.in_ok-put_numbers.ensures c.into_bump_slice.ensures
