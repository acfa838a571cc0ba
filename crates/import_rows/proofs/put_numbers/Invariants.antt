-- The numbers that are still to come.
use Rattle.std.proofs.Common.{◌≡◌, ◌++◌, drop}
use Rattle.fut_tree.specs.Names.{names}
use Rattle.file_order.specs.Order.{numbers_of}
use Rattle.module_state.specs.Written.{files_of}
use Rattle.import_rows.proofs.put_numbers.Given as goal

abbrev pub invariant-loop-text : goal.invariant-loop-text
invariant-loop-text l = l.row.items ++ numbers_of (files_of l.files) l.from (names (drop l.text-index l.texts)) ≡ l.fn.row.items ++ numbers_of (files_of l.files) l.from (names l.texts)
