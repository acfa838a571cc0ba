use Rattle.std.proofs.Common.{◌+◌, ◌++◌, drop, sym, ◌∙◌, arith, List}
use Rattle.std.specs.Borrow.{Bor}
use Rattle.std.proofs.lemmas.List.{at_drop_all, at_drop_more}
use Rattle.fut_ast.specs.Sorts.{Text}
use Rattle.fut_tree.specs.Names.{names}
use Rattle.file_order.specs.Order.{numbers_of}
use Rattle.module_state.specs.Written.{files_of}
use Rattle.import_rows.proofs.Rows.{number_put, row_done}
use Rattle.import_rows.proofs.put_numbers.Goals as goal

pub loop-text-preserved : goal.loop-text-preserved
loop-text-preserved c =
    let fs = files_of c.args.files.now in
    let xs = c.args.texts.now in let i = c.loop-text.text-index in
    let so = sym (at_drop_more (λ (l : List (Bor Text)). c.loop-text.row.items ++ numbers_of fs c.args.from (names l)) xs i _ c.loop-text-test.true) ∙ c.loop-text.invariant in
    number_put fs c.args.from c.loop-text.row.items c.put_number.new.row.items _ _ (names (drop (i + 1) xs)) c.in_ok-put_number.ensures so

pub returns : goal.returns
returns c =
    let fs = files_of c.args.files.now in
    row_done fs c.args.from c.loop-text.row.items _
    (sym (at_drop_all (λ (l : List (Bor Text)). c.loop-text.row.items ++ numbers_of fs c.args.from (names l)) c.args.texts.now c.loop-text.text-index (omega (arith, c.loop-text-test.false))) ∙ c.loop-text.invariant)
