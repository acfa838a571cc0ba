use Rattle.std.proofs.lemmas.Result.{err_from_is_err_and}
use Rattle.fut_sizes.specs.Applications.{whole}
use Rattle.fut_sizes.specs.Matching.{nothing_found}
use Rattle.fut_sizes.specs.Sizing.{finished}
use Rattle.size_arena.specs.Trees.{size_of}
use Rattle.size_program.proofs.StepLaws.{out_of_memory}
use Rattle.size_forms.specs.Shown.{tree_is}
use Rattle.size_forms.proofs.CloseForms.{finish_done, finish_stops}
use Rattle.size_forms.proofs.closing.finish_whole.Goals as goal

pub returns-in_err-settle_all : goal.returns-in_err-settle_all
returns-in_err-settle_all c =
    let p = err_from_is_err_and c.from_residual.result c.from_residual.ensures.1 in
    rw (p.1, p.2) (λ N types. out_of_memory tree_is (finished N types c.args.node (whole (size_of c.args.size.now))) _ _)

pub returns-in_err-settled : goal.returns-in_err-settled
returns-in_err-settled c =
    let p = err_from_is_err_and c.from_residual-in_err-settled.result c.from_residual-in_err-settled.ensures.1 in
    rw (p.1, p.2) (λ N types. out_of_memory tree_is (finished N types c.args.node (whole (size_of c.args.size.now))) _ _)

pub returns-in_err-made : goal.returns-in_err-made
returns-in_err-made c =
    let p = err_from_is_err_and c.from_residual-in_err-made.result c.from_residual-in_err-made.ensures.1 in
    rw (p.1, p.2) (λ N types. out_of_memory tree_is (finished N types c.args.node (whole (size_of c.args.size.now))) _ _)

pub returns-in_err-note : goal.returns-in_err-note
returns-in_err-note c =
    let p = err_from_is_err_and c.from_residual-in_err-note.result c.from_residual-in_err-note.ensures.1 in
    let held = c.in_ok-settle_all.ensures.settled nothing_found c.nothing_found-table.ensures in
    let r = c.in_ok-settled.ensures _ held in
    rw (p.1, p.2) (λ N types. finish_stops N types c.args.node c.args.size c.in_ok-settled.settled c.in_ok-made.made _ _ _ c.as_slice.result.now c.as_slice.ensures held r c.in_ok-made.ensures _ c.in_err-note.ensures)

pub returns : goal.returns
returns c =
    let held = c.in_ok-settle_all.ensures.settled nothing_found c.nothing_found-table.ensures in
    let r = c.in_ok-settled.ensures _ held in
    λ N types. finish_done N types c.args.node c.args.size c.in_ok-settled.settled c.in_ok-made.made _ _ _ c.as_slice.result.now c.as_slice.ensures held r c.in_ok-made.ensures _ c.in_ok-note.ensures
