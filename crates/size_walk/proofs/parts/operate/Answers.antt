use Rattle.std.proofs.Common.{map, refl}
use Rattle.std.proofs.lemmas.Result.{err_from_is_err_and}
use Rattle.fut_flat.specs.Erased.{operation_of, term_of, terms}
use Rattle.size_arena.specs.Trees.{sizes_of}
use Rattle.size_program.specs.Program.{sub_of}
use Rattle.size_walk.proofs.PartForms.{operated, second_stops}
use Rattle.size_walk.proofs.parts.operate.Goals as goal

pub returns-in_err-note_second : goal.returns-in_err-note_second
returns-in_err-note_second c =
    let p = err_from_is_err_and c.from_residual-in_err-note_second.result c.from_residual-in_err-note_second.ensures.1 in
    rw (p.1, p.2) (λ N k. second_stops N (sub_of c.args.program.now.types.now) (operation_of c.args.act.now) (terms (map term_of c.args.parts.now)) c.args.node c.args.first (sizes_of c.args.row.now.sizes.now) c.args.tables.now _ _ (c.in_ok-size.ensures N k) c.in_ok-size.size refl _ (c.in_err-note_second.ensures N (sub_of c.args.program.now.types.now)) _ refl)

pub returns : goal.returns
returns c = λ N k. operated N (sub_of c.args.program.now.types.now) (operation_of c.args.act.now) (terms (map term_of c.args.parts.now)) c.args.node c.args.first (sizes_of c.args.row.now.sizes.now) c.args.tables.now _ _ (c.in_ok-size.ensures N k) c.in_ok-size.size refl _ (c.in_ok-note_second.ensures N (sub_of c.args.program.now.types.now)) _ refl
