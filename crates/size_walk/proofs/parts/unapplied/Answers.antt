use Rattle.std.proofs.Common.{refl, sym, ◌∙◌}
use Rattle.std.proofs.lemmas.Result.{err_from_is_err_and}
use Rattle.fut_flat.specs.Erased.{term_of}
use Rattle.size_walk.proofs.PartForms.{not_noted, noted_argument}
use Rattle.size_walk.proofs.parts.unapplied.Goals as goal

pub returns-in_err-note : goal.returns-in_err-note
returns-in_err-note c =
    let p = err_from_is_err_and c.from_residual.result c.from_residual.ensures.1 in
    rw (p.1, p.2) (λ N types. not_noted N types (term_of c.args.exp.now) c.args.node c.args.size c.named_value-value.result c.named_value-value.ensures c.args.tables.now _ (sym c.if-is_use.false ∙ c.is_use.ensures) _ _ refl c.in_err-note.ensures)

pub returns : goal.returns
returns c = λ N types. noted_argument N types (term_of c.args.exp.now) c.args.node c.args.size c.named_value-value.result c.named_value-value.ensures c.args.tables.now _ (sym c.if-is_use.false ∙ c.is_use.ensures) _ _ refl c.in_ok-note.ensures
