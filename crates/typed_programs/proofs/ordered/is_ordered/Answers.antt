use Rattle.std.proofs.Common.{subst, ◌∙◌}
use Rattle.fut_flat.specs.Erased.{texts}
use Rattle.typed_programs.specs.Ordered.{Labels_known}
use Rattle.typed_programs.proofs.Ordering.{shows_ordered, texts_long}
use Rattle.typed_programs.proofs.ordered.is_ordered.Goals as goal

pub returns : goal.returns
returns c = λ e.
    shows_ordered c.args.inference.now c.requires (texts c.args.names.now) (texts_long c.args.names.now ∙ c.if-names-many.false ∙ c.len-many.ensures) (c.are_numbered.ensures c.if-not-are_numbered.false) (c.rise.ensures e)
    (subst (λ many. Labels_known c.args.inference.now.table.labels many) c.len-many.ensures (subst (λ ls. Labels_known ls c.len-many.result) c.as_slice.ensures (c.are_below.ensures c.if-not-are_below.false)))
