use Rattle.std.proofs.Common.{[], Some, get_or, sym, ap, ◌∙◌, arith}
use Rattle.std.specs.Str.{bytes_eq}
use Rattle.fut_flat.specs.Erased.{texts}
use Rattle.unfold_measure.specs.Held.{known_of}
use Rattle.unfold_measure.proofs.Fielding.{field_here, field_on, field_done}
use Rattle.unfold_measure.proofs.records.field_known.Goals as goal

pub returns-then-eq : goal.returns-then-eq
returns-then-eq c = ap (λ z. Some (known_of z)) c.known-item.is ∙ field_here c.args.name.now (texts c.args.names.now) _ c.loop-known.known-index _ c.loop-known-test.true c.loop-known.invariant.1 _ (ap (λ z. bytes_eq (get_or (texts c.args.names.now) z []) c.args.name.now) (sym c.loop-known.invariant.0) ∙ ap (λ z. bytes_eq z c.args.name.now) (sym c.name_of.ensures) ∙ sym c.eq.ensures ∙ c.if-eq.true)

pub loop-known-preserved : goal.loop-known-preserved
loop-known-preserved c = (omega (arith, c.loop-known.invariant.0), field_on c.args.name.now (texts c.args.names.now) c.args.parts.now c.loop-known.known-index _ c.loop-known-test.true c.loop-known.invariant.1 (ap (λ z. bytes_eq (get_or (texts c.args.names.now) z []) c.args.name.now) (sym c.loop-known.invariant.0) ∙ ap (λ z. bytes_eq z c.args.name.now) (sym c.name_of.ensures) ∙ sym c.eq.ensures ∙ c.if-eq.false))

pub returns : goal.returns
returns c = sym (c.loop-known.invariant.1 ∙ field_done c.args.name.now (texts c.args.names.now) c.args.parts.now c.loop-known.known-index (omega (arith, c.loop-known-test.false)))
