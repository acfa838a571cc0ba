use Rattle.std.proofs.Common.{refl, ap, ◌∙◌, map, subst}
use Rattle.block_store.specs.Helds.{IsHeld, low_bits}
use Rattle.block_store.proofs.Valuing.{array_formed, scalar_given}
use Rattle.block_store.proofs.store.Store.value.Goals as goal

pub returns-in-Scalar-clause-same : goal.returns-in-Scalar-clause-same
returns-in-Scalar-clause-same c = scalar_given c.args.self.now c.args.held.now c.in-Scalar.scalar c.value_of.result c.in-Scalar.is c.value_of.ensures.is c.value_of.ensures.formed

pub returns-in_ok-sizes-in-Array-clause-formed : goal.returns-in_ok-sizes-in-Array-clause-formed
returns-in_ok-sizes-in-Array-clause-formed c =
    let h = subst (IsHeld c.args.self.now) c.in-Array.is c.requires in
    array_formed c.args.self.now c.in-Array.view c.in-Array.elem _ h.1 refl (c.in_ok-sizes-in-Array.ensures ∙ c.as_slice.ensures) (c.with_low_bits-words.ensures ∙ ap (map (low_bits c.in-Array.elem)) c.in_ok-cells-in-Array.ensures)
