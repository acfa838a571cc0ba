use Rattle.std.proofs.Common.{refl, sym, ◌∙◌, arith}
use Rattle.unfold_parts.proofs.Operated.{primitive_waits, primitive_is_ready, primitive_runs, primitive_lost, primitive_err}
use Rattle.unfold_parts.proofs.primitives.apply_primitive.Goals as goal

pub returns-then-arguments-arity : goal.returns-then-arguments-arity
returns-then-arguments-arity c = primitive_waits _ _ _ _ _ _ c.in-Ok.ensures.ok _ _ _ refl (omega (arith, c.if-arguments-arity.true, c.arity.ensures)) refl

pub returns-then-not-is_of_scalars : goal.returns-then-not-is_of_scalars
returns-then-not-is_of_scalars c = primitive_is_ready _ _ _ _ _ _ c.in-Ok.ensures.ok _ _ refl (λ lt. omega (arith, lt, c.if-arguments-arity.false, c.arity.ensures)) (sym c.is_of_scalars.ensures ∙ c.if-not-is_of_scalars.true)

pub returns-in-Ok-operate_primitive : goal.returns-in-Ok-operate_primitive
returns-in-Ok-operate_primitive c = primitive_runs _ _ _ _ _ _ c.in-Ok.ensures.ok _ _ _ _ (λ lt. omega (arith, lt, c.if-arguments-arity.false, c.arity.ensures)) (sym c.is_of_scalars.ensures ∙ c.if-not-is_of_scalars.false) c.in-Ok-operate_primitive.ensures

pub returns-in-Err : goal.returns-in-Err
returns-in-Err c = primitive_err _ _ _ _ _ _ _ _ _ c.in-Err.ensures.err

pub returns-in-Err-operate_primitive : goal.returns-in-Err-operate_primitive
returns-in-Err-operate_primitive c = primitive_lost _ _ _ _ _ _ c.in-Ok.ensures.ok _ _ _ _ _ _ _ (λ lt. omega (arith, lt, c.if-arguments-arity.false, c.arity.ensures)) (sym c.is_of_scalars.ensures ∙ c.if-not-is_of_scalars.false) c.in-Err-operate_primitive.ensures
