use Rattle.std.proofs.Common.{map, refl, sym, subst, arith}
use Rattle.unfold.specs.Held.{field_of, known_of}
use Rattle.unfold_parts.specs.Refused.{lost, no_memory}
use Rattle.unfold_parts.proofs.Forms.{form_unlaid}
use Rattle.unfold_parts.proofs.Refusing.{if_memory}
use Rattle.unfold_parts.proofs.Naming.{scalar_like, tuple_named, record_named, tuple_unnamed, record_unnamed, all_unnamed, fields_unnamed, Names_lead, All_named, all_named_start, all_named_on, all_named_end, Fields_named, fields_named_start, fields_named_on, fields_named_end}
use Rattle.unfold_parts.proofs.fresh.+rename.Goals as goal

pub rename-returns-in-Scalar-clause-ok : goal.rename-returns-in-Scalar-clause-ok
rename-returns-in-Scalar-clause-ok t c = scalar_like _ _ _ _ _ c.in-Scalar.is c.rename_scalar.ensures.ok

pub rename-returns-in-Ok-clause-ok : goal.rename-returns-in-Ok-clause-ok
rename-returns-in-Ok-clause-ok t c = tuple_named _ _ _ _ _ _ c.in-Tuple.is refl c.in-Ok.ensures.ok

pub rename-returns-in-Ok-rename_fields-clause-ok : goal.rename-returns-in-Ok-rename_fields-clause-ok
rename-returns-in-Ok-rename_fields-clause-ok t c = record_named _ _ _ _ _ _ c.in-Record.is refl c.in-Ok-rename_fields.ensures.ok

pub rename_all-loop-like-init : goal.rename_all-loop-like-init
rename_all-loop-like-init t c = subst (λ z. Names_lead (All_named c.args.likes.now 0) (All_named c.args.likes.now 0) c.args.naming.now.next c.args.naming.now.next (map known_of z)) (sym c.new-parts.ensures.items) (all_named_start c.args.likes.now c.args.naming.now.next)

pub rename_all-loop-like-preserved : goal.rename_all-loop-like-preserved
rename_all-loop-like-preserved t c = all_named_on _ _ _ _ _ _ _ _ _ c.loop-like-test.true c.loop-like.invariant c.in-Ok.ensures.ok c.in-Ok-push.ensures.items

pub rename_all-returns-clause-ok : goal.rename_all-returns-clause-ok
rename_all-returns-clause-ok t c = all_named_end _ _ _ _ _ c.into_bump_slice.result (omega (arith, c.loop-like-test.false)) c.loop-like.invariant c.into_bump_slice.ensures

pub rename_fields-loop-like-init : goal.rename_fields-loop-like-init
rename_fields-loop-like-init t c = subst (λ z. Names_lead (Fields_named c.args.likes.now 0) (Fields_named c.args.likes.now 0) c.args.naming.now.next c.args.naming.now.next (map field_of z)) (sym c.new-fields.ensures.items) (fields_named_start c.args.likes.now c.args.naming.now.next)

pub rename_fields-loop-like-preserved : goal.rename_fields-loop-like-preserved
rename_fields-loop-like-preserved t c = fields_named_on _ _ _ _ _ _ _ _ _ c.loop-like-test.true refl c.loop-like.invariant c.in-Ok.ensures.ok c.in-Ok-push.ensures.items

pub rename_fields-returns-clause-ok : goal.rename_fields-returns-clause-ok
rename_fields-returns-clause-ok t c = fields_named_end _ _ _ _ _ c.into_bump_slice.result (omega (arith, c.loop-like-test.false)) c.loop-like.invariant c.into_bump_slice.ensures

pub rename-returns-then-deep-ge-MOST_DEEP-clause-err : goal.rename-returns-then-deep-ge-MOST_DEEP-clause-err
rename-returns-then-deep-ge-MOST_DEEP-clause-err t c = no_memory

pub rename-returns-then-naming-eq0-clause-err : goal.rename-returns-then-naming-eq0-clause-err
rename-returns-then-naming-eq0-clause-err t c = no_memory

pub rename-returns-in-Scalar-clause-err : goal.rename-returns-in-Scalar-clause-err
rename-returns-in-Scalar-clause-err t c = if_memory _ _ c.rename_scalar.ensures.err

pub rename-returns-in-Err-clause-err : goal.rename-returns-in-Err-clause-err
rename-returns-in-Err-clause-err t c = tuple_unnamed _ _ _ c.in-Tuple.is c.in-Err.ensures.err

pub rename-returns-in-Err-rename_fields-clause-err : goal.rename-returns-in-Err-rename_fields-clause-err
rename-returns-in-Err-rename_fields-clause-err t c = record_unnamed _ _ _ c.in-Record.is c.in-Err-rename_fields.ensures.err

pub rename-returns-in_default-clause-err : goal.rename-returns-in_default-clause-err
rename-returns-in_default-clause-err t c = lost (form_unlaid _ c.in_default.not-Scalar c.in_default.not-Tuple c.in_default.not-Record _)

pub rename_all-returns-in-Err-clause-err : goal.rename_all-returns-in-Err-clause-err
rename_all-returns-in-Err-clause-err t c = all_unnamed _ _ _ _ c.loop-like-test.true c.in-Err.ensures.err

pub rename_all-returns-in-Err-push-clause-err : goal.rename_all-returns-in-Err-push-clause-err
rename_all-returns-in-Err-push-clause-err t c = no_memory

pub rename_fields-returns-in-Err-clause-err : goal.rename_fields-returns-in-Err-clause-err
rename_fields-returns-in-Err-clause-err t c = fields_unnamed _ _ _ _ c.loop-like-test.true c.in-Err.ensures.err

pub rename_fields-returns-in-Err-push-clause-err : goal.rename_fields-returns-in-Err-push-clause-err
rename_fields-returns-in-Err-push-clause-err t c = no_memory

pub rename_all-returns-in-Err-push-clause-ok : goal.rename_all-returns-in-Err-push-clause-ok
rename_all-returns-in-Err-push-clause-ok t c = tt

pub rename_fields-returns-in-Err-push-clause-ok : goal.rename_fields-returns-in-Err-push-clause-ok
rename_fields-returns-in-Err-push-clause-ok t c = tt

pub rename_all-returns-in-Err-clause-ok : goal.rename_all-returns-in-Err-clause-ok
rename_all-returns-in-Err-clause-ok t c = tt

pub rename_fields-returns-in-Err-clause-ok : goal.rename_fields-returns-in-Err-clause-ok
rename_fields-returns-in-Err-clause-ok t c = tt

pub rename-returns-in-Ok-rename_fields-clause-err : goal.rename-returns-in-Ok-rename_fields-clause-err
rename-returns-in-Ok-rename_fields-clause-err t c = tt

pub rename-returns-in-Ok-clause-err : goal.rename-returns-in-Ok-clause-err
rename-returns-in-Ok-clause-err t c = tt

pub rename-returns-in-Err-rename_fields-clause-ok : goal.rename-returns-in-Err-rename_fields-clause-ok
rename-returns-in-Err-rename_fields-clause-ok t c = tt

pub rename-returns-in-Err-clause-ok : goal.rename-returns-in-Err-clause-ok
rename-returns-in-Err-clause-ok t c = tt

pub rename_all-returns-clause-err : goal.rename_all-returns-clause-err
rename_all-returns-clause-err t c = tt

pub rename_fields-returns-clause-err : goal.rename_fields-returns-clause-err
rename_fields-returns-clause-err t c = tt

pub rename-returns-in_default-clause-ok : goal.rename-returns-in_default-clause-ok
rename-returns-in_default-clause-ok t c = tt

pub rename-returns-then-naming-eq0-clause-ok : goal.rename-returns-then-naming-eq0-clause-ok
rename-returns-then-naming-eq0-clause-ok t c = tt

pub rename-returns-then-deep-ge-MOST_DEEP-clause-ok : goal.rename-returns-then-deep-ge-MOST_DEEP-clause-ok
rename-returns-then-deep-ge-MOST_DEEP-clause-ok t c = tt
