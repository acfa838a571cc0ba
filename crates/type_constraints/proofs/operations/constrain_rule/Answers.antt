-- Few parts are shown by the test, and what is asked for is the rule.
use Rattle.std.proofs.Common.{◌≡◌, length, ap, arith, subst, sym}
use Rattle.fut_flat.specs.declared.act.Act.TheVariants as act
use Rattle.fut_flat.specs.Terms.{Ascribe, Coerce, Declared, Record_of}
use Rattle.fut_flat.specs.Numbers.{own_numbers}
use Rattle.fut_flat.specs.Erased.{operation_of, texts, type_of}
use Rattle.fut_typing.proofs.Ranges.{own_some}
use Rattle.type_rules.specs.Demands.{Are_demands}
use Rattle.type_rules.proofs.Adding.{on_ok, if_err}
use Rattle.type_constraints.specs.Plain.{Demanded}
use Rattle.type_constraints.proofs.Ruling.{ascribe_is, coerce_is, declared_is, has_parts, never_err, part_below, plain_err, plain_ok, refused_count, rest_plain, rule_err, rule_ok, written_err, written_ok}
use Rattle.type_constraints.proofs.operations.constrain_rule.Goals as goal

pub returns-then-not-works_on-clause-err : goal.returns-then-not-works_on-clause-err
returns-then-not-works_on-clause-err c = λ from lt. never_err c.args.setting.places c.args.setting.base c.args.lo (operation_of c.args.act.now) c.args.parts.now c.args.inference.now c.requires.safe (refused_count c.args.setting.places (operation_of c.args.act.now) c.args.parts.now c.works_on.result c.if-not-works_on.true c.works_on.ensures.1) c.args.setting.depth from

pub returns-in-Tuple-clause-ok : goal.returns-in-Tuple-clause-ok
returns-in-Tuple-clause-ok c = on_ok c.constrain_any.result (λ f from lt. f c.args.setting.depth from) c.constrain_any.ensures.ok

pub returns-in-Tuple-clause-err : goal.returns-in-Tuple-clause-err
returns-in-Tuple-clause-err c = if_err c.constrain_any.result (λ f from lt. f c.args.setting.depth from) c.constrain_any.ensures.err

pub returns-in-Record-clause-ok : goal.returns-in-Record-clause-ok
returns-in-Record-clause-ok c = rw c.in-Record.is (on_ok c.constrain_fields.result (λ f from lt. rule_ok c.args.setting.places c.args.setting.base c.args.lo (Record_of (texts c.in-Record.names.now)) c.args.parts.now (λ N E K a l. tt) c.args.inference.now c.constrain_fields.new.inference c.args.setting.depth from (f c.args.setting.places c.args.setting.depth from)) c.constrain_fields.ensures.ok)

pub returns-in-Record-clause-err : goal.returns-in-Record-clause-err
returns-in-Record-clause-err c = rw c.in-Record.is (if_err c.constrain_fields.result (λ f from lt. rule_err c.args.setting.places c.args.setting.base c.args.lo (Record_of (texts c.in-Record.names.now)) c.args.parts.now (λ N E K a l. tt) c.args.inference.now c.constrain_fields.new.inference c.args.setting.depth from (f c.args.setting.places c.args.setting.depth from)) c.constrain_fields.ensures.err)

pub returns-in-Project-clause-ok : goal.returns-in-Project-clause-ok
returns-in-Project-clause-ok c = rw c.in-Project.is (on_ok c.constrain_project.result (λ f from lt. f c.args.setting.places c.args.setting.depth from) c.constrain_project.ensures.ok)

pub returns-in-Project-clause-err : goal.returns-in-Project-clause-err
returns-in-Project-clause-err c = rw c.in-Project.is (if_err c.constrain_project.result (λ f from lt. f c.args.setting.places c.args.setting.depth from) c.constrain_project.ensures.err)

pub returns-in-Replace-clause-ok : goal.returns-in-Replace-clause-ok
returns-in-Replace-clause-ok c = rw c.in-Replace.is (on_ok c.constrain_replace.result (λ f from lt. f c.args.setting.places c.args.setting.depth from) c.constrain_replace.ensures.ok)

pub returns-in-Replace-clause-err : goal.returns-in-Replace-clause-err
returns-in-Replace-clause-err c = rw c.in-Replace.is (if_err c.constrain_replace.result (λ f from lt. f c.args.setting.places c.args.setting.depth from) c.constrain_replace.ensures.err)

pub returns-in-Ascribe-clause-ok : goal.returns-in-Ascribe-clause-ok
returns-in-Ascribe-clause-ok c = rw c.in-Ascribe.is (on_ok c.constrain_ascription.result (λ f from lt. written_ok c.args.setting.places c.args.setting.base c.args.lo (Ascribe (type_of c.in-Ascribe.ty.now)) (type_of c.in-Ascribe.ty.now) c.args.parts.now (has_parts c.args.act.now (act.Ascribe c.in-Ascribe.ty) (length c.args.parts.now) c.in-Ascribe.is (c.works_on.ensures.0 c.if-not-works_on.false)) (ascribe_is c.args.setting.places (type_of c.in-Ascribe.ty.now) c.args.lo) c.args.inference.now c.constrain_ascription.new.inference f c.args.setting.depth from) c.constrain_ascription.ensures.ok)

pub returns-in-Ascribe-clause-err : goal.returns-in-Ascribe-clause-err
returns-in-Ascribe-clause-err c = rw c.in-Ascribe.is (if_err c.constrain_ascription.result (λ f from lt. written_err c.args.setting.places c.args.setting.base c.args.lo (Ascribe (type_of c.in-Ascribe.ty.now)) (type_of c.in-Ascribe.ty.now) c.args.parts.now (has_parts c.args.act.now (act.Ascribe c.in-Ascribe.ty) (length c.args.parts.now) c.in-Ascribe.is (c.works_on.ensures.0 c.if-not-works_on.false)) (ascribe_is c.args.setting.places (type_of c.in-Ascribe.ty.now) c.args.lo) c.args.inference.now c.constrain_ascription.new.inference f c.args.setting.depth from) c.constrain_ascription.ensures.err)

pub bounds-parts-0 : goal.bounds-parts-0
bounds-parts-0 c = let few : length c.args.parts.now ≡ 1 = has_parts c.args.act.now (act.Ascribe c.in-Ascribe.ty) (length c.args.parts.now) c.in-Ascribe.is (c.works_on.ensures.0 c.if-not-works_on.false) in omega (arith, few)

pub constrain_ascription-requires : goal.constrain_ascription-requires
constrain_ascription-requires c = record { safe = c.requires.safe; number = (omega (arith, c.requires.room, own_some (operation_of c.args.act.now))); part = (let few : length c.args.parts.now ≡ 1 = has_parts c.args.act.now (act.Ascribe c.in-Ascribe.ty) (length c.args.parts.now) c.in-Ascribe.is (c.works_on.ensures.0 c.if-not-works_on.false) in part_below c.args.setting.base c.args.parts.now 0 _ c.requires.parts (omega (arith, few))) }

pub constrain_fields-requires : goal.constrain_fields-requires
constrain_fields-requires c = record { safe = c.requires.safe; number = (omega (arith, c.requires.room, own_some (operation_of c.args.act.now))); parts = c.requires.parts }

pub constrain_project-requires : goal.constrain_project-requires
constrain_project-requires c = record { safe = c.requires.safe; room = (let two : own_numbers (operation_of c.args.act.now) ≡ 2 = ap (λ x. own_numbers (operation_of x)) c.in-Project.is in omega (arith, c.requires.room, two)); parts = c.requires.parts; few = ((has_parts c.args.act.now (act.Project c.in-Project.name) (length c.args.parts.now) c.in-Project.is (c.works_on.ensures.0 c.if-not-works_on.false))) }

pub constrain_replace-requires : goal.constrain_replace-requires
constrain_replace-requires c = record { safe = c.requires.safe; room = (omega (arith, c.requires.room, own_some (operation_of c.args.act.now))); parts = c.requires.parts; few = ((has_parts c.args.act.now (act.Replace c.in-Replace.name) (length c.args.parts.now) c.in-Replace.is (c.works_on.ensures.0 c.if-not-works_on.false))) }

pub returns-in_default-clause-ok : goal.returns-in_default-clause-ok
returns-in_default-clause-ok c = on_ok c.demand.result (λ f from lt. plain_ok c.args.setting.places c.args.setting.base c.args.lo (operation_of c.args.act.now) c.args.parts.now (rest_plain c.args.act.now c.in_default.not-Tuple c.in_default.not-Array c.in_default.not-Index c.in_default.not-Update c.in_default.not-Record c.in_default.not-Project c.in_default.not-Replace c.in_default.not-Ascribe c.in_default.not-Coerce c.in_default.not-Declared) c.as_slice.result.now (subst (λ ds. Demanded (operation_of c.args.act.now) c.args.lo c.args.parts.now ds) (sym c.as_slice.ensures) c.plain_rule-rule.ensures) c.args.inference.now c.demand.new.inference f c.args.setting.depth from) c.demand.ensures.ok

pub returns-in_default-clause-err : goal.returns-in_default-clause-err
returns-in_default-clause-err c = if_err c.demand.result (λ f from lt. plain_err c.args.setting.places c.args.setting.base c.args.lo (operation_of c.args.act.now) c.args.parts.now (rest_plain c.args.act.now c.in_default.not-Tuple c.in_default.not-Array c.in_default.not-Index c.in_default.not-Update c.in_default.not-Record c.in_default.not-Project c.in_default.not-Replace c.in_default.not-Ascribe c.in_default.not-Coerce c.in_default.not-Declared) c.as_slice.result.now (subst (λ ds. Demanded (operation_of c.args.act.now) c.args.lo c.args.parts.now ds) (sym c.as_slice.ensures) c.plain_rule-rule.ensures) c.args.inference.now c.demand.new.inference f c.args.setting.depth from) c.demand.ensures.err

pub demand-requires-clause-within : goal.demand-requires-clause-within
demand-requires-clause-within c = subst (λ ds. Are_demands c.args.inference.now.table c.args.setting.base ds) (sym c.as_slice.ensures) (c.plain_rule-rule.ensures.within _ c.args.setting.base c.requires.room c.requires.parts)

pub plain_rule-rule-requires-clause-plain : goal.plain_rule-rule-requires-clause-plain
plain_rule-rule-requires-clause-plain c = rest_plain c.args.act.now c.in_default.not-Tuple c.in_default.not-Array c.in_default.not-Index c.in_default.not-Update c.in_default.not-Record c.in_default.not-Project c.in_default.not-Replace c.in_default.not-Ascribe c.in_default.not-Coerce c.in_default.not-Declared

pub returns-in-Coerce-clause-ok : goal.returns-in-Coerce-clause-ok
returns-in-Coerce-clause-ok c = rw c.in-Coerce.is (on_ok c.constrain_ascription-in-Coerce.result (λ f from lt. written_ok c.args.setting.places c.args.setting.base c.args.lo (Coerce (type_of c.in-Coerce.ty.now)) (type_of c.in-Coerce.ty.now) c.args.parts.now (has_parts c.args.act.now (act.Coerce c.in-Coerce.ty) (length c.args.parts.now) c.in-Coerce.is (c.works_on.ensures.0 c.if-not-works_on.false)) (coerce_is c.args.setting.places (type_of c.in-Coerce.ty.now) c.args.lo) c.args.inference.now c.constrain_ascription-in-Coerce.new.inference f c.args.setting.depth from) c.constrain_ascription-in-Coerce.ensures.ok)

pub returns-in-Coerce-clause-err : goal.returns-in-Coerce-clause-err
returns-in-Coerce-clause-err c = rw c.in-Coerce.is (if_err c.constrain_ascription-in-Coerce.result (λ f from lt. written_err c.args.setting.places c.args.setting.base c.args.lo (Coerce (type_of c.in-Coerce.ty.now)) (type_of c.in-Coerce.ty.now) c.args.parts.now (has_parts c.args.act.now (act.Coerce c.in-Coerce.ty) (length c.args.parts.now) c.in-Coerce.is (c.works_on.ensures.0 c.if-not-works_on.false)) (coerce_is c.args.setting.places (type_of c.in-Coerce.ty.now) c.args.lo) c.args.inference.now c.constrain_ascription-in-Coerce.new.inference f c.args.setting.depth from) c.constrain_ascription-in-Coerce.ensures.err)

pub returns-in-Declared-clause-ok : goal.returns-in-Declared-clause-ok
returns-in-Declared-clause-ok c = rw c.in-Declared.is (on_ok c.constrain_ascription-in-Declared.result (λ f from lt. written_ok c.args.setting.places c.args.setting.base c.args.lo (Declared (type_of c.in-Declared.ty.now)) (type_of c.in-Declared.ty.now) c.args.parts.now (has_parts c.args.act.now (act.Declared c.in-Declared.ty) (length c.args.parts.now) c.in-Declared.is (c.works_on.ensures.0 c.if-not-works_on.false)) (declared_is c.args.setting.places (type_of c.in-Declared.ty.now) c.args.lo) c.args.inference.now c.constrain_ascription-in-Declared.new.inference f c.args.setting.depth from) c.constrain_ascription-in-Declared.ensures.ok)

pub returns-in-Declared-clause-err : goal.returns-in-Declared-clause-err
returns-in-Declared-clause-err c = rw c.in-Declared.is (if_err c.constrain_ascription-in-Declared.result (λ f from lt. written_err c.args.setting.places c.args.setting.base c.args.lo (Declared (type_of c.in-Declared.ty.now)) (type_of c.in-Declared.ty.now) c.args.parts.now (has_parts c.args.act.now (act.Declared c.in-Declared.ty) (length c.args.parts.now) c.in-Declared.is (c.works_on.ensures.0 c.if-not-works_on.false)) (declared_is c.args.setting.places (type_of c.in-Declared.ty.now) c.args.lo) c.args.inference.now c.constrain_ascription-in-Declared.new.inference f c.args.setting.depth from) c.constrain_ascription-in-Declared.ensures.err)

pub bounds-parts-0-in-Coerce : goal.bounds-parts-0-in-Coerce
bounds-parts-0-in-Coerce c = let few : length c.args.parts.now ≡ 1 = has_parts c.args.act.now (act.Coerce c.in-Coerce.ty) (length c.args.parts.now) c.in-Coerce.is (c.works_on.ensures.0 c.if-not-works_on.false) in omega (arith, few)

pub bounds-parts-0-in-Declared : goal.bounds-parts-0-in-Declared
bounds-parts-0-in-Declared c = let few : length c.args.parts.now ≡ 1 = has_parts c.args.act.now (act.Declared c.in-Declared.ty) (length c.args.parts.now) c.in-Declared.is (c.works_on.ensures.0 c.if-not-works_on.false) in omega (arith, few)

pub constrain_ascription-requires-in-Coerce : goal.constrain_ascription-requires-in-Coerce
constrain_ascription-requires-in-Coerce c = record { safe = c.requires.safe; number = (omega (arith, c.requires.room, own_some (operation_of c.args.act.now))); part = (let few : length c.args.parts.now ≡ 1 = has_parts c.args.act.now (act.Coerce c.in-Coerce.ty) (length c.args.parts.now) c.in-Coerce.is (c.works_on.ensures.0 c.if-not-works_on.false) in part_below c.args.setting.base c.args.parts.now 0 _ c.requires.parts (omega (arith, few))) }

pub constrain_ascription-requires-in-Declared : goal.constrain_ascription-requires-in-Declared
constrain_ascription-requires-in-Declared c = record { safe = c.requires.safe; number = (omega (arith, c.requires.room, own_some (operation_of c.args.act.now))); part = (let few : length c.args.parts.now ≡ 1 = has_parts c.args.act.now (act.Declared c.in-Declared.ty) (length c.args.parts.now) c.in-Declared.is (c.works_on.ensures.0 c.if-not-works_on.false) in part_below c.args.setting.base c.args.parts.now 0 _ c.requires.parts (omega (arith, few))) }

pub constrain_any-requires : goal.constrain_any-requires
constrain_any-requires c = record { safe = c.requires.safe; room = c.requires.room; parts = c.requires.parts }
