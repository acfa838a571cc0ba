-- Each operation's demands are its rule.
use Rattle.std.proofs.Common.{◌≡◌, true, false, length, ◌∙◌, ap, arith, refl}
use Rattle.fut_flat.specs.declared.act.Act.TheVariants as act
use Rattle.fut_flat.specs.Terms.{Integer, Truth, Negate, Complement, Binary, Assert, Range}
use Rattle.type_constraints.proofs.Ruling.{demanded_none, demanded_one, demanded_operands, demanded_three, demanded_two, has_parts, only_plain}
use Rattle.type_constraints.proofs.plain.plain_rule.Goals as goal

pub returns-in-Int : goal.returns-in-Int
returns-in-Int c = rw c.in-Int.is (demanded_none (Integer c.in-Int.value c.in-Int.ty) c.args.lo c.args.parts.now c.literal.result (has_parts c.args.act.now (act.Int c.in-Int.value c.in-Int.ty) (length c.args.parts.now) c.in-Int.is c.requires.few) (λ places N K a. c.literal.ensures.says N places c.in-Int.value (a c.args.lo) N.shapes K a) c.literal.ensures.within c.literal.ensures.allowed)

pub returns-in-Truth : goal.returns-in-Truth
returns-in-Truth c = rw c.in-Truth.is (demanded_none (Truth c.in-Truth.field-0) c.args.lo c.args.parts.now c.truth.result (has_parts c.args.act.now (act.Truth c.in-Truth.field-0) (length c.args.parts.now) c.in-Truth.is c.requires.few) (λ places N K a. c.truth.ensures.says N places c.in-Truth.field-0 (a c.args.lo) N.shapes K a) c.truth.ensures.within c.truth.ensures.allowed)

pub returns-in-Negate : goal.returns-in-Negate
returns-in-Negate c = rw c.in-Negate.is (demanded_one Negate c.args.lo c.args.parts.now c.negation.result (has_parts c.args.act.now act.Negate (length c.args.parts.now) c.in-Negate.is c.requires.few) (λ places N K a. c.negation.ensures.says N places (a c.args.lo) N.shapes K a) c.negation.ensures.within c.negation.ensures.allowed)

pub returns-in-Complement : goal.returns-in-Complement
returns-in-Complement c = rw c.in-Complement.is (demanded_one Complement c.args.lo c.args.parts.now c.complement.result (has_parts c.args.act.now act.Complement (length c.args.parts.now) c.in-Complement.is c.requires.few) (λ places N K a. c.complement.ensures.says N places (a c.args.lo) N.shapes K a) c.complement.ensures.within c.complement.ensures.allowed)

pub returns-in-Binary : goal.returns-in-Binary
returns-in-Binary c = rw c.in-Binary.is (demanded_operands (Binary c.in-Binary.op) c.args.lo c.args.parts.now c.binary.result refl (has_parts c.args.act.now (act.Binary c.in-Binary.op) (length c.args.parts.now) c.in-Binary.is c.requires.few) (λ places N K a. c.binary.ensures.says N places N.shapes K a) c.binary.ensures.within c.binary.ensures.allowed)

pub returns-in-Assert : goal.returns-in-Assert
returns-in-Assert c = rw c.in-Assert.is (demanded_one Assert c.args.lo c.args.parts.now c.assertion.result (has_parts c.args.act.now act.Assert (length c.args.parts.now) c.in-Assert.is c.requires.few) (λ places N K a. c.assertion.ensures.says N places (a c.args.lo) N.shapes K a) c.assertion.ensures.within c.assertion.ensures.allowed)

pub returns-then-stepped : goal.returns-then-stepped
returns-then-stepped c = rw (c.in-Range.is ∙ ap (λ b. act.Range b c.in-Range.end) c.if-stepped.true) (demanded_three (Range true c.in-Range.end) c.args.lo c.args.parts.now c.range_by.result (has_parts c.args.act.now (act.Range true c.in-Range.end) (length c.args.parts.now) (c.in-Range.is ∙ ap (λ b. act.Range b c.in-Range.end) c.if-stepped.true) c.requires.few) (λ places N K a. c.range_by.ensures.says N places c.in-Range.end (a c.args.lo) N.shapes K a) c.range_by.ensures.within c.range_by.ensures.allowed)

pub returns-else-stepped : goal.returns-else-stepped
returns-else-stepped c = rw (c.in-Range.is ∙ ap (λ b. act.Range b c.in-Range.end) c.if-stepped.false) (demanded_two (Range false c.in-Range.end) c.args.lo c.args.parts.now c.range.result (has_parts c.args.act.now (act.Range false c.in-Range.end) (length c.args.parts.now) (c.in-Range.is ∙ ap (λ b. act.Range b c.in-Range.end) c.if-stepped.false) c.requires.few) (λ places N K a. c.range.ensures.says N places c.in-Range.end (a c.args.lo) N.shapes K a) c.range.ensures.within c.range.ensures.allowed)

pub bounds-parts-0 : goal.bounds-parts-0
bounds-parts-0 c = let few : length c.args.parts.now ≡ 1 = has_parts c.args.act.now act.Negate (length c.args.parts.now) c.in-Negate.is c.requires.few in omega (arith, few)

pub bounds-parts-0-in-Complement : goal.bounds-parts-0-in-Complement
bounds-parts-0-in-Complement c = let few : length c.args.parts.now ≡ 1 = has_parts c.args.act.now act.Complement (length c.args.parts.now) c.in-Complement.is c.requires.few in omega (arith, few)

pub bounds-parts-0-in-Binary : goal.bounds-parts-0-in-Binary
bounds-parts-0-in-Binary c = let few : length c.args.parts.now ≡ 2 = has_parts c.args.act.now (act.Binary c.in-Binary.op) (length c.args.parts.now) c.in-Binary.is c.requires.few in omega (arith, few)

pub bounds-parts-1 : goal.bounds-parts-1
bounds-parts-1 c = let few : length c.args.parts.now ≡ 2 = has_parts c.args.act.now (act.Binary c.in-Binary.op) (length c.args.parts.now) c.in-Binary.is c.requires.few in omega (arith, few)

pub bounds-parts-0-in-Assert : goal.bounds-parts-0-in-Assert
bounds-parts-0-in-Assert c = let few : length c.args.parts.now ≡ 1 = has_parts c.args.act.now act.Assert (length c.args.parts.now) c.in-Assert.is c.requires.few in omega (arith, few)

pub bounds-parts-0-then-stepped : goal.bounds-parts-0-then-stepped
bounds-parts-0-then-stepped c = let few : length c.args.parts.now ≡ 3 = has_parts c.args.act.now (act.Range true c.in-Range.end) (length c.args.parts.now) (c.in-Range.is ∙ ap (λ b. act.Range b c.in-Range.end) c.if-stepped.true) c.requires.few in omega (arith, few)

pub bounds-parts-1-then-stepped : goal.bounds-parts-1-then-stepped
bounds-parts-1-then-stepped c = let few : length c.args.parts.now ≡ 3 = has_parts c.args.act.now (act.Range true c.in-Range.end) (length c.args.parts.now) (c.in-Range.is ∙ ap (λ b. act.Range b c.in-Range.end) c.if-stepped.true) c.requires.few in omega (arith, few)

pub bounds-parts-2 : goal.bounds-parts-2
bounds-parts-2 c = let few : length c.args.parts.now ≡ 3 = has_parts c.args.act.now (act.Range true c.in-Range.end) (length c.args.parts.now) (c.in-Range.is ∙ ap (λ b. act.Range b c.in-Range.end) c.if-stepped.true) c.requires.few in omega (arith, few)

pub bounds-parts-0-in-Range : goal.bounds-parts-0-in-Range
bounds-parts-0-in-Range c = let few : length c.args.parts.now ≡ 2 = has_parts c.args.act.now (act.Range false c.in-Range.end) (length c.args.parts.now) (c.in-Range.is ∙ ap (λ b. act.Range b c.in-Range.end) c.if-stepped.false) c.requires.few in omega (arith, few)

pub bounds-parts-1-in-Range : goal.bounds-parts-1-in-Range
bounds-parts-1-in-Range c = let few : length c.args.parts.now ≡ 2 = has_parts c.args.act.now (act.Range false c.in-Range.end) (length c.args.parts.now) (c.in-Range.is ∙ ap (λ b. act.Range b c.in-Range.end) c.if-stepped.false) c.requires.few in omega (arith, few)

pub unreachable-requires : goal.unreachable-requires
unreachable-requires c = only_plain c.args.act.now c.requires.plain c.in_default.not-Int c.in_default.not-Truth c.in_default.not-Negate c.in_default.not-Complement c.in_default.not-Binary c.in_default.not-Assert c.in_default.not-Range
