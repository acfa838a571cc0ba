use Rattle.std.proofs.Common.{arith}
use Rattle.type_rules.proofs.Spelling.{digit_low, digit_high, digit_next, digits_past, digits_all}
use Rattle.type_rules.proofs.spelled.digits.Goals as goal

pub returns-then-code-lt48 : goal.returns-then-code-lt48
returns-then-code-lt48 c = λ m h. absurd (digit_low c.args.bytes.now c.args.bytes.now c.loop-at.value c.loop-at.at c.loop-at-test.true c.loop-at.invariant.so_far c.if-code-lt48.true m h)

pub returns-then-code-gt57 : goal.returns-then-code-gt57
returns-then-code-gt57 c = λ m h. absurd (digit_high c.args.bytes.now c.args.bytes.now c.loop-at.value c.loop-at.at c.loop-at-test.true c.loop-at.invariant.so_far c.if-code-gt57.true m h)

pub returns-then-value-ge4294967296 : goal.returns-then-value-ge4294967296
returns-then-value-ge4294967296 c = digits_past c.args.bytes.now c.args.bytes.now c.loop-at.value c.loop-at.at c.if-value-ge4294967296.true c.loop-at.invariant.so_far

pub returns-then-value-ge4294967296-2 : goal.returns-then-value-ge4294967296-2
returns-then-value-ge4294967296-2 c = digits_past c.args.bytes.now c.args.bytes.now c.loop-at.value c.loop-at.at c.if-value-ge4294967296-2.true c.loop-at.invariant.so_far

pub loop-at-preserved : goal.loop-at-preserved
loop-at-preserved c = record {
  so_far = λ m. let n = digit_next c.args.bytes.now c.args.bytes.now c.loop-at.value c.loop-at.at c.loop-at-test.true c.loop-at.invariant.so_far c.if-code-lt48.false c.if-code-gt57.false m in n;
  within = omega (arith, c.loop-at-test.true);
}

pub returns : goal.returns
returns c = digits_all c.args.bytes.now c.args.bytes.now c.loop-at.value c.loop-at.at c.loop-at-test.false c.loop-at.invariant.so_far
