use Rattle.type_rules.proofs.Spelling.{spells_none, spells_zero, tells_one, tells_more}
use Rattle.type_rules.proofs.spelled.position.Goals as goal

pub returns-then-bytes-eq0 : goal.returns-then-bytes-eq0
returns-then-bytes-eq0 c = λ m h. absurd (spells_none c.args.text.now c.as_bytes-bytes.result.now c.as_bytes-bytes.ensures.value c.if-bytes-eq0.true m h)

pub returns-then-bytes-eq1 : goal.returns-then-bytes-eq1
returns-then-bytes-eq1 c = tells_one c.args.text.now c.as_bytes-bytes.result.now c.as_bytes-bytes.ensures.value c.if-bytes-eq1.true c.digits.result c.digits.ensures

pub returns-then-bytes-eq48 : goal.returns-then-bytes-eq48
returns-then-bytes-eq48 c = λ m h. absurd (spells_zero c.args.text.now c.as_bytes-bytes.result.now c.as_bytes-bytes.ensures.value c.if-bytes-eq1.false c.if-bytes-eq48.true m h)

pub returns : goal.returns
returns c = tells_more c.args.text.now c.as_bytes-bytes.result.now c.as_bytes-bytes.ensures.value c.if-bytes-eq0.false c.if-bytes-eq1.false c.if-bytes-eq48.false c.digits-2.result c.digits-2.ensures
