use Rattle.typed_programs.proofs.Digits.{spells_nothing, spells_one, no_zero_in_front, spells_more, digits_alone}
use Rattle.typed_programs.proofs.positions.is_position.Goals as goal

pub returns-then-bytes-eq1 : goal.returns-then-bytes-eq1
returns-then-bytes-eq1 c = record {
  position = λ r. spells_one c.args.name.now c.as_bytes-bytes.result.now c.as_bytes-bytes.ensures.value c.if-bytes-eq1.true (c.are_digits.ensures.digits r);
  name = λ r. digits_alone c.args.name.now c.as_bytes-bytes.result.now c.as_bytes-bytes.ensures.value (c.are_digits.ensures.others r);
}

pub returns-then-bytes-eq0-clause-name : goal.returns-then-bytes-eq0-clause-name
returns-then-bytes-eq0-clause-name c r = spells_nothing c.args.name.now c.as_bytes-bytes.result.now c.as_bytes-bytes.ensures.value c.if-bytes-eq0.true

pub returns-then-bytes-eq48-clause-name : goal.returns-then-bytes-eq48-clause-name
returns-then-bytes-eq48-clause-name c r = no_zero_in_front c.args.name.now c.as_bytes-bytes.result.now c.as_bytes-bytes.ensures.value c.if-bytes-eq1.false c.if-bytes-eq48.true

pub returns : goal.returns
returns c = record {
  position = λ r. spells_more c.args.name.now c.as_bytes-bytes.result.now c.as_bytes-bytes.ensures.value c.if-bytes-eq0.false c.if-bytes-eq1.false c.if-bytes-eq48.false (c.are_digits-2.ensures.digits r);
  name = λ r. digits_alone c.args.name.now c.as_bytes-bytes.result.now c.as_bytes-bytes.ensures.value (c.are_digits-2.ensures.others r);
}
