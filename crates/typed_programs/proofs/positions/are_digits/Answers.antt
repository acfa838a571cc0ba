use Rattle.std.proofs.Common.{subst, ◌≡◌, suc, ◌+◌, take, arith}
use Rattle.std.specs.List.{All}
use Rattle.std.proofs.lemmas.List.{take_all}
use Rattle.typed_programs.specs.Trees.{Is_digit}
use mathlib.Core.Logic.{inl, inr}
use Rattle.typed_programs.proofs.Digits.{digits_more, no_digit}
use Rattle.typed_programs.proofs.positions.are_digits.Goals as goal
use Rattle.typed_programs.proofs.positions.are_digits.Goals.{then-byte-lt48-via-then-byte-lt48, then-byte-lt48-via-else-byte-lt48+then-byte-gt57}

pub loop-byte-preserved : goal.loop-byte-preserved
loop-byte-preserved c = subst (λ n. All Is_digit (take n c.args.bytes.now)) (let e : suc c.loop-byte.byte-index ≡ c.loop-byte.byte-index + 1 = omega arith in e) (digits_more c.args.bytes.now c.loop-byte.byte-index c.loop-byte-test.true c.loop-byte.invariant c.if-byte-lt48.false c.if-byte-gt57.false)

pub returns-clause-digits : goal.returns-clause-digits
returns-clause-digits c r = subst (All Is_digit) (take_all c.loop-byte.byte-index c.args.bytes.now c.loop-byte-test.false) c.loop-byte.invariant

pub returns-then-byte-lt48-clause-others : goal.returns-then-byte-lt48-clause-others
returns-then-byte-lt48-clause-others c r h = elim c.then-byte-lt48.branch [
  | then-byte-lt48-via-then-byte-lt48 w ↦ no_digit c.args.bytes.now c.loop-byte.byte-index c.loop-byte-test.true (inl w.if-byte-lt48.true) h
  | then-byte-lt48-via-else-byte-lt48+then-byte-gt57 w ↦ no_digit c.args.bytes.now c.loop-byte.byte-index c.loop-byte-test.true (inr w.if-byte-gt57.true) h
]
