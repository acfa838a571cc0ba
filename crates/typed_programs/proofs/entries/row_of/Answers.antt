use Rattle.std.proofs.Common.{◌≡◌, suc, ◌+◌, sym, subst, arith}
use Rattle.type_infer.specs.Reading.{Generally}
use Rattle.typed_programs.proofs.EntryTypes.{because, Row_begins, row_begins, row_more, row_ends, no_row}
use Rattle.typed_programs.proofs.entries.row_of.Goals as goal

pub loop-at-init : goal.loop-at-init
loop-at-init c = subst (Row_begins (Generally c.args.inference.now.nodes) c.args.first c.args.count 0) (sym c.requires.none) (row_begins (Generally c.args.inference.now.nodes) c.args.first c.args.count)

pub loop-at-preserved : goal.loop-at-preserved
loop-at-preserved c = let one : suc c.loop-at.at ≡ c.loop-at.at + 1 = omega arith in
    subst (λ k. Row_begins (Generally c.args.inference.now.nodes) c.args.first c.args.count k c.push_data.new.types) one
    (row_more (Generally c.args.inference.now.nodes) c.args.first c.args.count c.loop-at.at c.loop-at.types c.push_data.new.types c.loop-at-test.true c.loop-at.invariant c.in-Ok.ensures.ok)

pub returns-in-Err-clause-err : goal.returns-in-Err-clause-err
returns-in-Err-clause-err c = because c.in-Err.error (no_row (Generally c.args.inference.now.nodes) c.args.first c.args.count c.loop-at.at c.loop-at.types c.loop-at-test.true c.loop-at.invariant) c.in-Err.ensures.err

pub returns-clause-ok : goal.returns-clause-ok
returns-clause-ok c = row_ends (Generally c.args.inference.now.nodes) c.args.first c.args.count c.loop-at.at c.loop-at.types (omega (arith, c.loop-at-test.false, c.loop-at.auto.at-end)) c.loop-at.invariant
