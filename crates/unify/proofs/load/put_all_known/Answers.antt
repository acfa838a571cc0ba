use Rattle.std.proofs.Common.{◌+◌, ◌≡◌, ◌<◌, length, slice_index_or, subst, sym, ap}
use Rattle.unify.proofs.Outcomes.{tells_both}
use Rattle.unify.proofs.Putting.{extends_then}
use Rattle.unify.proofs.Loading.{known_parts, parts_more, known_next, known_bars}
use Rattle.unify.proofs.load.put_all_known.Goals as goal

pub put_known-requires-clause-within : goal.put_known-requires-clause-within
put_known-requires-clause-within c = parts_more c.args.table.now (length c.args.nodes.now) (length c.loop-one.nodes) c.one-item.result.parts c.loop-one.invariant.extends.longer (known_parts c.as_slice-one-items.result.now c.args.known.now c.loop-one.number c.one-item.result c.as_slice-one-items.ensures (subst (λ n. n < length c.as_slice-one-items.result.now) (sym c.loop-one.invariant.count) c.loop-one-test.true) (subst (λ n. c.one-item.result ≡ slice_index_or c.as_slice-one-items.result.now n c.one-item.result) (sym c.loop-one.invariant.count) c.one-item.is) c.args.table.now (length c.args.nodes.now) c.requires.within)

pub returns-in-Err-clause-err : goal.returns-in-Err-clause-err
returns-in-Err-clause-err c = tells_both c.in-Err.error (λ before h T told. known_bars c.as_slice-one-items.result.now c.args.known.now c.loop-one.number c.one-item.result c.as_slice-one-items.ensures (subst (λ n. n < length c.as_slice-one-items.result.now) (sym c.loop-one.invariant.count) c.loop-one-test.true) (subst (λ n. c.one-item.result ≡ slice_index_or c.as_slice-one-items.result.now n c.one-item.result) (sym c.loop-one.invariant.count) c.one-item.is) c.args.table.now T c.args.nodes.now c.loop-one.nodes c.requires.long c.requires.within (c.loop-one.invariant.so_far T (before T told)) (h T told)) c.in-Err.ensures.before c.in-Err.ensures.err

pub loop-one-preserved : goal.loop-one-preserved
loop-one-preserved c = record {
  extends = extends_then c.args.table.now c.args.nodes.now c.loop-one.nodes c.put_known.new.nodes c.args.entries.now c.loop-one.entries c.put_known.new.entries c.loop-one.invariant.extends c.in-Ok.ensures.extends;
  so_far = λ T told. known_next c.as_slice-one-items.result.now c.args.known.now c.loop-one.number c.one-item.result c.as_slice-one-items.ensures (subst (λ n. n < length c.as_slice-one-items.result.now) (sym c.loop-one.invariant.count) c.loop-one-test.true) (subst (λ n. c.one-item.result ≡ slice_index_or c.as_slice-one-items.result.now n c.one-item.result) (sym c.loop-one.invariant.count) c.one-item.is) c.args.table.now T c.args.nodes.now c.loop-one.nodes c.requires.long c.requires.within (c.loop-one.invariant.so_far T (c.in-Ok.ensures.extends.told T told)) c.put_known.new.nodes (c.in-Ok.ensures.ok T told);
  count = ap (λ n. n + 1) c.loop-one.invariant.count;
}
