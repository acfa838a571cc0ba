use Rattle.std.proofs.Common.{arith, ap, ◌∙◌, length}
use Rattle.std.proofs.lemmas.List.{length-set}
use Rattle.fut_arithmetic.specs.Words.{word_of}
use Rattle.block_store.proofs.Valuing.{low_more, low_end}
use Rattle.block_store.proofs.held.with_low_bits.Goals as goal

pub loop-i-preserved : goal.loop-i-preserved
loop-i-preserved c = record {
  long = ap length c.set.ensures ∙ length-set c.loop-i.words c.loop-i.i c.encode_word.result ∙ c.loop-i.invariant.long;
  low = low_more c.args.elem c.args.words c.loop-i.words c.as_slice.result.now c.set.new.self c.loop-i.i c.encode_word.result (omega (arith, c.loop-i.invariant.long)) c.loop-i.invariant.low c.as_slice.ensures (c.encode_word.ensures ∙ ap word_of c.decode_word-scalar.ensures.value) c.set.ensures;
}

pub returns : goal.returns
returns c = low_end c.args.elem c.args.words c.loop-i.words c.loop-i.i (omega (arith, c.loop-i.invariant.long)) c.loop-i.invariant.low
