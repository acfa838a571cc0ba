use Rattle.fut_arithmetic.specs.Words.{word_of}
use Rattle.std.proofs.Common.{arith, ap, ◌∙◌}
use Rattle.data_values.proofs.FromData.{reduced_more, reduced_end, row_words}
use Rattle.data_values.proofs.giving.put_row.Goals as goal

pub loop-word-preserved : goal.loop-word-preserved
loop-word-preserved c = reduced_more c.args.elem c.args.row.now c.args.words.now c.loop-word.words c.push.new.self c.loop-word.word-index c.encode_word.result (omega arith) (c.encode_word.ensures ∙ ap word_of c.decode_word.ensures.value) c.in_ok-push.ensures.ok c.loop-word.invariant

pub returns : goal.returns
returns c = row_words c.args.elem c.args.row.now c.args.words.now c.loop-word.words (reduced_end c.args.elem c.args.row.now c.args.words.now c.loop-word.words c.loop-word.word-index (omega arith) c.loop-word.invariant)
