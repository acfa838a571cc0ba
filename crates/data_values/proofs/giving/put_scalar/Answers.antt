use Rattle.std.proofs.Common.{rules}
use Rattle.std.proofs.lemmas.Result.{on_ok_weaker}
use Rattle.data_values.proofs.FromData.{scalar_words}
use Rattle.data_values.proofs.giving.put_scalar.Goals as goal

pub returns : goal.returns
returns c = on_ok_weaker c.push.result (λ b. scalar_words c.args.elem c.args.scalar c.fitted-scalar.result c.encode_word.result c.args.words.now c.push.new.self c.fitted-scalar.ensures.value c.fitted-scalar.ensures.fits (search rules) c.encode_word.ensures b) c.push.ensures.ok
