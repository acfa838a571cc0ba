use Rattle.std.proofs.Common.{◌-◌, arith, ap, ◌∙◌, drop, length}
use Rattle.std.specs.List.{flat_map}
use Rattle.block_store.specs.Walks.{read_from}
use Rattle.block_store.proofs.Reading.{all_read}
use Rattle.block_store.proofs.places.words_from.Goals as goal

pub returns : goal.returns
returns c =
    let ws = c.args.words.now in
    let ss = c.args.strides.now in
    let ns = c.args.shape.now in
    let last = length ns - 1 in
    all_read ws ss ns c.args.offset last c.step_at-step.result c.as_slice.result.now c.new-into.result c.put_all_rows.new.into c.requires (omega arith) c.new-into.ensures c.step_at-step.ensures
    (ap (flat_map (read_from ws (drop last ss) (drop last ns))) c.as_slice.ensures ∙ c.in_ok-places.ensures ws)
    c.in_ok-put_all_rows.ensures
