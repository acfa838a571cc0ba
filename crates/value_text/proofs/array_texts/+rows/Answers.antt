use Rattle.std.proofs.Common.{◌≡◌, ◌+◌, ◌-◌, ◌∷◌, length, length-drop, take, drop, get_or, arith, sym, ap, ◌∙◌}
use Rattle.std.proofs.lemmas.List.{drop_more, take_all}
use Rattle.value_text.specs.FlatText.{array_text}
use Rattle.value_text.proofs.Printed as laws
use Rattle.value_text.proofs.array_texts.+rows.Goals as goal

pub put_data-returns-in_ok-extend_from_slice-in-len1-up-2 : goal.put_data-returns-in_ok-extend_from_slice-in-len1-up-2
put_data-returns-in_ok-extend_from_slice-in-len1-up-2 t c =
    let tail : take (length c.args.sizes.now - 1) (drop 1 c.args.sizes.now) ≡ drop 1 c.args.sizes.now = take_all (length c.args.sizes.now - 1) (drop 1 c.args.sizes.now) (let l = length-drop 1 c.args.sizes.now in omega (arith, l)) in
    let split : c.args.sizes.now ≡ get_or c.args.sizes.now 0 0 ∷ take (length c.args.sizes.now - 1) (drop 1 c.args.sizes.now) = drop_more c.args.sizes.now 0 0 c.in-len1-up.len_at_least ∙ ap (λ r. get_or c.args.sizes.now 0 0 ∷ r) (sym tail) in
    laws.array_whole c.args.ty _ _ c.args.sizes.now c.args.words.now c.args.text.now.items _ _ _ split c.in_ok-extend_from_slice-in-len1-up.ensures.items c.in_ok-put_rows-in-len1-up.ensures
    c.in_ok-extend_from_slice-in-len1-up-2.ensures.items

pub put_others-loop-turn-preserved : goal.put_others-loop-turn-preserved
put_others-loop-turn-preserved t c = record {
  long = laws.other_rest c.args.count c.loop-turn.turn c.args.row_words c.loop-turn.rest.now _ c.loop-turn-test.true c.loop-turn.invariant.long c.split_at.ensures.back;
  same = laws.next_row (array_text c.args.ty c.args.sizes.now) c.args.row_words _ c.loop-turn.text.items (c.args.count - c.loop-turn.turn) (c.args.count - (c.loop-turn.turn + 1)) c.loop-turn.rest.now _ _ _ _ (let l = c.loop-turn-test.true in omega arith) c.loop-turn.invariant.same
      c.split_at.ensures.front c.split_at.ensures.back c.in_ok-extend_from_slice.ensures.items c.in_ok-put_data.ensures;
}
