use Rattle.std.proofs.Common.{◌≡◌, ◌+◌, ◌-◌, ◌≤◌, length, length-drop, arith, refl, ap, ◌∙◌}
use Rattle.value_text.proofs.Emptied.{opening_within, word_within}
use Rattle.value_text.proofs.ReadEmpty as laws
use Rattle.value_text.proofs.arrays.read_other.Goals as goal

pub read_sizes_as-requires : goal.read_sizes_as-requires
read_sizes_as-requires c =
    let word : length c.behind-word.result.now ≡ length c.args.text.now - 5 = ap length c.behind-word.ensures ∙ length-drop 5 c.args.text.now in
    let inner : length c.behind-inner.result.now ≡ length c.behind-word.result.now - (c.gap-opening.result + 1) = ap length c.behind-inner.ensures ∙ length-drop (c.gap-opening.result + 1) c.behind-word.result.now in
    let five = word_within c.args.text.now c.in-Ok.spelled c.in-Ok.ensures.value c.in-Array.is c.requires.other in
    let some : c.gap-opening.result + 1 ≤ length c.behind-word.result.now = rw (c.gap-opening.ensures.value, c.behind-word.ensures) (opening_within c.args.text.now c.in-Ok.spelled c.in-Ok.ensures.value c.in-Array.is c.requires.other) in
    record { place = omega (arith, word, inner, five, some, c.requires.place) }

pub returns-in-Err-read_sizes_as-clause-refused : goal.returns-in-Err-read_sizes_as-clause-refused
returns-in-Err-read_sizes_as-clause-refused c =
    laws.empty_refused _ _ _ _ c.in-Ok.spelled c.in-Ok.ensures.value _ _ _ _ c.in-Array.is c.behind-word.ensures c.gap-opening.ensures.value c.behind-inner.ensures refl _ c.in-Err-read_sizes_as.ensures.refused
