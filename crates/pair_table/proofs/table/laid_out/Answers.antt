use Rattle.std.proofs.Common.{sym, ap, ◌∙◌}
use Rattle.phase_model.proofs.Tables.{pair_first, padded_none, padded_some}
use Rattle.pair_table.proofs.table.laid_out.Goals.{then-len-eq0, else-len-eq0}
use Rattle.pair_table.proofs.table.laid_out.Goals as goal

pub of_words-requires : goal.of_words-requires
of_words-requires c = elim c.if-len-eq0.branch [
  | then-len-eq0 w ↦ pair_first _ _ _ _ (ap (λ b. b.now) w.words-is ∙ sym (padded_none _ (sym c.len.ensures ∙ w.if-len-eq0.true)))
  | else-len-eq0 w ↦ pair_first _ _ _ _ (ap (λ b. b.now) w.words-is ∙ w.as_slice-words.ensures ∙ sym (padded_some _ (λ e. w.if-len-eq0.false (c.len.ensures ∙ e))))
]
