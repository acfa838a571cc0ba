use Rattle.std.proofs.Common.{length, sym, ap, ◌∙◌}
use Rattle.size_arena.specs.Trees.{size_of}
use Rattle.size_forms.proofs.LoopForms.{end_drops}
use Rattle.size_forms.proofs.turns.end_turn.Goals as goal

pub returns-clause-turn : goal.returns-clause-turn
returns-clause-turn c = end_drops c.args.node c.args.next c.args.carried.now.size (size_of c.args.given.now) c.args.carried.now.dropped.now c.as_slice.result.now c.args.tables.now c.drop_levels.new.tables (λ N types. c.as_slice.ensures ∙ c.in_ok-levels.ensures N types) tt
    (λ e. c.if-len-eq0.false (c.len.ensures ∙ ap length (sym c.as_slice.ensures) ∙ e)) c.in_ok-drop_levels.ensures
