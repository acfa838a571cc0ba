use Rattle.std.proofs.Common.{◌+◌}
use Rattle.std.proofs.lemmas.Result.{err_from_is_err_and}
use Rattle.fut_flat.specs.Erased.{pattern_of}
use Rattle.fut_flat.specs.Numbers.{turn_numbers}
use Rattle.fut_flat.proofs.ErasedForms.{turns_of}
use Rattle.size_arena.specs.Trees.{size_of}
use Rattle.size_program.specs.Program.{sub_of}
use Rattle.size_program.proofs.StepLaws.{out_of_memory}
use Rattle.size_forms.specs.Loops.{turn_entered}
use Rattle.size_forms.specs.Shown.{inside_is}
use Rattle.size_forms.proofs.TurnForms.{bind_stops, turn_note_stops, bring_stops, turn_enters, each_brings}
use Rattle.size_forms.proofs.turns.enter_turn.Goals as goal

pub returns-in_err-first-clause-entered : goal.returns-in_err-first-clause-entered
returns-in_err-first-clause-entered c =
    let p = err_from_is_err_and c.from_residual.result c.from_residual.ensures.1 in
    rw (p.1, p.2) (λ N scope f knows within is. out_of_memory inside_is (turn_entered (sub_of c.args.program.now.types.now) c.args.node (c.args.at + turn_numbers (turns_of c.args.whole.now.form)) c.args.whole.now.sizes.now (pattern_of c.args.whole.now.pat) f (size_of c.args.carried.now) N scope) _ _)

pub returns-in_err-value-clause-entered : goal.returns-in_err-value-clause-entered
returns-in_err-value-clause-entered c =
    let p = err_from_is_err_and c.from_residual-in_err-value.result c.from_residual-in_err-value.ensures.1 in
    rw (p.1, p.2) (λ N scope f knows within is. out_of_memory inside_is (turn_entered (sub_of c.args.program.now.types.now) c.args.node (c.args.at + turn_numbers (turns_of c.args.whole.now.form)) c.args.whole.now.sizes.now (pattern_of c.args.whole.now.pat) f (size_of c.args.carried.now) N scope) _ _)

pub returns-in_err-bindings-clause-entered : goal.returns-in_err-bindings-clause-entered
returns-in_err-bindings-clause-entered c =
    let p = err_from_is_err_and c.from_residual-in_err-bindings.result c.from_residual-in_err-bindings.ensures.1 in
    rw (p.1, p.2) (λ N scope f knows within is. bind_stops N (sub_of c.args.program.now.types.now) c.args.node (c.args.at + turn_numbers (turns_of c.args.whole.now.form)) c.in_ok-first.first c.in_ok-value.value c.args.whole.now.sizes.now (pattern_of c.args.whole.now.pat) f (size_of c.args.carried.now) scope c.args.tables.now c.in_ok-value.ensures c.in_ok-first.ensures _ (c.in_err-bindings.ensures.gives N scope knows within))

pub returns-in_err-note_pattern-clause-entered : goal.returns-in_err-note_pattern-clause-entered
returns-in_err-note_pattern-clause-entered c =
    let p = err_from_is_err_and c.from_residual-in_err-note_pattern.result c.from_residual-in_err-note_pattern.ensures.1 in
    rw (p.1, p.2) (λ N scope f knows within is. turn_note_stops N (sub_of c.args.program.now.types.now) c.args.node (c.args.at + turn_numbers (turns_of c.args.whole.now.form)) c.in_ok-first.first c.in_ok-value.value c.args.whole.now.sizes.now (pattern_of c.args.whole.now.pat) f (size_of c.args.carried.now) scope c.args.tables.now c.in_ok-value.ensures c.in_ok-first.ensures c.in_ok-bindings.bindings c.note_pattern.new.tables (c.in_ok-bindings.ensures.gives N scope knows within) _ (c.in_err-note_pattern.ensures N knows))

pub returns-in_err-inside-clause-entered : goal.returns-in_err-inside-clause-entered
returns-in_err-inside-clause-entered c =
    let p = err_from_is_err_and c.from_residual-in_err-inside.result c.from_residual-in_err-inside.ensures.1 in
    rw (p.1, p.2) (λ N scope f knows within is. bring_stops N (sub_of c.args.program.now.types.now) c.args.node (c.args.at + turn_numbers (turns_of c.args.whole.now.form)) c.in_ok-first.first c.in_ok-value.value c.args.whole.now.sizes.now (pattern_of c.args.whole.now.pat) f (size_of c.args.carried.now) scope c.args.tables.now c.in_ok-value.ensures c.in_ok-first.ensures c.in_ok-bindings.bindings c.note_pattern.new.tables (c.in_ok-bindings.ensures.gives N scope knows within) _ (c.in_ok-note_pattern.ensures N knows) _ (λ inner in_inner. each_brings (turns_of c.args.whole.now.form) c.args.at N c.args.each.now f inner _ is (c.in_err-inside.ensures N inner knows in_inner)))

pub returns-clause-entered : goal.returns-clause-entered
returns-clause-entered c = λ N scope f knows within is. turn_enters N (sub_of c.args.program.now.types.now) c.args.node (c.args.at + turn_numbers (turns_of c.args.whole.now.form)) c.in_ok-first.first c.in_ok-value.value c.args.whole.now.sizes.now (pattern_of c.args.whole.now.pat) f (size_of c.args.carried.now) scope c.args.tables.now c.in_ok-value.ensures c.in_ok-first.ensures c.in_ok-bindings.bindings c.note_pattern.new.tables (c.in_ok-bindings.ensures.gives N scope knows within) _ (c.in_ok-note_pattern.ensures N knows) c.in_ok-inside.inside (λ inner in_inner. each_brings (turns_of c.args.whole.now.form) c.args.at N c.args.each.now f inner _ is (c.in_ok-inside.ensures N inner knows in_inner))
