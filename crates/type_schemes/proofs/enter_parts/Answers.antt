use Rattle.std.proofs.Common.{◌≤◌, ◌+◌, length, subst, sym, arith}
use Rattle.type_schemes.specs.Schemes.{FormWithin, Opened, definition, child_number, child_label, child_count, head_count, next_to, no_label}
use Rattle.type_schemes.proofs.Parts.{fewer_parts}
use Rattle.type_graph.proofs.Ends.{on_ok}
use Rattle.type_schemes.proofs.enter_parts.Goals as goal

pub enter_row-requires-clause-row : goal.enter_row-requires-clause-row
enter_row-requires-clause-row c =
    let w : c.in-Made.row + c.in-Made.count ≤ length c.args.nodes.now = subst (FormWithin (length c.args.nodes.now) (length c.args.entries.now)) c.in-Made.is c.requires.form in
    let f : head_count c.in-Made.head c.in-Made.count ≤ c.in-Made.count = fewer_parts c.in-Made.head c.in-Made.count in omega (arith, c.count_of-parts.ensures)

pub returns-in-Made-clause-ok : goal.returns-in-Made-clause-ok
returns-in-Made-clause-ok c = on_ok c.enter_row.result (λ o. subst (λ f. Opened (definition c.args.nodes.now c.args.entries.now c.args.own.now c.args.depth) c.args.store.now c.args.memo.now c.args.first (child_number c.args.entries.now f) (child_label c.args.entries.now f) (child_count f) c.enter_row.new.store c.enter_row.new.memo) (sym c.in-Made.is)
    (subst (λ n. Opened (definition c.args.nodes.now c.args.entries.now c.args.own.now c.args.depth) c.args.store.now c.args.memo.now c.args.first (next_to c.in-Made.row) no_label n c.enter_row.new.store c.enter_row.new.memo) c.count_of-parts.ensures (o c.args.entries.now))) c.enter_row.ensures.ok
