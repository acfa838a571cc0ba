use Rattle.std.proofs.Common.{◌≡◌, Result, Ok, Err, Some, OnOk, sym, subst}
use Rattle.type_rules.proofs.Keys.{row_after}
use Rattle.type_rules.proofs.records.enter.Goals.{in-Ok, in-Err}
use Rattle.type_rules.proofs.records.enter.Goals as goal

on_ok : {T E P : Type 0} (r : Result T E) → P → OnOk r P
on_ok (Ok v) p = p
on_ok (Err e) p = tt

on_err : {T E : Type 0} (P : Type 0) (r : Result T E) (e : E) → r ≡ Err e → OnOk r P
on_err P r e is = subst (λ x. OnOk x P) (sym is) tt

pub returns : goal.returns
returns c = elim c.match-insert.branch [
  | in-Ok w ↦ on_ok c.match-insert.result (row_after c.args.key.items c.args.rows.now c.insert.new.self (Some c.args.number) w.in-Ok.ensures.updates)
  | in-Err w ↦ on_err _ c.match-insert.result _ w.result-is
]
