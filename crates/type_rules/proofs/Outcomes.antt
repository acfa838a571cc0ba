-- Two facts on one outcome.
use Rattle.std.proofs.Common.{Result, Ok, Err, OnOk, IfErr}
use Rattle.type_graph.specs.declared.UnifyErr.{UnifyErr}
use Rattle.type_graph.specs.Graph.{Tells}
use Rattle.type_rules.proofs.Adding.{tells_both}

pub both_ok : {T E P Q R : Type 0} (r : Result T E) → (P → Q → R) → OnOk r P → OnOk r Q → OnOk r R
both_ok (Ok v) f p q = f p q
both_ok (Err e) f p q = tt

pub both_err : {T P Q R : Type 0} (r : Result T UnifyErr) → (P → Q → R) → IfErr r (Tells P) → IfErr r (Tells Q) → IfErr r (Tells R)
both_err (Ok v) f p q = tt
both_err (Err e) f p q = tells_both e f p q
