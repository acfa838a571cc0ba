-- A last step, behind which another answer is given.
use Rattle.std.proofs.Common.{Result, Ok, Err, OnOk, IfOk, IfErr}
use Rattle.std.specs.Result.{result_and}
use Rattle.type_graph.specs.declared.UnifyErr.{UnifyErr}
use Rattle.type_graph.specs.Graph.{Tells}
use Rattle.type_rules.proofs.Adding.{tells, tells_both}

pub end_next : {T U E : Type 0} (P : U → Type 0) (r : Result T E) (n : U) → P n → IfOk (result_and r (Ok n)) P
end_next P (Ok v) n p = p
end_next P (Err e) n p = tt

pub end_ok : {T U E P Q : Type 0} (r : Result T E) (n : U) → (P → Q) → OnOk r P → OnOk (result_and r (Ok n)) Q
end_ok (Ok v) n f p = f p
end_ok (Err e) n f p = tt

pub end_three : {T U E P Q R S : Type 0} (r : Result T E) (n : U) → (P → Q → R → S) → OnOk r P → OnOk r Q → OnOk r R → OnOk (result_and r (Ok n)) S
end_three (Ok v) n f p q x = f p q x
end_three (Err e) n f p q x = tt

pub end_err : {T U P Q : Type 0} (r : Result T UnifyErr) (n : U) → (P → Q) → IfErr r (Tells P) → IfErr (result_and r (Ok n)) (Tells Q)
end_err (Ok v) n f p = tt
end_err (Err e) n f p = tells e f p

pub end_both : {T U P Q R : Type 0} (r : Result T UnifyErr) (n : U) → (P → Q → R) → IfErr r (Tells P) → IfErr r (Tells Q) → IfErr (result_and r (Ok n)) (Tells R)
end_both (Ok v) n f p q = tt
end_both (Err e) n f p q = tells_both e f p q
