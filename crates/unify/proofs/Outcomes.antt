-- Two facts on one outcome.
use Rattle.std.proofs.Common.{◌≡◌, subst, sym, Result, Ok, Err, OnOk, IfOk, IfErr}
use Rattle.type_graph.specs.declared.UnifyErr.{UnifyErr}
use Rattle.type_graph.specs.declared.UnifyErr.TheVariants as err
use Rattle.type_graph.specs.Graph.{Tells}

pub both_ok : {T E P Q R : Type 0} (r : Result T E) → (P → Q → R) → OnOk r P → OnOk r Q → OnOk r R
both_ok (Ok v) f p q = f p q
both_ok (Err e) f p q = tt

pub tells_both : {P Q R : Type 0} (e : UnifyErr) → (P → Q → R) → Tells P e → Tells Q e → Tells R e
tells_both (err.Clash i j) f p q = f p q
tells_both (err.BadKind i k) f p q = f p q
tells_both (err.Infinite i) f p q = f p q
tells_both err.Memory f p q = tt

pub both_err : {T P Q R : Type 0} (r : Result T UnifyErr) → (P → Q → R) → IfErr r (Tells P) → IfErr r (Tells Q) → IfErr r (Tells R)
both_err (Ok v) f p q = tt
both_err (Err e) f p q = tells_both e f p q

pub if_ok : {T E P : Type 0} {Q R : T → Type 0} (r : Result T E) → ((v : T) → P → Q v → R v) → OnOk r P → IfOk r Q → IfOk r R
if_ok (Ok v) f p q = f v p q
if_ok (Err e) f p q = tt

pub if_is : {T E : Type 0} (r : Result T E) (x : T) (P : T → Type 0) → IfOk r (λ v. v ≡ x) → P x → IfOk r P
if_is {T} {E} (Ok v) x P e p = subst P (sym e) p
if_is {T} {E} (Err e) x P h p = tt
