-- What the form of a node says of its type.
use Rattle.std.proofs.Common.{◌≡◌, Bool, true, false, ℕ, zero, suc, ◌==◌, ◌≤◌, ◌<◌, min, refl, sym, ◌∙◌, ap, subst, arith, Some, None, Result, Ok, Err, IfOk, IfErr, if◌then◌else◌}
use Rattle.std.proofs.lemmas.Bool.{eqb-true, eqb-false}
use Rattle.std.proofs.Math.Nat.{min-le_left}
use Rattle.fut_scalar.specs.declared.scalar.IntType.{IntType}
use Rattle.fut_scalar.specs.declared.scalar.ScalarType.{ScalarType}
use Rattle.fut_scalar.specs.declared.scalar.ScalarType.TheVariants as scalar
use Rattle.fut_types.specs.declared.Head.{Head}
use Rattle.fut_types.specs.declared.Head.TheVariants as head
use Rattle.fut_types.specs.declared.Kind.TheVariants as kind
use Rattle.fut_types.specs.Types.{Ty, Var, Made, Tys, none, more, Kinds, HasKind, rank, least, scalar_ty, cap}
use Rattle.fut_types.proofs.TyLaws.{rank_made}
use Rattle.type_graph.specs.declared.Form.{Form}
use Rattle.type_graph.specs.declared.Form.TheVariants as form
use Rattle.type_infer.specs.Reading.{Shown, Row_comes, Is_made}
use Rattle.typed_programs.specs.Forms.{integer_form, scalar_form}
use Rattle.typed_programs.specs.Typed.{Is_integer}

pub if_ok : {T E : Type 0} (P Q : T → Type 0) (r : Result T E) → ((v : T) → P v → Q v) → IfOk r P → IfOk r Q
if_ok P Q (Ok v) f p = f v p
if_ok P Q (Err e) f p = tt

pub if_err : {T E : Type 0} (P Q : E → Type 0) (r : Result T E) → ((e : E) → P e → Q e) → IfErr r P → IfErr r Q
if_err P Q (Ok v) f p = tt
if_err P Q (Err e) f p = f e p

pub some_same : {X : Type 0} (x y : X) → Some x ≡ Some y → x ≡ y
some_same x y e = cc

pub none_some : {X : Type 0} (y : X) → None ≡ Some y → ⊥
none_some y e = cc

pub if_some : {X : Type 0} (b : Bool) (x y : X) → (if b then Some x else None) ≡ Some y → (b ≡ true) × (x ≡ y)
if_some true x y e = (refl, some_same x y e)
if_some false x y e = absurd (none_some y e)

pub if_none : {X : Type 0} (b : Bool) (x : X) → (if b then Some x else None) ≡ None → b ≡ false
if_none true x e = absurd (none_some x (sym e))
if_none false x e = refl

pub made_variable : (h : Head) (ts : Tys) (v : ℕ) → Made h ts ≡ Var v → ⊥
made_variable h ts v e = cc

pub same_head : (g h : Head) (ss ts : Tys) → Made g ss ≡ Made h ts → g ≡ h
same_head g h ss ts e = cc

pub same_parts : (g h : Head) (ss ts : Tys) → Made g ss ≡ Made h ts → ss ≡ ts
same_parts g h ss ts e = cc

pub none_more : (t : Ty) (ts : Tys) → none ≡ more t ts → ⊥
none_more t ts e = cc

-- a row of no nodes, and of one more
pub no_types : (R : Shown) (x : ℕ) (ts : Tys) → Row_comes R x 0 ts → ts ≡ none
no_types R x none r = refl
no_types R x (more t ts) r = absurd r

pub some_types : (R : Shown) (x n : ℕ) (ts : Tys) → Row_comes R x (suc n) ts → (t : Ty) × (us : Tys) × (ts ≡ more t us) × R x t × Row_comes R (suc x) n us
some_types R x n none r = absurd r
some_types R x n (more t ts) r = (t, ts, refl, r.0, r.1)

no_parts : (R : Shown) (h : Head) (x n : ℕ) (t : Ty) → n ≡ 0 → Is_made R (form.Made h x n) t → t ≡ Made h none
no_parts R h x n t z m = m.1 ∙ ap (Made h) (no_types R x m.0 (subst (λ k. Row_comes R x k m.0) z m.2))

-- ---- integers
low : (K : Kinds) (h : Head) (ts : Tys) (t : Ty) → cap h < 4 → t ≡ Made h ts → HasKind K kind.Integer t → ⊥
low K h ts t lt e k =
    let r : 4 ≤ min (cap h) (least K ts) = subst (λ n. 4 ≤ n) (ap (rank K) e ∙ rank_made K h ts) k in
    let l : min (cap h) (least K ts) ≤ cap h = min-le_left (cap h) (least K ts) in
    omega (arith, r, l, lt)

pub integer_tells : (f : Form) (i : IntType) → integer_form f ≡ Some i → (R : Shown) (t : Ty) → Is_made R f t → Is_integer i t
integer_tells form.Free i e R t m K k v = absurd (v m.0 m.1)
integer_tells (form.Link j) i e R t m K k v = absurd m
integer_tells (form.Open c n) i e R t m K k v = absurd (v m.0 m.1)
integer_tells (form.Made (head.Scalar (scalar.Int u)) x n) i e R t m K k v =
    let s = if_some (n == 0) u i e in
    no_parts R (head.Scalar (scalar.Int u)) x n t (eqb-true n 0 s.0) m ∙ ap (λ w. scalar_ty (scalar.Int w)) s.1
integer_tells (form.Made (head.Scalar scalar.Bool) x n) i e R t m K k v = absurd (low K (head.Scalar scalar.Bool) m.0 t (omega arith) m.1 k)
integer_tells (form.Made head.Array x n) i e R t m K k v = absurd (low K head.Array m.0 t (omega arith) m.1 k)
integer_tells (form.Made head.Tuple x n) i e R t m K k v = absurd (low K head.Tuple m.0 t (omega arith) m.1 k)
integer_tells (form.Made (head.Record r) x n) i e R t m K k v = absurd (low K (head.Record r) m.0 t (omega arith) m.1 k)
integer_tells (form.Made head.Fun x n) i e R t m K k v = absurd (low K head.Fun m.0 t (omega arith) m.1 k)
integer_tells (form.Made (head.Rigid b kind.Any) x n) i e R t m K k v = absurd (low K (head.Rigid b kind.Any) m.0 t (omega arith) m.1 k)
integer_tells (form.Made (head.Rigid b kind.Data) x n) i e R t m K k v = absurd (low K (head.Rigid b kind.Data) m.0 t (omega arith) m.1 k)
integer_tells (form.Made (head.Rigid b kind.Equal) x n) i e R t m K k v = absurd (low K (head.Rigid b kind.Equal) m.0 t (omega arith) m.1 k)
integer_tells (form.Made (head.Rigid b kind.Scalar) x n) i e R t m K k v = absurd (low K (head.Rigid b kind.Scalar) m.0 t (omega arith) m.1 k)
integer_tells (form.Made (head.Rigid b kind.Integer) x n) i e R t m K k v = absurd (none_some i e)
integer_tells (form.Made (head.Abstract b true) x n) i e R t m K k v = absurd (low K (head.Abstract b true) m.0 t (omega arith) m.1 k)
integer_tells (form.Made (head.Abstract b false) x n) i e R t m K k v = absurd (low K (head.Abstract b false) m.0 t (omega arith) m.1 k)

-- ---- scalars
pub scalar_tells : (f : Form) (s : ScalarType) → scalar_form f ≡ Some s → (R : Shown) (t : Ty) → Is_made R f t → t ≡ scalar_ty s
scalar_tells form.Free s e R t m = absurd (none_some s e)
scalar_tells (form.Link j) s e R t m = absurd (none_some s e)
scalar_tells (form.Open c n) s e R t m = absurd (none_some s e)
scalar_tells (form.Made (head.Scalar u) x n) s e R t m = let r = if_some (n == 0) u s e in no_parts R (head.Scalar u) x n t (eqb-true n 0 r.0) m ∙ ap scalar_ty r.1
scalar_tells (form.Made head.Array x n) s e R t m = absurd (none_some s e)
scalar_tells (form.Made head.Tuple x n) s e R t m = absurd (none_some s e)
scalar_tells (form.Made (head.Record r) x n) s e R t m = absurd (none_some s e)
scalar_tells (form.Made head.Fun x n) s e R t m = absurd (none_some s e)
scalar_tells (form.Made (head.Rigid b k) x n) s e R t m = absurd (none_some s e)
scalar_tells (form.Made (head.Abstract b d) x n) s e R t m = absurd (none_some s e)

-- the heads of what is made and of a type that it is
pub made_head : (R : Shown) (g h : Head) (x n : ℕ) (t : Ty) (ts : Tys) → Is_made R (form.Made g x n) t → t ≡ Made h ts → g ≡ h
made_head R g h x n t ts m e = same_head g h m.0 ts (sym m.1 ∙ e)

made_none : (R : Shown) (h : Head) (x n : ℕ) (t : Ty) → Is_made R (form.Made h x n) t → t ≡ Made h none → n ≡ 0
made_none R h x zero t m e = refl
made_none R h x (suc n) t m e = let r = some_types R x n m.0 m.2 in absurd (none_more r.0 r.1 (sym (same_parts h h m.0 none (sym m.1 ∙ e)) ∙ r.2))

no_scalar : (R : Shown) (g : Head) (x n : ℕ) (s : ScalarType) (t : Ty) → (g ≡ head.Scalar s → ⊥) → Is_made R (form.Made g x n) t → t ≡ scalar_ty s → ⊥
no_scalar R g x n s t other m e = other (made_head R g (head.Scalar s) x n t none m e)

pub scalar_denies : (f : Form) → scalar_form f ≡ None → (R : Shown) (t : Ty) → Is_made R f t → (s : ScalarType) → t ≡ scalar_ty s → ⊥
scalar_denies form.Free e R t m s is = made_variable (head.Scalar s) none m.0 (sym is ∙ m.1)
scalar_denies (form.Link j) e R t m s is = m
scalar_denies (form.Open c n) e R t m s is = made_variable (head.Scalar s) none m.0 (sym is ∙ m.1)
scalar_denies (form.Made (head.Scalar u) x n) e R t m s is =
    let h : head.Scalar u ≡ head.Scalar s = made_head R (head.Scalar u) (head.Scalar s) x n t none m is in
    eqb-false n 0 (if_none (n == 0) u e) (made_none R (head.Scalar u) x n t m (is ∙ ap (λ g. Made g none) (sym h)))
scalar_denies (form.Made head.Array x n) e R t m s is = no_scalar R head.Array x n s t (λ z. cc) m is
scalar_denies (form.Made head.Tuple x n) e R t m s is = no_scalar R head.Tuple x n s t (λ z. cc) m is
scalar_denies (form.Made (head.Record r) x n) e R t m s is = no_scalar R (head.Record r) x n s t (λ z. cc) m is
scalar_denies (form.Made head.Fun x n) e R t m s is = no_scalar R head.Fun x n s t (λ z. cc) m is
scalar_denies (form.Made (head.Rigid b k) x n) e R t m s is = no_scalar R (head.Rigid b k) x n s t (λ z. cc) m is
scalar_denies (form.Made (head.Abstract b d) x n) e R t m s is = no_scalar R (head.Abstract b d) x n s t (λ z. cc) m is
