-- Operands one after the other, and what stands for them.
use Rattle.std.proofs.Common.{◌≡◌, ℕ, zero, suc, ◌≤◌, List, [], ◌∷◌, ◌++◌, map, length, take, drop, slice_get, Some, refl, sym, ap, ◌∙◌, arith, append_assoc}
use Rattle.fut_meaning.specs.Accessors.{or_wrong}
use Rattle.fut_meaning.specs.Outcomes.{Out, Val, Fail, Wrong, and_then}
use Rattle.fut_meaning.specs.Sames.{All_same, all_none, all_more}
use Rattle.fut_blocks.specs.Meaning.{fitted}
use Rattle.core_arrays.specs.Arenas.{Array}
use Rattle.core_ir.specs.declared.block.Atom.{Atom}
use Rattle.core_ir.specs.declared.block.Atom.TheVariants as atom
use Rattle.core_ir.specs.Bundles.{Component, One, Row}
use Rattle.core_ir.specs.Meaning.{Env, value_of, values_of}
use Rattle.core_ir.specs.Typed.{Sort, Sorts, lifted, Atom_is, Atoms_are}
use Rattle.core_code.specs.Registers.{Named, Stands}

-- ---- their values, one by one

pub record First_value (env : Env) (u : Atom) (us : List Atom) (cs : Row) : Type 0 where
  pub first : Component
  pub rest : Row
  pub value : value_of env u ≡ Val first
  pub others : values_of env us ≡ Val rest
  pub whole : cs ≡ first ∷ rest

pub first_value : (env : Env) (u : Atom) (us : List Atom) (cs : Row) → values_of env (u ∷ us) ≡ Val cs → First_value env u us cs
first_value env u us cs e = by_first (value_of env u) refl
  where
    by_rest : (c : Component) → value_of env u ≡ Val c → (p : Out Row) → values_of env us ≡ p → and_then p (λ ds. Val (c ∷ ds)) ≡ Val cs → First_value env u us cs
    by_rest c q (Val ds) r e = record { first = c; rest = ds; value = q; others = r; whole = let z : Val cs ≡ Val (c ∷ ds) = sym e in cc }
    by_rest c q (Fail f) r e = cc
    by_rest c q Wrong r e = cc

    by_first : (o : Out Component) → value_of env u ≡ o → First_value env u us cs
    by_first (Val c) q = by_rest c q (values_of env us) refl (sym (ap (λ z. and_then z (λ c. and_then (values_of env us) (λ ds. Val (c ∷ ds)))) q) ∙ e)
    by_first (Fail f) q = let z : Fail f ≡ Val cs = sym (ap (λ z. and_then z (λ c. and_then (values_of env us) (λ ds. Val (c ∷ ds)))) q) ∙ e in cc
    by_first Wrong q = let z : Wrong ≡ Val cs = sym (ap (λ z. and_then z (λ c. and_then (values_of env us) (λ ds. Val (c ∷ ds)))) q) ∙ e in cc

pub values_none : (env : Env) (cs : Row) → values_of env [] ≡ Val cs → cs ≡ []
values_none env cs e = let z : Val [] ≡ Val cs = e in cc

-- operands behind some
pub values_drop : (env : Env) (i : ℕ) (us : List Atom) (cs : Row) → values_of env us ≡ Val cs → values_of env (drop i us) ≡ Val (drop i cs)
values_drop env zero us cs e = e
values_drop env (suc i) [] cs e = let z : cs ≡ [] = values_none env cs e in ap (λ y. Val (drop (suc i) y)) (sym z)
values_drop env (suc i) (u ∷ us) cs e = let v = first_value env u us cs e in values_drop env i us v.rest v.others ∙ ap (λ y. Val (drop (suc i) y)) (sym v.whole)

pub lifted_drop : (i : ℕ) (ss : List Sort) → drop i (lifted ss) ≡ lifted (drop i ss)
lifted_drop zero ss = refl
lifted_drop (suc i) [] = refl
lifted_drop (suc i) (s ∷ ss) = lifted_drop i ss

pub atoms_drop : (G : Sorts) (i : ℕ) (us : List Atom) (ss : List Sort) → Atoms_are G us ss → Atoms_are G (drop i us) (drop i ss)
atoms_drop G zero us ss a = a
atoms_drop G (suc i) _ _ all_none = all_none
atoms_drop G (suc i) _ _ (all_more {xs = us} {xs' = ss} x a) = atoms_drop G i us ss a

-- as many values and sorts as operands
pub values_many : (env : Env) (us : List Atom) (cs : Row) → values_of env us ≡ Val cs → length us ≡ length cs
values_many env [] cs e = sym (ap length (values_none env cs e))
values_many env (u ∷ us) cs e = let v = first_value env u us cs e in ap suc (values_many env us v.rest v.others) ∙ sym (ap length v.whole)

atoms_many : (G : Sorts) (us : List Atom) (bs : List Sort) → Atoms_are G us bs → length us ≡ length bs
atoms_many G _ _ all_none = refl
atoms_many G _ _ (all_more {xs = us} {xs' = bs} x a) = ap suc (atoms_many G us bs a)

lifted_many : (ss : List Sort) → length (lifted ss) ≡ length ss
lifted_many [] = refl
lifted_many (s ∷ ss) = ap suc (lifted_many ss)

pub sorts_many : (G : Sorts) (us : List Atom) (ss : List Sort) → Atoms_are G us (lifted ss) → length us ≡ length ss
sorts_many G us ss a = atoms_many G us (lifted ss) a ∙ lifted_many ss

-- ---- each stands for something

pub values_there : (G : Sorts) (env : Env) (n : ℕ) (rs : List Array) (t : List ℕ) (us : List Atom) (ss : List Sort) → Stands G env n rs t → Atoms_are G us ss → (cs : Row) × (values_of env us ≡ Val cs)
values_there G env n rs t _ _ st all_none = ([], refl)
values_there G env n rs t _ _ st (all_more {x = u} {x' = s} {xs = us} {xs' = ss} h a) =
    let v = by_atom u h in
    let k = values_there G env n rs t us ss st a in
    (v.0 ∷ k.0, ap (λ z. and_then z (λ c. and_then (values_of env us) (λ ds. Val (c ∷ ds)))) v.1 ∙ ap (λ z. and_then z (λ ds. Val (v.0 ∷ ds))) k.1)
  where
    by_atom : (u : Atom) → Atom_is G u s → (c : Component) × (value_of env u ≡ Val c)
    by_atom (atom.Var x) h = let p : Named env n rs t x.number s = st.each x.number s h.0 in (p.value, ap or_wrong p.named)
    by_atom (atom.Constant c) h = (One (fitted c), refl)

-- ---- lists

pub record Next {A : Type 0} (j : ℕ) (xs : List A) (x : A) (ys : List A) : Type 0 where
  pub taken : take (suc j) xs ≡ take j xs ++ x ∷ []
  pub left : drop (suc j) xs ≡ ys

pub next_of : {A : Type 0} (j : ℕ) (xs : List A) (x : A) (ys : List A) → drop j xs ≡ x ∷ ys → Next j xs x ys
next_of zero [] x ys e = cc
next_of zero (z ∷ xs) x ys e = let p : z ≡ x = cc in let q : xs ≡ ys = cc in record { taken = ap (λ z. z ∷ []) p; left = q }
next_of (suc j) [] x ys e = cc
next_of (suc j) (z ∷ xs) x ys e = let r = next_of j xs x ys e in record { taken = ap (λ y. z ∷ y) r.taken; left = r.left }

pub drop_past : {A : Type 0} (xs : List A) (n : ℕ) → length xs ≤ n → drop n xs ≡ []
drop_past [] zero l = refl
drop_past [] (suc n) l = refl
drop_past (x ∷ xs) zero l = absurd (omega arith)
drop_past (x ∷ xs) (suc n) l = drop_past xs n (omega arith)

pub get_map : {A B : Type 0} (g : A → B) (xs : List A) (i : ℕ) (x : A) → slice_get xs i ≡ Some x → slice_get (map g xs) i ≡ Some (g x)
get_map g [] i x e = cc
get_map g (y ∷ xs) zero x e = let q : y ≡ x = cc in ap (λ z. Some (g z)) q
get_map g (y ∷ xs) (suc i) x e = get_map g xs i x e

-- behind others a list begins anew
pub get_behind : {A : Type 0} (xs : List A) (x : A) → slice_get (xs ++ x ∷ []) (length xs) ≡ Some x
get_behind [] x = refl
get_behind (y ∷ xs) x = get_behind xs x

pub get_front : {A : Type 0} (xs ys : List A) (i : ℕ) (x : A) → slice_get xs i ≡ Some x → slice_get (xs ++ ys) i ≡ Some x
get_front [] ys i x e = cc
get_front (z ∷ xs) ys zero x e = e
get_front (z ∷ xs) ys (suc i) x e = get_front xs ys i x e

-- ---- as many of one as of the other

pub same_many : {A A' : Type 0} (r : A → A' → Type 0) (xs : List A) (ys : List A') → All_same r xs ys → length xs ≡ length ys
same_many r _ _ all_none = refl
same_many r _ _ (all_more {xs = xs} {xs' = ys} x a) = ap suc (same_many r xs ys a)

-- ---- a list that an outcome has, element by element

pub none_before : {A : Type 0} (o : Out (List A)) → o ≡ and_then o (λ ys. Val ([] ++ ys))
none_before (Val ys) = refl
none_before (Fail r) = refl
none_before Wrong = refl

pub one_behind : {A : Type 0} (o : Out (List A)) (xs : List A) (x : A) → and_then (and_then o (λ ys. Val (x ∷ ys))) (λ ys. Val (xs ++ ys)) ≡ and_then o (λ ys. Val ((xs ++ x ∷ []) ++ ys))
one_behind (Val ys) xs x = ap Val (sym (append_assoc xs (x ∷ []) ys))
one_behind (Fail r) xs x = refl
one_behind Wrong xs x = refl
