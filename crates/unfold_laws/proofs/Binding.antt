-- What names stand for, where each has data of each of its types, and names that are bound.
use Rattle.std.proofs.Common.{◌≡◌, cond, ℕ, suc, ◌≤◌, ◌<◌, refl, sym, ap, ◌∙◌, subst, arith, List, [], ◌∷◌, Bool, Some, eq-eqb, ne_eqb, length}
use mathlib.Core.Logic.{inl, inr}
use Rattle.fut_scalar.specs.declared.scalar.Scalar.{Scalar}
use Rattle.fut_scalar.specs.declared.scalar.Scalar.TheVariants as scalar
use Rattle.fut_arithmetic.specs.Types.{type_of}
use Rattle.fut_types.specs.Types.{Ty, Tys, none, more, scalar_ty}
use Rattle.fut_typing.specs.Names.{Names, count}
use Rattle.fut_value.specs.Data.{Scalar_datum}
use Rattle.fut_meaning.specs.Found.{Told}
use Rattle.fut_meaning.specs.Accessors.{or_wrong}
use Rattle.fut_meaning.specs.Claims.{HasOut, Safe}
use Rattle.fut_meaning.specs.Outcomes.{Out, Val, and_then, Rel}
use Rattle.fut_meaning.proofs.Safe.{safe_exact, safe_then}
use Rattle.fut_blocks.specs.declared.block.Atom.{Atom}
use Rattle.fut_blocks.specs.declared.block.Atom.TheVariants as atom
use Rattle.fut_blocks.specs.Meaning.{Component, Names as Environment, look, bound, fitted, value_of, values_of, named as bind, under}
use Rattle.fut_blocks.specs.Numbered.{Upward}
use Rattle.unfold.specs.Unfolding.{names}
use Rattle.type_soundness.specs.Fits.{Fits}
use Rattle.unfold_laws.specs.Safety.{Is_of, Are_of}
use Rattle.unfold_laws.specs.Typed.{Types, of_constants, Are, Stands_at, with_names, with_each}
use Rattle.unfold_laws.proofs.Fitting.{some_same}

-- ---- names that are bound
pub upward_le : (xs : List ℕ) (n m : ℕ) → Upward n xs m → n ≤ m
upward_le [] n m u = u
upward_le (x ∷ xs) n m u = let r = upward_le xs (suc x) m u.1 in let z : n ≤ x = u.0 in omega (arith, r, z)

bound_some : (xs : List ℕ) (ds : List Component) (env : Environment Component) → length xs ≡ length ds → (inner : Environment Component) × (bound xs ds env ≡ Some inner)
bound_some [] [] env e = (env, refl)
bound_some [] (d ∷ ds) env e = absurd (let z : 0 ≡ suc (length ds) = e in omega (arith, z))
bound_some (x ∷ xs) [] env e = absurd (let z : suc (length xs) ≡ 0 = e in omega (arith, z))
bound_some (x ∷ xs) (d ∷ ds) env e = bound_some xs ds ((x, d) ∷ env) (let z : suc (length xs) ≡ suc (length ds) = e in omega (arith, z))

-- names below the new ones stand for what they stood for
bound_keeps : (xs : List ℕ) (n m : ℕ) (ds : List Component) (env inner : Environment Component) → Upward n xs m → bound xs ds env ≡ Some inner → (k : ℕ) → k < n → look inner k ≡ look env k
bound_keeps [] n m [] env inner u e k lt = ap (λ z. look z k) (sym (some_same e))
bound_keeps [] n m (d ∷ ds) env inner u e k lt = absurd (cc)
bound_keeps (x ∷ xs) n m [] env inner u e k lt = absurd (cc)
bound_keeps (x ∷ xs) n m (d ∷ ds) env inner u e k lt =
    let z : n ≤ x = u.0 in
    bound_keeps xs (suc x) m ds ((x, d) ∷ env) inner u.1 e k (omega (arith, lt, z)) ∙ ap (λ b. cond b (Some d) (look env k)) (ne_eqb x k (λ same. let y : x ≡ k = same in omega (arith, lt, z, y)))

module _ (N : Names) (T : Told) (tight : Bool) (budget : ℕ) where
  abbrev Of : Ty → Component → Type 0
  Of t d = Is_of N T tight budget t d

  abbrev All_of : Tys → List Component → Type 0
  All_of ts ds = Are_of N T tight budget ts ds

  abbrev pub Stands_for : Environment Component → ℕ → Ty → Type 0
  Stands_for env x t = (d : Component) × (look env x ≡ Some d) × Of t d

  pub of_length : (ts : Tys) (ds : List Component) → All_of ts ds → length ds ≡ count ts
  of_length none [] h = refl
  of_length none (d ∷ ds) h = absurd h
  of_length (more t ts) [] h = absurd h
  of_length (more t ts) (d ∷ ds) h = let r : length ds ≡ count ts = of_length ts ds h.1 in omega (arith, r)

  -- the new ones stand for data of their types, and are above those before
  bound_stands : (xs : List ℕ) (n m : ℕ) (ds : List Component) (env inner : Environment Component) (ts : Tys) → Upward n xs m → bound xs ds env ≡ Some inner → All_of ts ds → (y : ℕ) (t : Ty) → Stands_at (names xs) ts (atom.Name y) t → Stands_for inner y t × (y < m)
  bound_stands [] n m ds env inner ts u e h y t s = absurd s
  bound_stands (x ∷ xs) n m ds env inner none u e h y t s = absurd s
  bound_stands (x ∷ xs) n m [] env inner (more w ws) u e h y t s = absurd h
  bound_stands (x ∷ xs) n m (d ∷ ds) env inner (more w ws) u e h y t (inl (a, b)) =
      let same : x ≡ y = cc in
      let le : suc x ≤ m = upward_le xs (suc x) m u.1 in
      let here : look inner x ≡ Some d = bound_keeps xs (suc x) m ds ((x, d) ∷ env) inner u.1 e x (omega arith) ∙ ap (λ c. cond c (Some d) (look env x)) (eq-eqb x x refl) in
      ((d, subst (λ z. look inner z ≡ Some d) same here, subst (λ z. Of z d) b h.0), omega (arith, le, same))
  bound_stands (x ∷ xs) n m (d ∷ ds) env inner (more w ws) u e h y t (inr s) = bound_stands xs (suc x) m ds ((x, d) ∷ env) inner ws u.1 e h.1 y t s

  no_constant : (xs : List ℕ) (ts : Tys) (s : Scalar) (t : Ty) → Stands_at (names xs) ts (atom.Constant s) t → ⊥
  no_constant [] ts s t h = h
  no_constant (x ∷ xs) none s t h = h
  no_constant (x ∷ xs) (more w ws) s t (inl (a, b)) = let z : atom.Name x ≡ atom.Constant s = a in cc
  no_constant (x ∷ xs) (more w ws) s t (inr h) = no_constant xs ws s t h

  -- each name stands for data of each of its types, constants have their own, and names are below this one
  pub record Sees (G : Types) (env : Environment Component) (n : ℕ) : Type 0 where
    pub named : (x : ℕ) (t : Ty) → G (atom.Name x) t → Stands_for env x t
    pub constants : (s : Scalar) (t : Ty) → G (atom.Constant s) t → t ≡ scalar_ty (type_of s)
    pub below : (x : ℕ) (t : Ty) → G (atom.Name x) t → x < n

  pub sees_nothing : Sees of_constants [] 0
  sees_nothing = record { named = λ x t h. absurd h; constants = λ s t h. h; below = λ x t h. absurd h }

  module _ (G : Types) (env : Environment Component) (n : ℕ) (sees : Sees G env n) where
    constant_is : (s : Scalar) → Of (scalar_ty (type_of s)) (Scalar_datum (fitted s))
    unfolding Fits
    constant_is (scalar.Int i k) = refl
    constant_is (scalar.Bool b) = tt

    pub value_is : (u : Atom) (t : Ty) → G u t → (d : Component) × (value_of env u ≡ Val d) × Of t d
    value_is (atom.Name x) t h = let r = sees.named x t h in (r.0, ap or_wrong r.1, r.2)
    value_is (atom.Constant s) t h = (Scalar_datum (fitted s), refl, subst (λ z. Of z (Scalar_datum (fitted s))) (sym (sees.constants s t h)) (constant_is s))

    pub values_are : (us : List Atom) (ts : Tys) → Are G us ts → (ds : List Component) × (values_of env us ≡ Val ds) × All_of ts ds
    values_are [] none h = ([], refl, tt)
    values_are [] (more t ts) h = absurd h
    values_are (u ∷ us) none h = absurd h
    values_are (u ∷ us) (more t ts) h =
        let a = value_is u t h.0 in
        let b = values_are us ts h.1 in (
          a.0 ∷ b.0,
          ap (λ o. and_then o (λ v. and_then (values_of env us) (λ vs. Val (v ∷ vs)))) a.1 ∙ ap (λ o. and_then o (λ vs. Val (a.0 ∷ vs))) b.1,
          (a.2, b.2),
        )

    pub with_value : {B : Type 0} (Q : B → Type 0) (u : Atom) (t : Ty) (k : Component → Out B) → G u t → ((d : Component) → Of t d → HasOut Q (k d)) → HasOut Q (and_then (value_of env u) k)
    with_value Q u t k h go = let a = value_is u t h in subst (λ o. HasOut Q (and_then o k)) (sym a.1) (go a.0 a.2)

    pub with_values : {B : Type 0} (Q : B → Type 0) (us : List Atom) (ts : Tys) (k : List Component → Out B) → Are G us ts → ((ds : List Component) → All_of ts ds → HasOut Q (k ds)) → HasOut Q (and_then (values_of env us) k)
    with_values Q us ts k h go = let a = values_are us ts h in subst (λ o. HasOut Q (and_then o k)) (sym a.1) (go a.0 a.2)

    -- with new names, of each row of types that P has
    pub sees_each : (P : Tys → Type 0) (xs : List ℕ) (k m : ℕ) (ds : List Component) (inner : Environment Component) → n ≤ k → Upward k xs m → bound xs ds env ≡ Some inner → ((ts : Tys) → P ts → All_of ts ds) → Sees (with_each xs P G) inner m
    sees_each P xs k m ds inner le u e all = record { named = λ x t h. named x t h; constants = λ s t h. constants s t h; below = λ x t h. below x t h }
      where
        named : (x : ℕ) (t : Ty) → with_each xs P G (atom.Name x) t → Stands_for inner x t
        named x t (inl (ts, p, s)) = (bound_stands xs k m ds env inner ts u e (all ts p) x t s).0
        named x t (inr h) = let r = sees.named x t h in let lt : x < n = sees.below x t h in (r.0, bound_keeps xs k m ds env inner u e x (omega (arith, lt, le)) ∙ r.1, r.2)

        constants : (s : Scalar) (t : Ty) → with_each xs P G (atom.Constant s) t → t ≡ scalar_ty (type_of s)
        constants s t (inl (ts, p, i)) = absurd (no_constant xs ts s t i)
        constants s t (inr h) = sees.constants s t h

        below : (x : ℕ) (t : Ty) → with_each xs P G (atom.Name x) t → x < m
        below x t (inl (ts, p, s)) = (bound_stands xs k m ds env inner ts u e (all ts p) x t s).1
        below x t (inr h) = let lt : x < n = sees.below x t h in let r = upward_le xs k m u in omega (arith, lt, le, r)

    -- of these types
    pub sees_names : (ts : Tys) (xs : List ℕ) (k m : ℕ) (ds : List Component) (inner : Environment Component) → n ≤ k → Upward k xs m → bound xs ds env ≡ Some inner → All_of ts ds → Sees (with_names xs ts G) inner m
    sees_names ts xs k m ds inner le u e all = record { named = λ x t h. named x t h; constants = λ s t h. constants s t h; below = λ x t h. below x t h }
      where
        named : (x : ℕ) (t : Ty) → with_names xs ts G (atom.Name x) t → Stands_for inner x t
        named x t (inl s) = (bound_stands xs k m ds env inner ts u e all x t s).0
        named x t (inr h) = let r = sees.named x t h in let lt : x < n = sees.below x t h in (r.0, bound_keeps xs k m ds env inner u e x (omega (arith, lt, le)) ∙ r.1, r.2)

        constants : (s : Scalar) (t : Ty) → with_names xs ts G (atom.Constant s) t → t ≡ scalar_ty (type_of s)
        constants s t (inl i) = absurd (no_constant xs ts s t i)
        constants s t (inr h) = sees.constants s t h

        below : (x : ℕ) (t : Ty) → with_names xs ts G (atom.Name x) t → x < m
        below x t (inl s) = (bound_stands xs k m ds env inner ts u e all x t s).1
        below x t (inr h) = let lt : x < n = sees.below x t h in let r = upward_le xs k m u in omega (arith, lt, le, r)

    -- under new names
    pub under_names : {B : Type 0} (Q : B → Type 0) (ts : Tys) (xs : List ℕ) (k m : ℕ) (ds : List Component) (go : Environment Component → Rel B) → n ≤ k → Upward k xs m → length xs ≡ count ts → All_of ts ds → ((inner : Environment Component) → Sees (with_names xs ts G) inner m → Safe Q (go inner)) → Safe Q (under xs ds env go)
    under_names Q ts xs k m ds go le u l all safe =
        let long : length ds ≡ count ts = of_length ts ds all in
        let b = bound_some xs ds env (l ∙ sym long) in
        safe_then (λ inner. Sees (with_names xs ts G) inner m) Q _ _ (safe_exact (λ inner. Sees (with_names xs ts G) inner m) 0 (or_wrong (bound xs ds env)) (subst (λ o. HasOut (λ inner. Sees (with_names xs ts G) inner m) (or_wrong o)) (sym b.1) (sees_names ts xs k m ds b.0 le u b.1 all))) safe

    -- with the names of a step
    pub named_each : (P : Tys → Type 0) (xs : List ℕ) (k m : ℕ) (ts : Tys) (ds : List Component) → n ≤ k → Upward k xs m → length xs ≡ count ts → P ts → ((us : Tys) → P us → All_of us ds) → Safe (λ inner. Sees (with_each xs P G) inner m) (bind xs ds env)
    named_each P xs k m ts ds le u l p all =
        let long : length ds ≡ count ts = of_length ts ds (all ts p) in
        let b = bound_some xs ds env (l ∙ sym long) in
        safe_exact (λ inner. Sees (with_each xs P G) inner m) 0 (or_wrong (bound xs ds env)) (subst (λ o. HasOut (λ inner. Sees (with_each xs P G) inner m) (or_wrong o)) (sym b.1) (sees_each P xs k m ds b.0 le u b.1 all))
