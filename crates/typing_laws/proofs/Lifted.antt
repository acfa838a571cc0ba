-- A type of which u is a reading: u itself, but for the own types of parameters where t has them and u what is chosen for them.
-- Parts of records and tuples are compared by their names. What would be read otherwise has other numbers.
use Rattle.std.proofs.Common.{◌≡◌, ℕ, zero, suc, ◌+◌, ◌-◌, ◌≤◌, ◌<◌, refl, sym, ◌∙◌, ap, subst, arith, Bool, true, false, ◌&&◌, List, [], ◌∷◌, Option, Some, None, nat_le, ◌==◌, cond, if◌then◌else◌}
use Rattle.std.proofs.lemmas.Bool.{le-leb, leb-true, leb-false, eq-eqb}
use Rattle.std.proofs.lemmas.Bool.Decides.{eqb_tells}
use Rattle.std.proofs.lemmas.Option.{none-some, same_Some}
use mathlib.Core.Logic.{◌⊎◌, inl, inr}
use native.Mathlib.Decide.{ℕ_discrete}
use Rattle.fut_scalar.specs.declared.place.BindId.{BindId}
use Rattle.fut_flat.specs.Terms.{Parameter, Size_parameter, Type_parameter}
use Rattle.fut_types.specs.declared.Kind.{Kind}
use Rattle.fut_types.specs.declared.Head.{Head}
use Rattle.fut_types.specs.declared.Head.TheVariants as head
use Rattle.fut_types.specs.Types.{Ty, Var, Made, Tys, none, more, Sub, Kinds, HasKind, level, cap, rank, least}
use Rattle.fut_types.specs.Shapes.{Shapes, place_from, place, part_at, part_named, HasPart}
use Rattle.fut_types.proofs.ShapeLaws.{named_rank, place_none, place_step, part_made, no_place}
use Rattle.fut_typing.specs.Generalised.{parameter_kind, Suits, own_types}
use Rattle.fut_typing.specs.Declared.{Is_parameter}
use Rattle.fut_typing.proofs.Ranges.{true_or, and_true}
use Rattle.fut_typing.proofs.Members.{In, parts_under, placed_in}
use Rattle.fut_typing.proofs.Readings.{Reading, Suited, head_limit, rigid_kind}
unfoldable use Rattle.fut_typing.proofs.Readings.{read, read_all}
use Rattle.fut_typing.proofs.Instances.{parameter_limit, parameter_below}
use Rattle.typing_laws.specs.Parameters.{chosen, chosen_head}
use Rattle.typing_laws.proofs.Chosen.{chosen_kind}
use Rattle.typing_laws.proofs.Same.{is_head, head_is, head_self, is_number, number_is, number_self, is_type, type_is, type_self}

abbrev pub first_of : Tys → Ty
first_of none = Var 0
first_of (more t ts) = t

abbrev pub rest_of : Tys → Tys
rest_of none = none
rest_of (more t ts) = ts

-- a type is the own type of a parameter
abbrev pub is_own : Kind → List (Parameter BindId) → ℕ → Kind → Bool
is_own places [] n k = false
is_own places (Size_parameter b ∷ ps) n k = is_own places ps n k
is_own places (Type_parameter b lifted ∷ ps) n k = elim (ℕ_discrete n b.0) as (λ d. Bool) [ yes e ↦ is_number (level k) (level (parameter_kind places lifted)) | no ne ↦ is_own places ps n k ]

place_here : (from l x : ℕ) (xs : List ℕ) → x ≡ l → place_from from l (x ∷ xs) ≡ Some from
place_here from l x xs e = place_step from l x xs ∙ ap (λ b. cond b (Some from) (place_from (suc from) l xs)) (eq-eqb x l e)

place_next : (from l x : ℕ) (xs : List ℕ) → (x ≡ l → ⊥) → place_from from l (x ∷ xs) ≡ place_from (suc from) l xs
place_next from l x xs ne = place_step from l x xs ∙ elim (eqb_tells x l) as (λ d. (if x == l then Some from else place_from (suc from) l xs) ≡ place_from (suc from) l xs) [ inl s ↦ absurd (ne s.1) | inr s ↦ ap (λ b. cond b (Some from) (place_from (suc from) l xs)) s.0 ]

no_part : (ts : Tys) (u : Ty) → part_at None ts ≡ Some u → ⊥
unfolding part_at
no_part ts u e = none-some u e

module _ (places : Kind) (c : Sub) where
  own_out : (ps : List (Parameter BindId)) (n : ℕ) (k : Kind) → (Is_parameter ps n → ⊥) → is_own places ps n k ≡ false
  own_out [] n k out = refl
  own_out (Size_parameter b ∷ ps) n k out = own_out ps n k out
  own_out (Type_parameter b lifted ∷ ps) n k out = elim (ℕ_discrete n b.0) as (λ d. (elim d as (λ d. Bool) [ yes e ↦ is_number (level k) (level (parameter_kind places lifted)) | no ne ↦ is_own places ps n k ]) ≡ false) [
    | yes e ↦ absurd (out (inl e))
    | no ne ↦ own_out ps n k (λ i. out (inr i))
  ]

  -- for it the chosen type is put
  own_chosen : (ps : List (Parameter BindId)) (n : ℕ) (k : Kind) → is_own places ps n k ≡ true → Is_parameter ps n × (chosen places ps c n k ≡ c n)
  own_chosen [] n k h = absurd cc
  own_chosen (Size_parameter b ∷ ps) n k h = own_chosen ps n k h
  own_chosen (Type_parameter b lifted ∷ ps) n k h = (elim (ℕ_discrete n b.0) as (λ d. (elim d as (λ d. Bool) [ yes e ↦ is_number (level k) (level (parameter_kind places lifted)) | no ne ↦ is_own places ps n k ]) ≡ true
      → ((n ≡ b.0) ⊎ Is_parameter ps n) × ((elim d as (λ d. Ty) [ yes e ↦ elim (ℕ_discrete (level k) (level (parameter_kind places lifted))) as (λ d. Ty) [ yes e ↦ c n | no ne ↦ Made (head.Rigid n k) none ] | no ne ↦ chosen places ps c n k ]) ≡ c n)) [
        | yes e ↦ λ h. (inl e, here (number_is (level k) (level (parameter_kind places lifted)) h))
        | no ne ↦ λ h. let w = own_chosen ps n k h in (inr w.0, w.1)
      ]) h
    where
      here : level k ≡ level (parameter_kind places lifted) → (elim (ℕ_discrete (level k) (level (parameter_kind places lifted))) as (λ d. Ty) [ yes e ↦ c n | no ne ↦ Made (head.Rigid n k) none ]) ≡ c n
      here same = elim (ℕ_discrete (level k) (level (parameter_kind places lifted))) as (λ d. (elim d as (λ d. Ty) [ yes e ↦ c n | no ne ↦ Made (head.Rigid n k) none ]) ≡ c n) [ yes e ↦ refl | no ne ↦ absurd (ne same) ]

  own_stays : (ps : List (Parameter BindId)) (n : ℕ) (k : Kind) → is_own places ps n k ≡ false → chosen places ps c n k ≡ Made (head.Rigid n k) none
  own_stays [] n k h = refl
  own_stays (Size_parameter b ∷ ps) n k h = own_stays ps n k h
  own_stays (Type_parameter b lifted ∷ ps) n k h = (elim (ℕ_discrete n b.0) as (λ d. (elim d as (λ d. Bool) [ yes e ↦ is_number (level k) (level (parameter_kind places lifted)) | no ne ↦ is_own places ps n k ]) ≡ false
      → (elim d as (λ d. Ty) [ yes e ↦ elim (ℕ_discrete (level k) (level (parameter_kind places lifted))) as (λ d. Ty) [ yes e ↦ c n | no ne ↦ Made (head.Rigid n k) none ] | no ne ↦ chosen places ps c n k ]) ≡ Made (head.Rigid n k) none) [
        | yes e ↦ here (level k) (level (parameter_kind places lifted))
        | no ne ↦ λ h. own_stays ps n k h
      ]) h
    where
      here : (x y : ℕ) → is_number x y ≡ false → (elim (ℕ_discrete x y) as (λ d. Ty) [ yes e ↦ c n | no ne ↦ Made (head.Rigid n k) none ]) ≡ Made (head.Rigid n k) none
      here x y = elim (ℕ_discrete x y) as (λ d. (elim d as (λ d. Bool) [ yes e ↦ true | no ne ↦ false ]) ≡ false → (elim d as (λ d. Ty) [ yes e ↦ c n | no ne ↦ Made (head.Rigid n k) none ]) ≡ Made (head.Rigid n k) none) [ yes e ↦ λ h. absurd cc | no ne ↦ λ h. refl ]

  own_is : (ps : List (Parameter BindId)) (n : ℕ) → Is_parameter ps n → (k : Kind) × (own_types places ps n ≡ Made (head.Rigid n k) none) × (is_own places ps n k ≡ true)
  own_is [] n i = absurd i
  own_is (Size_parameter b ∷ ps) n i = own_is ps n i
  own_is (Type_parameter b lifted ∷ ps) n i = elim (ℕ_discrete n b.0) as (λ d. (k : Kind) × ((elim d as (λ d. Ty) [ yes e ↦ Made (head.Rigid n (parameter_kind places lifted)) none | no ne ↦ own_types places ps n ]) ≡ Made (head.Rigid n k) none)
      × ((elim d as (λ d. Bool) [ yes e ↦ is_number (level k) (level (parameter_kind places lifted)) | no ne ↦ is_own places ps n k ]) ≡ true)) [
        | yes e ↦ (parameter_kind places lifted, refl, number_self (level (parameter_kind places lifted)))
        | no ne ↦ own_is ps n (rest ne i)
      ]
    where
      rest : (n ≡ b.0 → ⊥) → ((n ≡ b.0) ⊎ Is_parameter ps n) → Is_parameter ps n
      rest ne (inl e) = absurd (ne e)
      rest ne (inr i) = i

module _ (S : Shapes) (places : Kind) (ps : List (Parameter BindId)) (c : Sub) (F0 G : ℕ) (over : F0 ≤ G) (wide : parameter_limit ps ≤ G) where
  -- ---- the type
  abbrev pub named_or : ℕ → Ty → Ty
  named_or l t = elim (part_named S l t) as (λ o. Ty) [ Some u ↦ u | None ↦ Var 0 ]

  abbrev pub is_at : Option ℕ → ℕ → Bool
  is_at None i = false
  is_at (Some j) i = is_number j i

  -- the part of t under a label that names the part i of a tuple
  abbrev pub part_for : List ℕ → Ty → ℕ → Ty
  part_for [] t i = Var 0
  part_for (l ∷ ls) t i = elim (is_at (S.position l) i) as (λ x. Ty) [ true ↦ named_or l t | false ↦ part_for ls t i ]

  abbrev pub parts_for : List ℕ → Ty → ℕ → Tys → Tys
  parts_for ls t i none = none
  parts_for ls t i (more u us) = more (part_for ls t i) (parts_for ls t (suc i) us)

  -- what the parts us of a type made by g are compared with: those of the same head, or else those of the same names
  abbrev pub against_other : Head → Head → Tys → Tys → Tys
  against_other (head.Record r) h ts us = parts_under (S.fields r) (λ l. named_or l (Made h ts))
  against_other head.Tuple (head.Record r) ts us = parts_for (S.fields r) (Made (head.Record r) ts) 0 us
  against_other g h ts us = none

  abbrev pub against_made : Head → Head → Tys → Tys → Tys
  against_made head.Array head.Array ts us = ts
  against_made head.Fun head.Fun ts us = ts
  against_made head.Tuple head.Tuple ts us = ts
  against_made g h ts us = elim (is_head g h) as (λ x. Tys) [ true ↦ ts | false ↦ against_other g h ts us ]

  abbrev pub against : Head → Ty → Tys → Tys
  against g (Var n) us = none
  against g (Made h ts) us = against_made g h ts us

  abbrev pub shift : ℕ → Kind → ℕ
  shift n k = elim (nat_le (suc n) F0) as (λ x. ℕ) [ true ↦ elim (is_own places ps n k) as (λ x. ℕ) [ true ↦ n + G | false ↦ n ] | false ↦ n + G ]

  abbrev pub moved : Head → Tys → Ty
  moved (head.Rigid n k) none = Made (head.Rigid (shift n k) k) none
  moved h ts = Made h ts

  abbrev pub has_own : Ty → Ty → Bool
  has_own (Made (head.Rigid n k) none) u = is_own places ps n k && is_type u (c n)
  has_own t u = false

  unfoldable mutual
    pub lifted : Ty → Ty → Ty
    lifted t (Var n) = elim (has_own t (Var n)) as (λ x. Ty) [ true ↦ t | false ↦ Var n ]
    lifted t (Made g us) = elim (has_own t (Made g us)) as (λ x. Ty) [ true ↦ t | false ↦ moved g (all_lifted (against g t us) us) ]

    pub all_lifted : Tys → Tys → Tys
    all_lifted ts none = none
    all_lifted ts (more u us) = more (lifted (first_of ts) u) (all_lifted (rest_of ts) us)

  lifted_yes : (t u : Ty) → has_own t u ≡ true → lifted t u ≡ t
  unfolding lifted
  lifted_yes t (Var n) e = ap (λ (x : Bool). elim x as (λ x. Ty) [ true ↦ t | false ↦ Var n ]) e
  lifted_yes t (Made g us) e = ap (λ (x : Bool). elim x as (λ x. Ty) [ true ↦ t | false ↦ moved g (all_lifted (against g t us) us) ]) e

  lifted_var : (t : Ty) (n : ℕ) → has_own t (Var n) ≡ false → lifted t (Var n) ≡ Var n
  unfolding lifted
  lifted_var t n e = ap (λ (x : Bool). elim x as (λ x. Ty) [ true ↦ t | false ↦ Var n ]) e

  lifted_made : (t : Ty) (g : Head) (us : Tys) → has_own t (Made g us) ≡ false → lifted t (Made g us) ≡ moved g (all_lifted (against g t us) us)
  unfolding lifted
  lifted_made t g us e = ap (λ (x : Bool). elim x as (λ x. Ty) [ true ↦ t | false ↦ moved g (all_lifted (against g t us) us) ]) e

  -- ---- it is read as u
  abbrev pub own_back : ℕ → Kind → Ty
  own_back n k = elim (nat_le G n) as (λ x. Ty) [ true ↦ Made (head.Rigid (n - G) k) none | false ↦ chosen places ps c n k ]

  abbrev pub back : Reading
  back = record { variable = λ n. Var n; own = own_back }

  pub back_low : (n : ℕ) (k : Kind) → n < G → own_back n k ≡ chosen places ps c n k
  back_low n k lt = elim (true_or (nat_le G n)) as (λ x. own_back n k ≡ chosen places ps c n k) [
    | inl t ↦ absurd (let z : G ≤ n = leb-true G n t in omega arith)
    | inr f ↦ ap (λ (x : Bool). elim x as (λ x. Ty) [ true ↦ Made (head.Rigid (n - G) k) none | false ↦ chosen places ps c n k ]) f
  ]

  back_high : (n : ℕ) (k : Kind) → own_back (n + G) k ≡ Made (head.Rigid n k) none
  back_high n k = ap (λ (x : Bool). elim x as (λ x. Ty) [ true ↦ Made (head.Rigid (n + G - G) k) none | false ↦ chosen places ps c (n + G) k ]) (le-leb G (n + G) (omega arith)) ∙ ap (λ m. Made (head.Rigid m k) none) (let z : n + G - G ≡ n = omega arith in z)

  back_shifted : (n : ℕ) (k : Kind) → own_back (shift n k) k ≡ Made (head.Rigid n k) none
  back_shifted n k = elim (true_or (nat_le (suc n) F0)) as (λ x. own_back (shift n k) k ≡ Made (head.Rigid n k) none) [
    | inl low ↦ elim (true_or (is_own places ps n k)) as (λ x. own_back (shift n k) k ≡ Made (head.Rigid n k) none) [
      | inl t ↦ ap (λ m. own_back m k) (ap (λ (x : Bool). elim x as (λ x. ℕ) [ true ↦ elim (is_own places ps n k) as (λ x. ℕ) [ true ↦ n + G | false ↦ n ] | false ↦ n + G ]) low ∙ ap (λ (x : Bool). elim x as (λ x. ℕ) [ true ↦ n + G | false ↦ n ]) t) ∙ back_high n k
      | inr f ↦ ap (λ m. own_back m k) (ap (λ (x : Bool). elim x as (λ x. ℕ) [ true ↦ elim (is_own places ps n k) as (λ x. ℕ) [ true ↦ n + G | false ↦ n ] | false ↦ n + G ]) low ∙ ap (λ (x : Bool). elim x as (λ x. ℕ) [ true ↦ n + G | false ↦ n ]) f)
          ∙ back_low n k (let z : suc n ≤ F0 = leb-true (suc n) F0 low in omega arith) ∙ own_stays places c ps n k f
    ]
    | inr high ↦ ap (λ m. own_back m k) (ap (λ (x : Bool). elim x as (λ x. ℕ) [ true ↦ elim (is_own places ps n k) as (λ x. ℕ) [ true ↦ n + G | false ↦ n ] | false ↦ n + G ]) high) ∙ back_high n k
  ]

  own_read : (t u : Ty) → has_own t u ≡ true → read back t ≡ u
  unfolding read
  own_read (Var n) u e = absurd cc
  own_read (Made (head.Rigid n k) none) u e =
      let both = and_true (is_own places ps n k) (is_type u (c n)) e in
      let w = own_chosen places c ps n k both.0 in
      let lt : n < parameter_limit ps = parameter_below ps n w.0 in
      back_low n k (omega arith) ∙ w.1 ∙ sym (type_is u (c n) both.1)
  own_read (Made (head.Rigid n k) (more t ts)) u e = absurd cc
  own_read (Made (head.Scalar s) ts) u e = absurd cc
  own_read (Made head.Array ts) u e = absurd cc
  own_read (Made head.Tuple ts) u e = absurd cc
  own_read (Made (head.Record r) ts) u e = absurd cc
  own_read (Made head.Fun ts) u e = absurd cc
  own_read (Made (head.Abstract n d) ts) u e = absurd cc

  moved_read : (g : Head) (ts us : Tys) → read_all back ts ≡ us → read back (moved g ts) ≡ Made g us
  unfolding read
  moved_read (head.Rigid n k) none us e = back_shifted n k ∙ ap (Made (head.Rigid n k)) e
  moved_read (head.Rigid n k) (more t ts) us e = ap (Made (head.Rigid n k)) e
  moved_read (head.Scalar s) ts us e = ap (Made (head.Scalar s)) e
  moved_read head.Array ts us e = ap (Made head.Array) e
  moved_read head.Tuple ts us e = ap (Made head.Tuple) e
  moved_read (head.Record r) ts us e = ap (Made (head.Record r)) e
  moved_read head.Fun ts us e = ap (Made head.Fun) e
  moved_read (head.Abstract n d) ts us e = ap (Made (head.Abstract n d)) e

  mutual
    unfolding read lifted

    pub lifted_read : (t u : Ty) → read back (lifted t u) ≡ u
    lifted_read t (Var n) = elim (true_or (has_own t (Var n))) as (λ x. read back (lifted t (Var n)) ≡ Var n) [
      | inl y ↦ ap (read back) (lifted_yes t (Var n) y) ∙ own_read t (Var n) y
      | inr f ↦ ap (read back) (lifted_var t n f)
    ]
    lifted_read t (Made g us) = elim (true_or (has_own t (Made g us))) as (λ x. read back (lifted t (Made g us)) ≡ Made g us) [
      | inl y ↦ ap (read back) (lifted_yes t (Made g us) y) ∙ own_read t (Made g us) y
      | inr f ↦ ap (read back) (lifted_made t g us f) ∙ moved_read g (all_lifted (against g t us) us) us (all_lifted_read (against g t us) us)
    ]

    all_lifted_read : (ts us : Tys) → read_all back (all_lifted ts us) ≡ us
    all_lifted_read ts none = refl
    all_lifted_read ts (more u us) = λ i. more (lifted_read (first_of ts) u i) (all_lifted_read (rest_of ts) us i)

  pub back_suited : (K : Kinds) → Suits places K c ps → ((v : ℕ) → HasKind K (K v) (Var v)) → Suited K K back
  back_suited K suits variables = record {
    variables = variables;
    owns = λ n k. elim (true_or (nat_le G n)) as (λ x. HasKind K k (own_back n k)) [
      | inl t ↦ (let le : G ≤ n = leb-true G n t in subst (λ m. HasKind K k (own_back m k)) (let z : n - G + G ≡ n = omega arith in z) (subst (HasKind K k) (sym (back_high (n - G) k)) (rigid_kind K (n - G) k)))
      | inr f ↦ (let lt : n < G = leb-false G n f in subst (HasKind K k) (sym (back_low n k lt)) (chosen_kind places c K ps suits n k))
    ];
  }

  -- ---- own types
  pub lifted_own : (n : ℕ) → Is_parameter ps n → lifted (own_types places ps n) (c n) ≡ own_types places ps n
  lifted_own n i = let w = own_is places c ps n i in subst (λ t. lifted t (c n) ≡ t) (sym w.1) (lifted_yes (Made (head.Rigid n w.0) none) (c n) (ap (λ b. b && is_type (c n) (c n)) w.2 ∙ type_self (c n)))

  rigid_lifted : (n : ℕ) (k : Kind) → (Is_parameter ps n → ⊥) → lifted (Made (head.Rigid n k) none) (Made (head.Rigid n k) none) ≡ Made (head.Rigid (shift n k) k) none
  unfolding lifted
  rigid_lifted n k out = lifted_made (Made (head.Rigid n k) none) (head.Rigid n k) none (ap (λ b. b && is_type (Made (head.Rigid n k) none) (c n)) (own_out places c ps n k out))

  pub lifted_other : (n : ℕ) (k : Kind) → n < F0 → (Is_parameter ps n → ⊥) → lifted (Made (head.Rigid n k) none) (Made (head.Rigid n k) none) ≡ Made (head.Rigid n k) none
  lifted_other n k lt out = rigid_lifted n k out ∙ ap (λ m. Made (head.Rigid m k) none) (ap (λ (x : Bool). elim x as (λ x. ℕ) [ true ↦ elim (is_own places ps n k) as (λ x. ℕ) [ true ↦ n + G | false ↦ n ] | false ↦ n + G ]) (le-leb (suc n) F0 (omega arith))
      ∙ ap (λ (x : Bool). elim x as (λ x. ℕ) [ true ↦ n + G | false ↦ n ]) (own_out places c ps n k out))

  pub lifted_new : (n : ℕ) (k : Kind) → G ≤ n → lifted (Made (head.Rigid n k) none) (Made (head.Rigid n k) none) ≡ Made (head.Rigid (n + G) k) none
  lifted_new n k le = rigid_lifted n k (λ i. let lt : n < parameter_limit ps = parameter_below ps n i in absurd (omega arith)) ∙ ap (λ m. Made (head.Rigid m k) none) (high (true_or (nat_le (suc n) F0)))
    where
      high : ((nat_le (suc n) F0 ≡ true) ⊎ (nat_le (suc n) F0 ≡ false)) → shift n k ≡ n + G
      high (inl t) = absurd (let z : suc n ≤ F0 = leb-true (suc n) F0 t in omega arith)
      high (inr f) = ap (λ (x : Bool). elim x as (λ x. ℕ) [ true ↦ elim (is_own places ps n k) as (λ x. ℕ) [ true ↦ n + G | false ↦ n ] | false ↦ n + G ]) f

  -- ---- kinds
  module _ (K : Kinds) where
    -- of rank m, or nothing to compare with
    abbrev Fine : ℕ → Ty → Type 0
    Fine m t = ((v : ℕ) × (t ≡ Var v)) ⊎ (m ≤ rank K t)

    abbrev All_fine : ℕ → Tys → Type 0
    All_fine m none = Unit {0}
    All_fine m (more t ts) = Fine m t × All_fine m ts

    nothing_fine : (m : ℕ) → Fine m (Var 0)
    nothing_fine m = inl (0, refl)

    first_fine : (m : ℕ) (ts : Tys) → All_fine m ts → Fine m (first_of ts)
    first_fine m none h = nothing_fine m
    first_fine m (more t ts) h = h.0

    rest_fine : (m : ℕ) (ts : Tys) → All_fine m ts → All_fine m (rest_of ts)
    rest_fine m none h = tt
    rest_fine m (more t ts) h = h.1

    least_fine : (m : ℕ) (ts : Tys) → m ≤ least K ts → All_fine m ts
    unfolding rank
    least_fine m none le = tt
    least_fine m (more t ts) le = (inr (omega arith), least_fine m ts (omega arith))

    named_fine : (m l : ℕ) (t : Ty) → m ≤ rank K t → Fine m (named_or l t)
    named_fine m l t le = known (part_named S l t) refl
      where
        known : (o : Option Ty) → part_named S l t ≡ o → Fine m (elim o as (λ o. Ty) [ Some u ↦ u | None ↦ Var 0 ])
        known None e = nothing_fine m
        known (Some u) e = let z : rank K t ≤ rank K u = named_rank S l K t u e in inr (omega arith)

    under_fine : (m : ℕ) (ls : List ℕ) (t : Ty) → m ≤ rank K t → All_fine m (parts_under ls (λ l. named_or l t))
    under_fine m [] t le = tt
    under_fine m (l ∷ ls) t le = (named_fine m l t le, under_fine m ls t le)

    part_fine : (m : ℕ) (ls : List ℕ) (t : Ty) (i : ℕ) → m ≤ rank K t → Fine m (part_for ls t i)
    part_fine m [] t i le = nothing_fine m
    part_fine m (l ∷ ls) t i le = elim (is_at (S.position l) i) as (λ x. Fine m (elim x as (λ x. Ty) [ true ↦ named_or l t | false ↦ part_for ls t i ])) [ true ↦ named_fine m l t le | false ↦ part_fine m ls t i le ]

    parts_fine : (m : ℕ) (ls : List ℕ) (t : Ty) (i : ℕ) (us : Tys) → m ≤ rank K t → All_fine m (parts_for ls t i us)
    parts_fine m ls t i none le = tt
    parts_fine m ls t i (more u us) le = (part_fine m ls t i le, parts_fine m ls t (suc i) us le)

    other_fine : (m : ℕ) (g h : Head) (ts us : Tys) → m ≤ rank K (Made h ts) → All_fine m (against_other g h ts us)
    other_fine m (head.Record r) h ts us le = under_fine m (S.fields r) (Made h ts) le
    other_fine m head.Tuple (head.Record r) ts us le = parts_fine m (S.fields r) (Made (head.Record r) ts) 0 us le
    other_fine m g h ts us le = tt

    parts_of_fine : (m : ℕ) (h : Head) (ts : Tys) → m ≤ rank K (Made h ts) → All_fine m ts
    unfolding rank
    parts_of_fine m h ts le = least_fine m ts (omega arith)

    made_fine : (m : ℕ) (g h : Head) (ts us : Tys) → m ≤ rank K (Made h ts) → All_fine m (against_made g h ts us)
    made_fine m head.Array head.Array ts us le = parts_of_fine m head.Array ts le
    made_fine m head.Fun head.Fun ts us le = parts_of_fine m head.Fun ts le
    made_fine m head.Tuple head.Tuple ts us le = parts_of_fine m head.Tuple ts le
    made_fine m g h ts us le = elim (is_head g h) as (λ x. All_fine m (elim x as (λ x. Tys) [ true ↦ ts | false ↦ against_other g h ts us ])) [ true ↦ parts_of_fine m h ts le | false ↦ other_fine m g h ts us le ]

    against_fine : (m : ℕ) (g : Head) (t : Ty) (us : Tys) → Fine m t → All_fine m (against g t us)
    against_fine m g (Var n) us f = tt
    against_fine m g (Made h ts) us (inl w) = absurd (made_var h ts w.0 w.1)
      where
        made_var : (h : Head) (ts : Tys) (v : ℕ) → Made h ts ≡ Var v → ⊥
        made_var h ts v e = cc
    against_fine m g (Made h ts) us (inr le) = made_fine m g h ts us le

    moved_rank : (g : Head) (ts : Tys) (m : ℕ) → m ≤ cap g → m ≤ least K ts → m ≤ rank K (moved g ts)
    unfolding rank
    moved_rank (head.Rigid n k) none m p q = omega arith
    moved_rank (head.Rigid n k) (more t ts) m p q = omega arith
    moved_rank (head.Scalar s) ts m p q = omega arith
    moved_rank head.Array ts m p q = omega arith
    moved_rank head.Tuple ts m p q = omega arith
    moved_rank (head.Record r) ts m p q = omega arith
    moved_rank head.Fun ts m p q = omega arith
    moved_rank (head.Abstract n d) ts m p q = omega arith

    -- a variable is no own type
    own_fine : (m : ℕ) (t u : Ty) → Fine m t → has_own t u ≡ true → m ≤ rank K t
    own_fine m t u (inr le) e = le
    own_fine m t u (inl w) e = absurd (subst (λ s. has_own s u ≡ true → ⊥) (sym w.1) (λ h. absurd cc) e)

    mutual
      unfolding rank lifted

      lifted_rank : (m : ℕ) (t u : Ty) → Fine m t → m ≤ rank K u → m ≤ rank K (lifted t u)
      lifted_rank m t (Var n) f le = elim (true_or (has_own t (Var n))) as (λ x. m ≤ rank K (lifted t (Var n))) [
        | inl y ↦ subst (λ s. m ≤ rank K s) (sym (lifted_yes t (Var n) y)) (own_fine m t (Var n) f y)
        | inr z ↦ subst (λ s. m ≤ rank K s) (sym (lifted_var t n z)) le
      ]
      lifted_rank m t (Made g us) f le = elim (true_or (has_own t (Made g us))) as (λ x. m ≤ rank K (lifted t (Made g us))) [
        | inl y ↦ subst (λ s. m ≤ rank K s) (sym (lifted_yes t (Made g us) y)) (own_fine m t (Made g us) f y)
        | inr z ↦ subst (λ s. m ≤ rank K s) (sym (lifted_made t g us z)) (moved_rank g (all_lifted (against g t us) us) m (omega arith) (all_lifted_rank m (against g t us) us (against_fine m g t us f) (omega arith)))
      ]

      all_lifted_rank : (m : ℕ) (ts us : Tys) → All_fine m ts → m ≤ least K us → m ≤ least K (all_lifted ts us)
      all_lifted_rank m ts none f le = le
      all_lifted_rank m ts (more u us) f le = let p : m ≤ rank K (lifted (first_of ts) u) = lifted_rank m (first_of ts) u (first_fine m ts f) (omega arith) in let q : m ≤ least K (all_lifted (rest_of ts) us) = all_lifted_rank m (rest_of ts) us (rest_fine m ts f) (omega arith) in omega arith

    pub lifted_kind : (k : Kind) (t u : Ty) → HasKind K k t → HasKind K k u → HasKind K k (lifted t u)
    lifted_kind k t u h h' = lifted_rank (level k) t u (inr h) h'

  -- ---- parts
  module _ (one_label : (l l' i : ℕ) → S.position l ≡ Some i → S.position l' ≡ Some i → l ≡ l') where
    -- the part i of what is compared
    at_index : Tys → ℕ → Ty
    at_index ts zero = first_of ts
    at_index ts (suc i) = at_index (rest_of ts) i

    lifted_at : (ts us : Tys) (i : ℕ) (u : Ty) → part_at (Some i) us ≡ Some u → part_at (Some i) (all_lifted ts us) ≡ Some (lifted (at_index ts i) u)
    unfolding part_at lifted at_index
    lifted_at ts none i u e = absurd (none-some u e)
    lifted_at ts (more v us) zero u e = ap (λ w. Some (lifted (first_of ts) w)) (same_Some v u e)
    lifted_at ts (more v us) (suc i) u e = lifted_at (rest_of ts) us i u e

    index_at : (ts : Tys) (i : ℕ) (t : Ty) → part_at (Some i) ts ≡ Some t → at_index ts i ≡ t
    unfolding part_at at_index
    index_at none i t e = absurd (none-some t e)
    index_at (more v ts) zero t e = same_Some v t e
    index_at (more v ts) (suc i) t e = index_at ts i t e

    named_is : (l : ℕ) (t u : Ty) → part_named S l t ≡ Some u → named_or l t ≡ u
    named_is l t u e = ap (λ (o : Option Ty). elim o as (λ o. Ty) [ Some u ↦ u | None ↦ Var 0 ]) e

    -- where a label stands among the labels of a record
    label_at : (from l : ℕ) (ls : List ℕ) (i : ℕ) → place_from from l ls ≡ Some i → (j : ℕ) × (i ≡ from + j) × ((f : ℕ → Ty) → at_index (parts_under ls f) j ≡ f l)
    unfolding at_index
    label_at from l [] i e = absurd (none-some i (sym (place_none from l) ∙ e))
    label_at from l (x ∷ xs) i e = elim (ℕ_discrete x l) as (λ d. (j : ℕ) × (i ≡ from + j) × ((f : ℕ → Ty) → at_index (parts_under (x ∷ xs) f) j ≡ f l)) [
      | yes same ↦ (0, (let z : from ≡ i = same_Some from i (sym (place_here from l x xs same) ∙ e) in omega arith), λ f. ap f same)
      | no ne ↦ let w = label_at (suc from) l xs i (sym (place_next from l x xs ne) ∙ e) in let z : i ≡ suc from + w.0 = w.1 in (suc w.0, omega arith, λ f. w.2 f)
    ]

    -- the label of a part of a tuple among those of a record
    part_found : (ls : List ℕ) (t v : Ty) (l i : ℕ) → S.position l ≡ Some i → In l ls → part_named S l t ≡ Some v → part_for ls t i ≡ v
    part_found [] t v l i p inside e = absurd inside
    part_found (x ∷ ls) t v l i p inside e = elim (true_or (is_at (S.position x) i)) as (λ b. part_for (x ∷ ls) t i ≡ v) [
      | inl y ↦ ap (λ (b : Bool). elim b as (λ x. Ty) [ true ↦ named_or x t | false ↦ part_for ls t i ]) y ∙ ap (λ m. named_or m t) (one_label x l i (at_is (S.position x) i y) p) ∙ named_is l t v e
      | inr z ↦ ap (λ (b : Bool). elim b as (λ x. Ty) [ true ↦ named_or x t | false ↦ part_for ls t i ]) z ∙ part_found ls t v l i p (rest inside z) e
    ]
      where
        at_is : (o : Option ℕ) (i : ℕ) → is_at o i ≡ true → o ≡ Some i
        at_is None i h = absurd cc
        at_is (Some j) i h = ap Some (number_is j i h)

        rest : ((l ≡ x) ⊎ In l ls) → is_at (S.position x) i ≡ false → In l ls
        rest (inl same) h = absurd (let y : is_at (S.position x) i ≡ true = ap (λ m. is_at (S.position m) i) (sym same) ∙ ap (λ o. is_at o i) p ∙ number_self i in let w : true ≡ false = sym y ∙ h in cc)
        rest (inr inside) h = inside

    parts_index : (ls : List ℕ) (t : Ty) (from i : ℕ) (us : Tys) (u : Ty) → part_at (Some i) us ≡ Some u → at_index (parts_for ls t from us) i ≡ part_for ls t (from + i)
    unfolding part_at at_index
    parts_index ls t from i none u e = absurd (none-some u e)
    parts_index ls t from zero (more v us) u e = ap (part_for ls t) (let z : from ≡ from + 0 = omega arith in z)
    parts_index ls t from (suc i) (more v us) u e = parts_index ls t (suc from) i us u e ∙ ap (part_for ls t) (let z : suc from + i ≡ from + suc i = omega arith in z)

    -- of types with a part of this name
    same_index : (l : ℕ) (g h : Head) (ts : Tys) (v : Ty) (i : ℕ) → HasPart S l (Made h ts) v → is_head g h ≡ true → place S l g ≡ Some i → at_index ts i ≡ v
    same_index l g h ts v i has e p = index_at ts i v (ap (λ o. part_at o ts) (sym p ∙ ap (place S l) (head_is g h e)) ∙ sym (part_made S l h ts) ∙ has)

    other_record : (l : ℕ) (h : Head) (ts : Tys) (v : Ty) → HasPart S l (Made h ts) v → (r i : ℕ) → place_from 0 l (S.fields r) ≡ Some i → at_index (parts_under (S.fields r) (λ l. named_or l (Made h ts))) i ≡ v
    other_record l h ts v has r i e = let w = label_at 0 l (S.fields r) i e in let z : i ≡ 0 + w.0 = w.1 in ap (at_index (parts_under (S.fields r) (λ l. named_or l (Made h ts)))) (let y : i ≡ w.0 = omega arith in y) ∙ w.2 (λ l. named_or l (Made h ts)) ∙ named_is l (Made h ts) v has

    against_record : (l : ℕ) (h : Head) (ts : Tys) (v : Ty) → HasPart S l (Made h ts) v → (r i : ℕ) (us : Tys) → place S l (head.Record r) ≡ Some i → at_index (against_made (head.Record r) h ts us) i ≡ v
    unfolding place
    against_record l h ts v has r i us e = elim (true_or (is_head (head.Record r) h)) as (λ x. at_index (against_made (head.Record r) h ts us) i ≡ v) [
      | inl y ↦ ap (λ (b : Bool). at_index (elim b as (λ x. Tys) [ true ↦ ts | false ↦ against_other (head.Record r) h ts us ]) i) y ∙ same_index l (head.Record r) h ts v i has y e
      | inr n ↦ ap (λ (b : Bool). at_index (elim b as (λ x. Tys) [ true ↦ ts | false ↦ against_other (head.Record r) h ts us ]) i) n ∙ other_record l h ts v has r i e
    ]

    other_tuple : (l : ℕ) (r : ℕ) (ts : Tys) (v : Ty) → HasPart S l (Made (head.Record r) ts) v → (i : ℕ) (us : Tys) (u : Ty) → S.position l ≡ Some i → part_at (Some i) us ≡ Some u → at_index (parts_for (S.fields r) (Made (head.Record r) ts) 0 us) i ≡ v
    unfolding place
    other_tuple l r ts v has i us u p e = parts_index (S.fields r) (Made (head.Record r) ts) 0 i us u e ∙ ap (part_for (S.fields r) (Made (head.Record r) ts)) (let z : 0 + i ≡ i = omega arith in z)
        ∙ part_found (S.fields r) (Made (head.Record r) ts) v l i p (inside (place_from 0 l (S.fields r)) refl (sym (part_made S l (head.Record r) ts) ∙ has)) has
      where
        inside : (o : Option ℕ) → place_from 0 l (S.fields r) ≡ o → part_at o ts ≡ Some v → In l (S.fields r)
        inside None e h = absurd (no_part ts v h)
        inside (Some j) e h = placed_in 0 l (S.fields r) j e

    against_tuple : (l : ℕ) (h : Head) (ts : Tys) (v : Ty) → HasPart S l (Made h ts) v → (i : ℕ) (us : Tys) (u : Ty) → S.position l ≡ Some i → part_at (Some i) us ≡ Some u → at_index (against_made head.Tuple h ts us) i ≡ v
    unfolding place
    against_tuple l head.Tuple ts v has i us u p e = index_at ts i v (ap (λ o. part_at o ts) (sym p) ∙ sym (part_made S l head.Tuple ts) ∙ has)
    against_tuple l (head.Record r) ts v has i us u p e = elim (true_or (is_head head.Tuple (head.Record r))) as (λ x. at_index (against_made head.Tuple (head.Record r) ts us) i ≡ v) [
      | inl y ↦ ap (λ (b : Bool). at_index (elim b as (λ x. Tys) [ true ↦ ts | false ↦ against_other head.Tuple (head.Record r) ts us ]) i) y ∙ same_index l head.Tuple (head.Record r) ts v i has y p
      | inr n ↦ ap (λ (b : Bool). at_index (elim b as (λ x. Tys) [ true ↦ ts | false ↦ against_other head.Tuple (head.Record r) ts us ]) i) n ∙ other_tuple l r ts v has i us u p e
    ]
    against_tuple l (head.Scalar s) ts v has i us u p e = absurd (no_place S l (head.Scalar s) ts v refl has)
    against_tuple l head.Array ts v has i us u p e = absurd (no_place S l head.Array ts v refl has)
    against_tuple l head.Fun ts v has i us u p e = absurd (no_place S l head.Fun ts v refl has)
    against_tuple l (head.Rigid n k) ts v has i us u p e = absurd (no_place S l (head.Rigid n k) ts v refl has)
    against_tuple l (head.Abstract n d) ts v has i us u p e = absurd (no_place S l (head.Abstract n d) ts v refl has)

    -- a type that has a part is no own type
    part_no_own : (l : ℕ) (t v u : Ty) → HasPart S l t v → has_own t u ≡ false
    unfolding place
    part_no_own l (Var n) v u has = refl
    part_no_own l (Made (head.Rigid n k) ts) v u has = absurd (no_place S l (head.Rigid n k) ts v refl has)
    part_no_own l (Made (head.Scalar s) ts) v u has = refl
    part_no_own l (Made head.Array ts) v u has = refl
    part_no_own l (Made head.Tuple ts) v u has = refl
    part_no_own l (Made (head.Record r) ts) v u has = refl
    part_no_own l (Made head.Fun ts) v u has = refl
    part_no_own l (Made (head.Abstract n d) ts) v u has = refl

    known_part : (l : ℕ) (g : Head) (o : Option ℕ) (us : Tys) (u : Ty) → place S l g ≡ o → part_at o us ≡ Some u → (i : ℕ) × (place S l g ≡ Some i) × (part_at (Some i) us ≡ Some u)
    known_part l g None us u e h = absurd (no_part us u h)
    known_part l g (Some i) us u e h = (i, e, h)

    made_part : (l : ℕ) (t v : Ty) (g : Head) (us : Tys) (u : Ty) (i : ℕ) → place S l g ≡ Some i → part_at (Some i) us ≡ Some u → moved g (all_lifted (against g t us) us) ≡ Made g (all_lifted (against g t us) us) → at_index (against g t us) i ≡ v
        → HasPart S l t v → HasPart S l (lifted t (Made g us)) (lifted v u)
    made_part l t v g us u i p e stays is has = subst (λ w. HasPart S l w (lifted v u)) (sym (lifted_made t g us (part_no_own l t v (Made g us) has) ∙ stays))
        (part_made S l g (all_lifted (against g t us) us) ∙ ap (λ o. part_at o (all_lifted (against g t us) us)) p ∙ lifted_at (against g t us) us i u e ∙ ap (λ w. Some (lifted w u)) is)

    pub lifted_part : (l : ℕ) (t v u w : Ty) → HasPart S l t v → HasPart S l u w → HasPart S l (lifted t u) (lifted v w)
    unfolding place part_named
    lifted_part l (Var n) v u w has has' = absurd (none-some v has)
    lifted_part l (Made h ts) v (Var n) w has has' = absurd (none-some w has')
    lifted_part l (Made h ts) v (Made (head.Record r) us) w has has' = let x = known_part l (head.Record r) (place S l (head.Record r)) us w refl has' in made_part l (Made h ts) v (head.Record r) us w x.0 x.1 x.2 refl (against_record l h ts v has r x.0 us x.1) has
    lifted_part l (Made h ts) v (Made head.Tuple us) w has has' = let x = known_part l head.Tuple (place S l head.Tuple) us w refl has' in made_part l (Made h ts) v head.Tuple us w x.0 x.1 x.2 refl (against_tuple l h ts v has x.0 us w x.1 x.2) has
    lifted_part l (Made h ts) v (Made (head.Scalar s) us) w has has' = absurd (no_part us w has')
    lifted_part l (Made h ts) v (Made head.Array us) w has has' = absurd (no_part us w has')
    lifted_part l (Made h ts) v (Made head.Fun us) w has has' = absurd (no_part us w has')
    lifted_part l (Made h ts) v (Made (head.Rigid n k) us) w has has' = absurd (no_part us w has')
    lifted_part l (Made h ts) v (Made (head.Abstract n d) us) w has has' = absurd (no_part us w has')

  -- ---- instances of one type
  same_parts : (h : Head) (ts us : Tys) → against_made h h ts us ≡ ts
  same_parts head.Array ts us = refl
  same_parts head.Fun ts us = refl
  same_parts head.Tuple ts us = refl
  same_parts (head.Scalar s) ts us = ap (λ (b : Bool). elim b as (λ x. Tys) [ true ↦ ts | false ↦ against_other (head.Scalar s) (head.Scalar s) ts us ]) (head_self (head.Scalar s))
  same_parts (head.Record r) ts us = ap (λ (b : Bool). elim b as (λ x. Tys) [ true ↦ ts | false ↦ against_other (head.Record r) (head.Record r) ts us ]) (head_self (head.Record r))
  same_parts (head.Rigid n k) ts us = ap (λ (b : Bool). elim b as (λ x. Tys) [ true ↦ ts | false ↦ against_other (head.Rigid n k) (head.Rigid n k) ts us ]) (head_self (head.Rigid n k))
  same_parts (head.Abstract n d) ts us = ap (λ (b : Bool). elim b as (λ x. Tys) [ true ↦ ts | false ↦ against_other (head.Abstract n d) (head.Abstract n d) ts us ]) (head_self (head.Abstract n d))

  rigid_same : (n : ℕ) (k : Kind) → n < F0 → lifted (Made (head.Rigid n k) none) (chosen places ps c n k) ≡ Made (head.Rigid n k) none
  unfolding lifted
  rigid_same n k lt = elim (true_or (is_own places ps n k)) as (λ x. lifted (Made (head.Rigid n k) none) (chosen places ps c n k) ≡ Made (head.Rigid n k) none) [
    | inl y ↦ ap (lifted (Made (head.Rigid n k) none)) (own_chosen places c ps n k y).1 ∙ lifted_yes (Made (head.Rigid n k) none) (c n) (ap (λ b. b && is_type (c n) (c n)) y ∙ type_self (c n))
    | inr f ↦ ap (lifted (Made (head.Rigid n k) none)) (own_stays places c ps n k f) ∙ lifted_made (Made (head.Rigid n k) none) (head.Rigid n k) none (ap (λ b. b && is_type (Made (head.Rigid n k) none) (c n)) f)
        ∙ ap (λ m. Made (head.Rigid m k) none) (ap (λ (x : Bool). elim x as (λ x. ℕ) [ true ↦ elim (is_own places ps n k) as (λ x. ℕ) [ true ↦ n + G | false ↦ n ] | false ↦ n + G ]) (le-leb (suc n) F0 (omega arith)) ∙ ap (λ (x : Bool). elim x as (λ x. ℕ) [ true ↦ n + G | false ↦ n ]) f)
  ]

  -- both rows are empty, or neither
  abbrev pub Both_rows : Tys → Tys → Type 0
  Both_rows none none = Unit {0}
  Both_rows none (more u us) = ⊥
  Both_rows (more t ts) none = ⊥
  Both_rows (more t ts) (more u us) = Unit {0}

  pub head_lifted : (h : Head) (ts us : Tys) → head_limit h ≤ F0 → Both_rows ts us → lifted (Made h ts) (chosen_head places ps c h us) ≡ Made h (all_lifted ts us)
  unfolding lifted
  head_lifted (head.Rigid n k) none none le rows = rigid_same n k (omega arith)
  head_lifted (head.Rigid n k) none (more u us) le rows = absurd rows
  head_lifted (head.Rigid n k) (more t ts) none le rows = absurd rows
  head_lifted (head.Rigid n k) (more t ts) (more u us) le rows = ap (λ vs. Made (head.Rigid n k) (all_lifted vs (more u us))) (same_parts (head.Rigid n k) (more t ts) (more u us))
  head_lifted (head.Scalar s) ts us le rows = ap (λ vs. Made (head.Scalar s) (all_lifted vs us)) (same_parts (head.Scalar s) ts us)
  head_lifted head.Array ts us le rows = refl
  head_lifted head.Tuple ts us le rows = refl
  head_lifted (head.Record r) ts us le rows = ap (λ vs. Made (head.Record r) (all_lifted vs us)) (same_parts (head.Record r) ts us)
  head_lifted head.Fun ts us le rows = refl
  head_lifted (head.Abstract n d) ts us le rows = ap (λ vs. Made (head.Abstract n d) (all_lifted vs us)) (same_parts (head.Abstract n d) ts us)
