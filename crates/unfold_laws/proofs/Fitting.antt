-- What is known stays where more definitions are known, the part of a record is known by its label, and one component may be
-- data of each type.
use Rattle.std.proofs.Common.{◌≡◌, Bool, true, false, cond, ℕ, zero, suc, ◌≤◌, min, arith, refl, sym, ap, ◌∙◌, subst, List, [], ◌∷◌, Option, Some, None, if◌then◌else◌, ◌==◌, eq-eqb}
use native.Mathlib.Decide.{ℕ_discrete}
use Rattle.std.specs.Str.{bytes_eq}
use Rattle.std.proofs.lemmas.Slice.Eq.{bytes_eq-Decides}
use Rattle.fut_meaning.specs.Found.{Told}
use Rattle.fut_ast.specs.Sorts.{Text}
use Rattle.fut_types.specs.declared.Head.TheVariants as head
use Rattle.fut_types.specs.declared.Kind.TheVariants as kind
use Rattle.fut_types.specs.Types.{Ty, Var, Made, Tys, none, more, Kinds, HasKind, rank, least}
use Rattle.fut_types.specs.Shapes.{place_from, part_at}
use Rattle.fut_typing.specs.Names.{Names}
use Rattle.type_soundness.proofs.Records.{there_place}
use Rattle.fut_blocks.specs.declared.block.Atom.{Atom}
use Rattle.fut_blocks.specs.Meaning.{look}
use Rattle.fut_meaning.specs.Knowns.{or_else}
use Rattle.unfold.specs.Knowns.{Known, Scalar_known, Tuple_known, Record_known, Function_known, Primitive_known, Knowns, no_known, known_and, Known_fields, no_known_field, known_field_and, Scope as Seen, Tops, local, find, field}
use Rattle.unfold_laws.specs.Fits.{World, Keeps_tops, types_of, Learns, On_component, Each_field, Is_data, All_data, Part_data, Fits, All_fit, Keyed}
use Rattle.unfold_laws.specs.Entered.{All_in_known, All_in_knowns, All_in_known_fields}
use Rattle.unfold_laws.specs.Typed.{Stands}
use Rattle.unfold_laws.proofs.Entered.{known_as}
use Rattle.unfold_laws.proofs.TypedSteps.{learns_more}

pub some_same : {A : Type 0} {x y : A} → Some x ≡ Some y → x ≡ y
some_same e = cc

pub none_some : {A C : Type 0} {o : Option A} {x : A} → o ≡ Some x → o ≡ None → C
none_some {x = x} e f = absurd (let z : None ≡ Some x = sym f ∙ e in cc)

pub find_learns : (tops tops' : Tops) → Keeps_tops tops tops' → (sc : Seen) (b : ℕ) (s : Known) → find tops sc b ≡ Some s → find tops' sc b ≡ Some s
unfolding find
find_learns tops tops' g sc b s e = known (local sc b) e
  where
    known : (o : Option Known) → or_else o (look tops b) ≡ Some s → or_else o (look tops' b) ≡ Some s
    known None e = g b s e
    known (Some u) e = e

component_map : (P Q : Atom → Type 0) → ((u : Atom) → P u → Q u) → (s : Known) → On_component P s → On_component Q s
component_map P Q go (Scalar_known u) h = go u h
component_map P Q go (Tuple_known ss) h = absurd h
component_map P Q go (Record_known fs) h = absurd h
component_map P Q go (Function_known ps e lo sc) h = absurd h
component_map P Q go (Primitive_known p at ss) h = absurd h

-- ---- fields
pub each_map : (P Q : Text → Known → Type 0) → ((g : Text) (s : Known) → P g s → Q g s) → (fs : Known_fields) → Each_field P fs → Each_field Q fs
each_map P Q go no_known_field h = tt
each_map P Q go (known_field_and g s fs) h = (go g s h.0, each_map P Q go fs h.1)

pub each_found : (P : Text → Known → Type 0) (f : Text) (s : Known) (fs : Known_fields) → Each_field P fs → field f fs ≡ Some s → P f s
each_found P f s no_known_field h e = absurd (let z : None ≡ Some s = e in cc)
each_found P f s (known_field_and g u fs) h e = known (bytes_eq g f) refl (each_found P f s fs h.1) e
  where
    known : (b : Bool) → bytes_eq g f ≡ b → (field f fs ≡ Some s → P f s) → cond b (Some u) (field f fs) ≡ Some s → P f s
    known true is rec e = subst (λ x. P x s) ((bytes_eq-Decides g f).0 is) (subst (λ y. P g y) (some_same e) h.0)
    known false is rec e = rec e

module _ (N : Names) (T : Told) (K : Kinds) where
  -- ---- a label's part
  pub keyed_found : (l : ℕ) (u : Ty) (world : World) (s : Known) (ls : List ℕ) (ts : Tys) → part_at (place_from 0 l ls) ts ≡ Some u → Keyed N T K ls ts world l s → Fits N T K u world s
  unfolding Keyed place_from part_at
  keyed_found l u world s [] ts e h = absurd h
  keyed_found l u world s (x ∷ xs) none e h = absurd h
  keyed_found l u world s (x ∷ xs) (more t ts) e h = elim (ℕ_discrete x l) as (λ d. Fits N T K u world s) [
    | yes same ↦
        let here : Some t ≡ Some u = subst (λ b. part_at (if b then Some 0 else place_from 1 l xs) (more t ts) ≡ Some u) (eq-eqb x l same) e in
        subst (λ w. Fits N T K w world s) (some_same here) (h.0 same)
    | no ne ↦ keyed_found l u world s xs ts (sym (there_place l x xs t ts ne) ∙ e) (h.1 ne)
  ]

  -- there is such a part
  pub keyed_part : (l : ℕ) (world : World) (s : Known) (ls : List ℕ) (ts : Tys) → Keyed N T K ls ts world l s → (u : Ty) × (part_at (place_from 0 l ls) ts ≡ Some u) × Fits N T K u world s
  unfolding Keyed place_from part_at
  keyed_part l world s [] ts h = absurd h
  keyed_part l world s (x ∷ xs) none h = absurd h
  keyed_part l world s (x ∷ xs) (more t ts) h = elim (ℕ_discrete x l) as (λ d. (u : Ty) × (part_at (place_from 0 l (x ∷ xs)) (more t ts) ≡ Some u) × Fits N T K u world s) [
    | yes same ↦ (t, ap (λ b. part_at (if b then Some 0 else place_from 1 l xs) (more t ts)) (eq-eqb x l same), h.0 same)
    | no ne ↦ let r = keyed_part l world s xs ts (h.1 ne) in (r.0, there_place l x xs t ts ne ∙ r.1, r.2)
  ]

  pub keyed_from : (l : ℕ) (u : Ty) (world : World) (s : Known) (ls : List ℕ) (ts : Tys) → part_at (place_from 0 l ls) ts ≡ Some u → Fits N T K u world s → Keyed N T K ls ts world l s
  unfolding Keyed place_from part_at
  keyed_from l u world s [] none e h = absurd (let z : None ≡ Some u = e in cc)
  keyed_from l u world s [] (more t ts) e h = absurd (let z : None ≡ Some u = e in cc)
  keyed_from l u world s (x ∷ xs) none e h = absurd (none_at (if x == l then Some 0 else place_from 1 l xs) e)
    where
      none_at : (o : Option ℕ) → part_at o none ≡ Some u → ⊥
      none_at None e = let z : None ≡ Some u = e in cc
      none_at (Some i) e = let z : None ≡ Some u = e in cc
  keyed_from l u world s (x ∷ xs) (more t ts) e h = (
    (λ same. subst (λ w. Fits N T K w world s) (sym (some_same (subst (λ b. part_at (if b then Some 0 else place_from 1 l xs) (more t ts) ≡ Some u) (eq-eqb x l same) e))) h),
    (λ ne. keyed_from l u world s xs ts (sym (there_place l x xs t ts ne) ∙ e) h),
  )

  -- ---- more definitions
  pub stands_learn : (world world' : World) → Learns N K world world' → (u : Atom) → Stands (types_of N K world.1) u → Stands (types_of N K world'.1) u
  stands_learn world world' g u (t, h) = (t, g.1 u t h)

  mutual
    unfolding Fits All_fit Keyed

    pub fits_learn : (t : Ty) (world world' : World) → Learns N K world world' → (s : Known) → Fits N T K t world s → Fits N T K t world' s
    fits_learn (Var n) world world' g s h = component_map _ _ (λ u. g.1 u (Var n)) s h
    fits_learn (Made (head.Scalar x) ts) world world' g s h = component_map _ _ (λ u. g.1 u (Made (head.Scalar x) ts)) s h
    fits_learn (Made head.Array ts) world world' g s h = (h.0, component_map _ _ (λ u. g.1 u (Made head.Array ts)) s h.1)
    fits_learn (Made head.Tuple ts) world world' g (Tuple_known ss) h = (h.0, all_fit_learn ts world world' g ss h.1)
    fits_learn (Made head.Tuple ts) world world' g (Scalar_known u) h = (h.0, g.1 u (Made head.Tuple ts) h.1)
    fits_learn (Made head.Tuple ts) world world' g (Record_known fs) h = absurd h
    fits_learn (Made head.Tuple ts) world world' g (Function_known ps e lo sc) h = absurd h
    fits_learn (Made head.Tuple ts) world world' g (Primitive_known p at ss) h = absurd h
    fits_learn (Made (head.Record n) ts) world world' g (Record_known fs) h =
        (h.0, h.1, each_map (λ f u. Keyed N T K (N.shapes.fields n) ts world (N.label f) u) (λ f u. Keyed N T K (N.shapes.fields n) ts world' (N.label f) u) (λ f u k. keyed_learn (N.shapes.fields n) ts world world' g (N.label f) u k) fs h.2)
    fits_learn (Made (head.Record n) ts) world world' g (Scalar_known u) h = (h.0, g.1 u (Made (head.Record n) ts) h.1)
    fits_learn (Made (head.Record n) ts) world world' g (Tuple_known ss) h = absurd h
    fits_learn (Made (head.Record n) ts) world world' g (Function_known ps e lo sc) h = absurd h
    fits_learn (Made (head.Record n) ts) world world' g (Primitive_known p at ss) h = absurd h
    fits_learn (Made head.Fun none) world world' g s h = h
    fits_learn (Made head.Fun (more t none)) world world' g s h = h
    fits_learn (Made head.Fun (more t (more u none))) world world' g s h = (h.0, known_as _ _ (stands_learn world world' g) s h.1, λ world'' g'. h.2 world'' (learns_more N K world world' world'' g g'))
    fits_learn (Made head.Fun (more t (more u (more w ts)))) world world' g s h = h
    fits_learn (Made (head.Rigid n k) ts) world world' g s h = component_map _ _ (λ u. g.1 u (Made (head.Rigid n k) ts)) s h
    fits_learn (Made (head.Abstract n d) ts) world world' g s h = component_map _ _ (λ u. g.1 u (Made (head.Abstract n d) ts)) s h

    pub all_fit_learn : (ts : Tys) (world world' : World) → Learns N K world world' → (ss : Knowns) → All_fit N T K ts world ss → All_fit N T K ts world' ss
    all_fit_learn none world world' g ss h = h
    all_fit_learn (more t ts) world world' g no_known h = absurd h
    all_fit_learn (more t ts) world world' g (known_and s ss) h = (fits_learn t world world' g s h.0, all_fit_learn ts world world' g ss h.1)

    pub keyed_learn : (ls : List ℕ) (ts : Tys) (world world' : World) → Learns N K world world' → (l : ℕ) (s : Known) → Keyed N T K ls ts world l s → Keyed N T K ls ts world' l s
    keyed_learn [] ts world world' g l s h = absurd h
    keyed_learn (x ∷ ls) none world world' g l s h = absurd h
    keyed_learn (x ∷ ls) (more t ts) world world' g l s h = ((λ e. fits_learn t world world' g s (h.0 e)), (λ ne. keyed_learn ls ts world world' g l s (h.1 ne)))

-- ---- atoms
fields_stand : (P : Text → Known → Type 0) (Q : Atom → Type 0) → ((g : Text) (s : Known) → P g s → All_in_known Q s) → (fs : Known_fields) → Each_field P fs → All_in_known_fields Q fs
fields_stand P Q go no_known_field h = tt
fields_stand P Q go (known_field_and g s fs) h = (go g s h.0, fields_stand P Q go fs h.1)

module _ (N : Names) (T : Told) (K : Kinds) (world : World) where
  abbrev Here : Atom → Type 0
  Here u = Stands (types_of N K world.1) u

  component_stands : (t : Ty) (s : Known) → On_component (λ u. types_of N K world.1 u t) s → All_in_known Here s
  component_stands t (Scalar_known u) h = (t, h)
  component_stands t (Tuple_known ss) h = absurd h
  component_stands t (Record_known fs) h = absurd h
  component_stands t (Function_known ps e lo sc) h = absurd h
  component_stands t (Primitive_known p at ss) h = absurd h

  -- each atom of what is known of a value of a type stands for data
  mutual
    unfolding Fits All_fit Keyed

    pub fits_stand : (t : Ty) (s : Known) → Fits N T K t world s → All_in_known Here s
    fits_stand (Var n) s h = component_stands (Var n) s h
    fits_stand (Made (head.Scalar x) ts) s h = component_stands (Made (head.Scalar x) ts) s h
    fits_stand (Made head.Array ts) s h = component_stands (Made head.Array ts) s h.1
    fits_stand (Made head.Tuple ts) (Tuple_known ss) h = all_fit_stand ts ss h.1
    fits_stand (Made head.Tuple ts) (Scalar_known u) h = (Made head.Tuple ts, h.1)
    fits_stand (Made head.Tuple ts) (Record_known fs) h = absurd h
    fits_stand (Made head.Tuple ts) (Function_known ps e lo sc) h = absurd h
    fits_stand (Made head.Tuple ts) (Primitive_known p at ss) h = absurd h
    fits_stand (Made (head.Record n) ts) (Record_known fs) h = fields_stand (λ f u. Keyed N T K (N.shapes.fields n) ts world (N.label f) u) Here (λ f u k. keyed_stand (N.shapes.fields n) ts (N.label f) u k) fs h.2
    fits_stand (Made (head.Record n) ts) (Scalar_known u) h = (Made (head.Record n) ts, h.1)
    fits_stand (Made (head.Record n) ts) (Tuple_known ss) h = absurd h
    fits_stand (Made (head.Record n) ts) (Function_known ps e lo sc) h = absurd h
    fits_stand (Made (head.Record n) ts) (Primitive_known p at ss) h = absurd h
    fits_stand (Made head.Fun none) s h = absurd h
    fits_stand (Made head.Fun (more t none)) s h = absurd h
    fits_stand (Made head.Fun (more t (more u none))) s h = h.1
    fits_stand (Made head.Fun (more t (more u (more w ts)))) s h = absurd h
    fits_stand (Made (head.Rigid n k) ts) s h = component_stands (Made (head.Rigid n k) ts) s h
    fits_stand (Made (head.Abstract n d) ts) s h = component_stands (Made (head.Abstract n d) ts) s h

    all_fit_stand : (ts : Tys) (ss : Knowns) → All_fit N T K ts world ss → All_in_knowns Here ss
    all_fit_stand none no_known h = tt
    all_fit_stand none (known_and s ss) h = absurd h
    all_fit_stand (more t ts) no_known h = absurd h
    all_fit_stand (more t ts) (known_and s ss) h = (fits_stand t s h.0, all_fit_stand ts ss h.1)

    keyed_stand : (ls : List ℕ) (ts : Tys) (l : ℕ) (s : Known) → Keyed N T K ls ts world l s → All_in_known Here s
    keyed_stand [] ts l s h = absurd h
    keyed_stand (x ∷ ls) none l s h = absurd h
    keyed_stand (x ∷ ls) (more t ts) l s h = elim (ℕ_discrete x l) as (λ d. All_in_known Here s) [ yes e ↦ fits_stand t s (h.0 e) | no ne ↦ keyed_stand ls ts l s (h.1 ne) ]

-- ---- data
module _ (N : Names) (K : Kinds) where
  mutual
    unfolding Is_data All_data Part_data rank least

    pub kind_data : (t : Ty) → HasKind K kind.Data t → Is_data N t
    kind_data (Var n) k = tt
    kind_data (Made (head.Scalar x) ts) k = tt
    kind_data (Made head.Array ts) k = let z : 1 ≤ min 1 (least K ts) = k in kinds_data ts (omega (arith, z))
    kind_data (Made head.Tuple ts) k = let z : 1 ≤ min 2 (least K ts) = k in kinds_data ts (omega (arith, z))
    kind_data (Made (head.Record n) ts) k = λ f c. let z : 1 ≤ min 2 (least K ts) = k in kind_parts (N.shapes.fields n) ts (N.label f) (omega (arith, z))
    kind_data (Made head.Fun ts) k = let z : 1 ≤ min 0 (least K ts) = k in omega (arith, z)
    kind_data (Made (head.Rigid n d) ts) k = tt
    kind_data (Made (head.Abstract n d) ts) k = tt

    kinds_data : (ts : Tys) → 1 ≤ least K ts → All_data N ts
    kinds_data none k = tt
    kinds_data (more t ts) k = let z : 1 ≤ min (rank K t) (least K ts) = k in (kind_data t (omega (arith, z)), kinds_data ts (omega (arith, z)))

    kind_parts : (ls : List ℕ) (ts : Tys) (g : ℕ) → 1 ≤ least K ts → Part_data N ls ts g
    kind_parts [] ts g k = tt
    kind_parts (l ∷ ls) none g k = tt
    kind_parts (l ∷ ls) (more t ts) g k = let z : 1 ≤ min (rank K t) (least K ts) = k in ((λ e. kind_data t (omega (arith, z))), (λ ne. kind_parts ls ts g (omega (arith, z))))

module _ (N : Names) (T : Told) (K : Kinds) where
  -- one component of a type
  pub data_fits : (t : Ty) (world : World) (u : Atom) → Is_data N t → types_of N K world.1 u t → Fits N T K t world (Scalar_known u)
  unfolding Fits Is_data
  data_fits (Var n) world u d h = h
  data_fits (Made (head.Scalar x) ts) world u d h = h
  data_fits (Made head.Array ts) world u d h = (d, h)
  data_fits (Made head.Tuple ts) world u d h = (d, h)
  data_fits (Made (head.Record n) ts) world u d h = (d, h)
  data_fits (Made head.Fun ts) world u d h = absurd d
  data_fits (Made (head.Rigid n k) ts) world u d h = h
  data_fits (Made (head.Abstract n k) ts) world u d h = h

  pub fits_data : (t : Ty) (world : World) (u : Atom) → Fits N T K t world (Scalar_known u) → Is_data N t × types_of N K world.1 u t
  unfolding Fits Is_data
  fits_data (Var n) world u h = (tt, h)
  fits_data (Made (head.Scalar x) ts) world u h = (tt, h)
  fits_data (Made head.Array ts) world u h = h
  fits_data (Made head.Tuple ts) world u h = h
  fits_data (Made (head.Record n) ts) world u h = h
  fits_data (Made head.Fun none) world u h = absurd h
  fits_data (Made head.Fun (more t none)) world u h = absurd h
  fits_data (Made head.Fun (more t (more v none))) world u h = absurd (let z : false ≡ true = h.0 in cc)
  fits_data (Made head.Fun (more t (more v (more w ts)))) world u h = absurd h
  fits_data (Made (head.Rigid n k) ts) world u h = (tt, h)
  fits_data (Made (head.Abstract n k) ts) world u h = (tt, h)

  -- ---- parts of data
  pub all_data_part : (ts : Tys) (i : ℕ) (u : Ty) → part_at (Some i) ts ≡ Some u → All_data N ts → Is_data N u
  unfolding part_at All_data
  all_data_part none i u e d = absurd (let z : None ≡ Some u = e in cc)
  all_data_part (more t ts) zero u e d = subst (Is_data N) (some_same e) d.0
  all_data_part (more t ts) (suc i) u e d = all_data_part ts i u e d.1

  pub part_data : (l : ℕ) (u : Ty) (ls : List ℕ) (ts : Tys) → part_at (place_from 0 l ls) ts ≡ Some u → Part_data N ls ts l → Is_data N u
  unfolding Part_data place_from part_at
  part_data l u [] none e h = absurd (let z : None ≡ Some u = e in cc)
  part_data l u [] (more t ts) e h = absurd (let z : None ≡ Some u = e in cc)
  part_data l u (x ∷ xs) none e h = absurd (none_at (if x == l then Some 0 else place_from 1 l xs) e)
    where
      none_at : (o : Option ℕ) → part_at o none ≡ Some u → ⊥
      none_at None e = let z : None ≡ Some u = e in cc
      none_at (Some i) e = let z : None ≡ Some u = e in cc
  part_data l u (x ∷ xs) (more t ts) e h = elim (ℕ_discrete x l) as (λ d. Is_data N u) [
    | yes same ↦
        let here : Some t ≡ Some u = subst (λ b. part_at (if b then Some 0 else place_from 1 l xs) (more t ts) ≡ Some u) (eq-eqb x l same) e in
        subst (Is_data N) (some_same here) (h.0 same)
    | no ne ↦ part_data l u xs ts (sym (there_place l x xs t ts ne) ∙ e) (h.1 ne)
  ]
