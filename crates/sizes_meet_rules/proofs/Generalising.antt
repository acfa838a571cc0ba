-- A let that is written as a function, whose type has no type variables: its name is general, and each use has its type.
use Rattle.sizes_meet_rules.proofs.Forming.{i64_number}
use Rattle.std.proofs.Common.{◌≡◌, ◌⊎◌, ℕ, ◌+◌, List, [], Bool, true, false, ◌||◌, cond, nat_eq, Option, Some, None, refl, sym, ap, ◌∙◌, subst, inl, inr, eq-eqb}
use Rattle.std.proofs.lemmas.Bool.{ne_eqb}
use native.Mathlib.Decide.{ℕ_discrete}
use Rattle.fut_scalar.specs.declared.place.BindId.{BindId}
use Rattle.fut_flat.specs.Terms.{Parameter, Bound_pattern, Lambda, pattern_and}
use Rattle.fut_flat.specs.Erased.{FlatTerm}
use Rattle.fut_types.specs.declared.Head.{Head}
use Rattle.fut_types.specs.declared.Head.TheVariants as head
use Rattle.fut_types.specs.declared.Kind.{Kind}
use Rattle.fut_types.specs.Types.{Ty, Made, Sub, Kinds, fun_ty}
use Rattle.fut_typing.specs.Names.{Names}
use Rattle.fut_typing.specs.Primitives.{i64_ty}
use Rattle.fut_typing.specs.Scopes.{Uses, Scope as TypeScope, with_uses}
use Rattle.fut_typing.specs.Typing.{Typed}
use Rattle.sized_types.specs.Sizes.{Free, Const, Name, Own, Unknown, Slot, Variable, Inferred, Written, Size, Hole, Open, Level, Built, Fun, Sizes, no_size, size_and, erased, all_erased}
use Rattle.sized_types.specs.Standing.{stands, stands_told, has_hole, has_told}
use Rattle.fut_sizes.specs.Rules.{Away, Each_hole, Each_holes, Let_sized, General_form, Generalised}
use Rattle.fut_sizes.specs.Scopes.{Scope, with_known}
use Rattle.fut_sizes.specs.Scoping.{Context, is_name, is_number, with_scheme, with_entered}
use Rattle.sizes_meet_rules.specs.Known.{is_i64_size, Is_made, Formed, All_formed, Says, Known_name, Known_names, None_open, Is_const, Judged}
use Rattle.sizes_meet_rules.specs.Plain.{Formed_type, Formed_types, Is_lambda}
use Rattle.sizes_meet_rules.proofs.Naming.{or_later, same_size, general_same, still_known}
use Rattle.sizes_meet_rules.proofs.Replacing.{hole_as}
use Rattle.sizes_meet_rules.proofs.Settling.{Any_variable}
use Rattle.sizes_meet_rules.proofs.Using.{None_there}
use Rattle.sizes_meet_rules.proofs.Binding.{Behind}

-- ---- a type without type variables has none in its sizes

parts_formed : (k : Head) (ts : Sizes) → Is_made k → Formed_type (Made k (all_erased ts)) → Formed_types (all_erased ts)
unfolding Formed_type Formed_types all_erased
parts_formed (head.Scalar s) no_size i h = tt
parts_formed (head.Scalar s) (size_and t ts) i h = absurd h
parts_formed head.Array ts i h = absurd i
parts_formed head.Tuple ts i h = h
parts_formed (head.Record n) ts i h = h
parts_formed head.Fun ts i h = absurd i
parts_formed (head.Rigid n k) ts i h = absurd i
parts_formed (head.Abstract n d) ts i h = h

mutual
  unfolding Formed All_formed erased all_erased Formed_type Formed_types Each_hole Each_holes

  pub closed_of : (t : Size) → Formed t → Formed_type (erased t) → Each_hole None_there t
  closed_of (Hole (Inferred v)) f h = absurd h
  closed_of (Hole (Written b k)) f h = absurd h
  closed_of (Open n v u) f h = absurd f
  closed_of (Level d t) f h = closed_of t f h
  closed_of (Built k ts) f h = all_closed_of ts f.1 (parts_formed k ts f.0 h)
  closed_of (Fun k p r) f h = (closed_of p f.0 h.0, closed_of r f.1 h.1)

  all_closed_of : (ts : Sizes) → All_formed ts → Formed_types (all_erased ts) → Each_holes None_there ts
  all_closed_of no_size f h = tt
  all_closed_of (size_and t ts) f h = (closed_of t f.0 h.0, all_closed_of ts f.1 h.1)

-- ---- a general name in scope

module _ (N : Names) (types : Sub) (K : Kinds) (places : Kind) (In : Free → Type 0) (Vars : Variable → Type 0) (home : ℕ → ℕ) (x : BindId) (function_size : Size) (scope : Scope) where
  abbrev pub with_function : Scope
  with_function = with_known x.0 (record { size = function_size; is_general = true }) scope

  pub known_general : (T : TypeScope) (uses : Uses) → Says In Vars function_size → Each_hole None_there function_size → erased function_size ≡ types (home x.0) → ((u : Ty) → uses K types u → ((a : Ty) × (c : Ty) × (u ≡ fun_ty a c)) ⊎ ((types (home x.0) ≡ i64_ty) ⊎ (u ≡ types (home x.0)))) → (is_i64_size function_size ≡ true → In (Name x.0)) → Known_names In Vars home scope K types T → Known_names In Vars home with_function K types (with_uses x.0 uses T)
  known_general T uses says closed e arrow number known b u = elim (ℕ_discrete b x.0) as (λ d. (elim d as (λ d. Uses) [ yes e ↦ uses | no ne ↦ T.uses b ]) K types u → Known_name In Vars types home with_function b u) [
    | yes y ↦ λ a. record {
      size = function_size;
      is_general = true;
      known = ap (λ z. cond z (Some (record { size = function_size; is_general = true })) (scope b)) (eq-eqb x.0 b (sym y));
      says = says;
      closed = λ g. closed;
      function = λ g. subst (λ c. ((p : Ty) × (r : Ty) × (u ≡ fun_ty p r)) ⊎ ((types (home c) ≡ i64_ty) ⊎ (u ≡ types (home c)))) (sym y) (arrow u a);
      typed = λ g. e ∙ ap (λ c. types (home c)) (sym y) ∙ sym (g refl);
      number = λ z. subst (λ c. In (Name c)) (sym y) (number z);
    }
    | no ne ↦ λ a. still_known N types K places In Vars home scope with_function b u (ap (λ z. cond z (Some (record { size = function_size; is_general = true })) (scope b)) (ne_eqb x.0 b (λ z. ne (sym z)))) (known b u a)
  ]

  -- and what the rules know of it
  module _ (s : ℕ → Size) (lo : ℕ) (here : s lo ≡ function_size) (closed : Each_hole Any_variable function_size) (new : Variable → Bool) (G : Context) (sizes : (b : ℕ) (t : Size) → scope b ≡ Some (record { size = t; is_general = false }) → G.sizes b ≡ Some t) (schemes : (b : ℕ) (t : Size) → scope b ≡ Some (record { size = t; is_general = true }) → G.schemes b ≡ Some t) (open_names : None_open G) where
    abbrev inner : Context
    inner = with_scheme x.0 (s lo) new G

    general_sizes : (b : ℕ) (t : Size) (c : Bool) → cond c (Some (record { size = function_size; is_general = true })) (scope b) ≡ Some (record { size = t; is_general = false }) → cond c None (G.sizes b) ≡ Some t
    general_sizes b t true z = absurd (let w = general_same t function_size (sym z) in let v : false ≡ true = w in cc)
    general_sizes b t false z = sizes b t z

    general_schemes : (b : ℕ) (t : Size) (c : Bool) → cond c (Some (record { size = function_size; is_general = true })) (scope b) ≡ Some (record { size = t; is_general = true }) → cond c (Some (s lo)) (G.schemes b) ≡ Some t
    general_schemes b t true z = ap Some (here ∙ same_size true true function_size t z)
    general_schemes b t false z = schemes b t z

    still_closed : (b : ℕ) (t : Size) (c : Bool) → cond c None (G.sizes b) ≡ Some t → Each_hole Any_variable t
    still_closed b t true z = absurd (let w : ◌≡◌ {A = Option Size} None (Some t) = z in cc)
    still_closed b t false z = open_names.0 b t z

    scheme_closed : (b : ℕ) (t : Size) (c : Bool) → cond c (Some (s lo)) (G.schemes b) ≡ Some t → Each_hole Any_variable t
    scheme_closed b t true z = subst (Each_hole Any_variable) (sym here ∙ (let w : Some (s lo) ≡ Some t = z in let v : s lo ≡ t = cc in v)) closed
    scheme_closed b t false z = open_names.1 b t z

    not_itself : (d : Free) → (d ≡ Name x.0 → ⊥) → G.finds d ≡ true → cond (is_name x.0 d) (is_number (s lo)) (G.finds d) ≡ true
    not_itself (Name b) a y = ap (λ c. cond c (is_number (s lo)) (G.finds (Name b))) (ne_eqb x.0 b (λ z. a (ap Name (sym z)))) ∙ y
    not_itself (Const c) a y = y
    not_itself (Own n i) a y = y
    not_itself (Unknown n i) a y = y
    not_itself (Slot i) a y = y

    itself : (d : Free) → d ≡ Name x.0 → is_i64_size function_size ≡ true → cond (is_name x.0 d) (is_number (s lo)) (G.finds d) ≡ true
    itself d e n = ap (λ y. cond (is_name x.0 y) (is_number (s lo)) (G.finds y)) e ∙ ap (λ c. cond c (is_number (s lo)) (G.finds (Name x.0))) (eq-eqb x.0 x.0 refl) ∙ ap is_number here ∙ i64_number function_size n

    pub judged_general : ((d : Free) → In d → ((d ≡ Name x.0 → ⊥) × (G.finds d ≡ true)) ⊎ (((d ≡ Name x.0) × (is_i64_size function_size ≡ true)) ⊎ Is_const d)) → ((v : Variable) → Vars v → G.finds_types v ≡ true) → Judged In Vars with_function inner
    judged_general finds finds_types = record {
      sizes = λ b t z. general_sizes b t (nat_eq x.0 b) z;
      schemes = λ b t z. general_schemes b t (nat_eq x.0 b) z;
      none_open = (λ b t z. still_closed b t (nat_eq x.0 b) z, λ b t z. scheme_closed b t (nat_eq x.0 b) z);
      finds = λ d i. by_form d (finds d i);
      finds_types = finds_types;
    }
      where
        by_form : (d : Free) → ((d ≡ Name x.0 → ⊥) × (G.finds d ≡ true)) ⊎ (((d ≡ Name x.0) × (is_i64_size function_size ≡ true)) ⊎ Is_const d) → (cond (is_name x.0 d) (is_number (s lo)) (G.finds d) ≡ true) ⊎ Is_const d
        by_form d (inl y) = inl (not_itself d y.0 y.1)
        by_form d (inr (inl y)) = inl (itself d y.0 y.1)
        by_form d (inr (inr y)) = inr y

-- ---- the let

module _ (N : Names) (types : Sub) (home : ℕ → ℕ) where
  pub general_form : (x : BindId) (v : FlatTerm) (s : ℕ → Size) → Is_lambda v → General_form N types s home (Bound_pattern x) v
  general_form x (Lambda (pattern_and p ps) e) s i = tt
  general_form x v s i = absurd i

  pub lambda_arrow : (K : Kinds) (places : Kind) (a : Sub) (v : FlatTerm) (n : ℕ) (T : TypeScope) → Is_lambda v → Typed N places v n T K a → (p : Ty) × (r : Ty) × (a n ≡ fun_ty p r)
  lambda_arrow K places a (Lambda (pattern_and p ps) e) n T i t = (_, _, t.1)
  lambda_arrow K places a v n T i t = absurd i

  -- a let that is sized generalises its function, whose own variables are none
  pub generalised : (hd : List (Parameter BindId)) (x : BindId) (v : FlatTerm) (lo mid at hi : ℕ) (s : ℕ → Size) (G : Context) → Is_lambda v → None_open G → s (1 + lo) ≡ s mid → Let_sized N types s home (record { sizes = []; parameters = hd; is_function = true; pattern = Bound_pattern x }) lo mid at hi → Generalised N types s home (Bound_pattern x) v lo mid at hi G
  generalised hd x v lo mid at hi s G i o e L = record {
    form = general_form x v s i;
    new = λ a. false;
    type = e;
    result = L.result;
    no_parameter = L.no_parameter;
    bound = L.bound;
    away = subst (Away N types s home at hi) e L.body_away;
    own_away = L.own_away;
    sizes_apart = λ b t z. hole_as Any_variable (λ a. false ≡ false) (λ a j. refl) t (o.0 b t z);
    schemes_apart = λ b t z. hole_as Any_variable (λ a. (G.general b a ≡ true) ⊎ (false ≡ false)) (λ a j. inr refl) t (o.1 b t z);
    types_apart = λ a z. refl;
  }

-- what is known of the names in scope behind the function
module _ (N : Names) (types : Sub) (home : ℕ → ℕ) (K : Kinds) (places : Kind) (In : Free → Type 0) (Vars : Variable → Type 0) (scope : Scope) (x : BindId) (k : ℕ) (p r : Size) (lo q from at hi : ℕ) where
  abbrev pub Behind_function : Free → Type 0
  Behind_function d = Behind N types home K places In Vars scope (Bound_pattern x) (Fun k p r) lo q from at hi d

  pub function_judged : (s : ℕ → Size) (G : Context) → s q ≡ Fun k p r → Each_hole Any_variable (Fun k p r) → (new : Variable → Bool) → (In (Name x.0) → ⊥) → Judged In Vars scope G → Judged Behind_function Vars (with_function N types K places In Vars home x (Fun k p r) scope) (with_scheme x.0 (s q) new (with_entered (s q) G))
  unfolding stands
  function_judged s G here closed new fresh J = judged_general N types K places Behind_function Vars home x (Fun k p r) scope s q here closed new (with_entered (s q) G) J.sizes J.schemes J.none_open (λ d i. by_form d i) (λ v i. or_later (has_hole (s q) v) (has_told (s q) v || G.finds_types v) (or_later (has_told (s q) v) (G.finds_types v) (J.finds_types v i)))
    where
      of_before : (d : Free) → In d → (G.finds d ≡ true) ⊎ Is_const d → ((d ≡ Name x.0 → ⊥) × (stands (s q) d || (stands_told (s q) d || G.finds d) ≡ true)) ⊎ (((d ≡ Name x.0) × (is_i64_size (Fun k p r) ≡ true)) ⊎ Is_const d)
      of_before d i (inl y) = inl ((λ z. fresh (subst In z i)), or_later (stands (s q) d) (stands_told (s q) d || G.finds d) (or_later (stands_told (s q) d) (G.finds d) y))
      of_before d i (inr y) = inr (inr y)

      by_form : (d : Free) → Behind_function d → ((d ≡ Name x.0 → ⊥) × (stands (s q) d || (stands_told (s q) d || G.finds d) ≡ true)) ⊎ (((d ≡ Name x.0) × (is_i64_size (Fun k p r) ≡ true)) ⊎ Is_const d)
      by_form d (inl i) = of_before d i (J.finds d i)
      by_form d (inr (inl (m, inl y))) = absurd (let z : false ≡ true = y in cc)
      by_form d (inr (inl (m, inr y))) = inr (inr y)
      by_form d (inr (inr n)) = absurd (let z : false ≡ true = n.1 in cc)
