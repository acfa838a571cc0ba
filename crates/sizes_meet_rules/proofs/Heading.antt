-- The size names of a function's head: numbers in scope, which its parameters choose.
use Rattle.std.proofs.Common.{◌≡◌, ℕ, ◌+◌, List, [], ◌∷◌, Bool, true, false, cond, nat_eq, Some, refl, sym, ap, ◌∙◌, subst, inl, inr, eqb-true, eq-eqb}
use Rattle.std.proofs.lemmas.Bool.{ne_eqb}
use native.Mathlib.Decide.{ℕ_discrete}
use Rattle.fut_scalar.specs.declared.place.BindId.{BindId}
use Rattle.fut_flat.specs.declared.prim.Ref.{Ref}
use Rattle.fut_flat.specs.Numbers.{pattern_numbers}
use Rattle.fut_flat.specs.Terms.{Parameter, Size_parameter, Type_parameter, Lambda, Patterns, no_pattern, pattern_and}
use Rattle.fut_flat.specs.Erased.{FlatTerm, FlatPattern}
use Rattle.fut_types.specs.declared.Kind.{Kind}
use Rattle.fut_types.specs.Types.{Sub, Kinds}
use Rattle.fut_typing.specs.Names.{Names}
use Rattle.fut_typing.specs.Patterns.{with_parameters}
use Rattle.fut_typing.specs.Primitives.{i64_ty}
use Rattle.fut_typing.specs.Scopes.{Uses, Scope as TypeScope, this_type, with_uses}
use Rattle.sized_types.specs.Sizes.{Free, Const, Name, Own, Unknown, Slot, Variable, erased, all_erased}
use Rattle.fut_sizes.specs.Agreeing.{is_among}
use Rattle.fut_sizes.specs.Functions.{is_own, size_names}
use Rattle.fut_sizes.specs.Rules.{Each_hole, Each_holes}
use Rattle.fut_sizes.specs.Scopes.{Scope, with_name, i64_size}
use Rattle.fut_sizes.specs.Scoping.{Context}
use Rattle.fut_sizes.specs.Sizing.{with_head}
use Rattle.fut_sizes.specs.Suiting.{Each, Each_all}
use Rattle.sizes_meet_rules.specs.Known.{Formed, All_formed, Says, Known_name, Known_names, Judged}
use Rattle.sizes_meet_rules.specs.Plain.{Is_lambda, Are_sizes, Head_at, Plain_head, Plain_headed}
use Rattle.sizes_meet_rules.proofs.Listing.{listed_is}
use Rattle.sizes_meet_rules.proofs.Naming.{Head_name, With_head, Judged_but, known_wider, still_known}

-- ---- a function without a head

module _ (types : Sub) (home : ℕ → ℕ) (K : Kinds) (places : Kind) (N : Names) where
  pub none_chosen : (p : FlatPattern) (q : ℕ) → Head_at types home K places N [] p q
  none_chosen p q = record { apart = λ b e. refl; at_home = λ b e. absurd (let z : false ≡ true = listed_is (is_own [] q) _ (Name b) e in cc) }

  pub headless : (ps : Patterns Ref BindId) (q : ℕ) → Plain_head types home K places N [] ps q
  headless no_pattern q = tt
  headless (pattern_and p ps) q = (none_chosen p q, headless ps (q + pattern_numbers p))

  pub headed_none : (v : FlatTerm) → Is_lambda v → (lo : ℕ) → Plain_headed types home K places N [] v lo
  headed_none (Lambda (pattern_and p ps) e) i lo = headless (pattern_and p ps) (1 + lo)
  headed_none v i lo = absurd i

-- ---- the scope behind a head

number_named : (x : BindId) (scope : Scope) (b : ℕ) → b ≡ x.0 → with_name x.0 i64_size scope b ≡ Some (record { size = i64_size; is_general = false })
number_named x scope b e = ap (λ c. cond c (Some (record { size = i64_size; is_general = false })) (scope b)) (eq-eqb x.0 b (sym e))

module _ (N : Names) (types : Sub) where
  among_or : (x b : ℕ) (xs : List ℕ) → is_among (x ∷ xs) b ≡ true → (is_among xs b ≡ false) → b ≡ x
  among_or x b xs e f = by_name (nat_eq b x) refl e
    where
      by_name : (c : Bool) → nat_eq b x ≡ c → cond c true (is_among xs b) ≡ true → b ≡ x
      by_name true g z = eqb-true b x g
      by_name false g z = absurd (let y : false ≡ true = sym f ∙ z in cc)

  -- a name that is none of them is what it was
  pub head_elsewhere : (bs : List ℕ) (scope : Scope) (b : ℕ) → is_among bs b ≡ false → with_head N types bs scope b ≡ scope b
  head_elsewhere [] scope b e = refl
  head_elsewhere (x ∷ xs) scope b e = by_name (head_elsewhere xs (with_name x i64_size scope) b) (nat_eq b x) refl e
    where
      by_name : (is_among xs b ≡ false → with_head N types xs (with_name x i64_size scope) b ≡ with_name x i64_size scope b) → (c : Bool) → nat_eq b x ≡ c → cond c true (is_among xs b) ≡ false → with_head N types xs (with_name x i64_size scope) b ≡ scope b
      by_name go true f z = absurd (let y : true ≡ false = z in cc)
      by_name go false f z = go z ∙ ap (λ c. cond c (Some (record { size = i64_size; is_general = false })) (scope b)) (ne_eqb x b (λ y. let w : true ≡ false = sym (eq-eqb b x (sym y)) ∙ f in cc))

  pub heads_there : (bs : List ℕ) (scope : Scope) (b : ℕ) → is_among bs b ≡ true → with_head N types bs scope b ≡ Some (record { size = i64_size; is_general = false })
  heads_there [] scope b e = absurd (let z : false ≡ true = e in cc)
  heads_there (x ∷ xs) scope b e = by_rest (heads_there xs (with_name x i64_size scope) b) (is_among xs b) refl
    where
      by_rest : (is_among xs b ≡ true → with_head N types xs (with_name x i64_size scope) b ≡ Some (record { size = i64_size; is_general = false })) → (c : Bool) → is_among xs b ≡ c → with_head N types xs (with_name x i64_size scope) b ≡ Some (record { size = i64_size; is_general = false })
      by_rest go true f = go f
      by_rest go false f = head_elsewhere xs (with_name x i64_size scope) b f ∙ ap (λ c. cond c (Some (record { size = i64_size; is_general = false })) (scope b)) (eq-eqb x b (sym (among_or x b xs e f)))

  pub judged_headed : (bs : List ℕ) (In : Free → Type 0) (Vars : Variable → Type 0) (scope : Scope) (G : Context) → Judged In Vars scope G → Judged_but bs In Vars (with_head N types bs scope) G
  judged_headed bs In Vars scope G J = record {
    sizes = λ b t k z. J.sizes b t (sym (head_elsewhere bs scope b k) ∙ z);
    schemes = λ b t k z. J.schemes b t (sym (head_elsewhere bs scope b k) ∙ z);
    none_open = J.none_open;
    finds = J.finds;
    finds_types = J.finds_types;
  }

-- ---- what is known of its names

number_says : (In : Free → Type 0) (Vars : Variable → Type 0) → Says In Vars i64_size × (erased i64_size ≡ i64_ty)
unfolding Each Each_all Each_hole Each_holes Formed All_formed erased all_erased
number_says In Vars = (record { sizes = tt; variables = tt; formed = (tt, tt) }, refl)

-- a name of a head is one of those with another before it
pub head_later : (x : ℕ) (xs : List ℕ) (d : Free) → Head_name xs d → Head_name (x ∷ xs) d
head_later x xs (Name b) h = by_name (nat_eq b x)
  where
    by_name : (c : Bool) → cond c true (is_among xs b) ≡ true
    by_name true = refl
    by_name false = h
head_later x xs (Const c) h = h
head_later x xs (Own n i) h = h
head_later x xs (Unknown n i) h = h
head_later x xs (Slot i) h = h

module _ (N : Names) (types : Sub) (home : ℕ → ℕ) (K : Kinds) (places : Kind) where
  -- one name more
  pub size_known : (In : Free → Type 0) (Vars : Variable → Type 0) (x : BindId) (scope : Scope) (T : TypeScope) → In (Name x.0) → Known_names In Vars home scope K types T → Known_names In Vars home (with_name x.0 i64_size scope) K types (with_uses x.0 (this_type i64_ty) T)
  size_known In Vars x scope T i k b u = elim (ℕ_discrete b x.0) as (λ d. (elim d as (λ d. Uses) [ yes e ↦ this_type i64_ty | no ne ↦ T.uses b ]) K types u → Known_name In Vars types home (with_name x.0 i64_size scope) b u) [
    | yes y ↦ λ a. record {
      size = i64_size;
      is_general = false;
      known = number_named x scope b y;
      says = (number_says In Vars).0;
      closed = λ g. absurd (let z : false ≡ true = g in cc);
      function = λ g. absurd (let z : false ≡ true = g in cc);
      typed = λ g. (number_says In Vars).1 ∙ sym a;
      number = λ z. subst (λ c. In (Name c)) (sym y) i;
    }
    | no ne ↦ λ a. still_known N types K places In Vars home scope (with_name x.0 i64_size scope) b u (ap (λ z. cond z (Some (record { size = i64_size; is_general = false })) (scope b)) (ne_eqb x.0 b (λ z. ne (sym z)))) (k b u a)
  ]

  -- of all names of a head, whatever is known of more sizes
  known_by : (In' : Free → Type 0) (Vars : Variable → Type 0) (ps : List (Parameter BindId)) (c : Sub) (scope : Scope) (T : TypeScope) → Are_sizes ps → ((d : Free) → Head_name (size_names ps) d → In' d) → Known_names In' Vars home scope K types T
      → Known_names In' Vars home (with_head N types (size_names ps) scope) K types (with_parameters ps c T)
  known_by In' Vars [] c scope T are more known = known
  known_by In' Vars (Size_parameter x ∷ ps) c scope T are more known = known_by In' Vars ps c (with_name x.0 i64_size scope) (with_uses x.0 (this_type i64_ty) T) are (λ d h. more d (head_later x.0 (size_names ps) d h))
      (size_known In' Vars x scope T (more (Name x.0) (ap (λ k. cond k true (is_among (size_names ps) x.0)) (eq-eqb x.0 x.0 refl))) known)
  known_by In' Vars (Type_parameter x lifted ∷ ps) c scope T are more known = absurd are

  pub known_headed : (In : Free → Type 0) (Vars : Variable → Type 0) (ps : List (Parameter BindId)) (c : Sub) (scope : Scope) (T : TypeScope) → Are_sizes ps → Known_names In Vars home scope K types T
      → Known_names (With_head (size_names ps) In) Vars home (with_head N types (size_names ps) scope) K types (with_parameters ps c T)
  known_headed In Vars ps c scope T are known = known_by (With_head (size_names ps) In) Vars ps c scope T are (λ d h. inr h) (λ b u a. known_wider N types K places (With_head (size_names ps) In) Vars home In Vars (λ d i. inl i) (λ v i. i) scope b u (known b u a))

  pub known_headless : (In : Free → Type 0) (Vars : Variable → Type 0) (scope : Scope) (T : TypeScope) → Known_names In Vars home scope K types T → Known_names (With_head [] In) Vars home scope K types T
  known_headless In Vars scope T known b u a = known_wider N types K places (With_head [] In) Vars home In Vars (λ d i. inl i) (λ v i. i) scope b u (known b u a)
