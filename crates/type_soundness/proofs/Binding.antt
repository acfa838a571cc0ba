-- A pattern binds its names to values of their types.
use Rattle.std.proofs.Common.{◌≡◌, cond, ℕ, ◌+◌, refl, sym, ap, ◌∙◌, subst, List, [], ◌∷◌, ne_eqb, eq-eqb, Bool, false}
use native.Mathlib.Decide.{ℕ_discrete}
use Rattle.fut_scalar.specs.declared.place.BindId.{BindId}
use Rattle.fut_ast.specs.Sorts.{Text}
use Rattle.fut_flat.specs.declared.prim.Ref.{Ref}
use Rattle.fut_flat.specs.Terms.{Bound_pattern, Wild_pattern, Tuple_pattern, Record_pattern, Typed_pattern, Patterns, no_pattern, pattern_and}
use Rattle.fut_flat.specs.Numbers.{pattern_numbers}
use Rattle.fut_flat.specs.Erased.{FlatPattern}
use Rattle.fut_types.specs.declared.Kind.{Kind}
use Rattle.fut_types.specs.declared.Head.TheVariants as head
use Rattle.fut_types.specs.Types.{Ty, Made, Tys, none, more, Sub, Kinds}
use Rattle.fut_typing.specs.Names.{Names, AreNames, IsRecord, Parts_named}
use Rattle.fut_typing.specs.Scopes.{Uses, Scope, with_uses, the_one}
use Rattle.fut_typing.specs.Patterns.{pattern_types, with_pattern, with_patterns, Pattern_typed, Patterns_typed}
use Rattle.fut_meaning.specs.Found.{Told}
use Rattle.fut_meaning.specs.Outcomes.{Out, Val, Fail, Wrong, and_then}
use Rattle.fut_meaning.specs.Values.{Array_value, Scalar_value, Tuple_value, Record_value, Closure, Primitive_value, no_value, value_and, bind, entered, listed}
use Rattle.fut_meaning.specs.Accessors.{or_wrong, record_parts, bound, all_bound}
use Rattle.fut_meaning.specs.Flats.{FlatValue, FlatTops, FlatEnv, FlatMode, flat_look}
use Rattle.fut_meaning.specs.Claims.{HasOut}
use Rattle.fut_meaning.specs.Uses.{is_size_in}
use Rattle.type_soundness.specs.Fits.{FlatValues, FlatFields, Fits, All_fit, Fields_fit}
use Rattle.type_soundness.specs.Environments.{Name_fits, Env_fits}
use Rattle.type_soundness.specs.Formed.{Pattern_apart, Patterns_apart}
use Rattle.type_soundness.proofs.Environments.{env_entered}
use Rattle.type_soundness.proofs.Fields.{field_fits}

-- the value of an outcome goes on
pub has_then : {A B : Type 0} (P : A → Type 0) (Q : B → Type 0) (o : Out A) (k : A → Out B) → HasOut P o → ((x : A) → P x → HasOut Q (k x)) → HasOut Q (and_then o k)
has_then P Q (Val x) k h go = go x h
has_then P Q (Fail r) k h go = tt
has_then P Q Wrong k h go = h

module _ (N : Names) (T : Told) (M : FlatMode) (budget : ℕ) (total : Bool) where
  abbrev pub Each_fits : Tys → FlatTops → List FlatValue → Type 0
  Each_fits none tops [] = Unit {0}
  Each_fits none tops (v ∷ vs) = ⊥
  Each_fits (more t ts) tops [] = ⊥
  Each_fits (more t ts) tops (v ∷ vs) = Fits N T M budget total t tops v × Each_fits ts tops vs

  pub each_listed : (ts : Tys) (tops : FlatTops) (vs : FlatValues) → All_fit N T M budget total ts tops vs → Each_fits ts tops (listed vs)
  unfolding All_fit
  each_listed none tops no_value h = tt
  each_listed none tops (value_and v vs) h = absurd h
  each_listed (more t ts) tops no_value h = absurd h
  each_listed (more t ts) tops (value_and v vs) h = (h.0, each_listed ts tops vs h.1)

  module _ (tops : FlatTops) (P : ℕ → Type 0) (K : Kinds) (a : Sub) where
    -- a name of a value
    pub env_bind : (b : BindId) (v : FlatValue) (u : Uses) (scope : Scope) (env : FlatEnv) → is_size_in T.sizes b.0 ≡ false → ((t : Ty) → u K a t → Fits N T M budget total t tops v) → Env_fits N T M budget total tops P scope K a env
        → Env_fits N T M budget total tops P (with_uses b.0 u scope) K a (bind b v env)
    unfolding flat_look
    env_bind b v u scope env other here rest n p t = elim (ℕ_discrete n b.0) as (λ d. (elim d as (λ d. Uses) [ yes e ↦ u | no ne ↦ scope.uses n ]) K a t → Name_fits N T M budget total tops t (flat_look tops (bind b v env) n) (is_size_in T.sizes n)) [
      | yes e ↦ λ h. subst (Name_fits N T M budget total tops t (flat_look tops (bind b v env) n)) (sym (ap (is_size_in T.sizes) e ∙ other)) (v, ap (λ c. cond c (Val v) (flat_look tops env n)) (eq-eqb b.0 n (sym e)), here t h)
      | no ne ↦ λ h. subst (λ c. Name_fits N T M budget total tops t (cond c (Val v) (flat_look tops env n)) (is_size_in T.sizes n)) (sym (ne_eqb b.0 n (λ e. ne (sym e)))) (rest n p t h)
    ]

    module _ (are : AreNames N) where
      record_found : (fs : List Text) (n : ℕ) (ts us : Tys) (ws : FlatFields) → Parts_named N fs (Made (head.Record n) ts) us → Fields_fit N T M budget total (N.shapes.fields n) ts tops ws → HasOut (Each_fits us tops) (record_parts fs ws)
      record_found [] n ts none ws h k = tt
      record_found [] n ts (more u us) ws h k = absurd h
      record_found (f ∷ fs) n ts none ws h k = absurd h
      record_found (f ∷ fs) n ts (more u us) ws h k =
          let g = field_fits N T M budget total are f u tops n ts ws h.0 k in
          subst (λ o. HasOut (Each_fits (more u us) tops) (and_then (or_wrong o) (λ v. and_then (record_parts fs ws) (λ vs. Val (v ∷ vs))))) (sym g.1)
          (has_then (Each_fits us tops) (Each_fits (more u us) tops) (record_parts fs ws) (λ vs. Val (g.0 ∷ vs)) (record_found fs n ts us ws h.1 k) (λ vs w. (g.2, w)))

      pub record_fits : (fs : List Text) (t : Ty) (us : Tys) (v : FlatValue) → IsRecord N fs t us → Fits N T M budget total t tops v → (ws : FlatFields) × (v ≡ Record_value ws) × HasOut (Each_fits us tops) (record_parts fs ws)
      unfolding Fits
      record_fits fs t us v r h = inside v r.number r.parts (subst (λ x. Fits N T M budget total x tops v) r.made h) (subst (λ x. Parts_named N fs x us) r.made r.named)
        where
          inside : (v : FlatValue) (n : ℕ) (ts : Tys) → Fits N T M budget total (Made (head.Record n) ts) tops v → Parts_named N fs (Made (head.Record n) ts) us → (ws : FlatFields) × (v ≡ Record_value ws) × HasOut (Each_fits us tops) (record_parts fs ws)
          inside (Record_value ws) n ts h k = (ws, refl, record_found fs n ts us ws k h.1)
          inside (Scalar_value s) n ts h k = absurd h
          inside (Tuple_value vs) n ts h k = absurd h
          inside (Closure ps e lo env) n ts h k = absurd h
          inside (Primitive_value p at vs) n ts h k = absurd h
          inside (Array_value row ds) n ts h k = absurd h

      pub tuple_fits : (ts : Tys) (v : FlatValue) → Fits N T M budget total (Made head.Tuple ts) tops v → (vs : FlatValues) × (v ≡ Tuple_value vs) × All_fit N T M budget total ts tops vs
      unfolding Fits
      tuple_fits ts (Tuple_value vs) h = (vs, refl, h.1)
      tuple_fits ts (Scalar_value s) h = absurd h.1
      tuple_fits ts (Record_value fs) h = absurd h.1
      tuple_fits ts (Closure ps e lo env) h = absurd h.1
      tuple_fits ts (Primitive_value p at vs) h = absurd h.1
      tuple_fits ts (Array_value row ds) h = absurd h.1

      -- what is entered is no name
      then_entered : (q : ℕ) (v : FlatValue) (scope : Scope) (env : FlatEnv) → Env_fits N T M budget total tops P scope K a env → Env_fits N T M budget total tops P scope K a (entered q v env)
      then_entered q v scope env h = env_entered N T M budget total P K tops q v scope a env h

      module _ (places : Kind) where
        mutual
          unfolding bound all_bound

          -- the number of a pattern's node does not matter to types
          pub bound_fits : (q : ℕ) (p : FlatPattern) (lo : ℕ) (inside scope : Scope) (v : FlatValue) (env : FlatEnv) → Pattern_typed N places K a p lo inside → Pattern_apart (is_size_in T.sizes) p → Fits N T M budget total (a lo) tops v → Env_fits N T M budget total tops P scope K a env
              → HasOut (Env_fits N T M budget total tops P (with_pattern the_one p lo scope) K a) (bound q p v env)
          bound_fits q (Bound_pattern b) lo inside scope v env typed apart h rest = env_bind b v (the_one lo) scope (entered q v env) apart (λ t e. subst (λ x. Fits N T M budget total x tops v) (sym e) h) (then_entered q v scope env rest)
          bound_fits q Wild_pattern lo inside scope v env typed apart h rest = then_entered q v scope env rest
          bound_fits q (Tuple_pattern ps) lo inside scope v env typed apart h rest =
              let g = tuple_fits (pattern_types a ps (1 + lo)) v (subst (λ x. Fits N T M budget total x tops v) typed.1 h) in
              subst (λ x. HasOut (Env_fits N T M budget total tops P (with_patterns the_one ps (1 + lo) scope) K a) (bound q (Tuple_pattern ps) x env)) (sym g.1)
              (all_bound_fits (1 + q) ps (1 + lo) inside scope (listed g.0) (entered q (Tuple_value g.0) env) typed.0 apart (each_listed (pattern_types a ps (1 + lo)) tops g.0 g.2) (then_entered q (Tuple_value g.0) scope env rest))
          bound_fits q (Record_pattern fs ps) lo inside scope v env typed apart h rest =
              let g = record_fits fs (a lo) (pattern_types a ps (1 + lo)) v typed.1 h in
              subst (λ x. HasOut (Env_fits N T M budget total tops P (with_patterns the_one ps (1 + lo) scope) K a) (bound q (Record_pattern fs ps) x env)) (sym g.1)
              (has_then (Each_fits (pattern_types a ps (1 + lo)) tops) (Env_fits N T M budget total tops P (with_patterns the_one ps (1 + lo) scope) K a) (record_parts fs g.0) (λ vs. all_bound (1 + q) ps vs (entered q (Record_value g.0) env)) g.2
              (λ vs w. all_bound_fits (1 + q) ps (1 + lo) inside scope vs (entered q (Record_value g.0) env) typed.0 apart w (then_entered q (Record_value g.0) scope env rest)))
          bound_fits q (Typed_pattern p t) lo inside scope v env typed apart h rest = bound_fits q p lo inside scope v env typed.0 apart h rest

          pub all_bound_fits : (q : ℕ) (ps : Patterns Ref BindId) (lo : ℕ) (inside scope : Scope) (vs : List FlatValue) (env : FlatEnv) → Patterns_typed N places K a ps lo inside → Patterns_apart (is_size_in T.sizes) ps → Each_fits (pattern_types a ps lo) tops vs → Env_fits N T M budget total tops P scope K a env
              → HasOut (Env_fits N T M budget total tops P (with_patterns the_one ps lo scope) K a) (all_bound q ps vs env)
          all_bound_fits q no_pattern lo inside scope [] env typed apart h rest = rest
          all_bound_fits q no_pattern lo inside scope (v ∷ vs) env typed apart h rest = absurd h
          all_bound_fits q (pattern_and p ps) lo inside scope [] env typed apart h rest = absurd h
          all_bound_fits q (pattern_and p ps) lo inside scope (v ∷ vs) env typed apart h rest =
              has_then (Env_fits N T M budget total tops P (with_pattern the_one p lo scope) K a) (Env_fits N T M budget total tops P (with_patterns the_one ps (lo + pattern_numbers p) (with_pattern the_one p lo scope)) K a)
              (bound q p v env) (λ e. all_bound (q + pattern_numbers p) ps vs e) (bound_fits q p lo inside scope v env typed.0 apart.0 h.0 rest) (λ e w. all_bound_fits (q + pattern_numbers p) ps (lo + pattern_numbers p) inside (with_pattern the_one p lo scope) vs e typed.1 apart.1 h.1 w)
