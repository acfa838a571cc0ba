-- Environments where further definitions are evaluated, and where names of types stand for others.
use Rattle.std.proofs.Common.{◌≡◌, Bool, true, false, cond, ℕ, ◌<◌, sym, ap, ◌∙◌, subst, List, [], ◌∷◌, nat_eq}
use native.Mathlib.Decide.{ℕ_discrete}
use Rattle.fut_scalar.specs.declared.place.BindId.{BindId}
use Rattle.fut_flat.specs.Terms.{Parameter, Size_parameter, Type_parameter}
use Rattle.fut_types.specs.Types.{Sub, Kinds}
use Rattle.fut_typing.specs.Names.{Names}
use Rattle.fut_typing.specs.Primitives.{i64_ty}
use Rattle.fut_typing.specs.Scopes.{Uses, Scope, with_uses, with_type, with_sizes, this_type}
use Rattle.fut_typing.specs.Patterns.{with_parameters}
use Rattle.fut_typing.proofs.Local.{AllLocal, Agree}
use Rattle.fut_meaning.specs.Found.{Told}
use Rattle.fut_meaning.specs.Outcomes.{Val}
use Rattle.fut_meaning.specs.Values.{base, bind, entered}
use Rattle.fut_meaning.specs.Flats.{FlatValue, FlatTops, FlatEnv, FlatMode, flat_look}
use Rattle.fut_meaning.specs.Uses.{is_size_in}
use Rattle.type_soundness.specs.Fits.{Grows}
use Rattle.type_soundness.specs.Environments.{Name_fits, Env_fits}
use Rattle.type_soundness.specs.Formed.{Are_sizes, Heads_sized}
use Rattle.type_soundness.proofs.Growing.{fits_grow}

look_grows : (tops tops' : FlatTops) → Grows tops tops' → (env : FlatEnv) (b : ℕ) (v : FlatValue) → flat_look tops env b ≡ Val v → flat_look tops' env b ≡ Val v
unfolding flat_look
look_grows tops tops' g (base u) b v e = g b v e
look_grows tops tops' g (entered q w env) b v e = look_grows tops tops' g env b v e
look_grows tops tops' g (bind x w env) b v e = known (nat_eq x.0 b) (look_grows tops tops' g env b v) e
  where
    known : (c : Bool) → (flat_look tops env b ≡ Val v → flat_look tops' env b ≡ Val v) → cond c (Val w) (flat_look tops env b) ≡ Val v → cond c (Val w) (flat_look tops' env b) ≡ Val v
    known true rec e = e
    known false rec e = rec e

module _ (N : Names) (T : Told) (M : FlatMode) (budget : ℕ) (total : Bool) (P : ℕ → Type 0) (K : Kinds) where
  pub env_grows : (tops tops' : FlatTops) → Grows tops tops' → (scope : Scope) (a : Sub) (env : FlatEnv) → Env_fits N T M budget total tops P scope K a env → Env_fits N T M budget total tops' P scope K a env
  env_grows tops tops' g scope a env h b p t u = stays (is_size_in T.sizes b) (h b p t u)
    where
      stays : (is : Bool) → Name_fits N T M budget total tops t (flat_look tops env b) is → Name_fits N T M budget total tops' t (flat_look tops' env b) is
      stays true k = k
      stays false k = (k.0, look_grows tops tops' g env b k.0 k.1, fits_grow N T M budget total t tops tops' g k.0 k.2)

  -- what was entered is no name
  pub env_entered : (tops : FlatTops) (q : ℕ) (v : FlatValue) (scope : Scope) (a : Sub) (env : FlatEnv) → Env_fits N T M budget total tops P scope K a env → Env_fits N T M budget total tops P scope K a (entered q v env)
  unfolding flat_look
  env_entered tops q v scope a env h = h

  -- types of other numbers do not matter
  pub env_moves : (tops : FlatTops) (scope : Scope) (lo : ℕ) (a a' : Sub) (env : FlatEnv) → AllLocal (λ n. n < lo) scope → Agree (λ n. n < lo) a' a → Env_fits N T M budget total tops P scope K a env → Env_fits N T M budget total tops P scope K a' env
  env_moves tops scope lo a a' env all same h b p t u = h b p t (all b K a' a t same u)

  -- names of sizes: what is bound stays as it is
  env_size : (tops : FlatTops) (b : BindId) (scope : Scope) (a : Sub) (env : FlatEnv) → is_size_in T.sizes b.0 ≡ true → Env_fits N T M budget total tops P scope K a env → Env_fits N T M budget total tops P (with_uses b.0 (this_type i64_ty) scope) K a env
  env_size tops b scope a env is h n p t = elim (ℕ_discrete n b.0) as (λ d. (elim d as (λ d. Uses) [ yes e ↦ this_type i64_ty | no ne ↦ scope.uses n ]) K a t → Name_fits N T M budget total tops t (flat_look tops env n) (is_size_in T.sizes n)) [
    | yes e ↦ λ u. subst (Name_fits N T M budget total tops t (flat_look tops env n)) (sym (ap (is_size_in T.sizes) e ∙ is)) u
    | no ne ↦ h n p t
  ]

  pub env_sizes : (tops : FlatTops) (bs : List BindId) (scope : Scope) (a : Sub) (env : FlatEnv) → Are_sizes (is_size_in T.sizes) bs → Env_fits N T M budget total tops P scope K a env → Env_fits N T M budget total tops P (with_sizes bs scope) K a env
  env_sizes tops [] scope a env s h = h
  env_sizes tops (b ∷ bs) scope a env s h = env_sizes tops bs (with_uses b.0 (this_type i64_ty) scope) a env s.1 (env_size tops b scope a env s.0 h)

  pub env_types : (tops : FlatTops) (ps : List (Parameter BindId)) (c : Sub) (scope : Scope) (a : Sub) (env : FlatEnv) → Heads_sized (is_size_in T.sizes) ps → Env_fits N T M budget total tops P scope K a env → Env_fits N T M budget total tops P (with_parameters ps c scope) K a env
  env_types tops [] c scope a env s h = h
  env_types tops (Size_parameter b ∷ ps) c scope a env s h = env_types tops ps c (with_uses b.0 (this_type i64_ty) scope) a env s.1 (env_size tops b scope a env s.0 h)
  env_types tops (Type_parameter b lifted ∷ ps) c scope a env s h = env_types tops ps c (with_type b.0 (c b.0) scope) a env s h
