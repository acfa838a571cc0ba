-- Another name for a definition has its uses, and no parameters, so it is used at exactly the instances of its principal type.
use Rattle.std.proofs.Common.{◌≡◌, ℕ, ◌+◌, ◌≤◌, ◌<◌, refl, sym, ◌∙◌, ap, subst, arith, true, false, List, [], ◌∷◌, ◌++◌}
use mathlib.Core.Logic.{inl, inr}
use Rattle.fut_scalar.specs.declared.place.BindId.{BindId}
use Rattle.fut_scalar.specs.declared.place.Place.{Place}
use Rattle.fut_flat.specs.Terms.{Bound_pattern}
use Rattle.fut_flat.specs.Numbers.{pattern_numbers, numbers}
use Rattle.fut_flat.specs.Erased.{FlatPattern}
use Rattle.fut_types.specs.declared.Kind.{Kind}
use Rattle.fut_types.specs.Types.{Ty, Var, Sub, Kinds}
use Rattle.fut_typing.specs.Names.{Names}
use Rattle.fut_typing.specs.Scopes.{Uses, Scope, nothing}
use Rattle.fut_typing.specs.Patterns.{with_pattern}
use Rattle.fut_typing.specs.Free.{is_within}
use Rattle.fut_typing.specs.Generalised.{Scheme, Outside, Reused}
use Rattle.fut_typing.specs.Program.{Defined, definition_scheme}
use Rattle.fut_typing.specs.Exact.{behind, scope_behind, scheme_behind}
use Rattle.fut_typing.proofs.Ranges.{or_false, within_yes, within_false}
use Rattle.fut_typing.proofs.Local.{AllLocal, uses_here}
use Rattle.fut_typing.proofs.Cong.{mixed, mixed_free, mixed_outside, within_no}
use Rattle.fut_typing.proofs.Exact.{definition_exact}
use Rattle.typing_laws.specs.Claims.{renamed, UsesAreExact}
use Rattle.typing_laws.proofs.Chosen.{scope_local}

module _ (N : Names) (places : Kind) where
  scope_more : (ds : List Defined) (d : Defined) (lo : ℕ) (scope : Scope)
      → scope_behind N places (ds ++ d ∷ []) lo scope ≡ with_pattern (Reused places (definition_scheme N places d (behind ds lo) (scope_behind N places ds lo scope))) d.name (behind ds lo) (scope_behind N places ds lo scope)
  scope_more [] d lo scope = refl
  scope_more (e ∷ ds) d lo scope = scope_more ds d (lo + (pattern_numbers e.name + numbers e.value)) (with_pattern (Reused places (definition_scheme N places e lo scope)) e.name lo scope)

  -- another name that stands at lo, where y stands for this
  module _ (x y : BindId) (at : Place) (k lo : ℕ) (scope : Scope) (all : AllLocal (λ n. n < lo) scope) (K : Kinds) (a : Sub) (t : Ty) where
    abbrev s : Scheme
    s = definition_scheme N places (renamed x y at k) lo scope

    pub used_renamed : Reused places s lo K a t → scope.uses y.0 K a t
    used_renamed u = let v = u.2.0 in all y.0 K v.other a t (λ n lt. v.outside n (inl lt)) (subst (scope.uses y.0 K v.other) (sym v.typed.1 ∙ sym u.2.1) v.typed.0.1)

    -- t for the numbers of the name
    abbrev other : Sub
    other = mixed (is_within lo (1 + (1 + (k + k)))) (λ n. true) (λ n. t) a

    inside : (n : ℕ) → lo ≤ n → n < lo + (1 + (1 + (k + k))) → other n ≡ t
    inside n p q = mixed_free (is_within lo (1 + (1 + (k + k)))) (λ n. true) (λ n. t) a n (within_yes lo (1 + (1 + (k + k))) n p q) refl

    outside : (n : ℕ) → Outside s n → other n ≡ a n
    outside n out = mixed_outside (is_within lo (1 + (1 + (k + k)))) (λ n. true) (λ n. t) a n (within_no lo (1 + (1 + (k + k))) n out)

    kept : (n : ℕ) → lo ≤ n → n < lo + (1 + (1 + (k + k))) → s.free n ≡ false → other n ≡ a n
    kept n p q f = let both = or_false (is_within lo 1 n) (is_within (lo + 1) (1 + (k + k)) n) f in
        elim (within_false lo 1 n both.0) as (λ z. other n ≡ a n) [
          | inl low ↦ absurd (omega arith)
          | inr high ↦ elim (within_false (lo + 1) (1 + (k + k)) n both.1) as (λ z. other n ≡ a n) [ inl low ↦ absurd (omega arith) | inr over ↦ absurd (omega arith) ]
        ]

    pub renamed_used : scope.uses y.0 K a t → Reused places s lo K a t
    renamed_used h = let first : other lo ≡ t = inside lo (omega arith) (omega arith) in let value : other (lo + 1) ≡ t = inside (lo + 1) (omega arith) (omega arith) in (
      λ n. Var n,
      tt,
      (
        record {
          other = other;
          outside = outside;
          kept = kept;
          typed = ((tt, subst (scope.uses y.0 K other) (sym value) (all y.0 K a other t (λ n lt. sym (outside n (inl lt))) h)), first ∙ sym value);
        },
        sym first,
      ),
    )

  module _ (before after : List Defined) (d : Defined) (x y : BindId) (name : d.name ≡ Bound_pattern y) where
    abbrev named : Scheme
    named = scheme_behind N places before d

    abbrev outer : Scope
    outer = scope_behind N places (before ++ d ∷ []) 0 nothing

    outer_uses : outer.uses y.0 ≡ Reused places named (behind before 0)
    outer_uses = ap (λ (z : Scope). z.uses y.0) (scope_more before d 0 nothing) ∙ ap (λ (q : FlatPattern). (with_pattern (Reused places named) q (behind before 0) (scope_behind N places before 0 nothing)).uses y.0) name
        ∙ uses_here y.0 (Reused places named (behind before 0)) (scope_behind N places before 0 nothing)

    outer_local : AllLocal (λ n. n < behind (before ++ d ∷ []) 0) outer
    outer_local = scope_local N places (before ++ d ∷ []) 0 nothing (λ b K a a' t e u. absurd u)

    to_name : (at : Place) (k : ℕ) (K : Kinds) (a : Sub) (t : Ty) → Reused places named named.first K a t → Reused places (scheme_behind N places (before ++ d ∷ []) (renamed x y at k)) (behind (before ++ d ∷ []) 0) K a t
    to_name at k K a t u = renamed_used x y at k (behind (before ++ d ∷ []) 0) outer outer_local K a t (subst (λ (q : Uses). q K a t) (sym outer_uses) u)

    from_name : (at : Place) (k : ℕ) (K : Kinds) (a : Sub) (t : Ty) → Reused places (scheme_behind N places (before ++ d ∷ []) (renamed x y at k)) (behind (before ++ d ∷ []) 0) K a t → Reused places named named.first K a t
    from_name at k K a t u = subst (λ (q : Uses). q K a t) outer_uses (used_renamed x y at k (behind (before ++ d ∷ []) 0) outer outer_local K a t u)

pub uses_are_exact : UsesAreExact
uses_are_exact N places before after d x y at k name p K a typing t =
    let exact = definition_exact N places (before ++ d ∷ []) after (renamed x y at k) refl p K a typing t in
    (λ u. exact.0 (to_name N places before after d x y name at k K a t u), λ i. from_name N places before after d x y name at k K a t (exact.1 i))
