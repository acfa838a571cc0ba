-- The values of definitions, of what is written of them.
use Rattle.std.proofs.Common.{◌≡◌, List, [], ◌∷◌, map, refl, sym, ◌∙◌, ap, subst, Result, Ok, Err}
use Rattle.std.specs.Borrow.{Bor}
use Rattle.fut_scalar.specs.declared.place.Place.{Place}
use Rattle.fut_ast.specs.Sorts.{Text, Path, SourceType}
use Rattle.fut_flat.specs.declared.exp.Exp.{Exp as Flat}
use Rattle.fut_flat.specs.declared.prim.Ref.{Ref}
use Rattle.fut_flat.specs.declared.ty.TypeArg.{TypeArg as FlatArg}
use Rattle.fut_flat.specs.declared.ty.TypeExp.{TypeExp as FlatTy}
use Rattle.fut_flat.specs.Erased.{arguments, term_of, terms, type_of}
use Rattle.fut_flat.specs.Sources.{Spelled, WrittenType, names_before, source_type, spelled}
use Rattle.fut_flat.specs.Terms.{Ascribe, Declared, Strict, Type_use, Use, no_arg, no_term, term_and}
use Rattle.fut_flat.proofs.ErasedPatterns.{argument_of}
use Rattle.elab_scopes.specs.declared.refusal.Refusal.{Refusal as HeldRefusal}
use Rattle.elab_scopes.specs.declared.refusal.Stop.{Stop}
use Rattle.elab_scopes.specs.declared.refusal.Stop.TheVariants as stop
use Rattle.elab_scopes.specs.declared.table.Names.{Names}
use Rattle.elab_scopes.specs.Answers.{Went, no_memory, refused, viewed, went}
use Rattle.elab_scopes.specs.Declarations.{inner_name, named_type, same_term, sealed_term, type_term}
use Rattle.elab_scopes.specs.Resolve.{after, refers, resolve, resolve_all, resolve_arguments, resolve_type}
use Rattle.elab_scopes.specs.Scopes as scopes
use Rattle.elab_scopes.specs.Scopes.{Scope}
use Rattle.elab_scopes.specs.Table.{made_of, scope_of}
use Rattle.elab_scopes.proofs.Walking.{after_assoc}
use Rattle.elab_nodes.specs.Built.{Built1, Built2, built1, built2, no_memory1, no_memory2}
use Rattle.elab_nodes.specs.Held.{held_term}
use Rattle.elab_nodes.proofs.Steps.{by_same, of_one}
use Rattle.elab_exps.proofs.StrictLaws.{ascribed_went, declared_went}

-- ---- types

type_alone : (at : Place) (y : WrittenType) (sc : Scope) (m : List Text) → resolve (type_term at y) sc m ≡ after (resolve_type y sc m) (λ t m. Ok (Strict (Declared t) at no_term, m))
unfolding resolve resolve_all after
type_alone at y sc m = after_assoc (resolve_type y sc m) (λ t m. Ok (Declared t, m)) (λ o m. Ok (Strict o at no_term, m))

pub type_valued : (at : Place) (y : WrittenType) (s t : Names) (a : Result (Bor FlatTy) Stop) (c : Result (Bor Flat) Stop) → Went (λ (t : Bor FlatTy). type_of t.now) (resolve_type y) s t a
    → Built1 (λ (t : Bor FlatTy) x. held_term x ≡ Strict (Declared (type_of t.now)) at no_term) a c → Went held_term (resolve (type_term at y)) s t c
type_valued at y s t a c w q = by_same (type_alone at y) (of_one (λ t. Strict (Declared t) at no_term) w q)

pub node_alone : (at : Place) (t : Bor FlatTy) (none : Bor (List Flat)) (a : Result (Bor FlatTy) Stop) (c : Result (Bor Flat) Stop) → a ≡ Ok t → none.now ≡ [] → Built1 (λ (es : Bor (List Flat)) x. term_of x.now ≡ Strict (Declared (type_of t.now)) at (terms (map term_of es.now))) (Ok none) c
    → Built1 (λ (t : Bor FlatTy) x. held_term x ≡ Strict (Declared (type_of t.now)) at no_term) a c
unfolding terms
node_alone at t none a _ is empty (built1 e) = rw is (built1 (e ∙ ap (λ l. Strict (Declared (type_of t.now)) at (terms (map term_of l))) empty))
node_alone at t none a _ is empty no_memory1 = no_memory1

abbrev looked : Spelled → Scope → List Text → Result Ref Rattle.elab_scopes.specs.Names.Refusal → Rattle.elab_scopes.specs.Resolve.Numbered Rattle.fut_flat.specs.Erased.FlatType
looked p sc m r = after (refers m (λ r. r) r) (λ r m. Ok (Type_use r no_arg, m))

pub path_named : (p : Spelled) (s : Names) (r : Ref) (none : Bor (List FlatArg)) (c : Result (Bor FlatTy) Stop) → viewed (λ (r : Ref). r) (Ok r) ≡ scopes.type_of (scope_of s) p → none.now ≡ []
    → Built2 (λ r (given : Bor (List FlatArg)) x. type_of x.now ≡ Type_use r (arguments (map argument_of given.now))) (Ok r) (Ok none) c → Went (λ (t : Bor FlatTy). type_of t.now) (resolve_type (Type_use p no_arg)) s s c
unfolding resolve_type resolve_arguments after arguments
path_named p s r none _ is empty (built2 e) = went (
    ap (looked p (scope_of s) (made_of s)) (sym is)
    ∙ ap (λ y. Ok (y, made_of s)) (sym (e ∙ ap (λ l. Type_use r (arguments (map argument_of l))) empty))) refl
path_named p s r none _ is empty no_memory2 = no_memory

pub path_refused : (p : Spelled) (s : Names) (e : HeldRefusal) → viewed (λ (r : Ref). r) (Err e) ≡ scopes.type_of (scope_of s) p → Went (λ (t : Bor FlatTy). type_of t.now) (resolve_type (Type_use p no_arg)) s s (Err (stop.Refused e))
unfolding resolve_type resolve_arguments after
path_refused p s e is = refused (ap (looked p (scope_of s) (made_of s)) (sym is))

pub path_valued : (at : Place) (p : Path) (x : Text) (s t : Names) (c : Result (Bor Flat) Stop) → p ≡ x ∷ [] → Went held_term (resolve (type_term at (Type_use (spelled p at) no_arg))) s t c → Went held_term (resolve (type_term at (named_type x at))) s t c
path_valued at p x s t c is w = subst (λ p. Went held_term (resolve (type_term at (Type_use (spelled p at) no_arg))) s t c) is w

-- ---- members of module types

pub sealed_went : (at : Place) (ty : SourceType) (p : Path) (s t u : Names) (b : Result (Bor FlatTy) Stop) (a c : Result (Bor Flat) Stop) → p ≡ inner_name ∷ []
    → Went (λ (t : Bor FlatTy). type_of t.now) (resolve_type (source_type ty)) s t b → Went held_term (resolve (Use (spelled p at) at (names_before p))) t u a
    → Built2 (λ (t : Bor FlatTy) e z. held_term z ≡ Strict (Declared (type_of t.now)) at (term_and (held_term e) no_term)) b a c → Went held_term (resolve (sealed_term at ty)) s u c
sealed_went at ty p s t u b a c is w1 w2 q = declared_went (source_type ty) (Use (spelled (inner_name ∷ []) at) at 0) at s t u a b c q w1 (subst (λ p. Went held_term (resolve (Use (spelled p at) at (names_before p))) t u a) is w2)

pub same_went : (at : Place) (y : WrittenType) (p : Path) (s t u : Names) (a : Result (Bor Flat) Stop) (b : Result (Bor FlatTy) Stop) (c : Result (Bor Flat) Stop) → p ≡ inner_name ∷ []
    → Went held_term (resolve (type_term at y)) s t a → Went (λ (t : Bor FlatTy). type_of t.now) (resolve_type (Type_use (spelled p at) no_arg)) t u b
    → Built2 (λ e (t : Bor FlatTy) z. held_term z ≡ Strict (Ascribe (type_of t.now)) at (term_and (held_term e) no_term)) a b c → Went held_term (resolve (same_term at y)) s u c
same_went at y p s t u a b c is w1 w2 q = ascribed_went (named_type inner_name at) (type_term at y) at s t u a b c q w1 (subst (λ p. Went (λ (t : Bor FlatTy). type_of t.now) (resolve_type (Type_use (spelled p at) no_arg)) t u b) is w2)
