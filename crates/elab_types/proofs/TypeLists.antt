-- Lists in types are resolved part by part.
use Rattle.std.proofs.Common.{◌≡◌, List, [], ◌∷◌, map, refl, sym, ◌∙◌, ap, Result, Ok, Err}
use Rattle.fut_scalar.specs.declared.place.Place.{Place}
use Rattle.fut_ast.specs.Sorts.{Text, SourceType}
use Rattle.fut_tree.specs.declared.held.Held.{Held}
use Rattle.fut_tree.specs.declared.ty.TypeArg.{TypeArg}
use Rattle.fut_tree.specs.declared.ty.TypeArg.TheVariants as held_arg
use Rattle.fut_tree.specs.declared.ty.TypeField.{TypeField}
use Rattle.fut_tree.specs.Names.{all}
use Rattle.fut_tree.specs.Types.{args_of, maybe_size_of, type_fields}
use Rattle.fut_scalar.specs.declared.place.BindId.{BindId}
use Rattle.fut_flat.specs.declared.prim.Ref.{Ref}
use Rattle.fut_flat.specs.Terms.{Type_terms, type_and, Type_args, size_arg, type_arg}
use Rattle.elab_scopes.specs.Names.{Refusal}
use Rattle.fut_flat.specs.Erased.{FlatType, Argument, a_size, a_type, arguments, types}
use Rattle.fut_flat.specs.Sources as source
use Rattle.fut_flat.specs.Sources.{source_type}
use Rattle.fut_flat.proofs.SourceForms.{argument_of, type_fields as source_fields}
use Rattle.elab_scopes.specs.Scopes.{Scope}
use Rattle.elab_scopes.specs.Resolve.{Numbered, after, resolve_size, resolve_type, resolve_types, resolve_arguments}
use Rattle.elab_scopes.specs.Walks.{each}
use Rattle.elab_scopes.proofs.Walking.{after_assoc}
use Rattle.elab_types.specs.Elements.{type_part, type_field_part, argument_part}
use Rattle.elab_types.proofs.HeldTypes.{argument_held, held_argument}

-- a list of parts in a list datatype, in three steps
module _ {S Y T : Type 0} (fold : List Y → T) (cons : Y → T → T) (is : (y : Y) (ys : List Y) → fold (y ∷ ys) ≡ cons y (fold ys)) where
  pub one_more : (r : Result (Y × S) Refusal) (f : S → Result (T × S) Refusal) (g : S → Result (List Y × S) Refusal) → ((s : S) → f s ≡ after (g s) (λ ys s. Ok (fold ys, s)))
      → after r (λ y s. after (f s) (λ t s. Ok (cons y t, s))) ≡ after (after r (λ y s. after (g s) (λ ys s. Ok (y ∷ ys, s)))) (λ ys s. Ok (fold ys, s))
  unfolding after
  one_more (Err e) f g same = refl
  one_more (Ok (y, s)) f g same = ap (λ r. after r (λ t s. Ok (cons y t, s))) (same s) ∙ at_rest (g s)
    where
      at_rest : (r : Result (List Y × S) Refusal) → after (after r (λ ys s. Ok (fold ys, s))) (λ t s. Ok (cons y t, s)) ≡ after (after r (λ ys s. Ok (y ∷ ys, s))) (λ ys s. Ok (fold ys, s))
      at_rest (Err e) = refl
      at_rest (Ok (ys, s)) = ap (λ t. Ok (t, s)) (sym (is y ys))

pub types_each : (hs : List (Held SourceType)) (sc : Scope) (made : List Text) → resolve_types (source.types (map source_type (all hs))) sc made ≡ after (each type_part hs sc made) (λ ys m. Ok (types ys, m))
unfolding resolve_types each types source.types after type_part type_field_part
types_each [] sc made = refl
types_each (h ∷ hs) sc made = one_more types type_and (λ y ys. refl) (type_part h sc made) (resolve_types (source.types (map source_type (all hs))) sc) (each type_part hs sc) (types_each hs sc)

-- fields, with their names
abbrev pub named_types : List (Text × FlatType) → List Text × Type_terms Ref BindId
named_types fs = (map (λ f. f.0) fs, types (map (λ f. f.1) fs))

abbrev pub with_names : {A : Type 0} → List Text → Numbered A → Numbered (List Text × A)
with_names xs r = after r (λ a m. Ok ((xs, a), m))

pub fields_each : (fs : List TypeField) (sc : Scope) (made : List Text) → with_names (map (λ f. f.0) (source_fields (type_fields fs))) (resolve_types (source.types (map (λ f. f.1) (source_fields (type_fields fs)))) sc made) ≡ after (each type_field_part fs sc made) (λ ys m. Ok (named_types ys, m))
unfolding resolve_types each types source.types after type_part type_field_part
fields_each [] sc made = refl
fields_each (f ∷ fs) sc made = at_first (resolve_type (source_type f.ty.now) sc made) (λ m. fields_each fs sc m)
  where
    at_rest : (t : FlatType) (m : List Text) (r : Numbered (Type_terms Ref BindId)) (q : Numbered (List (Text × FlatType))) → with_names (map (λ f. f.0) (source_fields (type_fields fs))) r ≡ after q (λ ys m. Ok (named_types ys, m))
        → with_names (f.name.now ∷ map (λ f. f.0) (source_fields (type_fields fs))) (after r (λ ts m. Ok (type_and t ts, m))) ≡ after (after q (λ ys m. Ok ((f.name.now, t) ∷ ys, m))) (λ ys m. Ok (named_types ys, m))
    at_rest t m r q same = with_names_is r ∙ ap (λ z. after z (λ p m. Ok ((f.name.now ∷ p.0, type_and t p.1), m))) same ∙ named_is q
      where
        with_names_is : (r : Numbered (Type_terms Ref BindId)) → with_names (f.name.now ∷ map (λ f. f.0) (source_fields (type_fields fs))) (after r (λ ts m. Ok (type_and t ts, m))) ≡ after (with_names (map (λ f. f.0) (source_fields (type_fields fs))) r) (λ p m. Ok ((f.name.now ∷ p.0, type_and t p.1), m))
        with_names_is (Ok (ts, m)) = refl
        with_names_is (Err e) = refl

        named_is : (q : Numbered (List (Text × FlatType))) → after (after q (λ ys m. Ok (named_types ys, m))) (λ p m. Ok ((f.name.now ∷ p.0, type_and t p.1), m)) ≡ after (after q (λ ys m. Ok ((f.name.now, t) ∷ ys, m))) (λ ys m. Ok (named_types ys, m))
        named_is (Ok (ys, m)) = refl
        named_is (Err e) = refl

    at_first : (r : Numbered FlatType) → ((m : List Text) → with_names (map (λ f. f.0) (source_fields (type_fields fs))) (resolve_types (source.types (map (λ f. f.1) (source_fields (type_fields fs)))) sc m) ≡ after (each type_field_part fs sc m) (λ ys m. Ok (named_types ys, m))) → with_names (f.name.now ∷ map (λ f. f.0) (source_fields (type_fields fs))) (after r (λ t m. after (resolve_types (source.types (map (λ f. f.1) (source_fields (type_fields fs)))) sc m) (λ ts m. Ok (type_and t ts, m)))) ≡ after (after (after r (λ t m. Ok ((f.name.now, t), m))) (λ y m. after (each type_field_part fs sc m) (λ ys m. Ok (y ∷ ys, m)))) (λ ys m. Ok (named_types ys, m))
    at_first (Err e) ih = refl
    at_first (Ok (t, m)) ih = at_rest t m (resolve_types (source.types (map (λ f. f.1) (source_fields (type_fields fs)))) sc m) (each type_field_part fs sc m) (ih m)

and_argument : Argument → Type_args Ref BindId → Type_args Ref BindId
and_argument (a_size s) more = size_arg s more
and_argument (a_type t) more = type_arg t more

arguments_is : (a : Argument) (xs : List Argument) → arguments (a ∷ xs) ≡ and_argument a (arguments xs)
unfolding arguments and_argument
arguments_is (a_size s) xs = refl
arguments_is (a_type t) xs = refl

pub arguments_each : (at : Place) (hs : List TypeArg) (sc : Scope) (made : List Text) → resolve_arguments (source.arguments (map argument_of (args_of hs)) at) sc made ≡ after (each (argument_part at) hs sc made) (λ ys m. Ok (arguments ys, m))
unfolding resolve_arguments each arguments source.arguments after and_argument argument_part
arguments_each at [] sc made = refl
arguments_each at (h ∷ hs) sc made =
    ap (λ a. resolve_arguments (source.argument_and a (source.arguments (map argument_of (args_of hs)) at)) sc made) (argument_held h at)
    ∙ by_kind h (λ m. arguments_each at hs sc m)
  where
    by_kind : (h : TypeArg) → ((m : List Text) → resolve_arguments (source.arguments (map argument_of (args_of hs)) at) sc m ≡ after (each (argument_part at) hs sc m) (λ ys m. Ok (arguments ys, m))) → resolve_arguments (source.argument_and (held_argument h at) (source.arguments (map argument_of (args_of hs)) at)) sc made ≡ after (after (argument_part at h sc made) (λ y s. after (each (argument_part at) hs sc s) (λ ys s. Ok (y ∷ ys, s)))) (λ ys m. Ok (arguments ys, m))
    by_kind (held_arg.Size z) ih = sym (after_assoc (resolve_size (source.source_size at (maybe_size_of z)) sc made) (λ s m. Ok (a_size s, m)) (λ y m. after (resolve_arguments (source.arguments (map argument_of (args_of hs)) at) sc m) (λ t m. Ok (and_argument y t, m)))) ∙ one_more arguments and_argument arguments_is (argument_part at (held_arg.Size z) sc made) (resolve_arguments (source.arguments (map argument_of (args_of hs)) at) sc) (each (argument_part at) hs sc) ih
    by_kind (held_arg.Of t) ih = sym (after_assoc (resolve_type (source_type t.now) sc made) (λ t m. Ok (a_type t, m)) (λ y m. after (resolve_arguments (source.arguments (map argument_of (args_of hs)) at) sc m) (λ t m. Ok (and_argument y t, m)))) ∙ one_more arguments and_argument arguments_is (argument_part at (held_arg.Of t) sc made) (resolve_arguments (source.arguments (map argument_of (args_of hs)) at) sc) (each (argument_part at) hs sc) ih
