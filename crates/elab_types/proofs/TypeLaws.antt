-- Each form of written types.
use Rattle.std.proofs.Common.{◌≡◌, ℕ, List, [], ◌∷◌, map, length, Option, None, Some, refl, sym, ◌∙◌, ap, subst, Result, Ok, Err}
use Rattle.std.specs.Borrow.{Bor}
use Rattle.fut_scalar.specs.declared.place.BindId.{BindId}
use Rattle.fut_scalar.specs.declared.place.Place.{Place}
use Rattle.fut_ast.specs.Sorts.{Text, SourceType}
use Rattle.fut_tree.specs.declared.held.Held.{Held}
use Rattle.fut_tree.specs.declared.ty.TypeArg.{TypeArg}
use Rattle.fut_tree.specs.declared.ty.TypeArg.TheVariants as held_arg
use Rattle.fut_tree.specs.declared.ty.TypeField.{TypeField}
use Rattle.fut_tree.specs.declared.ty.SizeExp.{SizeExp}
use Rattle.fut_ast.specs.declared.node.Label.{Label}
use Rattle.fut_tree.specs.Names.{all}
use Rattle.fut_tree.specs.declared.ty.TypeExp.TheInside.{Inside}
use Rattle.fut_tree.specs.declared.ty.TypeForm.{TypeForm}
use Rattle.fut_tree.specs.Types.{args_of, type_fields, maybe_size_of, type_of as type_held_of}
use Rattle.fut_flat.specs.declared.prim.Ref.{Ref}
use Rattle.fut_flat.specs.declared.ty.Size.{Size}
use Rattle.fut_flat.specs.declared.ty.SizeForm.TheVariants as flat_size
use Rattle.fut_flat.specs.declared.ty.TypeArg.{TypeArg as FlatArg}
use Rattle.fut_flat.specs.declared.ty.TypeArg.TheVariants as flat_arg
use Rattle.fut_flat.specs.declared.ty.TypeExp.{TypeExp as Flat}
use Rattle.fut_flat.specs.declared.ty.TypeField.{TypeField as FlatField}
use Rattle.fut_flat.specs.Terms.{Type_use, Array_type, Unique_type, Arrow_type, Tuple_type, Record_type, Type_terms, no_type, Size_use, Size_const, Size_blank}
use Rattle.fut_flat.specs.Erased.{FlatType, a_size, a_type, arguments, size_of, types, type_of}
use Rattle.fut_flat.specs.Sources as source
use Rattle.fut_flat.specs.Sources.{Spelled, SourceSize, WrittenType, label, source_size, source_type}
use Rattle.fut_flat.proofs.ErasedPatterns.{argument_of as flat_argument, type_field}
use Rattle.fut_flat.proofs.SourceForms.{argument_of, type_fields as source_fields, type_layer}
use Rattle.elab_scopes.specs.declared.refusal.Refusal.{Refusal as HeldRefusal}
use Rattle.elab_scopes.specs.declared.refusal.Stop.{Stop}
use Rattle.elab_scopes.specs.declared.refusal.Stop.TheVariants as stop
use Rattle.elab_scopes.specs.declared.table.Names.{Names}
use Rattle.elab_scopes.specs.Names.{Refusal}
use Rattle.elab_scopes.specs.Scopes as scopes
use Rattle.elab_scopes.specs.Scopes.{Scope, a_value}
use Rattle.elab_scopes.specs.Resolve.{after, next, refers, resolve_size, resolve_type, resolve_types}
use Rattle.elab_scopes.specs.Table.{scope_of, made_of, outside}
use Rattle.elab_scopes.specs.Answers.{viewed, Went, went, refused, no_memory, Answers, answers, answers_refused}
use Rattle.elab_scopes.specs.Walks.{each}
use Rattle.elab_scopes.proofs.Walking.{after_assoc}
use Rattle.elab_nodes.specs.Built.{Built1, built1, stops1, Built2, Built3, built3, first_of_three, second_of_three, third_of_three, no_memory3}
use Rattle.elab_nodes.proofs.Steps.{Does, at_once, by_same, of_one, of_two}
use Rattle.elab_types.specs.Numbering.{Numbers, numbers, no_number, Comes, comes, comes_not, comes_stopped}
use Rattle.elab_types.specs.Elements.{type_part, type_field_part, argument_part, field_with}
use Rattle.elab_types.proofs.HeldTypes.{layer_of, type_held}
use Rattle.elab_types.proofs.FlatParts.{flat_argument_size, flat_argument_of, type_field_is}
use Rattle.elab_types.proofs.Leaving.{outside_over}
use Rattle.elab_types.proofs.TypeLists.{types_each, fields_each, arguments_each, named_types}

-- ---- sizes

pub blank_made : (p at : Place) (s t : Names) (b : BindId) → Numbers [] s t (Ok b) → Went size_of (resolve_size (Size_blank (label [] at))) s t (Ok (record { place = p; form = flat_size.Blank b }))
unfolding resolve_size
blank_made p at s t b (numbers is more same held) = went (λ i. Ok (Size_blank (sym is i), sym more i)) same

pub blank_stops : (at : Place) (s t : Names) (e : Stop) → Numbers [] s t (Err e) → Went size_of (resolve_size (Size_blank (label [] at))) s t (Err e)
blank_stops at s t e no_number = no_memory

pub const_made : (p : Place) (s : Names) (n : ℕ) → Went size_of (resolve_size (Size_const n)) s s (Ok (record { place = p; form = flat_size.Const n }))
unfolding resolve_size
const_made p s n = at_once refl

pub use_made : (q : Place) (s : Names) (p : Spelled) (r : Ref) → viewed (λ (x : Ref). x) (Ok r) ≡ scopes.size_of (scope_of s) p → Went size_of (resolve_size (Size_use p)) s s (Ok (record { place = q; form = flat_size.Use r }))
unfolding resolve_size
use_made q s p r is = went (ap (λ z. refers (made_of s) Size_use z) (sym is)) refl

pub use_refused : (s : Names) (p : Spelled) (e : HeldRefusal) → viewed (λ (x : Ref). x) (Err e) ≡ scopes.size_of (scope_of s) p → Went size_of (resolve_size (Size_use p)) s s (Err (stop.Refused e))
unfolding resolve_size
use_refused s p e is = refused (ap (λ z. refers (made_of s) Size_use z) (sym is))

pub ruleset size_rules = (blank_made, blank_stops, const_made, use_made, use_refused)

pub found : (s : Names) (p : Spelled) (r : Ref) → viewed (λ (x : Ref). x) (Ok r) ≡ scopes.type_of (scope_of s) p → Answers (scopes.type_of (scope_of s) p) (Ok r)
found s p r is = subst (λ z. Answers z (Ok r)) is answers

pub not_found : (s : Names) (p : Spelled) (e : HeldRefusal) → viewed (λ (x : Ref). x) (Err e) ≡ scopes.type_of (scope_of s) p → Answers (scopes.type_of (scope_of s) p) (Err (stop.Refused e))
not_found s p e is = subst (λ z. Answers z (Err (stop.Refused e))) is answers_refused

pub ruleset use_rules = (found, not_found)

-- ---- forms

abbrev pub ref_of : Spelled → Does (List Text) Ref
ref_of p sc made = refers made (λ r. r) (scopes.type_of sc p)

answered : (s : Names) (p : Spelled) (r : Result Ref Stop) → Answers (scopes.type_of (scope_of s) p) r → Went (λ r. r) (ref_of p) s s r
answered s p r a = by_answer (scopes.type_of (scope_of s) p) refl r a
  where
    by_answer : (z : Result Ref Refusal) → scopes.type_of (scope_of s) p ≡ z → (r : Result Ref Stop) → Answers z r → Went (λ r. r) (ref_of p) s s r
    by_answer _ is _ answers = went (ap (refers (made_of s) (λ r. r)) is) refl
    by_answer _ is _ answers_refused = refused (ap (refers (made_of s) (λ r. r)) is)

pub use_went : (at : Place) (p : Spelled) (xs : List TypeArg) (s t : Names) (a : Result Ref Stop) (b : Result (Bor (List FlatArg)) Stop) (c : Result (Bor Flat) Stop)
    → Answers (scopes.type_of (scope_of s) p) a → Went (λ given. map flat_argument given.now) (each (argument_part at) xs) s t b
    → Built2 (λ r given x. type_of x.now ≡ Type_use r (arguments (map flat_argument given.now))) a b c
    → Went (λ (t : Bor Flat). type_of t.now) (resolve_type (Type_use p (source.arguments (map argument_of (args_of xs)) at))) s t c
unfolding resolve_type after
use_went at p xs s t _ _ _ a b c = by_same same (of_two (λ r g. Type_use r (arguments g)) (answered _ _ _ a) b c)
  where
    same : (sc : Scope) (m : List Text) → resolve_type (Type_use p (source.arguments (map argument_of (args_of xs)) at)) sc m ≡ after (ref_of p sc m) (λ r m. after (each (argument_part at) xs sc m) (λ g m. Ok (Type_use r (arguments g), m)))
    same sc m = (λ i. after (ref_of p sc m) (λ r m. after (arguments_each at xs sc m i) (λ given m. Ok (Type_use r given, m)))) ∙ (λ i. after (ref_of p sc m) (λ r m. regrouped r m i))
      where
        regrouped : (r : Ref) (m : List Text) → after (after (each (argument_part at) xs sc m) (λ g m. Ok (arguments g, m))) (λ given m. Ok (Type_use r given, m)) ≡ after (each (argument_part at) xs sc m) (λ g m. Ok (Type_use r (arguments g), m))
        regrouped r m = after_assoc (each (argument_part at) xs sc m) (λ g m. Ok (arguments g, m)) (λ given m. Ok (Type_use r given, m))

pub array_went : (z : SourceSize) (y : WrittenType) (s t u : Names) (a : Result Size Stop) (b : Result (Bor Flat) Stop) (c : Result (Bor Flat) Stop)
    → Went size_of (resolve_size z) s t a → Went (λ (t : Bor Flat). type_of t.now) (resolve_type y) t u b
    → Built2 (λ s t x. type_of x.now ≡ Array_type (size_of s) (type_of t.now)) a b c → Went (λ (t : Bor Flat). type_of t.now) (resolve_type (Array_type z y)) s u c
unfolding resolve_type
array_went z y s t u _ _ _ a b c = of_two Array_type a b c

pub unique_went : (y : WrittenType) (s t : Names) (b : Result (Bor Flat) Stop) (c : Result (Bor Flat) Stop)
    → Went (λ (t : Bor Flat). type_of t.now) (resolve_type y) s t b → Built1 (λ t x. type_of x.now ≡ Unique_type (type_of t.now)) b c → Went (λ (t : Bor Flat). type_of t.now) (resolve_type (Unique_type y)) s t c
unfolding resolve_type
unique_went y s t _ _ b c = of_one Unique_type b c

pub arrow_went : (y z : WrittenType) (s t u : Names) (a : Result (Bor Flat) Stop) (b : Result (Bor Flat) Stop) (c : Result (Bor Flat) Stop)
    → Went (λ (t : Bor Flat). type_of t.now) (resolve_type y) s t a → Went (λ (t : Bor Flat). type_of t.now) (resolve_type z) t u b
    → Built2 (λ t u x. type_of x.now ≡ Arrow_type None (type_of t.now) (type_of u.now)) a b c → Went (λ (t : Bor Flat). type_of t.now) (resolve_type (Arrow_type None y z)) s u c
unfolding resolve_type
arrow_went y z s t u _ _ _ a b c = of_two (Arrow_type None) a b c

pub unit_went : (s : Names) (b : Bor (List Flat)) (c : Result (Bor Flat) Stop)
    → b.now ≡ [] → Built1 (λ ts x. type_of x.now ≡ Tuple_type (types (map type_of ts.now))) (Ok b) c → Went (λ (t : Bor Flat). type_of t.now) (resolve_type (Tuple_type no_type)) s s c
unfolding resolve_type resolve_types after types
unit_went s _ _ none c = of_one {va = λ (ts : Bor (List Flat)). types (map type_of ts.now)} Tuple_type (at_once (ap (λ ts. types (map type_of ts)) none)) c

pub tuple_went : (hs : List (Held SourceType)) (s t : Names) (a : Result (Bor (List Flat)) Stop) (c : Result (Bor Flat) Stop)
    → Went (λ ts. map type_of ts.now) (each type_part hs) s t a → Built1 (λ ts x. type_of x.now ≡ Tuple_type (types (map type_of ts.now))) a c
    → Went (λ (t : Bor Flat). type_of t.now) (resolve_type (Tuple_type (source.types (map source_type (all hs))))) s t c
unfolding resolve_type after
tuple_went hs s t _ _ a c = by_same same (of_one (λ ts. Tuple_type (types ts)) a c)
  where
    same : (sc : Scope) (m : List Text) → resolve_type (Tuple_type (source.types (map source_type (all hs)))) sc m ≡ after (each type_part hs sc m) (λ ts m. Ok (Tuple_type (types ts), m))
    same sc m = ap (λ r. after r (λ ts m. Ok (Tuple_type ts, m))) (types_each hs sc m) ∙ after_assoc (each type_part hs sc m) (λ ys m. Ok (types ys, m)) (λ ts m. Ok (Tuple_type ts, m))

pub record_went : (fs : List TypeField) (s t : Names) (a : Result (Bor (List FlatField)) Stop) (c : Result (Bor Flat) Stop)
    → Went (λ fs. map type_field fs.now) (each type_field_part fs) s t a
    → Built1 (λ fs x. type_of x.now ≡ Record_type (map (λ (f : Text × FlatType). f.0) (map type_field fs.now)) (types (map (λ (f : Text × FlatType). f.1) (map type_field fs.now)))) a c
    → Went (λ (t : Bor Flat). type_of t.now) (resolve_type (Record_type (map (λ f. f.0) (source_fields (type_fields fs))) (source.types (map (λ f. f.1) (source_fields (type_fields fs)))))) s t c
unfolding resolve_type after
record_went fs s t _ _ a c = by_same same (of_one (λ (ys : List (Text × FlatType)). Record_type (map (λ f. f.0) ys) (types (map (λ f. f.1) ys))) a c)
  where
    names : List Text
    names = map (λ f. f.0) (source_fields (type_fields fs))

    parts : Type_terms Spelled Label
    parts = source.types (map (λ f. f.1) (source_fields (type_fields fs)))

    same : (sc : Scope) (m : List Text) → after (resolve_types parts sc m) (λ ts m. Ok (Record_type names ts, m)) ≡ after (each type_field_part fs sc m) (λ ys m. Ok (Record_type (map (λ f. f.0) ys) (types (map (λ f. f.1) ys)), m))
    same sc m =
        sym (after_assoc (resolve_types parts sc m) (λ ts m. Ok ((names, ts), m)) (λ p m. Ok (Record_type p.0 p.1, m)))
        ∙ ap (λ r. after r (λ p m. Ok (Record_type p.0 p.1, m))) (fields_each fs sc m)
        ∙ after_assoc (each type_field_part fs sc m) (λ ys m. Ok (named_types ys, m)) (λ p m. Ok (Record_type p.0 p.1, m))

pub named_went : (x : Text) (at : Place) (y z : WrittenType) (s s1 s2 s3 s4 u : Names) (h : ℕ) (n b : Result BindId Stop) (a c d : Result (Bor Flat) Stop)
    → Numbers x s s1 n → Went (λ (t : Bor Flat). type_of t.now) (resolve_type y) s1 s2 a → h ≡ length (scope_of s2) → Comes x n s2 s3 b → Went (λ (t : Bor Flat). type_of t.now) (resolve_type z) s3 s4 c
    → scope_of u ≡ outside h (scope_of s4) → made_of u ≡ made_of s4
    → Built3 (λ b t u x. type_of x.now ≡ Arrow_type (Some b) (type_of t.now) (type_of u.now)) b a c d
    → Went (λ (t : Bor Flat). type_of t.now) (resolve_type (Arrow_type (Some (label x at)) y z)) s u d
unfolding resolve_type after
named_went x at y z s s1 s2 s3 s4 u h _ _ _ _ _ no_number a hs b c out mk (built3 eq) = elim b [ ]
named_went x at y z s s1 s2 s3 s4 u h _ _ _ _ _ no_number a hs b c out mk second_of_three = elim b [ ]
named_went x at y z s s1 s2 s3 s4 u h _ _ _ _ _ no_number a hs b c out mk third_of_three = elim b [ ]
named_went x at y z s s1 s2 s3 s4 u h _ _ _ _ _ no_number a hs comes_not c out mk first_of_three = no_memory
named_went x at y z s s1 s2 s3 s4 u h _ _ _ _ _ no_number a hs comes_not c out mk no_memory3 = no_memory
named_went x at y z s s1 s2 s3 s4 u h _ _ _ _ _ no_number a hs comes_stopped c out mk first_of_three = no_memory
named_went x at y z s s1 s2 s3 s4 u h _ _ _ _ _ no_number a hs comes_stopped c out mk no_memory3 = no_memory
named_went x at y z s s1 s2 s3 s4 u h _ _ _ _ _ (numbers {b = tb} is more same held) a hs comes_not c out mk first_of_three = no_memory
named_went x at y z s s1 s2 s3 s4 u h _ _ _ _ _ (numbers {b = tb} is more same held) a hs comes_not c out mk no_memory3 = no_memory
named_went x at y z s s1 s2 s3 s4 u h _ _ _ _ _ n a hs b c out mk no_memory3 = no_memory
named_went x at y z s s1 s2 s3 s4 u h _ _ _ _ _ (numbers {b = tb} is more same held) (refused ga) hs (comes sc mc bc) c out mk second_of_three =
    refused (ap (λ r. after r (λ t m. after (resolve_type z (a_value x (next (made_of s)) ∷ scope_of s) m) (λ u m. Ok (Arrow_type (Some (next (made_of s))) t u, m)))) ((λ i. resolve_type y (sym same i) (sym more i)) ∙ ga))
named_went x at y z s s1 s2 s3 s4 u h _ _ _ _ _ (numbers {b = tb} is more same held) no_memory hs (comes sc mc bc) c out mk second_of_three = no_memory
named_went x at y z s s1 s2 s3 s4 u h _ _ _ _ _ (numbers {b = tb} is more same held) (went {x = ta} ga sa) hs (comes sc mc bc) (refused gc) out mk third_of_three =
    refused (
    ap (λ r. after r (λ t m. after (resolve_type z (a_value x (next (made_of s)) ∷ scope_of s) m) (λ u m. Ok (Arrow_type (Some (next (made_of s))) t u, m)))) ((λ i. resolve_type y (sym same i) (sym more i)) ∙ ga)
    ∙ ap (λ r. after r (λ u m. Ok (Arrow_type (Some (next (made_of s))) (type_of ta.now) u, m))) ((λ i. resolve_type z (a_value x (sym is i) ∷ sym (sa ∙ same) i) (sym mc i)) ∙ (λ i. resolve_type z (sym sc i) (made_of s3)) ∙ gc))
named_went x at y z s s1 s2 s3 s4 u h _ _ _ _ _ (numbers {b = tb} is more same held) (went {x = ta} ga sa) hs (comes sc mc bc) no_memory out mk third_of_three = no_memory
named_went x at y z s s1 s2 s3 s4 u h _ _ _ _ _ (numbers {b = tb} is more same held) (went {x = ta} ga sa) hs (comes sc mc bc) (went {x = tc} gc sd) out mk (built3 eq) =
    went (
    ap (λ r. after r (λ t m. after (resolve_type z (a_value x (next (made_of s)) ∷ scope_of s) m) (λ u m. Ok (Arrow_type (Some (next (made_of s))) t u, m)))) ((λ i. resolve_type y (sym same i) (sym more i)) ∙ ga)
    ∙ ap (λ r. after r (λ u m. Ok (Arrow_type (Some (next (made_of s))) (type_of ta.now) u, m))) ((λ i. resolve_type z (a_value x (sym is i) ∷ sym (sa ∙ same) i) (sym mc i)) ∙ (λ i. resolve_type z (sym sc i) (made_of s3)) ∙ gc)
    ∙ (λ i. Ok (Arrow_type (Some (sym is i)) (type_of ta.now) (type_of tc.now), sym mk i))
    ∙ (λ i. Ok (sym eq i, made_of u)))
    (out ∙ (λ i. outside (hs i) ((sd ∙ sc) i)) ∙ outside_over (a_value x tb ∷ []) (scope_of s2) ∙ sa ∙ same)

-- a type goes as its form does
pub type_went : {s t : Names} {c : Result (Bor Flat) Stop} (e : Inside) (v : SourceType) (f : TypeForm) → type_held_of e ≡ v → e.form ≡ f → Went (λ (t : Bor Flat). type_of t.now) (resolve_type (type_layer (layer_of f) e.place)) s t c → Went (λ (t : Bor Flat). type_of t.now) (resolve_type (source_type v)) s t c
type_went {s = s} {t = t} {c = c} e v f stands is w =
    subst (λ x. Went (λ (t : Bor Flat). type_of t.now) (resolve_type (source_type x)) s t c) stands (subst (λ x. Went (λ (t : Bor Flat). type_of t.now) (resolve_type x) s t c) (sym (type_held e)) (subst (λ g. Went (λ (t : Bor Flat). type_of t.now) (resolve_type (type_layer (layer_of g) e.place)) s t c) (sym is) w))

-- ---- arguments

pub size_argument : (at : Place) (z : Option SizeExp) (s t : Names) (a : Size) → Went size_of (resolve_size (source_size at (maybe_size_of z))) s t (Ok a) → Went flat_argument (argument_part at (held_arg.Size z)) s t (Ok (flat_arg.Size a))
unfolding argument_part
size_argument at z s t a w = of_one a_size w (built1 (flat_argument_size a))

pub size_argument_stops : (at : Place) (z : Option SizeExp) (s t : Names) (e : Stop) → Went size_of (resolve_size (source_size at (maybe_size_of z))) s t (Err e) → Went flat_argument (argument_part at (held_arg.Size z)) s t (Err e)
unfolding argument_part
size_argument_stops at z s t e w = of_one a_size w stops1

pub type_argument : (at : Place) (y : Bor SourceType) (s t : Names) (a : Bor Flat) → Went (λ (t : Bor Flat). type_of t.now) (resolve_type (source_type y.now)) s t (Ok a) → Went flat_argument (argument_part at (held_arg.Of y)) s t (Ok (flat_arg.Of a.now))
unfolding argument_part
type_argument at y s t a w = of_one a_type w (built1 (flat_argument_of a.now))

pub type_argument_stops : (at : Place) (y : Bor SourceType) (s t : Names) (e : Stop) → Went (λ (t : Bor Flat). type_of t.now) (resolve_type (source_type y.now)) s t (Err e) → Went flat_argument (argument_part at (held_arg.Of y)) s t (Err e)
unfolding argument_part
type_argument_stops at y s t e w = of_one a_type w stops1

-- ---- lists

-- a type that stands in a list by itself
pub part_went : (h : Held SourceType) (s t : Names) (r : Result (Bor Flat) Stop) → Went (λ (t : Bor Flat). type_of t.now) (resolve_type (source_type h.at.now)) s t r → Went (λ (t : Bor Flat). type_of t.now) (type_part h) s t r
unfolding type_part
part_went h s t r w = w

pub field_went : (f : TypeField) (s t : Names) (r : Result (Bor Flat) Stop) → Went (λ (t : Bor Flat). type_of t.now) (resolve_type (source_type f.ty.now)) s t r → Went (λ (t : Bor Flat). type_field (field_with f.name t)) (type_field_part f) s t r
unfolding after type_field_part
field_went f s t _ (went {x = a} g same) = went (ap (λ r. after r (λ t m. Ok ((f.name.now, t), m))) g ∙ λ i. Ok (sym (type_field_is (record { name = f.name; ty = a.now })) i, made_of t)) same
field_went f s t _ (refused g) = refused (ap (λ r. after r (λ t m. Ok ((f.name.now, t), m))) g)
field_went f s t _ no_memory = no_memory
