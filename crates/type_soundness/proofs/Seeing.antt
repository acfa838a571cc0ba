-- Names with what is known of them: where more definitions are known, and behind a pattern.
use Rattle.std.proofs.Common.{◌≡◌, Bool, true, false, ℕ, ◌+◌, ◌<◌, refl, sym, ap, ◌∙◌, subst, List, [], ◌∷◌, Option, Some, None}
use native.Mathlib.Decide.{ℕ_discrete}
use Rattle.fut_scalar.specs.declared.place.BindId.{BindId}
use Rattle.fut_ast.specs.Sorts.{Text}
use Rattle.fut_flat.specs.declared.prim.Ref.{Ref}
use Rattle.fut_flat.specs.Terms.{Parameter, Size_parameter, Type_parameter, Bound_pattern, Wild_pattern, Tuple_pattern, Record_pattern, Typed_pattern, Patterns, no_pattern, pattern_and}
use Rattle.fut_flat.specs.Numbers.{pattern_numbers}
use Rattle.fut_flat.specs.Erased.{FlatPattern}
use Rattle.fut_types.specs.declared.Kind.{Kind}
use Rattle.fut_types.specs.declared.Head.TheVariants as head
use Rattle.fut_types.specs.Types.{Ty, Made, Tys, none, more, Sub, Kinds}
use Rattle.fut_types.specs.Shapes.{place, part_named}
use Rattle.fut_typing.specs.Names.{Names, AreNames, IsRecord, Parts_named}
use Rattle.fut_typing.specs.Primitives.{i64_ty}
use Rattle.fut_typing.specs.Scopes.{Uses, Scope, with_uses, with_type, with_sizes, the_one, this_type}
use Rattle.fut_typing.specs.Patterns.{pattern_types, with_pattern, with_patterns, with_parameters, Pattern_typed, Patterns_typed}
use Rattle.fut_typing.proofs.Local.{AllLocal, Agree}
use Rattle.fut_meaning.specs.Knowns.{Known, Data, Known_tuple, Known_record, Known_function, Known_primitive, Knowns, known_none, known_and, Known_fields, Scope as Seen, known_as, find, or_else, with_some, data_bound, all_data_bound, known_bound, all_known_bound, fields_bound}
use Rattle.fut_meaning.proofs.Names.{found_here, found_on}
use Rattle.fut_meaning.proofs.Walk.{opposite}
use Rattle.type_soundness.specs.Formed.{Are_sizes, Heads_sized, Pattern_apart, Patterns_apart}
use Rattle.type_soundness.specs.Knows.{Learns, Each_field, Has_parts, Knows, All_know, All_data, Parts_data, Keyed, Name_known, Names_known}
use Rattle.type_soundness.proofs.Knowing.{knows_learn, parts_found, field_known}

or_learns : (o x y : Option Known) (s : Known) → (x ≡ Some s → y ≡ Some s) → or_else o x ≡ Some s → or_else o y ≡ Some s
or_learns None x y s g e = g e
or_learns (Some v) x y s g e = e

-- the names of sizes in scope
size_known : (N : Names) (S : ℕ → Bool) (tops : Seen) (P : ℕ → Type 0) (K : Kinds) (b : BindId) (scope : Scope) (a : Sub) (sc : Seen) → S b.0 ≡ true → Names_known N S tops P scope K a sc → Names_known N S tops P (with_uses b.0 (this_type i64_ty) scope) K a sc
size_known N S tops P K b scope a sc is h = record {
  definitions_clear = h.definitions_clear;
  locals_clear = h.locals_clear;
  known = λ n p t. elim (ℕ_discrete n b.0) as (λ d. (elim d as (λ d. Uses) [ yes e ↦ this_type i64_ty | no ne ↦ scope.uses n ]) K a t → Name_known N S tops t (or_else (find sc n) (find tops n)) (S n)) [
    | yes e ↦ λ u. subst (Name_known N S tops t (or_else (find sc n) (find tops n))) (sym (ap S e ∙ is)) u
    | no ne ↦ h.known n p t
  ];
}

module _ (N : Names) (S : ℕ → Bool) (P : ℕ → Type 0) (K : Kinds) where
  pub names_learn : (tops tops' : Seen) → Learns S tops tops' → (scope : Scope) (a : Sub) (sc : Seen) → Names_known N S tops P scope K a sc → Names_known N S tops' P scope K a sc
  names_learn tops tops' g scope a sc h = record {
    definitions_clear = g.1;
    locals_clear = h.locals_clear;
    known = λ b p t u. stays b t (S b) (h.known b p t u);
  }
    where
      stays : (b : ℕ) (t : Ty) (is : Bool) → Name_known N S tops t (or_else (find sc b) (find tops b)) is → Name_known N S tops' t (or_else (find sc b) (find tops' b)) is
      stays b t true k = k
      stays b t false k = (k.0, or_learns (find sc b) (find tops b) (find tops' b) k.0 (g.0 b k.0) k.1, knows_learn N S t tops tops' g k.0 k.2)

  -- types of other numbers do not matter
  pub names_move : (tops : Seen) (scope : Scope) (lo : ℕ) (a a' : Sub) (sc : Seen) → AllLocal (λ n. n < lo) scope → Agree (λ n. n < lo) a' a → Names_known N S tops P scope K a sc → Names_known N S tops P scope K a' sc
  names_move tops scope lo a a' sc all same h = record { definitions_clear = h.definitions_clear; locals_clear = h.locals_clear; known = λ b p t u. h.known b p t (all b K a' a t same u) }

  pub is_size_ins : (tops : Seen) (bs : List BindId) (scope : Scope) (a : Sub) (sc : Seen) → Are_sizes S bs → Names_known N S tops P scope K a sc → Names_known N S tops P (with_sizes bs scope) K a sc
  is_size_ins tops [] scope a sc s h = h
  is_size_ins tops (b ∷ bs) scope a sc s h = is_size_ins tops bs (with_uses b.0 (this_type i64_ty) scope) a sc s.1 (size_known N S tops P K b scope a sc s.0 h)

  -- names of types are no names of values
  type_known : (tops : Seen) (b : ℕ) (u : Ty) (scope : Scope) (a : Sub) (sc : Seen) → Names_known N S tops P scope K a sc → Names_known N S tops P (with_type b u scope) K a sc
  type_known tops b u scope a sc h = record { definitions_clear = h.definitions_clear; locals_clear = h.locals_clear; known = h.known }

  pub names_types : (tops : Seen) (ps : List (Parameter BindId)) (c : Sub) (scope : Scope) (a : Sub) (sc : Seen) → Heads_sized S ps → Names_known N S tops P scope K a sc → Names_known N S tops P (with_parameters ps c scope) K a sc
  names_types tops [] c scope a sc s h = h
  names_types tops (Size_parameter b ∷ ps) c scope a sc s h = names_types tops ps c (with_uses b.0 (this_type i64_ty) scope) a sc s.1 (size_known N S tops P K b scope a sc s.0 h)
  names_types tops (Type_parameter b lifted ∷ ps) c scope a sc s h = names_types tops ps c (with_type b.0 (c b.0) scope) a sc s (type_known tops b.0 (c b.0) scope a sc h)

  module _ (tops : Seen) (a : Sub) where
    abbrev Sees : Scope → Seen → Type 0
    Sees scope sc = Names_known N S tops P scope K a sc

    -- a name of a value
    pub name_known : (b : BindId) (v : Known) (u : Uses) (scope : Scope) (sc : Seen) → S b.0 ≡ false → ((t : Ty) → u K a t → Knows N S t tops v) → Sees scope sc → Sees (with_uses b.0 u scope) (known_as b v sc)
    name_known b v u scope sc other here rest = record {
      definitions_clear = rest.definitions_clear;
      locals_clear = λ k is. found_on b v sc k (λ e. opposite (ap S e ∙ is) other) ∙ rest.locals_clear k is;
      known = λ n p t. elim (ℕ_discrete n b.0) as (λ d. (elim d as (λ d. Uses) [ yes e ↦ u | no ne ↦ scope.uses n ]) K a t → Name_known N S tops t (or_else (find (known_as b v sc) n) (find tops n)) (S n)) [
        | yes e ↦ λ h. subst (Name_known N S tops t (or_else (find (known_as b v sc) n) (find tops n))) (sym (ap S e ∙ other)) (v, ap (λ z. or_else z (find tops n)) (found_here b v sc n (sym e)), here t h)
        | no ne ↦ λ h. subst (λ z. Name_known N S tops t (or_else z (find tops n)) (S n)) (sym (found_on b v sc n (λ e. ne (sym e)))) (rest.known n p t h)
      ];
    }

    pub same_known : (t u : Ty) (s : Known) → t ≡ u → Knows N S t tops s → Knows N S u tops s
    same_known t u s e h = subst (λ x. Knows N S x tops s) e h

    -- what a pattern binds its names to
    abbrev pub Binds : Option Seen → Scope → Type 0
    Binds o scope = (inner : Seen) × (o ≡ Some inner) × Names_known N S tops P scope K a inner

    module _ (are : AreNames N) (places : Kind) where
      record_data : (fs : List Text) (n : ℕ) (ts us : Tys) → Parts_named N fs (Made (head.Record n) ts) us → Parts_data N S (N.shapes.fields n) ts tops → All_data N S us tops
      unfolding All_data part_named place
      record_data [] n ts none h d = tt
      record_data [] n ts (more u us) h d = absurd h
      record_data (f ∷ fs) n ts none h d = absurd h
      record_data (f ∷ fs) n ts (more u us) h d = (parts_found N S (N.label f) u tops (N.shapes.fields n) ts h.0 d, record_data fs n ts us h.1 d)

      data_inside : (fs : List Text) (t : Ty) (us : Tys) → IsRecord N fs t us → Knows N S t tops Data → All_data N S us tops
      unfolding Knows
      data_inside fs t us r h = record_data fs r.number r.parts us (subst (λ x. Parts_named N fs x us) r.made r.named) (subst (λ x. Knows N S x tops Data) r.made h)

      mutual
        unfolding Knows All_data

        -- a pattern of data
        pub data_known : (p : FlatPattern) (lo : ℕ) (inside scope : Scope) (sc : Seen) → Pattern_typed N places K a p lo inside → Pattern_apart S p → Knows N S (a lo) tops Data → Sees scope sc → Sees (with_pattern the_one p lo scope) (data_bound p sc)
        data_known (Bound_pattern b) lo inside scope sc typed apart h rest = name_known b Data (the_one lo) scope sc apart (λ t e. same_known (a lo) t Data (sym e) h) rest
        data_known Wild_pattern lo inside scope sc typed apart h rest = rest
        data_known (Tuple_pattern ps) lo inside scope sc typed apart h rest = all_data_known ps (1 + lo) inside scope sc typed.0 apart (same_known (a lo) (Made head.Tuple (pattern_types a ps (1 + lo))) Data typed.1 h) rest
        data_known (Record_pattern fs ps) lo inside scope sc typed apart h rest = all_data_known ps (1 + lo) inside scope sc typed.0 apart (data_inside fs (a lo) (pattern_types a ps (1 + lo)) typed.1 h) rest
        data_known (Typed_pattern p t) lo inside scope sc typed apart h rest = data_known p lo inside scope sc typed.0 apart h rest

        all_data_known : (ps : Patterns Ref BindId) (lo : ℕ) (inside scope : Scope) (sc : Seen) → Patterns_typed N places K a ps lo inside → Patterns_apart S ps → All_data N S (pattern_types a ps lo) tops → Sees scope sc → Sees (with_patterns the_one ps lo scope) (all_data_bound ps sc)
        all_data_known no_pattern lo inside scope sc typed apart h rest = rest
        all_data_known (pattern_and p ps) lo inside scope sc typed apart h rest =
            all_data_known ps (lo + pattern_numbers p) inside (with_pattern the_one p lo scope) (data_bound p sc) typed.1 apart.1 h.1 (data_known p lo inside scope sc typed.0 apart.0 h.0 rest)

      mutual
        unfolding Knows All_know All_data known_bound

        pub pattern_known : (p : FlatPattern) (lo : ℕ) (inside scope : Scope) (s : Known) (sc : Seen) → Pattern_typed N places K a p lo inside → Pattern_apart S p → Knows N S (a lo) tops s → Sees scope sc → Binds (known_bound p s sc) (with_pattern the_one p lo scope)
        pattern_known (Bound_pattern b) lo inside scope s sc typed apart h rest = (known_as b s sc, refl, name_known b s (the_one lo) scope sc apart (λ t e. same_known (a lo) t s (sym e) h) rest)
        pattern_known Wild_pattern lo inside scope s sc typed apart h rest = (sc, refl, rest)
        pattern_known (Tuple_pattern ps) lo inside scope Data sc typed apart h rest = (all_data_bound ps sc, refl, data_known (Tuple_pattern ps) lo inside scope sc typed apart h rest)
        pattern_known (Tuple_pattern ps) lo inside scope (Known_tuple ss) sc typed apart h rest = all_pattern_known ps (1 + lo) inside scope ss sc typed.0 apart (same_known (a lo) (Made head.Tuple (pattern_types a ps (1 + lo))) (Known_tuple ss) typed.1 h).1.1 rest
        pattern_known (Tuple_pattern ps) lo inside scope (Known_record fs) sc typed apart h rest = absurd (same_known (a lo) (Made head.Tuple (pattern_types a ps (1 + lo))) (Known_record fs) typed.1 h)
        pattern_known (Tuple_pattern ps) lo inside scope (Known_function qs e sc') sc typed apart h rest = absurd (same_known (a lo) (Made head.Tuple (pattern_types a ps (1 + lo))) (Known_function qs e sc') typed.1 h)
        pattern_known (Tuple_pattern ps) lo inside scope (Known_primitive p ss) sc typed apart h rest = absurd (same_known (a lo) (Made head.Tuple (pattern_types a ps (1 + lo))) (Known_primitive p ss) typed.1 h)
        pattern_known (Record_pattern names ps) lo inside scope Data sc typed apart h rest = (all_data_bound ps sc, refl, data_known (Record_pattern names ps) lo inside scope sc typed apart h rest)
        pattern_known (Record_pattern names ps) lo inside scope (Known_tuple ss) sc typed apart h rest = absurd (same_known (a lo) (Made (head.Record typed.1.number) typed.1.parts) (Known_tuple ss) typed.1.made h)
        pattern_known (Record_pattern names ps) lo inside scope (Known_record fs) sc typed apart h rest =
            let k = same_known (a lo) (Made (head.Record typed.1.number) typed.1.parts) (Known_record fs) typed.1.made h in
            fields_known names ps (1 + lo) inside scope typed.1.number typed.1.parts fs sc typed.0 apart (subst (λ x. Parts_named N names x (pattern_types a ps (1 + lo))) typed.1.made typed.1.named) k.1.0 k.1.1 rest
        pattern_known (Record_pattern names ps) lo inside scope (Known_function qs e sc') sc typed apart h rest = absurd (same_known (a lo) (Made (head.Record typed.1.number) typed.1.parts) (Known_function qs e sc') typed.1.made h)
        pattern_known (Record_pattern names ps) lo inside scope (Known_primitive p ss) sc typed apart h rest = absurd (same_known (a lo) (Made (head.Record typed.1.number) typed.1.parts) (Known_primitive p ss) typed.1.made h)
        pattern_known (Typed_pattern p t) lo inside scope s sc typed apart h rest = pattern_known p lo inside scope s sc typed.0 apart h rest

        all_pattern_known : (ps : Patterns Ref BindId) (lo : ℕ) (inside scope : Scope) (ss : Knowns) (sc : Seen) → Patterns_typed N places K a ps lo inside → Patterns_apart S ps → All_know N S (pattern_types a ps lo) tops ss → Sees scope sc → Binds (all_known_bound ps ss sc) (with_patterns the_one ps lo scope)
        all_pattern_known no_pattern lo inside scope known_none sc typed apart h rest = (sc, refl, rest)
        all_pattern_known no_pattern lo inside scope (known_and s ss) sc typed apart h rest = absurd h
        all_pattern_known (pattern_and p ps) lo inside scope known_none sc typed apart h rest = absurd h
        all_pattern_known (pattern_and p ps) lo inside scope (known_and s ss) sc typed apart h rest =
            let r = pattern_known p lo inside scope s sc typed.0 apart.0 h.0 rest in
            let q = all_pattern_known ps (lo + pattern_numbers p) inside (with_pattern the_one p lo scope) ss r.0 typed.1 apart.1 h.1 r.2 in
            (q.0, ap (λ o. with_some o (λ inner. all_known_bound ps ss inner)) r.1 ∙ q.1, q.2)

        fields_known : (names : List Text) (ps : Patterns Ref BindId) (lo : ℕ) (inside scope : Scope) (n : ℕ) (ts : Tys) (fs : Known_fields) (sc : Seen) → Patterns_typed N places K a ps lo inside → Patterns_apart S ps → Parts_named N names (Made (head.Record n) ts) (pattern_types a ps lo)
            → Each_field (λ g s. Keyed N S (N.shapes.fields n) ts tops (N.label g) s) fs → Has_parts N n ts fs → Sees scope sc → Binds (fields_bound names ps fs sc) (with_patterns the_one ps lo scope)
        fields_known [] no_pattern lo inside scope n ts fs sc typed apart named each has rest = (sc, refl, rest)
        fields_known [] (pattern_and p ps) lo inside scope n ts fs sc typed apart named each has rest = absurd named
        fields_known (f ∷ names) no_pattern lo inside scope n ts fs sc typed apart named each has rest = absurd named
        fields_known (f ∷ names) (pattern_and p ps) lo inside scope n ts fs sc typed apart named each has rest =
            let g = field_known N S are f (a lo) tops n ts fs named.0 each has in
            let r = pattern_known p lo inside scope g.0 sc typed.0 apart.0 g.2 rest in
            let q = fields_known names ps (lo + pattern_numbers p) inside (with_pattern the_one p lo scope) n ts fs r.0 typed.1 apart.1 named.1 each has r.2 in
            (q.0, ap (λ o. with_some o (λ s. with_some (known_bound p s sc) (λ inner. fields_bound names ps fs inner))) g.1 ∙ ap (λ o. with_some o (λ inner. fields_bound names ps fs inner)) r.1 ∙ q.1, q.2)
