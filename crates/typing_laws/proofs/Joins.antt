-- What names, written types and patterns say of two rows of types, they say of each reading of the types that are lifted from
-- them.
use Rattle.std.proofs.Common.{◌≡◌, ℕ, ◌+◌, ◌≤◌, ◌<◌, refl, sym, ◌∙◌, ap, subst, arith, List, [], ◌∷◌, Option, Some, None}
use mathlib.Core.Logic.{inl, inr}
use native.Mathlib.Decide.{ℕ_discrete}
use Rattle.fut_scalar.specs.declared.place.BindId.{BindId}
use Rattle.fut_flat.specs.declared.prim.Ref.{Ref}
use Rattle.fut_flat.specs.declared.prim.Ref.TheVariants as ref
use Rattle.fut_flat.specs.Terms.{Size_term, Size_use, Size_const, Size_blank, Type_use, Array_type, Unique_type, Arrow_type, Tuple_type, Record_type, Type_terms, no_type, type_and, no_arg, size_arg, type_arg, Bound_pattern, Wild_pattern, Tuple_pattern, Record_pattern, Typed_pattern, Patterns, no_pattern, pattern_and, Parameter, Size_parameter, Type_parameter, Operation, Ascribe, Coerce, Declared, Counted, Over, While}
use Rattle.fut_flat.specs.Numbers.{pattern_numbers, all_pattern_numbers}
use Rattle.fut_flat.specs.Erased.{FlatType, FlatPattern, FlatTurns}
use Rattle.fut_types.specs.declared.Kind.{Kind}
use Rattle.fut_types.specs.declared.Head.TheVariants as head
use Rattle.fut_types.specs.Types.{Ty, Made, Tys, none, more, Sub, Kinds}
use Rattle.fut_typing.specs.Names.{Names, IsRecord}
use Rattle.fut_typing.specs.Primitives.{i64_ty}
use Rattle.fut_typing.specs.Scopes.{Uses, Scope, with_uses, with_type, with_sizes, with_argument, the_one, this_type, Used, IsSize, Denotes, All_denote}
use Rattle.fut_typing.specs.Rules.{Written}
use Rattle.fut_typing.specs.Patterns.{pattern_types, with_pattern, with_patterns, with_parameters, Pattern_typed, Patterns_typed, Parameters_typed}
use Rattle.fut_typing.specs.Typing.{with_turns}
use Rattle.fut_typing.specs.Declared.{Is_parameter}
use Rattle.fut_typing.proofs.Readings.{Reading, image, Suited, read_kind, Extends, extends_more, extends_self, limit, read_same}
unfoldable use Rattle.fut_typing.proofs.Readings.{read, read_all}
use Rattle.fut_typing.proofs.Follows.{read_patterns, read_record, read_array}
use Rattle.fut_typing.proofs.ReadPrimitives.{read_prim}
use Rattle.fut_typing.proofs.Instances.{parameter_limit}
unfoldable use Rattle.typing_laws.proofs.Lifted.{lifted, all_lifted}
use Rattle.typing_laws.proofs.Pairs as pairs

module _ (N : Names) (places : Kind) (ps : List (Parameter BindId)) (c : Sub) (F0 G : ℕ) (over : F0 ≤ G) (wide : parameter_limit ps ≤ G) (one_label : (l l' i : ℕ) → N.shapes.position l ≡ Some i → N.shapes.position l' ≡ Some i → l ≡ l') (K : Kinds) where
  abbrev pub lift : Ty → Ty → Ty
  lift = pairs.lift N places ps c F0 G over wide

  abbrev pub lift_all : Tys → Tys → Tys
  lift_all = pairs.lift_all N places ps c F0 G over wide

  abbrev pub two : Sub → Sub → Sub
  two = pairs.two N places ps c F0 G over wide

  -- equal types are lifted to equal ones
  pub equal : (I : Reading) (t u t' u' : Ty) → t ≡ u → t' ≡ u' → read I (lift t t') ≡ read I (lift u u')
  equal I t u t' u' e e' = λ i. read I (lift (e i) (e' i))

  -- what a name means in both, it means of each reading that differs for parameters from F on alone
  abbrev pub Uses_join : Reading → ℕ → Uses → Uses → Uses → Type 0
  Uses_join I F u v w = (J : Reading) → Suited K K J → Extends F I J → (a b : Sub) (t t' : Ty) → u K a t → v K b t' → w K (image J (two a b)) (read J (lift t t'))

  pub record Joins (I : Reading) (F : ℕ) (s r q : Scope) : Type 0 where
    pub uses : (b : ℕ) → Uses_join I F (s.uses b) (r.uses b) (q.uses b)
    pub types : (b : ℕ) (J : Reading) → Suited K K J → Extends F I J → (t t' : Ty) → s.types b t → r.types b t' → q.types b (read J (lift t t'))

  pub joins_more : (I J : Reading) (F H : ℕ) (s r q : Scope) → F ≤ H → Extends F I J → Joins I F s r q → Joins J H s r q
  joins_more I J F H s r q le e f = record { uses = λ b L su x. f.uses b L su (extends_more F H I J L le e x); types = λ b L su x. f.types b L su (extends_more F H I J L le e x) }

  module _ (I : Reading) (F : ℕ) where
    pub joins_uses : (b : ℕ) (u v w : Uses) (s r q : Scope) → Uses_join I F u v w → Joins I F s r q → Joins I F (with_uses b u s) (with_uses b v r) (with_uses b w q)
    joins_uses b u v w s r q h f = record {
      uses = λ n J su e x y t t'. elim (ℕ_discrete n b) as (λ d. (elim d as (λ d. Uses) [ yes e ↦ u | no ne ↦ s.uses n ]) K x t → (elim d as (λ d. Uses) [ yes e ↦ v | no ne ↦ r.uses n ]) K y t' → (elim d as (λ d. Uses) [ yes e ↦ w | no ne ↦ q.uses n ]) K (image J (two x y)) (read J (lift t t')))
          [ yes same ↦ h J su e x y t t' | no ne ↦ f.uses n J su e x y t t' ];
      types = f.types;
    }

    pub joins_type : (b : ℕ) (x y z : Ty) (s r q : Scope) → ((J : Reading) → Extends F I J → read J (lift x y) ≡ z) → Joins I F s r q → Joins I F (with_type b x s) (with_type b y r) (with_type b z q)
    joins_type b x y z s r q h f = record {
      uses = f.uses;
      types = λ n J su e t t'. elim (ℕ_discrete n b) as (λ d. (elim d as (λ d. Ty → Type 0) [ yes e ↦ λ u. u ≡ x | no ne ↦ s.types n ]) t → (elim d as (λ d. Ty → Type 0) [ yes e ↦ λ u. u ≡ y | no ne ↦ r.types n ]) t' → (elim d as (λ d. Ty → Type 0) [ yes e ↦ λ u. u ≡ z | no ne ↦ q.types n ]) (read J (lift t t')))
          [ yes same ↦ λ is is'. equal J t x t' y is is' ∙ h J e | no ne ↦ f.types n J su e t t' ];
    }

    pub one_joins : (p : ℕ) → Uses_join I F (the_one p) (the_one p) (the_one p)
    one_joins p J su e a b t t' is is' = equal J t (a p) t' (b p) is is'

    size_joins : Uses_join I F (this_type i64_ty) (this_type i64_ty) (this_type i64_ty)
    unfolding read lifted
    size_joins J su e a b t t' is is' = equal J t i64_ty t' i64_ty is is'

    pub joins_sizes : (bs : List BindId) (s r q : Scope) → Joins I F s r q → Joins I F (with_sizes bs s) (with_sizes bs r) (with_sizes bs q)
    joins_sizes [] s r q f = f
    joins_sizes (b ∷ bs) s r q f = joins_sizes bs (with_uses b.0 (this_type i64_ty) s) (with_uses b.0 (this_type i64_ty) r) (with_uses b.0 (this_type i64_ty) q) (joins_uses b.0 (this_type i64_ty) (this_type i64_ty) (this_type i64_ty) s r q size_joins f)

    pub joins_parameters : (qs : List (Parameter BindId)) (x y z : Sub) (s r q : Scope) → ((n : ℕ) → Is_parameter qs n → (J : Reading) → Extends F I J → read J (lift (x n) (y n)) ≡ z n) → Joins I F s r q → Joins I F (with_parameters qs x s) (with_parameters qs y r) (with_parameters qs z q)
    joins_parameters [] x y z s r q h f = f
    joins_parameters (Size_parameter b ∷ qs) x y z s r q h f = joins_parameters qs x y z (with_uses b.0 (this_type i64_ty) s) (with_uses b.0 (this_type i64_ty) r) (with_uses b.0 (this_type i64_ty) q) h (joins_uses b.0 (this_type i64_ty) (this_type i64_ty) (this_type i64_ty) s r q size_joins f)
    joins_parameters (Type_parameter b l ∷ qs) x y z s r q h f = joins_parameters qs x y z (with_type b.0 (x b.0) s) (with_type b.0 (y b.0) r) (with_type b.0 (z b.0) q) (λ n i. h n (inr i)) (joins_type b.0 (x b.0) (y b.0) (z b.0) s r q (h b.0 (inl refl)) f)

    mutual
      pub joins_pattern : (u v w : ℕ → Uses) (p : FlatPattern) (lo : ℕ) (s r q : Scope) → ((n : ℕ) → lo ≤ n → n < lo + pattern_numbers p → Uses_join I F (u n) (v n) (w n)) → Joins I F s r q → Joins I F (with_pattern u p lo s) (with_pattern v p lo r) (with_pattern w p lo q)
      joins_pattern u v w (Bound_pattern b) lo s r q h f = joins_uses b.0 (u lo) (v lo) (w lo) s r q (h lo (omega arith) (omega arith)) f
      joins_pattern u v w Wild_pattern lo s r q h f = f
      joins_pattern u v w (Tuple_pattern qs) lo s r q h f = joins_patterns u v w qs (1 + lo) s r q (λ n x y. h n (omega arith) (omega arith)) f
      joins_pattern u v w (Record_pattern fs qs) lo s r q h f = joins_patterns u v w qs (1 + lo) s r q (λ n x y. h n (omega arith) (omega arith)) f
      joins_pattern u v w (Typed_pattern p t) lo s r q h f = joins_pattern u v w p lo s r q h f

      pub joins_patterns : (u v w : ℕ → Uses) (qs : Patterns Ref BindId) (lo : ℕ) (s r q : Scope) → ((n : ℕ) → lo ≤ n → n < lo + all_pattern_numbers qs → Uses_join I F (u n) (v n) (w n)) → Joins I F s r q → Joins I F (with_patterns u qs lo s) (with_patterns v qs lo r) (with_patterns w qs lo q)
      joins_patterns u v w no_pattern lo s r q h f = f
      joins_patterns u v w (pattern_and p qs) lo s r q h f = joins_patterns u v w qs (lo + pattern_numbers p) (with_pattern u p lo s) (with_pattern v p lo r) (with_pattern w p lo q) (λ n x y. h n (omega arith) (omega arith)) (joins_pattern u v w p lo s r q (λ n x y. h n (omega arith) (omega arith)) f)

    pub joins_ones : (p : FlatPattern) (lo : ℕ) (s r q : Scope) → Joins I F s r q → Joins I F (with_pattern the_one p lo s) (with_pattern the_one p lo r) (with_pattern the_one p lo q)
    joins_ones p lo s r q f = joins_pattern the_one the_one the_one p lo s r q (λ n x y. one_joins n) f

    pub joins_all_ones : (qs : Patterns Ref BindId) (lo : ℕ) (s r q : Scope) → Joins I F s r q → Joins I F (with_patterns the_one qs lo s) (with_patterns the_one qs lo r) (with_patterns the_one qs lo q)
    joins_all_ones qs lo s r q f = joins_patterns the_one the_one the_one qs lo s r q (λ n x y. one_joins n) f

    pub joins_turns : (t : FlatTurns) (lo : ℕ) (s r q : Scope) → Joins I F s r q → Joins I F (with_turns t lo s) (with_turns t lo r) (with_turns t lo q)
    joins_turns (Counted i n) lo s r q f = joins_uses i.0 (the_one lo) (the_one lo) (the_one lo) s r q (one_joins lo) f
    joins_turns (Over p e) lo s r q f = joins_ones p lo s r q f
    joins_turns (While t) lo s r q f = f

    -- the parameter of a function type, whose name is a size in the result
    joins_argument : (b : Option BindId) (x y : Ty) (s r q : Scope) → limit (lift x y) ≤ F → Joins I F s r q → Joins I F (with_argument b x s) (with_argument b y r) (with_argument b (read I (lift x y)) q)
    joins_argument None x y s r q le f = f
    joins_argument (Some b) x y s r q le f = joins_uses b.0 (this_type x) (this_type y) (this_type (read I (lift x y))) s r q (λ J su e a b t t' is is'. equal J t x t' y is is' ∙ read_same F I J e (lift x y) le) f

  module _ (I : Reading) (suited : Suited K K I) where
    pub used_joins : (F : ℕ) (s r q : Scope) → Joins I F s r q → (a b : Sub) (f : Ref) (t t' : Ty) → Used places s K a f t → Used places r K b f t' → Used places q K (image I (two a b)) f (read I (lift t t'))
    used_joins F s r q j a b (ref.Bound x) t t' h h' = j.uses x.0 I suited (extends_self F I) a b t t' h h'
    used_joins F s r q j a b (ref.Prim p) t t' h h' = (
      image I (two h.0 h'.0),
      λ n. read_kind K K I suited places (lift (h.0 n) (h'.0 n)) (pairs.lift_kind N places ps c F0 G over wide K places (h.0 n) (h'.0 n) (h.1 n) (h'.1 n)),
      equal I t _ t' _ h.2 h'.2 ∙ ap (read I) (pairs.lift_prim N places ps c F0 G over wide h.0 h'.0 p) ∙ read_prim I (two h.0 h'.0) p,
    )
    used_joins F s r q j a b (ref.Scalar x) t t' h h' = h

    size_means : (F : ℕ) (s r q : Scope) → Joins I F s r q → (a b : Sub) (z : Size_term Ref BindId) → IsSize s K a z → IsSize r K b z → IsSize q K (image I (two a b)) z
    unfolding read lifted
    size_means F s r q j a b (Size_use (ref.Bound x)) h h' = j.uses x.0 I suited (extends_self F I) a b i64_ty i64_ty h h'
    size_means F s r q j a b (Size_use (ref.Prim p)) h h' = h
    size_means F s r q j a b (Size_use (ref.Scalar x)) h h' = h
    size_means F s r q j a b (Size_const n) h h' = h
    size_means F s r q j a b (Size_blank x) h h' = h

    mutual
      unfolding read lifted

      denotes_joins : (F : ℕ) (e : FlatType) (s r q : Scope) → Joins I F s r q → (a b : Sub) (t t' : Ty) → Denotes N places K a e s t → Denotes N places K b e r t' → Denotes N places K (image I (two a b)) e q (read I (lift t t'))
      denotes_joins F (Type_use (ref.Bound x) no_arg) s r q j a b t t' h h' = j.types x.0 I suited (extends_self F I) t t' h h'
      denotes_joins F (Type_use (ref.Prim p) no_arg) s r q j a b t t' h h' = h
      denotes_joins F (Type_use (ref.Scalar x) no_arg) s r q j a b t t' h h' = equal I t _ t' _ h h'
      denotes_joins F (Type_use x (size_arg z rest)) s r q j a b t t' h h' = h
      denotes_joins F (Type_use x (type_arg u rest)) s r q j a b t t' h h' = h
      denotes_joins F (Array_type z e) s r q j a b t t' h h' = (
        size_means F s r q j a b z h.0 h'.0,
        (read I (lift h.1.0 h'.1.0), denotes_joins F e s r q j a b h.1.0 h'.1.0 h.1.1 h'.1.1, read_array N places K K I suited (lift t t') (lift h.1.0 h'.1.0) (pairs.lift_array N places ps c F0 G over wide K t h.1.0 t' h'.1.0 h.1.2 h'.1.2)),
      )
      denotes_joins F (Unique_type e) s r q j a b t t' h h' = denotes_joins F e s r q j a b t t' h h'
      denotes_joins F (Arrow_type x from to) s r q j a b t t' h h' = let H : ℕ = F + limit (lift h.0 h'.0) in (
        read I (lift h.0 h'.0),
        read I (lift h.1 h'.1),
        denotes_joins F from s r q j a b h.0 h'.0 h.2 h'.2,
        denotes_joins H to (with_argument x h.0 s) (with_argument x h'.0 r) (with_argument x (read I (lift h.0 h'.0)) q) (joins_argument I H x h.0 h'.0 s r q (omega arith) (joins_more I I F H s r q (omega arith) (extends_self F I) j)) a b h.1 h'.1 h.3 h'.3,
        equal I t _ t' _ h.4 h'.4,
      )
      denotes_joins F (Tuple_type es) s r q j a b t t' h h' = (read_all I (lift_all h.0 h'.0), all_denote_joins F es s r q j a b h.0 h'.0 h.1 h'.1, equal I t _ t' _ h.2 h'.2)
      denotes_joins F (Record_type fs es) s r q j a b t t' h h' = (
        read_all I (lift_all h.0 h'.0),
        all_denote_joins F es s r q j a b h.0 h'.0 h.1 h'.1,
        read_record I N fs (lift t t') (lift_all h.0 h'.0) (pairs.lift_record N places ps c F0 G over wide K one_label fs t t' h.0 h'.0 h.2 h'.2),
      )

      all_denote_joins : (F : ℕ) (es : Type_terms Ref BindId) (s r q : Scope) → Joins I F s r q → (a b : Sub) (ts us : Tys) → All_denote N places K a es s ts → All_denote N places K b es r us → All_denote N places K (image I (two a b)) es q (read_all I (lift_all ts us))
      all_denote_joins F no_type s r q j a b ts none h h' = tt
      all_denote_joins F no_type s r q j a b ts (more u us) h h' = absurd h'
      all_denote_joins F (type_and e es) s r q j a b ts none h h' = absurd h'
      all_denote_joins F (type_and e es) s r q j a b none (more u us) h h' = absurd h
      all_denote_joins F (type_and e es) s r q j a b (more t ts) (more u us) h h' = (denotes_joins F e s r q j a b t u h.0 h'.0, all_denote_joins F es s r q j a b ts us h.1 h'.1)

    mutual
      unfolding read lifted

      pub pattern_joins : (F : ℕ) (p : FlatPattern) (lo : ℕ) (s r q : Scope) → Joins I F s r q → (a b : Sub) → Pattern_typed N places K a p lo s → Pattern_typed N places K b p lo r → Pattern_typed N places K (image I (two a b)) p lo q
      pattern_joins F (Bound_pattern x) lo s r q j a b h h' = h
      pattern_joins F Wild_pattern lo s r q j a b h h' = h
      pattern_joins F (Tuple_pattern qs) lo s r q j a b h h' = (
        patterns_join F qs (1 + lo) s r q j a b h.0 h'.0,
        equal I (a lo) _ (b lo) _ h.1 h'.1 ∙ ap (λ ts. Made head.Tuple (read_all I ts)) (sym (pairs.lift_patterns N places ps c F0 G over wide a b qs (1 + lo))) ∙ ap (Made head.Tuple) (sym (read_patterns I (two a b) qs (1 + lo))),
      )
      pattern_joins F (Record_pattern fs qs) lo s r q j a b h h' = (
        patterns_join F qs (1 + lo) s r q j a b h.0 h'.0,
        subst (IsRecord N fs (read I (lift (a lo) (b lo)))) (sym (read_patterns I (two a b) qs (1 + lo))) (read_record I N fs (lift (a lo) (b lo)) (pattern_types (two a b) qs (1 + lo))
            (subst (IsRecord N fs (lift (a lo) (b lo))) (sym (pairs.lift_patterns N places ps c F0 G over wide a b qs (1 + lo))) (pairs.lift_record N places ps c F0 G over wide K one_label fs (a lo) (b lo) (pattern_types a qs (1 + lo)) (pattern_types b qs (1 + lo)) h.1 h'.1))),
      )
      pattern_joins F (Typed_pattern p t) lo s r q j a b h h' = (pattern_joins F p lo s r q j a b h.0 h'.0, denotes_joins F t s r q j a b (a lo) (b lo) h.1 h'.1)

      patterns_join : (F : ℕ) (qs : Patterns Ref BindId) (lo : ℕ) (s r q : Scope) → Joins I F s r q → (a b : Sub) → Patterns_typed N places K a qs lo s → Patterns_typed N places K b qs lo r → Patterns_typed N places K (image I (two a b)) qs lo q
      patterns_join F no_pattern lo s r q j a b h h' = h
      patterns_join F (pattern_and p qs) lo s r q j a b h h' = (pattern_joins F p lo s r q j a b h.0 h'.0, patterns_join F qs (lo + pattern_numbers p) s r q j a b h.1 h'.1)

    pub parameters_join : (F : ℕ) (qs : Patterns Ref BindId) (lo : ℕ) (s r q : Scope) → Joins I F s r q → (a b : Sub) → Parameters_typed N places K a qs lo s → Parameters_typed N places K b qs lo r → Parameters_typed N places K (image I (two a b)) qs lo q
    parameters_join F no_pattern lo s r q j a b h h' = h
    parameters_join F (pattern_and p qs) lo s r q j a b h h' = (
      pattern_joins F p lo s r q j a b h.0 h'.0,
      parameters_join F qs (lo + pattern_numbers p) (with_pattern the_one p lo s) (with_pattern the_one p lo r) (with_pattern the_one p lo q) (joins_ones I F p lo s r q j) a b h.1 h'.1,
    )

    pub written_joins : (F : ℕ) (o : Operation Ref BindId) (s r q : Scope) → Joins I F s r q → (a b : Sub) (t t' : Ty) → Written N places K o s a t → Written N places K o r b t' → Written N places K o q (image I (two a b)) (read I (lift t t'))
    written_joins F (Ascribe e) s r q j a b t t' h h' = denotes_joins F e s r q j a b t t' h h'
    written_joins F (Coerce e) s r q j a b t t' h h' = denotes_joins F e s r q j a b t t' h h'
    written_joins F (Declared e) s r q j a b t t' h h' = denotes_joins F e s r q j a b t t' h h'
    written_joins F o s r q j a b t t' h h' = h
