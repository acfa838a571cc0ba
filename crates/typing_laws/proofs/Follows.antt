-- What names, rules, written types and patterns say of types under one numbering they say under the other of what these become.
use Rattle.std.proofs.Common.{◌≡◌, ℕ, ◌+◌, ◌≤◌, ◌<◌, refl, sym, ◌∙◌, ap, subst, arith, true, false, List, [], ◌∷◌, Option, Some, None}
use mathlib.Core.Logic.{inl, inr}
use native.Mathlib.Decide.{ℕ_discrete}
use Rattle.fut_scalar.specs.declared.place.BindId.{BindId}
use Rattle.fut_scalar.specs.declared.operator.BinOp.{BinOp}
use Rattle.fut_scalar.specs.declared.operator.BinOp.TheVariants as op
use Rattle.fut_ast.specs.Sorts.{Text}
use Rattle.fut_flat.specs.declared.act.Part.{Part}
use Rattle.fut_flat.specs.declared.act.Part.TheVariants as part
use Rattle.fut_flat.specs.declared.prim.Primitive.{Primitive as Prim}
use Rattle.fut_flat.specs.declared.prim.Folding.TheVariants as folding
use Rattle.fut_flat.specs.declared.prim.Primitive.TheVariants as prim
use Rattle.fut_flat.specs.declared.prim.Ref.{Ref}
use Rattle.fut_flat.specs.declared.prim.Ref.TheVariants as ref
use Rattle.fut_flat.specs.Terms.{Size_term, Size_use, Size_const, Size_blank, Type_use, Array_type, Unique_type, Arrow_type, Tuple_type, Record_type, Type_terms, no_type, type_and, no_arg, size_arg, type_arg, Bound_pattern, Wild_pattern, Tuple_pattern, Record_pattern, Typed_pattern, Patterns, no_pattern, pattern_and, Parameter, Size_parameter, Type_parameter, Operation, Integer, Truth, Tuple_of, Record_of, Array_of, Binary, Negate, Complement, Index, Project, Update, Replace, Ascribe, Coerce, Declared, Assert, Range, Counted, Over, While}
use Rattle.fut_flat.specs.Numbers.{pattern_numbers, all_pattern_numbers}
use Rattle.fut_flat.specs.Erased.{FlatType, FlatPattern, FlatTurns}
use Rattle.fut_types.specs.declared.Kind.{Kind}
use Rattle.fut_types.specs.declared.Kind.TheVariants as kind
use Rattle.fut_types.specs.declared.Head.TheVariants as head
use Rattle.fut_types.specs.Types.{Ty, Made, Tys, none, more, Sub, Kinds, HasKind, fun_ty, applied}
use Rattle.fut_types.specs.Shapes.{HasPart}
use Rattle.fut_typing.specs.Names.{Names, count, IsRecord}
use Rattle.fut_typing.specs.Primitives.{i64_ty, prim_type}
use Rattle.fut_typing.specs.Scopes.{Uses, Scope, with_uses, with_type, with_sizes, with_argument, the_one, this_type, Used, IsArray, IsSize, Denotes, All_denote}
use Rattle.fut_typing.specs.Rules.{Operator, All_are, Indexed, Updated, Rule, Written, left_of}
use Rattle.fut_typing.specs.Patterns.{pattern_types, arrows, with_pattern, with_patterns, with_parameters, Pattern_typed, Patterns_typed, Parameters_typed}
use Rattle.fut_typing.specs.Typing.{with_turns}
use Rattle.fut_typing.specs.Declared.{Is_parameter}
use Rattle.fut_typing.proofs.Readings.{Reading, Suited, read_kind, read_part, Extends, extends_more, extends_self, limit, read_same}
unfoldable use Rattle.fut_typing.proofs.Readings.{read}
use Rattle.fut_typing.proofs.Follows.{read_record}
use Rattle.typing_laws.proofs.Moved.{Turn, sent, all_sent, sent_types, Faithful}
unfoldable use Rattle.typing_laws.proofs.Moved.{moved, all_moved}

module _ (turn : Turn) (K K' : Kinds) where
  -- what a name means under one numbering it means under the other of what the types become, by any reading that differs for
  -- parameters from F on alone
  abbrev pub Uses_follow : Reading → ℕ → Uses → Uses → Type 0
  Uses_follow I F u u' = (J : Reading) → Suited K K' J → Extends F I J → (a : Sub) (t : Ty) → u K a t → u' K' (sent_types turn J a) (sent turn J t)

  pub record Follows (I : Reading) (F : ℕ) (s s' : Scope) : Type 0 where
    pub uses : (b : ℕ) → Uses_follow I F (s.uses b) (s'.uses b)
    pub types : (b : ℕ) (J : Reading) → Suited K K' J → Extends F I J → (t : Ty) → s.types b t → s'.types b (sent turn J t)

  pub follows_more : (I J : Reading) (F G : ℕ) (s s' : Scope) → F ≤ G → Extends F I J → Follows I F s s' → Follows J G s s'
  follows_more I J F G s s' le e f = record { uses = λ b L su x. f.uses b L su (extends_more F G I J L le e x); types = λ b L su x. f.types b L su (extends_more F G I J L le e x) }

  module _ (I : Reading) (F : ℕ) where
    follows_uses : (b : ℕ) (u u' : Uses) (s s' : Scope) → Uses_follow I F u u' → Follows I F s s' → Follows I F (with_uses b u s) (with_uses b u' s')
    follows_uses b u u' s s' h f = record {
      uses = λ n J su e a t. elim (ℕ_discrete n b) as (λ d. (elim d as (λ d. Uses) [ yes e ↦ u | no ne ↦ s.uses n ]) K a t → (elim d as (λ d. Uses) [ yes e ↦ u' | no ne ↦ s'.uses n ]) K' (sent_types turn J a) (sent turn J t)) [ yes q ↦ h J su e a t | no ne ↦ f.uses n J su e a t ];
      types = f.types;
    }

    follows_type : (b : ℕ) (c c' : Ty) (s s' : Scope) → ((J : Reading) → Extends F I J → sent turn J c ≡ c') → Follows I F s s' → Follows I F (with_type b c s) (with_type b c' s')
    follows_type b c c' s s' h f = record {
      uses = f.uses;
      types = λ n J su e t. elim (ℕ_discrete n b) as (λ d. (elim d as (λ d. Ty → Type 0) [ yes e ↦ λ u. u ≡ c | no ne ↦ s.types n ]) t → (elim d as (λ d. Ty → Type 0) [ yes e ↦ λ u. u ≡ c' | no ne ↦ s'.types n ]) (sent turn J t)) [ yes q ↦ λ is. ap (sent turn J) is ∙ h J e | no ne ↦ f.types n J su e t ];
    }

    pub one_follows : (p : ℕ) → Uses_follow I F (the_one p) (the_one p)
    one_follows p J su e a t is = ap (sent turn J) is

    size_follows : Uses_follow I F (this_type i64_ty) (this_type i64_ty)
    unfolding read moved
    size_follows J su e a t is = ap (sent turn J) is

    pub follows_sizes : (bs : List BindId) (s s' : Scope) → Follows I F s s' → Follows I F (with_sizes bs s) (with_sizes bs s')
    follows_sizes [] s s' f = f
    follows_sizes (b ∷ bs) s s' f = follows_sizes bs (with_uses b.0 (this_type i64_ty) s) (with_uses b.0 (this_type i64_ty) s') (follows_uses b.0 (this_type i64_ty) (this_type i64_ty) s s' size_follows f)

    pub follows_parameters : (ps : List (Parameter BindId)) (c c' : Sub) (s s' : Scope) → ((n : ℕ) → Is_parameter ps n → (J : Reading) → Extends F I J → sent turn J (c n) ≡ c' n) → Follows I F s s' → Follows I F (with_parameters ps c s) (with_parameters ps c' s')
    follows_parameters [] c c' s s' h f = f
    follows_parameters (Size_parameter b ∷ ps) c c' s s' h f = follows_parameters ps c c' (with_uses b.0 (this_type i64_ty) s) (with_uses b.0 (this_type i64_ty) s') h (follows_uses b.0 (this_type i64_ty) (this_type i64_ty) s s' size_follows f)
    follows_parameters (Type_parameter b lifted ∷ ps) c c' s s' h f = follows_parameters ps c c' (with_type b.0 (c b.0) s) (with_type b.0 (c' b.0) s') (λ n i. h n (inr i)) (follows_type b.0 (c b.0) (c' b.0) s s' (h b.0 (inl refl)) f)

    mutual
      pub follows_pattern : (u u' : ℕ → Uses) (p : FlatPattern) (lo : ℕ) (s s' : Scope) → ((n : ℕ) → lo ≤ n → n < lo + pattern_numbers p → Uses_follow I F (u n) (u' n)) → Follows I F s s' → Follows I F (with_pattern u p lo s) (with_pattern u' p lo s')
      follows_pattern u u' (Bound_pattern b) lo s s' h f = follows_uses b.0 (u lo) (u' lo) s s' (h lo (omega arith) (omega arith)) f
      follows_pattern u u' Wild_pattern lo s s' h f = f
      follows_pattern u u' (Tuple_pattern ps) lo s s' h f = follows_patterns u u' ps (1 + lo) s s' (λ n p q. h n (omega arith) (omega arith)) f
      follows_pattern u u' (Record_pattern fs ps) lo s s' h f = follows_patterns u u' ps (1 + lo) s s' (λ n p q. h n (omega arith) (omega arith)) f
      follows_pattern u u' (Typed_pattern p t) lo s s' h f = follows_pattern u u' p lo s s' h f

      follows_patterns : (u u' : ℕ → Uses) (ps : Patterns Ref BindId) (lo : ℕ) (s s' : Scope) → ((n : ℕ) → lo ≤ n → n < lo + all_pattern_numbers ps → Uses_follow I F (u n) (u' n)) → Follows I F s s' → Follows I F (with_patterns u ps lo s) (with_patterns u' ps lo s')
      follows_patterns u u' no_pattern lo s s' h f = f
      follows_patterns u u' (pattern_and p ps) lo s s' h f = follows_patterns u u' ps (lo + pattern_numbers p) (with_pattern u p lo s) (with_pattern u' p lo s') (λ n x y. h n (omega arith) (omega arith)) (follows_pattern u u' p lo s s' (λ n x y. h n (omega arith) (omega arith)) f)

    pub follows_ones : (p : FlatPattern) (lo : ℕ) (s s' : Scope) → Follows I F s s' → Follows I F (with_pattern the_one p lo s) (with_pattern the_one p lo s')
    follows_ones p lo s s' f = follows_pattern the_one the_one p lo s s' (λ n x y. one_follows n) f

    pub follows_all_ones : (ps : Patterns Ref BindId) (lo : ℕ) (s s' : Scope) → Follows I F s s' → Follows I F (with_patterns the_one ps lo s) (with_patterns the_one ps lo s')
    follows_all_ones ps lo s s' f = follows_patterns the_one the_one ps lo s s' (λ n x y. one_follows n) f

    pub follows_turns : (t : FlatTurns) (lo : ℕ) (s s' : Scope) → Follows I F s s' → Follows I F (with_turns t lo s) (with_turns t lo s')
    follows_turns (Counted i n) lo s s' f = follows_uses i.0 (the_one lo) (the_one lo) s s' (one_follows lo) f
    follows_turns (Over p e) lo s s' f = follows_ones p lo s s' f
    follows_turns (While c) lo s s' f = f

    -- the parameter of a function type, whose name is a size in the result
    follows_argument : (b : Option BindId) (x : Ty) (s s' : Scope) → limit (moved turn x) ≤ F → Follows I F s s' → Follows I F (with_argument b x s) (with_argument b (sent turn I x) s')
    follows_argument None x s s' le f = f
    follows_argument (Some b) x s s' le f = follows_uses b.0 (this_type x) (this_type (sent turn I x)) s s' (λ J su e a t is. ap (sent turn J) is ∙ read_same F I J e (moved turn x) le) f

module _ (turn : Turn) (I : Reading) where
  pub sent_arrows : (us : Tys) (t : Ty) → sent turn I (arrows us t) ≡ arrows (all_sent turn I us) (sent turn I t)
  unfolding read moved
  sent_arrows none t = refl
  sent_arrows (more u us) t = ap (fun_ty (sent turn I u)) (sent_arrows us t)

  pub sent_patterns : (a : Sub) (ps : Patterns Ref BindId) (lo : ℕ) → pattern_types (sent_types turn I a) ps lo ≡ all_sent turn I (pattern_types a ps lo)
  unfolding read moved
  sent_patterns a no_pattern lo = refl
  sent_patterns a (pattern_and p ps) lo = ap (more (sent turn I (a lo))) (sent_patterns a ps (lo + pattern_numbers p))

  sent_count : (ts : Tys) → count (all_sent turn I ts) ≡ count ts
  unfolding read moved
  sent_count none = refl
  sent_count (more t ts) = ap (λ n. 1 + n) (sent_count ts)

  -- the types of primitives have no records, and no parameters of their own
  sent_prim : (given : Sub) (p : Prim) → sent turn I (applied given (prim_type p)) ≡ applied (sent_types turn I given) (prim_type p)
  unfolding read moved applied
  sent_prim given prim.Map = refl
  sent_prim given prim.Map2 = refl
  sent_prim given prim.Map3 = refl
  sent_prim given prim.Map4 = refl
  sent_prim given prim.Map5 = refl
  sent_prim given prim.Reduce = refl
  sent_prim given prim.ReduceComm = refl
  sent_prim given prim.Scan = refl
  sent_prim given prim.Filter = refl
  sent_prim given prim.Partition = refl
  sent_prim given prim.Scatter = refl
  sent_prim given prim.ReduceByIndex = refl
  sent_prim given prim.Zip = refl
  sent_prim given prim.Zip3 = refl
  sent_prim given prim.Unzip = refl
  sent_prim given prim.Unzip3 = refl
  sent_prim given prim.Iota = refl
  sent_prim given prim.Replicate = refl
  sent_prim given prim.Tabulate = refl
  sent_prim given prim.Indices = refl
  sent_prim given prim.Length = refl
  sent_prim given prim.Null = refl
  sent_prim given prim.Head = refl
  sent_prim given prim.Last = refl
  sent_prim given prim.Init = refl
  sent_prim given prim.Tail = refl
  sent_prim given prim.Take = refl
  sent_prim given prim.Drop = refl
  sent_prim given prim.Reverse = refl
  sent_prim given prim.Rotate = refl
  sent_prim given prim.Concat = refl
  sent_prim given prim.Flatten = refl
  sent_prim given prim.Unflatten = refl
  sent_prim given prim.Transpose = refl
  sent_prim given prim.Copy = refl
  sent_prim given (prim.Convert to from) = refl
  sent_prim given (prim.Min t) = refl
  sent_prim given (prim.Max t) = refl
  sent_prim given (prim.Abs t) = refl
  sent_prim given (prim.Popc t) = refl
  sent_prim given (prim.Lowest t) = refl
  sent_prim given (prim.Highest t) = refl
  sent_prim given (prim.NumBits t) = refl
  sent_prim given (prim.Fold folding.Sum t) = refl
  sent_prim given (prim.Fold folding.Product t) = refl
  sent_prim given (prim.Fold folding.Minimum t) = refl
  sent_prim given (prim.Fold folding.Maximum t) = refl

module _ (M N : Names) (turn : Turn) (faithful : Faithful M N turn) (places : Kind) (K K' : Kinds) (I : Reading) (suited : Suited K K' I) where
  pub sent_kind : (k : Kind) (t : Ty) → HasKind K k t → HasKind K' k (sent turn I t)
  sent_kind k t h = read_kind K K' I suited k (moved turn t) (faithful.kind K k t h)

  sent_part : (f : Text) (t u : Ty) → HasPart M.shapes (M.label f) t u → HasPart N.shapes (N.label f) (sent turn I t) (sent turn I u)
  sent_part f t u h = read_part I N.shapes (N.label f) (moved turn t) (moved turn u) (faithful.part f t u h)

  sent_record : (fs : List Text) (t : Ty) (us : Tys) → IsRecord M fs t us → IsRecord N fs (sent turn I t) (all_sent turn I us)
  sent_record fs t us h = read_record I N fs (moved turn t) (all_moved turn us) (faithful.row fs t us h)

  pub sent_array : (t element : Ty) → IsArray places K t element → IsArray places K' (sent turn I t) (sent turn I element)
  unfolding read moved
  sent_array t element h = (ap (sent turn I) h.0, sent_kind places element h.1)

  pub used_follows : (F : ℕ) (s s' : Scope) → Follows turn K K' I F s s' → (a : Sub) (r : Ref) (t : Ty) → Used places s K a r t → Used places s' K' (sent_types turn I a) r (sent turn I t)
  used_follows F s s' f a (ref.Bound b) t h = f.uses b.0 I suited (extends_self F I) a t h
  used_follows F s s' f a (ref.Prim p) t h = (sent_types turn I h.0, λ n. sent_kind places (h.0 n) (h.1 n), ap (sent turn I) h.2 ∙ sent_prim turn I h.0 p)
  used_follows F s s' f a (ref.Scalar q) t h = h

  size_means : (F : ℕ) (s s' : Scope) → Follows turn K K' I F s s' → (a : Sub) (z : Size_term Ref BindId) → IsSize s K a z → IsSize s' K' (sent_types turn I a) z
  unfolding read moved
  size_means F s s' f a (Size_use (ref.Bound b)) h = f.uses b.0 I suited (extends_self F I) a i64_ty h
  size_means F s s' f a (Size_use (ref.Prim p)) h = h
  size_means F s s' f a (Size_use (ref.Scalar q)) h = h
  size_means F s s' f a (Size_const n) h = h
  size_means F s s' f a (Size_blank b) h = h

  mutual
    unfolding read moved

    denotes_follows : (F : ℕ) (e : FlatType) (s s' : Scope) → Follows turn K K' I F s s' → (a : Sub) (t : Ty) → Denotes M places K a e s t → Denotes N places K' (sent_types turn I a) e s' (sent turn I t)
    denotes_follows F (Type_use (ref.Bound b) no_arg) s s' f a t h = f.types b.0 I suited (extends_self F I) t h
    denotes_follows F (Type_use (ref.Prim p) no_arg) s s' f a t h = h
    denotes_follows F (Type_use (ref.Scalar q) no_arg) s s' f a t h = ap (sent turn I) h
    denotes_follows F (Type_use r (size_arg z rest)) s s' f a t h = h
    denotes_follows F (Type_use r (type_arg u rest)) s s' f a t h = h
    denotes_follows F (Array_type z e) s s' f a t h = (size_means F s s' f a z h.0, (sent turn I h.1.0, denotes_follows F e s s' f a h.1.0 h.1.1, sent_array t h.1.0 h.1.2))
    denotes_follows F (Unique_type e) s s' f a t h = denotes_follows F e s s' f a t h
    denotes_follows F (Arrow_type b from to) s s' f a t h = let G : ℕ = F + limit (moved turn h.0) in (
      sent turn I h.0,
      sent turn I h.1,
      denotes_follows F from s s' f a h.0 h.2,
      denotes_follows G to (with_argument b h.0 s) (with_argument b (sent turn I h.0) s') (follows_argument turn K K' I G b h.0 s s' (omega arith) (follows_more turn K K' I I F G s s' (omega arith) (extends_self F I) f)) a h.1 h.3,
      ap (sent turn I) h.4,
    )
    denotes_follows F (Tuple_type es) s s' f a t h = (all_sent turn I h.0, all_denote_follows F es s s' f a h.0 h.1, ap (sent turn I) h.2)
    denotes_follows F (Record_type fs es) s s' f a t h = (all_sent turn I h.0, all_denote_follows F es s s' f a h.0 h.1, sent_record fs t h.0 h.2)

    all_denote_follows : (F : ℕ) (es : Type_terms Ref BindId) (s s' : Scope) → Follows turn K K' I F s s' → (a : Sub) (ts : Tys) → All_denote M places K a es s ts → All_denote N places K' (sent_types turn I a) es s' (all_sent turn I ts)
    all_denote_follows F no_type s s' f a none h = h
    all_denote_follows F no_type s s' f a (more t ts) h = h
    all_denote_follows F (type_and e es) s s' f a none h = h
    all_denote_follows F (type_and e es) s s' f a (more t ts) h = (denotes_follows F e s s' f a t h.0, all_denote_follows F es s s' f a ts h.1)

  mutual
    unfolding read moved

    pub pattern_follows : (F : ℕ) (p : FlatPattern) (lo : ℕ) (s s' : Scope) → Follows turn K K' I F s s' → (a : Sub) → Pattern_typed M places K a p lo s → Pattern_typed N places K' (sent_types turn I a) p lo s'
    pattern_follows F (Bound_pattern b) lo s s' f a h = h
    pattern_follows F Wild_pattern lo s s' f a h = h
    pattern_follows F (Tuple_pattern ps) lo s s' f a h = (patterns_follow F ps (1 + lo) s s' f a h.0, ap (sent turn I) h.1 ∙ ap (Made head.Tuple) (sym (sent_patterns turn I a ps (1 + lo))))
    pattern_follows F (Record_pattern fs ps) lo s s' f a h = (patterns_follow F ps (1 + lo) s s' f a h.0, subst (IsRecord N fs (sent turn I (a lo))) (sym (sent_patterns turn I a ps (1 + lo))) (sent_record fs (a lo) (pattern_types a ps (1 + lo)) h.1))
    pattern_follows F (Typed_pattern p t) lo s s' f a h = (pattern_follows F p lo s s' f a h.0, denotes_follows F t s s' f a (a lo) h.1)

    patterns_follow : (F : ℕ) (ps : Patterns Ref BindId) (lo : ℕ) (s s' : Scope) → Follows turn K K' I F s s' → (a : Sub) → Patterns_typed M places K a ps lo s → Patterns_typed N places K' (sent_types turn I a) ps lo s'
    patterns_follow F no_pattern lo s s' f a h = h
    patterns_follow F (pattern_and p ps) lo s s' f a h = (pattern_follows F p lo s s' f a h.0, patterns_follow F ps (lo + pattern_numbers p) s s' f a h.1)

  pub parameters_follow : (F : ℕ) (ps : Patterns Ref BindId) (lo : ℕ) (s s' : Scope) → Follows turn K K' I F s s' → (a : Sub) → Parameters_typed M places K a ps lo s → Parameters_typed N places K' (sent_types turn I a) ps lo s'
  parameters_follow F no_pattern lo s s' f a h = h
  parameters_follow F (pattern_and p ps) lo s s' f a h = (pattern_follows F p lo s s' f a h.0, parameters_follow F ps (lo + pattern_numbers p) (with_pattern the_one p lo s) (with_pattern the_one p lo s') (follows_ones turn K K' I F p lo s s' f) a h.1)

  -- the rules of operations
  sent_operator : (o : BinOp) (t u : Ty) → Operator o K t u → Operator o K' (sent turn I t) (sent turn I u)
  unfolding read moved
  sent_operator op.Eq t u h = (ap (sent turn I) h.0, sent_kind kind.Equal u h.1)
  sent_operator op.Ne t u h = (ap (sent turn I) h.0, sent_kind kind.Equal u h.1)
  sent_operator op.Lt t u h = (ap (sent turn I) h.0, sent_kind kind.Integer u h.1)
  sent_operator op.Le t u h = (ap (sent turn I) h.0, sent_kind kind.Integer u h.1)
  sent_operator op.Gt t u h = (ap (sent turn I) h.0, sent_kind kind.Integer u h.1)
  sent_operator op.Ge t u h = (ap (sent turn I) h.0, sent_kind kind.Integer u h.1)
  sent_operator o t u h = (ap (sent turn I) h.0, sent_kind kind.Integer u h.1)

  sent_all_are : (u : Ty) (ts : Tys) → All_are u ts → All_are (sent turn I u) (all_sent turn I ts)
  unfolding read moved
  sent_all_are u none h = h
  sent_all_are u (more t ts) h = (ap (sent turn I) h.0, sent_all_are u ts h.1)

  sent_left : (p : Part) (u : Ty) → sent turn I (left_of p u) ≡ left_of p (sent turn I u)
  unfolding read moved
  sent_left part.At u = refl
  sent_left (part.Slice from to) u = refl
  sent_left part.Backwards u = refl

  sent_indexed : (ps : List Part) (x t : Ty) → Indexed M places K ps x t → Indexed N places K' ps (sent turn I x) (sent turn I t)
  sent_indexed [] x t h = ap (sent turn I) h
  sent_indexed (p ∷ ps) x t h = (sent turn I h.0, sent turn I h.1, sent_array x h.0 h.2, sent_indexed ps h.0 h.1 h.3, ap (sent turn I) h.4 ∙ sent_left p h.1)

  sent_updated : (x : Ty) (ts : Tys) → Updated M places K x ts → Updated N places K' (sent turn I x) (all_sent turn I ts)
  unfolding read moved
  sent_updated x none h = h
  sent_updated x (more v none) h = ap (sent turn I) h
  sent_updated x (more i (more v vs)) h = (ap (sent turn I) h.0, (sent turn I h.1.0, sent_array x h.1.0 h.1.1, sent_updated h.1.0 (more v vs) h.1.2))

  pub rule_follows : (o : Operation Ref BindId) (t u : Ty) (ts : Tys) → Rule M places K o t u ts → Rule N places K' o (sent turn I t) (sent turn I u) (all_sent turn I ts)
  unfolding read moved
  rule_follows (Integer n None) t u none h = sent_kind kind.Integer t h
  rule_follows (Integer n (Some i)) t u none h = ap (sent turn I) h
  rule_follows (Truth b) t u none h = ap (sent turn I) h
  rule_follows Tuple_of t u ts h = ap (sent turn I) h
  rule_follows (Record_of fs) t u ts h = sent_record fs t ts h
  rule_follows Array_of t u ts h = (sent turn I h.0, sent_array t h.0 h.1, sent_all_are h.0 ts h.2)
  rule_follows (Binary o) t u (more x (more y none)) h = (sent_operator o t u h.0, ap (sent turn I) h.1, ap (sent turn I) h.2)
  rule_follows Negate t u (more x none) h = (ap (sent turn I) h.0, sent_kind kind.Integer t h.1)
  rule_follows Complement t u (more x none) h = (ap (sent turn I) h.0, sent_kind kind.Scalar t h.1)
  rule_follows (Index ps) t u (more x is) h = (sent_all_are i64_ty is h.0, sent_count turn I is ∙ h.1, sent_indexed ps x t h.2)
  rule_follows (Project f) t u (more x none) h = (ap (sent turn I) h.0, sent_part f u t h.1)
  rule_follows Update t u (more x vs) h = (ap (sent turn I) h.0, sent_updated x vs h.1)
  rule_follows (Replace f) t u (more x (more v none)) h = (ap (sent turn I) h.0, sent_part f t v h.1)
  rule_follows (Ascribe e) t u (more x none) h = ap (sent turn I) h
  rule_follows (Coerce e) t u (more x none) h = ap (sent turn I) h
  rule_follows (Declared e) t u (more x none) h = ap (sent turn I) h
  rule_follows Assert t u (more c none) h = (ap (sent turn I) h.0, ap (sent turn I) h.1)
  rule_follows (Range true end) t u (more x (more y (more z none))) h = (sent turn I h.0, sent_array t h.0 h.1, sent_kind kind.Integer h.0 h.2, sent_all_are h.0 (more x (more y (more z none))) h.3)
  rule_follows (Range false end) t u (more x (more z none)) h = (sent turn I h.0, sent_array t h.0 h.1, sent_kind kind.Integer h.0 h.2, sent_all_are h.0 (more x (more z none)) h.3)
  rule_follows o t u ts h = absurd h

  pub written_follows : (F : ℕ) (o : Operation Ref BindId) (s s' : Scope) → Follows turn K K' I F s s' → (a : Sub) (t : Ty) → Written M places K o s a t → Written N places K' o s' (sent_types turn I a) (sent turn I t)
  written_follows F (Ascribe e) s s' f a t h = denotes_follows F e s s' f a t h
  written_follows F (Coerce e) s s' f a t h = denotes_follows F e s s' f a t h
  written_follows F (Declared e) s s' f a t h = denotes_follows F e s s' f a t h
  written_follows F o s s' f a t h = h
