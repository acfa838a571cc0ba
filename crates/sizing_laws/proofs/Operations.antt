-- What each operation makes of its parts, by two numberings.
use Rattle.std.proofs.Common.{◌≡◌, ℕ, suc, ◌+◌, true, false, nat_eq, List, ◌∷◌, Option, Some, None, refl, sym, ap, ◌∙◌, subst}
use Rattle.fut_scalar.specs.declared.place.BindId.{BindId}
use Rattle.fut_scalar.specs.declared.scalar.ScalarType.TheVariants as scalar
use Rattle.fut_scalar.specs.declared.scalar.IntType.TheVariants as int
use Rattle.fut_flat.specs.declared.act.Part.{Part}
use Rattle.fut_flat.specs.declared.act.Part.TheVariants as part
use Rattle.fut_flat.specs.declared.prim.Ref.{Ref}
use Rattle.fut_flat.specs.Terms.{Operation, Tuple_of, Record_of, Array_of, Index, Project, Update, Replace, Ascribe, Coerce, Declared, Range, Terms, no_term, term_and}
use Rattle.fut_flat.specs.Numbers.{numbers}
use Rattle.fut_types.specs.declared.Head.TheVariants as head
use Rattle.fut_types.specs.Types.{Ty, Made, none, more, Sub}
use Rattle.fut_typing.specs.Names.{Names, AreNames}
use Rattle.sized_types.specs.Sizes.{Const, At, Size, Level, Sizes, no_size, size_and}
use Rattle.fut_sizes.specs.Agreeing.{then_do, no_size_of, type_levels, of_type}
use Rattle.fut_sizes.specs.Operations.{record_of, value_of, slice_size, is_literal, is_i64, empty_of, elements_agree, many, indexed, updated, range_of, part_or, element_ty, operation}
use Rattle.fut_sizes.specs.WrittenSizes.{part_of}
use Rattle.sizing_laws.specs.Renumbering.{Renumbers, renumbered_type, renumbered, all_renumbered}
use Rattle.sizing_laws.proofs.Agreeing.{agree_same, type_levels_same, of_type_to}
use Rattle.sizing_laws.proofs.Steps.{AnswerR, gives, refuses, then_same, cond_are, SizeR}
use Rattle.sizing_laws.proofs.Written.{if_some, part_of_to, changed_part_to, record_of_to, ascribed_to, coercion_to, declared_to}

module _ (number : ℕ → ℕ) where
  abbrev to : Size → Size
  to = renumbered number

  abbrev to_type : Ty → Ty
  to_type = renumbered_type number

  empty_alike : (n : ℕ) (t : Ty) → AnswerR (SizeR number) (empty_of n t) (empty_of n (to_type t))
  empty_alike n (Made head.Array (more e none)) = cond_are (AnswerR (SizeR number)) (nat_eq (type_levels e) 0) (nat_eq (type_levels (to_type e)) 0) (ap (λ k. nat_eq k 0) (type_levels_same number e)) (gives (ap (Level (At (Const 0))) (of_type_to number (no_size_of n) 0 e))) refuses
  empty_alike n t = gives (of_type_to number (no_size_of n) 0 t)

  elements_same : (t : Size) (es : Terms Ref BindId) (at : ℕ) (us : Sizes) → elements_agree (to t) es at (all_renumbered number us) ≡ elements_agree t es at us
  unfolding elements_agree
  elements_same t (term_and e es) at (size_and u us) = λ i. then_do (agree_same number at t u i) (λ z. elements_same t es (at + numbers e) us i)
  elements_same t es at us = refl

  many_same : (ts : Sizes) → many (all_renumbered number ts) ≡ many ts
  many_same no_size = refl
  many_same (size_and t ts) = ap suc (many_same ts)

  indexed_to : (n i : ℕ) (ps : List Part) (es : Terms Ref BindId) (t : Size) → indexed n i ps es (to t) ≡ to (indexed n i ps es t)
  unfolding indexed
  indexed_to n i (part.At ∷ ps) (term_and e es) (Level d t) = indexed_to n i ps es t
  indexed_to n i (part.Backwards ∷ ps) es (Level d t) = ap (Level d) (indexed_to n (suc i) ps es t)
  indexed_to n i (part.Slice false false ∷ ps) es (Level d t) = ap (Level d) (indexed_to n (suc i) ps es t)
  indexed_to n i (part.Slice false true ∷ ps) (term_and e es) (Level d t) = ap (Level (At (value_of n i e))) (indexed_to n (suc i) ps es t)
  indexed_to n i (part.Slice true false ∷ ps) (term_and e es) (Level d t) = ap (Level (no_size_of n i)) (indexed_to n (suc i) ps es t)
  indexed_to n i (part.Slice true true ∷ ps) (term_and e (term_and f es)) (Level d t) = ap (Level (At (slice_size n i (is_literal 0 e) f))) (indexed_to n (suc i) ps es t)
  indexed_to n i ps es t = refl

  updated_same : (es : Terms Ref BindId) (at : ℕ) (is : Sizes) (t : Size) → updated es at (all_renumbered number is) (to t) ≡ updated es at is t
  unfolding updated
  updated_same (term_and e no_term) at (size_and v no_size) t = agree_same number at t v
  updated_same (term_and e no_term) at (size_and i (size_and j is)) (Level d t) = updated_same no_term (at + numbers e) (size_and j is) t
  updated_same (term_and e (term_and f es)) at (size_and i is) (Level d t) = updated_same (term_and f es) (at + numbers e) is t
  updated_same es at is t = refl

  is_i64_same : (t : Ty) → is_i64 (to_type t) ≡ is_i64 t
  is_i64_same (Made (head.Scalar (scalar.Int int.I64)) ts) = refl
  is_i64_same t = refl

  element_to : (t : Ty) → element_ty (to_type t) ≡ to_type (element_ty t)
  element_to (Made head.Array (more e none)) = refl
  element_to t = refl

  part_or_to : (o : Option Size) (t : Size) → part_or (if_some number o) (to t) ≡ to (part_or o t)
  part_or_to (Some u) t = refl
  part_or_to None t = refl

module _ (M N : Names) (m : AreNames M) (n : AreNames N) (number : ℕ → ℕ) (renumbers : Renumbers M N number) (types others : Sub) (k : ℕ) (typed : others k ≡ renumbered_type number (types k)) where
  abbrev go : Size → Size
  go = renumbered number

  plain_to : of_type (no_size_of k) 0 (others k) ≡ go (of_type (no_size_of k) 0 (types k))
  plain_to = ap (of_type (no_size_of k) 0) typed ∙ of_type_to number (no_size_of k) 0 (types k)

  element_here : element_ty (others k) ≡ renumbered_type number (element_ty (types k))
  element_here = ap element_ty typed ∙ element_to number (types k)

  operation_alike : (o : Operation Ref BindId) (at : ℕ) (es : Terms Ref BindId) (ts : Sizes) → AnswerR (SizeR number) (operation M types o k at es ts) (operation N others o k at es (all_renumbered number ts))
  unfolding operation
  operation_alike Tuple_of at es ts = gives refl
  operation_alike (Record_of fs) at es ts = gives (ap (λ t. record_of N fs t (all_renumbered number ts)) typed ∙ record_of_to M N m n number renumbers fs (types k) ts)
  operation_alike Array_of at no_term no_size = subst (λ t. AnswerR (SizeR number) (empty_of k (types k)) (empty_of k t)) (sym typed) (empty_alike number k (types k))
  operation_alike Array_of at (term_and e es) (size_and t ts) = then_same _ _ (elements_same number t es (at + numbers e) ts) (λ z. gives (ap (λ c. Level (At (Const (suc c))) (go t)) (many_same number ts)))
  operation_alike (Index ps) at (term_and e es) (size_and t ts) = gives (indexed_to number k 0 ps es t)
  operation_alike (Project f) at es (size_and t no_size) = gives ((λ i. part_or (part_of_to M N m n number renumbers f t i) (plain_to i)) ∙ part_or_to number (part_of M f t) (of_type (no_size_of k) 0 (types k)))
  operation_alike Update at (term_and e es) (size_and t ts) = then_same _ _ (updated_same number es (at + numbers e) ts t) (λ z. gives refl)
  operation_alike (Replace f) at es (size_and t (size_and v no_size)) = gives (changed_part_to M N m n number renumbers f (λ u. v) (λ u. go v) (λ u. refl) t)
  operation_alike (Ascribe e) at es (size_and t no_size) = ascribed_to M N m n number renumbers at e t
  operation_alike (Coerce e) at es (size_and t no_size) = coercion_to M N m n number renumbers at e t
  operation_alike (Declared e) at es (size_and t no_size) = declared_to M N m n number renumbers k at e t
  operation_alike (Range stepped e) at es ts = gives (λ i. Level (At (range_of ((ap is_i64 element_here ∙ is_i64_same number (element_ty (types k))) i) k stepped e es)) ((ap (of_type (no_size_of k) 0) element_here ∙ of_type_to number (no_size_of k) 0 (element_ty (types k))) i))
  operation_alike o at es ts = gives plain_to

  pub operated : (o : Operation Ref BindId) (at : ℕ) (es : Terms Ref BindId) (ts us : Sizes) → us ≡ all_renumbered number ts → AnswerR (SizeR number) (operation M types o k at es ts) (operation N others o k at es us)
  operated o at es ts us e = subst (λ vs. AnswerR (SizeR number) (operation M types o k at es ts) (operation N others o k at es vs)) (sym e) (operation_alike o at es ts)
