-- What is not compared, by its parts, and operations and primitives on parts of another number or of other forms.
use Rattle.std.proofs.Common.{◌≡◌, ◌≢◌, Bool, true, ℕ, zero, suc, ◌<◌, ◌++◌, refl, sym, ap, ◌∙◌, subst, arith, List, [], ◌∷◌, map, length, get_or, le_refl, Option, Some, None}
use Rattle.fut_scalar.specs.declared.operator.BinOp.{BinOp}
use Rattle.fut_scalar.specs.declared.operator.BinOp.TheVariants as binary
use Rattle.fut_scalar.specs.declared.place.Place.{Place}
use Rattle.fut_scalar.specs.declared.scalar.IntType.{IntType}
use Rattle.fut_scalar.specs.declared.scalar.ScalarType.{ScalarType}
use Rattle.fut_ast.specs.Sorts.{Text}
use Rattle.fut_ast.specs.declared.node.End.{End}
use Rattle.fut_flat.specs.declared.act.Part.{Part}
use Rattle.fut_flat.specs.declared.prim.Primitive.{Primitive}
use Rattle.fut_flat.specs.declared.prim.Primitive.TheVariants as prim
use Rattle.fut_flat.specs.Erased.{FlatType}
use Rattle.fut_flat.specs.Terms.{Integer, Truth, Record_of, Array_of, Binary, Negate, Complement, Index, Project, Update, Range, Replace, Ascribe, Coerce, Declared, Assert}
use Rattle.fut_scalar.specs.declared.scalar.Scalar.TheVariants as scalar
use Rattle.fut_meaning.specs.Arrays.{Making}
use Rattle.fut_meaning.specs.Operations.{named_values}
use Rattle.fut_blocks.specs.declared.block.Atom.{Atom}
use Rattle.fut_blocks.specs.declared.block.Atom.TheVariants as atom
use Rattle.fut_blocks.specs.declared.block.Operation.TheVariants as operation
use Rattle.fut_blocks.specs.Plain.{Operate}
use Rattle.unfold.specs.Held.{known_of}
use Rattle.unfold.specs.Knowns.{Known, Scalar_known, Tuple_known, Record_known, Knowns, known_and, Known_fields, listed, knowns, part}
use Rattle.unfold.specs.Stuck.{No_scalar, No_operation, No_primitive}
use Rattle.unfold.specs.Unfolding.{Bindings, step, both_hold, field_knowns, Equals, All_equal, Fields_equal, e_scalars, e_packed, e_tuples, e_records, e_none, e_more, e_no_field, e_field, Packs_all, p_atom, p_tuple, p_record, p_none, p_more, o_integer, o_truth, o_record, o_binary, o_equal, o_unequal, o_negate, o_complement, o_project, o_part, o_changed, o_replace, o_ascribe, o_coerce, o_declared, o_assert, o_made, p_convert, p_min, p_max, p_abs, p_popc}
use Rattle.unfold.specs.declared.known.Known.{Known as Held_known}
use Rattle.unfold_parts.specs.Parts.{Not_one, Not_one_scalar, Not_two_scalars}
use Rattle.unfold_parts.specs.Refused.{Not_packed, Not_all_packed, Not_compared, Not_both_compared, Not_all_compared}
use Rattle.unfold_parts.proofs.Packs.{listed_knowns, Packable, All_packable, tuple_packable, record_packable, more_packable, packs_again}
use Rattle.unfold_parts.proofs.Lacking.{No_record}

-- ---- comparisons
-- what is compared with something is packed, and so is that
abbrev Both_packable : Known → Known → Type 0
Both_packable s t = ((k : ℕ) → Packable s k) × ((k : ℕ) → Packable t k)

abbrev All_both_packable : List Known → List Known → Type 0
All_both_packable ss ts = ((k : ℕ) → All_packable ss k) × ((k : ℕ) → All_packable ts k)

module _ (at : Place) where
  mutual
    compared_pack : {s t : Known} {n m : ℕ} {bs : Bindings} {u : Atom} → Equals at s t n bs u m → Both_packable s t
    compared_pack (e_scalars {u = u} {w = w} le) = (λ k. (k, [], u, p_atom), λ k. (k, [], w, p_atom))
    compared_pack (e_packed (p_more r (p_more q p_none)) le) = (packs_again r, packs_again q)
    compared_pack (e_tuples {ss = ss} {us = us} h) = let a = all_compared_pack h in (λ k. tuple_packable ss k (a.0 k), λ k. tuple_packable us k (a.1 k))
    compared_pack (e_records {fs = fs} {gs = gs} h) = let a = fields_compared_pack h in (λ k. record_packable fs k (a.0 k), λ k. record_packable gs k (a.1 k))

    all_compared_pack : {ss ts : Knowns} {n m : ℕ} {bs : Bindings} {u : Atom} → All_equal at ss ts n bs u m → All_both_packable (listed ss) (listed ts)
    all_compared_pack e_none = (λ k. (k, [], [], p_none), λ k. (k, [], [], p_none))
    all_compared_pack (e_more {s = s} {t = t} {ss = ss} {ts = ts} h hs le) = let a = compared_pack h in let b = all_compared_pack hs in (λ k. more_packable s (listed ss) k (a.0 k) b.0, λ k. more_packable t (listed ts) k (a.1 k) b.1)

    fields_compared_pack : {fs gs : Known_fields} {n m : ℕ} {bs : Bindings} {u : Atom} → Fields_equal at fs gs n bs u m → All_both_packable (field_knowns fs) (field_knowns gs)
    fields_compared_pack e_no_field = (λ k. (k, [], [], p_none), λ k. (k, [], [], p_none))
    fields_compared_pack (e_field {s = s} {t = t} {fs = fs} {gs = gs} q h hs le) = let a = compared_pack h in let b = fields_compared_pack hs in (λ k. more_packable s (field_knowns fs) k (a.0 k) b.0, λ k. more_packable t (field_knowns gs) k (a.1 k) b.1)

  -- what is not packed is not compared
  pub whole_uncompared : (s t : Known) → Not_all_packed (s ∷ t ∷ []) → Not_compared at s t
  whole_uncompared s t lacks n n' bs u e = let a = compared_pack e in never (more_packable s (t ∷ []) 0 (a.0 0) (λ k. more_packable t [] k (a.1 k) (λ m. (m, [], [], p_none))))
    where
      never : All_packable (s ∷ t ∷ []) 0 → ⊥
      never (m, cs, us, p) = lacks 0 m cs us p

  -- and what is packed is compared
  abbrev Comparable : Known → Known → ℕ → Type 0
  Comparable s t k = (m : ℕ) × (bs : Bindings) × (u : Atom) × Equals at s t k bs u m

  abbrev All_comparable : List Known → List Known → ℕ → Type 0
  All_comparable ss ts k = (m : ℕ) × (bs : Bindings) × (u : Atom) × All_equal at (knowns ss) (knowns ts) k bs u m

  pair_compares : (s t : Known) (k : ℕ) → Packable s k → ((m : ℕ) → Packable t m) → Comparable s t k
  pair_compares s t k (m, bs, u, p) all = both (all m)
    where
      both : Packable t m → Comparable s t k
      both (m', cs, w, q) = (suc m', (bs ++ (cs ++ [])) ++ step (m' ∷ []) (Operate (operation.Binary binary.Eq at u w)), atom.Name m', e_packed (p_more p (p_more q p_none)) (le_refl m'))

  more_compares : (s t : Known) (ss ts : List Known) (k : ℕ) → Comparable s t k → ((m : ℕ) → All_comparable ss ts m) → All_comparable (s ∷ ss) (t ∷ ts) k
  more_compares s t ss ts k (m, bs, u, p) all = rest (all m)
    where
      rest : All_comparable ss ts m → All_comparable (s ∷ ss) (t ∷ ts) k
      rest (m', cs, w, q) = (suc m', bs ++ (cs ++ step (m' ∷ []) (both_hold u w)), atom.Name m', e_more p q (le_refl m'))

  packed_compare : {ss ts : List Known} {n m n' m' : ℕ} {bs cs : Bindings} {us ws : List Atom} → length ss ≡ length ts → Packs_all ss n bs us m → Packs_all ts n' cs ws m' → (k : ℕ) → All_comparable ss ts k
  packed_compare e p_none p_none k = (k, [], atom.Constant (scalar.Bool true), e_none)
  packed_compare e p_none (p_more {ss = ts} q qs) k = absurd (let z : 0 ≡ suc (length ts) = e in cc)
  packed_compare e (p_more {ss = ss} r rs) p_none k = absurd (let z : suc (length ss) ≡ 0 = e in cc)
  packed_compare e (p_more {s = s} {ss = ss} r rs) (p_more {s = t} {ss = ts} q qs) k = more_compares s t ss ts k (pair_compares s t k (packs_again r k) (packs_again q)) (packed_compare (let z : suc (length ss) ≡ suc (length ts) = e in cc) rs qs)

  -- parts that are not compared
  never_compared : (ss ts : List Known) → Not_all_compared at (knowns ss) (knowns ts) → All_comparable ss ts 0 → ⊥
  never_compared ss ts lacks (m, bs, u, h) = lacks 0 m bs u h

  pub parts_uncompared : (ss ts : List Known) → length ss ≡ length ts → Not_all_compared at (knowns ss) (knowns ts) → Not_compared at (Tuple_known (knowns ss)) (Tuple_known (knowns ts))
  parts_uncompared ss ts e lacks n n' bs u (e_tuples h) = lacks n n' bs u h
  parts_uncompared ss ts e lacks n _ _ _ (e_packed (p_more (p_tuple r le') (p_more (p_tuple q le'') p_none)) le) = never_compared ss ts lacks (packed_compare e (as_listed ss r) (as_listed ts q) 0)
    where
      as_listed : (xs : List Known) {n m : ℕ} {bs : Bindings} {us : List Atom} → Packs_all (listed (knowns xs)) n bs us m → Packs_all xs n bs us m
      as_listed xs {n} {m} {bs} {us} h = subst (λ z. Packs_all z n bs us m) (listed_knowns xs) h

  pub fields_uncompared : (fs gs : Known_fields) → length (field_knowns fs) ≡ length (field_knowns gs) → ((n n' : ℕ) (bs : Bindings) (u : Atom) → Fields_equal at fs gs n bs u n' → ⊥) → Not_all_compared at (knowns (field_knowns fs)) (knowns (field_knowns gs)) → Not_compared at (Record_known fs) (Record_known gs)
  fields_uncompared fs gs e never lacks n n' bs u (e_records h) = never n n' bs u h
  fields_uncompared fs gs e never lacks n _ _ _ (e_packed (p_more (p_record r le') (p_more (p_record q le'') p_none)) le) = never_compared (field_knowns fs) (field_knowns gs) lacks (packed_compare e r q 0)

  first_uncompared : (s t : Known) (ss ts : Knowns) → Not_compared at s t → Not_all_compared at (known_and s ss) (known_and t ts)
  first_uncompared s t ss ts lacks n _ _ _ (e_more {n1 = n1} {bs = bs} {u = u} e es le) = lacks n n1 bs u e

  rest_uncompared : (s t : Known) (ss ts : Knowns) → Not_all_compared at ss ts → Not_all_compared at (known_and s ss) (known_and t ts)
  rest_uncompared s t ss ts lacks n _ _ _ (e_more {n1 = n1} {n2 = n2} {cs = cs} {w = w} e es le) = lacks n1 n2 cs w es

  -- ---- parts, one after the other

  -- there are not as many on both sides
  pub many_uncompared : (ss ts : List Held_known) → (length ss ≡ length ts → ⊥) → Not_all_compared at (knowns (map known_of ss)) (knowns (map known_of ts))
  many_uncompared [] [] e n n' bs u x = e refl
  many_uncompared [] (t ∷ ts) e n n' bs u x = elim x [ ]
  many_uncompared (s ∷ ss) [] e n n' bs u x = elim x [ ]
  many_uncompared (s ∷ ss) (t ∷ ts) e n n' bs u x = rest_uncompared (known_of s) (known_of t) (knowns (map known_of ss)) (knowns (map known_of ts)) (many_uncompared ss ts (λ q. e (ap suc q))) n n' bs u x

  pub part_uncompared : {X : Type 0} (f : X → Known) (ss ts : List X) (i : ℕ) (s t : X) → i < length ss → i < length ts → Not_compared at (f (get_or ss i s)) (f (get_or ts i t)) → Not_all_compared at (knowns (map f ss)) (knowns (map f ts))
  part_uncompared f [] ts i s t lt lt' lacks = absurd (let z : i < 0 = lt in omega (arith, z))
  part_uncompared f (x ∷ ss) [] i s t lt lt' lacks = absurd (let z : i < 0 = lt' in omega (arith, z))
  part_uncompared f (x ∷ ss) (y ∷ ts) zero s t lt lt' lacks = first_uncompared (f x) (f y) (knowns (map f ss)) (knowns (map f ts)) lacks
  part_uncompared f (x ∷ ss) (y ∷ ts) (suc i) s t lt lt' lacks = rest_uncompared (f x) (f y) (knowns (map f ss)) (knowns (map f ts)) (part_uncompared f ss ts i s t (omega (arith, lt)) (omega (arith, lt')) lacks)

-- ---- operations

no_making : {k : Making} → None ≡ Some k → ⊥
no_making {k} q = let z : None ≡ Some k = q in cc

module _ (t : IntType) (at : Place) where
  pub integer_lacks : (m : ℕ) (suffix : Option IntType) (ss : List Known) → (ss ≡ [] → ⊥) → No_operation t (Integer m suffix) at ss
  integer_lacks m suffix _ lacks row test n _ _ _ (o_integer e) = lacks refl
  integer_lacks m suffix _ lacks row test n _ _ _ (o_made q r le) = no_making q

  pub truth_lacks : (b : Bool) (ss : List Known) → (ss ≡ [] → ⊥) → No_operation t (Truth b) at ss
  truth_lacks b _ lacks row test n _ _ _ o_truth = lacks refl
  truth_lacks b _ lacks row test n _ _ _ (o_made q r le) = no_making q

  pub record_lacks : (names : List Text) (ss : List Known) → named_values names ss ≡ None → No_operation t (Record_of names) at ss
  record_lacks names ss e row test n _ _ _ (o_record {known = known} f) = let z : None ≡ Some known = sym e ∙ f in cc
  record_lacks names ss e row test n _ _ _ (o_made q r le) = no_making q

  pub project_lacks : (f : Text) (s : Known) → part f s ≡ None → No_scalar s → No_operation t (Project f) at (s ∷ [])
  project_lacks f s e c row test n _ _ r (o_project g) = let z : None ≡ Some r = sym e ∙ g in cc
  project_lacks f _ e c row test n _ _ _ (o_part {u = u} le) = c u refl
  project_lacks f s e c row test n _ _ _ (o_made q r le) = no_making q

  pub project_one : (f : Text) (ss : List Known) → Not_one ss → No_operation t (Project f) at ss
  project_one f _ lacks row test n _ _ _ (o_project {s = s} g) = lacks s refl
  project_one f _ lacks row test n _ _ _ (o_part {u = u} le) = lacks (Scalar_known u) refl
  project_one f ss lacks row test n _ _ _ (o_made q r le) = no_making q

  pub replace_two : (f : Text) (ss : List Known) → length ss ≢ 2 → No_operation t (Replace f) at ss
  replace_two f _ ne row test n _ _ _ o_replace = ne refl
  replace_two f _ ne row test n _ _ _ (o_changed p le) = ne refl
  replace_two f _ ne row test n _ _ _ (o_made q r le) = no_making q

  pub replace_lacks : (f : Text) (u s : Known) → No_record u → No_scalar u → No_operation t (Replace f) at (u ∷ s ∷ [])
  replace_lacks f _ s lacks c row test n _ _ _ (o_replace {fs = fs}) = lacks fs refl
  replace_lacks f _ s lacks c row test n _ _ _ (o_changed {u = w} p le) = c w refl
  replace_lacks f u s lacks c row test n _ _ _ (o_made q r le) = no_making q

  pub changed_lacks : (f : Text) (u : Atom) (s : Known) → Not_packed s → No_operation t (Replace f) at (Scalar_known u ∷ s ∷ [])
  changed_lacks f u s lacks row test n _ _ _ (o_changed {m = m} {w = w} {bs = bs} p le) = lacks n m bs w p
  changed_lacks f u s lacks row test n _ _ _ (o_made q r le) = no_making q

  pub negate_lacks : (ss : List Known) → Not_one_scalar ss → No_operation t Negate at ss
  negate_lacks _ lacks row test n _ _ _ (o_negate {u = u} le) = lacks u refl
  negate_lacks _ lacks row test n _ _ _ (o_made q r le) = no_making q

  pub complement_lacks : (ss : List Known) → Not_one_scalar ss → No_operation t Complement at ss
  complement_lacks _ lacks row test n _ _ _ (o_complement {u = u} le) = lacks u refl
  complement_lacks _ lacks row test n _ _ _ (o_made q r le) = no_making q

  pub ascribe_lacks : (u : FlatType) (ss : List Known) → Not_one ss → No_operation t (Ascribe u) at ss
  ascribe_lacks u _ lacks row test n _ _ _ (o_ascribe {s = s}) = lacks s refl
  ascribe_lacks u _ lacks row test n _ _ _ (o_made q r le) = no_making q

  pub coerce_lacks : (u : FlatType) (ss : List Known) → Not_one ss → No_operation t (Coerce u) at ss
  coerce_lacks u _ lacks row test n _ _ _ (o_coerce {s = s}) = lacks s refl
  coerce_lacks u _ lacks row test n _ _ _ (o_made q r le) = no_making q

  pub declared_lacks : (u : FlatType) (ss : List Known) → Not_one ss → No_operation t (Declared u) at ss
  declared_lacks u _ lacks row test n _ _ _ (o_declared {s = s}) = lacks s refl
  declared_lacks u _ lacks row test n _ _ _ (o_made q r le) = no_making q

  pub assert_one : (ss : List Known) → length ss ≢ 1 → No_operation t Assert at ss
  assert_one _ ne row test n _ _ _ o_assert = ne refl
  assert_one _ ne row test n _ _ _ (o_made q r le) = no_making q

  pub assert_lacks : (s : Known) → No_scalar s → No_operation t Assert at (s ∷ [])
  assert_lacks _ lacks row test n _ _ _ (o_assert {u = u}) = lacks u refl
  assert_lacks _ lacks row test n _ _ _ (o_made q r le) = no_making q

  -- what is made of data that is not packed
  pub array_lacks : (ss : List Known) → Not_all_packed ss → No_operation t Array_of at ss
  array_lacks ss lacks row test n _ _ _ (o_made {m = m} {bs = bs} {us = us} q r le) = lacks n m bs us r

  pub index_lacks : (ps : List Part) (ss : List Known) → Not_all_packed ss → No_operation t (Index ps) at ss
  index_lacks ps ss lacks row test n _ _ _ (o_made {m = m} {bs = bs} {us = us} q r le) = lacks n m bs us r

  pub update_lacks : (ss : List Known) → Not_all_packed ss → No_operation t Update at ss
  update_lacks ss lacks row test n _ _ _ (o_made {m = m} {bs = bs} {us = us} q r le) = lacks n m bs us r

  pub range_lacks : (stepped : Bool) (end : End) (ss : List Known) → Not_all_packed ss → No_operation t (Range stepped end) at ss
  range_lacks stepped end ss lacks row test n _ _ _ (o_made {m = m} {bs = bs} {us = us} q r le) = lacks n m bs us r

  -- other operations than comparisons
  pub binary_lacks : (o : BinOp) (ss : List Known) → o ≢ binary.Eq → o ≢ binary.Ne → Not_two_scalars ss → No_operation t (Binary o) at ss
  binary_lacks o _ ne ne' lacks row test n _ _ _ (o_binary {u = u} {w = w} le) = lacks u w refl
  binary_lacks _ _ ne ne' lacks row test n _ _ _ (o_equal e) = ne refl
  binary_lacks _ _ ne ne' lacks row test n _ _ _ (o_unequal e le) = ne' refl
  binary_lacks o _ ne ne' lacks row test n _ _ _ (o_made q r le) = no_making q

  pub equal_lacks : (ss : List Known) → Not_both_compared at ss → No_operation t (Binary binary.Eq) at ss
  equal_lacks _ lacks row test n _ _ _ (o_binary {u = u} {w = w} le) = lacks (Scalar_known u) (Scalar_known w) refl n _ _ _ (e_scalars le)
  equal_lacks _ lacks row test n n' bs _ (o_equal {s = s} {s' = r} {u = u} e) = lacks s r refl n n' bs u e
  equal_lacks _ lacks row test n _ _ _ (o_made q r le) = no_making q

  pub unequal_lacks : (ss : List Known) → Not_both_compared at ss → No_operation t (Binary binary.Ne) at ss
  unequal_lacks _ lacks row test n _ _ _ (o_binary {u = u} {w = w} le) = lacks (Scalar_known u) (Scalar_known w) refl n _ _ _ (e_scalars le)
  unequal_lacks _ lacks row test n _ _ _ (o_unequal {n' = n'} {s = s} {s' = r} {bs = bs} {u = u} e le) = lacks s r refl n n' bs u e
  unequal_lacks _ lacks row test n _ _ _ (o_made q r le) = no_making q

-- ---- primitives
module _ (at : Place) where
  pub convert_lacks : (to from : ScalarType) (ss : List Known) → Not_one_scalar ss → No_primitive (prim.Convert to from) at ss
  convert_lacks to from _ lacks n _ _ _ (p_convert {u = u} le) = lacks u refl

  pub min_lacks : (t : IntType) (ss : List Known) → Not_two_scalars ss → No_primitive (prim.Min t) at ss
  min_lacks t _ lacks n _ _ _ (p_min {u = u} {w = w} le) = lacks u w refl

  pub max_lacks : (t : IntType) (ss : List Known) → Not_two_scalars ss → No_primitive (prim.Max t) at ss
  max_lacks t _ lacks n _ _ _ (p_max {u = u} {w = w} le) = lacks u w refl

  pub abs_lacks : (t : IntType) (ss : List Known) → Not_one_scalar ss → No_primitive (prim.Abs t) at ss
  abs_lacks t _ lacks n _ _ _ (p_abs {u = u} le) = lacks u refl

  pub popc_lacks : (t : IntType) (ss : List Known) → Not_one_scalar ss → No_primitive (prim.Popc t) at ss
  popc_lacks t _ lacks n _ _ _ (p_popc {u = u} le) = lacks u refl

  -- the others are not unfolded
  pub other_lacks : (p : Primitive) (ss : List Known) → ((to from : ScalarType) → p ≢ prim.Convert to from) → ((t : IntType) → p ≢ prim.Min t) → ((t : IntType) → p ≢ prim.Max t) → ((t : IntType) → p ≢ prim.Abs t) → ((t : IntType) → p ≢ prim.Popc t) → No_primitive p at ss
  other_lacks _ _ c i a b o n _ _ _ (p_convert {to = to} {from = from} le) = c to from refl
  other_lacks _ _ c i a b o n _ _ _ (p_min {t = t} le) = i t refl
  other_lacks _ _ c i a b o n _ _ _ (p_max {t = t} le) = a t refl
  other_lacks _ _ c i a b o n _ _ _ (p_abs {t = t} le) = b t refl
  other_lacks _ _ c i a b o n _ _ _ (p_popc {t = t} le) = o t refl
