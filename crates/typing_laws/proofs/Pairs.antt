-- What rules say of two rows of types they say of the types that are lifted from them.
use Rattle.std.proofs.Common.{◌≡◌, ℕ, ◌+◌, ◌≤◌, refl, sym, ◌∙◌, ap, subst, true, false, List, [], ◌∷◌, Some, None}
use Rattle.fut_scalar.specs.declared.place.BindId.{BindId}
use Rattle.fut_scalar.specs.declared.operator.BinOp.{BinOp}
use Rattle.fut_scalar.specs.declared.operator.BinOp.TheVariants as op
use Rattle.fut_ast.specs.Sorts.{Text}
use Rattle.fut_flat.specs.declared.act.Part.{Part}
use Rattle.fut_flat.specs.declared.act.Part.TheVariants as part
use Rattle.fut_flat.specs.declared.prim.Primitive.{Primitive as Prim}
use Rattle.fut_flat.specs.declared.prim.Folding.TheVariants as folding
use Rattle.fut_flat.specs.declared.prim.Primitive.TheVariants as prim
use Rattle.fut_flat.specs.declared.prim.Ref.{Ref}
use Rattle.fut_flat.specs.Terms.{Patterns, no_pattern, pattern_and, Parameter, Operation, Integer, Truth, Tuple_of, Record_of, Array_of, Binary, Negate, Complement, Index, Project, Update, Replace, Ascribe, Coerce, Declared, Assert, Range, Terms, no_term, term_and}
use Rattle.fut_flat.specs.Numbers.{pattern_numbers, numbers}
use Rattle.fut_types.specs.declared.Kind.{Kind}
use Rattle.fut_types.specs.declared.Kind.TheVariants as kind
use Rattle.fut_types.specs.declared.Head.TheVariants as head
use Rattle.fut_types.specs.Types.{Ty, Made, Tys, none, more, Sub, Kinds, HasKind, fun_ty, applied}
use Rattle.fut_typing.specs.Names.{Names, count, Parts_named, IsRecord}
use Rattle.fut_typing.specs.Primitives.{i64_ty, prim_type}
use Rattle.fut_typing.specs.Scopes.{IsArray}
use Rattle.fut_typing.specs.Rules.{Operator, All_are, Indexed, Updated, Rule, left_of}
use Rattle.fut_typing.specs.Patterns.{pattern_types, arrows}
use Rattle.fut_typing.specs.Typing.{term_types}
use Rattle.fut_typing.proofs.Instances.{parameter_limit}
use Rattle.typing_laws.proofs.Lifted.{against, lifted_kind, lifted_part}
unfoldable use Rattle.typing_laws.proofs.Lifted.{lifted, all_lifted}

module _ (N : Names) (places : Kind) (ps : List (Parameter BindId)) (c : Sub) (F0 G : ℕ) (over : F0 ≤ G) (wide : parameter_limit ps ≤ G) where
  abbrev pub lift : Ty → Ty → Ty
  lift = lifted N.shapes places ps c F0 G over wide

  abbrev pub lift_all : Tys → Tys → Tys
  lift_all = all_lifted N.shapes places ps c F0 G over wide

  -- the types of all numbers
  abbrev pub two : Sub → Sub → Sub
  two a b n = lift (a n) (b n)

  pub pair : (t u t' u' : Ty) → t ≡ u → t' ≡ u' → lift t t' ≡ lift u u'
  pair t u t' u' e e' = λ i. lift (e i) (e' i)

  lift_count : (ts us : Tys) → count (lift_all ts us) ≡ count us
  unfolding lifted
  lift_count ts none = refl
  lift_count none (more u us) = ap (λ n. 1 + n) (lift_count none us)
  lift_count (more t ts) (more u us) = ap (λ n. 1 + n) (lift_count ts us)

  pub lift_prim : (g g' : Sub) (p : Prim) → lift (applied g (prim_type p)) (applied g' (prim_type p)) ≡ applied (two g g') (prim_type p)
  unfolding lifted applied
  lift_prim g g' prim.Map = refl
  lift_prim g g' prim.Map2 = refl
  lift_prim g g' prim.Map3 = refl
  lift_prim g g' prim.Map4 = refl
  lift_prim g g' prim.Map5 = refl
  lift_prim g g' prim.Reduce = refl
  lift_prim g g' prim.ReduceComm = refl
  lift_prim g g' prim.Scan = refl
  lift_prim g g' prim.Filter = refl
  lift_prim g g' prim.Partition = refl
  lift_prim g g' prim.Scatter = refl
  lift_prim g g' prim.ReduceByIndex = refl
  lift_prim g g' prim.Zip = refl
  lift_prim g g' prim.Zip3 = refl
  lift_prim g g' prim.Unzip = refl
  lift_prim g g' prim.Unzip3 = refl
  lift_prim g g' prim.Iota = refl
  lift_prim g g' prim.Replicate = refl
  lift_prim g g' prim.Tabulate = refl
  lift_prim g g' prim.Indices = refl
  lift_prim g g' prim.Length = refl
  lift_prim g g' prim.Null = refl
  lift_prim g g' prim.Head = refl
  lift_prim g g' prim.Last = refl
  lift_prim g g' prim.Init = refl
  lift_prim g g' prim.Tail = refl
  lift_prim g g' prim.Take = refl
  lift_prim g g' prim.Drop = refl
  lift_prim g g' prim.Reverse = refl
  lift_prim g g' prim.Rotate = refl
  lift_prim g g' prim.Concat = refl
  lift_prim g g' prim.Flatten = refl
  lift_prim g g' prim.Unflatten = refl
  lift_prim g g' prim.Transpose = refl
  lift_prim g g' prim.Copy = refl
  lift_prim g g' (prim.Convert to from) = refl
  lift_prim g g' (prim.Min t) = refl
  lift_prim g g' (prim.Max t) = refl
  lift_prim g g' (prim.Abs t) = refl
  lift_prim g g' (prim.Popc t) = refl
  lift_prim g g' (prim.Lowest t) = refl
  lift_prim g g' (prim.Highest t) = refl
  lift_prim g g' (prim.NumBits t) = refl
  lift_prim g g' (prim.Fold folding.Sum t) = refl
  lift_prim g g' (prim.Fold folding.Product t) = refl
  lift_prim g g' (prim.Fold folding.Minimum t) = refl
  lift_prim g g' (prim.Fold folding.Maximum t) = refl

  module _ (a b : Sub) where
    pub lift_terms : (ts : Terms Ref BindId) (lo : ℕ) → term_types (two a b) ts lo ≡ lift_all (term_types a ts lo) (term_types b ts lo)
    unfolding lifted
    lift_terms no_term lo = refl
    lift_terms (term_and t ts) lo = ap (more (lift (a lo) (b lo))) (lift_terms ts (lo + numbers t))

    pub lift_patterns : (qs : Patterns Ref BindId) (lo : ℕ) → pattern_types (two a b) qs lo ≡ lift_all (pattern_types a qs lo) (pattern_types b qs lo)
    unfolding lifted
    lift_patterns no_pattern lo = refl
    lift_patterns (pattern_and p qs) lo = ap (more (lift (a lo) (b lo))) (lift_patterns qs (lo + pattern_numbers p))

    pub lift_arrows : (qs : Patterns Ref BindId) (lo : ℕ) (t t' : Ty) → lift (arrows (pattern_types a qs lo) t) (arrows (pattern_types b qs lo) t') ≡ arrows (pattern_types (two a b) qs lo) (lift t t')
    unfolding lifted
    lift_arrows no_pattern lo t t' = refl
    lift_arrows (pattern_and p qs) lo t t' = ap (fun_ty (lift (a lo) (b lo))) (lift_arrows qs (lo + pattern_numbers p) t t')

    count_same : (ts : Terms Ref BindId) (lo : ℕ) → count (term_types (two a b) ts lo) ≡ count (term_types a ts lo)
    count_same no_term lo = refl
    count_same (term_and t ts) lo = ap (λ n. 1 + n) (count_same ts (lo + numbers t))

    lift_all_are : (x x' : Ty) (ts : Terms Ref BindId) (lo : ℕ) → All_are x (term_types a ts lo) → All_are x' (term_types b ts lo) → All_are (lift x x') (term_types (two a b) ts lo)
    lift_all_are x x' no_term lo h h' = tt
    lift_all_are x x' (term_and t ts) lo h h' = (pair (a lo) x (b lo) x' h.0 h'.0, lift_all_are x x' ts (lo + numbers t) h.1 h'.1)

  module _ (K : Kinds) where
    pub lift_kind : (k : Kind) (t t' : Ty) → HasKind K k t → HasKind K k t' → HasKind K k (lift t t')
    lift_kind k t t' h h' = lifted_kind N.shapes places ps c F0 G over wide K k t t' h h'

    pub lift_array : (t e t' e' : Ty) → IsArray places K t e → IsArray places K t' e' → IsArray places K (lift t t') (lift e e')
    unfolding lifted
    lift_array t e t' e' h h' = (pair t _ t' _ h.0 h'.0, lift_kind places e e' h.1 h'.1)

    lift_operator : (o : BinOp) (t u t' u' : Ty) → Operator o K t u → Operator o K t' u' → Operator o K (lift t t') (lift u u')
    unfolding lifted
    lift_operator op.Eq t u t' u' h h' = (pair t _ t' _ h.0 h'.0, lift_kind kind.Equal u u' h.1 h'.1)
    lift_operator op.Ne t u t' u' h h' = (pair t _ t' _ h.0 h'.0, lift_kind kind.Equal u u' h.1 h'.1)
    lift_operator op.Lt t u t' u' h h' = (pair t _ t' _ h.0 h'.0, lift_kind kind.Integer u u' h.1 h'.1)
    lift_operator op.Le t u t' u' h h' = (pair t _ t' _ h.0 h'.0, lift_kind kind.Integer u u' h.1 h'.1)
    lift_operator op.Gt t u t' u' h h' = (pair t _ t' _ h.0 h'.0, lift_kind kind.Integer u u' h.1 h'.1)
    lift_operator op.Ge t u t' u' h h' = (pair t _ t' _ h.0 h'.0, lift_kind kind.Integer u u' h.1 h'.1)
    lift_operator o t u t' u' h h' = (pair t _ t' _ h.0 h'.0, lift_kind kind.Integer u u' h.1 h'.1)

    lift_left : (p : Part) (u u' : Ty) → lift (left_of p u) (left_of p u') ≡ left_of p (lift u u')
    unfolding lifted
    lift_left part.At u u' = refl
    lift_left (part.Slice from to) u u' = refl
    lift_left part.Backwards u u' = refl

    lift_indexed : (is : List Part) (x t x' t' : Ty) → Indexed N places K is x t → Indexed N places K is x' t' → Indexed N places K is (lift x x') (lift t t')
    lift_indexed [] x t x' t' h h' = pair t x t' x' h h'
    lift_indexed (p ∷ is) x t x' t' h h' = (lift h.0 h'.0, lift h.1 h'.1, lift_array x h.0 x' h'.0 h.2 h'.2, lift_indexed is h.0 h.1 h'.0 h'.1 h.3 h'.3, pair t _ t' _ h.4 h'.4 ∙ lift_left p h.1 h'.1)

    module _ (one_label : (l l' i : ℕ) → N.shapes.position l ≡ Some i → N.shapes.position l' ≡ Some i → l ≡ l') where
      lift_named : (fs : List Text) (t t' : Ty) (us us' : Tys) → Parts_named N fs t us → Parts_named N fs t' us' → Parts_named N fs (lift t t') (lift_all us us')
      unfolding lifted
      lift_named [] t t' us none h h' = tt
      lift_named [] t t' us (more v vs) h h' = absurd h'
      lift_named (f ∷ fs) t t' us none h h' = absurd h'
      lift_named (f ∷ fs) t t' none (more v vs) h h' = absurd h
      lift_named (f ∷ fs) t t' (more u us) (more v vs) h h' = (lifted_part N.shapes places ps c F0 G over wide one_label (N.label f) t u t' v h.0 h'.0, lift_named fs t t' us vs h.1 h'.1)

      pub lift_record : (fs : List Text) (t t' : Ty) (us us' : Tys) → IsRecord N fs t us → IsRecord N fs t' us' → IsRecord N fs (lift t t') (lift_all us us')
      unfolding lifted
      lift_record fs t t' us us' r r' = let ts : Tys = against N.shapes places ps c F0 G over wide (head.Record r'.number) (Made (head.Record r.number) r.parts) r'.parts in record {
        once = r'.once;
        number = r'.number;
        parts = lift_all ts r'.parts;
        made = pair t (Made (head.Record r.number) r.parts) t' (Made (head.Record r'.number) r'.parts) r.made r'.made;
        fields = r'.fields;
        all = lift_count ts r'.parts ∙ r'.all;
        named = lift_named fs t t' us us' r.named r'.named;
      }

      module _ (a b : Sub) where
        lift_updated : (x x' : Ty) (ts : Terms Ref BindId) (lo : ℕ) → Updated N places K x (term_types a ts lo) → Updated N places K x' (term_types b ts lo) → Updated N places K (lift x x') (term_types (two a b) ts lo)
        unfolding lifted
        lift_updated x x' no_term lo h h' = h
        lift_updated x x' (term_and v no_term) lo h h' = pair (a lo) x (b lo) x' h h'
        lift_updated x x' (term_and i (term_and v vs)) lo h h' = (pair (a lo) i64_ty (b lo) i64_ty h.0 h'.0, (lift h.1.0 h'.1.0, lift_array x h.1.0 x' h'.1.0 h.1.1 h'.1.1, lift_updated h.1.0 h'.1.0 (term_and v vs) (lo + numbers i) h.1.2 h'.1.2))

        pub lift_rule : (o : Operation Ref BindId) (ts : Terms Ref BindId) (lo : ℕ) (t u t' u' : Ty) → Rule N places K o t u (term_types a ts lo) → Rule N places K o t' u' (term_types b ts lo) → Rule N places K o (lift t t') (lift u u') (term_types (two a b) ts lo)
        unfolding lifted
        lift_rule (Integer n None) no_term lo t u t' u' h h' = lift_kind kind.Integer t t' h h'
        lift_rule (Integer n (Some i)) no_term lo t u t' u' h h' = pair t _ t' _ h h'
        lift_rule (Truth x) no_term lo t u t' u' h h' = pair t _ t' _ h h'
        lift_rule Tuple_of ts lo t u t' u' h h' = pair t _ t' _ h h' ∙ ap (Made head.Tuple) (sym (lift_terms a b ts lo))
        lift_rule (Record_of fs) ts lo t u t' u' h h' = subst (IsRecord N fs (lift t t')) (sym (lift_terms a b ts lo)) (lift_record fs t t' (term_types a ts lo) (term_types b ts lo) h h')
        lift_rule Array_of ts lo t u t' u' h h' = (lift h.0 h'.0, lift_array t h.0 t' h'.0 h.1 h'.1, lift_all_are a b h.0 h'.0 ts lo h.2 h'.2)
        lift_rule (Binary o) (term_and x (term_and y no_term)) lo t u t' u' h h' = (lift_operator o t u t' u' h.0 h'.0, pair _ u _ u' h.1 h'.1, pair _ u _ u' h.2 h'.2)
        lift_rule Negate (term_and x no_term) lo t u t' u' h h' = (pair t _ t' _ h.0 h'.0, lift_kind kind.Integer t t' h.1 h'.1)
        lift_rule Complement (term_and x no_term) lo t u t' u' h h' = (pair t _ t' _ h.0 h'.0, lift_kind kind.Scalar t t' h.1 h'.1)
        lift_rule (Index qs) (term_and x is) lo t u t' u' h h' = (lift_all_are a b i64_ty i64_ty is (lo + numbers x) h.0 h'.0, count_same a b is (lo + numbers x) ∙ h.1, lift_indexed qs (a lo) t (b lo) t' h.2 h'.2)
        lift_rule (Project f) (term_and x no_term) lo t u t' u' h h' = (pair _ u _ u' h.0 h'.0, lifted_part N.shapes places ps c F0 G over wide one_label (N.label f) u t u' t' h.1 h'.1)
        lift_rule Update (term_and x vs) lo t u t' u' h h' = (pair t _ t' _ h.0 h'.0, lift_updated (a lo) (b lo) vs (lo + numbers x) h.1 h'.1)
        lift_rule (Replace f) (term_and x (term_and v no_term)) lo t u t' u' h h' = (pair t _ t' _ h.0 h'.0, lifted_part N.shapes places ps c F0 G over wide one_label (N.label f) t _ t' _ h.1 h'.1)
        lift_rule (Ascribe e) (term_and x no_term) lo t u t' u' h h' = pair t _ t' _ h h'
        lift_rule (Coerce e) (term_and x no_term) lo t u t' u' h h' = pair t _ t' _ h h'
        lift_rule (Declared e) (term_and x no_term) lo t u t' u' h h' = pair t _ t' _ h h'
        lift_rule Assert (term_and x no_term) lo t u t' u' h h' = (pair _ _ _ _ h.0 h'.0, pair t _ t' _ h.1 h'.1)
        lift_rule (Range true end) (term_and x (term_and y (term_and z no_term))) lo t u t' u' h h' = (lift h.0 h'.0, lift_array t h.0 t' h'.0 h.1 h'.1, lift_kind kind.Integer h.0 h'.0 h.2 h'.2, lift_all_are a b h.0 h'.0 (term_and x (term_and y (term_and z no_term))) lo h.3 h'.3)
        lift_rule (Range false end) (term_and x (term_and z no_term)) lo t u t' u' h h' = (lift h.0 h'.0, lift_array t h.0 t' h'.0 h.1 h'.1, lift_kind kind.Integer h.0 h'.0 h.2 h'.2, lift_all_are a b h.0 h'.0 (term_and x (term_and z no_term)) lo h.3 h'.3)
        lift_rule o ts lo t u t' u' h h' = absurd h
