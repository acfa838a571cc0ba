-- What operations and loops do with their parts, by two numberings.
use Rattle.std.proofs.Common.{◌≡◌, ℕ, ◌+◌, true, false, cond, nat_eq, List, [], ◌∷◌, ◌++◌, Option, Some, None, refl, sym, ap, ◌∙◌, subst}
use Rattle.fut_ast.specs.Sorts.{Text}
use Rattle.fut_scalar.specs.declared.place.BindId.{BindId}
use Rattle.fut_scalar.specs.declared.place.Place.{Place}
use Rattle.fut_flat.specs.declared.prim.Ref.{Ref}
use Rattle.fut_flat.specs.declared.prim.Ref.TheVariants as ref
use Rattle.fut_flat.specs.Terms.{Bound_pattern, Wild_pattern, Tuple_pattern, Record_pattern, Typed_pattern, Patterns, no_pattern, pattern_and, Operation, Tuple_of, Record_of, Index, Project, Update, Replace, Ascribe, Coerce, Declared, Use, Strict, Lambda, Apply, Let, If, Loop, Terms, no_term, term_and, Counted, Over, While}
use Rattle.fut_flat.specs.Numbers.{pattern_numbers, numbers}
use Rattle.fut_flat.specs.Erased.{FlatTerm, FlatTurns, FlatPattern, FlatType}
use Rattle.fut_types.specs.declared.Head.TheVariants as head
use Rattle.fut_types.specs.Types.{Ty, Made, Sub, Kinds}
use Rattle.fut_typing.specs.Names.{Names, AreNames}
use Rattle.fut_aliases.specs.Aliases.{Set, Naming, union, shared}
use Rattle.fut_aliases.specs.Stars.{Stars, written_stars}
use Rattle.fut_aliases.specs.Values.{Value, Scalar, Parts, Values, value_and, of_type, aliases, part_named, with_part_named}
use Rattle.fut_aliases.specs.Steps.{give, consume, demand, some_alias}
use Rattle.fut_aliases.specs.declared.refusals.Broken.TheVariants.{ResultAliases}
use Rattle.fut_aliases.specs.declared.refusals.Named.{Named}
use Rattle.fut_aliases.specs.declared.refusals.Named.TheVariants.{ByAlias}
use Rattle.fut_aliases.specs.declared.refusals.Spot.TheVariants.{Mark}
use Rattle.fut_aliases.specs.declared.refusals.Spot.{Spot}
use Rattle.fut_aliases.specs.Patterns.{Scope}
use Rattle.fut_aliases.specs.Capturing.{Capture, Path, Names_of, captures, capture_of, field_capture, one_field, capture, all_captured, turns_captured}
use Rattle.fut_aliases.specs.Calls.{Here, Held, not_consumable, captured, settled}
use Rattle.fut_aliases.specs.Operations.{field_of, fields_of, record_of, row, first_value, last_value, array_name, shares_with, update, ascribe, without_part, of_parts, operation}
use Rattle.fut_aliases.specs.Loops.{own_names, all_own_names, fields_own_names, each_at, Labelled, at_label, in_order, starts, all_starts, fields_start}
use Rattle.sizing_laws.specs.Renumbering.{Same_names, Renumbers, renumbered_head, renamed_type}
use Rattle.sizing_laws.proofs.Written.{cond_through, label_same, same_label}
use Rattle.sizing_laws.proofs.Stars.{to_value, to_values, of_type_value, components_same, aliases_same, named_value, ascribed_value, part_named_value, with_part_named_value, written_same}
use Rattle.sizing_laws.proofs.AliasSteps.{AnswerR, gives, StepTo, then_same}
use Rattle.sizing_laws.proofs.Calling.{maybe_value, to_scope, to_held, to_helds, to_here, hungry_same, shared_same, settled_same}

module _ (number : ℕ → ℕ) where
  abbrev val : Value → Value
  val = to_value number

  row_to : (xs : List Held) → row (to_helds number xs) ≡ to_values number (row xs)
  row_to [] = refl
  row_to (a ∷ xs) = ap (value_and (val a.value)) (row_to xs)

  first_to : (xs : List Held) → first_value (to_helds number xs) ≡ val (first_value xs)
  first_to [] = refl
  first_to (a ∷ xs) = refl

  last_to : (xs : List Held) → last_value (to_helds number xs) ≡ val (last_value xs)
  last_to [] = refl
  last_to (a ∷ []) = refl
  last_to (a ∷ b ∷ xs) = last_to (b ∷ xs)

  abbrev told : Named → Named → Named
  told c (ByAlias b) = array_name c b
  told c n = n

  shares_as : (a : Held) (p : Spot) (s : Set) → shares_with a p s ≡ some_alias (λ n. ResultAliases (told a.called n) p) (shared (aliases a.value) s)
  shares_as a p s = refl

  shares_same : (a : Held) (p : Spot) (s : Set) → shares_with (to_held number a) p s ≡ shares_with a p s
  shares_same a p s = shares_as (to_held number a) p s ∙ (λ i. some_alias (λ n. ResultAliases (told a.called n) p) (shared (aliases_same number a.value i) s)) ∙ sym (shares_as a p s)

  update_to : (h : Here) (mark : Place) (a : Held) (xs : List Held) (new : Value) → StepTo val (update h mark a xs new) (update (to_here number h) mark (to_held number a) (to_helds number xs) (val new))
  update_to h mark a xs new ls =
      then_same (λ i. demand h.asked ((ap (shares_with (to_held number a) (Mark mark)) (ap aliases (last_to xs) ∙ aliases_same number (last_value xs)) ∙ shares_same a (Mark mark) (aliases (last_value xs))) i)) ls _ _ (λ z ls2.
      then_same (λ i. demand h.asked (not_consumable h (Mark mark) (aliases_same number a.value i))) ls2 _ _ (λ y ls3.
      then_same (λ i. demand h.asked (captured h (Mark mark) (aliases_same number a.value i))) ls3 _ _ (λ x ls4.
      then_same (settled_same number h (a ∷ xs)) ls4 _ _ (λ w ls5.
      then_same (λ i. consume (Mark mark) (aliases_same number a.value i)) ls5 (λ d. give new d.losses) (λ d. give (val new) d.losses) (λ v ls6. gives refl)))))

  pub ascribe_to : (h : Here) (u : Stars) (a : Held) → StepTo val (ascribe h u a) (ascribe (to_here number h) u (to_held number a))
  ascribe_to h u a ls =
      then_same (λ i. demand h.asked (hungry_same number u a i)) ls _ _ (λ z ls2.
      then_same (λ i. demand h.asked (shared_same number u a i)) ls2 _ _ (λ y ls3. gives (ascribed_value number u a.value)))

  -- ---- captures

  abbrev pub to_capture : Capture → Capture
  to_capture (Path v) = Path (val v)
  to_capture (Names_of s) = Names_of s

  pub captures_same : (c : Capture) → captures (to_capture c) ≡ captures c
  captures_same (Path v) = aliases_same number v
  captures_same (Names_of s) = refl

  capture_of_to : (o : Option Value) → capture_of (maybe_value number o) ≡ to_capture (capture_of o)
  capture_of_to (Some v) = refl
  capture_of_to None = refl

module _ (M N : Names) (m : AreNames M) (n : AreNames N) (number : ℕ → ℕ) (renumbers : Renumbers M N number) where
  abbrev go : Value → Value
  go = to_value number

  -- ---- records

  field_to : (k l : ℕ) → ((t : Text) × (k ≡ M.label t) × (l ≡ N.label t)) → (fs : List Text) (xs : List Held) → field_of N l fs (to_helds number xs) ≡ go (field_of M k fs xs)
  field_to k l h (f ∷ fs) (a ∷ xs) = (λ i. cond (label_same M N m n number renumbers f k l h i) (go a.value) (field_to k l h fs xs i)) ∙ cond_through go (nat_eq (M.label f) k) a.value (field_of M k fs xs)
  field_to k l h (f ∷ fs) [] = refl
  field_to k l h [] xs = refl

  fields_to : (ks ls : List ℕ) → Same_names M N ks ls → (fs : List Text) (xs : List Held) → fields_of N ls fs (to_helds number xs) ≡ to_values number (fields_of M ks fs xs)
  fields_to [] [] h fs xs = refl
  fields_to (k ∷ ks) (l ∷ ls) h fs xs = λ i. value_and (field_to k l h.0 fs xs i) (fields_to ks ls h.1 fs xs i)
  fields_to (k ∷ ks) [] h fs xs = absurd h
  fields_to [] (l ∷ ls) h fs xs = absurd h

  record_to : (variable : ℕ → ℕ) (fs : List Text) (t : Ty) (xs : List Held) → record_of N fs (renamed_type number variable t) (to_helds number xs) ≡ go (record_of M fs t xs)
  record_to variable fs (Made (head.Record r) ts) xs = ap (Parts (head.Record (number r))) (fields_to (M.shapes.fields r) (N.shapes.fields (number r)) (renumbers r) fs xs)
  record_to variable fs t xs = refl

  without_to : (f : Text) (a : Held) → without_part N f (to_held number a) ≡ to_held number (without_part M f a)
  without_to f a = λ i. record { node = a.node; called = a.called; first_name = a.first_name; value = with_part_named_value M N m n number renumbers f Scalar a.value i; losses = a.losses }

  -- ---- operations

  module _ (variable : ℕ → ℕ) (K : Kinds) (keeps : (v : ℕ) → K (variable v) ≡ K v) (types others : Sub) (k : ℕ) (is : others k ≡ renamed_type number variable (types k)) (h : Here) where
    parts_to : (xs ys : List Held) → ys ≡ to_helds number xs → (v w : Value) → w ≡ go v → StepTo go (of_parts M K types h xs v) (of_parts N K others (to_here number h) ys w)
    parts_to xs ys g v w e ls = then_same (ap (settled (to_here number h)) g ∙ settled_same number h xs) ls _ _ (λ z ls2. gives e)

    ascribed_as : (e : FlatType) (a : Held) → StepTo go (ascribe h (written_stars M false e (types k)) a) (ascribe (to_here number h) (written_stars N false e (others k)) (to_held number a))
    ascribed_as e a ls = subst (λ u. AnswerR (λ (x : Value) (y : Value). y ≡ go x) (ascribe h (written_stars M false e (types k)) a ls) (ascribe (to_here number h) u (to_held number a) ls)) (sym (ap (written_stars N false e) is ∙ written_same M N m n number renumbers variable false e (types k))) (ascribe_to number h (written_stars M false e (types k)) a ls)

    value_here : (s : Set) → of_type K s (others k) ≡ go (of_type K s (types k))
    value_here s = ap (of_type K s) is ∙ of_type_value number variable K keeps s (types k)

    pub operation_to : (o : Operation Ref BindId) (mark : Place) (xs : List Held) → StepTo go (operation M K types h o k mark xs) (operation N K others (to_here number h) o k mark (to_helds number xs))
    operation_to Tuple_of mark xs ls = parts_to xs (to_helds number xs) refl (Parts head.Tuple (row xs)) (Parts head.Tuple (row (to_helds number xs))) (ap (Parts head.Tuple) (row_to number xs)) ls
    operation_to (Record_of fs) mark xs ls = parts_to xs (to_helds number xs) refl (record_of M fs (types k) xs) (record_of N fs (others k) (to_helds number xs)) (ap (λ t. record_of N fs t (to_helds number xs)) is ∙ record_to variable fs (types k) xs) ls
    operation_to (Index is) mark xs ls = parts_to xs (to_helds number xs) refl (of_type K (aliases (first_value xs)) (types k)) (of_type K (aliases (first_value (to_helds number xs))) (others k))
        ((λ i. of_type K ((ap aliases (first_to number xs) ∙ aliases_same number (first_value xs)) i) (others k)) ∙ value_here (aliases (first_value xs))) ls
    operation_to (Project f) mark xs ls = gives (ap (part_named N f) (first_to number xs) ∙ part_named_value M N m n number renumbers f (first_value xs))
    operation_to Update mark (a ∷ xs) ls = subst (λ v. AnswerR (λ (x : Value) (y : Value). y ≡ go x) (update h mark a xs (of_type K [] (types k)) ls) (update (to_here number h) mark (to_held number a) (to_helds number xs) v ls)) (sym (value_here [])) (update_to number h mark a xs (of_type K [] (types k)) ls)
    operation_to (Replace f) mark (r ∷ v ∷ []) ls = parts_to (without_part M f r ∷ v ∷ []) (without_part N f (to_held number r) ∷ to_held number v ∷ []) (ap (λ x. x ∷ to_held number v ∷ []) (without_to f r)) (with_part_named M f v.value r.value) (with_part_named N f (go v.value) (go r.value)) (with_part_named_value M N m n number renumbers f v.value r.value) ls
    operation_to (Ascribe e) mark (a ∷ []) ls = ascribed_as e a ls
    operation_to (Coerce e) mark (a ∷ []) ls = ascribed_as e a ls
    operation_to (Declared e) mark (a ∷ []) ls = ascribed_as e a ls
    operation_to o mark xs ls = parts_to xs (to_helds number xs) refl (of_type K [] (types k)) (of_type K [] (others k)) (value_here []) ls

  -- ---- what a term names from outside

  field_capture_to : (f : Text) (c : Capture) → field_capture N f (to_capture number c) ≡ to_capture number (field_capture M f c)
  field_capture_to f (Path v) = ap Path (part_named_value M N m n number renumbers f v)
  field_capture_to f (Names_of s) = refl

  one_field_to : (o : Operation Ref BindId) (c : Capture) → one_field N o (to_capture number c) ≡ to_capture number (one_field M o c)
  one_field_to (Project f) c = field_capture_to f c
  one_field_to o c = ap Names_of (captures_same number c)

  module _ (s : Scope) where
    captures_as : (c d : Capture) → d ≡ to_capture number c → captures d ≡ captures c
    captures_as c d e = ap captures e ∙ captures_same number c

    mutual
      unfolding capture

      pub capture_to : (e : FlatTerm) → capture N (to_scope number s) e ≡ to_capture number (capture M s e)
      capture_to (Use (ref.Bound b) at k) = capture_of_to number (s b.0)
      capture_to (Use (ref.Prim p) at k) = refl
      capture_to (Use (ref.Scalar t) at k) = refl
      capture_to (Strict o mark (term_and t no_term)) = ap (one_field N o) (capture_to t) ∙ one_field_to o (capture M s t)
      capture_to (Strict o mark (term_and t (term_and u ts))) = ap Names_of (all_captured_same (term_and t (term_and u ts)))
      capture_to (Strict o mark no_term) = refl
      capture_to (Lambda ps e) = ap Names_of (captures_as _ _ (capture_to e))
      capture_to (Apply f e) = λ i. Names_of (union (captures_as _ _ (capture_to f) i) (captures_as _ _ (capture_to e) i))
      capture_to (Let b v e) = λ i. Names_of (union (captures_as _ _ (capture_to v) i) (captures_as _ _ (capture_to e) i))
      capture_to (If c t e) = λ i. Names_of (union (captures_as _ _ (capture_to c) i) (union (captures_as _ _ (capture_to t) i) (captures_as _ _ (capture_to e) i)))
      capture_to (Loop mark sizes p first turns body) = λ i. Names_of (union (captures_as _ _ (capture_to first) i) (union (turns_captured_same turns i) (captures_as _ _ (capture_to body) i)))

      all_captured_same : (ts : Terms Ref BindId) → all_captured N (to_scope number s) ts ≡ all_captured M s ts
      all_captured_same no_term = refl
      all_captured_same (term_and t ts) = λ i. union (captures_as _ _ (capture_to t) i) (all_captured_same ts i)

      turns_captured_same : (t : FlatTurns) → turns_captured N (to_scope number s) t ≡ turns_captured M s t
      turns_captured_same (Counted b e) = captures_as _ _ (capture_to e)
      turns_captured_same (Over p e) = captures_as _ _ (capture_to e)
      turns_captured_same (While c) = captures_as _ _ (capture_to c)

  -- ---- loops

  module _ (naming : Naming) where
    mutual
      unfolding own_names

      pub own_names_to : (p : FlatPattern) (q : ℕ) (v : Value) → own_names naming N p q (go v) ≡ go (own_names naming M p q v)
      own_names_to (Bound_pattern b) q v = named_value number naming true q b 0 v
      own_names_to (Tuple_pattern ps) q (Parts h vs) = ap (Parts (renumbered_head number h)) (all_own_names_to ps (1 + q) vs)
      own_names_to (Record_pattern fs ps) q v = fields_own_names_to fs ps (1 + q) v v
      own_names_to (Typed_pattern p e) q v = own_names_to p q v
      own_names_to (Tuple_pattern ps) q v = refl
      own_names_to Wild_pattern q v = refl

      all_own_names_to : (ps : Patterns Ref BindId) (q : ℕ) (vs : Values) → all_own_names naming N ps q (to_values number vs) ≡ to_values number (all_own_names naming M ps q vs)
      all_own_names_to (pattern_and p ps) q (value_and v vs) = λ i. value_and (own_names_to p q v i) (all_own_names_to ps (q + pattern_numbers p) vs i)
      all_own_names_to ps q vs = refl

      fields_own_names_to : (fs : List Text) (ps : Patterns Ref BindId) (q : ℕ) (v made : Value) → fields_own_names naming N fs ps q (go v) (go made) ≡ go (fields_own_names naming M fs ps q v made)
      fields_own_names_to (f ∷ fs) (pattern_and p ps) q v made = ap (fields_own_names naming N fs ps (q + pattern_numbers p) (go v))
          ((λ i. with_part_named N f ((ap (own_names naming N p q) (part_named_value M N m n number renumbers f v) ∙ own_names_to p q (part_named M f v)) i) (go made)) ∙ with_part_named_value M N m n number renumbers f (own_names naming M p q (part_named M f v)) made)
          ∙ fields_own_names_to fs ps (q + pattern_numbers p) v (with_part_named M f (own_names naming M p q (part_named M f v)) made)
      fields_own_names_to (f ∷ fs) no_pattern q v made = refl
      fields_own_names_to [] ps q v made = refl

  -- the same lists under labels of the same names
  Labelled_same : Labelled → Labelled → Type 0
  Labelled_same [] [] = Unit {0}
  Labelled_same (x ∷ xs) (y ∷ ys) = ((t : Text) × (x.0 ≡ M.label t) × (y.0 ≡ N.label t)) × (y.1 ≡ x.1) × Labelled_same xs ys
  Labelled_same xs ys = ⊥

  at_label_same : (k l : ℕ) → ((t : Text) × (k ≡ M.label t) × (l ≡ N.label t)) → (xs ys : Labelled) → Labelled_same xs ys → at_label l ys ≡ at_label k xs
  unfolding Labelled_same
  at_label_same k l h [] [] g = refl
  at_label_same k l h (x ∷ xs) (y ∷ ys) g = λ i. cond ((ap (nat_eq l) g.0.2 ∙ same_label M N m n number renumbers g.0.0 k l h ∙ sym (ap (nat_eq k) g.0.1)) i) (g.1 i) (at_label_same k l h xs ys g.2 i)
  at_label_same k l h (x ∷ xs) [] g = absurd g
  at_label_same k l h [] (y ∷ ys) g = absurd g

  in_order_same : (ks ls : List ℕ) → Same_names M N ks ls → (xs ys : Labelled) → Labelled_same xs ys → in_order ls ys ≡ in_order ks xs
  in_order_same [] [] h xs ys g = refl
  in_order_same (k ∷ ks) (l ∷ ls) h xs ys g = λ i. at_label_same k l h.0 xs ys g i ++ in_order_same ks ls h.1 xs ys g i
  in_order_same (k ∷ ks) [] h xs ys g = absurd h
  in_order_same [] (l ∷ ls) h xs ys g = absurd h

  mutual
    unfolding starts Labelled_same

    pub starts_same : (e : FlatTerm) (k : ℕ) (v : Value) → starts N e k (go v) ≡ starts M e k v
    starts_same (Strict Tuple_of mark ts) k (Parts h vs) = all_starts_same ts (1 + k) vs
    starts_same (Strict (Record_of fs) mark ts) k (Parts (head.Record r) vs) = in_order_same (M.shapes.fields r) (N.shapes.fields (number r)) (renumbers r) (fields_start M fs ts (1 + k) (Parts (head.Record r) vs)) (fields_start N fs ts (1 + k) (go (Parts (head.Record r) vs))) (fields_start_same fs ts (1 + k) (Parts (head.Record r) vs))
    starts_same e k v = ap (each_at k) (components_same number v)

    all_starts_same : (ts : Terms Ref BindId) (k : ℕ) (vs : Values) → all_starts N ts k (to_values number vs) ≡ all_starts M ts k vs
    all_starts_same (term_and t ts) k (value_and v vs) = λ i. starts_same t k v i ++ all_starts_same ts (k + numbers t) vs i
    all_starts_same ts k vs = refl

    fields_start_same : (fs : List Text) (ts : Terms Ref BindId) (k : ℕ) (v : Value) → Labelled_same (fields_start M fs ts k v) (fields_start N fs ts k (go v))
    fields_start_same (f ∷ fs) (term_and t ts) k v = ((f, refl, refl), ap (starts N t k) (part_named_value M N m n number renumbers f v) ∙ starts_same t k (part_named M f v), fields_start_same fs ts (k + numbers t) v)
    fields_start_same (f ∷ fs) no_term k v = tt
    fields_start_same [] ts k v = tt
