-- What operations give is of the sized type that their rules say.
use Rattle.sized_meaning.specs.There.{Operation_there}
use Rattle.sized_meaning.specs.There.{There}
use Rattle.std.specs.Prelude.{◌^◌}
use Rattle.std.proofs.Common.{◌≡◌, ℕ, ◌+◌, ◌<◌, Option, List, [], ◌∷◌, Bool, cond, false, Some, None, Ok, refl, sym, ap, ◌∙◌, subst, suc, true, inl, inr}
use Rattle.fut_arithmetic.specs.Types.{result_type}
use Rattle.fut_scalar.specs.declared.place.BindId.{BindId}
use Rattle.fut_scalar.specs.declared.place.Place.{Place}
use Rattle.fut_scalar.specs.declared.scalar.ScalarType.{ScalarType}
use Rattle.fut_scalar.specs.declared.scalar.ScalarType.TheVariants as sort
use Rattle.fut_flat.specs.declared.prim.Ref.{Ref}
use Rattle.fut_flat.specs.Numbers.{numbers, own_numbers}
use Rattle.fut_flat.specs.Terms.{Operation, Integer, Truth, Tuple_of, Record_of, Array_of, Index, Update, Project, Replace, Coerce, Range, Declared, Binary, Negate, Complement, Assert, Terms, no_term, term_and, Ascribe}
use Rattle.fut_types.specs.declared.Head.{Head}
use Rattle.fut_types.specs.declared.Head.TheVariants as head
use Rattle.fut_types.specs.Types.{Made, none, Sub, scalar_ty}
use Rattle.fut_typing.specs.Names.{Names}
use Rattle.fut_meaning.specs.Flats.{FlatValue, FlatEnv, flat_names}
use Rattle.fut_meaning.specs.Meaning.{row_told, fits_type, Of_literal}
use Rattle.fut_meaning.specs.Operations.{report, named_values, operated, operate, coerced}
use Rattle.fut_meaning.specs.Outcomes.{Out, Val, Fail, and_then}
use Rattle.fut_meaning.specs.Found.{has_sizes as has_all}
use Rattle.fut_meaning.specs.Telling.{value_shape, found}
use Rattle.fut_scalar.specs.declared.report.FailKind.TheVariants as kind
use Rattle.fut_flat.specs.Erased.{FlatType}
use Rattle.sized_meaning.proofs.Entered.{value_shaped}
use Rattle.sized_meaning.proofs.Ranging.{range_fits}
use Rattle.sized_meaning.proofs.Words.{Part_words}
use Rattle.sized_meaning.proofs.Named.{On_free, each_named}
use Rattle.sized_meaning.proofs.Coercing.{Names_right, coerced_alike}
use Rattle.fut_sizes.specs.Scoping.{Context}
use Rattle.fut_sizes.specs.Rules.{Sizes_found, Compared_found}
use Rattle.fut_sizes.specs.Suiting.{Each, Data}
use Rattle.fut_meaning.specs.Values.{Scalar_value, Tuple_value, Record_value, values, fields, replaced}
use Rattle.sized_meaning.proofs.Recording.{record_made, record_changed, tuple_part}
use Rattle.sized_types.specs.Sizes.{Inferred, Written, Size, Hole, Open, Level, Built, Fun, Sizes, no_size, size_and, is_dim, has, erased, all_erased, At, Bound, Unknown}
use Rattle.fut_sizes.specs.Agreeing.{no_size_of, of_type, of_types}
use Rattle.fut_sizes.specs.Operations.{operation, part_or, many, record_of}
use Rattle.fut_ast.specs.Sorts.{Text}
use Rattle.fut_meaning.specs.Accessors.{or_wrong, part, fields_of}
use Rattle.sized_meaning.proofs.Patterns.{field_fits}
use Rattle.sized_meaning.proofs.Updating.{update_fits}
use Rattle.fut_sizes.specs.Rules.{part_sizes}
use Rattle.sized_meaning.specs.Worth.{Worth, no_frames}
use Rattle.sized_meaning.specs.Shapes.{Meant}
use Rattle.sized_meaning.specs.Finding.{One_kind_each}
use Rattle.sized_meaning.specs.Fits.{Out_fits, Gives, Is_scalar, Fits, All_fit}
use Rattle.sized_meaning.specs.Law.{Beyond, Sound, World, told, calls, Indexed_parts, Record_parts, Is_record, Coerces, Plain_operation, Result as Res}
use Rattle.sized_meaning.proofs.Ways.{out_as}
use Rattle.sized_meaning.proofs.Outcomes.{gives_exact}
use Rattle.sized_meaning.proofs.Suiting.{same_ok, at_node}
use Rattle.sized_meaning.proofs.Environments.{beyond_node}
use Rattle.fut_sizes.specs.WrittenSizes.{coerced as coerced_size, coercion, part_of, changed_part, has_sizes, with_sizes, declared, ascribed}
use Rattle.sized_meaning.proofs.Alike.{alike_fits}
use Rattle.sized_meaning.proofs.Branches.{all_of}
use Rattle.sized_meaning.proofs.Declared.{declared_as}
use Rattle.sized_meaning.proofs.Elements.{then_ok, array_fits}
use Rattle.sized_meaning.proofs.Indexing.{index_fits}
use Rattle.sized_meaning.proofs.Slicing.{slices_fit}
use Rattle.fut_flat.specs.declared.act.Part.{Part}
use Rattle.fut_flat.specs.Erased.{FlatTerm}
use Rattle.sized_meaning.proofs.Scalars.{binary_gives, negated_gives, turned_gives, asserted_gives}

module _ (N : Names) (types : Sub) (τ : Meant) (W : World) (S : Sound N types W.sizing) (one : One_kind_each τ) where
  abbrev s : ℕ → Size
  s n = W.sizing.size_at n

  abbrev Of : Worth → Size → FlatValue → Type 0
  Of m t v = Fits N τ W.sizing W.is_there (calls W) m no_frames t v

  abbrev parts : Terms Ref BindId → ℕ → Sizes
  parts ts at = part_sizes N types W.sizing.size_at W.sizing.home ts at

  -- a value of a scalar type is a scalar
  scalar_part : (m : Worth) (t : Size) (c : ScalarType) (v : FlatValue) → erased t ≡ scalar_ty c → Of m t v → Is_scalar c v
  unfolding Fits erased all_erased
  scalar_part m (Built (head.Scalar x) ts) c v e h = let z : x ≡ c = (let y : Made (head.Scalar x) (all_erased ts) ≡ Made (head.Scalar c) none = e in cc) in subst (λ y. Is_scalar y v) z h
  scalar_part m (Hole (Inferred a)) c v e h = absurd (let z = e in cc)
  scalar_part m (Hole (Written b k)) c v e h = absurd (let z = e in cc)
  scalar_part m (Open n a u) c v e h = absurd h
  scalar_part m (Level d t) c v e h = absurd (let z = e in cc)
  scalar_part m (Fun k p r) c v e h = absurd (let z = e in cc)
  scalar_part m (Built head.Tuple ts) c v e h = absurd (let z = e in cc)
  scalar_part m (Built (head.Record n) ts) c v e h = absurd (let z = e in cc)
  scalar_part m (Built (head.Abstract n k) ts) c v e h = absurd h
  scalar_part m (Built head.Array ts) c v e h = absurd h
  scalar_part m (Built head.Fun ts) c v e h = absurd h
  scalar_part m (Built (head.Rigid n k) ts) c v e h = absurd h

  part_is : (m : Worth) (n : ℕ) (c : ScalarType) (v : FlatValue) → types n ≡ scalar_ty c → Of m (s n) v → Is_scalar c v
  part_is m n c v e h = scalar_part m (s n) c v (S.typed n ∙ e) h

  -- a scalar is of the type of a node that is no array
  scalar_fits : (lo : ℕ) (m : Worth) (c : ScalarType) (v : FlatValue) → types lo ≡ scalar_ty c → of_type (no_size_of lo) 0 (types lo) ≡ s lo → Is_scalar c v → Res N types τ W lo (1 + lo) m (s lo) v
  unfolding Fits of_type of_types
  scalar_fits lo m c v e q h = record {
    now = m;
    old = λ d o. refl;
    fits = subst (λ u. Of m u v) (ap (of_type (no_size_of lo) 0) (sym e) ∙ q) h;
  }

  -- so many parts have so many values
  no_parts : (m : Worth) (vs : List FlatValue) → All_fit N τ W.sizing W.is_there (calls W) m no_frames no_size (values vs) → vs ≡ []
  unfolding All_fit
  no_parts m [] h = refl
  no_parts m (v ∷ vs) h = absurd h

  record One_part (m : Worth) (t : Size) (vs : List FlatValue) : Type 0 where
    first : FlatValue
    all : vs ≡ first ∷ []
    first_fits : Of m t first

  one_part : (m : Worth) (t : Size) (vs : List FlatValue) → All_fit N τ W.sizing W.is_there (calls W) m no_frames (size_and t no_size) (values vs) → One_part m t vs
  unfolding All_fit
  one_part m t [] h = absurd h
  one_part m t (v ∷ []) h = record { first = v; all = refl; first_fits = h.0 }
  one_part m t (v ∷ w ∷ vs) h = absurd h.1

  record Two_parts (m : Worth) (t u : Size) (vs : List FlatValue) : Type 0 where
    first : FlatValue
    second : FlatValue
    all : vs ≡ first ∷ second ∷ []
    first_fits : Of m t first
    second_fits : Of m u second

  two_parts : (m : Worth) (t u : Size) (vs : List FlatValue) → All_fit N τ W.sizing W.is_there (calls W) m no_frames (size_and t (size_and u no_size)) (values vs) → Two_parts m t u vs
  unfolding All_fit
  two_parts m t u [] h = absurd h
  two_parts m t u (v ∷ []) h = absurd h.1
  two_parts m t u (v ∷ w ∷ []) h = record { first = v; second = w; all = refl; first_fits = h.0; second_fits = h.1.0 }
  two_parts m t u (v ∷ w ∷ x ∷ vs) h = absurd h.1.1

  abbrev Gives_node : Operation Ref BindId → Place → ℕ → FlatEnv → Worth → List FlatValue → Type 0
  Gives_node o mark lo env m vs = Gives (There W.is_there) (Res N types τ W lo (1 + lo) m (s lo)) (operated false (row_told ((flat_names (told W)).lang W.tops) (Of_literal env lo)) (fits_type ((flat_names (told W)).lang W.tops) env lo) (W.integer_at lo) o mark vs)

  -- an outcome that is a scalar
  scalar_out : (lo : ℕ) (m : Worth) (c : ScalarType) (o : Out FlatValue) → types lo ≡ scalar_ty c → of_type (no_size_of lo) 0 (types lo) ≡ s lo → Out_fits (There W.is_there) (Is_scalar c) o → Out_fits (There W.is_there) (Res N types τ W lo (1 + lo) m (s lo)) o
  scalar_out lo m c o e q h = out_as _ (Is_scalar c) (Res N types τ W lo (1 + lo) m (s lo)) o (λ v x. scalar_fits lo m c v e q x) h

  -- a field of a record, or a part of a tuple, is of the type of that part
  part_out : (m : Worth) (f : Text) (t u : Size) (h : Head) (ts : Sizes) → t ≡ Built h ts → many ts < 2 ^ 64 → part_of N f t ≡ Some u → (v : FlatValue) → Of m t v → Out_fits (There W.is_there) (Of m u) (part f v)
  unfolding Fits
  part_out m f t u h ts same few e v k = of_head h ts few (subst (λ x. part_of N f x ≡ Some u) same e) v (subst (λ x. Of m x v) same k)
    where
      of_head : (h : Head) (ts : Sizes) → many ts < 2 ^ 64 → part_of N f (Built h ts) ≡ Some u → (v : FlatValue) → Of m (Built h ts) v → Out_fits (There W.is_there) (Of m u) (part f v)
      of_head (head.Record n) ts few e (Record_value gs) k = let r = field_fits N types τ W S one 0 0 m f (Built (head.Record n) ts) u gs e k in subst (λ o. Out_fits (There W.is_there) (Of m u) (or_wrong o)) (sym r.1) r.2
      of_head (head.Record n) ts few e v k = absurd k
      of_head head.Tuple ts few e (Tuple_value vs) k = tuple_part N types τ W S one m f ts u vs e few k
      of_head head.Tuple ts few e v k = absurd k
      of_head (head.Scalar c) ts few e (Scalar_value x) k = tt
      of_head (head.Scalar c) ts few e v k = absurd k
      of_head (head.Abstract n d) ts few e v k = absurd k
      of_head head.Array ts few e v k = absurd k
      of_head head.Fun ts few e v k = absurd k
      of_head (head.Rigid n d) ts few e v k = absurd k

  -- a record of the values of its fields
  record_out : (m : Worth) (fs : List Text) (lo : ℕ) (ts : Terms Ref BindId) (vs : List FlatValue) (p : Record_parts N types W fs lo) → All_fit N τ W.sizing W.is_there (calls W) m no_frames (parts ts (lo + 1)) (values vs) → record_of N fs (types lo) (parts ts (lo + 1)) ≡ s lo
      → Out_fits (There W.is_there) (Of m (s lo)) (and_then (or_wrong (named_values fs vs)) (λ gs. Val (Record_value (fields gs))))
  record_out m fs lo ts vs p h e = by_names (named_values fs vs) refl
    where
      by_names : (o : Option (List (Text × FlatValue))) → named_values fs vs ≡ o → Out_fits (There W.is_there) (Of m (s lo)) (and_then (or_wrong o) (λ gs. Val (Record_value (fields gs))))
      by_names None q = tt
      by_names (Some named) q = subst (λ u. Of m u (Record_value (fields named))) (ap (λ t. record_of N fs t (parts ts (lo + 1))) (sym p.2) ∙ e)
          (record_made N types τ W S one m p.0 fs (parts ts (lo + 1)) vs p.3 p.4 p.5 h named q)

  -- and one with another value for a field
  replaced_out : (m : Worth) (f : Text) (at : ℕ) (u t : Size) (p : Is_record N types W at) (v w : FlatValue) → changed_part N f (λ x. u) (s at) ≡ t → Of m (s at) v → Of m u w → Out_fits (There W.is_there) (Of m t) (and_then (fields_of v) (λ gs. Val (Record_value (replaced f w gs))))
  unfolding Fits changed_part
  replaced_out m f at u t p v w e h hw = of_record v (subst (λ x. Of m x v) p.2 h) (ap (λ x. changed_part N f (λ y. u) x) (sym p.2) ∙ e)
    where
      of_record : (v : FlatValue) → Of m (Built (head.Record p.0) p.1) v → changed_part N f (λ y. u) (Built (head.Record p.0) p.1) ≡ t → Out_fits (There W.is_there) (Of m t) (and_then (fields_of v) (λ gs. Val (Record_value (replaced f w gs))))
      of_record (Record_value gs) k e = subst (λ x. Of m x (Record_value (replaced f w gs))) e (record_changed N types τ W S one m p.0 f u w p.1 gs hw k)
      of_record v k e = absurd k

  indexed_fits : (ps : List Part) (mark : Place) (x : FlatTerm) (es : Terms Ref BindId) (lo : ℕ) (env : FlatEnv) (m : Worth) (vs : List FlatValue) → Indexed_parts N types W lo ps (term_and x es) (lo + 1) → Part_words N types τ W S one m (term_and x es) (lo + 1) vs → All_fit N τ W.sizing W.is_there (calls W) m no_frames (parts (term_and x es) (lo + 1)) (values vs)
      → operation N types (Index ps) lo (lo + 1) (term_and x es) (parts (term_and x es) (lo + 1)) ≡ Ok (s lo) → Gives_node (Index ps) mark lo env m vs
  indexed_fits ps mark x es lo env m vs (d, inl p) w h e = index_fits N types τ W S one m ps mark x es lo env vs (d, p) h e
  indexed_fits ps mark x es lo env m vs (d, inr p) w h e = slices_fit N types τ W S one m ps mark x es lo env vs d p.0 p.1 p.2 w h e

  -- what `:>` lets pass
  coerced_out : (m : Worth) (e : FlatType) (mark : Place) (at_there : W.is_there mark ≡ true) (lo : ℕ) (env : FlatEnv) (v : FlatValue) (g : (G : Context) × Sizes_found e G × Names_right G (found W.sizing env) m (s lo)) → Data (s (lo + 1)) × Coerces e (s (lo + 1)) → coerced_size N e (s (lo + 1)) ≡ s lo → Of m (s (lo + 1)) v
      → Out_fits (There W.is_there) (Res N types τ W lo (1 + lo) m (s lo)) (cond (fits_type ((flat_names (told W)).lang W.tops) env lo v) (Val v) (Fail (report kind.Size mark)))
  unfolding fits_type flat_names coerced_size
  coerced_out m e mark at_there lo env v g p same h = by_test (has_all W.sizing.fields (found W.sizing env) (s lo) (value_shape v)) refl
    where
      by_test : (b : Bool) → has_all W.sizing.fields (found W.sizing env) (s lo) (value_shape v) ≡ b → Out_fits (There W.is_there) (Res N types τ W lo (1 + lo) m (s lo)) (cond b (Val v) (Fail (report kind.Size mark)))
      by_test true q = record {
        now = m;
        old = λ d o. refl;
        fits = subst (λ u. Of m u v) same ((alike_fits N τ m m W.sizing W.is_there (calls W) (coerced_alike N τ W.sizing.fields (found W.sizing env) m g.0 (λ d. has (is_dim (At d)) (s lo) ≡ true) g.2 0 e (s (lo + 1)) (value_shape v) p.1 g.1 (subst (λ u. Each (λ j. On_free (λ d. has (is_dim (At d)) (s lo) ≡ true)) 0 u) (sym same) (each_named (λ d. has (is_dim (At d)) (s lo) ≡ true) (s lo) 0 (λ d k. k))) p.0 (value_shaped N τ W.sizing W.is_there (calls W) m no_frames (s (lo + 1)) p.0 v h)
            (subst (λ u. has_all W.sizing.fields (found W.sizing env) u (value_shape v) ≡ true) (sym same) q)) v).0 h);
      }
      by_test false q = λ z. at_there

  pub operation_fits : (o : Operation Ref BindId) (mark : Place) → Operation_there W.is_there o mark → (ts : Terms Ref BindId) (lo : ℕ) (env : FlatEnv) (m : Worth) (vs : List FlatValue) → Plain_operation N types W o lo ts → Part_words N types τ W S one m ts (lo + own_numbers o) vs → (G : Context) × Compared_found o G × Names_right G (found W.sizing env) m (s lo) → All_fit N τ W.sizing W.is_there (calls W) m no_frames (parts ts (lo + own_numbers o)) (values vs)
      → operation N types o lo (lo + own_numbers o) ts (parts ts (lo + own_numbers o)) ≡ Ok (s lo) → Gives_node o mark lo env m vs
  unfolding Fits All_fit operate coerced operation declared ascribed coercion
  operation_fits Tuple_of mark there ts lo env m vs p w g h e = gives_exact _ _ 0 (Val (Tuple_value (values vs))) (record { now = m; old = λ d o. refl; fits = subst (λ u. Of m u (Tuple_value (values vs))) (same_ok (Built head.Tuple (parts ts (lo + 1))) (s lo) e) h })
  operation_fits Array_of mark there ts lo env m vs p w g h e = array_fits N types τ W S one m mark ts lo env vs p h e
  operation_fits (Index ps) mark there (term_and x es) lo env m vs p w g h e = indexed_fits ps mark x es lo env m vs p w h e
  operation_fits Update mark there (term_and x es) lo env m vs p w g h e = update_fits N types τ W S one m mark x es lo env vs p.0 p.1 h e
  operation_fits (Project f) mark there (term_and x no_term) lo env m vs p w g h e =
      let v = one_part m (s (lo + 2)) vs h in
      let same : p.4 ≡ s lo = sym (ap (λ o. part_or o (of_type (no_size_of lo) 0 (types lo))) p.5) ∙ same_ok (part_or (part_of N f (s (lo + 2))) (of_type (no_size_of lo) 0 (types lo))) (s lo) e in
      subst (Gives_node (Project f) mark lo env m) (sym v.all) (gives_exact _ _ 0 _ (out_as _ (Of m p.4) (Res N types τ W lo (1 + lo) m (s lo)) (part f v.first) (λ w k. record { now = m; old = λ d o. refl; fits = subst (λ u. Of m u w) same k })
      (part_out m f (s (lo + 2)) p.4 p.0 p.1 p.2 p.3 p.5 v.first v.first_fits)))
  operation_fits (Record_of fs) mark there ts lo env m vs p w g h e = gives_exact _ _ 0 _ (out_as (There W.is_there) (Of m (s lo)) (Res N types τ W lo (1 + lo) m (s lo)) _ (λ w k. record { now = m; old = λ d o. refl; fits = k }) (record_out m fs lo ts vs p h (same_ok _ (s lo) e)))
  operation_fits (Replace f) mark there (term_and x (term_and y no_term)) lo env m vs p w g h e =
      let q = two_parts m (s (lo + 1)) (s (lo + 1 + numbers x)) vs h in
      subst (Gives_node (Replace f) mark lo env m) (sym q.all) (gives_exact _ _ 0 _ (out_as (There W.is_there) (Of m (s lo)) (Res N types τ W lo (1 + lo) m (s lo)) _ (λ w k. record { now = m; old = λ d o. refl; fits = k })
      (replaced_out m f (lo + 1) (s (lo + 1 + numbers x)) (s lo) p q.first q.second (same_ok _ (s lo) e) q.first_fits q.second_fits)))
  operation_fits (Declared e) mark there (term_and x no_term) lo env m vs p w g h q =
      let v = one_part m (s (lo + 1)) vs h in
      let r = then_ok (has_sizes N true (lo + 1) e (s (lo + 1))) (λ z. Ok (with_sizes N (Some (λ k i d. Bound 0 (suc k + i))) (λ i d. At (Unknown lo i)) 0 e (s (lo + 1)))) (s lo) q in
      subst (Gives_node (Declared e) mark lo env m) (sym v.all) (gives_exact _ _ 0 (Val v.first) (record {
        now = at_node lo (all_of m (s (lo + 1))) m;
        old = λ d o. beyond_node N types τ W lo (all_of m (s (lo + 1))) m d o;
        fits = subst (λ u. Of (at_node lo (all_of m (s (lo + 1))) m) u v.first) (same_ok _ (s lo) r.2)
            ((alike_fits N τ m (at_node lo (all_of m (s (lo + 1))) m) W.sizing W.is_there (calls W)
            (declared_as N (Some (λ k i d. Bound 0 (suc k + i))) (Beyond N types τ W lo (1 + lo)) lo (lo + 1) m e (s (lo + 1)) r.0 (λ d o. beyond_node N types τ W lo (all_of m (s (lo + 1))) m d o) p.0 p.1 p.2 r.1) v.first).0 v.first_fits);
      }))
  operation_fits (Ascribe e) mark there (term_and x no_term) lo env m vs p w g h q =
      let v = one_part m (s (lo + 1)) vs h in
      let r = then_ok (has_sizes N true (lo + 1) e (s (lo + 1))) (λ z. Ok (s (lo + 1))) (s lo) q in
      subst (Gives_node (Ascribe e) mark lo env m) (sym v.all) (gives_exact _ _ 0 (Val v.first) (record { now = m; old = λ d o. refl; fits = subst (λ u. Of m u v.first) (same_ok (s (lo + 1)) (s lo) r.2) v.first_fits }))
  operation_fits (Coerce e) mark there (term_and x no_term) lo env m vs p w g h q =
      let v = one_part m (s (lo + 1)) vs h in
      let r = then_ok (has_sizes N false (lo + 1) e (s (lo + 1))) (λ z. Ok (coerced_size N e (s (lo + 1)))) (s lo) q in
      subst (Gives_node (Coerce e) mark lo env m) (sym v.all) (gives_exact _ _ 0 _ (coerced_out m e mark there lo env v.first g p (same_ok _ (s lo) r.2) v.first_fits))
  operation_fits (Range stepped e) mark there (term_and x es) lo env m [] p w g h q = absurd h
  operation_fits (Range stepped e) mark there (term_and x es) lo env m (v ∷ ws) p w g h q = range_fits N types τ W S one m stepped e mark (term_and x es) lo env v ws p (part_is m (lo + 1) (sort.Int p.0) v p.2 h.0) w h q
  operation_fits (Integer n None) mark there no_term lo env m vs p w g h e = subst (Gives_node (Integer n None) mark lo env m) (sym (no_parts m vs h)) (gives_exact _ _ 0 _ (scalar_fits lo m (sort.Int (W.integer_at lo)) _ p (same_ok _ (s lo) e) refl))
  operation_fits (Integer n (Some j)) mark there no_term lo env m vs p w g h e = subst (Gives_node (Integer n (Some j)) mark lo env m) (sym (no_parts m vs h)) (gives_exact _ _ 0 _ (scalar_fits lo m (sort.Int j) _ p (same_ok _ (s lo) e) refl))
  operation_fits (Truth b) mark there no_term lo env m vs p w g h e = subst (Gives_node (Truth b) mark lo env m) (sym (no_parts m vs h)) (gives_exact _ _ 0 _ (scalar_fits lo m sort.Bool _ p (same_ok _ (s lo) e) refl))
  operation_fits (Binary o) mark there (term_and x (term_and y no_term)) lo env m vs p w g h e =
      let q = two_parts m (s (lo + 2)) (s (lo + 2 + numbers x)) vs h in
      subst (Gives_node (Binary o) mark lo env m) (sym q.all) (gives_exact _ _ 0 _ (scalar_out lo m (result_type o p.0) _ p.1 (same_ok _ (s lo) e)
      (binary_gives W.is_there o mark p.0 q.first q.second (types (lo + 2)) (λ z. part_is m (lo + 2) p.0 q.first z q.first_fits) p.2)))
  operation_fits Negate mark there (term_and x no_term) lo env m vs p w g h e =
      let q = one_part m (s (lo + 1)) vs h in
      subst (Gives_node Negate mark lo env m) (sym q.all) (gives_exact _ _ 0 _ (scalar_out lo m p.0 _ p.1 (same_ok _ (s lo) e) (negated_gives W.is_there p.0 q.first (part_is m (lo + 1) p.0 q.first p.2 q.first_fits))))
  operation_fits Complement mark there (term_and x no_term) lo env m vs p w g h e =
      let q = one_part m (s (lo + 1)) vs h in
      subst (Gives_node Complement mark lo env m) (sym q.all) (gives_exact _ _ 0 _ (scalar_out lo m p.0 _ p.1 (same_ok _ (s lo) e) (turned_gives W.is_there p.0 q.first (part_is m (lo + 1) p.0 q.first p.2 q.first_fits))))
  operation_fits Assert mark there (term_and x no_term) lo env m vs p w g h e =
      let q = one_part m (s (lo + 1)) vs h in
      subst (Gives_node Assert mark lo env m) (sym q.all) (gives_exact _ _ 0 _ (scalar_out lo m sort.Bool _ p.0 (same_ok _ (s lo) e) (asserted_gives W.is_there mark q.first (part_is m (lo + 1) sort.Bool q.first p.1 q.first_fits))))
  operation_fits o mark there ts lo env m vs p w g h e = absurd p
