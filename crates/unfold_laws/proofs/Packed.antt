-- What is packed into one component is data; its steps are typed, and it has its type.
use Rattle.std.proofs.Common.{◌≡◌, true, false, Bool, cond, ℕ, List, [], ◌∷◌, Some, None, subst, refl, sym, ap}
use Rattle.std.specs.Str.{bytes_eq}
use Rattle.fut_meaning.specs.Found.{Told}
use Rattle.fut_ast.specs.Sorts.{Text}
use Rattle.fut_types.specs.declared.Head.TheVariants as head
use Rattle.fut_types.specs.Shapes.{part_named, place}
use Rattle.fut_types.specs.Types.{Ty, Var, Made, Tys, none, more, Kinds}
use Rattle.fut_typing.specs.Names.{Names, AreNames, IsRecord, Parts_named}
use Rattle.fut_blocks.specs.declared.block.Atom.{Atom}
use Rattle.fut_blocks.specs.declared.block.Atom.TheVariants as atom
use Rattle.fut_blocks.specs.Plain.{Tuple, Read, Record_with}
use Rattle.unfold.specs.Knowns.{Known, Scalar_known, Tuple_known, Record_known, Function_known, Primitive_known, Knowns, no_known, known_and, Known_fields, no_known_field, known_field_and, listed, field}
use Rattle.unfold.specs.Stuck.{is_function}
use Rattle.unfold.specs.Unfolding.{Bindings, step, Packs, p_atom, p_tuple, p_record, Packs_all, p_none, p_more, field_names, field_knowns}
use Rattle.unfold_laws.specs.Fits.{World, types_of, Comes, Is_data, All_data, Part_data, Each_field, Fits, All_fit, Keyed}
use Rattle.unfold_laws.specs.Typed.{Are, Act_typed}
use Rattle.unfold_laws.proofs.Fitting.{some_same, each_found, fits_data, data_fits, keyed_part}
use Rattle.unfold_laws.proofs.Fields.{names_in_order, sorted_record}
use Rattle.unfold_laws.proofs.Recording.{key_found, Each_fits_at, each_learn, each_listed}
use Rattle.unfold_laws.proofs.Shaping.{tuple_type, record_type}
use Rattle.unfold_laws.proofs.TypedSteps.{comes_none, comes_then, comes_map, comes_one}

-- it is packed, from some number on
abbrev Is_packed : Known → Type 0
Is_packed s = (n : ℕ) × (bs : Bindings) × (u : Atom) × (m : ℕ) × Packs s n bs u m

field_packed : (f : Text) (s : Known) (fs : Known_fields) (n : ℕ) (bs : Bindings) (us : List Atom) (m : ℕ) → Packs_all (field_knowns fs) n bs us m → field f fs ≡ Some s → Is_packed s
field_packed f s no_known_field n bs us m r e = absurd (let z : None ≡ Some s = e in cc)
field_packed f s (known_field_and g u fs) _ _ _ _ (p_more p r) e = by_name (bytes_eq g f) (field_packed f s fs _ _ _ _ r) e
  where
    by_name : (b : Bool) → (field f fs ≡ Some s → Is_packed s) → cond b (Some u) (field f fs) ≡ Some s → Is_packed s
    by_name true rec e = subst Is_packed (some_same e) (_, _, _, _, p)
    by_name false rec e = rec e

no_function_packed : (s : Known) → Is_packed s → is_function s ≡ true → ⊥
no_function_packed (Scalar_known u) p e = let z : false ≡ true = e in cc
no_function_packed (Tuple_known ss) p e = let z : false ≡ true = e in cc
no_function_packed (Record_known fs) p e = let z : false ≡ true = e in cc
no_function_packed (Function_known ps b lo sc) (n, bs, u, m, p) e = elim p [ ]
no_function_packed (Primitive_known q at ss) (n, bs, u, m, p) e = elim p [ ]

module _ (N : Names) (T : Told) (K : Kinds) (world : World) where
  mutual
    unfolding Fits All_fit Keyed Is_data All_data Part_data

    pub packed_data : (t : Ty) (s : Known) → Fits N T K t world s → Is_packed s → Is_data N t
    packed_data (Var n) s h p = tt
    packed_data (Made (head.Scalar x) ts) s h p = tt
    packed_data (Made head.Array ts) s h p = h.0
    packed_data (Made head.Tuple ts) (Tuple_known ss) h (_, _, _, _, p_tuple r le) = all_packed_data ts ss h.1 _ _ _ _ r
    packed_data (Made head.Tuple ts) (Scalar_known u) h p = h.0
    packed_data (Made head.Tuple ts) (Record_known fs) h p = absurd h
    packed_data (Made head.Tuple ts) (Function_known ps e lo sc) h p = absurd h
    packed_data (Made head.Tuple ts) (Primitive_known q at ss) h p = absurd h
    packed_data (Made (head.Record n) ts) (Record_known fs) h (_, _, _, _, p_record r le) = λ f c.
        let k = key_found f fs ((h.0.same f).1 c) in
        part_packed_data (N.shapes.fields n) ts (N.label f) k.0 (each_found (λ g u. Keyed N T K (N.shapes.fields n) ts world (N.label g) u) f k.0 fs h.2 k.1) (field_packed f k.0 fs _ _ _ _ r k.1)
    packed_data (Made (head.Record n) ts) (Scalar_known u) h p = h.0
    packed_data (Made (head.Record n) ts) (Tuple_known ss) h p = absurd h
    packed_data (Made (head.Record n) ts) (Function_known ps e lo sc) h p = absurd h
    packed_data (Made (head.Record n) ts) (Primitive_known q at ss) h p = absurd h
    packed_data (Made head.Fun none) s h p = absurd h
    packed_data (Made head.Fun (more t none)) s h p = absurd h
    packed_data (Made head.Fun (more t (more u none))) s h p = absurd (no_function_packed s p h.0)
    packed_data (Made head.Fun (more t (more u (more w ts)))) s h p = absurd h
    packed_data (Made (head.Rigid n k) ts) s h p = tt
    packed_data (Made (head.Abstract n k) ts) s h p = tt

    all_packed_data : (ts : Tys) (ss : Knowns) → All_fit N T K ts world ss → (n : ℕ) (bs : Bindings) (us : List Atom) (m : ℕ) → Packs_all (listed ss) n bs us m → All_data N ts
    all_packed_data none ss h n bs us m r = tt
    all_packed_data (more t ts) no_known h n bs us m r = absurd h
    all_packed_data (more t ts) (known_and s ss) h _ _ _ _ (p_more p r) = (packed_data t s h.0 (_, _, _, _, p), all_packed_data ts ss h.1 _ _ _ _ r)

    part_packed_data : (ls : List ℕ) (ts : Tys) (g : ℕ) (s : Known) → Keyed N T K ls ts world g s → Is_packed s → Part_data N ls ts g
    part_packed_data [] ts g s h p = tt
    part_packed_data (l ∷ ls) none g s h p = tt
    part_packed_data (l ∷ ls) (more t ts) g s h p = ((λ e. packed_data t s (h.0 e) p), (λ ne. part_packed_data ls ts g s (h.1 ne) p))

module _ (N : Names) (are : AreNames N) (T : Told) (K : Kinds) where
  -- the types of a record's fields, in their order
  Fields_of : World → ℕ → Tys → Known_fields → Type 0
  Fields_of world n ts fs = (us : Tys) × Each_fits_at N T K world us (field_knowns fs) × Parts_named N (field_names fs) (Made (head.Record n) ts) us

  fields_of : (world : World) (n : ℕ) (ts : Tys) (fs : Known_fields) → Each_field (λ g u. Keyed N T K (N.shapes.fields n) ts world (N.label g) u) fs → Fields_of world n ts fs
  unfolding Fields_of part_named place
  fields_of world n ts no_known_field h = (none, tt, tt)
  fields_of world n ts (known_field_and g s fs) h =
      let p = keyed_part N T K (N.label g) world s (N.shapes.fields n) ts h.0 in
      let r = fields_of world n ts fs h.1 in
      (more p.0 r.0, (p.2, r.1), (p.1, r.2))

  mutual
    unfolding Act_typed Fields_of

    -- its steps are typed
    pub packs_come : (s : Known) (n : ℕ) (bs : Bindings) (u : Atom) (m : ℕ) → Packs s n bs u m → (world : World) (t : Ty) → Fits N T K t world s → Comes N K world bs (λ there. Fits N T K t there (Scalar_known u))
    packs_come _ _ _ _ _ (p_atom {u = u}) world t h = comes_none N K world (λ there. Fits N T K t there (Scalar_known u)) h
    packs_come _ n _ _ _ (p_tuple {m = m} {x = x} {ss = ss} {bs = bs} {us = us} r le) world t h =
        let q = tuple_type N T K world t ss h in
        let d : Is_data N t = packed_data N T K world t (Tuple_known ss) h (_, _, _, _, p_tuple {x = x} r le) in
        comes_then N K world bs (step (x ∷ []) (Tuple us)) (λ there. Are (types_of N K there.1) us q.0) (λ there. Fits N T K t there (Scalar_known (atom.Name x)))
        (packs_all_come (listed ss) n bs us m r world q.0 (each_listed N T K world q.0 ss q.3))
        (λ C g a. comes_one N K (world.0, C) x (Tuple us) t (λ there. Fits N T K t there (Scalar_known (atom.Name x))) (q.0, a, q.2, ap (λ y. more y none) q.1) (λ D g' i. data_fits N T K t (world.0, D) (atom.Name x) d i))
    packs_come _ n _ _ _ (p_record {m = m} {x = x} {fs = fs} {bs = bs} {us = us} r le) world t h =
        let q = record_type N T K world t fs h in
        let d : Is_data N t = packed_data N T K world t (Record_known fs) h (_, _, _, _, p_record {x = x} r le) in
        let f = fields_of world q.0 q.1 fs q.5 in
        comes_then N K world bs (step (x ∷ []) (Read (Record_with (field_names fs)) us)) (λ there. Are (types_of N K there.1) us f.0) (λ there. Fits N T K t there (Scalar_known (atom.Name x)))
        (packs_all_come (field_knowns fs) n bs us m r world f.0 f.1)
        (λ C g a. comes_one N K (world.0, C) x (Read (Record_with (field_names fs)) us) t (λ there. Fits N T K t there (Scalar_known (atom.Name x)))
        (f.0, a, (t, subst (λ y. IsRecord N (field_names fs) y f.0) (sym q.2) (sorted_record N are q.0 fs q.3 q.1 f.0 q.4 f.2), names_in_order fs q.3.ordered, refl))
        (λ D g' i. data_fits N T K t (world.0, D) (atom.Name x) d i))

    pub packs_all_come : (ss : List Known) (n : ℕ) (bs : Bindings) (us : List Atom) (m : ℕ) → Packs_all ss n bs us m → (world : World) (ts : Tys) → Each_fits_at N T K world ts ss → Comes N K world bs (λ there. Are (types_of N K there.1) us ts)
    packs_all_come _ _ _ _ _ p_none world none h = comes_none N K world (λ there. Are (types_of N K there.1) [] none) tt
    packs_all_come _ _ _ _ _ p_none world (more t ts) h = absurd h
    packs_all_come _ _ _ _ _ (p_more p r) world none h = absurd h
    packs_all_come _ n _ _ m (p_more {k = k} {s = s} {ss = ss} {bs = bs} {cs = cs} {u = u} {us = us} p r) world (more t ts) h =
        comes_then N K world bs cs (λ there. Fits N T K t there (Scalar_known u)) (λ there. Are (types_of N K there.1) (u ∷ us) (more t ts)) (packs_come s n bs u k p world t h.0)
        (λ C g f. comes_map N K (world.0, C) cs (λ there. Are (types_of N K there.1) us ts) (λ there. Are (types_of N K there.1) (u ∷ us) (more t ts))
        (packs_all_come ss k cs us m r (world.0, C) ts (each_learn N T K world (world.0, C) g ts ss h.1))
        (λ D g' a. (g'.1 u t (fits_data N T K t (world.0, C) u f).1, a)))
