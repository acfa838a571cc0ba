-- What is known of the fields of records: of those that are made, of one that is found, and where one is replaced.
use Rattle.std.proofs.Common.{◌≡◌, ◌≢◌, Bool, true, false, cond, ℕ, zero, suc, ◌+◌, ◌≤◌, ◌<◌, refl, sym, ap, ◌∙◌, subst, arith, List, [], ◌∷◌, map, length, Option, Some, None, decimal}
use Rattle.std.specs.Str.{bytes_eq}
use Rattle.std.proofs.lemmas.Slice.Eq.{bytes_eq-Decides}
use mathlib.Core.Logic.{◌⊎◌, inl, inr}
use Rattle.fut_meaning.specs.Found.{Told}
use Rattle.fut_ast.specs.Sorts.{Text}
use Rattle.fut_types.specs.declared.Head.TheVariants as head
use Rattle.fut_types.specs.Types.{Ty, Var, Made, Tys, none, more, Kinds}
use Rattle.fut_types.specs.Shapes.{place, part_at, part_named, HasPart}
use Rattle.fut_typing.specs.Names.{Names, AreNames, IsRecord, Parts_named, Spells, count}
use Rattle.fut_typing.proofs.Members.{In, in_list, list_in}
use Rattle.fut_meaning.specs.Knowns.{with_some}
use Rattle.fut_meaning.specs.Operations.{with_name, named_values}
use Rattle.fut_meaning.specs.Values.{Tuple_value, no_value, field_and, is_before, with_field as put}
use Rattle.type_soundness.specs.Fits.{widest, Is_key, In_order, Are_keys}
use Rattle.type_soundness.proofs.Decimals.{no_number, spelled, one_number, part_low}
use Rattle.type_soundness.proofs.Ordering.{eq_here, eq_other, key_put, key_stays, order_put}
use Rattle.type_soundness.proofs.Records.{Named, Apart, covers, long_map, label_named, labels_apart, placed_label}
use Rattle.fut_blocks.specs.declared.block.Atom.{Atom}
use Rattle.unfold.specs.Knowns.{Known, Scalar_known, Tuple_known, Record_known, Function_known, Primitive_known, Knowns, no_known, known_and, Known_fields, no_known_field, known_field_and, with_field, fields, field, replaced, part_from, part, record_parts, listed}
use Rattle.unfold_laws.specs.Fits.{World, types_of, Learns, On_record, Each_field, keys, Is_data, All_data, Record_data, Fits, All_fit, Keyed}
use Rattle.unfold_laws.proofs.Fitting.{some_same, each_found, fits_learn, keyed_found, keyed_from, all_data_part, part_data}
use Rattle.unfold_laws.proofs.Shaping.{record_is, shaped, Packing, shaped_packing}

-- ---- names of fields
pub keys_put : (f : Text) (s : Known) (fs : Known_fields) → keys (with_field f s fs) ≡ put f (Tuple_value no_value) (keys fs)
keys_put f s no_known_field = refl
keys_put f s (known_field_and g u fs) = known (is_before f g) (keys_put f s fs)
  where
    known : (b : Bool) → keys (with_field f s fs) ≡ put f (Tuple_value no_value) (keys fs)
        → keys (cond b (known_field_and f s (known_field_and g u fs)) (known_field_and g u (with_field f s fs))) ≡ cond b (field_and f (Tuple_value no_value) (field_and g (Tuple_value no_value) (keys fs))) (field_and g (Tuple_value no_value) (put f (Tuple_value no_value) (keys fs)))
    known true rec = refl
    known false rec = ap (field_and g (Tuple_value no_value)) rec

pub keys_replaced : (f : Text) (s : Known) (fs : Known_fields) → keys (replaced f s fs) ≡ keys fs
keys_replaced f s no_known_field = refl
keys_replaced f s (known_field_and g u fs) = known (bytes_eq g f) (keys_replaced f s fs)
  where
    known : (b : Bool) → keys (replaced f s fs) ≡ keys fs → keys (cond b (known_field_and g s fs) (known_field_and g u (replaced f s fs))) ≡ field_and g (Tuple_value no_value) (keys fs)
    known true rec = refl
    known false rec = ap (field_and g (Tuple_value no_value)) rec

pub each_put : (P : Text → Known → Type 0) (f : Text) (s : Known) (fs : Known_fields) → P f s → Each_field P fs → Each_field P (with_field f s fs)
each_put P f s no_known_field p h = (p, tt)
each_put P f s (known_field_and g u fs) p h = known (is_before f g) (each_put P f s fs p h.1)
  where
    known : (b : Bool) → Each_field P (with_field f s fs) → Each_field P (cond b (known_field_and f s (known_field_and g u fs)) (known_field_and g u (with_field f s fs)))
    known true rec = (p, h)
    known false rec = (h.0, rec)

pub each_replaced : (P : Text → Known → Type 0) (f : Text) (s : Known) (fs : Known_fields) → P f s → Each_field P fs → Each_field P (replaced f s fs)
each_replaced P f s no_known_field p h = tt
each_replaced P f s (known_field_and g u fs) p h = known (bytes_eq g f) refl (each_replaced P f s fs p h.1)
  where
    known : (b : Bool) → bytes_eq g f ≡ b → Each_field P (replaced f s fs) → Each_field P (cond b (known_field_and g s fs) (known_field_and g u (replaced f s fs)))
    known true is rec = (subst (λ x. P x s) (sym ((bytes_eq-Decides g f).0 is)) p, h.1)
    known false is rec = (h.0, rec)

pub key_found : (s : Text) (fs : Known_fields) → Is_key s (keys fs) → (u : Known) × (field s fs ≡ Some u)
key_found s no_known_field k = absurd k
key_found s (known_field_and g w fs) k = known (bytes_eq g s) refl (key_found s fs) k
  where
    known : (b : Bool) → bytes_eq g s ≡ b → (Is_key s (keys fs) → (u : Known) × (field s fs ≡ Some u)) → (s ≡ g) ⊎ Is_key s (keys fs) → (u : Known) × (cond b (Some w) (field s fs) ≡ Some u)
    known true is rec i = (w, refl)
    known false is rec (inl e) = absurd (let z : true ≡ false = sym ((bytes_eq-Decides g s).1 (sym e)) ∙ is in cc)
    known false is rec (inr i) = rec i

pub named_label : (f : Text → ℕ) (s : Text) (names : List Text) → Named s names → In (f s) (map f names)
named_label f s [] i = absurd i
named_label f s (x ∷ names) (inl e) = inl (ap f e)
named_label f s (x ∷ names) (inr i) = inr (named_label f s names i)

-- the parts behind a first one
abbrev pub with_rest : Known → Option (List Known) → Option (List Known)
with_rest s o = with_some o (λ ss. Some (s ∷ ss))

abbrev pub with_known : Option Known → List Text → Known_fields → Option (List Known)
with_known o names fs = with_some o (λ s. with_some (record_parts names fs) (λ ss. Some (s ∷ ss)))

-- ---- types of parts
abbrev pub Each_fits_at : (N : Names) (T : Told) (K : Kinds) → World → Tys → List Known → Type 0
Each_fits_at N T K world none [] = Unit {0}
Each_fits_at N T K world none (s ∷ ss) = ⊥
Each_fits_at N T K world (more t ts) [] = ⊥
Each_fits_at N T K world (more t ts) (s ∷ ss) = Fits N T K t world s × Each_fits_at N T K world ts ss

module _ (N : Names) (T : Told) (K : Kinds) (world : World) where
  abbrev pub Part_fits : ℕ → Tys → Text → Known → Type 0
  Part_fits n ts g s = Keyed N T K (N.shapes.fields n) ts world (N.label g) s

  abbrev pub Each_fits : Tys → List Known → Type 0
  Each_fits ts ss = Each_fits_at N T K world ts ss

  pub each_learn : (world' : World) → Learns N K world world' → (ts : Tys) (ss : List Known) → Each_fits ts ss → Each_fits_at N T K world' ts ss
  each_learn world' g none [] h = tt
  each_learn world' g none (s ∷ ss) h = absurd h
  each_learn world' g (more t ts) [] h = absurd h
  each_learn world' g (more t ts) (s ∷ ss) h = (fits_learn N T K t world world' g s h.0, each_learn world' g ts ss h.1)

  pub each_listed : (ts : Tys) (ss : Knowns) → All_fit N T K ts world ss → Each_fits ts (listed ss)
  unfolding All_fit
  each_listed none no_known h = tt
  each_listed none (known_and s ss) h = absurd h
  each_listed (more t ts) no_known h = absurd h
  each_listed (more t ts) (known_and s ss) h = (h.0, each_listed ts ss h.1)

  abbrev Found : Option Known → Ty → Type 0
  Found o t = (s : Known) × (o ≡ Some s) × Fits N T K t world s

  abbrev Is_record_of : ℕ → Tys → Known_fields → Type 0
  Is_record_of n ts fs = Are_keys N (N.shapes.fields n) (keys fs) × (count ts ≡ length (N.shapes.fields n)) × Each_field (λ g u. Keyed N T K (N.shapes.fields n) ts world (N.label g) u) fs

  pub field_fits : (f : Text) (u : Ty) (n : ℕ) (ts : Tys) (fs : Known_fields) → HasPart N.shapes (N.label f) (Made (head.Record n) ts) u → Is_record_of n ts fs → Found (field f fs) u
  unfolding part_named place
  field_fits f u n ts fs h k =
      let inside : In (N.label f) (N.shapes.fields n) = placed_label (N.label f) (N.shapes.fields n) ts u h in
      let r = key_found f fs ((k.0.same f).1 (list_in (N.shapes.fields n) (N.label f) inside)) in
      (r.0, r.1, keyed_found N T K (N.label f) u world r.0 (N.shapes.fields n) ts h (each_found (Part_fits n ts) f r.0 fs k.2 r.1))

  -- values under their names
  record Builds (n : ℕ) (ts : Tys) (names : List Text) (ss : List Known) : Type 0 where
    pairs : List (Text × Known)
    named : named_values names ss ≡ Some pairs
    ordered : In_order (keys (fields pairs))
    keys_to : (s : Text) → Is_key s (keys (fields pairs)) → Named s names
    keys_from : (s : Text) → Named s names → Is_key s (keys (fields pairs))
    parts : Each_field (Part_fits n ts) (fields pairs)

  builds : (n : ℕ) (ts : Tys) (names : List Text) (us : Tys) (ss : List Known) → Apart (map N.label names) → Parts_named N names (Made (head.Record n) ts) us → Each_fits us ss → Builds n ts names ss
  unfolding part_named place
  builds n ts [] none [] o h k = record { pairs = []; named = refl; ordered = tt; keys_to = λ s i. i; keys_from = λ s i. i; parts = tt }
  builds n ts [] none (s ∷ ss) o h k = absurd k
  builds n ts [] (more u us) ss o h k = absurd h
  builds n ts (f ∷ names) none ss o h k = absurd h
  builds n ts (f ∷ names) (more u us) [] o h k = absurd k
  builds n ts (f ∷ names) (more u us) (v ∷ ss) o h k =
      let r = builds n ts names us ss o.1 h.1 k.1 in
      let e : keys (with_field f v (fields r.pairs)) ≡ put f (Tuple_value no_value) (keys (fields r.pairs)) = keys_put f v (fields r.pairs) in
      let lacks : Is_key f (keys (fields r.pairs)) → ⊥ = λ i. o.0 (named_label N.label f names (r.keys_to f i)) in
      record {
        pairs = (f, v) ∷ r.pairs;
        named = ap (with_name f v) r.named;
        ordered = subst In_order (sym e) (order_put f (Tuple_value no_value) (keys (fields r.pairs)) lacks r.ordered);
        keys_to = λ s i. elim (key_put s f (Tuple_value no_value) (keys (fields r.pairs)) (subst (Is_key s) e i)) as (λ d. Named s (f ∷ names)) [ inl e ↦ inl e | inr j ↦ inr (r.keys_to s j) ];
        keys_from = λ s i. subst (Is_key s) (sym e) (key_stays s f (Tuple_value no_value) (keys (fields r.pairs)) (elim i as (λ d. (s ≡ f) ⊎ Is_key s (keys (fields r.pairs))) [ inl e ↦ inl e | inr j ↦ inr (r.keys_from s j) ]));
        parts = each_put (Part_fits n ts) f v (fields r.pairs) (keyed_from N T K (N.label f) u world v (N.shapes.fields n) ts h.0 k.0) r.parts;
      }

  module _ (are : AreNames N) where
    -- the names of a record's parts are those of its type
    named_inside : (n : ℕ) (ts : Tys) (names : List Text) (us : Tys) → Parts_named N names (Made (head.Record n) ts) us → (s : Text) → Named s names → In (N.label s) (N.shapes.fields n)
    unfolding part_named place
    named_inside n ts [] us h s i = absurd i
    named_inside n ts (f ∷ names) none h s i = absurd h
    named_inside n ts (f ∷ names) (more u us) h s (inl e) = subst (λ x. In (N.label x) (N.shapes.fields n)) (sym e) (placed_label (N.label f) (N.shapes.fields n) ts u h.0)
    named_inside n ts (f ∷ names) (more u us) h s (inr j) = named_inside n ts names us h.1 s j

    pub record_fits : (names : List Text) (t : Ty) (us : Tys) (ss : List Known) → IsRecord N names t us → Each_fits us ss → (pairs : List (Text × Known)) × (named_values names ss ≡ Some pairs) × Fits N T K t world (Record_known (fields pairs))
    unfolding Fits
    record_fits names t us ss r k =
        let named : Parts_named N names (Made (head.Record r.number) r.parts) us = subst (λ x. Parts_named N names x us) r.made r.named in
        let b = builds r.number r.parts names us ss (labels_apart N are names r.once) named k in
        let inside : (s : Text) → Named s names → In (N.label s) (N.shapes.fields r.number) = named_inside r.number r.parts names us named in
        let filled : (l : ℕ) → In l (N.shapes.fields r.number) → In l (map N.label names) = covers (map N.label names) (N.shapes.fields r.number) (labels_apart N are names r.once)
        (λ l i. let q = label_named N.label names l i in subst (λ x. In x (N.shapes.fields r.number)) (sym q.2) (inside q.0 q.1)) (let x = r.fields in let y = long_map N.label names in omega (arith, x, y)) in (
          b.pairs,
          b.named,
          subst (λ x. Fits N T K x world (Record_known (fields b.pairs))) (sym r.made) (
            record {
              ordered = b.ordered;
              same = λ s. (
                (λ i. list_in (N.shapes.fields r.number) (N.label s) (inside s (b.keys_to s i))),
                (λ c. let q = label_named N.label names (N.label s) (filled (N.label s) (in_list (N.shapes.fields r.number) (N.label s) c)) in b.keys_from s (subst (λ x. Named x names) (sym (are.one_label s q.0 q.2)) q.1)),
              );
            },
            r.all ∙ sym r.fields,
            b.parts,
          ),
        )

    -- ---- parts
    tuple_part : (ts : Tys) (ss : Knowns) (i k : ℕ) (f : Text) (u : Ty) → part_at (Some i) ts ≡ Some u → All_fit N T K ts world ss → decimal (k + i) ≡ f → k + count ts ≤ widest → Found (part_from k f ss) u
    unfolding part_at All_fit
    tuple_part none ss i k f u e h d le = absurd (let z : None ≡ Some u = e in cc)
    tuple_part (more t ts) no_known i k f u e h d le = absurd h
    tuple_part (more t ts) (known_and s ss) zero k f u e h d le =
        let here : decimal k ≡ f = ap decimal (let w : k ≡ k + 0 = omega arith in w) ∙ d in
        (s, ap (λ b. cond b (Some s) (part_from (suc k) f ss)) (ap (λ g. bytes_eq g f) here ∙ eq_here f), subst (λ x. Fits N T K x world s) (some_same e) h.0)
    tuple_part (more t ts) (known_and s ss) (suc i) k f u e h d le =
        let some : i < count ts = part_low ts i u e in
        let z : k + (1 + count ts) ≤ widest = le in
        let ne : decimal k ≢ f = λ same. let q : k ≡ k + suc i = one_number k (k + suc i) (omega arith) (omega arith) (same ∙ sym d) in omega arith in
        let r = tuple_part ts ss i (suc k) f u e h.1 (ap decimal (let w : suc k + i ≡ k + suc i = omega arith in w) ∙ d) (omega arith) in
        (r.0, ap (λ b. cond b (Some s) (part_from (suc k) f ss)) (eq_other (decimal k) f ne) ∙ r.1, r.2)

    tuple_project : (f : Text) (t : Ty) (ts : Tys) (ss : Knowns) → HasPart N.shapes (N.label f) (Made head.Tuple ts) t → count ts < widest → All_fit N T K ts world ss → Found (part_from 0 f ss) t
    unfolding part_named place part_at
    tuple_project f t ts ss h lt k = known (N.shapes.position (N.label f)) refl h
      where
        known : (o : Option ℕ) → N.shapes.position (N.label f) ≡ o → part_at o ts ≡ Some t → Found (part_from 0 f ss) t
        known None is e = absurd (let z : None ≡ Some t = e in cc)
        known (Some i) is e = let some : i < count ts = part_low ts i t e in
            tuple_part ts ss i 0 f t e k (ap decimal (let w : 0 + i ≡ i = omega arith in w) ∙ spelled f i ((are.position f i).0 is) (omega arith)) (omega arith)

    -- it is one component and data, or its part is known
    abbrev pub Projects : Text → Ty → Ty → Known → Type 0
    Projects f t u s = ((w : Atom) × (s ≡ Scalar_known w) × Is_data N t × types_of N K world.1 w u) ⊎ Found (part f s) t

    tuple_data : (f : Text) (t : Ty) (ts : Tys) → HasPart N.shapes (N.label f) (Made head.Tuple ts) t → All_data N ts → Is_data N t
    unfolding part_named place part_at
    tuple_data f t ts h d = known (N.shapes.position (N.label f)) h
      where
        known : (o : Option ℕ) → part_at o ts ≡ Some t → Is_data N t
        known None e = absurd (let z : None ≡ Some t = e in cc)
        known (Some i) e = all_data_part N T K ts i t e d

    record_data : (f : Text) (t : Ty) (n : ℕ) (ts : Tys) → HasPart N.shapes (N.label f) (Made (head.Record n) ts) t → Record_data N n ts → Is_data N t
    unfolding part_named place
    record_data f t n ts h d = part_data N T K (N.label f) t (N.shapes.fields n) ts h (d f (list_in (N.shapes.fields n) (N.label f) (placed_label (N.label f) (N.shapes.fields n) ts t h)))

    pub project_fits : (f : Text) (t u : Ty) (s : Known) → HasPart N.shapes (N.label f) u t → Fits N T K u world s → Projects f t u s
    unfolding Fits part_named place part_at
    project_fits f t (Var n) s h k = absurd (let z : None ≡ Some t = h in cc)
    project_fits f t (Made (head.Scalar x) ts) s h k = absurd (let z : None ≡ Some t = h in cc)
    project_fits f t (Made head.Array ts) s h k = absurd (let z : None ≡ Some t = h in cc)
    project_fits f t (Made head.Tuple ts) (Tuple_known ss) h k = inr (tuple_project f t ts ss h k.0 k.1)
    project_fits f t (Made head.Tuple ts) (Scalar_known w) h k = inl (w, refl, tuple_data f t ts h k.0, k.1)
    project_fits f t (Made head.Tuple ts) (Record_known fs) h k = absurd k
    project_fits f t (Made head.Tuple ts) (Function_known ps e lo sc) h k = absurd k
    project_fits f t (Made head.Tuple ts) (Primitive_known p at ss) h k = absurd k
    project_fits f t (Made (head.Record n) ts) (Record_known fs) h k = inr (field_fits f t n ts fs h k)
    project_fits f t (Made (head.Record n) ts) (Scalar_known w) h k = inl (w, refl, record_data f t n ts h k.0, k.1)
    project_fits f t (Made (head.Record n) ts) (Tuple_known ss) h k = absurd k
    project_fits f t (Made (head.Record n) ts) (Function_known ps e lo sc) h k = absurd k
    project_fits f t (Made (head.Record n) ts) (Primitive_known p at ss) h k = absurd k
    project_fits f t (Made head.Fun ts) s h k = absurd (let z : None ≡ Some t = h in cc)
    project_fits f t (Made (head.Rigid n d) ts) s h k = absurd (let z : None ≡ Some t = h in cc)
    project_fits f t (Made (head.Abstract n d) ts) s h k = absurd (let z : None ≡ Some t = h in cc)

    -- a record of which a field is replaced: one component, and the new field may be one too, or with known fields
    abbrev pub Replaces : Text → Ty → Known → Known → Type 0
    Replaces f t u s = ((w : Atom) × (u ≡ Scalar_known w) × Is_data N t × Packing s × types_of N K world.1 w t) ⊎ ((fs : Known_fields) × (u ≡ Record_known fs) × Fits N T K t world (Record_known (replaced f s fs)))

    pub replace_fits : (f : Text) (t x : Ty) (u s : Known) → ((n : ℕ) → Spells f n → ⊥) → HasPart N.shapes (N.label f) t x → Fits N T K t world u → Fits N T K x world s → Replaces f t u s
    unfolding Fits Is_data part_named place part_at
    replace_fits f (Var n) x u s lacks h k g = absurd (let z : None ≡ Some x = h in cc)
    replace_fits f (Made (head.Scalar y) ts) x u s lacks h k g = absurd (let z : None ≡ Some x = h in cc)
    replace_fits f (Made head.Array ts) x u s lacks h k g = absurd (let z : None ≡ Some x = h in cc)
    replace_fits f (Made head.Tuple ts) x u s lacks h k g = absurd (no_number N are f x ts lacks h)
    replace_fits f (Made (head.Record n) ts) x (Record_known fs) s lacks h k g = inr (
      fs,
      refl,
      (
        subst (Are_keys N (N.shapes.fields n)) (sym (keys_replaced f s fs)) k.0,
        k.1,
        each_replaced (Part_fits n ts) f s fs (keyed_from N T K (N.label f) x world s (N.shapes.fields n) ts h g) k.2,
      ),
    )
    replace_fits f (Made (head.Record n) ts) x (Scalar_known w) s lacks h k g = inl (w, refl, k.0, shaped_packing s (shaped N T K world x s (record_data f x n ts h k.0) g), k.1)
    replace_fits f (Made (head.Record n) ts) x (Tuple_known ss) s lacks h k g = absurd k
    replace_fits f (Made (head.Record n) ts) x (Function_known ps e lo sc) s lacks h k g = absurd k
    replace_fits f (Made (head.Record n) ts) x (Primitive_known p at ss) s lacks h k g = absurd k
    replace_fits f (Made head.Fun ts) x u s lacks h k g = absurd (let z : None ≡ Some x = h in cc)
    replace_fits f (Made (head.Rigid n d) ts) x u s lacks h k g = absurd (let z : None ≡ Some x = h in cc)
    replace_fits f (Made (head.Abstract n d) ts) x u s lacks h k g = absurd (let z : None ≡ Some x = h in cc)

    -- ---- patterns of records
    parts_fit : (names : List Text) (n : ℕ) (ts us : Tys) (fs : Known_fields) → Parts_named N names (Made (head.Record n) ts) us → Is_record_of n ts fs → (ss : List Known) × (record_parts names fs ≡ Some ss) × Each_fits us ss
    parts_fit [] n ts none fs h k = ([], refl, tt)
    parts_fit [] n ts (more u us) fs h k = absurd h
    parts_fit (f ∷ names) n ts none fs h k = absurd h
    parts_fit (f ∷ names) n ts (more u us) fs h k =
        let g = field_fits f u n ts fs h.0 k in
        let r = parts_fit names n ts us fs h.1 k in
        (g.0 ∷ r.0, subst (λ o. with_known o names fs ≡ Some (g.0 ∷ r.0)) (sym g.1) (subst (λ o. with_rest g.0 o ≡ Some (g.0 ∷ r.0)) (sym r.1) refl), (g.2, r.2))

    parts_data : (names : List Text) (n : ℕ) (ts us : Tys) → Parts_named N names (Made (head.Record n) ts) us → Record_data N n ts → All_data N us
    unfolding All_data
    parts_data [] n ts none h d = tt
    parts_data [] n ts (more u us) h d = absurd h
    parts_data (f ∷ names) n ts none h d = absurd h
    parts_data (f ∷ names) n ts (more u us) h d = (record_data f u n ts h.0 d, parts_data names n ts us h.1 d)

    -- where the form is known
    pub known_parts_fit : (names : List Text) (t : Ty) (us : Tys) (fs : Known_fields) → IsRecord N names t us → Fits N T K t world (Record_known fs) → (ss : List Known) × (record_parts names fs ≡ Some ss) × Each_fits us ss
    unfolding Fits
    known_parts_fit names t us fs r k = parts_fit names r.number r.parts us fs (subst (λ x. Parts_named N names x us) r.made r.named) (subst (λ x. Fits N T K x world (Record_known fs)) r.made k)

    pub component_parts : (names : List Text) (t : Ty) (us : Tys) (w : Atom) → IsRecord N names t us → Fits N T K t world (Scalar_known w) → All_data N us
    unfolding Fits
    component_parts names t us w r k = let d : Fits N T K (Made (head.Record r.number) r.parts) world (Scalar_known w) = subst (λ x. Fits N T K x world (Scalar_known w)) r.made k in
        parts_data names r.number r.parts us (subst (λ x. Parts_named N names x us) r.made r.named) d.0

    pub record_parts_fit : (names : List Text) (t : Ty) (us : Tys) (s : Known) → IsRecord N names t us → Fits N T K t world s → ((w : Atom) × (s ≡ Scalar_known w) × All_data N us) ⊎ ((fs : Known_fields) × (s ≡ Record_known fs) × ((ss : List Known) × (record_parts names fs ≡ Some ss) × Each_fits us ss))
    unfolding Fits
    record_parts_fit names t us s r k =
        let named : Parts_named N names (Made (head.Record r.number) r.parts) us = subst (λ x. Parts_named N names x us) r.made r.named in
        let D : Atom → Type 0 = λ u. Record_data N r.number r.parts × types_of N K world.1 u (Made (head.Record r.number) r.parts) in
        let h : On_record D (Is_record_of r.number r.parts) s = subst (λ x. Fits N T K x world s) r.made k in
        elim (record_is D (Is_record_of r.number r.parts) s h) as (λ d. ((w : Atom) × (s ≡ Scalar_known w) × All_data N us) ⊎ ((fs : Known_fields) × (s ≡ Record_known fs) × ((ss : List Known) × (record_parts names fs ≡ Some ss) × Each_fits us ss))) [
          | inl q ↦ inl (q.0, q.1, parts_data names r.number r.parts us named q.2.0)
          | inr q ↦ inr (q.0, q.1, parts_fit names r.number r.parts us q.0 named q.2)
        ]
