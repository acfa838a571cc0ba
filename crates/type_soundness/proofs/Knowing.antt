-- What is known of data: a type of data knows data alone. And what is known stays where more definitions are known.
use Rattle.std.proofs.Common.{◌≡◌, Bool, true, false, cond, ℕ, ◌≤◌, ◌<◌, min, refl, sym, ap, ◌∙◌, subst, arith, List, [], ◌∷◌, Option, Some, None, if◌then◌else◌, ◌==◌, eq-eqb}
use native.Mathlib.Decide.{ℕ_discrete}
use Rattle.std.specs.Str.{bytes_eq}
use Rattle.std.proofs.lemmas.Slice.Eq.{bytes_eq-Decides}
use Rattle.fut_ast.specs.Sorts.{Text}
use Rattle.fut_types.specs.declared.Kind.TheVariants as kind
use Rattle.fut_types.specs.declared.Head.TheVariants as head
use Rattle.fut_types.specs.Types.{Ty, Var, Made, Tys, none, more, Kinds, HasKind, rank, least}
use Rattle.fut_types.specs.Shapes.{place, place_from, part_at, part_named, HasPart}
use Rattle.fut_typing.specs.Names.{Names, AreNames, count}
use Rattle.fut_typing.proofs.Members.{In, label_of}
use Rattle.fut_meaning.specs.Knowns.{Known, Data, Known_tuple, Known_record, Known_function, Known_primitive, Knowns, known_none, known_and, Known_fields, known_no_field, known_field, Scope as Seen, is_data, all_data, fields_data, known_tuple, known_record, known_field_of}
use Rattle.fut_meaning.proofs.Walk.{some_same, opposite}
use Rattle.type_soundness.specs.Fits.{widest}
use Rattle.type_soundness.specs.Knows.{Clear, Learns, Each_field, Has_parts, Knows, All_know, All_data, Parts_data, Keyed}
use Rattle.type_soundness.proofs.Records.{Apart, numbers_apart, here_place, there_place, placed_label}

module _ (S : ℕ → Bool) where
  pub learns_self : (tops : Seen) → Clear S tops → Learns S tops tops
  learns_self tops clear = ((λ k s e. e), clear)

  pub learns_more : (tops tops' tops'' : Seen) → Learns S tops tops' → Learns S tops' tops'' → Learns S tops tops''
  learns_more tops tops' tops'' g h = ((λ k s e. h.0 k s (g.0 k s e)), h.1)

pub data_is : (s : Known) → is_data s ≡ true → s ≡ Data
data_is Data e = refl
data_is (Known_tuple ss) e = absurd (let z : false ≡ true = e in cc)
data_is (Known_record fs) e = absurd (let z : false ≡ true = e in cc)
data_is (Known_function ps e' sc) e = absurd (let z : false ≡ true = e in cc)
data_is (Known_primitive p ss) e = absurd (let z : false ≡ true = e in cc)

pub is_no_data : {C : Type 0} {s : Known} → s ≡ Data → is_data s ≡ false → C
is_no_data e f = absurd (let z : true ≡ false = sym (ap is_data e) ∙ f in cc)

both_true : (x y : Bool) → cond x y false ≡ true → (x ≡ true) × (y ≡ true)
both_true true y e = (refl, e)
both_true false y e = absurd (let z : false ≡ true = e in cc)

-- ---- fields
pub each_map : (P Q : Text → Known → Type 0) → ((g : Text) (s : Known) → P g s → Q g s) → (fs : Known_fields) → Each_field P fs → Each_field Q fs
each_map P Q go known_no_field h = tt
each_map P Q go (known_field g s fs) h = (go g s h.0, each_map P Q go fs h.1)

each_only : (P : Text → Known → Type 0) → ((g : Text) (s : Known) → P g s → s ≡ Data) → (fs : Known_fields) → Each_field P fs → fields_data fs ≡ true
each_only P go known_no_field h = refl
each_only P go (known_field g s fs) h = ap (λ b. cond b (fields_data fs) false) (ap is_data (go g s h.0)) ∙ each_only P go fs h.1

each_is_data : (fs : Known_fields) → fields_data fs ≡ true → Each_field (λ g s. s ≡ Data) fs
each_is_data known_no_field e = tt
each_is_data (known_field g s fs) e = let r = both_true (is_data s) (fields_data fs) e in (data_is s r.0, each_is_data fs r.1)

pub each_found : (P : Text → Known → Type 0) (f : Text) (s : Known) (fs : Known_fields) → Each_field P fs → known_field_of f fs ≡ Some s → P f s
each_found P f s known_no_field h e = absurd (let z : None ≡ Some s = e in cc)
each_found P f s (known_field g u fs) h e = known (bytes_eq g f) refl (each_found P f s fs h.1) e
  where
    known : (b : Bool) → bytes_eq g f ≡ b → (known_field_of f fs ≡ Some s → P f s) → cond b (Some u) (known_field_of f fs) ≡ Some s → P f s
    known true is rec e = subst (λ x. P x s) ((bytes_eq-Decides g f).0 is) (subst (λ y. P g y) (some_same e) h.0)
    known false is rec e = rec e

-- ---- a label's part
module _ (N : Names) (S : ℕ → Bool) where
  pub keyed_found : (l : ℕ) (u : Ty) (tops : Seen) (s : Known) (ls : List ℕ) (ts : Tys) → part_at (place_from 0 l ls) ts ≡ Some u → Keyed N S ls ts tops l s → Knows N S u tops s
  unfolding Keyed place_from part_at
  keyed_found l u tops s [] ts e h = absurd h
  keyed_found l u tops s (x ∷ xs) none e h = absurd h
  keyed_found l u tops s (x ∷ xs) (more t ts) e h = elim (ℕ_discrete x l) as (λ d. Knows N S u tops s) [
    | yes same ↦
        let here : Some t ≡ Some u = subst (λ b. part_at (if b then Some 0 else place_from 1 l xs) (more t ts) ≡ Some u) (eq-eqb x l same) e in
        subst (λ w. Knows N S w tops s) (some_same here) (h.0 same)
    | no ne ↦ keyed_found l u tops s xs ts (sym (there_place l x xs t ts ne) ∙ e) (h.1 ne)
  ]

  pub keyed_from : (l : ℕ) (u : Ty) (tops : Seen) (s : Known) (ls : List ℕ) (ts : Tys) → part_at (place_from 0 l ls) ts ≡ Some u → Knows N S u tops s → Keyed N S ls ts tops l s
  unfolding Keyed place_from part_at
  keyed_from l u tops s [] none e h = absurd (let z : None ≡ Some u = e in cc)
  keyed_from l u tops s [] (more t ts) e h = absurd (let z : None ≡ Some u = e in cc)
  keyed_from l u tops s (x ∷ xs) none e h = absurd (none_at (if x == l then Some 0 else place_from 1 l xs) e)
    where
      none_at : (o : Option ℕ) → part_at o none ≡ Some u → ⊥
      none_at None e = let z : None ≡ Some u = e in cc
      none_at (Some i) e = let z : None ≡ Some u = e in cc
  keyed_from l u tops s (x ∷ xs) (more t ts) e h = (
    (λ same. subst (λ w. Knows N S w tops s) (sym (some_same (subst (λ b. part_at (if b then Some 0 else place_from 1 l xs) (more t ts) ≡ Some u) (eq-eqb x l same) e))) h),
    (λ ne. keyed_from l u tops s xs ts (sym (there_place l x xs t ts ne) ∙ e) h),
  )

  pub parts_found : (l : ℕ) (u : Ty) (tops : Seen) (ls : List ℕ) (ts : Tys) → part_at (place_from 0 l ls) ts ≡ Some u → Parts_data N S ls ts tops → Knows N S u tops Data
  unfolding Parts_data place_from part_at
  parts_found l u tops [] none e h = absurd (let z : None ≡ Some u = e in cc)
  parts_found l u tops [] (more t ts) e h = absurd (let z : None ≡ Some u = e in cc)
  parts_found l u tops (x ∷ xs) none e h = absurd (none_at (if x == l then Some 0 else place_from 1 l xs) e)
    where
      none_at : (o : Option ℕ) → part_at o none ≡ Some u → ⊥
      none_at None e = let z : None ≡ Some u = e in cc
      none_at (Some i) e = let z : None ≡ Some u = e in cc
  parts_found l u tops (x ∷ xs) (more t ts) e h = elim (ℕ_discrete x l) as (λ d. Knows N S u tops Data) [
    | yes same ↦
        let here : Some t ≡ Some u = subst (λ b. part_at (if b then Some 0 else place_from 1 l xs) (more t ts) ≡ Some u) (eq-eqb x l same) e in
        subst (λ w. Knows N S w tops Data) (some_same here) h.0
    | no ne ↦ parts_found l u tops xs ts (sym (there_place l x xs t ts ne) ∙ e) h.1
  ]

  parts_from : (tops : Seen) (ls : List ℕ) (ts : Tys) → Apart ls → ((l : ℕ) (u : Ty) → part_at (place_from 0 l ls) ts ≡ Some u → Knows N S u tops Data) → Parts_data N S ls ts tops
  unfolding Parts_data
  parts_from tops [] ts a h = tt
  parts_from tops (l ∷ ls) none a h = tt
  parts_from tops (l ∷ ls) (more t ts) a h = (
    h l t (here_place l ls t ts),
    parts_from tops ls ts a.1 (λ m u p. h m u (there_place m l ls t ts (λ same. a.0 (subst (λ x. In x ls) (sym same) (placed_label m ls ts u p))) ∙ p)),
  )

  -- ---- more definitions
  mutual
    unfolding Knows All_know All_data Parts_data Keyed

    pub knows_learn : (t : Ty) (tops tops' : Seen) → Learns S tops tops' → (s : Known) → Knows N S t tops s → Knows N S t tops' s
    knows_learn (Var n) tops tops' g s h = h
    knows_learn (Made (head.Scalar x) ts) tops tops' g s h = h
    knows_learn (Made head.Array ts) tops tops' g s h = h
    knows_learn (Made head.Tuple ts) tops tops' g Data h = all_data_learn ts tops tops' g h
    knows_learn (Made head.Tuple ts) tops tops' g (Known_tuple ss) h = (h.0, (h.1.0, all_know_learn ts tops tops' g ss h.1.1))
    knows_learn (Made head.Tuple ts) tops tops' g (Known_record fs) h = absurd h
    knows_learn (Made head.Tuple ts) tops tops' g (Known_function ps e sc) h = absurd h
    knows_learn (Made head.Tuple ts) tops tops' g (Known_primitive p ss) h = absurd h
    knows_learn (Made (head.Record n) ts) tops tops' g Data h = parts_data_learn (N.shapes.fields n) ts tops tops' g h
    knows_learn (Made (head.Record n) ts) tops tops' g (Known_tuple ss) h = absurd h
    knows_learn (Made (head.Record n) ts) tops tops' g (Known_record fs) h =
        (h.0, (each_map (λ f u. Keyed N S (N.shapes.fields n) ts tops (N.label f) u) (λ f u. Keyed N S (N.shapes.fields n) ts tops' (N.label f) u) (λ f u k. keyed_learn (N.shapes.fields n) ts tops tops' g (N.label f) u k) fs h.1.0, h.1.1))
    knows_learn (Made (head.Record n) ts) tops tops' g (Known_function ps e sc) h = absurd h
    knows_learn (Made (head.Record n) ts) tops tops' g (Known_primitive p ss) h = absurd h
    knows_learn (Made head.Fun none) tops tops' g s h = h
    knows_learn (Made head.Fun (more t none)) tops tops' g s h = h
    knows_learn (Made head.Fun (more t (more u none))) tops tops' g s h = (h.0, λ tops'' g'. h.1 tops'' (learns_more S tops tops' tops'' g g'))
    knows_learn (Made head.Fun (more t (more u (more w ts)))) tops tops' g s h = h
    knows_learn (Made (head.Rigid n k) ts) tops tops' g s h = h
    knows_learn (Made (head.Abstract n d) ts) tops tops' g s h = h

    all_know_learn : (ts : Tys) (tops tops' : Seen) → Learns S tops tops' → (ss : Knowns) → All_know N S ts tops ss → All_know N S ts tops' ss
    all_know_learn none tops tops' g ss h = h
    all_know_learn (more t ts) tops tops' g known_none h = absurd h
    all_know_learn (more t ts) tops tops' g (known_and s ss) h = (knows_learn t tops tops' g s h.0, all_know_learn ts tops tops' g ss h.1)

    all_data_learn : (ts : Tys) (tops tops' : Seen) → Learns S tops tops' → All_data N S ts tops → All_data N S ts tops'
    all_data_learn none tops tops' g h = tt
    all_data_learn (more t ts) tops tops' g h = (knows_learn t tops tops' g Data h.0, all_data_learn ts tops tops' g h.1)

    parts_data_learn : (ls : List ℕ) (ts : Tys) (tops tops' : Seen) → Learns S tops tops' → Parts_data N S ls ts tops → Parts_data N S ls ts tops'
    parts_data_learn [] ts tops tops' g h = tt
    parts_data_learn (l ∷ ls) none tops tops' g h = tt
    parts_data_learn (l ∷ ls) (more t ts) tops tops' g h = (knows_learn t tops tops' g Data h.0, parts_data_learn ls ts tops tops' g h.1)

    keyed_learn : (ls : List ℕ) (ts : Tys) (tops tops' : Seen) → Learns S tops tops' → (l : ℕ) (s : Known) → Keyed N S ls ts tops l s → Keyed N S ls ts tops' l s
    keyed_learn [] ts tops tops' g l s h = absurd h
    keyed_learn (x ∷ ls) none tops tops' g l s h = absurd h
    keyed_learn (x ∷ ls) (more t ts) tops tops' g l s h = ((λ e. knows_learn t tops tops' g s (h.0 e)), (λ ne. keyed_learn ls ts tops tops' g l s (h.1 ne)))

  -- ---- data
  mutual
    unfolding Knows All_know All_data Parts_data Keyed

    -- where data is known, nothing else is
    pub only_data : (t : Ty) (tops : Seen) (s : Known) → Knows N S t tops Data → Knows N S t tops s → s ≡ Data
    only_data (Var n) tops s d h = h
    only_data (Made (head.Scalar x) ts) tops s d h = h
    only_data (Made head.Array ts) tops s d h = h
    only_data (Made head.Tuple ts) tops Data d h = refl
    only_data (Made head.Tuple ts) tops (Known_tuple ss) d h = opposite (all_only ts tops ss d h.1.1) h.0
    only_data (Made head.Tuple ts) tops (Known_record fs) d h = absurd h
    only_data (Made head.Tuple ts) tops (Known_function ps e sc) d h = absurd h
    only_data (Made head.Tuple ts) tops (Known_primitive p ss) d h = absurd h
    only_data (Made (head.Record n) ts) tops Data d h = refl
    only_data (Made (head.Record n) ts) tops (Known_tuple ss) d h = absurd h
    only_data (Made (head.Record n) ts) tops (Known_record fs) d h = opposite (each_only (λ f u. Keyed N S (N.shapes.fields n) ts tops (N.label f) u) (λ f u k. keyed_only (N.shapes.fields n) ts tops (N.label f) u d k) fs h.1.0) h.0
    only_data (Made (head.Record n) ts) tops (Known_function ps e sc) d h = absurd h
    only_data (Made (head.Record n) ts) tops (Known_primitive p ss) d h = absurd h
    only_data (Made head.Fun none) tops s d h = absurd h
    only_data (Made head.Fun (more t none)) tops s d h = absurd h
    only_data (Made head.Fun (more t (more u none))) tops s d h = absurd (let e : false ≡ true = d.0 in cc)
    only_data (Made head.Fun (more t (more u (more w ts)))) tops s d h = absurd h
    only_data (Made (head.Rigid n k) ts) tops s d h = h
    only_data (Made (head.Abstract n a) ts) tops s d h = h

    pub all_only : (ts : Tys) (tops : Seen) (ss : Knowns) → All_data N S ts tops → All_know N S ts tops ss → all_data ss ≡ true
    all_only none tops known_none d h = refl
    all_only none tops (known_and s ss) d h = absurd h
    all_only (more t ts) tops known_none d h = absurd h
    all_only (more t ts) tops (known_and s ss) d h = ap (λ b. cond b (all_data ss) false) (ap is_data (only_data t tops s d.0 h.0)) ∙ all_only ts tops ss d.1 h.1

    keyed_only : (ls : List ℕ) (ts : Tys) (tops : Seen) (l : ℕ) (s : Known) → Parts_data N S ls ts tops → Keyed N S ls ts tops l s → s ≡ Data
    keyed_only [] ts tops l s d h = absurd h
    keyed_only (x ∷ ls) none tops l s d h = absurd h
    keyed_only (x ∷ ls) (more t ts) tops l s d h = elim (ℕ_discrete x l) as (λ z. s ≡ Data) [ yes e ↦ only_data t tops s d.0 (h.0 e) | no ne ↦ keyed_only ls ts tops l s d.1 (h.1 ne) ]

  module _ (K : Kinds) where
    mutual
      unfolding Knows All_data Parts_data rank least

      -- a type of data knows data
      pub kind_data : (t : Ty) (tops : Seen) → HasKind K kind.Data t → Knows N S t tops Data
      kind_data (Var n) tops h = refl
      kind_data (Made (head.Scalar x) ts) tops h = refl
      kind_data (Made head.Array ts) tops h = refl
      kind_data (Made head.Tuple ts) tops h = let z : 1 ≤ min 2 (least K ts) = h in kinds_data ts tops (omega (arith, z))
      kind_data (Made (head.Record n) ts) tops h = let z : 1 ≤ min 2 (least K ts) = h in kinds_parts (N.shapes.fields n) ts tops (omega (arith, z))
      kind_data (Made head.Fun ts) tops h = absurd (let z : 1 ≤ min 0 (least K ts) = h in omega (arith, z))
      kind_data (Made (head.Rigid n k) ts) tops h = refl
      kind_data (Made (head.Abstract n d) ts) tops h = refl

      pub kinds_data : (ts : Tys) (tops : Seen) → 1 ≤ least K ts → All_data N S ts tops
      kinds_data none tops h = tt
      kinds_data (more t ts) tops h = let z : 1 ≤ min (rank K t) (least K ts) = h in (kind_data t tops (omega (arith, z)), kinds_data ts tops (omega (arith, z)))

      kinds_parts : (ls : List ℕ) (ts : Tys) (tops : Seen) → 1 ≤ least K ts → Parts_data N S ls ts tops
      kinds_parts [] ts tops h = tt
      kinds_parts (l ∷ ls) none tops h = tt
      kinds_parts (l ∷ ls) (more t ts) tops h = let z : 1 ≤ min (rank K t) (least K ts) = h in (kind_data t tops (omega (arith, z)), kinds_parts ls ts tops (omega (arith, z)))

    -- and it knows nothing else
    pub kind_only : (t : Ty) (tops : Seen) (s : Known) → HasKind K kind.Data t → Knows N S t tops s → s ≡ Data
    kind_only t tops s k h = only_data t tops s (kind_data t tops k) h

  -- ---- tuples and records that are made
  all_know_data : (ts : Tys) (tops : Seen) (ss : Knowns) → All_know N S ts tops ss → all_data ss ≡ true → All_data N S ts tops
  unfolding All_know All_data
  all_know_data none tops ss h e = tt
  all_know_data (more t ts) tops known_none h e = absurd h
  all_know_data (more t ts) tops (known_and s ss) h e = let r = both_true (is_data s) (all_data ss) e in (subst (λ x. Knows N S t tops x) (data_is s r.0) h.0, all_know_data ts tops ss h.1 r.1)

  pub tuple_known : (ts : Tys) (tops : Seen) (ss : Knowns) → count ts < widest → All_know N S ts tops ss → Knows N S (Made head.Tuple ts) tops (known_tuple ss)
  unfolding Knows
  tuple_known ts tops ss lt h = known (all_data ss) refl
    where
      known : (b : Bool) → all_data ss ≡ b → Knows N S (Made head.Tuple ts) tops (cond b Data (Known_tuple ss))
      known true e = all_know_data ts tops ss h e
      known false e = (e, (lt, h))

  module _ (are : AreNames N) where
    -- the field of a name
    pub field_known : (f : Text) (u : Ty) (tops : Seen) (n : ℕ) (ts : Tys) (fs : Known_fields) → HasPart N.shapes (N.label f) (Made (head.Record n) ts) u → Each_field (λ g s. Keyed N S (N.shapes.fields n) ts tops (N.label g) s) fs → Has_parts N n ts fs
        → (s : Known) × (known_field_of f fs ≡ Some s) × Knows N S u tops s
    unfolding part_named place
    field_known f u tops n ts fs h each has = known (known_field_of f fs) refl
      where
        known : (o : Option Known) → known_field_of f fs ≡ o → (s : Known) × (known_field_of f fs ≡ Some s) × Knows N S u tops s
        known None e = absurd (has f u h e)
        known (Some s) e = (s, e, keyed_found (N.label f) u tops s (N.shapes.fields n) ts h (each_found (λ g s. Keyed N S (N.shapes.fields n) ts tops (N.label g) s) f s fs each e))

    pub record_known : (tops : Seen) (n : ℕ) (ts : Tys) (fs : Known_fields) → Each_field (λ g s. Keyed N S (N.shapes.fields n) ts tops (N.label g) s) fs → Has_parts N n ts fs → Knows N S (Made (head.Record n) ts) tops (known_record fs)
    unfolding Knows part_named place
    record_known tops n ts fs each has = known (fields_data fs) refl
      where
        is_part : fields_data fs ≡ true → (l : ℕ) (u : Ty) → HasPart N.shapes l (Made (head.Record n) ts) u → Knows N S u tops Data
        is_part e l u p =
            let g = label_of N are l (Made (head.Record n) ts) u p in
            let r = field_known g.0 u tops n ts fs (subst (λ x. HasPart N.shapes x (Made (head.Record n) ts) u) g.1 p) each has in
            subst (λ x. Knows N S u tops x) (each_found (λ g s. s ≡ Data) g.0 r.0 fs (each_is_data fs e) r.1) r.2

        known : (b : Bool) → fields_data fs ≡ b → Knows N S (Made (head.Record n) ts) tops (cond b Data (Known_record fs))
        known true e = parts_from tops (N.shapes.fields n) ts (numbers_apart (N.shapes.fields n) (are.once n)) (λ l u p. is_part e l u p)
        known false e = (e, (each, has))
