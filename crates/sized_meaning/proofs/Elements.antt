-- Array literals are of their sized types: elements that agree with the first are of its type, and without elements an array has
-- rows of the type that its node tells.
use Rattle.sized_meaning.proofs.Size_reports.{datum_fine}
use Rattle.sized_meaning.specs.There.{There}
use Rattle.std.proofs.Common.{◌≡◌, ℕ, zero, suc, ◌+◌, List, [], ◌∷◌, length, Bool, true, false, cond, Ok, Err, refl, sym, ap, ◌∙◌, subst, arith}
use Rattle.fut_scalar.specs.declared.place.BindId.{BindId}
use Rattle.fut_scalar.specs.declared.place.Place.{Place}
use Rattle.fut_flat.specs.declared.prim.Ref.{Ref}
use Rattle.fut_flat.specs.Numbers.{numbers}
use Rattle.fut_flat.specs.Terms.{Array_of, Terms, no_term, term_and}
use Rattle.fut_types.specs.Types.{Sub}
use Rattle.fut_typing.specs.Names.{Names}
use Rattle.fut_value.specs.Data.{Shape, Datum, shape_of}
use Rattle.fut_meaning.specs.Arrays.{fresh, array, made, Make_array}
use Rattle.fut_meaning.specs.Datums.{as_value, datum_of, all_data}
use Rattle.fut_meaning.specs.Flats.{FlatValue, FlatEnv, flat_names}
use Rattle.fut_meaning.specs.Found.{Found, number, shape_found, told_shape}
use Rattle.fut_meaning.specs.Telling.{found}
use Rattle.fut_meaning.specs.Places.{row_of}
use Rattle.fut_meaning.specs.Meaning.{row_told, fits_type, Of_literal}
use Rattle.fut_meaning.specs.Operations.{operated}
use Rattle.fut_meaning.specs.Outcomes.{Val, gives, the, Then}
use Rattle.fut_meaning.specs.Values.{values}
use Rattle.fut_meaning.proofs.Safe.{Every}
use Rattle.sized_types.specs.Sizes.{Const, Name, Own, Unknown, Slot, Dim, At, Bound, Size, Hole, Open, Level, Built, Fun, Sizes, no_size, size_and, is_dim}
use Rattle.sized_types.specs.Standing.{is_known, all_known, is_chosen}
use Rattle.fut_sizes.specs.Agreeing.{Mismatch, Answer, then_do, compare, agree, all_agree}
use Rattle.fut_sizes.specs.Operations.{operation, elements_agree, many}
use Rattle.fut_sizes.specs.Rules.{part_sizes}
use Rattle.fut_sizes.specs.Suiting.{Each, Each_all, Data}
use Rattle.sized_meaning.specs.Worth.{Worth, no_frames, number as size_number}
use Rattle.sized_meaning.specs.Shapes.{Meant, Has_shape, Has_datum}
use Rattle.sized_meaning.specs.Finding.{One_kind_each, Well_formed}
use Rattle.sized_meaning.specs.Fits.{Out_fits, Gives, Fits, All_fit}
use Rattle.sized_meaning.specs.Law.{Sound, World, told, calls, Elements, Array_parts, Result as Res}
use Rattle.sized_meaning.proofs.Outcomes.{gives_exact, gives_then, out_of}
use Rattle.sized_meaning.proofs.Suiting.{same_ok}
use Rattle.sized_meaning.proofs.Scalars.{out_then}
use Rattle.sized_meaning.proofs.Finding.{told_right, dim_same, data_formed}
use Rattle.sized_meaning.proofs.Datas.{datum_shaped, fits_datum}
use Rattle.sized_meaning.proofs.Entered.{both_true}
use Rattle.sized_meaning.proofs.Environments.{known_data, known_holes}
use Rattle.sized_meaning.proofs.Alike.{Alike, alike_hole, alike_level, alike_built, All_alike, alike_none, alike_more, alike_fits}
use Rattle.sized_meaning.proofs.Branches.{Same_form, same_hole, same_level, same_built, All_same_form, same_none, same_more, same_form}
use Rattle.sized_meaning.proofs.Mapping.{array_gives, array_value}

-- ---- agreement

pub then_ok : {A B : Type 0} (r : Answer A) (k : A → Answer B) (b : B) → then_do r k ≡ Ok b → (a : A) × (r ≡ Ok a) × (k a ≡ Ok b)
then_ok (Ok a) k b e = (a, refl, e)
then_ok {B = B} (Err x) k b e = absurd (let z : ◌≡◌ {A = Answer B} (Err x) (Ok b) = e in cc)

pub compared : (at : ℕ) (d e : Dim) (u : Unit {0}) → compare at d e ≡ Ok u → d ≡ e
compared at d e u q = by_test (is_dim d e) refl q
  where
    by_test : (b : Bool) → is_dim d e ≡ b → ◌≡◌ {A = Answer (Unit {0})} (cond b (Ok tt) (Err (Mismatch at d e))) (Ok u) → d ≡ e
    by_test true w q = dim_same d e w
    by_test false w q = absurd (let z : ◌≡◌ {A = Answer (Unit {0})} (Err (Mismatch at d e)) (Ok u) = q in cc)

module _ (m : Worth) (at : ℕ) where
  mutual
    unfolding agree all_agree

    pub agreed : {t u : Size} → Same_form t u → (z : Unit {0}) → agree at t u ≡ Ok z → Alike m m u t
    agreed same_hole z e = alike_hole
    agreed (same_level {d} {e} {t} {u} q) z w = let r = then_ok (compare at d e) (λ z. agree at t u) z w in alike_level (ap (size_number m no_frames) (sym (compared at d e r.0 r.1))) (agreed q z r.2)
    agreed (same_built q) z e = alike_built (all_agreed q z e)

    all_agreed : {ts us : Sizes} → All_same_form ts us → (z : Unit {0}) → all_agree at ts us ≡ Ok z → All_alike m m us ts
    all_agreed same_none z e = alike_none
    all_agreed (same_more {t} {u} {ts} {us} q qs) z e = let r = then_ok (agree at t u) (λ z. all_agree at ts us) z e in alike_more (agreed q r.0 r.1) (all_agreed qs z r.2)

-- ---- what is known by itself is found under any names

known_number : (m : Worth) (V : Found) (d : Dim) → is_chosen d ≡ true → number V d ≡ size_number m no_frames d
known_number m V (At (Const c)) e = refl
known_number m V (At (Name b)) e = absurd (let z : false ≡ true = e in cc)
known_number m V (At (Own n i)) e = absurd (let z : false ≡ true = e in cc)
known_number m V (At (Unknown n i)) e = absurd (let z : false ≡ true = e in cc)
known_number m V (At (Slot i)) e = absurd (let z : false ≡ true = e in cc)
known_number m V (Bound zero i) e = refl
known_number m V (Bound (suc j) i) e = absurd (let z : false ≡ true = e in cc)

module _ (m : Worth) (V : Found) where
  mutual
    unfolding is_known all_known Each Each_all

    known_there : (t : Size) → is_known t ≡ true → Each (λ j d. number V d ≡ size_number m no_frames d) 0 t
    known_there (Hole v) e = tt
    known_there (Open n v u) e = tt
    known_there (Level d t) e = let b = both_true (is_chosen d) (is_known t) e in (known_number m V d b.0, known_there t b.1)
    known_there (Built k ts) e = all_known_there ts e
    known_there (Fun k p r) e = absurd (let z : false ≡ true = e in cc)

    all_known_there : (ts : Sizes) → all_known ts ≡ true → Each_all (λ j d. number V d ≡ size_number m no_frames d) 0 ts
    all_known_there no_size e = tt
    all_known_there (size_and t ts) e = let b = both_true (is_known t) (all_known ts) e in (known_there t b.0, all_known_there ts b.1)

module _ (N : Names) (types : Sub) (τ : Meant) (W : World) (S : Sound N types W.sizing) (one : One_kind_each τ) (m : Worth) where
  abbrev s : ℕ → Size
  s n = W.sizing.size_at n

  abbrev Of : Size → FlatValue → Type 0
  Of t v = Fits N τ W.sizing W.is_there (calls W) m no_frames t v

  abbrev parts : Terms Ref BindId → ℕ → Sizes
  parts ts at = part_sizes N types W.sizing.size_at W.sizing.home ts at

  -- elements that agree with the first are of its type
  elements_fit : (first : ℕ) → Data (s first) → (es : Terms Ref BindId) (at : ℕ) (vs : List FlatValue) (z : Unit {0}) → Elements N types W (types first) es at → elements_agree (s first) es at (parts es at) ≡ Ok z
      → All_fit N τ W.sizing W.is_there (calls W) m no_frames (parts es at) (values vs) → Every (Of (s first)) vs × (length vs ≡ many (parts es at))
  unfolding All_fit elements_agree
  elements_fit first d no_term at [] z p e h = (tt, refl)
  elements_fit first d no_term at (v ∷ vs) z p e h = absurd h
  elements_fit first d (term_and x es) at [] z p e h = absurd h
  elements_fit first d (term_and x es) at (v ∷ vs) z p e h =
      let r = then_ok (agree at (s first) (s at)) (λ z. elements_agree (s first) es (at + numbers x) (parts es (at + numbers x))) z e in
      let form = same_form W.sizing.fields (s first) (s at) d p.0 (S.formed first) (S.formed at) (S.typed first ∙ sym p.1 ∙ sym (S.typed at)) in
      let rest = elements_fit first d es (at + numbers x) vs z p.2 r.2 h.1 in
      (((alike_fits N τ m m W.sizing W.is_there (calls W) (agreed m at form r.0 r.1) v).0 h.0, rest.0), ap suc rest.1)

  data_given : (t : Size) → Data t → (vs : List FlatValue) → Every (Of t) vs → Out_fits (There W.is_there) (λ ds. Every (Has_datum N τ m no_frames t) ds × (length ds ≡ length vs)) (all_data vs)
  data_given t d [] e = (tt, refl)
  data_given t d (v ∷ vs) e = out_then _ (Has_datum N τ m no_frames t) (λ ds. Every (Has_datum N τ m no_frames t) ds × (length ds ≡ length (v ∷ vs))) (datum_of v) _
      (out_of _ (Has_datum N τ m no_frames t) (datum_of v) (datum_fine W.is_there v) (λ x q. fits_datum N τ W.sizing W.is_there (calls W) m no_frames t d v x q e.0))
      (λ x hx. out_then _ (λ ds. Every (Has_datum N τ m no_frames t) ds × (length ds ≡ length vs)) (λ ds. Every (Has_datum N τ m no_frames t) ds × (length ds ≡ length (v ∷ vs))) (all_data vs) (λ ds. Val (x ∷ ds))
      (data_given t d vs e.1) (λ ds q. ((hx, q.0), ap suc q.1)))

  -- an array of data of a type, where what is told for one without rows is a shape of it
  literal_gives : (t : Size) (n : ℕ) (row : Shape) (mark : Place) (ds : List Datum) → length ds ≡ n → (ds ≡ [] → Has_shape N τ m no_frames t row) → Every (Has_datum N τ m no_frames t) ds → Out_fits (There W.is_there) (Has_datum N τ m no_frames (Level (At (Const n)) t)) (array false mark row ds)
  unfolding array
  literal_gives t n row mark [] l h e = array_gives N types τ W S one m no_frames (At (Const n)) t mark row [] l (h refl) e
  literal_gives t n row mark (d ∷ ds) l h e = array_gives N types τ W S one m no_frames (At (Const n)) t mark (shape_of d) (d ∷ ds) l (datum_shaped N τ m no_frames t d e.0) e

  -- the row of a literal's node, where its type is known by itself
  told_row : (lo : ℕ) (env : FlatEnv) (t : Size) → W.sizing.size_at lo ≡ Level (At (Const 0)) t → is_known t ≡ true → Has_shape N τ m no_frames t (row_told ((flat_names (told W)).lang W.tops) (Of_literal env lo))
  unfolding row_told told_shape Well_formed flat_names
  told_row lo env t e k =
      let V : Found = found W.sizing env in
      let f : Well_formed W.sizing.fields t = subst (Well_formed W.sizing.fields) e (S.formed lo) in
      subst (λ u. Has_shape N τ m no_frames t (row_of (told_shape W.sizing.fields (number V) (shape_found V) u))) (sym e)
      (told_right N W.sizing.fields S.fields τ m no_frames S.names (number V) (shape_found V) t (data_formed W.sizing.fields t (known_data t k) f) (known_there m V t k) (known_holes (λ v. (τ v).shape (shape_found V v)) t k))

  array_done : (t : Size) (n lo : ℕ) (row : Shape) (mark : Place) (vs : List FlatValue) → Data t → Level (At (Const n)) t ≡ s lo → length vs ≡ n → (length vs ≡ 0 → Has_shape N τ m no_frames t row) → Every (Of t) vs
      → Gives (There W.is_there) (Res N types τ W lo (1 + lo) m (s lo)) (Then (the (all_data vs)) (λ ds. Then (the (made false row Make_array mark ds)) (λ r. gives r.0 (as_value r.1))))
  unfolding made
  array_done t n lo row mark vs d same l h e =
      gives_then (λ ds. Every (Has_datum N τ m no_frames t) ds × (length ds ≡ length vs)) (Res N types τ W lo (1 + lo) m (s lo)) _ _
      (gives_exact _ (λ ds. Every (Has_datum N τ m no_frames t) ds × (length ds ≡ length vs)) 0 (all_data vs) (data_given t d vs e))
      (λ ds q. gives_then (λ r. Has_datum N τ m no_frames (Level (At (Const n)) t) r.1) (Res N types τ W lo (1 + lo) m (s lo)) _ _
      (gives_exact _ (λ r. Has_datum N τ m no_frames (Level (At (Const n)) t) r.1) 0 _ (out_then _ (Has_datum N τ m no_frames (Level (At (Const n)) t)) (λ r. Has_datum N τ m no_frames (Level (At (Const n)) t) r.1) (array false mark row ds) fresh
      (literal_gives t n row mark ds (q.1 ∙ l) (λ z. h (sym q.1 ∙ ap length z)) q.0) (λ x y. y)))
      (λ r x. gives_exact _ (Res N types τ W lo (1 + lo) m (s lo)) r.0 (Val (as_value r.1)) (record { now = m; old = λ d o. refl; fits = subst (λ u. Of u (as_value r.1)) same (array_value N types τ W S one m no_frames (At (Const n)) t r.1 x) })))

  no_element : (t : Size) (vs : List FlatValue) → All_fit N τ W.sizing W.is_there (calls W) m no_frames no_size (values vs) → Every (Of t) vs × (length vs ≡ 0)
  unfolding All_fit
  no_element t [] h = (tt, refl)
  no_element t (v ∷ vs) h = absurd h

  pub array_fits : (mark : Place) (ts : Terms Ref BindId) (lo : ℕ) (env : FlatEnv) (vs : List FlatValue) → Array_parts N types W lo ts (lo + 1) → All_fit N τ W.sizing W.is_there (calls W) m no_frames (parts ts (lo + 1)) (values vs)
      → operation N types Array_of lo (lo + 1) ts (parts ts (lo + 1)) ≡ Ok (s lo)
      → Gives (There W.is_there) (Res N types τ W lo (1 + lo) m (s lo)) (operated false (row_told ((flat_names (told W)).lang W.tops) (Of_literal env lo)) (fits_type ((flat_names (told W)).lang W.tops) env lo) (W.integer_at lo) Array_of mark vs)
  unfolding All_fit operation
  array_fits mark no_term lo env vs p h e =
      let q = no_element p.0 vs h in
      array_done p.0 0 lo (row_told ((flat_names (told W)).lang W.tops) (Of_literal env lo)) mark vs (known_data p.0 p.2) (sym p.1) q.1 (λ z. told_row lo env p.0 p.1 p.2) q.0
  array_fits mark (term_and x es) lo env [] p h e = absurd h
  array_fits mark (term_and x es) lo env (v ∷ vs) p h e =
      let at : ℕ = lo + 1 + numbers x in
      let r = then_ok (elements_agree (s (lo + 1)) es at (parts es at)) (λ z. Ok (Level (At (Const (suc (many (parts es at))))) (s (lo + 1)))) (s lo) e in
      let q = elements_fit (lo + 1) p.0 es at vs r.0 p.2 r.1 h.1 in
      array_done (s (lo + 1)) (suc (many (parts es at))) lo (row_told ((flat_names (told W)).lang W.tops) (Of_literal env lo)) mark (v ∷ vs) p.0 (same_ok _ (s lo) r.2) (ap suc q.1) (λ z. absurd (omega (arith, z))) (h.0, q.0)
