-- Records and the parts of records and tuples are of their sized types: making a record, another value for one of its fields, and a
-- part that a name or a position names.
use Rattle.sized_meaning.specs.There.{There}
use Rattle.std.specs.Prelude.{decimal, ◌*◌, ◌^◌, map}
use Rattle.std.specs.Int.{IsInRange}
use Rattle.std.specs.Str.{bytes_eq}
use Rattle.std.specs.Str.Parse.{digits_value}
use Rattle.std.proofs.Common.{◌≡◌, ℕ, zero, suc, ◌+◌, ◌-◌, ◌<◌, ◌≤◌, ◌==◌, List, [], ◌∷◌, length, Bool, true, false, cond, if◌then◌else◌, nat_eq, Option, Some, None, refl, sym, ap, ◌∙◌, subst, arith, eqb-true, eq-eqb}
use Rattle.std.proofs.lemmas.Slice.Eq.{bytes_eq-Decides}
use Rattle.std.proofs.lemmas.Str.Parse.{IsDigitsTest, FoldsDigits, IsNumeralModel, numerals_by_fold}
use Rattle.std.proofs.lemmas.Fmt.{decimal-digits_value, decimal_is_IsNumeral}
use Rattle.fut_ast.specs.Sorts.{Text}
use Rattle.fut_types.specs.declared.Head.TheVariants as head
use Rattle.fut_types.specs.Shapes.{place, place_from}
use Rattle.fut_types.specs.Types.{Sub}
use Rattle.fut_typing.specs.Names.{Names, Digits, Spells}
use Rattle.fut_meaning.specs.Accessors.{or_wrong, part_from}
use Rattle.fut_meaning.specs.Flats.{FlatValue}
use Rattle.fut_meaning.specs.Operations.{with_name, named_values}
use Rattle.fut_meaning.specs.Values.{Record_value, no_value, value_and, no_field, field_and, values, is_before, with_field, fields, field, replaced}
use Rattle.sized_types.specs.Sizes.{Size, Built, Sizes, no_size, size_and}
use Rattle.fut_sizes.specs.Agreeing.{is_among}
use Rattle.fut_sizes.specs.Operations.{many, labelled, in_order}
use Rattle.fut_sizes.specs.WrittenSizes.{part as size_part, with_part, part_of}
use Rattle.sized_meaning.specs.Worth.{Worth, no_frames}
use Rattle.sized_meaning.specs.Shapes.{Meant, Record_names}
use Rattle.sized_meaning.specs.Finding.{One_kind_each}
use Rattle.sized_meaning.specs.Fits.{FlatValues, FlatFields, field_names, Out_fits, Fits, All_fit, Named_fit}
use Rattle.sized_meaning.specs.Law.{Sound, World, calls, Apart_labels}
use Rattle.sized_meaning.proofs.Fields.{record_put, field_put, absent, changed_names}
use Rattle.sized_meaning.proofs.Finding.{some_same, none_no, text_same, same_text, place_on}

-- ---- positions as they are written

Are_digits : List ℕ → Type 0
Are_digits [] = Unit {0}
Are_digits (c ∷ cs) = IsInRange 48 57 c × Are_digits cs

value_after : ℕ → List ℕ → ℕ
value_after n [] = n
value_after n (c ∷ cs) = value_after (n * 10 + (c - 48)) cs

are_test : IsDigitsTest Are_digits
unfolding Are_digits
are_test = record { empty = tt; parts = λ c cs h. h; more = λ c cs h k. (h, k) }

are_folds : FoldsDigits value_after
unfolding value_after
are_folds = record { empty = λ n. refl; more = λ n c cs h. refl }

model : IsNumeralModel Are_digits (value_after 0)
model = numerals_by_fold Are_digits are_test value_after are_folds

digits_are : (before : ℕ) (cs : List ℕ) (n : ℕ) → Digits before cs n → Are_digits cs × (value_after before cs ≡ n)
unfolding Are_digits value_after
digits_are before [] n h = (tt, h)
digits_are before (c ∷ cs) n h =
    let le : h.0 ≤ 9 = h.1 in
    let e : c ≡ 48 + h.0 = h.2 in
    let r = digits_are (10 * before + h.0) cs n h.3 in
    ((((omega (arith, e)), (omega (arith, e, le))), r.0), ap (λ m. value_after m cs) (let z : before * 10 + (c - 48) ≡ 10 * before + h.0 = omega (arith, e) in z) ∙ r.1)

spelled : (s : Text) (n : ℕ) → Spells s n → n < 2 ^ 64 → decimal n ≡ s
unfolding Are_digits
spelled [] n h lt = absurd h
spelled (c ∷ []) n h lt = let r = digits_are 0 (c ∷ []) n h in
    ap decimal (sym r.1) ∙ decimal-digits_value model (c ∷ []) r.0 (omega arith) (λ e. refl) (subst (λ m. m < 2 ^ 64) (sym r.1) lt)
spelled (c ∷ d ∷ cs) n h lt = let r = digits_are 0 (c ∷ d ∷ cs) n h.1 in
    ap decimal (sym r.1) ∙ decimal-digits_value model (c ∷ d ∷ cs) r.0 (omega arith) (λ e. absurd (h.0 e)) (subst (λ m. m < 2 ^ 64) (sym r.1) lt)

one_number : (m n : ℕ) → m < 2 ^ 64 → n < 2 ^ 64 → decimal m ≡ decimal n → m ≡ n
one_number m n p q e = sym (decimal_is_IsNumeral m p).1 ∙ ap (digits_value 10) e ∙ (decimal_is_IsNumeral n q).1

-- ---- fields that are put in, and one that has another value

behind : (f g : Text) (v : FlatValue) (o : Option FlatValue) → (f ≡ g → ⊥) → cond (bytes_eq g f) (Some v) o ≡ o
behind f g v o ne = tested (bytes_eq g f) refl
  where
    tested : (b : Bool) → bytes_eq g f ≡ b → cond b (Some v) o ≡ o
    tested true q = absurd (ne (sym (text_same g f q)))
    tested false q = refl

first : (f : Text) (v : FlatValue) (o : Option FlatValue) → cond (bytes_eq f f) (Some v) o ≡ Some v
first f v o = ap (λ b. cond b (Some v) o) ((bytes_eq-Decides f f).1 refl)

put_in : (f : Text) (v : FlatValue) (gs : FlatFields) → field f gs ≡ None → field f (with_field f v gs) ≡ Some v
put_in f v no_field e = first f v None
put_in f v (field_and g w gs) e = tested (is_before f g) (further (bytes_eq g f) e (λ q. put_in f v gs q))
  where
    further : (b : Bool) → cond b (Some w) (field f gs) ≡ None → (field f gs ≡ None → field f (with_field f v gs) ≡ Some v) → cond b (Some w) (field f (with_field f v gs)) ≡ Some v
    further true q rest = none_no (sym q)
    further false q rest = rest q

    tested : (b : Bool) → cond (bytes_eq g f) (Some w) (field f (with_field f v gs)) ≡ Some v → field f (cond b (field_and f v (field_and g w gs)) (field_and g w (with_field f v gs))) ≡ Some v
    tested true q = first f v (cond (bytes_eq g f) (Some w) (field f gs))
    tested false q = q

put_other : (f g : Text) (v : FlatValue) (gs : FlatFields) → (f ≡ g → ⊥) → field f (with_field g v gs) ≡ field f gs
put_other f g v no_field ne = behind f g v None ne
put_other f g v (field_and h w gs) ne = tested (is_before g h) (put_other f g v gs ne)
  where
    tested : (b : Bool) → field f (with_field g v gs) ≡ field f gs → field f (cond b (field_and g v (field_and h w gs)) (field_and h w (with_field g v gs))) ≡ cond (bytes_eq h f) (Some w) (field f gs)
    tested true rest = behind f g v (cond (bytes_eq h f) (Some w) (field f gs)) ne
    tested false rest = ap (λ z. cond (bytes_eq h f) (Some w) z) rest

changed_here : (f : Text) (w : FlatValue) (gs : FlatFields) (c : FlatValue) → field f gs ≡ Some c → field f (replaced f w gs) ≡ Some w
changed_here f w no_field c e = none_no e
changed_here f w (field_and g v gs) c e = tested (bytes_eq g f) refl e (λ q. changed_here f w gs c q)
  where
    tested : (b : Bool) → bytes_eq g f ≡ b → cond b (Some v) (field f gs) ≡ Some c → (field f gs ≡ Some c → field f (replaced f w gs) ≡ Some w) → field f (cond b (field_and g w gs) (field_and g v (replaced f w gs))) ≡ Some w
    tested true q e rest = ap (λ b. cond b (Some w) (field f gs)) q
    tested false q e rest = ap (λ b. cond b (Some v) (field f (replaced f w gs))) q ∙ rest e

changed_other : (f g : Text) (w : FlatValue) (gs : FlatFields) → (g ≡ f → ⊥) → field g (replaced f w gs) ≡ field g gs
changed_other f g w no_field ne = refl
changed_other f g w (field_and h v gs) ne = tested (bytes_eq h f) refl (changed_other f g w gs ne)
  where
    tested : (b : Bool) → bytes_eq h f ≡ b → field g (replaced f w gs) ≡ field g gs → field g (cond b (field_and h w gs) (field_and h v (replaced f w gs))) ≡ cond (bytes_eq h g) (Some v) (field g gs)
    tested true q rest = let ne' : g ≡ h → ⊥ = λ e. ne (e ∙ text_same h f q) in behind g h w (field g gs) ne' ∙ sym (behind g h v (field g gs) ne')
    tested false q rest = ap (λ z. cond (bytes_eq h g) (Some v) z) rest

-- ---- each name with its value

with_name_is : (f : Text) (v : FlatValue) (o : Option (List (Text × FlatValue))) (gs : List (Text × FlatValue)) → with_name f v o ≡ Some gs → (hs : List (Text × FlatValue)) × (o ≡ Some hs) × ((f, v) ∷ hs ≡ gs)
with_name_is f v (Some hs) gs e = (hs, refl, some_same e)
with_name_is f v None gs e = none_no e

-- ---- the place of a label

nth_label : List ℕ → ℕ → Option ℕ
nth_label [] k = None
nth_label (x ∷ xs) zero = Some x
nth_label (x ∷ xs) (suc k) = nth_label xs k

label_there : (at label : ℕ) (xs : List ℕ) (k : ℕ) → place_from at label xs ≡ Some (k + at) → nth_label xs k ≡ Some label
unfolding place_from nth_label
label_there at label [] k e = none_no e
label_there at label (x ∷ xs) k e = tested (x == label) refl e k refl (λ k q. label_there (suc at) label xs k q) (λ i q. place_on (suc at) label xs i q)
  where
    tested : (b : Bool) → x == label ≡ b → (if b then Some at else place_from (suc at) label xs) ≡ Some (k + at) → (j : ℕ) → j ≡ k → ((k : ℕ) → place_from (suc at) label xs ≡ Some (k + suc at) → nth_label xs k ≡ Some label) → ((i : ℕ) → place_from (suc at) label xs ≡ Some i → suc at ≤ i) → nth_label (x ∷ xs) j ≡ Some label
    tested true q e zero z rest low = ap Some (eqb-true x label q)
    tested true q e (suc j) z rest low = absurd (let w : at ≡ k + at = some_same e in omega (arith, w, z))
    tested false q e zero z rest low = absurd (let w = low (k + at) e in omega (arith, w, z))
    tested false q e (suc j) z rest low = rest j (e ∙ ap Some (let w : k + at ≡ j + suc at = omega (arith, z) in w))

-- a label that is there has a place
among_placed : (at label : ℕ) (xs : List ℕ) → is_among xs label ≡ true → (i : ℕ) × (place_from at label xs ≡ Some i) × (i < length xs + at)
unfolding place_from
among_placed at label [] e = absurd (let z : false ≡ true = e in cc)
among_placed at label (x ∷ xs) e = tested (x == label) refl (nat_eq label x) refl e (λ q. among_placed (suc at) label xs q)
  where
    tested : (b : Bool) → x == label ≡ b → (c : Bool) → nat_eq label x ≡ c → cond c true (is_among xs label) ≡ true → (is_among xs label ≡ true → (i : ℕ) × (place_from (suc at) label xs ≡ Some i) × (i < length xs + suc at))
        → (i : ℕ) × ((if b then Some at else place_from (suc at) label xs) ≡ Some i) × (i < suc (length xs) + at)
    tested true q c w e rest = (at, refl, omega arith)
    tested false q true w e rest = absurd (let z : true ≡ false = sym (eq-eqb x label (sym (eqb-true label x w))) ∙ q in cc)
    tested false q false w e rest = let k = rest e in (k.0, k.1, (let l = k.2 in omega (arith, l)))

later_label : (x y : Bool) → y ≡ true → cond x true y ≡ true
later_label true y e = refl
later_label false y e = e

-- one that is not among the labels of names is none of theirs
no_label : (N : Names) (f g : Text) (gs : List Text) → is_among (map N.label (g ∷ gs)) (N.label f) ≡ false → (f ≡ g → ⊥) × (is_among (map N.label gs) (N.label f) ≡ false)
no_label N f g gs e = tested (nat_eq (N.label f) (N.label g)) refl e
  where
    tested : (b : Bool) → nat_eq (N.label f) (N.label g) ≡ b → cond b true (is_among (map N.label gs) (N.label f)) ≡ false → (f ≡ g → ⊥) × (is_among (map N.label gs) (N.label f) ≡ false)
    tested true q e = absurd (let z : true ≡ false = e in cc)
    tested false q e = ((λ z. let w : true ≡ false = sym (eq-eqb (N.label f) (N.label g) (ap N.label z)) ∙ q in cc), e)

none_named : (N : Names) (f : Text) (gs : List Text) (vs : List FlatValue) (named : List (Text × FlatValue)) → is_among (map N.label gs) (N.label f) ≡ false → named_values gs vs ≡ Some named → field f (fields named) ≡ None
none_named N f [] [] named n e = subst (λ y. field f (fields y) ≡ None) (some_same e) refl
none_named N f [] (v ∷ vs) named n e = none_no e
none_named N f (g ∷ gs) [] named n e = none_no e
none_named N f (g ∷ gs) (v ∷ vs) named n e =
    let r = with_name_is g v (named_values gs vs) named e in
    let q = no_label N f g gs n in
    subst (λ y. field f (fields y) ≡ None) r.2 (put_other f g v (fields r.0) q.0 ∙ none_named N f gs vs r.0 q.1 r.1)

module _ (N : Names) (types : Sub) (τ : Meant) (W : World) (S : Sound N types W.sizing) (one : One_kind_each τ) (m : Worth) where
  abbrev Of : Size → FlatValue → Type 0
  Of t v = Fits N τ W.sizing W.is_there (calls W) m no_frames t v

  -- ---- a record of values

  -- the part and the value of the name with this label
  record One_part (l : ℕ) (fs : List Text) (ts rest : Sizes) (gs : FlatFields) : Type 0 where
    part : Size
    labelled_part : labelled N l fs ts rest ≡ size_and part rest
    value : FlatValue
    valued : (f : Text) → N.label f ≡ l → field f gs ≡ Some value
    fits : Of part value

  one_part : (l : ℕ) (fs : List Text) (ts rest : Sizes) (vs : List FlatValue) (named : List (Text × FlatValue)) → Apart_labels N fs → is_among (map N.label fs) l ≡ true → named_values fs vs ≡ Some named → All_fit N τ W.sizing W.is_there (calls W) m no_frames ts (values vs) → One_part l fs ts rest (fields named)
  unfolding All_fit
  one_part l [] ts rest vs named apart among e h = absurd (let z : false ≡ true = among in cc)
  one_part l (g ∷ fs) ts rest [] named apart among e h = none_no e
  one_part l (g ∷ fs) no_size rest (v ∷ vs) named apart among e h = absurd h
  one_part l (g ∷ fs) (size_and t ts) rest (v ∷ vs) named apart among e h =
      let r = with_name_is g v (named_values fs vs) named e in
      subst (λ y. One_part l (g ∷ fs) (size_and t ts) rest (fields y)) r.2
      (tested (nat_eq (N.label g) l) refl (nat_eq l (N.label g)) refl r.0 r.1 among (λ q. one_part l fs ts rest vs r.0 apart.1 q r.1 h.1))
    where
      tested : (b : Bool) → nat_eq (N.label g) l ≡ b → (c : Bool) → nat_eq l (N.label g) ≡ c → (later : List (Text × FlatValue)) → named_values fs vs ≡ Some later → cond c true (is_among (map N.label fs) l) ≡ true → (is_among (map N.label fs) l ≡ true → One_part l fs ts rest (fields later)) → One_part l (g ∷ fs) (size_and t ts) rest (with_field g v (fields later))
      tested true q c w later is among go = record {
        part = t;
        labelled_part = ap (λ b. cond b (size_and t rest) (labelled N l fs ts rest)) q;
        value = v;
        valued = λ f k. subst (λ y. field y (with_field g v (fields later)) ≡ Some v) (S.names.one_label g f (eqb-true (N.label g) l q ∙ sym k)) (put_in g v (fields later) (none_named N g fs vs later apart.0 is));
        fits = h.0;
      }
      tested false q true w later is among go = absurd (let z : true ≡ false = sym (eq-eqb (N.label g) l (sym (eqb-true l (N.label g) w))) ∙ q in cc)
      tested false q false w later is among go = let r = go among in record {
        part = r.part;
        labelled_part = ap (λ b. cond b (size_and t rest) (labelled N l fs ts rest)) q ∙ r.labelled_part;
        value = r.value;
        valued = λ f k. put_other f g v (fields later) (λ z. let w : true ≡ false = sym (eq-eqb (N.label g) l (ap N.label (sym z) ∙ k)) ∙ q in cc) ∙ r.valued f k;
        fits = r.fits;
      }

  each_part : (n i : ℕ) (ls : List ℕ) (fs : List Text) (ts : Sizes) (vs : List FlatValue) (named : List (Text × FlatValue)) → Apart_labels N fs → ((l : ℕ) → is_among ls l ≡ true → is_among (map N.label fs) l ≡ true) → named_values fs vs ≡ Some named → All_fit N τ W.sizing W.is_there (calls W) m no_frames ts (values vs)
      → ((f : Text) (k : ℕ) → place N.shapes (N.label f) (head.Record n) ≡ Some (k + i) → nth_label ls k ≡ Some (N.label f)) → Record_names N n (length ls + i) (field_names (fields named)) → Named_fit N τ W.sizing W.is_there (calls W) m no_frames n i (in_order N ls fs ts) (fields named)
  unfolding Named_fit nth_label
  each_part n i [] fs ts vs named apart all e h there names = subst (λ k. Record_names N n k (field_names (fields named))) (let z : 0 + i ≡ i = omega arith in z) names
  each_part n i (l ∷ ls) fs ts vs named apart all e h there names =
      let r = one_part l fs ts (in_order N ls fs ts) vs named apart (all l (ap (λ b. cond b true (is_among ls l)) (eq-eqb l l refl))) e h in
      subst (λ us. Named_fit N τ W.sizing W.is_there (calls W) m no_frames n i us (fields named)) (sym r.labelled_part) (
        (λ f p. (r.value, r.valued f (sym (some_same (there f 0 (p ∙ ap Some (let z : i ≡ 0 + i = omega arith in z))))), r.fits)),
        each_part n (suc i) ls fs ts vs named apart (λ k q. all k (later k q)) e h (λ f k p. there f (suc k) (p ∙ ap Some (let z : k + suc i ≡ suc k + i = omega arith in z))) (subst (λ k. Record_names N n k (field_names (fields named))) (let z : length (l ∷ ls) + i ≡ length ls + suc i = omega arith in z) names),
      )
    where
      later : (k : ℕ) → is_among ls k ≡ true → is_among (l ∷ ls) k ≡ true
      later k q = tested (nat_eq k l)
        where
          tested : (b : Bool) → cond b true (is_among ls k) ≡ true
          tested true = refl
          tested false = q

  -- the names that are put in are those of the record's fields
  made_names : (n : ℕ) (fs : List Text) (vs : List FlatValue) (named : List (Text × FlatValue)) → Apart_labels N fs → ((l : ℕ) → is_among (map N.label fs) l ≡ true → is_among (N.shapes.fields n) l ≡ true) → named_values fs vs ≡ Some named → Record_names N n (length (N.shapes.fields n) + 0) (field_names (fields named))
  unfolding place
  made_names n [] [] named apart only e = subst (λ y. Record_names N n (length (N.shapes.fields n) + 0) (field_names (fields y))) (some_same e) (tt, tt)
  made_names n [] (v ∷ vs) named apart only e = none_no e
  made_names n (f ∷ fs) [] named apart only e = none_no e
  made_names n (f ∷ fs) (v ∷ vs) named apart only e =
      let r = with_name_is f v (named_values fs vs) named e in
      let p = among_placed 0 (N.label f) (N.shapes.fields n) (only (N.label f) (ap (λ b. cond b true (is_among (map N.label fs) (N.label f))) (eq-eqb (N.label f) (N.label f) refl))) in
      subst (λ y. Record_names N n (length (N.shapes.fields n) + 0) (field_names (fields y))) r.2
      (subst (Record_names N n (length (N.shapes.fields n) + 0)) (sym (field_put f v (fields r.0)))
      (record_put N n (length (N.shapes.fields n) + 0) f (field_names (fields r.0)) p.0 p.1 p.2 (absent f (fields r.0) (none_named N f fs vs r.0 apart.0 r.1))
      (made_names n fs vs r.0 apart.1 (λ l q. only l (later_label (nat_eq l (N.label f)) (is_among (map N.label fs) l) q)) r.1)))

  pub record_made : (n : ℕ) (fs : List Text) (ts : Sizes) (vs : List FlatValue) → Apart_labels N fs → ((l : ℕ) → is_among (N.shapes.fields n) l ≡ true → is_among (map N.label fs) l ≡ true) → ((l : ℕ) → is_among (map N.label fs) l ≡ true → is_among (N.shapes.fields n) l ≡ true) → All_fit N τ W.sizing W.is_there (calls W) m no_frames ts (values vs)
      → (named : List (Text × FlatValue)) → named_values fs vs ≡ Some named → Of (Built (head.Record n) (in_order N (N.shapes.fields n) fs ts)) (Record_value (fields named))
  unfolding Fits place
  record_made n fs ts vs apart all only h named e = each_part n 0 (N.shapes.fields n) fs ts vs named apart all e h (λ f k p. label_there 0 (N.label f) (N.shapes.fields n) k p) (made_names n fs vs named apart only e)

  -- ---- a record with another value for one field

  others_kept : (n i : ℕ) (f : Text) (w : FlatValue) (ts : Sizes) (gs : FlatFields) → ((g : Text) (j : ℕ) → i ≤ j → place N.shapes (N.label g) (head.Record n) ≡ Some j → g ≡ f → ⊥) → Named_fit N τ W.sizing W.is_there (calls W) m no_frames n i ts gs → Named_fit N τ W.sizing W.is_there (calls W) m no_frames n i ts (replaced f w gs)
  unfolding Named_fit
  others_kept n i f w no_size gs other h = subst (Record_names N n i) (sym (changed_names f w gs)) h
  others_kept n i f w (size_and t ts) gs other h = (
    (λ g p. let c = h.0 g p in (c.0, changed_other f g w gs (other g i (omega arith) p) ∙ c.1, c.2)),
    others_kept n (suc i) f w ts gs (λ g j l p. other g j (omega (arith, l)) p) h.1,
  )

  -- two names with places of their own are two
  two_places : (n i j : ℕ) (f g : Text) → place N.shapes (N.label f) (head.Record n) ≡ Some i → place N.shapes (N.label g) (head.Record n) ≡ Some j → g ≡ f → j ≡ i
  two_places n i j f g p q e = some_same (sym q ∙ ap (λ x. place N.shapes (N.label x) (head.Record n)) e ∙ p)

  one_changed : (n i k : ℕ) (f : Text) (u : Size) (w : FlatValue) (ts : Sizes) (gs : FlatFields) → place N.shapes (N.label f) (head.Record n) ≡ Some (k + i) → Of u w → Named_fit N τ W.sizing W.is_there (calls W) m no_frames n i ts gs → Named_fit N τ W.sizing W.is_there (calls W) m no_frames n i (with_part (Some k) (λ x. u) ts) (replaced f w gs)
  unfolding Named_fit
  one_changed n i k f u w no_size gs p hw h = subst (Record_names N n i) (sym (changed_names f w gs)) h
  one_changed n i zero f u w (size_and t ts) gs p hw h = (
    (λ g q. (
      w,
      subst (λ y. field y (replaced f w gs) ≡ Some w) (same_text N S.names n i f g (p ∙ ap Some (let z : 0 + i ≡ i = omega arith in z)) q)
          (changed_here f w gs _ (h.0 f (p ∙ ap Some (let z : 0 + i ≡ i = omega arith in z))).1),
      hw,
    )),
    others_kept n (suc i) f w ts gs (λ g j l q e. let z = two_places n (0 + i) j f g p q e in omega (arith, z, l)) h.1,
  )
  one_changed n i (suc k) f u w (size_and t ts) gs p hw h = (
    (λ g q. let c = h.0 g q in (c.0, changed_other f g w gs (λ e. let z = two_places n (suc k + i) i f g p q e in omega (arith, z)) ∙ c.1, c.2)),
    one_changed n (suc i) k f u w ts gs (p ∙ ap Some (let z : suc k + i ≡ k + suc i = omega arith in z)) hw h.1,
  )

  pub record_changed : (n : ℕ) (f : Text) (u : Size) (w : FlatValue) (ts : Sizes) (gs : FlatFields) → Of u w → Of (Built (head.Record n) ts) (Record_value gs) → Of (Built (head.Record n) (with_part (place N.shapes (N.label f) (head.Record n)) (λ x. u) ts)) (Record_value (replaced f w gs))
  unfolding Fits
  record_changed n f u w ts gs hw h = by_place (place N.shapes (N.label f) (head.Record n)) refl
    where
      by_place : (o : Option ℕ) → place N.shapes (N.label f) (head.Record n) ≡ o → Named_fit N τ W.sizing W.is_there (calls W) m no_frames n 0 (with_part o (λ x. u) ts) (replaced f w gs)
      by_place None p = others_kept n 0 f w ts gs (λ g j l q e. none_no (sym p ∙ ap (λ x. place N.shapes (N.label x) (head.Record n)) (sym e) ∙ q)) h
      by_place (Some k) p = one_changed n 0 k f u w ts gs (p ∙ ap Some (let z : k ≡ k + 0 = omega arith in z)) hw h

  -- ---- a part of a tuple, by its position

  part_low : (ts : Sizes) (i : ℕ) (u : Size) → size_part (Some i) ts ≡ Some u → i < many ts
  part_low no_size i u e = none_no e
  part_low (size_and t ts) zero u e = omega arith
  part_low (size_and t ts) (suc i) u e = let r = part_low ts i u e in omega (arith, r)

  at_position : (ts : Sizes) (vs : FlatValues) (i k : ℕ) (f : Text) (u : Size) → size_part (Some i) ts ≡ Some u → All_fit N τ W.sizing W.is_there (calls W) m no_frames ts vs → decimal (k + i) ≡ f → k + many ts ≤ 2 ^ 64 → Out_fits (There W.is_there) (Of u) (or_wrong (part_from k f vs))
  unfolding All_fit
  at_position no_size vs i k f u e h d le = none_no e
  at_position (size_and t ts) no_value i k f u e h d le = absurd h
  at_position (size_and t ts) (value_and v vs) zero k f u e h d le =
      let here : decimal k ≡ f = ap decimal (let w : k ≡ k + 0 = omega arith in w) ∙ d in
      subst (λ b. Out_fits (There W.is_there) (Of u) (or_wrong (cond b (Some v) (part_from (suc k) f vs)))) (sym ((bytes_eq-Decides (decimal k) f).1 here)) (subst (λ x. Of x v) (some_same e) h.0)
  at_position (size_and t ts) (value_and v vs) (suc i) k f u e h d le =
      let l = part_low ts i u e in
      tested (bytes_eq (decimal k) f) refl l (at_position ts vs i (suc k) f u e h.1 (ap decimal (let w : suc k + i ≡ k + suc i = omega arith in w) ∙ d) (omega (arith, le)))
    where
      tested : (b : Bool) → bytes_eq (decimal k) f ≡ b → i < many ts → Out_fits (There W.is_there) (Of u) (or_wrong (part_from (suc k) f vs)) → Out_fits (There W.is_there) (Of u) (or_wrong (cond b (Some v) (part_from (suc k) f vs)))
      tested true q l rest = absurd (let z : k ≡ k + suc i = one_number k (k + suc i) (omega (arith, le, l)) (omega (arith, le, l)) (text_same (decimal k) f q ∙ sym d) in omega (arith, z))
      tested false q l rest = rest

  pub tuple_part : (f : Text) (ts : Sizes) (u : Size) (vs : FlatValues) → part_of N f (Built head.Tuple ts) ≡ Some u → many ts < 2 ^ 64 → All_fit N τ W.sizing W.is_there (calls W) m no_frames ts vs → Out_fits (There W.is_there) (Of u) (or_wrong (part_from 0 f vs))
  unfolding part_of place
  tuple_part f ts u vs e l h = by_place (N.shapes.position (N.label f)) refl e
    where
      by_place : (o : Option ℕ) → N.shapes.position (N.label f) ≡ o → size_part o ts ≡ Some u → Out_fits (There W.is_there) (Of u) (or_wrong (part_from 0 f vs))
      by_place None p e = none_no e
      by_place (Some i) p e = let z = part_low ts i u e in at_position ts vs i 0 f u e h (ap decimal (let w : 0 + i ≡ i = omega arith in w) ∙ spelled f i ((S.names.position f i).0 p) (omega (arith, z, l))) (omega (arith, l))
