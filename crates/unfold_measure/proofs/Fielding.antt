-- The fields of records, one after the other.
use Rattle.std.proofs.Common.{◌≡◌, ℕ, zero, suc, ◌+◌, ◌<◌, ◌≤◌, List, [], ◌∷◌, map, length, get_or, set, drop, Option, Some, None, Bool, true, false, cond, refl, sym, ap, ◌∙◌, arith}
use Rattle.std.specs.Borrow.{Bor}
use Rattle.std.specs.Str.{bytes_eq}
use Rattle.fut_ast.specs.Sorts.{Text}
use Rattle.fut_meaning.specs.Knowns.{Known, Data, Known_record, is_data, all_data, and_known, known_no_field, known_field, fields_data, known_record, known_fields, known_field_of, known_replaced}
use Rattle.fut_flat.specs.Erased.{texts}
use Rattle.unfold_measure.specs.Fields.{put_named}
use Rattle.unfold_measure.specs.declared.known.Known.{Known as Held_known}
use Rattle.unfold_measure.specs.Held.{known_of, knowns, named}
use Rattle.unfold_reach.proofs.Lists.{one_more, drop_end}

-- ---- the name of a part

pub name_at : (fs : List (Bor Text)) (i : ℕ) (f : Bor Text) → i < length fs → (get_or fs i f).now ≡ get_or (texts fs) i []
name_at [] i f lt = absurd (omega (arith, lt))
name_at (f ∷ fs) zero g lt = refl
name_at (f ∷ fs) (suc i) g lt = name_at fs i g (omega (arith, lt))

pub no_name_at : (fs : List (Bor Text)) (i : ℕ) → length fs ≤ i → [] ≡ get_or (texts fs) i []
no_name_at [] i le = refl
no_name_at (f ∷ fs) zero le = absurd (omega (arith, le))
no_name_at (f ∷ fs) (suc i) le = no_name_at fs i (omega (arith, le))

pub ruleset naming = (name_at, no_name_at)

-- ---- one more field

first_named : (fs : List Text) (i : ℕ) (s : Known) (ss : List Known) → named (drop i fs) (s ∷ ss) ≡ known_field (get_or fs i []) s (named (drop (suc i) fs) ss)
unfolding named
first_named [] zero s ss = refl
first_named [] (suc i) s ss = refl
first_named (f ∷ fs) zero s ss = refl
first_named (f ∷ fs) (suc i) s ss = first_named fs i s ss

no_fields : (fs : List Text) → named fs [] ≡ known_no_field
unfolding named
no_fields [] = refl
no_fields (f ∷ fs) = refl

pick : (ss : List Held_known) (i : ℕ) → i < length ss → Held_known
pick [] i lt = absurd (omega (arith, lt))
pick (s ∷ ss) i lt = s

module _ (name : Text) (fs : List Text) (ss : List Held_known) where
  abbrev Fields_from : ℕ → Option Known
  Fields_from i = known_field_of name (named (drop i fs) (map known_of (drop i ss)))

  field_step : (i : ℕ) (d : Held_known) → i < length ss → Fields_from i ≡ cond (bytes_eq (get_or fs i []) name) (Some (known_of (get_or ss i d))) (Fields_from (i + 1))
  field_step i d lt = let e : suc i ≡ i + 1 = omega arith in ap (λ z. known_field_of name (named (drop i fs) (map known_of z))) (one_more ss i d lt) ∙ ap (known_field_of name) (first_named fs i (known_of (get_or ss i d)) (map known_of (drop (i + 1) ss))) ∙ ap (λ z. cond (bytes_eq (get_or fs i []) name) (Some (known_of (get_or ss i d))) (known_field_of name (named (drop z fs) (map known_of (drop (i + 1) ss))))) e

  pub field_done : (n : ℕ) → length ss ≤ n → known_field_of name (named (drop n fs) (map known_of (drop n ss))) ≡ None
  field_done n le = ap (λ z. known_field_of name (named (drop n fs) (map known_of z))) (drop_end n ss le) ∙ ap (known_field_of name) (no_fields (drop n fs))

  module _ (i : ℕ) (o : Option Known) (lt : i < length ss) (e : o ≡ known_field_of name (named (drop i fs) (map known_of (drop i ss)))) where
    pub field_here : (d : Held_known) → bytes_eq (get_or fs i []) name ≡ true → Some (known_of (get_or ss i d)) ≡ o
    field_here d h = sym (e ∙ field_step i d lt ∙ ap (λ z. cond z (Some (known_of (get_or ss i d))) (Fields_from (i + 1))) h)

    pub field_on : bytes_eq (get_or fs i []) name ≡ false → o ≡ known_field_of name (named (drop (i + 1) fs) (map known_of (drop (i + 1) ss)))
    field_on h = let d = pick ss i lt in e ∙ field_step i d lt ∙ ap (λ z. cond z (Some (known_of (get_or ss i d))) (Fields_from (i + 1))) h

-- ---- a record that is made

fields_are : (fs : List Text) (ss : List Held_known) → all_data (knowns (map known_of ss)) ≡ fields_data (named fs (map known_of ss))
unfolding named knowns
fields_are [] [] = refl
fields_are [] (s ∷ ss) = ap (λ z. cond (is_data (known_of s)) z false) (fields_are [] ss)
fields_are (f ∷ fs) [] = refl
fields_are (f ∷ fs) (s ∷ ss) = ap (λ z. cond (is_data (known_of s)) z false) (fields_are fs ss)

module _ (fs : List Text) (ss : List Held_known) (s : Held_known) where
  pub record_data : true ≡ all_data (knowns (map known_of ss)) → known_of s ≡ Data → known_of s ≡ known_record (named fs (map known_of ss))
  record_data e d = d ∙ ap (λ z. cond z Data (Known_record (named fs (map known_of ss)))) (e ∙ fields_are fs ss)

  pub record_holds : false ≡ all_data (knowns (map known_of ss)) → known_of s ≡ Known_record (named fs (map known_of ss)) → known_of s ≡ known_record (named fs (map known_of ss))
  record_holds e d = d ∙ ap (λ z. cond z Data (Known_record (named fs (map known_of ss)))) (e ∙ fields_are fs ss)

pub fields_made : (fs : List (Bor Text)) (ss : List Held_known) → length fs ≡ length ss → known_fields (texts fs) (knowns (map known_of ss)) ≡ Some (named (texts fs) (map known_of ss))
unfolding named knowns
fields_made [] [] e = refl
fields_made [] (s ∷ ss) e = absurd (omega (arith, e))
fields_made (f ∷ fs) [] e = absurd (omega (arith, e))
fields_made (f ∷ fs) (s ∷ ss) e = ap (and_known f.now (known_of s)) (fields_made fs ss (omega (arith, e)))

-- ---- a part that is replaced

of_either : (b : Bool) (t s : Held_known) → known_of (cond b t s) ≡ cond b (known_of t) (known_of s)
of_either true t s = refl
of_either false t s = refl

pub put_known : (name : Text) (t : Held_known) (fs : List Text) (ss : List Held_known) → named fs (map known_of (put_named name t fs ss)) ≡ known_replaced name (known_of t) (named fs (map known_of ss))
unfolding named
put_known name t [] [] = refl
put_known name t [] (s ∷ ss) = ap (λ z. known_field [] z (named [] (map known_of (put_named name t [] ss)))) (of_either (bytes_eq [] name) t s) ∙ ap (known_field [] (cond (bytes_eq [] name) (known_of t) (known_of s))) (put_known name t [] ss)
put_known name t (f ∷ fs) [] = refl
put_known name t (f ∷ fs) (s ∷ ss) = ap (λ z. known_field f z (named fs (map known_of (put_named name t fs ss)))) (of_either (bytes_eq f name) t s) ∙ ap (known_field f (cond (bytes_eq f name) (known_of t) (known_of s))) (put_known name t fs ss)

-- the parts as they are up to one, and from there on as they are to be
module _ {T : Type 0} (name : Text) (t : T) where
  abbrev pub put_from : ℕ → List Text → List T → List T
  put_from zero fs us = put_named name t fs us
  put_from (suc i) fs [] = []
  put_from (suc i) [] (u ∷ us) = u ∷ put_from i [] us
  put_from (suc i) (f ∷ fs) (u ∷ us) = u ∷ put_from i fs us

  pub put_start : (fs : List Text) (us vs : List T) → us ≡ vs → put_from 0 fs us ≡ put_named name t fs vs
  put_start fs us vs e = ap (put_named name t fs) e

  put_at : (i : ℕ) (fs : List Text) (us : List T) → i < length us → bytes_eq (get_or fs i []) name ≡ true → put_from i fs us ≡ put_from (suc i) fs (set us i t)
  put_at i fs [] lt h = absurd (omega (arith, lt))
  put_at zero [] (u ∷ us) lt h = ap (λ z. cond z t u ∷ put_named name t [] us) h
  put_at zero (f ∷ fs) (u ∷ us) lt h = ap (λ z. cond z t u ∷ put_named name t fs us) h
  put_at (suc i) [] (u ∷ us) lt h = ap (λ z. u ∷ z) (put_at i [] us (omega (arith, lt)) h)
  put_at (suc i) (f ∷ fs) (u ∷ us) lt h = ap (λ z. u ∷ z) (put_at i fs us (omega (arith, lt)) h)

  kept_at : (i : ℕ) (fs : List Text) (us : List T) → i < length us → bytes_eq (get_or fs i []) name ≡ false → put_from i fs us ≡ put_from (suc i) fs us
  kept_at i fs [] lt h = absurd (omega (arith, lt))
  kept_at zero [] (u ∷ us) lt h = ap (λ z. cond z t u ∷ put_named name t [] us) h
  kept_at zero (f ∷ fs) (u ∷ us) lt h = ap (λ z. cond z t u ∷ put_named name t fs us) h
  kept_at (suc i) [] (u ∷ us) lt h = ap (λ z. u ∷ z) (kept_at i [] us (omega (arith, lt)) h)
  kept_at (suc i) (f ∷ fs) (u ∷ us) lt h = ap (λ z. u ∷ z) (kept_at i fs us (omega (arith, lt)) h)

  module _ (fs : List Text) (us whole : List T) (i : ℕ) (e : put_from i fs us ≡ whole) where
    pub put_here : i < length us → bytes_eq (get_or fs i []) name ≡ true → put_from (i + 1) fs (set us i t) ≡ whole
    put_here lt h = let q : i + 1 ≡ suc i = omega arith in ap (λ z. put_from z fs (set us i t)) q ∙ sym (put_at i fs us lt h) ∙ e

    pub put_on : i < length us → bytes_eq (get_or fs i []) name ≡ false → put_from (i + 1) fs us ≡ whole
    put_on lt h = let q : i + 1 ≡ suc i = omega arith in ap (λ z. put_from z fs us) q ∙ sym (kept_at i fs us lt h) ∙ e

    pub put_done : length us ≤ i → us ≡ whole
    put_done le = sym (all_kept i fs us le) ∙ e
      where
        all_kept : (i : ℕ) (fs : List Text) (us : List T) → length us ≤ i → put_from i fs us ≡ us
        all_kept zero [] [] le = refl
        all_kept zero (f ∷ fs) [] le = refl
        all_kept zero fs (u ∷ us) le = absurd (omega (arith, le))
        all_kept (suc i) fs [] le = refl
        all_kept (suc i) [] (u ∷ us) le = ap (λ z. u ∷ z) (all_kept i [] us (omega (arith, le)))
        all_kept (suc i) (f ∷ fs) (u ∷ us) le = ap (λ z. u ∷ z) (all_kept i fs us (omega (arith, le)))

pub ruleset putting = (put_start, put_here, put_on, put_done)
