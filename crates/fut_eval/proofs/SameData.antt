-- Whether data is equal.
use Rattle.std.proofs.Common.{◌≡◌, ℕ, suc, ◌+◌, ◌<◌, ◌≤◌, List, [], ◌∷◌, map, length, get_or, drop, Option, Some, None, Ok, Err, Result, Bool, true, false, cond, not, refl, sym, ap, ◌∙◌, subst, arith, add-one, inl, inr}
use Rattle.std.specs.Prelude.{◌&&◌, ◌⊎◌}
use Rattle.std.specs.Str.{bytes_eq}
use Rattle.std.proofs.Math.Seq.{drop-cons}
use Rattle.fut_scalar.specs.declared.operator.BinOp.{BinOp}
use Rattle.fut_scalar.specs.declared.operator.BinOp.TheVariants as binary
use Rattle.fut_scalar.specs.declared.place.BindId.{BindId}
use Rattle.fut_scalar.specs.declared.place.Place.{Place}
use Rattle.fut_scalar.specs.declared.report.FailKind.{FailKind}
use Rattle.fut_scalar.specs.declared.scalar.Scalar.{Scalar}
use Rattle.fut_scalar.specs.declared.scalar.Scalar.TheVariants as scalar
use Rattle.fut_ast.specs.Sorts.{Text}
use Rattle.fut_flat.specs.declared.prim.Ref.{Ref}
use Rattle.fut_value.specs.Data.{Datum, Scalar_datum, Tuple_datum, Record_datum, datums}
use Rattle.fut_meaning.specs.Accessors.{or_wrong, truth_of_scalar}
use Rattle.fut_meaning.specs.Datums.{as_fields}
use Rattle.fut_meaning.specs.Operations.{reported, truth_result, equal_scalars, both_hold, equal, fields_equal}
use Rattle.fut_meaning.specs.Operators.{binary_result}
use Rattle.fut_meaning.specs.Outcomes.{Out, Val, Fail, Wrong, and_then, the}
use Rattle.fut_meaning.specs.Values.{Fields}
use Rattle.fut_blocks.specs.declared.block.Atom.{Atom}
use Rattle.fut_blocks.specs.declared.block.Operation.{Operation}
use Rattle.fut_blocks.specs.declared.block.Operation.TheVariants as operation
use Rattle.fut_blocks.specs.Meaning.{Component, Names, as_flat, value_of, one, binary_scalar, operated}
use Rattle.array_data.specs.declared.data.Data.{Data}
use Rattle.array_data.specs.declared.data.Data.TheVariants as hold
use Rattle.array_data.specs.declared.stop.Stop.{Stop}
use Rattle.array_data.specs.declared.stop.Stop.TheVariants.{Memory}
use Rattle.array_data.specs.Held.{held, held_all, fitted, first_name, other_names, named_parts}
use Rattle.array_data.proofs.Forms.{drop_past}
use Rattle.array_data.proofs.Holding.{held_scalar, held_tuple, held_record}
use Rattle.fut_eval.specs.Answers.{Answer, Tells, told, report_told, no_memory_told, lost, Runs, ran, no_memory, Reads, Operates, Pushed, pushed, not_pushed, data_equal, parts_equal, Same_at}
use Rattle.fut_eval.proofs.Tells.{the_is, tells_then, tells_stop, runs_next, runs_stop, kept_same}

-- ---- scalars

module _ (at : Place) (a b : Scalar) where
  by_result : (o : Option (Result Scalar FailKind)) (v : Scalar) (r : Result Bool Stop) → Tells (reported at o) (Ok v) → Tells (truth_of_scalar v) r → Tells (and_then (or_wrong o) truth_result) r
  by_result None v r (told e) t = cc
  by_result None v r (lost e) t = lost refl
  by_result (Some (Ok s)) v r (told e) t = let q : s ≡ v = cc in subst (λ s. Tells (truth_of_scalar s) r) (sym q) t
  by_result (Some (Ok s)) v r (lost e) t = cc
  by_result (Some (Err k)) v r h t = lost refl

  by_stop : (o : Option (Result Scalar FailKind)) (e : Stop) → Tells (reported at o) (Err e) → Tells (and_then (or_wrong o) truth_result) (Err e)
  by_stop None e h = lost refl
  by_stop (Some (Ok s)) _ (report_told q) = cc
  by_stop (Some (Ok s)) _ no_memory_told = no_memory_told
  by_stop (Some (Ok s)) _ (lost q) = cc
  by_stop (Some (Err k)) e h = lost refl

  pub scalars_told : (v : Scalar) (r : Result Bool Stop) → Tells (reported at (binary_result binary.Eq a b)) (Ok v) → Tells (truth_of_scalar v) r → Tells (equal_scalars a b) r
  scalars_told v r h t = by_result (binary_result binary.Eq a b) v r h t

  pub scalars_stop : (e : Stop) → Tells (reported at (binary_result binary.Eq a b)) (Err e) → Tells (equal_scalars a b) (Err e)
  scalars_stop e h = by_stop (binary_result binary.Eq a b) e h

pub ruleset scalars = (scalars_told, scalars_stop)

-- ---- data

pub whole_scalars : (d e : Data) (a b x y : Scalar) (r : Result Bool Stop) → d ≡ hold.Scalar a → e ≡ hold.Scalar b → x ≡ fitted a → y ≡ fitted b → Tells (equal_scalars x y) r → Tells (data_equal (held d) (held e)) r
unfolding data_equal equal
whole_scalars d e a b x y r p q u v t = subst (λ o. Tells o r)
    (ap (λ x. equal_scalars x y) u ∙ ap (equal_scalars (fitted a)) v ∙ sym (ap (λ z. data_equal z (held e)) (ap held p ∙ held_scalar a) ∙ ap (data_equal (Scalar_datum (fitted a))) (ap held q ∙ held_scalar b))) t

pub whole_tuples : (d e : Data) (n m : ℕ) (ds es : List Data) (r : Result Bool Stop) → d ≡ hold.Tuple n ds → e ≡ hold.Tuple m es → Tells (parts_equal (held_all ds) (held_all es)) r → Tells (data_equal (held d) (held e)) r
unfolding data_equal parts_equal equal
whole_tuples d e n m ds es r p q t = subst (λ o. Tells o r) (sym (ap (λ z. data_equal z (held e)) (ap held p ∙ held_tuple n ds) ∙ ap (data_equal (Tuple_datum (datums (held_all ds)))) (ap held q ∙ held_tuple m es))) t

-- ---- records

abbrev flat_fields : List Text → List Datum → Fields Ref BindId (Unit {0})
flat_fields fs ds = as_fields (named_parts fs ds)

-- records with the same names are equal where all parts are; others have no equality
both_or_wrong : (o p q : Out Bool) → (p ≡ q) ⊎ (p ≡ Wrong) → (both_hold o p ≡ both_hold o q) ⊎ (both_hold o p ≡ Wrong)
both_or_wrong o p q (inl e) = inl (ap (both_hold o) e)
both_or_wrong (Val a) p q (inr e) = inr (ap (both_hold (Val a)) e)
both_or_wrong (Fail r) p q (inr e) = inl refl
both_or_wrong Wrong p q (inr e) = inr refl

if_named : (b : Bool) (p q : Out Bool) → (p ≡ q) ⊎ (p ≡ Wrong) → (cond b p Wrong ≡ q) ⊎ (cond b p Wrong ≡ Wrong)
if_named true p q h = h
if_named false p q h = inr refl

same_or_wrong : (fs gs : List Text) (ds es : List Datum) → (fields_equal (flat_fields fs ds) (flat_fields gs es) ≡ parts_equal ds es) ⊎ (fields_equal (flat_fields fs ds) (flat_fields gs es) ≡ Wrong)
unfolding parts_equal equal
same_or_wrong fs gs [] [] = inl refl
same_or_wrong fs gs [] (e ∷ es) = inr refl
same_or_wrong fs gs (d ∷ ds) [] = inr refl
same_or_wrong fs gs (d ∷ ds) (e ∷ es) = if_named (bytes_eq (first_name fs) (first_name gs)) (both_hold (equal (as_flat d) (as_flat e)) (fields_equal (flat_fields (other_names fs) ds) (flat_fields (other_names gs) es)))
    (both_hold (equal (as_flat d) (as_flat e)) (parts_equal ds es))
    (both_or_wrong (equal (as_flat d) (as_flat e)) (fields_equal (flat_fields (other_names fs) ds) (flat_fields (other_names gs) es)) (parts_equal ds es) (same_or_wrong (other_names fs) (other_names gs) ds es))

fields_told : (fs gs : List Text) (ds es : List Datum) (r : Result Bool Stop) → Tells (parts_equal ds es) r → Tells (fields_equal (flat_fields fs ds) (flat_fields gs es)) r
fields_told fs gs ds es r t = by_case (same_or_wrong fs gs ds es)
  where
    by_case : (fields_equal (flat_fields fs ds) (flat_fields gs es) ≡ parts_equal ds es) ⊎ (fields_equal (flat_fields fs ds) (flat_fields gs es) ≡ Wrong) → Tells (fields_equal (flat_fields fs ds) (flat_fields gs es)) r
    by_case (inl e) = subst (λ o. Tells o r) (sym e) t
    by_case (inr e) = lost e

pub whole_records : (d e : Data) (n m : ℕ) (fs gs : List Text) (ds es : List Data) (r : Result Bool Stop) → d ≡ hold.Record n fs ds → e ≡ hold.Record m gs es → Tells (parts_equal (held_all ds) (held_all es)) r → Tells (data_equal (held d) (held e)) r
unfolding data_equal equal
whole_records d e n m fs gs ds es r p q t = subst (λ o. Tells o r)
    (sym (ap (λ z. data_equal z (held e)) (ap held p ∙ held_record n fs ds) ∙ ap (data_equal (Record_datum (named_parts fs (held_all ds)))) (ap held q ∙ held_record m gs es)))
    (fields_told fs gs (held_all ds) (held_all es) r t)

pub ruleset wholes = (whole_scalars, whole_tuples, whole_records, no_memory_told)

-- ---- all parts

-- what is known once some parts were compared
pub data Same_up_to (o : Out Bool) (all : Bool) (rest : Out Bool) : Type 0 where
  same_so_far : o ≡ both_hold (Val all) rest → Same_up_to o all rest
  compared_wrong : o ≡ Wrong → Same_up_to o all rest

both_once : (o : Out Bool) → o ≡ both_hold (Val true) o
both_once (Val true) = refl
both_once (Val false) = refl
both_once (Fail r) = refl
both_once Wrong = refl

module _ (ds es : List Data) where
  pub parts_start : Same_up_to (parts_equal (held_all ds) (held_all es)) true (parts_equal (held_all (drop 0 ds)) (held_all (drop 0 es)))
  parts_start = same_so_far (both_once (parts_equal (held_all ds) (held_all es)))

  module _ (i : ℕ) (d e : Data) (all : Bool) (l : i < length ds) (k : i < length es) (h : Same_up_to (parts_equal (held_all ds) (held_all es)) all (parts_equal (held_all (drop i ds)) (held_all (drop i es)))) where
    here : parts_equal (held_all (drop i ds)) (held_all (drop i es)) ≡ both_hold (data_equal (held (get_or ds i d)) (held (get_or es i e))) (parts_equal (held_all (drop (suc i) ds)) (held_all (drop (suc i) es)))
    unfolding data_equal parts_equal equal held_all
    here = ap (λ z. parts_equal (map held z) (held_all (drop i es))) (drop-cons ds i d l) ∙ ap (λ z. parts_equal (held (get_or ds i d) ∷ held_all (drop (suc i) ds)) (map held z)) (drop-cons es i e k)

    pub parts_more : (b c : Bool) → Tells (data_equal (held (get_or ds i d)) (held (get_or es i e))) (Ok b) → c ≡ (all && b) → Same_up_to (parts_equal (held_all ds) (held_all es)) c (parts_equal (held_all (drop (i + 1) ds)) (held_all (drop (i + 1) es)))
    parts_more b c t q = by_told h t
      where
        joined : (all b : Bool) (o : Out Bool) → both_hold (Val all) (both_hold (Val b) o) ≡ both_hold (Val (all && b)) o
        joined true true (Val true) = refl
        joined true true (Val false) = refl
        joined true false (Val c) = refl
        joined false true (Val c) = refl
        joined false false (Val c) = refl
        joined all b (Fail r) = refl
        joined all b Wrong = refl

        by_told : Same_up_to (parts_equal (held_all ds) (held_all es)) all (parts_equal (held_all (drop i ds)) (held_all (drop i es))) → Tells (data_equal (held (get_or ds i d)) (held (get_or es i e))) (Ok b)
            → Same_up_to (parts_equal (held_all ds) (held_all es)) c (parts_equal (held_all (drop (i + 1) ds)) (held_all (drop (i + 1) es)))
        by_told (same_so_far x) (told y) = same_so_far (x ∙ ap (both_hold (Val all)) (here ∙ ap (λ o. both_hold o (parts_equal (held_all (drop (suc i) ds)) (held_all (drop (suc i) es)))) y)
            ∙ joined all b (parts_equal (held_all (drop (suc i) ds)) (held_all (drop (suc i) es))) ∙ ap (λ z. both_hold (Val z) (parts_equal (held_all (drop (suc i) ds)) (held_all (drop (suc i) es)))) (sym q)
            ∙ ap (λ j. both_hold (Val c) (parts_equal (held_all (drop j ds)) (held_all (drop j es)))) (sym (add-one i)))
        by_told (same_so_far x) (lost y) = compared_wrong (x ∙ ap (both_hold (Val all)) (here ∙ ap (λ o. both_hold o (parts_equal (held_all (drop (suc i) ds)) (held_all (drop (suc i) es)))) y))
        by_told (compared_wrong x) t = compared_wrong x

  pub parts_end : (i : ℕ) (all : Bool) → length ds ≡ length es → length ds ≤ i → Same_up_to (parts_equal (held_all ds) (held_all es)) all (parts_equal (held_all (drop i ds)) (held_all (drop i es))) → Tells (parts_equal (held_all ds) (held_all es)) (Ok all)
  unfolding parts_equal equal held_all
  parts_end i all e l (same_so_far x) = told (x ∙ ap (λ z. both_hold (Val all) (parts_equal (map held z) (held_all (drop i es)))) (drop_past ds i l) ∙ ap (λ z. both_hold (Val all) (parts_equal [] (map held z))) (drop_past es i (omega arith)) ∙ both all)
    where
      both : (all : Bool) → both_hold (Val all) (Val true) ≡ Val all
      both true = refl
      both false = refl
  parts_end i all e l (compared_wrong x) = lost x

pub ruleset all_parts = (parts_start, parts_more, parts_end, no_memory_told)

-- ---- atoms

module _ (t : List Component) (a b : Atom) where
  pub left_unread : (e : Stop) → Reads t a (Err e) → Same_at t a b (Err e)
  unfolding Reads Same_at
  left_unread e h env n st = tells_stop (value_of env a) (λ v. and_then (value_of env b) (data_equal v)) e (h env n st)

  pub right_unread : (v : Component) (e : Stop) → Reads t a (Ok v) → Reads t b (Err e) → Same_at t a b (Err e)
  unfolding Reads Same_at
  right_unread v e h k env n st = tells_then (value_of env a) (λ v. and_then (value_of env b) (data_equal v)) v (Err e) (h env n st) (tells_stop (value_of env b) (data_equal v) e (k env n st))

  pub both_read : (v w : Component) (r : Result Bool Stop) → Reads t a (Ok v) → Reads t b (Ok w) → Tells (data_equal v w) r → Same_at t a b r
  unfolding Reads Same_at
  both_read v w r h k l env n st = tells_then (value_of env a) (λ v. and_then (value_of env b) (data_equal v)) v r (h env n st) (tells_then (value_of env b) (data_equal v) w r (k env n st) l)

pub ruleset atoms = (left_unread, right_unread, both_read)

-- ---- comparisons

module _ (t s : List Component) (op : BinOp) (at : Place) (a b : Atom) where
  truths : (Bool → Bool) → Names Component → Out (List Component)
  truths f env = and_then (and_then (value_of env a) (λ v. and_then (value_of env b) (data_equal v))) (λ x. Val (Scalar_datum (scalar.Bool (f x)) ∷ []))

  regroup : (f : Bool → Bool) (env : Names Component) → ((v w : Component) → binary_scalar op at v w ≡ and_then (data_equal v w) (λ x. Val (scalar.Bool (f x)))) → operated env (operation.Binary op at a b) ≡ truths f env
  unfolding operated truths
  regroup f env h = by_left (value_of env a)
    where
      by_same : (o : Out Bool) → one (and_then o (λ x. Val (scalar.Bool (f x)))) ≡ and_then o (λ x. Val (Scalar_datum (scalar.Bool (f x)) ∷ []))
      by_same (Val x) = refl
      by_same (Fail r) = refl
      by_same Wrong = refl

      by_right : (v : Component) (o : Out Component) → and_then o (λ w. one (binary_scalar op at v w)) ≡ and_then (and_then o (data_equal v)) (λ x. Val (Scalar_datum (scalar.Bool (f x)) ∷ []))
      by_right v (Val w) = ap one (h v w) ∙ by_same (data_equal v w)
      by_right v (Fail r) = refl
      by_right v Wrong = refl

      by_left : (o : Out Component) → and_then o (λ v. and_then (value_of env b) (λ w. one (binary_scalar op at v w))) ≡ and_then (and_then o (λ v. and_then (value_of env b) (data_equal v))) (λ x. Val (Scalar_datum (scalar.Bool (f x)) ∷ []))
      by_left (Val v) = by_right v (value_of env b)
      by_left (Fail r) = refl
      by_left Wrong = refl

  module _ (f : Bool → Bool) (g : (v w : Component) → binary_scalar op at v w ≡ and_then (data_equal v w) (λ x. Val (scalar.Bool (f x)))) where
    compared_stop : (e : Stop) → Same_at t a b (Err e) → Operates t (operation.Binary op at a b) s s (Err e)
    unfolding Same_at Operates truths
    compared_stop e h env n st = subst (λ z. Runs (the z) n t t s s (Err e)) (sym (regroup f env g)) (runs_stop n t t s s (and_then (value_of env a) (λ v. and_then (value_of env b) (data_equal v))) (λ x. Val (Scalar_datum (scalar.Bool (f x)) ∷ [])) e (h env n st))

    compared_done : (x y : Bool) (s' : List Component) (r : Answer) → Same_at t a b (Ok x) → y ≡ f x → Pushed (held (hold.Scalar (scalar.Bool y))) s s' r → Operates t (operation.Binary op at a b) s s' r
    unfolding Same_at Operates truths
    compared_done x y s' _ h e not_pushed env n st = no_memory
    compared_done x y s' _ h e (pushed p) env n st = subst (λ z. Runs (the z) n t t s s' (Ok tt)) (sym (regroup f env g))
        (runs_next n t t s s' (and_then (value_of env a) (λ v. and_then (value_of env b) (data_equal v))) (λ x. Val (Scalar_datum (scalar.Bool (f x)) ∷ [])) x (Ok tt) (h env n st)
        (ran (held (hold.Scalar (scalar.Bool y)) ∷ []) 0 p (tt, tt) (kept_same n t) (the_is (Val (Scalar_datum (scalar.Bool (f x)) ∷ [])) (Val (held (hold.Scalar (scalar.Bool y)) ∷ []))
        (ap (λ z. Val (Scalar_datum (scalar.Bool z) ∷ [])) (sym e) ∙ ap (λ z. Val (z ∷ [])) (sym (held_scalar (scalar.Bool y)))))))

  by_eq : op ≡ binary.Eq → (v w : Component) → binary_scalar op at v w ≡ and_then (data_equal v w) (λ x. Val (scalar.Bool x))
  unfolding data_equal
  by_eq e v w = ap (λ op. binary_scalar op at v w) e

  by_ne : op ≡ binary.Ne → (v w : Component) → binary_scalar op at v w ≡ and_then (data_equal v w) (λ x. Val (scalar.Bool (not x)))
  unfolding data_equal
  by_ne e v w = ap (λ op. binary_scalar op at v w) e

  pub equal_stop : (e : Stop) → op ≡ binary.Eq → Same_at t a b (Err e) → Operates t (operation.Binary op at a b) s s (Err e)
  equal_stop e q h = compared_stop (λ x. x) (by_eq q) e h

  pub equal_done : (x : Bool) (s' : List Component) (r : Answer) → op ≡ binary.Eq → Same_at t a b (Ok x) → Pushed (held (hold.Scalar (scalar.Bool x))) s s' r → Operates t (operation.Binary op at a b) s s' r
  equal_done x s' r q h p = compared_done (λ x. x) (by_eq q) x x s' r h refl p

  pub unequal_stop : (e : Stop) → op ≡ binary.Ne → Same_at t a b (Err e) → Operates t (operation.Binary op at a b) s s (Err e)
  unequal_stop e q h = compared_stop not (by_ne q) e h

  pub unequal_done : (x : Bool) (s' : List Component) (r : Answer) → op ≡ binary.Ne → Same_at t a b (Ok x) → Pushed (held (hold.Scalar (scalar.Bool (not x)))) s s' r → Operates t (operation.Binary op at a b) s s' r
  unequal_done x s' r q h p = compared_done not (by_ne q) x (not x) s' r h refl p

pub comparison_memory : (o : Operation) (t s s' : List Component) → Operates t o s s' (Err Memory)
unfolding Operates
comparison_memory o t s s' env n st = no_memory

pub ruleset comparisons = (comparison_memory, equal_stop, equal_done, unequal_stop, unequal_done)
