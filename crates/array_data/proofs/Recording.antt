-- Records of parts, and their fields.
use Rattle.std.proofs.Common.{◌≡◌, ℕ, zero, suc, ◌+◌, ◌<◌, ◌≤◌, List, [], ◌∷◌, ◌++◌, map, length, get_or, take, drop, slice_get, slice_set, Option, Some, None, Ok, Err, Result, Bool, true, false, cond, refl, sym, ap, ◌∙◌, subst, arith, add-one, append_assoc, Bor}
use Rattle.std.specs.Str.{bytes_eq}
use Rattle.std.proofs.Math.Seq.{drop-cons}
use Rattle.std.proofs.lemmas.Slice.Eq.{bytes_eq-Decides}
use Rattle.std.proofs.lemmas.List.{append-nil, take_all}
use Rattle.fut_ast.specs.Sorts.{Text}
use Rattle.fut_flat.specs.Erased.{texts}
use Rattle.fut_value.specs.Data.{Datum, Tuple_datum, Record_datum, Datums, no_datum, datum_and, Named_datums, no_named, named_and, datums}
use Rattle.fut_meaning.specs.Accessors.{or_wrong}
use Rattle.fut_meaning.specs.Outcomes.{Out, Val, Fail, Wrong, and_then}
use Rattle.fut_blocks.specs.Records.{datum_field, datum_part, datum_part_from, datum_parts, datum_fields, datum_replaced, named_data}
use Rattle.fut_positions.specs.Positions.{Spelled}
use Rattle.fut_positions.proofs.Taken.{taken}
use Rattle.array_data.specs.declared.data.Data.{Data}
use Rattle.array_data.specs.declared.data.Data.TheVariants as hold
use Rattle.array_data.specs.declared.stop.Stop.{Stop}
use Rattle.array_data.specs.declared.stop.Stop.TheVariants.{Memory}
use Rattle.array_data.specs.Answers.{Copied, copied, not_copied, All_added, all_added, not_all_added}
use Rattle.array_data.specs.Held.{first_name, other_names, named_parts, held, held_all, as_held}
use Rattle.array_data.specs.Records.{Comes_to, comes_to, no_memory_comes, All_put, all_put, not_all_put, Is_first, replaced_of, fields_of}
use Rattle.array_data.proofs.Forms.{drop_past, held_length, map_push}
use Rattle.array_data.proofs.Holding.{held_tuple, held_record}

-- ---- names

unfoldable pub Names_taken : List (Bor Text) → ℕ → List Text → Type 0
Names_taken ns i fs = fs ≡ texts (take i ns)

name_more : (ns : List (Bor Text)) (i : ℕ) (n : Bor Text) → i < length ns → texts (take (suc i) ns) ≡ texts (take i ns) ++ (get_or ns i n).now ∷ []
name_more [] i n l = absurd (omega arith)
name_more (m ∷ ns) zero n l = refl
name_more (m ∷ ns) (suc i) n l = ap (λ z. m.now ∷ z) (name_more ns i n (omega arith))

module _ (ns : List (Bor Text)) where
  pub names_start : (fs : List Text) → fs ≡ [] → Names_taken ns 0 fs
  unfolding Names_taken
  names_start fs e = e

  pub names_more : (i : ℕ) (n : Bor Text) (fs gs : List Text) (f : Text) → i < length ns → Names_taken ns i fs → f ≡ (get_or ns i n).now → gs ≡ fs ++ f ∷ [] → Names_taken ns (i + 1) gs
  unfolding Names_taken
  names_more i n fs gs f l h e q = q ∙ ap (λ z. z ++ f ∷ []) h ∙ ap (λ z. texts (take i ns) ++ z ∷ []) e ∙ sym (name_more ns i n l) ∙ ap (λ z. texts (take z ns)) (sym (add-one i))

  pub names_end : (i : ℕ) (fs : List Text) → length ns ≤ i → Names_taken ns i fs → fs ≡ texts ns
  unfolding Names_taken
  names_end i fs l h = h ∙ ap texts (take_all i ns l)

pub ruleset naming = (names_start, names_more, names_end)

texts_long : (ns : List (Bor Text)) → length (texts ns) ≡ length ns
texts_long [] = refl
texts_long (n ∷ ns) = ap suc (texts_long ns)

same_named : (fs : List Text) (ds : List Datum) → length fs ≡ length ds → named_parts fs ds ≡ named_data fs ds
same_named [] [] e = refl
same_named [] (d ∷ ds) e = absurd (omega arith)
same_named (f ∷ fs) [] e = refl
same_named (f ∷ fs) (d ∷ ds) e = ap (named_and f d) (same_named fs ds (omega arith))

pub record_held : (m : ℕ) (ns : List (Bor Text)) (fs gs : List Text) (ps qs : List Data) → length ns ≡ length ps → fs ≡ texts ns → gs ≡ fs → qs ≡ ps → held (hold.Record m gs qs) ≡ Record_datum (named_data (texts ns) (held_all ps))
record_held m ns fs gs ps qs l e q p =
    held_record m gs qs ∙ ap (λ z. Record_datum (named_parts z (held_all qs))) (q ∙ e) ∙ ap (λ z. Record_datum (named_parts (texts ns) (held_all z))) p
    ∙ ap Record_datum (same_named (texts ns) (held_all ps) (texts_long ns ∙ l ∙ sym (held_length ps)))

pub ruleset recorded = (record_held)

-- ---- the same names

-- all names are the same, where those from a place on are
unfoldable pub Same_before : List (Bor Text) → List Text → ℕ → Type 0
Same_before ns fs i = texts (drop i ns) ≡ drop i fs → texts ns ≡ fs

module _ (ns : List (Bor Text)) (fs : List Text) where
  pub same_start : Same_before ns fs 0
  unfolding Same_before
  same_start h = h

  pub same_more : (i : ℕ) (n : Bor Text) (f : Text) → i < length ns → i < length fs → Same_before ns fs i → true ≡ bytes_eq (get_or fs i f) (get_or ns i n).now → Same_before ns fs (i + 1)
  unfolding Same_before
  same_more i n f l k m e h =
      m (ap texts (drop-cons ns i n l) ∙ ap (λ z. z ∷ texts (drop (suc i) ns)) (sym ((bytes_eq-Decides (get_or fs i f) (get_or ns i n).now).0 (sym e)))
      ∙ ap (λ z. get_or fs i f ∷ z) (subst (λ z. texts (drop z ns) ≡ drop z fs) (add-one i) h) ∙ sym (drop-cons fs i f k))

  pub same_end : (i : ℕ) → length ns ≡ length fs → length ns ≤ i → Same_before ns fs i → texts ns ≡ fs
  unfolding Same_before
  same_end i e l m = m (ap texts (drop_past ns i l) ∙ sym (drop_past fs i (omega arith)))

  pub not_same : (b : Bool) → b ≡ false → b ≡ true → texts ns ≡ fs
  not_same b e q = cc

pub ruleset comparing = (same_start, same_more, same_end, not_same)

pub names_shared : (ns : List (Bor Text)) (fs gs : List Text) (b : Bool) → (b ≡ true → texts ns ≡ fs) → b ≡ true → gs ≡ fs → gs ≡ texts ns
names_shared ns fs gs b h e q = q ∙ sym (h e)

pub ruleset sharing = (names_shared)

-- ---- the first field of a name

-- it does not stand among the first ones
unfoldable pub Not_before : Text → List Text → ℕ → Type 0
Not_before f fs i = (k : ℕ) → Is_first f (drop i fs) k → Is_first f fs (i + k)

module _ (f : Text) (fs : List Text) where
  pub place_start : Not_before f fs 0
  unfolding Not_before
  place_start k h = subst (Is_first f fs) (omega arith) h

  module _ (i : ℕ) (d : Text) (l : i < length fs) (m : Not_before f fs i) where
    pub place_more : false ≡ bytes_eq (get_or fs i d) f → Not_before f fs (i + 1)
    unfolding Not_before
    place_more e k h =
        subst (Is_first f fs) (omega arith) (m (suc k) (subst (λ z. Is_first f z (suc k)) (sym (drop-cons fs i d l)) (sym e, subst (λ z. Is_first f (drop z fs) k) (add-one i) h)))

    pub place_found : true ≡ bytes_eq (get_or fs i d) f → Is_first f fs i
    unfolding Not_before
    place_found e = subst (Is_first f fs) (omega arith) (m 0 (subst (λ z. Is_first f z 0) (sym (drop-cons fs i d l)) (sym e)))

pub ruleset placing = (place_start, place_more, place_found)

field_there : (f : Text) (fs : List Text) (i : ℕ) (ds : List Data) (d : Data) → Is_first f fs i → i < length ds → datum_field f (named_parts fs (held_all ds)) ≡ Some (held (get_or ds i d))
unfolding held_all
field_there f fs i [] d h l = absurd (omega arith)
field_there f [] i (e ∷ ds) d h l = absurd h
field_there f (g ∷ fs) zero (e ∷ ds) d h l = ap (λ b. cond b (Some (held e)) (datum_field f (named_parts fs (map held ds)))) h
field_there f (g ∷ fs) (suc i) (e ∷ ds) d h l = ap (λ b. cond b (Some (held e)) (datum_field f (named_parts fs (map held ds)))) h.0 ∙ field_there f fs i ds d h.1 (omega arith)

pub field_copied : (f : Text) (fs : List Text) (i : ℕ) (ds : List Data) (d : Data) (r : Result Data Stop) → Is_first f fs i → i < length ds → Copied (get_or ds i d) r → Comes_to (or_wrong (datum_field f (named_parts fs (held_all ds)))) (as_held r)
field_copied f fs i ds d _ h l (copied q) = comes_to (ap or_wrong (field_there f fs i ds d h l) ∙ ap Val (sym q))
field_copied f fs i ds d _ h l not_copied = no_memory_comes

pub ruleset reading = (field_copied, no_memory_comes)

-- ---- parts of tuples

from_data : Text → ℕ → List Data → Option Datum
from_data f k ds = datum_part_from k f (datums (held_all ds))

part_there : (f : Text) (i : ℕ) (ds : List Data) (d : Data) → Spelled f (length ds) (Some i) → datum_part_from 0 f (datums (held_all ds)) ≡ Some (held (get_or ds i d))
unfolding held_all from_data
part_there f i ds d s = taken f held (from_data f) (λ k. refl) (λ k x xs. refl) i ds d s

pub part_copied : (f : Text) (i n : ℕ) (ds : List Data) (d : Data) (r : Result Data Stop) → n ≡ length ds → Spelled f n (Some i) → Copied (get_or ds i d) r → Comes_to (or_wrong (datum_part_from 0 f (datums (held_all ds)))) (as_held r)
part_copied f i n ds d _ e s (copied q) = comes_to (ap or_wrong (part_there f i ds d (subst (λ z. Spelled f z (Some i)) e s)) ∙ ap Val (sym q))
part_copied f i n ds d _ e s not_copied = no_memory_comes

pub ruleset spelling = (part_copied, no_memory_comes)

-- ---- parts by name

pub tuple_named : (f : Text) (d : Data) (m : ℕ) (ps : List Data) (r : Result Datum Stop) → d ≡ hold.Tuple m ps → Comes_to (or_wrong (datum_part_from 0 f (datums (held_all ps)))) r → Comes_to (datum_part f (held d)) r
tuple_named f d m ps r e h = subst (λ z. Comes_to (datum_part f z) r) (sym (ap held e ∙ held_tuple m ps)) h

pub record_named : (f : Text) (d : Data) (m : ℕ) (fs : List Text) (ps : List Data) (r : Result Datum Stop) → d ≡ hold.Record m fs ps → Comes_to (or_wrong (datum_field f (named_parts fs (held_all ps)))) r → Comes_to (datum_part f (held d)) r
record_named f d m fs ps r e h = subst (λ z. Comes_to (datum_part f z) r) (sym (ap held e ∙ held_record m fs ps)) h

pub ruleset parting = (tuple_named, record_named, no_memory_comes)

-- ---- a part replaced

set_held : (ds : List Data) (i : ℕ) (e : Data) → held_all (slice_set ds i e) ≡ slice_set (held_all ds) i (held e)
unfolding held_all
set_held [] i e = refl
set_held (d ∷ ds) zero e = refl
set_held (d ∷ ds) (suc i) e = ap (λ z. held d ∷ z) (set_held ds i e)

all_pushed : (ps : List Data) (s s' : List Data) → s ≡ [] → All_added (held_all ps) (held_all s) (held_all s') (Ok tt) → held_all s' ≡ held_all ps
unfolding held_all
all_pushed ps s s' e (all_added q) = q ∙ ap (λ z. map held z ++ map held ps) e

pub pushed_long : (ps : List Data) (s s' : List Data) → s ≡ [] → All_added (held_all ps) (held_all s) (held_all s') (Ok tt) → length s' ≡ length ps
pushed_long ps s s' e h = sym (held_length s') ∙ ap length (all_pushed ps s s' e h) ∙ held_length ps

pub part_set : (ps s s' qs : List Data) (i : ℕ) (v c : Data) → s ≡ [] → All_added (held_all ps) (held_all s) (held_all s') (Ok tt) → Copied v (Ok c) → qs ≡ slice_set s' i c → held_all qs ≡ slice_set (held_all ps) i (held v)
part_set ps s s' qs i v c e h (copied q) p = ap held_all p ∙ set_held s' i c ∙ ap (λ z. slice_set z i (held c)) (all_pushed ps s s' e h) ∙ ap (slice_set (held_all ps) i) q

pub ruleset setting = (pushed_long, part_set)

replaced_there : (f : Text) (fs : List Text) (i : ℕ) (ds : List Datum) (e : Datum) → Is_first f fs i → i < length ds → datum_replaced f e (named_parts fs ds) ≡ named_parts fs (slice_set ds i e)
replaced_there f fs i [] e h l = absurd (omega arith)
replaced_there f [] i (d ∷ ds) e h l = absurd h
replaced_there f (g ∷ fs) zero (d ∷ ds) e h l = ap (λ b. cond b (named_and g e (named_parts fs ds)) (named_and g d (datum_replaced f e (named_parts fs ds)))) h
replaced_there f (g ∷ fs) (suc i) (d ∷ ds) e h l = ap (λ b. cond b (named_and g e (named_parts fs ds)) (named_and g d (datum_replaced f e (named_parts fs ds)))) h.0 ∙ ap (named_and g d) (replaced_there f fs i ds e h.1 (omega arith))

pub record_replaced : (f : Text) (d v : Data) (m k : ℕ) (fs gs : List Text) (ps qs rs : List Data) (i : ℕ) → d ≡ hold.Record m fs ps → Is_first f fs i → i < length ps → held_all qs ≡ slice_set (held_all ps) i (held v) → gs ≡ fs → rs ≡ qs → Comes_to (replaced_of f (held d) (held v)) (as_held (Ok (hold.Record k gs rs)))
record_replaced f d v m k fs gs ps qs rs i e h l q p x =
    comes_to (ap (λ z. replaced_of f z (held v)) (ap held e ∙ held_record m fs ps)
    ∙ ap (λ z. Val (Record_datum z)) (replaced_there f fs i (held_all ps) (held v) h (omega (arith, held_length ps)))
    ∙ ap (λ z. Val (Record_datum (named_parts fs z))) (sym q) ∙ ap (λ z. Val (Record_datum (named_parts fs (held_all z)))) (sym x) ∙ ap (λ z. Val (Record_datum (named_parts z (held_all rs)))) (sym p)
    ∙ ap Val (sym (held_record k gs rs)))

pub ruleset replacing = (record_replaced, no_memory_comes)

-- ---- fields one after the other

pub data Half_put (ns : Named_datums) (fs rest : List Text) (s0 s : List Datum) : Type 0 where
  half_put : (es : List Datum) → s ≡ s0 ++ es → datum_parts fs ns ≡ and_then (datum_parts rest ns) (λ ws. Val (es ++ ws)) → Half_put ns fs rest s0 s

unfoldable pub Fields_up_to : Named_datums → List (Bor Text) → ℕ → List Datum → List Datum → Type 0
Fields_up_to ns fs i s0 s = Half_put ns (texts fs) (texts (drop i fs)) s0 s

module _ (ns : Named_datums) (fs : List (Bor Text)) (s0 : List Datum) where
  pub fields_start : Fields_up_to ns fs 0 s0 s0
  unfolding Fields_up_to
  fields_start = half_put [] (sym (append-nil s0)) (nothing_yet (datum_parts (texts fs) ns))
    where
      nothing_yet : (o : Out (List Datum)) → o ≡ and_then o (λ ws. Val ([] ++ ws))
      nothing_yet (Val ws) = refl
      nothing_yet (Fail r) = refl
      nothing_yet Wrong = refl

  one_more : (o : Out Datum) (p : Out (List Datum)) (e : Datum) (es : List Datum) → o ≡ Val e → and_then (and_then o (λ d. and_then p (λ ws. Val (d ∷ ws)))) (λ ws. Val (es ++ ws)) ≡ and_then p (λ ws. Val ((es ++ e ∷ []) ++ ws))
  one_more o p e es q = ap (λ z. and_then (and_then z (λ d. and_then p (λ ws. Val (d ∷ ws)))) (λ ws. Val (es ++ ws))) q ∙ by_rest p
    where
      by_rest : (p : Out (List Datum)) → and_then (and_then p (λ ws. Val (e ∷ ws))) (λ ws. Val (es ++ ws)) ≡ and_then p (λ ws. Val ((es ++ e ∷ []) ++ ws))
      by_rest (Val ws) = ap Val (sym (append_assoc es (e ∷ []) ws))
      by_rest (Fail r) = refl
      by_rest Wrong = refl

  pub fields_more : (i : ℕ) (f : Bor Text) (c : Data) (s s' : List Data) → i < length fs → Fields_up_to ns fs i s0 (held_all s) → Comes_to (or_wrong (datum_field (get_or fs i f).now ns)) (as_held (Ok c)) → s' ≡ s ++ c ∷ [] → Fields_up_to ns fs (i + 1) s0 (held_all s')
  unfolding Fields_up_to held_all
  fields_more i f c s s' l (half_put es q h) (comes_to p) e =
      subst (λ z. Half_put ns (texts fs) (texts (drop z fs)) s0 (map held s')) (sym (add-one i))
      (half_put (es ++ held c ∷ [])
      (ap (map held) e ∙ map_push held s c ∙ ap (λ z. z ++ held c ∷ []) q ∙ append_assoc s0 es (held c ∷ []))
      (h ∙ ap (λ z. and_then (datum_parts (texts z) ns) (λ ws. Val (es ++ ws))) (drop-cons fs i f l)
      ∙ one_more (or_wrong (datum_field (get_or fs i f).now ns)) (datum_parts (texts (drop (suc i) fs)) ns) (held c) es p))

  pub fields_end : (i : ℕ) (s : List Datum) → length fs ≤ i → Fields_up_to ns fs i s0 s → All_put (datum_parts (texts fs) ns) s0 s (Ok tt)
  unfolding Fields_up_to
  fields_end i s l (half_put es q h) = all_put {es = es} (h ∙ ap (λ z. and_then (datum_parts (texts z) ns) (λ ws. Val (es ++ ws))) (drop_past fs i l) ∙ ap Val (append-nil es)) q

pub ruleset fielding = (fields_start, fields_more, fields_end, not_all_put)

pub record_fields : (fs : List Text) (d : Data) (m : ℕ) (gs : List Text) (ps : List Data) (s s' : List Datum) (r : Result (Unit {0}) Stop) → d ≡ hold.Record m gs ps → All_put (datum_parts fs (named_parts gs (held_all ps))) s s' r → All_put (fields_of fs (held d)) s s' r
record_fields fs d m gs ps s s' r e h = subst (λ z. All_put (fields_of fs z) s s' r) (sym (ap held e ∙ held_record m gs ps)) h

pub ruleset fields_put = (record_fields, not_all_put)
