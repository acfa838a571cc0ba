-- What the steps of a term allow, the term allows, and the other way round, with the same counts: a lemma a form.
use Rattle.std.proofs.Common.{◌≡◌, ℕ, suc, ◌+◌, ◌≤◌, ◌++◌, List, [], ◌∷◌, Bool, true, false, Some, None, refl, sym, ap, ◌∙◌, subst, arith, length, nat_lt, Option}
use Rattle.fut_scalar.specs.declared.place.BindId.{BindId}
use Rattle.fut_scalar.specs.declared.place.Place.{Place}
use Rattle.fut_scalar.specs.declared.report.FailKind.TheVariants as kind
use Rattle.fut_scalar.specs.declared.scalar.Scalar.{Scalar}
use Rattle.fut_scalar.specs.declared.scalar.Scalar.TheVariants as scalar
use Rattle.fut_flat.specs.declared.prim.Primitive.{Primitive}
use Rattle.fut_flat.specs.declared.prim.Primitive.TheVariants as prim
use Rattle.fut_flat.specs.declared.prim.Ref.{Ref}
use Rattle.fut_flat.specs.Erased.{FlatTerm, FlatPattern}
use Rattle.fut_flat.specs.Numbers.{pattern_numbers, numbers}
use Rattle.fut_flat.specs.Terms.{Terms, While}
use Rattle.std.proofs.Common.{nat_eq}
use Rattle.std.proofs.lemmas.List.{length-map}
use Rattle.std.proofs.lemmas.Bool.{eqb-true, eqb-false}
use Rattle.fut_meaning.specs.Arrays.{rows_of, truth_of_datum}
use Rattle.fut_value.specs.Data.{Datum, Scalar_datum}
use Rattle.fut_meaning.specs.Datums.{as_value, all_values, datum_of, takes, function_argument}
use Rattle.fut_meaning.specs.Jobs.{job}
use Rattle.fut_meaning.specs.Programs.{applied_to}
use Rattle.fut_meaning.proofs.Data.{datum_of-as}
use Rattle.fut_meaning.specs.Accessors.{or_wrong, truth_of, turns_of, bound}
use Rattle.fut_meaning.specs.Flats.{FlatValue, FlatEnv, FlatTops, flat_names}
use Rattle.fut_meaning.specs.Found.{Told, Sizing}
use Rattle.fut_meaning.specs.Telling.{value_shape}
use Rattle.fut_meaning.specs.Flats.{flat_look, size_or}
use Rattle.fut_meaning.specs.Meaning.{Of_function, sizes_agree}
use Rattle.fut_blocks.specs.Rows.{Extent}
use Rattle.fut_blocks.specs.Sizes.{passes}
use Rattle.fut_blocks.specs.Meaning.{size_given}
use Rattle.unfold.specs.Telling.{found, size_test, test_at, function_row}
use Rattle.unfold.specs.Unfolding.{u_size, function_known}
use Rattle.unfold.specs.Knowns.{Tuple_known, listed}
use Rattle.unfold.proofs.Rows.{test_is}
use Rattle.unfold.proofs.Told.{known_is, found_says, literal_is, result_shape_is}
use Rattle.unfold.proofs.Taken.{Size_is, size_is, no_size_is}
use Rattle.unfold.proofs.Operating.{Told_test}
use Rattle.fut_meaning.specs.Meaning.{Lang, plain, row_told, fits_type, counts, placed, called, no_function, job_of, runs, given, looped, step, Ever}
use Rattle.fut_meaning.specs.Meaning as meaning
use Rattle.fut_meaning.specs.Operations.{report, parameters_of, arity, is_of_scalars, primitive, primitive_use}
use Rattle.fut_meaning.specs.Outcomes.{Out, Val, Wrong, and_then, Rel, the, Then, choose, each_of, turns}
use Rattle.fut_meaning.specs.Sames.{All_same, all_none, all_more, Same_out, same_value, Sim}
use Rattle.fut_meaning.specs.Values as values
use Rattle.fut_meaning.specs.Values.{Scalar_value, bind, entered, Task, Evaluate, Call, Meanings}
use Rattle.fut_meaning.proofs.Ever.{close, open_up}
use Rattle.fut_meaning.proofs.Sims.{the_sim, then_sim, chosen_sim, turns_sim, while_sim, out_same, all_refl, append_same, length_same}
use Rattle.fut_blocks.specs.declared.block.Atom.{Atom}
use Rattle.fut_blocks.specs.Meaning.{Component, Names, as_flat, values_of, holds, under, turns_of_datum, the_one, function_of, act_means, body_means}
use Rattle.fut_blocks.specs.Numbered.{Upward}
use Rattle.fut_blocks.specs.Plain.{Body, lets}
use Rattle.fut_blocks.specs.Plain as act
use Rattle.fut_blocks.specs.declared.block.Atom.TheVariants as atom
use Rattle.unfold.specs.Knowns.{Known, Scalar_known, Primitive_known, no_known, Scope, entered_in, Tops, knowns}
use Rattle.unfold.specs.Shapes.{Shape, Scalar_shape, Laid, laid_scalar, Split, split_scalar, Is_value}
use Rattle.unfold.specs.Unfolding.{Bindings, names, named, constant_of, Unfolds, u_name, u_primitive, u_constant, u_strict, u_lambda, u_apply, u_let, u_packed, u_if, u_counted, u_over, u_while, Unfold_all, u_none, u_more, Applies, a_body, a_waits, a_primitive_waits, a_primitive, a_job, Applies_all, a_none, a_more, Packs}
use Rattle.unfold.specs.Unfolding as unfolding_of
use Rattle.unfold.proofs.Alike.{Alike, alike_same, alike_on, alike_then, alike_grouped, alike_value, alike_given, alike_joined, alike_back, sim_left, sim_right, known_left}
use Rattle.unfold.proofs.Arguments.{data_stand, function_stands, all_new, none_bound, stuck_sim, job_step}
use Rattle.unfold.proofs.Packing.{packs_grow, packs_all_grow, packs_sim, packs_all_sim, pack_stands}
use Rattle.unfold.proofs.Stands.{Has, Stands, s_scalar, s_tuple, s_function, s_primitive, s_none, Holds, h_bind, h_entered, Tops_stand, Extends, extends_same, extends_on, extends_one, has_new, stands_on, holds_on, tops_on, list_on, name_found, some_inj}
use Rattle.unfold.proofs.Patterns.{listed_stand, knowns_stand}
use Rattle.unfold.proofs.Binding.{binds_grow, binds_sim}
use Rattle.unfold.proofs.Components.{gather, binds_names, values_are, upward_grows, upward_from}
use Rattle.unfold.proofs.Runs.{Gives, Standing, All_standing, run, alike_lets, none_sim, seq_sim, made_sim, step_sim, body_sim, under_sim}
use Rattle.unfold.proofs.Operating.{truth_of-as, turns_of-as, operates_grow, primitive_grows, operates_sim, primitive_sim}

module _ {told : Told} {tops : Tops} where
  mutual
    pub unfolds_grow : {sc : Scope} {lo n m : ℕ} {t : FlatTerm} {bs : Bindings} {s : Known} → Unfolds told tops sc lo t n bs s m → n ≤ m
    unfolds_grow (u_name q r) = omega arith
    unfolds_grow (u_size q le) = omega (arith, le)
    unfolds_grow (u_primitive q) = omega arith
    unfolds_grow (u_constant q) = omega arith
    unfolds_grow (u_strict p o) = omega (arith, all_grow p, operates_grow o)
    unfolds_grow u_lambda = omega arith
    unfolds_grow (u_apply p q r) = omega (arith, unfolds_grow p, unfolds_grow q, applies_grow r)
    unfolds_grow (u_let p b q) = omega (arith, unfolds_grow p, binds_grow b, unfolds_grow q)
    unfolds_grow (u_packed p k) = omega (arith, unfolds_grow p, packs_grow k)
    unfolds_grow (u_if {n3 = n3} {n4} xs p q l r k up t) = omega (arith, unfolds_grow p, unfolds_grow q, unfolds_grow r, upward_grows n3 xs n4 up)
    unfolds_grow (u_counted {n2 = n2} {n3 = n3} {n5 = n5} {n6 = n6} ps xs p l q up k le b r i up' t) = omega (arith, unfolds_grow p, unfolds_grow q, upward_grows n2 ps n3 up, le, binds_grow b, unfolds_grow r, upward_grows n5 xs n6 up')
    unfolds_grow (u_over {n2 = n2} {n3 = n3} {n6 = n6} {n7 = n7} ps xs p l q up k le b c r i up' t) = omega (arith, unfolds_grow p, unfolds_grow q, upward_grows n2 ps n3 up, le, binds_grow b, binds_grow c, unfolds_grow r, upward_grows n6 xs n7 up')
    unfolds_grow (u_while {n1 = n1} {n2 = n2} {n6 = n6} {n7 = n7} ps xs p l up k b q c r i up' t) = omega (arith, unfolds_grow p, upward_grows n1 ps n2 up, binds_grow b, unfolds_grow q, binds_grow c, unfolds_grow r, upward_grows n6 xs n7 up')

    pub all_grow : {sc : Scope} {lo n m : ℕ} {ts : Terms Ref BindId} {bs : Bindings} {ss : List Known} → Unfold_all told tops sc lo ts n bs ss m → n ≤ m
    all_grow u_none = omega arith
    all_grow (u_more p q) = omega (arith, unfolds_grow p, all_grow q)

    pub applies_grow : {f s s' : Known} {n m : ℕ} {bs : Bindings} → Applies told tops f s n bs s' m → n ≤ m
    applies_grow (a_body b p) = omega (arith, binds_grow b, unfolds_grow p)
    applies_grow (a_waits b) = binds_grow b
    applies_grow (a_primitive_waits q) = omega arith
    applies_grow (a_primitive q i p) = primitive_grows p
    applies_grow (a_job {n1 = n1} {n2} xs q i e r up l a k le) = omega (arith, packs_all_grow r, upward_grows n1 xs n2 up, applied_grows a, packs_grow k, le)

    pub applied_grows : {ss : List Known} {f s : Known} {n m : ℕ} {bs : Bindings} → Applies_all told tops ss f n bs s m → n ≤ m
    applied_grows a_none = omega arith
    applied_grows (a_more p r) = omega (arith, applies_grow p, applied_grows r)

primitive_stands : {sizes : Option Sizing} {d : Names Component} {n : ℕ} (p : Primitive) (at : Place) → constant_of p ≡ None → Stands sizes d n (Primitive_known p at no_known) (primitive_use p at)
primitive_stands (prim.Lowest t) at q = absurd (cc)
primitive_stands (prim.Highest t) at q = absurd (cc)
primitive_stands (prim.NumBits t) at q = absurd (cc)
primitive_stands p at q = s_primitive s_none

abbrev the_value : FlatValue → Out FlatValue
the_value v = Val v

constant_use : (p : Primitive) (at : Place) (c : Scalar) → constant_of p ≡ Some c → the_value (primitive_use p at) ≡ Val (Scalar_value c)
constant_use (prim.Lowest t) at c q = ap (λ z. Val (Scalar_value z)) (some_inj q)
constant_use (prim.Highest t) at c q = ap (λ z. Val (Scalar_value z)) (some_inj q)
constant_use (prim.NumBits t) at c q = ap (λ z. Val (Scalar_value z)) (some_inj q)
constant_use p at c q = absurd (let z : None ≡ Some c = q in cc)

-- a value of which an atom is known is data
on_scalar : {sizes : Option Sizing} {d : Names Component} {n : ℕ} {u : Atom} {v : FlatValue} (G : FlatValue → Type 0) → Stands sizes d n (Scalar_known u) v → ((c : Component) → Has d n u c → G (as_flat c)) → G v
on_scalar G (s_scalar {c = c} e h) l = subst G (sym e) (l c h)

holds_same : {v : FlatValue} {cs : List Component} → Split Scalar_shape v cs [] → Same_out ◌≡◌ (holds cs) (truth_of v)
holds_same (split_scalar {c = c} e) = subst (λ z. Same_out ◌≡◌ (truth_of_datum c) z) (sym (ap truth_of e ∙ truth_of-as c)) (out_same (truth_of_datum c))

-- ---- branches and loops, over what their parts simulate

module _ (tight : Bool) (budget : ℕ) (R : Meanings Ref BindId (Unit {0})) (dir : Bool) where
  branch_sim : {e : Names Component} {n : ℕ} {u : Atom} {c : Component} {h : Shape} (a b : Body) {P Q : Rel FlatValue} → Has e n u c → Sim (Is_value h) (body_means tight budget a e) P dir → Sim (Is_value h) (body_means tight budget b e) Q dir → Sim (Is_value h) (act_means tight budget (act.If u a b) e) (Then (the (truth_of (as_flat c))) (λ t. choose t P Q)) dir
  unfolding act_means
  branch_sim {e} {c = c} {h} a b {P} {Q} k s t =
      subst (λ z. Sim (Is_value h) (Then (the (and_then z truth_of_datum)) (λ t. choose t (body_means tight budget a e) (body_means tight budget b e))) (Then (the (truth_of (as_flat c))) (λ t. choose t P Q)) dir) (sym k.value)
      (subst (λ z. Sim (Is_value h) (Then (the (truth_of_datum c)) (λ t. choose t (body_means tight budget a e) (body_means tight budget b e))) (Then (the z) (λ t. choose t P Q)) dir) (sym (truth_of-as c))
      (then_sim dir (the_sim dir (out_same (truth_of_datum c))) (λ x x' q. chosen_sim dir x x' q s t)))

  counted_sim : {sizes : Option Sizing} {e : Names Component} {n m y : ℕ} {u : Atom} {c : Component} {h : Shape} {s r : Known} {us : List Atom} (ps : List ℕ) (b : Body) (p : FlatPattern) (env : FlatEnv) {v : FlatValue} (i : BindId) (body : FlatTerm) (node at mid : ℕ)
      → Has e n u c → Laid h s us [] → Stands sizes e n s v → Upward n ps m → Laid h r (names ps) [] → m ≤ y
      → ((e1 : Names Component) (w : FlatValue) (k : Scalar) → Extends n e ((y, Scalar_datum k) ∷ e1) → Stands sizes ((y, Scalar_datum k) ∷ e1) (suc y) r w → Sim (Is_value h) (body_means tight budget b ((y, Scalar_datum k) ∷ e1)) (meaning.under R node p w env (λ e. Evaluate (bind i (Scalar_value k) (entered at (Scalar_value k) e)) mid body)) dir)
      → Sim (Is_value h) (act_means tight budget (act.For ps us y u b) e) (Then (the (turns_of (as_flat c))) (λ c. turns (λ j w. meaning.under R node p w env (λ e. Evaluate (bind i (Scalar_value (scalar.Int c.0 j)) (entered at (Scalar_value (scalar.Int c.0 j)) e)) mid body)) (counts c.1 0) v)) dir
  unfolding act_means
  counted_sim {e} {n} {m} {y} {u} {c} {h} {us = us} ps b p env {v} i body node at mid hu l st up lr le hb =
      let g = gather l st all_none in
      known_left dir (values_of e us) g.components _ _ (values_are g.have)
      (subst (λ z. Sim (Is_value h) (Then (the (and_then z turns_of_datum)) (λ c. turns (λ j ws. under ps ws e (λ e'. body_means tight budget b ((y, Scalar_datum (scalar.Int c.0 j)) ∷ e'))) (counts c.1 0) g.components)) (Then (the (turns_of (as_flat c))) (λ c. turns (λ j w. meaning.under R node p w env (λ e. Evaluate (bind i (Scalar_value (scalar.Int c.0 j)) (entered at (Scalar_value (scalar.Int c.0 j)) e)) mid body)) (counts c.1 0) v)) dir) (sym hu.value)
      (subst (λ z. Sim (Is_value h) (Then (the (turns_of_datum c)) (λ c. turns (λ j ws. under ps ws e (λ e'. body_means tight budget b ((y, Scalar_datum (scalar.Int c.0 j)) ∷ e'))) (counts c.1 0) g.components)) (Then (the z) (λ c. turns (λ j w. meaning.under R node p w env (λ e. Evaluate (bind i (Scalar_value (scalar.Int c.0 j)) (entered at (Scalar_value (scalar.Int c.0 j)) e)) mid body)) (counts c.1 0) v)) dir) (sym (turns_of-as c))
      (then_sim dir (the_sim dir (out_same (turns_of_datum c)))
      (λ x x' q. subst (λ z. Sim (Is_value h) (turns (λ j ws. under ps ws e (λ e'. body_means tight budget b ((y, Scalar_datum (scalar.Int x.0 j)) ∷ e'))) (counts x.1 0) g.components) (turns (λ j w. meaning.under R node p w env (λ e. Evaluate (bind i (Scalar_value (scalar.Int z.0 j)) (entered at (Scalar_value (scalar.Int z.0 j)) e)) mid body)) (counts z.1 0) v) dir) q
      (turns_sim dir
      (λ j j' ws w qj sp. subst (λ z. Sim (Is_value h) (under ps ws e (λ e'. body_means tight budget b ((y, Scalar_datum (scalar.Int x.0 j)) ∷ e'))) (meaning.under R node p w env (λ e. Evaluate (bind i (Scalar_value (scalar.Int x.0 z)) (entered at (Scalar_value (scalar.Int x.0 z)) e)) mid body)) dir) qj
      (under_sim tight budget dir ps up lr sp
      (λ e1 x1 k1.
      let one = extends_one m y (Scalar_datum (scalar.Int x.0 j)) e1 le in
      hb e1 w (scalar.Int x.0 j) (extends_on (upward_grows n ps m up) x1 one) (stands_on one (omega (arith, le)) k1))))
      (all_refl (counts x.1 0)) g.components v g.split)))))

  -- a turn for each row
  rows_sim : {sizes : Option Sizing} {e : Names Component} {n m y : ℕ} {u : Atom} {c : Component} {h : Shape} {s r : Known} {us : List Atom} (ps : List ℕ) (b : Body) (p q : FlatPattern) (env : FlatEnv) {v : FlatValue} (body : FlatTerm) (node at mid : ℕ)
      → Has e n u c → Laid h s us [] → Stands sizes e n s v → Upward n ps m → Laid h r (names ps) [] → m ≤ y
      → ((e1 : Names Component) (w : FlatValue) (k : Datum) → Extends n e ((y, k) ∷ e1) → Stands sizes ((y, k) ∷ e1) (suc y) r w → Sim (Is_value h) (body_means tight budget b ((y, k) ∷ e1)) (Then (the (bound node p w env)) (λ e. meaning.under R at q (as_value k) e (λ e. Evaluate e mid body))) dir)
      → Sim (Is_value h) (act_means tight budget (act.Over ps us y u b) e) (Then (the (and_then (datum_of (as_flat c)) rows_of)) (λ rs. turns (λ d w. Then (the (bound node p w env)) (λ e. meaning.under R at q (as_value d) e (λ e. Evaluate e mid body))) rs.1 v)) dir
  unfolding act_means
  rows_sim {e} {n} {m} {y} {u} {c} {h} {us = us} ps b p q env {v} body node at mid hu l st up lr le hb =
      let g = gather l st all_none in
      known_left dir (values_of e us) g.components _ _ (values_are g.have)
      (subst (λ z. Sim (Is_value h) (Then (the (and_then z rows_of)) (λ rs. turns (λ d ws. under ps ws e (λ e'. body_means tight budget b ((y, d) ∷ e'))) rs.1 g.components)) (Then (the (and_then (datum_of (as_flat c)) rows_of)) (λ rs. turns (λ d w. Then (the (bound node p w env)) (λ e. meaning.under R at q (as_value d) e (λ e. Evaluate e mid body))) rs.1 v)) dir) (sym hu.value)
      (subst (λ z. Sim (Is_value h) (Then (the (rows_of c)) (λ rs. turns (λ d ws. under ps ws e (λ e'. body_means tight budget b ((y, d) ∷ e'))) rs.1 g.components)) (Then (the (and_then z rows_of)) (λ rs. turns (λ d w. Then (the (bound node p w env)) (λ e. meaning.under R at q (as_value d) e (λ e. Evaluate e mid body))) rs.1 v)) dir) (sym (datum_of-as c))
      (then_sim dir (the_sim dir (out_same (rows_of c)))
      (λ x x' eq. subst (λ z. Sim (Is_value h) (turns (λ d ws. under ps ws e (λ e'. body_means tight budget b ((y, d) ∷ e'))) x.1 g.components) (turns (λ d w. Then (the (bound node p w env)) (λ e. meaning.under R at q (as_value d) e (λ e. Evaluate e mid body))) z.1 v) dir) eq
      (turns_sim dir
      (λ j j' ws w qj sp. subst (λ z. Sim (Is_value h) (under ps ws e (λ e'. body_means tight budget b ((y, j) ∷ e'))) (Then (the (bound node p w env)) (λ e. meaning.under R at q (as_value z) e (λ e. Evaluate e mid body))) dir) qj
      (under_sim tight budget dir ps up lr sp
      (λ e1 x1 k1.
      let one = extends_one m y j e1 le in
      hb e1 w j (extends_on (upward_grows n ps m up) x1 one) (stands_on one (omega (arith, le)) k1))))
      (all_refl x.1) g.components v g.split)))))

  loop_sim : {sizes : Option Sizing} {e : Names Component} {n m : ℕ} {h : Shape} {s r : Known} {us : List Atom} (ps : List ℕ) (t b : Body) (p : FlatPattern) (env : FlatEnv) {v : FlatValue} (mark : Place) (test body : FlatTerm) (node lo mid : ℕ)
      → Laid h s us [] → Stands sizes e n s v → Upward n ps m → Laid h r (names ps) []
      → ((e1 : Names Component) (w : FlatValue) → Extends n e e1 → Stands sizes e1 m r w → Sim (Is_value Scalar_shape) (body_means tight budget t e1) (meaning.under R node p w env (λ x. Evaluate x lo test)) dir)
      → ((e1 : Names Component) (w : FlatValue) → Extends n e e1 → Stands sizes e1 m r w → Sim (Is_value h) (body_means tight budget b e1) (meaning.under R node p w env (λ x. Evaluate x mid body)) dir)
      → Sim (Is_value h) (act_means tight budget (act.While mark ps us t b) e) (looped budget R env node p mark (While test) body lo mid v) dir
  unfolding act_means
  loop_sim {e} {n} {m} {h} {us = us} ps t b p env {v} mark test body node lo mid l st up lr ht hb =
      let g = gather l st all_none in
      known_left dir (values_of e us) g.components _ _ (values_are g.have)
      (while_sim budget (report kind.Turns mark) dir
      (λ ws w sp. under_sim tight budget dir ps up lr sp
      (λ e1 x1 k1. then_sim dir (ht e1 w x1 k1) (λ ws' w' sp'. the_sim dir (holds_same sp'))))
      (λ ws w sp. under_sim tight budget dir ps up lr sp (λ e1 x1 k1. hb e1 w x1 k1))
      g.components v g.split)

same_below : (n : ℕ) → n ≤ n
same_below n = omega arith

-- the sizes of the type at a node are tested as the meaning does
test_told : (sizes : Option Sizing) {sc : Scope} {env : FlatEnv} {d : Names Component} {n : ℕ} (lo : ℕ) → Holds sizes d n sc env → Told_test sizes (test_at sizes sc lo) (sizes_agree sizes env lo) n d
test_told None lo h = λ e x s v k. refl
test_told (Some Z) {sc} lo h = λ e x s v k. ap (λ z. and_then z (passes e (size_test Z.fields (found Z (entered_in sc)) (Z.size_at lo)))) (known_is k).is ∙ test_is e Z.fields (found_says (holds_on x (same_below _) h)) (Z.size_at lo) (value_shape v)

module _ (told : Told) (tight : Bool) (budget : ℕ) (tops : Tops) (tops' : FlatTops) (dir : Bool) where
  abbrev pub L : Lang Ref BindId (Unit {0})
  L = (flat_names told).lang tops'

  abbrev pub R : Meanings Ref BindId (Unit {0})
  R = Ever L (plain tight) budget

  -- over what a form means
  opened : {A : Type 0} {q : A → FlatValue → Type 0} {m : Rel A} (t : Task Ref BindId (Unit {0})) → Sim q m (step L (plain tight) budget R t) dir → Sim q m (R t) dir
  opened t s = sim_right dir (record { to = close L (plain tight) budget t; from = open_up L (plain tight) budget t }) s

  -- a size as an expression
  size_sim : {d : Names Component} {n x : ℕ} {env : FlatEnv} (e : Extent) (k : ℕ) (o : Out FlatValue) → n ≤ x → Size_is told.sizes d env k e o → Sim (Gives d n (Standing told.sizes (named x) (suc x))) (run tight budget (unfolding_of.step (x ∷ []) (act.Size_of e)) d) (the (size_or told.sizes env k o)) dir
  unfolding act_means
  size_sim {x = x} {env} e k o le r =
      step_sim tight budget dir {h = Scalar_shape} (x ∷ []) (act.Size_of e)
      (the_sim dir (subst (λ z. Same_out (Is_value Scalar_shape) (and_then z size_given) (size_or told.sizes env k o)) (sym r.extent)
      (subst (λ z. Same_out (Is_value Scalar_shape) (size_given r.worth) z) (sym r.is) (same_value (split_scalar refl)))))
      (le, omega arith) laid_scalar

  waits_sim : {d : Names Component} {n : ℕ} (p : Primitive) (at : Place) {ss : List Known} {vs : List FlatValue} → nat_lt (length ss) (arity p) ≡ true → All_same (Stands told.sizes d n) ss vs → Sim (Gives d n (Standing told.sizes (Primitive_known p at (knowns ss)) n)) (run tight budget [] d) (meaning.with_arguments L (plain tight) budget R p at vs) dir
  waits_sim {d} {n} p at {ss} {vs} q h =
      subst (λ z. Sim (Gives d n (Standing told.sizes (Primitive_known p at (knowns ss)) n)) (run tight budget [] d) (given L (plain tight) budget R p at vs z) dir) (sym (ap (λ k. nat_lt k (arity p)) (sym (length_same h)) ∙ q))
      (none_sim tight budget dir _ refl (s_primitive (knowns_stand h)))

  scalars_sim : {d : Names Component} {n m : ℕ} (p : Primitive) (at : Place) {ss : List Known} {s : Known} {vs : List FlatValue} {bs : Bindings} → nat_lt (length ss) (arity p) ≡ false → is_of_scalars p ≡ true → unfolding_of.Primitive_operates p at ss n bs s m → All_same (Stands told.sizes d n) ss vs → Sim (Gives d n (Standing told.sizes s m)) (run tight budget bs d) (meaning.with_arguments L (plain tight) budget R p at vs) dir
  scalars_sim {d} {n} {m} p at {s = s} {vs} {bs} q i o h =
      subst (λ z. Sim (Gives d n (Standing told.sizes s m)) (run tight budget bs d) (given L (plain tight) budget R p at vs z) dir) (sym (ap (λ k. nat_lt k (arity p)) (sym (length_same h)) ∙ q))
      (subst (λ z. Sim (Gives d n (Standing told.sizes s m)) (run tight budget bs d) (choose z (the (primitive p at vs)) (runs L (plain tight) budget R p at vs)) dir) (sym i)
      (primitive_sim tight budget dir o h))

  arrays_sim : {d : Names Component} {n m : ℕ} {s : Known} (p : Primitive) (at : Place) {ss : List Known} {vs : List FlatValue} (bs : Bindings) → nat_lt (length ss) (arity p) ≡ false → is_of_scalars p ≡ false → All_same (Stands told.sizes d n) ss vs → Sim (Gives d n (Standing told.sizes s m)) (run tight budget bs d) (runs L (plain tight) budget R p at vs) dir → Sim (Gives d n (Standing told.sizes s m)) (run tight budget bs d) (meaning.with_arguments L (plain tight) budget R p at vs) dir
  arrays_sim {d} {n} {m} {s} p at {vs = vs} bs q i h o =
      subst (λ z. Sim (Gives d n (Standing told.sizes s m)) (run tight budget bs d) (given L (plain tight) budget R p at vs z) dir) (sym (ap (λ k. nat_lt k (arity p)) (sym (length_same h)) ∙ q))
      (subst (λ z. Sim (Gives d n (Standing told.sizes s m)) (run tight budget bs d) (choose z (the (primitive p at vs)) (runs L (plain tight) budget R p at vs)) dir) (sym i) o)

  -- a function applied to data gives what it gives for its values
  alike_called : (f : FlatValue) (ds : List Datum) → Alike (Then (applied_to (flat_names told) R (all_values ds) f) (λ v. the (datum_of v))) (called R f ds)
  alike_called f [] = alike_value f (λ v. the (datum_of v))
  alike_called f (d ∷ ds) = alike_on (alike_back (alike_grouped _ _ _)) (alike_then (alike_same _) (λ g. alike_called g ds))

  one_same : {e : Names Component} {l : ℕ} {w : Atom} (c : Datum) → Has e l w c → Same_out ◌≡◌ (and_then (values_of e (w ∷ [])) the_one) (Val c)
  one_same c g = subst (λ z. Same_out ◌≡◌ (and_then (and_then z (λ v. Val (v ∷ []))) the_one) (Val c)) (sym g.value) (same_value refl)

  -- the function of a primitive, as a block
  applied_block : {e : Names Component} {m k l : ℕ} (f : FlatValue) {r : Known} {w : Atom} (cs es : Bindings) (ds : List Datum) → m ≤ k → Packs r k es w l
      → Sim (Gives e m (Standing told.sizes r k)) (run tight budget cs e) (applied_to (flat_names told) R (all_values ds) f) dir
      → Sim ◌≡◌ (Then (body_means tight budget (lets (cs ++ es) (w ∷ [])) e) (λ ws. the (the_one ws))) (called R f ds) dir
  applied_block {e} f {w = w} cs es ds grow pk h =
      sim_right dir (alike_called f ds)
      (sim_left dir (alike_then (alike_lets tight budget (cs ++ es) (w ∷ []) e) (λ ws. alike_same _))
      (sim_left dir (alike_grouped _ _ _)
      (sim_right dir (alike_given _)
      (then_sim dir
      (seq_sim tight budget dir cs es grow h (λ e2 v x st. packs_sim tight budget dir pk st))
      (λ e2 c g. sim_left dir (alike_back (alike_joined (values_of e2 (w ∷ [])) the_one)) (the_sim dir (one_same c g.says)))))))

  function_by : {e : Names Component} {n m : ℕ} (f : FlatValue) (xs : List ℕ) (b : Body) (arguments : ℕ) → Upward n xs m → length xs ≡ arguments
      → (ds : List Datum) → ((e1 : Names Component) → Extends n e e1 → All_same (Has e1 m) (names xs) ds → Sim ◌≡◌ (Then (body_means tight budget b e1) (λ ws. the (the_one ws))) (called R f ds) dir)
      → (z : Bool) → nat_eq (length ds) arguments ≡ z → Sim ◌≡◌ (function_of (body_means tight budget b) xs e ds) (choose z (called R f ds) (the Wrong)) dir
  function_by {e} {n} {m} f xs b arguments up len ds h true q =
      let g = binds_names n xs m ds e up (length-map xs atom.Name ∙ len ∙ sym (eqb-true (length ds) arguments q)) in
      sim_left dir (alike_grouped _ _ _) (known_left dir (or_wrong (Rattle.fut_blocks.specs.Meaning.bound xs ds e)) g.env _ _ (ap or_wrong g.is) (h g.env g.extends g.have))
  function_by {e} f xs b arguments up len ds h false q =
      subst (λ z. Sim ◌≡◌ (Then (Then (the (or_wrong z)) (body_means tight budget b)) (λ ws. the (the_one ws))) (the Wrong) dir) (sym (none_bound xs ds e (λ z. eqb-false (length ds) arguments q (sym z ∙ len)))) (stuck_sim dir)

  mutual
    unfolding flat_names plain row_told fits_type

    pub unfold_sim : {sc : Scope} {lo n m : ℕ} {t : FlatTerm} {bs : Bindings} {s : Known} {d : Names Component} {env : FlatEnv} → Unfolds told tops sc lo t n bs s m → Tops_stand told.sizes d n tops tops' → Holds told.sizes d n sc env → Sim (Gives d n (Standing told.sizes s m)) (run tight budget bs d) (R (Evaluate env lo t)) dir
    unfold_sim {n = n} {d = d} {env = env} (u_name {b = b} {s = s} q f) ts h = opened _ (let r = name_found d n b.0 s ts h f in none_sim tight budget dir r.value (no_size_is told.sizes _ env b.0 (flat_look tops' env b.0) q ∙ r.is) r.stands)
    unfold_sim {d = d} {env = env} (u_size {x = x} {b = b} {e = e} q le) ts h = opened _ (size_sim e b.0 (flat_look tops' env b.0) le (size_is told.sizes b.0 (flat_look tops' env b.0) h q))
    unfold_sim (u_primitive {p = p} {at} q) ts h = opened _ (none_sim tight budget dir (primitive_use p at) refl (primitive_stands p at q))
    unfold_sim (u_constant {p = p} {at} {c} q) ts h = opened _ (none_sim tight budget dir _ (constant_use p at _ q) (s_scalar refl (record { value = refl; below = tt })))
    unfold_sim (u_strict {lo = lo} {bs = bs} {cs} p o) ts h =
        opened _ (seq_sim tight budget dir bs cs (all_grow p) (all_sim p ts h)
        (λ e vs x k. operates_sim tight budget dir (fits_type L _ lo) (λ e' x'. literal_is told.sizes lo (holds_on x' (same_below _) (holds_on x (all_grow p) h))) (test_told told.sizes lo (holds_on x (all_grow p) h)) o k))
    unfold_sim u_lambda ts h = opened _ (none_sim tight budget dir _ refl (s_function h))
    unfold_sim (u_apply {bs = bs} {cs} {ds} p q r) ts h =
        opened _ (seq_sim tight budget dir bs (cs ++ ds) (unfolds_grow p) (unfold_sim p ts h)
        (λ e f x k. seq_sim tight budget dir cs ds (unfolds_grow q) (unfold_sim q (tops_on x (unfolds_grow p) ts) (holds_on x (unfolds_grow p) h))
        (λ e' v x' l. applies_sim r (tops_on x' (unfolds_grow q) (tops_on x (unfolds_grow p) ts)) (stands_on x' (unfolds_grow q) k) l)))
    unfold_sim (u_let {bs = bs} {cs = cs} {ds = ds} p bd q) ts h =
        opened _ (seq_sim tight budget dir bs _ (unfolds_grow p) (unfold_sim p ts h)
        (λ e w x k. seq_sim tight budget dir cs ds (binds_grow bd) (binds_sim tight budget dir _ bd k (holds_on x (unfolds_grow p) h))
        (λ e' env' x' h'. unfold_sim q (tops_on x' (binds_grow bd) (tops_on x (unfolds_grow p) ts)) h')))
    unfold_sim (u_packed {bs = bs} {cs = cs} p pk) ts h =
        sim_right dir (alike_given _) (seq_sim tight budget dir bs cs (unfolds_grow p) (unfold_sim p ts h) (λ e v x k. pack_stands tight budget dir pk k))
    unfold_sim {env = env} (u_if {lo = lo} {n1 = n1} {n2} {n3} {n4} {c = c} {a} {b} {bs} {cs} {ds} {u} {h = sh} {t = t} {us} {ws} xs p q l r k up lt) ts h =
        opened _ (seq_sim tight budget dir bs _ (unfolds_grow p) (unfold_sim p ts h)
        (λ e v x kv. on_scalar (λ z. Sim (Gives e n1 (Standing told.sizes t n4)) (run tight budget (unfolding_of.step xs (act.If u (lets cs us) (lets ds ws))) e) (Then (the (truth_of z)) (λ holds. choose holds (R (Evaluate env (1 + lo + numbers c) a)) (R (Evaluate env (1 + lo + numbers c + numbers a) b)))) dir) kv
        (λ z hz. step_sim tight budget dir xs _ (branch_sim tight budget R dir (lets cs us) (lets ds ws) hz
        (body_sim tight budget dir cs (unfold_sim q (tops_on x (unfolds_grow p) ts) (holds_on x (unfolds_grow p) h)) l)
        (body_sim tight budget dir ds (unfold_sim r (tops_on x (omega (arith, unfolds_grow p, unfolds_grow q)) ts) (holds_on x (omega (arith, unfolds_grow p, unfolds_grow q)) h)) k)) (upward_from n1 n3 xs n4 (omega (arith, unfolds_grow q, unfolds_grow r)) up) lt)))
    unfold_sim {env = env} (u_counted {sc = sc} {lo = lo} {n2 = n2} {n3 = n3} {n4 = n4} {n5 = n5} {n6 = n6} {y = y} {p = p} {i = i} {first = first} {count = count} {body = body} {bs = bs} {cs = cs} {es = es} {ds = ds} {u = u} {t = t} {us = us} {ws = ws} ps xs p1 l p2 up lr le bd p3 lw up' lt) ts h =
        opened _ (seq_sim tight budget dir bs _ (unfolds_grow p1) (unfold_sim p1 ts h)
        (λ e v x k. seq_sim tight budget dir cs _ (unfolds_grow p2) (unfold_sim p2 (tops_on x (unfolds_grow p1) ts) (holds_on x (unfolds_grow p1) h))
        (λ e' w x' kw. on_scalar (λ z. Sim (Gives e' n2 (Standing told.sizes t n6)) (run tight budget (unfolding_of.step xs (act.For ps us y u (lets (es ++ ds) ws))) e') (Then (the (turns_of z)) (λ c. turns (λ j w. meaning.under R (1 + lo) p w env (λ e. Evaluate (bind i (Scalar_value (scalar.Int c.0 j)) (entered (1 + lo + pattern_numbers p + numbers first) (Scalar_value (scalar.Int c.0 j)) e)) (1 + lo + pattern_numbers p + numbers first + (1 + numbers count)) body)) (counts c.1 0) v)) dir) kw
        (λ c hc. step_sim tight budget dir xs (act.For ps us y u (lets (es ++ ds) ws))
        (counted_sim tight budget R dir ps (lets (es ++ ds) ws) p env i body _ _ _ hc l (stands_on x' (unfolds_grow p2) k) up lr le
        (λ e1 w z x1 st. body_sim tight budget dir (es ++ ds)
        (seq_sim tight budget dir es ds (binds_grow bd) (binds_sim tight budget dir _ bd st (holds_on x1 (omega (arith, le, upward_grows n2 ps n3 up)) (holds_on x' (unfolds_grow p2) (holds_on x (unfolds_grow p1) h))))
        (λ e2 env2 x2 h2. unfold_sim p3 (tops_on x2 (binds_grow bd) (tops_on x1 (omega (arith, le, upward_grows n2 ps n3 up)) (tops_on x' (unfolds_grow p2) (tops_on x (unfolds_grow p1) ts))))
        (let st' = stands_on x2 (binds_grow bd) (s_scalar refl (has_new y (Scalar_datum z) e1)) in h_bind st' (h_entered st' h2)))) lw))
        (upward_from n2 n5 xs n6 (omega (arith, upward_grows n2 ps n3 up, le, binds_grow bd, unfolds_grow p3)) up') lt))))
    unfold_sim {env = env} (u_over {sc = sc} {lo = lo} {n2 = n2} {n3 = n3} {n4 = n4} {n5 = n5} {n6 = n6} {n7 = n7} {y = y} {p = p} {q = q} {first = first} {rows = rows} {body = body} {bs = bs} {cs = cs} {es = es} {es' = es'} {ds = ds} {u = u} {t = t} {us = us} {ws = ws} ps xs p1 l p2 up lr le bd bq p3 lw up' lt) ts h =
        opened _ (seq_sim tight budget dir bs _ (unfolds_grow p1) (unfold_sim p1 ts h)
        (λ e v x k. seq_sim tight budget dir cs _ (unfolds_grow p2) (unfold_sim p2 (tops_on x (unfolds_grow p1) ts) (holds_on x (unfolds_grow p1) h))
        (λ e' w x' kw. on_scalar (λ z. Sim (Gives e' n2 (Standing told.sizes t n7)) (run tight budget (unfolding_of.step xs (act.Over ps us y u (lets (es ++ (es' ++ ds)) ws))) e') (Then (the (and_then (datum_of z) rows_of)) (λ rs. turns (λ d w. Then (the (bound (1 + lo) p w env)) (λ e. meaning.under R (1 + lo + pattern_numbers p + numbers first) q (as_value d) e (λ e. Evaluate e (1 + lo + pattern_numbers p + numbers first + (pattern_numbers q + numbers rows)) body))) rs.1 v)) dir) kw
        (λ c hc. step_sim tight budget dir xs (act.Over ps us y u (lets (es ++ (es' ++ ds)) ws))
        (rows_sim tight budget R dir ps (lets (es ++ (es' ++ ds)) ws) p q env body _ _ _ hc l (stands_on x' (unfolds_grow p2) k) up lr le
        (λ e1 w z x1 st. body_sim tight budget dir (es ++ (es' ++ ds))
        (seq_sim tight budget dir es (es' ++ ds) (binds_grow bd) (binds_sim tight budget dir _ bd st (holds_on x1 (omega (arith, le, upward_grows n2 ps n3 up)) (holds_on x' (unfolds_grow p2) (holds_on x (unfolds_grow p1) h))))
        (λ e2 env2 x2 h2. seq_sim tight budget dir es' ds (binds_grow bq) (binds_sim tight budget dir _ bq (stands_on x2 (binds_grow bd) (s_scalar refl (has_new y z e1))) h2)
        (λ e3 env3 x3 h3. unfold_sim p3 (tops_on x3 (binds_grow bq) (tops_on x2 (binds_grow bd) (tops_on x1 (omega (arith, le, upward_grows n2 ps n3 up)) (tops_on x' (unfolds_grow p2) (tops_on x (unfolds_grow p1) ts))))) h3))) lw))
        (upward_from n2 n6 xs n7 (omega (arith, upward_grows n2 ps n3 up, le, binds_grow bd, binds_grow bq, unfolds_grow p3)) up') lt))))
    unfold_sim {env = env} (u_while {n1 = n1} {n2 = n2} {n6 = n6} {n7 = n7} {mark = mark} {p = p} {test = test} {body = body} {bs = bs} {es = es} {cs = cs} {es' = es'} {ds = ds} {u = u} {ws = ws} ps xs p1 l up lr bd p2 bd' p3 lw up' lt) ts h =
        opened _ (seq_sim tight budget dir bs _ (unfolds_grow p1) (unfold_sim p1 ts h)
        (λ e v x k. step_sim tight budget dir xs _
        (loop_sim tight budget R dir ps (lets (es ++ cs) (u ∷ [])) (lets (es' ++ ds) ws) p env mark test body _ _ _ l k up lr
        (λ e1 w x1 st. body_sim tight budget dir (es ++ cs)
        (seq_sim tight budget dir es cs (binds_grow bd) (binds_sim tight budget dir _ bd st (holds_on x1 (upward_grows n1 ps n2 up) (holds_on x (unfolds_grow p1) h)))
        (λ e2 env2 x2 h2. unfold_sim p2 (tops_on x2 (binds_grow bd) (tops_on x1 (upward_grows n1 ps n2 up) (tops_on x (unfolds_grow p1) ts))) h2)) laid_scalar)
        (λ e1 w x1 st.
        let grow = unfolds_grow p2 in
        let g = binds_grow bd in
        body_sim tight budget dir (es' ++ ds)
        (seq_sim tight budget dir es' ds (binds_grow bd') (binds_sim tight budget dir _ bd' (stands_on (extends_same _ e1) (omega (arith, grow, g)) st) (holds_on x1 (omega (arith, upward_grows n1 ps n2 up, grow, g)) (holds_on x (unfolds_grow p1) h)))
        (λ e2 env2 x2 h2. unfold_sim p3 (tops_on x2 (binds_grow bd') (tops_on x1 (omega (arith, upward_grows n1 ps n2 up, grow, g)) (tops_on x (unfolds_grow p1) ts))) h2)) lw))
        (upward_from n1 n6 xs n7 (omega (arith, upward_grows n1 ps n2 up, binds_grow bd, unfolds_grow p2, binds_grow bd', unfolds_grow p3)) up') lt))

    pub all_sim : {sc : Scope} {lo n m : ℕ} {us : Terms Ref BindId} {bs : Bindings} {ss : List Known} {d : Names Component} {env : FlatEnv} → Unfold_all told tops sc lo us n bs ss m → Tops_stand told.sizes d n tops tops' → Holds told.sizes d n sc env → Sim (Gives d n (All_standing told.sizes ss m)) (run tight budget bs d) (each_of (λ t. R (Evaluate env t.0 t.1)) (placed lo us)) dir
    all_sim u_none ts h = none_sim tight budget dir [] refl all_none
    all_sim (u_more {bs = bs} {cs} p q) ts h =
        seq_sim tight budget dir bs cs (unfolds_grow p) (unfold_sim p ts h)
        (λ e v x k. made_sim tight budget dir (λ vs. v ∷ vs) cs (all_sim q (tops_on x (unfolds_grow p) ts) (holds_on x (unfolds_grow p) h)) (λ e' vs x' ks. all_more (stands_on x' (all_grow q) k) ks))

    pub applies_sim : {g s s' : Known} {n m : ℕ} {bs : Bindings} {d : Names Component} {f v : FlatValue} → Applies told tops g s n bs s' m → Tops_stand told.sizes d n tops tops' → Stands told.sizes d n g f → Stands told.sizes d n s v → Sim (Gives d n (Standing told.sizes s' m)) (run tight budget bs d) (R (Call f v)) dir
    applies_sim (a_body {bs = bs} {cs = cs} b r) ts (s_function h) k =
        opened _ (seq_sim tight budget dir bs cs (binds_grow b) (binds_sim tight budget dir _ b k h) (λ e env' x h'. unfold_sim r (tops_on x (binds_grow b) ts) h'))
    applies_sim (a_waits {bs = bs} b) ts (s_function h) k = opened _ (made_sim tight budget dir _ bs (binds_sim tight budget dir _ b k h) (λ e env' x h'. s_function h'))
    applies_sim (a_primitive_waits {p = p} {at} q) ts (s_primitive h) k = opened _ (waits_sim p at q (append_same (listed_stand h) (all_more k all_none)))
    applies_sim (a_primitive {p = p} {at} q i o) ts (s_primitive h) k = opened _ (scalars_sim p at q i o (append_same (listed_stand h) (all_more k all_none)))
    applies_sim {d = d} {v = v} (a_job {p = p} {at} {ss} {s} {n = n} {n1} {n2} {n3} {n4} {x} {bs} {cs} {ds} {ws} {w} xs q i e r up len a pk le) ts (s_primitive {vs = vs} h) k =
        let hs = append_same (listed_stand h) (all_more k all_none) in
        let ar = data_stand (parameters_of p) hs e in
        let g = upward_grows n1 xs n2 up in
        let fv = function_argument (parameters_of p) (values.listed vs ++ v ∷ []) no_function in
        let fk = function_known (parameters_of p) (listed ss ++ s ∷ []) (Tuple_known no_known) in
        let fs = function_stands (parameters_of p) hs (s_tuple s_none) in
        opened _ (arrays_sim p at _ q i hs
        (subst (λ z. Sim (Gives d n (Standing told.sizes (named x) (suc x))) (run tight budget (bs ++ unfolding_of.step (x ∷ []) (act.Job (function_row told.sizes p fk ws) p at ws xs (lets (cs ++ ds) (w ∷ [])))) d) (Then (the z) (λ ds. Then (the (job false (row_told L (Of_function p fv ds)) p at ds)) (job_of L (plain tight) budget R (takes (parameters_of p)) fv))) dir) (sym ar.is)
        (seq_sim tight budget dir bs _ (packs_all_grow r) (packs_all_sim tight budget dir r ar.stand)
        (λ e1 given_data x1 hv. job_step tight budget dir _ (function_row told.sizes p fk ws) _ _ p at xs (lets (cs ++ ds) (w ∷ [])) (λ any ne es. tt) (λ ws. tt) (omega (arith, g, applied_grows a, packs_grow pk, le)) hv
        (λ es. function_by fv xs (lets (cs ++ ds) (w ∷ [])) (takes (parameters_of p)) up len es
        (λ e2 x2 hn. applied_block fv cs ds es (applied_grows a) pk (applied_sim a (tops_on x2 g (tops_on x1 (packs_all_grow r) ts)) (stands_on x2 g (stands_on x1 (packs_all_grow r) fs)) (all_new xs es hn)))
        (nat_eq (length es) (takes (parameters_of p))) refl) (result_shape_is told.sizes p (stands_on x1 (packs_all_grow r) fs) hv)))))

    pub applied_sim : {d : Names Component} {n m : ℕ} {ss : List Known} {vs : List FlatValue} {s t : Known} {f : FlatValue} {bs : Bindings} → Applies_all told tops ss s n bs t m → Tops_stand told.sizes d n tops tops' → Stands told.sizes d n s f → All_same (Stands told.sizes d n) ss vs → Sim (Gives d n (Standing told.sizes t m)) (run tight budget bs d) (applied_to (flat_names told) R vs f) dir
    applied_sim {f = f} a_none ts h all_none = none_sim tight budget dir f refl h
    applied_sim (a_more {bs = bs} {cs} p r) ts h (all_more k ks) =
        seq_sim tight budget dir bs cs (applies_grow p) (applies_sim p ts h k)
        (λ e g x l. applied_sim r (tops_on x (applies_grow p) ts) l (list_on x (applies_grow p) ks))
