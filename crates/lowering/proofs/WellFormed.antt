-- The Core that blocks become is well formed: its names rise, and operands and results have the sorts that its steps need and give.
use Rattle.fut_flat.specs.declared.prim.Primitive.{Primitive}
use Rattle.lowering.specs.Deeds.{Deed_lowers, iota_lowers, replicate_lowers, rotate_lowers, reverse_lowers, copy_lowers, zip_lowers, zip3_lowers, concat_lowers}
use Rattle.lowering.specs.Telling.{Sized, All_tell}
use Rattle.lowering.proofs.ToldSorts.{row_sorted, all_tell_give, groups_given, run_more, all_tell_rise}
use Rattle.std.proofs.Common.{◌≡◌, ℕ, suc, ◌≤◌, ◌++◌, List, [], ◌∷◌, Some, map, refl, sym, ◌∙◌, subst, arith, ap, length}
use Rattle.fut_scalar.specs.declared.place.Place.{Place}
use Rattle.fut_scalar.specs.declared.scalar.IntType.{IntType}
use Rattle.fut_scalar.specs.declared.scalar.ScalarType.{ScalarType}
use Rattle.fut_scalar.specs.declared.scalar.ScalarType.TheVariants as sort
use Rattle.fut_value.specs.Data.{Shape, Scalar_shape, Tuple_shape}
use Rattle.fut_meaning.specs.Sames.{all_none, all_more}
use Rattle.fut_blocks.specs.declared.block.Atom.{Atom as Source_atom}
use Rattle.fut_blocks.specs.Meaning.{bound}
use Rattle.fut_blocks.specs.Plain as block
use Rattle.core_ir.specs.declared.block.Var.{Var}
use Rattle.core_ir.specs.declared.block.Atom.{Atom}
use Rattle.core_ir.specs.declared.block.Operation.TheVariants as operation
use Rattle.core_ir.specs.declared.block.Atom.TheVariants as atom
use Rattle.core_ir.specs.Numbered.{Act_numbered, Body_numbered, Function_numbered}
use Rattle.core_ir.specs.Plain.{Action, Body, lets, body_of}
use Rattle.core_ir.specs.Plain as core
use Rattle.core_ir.specs.Typed.{sort_of, Sorts, scalar_sort, truth_sort, Atom_is, Atoms_are, Groups_are, with_vars, binary_gives, unary_gives, convert_gives, assert_gives, Act_gives, operate_gives, deed_gives, Deed_gives, index_gives, literal_gives, range_gives, stepped_gives, update_gives, Has_row, if_gives, for_gives, while_gives, Body_gives, give_gives, Rows_are, Operator_is, operator_is, for_in_gives, reduce_gives, scan_gives, map_gives, empty_gives, Source_gives, rows_give, Together, one_bundle, and_bundles, iota_gives, integer, no_integer, replicate_gives, rotate_gives, copy_gives, zip_gives, lifted, Bundled, Sort, i64_sort, length_gives, filter_gives, numbers_give, concat_gives}
use Rattle.lowering.specs.Claims.{GivesWellFormed}
use Rattle.lowering.specs.Knowns.{Known, known, Scope, width, knowns, parts_of, fields_of, sorts, all_sorts, names, New, bundled, shapes}
use Rattle.lowering.specs.Arrays.{and_more, bundle_of, Array_operands, no_array, array_and, at_end, reverse_then}
use Rattle.lowering.specs.Lowering.{Bindings, Act_lowers, Body_lowers, binary_lowers, unary_lowers, convert_lowers, assert_lowers, tuple_lowers, parts_lower, part_lowers, record_lowers, field_lowers, fields_lower, replace_lowers, literal_lowers, index_lowers, update_lowers, range_lowers, stepped_lowers, if_lowers, for_lowers, while_lowers, give_lowers, let_lowers, for_in_lowers, reduce_lowers, scan_lowers, map_lowers, empty_lowers, done_lowers, length_lowers, filter_lowers, tabulate_lowers}
use Rattle.lowering.proofs.ArraySorts.{array_sorts, bundled_is, each_sorts, indexed_sorts, integers_sorted, integers_many, rows_sorted}
use Rattle.std.proofs.lemmas.List.{append-nil, append_assoc}
use Rattle.lowering.proofs.Simulation.{act_grows, body_grows}
use Rattle.lowering.proofs.Stands.{Extends, extends_same, extends_on, new_grows, new_from}
use Rattle.lowering.proofs.Types.{sorts_same, sorts_many}
use Rattle.lowering.proofs.Sorting.{atoms_are, Scoped, scoped_on, knowns_sorted, operand_sorted, operands_sorted, scalar_sorted, variables_sorted, new_sorted, names_scoped, tuple_sorts, parts_sorts, record_sorts, fields_sorts, part_sorted, field_sorted, fields_sorted, own_sorts, replaced_sorted, each_groups, two_groups, three_groups, Run_gives, lets_give, Runs, no_run, no_known, known_and, no_name, name_and, no_step_gives, step_gives, All_sorted}

one_run : {G : Sorts} {n m : ℕ} {xs : List Var} {hs : List Shape} {a : Action} → Act_gives G a (all_sorts hs) → New n xs hs m → Runs G n ((xs, a) ∷ []) (knowns hs (names xs)) m
one_run {G} {xs = xs} {a = a} t w =
    let r = new_sorted w in
    record { behind = with_vars xs G; gives = step_gives (subst (λ z. Act_gives G a z) (sym w.sorted) t) no_step_gives; extends = r.extends; known = r.known }

one_sort : (t : ScalarType) → all_sorts (Scalar_shape t ∷ []) ≡ scalar_sort t ∷ []
unfolding sorts
one_sort t = refl

-- under new variables and names
scoped_under : {G : Sorts} {n k : ℕ} {sc inner : Scope} {xs : List Var} {hs : List Shape} (ps : List ℕ) → New n xs hs k → bound ps (knowns hs (names xs)) sc ≡ Some inner → Scoped G n sc → Scoped (with_vars xs G) k inner
scoped_under ps w i s = let r = new_sorted w in names_scoped ps r.known (scoped_on r.extends (new_grows w) s) i

var_sort : {t : ScalarType} (j : Var) → map sort_of (j ∷ []) ≡ all_sorts (Scalar_shape t ∷ []) → sort_of j ≡ scalar_sort t
unfolding sorts
var_sort j e = cc

for_type : {G : Sorts} {ws : List Atom} {u : Atom} (t : IntType) (hs : List Shape) (xs : List Var) (j : Var) (b : Body) → map sort_of xs ≡ all_sorts hs → Atoms_are G ws (all_sorts hs) → Atom_is G u (scalar_sort (sort.Int t)) → sort_of j ≡ scalar_sort (sort.Int t) → Body_gives ((j.number, sort_of j) ∷ with_vars xs G) b (all_sorts hs) → Act_gives G (core.For xs ws j u b) (all_sorts hs)
for_type {G} {ws} {u} t hs xs j b e a i v c = subst (λ ss. Atoms_are G ws ss → Body_gives ((j.number, sort_of j) ∷ with_vars xs G) b ss → Act_gives G (core.For xs ws j u b) ss) e (λ a c. for_gives t a i v c) a c

while_type : {G : Sorts} {ws : List Atom} (at : Place) (hs : List Shape) (xs : List Var) (t b : Body) → map sort_of xs ≡ all_sorts hs → Atoms_are G ws (all_sorts hs) → Body_gives (with_vars xs G) t (truth_sort ∷ []) → Body_gives (with_vars xs G) b (all_sorts hs) → Act_gives G (core.While at xs ws t b) (all_sorts hs)
while_type {G} {ws} at hs xs t b e a c d = subst (λ ss. Atoms_are G ws ss → Body_gives (with_vars xs G) b ss → Act_gives G (core.While at xs ws t b) ss) e (λ a d. while_gives a c d) a d

rows_type : {G : Sorts} {us : List Atom} (h : Shape) → Atoms_are G us (bundled (sorts h)) → Rows_are G (bundle_of h us) (sorts h)
rows_type h a = record { sorts = bundled (sorts h); bundled = bundled_is (sorts h); wide = sym (sorts_many h); are = a }

scan_type : {G : Sorts} {ws us : List Atom} {f : core.Function} (at : Place) (h : Shape) → Atoms_are G ws (sorts h) → Atoms_are G us (bundled (sorts h)) → Operator_is G f (sorts h) → Act_gives G (core.Scan at ws (bundle_of h us) f) (bundled (sorts h))
scan_type {G} {ws} {us} {f} at h a b o = scan_gives a (let r : Rows_are G (bundle_of h us) (sorts h) = record { sorts = bundled (sorts h); bundled = bundled_is (sorts h); wide = sym (sorts_many h); are = b } in r) o

filter_type : {G : Sorts} {us : List Atom} (at : Place) (h : Shape) (xs : List Var) (b : Body) → map sort_of xs ≡ sorts h → Atoms_are G us (bundled (sorts h)) → Body_gives (with_vars xs G) b (truth_sort ∷ []) → Act_gives G (core.Filter at (bundle_of h us) xs b) (bundled (sorts h))
filter_type {G} {us} at h xs b e a c = filter_gives (let r : Rows_are G (bundle_of h us) (map sort_of xs) = record { sorts = bundled (sorts h); bundled = subst (λ z. Bundled z (bundled (sorts h))) (sym e) (bundled_is (sorts h)); wide = sym (sorts_many h) ∙ sym (ap length e); are = a } in r) c

for_in_type : {G : Sorts} {ws vs : List Atom} (at : Place) (h : Shape) (hs : List Shape) (xs ys : List Var) (b : Body) → map sort_of xs ≡ all_sorts hs → map sort_of ys ≡ all_sorts (h ∷ []) → Atoms_are G ws (all_sorts hs) → Atoms_are G vs (bundled (sorts h)) → Body_gives (with_vars ys (with_vars xs G)) b (all_sorts hs) → Act_gives G (core.For_in at xs ws ys (bundle_of h vs) b) (all_sorts hs)
for_in_type {G} {ws} {vs} at h hs xs ys b e f a c d = subst (λ ss. Atoms_are G ws ss → Body_gives (with_vars ys (with_vars xs G)) b ss → Act_gives G (core.For_in at xs ws ys (bundle_of h vs) b) ss) e (λ a d. for_in_gives a (subst (Rows_are G (bundle_of h vs)) (sym (f ∙ append-nil (sorts h))) (rows_type h c)) d) a d

operator_type : {G : Sorts} (h : Shape) (xs ys : List Var) (b : Body) → map sort_of xs ≡ all_sorts (h ∷ []) → map sort_of ys ≡ all_sorts (h ∷ []) → Body_gives (with_vars ys (with_vars xs G)) b (all_sorts (h ∷ [])) → Operator_is G (core.Of_two xs ys b) (sorts h)
operator_type {G} h xs ys b e f a = operator_is (e ∙ append-nil (sorts h)) (f ∙ append-nil (sorts h)) (subst (Body_gives (with_vars ys (with_vars xs G)) b) (append-nil (sorts h)) a)

-- with one variable more, for a scalar
scoped_index : {G : Sorts} {n : ℕ} {t : ScalarType} {sc : Scope} (i : ℕ) (j : Var) → New n (j ∷ []) (Scalar_shape t ∷ []) (suc j.number) → Scoped G n sc → Scoped ((j.number, sort_of j) ∷ G) (suc j.number) ((i, known (Scalar_shape t) (atom.Var j ∷ [])) ∷ sc)
unfolding sorts
scoped_index {G} {n} {t} i j v s =
    let r = variables_sorted n (j ∷ []) (suc j.number) G v.rise in
    name_and (subst (λ o. All_sorted ((j.number, sort_of j) ∷ G) (suc j.number) (atom.Var j ∷ []) o) v.sorted r.sorted) (scoped_on r.extends (new_grows v) s)

runs_behind : {G H : Sorts} {n i m : ℕ} {bs cs : Bindings} {ks : List Known} → Run_gives G bs H → Extends n G H → n ≤ i → Runs H i cs ks m → Runs G n (bs ++ cs) ks m
runs_behind r x le z = record { behind = z.behind; gives = run_more r z.gives; extends = extends_on le x z.extends; known = z.known }

sources_together : {sc : Scope} {u : Source_atom} {us : List Source_atom} {hs : List Shape} {rs : List core.Bundle} → Array_operands sc (u ∷ us) hs rs → Together (map (λ r. r.width) rs) (map (λ h. bundled (sorts h)) hs) (all_sorts hs)
sources_together (array_and {h = h} o no_array) = subst (Together (width h ∷ []) (bundled (sorts h) ∷ [])) (sym (append-nil (sorts h))) (one_bundle (bundled_is (sorts h)) (sym (sorts_many h)))
sources_together (array_and {h = h} o (array_and p q)) = and_bundles (bundled_is (sorts h)) (sym (sorts_many h)) (sources_together (array_and p q))

sources_grouped : {G : Sorts} {n : ℕ} {sc : Scope} {us : List Source_atom} {hs : List Shape} {rs : List core.Bundle} → Scoped G n sc → Array_operands sc us hs rs → Groups_are G (map (λ r. r.arrays) rs) (map (λ h. bundled (sorts h)) hs)
unfolding sorts
sources_grouped s no_array = all_none
sources_grouped s (array_and o os) = all_more (atoms_are (operand_sorted s o)) (sources_grouped s os)

sources_give : {G : Sorts} {n : ℕ} {sc : Scope} {u : Source_atom} {us : List Source_atom} {hs : List Shape} {rs : List core.Bundle} → Scoped G n sc → Array_operands sc (u ∷ us) hs rs → Source_gives G (core.Of_rows rs) (all_sorts hs)
sources_give s q = rows_give (sources_grouped s q) (sources_together q)

record Deed_sorted (G : Sorts) (deed : core.Deed) (uss : List (List Atom)) (ss : List Sort) : Type 0 where
  types : List (List Sort)
  groups : Groups_are G uss types
  gives : Deed_gives deed types ss

-- an array of rows with components, or of rows without
rows_on : (ss : List Sort) (P : List Sort → Type 0) → ((s : Sort) (ts : List Sort) → P (lifted (s ∷ ts))) → P (bundled ss)
rows_on [] P g = g (sort.Bool, 1) []
rows_on (s ∷ ss) P g = g s ss

tuple_row : (hs : List Shape) → sorts (Tuple_shape (shapes hs)) ≡ all_sorts hs
tuple_row hs = tuple_sorts hs

deed_sorted : {G : Sorts} {n : ℕ} {sc : Scope} {p : Primitive} {us : List Source_atom} {deed : core.Deed} {uss : List (List Atom)} {h : Shape} → Scoped G n sc → Deed_lowers sc p us deed uss h → Deed_sorted G deed uss (sorts h)
unfolding sorts
deed_sorted s (iota_lowers p) = record { types = _; groups = all_more (all_more (scalar_sorted s p) all_none) all_none; gives = iota_gives integer }
deed_sorted s (replicate_lowers {h = h} p q) = record { types = _; groups = all_more (all_more (scalar_sorted s p) all_none) (all_more (atoms_are (operand_sorted s q)) all_none); gives = replicate_gives integer (bundled_is (sorts h)) }
deed_sorted s (rotate_lowers {t = t} {h = h} p q) = record { types = _; groups = all_more (all_more (scalar_sorted s p) all_none) (all_more (atoms_are (operand_sorted s q)) all_none); gives = rows_on (sorts h) (λ z. Deed_gives core.Rotate (((sort.Int t, 0) ∷ []) ∷ z ∷ []) z) (λ r rs. rotate_gives r rs integer) }
deed_sorted s (reverse_lowers {h = h} p) = record { types = _; groups = all_more (atoms_are (operand_sorted s p)) (all_more all_none all_none); gives = index_gives (indexed_sorts (reverse_then {n = 0} {h = h} at_end)) no_integer refl }
deed_sorted s (copy_lowers {h = h} p) = record { types = _; groups = all_more (atoms_are (operand_sorted s p)) all_none; gives = rows_on (sorts h) (λ z. Deed_gives core.Copy (z ∷ []) z) (λ r rs. copy_gives r rs) }
deed_sorted s (concat_lowers {h = h} p q) = record { types = _; groups = two_groups (operand_sorted s p) (operand_sorted s q); gives = rows_on (sorts h) (λ z. Deed_gives core.Concat (z ∷ z ∷ []) z) (λ r rs. concat_gives r rs) }
deed_sorted s (zip_lowers {h = h} {k = k} q) = record { types = _; groups = sources_grouped s q; gives = zip_gives (sources_together q) (subst (λ z. Bundled (all_sorts (h ∷ k ∷ [])) (bundled z)) (sym (tuple_row (h ∷ k ∷ []))) (bundled_is (all_sorts (h ∷ k ∷ [])))) }
deed_sorted s (zip3_lowers {h = h} {k = k} {l = l} q) = record { types = _; groups = sources_grouped s q; gives = zip_gives (sources_together q) (subst (λ z. Bundled (all_sorts (h ∷ k ∷ l ∷ [])) (bundled z)) (sym (tuple_row (h ∷ k ∷ l ∷ []))) (bundled_is (all_sorts (h ∷ k ∷ l ∷ [])))) }

first_length : {G : Sorts} {n : ℕ} {u : Atom} {us : List Atom} {at : Place} (ss : List Sort) → All_sorted G n (u ∷ us) (bundled ss) → Act_gives G (core.Operate (operation.Length u) at) (i64_sort ∷ [])
first_length [] (all_more a k) = operate_gives (length_gives sort.Bool 1 a.is)
first_length (s ∷ ss) (all_more a k) = operate_gives (length_gives s.0 s.1 a.is)

mutual
  unfolding sorts lets

  act_gives : {sc : Scope} {a : block.Action} {n m : ℕ} {bs : Bindings} {ks : List Known} {G : Sorts} → Act_lowers sc a n bs ks m → Scoped G n sc → Runs G n bs ks m
  act_gives (binary_lowers {t = t} p q i v) s = one_run (operate_gives (binary_gives t (scalar_sorted s p) (scalar_sorted s q) i)) v
  act_gives (unary_lowers {t = t} p i v) s = one_run (operate_gives (unary_gives t (scalar_sorted s p) i)) v
  act_gives (convert_lowers {t = t} p v) s = one_run (operate_gives (convert_gives t (scalar_sorted s p))) v
  act_gives (assert_lowers p) s = one_run {hs = []} (operate_gives (assert_gives (scalar_sorted s p))) (record { rise = omega arith; sorted = refl })
  act_gives {n = n} {G = G} (tuple_lowers {hs = hs} {ws = ws} p) s = no_run (known_and (subst (λ z. All_sorted G n ws z) (sym (tuple_sorts hs)) (operands_sorted s p)) no_known)
  act_gives {n = n} {G = G} (parts_lower {hs = hs} {ws = ws} p) s = no_run (knowns_sorted (parts_of hs) (subst (λ z. All_sorted G n ws z) (parts_sorts hs) (operand_sorted s p)))
  act_gives {n = n} {G = G} (part_lowers {f = f} {hs = hs} {ws = ws} p q) s = no_run (known_and (part_sorted 0 f (knowns_sorted (parts_of hs) (subst (λ z. All_sorted G n ws z) (parts_sorts hs) (operand_sorted s p))) q) no_known)
  act_gives {n = n} {G = G} (record_lowers {fs = fs} {hs = hs} {ws = ws} p e) s = no_run (known_and (subst (λ z. All_sorted G n ws z) (sym (record_sorts fs hs e)) (operands_sorted s p)) no_known)
  act_gives {n = n} {G = G} (field_lowers {f = f} {hs = hs} {ws = ws} p q) s = no_run (known_and (field_sorted f hs (knowns_sorted (fields_of hs) (subst (λ z. All_sorted G n ws z) (fields_sorts hs) (operand_sorted s p))) q) no_known)
  act_gives {n = n} {G = G} (fields_lower {fs = fs} {hs = hs} {ws = ws} p q) s = no_run (fields_sorted fs hs (knowns_sorted (fields_of hs) (subst (λ z. All_sorted G n ws z) (fields_sorts hs) (operand_sorted s p))) q)
  act_gives (replace_lowers {f = f} {hs = hs} {h = h} p q) s = no_run (known_and (replaced_sorted f h (operand_sorted s q) (own_sorts hs (operand_sorted s p))) no_known)
  act_gives (literal_lowers {h = h} (and_more p ps) o i v) s = one_run (deed_gives (all_more (atoms_are (operand_sorted s p)) (each_groups s ps)) (subst (Deed_gives core.Literal _) (sym (array_sorts h)) (literal_gives (each_sorts ps) (bundled_is (sorts h))))) v
  act_gives (index_lowers {k = k} p q i l x v) s = one_run (subst (Act_gives _ _) (sym (append-nil (sorts k))) (deed_gives (two_groups (operand_sorted s p) (operands_sorted s q)) (index_gives (indexed_sorts x) (integers_sorted i) (integers_many i ∙ l)))) v
  act_gives (update_lowers {h = h} {k = k} p q r i x w) s = one_run (subst (Act_gives _ _) (sym (append-nil (sorts h))) (deed_gives (three_groups (operand_sorted s p) (operands_sorted s q) (operand_sorted s r)) (update_gives (integers_sorted i) (subst (λ z. Has_row (sorts k) z (sorts h)) (sym (integers_many i)) (rows_sorted x))))) w
  act_gives (range_lowers p q v) s = one_run (deed_gives (all_more (all_more (scalar_sorted s p) (all_more (scalar_sorted s q) all_none)) all_none) range_gives) v
  act_gives (stepped_lowers p q r v) s = one_run (deed_gives (all_more (all_more (scalar_sorted s p) (all_more (scalar_sorted s q) (all_more (scalar_sorted s r) all_none))) all_none) stepped_gives) v
  act_gives {G = G} (if_lowers p l r v) s =
      one_run (if_gives (scalar_sorted s p) (body_gives l s) (body_gives r (scoped_on (extends_same _ G) (body_grows l) s))) (new_from (let x = body_grows l in let y = body_grows r in omega (arith, x, y)) v)
  act_gives (for_lowers {ps = ps} {i = i} {t = t} {zs = zs} {j = j} {bs = bs} hs xs ys p q w v e l z) s =
      one_run (for_type t hs xs j (lets bs zs) w.sorted (atoms_are (operands_sorted s p)) (scalar_sorted s q) (var_sort j v.sorted) (body_gives l (scoped_index i j v (scoped_under ps w e s))))
      (new_from (let x = new_grows w in let y = new_grows v in let t = body_grows l in omega (arith, x, y, t)) z)
  act_gives {G = G} (while_lowers {at} {ps = ps} {vs = vs} {zs = zs} {cs = cs} {bs = bs} hs xs ys p w e l r z) s =
      let inner = scoped_under ps w e s in
      one_run (while_type at hs xs (lets cs vs) (lets bs zs) w.sorted (atoms_are (operands_sorted s p)) (body_gives l inner) (body_gives r (scoped_on (extends_same _ (with_vars xs G)) (body_grows l) inner)))
      (new_from (let x = new_grows w in let y = body_grows l in let t = body_grows r in omega (arith, x, y, t)) z)
  act_gives (for_in_lowers {at} {ps = ps} {x = x} {h = h} {zs = zs} {bs = bs} hs xs ys outs p q w i v j l u) s =
      one_run (for_in_type at h hs xs ys (lets bs zs) w.sorted v.sorted (atoms_are (operands_sorted s p)) (atoms_are (operand_sorted s q)) (body_gives l (scoped_under (x ∷ []) v j (scoped_under ps w i s))))
      (new_from (let a = new_grows w in let y = new_grows v in let z = body_grows l in omega (arith, a, y, z)) u)
  act_gives (reduce_lowers any {at = at} {x = x} {y} {h = h} {zs = zs} {bs = bs} xs ys outs p q i w t v u l z) s =
      one_run (subst (Act_gives _ _) (sym (append-nil (sorts h))) (reduce_gives (atoms_are (operand_sorted s p)) (rows_type h (atoms_are (operand_sorted s q))) (operator_type h xs ys (lets bs zs) w.sorted v.sorted (body_gives l (scoped_under (y ∷ []) v u (scoped_under (x ∷ []) w t s))))))
      (new_from (let a = new_grows w in let y = new_grows v in let z = body_grows l in omega (arith, a, y, z)) z)
  act_gives (scan_lowers {at = at} {x = x} {y} {h = h} {zs = zs} {bs = bs} xs ys outs p q i w t v u l z) s =
      one_run (subst (Act_gives _ _) (sym (array_sorts h)) (scan_type at h (atoms_are (operand_sorted s p)) (atoms_are (operand_sorted s q)) (operator_type h xs ys (lets bs zs) w.sorted v.sorted (body_gives l (scoped_under (y ∷ []) v u (scoped_under (x ∷ []) w t s))))))
      (new_from (let a = new_grows w in let y = new_grows v in let z = body_grows l in omega (arith, a, y, z)) z)
  act_gives (map_lowers {at = at} {ps = ps} {h = h} {l = t} {zs = zs} {bs = bs} xs outs p q r o y w j l u) s =
      let g = all_tell_give y (row_sorted s r) in
      let v = scoped_on g.extends g.grows s in
      runs_behind g.gives g.extends g.grows
      (one_run (subst (Act_gives _ _) (sym (array_sorts h)) (map_gives (subst (Source_gives g.behind _) (sym w.sorted) (sources_give v q)) (subst (Body_gives (with_vars xs g.behind) (lets bs zs)) (append-nil (sorts t) ∙ sym (sorts_same o)) (body_gives l (scoped_under ps w j v))) (groups_given g.groups) g.told (bundled_is (sorts h))))
      (new_from (let x = new_grows w in let z = body_grows l in omega (arith, x, z)) u))
  act_gives (empty_lowers {h = h} outs r o y u) s =
      let g = all_tell_give y (row_sorted s r) in
      runs_behind g.gives g.extends g.grows (one_run (subst (Act_gives _ _) (sym (array_sorts h)) (deed_gives (groups_given g.groups) (empty_gives g.told (bundled_is (sorts h))))) u)
  act_gives (done_lowers {h = h} x i v) s = let g = deed_sorted s x in one_run (subst (Act_gives _ _) (sym (append-nil (sorts h))) (deed_gives g.groups g.gives)) v
  act_gives (length_lowers {h = h} p i v) s = one_run (first_length (sorts h) (operand_sorted s p)) v
  act_gives (filter_lowers {at = at} {x = x} {h = h} {zs = zs} {bs = bs} xs outs p i w t l u) s =
      one_run (subst (Act_gives _ _) (sym (array_sorts h)) (filter_type at h xs (lets bs zs) (w.sorted ∙ append-nil (sorts h)) (atoms_are (operand_sorted s p)) (body_gives l (scoped_under (x ∷ []) w t s))))
      (new_from (let x = new_grows w in let z = body_grows l in omega (arith, x, z)) u)
  act_gives (tabulate_lowers {at = at} {ps = ps} {h = h} {l = t} {zs = zs} {bs = bs} xs outs p r o y w j l u) s =
      let g = all_tell_give y (row_sorted s r) in
      let v = scoped_on g.extends g.grows s in
      runs_behind g.gives g.extends g.grows
      (one_run (subst (Act_gives _ _) (sym (array_sorts h)) (map_gives (subst (Source_gives g.behind _) (sym w.sorted) (numbers_give integer (scalar_sorted v p))) (subst (Body_gives (with_vars xs g.behind) (lets bs zs)) (append-nil (sorts t) ∙ sym (sorts_same o)) (body_gives l (scoped_under ps w j v))) (groups_given g.groups) g.told (bundled_is (sorts h))))
      (new_from (let x = new_grows w in let z = body_grows l in omega (arith, x, z)) u))

  body_gives : {sc : Scope} {b : block.Body} {n m : ℕ} {bs : Bindings} {hs : List Shape} {us : List Atom} {G : Sorts} → Body_lowers sc b n bs hs us m → Scoped G n sc → Body_gives G (lets bs us) (all_sorts hs)
  body_gives (give_lowers p) s = give_gives (atoms_are (operands_sorted s p))
  body_gives (let_lowers {xs = xs} {bs = bs} {us = us} p i q) s =
      let r = act_gives p s in
      lets_give bs us r.gives (body_gives q (names_scoped xs r.known (scoped_on r.extends (act_grows p) s) i))

-- ---- names that rise

-- behind the steps that read sizes
lead : (ds cs : Bindings) (us : List Atom) (o : ℕ) {sss : List (List Sized)} {n m : ℕ} {bs : Bindings} {wss : List (List Atom)} → All_tell sss n bs wss m → Body_numbered m (lets (ds ++ cs) us) o → Body_numbered n (lets ((bs ++ ds) ++ cs) us) o
lead ds cs us o {n = n} {bs = bs} t b = subst (λ z. Body_numbered n (lets z us) o) (sym (append_assoc bs ds cs)) (all_tell_rise (ds ++ cs) us o t b)

mutual
  unfolding lets Body_numbered Act_numbered Function_numbered

  act_rises : (cs : Bindings) (us : List Atom) (o : ℕ) {sc : Scope} {a : block.Action} {n m : ℕ} {bs : Bindings} {ks : List Known} → Act_lowers sc a n bs ks m → Body_numbered m (lets cs us) o → Body_numbered n (lets (bs ++ cs) us) o
  act_rises cs us o {n = n} {m} (binary_lowers p q i v) b = (n, omega arith, m, v.rise, b)
  act_rises cs us o {n = n} {m} (unary_lowers p i v) b = (n, omega arith, m, v.rise, b)
  act_rises cs us o {n = n} {m} (convert_lowers p v) b = (n, omega arith, m, v.rise, b)
  act_rises cs us o {n = n} (assert_lowers p) b = (n, omega arith, n, omega arith, b)
  act_rises cs us o (tuple_lowers p) b = b
  act_rises cs us o (parts_lower p) b = b
  act_rises cs us o (part_lowers p q) b = b
  act_rises cs us o (record_lowers p e) b = b
  act_rises cs us o (field_lowers p q) b = b
  act_rises cs us o (fields_lower p q) b = b
  act_rises cs us o (replace_lowers p q) b = b
  act_rises cs us o {n = n} {m} (literal_lowers p a i v) b = (n, omega arith, m, v.rise, b)
  act_rises cs us o {n = n} {m} (index_lowers p q i l x v) b = (n, omega arith, m, v.rise, b)
  act_rises cs us o {n = n} {m} (update_lowers p q r i x v) b = (n, omega arith, m, v.rise, b)
  act_rises cs us o {n = n} {m} (range_lowers p q v) b = (n, omega arith, m, v.rise, b)
  act_rises cs us o {n = n} {m} (stepped_lowers p q r v) b = (n, omega arith, m, v.rise, b)
  act_rises cs us o {m = m} (if_lowers {k = k} {l = l} p x y v) b = (l, (k, body_rises x, body_rises y), m, v.rise, b)
  act_rises cs us o {m = m} (for_lowers {k = k} {l = l} hs xs ys p q w v e x z) b = (l, (k, w.rise, v.rise.0, body_rises x), m, z.rise, b)
  act_rises cs us o {m = m} (while_lowers {k = k} {l = l} {l' = l'} hs xs ys p w e x y z) b = (l', (k, w.rise, l, body_rises x, body_rises y), m, z.rise, b)
  act_rises cs us o {m = m} (for_in_lowers {k = k} {l = l} {o = i} hs xs ys outs p q w e v f x z) b = (i, (k, w.rise, l, v.rise, body_rises x), m, z.rise, b)
  act_rises cs us o {m = m} (reduce_lowers any {k = k} {l = l} {o = i} xs ys outs p q e w t v u x z) b = (i, (k, w.rise, l, v.rise, body_rises x), m, z.rise, b)
  act_rises cs us o {m = m} (scan_lowers {k = k} {l = l} {o = i} xs ys outs p q e w t v u x z) b = (i, (k, w.rise, l, v.rise, body_rises x), m, z.rise, b)
  act_rises cs us o {m = m} (map_lowers {wss = wss} {zs = zs} {cs = ds} {bs = bs} {i = i} {k = k} {o = j} xs outs p q r t s w e x u) b = lead _ cs us o s (j, (k, w.rise, body_rises x), m, u.rise, b)
  act_rises cs us o {m = m} (empty_lowers {i = i} outs r t s u) b = lead _ cs us o s (i, omega arith, m, u.rise, b)
  act_rises cs us o {n = n} {m} (done_lowers x i v) b = (n, omega arith, m, v.rise, b)
  act_rises cs us o {n = n} {m} (length_lowers p i v) b = (n, omega arith, m, v.rise, b)
  act_rises cs us o {m = m} (filter_lowers {k = k} {o = j} xs outs p i w t x u) b = (j, (k, w.rise, body_rises x), m, u.rise, b)
  act_rises cs us o {m = m} (tabulate_lowers {k = k} {o = j} xs outs p r t s w e x u) b = lead _ cs us o s (j, (k, w.rise, body_rises x), m, u.rise, b)

  body_rises : {sc : Scope} {b : block.Body} {n m : ℕ} {bs : Bindings} {hs : List Shape} {us : List Atom} → Body_lowers sc b n bs hs us m → Body_numbered n (lets bs us) m
  body_rises (give_lowers p) = omega arith
  body_rises {m = m} (let_lowers {bs = bs} {us = us} p i q) = act_rises bs us m p (body_rises q)

-- ---- the whole

pub gives_well_formed : GivesWellFormed
gives_well_formed hs ks p c l = record {
  rising = record { first = l.first; parameters = l.parameters.rise; numbered = subst (λ z. Body_numbered l.first z c.names) (sym l.body) (body_rises l.lowered) };
  results = all_sorts ks;
  typed = subst (λ z. Body_gives (with_vars c.params.now []) z (all_sorts ks)) (sym l.body) (body_gives l.lowered (scoped_under p.params.now l.parameters l.named no_name));
}
