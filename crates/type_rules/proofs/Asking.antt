-- What is asked of the nodes of a record's parts.
use Rattle.std.proofs.Common.{◌≡◌, ℕ, zero, suc, ◌+◌, ◌≤◌, ◌<◌, List, [], ◌∷◌, length, refl, sym, ◌∙◌, ap, subst, arith}
use Rattle.fut_types.specs.declared.Head.TheVariants as head
use Rattle.fut_types.specs.declared.shapes.ShapeTable.{ShapeTable}
use Rattle.fut_types.specs.Types.{Ty, Made, Tys, none, more, Sub, Kinds}
use Rattle.fut_types.specs.Shapes.{Shapes, IsKnown}
use Rattle.fut_typing.specs.Names.{count}
use Rattle.fut_typing.specs.Primitives.{i64_ty}
use Rattle.type_graph.specs.Graph.{Each, numbers}
use Rattle.type_graph.specs.Claims.{types_of}
use Rattle.type_graph.proofs.Grown.{joined, joined_low, joined_high, same_types}
use Rattle.type_rules.specs.Demands.{Met, All_met, IsDemand, Are_demands, Allows, All_allow}
use Rattle.type_rules.specs.Own.{Beside}
use Rattle.type_rules.specs.Records.{Parts_labelled, Has_parts, part_demands}

pub known_record : (table : ShapeTable) (n : ℕ) → n < length table.records → IsKnown table (head.Record n)
unfolding IsKnown
known_record table n lt = lt

pub numbers_below : (first n m : ℕ) → first + n ≤ m → Each (λ p. p < m) (numbers first n)
unfolding numbers
numbers_below first zero m le = tt
numbers_below first (suc n) m le = (omega arith, numbers_below (suc first) n m (omega arith))

long_numbers : (first n : ℕ) → length (numbers first n) ≡ n
unfolding numbers
long_numbers first zero = refl
long_numbers first (suc n) = ap suc (long_numbers (suc first) n)

pub count_types : (a : Sub) (ps : List ℕ) → count (types_of a ps) ≡ length ps
unfolding types_of
count_types a [] = refl
count_types a (p ∷ ps) = ap (λ n. 1 + n) (count_types a ps) ∙ (let e : 1 + length ps ≡ suc (length ps) = omega arith in e)

high_types : (a b : Sub) (first n low : ℕ) → low ≤ first → ((i : ℕ) → low ≤ i → a i ≡ b i) → types_of a (numbers first n) ≡ types_of b (numbers first n)
unfolding types_of numbers
high_types a b first zero low le e = refl
high_types a b first (suc n) low le e = λ i. more (e first le i) (high_types a b (suc first) n low (omega arith) e i)

-- types in a row
unfoldable pub nth_ty : Tys → ℕ → Ty
nth_ty none k = i64_ty
nth_ty (more t ts) zero = t
nth_ty (more t ts) (suc k) = nth_ty ts k

row_types : (b : Sub) (ts : Tys) (first n : ℕ) → count ts ≡ n → ((k : ℕ) → b (first + k) ≡ nth_ty ts k) → types_of b (numbers first n) ≡ ts
unfolding types_of numbers nth_ty
row_types b none first zero e h = refl
row_types b none first (suc n) e h = absurd (omega arith)
row_types b (more t ts) first zero e h = absurd (let p : 1 + count ts ≡ 0 = e in omega arith)
row_types b (more t ts) first (suc n) e h = λ i. more ((ap b (let p : first ≡ first + 0 = omega arith in p) ∙ h 0) i)
    (row_types b ts (suc first) n (let p : 1 + count ts ≡ suc n = e in omega arith) (λ k. ap b (let p : suc first + k ≡ first + suc k = omega arith in p) ∙ h (suc k)) i)

pub parts_within : (table : ShapeTable) (base id : ℕ) (ls ps : List ℕ) → id < base → Each (λ l. l < length table.positions) ls → Each (λ p. p < base) ps → Are_demands table base (part_demands id ls ps)
unfolding Are_demands IsDemand part_demands
parts_within table base id [] ps lt l w = tt
parts_within table base id (x ∷ ls) [] lt l w = tt
parts_within table base id (x ∷ ls) (p ∷ ps) lt l w = ((lt, w.0, l.0), parts_within table base id ls ps lt l.1 w.1)

pub each_lower : (n m : ℕ) (ps : List ℕ) → n ≤ m → Each (λ p. p < n) ps → Each (λ p. p < m) ps
each_lower n m [] le w = tt
each_lower n m (p ∷ ps) le w = ((let q : p < n = w.0 in omega arith), each_lower n m ps le w.1)

parts_allow : (home : ℕ → ℕ) (id : ℕ) (ls ps : List ℕ) → All_allow home (part_demands id ls ps)
unfolding All_allow Allows part_demands
parts_allow home id [] ps = tt
parts_allow home id (l ∷ ls) [] = tt
parts_allow home id (l ∷ ls) (p ∷ ps) = (tt, parts_allow home id ls ps)

module _ (S : Shapes) (K : Kinds) where
  labelled_to : (b : Sub) (id : ℕ) (ls ps : List ℕ) → length ps ≡ length ls → All_met S K b (part_demands id ls ps) → Parts_labelled S ls (b id) (types_of b ps)
  unfolding All_met Met part_demands types_of
  labelled_to b id [] [] e m = tt
  labelled_to b id [] (p ∷ ps) e m = absurd (omega arith)
  labelled_to b id (l ∷ ls) [] e m = absurd (omega arith)
  labelled_to b id (l ∷ ls) (p ∷ ps) e m = (m.0, labelled_to b id ls ps (omega arith) m.1)

  labelled_from : (b : Sub) (id : ℕ) (ls ps : List ℕ) → length ps ≡ length ls → Parts_labelled S ls (b id) (types_of b ps) → All_met S K b (part_demands id ls ps)
  unfolding All_met Met part_demands types_of
  labelled_from b id [] [] e m = tt
  labelled_from b id [] (p ∷ ps) e m = absurd (omega arith)
  labelled_from b id (l ∷ ls) [] e m = absurd (omega arith)
  labelled_from b id (l ∷ ls) (p ∷ ps) e m = (m.0, labelled_from b id ls ps (omega arith) m.1)

module _ (base first id number : ℕ) (ls ps : List ℕ) (S : Shapes) (le : base ≤ first) (lt : id < base) (low : Each (λ p. p < base) ps) (long : length ps ≡ length ls) where
  abbrev pub Asked : Kinds → Sub → Type 0
  Asked K a = (a id ≡ Made (head.Record number) (types_of a (numbers first (length ls)))) × All_met S K a (part_demands id ls ps)

  pub asked_local : (K : Kinds) (a b : Sub) → ((i : ℕ) → i < base → a i ≡ b i) → ((i : ℕ) → first ≤ i → a i ≡ b i)
      → (a id ≡ Made (head.Record number) (types_of a (numbers first (length ls)))) × All_met S K a (part_demands id ls ps) → (b id ≡ Made (head.Record number) (types_of b (numbers first (length ls)))) × All_met S K b (part_demands id ls ps)
  asked_local K a b e h m = (
    sym (e id lt) ∙ m.0 ∙ ap (Made (head.Record number)) (high_types a b first (length ls) first (omega arith) h),
    labelled_from S K b id ls ps long (subst (λ t. Parts_labelled S ls t (types_of b ps)) (e id lt) (subst (Parts_labelled S ls (a id)) (same_types base a b ps e low) (labelled_to S K a id ls ps long m.1))),
  )

  pub asked_allow : (home : ℕ → ℕ) → All_allow home (part_demands id ls ps)
  asked_allow home = parts_allow home id ls ps

  pub asked_to : (K : Kinds) (a : Sub) → Beside base (λ K a. (a id ≡ Made (head.Record number) (types_of a (numbers first (length ls)))) × All_met S K a (part_demands id ls ps)) K a → Has_parts S number ls (a id) (types_of a ps)
  asked_to K a m = let b = m.types in record {
    parts = types_of b (numbers first (length ls));
    made = sym (m.agrees id lt) ∙ m.met.0;
    all = count_types b (numbers first (length ls)) ∙ long_numbers first (length ls);
    labelled = subst (λ t. Parts_labelled S ls t (types_of a ps)) (m.agrees id lt) (subst (Parts_labelled S ls (b id)) (same_types base b a ps m.agrees low) (labelled_to S K b id ls ps long m.met.1));
  }

  pub asked_from : (K : Kinds) (a : Sub) → Has_parts S number ls (a id) (types_of a ps) → Beside base (λ K a. (a id ≡ Made (head.Record number) (types_of a (numbers first (length ls)))) × All_met S K a (part_demands id ls ps)) K a
  asked_from K a r =
      let b : Sub = joined first a (nth_ty r.parts) in
      let agrees : (i : ℕ) → i < base → b i ≡ a i = λ i l. joined_low first a (nth_ty r.parts) i (omega arith) in record {
        types = b;
        agrees = agrees;
        met = (
          agrees id lt ∙ r.made ∙ ap (Made (head.Record number)) (sym (row_types b r.parts first (length ls) r.all (λ k. joined_high first a (nth_ty r.parts) k))),
          labelled_from S K b id ls ps long (subst (λ t. Parts_labelled S ls t (types_of b ps)) (sym (agrees id lt)) (subst (Parts_labelled S ls (a id)) (sym (same_types base b a ps agrees low)) r.labelled)),
        );
      }
