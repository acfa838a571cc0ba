-- The arguments of primitives, one after another, and what primitives tell of them.
use Rattle.std.proofs.Common.{◌≡◌, ℕ, suc, ◌+◌, ◌-◌, ◌<◌, ◌≤◌, ◌++◌, List, [], ◌∷◌, map, length, get_or, drop, Bool, true, false, cond, Result, Ok, Err, IfOk, refl, sym, ap, ◌∙◌, append-nil, arith}
use Rattle.std.proofs.lemmas.List.{map-append}
use Rattle.std.specs.Borrow.{Bor}
use Rattle.fut_blocks.specs.declared.row.Extent.TheVariants as extent
use Rattle.fut_blocks.specs.declared.row.RowShape.{RowShape}
use Rattle.fut_blocks.specs.declared.row.RowShape.TheVariants as row
use Rattle.fut_blocks.specs.Rows.{Row, Unknown_row, Array_row, Tuple_row, rows, Extent, Nowhere, extent_of, row_of}
use Rattle.fut_blocks.proofs.Layers.{extent_of-Nowhere, row_of-Array, row_of-Tuple}
use Rattle.fut_scalar.specs.declared.memory.NoMemory.{NoMemory}
use Rattle.fut_scalar.specs.declared.scalar.ScalarType.{ScalarType}
use Rattle.size_arena.proofs.Parts.{drop_past}
use Rattle.unfold.specs.Held.{known_of}
use Rattle.unfold.specs.Knowns.{Known, known_and, knowns, no_known}
use Rattle.unfold.specs.declared.known.Known.{Known as Held_known}
use Rattle.unfold.specs.Telling as telling
use Rattle.unfold.specs.Telling.{Of_row, Of_rows, argument_row, data_told, first_row, is_function, known_row, known_worth, last_row, length_of, mapped_rows, replicated, rows_in, to_come, unflattened, zipped_row}
use Rattle.told_rows.specs.declared.arguments.Argument.{Argument}
use Rattle.told_rows.specs.declared.arguments.Told.{Told}
use Rattle.told_rows.specs.declared.rules.Rule.{Rule}
use Rattle.told_rows.specs.declared.rules.Rule.TheVariants as rule
use Rattle.told_rows.specs.Arguments.{argument_of, arguments_of, rows_of, told_of, tells_by}
use Rattle.told_rows.proofs.RowLists.{part_at}

-- ---- lists that grow

append_more : {A : Type 0} (xs ys zs : List A) → (xs ++ ys) ++ zs ≡ xs ++ (ys ++ zs)
append_more [] ys zs = refl
append_more (x ∷ xs) ys zs = ap (◌∷◌ x) (append_more xs ys zs)

pub grown : {X Y : Type 0} (f : X → Y) (made more : List X) (x : X) (ys : List Y) → more ≡ made ++ x ∷ [] → map f more ++ ys ≡ map f made ++ f x ∷ ys
grown f made more x ys e = ap (λ z. map f z ++ ys) e ∙ ap (λ z. z ++ ys) (map-append f made (x ∷ [])) ∙ append_more (map f made) (f x ∷ []) ys

-- ---- the arguments that are data

pub data_before : (s : Known) (ss : List Known) → data_told (known_and s (knowns ss)) [] ≡ data_told (known_and s no_known) [] ++ data_told (knowns ss) []
unfolding data_told
data_before s ss = by (is_function s)
  where
    by : (b : Bool) → cond b (data_told (knowns ss) []) ((known_row s, known_worth s) ∷ data_told (knowns ss) []) ≡ cond b [] ((known_row s, known_worth s) ∷ []) ++ data_told (knowns ss) []
    by true = refl
    by false = refl

pub data_behind : (ss : List Known) (bs : List telling.Argument) → data_told (knowns ss) bs ≡ data_told (knowns ss) [] ++ bs
unfolding data_told
data_behind [] bs = refl
data_behind (s ∷ ss) bs = by (data_behind ss bs) (is_function s)
  where
    by : data_told (knowns ss) bs ≡ data_told (knowns ss) [] ++ bs → (b : Bool) → cond b (data_told (knowns ss) bs) ((known_row s, known_worth s) ∷ data_told (knowns ss) bs) ≡ cond b (data_told (knowns ss) []) ((known_row s, known_worth s) ∷ data_told (knowns ss) []) ++ bs
    by rest true = rest
    by rest false = ap (◌∷◌ (known_row s, known_worth s)) rest

module _ (s : Known) where
  pub function_none : true ≡ is_function s → data_told (known_and s no_known) [] ≡ []
  unfolding data_told
  function_none e = ap (λ z. cond z [] ((known_row s, known_worth s) ∷ [])) (sym e)

  pub one_data : false ≡ is_function s → data_told (known_and s no_known) [] ≡ (known_row s, known_worth s) ∷ []
  unfolding data_told
  one_data e = ap (λ z. cond z [] ((known_row s, known_worth s) ∷ [])) (sym e)

-- an argument that is a function adds nothing, data itself
pub no_part : (s : Known) (made more : List Argument) → more ≡ made → true ≡ is_function s → arguments_of more ≡ arguments_of made ++ data_told (known_and s no_known) []
no_part s made more m e = ap arguments_of m ∙ sym (append-nil (arguments_of made)) ∙ ap (λ z. arguments_of made ++ z) (sym (function_none s e))

pub one_part : (s : Known) (made more : List Argument) (x : Argument) → more ≡ made ++ x ∷ [] → row_of x.row.now ≡ known_row s → extent_of x.worth ≡ known_worth s → false ≡ is_function s → arguments_of more ≡ arguments_of made ++ data_told (known_and s no_known) []
one_part s made more x m r w e =
    sym (append-nil (arguments_of more))
    ∙ grown argument_of made more x [] m
    ∙ ap (λ z. arguments_of made ++ (z, extent_of x.worth) ∷ []) r
    ∙ ap (λ z. arguments_of made ++ (known_row s, z) ∷ []) w
    ∙ ap (λ z. arguments_of made ++ z) (sym (one_data s e))

abbrev pub data_from : List Held_known → ℕ → List telling.Argument
data_from ss j = data_told (knowns (map known_of (drop j ss))) []

module _ (ss : List Held_known) (i : ℕ) where
  pub parts_more : (s : Held_known) (start made more : List telling.Argument) → i < length ss → start ++ data_from ss 0 ≡ made ++ data_from ss i → more ≡ made ++ data_told (known_and (known_of (get_or ss i s)) no_known) [] → start ++ data_from ss 0 ≡ more ++ data_from ss (i + 1)
  parts_more s start made more l e m =
      e
      ∙ ap (λ z. made ++ data_told (knowns (map known_of z)) []) (part_at ss i s l)
      ∙ ap (λ z. made ++ z) (data_before (known_of (get_or ss i s)) (map known_of (drop (i + 1) ss)))
      ∙ sym (append_more made (data_told (known_and (known_of (get_or ss i s)) no_known) []) (data_from ss (i + 1)))
      ∙ ap (λ z. z ++ data_from ss (i + 1)) (sym m)

  pub parts_over : (start made : List telling.Argument) → length ss ≤ i → start ++ data_from ss 0 ≡ made ++ data_from ss i → made ≡ start ++ data_from ss 0
  unfolding data_told
  parts_over start made l e = sym (e ∙ ap (λ z. made ++ data_told (knowns (map known_of z)) []) (drop_past ss i l) ∙ append-nil made)

-- ---- those that are to come

module _ (rs : List RowShape) (i : ℕ) (start made : List Argument) (e : arguments_of start ++ to_come (rows_of rs) ≡ arguments_of made ++ to_come (rows_of (drop i rs))) where
  pub rows_more : (r : RowShape) (q : Bor RowShape) (more : List Argument) → i < length rs → r ≡ get_or rs i r → q.now ≡ r → more ≡ made ++ record { row = q; worth = extent.Nowhere } ∷ [] → arguments_of start ++ to_come (rows_of rs) ≡ arguments_of more ++ to_come (rows_of (drop (i + 1) rs))
  rows_more r q more l is h m =
      e
      ∙ ap (λ z. arguments_of made ++ to_come (rows_of z)) (part_at rs i r l)
      ∙ ap (λ z. arguments_of made ++ (row_of z, Nowhere) ∷ to_come (rows_of (drop (i + 1) rs))) (sym (h ∙ is))
      ∙ ap (λ z. arguments_of made ++ (row_of q.now, z) ∷ to_come (rows_of (drop (i + 1) rs))) (sym extent_of-Nowhere)
      ∙ sym (grown argument_of made more (record { row = q; worth = extent.Nowhere }) (to_come (rows_of (drop (i + 1) rs))) m)

  pub rows_over : length rs ≤ i → arguments_of made ≡ arguments_of start ++ to_come (rows_of rs)
  rows_over l = sym (e ∙ ap (λ z. arguments_of made ++ to_come (rows_of z)) (drop_past rs i l) ∙ append-nil (arguments_of made))

-- all of them, one after the other
pub all_told : (ss : List Held_known) (rs : List RowShape) (start told all made : List Argument) → start ≡ [] → arguments_of told ≡ arguments_of start ++ data_told (knowns (map known_of ss)) [] → arguments_of all ≡ arguments_of told ++ to_come (rows_of rs) → made ≡ all → arguments_of made ≡ data_told (knowns (map known_of ss)) (to_come (rows_of rs))
all_told ss rs start told all made s d a m = ap arguments_of m ∙ a ∙ ap (λ z. z ++ to_come (rows_of rs)) (d ∙ ap (λ z. arguments_of z ++ data_told (knowns (map known_of ss)) []) s) ∙ sym (data_behind (map known_of ss) (to_come (rows_of rs)))

-- ---- rows of arguments

module _ (xs : List Argument) (i : ℕ) (made : List RowShape) (e : map argument_row (arguments_of xs) ≡ rows_of made ++ map argument_row (arguments_of (drop i xs))) where
  pub each_more : (x : Argument) (r : RowShape) (more : List RowShape) → i < length xs → row_of r ≡ rows_in (row_of (get_or xs i x).row.now) → more ≡ made ++ r ∷ [] → map argument_row (arguments_of xs) ≡ rows_of more ++ map argument_row (arguments_of (drop (i + 1) xs))
  each_more x r more l h m =
      e
      ∙ ap (λ z. rows_of made ++ map argument_row (arguments_of z)) (part_at xs i x l)
      ∙ ap (λ z. rows_of made ++ z ∷ map argument_row (arguments_of (drop (i + 1) xs))) (sym h)
      ∙ sym (grown row_of made more r (map argument_row (arguments_of (drop (i + 1) xs))) m)

  pub each_over : length xs ≤ i → rows_of made ≡ map argument_row (arguments_of xs)
  each_over l = sym (e ∙ ap (λ z. rows_of made ++ map argument_row (arguments_of z)) (drop_past xs i l) ∙ append-nil (rows_of made))

-- ---- what is told of so many

abbrev pub Told_made : Type 0
Told_made = Result Told NoMemory

abbrev pub Tells_so : telling.Telling → Told_made → Type 0
Tells_so p o = IfOk o (λ told. told_of told ≡ p)

pub told_as : (o : Told_made) (p q : telling.Telling) → Tells_so p o → p ≡ q → Tells_so q o
told_as (Ok told) p q h e = h ∙ e
told_as (Err x) p q h e = tt

module _ (r : Row) (u : r ≡ Unknown_row) where
  pub none_mapped : (xs : List Argument) → length xs ≡ 0 → Of_row r ≡ mapped_rows (arguments_of xs)
  none_mapped [] e = ap Of_row u
  none_mapped (x ∷ xs) e = absurd (omega (arith, e))

  pub none_zipped : (xs : List Argument) → length xs ≡ 0 → Of_row r ≡ zipped_row (arguments_of xs)
  none_zipped [] e = ap Of_row u
  none_zipped (x ∷ xs) e = absurd (omega (arith, e))

  pub none_first : (xs : List Argument) → length xs ≡ 0 → Of_row r ≡ first_row (arguments_of xs)
  none_first [] e = ap Of_row u
  none_first (x ∷ xs) e = absurd (omega (arith, e))

  pub none_last : (xs : List Argument) → length xs ≡ 0 → Of_row r ≡ last_row (arguments_of xs)
  none_last [] e = ap Of_row u
  none_last (x ∷ xs) e = absurd (omega (arith, e))

  pub not_two : (xs : List Argument) → (length xs ≡ 2 → ⊥) → Of_row r ≡ replicated (arguments_of xs)
  not_two [] n = ap Of_row u
  not_two (a ∷ []) n = ap Of_row u
  not_two (a ∷ b ∷ []) n = absurd (n refl)
  not_two (a ∷ b ∷ c ∷ cs) n = ap Of_row u

  pub not_three : (xs : List Argument) → (length xs ≡ 3 → ⊥) → Of_row r ≡ unflattened (arguments_of xs)
  not_three [] n = ap Of_row u
  not_three (a ∷ []) n = ap Of_row u
  not_three (a ∷ b ∷ []) n = ap Of_row u
  not_three (a ∷ b ∷ c ∷ []) n = absurd (n refl)
  not_three (a ∷ b ∷ c ∷ d ∷ ds) n = ap Of_row u

-- a rule for one argument, where there is none or more than one
pub not_one : (r : Row) (xs : List Argument) (by : Rule) → r ≡ Unknown_row → (length xs ≡ 1 → ⊥) → (by ≡ rule.Mapped → ⊥) → (by ≡ rule.First → ⊥) → (by ≡ rule.Last → ⊥) → (by ≡ rule.Zipped → ⊥) → (by ≡ rule.Replicated → ⊥) → (by ≡ rule.Unflattened → ⊥) → ((t : ScalarType) → by ≡ rule.Scalar t → ⊥)
    → Of_row r ≡ tells_by by (arguments_of xs)
not_one r xs rule.Mapped u n a b c d e f g = absurd (a refl)
not_one r xs rule.First u n a b c d e f g = absurd (b refl)
not_one r xs rule.Last u n a b c d e f g = absurd (c refl)
not_one r xs rule.Zipped u n a b c d e f g = absurd (d refl)
not_one r xs rule.Replicated u n a b c d e f g = absurd (e refl)
not_one r xs rule.Unflattened u n a b c d e f g = absurd (f refl)
not_one r xs (rule.Scalar t) u n a b c d e f g = absurd (g t refl)
not_one r xs rule.Unknown u n a b c d e f g = ap Of_row u
not_one r [] rule.Element u n a b c d e f g = ap Of_row u
not_one r [] rule.Unzipped u n a b c d e f g = ap Of_row u
not_one r [] rule.Counted u n a b c d e f g = ap Of_row u
not_one r [] rule.Tabulated u n a b c d e f g = ap Of_row u
not_one r [] rule.Indices u n a b c d e f g = ap Of_row u
not_one r [] rule.Transposed u n a b c d e f g = ap Of_row u
not_one r [] rule.Same u n a b c d e f g = ap Of_row u
not_one r (x ∷ []) rule.Element u n a b c d e f g = absurd (n refl)
not_one r (x ∷ []) rule.Unzipped u n a b c d e f g = absurd (n refl)
not_one r (x ∷ []) rule.Counted u n a b c d e f g = absurd (n refl)
not_one r (x ∷ []) rule.Tabulated u n a b c d e f g = absurd (n refl)
not_one r (x ∷ []) rule.Indices u n a b c d e f g = absurd (n refl)
not_one r (x ∷ []) rule.Transposed u n a b c d e f g = absurd (n refl)
not_one r (x ∷ []) rule.Same u n a b c d e f g = absurd (n refl)
not_one r (x ∷ y ∷ ys) rule.Element u n a b c d e f g = ap Of_row u
not_one r (x ∷ y ∷ ys) rule.Unzipped u n a b c d e f g = ap Of_row u
not_one r (x ∷ y ∷ ys) rule.Counted u n a b c d e f g = ap Of_row u
not_one r (x ∷ y ∷ ys) rule.Tabulated u n a b c d e f g = ap Of_row u
not_one r (x ∷ y ∷ ys) rule.Indices u n a b c d e f g = ap Of_row u
not_one r (x ∷ y ∷ ys) rule.Transposed u n a b c d e f g = ap Of_row u
not_one r (x ∷ y ∷ ys) rule.Same u n a b c d e f g = ap Of_row u

pub one_by : (xs : List Argument) (x : Argument) (by : Rule) (o : Told_made) → length xs ≡ 1 → Tells_so (tells_by by (argument_of (get_or xs 0 x) ∷ [])) o → Tells_so (tells_by by (arguments_of xs)) o
one_by [] x by o e h = absurd (omega (arith, e))
one_by (y ∷ []) x by o e h = h
one_by (y ∷ z ∷ zs) x by o e h = absurd (omega (arith, e))

pub first_told : (xs : List Argument) (x : Argument) → (length xs ≡ 0 → ⊥) → Of_row (row_of (get_or xs 0 x).row.now) ≡ first_row (arguments_of xs)
first_told [] x n = absurd (n refl)
first_told (y ∷ ys) x n = refl

pub last_told : (xs : List Argument) (x : Argument) → (length xs ≡ 0 → ⊥) → Of_row (row_of (get_or xs (length xs - 1) x).row.now) ≡ last_row (arguments_of xs)
last_told [] x n = absurd (n refl)
last_told (y ∷ []) x n = refl
last_told (y ∷ z ∷ zs) x n =
    ap (λ k. Of_row (row_of (get_or (y ∷ z ∷ zs) k x).row.now)) {y = suc (length zs)} (omega arith)
    ∙ ap (λ k. Of_row (row_of (get_or (z ∷ zs) k x).row.now)) {x = length zs} {y = length (z ∷ zs) - 1} (omega arith)
    ∙ last_told (z ∷ zs) x (λ e. absurd (omega (arith, e)))

pub mapped_told : (xs : List Argument) (x : Argument) (e : Extent) (rs : List Row) → (length xs ≡ 0 → ⊥) → e ≡ length_of (row_of (get_or xs 0 x).row.now) → rs ≡ map argument_row (arguments_of xs) → Of_rows e rs ≡ mapped_rows (arguments_of xs)
mapped_told [] x e rs n h i = absurd (n refl)
mapped_told (y ∷ ys) x e rs n h i = ap (λ z. Of_rows z rs) h ∙ ap (Of_rows (length_of (row_of y.row.now))) i

pub zipped_told : (xs : List Argument) (x : Argument) (e : Extent) (t : RowShape) (rs : Bor (List RowShape)) (o : Told_made) → (length xs ≡ 0 → ⊥) → e ≡ length_of (row_of (get_or xs 0 x).row.now) → rows_of rs.now ≡ map argument_row (arguments_of xs) → t ≡ row.Tuple rs → Tells_so (Of_row (Array_row e (row_of t))) o → Tells_so (zipped_row (arguments_of xs)) o
zipped_told [] x e t rs o n h i is m = absurd (n refl)
zipped_told (y ∷ ys) x e t rs o n h i is m = told_as o _ _ m (ap (λ z. Of_row (Array_row z (row_of t))) h ∙ ap (λ z. Of_row (Array_row (length_of (row_of y.row.now)) z)) (ap row_of is ∙ row_of-Tuple rs ∙ ap (λ z. Tuple_row (rows z)) i))

pub replicated_told : (xs : List Argument) (x y : Argument) (o : Told_made) → length xs ≡ 2 → Tells_so (Of_row (Array_row (extent_of (get_or xs 0 x).worth) (row_of (get_or xs 1 y).row.now))) o → Tells_so (replicated (arguments_of xs)) o
replicated_told [] x y o e m = absurd (omega (arith, e))
replicated_told (a ∷ []) x y o e m = absurd (omega (arith, e))
replicated_told (a ∷ b ∷ []) x y o e m = m
replicated_told (a ∷ b ∷ c ∷ cs) x y o e m = absurd (omega (arith, e))

pub unflattened_told : (xs : List Argument) (x y z : Argument) (q : Bor RowShape) (t : RowShape) (o : Told_made) → length xs ≡ 3 → row_of q.now ≡ rows_in (row_of (get_or xs 2 z).row.now) → t ≡ row.Array (get_or xs 1 y).worth q → Tells_so (Of_row (Array_row (extent_of (get_or xs 0 x).worth) (row_of t))) o → Tells_so (unflattened (arguments_of xs)) o
unflattened_told [] x y z q t o e h is m = absurd (omega (arith, e))
unflattened_told (a ∷ []) x y z q t o e h is m = absurd (omega (arith, e))
unflattened_told (a ∷ b ∷ []) x y z q t o e h is m = absurd (omega (arith, e))
unflattened_told (a ∷ b ∷ c ∷ []) x y z q t o e h is m = told_as o _ _ m (ap (λ u. Of_row (Array_row (extent_of a.worth) u)) (ap row_of is ∙ row_of-Array b.worth q ∙ ap (Array_row (extent_of b.worth)) h))
unflattened_told (a ∷ b ∷ c ∷ d ∷ ds) x y z q t o e h is m = absurd (omega (arith, e))
