-- Some rows of arrays, as new arrays.
use Rattle.std.proofs.Common.{◌≡◌, ℕ, zero, suc, ◌+◌, ◌-◌, ◌*◌, ◌<◌, ◌≤◌, ◌^◌, min, List, [], ◌∷◌, ◌++◌, map, flat_map, length, get_or, take, drop, slice_get, Some, Ok, Err, refl, sym, ap, ◌∙◌, subst, arith, add-one, append_assoc}
use Rattle.std.proofs.Math.Nat.{suc-mul, mul-le-mul_right}
use Rattle.std.proofs.Math.Seq.{drop-cons}
use Rattle.std.proofs.lemmas.List.{append-nil, length-append, length-map, length-drop, length-take-le, map-append, take_all}
use Rattle.fut_scalar.specs.declared.scalar.Scalar.{Scalar}
use Rattle.fut_arithmetic.specs.Words.{scalar_of_word}
use Rattle.fut_value.specs.Leaves.{extent}
use Rattle.fut_meaning.specs.Outcomes.{Val}
use Rattle.core_arrays.specs.Arenas.{Array, Arena, array, with_array}
use Rattle.core_ir.specs.declared.block.Atom.{Atom}
use Rattle.core_ir.specs.Bundles.{Component, Many, Row, sizes, cells, formed, rows_in, array_words}
use Rattle.core_ir.specs.Meaning.{Env, value_of, values_of}
use Rattle.core_ir.specs.Typed.{Sort, Sorts, lifted, Atoms_are}
use Rattle.core_code.specs.Registers.{State, ShowsArray, AllShow, none_shown, shown_and, Stands}
use Rattle.core_code.specs.Answers.{Read, read, Reads, Pushed, pushed}
use Rattle.core_code.specs.declared.stop.Stop.{Stop}
use Rattle.core_code.specs.declared.stop.Stop.TheVariants.{Memory}
use Rattle.core_code.proofs.Frames.{all_show_on, stands_on}
use Rattle.core_code.proofs.Reading.{show_append}
use Rattle.core_steps.specs.Choosing.{piece, chosen, all_chosen, Below, none_below, below_and, Long, no_array, array_and, ColumnChosen, column_chosen, no_column_chosen, Column_chosen, RowsChosen, rows_chosen, no_rows_chosen, Rows_chosen}
use Rattle.core_steps.specs.Gluing.{Made}
use Rattle.core_steps.proofs.Counting.{Operand_at, operand_at}
use Rattle.core_steps.proofs.Gathering.{drop_map, lifted_append, words_append}
use Rattle.core_steps.proofs.Operands.{drop_past, get_behind, get_front, next_of, sorts_many, values_many}

-- ---- cells

abbrev words_of : List ℕ → ℕ → List ℕ → List ℕ
words_of ws k is = flat_map (λ i. take k (drop (i * k) ws)) is

module _ (ws : List ℕ) (k : ℕ) (is : List ℕ) where
  pub cells_start : [] ++ words_of ws k (drop 0 is) ≡ words_of ws k is
  cells_start = refl

  pub cells_more : (j d : ℕ) (vs vs' row : List ℕ) → j < length is → vs ++ words_of ws k (drop j is) ≡ words_of ws k is → row ≡ take k (drop (get_or is j d * k) ws) → vs' ≡ vs ++ row → vs' ++ words_of ws k (drop (j + 1) is) ≡ words_of ws k is
  cells_more j d vs vs' row l h e f =
      ap (λ z. z ++ words_of ws k (drop (j + 1) is)) f ∙ ap (λ z. (vs ++ row) ++ words_of ws k (drop z is)) (add-one j) ∙ append_assoc vs row (words_of ws k (drop (suc j) is))
      ∙ ap (λ z. vs ++ z) (ap (λ z. z ++ words_of ws k (drop (suc j) is)) e ∙ sym (ap (words_of ws k) (drop-cons is j d l))) ∙ h

  pub cells_end : (j : ℕ) (vs : List ℕ) → length is ≤ j → vs ++ words_of ws k (drop j is) ≡ words_of ws k is → vs ≡ words_of ws k is
  cells_end j vs l h = sym (append-nil vs) ∙ ap (λ z. vs ++ words_of ws k z) (sym (drop_past is j l)) ∙ h

pub ruleset cells_rules = (cells_start, cells_more, cells_end)

-- ---- one array

pub column_ok : (at : ℕ) (is : List ℕ) (A A' : Arena) (xs rest vs ds words first : List ℕ) (n each number : ℕ)
    → ((a : Array) → slice_get A.arrays at ≡ Some a → xs ≡ a.sizes) → xs ≡ n ∷ rest → each ≡ extent rest → ((a : Array) → slice_get A.arrays at ≡ Some a → words ≡ a.words) → vs ≡ words_of words each is
    → first ≡ length is ∷ [] → ds ≡ first ++ rest → number ≡ length A.arrays → A' ≡ with_array A ds vs → Column_chosen at is A A' (Ok number)
unfolding Column_chosen
column_ok at is A A' xs rest vs ds words first n each number h e q w v f g p r a there =
    column_chosen n rest (sym (h a there) ∙ e) p
    (r ∙ ap (λ z. with_array A z vs) (g ∙ ap (λ z. z ++ rest) f) ∙ ap (with_array A (length is ∷ rest)) (v ∙ ap (λ z. words_of words z is) q ∙ ap (λ z. words_of z (extent rest) is) (w a there)))

pub column_stop : (at : ℕ) (is : List ℕ) (A A' : Arena) (e : Stop) → e ≡ Memory → Column_chosen at is A A' (Err e)
unfolding Column_chosen
column_stop at is A A' e q a there = subst (λ z. ColumnChosen a is A A' (Err z)) (sym q) no_column_chosen

pub ruleset column_rules = (column_stop)

-- ---- that it holds the rows

map_take : {A B : Type 0} (g : A → B) (n : ℕ) (xs : List A) → take n (map g xs) ≡ map g (take n xs)
map_take g zero xs = refl
map_take g (suc n) [] = refl
map_take g (suc n) (x ∷ xs) = ap (λ z. g x ∷ z) (map_take g n xs)

-- the cells of rows that are formed of words
formed_cells : (ds : List ℕ) (xs : List Scalar) → length xs ≤ extent ds → cells (formed ds xs) ≡ xs
formed_cells [] [] l = refl
formed_cells [] (x ∷ []) l = refl
formed_cells [] (x ∷ y ∷ xs) l = absurd (omega (arith, l))
formed_cells (d ∷ ds) xs l = refl

take_most : {A : Type 0} (n : ℕ) (xs : List A) → length (take n xs) ≤ n
take_most zero xs = omega arith
take_most (suc n) [] = omega arith
take_most (suc n) (x ∷ xs) = let k = take_most n xs in omega (arith, k)

piece_words : (f : ℕ → Scalar) (n : ℕ) (ds ws : List ℕ) (is : List ℕ) → flat_map (λ i. cells (piece i (Many (n ∷ ds) (map f ws)))) is ≡ map f (words_of ws (extent ds) is)
piece_words f n ds ws [] = refl
piece_words f n ds ws (i ∷ is) =
    let few : List ℕ = take (extent ds) (drop (i * extent ds) ws) in
    let same : take (extent ds) (drop (i * extent ds) (map f ws)) ≡ map f few = ap (take (extent ds)) (drop_map f (i * extent ds) ws) ∙ map_take f (extent ds) (drop (i * extent ds) ws) in
    let k = take_most (extent ds) (drop (i * extent ds) ws) in
    ap (λ z. cells (formed ds z) ++ flat_map (λ i. cells (piece i (Many (n ∷ ds) (map f ws)))) is) same
    ∙ ap (λ z. z ++ flat_map (λ i. cells (piece i (Many (n ∷ ds) (map f ws)))) is) (formed_cells ds (map f few) (omega (arith, k, length-map few f)))
    ∙ ap (λ z. map f few ++ z) (piece_words f n ds ws is) ∙ sym (map-append f few (words_of ws (extent ds) is))

chosen_many : (n k : ℕ) (ws is : List ℕ) → length ws ≡ n * k → Below n is → length (words_of ws k is) ≡ length is * k
chosen_many n k ws _ e none_below = omega arith
chosen_many n k ws _ e (below_and {i = i} {is = is} l b) =
    let within : suc i * k ≤ n * k = mul-le-mul_right k l in
    let full : length (take k (drop (i * k) ws)) ≡ k = length-take-le k (drop (i * k) ws) (omega (arith, length-drop (i * k) ws, e, within, suc-mul i k)) in
    let h = chosen_many n k ws is e b in
    omega (arith, length-append (take k (drop (i * k) ws)) (words_of ws k is), full, h, suc-mul (length is) k)

-- an array of which the rows are taken
pub record Chosen_array (A A' : Arena) (s : Sort) (c : Component) (is : List ℕ) (p : ℕ) : Type 0 where
  pub shown : ShowsArray A'.arrays s.0 (suc s.1) (chosen is c) p
  pub arrays : (i : ℕ) (a : Array) → slice_get A.arrays i ≡ Some a → slice_get A'.arrays i ≡ Some a
  pub handed : A'.handed ≤ A.handed + extent (length is ∷ drop 1 (sizes c))

chosen_array : (A A' : Arena) (s : Sort) (c : Component) (is : List ℕ) (n at p : ℕ) → rows_in c ≡ Val n → Below n is → (x : ShowsArray A.arrays s.0 (suc s.1) c at) → ColumnChosen x.array is A A' (Ok p) → Chosen_array A A' s c is p
chosen_array A A' s c is n at p r b x (column_chosen m ds e q k) =
    let f : ℕ → Scalar = scalar_of_word s.0 in
    let ws : List ℕ = x.array.words in
    let vs : List ℕ = words_of ws (extent ds) is in
    let whole : c ≡ Many (m ∷ ds) (map f ws) = x.is ∙ ap (λ z. Many z (map f ws)) e in
    let same : m ≡ n = let z : Val m ≡ Val n = sym (ap rows_in whole) ∙ r in cc in
    let full : length ws ≡ n * extent ds = x.full ∙ ap extent e ∙ ap (λ z. z * extent ds) same in
    let long : length vs ≡ length is * extent ds = chosen_many n (extent ds) ws is full b in
    record {
      shown = record {
        array = array (length is ∷ ds) vs;
        there = ap (λ (z : Arena). slice_get z.arrays p) k ∙ ap (slice_get (A.arrays ++ array (length is ∷ ds) vs ∷ [])) q ∙ get_behind A.arrays (array (length is ∷ ds) vs);
        is = ap (chosen is) whole ∙ ap (Many (length is ∷ ds)) (piece_words f m ds ws is);
        deep = let z : length (m ∷ ds) ≡ suc s.1 = sym (ap length e) ∙ x.deep in z;
        full = long;
      };
      arrays = λ i a z. ap (λ (y : Arena). slice_get y.arrays i) k ∙ get_front A.arrays (array (length is ∷ ds) vs ∷ []) i a z;
      handed =
          let z : A'.handed ≡ min (A.handed + length vs) (2 ^ 64 - 1) = ap (λ (y : Arena). y.handed) k in
          let y : extent (length is ∷ drop 1 (sizes c)) ≡ length is * extent ds = ap (λ z. extent (length is ∷ drop 1 (sizes z))) whole in
          omega (arith, z, y, long);
    }

-- ---- several arrays

long_get : (n j : ℕ) (cs : Row) (c : Component) (rest : Row) → Long n cs → drop j cs ≡ c ∷ rest → rows_in c ≡ Val n
long_get n zero _ c rest no_array e = cc
long_get n (suc j) _ c rest no_array e = cc
long_get n zero _ c rest (array_and {c = d} x h) e = let q : d ≡ c = cc in ap rows_in (sym q) ∙ x
long_get n (suc j) _ c rest (array_and {cs = cs} x h) e = long_get n j cs c rest h e

pub record Chosen_so (is : List ℕ) (cs : Row) (ss : List Sort) (j : ℕ) (S0 S : State) : Type 0 where
  pub ws : List ℕ
  pub shown : AllShow S.arena.arrays (lifted (take j ss)) (all_chosen is (take j cs)) ws
  pub stack : S.stack ≡ S0.stack ++ ws
  pub words : S.words ≡ S0.words
  pub grown : Made S0.arena S.arena (array_words (all_chosen is (take j cs)))

unfoldable pub Chosen_goes : List Atom → List ℕ → ℕ → State → State → Type 0
Chosen_goes us is j S0 S =
    (G : Sorts) (env : Env) (m n : ℕ) (ss : List Sort) (cs : Row) → Stands G env m S0.arena.arrays S0.words → Atoms_are G us (lifted ss) → values_of env us ≡ Val cs → Long n cs → Below n is → Chosen_so is cs ss j S0 S

module _ (us : List Atom) (is : List ℕ) (S0 : State) where
  pub arrays_start : Chosen_goes us is 0 S0 S0
  unfolding Chosen_goes
  arrays_start G env m n ss cs st a v lo b = record { ws = []; shown = none_shown; stack = sym (append-nil S0.stack); words = refl; grown = record { arrays = λ i x e. e; handed = omega arith } }

  module _ (j : ℕ) (S : State) (h : Chosen_goes us is j S0 S) where
    pub arrays_more : (d : Atom) (at p : ℕ) (S' : State) → j < length us → S'.words ≡ S.words → Reads S.words (get_or us j d) (Ok at) → Column_chosen at is S.arena S'.arena (Ok p) → Pushed p S.stack S'.stack (Ok tt) → Chosen_goes us is (j + 1) S0 S'
    unfolding Chosen_goes Reads Column_chosen
    arrays_more d at p S' l w r k q G env m n ss cs st a v lo b =
        subst (λ z. Chosen_so is cs ss z S0 S') (sym (add-one j)) (by_operand (h G env m n ss cs st a v lo b) (operand_at G env us ss cs j d l a v))
      where
        by_array : (s : Sort) (c : Component) → Chosen_so is cs ss j S0 S → take (suc j) ss ≡ take j ss ++ s ∷ [] → take (suc j) cs ≡ take j cs ++ c ∷ [] → Chosen_array S.arena S'.arena s c is p → Pushed p S.stack S'.stack (Ok tt) → Chosen_so is cs ss (suc j) S0 S'
        by_array s c so ts tc x (pushed y) =
            let all : all_chosen is (take (suc j) cs) ≡ all_chosen is (take j cs) ++ chosen is c ∷ [] = ap (all_chosen is) tc ∙ map-append (chosen is) (take j cs) (c ∷ []) in
            let shown : AllShow S'.arena.arrays (lifted (take j ss) ++ (s.0, suc s.1) ∷ []) (all_chosen is (take j cs) ++ chosen is c ∷ []) (so.ws ++ p ∷ []) =
            show_append S'.arena.arrays (lifted (take j ss)) (all_chosen is (take j cs)) so.ws ((s.0, suc s.1) ∷ []) (chosen is c ∷ []) (p ∷ []) (all_show_on S.arena.arrays S'.arena.arrays (lifted (take j ss)) (all_chosen is (take j cs)) so.ws x.arrays so.shown) (shown_and x.shown none_shown) in
            record {
              ws = so.ws ++ p ∷ [];
              shown = subst (λ z. AllShow S'.arena.arrays (lifted (take (suc j) ss)) z (so.ws ++ p ∷ [])) (sym all)
                  (subst (λ z. AllShow S'.arena.arrays z (all_chosen is (take j cs) ++ chosen is c ∷ []) (so.ws ++ p ∷ [])) (sym (ap lifted ts ∙ lifted_append (take j ss) s)) shown);
              stack = y ∙ ap (λ z. z ++ p ∷ []) so.stack ∙ append_assoc S0.stack so.ws (p ∷ []);
              words = w ∙ so.words;
              grown = record {
                arrays = λ i y e. x.arrays i y (so.grown.arrays i y e);
                handed =
                    let ds : List ℕ = length is ∷ drop 1 (sizes c) in
                    let z : array_words (all_chosen is (take (suc j) cs)) ≡ array_words (all_chosen is (take j cs)) + extent ds =
                    ap array_words all ∙ words_append (all_chosen is (take j cs)) (chosen is c) ds (flat_map (λ i. cells (piece i c)) is) refl in
                    omega (arith, z, so.grown.handed, x.handed);
              };
            }

        by_read : Chosen_so is cs ss j S0 S → (o : Operand_at G env us ss cs j (get_or us j d)) → Read (value_of env (get_or us j d)) S.arena.arrays (o.sort.0, suc o.sort.1) (Ok at) → Chosen_so is cs ss (suc j) S0 S'
        by_read so o (read {c = c} e x) =
            let same : c ≡ o.component = let z : Val c ≡ Val o.component = sym e ∙ o.value in cc in
            let long : rows_in c ≡ Val n = ap rows_in same ∙ long_get n j cs o.component (drop (suc j) cs) lo o.components in
            by_array o.sort o.component so (next_of j ss o.sort (drop (suc j) ss) o.sorts).taken (next_of j cs o.component (drop (suc j) cs) o.components).taken
            (subst (λ z. Chosen_array S.arena S'.arena o.sort z is p) same (chosen_array S.arena S'.arena o.sort c is n at p long b x (k x.array x.there))) q

        by_operand : Chosen_so is cs ss j S0 S → Operand_at G env us ss cs j (get_or us j d) → Chosen_so is cs ss (suc j) S0 S'
        by_operand so o =
            by_read so o
            (r G env m S.arena.arrays (o.sort.0, suc o.sort.1) (subst (Stands G env m S.arena.arrays) (sym so.words) (stands_on G env m m S0.arena.arrays S.arena.arrays S0.words S0.words (omega arith) (λ x l. refl) so.grown.arrays st)) o.is)

    pub arrays_end : length us ≤ j → Rows_chosen us is S0 S (Ok tt)
    unfolding Chosen_goes Rows_chosen
    arrays_end l G env m n ss cs st a v lo b =
        let so = h G env m n ss cs st a v lo b in
        let tc : take j cs ≡ cs = take_all j cs (omega (arith, l, values_many env us cs v)) in
        let ts : take j ss ≡ ss = take_all j ss (omega (arith, l, sorts_many G us ss a)) in
        rows_chosen so.ws (subst (λ z. AllShow S.arena.arrays (lifted ss) (all_chosen is z) so.ws) tc (subst (λ z. AllShow S.arena.arrays (lifted z) (all_chosen is (take j cs)) so.ws) ts so.shown)) so.stack
        (record { arrays = so.grown.arrays; handed = subst (λ z. S.arena.handed ≤ S0.arena.handed + array_words (all_chosen is z)) tc so.grown.handed })

pub arrays_stop : (us : List Atom) (is : List ℕ) (S S' : State) (e : Stop) → e ≡ Memory → Rows_chosen us is S S' (Err e)
unfolding Rows_chosen
arrays_stop us is S S' e q G env m n ss cs st a v lo b = subst (λ z. RowsChosen is cs ss S S' (Err z)) (sym q) no_rows_chosen

pub ruleset arrays_rules = (arrays_start, arrays_more, arrays_end, arrays_stop)
