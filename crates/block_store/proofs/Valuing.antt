-- Values in a store and out of it.
use Rattle.std.proofs.Common.{◌≡◌, ℕ, zero, suc, ◌+◌, ◌-◌, ◌*◌, ◌%◌, ◌^◌, ◌<◌, ◌≤◌, List, [], ◌∷◌, ◌++◌, All, map, take, drop, length, get_or, set, arith, refl, sym, ap, ◌∙◌, subst, append_assoc, Result, Ok, Err}
use Rattle.std.specs.Prelude.{ℤ, pos, max, true, false, Bool, IfOk}
use Rattle.std.specs.List.{flat_map, range_with_len}
use Rattle.std.proofs.lemmas.List.{length-append, length-map, get_or-map, get_or_at, set_at, length-take-le, drop_more, take_more, drop_all, take_all, append-nil, map-append}
use Rattle.std.proofs.lemmas.Nat.{pow_pos}
use Rattle.std.proofs.Math.Nat.{mod-eq_of_lt, mod-lt, mul-le-mul_left, suc-mul}
use Rattle.fut_scalar.specs.Integers.{width_of}
use Rattle.fut_scalar.specs.declared.scalar.Scalar.{Scalar}
use Rattle.fut_scalar.specs.declared.scalar.ScalarType.{ScalarType}
use Rattle.fut_scalar.specs.declared.scalar.ScalarType.TheVariants as sort
use Rattle.fut_arithmetic.specs.Conversions.{one_if}
use Rattle.fut_arithmetic.specs.Types.{IsOf, type_of}
use Rattle.fut_arithmetic.specs.Words.{scalar_of_word, word_of}
use Rattle.fut_value.specs.Data.{Scalar_datum}
use Rattle.fut_value.specs.Values.{IsWellFormed, datum_of, datum_with, greatest_weight, product, weight_of, word_count}
use Rattle.fut_value.specs.declared.value.Value.{Value}
use Rattle.block_store.specs.declared.held.Held.{Held}
use Rattle.block_store.specs.declared.held.Held.TheVariants as held
use Rattle.block_store.specs.declared.view.View.{View}
use Rattle.block_store.specs.Blocks.{Block, Blocks, In, Free, block_at, placed, with_block, words_at, words_in}
use Rattle.block_store.specs.Helds.{low_bits, value_held}
use Rattle.block_store.specs.Indices.{cells_from, indices}
use Rattle.block_store.specs.Views.{IsSized, IsWhole, IsWithin, cells}
use Rattle.block_store.specs.Walks.{strides_of}
use Rattle.block_store.proofs.Wholes.{is_whole}

-- ---- words of a type

low_is : (ty : ScalarType) (w : ℕ) → w < word_count ty → low_bits ty w ≡ w
low_is (sort.Int ty) w l = mod-eq_of_lt l
low_is sort.Bool zero l = refl
low_is sort.Bool (suc zero) l = refl
low_is sort.Bool (suc (suc w)) l = absurd (omega (arith, l))

one_small : (b : Bool) → one_if b < 2
one_small true = omega arith
one_small false = omega arith

low_fits : (ty : ScalarType) (w : ℕ) → low_bits ty w < word_count ty
low_fits (sort.Int ty) w = mod-lt w (pow_pos (width_of ty))
low_fits sort.Bool w = one_small _

type_back : (ty : ScalarType) (w : ℕ) → type_of (scalar_of_word ty w) ≡ ty
type_back (sort.Int ty) w = refl
type_back sort.Bool w = refl

pub low_all : (ty : ScalarType) (ws : List ℕ) → All (λ w. w < word_count ty) ws → map (low_bits ty) ws ≡ ws
low_all ty [] f = refl
low_all ty (w ∷ ws) f = ap (λ z. z ∷ map (low_bits ty) ws) (low_is ty w (f 0 0 (omega arith))) ∙ ap (λ z. w ∷ z) (low_all ty ws (λ k d l. f (suc k) d (omega (arith, l))))

-- ---- scalars

one_scalar : (ty : ScalarType) (sizes ws : List ℕ) (a : Scalar) → length ws ≡ product sizes → All (λ w. w < word_count ty) ws → datum_with ty sizes ws ≡ Scalar_datum a → (ty ≡ type_of a) × ((sizes ≡ []) × (ws ≡ word_of a ∷ []))
one_scalar ty [] [] a e f d = absurd (omega (arith, e))
one_scalar ty [] (w ∷ v ∷ ws) a e f d = absurd (omega (arith, e))
one_scalar ty (n ∷ ns) ws a e f d = absurd (cc)
one_scalar ty [] (w ∷ []) a e f d =
    let q : scalar_of_word ty w ≡ a = cc in
    (sym (type_back ty w) ∙ ap type_of q, (refl, ap (λ z. z ∷ []) (sym (low_is ty w (f 0 0 (omega arith))) ∙ ap word_of q)))

-- a value that stands for a scalar is the scalar's
pub only_scalar : (value : Value) (a : Scalar) → IsWellFormed value → datum_of value ≡ Scalar_datum a → value ≡ record { shape = record { elem = type_of a; sizes = [] }; words = word_of a ∷ [] }
only_scalar value a f d =
    let r = one_scalar value.shape.elem value.shape.sizes value.words a f.all f.fit d in
    ap (λ (z : ScalarType). let v : Value = record { shape = record { elem = z; sizes = value.shape.sizes }; words = value.words } in v) r.0
    ∙ ap (λ (z : List ℕ). let v : Value = record { shape = record { elem = type_of a; sizes = z }; words = value.words } in v) r.1.0
    ∙ ap (λ (z : List ℕ). let v : Value = record { shape = record { elem = type_of a; sizes = [] }; words = z } in v) r.1.1

-- ---- arrays

pieces_long : {A : Type 0} (f : ℕ → List A) (w a n : ℕ) → ((i : ℕ) → length (f i) ≡ w) → length (flat_map f (range_with_len a n)) ≡ n * w
pieces_long f w a zero len = omega arith
pieces_long f w a (suc n) len = length-append (f a) (flat_map f (range_with_len (a + 1) n)) ∙ (let r = pieces_long f w (a + 1) n len in let e = len a in omega (arith, r, e, suc-mul n w))

indices_long : (ns : List ℕ) → length (indices ns) ≡ product ns
indices_long [] = refl
indices_long (n ∷ ns) = pieces_long (λ i. map (λ at. i ∷ at) (indices ns)) (product ns) 0 n (λ i. length-map (indices ns) (λ at. i ∷ at) ∙ indices_long ns)

cells_long : (s : Blocks) (v : View) → length (cells s v) ≡ product v.shape
cells_long s v = length-map (indices v.shape) _ ∙ indices_long v.shape

-- what a view shows is a value
pub array_formed : (s : Blocks) (v : View) (ty : ScalarType) (value : Value) → IsSized v → value.shape.elem ≡ ty → value.shape.sizes ≡ v.shape → value.words ≡ map (low_bits ty) (cells s v) → IsWellFormed value
array_formed s v ty value sized et es ew = record {
  all = ap length ew ∙ length-map (cells s v) (low_bits ty) ∙ cells_long s v ∙ ap product (sym es);
  fit = subst (λ z. All (λ w. w < word_count z) value.words) (sym et) (subst (λ z. All (λ w. w < word_count ty) z) (sym ew) (λ k d l. rw (get_or-map (low_bits ty) (cells s v) k 0 d (omega (arith, l, length-map (cells s v) (low_bits ty)))) (low_fits ty (get_or (cells s v) k 0))));
  below = subst (All (λ n. n < 2 ^ 63)) (sym es) sized;
}

product_within : (ns : List ℕ) → product ns ≤ weight_of ns
product_within [] = omega arith
product_within (n ∷ ns) = let more = product_within ns in mul-le-mul_left n (omega (arith, more))

pub placed_at : (bs : List Block) (b : ℕ) (x : Block) → block_at (placed bs b x) b ≡ x
placed_at [] zero x = refl
placed_at [] (suc b) x = placed_at [] b x
placed_at (y ∷ ys) zero x = refl
placed_at (y ∷ ys) (suc b) x = placed_at ys b x

-- an array that was put in reads as it was
pub array_put : (s : Blocks) (v : View) (ty : ScalarType) (value : Value) → IsWellFormed value → weight_of value.shape.sizes ≤ greatest_weight → value.shape.elem ≡ ty → IsWhole v v.block value.shape.sizes → words_at s v.block ≡ value.words → (value_held s (held.Array v ty) ≡ value) × (IsWithin s v × IsSized v)
array_put s v ty value f light et w is =
    let fits = product_within value.shape.sizes in
    let small : product value.shape.sizes < 2 ^ 63 = omega (arith, fits, light) in
    let long : length (words_at s v.block) ≡ product value.shape.sizes = ap length is ∙ f.all in
    let words : map (low_bits ty) (cells s v) ≡ value.words = ap (map (low_bits ty)) (w.cells s long small ∙ is) ∙ low_all ty value.words (subst (λ z. All (λ x. x < word_count z) value.words) et f.fit) in (
      ap (λ (z : List ℕ). let v' : Value = record { shape = record { elem = ty; sizes = z }; words = map (low_bits ty) (cells s v) } in v') w.shape
          ∙ ap (λ (z : List ℕ). let v' : Value = record { shape = record { elem = ty; sizes = value.shape.sizes }; words = z } in v') words
          ∙ ap (λ (z : ScalarType). let v' : Value = record { shape = record { elem = z; sizes = value.shape.sizes }; words = value.words } in v') (sym et),
      (w.within s long small, subst (All (λ n. n < 2 ^ 63)) (sym w.shape) f.below),
    )

-- ---- a loop over words

pub low_more : (ty : ScalarType) (ws old seen new : List ℕ) (i y : ℕ) → i < length ws → old ≡ map (low_bits ty) (take i ws) ++ drop i ws → seen ≡ old → y ≡ low_bits ty (get_or seen i 0) → new ≡ set old i y → new ≡ map (low_bits ty) (take (i + 1) ws) ++ drop (i + 1) ws
low_more ty ws old seen new i y l o es ey b =
    let w : ℕ = get_or ws i 0 in
    let front : List ℕ = map (low_bits ty) (take i ws) in
    let rest : List ℕ = drop (i + 1) ws in
    let long : length front ≡ i = length-map (take i ws) (low_bits ty) ∙ length-take-le i ws (omega (arith, l)) in
    let split : old ≡ front ++ w ∷ rest = o ∙ ap (λ z. front ++ z) (drop_more ws i 0 l) in
    let here : get_or seen i 0 ≡ w = ap (λ z. get_or z i 0) (es ∙ split) ∙ get_or_at front w rest 0 i long in
    b ∙ ap (λ z. set z i y) split ∙ set_at front w rest y i long
    ∙ ap (λ z. front ++ z ∷ rest) (ey ∙ ap (low_bits ty) here)
    ∙ sym (append_assoc front (low_bits ty w ∷ []) rest)
    ∙ ap (λ z. z ++ rest) (sym (map-append (low_bits ty) (take i ws) (w ∷ [])) ∙ ap (map (low_bits ty)) (sym (take_more ws i 0 l)))

pub low_end : (ty : ScalarType) (ws new : List ℕ) (i : ℕ) → length ws ≤ i → new ≡ map (low_bits ty) (take i ws) ++ drop i ws → new ≡ map (low_bits ty) ws
low_end ty ws new i l o = o ∙ ap (λ z. map (low_bits ty) z ++ drop i ws) (take_all i ws l) ∙ ap (λ z. map (low_bits ty) ws ++ z) (drop_all i ws l) ∙ append-nil (map (low_bits ty) ws)

-- ---- answers

pub scalar_given : {E : Type 0} (s : Blocks) (h : Held) (a : Scalar) (r : Result Value E) → h ≡ held.Scalar a → IfOk r (λ v. datum_of v ≡ Scalar_datum a) → IfOk r IsWellFormed → IfOk r (λ v. v ≡ value_held s h)
scalar_given s h a (Ok v) e d f = only_scalar v a f d ∙ ap (value_held s) (sym e)
scalar_given s h a (Err e') e d f = tt

pub array_stored : (old new : Blocks) (v : View) (value : Value) (words : List ℕ) → IsWellFormed value → weight_of value.shape.sizes ≤ greatest_weight → v.offset ≡ 0 → v.strides ≡ strides_of value.shape.sizes → v.shape ≡ value.shape.sizes → words ≡ value.words → new ≡ with_block old v.block (In words) → (value_held new (held.Array v value.shape.elem) ≡ value) × (IsWithin new v × IsSized v)
array_stored old new v value words f light eo er eh ew ep =
    let at : words_at new v.block ≡ value.words = ap (λ (z : Blocks). words_at z v.block) ep ∙ ap words_in (placed_at old.blocks v.block.0 (In words)) ∙ ew in
    array_put new v value.shape.elem value f light refl (is_whole v v.block value.shape.sizes refl eo er eh) at
