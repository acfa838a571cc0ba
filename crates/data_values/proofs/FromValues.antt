-- Values as data.
use Rattle.std.proofs.Common.{◌≡◌, ℕ, zero, suc, ◌+◌, ◌-◌, ◌*◌, ◌<◌, ◌≤◌, List, [], ◌∷◌, ◌++◌, map, length, take, drop, get_or, min, append_assoc, Result, Ok, refl, sym, ap, ◌∙◌, arith}
use Rattle.fut_scalar.specs.declared.scalar.Scalar.{Scalar}
use Rattle.fut_scalar.specs.declared.scalar.Scalar.TheVariants as scalar
use Rattle.fut_scalar.specs.declared.scalar.ScalarType.{ScalarType}
use Rattle.fut_scalar.specs.declared.scalar.ScalarType.TheVariants as sort
use Rattle.fut_arithmetic.specs.Words.{scalar_of_word}
use Rattle.fut_value.specs.Data.{Datum, Scalar_datum, Array_datum, Scalar_shape, datums}
use Rattle.fut_value.specs.Values.{product, cut, datum_with}
use Rattle.array_data.specs.declared.data.Data.TheVariants as hold
use Rattle.array_data.specs.declared.stop.Stop.{Stop}
use Rattle.array_data.specs.Answers.{Added, added, not_added}
use Rattle.array_data.specs.Held.{fitted, held, scalars}
use Rattle.array_data.proofs.Holding.{held_scalar, held_words}

-- a scalar of a word has no bits to lose
pub refitted : (t : ScalarType) (w : ℕ) → fitted (scalar_of_word t w) ≡ scalar_of_word t w
refitted (sort.Int t) w = ap (scalar.Int t) (Rattle.std.proofs.Math.Nat.mod-mod w _)
refitted sort.Bool w = refl

pub scalar_taken : (t : ScalarType) (ns ws : List ℕ) (s : Scalar) → length ns ≡ 0 → 1 ≤ length ws → s ≡ scalar_of_word t (get_or ws 0 0) → held (hold.Scalar s) ≡ datum_with t ns ws
scalar_taken t [] [] s e l is = absurd (omega (arith, l))
scalar_taken t [] (w ∷ ws) s e l is = held_scalar s ∙ ap (λ z. Scalar_datum (fitted z)) is ∙ ap Scalar_datum (refitted t w)
scalar_taken t (n ∷ ns) ws s e l is = absurd (omega (arith, e))

pub no_word_taken : (t : ScalarType) (ns ws : List ℕ) (s : Scalar) → length ns ≡ 0 → length ws ≡ 0 → s ≡ scalar_of_word t 0 → held (hold.Scalar s) ≡ datum_with t ns ws
no_word_taken t [] [] s e l is = held_scalar s ∙ ap (λ z. Scalar_datum (fitted z)) is ∙ ap Scalar_datum (refitted t 0)
no_word_taken t [] (w ∷ ws) s e l is = absurd (omega (arith, l))
no_word_taken t (n ∷ ns) ws s e l is = absurd (omega (arith, e))

pub part_taken : (t : ScalarType) (ns ws : List ℕ) (d : Datum) → 1 ≤ length ns → d ≡ datum_with t (get_or ns 0 0 ∷ drop 1 ns) ws → d ≡ datum_with t ns ws
part_taken t [] ws d l is = absurd (omega (arith, l))
part_taken t (n ∷ ns) ws d l is = is

-- as many words as there are
take_least : (p k : ℕ) (ws : List ℕ) → k ≡ min p (length ws) → take p ws ≡ take k ws
take_least zero zero ws e = refl
take_least zero (suc k) ws e = absurd (omega (arith, e))
take_least (suc p) zero [] e = refl
take_least (suc p) (suc k) [] e = absurd (omega (arith, e))
take_least (suc p) zero (w ∷ ws) e = absurd (omega (arith, e))
take_least (suc p) (suc k) (w ∷ ws) e = ap (λ z. w ∷ z) (take_least p k ws (omega (arith, e)))

drop_least : (p k : ℕ) (ws : List ℕ) → k ≡ min p (length ws) → drop p ws ≡ drop k ws
drop_least zero zero ws e = refl
drop_least zero (suc k) ws e = absurd (omega (arith, e))
drop_least (suc p) zero [] e = refl
drop_least (suc p) (suc k) [] e = absurd (omega (arith, e))
drop_least (suc p) zero (w ∷ ws) e = absurd (omega (arith, e))
drop_least (suc p) (suc k) (w ∷ ws) e = drop_least p k ws (omega (arith, e))

-- one row more
cut_more : (t : ScalarType) (ns : List ℕ) (n m p k : ℕ) (ws : List ℕ) → n ≡ suc m → k ≡ min p (length ws) → map (datum_with t ns) (cut n p ws) ≡ datum_with t ns (take k ws) ∷ map (datum_with t ns) (cut m p (drop k ws))
cut_more t ns n m p k ws c e = ap (λ z. map (datum_with t ns) (cut z p ws)) c ∙ ap (λ z. datum_with t ns z ∷ map (datum_with t ns) (cut m p (drop p ws))) (take_least p k ws e) ∙ ap (λ z. datum_with t ns (take k ws) ∷ map (datum_with t ns) (cut m p z)) (drop_least p k ws e)

was_added : {d : Datum} {ds ds' : List Datum} {r : Result (Unit {0}) Stop} (u : Unit {0}) → r ≡ Ok u → Added d ds ds' r → ds' ≡ ds ++ d ∷ []
was_added u is (added e) = e
was_added u is not_added = absurd (cc)

pub rows_more : (t : ScalarType) (ns : List ℕ) (count counter p k : ℕ) (rest after : List ℕ) (built built' all : List Datum) (d : Datum) (r : Result (Unit {0}) Stop) (u : Unit {0}) → counter < count → k ≡ min p (length rest) → r ≡ Ok u → Added d built built' r → d ≡ datum_with t ns (take k rest) → after ≡ drop k rest → built ++ map (datum_with t ns) (cut (count - counter) p rest) ≡ all → built' ++ map (datum_with t ns) (cut (count - (counter + 1)) p after) ≡ all
rows_more t ns count counter p k rest after built built' all d r u l e ok b is behind a =
    let later = map (datum_with t ns) (cut (count - (counter + 1)) p (drop k rest)) in
    ap (λ z. built' ++ map (datum_with t ns) (cut (count - (counter + 1)) p z)) behind ∙ ap (λ z. z ++ later) (was_added u ok b) ∙ append_assoc built (d ∷ []) later ∙ ap (λ z. built ++ z ∷ later) is ∙ ap (λ z. built ++ z) (sym (cut_more t ns (count - counter) (count - (counter + 1)) p k rest (omega (arith, l)) e)) ∙ a

-- words of one level
pub row_cut : (t : ScalarType) (ws : List ℕ) → map (datum_with t []) (cut (length ws) 1 ws) ≡ scalars t ws
unfolding scalars
row_cut t [] = refl
row_cut t (w ∷ ws) = ap (λ z. Scalar_datum (scalar_of_word t w) ∷ z) (row_cut t ws)

pub row_taken : (t : ScalarType) (ns ws : List ℕ) → length ns ≡ 1 → length ws ≡ product ns → held (hold.Words t ws) ≡ datum_with t ns ws
row_taken t [] ws e l = absurd (omega (arith, e))
row_taken t (n ∷ []) ws e l = held_words t ws ∙ ap (λ z. Array_datum (Scalar_shape t) (datums z)) (sym (row_cut t ws) ∙ ap (λ k. map (datum_with t []) (cut k 1 ws)) (let h : length ws ≡ n * 1 = l in omega (arith, h)))
row_taken t (n ∷ m ∷ ns) ws e l = absurd (omega (arith, e))

pub ruleset words_taken = (row_taken)

pub row_copied : (t : ScalarType) (ns ws vs : List ℕ) → 1 ≤ length ns → length ns < 2 → length ws ≡ get_or ns 0 0 → vs ≡ ws → held (hold.Words t vs) ≡ datum_with t ns ws
row_copied t [] ws vs l m e is = absurd (omega (arith, l))
row_copied t (n ∷ []) ws vs l m e is = ap (λ z. held (hold.Words t z)) is ∙ row_taken t (n ∷ []) ws refl (let h : length ws ≡ n * 1 = omega (arith, e) in h)
row_copied t (n ∷ k ∷ ns) ws vs l m e is = absurd (omega (arith, m))

pub ruleset parts_taken = (scalar_taken, no_word_taken, part_taken, row_copied)
