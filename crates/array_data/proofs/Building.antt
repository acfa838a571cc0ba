-- Rows that are put together.
use Rattle.std.proofs.Common.{◌≡◌, ℕ, zero, suc, ◌+◌, ◌<◌, ◌≤◌, List, [], ◌∷◌, ◌++◌, map, length, get_or, take, drop, slice_get, Some, Ok, Err, Result, Bool, true, false, refl, sym, ap, ◌∙◌, subst, arith, add-one, append_assoc}
use Rattle.fut_scalar.specs.declared.scalar.Scalar.{Scalar}
use Rattle.fut_scalar.specs.declared.scalar.Scalar.TheVariants as scalar
use Rattle.fut_scalar.specs.declared.scalar.ScalarType.{ScalarType}
use Rattle.fut_arithmetic.specs.Types.{type_of}
use Rattle.fut_arithmetic.specs.Words.{scalar_of_word, word_of}
use Rattle.fut_value.specs.Data.{Datum, Scalar_datum}
use Rattle.std.proofs.lemmas.List.{append-nil, length-append}
use Rattle.array_data.specs.declared.built.Built.{Built}
use Rattle.array_data.specs.declared.data.Data.{Data}
use Rattle.array_data.specs.declared.data.Data.TheVariants as hold
use Rattle.array_data.specs.declared.stop.Stop.TheVariants.{Memory}
use Rattle.array_data.specs.Answers.{Added, added, not_added}
use Rattle.array_data.specs.Held.{fitted, scalars, held, held_all, built_rows}
use Rattle.array_data.proofs.Holding.{held_scalar}
use Rattle.array_data.proofs.Forms.{map_push, length_scalars, held_length}

pub built_none : (t : ScalarType) (ws : List ℕ) (ds : List Data) → ws ≡ [] → ds ≡ [] → scalars t ws ++ held_all ds ≡ []
unfolding scalars held_all
built_none t ws ds e q = rw (e, q) refl

pub built_new : (b : Built) → b.words ≡ [] → b.rows ≡ [] → built_rows b ≡ []
unfolding built_rows
built_new b e q = built_none b.ty b.words b.rows e q

pub push_other : (b c : Built) (d : Data) → c.ty ≡ b.ty → c.words ≡ b.words → c.rows ≡ b.rows ++ d ∷ [] → Added (held d) (built_rows b) (built_rows c) (Ok tt)
unfolding built_rows held_all
push_other b c d e q p = added (ap (λ z. scalars z c.words ++ held_all c.rows) e ∙ ap (λ z. scalars b.ty z ++ held_all c.rows) q ∙ ap (λ z. scalars b.ty b.words ++ held_all z) p
    ∙ ap (λ z. scalars b.ty b.words ++ z) (map_push held b.rows d) ∙ sym (append_assoc (scalars b.ty b.words) (held_all b.rows) (held d ∷ [])))

pub word_back : (s : Scalar) → scalar_of_word (type_of s) (word_of s) ≡ fitted s
word_back (scalar.Int t n) = refl
word_back (scalar.Bool true) = refl
word_back (scalar.Bool false) = refl

pub push_scalar : (b c : Built) (s : Scalar) (w : ℕ) → b.rows ≡ [] → scalars b.ty b.words ≡ scalars (type_of s) b.words → c.ty ≡ type_of s → c.words ≡ b.words ++ w ∷ [] → w ≡ word_of s → c.rows ≡ b.rows → Added (held (hold.Scalar s)) (built_rows b) (built_rows c) (Ok tt)
unfolding built_rows scalars held_all
push_scalar b c s w e q t x f g =
    let p : c.rows ≡ [] = g ∙ e in
    added (rw (p, t, x, e) (ap (λ z. z ++ []) (map_push (λ w. Scalar_datum (scalar_of_word (type_of s) w)) b.words w) ∙ append-nil (scalars (type_of s) b.words ++ Scalar_datum (scalar_of_word (type_of s) w) ∷ [])
    ∙ ap (λ z. z ++ Scalar_datum (scalar_of_word (type_of s) w) ∷ []) (sym q)
    ∙ ap (λ z. scalars b.ty b.words ++ z ∷ []) (ap (λ z. Scalar_datum (scalar_of_word (type_of s) z)) f ∙ ap Scalar_datum (word_back s) ∙ sym (held_scalar s))
    ∙ ap (λ z. z ++ held (hold.Scalar s) ∷ []) (sym (append-nil (scalars b.ty b.words)))))

pub no_words : (t u : ScalarType) (ws : List ℕ) → length ws ≡ 0 → scalars t ws ≡ scalars u ws
unfolding scalars
no_words t u [] e = refl
no_words t u (w ∷ ws) e = absurd (omega arith)

pub no_rows : {A : Type 0} (ds : List A) → length ds ≤ 0 → ds ≡ []
no_rows [] l = refl
no_rows (d ∷ ds) l = absurd (omega arith)

pub ruleset building = (built_new, push_other, push_scalar, no_words, no_rows, not_added)

pub built_length : (b : Built) (n : ℕ) → n ≡ length b.words + length b.rows → n ≡ length (built_rows b)
unfolding built_rows
built_length b n e = e ∙ ap (λ z. z + length b.rows) (sym (length_scalars b.ty b.words)) ∙ ap (λ z. length (scalars b.ty b.words) + z) (sym (held_length b.rows)) ∙ sym (length-append (scalars b.ty b.words) (held_all b.rows))

pub ruleset lengths = (built_length)
