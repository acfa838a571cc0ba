-- The names of parts leave a lambda, a parameter after another.
use Rattle.std.proofs.Common.{◌≡◌, ℕ, ◌+◌, ◌<◌, ◌≤◌, Bool, true, false, cond, List, length, get_or, drop, Result, Err, refl, sym, ap, ◌∙◌, subst}
use Rattle.std.proofs.lemmas.List.{at_drop_more}
use Rattle.std.specs.Borrow.{Bor}
use Rattle.sized_types.specs.Sizes.{Size, has}
use Rattle.fut_sizes.specs.Agreeing.{Escapes, leaving, names_one}
use Rattle.fut_sizes.specs.Sizing.{leaving_function}
use Rattle.size_arena.specs.declared.agreeing.Refusal.TheVariants as refusal
use Rattle.size_arena.specs.declared.agreeing.SizeErr.{SizeErr}
use Rattle.size_arena.specs.declared.agreeing.SizeErr.TheVariants as size_err
use Rattle.size_arena.specs.declared.trees.SizeTree.{SizeTree}
use Rattle.size_arena.specs.Answers.{Gives, refuses}
use Rattle.size_arena.specs.Trees.{size_of}
use Rattle.size_arena.proofs.Parts.{drop_past}
use Rattle.size_functions.specs.declared.takings.Taking.{Taking}
use Rattle.size_functions.specs.Takings.{takings_of}

-- the answer is that of the parameters from one on
abbrev pub So_left : ℕ → List ℕ → Size → List Taking → ℕ → Type 0
So_left n xs t ps at = leaving_function n xs (takings_of ps) t ≡ leaving_function n xs (takings_of (drop at ps)) t

module _ (n : ℕ) (xs : List ℕ) (t : Size) (ps : List Taking) (at : ℕ) (far : So_left n xs t ps at) where
  module _ (p : Taking) (l : at < length ps) (b : Bool) (test : b ≡ has (names_one xs) (size_of (get_or ps at p).size.now)) where
    one_left : leaving_function n xs (takings_of ps) t ≡ cond b (Err (Escapes n)) (leaving_function n xs (takings_of (drop (at + 1) ps)) t)
    one_left = far ∙ at_drop_more (λ z. leaving_function n xs (takings_of z) t) ps at p l ∙ ap (λ z. cond z (Err (Escapes n)) (leaving_function n xs (takings_of (drop (at + 1) ps)) t)) (sym test)

    pub part_free : b ≡ false → So_left n xs t ps (at + 1)
    part_free is = one_left ∙ ap (λ z. cond z (Err (Escapes n)) (leaving_function n xs (takings_of (drop (at + 1) ps)) t)) is

    pub part_named : b ≡ true → Gives (leaving_function n xs (takings_of ps) t) (Err (size_err.Refused (refusal.Escapes n)))
    part_named is = refuses (one_left ∙ ap (λ z. cond z (Err (Escapes n)) (leaving_function n xs (takings_of (drop (at + 1) ps)) t)) is)

  pub parts_over : length ps ≤ at → (r : Result (Bor SizeTree) SizeErr) → Gives (leaving n xs t) r → Gives (leaving_function n xs (takings_of ps) t) r
  parts_over l r given = subst (λ z. Gives z r) (sym (far ∙ ap (λ z. leaving_function n xs (takings_of z) t) (drop_past ps at l))) given

pub parts_begin : (n : ℕ) (xs : List ℕ) (t : Size) (ps : List Taking) → So_left n xs t ps 0
parts_begin n xs t ps = refl

pub ruleset leaves_parts = (parts_begin)
