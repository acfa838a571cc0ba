-- What ascriptions, coercions and declared results answer.
use Rattle.std.proofs.Common.{◌≡◌, ℕ, suc, ◌+◌, true, false, Some, None, Result, Ok, Err, refl, sym, ap, ◌∙◌, subst}
use Rattle.std.specs.Borrow.{Bor}
use Rattle.fut_flat.specs.Erased.{FlatType}
use Rattle.fut_typing.specs.Names.{Names}
use Rattle.sized_types.specs.Sizes.{Unknown, At, Bound, Size}
use Rattle.fut_sizes.specs.Agreeing.{Answer, then_do}
use Rattle.fut_sizes.specs.WrittenSizes.{ascribed, coerced, coercion, declared, has_sizes, parameter_size, same_dim, with_sizes}
use Rattle.size_arena.specs.declared.agreeing.SizeErr.{SizeErr}
use Rattle.size_arena.specs.declared.agreeing.SizeErr.TheVariants as size_err
use Rattle.size_arena.specs.declared.trees.SizeTree.{SizeTree}
use Rattle.size_arena.specs.Answers.{Gives, gives, refuses, no_memory}
use Rattle.size_arena.specs.Trees.{size_of}
use Rattle.size_program.specs.Answers.{Answers}
use Rattle.size_program.specs.Answers as answer
use Rattle.size_program.proofs.StepLaws.{answered}
use Rattle.size_written.specs.Answers.{Tested}

abbrev Tests : Type 0
Tests = Result (Unit {0}) SizeErr

-- what `Gives` says of one tree, `Answers` says too
pub gives_answers : (a : Answer Size) (r : Result (Bor SizeTree) SizeErr) → Gives a r → Answers (λ (t : Bor SizeTree) y. y ≡ size_of t.now) a r
gives_answers a r (gives e) = answer.answers e refl
gives_answers a r (refuses e) = answer.refuses e
gives_answers a r no_memory = answer.no_memory

-- a test, then a tree; what stops the test is the answer
module _ (a : Answer (Unit {0})) (k : Tests) (first : Tested a k) (b : Answer Size) where
  pub then_gives : (x : Unit {0}) (made : Bor SizeTree) → k ≡ Ok x → b ≡ Ok (size_of made.now) → Gives (then_do a (λ z. b)) (Ok made)
  then_gives x made o e = let d = answered (λ (u v : Unit {0}). Unit {0}) a k first x o in gives (ap (λ z. then_do z (λ y. b)) d.is ∙ e)

  pub then_refuses : (x : SizeErr) → k ≡ Err x → Gives (then_do a (λ z. b)) (Err x)
  then_refuses x o = by_first first o
    where
      ok_test : Unit {0} → Tests
      ok_test y = Ok y

      err_test : SizeErr → Tests
      err_test y = Err y

      never : (y : Unit {0}) → ok_test y ≡ Err x → ⊥
      never y e = cc

      other : (y : SizeErr) → err_test y ≡ Err x → y ≡ x
      other y e = cc

      by_first : {k : Tests} → Tested a k → k ≡ Err x → Gives (then_do a (λ z. b)) (Err x)
      by_first (answer.answers {x = y} p h) is = elim (never y is) [ ]
      by_first (answer.refuses {e = y} p) is = subst (λ z. Gives (then_do a (λ w. b)) (Err z)) (other (size_err.Refused y) is) (refuses (ap (λ z. then_do z (λ w. b)) p))
      by_first answer.no_memory is = subst (λ z. Gives (then_do a (λ w. b)) (Err z)) (other size_err.Memory is) no_memory

-- ---- as the definition has them

module _ (N : Names) (e : FlatType) (t : Size) where
  pub is_coerced : (made : Size) → made ≡ with_sizes N None same_dim 0 e t → made ≡ coerced N e t
  unfolding coerced
  is_coerced made h = h

  pub is_parameter : (made : Size) → made ≡ with_sizes N (Some (λ k i d. d)) same_dim 0 e t → made ≡ parameter_size N same_dim e t
  unfolding parameter_size
  is_parameter made h = h

  module _ (at : ℕ) (k : Tests) where
    module _ (first : Tested (has_sizes N true at e t) k) where
      pub ascribes : (x : Unit {0}) (made : Bor SizeTree) → k ≡ Ok x → t ≡ size_of made.now → Gives (ascribed N at e t) (Ok made)
      unfolding ascribed
      ascribes x made o h = then_gives (has_sizes N true at e t) k first (Ok t) x made o (ap (λ z. Ok z) h)

      pub ascribes_not : (x : SizeErr) → k ≡ Err x → Gives (ascribed N at e t) (Err x)
      unfolding ascribed
      ascribes_not x o = then_refuses (has_sizes N true at e t) k first (Ok t) x o

      module _ (n : ℕ) where
        pub declares : (x : Unit {0}) (made : Bor SizeTree) → k ≡ Ok x → size_of made.now ≡ with_sizes N (Some (λ k i d. Bound 0 (suc k + i))) (λ i d. At (Unknown n i)) 0 e t → Gives (declared N n at e t) (Ok made)
        unfolding declared
        declares x made o h = then_gives (has_sizes N true at e t) k first _ x made o (ap (λ z. Ok z) (sym h))

        pub declares_not : (x : SizeErr) → k ≡ Err x → Gives (declared N n at e t) (Err x)
        unfolding declared
        declares_not x o = then_refuses (has_sizes N true at e t) k first _ x o

    module _ (first : Tested (has_sizes N false at e t) k) where
      pub coerces : (x : Unit {0}) (made : Bor SizeTree) → k ≡ Ok x → size_of made.now ≡ coerced N e t → Gives (coercion N at e t) (Ok made)
      unfolding coercion
      coerces x made o h = then_gives (has_sizes N false at e t) k first (Ok (coerced N e t)) x made o (ap (λ z. Ok z) (sym h))

      pub coerces_not : (x : SizeErr) → k ≡ Err x → Gives (coercion N at e t) (Err x)
      unfolding coercion
      coerces_not x o = then_refuses (has_sizes N false at e t) k first (Ok (coerced N e t)) x o
