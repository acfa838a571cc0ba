-- What a result is, and what it is not.
use Rattle.std.proofs.Common.{◌≡◌, Result, Ok, Err}
use Rattle.std.specs.Prelude.{IfOk, OnOk}
use Rattle.fut_sizes.specs.Agreeing.{Answer}
use Rattle.size_arena.specs.declared.agreeing.SizeErr.{SizeErr}
use Rattle.size_program.specs.Answers.{Answers, answers, refuses, no_memory}
use Rattle.size_program.proofs.StepLaws.{err_in, ok_in}

module _ {A : Type 0} where
  pub no_err : (x : SizeErr) (u : A) → err_in A SizeErr x ≡ ok_in A SizeErr u → ⊥
  no_err x u e = cc

  pub no_ok : (x : SizeErr) (u : A) → ok_in A SizeErr u ≡ err_in A SizeErr x → ⊥
  no_ok x u e = cc

  pub same_err : (x y : SizeErr) → err_in A SizeErr x ≡ err_in A SizeErr y → x ≡ y
  same_err x y e = cc

pub if_ok : {A E : Type 0} {P Q : A → Type 0} (r : Result A E) → ((x : A) → P x → Q x) → IfOk r P → IfOk r Q
if_ok (Ok x) f h = f x h
if_ok (Err e) f h = tt

pub on_ok : {A E P Q : Type 0} (r : Result A E) → (P → Q) → OnOk r P → OnOk r Q
on_ok (Ok x) f h = f h
on_ok (Err e) f h = tt

-- an answer, said otherwise
pub answers_as : {A B : Type 0} (R Q : B → A → Type 0) (a : Answer A) (r : Result B SizeErr) → ((x : B) (y : A) → R x y → Q x y) → Answers R a r → Answers Q a r
answers_as R Q a (Ok x) h (answers {y = y} p so) = answers p (h x y so)
answers_as R Q a (Err e) h (refuses p) = refuses p
answers_as R Q a (Err e) h no_memory = no_memory
