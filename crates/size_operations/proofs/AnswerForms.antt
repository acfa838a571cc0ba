-- Answers, by what code has.
use Rattle.std.proofs.Common.{◌≡◌, Result, Ok, Err, refl, sym, ap, ◌∙◌, subst}
use Rattle.std.specs.Prelude.{IfOk}
use Rattle.std.specs.Borrow.{Bor}
use Rattle.fut_scalar.specs.declared.memory.NoMemory.{NoMemory}
use Rattle.sized_types.specs.Sizes.{Size}
use Rattle.fut_sizes.specs.Agreeing.{Answer, then_do}
use Rattle.size_arena.specs.declared.agreeing.Refusal.{Refusal}
use Rattle.size_arena.specs.declared.agreeing.SizeErr.{SizeErr}
use Rattle.size_arena.specs.declared.agreeing.SizeErr.TheVariants as size_err
use Rattle.size_arena.specs.declared.trees.SizeTree.{SizeTree}
use Rattle.size_arena.specs.Answers as trees
use Rattle.size_arena.specs.Answers.{told}
use Rattle.size_arena.specs.Trees.{size_of}
use Rattle.size_program.specs.Answers.{Answers, answers, refuses, no_memory}
use Rattle.size_program.proofs.StepLaws.{answered, answered_not}
use Rattle.size_operations.specs.Answers.{Agrees, Sized}

pub sized_ok : (r : Result (Bor SizeTree) NoMemory) (t : Bor SizeTree) → r ≡ Ok t → (y : Size) → IfOk r (λ tree. size_of tree.now ≡ y) → Sized (Ok y) (Ok t)
sized_ok r t is y h = answers refl (sym (subst (λ z. IfOk z (λ tree. size_of tree.now ≡ y)) is h))

module _ (a : Answer (Unit {0})) (r : Result (Unit {0}) Refusal) (h : told r ≡ a) where
  pub agrees_ok : (u : Unit {0}) → r ≡ Ok u → Agrees a (Ok tt)
  agrees_ok u is = answers (sym h ∙ ap told is) refl

  pub agrees_no : (e : Refusal) → r ≡ Err e → Agrees a (Err (size_err.Refused e))
  agrees_no e is = refuses (sym h ∙ ap told is)

pub ruleset agreeing = (agrees_ok, agrees_no)

-- what is said of a tree is said so too
pub from_gives : (a : Answer Size) (r : Result (Bor SizeTree) SizeErr) → trees.Gives a r → Sized a r
from_gives a (Ok t) (trees.gives e) = answers e refl
from_gives a (Err (size_err.Refused x)) (trees.refuses e) = refuses e
from_gives a (Err size_err.Memory) trees.no_memory = no_memory

-- ---- behind an agreement

module _ (a : Answer (Unit {0})) (k : Result (Unit {0}) SizeErr) (first : Agrees a k) where
  pub agreed : {B : Type 0} (b : Answer B) (u : Unit {0}) → k ≡ Ok u → then_do a (λ z. b) ≡ b
  agreed b u is = ap (λ c. then_do c (λ z. b)) (answered (λ (u v : Unit {0}). v ≡ u) a k first u is).is

  pub agreed_not : {A B : Type 0} (Q : B → A → Type 0) (b : Answer A) (x : SizeErr) → k ≡ Err x → Answers Q (then_do a (λ z. b)) (Err x)
  agreed_not Q b x is = answered_not (λ (u v : Unit {0}). v ≡ u) a k first Q (λ z. b) x is
