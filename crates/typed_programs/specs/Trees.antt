-- Trees that have only forms that are built, as terms and as code holds them.
use Rattle.std.specs.Prelude.{◌≤◌, ℕ}
use Rattle.fut_flat.specs.declared.act.Act.{Act}
use Rattle.fut_flat.specs.declared.exp.Exp.{Exp}
use Rattle.fut_flat.specs.declared.exp.Let.{Let as LetTree}
use Rattle.fut_flat.specs.declared.exp.Loop.{Loop as LoopTree}
use Rattle.fut_flat.specs.declared.exp.LoopForm.{LoopForm}
use Rattle.fut_flat.specs.declared.program.Definition.{Definition}
use Rattle.fut_flat.specs.Erased.{FlatTerm, FlatTurns, operation_of, term_of}
use Rattle.fut_flat.proofs.ErasedForms.{loop_of, turns_of}
use Rattle.type_soundness.specs.Meant.{Operation_meant}
use Rattle.type_soundness.specs.Formed.{Formed, Turns_formed}

unfoldable pub Is_digit : ℕ → Type 0
Is_digit c = (48 ≤ c) × (c ≤ 57)

-- any name may be used
abbrev pub any : ℕ → Type 0
any k = Unit {0}

abbrev pub Term_built : FlatTerm → Type 0
Term_built t = Formed any t

abbrev pub Turns_built : FlatTurns → Type 0
Turns_built t = Turns_formed any t

-- ---- trees

-- with so many parts
unfoldable pub Act_built : Act → ℕ → Type 0
Act_built a n = Operation_meant (operation_of a) n

unfoldable pub Exp_built : Exp → Type 0
Exp_built e = Term_built (term_of e)

unfoldable pub Let_built : LetTree → Type 0
Let_built l = Exp_built l.value

unfoldable pub Loop_built : LoopTree → Type 0
Loop_built l = Term_built (loop_of l)

unfoldable pub Loop_turns_built : LoopForm → Type 0
Loop_turns_built t = Turns_built (turns_of t)

unfoldable pub Definition_built : Definition → Type 0
Definition_built d = Exp_built d.value.now
