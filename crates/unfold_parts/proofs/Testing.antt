-- The step that tests whether data has the sizes that it has to have.
use Rattle.std.proofs.Common.{◌≡◌, ℕ, ◌++◌, List, [], ◌∷◌, Ok, Err, sym, ap, ◌∙◌, subst}
use Rattle.std.specs.Borrow.{Bor}
use Rattle.fut_scalar.specs.declared.place.Place.{Place}
use Rattle.fut_blocks.proofs.Layers.{action_of-Coerce, binding_of-made}
use Rattle.fut_blocks.specs.declared.block.Act.TheVariants as act
use Rattle.fut_blocks.specs.declared.block.Step.{roll-Step}
use Rattle.fut_blocks.specs.declared.row.RowShape.{RowShape}
use Rattle.fut_blocks.specs.declared.row.SizeTest.{SizeTest}
use Rattle.fut_blocks.specs.Plain.{Action, Coerce, action_of, binding_of}
use Rattle.fut_blocks.specs.Rows.{row_of, test_of}
use Rattle.unfold.specs.Held.{known_of}
use Rattle.unfold.specs.Telling.{known_row}
use Rattle.unfold.specs.Unfolding.{Bindings, step}
use Rattle.unfold.specs.declared.known.Known.{Known as Held_known}
use Rattle.unfold_parts.specs.Answers.{answered, unanswered, Pushed, pushed, not_pushed, Tested_to, is_tested}
use Rattle.unfold_parts.specs.Refused.{no_memory}
use Rattle.unfold_parts.specs.declared.refusal.Refusal.{Refusal}

module _ (test : Bor SizeTest) (at : Place) (s : Held_known) (n next : ℕ) (before after : Bindings) where
  pub tested_ok : (row : Bor RowShape) (none : Bor (List ℕ)) (x : Unit {0}) → row_of row.now ≡ known_row (known_of s) → none.now ≡ [] → Pushed (binding_of (roll-Step record { names = none; act = act.Coerce at test row })) before after (Ok x) → next ≡ n → Tested_to (test_of test.now) at (known_of s) n before after next (Ok s)
  tested_ok row none x is k (pushed h) q =
      subst (λ z. Tested_to (test_of test.now) at (known_of s) n before after z (Ok s)) (sym q)
      (answered (step [] (Coerce at (test_of test.now) (known_row (known_of s))))
      (h ∙ ap (λ z. before ++ z ∷ []) (binding_of-made (record { names = none; act = act.Coerce at test row }) ∙ ap (λ z. (z, action_of (act.Coerce at test row))) k ∙ ap (λ z. ([], z)) (action_of-Coerce at test row ∙ ap (Coerce at (test_of test.now)) is)))
      is_tested)

  pub tested_err : {b : List ℕ × Action} {between later : Bindings} (x : Refusal) → Pushed b between later (Err x) → Tested_to (test_of test.now) at (known_of s) n before after next (Err x)
  tested_err _ not_pushed = unanswered no_memory
