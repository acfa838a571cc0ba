-- A lambda that is an argument, with what is wanted of it.
use Rattle.std.proofs.Common.{◌≡◌, ℕ, Bool, [], Option, Some, Result, Ok, Err, refl, subst}
use Rattle.std.specs.Borrow.{Bor}
use Rattle.fut_flat.specs.declared.exp.Exp.{Exp}
use Rattle.fut_types.specs.Types.{Sub}
use Rattle.fut_typing.specs.Names.{Names}
use Rattle.fut_sizes.specs.Applications.{Met, Want, Wanting}
use Rattle.fut_sizes.specs.Matching as matching
use Rattle.fut_sizes.specs.Matching.{made_at}
use Rattle.fut_sizes.specs.Steps.{Step}
use Rattle.size_arena.specs.declared.agreeing.SizeErr.{SizeErr}
use Rattle.size_arena.specs.declared.trees.SizeTree.{SizeTree}
use Rattle.size_program.specs.declared.maps.NumberMap.{NumberMap}
use Rattle.size_program.specs.declared.tables.Tables.{Tables}
use Rattle.size_program.specs.Answers.{Steps}
use Rattle.size_slots.specs.declared.slots.Found.{Found}
use Rattle.size_slots.specs.Held.{Holds}
use Rattle.size_applying.specs.declared.arguments.Argument.TheVariants as argument
use Rattle.size_applying.specs.declared.arguments.Wanting as wantings
use Rattle.size_applying.specs.Wanted.{Waits, Wants, function_taken, wish}
use Rattle.size_applying.proofs.FunctionLaws.{Sized_late, late_is, late_stop, late_taken}
use Rattle.size_applying.proofs.WayLaws.{matched_by}
use Rattle.size_walk.specs.Walked.{Lambda_met}

module _ (N : Names) (types : Sub) (regular : Bool) (c : wantings.Wanting) (w : Wanting) (wants : Wants N types c w) (σ : matching.Found) (e : Bor Exp) (m : ℕ) (names : Bor NumberMap) (is : c.argument ≡ argument.Late e m names) (table : Found) (g h : Tables) where
  abbrev pub Sizing : Want → Result (Bor SizeTree) SizeErr → Type 0
  Sizing want k = (f : Option Want → matching.Found → Step Met) → Waits N types e.now m names.now [] f → Steps (Lambda_met table) (f (Some want) (made_at w.node σ)) g h k

  the_lambda : Sized_late N types e.now m names.now w.argument
  the_lambda = late_is N types e m names w.argument c.argument is wants.argument

  as_wished : (want : Want) → want ≡ wish regular w σ → {k : Result (Bor SizeTree) SizeErr} → Sizing want k → Steps (Lambda_met table) (the_lambda.sizing (Some (wish regular w σ)) (made_at w.node σ)) g h k
  as_wished want same {k = k} sizes = subst (λ z. Steps (Lambda_met table) (the_lambda.sizing (Some z) (made_at w.node σ)) g h k) same (sizes the_lambda.sizing the_lambda.waits)

  pub lambda_not_met : (x : SizeErr) (want : Want) → want ≡ wish regular w σ → Sizing want (Err x) → Steps (matched_by table) (function_taken regular w σ) g h (Err x)
  lambda_not_met x want same sizes = late_stop N types regular c w wants σ the_lambda.sizing m the_lambda.is (Lambda_met table) table g h (Err x) (as_wished want same sizes) x refl

  pub lambda_met : (t : Bor SizeTree) (want : Want) → want ≡ wish regular w σ → Sizing want (Ok t) → Steps (matched_by table) (function_taken regular w σ) g h (Ok tt)
  lambda_met t want same sizes = late_taken N types regular c w wants σ the_lambda.sizing m the_lambda.is (Lambda_met table) table g h (Ok t) (as_wished want same sizes) t refl (λ (k : Met) met. met.found)

-- what is wanted is sized at what its application makes
pub made_where : (c : wantings.Wanting) (w : Wanting) → c.node ≡ w.node → (σ : matching.Found) (table : Found) → Holds table (made_at c.node σ) → Holds table (made_at w.node σ)
made_where c w same σ table held = subst (λ z. Holds table (made_at z σ)) same held
