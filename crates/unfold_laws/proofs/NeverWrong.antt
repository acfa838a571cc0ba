-- What the blocks allow, the program allows, and a typed program never goes wrong.
use Rattle.std.proofs.Common.{ℕ, List, false}
use Rattle.fut_types.specs.Types.{Ty}
use Rattle.fut_typing.specs.Names.{Names}
use Rattle.fut_meaning.specs.Claims.{HasOut, Safe}
use Rattle.fut_meaning.specs.Flats.{FlatValue, FlatMode}
use Rattle.fut_meaning.specs.Found.{Told}
use Rattle.fut_meaning.specs.Meaning.{plain}
use Rattle.fut_meaning.specs.Outcomes.{Out, Rel}
use Rattle.fut_meaning.specs.Sames.{Same_out, same_value, same_report, same_wrong, Right, right}
use Rattle.fut_blocks.specs.Meaning.{Component}
use Rattle.type_soundness.specs.Programs.{Result_fits}
use Rattle.type_soundness.proofs.Programs.{sized_never_wrong}
use Rattle.unfold.specs.Shapes.{Shape, Is_value}
use Rattle.unfold.proofs.Programs.{adds_no_outcome}
use Rattle.unfold_laws.specs.Claims.{Components_fit, BlocksNeverWrong}

module _ (N : Names) (T : Told) (M : FlatMode) (budget : ℕ) (h : Shape) (u : Ty) where
  has_same : {o : Out (List Component)} {o' : Out FlatValue} → Same_out (Is_value h) o o' → HasOut (Result_fits N T M budget false u) o' → HasOut (Components_fit N T M budget h u) o
  has_same (same_value {a' = v} s) k = record { value = v; split = s; fits = k }
  has_same same_report k = tt
  has_same same_wrong k = k

  has_right : {m : Rel FlatValue} (o : Out (List Component)) (f : ℕ) → Safe (Result_fits N T M budget false u) m → Right (Is_value h) m o f → HasOut (Components_fit N T M budget h u) o
  has_right o f safe (right o' x s) = has_same s (safe o' f x)

pub blocks_never_wrong : BlocksNeverWrong
blocks_never_wrong N names places K a T tight budget flat typed entry ts u used hs h p unfolds arguments components split fit o f x =
    has_right N T (plain tight) budget h u o f (sized_never_wrong N names places K a T tight budget flat typed entry ts u _ used fit)
    (adds_no_outcome tight T budget _ entry hs h p unfolds arguments components split o f x)
