-- A function is known by its type: its application has a way on, to what is known by the type of its result.
use Rattle.std.proofs.Common.{◌≡◌, true}
use Rattle.fut_meaning.specs.Found.{Told}
use Rattle.fut_types.specs.Types.{Ty, Kinds, fun_ty}
use Rattle.fut_typing.specs.Names.{Names}
use Rattle.unfold.specs.Knowns.{Known}
use Rattle.unfold.specs.Stuck.{is_function}
use Rattle.unfold_laws.specs.Fits.{World, types_of, Learns, Runs_well, Fits}
use Rattle.unfold_laws.specs.Entered.{All_in_known}
use Rattle.unfold_laws.specs.Typed.{Stands}
use Rattle.unfold_laws.proofs.TypedSteps.{learns_self}

module _ (N : Names) (T : Told) (K : Kinds) where
  abbrev At : World → Ty → Known → Type 0
  At world t s = Fits N T K t world s

  pub fits_function : (t u : Ty) (world : World) (h : Known) → is_function h ≡ true → All_in_known (Stands (types_of N K world.1)) h → ((world' : World) → Learns N K world world' → (s : Known) → At world' t s → Runs_well N K T world' h s (Fits N T K u)) → At world (fun_ty t u) h
  unfolding Fits
  fits_function t u world h e p k = (e, p, k)

  pub function_fits : (t u : Ty) (world : World) (h : Known) → At world (fun_ty t u) h → (s : Known) → At world t s → Runs_well N K T world h s (Fits N T K u)
  unfolding Fits
  function_fits t u world h k s d = k.2 world (learns_self N K world) s d
