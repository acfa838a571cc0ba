-- A program is measured with the sizing that its tables tell.
use Rattle.std.proofs.Common.{◌≡◌, ℕ, length, subst, List, Bor}
use Rattle.std.specs.Prelude.{Option, Some}
use Rattle.fut_scalar.specs.declared.place.BindId.{BindId}
use Rattle.fut_scalar.specs.declared.sizes.DataType.{DataType}
use Rattle.fut_flat.specs.declared.program.Flat.{Flat}
use Rattle.fut_meaning.specs.Comes.{Program_lost}
use Rattle.fut_meaning.specs.Flats.{flat_tops, named_terms}
use Rattle.fut_meaning.specs.Found.{Sizing}
use Rattle.told_rows.specs.Tables.{Tells, Told_by}
use Rattle.told_rows.specs.declared.tables.Sizes.{Sizes}

module _ (s : Bor Sizes) (flat : Flat) (entry : BindId) (params : List DataType) (count : ℕ) (e : count ≡ length params) where
  -- what the measure asks, where one sizing is told
  pub found_by : (Z : Sizing) × Tells s.now Z × (Program_lost (Some Z) entry.0 (length params) (flat_tops 0 (named_terms flat)) → ⊥) → (z : Option Sizing) × Told_by (Some s) z × (Program_lost z entry.0 count (flat_tops 0 (named_terms flat)) → ⊥)
  found_by f = (Some f.0, f.1, λ lost. f.2 (subst (λ n. Program_lost (Some f.0) entry.0 n (flat_tops 0 (named_terms flat))) e lost))
