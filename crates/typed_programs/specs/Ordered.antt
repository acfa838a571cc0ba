-- Labels in the order of their names. A record's labels rise, so then its parts stand in the order of its names, and names and
-- records can be numbered in order.
use Rattle.std.specs.Prelude.{◌≡◌, ℕ, suc, ◌<◌, true, List, [], length, slice_index_or, Some}
use Rattle.fut_ast.specs.Sorts.{Text}
use Rattle.fut_types.specs.Shapes.{label_at}
use Rattle.fut_typing.specs.Names.{Names, AreNames}
use Rattle.type_rules.specs.declared.labels.Labels.{Labels}
use Rattle.type_rules.specs.Labels.{number_of}
use Rattle.type_scopes.specs.declared.Inference.{Inference}
use Rattle.sizing_laws.specs.Order.{is_before, In_order}

pub record Is_ordered (i : Inference) : Type 0 where
  -- each label of a record is that of a name in hand
  pub known : (k : ℕ) → k < length i.table.labels → label_at i.table.labels k < length i.table.positions
  -- a name with a higher number comes later
  pub rises : (s t : Text) (m n : ℕ) → number_of i.labels s ≡ Some m → number_of i.labels t ≡ Some n → m < n → is_before s t ≡ true

-- names and records can be numbered in order so that this holds
abbrev pub Some_order : (Names → Type 0) → Type 0
Some_order P = (N : Names) × AreNames N × In_order N × P N

-- ---- what tests show

abbrev pub name_at : List Text → ℕ → Text
name_at names k = slice_index_or names k []

-- each name has the number of its place
abbrev pub Numbered_so : Labels → List Text → Type 0
Numbered_so labels names = (k : ℕ) → k < length names → number_of labels (name_at names k) ≡ Some k

-- each name stands behind the one before it
abbrev pub Rise_so : List Text → Type 0
Rise_so names = (k : ℕ) → suc k < length names → is_before (name_at names k) (name_at names (suc k)) ≡ true

-- each label is below this many
abbrev pub Labels_known : List ℕ → ℕ → Type 0
Labels_known labels many = (k : ℕ) → k < length labels → label_at labels k < many
