-- How deep data says that it is at most.
use Rattle.std.specs.Prelude.{ℕ, ◌+◌, ◌-◌, max, cond, nat_eq, length, List, [], ◌∷◌}
use Rattle.array_data.specs.declared.built.Built.{Built}
use Rattle.array_data.specs.declared.data.Data.{Data, Data-F, fold-Data, out-Data}

-- no data says that it is deeper
abbrev pub most_deep : ℕ
most_deep = 1000

unfoldable pub depth_step : Data-F ℕ → ℕ
depth_step (Data-F.Scalar s) = 0
depth_step (Data-F.Words t ws) = 1
depth_step (Data-F.Rows n h rows) = n
depth_step (Data-F.Tuple n parts) = n
depth_step (Data-F.Record n fs parts) = n

unfoldable pub depth_told : Data → ℕ
depth_told = fold-Data ℕ depth_step

unfoldable pub row_depth_step : Data-F ℕ → ℕ
row_depth_step (Data-F.Scalar s) = 0
row_depth_step (Data-F.Words t ws) = 0
row_depth_step (Data-F.Rows n h rows) = n - 1
row_depth_step (Data-F.Tuple n parts) = 0
row_depth_step (Data-F.Record n fs parts) = 0

-- of the rows of an array
unfoldable pub row_depth_told : Data → ℕ
row_depth_told = fold-Data ℕ row_depth_step

abbrev pub open_parts : Data-F Data → List Data
open_parts (Data-F.Scalar s) = []
open_parts (Data-F.Words t ws) = []
open_parts (Data-F.Rows n h rows) = rows
open_parts (Data-F.Tuple n parts) = parts
open_parts (Data-F.Record n fs parts) = parts

-- the rows of an array, or the parts of a tuple or a record
unfoldable pub parts_in : Data → List Data
parts_in d = open_parts (out-Data d)

-- the greatest of these, and of a first one
unfoldable pub deepest : ℕ → List Data → ℕ
deepest n [] = n
deepest n (d ∷ ds) = deepest (max n (depth_told d)) ds

-- how deep an array of rows that were put together says that it is, where its rows may make it so deep: words are 1 deep
unfoldable pub built_depth : ℕ → Built → ℕ
built_depth n b = cond (nat_eq (length b.words) 0) n 1

-- the same of any rows that were put together: one more than the deepest of them, and than a depth
unfoldable pub depth_of_rows : ℕ → Built → ℕ
depth_of_rows n b = built_depth (deepest n b.rows + 1) b
