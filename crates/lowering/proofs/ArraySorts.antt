-- The sorts of arrays, of what an index takes of them, and of their rows.
use Rattle.std.proofs.Common.{◌≡◌, ℕ, suc, Bool, List, [], ◌∷◌, map, length, refl, sym, ap, ◌∙◌, subst}
use Rattle.std.proofs.lemmas.List.{append-nil}
use Rattle.fut_scalar.specs.declared.scalar.ScalarType.TheVariants as sort
use Rattle.fut_flat.specs.declared.act.Part.{Part}
use Rattle.fut_flat.specs.declared.act.Part.TheVariants as part
use Rattle.fut_value.specs.Data.{Shape}
use Rattle.fut_blocks.specs.declared.block.Atom.{Atom as Source_atom}
use Rattle.core_ir.specs.declared.block.Atom.{Atom}
use Rattle.core_ir.specs.Typed.{Sort, lifted, Bundled, bare, full, Integer, integer, no_integer, integer_and, Each_is, Index_gives, last_row, slice_then, reverse_then, Has_row, its_row, in_row}
use Rattle.core_ir.specs.Typed as typed
use Rattle.lowering.specs.Arrays.{array, Integers, Each_operand, Indexed, Has_rows}
use Rattle.lowering.specs.Arrays as rule
use Rattle.lowering.specs.Knowns.{Scope, bundled, sorts, all_sorts}
use Rattle.lowering.proofs.Types.{sorts_same, sorts_many}

pub bundled_is : (ss : List Sort) → Bundled ss (bundled ss)
bundled_is [] = bare
bundled_is (s ∷ ss) = full

pub array_sorts : (h : Shape) → all_sorts (array h ∷ []) ≡ bundled (sorts h)
unfolding sorts
array_sorts h = append-nil (bundled (sorts h))

pub each_sorts : {sc : Scope} {h : Shape} {us : List Source_atom} {wss : List (List Atom)} → Each_operand sc h us wss → Each_is (sorts h) (map (λ u. sorts h) us)
each_sorts rule.no_more = typed.no_more
each_sorts (rule.and_more p ps) = typed.and_more (each_sorts ps)

pub integers_sorted : {hs : List Shape} → Integers hs → typed.Integers (all_sorts hs)
unfolding sorts
integers_sorted rule.no_integer = no_integer
integers_sorted (rule.integer_and i) = integer_and integer (integers_sorted i)

pub integers_many : {hs : List Shape} → Integers hs → length (all_sorts hs) ≡ length hs
unfolding sorts
integers_many rule.no_integer = refl
integers_many (rule.integer_and i) = ap suc (integers_many i)

-- ---- an index

some_row : {w : ℕ} {p : Part} {ps : List Part} (ss : List Sort) {out : List Sort} → Index_gives w (p ∷ ps) ss out → Index_gives w (part.At ∷ p ∷ ps) (bundled ss) out
some_row (s ∷ ss) i = typed.row_then i
some_row [] (last_row b e) = elim b [ ]

-- where a row has no component, it counts as one array without cells
slice_rows : {w : ℕ} {ps : List Part} (a b : Bool) (ss : List Sort) {out : List Sort} → Index_gives w ps ss out → Index_gives w (part.Slice a b ∷ ps) (bundled ss) (bundled out)
slice_rows a b (s ∷ ss) {out} i = slice_then i (bundled_is out)
slice_rows a b [] typed.at_end = slice_then {s = (sort.Bool, 1)} {ss = []} typed.at_end full
slice_rows a b [] (last_row c e) = elim c [ ]

reverse_rows : {w : ℕ} {ps : List Part} (ss : List Sort) {out : List Sort} → Index_gives w ps ss out → Index_gives w (part.Backwards ∷ ps) (bundled ss) (bundled out)
reverse_rows (s ∷ ss) {out} i = reverse_then i (bundled_is out)
reverse_rows [] typed.at_end = reverse_then {s = (sort.Bool, 1)} {ss = []} typed.at_end full
reverse_rows [] (last_row c e) = elim c [ ]

pub indexed_sorts : {w : ℕ} {ps : List Part} {h k : Shape} → Indexed w ps h k → Index_gives w ps (sorts h) (sorts k)
unfolding sorts
indexed_sorts rule.at_end = typed.at_end
indexed_sorts (rule.last_row {h = h} e) = last_row (bundled_is (sorts h)) (e ∙ sym (sorts_many h))
indexed_sorts (rule.row_then {h = h} i) = some_row (sorts h) (indexed_sorts i)
indexed_sorts (rule.slice_then {a = a} {b = b} {h = h} i) = slice_rows a b (sorts h) (indexed_sorts i)
indexed_sorts (rule.reverse_then {h = h} i) = reverse_rows (sorts h) (indexed_sorts i)

-- ---- the row at some indices

rows_some : {row : List Sort} {n : ℕ} (ss : List Sort) → Has_row row (suc n) ss → Has_row row (suc (suc n)) (bundled ss)
rows_some (s ∷ ss) r = in_row r
rows_some [] (its_row b) = elim b [ ]

pub rows_sorted : {k : Shape} {n : ℕ} {h : Shape} → Has_rows k n h → Has_row (sorts k) n (sorts h)
unfolding sorts
rows_sorted {k} (rule.its_row {h = h} o) = its_row (subst (λ z. Bundled (sorts k) (bundled z)) (sym (sorts_same o)) (bundled_is (sorts k)))
rows_sorted (rule.in_row {h = h} r) = rows_some (sorts h) (rows_sorted r)
