-- Rows and extents report nothing: they are what they say, or wrong.
use Rattle.std.proofs.Common.{Option, Some, None}
use Rattle.fut_meaning.specs.Outcomes.{Out, Val, Fail, Wrong, and_then}
use Rattle.fut_meaning.specs.Accessors.{or_wrong}
use Rattle.fut_blocks.specs.declared.block.Atom.{Atom}
use Rattle.fut_blocks.specs.declared.block.Atom.TheVariants as atom
use Rattle.fut_blocks.specs.Meaning.{Component, Names, look, value_of}
use Rattle.fut_blocks.specs.Rows.{Row, Unknown_row, Scalar_row, Tuple_row, Record_row, Array_row, Shape_of, Rows_of, Part_of, Field_of, Unzipped_row, Rows, no_row, row_and, Named_rows, no_named_row, named_row_and, Extent, Nowhere, Exactly, Worth_of, Length_of}
use Rattle.fut_blocks.specs.Sizes.{row_shape, row_shapes, named_shapes, extent_worth}

abbrev pub Reported : {A : Type 0} → Out A → Type 0
Reported (Val a) = ⊥
Reported (Fail r) = Unit {0}
Reported Wrong = ⊥

no_report_then : {A B : Type 0} (o : Out A) (k : A → Out B) → (Reported o → ⊥) → ((a : A) → Reported (k a) → ⊥) → Reported (and_then o k) → ⊥
no_report_then (Val a) k h g = g a
no_report_then (Fail r) k h g = h
no_report_then Wrong k h g = λ x. x

no_report_found : {A : Type 0} (o : Option A) → Reported (or_wrong o) → ⊥
no_report_found (Some a) = λ x. x
no_report_found None = λ x. x

value_reports : (env : Names Component) (u : Atom) → Reported (value_of env u) → ⊥
value_reports env (atom.Name x) = no_report_found (look env x)
value_reports env (atom.Constant s) = λ x. x

module _ (env : Names Component) where
  mutual
    pub row_reports : (r : Row) → Reported (row_shape env r) → ⊥
    row_reports Unknown_row = λ x. x
    row_reports (Scalar_row t) = λ x. x
    row_reports (Tuple_row rs) = no_report_then (row_shapes env rs) _ (rows_report rs) (λ a x. x)
    row_reports (Record_row fs) = no_report_then (named_shapes env fs) _ (named_report fs) (λ a x. x)
    row_reports (Array_row e r) = no_report_then (extent_worth env e) _ (extent_reports e) (λ z. no_report_then (row_shape env r) _ (row_reports r) (λ a x. x))
    row_reports (Shape_of u) = no_report_then (value_of env u) _ (value_reports env u) (λ a x. x)
    row_reports (Rows_of r) = no_report_then (row_shape env r) _ (row_reports r) (λ a x. x)
    row_reports (Part_of k r) = no_report_then (row_shape env r) _ (row_reports r) (λ a x. x)
    row_reports (Field_of f r) = no_report_then (row_shape env r) _ (row_reports r) (λ a x. x)
    row_reports (Unzipped_row e r) = no_report_then (extent_worth env e) _ (extent_reports e) (λ z. no_report_then (row_shape env r) _ (row_reports r) (λ a x. x))

    rows_report : (rs : Rows) → Reported (row_shapes env rs) → ⊥
    rows_report no_row = λ x. x
    rows_report (row_and r rs) = no_report_then (row_shape env r) _ (row_reports r) (λ h. no_report_then (row_shapes env rs) _ (rows_report rs) (λ a x. x))

    named_report : (fs : Named_rows) → Reported (named_shapes env fs) → ⊥
    named_report no_named_row = λ x. x
    named_report (named_row_and f r fs) = no_report_then (row_shape env r) _ (row_reports r) (λ h. no_report_then (named_shapes env fs) _ (named_report fs) (λ a x. x))

    extent_reports : (e : Extent) → Reported (extent_worth env e) → ⊥
    extent_reports Nowhere = λ x. x
    extent_reports (Exactly n) = λ x. x
    extent_reports (Worth_of u) = no_report_then (value_of env u) _ (value_reports env u) (λ a x. x)
    extent_reports (Length_of r) = no_report_then (row_shape env r) _ (row_reports r) (λ a x. x)
