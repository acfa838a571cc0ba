-- The sizing of a flat program as the meaning takes it, where its nodes have these sized types: which size each use of a name
-- stands for, which node binds which name, and the names of the fields of records.
use Rattle.std.specs.Prelude.{◌≡◌, ℕ, suc, cond, nat_eq, map, List, [], ◌∷◌, Option, Some, slice_get}
use Rattle.std.specs.List.{Contains}
use Rattle.fut_ast.specs.Sorts.{Text}
use Rattle.fut_flat.specs.declared.program.Flat.{Flat}
use Rattle.fut_scalar.specs.declared.scalar.IntType.{IntType}
use Rattle.fut_meaning.specs.Found.{Sizing, Told}
use Rattle.fut_typing.specs.Names.{Names, AreNames}
use Rattle.fut_typing.specs.Program.{program_of}
use Rattle.elab_laws.specs.Used.{used_in_definitions}
use Rattle.module_elab.specs.Elaborated.{program_of as flat_of}
use Rattle.sized_types.specs.Sizes.{Size}
use Rattle.told_rows.specs.Tables.{is_bound}
use Rattle.sizing_tables.specs.Containing.{here, there}
use Rattle.sizing_tables.specs.Bound.{program_names, program_sizes, is_among}

-- N numbers the names of fields and the records
pub record Is_sizing_of (flat : Flat) (N : Names) (sizes : ℕ → Size) (Z : Sizing) : Type 0 where
  pub nodes : (n : ℕ) → Z.size_at n ≡ sizes n
  -- a node binds the names whose home it is
  pub homes : (q : ℕ) (o : Option ℕ) → slice_get (program_names (program_of flat)) q ≡ Some o → (b : ℕ) → nat_eq (Z.home b) q ≡ is_bound o b
  pub fields : (n : ℕ) → map N.label (Z.fields n) ≡ N.shapes.fields n
  pub are_sizes : (k : ℕ) → Z.is_size k ≡ is_among k (program_sizes (program_of flat))
  pub used : (node : ℕ) → Z.used node ≡ used_in_definitions Z.is_size 0 (flat_of flat).definitions node

-- with the types of integers
abbrev pub told_with : (ℕ → IntType) → Sizing → Told
told_with integer_at Z = record { integer_at = integer_at; sizes = Some Z }

-- ---- there is one

-- the first of these nodes that binds a name, or none of them
unfoldable pub node_of : ℕ → List (Option ℕ) → ℕ
node_of b [] = 0
node_of b (o ∷ os) = cond (is_bound o b) 0 (suc (node_of b os))

-- the names of these labels
abbrev pub label_texts : (N : Names) → (ls : List ℕ) → ((l : ℕ) → Contains ls l → (s : Text) × (l ≡ N.label s)) → List Text
label_texts N [] named = []
label_texts N (l ∷ ls) named = (named l (here l ls)).0 ∷ label_texts N ls (λ k c. named k (there l ls k c))

unfoldable pub sizing_of : Flat → (N : Names) → AreNames N → (ℕ → Size) → Sizing
sizing_of flat N names sizes = record {
  size_at = sizes;
  home = λ b. node_of b (program_names (program_of flat));
  fields = λ n. label_texts N (N.shapes.fields n) (names.named n);
  is_size = λ k. is_among k (program_sizes (program_of flat));
  used = used_in_definitions (λ k. is_among k (program_sizes (program_of flat))) 0 (flat_of flat).definitions;
}
