-- Which definitions an entry reaches, by a table of truths that says which numbers are named.
use Rattle.std.specs.Prelude.{◌≡◌, ℕ, zero, suc, ◌+◌, ◌-◌, ◌<◌, ◌||◌, ◌&&◌, length, List, [], ◌∷◌, Bool, false, nat_eq, get_or, drop, map, Option, Some, None}
use Rattle.std.specs.Borrow.{Bor}
use Rattle.fut_scalar.specs.declared.place.BindId.{BindId}
use Rattle.fut_flat.specs.declared.program.Definition.{Definition}
use Rattle.fut_flat.specs.Erased.{FlatTerm, FlatTurns, Row, lets, term_of}
use Rattle.fut_flat.specs.Numbers.{numbers}
use Rattle.fut_flat.specs.Terms.{Terms}
use Rattle.fut_flat.specs.declared.prim.Ref.{Ref}
use Rattle.fut_meaning.specs.Flats.{Named_term, flat_tops, is_flat_use}
use Rattle.fut_meaning.specs.Found.{Sizing}
use Rattle.fut_meaning.specs.Programs.{has_use, have_use, turns_have_use, names_size, name_size, some_names, is_reached}
use Rattle.size_arena.specs.declared.trees.SizeTree.{SizeTree}
use Rattle.sized_types.specs.Sizes.{Free, Name, Dim, At, is_free, is_dim, Size, Sizes}
use Rattle.told_rows.specs.declared.tables.Sizes.{Sizes as Tables}
use Rattle.told_rows.specs.Tables.{node_at}
use Rattle.unfold_reach.specs.declared.spans.Span.{Span}

abbrev pub is_set : List Bool → ℕ → Bool
is_set named k = get_or named k false

-- whether something uses a number, under local names
abbrev pub Uses : Type 0
Uses = List BindId → ℕ → Bool

abbrev pub use_of : Ref → Uses
use_of r bs k = is_flat_use tt bs r k

abbrev pub uses : FlatTerm → Uses
uses t bs k = has_use (λ cs p. is_flat_use tt cs p k) bs t

abbrev pub all_use : Terms Ref BindId → Uses
all_use ts bs k = have_use (λ cs p. is_flat_use tt cs p k) bs ts

-- whether a sized type names a number as a size, which it does under all local names
abbrev pub free_uses : Free → Uses
free_uses d bs k = is_free (Name k) d

abbrev pub dim_uses : Dim → Uses
dim_uses d bs k = is_dim (At (Name k)) d

abbrev pub size_uses : Size → Uses
size_uses t bs k = names_size k t

abbrev pub parts_use : Sizes → Uses
parts_use ts bs k = name_size k ts

-- whether the sized type of a node does, of so many from one on
abbrev pub nodes_use : List (Option (Bor SizeTree)) → ℕ → ℕ → Uses
nodes_use nodes lo n bs k = some_names (node_at nodes) k lo n

abbrev pub told_uses : Option (Bor Tables) → ℕ → ℕ → Uses
told_uses None lo n bs k = false
told_uses (Some s) lo n bs k = some_names (node_at s.now.nodes.now) k lo n

-- a table with one number more
pub data Named_more (b : BindId) (old new : List Bool) : Type 0 where
  named_more : length new ≡ length old → ((k : ℕ) → k < length old → is_set new k ≡ (nat_eq b.0 k || is_set old k)) → Named_more b old new

-- a table with what is used besides what it had
pub data Noted (U : Uses) (old new : List Bool) : Type 0 where
  noted : length new ≡ length old → ((bs : List BindId) (k : ℕ) → k < length old → is_set new k ≡ (U bs k || is_set old k)) → Noted U old new

-- what says how many turns a loop has, outside of the loop's pattern and inside
pub data Noted_turns (t : FlatTurns) (old new : List Bool) : Type 0 where
  noted_turns : length new ≡ length old → ((bs cs : List BindId) (k : ℕ) → k < length old → is_set new k ≡ (turns_have_use (λ ds p. is_flat_use tt ds p k) bs cs t || is_set old k)) → Noted_turns t old new

-- the values of a row of lets, whatever stands behind it
pub data Noted_rows (ls : List Row) (old new : List Bool) : Type 0 where
  noted_rows : ((body : FlatTerm) (last : List Bool) → Noted (uses body) new last → Noted (uses (lets ls body)) old last) → Noted_rows ls old new

-- what a definition names as a value or as a size, if it is named itself, which is told
pub data Noted_definition (sizes : Option (Bor Tables)) (s : Span) (d : Definition) (old new : List Bool) (named : Bool) : Type 0 where
  noted_definition : named ≡ is_set old d.bind.0 → Noted (λ bs k. named && (uses (term_of d.value.now) bs k || told_uses sizes s.first (s.end - s.first) bs k)) old new → Noted_definition sizes s d old new named

-- a definition's name and its term
abbrev pub named_term : Definition → Named_term
named_term d = (d.bind, term_of d.value.now)

-- the number of a definition's name, where that of the first one is `lo`
abbrev pub name_at : ℕ → List Definition → ℕ → ℕ
name_at lo ds zero = lo
name_at lo [] (suc i) = lo
name_at lo (d ∷ ds) (suc i) = name_at (lo + (1 + numbers (term_of d.value.now))) ds i

-- the nodes of a definition's term stand between its name and the next one's
pub data Spans (ds : List Definition) (spans : List Span) : Type 0 where
  spans_are : ((i : ℕ) (s : Span) → i < length ds → ((get_or spans i s).first ≡ 1 + name_at 0 ds i) × ((get_or spans i s).end ≡ name_at 0 ds (i + 1))) → Spans ds spans

-- the numbers of all definitions are below this one
pub data Below (n : ℕ) (ds : List Definition) : Type 0 where
  below : ((i : ℕ) (d : Definition) → i < length ds → (get_or ds i d).bind.0 < n) → Below n ds

-- a truth for each definition: whether the entry is it, or names it through later ones that are reached
pub data Reached (sizes : Option Sizing) (entry : ℕ) (ds : List Definition) (flags : List Bool) : Type 0 where
  reached : length flags ≡ length ds → ((i : ℕ) (d : Definition) → i < length ds → is_set flags i ≡ is_reached is_flat_use sizes entry (drop (i + 1) (flat_tops 0 (map named_term ds))) (get_or ds i d).bind.0) → Reached sizes entry ds flags
