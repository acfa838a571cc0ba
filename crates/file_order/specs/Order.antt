-- Which files a file imports, in which order files are loaded, and which of them imports itself.
use Rattle.std.specs.Prelude.{◌≡◌, ℕ, ◌++◌, nat_eq, cond, Bool, true, false, List, [], ◌∷◌, flat_map, Option, Some, None}
use Rattle.fut_ast.specs.Sorts.{Text}
use Rattle.fut_ast.specs.declared.module.Dec.{Dec, Dec-F, fold-Dec}
use Rattle.fut_ast.specs.declared.module.DecForm.{DecForm-F}
use Rattle.fut_ast.specs.declared.module.ModExp.{ModExp-F}
use Rattle.fut_ast.specs.declared.module.ModForm.{ModForm-F}
use Rattle.elab_scopes.specs.Imports.{Source_file, item, imported_file}
use Rattle.elab_scopes.specs.Declarations.{decs_of}

-- ---- the imports of a file, in the order of its text

abbrev pub Texts : Type 0
Texts = List Text

abbrev pub all_texts : List Texts → Texts
all_texts = flat_map (λ (x : Texts). x)

unfoldable pub dec_form_texts : DecForm-F Texts Texts Texts Texts → Texts
dec_form_texts (DecForm-F.Def is_entry x heads ps t e) = []
dec_form_texts (DecForm-F.TypeName x heads t) = []
dec_form_texts (DecForm-F.Module x ps t m) = m
dec_form_texts (DecForm-F.ModType x t) = []
dec_form_texts (DecForm-F.Open m) = m
dec_form_texts (DecForm-F.«DecForm::Import» x) = x ∷ []

unfoldable pub mod_form_texts : ModForm-F Texts Texts Texts Texts → Texts
mod_form_texts (ModForm-F.Path p) = []
mod_form_texts (ModForm-F.Decs ds) = all_texts ds
mod_form_texts (ModForm-F.Apply f given) = f ++ all_texts given
mod_form_texts (ModForm-F.«ModForm::Import» x) = x ∷ []
mod_form_texts (ModForm-F.Lambda x t u m) = m
mod_form_texts (ModForm-F.Seal m t) = m

unfoldable pub dec_texts : Dec-F Texts Texts Texts Texts → Texts
dec_texts d = d.form

unfoldable pub mod_texts : ModExp-F Texts Texts Texts Texts → Texts
mod_texts m = m.form

-- the texts that a declaration imports
unfoldable pub imported_texts : Dec → Texts
imported_texts = fold-Dec Texts Texts Texts Texts dec_form_texts mod_form_texts dec_texts mod_texts

abbrev pub and_known : Option ℕ → List ℕ → List ℕ
and_known None ks = ks
and_known (Some k) ks = k ∷ ks

unfoldable pub numbers_of : List Source_file → ℕ → Texts → List ℕ
numbers_of fs k [] = []
numbers_of fs k (x ∷ xs) = and_known (imported_file fs k x) (numbers_of fs k xs)

-- the numbers of the files that a file imports
unfoldable pub imports_of : List Source_file → ℕ → List ℕ
imports_of fs k = numbers_of fs k (flat_map imported_texts (decs_of (item fs k)))

-- ---- the order of load

unfoldable pub has_number : List ℕ → ℕ → Bool
has_number [] k = false
has_number (j ∷ js) k = cond (nat_eq j k) true (has_number js k)

-- Files are loaded one after the other, each behind the one that imports it first and before what that imports next, and each
-- once: these are to be loaded, those are loaded, and then all these are.
pub data Loads (fs : List Source_file) : List ℕ → List ℕ → List ℕ → Type 0 where
  no_more : {loaded : List ℕ} → Loads fs [] loaded loaded
  is_loaded : {k : ℕ} {ks loaded all : List ℕ} → has_number loaded k ≡ true → Loads fs ks loaded all → Loads fs (k ∷ ks) loaded all
  to_load : {k : ℕ} {ks loaded below all : List ℕ} → has_number loaded k ≡ false → Loads fs (imports_of fs k) (loaded ++ k ∷ []) below → Loads fs ks below all → Loads fs (k ∷ ks) loaded all

-- the order in which files are loaded, from file 1 on
abbrev pub Load_order : List Source_file → List ℕ → Type 0
Load_order fs all = Loads fs (1 ∷ []) [] all

-- ---- cycles

pub data Among (k : ℕ) : List ℕ → Type 0 where
  first : {ks : List ℕ} → Among k (k ∷ ks)
  later : {j : ℕ} {ks : List ℕ} → Among k ks → Among k (j ∷ ks)

-- a file imports another, or one that leads to it
pub data Leads (fs : List Source_file) (to : ℕ) : ℕ → Type 0 where
  imports : {k : ℕ} → Among to (imports_of fs k) → Leads fs to k
  through : {k j : ℕ} → Among j (imports_of fs k) → Leads fs to j → Leads fs to k

-- the first of these files that imports itself: the refusal of an import cycle, which goes before all others, is its
pub data First_cycle (fs : List Source_file) (k : ℕ) : List ℕ → Type 0 where
  itself : {ks : List ℕ} → Leads fs k k → First_cycle fs k (k ∷ ks)
  behind : {j : ℕ} {ks : List ℕ} → (Leads fs j j → ⊥) → First_cycle fs k ks → First_cycle fs k (j ∷ ks)
