-- Resolving a definition binds each number once.
use Rattle.std.proofs.Common.{◌≡◌, ℕ, List, Bool, Ok, length}
use Rattle.fut_ast.specs.Sorts.{Text}
use Rattle.fut_ast.specs.declared.pat.Head.{Head}
use Rattle.fut_flat.specs.Sources.{SourceTerm, source_parameters}
use Rattle.elab_scopes.specs.Scopes.{Scope, enter}
use Rattle.elab_scopes.specs.Resolve.{with_text}
use Rattle.elab_scopes.specs.Programs.{FlatDefinition, define}
use Rattle.elab_laws.proofs.Grown.{went, more_text}
use Rattle.elab_laws.specs.Binders.{definition_binders}
use Rattle.elab_laws.specs.OnceClaims.{defined_of}
use Rattle.elab_laws.proofs.Filled.{Filled, fill_one, fill_both, fill_end}
use Rattle.elab_laws.proofs.Parts.{heads_filled}
use Rattle.elab_laws.proofs.OnceTerms.{term_filled}

abbrev pub flat_binders : FlatDefinition → List ℕ
flat_binders d = definition_binders (defined_of d)

pub define_filled : (file : ℕ) (is_entry : Bool) (x : Text) (heads : List Head) (value : SourceTerm) (sc : Scope) (made made' : List Text) (d : FlatDefinition) → define file is_entry x heads value sc made ≡ Ok (d, made') → Filled (length made) (length made') (flat_binders d)
unfolding define
define_filled file is_entry x heads value sc made made' d e =
    went _ _ _ e (λ h m i g. went _ _ _ g (λ v n j q.
    fill_end flat_binders length (fill_both (fill_one (more_text made x)) (fill_both (heads_filled (source_parameters heads) (with_text made x) m h i) (term_filled value (enter h.1 sc) m n v j))) q))
