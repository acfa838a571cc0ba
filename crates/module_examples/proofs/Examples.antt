-- The examples, computed.
use Rattle.std.proofs.Common.{codes, [], ◌∷◌, None, Some, refl}
use Rattle.fut_ast.specs.declared.module.DecForm.TheVariants as dec
use Rattle.fut_ast.specs.declared.module.ModForm.TheVariants as form
use Rattle.fut_ast.specs.declared.module.ModTypeForm.TheVariants as mtype
use Rattle.fut_ast.specs.declared.module.SpecForm.TheVariants as spec
use Rattle.fut_primitives.specs.Names.{scalar_of}
use Rattle.elab_scopes.specs.Declarations.{applied_to, declared_by, decs_with, member_of_met, once, specs_with, walks}
use Rattle.elab_scopes.specs.Imports.{file_number, imported_file, imported_path, item, segments, tidied}
use Rattle.elab_scopes.specs.Resolve.{after}
use Rattle.elab_scopes.specs.Scopes.{contents_at, module_among, module_at, module_inside, signature_among, signature_at, type_among}
use Rattle.module_examples.specs.Examples.{Applied, BodyLookedAt, EmptySeal, Imported, IncludedLacksMember, LocalAgain, MemberOpened, ModuleTwice, NoSuchFile, NoSuchMember, NotParametric, OpenedParametric, SealLacksMember, UnboundModule}
use Rattle.module_examples.specs.Files.{applied, block, function, include_spec, label, members, module_dec, named, open_dec, path, type_spec}

pub module_twice : ModuleTwice
unfolding declared_by walks decs_with after once item module_among contents_at
module_twice = rw (dec.outs-Module (label 1 (codes "m")) [] None (block 1 []), dec.outs-Module (label 2 (codes "m")) [] None (block 2 []), form.outs-Decs []) refl

pub local_again : LocalAgain
unfolding declared_by walks decs_with after once item module_among contents_at
local_again = rw (dec.outs-Module (label 1 (codes "m")) [] None (block 1 []), form.outs-Decs [], dec.outs-Module (label 2 (codes "m")) [] None (block 2 []), form.outs-Decs []) refl

pub no_such_member : NoSuchMember
unfolding declared_by walks decs_with after once item module_among contents_at module_at module_inside
no_such_member = rw (dec.outs-Module (label 1 (codes "m")) [] None (block 1 []), dec.outs-Open (path 2 (codes "m" ∷ codes "n" ∷ [])), form.outs-Decs [], form.outs-Path (codes "m" ∷ codes "n" ∷ [])) refl

pub member_opened : MemberOpened
unfolding declared_by walks decs_with after once item module_among contents_at module_at module_inside
member_opened = rw (dec.outs-Module (label 1 (codes "m")) [] None (block 1 (module_dec 1 (codes "n") (block 1 []) ∷ [])), dec.outs-Open (path 2 (codes "m" ∷ codes "n" ∷ [])), form.outs-Decs (module_dec 1 (codes "n") (block 1 []) ∷ []), dec.outs-Module (label 1 (codes "n")) [] None (block 1 []), form.outs-Decs [], form.outs-Path (codes "m" ∷ codes "n" ∷ [])) refl

pub unbound_module : UnboundModule
unfolding declared_by walks decs_with after once item module_among contents_at module_at module_inside scalar_of
unbound_module = rw (dec.outs-Open (path 1 (codes "m" ∷ [])), form.outs-Path (codes "m" ∷ [])) refl

pub ruleset modules = (module_twice, local_again, no_such_member, member_opened, unbound_module)

pub seal_lacks_member : SealLacksMember
unfolding declared_by walks decs_with after once item module_among contents_at signature_among signature_at specs_with member_of_met type_among
seal_lacks_member = rw (dec.outs-ModType (label 1 (codes "s")) (members 1 (type_spec 1 (codes "t") ∷ [])), mtype.outs-Specs (type_spec 1 (codes "t") ∷ []), spec.outs-TypeName (label 1 (codes "t")) None, dec.outs-Module (label 2 (codes "m")) [] (Some (named 2 (codes "s" ∷ []))) (block 2 []), mtype.outs-Path (codes "s" ∷ []), mtype.outs-Specs (type_spec 1 (codes "t") ∷ []), spec.outs-TypeName (label 1 (codes "t")) None, form.outs-Decs [], mtype.outs-Path (codes "s" ∷ []), mtype.outs-Specs (type_spec 1 (codes "t") ∷ []), spec.outs-TypeName (label 1 (codes "t")) None) refl

pub included_lacks_member : IncludedLacksMember
unfolding declared_by walks decs_with after once item module_among contents_at signature_among signature_at specs_with member_of_met type_among
included_lacks_member = rw (dec.outs-ModType (label 1 (codes "s")) (members 1 (type_spec 1 (codes "t") ∷ [])), mtype.outs-Specs (type_spec 1 (codes "t") ∷ []), spec.outs-TypeName (label 1 (codes "t")) None, dec.outs-Module (label 2 (codes "m")) [] (Some (members 2 (include_spec 2 (named 2 (codes "s" ∷ [])) ∷ []))) (block 2 []), mtype.outs-Specs (include_spec 2 (named 2 (codes "s" ∷ [])) ∷ []), spec.outs-Include (named 2 (codes "s" ∷ [])), mtype.outs-Path (codes "s" ∷ []), mtype.outs-Specs (type_spec 1 (codes "t") ∷ []), spec.outs-TypeName (label 1 (codes "t")) None, form.outs-Decs [], mtype.outs-Specs (include_spec 2 (named 2 (codes "s" ∷ [])) ∷ []), spec.outs-Include (named 2 (codes "s" ∷ [])), mtype.outs-Path (codes "s" ∷ []), mtype.outs-Specs (type_spec 1 (codes "t") ∷ []), spec.outs-TypeName (label 1 (codes "t")) None) refl

pub empty_seal : EmptySeal
unfolding declared_by walks decs_with after once item module_among contents_at signature_among signature_at specs_with
empty_seal = rw (dec.outs-ModType (label 1 (codes "s")) (members 1 []), mtype.outs-Specs [], dec.outs-Module (label 2 (codes "m")) [] (Some (named 2 (codes "s" ∷ []))) (block 2 []), mtype.outs-Path (codes "s" ∷ []), mtype.outs-Specs [], form.outs-Decs [], mtype.outs-Path (codes "s" ∷ []), mtype.outs-Specs []) refl

pub ruleset seals = (seal_lacks_member, included_lacks_member, empty_seal)

pub not_parametric : NotParametric
unfolding declared_by walks decs_with after once item module_among contents_at module_at module_inside applied_to
not_parametric = rw (dec.outs-Module (label 1 (codes "m")) [] None (block 1 []), form.outs-Decs [], dec.outs-Module (label 2 (codes "a")) [] None (applied 2 (path 2 (codes "m" ∷ [])) (block 2 [])), form.outs-Apply (path 2 (codes "m" ∷ [])) (block 2 [] ∷ []), form.outs-Path (codes "m" ∷ [])) refl

pub opened_parametric : OpenedParametric
unfolding declared_by walks decs_with after once item module_among contents_at module_at module_inside specs_with
opened_parametric = rw (dec.outs-Module (label 1 (codes "f")) [] None (function 1 (codes "x") (members 1 []) (block 1 [])), dec.outs-Open (path 2 (codes "f" ∷ [])), form.outs-Lambda (label 1 (codes "x")) (members 1 []) None (block 1 []), form.outs-Path (codes "f" ∷ []), mtype.outs-Specs [], form.outs-Decs []) refl

pub body_looked_at : BodyLookedAt
unfolding declared_by walks decs_with after once item module_among contents_at module_at module_inside specs_with
body_looked_at = rw (dec.outs-Module (label 1 (codes "f")) [] None (function 1 (codes "x") (members 1 []) (block 2 (open_dec 2 (path 2 (codes "x" ∷ codes "n" ∷ [])) ∷ []))), form.outs-Lambda (label 1 (codes "x")) (members 1 []) None (block 2 (open_dec 2 (path 2 (codes "x" ∷ codes "n" ∷ [])) ∷ [])), mtype.outs-Specs [], form.outs-Decs (open_dec 2 (path 2 (codes "x" ∷ codes "n" ∷ [])) ∷ []), dec.outs-Open (path 2 (codes "x" ∷ codes "n" ∷ [])), form.outs-Path (codes "x" ∷ codes "n" ∷ [])) refl

pub applied_once : Applied
unfolding declared_by walks decs_with after once item module_among contents_at module_at module_inside applied_to specs_with
applied_once = rw (dec.outs-Module (label 1 (codes "f")) [] None (function 1 (codes "x") (members 1 []) (block 1 (module_dec 1 (codes "n") (block 1 []) ∷ []))), form.outs-Lambda (label 1 (codes "x")) (members 1 []) None (block 1 (module_dec 1 (codes "n") (block 1 []) ∷ [])), mtype.outs-Specs [], form.outs-Decs (module_dec 1 (codes "n") (block 1 []) ∷ []), dec.outs-Module (label 1 (codes "n")) [] None (block 1 []), form.outs-Decs [], dec.outs-Module (label 2 (codes "a")) [] None (applied 2 (path 2 (codes "f" ∷ [])) (block 2 [])), form.outs-Apply (path 2 (codes "f" ∷ [])) (block 2 [] ∷ []), form.outs-Path (codes "f" ∷ []), form.outs-Decs [], mtype.outs-Specs [], form.outs-Decs (module_dec 1 (codes "n") (block 1 []) ∷ []), dec.outs-Module (label 1 (codes "n")) [] None (block 1 []), form.outs-Decs [], dec.outs-Open (path 3 (codes "a" ∷ codes "n" ∷ [])), form.outs-Path (codes "a" ∷ codes "n" ∷ [])) refl

pub ruleset functions = (not_parametric, opened_parametric, body_looked_at, applied_once)

pub imported : Imported
unfolding declared_by walks decs_with after once item module_among contents_at module_at module_inside file_number imported_file imported_path segments tidied
imported = rw (dec.outs-Import (codes "a"), dec.outs-Open (path 2 (codes "m" ∷ [])), dec.outs-Module (label 1 (codes "m")) [] None (block 1 []), form.outs-Decs [], form.outs-Path (codes "m" ∷ [])) refl

pub no_such_file : NoSuchFile
unfolding declared_by walks decs_with after once item module_among contents_at file_number imported_file imported_path segments tidied
no_such_file = rw (dec.outs-Import (codes "b")) refl

pub ruleset files = (imported, no_such_file)
