-- Members as they are held.
use Rattle.std.specs.Prelude.{Some, None}
use Rattle.fut_ast.specs.Sorts.{Text}
use Rattle.elab_scopes.specs.Scopes.{Module_ref, made_module, scalar_module, Member, value_member, type_member, module_member, signature_member}
use Rattle.elab_scopes.specs.declared.meanings.ModuleRef.{ModuleRef}
use Rattle.elab_scopes.specs.declared.meanings.ModuleRef.TheVariants as held_module
use Rattle.elab_scopes.specs.declared.meanings.Member.{Member as HeldMember}
use Rattle.elab_scopes.specs.declared.meanings.Member.TheVariants as held
use Rattle.elab_scopes.specs.declared.meanings.Meanings.{Meanings}

abbrev pub module_ref_of : ModuleRef → Module_ref
module_ref_of (held_module.Made k) = made_module k
module_ref_of (held_module.Scalar t) = scalar_module t

abbrev pub member_of : HeldMember → Member
member_of (held.Value x r) = value_member x.now r
member_of (held.Type x r) = type_member x.now r
member_of (held.Module x m) = module_member x.now (module_ref_of m)
member_of (held.Signature x k) = signature_member x.now k

abbrev pub text_of : HeldMember → Text
text_of (held.Value x r) = x.now
text_of (held.Type x r) = x.now
text_of (held.Module x m) = x.now
text_of (held.Signature x k) = x.now

abbrev pub no_meaning : Meanings
no_meaning = record { as_value = None; as_type = None; as_module = None; as_signature = None }

-- what the name of a member means behind it
abbrev pub also : HeldMember → Meanings → Meanings
also (held.Value x r) m = record { as_value = Some r; as_type = m.as_type; as_module = m.as_module; as_signature = m.as_signature }
also (held.Type x r) m = record { as_value = m.as_value; as_type = Some r; as_module = m.as_module; as_signature = m.as_signature }
also (held.Module x r) m = record { as_value = m.as_value; as_type = m.as_type; as_module = Some r; as_signature = m.as_signature }
also (held.Signature x k) m = record { as_value = m.as_value; as_type = m.as_type; as_module = m.as_module; as_signature = Some k }
