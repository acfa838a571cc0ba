-- What is no sugar between two operands is a node of its own.
use Rattle.std.proofs.Common.{◌≡◌, refl}
use Rattle.fut_token.specs.declared.token.Fixed.{Fixed}
use Rattle.fut_token.specs.declared.token.Fixed.TheVariants as fixed
use Rattle.fut_ast.specs.declared.node.Joining.TheVariants as way
use Rattle.fut_ast.specs.Nodes.{joining, oper_of}

pub plain : (o : Fixed) → (o ≡ fixed.AndAnd → ⊥) → (o ≡ fixed.OrOr → ⊥) → (o ≡ fixed.PipeRight → ⊥) → (o ≡ fixed.PipeLeft → ⊥) → (o ≡ fixed.Backtick → ⊥) → joining o ≡ way.Plain (oper_of o)
plain fixed.AndAnd both either piped back named = absurd (both refl)
plain fixed.OrOr both either piped back named = absurd (either refl)
plain fixed.PipeRight both either piped back named = absurd (piped refl)
plain fixed.PipeLeft both either piped back named = absurd (back refl)
plain fixed.Backtick both either piped back named = absurd (named refl)
plain o both either piped back named = refl
