-- Names that go out of scope.
use Rattle.std.proofs.Common.{◌≡◌, ℕ, ◌+◌, ◌-◌, ◌++◌, List, length, drop, ◌∙◌, ap, arith}
use Rattle.std.proofs.Math.Seq.{drop-append_seam}
use Rattle.std.proofs.lemmas.List.{length-append}
use Rattle.elab_scopes.specs.Scopes.{Entry, Scope}
use Rattle.elab_scopes.specs.Table.{outside}

lesser : (a b c : ℕ) → c ≡ a + b → c - b ≡ a
lesser a b c is = omega (arith, is)

pub outside_over : (news : List Entry) (sc : Scope) → outside (length sc) (news ++ sc) ≡ sc
unfolding outside
outside_over news sc = ap (λ n. drop n (news ++ sc)) (lesser (length news) (length sc) (length (news ++ sc)) (length-append news sc)) ∙ drop-append_seam news sc
