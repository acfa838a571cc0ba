-- The laws on typings, in the words of the program.
use Rattle.std.proofs.Common.{sym, ◌∙◌, Ok, Err}
use Rattle.fut_types.specs.declared.Kind.TheVariants as kind
use Rattle.fut_aliases.specs.Aliases.{with_alias}
use Rattle.sizing_laws.specs.Renumbering.{renumbered_answer}
use Rattle.sizing_laws.proofs.Sources.{first_broken_is_one, sizings_are_one}
use Rattle.source_laws.specs.Claims.{RuleIsOne, NotBrokenToo, SizingIsOne, NotRefusedToo}

pub rule_is_one : RuleIsOne
rule_is_one ds one other M N m n i j f g = sym g.is ∙ first_broken_is_one with_alias kind.Any M N m n i j ds f.types g.types f.typing g.typing ∙ f.is

pub not_broken_too : NotBrokenToo
not_broken_too ds rule M N m n i j f g = absurd (let e = rule_is_one ds _ _ M N m n i j f g in cc)

pub sizing_is_one : SizingIsOne
sizing_is_one ds one other M N m n i j f closed g =
    let s = sizings_are_one M N m n i j ds f.types g.types f.typing g.typing closed in
    (s.number, s.renumbers, sym g.is ∙ s.sizing ∙ (λ k. renumbered_answer s.number (f.is k)))

pub not_refused_too : NotRefusedToo
not_refused_too ds sizes refusal M N m n i j f closed g = absurd (let e = (sizing_is_one ds (Ok sizes) (Err refusal) M N m n i j f closed g).2 in cc)
