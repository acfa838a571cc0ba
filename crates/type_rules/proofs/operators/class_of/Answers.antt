use Rattle.std.proofs.Common.{subst, sym}
use Rattle.fut_typing.specs.Rules.{Operator}
use Rattle.type_rules.specs.declared.operators.Class.TheVariants as class
use Rattle.type_rules.specs.Demands.{By_class}
use Rattle.type_rules.proofs.operators.class_of.Goals as goal

pub returns-in-Add : goal.returns-in-Add
returns-in-Add c = λ K t u. subst (λ o. (By_class class.Arithmetic K t u → Operator o K t u) × (Operator o K t u → By_class class.Arithmetic K t u)) (sym c.in-Add.is) ((λ h. h), (λ h. h))

pub returns-in-Sub : goal.returns-in-Sub
returns-in-Sub c = λ K t u. subst (λ o. (By_class class.Arithmetic K t u → Operator o K t u) × (Operator o K t u → By_class class.Arithmetic K t u)) (sym c.in-Sub.is) ((λ h. h), (λ h. h))

pub returns-in-Mul : goal.returns-in-Mul
returns-in-Mul c = λ K t u. subst (λ o. (By_class class.Arithmetic K t u → Operator o K t u) × (Operator o K t u → By_class class.Arithmetic K t u)) (sym c.in-Mul.is) ((λ h. h), (λ h. h))

pub returns-in-Div : goal.returns-in-Div
returns-in-Div c = λ K t u. subst (λ o. (By_class class.Arithmetic K t u → Operator o K t u) × (Operator o K t u → By_class class.Arithmetic K t u)) (sym c.in-Div.is) ((λ h. h), (λ h. h))

pub returns-in-Mod : goal.returns-in-Mod
returns-in-Mod c = λ K t u. subst (λ o. (By_class class.Arithmetic K t u → Operator o K t u) × (Operator o K t u → By_class class.Arithmetic K t u)) (sym c.in-Mod.is) ((λ h. h), (λ h. h))

pub returns-in-Quot : goal.returns-in-Quot
returns-in-Quot c = λ K t u. subst (λ o. (By_class class.Arithmetic K t u → Operator o K t u) × (Operator o K t u → By_class class.Arithmetic K t u)) (sym c.in-Quot.is) ((λ h. h), (λ h. h))

pub returns-in-Rem : goal.returns-in-Rem
returns-in-Rem c = λ K t u. subst (λ o. (By_class class.Arithmetic K t u → Operator o K t u) × (Operator o K t u → By_class class.Arithmetic K t u)) (sym c.in-Rem.is) ((λ h. h), (λ h. h))

pub returns-in-Pow : goal.returns-in-Pow
returns-in-Pow c = λ K t u. subst (λ o. (By_class class.Arithmetic K t u → Operator o K t u) × (Operator o K t u → By_class class.Arithmetic K t u)) (sym c.in-Pow.is) ((λ h. h), (λ h. h))

pub returns-in-And : goal.returns-in-And
returns-in-And c = λ K t u. subst (λ o. (By_class class.Arithmetic K t u → Operator o K t u) × (Operator o K t u → By_class class.Arithmetic K t u)) (sym c.in-And.is) ((λ h. h), (λ h. h))

pub returns-in-Or : goal.returns-in-Or
returns-in-Or c = λ K t u. subst (λ o. (By_class class.Arithmetic K t u → Operator o K t u) × (Operator o K t u → By_class class.Arithmetic K t u)) (sym c.in-Or.is) ((λ h. h), (λ h. h))

pub returns-in-Xor : goal.returns-in-Xor
returns-in-Xor c = λ K t u. subst (λ o. (By_class class.Arithmetic K t u → Operator o K t u) × (Operator o K t u → By_class class.Arithmetic K t u)) (sym c.in-Xor.is) ((λ h. h), (λ h. h))

pub returns-in-Shl : goal.returns-in-Shl
returns-in-Shl c = λ K t u. subst (λ o. (By_class class.Arithmetic K t u → Operator o K t u) × (Operator o K t u → By_class class.Arithmetic K t u)) (sym c.in-Shl.is) ((λ h. h), (λ h. h))

pub returns-in-Shr : goal.returns-in-Shr
returns-in-Shr c = λ K t u. subst (λ o. (By_class class.Arithmetic K t u → Operator o K t u) × (Operator o K t u → By_class class.Arithmetic K t u)) (sym c.in-Shr.is) ((λ h. h), (λ h. h))

pub returns-in-Eq : goal.returns-in-Eq
returns-in-Eq c = λ K t u. subst (λ o. (By_class class.Equality K t u → Operator o K t u) × (Operator o K t u → By_class class.Equality K t u)) (sym c.in-Eq.is) ((λ h. h), (λ h. h))

pub returns-in-Ne : goal.returns-in-Ne
returns-in-Ne c = λ K t u. subst (λ o. (By_class class.Equality K t u → Operator o K t u) × (Operator o K t u → By_class class.Equality K t u)) (sym c.in-Ne.is) ((λ h. h), (λ h. h))

pub returns-in-Lt : goal.returns-in-Lt
returns-in-Lt c = λ K t u. subst (λ o. (By_class class.Comparison K t u → Operator o K t u) × (Operator o K t u → By_class class.Comparison K t u)) (sym c.in-Lt.is) ((λ h. h), (λ h. h))

pub returns-in-Le : goal.returns-in-Le
returns-in-Le c = λ K t u. subst (λ o. (By_class class.Comparison K t u → Operator o K t u) × (Operator o K t u → By_class class.Comparison K t u)) (sym c.in-Le.is) ((λ h. h), (λ h. h))

pub returns-in-Gt : goal.returns-in-Gt
returns-in-Gt c = λ K t u. subst (λ o. (By_class class.Comparison K t u → Operator o K t u) × (Operator o K t u → By_class class.Comparison K t u)) (sym c.in-Gt.is) ((λ h. h), (λ h. h))

pub returns-in-Ge : goal.returns-in-Ge
returns-in-Ge c = λ K t u. subst (λ o. (By_class class.Comparison K t u → Operator o K t u) × (Operator o K t u → By_class class.Comparison K t u)) (sym c.in-Ge.is) ((λ h. h), (λ h. h))

pub returns-in-Min : goal.returns-in-Min
returns-in-Min c = λ K t u. subst (λ o. (By_class class.Arithmetic K t u → Operator o K t u) × (Operator o K t u → By_class class.Arithmetic K t u)) (sym c.in-Min.is) ((λ h. h), (λ h. h))

pub returns-in-Max : goal.returns-in-Max
returns-in-Max c = λ K t u. subst (λ o. (By_class class.Arithmetic K t u → Operator o K t u) × (Operator o K t u → By_class class.Arithmetic K t u)) (sym c.in-Max.is) ((λ h. h), (λ h. h))
