use Rattle.value_text.proofs.OnlyValues as laws
use Rattle.value_text.proofs.laws.arguments_fit.Goals as goal

pub returns-clause-typed : goal.returns-clause-typed
returns-clause-typed c = λ types bytes values h. (laws.arguments_fit types bytes values h).typed

pub returns-clause-formed : goal.returns-clause-formed
returns-clause-formed c = λ types bytes values h. (laws.arguments_fit types bytes values h).formed

pub returns-clause-light : goal.returns-clause-light
returns-clause-light c = λ types bytes values h. (laws.arguments_fit types bytes values h).light
