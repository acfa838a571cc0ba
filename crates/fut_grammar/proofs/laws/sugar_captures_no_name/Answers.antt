use Rattle.fut_grammar.proofs.FreeSugar.{operator_section_names, right_section_names, left_section_names}
use Rattle.fut_grammar.proofs.laws.sugar_captures_no_name.Goals as goal

pub returns-clause-operator_section : goal.returns-clause-operator_section
returns-clause-operator_section c = operator_section_names

pub returns-clause-right_section : goal.returns-clause-right_section
returns-clause-right_section c = right_section_names

pub returns-clause-left_section : goal.returns-clause-left_section
returns-clause-left_section c = left_section_names
