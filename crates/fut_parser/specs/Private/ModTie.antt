-- What reads the module expressions in a production is handed over to the function that reads the production.
use Rattle.std.specs.Prelude.{◌≤◌, ℕ, List, Result, IfOk}
use Rattle.std.specs.Borrow.{Bor}
use Rattle.fut_token.specs.declared.token.Token.{Token}
use Rattle.fut_ast.specs.Sorts.{Whole_mod, Last_mod, Atomic_mod}
use Rattle.fut_grammar.specs.declared.fault.Stop.{Stop}
use Rattle.fut_grammar.specs.Reading.{Gives}
use Rattle.fut_grammar.specs.Phrases.{read_at}
use Rattle.parse_types.specs.declared.found.Found.{Found}
use Rattle.fut_parser.specs.declared.module_tie.ModEnding.{ModEnding}
use Rattle.fut_parser.specs.declared.module_tie.ModSort.{ModSort}
use Rattle.fut_parser.specs.declared.module_tie.ModSort.TheVariants as sort
use Rattle.fut_parser.specs.Private.ModFound.{ending_found, module_found}

-- module expressions of three sorts are read by one function
abbrev pub Reads_mod : ModSort → ℕ → List Token → Result (Found ModEnding) Stop → Type 0
Reads_mod sort.Whole d ts r = Gives module_found r (read_at d Whole_mod ts)
Reads_mod sort.Argument d ts r = Gives module_found r (read_at d Atomic_mod ts)
Reads_mod sort.Last d ts r = Gives ending_found r (read_at d Last_mod ts)

abbrev pub Mod_law : (ModSort → Bor (List Token) → Result (Found ModEnding) Stop → Type 0) → ℕ → Type 0
Mod_law post d = (n : ModSort) (ts : Bor (List Token)) (r : Result (Found ModEnding) Stop) → post n ts r → Reads_mod n d ts.now r × IfOk r (λ x. x.height ≤ d)
