-- The places of the numbers of trees, in the order of the numbers. All numbers of a node stand where the node does, at its
-- first token. Three have no place of their own: the `let`s of a row stand where the row does, a name that counts the turns of
-- a loop where the loop does, and a definition's name where its value does.
use Rattle.std.specs.Prelude.{◌+◌, List, [], ◌∷◌, ◌++◌, replicate}
use Rattle.std.specs.List.{flat_map}
use Rattle.fut_scalar.specs.declared.place.Place.{Place}
use Rattle.fut_flat.specs.declared.exp.Exp.{Exp, fold-Exp}
use Rattle.fut_flat.specs.declared.exp.Form.{Form, Form-F, fold-Form}
use Rattle.fut_flat.specs.declared.exp.Let.{Let as LetTree, Let-F, fold-Let}
use Rattle.fut_flat.specs.declared.exp.Loop.{Loop as LoopTree, Loop-F, fold-Loop}
use Rattle.fut_flat.specs.declared.exp.LoopForm.{LoopForm, LoopForm-F, fold-LoopForm}
use Rattle.fut_flat.specs.declared.pat.Pat.{Pat, fold-Pat}
use Rattle.fut_flat.specs.declared.pat.PatField.{PatField, fold-PatField}
use Rattle.fut_flat.specs.declared.pat.PatForm.{PatForm-F}
use Rattle.fut_flat.specs.declared.program.Definition.{Definition}
use Rattle.fut_flat.specs.Erased.{operation_of}
use Rattle.fut_flat.specs.Numbers.{own_numbers}

abbrev pub one : Place → List Place
one at = at ∷ []

abbrev pub Placed : Type 0
Placed = Place → List Place

abbrev pub joined : List (List Place) → List Place
joined = flat_map (λ (l : List Place). l)

-- ---- patterns: the node, then its parts; one with a type stands for what it types

unfoldable pub pattern_form_places : PatForm-F Placed (List Place) (List Place) → Placed
pattern_form_places (PatForm-F.Bound b) at = one at
pattern_form_places PatForm-F.Wild at = one at
pattern_form_places (PatForm-F.Tuple ps) at = one at ++ joined ps.now
pattern_form_places (PatForm-F.Record fs) at = one at ++ joined fs.now
pattern_form_places (PatForm-F.Typed p t) at = p.now

unfoldable pub pattern_places : Pat → List Place
pattern_places = fold-Pat Placed (List Place) (List Place) pattern_form_places (λ p. p.form p.place) (λ f. f.pat)

unfoldable pub field_places : PatField → List Place
field_places = fold-PatField Placed (List Place) (List Place) pattern_form_places (λ p. p.form p.place) (λ f. f.pat)

-- ---- expressions: the node, then its parts

unfoldable pub exp_form_places : Form-F Placed Placed (List Place) Placed Placed → Placed
exp_form_places (Form-F.Use r k) at = replicate (1 + (k + k)) at
exp_form_places (Form-F.Strict a mark es) at = replicate (own_numbers (operation_of a)) at ++ joined es.now
exp_form_places (Form-F.Lambda ps e) at = (one at ++ flat_map pattern_places ps.now) ++ e.now
exp_form_places (Form-F.Apply f e) at = (one at ++ f.now) ++ e.now
exp_form_places (Form-F.Lets ls e) at = flat_map (λ (l : Placed). l at) ls.now ++ e.now
exp_form_places (Form-F.If c a b) at = ((one at ++ c.now) ++ a.now) ++ b.now
exp_form_places (Form-F.Loop l) at = l.now at

unfoldable pub let_form_places : Let-F Placed Placed (List Place) Placed Placed → Placed
let_form_places l at = (one at ++ pattern_places l.pat) ++ l.value

unfoldable pub turns_form_places : LoopForm-F Placed Placed (List Place) Placed Placed → Placed
turns_form_places (LoopForm-F.For i n) at = one at ++ n
turns_form_places (LoopForm-F.ForIn p e) at = pattern_places p ++ e
turns_form_places (LoopForm-F.While c) at = c

unfoldable pub loop_form_places : Loop-F Placed Placed (List Place) Placed Placed → Placed
loop_form_places l at = (((one at ++ pattern_places l.pat) ++ l.first) ++ l.form at) ++ l.body

unfoldable pub exp_places : Exp → List Place
exp_places = fold-Exp Placed Placed (List Place) Placed Placed exp_form_places turns_form_places (λ e. e.form e.place) let_form_places loop_form_places

-- what stands in the form of an expression, in a let of a row, in a loop and in its turns, at the place of that expression
unfoldable pub form_places : Form → Placed
form_places = fold-Form Placed Placed (List Place) Placed Placed exp_form_places turns_form_places (λ e. e.form e.place) let_form_places loop_form_places

unfoldable pub let_places : Place → LetTree → List Place
let_places at l = fold-Let Placed Placed (List Place) Placed Placed exp_form_places turns_form_places (λ e. e.form e.place) let_form_places loop_form_places l at

unfoldable pub loop_places : Place → LoopTree → List Place
loop_places at l = fold-Loop Placed Placed (List Place) Placed Placed exp_form_places turns_form_places (λ e. e.form e.place) let_form_places loop_form_places l at

unfoldable pub turn_places : Place → LoopForm → List Place
turn_places at t = fold-LoopForm Placed Placed (List Place) Placed Placed exp_form_places turns_form_places (λ e. e.form e.place) let_form_places loop_form_places t at

-- ---- programs: the name of each definition, then its value

unfoldable pub definition_places : Definition → List Place
definition_places d = one d.value.now.place ++ exp_places d.value.now

abbrev pub program_places : List Definition → List Place
program_places = flat_map definition_places
