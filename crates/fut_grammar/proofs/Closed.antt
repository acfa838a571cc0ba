-- An expression has no name free but those that its tokens spell: so a new name of sugar is used only inside its sugar.
use Rattle.std.proofs.Common.{◌≡◌, ℕ, Bool, true, false, ◌||◌, ◌&&◌, not, List, [], ◌∷◌, ◌++◌, map, Option, Some, None, refl, sym, ap, ◌∙◌}
use Rattle.fut_scalar.specs.declared.place.Place.{Place}
use Rattle.fut_token.specs.declared.token.Fixed.{Fixed}
use Rattle.fut_token.specs.declared.token.Fixed.TheVariants as fixed
use Rattle.fut_token.specs.declared.token.TokenKind.TheVariants as kind
use Rattle.fut_token.specs.declared.token.Token.{Token}
use Rattle.fut_ast.specs.declared.node.Spot.{Spot}
use Rattle.fut_ast.specs.declared.pat.Pat.{fold-roll-Pat}
use Rattle.fut_ast.specs.declared.pat.PatForm.{PatForm, PatForm-F, out-PatForm, map-PatForm, fold-PatForm, fold_out-PatForm}
use Rattle.fut_ast.specs.declared.pat.PatForm.TheVariants as pat_form
use Rattle.fut_ast.specs.declared.exp.Form.{Form-F}
use Rattle.fut_ast.specs.declared.exp.Form.TheVariants as form
use Rattle.fut_ast.specs.declared.node.Oper.TheVariants as oper
use Rattle.fut_ast.specs.declared.exp.Bind.{Bind, roll-Bind}
use Rattle.fut_ast.specs.declared.exp.Ix.{Ix}
use Rattle.fut_ast.specs.declared.exp.Ix.TheVariants as ix
use Rattle.fut_ast.specs.Tokens.{spot_of}
use Rattle.fut_ast.specs.Sorts.{Tree, Text, Path, SourcePat, SourceExp, Sort, Whole_type, Whole_pat, Atomic_pat, Pat_field, Head_item, Base, Atom, App, Unary, Chain, Range, Updated, Typed, Last, Big, Body, Whole, Operands, Operand, Right, Inside, Replacing, Exp_field, Index_item, Named_item, Written_item, Let_item, Loop_item}
use Rattle.fut_ast.specs.Parts.{Part, Word, Names, Operator, Sub, Commas, Many, Several, Maybe, Optional, Upto, Argument, Loop_start, Value, Builds}
use Rattle.fut_ast.specs.Nodes.{node, exp_at, use_of, bound, pat_at, round_pat_of, round_exp_of, joining, index_of, named_slice_of, named_upto, named_index_of, let_named, use_named, name_of_position, behind_lets, index_section, exp_of_pat, pat_form_exp, PatExp, flat, held_name}
use Rattle.fut_ast.specs.Grammar.{Spells_names, last_name, more_names, Spells, row, suffix, pass, far, lets, body, no_operand, an_operand, Phrase, phrase, Lets, last_let, next_let, in_let, Parts, done, then_, Has, look, sign, tight, word, names, number, one, quoted, digits, variable, no_size, path_size, constant_size, operator, named_operator, sub, commas, many, several, nothing, given, absent, present, no_upto, upto, end_of, argument, set_start, own_start, Spells_commas, last_item, next_item, Spells_many, no_more, one_more}
use Rattle.fut_ast.specs.TypeRows.{TypeRow, named_arrow}
use Rattle.fut_ast.specs.PatRows.{PatRow, pat_parts, pat_tree, pat_name, wild, unit_pat, round_pat, no_fields_pat, fields_pat, set_field, short_field, size_head, variable_head, size_name}
use Rattle.fut_ast.specs.ExpRows.{ExpRow, exp_parts, exp_tree, path, number as number_row, truth, falsity, unit, round, no_elements, elements, empty_record, record_of, bare_operator, operator_first, operator_last, bare_fields, bare_index, set_exp, short_exp, last_replaced, further_replaced, from_index, to_index, backwards, named_from, named_to, named_backwards, written_index, assertion, negation, complement, if_else, function, loop, count, each, while, let_pattern, let_function, let_update}
use Rattle.fut_ast.specs.ModRows.{ModRow, mod_path}
use Rattle.fut_ast.specs.Rows.{Row, of_type, of_pat, of_exp, of_mod, parts, tree, Suffix, suffix_parts, suffix_tree, arrow, pat_type, indexed, field_name, field_digits, applied, operation, range_to, range_by, with_index, with_field, with_path, ascribed, coerced, applied_mod, sealed, with_types}
use Rattle.fut_ast.specs.Rows.{Pass, carry, plain_type, bracket_type, plain_pat, base, atom, application, unary, chain, range, updated, typed, big, first_mod, unapplied, unsealed, plain_mtype, Far, carry_far, whole, operands, near_operand, far_operand, near_right, far_right, whole_mod, far_mod, far_mtype}
use Rattle.fut_grammar.specs.FreeNames.{any, calls, is_name, path_uses, binds, free_in_lets, free, index_free, loop_free, let_free, kind_spells, spelled_in}
use Rattle.fut_grammar.proofs.Bools.{and_false_right, or_false_left, or_false_right}
use Rattle.fut_grammar.proofs.FreeLayers.{free_node, free_let, free_any_let, free_index_at, free_slice, free_backwards, free_for, free_for_in, free_while, binds_bound}
use Rattle.fut_grammar.proofs.FreeSugar.{free_use, free_apply, free_choice, free_truth, free_lambda, joined_closed, operator_section_closed, right_section_closed, left_section_closed, field_section_closed, replaced_closed}

abbrev pub All : {A : Type 0} → (A → Type 0) → List A → Type 0
All P [] = Unit {0}
All P (a ∷ cs) = P a × All P cs

abbrev pub If_some : {A : Type 0} → (A → Type 0) → Option A → Type 0
If_some P None = Unit {0}
If_some P (Some a) = P a

module _ (x : Text) where
  abbrev pub Not_free : SourceExp → Type 0
  Not_free e = free x e ≡ false

  abbrev pub binds_any : List Bind → Bool
  binds_any bs = any (map (λ b. (let_free x b).1) bs)

  abbrev pub values_free : List Bind → Bool
  values_free bs = any (map (λ b. (let_free x b).0) bs)

  -- the name is not free in the tree; in a named part of an index it is not where the part's lets do not bind it
  abbrev pub Good : (n : Sort) → Tree n → Type 0
  Good Base p = Not_free p
  Good Atom p = Not_free p
  Good App p = Not_free p
  Good Unary p = Not_free p
  Good (Chain k) p = Not_free p.0
  Good Range p = Not_free p.0
  Good Updated p = Not_free p.0
  Good Typed p = Not_free p.0
  Good Last p = Not_free p.0
  Good Big p = Not_free p.0
  Good Body p = Not_free p.0
  Good Whole p = Not_free p
  Good (Operands k) p = Not_free p
  Good (Operand k) p = Not_free p
  Good Right p = Not_free p
  Good Inside p = Not_free p.0
  Good Replacing p = Not_free p.1
  Good Exp_field p = Not_free p.1
  Good Index_item p = index_free x p ≡ false
  Good Named_item p = (values_free p.0 ≡ false) × (binds_any p.0 ≡ false → index_free x p.1 ≡ false)
  Good Written_item p = Not_free p
  Good Let_item p = (let_free x p).0 ≡ false
  Good Loop_item p = (loop_free x p).0 ≡ false
  Good Whole_pat p = Not_free (exp_of_pat p)
  Good Atomic_pat p = Not_free (exp_of_pat p)
  Good Pat_field p = Not_free (exp_of_pat p.1)
  Good n p = Unit {0}

  abbrev pub Good_part : (q : Part) → Value q → Type 0
  Good_part Word v = is_name x v.1 ≡ false
  Good_part Names v = path_uses x v.1 ≡ false
  Good_part (Operator o) v = calls x (joining o) v.1 ≡ false
  Good_part (Sub n) v = Good n v
  Good_part (Commas n) v = All (Good n) v
  Good_part (Many n) v = All (Good n) v
  Good_part (Several n) v = All (Good n) v
  Good_part (Maybe f n) v = If_some (Good n) v
  Good_part (Optional n) v = If_some (Good n) v
  Good_part Upto v = If_some (λ (u : Spot × Option SourceExp). If_some Not_free u.1) v
  Good_part Argument v = Not_free v
  Good_part Loop_start v = Not_free v.1
  Good_part q v = Unit {0}

  -- of good values b makes a good tree
  abbrev pub Closes : (n : Sort) → (ps : List Part) → Builds ps n → Type 0
  Closes n [] b = Good n b
  Closes n (q ∷ ps) b = (v : Value q) → Good_part q v → Closes n ps (b v)

  any_closes : (n : Sort) → ((p : Tree n) → Good n p) → (ps : List Part) (b : Builds ps n) → Closes n ps b
  any_closes n good [] b = good b
  any_closes n good (q ∷ ps) b = λ v g. any_closes n good ps (b v)

  -- ---- lists

  any_free : (es : List SourceExp) → All Not_free es → any (map (free x) es) ≡ false
  any_free [] g = refl
  any_free (e ∷ es) g = let i = g.0 in rw i (any_free es g.1)

  any_field : (fs : List (Text × SourceExp)) → All (λ (f : Text × SourceExp). Not_free f.1) fs → any (map (λ (f : Text × SourceExp). free x f.1) fs) ≡ false
  any_field [] g = refl
  any_field (f ∷ fs) g = let i = g.0 in rw i (any_field fs g.1)

  any_index : (is : List Ix) → All (λ i. index_free x i ≡ false) is → any (map (index_free x) is) ≡ false
  any_index [] g = refl
  any_index (i ∷ is) g = let j = g.0 in rw j (any_index is g.1)

  any_pat : (ps : List SourcePat) → All (λ p. Not_free (exp_of_pat p)) ps → any (map (free x) (map exp_of_pat ps)) ≡ false
  any_pat [] g = refl
  any_pat (p ∷ ps) g = let i = g.0 in rw i (any_pat ps g.1)

  any_pat_field : (fs : List (Text × SourcePat)) → All (λ (f : Text × SourcePat). Not_free (exp_of_pat f.1)) fs → any (map (λ (f : Text × SourceExp). free x f.1) (map (λ (f : Text × SourcePat). (f.0, exp_of_pat f.1)) fs)) ≡ false
  any_pat_field [] g = refl
  any_pat_field (f ∷ fs) g = let i = g.0 in rw i (any_pat_field fs g.1)

  -- behind lets whose values are good, where what stands behind is good unless a let binds the name
  lets_closed : (bs : List Bind) (e : Bool) → values_free bs ≡ false → (binds_any bs ≡ false → e ≡ false) → free_in_lets (map (let_free x) bs) e ≡ false
  lets_closed [] e v k = k refl
  lets_closed (b ∷ bs) e v k = let i = or_false_left (let_free x b).0 _ v in rw i (go (let_free x b).1 k (λ l. lets_closed bs e (or_false_right (let_free x b).0 _ v) l))
    where
      go : (c : Bool) → ((c || binds_any bs) ≡ false → e ≡ false) → ((binds_any bs ≡ false → e ≡ false) → free_in_lets (map (let_free x) bs) e ≡ false) → (not c && free_in_lets (map (let_free x) bs) e) ≡ false
      go true l again = refl
      go false l again = again l

  all_values : (bs : List Bind) → All (λ b. (let_free x b).0 ≡ false) bs → values_free bs ≡ false
  all_values [] g = refl
  all_values (b ∷ bs) g = let i = g.0 in rw i (all_values bs g.1)

  any_append : (cs bs : List Bool) → any cs ≡ false → any bs ≡ false → any (cs ++ bs) ≡ false
  any_append [] bs a b = b
  any_append (c ∷ cs) bs a b = let i = or_false_left c _ a in rw i (any_append cs bs (or_false_right c _ a) b)

  -- ---- expressions, form by form

  free_lets : (place : Place) (bs : List Bind) (e : SourceExp) → free x (exp_at place (form.Lets bs e)) ≡ free_in_lets (map (let_free x) bs) (free x e)
  free_lets place bs e = free_node x place place (form.Lets bs e) (Form-F.Lets bs e) (form.outs-Lets bs e)

  unit_closed : (place : Place) → Not_free (exp_at place form.Unit)
  unit_closed place = free_node x place place form.Unit Form-F.Unit form.outs-Unit

  tuple_closed : (place : Place) (es : List SourceExp) → any (map (free x) es) ≡ false → Not_free (exp_at place (form.Tuple es))
  tuple_closed place es g = free_node x place place (form.Tuple es) (Form-F.Tuple es) (form.outs-Tuple es) ∙ g

  record_closed : (place : Place) (fs : List (Text × SourceExp)) → any (map (λ (f : Text × SourceExp). free x f.1) fs) ≡ false → Not_free (exp_at place (form.Record fs))
  record_closed place fs g = free_node x place place (form.Record fs) (Form-F.Record fs) (form.outs-Record fs) ∙ g

  array_closed : (place : Place) (es : List SourceExp) → All Not_free es → Not_free (exp_at place (form.Array es))
  array_closed place es g = free_node x place place (form.Array es) (Form-F.Array es) (form.outs-Array es) ∙ any_free es g

  round_closed : (place : Place) (es : List SourceExp) → All Not_free es → Not_free (round_exp_of place es)
  round_closed place [] g = unit_closed place
  round_closed place (e ∷ []) g = g.0
  round_closed place (e ∷ f ∷ es) g = tuple_closed place (e ∷ f ∷ es) (any_free (e ∷ f ∷ es) g)

  lambda_closed : (place : Place) (ps : List SourcePat) (t : Option (Tree Whole_type)) (e : SourceExp) → Not_free e → Not_free (exp_at place (form.Lambda ps t e))
  lambda_closed place ps t e g = free_lambda x place place ps t e ∙ rw g (and_false_right _ false refl)

  update_closed : (from mark : Place) (a v : SourceExp) (is : List SourceExp) → Not_free a → All Not_free is → Not_free v → Not_free (node from mark (form.Update a is v))
  update_closed from mark a v is g h k = free_node x from mark (form.Update a is v) (Form-F.Update a is v) (form.outs-Update a is v) ∙ (let i = any_free is h in rw (g, i, k) refl)

  loop_closed : (place : Place) (sizes : List Text) (p : SourcePat) (e : SourceExp) (over : Tree Loop_item) (rest : SourceExp) → Not_free e → (loop_free x over).0 ≡ false → Not_free rest → Not_free (exp_at place (form.Loop sizes p e over rest))
  loop_closed place sizes p e over rest g h k =
      free_node x place place (form.Loop sizes p e over rest) (Form-F.Loop sizes p e over rest) (form.outs-Loop sizes p e over rest)
      ∙ rw (g, h, k) (go (any (map (is_name x) sizes) || binds x p) (loop_free x over).1)
    where
      go : (b c : Bool) → (not b && (false || (not c && false))) ≡ false
      go true c = refl
      go false true = refl
      go false false = refl

  -- parts of an index
  slice_closed : (e f : Option SourceExp) → If_some Not_free e → If_some Not_free f → index_free x (ix.Slice e f) ≡ false
  slice_closed None None g h = free_slice x None None
  slice_closed (Some e) None g h = free_slice x (Some e) None ∙ rw g refl
  slice_closed None (Some f) g h = free_slice x None (Some f) ∙ h
  slice_closed (Some e) (Some f) g h = free_slice x (Some e) (Some f) ∙ rw (g, h) refl

  index_closed : (e : SourceExp) (u : Option (Spot × Option SourceExp)) → Not_free e → Good_part Upto u → index_free x (index_of e u) ≡ false
  index_closed e None g h = free_index_at x e ∙ g
  index_closed e (Some u) g h = slice_closed (Some e) u.1 g h

  named_let : (at : Spot) (e : SourceExp) → let_free x (let_named at e) ≡ (free x e, is_name x (name_of_position at.start))
  named_let at e = free_let x (bound at.place (name_of_position at.start)) e ∙ (let i = binds_bound x at.place (name_of_position at.start) in rw i refl)

  named_use : (at : Spot) (e : SourceExp) → free x (use_named at e) ≡ is_name x (name_of_position at.start)
  named_use at e = free_use x e.place (name_of_position at.start)

  one_value : (at : Spot) (e : SourceExp) → Not_free e → values_free (let_named at e ∷ []) ≡ false
  one_value at e g = let i = named_let at e in rw (i, g) refl

  one_bound : (at : Spot) (e : SourceExp) → binds_any (let_named at e ∷ []) ≡ false → Not_free (use_named at e)
  one_bound at e b = named_use at e ∙ sym (ap (λ (c : Bool × Bool). c.1) (named_let at e)) ∙ or_false_left (let_free x (let_named at e)).1 _ b

  named_slice_closed : (colon : Spot) (f : Option SourceExp) → If_some Not_free f → Good Named_item (named_slice_of colon f)
  named_slice_closed colon None g = (refl, λ b. slice_closed None None tt tt)
  named_slice_closed colon (Some f) g = (one_value colon f g, λ b. slice_closed None (Some (use_named colon f)) tt (one_bound colon f b))

  named_upto_closed : (at : Spot) (e : SourceExp) (colon : Spot) (f : Option SourceExp) → Not_free e → If_some Not_free f → Good Named_item (named_upto at e colon f)
  named_upto_closed at e colon None g h = (one_value at e g, λ b. slice_closed (Some (use_named at e)) None (one_bound at e b) tt)
  named_upto_closed at e colon (Some f) g h = (
    (let i = named_let at e in let j = named_let colon f in rw (i, g, j, h) refl),
    λ b. slice_closed (Some (use_named at e)) (Some (use_named colon f)) (named_use at e ∙ sym (ap (λ (c : Bool × Bool). c.1) (named_let at e)) ∙ or_false_left (let_free x (let_named at e)).1 _ b) (one_bound colon f (or_false_right (let_free x (let_named at e)).1 _ b)),
  )

  named_index_closed : (at : Spot) (e : SourceExp) (u : Option (Spot × Option SourceExp)) → Not_free e → Good_part Upto u → Good Named_item (named_index_of at e u)
  named_index_closed at e None g h = (one_value at e g, λ b. free_index_at x (use_named at e) ∙ one_bound at e b)
  named_index_closed at e (Some u) g h = named_upto_closed at e u.0 u.1 g h

  abbrev pub Item : Type 0
  Item = List Bind × Ix

  values_append : (cs bs : List Bind) → values_free cs ≡ false → values_free bs ≡ false → values_free (cs ++ bs) ≡ false
  values_append [] bs a b = b
  values_append (c ∷ cs) bs a b = let i = or_false_left (let_free x c).0 _ a in rw i (values_append cs bs (or_false_right (let_free x c).0 _ a) b)

  binds_left : (cs bs : List Bind) → binds_any (cs ++ bs) ≡ false → (binds_any cs ≡ false) × (binds_any bs ≡ false)
  binds_left [] bs b = (refl, b)
  binds_left (c ∷ cs) bs b = let i = or_false_left (let_free x c).1 _ b in let rest = binds_left cs bs (or_false_right (let_free x c).1 _ b) in ((let j = rest.0 in rw (i, j) refl), rest.1)

  items_values : (items : List Item) → All (Good Named_item) items → values_free (flat (map (λ (i : Item). i.0) items)) ≡ false
  items_values [] g = refl
  items_values (i ∷ items) g = values_append i.0 (flat (map (λ (j : Item). j.0) items)) g.0.0 (items_values items g.1)

  items_free : (items : List Item) → All (Good Named_item) items → binds_any (flat (map (λ (i : Item). i.0) items)) ≡ false → any (map (index_free x) (map (λ (i : Item). i.1) items)) ≡ false
  items_free [] g b = refl
  items_free (i ∷ items) g b =
      let both = binds_left i.0 (flat (map (λ (j : Item). j.0) items)) b in
      let k = g.0.1 both.0 in
      rw k (items_free items g.1 both.1)

  behind_closed : (place : Place) (bs : List Bind) (e : SourceExp) → values_free bs ≡ false → (binds_any bs ≡ false → Not_free e) → Not_free (behind_lets place bs e)
  behind_closed place [] e v k = k refl
  behind_closed place (b ∷ bs) e v k = free_lets place (b ∷ bs) e ∙ lets_closed (b ∷ bs) (free x e) v k

  index_section_closed : (paren bracket : Place) (items : List Item) → All (Good Named_item) items → Not_free (index_section paren bracket items)
  index_section_closed paren bracket items g = behind_closed paren _ _ (items_values items g) (λ b. inner (items_free items g b))
    where
      uses : List Ix
      uses = map (λ (i : Item). i.1) items

      outside : (c d : Bool) → d ≡ false → (not (c || false) && (c || d)) ≡ false
      outside true d k = refl
      outside false d k = k

      inner : any (map (index_free x) uses) ≡ false → Not_free (exp_at paren (form.Lambda (bound paren held_name ∷ []) None (node paren bracket (form.Index (use_of paren held_name) uses))))
      inner k =
          free_lambda x paren paren (bound paren held_name ∷ []) None (node paren bracket (form.Index (use_of paren held_name) uses))
          ∙ (let i = binds_bound x paren held_name in
          let j = free_node x paren bracket (form.Index (use_of paren held_name) uses) (Form-F.Index (use_of paren held_name) uses) (form.outs-Index (use_of paren held_name) uses) in
          let l = free_use x paren held_name in
          rw (i, j, l) (outside (is_name x held_name) _ k))

  -- ---- patterns, as expressions

  abbrev pat_layer : PatForm-F PatForm SourcePat → PatExp
  pat_layer (PatForm-F.Var y) place = use_of place y
  pat_layer PatForm-F.Wild place = exp_at place form.Unit
  pat_layer PatForm-F.Unit place = exp_at place form.Unit
  pat_layer (PatForm-F.Tuple ps) place = exp_at place (form.Tuple (map exp_of_pat ps))
  pat_layer (PatForm-F.Record fs) place = exp_at place (form.Record (map (λ (f : Text × SourcePat). (f.0, exp_of_pat f.1)) fs))
  pat_layer (PatForm-F.Ascribe p t) place = exp_of_pat p

  pat_levels : (l : PatForm-F PatForm SourcePat) (place : Place) → pat_form_exp (map-PatForm PatForm SourcePat PatExp SourceExp (fold-PatForm PatExp SourceExp pat_form_exp (λ p. p.form p.place)) exp_of_pat l) place ≡ pat_layer l place
  pat_levels (PatForm-F.Var y) place = refl
  pat_levels PatForm-F.Wild place = refl
  pat_levels PatForm-F.Unit place = refl
  pat_levels (PatForm-F.Tuple ps) place = refl
  pat_levels (PatForm-F.Record fs) place = refl
  pat_levels (PatForm-F.Ascribe p t) place = refl

  pat_exp : (place : Place) (f : PatForm) (l : PatForm-F PatForm SourcePat) → out-PatForm f ≡ l → exp_of_pat (pat_at place f) ≡ pat_layer l place
  pat_exp place f l o =
      fold-roll-Pat PatExp SourceExp pat_form_exp (λ p. p.form p.place) (record { place = place; form = f })
      ∙ ap (λ (k : PatExp). k place) (fold_out-PatForm PatExp SourceExp pat_form_exp (λ p. p.form p.place) f)
      ∙ pat_levels (out-PatForm f) place
      ∙ ap (λ m. pat_layer m place) o

  pat_closed : (place : Place) (f : PatForm) (l : PatForm-F PatForm SourcePat) → out-PatForm f ≡ l → Not_free (pat_layer l place) → Not_free (exp_of_pat (pat_at place f))
  pat_closed place f l o g = ap (free x) (pat_exp place f l o) ∙ g

  bound_closed : (place : Place) (y : Text) → is_name x y ≡ false → Not_free (exp_of_pat (bound place y))
  bound_closed place y g = pat_closed place (pat_form.Var y) (PatForm-F.Var y) (pat_form.outs-Var y) (free_use x place y ∙ g)

  round_pat_closed : (place : Place) (ps : List SourcePat) → All (λ p. Not_free (exp_of_pat p)) ps → Not_free (exp_of_pat (round_pat_of place ps))
  round_pat_closed place [] g = pat_closed place pat_form.Unit PatForm-F.Unit pat_form.outs-Unit (unit_closed place)
  round_pat_closed place (p ∷ []) g = g.0
  round_pat_closed place (p ∷ q ∷ ps) g = pat_closed place (pat_form.Tuple (p ∷ q ∷ ps)) (PatForm-F.Tuple (p ∷ q ∷ ps)) (pat_form.outs-Tuple _) (tuple_closed place (map exp_of_pat (p ∷ q ∷ ps)) (any_pat (p ∷ q ∷ ps) g))

  fields_pat_closed : (place : Place) (fs : List (Text × SourcePat)) → All (λ (f : Text × SourcePat). Not_free (exp_of_pat f.1)) fs → Not_free (exp_of_pat (pat_at place (pat_form.Record fs)))
  fields_pat_closed place fs g = pat_closed place (pat_form.Record fs) (PatForm-F.Record fs) (pat_form.outs-Record _) (record_closed place (map (λ (f : Text × SourcePat). (f.0, exp_of_pat f.1)) fs) (any_pat_field fs g))

  -- ---- productions

  type_good : {n : Sort} → TypeRow n → (p : Tree n) → Good n p
  type_good named_arrow p = tt
  type_good r p = tt

  mod_good : {n : Sort} → ModRow n → (p : Tree n) → Good n p
  mod_good mod_path p = tt
  mod_good r p = tt

  pat_closes : {n : Sort} (r : PatRow n) (at : Spot) → Closes n (pat_parts r) (pat_tree r at)
  pat_closes pat_name at = λ name g. bound_closed at.place name.1 g
  pat_closes wild at = λ underscore g. pat_closed at.place pat_form.Wild PatForm-F.Wild pat_form.outs-Wild (unit_closed at.place)
  pat_closes unit_pat at = λ a g b h. pat_closed at.place pat_form.Unit PatForm-F.Unit pat_form.outs-Unit (unit_closed at.place)
  pat_closes round_pat at = λ a g ps h b i. round_pat_closed at.place ps h
  pat_closes no_fields_pat at = λ a g b h. fields_pat_closed at.place [] tt
  pat_closes fields_pat at = λ a g fs h b i. fields_pat_closed at.place fs h
  pat_closes set_field at = λ name g a h p i. i
  pat_closes short_field at = λ name g. bound_closed at.place name.1 g
  pat_closes size_head at = λ a g name h b i. tt
  pat_closes variable_head at = λ head g. tt
  pat_closes size_name at = λ a g name h b i. tt

  let_closed : (sizes : List Text) (p : SourcePat) (is_function : Bool) (heads : List (Tree Head_item)) (e : SourceExp) → Not_free e → Good Let_item (roll-Bind (record { sizes = sizes; pat = p; is_function = is_function; heads = heads; value = e }))
  let_closed sizes p is_function heads e g = ap (λ (b : Bool × Bool). b.0) (free_any_let x sizes p is_function heads e) ∙ rw g (and_false_right _ false refl)

  exp_closes : {n : Sort} (r : ExpRow n) (at : Spot) → Closes n (exp_parts r) (exp_tree r at)
  exp_closes path at = λ names g. free_node x at.place at.place (form.Path names.1) (Form-F.Path names.1) (form.outs-Path _) ∙ g
  exp_closes number_row at = λ n g. free_node x at.place at.place (form.Int n.0 n.1) (Form-F.Int n.0 n.1) (form.outs-Int _ _)
  exp_closes truth at = λ word g. free_truth x at.place true
  exp_closes falsity at = λ word g. free_truth x at.place false
  exp_closes unit at = λ a g b h. unit_closed at.place
  exp_closes round at = λ a g l m es h b i. round_closed at.place es h
  exp_closes no_elements at = λ a g b h. array_closed at.place [] tt
  exp_closes elements at = λ a g es h b i. array_closed at.place es h
  exp_closes empty_record at = λ a g b h. record_closed at.place [] refl
  exp_closes record_of at = λ a g fs h b i. record_closed at.place fs (any_field fs h)
  exp_closes (bare_operator o) at = λ a g op h b i. operator_section_closed x o at.place op.0.place op.1 h
  exp_closes (operator_first o) at = λ a g l m op h e i b j. right_section_closed x o at.place op.0.place op.1 e h i
  exp_closes (operator_last o) at = λ a g l m e h op i b j. left_section_closed x o at.place op.0.place op.1 e i h
  exp_closes bare_fields at = λ a g l m dot h names i b j. field_section_closed x at.place dot.place names.1
  exp_closes bare_index at = λ a g dot h open_bracket i items j b k c l. index_section_closed at.place open_bracket.place items j
  exp_closes set_exp at = λ name g a h e i. i
  exp_closes short_exp at = λ name g. free_use x at.place name.1 ∙ g
  exp_closes last_replaced at = λ name g a h e i. i
  exp_closes further_replaced at = λ name g l h dot i r j. j
  exp_closes from_index at = λ e g u h l i. index_closed e u g h
  exp_closes to_index at = λ colon g f h l i. slice_closed None f tt h
  exp_closes backwards at = λ a g l h b i c j d k. free_backwards x
  exp_closes named_from at = λ e g u h l i. named_index_closed at e u g h
  exp_closes named_to at = λ colon g f h l i. named_slice_closed colon f h
  exp_closes named_backwards at = λ a g l h b i c j d k. (refl, λ z. free_backwards x)
  exp_closes written_index at = λ e g l h. g
  exp_closes assertion at = λ word g test h value i. free_node x at.place at.place (form.Assert test value) (Form-F.Assert test value) (form.outs-Assert _ _) ∙ rw (h, i) refl
  exp_closes negation at = λ minus g e h. free_node x at.place at.place (form.Unary oper.Neg e) (Form-F.Unary oper.Neg e) (form.outs-Unary _ _) ∙ h
  exp_closes complement at = λ bang g e h. free_node x at.place at.place (form.Unary oper.Not e) (Form-F.Unary oper.Not e) (form.outs-Unary _ _) ∙ h
  exp_closes if_else at = λ a g test h b i yes j c k no l. free_choice x at.place at.place test yes no.0 ∙ rw (h, j, l) refl
  exp_closes function at = λ a g ps h t i b j e k. lambda_closed at.place ps t e.0 k
  exp_closes loop at = λ a g sizes h start i over j b k rest l. loop_closed at.place sizes start.0 start.1 over rest.0 i j l
  exp_closes count at = λ a g name h b i e j. free_for x name.1 e ∙ j
  exp_closes each at = λ a g l h p i b j e k. free_for_in x p e ∙ k
  exp_closes while at = λ a g e h. free_while x e ∙ h
  exp_closes let_pattern at = λ l g sizes h p i a j e k. let_closed sizes p false [] e k
  exp_closes let_function at = λ l g name h heads i ps j t k a m e o. let_closed [] (bound at.place name.1) true heads (exp_at at.place (form.Lambda ps t e)) (lambda_closed at.place ps t e o)
  exp_closes let_update at = λ l g name h bracket i indices j a k b m e o. let_closed [] (bound at.place name.1) false [] (node at.place bracket.place (form.Update (use_of at.place name.1) indices e)) (update_closed at.place bracket.place (use_of at.place name.1) e indices (free_use x at.place name.1 ∙ h) j o)

  row_closes : {n : Sort} (r : Row n) (at : Spot) → Closes n (parts r) (tree r at)
  row_closes {n} (of_type r) at = any_closes n (type_good r) (parts (of_type r)) (tree (of_type r) at)
  row_closes (of_pat r) at = pat_closes r at
  row_closes (of_exp r) at = exp_closes r at
  row_closes {n} (of_mod r) at = any_closes n (mod_good r) (parts (of_mod r)) (tree (of_mod r) at)

  suffix_closes : {n m : Sort} (s : Suffix n m) (from at : Spot) (a : Tree m) → Good m a → Closes n (suffix_parts s) (suffix_tree s from at a)
  suffix_closes arrow from at a g = λ b h c i. tt
  suffix_closes pat_type from at p g = λ b h t i. pat_closed from.place (pat_form.Ascribe p t) (PatForm-F.Ascribe p t) (pat_form.outs-Ascribe _ _) g
  suffix_closes indexed from at e g = λ b h items i c j. free_node x from.place at.place (form.Index e items) (Form-F.Index e items) (form.outs-Index _ _) ∙ (let k = any_index items i in rw (g, k) refl)
  suffix_closes field_name from at e g = λ l h dot i name j. free_node x from.place from.place (form.Field e name.1) (Form-F.Field e name.1) (form.outs-Field _ _) ∙ g
  suffix_closes field_digits from at e g = λ name h. free_node x from.place from.place (form.Field e name.1) (Form-F.Field e name.1) (form.outs-Field _ _) ∙ g
  suffix_closes applied from at e g = λ a h. free_apply x from.place from.place e a ∙ rw (g, h) refl
  suffix_closes (operation o above) from at a g = λ op h b i. joined_closed x (joining o) from.place op.0.place op.1 a.0 b h g i
  suffix_closes range_to from at a g = λ e h b i. free_node x from.place at.place (form.Range a.0 None e b) (Form-F.Range a.0 None e b) (form.outs-Range _ _ _ _) ∙ rw (g, i) refl
  suffix_closes range_by from at a g = λ dots h b i e j c k. free_node x from.place at.place (form.Range a.0 (Some b) e c) (Form-F.Range a.0 (Some b) e c) (form.outs-Range _ _ _ _) ∙ rw (g, i, k) refl
  suffix_closes with_index from at e g = λ w h b i indices j c k d l v m. update_closed from.place b.place e.0 v indices g j m
  suffix_closes with_field from at e g = λ w h name i a j v k. replaced_closed x from.place e.0 (name.1 ∷ []) v g k
  suffix_closes with_path from at e g = λ w h name i l j dot k r m. replaced_closed x from.place e.0 (name.1 ∷ r.0) r.1 g m
  suffix_closes ascribed from at e g = λ colon h t i. free_node x from.place from.place (form.Ascribe e.0 t) (Form-F.Ascribe e.0 t) (form.outs-Ascribe _ _) ∙ g
  suffix_closes coerced from at e g = λ sign h t i. free_node x from.place at.place (form.Coerce e.0 t) (Form-F.Coerce e.0 t) (form.outs-Coerce _ _) ∙ g
  suffix_closes applied_mod from at m g = λ ms h. tt
  suffix_closes sealed from at m g = λ colon h t i. tt
  suffix_closes (with_types b) from at t g = λ withs h. tt

  pass_closed : {n m : Sort} (e : Pass n m) (p : Tree m) → Good m p → Good n (carry e p)
  pass_closed plain_type p g = tt
  pass_closed bracket_type p g = tt
  pass_closed plain_pat p g = g
  pass_closed base p g = g
  pass_closed atom p g = g
  pass_closed application p g = g
  pass_closed unary p g = g
  pass_closed chain p g = g
  pass_closed range p g = g
  pass_closed updated p g = g
  pass_closed typed p g = g
  pass_closed big p g = g
  pass_closed first_mod p g = tt
  pass_closed unapplied p g = tt
  pass_closed unsealed p g = tt
  pass_closed (plain_mtype b) p g = tt

  far_closed : {n m : Sort} (e : Far n m) (p : Tree m) → Good m p → Good n (carry_far e p)
  far_closed whole p g = g
  far_closed operands p g = g
  far_closed near_operand p g = g
  far_closed far_operand p g = g
  far_closed near_right p g = g
  far_closed far_right p g = g
  far_closed whole_mod p g = tt
  far_closed far_mod p g = tt
  far_closed (far_mtype b) p g = tt

  -- ---- all phrases

  -- the name stands in no token
  pub data Unspelled : List Token → Type 0 where
    unspelled : {ts : List Token} → spelled_in x ts ≡ false → Unspelled ts

  no_name : {t : Token} {ts : List Token} {y : Text} → t.kind ≡ kind.Name y → Unspelled (t ∷ ts) → is_name x y ≡ false
  no_name {t} e (unspelled w) = sym (ap (kind_spells x) e) ∙ or_false_left (kind_spells x t.kind) _ w

  down : (t : Token) (ts : List Token) → Unspelled (t ∷ ts) → Unspelled ts
  down t ts (unspelled w) = unspelled (or_false_right (kind_spells x t.kind) _ w)

  path_closed : {xs : Path} {ts rest : List Token} → Spells_names xs ts rest → Unspelled ts → path_uses x xs ≡ false
  path_closed (last_name e n) w = no_name e w
  path_closed (more_names e f d) w = no_name e w

  path_rest : {xs : Path} {ts rest : List Token} → Spells_names xs ts rest → Unspelled ts → Unspelled rest
  path_rest (last_name e n) w = down _ _ w
  path_rest (more_names e f d) w = path_rest d (down _ _ (down _ _ w))

  no_call : (o : Fixed) → (o ≡ fixed.Backtick → ⊥) → calls x (joining o) [] ≡ false
  no_call fixed.Backtick n = absurd (n refl)
  no_call o n = refl

  mutual
    spells_closed : {n : Sort} {p : Tree n} {h : ℕ} {ts rest : List Token} → Spells n p h ts rest → Unspelled ts → Good n p × Unspelled rest
    spells_closed {ts = ts} (row r xs) w = parts_closed xs (row_closes r (spot_of ts)) w
    spells_closed {ts = ts} (suffix {a = a} {us = us} s y q xs) w = let z = spells_closed y w in parts_closed xs (suffix_closes s (spot_of ts) (spot_of us) a z.0) z.1
    spells_closed (pass {p = p} e y) w = let z = spells_closed y w in (pass_closed e p z.0, z.1)
    spells_closed (far {p = p} e y q) w = let z = spells_closed y w in (far_closed e p z.0, z.1)
    spells_closed (lets {bs = bs} {b = b} {t = t} e ls y) w =
        let z = row_closed ls (down _ _ w) in
        let v = spells_closed y z.1 in
        (free_lets t.place bs b.0 ∙ lets_closed bs (free x b.0) (all_values bs z.0) (λ k. v.0), v.1)
    spells_closed (body e y) w = spells_closed y w
    spells_closed (no_operand y) w = phrase_closed y w
    spells_closed (an_operand e y) w = phrase_closed y w

    phrase_closed : {n : Sort} {p : Tree n} {h : ℕ} {ts rest : List Token} → Phrase n p h ts rest → Unspelled ts → Good n p × Unspelled rest
    phrase_closed (phrase b y q) w = spells_closed y w

    row_closed : {bs : List Bind} {g h : ℕ} {ts rest : List Token} → Lets bs g h ts rest → Unspelled ts → All (Good Let_item) bs × Unspelled rest
    row_closed (last_let y e n) w = let z = phrase_closed y w in ((z.0, tt), down _ _ z.1)
    row_closed (next_let y e bs) w = let z = phrase_closed y w in let v = row_closed bs (down _ _ z.1) in ((z.0, v.0), v.1)
    row_closed (in_let y e f bs) w = let z = phrase_closed y w in let v = row_closed bs (down _ _ (down _ _ z.1)) in ((z.0, v.0), v.1)

    parts_closed : {n : Sort} {ps : List Part} {b : Builds ps n} {p : Tree n} {g h : ℕ} {ts rest : List Token} → Parts n ps b p g h ts rest → Closes n ps b → Unspelled ts → Good n p × Unspelled rest
    parts_closed done c w = (c, w)
    parts_closed (then_ {v = v} y xs) c w = let z = has_closed y w in parts_closed xs (c v z.0) z.1

    has_closed : {q : Part} {v : Value q} {g h : ℕ} {ts rest : List Token} → Has q v g h ts rest → Unspelled ts → Good_part q v × Unspelled rest
    has_closed (look e) w = (tt, w)
    has_closed (sign e) w = (tt, down _ _ w)
    has_closed (tight e f) w = (tt, down _ _ w)
    has_closed (word e) w = (no_name e w, down _ _ w)
    has_closed (names d) w = (path_closed d w, path_rest d w)
    has_closed (number e) w = (tt, down _ _ w)
    has_closed (one e) w = (tt, down _ _ w)
    has_closed (quoted e) w = (tt, down _ _ w)
    has_closed (digits e) w = (tt, down _ _ w)
    has_closed (variable e) w = (tt, down _ _ w)
    has_closed (no_size e) w = (tt, w)
    has_closed (path_size d e) w = (tt, path_rest d w)
    has_closed (constant_size e f) w = (tt, down _ _ w)
    has_closed (operator {o = o} e le n) w = (no_call o n, down _ _ w)
    has_closed (named_operator e f g) w = (no_name f (down _ _ w), down _ _ (down _ _ (down _ _ w)))
    has_closed (sub y) w = phrase_closed y w
    has_closed (commas y) w = commas_closed y w
    has_closed (many y) w = many_closed y w
    has_closed (several y ys) w = let z = phrase_closed y w in let v = many_closed ys z.1 in ((z.0, v.0), v.1)
    has_closed (nothing e) w = (tt, w)
    has_closed (given e y) w = phrase_closed y (down _ _ w)
    has_closed (absent e) w = (tt, w)
    has_closed (present y) w = phrase_closed y w
    has_closed (no_upto e) w = (tt, w)
    has_closed (upto e y) w = has_closed y (down _ _ w)
    has_closed (end_of e) w = (tt, down _ _ w)
    has_closed (argument e y) w = phrase_closed y w
    has_closed (set_start y e z) w = phrase_closed z (down _ _ (phrase_closed y w).1)
    has_closed (own_start y e f) w = phrase_closed y w

    commas_closed : {n : Sort} {ps : List (Tree n)} {g h : ℕ} {ts rest : List Token} → Spells_commas n ps g h ts rest → Unspelled ts → All (Good n) ps × Unspelled rest
    commas_closed (last_item y e) w = let z = phrase_closed y w in ((z.0, tt), z.1)
    commas_closed (next_item y e ys) w = let z = phrase_closed y w in let v = commas_closed ys (down _ _ z.1) in ((z.0, v.0), v.1)

    many_closed : {n : Sort} {ps : List (Tree n)} {g h : ℕ} {ts rest : List Token} → Spells_many n ps g h ts rest → Unspelled ts → All (Good n) ps × Unspelled rest
    many_closed (no_more e) w = (tt, w)
    many_closed (one_more y ys) w = let z = phrase_closed y w in let v = many_closed ys z.1 in ((z.0, v.0), v.1)

-- A name that no token spells is free in no expression.
pub no_new_name_free : (x : Text) (e : SourceExp) (h : ℕ) (ts rest : List Token) → spelled_in x ts ≡ false → Phrase Whole e h ts rest → free x e ≡ false
no_new_name_free x e h ts rest w y = (phrase_closed x y (unspelled w)).0
