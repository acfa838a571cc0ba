-- Which names the forms of sugar have free, and that no new name of theirs is captured.
use Rattle.std.proofs.Common.{◌≡◌, Bool, true, false, ◌||◌, ◌&&◌, not, List, [], ◌∷◌, map, Option, None, refl, ◌∙◌}
use Rattle.fut_scalar.specs.declared.place.Place.{Place}
use Rattle.fut_token.specs.declared.token.Fixed.{Fixed}
use Rattle.fut_ast.specs.declared.node.Oper.{Oper}
use Rattle.fut_ast.specs.declared.node.Joining.{Joining}
use Rattle.fut_ast.specs.declared.node.Joining.TheVariants as way
use Rattle.fut_ast.specs.declared.exp.Form.{Form-F}
use Rattle.fut_ast.specs.declared.exp.Form.TheVariants as form
use Rattle.fut_ast.specs.Sorts.{Text, Path, SourceType, SourcePat, SourceExp}
use Rattle.fut_ast.specs.Nodes.{node, exp_at, use_of, bound, let_one, joined_by, joined, joined_names_by, joining, operator_section, right_section, left_section, field_section, replaced, held_name, first_name, second_name, piped_name}
use Rattle.fut_grammar.specs.FreeNames.{any, calls, is_name, binds, free}
use Rattle.fut_grammar.proofs.FreeLayers.{free_node, free_let, binds_bound}

module _ (x : Text) where
  pub free_use : (place : Place) (y : Text) → free x (use_of place y) ≡ is_name x y
  free_use place y = free_node x place place (form.Path (y ∷ [])) (Form-F.Path (y ∷ [])) (form.outs-Path (y ∷ []))

  pub free_apply : (from mark : Place) (f e : SourceExp) → free x (node from mark (form.Apply f e)) ≡ (free x f || free x e)
  free_apply from mark f e = free_node x from mark (form.Apply f e) (Form-F.Apply f e) (form.outs-Apply f e)

  pub free_one_let : (place mark : Place) (p : SourcePat) (v e : SourceExp) → free x (node place mark (form.Lets (let_one p v ∷ []) e)) ≡ (free x v || (not (binds x p) && free x e))
  free_one_let place mark p v e = free_node x place mark (form.Lets (let_one p v ∷ []) e) (Form-F.Lets (let_one p v ∷ []) e) (form.outs-Lets (let_one p v ∷ []) e) ∙ (let i = free_let x p v in rw i refl)

  pub free_choice : (from mark : Place) (a b c : SourceExp) → free x (node from mark (form.If a b c)) ≡ (free x a || (free x b || free x c))
  free_choice from mark a b c = free_node x from mark (form.If a b c) (Form-F.If a b c) (form.outs-If a b c)

  pub free_truth : (place : Place) (b : Bool) → free x (exp_at place (form.Bool b)) ≡ false
  free_truth place b = free_node x place place (form.Bool b) (Form-F.Bool b) (form.outs-Bool b)

  pub free_binary : (from mark : Place) (op : Oper) (a b : SourceExp) → free x (node from mark (form.Binary op a b)) ≡ (free x a || free x b)
  free_binary from mark op a b = free_node x from mark (form.Binary op a b) (Form-F.Binary op a b) (form.outs-Binary op a b)

  pub free_lambda : (place mark : Place) (ps : List SourcePat) (t : Option SourceType) (e : SourceExp) → free x (node place mark (form.Lambda ps t e)) ≡ (not (any (map (binds x) ps)) && free x e)
  free_lambda place mark ps t e = free_node x place mark (form.Lambda ps t e) (Form-F.Lambda ps t e) (form.outs-Lambda ps t e)

  -- ---- operators

  choice_order : (p q : Bool) → (p || (q || false)) ≡ (p || q)
  choice_order true q = refl
  choice_order false true = refl
  choice_order false false = refl

  piped_free : (from mark : Place) (a b : SourceExp) → free x (joined_by way.Piped from mark [] a b) ≡ (free x a || (not (is_name x piped_name) && (free x b || is_name x piped_name)))
  piped_free from mark a b =
      free_one_let from mark (bound mark piped_name) a (node b.place mark (form.Apply b (use_of a.place piped_name)))
      ∙ (let i = binds_bound x mark piped_name in let j = free_apply b.place mark b (use_of a.place piped_name) in let k = free_use a.place piped_name in rw (i, j, k) refl)

  named_free : (from mark : Place) (name : Text) (a b : SourceExp) → free x (joined_by way.Named from mark name a b) ≡ ((is_name x name || free x a) || free x b)
  named_free from mark name a b =
      free_apply from mark (node from mark (form.Apply (use_of mark name) a)) b
      ∙ (let i = free_apply from mark (use_of mark name) a in let j = free_use mark name in rw (i, j) refl)

  -- Operators capture no name of their operands: all that is free in these is free in the whole.
  pub free_joined_by : (w : Joining) (from mark : Place) (name : Text) (a b : SourceExp) → is_name x piped_name ≡ false → free x (joined_by w from mark name a b) ≡ ((calls x w name || free x a) || free x b)
  free_joined_by way.Both from mark name a b n = free_choice from mark a b (exp_at mark (form.Bool false)) ∙ (let i = free_truth mark false in rw i (choice_order (free x a) (free x b)))
  free_joined_by way.Either from mark name a b n = free_choice from mark a (exp_at mark (form.Bool true)) b ∙ (let i = free_truth mark true in rw i refl)
  free_joined_by way.Piped from mark name a b n = piped_free from mark a b ∙ rw n (go (free x a) (free x b))
    where
      go : (p q : Bool) → (p || (q || false)) ≡ (p || q)
      go p q = choice_order p q
  free_joined_by way.PipedBack from mark name a b n = free_apply from mark a b
  free_joined_by way.Named from mark name a b n = named_free from mark name a b
  free_joined_by (way.Plain op) from mark name a b n = free_binary from mark op a b

  -- and nothing else is but the name in backticks
  pub joined_closed : (w : Joining) (from mark : Place) (name : Text) (a b : SourceExp) → calls x w name ≡ false → free x a ≡ false → free x b ≡ false → free x (joined_by w from mark name a b) ≡ false
  joined_closed way.Both from mark name a b n p q = free_choice from mark a b (exp_at mark (form.Bool false)) ∙ (let i = free_truth mark false in rw (i, p, q) refl)
  joined_closed way.Either from mark name a b n p q = free_choice from mark a (exp_at mark (form.Bool true)) b ∙ (let i = free_truth mark true in rw (i, p, q) refl)
  joined_closed way.Piped from mark name a b n p q = piped_free from mark a b ∙ (rw (p, q) (go (is_name x piped_name)))
    where
      go : (c : Bool) → (not c && c) ≡ false
      go true = refl
      go false = refl
  joined_closed way.PipedBack from mark name a b n p q = free_apply from mark a b ∙ rw (p, q) refl
  joined_closed way.Named from mark name a b n p q = named_free from mark name a b ∙ rw (n, p, q) refl
  joined_closed (way.Plain op) from mark name a b n p q = free_binary from mark op a b ∙ rw (p, q) refl

  pub joined_names_closed : (w : Joining) (from mark : Place) (name : Text) (a b : SourceExp) → calls x w name ≡ false → free x a ≡ false → free x b ≡ false → free x (joined_names_by w from mark name a b) ≡ false
  joined_names_closed way.Piped from mark name a b n p q = free_apply from mark b a ∙ rw (p, q) refl
  joined_names_closed way.Both from mark name a b n p q = joined_closed way.Both from mark name a b n p q
  joined_names_closed way.Either from mark name a b n p q = joined_closed way.Either from mark name a b n p q
  joined_names_closed way.PipedBack from mark name a b n p q = joined_closed way.PipedBack from mark name a b n p q
  joined_names_closed way.Named from mark name a b n p q = joined_closed way.Named from mark name a b n p q
  joined_names_closed (way.Plain op) from mark name a b n p q = joined_closed (way.Plain op) from mark name a b n p q

  -- ---- sections

  -- a function of one name, and of two
  one_param : (place : Place) (y : Text) (e : SourceExp) → free x (exp_at place (form.Lambda (bound place y ∷ []) None e)) ≡ (not (is_name x y || false) && free x e)
  one_param place y e = free_lambda place place (bound place y ∷ []) None e ∙ (let i = binds_bound x place y in rw i refl)

  outside : (c d : Bool) → (c ≡ false → d ≡ false) → (not (c || false) && d) ≡ false
  outside true d k = refl
  outside false d k = k refl

  outside_two : (b c d : Bool) → (b ≡ false → c ≡ false → d ≡ false) → (not (b || (c || false)) && d) ≡ false
  outside_two true c d k = refl
  outside_two false true d k = refl
  outside_two false false d k = k refl refl

  outside_let : (c d : Bool) → (c ≡ false → d ≡ false) → (not c && d) ≡ false
  outside_let true d k = refl
  outside_let false d k = k refl

  pub operator_section_closed : (o : Fixed) (paren mark : Place) (name : Text) → calls x (joining o) name ≡ false → free x (operator_section o paren mark name) ≡ false
  operator_section_closed o paren mark name n =
      free_lambda paren paren (bound paren first_name ∷ bound paren second_name ∷ []) None (joined_names_by (joining o) paren mark name (use_of paren first_name) (use_of paren second_name))
      ∙ (let i = binds_bound x paren first_name in let j = binds_bound x paren second_name in rw (i, j) (outside_two _ _ _ (λ f s. joined_names_closed (joining o) paren mark name _ _ n (free_use paren first_name ∙ f) (free_use paren second_name ∙ s))))

  pub right_section_closed : (o : Fixed) (paren mark : Place) (name : Text) (e : SourceExp) → calls x (joining o) name ≡ false → free x e ≡ false → free x (right_section o paren mark name e) ≡ false
  right_section_closed o paren mark name e n p =
      free_one_let paren paren (bound paren held_name) e _
      ∙ (let i = binds_bound x paren held_name in rw (i, p) (outside_let _ _ (λ h. one_param paren first_name _ ∙ outside _ _ (λ f. joined_closed (joining o) paren mark name _ _ n (free_use paren first_name ∙ f) (free_use e.place held_name ∙ h)))))

  pub left_section_closed : (o : Fixed) (paren mark : Place) (name : Text) (e : SourceExp) → calls x (joining o) name ≡ false → free x e ≡ false → free x (left_section o paren e mark name) ≡ false
  left_section_closed o paren mark name e n p =
      free_one_let paren paren (bound paren held_name) e _
      ∙ (let i = binds_bound x paren held_name in rw (i, p) (outside_let _ _ (λ h. one_param paren second_name _ ∙ outside _ _ (λ f. joined_closed (joining o) e.place mark name _ _ n (free_use e.place held_name ∙ h) (free_use paren second_name ∙ f)))))

  pub field_section_closed : (paren dot : Place) (names : Path) → free x (field_section paren dot names) ≡ false
  field_section_closed paren dot names =
      free_lambda paren paren (bound dot held_name ∷ []) None (exp_at dot (form.Path (held_name ∷ names)))
      ∙ (let i = binds_bound x dot held_name in let j = free_node x dot dot (form.Path (held_name ∷ names)) (Form-F.Path (held_name ∷ names)) (form.outs-Path (held_name ∷ names)) in rw (i, j) (outside (is_name x held_name) (is_name x held_name) (λ h. h)))

  pub replaced_closed : (from : Place) (r : SourceExp) (names : Path) (e : SourceExp) → free x r ≡ false → free x e ≡ false → free x (replaced from r names e) ≡ false
  replaced_closed from r [] e p q = q
  replaced_closed from r (f ∷ []) e p q = free_node x from from (form.Replace r f e) (Form-F.Replace r f e) (form.outs-Replace r f e) ∙ rw (p, q) refl
  replaced_closed from r (f ∷ g ∷ fs) e p q =
      free_one_let from from (bound from held_name) r _
      ∙ (let i = binds_bound x from held_name in rw (i, p) (outside_let _ _ (λ h.
      free_node x from from _ (Form-F.Replace (use_of from held_name) f (replaced from (exp_at from (form.Path (held_name ∷ f ∷ []))) (g ∷ fs) e)) (form.outs-Replace _ _ _)
      ∙ (let j = free_use from held_name ∙ h in
      let k = replaced_closed from (exp_at from (form.Path (held_name ∷ f ∷ []))) (g ∷ fs) e (free_node x from from (form.Path (held_name ∷ f ∷ [])) (Form-F.Path (held_name ∷ f ∷ [])) (form.outs-Path _) ∙ h) q in rw (j, k) refl))))

-- ---- the new names of sugar

last_true : (b c : Bool) → ((b || true) || c) ≡ true
last_true true c = refl
last_true false c = refl

or_true : (b : Bool) → (b || true) ≡ true
or_true true = refl
or_true false = refl

-- The operands that a section makes of its own names are free where its operator stands: they are what the section bound,
-- and nothing of the operator.
module _ (w : Joining) (from mark p q : Place) (name y z : Text) where
  pub names_stay : is_name y piped_name ≡ false → is_name z piped_name ≡ false → is_name y y ≡ true → is_name z z ≡ true → (free y (joined_by w from mark name (use_of p y) (use_of q z)) ≡ true) × (free z (joined_by w from mark name (use_of p y) (use_of q z)) ≡ true)
  names_stay a b c d =
      (free_joined_by y w from mark name _ _ a ∙ (let i = free_use y p y in rw (i, c) (last_true (calls y w name) _)), free_joined_by z w from mark name _ _ b ∙ (let i = free_use z q z in rw (i, d) (or_true _)))

pub right_section_names : (w : Joining) (from mark p q : Place) (name : Text) → (free first_name (joined_by w from mark name (use_of p first_name) (use_of q held_name)) ≡ true) × (free held_name (joined_by w from mark name (use_of p first_name) (use_of q held_name)) ≡ true)
right_section_names w from mark p q name = names_stay w from mark p q name first_name held_name refl refl refl refl

pub left_section_names : (w : Joining) (from mark p q : Place) (name : Text) → (free held_name (joined_by w from mark name (use_of p held_name) (use_of q second_name)) ≡ true) × (free second_name (joined_by w from mark name (use_of p held_name) (use_of q second_name)) ≡ true)
left_section_names w from mark p q name = names_stay w from mark p q name held_name second_name refl refl refl refl

pub operator_section_names : (w : Joining) (from mark p q : Place) (name : Text) → (free first_name (joined_names_by w from mark name (use_of p first_name) (use_of q second_name)) ≡ true) × (free second_name (joined_names_by w from mark name (use_of p first_name) (use_of q second_name)) ≡ true)
operator_section_names way.Piped from mark p q name = (
  free_apply first_name from mark (use_of q second_name) (use_of p first_name) ∙ (let i = free_use first_name p first_name in rw i (or_true _)),
  free_apply second_name from mark (use_of q second_name) (use_of p first_name) ∙ (let i = free_use second_name q second_name in rw i refl),
)
operator_section_names way.Both from mark p q name = names_stay way.Both from mark p q name first_name second_name refl refl refl refl
operator_section_names way.Either from mark p q name = names_stay way.Either from mark p q name first_name second_name refl refl refl refl
operator_section_names way.PipedBack from mark p q name = names_stay way.PipedBack from mark p q name first_name second_name refl refl refl refl
operator_section_names way.Named from mark p q name = names_stay way.Named from mark p q name first_name second_name refl refl refl refl
operator_section_names (way.Plain op) from mark p q name = names_stay (way.Plain op) from mark p q name first_name second_name refl refl refl refl

pub free_joined : (x : Text) (o : Fixed) (from mark : Place) (name : Text) (a b : SourceExp) → is_name x piped_name ≡ false → free x (joined o from mark name a b) ≡ ((calls x (joining o) name || free x a) || free x b)
free_joined x o from mark name a b n = free_joined_by x (joining o) from mark name a b n
