-- Operations by the checker's sets and by whole ones.
use Rattle.std.proofs.Common.{◌≡◌, ℕ, Bool, true, false, cond, List, [], ◌∷◌, refl}
use Rattle.std.specs.Prelude.{nat_eq}
use Rattle.fut_ast.specs.Sorts.{Text}
use Rattle.fut_scalar.specs.declared.place.BindId.{BindId}
use Rattle.fut_scalar.specs.declared.place.Place.{Place}
use Rattle.fut_flat.specs.declared.prim.Ref.{Ref}
use Rattle.fut_flat.specs.Terms.{Operation, Integer, Truth, Tuple_of, Record_of, Array_of, Binary, Negate, Complement, Index, Project, Update, Replace, Ascribe, Coerce, Declared, Assert, Range}
use Rattle.fut_types.specs.declared.Head.TheVariants as head
use Rattle.fut_types.specs.Types.{Ty, Var, Made, Sub, Kinds}
use Rattle.fut_typing.specs.Names.{Names}
use Rattle.fut_aliases.specs.declared.refusals.Broken.TheVariants.{ResultAliases}
use Rattle.fut_aliases.specs.declared.refusals.Named.{Named}
use Rattle.fut_aliases.specs.declared.refusals.Named.TheVariants.{ByAlias}
use Rattle.fut_aliases.specs.declared.refusals.Spot.{Spot}
use Rattle.fut_aliases.specs.declared.refusals.Spot.TheVariants.{Mark}
use Rattle.fut_aliases.specs.Aliases.{Set, shared}
use Rattle.fut_aliases.specs.Stars.{Stars, written_stars}
use Rattle.fut_aliases.specs.Values.{Value, of_type, aliases, ascribed}
use Rattle.fut_aliases.specs.Steps.{Losses, Step, give, and_then, consume, demand, some_alias}
use Rattle.fut_aliases.specs.Calls.{Here, Held, not_consumable, captured, too_shared, settled}
use Rattle.fut_aliases.specs.Operations.{field_of, fields_of, record_of, row, first_value, last_value, array_name, shares_with, update, ascribe, without_part, of_parts, operation}
use Rattle.alias_laws.proofs.Worlds.{World, SetR, empties, shared_is}
use Rattle.alias_laws.proofs.Values.{ValueR, scalars, parts_are, ValuesR, no_values, more_values, aliases_are, of_type_is, ascribed_is, part_named_is, with_part_named_is}
use Rattle.alias_laws.proofs.Losing.{LossesR}
use Rattle.alias_laws.proofs.Since.{Since}
use Rattle.alias_laws.proofs.Stepping.{avoiding, gone, AnswerR, HeldR, held_is, HeldsR, no_parts, more_parts, held_value, some_same, demand_then}
use Rattle.alias_laws.proofs.Calling.{HereR, here_is, not_consumable_same, captured_same, hungry_same, too_shared_same, ValueIs, given_value, settled_is, consume_is}

module _ {w : World} {asked : Bool} {base ls : Losses} where
  row_is : {as_well as_well' : List Held} → HeldsR w asked base ls as_well as_well' → ValuesR (avoiding w (gone asked base)) (row as_well) (row as_well')
  row_is no_parts = no_values
  row_is (more_parts p ps) = more_values (held_value p) (row_is ps)

  first_value_is : {as_well as_well' : List Held} → HeldsR w asked base ls as_well as_well' → ValueR (avoiding w (gone asked base)) (first_value as_well) (first_value as_well')
  first_value_is no_parts = scalars
  first_value_is (more_parts p ps) = held_value p

  last_value_is : {as_well as_well' : List Held} → HeldsR w asked base ls as_well as_well' → ValueR (avoiding w (gone asked base)) (last_value as_well) (last_value as_well')
  last_value_is no_parts = scalars
  last_value_is (more_parts p no_parts) = held_value p
  last_value_is (more_parts p (more_parts q qs)) = last_value_is (more_parts q qs)

  module _ (N : Names) where
    field_of_is : (l : ℕ) (fs : List Text) {as_well as_well' : List Held} → HeldsR w asked base ls as_well as_well' → ValueR (avoiding w (gone asked base)) (field_of N l fs as_well) (field_of N l fs as_well')
    field_of_is l [] ps = scalars
    field_of_is l (f ∷ fs) no_parts = scalars
    field_of_is l (f ∷ fs) (more_parts {a} {a'} {as_well} {as_well'} p ps) = by_label (nat_eq (N.label f) l) (field_of_is l fs ps)
      where
        by_label : (b : Bool) → ValueR (avoiding w (gone asked base)) (field_of N l fs as_well) (field_of N l fs as_well') → ValueR (avoiding w (gone asked base)) (cond b a.value (field_of N l fs as_well)) (cond b a'.value (field_of N l fs as_well'))
        by_label true q = held_value p
        by_label false q = q

    fields_of_are : (labels : List ℕ) (fs : List Text) {as_well as_well' : List Held} → HeldsR w asked base ls as_well as_well' → ValuesR (avoiding w (gone asked base)) (fields_of N labels fs as_well) (fields_of N labels fs as_well')
    fields_of_are [] fs ps = no_values
    fields_of_are (l ∷ labels) fs ps = more_values (field_of_is l fs ps) (fields_of_are labels fs ps)

    record_of_is : (fs : List Text) (t : Ty) {as_well as_well' : List Held} → HeldsR w asked base ls as_well as_well' → ValueR (avoiding w (gone asked base)) (record_of N fs t as_well) (record_of N fs t as_well')
    record_of_is fs (Made (head.Record n) ts) ps = parts_are (fields_of_are (N.shapes.fields n) fs ps)
    record_of_is fs (Var v) ps = scalars
    record_of_is fs (Made (head.Scalar k) ts) ps = scalars
    record_of_is fs (Made head.Array ts) ps = scalars
    record_of_is fs (Made head.Tuple ts) ps = scalars
    record_of_is fs (Made head.Fun ts) ps = scalars
    record_of_is fs (Made (head.Rigid n k) ts) ps = scalars
    record_of_is fs (Made (head.Abstract n b) ts) ps = scalars

-- ---- updates

abbrev told : Named → Named → Named
told c (ByAlias b) = array_name c b
told c n = n

shares_as : (a : Held) (p : Spot) (s : Set) → shares_with a p s ≡ some_alias (λ n. ResultAliases (told a.called n) p) (shared (aliases a.value) s)
shares_as a p s = refl

shares_same : {w : World} {asked : Bool} {base ls : Losses} {a a' : Held} {s s' : Set} → HeldR w asked base ls a a' → SetR (avoiding w (gone asked base)) s s' → (p : Spot) → shares_with a' p s' ≡ shares_with a p s
shares_same (held_is {c = c} before q k x) y p = some_same (λ n. ResultAliases (told c n) p) (shared_is (aliases_are q) y)

abbrev overwritten : Place → Held → Value → Step Value
overwritten mark a new = and_then (consume (Mark mark) (aliases a.value)) (λ v. give new)

abbrev unlost : Here → Place → Held → List Held → Value → Step Value
unlost h mark a parts new = and_then (settled h (a ∷ parts)) (λ w. overwritten mark a new)

abbrev uncaptured : Here → Place → Held → List Held → Value → Step Value
uncaptured h mark a parts new = and_then (demand h.asked (captured h (Mark mark) (aliases a.value))) (λ x. unlost h mark a parts new)

abbrev consumable : Here → Place → Held → List Held → Value → Step Value
consumable h mark a parts new = and_then (demand h.asked (not_consumable h (Mark mark) (aliases a.value))) (λ x. uncaptured h mark a parts new)

update_is : {asked : Bool} {w : World} {lo hi : ℕ} {base ls ls' : Losses} {h h' : Here} {a a' : Held} {as_well as_well' : List Held} {new new' : Value} (mark : Place) → HereR w asked h h' → LossesR w ls ls' → (asked ≡ true → Since w base ls) → HeldR w asked base ls a a' → HeldsR w asked base ls as_well as_well' → ValueR (avoiding w (gone asked base)) new new'
    → AnswerR asked w lo hi base (ValueIs asked base) (update h mark a as_well new ls) (update h' mark a' as_well' new' ls')
update_is {asked} {w} {lo} {hi} {base} {ls} {ls'} {h} {h'} {a} {a'} {as_well} {as_well'} {new} {new'} mark (here_is {scope} {scope'} {fixed} {fixed'} {l = lf} {f = ff} sc fx) l t p ps v =
    demand_then asked (λ z. consumable o mark a as_well new) (λ z. consumable o' mark a' as_well' new') (λ e. shares_same p (aliases_are (last_value_is ps)) (Mark mark)) (λ e1.
    demand_then asked (λ z. uncaptured o mark a as_well new) (λ z. uncaptured o' mark a' as_well' new') (λ e. not_consumable_same {test = gone asked base} here (aliases_are (held_value p)) (Mark mark)) (λ e2.
    demand_then asked (λ z. unlost o mark a as_well new) (λ z. unlost o' mark a' as_well' new') (λ e. captured_same {test = gone asked base} here (aliases_are (held_value p)) (Mark mark)) (λ e3.
    settled_is (λ z. overwritten mark a new) (λ z. overwritten mark a' new') here l (more_parts p ps)
    (consume_is (Mark mark) (λ z. give new) (λ z. give new') (aliases_are (held_value p)) l t (λ l2 t2. given_value l2 t2 v)))))
  where
    o : Here
    o = record { scope = scope; fixed = fixed; loop_from = lf; function_from = ff; asked = asked }

    o' : Here
    o' = record { scope = scope'; fixed = fixed'; loop_from = lf; function_from = ff; asked = asked }

    here : HereR w asked o o'
    here = here_is sc fx

pub ascribe_is : {asked : Bool} {w : World} {lo hi : ℕ} {base ls ls' : Losses} {h h' : Here} {a a' : Held} (u : Stars) → HereR w asked h h' → LossesR w ls ls' → (asked ≡ true → Since w base ls) → HeldR w asked base ls a a'
    → AnswerR asked w lo hi base (ValueIs asked base) (ascribe h u a ls) (ascribe h' u a' ls')
ascribe_is {asked} {a = a} {a' = a'} u (here_is sc fx) l t p =
    demand_then asked (λ z. and_then (demand asked (too_shared u a)) (λ y. give (ascribed u a.value))) (λ z. and_then (demand asked (too_shared u a')) (λ y. give (ascribed u a'.value))) (λ e. hungry_same u p) (λ e1.
    demand_then asked (λ z. give (ascribed u a.value)) (λ z. give (ascribed u a'.value)) (λ e. too_shared_same u p) (λ e2.
    given_value l t (ascribed_is u (held_value p))))

-- ---- an operation

without_is : {w : World} {asked : Bool} {base ls : Losses} {a a' : Held} (N : Names) (f : Text) → HeldR w asked base ls a a' → HeldR w asked base ls (without_part N f a) (without_part N f a')
without_is N f (held_is before q k s) = held_is before (with_part_named_is N f scalars q) k s

module _ (N : Names) (K : Kinds) (types : Sub) {asked : Bool} {w : World} {lo hi : ℕ} {base ls ls' : Losses} {h h' : Here} where
  of_parts_is : {as_well as_well' : List Held} {v v' : Value} → HereR w asked h h' → LossesR w ls ls' → (asked ≡ true → Since w base ls) → HeldsR w asked base ls as_well as_well' → ValueR (avoiding w (gone asked base)) v v'
      → AnswerR asked w lo hi base (ValueIs asked base) (of_parts N K types h as_well v ls) (of_parts N K types h' as_well' v' ls')
  of_parts_is {v = v} {v' = v'} here l t ps p = settled_is (λ z. give v) (λ z. give v') here l ps (given_value l t p)

  new_is : {as_well as_well' : List Held} (n : ℕ) → HereR w asked h h' → LossesR w ls ls' → (asked ≡ true → Since w base ls) → HeldsR w asked base ls as_well as_well'
      → AnswerR asked w lo hi base (ValueIs asked base) (of_parts N K types h as_well (of_type K [] (types n)) ls) (of_parts N K types h' as_well' (of_type K [] (types n)) ls')
  new_is n here l t ps = of_parts_is here l t ps (of_type_is K (empties (avoiding w (gone asked base))) (types n))

  pub operation_is : {as_well as_well' : List Held} (op : Operation Ref BindId) (n : ℕ) (mark : Place) → HereR w asked h h' → LossesR w ls ls' → (asked ≡ true → Since w base ls) → HeldsR w asked base ls as_well as_well'
      → AnswerR asked w lo hi base (ValueIs asked base) (operation N K types h op n mark as_well ls) (operation N K types h' op n mark as_well' ls')
  operation_is Tuple_of n mark here l t ps = of_parts_is here l t ps (parts_are (row_is ps))
  operation_is (Record_of fs) n mark here l t ps = of_parts_is here l t ps (record_of_is N fs (types n) ps)
  operation_is (Index is) n mark here l t ps = of_parts_is here l t ps (of_type_is K (aliases_are (first_value_is ps)) (types n))
  operation_is (Project f) n mark here l t ps = given_value l t (part_named_is N f (first_value_is ps))
  operation_is Update n mark here l t no_parts = new_is n here l t no_parts
  operation_is Update n mark here l t (more_parts p ps) = update_is mark here l t p ps (of_type_is K (empties (avoiding w (gone asked base))) (types n))
  operation_is (Replace f) n mark here l t no_parts = new_is n here l t no_parts
  operation_is (Replace f) n mark here l t (more_parts p no_parts) = new_is n here l t (more_parts p no_parts)
  operation_is (Replace f) n mark here l t (more_parts p (more_parts q no_parts)) = of_parts_is here l t (more_parts (without_is N f p) (more_parts q no_parts)) (with_part_named_is N f (held_value q) (held_value p))
  operation_is (Replace f) n mark here l t (more_parts p (more_parts q (more_parts r rs))) = new_is n here l t (more_parts p (more_parts q (more_parts r rs)))
  operation_is (Ascribe e) n mark here l t (more_parts p no_parts) = ascribe_is (written_stars N false e (types n)) here l t p
  operation_is (Ascribe e) n mark here l t no_parts = new_is n here l t no_parts
  operation_is (Ascribe e) n mark here l t (more_parts p (more_parts q qs)) = new_is n here l t (more_parts p (more_parts q qs))
  operation_is (Coerce e) n mark here l t (more_parts p no_parts) = ascribe_is (written_stars N false e (types n)) here l t p
  operation_is (Coerce e) n mark here l t no_parts = new_is n here l t no_parts
  operation_is (Coerce e) n mark here l t (more_parts p (more_parts q qs)) = new_is n here l t (more_parts p (more_parts q qs))
  operation_is (Declared e) n mark here l t (more_parts p no_parts) = ascribe_is (written_stars N false e (types n)) here l t p
  operation_is (Declared e) n mark here l t no_parts = new_is n here l t no_parts
  operation_is (Declared e) n mark here l t (more_parts p (more_parts q qs)) = new_is n here l t (more_parts p (more_parts q qs))
  operation_is (Integer c s) n mark here l t ps = new_is n here l t ps
  operation_is (Truth b) n mark here l t ps = new_is n here l t ps
  operation_is Array_of n mark here l t ps = new_is n here l t ps
  operation_is (Binary op) n mark here l t ps = new_is n here l t ps
  operation_is Negate n mark here l t ps = new_is n here l t ps
  operation_is Complement n mark here l t ps = new_is n here l t ps
  operation_is Assert n mark here l t ps = new_is n here l t ps
  operation_is (Range stepped end) n mark here l t ps = new_is n here l t ps
