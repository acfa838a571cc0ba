-- Which names an expression has free, by its form.
use Rattle.std.proofs.Common.{◌≡◌, Bool, true, false, ◌||◌, ◌&&◌, not, List, [], ◌∷◌, map, Option, Some, None, refl, sym, ap, ◌∙◌}
use Rattle.std.proofs.Math.Bool.{or-false}
use Rattle.fut_scalar.specs.declared.place.Place.{Place}
use Rattle.fut_ast.specs.declared.exp.Exp.{fold-roll-Exp}
use Rattle.fut_ast.specs.declared.exp.Form.{Form, Form-F, fold-Form, fold_out-Form, map-Form, out-Form}
use Rattle.fut_ast.specs.declared.exp.Ix.{Ix, Ix-F, out-Ix, fold_out-Ix}
use Rattle.fut_ast.specs.declared.exp.Ix.TheVariants as ix
use Rattle.fut_ast.specs.declared.exp.LoopForm.{LoopForm, LoopForm-F, out-LoopForm, fold_out-LoopForm}
use Rattle.fut_ast.specs.declared.exp.LoopForm.TheVariants as loop_form
use Rattle.fut_ast.specs.declared.pat.Head.{Head}
use Rattle.fut_ast.specs.declared.pat.Pat.{fold-roll-Pat}
use Rattle.fut_ast.specs.declared.pat.PatForm.{PatForm-F, out-PatForm, fold_out-PatForm}
use Rattle.fut_ast.specs.declared.pat.PatForm.TheVariants as pat_form
use Rattle.fut_ast.specs.declared.exp.Bind.{Bind, fold-roll-Bind, roll-Bind}
use Rattle.fut_ast.specs.Sorts.{Text, Path, SourcePat, SourceExp}
use Rattle.fut_ast.specs.Nodes.{node, let_one, bound}
use Rattle.fut_grammar.specs.FreeNames.{any, is_name, path_uses, binds, free_in_lets, free_in_form, free_in_index, free_in_loop, free_in_let, head_binds, pat_form_binds, free, index_free, loop_free, let_free}

abbrev pub Layer : Type 0
Layer = Form-F Form Ix LoopForm Bind SourceExp

map_map : {X Y Z : Type 0} (f : X → Y) (g : Y → Z) (xs : List X) → map g (map f xs) ≡ map (λ x. g (f x)) xs
map_map f g [] = refl
map_map f g (x ∷ xs) = ap (λ zs. g (f x) ∷ zs) (map_map f g xs)

module _ (x : Text) where
  abbrev pub layer_free : Layer → Bool
  layer_free (Form-F.Path p) = path_uses x p
  layer_free (Form-F.Int n t) = false
  layer_free (Form-F.Bool b) = false
  layer_free Form-F.Unit = false
  layer_free (Form-F.Tuple es) = any (map (free x) es)
  layer_free (Form-F.Record fs) = any (map (λ (f : Text × SourceExp). free x f.1) fs)
  layer_free (Form-F.Array es) = any (map (free x) es)
  layer_free (Form-F.Apply f e) = free x f || free x e
  layer_free (Form-F.Binary op a b) = free x a || free x b
  layer_free (Form-F.Unary op a) = free x a
  layer_free (Form-F.Lambda ps t e) = not (any (map (binds x) ps)) && free x e
  layer_free (Form-F.Lets bs e) = free_in_lets (map (let_free x) bs) (free x e)
  layer_free (Form-F.If c a b) = free x c || (free x a || free x b)
  layer_free (Form-F.Loop sizes p e over body) = free x e || (not (any (map (is_name x) sizes) || binds x p) && ((loop_free x over).0 || (not (loop_free x over).1 && free x body)))
  layer_free (Form-F.Index e ixs) = free x e || any (map (index_free x) ixs)
  layer_free (Form-F.Field e y) = free x e
  layer_free (Form-F.Update a es e) = free x a || (any (map (free x) es) || free x e)
  layer_free (Form-F.Replace r y e) = free x r || free x e
  layer_free (Form-F.Ascribe e t) = free x e
  layer_free (Form-F.Coerce e t) = free x e
  layer_free (Form-F.Assert c e) = free x c || free x e
  layer_free (Form-F.Range e None end g) = free x e || free x g
  layer_free (Form-F.Range e (Some f) end g) = free x e || (free x f || free x g)

  abbrev form_free : Form → Bool
  form_free = fold-Form Bool Bool (Bool × Bool) (Bool × Bool) Bool (free_in_form x) free_in_index (free_in_loop x) (free_in_let x) (λ e. e.form)

  levels : (l : Layer) → free_in_form x (map-Form Form Ix LoopForm Bind SourceExp Bool Bool (Bool × Bool) (Bool × Bool) Bool form_free (index_free x) (loop_free x) (let_free x) (free x) l) ≡ layer_free l
  levels (Form-F.Path p) = refl
  levels (Form-F.Int n t) = refl
  levels (Form-F.Bool b) = refl
  levels Form-F.Unit = refl
  levels (Form-F.Tuple es) = refl
  levels (Form-F.Record fs) = ap any (map_map _ _ fs)
  levels (Form-F.Array es) = refl
  levels (Form-F.Apply f e) = refl
  levels (Form-F.Binary op a b) = refl
  levels (Form-F.Unary op a) = refl
  levels (Form-F.Lambda ps t e) = refl
  levels (Form-F.Lets bs e) = refl
  levels (Form-F.If c a b) = refl
  levels (Form-F.Loop sizes p e over body) = refl
  levels (Form-F.Index e ixs) = refl
  levels (Form-F.Field e y) = refl
  levels (Form-F.Update a es e) = refl
  levels (Form-F.Replace r y e) = refl
  levels (Form-F.Ascribe e t) = refl
  levels (Form-F.Coerce e t) = refl
  levels (Form-F.Assert c e) = refl
  levels (Form-F.Range e None end g) = refl
  levels (Form-F.Range e (Some f) end g) = refl

  pub free_node : (from mark : Place) (f : Form) (l : Layer) → out-Form f ≡ l → free x (node from mark f) ≡ layer_free l
  unfolding free index_free loop_free let_free
  free_node from mark f l o =
      fold-roll-Exp Bool Bool (Bool × Bool) (Bool × Bool) Bool (free_in_form x) free_in_index (free_in_loop x) (free_in_let x) (λ e. e.form) (record { place = from; mark = mark; form = f })
      ∙ fold_out-Form Bool Bool (Bool × Bool) (Bool × Bool) Bool (free_in_form x) free_in_index (free_in_loop x) (free_in_let x) (λ e. e.form) f
      ∙ levels (out-Form f)
      ∙ ap layer_free o

  pub free_any_let : (sizes : List Text) (p : SourcePat) (is_function : Bool) (heads : List Head) (e : SourceExp) → let_free x (roll-Bind (record { sizes = sizes; pat = p; is_function = is_function; heads = heads; value = e })) ≡ (not (any (map (head_binds x) heads)) && free x e, any (map (is_name x) sizes) || binds x p)
  unfolding let_free free
  free_any_let sizes p is_function heads e = fold-roll-Bind Bool Bool (Bool × Bool) (Bool × Bool) Bool (free_in_form x) free_in_index (free_in_loop x) (free_in_let x) (λ e. e.form) (record { sizes = sizes; pat = p; is_function = is_function; heads = heads; value = e })

  pub free_index_at : (e : SourceExp) → index_free x (ix.At e) ≡ free x e
  unfolding index_free free
  free_index_at e = fold_out-Ix Bool Bool (Bool × Bool) (Bool × Bool) Bool (free_in_form x) free_in_index (free_in_loop x) (free_in_let x) (λ e. e.form) (ix.At e) ∙ (let o : out-Ix (ix.At e) ≡ Ix-F.At e = ix.outs-At e in rw o refl)

  abbrev pub maybe_free : Option SourceExp → Bool
  maybe_free None = false
  maybe_free (Some e) = free x e

  pub free_slice : (e f : Option SourceExp) → index_free x (ix.Slice e f) ≡ (maybe_free e || maybe_free f)
  unfolding index_free free
  free_slice None None = fold_out-Ix Bool Bool (Bool × Bool) (Bool × Bool) Bool (free_in_form x) free_in_index (free_in_loop x) (free_in_let x) (λ e. e.form) (ix.Slice None None) ∙ (let o : out-Ix (ix.Slice None None) ≡ Ix-F.Slice None None = ix.outs-Slice None None in rw o refl)
  free_slice (Some e) None = fold_out-Ix Bool Bool (Bool × Bool) (Bool × Bool) Bool (free_in_form x) free_in_index (free_in_loop x) (free_in_let x) (λ e. e.form) (ix.Slice (Some e) None) ∙ (let o : out-Ix (ix.Slice (Some e) None) ≡ Ix-F.Slice (Some e) None = ix.outs-Slice (Some e) None in rw o refl) ∙ sym (or-false (free x e))
  free_slice None (Some f) = fold_out-Ix Bool Bool (Bool × Bool) (Bool × Bool) Bool (free_in_form x) free_in_index (free_in_loop x) (free_in_let x) (λ e. e.form) (ix.Slice None (Some f)) ∙ (let o : out-Ix (ix.Slice None (Some f)) ≡ Ix-F.Slice None (Some f) = ix.outs-Slice None (Some f) in rw o refl)
  free_slice (Some e) (Some f) = fold_out-Ix Bool Bool (Bool × Bool) (Bool × Bool) Bool (free_in_form x) free_in_index (free_in_loop x) (free_in_let x) (λ e. e.form) (ix.Slice (Some e) (Some f)) ∙ (let o : out-Ix (ix.Slice (Some e) (Some f)) ≡ Ix-F.Slice (Some e) (Some f) = ix.outs-Slice (Some e) (Some f) in rw o refl)

  pub free_backwards : index_free x ix.Backwards ≡ false
  unfolding index_free
  free_backwards = fold_out-Ix Bool Bool (Bool × Bool) (Bool × Bool) Bool (free_in_form x) free_in_index (free_in_loop x) (free_in_let x) (λ e. e.form) ix.Backwards ∙ (let o : out-Ix ix.Backwards ≡ Ix-F.Backwards = ix.outs-Backwards in rw o refl)

  pub free_for : (y : Text) (e : SourceExp) → (loop_free x (loop_form.For y e)).0 ≡ free x e
  unfolding loop_free free
  free_for y e = ap (λ (b : Bool × Bool). b.0) (fold_out-LoopForm Bool Bool (Bool × Bool) (Bool × Bool) Bool (free_in_form x) free_in_index (free_in_loop x) (free_in_let x) (λ e. e.form) (loop_form.For y e)) ∙ (let o : out-LoopForm (loop_form.For y e) ≡ LoopForm-F.For y e = loop_form.outs-For y e in rw o refl)

  pub free_for_in : (p : SourcePat) (e : SourceExp) → (loop_free x (loop_form.ForIn p e)).0 ≡ free x e
  unfolding loop_free free
  free_for_in p e = ap (λ (b : Bool × Bool). b.0) (fold_out-LoopForm Bool Bool (Bool × Bool) (Bool × Bool) Bool (free_in_form x) free_in_index (free_in_loop x) (free_in_let x) (λ e. e.form) (loop_form.ForIn p e)) ∙ (let o : out-LoopForm (loop_form.ForIn p e) ≡ LoopForm-F.ForIn p e = loop_form.outs-ForIn p e in rw o refl)

  pub free_while : (e : SourceExp) → (loop_free x (loop_form.While e)).0 ≡ free x e
  unfolding loop_free free
  free_while e = ap (λ (b : Bool × Bool). b.0) (fold_out-LoopForm Bool Bool (Bool × Bool) (Bool × Bool) Bool (free_in_form x) free_in_index (free_in_loop x) (free_in_let x) (λ e. e.form) (loop_form.While e)) ∙ (let o : out-LoopForm (loop_form.While e) ≡ LoopForm-F.While e = loop_form.outs-While e in rw o refl)

  pub free_let : (p : SourcePat) (e : SourceExp) → let_free x (let_one p e) ≡ (free x e, binds x p)
  unfolding let_free free
  free_let p e = fold-roll-Bind Bool Bool (Bool × Bool) (Bool × Bool) Bool (free_in_form x) free_in_index (free_in_loop x) (free_in_let x) (λ e. e.form) (record { sizes = []; pat = p; is_function = false; heads = []; value = e })

  pub binds_bound : (place : Place) (y : Text) → binds x (bound place y) ≡ is_name x y
  binds_bound place y =
      fold-roll-Pat Bool Bool (pat_form_binds x) (λ p. p.form) (record { place = place; form = pat_form.Var y })
      ∙ fold_out-PatForm Bool Bool (pat_form_binds x) (λ p. p.form) (pat_form.Var y)
      ∙ (let o : out-PatForm (pat_form.Var y) ≡ PatForm-F.Var y = pat_form.outs-Var y in rw o refl)
