-- Whether an expression has a name free: the name stands in it outside of what binds it. Types are not looked at.
use Rattle.std.specs.Prelude.{◌≡◌, ◌&&◌, ◌||◌, not, Bool, true, false, List, [], ◌∷◌, map, Some, None}
use Rattle.std.specs.Str.{bytes_eq}
use Rattle.fut_token.specs.declared.token.TokenKind.{TokenKind}
use Rattle.fut_token.specs.declared.token.TokenKind.TheVariants as kind
use Rattle.fut_token.specs.declared.token.Token.{Token}
use Rattle.fut_ast.specs.Sorts.{Text, Path, SourcePat, SourceExp}
use Rattle.fut_ast.specs.declared.node.Joining.{Joining}
use Rattle.fut_ast.specs.declared.node.Joining.TheVariants as way
use Rattle.fut_ast.specs.declared.pat.Pat.{fold-Pat}
use Rattle.fut_ast.specs.declared.pat.PatForm.{PatForm-F}
use Rattle.fut_ast.specs.declared.pat.Head.{Head}
use Rattle.fut_ast.specs.declared.pat.HeadForm.{HeadForm}
use Rattle.fut_ast.specs.declared.pat.HeadForm.TheVariants as head_form
use Rattle.fut_ast.specs.declared.exp.Exp.{fold-Exp}
use Rattle.fut_ast.specs.declared.exp.Form.{Form-F}
use Rattle.fut_ast.specs.declared.exp.Ix.{Ix, Ix-F, fold-Ix}
use Rattle.fut_ast.specs.declared.exp.LoopForm.{LoopForm, LoopForm-F, fold-LoopForm}
use Rattle.fut_ast.specs.declared.exp.Bind.{Bind, Bind-F, fold-Bind}

abbrev pub any : List Bool → Bool
any [] = false
any (b ∷ bs) = b || any bs

abbrev pub is_name : Text → Text → Bool
is_name x y = bytes_eq y x

-- a path uses its first name
abbrev pub path_uses : Text → Path → Bool
path_uses x [] = false
path_uses x (y ∷ ys) = is_name x y

abbrev pub pat_form_binds : Text → PatForm-F Bool Bool → Bool
pat_form_binds x (PatForm-F.Var y) = is_name x y
pat_form_binds x PatForm-F.Wild = false
pat_form_binds x PatForm-F.Unit = false
pat_form_binds x (PatForm-F.Tuple bs) = any bs
pat_form_binds x (PatForm-F.Record fs) = any (map (λ (f : Text × Bool). f.1) fs)
pat_form_binds x (PatForm-F.Ascribe b t) = b

abbrev pub binds : Text → SourcePat → Bool
binds x = fold-Pat Bool Bool (pat_form_binds x) (λ p. p.form)

abbrev pub head_form_binds : Text → HeadForm → Bool
head_form_binds x (head_form.Size y) = is_name x y
head_form_binds x (head_form.Var y lifted) = is_name x y

abbrev pub head_binds : Text → Head → Bool
head_binds x h = head_form_binds x h.form

-- Behind lets a name is free where no earlier let binds it. Of each let: its value has the name free; it binds the name.
abbrev pub free_in_lets : List (Bool × Bool) → Bool → Bool
free_in_lets [] body = body
free_in_lets (b ∷ bs) body = b.0 || (not b.1 && free_in_lets bs body)

abbrev pub free_in_form : Text → Form-F Bool Bool (Bool × Bool) (Bool × Bool) Bool → Bool
free_in_form x (Form-F.Path p) = path_uses x p
free_in_form x (Form-F.Int n t) = false
free_in_form x (Form-F.Bool b) = false
free_in_form x Form-F.Unit = false
free_in_form x (Form-F.Tuple es) = any es
free_in_form x (Form-F.Record fs) = any (map (λ (f : Text × Bool). f.1) fs)
free_in_form x (Form-F.Array es) = any es
free_in_form x (Form-F.Apply f e) = f || e
free_in_form x (Form-F.Binary op a b) = a || b
free_in_form x (Form-F.Unary op a) = a
free_in_form x (Form-F.Lambda ps t e) = not (any (map (binds x) ps)) && e
free_in_form x (Form-F.Lets bs e) = free_in_lets bs e
free_in_form x (Form-F.If c a b) = c || (a || b)
free_in_form x (Form-F.Loop sizes p e over body) = e || (not (any (map (is_name x) sizes) || binds x p) && (over.0 || (not over.1 && body)))
free_in_form x (Form-F.Index e ixs) = e || any ixs
free_in_form x (Form-F.Field e y) = e
free_in_form x (Form-F.Update a es e) = a || (any es || e)
free_in_form x (Form-F.Replace r y e) = r || e
free_in_form x (Form-F.Ascribe e t) = e
free_in_form x (Form-F.Coerce e t) = e
free_in_form x (Form-F.Assert c e) = c || e
free_in_form x (Form-F.Range e None end g) = e || g
free_in_form x (Form-F.Range e (Some f) end g) = e || (f || g)

abbrev pub free_in_index : Ix-F Bool Bool (Bool × Bool) (Bool × Bool) Bool → Bool
free_in_index (Ix-F.At e) = e
free_in_index (Ix-F.Slice None None) = false
free_in_index (Ix-F.Slice (Some e) None) = e
free_in_index (Ix-F.Slice None (Some f)) = f
free_in_index (Ix-F.Slice (Some e) (Some f)) = e || f
free_in_index Ix-F.Backwards = false

-- of what a loop goes over: it has the name free; it binds the name
abbrev pub free_in_loop : Text → LoopForm-F Bool Bool (Bool × Bool) (Bool × Bool) Bool → Bool × Bool
free_in_loop x (LoopForm-F.For y e) = (e, is_name x y)
free_in_loop x (LoopForm-F.ForIn p e) = (e, binds x p)
free_in_loop x (LoopForm-F.While e) = (e, false)

-- of one let: its value has the name free, where no parameter of its head binds it; it binds the name
abbrev pub free_in_let : Text → Bind-F Bool Bool (Bool × Bool) (Bool × Bool) Bool → Bool × Bool
free_in_let x b = (not (any (map (head_binds x) b.heads)) && b.value, any (map (is_name x) b.sizes) || binds x b.pat)

unfoldable pub free : Text → SourceExp → Bool
free x = fold-Exp Bool Bool (Bool × Bool) (Bool × Bool) Bool (free_in_form x) free_in_index (free_in_loop x) (free_in_let x) (λ e. e.form)

unfoldable pub index_free : Text → Ix → Bool
index_free x = fold-Ix Bool Bool (Bool × Bool) (Bool × Bool) Bool (free_in_form x) free_in_index (free_in_loop x) (free_in_let x) (λ e. e.form)

unfoldable pub loop_free : Text → LoopForm → Bool × Bool
loop_free x = fold-LoopForm Bool Bool (Bool × Bool) (Bool × Bool) Bool (free_in_form x) free_in_index (free_in_loop x) (free_in_let x) (λ e. e.form)

unfoldable pub let_free : Text → Bind → Bool × Bool
let_free x = fold-Bind Bool Bool (Bool × Bool) (Bool × Bool) Bool (free_in_form x) free_in_index (free_in_loop x) (free_in_let x) (λ e. e.form)

-- both names are free in it
abbrev pub Uses_both : Text → Text → SourceExp → Type 0
Uses_both x y e = (free x e ≡ true) × (free y e ≡ true)

-- an operator uses the name: it stands in the operator's backticks
abbrev pub calls : Text → Joining → Text → Bool
calls x way.Named y = is_name x y
calls x w y = false

-- a token spells the name
abbrev pub kind_spells : Text → TokenKind → Bool
kind_spells x (kind.Name y) = is_name x y
kind_spells x k = false

abbrev pub spelled_in : Text → List Token → Bool
spelled_in x [] = false
spelled_in x (t ∷ ts) = kind_spells x t.kind || spelled_in x ts
