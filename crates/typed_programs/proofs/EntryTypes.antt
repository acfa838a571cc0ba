-- Types from which a run may begin, read layer by layer.
use Rattle.std.proofs.Common.{◌≡◌, Bool, true, false, ℕ, zero, suc, ◌+◌, ◌-◌, ◌==◌, ◌≤◌, ◌<◌, List, [], ◌∷◌, ◌++◌, length, min, refl, sym, ◌∙◌, ap, subst, arith, Some, None}
use Rattle.std.proofs.lemmas.Bool.{eqb-true}
use Rattle.std.proofs.lemmas.List.{length-append}
use Rattle.fut_scalar.specs.declared.scalar.ScalarType.{ScalarType}
use Rattle.fut_scalar.specs.declared.sizes.DataType.{DataType}
use Rattle.fut_scalar.specs.declared.scalar.ScalarType.TheVariants as scalar
use Rattle.fut_types.specs.declared.Head.{Head}
use Rattle.fut_types.specs.declared.Head.TheVariants as head
use Rattle.fut_types.specs.declared.Kind.TheVariants as kind
use Rattle.fut_types.specs.Types.{Ty, Made, Tys, none, more, Kinds, HasKind, rank, least, scalar_ty, fun_ty}
use Rattle.fut_types.proofs.TyLaws.{rank_made, least_none, least_more}
use Rattle.fut_typing.specs.Patterns.{arrows}
use Rattle.type_graph.specs.declared.Form.{Form}
use Rattle.type_graph.specs.declared.Form.TheVariants as form
use Rattle.type_graph.specs.Graph.{Within}
use Rattle.type_infer.specs.Reading.{Shown, Row_comes, Is_made}
use Rattle.type_soundness.specs.Walks.{All_hold_data}
use Rattle.typed_programs.specs.Forms.{array_form, function_form, scalar_form, tuple_form}
use Rattle.typed_programs.specs.declared.entries.EntryTypeErr.{EntryTypeErr}
use Rattle.typed_programs.specs.declared.entries.EntryTypeErr.TheVariants as err
use Rattle.typed_programs.specs.EntryTypes.{array_ty, data_ty, data_tys, Results_are}
use Rattle.typed_programs.specs.Entries.{Because, Levels_are, No_array, No_data, No_entry_type, No_function, Pushed, Parameters_are, Row_is, No_row_of_data, Results_at, No_results, Type_is}
use Rattle.typed_programs.proofs.Reading.{scalar_tells, scalar_denies, none_some, if_some, if_none, some_same, made_variable, same_head, same_parts, none_more, no_types, some_types, made_head}

first_part : (t u : Ty) (ts us : Tys) → more t ts ≡ more u us → t ≡ u
first_part t u ts us e = cc

other_parts : (t u : Ty) (ts us : Tys) → more t ts ≡ more u us → ts ≡ us
other_parts t u ts us e = cc

no_head : (R : Shown) (g : Head) (x n : ℕ) (h : Head) (ts : Tys) (t : Ty) → (g ≡ h → ⊥) → Is_made R (form.Made g x n) t → t ≡ Made h ts → ⊥
no_head R g x n h ts t other m e = other (made_head R g h x n t ts m e)

true_false : true ≡ false → ⊥
true_false e = cc

-- ---- data of an entry
no_array_head : (h : Head) (ts : Tys) (r : ℕ) (s : ScalarType) → (h ≡ head.Array → ⊥) → (h ≡ head.Scalar s → ⊥) → Made h ts ≡ array_ty r (scalar_ty s) → ⊥
no_array_head h ts zero s array scalar e = scalar (same_head h (head.Scalar s) ts none e)
no_array_head h ts (suc r) s array scalar e = array (same_head h head.Array ts (more (array_ty r (scalar_ty s)) none) e)

-- what is neither an array nor a scalar is none
no_data_head : (h : Head) (ts : Tys) (t : DataType) → (h ≡ head.Array → ⊥) → ((s : ScalarType) → h ≡ head.Scalar s → ⊥) → Made h ts ≡ data_ty t → ⊥
no_data_head h ts t array scalar e = no_array_head h ts t.rank t.elem array (scalar t.elem) e

array_tells : (R : Shown) (f : Form) (first : ℕ) → array_form f ≡ Some first → (t : Ty) → Is_made R f t → (x : Ty) × R first x × (t ≡ array_ty 1 x)
array_tells R form.Free first e t m = absurd (none_some first e)
array_tells R (form.Link j) first e t m = absurd (none_some first e)
array_tells R (form.Open c n) first e t m = absurd (none_some first e)
array_tells R (form.Made (head.Scalar s) x n) first e t m = absurd (none_some first e)
array_tells R (form.Made head.Fun x n) first e t m = absurd (none_some first e)
array_tells R (form.Made head.Tuple x n) first e t m = absurd (none_some first e)
array_tells R (form.Made (head.Record r) x n) first e t m = absurd (none_some first e)
array_tells R (form.Made (head.Rigid b k) x n) first e t m = absurd (none_some first e)
array_tells R (form.Made (head.Abstract b d) x n) first e t m = absurd (none_some first e)
array_tells R (form.Made head.Array x n) first e t m =
    let one = if_some (n == 1) x first e in
    let row : Row_comes R first 1 m.0 = subst (λ k. Row_comes R k 1 m.0) one.1 (subst (λ k. Row_comes R x k m.0) (eqb-true n 1 one.0) m.2) in
    let p = some_types R first 0 m.0 row in
    (p.0, p.3, m.1 ∙ ap (Made head.Array) (p.2 ∙ ap (more p.0) (no_types R (suc first) p.1 p.4)))

array_within : (many n : ℕ) (f : Form) (first : ℕ) → array_form f ≡ Some first → Within many n f → first < many
array_within many n form.Free first e w = absurd (none_some first e)
array_within many n (form.Link j) first e w = absurd (none_some first e)
array_within many n (form.Open c k) first e w = absurd (none_some first e)
array_within many n (form.Made (head.Scalar s) x k) first e w = absurd (none_some first e)
array_within many n (form.Made head.Fun x k) first e w = absurd (none_some first e)
array_within many n (form.Made head.Tuple x k) first e w = absurd (none_some first e)
array_within many n (form.Made (head.Record r) x k) first e w = absurd (none_some first e)
array_within many n (form.Made (head.Rigid b d) x k) first e w = absurd (none_some first e)
array_within many n (form.Made (head.Abstract b d) x k) first e w = absurd (none_some first e)
array_within many n (form.Made head.Array x k) first e w = let one = if_some (k == 1) x first e in let is : k ≡ 1 = eqb-true k 1 one.0 in let same : x ≡ first = one.1 in let le : x + k ≤ many = w in omega (arith, is, same, le)

one_count : (R : Shown) (x n : ℕ) (t : Ty) → Row_comes R x n (more t none) → n ≡ 1
one_count R x zero t r = absurd r
one_count R x (suc zero) t r = refl
one_count R x (suc (suc n)) t r = absurd r.1

array_denies : (R : Shown) (f : Form) → array_form f ≡ None → (t : Ty) → Is_made R f t → (u : Ty) → t ≡ array_ty 1 u → ⊥
array_denies R form.Free e t m u is = made_variable head.Array (more u none) m.0 (sym is ∙ m.1)
array_denies R (form.Link j) e t m u is = m
array_denies R (form.Open c n) e t m u is = made_variable head.Array (more u none) m.0 (sym is ∙ m.1)
array_denies R (form.Made (head.Scalar s) z n) e t m u is = no_head R (head.Scalar s) z n head.Array _ t (λ w. cc) m is
array_denies R (form.Made head.Fun z n) e t m u is = no_head R head.Fun z n head.Array _ t (λ w. cc) m is
array_denies R (form.Made head.Tuple z n) e t m u is = no_head R head.Tuple z n head.Array _ t (λ w. cc) m is
array_denies R (form.Made (head.Record r) z n) e t m u is = no_head R (head.Record r) z n head.Array _ t (λ w. cc) m is
array_denies R (form.Made (head.Rigid b k) z n) e t m u is = no_head R (head.Rigid b k) z n head.Array _ t (λ w. cc) m is
array_denies R (form.Made (head.Abstract b d) z n) e t m u is = no_head R (head.Abstract b d) z n head.Array _ t (λ w. cc) m is
array_denies R (form.Made head.Array z n) e t m u is =
    let row : Row_comes R z n (more u none) = subst (Row_comes R z n) (same_parts head.Array head.Array m.0 (more u none) (sym m.1 ∙ is)) m.2 in
    let one : n ≡ 1 = one_count R z n u row in
    let deny : (n == 1) ≡ false = if_none (n == 1) z e in
    true_false (sym (ap (λ k. k == 1) one) ∙ deny)

-- a level more
array_more : (r : ℕ) (u : Ty) → array_ty r (array_ty 1 u) ≡ array_ty (suc r) u
array_more zero u = refl
array_more (suc r) u = ap (λ t. array_ty 1 t) (array_more r u)

pub no_levels : (R : Shown) (n : ℕ) → Levels_are R n 0 n
no_levels R n t c = (t, c, refl)

pub levels_more : (R : Shown) (n rank m first : ℕ) (f : Form) → Levels_are R n rank m → ((t : Ty) → R m t → Is_made R f t) → array_form f ≡ Some first → Levels_are R n (suc rank) first
levels_more R n rank m first f h made is t c =
    let r = h t c in
    let p = array_tells R f first is r.0 (made r.0 r.1) in
    (p.0, p.1, r.2 ∙ ap (array_ty rank) p.2 ∙ array_more rank p.0)

pub level_within : (many n : ℕ) (f : Form) (first : ℕ) → array_form f ≡ Some first → Within many n f → first < many
level_within = array_within

pub no_level : (R : Shown) (m : ℕ) (f : Form) → ((t : Ty) → R m t → Is_made R f t) → array_form f ≡ None → No_array R m
no_level R m f made is t c u e = array_denies R f is t (made t c) u e

pub data_read : (R : Shown) (n rank m : ℕ) (f : Form) (s : ScalarType) → Levels_are R n rank m → ((t : Ty) → R m t → Is_made R f t) → scalar_form f ≡ Some s → (t : Ty) → R n t → t ≡ array_ty rank (scalar_ty s)
data_read R n rank m f s h made is t c = let r = h t c in r.2 ∙ ap (array_ty rank) (scalar_tells f s is R r.0 (made r.0 r.1))

array_part : (t u : Ty) → array_ty 1 t ≡ array_ty 1 u → t ≡ u
array_part t u e = first_part t u none none (same_parts head.Array head.Array (more t none) (more u none) e)

scalar_array : (s : ScalarType) (t : Ty) → array_ty 1 t ≡ scalar_ty s → ⊥
scalar_array s t e = cc

below_none : (rank r : ℕ) (u : Ty) (s : ScalarType) → ((v : Ty) → u ≡ array_ty 1 v → ⊥) → ((z : ScalarType) → u ≡ scalar_ty z → ⊥) → array_ty rank u ≡ array_ty r (scalar_ty s) → ⊥
below_none zero zero u s array scalar e = scalar s e
below_none zero (suc r) u s array scalar e = array (array_ty r (scalar_ty s)) e
below_none (suc rank) zero u s array scalar e = scalar_array s (array_ty rank u) e
below_none (suc rank) (suc r) u s array scalar e = below_none rank r u s array scalar (array_part (array_ty rank u) (array_ty r (scalar_ty s)) e)

pub none_read : (R : Shown) (n rank m : ℕ) (f : Form) → Levels_are R n rank m → No_array R m → ((t : Ty) → R m t → Is_made R f t) → scalar_form f ≡ None → No_data R n
none_read R n rank m f h last made is t c s e =
    let r = h t c in
    below_none rank s.rank r.0 s.elem (λ v w. last r.0 r.1 v w) (λ z w. scalar_denies f is R r.0 (made r.0 r.1) z w) (sym r.2 ∙ e)

-- ---- functions
pub function_tells : (R : Shown) (f : Form) (first : ℕ) → function_form f ≡ Some first → (t : Ty) → Is_made R f t → (x : Ty) × (y : Ty) × R first x × R (suc first) y × (t ≡ fun_ty x y)
function_tells R form.Free first e t m = absurd (none_some first e)
function_tells R (form.Link j) first e t m = absurd (none_some first e)
function_tells R (form.Open c n) first e t m = absurd (none_some first e)
function_tells R (form.Made (head.Scalar s) x n) first e t m = absurd (none_some first e)
function_tells R (form.Made head.Array x n) first e t m = absurd (none_some first e)
function_tells R (form.Made head.Tuple x n) first e t m = absurd (none_some first e)
function_tells R (form.Made (head.Record r) x n) first e t m = absurd (none_some first e)
function_tells R (form.Made (head.Rigid b k) x n) first e t m = absurd (none_some first e)
function_tells R (form.Made (head.Abstract b d) x n) first e t m = absurd (none_some first e)
function_tells R (form.Made head.Fun x n) first e t m =
    let two = if_some (n == 2) x first e in
    let row : Row_comes R first 2 m.0 = subst (λ k. Row_comes R k 2 m.0) two.1 (subst (λ k. Row_comes R x k m.0) (eqb-true n 2 two.0) m.2) in
    let p = some_types R first 1 m.0 row in
    let q = some_types R (suc first) 0 p.1 p.4 in
    let end : q.1 ≡ none = no_types R (suc (suc first)) q.1 q.4 in
    (p.0, q.0, p.3, q.3, m.1 ∙ ap (Made head.Fun) (p.2 ∙ ap (more p.0) (q.2 ∙ ap (more q.0) end)))

pub function_within : (many n : ℕ) (f : Form) (first : ℕ) → function_form f ≡ Some first → Within many n f → first + 1 < many
function_within many n form.Free first e w = absurd (none_some first e)
function_within many n (form.Link j) first e w = absurd (none_some first e)
function_within many n (form.Open c k) first e w = absurd (none_some first e)
function_within many n (form.Made (head.Scalar s) x k) first e w = absurd (none_some first e)
function_within many n (form.Made head.Array x k) first e w = absurd (none_some first e)
function_within many n (form.Made head.Tuple x k) first e w = absurd (none_some first e)
function_within many n (form.Made (head.Record r) x k) first e w = absurd (none_some first e)
function_within many n (form.Made (head.Rigid b d) x k) first e w = absurd (none_some first e)
function_within many n (form.Made (head.Abstract b d) x k) first e w = absurd (none_some first e)
function_within many n (form.Made head.Fun x k) first e w = let two = if_some (k == 2) x first e in let is : k ≡ 2 = eqb-true k 2 two.0 in let same : x ≡ first = two.1 in let le : x + k ≤ many = w in omega (arith, is, same, le)

pair_count : (R : Shown) (x n : ℕ) (s t : Ty) → Row_comes R x n (more s (more t none)) → n ≡ 2
pair_count R x zero s t r = absurd r
pair_count R x (suc zero) s t r = absurd r.1
pair_count R x (suc (suc zero)) s t r = refl
pair_count R x (suc (suc (suc n))) s t r = absurd r.1.1

pub function_denies : (R : Shown) (f : Form) → function_form f ≡ None → (t : Ty) → Is_made R f t → (x y : Ty) → t ≡ fun_ty x y → ⊥
function_denies R form.Free e t m x y is = made_variable head.Fun (more x (more y none)) m.0 (sym is ∙ m.1)
function_denies R (form.Link j) e t m x y is = m
function_denies R (form.Open c n) e t m x y is = made_variable head.Fun (more x (more y none)) m.0 (sym is ∙ m.1)
function_denies R (form.Made (head.Scalar s) z n) e t m x y is = no_head R (head.Scalar s) z n head.Fun _ t (λ w. cc) m is
function_denies R (form.Made head.Array z n) e t m x y is = no_head R head.Array z n head.Fun _ t (λ w. cc) m is
function_denies R (form.Made head.Tuple z n) e t m x y is = no_head R head.Tuple z n head.Fun _ t (λ w. cc) m is
function_denies R (form.Made (head.Record r) z n) e t m x y is = no_head R (head.Record r) z n head.Fun _ t (λ w. cc) m is
function_denies R (form.Made (head.Rigid b k) z n) e t m x y is = no_head R (head.Rigid b k) z n head.Fun _ t (λ w. cc) m is
function_denies R (form.Made (head.Abstract b d) z n) e t m x y is = no_head R (head.Abstract b d) z n head.Fun _ t (λ w. cc) m is
function_denies R (form.Made head.Fun z n) e t m x y is =
    let row : Row_comes R z n (more x (more y none)) = subst (Row_comes R z n) (same_parts head.Fun head.Fun m.0 (more x (more y none)) (sym m.1 ∙ is)) m.2 in
    let two : n ≡ 2 = pair_count R z n x y row in
    let deny : (n == 2) ≡ false = if_none (n == 2) z e in
    true_false (sym (ap (λ k. k == 2) two) ∙ deny)

-- ---- tuples
pub tuple_tells : (R : Shown) (f : Form) (first many : ℕ) → tuple_form f ≡ Some (first, many) → (t : Ty) → Is_made R f t → (ts : Tys) × (t ≡ Made head.Tuple ts) × Row_comes R first many ts
tuple_tells R form.Free first many e t m = absurd (none_some (first, many) e)
tuple_tells R (form.Link j) first many e t m = absurd (none_some (first, many) e)
tuple_tells R (form.Open c n) first many e t m = absurd (none_some (first, many) e)
tuple_tells R (form.Made (head.Scalar s) x n) first many e t m = absurd (none_some (first, many) e)
tuple_tells R (form.Made head.Array x n) first many e t m = absurd (none_some (first, many) e)
tuple_tells R (form.Made head.Fun x n) first many e t m = absurd (none_some (first, many) e)
tuple_tells R (form.Made (head.Record r) x n) first many e t m = absurd (none_some (first, many) e)
tuple_tells R (form.Made (head.Rigid b k) x n) first many e t m = absurd (none_some (first, many) e)
tuple_tells R (form.Made (head.Abstract b d) x n) first many e t m = absurd (none_some (first, many) e)
tuple_tells R (form.Made head.Tuple x n) first many e t m = let p = some_same (x, n) (first, many) e in (m.0, m.1, subst (λ (q : ℕ × ℕ). Row_comes R q.0 q.1 m.0) p m.2)

pub tuple_within : (many n : ℕ) (f : Form) (first count : ℕ) → tuple_form f ≡ Some (first, count) → Within many n f → first + count ≤ many
tuple_within many n form.Free first count e w = absurd (none_some (first, count) e)
tuple_within many n (form.Link j) first count e w = absurd (none_some (first, count) e)
tuple_within many n (form.Open c k) first count e w = absurd (none_some (first, count) e)
tuple_within many n (form.Made (head.Scalar s) x k) first count e w = absurd (none_some (first, count) e)
tuple_within many n (form.Made head.Array x k) first count e w = absurd (none_some (first, count) e)
tuple_within many n (form.Made head.Fun x k) first count e w = absurd (none_some (first, count) e)
tuple_within many n (form.Made (head.Record r) x k) first count e w = absurd (none_some (first, count) e)
tuple_within many n (form.Made (head.Rigid b d) x k) first count e w = absurd (none_some (first, count) e)
tuple_within many n (form.Made (head.Abstract b d) x k) first count e w = absurd (none_some (first, count) e)
tuple_within many n (form.Made head.Tuple x k) first count e w = subst (λ (q : ℕ × ℕ). q.0 + q.1 ≤ many) (some_same (x, k) (first, count) e) w

pub tuple_denies : (R : Shown) (f : Form) → tuple_form f ≡ None → (t : Ty) → Is_made R f t → (ts : Tys) → t ≡ Made head.Tuple ts → ⊥
tuple_denies R form.Free e t m ts is = made_variable head.Tuple ts m.0 (sym is ∙ m.1)
tuple_denies R (form.Link j) e t m ts is = m
tuple_denies R (form.Open c n) e t m ts is = made_variable head.Tuple ts m.0 (sym is ∙ m.1)
tuple_denies R (form.Made (head.Scalar s) z n) e t m ts is = no_head R (head.Scalar s) z n head.Tuple ts t (λ w. cc) m is
tuple_denies R (form.Made head.Array z n) e t m ts is = no_head R head.Array z n head.Tuple ts t (λ w. cc) m is
tuple_denies R (form.Made head.Fun z n) e t m ts is = no_head R head.Fun z n head.Tuple ts t (λ w. cc) m is
tuple_denies R (form.Made (head.Record r) z n) e t m ts is = no_head R (head.Record r) z n head.Tuple ts t (λ w. cc) m is
tuple_denies R (form.Made (head.Rigid b k) z n) e t m ts is = no_head R (head.Rigid b k) z n head.Tuple ts t (λ w. cc) m is
tuple_denies R (form.Made (head.Abstract b d) z n) e t m ts is = no_head R (head.Abstract b d) z n head.Tuple ts t (λ w. cc) m is
tuple_denies R (form.Made head.Tuple z n) e t m ts is = none_some (z, n) (sym e)

-- ---- parameters
arrows_more : (ps : List DataType) (s : DataType) (u : Ty) → arrows (data_tys (ps ++ s ∷ [])) u ≡ arrows (data_tys ps) (fun_ty (data_ty s) u)
unfolding data_tys
arrows_more [] s u = refl
arrows_more (p ∷ ps) s u = ap (fun_ty (data_ty p)) (arrows_more ps s u)

pub parameters_none : (R : Shown) (n : ℕ) (ps : List DataType) → ps ≡ [] → Parameters_are R n ps n
unfolding data_tys
parameters_none R n ps e t c = (t, c, ap (λ l. arrows (data_tys l) t) (sym e))

-- a function of one more parameter
pub parameters_more : (R : Shown) (n node first : ℕ) (ps ps' : List DataType) (f : Form) → Parameters_are R n ps node → ((t : Ty) → R node t → Is_made R f t) → function_form f ≡ Some first
    → Pushed R first ps ps' → Parameters_are R n ps' (suc first)
parameters_more R n node first ps ps' f h made is pushed t c =
    let r = h t c in
    let p = function_tells R f first is r.0 (made r.0 r.1) in
    let s : DataType = pushed.pushed in
    let x : p.0 ≡ data_ty s = pushed.read p.0 p.2 in
    (p.1, p.3, r.2 ∙ ap (arrows (data_tys ps)) (p.4 ∙ ap (λ y. fun_ty y p.1) x) ∙ sym (arrows_more ps s p.1) ∙ ap (λ l. arrows (data_tys l) p.1) (sym pushed.is))

fun_head : (x y : Ty) (h : Head) (ts : Tys) → (head.Fun ≡ h → ⊥) → fun_ty x y ≡ Made h ts → ⊥
fun_head x y h ts other e = other (same_head head.Fun h (more x (more y none)) ts e)

result_data : (tuple : Bool) (rs : List DataType) (x y : Ty) → Results_are tuple rs (fun_ty x y) → ⊥
result_data false [] x y r = r
result_data false (s ∷ []) x y r = no_data_head head.Fun (more x (more y none)) s (λ w. cc) (λ e w. cc) r
result_data false (s ∷ t ∷ rs) x y r = r
result_data true rs x y r = fun_head x y head.Tuple (data_tys rs) (λ w. cc) r.1

result_no_function : (tuple : Bool) (rs : List DataType) (u x y : Ty) → fun_ty x y ≡ u → Results_are tuple rs u → ⊥
result_no_function tuple rs u x y e r = result_data tuple rs x y (subst (Results_are tuple rs) (sym e) r)

from_is : (x y v w : Ty) → fun_ty x y ≡ fun_ty v w → (x ≡ v) × (y ≡ w)
from_is x y v w e =
    let parts : more x (more y none) ≡ more v (more w none) = same_parts head.Fun head.Fun (more x (more y none)) (more v (more w none)) e in
    (first_part x v (more y none) (more w none) parts, first_part y w none none (other_parts x v (more y none) (more w none) parts))

-- a parameter that is no scalar
odd_parameter : (ps qs : List DataType) (x y u : Ty) (tuple : Bool) (rs : List DataType) → ((s : DataType) → x ≡ data_ty s → ⊥) → arrows (data_tys ps) (fun_ty x y) ≡ arrows (data_tys qs) u → Results_are tuple rs u → ⊥
unfolding data_tys
odd_parameter [] [] x y u tuple rs deny e r = result_no_function tuple rs u x y e r
odd_parameter [] (q ∷ qs) x y u tuple rs deny e r = deny q (from_is x y (data_ty q) (arrows (data_tys qs) u) e).0
odd_parameter (p ∷ ps) [] x y u tuple rs deny e r = result_no_function tuple rs u (data_ty p) (arrows (data_tys ps) (fun_ty x y)) e r
odd_parameter (p ∷ ps) (q ∷ qs) x y u tuple rs deny e r = odd_parameter ps qs x y u tuple rs deny (from_is (data_ty p) (arrows (data_tys ps) (fun_ty x y)) (data_ty q) (arrows (data_tys qs) u) e).1 r

pub no_parameter : (R : Shown) (n node first : ℕ) (ps : List DataType) (f : Form) → Parameters_are R n ps node → ((t : Ty) → R node t → Is_made R f t) → function_form f ≡ Some first
    → No_data R first → No_entry_type R n
no_parameter R n node first ps f h made is deny t c qs tuple rs entry =
    let r = h t c in
    let p = function_tells R f first is r.0 (made r.0 r.1) in
    odd_parameter ps qs p.0 p.1 entry.0 tuple rs (λ s e. deny p.0 p.2 s e) (sym (r.2 ∙ ap (arrows (data_tys ps)) p.4) ∙ entry.2) entry.1

-- a result that is none
odd_result : (ps qs : List DataType) (v u : Ty) (tuple : Bool) (rs : List DataType) → ((x y : Ty) → v ≡ fun_ty x y → ⊥) → (Results_are tuple rs v → ⊥) → arrows (data_tys ps) v ≡ arrows (data_tys qs) u → Results_are tuple rs u → ⊥
unfolding data_tys
odd_result [] [] v u tuple rs fun deny e r = deny (subst (Results_are tuple rs) (sym e) r)
odd_result [] (q ∷ qs) v u tuple rs fun deny e r = fun (data_ty q) (arrows (data_tys qs) u) e
odd_result (p ∷ ps) [] v u tuple rs fun deny e r = result_no_function tuple rs u (data_ty p) (arrows (data_tys ps) v) e r
odd_result (p ∷ ps) (q ∷ qs) v u tuple rs fun deny e r = odd_result ps qs v u tuple rs fun deny (from_is (data_ty p) (arrows (data_tys ps) v) (data_ty q) (arrows (data_tys qs) u) e).1 r

pub no_result : (R : Shown) (n node : ℕ) (ps : List DataType) → Parameters_are R n ps node → No_function R node → No_results R node → No_entry_type R n
no_result R n node ps h fun deny t c qs tuple rs entry = let r = h t c in odd_result ps qs r.0 entry.0 tuple rs (fun r.0 r.1) (deny r.0 r.1 tuple rs) (sym r.2 ∙ entry.2) entry.1

-- ---- rows of scalars
abbrev pub after : List DataType → Tys → Tys
after [] ts = ts
after (s ∷ ss) ts = more (data_ty s) (after ss ts)

after_none : (ss : List DataType) → after ss none ≡ data_tys ss
unfolding data_tys
after_none [] = refl
after_none (s ∷ ss) = ap (more (data_ty s)) (after_none ss)

after_more : (ss : List DataType) (s : DataType) (ts : Tys) → after ss (more (data_ty s) ts) ≡ after (ss ++ s ∷ []) ts
after_more [] s ts = refl
after_more (r ∷ ss) s ts = ap (more (data_ty r)) (after_more ss s ts)

-- the first of the nodes in a row have these types
pub record Row_begins (R : Shown) (x n at : ℕ) (ss : List DataType) : Type 0 where
  pub long : length ss ≡ at
  pub read : (ts : Tys) → Row_comes R x n ts → (us : Tys) × (ts ≡ after ss us) × Row_comes R (x + at) (n - at) us

pub row_begins : (R : Shown) (x n : ℕ) → Row_begins R x n 0 []
row_begins R x n = record { long = refl; read = λ ts r. (ts, refl, (let e : x ≡ x + 0 = omega arith in let f : n ≡ n - 0 = omega arith in subst (λ k. Row_comes R k (n - 0) ts) e (subst (λ k. Row_comes R x k ts) f r))) }

next_types : (R : Shown) (x n at : ℕ) (us : Tys) → at < n → Row_comes R (x + at) (n - at) us → (t : Ty) × (vs : Tys) × (us ≡ more t vs) × R (x + at) t × Row_comes R (x + suc at) (n - suc at) vs
next_types R x n at us lt r =
    let one : n - at ≡ suc (n - suc at) = omega (arith, lt) in
    let p = some_types R (x + at) (n - suc at) us (subst (λ k. Row_comes R (x + at) k us) one r) in
    let e : suc (x + at) ≡ x + suc at = omega arith in
    (p.0, p.1, p.2, p.3, subst (λ k. Row_comes R k (n - suc at) p.1) e p.4)

pub row_more : (R : Shown) (x n at : ℕ) (ss ss' : List DataType) → at < n → Row_begins R x n at ss → Pushed R (x + at) ss ss' → Row_begins R x n (suc at) ss'
row_more R x n at ss ss' lt b pushed = record {
  long = let e : length ss' ≡ length ss + 1 = ap length pushed.is ∙ length-append ss (pushed.pushed ∷ []) in let l : length ss ≡ at = b.long in omega (arith, e, l);
  read = λ ts r. let g = b.read ts r in let p = next_types R x n at g.0 lt g.2 in
      let s : p.0 ≡ data_ty pushed.pushed = pushed.read p.0 p.3 in
      (p.1, g.1 ∙ ap (after ss) (p.2 ∙ ap (λ t. more t p.1) s) ∙ after_more ss pushed.pushed p.1 ∙ ap (λ l. after l p.1) (sym pushed.is), p.4);
}

pub row_ends : (R : Shown) (x n at : ℕ) (ss : List DataType) → n ≡ at → Row_begins R x n at ss → Row_is R x n ss
row_ends R x n at ss e b = (
  b.long ∙ sym e,
  λ ts r. let g = b.read ts r in
      let z : n - at ≡ 0 = omega (arith, e) in g.1 ∙ ap (after ss) (no_types R (x + at) g.0 (subst (λ k. Row_comes R (x + at) k g.0) z g.2)) ∙ after_none ss,
)

odd_row : (ss rs : List DataType) (t : Ty) (ts : Tys) → ((s : DataType) → t ≡ data_ty s → ⊥) → after ss (more t ts) ≡ data_tys rs → ⊥
unfolding data_tys
odd_row [] [] t ts deny e = none_more t ts (sym e)
odd_row [] (r ∷ rs) t ts deny e = deny r (first_part t (data_ty r) ts (data_tys rs) e)
odd_row (s ∷ ss) [] t ts deny e = none_more (data_ty s) (after ss (more t ts)) (sym e)
odd_row (s ∷ ss) (r ∷ rs) t ts deny e = odd_row ss rs t ts deny (other_parts (data_ty s) (data_ty r) (after ss (more t ts)) (data_tys rs) e)

pub no_row : (R : Shown) (x n at : ℕ) (ss : List DataType) → at < n → Row_begins R x n at ss → No_data R (x + at) → No_row_of_data R x n
no_row R x n at ss lt b deny ts r rs e = let g = b.read ts r in let p = next_types R x n at g.0 lt g.2 in
    odd_row ss rs p.0 p.1 (λ s. deny p.0 p.3 s) (sym (g.1 ∙ ap (after ss) p.2) ∙ e)

-- ---- results
pub tuple_results : (R : Shown) (n : ℕ) (f : Form) (first count : ℕ) (ss : List DataType) → ((t : Ty) → R n t → Is_made R f t) → tuple_form f ≡ Some (first, count) → 2 ≤ count → Row_is R first count ss → Results_at R n true ss
tuple_results R n f first count ss made is two row u c = let p = tuple_tells R f first count is u (made u c) in
    let l : length ss ≡ count = row.0 in (omega (arith, l, two), p.1 ∙ ap (Made head.Tuple) (row.1 p.0 p.2))

pub one_result : (R : Shown) (n : ℕ) (ss : List DataType) → Pushed R n [] ss → Results_at R n false ss
one_result R n ss pushed u c = subst (λ l. Results_are false l u) (sym pushed.is) (pushed.read u c)

scalar_row : (R : Shown) (x n : ℕ) (ss : List DataType) → Row_comes R x n (data_tys ss) → n ≡ length ss
unfolding data_tys
scalar_row R x zero [] r = refl
scalar_row R x zero (s ∷ ss) r = absurd r
scalar_row R x (suc n) [] r = absurd r
scalar_row R x (suc n) (s ∷ ss) r = ap suc (scalar_row R (suc x) n ss r.1)

tuple_scalar : (ts : Tys) (s : DataType) → Made head.Tuple ts ≡ data_ty s → ⊥
tuple_scalar ts s e = no_data_head head.Tuple ts s (λ w. cc) (λ e w. cc) e

tuple_result : (u : Ty) (ts : Tys) (tuple : Bool) (rs : List DataType) → u ≡ Made head.Tuple ts → Results_are tuple rs u → (2 ≤ length rs) × (ts ≡ data_tys rs)
tuple_result u ts false [] e r = absurd r
tuple_result u ts false (s ∷ []) e r = absurd (tuple_scalar ts s (sym e ∙ r))
tuple_result u ts false (s ∷ t ∷ rs) e r = absurd r
tuple_result u ts true rs e r = (r.0, same_parts head.Tuple head.Tuple ts (data_tys rs) (sym e ∙ r.1))

pub narrow_tuple : (R : Shown) (n : ℕ) (f : Form) (first count : ℕ) → ((t : Ty) → R n t → Is_made R f t) → tuple_form f ≡ Some (first, count) → count < 2 → No_results R n
narrow_tuple R n f first count made is lt u c tuple rs r = let p = tuple_tells R f first count is u (made u c) in
    let q = tuple_result u p.0 tuple rs p.1 r in
    let long : count ≡ length rs = scalar_row R first count rs (subst (Row_comes R first count) q.1 p.2) in
    let two : 2 ≤ length rs = q.0 in omega (arith, long, two, lt)

pub odd_tuple : (R : Shown) (n : ℕ) (f : Form) (first count : ℕ) → ((t : Ty) → R n t → Is_made R f t) → tuple_form f ≡ Some (first, count) → No_row_of_data R first count → No_results R n
odd_tuple R n f first count made is deny u c tuple rs r = let p = tuple_tells R f first count is u (made u c) in
    deny p.0 p.2 rs (tuple_result u p.0 tuple rs p.1 r).1

neither : (R : Shown) (n : ℕ) (u : Ty) → R n u → ((ts : Tys) → u ≡ Made head.Tuple ts → ⊥) → No_data R n → (tuple : Bool) (rs : List DataType) → Results_are tuple rs u → ⊥
neither R n u c tuples deny false [] r = r
neither R n u c tuples deny false (s ∷ []) r = deny u c s r
neither R n u c tuples deny false (s ∷ t ∷ rs) r = r
neither R n u c tuples deny true rs r = tuples (data_tys rs) r.1

pub no_data : (R : Shown) (n : ℕ) (f : Form) → ((t : Ty) → R n t → Is_made R f t) → tuple_form f ≡ None → No_data R n → No_results R n
no_data R n f made is deny u c tuple rs r = neither R n u c (tuple_denies R f is u (made u c)) deny tuple rs r

pub entry_type_is : (R : Shown) (n node : ℕ) (ps : List DataType) (tuple : Bool) (rs : List DataType) → Parameters_are R n ps node → Results_at R node tuple rs → Type_is R n ps tuple rs
entry_type_is R n node ps tuple rs h r t c = let p = h t c in (p.0, r p.0 p.1, p.2)

-- ---- such types are data
scalar_data : (K : Kinds) (s : ScalarType) → 1 ≤ rank K (scalar_ty s)
scalar_data K (scalar.Int t) = subst (λ n. 1 ≤ n) (sym (rank_made K (head.Scalar (scalar.Int t)) none ∙ ap (λ n. min 4 n) (least_none K))) (omega arith)
scalar_data K scalar.Bool = subst (λ n. 1 ≤ n) (sym (rank_made K (head.Scalar scalar.Bool) none ∙ ap (λ n. min 3 n) (least_none K))) (omega arith)

least_both : (a b : ℕ) → 1 ≤ a → 1 ≤ b → 1 ≤ min a b
least_both a b p q = omega (arith, p, q)

array_data : (K : Kinds) (r : ℕ) (s : ScalarType) → 1 ≤ rank K (array_ty r (scalar_ty s))
array_data K zero s = scalar_data K s
array_data K (suc r) s = subst (λ n. 1 ≤ n) (sym (rank_made K head.Array (more (array_ty r (scalar_ty s)) none)))
    (least_both 1 (least K (more (array_ty r (scalar_ty s)) none)) (omega arith)
    (subst (λ n. 1 ≤ n) (sym (least_more K (array_ty r (scalar_ty s)) none)) (least_both (rank K (array_ty r (scalar_ty s))) (least K none) (array_data K r s) (subst (λ n. 1 ≤ n) (sym (least_none K)) (omega arith)))))

type_data : (K : Kinds) (t : DataType) → 1 ≤ rank K (data_ty t)
type_data K t = array_data K t.rank t.elem

least_types : (K : Kinds) (ss : List DataType) → 1 ≤ least K (data_tys ss)
unfolding data_tys
least_types K [] = subst (λ n. 1 ≤ n) (sym (least_none K)) (omega arith)
least_types K (s ∷ ss) = subst (λ n. 1 ≤ n) (sym (least_more K (data_ty s) (data_tys ss))) (least_both (rank K (data_ty s)) (least K (data_tys ss)) (type_data K s) (least_types K ss))

pub parameters_data : (K : Kinds) (ss : List DataType) → All_hold_data K (data_tys ss)
unfolding data_tys
parameters_data K [] = tt
parameters_data K (s ∷ ss) = (type_data K s, parameters_data K ss)

pub results_data : (K : Kinds) (tuple : Bool) (rs : List DataType) (u : Ty) → Results_are tuple rs u → HasKind K kind.Data u
results_data K false [] u r = absurd r
results_data K false (s ∷ []) u r = subst (HasKind K kind.Data) (sym r) (type_data K s)
results_data K false (s ∷ t ∷ rs) u r = absurd r
results_data K true rs u r = subst (HasKind K kind.Data) (sym r.1)
    (subst (λ n. 1 ≤ n) (sym (rank_made K head.Tuple (data_tys rs))) (least_both 2 (least K (data_tys rs)) (omega arith) (least_types K rs)))

-- ---- refusals that are handed on
pub because : {P Q : Type 0} (e : EntryTypeErr) → (P → Q) → Because P e → Because Q e
because err.Outside f p = f p
because err.Memory f p = tt
