-- The uses of a definition or a local function are exactly the instances of its principal type, with types chosen for its
-- parameters, if it can be typed with other types for its own and a program with what is lifted from two typings of it.
use Rattle.std.proofs.Common.{◌≡◌, ◌↔◌, ℕ, zero, suc, ◌+◌, ◌≤◌, ◌<◌, refl, sym, ◌∙◌, ap, subst, arith, List, [], ◌∷◌, Some, length, slice_index_or}
use Rattle.std.specs.List.{All}
use mathlib.Core.Logic.{inl, inr}
use native.Mathlib.Decide.{ℕ_discrete}
use Rattle.fut_scalar.specs.declared.place.BindId.{BindId}
use Rattle.fut_flat.specs.Terms.{Parameter}
use Rattle.fut_types.specs.declared.Kind.{Kind}
use Rattle.fut_types.specs.declared.Head.{Head}
use Rattle.fut_types.specs.declared.Head.TheVariants as head
use Rattle.fut_types.specs.Types.{Ty, Var, Made, Tys, none, more, Sub, Kinds, HasKind, level, rank, applied, all_applied}
use Rattle.fut_types.specs.Shapes.{HasPart}
use Rattle.fut_types.proofs.TyLaws.{rank_var}
use Rattle.fut_typing.specs.Names.{Names, AreNames}
use Rattle.fut_typing.specs.Generalised.{Suits, own_types, Scheme, Variant, Reused}
use Rattle.fut_typing.specs.Program.{Defined, program_numbers, Program_typed}
use Rattle.fut_typing.specs.Answers.{Open, Met, Principal}
use Rattle.fut_typing.specs.Exact.{Fixed}
use Rattle.fut_typing.specs.Declared.{Is_parameter}
use Rattle.fut_typing.proofs.Cong.{Depends, reused_local}
use Rattle.fut_typing.proofs.Readings.{Reading, read_head, image, Suited, read_kind, read_part, Extends, head_limit, plain}
unfoldable use Rattle.fut_typing.proofs.Readings.{read, read_all}
use Rattle.fut_typing.proofs.Instances.{parameter_limit, parameter_below}
use Rattle.typing_laws.specs.Parameters.{chosen_head, replaced, all_replaced}
use Rattle.typing_laws.specs.Claims.{Chosen_met, Chosen_instance}
use Rattle.typing_laws.proofs.Chosen.{chosen_for}
use Rattle.fut_typing.proofs.Below.{Below}
use Rattle.typing_laws.proofs.Spelled.{one_label}
use Rattle.typing_laws.proofs.Placed.{stays}
use Rattle.typing_laws.proofs.Lifted.{back, back_low, back_suited, lifted_read, lifted_part, Both_rows, head_lifted}
unfoldable use Rattle.typing_laws.proofs.Lifted.{lifted, all_lifted}
use Rattle.typing_laws.proofs.Pairs as pairs

-- where each type stands for itself
self_head : (h : Head) (ts : Tys) → read_head (plain (λ n. Var n)) h ts ≡ Made h ts
self_head (head.Rigid n k) none = refl
self_head (head.Rigid n k) (more t ts) = refl
self_head (head.Scalar s) ts = refl
self_head head.Array ts = refl
self_head head.Tuple ts = refl
self_head (head.Record r) ts = refl
self_head head.Fun ts = refl
self_head (head.Abstract n d) ts = refl

mutual
  unfolding read

  self_read : (t : Ty) → read (plain (λ n. Var n)) t ≡ t
  self_read (Var n) = refl
  self_read (Made h ts) = self_head h (read_all (plain (λ n. Var n)) ts) ∙ ap (Made h) (all_self_read ts)

  all_self_read : (ts : Tys) → read_all (plain (λ n. Var n)) ts ≡ ts
  all_self_read none = refl
  all_self_read (more t ts) = λ i. more (self_read t i) (all_self_read ts i)

pub variable_kind : (K : Kinds) (v : ℕ) → HasKind K (K v) (Var v)
variable_kind K v = let e : rank K (Var v) ≡ level (K v) = rank_var K v in omega arith

-- a number above those of all parameters in a type, and in the types of numbers below hi
mutual
  pub top : Ty → ℕ
  top (Var n) = 0
  top (Made h ts) = head_limit h + all_top ts

  all_top : Tys → ℕ
  all_top none = 0
  all_top (more t ts) = top t + all_top ts

abbrev pub top_below : Sub → ℕ → ℕ
top_below a zero = 0
top_below a (suc n) = top (a n) + top_below a n

below_top : (a : Sub) (hi n : ℕ) → n < hi → top (a n) ≤ top_below a hi
below_top a zero n lt = absurd (omega arith)
below_top a (suc hi) n lt = elim (ℕ_discrete n hi) as (λ d. top (a n) ≤ top_below a (suc hi)) [
  | yes e ↦ (let z : top (a n) ≡ top (a hi) = ap (λ m. top (a m)) e in omega arith)
  | no ne ↦ (let z : top (a n) ≤ top_below a hi = below_top a hi n (less n hi lt ne) in omega arith)
]
  where
    less : (n hi : ℕ) → n < suc hi → (n ≡ hi → ⊥) → n < hi
    less n hi lt ne = omega arith

-- and in the parts that are left open
abbrev pub top_parts : List Open → ℕ
top_parts [] = 0
top_parts (o ∷ os) = top o.part + top_parts os

pub parts_top : (os : List Open) (k : ℕ) (o : Open) → k < length os → top (slice_index_or os k o).part ≤ top_parts os
parts_top [] k o lt = absurd (omega arith)
parts_top (p ∷ os) zero o lt = omega arith
parts_top (p ∷ os) (suc k) o lt = let z : top (slice_index_or os k o).part ≤ top_parts os = parts_top os k o (omega arith) in omega arith

module _ (N : Names) (places : Kind) (s : Scheme) (c : Sub) (F0 G : ℕ) (over : F0 ≤ G) (wide : parameter_limit s.parameters ≤ G) (one_label : (l l' i : ℕ) → N.shapes.position l ≡ Some i → N.shapes.position l' ≡ Some i → l ≡ l') (K : Kinds) where
  abbrev ps : List (Parameter BindId)
  ps = s.parameters

  abbrev lift : Ty → Ty → Ty
  lift = pairs.lift N places ps c F0 G over wide

  abbrev two : Sub → Sub → Sub
  two = pairs.two N places ps c F0 G over wide

  abbrev I : Reading
  I = plain (λ n. Var n)

  abbrev B : Reading
  B = back N.shapes places ps c F0 G over wide

  head_back : (h : Head) (ts : Tys) → head_limit h ≤ G → read_head B h ts ≡ chosen_head places ps c h ts
  head_back (head.Rigid n k) none le = back_low N.shapes places ps c F0 G over wide n k (omega arith)
  head_back (head.Rigid n k) (more t ts) le = refl
  head_back (head.Scalar x) ts le = refl
  head_back head.Array ts le = refl
  head_back head.Tuple ts le = refl
  head_back (head.Record r) ts le = refl
  head_back head.Fun ts le = refl
  head_back (head.Abstract n x) ts le = refl

  mutual
    unfolding read top applied replaced

    replaced_back : (by : Sub) (t : Ty) → top t ≤ G → read B (applied by t) ≡ replaced places ps c (image B by) t
    replaced_back by (Var n) le = refl
    replaced_back by (Made h ts) le = head_back h (read_all B (all_applied by ts)) (omega arith) ∙ ap (chosen_head places ps c h) (all_replaced_back by ts (omega arith))

    all_replaced_back : (by : Sub) (ts : Tys) → all_top ts ≤ G → read_all B (all_applied by ts) ≡ all_replaced places ps c (image B by) ts
    all_replaced_back by none le = refl
    all_replaced_back by (more t ts) le = λ i. more (replaced_back by t (omega arith) i) (all_replaced_back by ts (omega arith) i)

  part_back : (by : Sub) (o : Open) → top o.part ≤ F0 → Met N.shapes by o → Chosen_met N.shapes places ps c (image B by) o
  part_back by o le met = subst (HasPart N.shapes o.label (read B (by o.variable))) (replaced_back by o.part (omega arith)) (read_part B N.shapes o.label (by o.variable) (applied by o.part) met)

  -- ---- an instance is lifted
  rows : (f g : Sub) (ts : Tys) → Both_rows N.shapes places ps c F0 G over wide (all_applied f ts) (all_replaced places ps c g ts)
  unfolding applied replaced
  rows f g none = tt
  rows f g (more t ts) = tt

  mutual
    unfolding lifted applied replaced top

    lifted_applied : (f g : Sub) (t : Ty) → top t ≤ F0 → lift (applied f t) (replaced places ps c g t) ≡ applied (two f g) t
    lifted_applied f g (Var n) le = refl
    lifted_applied f g (Made h ts) le = head_lifted N.shapes places ps c F0 G over wide h (all_applied f ts) (all_replaced places ps c g ts) (omega arith) (rows f g ts) ∙ ap (Made h) (all_lifted_applied f g ts (omega arith))

    all_lifted_applied : (f g : Sub) (ts : Tys) → all_top ts ≤ F0 → all_lifted N.shapes places ps c F0 G over wide (all_applied f ts) (all_replaced places ps c g ts) ≡ all_applied (two f g) ts
    all_lifted_applied f g none le = refl
    all_lifted_applied f g (more t ts) le = λ i. more (lifted_applied f g t (omega arith) i) (all_lifted_applied f g ts (omega arith) i)

  met_lifted : (f g : Sub) (o : Open) → top o.part ≤ F0 → Met N.shapes f o → Chosen_met N.shapes places ps c g o → Met N.shapes (two f g) o
  met_lifted f g o le m m' = subst (HasPart N.shapes o.label (lift (f o.variable) (g o.variable))) (lifted_applied f g o.part le) (lifted_part N.shapes places ps c F0 G over wide one_label o.label (f o.variable) (applied f o.part) (g o.variable) (replaced places ps c g o.part) m m')

  -- its own types are read as those chosen
  pub own_back : (n : ℕ) → Is_parameter ps n → (L : Reading) → Extends G B L → read L (own_types places ps n) ≡ c n
  unfolding read
  own_back n i L e = let w = chosen_for places c ps n i in let lt : n < parameter_limit ps = parameter_below ps n i in
      ap (read L) w.1 ∙ e.own n w.0 (omega arith) ∙ back_low N.shapes places ps c F0 G over wide n w.0 (omega arith) ∙ w.2

  -- ---- in a program
  module _ (ds : List Defined) (p : Principal N.shapes (program_numbers ds) (Program_typed N places ds)) (few_types : top_below p.types (program_numbers ds) ≤ F0) (few_parts : All (λ (o : Open). top o.part ≤ F0) p.opens)
      (some : 0 < s.many) (whole : s.first + s.many ≤ program_numbers ds) (a : Sub) (typing : Program_typed N places ds K a) (suits : Suits places K c ps) where
    use_instance : (v : Variant s c K a) → Program_typed N places ds K (image I (two a v.other)) → (t : Ty) → t ≡ v.other s.first → Chosen_instance N.shapes (program_numbers ds) (Program_typed N places ds) p places s K a t
    use_instance v lifted t is =
        let w = p.instance K (image I (two a v.other)) lifted in
        let by : Sub = image B w.0 in
        let suited : Suited K K B = back_suited N.shapes places ps c F0 G over wide K suits (variable_kind K) in
        let reads : (n : ℕ) → n < program_numbers ds → replaced places ps c by (p.types n) ≡ v.other n = λ n lt.
        (let z : top (p.types n) ≤ top_below p.types (program_numbers ds) = below_top p.types (program_numbers ds) n lt in
        sym (replaced_back w.0 (p.types n) (omega arith)) ∙ ap (read B) (sym (w.3 n lt) ∙ self_read (lift (a n) (v.other n))) ∙ lifted_read N.shapes places ps c F0 G over wide (a n) (v.other n)) in
        record {
          by = by;
          kinds = λ n. read_kind K K B suited (p.kinds n) (w.0 n) (w.1 n);
          choice = c;
          suits = suits;
          met = λ k o lt. part_back w.0 (slice_index_or p.opens k o) (few_parts k o lt) (w.2 k o lt);
          fixed = λ n lt fixed. reads n lt ∙ stays s c K a v n fixed;
          is = is ∙ sym (reads s.first (omega arith));
        }

    instance_use : Depends (λ n. n < s.first) s → ((x : Sub) → Program_typed N places ds K x → s.typed c K (image B x))
        → (by : Sub) → ((v : ℕ) → HasKind K (p.kinds v) (by v)) → All (Chosen_met N.shapes places ps c by) p.opens → ((n : ℕ) → n < program_numbers ds → Fixed s n → replaced places ps c by (p.types n) ≡ a n) → Reused places s s.first K a (replaced places ps c by (p.types s.first))
    instance_use dep moves by kinds met fixed =
        let w = p.instance K a typing in
        let x : Sub = λ n. applied (two w.0 by) (p.types n) in
        let typed : Program_typed N places ds K x = p.typing K (two w.0 by) (λ v. pairs.lift_kind N places ps c F0 G over wide K (p.kinds v) (w.0 v) (by v) (w.1 v) (kinds v)) (λ k o lt. met_lifted w.0 by (slice_index_or p.opens k o) (few_parts k o lt) (w.2 k o lt) (met k o lt)) in
        let o : Sub = image B x in
        let reads : (n : ℕ) → n < program_numbers ds → o n ≡ replaced places ps c by (p.types n) = λ n lt.
        (let z : top (p.types n) ≤ top_below p.types (program_numbers ds) = below_top p.types (program_numbers ds) n lt in
        replaced_back (two w.0 by) (p.types n) (omega arith) ∙ (λ j. replaced places ps c (λ v. lifted_read N.shapes places ps c F0 G over wide (w.0 v) (by v) j) (p.types n))) in
        let u : Reused places s s.first K o (o s.first) = (c, suits, (record { other = o; outside = λ n out. refl; kept = λ n y z e. refl; typed = moves x typed }, refl)) in
        subst (Reused places s s.first K a) (reads s.first (omega arith))
        (reused_local places (λ n. n < s.first) s dep s.first (omega arith, omega arith) K o a (o s.first)
        (λ n. elim [ inl lt ↦ reads n (omega arith) ∙ fixed n (omega arith) (inl (inl lt)) | inr k ↦ (let m : n < s.first + s.many = k.0.1 in reads n (omega arith) ∙ fixed n (omega arith) (inr k.1)) ]) u)

-- what is shown of a definition or a local function s of a program, none of whose parameters is one of D: a typing with its own
-- types and one with others for its parameters give a typing of the program, and in a typing of the program others may be put
-- for its own types
pub record Exchanges (N : Names) (places : Kind) (ds : List Defined) (s : Scheme) (D : ℕ → Type 0) (K : Kinds) (a : Sub) : Type 0 where
  pub some : 0 < s.many
  pub whole : s.first + s.many ≤ program_numbers ds
  pub depends : Depends (λ n. n < s.first) s
  pub lifts : (c : Sub) (F0 G : ℕ) (over : F0 ≤ G) (wide : parameter_limit s.parameters ≤ G) → ((n : ℕ) → D n → n < F0) → Suits places K c s.parameters → (v : Variant s c K a)
      → Program_typed N places ds K (image (plain (λ n. Var n)) (pairs.two N places s.parameters c F0 G over wide a v.other))
  pub moves : (c : Sub) (F0 G : ℕ) (over : F0 ≤ G) (wide : parameter_limit s.parameters ≤ G) → ((n : ℕ) → D n → n < F0) → Suits places K c s.parameters → (x : Sub) → Program_typed N places ds K x → s.typed c K (image (back N.shapes places s.parameters c F0 G over wide) x)

pub exact : (N : Names) → AreNames N → (places : Kind) (ds : List Defined) (s : Scheme) (D : ℕ → Type 0) → Below D → (p : Principal N.shapes (program_numbers ds) (Program_typed N places ds)) (K : Kinds) (a : Sub) → Program_typed N places ds K a → Exchanges N places ds s D K a
    → (t : Ty) → Reused places s s.first K a t ↔ Chosen_instance N.shapes (program_numbers ds) (Program_typed N places ds) p places s K a t
exact N are places ds s D below p K a typing e t =
    let F0 : ℕ = below.0 + top_below p.types (program_numbers ds) + top_parts p.opens in
    let G : ℕ = F0 + parameter_limit s.parameters in
    let low : (n : ℕ) → D n → n < F0 = λ n h. (let z : n < below.0 = below.1 n h in omega arith) in
    let parts : All (λ (o : Open). top o.part ≤ F0) p.opens = λ k o lt. (let z : top (slice_index_or p.opens k o).part ≤ top_parts p.opens = parts_top p.opens k o lt in omega arith) in (
      λ u. use_instance N places s u.0 F0 G (omega arith) (omega arith) (one_label N are) K ds p (omega arith) parts e.some e.whole a typing u.1 u.2.0 (e.lifts u.0 F0 G (omega arith) (omega arith) low u.1 u.2.0) t u.2.1,
      λ i. subst (Reused places s s.first K a) (sym i.is) (instance_use N places s i.choice F0 G (omega arith) (omega arith) (one_label N are) K ds p (omega arith) parts e.some e.whole a typing i.suits e.depends (e.moves i.choice F0 G (omega arith) (omega arith) low i.suits) i.by i.kinds i.met i.fixed),
    )
