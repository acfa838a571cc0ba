-- How the walk of an expression follows from that of its form.
use Rattle.std.proofs.Common.{◌≡◌, ℕ, ◌≤◌, ◌<◌, List, length, map, true, false, Some, Ok, Err, refl, sym, subst, arith}
use Rattle.std.specs.Prelude.{Result}
use Rattle.std.specs.Borrow.{Bor}
use Rattle.fut_scalar.specs.declared.place.Place.{Place}
use Rattle.fut_flat.specs.declared.act.Act.{Act}
use Rattle.fut_flat.specs.declared.exp.Exp.{Exp}
use Rattle.fut_flat.specs.declared.exp.Form.TheVariants as form
use Rattle.fut_flat.specs.declared.exp.Let.{Let}
use Rattle.fut_flat.specs.declared.exp.Loop.{Loop as LoopTree}
use Rattle.fut_flat.specs.declared.pat.Pat.{Pat}
use Rattle.fut_flat.specs.declared.prim.Ref.{Ref}
use Rattle.fut_flat.specs.Erased.{FlatTerm, operation_of, pattern_of, patterns, term_of, terms}
use Rattle.fut_flat.specs.Terms.{Strict, Apply, If}
use Rattle.fut_flat.proofs.ErasedForms.{loop_of, term_use, term_strict, term_lambda, term_apply, term_lets, term_if, term_loop}
use Rattle.fut_meaning.specs.Knowns.{Known, Data, Known_tuple, Known_record, Known_function, Known_primitive, Scope, is_data, known_use}
use Rattle.fut_meaning.specs.Walk.{is_visit, Visits, v_use, v_lambda}
use Rattle.fut_meaning.specs.Comes.{comes_here, no_name}
use Rattle.unfold_measure.specs.Held.{known_of}
use Rattle.unfold_measure.specs.Plain.{Plain}
use Rattle.unfold_measure.specs.Rows.{behind}
use Rattle.unfold_measure.specs.declared.known.Known.{Known as Held_known}
use Rattle.unfold_measure.specs.declared.stop.Stop.{Stop}
use Rattle.unfold_measure.specs.declared.stop.Stop.TheVariants.{Nodes, Depth, Lost}
use Rattle.unfold_measure.specs.declared.walked.Walked.{Walked}
use Rattle.unfold_measure.specs.Answers.{Known_to, not_known, no_memory_to_know, no_memory, over, deep, Walked_to, walked, stopped, Data_to, gives_data, not_walked, gives_function}
use Rattle.unfold_measure.proofs.Walks.{lost_here}
use Rattle.unfold_measure.proofs.Peeling.{peeled_walk}

pub data_only : (s : Known) → is_data s ≡ true → s ≡ Data
data_only Data h = refl
data_only (Known_tuple ss) h = absurd (let z : false ≡ true = h in cc)
data_only (Known_record fs) h = absurd (let z : false ≡ true = h in cc)
data_only (Known_function ps e sc) h = absurd (let z : false ≡ true = h in cc)
data_only (Known_primitive p ss) h = absurd (let z : false ≡ true = h in cc)

module _ (tops sc : Scope) (level spent : ℕ) where
  pub too_deep : (e : FlatTerm) → 1000 ≤ level → Walked_to tops sc level spent e (Err Depth)
  too_deep e le = stopped (deep comes_here (omega (arith, le)))

  pub too_many : (e : FlatTerm) → 1048576 ≤ spent → Walked_to tops sc level spent e (Err Nodes)
  too_many e le = stopped (over comes_here (omega (arith, le)))

  -- an expression, by its form
  module _ (e : Exp) where
    as_term : (t : FlatTerm) (r : Result Walked Stop) → term_of e ≡ t → Walked_to tops sc level spent t r → Walked_to tops sc level spent (term_of e) r
    as_term t r q h = subst (λ z. Walked_to tops sc level spent z r) (sym q) h

    pub form_use : (u : Ref) (k : ℕ) (s : Held_known) → e.form ≡ form.Use u k → Some (known_of s) ≡ known_use tops sc u → Walked_to tops sc level spent (term_of e) (Ok (record { known = s; nodes = 1; depth = 1 }))
    form_use u k s is q = as_term _ _ (term_use e u k is) (walked (v_use (sym q)))

    pub form_unknown : (u : Ref) (k : ℕ) (r : Stop) → e.form ≡ form.Use u k → Known_to (known_use tops sc u) (Err r) → Walked_to tops sc level spent (term_of e) (Err r)
    form_unknown u k _ is (not_known q) = as_term _ _ (term_use e u k is) (stopped (lost_here (no_name q)))
    form_unknown u k _ is no_memory_to_know = as_term _ _ (term_use e u k is) (stopped no_memory)

    pub form_lambda : (ps : Bor (List Pat)) (b : Bor Exp) (s : Held_known) → e.form ≡ form.Lambda ps b → known_of s ≡ Known_function (patterns (map pattern_of ps.now)) (term_of b.now) sc → Walked_to tops sc level spent (term_of e) (Ok (record { known = s; nodes = 1; depth = 1 }))
    form_lambda ps b s is q = as_term _ _ (term_lambda e ps b is) (walked (subst (λ z. Visits tops sc (Rattle.fut_flat.specs.Terms.Lambda (patterns (map pattern_of ps.now)) (term_of b.now)) z 1 1) (sym q) v_lambda))

    module _ (r : Result Walked Stop) where
      pub form_strict : (a : Act) (mark : Place) (es : Bor (List Exp)) → e.form ≡ form.Strict a mark es → Walked_to tops sc level spent (Strict (operation_of a) mark (terms (map term_of es.now))) r → Walked_to tops sc level spent (term_of e) r
      form_strict a mark es is h = as_term _ r (term_strict e a mark es is) h

      pub form_apply : (f x : Bor Exp) → e.form ≡ form.Apply f x → Walked_to tops sc level spent (Apply (term_of f.now) (term_of x.now)) r → Walked_to tops sc level spent (term_of e) r
      form_apply f x is h = as_term _ r (term_apply e f x is) h

      pub form_lets : (ls : Bor (List Let)) (b : Bor Exp) → e.form ≡ form.Lets ls b → Walked_to tops sc level spent (behind ls.now b.now) r → Walked_to tops sc level spent (term_of e) r
      form_lets ls b is h = as_term _ r (term_lets e ls b is) h

      pub form_if : (c a b : Bor Exp) → e.form ≡ form.If c a b → Walked_to tops sc level spent (If (term_of c.now) (term_of a.now) (term_of b.now)) r → Walked_to tops sc level spent (term_of e) r
      form_if c a b is h = as_term _ r (term_if e c a b is) h

      pub form_loop : (l : Bor LoopTree) → e.form ≡ form.Loop l → Walked_to tops sc level spent (loop_of l.now) r → Walked_to tops sc level spent (term_of e) r
      form_loop l is h = as_term _ r (term_loop e l is) h

  -- what has to give data
  module _ (e : FlatTerm) where
    pub data_ok : (r : Walked) → Walked_to tops sc level spent e (Ok r) → true ≡ is_data (known_of r.known) → Data_to tops sc level spent e (Ok (record { nodes = r.nodes; depth = r.depth }))
    data_ok r (walked v) h = gives_data (subst (λ z. Visits tops sc e z r.nodes r.depth) (data_only _ (sym h)) v)

    pub data_function : (r : Walked) → Walked_to tops sc level spent e (Ok r) → false ≡ is_data (known_of r.known) → Data_to tops sc level spent e (Err Lost)
    data_function r (walked v) h = gives_function v (sym h)

    pub data_stopped : (r : Stop) → Walked_to tops sc level spent e (Err r) → Data_to tops sc level spent e (Err r)
    data_stopped r (stopped s) = not_walked s

pub plain_visit : (e : Exp) (a : Act) (mark : Place) (es : Bor (List Exp)) → Plain e → e.form ≡ form.Strict a mark es → is_visit (operation_of a) (terms (map term_of es.now)) ≡ true
plain_visit e a mark es p is = p.strict a mark es is

pub plain_row : (e : Exp) (ls : Bor (List Let)) (b : Bor Exp) → Plain e → e.form ≡ form.Lets ls b → 0 < length ls.now
plain_row e ls b p is = p.row ls b is

pub ruleset limits = (too_deep, too_many, peeled_walk)

pub ruleset datas = (data_ok, data_function, data_stopped)

pub ruleset forms = (form_use, form_unknown, form_lambda, form_strict, form_apply, form_lets, form_if, form_loop, plain_visit, plain_row)
