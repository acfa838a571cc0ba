-- What is told of terms beside their parts.
use Rattle.std.proofs.Common.{◌≡◌, ℕ, suc, ◌+◌, ◌<◌, List, [], ◌∷◌, map, length, get_or, drop, Option, Result, Ok, Err, IfOk, refl, sym, ap, ◌∙◌, arith}
use Rattle.fut_flat.specs.declared.exp.Exp.{Exp}
use Rattle.fut_flat.specs.declared.exp.Let.{Let}
use Rattle.fut_flat.specs.declared.prim.Ref.{Ref}
use Rattle.fut_flat.specs.Erased.{FlatTerm, lets, term_of, terms}
use Rattle.fut_flat.specs.Numbers.{numbers}
use Rattle.fut_flat.specs.Terms.{Apply, If, Operation, Strict, Terms, no_term, term_and}
use Rattle.fut_flat.proofs.ErasedForms.{row_of}
use Rattle.fut_scalar.specs.declared.place.BindId.{BindId}
use Rattle.fut_scalar.specs.declared.place.Place.{Place}
use Rattle.fut_aliases.specs.declared.refusals.Named.{Named}
use Rattle.fut_aliases.specs.declared.refusals.Named.TheVariants.{AFunction}
use Rattle.fut_aliases.specs.Capturing.{called, name_in, or_name, some_name}
use Rattle.alias_values.proofs.Rows.{one_more}
use Rattle.uniqueness.specs.declared.held.Stop.{Stop}
use Rattle.alias_forms.specs.declared.seen.Seen.{Seen}
use Rattle.alias_forms.specs.Rows.{behind_row, behind_rows, row_name}
use Rattle.alias_forms.specs.Seen.{Ends, Names_in, SeenEnds}
use Rattle.alias_forms.proofs.RowForms.{row_names, row_numbers}
use Rattle.alias_forms.proofs.SeenForms.{or_none}

pub seen_ends : (r : Result Seen Stop) (e : FlatTerm) (at : ℕ) {next : ℕ} {name : Option Named} → Names_in e AFunction name → next ≡ at + numbers e → IfOk r (Ends AFunction name next) → IfOk r (SeenEnds e at)
seen_ends (Ok s) e at n q x = record { named = record { called_so = x.called_so ∙ n.called_so; first_so = x.first_so ∙ n.first_so }; next = x.behind ∙ q }
seen_ends (Err b) e at n q x = tt

pub if_named : (c t e : FlatTerm) {a b d later name : Option Named} → a ≡ some_name c → b ≡ some_name t → d ≡ some_name e → later ≡ or_name b d → name ≡ or_name a later → Names_in (If c t e) AFunction name
unfolding some_name
if_named c t e {a = a} {b = b} {d = d} p q r l n = record { called_so = refl; first_so = n ∙ ap (or_name a) (l ∙ ap (λ z. or_name z d) q ∙ ap (or_name (some_name t)) r) ∙ ap (λ z. or_name z (or_name (some_name t) (some_name e))) p }

pub apply_named : (f e : FlatTerm) {a b name : Option Named} → a ≡ some_name f → b ≡ some_name e → name ≡ or_name a b → Names_in (Apply f e) AFunction name
unfolding some_name
apply_named f e {b = b} p q n = record { called_so = refl; first_so = n ∙ ap (λ z. or_name z b) p ∙ ap (or_name (some_name f)) q }

pub strict_named : (o : Operation Ref BindId) (mark : Place) (ts : Terms Ref BindId) {name : Option Named} → name ≡ name_in ts → Names_in (Strict o mark ts) AFunction name
unfolding some_name
strict_named o mark ts n = record { called_so = refl; first_so = n }

pub one_named : (o : Operation Ref BindId) (mark : Place) (t : FlatTerm) {name : Option Named} → name ≡ some_name t → Names_in (Strict o mark (term_and t no_term)) AFunction name
unfolding some_name name_in
one_named o mark t n = record { called_so = refl; first_so = n ∙ sym (or_none (some_name t)) }

-- ---- an operation on one part

one_term : (es : List Exp) (x : Exp) → length es ≡ 1 → es ≡ get_or es 0 x ∷ []
one_term [] x l = absurd (omega (arith, l))
one_term (e ∷ []) x l = refl
one_term (e ∷ d ∷ es) x l = absurd (omega (arith, l))

pub one_part : (es : List Exp) (x : Exp) → length es ≡ 1 → terms (map term_of es) ≡ term_and (term_of (get_or es 0 x)) no_term
unfolding terms
one_part es x l = ap (λ z. terms (map term_of z)) (one_term es x l)

-- ---- a row of lets

module _ (ls : List Let) (x : Let) (l : 0 < length ls) (e : FlatTerm) where
  split : map row_of ls ≡ row_of (get_or ls 0 x) ∷ map row_of (drop 1 ls)
  split = ap (map row_of) (one_more ls 0 x l)

  pub lets_named : {a b d : Option Named} → a ≡ some_name (row_of (get_or ls 0 x)).1 → b ≡ row_name (map row_of (drop 1 ls)) → d ≡ some_name e → Names_in (lets (map row_of ls) e) AFunction (or_name a (or_name b d))
  unfolding lets some_name
  lets_named {a = a} {d = d} p q r = record { called_so = called_is; first_so = ap (λ z. or_name a (or_name z d)) q ∙ ap (λ z. or_name a (or_name (row_name (map row_of (drop 1 ls))) z)) r ∙ ap (or_name a) (sym (row_names (map row_of (drop 1 ls)) e)) ∙ ap (λ z. or_name z (some_name (lets (map row_of (drop 1 ls)) e))) p ∙ ap (λ z. some_name (lets z e)) (sym split) }
    where
      called_is : AFunction ≡ called (lets (map row_of ls) e)
      called_is = ap (λ z. called (lets z e)) (sym split)

  pub lets_numbers : (lo : ℕ) {m k next : ℕ} → m ≡ behind_row (row_of (get_or ls 0 x)) lo → k ≡ behind_rows (map row_of (drop 1 ls)) m → next ≡ k + numbers e → next ≡ lo + numbers (lets (map row_of ls) e)
  unfolding behind_rows
  lets_numbers lo {m = m} p q r = r ∙ ap (λ z. z + numbers e) (q ∙ ap (behind_rows (map row_of (drop 1 ls))) p) ∙ sym (row_numbers (row_of (get_or ls 0 x) ∷ map row_of (drop 1 ls)) e lo) ∙ ap (λ z. lo + numbers (lets z e)) (sym split)

length_map : (zs : List Let) → length zs ≡ length (map row_of zs)
length_map [] = refl
length_map (z ∷ zs) = ap suc (length_map zs)

pub count_is : (ls : List Let) → 0 < length ls → length ls ≡ suc (length (map row_of (drop 1 ls)))
count_is [] l = absurd (omega (arith, l))
count_is (y ∷ ls) l = ap suc (length_map ls)

pub no_let : (ls : List Let) (e : FlatTerm) → length ls ≡ 0 → lets (map row_of ls) e ≡ e
unfolding lets
no_let [] e l = refl
no_let (y ∷ ls) e l = absurd (omega (arith, l))

pub some_let : (ls : List Let) → (length ls ≡ 0 → ⊥) → 0 < length ls
some_let [] n = absurd (n refl)
some_let (y ∷ ls) n = omega arith
