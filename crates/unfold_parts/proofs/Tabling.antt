-- The table of what is known of the definitions, one more at a time.
use Rattle.std.proofs.Common.{◌≡◌, ℕ, zero, suc, ◌<◌, ◌++◌, List, [], ◌∷◌, length, get_or, set, cond, Bool, true, false, nat_eq, Option, Some, None, refl, sym, ap, ◌∙◌, eqb-true, false-eqb}
use Rattle.std.proofs.lemmas.List.{get_or-set_same, get_or-set_other}
use Rattle.std.specs.Borrow.{Bor}
use Rattle.fut_scalar.specs.declared.place.BindId.{BindId}
use Rattle.fut_blocks.specs.Meaning.{look}
use Rattle.unfold.specs.Knowns.{Tops}
use Rattle.unfold.specs.declared.known.Known.{Known as Held_known}
use Rattle.unfold.specs.Held.{known_of}
use Rattle.unfold_parts.specs.Held.{maybe_known}
use Rattle.unfold_parts.specs.Tables.{Tabled, tabled, defined_form, definitions_of}
use Rattle.unfold_parts.specs.declared.tops.Defined.{Defined, Defined-F, map-Defined, fold_out-Defined}
use Rattle.unfold_parts.specs.declared.tops.Defined.TheVariants as defined

longer : (t : List (Option Held_known)) (k : ℕ) → get_or (t ++ None ∷ []) k None ≡ get_or t k None
longer [] zero = refl
longer [] (suc k) = refl
longer (x ∷ t) zero = refl
longer (x ∷ t) (suc k) = longer t k

-- a table that is made longer has what it had
pub table_longer : (tops : Tops) (t t' : List (Option Held_known)) → Tabled tops t → t' ≡ t ++ None ∷ [] → Tabled tops t'
table_longer tops t t' (tabled f) e = tabled (λ k. ap (λ z. maybe_known (get_or z k None)) e ∙ ap maybe_known (longer t k) ∙ f k)

-- and with one more definition it has what the list has with it
pub table_with : (tops : Tops) (t : List (Option Held_known)) (b : BindId) (s : Held_known) → Tabled tops t → b.0 < length t → Tabled ((b.0, known_of s) ∷ tops) (set t b.0 (Some s))
table_with tops t b s (tabled f) lt = tabled (λ k. at k (nat_eq b.0 k) refl)
  where
    at : (k : ℕ) (c : Bool) → nat_eq b.0 k ≡ c → maybe_known (get_or (set t b.0 (Some s)) k None) ≡ cond (nat_eq b.0 k) (Some (known_of s)) (look tops k)
    at k true q = ap (λ z. maybe_known (get_or (set t b.0 (Some s)) z None)) (sym (eqb-true b.0 k q)) ∙ ap maybe_known (get_or-set_same t b.0 (Some s) None lt) ∙ sym (ap (λ z. cond z (Some (known_of s)) (look tops k)) q)
    at k false q = ap maybe_known (get_or-set_other t b.0 k (Some s) None (λ e. false-eqb b.0 k (sym q) (sym e))) ∙ f k ∙ sym (ap (λ z. cond z (Some (known_of s)) (look tops k)) q)

pub empty_table : Tabled [] []
empty_table = tabled (λ k. refl)

behind_layer : (l : Defined-F Defined) (b : BindId) (s : Held_known) (ds : Bor Defined) → l ≡ Defined-F.Behind b s ds → defined_form (map-Defined Defined Tops definitions_of l) ≡ (b.0, known_of s) ∷ definitions_of ds.now
unfolding defined_form
behind_layer l b s ds e = rw e refl

pub no_definitions : definitions_of defined.Nothing ≡ []
unfolding definitions_of defined_form
no_definitions = fold_out-Defined Tops defined_form defined.Nothing ∙ ap (λ l. defined_form (map-Defined Defined Tops definitions_of l)) defined.outs-Nothing

pub one_more_definition : (b : BindId) (s : Held_known) (ds : Bor Defined) → definitions_of (defined.Behind b s ds) ≡ (b.0, known_of s) ∷ definitions_of ds.now
unfolding definitions_of
one_more_definition b s ds = fold_out-Defined Tops defined_form (defined.Behind b s ds) ∙ behind_layer _ b s ds (defined.outs-Behind b s ds)

pub ruleset tabling = (table_longer, table_with, empty_table, no_definitions, one_more_definition)
