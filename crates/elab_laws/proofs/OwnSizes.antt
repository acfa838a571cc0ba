-- The sizes that a definition names hide what stands outside: they stand among its local names.
use Rattle.std.proofs.Common.{◌≡◌, ℕ, ◌<◌, ◌≤◌, List, [], ◌∷◌, Bool, true, false, cond, Option, refl, ap, ◌∙◌, arith, length}
use Rattle.std.proofs.lemmas.Slice.Eq.{bytes_eq-Decides}
use Rattle.std.specs.Str.{bytes_eq}
use Rattle.fut_scalar.specs.declared.place.Place.{Place}
use Rattle.fut_ast.specs.Sorts.{Text, Path}
use Rattle.fut_ast.specs.declared.node.Label.{Label}
use Rattle.fut_flat.specs.Terms.{Parameter, Size_parameter, Type_parameter}
use Rattle.fut_meaning.specs.Found.{Sizing}
use Rattle.fut_meaning.specs.Uses.{Parameter_sizes}
use Rattle.fut_meaning.specs.Sources.{Named, Names_number, Names_nothing, Outside}
use Rattle.fut_meaning.specs.Resolved.{Locals, local_or, path_in, Sees_below, Sizes_hide, hide_none, hide_and}
use Rattle.elab_scopes.specs.Scopes.{Entry, a_value, a_type, a_world, Scope, value_at}
use Rattle.elab_scopes.specs.Resolve.{with_text, number_heads}
use Rattle.elab_laws.specs.Sourced.{named_of, is_size_name, hiding}
use Rattle.elab_laws.proofs.Grown.{more_text}
use Rattle.elab_laws.proofs.Readings.{Reads, entered}

abbrev in_locals : Locals → Text → Bool
in_locals [] x = false
in_locals (l ∷ ls) x = cond (bytes_eq l.0 x) true (in_locals ls x)

-- what has a name among the locals has it, whatever stands outside
hidden_or : (ls : Locals) (x : Text) (rest : Path) (a b : Named) → in_locals ls x ≡ true → local_or ls x rest a ≡ local_or ls x rest b
hidden_or [] x rest a b e = absurd (let z : false ≡ true = e in cc)
hidden_or (l ∷ ls) x rest a b e = either (bytes_eq l.0 x) e (hidden_or ls x rest a b)
  where
    either : (t : Bool) → cond t true (in_locals ls x) ≡ true → (in_locals ls x ≡ true → local_or ls x rest a ≡ local_or ls x rest b) → cond t (Names_number l.1 rest) (local_or ls x rest a) ≡ cond t (Names_number l.1 rest) (local_or ls x rest b)
    either true h k = refl
    either false h k = k h

newer : (t : Bool) {b : Bool} → b ≡ true → cond t true b ≡ true
newer true e = refl
newer false e = e

still_in : (es : List Entry) (ls : Locals) (x : Text) → in_locals ls x ≡ true → in_locals (entered es ls) x ≡ true
unfolding entered
still_in [] ls x e = e
still_in (a_value y b ∷ es) ls x e = still_in es ((y, b.0) ∷ ls) x (newer (bytes_eq y x) e)
still_in (a_type y b ∷ es) ls x e = still_in es ls x e
still_in (a_world w ∷ es) ls x e = still_in es ls x e

sizes_in : (hs : List (Parameter Label)) (made : List Text) (ls : Locals) (x : Text) → is_size_name hs x ≡ true → in_locals (entered (number_heads hs made).0.1 ls) x ≡ true
unfolding number_heads entered
sizes_in [] made ls x e = absurd (let z : false ≡ true = e in cc)
sizes_in (Size_parameter y ∷ hs) made ls x e = either (bytes_eq y.name x) refl e (sizes_in hs (with_text made y.name) ((y.name, length made) ∷ ls) x)
  where
    either : (t : Bool) → bytes_eq y.name x ≡ t → cond t true (is_size_name hs x) ≡ true → (is_size_name hs x ≡ true → in_locals (entered (number_heads hs (with_text made y.name)).0.1 ((y.name, length made) ∷ ls)) x ≡ true) → in_locals (entered (number_heads hs (with_text made y.name)).0.1 ((y.name, length made) ∷ ls)) x ≡ true
    either true i h k = still_in (number_heads hs (with_text made y.name)).0.1 ((y.name, length made) ∷ ls) x (ap (λ t. cond t true (in_locals ls x)) i)
    either false i h k = k h
sizes_in (Type_parameter y lifted ∷ hs) made ls x e = sizes_in hs (with_text made y.name) ls x e

pub reads_hiding : (hs : List (Parameter Label)) (made : List Text) {sc : Scope} {outside : Outside} → Reads sc (entered (number_heads hs made).0.1 []) outside → Reads sc (entered (number_heads hs made).0.1 []) (hiding hs outside)
reads_hiding hs made {sc} {outside} r = record { reads = reads; under = r.under }
  where
    same : (x : Text) (rest : Path) (t : Bool) → is_size_name hs x ≡ t → local_or (entered (number_heads hs made).0.1 []) x rest (outside (x ∷ rest)) ≡ local_or (entered (number_heads hs made).0.1 []) x rest (cond t Names_nothing (outside (x ∷ rest)))
    same x rest true e = hidden_or (entered (number_heads hs made).0.1 []) x rest _ _ (sizes_in hs made [] x e)
    same x rest false e = refl

    reads : (at : Place) (p : Path) → named_of (value_at sc at p) ≡ path_in (entered (number_heads hs made).0.1 []) (hiding hs outside) p
    reads at [] = r.reads at []
    reads at (x ∷ rest) = r.reads at (x ∷ rest) ∙ same x rest (is_size_name hs x) refl

pub sees_hiding : {n : ℕ} (hs : List (Parameter Label)) {outside : Outside} → Sees_below n outside → Sees_below n (hiding hs outside)
sees_hiding {n} hs {outside} s = record { below = below }
  where
    either : (x : Text) (more rest : Path) (k : ℕ) (t : Bool) → cond t Names_nothing (outside (x ∷ more)) ≡ Names_number k rest → k < n
    either x more rest k true e = absurd (let z : Names_nothing ≡ Names_number k rest = e in cc)
    either x more rest k false e = s.below (x ∷ more) rest k e

    below : (p rest : Path) (k : ℕ) → hiding hs outside p ≡ Names_number k rest → k < n
    below [] rest k e = s.below [] rest k e
    below (x ∷ more) rest k e = either x more rest k (is_size_name hs x) e

-- ---- with their numbers

abbrev All_hidden : Outside → List (Parameter Label) → Type 0
All_hidden outside [] = Unit {0}
All_hidden outside (Size_parameter y ∷ hs) = ((rest : Path) → outside (y.name ∷ rest) ≡ Names_nothing) × All_hidden outside hs
All_hidden outside (Type_parameter y lifted ∷ hs) = All_hidden outside hs

all_hidden : (gs hs : List (Parameter Label)) (outside : Outside) → ((x : Text) → is_size_name hs x ≡ true → is_size_name gs x ≡ true) → All_hidden (hiding gs outside) hs
all_hidden gs [] outside f = tt
all_hidden gs (Size_parameter y ∷ hs) outside f = (
  λ rest. ap (λ t. cond t Names_nothing (outside (y.name ∷ rest))) (f y.name (ap (λ t. cond t true (is_size_name hs y.name)) ((bytes_eq-Decides y.name y.name).1 refl))),
  all_hidden gs hs outside (λ x e. f x (newer (bytes_eq y.name x) e)),
)
all_hidden gs (Type_parameter y lifted ∷ hs) outside f = all_hidden gs hs outside f

module _ {z : Option Sizing} {n : ℕ} {outside : Outside} where
  hide_up : {m m' : ℕ} {ls : Locals} → m ≤ m' → Sizes_hide z n outside ls m → Sizes_hide z n outside ls m'
  hide_up le (hide_none a) = hide_none (omega (arith, le, a))
  hide_up le (hide_and r h is a b) = hide_and r h is a (omega (arith, le, b))

  heads_hide : (hs : List (Parameter Label)) (made : List Text) {ls : Locals} → All_hidden outside hs → Parameter_sizes z (number_heads hs made).0.0 → Sizes_hide z n outside ls (length made) → Sizes_hide z n outside (entered (number_heads hs made).0.1 ls) (length (number_heads hs made).1)
  unfolding number_heads entered
  heads_hide [] made a s r = r
  heads_hide (Size_parameter y ∷ hs) made a s r = heads_hide hs (with_text made y.name) a.1 s.1 (hide_and r a.0 s.0 (omega arith) (omega (arith, more_text made y.name)))
  heads_hide (Type_parameter y lifted ∷ hs) made a s r = heads_hide hs (with_text made y.name) a s (hide_up (omega (arith, more_text made y.name)) r)

pub sizes_hide : {z : Option Sizing} {n : ℕ} (hs : List (Parameter Label)) (made : List Text) (outside : Outside) → n ≤ length made → Parameter_sizes z (number_heads hs made).0.0 → Sizes_hide z n (hiding hs outside) (entered (number_heads hs made).0.1 []) (length (number_heads hs made).1)
sizes_hide hs made outside le s = heads_hide hs made (all_hidden hs hs outside (λ x e. e)) s (hide_none le)
